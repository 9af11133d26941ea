-- Which plain value of the model each value of this crate stands for, and when an answer is the model's.
use Rattle.std.specs.Prelude.{◌≡◌, ℕ, List, Option, None, Some, Result, Ok, Err}
use Rattle.conf_file.specs.View as files
use Rattle.conf_settings.specs.View.{fault_view}
use Rattle.lilo_conf.specs.View.{config_view}
use Rattle.lilo_conf.specs.declared.config.Config.{Config}
use Rattle.lilo_model.specs.Checks.{with_fault}
use Rattle.lilo_model.specs.ConfRefusal.{ConfRefusal}
use Rattle.lilo_model.specs.ConfVerdict.{volume_refusal}
use Rattle.lilo_model.specs.Refusal as refusals
use Rattle.lilo_model.specs.Refusal.{Refusal}
use Rattle.lilo_model.specs.VolumeSearch as model
use Rattle.mbr_table.specs.View.{device_view, span_view}
use Rattle.mbr_table.specs.declared.device.Device.{Device}
use Rattle.minix_search.specs.View.{located_view}
use Rattle.minix_search.specs.declared.search.Located.{Located}
use Rattle.install_begin.specs.Begin as begins
use Rattle.install_begin.specs.declared.fault.BeginFault.{BeginFault}
use Rattle.install_begin.specs.declared.fault.BeginFault.TheVariants.{File, Text}
use Rattle.install_begin.specs.declared.reading.Begun.{Begun}

-- a configuration with its boot device
abbrev pub named_view : Config → Device → begins.Named
named_view config device = record { config = config_view config; boot = device_view device }

-- what was read
abbrev pub begun_view : Begun → begins.Begun
begun_view begun = record { volume = span_view begun.volume; named = named_view begun.config begun.device; span = span_view begun.boot }

-- a text was refused as the model refuses it, or there was no memory
abbrev pub RefusesText : {A : Type 0} → Option ConfRefusal → Result A Refusal → Type 0
RefusesText None given = Unit {0}
RefusesText (Some refusal) given = given ≡ Err (refusals.Config refusal)

-- what was read was refused as the model refuses it, or a disk failed, or there was no memory
abbrev pub Refuses : {A : Type 0} → List ℕ → BeginFault → Result A Refusal → Type 0
Refuses path (File fault) given = files.Refuses path fault given
Refuses path (Text fault) given = RefusesText (fault_view fault) given

-- the cause: where a disk failed, the count of faults rose
abbrev pub HasBeginCause : ℕ → ℕ → BeginFault → Type 0
HasBeginCause before now (File fault) = files.HasCause before now fault
HasBeginCause before now (Text fault) = Unit {0}

-- the volume lies where the model finds it, or it was refused so
abbrev pub GivesLocated : List ℕ → Result Located BeginFault → Result model.Located model.VolumeFault → Type 0
GivesLocated path (Ok place) given = given ≡ Ok (located_view place)
GivesLocated path (Err fault) given = Refuses path fault (with_fault volume_refusal given)

-- a configuration was read as the model reads it, or it was refused so
abbrev pub GivesNamed : List ℕ → Result (Config × Device) BeginFault → Result begins.Named Refusal → Type 0
GivesNamed path (Ok (config, device)) given = given ≡ Ok (named_view config device)
GivesNamed path (Err fault) given = Refuses path fault given

-- all was
abbrev pub GivesBegun : List ℕ → Result Begun BeginFault → Result begins.Begun Refusal → Type 0
GivesBegun path (Ok begun) given = given ≡ Ok (begun_view begun)
GivesBegun path (Err fault) given = Refuses path fault given

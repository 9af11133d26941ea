-- What is read step by step, and how it is refused.
use Rattle.std.proofs.Common.{◌≡◌, ℕ, List, Option, None, Some, Result, Ok, Err, refl, ap}
use Rattle.lilo_model.specs.Checks.{◌>>=◌, with_fault}
use Rattle.lilo_model.specs.Conf.{Config, conf_at}
use Rattle.lilo_model.specs.ConfLawful.{IsLawful, names_of_config}
use Rattle.lilo_model.specs.ConfRefusal.{ConfRefusal}
use Rattle.lilo_model.specs.ConfVerdict.{ConfFile, volume_refusal, conf_file, file_on, place_at}
use Rattle.lilo_model.specs.Devices.{Device, IsDevice}
use Rattle.lilo_model.specs.Disks.{Image, Machine, Span, DiskSector}
use Rattle.lilo_model.specs.MinixParts as model
use Rattle.lilo_model.specs.MinixParts.{Layout, parts_of, volume_at, volume_with}
use Rattle.lilo_model.specs.MinixWalk.{visits}
use Rattle.lilo_model.specs.Partitions.{span_of}
use Rattle.lilo_model.specs.Plan.{Plan}
use Rattle.lilo_model.specs.Refusal as refusals
use Rattle.lilo_model.specs.Refusal.{Refusal, DeviceFault}
use Rattle.lilo_model.specs.Settled.{OwnNames}
use Rattle.lilo_model.specs.VolumeSearch as search
use Rattle.lilo_model.specs.VolumeSearch.{Located, VolumeFault, volume_place}
use Rattle.write_model.specs.Wish as rooms
use Rattle.conf_file.specs.declared.file_fault.FileFault.TheVariants as files
use Rattle.conf_settings.specs.View.{fault_view}
use Rattle.conf_settings.specs.declared.reason.ConfFault.{ConfFault}
use Rattle.lilo_conf.specs.Gives as texts
use Rattle.install_laws.specs.InstallVerdict as installs
use Rattle.install_laws.specs.InstallVerdict.{Answer, InstallRefusal, Reading, begun_by, boot_device, install_answer, install_checks, test_room, test_text, test_verdict, verdict_by}
use Rattle.mbr_table.specs.Gives as placed
use Rattle.mbr_table.specs.declared.table_fault.TableFault.{TableFault}
use Rattle.mbr_table.specs.declared.table_fault.TableFault.TheVariants as tables
use Rattle.minix_search.specs.View as found
use Rattle.install_begin.specs.Begin.{Named, Begun, answer_on, begun_at, begun_on, named_by, named_conf, named_in, placed_by, test_on}
use Rattle.install_begin.specs.Laws.{AnswerLaw, TestLaw}
use Rattle.install_begin.specs.View.{Refuses, RefusesText}
use Rattle.install_begin.specs.declared.fault.BeginFault.{BeginFault}
use Rattle.install_begin.specs.declared.fault.BeginFault.TheVariants.{File, Text}

-- ---- the model's reading, step by step

module _ (image : Image) (machine : Machine) (room : installs.Begun → OwnNames → Plan → Result (List DiskSector) rooms.Refusal) (time : ℕ) (path : List ℕ) where
  abbrev read-as : Located → Config → Span → model.Volume → installs.Begun
  read-as place config span volume = record {
    volume = volume;
    config = record config { boot = Some (boot_device config place.device) };
    boot = boot_device config place.device;
    span = span;
  }

  abbrev checks : installs.Begun → Result Answer InstallRefusal
  checks begun = install_checks image machine (visits begun.volume.layout (parts_of begun.volume image)) (room begun) time begun

  -- what the model reads once the boot device is looked for, the text of the configuration is read, and so on
  abbrev whole-in : Located → Config → Span → Result model.Volume model.ZoneFault → Result installs.Begun Refusal
  whole-in place config span given = with_fault (λ fault. refusals.Layout) given >>= λ volume. Ok (read-as place config span volume)

  abbrev whole-at : Located → Config → Result Span DeviceFault → Result installs.Begun Refusal
  whole-at place config given = with_fault refusals.Device given >>= λ span. whole-in place config span (volume_at image place.span)

  abbrev whole-by : Located → Result Config ConfRefusal → Result installs.Begun Refusal
  whole-by place given = with_fault refusals.Config given >>= λ config. whole-at place config (place_at image machine (boot_device config place.device))

  abbrev whole-of : Located → Result (List ℕ) Refusal → Result installs.Begun Refusal
  whole-of place given = given >>= λ text. whole-by place (conf_at text)

  -- and what is read step by step
  abbrev step-at : Located → Named → Result Span DeviceFault → Result Begun Refusal
  step-at place named given = with_fault refusals.Device given >>= λ span. Ok (record { volume = place.span; named = named; span = span })

  abbrev step-by : Located → Result Named Refusal → Result Begun Refusal
  step-by place given = given >>= λ named. step-at place named (place_at image machine named.boot)

  abbrev step-of : Located → Result (List ℕ) Refusal → Result Begun Refusal
  step-of place given = step-by place ((given >>= λ text. Ok (record { device = place.device; text = text })) >>= λ (file : ConfFile). with_fault refusals.Config (conf_at file.text) >>= λ config. Ok (named_by config file.device))

  by-volume : (place : Located) (config : Config) (span : Span) (given : Result model.Volume model.ZoneFault)
      → (with_fault Reading (whole-in place config span given) >>= checks)
      ≡ (with_fault (λ fault. Reading refusals.Layout) given >>= λ volume. checks (read-as place config span volume))
  by-volume place config span (Ok volume) = refl
  by-volume place config span (Err fault) = refl

  by-place : (place : Located) (config : Config) (given : Result Span DeviceFault)
      → (with_fault Reading (whole-at place config given) >>= checks)
      ≡ (with_fault Reading (step-at place (named_by config place.device) given) >>= answer_on room image machine time)
  by-place place config (Ok span) = by-volume place config span (volume_at image place.span)
  by-place place config (Err fault) = refl

  by-config : (place : Located) (given : Result Config ConfRefusal)
      → (with_fault Reading (whole-by place given) >>= checks)
      ≡ (with_fault Reading (step-by place (with_fault refusals.Config given >>= λ config. Ok (named_by config place.device))) >>= answer_on room image machine time)
  by-config place (Ok config) = by-place place config (place_at image machine (boot_device config place.device))
  by-config place (Err fault) = refl

  by-text : (place : Located) (given : Result (List ℕ) Refusal)
      → (with_fault Reading (whole-of place given) >>= checks) ≡ (with_fault Reading (step-of place given) >>= answer_on room image machine time)
  by-text place (Ok text) = by-config place (conf_at text)
  by-text place (Err refusal) = refl

  module _ (root : Option Device) where
    by-search : (given : Result Located VolumeFault) → volume_place image machine root ≡ given
        → (with_fault Reading (with_fault volume_refusal given >>= λ place. whole-of place (file_on image place.span path)) >>= checks)
        ≡ (with_fault Reading (with_fault volume_refusal given >>= begun_on image machine root path) >>= answer_on room image machine time)
    unfolding begun_on named_conf conf_file
    by-search (Ok place) is = rw is (by-text place (file_on image place.span path))
    by-search (Err fault) is = refl

    -- an answer is that of what was read
    answer-read : install_answer image machine root path room time
        ≡ (with_fault Reading (begun_at image machine root path) >>= answer_on room image machine time)
    unfolding install_answer begun_by begun_at
    answer-read = by-search (volume_place image machine root) refl

pub answer_law : AnswerLaw
answer_law image machine root path room time = answer-read image machine room time path root

pub test_law : TestLaw
unfolding test_verdict test_on
test_law image machine root path time = ap (verdict_by test_text) (answer_law image machine root path (test_room image machine time) time)

-- ---- refusals

-- where the volume isn't found
pub no_place : (path : List ℕ) (fault : TableFault) (given : Result Located VolumeFault) → found.Tells fault (λ told. Err (search.Place told)) given
    → Refuses path (File (files.Place fault)) (with_fault volume_refusal given)
no_place path tables.Device given tells = tt
no_place path (tables.NoSignature sector) given tells = rw tells refl
no_place path (tables.OutsideDisk number) given tells = rw tells refl
no_place path (tables.LoopedChain sector) given tells = rw tells refl
no_place path tables.TooMany given tells = rw tells refl
no_place path tables.UnknownDevice given tells = rw tells refl
no_place path (tables.NoPartition number) given tells = rw tells refl
no_place path (tables.NoDisk disk) given tells = rw tells refl

-- or the boot device
pub no_span : {A : Type 0} → (path : List ℕ) (fault : TableFault) (image : Image) (machine : Machine) (device : Device) (next : Span → Result A Refusal)
    → placed.Refuses fault (span_of image machine device)
    → Refuses path (File (files.Place fault)) (with_fault refusals.Device (place_at image machine device) >>= next)
unfolding place_at
no_span path tables.Device image machine device next refuses = tt
no_span path (tables.NoSignature sector) image machine device next refuses = rw refuses refl
no_span path (tables.OutsideDisk number) image machine device next refuses = rw refuses refl
no_span path (tables.LoopedChain sector) image machine device next refuses = rw refuses refl
no_span path tables.TooMany image machine device next refuses = rw refuses refl
no_span path tables.UnknownDevice image machine device next refuses = rw refuses refl
no_span path (tables.NoPartition number) image machine device next refuses = rw refuses refl
no_span path (tables.NoDisk disk) image machine device next refuses = rw refuses refl

pub some_span : (image : Image) (machine : Machine) (volume : Span) (named : Named) (span : Span) → span_of image machine named.boot ≡ Ok span
    → placed_by image machine volume named ≡ Ok (record { volume = volume; named = named; span = span })
unfolding place_at
some_span image machine volume named span is = rw is refl

-- what refuses a check refuses all that come after it
pub refused_later : {A B : Type 0} → (path : List ℕ) (fault : BeginFault) (given : Result A Refusal) (next : A → Result B Refusal)
    → Refuses path fault given → Refuses path fault (given >>= next)
refused_later path (File files.NoVolume) given next refuses = rw refuses refl
refused_later path (File (files.Place fault)) given next refuses = by fault refuses
  where
    by : (fault : TableFault) → Refuses path (File (files.Place fault)) given → Refuses path (File (files.Place fault)) (given >>= next)
    by tables.Device refuses = tt
    by (tables.NoSignature sector) refuses = rw refuses refl
    by (tables.OutsideDisk number) refuses = rw refuses refl
    by (tables.LoopedChain sector) refuses = rw refuses refl
    by tables.TooMany refuses = rw refuses refl
    by tables.UnknownDevice refuses = rw refuses refl
    by (tables.NoPartition number) refuses = rw refuses refl
    by (tables.NoDisk disk) refuses = rw refuses refl
refused_later path (File files.Device) given next refuses = tt
refused_later path (File files.Layout) given next refuses = rw refuses refl
refused_later path (File files.Missing) given next refuses = rw refuses refl
refused_later path (File files.BadPath) given next refuses = rw refuses refl
refused_later path (File files.Memory) given next refuses = tt
refused_later path (Text fault) given next refuses = by (fault_view fault) refuses
  where
    by : (view : Option ConfRefusal) → RefusesText view given → RefusesText view (given >>= next)
    by None refuses = tt
    by (Some refusal) refuses = rw refuses refl

-- a text that is refused, or for which there is no memory
pub refused_text : (path text : List ℕ) (device : Device) (fault : ConfFault) → texts.Refuses (fault_view fault) fault (conf_at text)
    → Refuses path (Text fault) (named_in text device)
refused_text path text device fault refuses = by (fault_view fault) refuses
  where
    by : (view : Option ConfRefusal) → texts.Refuses view fault (conf_at text) → RefusesText view (named_in text device)
    by None refuses = tt
    by (Some refusal) refuses = rw refuses refl

-- ---- the configuration

-- a configuration that may be carried out may be with another boot device
pub lawful_named : (config : Config) (device : Device) → IsLawful config → IsDevice device → IsLawful (record config { boot = Some device })
unfolding names_of_config
lawful_named config device lawful named = record {
  boot = named;
  map = lawful.map;
  install = lawful.install;
  backup = lawful.backup;
  force_backup = lawful.force_backup;
  message = lawful.message;
  delay = lawful.delay;
  timeout = lawful.timeout;
  one_backup = lawful.one_backup;
  disks = lawful.disks;
  disks_apart = lawful.disks_apart;
  some = lawful.some;
  sections = lawful.sections;
  few_names = lawful.few_names;
  names_apart = lawful.names_apart;
  default_name = lawful.default_name;
}

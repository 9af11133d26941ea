-- What is apart stays so once settling is done (rules of this project's own).
use Rattle.std.specs.Prelude.{◌≡◌, Bool, is_some, Ok}
use Rattle.std.specs.List.{AllByRecursion}
use Rattle.lilo_model.specs.Apart.{Apart, other_devices, table_devices}
use Rattle.lilo_model.specs.Conf.{Config}
use Rattle.lilo_model.specs.Devices.{Device}
use Rattle.lilo_model.specs.Disks.{Image, Machine}
use Rattle.lilo_model.specs.MinixNames.{names_in, IsSound}
use Rattle.lilo_model.specs.MinixParts.{Volume}
use Rattle.lilo_model.specs.Partitions.{span_of}
use Rattle.lilo_model.specs.Settled.{OwnNames, own_names, settled}
use Rattle.install_apart.specs.Apart.{device_checks}
use Rattle.install_settle.specs.Settles.{HasNames, KeepsPaths, KeepsMap, stale_of}

-- ---- names

-- In a sound image the names that an installation replaces are settled: Names are, other paths lead where they led, and `map`
-- where it led, or where `map~` did, where a rename was finished.
pub record HasSettled (volume : Volume) (old c : Image) (names : OwnNames) (forced finishes : Bool) : Type 0 where
  pub sound : IsSound volume c
  pub has : HasNames volume c (settled finishes names.map (stale_of forced names) (names_in volume old))
  pub paths : KeepsPaths volume old names forced c
  pub file : KeepsMap volume old names finishes c

-- ---- devices

-- a device lies where it lay
abbrev pub LiesAsIn : Image → Image → Machine → Device → Type 0
LiesAsIn old c machine device = span_of c machine device ≡ span_of old machine device

-- so do the device that is to boot, and those that a configuration's sections name
pub record KeepsDevices (old c : Image) (machine : Machine) (config : Config) (device : Device) : Type 0 where
  pub boots : LiesAsIn old c machine device
  pub others : AllByRecursion (LiesAsIn old c machine) (other_devices config)
  pub tables : AllByRecursion (LiesAsIn old c machine) (table_devices config)

-- ---- the law

-- devices that lie where they lay are apart where they were
abbrev pub KeptDevicesLaw : Type 0
KeptDevicesLaw =
    (old c : Image) (machine : Machine) (volume : Volume) (config : Config) (device : Device)
    → KeepsDevices old c machine config device → Apart old machine volume config device
    → device_checks c machine volume config device ≡ Ok tt

-- then a configuration that was apart is so still, where its devices are
abbrev pub SettledApartLaw : Type 0
SettledApartLaw =
    (old c : Image) (machine : Machine) (volume : Volume) (config : Config) (device : Device) (foreign finishes : Bool) (names : OwnNames)
    → IsSound volume old → own_names (names_in volume old) config device foreign ≡ Ok names
    → HasSettled volume old c names (is_some config.force_backup) finishes → device_checks c machine volume config device ≡ Ok tt
    → Apart old machine volume config device → Apart c machine volume config device

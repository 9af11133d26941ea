-- What a staged map needs of Apart (a rule of this project's own).
use Rattle.std.specs.Prelude.{◌≡◌, true}
use Rattle.std.specs.List.{list_all}
use Rattle.lilo_model.specs.Apart.{Apart, is_apart_device, other_devices, table_devices}
use Rattle.lilo_model.specs.Conf.{Config}
use Rattle.lilo_model.specs.Devices.{Device}
use Rattle.lilo_model.specs.Disks.{Image, Machine}
use Rattle.lilo_model.specs.MinixParts.{Volume}

-- the part of Apart on devices: the first sectors of the device that is to boot, and of those that sections name, are none of
-- the volume's past its block 0
pub record AreDevicesApart (image : Image) (machine : Machine) (volume : Volume) (config : Config) (device : Device) : Type 0 where
  pub boots : is_apart_device image machine volume device ≡ true
  pub others : list_all (is_apart_device image machine volume) (other_devices config) ≡ true
  pub tables : list_all (is_apart_device image machine volume) (table_devices config) ≡ true

-- where a configuration is apart, its devices are
abbrev pub ApartDevicesLaw : Type 0
ApartDevicesLaw =
    (image : Image) (machine : Machine) (volume : Volume) (config : Config) (device : Device)
    → Apart image machine volume config device → AreDevicesApart image machine volume config device

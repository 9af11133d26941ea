-- What an installation begins with, as the model has it.
use Rattle.disk_trait.specs.declared.disks.Disks.{Ghosts}
use Rattle.disk_trait.specs.declared.disks.Span.{Span}
use Rattle.lilo_conf.specs.View.{config_view}
use Rattle.lilo_conf.specs.declared.config.Config.{Config}
use Rattle.mbr_table.specs.View.{device_view}
use Rattle.mbr_table.specs.declared.device.Device.{Device}
use Rattle.minix_zones.specs.View.{span_view}
use Rattle.minix_zones.specs.Volume.{volume_view}
use Rattle.minix_zones.specs.declared.volume.Volume.{Volume}
use Rattle.install_laws.specs.InstallVerdict.{Begun}

-- the volume, the configuration, the boot device and where it lies, as the model has them
abbrev pub begun_of : {D : Type 0} {disks : Ghosts D} → Volume D disks → Config → Device → Span → Begun
begun_of volume config device span = record {
  volume = volume_view volume;
  config = config_view config;
  boot = device_view device;
  span = span_view span;
}

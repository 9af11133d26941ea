-- A section by its kind.
use Rattle.std.proofs.Common.{◌≡◌, Some, None, Ok, ap}
use Rattle.lilo_model.specs.Checks.{◌>>=◌}
use Rattle.lilo_model.specs.Disks.{Image, Machine}
use Rattle.lilo_model.specs.Devices.{Device}
use Rattle.lilo_model.specs.Conf.{ConfSection}
use Rattle.lilo_model.specs.MinixParts.{Volume, parts_of}
use Rattle.map_plan.specs.Devices.{system_planned, system_section}
use Rattle.map_plan.specs.Files.{kernel_planned}
use Rattle.map_plan.specs.Sections.{planned_by, section_planned}

module _ (image : Image) (machine : Machine) (volume : Volume) (section : ConfSection) where
  -- another system's
  pub section-system : (device : Device) → section.other ≡ Some device
      → section_planned image machine volume section
      ≡ (system_planned image machine device section.table >>= λ places. Ok (system_section section places))
  unfolding section_planned
  section-system device is = ap (planned_by image machine volume section) is

  -- a kernel's
  pub section-kernel : section.other ≡ None → section_planned image machine volume section ≡ kernel_planned volume (parts_of volume image) section
  unfolding section_planned
  section-kernel is = ap (planned_by image machine volume section) is

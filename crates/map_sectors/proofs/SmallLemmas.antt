-- The files of each section of a plan are small: their bytes are counted in 32 bits.
use Rattle.std.proofs.Common.{◌*◌, ◌<◌, ◌^◌, List, [], ◌∷◌, length, Option, None, Some, arith}
use Rattle.std.specs.Prelude.{IfSome}
use Rattle.std.specs.Option.{option_map}
use Rattle.std.specs.List.{AllByRecursion}
use Rattle.lilo_model.specs.Disks.{DiskSector}
use Rattle.file_runs.specs.declared.mapped.FileRuns.{FileRuns}
use Rattle.file_runs.specs.Mapped.{file_view}
use Rattle.map_laws.specs.Accepted.{IsSmall, AreSmall}
use Rattle.map_plan.specs.declared.section.PlannedSection.{PlannedSection}
use Rattle.map_plan.specs.declared.section.SectionFiles.{SectionFiles}
use Rattle.map_plan.specs.declared.section.SectionFiles.TheVariants.{Kernel, System}
use Rattle.map_plan.specs.Devices.{places_with, system_file}
use Rattle.map_plan.specs.Sections.{main_view, initrd_view, planned_view, planned_views}
use Rattle.map_sectors.specs.declared.map.MapPlan.{MapPlan}
use Rattle.map_sectors.specs.Map.{plan_view}

some-small : (file : Option FileRuns) → IfSome (option_map file_view file) IsSmall
some-small None = tt
some-small (Some file) = file.small

-- those of another system are one sector or two
system-small : (first : DiskSector) (table : Option DiskSector) → IsSmall (system_file (places_with first table))
system-small first None = omega arith
system-small first (Some table) = omega arith

main-small : (files : SectionFiles) → IsSmall (main_view files)
main-small (Kernel files) = files.main.small
main-small (System sectors) = system-small _ _

initrd-small : (files : SectionFiles) → IfSome (initrd_view files) IsSmall
initrd-small (Kernel files) = some-small files.initrd
initrd-small (System sectors) = tt

all-small : (sections : List PlannedSection) → AllByRecursion AreSmall (planned_views sections)
all-small [] = tt
all-small (planned ∷ sections) = ((main-small planned.files, initrd-small planned.files), all-small sections)

pub plan_small : (plan : MapPlan) → AllByRecursion AreSmall (plan_view plan).sections
plan_small plan = all-small plan.files.sections.items

-- What the checks of a plan leave of it: each sector that it maps has a slot, and its texts are short.
use Rattle.std.specs.Prelude.{◌≡◌, ◌≤◌, length, IfSome, Ok}
use Rattle.std.specs.Option.{option_map}
use Rattle.std.specs.List.{AllByRecursion}
use Rattle.lilo_model.specs.Disks.{Machine}
use Rattle.lilo_model.specs.ConfOptions.{Opt}
use Rattle.lilo_model.specs.ConfLawful.{IsLawfulSection}
use Rattle.lilo_model.specs.Plan.{MappedFile, kept_middle}
use Rattle.lilo_model.specs.PlanRefusal.{mapped_file_check}
use Rattle.lilo_conf.specs.View.{config_view, section_view}
use Rattle.file_runs.specs.Mapped.{file_view}
use Rattle.map_plan.specs.declared.section.PlannedSection.{PlannedSection}
use Rattle.map_plan.specs.declared.section.SectionFiles.{SectionFiles}
use Rattle.map_plan.specs.declared.section.SectionFiles.TheVariants.{Kernel, System}
use Rattle.map_plan.specs.Named.{LiesOnDisk}
use Rattle.map_sectors.specs.declared.map.MapPlan.{MapPlan}
use Rattle.map_sectors.specs.Map.{HasGeometries}

-- a file's sectors lie on the plan's disk, each has a slot, and these aren't too many
pub record IsNamed (machine : Machine) (plan : MapPlan) (file : MappedFile) : Type 0 where
  pub lies : LiesOnDisk plan.disk file
  pub option : Opt
  pub check : mapped_file_check (config_view plan.config) machine option file ≡ Ok tt

-- so of the files of a section
abbrev pub AreNamed : Machine → MapPlan → SectionFiles → Type 0
AreNamed machine plan (Kernel files) =
    IsNamed machine plan (file_view files.main) × IfSome (option_map file_view files.initrd) (IsNamed machine plan)
AreNamed machine plan (System sectors) = Unit {0}

-- and its texts are those of its section, and short
pub record IsAccepted (machine : Machine) (plan : MapPlan) (planned : PlannedSection) : Type 0 where
  pub files : AreNamed machine plan planned.files
  pub middle : planned.middle ≡ kept_middle (section_view planned.section)
  pub lawful : IsLawfulSection (section_view planned.section)
  pub short : length planned.middle ≤ 255

-- a plan is for a machine: its disks are divided so, and what is asked of the plan's files and texts holds on it
pub record IsFor (machine : Machine) (plan : MapPlan) : Type 0 where
  pub geometries : HasGeometries machine plan.geometries
  pub message : IfSome (option_map file_view plan.files.message) (IsNamed machine plan)
  pub message_short : IfSome plan.files.message (λ file. file.size ≤ 65535)
  pub sections : AllByRecursion (IsAccepted machine plan) plan.files.sections.items
  pub names : length plan.files.names ≤ 19

-- How sections are mapped on a sound volume, or why they are refused.
use Rattle.std.specs.Prelude.{◌≡◌, ℕ, List, [], ◌∷◌, ◌++◌, map, flat_map, IsSome, Option, Some, None, Result, Ok}
use Rattle.std.specs.Option.{option_map}
use Rattle.lilo_model.specs.Checks.{◌>>=◌}
use Rattle.lilo_model.specs.Disks.{Image, Machine}
use Rattle.lilo_model.specs.Devices.{Device}
use Rattle.lilo_model.specs.Conf.{ConfSection}
use Rattle.lilo_model.specs.ConfLawful.{IsLawfulSection}
use Rattle.lilo_model.specs.MinixParts.{Volume, parts_of}
use Rattle.lilo_model.specs.Plan.{MappedFile, MappedSection, kept_middle}
use Rattle.lilo_model.specs.Planned.{mapped_section}
use Rattle.lilo_model.specs.PlanRefusal.{PlanFault, section_check, each_passes}
use Rattle.lilo_conf.specs.declared.section.Section.{Section}
use Rattle.lilo_conf.specs.View.{section_view}
use Rattle.file_runs.specs.Mapped.{file_view}
use Rattle.map_plan.specs.declared.section.PlannedSection.{PlannedSection}
use Rattle.map_plan.specs.declared.section.SectionFiles.{SectionFiles}
use Rattle.map_plan.specs.declared.section.SectionFiles.TheVariants.{Kernel, System}
use Rattle.map_plan.specs.Devices.{system_planned, system_section, sectors_view, system_file, HasDisks, IsThereIn}
use Rattle.map_plan.specs.Files.{kernel_planned, passed, AllFiles, HasFewPlaces, HasRuns}

-- a section by the device of another system: what is mapped of it, nothing where it is omitted, or the first refusal
abbrev pub planned_by : Image → Machine → Volume → ConfSection → Option Device → Result (List MappedSection) PlanFault
planned_by image machine volume section (Some device) =
    system_planned image machine device section.table >>= λ places. Ok (system_section section places)
planned_by image machine volume section None = kernel_planned volume (parts_of volume image) section

-- the same of a section
unfoldable pub section_planned : Image → Machine → Volume → ConfSection → Result (List MappedSection) PlanFault
section_planned image machine volume section = planned_by image machine volume section section.other

-- the same of all sections, in order
abbrev pub sections_planned : Image → Machine → Volume → List ConfSection → Result (List MappedSection) PlanFault
sections_planned image machine volume [] = Ok []
sections_planned image machine volume (section ∷ sections) =
    section_planned image machine volume section
    >>= λ here. sections_planned image machine volume sections
    >>= λ others. Ok (here ++ others)

-- what is found of a section, after what was found of others
abbrev pub with_section : List MappedSection → Result (List MappedSection) PlanFault → Result (List MappedSection) PlanFault
with_section before found = found >>= λ here. Ok (before ++ here)

-- ---- these are the model's

-- what is refused of a section is what is checked of it, and what is found is what is mapped
pub record IsSectionPlan (image : Image) (machine : Machine) (volume : Volume) (section : ConfSection) : Type 0 where
  pub check : section_check image machine volume section section.other ≡ passed (section_planned image machine volume section)
  pub mapped : (found : List MappedSection) → section_planned image machine volume section ≡ Ok found
      → mapped_section image machine volume section ≡ found

abbrev pub SectionPlanLaw : Type 0
SectionPlanLaw = (image : Image) (machine : Machine) (volume : Volume) (section : ConfSection) → IsSectionPlan image machine volume section

-- the same of all
pub record AreSectionPlans (image : Image) (machine : Machine) (volume : Volume) (sections : List ConfSection) : Type 0 where
  pub check :
      each_passes (λ section. section_check image machine volume section section.other) sections
      ≡ passed (sections_planned image machine volume sections)
  pub mapped : (found : List MappedSection) → sections_planned image machine volume sections ≡ Ok found
      → flat_map (mapped_section image machine volume) sections ≡ found

abbrev pub SectionPlansLaw : Type 0
SectionPlansLaw = (image : Image) (machine : Machine) (volume : Volume) (sections : List ConfSection) → AreSectionPlans image machine volume sections

-- a section that isn't omitted, as it is mapped
abbrev pub IsPlannedIn : Image → Machine → Volume → MappedSection → Type 0
IsPlannedIn image machine volume mapped = section_planned image machine volume mapped.section ≡ Ok (mapped ∷ [])

-- ---- what was read

-- the main file of a section, or its devices' sectors
abbrev pub main_view : SectionFiles → MappedFile
main_view (Kernel files) = file_view files.main
main_view (System sectors) = system_file (sectors_view sectors)

-- its initial ramdisk
abbrev pub initrd_view : SectionFiles → Option MappedFile
initrd_view (Kernel files) = option_map file_view files.initrd
initrd_view (System sectors) = None

-- a section with these files, if it isn't omitted
abbrev pub files_view : Section → Option SectionFiles → List MappedSection
files_view section None = []
files_view section (Some files) =
    record { section = section_view section; main = main_view files; initrd = initrd_view files } ∷ []

-- a section that isn't omitted
abbrev pub planned_view : PlannedSection → MappedSection
planned_view planned = record { section = section_view planned.section; main = main_view planned.files; initrd = initrd_view planned.files }

-- some of them
abbrev pub planned_views : List PlannedSection → List MappedSection
planned_views sections = map planned_view sections

-- a section, if it isn't omitted
abbrev pub found_view : Option PlannedSection → List MappedSection
found_view None = []
found_view (Some planned) = planned_view planned ∷ []

-- what was found is of the section's kind, and its sectors are there
abbrev pub FitsKind : (ℕ → ℕ) → Section → SectionFiles → Type 0
FitsKind sizes section (Kernel files) = (section.other ≡ None) × AllFiles HasFewPlaces files × AllFiles HasRuns files
FitsKind sizes section (System sectors) = IsSome section.other × HasDisks sectors × IsThereIn sizes sectors.first

-- so of a section that isn't omitted, with the middle of its command line
pub record FitsSection (sizes : ℕ → ℕ) (planned : PlannedSection) : Type 0 where
  pub kind : FitsKind sizes planned.section planned.files
  pub middle : planned.middle ≡ kept_middle (section_view planned.section)
  pub lawful : IsLawfulSection (section_view planned.section)

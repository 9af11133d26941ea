-- What is so of the files of each plan: they lie on the disks 0 to 3. Each of these facts has one proof at most.
use Rattle.std.specs.Prelude.{All, IfSome, List, [], ◌∷◌, slice_index_or, Option, None, Some}
use Rattle.std.specs.List.{AllByRecursion}
use Rattle.std.specs.Coded.{×_prop, Π_prop, Unit-prop, le_prop}
use Rattle.slot_lists.specs.declared.runs.Run.{Run}
use Rattle.slot_lists.specs.declared.runs.Run.TheVariants.{Stretch, Hole}
use Rattle.slot_lists.specs.Runs.{IsRun}
use Rattle.file_runs.specs.declared.mapped.FileRuns.{FileRuns}
use Rattle.map_plan.specs.declared.file.KernelFiles.{KernelFiles}
use Rattle.map_plan.specs.declared.section.PlannedSection.{PlannedSection}
use Rattle.map_plan.specs.declared.section.SectionFiles.{SectionFiles}
use Rattle.map_plan.specs.declared.section.SectionFiles.TheVariants.{Kernel, System}
use Rattle.map_plan.specs.Devices.{HasDisks}
use Rattle.map_plan.specs.Files.{AllFiles, HasFewPlaces, HasRuns}

-- the files of a section have runs on the disks 0 to 3
abbrev pub AreKept : SectionFiles → Type 0
AreKept (Kernel files) = AllFiles HasFewPlaces files × AllFiles HasRuns files
AreKept (System sectors) = HasDisks sectors

abbrev pub IsKept : PlannedSection → Type 0
IsKept planned = AreKept planned.files

-- ---- one proof at most

IsRun-prop : (run : Run) → IsProp (IsRun run)
IsRun-prop (Stretch disk start count) = ×_prop le_prop le_prop
IsRun-prop (Hole count) = Unit-prop

runs-prop : (runs : List Run) → IsProp (All IsRun runs)
runs-prop runs = Π_prop (λ k. Π_prop (λ d. Π_prop (λ below. IsRun-prop (slice_index_or runs k d))))

if-some-prop : {T : Type 0} (P : T → Type 0) → ((value : T) → IsProp (P value)) → (found : Option T) → IsProp (IfSome found P)
if-some-prop P each None = Unit-prop
if-some-prop P each (Some value) = each value

all-prop : {T : Type 0} (P : T → Type 0) → ((value : T) → IsProp (P value)) → (values : List T) → IsProp (AllByRecursion P values)
all-prop P each [] = Unit-prop
all-prop P each (value ∷ values) = ×_prop (each value) (all-prop P each values)

files-prop : (P : FileRuns → Type 0) → ((file : FileRuns) → IsProp (P file)) → (files : KernelFiles) → IsProp (AllFiles P files)
files-prop P each files = ×_prop (each files.main) (if-some-prop P each files.initrd)

AreKept-prop : (files : SectionFiles) → IsProp (AreKept files)
AreKept-prop (Kernel files) = ×_prop (files-prop HasFewPlaces (λ file. le_prop) files) (files-prop HasRuns (λ file. runs-prop file.runs) files)
AreKept-prop (System sectors) = ×_prop le_prop (if-some-prop _ (λ place. le_prop) sectors.table)

pub IsKept-prop : (sections : List PlannedSection) → IsProp (AllByRecursion IsKept sections)
IsKept-prop sections = all-prop IsKept (λ planned. AreKept-prop planned.files) sections

pub few-prop : (file : Option FileRuns) → IsProp (IfSome file HasFewPlaces)
few-prop file = if-some-prop HasFewPlaces (λ file. le_prop) file

pub some-prop : (file : Option FileRuns) → IsProp (IfSome file HasRuns)
some-prop file = if-some-prop HasRuns (λ file. runs-prop file.runs) file

-- How the files that a configuration names are mapped on a sound volume, or why they are refused.
use Rattle.std.specs.Prelude.{◌≡◌, ◌≤◌, ℕ, ◌*◌, Bool, true, List, [], ◌∷◌, length, All, IfSome, Option, Some, None, Result, Ok, Err}
use Rattle.std.specs.Result.{result_ok}
use Rattle.std.specs.Option.{option_map}
use Rattle.lilo_model.specs.Checks.{◌>>=◌, require, with_fault}
use Rattle.lilo_model.specs.MinixParts.{Volume, Parts, blocks_for, is_file}
use Rattle.lilo_model.specs.MinixFind.{TreeFault, NotFile, find}
use Rattle.lilo_model.specs.Conf.{ConfSection}
use Rattle.lilo_model.specs.Plan.{MappedFile, MappedSection}
use Rattle.lilo_model.specs.Planned.{mapped_inode, file_inode, some_file, optional_file, kernel_section}
use Rattle.lilo_model.specs.PlanRefusal.{PlanFault, Missing, path_fault, file_check, if_there, kernel_then}
use Rattle.lilo_conf.specs.declared.section.Section.{Section}
use Rattle.lilo_conf.specs.View.{section_view}
use Rattle.slot_lists.specs.Runs.{IsRun, places_in}
use Rattle.file_runs.specs.declared.mapped.FileRuns.{FileRuns}
use Rattle.file_runs.specs.Mapped.{file_view}
use Rattle.map_plan.specs.declared.file.KernelFiles.{KernelFiles}

-- the regular file that a path leads to as it is mapped, or the refusal of the path
abbrev pub file_found : Volume → Parts → List ℕ → Result MappedFile TreeFault
file_found volume parts path =
    find volume.layout parts path
    >>= λ number. require (is_file (parts.node number)) NotFile
    >>= λ a. Ok (mapped_inode volume parts number)

-- the same as a plan reports it
unfoldable pub file_planned : Volume → Parts → List ℕ → Result MappedFile PlanFault
file_planned volume parts path = with_fault (path_fault path) (file_found volume parts path)

-- the same of a path that may be absent; an empty file isn't mapped
abbrev pub optional_planned : Volume → Parts → Option (List ℕ) → Result (Option MappedFile) PlanFault
optional_planned volume parts None = Ok None
optional_planned volume parts (Some path) = file_planned volume parts path >>= λ file. Ok (some_file file)

-- a kernel's section by its files: none where it may be omitted and the kernel isn't there
abbrev pub kernel_by : ConfSection → Bool → Result MappedFile PlanFault → Result (Option MappedFile) PlanFault → Result (List MappedSection) PlanFault
kernel_by section optional (Ok main) initrd =
    initrd >>= λ initrd. Ok (record { section = section; main = main; initrd = initrd } ∷ [])
kernel_by section true (Err (Missing path)) initrd = Ok []
kernel_by section optional (Err fault) initrd = Err fault

-- a kernel's section, as it is mapped, or the first refusal of its files
unfoldable pub kernel_planned : Volume → Parts → ConfSection → Result (List MappedSection) PlanFault
kernel_planned volume parts section =
    kernel_by section section.optional (file_planned volume parts section.path) (optional_planned volume parts section.initrd)

-- ---- these are the model's

-- a check passed, or the refusal
abbrev pub passed : {A F : Type 0} → Result A F → Result (Unit {0}) F
passed made = made >>= λ value. Ok tt

-- what is refused of a path is what is checked of it, and what is found is what is mapped
pub record IsFilePlan (volume : Volume) (parts : Parts) (path : List ℕ) : Type 0 where
  pub check : file_check volume parts path ≡ passed (file_planned volume parts path)
  pub mapped : result_ok (file_planned volume parts path) ≡ option_map (mapped_inode volume parts) (file_inode volume parts path)

abbrev pub FilePlanLaw : Type 0
FilePlanLaw = (volume : Volume) (parts : Parts) (path : List ℕ) → IsFilePlan volume parts path

-- the same of a path that may be absent
pub record IsOptionalPlan (volume : Volume) (parts : Parts) (path : Option (List ℕ)) : Type 0 where
  pub check : if_there (file_check volume parts) path ≡ passed (optional_planned volume parts path)
  pub mapped : (file : Option MappedFile) → optional_planned volume parts path ≡ Ok file → optional_file volume parts path ≡ file

abbrev pub OptionalPlanLaw : Type 0
OptionalPlanLaw = (volume : Volume) (parts : Parts) (path : Option (List ℕ)) → IsOptionalPlan volume parts path

-- the same of a kernel's section
pub record IsKernelPlan (volume : Volume) (parts : Parts) (section : ConfSection) : Type 0 where
  pub check :
      kernel_then section.optional (file_check volume parts section.path) (if_there (file_check volume parts) section.initrd)
      ≡ passed (kernel_planned volume parts section)
  pub mapped : (sections : List MappedSection) → kernel_planned volume parts section ≡ Ok sections
      → kernel_section volume parts section (file_inode volume parts section.path) ≡ sections

abbrev pub KernelPlanLaw : Type 0
KernelPlanLaw = (volume : Volume) (parts : Parts) (section : ConfSection) → IsKernelPlan volume parts section

-- ---- what was read

-- the sectors of a file are no more than those of its blocks
abbrev pub HasFewPlaces : FileRuns → Type 0
HasFewPlaces file = length (places_in file.runs) ≤ 2 * blocks_for file.size

-- its runs lie on the disks 0 to 3
abbrev pub HasRuns : FileRuns → Type 0
HasRuns file = All IsRun file.runs

-- all files of a kernel's section
abbrev pub AllFiles : (FileRuns → Type 0) → KernelFiles → Type 0
AllFiles P files = P files.main × IfSome files.initrd P

-- a kernel's section with the files that were found, if it isn't omitted
abbrev pub kernel_view : Section → Option KernelFiles → List MappedSection
kernel_view section None = []
kernel_view section (Some files) =
    record { section = section_view section; main = file_view files.main; initrd = option_map file_view files.initrd } ∷ []

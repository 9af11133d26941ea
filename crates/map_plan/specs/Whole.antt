-- The plan as a whole: its files, what is held of them, and their addresses.
use Rattle.std.specs.Prelude.{◌≡◌, ◌≤◌, ℕ, List, All, IfSome, take, Result, Ok}
use Rattle.std.specs.Option.{option_map}
use Rattle.lilo_model.specs.Checks.{◌>>=◌}
use Rattle.lilo_model.specs.Disks.{Image, Machine, Span}
use Rattle.lilo_model.specs.Conf.{Config}
use Rattle.lilo_model.specs.MinixParts.{Volume, parts_of}
use Rattle.lilo_model.specs.MinixNames.{IsSound}
use Rattle.lilo_model.specs.Plan.{Plan}
use Rattle.lilo_model.specs.PlanRefusal.{PlanFault, default_check, left_check, held_checks, address_checks, plan_at}
use Rattle.file_runs.specs.Mapped.{file_view}
use Rattle.map_plan.specs.declared.files.BootCode.{BootCode}
use Rattle.map_plan.specs.declared.files.PlanFiles.{PlanFiles}
use Rattle.map_plan.specs.Files.{optional_planned, HasFewPlaces, HasRuns}
use Rattle.map_plan.specs.Sections.{sections_planned, planned_views, FitsSection}
use Rattle.map_plan.specs.Starts.{code_planned}

-- the files of a configuration as they are mapped, or the first refusal; then the default, and that a section is left
unfoldable pub files_planned : Image → Machine → Volume → Config → ℕ → Result Plan PlanFault
files_planned image machine volume config time = do
  code ← code_planned volume (parts_of volume image) config.install
  message ← optional_planned volume (parts_of volume image) config.message
  sections ← sections_planned image machine volume config.sections
  a ← default_check (record { config = config; time = time; code = code; message = message; sections = sections })
  b ← left_check sections
  Ok (record { config = config; time = time; code = code; message = message; sections = sections })

-- a plan is its files, where what is held of them and their addresses are accepted
abbrev pub PlanLaw : Type 0
PlanLaw =
    (image : Image) (machine : Machine) (volume : Volume) (boot : Span) (config : Config) (time : ℕ) → IsSound volume image
    → plan_at image machine volume boot config time
    ≡ (files_planned image machine volume config time
    >>= λ plan. held_checks image machine volume boot plan
    >>= λ a. address_checks machine plan
    >>= λ b. Ok plan)

-- ---- what was found

-- the bytes of the code
abbrev pub code_view : BootCode → List ℕ
code_view code = take code.length code.bytes

-- the plan of a configuration with these files
abbrev pub files_view : Config → ℕ → PlanFiles → Plan
files_view config time files = record {
  config = config;
  time = time;
  code = code_view files.code;
  message = option_map file_view files.message;
  sections = planned_views files.sections.items;
}

-- what is mapped is of its sections' kinds, and its sectors are there
pub record FitsFiles (sizes : ℕ → ℕ) (files : PlanFiles) : Type 0 where
  pub sections : All (FitsSection sizes) files.sections.items
  pub few : IfSome files.message HasFewPlaces
  pub runs : IfSome files.message HasRuns
  pub code : files.code.length ≤ 512

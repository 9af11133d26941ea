-- How many runs the files of a plan take at least.
use Rattle.std.specs.Prelude.{ℕ, zero, suc, ◌+◌, ◌==◌, if◌then◌else◌, List, map, sum, Option, None, Some}
use Rattle.lilo_model.specs.Disks.{DiskSector}
use Rattle.lilo_model.specs.Plan.{MappedFile, MappedSection, Plan}
use Rattle.slot_lists.specs.declared.runs.Run.{Run}
use Rattle.slot_lists.specs.declared.runs.Run.TheVariants.{Stretch, Hole}
use Rattle.slot_lists.specs.Runs.{run_count}
use Rattle.file_runs.specs.Needed.{runs_after, runs_needed}

-- those of a file that may be absent
abbrev pub optional_runs : Option MappedFile → ℕ
optional_runs None = 0
optional_runs (Some file) = runs_needed file.places

-- those of a section
abbrev pub section_runs : MappedSection → ℕ
section_runs mapped = runs_needed mapped.main.places + optional_runs mapped.initrd

-- those of all that is mapped
abbrev pub plan_runs : Plan → ℕ
plan_runs plan = optional_runs plan.message + sum (map section_runs plan.sections)

-- ---- how they are counted

-- the first sector of a run that has one
abbrev pub run_start : Run → Option DiskSector
run_start (Stretch disk start count) = Some (record { disk = disk; sector = start })
run_start (Hole count) = None

-- the last sector of a run that has one
abbrev pub run_end : Run → Option DiskSector
run_end (Stretch disk start zero) = None
run_end (Stretch disk start (suc count)) = Some (record { disk = disk; sector = start + count })
run_end (Hole count) = None

-- how many runs are begun after a run; of none, all are
abbrev pub needed_after : Run → List (Option DiskSector) → ℕ
needed_after run places = if run_count run == 0 then runs_needed places else runs_after (run_end run) places

-- the later of two runs that has sectors
abbrev pub later_run : Run → Run → Run
later_run run next = if run_count next == 0 then run else next

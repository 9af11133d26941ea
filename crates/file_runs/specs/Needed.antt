-- How many runs some sectors take at least, and lists of runs that have no more.
use Rattle.std.specs.Prelude.{◌≡◌, ◌<◌, ◌≤◌, ℕ, ◌+◌, ◌==◌, Bool, true, false, ◌&&◌, if◌then◌else◌, List, [], ◌∷◌, length, Option, Some, None}
use Rattle.lilo_model.specs.Disks.{DiskSector}
use Rattle.slot_lists.specs.declared.runs.Run.{Run}
use Rattle.slot_lists.specs.declared.runs.Run.TheVariants.{Stretch, Hole}
use Rattle.slot_lists.specs.Runs.{run_count, places_in}

-- whether a sector lies right after another on its disk, or both lie nowhere
abbrev pub adjoins : Option DiskSector → Option DiskSector → Bool
adjoins None None = true
adjoins (Some place) (Some next) = (place.disk == next.disk) && (place.sector + 1 == next.sector)
adjoins place next = false

-- how many runs are begun after a sector
abbrev pub runs_after : Option DiskSector → List (Option DiskSector) → ℕ
runs_after place [] = 0
runs_after place (next ∷ others) = (if adjoins place next then 0 else 1) + runs_after next others

-- how many runs the sectors of a list take at least
abbrev pub runs_needed : List (Option DiskSector) → ℕ
runs_needed [] = 0
runs_needed (place ∷ others) = 1 + runs_after place others

-- no runs of these sectors are fewer
abbrev pub LeastLaw : Type 0
LeastLaw = (runs : List Run) → runs_needed (places_in runs) ≤ length runs

-- the run of the sectors of two, where one has both
abbrev pub joined_run : Run → Run → Option Run
joined_run (Stretch disk start count) (Stretch other from more) =
    if (disk == other) && (start + count == from) then Some (Stretch disk start (count + more)) else None
joined_run (Hole count) (Hole more) = Some (Hole (count + more))
joined_run run next = None

-- a run doesn't go on in the first of some others
abbrev pub IsApart : Run → List Run → Type 0
IsApart run [] = Unit {0}
IsApart run (next ∷ others) = joined_run run next ≡ None

-- no run is empty, and none goes on in the next one
abbrev pub AreJoined : List Run → Type 0
AreJoined [] = Unit {0}
AreJoined (run ∷ others) = (0 < run_count run) × IsApart run others × AreJoined others

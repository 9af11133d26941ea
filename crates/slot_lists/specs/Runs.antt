-- Runs of a file's sectors.
use Rattle.std.specs.Prelude.{◌≤◌, ℕ, zero, suc, ◌+◌, ◌^◌, List, [], ◌∷◌, flat_map, replicate, Option, Some, None}
use Rattle.lilo_model.specs.Disks.{DiskSector}
use Rattle.slot_lists.specs.declared.runs.Run.{Run}
use Rattle.slot_lists.specs.declared.runs.Run.TheVariants.{Stretch, Hole}

-- how many sectors a run has
abbrev pub run_count : Run → ℕ
run_count (Stretch disk start count) = count
run_count (Hole count) = count

-- sectors of a disk, from a number on
abbrev pub stretch_places : ℕ → ℕ → ℕ → List (Option DiskSector)
stretch_places disk start zero = []
stretch_places disk start (suc count) = Some (record { disk = disk; sector = start }) ∷ stretch_places disk (start + 1) count

-- where the sectors of a run lie, nowhere in a hole
abbrev pub run_places : Run → List (Option DiskSector)
run_places (Stretch disk start count) = stretch_places disk start count
run_places (Hole count) = replicate count None

-- where the sectors of runs lie, in order
abbrev pub places_in : List Run → List (Option DiskSector)
places_in runs = flat_map run_places runs

-- the sector at an offset of a run, the zero sector in a hole
abbrev pub run_place : DiskSector → Run → ℕ → DiskSector
run_place zero_place (Stretch disk start count) offset = record { disk = disk; sector = start + offset }
run_place zero_place (Hole count) offset = zero_place

-- a run's sectors lie on one of the disks 0 to 3, and their numbers take 64 bits
abbrev pub IsRun : Run → Type 0
IsRun (Stretch disk start count) = (disk ≤ 3) × (start + count ≤ 2 ^ 64)
IsRun (Hole count) = Unit {0}

-- The blocks of the files that an installation makes (this project's own).
use Rattle.std.specs.Prelude.{◌≡◌, ◌+◌, ◌*◌, ◌++◌, ℕ, List, map, replicate, slice_index_or}
use Rattle.lilo_model.specs.Disks.{Machine}
use Rattle.lilo_model.specs.Plan.{plan_sectors}
use Rattle.map_sectors.specs.Accepted.{IsFor}
use Rattle.map_sectors.specs.Map.{plan_view}
use Rattle.map_sectors.specs.Places.{AreOwnPlaces}
use Rattle.map_sectors.specs.declared.map.MapPlan.{MapPlan}
use Rattle.slot_lists.specs.Made.{place_view}
use Rattle.slot_lists.specs.declared.slots.DiskSector.{DiskSector}

-- a sector of some, or zeros after the last one
abbrev pub sector_or_zeros : List (List ℕ) → ℕ → List ℕ
sector_or_zeros sectors index = slice_index_or sectors index (replicate 512 0)

-- two of them
abbrev pub block_of_sectors : List (List ℕ) → ℕ → List ℕ
block_of_sectors sectors index = sector_or_zeros sectors (2 * index) ++ sector_or_zeros sectors (2 * index + 1)

-- the sectors of a planned map that lies at places
abbrev pub sectors_of_map : Machine → MapPlan → List DiskSector → List (List ℕ)
sectors_of_map machine plan places = plan_sectors (plan_view plan) machine (map place_view places)

-- a map is planned for a machine, and these are places for its sectors
pub record MayLieAt (machine : Machine) (plan : MapPlan) (places : List DiskSector) : Type 0 where
  pub plan_is : IsFor machine plan
  pub places_are : AreOwnPlaces machine plan places

-- blocks that are given for a file are those of a map which lies so
pub record AreMapBlocks (plan : MapPlan) (places : List DiskSector) (given : ℕ → List ℕ) : Type 0 where
  pub machine : Machine
  pub lies : MayLieAt machine plan places
  pub are : (index : ℕ) → given index ≡ block_of_sectors (sectors_of_map machine plan places) index

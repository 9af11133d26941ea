-- The sectors of a map, and zeros after them.
use Rattle.std.proofs.Common.{◌≡◌, ◌≤◌, ℕ, List, length, map, replicate, sym, arith}
use Rattle.std.proofs.lemmas.List.{get_or_past}
use Rattle.lilo_model.specs.Disks.{Machine}
use Rattle.map_sectors.specs.Map.{plan_view}
use Rattle.map_sectors.specs.declared.map.MapPlan.{MapPlan}
use Rattle.map_sectors.proofs.SectionLemmas.{length-plan}
use Rattle.slot_lists.specs.Made.{place_view}
use Rattle.slot_lists.specs.declared.slots.DiskSector.{DiskSector}
use Rattle.install_stage.specs.Blocks.{MayLieAt, sector_or_zeros, sectors_of_map}

pub zeros_after : (machine : Machine) (plan : MapPlan) (places : List DiskSector) → MayLieAt machine plan places → (index : ℕ) → length places ≤ index
    → replicate 512 0 ≡ sector_or_zeros (sectors_of_map machine plan places) index
zeros_after machine plan places may index past =
    let long = length-plan (plan_view plan) machine (map place_view places) in
    let count = may.places_are.count in
    sym (get_or_past (sectors_of_map machine plan places) index (replicate 512 0) (omega (arith, long, count, past)))

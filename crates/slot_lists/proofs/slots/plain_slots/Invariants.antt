use Rattle.std.proofs.Common.{◌≡◌, map, take, Ok}
use Rattle.std.specs.Prelude.{All}
use Rattle.sector_address.specs.View.{slot_view, mode_view, geometry_view}
use Rattle.slot_lists.specs.Made.{made_slots, place_view, IsWritable}
use Rattle.slot_lists.proofs.slots.plain_slots.Given as goal

-- the slots so far are those of the sectors so far
abbrev pub invariant-loop-place : goal.invariant-loop-place
invariant-loop-place l = record {
  made : made_slots (mode_view l.mode) (geometry_view l.geometry) (map place_view (take l.place-index l.places)) ≡ Ok (map slot_view l.slots.items);
  writable : All IsWritable l.slots.items;
}

use Rattle.std.proofs.Common.{◌≡◌, ◌++◌, ◌+◌, map, drop}
use Rattle.std.specs.Prelude.{All}
use Rattle.lilo_model.specs.Plan.{joined_slots, compact_slots}
use Rattle.sector_address.specs.View.{slot_view, geometry_view}
use Rattle.slot_lists.specs.Made.{one_geometry, IsWritable}
use Rattle.slot_lists.proofs.slots.joined.Given as goal

-- the slots so far, and those of the one that is held with what is left, are all
abbrev pub invariant-loop-next : goal.invariant-loop-next
invariant-loop-next l = record {
  joined : map slot_view l.all.items ++ joined_slots (one_geometry (geometry_view l.geometry)) (slot_view l.held) (map slot_view (drop (l.next-index + 1) l.slots))
      ≡ compact_slots (one_geometry (geometry_view l.geometry)) (map slot_view l.slots);
  writable : All IsWritable l.all.items;
  held : IsWritable l.held;
}

use Rattle.std.proofs.Common.{◌≡◌, map, take, Ok}
use Rattle.sector_address.specs.View.{mode_view, geometry_view}
use Rattle.slot_lists.specs.Made.{places_check, place_view}
use Rattle.slot_lists.proofs.slots.check_places.Given as goal

-- each sector so far has a slot
abbrev pub invariant-loop-place : goal.invariant-loop-place
invariant-loop-place l = places_check (mode_view l.mode) (geometry_view l.geometry) (map place_view (take l.place-index l.places)) ≡ Ok tt

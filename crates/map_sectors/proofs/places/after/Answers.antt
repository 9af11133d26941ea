-- All that is left after so many.
use Rattle.std.proofs.Common.{length, drop, map, sym, ap, ◌∙◌, arith, length-drop, ◌-◌}
use Rattle.std.proofs.lemmas.List.{take_all, drop-map}
use Rattle.slot_lists.specs.Made.{place_view}
use Rattle.map_sectors.proofs.places.after.Goals as goal

pub returns-else-count-places : goal.returns-else-count-places
returns-else-count-places c =
    let places = c.args.places.now in
    ap (map place_view) (take_all (length places - c.args.count) (drop c.args.count places) (omega (arith, length-drop c.args.count places)))
    ∙ sym (drop-map place_view c.args.count places)

-- The check of slots is the check of the map's own places.
use Rattle.std.proofs.Common.{Ok, Err, Some, sym, ap, ◌∙◌, map}
use Rattle.sector_address.specs.View.{geometry_view, address_fault_view}
use Rattle.slot_lists.specs.Made.{place_view, places_check}
use Rattle.map_plan.proofs.CheckLemmas.{places-are}
use Rattle.map_plan.proofs.check.check_map_places.Goals as goal

pub returns-in-Ok : goal.returns-in-Ok
returns-in-Ok c config machine named on =
    places-are config machine (geometry_view c.args.geometry) (map place_view c.args.places.now) (Ok tt) on
    (c.in-Ok.ensures ∙ ap (λ mode. places_check mode (geometry_view c.args.geometry) (map place_view c.args.places.now)) (sym named))

pub returns-in-Err : goal.returns-in-Err
returns-in-Err c config machine named on =
    ap Some (places-are config machine (geometry_view c.args.geometry) (map place_view c.args.places.now) (Err (address_fault_view c.in-Err.fault)) on
    (c.in-Err.ensures ∙ ap (λ mode. places_check mode (geometry_view c.args.geometry) (map place_view c.args.places.now)) (sym named)))

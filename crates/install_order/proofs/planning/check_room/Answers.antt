-- What the check of the places gives.
use Rattle.std.proofs.Common.{◌≡◌, map, sym, ap}
use Rattle.lilo_model.specs.PlanRefusal.{own_places_check}
use Rattle.lilo_conf.specs.View.{config_view}
use Rattle.map_plan.specs.View as plan_views
use Rattle.slot_lists.specs.Made.{place_view}
use Rattle.install_room.specs.Room.{places_view}
use Rattle.install_order.proofs.PlanLemmas.{decided_refuses}
use Rattle.install_order.proofs.RefuseLemmas.{plan-refuses}
use Rattle.install_order.proofs.planning.check_room.Goals as goal

pub returns-in-Err-clause-decided : goal.returns-in-Err-clause-decided
returns-in-Err-clause-decided c = λ machine geometries.
    let same : places_view c.args.room.now ≡ map place_view c.as_slice.result.now = ap (map place_view) (sym c.as_slice.ensures.value) in
    let given = own_places_check (config_view c.args.plan.now.config) machine (map place_view c.as_slice.result.now) in
    rw (same, c.plan_refusal.ensures.is)
    (plan-refuses c.in-Err.fault given 0 0 (c.in-Err.ensures.cause 0 0)
    (decided_refuses (plan_views.plan_refusal c.in-Err.fault) given (c.in-Err.ensures.decided machine geometries)))

pub returns-in-Err-clause-cause : goal.returns-in-Err-clause-cause
returns-in-Err-clause-cause c = λ before now. c.plan_refusal.ensures.cause before now (c.in-Err.ensures.cause before now)

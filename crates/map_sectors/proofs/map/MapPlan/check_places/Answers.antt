-- All places lie on disks of one geometry.
use Rattle.std.proofs.Common.{refl, sym, ap, ◌∙◌, map}
use Rattle.lilo_model.specs.Disks.{Machine}
use Rattle.lilo_model.specs.PlanRefusal.{own_places_check}
use Rattle.sector_address.specs.View.{geometry_view}
use Rattle.lilo_conf.specs.View.{config_view}
use Rattle.slot_lists.specs.Made.{place_view}
use Rattle.map_sectors.proofs.PlaceLemmas.{own-on, all-on, decided-cause}
use Rattle.map_sectors.proofs.map.MapPlan.check_places.Goals as goal

pub returns-clause-decided : goal.returns-clause-decided
returns-clause-decided c machine has =
    let plan = c.args.self.now in
    c.check_map_places.ensures (config_view plan.config) machine refl
    (own-on machine plan.disk (geometry_view c.geometry.result)
    (has plan.disk c.geometry.result plan.disk_is ∙ ap geometry_view (sym (c.geometry.ensures c.geometry.result)))
    c.args.places.now c.requires)

pub returns-clause-cause : goal.returns-clause-cause
returns-clause-cause c before now =
    let plan = c.args.self.now in
    let geometry = geometry_view c.geometry.result in
    let machine : Machine = record { size_of = λ disk. 0; geometry_of = λ disk. geometry } in
    decided-cause before now c.check_map_places.result (own_places_check (config_view plan.config) machine (map place_view c.args.places.now))
    (c.check_map_places.ensures (config_view plan.config) machine refl (all-on machine geometry (map place_view c.args.places.now) (λ disk. refl)))

-- The fields, the code and what is there.
use Rattle.std.proofs.Common.{map, ap, subst, ◌∙◌}
use Rattle.lilo_model.specs.BootSector.{BootSector, merged_sector}
use Rattle.lilo_model.specs.Plan.{plan_boot, plan_boot_sector}
use Rattle.lilo_conf.specs.View.{config_view}
use Rattle.slot_lists.specs.Made.{place_view}
use Rattle.map_laws.specs.Accepted.{IsAccepted}
use Rattle.map_laws.proofs.AcceptedWhole.{accepted_law}
use Rattle.map_sectors.specs.Map.{plan_view}
use Rattle.map_sectors.proofs.FourLemmas.{four-own}
use Rattle.map_sectors.proofs.map.MapPlan.boot_sector.Goals as goal

pub returns-clause-sector : goal.returns-clause-sector
unfolding plan_boot_sector
returns-clause-sector c machine fits =
    let plan = c.args.self.now in
    let boot = plan_boot (plan_view plan) machine (map place_view c.args.places.now) in
    c.merge.ensures.bytes
    ∙ ap (λ (boot : BootSector). merged_sector boot c.code_sector-code.result c.args.present.now) (c.boot.ensures.value machine fits (four-own plan.disk c.args.places.now plan.disk_is c.requires))
    ∙ ap (λ code. merged_sector boot code c.args.present.now) c.code_sector-code.ensures

pub returns-clause-boots : goal.returns-clause-boots
returns-clause-boots c machine fits before image volume span line map_places keys memory are sound accepted there written =
    let plan = c.args.self.now in
    let config = config_view plan.config in
    accepted_law before image machine volume span config plan.time line map_places c.args.present.now keys memory sound
    (subst (IsAccepted before machine volume span config plan.time) are accepted)
    (written (there ∙ returns-clause-sector c machine fits))

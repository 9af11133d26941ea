-- The slot of the place after the main file's section sectors.
use Rattle.std.proofs.Common.{Some, map, sym, ap, subst, ◌∙◌}
use Rattle.lilo_model.specs.Plan.{place_of_sector, slot_to}
use Rattle.lilo_conf.specs.View.{config_view}
use Rattle.slot_lists.specs.Made.{place_view}
use Rattle.map_plan.specs.Sections.{initrd_view, planned_view}
use Rattle.map_sectors.specs.Places.{LieOnFour}
use Rattle.map_sectors.proofs.DescriptorLemmas.{some-mapped}
use Rattle.map_sectors.proofs.FourLemmas.{four-initrd}
use Rattle.map_sectors.proofs.map.MapPlan.initrd_slot.Goals as goal

pub returns-then-has_initrd-clause-value : goal.returns-then-has_initrd-clause-value
returns-then-has_initrd-clause-value c machine has accepted on =
    let config = config_view c.args.self.now.config in
    let places = c.initrd_places.ensures machine has accepted in
    let four = subst LieOnFour (sym places) (four-initrd config machine (planned_view c.args.planned.now) (map place_view c.args.places.now) on) in
    ap Some (c.slot_at.ensures.value machine has four ∙ ap (λ places. slot_to config.mode machine (place_of_sector places 0)) places)
    ∙ some-mapped (initrd_view c.args.planned.now.files) _ (sym c.has_initrd.ensures ∙ c.if-has_initrd.true)

-- Field by field.
use Rattle.std.proofs.Common.{map, sym, ap, subst, ◌∙◌}
use Rattle.lilo_model.specs.Plan.{descriptor_for, place_of_sector, slot_to}
use Rattle.lilo_conf.specs.View.{config_view, section_view}
use Rattle.slot_lists.specs.Made.{place_view}
use Rattle.map_sectors.specs.Places.{LieOnFour}
use Rattle.map_sectors.proofs.DescriptorLemmas.{same-entry}
use Rattle.map_sectors.proofs.FourLemmas.{four-main}
use Rattle.map_sectors.proofs.map.MapPlan.descriptor.Goals as goal

pub returns-clause-value : goal.returns-clause-value
unfolding descriptor_for
returns-clause-value c machine has accepted on short =
    let config = config_view c.args.self.now.config in
    let main = c.main_places.ensures in
    let four = subst LieOnFour (sym main) (four-main (section_view c.args.planned.now.section) (map place_view c.args.places.now) on) in
    same-entry _ _ _ _ _ _ _ _ _ _ _ _ _ _ _ _ _ _ _ _ _ _
    (c.copy_of.ensures short) c.flags_of.ensures c.vga_of.ensures c.main_size.ensures c.initrd_size.ensures
    (c.slot_at.ensures.value machine has on)
    (c.slot_at-2.ensures.value machine has four ∙ ap (λ places. slot_to config.mode machine (place_of_sector places 0)) main)
    (c.initrd_slot.ensures.value machine has accepted on)
    (c.main_chain.ensures machine has accepted.files) (c.initrd_chain.ensures machine has accepted.files)
    (c.extra_slot.ensures.value machine has on)

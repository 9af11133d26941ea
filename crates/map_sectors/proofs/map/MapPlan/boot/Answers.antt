-- Field by field.
use Rattle.lilo_model.specs.Plan.{plan_boot}
use Rattle.map_sectors.proofs.BootLemmas.{same-boot}
use Rattle.map_sectors.proofs.map.MapPlan.boot.Goals as goal

pub returns-clause-value : goal.returns-clause-value
unfolding plan_boot
returns-clause-value c machine fits on =
    let has = fits.geometries in
    same-boot _ _ _ _ _ _ _ _ _ _ _ _ _ _ _ _ _ _ _ _
    (c.name_count.ensures machine fits) c.default_entry.ensures (c.size_of.ensures fits.message_short) (c.optional_chain.ensures machine has fits.message)
    (c.slot_at.ensures.value machine has on) (c.slot_at-2.ensures.value machine has on) (c.message_slot.ensures.value machine has on) (c.table_slots.ensures.value machine has on)

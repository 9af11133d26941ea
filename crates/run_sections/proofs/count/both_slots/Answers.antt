-- What could be one is one slot that eight bytes can name.
use Rattle.std.proofs.Common.{refl, sym, ◌∙◌}
use Rattle.sector_address.specs.View.{geometry_view}
use Rattle.slot_lists.proofs.JoinLemmas.{longer-writable}
use Rattle.run_sections.proofs.count.both_slots.Goals as goal

pub returns-clause-writable : goal.returns-clause-writable
returns-clause-writable c =
    longer-writable (geometry_view c.args.naming.geometry) c.args.slot c.args.next _ (sym c.could_be_one.ensures ∙ c.if-not-could_be_one.false) c.requires.slot refl

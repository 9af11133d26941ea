-- The slot is the one in the bytes.
use Rattle.std.proofs.Common.{sym, ◌∙◌}
use Rattle.std.proofs.lemmas.Bool.{true≢false}
use Rattle.boot_map.proofs.SlotLemmas.{none-not_one, some-slot_of, slot_of-ranges}
use Rattle.boot_map.proofs.one_slot.slot_of.Goals as goal

pub unreachable-requires : goal.unreachable-requires
unreachable-requires c = true≢false (sym c.requires.one ∙ none-not_one c.args.bytes.now c.in-None.ensures)

pub returns-clause-value : goal.returns-clause-value
returns-clause-value c = some-slot_of c.args.bytes.now c.in-Some.slot c.in-Some.ensures c.requires.one

pub returns-clause-one_sector : goal.returns-clause-one_sector
returns-clause-one_sector c =
    let same = some-slot_of c.args.bytes.now c.in-Some.slot c.in-Some.ensures c.requires.one in
    slot_of-ranges c.args.bytes.now c.in-Some.slot same c.requires.one

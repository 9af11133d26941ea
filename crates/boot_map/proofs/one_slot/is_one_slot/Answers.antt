-- Whether the slot is of one sector.
use Rattle.std.proofs.Common.{sym}
use Rattle.boot_map.proofs.SlotLemmas.{some-is_one, none-not_one}
use Rattle.boot_map.proofs.one_slot.is_one_slot.Goals as goal

pub returns-in-Some : goal.returns-in-Some
returns-in-Some c = some-is_one c.args.bytes.now c.in-Some.slot c.in-Some.ensures

pub returns-in-None : goal.returns-in-None
returns-in-None c = sym (none-not_one c.args.bytes.now c.in-None.ensures)

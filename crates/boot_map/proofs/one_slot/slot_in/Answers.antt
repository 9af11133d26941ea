-- The slot that was decoded, or none.
use Rattle.std.proofs.Common.{ap, ◌∙◌}
use Rattle.boot_map.proofs.SlotLemmas.{slot_or_none, slot_at-is_slot}
use Rattle.boot_map.proofs.one_slot.slot_in.Goals as goal

pub returns-in-Ok : goal.returns-in-Ok
returns-in-Ok c = ap slot_or_none c.in-Ok.ensures.read ∙ slot_at-is_slot c.args.bytes.now

pub returns-in-Err : goal.returns-in-Err
returns-in-Err c = ap slot_or_none c.in-Err.ensures.read ∙ slot_at-is_slot c.args.bytes.now

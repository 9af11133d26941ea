use Rattle.std.proofs.Common.{refl}
use Rattle.slot_lists.specs.Cursor.{left_of}
use Rattle.slot_lists.proofs.cursor.SlotCursor.new.Goals as goal

pub returns-clause-left : goal.returns-clause-left
unfolding left_of
returns-clause-left c runs zero = refl

use Rattle.slot_lists.proofs.CursorLemmas.{called-plain, called-joined}
use Rattle.slot_lists.proofs.laws.cursor_gives_all_slots.Goals as goal

pub returns : goal.returns
returns c mode geometry places calls enough = record {
  plain = called-plain mode geometry places calls enough;
  joined = called-joined mode geometry places calls enough;
}

-- The address and the length are put one after the other.
use Rattle.boot_second.proofs.SecondLemmas.{entry_handed}
use Rattle.boot_second.proofs.hand.hand_entry.Goals as goal

pub returns-clause-handed : goal.returns-clause-handed
returns-clause-handed g c =
    entry_handed c.args.entry _ _ _ _ _ c.four_bytes.ensures c.four_bytes-2.ensures c.put.ensures.shown c.put-2.ensures.shown

-- The address, the length and the bytes are put one after the other.
use Rattle.boot_second.proofs.SecondLemmas.{region_handed}
use Rattle.boot_second.proofs.hand.hand_region.Goals as goal

pub returns-clause-handed : goal.returns-clause-handed
returns-clause-handed g c =
    region_handed c.args.ram.now c.args.region _ _ _ _ _ _ _ c.requires c.four_bytes.ensures c.four_bytes-2.ensures c.bytes.ensures.bytes
    c.put.ensures.shown c.put-2.ensures.shown c.put-3.ensures.shown

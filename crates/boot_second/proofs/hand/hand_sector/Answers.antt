-- Two regions and the entry are handed over one after the other.
use Rattle.boot_second.proofs.SecondLemmas.{sector_handed, handed_in}
use Rattle.boot_second.proofs.hand.hand_sector.Goals as goal

pub returns-clause-handed : goal.returns-clause-handed
returns-clause-handed g c =
    sector_handed c.args.ram.now _ _ _ _ c.hand_region.ensures.handed
    (handed_in c.args.ram.now (record { address = 0x7C00; length = 512 }) _ _ c.hand_region.ensures.same c.hand_region-2.ensures.handed)
    c.hand_entry.ensures.handed

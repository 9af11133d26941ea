use Rattle.std.proofs.Common.{arith}
use Rattle.sector_address.proofs.BytesLemmas.{ranges_of}
use Rattle.sector_address.proofs.slot.slot_of.Goals as goal

pub returns-clause-whole : goal.returns-clause-whole
returns-clause-whole c =
    let ranges = ranges_of c.args.bytes.now c.requires.good in
    record {
      disk = omega arith;
      some = ranges.some;
      few = ranges.few;
      address = c.address_of.ensures.whole;
    }

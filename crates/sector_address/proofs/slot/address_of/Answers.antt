use Rattle.sector_address.proofs.BytesLemmas.{some_sector}
use Rattle.sector_address.proofs.slot.address_of.Goals as goal

pub chs_of-requires-clause-sector : goal.chs_of-requires-clause-sector
chs_of-requires-clause-sector c = some_sector c.args.bytes.now c.requires.good c.in-1.is

use Rattle.std.proofs.Common.{◌/◌, ◌%◌, ◌*◌, ◌+◌}
use Rattle.sector_address.proofs.BytesLemmas.{four_put}
use Rattle.sector_address.proofs.slot.put_chs.Goals as goal

pub returns-clause-bytes : goal.returns-clause-bytes
returns-clause-bytes c =
    let whole = four_put c.args.into.now.bytes.now (c.args.at.now.cylinder / 256 * 64 + c.args.at.now.sector) (c.args.at.now.cylinder % 256) c.args.at.now.head 0 c.requires.length in
    cc

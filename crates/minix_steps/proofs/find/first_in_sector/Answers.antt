use Rattle.minix_zones.specs.Volume.{volume_view, past_of}
use Rattle.minix_steps.proofs.FindLemmas.{sector_lowest}
use Rattle.minix_steps.proofs.find.first_in_sector.Goals as goal

pub returns-clause-lowest : goal.returns-clause-lowest
returns-clause-lowest g c =
    sector_lowest (past_of c.args.volume.now) (volume_view c.args.volume.now) c.args.bitmap.now c.read_bits.new.into c.args.avoid.now.numbers _ c.args.at c.base_of-base.result c.end_of-end.result
    c.requires.from c.base_of-base.ensures c.end_of-end.ensures.value c.in_ok-read_bits.ensures.bytes c.first_free.ensures

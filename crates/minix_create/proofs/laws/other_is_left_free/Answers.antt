use Rattle.minix_create.proofs.SeveralLemmas.{left_free}
use Rattle.minix_create.proofs.laws.other_is_left_free.Goals as goal

pub returns : goal.returns
returns g c = left_free c.args.start.now c.args.volume.now c.args.one.now c.args.other.now c.requires.suits c.requires.apart c.requires.made

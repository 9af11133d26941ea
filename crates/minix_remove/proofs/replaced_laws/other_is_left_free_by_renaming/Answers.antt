use Rattle.minix_remove.proofs.Free.{stays_free}
use Rattle.minix_remove.proofs.replaced_laws.other_is_left_free_by_renaming.Goals as goal

pub returns : goal.returns
returns g c = stays_free c.args.start.now c.args.volume.now c.args.directory c.args.from.now c.args.to.now c.args.other.now c.requires.suits c.requires.renamed

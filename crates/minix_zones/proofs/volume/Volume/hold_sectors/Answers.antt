-- Where none is held, all that is held is the disk's.
use Rattle.disk_trait.specs.Past.{now_of}
use Rattle.minix_zones.proofs.volume.Volume.hold_sectors.Goals as goal

pub invariant_of-self-clause-are_held : goal.invariant_of-self-clause-are_held
invariant_of-self-clause-are_held g c holds past told = c.none-self.ensures c.args.self.now.span.disk (now_of past)

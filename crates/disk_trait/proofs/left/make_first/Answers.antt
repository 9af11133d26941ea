use Rattle.disk_trait.proofs.LeftLemmas.{event_in_range}
use Rattle.disk_trait.proofs.left.make_first.Goals as goal

pub make-requires : goal.make-requires
make-requires c = event_in_range _ _ _ _ _ c.loop-i.invariant.shape.size c.requires.in_range c.event_at.ensures

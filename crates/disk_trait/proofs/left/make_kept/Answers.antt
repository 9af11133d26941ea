use Rattle.std.proofs.Common.{arith, rules}
use Rattle.disk_trait.proofs.LeftLemmas.{event_in_range, kept_none, kept_more, kept_less, same_shape}
use Rattle.disk_trait.proofs.left.make_kept.Goals as goal
use Rattle.disk_trait.proofs.left.make_kept.Goals.{then-kept, else-kept}

pub make-requires : goal.make-requires
make-requires c = event_in_range _ _ _ _ _ c.loop-i.invariant.shape.size c.requires.in_range c.event_at.ensures

pub loop-i-init : goal.loop-i-init
loop-i-init c = record {
  image = λ start is. kept_none c.args.events.now.items c.args.first _ c.requires.within c.requires.each start _ c.args.keep.now is;
  shape = search rules;
}

pub loop-i-preserved : goal.loop-i-preserved
loop-i-preserved c = record {
  image = λ start is. elim c.if-kept.branch [
    | then-kept w ↦ rw w.disks-is (kept_more c.args.events.now.items c.args.first _ c.requires.within c.requires.each start c.args.keep.now c.loop-i.i (omega arith) _ w.event_at.ensures _ _ (search rules) (c.loop-i.invariant.image start is) w.make.ensures.image)
    | else-kept w ↦ rw w.disks-is (kept_less c.args.events.now.items c.args.first _ c.requires.within c.requires.each start c.args.keep.now c.loop-i.i (omega arith) _ w.if-kept.false (c.loop-i.invariant.image start is))
  ];
  shape = elim c.if-kept.branch [
    | then-kept w ↦ rw w.disks-is (same_shape _ _ _ c.loop-i.invariant.shape w.make.ensures.shape)
    | else-kept w ↦ rw w.disks-is c.loop-i.invariant.shape
  ];
}

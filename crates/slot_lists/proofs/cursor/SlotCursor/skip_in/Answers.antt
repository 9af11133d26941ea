-- Sectors are passed in the run, or all that it has left, or none is left.
use Rattle.std.proofs.Common.{◌+◌, ◌-◌, ◌∙◌, drop, refl, ap, arith}
use Rattle.slot_lists.specs.Cursor.{left_of}
use Rattle.slot_lists.proofs.RunLemmas.{left_from, left-past, left-passed, left-over, left-none-passed}
use Rattle.slot_lists.proofs.cursor.SlotCursor.skip_in.Goals as goal

pub returns-then-left-from-clause-left : goal.returns-then-left-from-clause-left
unfolding left_of
returns-then-left-from-clause-left c zero =
    left-passed zero c.args.runs.now c.loop-self.self.run c.loop-self.self.offset c.loop-self.left
    ∙ c.loop-self.invariant.left zero

pub loop-self-preserved-then-self-size : goal.loop-self-preserved-then-self-size
unfolding left_of
loop-self-preserved-then-self-size c = record {
  left = λ zero.
      ap (λ size. drop c.loop-self.left (left_from zero c.args.runs.now (c.loop-self.self.run + 1) (c.loop-self.self.offset - size))) c.count_of-size.ensures
      ∙ ap (drop c.loop-self.left) (left-past zero c.args.runs.now c.loop-self.self.run c.loop-self.self.offset _ c.loop-self-test.true (omega (arith, c.if-self-size.true, c.count_of-size.ensures)))
      ∙ c.loop-self.invariant.left zero;
  same = record {
    mode = c.loop-self.invariant.same.mode;
    geometry = c.loop-self.invariant.same.geometry;
    compact = c.loop-self.invariant.same.compact;
  };
}

pub loop-self-preserved : goal.loop-self-preserved
unfolding left_of
loop-self-preserved c = record {
  left = λ zero.
      ap (λ rest. drop (c.loop-self.left - rest) (left_from zero c.args.runs.now (c.loop-self.self.run + 1) 0)) c.from-left.ensures
      ∙ left-over zero c.args.runs.now c.loop-self.self.run c.loop-self.self.offset c.loop-self.left (c.count_of-size.result - c.loop-self.self.offset) c.count_of-size.result _
      c.loop-self-test.true c.count_of-size.ensures c.if-self-size.false refl (omega (arith, c.if-left-from.false, c.from.ensures))
      ∙ c.loop-self.invariant.left zero;
  same = record {
    mode = c.loop-self.invariant.same.mode;
    geometry = c.loop-self.invariant.same.geometry;
    compact = c.loop-self.invariant.same.compact;
  };
}

pub returns-clause-left : goal.returns-clause-left
unfolding left_of
returns-clause-left c zero =
    left-none-passed zero c.args.runs.now c.loop-self.self.run c.loop-self.self.offset c.loop-self.left c.loop-self-test.false
    ∙ c.loop-self.invariant.left zero

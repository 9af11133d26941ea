-- The cursor is at a sector, or passes a run.
use Rattle.std.proofs.Common.{◌-◌, ◌+◌, ◌∙◌, Some, sym, ap}
use Rattle.slot_lists.specs.Made.{place_view}
use Rattle.slot_lists.specs.Cursor.{left_of, first_place}
use Rattle.slot_lists.proofs.RunLemmas.{left_from, left-at, left-past, left-none}
use Rattle.slot_lists.proofs.cursor.SlotCursor.place.Goals as goal

pub returns-in-Some-clause-place : goal.returns-in-Some-clause-place
unfolding left_of
returns-in-Some-clause-place c =
    let found = c.in-Some.ensures.found in
    ap Some found.1
    ∙ ap first_place (sym (left-at (place_view c.args.zero) c.args.runs.now c.loop-self.self.run c.loop-self.self.offset _ c.loop-self-test.true found.0))
    ∙ ap first_place c.loop-self.invariant.left

pub loop-self-preserved : goal.loop-self-preserved
unfolding left_of
loop-self-preserved c = record {
  left =
      ap (λ count. left_from (place_view c.args.zero) c.args.runs.now (c.loop-self.self.run + 1) (c.loop-self.self.offset - count)) c.count_of.ensures
      ∙ left-past (place_view c.args.zero) c.args.runs.now c.loop-self.self.run c.loop-self.self.offset _ c.loop-self-test.true c.in_default.ensures.found
      ∙ c.loop-self.invariant.left;
  same = record {
    mode = c.loop-self.invariant.same.mode;
    geometry = c.loop-self.invariant.same.geometry;
    compact = c.loop-self.invariant.same.compact;
  };
}

pub returns-clause-place : goal.returns-clause-place
unfolding left_of
returns-clause-place c =
    ap first_place (sym (left-none (place_view c.args.zero) c.args.runs.now c.loop-self.self.run c.loop-self.self.offset c.loop-self-test.false))
    ∙ ap first_place c.loop-self.invariant.left

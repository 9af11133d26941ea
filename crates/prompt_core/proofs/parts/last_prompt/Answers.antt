use Rattle.std.proofs.Common.{◌+◌, true, false, sym, ◌∙◌, arith}
use Rattle.prompt_core.proofs.PartsLemmas.{begins_at, last_on}
use Rattle.prompt_core.proofs.parts.last_prompt.Goals as goal
use Rattle.prompt_core.proofs.parts.last_prompt.Goals.{then-begins_prompt, else-begins_prompt}

pub loop-place-preserved : goal.loop-place-preserved
loop-place-preserved c = elim c.if-begins_prompt.branch [
  | then-begins_prompt w ↦ record {
    last = rw w.found-is (last_on c.args.text.now c.loop-place.found c.loop-place.place (c.loop-place.place + 1) true (omega arith) (omega arith)
        (begins_at c.args.text.now c.loop-place.place true (sym c.begins_prompt.ensures ∙ w.if-begins_prompt.true)) c.loop-place.invariant.last);
    within = omega arith;
  }
  | else-begins_prompt w ↦ record {
    last = rw w.found-is (last_on c.args.text.now c.loop-place.found c.loop-place.place (c.loop-place.place + 1) false (omega arith) (omega arith)
        (begins_at c.args.text.now c.loop-place.place false (sym c.begins_prompt.ensures ∙ w.if-begins_prompt.false)) c.loop-place.invariant.last);
    within = omega arith;
  }
]

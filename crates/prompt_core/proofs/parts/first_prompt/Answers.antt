use Rattle.std.proofs.Common.{◌+◌, false, sym, ◌∙◌, arith}
use Rattle.prompt_core.proofs.PartsLemmas.{begins_at, first_on}
use Rattle.prompt_core.proofs.parts.first_prompt.Goals as goal

pub loop-place-preserved : goal.loop-place-preserved
loop-place-preserved c =
    first_on c.args.text.now c.loop-place.place (c.loop-place.place + 1) (omega arith) (omega arith)
    (begins_at c.args.text.now c.loop-place.place false (sym c.begins_prompt.ensures ∙ c.if-begins_prompt.false)) c.loop-place.invariant

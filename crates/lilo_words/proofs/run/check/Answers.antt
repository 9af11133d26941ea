use Rattle.std.proofs.Common.{◌∙◌, sym, ap, None, Err}
use Rattle.lilo_words.specs.Run.{IsPartAt}
use Rattle.lilo_words.specs.View.{part_view}
use Rattle.lilo_words.proofs.RunReads.{rest_last, run_at-parts, run_at-wrong}
use Rattle.lilo_words.proofs.run.check.Goals as goal

pub returns-in-None-clause-run : goal.returns-in-None-clause-run
returns-in-None-clause-run c =
    let last : IsPartAt c.args.words.now c.loop-read.from (part_view c.args.words.now c.in-Ok.read.part) None = rw c.in-None.is at c.in-Ok.ensures in
    run_at-parts c.args.words.now (rest_last c.args.words.now c.loop-read.from (part_view c.args.words.now c.in-Ok.read.part) c.loop-read.invariant last)

pub returns-in-Err-clause-wrong : goal.returns-in-Err-clause-wrong
returns-in-Err-clause-wrong c =
    run_at-wrong c.args.words.now c.in-Err.place (c.loop-read.invariant.wrong c.in-Err.place c.in-Err.ensures)
    ∙ ap Err (sym c.wrong_at.ensures.wrong)

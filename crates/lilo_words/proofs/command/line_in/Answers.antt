use Rattle.std.proofs.Common.{◌≡◌, arith, ◌∙◌, refl, true, false}
use Rattle.lilo_model.specs.Words as model
use Rattle.lilo_words.proofs.CommandReads.{bad_from-good, bad_from-bad, bad_from-end}
use Rattle.lilo_words.proofs.command.line_in.Goals as goal

pub loop-place-init : goal.loop-place-init
loop-place-init c = refl

pub returns-then-not-is_line_word : goal.returns-then-not-is_line_word
returns-then-not-is_line_word c =
    let bad : model.is_line_word c.word.result.now ≡ false = cc in
    rw (c.loop-place.invariant ∙ bad_from-bad c.args.words.now c.loop-place.place c.args.end c.word.result.now c.loop-place-test.true c.requires.end c.word.ensures bad) refl

pub loop-place-preserved : goal.loop-place-preserved
loop-place-preserved c =
    let good : model.is_line_word c.word.result.now ≡ true = cc in
    c.loop-place.invariant ∙ bad_from-good c.args.words.now c.loop-place.place c.args.end c.word.result.now c.loop-place-test.true c.requires.end c.word.ensures good

pub returns : goal.returns
returns c =
    rw (c.loop-place.invariant ∙ bad_from-end c.args.words.now c.loop-place.place c.args.end (omega arith)) refl

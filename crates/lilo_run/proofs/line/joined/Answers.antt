use Rattle.std.proofs.Common.{◌∙◌, inl, inr, ap, refl, arith}
use Rattle.lilo_model.specs.LineWords.{joined_words}
use Rattle.lilo_run.proofs.ShotLemmas.{joined_more, joined_none, range_stop}
use Rattle.lilo_run.proofs.line.joined.Goals as goal

pub loop-at-init : goal.loop-at-init
loop-at-init c = record { start = omega arith; within = inr refl; text = rw c.new-text.ensures.items (joined_none c.args.words.now c.args.from) }

pub loop-at-preserved : goal.loop-at-preserved
loop-at-preserved c =
    let invariant = c.loop-at.invariant in
    record {
      start = let before = invariant.start in omega (arith, before);
      within = inl (omega arith);
      text = rw (c.in_ok-push_word.ensures, c.as_bytes.ensures.value) (joined_more c.args.words.now c.args.from c.loop-at.at c.word.result.now c.loop-at.text.items invariant.text invariant.start c.word.ensures);
    }

pub returns : goal.returns
returns c =
    c.loop-at.invariant.text
    ∙ ap joined_words (range_stop c.args.words.now c.args.from c.args.to c.loop-at.at c.loop-at.invariant.start c.loop-at.invariant.within (omega arith))

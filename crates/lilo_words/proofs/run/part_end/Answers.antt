use Rattle.std.proofs.Common.{◌≡◌, ◌<◌, ◌≤◌, length, refl, sym, ◌∙◌, arith, true, false}
use Rattle.lilo_model.specs.Words.{is_then}
use Rattle.lilo_words.proofs.RunReads.{then_from-other, then_from-then, then_from-end}
use Rattle.lilo_words.proofs.run.part_end.Goals as goal

pub loop-place-init : goal.loop-place-init
loop-place-init c = refl

pub returns-then-eq-clause-end : goal.returns-then-eq-clause-end
returns-then-eq-clause-end c =
    let is : is_then c.word.result.now ≡ true = cc in
    let less : c.loop-place.place < length c.args.words.now = omega arith in
    sym (c.loop-place.invariant ∙ then_from-then c.args.words.now c.loop-place.place c.word.result.now less c.word.ensures is)

pub loop-place-preserved : goal.loop-place-preserved
loop-place-preserved c =
    let isnt : is_then c.word.result.now ≡ false = cc in
    let less : c.loop-place.place < length c.args.words.now = omega arith in
    c.loop-place.invariant ∙ then_from-other c.args.words.now c.loop-place.place c.word.result.now less c.word.ensures isnt

pub returns-clause-end : goal.returns-clause-end
returns-clause-end c =
    let past : length c.args.words.now ≤ c.loop-place.place = omega arith in
    let last : c.count.result ≡ c.loop-place.place = omega arith in
    last ∙ sym (c.loop-place.invariant ∙ then_from-end c.args.words.now c.loop-place.place past)

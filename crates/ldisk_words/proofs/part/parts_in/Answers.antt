use Rattle.std.proofs.Common.{◌+◌, ◌∙◌, sym, ap, map, [], ◌∷◌, drop, length, arith}
use Rattle.std.proofs.lemmas.List.{map-append, length-append}
use Rattle.ldisk_model.specs.Arguments.{parts_at}
use Rattle.ldisk_words.specs.View.{part_view}
use Rattle.ldisk_words.proofs.PartLemmas.{before_parts, parts_stop, parts_go, parts_end}
use Rattle.ldisk_words.proofs.part.parts_in.Goals as goal

pub returns-in_err-part_in : goal.returns-in_err-part_in
returns-in_err-part_in c =
    let none = parts_stop c.args.words.now c.loop-at.at (map part_view c.loop-at.parts.items) c.loop-at.invariant.parts
    c.word.result.now (omega (arith, c.loop-at-test.true, c.count-at-end.ensures)) c.word.ensures c.in_err-part_in.ensures in
    rw c.from_residual.ensures none

pub loop-at-preserved : goal.loop-at-preserved
loop-at-preserved c =
    let more = parts_go c.args.words.now c.loop-at.at (map part_view c.loop-at.parts.items) c.loop-at.invariant.parts
    c.word.result.now (omega (arith, c.loop-at-test.true, c.count-at-end.ensures)) c.word.ensures (part_view c.in_ok-part_in.field-0) c.in_ok-part_in.ensures in
    let items = ap (map part_view) c.push.ensures.items ∙ map-append part_view c.loop-at.parts.items (c.in_ok-part_in.field-0 ∷ []) in
    let long = ap (λ items. length items) c.push.ensures.items ∙ length-append c.loop-at.parts.items (c.in_ok-part_in.field-0 ∷ []) in
    record {
      parts = more ∙ ap (λ items. before_parts items (parts_at (drop (c.loop-at.at + 1) c.args.words.now))) (sym items);
      count = omega (arith, long, c.loop-at.invariant.count);
    }

pub returns : goal.returns
returns c = parts_end c.args.words.now c.loop-at.at (map part_view c.loop-at.parts.items) c.loop-at.invariant.parts (omega (arith, c.loop-at-test.false, c.count-at-end.ensures))

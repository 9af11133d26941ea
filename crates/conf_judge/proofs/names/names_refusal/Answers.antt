use Rattle.std.proofs.Common.{◌≡◌, ◌∙◌, sym, refl, arith, drop, take, length-append, []}
use Rattle.std.proofs.lemmas.List.{drop_all, take_all}
use Rattle.lilo_model.specs.Conf.{names_from}
use Rattle.conf_judge.proofs.SectionLemmas.{lists_at, names_from-here, names_from-next, names_of-more, names_reason-few}
use Rattle.conf_judge.proofs.names.names_refusal.Goals as goal

pub returns-in-Some : goal.returns-in-Some
returns-in-Some c =
    let here = lists_at c.args.sections.now c.loop-index.index c.index-sections-index.result c.loop-index-test.true c.index-sections-index.is in
    rw (← c.loop-index.invariant.rest, here) (names_from-here _ _ _ c.in-Some.fault c.in-Some.ensures)

pub loop-index-preserved : goal.loop-index-preserved
loop-index-preserved c =
    let here = lists_at c.args.sections.now c.loop-index.index c.index-sections-index.result c.loop-index-test.true c.index-sections-index.is in
    let more = names_of-more c.args.sections.now c.loop-index.index c.index-sections-index.result c.loop-index-test.true c.index-sections-index.is in
    let few = names_reason-few _ _ c.in_default.ensures in
    record {
      count = rw (more, length-append, ← c.loop-index.invariant.count, ← c.names_count-count.ensures.count) refl;
      few = rw (c.loop-index.invariant.count, c.names_count-count.ensures.count) few;
      rest = rw more (sym (names_from-next _ _ _ c.in_default.ensures)) ∙ rw here at c.loop-index.invariant.rest;
    }

pub returns : goal.returns
unfolding names_from
returns c =
    let none : drop c.loop-index.index c.args.sections.now ≡ [] = drop_all c.loop-index.index c.args.sections.now (omega arith) in
    let all : take c.loop-index.index c.args.sections.now ≡ c.args.sections.now = take_all c.loop-index.index c.args.sections.now (omega arith) in
    rw (← c.loop-index.invariant.rest, none, all) refl

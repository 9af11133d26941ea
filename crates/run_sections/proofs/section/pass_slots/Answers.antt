-- One slot more is passed, or none is left.
use Rattle.std.proofs.Common.{Ok, sym, ap, ◌∙◌, arith, drop}
use Rattle.run_sections.proofs.LeftLemmas.{drop-more, drop-none}
use Rattle.run_sections.proofs.section.pass_slots.Goals as goal

pub loop-passed-preserved : goal.loop-passed-preserved
loop-passed-preserved c = record {
  left = λ slots made.
      (c.in-Some.ensures.next (drop c.loop-passed.passed slots) (c.loop-passed.invariant.left slots made)).left
      ∙ ap Ok (drop-more c.loop-passed.passed slots);
  few = omega (arith, c.loop-passed-test.true);
}

pub returns-in-None : goal.returns-in-None
returns-in-None c slots made =
    let none = c.in-None.ensures.next (drop c.loop-passed.passed slots) (c.loop-passed.invariant.left slots made) in
    none.1 ∙ ap Ok (sym (drop-none c.loop-passed.passed c.args.count slots none.0 (omega (arith, c.loop-passed-test.true))))

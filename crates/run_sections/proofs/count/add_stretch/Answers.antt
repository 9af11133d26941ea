-- One sector more is counted.
use Rattle.std.proofs.Common.{◌+◌, ◌-◌, ◌++◌, ap, ◌∙◌, arith}
use Rattle.slot_lists.specs.Runs.{stretch_places}
use Rattle.run_sections.specs.Counted.{count_left}
use Rattle.run_sections.proofs.PassLemmas.{stretch-next}
use Rattle.run_sections.proofs.count.add_stretch.Goals as goal

pub returns-in-Err-clause-refused : goal.returns-in-Err-clause-refused
returns-in-Err-clause-refused c rest =
    let offset = c.loop-offset.offset in
    c.loop-offset.invariant.left rest
    ∙ ap (count_left c.args.naming c.loop-offset.counted)
    (stretch-next c.args.disk c.args.start c.args.count offset (c.args.start + c.from.result) rest c.loop-offset-test.true (ap (λ n. c.args.start + n) c.from.ensures))
    ∙ c.in-Err.ensures.refused (stretch_places c.args.disk (c.args.start + (offset + 1)) (c.args.count - (offset + 1)) ++ rest)

pub loop-offset-preserved : goal.loop-offset-preserved
loop-offset-preserved c =
    let offset = c.loop-offset.offset in
    record {
      left = λ rest.
          c.loop-offset.invariant.left rest
          ∙ ap (count_left c.args.naming c.loop-offset.counted)
          (stretch-next c.args.disk c.args.start c.args.count offset (c.args.start + c.from.result) rest c.loop-offset-test.true (ap (λ n. c.args.start + n) c.from.ensures))
          ∙ c.in-Ok.ensures.counted (stretch_places c.args.disk (c.args.start + (offset + 1)) (c.args.count - (offset + 1)) ++ rest);
      held = c.add_sector.ensures.held;
      room = omega (arith, c.loop-offset.invariant.room, c.add_sector.ensures.room);
    }

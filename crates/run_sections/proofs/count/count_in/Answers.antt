-- One run more is counted.
use Rattle.std.proofs.Common.{◌+◌, drop, ap, ◌∙◌, arith}
use Rattle.slot_lists.specs.declared.runs.Run.TheVariants.{Stretch}
use Rattle.slot_lists.specs.Runs.{places_in}
use Rattle.run_sections.specs.Counted.{count_left}
use Rattle.run_sections.proofs.PassLemmas.{runs-next, runs-long}
use Rattle.run_sections.proofs.count.count_in.Goals as goal

pub add_run-requires-clause-room : goal.add_run-requires-clause-room
add_run-requires-clause-room c =
    let long = runs-long c.args.runs.now c.loop-run.run-index (Stretch 0 0 0) c.loop-run-test.true in
    omega (arith, c.loop-run.invariant.room, long, c.requires.room)

pub loop-run-preserved : goal.loop-run-preserved
loop-run-preserved c =
    let long = runs-long c.args.runs.now c.loop-run.run-index (Stretch 0 0 0) c.loop-run-test.true in
    record {
      left =
          c.loop-run.invariant.left
          ∙ ap (count_left c.args.naming c.loop-run.counted) (runs-next c.args.runs.now c.loop-run.run-index (Stretch 0 0 0) c.loop-run-test.true)
          ∙ c.in-Ok.ensures.counted (places_in (drop (c.loop-run.run-index + 1) c.args.runs.now));
      held = c.add_run.ensures.held;
      room = omega (arith, c.loop-run.invariant.room, long, c.add_run.ensures.room);
    }

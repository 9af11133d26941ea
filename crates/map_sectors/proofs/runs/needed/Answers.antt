-- A run more.
use Rattle.std.proofs.Common.{arith}
use Rattle.map_sectors.proofs.NeededLemmas.{one-more, most-more}
use Rattle.map_sectors.proofs.runs.needed.Goals as goal

pub overflow_add-needed : goal.overflow_add-needed
overflow_add-needed c =
    let most = most-more c.args.runs.now c.loop-run.run-index c.loop-run.needed c.begun-needed.result _ c.loop-run-test.true c.begun-needed.ensures.few c.loop-run.invariant.most in
    omega (arith, most, c.requires)

pub loop-run-preserved : goal.loop-run-preserved
loop-run-preserved c = record {
  so = one-more c.args.runs.now c.loop-run.run-index c.loop-run.needed c.begun-needed.result c.loop-run.last c.later-last.result _ c.loop-run-test.true c.begun-needed.ensures.value c.later-last.ensures c.loop-run.invariant.so;
  most = most-more c.args.runs.now c.loop-run.run-index c.loop-run.needed c.begun-needed.result _ c.loop-run-test.true c.begun-needed.ensures.few c.loop-run.invariant.most;
}

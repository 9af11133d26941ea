-- The sectors of one run more.
use Rattle.std.proofs.Common.{arith}
use Rattle.map_sectors.proofs.FileLemmas.{sectors-more}
use Rattle.map_sectors.proofs.chains.sectors_of.Goals as goal

pub overflow_add-sectors : goal.overflow_add-sectors
overflow_add-sectors c =
    let more = sectors-more c.args.runs.now c.loop-run.run-index c.loop-run.sectors c.count_of-sectors.result _ c.loop-run-test.true c.count_of-sectors.ensures c.loop-run.invariant.so in
    let most = more.0 in
    omega (arith, most, c.requires)

pub loop-run-preserved : goal.loop-run-preserved
loop-run-preserved c = record {
  so = (sectors-more c.args.runs.now c.loop-run.run-index c.loop-run.sectors c.count_of-sectors.result _ c.loop-run-test.true c.count_of-sectors.ensures c.loop-run.invariant.so).1;
}

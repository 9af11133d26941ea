-- A block has two sectors at most.
use Rattle.std.proofs.Common.{arith}
use Rattle.file_runs.proofs.NeededLemmas.{length-after}
use Rattle.file_runs.proofs.file.add_block.Goals as goal

pub returns-clause-long : goal.returns-clause-long
returns-clause-long g c =
    let long = length-after _ _ c.block_run-run.result c.in_ok-add_run.ensures.places in
    omega (arith, long, c.block_run-run.ensures.count, c.sectors_in_block.ensures, c.requires.room)

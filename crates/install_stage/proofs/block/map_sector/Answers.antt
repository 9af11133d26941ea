use Rattle.std.proofs.Common.{arith}
use Rattle.install_stage.proofs.BlockLemmas.{zeros_after}
use Rattle.install_stage.proofs.block.map_sector.Goals as goal

pub returns-else-index-places : goal.returns-else-index-places
returns-else-index-places c machine may =
    let past = c.if-index-places.false in
    zeros_after machine c.args.plan.now c.args.places.now may c.args.index (omega (arith, past))

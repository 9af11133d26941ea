use Rattle.std.proofs.Common.{arith}
use Rattle.minix_format.proofs.MapLemmas.{sector-by_bytes}
use Rattle.minix_format.proofs.bitmap.map_sector.Goals as goal

pub returns : goal.returns
returns c =
    sector-by_bytes c.loop-at.byte-items c.args.last c.args.sector c.loop-at-test.array_long
    (λ k below. c.loop-at.invariant k (omega (arith, below, c.loop-at-test.false)))

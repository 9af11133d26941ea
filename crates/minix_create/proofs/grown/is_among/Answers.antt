use Rattle.std.proofs.Common.{refl, arith}
use Rattle.minix_create.proofs.grown.is_among.Goals as goal

pub returns-then-zones-at : goal.returns-then-zones-at
returns-then-zones-at c = (λ done. (c.loop-at.at, c.loop-at-test.true, c.if-zones-at.true), λ among. refl)

pub returns : goal.returns
returns c = (λ yes. absurd (cc), λ among. absurd (c.loop-at.invariant among.0 (let low = among.1 in let end = c.loop-at-test.false in omega (arith, low, end)) among.2))

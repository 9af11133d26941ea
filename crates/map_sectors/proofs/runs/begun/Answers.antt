-- A run is begun unless it goes on where another one ends.
use Rattle.std.proofs.Common.{if◌then◌else◌, sym, ap, arith}
use Rattle.map_sectors.proofs.NeededLemmas.{begun-first, begun-after}
use Rattle.map_sectors.proofs.runs.begun.Goals as goal

pub returns-then-count_of-eq0-2-clause-value : goal.returns-then-count_of-eq0-2-clause-value
returns-then-count_of-eq0-2-clause-value c rest =
    begun-first c.args.last.now c.args.run.now rest (omega (arith, c.count_of.ensures, c.if-count_of-eq0.false)) (omega (arith, c.count_of-2.ensures, c.if-count_of-eq0-2.true))

pub returns-then-goes_on-clause-value : goal.returns-then-goes_on-clause-value
returns-then-goes_on-clause-value c rest =
    begun-after c.args.last.now c.args.run.now rest c.goes_on.result 0 (omega (arith, c.count_of.ensures, c.if-count_of-eq0.false))
    (omega (arith, c.count_of-2.ensures, c.if-count_of-eq0-2.false)) c.goes_on.ensures (ap (λ test. if test then 0 else 1) (sym c.if-goes_on.true))

pub returns-clause-value : goal.returns-clause-value
returns-clause-value c rest =
    begun-after c.args.last.now c.args.run.now rest c.goes_on.result 1 (omega (arith, c.count_of.ensures, c.if-count_of-eq0.false))
    (omega (arith, c.count_of-2.ensures, c.if-count_of-eq0-2.false)) c.goes_on.ensures (ap (λ test. if test then 0 else 1) (sym c.if-goes_on.false))

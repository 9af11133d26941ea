-- Both stretches lie on the first disk.
use Rattle.std.proofs.Common.{sym, subst, arith}
use Rattle.std.specs.Prelude.{All}
use Rattle.std.proofs.lemmas.List.Elements.{All-nil, All-push}
use Rattle.slot_lists.specs.Runs.{IsRun}
use Rattle.map_tests.proofs.lists.three_runs.Goals as goal

pub returns : goal.returns
returns c =
    let none = subst (All IsRun) (sym c.new-runs.ensures.items) (All-nil IsRun) in
    let one = subst (All IsRun) (sym c.in_ok-push.ensures.items) (All-push IsRun _ _ none (omega arith, omega (arith, c.ranges.start.fits, c.ranges.count.fits))) in
    let two = subst (All IsRun) (sym c.in_ok-push-2.ensures.items) (All-push IsRun _ _ one tt) in
    let three = subst (All IsRun) (sym c.in_ok-push-3.ensures.items) (All-push IsRun _ _ two (omega arith, omega (arith, c.ranges.next.fits, c.ranges.rest.fits))) in
    record { runs = subst (All IsRun) (sym c.new.ensures) three }

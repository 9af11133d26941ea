-- Each slot is made in turn.
use Rattle.std.proofs.Common.{sym}
use Rattle.slot_lists.proofs.MadeLemmas.{check-more, check-stops}
use Rattle.slot_lists.proofs.slots.check_places.Goals as goal

pub returns-in-Err : goal.returns-in-Err
returns-in-Err c =
    sym (check-stops _ _ c.args.places.now c.loop-place.place-index _ c.loop-place-test.true c.loop-place.invariant _ (sym c.in-Err.ensures.made))

pub loop-place-preserved : goal.loop-place-preserved
loop-place-preserved c =
    check-more _ _ c.args.places.now c.loop-place.place-index _ c.loop-place-test.true c.loop-place.invariant _ (sym c.in-Ok.ensures.made)

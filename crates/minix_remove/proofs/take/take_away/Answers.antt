-- The entry is cleared, and then the inode is let go.
use Rattle.std.proofs.Common.{◌≡◌, Err, rules}
use Rattle.minix_remove.proofs.TakeLemmas.{takes_refused, may_let_go, takes_done}
use Rattle.minix_remove.proofs.take.take_away.Goals as goal

pub returns-in_err-turn_free-clause-takes : goal.returns-in_err-turn_free-clause-takes
returns-in_err-turn_free-clause-takes g c directory name may =
    let fault = c.in_err-turn_free.field-0.0 in
    let given : c.from_residual.result ≡ Err fault = search rules in
    rw given
    (takes_refused c.args.volume.now directory name c.args.target.now c.slot_of-index.result c.requires.fits (rw c.layout.ensures.value at c.slot_of-index.ensures.low) (rw c.layout.ensures.value at c.slot_of-index.ensures.is) may
    c.turn_free.new.volume fault c.in_err-turn_free.ensures.turns c.in_err-turn_free.ensures.removes)

pub release-requires-clause-may : goal.release-requires-clause-may
release-requires-clause-may g c told =
    let some = c.requires.may (c.in_ok-turn_free.ensures.turns.goes_on.told_before told) in
    may_let_go c.args.volume.now some.directory some.name c.args.target.now c.slot_of-index.result c.requires.fits (rw c.layout.ensures.value at c.slot_of-index.ensures.low) (rw c.layout.ensures.value at c.slot_of-index.ensures.is)
    (λ before. some.is) c.turn_free.new.volume c.in_ok-turn_free.ensures.turns c.in_ok-turn_free.ensures.removes c.in_ok-turn_free.ensures.entry told

pub returns-clause-takes : goal.returns-clause-takes
returns-clause-takes g c directory name may =
    takes_done c.args.volume.now directory name c.args.target.now c.slot_of-index.result c.requires.fits (rw c.layout.ensures.value at c.slot_of-index.ensures.low) (rw c.layout.ensures.value at c.slot_of-index.ensures.is) may
    c.turn_free.new.volume c.in_ok-turn_free.ensures.turns c.in_ok-turn_free.ensures.removes c.in_ok-turn_free.ensures.entry c.release.new.volume c.release.result c.release.ensures.releases

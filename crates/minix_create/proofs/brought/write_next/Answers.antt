use Rattle.std.proofs.Common.{◌≡◌, ◌≢◌, ◌%◌, Err, rules}
use Rattle.lilo_model.specs.MinixEntries.{entries_per_block}
use Rattle.minix_grow.specs.Places.{size_to}
use Rattle.minix_layout.specs.View.{kind_view, inode_view}
use Rattle.minix_create.proofs.BroughtLemmas.{next_in_hole, next_uncleared, next_in_zone}
use Rattle.minix_create.proofs.brought.write_next.Goals as goal

pub returns-then-at-eq0-clause-brings : goal.returns-then-at-eq0-clause-brings
returns-then-at-eq0-clause-brings g c next =
    let old = c.args.volume.now in
    let size : c.size_to-size.result ≡ size_to (kind_view old.layout.kind) c.args.place = rw c.layout.ensures.value at c.size_to-size.ensures in
    let none : c.args.at.now.zone ≡ 0 = search rules in
    next_in_hole old c.args.directory c.args.place c.args.at.now.zone (inode_view c.args.at.now.node) c.requires.room next none c.requires.fits c.turn_size.new.volume c.size_to-size.result size c.turn_size.result
    c.turn_size.ensures.turns c.turn_size.ensures.unseen

pub returns-in_err-turn_free-clause-brings : goal.returns-in_err-turn_free-clause-brings
returns-in_err-turn_free-clause-brings g c next =
    let old = c.args.volume.now in
    let fault = c.in_err-turn_free.field-0.0 in
    let given : c.from_residual.result ≡ Err fault = search rules in
    let some : c.args.at.now.zone ≢ 0 = search rules in
    let slot : c.slot_of.result ≡ c.args.place % entries_per_block (kind_view old.layout.kind) = rw c.layout.ensures.value at c.slot_of.ensures.is in
    let low = rw c.layout.ensures.value at c.slot_of.ensures.low in
    rw given (next_uncleared old c.args.directory c.args.place c.args.at.now.zone (inode_view c.args.at.now.node) c.requires.room next some (c.requires.data some) c.requires.fits c.turn_free.new.volume c.slot_of.result low slot
    c.turn_free.ensures.past fault c.in_err-turn_free.ensures.turns)

pub returns-clause-brings : goal.returns-clause-brings
returns-clause-brings g c next =
    let old = c.args.volume.now in
    let size : c.size_to-size.result ≡ size_to (kind_view old.layout.kind) c.args.place = rw c.layout.ensures.value at c.size_to-size.ensures in
    let some : c.args.at.now.zone ≢ 0 = search rules in
    let slot : c.slot_of.result ≡ c.args.place % entries_per_block (kind_view old.layout.kind) = rw c.layout.ensures.value at c.slot_of.ensures.is in
    let low = rw c.layout.ensures.value at c.slot_of.ensures.low in
    let e = c.in_ok-turn_free.ensures in
    next_in_zone old c.args.directory c.args.place c.args.at.now.zone (inode_view c.args.at.now.node) c.requires.room next some (c.requires.data some) c.requires.fits c.turn_free.new.volume c.slot_of.result low slot
    e.past e.turns e.past_free e.entry c.turn_size-2.new.volume c.size_to-size.result size c.turn_size-2.result c.turn_size-2.ensures.turns c.turn_size-2.ensures.unseen

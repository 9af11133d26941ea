use Rattle.std.proofs.Common.{◌≡◌, ◌+◌, ◌*◌, ◌/◌, ◌%◌, ℕ, arith, sym, subst}
use Rattle.disk_trait.proofs.NotWrittenLemmas.{not_written_join}
use Rattle.disk_trait.specs.NotWritten.{IsOther}
use Rattle.lilo_model.specs.MinixEntries.{entries_per_block}
use Rattle.lilo_model.specs.MinixLayout.{entry_size, zone_sector}
use Rattle.minix_layout.specs.View.{kind_view, inode_view}
use Rattle.minix_turns.proofs.JoinedLemmas.{unseen_join}
use Rattle.minix_grow.specs.Places.{size_to}
use Rattle.minix_grow.proofs.ExtendLemmas.{past_at, first, may_have_size, next_is_free, next_keeps}
use Rattle.minix_grow.proofs.OtherLemmas.{other_stays}
use Rattle.minix_zones.specs.Volume.{past_of}
use Rattle.minix_grow.proofs.extend.extend_in_zone.Goals as goal

pub returns-in_err-turn_free-clause-unseen : goal.returns-in_err-turn_free-clause-unseen
returns-in_err-turn_free-clause-unseen g c next =
    let slot : c.slot_of-index.result ≡ c.args.place % entries_per_block (kind_view c.args.volume.now.layout.kind) = rw c.layout.ensures.value at c.slot_of-index.ensures.is in
    c.turn_free.ensures.past c.args.directory c.args.place
    (past_at c.args.volume.now c.turn_free.new.volume c.args.directory c.args.place c.args.zone c.slot_of-index.result 0 (inode_view c.args.node.now) c.requires.from c.requires.below c.requires.fits next slot)

pub returns-clause-unseen : goal.returns-clause-unseen
returns-clause-unseen g c next =
    let slot : c.slot_of-index.result ≡ c.args.place % entries_per_block (kind_view c.args.volume.now.layout.kind) = rw c.layout.ensures.value at c.slot_of-index.ensures.is in
    let size : c.size_to-size.result ≡ size_to (kind_view c.args.volume.now.layout.kind) c.args.place = rw c.layout.ensures.value at c.size_to-size.ensures in
    let old = c.args.volume.now in
    let mid = c.turn_free.new.volume in
    let node = inode_view c.args.node.now in
    let e = c.in_ok-turn_free.ensures in
    unseen_join old mid c.turn_size.new.volume
    (first old mid c.args.directory c.args.place c.args.zone c.slot_of-index.result c.size_to-size.result node c.requires.from c.requires.below c.requires.fits next slot size c.requires.sized c.requires.small e.past e.past_free e.entry)
    (c.turn_size.ensures.unseen
    (may_have_size old mid c.args.directory c.args.place c.args.zone c.slot_of-index.result c.size_to-size.result node c.requires.from c.requires.below c.requires.fits next slot size c.requires.sized c.requires.small e.past e.past_free e.entry))

pub returns-clause-place : goal.returns-clause-place
returns-clause-place g c next =
    let slot : c.slot_of-index.result ≡ c.args.place % entries_per_block (kind_view c.args.volume.now.layout.kind) = rw c.layout.ensures.value at c.slot_of-index.ensures.is in
    let size : c.size_to-size.result ≡ size_to (kind_view c.args.volume.now.layout.kind) c.args.place = rw c.layout.ensures.value at c.size_to-size.ensures in
    let old = c.args.volume.now in
    let mid = c.turn_free.new.volume in
    let node = inode_view c.args.node.now in
    let e = c.in_ok-turn_free.ensures in
    next_is_free old mid c.args.directory c.args.place c.args.zone c.slot_of-index.result c.size_to-size.result node c.requires.from c.requires.below c.requires.fits next slot size c.requires.sized c.requires.small e.past e.past_free e.entry
    c.turn_size.new.volume c.turn_size.result
    (c.turn_size.ensures.unseen
    (may_have_size old mid c.args.directory c.args.place c.args.zone c.slot_of-index.result c.size_to-size.result node c.requires.from c.requires.below c.requires.fits next slot size c.requires.sized c.requires.small e.past e.past_free e.entry))
    c.turn_size.ensures.turns (let small = c.requires.small in omega (arith, size, small))

pub returns-in_err-turn_free-clause-others : goal.returns-in_err-turn_free-clause-others
returns-in_err-turn_free-clause-others g c d s off other =
    let slot : c.slot_of-index.result ≡ c.args.place % entries_per_block (kind_view c.args.volume.now.layout.kind) = rw c.layout.ensures.value at c.slot_of-index.ensures.is in
    let old = c.args.volume.now in
    let P : ℕ → Type 0 = λ i. IsOther old.span.disk (old.span.start + (zone_sector c.args.zone + entry_size (kind_view old.layout.kind) * i / 512)) d s in
    c.turn_free.ensures.turns.others d s (subst P (sym slot) off)

pub returns-clause-others : goal.returns-clause-others
returns-clause-others g c d s off other =
    let slot : c.slot_of-index.result ≡ c.args.place % entries_per_block (kind_view c.args.volume.now.layout.kind) = rw c.layout.ensures.value at c.slot_of-index.ensures.is in
    let old = c.args.volume.now in
    let P : ℕ → Type 0 = λ i. IsOther old.span.disk (old.span.start + (zone_sector c.args.zone + entry_size (kind_view old.layout.kind) * i / 512)) d s in
    not_written_join (past_of old) (past_of c.turn_free.new.volume) (past_of c.turn_size.new.volume) d s
    (c.turn_free.ensures.turns.others d s (subst P (sym slot) off))
    (c.turn_size.ensures.turns.others d s (other_stays old c.turn_free.new.volume c.turn_free.ensures.turns.kept c.args.directory d s other))

pub returns-clause-keeps : goal.returns-clause-keeps
returns-clause-keeps g c next =
    let slot : c.slot_of-index.result ≡ c.args.place % entries_per_block (kind_view c.args.volume.now.layout.kind) = rw c.layout.ensures.value at c.slot_of-index.ensures.is in
    let size : c.size_to-size.result ≡ size_to (kind_view c.args.volume.now.layout.kind) c.args.place = rw c.layout.ensures.value at c.size_to-size.ensures in
    let old = c.args.volume.now in
    let mid = c.turn_free.new.volume in
    let node = inode_view c.args.node.now in
    let e = c.in_ok-turn_free.ensures in
    next_keeps old mid c.args.directory c.args.place c.args.zone c.slot_of-index.result c.size_to-size.result node c.requires.from c.requires.below c.requires.fits next slot size c.requires.sized c.requires.small e.past e.past_free e.entry
    c.turn_size.new.volume c.turn_size.result c.turn_size.ensures.turns (let small = c.requires.small in omega (arith, size, small))

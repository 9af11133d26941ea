-- The checks of a name.
use Rattle.std.proofs.Common.{Ok, Err, sym, length, arith}
use Rattle.std.proofs.lemmas.Result.{err_from_is_err_and}
use Rattle.lilo_model.specs.MinixParts.{parts_of}
use Rattle.minix_layout.specs.View.{kind_view, inode_view}
use Rattle.minix_zones.specs.Volume.{volume_view, past_of}
use Rattle.minix_zones.proofs.SameLemmas.{told_back}
use Rattle.write_model.specs.Places.{all_entries}
use Rattle.minix_choice.specs.Directory.{Looks}
use Rattle.minix_choice.specs.View.{taken_view}
use Rattle.minix_choice.proofs.ChooseLemmas.{long_test, short_test, name_long, stat_bad, known, look_bad, name_exists, free_is}
use Rattle.minix_choice.proofs.pick.free_for.Goals as goal
use Rattle.minix_choice.proofs.pick.free_for.Goals.{else-seen-via-then-seen+else-not-overlooks, else-seen-via-else-seen}

pub returns-then-wish-from-clause-free : goal.returns-then-wish-from-clause-free
returns-then-wish-from-clause-free g c =
    let size = rw c.layout.ensures.value at c.entry_size.ensures in
    name_long (past_of c.args.volume.now) (volume_view c.args.volume.now) (taken_view c.args.taken.now) c.args.wish.now.directory c.args.wish.now.name.now
    (long_test (kind_view c.args.volume.now.layout.kind) c.entry_size.result c.from.result _ size c.from.ensures (omega (arith, c.if-wish-from.true)))

pub returns-in_err-stat-clause-free : goal.returns-in_err-stat-clause-free
returns-in_err-stat-clause-free g c =
    let size = rw c.layout.ensures.value at c.entry_size.ensures in
    let short = short_test (kind_view c.args.volume.now.layout.kind) c.entry_size.result c.from.result (length c.args.wish.now.name.now) size c.from.ensures (omega (arith, c.if-wish-from.false)) in
    let p = err_from_is_err_and c.from_residual.result c.from_residual.ensures.1 in
    rw (p.1, p.2)
    (stat_bad (past_of c.args.volume.now) (volume_view c.args.volume.now) (taken_view c.args.taken.now) c.args.wish.now.directory c.args.wish.now.name.now c.in_err-stat.field-0.0
    short c.in_err-stat.ensures.found)

pub returns-in_err-seen-clause-free : goal.returns-in_err-seen-clause-free
returns-in_err-seen-clause-free g c =
    let size = rw c.layout.ensures.value at c.entry_size.ensures in
    let short = short_test (kind_view c.args.volume.now.layout.kind) c.entry_size.result c.from.result (length c.args.wish.now.name.now) size c.from.ensures (omega (arith, c.if-wish-from.false)) in
    let is = known (past_of c.args.volume.now) (volume_view c.args.volume.now) c.args.wish.now.directory c.in_ok-stat.stat.inode (inode_view c.in_ok-stat.stat.node) c.in_ok-stat.ensures.number c.in_ok-stat.ensures.found c.in_ok-stat.ensures.node in
    let looks = told_back c.args.volume.now c.stat_of.new.volume
    (λ volume now. Looks c.args.wish.now.directory c.args.wish.now.name.now c.args.taken.now.promises (Err c.in_err-seen.field-0.0) (all_entries volume.layout (parts_of volume now) (inode_view c.in_ok-stat.stat.node)))
    c.stat_of.ensures.same c.in_err-seen.ensures.seen in
    let p = err_from_is_err_and c.from_residual-in_err-seen.result c.from_residual-in_err-seen.ensures.1 in
    rw (p.1, p.2)
    (look_bad (past_of c.args.volume.now) (volume_view c.args.volume.now) (taken_view c.args.taken.now) c.args.wish.now.directory c.args.wish.now.name.now (inode_view c.in_ok-stat.stat.node) c.args.taken.now.promises c.in_err-seen.field-0.0
    short is looks)

pub returns-then-not-overlooks-clause-free : goal.returns-then-not-overlooks-clause-free
returns-then-not-overlooks-clause-free g c =
    let size = rw c.layout.ensures.value at c.entry_size.ensures in
    let short = short_test (kind_view c.args.volume.now.layout.kind) c.entry_size.result c.from.result (length c.args.wish.now.name.now) size c.from.ensures (omega (arith, c.if-wish-from.false)) in
    let is = known (past_of c.args.volume.now) (volume_view c.args.volume.now) c.args.wish.now.directory c.in_ok-stat.stat.inode (inode_view c.in_ok-stat.stat.node) c.in_ok-stat.ensures.number c.in_ok-stat.ensures.found c.in_ok-stat.ensures.node in
    let looks = told_back c.args.volume.now c.stat_of.new.volume
    (λ volume now. Looks c.args.wish.now.directory c.args.wish.now.name.now c.args.taken.now.promises (Ok c.in_ok-seen.seen) (all_entries volume.layout (parts_of volume now) (inode_view c.in_ok-stat.stat.node)))
    c.stat_of.ensures.same c.in_ok-seen.ensures.seen in
    name_exists (past_of c.args.volume.now) (volume_view c.args.volume.now) (taken_view c.args.taken.now) c.args.wish.now.directory c.args.wish.now.name.now (inode_view c.in_ok-stat.stat.node) c.in_ok-seen.seen
    short is looks c.if-seen.true (sym c.if-not-overlooks.ensures)

pub returns-clause-free : goal.returns-clause-free
returns-clause-free g c =
    let size = rw c.layout.ensures.value at c.entry_size.ensures in
    let short = short_test (kind_view c.args.volume.now.layout.kind) c.entry_size.result c.from.result (length c.args.wish.now.name.now) size c.from.ensures (omega (arith, c.if-wish-from.false)) in
    let is = known (past_of c.args.volume.now) (volume_view c.args.volume.now) c.args.wish.now.directory c.in_ok-stat.stat.inode (inode_view c.in_ok-stat.stat.node) c.in_ok-stat.ensures.number c.in_ok-stat.ensures.found c.in_ok-stat.ensures.node in
    let looks = told_back c.args.volume.now c.stat_of.new.volume
    (λ volume now. Looks c.args.wish.now.directory c.args.wish.now.name.now c.args.taken.now.promises (Ok c.in_ok-seen.seen) (all_entries volume.layout (parts_of volume now) (inode_view c.in_ok-stat.stat.node)))
    c.stat_of.ensures.same c.in_ok-seen.ensures.seen in
    free_is (past_of c.args.volume.now) (volume_view c.args.volume.now) (taken_view c.args.taken.now) c.args.wish.now.directory c.args.wish.now.name.now (inode_view c.in_ok-stat.stat.node) c.in_ok-seen.seen
    short is looks
    (λ named. elim c.else-seen.branch [
      | else-seen-via-then-seen+else-not-overlooks w ↦ sym w.if-not-overlooks.ensures
      | else-seen-via-else-seen w ↦ absurd (cc)
    ])

-- What one entry changes.
use Rattle.std.proofs.Common.{refl, sym, true, false, arith}
use Rattle.minix_layout.specs.View.{kind_view}
use Rattle.minix_tree.specs.Placed.{entry_view}
use Rattle.write_model.specs.Places.{is_promised}
use Rattle.minix_choice.proofs.DirectoryLemmas.{saw_name, saw_other, saw_free, first_is, taken_stays, found_stays}
use Rattle.minix_choice.proofs.directory.look_at.Goals as goal
use Rattle.minix_choice.proofs.directory.look_at.Goals.{else-is_none-via-then-is_none+else-not-has_promised, else-is_none-via-else-is_none}

pub returns-then-eq : goal.returns-then-eq
returns-then-eq c =
    saw_name (kind_view c.args.kind) c.args.block.now c.args.at (entry_view c.entry_at-entry.result) c.args.wish.now.directory c.args.wish.now.name.now c.args.taken.now.promises c.args.place c.args.seen.now
    c.entry_at-entry.ensures c.if-entry-ne0.true (sym c.if-eq.ensures)

pub returns-else-eq : goal.returns-else-eq
returns-else-eq c =
    saw_other (kind_view c.args.kind) c.args.block.now c.args.at (entry_view c.entry_at-entry.result) c.args.wish.now.directory c.args.wish.now.name.now c.args.taken.now.promises c.args.place c.args.seen.now
    c.entry_at-entry.ensures c.if-entry-ne0.true (sym c.if-eq.ensures)

pub returns-then-not-has_promised : goal.returns-then-not-has_promised
returns-then-not-has_promised c =
    saw_free (kind_view c.args.kind) c.args.block.now c.args.at (entry_view c.entry_at-entry.result) c.args.wish.now.directory c.args.wish.now.name.now c.args.taken.now.promises c.args.place c.args.seen.now _ false
    c.entry_at-entry.ensures (omega (arith, c.if-entry-ne0.false)) (sym c.if-not-has_promised.ensures) refl (first_is c.args.seen.now.free c.args.place c.if-is_none.ensures)

pub returns-else-is_none : goal.returns-else-is_none
returns-else-is_none c =
    elim c.else-is_none.branch [
      | else-is_none-via-then-is_none+else-not-has_promised w ↦
          saw_free (kind_view c.args.kind) c.args.block.now c.args.at (entry_view c.entry_at-entry.result) c.args.wish.now.directory c.args.wish.now.name.now c.args.taken.now.promises c.args.place c.args.seen.now c.args.seen.now true
          c.entry_at-entry.ensures (omega (arith, c.if-entry-ne0.false)) (sym w.if-not-has_promised.ensures) refl (taken_stays c.args.seen.now.free c.args.place w.if-is_none.ensures)
      | else-is_none-via-else-is_none w ↦
          saw_free (kind_view c.args.kind) c.args.block.now c.args.at (entry_view c.entry_at-entry.result) c.args.wish.now.directory c.args.wish.now.name.now c.args.taken.now.promises c.args.place c.args.seen.now c.args.seen.now
          (is_promised c.args.taken.now.promises c.args.wish.now.directory c.args.place)
          c.entry_at-entry.ensures (omega (arith, c.if-entry-ne0.false)) refl refl (found_stays c.args.seen.now.free _ w.if-is_none.ensures)
    ]

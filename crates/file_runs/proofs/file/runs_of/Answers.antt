-- The blocks of a file are added one after the other.
use Rattle.std.proofs.Common.{◌≡◌, ◌≤◌, Ok, Err, length, rules, sym, ap, subst, arith}
use Rattle.std.specs.Prelude.{All}
use Rattle.std.proofs.lemmas.List.Elements.{All-nil}
use Rattle.disk_trait.specs.declared.disks.Span.{Span}
use Rattle.lilo_model.specs.Checks.{with_fault}
use Rattle.lilo_model.specs.MinixParts.{parts_of}
use Rattle.lilo_model.specs.MinixFind.{Zone}
use Rattle.minix_layout.specs.View.{inode_view}
use Rattle.minix_zones.specs.Volume.{volume_view, past_of}
use Rattle.minix_zones.proofs.SameLemmas.{told_back}
use Rattle.minix_tree.specs.View.{Refuses}
use Rattle.slot_lists.specs.Runs.{IsRun, places_in}
use Rattle.file_runs.specs.Needed.{AreJoined, runs_needed}
use Rattle.file_runs.specs.Places.{places_with_block}
use Rattle.file_runs.proofs.NeededLemmas.{joined-needed}
use Rattle.file_runs.proofs.PlacesLemmas.{none-before, found-more, refused-more, found-all}
use Rattle.file_runs.proofs.file.runs_of.Goals as goal

pub loop-index-init : goal.loop-index-init
loop-index-init g c =
    let long = ap (λ runs. length (places_in runs)) c.new-runs.ensures.items in
    record {
      so = none-before (volume_view c.args.volume.now) (inode_view c.args.inode.now) (past_of c.args.volume.now) c.new-runs.result.items c.new-runs.ensures.items;
      long = omega (arith, long);
      joined = subst AreJoined (sym c.new-runs.ensures.items) tt;
      are = λ low. subst (All IsRun) (sym c.new-runs.ensures.items) (All-nil IsRun);
      later = omega arith;
      same = search rules;
      held = c.of-held.ensures;
    }

pub loop-index-preserved : goal.loop-index-preserved
loop-index-preserved g c =
    let below = rw c.blocks_for-index-end.ensures at c.loop-index-test.true in
    let here = told_back c.args.volume.now c.loop-index.volume
    (λ volume now. with_fault Zone (places_with_block volume (parts_of volume now) (inode_view c.args.inode.now) c.loop-index.index (places_in c.loop-index.runs.items))
    ≡ Ok (places_in c.add_block.new.runs.items))
    c.loop-index.invariant.same c.in_ok-add_block.ensures.places in
    record {
      so = found-more (volume_view c.args.volume.now) (inode_view c.args.inode.now) (past_of c.args.volume.now) c.loop-index.index
          (places_in c.loop-index.runs.items) (places_in c.add_block.new.runs.items) below c.loop-index.invariant.so here;
      long = c.in_ok-add_block.ensures.long;
      joined = c.in_ok-add_block.ensures.joined c.loop-index.invariant.joined;
      are = λ low. c.in_ok-add_block.ensures.runs (subst (λ (span : Span). span.disk ≤ 3) (sym c.loop-index.invariant.same.same_span) low) (c.loop-index.invariant.are low);
      later = omega (arith, c.loop-index.invariant.later, c.in_ok-add_block.ensures.later);
      same = search rules;
      held = c.in_ok-add_block.ensures.held;
    }

pub returns-in_err-add_block-clause-places : goal.returns-in_err-add_block-clause-places
returns-in_err-add_block-clause-places g c =
    let given : c.from_residual.result ≡ Err (c.in_err-add_block.field-0.0) = search rules in
    let below = rw c.blocks_for-index-end.ensures at c.loop-index-test.true in
    let here = told_back c.args.volume.now c.loop-index.volume
    (λ volume now. Refuses (c.in_err-add_block.field-0.0) (with_fault Zone (places_with_block volume (parts_of volume now) (inode_view c.args.inode.now) c.loop-index.index (places_in c.loop-index.runs.items))))
    c.loop-index.invariant.same c.in_err-add_block.ensures.places in
    rw given
    (refused-more (volume_view c.args.volume.now) (inode_view c.args.inode.now) (past_of c.args.volume.now) c.loop-index.index (places_in c.loop-index.runs.items)
    (c.in_err-add_block.field-0.0) below c.loop-index.invariant.so here)

pub returns-clause-places : goal.returns-clause-places
returns-clause-places g c =
    let end = rw c.blocks_for-index-end.ensures at c.loop-index-test.false in
    found-all (volume_view c.args.volume.now) (inode_view c.args.inode.now) (past_of c.args.volume.now) c.loop-index.index c.loop-index.runs.items c.new.result
    end c.new.ensures c.loop-index.invariant.so

pub returns-clause-least : goal.returns-clause-least
returns-clause-least g c =
    subst (λ runs. length runs ≡ runs_needed (places_in runs)) (sym c.new.ensures) (joined-needed c.loop-index.runs.items c.loop-index.invariant.joined)

pub returns-clause-few : goal.returns-clause-few
returns-clause-few g c =
    let whole = ap (λ runs. length (places_in runs)) c.new.ensures in
    let end = rw c.blocks_for-index-end.ensures at c.loop-index.auto.index-end in
    omega (arith, whole, c.loop-index.invariant.long, end)

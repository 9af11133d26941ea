use Rattle.std.proofs.Common.{◌≡◌, ◌∙◌, sym, true, arith}
use Rattle.std.specs.Prelude.{is_some}
use Rattle.disk_trait.specs.Past.{Image}
use Rattle.lilo_model.specs.MinixParts.{Volume}
use Rattle.minix_zones.specs.Volume.{volume_view, past_of}
use Rattle.minix_steps.specs.Bitmap.{end_of}
use Rattle.minix_steps.specs.Free.{is_free_on, IsLowest}
use Rattle.minix_steps.proofs.FindLemmas.{inode_found, no_inode, end_within}
use Rattle.minix_zones.proofs.SameLemmas.{told_back}
use Rattle.minix_steps.proofs.find.find_inode.Goals as goal

pub returns-then-is_some-clause-inode : goal.returns-then-is_some-clause-inode
returns-then-is_some-clause-inode g c =
    let bitmap = c.inode_bitmap-bitmap.result in
    let some : is_some c.in_ok-found.found ≡ true = sym c.is_some.ensures ∙ c.if-is_some.true in
    let P : Volume → Image → Type 0 = λ volume now. IsLowest (is_free_on volume now bitmap c.args.avoid.now.numbers) c.loop-at.at (end_of bitmap c.loop-at.at) c.in_ok-found.found in
    inode_found (past_of c.args.volume.now) (volume_view c.args.volume.now) bitmap c.args.avoid.now.numbers c.loop-at.at c.inode_bitmap-bitmap.ensures.value c.loop-at.invariant.none c.in_ok-found.found (end_of bitmap c.loop-at.at) some c.loop-at.invariant.from
    (end_within bitmap c.loop-at.at (omega arith))
    (told_back c.args.volume.now c.loop-at.volume P c.loop-at.invariant.same c.in_ok-found.ensures.lowest)

pub returns-clause-inode : goal.returns-clause-inode
returns-clause-inode g c =
    no_inode (past_of c.args.volume.now) (volume_view c.args.volume.now) c.inode_bitmap-bitmap.result c.args.avoid.now.numbers c.loop-at.at c.inode_bitmap-bitmap.ensures.value c.loop-at.invariant.none (omega arith)

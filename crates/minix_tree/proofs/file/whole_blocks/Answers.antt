-- The refusal of a block.
use Rattle.std.proofs.Common.{◌≡◌, Err, rules}
use Rattle.lilo_model.specs.Checks.{with_fault}
use Rattle.lilo_model.specs.MinixParts.{parts_of, blocks_for}
use Rattle.lilo_model.specs.MinixFind.{Zone}
use Rattle.minix_layout.specs.View.{inode_view}
use Rattle.minix_zones.specs.Volume.{volume_view, past_of}
use Rattle.minix_tree.specs.File.{block_behind}
use Rattle.minix_tree.specs.View.{Refuses}
use Rattle.minix_zones.proofs.SameLemmas.{told_back}
use Rattle.minix_tree.proofs.FileLemmas.{blocks_refused}
use Rattle.minix_tree.proofs.file.whole_blocks.Goals as goal

pub returns-in_err-push_block-clause-bytes : goal.returns-in_err-push_block-clause-bytes
returns-in_err-push_block-clause-bytes g c =
    let given : c.from_residual.result ≡ Err (c.in_err-push_block.field-0.0) = search rules in
    let below = rw c.blocks_for-index-end.ensures at c.loop-index-test.true in
    let here = told_back c.args.volume.now c.loop-index.volume
    (λ volume now. Refuses (c.in_err-push_block.field-0.0) (with_fault Zone (block_behind volume.layout (parts_of volume now) (inode_view c.args.inode.now) c.loop-index.index c.loop-index.bytes.items)))
    c.loop-index.invariant.same c.in_err-push_block.ensures.bytes in
    rw given
    (blocks_refused (past_of c.args.volume.now) (volume_view c.args.volume.now) (inode_view c.args.inode.now) c.loop-index.index (blocks_for c.args.inode.now.size) c.loop-index.bytes.items
    (c.in_err-push_block.field-0.0) below c.loop-index.invariant.so here)

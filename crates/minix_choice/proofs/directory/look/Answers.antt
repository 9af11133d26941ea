-- Block by block.
use Rattle.std.proofs.Common.{◌≡◌, Err, Ok, rules, ◌∙◌, arith}
use Rattle.lilo_model.specs.MinixParts.{parts_of, block_at}
use Rattle.lilo_model.specs.MinixEntries.{entries_per_block, places}
use Rattle.minix_layout.specs.View.{kind_view, inode_view}
use Rattle.minix_zones.specs.View.{Refuses}
use Rattle.minix_zones.specs.Volume.{volume_view, past_of}
use Rattle.minix_zones.proofs.SameLemmas.{told_back}
use Rattle.minix_tree.specs.Directory.{directory_blocks}
use Rattle.minix_choice.proofs.DirectoryLemmas.{sees_at_first, sees_next, sees_whole, sees_refused, block_count, block_begins}
use Rattle.minix_choice.proofs.directory.look.Goals as goal

pub loop-index-init : goal.loop-index-init
loop-index-init g c = record {
  sees = sees_at_first (past_of c.args.volume.now) (volume_view c.args.volume.now) (inode_view c.args.node.now) c.args.wish.now.directory c.args.wish.now.name.now c.args.taken.now.promises;
  later = search rules;
  same = search rules;
}

pub returns-in_err-read_at-clause-seen : goal.returns-in_err-read_at-clause-seen
returns-in_err-read_at-clause-seen g c =
    let blocks : c.directory_blocks-blocks.result ≡ directory_blocks (kind_view c.args.volume.now.layout.kind) c.args.node.now.size =
    rw c.layout.ensures.value at c.directory_blocks-blocks.ensures.value in
    let below = rw blocks at c.loop-index-test.true in
    let given : c.from_residual.result ≡ Err (c.in_err-read_at.field-0.0) = search rules in
    let here = told_back c.args.volume.now c.loop-index.volume
    (λ volume now. Refuses (c.in_err-read_at.field-0.0) (block_at volume.layout (parts_of volume now) (inode_view c.args.node.now) c.loop-index.index))
    c.loop-index.invariant.same c.in_err-read_at.ensures.bytes in
    rw given
    (sees_refused (past_of c.args.volume.now) (volume_view c.args.volume.now) (inode_view c.args.node.now) c.args.wish.now.directory c.args.wish.now.name.now c.args.taken.now.promises c.loop-index.index c.loop-index.seen (c.in_err-read_at.field-0.0)
    below here c.loop-index.invariant.sees)

pub loop-index-preserved : goal.loop-index-preserved
loop-index-preserved g c =
    let blocks : c.directory_blocks-blocks.result ≡ directory_blocks (kind_view c.args.volume.now.layout.kind) c.args.node.now.size =
    rw c.layout.ensures.value at c.directory_blocks-blocks.ensures.value in
    let below = rw blocks at c.loop-index-test.true in
    let per : c.from-per.result ≡ entries_per_block (kind_view c.args.volume.now.layout.kind) = c.from-per.ensures ∙ (rw c.layout.ensures.value at c.entries_per_block.ensures.value) in
    let all : c.places-all.result ≡ places (kind_view c.args.volume.now.layout.kind) c.args.node.now.size = rw c.layout.ensures.value at c.places-all.ensures.value in
    let here = told_back c.args.volume.now c.loop-index.volume
    (λ volume now. block_at volume.layout (parts_of volume now) (inode_view c.args.node.now) c.loop-index.index ≡ Ok c.read_at.new.into)
    c.loop-index.invariant.same c.in_ok-read_at.ensures.bytes in
    record {
      sees = sees_next (past_of c.args.volume.now) (volume_view c.args.volume.now) (inode_view c.args.node.now) c.args.wish.now.directory c.args.wish.now.name.now c.args.taken.now.promises c.loop-index.index _ _ c.read_at.new.into c.loop-index.seen c.look_in.new.seen
          below (block_count (kind_view c.args.volume.now.layout.kind) c.args.node.now.size c.loop-index.index c.from-per.result c.places-all.result _ per all c.min-count.ensures) (block_begins (kind_view c.args.volume.now.layout.kind) c.loop-index.index c.from-per.result per) here c.loop-index.invariant.sees (rw c.layout.ensures.value at c.look_in.ensures);
      later = search rules;
      same = search rules;
    }

pub returns-clause-seen : goal.returns-clause-seen
returns-clause-seen g c =
    let blocks : c.directory_blocks-blocks.result ≡ directory_blocks (kind_view c.args.volume.now.layout.kind) c.args.node.now.size =
    rw c.layout.ensures.value at c.directory_blocks-blocks.ensures.value in
    let all : c.loop-index.index ≡ directory_blocks (kind_view c.args.volume.now.layout.kind) c.args.node.now.size = omega (arith, blocks) in
    sees_whole (past_of c.args.volume.now) (volume_view c.args.volume.now) (inode_view c.args.node.now) c.args.wish.now.directory c.args.wish.now.name.now c.args.taken.now.promises c.loop-index.index c.loop-index.seen all c.loop-index.invariant.sees

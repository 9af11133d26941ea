-- The bytes of a block.
use Rattle.std.proofs.Common.{◌≡◌, Err, sym, rules, ◌∙◌}
use Rattle.minix_layout.specs.View.{inode_view}
use Rattle.minix_zones.specs.Volume.{volume_view, past_of}
use Rattle.minix_tree.specs.declared.tree_fault.TreeFault.TheVariants.{Zone}
use Rattle.minix_tree.proofs.ReadLemmas.{no_file, no_bytes, bytes_read, bytes_refused}
use Rattle.minix_tree.proofs.file.read_block_through.Goals as goal

pub returns-then-not-is_file-clause-bytes : goal.returns-then-not-is_file-clause-bytes
returns-then-not-is_file-clause-bytes g c =
    no_file (past_of c.args.volume.now) (volume_view c.args.volume.now) (inode_view c.args.stat.now.node) c.args.index (sym c.is_file.ensures ∙ c.if-not-is_file.true)

pub returns-then-count-eq0-clause-bytes : goal.returns-then-count-eq0-clause-bytes
returns-then-count-eq0-clause-bytes g c =
    no_bytes (past_of c.args.volume.now) (volume_view c.args.volume.now) (inode_view c.args.stat.now.node) c.args.index (sym c.is_file.ensures ∙ c.if-not-is_file.false)
    (sym c.bytes_in_block-count.ensures.value ∙ c.if-count-eq0.true)

pub returns-clause-bytes : goal.returns-clause-bytes
returns-clause-bytes g c =
    bytes_read (past_of c.args.volume.now) (volume_view c.args.volume.now) (inode_view c.args.stat.now.node) c.args.index c.bytes_in_block-count.result c.read_at.new.into
    (sym c.is_file.ensures ∙ c.if-not-is_file.false) c.bytes_in_block-count.ensures.value c.if-count-eq0.false c.in_ok-read_at.ensures.bytes

pub returns-in_err-read_at-clause-bytes : goal.returns-in_err-read_at-clause-bytes
returns-in_err-read_at-clause-bytes g c =
    let given : c.from_residual.result ≡ Err (Zone (c.in_err-read_at.field-0.0)) = search rules in
    rw given
    (bytes_refused (past_of c.args.volume.now) (volume_view c.args.volume.now) (inode_view c.args.stat.now.node) c.args.index c.bytes_in_block-count.result (c.in_err-read_at.field-0.0)
    (sym c.is_file.ensures ∙ c.if-not-is_file.false) c.bytes_in_block-count.ensures.value c.if-count-eq0.false c.in_err-read_at.ensures.bytes)

-- The content of a file.
use Rattle.std.proofs.Common.{◌≡◌, Err, rules, ◌∙◌}
use Rattle.minix_layout.specs.View.{inode_view}
use Rattle.minix_zones.specs.Volume.{volume_view, past_of}
use Rattle.minix_tree.proofs.FileLemmas.{content_refused, content_read}
use Rattle.minix_tree.proofs.file.content.Goals as goal

pub returns-in_err-bytes-clause-bytes : goal.returns-in_err-bytes-clause-bytes
returns-in_err-bytes-clause-bytes g c =
    let given : c.from_residual.result ≡ Err (c.in_err-bytes.field-0.0) = search rules in
    rw given
    (content_refused (past_of c.args.volume.now) (volume_view c.args.volume.now) (inode_view c.args.inode.now) (c.in_err-bytes.field-0.0) c.in_err-bytes.ensures.bytes)

pub returns-clause-bytes : goal.returns-clause-bytes
returns-clause-bytes g c =
    content_read (past_of c.args.volume.now) (volume_view c.args.volume.now) (inode_view c.args.inode.now) c.in_ok-bytes.bytes.items _
    c.in_ok-bytes.ensures.bytes (c.from_vec.ensures ∙ c.truncate.ensures.items)

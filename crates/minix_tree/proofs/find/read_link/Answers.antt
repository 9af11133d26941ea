-- The text of a link has one block, or none.
use Rattle.std.proofs.Common.{◌≡◌, Err, rules}
use Rattle.minix_layout.specs.View.{inode_view}
use Rattle.minix_zones.specs.Volume.{volume_view, past_of}
use Rattle.minix_tree.specs.declared.tree_fault.TreeFault.TheVariants.{Zone}
use Rattle.minix_tree.proofs.LinkLemmas.{empty_content, short_content, short_refused}
use Rattle.minix_tree.proofs.find.read_link.Goals as goal

pub returns-then-link-eq0-clause-text : goal.returns-then-link-eq0-clause-text
returns-then-link-eq0-clause-text g c =
    empty_content (past_of c.args.volume.now) (volume_view c.args.volume.now) (inode_view c.args.link.now) c.args.into.now c.if-link-eq0.true

pub returns-clause-text : goal.returns-clause-text
returns-clause-text g c =
    short_content (past_of c.args.volume.now) (volume_view c.args.volume.now) (inode_view c.args.link.now) c.read_at.new.into c.if-link-eq0.false c.requires c.in_ok-read_at.ensures.bytes

pub returns-in_err-read_at-clause-text : goal.returns-in_err-read_at-clause-text
returns-in_err-read_at-clause-text g c =
    let given : c.from_residual.result ≡ Err (Zone (c.in_err-read_at.field-0.0)) = search rules in
    rw given
    (short_refused (past_of c.args.volume.now) (volume_view c.args.volume.now) (inode_view c.args.link.now) (c.in_err-read_at.field-0.0) c.if-link-eq0.false c.requires c.in_err-read_at.ensures.bytes)

-- The entries of a block.
use Rattle.std.proofs.Common.{◌≡◌, Err, sym, rules, ◌∙◌}
use Rattle.minix_layout.specs.View.{inode_view}
use Rattle.minix_zones.specs.Volume.{volume_view, past_of}
use Rattle.minix_tree.specs.declared.tree_fault.TreeFault.TheVariants.{Zone}
use Rattle.minix_tree.proofs.ReadLemmas.{no_entries, entries_read, entries_refused}
use Rattle.minix_tree.proofs.directory.read_entries.Goals as goal

pub returns-then-count-eq0-clause-entries : goal.returns-then-count-eq0-clause-entries
returns-then-count-eq0-clause-entries g c =
    let is = rw c.layout.ensures.value at c.places_in-count.ensures.value in
    no_entries (past_of c.args.volume.now) (volume_view c.args.volume.now) (inode_view c.args.inode.now) c.args.index _ (sym is ∙ c.if-count-eq0.true)

pub returns-clause-entries : goal.returns-clause-entries
returns-clause-entries g c =
    let is = rw c.layout.ensures.value at c.places_in-count.ensures.value in
    entries_read (past_of c.args.volume.now) (volume_view c.args.volume.now) (inode_view c.args.inode.now) c.args.index c.places_in-count.result c.read_at.new.into is c.if-count-eq0.false c.in_ok-read_at.ensures.bytes

pub returns-in_err-read_at-clause-entries : goal.returns-in_err-read_at-clause-entries
returns-in_err-read_at-clause-entries g c =
    let given : c.from_residual.result ≡ Err (Zone (c.in_err-read_at.field-0.0)) = search rules in
    let is = rw c.layout.ensures.value at c.places_in-count.ensures.value in
    rw given
    (entries_refused (past_of c.args.volume.now) (volume_view c.args.volume.now) (inode_view c.args.inode.now) c.args.index c.places_in-count.result (c.in_err-read_at.field-0.0) is c.if-count-eq0.false c.in_err-read_at.ensures.bytes)

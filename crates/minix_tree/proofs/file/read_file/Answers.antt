-- The bytes of the file that a path leads to.
use Rattle.std.proofs.Common.{◌≡◌, Err, rules, sym, ◌∙◌}
use Rattle.lilo_model.specs.Checks.{with_fault}
use Rattle.lilo_model.specs.MinixParts.{parts_of, content_at}
use Rattle.lilo_model.specs.MinixFind.{Zone, file_at}
use Rattle.minix_layout.specs.View.{inode_view}
use Rattle.minix_zones.specs.Volume.{volume_view, past_of}
use Rattle.minix_tree.specs.View.{Gives}
use Rattle.minix_zones.proofs.SameLemmas.{told_back}
use Rattle.minix_tree.proofs.WalkLemmas.{told_same}
use Rattle.minix_tree.proofs.FileLemmas.{path_refused, no_file_there, file_there}
use Rattle.minix_tree.proofs.file.read_file.Goals as goal

pub returns-in_err-stat-clause-bytes : goal.returns-in_err-stat-clause-bytes
returns-in_err-stat-clause-bytes g c =
    let given : c.from_residual.result ≡ Err (c.in_err-stat.field-0.0) = search rules in
    rw given
    (path_refused (past_of c.args.volume.now) (volume_view c.args.volume.now) c.args.path.now (c.in_err-stat.field-0.0) c.in_err-stat.ensures.found)

pub returns-then-not-is_file-clause-bytes : goal.returns-then-not-is_file-clause-bytes
returns-then-not-is_file-clause-bytes g c =
    no_file_there (past_of c.args.volume.now) (volume_view c.args.volume.now) c.args.path.now c.in_ok-stat.stat.inode (inode_view c.in_ok-stat.stat.node)
    c.in_ok-stat.ensures.found c.in_ok-stat.ensures.node (sym c.is_file.ensures ∙ c.if-not-is_file.true)

pub returns-clause-bytes : goal.returns-clause-bytes
returns-clause-bytes g c =
    let so = file_there (past_of c.args.volume.now) (volume_view c.args.volume.now) c.args.path.now c.in_ok-stat.stat.inode (inode_view c.in_ok-stat.stat.node)
    c.in_ok-stat.ensures.found c.in_ok-stat.ensures.node (sym c.is_file.ensures ∙ c.if-not-is_file.false) in
    let gives = told_back c.args.volume.now c.lookup.new.volume
    (λ volume now. Gives (λ text. text) c.content.result (with_fault Zone (content_at volume.layout (parts_of volume now) (inode_view c.in_ok-stat.stat.node))))
    c.lookup.ensures.same c.content.ensures.bytes in
    told_same (past_of c.args.volume.now) (Gives (λ text. text) c.content.result)
    (λ now. file_at (volume_view c.args.volume.now).layout (parts_of (volume_view c.args.volume.now) now) c.args.path.now)
    (λ now. with_fault Zone (content_at (volume_view c.args.volume.now).layout (parts_of (volume_view c.args.volume.now) now) (inode_view c.in_ok-stat.stat.node))) so gives

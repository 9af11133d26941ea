-- What was read of the first block is the file's start.
use Rattle.std.proofs.Common.{◌≡◌, Ok, Err, rules, take}
use Rattle.lilo_model.specs.MinixParts.{parts_of}
use Rattle.lilo_model.specs.MinixFind.{file_block}
use Rattle.minix_layout.specs.View.{inode_view}
use Rattle.minix_zones.specs.Volume.{volume_view, past_of}
use Rattle.minix_zones.proofs.SameLemmas.{told_back}
use Rattle.minix_tree.specs.View.{Refuses}
use Rattle.map_plan.specs.Starts.{start_view}
use Rattle.map_plan.proofs.StartLemmas.{path-refused, block-refused, block-found}
use Rattle.map_plan.proofs.start.start_at.Goals as goal

pub returns-in_err-stat-clause-start : goal.returns-in_err-stat-clause-start
returns-in_err-stat-clause-start g c =
    let given : c.from_residual.result ≡ Err (c.in_err-stat.field-0.0) = search rules in
    rw given
    (path-refused (volume_view c.args.volume.now) c.args.path.now (past_of c.args.volume.now) (c.in_err-stat.field-0.0) c.in_err-stat.ensures.found)

pub returns-in_err-count-clause-start : goal.returns-in_err-count-clause-start
returns-in_err-count-clause-start g c =
    let given : c.from_residual-in_err-count.result ≡ Err (c.in_err-count.field-0.0) = search rules in
    let refused = told_back c.args.volume.now c.lookup.new.volume
    (λ volume now. Refuses (c.in_err-count.field-0.0) (file_block volume.layout (parts_of volume now) (inode_view c.in_ok-stat.stat.node) 0))
    c.lookup.ensures.same c.in_err-count.ensures.bytes in
    rw given
    (block-refused (volume_view c.args.volume.now) c.args.path.now c.in_ok-stat.stat.inode (inode_view c.in_ok-stat.stat.node) (past_of c.args.volume.now)
    (c.in_err-count.field-0.0) c.in_ok-stat.ensures.found c.in_ok-stat.ensures.node refused)

pub returns-clause-start : goal.returns-clause-start
returns-clause-start g c =
    let read = told_back c.args.volume.now c.lookup.new.volume
    (λ volume now. file_block volume.layout (parts_of volume now) (inode_view c.in_ok-stat.stat.node) 0 ≡ Ok (take c.in_ok-count.count c.read_block.new.into))
    c.lookup.ensures.same c.in_ok-count.ensures.bytes in
    block-found (volume_view c.args.volume.now) c.args.path.now c.in_ok-stat.stat.inode (inode_view c.in_ok-stat.stat.node) (past_of c.args.volume.now)
    (take c.in_ok-count.count c.read_block.new.into) (start_view c.start_with.result) c.in_ok-stat.ensures.found c.in_ok-stat.ensures.node read c.start_with.ensures

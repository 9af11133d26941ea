-- What a name leads to.
use Rattle.std.proofs.Common.{◌≡◌, Some, None, Ok, Err, rules}
use Rattle.lilo_model.specs.Checks.{with_fault}
use Rattle.lilo_model.specs.MinixEntries.{find_entry}
use Rattle.lilo_model.specs.MinixFind.{Zone}
use Rattle.lilo_model.specs.MinixParts.{parts_of}
use Rattle.minix_layout.specs.View.{inode_view}
use Rattle.minix_grow.proofs.LowestLemmas.{same_join}
use Rattle.minix_zones.proofs.SameLemmas.{told_back}
use Rattle.minix_remove.specs.Found.{Finds}
use Rattle.minix_tree.specs.View.{Refuses}
use Rattle.minix_remove.proofs.TargetLemmas.{gives_unread, gives_unfound, gives_none, gives_no_file, gives_no_zone, gives_target}
use Rattle.minix_remove.proofs.target.find_target.Goals as goal

pub returns-in_err-stat-clause-finds : goal.returns-in_err-stat-clause-finds
returns-in_err-stat-clause-finds g c =
    let fault = c.in_err-stat.field-0.0 in
    let given : c.from_residual.result ≡ Err fault = search rules in
    rw given (gives_unread c.args.volume.now c.args.directory c.args.name.now _ _ fault c.in_err-stat.ensures.found c.in_err-stat.ensures.cause)

pub returns-in_err-found-clause-finds : goal.returns-in_err-found-clause-finds
returns-in_err-found-clause-finds g c =
    let old = c.args.volume.now in
    let node = c.in_ok-stat.stat.node in
    let fault = c.in_err-found.field-0.0 in
    let given : c.from_residual-in_err-found.result ≡ Err fault = search rules in
    let refused = told_back old c.stat_of.new.volume (λ view now. Refuses fault (with_fault Zone (find_entry view.layout (parts_of view now) (inode_view node) c.args.name.now))) c.stat_of.ensures.same c.in_err-found.ensures.found in
    rw given (gives_unfound old c.args.directory c.args.name.now node (rw c.in_ok-stat.ensures.number at c.in_ok-stat.ensures.node) _ _ fault refused c.in_err-found.ensures.cause)

pub returns-in_default-clause-finds : goal.returns-in_default-clause-finds
returns-in_default-clause-finds g c =
    let old = c.args.volume.now in
    let node = c.in_ok-stat.stat.node in
    let none = told_back old c.stat_of.new.volume (λ view now. Finds view.layout (parts_of view now) (inode_view node) c.args.name.now (Ok None)) c.stat_of.ensures.same (rw c.in_default.is at c.in_ok-found.ensures.found) in
    gives_none old c.args.directory c.args.name.now node (rw c.in_ok-stat.ensures.number at c.in_ok-stat.ensures.node) none

pub returns-in_err-node-clause-finds : goal.returns-in_err-node-clause-finds
returns-in_err-node-clause-finds g c =
    let old = c.args.volume.now in
    let node = c.in_ok-stat.stat.node in
    let found = c.in-Some.found in
    let fault = c.in_err-node.field-0.0 in
    let given : c.from_residual-in_err-node.result ≡ Err fault = search rules in
    let at = told_back old c.stat_of.new.volume (λ view now. Finds view.layout (parts_of view now) (inode_view node) c.args.name.now (Ok (Some found))) c.stat_of.ensures.same (rw c.in-Some.is at c.in_ok-found.ensures.found) in
    let some = rw c.in-Some.is at c.in_ok-found.ensures.some in
    rw given
    (gives_no_file old c.args.directory c.args.name.now node (rw c.in_ok-stat.ensures.number at c.in_ok-stat.ensures.node) found some at c.find_name.new.volume fault
    (same_join old c.stat_of.new.volume c.find_name.new.volume c.stat_of.ensures.same c.find_name.ensures.same) c.in_err-node.ensures.gives)

pub returns-in_err-zone-clause-finds : goal.returns-in_err-zone-clause-finds
returns-in_err-zone-clause-finds g c =
    let old = c.args.volume.now in
    let node = c.in_ok-stat.stat.node in
    let found = c.in-Some.found in
    let fault = c.in_err-zone.field-0.0 in
    let given : c.from_residual-in_err-zone.result ≡ Err fault = search rules in
    let at = told_back old c.stat_of.new.volume (λ view now. Finds view.layout (parts_of view now) (inode_view node) c.args.name.now (Ok (Some found))) c.stat_of.ensures.same (rw c.in-Some.is at c.in_ok-found.ensures.found) in
    let some = rw c.in-Some.is at c.in_ok-found.ensures.some in
    let mid = same_join old c.stat_of.new.volume c.find_name.new.volume c.stat_of.ensures.same c.find_name.ensures.same in
    rw given
    (gives_no_zone old c.args.directory c.args.name.now node (rw c.in_ok-stat.ensures.number at c.in_ok-stat.ensures.node) found some at c.file_of.new.volume fault
    (same_join old c.find_name.new.volume c.file_of.new.volume mid c.file_of.ensures.same) c.in_err-zone.ensures.gives)

pub returns-clause-finds : goal.returns-clause-finds
returns-clause-finds g c =
    let old = c.args.volume.now in
    let node = c.in_ok-stat.stat.node in
    let found = c.in-Some.found in
    let at = told_back old c.stat_of.new.volume (λ view now. Finds view.layout (parts_of view now) (inode_view node) c.args.name.now (Ok (Some found))) c.stat_of.ensures.same (rw c.in-Some.is at c.in_ok-found.ensures.found) in
    let some = rw c.in-Some.is at c.in_ok-found.ensures.some in
    let mid = same_join old c.stat_of.new.volume c.find_name.new.volume c.stat_of.ensures.same c.find_name.ensures.same in
    gives_target old c.args.directory c.args.name.now node (rw c.in_ok-stat.ensures.number at c.in_ok-stat.ensures.node) found some at c.find_name.new.volume c.file_of.new.volume c.in_ok-node.node c.in_ok-zone.zone
    mid (same_join old c.find_name.new.volume c.file_of.new.volume mid c.file_of.ensures.same) c.in_ok-stat.ensures.fits.reached c.in_ok-node.ensures.gives c.in_ok-zone.ensures.gives

-- The place of a name, or why its path is refused.
use Rattle.std.proofs.Common.{◌≡◌, Err, rules, sym, ◌∙◌}
use Rattle.minix_layout.specs.View.{inode_view}
use Rattle.minix_zones.specs.Volume.{volume_view, past_of}
use Rattle.minix_names.proofs.PlaceLemmas.{no-name, above-refused, no-directory, is-there}
use Rattle.minix_names.proofs.place.place_of_name.Goals as goal

pub returns-in_default-clause-place : goal.returns-in_default-clause-place
returns-in_default-clause-place g c =
    no-name (past_of c.args.volume.now) (volume_view c.args.volume.now) c.args.path.now (rw c.in_default.is at c.split_at_last.ensures.split)

pub returns-in_err-directory-clause-place : goal.returns-in_err-directory-clause-place
returns-in_err-directory-clause-place g c =
    let given : c.from_residual.result ≡ Err (c.in_err-directory.field-0.0) = search rules in
    rw given
    (above-refused (past_of c.args.volume.now) (volume_view c.args.volume.now) c.args.path.now c.in-Some.split.before.now c.in-Some.split.name.now (c.in_err-directory.field-0.0)
    (rw c.in-Some.is at c.split_at_last.ensures.split) c.in_err-directory.ensures.found)

pub returns-then-not-is_directory-clause-place : goal.returns-then-not-is_directory-clause-place
returns-then-not-is_directory-clause-place g c =
    no-directory (past_of c.args.volume.now) (volume_view c.args.volume.now) c.args.path.now c.in-Some.split.before.now c.in-Some.split.name.now
    c.in_ok-directory.directory.inode (inode_view c.in_ok-directory.directory.node) c.count_components.result
    (rw c.in-Some.is at c.split_at_last.ensures.split) c.in_ok-directory.ensures.found c.in_ok-directory.ensures.node
    (sym c.is_directory.ensures ∙ c.if-not-is_directory.true) c.count_components.ensures

pub returns-clause-place : goal.returns-clause-place
returns-clause-place g c =
    is-there (past_of c.args.volume.now) (volume_view c.args.volume.now) c.args.path.now _ c.in-Some.split.before.now
    (inode_view c.in_ok-directory.directory.node)
    (rw c.in-Some.is at c.split_at_last.ensures.split) c.in_ok-directory.ensures.found c.in_ok-directory.ensures.node
    (sym c.is_directory.ensures ∙ c.if-not-is_directory.false)

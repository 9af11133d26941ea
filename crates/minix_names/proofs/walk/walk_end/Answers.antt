-- Where the walk of a path ends.
use Rattle.std.proofs.Common.{◌≡◌, Err, rules, sym, ◌∙◌}
use Rattle.lilo_model.specs.MinixParts.{parts_of}
use Rattle.minix_layout.specs.View.{super_view}
use Rattle.minix_zones.specs.Volume.{volume_view, past_of}
use Rattle.minix_tree.specs.View.{Gives}
use Rattle.minix_zones.proofs.SameLemmas.{told_back}
use Rattle.minix_tree.proofs.StatLemmas.{has_root}
use Rattle.minix_tree.proofs.WalkLemmas.{told_same}
use Rattle.minix_names.specs.Ends.{path_end}
use Rattle.minix_names.specs.View.{end_view}
use Rattle.minix_names.proofs.EndLemmas.{through, no_slash, too_long, no_root, from_root}
use Rattle.minix_names.proofs.walk.walk_end.Goals as goal

pub returns-then-not-begins_with_slash-clause-end : goal.returns-then-not-begins_with_slash-clause-end
returns-then-not-begins_with_slash-clause-end g c =
    no_slash (past_of c.args.volume.now) (volume_view c.args.volume.now) c.args.path.now (sym c.begins_with_slash.ensures ∙ c.if-not-begins_with_slash.true)

pub returns-then-path-gt-TEXT-clause-end : goal.returns-then-path-gt-TEXT-clause-end
returns-then-path-gt-TEXT-clause-end g c =
    too_long (past_of c.args.volume.now) (volume_view c.args.volume.now) c.args.path.now (sym c.begins_with_slash.ensures ∙ c.if-not-begins_with_slash.false) c.if-path-gt-TEXT.true

pub stat_of-requires-clause-there : goal.stat_of-requires-clause-there
stat_of-requires-clause-there g c = has_root (super_view c.args.volume.now.layout) c.args.volume.now.span.count c.args.volume.now.whole

pub returns-in_err-root-clause-end : goal.returns-in_err-root-clause-end
returns-in_err-root-clause-end g c =
    let given : c.from_residual.result ≡ Err (c.in_err-root.field-0.0) = search rules in
    rw given
    (no_root (past_of c.args.volume.now) (volume_view c.args.volume.now) c.args.path.now (c.in_err-root.field-0.0)
    (sym c.begins_with_slash.ensures ∙ c.if-not-begins_with_slash.false) c.if-path-gt-TEXT.false c.in_err-root.ensures.found)

pub returns-clause-end : goal.returns-clause-end
returns-clause-end g c =
    let so = from_root (past_of c.args.volume.now) (volume_view c.args.volume.now) c.args.path.now c.in_ok-root.root.inode
    (sym c.begins_with_slash.ensures ∙ c.if-not-begins_with_slash.false) c.if-path-gt-TEXT.false c.in_ok-root.ensures.found c.in_ok-root.ensures.number in
    let gives = told_back c.args.volume.now c.stat_of.new.volume
    (λ volume now. Gives (end_view c.walk_through.new.missed) c.walk_through.result (through volume 8 c.in_ok-root.root.inode c.args.path.now now))
    c.stat_of.ensures.same c.walk_through.ensures.end in
    told_same (past_of c.args.volume.now) (Gives (end_view c.walk_through.new.missed) c.walk_through.result)
    (λ now. path_end (volume_view c.args.volume.now).layout (parts_of (volume_view c.args.volume.now) now) c.args.path.now)
    (through (volume_view c.args.volume.now) 8 c.in_ok-root.root.inode c.args.path.now) so gives

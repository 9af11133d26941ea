-- Where a text's walk ends.
use Rattle.std.proofs.Common.{◌≡◌, ℕ, ◌-◌, Bool, length, take, Ok, Err, rules, sym, ◌∙◌, ap, if◌then◌else◌}
use Rattle.lilo_model.specs.MinixParts.{parts_of}
use Rattle.minix_layout.specs.View.{inode_view}
use Rattle.minix_zones.specs.Volume.{volume_view, past_of}
use Rattle.minix_tree.specs.LinkText.{link_text}
use Rattle.minix_tree.specs.declared.stat.Stat.{Stat}
use Rattle.minix_tree.specs.View.{Gives, Refuses}
use Rattle.minix_zones.proofs.SameLemmas.{told_back}
use Rattle.minix_tree.proofs.WalkLemmas.{told_same}
use Rattle.minix_names.specs.Ends.{start_of}
use Rattle.minix_names.specs.View.{end_view}
use Rattle.minix_tree.specs.LinkText.{next_view}
use Rattle.minix_names.proofs.EndLemmas.{through, walk_refused, walk_ends, walk_lacks, written-first, text_refused, goes_on}
use Rattle.minix_names.proofs.walk.+walk_through.Goals as goal
use Rattle.minix_names.proofs.walk.+walk_through.Goals.{then-next, else-next}

pub returns-in_err-stat-clause-end : goal.returns-in_err-stat-clause-end
returns-in_err-stat-clause-end g t c =
    let given : c.from_residual.result ≡ Err (c.in_err-stat.field-0.0) = search rules in
    rw given
    (walk_refused (past_of c.args.volume.now) (volume_view c.args.volume.now) c.args.links c.args.directory.inode c.args.text.now (c.in_err-stat.field-0.0) c.in_err-stat.ensures.walked)

pub returns-in-Ends-clause-end : goal.returns-in-Ends-clause-end
returns-in-Ends-clause-end g t c =
    walk_ends (past_of c.args.volume.now) (volume_view c.args.volume.now) c.args.links c.args.directory.inode c.args.text.now c.in-Ends.stat.inode
    (rw c.in-Ends.is at c.in_ok-stat.ensures.walked)

pub returns-in-Lacks-clause-end : goal.returns-in-Lacks-clause-end
returns-in-Lacks-clause-end g t c =
    walk_lacks (past_of c.args.volume.now) (volume_view c.args.volume.now) c.args.links c.args.directory.inode c.args.text.now c.in-Lacks.holder.inode c.in-Lacks.name.now
    (take (length c.in-Lacks.name.now) c.put_after.new.into)
    (rw c.in-Lacks.is at c.in_ok-stat.ensures.walked)
    (written-first c.in-Lacks.name.now c.put_after.new.into c.args.missed.now c.put_after.ensures)

pub returns-in_err-next-in-Meets-clause-end : goal.returns-in_err-next-in-Meets-clause-end
returns-in_err-next-in-Meets-clause-end g t c =
    let given : c.from_residual-in_err-next-in-Meets.result ≡ Err (c.in_err-next-in-Meets.field-0.0) = search rules in
    let refused = told_back c.args.volume.now c.walk_text.new.volume
    (λ volume now. Refuses (c.in_err-next-in-Meets.field-0.0) (link_text volume.layout (parts_of volume now) (inode_view c.in-Meets.link.node) c.in-Meets.rest.now))
    c.walk_text.ensures.same c.in_err-next-in-Meets.ensures.text in
    let node = rw c.in-Meets.is at c.in_ok-stat.ensures.node in
    rw given
    (text_refused (past_of c.args.volume.now) (volume_view c.args.volume.now) c.args.links c.args.directory.inode c.args.text.now
    c.in-Meets.holder.inode c.in-Meets.link.inode (inode_view c.in-Meets.link.node) c.in-Meets.rest.now (c.in_err-next-in-Meets.field-0.0)
    c.if-links-eq0.false (rw c.in-Meets.is at c.in_ok-stat.ensures.walked) node.1 refused)

pub returns-after-next-clause-end : goal.returns-after-next-clause-end
returns-after-next-clause-end g t c =
    let I : Stat → ℕ = λ stat. stat.inode in
    let F : Bool → ℕ = λ test. if test then 1 else c.in-Meets.holder.inode in
    let at : c.if-next.directory.inode ≡ start_of c.in-Meets.holder.inode (next_view c.text_through.new.into c.in_ok-next-in-Meets.next) =
    elim c.if-next.branch [
      | then-next w ↦ ap I w.directory-is ∙ c.requires.root ∙ sym (ap F w.if-next.true)
      | else-next w ↦ ap I w.directory-is ∙ sym (ap F w.if-next.false)
    ] in
    let node = rw c.in-Meets.is at c.in_ok-stat.ensures.node in
    let read = told_back c.args.volume.now c.walk_text.new.volume
    (λ volume now. link_text volume.layout (parts_of volume now) (inode_view c.in-Meets.link.node) c.in-Meets.rest.now ≡ Ok (next_view c.text_through.new.into c.in_ok-next-in-Meets.next))
    c.walk_text.ensures.same c.in_ok-next-in-Meets.ensures.text in
    let so = goes_on (past_of c.args.volume.now) (volume_view c.args.volume.now) c.args.links c.args.directory.inode c.args.text.now
    c.in-Meets.holder.inode c.in-Meets.link.inode (inode_view c.in-Meets.link.node) c.in-Meets.rest.now (next_view c.text_through.new.into c.in_ok-next-in-Meets.next) c.if-next.directory.inode
    c.if-links-eq0.false (rw c.in-Meets.is at c.in_ok-stat.ensures.walked) node.1 read at in
    let further = told_back c.walk_text.new.volume c.text_through.new.volume
    (λ volume now. Gives (end_view c.walk_through.new.missed) c.walk_through.result (through volume (c.args.links - 1) c.if-next.directory.inode (take c.in_ok-next-in-Meets.next.length c.text_through.new.into) now))
    c.text_through.ensures.same c.walk_through.ensures.end in
    let gives = told_back c.args.volume.now c.walk_text.new.volume
    (λ volume now. Gives (end_view c.walk_through.new.missed) c.walk_through.result (through volume (c.args.links - 1) c.if-next.directory.inode (take c.in_ok-next-in-Meets.next.length c.text_through.new.into) now))
    c.walk_text.ensures.same further in
    told_same (past_of c.args.volume.now) (Gives (end_view c.walk_through.new.missed) c.walk_through.result)
    (through (volume_view c.args.volume.now) c.args.links c.args.directory.inode c.args.text.now)
    (through (volume_view c.args.volume.now) (c.args.links - 1) c.if-next.directory.inode (take c.in_ok-next-in-Meets.next.length c.text_through.new.into)) so gives

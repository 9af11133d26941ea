use Rattle.std.proofs.Common.{◌≡◌, ◌<◌, Err, Ok, sym, ap, subst, arith}
use Rattle.std.proofs.lemmas.Bool.{le-ltb}
use Rattle.std.proofs.lemmas.Result.{err_from_is_err_and}
use Rattle.disk_trait.specs.Moments.{IsTold}
use Rattle.disk_trait.proofs.MomentLemmas.{told_now}
use Rattle.lilo_model.specs.MinixLayout.{Inode, FitsInode, most_links}
use Rattle.lilo_model.specs.MinixParts.{parts_of}
use Rattle.minix_layout.specs.View.{kind_view, inode_view}
use Rattle.minix_layout.specs.declared.superblock.Super.{Super}
use Rattle.minix_steps.specs.Written.{parts_now}
use Rattle.minix_choice.specs.View.{tree_refusal}
use Rattle.minix_choice.specs.declared.write_fault.WriteFault.TheVariants.{Device}
use Rattle.minix_zones.specs.Volume.{volume_view, past_of}
use Rattle.minix_zones.specs.declared.zone_fault.ZoneFault.TheVariants as zones
use Rattle.minix_zones.proofs.SameLemmas.{told_forth}
use Rattle.minix_create.proofs.EntryLemmas.{inode_refused}
use Rattle.minix_create.proofs.RaisedLemmas.{raises_refused, raises_none, raises_one, may_raise, raises_again, raises_done, is-read, raises_read}
use Rattle.minix_create.proofs.raised.raise_links.Goals as goal

pub returns-in_err-stat-clause-raises : goal.returns-in_err-stat-clause-raises
returns-in_err-stat-clause-raises g c is =
    let old = c.args.volume.now in
    let fault = c.in_err-stat.field-0.0 in
    let p = err_from_is_err_and c.from_residual.result c.from_residual.ensures.1 in
    rw (p.1, p.2) (raises_refused old c.stat_of.new.volume c.args.directory Device c.requires.quiet is c.stat_of.ensures.same c.stat_of.ensures.later (tree_refusal fault)
    (λ told. inode_refused old c.args.directory (is told).sound (is told).named _ _ fault c.in_err-stat.ensures.found c.in_err-stat.ensures.cause told))

pub returns-then-stat-most_links-clause-raises : goal.returns-then-stat-most_links-clause-raises
returns-then-stat-most_links-clause-raises g c is =
    let old = c.args.volume.now in
    let node = rw c.in_ok-stat.ensures.number at c.in_ok-stat.ensures.node in
    let most : c.most_links.result ≡ most_links (kind_view old.layout.kind) = rw (c.layout.ensures.value, c.stat_of.ensures.same.same_layout) at c.most_links.ensures in
    let past = c.if-stat-most_links.true in
    raises_none old c.stat_of.new.volume c.args.directory Device c.requires.quiet is c.stat_of.ensures.same c.stat_of.ensures.later c.in_ok-stat.stat.node.links
    (λ told. ap (λ (i : Inode). i.links) (told_now (past_of old) (λ now. inode_view c.in_ok-stat.stat.node ≡ (parts_of (volume_view old) now).node c.args.directory) node told))
    (le-ltb _ _ (omega (arith, most, past)))

pub returns-in-Ok-clause-raises : goal.returns-in-Ok-clause-raises
returns-in-Ok-clause-raises g c is =
    let old = c.args.volume.now in
    let mid = c.stat_of.new.volume in
    let node : Inode = inode_view c.in_ok-stat.stat.node in
    let at = rw c.in_ok-stat.ensures.number at c.in_ok-stat.ensures.node in
    let there = told_forth old mid (λ view now. node ≡ (parts_of view now).node c.args.directory) c.stat_of.ensures.same at in
    let read : IsTold (past_of mid) → (parts_now mid).node c.args.directory ≡ node = λ told. sym (told_now (past_of mid) (λ now. node ≡ (parts_of (volume_view mid) now).node c.args.directory) there told) in
    let F : Super → Type 0 = λ layout. FitsInode (kind_view layout.kind) node in
    let fits = subst F (sym c.stat_of.ensures.same.same_layout) c.in_ok-stat.ensures.fits.fields in
    let most : c.most_links.result ≡ most_links (kind_view mid.layout.kind) = rw c.layout.ensures.value at c.most_links.ensures in
    let below = c.if-stat-most_links.false in
    let few : node.links < most_links (kind_view mid.layout.kind) = omega (arith, most, below) in
    let now' = is-read old mid c.turn_links.new.volume c.args.directory Device (Ok tt) c.requires.quiet is c.stat_of.ensures.same c.stat_of.ensures.later in
    raises_read old mid c.turn_links.new.volume c.args.directory Device (Ok tt) c.requires.quiet is c.stat_of.ensures.same c.stat_of.ensures.later
    (raises_done mid c.turn_links.new.volume c.args.directory zones.Device Device
    (raises_one mid c.turn_links.new.volume c.args.directory node fits now' read few (Ok tt) c.in-Ok.ensures.turns
    (c.in-Ok.ensures.unseen (may_raise mid c.turn_links.new.volume c.args.directory node fits now' read few (Ok tt) c.in-Ok.ensures.turns))))

pub returns-in-Err-clause-raises : goal.returns-in-Err-clause-raises
returns-in-Err-clause-raises g c is =
    let old = c.args.volume.now in
    let mid = c.stat_of.new.volume in
    let node : Inode = inode_view c.in_ok-stat.stat.node in
    let at = rw c.in_ok-stat.ensures.number at c.in_ok-stat.ensures.node in
    let there = told_forth old mid (λ view now. node ≡ (parts_of view now).node c.args.directory) c.stat_of.ensures.same at in
    let read : IsTold (past_of mid) → (parts_now mid).node c.args.directory ≡ node = λ told. sym (told_now (past_of mid) (λ now. node ≡ (parts_of (volume_view mid) now).node c.args.directory) there told) in
    let F : Super → Type 0 = λ layout. FitsInode (kind_view layout.kind) node in
    let fits = subst F (sym c.stat_of.ensures.same.same_layout) c.in_ok-stat.ensures.fits.fields in
    let most : c.most_links.result ≡ most_links (kind_view mid.layout.kind) = rw c.layout.ensures.value at c.most_links.ensures in
    let below = c.if-stat-most_links.false in
    let few : node.links < most_links (kind_view mid.layout.kind) = omega (arith, most, below) in
    let fault = c.in-Err.field-0 in
    let now' = is-read old mid c.turn_links.new.volume c.args.directory Device (Err Device) c.requires.quiet is c.stat_of.ensures.same c.stat_of.ensures.later in
    raises_read old mid c.turn_links.new.volume c.args.directory Device (Err Device) c.requires.quiet is c.stat_of.ensures.same c.stat_of.ensures.later
    (raises_again mid c.turn_links.new.volume c.args.directory zones.Device fault Device
    (raises_one mid c.turn_links.new.volume c.args.directory node fits now' read few (Err fault) c.in-Err.ensures.turns
    (c.in-Err.ensures.unseen (may_raise mid c.turn_links.new.volume c.args.directory node fits now' read few (Err fault) c.in-Err.ensures.turns))))

use Rattle.std.proofs.Common.{◌≡◌, Err, Option, sym, subst, rules}
use Rattle.disk_trait.specs.Moments.{IsQuiet}
use Rattle.disk_trait.specs.Past.{Past}
use Rattle.lilo_model.specs.MinixLayout.{FitsInode}
use Rattle.minix_layout.specs.View.{kind_view, inode_view}
use Rattle.minix_layout.specs.declared.superblock.Super.{Super}
use Rattle.minix_zones.proofs.WriteLemmas.{keeps_join, keeps_same}
use Rattle.minix_create.proofs.GrownLemmas.{go_brings, go_near, grows_unbrought, may_brought, grows_brought, is_last, grows_unread, grows_read}
use Rattle.minix_create.proofs.OpenLemmas.{suits_kept}
use Rattle.minix_create.proofs.grown.grow_to.Goals as goal

pub returns-in_err-bring-clause-grows : goal.returns-in_err-bring-clause-grows
returns-in_err-bring-clause-grows g c =
    let old = c.args.volume.now in
    let fault = c.in_err-bring.field-0.0 in
    let is : c.from_residual.result ≡ Err fault = search rules in
    let brings = rw c.place-place.ensures at c.in_err-bring.ensures.brings in
    rw is (grows_unbrought old c.args.chosen.now c.args.have c.requires.may c.bring.new.volume fault
    (brings (go_brings old c.args.chosen.now c.args.have c.requires.may) (go_near old c.args.chosen.now c.args.have c.requires.may)))

pub returns-in_err-at-clause-grows : goal.returns-in_err-at-clause-grows
returns-in_err-at-clause-grows g c =
    let old = c.args.volume.now in
    let mid = c.bring.new.volume in
    let fault = c.in_err-at.field-0.0 in
    let is : c.from_residual-in_err-at.result ≡ Err fault = search rules in
    let brings = (rw c.place-place.ensures at c.in_ok-bring.ensures.brings) (go_brings old c.args.chosen.now c.args.have c.requires.may) (go_near old c.args.chosen.now c.args.have c.requires.may) in
    let gives = rw c.place-place.ensures at c.in_err-at.ensures.finds in
    rw is (grows_brought old c.args.chosen.now c.args.have c.requires.may mid brings c.place_at.new.volume (Err fault)
    (grows_unread mid c.place_at.new.volume c.args.chosen.now c.in_ok-bring.ensures.quiet (may_brought old c.args.chosen.now c.args.have c.requires.may mid brings) c.place_at.ensures.same c.place_at.ensures.later
    fault gives c.in_err-at.ensures.cause))

pub grow_last-requires-clause-suits : goal.grow_last-requires-clause-suits
grow_last-requires-clause-suits g c =
    suits_kept c.args.volume.now c.place_at.new.volume c.args.chosen.now
    (keeps_join c.args.volume.now c.bring.new.volume c.place_at.new.volume c.bring.ensures.kept (keeps_same c.bring.new.volume c.place_at.new.volume c.place_at.ensures.same)) c.requires.suits

pub grow_last-requires-clause-quiet : goal.grow_last-requires-clause-quiet
grow_last-requires-clause-quiet g c =
    let P : Option Past → Type 0 = λ past. IsQuiet past in
    subst P (sym c.place_at.ensures.same.same_disks.same_past) c.in_ok-bring.ensures.quiet

pub grow_last-requires-clause-fits : goal.grow_last-requires-clause-fits
grow_last-requires-clause-fits g c =
    let P : Super → Type 0 = λ layout. FitsInode (kind_view layout.kind) (inode_view c.in_ok-at.at.node) in
    subst P (sym c.place_at.ensures.same.same_layout) c.in_ok-at.ensures.fits

pub grow_last-requires-clause-last : goal.grow_last-requires-clause-last
grow_last-requires-clause-last g c =
    let old = c.args.volume.now in
    let brings = (rw c.place-place.ensures at c.in_ok-bring.ensures.brings) (go_brings old c.args.chosen.now c.args.have c.requires.may) (go_near old c.args.chosen.now c.args.have c.requires.may) in
    let gives = rw c.place-place.ensures at c.in_ok-at.ensures.finds in
    is_last old c.args.chosen.now c.args.have c.requires.may c.bring.new.volume brings c.place_at.new.volume c.place_at.ensures.same c.in_ok-at.at gives

pub returns-clause-grows : goal.returns-clause-grows
returns-clause-grows g c =
    let old = c.args.volume.now in
    let mid = c.bring.new.volume in
    let brings = (rw c.place-place.ensures at c.in_ok-bring.ensures.brings) (go_brings old c.args.chosen.now c.args.have c.requires.may) (go_near old c.args.chosen.now c.args.have c.requires.may) in
    grows_brought old c.args.chosen.now c.args.have c.requires.may mid brings c.grow_last.new.volume c.grow_last.result
    (grows_read mid c.place_at.new.volume c.args.chosen.now c.in_ok-bring.ensures.quiet (may_brought old c.args.chosen.now c.args.have c.requires.may mid brings) c.place_at.ensures.same c.place_at.ensures.later
    c.grow_last.new.volume c.grow_last.result c.grow_last.ensures.grows)

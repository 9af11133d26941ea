use Rattle.std.proofs.Common.{◌≡◌, ◌≢◌, Err, Option, sym, subst, rules}
use Rattle.disk_trait.specs.Moments.{IsQuiet}
use Rattle.disk_trait.specs.Past.{Past}
use Rattle.minix_layout.specs.declared.superblock.Super.{Super}
use Rattle.minix_zones.specs.View.{IsDataZone}
use Rattle.minix_zones.proofs.WriteLemmas.{keeps_join, keeps_same}
use Rattle.minix_create.proofs.LinkLemmas.{links_not_grown, links_no_place, links_in_hole, linkable, enter_may, links_entered}
use Rattle.minix_create.proofs.OpenLemmas.{suits_kept}
use Rattle.minix_create.proofs.steps.link_chosen.Goals as goal

pub returns-in_err-grow_chosen-clause-links : goal.returns-in_err-grow_chosen-clause-links
returns-in_err-grow_chosen-clause-links g c start outer given filled nests may =
    let fault = c.in_err-grow_chosen.field-0.0 in
    let is : c.from_residual.result ≡ Err fault = search rules in
    rw is (links_not_grown start c.args.volume.now c.grow_chosen.new.volume outer c.args.chosen.now given filled fault c.in_err-grow_chosen.ensures.grows c.grow_chosen.ensures.none may)

pub returns-in_err-at-clause-links : goal.returns-in_err-at-clause-links
returns-in_err-at-clause-links g c start outer given filled nests may =
    let fault = c.in_err-at.field-0.0 in
    let is : c.from_residual-in_err-at.result ≡ Err fault = search rules in
    let gives = rw c.place.ensures at c.in_err-at.ensures.finds in
    rw is (links_no_place start c.args.volume.now c.grow_chosen.new.volume c.place_at.new.volume outer c.args.chosen.now given filled c.in_ok-grow_chosen.ensures.grows c.grow_chosen.ensures.none
    c.place_at.ensures.same c.place_at.ensures.later nests may c.in_ok-grow_chosen.ensures.quiet fault gives c.in_err-at.ensures.cause)

pub returns-then-at-eq0-clause-links : goal.returns-then-at-eq0-clause-links
returns-then-at-eq0-clause-links g c start outer given filled nests may =
    let gives = rw c.place.ensures at c.in_ok-at.ensures.finds in
    let none : c.in_ok-at.at.zone ≡ 0 = search rules in
    links_in_hole start c.args.volume.now c.grow_chosen.new.volume c.place_at.new.volume outer c.args.chosen.now given filled c.in_ok-grow_chosen.ensures.grows c.grow_chosen.ensures.none
    c.place_at.ensures.same c.place_at.ensures.later nests may c.in_ok-grow_chosen.ensures.quiet c.in_ok-at.at gives none _

pub enter_chosen-requires-clause-suits : goal.enter_chosen-requires-clause-suits
enter_chosen-requires-clause-suits g c =
    suits_kept c.args.volume.now c.place_at.new.volume c.args.chosen.now
    (keeps_join c.args.volume.now c.grow_chosen.new.volume c.place_at.new.volume c.grow_chosen.ensures.grows.unseen.kept (keeps_same c.grow_chosen.new.volume c.place_at.new.volume c.place_at.ensures.same)) c.requires.suits

pub enter_chosen-requires-clause-data : goal.enter_chosen-requires-clause-data
enter_chosen-requires-clause-data g c =
    let some : c.in_ok-at.at.zone ≢ 0 = search rules in
    let P : Super → Type 0 = λ layout. IsDataZone layout c.in_ok-at.at.zone in
    subst P (sym c.place_at.ensures.same.same_layout) (c.in_ok-at.ensures.data some)

pub enter_chosen-requires-clause-quiet : goal.enter_chosen-requires-clause-quiet
enter_chosen-requires-clause-quiet g c =
    let P : Option Past → Type 0 = λ past. IsQuiet past in
    subst P (sym c.place_at.ensures.same.same_disks.same_past) c.in_ok-grow_chosen.ensures.quiet

pub returns-clause-links : goal.returns-clause-links
returns-clause-links g c start outer given filled nests may =
    let gives = rw c.place.ensures at c.in_ok-at.ensures.finds in
    let ready = linkable start c.args.volume.now c.grow_chosen.new.volume c.place_at.new.volume outer c.args.chosen.now given filled c.in_ok-grow_chosen.ensures.grows c.grow_chosen.ensures.none
    c.place_at.ensures.same c.place_at.ensures.later nests may c.in_ok-grow_chosen.ensures.quiet c.in_ok-at.at gives in
    links_entered start c.place_at.new.volume outer c.args.chosen.now given c.in_ok-at.at.zone ready may c.enter_chosen.new.volume c.enter_chosen.result
    (c.enter_chosen.ensures.enters outer (enter_may start c.place_at.new.volume outer c.args.chosen.now given c.in_ok-at.at.zone ready))

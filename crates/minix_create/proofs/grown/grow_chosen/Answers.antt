use Rattle.std.proofs.Common.{◌≡◌, ◌<◌, Err, rules, arith}
use Rattle.lilo_model.specs.MinixEntries.{places}
use Rattle.minix_layout.specs.View.{kind_view, inode_view}
use Rattle.minix_create.proofs.GrownLemmas.{grows_unread, grows_there, not_there, may_go, grows_read}
use Rattle.minix_create.proofs.grown.grow_chosen.Goals as goal
use Rattle.minix_create.proofs.grown.grow_chosen.Goals.{else-place-have-via-then-place-have+else-at-ne0, else-place-have-via-else-place-have}

pub returns-in_err-at-clause-grows : goal.returns-in_err-at-clause-grows
returns-in_err-at-clause-grows g c =
    let old = c.args.volume.now in
    let fault = c.in_err-at.field-0.0 in
    let is : c.from_residual.result ≡ Err fault = search rules in
    let gives = rw c.place-place.ensures at c.in_err-at.ensures.finds in
    rw is (grows_unread old c.place_at.new.volume c.args.chosen.now c.requires.quiet c.requires.may c.place_at.ensures.same c.place_at.ensures.later fault gives c.in_err-at.ensures.cause)

pub returns-then-at-ne0-clause-grows : goal.returns-then-at-ne0-clause-grows
returns-then-at-ne0-clause-grows g c =
    let old = c.args.volume.now in
    let gives = rw c.place-place.ensures at c.in_ok-at.ensures.finds in
    let have : c.places-have.result ≡ places (kind_view old.layout.kind) (inode_view c.in_ok-at.at.node).size = rw (c.layout.ensures.value, c.place_at.ensures.same.same_layout) at c.places-have.ensures.value in
    let low : c.args.chosen.now.choice.place < c.places-have.result = rw c.place-place.ensures at c.if-place-have.true in
    grows_there old c.place_at.new.volume c.args.chosen.now c.requires.quiet c.requires.may c.place_at.ensures.same c.place_at.ensures.later c.in_ok-at.at gives c.places-have.result have low c.if-at-ne0.true

pub grow_to-requires-clause-may : goal.grow_to-requires-clause-may
grow_to-requires-clause-may g c =
    let old = c.args.volume.now in
    let gives = rw c.place-place.ensures at c.in_ok-at.ensures.finds in
    let have : c.places-have.result ≡ places (kind_view old.layout.kind) (inode_view c.in_ok-at.at.node).size = rw (c.layout.ensures.value, c.place_at.ensures.same.same_layout) at c.places-have.ensures.value in
    may_go old c.place_at.new.volume c.args.chosen.now c.requires.quiet c.requires.may c.place_at.ensures.same c.place_at.ensures.later c.in_ok-at.at gives c.places-have.result have

pub returns-clause-grows : goal.returns-clause-grows
returns-clause-grows g c =
    grows_read c.args.volume.now c.place_at.new.volume c.args.chosen.now c.requires.quiet c.requires.may c.place_at.ensures.same c.place_at.ensures.later c.grow_to.new.volume c.grow_to.result c.grow_to.ensures.grows

pub returns-clause-none : goal.returns-clause-none
returns-clause-none g c told lies =
    let old = c.args.volume.now in
    let gives = rw c.place-place.ensures at c.in_ok-at.ensures.finds in
    let have : c.places-have.result ≡ places (kind_view old.layout.kind) (inode_view c.in_ok-at.at.node).size = rw (c.layout.ensures.value, c.place_at.ensures.same.same_layout) at c.places-have.ensures.value in
    let hole : c.args.chosen.now.choice.place < c.places-have.result → c.in_ok-at.at.zone ≡ 0 = λ low.
    elim c.else-place-have.branch [
      | else-place-have-via-then-place-have+else-at-ne0 w ↦ (let is = w.if-at-ne0.false in omega (arith, is))
      | else-place-have-via-else-place-have w ↦ (let past = w.if-place-have.false in let e = c.place-place.ensures in absurd (omega (arith, past, low, e)))
    ] in
    absurd (not_there old c.place_at.new.volume c.args.chosen.now c.requires.quiet c.requires.may c.place_at.ensures.same c.place_at.ensures.later c.in_ok-at.at gives c.places-have.result have hole told lies)

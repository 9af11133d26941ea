use Rattle.std.proofs.Common.{◌≡◌, ◌<◌, ◌^◌, Ok, refl, sym, ap, ◌∙◌, rules}
use Rattle.disk_trait.specs.declared.disks.Span.{Span}
use Rattle.lilo_model.specs.MinixParts.{parts_of}
use Rattle.minix_choice.specs.View.{taken_view, wish_view}
use Rattle.minix_zones.proofs.SameLemmas.{told_forth}
use Rattle.minix_zones.proofs.WriteLemmas.{keeps_same}
use Rattle.write_model.specs.Choice.{choose}
use Rattle.minix_create.proofs.ChosenLemmas.{suits_made, is_free, each_zone, links, promises_more}
use Rattle.minix_create.proofs.OpenLemmas.{suits_kept}
use Rattle.minix_create.proofs.chosen.choose.Goals as goal

pub returns-clause-suits : goal.returns-clause-suits
returns-clause-suits g c =
    let small : c.args.wish.now.length < 2 ^ 32 = search rules in
    suits_made c.args.volume.now.layout c.args.volume.now.span c.args.wish.now _ c.in_ok-name.ensures refl refl (ap (λ (s : Span). s.start) (c.span.ensures.value ∙ c.choose.ensures.same.same_span))
    small c.requires.some c.requires.there c.requires.no_zero c.requires.sized c.in_ok-choice.ensures.suits

pub returns-clause-free : goal.returns-clause-free
returns-clause-free g c =
    let suits = suits_kept c.args.volume.now c.choose.new.volume _ (keeps_same c.args.volume.now c.choose.new.volume c.choose.ensures.same) (returns-clause-suits g c) in
    is_free c.choose.new.volume c.args.taken.now (wish_view c.args.wish.now) _ suits
    (told_forth c.args.volume.now c.choose.new.volume (λ volume image. choose volume.layout (parts_of volume image) (taken_view c.args.taken.now) (wish_view c.args.wish.now) ≡ Ok c.in_ok-choice.choice)
    c.choose.ensures.same c.in_ok-choice.ensures.choice)
    refl (sym c.in_ok-name.ensures) refl

pub returns-clause-whole : goal.returns-clause-whole
returns-clause-whole g c =
    let suits = suits_kept c.args.volume.now c.choose.new.volume _ (keeps_same c.args.volume.now c.choose.new.volume c.choose.ensures.same) (returns-clause-suits g c) in
    each_zone c.choose.new.volume c.args.taken.now (wish_view c.args.wish.now) _ suits
    (told_forth c.args.volume.now c.choose.new.volume (λ volume image. choose volume.layout (parts_of volume image) (taken_view c.args.taken.now) (wish_view c.args.wish.now) ≡ Ok c.in_ok-choice.choice)
    c.choose.ensures.same c.in_ok-choice.ensures.choice)
    refl

pub returns-clause-name : goal.returns-clause-name
returns-clause-name g c =
    let suits = suits_kept c.args.volume.now c.choose.new.volume _ (keeps_same c.args.volume.now c.choose.new.volume c.choose.ensures.same) (returns-clause-suits g c) in
    links c.choose.new.volume c.args.taken.now (wish_view c.args.wish.now) _ suits
    (told_forth c.args.volume.now c.choose.new.volume (λ volume image. choose volume.layout (parts_of volume image) (taken_view c.args.taken.now) (wish_view c.args.wish.now) ≡ Ok c.in_ok-choice.choice)
    c.choose.ensures.same c.in_ok-choice.ensures.choice)
    refl (sym c.in_ok-name.ensures)

pub returns-clause-promises : goal.returns-clause-promises
returns-clause-promises g c =
    let suits = suits_kept c.args.volume.now c.choose.new.volume _ (keeps_same c.args.volume.now c.choose.new.volume c.choose.ensures.same) (returns-clause-suits g c) in
    promises_more c.choose.new.volume c.args.taken.now (wish_view c.args.wish.now) _ suits
    (told_forth c.args.volume.now c.choose.new.volume (λ volume image. choose volume.layout (parts_of volume image) (taken_view c.args.taken.now) (wish_view c.args.wish.now) ≡ Ok c.in_ok-choice.choice)
    c.choose.ensures.same c.in_ok-choice.ensures.choice)
    refl c.choose.new.taken c.in_ok-choice.ensures.taken

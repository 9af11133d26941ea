-- A zone is judged by its bitmap bit, and by what referred to it before.
use Rattle.std.proofs.Common.{◌≡◌, ◌∷◌, Ok, Err, Some, None, refl, sym, ◌∙◌}
use Rattle.lilo_model.specs.MinixParts.{parts_of}
use Rattle.lilo_model.specs.MinixSurvey.{Refers, owner}
use Rattle.minix_zones.specs.Volume.{volume_view}
use Rattle.minix_zones.specs.Walk.{visit_view}
use Rattle.minix_survey.specs.Step.{seen_in}
use Rattle.minix_survey.proofs.JudgeLemmas.{zone-unmarked, zone-crossed, zone-good}
use Rattle.minix_survey.proofs.StepLemmas.{one_step}
use Rattle.minix_survey.proofs.walk.meet_zone.Goals as goal

pub returns-then-not-marked : goal.returns-then-not-marked
returns-then-not-marked g c =
    let old = c.args.volume.now in
    one_step old _ _ _ _ _
    (λ now. c.in_ok-marked.marked ≡ (parts_of (volume_view old) now).has_zone c.args.visit.zone)
    c.in_ok-marked.ensures.value
    (λ now marked met tells good. zone-unmarked (seen_in old now) met good c.args.inode (visit_view c.args.visit) (sym marked ∙ c.if-not-marked.true))
    tt c.in_ok-marked.ensures.later c.in_ok-marked.ensures.same

pub returns-in-Some : goal.returns-in-Some
returns-in-Some g c =
    let old = c.args.volume.now in
    let zone = c.args.visit.zone in
    one_step old _ _ _ _ _
    (λ now. c.in_ok-marked.marked ≡ (parts_of (volume_view old) now).has_zone zone)
    c.in_ok-marked.ensures.value
    (λ now marked met tells good.
    let other : owner met zone ≡ Some c.in-Some.first = sym (tells.found.owner zone) ∙ sym c.in_ok-first.ensures.first ∙ c.in-Some.is in
    zone-crossed (seen_in old now) met good c.args.inode c.in-Some.first (visit_view c.args.visit) (sym marked ∙ c.if-not-marked.false) other)
    tt c.in_ok-marked.ensures.later c.in_ok-marked.ensures.same

pub returns-in-None : goal.returns-in-None
returns-in-None g c =
    let old = c.args.volume.now in
    let zone = c.args.visit.zone in
    one_step old _ _ _ _ _
    (λ now. c.in_ok-marked.marked ≡ (parts_of (volume_view old) now).has_zone zone)
    c.in_ok-marked.ensures.value
    (λ now marked met tells good.
    let none : owner met zone ≡ None = sym (tells.found.owner zone) ∙ sym c.in_ok-first.ensures.first ∙ c.in-None.is in
    let next = rw c.in-None.is at c.in_ok-first.ensures.tells in
    (zone-good (seen_in old now) met good c.args.inode (visit_view c.args.visit) (sym marked ∙ c.if-not-marked.false) none, next met tells))
    tt c.in_ok-marked.ensures.later c.in_ok-marked.ensures.same

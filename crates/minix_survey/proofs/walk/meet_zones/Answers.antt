-- The zones of an inode, one after the other.
use Rattle.std.proofs.Common.{◌≡◌, Ok, Err, refl, sym, ◌∙◌, ap, rules}
use Rattle.lilo_model.specs.MinixParts.{parts_of}
use Rattle.minix_layout.specs.View.{kind_view}
use Rattle.minix_zones.specs.Held.{Holds}
use Rattle.minix_zones.proofs.SameLemmas.{told_forth}
use Rattle.minix_survey.proofs.ZoneLoop.{walks-init, walks-more, walks-stop, walks-refused, walks-done, walks-given}
use Rattle.minix_survey.proofs.walk.meet_zones.Goals as goal

pub loop-visit-init : goal.loop-visit-init
loop-visit-init g c = record {
  walks = walks-init c.args.volume.now c.args.tables.now c.args.inode c.args.node.now c.new-walk.result
      (λ super parts kind. c.new-walk.ensures super parts (kind ∙ ap (λ l. kind_view l.kind) (sym c.layout.ensures.value)));
  held = c.of-held.ensures;
}

pub loop-visit-preserved : goal.loop-visit-preserved
loop-visit-preserved g c =
    let met = rw c.in-Some.is at c.in_ok-visit.ensures.meets in
    record {
      walks = walks-more c.args.volume.now c.args.tables.now c.args.inode c.args.node.now c.loop-visit.volume c.loop-visit.tables c.loop-visit.walk c.loop-visit.invariant.walks
          c.next_zone.new.walk c.in-Some.visit c.next_zone.new.volume met c.in_ok-visit.ensures.later c.in_ok-visit.ensures.same c.meet_zone.new.volume c.meet_zone.new.tables c.in_ok-meet_zone.ensures;
      held = told_forth c.next_zone.new.volume c.meet_zone.new.volume (λ volume now. Holds (parts_of volume now) c.next_zone.new.held)
          c.in_ok-meet_zone.ensures.same c.in_ok-visit.ensures.held;
    }

pub loop-visit-smaller : goal.loop-visit-smaller
loop-visit-smaller g c = rw c.in-Some.is at c.in_ok-visit.ensures.fewer

pub returns-in_err-visit-clause-steps : goal.returns-in_err-visit-clause-steps
returns-in_err-visit-clause-steps g c =
    let fault = c.in_err-visit.field-0.0 in
    let given : c.from_residual.result ≡ Err fault = search rules in
    rw given
    (walks-refused c.args.volume.now c.args.tables.now c.args.inode c.args.node.now c.loop-visit.volume c.loop-visit.tables c.loop-visit.walk c.loop-visit.invariant.walks
    c.next_zone.new.volume c.in_err-visit.ensures.later c.in_err-visit.ensures.same c.requires (sym c.has_zones.ensures ∙ c.if-not-has_zones.false) fault c.in_err-visit.ensures.meets c.in_err-visit.ensures.cause)

pub returns-in_err-meet_zone-clause-steps : goal.returns-in_err-meet_zone-clause-steps
returns-in_err-meet_zone-clause-steps g c =
    let fault = c.in_err-meet_zone.field-0.0 in
    let given : c.from_residual-in_err-meet_zone.result ≡ Err fault = search rules in
    let met = rw c.in-Some.is at c.in_ok-visit.ensures.meets in
    rw given
    (walks-stop c.args.volume.now c.args.tables.now c.args.inode c.args.node.now c.loop-visit.volume c.loop-visit.tables c.loop-visit.walk c.loop-visit.invariant.walks
    c.next_zone.new.walk c.in-Some.visit c.next_zone.new.volume met c.in_ok-visit.ensures.later c.in_ok-visit.ensures.same c.requires (sym c.has_zones.ensures ∙ c.if-not-has_zones.false)
    c.meet_zone.new.volume c.meet_zone.new.tables fault c.in_err-meet_zone.ensures)

pub returns-clause-steps : goal.returns-clause-steps
returns-clause-steps g c =
    let none = rw c.in_default.is at c.in_ok-visit.ensures.meets in
    walks-done c.args.volume.now c.args.tables.now c.args.inode c.args.node.now c.loop-visit.volume c.loop-visit.tables c.loop-visit.walk c.loop-visit.invariant.walks
    c.next_zone.new.volume c.in_ok-visit.ensures.later c.in_ok-visit.ensures.same c.requires (sym c.has_zones.ensures ∙ c.if-not-has_zones.false) none

pub returns-clause-given : goal.returns-clause-given
returns-clause-given g c has =
    let none = rw c.in_default.is at c.in_ok-visit.ensures.meets in
    walks-given c.args.volume.now c.args.tables.now c.args.inode c.args.node.now c.loop-visit.volume c.loop-visit.tables c.loop-visit.walk c.loop-visit.invariant.walks
    c.next_zone.new.volume c.in_ok-visit.ensures.later c.in_ok-visit.ensures.same c.requires has none

use Rattle.std.proofs.Common.{rules, ◌≡◌, ◌+◌, ◌/◌, ◌<◌, ℕ, refl, sym, ◌∙◌, subst}
use Rattle.disk_trait.specs.declared.disks.Span.{Span}
use Rattle.disk_trait.proofs.MomentLemmas.{told_now}
use Rattle.lilo_model.specs.MinixLayout.{zone_sector}
use Rattle.lilo_model.specs.MinixParts.{sector_of}
use Rattle.minix_zones.specs.Volume.{volume_view, past_of}
use Rattle.minix_zones.specs.declared.zone_fault.ZoneFault.TheVariants.{Device}
use Rattle.minix_turns.specs.Turns.{Turns}
use Rattle.minix_turns.specs.Part.{part_rewritten}
use Rattle.minix_turns.proofs.TurnLemmas.{turn_unread, turn_after}
use Rattle.minix_turns.proofs.PartLemmas.{part_there, part_no_super, part_moments, part_now}
use Rattle.minix_turns.proofs.part.turn_part.Goals as goal

pub read_sector-requires : goal.read_sector-requires
read_sector-requires g c =
    let at : c.where_zone.result + c.from.result ≡ zone_sector c.args.zone + c.args.offset / 512 = rw (c.where_zone.ensures, c.from.ensures) refl in
    subst (λ s. s < c.args.volume.now.span.count) (sym at) (part_there c.args.volume.now c.args.zone c.args.offset c.requires.below c.requires.start)

pub turn-requires-clause-inside : goal.turn-requires-clause-inside
turn-requires-clause-inside g c =
    let P : Span → Type 0 = λ span. c.where_zone.result + c.from.result < span.count in
    let at : c.where_zone.result + c.from.result ≡ zone_sector c.args.zone + c.args.offset / 512 = rw (c.where_zone.ensures, c.from.ensures) refl in
    subst P (sym c.read_sector.ensures.same.same_span)
    (subst (λ s. s < c.args.volume.now.span.count) (sym at) (part_there c.args.volume.now c.args.zone c.args.offset c.requires.below c.requires.start))

pub turn-requires-clause-no_super : goal.turn-requires-clause-no_super
turn-requires-clause-no_super g c e =
    let at : c.where_zone.result + c.from.result ≡ zone_sector c.args.zone + c.args.offset / 512 = rw (c.where_zone.ensures, c.from.ensures) refl in
    part_no_super c.args.volume.now c.args.zone c.args.offset c.requires.below c.requires.start c.requires.from (sym at ∙ e)

pub returns-in_err-read_sector-clause-turns : goal.returns-in_err-read_sector-clause-turns
returns-in_err-read_sector-clause-turns g c =
    let old = c.args.volume.now in
    turn_unread old c.read_sector.new.self c.read_sector.ensures.same c.read_sector.ensures.later
    (zone_sector c.args.zone + c.args.offset / 512) (part_rewritten old c.args.zone c.args.offset c.args.part.now) Device c.from_residual.result (λ P. search rules) c.requires.quiet (search rules)

pub returns-in_err-read_sector-clause-any_moment : goal.returns-in_err-read_sector-clause-any_moment
returns-in_err-read_sector-clause-any_moment g c =
    part_moments c.args.volume.now c.args.zone c.args.offset c.requires.below c.requires.start c.args.part.now c.requires.inside
    c.read_sector.new.self Device c.from_residual.result (returns-in_err-read_sector-clause-turns g c)

pub returns-clause-turns : goal.returns-clause-turns
returns-clause-turns g c =
    let old = c.args.volume.now in
    let mid = c.read_sector.new.self in
    let at : c.where_zone.result + c.from.result ≡ zone_sector c.args.zone + c.args.offset / 512 = rw (c.where_zone.ensures, c.from.ensures) refl in
    let S : ℕ → Type 0 = λ s. Turns mid c.turn.new.volume s c.put_part.new.sector Device c.turn.result in
    turn_after old mid c.read_sector.ensures.same c.read_sector.ensures.later c.turn.new.volume
    (zone_sector c.args.zone + c.args.offset / 512) c.put_part.new.sector (part_rewritten old c.args.zone c.args.offset c.args.part.now) Device
    (λ told.
    let read = told_now (past_of old) (λ now. c.read_sector.new.into ≡ sector_of (volume_view old) now (c.where_zone.result + c.from.result)) c.in_ok-read_sector.ensures.bytes told in
    c.put_part.ensures ∙ rw (c.from-2.ensures, read, at) refl)
    c.turn.result (subst S at c.turn.ensures.turns)

pub returns-clause-any_moment : goal.returns-clause-any_moment
returns-clause-any_moment g c =
    part_moments c.args.volume.now c.args.zone c.args.offset c.requires.below c.requires.start c.args.part.now c.requires.inside
    c.turn.new.volume Device c.turn.result (returns-clause-turns g c)

pub returns-clause-part : goal.returns-clause-part
returns-clause-part g c =
    part_now c.args.volume.now c.args.zone c.args.offset c.requires.below c.requires.start c.args.part.now c.requires.inside
    c.turn.new.volume Device c.turn.result (returns-clause-turns g c)

use Rattle.std.proofs.Common.{◌≡◌, ◌∙◌, Ok, refl, sym, subst, arith}
use Rattle.disk_trait.specs.Past.{Told}
use Rattle.lilo_model.specs.MinixParts.{parts_of}
use Rattle.minix_layout.specs.View.{super_view}
use Rattle.minix_zones.specs.Walk.{number_of}
use Rattle.minix_zones.specs.Volume.{volume_view, past_of, faults_of}
use Rattle.minix_zones.proofs.SameLemmas.{told_forth}
use Rattle.minix_zones.proofs.TurnLemmas.{turn_down, turn_zone, turn_refused, begins_of, kind_of, come_from}
use Rattle.minix_zones.proofs.walk.Walk.turn.Goals as goal

pub returns-then-not-begins-clause-turns : goal.returns-then-not-begins-clause-turns
returns-then-not-begins-clause-turns g c =
    let volume = c.args.volume.now in
    turn_down (past_of volume) (volume_view volume) c.args.self.now c.descend.new.self _ (sym (kind_of _ volume.layout c.layout.ensures.value)) c.descend.ensures.rest

pub pass_holes-requires-clause-begun : goal.pass_holes-requires-clause-begun
pass_holes-requires-clause-begun g c =
    let walk = c.args.self.now in
    let same = c.in-Ok-eq0.ensures.same in
    begins_of _ c.number_above.new.volume.layout walk.index walk.level _ _ (c.layout.ensures.value ∙ sym same.same_layout) c.begins.ensures c.if-not-begins.false

pub pass_holes-requires-clause-hole : goal.pass_holes-requires-clause-hole
pass_holes-requires-clause-hole g c =
    let walk = c.args.self.now in
    let old = c.args.volume.now in
    let hole : c.in-Ok-eq0.field-0 ≡ 0 = omega arith in
    told_forth old c.number_above.new.volume (λ view now. number_of view.layout (parts_of view now) walk ≡ Ok 0) c.in-Ok-eq0.ensures.same
    (subst (λ n. Told (past_of old) (λ now. number_of (super_view old.layout) (parts_of (volume_view old) now) walk ≡ Ok n)) hole c.in-Ok-eq0.ensures.number)

pub returns-in-Ok-clause-turns : goal.returns-in-Ok-clause-turns
returns-in-Ok-clause-turns g c =
    let walk = c.args.self.now in
    let layout = c.args.volume.now.layout in
    let begun = begins_of _ layout walk.index walk.level _ _ c.layout.ensures.value c.begins.ensures c.if-not-begins.false in
    turn_zone (past_of c.args.volume.now) (volume_view c.args.volume.now) walk c.step.new.self c.in-Ok.zone c.requires.more begun c.in-Ok.ensures.number (omega arith)
    (λ high. come_from walk _ _ _ _ refl refl (c.step.ensures.below high))
    (λ low. come_from walk _ _ _ _ refl refl (c.step.ensures.behind low))

pub returns-in-Err-clause-turns : goal.returns-in-Err-clause-turns
returns-in-Err-clause-turns g c =
    let walk = c.args.self.now in
    let layout = c.args.volume.now.layout in
    let begun = begins_of _ layout walk.index walk.level _ _ c.layout.ensures.value c.begins.ensures c.if-not-begins.false in
    turn_refused (past_of c.args.volume.now) (volume_view c.args.volume.now) walk c.in-Err.fault (faults_of c.args.volume.now) _ c.requires.more begun c.in-Err.ensures.cause c.in-Err.ensures.number

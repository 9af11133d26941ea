use Rattle.std.proofs.Common.{◌≡◌, ◌≤◌, ◌<◌, ◌-◌, ◌++◌, sym, subst, arith, rules, Err, ℕ, length, take}
use Rattle.disk_trait.specs.Past.{Image, Told}
use Rattle.lilo_model.specs.MinixParts.{Volume}
use Rattle.minix_zones.specs.Volume.{volume_view, past_of, faults_of}
use Rattle.minix_steps.specs.Bitmap.{end_of}
use Rattle.minix_steps.specs.Free.{is_free_on, free_from}
use Rattle.minix_steps.proofs.FindLemmas.{zones_found, zones_short, zones_more, not_short_told}
use Rattle.minix_zones.proofs.SameLemmas.{told_back}
use Rattle.minix_steps.proofs.find.find_free.Goals as goal
use Rattle.minix_steps.proofs.find.find_free.Goals.{then-loop-at-test+else-len-need, else-loop-at-test}

pub returns-in_err-take_in_sector-clause-zones : goal.returns-in_err-take_in_sector-clause-zones
returns-in_err-take_in_sector-clause-zones g c =
    let fault = c.in_err-take_in_sector.field-0.0 in
    let given : c.from_residual.result ≡ Err fault = search rules in
    rw given (not_short_told (past_of c.args.volume.now) (volume_view c.args.volume.now) c.args.avoid.now.numbers c.args.need (faults_of c.loop-at.volume) (faults_of c.take_in_sector.new.volume) fault c.in_err-take_in_sector.ensures.cause)

pub loop-at-preserved : goal.loop-at-preserved
loop-at-preserved g c =
    let bitmap = c.zone_bitmap-bitmap.result in
    let at = c.loop-at.at in
    let P : Volume → Image → Type 0 = λ volume now. c.take_in_sector.new.found.items ≡ take c.args.need (c.loop-at.found.items ++ free_from (is_free_on volume now bitmap c.args.avoid.now.numbers) at (end_of bitmap at - at)) in
    let Q : ℕ → Type 0 = λ behind. Told (past_of c.args.volume.now) (λ now. c.take_in_sector.new.found.items ≡ take c.args.need (c.loop-at.found.items ++ free_from (is_free_on (volume_view c.args.volume.now) now bitmap c.args.avoid.now.numbers) at (behind - at))) in
    let then = told_back c.args.volume.now c.loop-at.volume P c.loop-at.invariant.same c.in_ok-take_in_sector.ensures.taken in
    record {
      from = omega (arith, c.loop-at.invariant.from, c.end_of-at.ensures.behind);
      order = c.end_of-at.ensures.within;
      taken = zones_more (past_of c.args.volume.now) (volume_view c.args.volume.now) bitmap c.args.avoid.now.numbers c.loop-at.found.items c.args.need at c.zone_bitmap-bitmap.ensures.value c.zone_bitmap-bitmap.ensures.origin c.loop-at.invariant.from c.loop-at.invariant.order c.loop-at.invariant.taken
          c.take_in_sector.new.found.items c.end_of-at.result (omega (arith, c.end_of-at.ensures.behind)) (subst Q (sym c.end_of-at.ensures.value) then);
      few = c.in_ok-take_in_sector.ensures.few;
      inside = c.in_ok-take_in_sector.ensures.inside c.loop-at.invariant.inside;
      later = omega (arith, c.loop-at.invariant.later, c.take_in_sector.ensures.later);
      same = search rules;
    }

pub returns-then-len-need-2-clause-zones : goal.returns-then-len-need-2-clause-zones
returns-then-len-need-2-clause-zones g c =
    let found = c.loop-at.found.items in
    let few : length found < c.args.need = omega arith in
    let looked : c.loop-at.at < c.zone_bitmap-bitmap.result.end → c.args.need ≤ length found =
    λ before. elim c.loop-at-test.branch [ then-loop-at-test+else-len-need w ↦ omega arith | else-loop-at-test w ↦ omega arith ] in
    zones_short (past_of c.args.volume.now) (volume_view c.args.volume.now) c.zone_bitmap-bitmap.result c.args.avoid.now.numbers found c.args.need c.loop-at.at c.zone_bitmap-bitmap.ensures.value c.zone_bitmap-bitmap.ensures.origin c.loop-at.invariant.from c.loop-at.invariant.order c.loop-at.invariant.taken
    _ few looked (omega arith)

pub returns-clause-zones : goal.returns-clause-zones
returns-clause-zones g c =
    let found = c.loop-at.found.items in
    let long : c.args.need ≤ length found = omega arith in
    rw c.new.ensures
    (zones_found (past_of c.args.volume.now) (volume_view c.args.volume.now) c.zone_bitmap-bitmap.result c.args.avoid.now.numbers found c.args.need c.loop-at.at c.zone_bitmap-bitmap.ensures.value c.zone_bitmap-bitmap.ensures.origin c.loop-at.invariant.from c.loop-at.invariant.order c.loop-at.invariant.taken
    long)

-- Zone by zone.
use Rattle.std.proofs.Common.{◌≡◌, ◌==◌, ◌∙◌, true, false, None, Some, sym, arith, rules}
use Rattle.std.proofs.lemmas.Bool.Decides.{nat_tests}
use Rattle.lilo_model.specs.MinixParts.{parts_of}
use Rattle.minix_zones.specs.Volume.{past_of}
use Rattle.minix_zones.specs.Walk.{rest_of}
use Rattle.minix_zones.proofs.SameLemmas.{told_back}
use Rattle.disk_trait.proofs.ToldLemmas.{told_both}
use Rattle.present_map.specs.Holder.{Seeks}
use Rattle.present_map.proofs.HolderLemmas.{met-here, met-later}
use Rattle.present_map.proofs.holder.has_zone.Goals as goal

pub returns-then-visit-zone-clause-has : goal.returns-then-visit-zone-clause-has
returns-then-visit-zone-clause-has g c =
    let same : (c.in-Some.visit.zone == c.args.zone) ≡ true = grind (arith, nat_tests, c.if-visit-zone.true) in
    told_both (past_of c.args.volume.now) _ _ _
    (λ now far here. met-here c.in-Some.visit.zone c.args.zone _ _ (far ∙ here c.args.zone) same)
    c.loop-visit.invariant.seeks
    (told_back c.args.volume.now c.loop-visit.volume
    (λ volume now. Seeks (Some c.in-Some.visit) (rest_of volume.layout (parts_of volume now) c.loop-visit.walk) (rest_of volume.layout (parts_of volume now) c.next_zone.new.walk))
    c.loop-visit.invariant.same (rw c.in-Some.is at c.in_ok-visit.ensures.seeks))

pub loop-visit-preserved : goal.loop-visit-preserved
loop-visit-preserved g c =
    let other : (c.in-Some.visit.zone == c.args.zone) ≡ false = grind (arith, nat_tests, c.if-visit-zone.false) in
    record {
      seeks =
          told_both (past_of c.args.volume.now) _ _ _
          (λ now far here. met-later c.in-Some.visit.zone c.args.zone _ _ (far ∙ here c.args.zone) other)
          c.loop-visit.invariant.seeks
          (told_back c.args.volume.now c.loop-visit.volume
          (λ volume now. Seeks (Some c.in-Some.visit) (rest_of volume.layout (parts_of volume now) c.loop-visit.walk) (rest_of volume.layout (parts_of volume now) c.next_zone.new.walk))
          c.loop-visit.invariant.same (rw c.in-Some.is at c.in_ok-visit.ensures.seeks));
      held = c.in_ok-visit.ensures.held;
      later = search rules;
      same = search rules;
    }

pub returns-clause-has : goal.returns-clause-has
returns-clause-has g c =
    told_both (past_of c.args.volume.now) _ _ _
    (λ now far here. sym (far ∙ here c.args.zone))
    c.loop-visit.invariant.seeks
    (told_back c.args.volume.now c.loop-visit.volume
    (λ volume now. Seeks None (rest_of volume.layout (parts_of volume now) c.loop-visit.walk) (rest_of volume.layout (parts_of volume now) c.next_zone.new.walk))
    c.loop-visit.invariant.same (rw c.in_default.is at c.in_ok-visit.ensures.seeks))

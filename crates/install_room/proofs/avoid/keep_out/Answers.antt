-- One zone more is looked at.
use Rattle.std.proofs.Common.{◌≡◌, refl, sym, ◌∙◌, ap, subst}
use Rattle.minix_steps.specs.Numbers.{has_number, with_number}
use Rattle.minix_choice.specs.View.{Promised}
use Rattle.install_room.proofs.RoomLemmas.{kept_with, kept_without, none_kept}
use Rattle.install_room.proofs.avoid.keep_out.Goals.{then-has_zone, else-has_zone}
use Rattle.install_room.proofs.avoid.keep_out.Goals as goal

pub loop-zone-init : goal.loop-zone-init
loop-zone-init c = record {
  kept = λ zone. none_kept c.args.old.now.met.zones zone c.args.taken.now.zones.numbers c.requires.none;
  rest = refl;
}

pub loop-zone-preserved : goal.loop-zone-preserved
loop-zone-preserved c =
    let kept = c.args.old.now.met.zones in
    let zone = c.loop-zone.zone in
    let so-far = c.loop-zone.taken in
    let R : Promised → Type 0 = λ taken. taken ≡ record c.args.taken.now { zones = record c.args.taken.now.zones { numbers = taken.zones.numbers } } in
    elim c.if-has_zone.branch [
      | then-has_zone w ↦
          let taken = w.taken-is ∙ w.avoid_zone.ensures in
          record {
            kept = λ z. ap (λ (t : Promised). has_number t.zones.numbers z) taken
                ∙ kept_with so-far.zones.numbers kept zone z (c.loop-zone.invariant.kept z) (sym c.has_zone.ensures ∙ w.if-has_zone.true);
            rest = subst R (sym taken)
                (ap (λ (t : Promised). record t { zones = record t.zones { numbers = with_number so-far.zones.numbers zone } }) c.loop-zone.invariant.rest);
          }
      | else-has_zone w ↦ record {
        kept = λ z. ap (λ (t : Promised). has_number t.zones.numbers z) w.taken-is
            ∙ kept_without so-far.zones.numbers kept zone z (c.loop-zone.invariant.kept z) (sym c.has_zone.ensures ∙ w.if-has_zone.false);
        rest = subst R (sym w.taken-is) c.loop-zone.invariant.rest;
      }
    ]

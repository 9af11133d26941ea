-- What a run that settles leaves of the present map.
use Rattle.std.proofs.Common.{◌≡◌, ◌≢◌, ◌+◌, inl, inr, ⊎_elim, ℕ, Bool, true, false, List, [], ◌∷◌, Option, Result, Ok, Err, refl, sym, ap, subst, ◌∙◌, arith, get_or}
use Rattle.std.specs.Prelude.{All}
use Rattle.std.proofs.lemmas.List.Elements.{All-from_recursion}
use Rattle.disk_trait.specs.Past.{Past}
use Rattle.disk_trait.specs.Moments.{now, LeavesOnly}
use Rattle.disk_trait.proofs.LawLemmas.{end_of_run_law}
use Rattle.disk_trait.proofs.MomentLemmas.{at_now, leaves_weaker}
use Rattle.lilo_model.specs.BootSector.{BootSector, MapFault, boot_at}
use Rattle.lilo_model.specs.Clear.{Clear, IsClearPlace, IsPlain}
use Rattle.lilo_model.specs.Disks.{Image, Machine, Span, DiskSector, bytes_at}
use Rattle.lilo_model.specs.Mapped.{behind_sector, mapped_sectors}
use Rattle.lilo_model.specs.MinixParts.{Volume}
use Rattle.lilo_model.specs.Settled.{says_foreign, is_foreign}
use Rattle.boot_laws.specs.SameOn.{SameOn}
use Rattle.boot_laws.proofs.Mapped.{same_mapped_law}
use Rattle.install_laws.specs.Boots.{SparesMapped, HasBootOf}
use Rattle.install_laws.proofs.Writes.{unwritten_law}
use Rattle.install_stage_laws.proofs.Stays.{clear-not}
use Rattle.install_stage_laws.specs.BeginLaws.{OutsideStaysLaw, SparedLaw, GainsNothing, ClearAgainLaw, BeginsLaw}

-- a sector of another disk is apart
pub outside_stays_law : OutsideStaysLaw
outside_stays_law volume entry begun quiet outside =
    let other : volume.span.disk + 1 ≢ volume.span.disk = λ same. omega (arith, same) in
    leaves_weaker entry begun _ _ (unwritten_law entry begun (volume.span.disk + 1) 0 quiet (outside (volume.span.disk + 1) 0 (inl other)))
    (λ c stays d s apart. stays d s (outside d s apart))

-- what is left has both of two facts
pub leaves_both : (old new : Option Past) (P Q : Image → Type 0) → LeavesOnly old new P → LeavesOnly old new Q → LeavesOnly old new (λ c. P c × Q c)
leaves_both old new P Q one two = record {
  later = one.later;
  each = λ c left. (one.each c left, two.each c left);
  before = λ t c le left. ⊎_elim (λ before. inl before) (λ p. ⊎_elim (λ before. inl before) (λ q. inr (p, q)) (two.before t c le left)) (one.before t c le left);
}

-- ---- a Clear map is spared

-- of another system's boot sector nothing else is looked at
behind-foreign : (image : Image) (machine : Machine) (read : Result BootSector MapFault) → says_foreign read ≡ true → behind_sector image machine read ≡ []
behind-foreign image machine (Ok boot) is = cc
behind-foreign image machine (Err fault) is = refl

mapped-foreign : (image : Image) (machine : Machine) (span : Span) → is_foreign (image span.disk span.start) ≡ true
    → mapped_sectors image machine span ≡ record { disk = span.disk; sector = span.start } ∷ []
unfolding mapped_sectors is_foreign
mapped-foreign image machine span is = ap (λ places. record { disk = span.disk; sector = span.start } ∷ places) (behind-foreign image machine (boot_at (image span.disk span.start)) is)

pub spared_law : SparedLaw
spared_law volume machine span old c boot writes clear = by (is_foreign (old span.disk span.start)) refl
  where
    by : (foreign : Bool) → is_foreign (old span.disk span.start) ≡ foreign → SameOn (mapped_sectors old machine span) old c
    by true is = subst (λ (places : List DiskSector). SameOn places old c) (sym (mapped-foreign old machine span is))
        (All-from_recursion (λ (place : DiskSector). bytes_at c place ≡ bytes_at old place) (record { disk = span.disk; sector = span.start } ∷ []) (boot, tt))
    by false is = λ index place below. writes is (get_or (mapped_sectors old machine span) index place)
        (clear-not volume old (get_or (mapped_sectors old machine span) index place) (clear index place below))

-- ---- Clear again

plain-again : (volume : Volume) (old new : Image) (sector : ℕ) → GainsNothing volume old new → IsPlain volume old sector → IsPlain volume new sector
plain-again volume old new sector gains plain = record {
  tables = plain.tables;
  zones = λ number at zone refers of.
      let was = plain.zones number at zone (gains.refers number at zone refers) of in
      (gains.kinds number refers.named ∙ was.0, was.1);
}

pub clear_again_law : ClearAgainLaw
clear_again_law volume machine span old new clear same gains =
    subst (λ (places : List DiskSector). All (IsClearPlace volume new) places) (sym (same_mapped_law old new machine span same))
    (λ index place below sector is inside. plain-again volume old new sector gains (clear index place below sector is inside))

-- ---- what the headline asks of the beginning

pub begins_law : BeginsLaw
begins_law volume machine span entry begun run apart =
    let boot : LeavesOnly entry begun (HasBootOf span (now entry)) = leaves_weaker entry begun _ (HasBootOf span (now entry)) (outside_stays_law volume entry begun run.quiet run.outside) (λ c stays. stays span.disk span.start apart) in
    let spared : Clear volume (now entry) machine span → SparesMapped machine span entry begun = λ clear. spares clear boot in
    record {
      begin = spared;
      begin_clear = λ clear. clear_again_law volume machine span (now entry) (now begun) clear
          (end_of_run_law (SameOn (mapped_sectors (now entry) machine span) (now entry)) entry begun (spared clear) (now begun) (at_now begun run.told)) run.gains;
      begin_boot = boot;
    }
  where
    spares : Clear volume (now entry) machine span → LeavesOnly entry begun (HasBootOf span (now entry)) → SparesMapped machine span entry begun
    spares clear boot = by (is_foreign (now entry span.disk span.start)) refl
      where
        clash : is_foreign (now entry span.disk span.start) ≡ true → is_foreign (now entry span.disk span.start) ≡ false → ⊥
        clash on off = let both : true ≡ false = sym on ∙ off in cc

        by : (foreign : Bool) → is_foreign (now entry span.disk span.start) ≡ foreign → SparesMapped machine span entry begun
        by true is = leaves_weaker entry begun _ _ boot (λ c same. spared_law volume machine span (now entry) c same (λ off. absurd (clash is off)) clear)
        by false is = leaves_weaker entry begun _ _ (leaves_both entry begun _ _ boot (run.writes is)) (λ c both. spared_law volume machine span (now entry) c both.0 (λ off. both.1) clear)

-- Settling from any moment on: all that was written before is made durable first.
use Rattle.std.proofs.Common.{◌≡◌, ◌||◌, ℕ, Bool, true, false, Result, Ok, Err, OnOk, refl, sym, ◌∙◌, subst, inl, arith}
use Rattle.disk_trait.specs.declared.disks.Disks.{Ghosts}
use Rattle.disk_trait.specs.Past.{Image}
use Rattle.disk_trait.specs.Moments.{IsTold, now, IsQuiet, MayLeave, LeavesOnly}
use Rattle.disk_trait.proofs.CallLemmas.{goes_on_join}
use Rattle.disk_trait.proofs.MomentLemmas.{left_told, leaves_none, leaves_join, leaves_weaker}
use Rattle.disk_trait.proofs.NotWrittenLemmas.{not_written_none, not_written_join}
use Rattle.lilo_model.specs.MinixNames.{IsSound}
use Rattle.lilo_model.specs.MinixParts as volumes
use Rattle.lilo_model.specs.MinixParts.{parts_of}
use Rattle.lilo_model.specs.Settled as model
use Rattle.minix_layout.specs.View.{kind_view}
use Rattle.minix_choice.specs.declared.write_fault.WriteFault.{WriteFault}
use Rattle.minix_choice.specs.declared.write_fault.WriteFault.TheVariants.{Device}
use Rattle.minix_zones.specs.Volume.{volume_view, past_of, faults_of, KeepsVolume, SameVolume, Syncs}
use Rattle.minix_zones.specs.declared.volume.Volume.{Volume}
use Rattle.minix_zones.specs.declared.zone_fault.ZoneFault.{ZoneFault}
use Rattle.minix_zones.proofs.WriteLemmas.{keeps_same, keeps_join, goes_on_unchanged, cause_after}
use Rattle.install_apart.specs.Own.{IsReplaceable}
use Rattle.install_apart.specs.declared.own.OwnNames.{OwnNames}
use Rattle.install_stage_laws.specs.BeginLaws.{GainsNothing}
use Rattle.install_laws.specs.Writes.{IsWritable, IsApartSector}
use Rattle.install_settle.specs.Found.{AreFound, AreNamesNow, MaySettle, IsLeft, is_some_left, is_anything}
use Rattle.install_settle.specs.Settles.{IsSettling, IsSettledIn, Settles}
use Rattle.install_settle.specs.Steps.{IsMapSettled}
use Rattle.install_settle.specs.declared.settling.LeftMap.{LeftMap}
use Rattle.install_settle.specs.declared.settling.LeftMap.TheVariants.{Absent, Finish, Remove}
use Rattle.install_settle.specs.declared.settling.Settling.{Settling}
use Rattle.install_settle.proofs.GainLemmas.{gains_none}
use Rattle.install_settle.proofs.SettleLemmas.{Facts, facts-by, map-done, all-none}

-- what was found before anything is settled
settling-here : (volume : volumes.Volume) (old : Image) (names : model.OwnNames) (forced : Bool) (settling : Settling) → IsSound volume old → IsSettling volume old names forced settling old
settling-here volume old names forced settling sound = record { sound = sound; has = inl (λ path. refl); held = λ machine boot right same held. held }

-- ---- there is nothing to settle

nothing-left : (settling : Settling) → is_anything settling ≡ false → (settling.map ≡ Absent) × (settling.copy ≡ false)
nothing-left settling none = by settling.map refl settling.copy refl none
  where
    by : (map : LeftMap) → settling.map ≡ map → (copy : Bool) → settling.copy ≡ copy → (is_some_left map || copy) ≡ false → (settling.map ≡ Absent) × (settling.copy ≡ false)
    by Absent one false two is = (one, two)
    by Absent one true two is = cc
    by Finish one copy two is = cc
    by Remove one copy two is = cc

module _ {D : Type 0} {disks : Ghosts D} (old : Volume D disks) (names : model.OwnNames) (forced : Bool) (settling : Settling) (own : OwnNames)
    (files : IsReplaceable true own.map) (left : IsLeft (kind_view old.layout.kind) own.map settling.map)
    (may : IsTold (past_of old) → MaySettle old names forced own settling) (none : is_anything settling ≡ false) where
  same : SameVolume old old
  same = record {
    same_disks = record { same_past = refl; same_size = refl; same_count = refl; same_geometry = refl };
    same_span = refl;
    same_layout = refl;
    same_reference = refl;
  }

  facts : IsTold (past_of old) → Facts (volume_view old) (now (past_of old)) names forced settling
  facts told = facts-by old own files names (may told).found forced settling left (may told).sound (λ copy. sym (may told).copy ∙ copy) (may told).apart

  settled-here : IsMapSettled (volume_view old) (now (past_of old)) names.map settling.map (now (past_of old))
  settled-here = subst (λ (left : LeftMap). IsMapSettled (volume_view old) (now (past_of old)) names.map left (now (past_of old))) (sym (nothing-left settling none).0) refl

  pub settles_nothing : Settles old old names forced settling (Ok tt)
  settles_nothing = record {
    any_moment = λ quiet. leaves_none (past_of old) _ (λ c left. subst (IsSettling (volume_view old) (now (past_of old)) names forced settling) (sym (quiet c left))
        (settling-here (volume_view old) (now (past_of old)) names forced settling (may (left_told (past_of old) c left)).sound));
    left = λ told. settling-here (volume_view old) (now (past_of old)) names forced settling (may told).sound;
    done = λ told. all-none (volume_view old) (now (past_of old)) names forced settling (facts told) (now (past_of old))
        (map-done (volume_view old) (now (past_of old)) names forced settling (facts told) (now (past_of old)) settled-here) (nothing-left settling none).1;
    apart = λ told d s apart. not_written_none (past_of old) d s;
    others = λ told copy place not. not_written_none (past_of old) place.disk place.sector;
    gains = λ told. gains_none (volume_view old) (now (past_of old));
    device = λ told. tt;
    goes_on = goes_on_unchanged old old same (omega arith);
    kept = keeps_same old old same;
  }

-- ---- after a flush

module _ {D : Type 0} {disks : Ghosts D} (old mid : Volume D disks) (kept : KeepsVolume old mid) (same : now (past_of mid) ≡ now (past_of old)) where
  view-same : volume_view mid ≡ volume_view old
  view-same = rw (kept.same_span, kept.same_layout) refl

  forth : (P : volumes.Volume → Image → Type 0) → P (volume_view old) (now (past_of old)) → P (volume_view mid) (now (past_of mid))
  forth P p = subst (λ (v : volumes.Volume). P v (now (past_of mid))) (sym view-same) (subst (P (volume_view old)) (sym same) p)

  back : (P : volumes.Volume → Image → Type 0) → P (volume_view mid) (now (past_of mid)) → P (volume_view old) (now (past_of old))
  back P p = subst (P (volume_view old)) same (subst (λ (v : volumes.Volume). P v (now (past_of mid))) view-same p)

  pub names_forth : (own : OwnNames) → AreNamesNow old own → AreNamesNow mid own
  names_forth own is = record {
    sound = forth IsSound is.sound;
    names = is.names;
    found = forth (λ v image. AreFound v.layout (parts_of v image) is.names own) is.found;
    apart = is.apart;
  }

  pub may_forth : (names : model.OwnNames) (forced : Bool) (own : OwnNames) (settling : Settling) → MaySettle old names forced own settling → MaySettle mid names forced own settling
  may_forth names forced own settling may = record {
    sound = forth IsSound may.sound;
    found = forth (λ v image. AreFound v.layout (parts_of v image) names own) may.found;
    apart = may.apart;
    copy = may.copy;
  }

module _ {D : Type 0} {disks : Ghosts D} (old mid : Volume D disks) (error : ZoneFault) (flushed : Result (Unit {0}) ZoneFault) (syncs : Syncs old mid error flushed)
    (names : model.OwnNames) (forced : Bool) (settling : Settling) (own : OwnNames) (may : IsTold (past_of old) → MaySettle old names forced own settling) where
  abbrev P : Image → Type 0
  P = IsSettling (volume_view old) (now (past_of old)) names forced settling

  here : IsTold (past_of old) → P (now (past_of old))
  here told = settling-here (volume_view old) (now (past_of old)) names forced settling (may told).sound

  first-moments : IsQuiet (past_of old) → LeavesOnly (past_of old) (past_of mid) P
  first-moments quiet = leaves_weaker (past_of old) (past_of mid) (MayLeave (past_of old)) P syncs.flushes.any_moment
      (λ c left. subst P (sym (quiet c left)) (here (left_told (past_of old) c left)))

  -- the flush failed
  pub settles_unflushed : (fault : ZoneFault) → flushed ≡ Err fault → Settles old mid names forced settling (Err Device)
  settles_unflushed fault failed =
      let rose = subst (λ (r : Result (Unit {0}) ZoneFault). Rattle.minix_zones.specs.Volume.HasDeviceCause old mid error r) failed syncs.device in
      record {
        any_moment = first-moments;
        left = λ told. subst P (sym syncs.flushes.same_now) (here told);
        done = λ told. tt;
        apart = λ told d s apart. syncs.flushes.untouched d s;
        others = λ told copy place not. syncs.flushes.untouched place.disk place.sector;
        gains = λ told. tt;
        device = λ told. (refl, rose.1);
        goes_on = syncs.flushes.goes_on;
        kept = syncs.kept;
      }

  -- it is settled after it
  module _ (ok : flushed ≡ Ok tt) (new : Volume D disks) (result : Result (Unit {0}) WriteFault) (settles : Settles mid new names forced settling result) where
    quiet-mid : IsQuiet (past_of mid)
    quiet-mid = subst (λ (r : Result (Unit {0}) ZoneFault). OnOk r (IsQuiet (past_of mid))) ok syncs.flushes.quiet

    told-mid : IsTold (past_of old) → IsTold (past_of mid)
    told-mid = syncs.flushes.goes_on.told

    from-mid : (Q : volumes.Volume → Image → Type 0) → Q (volume_view mid) (now (past_of mid)) → Q (volume_view old) (now (past_of old))
    from-mid = back old mid syncs.kept syncs.flushes.same_now

    apart-mid : (d s : ℕ) → IsApartSector (volume_view old) d s → IsApartSector (volume_view mid) d s
    apart-mid d s apart = subst (λ (v : volumes.Volume). IsApartSector v d s) (sym (view-same old mid syncs.kept syncs.flushes.same_now)) apart

    pub settles_flushed : Settles old new names forced settling result
    settles_flushed = record {
      any_moment = λ quiet. leaves_join (past_of old) (past_of mid) (past_of new) P (first-moments quiet)
          (from-mid (λ v image. LeavesOnly (past_of mid) (past_of new) (IsSettling v image names forced settling)) (settles.any_moment quiet-mid));
      left = λ told. from-mid (λ v image. IsSettling v image names forced settling (now (past_of new))) (settles.left (told-mid told));
      done = λ told. from-mid (λ v image. OnOk result (IsSettledIn v image names forced settling (now (past_of new)))) (settles.done (told-mid told));
      apart = λ told d s apart. not_written_join (past_of old) (past_of mid) (past_of new) d s (syncs.flushes.untouched d s) (settles.apart (told-mid told) d s (apart-mid d s apart));
      others = λ told copy place not. not_written_join (past_of old) (past_of mid) (past_of new) place.disk place.sector (syncs.flushes.untouched place.disk place.sector)
          (settles.others (told-mid told) copy place (λ may. not (from-mid (λ v image. IsWritable v image (λ zone. false) place) may)));
      gains = λ told. from-mid (λ v image. OnOk result (GainsNothing v image (now (past_of new)))) (settles.gains (told-mid told));
      device = λ told. cause_after old mid new Device result syncs.flushes.goes_on.later (settles.device (told-mid told));
      goes_on = goes_on_join disks old.disks.now mid.disks.now new.disks.now syncs.flushes.goes_on settles.goes_on;
      kept = keeps_join old mid new syncs.kept settles.kept;
    }

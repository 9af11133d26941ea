-- What was written before is made durable first, and then a name changes.
use Rattle.std.proofs.Common.{◌≡◌, ℕ, false, List, Option, Result, Ok, Err, refl, sym, ◌∙◌, subst, inl}
use Rattle.std.specs.Prelude.{OnOk}
use Rattle.std.specs.Result.{is_err}
use Rattle.disk_trait.specs.declared.disks.Disks.{Ghosts}
use Rattle.disk_trait.specs.Moments.{IsTold, now, MayLeave, IsQuiet, LeavesOnly}
use Rattle.disk_trait.specs.NotWritten.{NotWritten}
use Rattle.disk_trait.specs.Past.{Image}
use Rattle.disk_trait.specs.Range.{IsOutside}
use Rattle.disk_trait.proofs.CallLemmas.{goes_on_join}
use Rattle.disk_trait.proofs.MomentLemmas.{leaves_join, leaves_weaker, left_told}
use Rattle.disk_trait.proofs.NotWrittenLemmas.{not_written_join}
use Rattle.lilo_model.specs.MinixNames.{Thing, IsSound}
use Rattle.lilo_model.specs.MinixParts as model
use Rattle.minix_change_laws.specs.Tree.{HasNamesWith}
use Rattle.minix_zones.specs.Volume.{volume_view, past_of, Syncs}
use Rattle.minix_zones.specs.declared.volume.Volume.{Volume}
use Rattle.minix_zones.specs.declared.zone_fault.ZoneFault.{ZoneFault}
use Rattle.minix_zones.specs.declared.zone_fault.ZoneFault.TheVariants as zones
use Rattle.ldisk_files.specs.Left.{HasNamesOf, HasNamesBetween, ChangesName}
use Rattle.ldisk_files.specs.declared.fault.FileFault.{FileFault}
use Rattle.ldisk_files.specs.declared.fault.FileFault.TheVariants.{Device}

-- what holds where a call succeeded, holds
pub when-ok : {T E P : Type 0} (r : Result T E) → is_err r ≡ false → OnOk r P → P
when-ok (Ok value) is held = held
when-ok (Err fault) is held = absurd cc

module _ {D : Type 0} {disks : Ghosts D} (old mid : Volume D disks) (first : Result (Unit {0}) ZoneFault) (syncs : Syncs old mid zones.Device first) where
  abbrev Old : model.Volume
  Old = volume_view old

  abbrev Held : Image
  Held = now (past_of old)

  pub flushed-view : volume_view mid ≡ volume_view old
  flushed-view = rw (syncs.kept.same_span, syncs.kept.same_layout) refl

  -- what is said of the volume and what it holds is the same before and after
  pub forth : (P : model.Volume → Image → Type 0) → P (volume_view old) (now (past_of old)) → P (volume_view mid) (now (past_of mid))
  forth P is = subst (λ (v : model.Volume). P v (now (past_of mid))) (sym flushed-view) (subst (λ (i : Image). P (volume_view old) i) (sym syncs.flushes.same_now) is)

  pub back : (P : model.Volume → Image → Type 0) → P (volume_view mid) (now (past_of mid)) → P (volume_view old) (now (past_of old))
  back P is = subst (λ (i : Image). P (volume_view old) i) syncs.flushes.same_now (subst (λ (v : model.Volume). P v (now (past_of mid))) flushed-view is)

  module _ (path : List (List ℕ)) (what : Option Thing) (sound : IsTold (past_of old) → IsSound Old Held) where
    -- a stop before that leaves what was there
    flush-moment : IsQuiet (past_of old) → LeavesOnly (past_of old) (past_of mid) (HasNamesBetween Old Held path what)
    flush-moment quiet = leaves_weaker (past_of old) (past_of mid) (MayLeave (past_of old)) (HasNamesBetween Old Held path what) syncs.flushes.any_moment (λ c left.
        let is : c ≡ Held = quiet c left in
        inl (subst (λ (i : Image). HasNamesOf Old Held i) (sym is) (record { sound = sound (left_told (past_of old) c left); same = λ p. refl })))

    pub not-flushed : ChangesName old mid path what (Err Device)
    not-flushed = record {
      any_moment = flush-moment;
      done = λ told. tt;
      device = λ told. refl;
      outside = λ d s outside. syncs.flushes.untouched d s;
      goes_on = syncs.flushes.goes_on;
      kept = syncs.kept;
    }

    module _ (quiet : IsQuiet (past_of mid)) (new : Volume D disks) (result : Result (Unit {0}) FileFault) (changes : ChangesName mid new path what result) where
      outside-mid : (d s : ℕ) → IsOutside old.span.disk old.span.start old.span.count d s → NotWritten (past_of mid) (past_of new) d s
      outside-mid d s outside = changes.outside d s (rw syncs.kept.same_span outside)

      pub then-changed : ChangesName old new path what result
      then-changed = record {
        any_moment = λ quiet-old. leaves_join (past_of old) (past_of mid) (past_of new) (HasNamesBetween Old Held path what) (flush-moment quiet-old)
            (back (λ (v : model.Volume) (i : Image). LeavesOnly (past_of mid) (past_of new) (HasNamesBetween v i path what)) (changes.any_moment quiet));
        done = λ told. back (λ (v : model.Volume) (i : Image). OnOk result (HasNamesWith v i (now (past_of new)) path what)) (changes.done (syncs.flushes.goes_on.told told));
        device = λ told. changes.device (syncs.flushes.goes_on.told told);
        outside = λ d s outside. not_written_join (past_of old) (past_of mid) (past_of new) d s (syncs.flushes.untouched d s) (outside-mid d s outside);
        goes_on = goes_on_join disks old.disks.now mid.disks.now new.disks.now syncs.flushes.goes_on changes.goes_on;
        kept = record {
          same_span = changes.kept.same_span ∙ syncs.kept.same_span;
          same_layout = changes.kept.same_layout ∙ syncs.kept.same_layout;
          same_reference = changes.kept.same_reference ∙ syncs.kept.same_reference;
        };
      }

-- A renaming, from what both names lead to on.
use Rattle.std.proofs.Common.{◌≡◌, ◌≢◌, ◌≤◌, ◌+◌, ℕ, All, List, ◌∷◌, length, Option, Some, None, Result, Ok, Err, OnOk, ap, subst, inl, inr, arith}
use Rattle.disk_trait.specs.declared.disks.Disks.{Ghosts}
use Rattle.disk_trait.specs.Past.{Past}
use Rattle.disk_trait.specs.Moments.{IsTold, IsQuiet}
use Rattle.disk_trait.specs.NotWritten.{NotWritten}
use Rattle.disk_trait.specs.Range.{IsOutside}
use Rattle.disk_trait.proofs.CallLemmas.{goes_on_join}
use Rattle.disk_trait.proofs.MomentLemmas.{on_ok}
use Rattle.lilo_model.specs.MinixLayout.{name_size, zone_sector}
use Rattle.lilo_model.specs.MinixNames.{reached, PointsTo}
use Rattle.lilo_model.specs.MinixParts.{Pointer}
use Rattle.minix_change_laws.specs.Written.{FitsEntry}
use Rattle.minix_fill.proofs.FileLemmas.{off_file_kept}
use Rattle.minix_layout.specs.View.{kind_view}
use Rattle.minix_remove_laws.specs.Held.{held_name}
use Rattle.minix_steps.specs.Written.{parts_now}
use Rattle.minix_choice.specs.View.{HasWriteCause, zone_refusal}
use Rattle.minix_choice.specs.declared.write_fault.WriteFault.{WriteFault}
use Rattle.minix_zones.specs.Volume.{past_of, faults_of, SameVolume}
use Rattle.minix_zones.specs.declared.volume.Volume.{Volume}
use Rattle.minix_zones.specs.declared.zone_fault.ZoneFault.{ZoneFault}
use Rattle.minix_zones.proofs.WriteLemmas.{keeps_same, keeps_join}
use Rattle.minix_remove.specs.Removed.{GainsNoZone, KeepsEachPlace}
use Rattle.minix_remove.specs.Renamed.{RenamesFiles, IsOffRenamed, IsFormer, IsRenaming, IsSomeRenaming, Carries, RenameAnswersRight, Renames, FindsRenaming, GivesRenaming}
use Rattle.minix_remove.specs.Target.{IsDirectoryNow}
use Rattle.minix_remove.specs.declared.renaming.Renaming.{Renaming}
use Rattle.minix_remove.specs.declared.target.Target.{Target}
use Rattle.minix_remove.proofs.MoveLemmas.{moves_none, moves_as, unseen_then_moves}
use Rattle.minix_remove.proofs.RemoveLemmas.{unseen, not_written_same, target_then}
use Rattle.minix_remove.proofs.TargetLemmas.{at_same, then_same, told_then, parts_at}

module _ {D : Type 0} {disks : Ghosts D} (start mid : Volume D disks) (directory : ℕ) (from to : List ℕ) (same : SameVolume start mid) (later : faults_of start ≤ faults_of mid)
    (quiet : IsQuiet (past_of start)) (may : IsTold (past_of start) → IsDirectoryNow start directory) where
  -- ---- it is refused

  pub renames_refused : (fault : WriteFault) → HasWriteCause (faults_of start) (faults_of mid) fault → GivesRenaming start directory from to (Err fault)
      → Renames start mid directory from to (Err fault)
  renames_refused fault cause gives =
      let seen = unseen start mid directory from same later quiet may in
      record {
        moves = record {
          moves = λ outer leads. moves_none start mid (from ∷ outer) (to ∷ outer) fault seen;
          files = λ told. tt;
          gains = λ told. tt;
          places = λ told. tt;
          others = λ told d s off. not_written_same start mid directory from same later quiet may d s;
          goes_on = seen.goes_on;
          kept = seen.kept;
        };
        answers = λ told. answer (gives told (may told));
      }
    where
      answer : FindsRenaming start directory from to (Err fault) → RenameAnswersRight start mid directory from to (Err fault)
      answer (inl device) = let C : WriteFault → Type 0 = HasWriteCause (faults_of start) (faults_of mid) in inl (device, subst C device cause)
      answer (inr why) = inr (record { is = why; same = same })

  -- ---- it is carried out

  former_then : (former : Option Target) → IsFormer start directory to former → IsFormer mid directory to former
  former_then None is = then_same start mid same (λ view past. held_name view.layout (parts_at view past) directory to ≡ None) is
  former_then (Some former) is = target_then start mid directory to same later quiet may former is

  module _ (renaming : Renaming) (gives : GivesRenaming start directory from to (Ok renaming)) (names : from ≢ to) (short : length to ≤ name_size (kind_view start.layout.kind)) (no_zero : All (λ byte. byte ≢ 0) to) where
    before : IsTold (past_of mid) → IsTold (past_of start)
    before told = subst IsTold same.same_disks.same_past told

    pub mid_renaming : IsTold (past_of mid) → IsRenaming mid directory from to renaming.moved renaming.former
    mid_renaming told =
        let found = gives (before told) (may (before told)) in
        record {
          leads = target_then start mid directory from same later quiet may renaming.moved found.0;
          over = former_then renaming.former found.1.0;
          names = names;
          fits = then_same start mid same (λ view past. FitsEntry view.layout.kind to) (record { short = short; no_zero = no_zero });
        }

    pub some_renaming : IsTold (past_of mid) → IsSomeRenaming mid to renaming.moved renaming.former
    some_renaming told = record { directory = directory; from = from; is = mid_renaming told }

    off-then : (d s : ℕ) → IsOffRenamed start directory from to d s → IsOffRenamed mid directory from to d s
    off-then d s off = record {
      zones = then_same start mid same (λ view past. (at : Pointer) (zone : ℕ) → PointsTo view.layout (parts_at view past) directory at zone
          → IsOutside view.span.disk (view.span.start + zone_sector zone) 2 d s) off.zones;
      files = λ number former held held'.
          let both = off.files number former
          (at_same start mid same (λ view past. held_name view.layout (parts_at view past) directory from ≡ Some number) held)
          (at_same start mid same (λ view past. held_name view.layout (parts_at view past) directory to ≡ Some former) held') in
          (off_file_kept start mid number (keeps_same start mid same) d s both.0, off_file_kept start mid former (keeps_same start mid same) d s both.1);
    }

    module _ (new : Volume D disks) (result : Result (Unit {0}) ZoneFault) (answer : Result (Unit {0}) WriteFault) (so : (P : Type 0) → OnOk result P → OnOk answer P)
        (carries : Carries mid new directory from to result) (answers : IsTold (past_of start) → RenameAnswersRight start new directory from to answer) where
      renames-so : Renames start new directory from to answer
      renames-so =
          let seen = unseen start mid directory from same later quiet may in
          record {
            moves = record {
              moves = λ outer leads. unseen_then_moves start mid new (from ∷ outer) (to ∷ outer) answer (λ told. (may told).sound) seen
                  (moves_as mid new (from ∷ outer) (to ∷ outer) result answer so
                  (carries.moves.moves outer (λ told. then_same start mid same (λ view past. reached view.layout (parts_at view past) outer ≡ Some directory) (leads (before told)))));
              files = λ told. so _ (on_ok result _ _ (carries.moves.files (told_then start mid same told)) (λ files.
                  at_same start mid same (λ view past.
                  RenamesFiles view.layout (parts_at view past) (parts_now new) directory (held_name view.layout (parts_at view past) directory to)) files));
              gains = λ told. so _ (on_ok result _ _ (carries.moves.gains (told_then start mid same told)) (λ gains.
                  at_same start mid same (λ view past. GainsNoZone view.layout (parts_at view past) (parts_now new) directory) gains));
              places = λ told. so _ (on_ok result _ _ (carries.moves.places (told_then start mid same told)) (λ places.
                  at_same start mid same (λ view past. KeepsEachPlace view.layout (parts_at view past) (parts_now new)) places));
              others = λ told d s off.
                  let N : Option Past → Type 0 = λ p. NotWritten p (past_of new) d s in
                  subst N same.same_disks.same_past (carries.moves.others (told_then start mid same told) d s (off-then d s off));
              goes_on = goes_on_join disks start.disks.now mid.disks.now new.disks.now seen.goes_on carries.moves.goes_on;
              kept = keeps_join start mid new (keeps_same start mid same) carries.moves.kept;
            };
            answers = answers;
          }

    pub renames_done : (new : Volume D disks) → Carries mid new directory from to (Ok tt) → Renames start new directory from to (Ok tt)
    renames_done new carries = renames-so new (Ok tt) (Ok tt) (λ P p. p) carries (λ told. (gives told (may told)).1.1)

    pub renames_failed : (new : Volume D disks) (fault : ZoneFault) → Carries mid new directory from to (Err fault) → Renames start new directory from to (Err (zone_refusal fault))
    renames_failed new fault carries = renames-so new (Err fault) (Err (zone_refusal fault)) (λ P p. tt) carries (λ told.
        let device = carries.device (told_then start mid same told) in
        inl (ap zone_refusal device.0, λ below. let rose = device.1 below in omega (arith, later, rose)))

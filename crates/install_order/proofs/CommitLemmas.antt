-- A sector that is written and flushed is a commit.
use Rattle.std.proofs.Common.{◌≡◌, ◌<◌, ℕ, List, Result, Ok, Err, IfErr, refl, sym, ◌∙◌, ap, subst, inl, inr, ⊎_elim, length, arith}
use Rattle.disk_trait.specs.declared.disks.Disks.{Ghosts}
use Rattle.disk_trait.specs.declared.disks.Span.{Span}
use Rattle.disk_trait.specs.declared.disks.DiskFault.{DiskFault}
use Rattle.disk_trait.specs.declared.disks.DiskFault.TheVariants.{Failed, OutOfRange}
use Rattle.disk_trait.specs.Past.{Image, with_sector}
use Rattle.disk_trait.specs.Moments.{now, IsQuiet, LeftOrWritten, LeavesOnly}
use Rattle.disk_trait.specs.Calls.{EndsWithFlush, HasCauseOf, Writes}
use Rattle.disk_trait.proofs.MomentLemmas.{leaves_weaker}
use Rattle.lilo_model.specs.Faults.{Rose}
use Rattle.lilo_model.specs.MinixNames.{IsSound}
use Rattle.minix_zones.specs.View.{span_view}
use Rattle.minix_zones.specs.Volume.{volume_view, past_of, faults_of, sizes_of, KeepsVolume}
use Rattle.minix_zones.specs.declared.volume.Volume.{Volume}
use Rattle.minix_change_laws.specs.Beside.{SoundAsIn}
use Rattle.install_laws.specs.Boots.{IsWithOrWithout}
use Rattle.install_laws.specs.Writes.{IsApartSector}
use Rattle.install_laws.proofs.Outside.{apart_write_law}
use Rattle.install_order.specs.Commits.{Commits}

module _ {D : Type 0} {disks : Ghosts D} (old new : Volume D disks) (boot : Span) (bytes : List ℕ) (long : length bytes ≡ 512)
    (there : boot.start < sizes_of old boot.disk) (result : Result (Unit {0}) DiskFault)
    (cause : HasCauseOf disks old.disks.now new.disks.now boot.disk boot.start result)
    (writes : Writes disks old.disks.now new.disks.now boot.disk boot.start bytes result)
    (flushed : EndsWithFlush disks old.disks.now new.disks.now result)
    (kept : KeepsVolume old new) where
  -- from a quiet moment a write leaves what was held, or that with the sector
  one-or-other : IsQuiet (past_of old) → (c : Image) → LeftOrWritten (past_of old) boot.disk boot.start bytes c → IsWithOrWithout (now (past_of old)) (span_view boot) bytes c
  one-or-other quiet c left =
      let was : left.0 ≡ now (past_of old) = quiet left.0 left.1 in
      ⊎_elim
      (λ same. inl (same ∙ was))
      (λ written. inr (written ∙ ap (λ (i : Image). with_sector i boot.disk boot.start bytes) was))
      left.2

  any : IsQuiet (past_of old) → LeavesOnly (past_of old) (past_of new) (IsWithOrWithout (now (past_of old)) (span_view boot) bytes)
  any quiet = leaves_weaker (past_of old) (past_of new) _ _ writes.any_moment (one-or-other quiet)

  sound-either : IsSound (volume_view old) (now (past_of old)) → IsApartSector (volume_view old) boot.disk boot.start
      → (c : Image) → IsWithOrWithout (now (past_of old)) (span_view boot) bytes c → SoundAsIn (volume_view old) (now (past_of old)) c
  sound-either sound apart c (inl same) = subst (SoundAsIn (volume_view old) (now (past_of old))) (sym same) (record { sound = sound; same = λ path. refl })
  sound-either sound apart c (inr written) =
      subst (SoundAsIn (volume_view old) (now (past_of old))) (sym written)
      (apart_write_law (volume_view old) (now (past_of old)) boot.disk boot.start bytes sound long apart)

  failed : IfErr result (λ fault. (fault ≡ Failed) × Rose (faults_of old) (faults_of new))
  failed = by result refl
    where
      by : (r : Result (Unit {0}) DiskFault) → result ≡ r → IfErr r (λ fault. (fault ≡ Failed) × Rose (faults_of old) (faults_of new))
      by (Ok done) is = tt
      by (Err Failed) is = (refl, cause.failed is)
      by (Err OutOfRange) is = let out = cause.out_of_range.0 is in absurd (omega (arith, out, there))

  pub commits : Commits old new boot bytes result
  commits = record {
    any_moment = any;
    written = writes.written;
    made = writes.made;
    quiet = flushed.quiet;
    durable = flushed.durable;
    unflushed = flushed.failed;
    others = writes.others;
    sound = λ quiet sound apart. leaves_weaker (past_of old) (past_of new) _ _ (any quiet) (sound-either sound apart);
    failed = failed;
    goes_on = writes.goes_on;
    kept = kept;
  }

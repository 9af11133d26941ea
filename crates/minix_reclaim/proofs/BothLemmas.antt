-- Both bitmaps, one after the other, and a flush.
use Rattle.std.proofs.Common.{◌≡◌, ◌+◌, ℕ, Result, Ok, Err, refl, sym, ◌∙◌, ap, subst, arith, inl, inr}
use Rattle.disk_trait.specs.declared.disks.Disks.{Ghosts}
use Rattle.disk_trait.specs.declared.disks.Span.{Span}
use Rattle.disk_trait.specs.Past.{Image}
use Rattle.disk_trait.specs.Calls.{GoesOn}
use Rattle.disk_trait.specs.Moments.{MayLeave}
use Rattle.disk_trait.specs.NotWritten.{NotWritten}
use Rattle.disk_trait.specs.Range.{IsOutside}
use Rattle.disk_trait.proofs.CallLemmas.{goes_on_join}
use Rattle.disk_trait.proofs.LawLemmas.{end_of_run_law}
use Rattle.disk_trait.proofs.MomentLemmas.{leaves_join, leaves_weaker}
use Rattle.disk_trait.proofs.NotWrittenLemmas.{not_written_join}
use Rattle.lilo_model.proofs.RoseLemmas.{rose_after}
use Rattle.lilo_model.specs.MinixParts as model
use Rattle.minix_layout.specs.View.{super_view}
use Rattle.minix_layout.specs.declared.superblock.Super as held
use Rattle.minix_steps.proofs.RegionLemmas.{laid_super}
use Rattle.minix_steps.proofs.StepLemmas.{same_view}
use Rattle.minix_survey.specs.declared.findings.Findings.{Findings}
use Rattle.minix_zones.specs.Volume.{volume_view, past_of, faults_of, KeepsVolume, Syncs}
use Rattle.minix_zones.specs.declared.volume.Volume.{Volume}
use Rattle.minix_zones.specs.declared.zone_fault.ZoneFault.{ZoneFault}
use Rattle.minix_zones.specs.declared.zone_fault.ZoneFault.TheVariants as zones
use Rattle.minix_zones.proofs.WriteLemmas.{keeps_join}
use Rattle.minix_reclaim.specs.declared.bitmap.Bitmap.{Bitmap}
use Rattle.minix_reclaim.specs.declared.fault.ReclaimFault.TheVariants.{Device}
use Rattle.minix_reclaim.specs.Bitmap.{zone_bitmap, inode_bitmap}
use Rattle.minix_reclaim.specs.Cleared.{IsOffBitmaps, HasCleared}
use Rattle.minix_reclaim.specs.Frees.{IsWasteUnused, ClearsWaste, sectors_of, FreesMap}
use Rattle.minix_reclaim.specs.Reclaim.{ReclaimsBy}
use Rattle.minix_reclaim.proofs.MapLemmas.{clears_join}

module _ {D : Type 0} {disks : Ghosts D} (old : Volume D disks) (found : Findings) where
  abbrev Zones' : Bitmap
  Zones' = zone_bitmap (super_view old.layout)

  abbrev Inodes' : Bitmap
  Inodes' = inode_bitmap (super_view old.layout)

  off-zones : (d s : ℕ) → IsOffBitmaps (volume_view old) d s → IsOutside old.span.disk (old.span.start + (Zones').sector) (sectors_of Zones') d s
  off-zones d s (inl apart) = inl apart
  off-zones d s (inr (inl low)) = inr (inl (omega (arith, low)))
  off-zones d s (inr (inr high)) = let lays = laid_super (super_view old.layout) old.span.count old.whole in inr (inr (omega (arith, high, lays.zmap, lays.first)))

  off-inodes : (d s : ℕ) → IsOffBitmaps (volume_view old) d s → IsOutside old.span.disk (old.span.start + (Inodes').sector) (sectors_of Inodes') d s
  off-inodes d s (inl apart) = inl apart
  off-inodes d s (inr (inl low)) = inr (inl low)
  off-inodes d s (inr (inr high)) = let lays = laid_super (super_view old.layout) old.span.count old.whole in inr (inr (omega (arith, high, lays.imap)))

  -- the first bitmap failed
  pub first_failed : (new : Volume D disks) (fault : ZoneFault) → FreesMap old new Zones' found (sectors_of Zones') (Err fault) → ReclaimsBy old new found (Err Device)
  first_failed new fault first = record {
    clears = λ image one two. first.clears image one;
    all = tt;
    device = (refl, first.device.1);
    outside = λ d s off. first.others d s (off-zones d s off);
    goes_on = first.goes_on;
    kept = first.kept;
  }

  module _ (mid : Volume D disks) (many : ℕ) (first : FreesMap old mid Zones' found (sectors_of Zones') (Ok many)) where
    second-off : (last : Volume D disks) (result : Result ℕ ZoneFault) → FreesMap mid last Inodes' found (sectors_of Inodes') result
        → (d s : ℕ) → IsOffBitmaps (volume_view old) d s → NotWritten (past_of old) (past_of last) d s
    second-off last result second d s off =
        let S : Span → Type 0 = λ span. IsOutside span.disk (span.start + (Inodes').sector) (sectors_of Inodes') d s in
        not_written_join (past_of old) (past_of mid) (past_of last) d s (first.others d s (off-zones d s off)) (second.others d s (subst S (sym first.kept.same_span) (off-inodes d s off)))

    second-clears : (last : Volume D disks) (result : Result ℕ ZoneFault) → FreesMap mid last Inodes' found (sectors_of Inodes') result
        → (image : Image) → IsWasteUnused (volume_view old) image Zones' found → IsWasteUnused (volume_view old) image Inodes' found → ClearsWaste old last image
    second-clears last result second image one two =
        let W : model.Volume → Type 0 = λ v. IsWasteUnused v image Inodes' found in
        clears_join old mid last image first.kept first.goes_on.told (first.clears image one) (second.clears image (subst W (sym (same_view old mid first.kept)) two))

    -- the second one failed
    pub second_failed : (new : Volume D disks) (fault : ZoneFault) → FreesMap mid new Inodes' found (sectors_of Inodes') (Err fault) → ReclaimsBy old new found (Err Device)
    second_failed new fault second = record {
      clears = second-clears new (Err fault) second;
      all = tt;
      device = (refl, rose_after (faults_of old) (faults_of mid) (faults_of new) first.goes_on.later second.device.1);
      outside = second-off new (Err fault) second;
      goes_on = goes_on_join disks old.disks.now mid.disks.now new.disks.now first.goes_on second.goes_on;
      kept = keeps_join old mid new first.kept second.kept;
    }

    module _ (last : Volume D disks) (more : ℕ) (second : FreesMap mid last Inodes' found (sectors_of Inodes') (Ok more)) (new : Volume D disks) where
      both-go : GoesOn disks old.disks.now last.disks.now
      both-go = goes_on_join disks old.disks.now mid.disks.now last.disks.now first.goes_on second.goes_on

      both-kept : KeepsVolume old last
      both-kept = keeps_join old mid last first.kept second.kept

      synced : (result : Result (Unit {0}) ZoneFault) → Syncs last new zones.Device result → (image : Image)
          → IsWasteUnused (volume_view old) image Zones' found → IsWasteUnused (volume_view old) image Inodes' found → ClearsWaste old new image
      synced result sync image one two =
          let P : Image → Type 0 = HasCleared (volume_view old) image in
          let both = second-clears last (Ok more) second image one two in
          record {
            any_moment = λ before.
                let run = both.any_moment before in
                leaves_join (past_of old) (past_of last) (past_of new) P run
                (leaves_weaker (past_of last) (past_of new) (MayLeave (past_of last)) P sync.flushes.any_moment (end_of_run_law P (past_of old) (past_of last) run));
            after = λ told before. subst P (sym sync.flushes.same_now) (both.after told before);
          }

      -- the flush failed
      pub sync_failed : (fault : ZoneFault) → Syncs last new zones.Device (Err fault) → ReclaimsBy old new found (Err Device)
      sync_failed fault sync = record {
        clears = synced (Err fault) sync;
        all = tt;
        device = (refl, rose_after (faults_of old) (faults_of last) (faults_of new) both-go.later sync.device.1);
        outside = λ d s off. not_written_join (past_of old) (past_of last) (past_of new) d s (second-off last (Ok more) second d s off) (sync.flushes.untouched d s);
        goes_on = goes_on_join disks old.disks.now last.disks.now new.disks.now both-go sync.flushes.goes_on;
        kept = keeps_join old last new both-kept sync.kept;
      }

      pub all_freed : Syncs last new zones.Device (Ok tt) → ReclaimsBy old new found (Ok (record { zones = many; inodes = more }))
      all_freed sync = record {
        clears = synced (Ok tt) sync;
        all = record { mid = mid; zones = first; last = last; inodes = second; same = sync.flushes.same_now; quiet = sync.flushes.quiet };
        device = tt;
        outside = λ d s off. not_written_join (past_of old) (past_of last) (past_of new) d s (second-off last (Ok more) second d s off) (sync.flushes.untouched d s);
        goes_on = goes_on_join disks old.disks.now last.disks.now new.disks.now both-go sync.flushes.goes_on;
        kept = keeps_join old last new both-kept sync.kept;
      }

-- ---- where the bitmaps are those of the volume

pub zones_as : {D : Type 0} {disks : Ghosts D} (old new : Volume D disks) (found : Findings) (bitmap : Bitmap) (result : Result ℕ ZoneFault)
    → bitmap ≡ zone_bitmap (super_view old.layout) → FreesMap old new bitmap found (sectors_of bitmap) result
    → FreesMap old new (zone_bitmap (super_view old.layout)) found (sectors_of (zone_bitmap (super_view old.layout))) result
zones_as old new found bitmap result is frees = let P : Bitmap → Type 0 = λ b. FreesMap old new b found (sectors_of b) result in subst P is frees

pub inodes_as : {D : Type 0} {disks : Ghosts D} (old mid new : Volume D disks) (found : Findings) (bitmap : Bitmap) (result : Result ℕ ZoneFault) → KeepsVolume old mid
    → bitmap ≡ inode_bitmap (super_view mid.layout) → FreesMap mid new bitmap found (sectors_of bitmap) result
    → FreesMap mid new (inode_bitmap (super_view old.layout)) found (sectors_of (inode_bitmap (super_view old.layout))) result
inodes_as old mid new found bitmap result kept is frees =
    let P : Bitmap → Type 0 = λ b. FreesMap mid new b found (sectors_of b) result in
    subst P (is ∙ ap (λ (l : held.Super). inode_bitmap (super_view l)) kept.same_layout) frees

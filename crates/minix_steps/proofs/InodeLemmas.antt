-- The write of an inode into the bytes of its sector that were read.
use Rattle.std.proofs.Common.{◌≡◌, ◌≢◌, ◌≤◌, ◌<◌, ◌*◌, ℕ, List, length, Option, Result, sym, ◌∙◌, ap, subst, arith}
use Rattle.disk_trait.specs.declared.disks.Disks.{Ghosts}
use Rattle.disk_trait.specs.Past.{Image, Past, Told}
use Rattle.disk_trait.specs.Moments.{IsTold, now, begun}
use Rattle.disk_trait.proofs.MomentLemmas.{told_now}
use Rattle.lilo_model.specs.Bytes.{with_part}
use Rattle.lilo_model.specs.MinixLayout.{Place, inode_size, inode_place, super_sector}
use Rattle.lilo_model.specs.MinixParts as model
use Rattle.lilo_model.specs.MinixParts.{sector_of}
use Rattle.minix_change_laws.specs.Beside.{Harmless}
use Rattle.minix_layout.specs.View.{super_view}
use Rattle.minix_layout.specs.declared.superblock.Super.{Super}
use Rattle.minix_zones.specs.Volume.{volume_view, past_of, faults_of, SameVolume, WritesSector}
use Rattle.minix_zones.proofs.WriteLemmas.{sector_after}
use Rattle.minix_zones.specs.declared.volume.Volume.{Volume}
use Rattle.minix_zones.specs.declared.zone_fault.ZoneFault.{ZoneFault}
use Rattle.minix_zones.specs.declared.zone_fault.ZoneFault.TheVariants.{Device}
use Rattle.minix_steps.specs.Steps.{IsReady, IsUnnamedInode}
use Rattle.minix_steps.specs.Written.{with_inode}
use Rattle.minix_steps.proofs.HarmlessLemmas.{inode_harmless}
use Rattle.minix_steps.proofs.RegionLemmas.{sector_there, place_there, place_from}
use Rattle.minix_steps.proofs.StepLemmas.{same_view}

module _ {D : Type 0} {disks : Ghosts D} (old : Volume D disks) (number : ℕ) (some : 1 ≤ number) (there : number ≤ old.layout.inodes)
    (sector at : ℕ) (place : record { sector = sector; at = at } ≡ inode_place (super_view old.layout) number) where
  pub stands : sector ≡ (inode_place (super_view old.layout) number).sector
  stands = let P : Place → ℕ = λ p. p.sector in ap P place

  pub inode_inside : sector < 2 * old.layout.zones
  inode_inside = let P : ℕ → Type 0 = λ s. s < 2 * old.layout.zones in subst P (sym stands) (place_there (super_view old.layout) old.span.count old.whole number some there)

  pub inode_there : sector < old.span.count
  inode_there = sector_there (super_view old.layout) old.span.count old.whole sector inode_inside

  pub inode_no_super : sector ≢ super_sector
  inode_no_super same = let low = place_from (super_view old.layout) old.span.count old.whole number in omega (arith, low, stands, same)

  module _ (mid : Volume D disks) (same : SameVolume old mid) (into put part : List ℕ)
      (read : Told (past_of old) (λ now. into ≡ sector_of (volume_view old) now sector)) (is : put ≡ with_part into at part) where
    mid_told : IsTold (past_of mid) → IsTold (past_of old)
    mid_told told = subst IsTold same.same_disks.same_past told

    mid_view : volume_view mid ≡ volume_view old
    mid_view = same_view old mid (record { same_span = same.same_span; same_layout = same.same_layout; same_reference = same.same_reference })

    pub inode_inside_mid : sector < 2 * mid.layout.zones
    inode_inside_mid = let P : Super → Type 0 = λ layout. sector < 2 * layout.zones in subst P (sym same.same_layout) inode_inside

    pub rewritten : IsTold (past_of old) → put ≡ with_inode (volume_view old) (now (past_of old)) number part
    rewritten told =
        let R : Image → Type 0 = λ now. into ≡ sector_of (volume_view old) now sector in
        let P : Place → List ℕ = λ p. with_part (sector_of (volume_view old) (now (past_of old)) p.sector) p.at part in
        is ∙ (ap (λ (held : List ℕ). with_part held at part) (told_now (past_of old) R read told) ∙ ap P place)

    pub inode_harmless_mid : IsReady old → IsUnnamedInode old number → length part ≡ inode_size (super_view old.layout).kind → IsTold (past_of mid)
        → Harmless (volume_view mid) (begun (past_of mid)) sector put
    inode_harmless_mid ready unnamed long told =
        let before : IsTold (past_of old) = mid_told told in
        let harmless : Harmless (volume_view old) (begun (past_of old)) (inode_place (super_view old.layout) number).sector (with_inode (volume_view old) (now (past_of old)) number part) = inode_harmless old ready number some there unnamed part long before in
        let S : ℕ → Type 0 = λ s. Harmless (volume_view old) (begun (past_of old)) s (with_inode (volume_view old) (now (past_of old)) number part) in
        let B : List ℕ → Type 0 = Harmless (volume_view old) (begun (past_of old)) sector in
        let V : model.Volume → Type 0 = λ view. Harmless view (begun (past_of old)) sector put in
        let H : Option Past → Type 0 = λ p. Harmless (volume_view mid) (begun p) sector put in
        subst H (sym same.same_disks.same_past) (subst V (sym mid_view) (subst B (sym (rewritten before)) (subst S (sym stands) harmless)))

    pub inode_writes : (new : Volume D disks) (result : Result (Unit {0}) ZoneFault) → faults_of old ≤ faults_of mid → WritesSector mid new sector put Device result
        → WritesSector old new (inode_place (super_view old.layout) number).sector (with_inode (volume_view old) (now (past_of old)) number part) Device result
    inode_writes new result later writes =
        let S : ℕ → Type 0 = λ s. WritesSector old new s (with_inode (volume_view old) (now (past_of old)) number part) Device result in
        subst S stands (sector_after old mid new sector put (with_inode (volume_view old) (now (past_of old)) number part) Device result same later rewritten writes)

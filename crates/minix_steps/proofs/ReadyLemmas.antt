-- When steps may be taken.
use Rattle.std.proofs.Common.{◌≡◌, ◌≤◌, ◌<◌, ℕ, Bool, true, false, refl, sym, ◌∙◌, subst}
use Rattle.disk_trait.specs.declared.disks.Disks.{Ghosts}
use Rattle.disk_trait.specs.Past.{Image}
use Rattle.disk_trait.specs.Moments.{IsTold, now, begun, IsQuiet}
use Rattle.disk_trait.proofs.LawLemmas.{quiet_begun}
use Rattle.lilo_model.specs.MinixParts.{parts_of, inode_mark_sector, zone_mark_sector}
use Rattle.lilo_model.specs.MinixNames.{IsSound}
use Rattle.minix_change_laws.specs.Beside.{Beside}
use Rattle.minix_change_laws.proofs.Beside.{same_law}
use Rattle.minix_layout.specs.View.{super_view}
use Rattle.minix_zones.specs.Volume.{volume_view, past_of}
use Rattle.minix_zones.specs.declared.volume.Volume.{Volume}
use Rattle.minix_steps.specs.Steps.{IsReady, IsUnusedZone, IsUnnamedInode}
use Rattle.minix_steps.specs.Written.{parts_now}
use Rattle.minix_steps.proofs.HarmlessLemmas.{zone_mark_inside, inode_mark_inside}
use Rattle.disk_trait.proofs.MomentLemmas.{left_told}
use Rattle.minix_steps.proofs.StepLemmas.{now_beside}

differ : (value : Bool) → value ≡ true → value ≡ false → ⊥
differ value is isnt = let both : true ≡ false = sym is ∙ isnt in cc

pub quiet_ready : {D : Type 0} {disks : Ghosts D} (volume : Volume D disks) → IsQuiet (past_of volume)
    → (IsTold (past_of volume) → IsSound (volume_view volume) (now (past_of volume))) → IsReady volume
quiet_ready volume quiet sound = record {
  sound = λ told.
      let P : Image → Type 0 = IsSound (volume_view volume) in
      subst P (sym (quiet_begun (past_of volume) told quiet)) (sound told);
  within = λ c left.
      let told : IsTold (past_of volume) = left_told (past_of volume) c left in
      let is : begun (past_of volume) ≡ now (past_of volume) = quiet_begun (past_of volume) told quiet in
      let P : Image → Type 0 = λ image. Beside (volume_view volume) image c in
      let Q : Image → Type 0 = Beside (volume_view volume) (now (past_of volume)) in
      subst P (sym is) (subst Q (sym (quiet c left)) (same_law (volume_view volume) (now (past_of volume)) (sound told)));
}

module _ {D : Type 0} {disks : Ghosts D} (volume : Volume D disks) (ready : IsReady volume) where
  pub unmarked_unused : (zone : ℕ) → volume.layout.first ≤ zone → zone < volume.layout.zones
      → (IsTold (past_of volume) → (parts_now volume).has_zone zone ≡ false) → IsUnusedZone volume zone
  unfolding parts_of
  unmarked_unused zone from below unmarked = record {
    unused = λ told number at refers.
        let sector : ℕ = zone_mark_sector (super_view volume.layout) zone in
        let harmless = (now_beside volume ready told).inside sector (zone_mark_inside volume ready zone from below) in
        differ _ (harmless.zone_marks number at zone refers refl) (unmarked told);
  }

  pub unmarked_unnamed : (number : ℕ) → 1 ≤ number → number ≤ volume.layout.inodes
      → (IsTold (past_of volume) → (parts_now volume).has_inode number ≡ false) → IsUnnamedInode volume number
  unfolding parts_of
  unmarked_unnamed number some there unmarked = record {
    unnamed = λ told named.
        let harmless = (now_beside volume ready told).inside (inode_mark_sector number) (inode_mark_inside volume ready number some there) in
        differ _ (harmless.marks number named refl) (unmarked told);
  }

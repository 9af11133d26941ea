-- The calls that set and clear bitmap bits are steps.
use Rattle.std.proofs.Common.{◌≤◌, ◌<◌, ℕ, true, false, Result}
use Rattle.disk_trait.specs.declared.disks.Disks.{Ghosts}
use Rattle.minix_steps.specs.declared.bit_fault.BitFault.{BitFault}
use Rattle.minix_steps.specs.declared.bit_fault.BitFault.TheVariants.{Device}
use Rattle.minix_steps.specs.Mark.{zone_remarked, inode_remarked}
use Rattle.lilo_model.specs.MinixParts.{inode_mark_sector, zone_mark_sector}
use Rattle.minix_layout.specs.View.{super_view}
use Rattle.minix_zones.specs.Volume.{WritesSector}
use Rattle.minix_zones.specs.declared.volume.Volume.{Volume}
use Rattle.minix_steps.specs.Steps.{IsReady, IsUnusedZone, IsUnnamedInode, Steps}
use Rattle.minix_steps.proofs.HarmlessLemmas.{zone_mark_inside, zone_set_harmless, zone_clear_harmless, inode_mark_inside, inode_set_harmless, inode_clear_harmless}
use Rattle.minix_steps.proofs.StepLemmas.{write_step}

module _ {D : Type 0} {disks : Ghosts D} (old new : Volume D disks) (result : Result (Unit {0}) BitFault) (ready : IsReady old) where
  module _ (zone : ℕ) (from : old.layout.first ≤ zone) (below : zone < old.layout.zones) where
    pub zone_set_step : WritesSector old new (zone_mark_sector (super_view old.layout) zone) (zone_remarked old zone true) Device result → Steps old new
    zone_set_step writes =
        write_step old new _ (zone_remarked old zone true) Device result ready (zone_mark_inside old ready zone from below)
        (zone_set_harmless old ready zone from below) writes

    pub zone_clear_step : IsUnusedZone old zone → WritesSector old new (zone_mark_sector (super_view old.layout) zone) (zone_remarked old zone false) Device result → Steps old new
    zone_clear_step unused writes =
        write_step old new _ (zone_remarked old zone false) Device result ready (zone_mark_inside old ready zone from below)
        (zone_clear_harmless old ready zone from below unused) writes

  module _ (number : ℕ) (some : 1 ≤ number) (there : number ≤ old.layout.inodes) where
    pub inode_set_step : WritesSector old new (inode_mark_sector number) (inode_remarked old number true) Device result → Steps old new
    inode_set_step writes =
        write_step old new _ (inode_remarked old number true) Device result ready (inode_mark_inside old ready number some there)
        (inode_set_harmless old ready number some there) writes

    pub inode_clear_step : IsUnnamedInode old number → WritesSector old new (inode_mark_sector number) (inode_remarked old number false) Device result → Steps old new
    inode_clear_step unnamed writes =
        write_step old new _ (inode_remarked old number false) Device result ready (inode_mark_inside old ready number some there)
        (inode_clear_harmless old ready number some there unnamed) writes

-- What the bytes of each step touch.
use Rattle.std.proofs.Common.{◌≡◌, ◌≤◌, ◌<◌, ◌*◌, ◌%◌, ℕ, true, false, List, length, arith}
use Rattle.disk_trait.specs.declared.disks.Disks.{Ghosts}
use Rattle.disk_trait.specs.Moments.{IsTold, now, begun}
use Rattle.lilo_model.specs.MinixLayout.{inode_size, inode_place}
use Rattle.lilo_model.specs.MinixParts.{sector_of, inode_mark_sector, zone_bit, zone_mark_sector}
use Rattle.minix_change_laws.specs.Beside.{Harmless, IsOfBitmaps, IsOfZone}
use Rattle.minix_change_laws.proofs.Harmless.{unused_zone_law, unnamed_inode_law, set_bit_law, clear_inode_law, clear_zone_law}
use Rattle.minix_steps.specs.Mark.{remarked, zone_remarked, inode_remarked}
use Rattle.minix_layout.specs.View.{super_view}
use Rattle.minix_zones.specs.Volume.{volume_view, past_of}
use Rattle.minix_zones.specs.declared.volume.Volume.{Volume}
use Rattle.minix_steps.specs.Steps.{IsReady, IsUnusedZone, IsUnnamedInode}
use Rattle.minix_steps.specs.Written.{with_inode}
use Rattle.minix_steps.proofs.RegionLemmas.{mark_in, zone_mark_in, bitmap_there, place_there}
use Rattle.minix_steps.proofs.StepLemmas.{now_beside}

module _ {D : Type 0} {disks : Ghosts D} (volume : Volume D disks) (ready : IsReady volume) where
  -- what the disks hold now
  pub held : (sector : ℕ) → sector < 2 * volume.layout.zones → IsTold (past_of volume)
      → Harmless (volume_view volume) (begun (past_of volume)) sector (sector_of (volume_view volume) (now (past_of volume)) sector)
  held sector inside told = (now_beside volume ready told).inside sector inside

  bitmap_inside : (sector : ℕ) → IsOfBitmaps (super_view volume.layout) sector → sector < 2 * volume.layout.zones
  bitmap_inside sector range = bitmap_there (super_view volume.layout) volume.span.count volume.whole sector range

  set_harmless : (sector at : ℕ) → IsOfBitmaps (super_view volume.layout) sector → at < 4096 → IsTold (past_of volume)
      → Harmless (volume_view volume) (begun (past_of volume)) sector (remarked volume sector at true)
  set_harmless sector at range small told =
      set_bit_law (volume_view volume) (begun (past_of volume)) sector at (sector_of (volume_view volume) (now (past_of volume)) sector)
      (ready.sound told) range small (held sector (bitmap_inside sector range) told)

  module _ (zone : ℕ) (from : volume.layout.first ≤ zone) (below : zone < volume.layout.zones) where
    abbrev zone_sector_of_mark : ℕ
    zone_sector_of_mark = zone_mark_sector (super_view volume.layout) zone

    zone_in : IsOfBitmaps (super_view volume.layout) zone_sector_of_mark
    zone_in = zone_mark_in (super_view volume.layout) volume.span.count volume.whole zone below

    pub zone_mark_inside : zone_sector_of_mark < 2 * volume.layout.zones
    zone_mark_inside = bitmap_inside zone_sector_of_mark zone_in

    pub zone_set_harmless : IsTold (past_of volume) → Harmless (volume_view volume) (begun (past_of volume)) zone_sector_of_mark (zone_remarked volume zone true)
    zone_set_harmless told = set_harmless zone_sector_of_mark (zone_bit (super_view volume.layout) zone % 4096) zone_in (omega arith) told

    pub zone_clear_harmless : IsUnusedZone volume zone → IsTold (past_of volume) → Harmless (volume_view volume) (begun (past_of volume)) zone_sector_of_mark (zone_remarked volume zone false)
    zone_clear_harmless unused told =
        clear_zone_law (volume_view volume) (begun (past_of volume)) zone (sector_of (volume_view volume) (now (past_of volume)) zone_sector_of_mark)
        (ready.sound told) (from, below) (unused.unused told) (held zone_sector_of_mark zone_mark_inside told)

    pub zone_harmless : IsUnusedZone volume zone → (sector : ℕ) → IsOfZone zone sector → (bytes : List ℕ) → length bytes ≡ 512 → IsTold (past_of volume)
        → Harmless (volume_view volume) (begun (past_of volume)) sector bytes
    zone_harmless unused sector of bytes long told =
        unused_zone_law (volume_view volume) (begun (past_of volume)) zone sector bytes (ready.sound told) (from, below) (unused.unused told) of long

  module _ (number : ℕ) (some : 1 ≤ number) (there : number ≤ volume.layout.inodes) where
    inode_in : IsOfBitmaps (super_view volume.layout) (inode_mark_sector number)
    inode_in = mark_in (super_view volume.layout) volume.span.count volume.whole number there

    pub inode_mark_inside : inode_mark_sector number < 2 * volume.layout.zones
    inode_mark_inside = bitmap_inside (inode_mark_sector number) inode_in

    pub inode_set_harmless : IsTold (past_of volume) → Harmless (volume_view volume) (begun (past_of volume)) (inode_mark_sector number) (inode_remarked volume number true)
    inode_set_harmless told = set_harmless (inode_mark_sector number) (number % 4096) inode_in (omega arith) told

    pub inode_clear_harmless : IsUnnamedInode volume number → IsTold (past_of volume) → Harmless (volume_view volume) (begun (past_of volume)) (inode_mark_sector number) (inode_remarked volume number false)
    inode_clear_harmless unnamed told =
        clear_inode_law (volume_view volume) (begun (past_of volume)) number (sector_of (volume_view volume) (now (past_of volume)) (inode_mark_sector number))
        (ready.sound told) (some, there) (unnamed.unnamed told) (held (inode_mark_sector number) inode_mark_inside told)

    pub place_inside : (inode_place (super_view volume.layout) number).sector < 2 * volume.layout.zones
    place_inside = place_there (super_view volume.layout) volume.span.count volume.whole number some there

    pub inode_harmless : IsUnnamedInode volume number → (part : List ℕ) → length part ≡ inode_size (super_view volume.layout).kind → IsTold (past_of volume)
        → Harmless (volume_view volume) (begun (past_of volume)) (inode_place (super_view volume.layout) number).sector (with_inode (volume_view volume) (now (past_of volume)) number part)
    inode_harmless unnamed part long told =
        unnamed_inode_law (volume_view volume) (begun (past_of volume)) number
        (sector_of (volume_view volume) (now (past_of volume)) (inode_place (super_view volume.layout) number).sector) part
        (ready.sound told) (some, there) (unnamed.unnamed told) (held (inode_place (super_view volume.layout) number).sector place_inside told) long

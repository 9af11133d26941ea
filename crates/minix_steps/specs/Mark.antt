-- The bytes of a sector of a volume with one bitmap bit changed.
use Rattle.std.specs.Prelude.{ℕ, ◌%◌, Bool, List}
use Rattle.disk_trait.specs.declared.disks.Disks.{Ghosts}
use Rattle.disk_trait.specs.Moments.{now}
use Rattle.lilo_model.specs.MinixParts.{sector_of, inode_mark_sector, zone_bit, zone_mark_sector, with_bit}
use Rattle.minix_layout.specs.View.{super_view}
use Rattle.minix_zones.specs.Volume.{volume_view, past_of}
use Rattle.minix_zones.specs.declared.volume.Volume.{Volume}

-- the bytes of a sector of a volume now, with one bit set or cleared
abbrev pub remarked : {D : Type 0} {disks : Ghosts D} → Volume D disks → ℕ → ℕ → Bool → List ℕ
remarked volume sector at value = with_bit (sector_of (volume_view volume) (now (past_of volume)) sector) at value

-- the bytes of the sector with a zone's bitmap bit now, with that bit set or cleared
abbrev pub zone_remarked : {D : Type 0} {disks : Ghosts D} → Volume D disks → ℕ → Bool → List ℕ
zone_remarked volume zone value =
    remarked volume (zone_mark_sector (super_view volume.layout) zone) (zone_bit (super_view volume.layout) zone % 4096) value

-- the bytes of the sector with an inode's bitmap bit now, with that bit set or cleared
abbrev pub inode_remarked : {D : Type 0} {disks : Ghosts D} → Volume D disks → ℕ → Bool → List ℕ
inode_remarked volume inode value = remarked volume (inode_mark_sector inode) (inode % 4096) value

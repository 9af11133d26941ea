-- What a step writes.
use Rattle.std.specs.Prelude.{◌≡◌, ◌⊎◌, ◌+◌, ℕ, List}
use Rattle.disk_trait.specs.declared.disks.Disks.{Ghosts}
use Rattle.disk_trait.specs.Moments.{now}
use Rattle.disk_trait.specs.Past.{Image, with_sector}
use Rattle.disk_trait.specs.Range.{SameOutside}
use Rattle.lilo_model.specs.Bytes.{part_of, with_part}
use Rattle.lilo_model.specs.MinixLayout.{Inode, inode_bytes, inode_place, zone_sector}
use Rattle.lilo_model.specs.MinixParts as model
use Rattle.lilo_model.specs.MinixParts.{sector_of}
use Rattle.minix_layout.specs.View.{kind_view}
use Rattle.minix_zones.specs.Volume.{volume_view, past_of}
use Rattle.minix_zones.specs.declared.volume.Volume.{Volume}

-- an image with other bytes in one sector of a volume
abbrev pub with_sector_of : model.Volume → Image → ℕ → List ℕ → Image
with_sector_of volume image sector bytes = with_sector image volume.span.disk (volume.span.start + sector) bytes

-- an image with other bytes in a zone of a volume
abbrev pub with_zone : model.Volume → Image → ℕ → List ℕ → Image
with_zone volume image zone bytes =
    with_sector_of volume (with_sector_of volume image (zone_sector zone) (part_of bytes 0 512)) (zone_sector zone + 1) (part_of bytes 512 512)

-- an image has the bytes of a zone in each of its two sectors, or what that sector had in another image, and all else
-- as that one
pub record IsPartOfZone (volume : model.Volume) (old new : Image) (zone : ℕ) (bytes : List ℕ) : Type 0 where
  pub front : (sector_of volume new (zone_sector zone) ≡ part_of bytes 0 512)
      ⊎ (sector_of volume new (zone_sector zone) ≡ sector_of volume old (zone_sector zone))
  pub back : (sector_of volume new (zone_sector zone + 1) ≡ part_of bytes 512 512)
      ⊎ (sector_of volume new (zone_sector zone + 1) ≡ sector_of volume old (zone_sector zone + 1))
  pub others : SameOutside volume.span.disk (volume.span.start + zone_sector zone) 2 old new

-- the bytes of the sector with an inode, with other bytes in place of that inode
abbrev pub with_inode : model.Volume → Image → ℕ → List ℕ → List ℕ
with_inode volume image number part =
    with_part (sector_of volume image (inode_place volume.layout number).sector) (inode_place volume.layout number).at part

-- the bytes of the sector with an inode now, with the bytes of another inode in its place
abbrev pub inode_rewritten : {D : Type 0} {disks : Ghosts D} → Volume D disks → ℕ → Inode → List ℕ
inode_rewritten volume number inode =
    with_inode (volume_view volume) (now (past_of volume)) number (inode_bytes (kind_view volume.layout.kind) inode)

-- the parts that a volume has now
abbrev pub parts_now : {D : Type 0} {disks : Ghosts D} → Volume D disks → model.Parts
parts_now volume = model.parts_of (volume_view volume) (now (past_of volume))

-- What a written zone and a written inode change of the parts of a volume.
use Rattle.std.specs.Prelude.{◌≡◌, ◌≢◌, ◌≤◌, ◌<◌, ℕ, true, List, length}
use Rattle.lilo_model.specs.Disks.{Image}
use Rattle.lilo_model.specs.MinixLayout.{Kind, Inode, IsSuper, FitsInode, is_size, inode_size, inode_of, inode_bytes, inode_place, kept_inode}
use Rattle.lilo_model.specs.MinixParts.{Parts, Volume, sector_of, parts_of}
use Rattle.minix_steps.specs.Written.{with_sector_of, with_zone, with_inode}

-- one zone has these bytes, and all else is as before
pub record OneZone (volume : Volume) (old new : Parts) (zone : ℕ) (bytes : List ℕ) : Type 0 where
  pub here : new.zone zone ≡ bytes
  pub others : (other : ℕ) → other ≢ zone → new.zone other ≡ old.zone other
  pub nodes : (number : ℕ) → 1 ≤ number → number ≤ volume.layout.inodes → new.node number ≡ old.node number
  pub marks : (number : ℕ) → number ≤ volume.layout.inodes → new.has_inode number ≡ old.has_inode number
  pub zone_marks : (other : ℕ) → other < volume.layout.zones → new.has_zone other ≡ old.has_zone other

abbrev pub ZoneBytesLaw : Type 0
ZoneBytesLaw =
    (volume : Volume) (image : Image) (zone : ℕ) (bytes : List ℕ) → IsSuper volume.layout volume.span.count
    → volume.layout.first ≤ zone → length bytes ≡ 1024
    → OneZone volume (parts_of volume image) (parts_of volume (with_zone volume image zone bytes)) zone bytes

-- one inode has these bytes, and all else is as before
pub record OneInode (volume : Volume) (old new : Parts) (number : ℕ) (part : List ℕ) : Type 0 where
  pub here : new.node number ≡ inode_of volume.layout.kind part
  pub others : (other : ℕ) → 1 ≤ other → other ≤ volume.layout.inodes → other ≢ number → new.node other ≡ old.node other
  pub zones : (zone : ℕ) → volume.layout.first ≤ zone → new.zone zone ≡ old.zone zone
  pub marks : (other : ℕ) → other ≤ volume.layout.inodes → new.has_inode other ≡ old.has_inode other
  pub zone_marks : (zone : ℕ) → zone < volume.layout.zones → new.has_zone zone ≡ old.has_zone zone

abbrev pub InodeBytesLaw : Type 0
InodeBytesLaw =
    (volume : Volume) (image : Image) (number : ℕ) (part : List ℕ) → IsSuper volume.layout volume.span.count
    → 1 ≤ number → number ≤ volume.layout.inodes → length part ≡ inode_size volume.layout.kind
    → length (sector_of volume image (inode_place volume.layout number).sector) ≡ 512
    → OneInode volume (parts_of volume image)
    (parts_of volume (with_sector_of volume image (inode_place volume.layout number).sector (with_inode volume image number part)))
    number part

-- and an inode that was written is what is kept of it
abbrev pub KeptInodeLaw : Type 0
KeptInodeLaw =
    (kind : Kind) (inode : Inode) → FitsInode kind inode → is_size kind inode.size ≡ true
    → inode_of kind (inode_bytes kind inode) ≡ kept_inode kind inode

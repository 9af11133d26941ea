-- What one bitmap bit changes, as laws.
use Rattle.std.specs.Prelude.{◌≡◌, ◌≢◌, ◌<◌, ◌≤◌, ◌*◌, ◌%◌, ◌+◌, ℕ, Bool, List, length}
use Rattle.lilo_model.specs.Disks.{Image}
use Rattle.lilo_model.specs.MinixLayout.{IsSuper}
use Rattle.lilo_model.specs.MinixParts.{Parts, Volume, sector_of, bit, parts_of, inode_mark_sector, zone_bit, zone_mark_sector, with_bit}
use Rattle.disk_trait.specs.Past.{with_sector}

-- bytes with one bit set or cleared: that bit is so, each other one is as before, and there are as many bytes
pub record OneBit (old new : List ℕ) (at : ℕ) (value : Bool) : Type 0 where
  pub here : bit new at ≡ value
  pub others : (other : ℕ) → other < 8 * length old → other ≢ at → bit new other ≡ bit old other
  pub length_same : length new ≡ length old

abbrev pub OneBitLaw : Type 0
OneBitLaw =
    (bytes : List ℕ) (at : ℕ) (value : Bool) → at < 8 * length bytes → OneBit bytes (with_bit bytes at value) at value

-- an image with one bit of a sector of a volume set or cleared
abbrev pub with_mark : Volume → Image → ℕ → ℕ → Bool → Image
with_mark volume image sector at value =
    with_sector image volume.span.disk (volume.span.start + sector) (with_bit (sector_of volume image sector) at value)

-- of the parts of a volume one zone's bitmap bit alone is another
pub record OneZoneMark (volume : Volume) (old new : Parts) (zone : ℕ) (value : Bool) : Type 0 where
  pub here : new.has_zone zone ≡ value
  pub other_zones :
      (other : ℕ) → volume.layout.first ≤ other → other < volume.layout.zones → other ≢ zone
      → new.has_zone other ≡ old.has_zone other
  pub inodes : (inode : ℕ) → inode ≤ volume.layout.inodes → new.has_inode inode ≡ old.has_inode inode
  pub nodes : (inode : ℕ) → new.node inode ≡ old.node inode
  pub bytes : (other : ℕ) → volume.layout.first ≤ other → new.zone other ≡ old.zone other

abbrev pub ZoneMarkLaw : Type 0
ZoneMarkLaw =
    (volume : Volume) (image : Image) (zone : ℕ) (value : Bool) → IsSuper volume.layout volume.span.count
    → volume.layout.first ≤ zone → zone < volume.layout.zones
    → length (sector_of volume image (zone_mark_sector volume.layout zone)) ≡ 512
    → OneZoneMark
    volume
    (parts_of volume image)
    (parts_of volume (with_mark volume image (zone_mark_sector volume.layout zone) (zone_bit volume.layout zone % 4096) value))
    zone
    value

-- of the parts of a volume one inode's bitmap bit alone is another
pub record OneInodeMark (volume : Volume) (old new : Parts) (inode : ℕ) (value : Bool) : Type 0 where
  pub here : new.has_inode inode ≡ value
  pub other_inodes :
      (other : ℕ) → other ≤ volume.layout.inodes → other ≢ inode → new.has_inode other ≡ old.has_inode other
  pub zones : (zone : ℕ) → volume.layout.first ≤ zone → new.has_zone zone ≡ old.has_zone zone
  pub nodes : (other : ℕ) → new.node other ≡ old.node other
  pub bytes : (zone : ℕ) → volume.layout.first ≤ zone → new.zone zone ≡ old.zone zone

abbrev pub InodeMarkLaw : Type 0
InodeMarkLaw =
    (volume : Volume) (image : Image) (inode : ℕ) (value : Bool) → IsSuper volume.layout volume.span.count
    → inode ≤ volume.layout.inodes
    → length (sector_of volume image (inode_mark_sector inode)) ≡ 512
    → OneInodeMark
    volume
    (parts_of volume image)
    (parts_of volume (with_mark volume image (inode_mark_sector inode) (inode % 4096) value))
    inode
    value

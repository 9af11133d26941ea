-- What may be written on a sound Minix volume without touching what has a name.
use Rattle.std.specs.Prelude.{◌≡◌, ◌<◌, ℕ, ◌+◌, ◌*◌, ◌%◌, true, false, List, length}
use Rattle.lilo_model.specs.Bytes.{with_part}
use Rattle.lilo_model.specs.Disks.{Image, with_sector}
use Rattle.lilo_model.specs.MinixLayout.{Super, inode_size, inode_place}
use Rattle.lilo_model.specs.MinixParts.{Parts, Volume, inode_mark_sector, zone_bit, zone_mark_sector, with_bit}
use Rattle.lilo_model.specs.MinixNames.{Sound, IsSound}
use Rattle.minix_change_laws.specs.Keeps.{Keeps, SoundAs}
use Rattle.minix_change_laws.specs.Beside.{IsOfZone, Harmless, IsUnnamed, IsUnused, IsInode, IsDataZone, IsOfBitmaps, Beside, SoundAsIn, NamedAsIn, Regions}
use Rattle.minix_change_laws.specs.Change.{ChangesEntry, FindsBy, ChangesIn, PathsFrom}

-- parts that keep what has a name stay sound, with the same Names
abbrev pub KeepsLaw : Type 0
KeepsLaw = (super : Super) (old new : Parts) → Sound super old → Keeps super old new → SoundAs super old new

-- so does a volume of which each sector has harmless bytes
abbrev pub BesideLaw : Type 0
BesideLaw = (volume : Volume) (old image : Image) → IsSound volume old → Beside volume old image → SoundAsIn volume old image

-- and what has a name stays what it is
abbrev pub NamedLaw : Type 0
NamedLaw = (volume : Volume) (old image : Image) → IsSound volume old → Beside volume old image → NamedAsIn volume old image

-- what is there is harmless
abbrev pub SameLaw : Type 0
SameLaw = (volume : Volume) (old : Image) → IsSound volume old → Beside volume old old

-- what is harmless to an image that harmless writes left is harmless to the first one
abbrev pub JoinLaw : Type 0
JoinLaw =
    (volume : Volume) (old middle image : Image) → IsSound volume old → Beside volume old middle → Beside volume middle image
    → Beside volume old image

-- one more harmless write
abbrev pub WriteLaw : Type 0
WriteLaw =
    (volume : Volume) (old image : Image) (sector : ℕ) (bytes : List ℕ)
    → IsSound volume old → Beside volume old image → sector < 2 * volume.layout.zones → Harmless volume old sector bytes
    → Beside volume old (with_sector image (record { disk = volume.span.disk; sector = volume.span.start + sector }) bytes)

-- where inodes, zones and bitmap bits lie
abbrev pub RegionLaw : Type 0
RegionLaw = (volume : Volume) (image : Image) → IsSound volume image → Regions volume.layout

-- ---- what is harmless

-- any bytes in a sector of a data zone to which no named inode refers
abbrev pub UnusedZoneLaw : Type 0
UnusedZoneLaw =
    (volume : Volume) (old : Image) (zone sector : ℕ) (bytes : List ℕ)
    → IsSound volume old → IsDataZone volume.layout zone → IsUnused volume old zone → IsOfZone zone sector → length bytes ≡ 512
    → Harmless volume old sector bytes

-- harmless bytes in which an inode without a name has become another
abbrev pub UnnamedInodeLaw : Type 0
UnnamedInodeLaw =
    (volume : Volume) (old : Image) (number : ℕ) (bytes part : List ℕ)
    → IsSound volume old → IsInode volume.layout number → IsUnnamed volume old number
    → Harmless volume old (inode_place volume.layout number).sector bytes → length part ≡ inode_size volume.layout.kind
    → Harmless volume old (inode_place volume.layout number).sector (with_part bytes (inode_place volume.layout number).at part)

-- harmless bytes of a bitmap in which a bit is set
abbrev pub SetBitLaw : Type 0
SetBitLaw =
    (volume : Volume) (old : Image) (sector at : ℕ) (bytes : List ℕ)
    → IsSound volume old → IsOfBitmaps volume.layout sector → at < 4096 → Harmless volume old sector bytes
    → Harmless volume old sector (with_bit bytes at true)

-- harmless bytes in which the bitmap bit of an inode without a name is cleared
abbrev pub ClearInodeLaw : Type 0
ClearInodeLaw =
    (volume : Volume) (old : Image) (number : ℕ) (bytes : List ℕ)
    → IsSound volume old → IsInode volume.layout number → IsUnnamed volume old number
    → Harmless volume old (inode_mark_sector number) bytes
    → Harmless volume old (inode_mark_sector number) (with_bit bytes (number % 4096) false)

-- harmless bytes in which the bitmap bit of a data zone is cleared to which no named inode refers
abbrev pub ClearZoneLaw : Type 0
ClearZoneLaw =
    (volume : Volume) (old : Image) (zone : ℕ) (bytes : List ℕ)
    → IsSound volume old → IsDataZone volume.layout zone → IsUnused volume old zone
    → Harmless volume old (zone_mark_sector volume.layout zone) bytes
    → Harmless volume old (zone_mark_sector volume.layout zone) (with_bit bytes (zone_bit volume.layout zone % 4096) false)

-- ---- a change in one directory

-- where one entry of a directory is another, the directory finds by its names what it says, and else what it found
abbrev pub EntryLaw : Type 0
EntryLaw =
    (super : Super) (old new : Parts) (directory place : ℕ)
    → Sound super old → ChangesEntry super old new directory place → FindsBy super old new directory place

-- where one directory finds other inodes than before, the paths of its names change and no other
abbrev pub ChangeLaw : Type 0
ChangeLaw =
    (super : Super) (old new : Parts) (outer : List (List ℕ)) (directory : ℕ)
    → Sound super old → ChangesIn super old new outer directory → PathsFrom super old new outer directory

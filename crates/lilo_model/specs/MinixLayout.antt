-- The superblock and the inodes of a Minix volume (the layouts: Minix file system, versions 1 and 2). The
-- checks and the limit on a file's size in version 1 are this project's own. A block has 1024 bytes: block 0
-- is the boot block, block 1 the superblock, then come the bitmaps of inodes and zones, the table of inodes
-- and the data zones. Sectors are counted from the start of the volume, zones and blocks too.
use Rattle.std.specs.Prelude.{◌≡◌, ◌≤◌, ◌<◌, ◌^◌, ℕ, zero, suc, ◌+◌, ◌-◌, ◌*◌, ◌/◌, ◌%◌, ◌==◌, nat_le, nat_lt, Bool, true, false, not, ◌&&◌, ◌||◌}
use Rattle.std.specs.Prelude.{if◌then◌else◌, List, [], ◌∷◌, ◌++◌, map, length, take, replicate, slice_index, All, Option, Some, None, Result, Ok, Err}
use Rattle.std.specs.List.{concat}
use Rattle.lilo_model.specs.Bytes.{with_part, number16, number32, bytes16, bytes32}
use Rattle.lilo_model.specs.Checks.{◌>>=◌, require}

-- ---- kinds

-- the version of the format, and the bytes of a name: short ones have 14, long ones 30
pub data Kind : Type 0 where
  V1Short : Kind
  V1Long : Kind
  V2Short : Kind
  V2Long : Kind

-- whether it is version 1
abbrev pub is_v1 : Kind → Bool
is_v1 V1Short = true
is_v1 V1Long = true
is_v1 V2Short = false
is_v1 V2Long = false

-- the bytes of an inode
abbrev pub inode_size : Kind → ℕ
inode_size kind = if is_v1 kind then 32 else 64

-- the most bytes of a name
abbrev pub name_size : Kind → ℕ
name_size V1Short = 14
name_size V1Long = 30
name_size V2Short = 14
name_size V2Long = 30

-- the bytes of an entry in a directory
abbrev pub entry_size : Kind → ℕ
entry_size kind = name_size kind + 2

-- the bytes of a zone's number
abbrev pub number_size : Kind → ℕ
number_size kind = if is_v1 kind then 2 else 4

-- the numbers in an indirect zone
abbrev pub numbers_in_zone : Kind → ℕ
numbers_in_zone kind = if is_v1 kind then 512 else 256

-- the zones that an inode can name: 7 by itself, and one, two or three levels of indirect zones
abbrev pub reach : Kind → ℕ
reach kind = if is_v1 kind then 262663 else 16843015

-- the greatest number of links
abbrev pub most_links : Kind → ℕ
most_links kind = if is_v1 kind then 255 else 65535

-- the magic number in the superblock
abbrev pub magic_of : Kind → ℕ
magic_of V1Short = 0x137F
magic_of V1Long = 0x138F
magic_of V2Short = 0x2468
magic_of V2Long = 0x2478

-- the kind with a magic number
unfoldable pub kind_of : ℕ → Option Kind
kind_of magic =
    if magic == 0x137F then Some V1Short else
    if magic == 0x138F then Some V1Long else
    if magic == 0x2468 then Some V2Short else
    if magic == 0x2478 then Some V2Long else
    None

-- ---- refusals

-- the field of a superblock or an inode that is out of its range
pub data SizeField : Type 0 where
  Inodes : SizeField
  Zones : SizeField
  InodeMap : SizeField
  ZoneMap : SizeField
  FirstZone : SizeField
  FileSize : SizeField

-- why a superblock or an inode is refused
pub data LayoutFault : Type 0 where
  -- the magic number is none of the four
  BadMagic : LayoutFault
  BadSize : (field : SizeField) → LayoutFault
  -- zones have more than 1024 bytes
  ZoneSize : LayoutFault

-- ---- the superblock

pub record Super : Type 0 where
  pub kind : Kind
  -- how many inodes there are
  pub inodes : ℕ
  -- how many zones the volume has, from block 0 on
  pub zones : ℕ
  -- the blocks of the inode bitmap
  pub imap : ℕ
  -- the blocks of the zone bitmap
  pub zmap : ℕ
  -- the first data zone
  pub first : ℕ
  -- the greatest size of a file, which isn't judged
  pub max_size : ℕ
  -- the state, which isn't judged
  pub state : ℕ

-- the block at which the table of inodes begins
abbrev pub table_start : Super → ℕ
table_start super = 2 + super.imap + super.zmap

-- the blocks of the table of inodes
abbrev pub table_blocks : Super → ℕ
table_blocks super = (super.inodes * inode_size super.kind + 1023) / 1024

-- the fields of a superblock of a kind; version 2 has its number of zones in a field of its own
unfoldable pub super_of : Kind → List ℕ → Super
super_of kind bytes = record {
  kind = kind;
  inodes = number16 bytes 0;
  zones = if is_v1 kind then number16 bytes 2 else number32 bytes 20;
  imap = number16 bytes 4;
  zmap = number16 bytes 6;
  first = number16 bytes 8;
  max_size = number32 bytes 12;
  state = number16 bytes 18;
}

-- whether the zone bitmap has a bit for each data zone and the reserved one; a first data zone past the zones
-- is left to its own check
abbrev pub zone_map_holds : Super → Bool
zone_map_holds super = nat_lt super.zones super.first || nat_lt (super.zones - super.first) (8192 * super.zmap)

-- the checks of the fields for a volume of some sectors, in order
unfoldable pub super_checks : Super → ℕ → Result (Unit {0}) LayoutFault
super_checks super sectors = do
  a ← require (nat_le 1 super.inodes) (BadSize Inodes)
  b ← require (nat_le 1 super.zones && nat_le (2 * super.zones) sectors) (BadSize Zones)
  c ← require (nat_lt super.inodes (8192 * super.imap)) (BadSize InodeMap)
  d ← require (zone_map_holds super) (BadSize ZoneMap)
  require (nat_le (table_start super + table_blocks super) super.first && nat_lt super.first super.zones) (BadSize FirstZone)

-- the fields of a kind, where the zone size is that of a block and the checks pass
unfoldable pub super_in : Option Kind → List ℕ → ℕ → Result Super LayoutFault
super_in None bytes sectors = Err BadMagic
super_in (Some kind) bytes sectors = do
  a ← require (number16 bytes 10 == 0) ZoneSize
  b ← super_checks (super_of kind bytes) sectors
  Ok (super_of kind bytes)

-- the superblock in the first sector of block 1 of a volume of some sectors, or the first fault in this
-- order: the magic number, the zone size, the fields
unfoldable pub super_at : List ℕ → ℕ → Result Super LayoutFault
super_at bytes sectors = super_in (kind_of (number16 bytes 16)) bytes sectors

-- a sector with the number of zones of a kind
abbrev pub with_zones : Bool → ℕ → List ℕ → List ℕ
with_zones true zones bytes = with_part bytes 2 (bytes16 zones)
with_zones false zones bytes = with_part bytes 20 (bytes32 zones)

-- a sector with the two numbers before the bitmaps' own: the inodes, and the zones where their version has
-- them; the zones' field of the other version stays
unfoldable pub with_counts : Super → List ℕ → List ℕ
with_counts super bytes = with_zones (is_v1 super.kind) super.zones (with_part bytes 0 (bytes16 super.inodes))

-- a sector with the fields of a superblock
unfoldable pub super_bytes : Super → List ℕ → List ℕ
super_bytes super bytes =
    with_part
    (with_counts super bytes)
    4
    (bytes16 super.imap
    ++ bytes16 super.zmap
    ++ bytes16 super.first
    ++ bytes16 0
    ++ bytes32 super.max_size
    ++ bytes16 (magic_of super.kind)
    ++ bytes16 super.state)

-- a superblock that a volume of some sectors can have
pub record IsSuper (super : Super) (sectors : ℕ) : Type 0 where
  pub inodes_fit : super.inodes < 2 ^ 16
  pub zones_fit : super.zones < 256 ^ number_size super.kind
  pub imap_fits : super.imap < 2 ^ 16
  pub zmap_fits : super.zmap < 2 ^ 16
  pub first_fits : super.first < 2 ^ 16
  pub size_fits : super.max_size < 2 ^ 32
  pub state_fits : super.state < 2 ^ 16
  pub passes : super_checks super sectors ≡ Ok tt

-- ---- inodes

pub record Inode : Type 0 where
  pub mode : ℕ
  pub links : ℕ
  pub uid : ℕ
  pub gid : ℕ
  -- the bytes of the file
  pub size : ℕ
  -- the times of the last reading, of the last change of the content and of the last change of the inode
  pub times : List ℕ
  -- ten numbers of zones: seven of data, then those of one, two and three levels of indirect zones
  pub zones : List ℕ

-- the greatest size of a file in version 1: what its inode can name
abbrev pub v1_limit : ℕ
v1_limit = 268966912

-- whether an inode of a kind can have a size
abbrev pub is_size : Kind → ℕ → Bool
is_size kind size = not (is_v1 kind) || nat_le size v1_limit

-- some numbers of two bytes from an offset on
abbrev pub numbers16 : List ℕ → ℕ → ℕ → List ℕ
numbers16 bytes at zero = []
numbers16 bytes at (suc count) = number16 bytes at ∷ numbers16 bytes (at + 2) count

-- some numbers of four bytes from an offset on
abbrev pub numbers32 : List ℕ → ℕ → ℕ → List ℕ
numbers32 bytes at zero = []
numbers32 bytes at (suc count) = number32 bytes at ∷ numbers32 bytes (at + 4) count

-- the fields of an inode in version 1, which has one time and nine zones
unfoldable pub v1_inode : List ℕ → Inode
v1_inode bytes = record {
  mode = number16 bytes 0;
  links = slice_index bytes 13;
  uid = number16 bytes 2;
  gid = slice_index bytes 12;
  size = number32 bytes 4;
  times = replicate 3 (number32 bytes 8);
  zones = numbers16 bytes 14 9 ++ (0 ∷ []);
}

-- the fields of an inode in version 2
unfoldable pub v2_inode : List ℕ → Inode
v2_inode bytes = record {
  mode = number16 bytes 0;
  links = number16 bytes 2;
  uid = number16 bytes 4;
  gid = number16 bytes 6;
  size = number32 bytes 8;
  times = numbers32 bytes 12 3;
  zones = numbers32 bytes 24 10;
}

-- the fields of an inode, whatever its size
unfoldable pub inode_of : Kind → List ℕ → Inode
inode_of kind bytes = if is_v1 kind then v1_inode bytes else v2_inode bytes

-- the inode in the bytes of one, or the refusal of its size
unfoldable pub inode_at : Kind → List ℕ → Result Inode LayoutFault
inode_at kind bytes = do
  a ← require (is_size kind (inode_of kind bytes).size) (BadSize FileSize)
  Ok (inode_of kind bytes)

-- the bytes of some numbers, two each
abbrev pub bytes16_of : List ℕ → List ℕ
bytes16_of numbers = concat (map bytes16 numbers)

-- the bytes of some numbers, four each
abbrev pub bytes32_of : List ℕ → List ℕ
bytes32_of numbers = concat (map bytes32 numbers)

-- the bytes of an inode in version 1, whose one time is that of the content's last change
unfoldable pub v1_inode_bytes : Inode → List ℕ
v1_inode_bytes inode =
    bytes16 inode.mode
    ++ bytes16 inode.uid
    ++ bytes32 inode.size
    ++ bytes32 (slice_index inode.times 1)
    ++ (inode.gid ∷ (inode.links ∷ []))
    ++ bytes16_of (take 9 inode.zones)

-- the bytes of an inode in version 2
unfoldable pub v2_inode_bytes : Inode → List ℕ
v2_inode_bytes inode =
    bytes16 inode.mode
    ++ bytes16 inode.links
    ++ bytes16 inode.uid
    ++ bytes16 inode.gid
    ++ bytes32 inode.size
    ++ bytes32_of inode.times
    ++ bytes32_of inode.zones

-- the bytes of an inode
unfoldable pub inode_bytes : Kind → Inode → List ℕ
inode_bytes kind inode = if is_v1 kind then v1_inode_bytes inode else v2_inode_bytes inode

-- what is kept of an inode in the bytes of a kind: version 1 has one time and nine zones
unfoldable pub kept_inode : Kind → Inode → Inode
kept_inode kind inode =
    if is_v1 kind
    then record inode { times = replicate 3 (slice_index inode.times 1); zones = take 9 inode.zones ++ (0 ∷ []) }
    else inode

-- the numbers of an inode fit into the fields of a kind
pub record FitsInode (kind : Kind) (inode : Inode) : Type 0 where
  pub mode_fits : inode.mode < 2 ^ 16
  pub links_fit : inode.links ≤ most_links kind
  pub uid_fits : inode.uid < 2 ^ 16
  pub gid_fits : inode.gid < 256 ^ (if is_v1 kind then 1 else 2)
  pub size_fits : inode.size < 2 ^ 32
  pub times_fit : All (λ time. time < 2 ^ 32) inode.times
  pub zones_fit : All (λ zone. zone < 256 ^ number_size kind) inode.zones
  pub three : length inode.times ≡ 3
  pub ten : length inode.zones ≡ 10

-- ---- places

-- bytes of a volume: a sector, and an offset in it
pub record Place : Type 0 where
  pub sector : ℕ
  pub at : ℕ

-- where the inode with a number lies, from 1 on
unfoldable pub inode_place : Super → ℕ → Place
inode_place super number = record {
  sector = 2 * table_start super + (number - 1) * inode_size super.kind / 512;
  at = (number - 1) * inode_size super.kind % 512;
}

-- the first sector of a zone
abbrev pub zone_sector : ℕ → ℕ
zone_sector zone = 2 * zone

-- the first sector of block 1, which has the superblock
abbrev pub super_sector : ℕ
super_sector = 2

-- What a Minix volume holds, part by part: inodes, zones and bitmap bits, and the zone at each index of a
-- file (Minix file system, versions 1 and 2). A refusal of a zone's number is this project's own. Inodes are
-- counted from 1, zones and the blocks of a file from 0.
use Rattle.std.specs.Prelude.{◌<◌, ◌≤◌, ℕ, zero, suc, ◌+◌, ◌-◌, ◌*◌, ◌/◌, ◌%◌, ◌^◌, ◌==◌, nat_le, nat_lt, bit_and, bit_or, Bool, true, false, ◌&&◌, ◌||◌}
use Rattle.std.specs.Prelude.{if◌then◌else◌, List, [], ◌∷◌, ◌++◌, length, take, replicate, slice_index, slice_set, All, Result, Ok, Err}
use Rattle.lilo_model.specs.Bytes.{part_of, number16, number32}
use Rattle.lilo_model.specs.Checks.{◌>>=◌, with_fault}
use Rattle.lilo_model.specs.Disks.{Image, Span}
use Rattle.lilo_model.specs.MinixLayout.{Kind, Super, Inode, Place, LayoutFault, is_v1, inode_size, numbers_in_zone, super_at, inode_of, inode_place}
use Rattle.lilo_model.specs.MinixLayout.{zone_sector, super_sector}

-- ---- the parts

-- the parts of a volume
pub record Parts : Type 0 where
  -- the inode with a number, whatever its size
  pub node : ℕ → Inode
  -- the 1024 bytes of a zone
  pub zone : ℕ → List ℕ
  -- whether an inode is marked as used
  pub has_inode : ℕ → Bool
  -- whether a zone is
  pub has_zone : ℕ → Bool

-- a volume: where it lies, and its superblock
pub record Volume : Type 0 where
  pub span : Span
  pub layout : Super

-- a sector, counted from the start of the volume
abbrev pub sector_of : Volume → Image → ℕ → List ℕ
sector_of volume image sector = image volume.span.disk (volume.span.start + sector)

-- a bit, the lowest of a byte first
unfoldable pub bit : List ℕ → ℕ → Bool
bit bytes at = slice_index bytes (at / 8) / 2 ^ (at % 8) % 2 == 1

-- a byte with one bit set or cleared, the lowest counted as 0
abbrev pub byte_with : ℕ → ℕ → Bool → ℕ
byte_with byte at true = bit_or byte (2 ^ at)
byte_with byte at false = bit_and byte (255 - 2 ^ at)

-- bytes with one bit set or cleared, the lowest of a byte first
unfoldable pub with_bit : List ℕ → ℕ → Bool → List ℕ
with_bit bytes at value = slice_set bytes (at / 8) (byte_with (slice_index bytes (at / 8)) (at % 8) value)

-- the sector with an inode's bitmap bit; the bitmap begins at block 2
abbrev pub inode_mark_sector : ℕ → ℕ
inode_mark_sector number = 4 + number / 4096

-- the number of a zone's bit: the first data zone has bit 1
abbrev pub zone_bit : Super → ℕ → ℕ
zone_bit super zone = zone + 1 - super.first

-- the sector with a zone's bitmap bit
abbrev pub zone_mark_sector : Super → ℕ → ℕ
zone_mark_sector super zone = 2 * (2 + super.imap) + zone_bit super zone / 4096

-- the bytes of an inode
abbrev pub inode_part : Volume → Image → Place → List ℕ
inode_part volume image place =
    part_of (sector_of volume image place.sector) place.at (inode_size volume.layout.kind)

-- the parts of a volume in an image
unfoldable pub parts_of : Volume → Image → Parts
parts_of volume image = record {
  node = λ number. inode_of volume.layout.kind (inode_part volume image (inode_place volume.layout number));
  zone = λ zone. sector_of volume image (zone_sector zone) ++ sector_of volume image (zone_sector zone + 1);
  has_inode = λ number. bit (sector_of volume image (inode_mark_sector number)) (number % 4096);
  has_zone = λ zone. bit (sector_of volume image (zone_mark_sector volume.layout zone)) (zone_bit volume.layout zone % 4096);
}

-- why zones are refused
pub data ZoneFault : Type 0 where
  -- a superblock or an inode is refused
  Layout : LayoutFault → ZoneFault
  -- a zone's number is neither 0 nor that of a data zone
  ZoneOutside : (zone : ℕ) → ZoneFault

-- a volume with some superblock
abbrev pub volume_with : Span → Super → Volume
volume_with span super = record { span = span; layout = super }

-- the volume in a span, by the first sector of its block 1
unfoldable pub volume_at : Image → Span → Result Volume ZoneFault
volume_at image span =
    with_fault Layout (super_at (image span.disk (span.start + super_sector)) span.count) >>= λ super. Ok (volume_with span super)

-- ---- kinds of files, by the top four bits of the mode

abbrev pub is_directory : Inode → Bool
is_directory inode = inode.mode / 4096 == 4

abbrev pub is_file : Inode → Bool
is_file inode = inode.mode / 4096 == 8

-- a symbolic link
abbrev pub is_link : Inode → Bool
is_link inode = inode.mode / 4096 == 10

-- whether the numbers in an inode are zones: a device has none
abbrev pub has_zones : Inode → Bool
has_zones inode = is_directory inode || is_file inode || is_link inode

-- ---- pointers

-- a number of a zone, by where it lies: one of an inode's ten, and the indices on the way down from it
-- through indirect zones, the last one first
pub record Pointer : Type 0 where
  pub top : ℕ
  pub trail : List ℕ

-- an inode of a kind has this pointer: the eighth number leads through one indirect zone at most, the ninth
-- through two, the tenth through three
pub record IsPointer (kind : Kind) (pointer : Pointer) : Type 0 where
  pub ten : pointer.top < 10
  pub deep : length pointer.trail ≤ pointer.top - 6
  pub within : All (λ index. index < numbers_in_zone kind) pointer.trail

-- a number in the bytes of an indirect zone
unfoldable pub number_in : Kind → List ℕ → ℕ → ℕ
number_in kind bytes index = if is_v1 kind then number16 bytes (2 * index) else number32 bytes (4 * index)

-- a number below an indirect zone, which is 0 where that zone is a hole
abbrev pub number_below : Kind → (ℕ → List ℕ) → ℕ → ℕ → ℕ
number_below kind bytes_of zone index = if zone == 0 then 0 else number_in kind (bytes_of zone) index

-- the number at the end of a trail that begins at a number
unfoldable pub follow : Kind → (ℕ → List ℕ) → ℕ → List ℕ → ℕ
follow kind bytes_of zone [] = zone
follow kind bytes_of zone (index ∷ before) = number_below kind bytes_of (follow kind bytes_of zone before) index

-- the number at a pointer of an inode
abbrev pub zone_at_pointer : Super → Parts → Inode → Pointer → ℕ
zone_at_pointer super parts inode pointer =
    follow super.kind parts.zone (slice_index inode.zones pointer.top) pointer.trail

-- the indices on the way to a block through so many indirect zones, the last one first
abbrev pub trail_of : ℕ → ℕ → ℕ → List ℕ
trail_of per zero index = []
trail_of per (suc depth) index = (index % per) ∷ trail_of per depth (index / per)

-- a pointer by one of the ten numbers, and a block counted from the first that is found by it
abbrev pub pointer_with : ℕ → ℕ → ℕ → ℕ → Pointer
pointer_with per top depth index = record { top = top; trail = trail_of per depth index }

-- the pointer of the block with an index: seven by themselves, then those of one, two and three levels
unfoldable pub pointer_by : ℕ → ℕ → Pointer
pointer_by per index =
    if nat_lt index 7 then pointer_with per index 0 0 else
    if nat_lt index (7 + per) then pointer_with per 7 1 (index - 7) else
    if nat_lt index (7 + per + per * per) then pointer_with per 8 2 (index - 7 - per) else
    pointer_with per 9 3 (index - 7 - per - per * per)

-- the same, by the kind
abbrev pub block_pointer : Kind → ℕ → Pointer
block_pointer kind index = pointer_by (numbers_in_zone kind) index

-- ---- the zone of a block, on any volume

-- a zone's number that may be followed: 0, or that of a data zone
unfoldable pub inside : Super → ℕ → Result ℕ ZoneFault
inside super zone =
    if zone == 0 || (nat_le super.first zone && nat_lt zone super.zones) then Ok zone else Err (ZoneOutside zone)

-- the number at the end of a trail, where each on the way may be followed; else the refusal of the first one
unfoldable pub follow_at : Super → (ℕ → List ℕ) → ℕ → List ℕ → Result ℕ ZoneFault
follow_at super bytes_of zone [] = inside super zone
follow_at super bytes_of zone (index ∷ before) =
    follow_at super bytes_of zone before >>= λ above. inside super (number_below super.kind bytes_of above index)

-- the same, for a pointer of an inode
abbrev pub at_pointer : Super → Parts → Inode → Pointer → Result ℕ ZoneFault
at_pointer super parts inode pointer =
    follow_at super parts.zone (slice_index inode.zones pointer.top) pointer.trail

-- the zone of an inode's block, 0 for a hole
unfoldable pub zone_at : Super → Parts → Inode → ℕ → Result ℕ ZoneFault
zone_at super parts inode index = at_pointer super parts inode (block_pointer super.kind index)

-- the bytes of a zone, zeros for a hole
abbrev pub zone_bytes : Parts → ℕ → List ℕ
zone_bytes parts zone = if zone == 0 then replicate 1024 0 else parts.zone zone

-- the bytes of an inode's block
unfoldable pub block_at : Super → Parts → Inode → ℕ → Result (List ℕ) ZoneFault
block_at super parts inode index = zone_at super parts inode index >>= λ zone. Ok (zone_bytes parts zone)

-- how many blocks some bytes take
abbrev pub blocks_for : ℕ → ℕ
blocks_for size = (size + 1023) / 1024

-- the bytes of the first blocks, or the refusal of the first that has one
abbrev pub blocks_at : (ℕ → Result (List ℕ) ZoneFault) → ℕ → Result (List ℕ) ZoneFault
blocks_at at zero = Ok []
blocks_at at (suc count) = blocks_at at count >>= λ before. at count >>= λ block. Ok (before ++ block)

-- Content: the bytes of an inode's file, as many as its size says
unfoldable pub content_at : Super → Parts → Inode → Result (List ℕ) ZoneFault
content_at super parts inode =
    blocks_at (block_at super parts inode) (blocks_for inode.size) >>= λ bytes. Ok (take inode.size bytes)

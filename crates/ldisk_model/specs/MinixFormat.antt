-- An empty Minix volume: its superblock, and the bytes of each sector that is written to make it (Minix file system,
-- versions 1 and 2; the numbers that are chosen are this project's own). Sectors are counted from the start of the
-- volume, zones and blocks too.
use Rattle.std.specs.Prelude.{ℕ, ◌+◌, ◌-◌, ◌*◌, ◌/◌, ◌^◌, ◌==◌, min, bit_or, nat_le, nat_lt, Bool, ◌&&◌, if◌then◌else◌, List, ◌∷◌, ◌++◌, map, replicate}
use Rattle.std.specs.Prelude.{option_map, Option, Some, None}
use Rattle.std.specs.List.{range_with_len}
use Rattle.lilo_model.specs.Bytes.{bytes16, filled_bytes, is_between}
use Rattle.lilo_model.specs.Disks.{Image, Span}
use Rattle.lilo_model.specs.MinixLayout.{Kind, Super, Inode, is_v1, entry_size, name_size, v1_limit, table_start, table_blocks, super_bytes, inode_bytes}
use Rattle.lilo_model.specs.MinixLayout.{zone_sector, super_sector}
use Rattle.lilo_model.specs.MinixEntries.{here_name, above_name}

-- ---- the superblock

-- the zones of a volume of some sectors; version 1 counts 65,535 of them at most
abbrev pub zones_for : Kind → ℕ → ℕ
zones_for kind sectors = if is_v1 kind then min (sectors / 2) 65535 else sectors / 2

-- the blocks of a bitmap of so many bits
abbrev pub map_blocks : ℕ → ℕ
map_blocks bits = (bits + 8191) / 8192

-- the greatest size of a file that is stated
abbrev pub size_for : Kind → ℕ
size_for kind = if is_v1 kind then v1_limit else 2147483647

-- a superblock whose first data zone follows the table of inodes
abbrev pub with_first : Super → Super
with_first super = record super { first = table_start super + table_blocks super }

-- the superblock of an empty volume, whether there is room for it or not
unfoldable pub new_layout : Kind → ℕ → ℕ → Super
new_layout kind sectors inodes = with_first (record {
  kind = kind;
  inodes = inodes;
  zones = zones_for kind sectors;
  imap = map_blocks (inodes + 1);
  zmap = map_blocks (zones_for kind sectors);
  first = 0;
  max_size = size_for kind;
  state = 1;
})

-- whether there are inodes, as many as their field can say, and a first data zone, which its field can say too
unfoldable pub has_room : Super → Bool
has_room super = is_between 1 65535 super.inodes && nat_lt super.first super.zones && nat_le super.first 65535

-- a superblock that has room
abbrev pub where_room : Super → Option Super
where_room super = if has_room super then Some super else None

-- the superblock of an empty volume in some sectors, with so many inodes
unfoldable pub format_layout : Kind → ℕ → ℕ → Option Super
format_layout kind sectors inodes = where_room (new_layout kind sectors inodes)

-- ---- the bytes

abbrev pub zeros : List ℕ
zeros = replicate 512 0

-- a byte of a bitmap, by the number of its first bit and the last number that the bitmap is for: the bits of numbers
-- 0 and 1 are set, and those past the last number
unfoldable pub map_byte : ℕ → ℕ → ℕ
map_byte last number = bit_or (if number == 0 then 3 else 0) (256 - 2 ^ min 8 (last + 1 - number))

-- a sector of a bitmap, counted from the bitmap's first
unfoldable pub map_sector : ℕ → ℕ → List ℕ
map_sector last sector = map (λ at. map_byte last (4096 * sector + 8 * at)) (range_with_len 0 512)

-- the root directory
abbrev pub first_inode : Super → ℕ → Inode
first_inode super time = record {
  mode = 0x41ED;
  links = 2;
  uid = 0;
  gid = 0;
  size = 2 * entry_size super.kind;
  times = replicate 3 time;
  zones = super.first ∷ replicate 9 0;
}

-- the bytes of an entry that leads to the root
abbrev pub root_entry : Kind → List ℕ → List ℕ
root_entry kind name = bytes16 1 ++ filled_bytes (name_size kind) name

-- the root's two entries
abbrev pub root_entries : Kind → List ℕ
root_entries kind = root_entry kind here_name ++ root_entry kind above_name

-- the first sector of the zone bitmap
abbrev pub zone_map_start : Super → ℕ
zone_map_start super = 4 + 2 * super.imap

-- the bit of the last zone
abbrev pub last_bit : Super → ℕ
last_bit super = super.zones - super.first

-- a sector of an empty volume after its boot block, made at a time: in the bitmaps inode 1 and the first data zone are
-- marked; the root is the one inode, and its entries lie in that zone
unfoldable pub formatted_sector : Super → ℕ → ℕ → List ℕ
formatted_sector super time sector =
    if sector == super_sector then super_bytes super zeros else
    if nat_lt sector 4 then zeros else
    if nat_lt sector (zone_map_start super) then map_sector super.inodes (sector - 4) else
    if nat_lt sector (2 * table_start super) then map_sector (last_bit super) (sector - zone_map_start super) else
    if sector == 2 * table_start super then filled_bytes 512 (inode_bytes super.kind (first_inode super time)) else
    if sector == zone_sector super.first then filled_bytes 512 (root_entries super.kind) else
    zeros

-- how many sectors are written, from the superblock's on: up to the end of the root's zone
abbrev pub formatted_count : Super → ℕ
formatted_count super = zone_sector super.first

-- these sectors; the boot block isn't among them
abbrev pub formatted_sectors : Super → ℕ → List (List ℕ)
formatted_sectors super time = map (formatted_sector super time) (range_with_len super_sector (formatted_count super))

-- an image with an empty volume in a span; the boot block and the data zones but the root's are as before, and what lies
-- outside
unfoldable pub formatted : Span → Super → ℕ → Image → Image
formatted span super time image disk sector =
    if span.disk == disk && nat_le (span.start + super_sector) sector
    && nat_lt sector (span.start + super_sector + formatted_count super)
    then formatted_sector super time (sector - span.start)
    else image disk sector

-- the same, where there is room for it
unfoldable pub format_at : Span → Kind → ℕ → ℕ → Image → Option Image
format_at span kind inodes time image =
    option_map (λ layout. formatted span layout time image) (format_layout kind span.count inodes)

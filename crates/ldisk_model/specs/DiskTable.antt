-- The partition table that `make` writes (IBM PC partition table; that it has status 0 and cylinders, heads and sectors
-- of 0, and that the rest of its sector is zeros, are this project's own). Sectors are counted from 0.
use Rattle.std.specs.Prelude.{◌≡◌, ◌≤◌, ◌<◌, ◌^◌, ℕ, ◌+◌, ◌-◌, nat_le, Bool, true, ◌&&◌, ◌||◌, List, [], ◌∷◌, ◌++◌, length, map, flat_map, replicate, All, Ok}
use Rattle.std.specs.List.{list_all}
use Rattle.lilo_model.specs.Bytes.{bytes32, filled_bytes}
use Rattle.lilo_model.specs.Partitions.{Entry, table_entries}
use Rattle.ldisk_model.specs.Arguments.{PartWish}

-- ---- where partitions may lie

-- the first sector after a partition
abbrev pub end_of : PartWish → ℕ
end_of part = part.start + part.count

-- two partitions have no sector in common, and neither begins inside the other
unfoldable pub are_apart : PartWish → PartWish → Bool
are_apart one other = nat_le (end_of one) other.start || nat_le (end_of other) one.start

-- a partition lies on a disk of so many sectors, after its first one
unfoldable pub is_placed : ℕ → PartWish → Bool
is_placed sectors part = nat_le 1 part.start && nat_le (end_of part) sectors

-- partitions lie so, and each two of them apart
unfoldable pub are_placed : ℕ → List PartWish → Bool
are_placed sectors [] = true
are_placed sectors (part ∷ parts) =
    is_placed sectors part && list_all (are_apart part) parts && are_placed sectors parts

-- ---- the bytes

-- the 16 bytes of an entry: status, start by cylinder, head and sector, type, end, and then start and count
unfoldable pub entry_bytes : PartWish → List ℕ
entry_bytes part = replicate 4 0 ++ part.kind ∷ (replicate 3 0 ++ (bytes32 part.start ++ bytes32 part.count))

-- the sector of a table of four partitions at most, the first of them first
unfoldable pub table_sector : List PartWish → List ℕ
table_sector parts = replicate 446 0 ++ (filled_bytes 64 (flat_map entry_bytes parts) ++ 0x55 ∷ (0xaa ∷ []))

-- ---- what is read of it

-- the entry of a partition
abbrev pub entry_of : PartWish → Entry
entry_of part = record { status = 0; kind = part.kind; start = part.start; count = part.count }

-- an entry that is empty
abbrev pub no_entry : Entry
no_entry = record { status = 0; kind = 0; start = 0; count = 0 }

-- a partition whose numbers fit their fields
pub record FitsTable (part : PartWish) : Type 0 where
  pub start : part.start < 2 ^ 32
  pub count : part.count < 2 ^ 32
  pub kind : part.kind < 256

-- what is read of the table that is written is what was asked for
abbrev pub TableLaw : Type 0
TableLaw =
    (parts : List PartWish) → length parts ≤ 4 → All FitsTable parts
    → table_entries 0 (table_sector parts) ≡ Ok (map entry_of parts ++ replicate (4 - length parts) no_entry)

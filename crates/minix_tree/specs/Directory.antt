-- A directory block by block: its entries are those of its blocks, one after the other.
use Rattle.std.specs.Prelude.{ℕ, zero, suc, ◌+◌, ◌-◌, ◌*◌, ◌/◌, min, List, [], ◌++◌, map, Result, Ok}
use Rattle.lilo_model.specs.Checks.{◌>>=◌}
use Rattle.lilo_model.specs.MinixLayout.{Kind, Super, Inode}
use Rattle.lilo_model.specs.MinixParts.{Parts, ZoneFault, block_at}
use Rattle.lilo_model.specs.MinixEntries.{Entry, PlacedEntry, entry_with, entries_per_block, places}
use Rattle.minix_tree.specs.Placed.{placed_from}

-- how many entries of a directory's block lie whole below the directory's size
abbrev pub places_in : Kind → ℕ → ℕ → ℕ
places_in kind size index = min (entries_per_block kind) (places kind size - entries_per_block kind * index)

-- how many blocks have such entries
abbrev pub directory_blocks : Kind → ℕ → ℕ
directory_blocks kind size = (places kind size + (entries_per_block kind - 1)) / entries_per_block kind

-- an entry, wherever it is
abbrev pub without_place : PlacedEntry → Entry
without_place entry = entry_with entry.inode entry.name

-- the entries that aren't free among the first ones of a block; where none are wanted, no zone is followed
abbrev pub first_entries : Super → Parts → Inode → ℕ → ℕ → Result (List Entry) ZoneFault
first_entries super parts inode index zero = Ok []
first_entries super parts inode index (suc count) =
    block_at super parts inode index >>= λ block. Ok (map without_place (placed_from super.kind block 0 (suc count)))

-- the entries of a directory's block that aren't free, in order
unfoldable pub block_entries : Super → Parts → Inode → ℕ → Result (List Entry) ZoneFault
block_entries super parts inode index =
    first_entries super parts inode index (places_in super.kind inode.size index)

-- the entries of the first blocks, or the first refusal
abbrev pub entries_before : Super → Parts → Inode → ℕ → Result (List Entry) ZoneFault
entries_before super parts inode zero = Ok []
entries_before super parts inode (suc index) =
    entries_before super parts inode index >>= λ before. block_entries super parts inode index >>= λ here. Ok (before ++ here)

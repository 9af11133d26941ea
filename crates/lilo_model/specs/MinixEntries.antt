-- The entries of a directory (Minix file system): an inode's number and a name of 14 or 30 bytes, one after
-- the other. An entry with the number 0 is free. Entries that don't lie whole below the directory's size aren't
-- looked at.
use Rattle.std.specs.Prelude.{ℕ, zero, suc, ◌*◌, ◌/◌, ◌%◌, ◌==◌, Bool, not, ◌&&◌, ◌||◌, if◌then◌else◌, List, [], ◌∷◌, ◌++◌, map, filter, bytes_eq, Option, Some}
use Rattle.std.specs.Prelude.{None, Result, Ok}
use Rattle.std.specs.List.{range_with_len}
use Rattle.lilo_model.specs.Bytes.{part_of, number16, name_in}
use Rattle.lilo_model.specs.Checks.{◌>>=◌}
use Rattle.lilo_model.specs.MinixLayout.{Kind, Super, Inode, entry_size, name_size}
use Rattle.lilo_model.specs.MinixParts.{Parts, ZoneFault, block_at}

-- what an entry says
pub record Entry : Type 0 where
  pub inode : ℕ
  pub name : List ℕ

-- an entry, by the inode and the name
abbrev pub entry_with : ℕ → List ℕ → Entry
entry_with inode name = record { inode = inode; name = name }

-- the entry in the bytes of one
unfoldable pub entry_of : Kind → List ℕ → Entry
entry_of kind bytes = entry_with (number16 bytes 0) (name_in bytes 2 (name_size kind))

-- how many entries a block has
abbrev pub entries_per_block : Kind → ℕ
entries_per_block kind = 1024 / entry_size kind

-- an entry of a block
abbrev pub entry_in : Kind → List ℕ → ℕ → Entry
entry_in kind block index = entry_of kind (part_of block (entry_size kind * index) (entry_size kind))

-- how many entries lie whole below a size
abbrev pub places : Kind → ℕ → ℕ
places kind size = size / entry_size kind

-- an entry that isn't free, and where it begins in its block
pub record PlacedEntry : Type 0 where
  pub inode : ℕ
  pub name : List ℕ
  pub at : ℕ

-- an entry of a block with its place
abbrev pub placed_entry : Kind → List ℕ → ℕ → PlacedEntry
placed_entry kind block index = record {
  inode = (entry_in kind block index).inode;
  name = (entry_in kind block index).name;
  at = entry_size kind * index;
}

-- the entries of a block that aren't free, in order
unfoldable pub entries_in : Kind → List ℕ → List PlacedEntry
entries_in kind block =
    filter (λ entry. not (entry.inode == 0)) (map (placed_entry kind block) (range_with_len 0 (entries_per_block kind)))

-- the inode of an entry that has a name
abbrev pub named_inode : List ℕ → Entry → Option ℕ
named_inode name entry =
    if not (entry.inode == 0) && bytes_eq entry.name name then Some entry.inode else None

-- ---- on any volume

-- the entry at a place of a directory, or the refusal of its block
unfoldable pub entry_at : Super → Parts → Inode → ℕ → Result Entry ZoneFault
entry_at super parts inode place =
    block_at super parts inode (place / entries_per_block super.kind)
    >>= λ block. Ok (entry_in super.kind block (place % entries_per_block super.kind))

-- what was found, or else the inode of a later entry
abbrev pub or_later : (ℕ → Result Entry ZoneFault) → List ℕ → ℕ → Option ℕ → Result (Option ℕ) ZoneFault
or_later at name place (Some inode) = Ok (Some inode)
or_later at name place None = at place >>= λ entry. Ok (named_inode name entry)

-- the inode of the first entry of a name at the places below a number, or the refusal that is met before it
abbrev pub find_below : (ℕ → Result Entry ZoneFault) → List ℕ → ℕ → Result (Option ℕ) ZoneFault
find_below at name zero = Ok None
find_below at name (suc place) = find_below at name place >>= λ found. or_later at name place found

-- the inode of the first entry of a name in a directory
unfoldable pub find_entry : Super → Parts → Inode → List ℕ → Result (Option ℕ) ZoneFault
find_entry super parts inode name =
    find_below (entry_at super parts inode) name (places super.kind inode.size)

-- an entry, where it isn't free
abbrev pub unless_free : Entry → List Entry
unless_free entry = if entry.inode == 0 then [] else entry ∷ []

-- the entries at the places below a number that aren't free, in order, or the first refusal
abbrev pub entries_below : (ℕ → Result Entry ZoneFault) → ℕ → Result (List Entry) ZoneFault
entries_below at zero = Ok []
entries_below at (suc place) =
    entries_below at place >>= λ before. at place >>= λ entry. Ok (before ++ unless_free entry)

-- the entries of a directory that aren't free, in order
unfoldable pub entries_at : Super → Parts → Inode → Result (List Entry) ZoneFault
entries_at super parts inode = entries_below (entry_at super parts inode) (places super.kind inode.size)

-- ---- names that each directory has

-- `.`, the directory itself
abbrev pub here_name : List ℕ
here_name = 46 ∷ []

-- `..`, the directory above
abbrev pub above_name : List ℕ
above_name = 46 ∷ (46 ∷ [])

-- whether a name is one of these two
unfoldable pub is_dots : List ℕ → Bool
is_dots name = bytes_eq here_name name || bytes_eq above_name name

-- The entries of a block that are left from a place on.
use Rattle.std.specs.Prelude.{ℕ, ◌==◌, not, List, map, filter}
use Rattle.std.specs.List.{range_with_len}
use Rattle.lilo_model.specs.MinixLayout.{Kind}
use Rattle.lilo_model.specs.MinixEntries.{PlacedEntry, placed_entry}
use Rattle.minix_tree.specs.declared.entry.DirEntry.{DirEntry}

-- the entries that aren't free among so many places of a block from one on, in order
unfoldable pub placed_from : Kind → List ℕ → ℕ → ℕ → List PlacedEntry
placed_from kind block place count =
    filter (λ entry. not (entry.inode == 0)) (map (placed_entry kind block) (range_with_len place count))

-- an entry with its place
abbrev pub entry_view : DirEntry → PlacedEntry
entry_view entry = record { inode = entry.inode; name = entry.name.now; at = entry.at }

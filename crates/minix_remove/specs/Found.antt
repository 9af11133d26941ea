-- The entry of a name in a directory, and where it lies.
use Rattle.std.specs.Prelude.{◌≡◌, ◌≤◌, ◌<◌, ◌+◌, ◌-◌, ℕ, List, Option, Some, None, Result, Ok, Err}
use Rattle.lilo_model.specs.Checks.{with_fault}
use Rattle.lilo_model.specs.MinixEntries.{entry_with, entry_in, entry_at, find_entry, places}
use Rattle.lilo_model.specs.MinixFind.{Zone}
use Rattle.lilo_model.specs.MinixLayout.{Kind, Super, Inode}
use Rattle.lilo_model.specs.MinixParts.{Parts}
use Rattle.minix_tree.specs.Found.{found_in}
use Rattle.minix_tree.specs.View.{Refuses}
use Rattle.minix_tree.specs.declared.tree_fault.TreeFault.{TreeFault}
use Rattle.minix_remove.specs.declared.find.Found.{Found}

abbrev pub inode_of : Found → ℕ
inode_of found = found.inode

-- an entry of a name is one of so many of a block, whose first place is this one of the directory
pub record IsAmong (kind : Kind) (block name : List ℕ) (first count : ℕ) (found : Found) : Type 0 where
  pub from : first ≤ found.place
  pub below : found.place < first + count
  pub says : entry_in kind block (found.place - first) ≡ entry_with found.inode name
  pub some : 1 ≤ found.inode

-- an entry of a name lies whole below a directory's size
pub record IsEntryOf (super : Super) (parts : Parts) (inode : Inode) (name : List ℕ) (found : Found) : Type 0 where
  pub below : found.place < places super.kind inode.size
  pub says : entry_at super parts inode found.place ≡ Ok (entry_with found.inode name)

-- what was found in a block of a directory is the first entry of the name there, unless the disk failed
abbrev pub FindsIn : Super → Parts → Inode → List ℕ → ℕ → Result (Option Found) TreeFault → Type 0
FindsIn super parts inode name index (Ok None) = with_fault Zone (found_in super parts inode name index) ≡ Ok None
FindsIn super parts inode name index (Ok (Some found)) =
    (with_fault Zone (found_in super parts inode name index) ≡ Ok (Some found.inode)) × IsEntryOf super parts inode name found
FindsIn super parts inode name index (Err fault) = Refuses fault (with_fault Zone (found_in super parts inode name index))

-- the same in the directory
abbrev pub Finds : Super → Parts → Inode → List ℕ → Result (Option Found) TreeFault → Type 0
Finds super parts inode name (Ok None) = with_fault Zone (find_entry super parts inode name) ≡ Ok None
Finds super parts inode name (Ok (Some found)) =
    (with_fault Zone (find_entry super parts inode name) ≡ Ok (Some found.inode)) × IsEntryOf super parts inode name found
Finds super parts inode name (Err fault) = Refuses fault (with_fault Zone (find_entry super parts inode name))

-- What was seen of a directory so far.
use Rattle.std.specs.Prelude.{◌≡◌, ℕ, zero, suc, List, [], ◌∷◌, ◌++◌, Result, Ok, Err}
use Rattle.lilo_model.specs.MinixLayout.{Kind, Super, Inode}
use Rattle.lilo_model.specs.MinixParts.{Parts, ZoneFault}
use Rattle.lilo_model.specs.MinixEntries.{Entry, entry_in, entry_at}
use Rattle.minix_zones.specs.View as zones
use Rattle.minix_zones.specs.declared.zone_fault.ZoneFault as faults
use Rattle.write_model.specs.Wish.{Promise}
use Rattle.write_model.specs.Places.{entries_to, has_name, is_promised, first_free}
use Rattle.minix_choice.specs.declared.directory.Seen.{Seen}

-- the entries at the first places of a block
abbrev pub first_entries : Kind → List ℕ → ℕ → List Entry
first_entries kind block zero = []
first_entries kind block (suc place) = first_entries kind block place ++ (entry_in kind block place ∷ [])

-- whether one of some entries has a name, and the first free place among them
pub record Sees (directory : ℕ) (name : List ℕ) (promises : List Promise) (entries : List Entry) (seen : Seen) : Type 0 where
  pub named : seen.named ≡ has_name name entries
  pub free : seen.free ≡ first_free (is_promised promises directory) 0 entries

-- so it is with the entries at the places below a number
abbrev pub SeesTo : Super → Parts → Inode → ℕ → List ℕ → List Promise → ℕ → Seen → Type 0
SeesTo super parts inode directory name promises place seen =
    (entries : List Entry) × (entries_to (entry_at super parts inode) place ≡ Ok entries) × Sees directory name promises entries seen

-- What was seen is of these entries, or the refusal is theirs, unless the disk failed.
abbrev pub Looks : ℕ → List ℕ → List Promise → Result Seen faults.ZoneFault → Result (List Entry) ZoneFault → Type 0
Looks directory name promises (Ok seen) found = (entries : List Entry) × (found ≡ Ok entries) × Sees directory name promises entries seen
Looks directory name promises (Err fault) found = zones.Refuses fault found

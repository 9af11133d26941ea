-- What the removal of a name does to a sound Minix volume.
use Rattle.std.specs.Prelude.{◌≡◌, ℕ, true, List, Some, None}
use Rattle.lilo_model.specs.MinixLayout.{Super}
use Rattle.lilo_model.specs.MinixNames.{reached, Named, Sound}
use Rattle.lilo_model.specs.MinixParts.{Parts, is_directory}
use Rattle.minix_change_laws.specs.Enter.{BecomesFree}
use Rattle.minix_change_laws.specs.Changes.{AreEnough, ChangesNode}
use Rattle.minix_change_laws.specs.Sees.{with_links, Sees}
use Rattle.minix_remove_laws.specs.Held.{held_name, HoldsEntry, HoldsName, MayGoFrom, IsAbsent, IsReleased}

-- an inode of which a directory has an entry has a name or is the root: also that of `.` and `..`
abbrev pub EntryLaw : Type 0
EntryLaw =
    (super : Super) (parts : Parts) (directory place number : ℕ) (name : List ℕ)
    → Sound super parts → HoldsEntry super parts directory place number name → Named super parts number

-- a name of a file or a link that a directory holds may go
abbrev pub HeldLaw : Type 0
HeldLaw =
    (super : Super) (parts : Parts) (outer : List (List ℕ)) (directory place number : ℕ) (name : List ℕ)
    → Sound super parts → reached super parts outer ≡ Some directory → HoldsName super parts directory place number name
    → MayGoFrom super parts outer directory place number name

-- a name that it doesn't hold is neither `.` nor `..`, and is found nowhere in it
abbrev pub AbsentLaw : Type 0
AbsentLaw =
    (super : Super) (parts : Parts) (directory : ℕ) (name : List ℕ)
    → Sound super parts → Named super parts directory → is_directory (parts.node directory) ≡ true → held_name super parts directory name ≡ None
    → IsAbsent super parts directory name

-- once a name is gone, its inode may have a link less, or is left without a name
abbrev pub ReleasedLaw : Type 0
ReleasedLaw =
    (super : Super) (old new : Parts) (directory place number : ℕ) (name : List ℕ)
    → Sound super old → HoldsName super old directory place number name → BecomesFree super old new directory place
    → IsReleased super old new number

-- no name sees that the links of an inode change which stay enough, whether it has a name or not
abbrev pub AnyLinksLaw : Type 0
AnyLinksLaw =
    (super : Super) (old new : Parts) (number links : ℕ)
    → Sound super old → AreEnough super old number links → ChangesNode super old new number (with_links (old.node number) links)
    → Sees super old new

-- What a change of one entry of a directory does to a sound Minix volume.
use Rattle.std.specs.Prelude.{◌≡◌, ◌≢◌, ◌<◌, ℕ, List, ◌∷◌, length, true, false, Some, None}
use Rattle.lilo_model.specs.MinixLayout.{Super}
use Rattle.lilo_model.specs.MinixParts.{Parts, is_directory}
use Rattle.lilo_model.specs.MinixEntries.{entry_with, places}
use Rattle.lilo_model.specs.MinixNames.{Directory, reached, thing, Named, depth_limit, Sound}
use Rattle.minix_change_laws.specs.Tree.{KeepsNamed, TreeWith, TreeMoved}
use Rattle.minix_change_laws.specs.Only.{ChangesOnlyEntry, KeepsInode}
use Rattle.minix_change_laws.specs.Comes.{IsFit, IsNewDirectory, HasOnlyDots, MayChange, SoundAfter}
use Rattle.minix_change_laws.specs.Enter.{MayStand, IsNewFile, DirectoryMayStand, MayEnter, MayRemove, MayRename, Becomes, BecomesFree, HasLinkMore, IsOnlyName}
use Rattle.minix_change_laws.specs.Enter.{IsLeft}
use Rattle.minix_change_laws.specs.Replaces.{Replaces, Replaced}

-- where an entry that may go becomes one that may come, a sound volume stays sound
abbrev pub ChangedLaw : Type 0
ChangedLaw =
    (super : Super) (old new : Parts) (outer : List (List ℕ)) (directory place : ℕ)
    → Sound super old → MayChange super old new outer directory place → SoundAfter super old new outer directory place

-- where one entry changes, what has a name before and after stays
abbrev pub KeepsNamedLaw : Type 0
KeepsNamedLaw =
    (super : Super) (old new : Parts) (directory place : ℕ)
    → Sound super old → ChangesOnlyEntry super old new directory place → KeepsNamed super old new

-- ---- what may get a name

-- an inode with a name is fit for another
abbrev pub FitLaw : Type 0
FitLaw = (super : Super) (parts : Parts) (number : ℕ) → Sound super parts → Named super parts number → IsFit super parts number

-- one that is no directory stays as it is
abbrev pub FileLaw : Type 0
FileLaw =
    (super : Super) (old new : Parts) (directory place number : ℕ)
    → Sound super old → ChangesOnlyEntry super old new directory place → Named super old number → is_directory (old.node number) ≡ false
    → KeepsInode super old new number

-- a directory without a name, with nothing in it but `.` and `..`, is new
abbrev pub NewDirectoryLaw : Type 0
NewDirectoryLaw =
    (super : Super) (parts : Parts) (outer : List (List ℕ)) (directory number : ℕ)
    → HasOnlyDots super parts directory number → (Named super parts number → ⊥) → length outer < depth_limit
    → IsNewDirectory super parts outer directory number

-- a new file may get its name
abbrev pub NewFileLaw : Type 0
NewFileLaw = (super : Super) (parts : Parts) (number : ℕ) → IsNewFile super parts number → MayStand super parts number

-- ---- names

-- an entry that is made adds one name
abbrev pub EnterLaw : Type 0
EnterLaw =
    (super : Super) (old new : Parts) (outer : List (List ℕ)) (directory place number : ℕ) (name : List ℕ)
    → Sound super old → MayEnter super old outer directory place name → MayStand super old number
    → Becomes super old new directory place (entry_with number name) → KeepsInode super old new number
    → TreeWith super old new (name ∷ outer) (Some number) (Some (thing super old number))

-- and so does that of a new directory
abbrev pub EnterDirectoryLaw : Type 0
EnterDirectoryLaw =
    (super : Super) (old new : Parts) (outer : List (List ℕ)) (directory place number : ℕ) (name : List ℕ)
    → Sound super old → MayEnter super old outer directory place name → DirectoryMayStand super old outer directory number
    → Becomes super old new directory place (entry_with number name) → KeepsInode super old new number
    → TreeWith super old new (name ∷ outer) (Some number) (Some Directory)

-- an entry that becomes free takes one name away
abbrev pub RemoveLaw : Type 0
RemoveLaw =
    (super : Super) (old new : Parts) (outer : List (List ℕ)) (directory place number : ℕ) (name : List ℕ)
    → Sound super old → MayRemove super old outer directory place number name
    → BecomesFree super old new directory place
    → TreeWith super old new (name ∷ outer) None None

-- an entry of another inode leads its name to that one
abbrev pub RedirectLaw : Type 0
RedirectLaw =
    (super : Super) (old new : Parts) (outer : List (List ℕ)) (directory place former number : ℕ) (name : List ℕ)
    → Sound super old → MayRemove super old outer directory place former name → MayStand super old number
    → Becomes super old new directory place (entry_with number name) → KeepsInode super old new number
    → TreeWith super old new (name ∷ outer) (Some number) (Some (thing super old number))

-- an entry with another name leads that one to where the former one led
abbrev pub RenameLaw : Type 0
RenameLaw =
    (super : Super) (old new : Parts) (outer : List (List ℕ)) (directory place number : ℕ) (former name : List ℕ)
    → Sound super old → MayRename super old outer directory place number former name
    → Becomes super old new directory place (entry_with number name)
    → TreeMoved super old new (former ∷ outer) (name ∷ outer)

-- where an entry lies that may go, its name leads to its inode, which isn't the root
abbrev pub StoodLaw : Type 0
StoodLaw =
    (super : Super) (parts : Parts) (outer : List (List ℕ)) (directory place number : ℕ) (name : List ℕ)
    → Sound super parts → MayRemove super parts outer directory place number name → place < places super.kind (parts.node directory).size
    → is_directory (parts.node directory) ≡ true
    → (reached super parts (name ∷ outer) ≡ Some number) × (number ≢ 1)

-- once it is free, the inode's links may be lowered by one
abbrev pub RemoveLowerLaw : Type 0
RemoveLowerLaw =
    (super : Super) (old new : Parts) (outer : List (List ℕ)) (directory place number : ℕ) (name : List ℕ)
    → Sound super old → MayRemove super old outer directory place number name
    → BecomesFree super old new directory place
    → HasLinkMore super old new number

-- a name replaces another by two entries
abbrev pub ReplaceLaw : Type 0
ReplaceLaw =
    (super : Super) (old mid new : Parts) (outer : List (List ℕ)) (directory to_place from_place former number : ℕ) (to from : List ℕ)
    → Sound super old → Replaces super old mid new outer directory to_place from_place former number to from
    → Replaced super old mid new outer former number to from

-- ---- the last name

-- an inode whose only name goes is left without one
abbrev pub RemoveLastLaw : Type 0
RemoveLastLaw =
    (super : Super) (old new : Parts) (outer : List (List ℕ)) (directory place number : ℕ) (name : List ℕ)
    → Sound super old → MayRemove super old outer directory place number name → IsOnlyName super old (name ∷ outer) number
    → BecomesFree super old new directory place
    → IsLeft super new number

-- and so is one whose only name is led to another
abbrev pub RedirectLastLaw : Type 0
RedirectLastLaw =
    (super : Super) (old new : Parts) (outer : List (List ℕ)) (directory place former number : ℕ) (name : List ℕ)
    → Sound super old → MayRemove super old outer directory place former name → IsOnlyName super old (name ∷ outer) former
    → MayStand super old number → number ≢ former
    → Becomes super old new directory place (entry_with number name) → KeepsInode super old new number
    → IsLeft super new former

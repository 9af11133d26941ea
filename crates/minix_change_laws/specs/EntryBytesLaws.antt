-- What the bytes of one entry of a directory do to a sound Minix volume.
use Rattle.std.specs.Prelude.{◌≡◌, ◌≢◌, ◌<◌, ℕ, ◌+◌, ◌^◌, List, ◌∷◌, length, Some, None}
use Rattle.lilo_model.specs.Bytes.{with_part}
use Rattle.lilo_model.specs.Disks.{Image, with_sector}
use Rattle.lilo_model.specs.MinixLayout.{Kind, Place, entry_size}
use Rattle.lilo_model.specs.MinixParts.{Volume, sector_of, parts_of}
use Rattle.lilo_model.specs.MinixEntries.{entry_with, entry_of}
use Rattle.lilo_model.specs.MinixNames.{Directory, thing, IsSound}
use Rattle.minix_change_laws.specs.Sees.{SeenAsIn}
use Rattle.minix_change_laws.specs.Tree.{HasTreeWith, HasTreeMoved}
use Rattle.minix_change_laws.specs.Enter.{MayStand, DirectoryMayStand, MayEnter, MayRemove, MayRename, HasLinkMore, IsOnlyName, IsLeft}
use Rattle.minix_change_laws.specs.Written.{entry_bytes, FitsEntry, place_in, IsPlaced, HasEntryBytes, EntryIsWritten}
use Rattle.minix_change_laws.specs.Replaced.{ReplacesBytes, ReplacedIn}
use Rattle.minix_change_laws.specs.Still.{StandsAsIn}
use Rattle.minix_change_laws.specs.EntrySample.{CanEnter}

-- ---- bytes

-- the bytes of an entry say its inode and its name
abbrev pub EntryBytesLaw : Type 0
EntryBytesLaw =
    (kind : Kind) (number : ℕ) (name : List ℕ)
    → number < 2 ^ 16 → FitsEntry kind name
    → (length (entry_bytes kind number name) ≡ entry_size kind) × (entry_of kind (entry_bytes kind number name) ≡ entry_with number name)

-- other bytes of one entry are a change of that entry alone
abbrev pub WrittenLaw : Type 0
WrittenLaw =
    (volume : Volume) (old image : Image) (directory place : ℕ) (bytes : List ℕ)
    → IsSound volume old → IsPlaced volume old directory place → HasEntryBytes volume old image directory place bytes
    → EntryIsWritten volume old image directory place bytes

-- an image has them after one write
abbrev pub WriteEntryLaw : Type 0
WriteEntryLaw =
    (volume : Volume) (old : Image) (directory place : ℕ) (bytes : List ℕ)
    → length bytes ≡ entry_size volume.layout.kind
    → let at : Place = place_in volume old directory place in
    HasEntryBytes
    volume
    old
    (with_sector old (record { disk = volume.span.disk; sector = volume.span.start + at.sector }) (with_part (sector_of volume old at.sector) at.at bytes))
    directory
    place
    bytes

-- ---- names in images

-- the bytes of an entry that is made add one name
abbrev pub EnterBytesLaw : Type 0
EnterBytesLaw =
    (volume : Volume) (old image : Image) (outer : List (List ℕ)) (directory place number : ℕ) (name bytes : List ℕ)
    → IsSound volume old → IsPlaced volume old directory place → HasEntryBytes volume old image directory place bytes
    → entry_of volume.layout.kind bytes ≡ entry_with number name
    → MayEnter volume.layout (parts_of volume old) outer directory place name → MayStand volume.layout (parts_of volume old) number
    → HasTreeWith volume old image (name ∷ outer) (Some number) (Some (thing volume.layout (parts_of volume old) number))

-- and so do those of the entry of a new directory
abbrev pub EnterDirectoryBytesLaw : Type 0
EnterDirectoryBytesLaw =
    (volume : Volume) (old image : Image) (outer : List (List ℕ)) (directory place number : ℕ) (name bytes : List ℕ)
    → IsSound volume old → IsPlaced volume old directory place → HasEntryBytes volume old image directory place bytes
    → entry_of volume.layout.kind bytes ≡ entry_with number name
    → MayEnter volume.layout (parts_of volume old) outer directory place name → DirectoryMayStand volume.layout (parts_of volume old) outer directory number
    → HasTreeWith volume old image (name ∷ outer) (Some number) (Some Directory)

-- those of a free entry take one name away
abbrev pub RemoveBytesLaw : Type 0
RemoveBytesLaw =
    (volume : Volume) (old image : Image) (outer : List (List ℕ)) (directory place number : ℕ) (name bytes : List ℕ)
    → IsSound volume old → IsPlaced volume old directory place → HasEntryBytes volume old image directory place bytes
    → (entry_of volume.layout.kind bytes).inode ≡ 0
    → MayRemove volume.layout (parts_of volume old) outer directory place number name
    → HasTreeWith volume old image (name ∷ outer) None None

-- those of an entry of another inode lead its name to that one
abbrev pub RedirectBytesLaw : Type 0
RedirectBytesLaw =
    (volume : Volume) (old image : Image) (outer : List (List ℕ)) (directory place former number : ℕ) (name bytes : List ℕ)
    → IsSound volume old → IsPlaced volume old directory place → HasEntryBytes volume old image directory place bytes
    → entry_of volume.layout.kind bytes ≡ entry_with number name
    → MayRemove volume.layout (parts_of volume old) outer directory place former name → MayStand volume.layout (parts_of volume old) number
    → HasTreeWith volume old image (name ∷ outer) (Some number) (Some (thing volume.layout (parts_of volume old) number))

-- those of an entry with another name lead that one to where the former one led
abbrev pub RenameBytesLaw : Type 0
RenameBytesLaw =
    (volume : Volume) (old image : Image) (outer : List (List ℕ)) (directory place number : ℕ) (former name bytes : List ℕ)
    → IsSound volume old → IsPlaced volume old directory place → HasEntryBytes volume old image directory place bytes
    → entry_of volume.layout.kind bytes ≡ entry_with number name
    → MayRename volume.layout (parts_of volume old) outer directory place number former name
    → HasTreeMoved volume old image (former ∷ outer) (name ∷ outer)

-- ---- the last name in images

-- an inode whose only name goes is left without one
abbrev pub RemoveLastBytesLaw : Type 0
RemoveLastBytesLaw =
    (volume : Volume) (old image : Image) (outer : List (List ℕ)) (directory place number : ℕ) (name bytes : List ℕ)
    → IsSound volume old → IsPlaced volume old directory place → HasEntryBytes volume old image directory place bytes
    → (entry_of volume.layout.kind bytes).inode ≡ 0
    → MayRemove volume.layout (parts_of volume old) outer directory place number name
    → IsOnlyName volume.layout (parts_of volume old) (name ∷ outer) number
    → IsLeft volume.layout (parts_of volume image) number

-- and so is one whose only name is led to another
abbrev pub RedirectLastBytesLaw : Type 0
RedirectLastBytesLaw =
    (volume : Volume) (old image : Image) (outer : List (List ℕ)) (directory place former number : ℕ) (name bytes : List ℕ)
    → IsSound volume old → IsPlaced volume old directory place → HasEntryBytes volume old image directory place bytes
    → entry_of volume.layout.kind bytes ≡ entry_with number name
    → MayRemove volume.layout (parts_of volume old) outer directory place former name
    → IsOnlyName volume.layout (parts_of volume old) (name ∷ outer) former
    → MayStand volume.layout (parts_of volume old) number → number ≢ former
    → IsLeft volume.layout (parts_of volume image) former

-- ---- links that may be taken back

-- once an entry is free, its inode's links may be lowered by one
abbrev pub RemoveLowerBytesLaw : Type 0
RemoveLowerBytesLaw =
    (volume : Volume) (old image : Image) (outer : List (List ℕ)) (directory place number : ℕ) (name bytes : List ℕ)
    → IsSound volume old → IsPlaced volume old directory place → HasEntryBytes volume old image directory place bytes
    → (entry_of volume.layout.kind bytes).inode ≡ 0
    → MayRemove volume.layout (parts_of volume old) outer directory place number name
    → HasLinkMore volume.layout (parts_of volume old) (parts_of volume image) number

-- a name replaces another by the bytes of two entries
abbrev pub ReplaceBytesLaw : Type 0
ReplaceBytesLaw =
    (volume : Volume) (old mid new : Image) (outer : List (List ℕ)) (directory to_place from_place former number : ℕ) (to from bytes free : List ℕ)
    → IsSound volume old → ReplacesBytes volume old mid new outer directory to_place from_place former number to from bytes free
    → ReplacedIn volume old mid new outer former number to from

-- ---- writes that no name sees

-- what may be done to entries may be done after them
abbrev pub StillLaw : Type 0
StillLaw = (volume : Volume) (old image : Image) → IsSound volume old → SeenAsIn volume old image → StandsAsIn volume old image

-- ---- a sample

-- there are sound volumes on which a name may be made, removed and changed
abbrev pub SampleLaw : Type 0
SampleLaw = (kind : Kind) → CanEnter kind

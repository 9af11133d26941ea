-- The file that holds the present map, and Names once what an earlier installation left is settled (this project's
-- own).
use Rattle.std.specs.Prelude.{◌≡◌, ℕ, ◌+◌, Bool, true, false, ◌⊎◌, if◌then◌else◌, List, All, is_some, Option, Some, None, Result, Ok, Err}
use Rattle.lilo_model.specs.Checks.{◌>>=◌, with_fault}
use Rattle.lilo_model.specs.Conf.{Config}
use Rattle.lilo_model.specs.Devices.{Device}
use Rattle.lilo_model.specs.Disks.{Image, Machine, Span, DiskSector}
use Rattle.lilo_model.specs.Slots.{AddressFault, place_at}
use Rattle.lilo_model.specs.BootSector.{BootSector, MapFault, NotOurs, BadVersion, BadTable, BadLine, boot_at}
use Rattle.lilo_model.specs.MinixParts.{Volume, Pointer, parts_of, is_file}
use Rattle.lilo_model.specs.MinixNames.{Thing, File, Link, Directory, Other, PointsTo, reached}
use Rattle.lilo_model.specs.MinixFind.{TreeFault, NotFile}
use Rattle.lilo_model.specs.MinixFindNames.{Names}
use Rattle.lilo_model.specs.NamePlaces.{name_path, with_tilde, plain_path, without_name, with_name, backup_path}
use Rattle.lilo_model.specs.Clear.{IsOfZone}

-- ---- the present boot sector

-- whether what a sector says as a boot sector is that it is another system's: it lacks the signature, or has another
-- version. A sector of this format that is broken isn't another system's.
abbrev pub says_foreign : Result BootSector MapFault → Bool
says_foreign (Ok boot) = false
says_foreign (Err NotOurs) = true
says_foreign (Err (BadVersion version)) = true
says_foreign (Err (BadTable entry)) = false
says_foreign (Err BadLine) = false

-- whether a boot sector is of another system
unfoldable pub is_foreign : List ℕ → Bool
is_foreign bytes = says_foreign (boot_at bytes)

-- ---- the Holder

-- a place lies in a zone of an inode, be it one of its data or one on the way to them
pub record IsInFile (volume : Volume) (image : Image) (number : ℕ) (place : DiskSector) : Type 0 where
  pub at : Pointer
  pub zone : ℕ
  pub sector : ℕ
  pub points : PointsTo volume.layout (parts_of volume image) number at zone
  pub is : place ≡ record { disk = volume.span.disk; sector = volume.span.start + sector }
  pub of : IsOfZone zone sector

-- the sector of a slot does
abbrev pub NamesInFile : Machine → Volume → Image → ℕ → Result DiskSector AddressFault → Type 0
NamesInFile machine volume image number (Ok place) = IsInFile volume image number place
NamesInFile machine volume image number (Err fault) = ⊥

-- the regular file at a path holds the three table sectors of the boot sector at a span's start. The Holder is that one
-- of `map` and `map~`, or both, or neither.
pub record Holds (image : Image) (machine : Machine) (volume : Volume) (span : Span) (path : List (List ℕ)) : Type 0 where
  pub boot : BootSector
  pub says : boot_at (image span.disk span.start) ≡ Ok boot
  pub number : ℕ
  pub leads : reached volume.layout (parts_of volume image) path ≡ Some number
  pub regular : is_file ((parts_of volume image).node number) ≡ true
  pub table : All (λ slot. NamesInFile machine volume image number (place_at machine slot 0)) boot.table

-- Held: the boot sector is of another system, or the file at `map`, whose path this is, or at `map~` holds its table
abbrev pub Held : Image → Machine → Volume → Span → List (List ℕ) → Type 0
Held image machine volume span path =
    (is_foreign (image span.disk span.start) ≡ true)
    ⊎ (Holds image machine volume span path ⊎ Holds image machine volume span (with_tilde path))

-- ---- what may be settled

-- what is at a name is a regular file, or nothing is
abbrev pub file_or_nothing : Option Thing → Result (Unit {0}) TreeFault
file_or_nothing None = Ok tt
file_or_nothing (Some (File bytes)) = Ok tt
file_or_nothing (Some (Link text)) = Err NotFile
file_or_nothing (Some Directory) = Err NotFile
file_or_nothing (Some Other) = Err NotFile

-- the path of a name, where what is there may be replaced, and with `~` too where that is asked for
unfoldable pub replaceable_name : Names → Bool → List ℕ → Result (List (List ℕ)) TreeFault
replaceable_name names both text = do
  path ← name_path names text
  a ← file_or_nothing (names (plain_path path))
  b ← if both then file_or_nothing (names (plain_path (with_tilde path))) else Ok tt
  Ok path

-- a configured path, or that of a backup, and why it is refused
pub record PathRefusal : Type 0 where
  pub path : List ℕ
  pub fault : TreeFault

-- the refusal of a path
abbrev pub refused_path : List ℕ → TreeFault → PathRefusal
refused_path path fault = record { path = path; fault = fault }

-- the names that an installation replaces
pub record OwnNames : Type 0 where
  pub map : List (List ℕ)
  -- of the backup, where one is to be made
  pub backup : Option (List (List ℕ))

-- the backup's name, where the boot sector is of another system; a forced backup is made beside the one that is there
abbrev pub backup_name : Names → Config → Device → Bool → Result (Option (List (List ℕ))) PathRefusal
backup_name names config device false = Ok None
backup_name names config device true =
    with_fault
    (refused_path (backup_path config device))
    (replaceable_name names (is_some config.force_backup) (backup_path config device))
    >>= λ path. Ok (Some path)

-- these names, by whether the boot sector is of another system, or the first that is refused
unfoldable pub own_names : Names → Config → Device → Bool → Result OwnNames PathRefusal
own_names names config device foreign = do
  map ← with_fault (refused_path config.map) (replaceable_name names true config.map)
  backup ← backup_name names config device foreign
  Ok (record { map = map; backup = backup })

-- ---- Settled

-- whether settling finishes a rename: the Holder is `map~` alone
pub record Finishes (image : Image) (machine : Machine) (volume : Volume) (span : Span) (path : List (List ℕ)) (finishes : Bool) : Type 0 where
  pub yes : finishes ≡ true → Holds image machine volume span (with_tilde path) × (Holds image machine volume span path → ⊥)
  pub no : finishes ≡ false → Holds image machine volume span (with_tilde path) → Holds image machine volume span path

-- the backup of which a stale copy, with `~`, may be there: a forced one, of another system's boot sector
abbrev pub stale_backup : Bool → Option (List (List ℕ)) → Option (List (List ℕ))
stale_backup foreign forced = if foreign then forced else None

-- Names without a stale copy
abbrev pub without_stale : Option (List (List ℕ)) → Names → Names
without_stale None names = names
without_stale (Some backup) names = without_name (with_tilde backup) names

-- Names as settling makes them: where it finishes a rename, what is at `map~` is at `map`; then `map~` is away, and so
-- is the stale copy of a backup
abbrev pub settled : Bool → List (List ℕ) → Option (List (List ℕ)) → Names → Names
settled finishes path stale names =
    without_stale stale
    (without_name (with_tilde path) (if finishes then with_name path (names (with_tilde path)) names else names))

-- Settled: Names once settling is done, by the image at the entry, the path of `map` and that of a forced backup
pub record IsSettled (image : Image) (machine : Machine) (volume : Volume) (span : Span) (path : List (List ℕ))
    (forced : Option (List (List ℕ))) (old new : Names) : Type 0 where
  pub finishes : Bool
  pub holder : Finishes image machine volume span path finishes
  pub is : (name : List (List ℕ)) → new name ≡ settled finishes path (stale_backup (is_foreign (image span.disk span.start)) forced) old name

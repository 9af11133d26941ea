-- What an installation keeps of the volume's names, in each image that a stop leaves (rules of this project's own). A path is a list of
-- components, the last one first.
use Rattle.std.specs.Prelude.{◌≡◌, ◌≢◌, ◌≤◌, ◌⊎◌, ℕ, Bool, true, false, is_some, IfSome, List, Option, None, Some}
use Rattle.lilo_model.specs.Disks.{Image, Machine}
use Rattle.lilo_model.specs.MinixFindNames.{Names}
use Rattle.lilo_model.specs.MinixNames.{Thing, File, names_in, reached, IsSound}
use Rattle.lilo_model.specs.MinixParts.{Volume, is_directory, parts_of}
use Rattle.lilo_model.specs.NamePlaces.{with_tilde}
use Rattle.lilo_model.specs.Settled as model
use Rattle.lilo_model.specs.Settled.{Held, IsSettled}
use Rattle.minix_change_laws.specs.Beside.{IsInode}
use Rattle.minix_change_laws.specs.Sees.{SameButLinks}
use Rattle.install_laws.specs.InstallVerdict.{Begun}
use Rattle.install_stage_laws.specs.Marked.{FreesAt, IsOwnedAs}
use Rattle.install_settle.specs.Settles.{IsBeside, stale_of}

-- ---- what is at a name

-- what was there in another image
abbrev pub IsAsBefore : Volume → Image → Image → List (List ℕ) → Type 0
IsAsBefore volume old c name = names_in volume c name ≡ names_in volume old name

-- a file with these bytes
abbrev pub IsFile : Volume → Image → List ℕ → List (List ℕ) → Type 0
IsFile volume c bytes name = names_in volume c name ≡ Some (File bytes)

-- nothing
abbrev pub IsAbsent : Volume → Image → List (List ℕ) → Type 0
IsAbsent volume c name = names_in volume c name ≡ None

-- what is there in Settled Names, by the image at the entry
pub record IsAsSettled (image : Image) (machine : Machine) (begun : Begun) (names : model.OwnNames) (c : Image)
    (name : List (List ℕ)) : Type 0 where
  pub after : Names
  pub settled : IsSettled image machine begun.volume begun.span names.map (stale_of (is_some begun.config.force_backup) names)
      (names_in begun.volume image) after
  pub is : names_in begun.volume c name ≡ after name

-- ---- until the map and the backup are made

-- The volume is sound where it was. Each name is as before or as in Settled, and as before but the map's two, and that of a forced backup
-- with `~`; so the backup is as before. The image is Held where it was.
pub record KeepsUnstaged (image : Image) (machine : Machine) (begun : Begun) (names : model.OwnNames) (c : Image) : Type 0 where
  pub sound : IsSound begun.volume image → IsSound begun.volume c
  pub others : (name : List (List ℕ)) → IsBeside names (is_some begun.config.force_backup) name → IsAsBefore begun.volume image c name
  pub own : (name : List (List ℕ)) → IsAsBefore begun.volume image c name ⊎ IsAsSettled image machine begun names c name
  pub backup : IfSome names.backup (IsAsBefore begun.volume image c)
  pub held : Held image machine begun.volume begun.span names.map → Held c machine begun.volume begun.span names.map

-- the map is as before, or as in Settled: so it is until it is tidied
abbrev pub HasOldMap : Image → Machine → Begun → model.OwnNames → Image → Type 0
HasOldMap image machine begun names c = IsAsBefore begun.volume image c names.map ⊎ IsAsSettled image machine begun names c names.map

-- ---- at every moment

-- a name is none that an installation changes: neither of the map's, nor the backup's, nor, where it is forced, that with `~`
pub record IsOther (names : model.OwnNames) (forced : Bool) (name : List (List ℕ)) : Type 0 where
  pub beside : IsBeside names forced name
  pub backup : IfSome names.backup (λ backup. name ≢ backup)

-- The volume is sound where it was. Each other name is as before. The map is as before, as in Settled, or the whole new one, of these
-- bytes. The backup is as before or the whole old boot sector. The image is Held where it was.
pub record Keeps (image : Image) (machine : Machine) (begun : Begun) (names : model.OwnNames) (bytes : List ℕ) (c : Image) : Type 0 where
  pub sound : IsSound begun.volume image → IsSound begun.volume c
  pub others : (name : List (List ℕ)) → IsOther names (is_some begun.config.force_backup) name → IsAsBefore begun.volume image c name
  pub map : IsAsBefore begun.volume image c names.map
      ⊎ (IsAsSettled image machine begun names c names.map ⊎ IsFile begun.volume c bytes names.map)
  pub backup : IfSome names.backup (λ backup. IsAsBefore begun.volume image c backup
      ⊎ IsFile begun.volume c (image begun.span.disk begun.span.start) backup)
  pub held : Held image machine begun.volume begun.span names.map → Held c machine begun.volume begun.span names.map

-- ---- once it is committed, and done

-- what is at a backup's name then: the boot sector, where nothing was there or the backup is forced; else what was there
abbrev pub backup_then : Bool → List ℕ → Option Thing → Option Thing
backup_then forced present None = Some (File present)
backup_then true present (Some thing) = Some (File present)
backup_then false present (Some thing) = Some thing

-- it is so of the boot sector at the entry, where this is another system's
abbrev pub HasBackup : Image → Begun → model.OwnNames → Image → Type 0
HasBackup image begun names c =
    IfSome names.backup (λ backup. names_in begun.volume c backup
    ≡ backup_then (is_some begun.config.force_backup) (image begun.span.disk begun.span.start) (names_in begun.volume image backup))

-- an inode is that of the map, or of the backup
abbrev pub IsOwnInode : Volume → model.OwnNames → Image → ℕ → Type 0
IsOwnInode volume names c number =
    (reached volume.layout (parts_of volume c) names.map ≡ Some number)
    ⊎ ((backup : List (List ℕ)) × (names.backup ≡ Some backup) × (reached volume.layout (parts_of volume c) backup ≡ Some number))

-- The bitmap bit of an inode that is set was set, or is that of the map or the backup. Each other inode whose bit is set has the mode, the
-- owner and the times that it had; and where it is no directory it is as it was, but for its links, which are no more.
pub record MarksOwn (volume : Volume) (old : Image) (names : model.OwnNames) (c : Image) : Type 0 where
  pub marks : (number : ℕ) → IsInode volume.layout number → (parts_of volume c).has_inode number ≡ true
      → ((parts_of volume old).has_inode number ≡ true) ⊎ IsOwnInode volume names c number
  pub owners : (number : ℕ) → IsInode volume.layout number → (parts_of volume c).has_inode number ≡ true
      → (IsOwnInode volume names c number → ⊥) → IsOwnedAs ((parts_of volume old).node number) ((parts_of volume c).node number)
  pub files : (number : ℕ) → IsInode volume.layout number → (parts_of volume c).has_inode number ≡ true
      → (IsOwnInode volume names c number → ⊥) → is_directory ((parts_of volume old).node number) ≡ false
      → SameButLinks ((parts_of volume old).node number) ((parts_of volume c).node number)
      × (((parts_of volume c).node number).links ≤ ((parts_of volume old).node number).links)

-- what was at the map's name once names were settled is freed with its zones, where it had no other link; and so is what was at that of a
-- forced backup
pub record FreesReplaced (volume : Volume) (settled : Image) (names : model.OwnNames) (forced : Bool) (c : Image) : Type 0 where
  pub map : FreesAt volume.layout (parts_of volume settled) names.map (parts_of volume c)
  pub backup : forced ≡ true → IfSome names.backup (λ backup. FreesAt volume.layout (parts_of volume settled) backup (parts_of volume c))

-- The map is the whole new one, of these bytes; nothing is at its name with `~`, nor at that of a forced backup; and the backup is there.
-- Beside these two no inode is marked that wasn't, or changed, and what they replaced is freed.
pub record IsInstalled (image settled : Image) (begun : Begun) (names : model.OwnNames) (bytes : List ℕ) (c : Image) : Type 0 where
  pub map : IsFile begun.volume c bytes names.map
  pub tilde : IsAbsent begun.volume c (with_tilde names.map)
  pub copy : IfSome (stale_of (is_some begun.config.force_backup) names) (λ backup. IsAbsent begun.volume c (with_tilde backup))
  pub backup : HasBackup image begun names c
  pub marks : MarksOwn begun.volume image names c
  pub frees : FreesReplaced begun.volume settled names (is_some begun.config.force_backup) c

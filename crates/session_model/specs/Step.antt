-- Step: what a command makes of an image's state, by how it was answered (this project's own). It relates the image on
-- which the command began and one that is left; of the new one it speaks of the state alone, of the old one also of what
-- the command finds there: devices, the file that holds the map, the file of the line's sector. A path is a list of
-- components, the last one first.
use Rattle.std.specs.Prelude.{◌≡◌, ◌≢◌, ◌⊎◌, ◌==◌, ℕ, Bool, true, false, if◌then◌else◌, List, [], ◌∷◌, length, is_some, IfSome, Option, None, Some, Ok}
use Rattle.std.specs.List.{list_any, concat}
use Rattle.lilo_model.specs.Boot.{whole_boot}
use Rattle.lilo_model.specs.Conf.{Config}
use Rattle.lilo_model.specs.DefaultLine.{DefaultLine, Empty}
use Rattle.lilo_model.specs.Devices.{Device}
use Rattle.lilo_model.specs.Disks.{Image, DiskSector, bytes_at}
use Rattle.lilo_model.specs.LineShots.{shot_line}
use Rattle.lilo_model.specs.Meant.{file_of, meant}
use Rattle.lilo_model.specs.MinixFindNames.{Names}
use Rattle.lilo_model.specs.MinixNames.{Thing, File, names_in, reached}
use Rattle.lilo_model.specs.MinixParts.{parts_of}
use Rattle.lilo_model.specs.NamePlaces.{name_path, with_tilde, default_backup}
use Rattle.lilo_model.specs.Plan.{plan_sectors}
use Rattle.lilo_model.specs.Planned.{devices_in, planned}
use Rattle.lilo_model.specs.Prompt.{Key}
use Rattle.lilo_model.specs.Restored.{restored_sector}
use Rattle.lilo_model.specs.Settled.{OwnNames, IsInFile, IsSettled, is_foreign, own_names}
use Rattle.ldisk_model.specs.FileVerdict.{NameChange}
use Rattle.session_model.specs.Site.{Site, IsApart, boot_place}
use Rattle.session_model.specs.State.{body_in, line_in, line_place, BodyMeans, KeepsBoot, HasNamesOf, IsSame}

-- ---- commands and answers

-- a command, as it was read at its entry
pub data Command : Type 0 where
  -- an installation by a configuration, whose boot device has this name
  Install : (config : Config) (device : Device) → Command
  -- `boot` with keys, in a memory of some bytes
  Boot : (keys : List Key) (memory : ℕ) → Command
  -- `-R` with a text
  SetLine : (text : List ℕ) → Command
  -- `-u`
  Restore : (device : Device) → Command
  -- `-t` or `-q`
  Look : Command
  -- `put`, `rm`, `mkdir` or `ln`
  Change : (change : NameChange) → Command

-- how a command ended
pub data Answer : Type 0 where
  Stopped : Answer
  Answered : (status : ℕ) → Answer

-- whether a status is among some
abbrev pub is_one_of : List ℕ → ℕ → Bool
is_one_of statuses status = list_any (λ known. known == status) statuses

-- how far a command came: all of what it makes is there, or none, or the one or the other
pub data Extent : Type 0 where
  Done : Extent
  Undone : Extent
  Either : Extent

-- by the status: those that say that it is done, and those that leave both
abbrev pub extent_by : List ℕ → List ℕ → Answer → Extent
extent_by done either Stopped = Either
extent_by done either (Answered status) = if is_one_of done status then Done else if is_one_of either status then Either else Undone

-- of the body and the line, or of the names of a file command
abbrev pub extent_of : Command → Answer → Extent
extent_of (Install config device) answer = extent_by (0 ∷ 10 ∷ 12 ∷ []) (9 ∷ []) answer
extent_of (Boot keys memory) answer = extent_by (0 ∷ 7 ∷ 10 ∷ 12 ∷ []) (9 ∷ []) answer
extent_of (SetLine text) answer = extent_by (0 ∷ 10 ∷ 12 ∷ []) (9 ∷ []) answer
extent_of (Restore device) answer = extent_by (0 ∷ 10 ∷ 12 ∷ []) (9 ∷ []) answer
extent_of Look answer = Undone
extent_of (Change change) answer = extent_by (0 ∷ 12 ∷ []) (8 ∷ []) answer

-- what came of it
abbrev pub Came : Extent → Type 0 → Type 0 → Type 0
Came Done before after = after
Came Undone before after = before
Came Either before after = before ⊎ after

-- ---- boot, -R and -u

-- a path leads to the file in which a place lies
pub record LeadsInto (site : Site) (image : Image) (place : DiskSector) (path : List (List ℕ)) : Type 0 where
  pub number : ℕ
  pub leads : reached site.volume.layout (parts_of site.volume image) path ≡ Some number
  pub lies : IsInFile site.volume image number place

-- a path leads to the file, where there is one, in which the line's sector lies
abbrev pub LeadsToLine : Site → Image → List (List ℕ) → Type 0
LeadsToLine site image path = (place : DiskSector) × (line_place site image ≡ Some place) × LeadsInto site image place path

-- a file's bytes are others, as many
pub record IsFileAgain (old new : Option Thing) : Type 0 where
  pub before : List ℕ
  pub after : List ℕ
  pub was : old ≡ Some (File before)
  pub is : new ≡ Some (File after)
  pub long : length after ≡ length before

-- Names are as before but for the bytes of that file
pub record KeepsNamesButLine (site : Site) (old new : Image) : Type 0 where
  pub others : (path : List (List ℕ)) → (LeadsToLine site old path → ⊥) → names_in site.volume new path ≡ names_in site.volume old path
  pub file : (path : List (List ℕ)) → LeadsToLine site old path
      → IsFileAgain (names_in site.volume old path) (names_in site.volume new path)

-- the line is this one, and else the state is as before
pub record HasLine (site : Site) (made : Option DefaultLine) (old new : Image) : Type 0 where
  pub body : body_in site new ≡ body_in site old
  pub line : line_in site new ≡ made
  pub names : KeepsNamesButLine site old new

-- The body is the boot sector that is restored, another system's, and there is no line. An installation backs up no other.
pub record IsRestored (site : Site) (device : Device) (old new : Image) : Type 0 where
  pub backup : List ℕ
  pub found : file_of (names_in site.volume old) (default_backup device) ≡ Some backup
  pub long : length backup ≡ 512
  pub foreign : is_foreign backup ≡ true
  pub body : body_in site new
      ≡ (record { place = boot_place site; bytes = restored_sector backup (bytes_at old (boot_place site)) } ∷ [])
  pub line : line_in site new ≡ None
  pub names : HasNamesOf site old new

-- ---- what an installation commits

-- these are the names that an installation replaces, by the image at its entry
abbrev pub AreOwn : Site → Config → Device → Image → OwnNames → Type 0
AreOwn site config device old own =
    own_names (names_in site.volume old) config device (is_foreign (bytes_at old (boot_place site))) ≡ Ok own

-- the backup of which a stale copy, with `~`, may be there: a forced one
abbrev pub forced_backup : Config → OwnNames → Option (List (List ℕ))
forced_backup config own = if is_some config.force_backup then own.backup else None

-- Names as settling makes them, by the image at the entry
abbrev pub AreSettled : Site → Config → OwnNames → Image → Names → Type 0
AreSettled site config own old names =
    IsSettled old site.machine site.volume site.boot own.map (forced_backup config own) (names_in site.volume old) names

-- settling left an image: its Names are settled, and all but the volume past its block 0 is as it was at the entry
pub record SettlingLeaves (site : Site) (config : Config) (own : OwnNames) (old settled : Image) : Type 0 where
  pub names : AreSettled site config own old (names_in site.volume settled)
  pub outside : (d s : ℕ) → IsApart site d s → settled d s ≡ old d s

-- the body boots as the configuration and its files mean, with each default line, by an image that settling left; the
-- line is empty
pub record IsCommitted (site : Site) (config : Config) (device : Device) (old new : Image) : Type 0 where
  pub own : OwnNames
  pub are : AreOwn site config device old own
  pub settled : Image
  pub leaves : SettlingLeaves site config own old settled
  pub boots : BodyMeans site (body_in site new) (meant config (names_in site.volume settled) (devices_in settled site.machine))
  pub line : line_in site new ≡ Some Empty

-- what is at a backup's name then: the boot sector, where nothing was there or the backup is forced; else what was there
abbrev pub backup_then : Bool → List ℕ → Option Thing → Option Thing
backup_then forced present None = Some (File present)
backup_then true present (Some thing) = Some (File present)
backup_then false present (Some thing) = Some thing

abbrev pub HasBackup : Site → Config → OwnNames → Image → Image → Type 0
HasBackup site config own old new =
    IfSome own.backup (λ backup. names_in site.volume new backup
    ≡ backup_then (is_some config.force_backup) (bytes_at old (boot_place site)) (names_in site.volume old backup))

-- it is committed, and the backup is there
pub record IsInstalled (site : Site) (config : Config) (device : Device) (old new : Image) : Type 0 where
  pub committed : IsCommitted site config device old new
  pub backup : HasBackup site config committed.own old new

-- ---- the names of an installation

abbrev pub IsAsBefore : Site → Image → Image → List (List ℕ) → Type 0
IsAsBefore site old new path = names_in site.volume new path ≡ names_in site.volume old path

-- what is at a path is as in Settled
pub record IsAsSettled (site : Site) (config : Config) (own : OwnNames) (old new : Image) (path : List (List ℕ)) : Type 0 where
  pub after : Names
  pub settled : AreSettled site config own old after
  pub is : names_in site.volume new path ≡ after path

-- the bytes of a new map, whole: of what is planned at some time on an image that settling left, where its sectors lie at
-- some places
pub record IsNewMap (site : Site) (config : Config) (own : OwnNames) (old : Image) (bytes : List ℕ) : Type 0 where
  pub settled : Image
  pub leaves : SettlingLeaves site config own old settled
  pub time : ℕ
  pub places : List DiskSector
  pub is : bytes ≡ concat (plan_sectors (planned settled site.machine site.volume config time) site.machine places)

-- the map is such a one
pub record HasNewMap (site : Site) (config : Config) (own : OwnNames) (old new : Image) : Type 0 where
  pub bytes : List ℕ
  pub whole : IsNewMap site config own old bytes
  pub is : names_in site.volume new own.map ≡ Some (File bytes)

-- a path is none that an installation changes: neither of the map's two, nor the backup, nor, where it is forced, that
-- with `~`
pub record IsOther (config : Config) (own : OwnNames) (path : List (List ℕ)) : Type 0 where
  pub map : path ≢ own.map
  pub tilde : path ≢ with_tilde own.map
  pub copy : IfSome (forced_backup config own) (λ backup. path ≢ with_tilde backup)
  pub backup : IfSome own.backup (λ backup. path ≢ backup)

-- Names at any moment, of these that it replaces: the others are as before; the map is as before, as in Settled or a
-- whole new one; and the backup is as before or the whole old boot sector
pub record KeepsOthers (site : Site) (config : Config) (own : OwnNames) (old new : Image) : Type 0 where
  pub others : (path : List (List ℕ)) → IsOther config own path → IsAsBefore site old new path
  pub map : IsAsBefore site old new own.map
      ⊎ (IsAsSettled site config own old new own.map ⊎ HasNewMap site config own old new)
  pub backup : IfSome own.backup (λ backup. IsAsBefore site old new backup
      ⊎ (names_in site.volume new backup ≡ Some (File (bytes_at old (boot_place site)))))

pub record NamesBetween (site : Site) (config : Config) (device : Device) (old new : Image) : Type 0 where
  pub own : OwnNames
  pub are : AreOwn site config device old own
  pub keeps : KeepsOthers site config own old new

-- before the commit the map is no new one
pub record NamesStaged (site : Site) (config : Config) (device : Device) (old new : Image) : Type 0 where
  pub between : NamesBetween site config device old new
  pub map : IsAsBefore site old new between.own.map ⊎ IsAsSettled site config between.own old new between.own.map

-- Once all is done the map is the whole new one, the backup is there, and nothing is at the map's name with `~`, nor at
-- that of a forced backup.
pub record NamesDone (site : Site) (config : Config) (device : Device) (old new : Image) : Type 0 where
  pub between : NamesBetween site config device old new
  pub map : HasNewMap site config between.own old new
  pub tilde : names_in site.volume new (with_tilde between.own.map) ≡ None
  pub copy : IfSome (forced_backup config between.own) (λ backup. names_in site.volume new (with_tilde backup) ≡ None)
  pub backup : HasBackup site config between.own old new

-- all are settled
pub record NamesSettled (site : Site) (config : Config) (device : Device) (old new : Image) : Type 0 where
  pub own : OwnNames
  pub are : AreOwn site config device old own
  pub settled : AreSettled site config own old (names_in site.volume new)

-- how far an installation came with its names
pub data NamesExtent : Type 0 where
  -- it is done
  AllDone : NamesExtent
  -- as at any moment, from which names it replaces is known
  Committing : NamesExtent
  -- as at a moment before the commit
  Staging : NamesExtent
  -- as at any moment
  AnyMoment : NamesExtent
  -- it was refused
  Refused : NamesExtent

abbrev pub names_extent : Answer → NamesExtent
names_extent Stopped = AnyMoment
names_extent (Answered status) =
    if is_one_of (0 ∷ 12 ∷ []) status then AllDone else
    if is_one_of (9 ∷ 10 ∷ []) status then Committing else
    if status == 8 then Staging else Refused

-- its names then; without a commit all may be as before
abbrev pub NamesBy : NamesExtent → Site → Config → Device → Image → Image → Type 0
NamesBy AllDone site config device old new = NamesDone site config device old new
NamesBy Committing site config device old new = NamesBetween site config device old new
NamesBy Staging site config device old new = HasNamesOf site old new ⊎ NamesStaged site config device old new
NamesBy AnyMoment site config device old new = HasNamesOf site old new ⊎ NamesBetween site config device old new
NamesBy Refused site config device old new = HasNamesOf site old new ⊎ NamesSettled site config device old new

-- ---- file commands

-- what the path of a text leads to is what the command makes there, and all else is as before
pub record IsChanged (site : Site) (change : NameChange) (old new : Image) : Type 0 where
  pub boots : KeepsBoot site old new
  pub path : List (List ℕ)
  pub at : name_path (names_in site.volume old) change.path ≡ Ok path
  pub here : names_in site.volume new path ≡ change.what
  pub others : (other : List (List ℕ)) → other ≢ path → IsAsBefore site old new other

-- ---- Step

-- a command on an image was answered so, and left another one
abbrev pub Step : Site → Command → Answer → Image → Image → Type 0
Step site (Install config device) answer old new =
    Came (extent_of (Install config device) answer) (KeepsBoot site old new) (IsInstalled site config device old new)
    × NamesBy (names_extent answer) site config device old new
Step site (Boot keys memory) answer old new =
    Came (extent_of (Boot keys memory) answer) (IsSame site old new)
    (HasLine site (whole_boot old site.machine site.boot keys memory).line old new)
Step site (SetLine text) answer old new =
    Came (extent_of (SetLine text) answer) (IsSame site old new) (HasLine site (Some (shot_line text)) old new)
Step site (Restore device) answer old new =
    Came (extent_of (Restore device) answer) (IsSame site old new) (IsRestored site device old new)
Step site Look answer old new = IsSame site old new
Step site (Change change) answer old new =
    Came (extent_of (Change change) answer) (IsSame site old new) (IsChanged site change old new)

-- What an installation keeps of the volume and its names, by its exit status (install_join_laws' definitions).
use Rattle.std.specs.Prelude.{◌≡◌, ◌⊎◌, ◌≢◌, ℕ, List, Option}
use Rattle.std.specs.List.{concat}
use Rattle.disk_trait.specs.Past.{Past}
use Rattle.disk_trait.specs.Moments.{now, MayLeave, LeavesOnly}
use Rattle.disk_trait.specs.NotWritten.{IsOther, NotWritten}
use Rattle.lilo_model.specs.Disks.{Image, Machine, DiskSector, Span}
use Rattle.lilo_model.specs.MinixParts.{Volume}
use Rattle.lilo_model.specs.MinixNames.{names_in}
use Rattle.lilo_model.specs.Plan.{plan_sectors}
use Rattle.lilo_model.specs.Planned.{planned}
use Rattle.lilo_model.specs.Settled as model
use Rattle.install_join_laws.specs.ApartLaws.{KeepsDevices}
use Rattle.install_join_laws.specs.Plans.{AllPassBy}
use Rattle.install_laws.specs.InstallVerdict.{Begun}
use Rattle.install_laws.specs.Writes.{IsApartSector}
use Rattle.install_order.specs.Begins.{AreOwn}
use Rattle.install_join_laws.specs.Kept.{HasBackup, HasOldMap, IsInstalled, Keeps, KeepsUnstaged}

-- ---- what the verdict by the entry rests on

-- Once names are settled the devices of the configuration lie where they lay: so it is where settling changes no sector of a table that
-- one of them is found by.
abbrev pub DevicesStay : Image → Image → Machine → Begun → Type 0
DevicesStay image settled machine begun = KeepsDevices image settled machine begun.config begun.boot

-- Where a device lies is read outside the volume, but for its block 0: in each image that is the same there, the devices lie where they
-- lie in this one.
abbrev pub DevicesLieOutside : Image → Machine → Begun → Type 0
DevicesLieOutside image machine begun =
    (c : Image) → ((d s : ℕ) → IsApartSector begun.volume d s → c d s ≡ image d s) → KeepsDevices image c machine begun.config begun.boot

-- Nothing that is read rests on what settling changes: neither where the devices lie, nor which paths of the configuration can't be followed,
-- as none of them leads to a name that is replaced, or goes on after it.
pub record IsSteady (image settled : Image) (machine : Machine) (begun : Begun) : Type 0 where
  pub devices : DevicesStay image settled machine begun
  pub paths : (names : model.OwnNames) → AreOwn image begun names → AllPassBy (names_in begun.volume image) names begun.config

-- ---- the exit status

-- it is done, by the status; or nothing of its commit is
abbrev pub IsDone : ℕ → Type 0
IsDone status = (status ≡ 0) ⊎ (status ≡ 10)

pub record IsBefore (status : ℕ) : Type 0 where
  pub not_done : IsDone status → ⊥
  pub not_committing : status ≢ 9

-- ---- what lies outside of the volume

-- no sector outside of a volume is written, nor one of its block 0
abbrev pub WritesNoApart : Volume → Option Past → Option Past → Type 0
WritesNoApart volume entry ended = (d s : ℕ) → IsApartSector volume d s → NotWritten entry ended d s

-- Of those only the first sector of the boot device is, by the commit; and before it none is.
pub record WritesInside (volume : Volume) (span : Span) (entry ended : Option Past) (status : ℕ) : Type 0 where
  pub before : IsBefore status → WritesNoApart volume entry ended
  pub others : (d s : ℕ) → IsApartSector volume d s → IsOther span.disk span.start d s → NotWritten entry ended d s

-- ---- what is kept

-- at any moment a stop leaves what keeps all names but those that settling changes, and these as before or as in Settled
abbrev pub KeepsMost : Machine → Begun → model.OwnNames → Option Past → Option Past → Type 0
KeepsMost machine begun names entry ended = LeavesOnly entry ended (KeepsUnstaged (now entry) machine begun names)

-- or the others, and the map and the backup as they were or whole, the map with these bytes
abbrev pub KeepsWith : Machine → Begun → model.OwnNames → List ℕ → Option Past → Option Past → Type 0
KeepsWith machine begun names map entry ended = LeavesOnly entry ended (Keeps (now entry) machine begun names map)

-- or it has the old map at its name
abbrev pub KeepsOldMap : Machine → Begun → model.OwnNames → Option Past → Option Past → Type 0
KeepsOldMap machine begun names entry ended = LeavesOnly entry ended (HasOldMap (now entry) machine begun names)

-- the new map is there alone, with these bytes, and the backup, in each image that a stop leaves at the end; beside these no inode is
-- marked that wasn't, or changed, and what they replaced is freed
abbrev pub HasInstalled : Begun → Image → model.OwnNames → List ℕ → Option Past → Option Past → Type 0
HasInstalled begun settled names map entry ended = (c : Image) → MayLeave ended c → IsInstalled (now entry) settled begun names map c

-- the bytes of the new map, whole: the sectors of what is planned on the settled image, where they lie at these places
abbrev pub new_map : Machine → Begun → Image → ℕ → List DiskSector → List ℕ
new_map machine begun settled time places = concat (plan_sectors (planned settled machine begun.volume begun.config time) machine places)

-- By the status: sound and Held where it was, with the others as before, and the map and the backup as before, or whole; as before but for
-- settling where it was refused and no disk failed; once it is done the backup, and after 0 the map too. The map is the one that is planned.
pub record KeepsNames
    (machine : Machine) (begun : Begun) (settled : Image) (time : ℕ) (names : model.OwnNames) (entry ended : Option Past) (status : ℕ) : Type 0 where
  pub places : List DiskSector
  pub before : IsBefore status
      → KeepsMost machine begun names entry ended ⊎ KeepsWith machine begun names (new_map machine begun settled time places) entry ended
  pub unstaged : IsBefore status → status ≢ 8 → KeepsMost machine begun names entry ended
  pub map : IsBefore status ⊎ (status ≡ 9) → KeepsOldMap machine begun names entry ended
  pub later : (status ≡ 9) ⊎ IsDone status → KeepsWith machine begun names (new_map machine begun settled time places) entry ended
  pub backup : IsDone status → (c : Image) → MayLeave ended c → HasBackup (now entry) begun names c
  pub installed : status ≡ 0 → HasInstalled begun settled names (new_map machine begun settled time places) entry ended

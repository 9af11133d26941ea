-- The name of what is filled is made: where it is a directory the links of the one above are raised first (a rule of this
-- project's own). A path is a list of components, the last one first.
use Rattle.std.specs.Prelude.{◌≡◌, ◌≢◌, ◌+◌, ◌*◌, ◌/◌, ◌%◌, ◌==◌, ◌⊎◌, ℕ, true, nat_lt, if◌then◌else◌, List, ◌∷◌, Some, None, Result, OnOk, IfErr}
use Rattle.disk_trait.specs.declared.disks.Disks.{Ghosts}
use Rattle.disk_trait.specs.Past.{Image}
use Rattle.disk_trait.specs.Moments.{IsTold, now, LeavesOnly}
use Rattle.disk_trait.specs.NotWritten.{IsOther, NotWritten}
use Rattle.lilo_model.specs.Faults.{Rose}
use Rattle.lilo_model.specs.MinixEntries.{entries_per_block}
use Rattle.lilo_model.specs.MinixLayout.{Kind, Super, entry_size, most_links, zone_sector}
use Rattle.lilo_model.specs.MinixNames.{reached, thing, Named, PointsTo, IsSound}
use Rattle.lilo_model.specs.MinixParts as model
use Rattle.lilo_model.specs.MinixParts.{Parts, Pointer, is_directory}
use Rattle.minix_choice_laws.specs.Choice.{HasNamePlace}
use Rattle.minix_change_laws.specs.Enter.{MayStand, DirectoryMayStand}
use Rattle.minix_change_laws.specs.Beside.{IsInode, IsDataZone}
use Rattle.minix_change_laws.specs.Only.{zone_of_entry, KeepsInode}
use Rattle.minix_grow.specs.Hook.{IsOffInode}
use Rattle.minix_change_laws.specs.Changes.{ChangesNode}
use Rattle.minix_layout.specs.View.{kind_view, super_view}
use Rattle.minix_create.specs.Made.{KeepsPlaces}
use Rattle.minix_change_laws.specs.Sees.{with_links, SameButLinks}
use Rattle.minix_steps.specs.Written.{parts_now}
use Rattle.minix_turns.specs.Joined.{Unseen, LeadsPath}
use Rattle.minix_choice.specs.declared.write_fault.WriteFault.{WriteFault}
use Rattle.minix_choice.specs.declared.write_fault.WriteFault.TheVariants.{Device}
use Rattle.minix_zones.specs.Volume.{volume_view, past_of, faults_of}
use Rattle.minix_zones.specs.declared.volume.Volume.{Volume}
use Rattle.minix_create.specs.Brought.{KeepsFiles}
use Rattle.minix_create.specs.Chosen.{new_inode}
use Rattle.minix_create.specs.declared.chosen.Chosen.{Chosen}

-- an inode may get a name in the directory that a path leads to: it is that of a file, or of a new directory
abbrev pub MayBeNamed : Super → Parts → List (List ℕ) → ℕ → ℕ → Type 0
MayBeNamed super parts outer directory number = MayStand super parts number ⊎ DirectoryMayStand super parts outer directory number

-- no bitmap bit is another, and no inode but one, of which the links alone may be others
pub record SameTables (super : Super) (old new : Parts) (directory : ℕ) : Type 0 where
  pub inodes : (number : ℕ) → IsInode super number → new.has_inode number ≡ old.has_inode number
  pub zones : (zone : ℕ) → IsDataZone super zone → new.has_zone zone ≡ old.has_zone zone
  pub nodes : (number : ℕ) → IsInode super number → number ≢ directory → new.node number ≡ old.node number
  pub own : SameButLinks (old.node directory) (new.node directory)

-- ---- links

-- one more, unless they are the most that an inode of a kind can have
abbrev pub raised_links : Kind → ℕ → ℕ
raised_links kind links = if nat_lt links (most_links kind) then links + 1 else links

-- the volume is sound now, and a directory has a name
pub record IsDirectoryNow {D : Type 0} {disks : Ghosts D} (volume : Volume D disks) (directory : ℕ) : Type 0 where
  pub sound : IsSound (volume_view volume) (now (past_of volume))
  pub named : Named (super_view volume.layout) (parts_now volume) directory
  pub is : is_directory ((parts_now volume).node directory) ≡ true

-- in an image of a volume a directory has the links that it has now, or one more
abbrev pub HasLinksOrRaised : {D : Type 0} {disks : Ghosts D} → Volume D disks → ℕ → Image → Type 0
HasLinksOrRaised volume directory c =
    (((model.parts_of (volume_view volume) c).node directory).links ≡ ((parts_now volume).node directory).links)
    ⊎ (((model.parts_of (volume_view volume) c).node directory).links ≡ raised_links (kind_view volume.layout.kind) ((parts_now volume).node directory).links)

-- A call raised the links of a directory, and nothing else. No name sees it at any moment.
pub record RaisesLinks {D E : Type 0} {disks : Ghosts D} (old new : Volume D disks) (directory : ℕ) (error : E) (result : Result (Unit {0}) E) : Type 0 where
  pub unseen : Unseen old new
  pub any_moment : LeavesOnly (past_of old) (past_of new) (HasLinksOrRaised old directory)
  pub raised : IsTold (past_of old) → OnOk result (ChangesNode (super_view old.layout) (parts_now old)
      (model.parts_of (volume_view old) (now (past_of new))) directory
      (with_links ((parts_now old).node directory) (raised_links (kind_view old.layout.kind) ((parts_now old).node directory).links)))
  pub others : IsTold (past_of old) → (d s : ℕ) → IsOffInode old directory d s → NotWritten (past_of old) (past_of new) d s
  pub device : IsTold (past_of old) → IfErr result (λ fault. (fault ≡ error) × Rose (faults_of old) (faults_of new))

-- what links a directory has once a name was made in it: one more where that of a directory was
abbrev pub links_above : Kind → Chosen → ℕ → ℕ
links_above kind chosen links = if chosen.mode / 4096 == 4 then raised_links kind links else links

-- in an image of a volume the directory above has the links that it has now, or those once the name is made
abbrev pub HasLinksOrAbove : {D : Type 0} {disks : Ghosts D} → Volume D disks → Chosen → Image → Type 0
HasLinksOrAbove volume chosen c =
    (((model.parts_of (volume_view volume) c).node chosen.directory).links ≡ ((parts_now volume).node chosen.directory).links)
    ⊎ (((model.parts_of (volume_view volume) c).node chosen.directory).links
    ≡ links_above (kind_view volume.layout.kind) chosen ((parts_now volume).node chosen.directory).links)

-- A call made the links of the directory above those once the name is made, and what has no name yet is as before, and each inode
-- and bit. No name sees it at any moment.
pub record Readies {D : Type 0} {disks : Ghosts D} (old new : Volume D disks) (chosen : Chosen) (result : Result (Unit {0}) WriteFault) : Type 0 where
  pub unseen : Unseen old new
  pub any_moment : LeavesOnly (past_of old) (past_of new) (HasLinksOrAbove old chosen)
  pub links : IsTold (past_of old) → OnOk result (((model.parts_of (volume_view old) (now (past_of new))).node chosen.directory).links
      ≡ links_above (kind_view old.layout.kind) chosen ((parts_now old).node chosen.directory).links)
  pub keeps : IsTold (past_of old) → OnOk result (KeepsFiles (super_view old.layout) (parts_now old)
      (model.parts_of (volume_view old) (now (past_of new))) chosen.directory)
  pub tables : IsTold (past_of old) → OnOk result (SameTables (super_view old.layout) (parts_now old)
      (model.parts_of (volume_view old) (now (past_of new))) chosen.directory)
  pub others : IsTold (past_of old) → (d s : ℕ) → (is_directory (new_inode chosen) ≡ true → IsOffInode old chosen.directory d s)
      → NotWritten (past_of old) (past_of new) d s
  pub device : IsTold (past_of old) → IfErr result (λ fault. (fault ≡ Device) × Rose (faults_of old) (faults_of new))

-- ---- the name

-- what is filled may get its name now, at its place in the directory that a path leads to, which lies in a zone
pub record MayEnterNow {D : Type 0} {disks : Ghosts D} (volume : Volume D disks) (outer : List (List ℕ)) (chosen : Chosen) (zone : ℕ) : Type 0 where
  pub sound : IsSound (volume_view volume) (now (past_of volume))
  pub lies : zone_of_entry (super_view volume.layout) (parts_now volume) chosen.directory chosen.choice.place ≡ zone
  pub place : HasNamePlace (volume_view volume) (now (past_of volume)) outer chosen.directory chosen.choice.place chosen.name
  pub mode : ((parts_now volume).node chosen.choice.inode).mode ≡ chosen.mode
  pub named : MayBeNamed (super_view volume.layout) (parts_now volume) outer chosen.directory chosen.choice.inode

-- a sector of a disk isn't the one with an entry at a place, which lies in a zone, nor that with the inode of the directory
-- where a directory is named there
pub record IsOffEntered {D : Type 0} {disks : Ghosts D} (volume : Volume D disks) (chosen : Chosen) (zone d s : ℕ) : Type 0 where
  pub entry : IsOther volume.span.disk (volume.span.start
      + (zone_sector zone + entry_size (kind_view volume.layout.kind) * (chosen.choice.place % entries_per_block (kind_view volume.layout.kind)) / 512)) d s
  pub above : is_directory (new_inode chosen) ≡ true → IsOffInode volume chosen.directory d s

-- in an image the links of the directory above are as they are once the name is made, or as before, and then it isn't made
abbrev pub IsRaisedFirst : {D : Type 0} {disks : Ghosts D} → Volume D disks → List (List ℕ) → Chosen → Image → Type 0
IsRaisedFirst volume outer chosen c =
    (((model.parts_of (volume_view volume) c).node chosen.directory).links
    ≡ links_above (kind_view volume.layout.kind) chosen ((parts_now volume).node chosen.directory).links)
    ⊎ ((((model.parts_of (volume_view volume) c).node chosen.directory).links ≡ ((parts_now volume).node chosen.directory).links)
    × (reached (super_view volume.layout) (model.parts_of (volume_view volume) c) (chosen.name ∷ outer) ≡ None))

-- one entry of a directory changed, which lies in a zone; else directories have the places that they had, that one has the zones
-- that it had, and nothing that has a name has a pointer more
pub record KeepsDirectories (super : Super) (old new : Parts) (chosen : Chosen) : Type 0 where
  pub lies : zone_of_entry super new chosen.directory chosen.choice.place ≢ 0
  pub keeps : KeepsPlaces super old new chosen.directory chosen.choice.place
  pub stays : (at : Pointer) (zone : ℕ) → PointsTo super old chosen.directory at zone → PointsTo super new chosen.directory at zone
  pub points : (number : ℕ) (at : Pointer) (zone : ℕ) → Named super old number → PointsTo super new number at zone → PointsTo super old number at zone

-- A call made the name whole or not at all, and raised the links of the directory above before that where it is that of a
-- directory. Once it is done what is named stays with its zones, and so do each bitmap bit, each inode but for those links, and all
-- other places of directories. No other sector was written, and it was refused where the disk failed.
pub record Enters {D : Type 0} {disks : Ghosts D} (old new : Volume D disks) (outer : List (List ℕ)) (chosen : Chosen) (zone : ℕ)
    (result : Result (Unit {0}) WriteFault) : Type 0 where
  pub leads : LeadsPath old new (chosen.name ∷ outer) (Some chosen.choice.inode)
      (Some (thing (super_view old.layout) (parts_now old) chosen.choice.inode)) result
  pub links : LeavesOnly (past_of old) (past_of new) (IsRaisedFirst old outer chosen)
  pub above : IsTold (past_of old) → OnOk result (((model.parts_of (volume_view old) (now (past_of new))).node chosen.directory).links
      ≡ links_above (kind_view old.layout.kind) chosen ((parts_now old).node chosen.directory).links)
  pub tables : IsTold (past_of old) → OnOk result (SameTables (super_view old.layout) (parts_now old)
      (model.parts_of (volume_view old) (now (past_of new))) chosen.directory)
  pub stays : IsTold (past_of old) → OnOk result (KeepsInode (super_view old.layout) (parts_now old)
      (model.parts_of (volume_view old) (now (past_of new))) chosen.choice.inode)
  pub directories : IsTold (past_of old) → OnOk result (KeepsDirectories (super_view old.layout) (parts_now old)
      (model.parts_of (volume_view old) (now (past_of new))) chosen)
  pub others : IsTold (past_of old) → (d s : ℕ) → IsOffEntered old chosen zone d s → NotWritten (past_of old) (past_of new) d s
  pub device : IsTold (past_of old) → IfErr result (λ fault. (fault ≡ Device) × Rose (faults_of old) (faults_of new))

-- so it is of what may get its name
abbrev pub EntersFilled : {D : Type 0} {disks : Ghosts D} → Volume D disks → Volume D disks → Chosen → ℕ → Result (Unit {0}) WriteFault → Type 0
EntersFilled old new chosen zone result =
    (outer : List (List ℕ)) → (IsTold (past_of old) → MayEnterNow old outer chosen zone) → Enters old new outer chosen zone result

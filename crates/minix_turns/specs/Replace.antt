-- One name in the place of another in the same directory, by two turns of entries: in between both lead to the one inode.
use Rattle.std.specs.Prelude.{◌≢◌, ◌≤◌, ◌<◌, ◌+◌, ◌*◌, ◌/◌, ◌⊎◌, ℕ, List, ◌∷◌, Some, Result, OnOk}
use Rattle.disk_trait.specs.declared.disks.Disks.{Ghosts}
use Rattle.disk_trait.specs.Calls.{GoesOn}
use Rattle.disk_trait.specs.Moments.{IsTold, now, LeavesOnly}
use Rattle.disk_trait.specs.NotWritten.{IsOther, NotWritten}
use Rattle.disk_trait.specs.Past.{Image}
use Rattle.lilo_model.specs.MinixEntries.{entries_per_block}
use Rattle.lilo_model.specs.MinixLayout.{entry_size, zone_sector}
use Rattle.lilo_model.specs.MinixNames.{thing}
use Rattle.lilo_model.specs.MinixParts as model
use Rattle.minix_change_laws.specs.Replaced.{ReplacedIn}
use Rattle.minix_change_laws.specs.Written.{FitsEntry, entry_bytes}
use Rattle.minix_change_laws.specs.Enter.{MayStand, MayRemove}
use Rattle.minix_layout.specs.View.{kind_view, super_view}
use Rattle.minix_layout.specs.declared.superblock.Super.{Super}
use Rattle.minix_change_laws.specs.Sees.{SeenAsIn}
use Rattle.minix_change_laws.specs.Tree.{HasTreeWith}
use Rattle.minix_steps.specs.Written.{parts_now}
use Rattle.minix_turns.specs.Names.{IsEntryAt}
use Rattle.minix_turns.specs.Part.{HasEntryPart}
use Rattle.minix_turns.specs.declared.replace.EntryPlace.{EntryPlace}
use Rattle.minix_change_laws.specs.Part.{HasZonePart, free_bytes}
use Rattle.minix_zones.specs.Volume.{volume_view, past_of, KeepsVolume}
use Rattle.minix_zones.specs.declared.volume.Volume.{Volume}

-- an entry of a data zone
pub record IsEntryPlace (layout : Super) (place : EntryPlace) : Type 0 where
  pub from : layout.first ≤ place.zone
  pub below : place.zone < layout.zones
  pub there : place.index < entries_per_block (kind_view layout.kind)

-- the names are those of two inodes in one directory, neither of them a directory, and the one that stays has a link more
-- than names
pub record MayReplaceAt {D : Type 0} {disks : Ghosts D} (volume : Volume D disks) (outer : List (List ℕ))
    (directory to_place from_place former number : ℕ) (to from : EntryPlace) (name gone : List ℕ) : Type 0 where
  pub to_lies : IsEntryAt volume directory to_place to.zone to.index
  pub from_lies : IsEntryAt volume directory from_place from.zone from.index
  pub fits : FitsEntry (kind_view volume.layout.kind) name
  pub goes : MayRemove (super_view volume.layout) (parts_now volume) outer directory to_place former name
  pub moves : MayRemove (super_view volume.layout) (parts_now volume) outer directory from_place number gone
  pub names : gone ≢ name
  pub inodes : number ≢ former
  pub stands : MayStand (super_view volume.layout) (parts_now volume) number

-- in an image both names lead to the one inode, and then one does
abbrev pub IsReplaced : model.Volume → Image → List (List ℕ) → ℕ → ℕ → List ℕ → List ℕ → Image → Type 0
IsReplaced volume old outer former number name gone c = (mid : Image) × ReplacedIn volume old mid c outer former number name gone

-- an image is seen as before, or both names lead to the one inode, or one does
abbrev pub IsReplacing : model.Volume → Image → List (List ℕ) → ℕ → ℕ → List ℕ → List ℕ → Image → Type 0
IsReplacing volume old outer former number name gone c =
    SeenAsIn volume old c
    ⊎ (HasTreeWith volume old c (name ∷ outer) (Some number) (Some (thing volume.layout (model.parts_of volume old) number))
    ⊎ IsReplaced volume old outer former number name gone c)

-- A call puts one name in the place of another: what it leaves at any moment of it and after it, and once it is done.
pub record Replaces {D E : Type 0} {disks : Ghosts D} (old new : Volume D disks) (outer : List (List ℕ)) (former number : ℕ) (name gone : List ℕ)
    (result : Result (Unit {0}) E) : Type 0 where
  pub any_moment : LeavesOnly (past_of old) (past_of new) (IsReplacing (volume_view old) (now (past_of old)) outer former number name gone)
  pub held : IsTold (past_of old) → IsReplacing (volume_view old) (now (past_of old)) outer former number name gone (now (past_of new))
  pub done : IsTold (past_of old) → OnOk result (IsReplaced (volume_view old) (now (past_of old)) outer former number name gone (now (past_of new)))
  -- what stays
  pub goes_on : GoesOn disks old.disks.now new.disks.now
  pub kept : KeepsVolume old new

abbrev pub ReplacesName : {D E : Type 0} {disks : Ghosts D} → Volume D disks → Volume D disks → EntryPlace → EntryPlace → ℕ → List ℕ
    → Result (Unit {0}) E → Type 0
ReplacesName old new to from number name result =
    (outer : List (List ℕ)) (directory to_place from_place former : ℕ) (gone : List ℕ)
    → (IsTold (past_of old) → MayReplaceAt old outer directory to_place from_place former number to from name gone)
    → Replaces old new outer former number name gone result

-- ---- what the two entries say

-- one entry has an inode and a name in an image, and then the other is free: all other bytes are as they are now
pub record HasBothEntries {D : Type 0} {disks : Ghosts D} (volume : Volume D disks) (image : Image) (to from : EntryPlace) (number : ℕ)
    (name : List ℕ) : Type 0 where
  pub mid : Image
  pub led : HasEntryPart volume mid to.zone to.index (entry_bytes (kind_view volume.layout.kind) number name)
  pub freed : HasZonePart (volume_view volume) mid image from.zone (entry_size (kind_view volume.layout.kind) * from.index)
      (free_bytes (kind_view volume.layout.kind))

-- ---- what isn't written

-- a sector of a disk isn't the one with an entry
abbrev pub IsOffEntry : {D : Type 0} {disks : Ghosts D} → Volume D disks → EntryPlace → ℕ → ℕ → Type 0
IsOffEntry volume place d s =
    IsOther volume.span.disk (volume.span.start + (zone_sector place.zone + entry_size (kind_view volume.layout.kind) * place.index / 512)) d s

-- a call wrote nothing but the sectors with two entries
abbrev pub WritesEntriesAlone : {D : Type 0} {disks : Ghosts D} → Volume D disks → Volume D disks → EntryPlace → EntryPlace → Type 0
WritesEntriesAlone old new to from =
    (d s : ℕ) → IsOffEntry old to d s → IsOffEntry old from d s → NotWritten (past_of old) (past_of new) d s

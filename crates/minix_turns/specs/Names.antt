-- Turns of a number of an indirect zone and of an entry, by what they do to names: no name sees them, or one path changes
-- whole.
use Rattle.std.specs.Prelude.{◌≡◌, ◌%◌, ℕ, List, ◌∷◌, Some, None, Result, OnOk}
use Rattle.disk_trait.specs.declared.disks.Disks.{Ghosts}
use Rattle.disk_trait.specs.Moments.{IsTold, now}
use Rattle.lilo_model.specs.MinixEntries.{entries_per_block}
use Rattle.lilo_model.specs.MinixNames.{Directory, entry, pointer, thing, IsSound}
use Rattle.lilo_model.specs.MinixParts as model
use Rattle.lilo_model.specs.MinixParts.{Pointer}
use Rattle.minix_change_laws.specs.Written.{FitsEntry, IsPlaced}
use Rattle.minix_change_laws.specs.Enter.{MayStand, DirectoryMayStand, MayEnter, MayRemove}
use Rattle.minix_change_laws.specs.Only.{zone_of_entry}
use Rattle.minix_change_laws.specs.Changes.{MayHook}
use Rattle.minix_change_laws.specs.Grows.{below, Deeper}
use Rattle.minix_layout.specs.View.{kind_view, super_view}
use Rattle.minix_steps.specs.Written.{parts_now}
use Rattle.minix_turns.specs.Joined.{Unseen, LeadsPath}
use Rattle.minix_change_laws.specs.Part.{IsPast}
use Rattle.minix_zones.specs.Volume.{volume_view, past_of}
use Rattle.minix_zones.specs.declared.volume.Volume.{Volume}

-- ---- a number

-- the volume is sound now, and a directory may get zones by a number at an index of one of its indirect zones
pub record MayHookAt {D : Type 0} {disks : Ghosts D} (volume : Volume D disks) (directory : ℕ) (outer : Pointer) (zone index number : ℕ)
    (more : List Deeper) : Type 0 where
  pub sound : IsSound (volume_view volume) (now (past_of volume))
  pub lies : pointer (super_view volume.layout) (parts_now volume) directory outer ≡ zone
  pub hooks : MayHook (super_view volume.layout) (parts_now volume) directory (below outer index) number more

abbrev pub HooksUnseen : {D : Type 0} {disks : Ghosts D} → Volume D disks → Volume D disks → ℕ → ℕ → ℕ → Type 0
HooksUnseen old new zone index number =
    (directory : ℕ) (outer : Pointer) (more : List Deeper)
    → (IsTold (past_of old) → MayHookAt old directory outer zone index number more) → Unseen old new

-- ---- a place

-- the volume is sound now, and a place of a directory lies at an index of a zone
pub record IsPlaceAt {D : Type 0} {disks : Ghosts D} (volume : Volume D disks) (directory place zone index : ℕ) : Type 0 where
  pub sound : IsSound (volume_view volume) (now (past_of volume))
  pub lies : zone_of_entry (super_view volume.layout) (parts_now volume) directory place ≡ zone
  pub slot : place % entries_per_block (kind_view volume.layout.kind) ≡ index

-- it is past the directory's size
pub record IsPastAt {D : Type 0} {disks : Ghosts D} (volume : Volume D disks) (directory place zone index : ℕ) : Type 0 where
  pub at : IsPlaceAt volume directory place zone index
  pub past : IsPast (super_view volume.layout) (parts_now volume) directory place

-- no name sees what is written there
abbrev pub PastUnseen : {D : Type 0} {disks : Ghosts D} → Volume D disks → Volume D disks → ℕ → ℕ → Type 0
PastUnseen old new zone index =
    (directory place : ℕ) → (IsTold (past_of old) → IsPastAt old directory place zone index) → Unseen old new

-- and the entry there is free, once the call is done
abbrev pub PastFree : {D E : Type 0} {disks : Ghosts D} → Volume D disks → Volume D disks → ℕ → ℕ → Result (Unit {0}) E → Type 0
PastFree old new zone index result =
    (directory place : ℕ) → (IsTold (past_of old) → IsPastAt old directory place zone index) → IsTold (past_of old)
    → OnOk result ((entry (super_view old.layout) (model.parts_of (volume_view old) (now (past_of new))) directory place).inode ≡ 0)

-- ---- an entry

-- it is below the size
pub record IsEntryAt {D : Type 0} {disks : Ghosts D} (volume : Volume D disks) (directory place zone index : ℕ) : Type 0 where
  pub at : IsPlaceAt volume directory place zone index
  pub placed : IsPlaced (volume_view volume) (now (past_of volume)) directory place

-- there a name may be made that leads to an inode that is no directory
pub record MayMakeAt {D : Type 0} {disks : Ghosts D} (volume : Volume D disks) (outer : List (List ℕ)) (directory place zone index number : ℕ)
    (name : List ℕ) : Type 0 where
  pub lies : IsEntryAt volume directory place zone index
  pub fits : FitsEntry (kind_view volume.layout.kind) name
  pub enters : MayEnter (super_view volume.layout) (parts_now volume) outer directory place name
  pub stands : MayStand (super_view volume.layout) (parts_now volume) number

-- or to a new directory
pub record MayMakeDirectoryAt {D : Type 0} {disks : Ghosts D} (volume : Volume D disks) (outer : List (List ℕ))
    (directory place zone index number : ℕ) (name : List ℕ) : Type 0 where
  pub lies : IsEntryAt volume directory place zone index
  pub fits : FitsEntry (kind_view volume.layout.kind) name
  pub enters : MayEnter (super_view volume.layout) (parts_now volume) outer directory place name
  pub stands : DirectoryMayStand (super_view volume.layout) (parts_now volume) outer directory number

-- the name there may lead to another inode, neither being a directory
pub record MayRedirectAt {D : Type 0} {disks : Ghosts D} (volume : Volume D disks) (outer : List (List ℕ))
    (directory place zone index former number : ℕ) (name : List ℕ) : Type 0 where
  pub lies : IsEntryAt volume directory place zone index
  pub fits : FitsEntry (kind_view volume.layout.kind) name
  pub removes : MayRemove (super_view volume.layout) (parts_now volume) outer directory place former name
  pub stands : MayStand (super_view volume.layout) (parts_now volume) number

-- it may go
pub record MayRemoveAt {D : Type 0} {disks : Ghosts D} (volume : Volume D disks) (outer : List (List ℕ)) (directory place zone index number : ℕ)
    (name : List ℕ) : Type 0 where
  pub lies : IsEntryAt volume directory place zone index
  pub removes : MayRemove (super_view volume.layout) (parts_now volume) outer directory place number name

-- then the name is made whole or not at all
abbrev pub MakesName : {D E : Type 0} {disks : Ghosts D} → Volume D disks → Volume D disks → ℕ → ℕ → ℕ → List ℕ → Result (Unit {0}) E → Type 0
MakesName old new zone index number name result =
    (outer : List (List ℕ)) (directory place : ℕ)
    → (IsTold (past_of old) → MayMakeAt old outer directory place zone index number name)
    → LeadsPath old new (name ∷ outer) (Some number) (Some (thing (super_view old.layout) (parts_now old) number)) result

abbrev pub MakesDirectory : {D E : Type 0} {disks : Ghosts D} → Volume D disks → Volume D disks → ℕ → ℕ → ℕ → List ℕ → Result (Unit {0}) E → Type 0
MakesDirectory old new zone index number name result =
    (outer : List (List ℕ)) (directory place : ℕ)
    → (IsTold (past_of old) → MayMakeDirectoryAt old outer directory place zone index number name)
    → LeadsPath old new (name ∷ outer) (Some number) (Some Directory) result

-- it leads to the former inode or to the other
abbrev pub RedirectsName : {D E : Type 0} {disks : Ghosts D} → Volume D disks → Volume D disks → ℕ → ℕ → ℕ → List ℕ → Result (Unit {0}) E → Type 0
RedirectsName old new zone index number name result =
    (outer : List (List ℕ)) (directory place former : ℕ)
    → (IsTold (past_of old) → MayRedirectAt old outer directory place zone index former number name)
    → LeadsPath old new (name ∷ outer) (Some number) (Some (thing (super_view old.layout) (parts_now old) number)) result

-- it is there or gone
abbrev pub RemovesName : {D E : Type 0} {disks : Ghosts D} → Volume D disks → Volume D disks → ℕ → ℕ → Result (Unit {0}) E → Type 0
RemovesName old new zone index result =
    (outer : List (List ℕ)) (directory place number : ℕ) (name : List ℕ)
    → (IsTold (past_of old) → MayRemoveAt old outer directory place zone index number name)
    → LeadsPath old new (name ∷ outer) None None result

-- What settling leaves, at any moment of it and once it is done (a rule of this project's own). A path is a list of
-- components, the last one first.
use Rattle.std.specs.Prelude.{◌≡◌, ◌≢◌, ◌⊎◌, ℕ, Bool, true, false, if◌then◌else◌, IfSome, List, Option, None, Result, OnOk}
use Rattle.disk_trait.specs.declared.disks.Disks.{Ghosts}
use Rattle.disk_trait.specs.Calls.{GoesOn}
use Rattle.disk_trait.specs.Moments.{IsTold, now, IsQuiet, LeavesOnly}
use Rattle.disk_trait.specs.NotWritten.{NotWritten}
use Rattle.lilo_model.specs.Disks.{Image, Machine, Span, DiskSector}
use Rattle.lilo_model.specs.MinixParts as parts
use Rattle.lilo_model.specs.MinixParts.{parts_of}
use Rattle.lilo_model.specs.MinixNames.{names_in, reached, IsSound}
use Rattle.lilo_model.specs.MinixFindNames.{Names}
use Rattle.lilo_model.specs.NamePlaces.{with_tilde, with_name}
use Rattle.lilo_model.specs.Settled as model
use Rattle.lilo_model.specs.Settled.{Finishes, Held, is_foreign, settled}
use Rattle.minix_change_laws.specs.Tree.{KeepsNamed}
use Rattle.minix_choice.specs.declared.write_fault.WriteFault.{WriteFault}
use Rattle.minix_choice.specs.declared.write_fault.WriteFault.TheVariants.{Device}
use Rattle.minix_zones.specs.Volume.{volume_view, past_of, KeepsVolume, HasDeviceCause}
use Rattle.minix_zones.specs.declared.volume.Volume.{Volume}
use Rattle.install_stage_laws.specs.BeginLaws.{GainsNothing}
use Rattle.install_laws.specs.Boots.{HasBootOf}
use Rattle.install_laws.specs.Writes.{IsApartSector, IsWritable}
use Rattle.install_settle.specs.declared.settling.LeftMap.{LeftMap}
use Rattle.install_settle.specs.declared.settling.LeftMap.TheVariants.{Absent, Finish, Remove}
use Rattle.install_settle.specs.declared.settling.Settling.{Settling}

-- ---- names

-- in an image a volume has these Names
abbrev pub HasNames : parts.Volume → Image → Names → Type 0
HasNames volume image names = (path : List (List ℕ)) → names_in volume image path ≡ names path

-- a rename is finished
abbrev pub finishes : LeftMap → Bool
finishes Absent = false
finishes Finish = true
finishes Remove = false

-- the backup of which a stale copy, with `~`, may be there: a forced one
abbrev pub stale_of : Bool → model.OwnNames → Option (List (List ℕ))
stale_of forced names = if forced then names.backup else None

-- Names once the map is settled, and once the stale copy is away too
abbrev pub with_map_settled : LeftMap → model.OwnNames → Names → Names
with_map_settled left names old = settled (finishes left) names.map None old

abbrev pub with_all_settled : LeftMap → Bool → model.OwnNames → Names → Names
with_all_settled left forced names old = settled (finishes left) names.map (stale_of forced names) old

-- Names where what is at `map~` is at `map` too
abbrev pub with_both : List (List ℕ) → Names → Names
with_both path old = with_name path (old (with_tilde path)) old

-- an image has the Names of another, or, where a rename is finished, both names of the map, or the map settled, or all
abbrev pub AreSettling : parts.Volume → Image → model.OwnNames → Bool → LeftMap → Image → Type 0
AreSettling volume old names forced left c =
    HasNames volume c (names_in volume old)
    ⊎ (((finishes left ≡ true) × HasNames volume c (with_both names.map (names_in volume old)))
    ⊎ (HasNames volume c (with_map_settled left names (names_in volume old))
    ⊎ HasNames volume c (with_all_settled left forced names (names_in volume old))))

-- ---- paths

-- a path is none of those that settling changes: neither of the map's, nor that of a stale copy, where one is removed
pub record IsBeside (names : model.OwnNames) (copy : Bool) (path : List (List ℕ)) : Type 0 where
  pub map : path ≢ names.map
  pub tilde : path ≢ with_tilde names.map
  pub stale : IfSome (stale_of copy names) (λ backup. path ≢ with_tilde backup)

-- a path leads where it led, and what is there is of the same mode
pub record LeadsAsIn (volume : parts.Volume) (old c : Image) (path : List (List ℕ)) : Type 0 where
  pub leads : reached volume.layout (parts_of volume c) path ≡ reached volume.layout (parts_of volume old) path
  pub mode : IfSome (reached volume.layout (parts_of volume old) path)
      (λ number. ((parts_of volume c).node number).mode ≡ ((parts_of volume old).node number).mode)

-- so does each path that settling doesn't change
abbrev pub KeepsPaths : parts.Volume → Image → model.OwnNames → Bool → Image → Type 0
KeepsPaths volume old names copy c = (path : List (List ℕ)) → IsBeside names copy path → LeadsAsIn volume old c path

-- the path of what is at `map` once it is settled: that of `map~`, where a rename is finished
abbrev pub kept_path : Bool → model.OwnNames → List (List ℕ)
kept_path finishes names = if finishes then with_tilde names.map else names.map

-- `map` leads where that path led
abbrev pub KeepsMap : parts.Volume → Image → model.OwnNames → Bool → Image → Type 0
KeepsMap volume old names finishes c =
    reached volume.layout (parts_of volume c) names.map ≡ reached volume.layout (parts_of volume old) (kept_path finishes names)

-- ---- the Holder

-- a rename is finished exactly where the Holder is `map~` alone, and a copy is removed only where the boot sector is
-- another system's
pub record SettlesRight (image : Image) (machine : Machine) (volume : parts.Volume) (boot : Span) (path : List (List ℕ)) (settling : Settling) : Type 0 where
  pub holder : Finishes image machine volume boot path (finishes settling.map)
  pub foreign : settling.copy ≡ true → is_foreign (image boot.disk boot.start) ≡ true

-- an image with the same boot sector is Held where another one is
abbrev pub KeepsHeld : parts.Volume → Image → List (List ℕ) → Settling → Image → Type 0
KeepsHeld volume old path settling c =
    (machine : Machine) (boot : Span) → SettlesRight old machine volume boot path settling → HasBootOf boot old c
    → Held old machine volume boot path → Held c machine volume boot path

-- ---- images

-- what is left on the way
pub record IsSettling (volume : parts.Volume) (old : Image) (names : model.OwnNames) (forced : Bool) (settling : Settling) (c : Image) : Type 0 where
  pub sound : IsSound volume c
  pub has : AreSettling volume old names forced settling.map c
  pub held : KeepsHeld volume old names.map settling c

-- and at the end, where what is named in both images stays
pub record IsSettledIn (volume : parts.Volume) (old : Image) (names : model.OwnNames) (forced : Bool) (settling : Settling) (c : Image) : Type 0 where
  pub sound : IsSound volume c
  pub has : HasNames volume c (with_all_settled settling.map forced names (names_in volume old))
  pub paths : KeepsPaths volume old names settling.copy c
  pub file : KeepsMap volume old names (finishes settling.map) c
  pub keeps : KeepsNamed volume.layout (parts_of volume old) (parts_of volume c)
  pub held : KeepsHeld volume old names.map settling c

-- ---- the call

-- A call settled what was left behind. One that was refused, as the disk failed, has done a part of it.
pub record Settles {D : Type 0} {disks : Ghosts D} (old new : Volume D disks) (names : model.OwnNames) (forced : Bool) (settling : Settling)
    (result : Result (Unit {0}) WriteFault) : Type 0 where
  -- whatever a stop leaves, at any moment of it from a quiet one on, and what the disks hold now
  pub any_moment : IsQuiet (past_of old) → LeavesOnly (past_of old) (past_of new) (IsSettling (volume_view old) (now (past_of old)) names forced settling)
  pub left : IsTold (past_of old) → IsSettling (volume_view old) (now (past_of old)) names forced settling (now (past_of new))
  pub done : IsTold (past_of old) → OnOk result (IsSettledIn (volume_view old) (now (past_of old)) names forced settling (now (past_of new)))
  -- It writes no sector that isn't the volume's, and none of its block 0. Where no copy is removed it writes only what a
  -- writer of files may, in no zone that wasn't a directory's.
  pub apart : IsTold (past_of old) → (d s : ℕ) → IsApartSector (volume_view old) d s → NotWritten (past_of old) (past_of new) d s
  pub others : IsTold (past_of old) → settling.copy ≡ false → (place : DiskSector)
      → (IsWritable (volume_view old) (now (past_of old)) (λ zone. false) place → ⊥) → NotWritten (past_of old) (past_of new) place.disk place.sector
  -- Once it is done no inode refers to another zone than before.
  pub gains : IsTold (past_of old) → OnOk result (GainsNothing (volume_view old) (now (past_of old)) (now (past_of new)))
  -- when it is refused, and what stays
  pub device : IsTold (past_of old) → HasDeviceCause old new Device result
  pub goes_on : GoesOn disks old.disks.now new.disks.now
  pub kept : KeepsVolume old new

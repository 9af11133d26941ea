-- What tidying leaves, at any moment of it and once it is done (a rule of this project's own). A path is a list of
-- components, the last one first.
use Rattle.std.specs.Prelude.{◌≡◌, ◌<◌, ◌⊎◌, ℕ, true, false, IfSome, List, None, Some, Result, OnOk}
use Rattle.disk_trait.specs.declared.disks.Disks.{Ghosts}
use Rattle.disk_trait.specs.Calls.{GoesOn}
use Rattle.disk_trait.specs.Moments.{IsTold, now, LeavesOnly}
use Rattle.disk_trait.specs.NotWritten.{NotWritten}
use Rattle.lilo_model.specs.Disks.{Image, Machine, Span}
use Rattle.lilo_model.specs.MinixEntries.{is_dots}
use Rattle.lilo_model.specs.MinixLayout.{Super, most_links}
use Rattle.lilo_model.specs.MinixNames.{names_in, reached, IsSound}
use Rattle.lilo_model.specs.MinixParts as parts
use Rattle.lilo_model.specs.MinixParts.{Parts, is_file}
use Rattle.lilo_model.specs.NamePlaces.{with_tilde}
use Rattle.lilo_model.specs.Settled.{Holds, Held, settled}
use Rattle.minix_layout.specs.View.{super_view}
use Rattle.minix_names.specs.Places.{IsPlace}
use Rattle.minix_remove.specs.Moves.{IsMoving}
use Rattle.minix_remove.specs.Renamed.{RenamesFiles}
use Rattle.minix_change_laws.specs.Tree.{HasTreeMoved}
use Rattle.minix_steps.specs.Written.{parts_now}
use Rattle.minix_choice.specs.declared.write_fault.WriteFault.{WriteFault}
use Rattle.minix_choice.specs.declared.write_fault.WriteFault.TheVariants.{Device}
use Rattle.minix_zones.specs.Volume.{volume_view, past_of, KeepsVolume, HasDeviceCause}
use Rattle.minix_zones.specs.declared.volume.Volume.{Volume}
use Rattle.install_apart.specs.declared.name.NamePair.{NamePair}
use Rattle.install_stage_laws.specs.BeginLaws.{GainsNothing}
use Rattle.install_laws.specs.Writes.{IsApartSector, WritesOnly}
use Rattle.install_settle.specs.Settles.{HasNames, with_both}

-- ---- what is there

-- A path ends with the first of a pair of names, in its directory. At the path with `~` there is a regular file, the new map;
-- at the path itself there is one too, the old map, and then the new one may have a link more, or there is nothing.
pub record AreMaps (super : Super) (parts : Parts) (path : List (List ℕ)) (pair : NamePair) : Type 0 where
  pub place : IsPlace super parts path pair.plain.directory pair.plain.name
  pub named : is_dots pair.plain.name ≡ false
  pub map : ℕ
  pub leads : reached super parts (with_tilde path) ≡ Some map
  pub regular : is_file (parts.node map) ≡ true
  pub former : IfSome (reached super parts path) (λ former. is_file (parts.node former) ≡ true)
  pub link : IfSome (reached super parts path) (λ former. (parts.node map).links < most_links super.kind)

-- so it is now, on a sound volume
pub record MayTidy {D : Type 0} {disks : Ghosts D} (volume : Volume D disks) (path : List (List ℕ)) (pair : NamePair) : Type 0 where
  pub sound : IsSound (volume_view volume) (now (past_of volume))
  pub maps : AreMaps (super_view volume.layout) (parts_now volume) path pair

-- at some path
pub record MayTidySome {D : Type 0} {disks : Ghosts D} (volume : Volume D disks) (pair : NamePair) : Type 0 where
  pub path : List (List ℕ)
  pub may : MayTidy volume path pair

-- ---- images

-- an image has the Names of another, or those with the new map at the old one's path too, or those with it there alone
abbrev pub AreTidying : parts.Volume → Image → List (List ℕ) → Image → Type 0
AreTidying volume old path c =
    HasNames volume c (names_in volume old)
    ⊎ (HasNames volume c (with_both path (names_in volume old))
    ⊎ HasNames volume c (settled true path None (names_in volume old)))

-- what is left on the way, and where its paths lead
pub record IsTidying (volume : parts.Volume) (old : Image) (path : List (List ℕ)) (c : Image) : Type 0 where
  pub sound : IsSound volume c
  pub has : AreTidying volume old path c
  pub leads : IsMoving volume old (with_tilde path) path c

-- and at the end: the new map is at the old one's path, and nothing at that with `~`
pub record IsTidied (volume : parts.Volume) (old : Image) (path : List (List ℕ)) (c : Image) : Type 0 where
  pub sound : IsSound volume c
  pub has : HasNames volume c (settled true path None (names_in volume old))
  pub leads : HasTreeMoved volume old c (with_tilde path) path

-- ---- the call

-- A call put the new map in the place of the old one, which it freed. One that was refused, as the disk failed, has done a part of
-- it.
pub record Tidies {D : Type 0} {disks : Ghosts D} (old new : Volume D disks) (path : List (List ℕ)) (directory : ℕ)
    (result : Result (Unit {0}) WriteFault) : Type 0 where
  -- whatever a stop leaves, at any moment of it, and what the disks hold now
  pub any_moment : LeavesOnly (past_of old) (past_of new) (IsTidying (volume_view old) (now (past_of old)) path)
  pub left : IsTold (past_of old) → IsTidying (volume_view old) (now (past_of old)) path (now (past_of new))
  pub done : IsTold (past_of old) → OnOk result (IsTidied (volume_view old) (now (past_of old)) path (now (past_of new)))
  -- Where the boot sector is none of the volume's past its block 0, and the new map holds its table, each image is Held.
  pub held : (machine : Machine) (boot : Span) → IsApartSector (volume_view old) boot.disk boot.start
      → Holds (now (past_of old)) machine (volume_view old) boot (with_tilde path)
      → LeavesOnly (past_of old) (past_of new) (λ c. Held c machine (volume_view old) boot path)
  -- Once it is done the old map's inode is freed with its zones, or has a link less where it had more than one, and no other
  -- inode and bit is another; nor does an inode refer to another zone than before.
  pub files : IsTold (past_of old) → OnOk result
      (RenamesFiles (super_view old.layout) (parts_now old) (parts_now new) directory (reached (super_view old.layout) (parts_now old) path))
  pub gains : IsTold (past_of old) → OnOk result (GainsNothing (volume_view old) (now (past_of old)) (now (past_of new)))
  -- It writes only what a writer of files may, in no new zone, and no sector that isn't the volume's, nor of its block 0.
  pub only : WritesOnly (volume_view old) (λ zone. false) (past_of old) (past_of new)
  pub apart : IsTold (past_of old) → (d s : ℕ) → IsApartSector (volume_view old) d s → NotWritten (past_of old) (past_of new) d s
  -- when it is refused, and what stays
  pub device : IsTold (past_of old) → HasDeviceCause old new Device result
  pub goes_on : GoesOn disks old.disks.now new.disks.now
  pub kept : KeepsVolume old new

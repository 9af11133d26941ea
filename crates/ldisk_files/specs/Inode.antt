-- What becomes of inodes and bitmap bits where a name changes. The inode of what is made at a path has its mode, how many
-- links it has, its owner, its times, and the holes of a file. A path is a list of components, the last one first.
use Rattle.std.specs.Prelude.{◌≡◌, ◌<◌, ℕ, true, List, length, drop, replicate, Option, Some, None, Result, Ok, OnOk}
use Rattle.disk_trait.specs.declared.disks.Disks.{Ghosts}
use Rattle.disk_trait.specs.Moments.{IsTold, now}
use Rattle.lilo_model.specs.Disks.{Image, Span}
use Rattle.lilo_model.specs.MinixNames.{reached, names_in, zone_number}
use Rattle.lilo_model.specs.MinixParts.{Volume, parts_of, volume_at, blocks_for}
use Rattle.lilo_model.specs.NamePlaces.{name_path}
use Rattle.ldisk_model.specs.FileVerdict.{Making, NewDirectory, NewLink, NewFile, is_zero_block, stored_block}
use Rattle.minix_grow.specs.Others.{KeepsNodes}
use Rattle.minix_zones.specs.Volume.{volume_view, past_of}
use Rattle.minix_zones.specs.declared.volume.Volume as held
use Rattle.ldisk_files.specs.Made.{mode_made}
use Rattle.ldisk_files.specs.Marks.{MarksNamed, HasGone}
use Rattle.ldisk_files.specs.declared.fault.FileFault.{FileFault}

-- a directory has its own `.` beside its name
abbrev pub links_made : Making → ℕ
links_made NewDirectory = 2
links_made (NewLink target) = 1
links_made (NewFile bytes) = 1

-- in an image each block of a file that is 1024 zero bytes takes no zone
abbrev pub HasHoles : Volume → Image → ℕ → Making → Type 0
HasHoles volume image number NewDirectory = Unit {0}
HasHoles volume image number (NewLink target) = Unit {0}
HasHoles volume image number (NewFile bytes) =
    (index : ℕ) → index < blocks_for (length bytes) → is_zero_block (stored_block bytes index) ≡ true
    → zone_number volume.layout (parts_of volume image) number index ≡ 0

-- in an image a path leads to an inode with the mode, the links and the holes of what is made at a time, owned by user 0
-- and group 0, with that time as each of its three. No bitmap bit is set without a use that wasn't in another image, and
-- each other inode is as in that one, the directory's but for its links, its size and its zones
pub record HasInode (volume : Volume) (old : Image) (path : List (List ℕ)) (making : Making) (time : ℕ) (image : Image) : Type 0 where
  pub number : ℕ
  pub leads : reached volume.layout (parts_of volume image) path ≡ Some number
  pub mode : ((parts_of volume image).node number).mode ≡ mode_made making
  pub links : ((parts_of volume image).node number).links ≡ links_made making
  pub user : ((parts_of volume image).node number).uid ≡ 0
  pub group : ((parts_of volume image).node number).gid ≡ 0
  pub times : ((parts_of volume image).node number).times ≡ replicate 3 time
  pub holes : HasHoles volume image number making
  pub marks : MarksNamed volume old image
  pub directory : ℕ
  pub above : reached volume.layout (parts_of volume old) (drop 1 path) ≡ Some directory
  pub others : KeepsNodes volume.layout (parts_of volume old) (parts_of volume image) directory number

-- ---- a name that comes or goes

-- something was made at a path at a time, or what was there has gone
abbrev pub HasChanged : Volume → Image → List (List ℕ) → Option (Making × ℕ) → Image → Type 0
HasChanged volume old path (Some made) image = HasInode volume old path made.0 made.1 image
HasChanged volume old path None image = HasGone volume old path image

-- so it is at the path that a text had in another image
pub record HasChangedAt (volume : Volume) (old : Image) (text : List ℕ) (made : Option (Making × ℕ)) (image : Image) : Type 0 where
  pub path : List (List ℕ)
  pub at : name_path (names_in volume old) text ≡ Ok path
  pub has : HasChanged volume old path made image

-- on the volume that was in a span
pub record HasChangedIn (span : Span) (old : Image) (text : List ℕ) (made : Option (Making × ℕ)) (image : Image) : Type 0 where
  pub volume : Volume
  pub is : volume_at old span ≡ Ok volume
  pub has : HasChangedAt volume old text made image

-- so it is once a call changed the name at a text's path
abbrev pub ChangesInode : {D : Type 0} → Ghosts D → D → D → Span → List ℕ → Option (Making × ℕ) → Result (Unit {0}) FileFault
    → Type 0
ChangesInode disks old new span text made result =
    IsTold (disks.past old) → OnOk result (HasChangedIn span (now (disks.past old)) text made (now (disks.past new)))

-- the same of a volume that is held
abbrev pub ChangesInodeAt : {D : Type 0} {disks : Ghosts D} → held.Volume D disks → held.Volume D disks → List ℕ
    → Option (Making × ℕ) → Result (Unit {0}) FileFault → Type 0
ChangesInodeAt old new text made result =
    IsTold (past_of old) → OnOk result (HasChangedAt (volume_view old) (now (past_of old)) text made (now (past_of new)))

-- and by its path
abbrev pub ChangesInodeBy : {D : Type 0} {disks : Ghosts D} → held.Volume D disks → held.Volume D disks → List (List ℕ)
    → Option (Making × ℕ) → Result (Unit {0}) FileFault → Type 0
ChangesInodeBy old new path made result =
    IsTold (past_of old) → OnOk result (HasChanged (volume_view old) (now (past_of old)) path made (now (past_of new)))

-- A volume on which a name may be made, byte by byte (Minix file system, versions 1 and 2): its root directory has
-- room for one more entry, inode 2 is an empty file without a name, and inode 3 a directory without one.
use Rattle.std.specs.Prelude.{ℕ, ◌*◌, ◌==◌, if◌then◌else◌, List, [], ◌∷◌, ◌++◌, replicate, Some}
use Rattle.lilo_model.specs.Bytes.{filled_bytes}
use Rattle.lilo_model.specs.Disks.{Image}
use Rattle.lilo_model.specs.MinixLayout.{Kind, Inode, entry_size, super_bytes, inode_bytes}
use Rattle.lilo_model.specs.MinixParts.{parts_of}
use Rattle.lilo_model.specs.MinixEntries.{here_name, above_name}
use Rattle.lilo_model.specs.MinixNames.{IsSound, File, Directory}
use Rattle.minix_laws.specs.RootVolume.{root_layout, root_volume, root_inode}
use Rattle.minix_change_laws.specs.Enter.{MayStand, DirectoryMayStand, MayEnter, MayRemove, MayRename}
use Rattle.minix_change_laws.specs.Tree.{HasTreeWith}
use Rattle.minix_change_laws.specs.Written.{entry_bytes, IsPlaced, HasEntryBytes}

-- the root, with places for three entries
abbrev pub room_root : Kind → Inode
room_root kind = record (root_inode kind) { size = 3 * entry_size kind }

-- the file
abbrev pub empty_file : Inode
empty_file = record { mode = 0x81A4; links = 1; uid = 0; gid = 0; size = 0; times = replicate 3 0; zones = replicate 10 0 }

-- the directory, in zone 6
abbrev pub new_directory : Kind → Inode
new_directory kind = record (root_inode kind) { zones = 6 ∷ replicate 9 0 }

-- the sectors: the superblock, the bitmap bits of three inodes and two zones, these inodes, and the entries of both
-- directories
abbrev pub room_sector : Kind → ℕ → List ℕ
room_sector kind sector =
    if sector == 2 then super_bytes (root_layout kind) (replicate 512 0) else
    if sector == 4 then filled_bytes 512 (15 ∷ []) else
    if sector == 6 then filled_bytes 512 (7 ∷ []) else
    if sector == 8 then filled_bytes 512 (inode_bytes kind (room_root kind) ++ (inode_bytes kind empty_file ++ inode_bytes kind (new_directory kind))) else
    if sector == 10 then filled_bytes 512 (entry_bytes kind 1 here_name ++ entry_bytes kind 1 above_name) else
    if sector == 12 then filled_bytes 512 (entry_bytes kind 3 here_name ++ entry_bytes kind 1 above_name) else
    replicate 512 0

-- disks with this volume, whatever their number
abbrev pub room_image : Kind → Image
room_image kind disk sector = room_sector kind sector

-- the names `a` and `b`
abbrev pub sample_name : List ℕ
sample_name = 97 ∷ []

abbrev pub other_name : List ℕ
other_name = 98 ∷ []

-- an image has the entry of an inode with the first name at the root's third place
abbrev pub HasSampleEntry : Kind → ℕ → Image → Type 0
HasSampleEntry kind number image =
    HasEntryBytes (root_volume kind) (room_image kind) image 1 2 (entry_bytes kind number sample_name)

-- the name leads to the file there, and may be removed or become the other
pub record IsEntered (kind : Kind) (image : Image) : Type 0 where
  pub tree : HasTreeWith (root_volume kind) (room_image kind) image (sample_name ∷ []) (Some 2) (Some (File []))
  pub may_remove : MayRemove (root_layout kind) (parts_of (root_volume kind) image) [] 1 2 2 sample_name
  pub may_rename : MayRename (root_layout kind) (parts_of (root_volume kind) image) [] 1 2 2 sample_name other_name

-- the volume is sound, the file and the directory may get the name in the root, and have it where the entry lies
pub record CanEnter (kind : Kind) : Type 0 where
  pub sound : IsSound (root_volume kind) (room_image kind)
  pub placed : IsPlaced (root_volume kind) (room_image kind) 1 2
  pub may : MayEnter (root_layout kind) (parts_of (root_volume kind) (room_image kind)) [] 1 2 sample_name
  pub stands : MayStand (root_layout kind) (parts_of (root_volume kind) (room_image kind)) 2
  pub directory_stands : DirectoryMayStand (root_layout kind) (parts_of (root_volume kind) (room_image kind)) [] 1 3
  pub entered : (image : Image) → HasSampleEntry kind 2 image → IsEntered kind image
  pub directory_entered : (image : Image) → HasSampleEntry kind 3 image
      → HasTreeWith (root_volume kind) (room_image kind) image (sample_name ∷ []) (Some 3) (Some Directory)

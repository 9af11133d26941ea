-- The bitmap bits that a change of one name sets and clears, and what becomes of the inode of a name that goes (a rule of
-- this project's own). A path is a list of components, the last one first.
use Rattle.std.specs.Prelude.{◌≡◌, ◌≢◌, ◌≤◌, ◌<◌, ◌⊎◌, ℕ, true, false, List, Some}
use Rattle.lilo_model.specs.Disks.{Image}
use Rattle.lilo_model.specs.MinixNames.{reached}
use Rattle.lilo_model.specs.MinixParts.{Volume, Pointer, parts_of}
use Rattle.minix_change_laws.specs.Beside.{NamedIn, RefersIn, IsInode, IsDataZone}
use Rattle.minix_remove.specs.Removed.{LowersLinks, FreesInode}

-- no bitmap bit of an inode or a data zone is set that was clear
pub record MarksNoMore (volume : Volume) (old image : Image) : Type 0 where
  pub inodes : (number : ℕ) → IsInode volume.layout number → (parts_of volume old).has_inode number ≡ false
      → (parts_of volume image).has_inode number ≡ false
  pub zones : (zone : ℕ) → IsDataZone volume.layout zone → (parts_of volume old).has_zone zone ≡ false
      → (parts_of volume image).has_zone zone ≡ false

-- in an image an inode with a name refers to a zone
abbrev pub IsReferred : Volume → Image → ℕ → Type 0
IsReferred volume image zone = (number : ℕ) × (at : Pointer) × RefersIn volume image number at zone

-- a bit that is set was set before, or is that of an inode with a name or of a zone to which one refers; none was cleared
pub record MarksNamed (volume : Volume) (old image : Image) : Type 0 where
  pub inodes : (number : ℕ) → IsInode volume.layout number → (parts_of volume image).has_inode number ≡ true
      → ((parts_of volume old).has_inode number ≡ true) ⊎ NamedIn volume image number
  pub zones : (zone : ℕ) → IsDataZone volume.layout zone → (parts_of volume image).has_zone zone ≡ true
      → ((parts_of volume old).has_zone zone ≡ true) ⊎ IsReferred volume image zone
  pub stay : (number : ℕ) → IsInode volume.layout number → (parts_of volume old).has_inode number ≡ true
      → (parts_of volume image).has_inode number ≡ true
  pub zones_stay : (zone : ℕ) → IsDataZone volume.layout zone → (parts_of volume old).has_zone zone ≡ true
      → (parts_of volume image).has_zone zone ≡ true

-- The inode that a path led to has a link less, or is free with its zones where it had no more than one. No bit is set that
-- was clear, and each other inode is as before.
pub record HasGone (volume : Volume) (old : Image) (path : List (List ℕ)) (image : Image) : Type 0 where
  pub number : ℕ
  pub led : reached volume.layout (parts_of volume old) path ≡ Some number
  pub lowered : 1 < ((parts_of volume old).node number).links
      → LowersLinks volume.layout (parts_of volume old) (parts_of volume image) number
  pub freed : ((parts_of volume old).node number).links ≤ 1
      → FreesInode volume.layout (parts_of volume old) (parts_of volume image) number
  pub marks : MarksNoMore volume old image
  pub others : (other : ℕ) → IsInode volume.layout other → other ≢ number
      → (parts_of volume image).node other ≡ (parts_of volume old).node other

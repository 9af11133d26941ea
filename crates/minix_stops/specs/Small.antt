-- A small volume whose root directory alone has a name, byte by byte (Minix file system, versions 1 and 2). It lies from
-- sector 8 of disk 0 on, and has 48 sectors, 16 inodes and 24 zones, of which zone 5 is the first data zone and the root's.
use Rattle.std.specs.Prelude.{◌≡◌, ◌<◌, ◌≤◌, ℕ, ◌+◌, ◌-◌, ◌==◌, if◌then◌else◌, List, [], ◌∷◌, replicate}
use Rattle.disk_trait.specs.declared.disks.Disks.{Ghosts}
use Rattle.lilo_model.specs.Bytes.{with_part, bytes16, filled_bytes}
use Rattle.lilo_model.specs.Disks.{Image}
use Rattle.lilo_model.specs.MinixEntries.{here_name, above_name}
use Rattle.lilo_model.specs.MinixLayout.{Kind, Super, entry_size, name_size, super_bytes, inode_bytes}
use Rattle.lilo_model.specs.MinixParts as model
use Rattle.minix_laws.specs.RootVolume.{root_layout, root_inode}
use Rattle.minix_steps.specs.Steps.{IsReady, IsUnusedZone, IsUnnamedInode}
use Rattle.minix_zones.specs.declared.volume.Volume.{Volume}

-- its superblock: the root volume's, with more zones
abbrev pub small_layout : Kind → Super
small_layout kind = record (root_layout kind) { zones = 24 }

-- where it lies
abbrev pub small_volume : Kind → model.Volume
small_volume kind = record { span = record { disk = 0; start = 8; count = 48 }; layout = small_layout kind }

-- a sector with an entry of the root, from an offset on
abbrev pub with_root_entry : Kind → ℕ → List ℕ → List ℕ → List ℕ
with_root_entry kind at name bytes = with_part (with_part bytes at (bytes16 1)) (at + 2) (filled_bytes (name_size kind) name)

abbrev pub zeros : List ℕ
zeros = replicate 512 0

-- its sectors: the superblock, the bitmap bits of inode 1 and of zone 5, the root's inode and entries, else zeros
abbrev pub small_sector : Kind → ℕ → List ℕ
small_sector kind sector =
    if sector == 10 then with_root_entry kind (entry_size kind) above_name (with_root_entry kind 0 here_name zeros) else
    if sector == 8 then with_part zeros 0 (inode_bytes kind (root_inode kind)) else
    if sector == 6 then with_part zeros 0 (3 ∷ []) else
    if sector == 4 then with_part zeros 0 (3 ∷ []) else
    if sector == 2 then super_bytes (small_layout kind) zeros else
    zeros

-- disks with this volume, whatever their number
abbrev pub small_image : Kind → Image
small_image kind disk sector = small_sector kind (sector - 8)

-- Steps may be taken on a volume laid out so, and zones 6 to 13 and inodes 2 to 5 are unused and unnamed.
pub record IsOpen {D : Type 0} {disks : Ghosts D} (volume : Volume D disks) : Type 0 where
  pub ready : IsReady volume
  pub first : volume.layout.first ≡ 5
  pub zones : volume.layout.zones ≡ 24
  pub inodes : volume.layout.inodes ≡ 16
  pub unused : (zone : ℕ) → 6 ≤ zone → zone < 14 → IsUnusedZone volume zone
  pub unnamed : (number : ℕ) → 2 ≤ number → number < 6 → IsUnnamedInode volume number

-- A volume with a root directory alone, byte by byte (Minix file system, versions 1 and 2). It has 16 sectors,
-- 16 inodes and 8 zones, of which zone 5 is the first data zone and the root's.
use Rattle.std.specs.Prelude.{ℕ, ◌*◌, ◌==◌, if◌then◌else◌, List, [], ◌∷◌, ◌++◌, replicate}
use Rattle.lilo_model.specs.Bytes.{bytes16, filled_bytes}
use Rattle.lilo_model.specs.Disks.{Image}
use Rattle.lilo_model.specs.MinixLayout.{Kind, Super, Inode, entry_size, name_size, super_bytes, inode_bytes}
use Rattle.lilo_model.specs.MinixParts.{Volume}
use Rattle.lilo_model.specs.MinixEntries.{here_name, above_name}
use Rattle.lilo_model.specs.MinixNames.{IsSound}

-- its superblock
abbrev pub root_layout : Kind → Super
root_layout kind = record { kind = kind; inodes = 16; zones = 8; imap = 1; zmap = 1; first = 5; max_size = 268966912; state = 1 }

-- where it lies
abbrev pub root_volume : Kind → Volume
root_volume kind = record { span = record { disk = 0; start = 0; count = 16 }; layout = root_layout kind }

-- the root: a directory of two entries in zone 5
abbrev pub root_inode : Kind → Inode
root_inode kind = record {
  mode = 0x41ED;
  links = 2;
  uid = 0;
  gid = 0;
  size = 2 * entry_size kind;
  times = replicate 3 0;
  zones = 5 ∷ replicate 9 0;
}

-- the bytes of an entry of inode 1
abbrev pub root_entry : Kind → List ℕ → List ℕ
root_entry kind name = bytes16 1 ++ filled_bytes (name_size kind) name

-- its sectors: the superblock, the bitmap bits of inode 1 and of zone 5, the root's inode and entries, else zeros
abbrev pub root_sector : Kind → ℕ → List ℕ
root_sector kind sector =
    if sector == 2 then super_bytes (root_layout kind) (replicate 512 0) else
    if sector == 4 then filled_bytes 512 (3 ∷ []) else
    if sector == 6 then filled_bytes 512 (3 ∷ []) else
    if sector == 8 then filled_bytes 512 (inode_bytes kind (root_inode kind)) else
    if sector == 10 then filled_bytes 512 (root_entry kind here_name ++ root_entry kind above_name) else
    replicate 512 0

-- disks with this volume, whatever their number
abbrev pub root_image : Kind → Image
root_image kind disk sector = root_sector kind sector

-- it is sound
abbrev pub RootLaw : Type 0
RootLaw = (kind : Kind) → IsSound (root_volume kind) (root_image kind)

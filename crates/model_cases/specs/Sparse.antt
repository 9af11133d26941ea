-- Short ways to write the data of cases: bytes as one number, long files and disks of zeros with a few pieces
-- put in. (This project's own.)
use Rattle.std.specs.Prelude.{ℕ, zero, suc, ◌/◌, ◌%◌, ◌^◌, ◌==◌, ◌&&◌, if◌then◌else◌, List, [], ◌∷◌, map, replicate, slice_index_or, Option, Result}
use Rattle.lilo_model.specs.Bytes.{with_part}
use Rattle.lilo_model.specs.Checks.{◌>>=◌}
use Rattle.lilo_model.specs.Disks.{Image, Geometry, Machine, Span, DiskSector}
use Rattle.lilo_model.specs.MinixLayout.{V1Long}
use Rattle.lilo_model.specs.Prompt.{Key, Byte, Tick}
use Rattle.lilo_model.specs.Header.{Layout, SetupFault, header_at, plan_memory}
use Rattle.session_model.specs.Site.{Site}
use Rattle.session_model.specs.State.{Sector}

-- the last count bytes of a number, the highest first
abbrev pub hex : ℕ → ℕ → List ℕ
hex zero number = []
hex (suc count) number = (number / 256 ^ count % 256) ∷ hex count number

-- bytes at an offset of a file
pub record Piece : Type 0 where
  pub at : ℕ
  pub bytes : List ℕ

-- bytes at an offset of a disk's sector
pub record Patch : Type 0 where
  pub disk : ℕ
  pub sector : ℕ
  pub at : ℕ
  pub bytes : List ℕ

-- a piece
abbrev pub piece : ℕ → List ℕ → Piece
piece at bytes = record { at = at; bytes = bytes }

-- a patch
abbrev pub patch_at : ℕ → ℕ → ℕ → List ℕ → Patch
patch_at disk sector at bytes = record { disk = disk; sector = sector; at = at; bytes = bytes }

-- bytes with pieces put in
abbrev pub with_pieces : List ℕ → List Piece → List ℕ
with_pieces bytes [] = bytes
with_pieces bytes (first ∷ others) = with_pieces (with_part bytes first.at first.bytes) others

-- a file of zeros with pieces put in
abbrev pub file : ℕ → List Piece → List ℕ
file size pieces = with_pieces (replicate size 0) pieces

-- the pieces of one sector
abbrev pub pieces_at : ℕ → ℕ → List Patch → List Piece
pieces_at disk sector [] = []
pieces_at disk sector (first ∷ others) =
    if first.disk == disk && first.sector == sector
    then record { at = first.at; bytes = first.bytes } ∷ pieces_at disk sector others
    else pieces_at disk sector others

-- disks of zeros with patches put in
abbrev pub disks_of : List Patch → Image
disks_of patches disk sector = file 512 (pieces_at disk sector patches)

-- the size of a disk, and its geometry
pub record Disk : Type 0 where
  pub size : ℕ
  pub heads : ℕ
  pub sectors : ℕ

-- a disk, by its sectors, its heads and the sectors on a track
abbrev pub disk_with : ℕ → ℕ → ℕ → Disk
disk_with size heads sectors = record { size = size; heads = heads; sectors = sectors }

-- the geometry of a disk
abbrev pub shape_of : Disk → Geometry
shape_of disk = record { heads = disk.heads; sectors = disk.sectors }

-- a machine with these disks, from disk 0 on
abbrev pub machine_of : List Disk → Machine
machine_of disks = record {
  size_of = λ number. (slice_index_or disks number (disk_with 0 16 63)).size;
  geometry_of = λ number. shape_of (slice_index_or disks number (disk_with 0 16 63));
}

-- sectors of one disk
abbrev pub on : ℕ → List ℕ → List DiskSector
on disk sectors = map (λ sector. record { disk = disk; sector = sector }) sectors

-- the layout of a kernel of some length, of which the first two sectors are known
abbrev pub layout_for : List ℕ → ℕ → Option ℕ → ℕ → ℕ → Result Layout SetupFault
layout_for bytes len initrd line memory =
    header_at bytes len >>= λ header. plan_memory header len initrd line memory

-- keys that are bytes
abbrev pub typed : List ℕ → List Key
typed bytes = map Byte bytes

-- some tenths of a second without a byte
abbrev pub waited : ℕ → List Key
waited tenths = replicate tenths Tick

-- ---- states

-- a sector of a disk with its bytes
abbrev pub held : ℕ → ℕ → List ℕ → Sector
held disk sector bytes = record { place = record { disk = disk; sector = sector }; bytes = bytes }

-- a boot device of a machine, with a volume without a zone: body and line say nothing of it
abbrev pub site_on : Machine → Span → Site
site_on machine boot = record {
  machine = machine;
  boot = boot;
  volume = record {
    span = boot;
    layout = record { kind = V1Long; inodes = 0; zones = 0; imap = 0; zmap = 0; first = 0; max_size = 0; state = 0 };
  };
}

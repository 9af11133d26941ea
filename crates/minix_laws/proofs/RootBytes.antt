-- The bytes of a volume with a root directory alone are sound parts.
use Rattle.std.proofs.Common.{◌≡◌, ℕ, ◌+◌, ◌<◌, ◌≤◌, ◌==◌, Bool, true, false, if◌then◌else◌, List, ◌∷◌, length, replicate, Ok, refl, ap, arith}
use Rattle.lilo_model.specs.Bytes.{number16, number32}
use Rattle.lilo_model.specs.MinixLayout.{Kind, V1Short, V1Long, V2Short, V2Long, Super, is_size, kind_of, super_of, super_checks, super_in, super_at, with_counts, super_bytes, v1_inode, v2_inode, inode_of, v1_inode_bytes, v2_inode_bytes, inode_bytes, inode_place}
use Rattle.lilo_model.specs.MinixParts.{Parts, is_directory, bit, parts_of, number_in, follow, pointer_by}
use Rattle.lilo_model.specs.MinixEntries.{Entry, entry_of, entry_with, places, here_name, above_name}
use Rattle.lilo_model.specs.MinixNames.{zone_number, block, entry, IsSound}
use Rattle.minix_laws.specs.RootVolume.{root_layout, root_volume, root_sector, root_image, RootLaw}
use Rattle.minix_laws.proofs.BareRoot.{BareRoot, bare-sound}

-- what is read of the root in parts, whose zone has this number
abbrev pub Read : Type 0
Read = Bool × ℕ × Bool × ℕ × List ℕ × Entry × Entry × Bool × Bool

abbrev pub read : Super → Parts → ℕ → Read
read super parts zone = (
  is_directory (parts.node 1),
  (parts.node 1).mode,
  is_size super.kind (parts.node 1).size,
  places super.kind (parts.node 1).size,
  (parts.node 1).zones,
  entry super parts 1 0,
  entry super parts 1 1,
  parts.has_inode 1,
  parts.has_zone zone,
)

-- what is read of a bare root as mkfs makes it: mode 040755, and `.` and `..` alone
abbrev pub bare_read : ℕ → Read
bare_read zone = (true, 0x41ED, true, 2, zone ∷ replicate 9 0, entry_with 1 here_name, entry_with 1 above_name, true, true)

pub read_bare : (super : Super) (parts : Parts) (zone : ℕ) → read super parts zone ≡ bare_read zone
    → 1 ≤ super.inodes → super.first ≤ zone → zone < super.zones → BareRoot super parts zone 2
read_bare super parts zone is inodes from below = record {
  directory = ap (λ (all : Read). all.0) is;
  some_mode = λ none. let mode = ap (λ (all : Read). all.1) is in absurd (omega (arith, none, mode));
  small = ap (λ (all : Read). all.2) is;
  entries = ap (λ (all : Read). all.3) is;
  two = omega arith;
  zones = ap (λ (all : Read). all.4) is;
  first_entry = ap (λ (all : Read). all.5) is;
  second_entry = ap (λ (all : Read). all.6) is;
  free = λ place high low. absurd (omega (arith, high, low));
  some_inode = inodes;
  inode_mark = ap (λ (all : Read). all.7) is;
  zone_mark = ap (λ (all : Read). all.8) is;
  from = from;
  below = below;
}

root-read : (kind : Kind) → read (root_layout kind) (parts_of (root_volume kind) (root_image kind)) 5 ≡ bare_read 5
unfolding super_bytes with_counts inode_bytes v1_inode_bytes v2_inode_bytes parts_of inode_of v1_inode v2_inode inode_place number16 number32 bit number_in follow pointer_by entry_of zone_number block entry
root-read V1Short = refl
root-read V1Long = refl
root-read V2Short = refl
root-read V2Long = refl

bare : (kind : Kind) → BareRoot (root_layout kind) (parts_of (root_volume kind) (root_image kind)) 5 2
bare kind = read_bare (root_layout kind) (parts_of (root_volume kind) (root_image kind)) 5 (root-read kind) (omega arith) (omega arith) (omega arith)

-- its superblock is read
root_super : (kind : Kind) → super_at (root_sector kind 2) 16 ≡ Ok (root_layout kind)
unfolding super_at super_in kind_of super_of super_checks super_bytes with_counts number16 number32
root_super V1Short = refl
root_super V1Long = refl
root_super V2Short = refl
root_super V2Long = refl

pub length-choice : (test : Bool) (one other : List ℕ) → length one ≡ 512 → length other ≡ 512 → length (if test then one else other) ≡ 512
length-choice true one other is is' = is
length-choice false one other is is' = is'

-- each sector has 512 bytes
root_whole : (kind : Kind) (sector : ℕ) → length (root_sector kind sector) ≡ 512
unfolding super_bytes with_counts inode_bytes v1_inode_bytes v2_inode_bytes
root_whole V1Short sector = length-choice (sector == 2) _ _ refl (length-choice (sector == 4) _ _ refl (length-choice (sector == 6) _ _ refl (length-choice (sector == 8) _ _ refl (length-choice (sector == 10) _ _ refl refl))))
root_whole V1Long sector = length-choice (sector == 2) _ _ refl (length-choice (sector == 4) _ _ refl (length-choice (sector == 6) _ _ refl (length-choice (sector == 8) _ _ refl (length-choice (sector == 10) _ _ refl refl))))
root_whole V2Short sector = length-choice (sector == 2) _ _ refl (length-choice (sector == 4) _ _ refl (length-choice (sector == 6) _ _ refl (length-choice (sector == 8) _ _ refl (length-choice (sector == 10) _ _ refl refl))))
root_whole V2Long sector = length-choice (sector == 2) _ _ refl (length-choice (sector == 4) _ _ refl (length-choice (sector == 6) _ _ refl (length-choice (sector == 8) _ _ refl (length-choice (sector == 10) _ _ refl refl))))

-- the volume is sound
pub root_law : RootLaw
unfolding IsSound
root_law kind = record {
  super = root_super kind;
  whole = λ sector below. root_whole kind (0 + sector);
  parts = bare-sound (root_layout kind) (parts_of (root_volume kind) (root_image kind)) 5 2 (bare kind);
}

-- On a volume with room in its root a name may be made.
use Rattle.std.proofs.Common.{◌≡◌, ◌≢◌, ◌<◌, ◌≤◌, ℕ, zero, suc, ◌+◌, ◌^◌, get_or, ◌==◌, Bool, true, false, List, [], ◌∷◌, length, Some, None, Ok, refl, sym, ◌∙◌, ap, subst, arith, replicate}
use Rattle.lilo_model.specs.Bytes.{number16, number32}
use Rattle.lilo_model.specs.Disks.{Image}
use Rattle.lilo_model.specs.MinixLayout.{Kind, V1Short, V1Long, V2Short, V2Long, kind_of, super_of, super_checks, super_in, super_at, with_counts, super_bytes, v1_inode, v2_inode, inode_of, v1_inode_bytes, v2_inode_bytes, inode_bytes, inode_place, name_size, reach, Super, is_size}
use Rattle.lilo_model.specs.MinixParts.{bit, is_directory, blocks_for, parts_of, number_in, follow, pointer_by, Parts}
use Rattle.lilo_model.specs.MinixEntries.{entry_of, entry_with, named_inode, is_dots, Entry, places, here_name, above_name}
use Rattle.lilo_model.specs.MinixNames.{zone_number, block, content, entry, lookup, reached, thing, Sound, IsSound, File, Directory}
use Rattle.minix_laws.specs.RootVolume.{root_layout, root_volume}
use Rattle.minix_laws.proofs.BareRoot.{BareRoot}
use Rattle.minix_change_laws.proofs.Entries.{entry_law}
use Rattle.minix_change_laws.specs.Only.{zone_of_entry}
use Rattle.minix_change_laws.specs.Tree.{HasTreeWith}
use Rattle.minix_change_laws.specs.Enter.{MayStand, MayEnter, MayRemove}
use Rattle.minix_change_laws.specs.Written.{entry_bytes, IsPlaced, HasEntryBytes, EntryIsWritten}
use Rattle.minix_change_laws.specs.EntrySample.{room_sector, room_image, sample_name, other_name, HasSampleEntry, IsEntered}
use Rattle.minix_change_laws.specs.EntryBytesLaws.{SampleLaw}
use Rattle.minix_change_laws.proofs.Written.{written_law}
use Rattle.minix_change_laws.proofs.EntryBytes.{entry_bytes_law}
use Rattle.minix_change_laws.proofs.Images.{enter_bytes_law, enter_directory_bytes_law}
use Rattle.minix_change_laws.proofs.Room.{RootRoom, root_room-sound, room-stands, room-directory, room-enter, room-named}
use Rattle.minix_change_laws.proofs.Sees.{named-free}
use Rattle.minix_laws.proofs.RootBytes.{length-choice}

-- what is read of the root, of the file and of the new directory in parts
abbrev ReadRoot : Type 0
ReadRoot = Bool × ℕ × Bool × ℕ × List ℕ × Entry × Entry × ℕ × Bool × Bool

abbrev read_root : Super → Parts → ReadRoot
read_root super parts = (
  is_directory (parts.node 1),
  (parts.node 1).mode,
  is_size super.kind (parts.node 1).size,
  places super.kind (parts.node 1).size,
  (parts.node 1).zones,
  entry super parts 1 0,
  entry super parts 1 1,
  (entry super parts 1 2).inode,
  parts.has_inode 1,
  parts.has_zone 5,
)

abbrev ReadFile : Type 0
ReadFile = Bool × ℕ × Bool × Bool × List ℕ × ℕ

abbrev read_file : Super → Parts → ReadFile
read_file super parts = (
  is_directory (parts.node 2),
  (parts.node 2).mode,
  is_size super.kind (parts.node 2).size,
  parts.has_inode 2,
  (parts.node 2).zones,
  (parts.node 2).links,
)

abbrev ReadDirectory : Type 0
ReadDirectory = Bool × ℕ × Bool × ℕ × List ℕ × ℕ × Entry × Entry × Bool × Bool

abbrev read_directory : Super → Parts → ReadDirectory
read_directory super parts = (
  is_directory (parts.node 3),
  (parts.node 3).mode,
  is_size super.kind (parts.node 3).size,
  places super.kind (parts.node 3).size,
  (parts.node 3).zones,
  (parts.node 3).links,
  entry super parts 3 0,
  entry super parts 3 1,
  parts.has_inode 3,
  parts.has_zone 6,
)

abbrev sample : Kind → Parts
sample kind = parts_of (root_volume kind) (room_image kind)

root-read : (kind : Kind) → read_root (root_layout kind) (sample kind)
    ≡ (true, 0x41ED, true, 3, 5 ∷ replicate 9 0, entry_with 1 here_name, entry_with 1 above_name, 0, true, true)
unfolding super_bytes with_counts inode_bytes v1_inode_bytes v2_inode_bytes parts_of inode_of v1_inode v2_inode inode_place number16 number32 bit number_in follow pointer_by entry_of zone_number block entry
root-read V1Short = refl
root-read V1Long = refl
root-read V2Short = refl
root-read V2Long = refl

file-read : (kind : Kind) → read_file (root_layout kind) (sample kind)
    ≡ (false, 0x81A4, true, true, replicate 10 0, 1)
unfolding super_bytes with_counts inode_bytes v1_inode_bytes v2_inode_bytes parts_of inode_of v1_inode v2_inode inode_place number16 number32 bit number_in follow pointer_by entry_of zone_number block entry
file-read V1Short = refl
file-read V1Long = refl
file-read V2Short = refl
file-read V2Long = refl

directory-read : (kind : Kind) → read_directory (root_layout kind) (sample kind)
    ≡ (true, 0x41ED, true, 2, 6 ∷ replicate 9 0, 2, entry_with 3 here_name, entry_with 1 above_name, true, true)
unfolding super_bytes with_counts inode_bytes v1_inode_bytes v2_inode_bytes parts_of inode_of v1_inode v2_inode inode_place number16 number32 bit number_in follow pointer_by entry_of zone_number block entry
directory-read V1Short = refl
directory-read V1Long = refl
directory-read V2Short = refl
directory-read V2Long = refl

third_free : (kind : Kind) (place : ℕ) → 2 ≤ place → place < 3 → (entry (root_layout kind) (sample kind) 1 place).inode ≡ 0
third_free kind place from below =
    let is : 2 ≡ place = omega (arith, from, below) in
    subst (λ p. (entry (root_layout kind) (sample kind) 1 p).inode ≡ 0) is (ap (λ (all : ReadRoot). all.7) (root-read kind))

root : (kind : Kind) → BareRoot (root_layout kind) (sample kind) 5 3
root kind = record {
  directory = ap (λ (all : ReadRoot). all.0) (root-read kind);
  some_mode = λ none. let mode = ap (λ (all : ReadRoot). all.1) (root-read kind) in absurd (omega (arith, none, mode));
  small = ap (λ (all : ReadRoot). all.2) (root-read kind);
  entries = ap (λ (all : ReadRoot). all.3) (root-read kind);
  two = omega arith;
  zones = ap (λ (all : ReadRoot). all.4) (root-read kind);
  first_entry = ap (λ (all : ReadRoot). all.5) (root-read kind);
  second_entry = ap (λ (all : ReadRoot). all.6) (root-read kind);
  free = third_free kind;
  some_inode = omega arith;
  inode_mark = ap (λ (all : ReadRoot). all.8) (root-read kind);
  zone_mark = ap (λ (all : ReadRoot). all.9) (root-read kind);
  from = omega arith;
  below = omega arith;
}

room : (kind : Kind) → RootRoom (root_layout kind) (sample kind) 5 6
room kind = record {
  root = root kind;
  some_inode = omega arith;
  file = ap (λ (all : ReadFile). all.0) (file-read kind);
  file_mode = λ none. let mode = ap (λ (all : ReadFile). all.1) (file-read kind) in absurd (omega (arith, none, mode));
  file_small = ap (λ (all : ReadFile). all.2) (file-read kind);
  file_mark = ap (λ (all : ReadFile). all.3) (file-read kind);
  file_zones = ap (λ (all : ReadFile). all.4) (file-read kind);
  file_links = ap (λ (all : ReadFile). all.5) (file-read kind);
  new_directory = ap (λ (all : ReadDirectory). all.0) (directory-read kind);
  new_mode = λ none. let mode = ap (λ (all : ReadDirectory). all.1) (directory-read kind) in absurd (omega (arith, none, mode));
  new_small = ap (λ (all : ReadDirectory). all.2) (directory-read kind);
  new_two = ap (λ (all : ReadDirectory). all.3) (directory-read kind);
  new_zones = ap (λ (all : ReadDirectory). all.4) (directory-read kind);
  new_links = ap (λ (all : ReadDirectory). all.5) (directory-read kind);
  new_first = ap (λ (all : ReadDirectory). all.6) (directory-read kind);
  new_second = ap (λ (all : ReadDirectory). all.7) (directory-read kind);
  new_inode_mark = ap (λ (all : ReadDirectory). all.8) (directory-read kind);
  new_zone_mark = ap (λ (all : ReadDirectory). all.9) (directory-read kind);
  new_from = omega arith;
  new_below = omega arith;
  apart = λ e. absurd (omega (arith, e));
}

-- its superblock is read
room_super : (kind : Kind) → super_at (room_sector kind 2) 16 ≡ Ok (root_layout kind)
unfolding super_at super_in kind_of super_of super_checks super_bytes with_counts number16 number32
room_super V1Short = refl
room_super V1Long = refl
room_super V2Short = refl
room_super V2Long = refl

-- each sector has 512 bytes
room_whole : (kind : Kind) (sector : ℕ) → length (room_sector kind sector) ≡ 512
unfolding super_bytes with_counts inode_bytes v1_inode_bytes v2_inode_bytes
room_whole V1Short sector = length-choice (sector == 2) _ _ refl (length-choice (sector == 4) _ _ refl (length-choice (sector == 6) _ _ refl (length-choice (sector == 8) _ _ refl (length-choice (sector == 10) _ _ refl (length-choice (sector == 12) _ _ refl refl)))))
room_whole V1Long sector = length-choice (sector == 2) _ _ refl (length-choice (sector == 4) _ _ refl (length-choice (sector == 6) _ _ refl (length-choice (sector == 8) _ _ refl (length-choice (sector == 10) _ _ refl (length-choice (sector == 12) _ _ refl refl)))))
room_whole V2Short sector = length-choice (sector == 2) _ _ refl (length-choice (sector == 4) _ _ refl (length-choice (sector == 6) _ _ refl (length-choice (sector == 8) _ _ refl (length-choice (sector == 10) _ _ refl (length-choice (sector == 12) _ _ refl refl)))))
room_whole V2Long sector = length-choice (sector == 2) _ _ refl (length-choice (sector == 4) _ _ refl (length-choice (sector == 6) _ _ refl (length-choice (sector == 8) _ _ refl (length-choice (sector == 10) _ _ refl (length-choice (sector == 12) _ _ refl refl)))))

-- the volume is sound
room-sound : (kind : Kind) → IsSound (root_volume kind) (room_image kind)
unfolding IsSound
room-sound kind = record {
  super = room_super kind;
  whole = λ sector below. room_whole kind (0 + sector);
  parts = root_room-sound (root_layout kind) (parts_of (root_volume kind) (room_image kind)) 5 6 (room kind);
}

-- ---- the entry's place

abbrev Reached : Kind → Type 0
Reached kind = blocks_for ((parts_of (root_volume kind) (room_image kind)).node 1).size ≤ reach kind

room-reached : (kind : Kind) → Reached kind
unfolding super_bytes with_counts inode_bytes v1_inode_bytes v2_inode_bytes parts_of inode_of v1_inode v2_inode inode_place number16 number32
room-reached V1Short = omega arith
room-reached V1Long = omega arith
room-reached V2Short = omega arith
room-reached V2Long = omega arith

room-zone : (kind : Kind) → zone_of_entry (root_layout kind) (parts_of (root_volume kind) (room_image kind)) 1 2 ≡ 5
unfolding super_bytes with_counts inode_bytes v1_inode_bytes v2_inode_bytes parts_of inode_of v1_inode v2_inode inode_place number16 number32 number_in follow pointer_by zone_number
room-zone V1Short = refl
room-zone V1Long = refl
room-zone V2Short = refl
room-zone V2Long = refl

room-placed : (kind : Kind) → IsPlaced (root_volume kind) (room_image kind) 1 2
room-placed kind = record {
  named = room-named (root_layout kind) (parts_of (root_volume kind) (room_image kind)) 5 6 (room kind);
  is = (root kind).directory;
  reached = room-reached kind;
  below = let three = (root kind).entries in omega (arith, three);
  some = λ e. let five = room-zone kind in absurd (omega (arith, five, e));
}

-- ---- what its bytes say

room-says : (kind : Kind) (number : ℕ) → number < 2 ^ 16 → entry_of kind (entry_bytes kind number sample_name) ≡ entry_with number sample_name
room-says kind number low = (entry_bytes_law kind number sample_name low (record { short = short kind; no_zero = no_zero })).1
  where
    short : (kind' : Kind) → length sample_name ≤ name_size kind'
    short V1Short = omega arith
    short V1Long = omega arith
    short V2Short = omega arith
    short V2Long = omega arith

    no_zero : (index other : ℕ) → index < length sample_name → get_or sample_name index other ≢ 0
    no_zero zero other below = λ e. absurd (omega (arith, e))
    no_zero (suc index) other below = absurd (omega (arith, below))

room-thing : (kind : Kind) → thing (root_layout kind) (parts_of (root_volume kind) (room_image kind)) 2 ≡ File []
unfolding super_bytes with_counts inode_bytes v1_inode_bytes v2_inode_bytes parts_of inode_of v1_inode v2_inode inode_place number16 number32 number_in follow pointer_by zone_number block content thing
room-thing V1Short = refl
room-thing V1Long = refl
room-thing V2Short = refl
room-thing V2Long = refl

plain-sample : is_dots sample_name ≡ false
unfolding is_dots
plain-sample = refl

plain-other : is_dots other_name ≡ false
unfolding is_dots
plain-other = refl

-- ---- where they lie

module _ (kind : Kind) (image : Image) (has : HasEntryBytes (root_volume kind) (room_image kind) image 1 2 (entry_bytes kind 2 sample_name)) where
  may-enter : (name : List ℕ) → is_dots name ≡ false → MayEnter (root_layout kind) (parts_of (root_volume kind) (room_image kind)) [] 1 2 name
  may-enter name plain = room-enter (root_layout kind) (parts_of (root_volume kind) (room_image kind)) 5 6 (room kind) name plain

  stands : MayStand (root_layout kind) (parts_of (root_volume kind) (room_image kind)) 2
  stands = room-stands (root_layout kind) (parts_of (root_volume kind) (room_image kind)) 5 6 (room kind)

  written : EntryIsWritten (root_volume kind) (room_image kind) image 1 2 (entry_bytes kind 2 sample_name)
  written = written_law (root_volume kind) (room_image kind) image 1 2 (entry_bytes kind 2 sample_name) (room-sound kind) (room-placed kind) has

  parts-sound : Sound (root_layout kind) (parts_of (root_volume kind) (room_image kind))
  parts-sound = root_room-sound (root_layout kind) (parts_of (root_volume kind) (room_image kind)) 5 6 (room kind)

  kept-node : (parts_of (root_volume kind) image).node 2 ≡ (parts_of (root_volume kind) (room_image kind)).node 2
  kept-node = (written.kept 2 stands.fit (λ e. absurd (omega (arith, e)))).node

  may-remove : MayRemove (root_layout kind) (parts_of (root_volume kind) image) [] 1 2 2 sample_name
  unfolding reached
  may-remove = record {
    leads = refl;
    plain = plain-sample;
    some = λ e. absurd (omega (arith, e));
    stands = written.says ∙ room-says kind 2 (omega arith);
    file = ap (λ node. is_directory node) kept-node ∙ stands.file;
  }

  no-other : lookup (root_layout kind) (parts_of (root_volume kind) image) other_name 1 ≡ None
  no-other =
      (entry_law (root_layout kind) (parts_of (root_volume kind) (room_image kind)) (parts_of (root_volume kind) image) 1 2 parts-sound written.only.change).kept other_name
      (ap (named_inode other_name) (written.says ∙ room-says kind 2 (omega arith))
      ∙ sym (named-free other_name (entry (root_layout kind) (parts_of (root_volume kind) (room_image kind)) 1 2) (third_free kind 2 (omega arith) (omega arith))))
      ∙ (may-enter other_name plain-other).absent

  entered : IsEntered kind image
  entered = record {
    tree = subst (λ what. HasTreeWith (root_volume kind) (room_image kind) image (sample_name ∷ []) (Some 2) (Some what)) (room-thing kind)
        (enter_bytes_law (root_volume kind) (room_image kind) image [] 1 2 2 sample_name (entry_bytes kind 2 sample_name) (room-sound kind) (room-placed kind) has (room-says kind 2 (omega arith)) (may-enter sample_name plain-sample) stands);
    may_remove = may-remove;
    may_rename = record { may = may-remove; plain = plain-other; absent = no-other };
  }

directory-entered : (kind : Kind) (image : Image) → HasSampleEntry kind 3 image → HasTreeWith (root_volume kind) (room_image kind) image (sample_name ∷ []) (Some 3) (Some Directory)
directory-entered kind image has = enter_directory_bytes_law (root_volume kind) (room_image kind) image [] 1 2 3 sample_name (entry_bytes kind 3 sample_name) (room-sound kind) (room-placed kind) has
    (room-says kind 3 (omega arith))
    (room-enter (root_layout kind) (parts_of (root_volume kind) (room_image kind)) 5 6 (room kind) sample_name plain-sample)
    (room-directory (root_layout kind) (parts_of (root_volume kind) (room_image kind)) 5 6 (room kind))

pub sample_law : SampleLaw
sample_law kind = record {
  sound = room-sound kind;
  placed = room-placed kind;
  may = room-enter (root_layout kind) (parts_of (root_volume kind) (room_image kind)) 5 6 (room kind) sample_name plain-sample;
  stands = room-stands (root_layout kind) (parts_of (root_volume kind) (room_image kind)) 5 6 (room kind);
  directory_stands = room-directory (root_layout kind) (parts_of (root_volume kind) (room_image kind)) 5 6 (room kind);
  entered = entered kind;
  directory_entered = directory-entered kind;
}

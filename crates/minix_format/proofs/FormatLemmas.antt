-- An empty volume is sound, with the root alone.
use Rattle.std.proofs.Common.{◌≡◌, ◌<◌, ◌≤◌, ℕ, ◌+◌, ◌-◌, ◌*◌, ◌/◌, ◌%◌, ◌^◌, ◌==◌, nat_le, nat_lt, Bool, true, false, ◌||◌, List, [], ◌∷◌, ◌++◌, length, replicate, Some, None, Ok, refl, ◌∙◌, ap, arith, add-zero}
use Rattle.std.proofs.Math.Seq.{take-append_seam}
use Rattle.std.specs.Prelude.{slice_index}
use Rattle.std.proofs.Math.Bool.{or-false}
use Rattle.std.proofs.lemmas.Bool.Decides.{nat_tests}
use Rattle.std.proofs.lemmas.Bool.{le-leb, lt-leb, le-ltb, ne_eqb}
use Rattle.std.proofs.lemmas.List.Elements.{All-replicate, All-cons}
use Rattle.lilo_model.specs.Bytes.{part_of, number16, filled_bytes}
use Rattle.lilo_model.specs.Disks.{Image, Span}
use Rattle.lilo_model.specs.MinixLayout.{Kind, V1Short, V1Long, V2Short, V2Long, Super, Inode, inode_size, entry_size, is_size, inode_of, inode_at, inode_bytes, inode_place, kept_inode, table_start, table_blocks, super_at, FitsInode, zone_sector}
use Rattle.lilo_model.specs.MinixParts.{Volume, Parts, volume_with, volume_at, sector_of, parts_of, inode_part, bit, is_directory, zone_bytes, follow, pointer_by}
use Rattle.lilo_model.specs.MinixEntries.{entry_of, entry_in, entry_with, entries_per_block, places, here_name, above_name}
use Rattle.lilo_model.specs.MinixNames.{Directory, zone_number, block, entry, reached, thing, names, names_in, IsSound}
use Rattle.minix_laws.proofs.BareRoot.{BareRoot, bare-no_path, bare-sound}
use Rattle.minix_laws.proofs.RootBytes.{read, bare_read, read_bare}
use Rattle.minix_layout.proofs.Reading.{super_law, inode_law}
use Rattle.ldisk_model.specs.MinixFormat.{zeros, map_sector, first_inode, root_entry, formatted_sector, formatted}
use Rattle.minix_format.specs.Laid.{IsLaid}
use Rattle.minix_format.specs.Laws.{HasRootAlone, HasWholeSpan, FormatLaw}
use Rattle.minix_format.proofs.MapLemmas.{map_law}
use Rattle.minix_format.proofs.LayoutLemmas.{layout-laid, layout-within, laid-super}
use Rattle.minix_format.proofs.SectorLemmas.{formatted-in, at-super, at-inode_map, at-zone_map, at-table, at-root, at-root_end, length-first_inode, length-formatted}

-- ---- the root's inode

inode_by : (kind : Kind) (bytes : List ℕ) (inode : Inode) (small : Bool) → is_size kind (inode_of kind bytes).size ≡ small → inode_at kind bytes ≡ Ok inode → inode_of kind bytes ≡ inode
unfolding inode_at
inode_by kind bytes inode true is read = let e = rw is at read in cc
inode_by kind bytes inode false is read = let e = rw is at read in cc

first-kept : (kind : Kind) (layout : Super) (time : ℕ) → kept_inode kind (first_inode layout time) ≡ first_inode layout time
unfolding kept_inode
first-kept V1Short layout time = refl
first-kept V1Long layout time = refl
first-kept V2Short layout time = refl
first-kept V2Long layout time = refl

root_size : (kind : Kind) → 2 * entry_size kind ≤ 64
root_size V1Short = omega arith
root_size V1Long = omega arith
root_size V2Short = omega arith
root_size V2Long = omega arith

root-small : (kind : Kind) → is_size kind (2 * entry_size kind) ≡ true
root-small V1Short = refl
root-small V1Long = refl
root-small V2Short = refl
root-small V2Long = refl

two_places : (kind : Kind) → places kind (2 * entry_size kind) ≡ 2
two_places V1Short = refl
two_places V1Long = refl
two_places V2Short = refl
two_places V2Long = refl

first-fits : (kind : Kind) (layout : Super) (time : ℕ) → time < 2 ^ 32 → layout.first < 2 ^ 16 → layout.kind ≡ kind → FitsInode kind (first_inode layout time)
first-fits V1Short layout time now small is = record {
  mode_fits = omega arith;
  links_fit = omega arith;
  uid_fits = omega arith;
  gid_fits = omega arith;
  size_fits = omega (arith, root_size layout.kind);
  times_fit = All-replicate (λ time. time < 2 ^ 32) 3 time now;
  zones_fit = All-cons (λ zone. zone < 256 ^ 2) layout.first (replicate 9 0) (omega (arith, small)) (All-replicate (λ zone. zone < 256 ^ 2) 9 0 (omega arith));
  three = refl;
  ten = refl;
}
first-fits V1Long layout time now small is = record {
  mode_fits = omega arith;
  links_fit = omega arith;
  uid_fits = omega arith;
  gid_fits = omega arith;
  size_fits = omega (arith, root_size layout.kind);
  times_fit = All-replicate (λ time. time < 2 ^ 32) 3 time now;
  zones_fit = All-cons (λ zone. zone < 256 ^ 2) layout.first (replicate 9 0) (omega (arith, small)) (All-replicate (λ zone. zone < 256 ^ 2) 9 0 (omega arith));
  three = refl;
  ten = refl;
}
first-fits V2Short layout time now small is = record {
  mode_fits = omega arith;
  links_fit = omega arith;
  uid_fits = omega arith;
  gid_fits = omega arith;
  size_fits = omega (arith, root_size layout.kind);
  times_fit = All-replicate (λ time. time < 2 ^ 32) 3 time now;
  zones_fit = All-cons (λ zone. zone < 256 ^ 4) layout.first (replicate 9 0) (omega (arith, small)) (All-replicate (λ zone. zone < 256 ^ 4) 9 0 (omega arith));
  three = refl;
  ten = refl;
}
first-fits V2Long layout time now small is = record {
  mode_fits = omega arith;
  links_fit = omega arith;
  uid_fits = omega arith;
  gid_fits = omega arith;
  size_fits = omega (arith, root_size layout.kind);
  times_fit = All-replicate (λ time. time < 2 ^ 32) 3 time now;
  zones_fit = All-cons (λ zone. zone < 256 ^ 4) layout.first (replicate 9 0) (omega (arith, small)) (All-replicate (λ zone. zone < 256 ^ 4) 9 0 (omega arith));
  three = refl;
  ten = refl;
}

-- its bytes are read as what was written
root-read : (layout : Super) (time : ℕ) → time < 2 ^ 32 → layout.first < 2 ^ 16 → inode_of layout.kind (inode_bytes layout.kind (first_inode layout time)) ≡ first_inode layout time
root-read layout time now small =
    inode_by layout.kind (inode_bytes layout.kind (first_inode layout time)) (kept_inode layout.kind (first_inode layout time)) _ refl
    (inode_law layout.kind (first_inode layout time) (first-fits layout.kind layout time now small refl) (root-small layout.kind))
    ∙ first-kept layout.kind layout time

-- inode 1 is the first of the table
first_place : (layout : Super) → inode_place layout 1 ≡ record { sector = 2 * table_start layout; at = 0 }
unfolding inode_place
first_place layout =
    let none : (1 - 1) * inode_size layout.kind ≡ 0 = omega arith in
    rw (none, add-zero (2 * table_start layout)) refl

-- ---- its block

-- the root's two entries, in a block
abbrev root_block : Kind → List ℕ
root_block kind = filled_bytes 512 (root_entry kind here_name ++ root_entry kind above_name) ++ zeros

here-read : (kind : Kind) → entry_in kind (root_block kind) (0 % entries_per_block kind) ≡ entry_with 1 here_name
unfolding entry_of number16
here-read V1Short = refl
here-read V1Long = refl
here-read V2Short = refl
here-read V2Long = refl

above-read : (kind : Kind) → entry_in kind (root_block kind) (1 % entries_per_block kind) ≡ entry_with 1 above_name
unfolding entry_of number16
above-read V1Short = refl
above-read V1Long = refl
above-read V2Short = refl
above-read V2Long = refl

-- both entries are in the first block
first_block : (kind : Kind) (place : ℕ) → place < 2 → place / entries_per_block kind ≡ 0
first_block V1Short place few = omega (arith, few)
first_block V1Long place few = omega (arith, few)
first_block V2Short place few = omega (arith, few)
first_block V2Long place few = omega (arith, few)

-- ---- numbers

some-blocks : (kind : Kind) (inodes : ℕ) → 1 ≤ inodes → 1 ≤ (inodes * inode_size kind + 1023) / 1024
some-blocks V1Short inodes some = omega (arith, some)
some-blocks V1Long inodes some = omega (arith, some)
some-blocks V2Short inodes some = omega (arith, some)
some-blocks V2Long inodes some = omega (arith, some)

after-table : (layout : Super) → 1 ≤ layout.inodes → layout.first ≡ table_start layout + table_blocks layout → table_start layout < layout.first
after-table layout some follows = let blocks = some-blocks layout.kind layout.inodes some in omega (arith, follows, blocks)

same-test : (zone first : ℕ) → first ≤ zone → nat_le (zone + 1 - first) 1 ≡ nat_le zone first
same-test zone first from = grind (arith, nat_tests)

part-filled : (bytes : List ℕ) (len : ℕ) → length bytes ≡ len → part_of (filled_bytes 512 bytes) 0 len ≡ bytes
part-filled bytes len long = rw (← long) (take-append_seam bytes (replicate (512 - length bytes) 0))

-- ---- the volume

module _ (span : Span) (layout : Super) (time : ℕ) (image : Image) (laid : IsLaid layout) (within : 2 * layout.zones ≤ span.count) (now : time < 2 ^ 32) (whole : HasWholeSpan span image) where
  abbrev made : Image
  made = formatted span layout time image

  abbrev volume : Volume
  volume = volume_with span layout

  abbrev parts : Parts
  parts = parts_of volume made

  after : table_start layout < layout.first
  after = after-table layout laid.some_inode laid.follows

  -- a sector that was written
  in-sector : (sector : ℕ) → 2 ≤ sector → sector < 2 + 2 * layout.first → sector_of volume made sector ≡ formatted_sector layout time sector
  in-sector sector from below = formatted-in span layout time image sector from below

  super-read : super_at (sector_of volume made 2) span.count ≡ Ok layout
  super-read =
      ap (λ bytes. super_at bytes span.count) (in-sector 2 (omega arith) (omega (arith, after)) ∙ at-super layout time)
      ∙ super_law layout span.count zeros (laid-super layout span.count laid within) refl

  found : volume_at made span ≡ Ok volume
  unfolding volume_at
  found = rw super-read refl

  -- ---- marks

  inode-marked : (number : ℕ) → number ≤ layout.inodes → parts.has_inode number ≡ nat_le number 1
  unfolding parts_of
  inode-marked number there =
      let k : number / 4096 < 2 * layout.imap = omega (arith, there, laid.imap_holds) in
      let is : sector_of volume made (4 + number / 4096) ≡ map_sector layout.inodes (number / 4096) =
      in-sector (4 + number / 4096) (omega arith) (omega (arith, k, after)) ∙ at-inode_map layout time (number / 4096) k in
      let n : 4096 * (number / 4096) + number % 4096 ≡ number = omega arith in
      let last : nat_lt layout.inodes number ≡ false = le-ltb layout.inodes number there in
      ap (λ bytes. bit bytes (number % 4096)) is
      ∙ map_law layout.inodes (number / 4096) (number % 4096) (omega arith)
      ∙ ap (λ m. nat_le m 1 || nat_lt layout.inodes m) n
      ∙ ap (λ test. nat_le number 1 || test) last
      ∙ or-false (nat_le number 1)

  zone-marked : (zone : ℕ) → layout.first ≤ zone → zone < layout.zones → parts.has_zone zone ≡ nat_le zone layout.first
  unfolding parts_of
  zone-marked zone from below =
      let b : ℕ = zone + 1 - layout.first in
      let last : ℕ = layout.zones - layout.first in
      let k : b / 4096 < 2 * layout.zmap = omega (arith, from, below, laid.zmap_holds, laid.follows) in
      let is : sector_of volume made (2 * (2 + layout.imap) + b / 4096) ≡ map_sector last (b / 4096) =
      in-sector (2 * (2 + layout.imap) + b / 4096) (omega arith) (omega (arith, k, after)) ∙ at-zone_map layout time (2 * (2 + layout.imap) + b / 4096) (b / 4096) k refl in
      let n : 4096 * (b / 4096) + b % 4096 ≡ b = omega arith in
      let past : nat_lt last b ≡ false = le-ltb last b (omega (arith, from, below)) in
      ap (λ bytes. bit bytes (b % 4096)) is
      ∙ map_law last (b / 4096) (b % 4096) (omega arith)
      ∙ ap (λ m. nat_le m 1 || nat_lt last m) n
      ∙ ap (λ test. nat_le b 1 || test) past
      ∙ or-false (nat_le b 1)
      ∙ same-test zone layout.first from

  -- ---- the root

  root-is : parts.node 1 ≡ first_inode layout time
  unfolding parts_of
  root-is =
      let is : sector_of volume made (2 * table_start layout) ≡ filled_bytes 512 (inode_bytes layout.kind (first_inode layout time)) =
      in-sector (2 * table_start layout) (omega arith) (omega (arith, after)) ∙ at-table layout time in
      ap (λ place. inode_of layout.kind (inode_part volume made place)) (first_place layout)
      ∙ ap (λ bytes. inode_of layout.kind (part_of bytes 0 (inode_size layout.kind))) is
      ∙ ap (inode_of layout.kind) (part-filled (inode_bytes layout.kind (first_inode layout time)) (inode_size layout.kind) (length-first_inode layout.kind layout time))
      ∙ root-read layout time now laid.first_fits

  zone-is : parts.zone layout.first ≡ root_block layout.kind
  unfolding parts_of
  zone-is =
      let one = in-sector (zone_sector layout.first) (omega (arith, after)) (omega arith) ∙ at-root layout time after in
      let two = in-sector (zone_sector layout.first + 1) (omega (arith, after)) (omega arith) ∙ at-root_end layout time after in
      rw (one, two) refl

  root-zone : zone_number layout parts 1 0 ≡ layout.first
  unfolding zone_number pointer_by follow
  root-zone = ap (λ (node : Inode). slice_index node.zones 0) root-is

  root-bytes : block layout parts 1 0 ≡ root_block layout.kind
  unfolding block
  root-bytes =
      let some : (layout.first == 0) ≡ false = ne_eqb layout.first 0 (λ none. omega (arith, none, after)) in
      ap (zone_bytes parts) root-zone ∙ rw some zone-is

  first-entry : entry layout parts 1 0 ≡ entry_with 1 here_name
  unfolding entry
  first-entry =
      ap (λ index. entry_in layout.kind (block layout parts 1 index) (0 % entries_per_block layout.kind)) (first_block layout.kind 0 (omega arith))
      ∙ ap (λ bytes. entry_in layout.kind bytes (0 % entries_per_block layout.kind)) root-bytes ∙ here-read layout.kind

  second-entry : entry layout parts 1 1 ≡ entry_with 1 above_name
  unfolding entry
  second-entry =
      ap (λ index. entry_in layout.kind (block layout parts 1 index) (1 % entries_per_block layout.kind)) (first_block layout.kind 1 (omega arith))
      ∙ ap (λ bytes. entry_in layout.kind bytes (1 % entries_per_block layout.kind)) root-bytes ∙ above-read layout.kind

  root-directory : is_directory (parts.node 1) ≡ true
  root-directory = ap is_directory root-is

  two-entries : places layout.kind (parts.node 1).size ≡ 2
  two-entries = ap (λ (node : Inode). places layout.kind node.size) root-is ∙ two_places layout.kind

  read-root : read layout parts layout.first ≡ bare_read layout.first
  read-root =
      let mode : (parts.node 1).mode ≡ 0x41ED = ap (λ (node : Inode). node.mode) root-is in
      let small : is_size layout.kind (parts.node 1).size ≡ true = ap (λ (node : Inode). is_size layout.kind node.size) root-is ∙ root-small layout.kind in
      let zones : (parts.node 1).zones ≡ layout.first ∷ replicate 9 0 = ap (λ (node : Inode). node.zones) root-is in
      let marked : parts.has_inode 1 ≡ true = inode-marked 1 laid.some_inode ∙ refl in
      let used : parts.has_zone layout.first ≡ true = zone-marked layout.first (omega arith) laid.below ∙ le-leb layout.first layout.first (omega arith) in
      rw (root-directory, mode, small, two-entries, zones, first-entry, second-entry, marked, used) refl

  bare : BareRoot layout parts layout.first 2
  bare = read_bare layout parts layout.first read-root laid.some_inode (omega arith) laid.below

  made-sound : IsSound volume made
  unfolding IsSound
  made-sound = record {
    super = super-read;
    whole = λ sector below. length-formatted span layout time image sector (whole sector (omega (arith, below, within)));
    parts = bare-sound layout parts layout.first 2 bare;
  }

  root-thing : names_in volume made [] ≡ Some Directory
  unfolding names_in names reached thing
  root-thing =
      let mode = ap (λ (node : Inode). node.mode) root-is in
      rw mode refl

  no-name : (name : List ℕ) (path : List (List ℕ)) → names_in volume made (name ∷ path) ≡ None
  unfolding names_in names
  no-name name path = rw (bare-no_path layout parts layout.first 2 bare name path) refl

  pub root_alone : HasRootAlone volume made
  root_alone = record {
    is = found;
    sound = made-sound;
    root = root-thing;
    alone = no-name;
    free_inodes = λ number above there. inode-marked number there ∙ lt-leb number 1 above;
    free_zones = λ zone above below. zone-marked zone (omega (arith, above)) below ∙ lt-leb zone layout.first above;
  }

pub format_law : FormatLaw
format_law span kind inodes time layout image now is whole =
    root_alone span layout time image (layout-laid kind span.count inodes layout is) (layout-within kind span.count inodes layout is) now whole

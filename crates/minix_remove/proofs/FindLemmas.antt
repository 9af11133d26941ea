-- The first entry of a name in a directory, block by block.
use Rattle.std.proofs.Common.{◌≡◌, ◌≤◌, ◌<◌, ◌+◌, ◌*◌, ◌-◌, ℕ, true, List, bytes_eq, option_map, min, mul_comm, Option, Some, None, Ok, IfSome, refl, sym, ◌∙◌, ap, subst, arith}
use Rattle.std.proofs.lemmas.Slice.Eq.{bytes_eq-Decides}
use Rattle.disk_trait.specs.Past.{Past, Told, now_of}
use Rattle.lilo_model.specs.MinixEntries.{PlacedEntry, entry_with, placed_entry, entry_in, entry_at, find_below, entries_per_block, places}
use Rattle.lilo_model.specs.MinixLayout.{Kind, Inode}
use Rattle.lilo_model.specs.MinixParts.{Volume, Parts, parts_of, block_at}
use Rattle.minix_tree.specs.Directory.{directory_blocks, places_in}
use Rattle.minix_tree.specs.Found.{found_among, places_before}
use Rattle.minix_tree.proofs.FindLemmas.{entry_of_block, none_here, some_here, found_read, round}
use Rattle.minix_remove.specs.Found.{inode_of, IsAmong, IsEntryOf, FindsIn, Finds}
use Rattle.minix_remove.specs.declared.find.Found.{Found}

-- ---- in a block

-- the entry at a place has the name
pub says_name : (kind : Kind) (block name : List ℕ) (at : ℕ) (entry : PlacedEntry) → entry ≡ placed_entry kind block at → bytes_eq entry.name name ≡ true
    → entry_in kind block at ≡ entry_with entry.inode name
says_name kind block name at entry is same =
    let inode : (entry_in kind block at).inode ≡ entry.inode = sym (ap (λ (e : PlacedEntry). e.inode) is) in
    let called : (entry_in kind block at).name ≡ name = sym (ap (λ (e : PlacedEntry). e.name) is) ∙ (bytes_eq-Decides entry.name name).0 same in
    ap (λ i. entry_with i (entry_in kind block at).name) inode ∙ ap (λ n. entry_with entry.inode n) called

pub among : (kind : Kind) (block name : List ℕ) (first count at place : ℕ) (entry : PlacedEntry) → at < count → place ≡ first + at → entry ≡ placed_entry kind block at → 1 ≤ entry.inode
    → bytes_eq entry.name name ≡ true → IsAmong kind block name first count (record { place = place; inode = entry.inode })
among kind block name first count at place entry low lies is some same =
    let back : at ≡ place - first = omega (arith, lies) in
    record {
      from = omega (arith, lies);
      below = omega (arith, lies, low);
      says = subst (λ n. entry_in kind block n ≡ entry_with entry.inode name) back (says_name kind block name at entry is same);
      some = some;
    }

-- how many entries of a block there are
pub some_left : (kind : Kind) (size index first : ℕ) → index < directory_blocks kind size → first ≡ entries_per_block kind * index → first < places kind size
some_left kind size index first inside is = let at = round kind size index inside in omega (arith, at.next, at.here, at.some, is)

pub count_within : (kind : Kind) (size index first count : ℕ) → index < directory_blocks kind size → first ≡ entries_per_block kind * index → count ≡ places_in kind size index → first + count ≤ places kind size
count_within kind size index first count inside is counted = let at = round kind size index inside in omega (arith, at.next, is, counted)

pub block_begins : (kind : Kind) (index per : ℕ) → per ≡ entries_per_block kind → index * per ≡ entries_per_block kind * index
block_begins kind index per is = rw is (mul_comm index (entries_per_block kind))

pub block_count : (kind : Kind) (size index per all count : ℕ) → per ≡ entries_per_block kind → all ≡ places kind size → count ≡ min per (all - index * per)
    → count ≡ places_in kind size index
block_count kind size index per all count is is' counted = rw (counted, is, is', mul_comm index (entries_per_block kind)) refl

module _ (view : Volume) (inode : Inode) (name : List ℕ) (index count first : ℕ) (block : List ℕ) (inside : index < directory_blocks view.layout.kind inode.size)
    (few : count ≤ entries_per_block view.layout.kind) (begins : first ≡ entries_per_block view.layout.kind * index) (counted : count ≡ places_in view.layout.kind inode.size index) where
  pub place_below : (found : Option Found) → IfSome found (IsAmong view.layout.kind block name first count) → IfSome found (λ (entry : Found). entry.place < places view.layout.kind inode.size)
  place_below None at = tt
  place_below (Some found) at = let low = at.below in let all = count_within view.layout.kind inode.size index first count inside begins counted in omega (arith, low, all)

  pub inode_some : (found : Option Found) → IfSome found (IsAmong view.layout.kind block name first count) → IfSome found (λ (entry : Found). 1 ≤ entry.inode)
  inode_some None at = tt
  inode_some (Some found) at = at.some

  entry_of : (parts : Parts) (found : Found) → block_at view.layout parts inode index ≡ Ok block → IsAmong view.layout.kind block name first count found → IsEntryOf view.layout parts inode name found
  entry_of parts found read at =
      let low : found.place - first < entries_per_block view.layout.kind = let from = at.from in let below = at.below in omega (arith, from, below, few) in
      let there : entries_per_block view.layout.kind * index + (found.place - first) ≡ found.place = let from = at.from in omega (arith, from, begins) in
      record {
        below = place_below (Some found) at;
        says = sym (ap (entry_at view.layout parts inode) there) ∙ (entry_of_block view.layout parts inode index (found.place - first) block read low ∙ ap Ok at.says);
      }

  pub found_block : (past : Option Past) (found : Option Found) → Told past (λ now. block_at view.layout (parts_of view now) inode index ≡ Ok block)
      → option_map inode_of found ≡ found_among view.layout.kind block name count → IfSome found (IsAmong view.layout.kind block name first count)
      → Told past (λ now. FindsIn view.layout (parts_of view now) inode name index (Ok found))
  found_block None found read is at = tt
  found_block (Some past) None read is at = found_read (Some past) view inode name index count block None read counted is
  found_block (Some past) (Some found) read is at =
      (found_read (Some past) view inode name index count block (Some found.inode) read counted is, entry_of (parts_of view (now_of past)) found read at)

-- ---- in a directory

abbrev pub NoneBefore : Option Past → Volume → Inode → List ℕ → ℕ → Type 0
NoneBefore past view inode name index = Told past (λ now. find_below (entry_at view.layout (parts_of view now) inode) name (places_before view.layout.kind inode.size index) ≡ Ok None)

pub some_found : (past : Option Past) (view : Volume) (inode : Inode) (name : List ℕ) (index : ℕ) (found : Found) → index < directory_blocks view.layout.kind inode.size
    → NoneBefore past view inode name index → Told past (λ now. FindsIn view.layout (parts_of view now) inode name index (Ok (Some found)))
    → Told past (λ now. Finds view.layout (parts_of view now) inode name (Ok (Some found)))
some_found None view inode name index found inside none here = tt
some_found (Some past) view inode name index found inside none here = (some_here (Some past) view inode name index found.inode inside none here.0, here.1)

pub none_found : (past : Option Past) (view : Volume) (inode : Inode) (name : List ℕ) (index : ℕ) → index < directory_blocks view.layout.kind inode.size
    → NoneBefore past view inode name index → Told past (λ now. FindsIn view.layout (parts_of view now) inode name index (Ok None))
    → NoneBefore past view inode name (index + 1)
none_found past view inode name index inside none here = none_here past view inode name index inside none here

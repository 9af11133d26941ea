-- On a sound volume no zone of what has a name is refused.
use Rattle.std.proofs.Common.{◌≡◌, ◌≢◌, ℕ, zero, suc, ◌+◌, ◌-◌, ◌*◌, ◌/◌, ◌<◌, ◌≤◌, ◌==◌, Bool, true, false, nat_lt, if◌then◌else◌, List, [], ◌∷◌, length, All, Option, Some, None, Ok, refl, sym, ap, subst, arith, eq-eqb}
use Rattle.std.specs.Prelude.{slice_index}
use Rattle.std.specs.Option.{option_or}
use Rattle.std.proofs.lemmas.Nat.{mod_below}
use Rattle.std.proofs.lemmas.Bool.{le-leb, lt-ltb, ltb-true, eqb-true, ne_eqb}
use Rattle.lilo_model.specs.MinixLayout.{Kind, V1Short, V1Long, V2Short, V2Long, Super, numbers_in_zone}
use Rattle.lilo_model.specs.MinixParts.{Parts, Pointer, IsPointer, has_zones, inside, follow, follow_at, zone_at, block_at, blocks_at, blocks_for, content_at, trail_of, pointer_with, pointer_by, block_pointer}
use Rattle.lilo_model.specs.MinixEntries.{entries_per_block, entry_at, or_later, find_below, find_entry, named_inode, places}
use Rattle.lilo_model.specs.MinixNames.{pointer, zone_number, block, blocks, content, entry, first_named, Named, Sound}
use Rattle.minix_laws.specs.Plain.{SoundLaw}

-- ---- the pointer of a block is one that an inode has

-- the trail to a block
pub length-trail_of : (per depth index : ℕ) → length (trail_of per depth index) ≡ depth
length-trail_of per zero index = refl
length-trail_of per (suc depth) index = ap suc (length-trail_of per depth (index / per))

within-trail_of : (per depth index : ℕ) → 0 < per → All (λ n. n < per) (trail_of per depth index)
within-trail_of per zero index some k d below = absurd (omega (arith, below))
within-trail_of per (suc depth) index some zero d below = mod_below index per some
within-trail_of per (suc depth) index some (suc k) d below = within-trail_of per depth (index / per) some k d (omega (arith, below))

pub some_numbers : (kind : Kind) → 0 < numbers_in_zone kind
some_numbers V1Short = omega arith
some_numbers V1Long = omega arith
some_numbers V2Short = omega arith
some_numbers V2Long = omega arith

is_pointer-with : (kind : Kind) (top depth index : ℕ) → top < 10 → depth ≤ top - 6 → IsPointer kind (pointer_with (numbers_in_zone kind) top depth index)
is_pointer-with kind top depth index ten deep = record {
  ten = ten;
  deep = omega (arith, length-trail_of (numbers_in_zone kind) depth index, deep);
  within = within-trail_of (numbers_in_zone kind) depth index (some_numbers kind);
}

pub is_pointer-block : (kind : Kind) (index : ℕ) → IsPointer kind (block_pointer kind index)
unfolding pointer_by
is_pointer-block kind index = by_first _ refl
  where
    by_third : (test : Bool) → IsPointer kind (if test then pointer_with (numbers_in_zone kind) 8 2 (index - 7 - numbers_in_zone kind) else pointer_with (numbers_in_zone kind) 9 3 (index - 7 - numbers_in_zone kind - numbers_in_zone kind * numbers_in_zone kind))
    by_third true = is_pointer-with kind 8 2 (index - 7 - numbers_in_zone kind) (omega arith) (omega arith)
    by_third false = is_pointer-with kind 9 3 (index - 7 - numbers_in_zone kind - numbers_in_zone kind * numbers_in_zone kind) (omega arith) (omega arith)

    by_second : (test : Bool) → IsPointer kind (if test then pointer_with (numbers_in_zone kind) 7 1 (index - 7) else (if nat_lt index (7 + numbers_in_zone kind + numbers_in_zone kind * numbers_in_zone kind) then pointer_with (numbers_in_zone kind) 8 2 (index - 7 - numbers_in_zone kind) else pointer_with (numbers_in_zone kind) 9 3 (index - 7 - numbers_in_zone kind - numbers_in_zone kind * numbers_in_zone kind)))
    by_second true = is_pointer-with kind 7 1 (index - 7) (omega arith) (omega arith)
    by_second false = by_third (nat_lt index (7 + numbers_in_zone kind + numbers_in_zone kind * numbers_in_zone kind))

    by_first : (test : Bool) → nat_lt index 7 ≡ test → IsPointer kind (if test then pointer_with (numbers_in_zone kind) index 0 0 else (if nat_lt index (7 + numbers_in_zone kind) then pointer_with (numbers_in_zone kind) 7 1 (index - 7) else (if nat_lt index (7 + numbers_in_zone kind + numbers_in_zone kind * numbers_in_zone kind) then pointer_with (numbers_in_zone kind) 8 2 (index - 7 - numbers_in_zone kind) else pointer_with (numbers_in_zone kind) 9 3 (index - 7 - numbers_in_zone kind - numbers_in_zone kind * numbers_in_zone kind))))
    by_first true is = is_pointer-with kind index 0 0 (let low : index < 7 = ltb-true index 7 is in omega (arith, low)) (omega arith)
    by_first false is = by_second (nat_lt index (7 + numbers_in_zone kind))

-- ---- no number is refused

pub inside-hole : (super : Super) → inside super 0 ≡ Ok 0
unfolding inside
inside-hole super = refl

pub inside-zone : (super : Super) (zone : ℕ) → zone ≢ 0 → super.first ≤ zone → zone < super.zones → inside super zone ≡ Ok zone
unfolding inside
inside-zone super zone some from below = rw (ne_eqb zone 0 some, le-leb super.first zone from, lt-ltb zone super.zones below) refl

module _ (super : Super) (parts : Parts) (sound : Sound super parts) (number : ℕ) (named : Named super parts number) (zones : has_zones (parts.node number) ≡ true) where
  inside-by : (at : Pointer) → IsPointer super.kind at → (hole : Bool) → (pointer super parts number at == 0) ≡ hole → inside super (pointer super parts number at) ≡ Ok (pointer super parts number at)
  inside-by at is true hole =
      let none : pointer super parts number at ≡ 0 = eqb-true (pointer super parts number at) 0 hole in
      let P : ℕ → Type 0 = λ n. inside super n ≡ Ok n in
      subst P (sym none) (inside-hole super)
  inside-by at is false hole =
      let some : pointer super parts number at ≢ 0 = λ e. let t = eq-eqb (pointer super parts number at) 0 e in cc in
      let range = sound.zone_range number at (pointer super parts number at) (record { named = named; to = record { kind = zones; place = is; is = refl; some = some } }) in
      inside-zone super (pointer super parts number at) some range.0 range.1

  inside-pointer : (at : Pointer) → IsPointer super.kind at → inside super (pointer super parts number at) ≡ Ok (pointer super parts number at)
  inside-pointer at is = inside-by at is _ refl

  at_pointer-given : (top : ℕ) (trail : List ℕ) → IsPointer super.kind (record { top = top; trail = trail })
      → follow_at super parts.zone (slice_index (parts.node number).zones top) trail ≡ Ok (follow super.kind parts.zone (slice_index (parts.node number).zones top) trail)
  unfolding follow_at follow
  at_pointer-given top [] is = inside-pointer (record { top = top; trail = [] }) is
  at_pointer-given top (index ∷ before) is =
      let outer : IsPointer super.kind (record { top = top; trail = before }) = record {
        ten = is.ten;
        deep = omega (arith, is.deep);
        within = λ k d below. is.within (suc k) d (omega (arith, below));
      } in
      rw (at_pointer-given top before outer) (inside-pointer (record { top = top; trail = index ∷ before }) is)

  zone-given : (index : ℕ) → zone_at super parts (parts.node number) index ≡ Ok (zone_number super parts number index)
  unfolding zone_at zone_number
  zone-given index = at_pointer-given (block_pointer super.kind index).top (block_pointer super.kind index).trail (is_pointer-block super.kind index)

  bytes-given : (index : ℕ) → block_at super parts (parts.node number) index ≡ Ok (block super parts number index)
  unfolding block_at block
  bytes-given index = rw (zone-given index) refl

  blocks-given : (count : ℕ) → blocks_at (block_at super parts (parts.node number)) count ≡ Ok (blocks (block super parts number) count)
  blocks-given zero = refl
  blocks-given (suc count) = rw (blocks-given count, bytes-given count) refl

  whole-given : content_at super parts (parts.node number) ≡ Ok (content super parts number)
  unfolding content_at content
  whole-given = rw (blocks-given (blocks_for (parts.node number).size)) refl

  at-given : (place : ℕ) → entry_at super parts (parts.node number) place ≡ Ok (entry super parts number place)
  unfolding entry_at entry
  at-given place = rw (bytes-given (place / entries_per_block super.kind)) refl

  later-given : (name : List ℕ) (place : ℕ) (before : Option ℕ) → or_later (entry_at super parts (parts.node number)) name place before ≡ Ok (option_or before (named_inode name (entry super parts number place)))
  later-given name place (Some inode) = refl
  later-given name place None = rw (at-given place) refl

  below-given : (name : List ℕ) (count : ℕ) → find_below (entry_at super parts (parts.node number)) name count ≡ Ok (first_named (entry super parts number) name count)
  unfolding first_named
  below-given name zero = refl
  below-given name (suc place) = rw (below-given name place) (later-given name place (first_named (entry super parts number) name place))

  found-given : (name : List ℕ) → find_entry super parts (parts.node number) name ≡ Ok (first_named (entry super parts number) name (places super.kind (parts.node number).size))
  unfolding find_entry
  found-given name = below-given name (places super.kind (parts.node number).size)

-- on a sound volume
pub sound_law : SoundLaw
sound_law super parts number sound named zones = record {
  zone = zone-given super parts sound number named zones;
  bytes = bytes-given super parts sound number named zones;
  whole = whole-given super parts sound number named zones;
  at = at-given super parts sound number named zones;
  found = found-given super parts sound number named zones;
}

-- Where nothing is refused, the values with refusals are the plain ones.
use Rattle.std.proofs.Common.{◌≡◌, ℕ, zero, suc, ◌/◌, ◌%◌, ◌==◌, ◌&&◌, ◌||◌, Bool, true, false, nat_le, nat_lt, List, [], ◌∷◌, ◌++◌, take, Option, Some, None, Result, Ok, Err, refl, ◌∙◌, ap}
use Rattle.std.specs.Prelude.{slice_index}
use Rattle.std.specs.Option.{option_or}
use Rattle.lilo_model.specs.Checks.{◌>>=◌}
use Rattle.lilo_model.specs.MinixLayout.{Super}
use Rattle.lilo_model.specs.MinixParts.{Parts, ZoneFault, inside, number_below, follow, follow_at, zone_at, zone_bytes, block_at, blocks_at, blocks_for, content_at, block_pointer}
use Rattle.lilo_model.specs.MinixEntries.{Entry, entry_in, entries_per_block, entry_at, or_later, find_below, find_entry, named_inode, places}
use Rattle.lilo_model.specs.MinixNames.{zone_number, block, blocks, content, entry, first_named}
use Rattle.minix_laws.specs.Plain.{GivenLaw}

-- what a chain gives comes from what its first check gives
bind-ok : {A B F : Type 0} (first : Result A F) (next : A → Result B F) (to : B) → (first >>= next) ≡ Ok to → (value : A) × (first ≡ Ok value) × (next value ≡ Ok to)
bind-ok (Ok value) next to given = (value, refl, given)
bind-ok (Err fault) next to given = cc

inside-by : (super : Super) (zone to : ℕ) (test : Bool) → (zone == 0 || (nat_le super.first zone && nat_lt zone super.zones)) ≡ test → inside super zone ≡ Ok to → zone ≡ to
unfolding inside
inside-by super zone to true is given = let e = rw is at given in cc
inside-by super zone to false is given = let e = rw is at given in cc

inside-ok : (super : Super) (zone to : ℕ) → inside super zone ≡ Ok to → zone ≡ to
inside-ok super zone to given = inside-by super zone to _ refl given

pub follow_at-ok : (super : Super) (bytes_of : ℕ → List ℕ) (zone : ℕ) (trail : List ℕ) (to : ℕ) → follow_at super bytes_of zone trail ≡ Ok to → follow super.kind bytes_of zone trail ≡ to
unfolding follow_at follow
follow_at-ok super bytes_of zone [] to given = inside-ok super zone to given
follow_at-ok super bytes_of zone (index ∷ before) to given =
    let first = bind-ok (follow_at super bytes_of zone before) (λ n. inside super (number_below super.kind bytes_of n index)) to given in
    ap (λ n. number_below super.kind bytes_of n index) (follow_at-ok super bytes_of zone before first.0 first.1)
    ∙ inside-ok super (number_below super.kind bytes_of first.0 index) to first.2

-- joined blocks
blocks_at-ok : (at : ℕ → Result (List ℕ) ZoneFault) (plain : ℕ → List ℕ) → ((index : ℕ) (bytes : List ℕ) → at index ≡ Ok bytes → plain index ≡ bytes)
    → (count : ℕ) (bytes : List ℕ) → blocks_at at count ≡ Ok bytes → blocks plain count ≡ bytes
blocks_at-ok at plain same zero bytes given = cc
blocks_at-ok at plain same (suc count) bytes given =
    let front = bind-ok (blocks_at at count) (λ before. at count >>= λ last. Ok (before ++ last)) bytes given in
    let last = bind-ok (at count) (λ one. Ok (front.0 ++ one)) bytes front.2 in
    let one : blocks plain count ≡ front.0 = blocks_at-ok at plain same count front.0 front.1 in
    let two : plain count ≡ last.0 = same count last.0 last.1 in
    let all : front.0 ++ last.0 ≡ bytes = let e = last.2 in cc in
    rw (one, two) all

-- the first entry of a name
find_below-ok : (at : ℕ → Result Entry ZoneFault) (plain : ℕ → Entry) → ((place : ℕ) (what : Entry) → at place ≡ Ok what → plain place ≡ what)
    → (name : List ℕ) (count : ℕ) (found : Option ℕ) → find_below at name count ≡ Ok found → first_named plain name count ≡ found
unfolding first_named
find_below-ok at plain same name zero found given = cc
find_below-ok at plain same name (suc place) found given =
    let front = bind-ok (find_below at name place) (λ before. or_later at name place before) found given in
    let one : first_named plain name place ≡ front.0 = find_below-ok at plain same name place front.0 front.1 in
    ap (λ before. option_or before (named_inode name (plain place))) one ∙ later front.0 front.2
  where
    later : (before : Option ℕ) → or_later at name place before ≡ Ok found → option_or before (named_inode name (plain place)) ≡ found
    later (Some inode) is = cc
    later None is =
        let last = bind-ok (at place) (λ what. Ok (named_inode name what)) found is in
        let two : plain place ≡ last.0 = same place last.0 last.1 in
        let e = last.2 in
        rw two (cc)

module _ (super : Super) (parts : Parts) (number : ℕ) where
  zone-ok : (index zone : ℕ) → zone_at super parts (parts.node number) index ≡ Ok zone → zone_number super parts number index ≡ zone
  unfolding zone_at zone_number
  zone-ok index zone given = follow_at-ok super parts.zone (slice_index (parts.node number).zones (block_pointer super.kind index).top) (block_pointer super.kind index).trail zone given

  bytes-ok : (index : ℕ) (bytes : List ℕ) → block_at super parts (parts.node number) index ≡ Ok bytes → block super parts number index ≡ bytes
  unfolding block_at block
  bytes-ok index bytes given =
      let first = bind-ok (zone_at super parts (parts.node number) index) (λ zone. Ok (zone_bytes parts zone)) bytes given in
      let is : zone_bytes parts first.0 ≡ bytes = let e = first.2 in cc in
      ap (zone_bytes parts) (zone-ok index first.0 first.1) ∙ is

  whole-ok : (bytes : List ℕ) → content_at super parts (parts.node number) ≡ Ok bytes → content super parts number ≡ bytes
  unfolding content_at content
  whole-ok bytes given =
      let size = (parts.node number).size in
      let first = bind-ok (blocks_at (block_at super parts (parts.node number)) (blocks_for size)) (λ joined. Ok (take size joined)) bytes given in
      let is : take size first.0 ≡ bytes = let e = first.2 in cc in
      ap (take size) (blocks_at-ok (block_at super parts (parts.node number)) (block super parts number) bytes-ok (blocks_for size) first.0 first.1) ∙ is

  at-ok : (place : ℕ) (what : Entry) → entry_at super parts (parts.node number) place ≡ Ok what → entry super parts number place ≡ what
  unfolding entry_at entry
  at-ok place what given =
      let per = entries_per_block super.kind in
      let first = bind-ok (block_at super parts (parts.node number) (place / per)) (λ one. Ok (entry_in super.kind one (place % per))) what given in
      let is : entry_in super.kind first.0 (place % per) ≡ what = let e = first.2 in cc in
      ap (λ one. entry_in super.kind one (place % per)) (bytes-ok (place / per) first.0 first.1) ∙ is

  found-ok : (name : List ℕ) (inode : Option ℕ) → find_entry super parts (parts.node number) name ≡ Ok inode → first_named (entry super parts number) name (places super.kind (parts.node number).size) ≡ inode
  unfolding find_entry
  found-ok name inode given = find_below-ok (entry_at super parts (parts.node number)) (entry super parts number) at-ok name (places super.kind (parts.node number).size) inode given

-- on any volume
pub given_law : GivenLaw
given_law super parts number = record {
  zone = zone-ok super parts number;
  bytes = bytes-ok super parts number;
  whole = whole-ok super parts number;
  at = at-ok super parts number;
  found = found-ok super parts number;
}

-- A hole of a new file takes no zone. Each of its indirect zones lies above a block that takes one, so all of them are on the
-- way to such blocks, and none is left for a hole.
use Rattle.std.proofs.Common.{All, ◌≡◌, ◌≢◌, ◌≤◌, ◌<◌, ◌+◌, ◌*◌, ◌-◌, ◌/◌, ◌%◌, ◌++◌, ◌==◌, ℕ, zero, suc, Bool, true, false, List, [], ◌∷◌, length, take, drop, get_or, refl, sym, ap, ◌∙◌, subst, arith, ◌⊎◌, inl, inr, ⊎_elim, eq-eqb}
use Rattle.std.specs.Prelude.{slice_index, if◌then◌else◌}
use Rattle.std.proofs.lemmas.Bool.{cases_lt, cases_eq, cases_Bool, ne_eqb}
use Rattle.std.proofs.lemmas.List.{length-append, length-drop}
use Rattle.std.proofs.lemmas.List.Elements.{All-nil, All-cons, All-tail}
use Rattle.std.proofs.lemmas.Nat.{div-add-mod', div_below, mod_below}
use Rattle.std.proofs.Math.Nat.{mul-le-mul_right}
use Rattle.lilo_model.specs.MinixLayout.{Kind, V1Short, V1Long, V2Short, V2Long, Super, numbers_in_zone, reach}
use Rattle.lilo_model.specs.MinixParts.{Parts, Pointer, IsPointer, block_pointer, follow, has_zones, number_below}
use Rattle.lilo_model.specs.MinixNames.{pointer, zone_number, PointsTo}
use Rattle.write_model.specs.FileZones.{is_any, count_made, made_indirect}
use Rattle.minix_laws.proofs.Inside.{is_pointer-block, some_numbers}
use Rattle.minix_choice.specs.Suits.{IsFileOf}
use Rattle.write_model.specs.Choice.{Choice}
use Rattle.minix_choice_laws.specs.Sources.{Source, Block, Indirect, FileZones, zone_from, source_of}
use Rattle.minix_choice_laws.proofs.Given.{past_end, given_hole, given_at, count_before}
use Rattle.minix_choice_laws.proofs.Made.{under, get_of_drop, past_made}
use Rattle.minix_choice_laws.proofs.Places.{at_zero, at_second, at_third, at_behind}
use Rattle.minix_choice_laws.proofs.Pointers.{pointer_at, is_in_one, is_in_two, is_in_three, is_below_two, is_below_three, is_last, pointers_once, block_leads}
use Rattle.minix_choice_laws.proofs.Sources.{top_one, top_two, top_three}

-- ---- more numbers than there is room for

-- so many and one more, each below so many: two of them are the same
pigeon : (n : ℕ) (f : ℕ → ℕ) → ((i : ℕ) → i < suc n → f i < n) → ((i j : ℕ) → i < j → j < suc n → f i ≢ f j) → ⊥
pigeon zero f below once = let no = below 0 (omega arith) in absurd (omega (arith, no))
pigeon (suc n) f below once = pigeon n g g-below g-once
  where
    g : ℕ → ℕ
    g i = if f i == n then f (suc n) else f i

    top : (i : ℕ) → f i ≡ n → g i ≡ f (suc n)
    top i is = rw (eq-eqb (f i) n is) refl

    low : (i : ℕ) → f i ≢ n → g i ≡ f i
    low i isnt = rw (ne_eqb (f i) n isnt) refl

    g-below : (i : ℕ) → i < suc n → g i < n
    g-below i small = ⊎_elim
        (λ is.
        let e = top i is in
        let last = below (suc n) (omega arith) in
        let apart : f (suc n) ≢ n = λ same. once i (suc n) small (omega arith) (is ∙ sym same) in
        omega (arith, e, last, apart))
        (λ isnt. let e = low i isnt in let one = below i (omega (arith, small)) in omega (arith, e, one, isnt))
        (cases_eq (f i) n)

    g-once : (i j : ℕ) → i < j → j < suc n → g i ≢ g j
    g-once i j less small = ⊎_elim
        (λ is. ⊎_elim
        (λ also. λ same. once i j less (omega (arith, small)) (is ∙ sym also))
        (λ isnt. λ same. once j (suc n) small (omega arith) (sym (sym (top i is) ∙ (same ∙ low j isnt))))
        (cases_eq (f j) n))
        (λ isnt. ⊎_elim
        (λ also. λ same. once i (suc n) (omega (arith, less, small)) (omega arith) (sym (low i isnt) ∙ (same ∙ top j also)))
        (λ neither. λ same. once i j less (omega (arith, small)) (sym (low i isnt) ∙ (same ∙ low j neither)))
        (cases_eq (f j) n))
        (cases_eq (f i) n)

-- as many that are below so many, each another one: each number is one of them
module _ (n : ℕ) (f : ℕ → ℕ) (below : (i : ℕ) → i < n → f i < n) (once : (i j : ℕ) → i < j → j < n → f i ≢ f j) (k : ℕ) (low : k < n) where
  module _ (none : (i : ℕ) → i < n → f i ≢ k) where
    abbrev g : ℕ → ℕ
    g zero = k
    g (suc i) = f i

    g-low : (i : ℕ) → i < suc n → g i < n
    g-low zero small = low
    g-low (suc i) small = below i (omega (arith, small))

    g-once : (i j : ℕ) → i < j → j < suc n → g i ≢ g j
    g-once zero zero less small = absurd (omega (arith, less))
    g-once zero (suc j) less small = λ same. none j (omega (arith, small)) (sym same)
    g-once (suc i) zero less small = absurd (omega (arith, less))
    g-once (suc i) (suc j) less small = once i j (omega (arith, less)) (omega (arith, small))

    never : ⊥
    never = pigeon n g g-low g-once

  first-of : (count : ℕ) → count ≤ n → ((i : ℕ) × (i < n) × (f i ≡ k)) ⊎ ((i : ℕ) → i < count → f i ≢ k)
  first-of zero few = inr (λ i small. absurd (omega (arith, small)))
  first-of (suc count) few = ⊎_elim
      (λ (one : (i : ℕ) × (i < n) × (f i ≡ k)). inl one)
      (λ (none : (i : ℕ) → i < count → f i ≢ k). ⊎_elim
      (λ (same : f count ≡ k). inl (count, omega (arith, few), same))
      (λ (isnt : f count ≢ k). inr (λ i small. ⊎_elim
      (λ (here : i ≡ count). λ same. isnt (ap f (sym here) ∙ same))
      (λ (elsewhere : i ≢ count). none i (omega (arith, small, elsewhere)))
      (cases_eq i count)))
      (cases_eq (f count) k))
      (first-of count (omega (arith, few)))

  pub onto : (i : ℕ) × (i < n) × (f i ≡ k)
  onto = ⊎_elim
      (λ (one : (i : ℕ) × (i < n) × (f i ≡ k)). one)
      (λ (none : (i : ℕ) → i < n → f i ≢ k). absurd (never none))
      (first-of n (omega arith))

-- ---- on the way to a block

-- a pointer to the indirect zone at a place, on the way to a block that gets a zone
pub record IsOnWay (kind : Kind) (made : List Bool) (place : ℕ) : Type 0 where
  pub at : Pointer
  pub inside : IsPointer kind at
  pub leads : source_of (numbers_in_zone kind) at ≡ Indirect place
  pub block : ℕ
  pub there : get_or made block false ≡ true
  pub more : List ℕ
  pub way : block_pointer kind block ≡ pointer_at at.top (more ++ at.trail)

tail-all : (P : ℕ → Type 0) (more trail : List ℕ) → All P (more ++ trail) → All P trail
tail-all P [] trail all = all
tail-all P (index ∷ more) trail all = tail-all P more trail (All-tail P index (more ++ trail) all)

-- a block that gets a zone, among the first of some, in a range, and anywhere
first-made : (len : ℕ) (blocks : List Bool) → is_any (take len blocks) ≡ true → (m : ℕ) × (m < len) × (get_or blocks m false ≡ true)
first-made zero blocks is = absurd (let no : false ≡ true = is in cc)
first-made (suc len) [] is = absurd (let no : false ≡ true = is in cc)
first-made (suc len) (true ∷ blocks) is = (0, omega arith, refl)
first-made (suc len) (false ∷ blocks) is =
    let later = first-made len blocks is in
    let low = later.1 in
    (suc later.0, omega (arith, low), later.2)

some-made : (blocks : List Bool) → is_any blocks ≡ true → (m : ℕ) × (get_or blocks m false ≡ true)
some-made [] is = absurd (let no : false ≡ true = is in cc)
some-made (true ∷ blocks) is = (0, refl)
some-made (false ∷ blocks) is = let later = some-made blocks is in (suc later.0, later.1)

under-made : (start len : ℕ) (blocks : List Bool) → under start len blocks ≡ true → (m : ℕ) × (m < len) × (get_or blocks (start + m) false ≡ true)
under-made start len blocks is = let one = first-made len (drop start blocks) is in (one.0, one.1, sym (get_of_drop start one.0 blocks) ∙ one.2)

full-reach : (kind : Kind) → reach kind ≤ 7 + numbers_in_zone kind + numbers_in_zone kind * numbers_in_zone kind + numbers_in_zone kind * numbers_in_zone kind * numbers_in_zone kind
full-reach V1Short = omega arith
full-reach V1Long = omega arith
full-reach V2Short = omega arith
full-reach V2Long = omega arith

module _ (kind : Kind) (made : List Bool) (few : length made ≤ reach kind) where
  abbrev per : ℕ
  per = numbers_in_zone kind

  least : 0 < per
  least = some_numbers kind

  abbrev Below : ℕ → Type 0
  Below index = index < per

  there-low : (block : ℕ) → get_or made block false ≡ true → block < length made
  there-low block is = ⊎_elim
      (λ (low : block < length made). low)
      (λ (high : length made ≤ block). absurd (let no : false ≡ true = sym (past_made per least made block high) ∙ is in cc))
      (cases_lt block (length made))

  on-way-by : (top : ℕ) (more trail : List ℕ) (block place : ℕ) → IsPointer kind (pointer_at top (more ++ trail)) → source_of per (pointer_at top trail) ≡ Indirect place
      → source_of per (pointer_at top (more ++ trail)) ≡ Block block → get_or made block false ≡ true → IsOnWay kind made place
  on-way-by top more trail block place whole leads to there = record {
    at = pointer_at top trail;
    inside = record {
      ten = whole.ten;
      deep = let deep = whole.deep in let long = length-append more trail in omega (arith, deep, long);
      within = tail-all Below more trail whole.within;
    };
    leads = leads;
    block = block;
    there = there;
    more = more;
    way = pointers_once per least kind refl (block_pointer kind block) (pointer_at top (more ++ trail)) (is_pointer-block kind block) whole
        (block_leads kind block (let low = there-low block there in omega (arith, low, few)) ∙ sym to);
  }

  inside-one : (top i : ℕ) → 7 ≤ top → top < 10 → i < per → IsPointer kind (pointer_at top (i ∷ []))
  inside-one top i from to low = record { ten = to; deep = omega (arith, from); within = All-cons Below i [] low (All-nil Below) }

  inside-two : (top j i : ℕ) → 8 ≤ top → top < 10 → j < per → i < per → IsPointer kind (pointer_at top (j ∷ (i ∷ [])))
  inside-two top j i from to inner outer =
      record { ten = to; deep = omega (arith, from); within = All-cons Below j (i ∷ []) inner (All-cons Below i [] outer (All-nil Below)) }

  inside-three : (k j i : ℕ) → k < per → j < per → i < per → IsPointer kind (pointer_at 9 (k ∷ (j ∷ (i ∷ []))))
  inside-three k j i inner middle outer = record {
    ten = omega arith;
    deep = omega arith;
    within = All-cons Below k (j ∷ (i ∷ [])) inner (All-cons Below j (i ∷ []) middle (All-cons Below i [] outer (All-nil Below)));
  }

  at-block : (n m : ℕ) → n ≡ m → get_or made n false ≡ true → get_or made m false ≡ true
  at-block n m same is = subst (λ (b : ℕ). get_or made b false ≡ true) same is

  -- each place
  way-zero : get_or (made_indirect per made) 0 false ≡ true → IsOnWay kind made 0
  way-zero is =
      let one = under-made 7 per made (sym (at_zero per least made) ∙ is) in
      on-way-by 7 (one.0 ∷ []) [] (7 + one.0) 0 (inside-one 7 one.0 (omega arith) (omega arith) one.1) (top_one per) (is_in_one per least one.0) one.2

  way-one : get_or (made_indirect per made) 1 false ≡ true → IsOnWay kind made 1
  way-one is =
      let one = under-made (7 + per) (per * per) made (sym (at_second per least made 0 (omega arith)) ∙ is) in
      let m : ℕ = one.0 in
      let outer : m / per < per = div_below m per per least one.1 in
      let inner : m % per < per = mod_below m per least in
      let parts = div-add-mod' m per in
      on-way-by 8 (m % per ∷ (m / per ∷ [])) [] (7 + per + m / per * per + m % per) 1 (inside-two 8 (m % per) (m / per) (omega arith) (omega arith) inner outer) (top_two per)
      (is_below_two per least (m / per) (m % per) outer)
      (at-block (7 + per + m) (7 + per + m / per * per + m % per) (omega (arith, parts)) one.2)

  way-second : (i : ℕ) → i < per → get_or (made_indirect per made) (2 + i) false ≡ true → IsOnWay kind made (2 + i)
  way-second i small is =
      let e : 2 + i ≡ suc (suc i) = omega arith in
      let one = under-made (7 + per + i * per) per made (sym (at_second per least made (suc i) (omega (arith, small))) ∙ (sym (ap (λ (k : ℕ). get_or (made_indirect per made) k false) e) ∙ is)) in
      on-way-by 8 (one.0 ∷ []) (i ∷ []) (7 + per + i * per + one.0) (2 + i) (inside-two 8 one.0 i (omega arith) (omega arith) one.1 small) (is_in_two per least i)
      (is_below_two per least i one.0 small) one.2

  way-third : get_or (made_indirect per made) (2 + per) false ≡ true → IsOnWay kind made (2 + per)
  way-third is =
      let one = some-made (drop (7 + per + per * per) made) (sym (at_third per least made) ∙ is) in
      let m : ℕ = one.0 in
      let there : get_or made (7 + per + per * per + m) false ≡ true = sym (get_of_drop (7 + per + per * per) m made) ∙ one.1 in
      let low = there-low (7 + per + per * per + m) there in
      let full = full-reach kind in
      let whole : m < per * per * per = omega (arith, low, few, full) in
      let upper : m / per < per * per = div_below m per (per * per) least whole in
      let outer : m / per / per < per = div_below (m / per) per per least upper in
      let middle : m / per % per < per = mod_below (m / per) per least in
      let inner : m % per < per = mod_below m per least in
      let first : m / per / per * per + m / per % per ≡ m / per = div-add-mod' (m / per) per in
      let second : (m / per / per * per + m / per % per) * per + m % per ≡ m = ap (λ x. x * per + m % per) first ∙ div-add-mod' m per in
      on-way-by 9 (m % per ∷ (m / per % per ∷ (m / per / per ∷ []))) [] (7 + per + per * per + (m / per / per * per + m / per % per) * per + m % per) (2 + per)
      (inside-three (m % per) (m / per % per) (m / per / per) inner middle outer) (top_three per)
      (is_last per least (m / per / per) (m / per % per) (m % per) middle)
      (at-block (7 + per + per * per + m) (7 + per + per * per + (m / per / per * per + m / per % per) * per + m % per) (omega (arith, second)) there)

  -- below the third level's zone there are so many at most
  outer-low : (o m : ℕ) → get_or made (7 + per + per * per + o * (per * per) + m) false ≡ true → o < per
  outer-low o m there = ⊎_elim
      (λ (low : o < per). low)
      (λ (high : per ≤ o). absurd (
      let low = there-low (7 + per + per * per + o * (per * per) + m) there in
      let full = full-reach kind in
      let many : per * (per * per) ≤ o * (per * per) = mul-le-mul_right (per * per) high in
      omega (arith, low, few, full, many)))
      (cases_lt o per)

  way-behind : (place o r : ℕ) → r ≤ per → place ≡ 3 + per + (o * (1 + per) + r) → get_or (made_indirect per made) place false ≡ true → IsOnWay kind made place
  way-behind place o zero small is made-there =
      let one = under-made (7 + per + per * per + o * (per * per)) (per * per) made (sym (at_behind per least made place o 0 small is) ∙ made-there) in
      let m : ℕ = one.0 in
      let outer = outer-low o m one.2 in
      let middle : m / per < per = div_below m per per least one.1 in
      let inner : m % per < per = mod_below m per least in
      let parts = div-add-mod' m per in
      subst (λ (p : ℕ). IsOnWay kind made p) (let e : 3 + per + o * (1 + per) ≡ place = omega (arith, is) in e)
      (on-way-by 9 (m % per ∷ (m / per ∷ [])) (o ∷ []) (7 + per + per * per + (o * per + m / per) * per + m % per) (3 + per + o * (1 + per))
      (inside-three (m % per) (m / per) o inner middle outer) (is_in_three per least o)
      (is_last per least o (m / per) (m % per) middle)
      (at-block (7 + per + per * per + o * (per * per) + m) (7 + per + per * per + (o * per + m / per) * per + m % per) (omega (arith, parts)) one.2))
  way-behind place o (suc j) small is made-there =
      let one = under-made (7 + per + per * per + o * (per * per) + j * per) per made (sym (at_behind per least made place o (suc j) small is) ∙ made-there) in
      let m : ℕ = one.0 in
      let there : get_or made (7 + per + per * per + o * (per * per) + (j * per + m)) false ≡ true =
      at-block (7 + per + per * per + o * (per * per) + j * per + m) (7 + per + per * per + o * (per * per) + (j * per + m)) (omega arith) one.2 in
      let outer = outer-low o (j * per + m) there in
      let middle : j < per = omega (arith, small) in
      subst (λ (p : ℕ). IsOnWay kind made p) (let e : 4 + per + o * (1 + per) + j ≡ place = omega (arith, is) in e)
      (on-way-by 9 (m ∷ []) (j ∷ (o ∷ [])) (7 + per + per * per + (o * per + j) * per + m) (4 + per + o * (1 + per) + j)
      (inside-three m j o one.1 middle outer) (is_below_three per least o j)
      (is_last per least o j m middle)
      (at-block (7 + per + per * per + o * (per * per) + j * per + m) (7 + per + per * per + (o * per + j) * per + m) (omega arith) one.2))

  -- above such a block is each indirect zone that is made
  pub on-way : (place : ℕ) → get_or (made_indirect per made) place false ≡ true → IsOnWay kind made place
  on-way zero is = way-zero is
  on-way (suc zero) is = way-one is
  on-way (suc (suc rest)) is = ⊎_elim
      (λ (low : rest < per).
      let e : suc (suc rest) ≡ 2 + rest = omega arith in
      subst (λ (p : ℕ). IsOnWay kind made p) (sym e) (way-second rest low (sym (ap (λ (k : ℕ). get_or (made_indirect per made) k false) e) ∙ is)))
      (λ (high : per ≤ rest). ⊎_elim
      (λ (same : rest ≡ per).
      let e : suc (suc rest) ≡ 2 + per = omega (arith, same) in
      subst (λ (p : ℕ). IsOnWay kind made p) (sym e) (way-third (sym (ap (λ (k : ℕ). get_or (made_indirect per made) k false) e) ∙ is)))
      (λ (apart : rest ≢ per).
      let n : ℕ = rest - (1 + per) in
      let up : 1 + per ≤ rest = omega (arith, high, apart) in
      let parts = div-add-mod' n (1 + per) in
      let inner : n % (1 + per) < 1 + per = mod_below n (1 + per) (omega arith) in
      way-behind (suc (suc rest)) (n / (1 + per)) (n % (1 + per)) (omega (arith, inner)) (omega (arith, parts, up)) is)
      (cases_eq rest per))
      (cases_lt rest per)

-- ---- the number at a pointer on the way

-- it is some, where that at the end is
follow-some : (kind : Kind) (bytes_of : ℕ → List ℕ) (zone : ℕ) (more trail : List ℕ) → follow kind bytes_of zone (more ++ trail) ≢ 0 → follow kind bytes_of zone trail ≢ 0
unfolding follow
follow-some kind bytes_of zone [] trail some = some
follow-some kind bytes_of zone (index ∷ more) trail some =
    follow-some kind bytes_of zone more trail (λ none. some (ap (λ (z : ℕ). number_below kind bytes_of z index) none))

abbrev place-in : Source → ℕ
place-in (Block index) = index
place-in (Indirect place) = place

-- ---- the zones that were chosen

-- a number that isn't 0 is one of the list
in-list : (numbers : List ℕ) (at : ℕ) → slice_index numbers at ≢ 0 → at < length numbers
in-list numbers at some = ⊎_elim (λ (low : at < length numbers). low) (λ (high : length numbers ≤ at). absurd (some (past_end numbers at high))) (cases_lt at (length numbers))

module _ (kind : Kind) (made : List Bool) (choice : Choice) (file : IsFileOf kind made choice) (are_some : (i : ℕ) → i < length choice.zones → slice_index choice.zones i ≢ 0) where
  abbrev Needed : List Bool
  Needed = made_indirect (numbers_in_zone kind) made

  -- an indirect zone is one that is made
  pub needed : (place : ℕ) → slice_index choice.indirect place ≢ 0 → get_or Needed place false ≡ true
  needed place some = ⊎_elim
      (λ is. is)
      (λ isnt. absurd (some (ap (λ (list : List ℕ). slice_index list place) file.indirect_are ∙ given_hole Needed (drop (count_made made) choice.zones) place isnt)))
      (cases_Bool (get_or Needed place false))

  -- where there is one, each block that isn't a hole got a zone before it
  enough : (place : ℕ) → slice_index choice.indirect place ≢ 0 → count_made made < length choice.zones
  enough place some =
      let rest : List ℕ = drop (count_made made) choice.zones in
      let zone : slice_index choice.indirect place ≡ slice_index rest (count_made (take place Needed)) =
      ap (λ (list : List ℕ). slice_index list place) file.indirect_are ∙ given_at Needed rest place (needed place some) in
      let inside = in-list rest (count_made (take place Needed)) (λ none. some (zone ∙ none)) in
      let left = length-drop (count_made made) choice.zones in
      omega (arith, inside, left)

  pub gets-zone : (place : ℕ) → slice_index choice.indirect place ≢ 0 → (index : ℕ) → get_or made index false ≡ true → slice_index choice.blocks index ≢ 0
  gets-zone place some index is =
      let before = count_before made index is in
      let most = enough place some in
      let zone : slice_index choice.blocks index ≡ slice_index choice.zones (count_made (take index made)) =
      ap (λ (list : List ℕ). slice_index list index) file.blocks_are ∙ given_at made choice.zones index is in
      λ none. are_some (count_made (take index made)) (omega (arith, before, most)) (sym zone ∙ none)

-- ---- a hole

-- An inode's pointers lead each to another zone, and to no other zones than those of a file, its blocks to those that were chosen.
-- Each indirect zone of the file is above a block that takes a zone.
module _ (super : Super) (parts : Parts) (number : ℕ) (zones : FileZones) (made : List Bool) (few : length made ≤ reach super.kind) (short : length zones.blocks ≤ reach super.kind)
    (need : (place : ℕ) → slice_index zones.indirect place ≢ 0 → get_or (made_indirect (numbers_in_zone super.kind) made) place false ≡ true)
    (gets : (place : ℕ) → slice_index zones.indirect place ≢ 0 → (index : ℕ) → get_or made index false ≡ true → slice_index zones.blocks index ≢ 0)
    (has : has_zones (parts.node number) ≡ true)
    (once : (at there : Pointer) (zone : ℕ) → PointsTo super parts number at zone → PointsTo super parts number there zone → at ≡ there)
    (lies : (index : ℕ) → index < reach super.kind → slice_index zones.blocks index ≢ 0 → PointsTo super parts number (block_pointer super.kind index) (slice_index zones.blocks index))
    (own : (at : Pointer) (zone : ℕ) → PointsTo super parts number at zone → (source : Source) × (zone_from zones source ≡ zone)) where
  -- where a pointer's zone comes from: it is a block's pointer, or the zone is an indirect one
  abbrev ComesFrom : Pointer → ℕ → Type 0
  ComesFrom at zone = ((index : ℕ) × (index < reach super.kind) × (at ≡ block_pointer super.kind index) × (slice_index zones.blocks index ≡ zone)) ⊎ ((place : ℕ) × (slice_index zones.indirect place ≡ zone))

  comes-by : (at : Pointer) (zone : ℕ) → PointsTo super parts number at zone → (source : Source) → zone_from zones source ≡ zone → ComesFrom at zone
  comes-by at zone to (Block index) is =
      let some : slice_index zones.blocks index ≢ 0 = λ none. to.some (sym is ∙ none) in
      let inside = in-list zones.blocks index some in
      let low : index < reach super.kind = omega (arith, inside, short) in
      inl (index, low, once at (block_pointer super.kind index) zone to (subst (λ (z : ℕ). PointsTo super parts number (block_pointer super.kind index) z) is (lies index low some)), is)
  comes-by at zone to (Indirect place) is = inr (place, is)

  comes : (at : Pointer) (zone : ℕ) → PointsTo super parts number at zone → ComesFrom at zone
  comes at zone to = let from = own at zone to in comes-by at zone to from.0 from.1

  -- an indirect zone's pointer is no block's
  apart : (place index : ℕ) (at : Pointer) → source_of (numbers_in_zone super.kind) at ≡ Indirect place → index < reach super.kind → at ≡ block_pointer super.kind index → ⊥
  apart place index at leads low same =
      let no : Indirect place ≡ Block index = sym leads ∙ (ap (source_of (numbers_in_zone super.kind)) same ∙ block_leads super.kind index low) in cc

  -- the pointer to an indirect zone leads to one
  abbrev LeadsTo : ℕ → ℕ → Type 0
  LeadsTo place other = (way : IsOnWay super.kind made place) × PointsTo super parts number way.at (slice_index zones.indirect other)

  way-some : (place : ℕ) → slice_index zones.indirect place ≢ 0 → (way : IsOnWay super.kind made place) → pointer super parts number way.at ≢ 0
  way-some place some way =
      let low = there-low super.kind made few way.block way.there in
      let to = lies way.block (omega (arith, low, few)) (gets place some way.block way.there) in
      let end : pointer super parts number (pointer_at way.at.top (way.more ++ way.at.trail)) ≢ 0 = λ none. to.some (sym to.is ∙ (ap (pointer super parts number) way.way ∙ none)) in
      follow-some super.kind parts.zone (slice_index (parts.node number).zones way.at.top) way.more way.at.trail end

  leads-to : (place : ℕ) → slice_index zones.indirect place ≢ 0 → (other : ℕ) × LeadsTo place other
  leads-to place some =
      let way = on-way super.kind made few place (need place some) in
      let zone : ℕ = pointer super parts number way.at in
      let to : PointsTo super parts number way.at zone = record { kind = has; place = way.inside; is = refl; some = way-some place some way } in
      ⊎_elim
      (λ (block : (index : ℕ) × (index < reach super.kind) × (way.at ≡ block_pointer super.kind index) × (slice_index zones.blocks index ≡ zone)).
      absurd (apart place block.0 way.at way.leads block.1 block.2))
      (λ (from : (other : ℕ) × (slice_index zones.indirect other ≡ zone)).
      (from.0, (way, subst (λ (z : ℕ). PointsTo super parts number way.at z) (sym from.1) to)))
      (comes way.at zone to)

  -- a place without an indirect zone stays
  abbrev Moves : ℕ → ℕ → Type 0
  Moves place other = ((slice_index zones.indirect place ≡ 0) × (other ≡ place)) ⊎ LeadsTo place other

  moves-by : (place : ℕ) → (slice_index zones.indirect place ≡ 0) ⊎ (slice_index zones.indirect place ≢ 0) → (other : ℕ) × Moves place other
  moves-by place (inl none) = (place, inl (none, refl))
  moves-by place (inr some) = let to = leads-to place some in (to.0, inr to.1)

  moves : (place : ℕ) → (other : ℕ) × Moves place other
  moves place = moves-by place (cases_eq (slice_index zones.indirect place) 0)

  moves-low : (place other : ℕ) → place < length zones.indirect → Moves place other → other < length zones.indirect
  moves-low place other low (inl stays) = let same = stays.1 in omega (arith, same, low)
  moves-low place other low (inr leads) = in-list zones.indirect other leads.1.some

  moves-once : (one other there : ℕ) → Moves one there → Moves other there → one ≡ other
  moves-once one other there (inl a) (inl b) = sym a.1 ∙ b.1
  moves-once one other there (inl a) (inr b) = absurd (b.1.some (ap (slice_index zones.indirect) a.1 ∙ a.0))
  moves-once one other there (inr a) (inl b) = absurd (a.1.some (ap (slice_index zones.indirect) b.1 ∙ b.0))
  moves-once one other there (inr a) (inr b) =
      let same : a.0.at ≡ b.0.at = once a.0.at b.0.at (slice_index zones.indirect there) a.1 b.1 in
      ap place-in (sym a.0.leads ∙ (ap (source_of (numbers_in_zone super.kind)) same ∙ b.0.leads))

  -- each of them is led to
  moved : (place : ℕ) → place < length zones.indirect → (from : ℕ) × Moves from place
  moved place low =
      let it = onto (length zones.indirect) (λ i. (moves i).0) (λ i small. moves-low i (moves i).0 small (moves i).1)
      (λ i j less small same.
      let one = moves-once i j (moves j).0 (subst (λ (n : ℕ). Moves i n) same (moves i).1) (moves j).1 in
      omega (arith, one, less))
      place low in
      (it.0, subst (λ (n : ℕ). Moves it.0 n) it.2 (moves it.0).1)

  led : (place : ℕ) → slice_index zones.indirect place ≢ 0 → (from : ℕ) → Moves from place → (at : Pointer) × PointsTo super parts number at (slice_index zones.indirect place)
  led place some from (inl stays) = absurd (some (ap (slice_index zones.indirect) stays.1 ∙ stays.0))
  led place some from (inr leads) = (leads.0.at, leads.1)

  -- and so is each zone of the file
  pub zone-there : (source : Source) → zone_from zones source ≢ 0 → (at : Pointer) × PointsTo super parts number at (zone_from zones source)
  zone-there (Block index) some = (block_pointer super.kind index, lies index (let inside = in-list zones.blocks index some in omega (arith, inside, short)) some)
  zone-there (Indirect place) some = let from = moved place (in-list zones.indirect place some) in led place some from.0 from.1

  -- a block's pointer leads to no indirect zone, since all of them are led to
  module _ (index : ℕ) (low : index < reach super.kind) (place : ℕ) (to : PointsTo super parts number (block_pointer super.kind index) (slice_index zones.indirect place)) where
    no-move : (from : ℕ) → Moves from place → ⊥
    no-move from (inl stays) = to.some (ap (slice_index zones.indirect) stays.1 ∙ stays.0)
    no-move from (inr leads) =
        apart from index leads.0.at leads.0.leads low (once leads.0.at (block_pointer super.kind index) (slice_index zones.indirect place) leads.1 to)

    none-left : ⊥
    none-left = let from = moved place (in-list zones.indirect place to.some) in no-move from.0 from.1

  -- so a hole has none
  pub hole-stays : (index : ℕ) → index < reach super.kind → slice_index zones.blocks index ≡ 0 → zone_number super parts number index ≡ 0
  unfolding zone_number
  hole-stays index low hole = ⊎_elim
      (λ none. none)
      (λ some.
      let zone : ℕ = pointer super parts number (block_pointer super.kind index) in
      let to : PointsTo super parts number (block_pointer super.kind index) zone = record { kind = has; place = is_pointer-block super.kind index; is = refl; some = some } in
      ⊎_elim
      (λ (block : (other : ℕ) × (other < reach super.kind) × (block_pointer super.kind index ≡ block_pointer super.kind other) × (slice_index zones.blocks other ≡ zone)).
      let same : index ≡ block.0 = ap place-in (sym (block_leads super.kind index low) ∙ (ap (source_of (numbers_in_zone super.kind)) block.2 ∙ block_leads super.kind block.0 block.1)) in
      absurd (some (sym block.3 ∙ (ap (slice_index zones.blocks) (sym same) ∙ hole))))
      (λ (from : (place : ℕ) × (slice_index zones.indirect place ≡ zone)).
      absurd (none-left index low from.0 (subst (λ (z : ℕ). PointsTo super parts number (block_pointer super.kind index) z) (sym from.1) to)))
      (comes (block_pointer super.kind index) zone to))
      (cases_eq (pointer super parts number (block_pointer super.kind index)) 0)

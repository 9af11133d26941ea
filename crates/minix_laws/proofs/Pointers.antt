-- No two blocks have the same pointer: the index of a block is known from it.
use Rattle.std.proofs.Common.{◌≡◌, ℕ, ◌+◌, ◌-◌, ◌*◌, ◌<◌, ◌≤◌, ◌==◌, Bool, true, false, nat_lt, if◌then◌else◌, List, [], ◌∷◌, length, refl, sym, ◌∙◌, ap, arith, add-zero}
use Rattle.std.proofs.lemmas.Bool.{ltb-true, ltb-false, lt-ltb}
use Rattle.lilo_model.specs.MinixLayout.{Kind, V1Short, V1Long, V2Short, V2Long, numbers_in_zone, reach}
use Rattle.lilo_model.specs.MinixParts.{Pointer, pointer_with, pointer_by, block_pointer}
use Rattle.minix_laws.specs.Pointers.{PointerLaw}
use Rattle.minix_laws.proofs.Inside.{is_pointer-block}

-- a block, counted from the first that is found by one of the ten numbers
abbrev position : ℕ → List ℕ → ℕ
position per [] = 0
position per (index ∷ before) = position per before * per + index

-- the first block that is found by one of the ten numbers
abbrev first_by : ℕ → ℕ → ℕ
first_by per top =
    if nat_lt top 7 then top else
    if top == 7 then 7 else
    if top == 8 then 7 + per else
    7 + per + per * per

abbrev index_of : ℕ → Pointer → ℕ
index_of per pointer = first_by per pointer.top + position per pointer.trail

-- the index of a block, from its pointer
index_of-512-by : (index : ℕ) → index < 262663 → (one two three : Bool) → nat_lt index 7 ≡ one → nat_lt index (7 + 512) ≡ two → nat_lt index (7 + 512 + 262144) ≡ three
    → index_of 512 (if one then pointer_with 512 index 0 0 else (if two then pointer_with 512 7 1 (index - 7) else (if three then pointer_with 512 8 2 (index - 7 - 512) else pointer_with 512 9 3 (index - 7 - 512 - 262144)))) ≡ index
index_of-512-by index low true two three is is2 is3 = let h : index < 7 = ltb-true index 7 is in rw (lt-ltb index 7 h) (add-zero index)
index_of-512-by index low false true three is is2 is3 =
    let h : 7 ≤ index = ltb-false index 7 is in
    let k : index < 7 + 512 = ltb-true index (7 + 512) is2 in
    omega (arith, h, k)
index_of-512-by index low false false true is is2 is3 =
    let h : 7 + 512 ≤ index = ltb-false index (7 + 512) is2 in
    let k : index < 7 + 512 + 262144 = ltb-true index (7 + 512 + 262144) is3 in
    omega (arith, h, k)
index_of-512-by index low false false false is is2 is3 =
    let h : 7 + 512 + 262144 ≤ index = ltb-false index (7 + 512 + 262144) is3 in
    absurd (omega (arith, h, low))

index_of-512 : (index : ℕ) → index < 262663 → index_of 512 (pointer_by 512 index) ≡ index
unfolding pointer_by
index_of-512 index low = index_of-512-by index low _ _ _ refl refl refl

-- the index of a block, from its pointer
index_of-256-by : (index : ℕ) → index < 16843015 → (one two three : Bool) → nat_lt index 7 ≡ one → nat_lt index (7 + 256) ≡ two → nat_lt index (7 + 256 + 65536) ≡ three
    → index_of 256 (if one then pointer_with 256 index 0 0 else (if two then pointer_with 256 7 1 (index - 7) else (if three then pointer_with 256 8 2 (index - 7 - 256) else pointer_with 256 9 3 (index - 7 - 256 - 65536)))) ≡ index
index_of-256-by index low true two three is is2 is3 = let h : index < 7 = ltb-true index 7 is in rw (lt-ltb index 7 h) (add-zero index)
index_of-256-by index low false true three is is2 is3 =
    let h : 7 ≤ index = ltb-false index 7 is in
    let k : index < 7 + 256 = ltb-true index (7 + 256) is2 in
    omega (arith, h, k)
index_of-256-by index low false false true is is2 is3 =
    let h : 7 + 256 ≤ index = ltb-false index (7 + 256) is2 in
    let k : index < 7 + 256 + 65536 = ltb-true index (7 + 256 + 65536) is3 in
    omega (arith, h, k)
index_of-256-by index low false false false is is2 is3 =
    let h : 7 + 256 + 65536 ≤ index = ltb-false index (7 + 256 + 65536) is3 in
    omega (arith, h, low)

index_of-256 : (index : ℕ) → index < 16843015 → index_of 256 (pointer_by 256 index) ≡ index
unfolding pointer_by
index_of-256 index low = index_of-256-by index low _ _ _ refl refl refl

index_of-block : (kind : Kind) (index : ℕ) → index < reach kind → index_of (numbers_in_zone kind) (block_pointer kind index) ≡ index
index_of-block V1Short index low = index_of-512 index low
index_of-block V1Long index low = index_of-512 index low
index_of-block V2Short index low = index_of-256 index low
index_of-block V2Long index low = index_of-256 index low

-- ---- the whole way down

whole-by : (per index : ℕ) (one two three : Bool) → nat_lt index 7 ≡ one
    → let at : Pointer = (if one then pointer_with per index 0 0 else (if two then pointer_with per 7 1 (index - 7) else (if three then pointer_with per 8 2 (index - 7 - per) else pointer_with per 9 3 (index - 7 - per - per * per)))) in
    length at.trail ≡ at.top - 6
whole-by per index true two three is = let h : index < 7 = ltb-true index 7 is in omega (arith, h)
whole-by per index false true three is = refl
whole-by per index false false true is = refl
whole-by per index false false false is = refl

whole-block : (per index : ℕ) → length (pointer_by per index).trail ≡ (pointer_by per index).top - 6
unfolding pointer_by
whole-block per index = whole-by per index _ _ _ refl

pub pointer_law : PointerLaw
pointer_law kind = record {
  is = is_pointer-block kind;
  whole = whole-block (numbers_in_zone kind);
  apart = λ index other low low' same. sym (index_of-block kind index low) ∙ ap (index_of (numbers_in_zone kind)) same ∙ index_of-block kind other low';
}

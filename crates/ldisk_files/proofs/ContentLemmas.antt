-- The bytes of a file: from a source, and by blocks.
use Rattle.std.proofs.Common.{All, ◌≡◌, ◌≢◌, ◌≤◌, ◌<◌, ◌+◌, ◌-◌, ◌*◌, ◌++◌, ⊎_elim, ℕ, zero, suc, Bool, true, false, List, [], ◌∷◌, length, take, drop, replicate, get_or, Option, Some, None, refl, sym, ◌∙◌, ap, subst, arith}
use Rattle.std.specs.Prelude.{slice_set, if◌then◌else◌}
use Rattle.std.proofs.Math.Seq.{take-add, take-append_seam}
use Rattle.std.proofs.lemmas.Bool.{cases_eq}
use Rattle.std.proofs.lemmas.List.{append_assoc, append-nil, take_all, take-append-drop, length-append, length-drop, length-take-le, get_or-set_other}
use Rattle.std.proofs.lemmas.List.FromFn.{get_or-map-range_with_len}
use Rattle.std.proofs.lemmas.List.Elements.{All-nil, All-push}
use Rattle.std.proofs.lemmas.Slice.Eq.{bytes_eq-Decides}
use Rattle.stream_trait.specs.Source.{GivesMany}
use Rattle.stream_trait.specs.declared.source.Taken.TheVariants.{Got, End}
use Rattle.lilo_model.specs.MinixNames.{blocks}
use Rattle.lilo_model.specs.MinixParts.{blocks_for}
use Rattle.write_model.specs.FileZones.{without_holes}
use Rattle.ldisk_model.specs.FileVerdict.{stored_block, is_zero_block, zero_blocks, most_stored}
use Rattle.ldisk_files.specs.Stored.{IsGiven, OnGiven, padded_block, padded_blocks}

-- ---- a source

-- of what a source gives these bytes were taken, and so much is left
abbrev pub HasTaken : Option (List ℕ) → List ℕ → Option (List ℕ) → Type 0
HasTaken None taken left = left ≡ None
HasTaken (Some all) taken left = (rest : List ℕ) × (left ≡ Some rest) × (all ≡ taken ++ rest)

pub took-none : (all : Option (List ℕ)) → HasTaken all [] all
took-none None = refl
took-none (Some all) = (all, refl, refl)

module _ (taken : List ℕ) (left after : Option (List ℕ)) where
  pub took-bytes : (all : Option (List ℕ)) (count : ℕ) (into : List ℕ) → HasTaken all taken left → GivesMany left (Got count) into after
      → HasTaken all (taken ++ take count into) after
  took-bytes None count into had gives =
      let is : GivesMany None (Got count) into after = subst (λ (l : Option (List ℕ)). GivesMany l (Got count) into after) had gives in is
  took-bytes (Some all) count into had gives =
      let is : GivesMany (Some had.0) (Got count) into after = subst (λ (l : Option (List ℕ)). GivesMany l (Got count) into after) had.1 gives in
      (drop count had.0, is.1, had.2 ∙ (ap (λ (rest : List ℕ). taken ++ rest) is.0 ∙ sym (append_assoc taken (take count into) (drop count had.0))))

  pub took-all : (all : Option (List ℕ)) (into : List ℕ) → HasTaken all taken left → GivesMany left End into after → IsGiven all taken
  took-all None into had gives = tt
  took-all (Some all) into had gives =
      let is : GivesMany (Some had.0) End into after = subst (λ (l : Option (List ℕ)). GivesMany l End into after) had.1 gives in
      had.2 ∙ (ap (λ (rest : List ℕ). taken ++ rest) is.0 ∙ append-nil taken)

  pub took-many : (all : Option (List ℕ)) → HasTaken all taken left → most_stored < length taken → OnGiven all (λ given. most_stored < length given)
  took-many None had many = (taken, many)
  took-many (Some all) had many =
      let long : length all ≡ length taken + length had.0 = ap length had.2 ∙ length-append taken had.0 in
      omega (arith, long, many)

-- ---- blocks

set-none : (made : List Bool) (at : ℕ) → get_or (slice_set made at false) at false ≡ false
set-none [] at = refl
set-none (one ∷ made) zero = refl
set-none (one ∷ made) (suc at) = set-none made at

without-last : (holes : List ℕ) (hole : ℕ) (made : List Bool) → without_holes (holes ++ hole ∷ []) made ≡ slice_set (without_holes holes made) hole false
without-last [] hole made = refl
without-last (first ∷ holes) hole made = without-last holes hole (slice_set made first false)

module _ (bytes : List ℕ) where
  rest-length : (index : ℕ) → length (drop (1024 * index) bytes) ≡ length bytes - 1024 * index
  rest-length index = length-drop (1024 * index) bytes

  -- one that isn't the last is whole
  whole-block : (index : ℕ) → 1024 * index + 1024 ≤ length bytes → padded_block bytes index ≡ stored_block bytes index
  whole-block index there =
      let rest = rest-length index in
      let long : length (stored_block bytes index) ≡ 1024 = length-take-le 1024 (drop (1024 * index) bytes) (omega (arith, rest, there)) in
      ap (λ (n : ℕ). stored_block bytes index ++ replicate (1024 - n) 0) long ∙ append-nil (stored_block bytes index)

  whole-blocks : (count : ℕ) → 1024 * count ≤ length bytes → blocks (padded_block bytes) count ≡ take (1024 * count) bytes
  whole-blocks zero there = refl
  whole-blocks (suc count) there =
      ap (λ (front : List ℕ). front ++ padded_block bytes count) (whole-blocks count (omega (arith, there)))
      ∙ (ap (λ (block : List ℕ). take (1024 * count) bytes ++ block) (whole-block count (omega (arith, there)))
      ∙ (sym (take-add (1024 * count) 1024 bytes)
      ∙ ap (λ (n : ℕ). take n bytes) (let e : 1024 * count + 1024 ≡ 1024 * suc count = omega arith in e)))

  -- the last one ends with zeros
  last-blocks : (count : ℕ) → 1024 * count ≤ length bytes → length bytes ≤ 1024 * count + 1024
      → blocks (padded_block bytes) (suc count) ≡ bytes ++ replicate (1024 - length (stored_block bytes count)) 0
  last-blocks count from to =
      let rest = rest-length count in
      let last : stored_block bytes count ≡ drop (1024 * count) bytes = take_all 1024 (drop (1024 * count) bytes) (omega (arith, rest, to)) in
      let zeros = replicate (1024 - length (stored_block bytes count)) 0 in
      ap (λ (front : List ℕ). front ++ padded_block bytes count) (whole-blocks count from)
      ∙ (ap (λ (block : List ℕ). take (1024 * count) bytes ++ (block ++ zeros)) last
      ∙ (sym (append_assoc (take (1024 * count) bytes) (drop (1024 * count) bytes) zeros)
      ∙ ap (λ (all : List ℕ). all ++ zeros) (take-append-drop (1024 * count) bytes)))

  cut-blocks : (count : ℕ) → count ≡ blocks_for (length bytes) → take (length bytes) (blocks (padded_block bytes) count) ≡ bytes
  cut-blocks zero is = ap (λ (n : ℕ). take n []) (let none : length bytes ≡ 0 = omega (arith, is) in none) ∙ sym (empty bytes (omega (arith, is)))
    where
      empty : (list : List ℕ) → length list ≡ 0 → list ≡ []
      empty [] none = refl
      empty (byte ∷ list) none = absurd (omega (arith, none))
  cut-blocks (suc count) is =
      ap (take (length bytes)) (last-blocks count (omega (arith, is)) (omega (arith, is)))
      ∙ take-append_seam bytes (replicate (1024 - length (stored_block bytes count)) 0)

  -- all of them, cut at the length
  pub whole-file : take (length bytes) (blocks (padded_block bytes) (blocks_for (length bytes))) ≡ bytes
  whole-file = cut-blocks (blocks_for (length bytes)) refl

  -- a block of the list
  pub block-there : (index : ℕ) → index < blocks_for (length bytes) → get_or (padded_blocks bytes) index [] ≡ padded_block bytes index
  block-there index there = get_or-map-range_with_len (padded_block bytes) 0 (blocks_for (length bytes)) index index [] there (omega arith)

  -- ---- holes

  -- one of 1024 zeros is nothing but zeros
  pub hole-zeros : (index : ℕ) → is_zero_block (stored_block bytes index) ≡ true → padded_block bytes index ≡ replicate 1024 0
  hole-zeros index zero-block =
      let is : stored_block bytes index ≡ replicate 1024 0 = (bytes_eq-Decides (stored_block bytes index) (replicate 1024 0)).0 zero-block in
      ap (λ (block : List ℕ). block ++ replicate (1024 - length block) 0) is

  -- any other gets a zone
  pub kept-made : (count index : ℕ) (made : List Bool) → is_zero_block (stored_block bytes index) ≡ false
      → get_or (without_holes (zero_blocks bytes count) made) index false ≡ get_or made index false
  unfolding zero_blocks
  kept-made zero index made some = refl
  kept-made (suc count) index made some = by (is_zero_block (stored_block bytes count)) refl (kept-made count index made some)
    where
      More : Bool → List ℕ
      More test = if test then zero_blocks bytes count ++ count ∷ [] else zero_blocks bytes count

      by : (test : Bool) → is_zero_block (stored_block bytes count) ≡ test → get_or (without_holes (zero_blocks bytes count) made) index false ≡ get_or made index false
          → get_or (without_holes (zero_blocks bytes (suc count)) made) index false ≡ get_or made index false
      by true e before =
          ap (λ (test : Bool). get_or (without_holes (More test) made) index false) e
          ∙ (ap (λ (list : List Bool). get_or list index false) (without-last (zero_blocks bytes count) count made)
          ∙ (get_or-set_other (without_holes (zero_blocks bytes count) made) count index false false
          (λ same. let t : is_zero_block (stored_block bytes index) ≡ true = subst (λ (i : ℕ). is_zero_block (stored_block bytes i) ≡ true) (sym same) e in cc)
          ∙ before))
      by false e before = ap (λ (test : Bool). get_or (without_holes (More test) made) index false) e ∙ before

  -- and one of them gets none
  pub hole-made : (count index : ℕ) (made : List Bool) → index < count → is_zero_block (stored_block bytes index) ≡ true
      → get_or (without_holes (zero_blocks bytes count) made) index false ≡ false
  unfolding zero_blocks
  hole-made zero index made low is = absurd (omega (arith, low))
  hole-made (suc count) index made low is = by (is_zero_block (stored_block bytes count)) refl (λ (below : index < count). hole-made count index made below is)
    where
      More : Bool → List ℕ
      More test = if test then zero_blocks bytes count ++ count ∷ [] else zero_blocks bytes count

      by : (test : Bool) → is_zero_block (stored_block bytes count) ≡ test → (index < count → get_or (without_holes (zero_blocks bytes count) made) index false ≡ false)
          → get_or (without_holes (zero_blocks bytes (suc count)) made) index false ≡ false
      by true e before =
          ap (λ (test : Bool). get_or (without_holes (More test) made) index false) e
          ∙ (ap (λ (list : List Bool). get_or list index false) (without-last (zero_blocks bytes count) count made)
          ∙ ⊎_elim
          (λ (same : index ≡ count). ap (λ (i : ℕ). get_or (slice_set (without_holes (zero_blocks bytes count) made) count false) i false) same ∙ set-none (without_holes (zero_blocks bytes count) made) count)
          (λ (apart : index ≢ count).
          get_or-set_other (without_holes (zero_blocks bytes count) made) count index false false apart ∙ before (omega (arith, low, apart)))
          (cases_eq index count))
      by false e before =
          let apart : index ≢ count = λ same. let t : is_zero_block (stored_block bytes count) ≡ true = subst (λ (i : ℕ). is_zero_block (stored_block bytes i) ≡ true) same is in cc in
          ap (λ (test : Bool). get_or (without_holes (More test) made) index false) e ∙ before (omega (arith, low, apart))

  -- each is below the count
  pub holes-below : (count most : ℕ) → count ≤ most → All (λ hole. hole < most) (zero_blocks bytes count)
  unfolding zero_blocks
  holes-below zero most low = All-nil (λ hole. hole < most)
  holes-below (suc count) most low = by (is_zero_block (stored_block bytes count)) refl (holes-below count most (omega (arith, low)))
    where
      More : Bool → List ℕ
      More test = if test then zero_blocks bytes count ++ count ∷ [] else zero_blocks bytes count

      by : (test : Bool) → is_zero_block (stored_block bytes count) ≡ test → All (λ hole. hole < most) (zero_blocks bytes count) → All (λ hole. hole < most) (zero_blocks bytes (suc count))
      by true e before = subst (λ (test : Bool). All (λ hole. hole < most) (More test)) (sym e) (All-push (λ hole. hole < most) (zero_blocks bytes count) count before (omega (arith, low)))
      by false e before = subst (λ (test : Bool). All (λ hole. hole < most) (More test)) (sym e) before

-- from one block to the next
pub zero_first : (bytes : List ℕ) → zero_blocks bytes 0 ≡ []
unfolding zero_blocks
zero_first bytes = refl

pub zero_more : (bytes : List ℕ) (count : ℕ) → is_zero_block (stored_block bytes count) ≡ true → zero_blocks bytes (count + 1) ≡ zero_blocks bytes count ++ count ∷ []
unfolding zero_blocks
zero_more bytes count is = subst (λ (n : ℕ). zero_blocks bytes n ≡ zero_blocks bytes count ++ count ∷ []) (let e : suc count ≡ count + 1 = omega arith in e)
    (ap (λ (test : Bool). if test then zero_blocks bytes count ++ count ∷ [] else zero_blocks bytes count) is)

pub zero_same : (bytes : List ℕ) (count : ℕ) → is_zero_block (stored_block bytes count) ≡ false → zero_blocks bytes (count + 1) ≡ zero_blocks bytes count
unfolding zero_blocks
zero_same bytes count is = subst (λ (n : ℕ). zero_blocks bytes n ≡ zero_blocks bytes count) (let e : suc count ≡ count + 1 = omega arith in e)
    (ap (λ (test : Bool). if test then zero_blocks bytes count ++ count ∷ [] else zero_blocks bytes count) is)

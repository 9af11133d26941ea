-- The arguments from one place to before another.
use Rattle.std.proofs.Common.{◌≡◌, ◌<◌, ◌≤◌, ℕ, suc, ◌+◌, ◌-◌, List, [], ◌∷◌, length, drop, get_or, refl, arith, add-one}
use Rattle.std.specs.Prelude.{Some, slice_get, slice_range}
use Rattle.std.proofs.Math.Seq.{drop-cons}
use Rattle.std.proofs.lemmas.Option.{get_or_from_slice_get, slice_get-get_or}

pub range_empty : (words : List (List ℕ)) (at end : ℕ) → end ≤ at → slice_range words at end ≡ []
range_empty words at end none = let gap : end - at ≡ 0 = omega arith in rw gap refl

pub drop_word : (words : List (List ℕ)) (at : ℕ) (word : List ℕ) → at < length words → slice_get words at ≡ Some word
    → drop at words ≡ word ∷ drop (at + 1) words
drop_word words at word less e =
    rw (drop-cons words at word, get_or_from_slice_get words at word word e, add-one) refl

pub range_word : (words : List (List ℕ)) (at end : ℕ) (word : List ℕ) → at < end → end ≤ length words
    → slice_get words at ≡ Some word → slice_range words at end ≡ word ∷ slice_range words (at + 1) end
range_word words at end word less within e =
    let gap : end - at ≡ suc (end - (at + 1)) = omega arith in
    let there : at < length words = omega arith in
    rw (drop_word words at word there e, gap) refl

-- the same, where the argument isn't known
pub range_some : (words : List (List ℕ)) (at end : ℕ) → at < end → end ≤ length words
    → slice_range words at end ≡ get_or words at [] ∷ slice_range words (at + 1) end
range_some words at end less within =
    range_word words at end (get_or words at []) less within (slice_get-get_or words at [] (omega arith))

pub range_rest : (words : List (List ℕ)) (at end : ℕ) → at < end → end ≤ length words
    → drop 1 (slice_range words at end) ≡ slice_range words (at + 1) end
range_rest words at end less within = rw (range_some words at end less within) refl

-- Partitions in arguments.
use Rattle.std.proofs.Common.{◌≡◌, ℕ, suc, ◌+◌, ◌<◌, ◌≤◌, get_or, true, false, List, [], ◌∷◌, ◌++◌, length, drop, append_assoc, refl, sym, ◌∙◌, ap, arith}
use Rattle.std.specs.Prelude.{Option, None, Some, option_map, nat_lt, slice_get}
use Rattle.std.specs.Borrow.{Bor}
use Rattle.std.specs.List.{position_or_len}
use Rattle.std.proofs.Math.ListN.{drop_of_length-le}
use Rattle.std.proofs.Math.Seq.{drop-cons}
use Rattle.std.proofs.lemmas.List.{append-nil}
use Rattle.std.proofs.lemmas.Option.{get_or_from_slice_get}
use Rattle.std.proofs.lemmas.Bool.{lt-ltb, le-ltb}
use Rattle.std.proofs.lemmas.Str.Pattern.{IsSplitOnceResult, split_once_first}
use Rattle.ldisk_model.specs.Arguments.{PartWish, is_colon, halves_of, onto_parts, part_at, parts_at}
use Rattle.ldisk_words.specs.View.{halves_view}

-- a text is cut where `split_once` cuts it
pub halves_cut : (word : List ℕ) (found : Option (Bor (List ℕ) × Bor (List ℕ))) → IsSplitOnceResult 58 word found
    → option_map halves_view found ≡ halves_of word
unfolding halves_of
halves_cut word None cut =
    let none = split_once_first 58 word None cut (omega arith) in
    let e : nat_lt (position_or_len is_colon word) (length word) ≡ false = le-ltb (position_or_len is_colon word) (length word) (omega (arith, none)) in
    rw e refl
halves_cut word (Some halves) cut =
    let some = split_once_first 58 word (Some halves) cut (omega arith) in
    let e : nat_lt (position_or_len is_colon word) (length word) ≡ true = lt-ltb (position_or_len is_colon word) (length word) some.0 in
    rw (e, some.1, some.2) refl

-- parts before others
abbrev pub before_parts : List PartWish → Option (List PartWish) → Option (List PartWish)
before_parts parts others = option_map (λ rest. parts ++ rest) others

none_before : (parts : List PartWish) (others : Option (List PartWish)) → before_parts parts (onto_parts None others) ≡ None
none_before parts None = refl
none_before parts (Some others) = refl

more_before : (parts : List PartWish) (part : PartWish) (others : Option (List PartWish))
    → before_parts parts (onto_parts (Some part) others) ≡ before_parts (parts ++ part ∷ []) others
more_before parts part None = refl
more_before parts part (Some others) = ap (λ all. Some all) (sym (append_assoc parts (part ∷ []) others))

rest_at : (words : List (List ℕ)) (at : ℕ) (word : List ℕ) → at < length words → slice_get words at ≡ Some word
    → drop at words ≡ word ∷ drop (at + 1) words
rest_at words at word below is =
    let next : suc at ≡ at + 1 = omega arith in
    drop-cons words at [] below ∙ ap (λ n. get_or words at [] ∷ drop n words) next
    ∙ ap (λ found. found ∷ drop (at + 1) words) (get_or_from_slice_get words at word [] is)

module _ (words : List (List ℕ)) (at : ℕ) (parts : List PartWish) (so_far : parts_at (drop 3 words) ≡ before_parts parts (parts_at (drop at words))) where
  module _ (word : List ℕ) (below : at < length words) (is : slice_get words at ≡ Some word) where
    rest : parts_at (drop 3 words) ≡ before_parts parts (onto_parts (part_at word) (parts_at (drop (at + 1) words)))
    unfolding parts_at
    rest = so_far ∙ ap (λ others. before_parts parts (parts_at others)) (rest_at words at word below is)

    pub parts_stop : None ≡ part_at word → None ≡ parts_at (drop 3 words)
    parts_stop none =
        sym (rest ∙ ap (λ part. before_parts parts (onto_parts part (parts_at (drop (at + 1) words)))) (sym none)
        ∙ none_before parts (parts_at (drop (at + 1) words)))

    pub parts_go : (part : PartWish) → Some part ≡ part_at word
        → parts_at (drop 3 words) ≡ before_parts (parts ++ part ∷ []) (parts_at (drop (at + 1) words))
    parts_go part some =
        rest ∙ ap (λ part. before_parts parts (onto_parts part (parts_at (drop (at + 1) words)))) (sym some)
        ∙ more_before parts part (parts_at (drop (at + 1) words))

  pub parts_end : length words ≤ at → Some parts ≡ parts_at (drop 3 words)
  unfolding parts_at
  parts_end past =
      let none : drop at words ≡ [] = drop_of_length-le words past in
      sym (so_far ∙ ap (λ others. before_parts parts (parts_at others)) none ∙ ap (λ all. Some all) (append-nil parts))

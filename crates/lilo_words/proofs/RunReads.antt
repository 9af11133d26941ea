-- Where the part that begins at a place ends, and what its reading says of the run.
use Rattle.std.proofs.Common.{◌≡◌, ◌<◌, ◌≤◌, inl, inr, ℕ, ◌+◌, ◌-◌, List, [], ◌∷◌, length, take, drop, true, false, refl, arith, length-drop}
use Rattle.std.specs.Prelude.{Some, None, Ok, Err, Result, IsOk, slice_get, slice_range}
use Rattle.std.specs.List.{position_or_len, slice_split}
use Rattle.std.proofs.lemmas.Bool.{cases_lt}
use Rattle.std.proofs.Math.ListN.{drop_of_length-le}
use Rattle.std.proofs.lemmas.List.{drop-drop, take_all, length-take-le}
use Rattle.std.proofs.lemmas.List.Splits.{slice_split_none, slice_split_first}
use Rattle.std.proofs.lemmas.List.Sums.{fails_before_first}
use Rattle.lilo_model.specs.Checks.{◌>>=◌}
use Rattle.lilo_words.specs.Run.{run_behind, parts_behind, IsPartAt}
use Rattle.lilo_model.specs.Words.{Part, bare_part, is_then, part_from, parts_from, run_from, run_at, place_in}
use Rattle.lilo_words.proofs.Ranges.{drop_word}

-- the place of the first `--then` from a place on, or of the end
abbrev pub then_from : List (List ℕ) → ℕ → ℕ
then_from words place = place + position_or_len is_then (drop place words)

pub then_from-other : (words : List (List ℕ)) (place : ℕ) (word : List ℕ) → place < length words → slice_get words place ≡ Some word
    → is_then word ≡ false → then_from words place ≡ then_from words (place + 1)
then_from-other words place word less e isnt = rw (drop_word words place word less e, isnt) (omega arith)

pub then_from-then : (words : List (List ℕ)) (place : ℕ) (word : List ℕ) → place < length words → slice_get words place ≡ Some word
    → is_then word ≡ true → then_from words place ≡ place
then_from-then words place word less e is = rw (drop_word words place word less e, is) (omega arith)

pub then_from-end : (words : List (List ℕ)) (place : ℕ) → length words ≤ place → then_from words place ≡ place
then_from-end words place past = rw (drop_of_length-le words past) (omega arith)

-- ---- the part from a place to the next `--then`

pub record IsEndOf (words : List (List ℕ)) (from end : ℕ) : Type 0 where
  pub there : from ≤ length words
  pub within : end ≤ length words
  pub is : end ≡ then_from words from

length-range : (words : List (List ℕ)) (from end : ℕ) → IsEndOf words from end → from + length (slice_range words from end) ≡ end
length-range words from end ends =
    let there = ends.there in
    let within = ends.within in
    let is = ends.is in
    let room : end - from ≤ length (drop from words) = rw (length-drop from words) (omega arith) in
    rw (length-take-le (end - from) (drop from words) room) (omega arith)

split_inside : (words : List (List ℕ)) (from end : ℕ) → IsEndOf words from end → end < length words
    → slice_split is_then (drop from words) ≡ slice_range words from end ∷ slice_split is_then (drop (end + 1) words)
split_inside words from end ends less =
    let is = ends.is in
    let inside : position_or_len is_then (drop from words) < length (drop from words) = rw (length-drop from words) (omega arith) in
    let size : end - from ≡ position_or_len is_then (drop from words) = omega arith in
    let behind : from + (position_or_len is_then (drop from words) + 1) ≡ end + 1 = omega arith in
    rw (slice_split_first is_then (drop from words) [] inside, size, drop-drop (position_or_len is_then (drop from words) + 1) from words, behind) refl

split_last : (words : List (List ℕ)) (from end : ℕ) → IsEndOf words from end → length words ≤ end
    → slice_split is_then (drop from words) ≡ slice_range words from end ∷ []
split_last words from end ends past =
    let is = ends.is in
    let there = ends.there in
    let within = ends.within in
    let size = length-drop from words in
    let whole : take (end - from) (drop from words) ≡ drop from words = take_all (end - from) (drop from words) (omega arith) in
    rw (
      whole,
      slice_split_none is_then (drop from words)
          (λ k d less. fails_before_first is_then (drop from words) k d (omega arith)),
    )
    refl

pub part_more : (words : List (List ℕ)) (from end : ℕ) (part : Part) → IsEndOf words from end → end < length words
    → Ok part ≡ part_from from bare_part (slice_range words from end)
    → run_behind words from ≡ (run_behind words (end + 1) >>= λ parts. Ok (part ∷ parts))
unfolding run_from parts_from
part_more words from end part ends less e =
    rw (split_inside words from end ends less, ← e, length-range words from end ends) refl

pub part_last : (words : List (List ℕ)) (from end : ℕ) (part : Part) → IsEndOf words from end → length words ≤ end
    → Ok part ≡ part_from from bare_part (slice_range words from end)
    → run_behind words from ≡ Ok (part ∷ [])
unfolding run_from parts_from
part_last words from end part ends past e = rw (split_last words from end ends past, ← e) refl

pub part_wrong : (words : List (List ℕ)) (from end place : ℕ) → IsEndOf words from end
    → Err place ≡ part_from from bare_part (slice_range words from end)
    → run_behind words from ≡ Err place
unfolding run_from parts_from
part_wrong words from end place ends e =
    elim (cases_lt end (length words)) [
      | inl less ↦ rw (split_inside words from end ends less, ← e) refl
      | inr past ↦ rw (split_last words from end ends past, ← e) refl
    ]

-- ---- one part after another

-- the run is what is left of it from a place on, as far as it is one
pub record IsRest (words : List (List ℕ)) (from : ℕ) : Type 0 where
  pub there : from ≤ length words
  pub wrong : (place : ℕ) → run_behind words from ≡ Err place → run_behind words 0 ≡ Err place
  pub run : IsOk (run_behind words from) → IsOk (run_behind words 0)

pub rest_first : (words : List (List ℕ)) → IsRest words 0
rest_first words = record { there = omega arith; wrong = λ place e. e; run = λ ok. ok }

wrong_behind : (read behind : Result (List Part) ℕ) (part : Part) (place : ℕ) → read ≡ (behind >>= λ parts. Ok (part ∷ parts))
    → behind ≡ Err place → read ≡ Err place
wrong_behind read behind part place e wrong = rw (e, wrong) refl

ok_behind : (read behind : Result (List Part) ℕ) (part : Part) → read ≡ (behind >>= λ parts. Ok (part ∷ parts))
    → IsOk behind → IsOk read
ok_behind read (Ok parts) part e ok = rw e refl
ok_behind read (Err place) part e ok = cc

pub rest_next : (words : List (List ℕ)) (from next : ℕ) (part : Part) → IsRest words from → IsPartAt words from part (Some next)
    → IsRest words next
rest_next words from next part rest at = record {
  there = at.1;
  wrong = λ place e. rest.wrong place (wrong_behind (run_behind words from) (run_behind words next) part place at.2 e);
  run = λ ok. rest.run (ok_behind (run_behind words from) (run_behind words next) part at.2 ok);
}

pub rest_last : (words : List (List ℕ)) (from : ℕ) (part : Part) → IsRest words from → IsPartAt words from part None
    → IsOk (run_behind words 0)
rest_last words from part rest at = rest.run (rw at refl)

read_by : (words : List (List ℕ)) (read : Result (List Part) ℕ) → run_behind words 0 ≡ read → IsOk read
    → run_at words ≡ Ok (parts_behind words 0)
unfolding run_at
read_by words (Ok parts) e ok = rw e refl
read_by words (Err place) e ok = cc

pub run_at-parts : (words : List (List ℕ)) → IsOk (run_behind words 0) → run_at words ≡ Ok (parts_behind words 0)
run_at-parts words ok = read_by words (run_behind words 0) refl ok

pub run_at-wrong : (words : List (List ℕ)) (place : ℕ) → run_behind words 0 ≡ Err place → run_at words ≡ Err (place_in words place)
unfolding run_at
run_at-wrong words place e = rw e refl

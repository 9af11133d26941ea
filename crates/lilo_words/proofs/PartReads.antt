-- What is read of the options from one place to before another.
use Rattle.std.proofs.Common.{◌≡◌, ◌<◌, ◌≤◌, inl, inr, ℕ, ◌+◌, List, [], ◌∷◌, length, get_or, true, refl, arith}
use Rattle.std.specs.Prelude.{Some, None, Ok, Err, slice_get, slice_range, not, bytes_eq, is_none, codes}
use Rattle.std.proofs.lemmas.Bool.{cases_lt}
use Rattle.lilo_model.specs.Devices.{Device}
use Rattle.lilo_model.specs.Words.{Part, bare_part, with_config, with_root, with_verbose, is_config, is_root, is_verbose, named_from, path_from, part_from, commanded}
use Rattle.lilo_words.specs.Options.{IsNoNewOption}
use Rattle.lilo_words.proofs.Commands.{same}
use Rattle.lilo_words.proofs.Parts.{and_first, and_second, none_there, not_set, verbose_from, not_option}
use Rattle.lilo_words.proofs.Ranges.{range_empty, range_word, range_some}

next : (at : ℕ) → at + 1 + 1 ≡ at + 2
next at = omega arith

config_step : (at : ℕ) (part : Part) (word value path : List ℕ) (words : List (List ℕ)) → is_config part word ≡ true
    → Ok path ≡ path_from (at + 1) (value ∷ words)
    → part_from at part (word ∷ value ∷ words) ≡ part_from (at + 2) (with_config part path) words
unfolding part_from
config_step at part word value path words is e = rw (is, ← e) refl

config_stop : (at place : ℕ) (part : Part) (word value : List ℕ) (words : List (List ℕ)) → is_config part word ≡ true
    → Err place ≡ path_from (at + 1) (value ∷ words) → part_from at part (word ∷ value ∷ words) ≡ Err place
unfolding part_from
config_stop at place part word value words is e = rw (is, ← e) refl

config_last : (at : ℕ) (part : Part) (word : List ℕ) → is_config part word ≡ true → part_from at part (word ∷ []) ≡ Err (at + 1)
unfolding part_from
config_last at part word is = rw is refl

pub config_read : (words : List (List ℕ)) (at end : ℕ) (part : Part) (word path : List ℕ)
    → at + 1 < end → end ≤ length words → slice_get words at ≡ Some word → is_config part word ≡ true
    → Ok path ≡ path_from (at + 1) (slice_range words (at + 1) end)
    → part_from at part (slice_range words at end) ≡ part_from (at + 2) (with_config part path) (slice_range words (at + 2) end)
config_read words at end part word path less within e is read =
    let some = range_some words (at + 1) end less within in
    let found : Ok path ≡ path_from (at + 1) (get_or words (at + 1) [] ∷ slice_range words (at + 1 + 1) end) = rw some at read in
    rw (range_word words at end word (omega arith) within e, some, next at)
    (config_step at part word (get_or words (at + 1) []) path (slice_range words (at + 2) end) is found)

pub config_refused : (words : List (List ℕ)) (at end place : ℕ) (part : Part) (word : List ℕ)
    → at < end → end ≤ length words → slice_get words at ≡ Some word → is_config part word ≡ true
    → Err place ≡ path_from (at + 1) (slice_range words (at + 1) end)
    → part_from at part (slice_range words at end) ≡ Err place
config_refused words at end place part word less within e is read =
    elim (cases_lt (at + 1) end) [
      | inl inside ↦
          (let some = range_some words (at + 1) end inside within in
          let found : Err place ≡ path_from (at + 1) (get_or words (at + 1) [] ∷ slice_range words (at + 1 + 1) end) = rw some at read in
          rw (range_word words at end word less within e, some)
          (config_stop at place part word (get_or words (at + 1) []) (slice_range words (at + 1 + 1) end) is found))
      | inr past ↦
          (let empty = range_empty words (at + 1) end past in
          let found : Err place ≡ path_from (at + 1) [] = rw empty at read in
          let last : place ≡ at + 1 = cc in
          rw (range_word words at end word less within e, empty, last) (config_last at part word is))
    ]

-- an argument that is `--root`
root_word : (part : Part) (word : List ℕ) → is_root part word ≡ true → word ≡ codes "--root"
root_word part word is = same word (codes "--root") (and_first (bytes_eq word (codes "--root")) (is_none part.root) is)

root_unset : (part : Part) (word : List ℕ) → is_root part word ≡ true → part.root ≡ None
root_unset part word is = none_there part.root (and_second (bytes_eq word (codes "--root")) (is_none part.root) is)

root_step : (at : ℕ) (part : Part) (value : List ℕ) (device : Device) (words : List (List ℕ)) → part.root ≡ None
    → Ok device ≡ named_from (at + 1) (value ∷ words)
    → part_from at part (codes "--root" ∷ value ∷ words) ≡ part_from (at + 2) (with_root part device) words
unfolding part_from
root_step at part value device words none e = rw (none, ← e) refl

root_stop : (at place : ℕ) (part : Part) (value : List ℕ) (words : List (List ℕ)) → part.root ≡ None
    → Err place ≡ named_from (at + 1) (value ∷ words)
    → part_from at part (codes "--root" ∷ value ∷ words) ≡ Err place
unfolding part_from
root_stop at place part value words none e = rw (none, ← e) refl

root_last : (at : ℕ) (part : Part) → part.root ≡ None → part_from at part (codes "--root" ∷ []) ≡ Err (at + 1)
unfolding part_from
root_last at part none = rw none refl

pub root_read : (words : List (List ℕ)) (at end : ℕ) (part : Part) (word : List ℕ) (device : Device)
    → at + 1 < end → end ≤ length words → slice_get words at ≡ Some word → is_root part word ≡ true
    → Ok device ≡ named_from (at + 1) (slice_range words (at + 1) end)
    → part_from at part (slice_range words at end) ≡ part_from (at + 2) (with_root part device) (slice_range words (at + 2) end)
root_read words at end part word device less within e is read =
    let some = range_some words (at + 1) end less within in
    let found : Ok device ≡ named_from (at + 1) (get_or words (at + 1) [] ∷ slice_range words (at + 1 + 1) end) = rw some at read in
    rw (range_word words at end word (omega arith) within e, some, next at, root_word part word is)
    (root_step at part (get_or words (at + 1) []) device (slice_range words (at + 2) end) (root_unset part word is) found)

pub root_refused : (words : List (List ℕ)) (at end place : ℕ) (part : Part) (word : List ℕ)
    → at < end → end ≤ length words → slice_get words at ≡ Some word → is_root part word ≡ true
    → Err place ≡ named_from (at + 1) (slice_range words (at + 1) end)
    → part_from at part (slice_range words at end) ≡ Err place
root_refused words at end place part word less within e is read =
    elim (cases_lt (at + 1) end) [
      | inl inside ↦
          (let some = range_some words (at + 1) end inside within in
          let found : Err place ≡ named_from (at + 1) (get_or words (at + 1) [] ∷ slice_range words (at + 1 + 1) end) = rw some at read in
          rw (range_word words at end word less within e, some, root_word part word is)
          (root_stop at place part (get_or words (at + 1) []) (slice_range words (at + 1 + 1) end) (root_unset part word is) found))
      | inr past ↦
          (let empty = range_empty words (at + 1) end past in
          let found : Err place ≡ named_from (at + 1) [] = rw empty at read in
          let last : place ≡ at + 1 = cc in
          rw (range_word words at end word less within e, empty, root_word part word is, last)
          (root_last at part (root_unset part word is)))
    ]

pub verbose_read : (words : List (List ℕ)) (at end : ℕ) (part : Part) (word : List ℕ)
    → at < end → end ≤ length words → slice_get words at ≡ Some word → is_verbose part word ≡ true
    → part_from at part (slice_range words at end) ≡ part_from (at + 1) (with_verbose part) (slice_range words (at + 1) end)
verbose_read words at end part word less within e is =
    let named = same word (codes "-v") (and_first (bytes_eq word (codes "-v")) (not part.verbose) is) in
    let unset = not_set part.verbose (and_second (bytes_eq word (codes "-v")) (not part.verbose) is) in
    rw (range_word words at end word less within e, named) (verbose_from at part (slice_range words (at + 1) end) unset)

-- the command comes after the options
pub command_read : (words : List (List ℕ)) (at end : ℕ) (part : Part) (word : List ℕ)
    → at < end → end ≤ length words → slice_get words at ≡ Some word → IsNoNewOption part word
    → part_from at part (slice_range words at end) ≡ commanded at part (slice_range words at end)
command_read words at end part word less within e none =
    rw (range_word words at end word less within e)
    (not_option at part word (slice_range words (at + 1) end) none.config none.root none.verbose)

pub command_none : (words : List (List ℕ)) (at end : ℕ) (part : Part) → end ≤ at
    → part_from at part (slice_range words at end) ≡ commanded at part (slice_range words at end)
unfolding part_from
command_none words at end part past = rw (range_empty words at end past) refl

-- how far a part is read whose options so far are those of another
pub record OptionsRead (words : List (List ℕ)) (from at end : ℕ) (part : Part) : Type 0 where
  pub before : at ≤ end
  pub read : part_from from bare_part (slice_range words from end) ≡ part_from at part (slice_range words at end)

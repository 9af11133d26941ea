-- The line that a choice keeps has at most as many bytes as a line may have.
use Rattle.std.proofs.Common.{◌≡◌, ℕ, zero, suc, ◌+◌, ◌-◌, ◌≤◌, ◌<◌, ◌==◌, Bool, true, false, not, ◌&&◌, ◌||◌, if◌then◌else◌, List, [], ◌∷◌, ◌++◌, length, filter, Option, None, Some, refl, sym, ap, subst, ◌∙◌, arith, length-append, length-take}
use Rattle.std.specs.Prelude.{nat_lt, unwrap_or, IfSome, slice_get, get_or, bytes_eq, codes}
use Rattle.std.specs.List.{slice_split}
use Rattle.std.proofs.lemmas.Bool.Decides.{nat_tests}
use Rattle.std.proofs.lemmas.List.Quantifiers.{position-Some}
use Rattle.std.proofs.lemmas.List.Splits.{join_with_byte-slice_split}
use Rattle.std.proofs.lemmas.Option.{get_or_from_slice_get}
use Rattle.std.proofs.lemmas.Slice.Eq.{bytes_eq-Decides}
use Rattle.lilo_model.specs.Choice.{Setup, Candidate, Turn, Takes, Idles, Again, Course, default_candidate, meant_candidate, automatic_candidate, asked_password, newline, turn_behind, is_right, answer_turn, question_turn, candidate_turn, meaning_turn, listing, line_end_turn, line_turn, next_line_turn, delay_turn, timeout_turn, opened_turn, course_from, most_turns, course_opened, opens_at_once, course_of, lock_line, filled_text, line_after_entry, line_after_choice}
use Rattle.lilo_model.specs.DefaultLine.{DefaultLine, Empty, Once, Kept, line_text, line_after_use, line_after}
use Rattle.lilo_model.specs.KeyCuts.{WaitCut, Elapsed, Interrupted, cut_wait, LineCut, Unended, Ended, cut_line, is_enter_key, is_erase_key, AnswerCut, Missing, Given, cut_answer}
use Rattle.lilo_model.specs.LineEdits.{is_removal, is_printable, text_after_byte, text_after, echoes, answer_after}
use Rattle.lilo_model.specs.LineWords.{is_empty_list, words_of, joined_words, kept_words, is_lock_word, has_lock_word, entry_named, Meaning, Nothing, Names, NoSuch, words_meaning, meaning}
use Rattle.lilo_model.specs.Prompt.{Key, Byte, ListedEntry}
use Rattle.map_again_laws.specs.Fits.{IsLine}

-- ---- words (as prompt_core's proofs of its own steps)

joined-two : (word next : List ℕ) (words : List (List ℕ)) → length (joined_words (word ∷ next ∷ words)) ≡ length word + length (joined_words (next ∷ words)) + 1
joined-two word next words = omega (arith, length-append word (32 ∷ joined_words (next ∷ words)))

joined-most : (word : List ℕ) (words : List (List ℕ)) → length (joined_words (word ∷ words)) ≤ length word + length (joined_words words) + 1
joined-most word [] = omega arith
joined-most word (next ∷ words) = omega (arith, joined-two word next words)

joined-least : (word : List ℕ) (words : List (List ℕ)) → length word ≤ length (joined_words (word ∷ words))
joined-least word [] = omega arith
joined-least word (next ∷ words) = omega (arith, joined-two word next words)

-- fewer words are no longer
fewer-by : (p : List ℕ → Bool) (word next : List ℕ) (words : List (List ℕ)) (test : Bool) → p word ≡ test
    → length (joined_words (filter p (next ∷ words))) ≤ length (joined_words (next ∷ words))
    → length (joined_words (filter p (word ∷ next ∷ words))) ≤ length (joined_words (word ∷ next ∷ words))
fewer-by p word next words true is rest =
    rw is (omega (arith, rest, joined-most word (filter p (next ∷ words)), joined-two word next words))
fewer-by p word next words false is rest = rw is (omega (arith, rest, joined-two word next words))

fewer-one : (p : List ℕ → Bool) (word : List ℕ) (test : Bool) → p word ≡ test → length (joined_words (filter p (word ∷ []))) ≤ length word
fewer-one p word true is = rw is (omega arith)
fewer-one p word false is = rw is (omega arith)

fewer : (p : List ℕ → Bool) (words : List (List ℕ)) → length (joined_words (filter p words)) ≤ length (joined_words words)
fewer p [] = omega arith
fewer p (word ∷ []) = fewer-one p word (p word) refl
fewer p (word ∷ next ∷ words) = fewer-by p word next words (p word) refl (fewer p (next ∷ words))

fewer-behind : (p : List ℕ → Bool) (word : List ℕ) (words : List (List ℕ)) → length (joined_words (word ∷ filter p words)) ≤ length (joined_words (word ∷ words))
fewer-behind p word [] = omega arith
fewer-behind p word (next ∷ words) =
    omega (arith, fewer p (next ∷ words), joined-most word (filter p (next ∷ words)), joined-two word next words)

-- the words of a text are no longer than it
words-short : (text : List ℕ) → length (joined_words (words_of text)) ≤ length text
unfolding words_of
words-short text =
    let fit = fewer (λ part. not (is_empty_list part)) (slice_split (λ byte. byte == 32) text) in
    let whole = ap length (join_with_byte-slice_split 32 text) in
    omega (arith, fit, whole)

-- ---- what is chosen from

-- an entry's name has a byte, and neither it nor the fallback is longer than a line may be
pub record EntryFits (entry : ListedEntry) : Type 0 where
  pub some : 1 ≤ length entry.name
  pub name : length entry.name ≤ 255
  pub fallback : IfSome entry.fallback (λ text. length text ≤ 255)

module _ (setup : Setup) (capacity : setup.settings.capacity ≤ 255) (fit : (place : ℕ) (entry : ListedEntry) → slice_get setup.entries place ≡ Some entry → EntryFits entry)
    (line : length (line_text setup.line) ≤ 255) where
  -- what a candidate would keep is short
  abbrev Good : Candidate → Type 0
  Good candidate = (entry : ListedEntry) → slice_get setup.entries candidate.entry ≡ Some entry → length (joined_words (entry.name ∷ kept_words candidate.words)) ≤ 255

  default-good : (automatic : Bool) → Good (default_candidate setup automatic)
  default-good automatic entry is = (fit setup.settings.default_entry entry is).name

  named-good : (name : List ℕ) (others : List (List ℕ)) (place : ℕ) (words : List (List ℕ)) (automatic : Bool) → length (joined_words (name ∷ others)) ≤ 255
      → (found : Option ℕ) → entry_named setup.entries name ≡ found → words_meaning setup.entries (name ∷ others) ≡ Names place words
      → Good (record { entry = place; words = words; automatic = automatic })
  named-good name others place words automatic short None there is = let never : NoSuch ≡ Names place words = rw there at is in absurd cc
  named-good name others place words automatic short (Some k) there is =
      let same : Names k others ≡ Names place words = rw there at is in
      let here : k ≡ place = cc in
      let rest : others ≡ words = cc in
      λ entry at.
      let found : entry_named setup.entries name ≡ Some place = there ∙ ap Some here in
      let passes : bytes_eq (get_or setup.entries place entry).name name ≡ true = (position-Some (λ (entry : ListedEntry). bytes_eq entry.name name) setup.entries place entry found).1 in
      let first : (get_or setup.entries place entry).name ≡ name = (bytes_eq-Decides (get_or setup.entries place entry).name name).0 passes in
      let same_name : name ≡ entry.name = sym first ∙ ap (λ (entry : ListedEntry). entry.name) (get_or_from_slice_get setup.entries place entry entry at) in
      let fits : length (joined_words (name ∷ kept_words others)) ≤ 255 = omega (arith, short, fewer-behind (λ word. not (is_lock_word word)) name others) in
      subst (λ name. length (joined_words (name ∷ kept_words words)) ≤ 255) same_name
      (subst (λ words. length (joined_words (name ∷ kept_words words)) ≤ 255) rest fits)

  words-good : (all : List (List ℕ)) (place : ℕ) (words : List (List ℕ)) (automatic : Bool) → length (joined_words all) ≤ 255 → words_meaning setup.entries all ≡ Names place words
      → Good (record { entry = place; words = words; automatic = automatic })
  words-good [] place words automatic short is = let never : Nothing ≡ Names place words = is in absurd cc
  words-good (name ∷ others) place words automatic short is = named-good name others place words automatic short (entry_named setup.entries name) refl is

  text-good : (text : List ℕ) (place : ℕ) (words : List (List ℕ)) (automatic : Bool) → length text ≤ 255 → meaning setup.entries text ≡ Names place words
      → Good (record { entry = place; words = words; automatic = automatic })
  unfolding meaning
  text-good text place words automatic short is = words-good (words_of text) place words automatic (omega (arith, short, words-short text)) is

  meant-good : (found : Meaning) → meaning setup.entries (line_text setup.line) ≡ found → Good (unwrap_or (meant_candidate found) (default_candidate setup true))
  meant-good Nothing is = default-good true
  meant-good (Names place words) is = text-good (line_text setup.line) place words true line is
  meant-good NoSuch is = default-good true

  automatic-good : Good (automatic_candidate setup)
  automatic-good = meant-good (meaning setup.entries (line_text setup.line)) refl

  -- ---- the keys

  abbrev TurnGood : Turn → Type 0
  TurnGood (Takes candidate text keys) = Good candidate
  TurnGood (Idles text) = Unit {0}
  TurnGood (Again text left keys) = Unit {0}

  behind-good : (text : List ℕ) (turn : Turn) → TurnGood turn → TurnGood (turn_behind text turn)
  behind-good text (Takes candidate shown keys) good = good
  behind-good text (Idles shown) good = tt
  behind-good text (Again shown left keys) good = tt

  answer-good : (candidate : Candidate) (password : List ℕ) (answer : Option (List ℕ)) (cut : AnswerCut) → Good candidate → TurnGood (answer_turn candidate password answer cut)
  answer-good candidate password answer (Missing keys) good = tt
  answer-good candidate password answer (Given bytes keys) good = by (is_right password (answer_after answer bytes))
    where
      by : (right : Bool) → TurnGood (if right then Takes candidate newline keys else Again (newline ++ codes "Sorry." ++ newline) keys keys)
      by true = good
      by false = tt

  question-good : (candidate : Candidate) (asked : Option (List ℕ)) (keys : List Key) → Good candidate → TurnGood (question_turn candidate asked keys)
  question-good candidate None keys good = good
  question-good candidate (Some password) keys good = behind-good (codes "Password: ") (answer_turn candidate password (Some []) (cut_answer 0 keys)) (answer-good candidate password (Some []) (cut_answer 0 keys) good)

  candidate-good : (candidate : Candidate) (keys : List Key) → Good candidate → TurnGood (candidate_turn setup candidate keys)
  candidate-good candidate keys good = question-good candidate (asked_password setup.entries candidate) keys good

  meaning-good : (text : List ℕ) (found : Meaning) (keys : List Key) → length text ≤ 255 → meaning setup.entries text ≡ found → TurnGood (meaning_turn setup found keys)
  meaning-good text Nothing keys short is = candidate-good (default_candidate setup false) keys (default-good false)
  meaning-good text (Names place words) keys short is = candidate-good (record { entry = place; words = words; automatic = false }) keys (text-good text place words false short is)
  meaning-good text NoSuch keys short is = tt

  end-good : (text : List ℕ) (key : ℕ) (keys : List Key) → length text ≤ 255 → TurnGood (line_end_turn setup text key keys)
  end-good text key keys short = by (is_enter_key key) (is_erase_key key)
    where
      by : (enter erase : Bool) → TurnGood (if enter then meaning_turn setup (meaning setup.entries text) keys else (if erase then Again [] keys keys else Again (listing setup.entries) keys keys))
      by true erase = meaning-good text (meaning setup.entries text) keys short refl
      by false true = tt
      by false false = tt

  no-room : (prints : Bool) → (prints && false) ≡ true → ⊥
  no-room true never = cc
  no-room false never = cc

  byte-short : (text : List ℕ) (byte : ℕ) → length text ≤ 255 → length (text_after_byte setup.settings.capacity text byte) ≤ 255
  byte-short text byte short = by (is_removal byte) (is_printable byte && nat_lt (length text) setup.settings.capacity) (nat_lt (length text) setup.settings.capacity) refl refl refl
    where
      by : (removes takes room : Bool) → is_removal byte ≡ removes → (is_printable byte && nat_lt (length text) setup.settings.capacity) ≡ takes
          → nat_lt (length text) setup.settings.capacity ≡ room → length (text_after_byte setup.settings.capacity text byte) ≤ 255
      by true takes room is_removes is_takes is_room = rw is_removes (omega (arith, short, length-take (length text - 1) text))
      by false false room is_removes is_takes is_room = rw (is_removes, is_takes) short
      by false true true is_removes is_takes is_room =
          let less : length text < setup.settings.capacity = grind (arith, nat_tests) in
          rw (is_removes, is_takes) (omega (arith, capacity, less, length-append text (byte ∷ [])))
      by false true false is_removes is_takes is_room =
          let never : (is_printable byte && false) ≡ true = rw is_room at is_takes in absurd (no-room (is_printable byte) never)

  after-short : (bytes text : List ℕ) → length text ≤ 255 → length (text_after setup.settings.capacity text bytes) ≤ 255
  after-short [] text short = short
  after-short (byte ∷ bytes) text short = after-short bytes (text_after_byte setup.settings.capacity text byte) (byte-short text byte short)

  line-good : (cut : LineCut) → TurnGood (line_turn setup [] cut)
  line-good (Unended bytes) = tt
  line-good (Ended bytes key keys) =
      behind-good (echoes setup.settings.capacity [] bytes ++ newline) (line_end_turn setup (text_after setup.settings.capacity [] bytes) key keys)
      (end-good (text_after setup.settings.capacity [] bytes) key keys (after-short bytes [] (omega arith)))

  next-good : (keys : List Key) → TurnGood (next_line_turn setup keys)
  next-good keys = line-good (cut_line true keys)

  timeout-good : (cut : WaitCut) → TurnGood (timeout_turn setup cut)
  timeout-good (Elapsed keys) = behind-good newline (candidate_turn setup (default_candidate setup true) keys) (candidate-good (default_candidate setup true) keys (default-good true))
  timeout-good (Interrupted byte keys) = next-good (Byte byte ∷ keys)

  opened-good : (timeout : Option ℕ) (keys : List Key) → TurnGood (opened_turn setup timeout keys)
  opened-good None keys = next-good keys
  opened-good (Some timeout) keys = timeout-good (cut_wait timeout keys)

  delay-good : (cut : WaitCut) → TurnGood (delay_turn setup cut)
  delay-good (Elapsed keys) = candidate-good (automatic_candidate setup) keys automatic-good
  delay-good (Interrupted byte keys) = tt

  abbrev CourseGood : Course → Type 0
  CourseGood course = IfSome course.picked Good

  from-good : (most : ℕ) (opened : Bool) (turn : Turn) → TurnGood turn → CourseGood (course_from setup most opened turn)
  from-good most opened (Takes candidate text keys) good = good
  from-good most opened (Idles text) good = tt
  from-good zero opened (Again text left keys) good = tt
  from-good (suc most) opened (Again text left keys) good = from-good most true (next_line_turn setup keys) (next-good keys)

  course-good : (keys : List Key) → CourseGood (course_of setup keys)
  unfolding course_of
  course-good keys = by (opens_at_once setup)
    where
      by : (at_once : Bool) → CourseGood (course_opened setup (most_turns keys) at_once keys)
      by true = from-good (most_turns keys) true (opened_turn setup setup.settings.timeout keys) (opened-good setup.settings.timeout keys)
      by false = from-good (most_turns keys) false (delay_turn setup (cut_wait setup.settings.delay keys)) (delay-good (cut_wait setup.settings.delay keys))

  -- ---- the line

  abbrev Fits : List ℕ → Type 0
  Fits text = (1 ≤ length text) × (length text ≤ 255)

  use-fits : (line : DefaultLine) → IsLine line → IsLine (line_after_use line)
  use-fits Empty is = tt
  use-fits (Once text) is = tt
  use-fits (Kept text) is = is

  after-fits : (line : DefaultLine) (lock fallback : Option (List ℕ)) → IsLine line → IfSome lock Fits → IfSome fallback Fits → IsLine (line_after line lock fallback)
  after-fits line (Some lock) fallback is locks falls = locks
  after-fits line None (Some fallback) is locks falls = falls
  after-fits line None None is locks falls = use-fits line is

  lock-fits : (entry : ListedEntry) (candidate : Candidate) → EntryFits entry → length (joined_words (entry.name ∷ kept_words candidate.words)) ≤ 255 → IfSome (lock_line entry candidate) Fits
  lock-fits entry candidate fits short = by (entry.lock || has_lock_word candidate.words)
    where
      by : (keeps : Bool) → IfSome (if keeps then Some (joined_words (entry.name ∷ kept_words candidate.words)) else None) Fits
      by true =
          let some = fits.some in
          let least = joined-least entry.name (kept_words candidate.words) in
          (omega (arith, some, least), short)
      by false = tt

  filled-fits : (fallback : Option (List ℕ)) → IfSome fallback (λ text. length text ≤ 255) → IfSome (filled_text fallback) Fits
  filled-fits None short = tt
  filled-fits (Some []) short = tt
  filled-fits (Some (byte ∷ text)) short = (omega arith, short)

  entry-fits : (candidate : Candidate) (found : Option ListedEntry) → slice_get setup.entries candidate.entry ≡ found → IsLine setup.line → Good candidate
      → IsLine (line_after_entry setup.line candidate found)
  entry-fits candidate None is fits good = use-fits setup.line fits
  entry-fits candidate (Some entry) is fits good =
      let there = fit candidate.entry entry is in
      after-fits setup.line (lock_line entry candidate) (filled_text entry.fallback) fits (lock-fits entry candidate there (good entry is)) (filled-fits entry.fallback there.fallback)

  choice-by : (picked : Option Candidate) → IsLine setup.line → IfSome picked Good → IsLine (line_after_choice setup picked)
  choice-by None fits good = fits
  choice-by (Some candidate) fits good = entry-fits candidate (slice_get setup.entries candidate.entry) refl fits good

  -- the line after a choice is one that a sector can hold
  pub choice-fits : (keys : List Key) → IsLine setup.line → IsLine (line_after_choice setup (course_of setup keys).picked)
  choice-fits keys fits = choice-by (course_of setup keys).picked fits (course-good keys)

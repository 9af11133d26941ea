-- How long the texts are that a prompt holds.
use Rattle.std.proofs.Common.{◌≡◌, ℕ, suc, ◌+◌, ◌-◌, ◌≤◌, ◌<◌, ◌==◌, List, [], ◌∷◌, ◌++◌, length, filter, length-append, length-take, Bool, true, false, not, ◌&&◌, Option, None, Some, refl, ◌∙◌, ap, arith}
use Rattle.std.specs.Prelude.{⊤, nat_le, nat_lt, codes}
use Rattle.std.specs.List.{join_with_byte, slice_split}
use Rattle.std.proofs.lemmas.List.Splits.{join_with_byte-slice_split}
use Rattle.std.proofs.lemmas.Bool.Decides.{nat_tests}
use Rattle.lilo_model.specs.Prompt.{ListedEntry}
use Rattle.lilo_model.specs.DefaultLine.{line_text}
use Rattle.lilo_model.specs.KeyCuts.{is_enter_key, is_erase_key, is_list_key, most_quiet_ticks}
use Rattle.lilo_model.specs.LineEdits.{is_removal, is_printable, text_after_byte}
use Rattle.lilo_model.specs.LineWords.{is_empty_list, words_of, words_meaning, joined_words, kept_words, is_lock_word, entry_named, Meaning, Nothing, Names, NoSuch, meaning}
use Rattle.lilo_model.specs.Choice.{Setup, newline, is_right}
use Rattle.bios_model.specs.declared.key.Key.{Key}
use Rattle.bios_model.specs.declared.key.Key.TheVariants as keys
use Rattle.prompt_core.specs.Steps.{Chosen, Question, State, Delaying, Timing, Typing, Asking, Decided, Over, Meant, Blank, Means, Unknown, name_at, meant_of, line_meant, meant_or, default_choice, password_of, question_step, choice_step, meant_step, line_step, reopened_step, answer_step, quiet_step, delayed_step, timed_step, shown_step, waiting_step, opens_by, prompt_text, key_step, start_step}
use Rattle.prompt_core.specs.Short.{AreShort, IsShort, ShortLaw}
use Rattle.prompt_core.proofs.GatherLemmas.{name_found}

-- ---- words joined

abbrev joined : List (List ℕ) → List ℕ
joined words = join_with_byte 32 words

joined-two : (word next : List ℕ) (words : List (List ℕ)) → length (joined (word ∷ next ∷ words)) ≡ length word + length (joined (next ∷ words)) + 1
joined-two word next words = omega (arith, length-append word (32 ∷ joined (next ∷ words)))

joined-most : (word : List ℕ) (words : List (List ℕ)) → length (joined (word ∷ words)) ≤ length word + length (joined words) + 1
joined-most word [] = omega arith
joined-most word (next ∷ words) = omega (arith, joined-two word next words)

-- fewer words are no longer
fewer_by : (p : List ℕ → Bool) (word next : List ℕ) (words : List (List ℕ)) (test : Bool) → p word ≡ test
    → length (joined (filter p (next ∷ words))) ≤ length (joined (next ∷ words))
    → length (joined (filter p (word ∷ next ∷ words))) ≤ length (joined (word ∷ next ∷ words))
fewer_by p word next words true is rest =
    rw is (omega (arith, rest, joined-most word (filter p (next ∷ words)), joined-two word next words))
fewer_by p word next words false is rest = rw is (omega (arith, rest, joined-two word next words))

fewer_one : (p : List ℕ → Bool) (word : List ℕ) (test : Bool) → p word ≡ test → length (joined (filter p (word ∷ []))) ≤ length word
fewer_one p word true is = rw is (omega arith)
fewer_one p word false is = rw is (omega arith)

fewer : (p : List ℕ → Bool) (words : List (List ℕ)) → length (joined (filter p words)) ≤ length (joined words)
fewer p [] = omega arith
fewer p (word ∷ []) = fewer_one p word (p word) refl
fewer p (word ∷ next ∷ words) = fewer_by p word next words (p word) refl (fewer p (next ∷ words))

fewer_behind : (p : List ℕ → Bool) (word : List ℕ) (words : List (List ℕ)) → length (joined (word ∷ filter p words)) ≤ length (joined (word ∷ words))
fewer_behind p word [] = omega arith
fewer_behind p word (next ∷ words) =
    omega (arith, fewer p (next ∷ words), joined-most word (filter p (next ∷ words)), joined-two word next words)

-- the words of a text are no longer than it
words_short : (text : List ℕ) → length (joined (words_of text)) ≤ length text
unfolding words_of
words_short text =
    let fit = fewer (λ part. not (is_empty_list part)) (slice_split (λ byte. byte == 32) text) in
    let whole = ap length (join_with_byte-slice_split 32 text) in
    omega (arith, fit, whole)

-- ---- the line that a lock keeps

kept_by : (entries : List ListedEntry) (words : List (List ℕ)) (place : ℕ) (behind : List (List ℕ)) (most : ℕ) → length (joined words) ≤ most
    → words_meaning entries words ≡ Names place behind → length (joined_words (name_at entries place ∷ kept_words behind)) ≤ most
kept_by entries [] place behind most short is = let never : Nothing ≡ Names place behind = is in cc
kept_by entries (name ∷ words) place behind most short is = by (entry_named entries name) refl
  where
    by : (found : Option ℕ) → entry_named entries name ≡ found → length (joined_words (name_at entries place ∷ kept_words behind)) ≤ most
    by None none = let never : NoSuch ≡ Names place behind = rw none at is in cc
    by (Some k) some =
        let same : Names k words ≡ Names place behind = rw some at is in
        let here : k ≡ place = cc in
        let there : words ≡ behind = cc in
        let found : entry_named entries name ≡ Some place = some ∙ ap Some here in
        rw (name_found entries name place found, ← there)
        (omega (arith, short, fewer_behind (λ word. not (is_lock_word word)) name words))

kept_short : (entries : List ListedEntry) (text : List ℕ) (place : ℕ) (behind : List (List ℕ)) (most : ℕ) → length text ≤ most
    → meaning entries text ≡ Names place behind → length (joined_words (name_at entries place ∷ kept_words behind)) ≤ most
unfolding meaning
kept_short entries text place behind most short is =
    kept_by entries (words_of text) place behind most (omega (arith, words_short text)) is

-- ---- choices

abbrev HasShort : ℕ → Meant → Type 0
HasShort most (Means chosen) = length chosen.lock_line ≤ most
HasShort most _ = ⊤

meant_by : (entries : List ListedEntry) (automatic : Bool) (means : Meaning) (most : ℕ)
    → ((place : ℕ) (words : List (List ℕ)) → means ≡ Names place words → length (joined_words (name_at entries place ∷ kept_words words)) ≤ most)
    → HasShort most (meant_of entries automatic means)
meant_by entries automatic Nothing most short = tt
meant_by entries automatic (Names place words) most short = short place words refl
meant_by entries automatic NoSuch most short = tt

line_short : (entries : List ListedEntry) (automatic : Bool) (text : List ℕ) (most : ℕ) → length text ≤ most → HasShort most (meant_of entries automatic (meaning entries text))
line_short entries automatic text most short =
    meant_by entries automatic (meaning entries text) most (λ place words is. kept_short entries text place words most short is)

or_short : (other : Chosen) (means : Meant) (most : ℕ) → length other.lock_line ≤ most → HasShort most means → length (meant_or other means).lock_line ≤ most
or_short other Blank most first second = first
or_short other (Means chosen) most first second = second
or_short other Unknown most first second = first

asks_short : (before : List ℕ) (opened : Bool) (chosen : Chosen) (asked : Option (List ℕ)) (most : ℕ) → length chosen.lock_line ≤ most
    → IsShort most (question_step before opened chosen asked).state
asks_short before opened chosen None most short = short
asks_short before opened chosen (Some password) most short = short

choice_short : (entries : List ListedEntry) (before : List ℕ) (opened : Bool) (chosen : Chosen) (most : ℕ) → length chosen.lock_line ≤ most
    → IsShort most (choice_step entries before opened chosen).state
choice_short entries before opened chosen most short = asks_short before opened chosen (password_of entries chosen) most short

-- ---- steps

finished_short : (most : ℕ) (setup : Setup) (before : List ℕ) (means : Meant) → AreShort most setup → HasShort most means
    → IsShort most (meant_step setup before means).state
finished_short most setup before Blank all short =
    choice_short setup.entries before true (default_choice setup false) most (all.names setup.settings.default_entry)
finished_short most setup before (Means chosen) all short = choice_short setup.entries before true chosen most short
finished_short most setup before Unknown all short = omega arith

no_room : (prints : Bool) → (prints && false) ≡ true → ⊥
no_room true never = cc
no_room false never = cc

edited_short : (capacity most : ℕ) (text : List ℕ) (byte : ℕ) → capacity ≤ most → length text ≤ most → length (text_after_byte capacity text byte) ≤ most
edited_short capacity most text byte fits short = by (is_removal byte) (is_printable byte && nat_lt (length text) capacity) (nat_lt (length text) capacity) refl refl refl
  where
    by : (removes takes room : Bool) → is_removal byte ≡ removes → (is_printable byte && nat_lt (length text) capacity) ≡ takes
        → nat_lt (length text) capacity ≡ room → length (text_after_byte capacity text byte) ≤ most
    by true takes room is_removes is_takes is_room = rw is_removes (omega (arith, length-take (length text - 1) text))
    by false false room is_removes is_takes is_room = rw (is_removes, is_takes) short
    by false true true is_removes is_takes is_room =
        let less : length text < capacity = grind (arith, nat_tests) in
        rw (is_removes, is_takes) (omega (arith, less, length-append text (byte ∷ [])))
    by false true false is_removes is_takes is_room =
        let never : (is_printable byte && false) ≡ true = rw is_room at is_takes in absurd (no_room (is_printable byte) never)

at_line : (most : ℕ) (setup : Setup) (before text : List ℕ) (first : Bool) (byte : ℕ) → AreShort most setup → length text ≤ most
    → IsShort most (line_step setup before text first byte).state
at_line most setup before text first byte all short = by (is_enter_key byte) (is_erase_key byte) (first && is_list_key byte) refl refl refl
  where
    by : (enter erase list : Bool) → is_enter_key byte ≡ enter → is_erase_key byte ≡ erase → (first && is_list_key byte) ≡ list
        → IsShort most (line_step setup before text first byte).state
    by true erase list is_enter is_erase is_list =
        rw is_enter (finished_short most setup (before ++ newline) (meant_of setup.entries false (meaning setup.entries text)) all (line_short setup.entries false text most short))
    by false true list is_enter is_erase is_list = rw (is_enter, is_erase) (omega arith)
    by false false true is_enter is_erase is_list = rw (is_enter, is_erase, is_list) (omega arith)
    by false false false is_enter is_erase is_list =
        rw (is_enter, is_erase, is_list) (edited_short setup.settings.capacity most text byte all.capacity short)

delayed_short : (most : ℕ) (setup : Setup) → AreShort most setup → IsShort most (delayed_step setup).state
delayed_short most setup all =
    choice_short setup.entries [] false (meant_or (default_choice setup true) (line_meant setup)) most
    (or_short (default_choice setup true) (line_meant setup) most (all.names setup.settings.default_entry)
    (line_short setup.entries true (line_text setup.line) most all.line))

timed_short : (most : ℕ) (setup : Setup) (before : List ℕ) → AreShort most setup → IsShort most (timed_step setup before).state
timed_short most setup before all =
    choice_short setup.entries (before ++ newline) true (default_choice setup true) most (all.names setup.settings.default_entry)

reopened_short : (most : ℕ) (opened : Bool) (before : List ℕ) → IsShort most (reopened_step opened before).state
reopened_short most true before = omega arith
reopened_short most false before = omega arith

at_answer : (most : ℕ) (question : Question) (byte : ℕ) → length question.chosen.lock_line ≤ most → IsShort most (answer_step question byte).state
at_answer most question byte short = by (is_enter_key byte) (is_right question.password question.answer) refl refl
  where
    by : (enter right : Bool) → is_enter_key byte ≡ enter → is_right question.password question.answer ≡ right → IsShort most (answer_step question byte).state
    by true true is_enter right = rw (is_enter, right) short
    by true false is_enter right = rw (is_enter, right) (reopened_short most question.opened (newline ++ codes "Sorry." ++ newline))
    by false right is_enter is_right = rw is_enter short

at_quiet : (most : ℕ) (question : Question) → length question.chosen.lock_line ≤ most → IsShort most (quiet_step question).state
at_quiet most question short = by (suc question.quiet == most_quiet_ticks) refl
  where
    by : (over : Bool) → (suc question.quiet == most_quiet_ticks) ≡ over → IsShort most (quiet_step question).state
    by true is = rw is (reopened_short most question.opened newline)
    by false is = rw is short

wait_short : (most wait : ℕ) (setup : Setup) → AreShort most setup → (over : Bool) → nat_le wait 1 ≡ over → IsShort most (key_step setup (Delaying wait) keys.Tick).state
unfolding key_step
wait_short most wait setup all true is = rw is (delayed_short most setup all)
wait_short most wait setup all false is = rw is tt

time_short : (most wait : ℕ) (setup : Setup) → AreShort most setup → (over : Bool) → nat_le wait 1 ≡ over → IsShort most (key_step setup (Timing wait) keys.Tick).state
unfolding key_step
time_short most wait setup all true is = rw is (timed_short most setup [] all)
time_short most wait setup all false is = rw is tt

step_short : (most : ℕ) (setup : Setup) → AreShort most setup → (state : State) (key : Key) → IsShort most state → IsShort most (key_step setup state key).state
unfolding key_step
step_short most setup all (Delaying wait) (keys.Byte byte) short = at_line most setup prompt_text [] true byte all (omega arith)
step_short most setup all (Timing wait) (keys.Byte byte) short = at_line most setup [] [] true byte all (omega arith)
step_short most setup all (Typing text first) (keys.Byte byte) short = at_line most setup [] text first byte all short
step_short most setup all (Asking question) (keys.Byte byte) short = at_answer most question byte short
step_short most setup all (Decided chosen) (keys.Byte byte) short = short
step_short most setup all Over (keys.Byte byte) short = tt
step_short most setup all (Delaying wait) keys.Tick short = wait_short most wait setup all (nat_le wait 1) refl
step_short most setup all (Timing wait) keys.Tick short = time_short most wait setup all (nat_le wait 1) refl
step_short most setup all (Typing text first) keys.Tick short = short
step_short most setup all (Asking question) keys.Tick short = at_quiet most question short
step_short most setup all (Decided chosen) keys.Tick short = short
step_short most setup all Over keys.Tick short = tt
step_short most setup all (Delaying wait) keys.Silence short = delayed_short most setup all
step_short most setup all (Timing wait) keys.Silence short = timed_short most setup [] all
step_short most setup all (Typing text first) keys.Silence short = tt
step_short most setup all (Asking question) keys.Silence short = reopened_short most question.opened newline
step_short most setup all (Decided chosen) keys.Silence short = short
step_short most setup all Over keys.Silence short = tt

-- ---- the start

shown_by : (most : ℕ) (setup : Setup) (timeout : Option ℕ) → AreShort most setup → IsShort most (shown_step setup timeout).state
shown_by most setup None all = omega arith
shown_by most setup (Some wait) all = by (wait == 0) refl
  where
    by : (over : Bool) → (wait == 0) ≡ over → IsShort most (shown_step setup (Some wait)).state
    by true is = rw is (timed_short most setup prompt_text all)
    by false is = rw is tt

waits_by : (most : ℕ) (setup : Setup) (over : Bool) → (setup.settings.delay == 0) ≡ over → AreShort most setup → IsShort most (waiting_step setup).state
waits_by most setup true is all = rw is (delayed_short most setup all)
waits_by most setup false is all = rw is tt

begins_by : (most : ℕ) (setup : Setup) (opens : Bool) → opens_by setup.settings.prompt (line_meant setup) ≡ opens → AreShort most setup → IsShort most (start_step setup).state
unfolding start_step
begins_by most setup true is all = rw is (shown_by most setup setup.settings.timeout all)
begins_by most setup false is all = rw is (waits_by most setup (setup.settings.delay == 0) refl all)

pub short_law : ShortLaw
short_law most setup all = record {
  begins = begins_by most setup (opens_by setup.settings.prompt (line_meant setup)) refl all;
  goes_on = step_short most setup all;
}

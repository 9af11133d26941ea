-- Given a list of keys one by one, the prompt does what the list does that is cut: by cases on each key, over one
-- induction on the list.
use Rattle.std.proofs.Common.{◌≡◌, ℕ, zero, suc, ◌≤◌, ◌<◌, ◌==◌, List, [], ◌∷◌, ◌++◌, length, slice_get, Bool, true, false, not, ◌&&◌, if◌then◌else◌, Option, None, Some, append_assoc, refl, sym, ◌∙◌, ap, arith}
use Rattle.std.specs.Prelude.{codes, flat_map}
use Rattle.std.specs.Option.{option_and_then}
use Rattle.std.proofs.lemmas.List.{map-append, append-nil}
use Rattle.lilo_model.specs.Prompt.{Key, Byte, Tick, ListedEntry}
use Rattle.lilo_model.specs.KeyCuts.{LineCut, Unended, Ended, onto_line, is_enter_key, is_erase_key, is_list_key, cut_line, AnswerCut, Missing, Given, onto_answer, most_quiet_ticks, cut_answer}
use Rattle.lilo_model.specs.LineEdits.{text_after_byte, echo_of, echoes, text_after, answer_after_byte}
use Rattle.lilo_model.specs.LineWords.{passed_words, entry_named, words_of, words_meaning, Meaning, Nothing, Names, NoSuch, meaning}
use Rattle.lilo_model.specs.Choice.{Setup, Candidate, default_candidate, asked_of, asked_password, newline, listing, Turn, Takes, Idles, Again, turn_behind, is_right, answer_turn, question_turn, candidate_turn, meaning_turn, line_end_turn, line_turn, next_line_turn, prompt_pieces, course_from}
use Rattle.prompt_core.specs.Steps.{Chosen, Typing, Asking, Decided, prompt_text, chosen_of, meant_of, entry_asks, password_of, question_step, choice_step, meant_step, line_step, reopened_step, answered_step, answer_step, quiet_step, key_step}
use Rattle.prompt_core.specs.Run.{Mark, Shown, Opened, text_marks, Run, run_behind, driven, after_step, piece_marks, seen}
use Rattle.prompt_core.proofs.GatherLemmas.{AreFilled, filled_filter, words_filled, joined_empty}

-- ---- what is shown, one text after another

marks_on : (a b : List ℕ) (marks : List Mark) → text_marks (a ++ b) ++ marks ≡ text_marks a ++ (text_marks b ++ marks)
marks_on a b marks = ap (λ m. m ++ marks) (map-append Shown a b) ∙ append_assoc (text_marks a) (text_marks b) marks

abbrev with_shown : Run → List Mark → Run
with_shown run marks = record { picked = run.picked; shown = marks; left = run.left }

-- a run after two texts is one after both
pub behind_both : (a b : List ℕ) (run : Run) → run_behind (text_marks (a ++ b)) run ≡ run_behind (text_marks a) (run_behind (text_marks b) run)
behind_both a b run = ap (λ marks. with_shown run marks) (marks_on a b run.shown)

turn_both : (a b : List ℕ) (turn : Turn) → turn_behind (a ++ b) turn ≡ turn_behind a (turn_behind b turn)
turn_both a b (Takes candidate shown keys) = ap (λ t. Takes candidate t keys) (append_assoc a b shown)
turn_both a b (Idles shown) = ap (λ t. Idles t) (append_assoc a b shown)
turn_both a b (Again shown left keys) = ap (λ t. Again t left keys) (append_assoc a b shown)

-- a turn with a text before it is seen with the text before it
seen_behind : (setup : Setup) (most : ℕ) (opened : Bool) (text : List ℕ) (turn : Turn)
    → seen setup (course_from setup most opened (turn_behind text turn)) ≡ run_behind (text_marks text) (seen setup (course_from setup most opened turn))
seen_behind setup most opened text (Takes candidate shown keys) =
    ap (λ marks. with_shown (seen setup (course_from setup most opened (Takes candidate shown keys))) marks) (marks_on text shown [])
seen_behind setup most opened text (Idles shown) =
    ap (λ marks. with_shown (seen setup (course_from setup most opened (Idles shown))) marks) (marks_on text shown [])
seen_behind setup zero opened text (Again shown left keys) =
    ap (λ marks. with_shown (seen setup (course_from setup zero opened (Again shown left keys))) marks) (marks_on text shown [])
seen_behind setup (suc most) opened text (Again shown left keys) =
    let rest : List Mark = flat_map piece_marks (prompt_pieces opened left ++ (course_from setup most true (next_line_turn setup keys)).shown) in
    ap (λ marks. with_shown (seen setup (course_from setup (suc most) opened (Again shown left keys))) marks) (marks_on text shown rest)

-- ---- a byte more at a cut

line_onto : (setup : Setup) (text : List ℕ) (byte : ℕ) (cut : LineCut)
    → line_turn setup text (onto_line byte cut)
    ≡ turn_behind (echo_of setup.settings.capacity text byte) (line_turn setup (text_after_byte setup.settings.capacity text byte) cut)
line_onto setup text byte (Unended bytes) = refl
line_onto setup text byte (Ended bytes by keys) =
    let echo : List ℕ = echo_of setup.settings.capacity text byte in
    let after : List ℕ = text_after_byte setup.settings.capacity text byte in
    let shown : List ℕ = echoes setup.settings.capacity after bytes in
    let end : Turn = line_end_turn setup (text_after setup.settings.capacity after bytes) by keys in
    ap (λ t. turn_behind t end) (append_assoc echo shown newline) ∙ turn_both echo (shown ++ newline) end

answer_onto : (candidate : Candidate) (password : List ℕ) (answer : Option (List ℕ)) (byte : ℕ) (cut : AnswerCut)
    → answer_turn candidate password answer (onto_answer byte cut) ≡ answer_turn candidate password (answer_after_byte answer byte) cut
answer_onto candidate password answer byte (Missing keys) = refl
answer_onto candidate password answer byte (Given bytes keys) = refl

-- ---- what is chosen

asks_by : (automatic restricted : Bool) (password : Option (List ℕ)) (a b : Bool) → a ≡ b
    → (if restricted && not (not automatic && not b) then None else password) ≡ (if restricted && not (not automatic && not a) then None else password)
asks_by automatic restricted password a b same = rw same refl

asks_same : (entries : List ListedEntry) (candidate : Candidate) (found : Option ListedEntry) → AreFilled candidate.words
    → option_and_then (asked_of candidate) found ≡ option_and_then (entry_asks (chosen_of entries candidate)) found
asks_same entries candidate None all = refl
asks_same entries candidate (Some entry) all =
    asks_by candidate.automatic entry.restricted entry.password _ _ (joined_empty (passed_words candidate.words) (filled_filter _ candidate.words all))

-- the password that is asked is the same
password_same : (entries : List ListedEntry) (candidate : Candidate) → AreFilled candidate.words
    → asked_password entries candidate ≡ password_of entries (chosen_of entries candidate)
password_same entries candidate all = asks_same entries candidate (slice_get entries candidate.entry) all

-- the words after a name have a byte each
names_filled : (entries : List ListedEntry) (words : List (List ℕ)) (place : ℕ) (behind : List (List ℕ)) → AreFilled words
    → words_meaning entries words ≡ Names place behind → AreFilled behind
names_filled entries [] place behind all is = let never : Nothing ≡ Names place behind = is in cc
names_filled entries (name ∷ words) place behind all is = by (entry_named entries name) refl
  where
    by : (found : Option ℕ) → entry_named entries name ≡ found → AreFilled behind
    by None none = let never : NoSuch ≡ Names place behind = rw none at is in cc
    by (Some k) some =
        let same : Names k words ≡ Names place behind = rw some at is in
        let here : words ≡ behind = cc in
        rw (← here) all.1

pub meaning_filled : (entries : List ListedEntry) (text : List ℕ) (place : ℕ) (behind : List (List ℕ)) → meaning entries text ≡ Names place behind → AreFilled behind
unfolding meaning
meaning_filled entries text place behind is = names_filled entries (words_of text) place behind (words_filled text) is

-- ---- a choice

driven_decided : (setup : Setup) (keys : List Key) (chosen : Chosen) → driven setup keys (Decided chosen) ≡ record { picked = Some chosen; shown = []; left = keys }
driven_decided setup [] chosen = refl
driven_decided setup (key ∷ keys) chosen = refl

-- what is asked next is what it should be
abbrev pub AnswersGo : Setup → ℕ → List Key → Type 0
AnswersGo setup most keys =
    (candidate : Candidate) (password : List ℕ) (answer : Option (List ℕ)) (quiet : ℕ) (opened : Bool)
    → seen setup (course_from setup most opened (answer_turn candidate password answer (cut_answer quiet keys)))
    ≡ driven setup keys (Asking (record { chosen = chosen_of setup.entries candidate; password = password; answer = answer; quiet = quiet; opened = opened }))

-- a line goes on as it should
abbrev pub LinesGo : Setup → ℕ → List Key → Type 0
LinesGo setup most keys =
    (text : List ℕ) (first : Bool)
    → seen setup (course_from setup most true (line_turn setup text (cut_line first keys))) ≡ driven setup keys (Typing text first)

question_goes : (setup : Setup) (most : ℕ) (keys : List Key) (opened : Bool) (candidate : Candidate) (before : List ℕ) (asked : Option (List ℕ))
    → AnswersGo setup most keys
    → seen setup (course_from setup most opened (turn_behind before (question_turn candidate asked keys)))
    ≡ after_step setup keys (question_step before opened (chosen_of setup.entries candidate) asked)
question_goes setup most keys opened candidate before None go =
    let chosen : Chosen = chosen_of setup.entries candidate in
    rw driven_decided (ap (λ t. record { picked = Some chosen; shown = text_marks t ++ []; left = keys }) (append-nil before))
question_goes setup most keys opened candidate before (Some password) go =
    let asks : Turn = answer_turn candidate password (Some []) (cut_answer 0 keys) in
    seen_behind setup most opened before (turn_behind (codes "Password: ") asks)
    ∙ ap (run_behind (text_marks before)) (seen_behind setup most opened (codes "Password: ") asks)
    ∙ sym (behind_both before (codes "Password: ") (seen setup (course_from setup most opened asks)))
    ∙ ap (run_behind (text_marks (before ++ codes "Password: "))) (go candidate password (Some []) 0 opened)

-- a candidate after a text
pub candidate_goes : (setup : Setup) (most : ℕ) (keys : List Key) (opened : Bool) (candidate : Candidate) (before : List ℕ) → AreFilled candidate.words
    → AnswersGo setup most keys
    → seen setup (course_from setup most opened (turn_behind before (candidate_turn setup candidate keys)))
    ≡ after_step setup keys (choice_step setup.entries before opened (chosen_of setup.entries candidate))
candidate_goes setup most keys opened candidate before all go =
    rw (password_same setup.entries candidate all)
    (question_goes setup most keys opened candidate before (password_of setup.entries (chosen_of setup.entries candidate)) go)

-- ---- the prompt is shown again

-- after a text, where it was shown before
shown_again : (setup : Setup) (most : ℕ) (keys : List Key) (before text : List ℕ) → LinesGo setup most keys
    → seen setup (course_from setup (suc most) true (turn_behind before (Again text keys keys)))
    ≡ run_behind (text_marks ((before ++ text) ++ prompt_text)) (driven setup keys (Typing [] true))
shown_again setup most keys before text go =
    ap (λ run. run_behind (text_marks (before ++ text)) (run_behind (text_marks prompt_text) run)) (go [] true)
    ∙ sym (behind_both (before ++ text) prompt_text (driven setup keys (Typing [] true)))

-- ---- a line

meaning_goes : (setup : Setup) (most : ℕ) (keys : List Key) (before : List ℕ) (means : Meaning) → ((place : ℕ) (words : List (List ℕ)) → means ≡ Names place words → AreFilled words)
    → AnswersGo setup (suc most) keys → LinesGo setup most keys
    → seen setup (course_from setup (suc most) true (turn_behind before (meaning_turn setup means keys)))
    ≡ after_step setup keys (meant_step setup before (meant_of setup.entries false means))
meaning_goes setup most keys before Nothing filled answers_go lines_go =
    candidate_goes setup (suc most) keys true (default_candidate setup false) before tt answers_go
meaning_goes setup most keys before (Names place words) filled answers_go lines_go =
    candidate_goes setup (suc most) keys true (record { entry = place; words = words; automatic = false }) before (filled place words refl) answers_go
meaning_goes setup most keys before NoSuch filled answers_go lines_go =
    shown_again setup most keys before (codes "No such image." ++ newline) lines_go

-- where it goes on
edits : (setup : Setup) (most : ℕ) (keys : List Key) (text : List ℕ) (first : Bool) (byte : ℕ)
    → is_enter_key byte ≡ false → is_erase_key byte ≡ false → (first && is_list_key byte) ≡ false → LinesGo setup most keys
    → seen setup (course_from setup most true (line_turn setup text (cut_line first (Byte byte ∷ keys))))
    ≡ after_step setup keys (line_step setup [] text first byte)
edits setup most keys text first byte no_enter no_erase no_list go =
    rw (no_enter, no_erase, no_list)
    (ap (λ turn. seen setup (course_from setup most true turn)) (line_onto setup text byte (cut_line false keys))
    ∙ seen_behind setup most true (echo_of setup.settings.capacity text byte) (line_turn setup (text_after_byte setup.settings.capacity text byte) (cut_line false keys))
    ∙ ap (run_behind (text_marks (echo_of setup.settings.capacity text byte))) (go (text_after_byte setup.settings.capacity text byte) false))

-- where it is finished
finishes : (setup : Setup) (most : ℕ) (keys : List Key) (text : List ℕ) (first : Bool) (byte : ℕ)
    → is_enter_key byte ≡ true → AnswersGo setup (suc most) keys → LinesGo setup most keys
    → seen setup (course_from setup (suc most) true (line_turn setup text (cut_line first (Byte byte ∷ keys))))
    ≡ after_step setup keys (line_step setup [] text first byte)
finishes setup most keys text first byte enter answers_go lines_go =
    rw (enter, enter)
    (meaning_goes setup most keys newline (meaning setup.entries text) (λ place words is. meaning_filled setup.entries text place words is) answers_go lines_go)

-- where it is emptied
empties : (setup : Setup) (most : ℕ) (keys : List Key) (text : List ℕ) (first : Bool) (byte : ℕ)
    → is_enter_key byte ≡ false → is_erase_key byte ≡ true → LinesGo setup most keys
    → seen setup (course_from setup (suc most) true (line_turn setup text (cut_line first (Byte byte ∷ keys))))
    ≡ after_step setup keys (line_step setup [] text first byte)
empties setup most keys text first byte no_enter erase go =
    rw (no_enter, erase, no_enter, erase) (shown_again setup most keys newline [] go)

-- where the names are listed
lists : (setup : Setup) (most : ℕ) (keys : List Key) (text : List ℕ) (first : Bool) (byte : ℕ)
    → is_enter_key byte ≡ false → is_erase_key byte ≡ false → (first && is_list_key byte) ≡ true → LinesGo setup most keys
    → seen setup (course_from setup (suc most) true (line_turn setup text (cut_line first (Byte byte ∷ keys))))
    ≡ after_step setup keys (line_step setup [] text first byte)
lists setup most keys text first byte no_enter no_erase list go =
    rw (no_enter, no_erase, list, no_enter, no_erase)
    (shown_again setup most keys newline (listing setup.entries) go
    ∙ ap (λ t. run_behind (text_marks t) (driven setup keys (Typing [] true))) (append_assoc newline (listing setup.entries) prompt_text))

line_byte : (setup : Setup) (most : ℕ) (keys : List Key) (text : List ℕ) (first : Bool) (byte : ℕ)
    → AnswersGo setup (suc most) keys → LinesGo setup most keys → LinesGo setup (suc most) keys
    → seen setup (course_from setup (suc most) true (line_turn setup text (cut_line first (Byte byte ∷ keys))))
    ≡ after_step setup keys (line_step setup [] text first byte)
line_byte setup most keys text first byte answers_go lines_go lines_on =
    by (is_enter_key byte) (is_erase_key byte) (first && is_list_key byte) refl refl refl
  where
    by : (enter erase list : Bool) → is_enter_key byte ≡ enter → is_erase_key byte ≡ erase → (first && is_list_key byte) ≡ list
        → seen setup (course_from setup (suc most) true (line_turn setup text (cut_line first (Byte byte ∷ keys))))
        ≡ after_step setup keys (line_step setup [] text first byte)
    by true erase list is_enter is_erase is_list = finishes setup most keys text first byte is_enter answers_go lines_go
    by false true list is_enter is_erase is_list = empties setup most keys text first byte is_enter is_erase lines_go
    by false false true is_enter is_erase is_list = lists setup most keys text first byte is_enter is_erase is_list lines_go
    by false false false is_enter is_erase is_list = edits setup (suc most) keys text first byte is_enter is_erase is_list lines_on

-- ---- an answer

-- no answer, or a wrong one
misses : (setup : Setup) (most : ℕ) (keys : List Key) (opened : Bool) → LinesGo setup most keys
    → seen setup (course_from setup (suc most) opened (Again newline keys keys)) ≡ after_step setup keys (reopened_step opened newline)
misses setup most keys true go = ap (λ run. run_behind (text_marks newline) (run_behind (text_marks prompt_text) run)) (go [] true)
misses setup most keys false go =
    ap (λ run. run_behind (text_marks newline) (run_behind (Opened keys ∷ []) (run_behind (text_marks prompt_text) run))) (go [] true)

fails : (setup : Setup) (most : ℕ) (keys : List Key) (opened : Bool) → LinesGo setup most keys
    → seen setup (course_from setup (suc most) opened (Again (newline ++ codes "Sorry." ++ newline) keys keys))
    ≡ after_step setup keys (reopened_step opened (newline ++ codes "Sorry." ++ newline))
fails setup most keys true go =
    ap (λ run. run_behind (text_marks (newline ++ codes "Sorry." ++ newline)) (run_behind (text_marks prompt_text) run)) (go [] true)
fails setup most keys false go =
    ap (λ run. run_behind (text_marks (newline ++ codes "Sorry." ++ newline)) (run_behind (Opened keys ∷ []) (run_behind (text_marks prompt_text) run))) (go [] true)

answered : (setup : Setup) (most : ℕ) (keys : List Key) (candidate : Candidate) (password : List ℕ) (answer : Option (List ℕ)) (quiet : ℕ) (opened : Bool)
    → LinesGo setup most keys
    → seen setup (course_from setup (suc most) opened (answer_turn candidate password answer (Given [] keys)))
    ≡ after_step setup keys (answered_step (record { chosen = chosen_of setup.entries candidate; password = password; answer = answer; quiet = quiet; opened = opened }))
answered setup most keys candidate password answer quiet opened go = by (is_right password answer) refl
  where
    by : (right : Bool) → is_right password answer ≡ right
        → seen setup (course_from setup (suc most) opened (answer_turn candidate password answer (Given [] keys)))
        ≡ after_step setup keys (answered_step (record { chosen = chosen_of setup.entries candidate; password = password; answer = answer; quiet = quiet; opened = opened }))
    by true is = rw (is, driven_decided) refl
    by false is = rw is (fails setup most keys opened go)

answer_byte : (setup : Setup) (most : ℕ) (keys : List Key) (candidate : Candidate) (password : List ℕ) (answer : Option (List ℕ)) (quiet : ℕ) (opened : Bool) (byte : ℕ)
    → AnswersGo setup (suc most) keys → LinesGo setup most keys
    → seen setup (course_from setup (suc most) opened (answer_turn candidate password answer (cut_answer quiet (Byte byte ∷ keys))))
    ≡ after_step setup keys (answer_step (record { chosen = chosen_of setup.entries candidate; password = password; answer = answer; quiet = quiet; opened = opened }) byte)
answer_byte setup most keys candidate password answer quiet opened byte answers_go lines_go = by (is_enter_key byte) refl
  where
    by : (enter : Bool) → is_enter_key byte ≡ enter
        → seen setup (course_from setup (suc most) opened (answer_turn candidate password answer (cut_answer quiet (Byte byte ∷ keys))))
        ≡ after_step setup keys (answer_step (record { chosen = chosen_of setup.entries candidate; password = password; answer = answer; quiet = quiet; opened = opened }) byte)
    by true is = rw is (answered setup most keys candidate password answer quiet opened lines_go)
    by false is =
        rw is
        (ap (λ turn. seen setup (course_from setup (suc most) opened turn)) (answer_onto candidate password answer byte (cut_answer 0 keys))
        ∙ answers_go candidate password (answer_after_byte answer byte) 0 opened)

answer_tick : (setup : Setup) (most : ℕ) (keys : List Key) (candidate : Candidate) (password : List ℕ) (answer : Option (List ℕ)) (quiet : ℕ) (opened : Bool)
    → AnswersGo setup (suc most) keys → LinesGo setup most keys
    → seen setup (course_from setup (suc most) opened (answer_turn candidate password answer (cut_answer quiet (Tick ∷ keys))))
    ≡ after_step setup keys (quiet_step (record { chosen = chosen_of setup.entries candidate; password = password; answer = answer; quiet = quiet; opened = opened }))
answer_tick setup most keys candidate password answer quiet opened answers_go lines_go = by (suc quiet == most_quiet_ticks) refl
  where
    by : (over : Bool) → (suc quiet == most_quiet_ticks) ≡ over
        → seen setup (course_from setup (suc most) opened (answer_turn candidate password answer (cut_answer quiet (Tick ∷ keys))))
        ≡ after_step setup keys (quiet_step (record { chosen = chosen_of setup.entries candidate; password = password; answer = answer; quiet = quiet; opened = opened }))
    by true is = rw is (misses setup most keys opened lines_go)
    by false is = rw is (answers_go candidate password answer (suc quiet) opened)

-- ---- any keys

pub record Goes (setup : Setup) (keys : List Key) : Type 0 where
  pub lines : (most : ℕ) → length keys ≤ most → LinesGo setup most keys
  pub asks : (most : ℕ) → length keys < most → AnswersGo setup most keys

goes_nil : (setup : Setup) → Goes setup []
unfolding key_step
goes_nil setup = record {
  lines = λ most enough text first. refl;
  asks = λ most enough. asks_nil most enough;
}
  where
    asks_nil : (most : ℕ) → 0 < most → AnswersGo setup most []
    asks_nil zero enough = absurd (omega arith)
    asks_nil (suc most) enough = λ candidate password answer quiet opened. by most opened candidate password answer quiet
      where
        by : (most : ℕ) (opened : Bool) (candidate : Candidate) (password : List ℕ) (answer : Option (List ℕ)) (quiet : ℕ)
            → seen setup (course_from setup (suc most) opened (answer_turn candidate password answer (cut_answer quiet [])))
            ≡ driven setup [] (Asking (record { chosen = chosen_of setup.entries candidate; password = password; answer = answer; quiet = quiet; opened = opened }))
        by most true candidate password answer quiet = refl
        by most false candidate password answer quiet = refl

goes_byte : (setup : Setup) (byte : ℕ) (keys : List Key) → Goes setup keys → Goes setup (Byte byte ∷ keys)
unfolding key_step
goes_byte setup byte keys go = record { lines = lines_byte; asks = asks_byte }
  where
    lines_byte : (most : ℕ) → suc (length keys) ≤ most → LinesGo setup most (Byte byte ∷ keys)
    lines_byte zero enough = absurd (omega arith)
    lines_byte (suc most) enough = λ text first.
        line_byte setup most keys text first byte (go.asks (suc most) (omega arith)) (go.lines most (omega arith)) (go.lines (suc most) (omega arith))

    asks_byte : (most : ℕ) → suc (length keys) < most → AnswersGo setup most (Byte byte ∷ keys)
    asks_byte zero enough = absurd (omega arith)
    asks_byte (suc most) enough = λ candidate password answer quiet opened.
        answer_byte setup most keys candidate password answer quiet opened byte (go.asks (suc most) (omega arith)) (go.lines most (omega arith))

goes_tick : (setup : Setup) (keys : List Key) → Goes setup keys → Goes setup (Tick ∷ keys)
unfolding key_step
goes_tick setup keys go = record {
  lines = λ most enough text first. go.lines most (omega arith) text first;
  asks = asks_tick;
}
  where
    asks_tick : (most : ℕ) → suc (length keys) < most → AnswersGo setup most (Tick ∷ keys)
    asks_tick zero enough = absurd (omega arith)
    asks_tick (suc most) enough = λ candidate password answer quiet opened.
        answer_tick setup most keys candidate password answer quiet opened (go.asks (suc most) (omega arith)) (go.lines most (omega arith))

pub goes : (setup : Setup) (keys : List Key) → Goes setup keys
goes setup [] = goes_nil setup
goes setup (Byte byte ∷ keys) = goes_byte setup byte keys (goes setup keys)
goes setup (Tick ∷ keys) = goes_tick setup keys (goes setup keys)

-- What a prompt comes to that is given keys is the choice by cutting.
use Rattle.std.proofs.Common.{◌≡◌, ℕ, zero, suc, List, [], ◌∷◌, ◌++◌, map, slice_get, Bool, true, false, ◌&&◌, ◌||◌, if◌then◌else◌, Option, None, Some, refl, ◌∙◌, ap}
use Rattle.std.specs.Prelude.{flat_map, unwrap_or, is_none}
use Rattle.std.specs.Option.{option_map, option_and_then}
use Rattle.std.specs.Str.{bytes_eq}
use Rattle.std.proofs.lemmas.Option.{slice_get-map}
use Rattle.lilo_model.specs.DefaultLine.{DefaultLine, line_text, line_after}
use Rattle.lilo_model.specs.Prompt.{Key, Byte, Settings, ListedEntry, Opening}
use Rattle.lilo_model.specs.KeyCuts.{WaitCut, Elapsed, Interrupted, cut_wait, LineCut, Unended, Ended, cut_line, is_enter_key, is_erase_key}
use Rattle.lilo_model.specs.LineEdits.{echoes, text_after}
use Rattle.lilo_model.specs.LineWords.{words_of, words_meaning, named_meaning, entry_named, Meaning, Nothing, Names, NoSuch, meaning, joined_words, kept_words, has_lock_word}
use Rattle.lilo_model.specs.Choice.{Setup, Candidate, default_candidate, meant_candidate, automatic_candidate, asked_of, asked_password, newline, listing, Turn, Takes, Idles, Again, turn_behind, question_turn, candidate_turn, meaning_turn, line_end_turn, line_turn, next_line_turn, delay_turn, timeout_turn, opened_turn, Piece, Shows, Opens, Course, course_behind, prompt_pieces, course_from, most_turns, course_opened, opens_at_once, course_of, pieces_text, pieces_opening, opening_behind, picked_of, filled_text, line_after_entry, decision_of}
use Rattle.prompt_core.specs.Steps.{name_at, chosen_of}
use Rattle.prompt_core.specs.Run.{Mark, text_marks, piece_marks, run_of, seen}
use Rattle.prompt_core.specs.Decided.{plain_entry, plain_setup, marks_text, marks_opening, line_by, decided, ChoiceLaw, OpeningLaw}
use Rattle.prompt_core.proofs.GatherLemmas.{position_of}
use Rattle.prompt_core.proofs.StartLemmas.{keys_law}

-- ---- texts

-- a text, byte by byte
marks_text-shown : (message text : List ℕ) (marks : List Mark) → marks_text message (text_marks text ++ marks) ≡ text ++ marks_text message marks
marks_text-shown message [] marks = refl
marks_text-shown message (byte ∷ text) marks = ap (λ t. byte ∷ t) (marks_text-shown message text marks)

-- the text of pieces is that of their marks
texts_same : (message : List ℕ) (pieces : List Piece) → marks_text message (flat_map piece_marks pieces) ≡ pieces_text message pieces
texts_same message [] = refl
texts_same message (Shows text ∷ pieces) =
    marks_text-shown message text (flat_map piece_marks pieces) ∙ ap (λ t. text ++ t) (texts_same message pieces)
texts_same message (Opens left ∷ pieces) = ap (λ t. message ++ t) (texts_same message pieces)

opening-both : (byte : ℕ) (text : List ℕ) (found : Option Opening)
    → option_map (opening_behind (byte ∷ [])) (option_map (opening_behind text) found) ≡ option_map (opening_behind (byte ∷ text)) found
opening-both byte text None = refl
opening-both byte text (Some found) = refl

opening-none : (found : Option Opening) → found ≡ option_map (opening_behind []) found
opening-none None = refl
opening-none (Some found) = refl

opening-shown : (text : List ℕ) (marks : List Mark) → marks_opening (text_marks text ++ marks) ≡ option_map (opening_behind text) (marks_opening marks)
opening-shown [] marks = opening-none (marks_opening marks)
opening-shown (byte ∷ text) marks =
    ap (option_map (opening_behind (byte ∷ []))) (opening-shown text marks) ∙ opening-both byte text (marks_opening marks)

-- they open at one place
openings_same : (pieces : List Piece) → marks_opening (flat_map piece_marks pieces) ≡ pieces_opening pieces
openings_same [] = refl
openings_same (Shows text ∷ pieces) =
    opening-shown text (flat_map piece_marks pieces) ∙ ap (option_map (opening_behind text)) (openings_same pieces)
openings_same (Opens left ∷ pieces) = refl

-- ---- what the prompt isn't given has no part in the course

abbrev plain : Setup → Setup
plain setup = plain_setup setup.settings setup.entries setup.line

named_plain : (entries : List ListedEntry) (name : List ℕ) → entry_named (map plain_entry entries) name ≡ entry_named entries name
named_plain entries name = position_of (λ entry. bytes_eq entry.name name) plain_entry entries

words_plain : (entries : List ListedEntry) (words : List (List ℕ)) → words_meaning (map plain_entry entries) words ≡ words_meaning entries words
words_plain entries [] = refl
words_plain entries (name ∷ words) = ap (λ found. named_meaning found words) (named_plain entries name)

meaning_plain : (entries : List ListedEntry) (text : List ℕ) → meaning (map plain_entry entries) text ≡ meaning entries text
unfolding meaning
meaning_plain entries text = words_plain entries (words_of text)

asked_by : (candidate : Candidate) (found : Option ListedEntry)
    → option_and_then (asked_of candidate) (option_map plain_entry found) ≡ option_and_then (asked_of candidate) found
asked_by candidate None = refl
asked_by candidate (Some entry) = refl

asked_plain : (entries : List ListedEntry) (candidate : Candidate) → asked_password (map plain_entry entries) candidate ≡ asked_password entries candidate
asked_plain entries candidate =
    ap (option_and_then (asked_of candidate)) (slice_get-map plain_entry entries candidate.entry) ∙ asked_by candidate (slice_get entries candidate.entry)

listing_plain : (entries : List ListedEntry) → listing (map plain_entry entries) ≡ listing entries
listing_plain [] = refl
listing_plain (entry ∷ entries) = ap (λ t. (entry.name ++ newline) ++ t) (listing_plain entries)

candidate_plain : (setup : Setup) (candidate : Candidate) (keys : List Key) → candidate_turn (plain setup) candidate keys ≡ candidate_turn setup candidate keys
candidate_plain setup candidate keys = ap (λ asked. question_turn candidate asked keys) (asked_plain setup.entries candidate)

meaning_turn_plain : (setup : Setup) (means : Meaning) (keys : List Key) → meaning_turn (plain setup) means keys ≡ meaning_turn setup means keys
meaning_turn_plain setup Nothing keys = candidate_plain setup (default_candidate setup false) keys
meaning_turn_plain setup (Names place words) keys = candidate_plain setup (record { entry = place; words = words; automatic = false }) keys
meaning_turn_plain setup NoSuch keys = refl

if_same : (test : Bool) (a b c d : Turn) → a ≡ b → c ≡ d → (if test then a else c) ≡ (if test then b else d)
if_same true a b c d first second = first
if_same false a b c d first second = second

line_end_plain : (setup : Setup) (text : List ℕ) (by : ℕ) (keys : List Key) → line_end_turn (plain setup) text by keys ≡ line_end_turn setup text by keys
line_end_plain setup text by keys =
    if_same (is_enter_key by) _ _ _ _
    (ap (λ means. meaning_turn (plain setup) means keys) (meaning_plain setup.entries text) ∙ meaning_turn_plain setup (meaning setup.entries text) keys)
    (if_same (is_erase_key by) _ _ _ _ refl (ap (λ names. Again names keys keys) (listing_plain setup.entries)))

line_plain : (setup : Setup) (text : List ℕ) (cut : LineCut) → line_turn (plain setup) text cut ≡ line_turn setup text cut
line_plain setup text (Unended bytes) = refl
line_plain setup text (Ended bytes by keys) =
    ap (turn_behind (echoes setup.settings.capacity text bytes ++ newline)) (line_end_plain setup (text_after setup.settings.capacity text bytes) by keys)

automatic_plain : (setup : Setup) → automatic_candidate (plain setup) ≡ automatic_candidate setup
automatic_plain setup =
    ap (λ means. unwrap_or (meant_candidate means) (default_candidate setup true)) (meaning_plain setup.entries (line_text setup.line))

delay_plain : (setup : Setup) (cut : WaitCut) → delay_turn (plain setup) cut ≡ delay_turn setup cut
delay_plain setup (Elapsed keys) =
    ap (λ candidate. candidate_turn (plain setup) candidate keys) (automatic_plain setup) ∙ candidate_plain setup (automatic_candidate setup) keys
delay_plain setup (Interrupted byte keys) = refl

timeout_plain : (setup : Setup) (cut : WaitCut) → timeout_turn (plain setup) cut ≡ timeout_turn setup cut
timeout_plain setup (Elapsed keys) = ap (turn_behind newline) (candidate_plain setup (default_candidate setup true) keys)
timeout_plain setup (Interrupted byte keys) = line_plain setup [] (cut_line true (Byte byte ∷ keys))

opened_plain : (setup : Setup) (timeout : Option ℕ) (keys : List Key) → opened_turn (plain setup) timeout keys ≡ opened_turn setup timeout keys
opened_plain setup None keys = line_plain setup [] (cut_line true keys)
opened_plain setup (Some wait) keys = timeout_plain setup (cut_wait wait keys)

course_plain : (setup : Setup) (most : ℕ) (opened : Bool) (turn : Turn) → course_from (plain setup) most opened turn ≡ course_from setup most opened turn
course_plain setup most opened (Takes candidate text keys) = refl
course_plain setup most opened (Idles text) = refl
course_plain setup zero opened (Again text left keys) = refl
course_plain setup (suc most) opened (Again text left keys) =
    ap (course_behind (Shows text ∷ prompt_pieces opened left))
    (ap (course_from (plain setup) most true) (line_plain setup [] (cut_line true keys)) ∙ course_plain setup most true (next_line_turn setup keys))

begun_plain : (setup : Setup) (most : ℕ) (opens : Bool) (keys : List Key) → course_opened (plain setup) most opens keys ≡ course_opened setup most opens keys
begun_plain setup most true keys =
    ap (course_behind (prompt_pieces false keys))
    (ap (course_from (plain setup) most true) (opened_plain setup setup.settings.timeout keys) ∙ course_plain setup most true (opened_turn setup setup.settings.timeout keys))
begun_plain setup most false keys =
    ap (course_from (plain setup) most false) (delay_plain setup (cut_wait setup.settings.delay keys))
    ∙ course_plain setup most false (delay_turn setup (cut_wait setup.settings.delay keys))

opens_plain : (setup : Setup) → opens_at_once (plain setup) ≡ opens_at_once setup
opens_plain setup =
    ap (λ means. setup.settings.prompt && is_none (meant_candidate means)) (meaning_plain setup.entries (line_text setup.line))

courses_same : (setup : Setup) (keys : List Key) → course_of (plain setup) keys ≡ course_of setup keys
unfolding course_of
courses_same setup keys =
    ap (λ opens. course_opened (plain setup) (most_turns keys) opens keys) (opens_plain setup) ∙ begun_plain setup (most_turns keys) (opens_at_once setup) keys

-- ---- the decision

name_plain : (entries : List ListedEntry) (place : ℕ) (entry : ListedEntry) → slice_get entries place ≡ Some entry → name_at (map plain_entry entries) place ≡ entry.name
name_plain entries place entry is = rw (slice_get-map plain_entry entries place, is) refl

line_same : (entries : List ListedEntry) (line : DefaultLine) (candidate : Candidate) (found : Option ListedEntry) → slice_get entries candidate.entry ≡ found
    → line_by line (chosen_of (map plain_entry entries) candidate) found ≡ line_after_entry line candidate found
line_same entries line candidate None is = refl
line_same entries line candidate (Some entry) is =
    ap (λ name. line_after line (if entry.lock || has_lock_word candidate.words then Some (joined_words (name ∷ kept_words candidate.words)) else None) (filled_text entry.fallback))
    (name_plain entries candidate.entry entry is)

decided_same : (setup : Setup) (message : List ℕ) (picked : Option Candidate) (pieces : List Piece) (left : List Key)
    → decided setup.entries setup.line message (seen (plain setup) (record { picked = picked; shown = pieces; left = left }))
    ≡ decision_of setup message (record { picked = picked; shown = pieces; left = left })
decided_same setup message None pieces left =
    ap (λ text. record { picked = None; shown = text; line = setup.line; left = left }) (texts_same message pieces)
decided_same setup message (Some candidate) pieces left =
    ap (λ text. record {
      picked = Some (picked_of candidate);
      shown = text;
      line = line_by setup.line (chosen_of (map plain_entry setup.entries) candidate) (slice_get setup.entries candidate.entry);
      left = left;
    }) (texts_same message pieces)
    ∙ ap (λ line. record { picked = Some (picked_of candidate); shown = pieces_text message pieces; line = line; left = left })
    (line_same setup.entries setup.line candidate (slice_get setup.entries candidate.entry) refl)

abbrev told : Settings → List ListedEntry → DefaultLine → Setup
told settings entries line = record { settings = settings; entries = entries; line = line }

seen_same : (settings : Settings) (entries : List ListedEntry) (line : DefaultLine) (keys : List Key)
    → run_of (plain_setup settings entries line) keys ≡ seen (plain_setup settings entries line) (course_of (told settings entries line) keys)
seen_same settings entries line keys =
    keys_law (plain_setup settings entries line) keys ∙ ap (seen (plain_setup settings entries line)) (courses_same (told settings entries line) keys)

pub choice_law : ChoiceLaw
choice_law settings entries line message keys =
    let course : Course = course_of (told settings entries line) keys in
    ap (decided entries line (unwrap_or message [])) (seen_same settings entries line keys)
    ∙ decided_same (told settings entries line) (unwrap_or message []) course.picked course.shown course.left

pub opening_law : OpeningLaw
opening_law settings entries line keys =
    ap (λ run. marks_opening run.shown) (seen_same settings entries line keys)
    ∙ openings_same (course_of (told settings entries line) keys).shown

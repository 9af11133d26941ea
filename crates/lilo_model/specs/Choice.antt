-- What is chosen, from the whole list of keys. The list is cut into a wait, lines and answers, and
-- each part says what it shows and what comes of it. The rules of the prompt are this project's own;
-- the texts, as `boot: `, and the keys that edit a line follow LILO's manners.
use Rattle.std.specs.Prelude.{ℕ, zero, suc, List, [], ◌∷◌, ◌++◌, length, flat_map, slice_get, Bool, true, false, not, ◌&&◌, ◌||◌, if◌then◌else◌, Option, None}
use Rattle.std.specs.Prelude.{Some, is_none, unwrap_or, codes}
use Rattle.std.specs.Option.{option_map, option_and_then}
use Rattle.std.specs.Str.{bytes_eq}
use Rattle.lilo_model.specs.DefaultLine.{DefaultLine, line_text, line_after}
use Rattle.lilo_model.specs.Prompt.{Key, Byte, Settings, ListedEntry, Picked, Decision, Opening}
use Rattle.lilo_model.specs.KeyCuts.{WaitCut, Elapsed, Interrupted, cut_wait, LineCut, Unended, Ended, cut_line, is_enter_key, is_erase_key, AnswerCut, Missing}
use Rattle.lilo_model.specs.KeyCuts.{Given, cut_answer}
use Rattle.lilo_model.specs.LineEdits.{text_after, echoes, answer_after}
use Rattle.lilo_model.specs.LineWords.{is_empty_list, joined_words, passed_words, kept_words, has_lock_word, words_video_mode, Meaning, Nothing, Names, NoSuch}
use Rattle.lilo_model.specs.LineWords.{meaning}

-- ---- what can be chosen

-- what is chosen from, and how
pub record Setup : Type 0 where
  pub settings : Settings
  pub entries : List ListedEntry
  pub line : DefaultLine

-- what may be chosen, where its password is given
pub record Candidate : Type 0 where
  -- the place of the entry in the list
  pub entry : ℕ
  -- the words after its name
  pub words : List (List ℕ)
  -- whether it comes without a typed line
  pub automatic : Bool

-- the entry that is chosen without words
abbrev pub default_candidate : Setup → Bool → Candidate
default_candidate setup automatic = record { entry = setup.settings.default_entry; words = []; automatic = automatic }

-- what a meaning gives without a typed line, where its first word is a name
abbrev pub meant_candidate : Meaning → Option Candidate
meant_candidate Nothing = None
meant_candidate (Names entry words) = Some (record { entry = entry; words = words; automatic = true })
meant_candidate NoSuch = None

-- what the default line gives, where its first word is a name
abbrev pub line_candidate : Setup → Option Candidate
line_candidate setup = meant_candidate (meaning setup.entries (line_text setup.line))

-- what is chosen without a key
abbrev pub automatic_candidate : Setup → Candidate
automatic_candidate setup = unwrap_or (line_candidate setup) (default_candidate setup true)

-- whether words were typed that are passed on
abbrev pub has_typed_words : Candidate → Bool
has_typed_words candidate = not candidate.automatic && not (is_empty_list (passed_words candidate.words))

-- the password that an entry asks of a candidate
abbrev pub asked_of : Candidate → ListedEntry → Option (List ℕ)
asked_of candidate entry = if entry.restricted && not (has_typed_words candidate) then None else entry.password

-- the password that is asked of a candidate
abbrev pub asked_password : List ListedEntry → Candidate → Option (List ℕ)
asked_password entries candidate = option_and_then (asked_of candidate) (slice_get entries candidate.entry)

-- ---- the parts of the key list

-- a newline
abbrev pub newline : List ℕ
newline = 10 ∷ []

-- what comes of one part of the keys
pub data Turn : Type 0 where
  -- a candidate is chosen: what was shown, and the keys that are left
  Takes : Candidate → List ℕ → List Key → Turn
  -- the keys ended at the prompt: what was shown
  Idles : List ℕ → Turn
  -- the prompt is shown: what was shown before, the keys that are not taken then, and those of the next line
  Again : List ℕ → List Key → List Key → Turn

-- a turn with a text before what it shows
abbrev pub turn_behind : List ℕ → Turn → Turn
turn_behind text (Takes candidate shown keys) = Takes candidate (text ++ shown) keys
turn_behind text (Idles shown) = Idles (text ++ shown)
turn_behind text (Again shown left keys) = Again (text ++ shown) left keys

-- whether an answer is the password
abbrev pub is_right : List ℕ → Option (List ℕ) → Bool
is_right password None = false
is_right password (Some answer) = bytes_eq answer password

-- what comes of an answer to the password's question, of which a part is there already
abbrev pub answer_turn : Candidate → List ℕ → Option (List ℕ) → AnswerCut → Turn
answer_turn candidate password answer (Missing keys) = Again newline keys keys
answer_turn candidate password answer (Given bytes keys) =
    if is_right password (answer_after answer bytes) then Takes candidate newline keys
    else Again (newline ++ codes "Sorry." ++ newline) keys keys

-- what comes of a candidate of which a password is asked, or none
abbrev pub question_turn : Candidate → Option (List ℕ) → List Key → Turn
question_turn candidate None keys = Takes candidate [] keys
question_turn candidate (Some password) keys =
    turn_behind (codes "Password: ") (answer_turn candidate password (Some []) (cut_answer 0 keys))

-- what comes of a candidate
abbrev pub candidate_turn : Setup → Candidate → List Key → Turn
candidate_turn setup candidate keys = question_turn candidate (asked_password setup.entries candidate) keys

-- what comes of a finished line with a meaning
abbrev pub meaning_turn : Setup → Meaning → List Key → Turn
meaning_turn setup Nothing keys = candidate_turn setup (default_candidate setup false) keys
meaning_turn setup (Names entry words) keys =
    candidate_turn setup (record { entry = entry; words = words; automatic = false }) keys
meaning_turn setup NoSuch keys = Again (codes "No such image." ++ newline) keys keys

-- the list of the names, each on a line
abbrev pub listing : List ListedEntry → List ℕ
listing entries = flat_map (λ entry. entry.name ++ newline) entries

-- what comes of a line's text that a byte ended, after a newline: it is finished, emptied, or the names are listed
abbrev pub line_end_turn : Setup → List ℕ → ℕ → List Key → Turn
line_end_turn setup text by keys =
    if is_enter_key by then meaning_turn setup (meaning setup.entries text) keys
    else (if is_erase_key by then Again [] keys keys else Again (listing setup.entries) keys keys)

-- what comes of a line, of which a text is there already
abbrev pub line_turn : Setup → List ℕ → LineCut → Turn
line_turn setup text (Unended bytes) = Idles (echoes setup.settings.capacity text bytes)
line_turn setup text (Ended bytes by keys) =
    turn_behind (echoes setup.settings.capacity text bytes ++ newline)
    (line_end_turn setup (text_after setup.settings.capacity text bytes) by keys)

-- what comes of the line that the keys begin with
abbrev pub next_line_turn : Setup → List Key → Turn
next_line_turn setup keys = line_turn setup [] (cut_line true keys)

-- what comes of the delay: the automatic choice, or the prompt with the byte that came as the first of its line
abbrev pub delay_turn : Setup → WaitCut → Turn
delay_turn setup (Elapsed keys) = candidate_turn setup (automatic_candidate setup) keys
delay_turn setup (Interrupted byte keys) = Again [] keys (Byte byte ∷ keys)

-- what comes of the timeout: the default entry without a line, or a line with the byte that came as its first
abbrev pub timeout_turn : Setup → WaitCut → Turn
timeout_turn setup (Elapsed keys) = turn_behind newline (candidate_turn setup (default_candidate setup true) keys)
timeout_turn setup (Interrupted byte keys) = next_line_turn setup (Byte byte ∷ keys)

-- what comes first at a prompt that no key opened: the timeout where one is set, or a line
abbrev pub opened_turn : Setup → Option ℕ → List Key → Turn
opened_turn setup None keys = next_line_turn setup keys
opened_turn setup (Some timeout) keys = timeout_turn setup (cut_wait timeout keys)

-- ---- the whole key list

-- a piece of what is shown
pub data Piece : Type 0 where
  -- a text
  Shows : List ℕ → Piece
  -- the message's place, before the prompt is shown for the first time; the keys that are not taken then
  Opens : List Key → Piece

-- how the keys go to their decision
pub record Course : Type 0 where
  -- what was chosen, or nothing where the keys end at the prompt
  pub picked : Option Candidate
  -- what was shown
  pub shown : List Piece
  -- the keys that were not taken
  pub left : List Key

-- a course with more shown before it
abbrev pub course_behind : List Piece → Course → Course
course_behind pieces course = record { picked = course.picked; shown = pieces ++ course.shown; left = course.left }

-- the prompt, which was shown before or is not yet
abbrev pub prompt_pieces : Bool → List Key → List Piece
prompt_pieces true keys = Shows (codes "boot: ") ∷ []
prompt_pieces false keys = Opens keys ∷ Shows (codes "boot: ") ∷ []

-- the course that begins with a turn and goes on by lines, as long as the prompt is shown at most so often;
-- the prompt was shown before or is not yet
abbrev pub course_from : Setup → ℕ → Bool → Turn → Course
course_from setup most opened (Takes candidate text keys) =
    record { picked = Some candidate; shown = Shows text ∷ []; left = keys }
course_from setup most opened (Idles text) = record { picked = None; shown = Shows text ∷ []; left = [] }
course_from setup zero opened (Again text left keys) = record { picked = None; shown = Shows text ∷ []; left = [] }
course_from setup (suc most) opened (Again text left keys) =
    course_behind (Shows text ∷ prompt_pieces opened left) (course_from setup most true (next_line_turn setup keys))

-- how often the prompt comes again at most: once for each key, and once more; so the course never ends
-- early (proofs/TurnLemmas.antt)
abbrev pub most_turns : List Key → ℕ
most_turns keys = suc (length keys)

-- the course that begins with a prompt that is shown at once, or with the delay, as long as the prompt comes again
-- at most so often
abbrev pub course_opened : Setup → ℕ → Bool → List Key → Course
course_opened setup most true keys =
    course_behind (prompt_pieces false keys)
    (course_from setup most true (opened_turn setup setup.settings.timeout keys))
course_opened setup most false keys = course_from setup most false (delay_turn setup (cut_wait setup.settings.delay keys))

-- whether the prompt is shown at once: it is asked for, and the default line chooses nothing
abbrev pub opens_at_once : Setup → Bool
opens_at_once setup = setup.settings.prompt && is_none (line_candidate setup)

-- how the keys go to their decision
unfoldable pub course_of : Setup → List Key → Course
course_of setup keys = course_opened setup (most_turns keys) (opens_at_once setup) keys

-- ---- what is chosen, shown and kept

-- the text of a piece, with the message at its place
abbrev pub piece_text : List ℕ → Piece → List ℕ
piece_text message (Shows text) = text
piece_text message (Opens _) = message

-- the text of pieces, with the message at its place
abbrev pub pieces_text : List ℕ → List Piece → List ℕ
pieces_text message pieces = flat_map (piece_text message) pieces

-- an opening with a text before it
abbrev pub opening_behind : List ℕ → Opening → Opening
opening_behind text opening = record { before = text ++ opening.before; left = opening.left }

-- where the prompt is shown for the first time among pieces
abbrev pub pieces_opening : List Piece → Option Opening
pieces_opening [] = None
pieces_opening (Shows text ∷ pieces) = option_map (opening_behind text) (pieces_opening pieces)
pieces_opening (Opens keys ∷ pieces) = Some (record { before = []; left = keys })

-- what a candidate is once it is chosen
abbrev pub picked_of : Candidate → Picked
picked_of candidate =
    record {
      entry = candidate.entry;
      words = joined_words (passed_words candidate.words);
      automatic = candidate.automatic;
      vga = words_video_mode candidate.words;
    }

-- the line that a choice of this entry keeps, where it is to be kept: the name and the words but `lock`
abbrev pub lock_line : ListedEntry → Candidate → Option (List ℕ)
lock_line entry candidate =
    if entry.lock || has_lock_word candidate.words then Some (joined_words (entry.name ∷ kept_words candidate.words))
    else None

-- a text that has a byte
abbrev pub filled_text : Option (List ℕ) → Option (List ℕ)
filled_text None = None
filled_text (Some []) = None
filled_text (Some (byte ∷ text)) = Some (byte ∷ text)

-- the default line after a choice of this entry, or of one that is not in the list
abbrev pub line_after_entry : DefaultLine → Candidate → Option ListedEntry → DefaultLine
line_after_entry line candidate None = line_after line None None
line_after_entry line candidate (Some entry) = line_after line (lock_line entry candidate) (filled_text entry.fallback)

-- the default line after a choice, or without one
abbrev pub line_after_choice : Setup → Option Candidate → DefaultLine
line_after_choice setup None = setup.line
line_after_choice setup (Some candidate) = line_after_entry setup.line candidate (slice_get setup.entries candidate.entry)

-- the decision that a course comes to, with this message
abbrev pub decision_of : Setup → List ℕ → Course → Decision
decision_of setup message course =
    record {
      picked = option_map picked_of course.picked;
      shown = pieces_text message course.shown;
      line = line_after_choice setup course.picked;
      left = course.left;
    }

-- what is chosen and shown, the new default line and the keys that are left, from the settings, the entries, the
-- default line, the message and the keys
abbrev pub choice : Settings → List ListedEntry → DefaultLine → Option (List ℕ) → List Key → Decision
choice settings entries line message keys =
    let setup : Setup = record { settings = settings; entries = entries; line = line } in
    decision_of setup (unwrap_or message []) (course_of setup keys)

-- where the prompt is shown for the first time, if it is: the text before the message, and the keys that are left
abbrev pub opening : Settings → List ListedEntry → DefaultLine → List Key → Option Opening
opening settings entries line keys =
    let setup : Setup = record { settings = settings; entries = entries; line = line } in
    pieces_opening (course_of setup keys).shown

-- The keys that a choice leaves are the last of the keys that it was given.
use Rattle.std.proofs.Common.{ℕ, zero, suc, List, [], ◌∷◌, ◌++◌, Bool, true, false, ◌==◌, if◌then◌else◌, codes, Option, None, Some, refl, sym, ◌∙◌, ap, append_assoc, append-nil}
use Rattle.lilo_model.specs.DefaultLine.{DefaultLine}
use Rattle.lilo_model.specs.Prompt.{Key, Byte, Tick, AreLastKeys, Settings, ListedEntry}
use Rattle.lilo_model.specs.KeyCuts.{WaitCut, Elapsed, Interrupted, cut_wait, LineCut, Unended, Ended, onto_line, ends_line, is_enter_key, is_erase_key, cut_line, AnswerCut, Missing, Given, onto_answer, most_quiet_ticks, cut_answer}
use Rattle.lilo_model.specs.LineEdits.{echoes, text_after, answer_after}
use Rattle.lilo_model.specs.LineWords.{Meaning, Nothing, Names, NoSuch, meaning}
use Rattle.lilo_model.specs.Choice.{Setup, Candidate, default_candidate, automatic_candidate, asked_password, newline, listing, Turn, Takes, Idles, Again, turn_behind, is_right, answer_turn, question_turn, candidate_turn, meaning_turn, line_end_turn, line_turn, next_line_turn, delay_turn, timeout_turn, opened_turn, course_from, course_opened, course_of, opens_at_once, most_turns, choice}

-- all keys are the last of them
all_last : (keys : List Key) → AreLastKeys keys keys
all_last keys = record { taken = []; joined = refl }

-- none are, too
none_last : (keys : List Key) → AreLastKeys keys []
none_last keys = record { taken = keys; joined = sym (append-nil keys) }

-- with a key more before them they still are
later_last : (key : Key) (keys left : List Key) → AreLastKeys keys left → AreLastKeys (key ∷ keys) left
later_last key keys left last = record { taken = key ∷ last.taken; joined = ap (λ tail. key ∷ tail) last.joined }

-- the last of the last keys are the last
last_of_last : (keys middle left : List Key) → AreLastKeys keys middle → AreLastKeys middle left → AreLastKeys keys left
last_of_last keys middle left first second =
    record { taken = first.taken ++ second.taken; joined = first.joined ∙ ap (λ tail. first.taken ++ tail) second.joined ∙ sym (append_assoc first.taken second.taken left) }

-- the keys that a turn leaves are the last of these
abbrev TurnIsLast : List Key → Turn → Type 0
TurnIsLast keys (Takes _ _ left) = AreLastKeys keys left
TurnIsLast keys (Idles _) = Unit {0}
TurnIsLast keys (Again _ _ left) = AreLastKeys keys left

behind_last : (keys : List Key) (text : List ℕ) (turn : Turn) → TurnIsLast keys turn → TurnIsLast keys (turn_behind text turn)
behind_last keys text (Takes _ _ _) last = last
behind_last keys text (Idles _) last = last
behind_last keys text (Again _ _ _) last = last

-- what is last among the last keys is last
turn_last_of_last : (keys middle : List Key) (turn : Turn) → AreLastKeys keys middle → TurnIsLast middle turn → TurnIsLast keys turn
turn_last_of_last keys middle (Takes _ _ left) first second = last_of_last keys middle left first second
turn_last_of_last keys middle (Idles _) first second = tt
turn_last_of_last keys middle (Again _ _ left) first second = last_of_last keys middle left first second

-- the keys that a cut line leaves are the last of these
abbrev LineIsLast : List Key → LineCut → Type 0
LineIsLast keys (Unended _) = Unit {0}
LineIsLast keys (Ended _ _ left) = AreLastKeys keys left

onto_line_last : (key : Key) (keys : List Key) (byte : ℕ) (cut : LineCut) → LineIsLast keys cut → LineIsLast (key ∷ keys) (onto_line byte cut)
onto_line_last key keys byte (Unended _) last = tt
onto_line_last key keys byte (Ended _ _ left) last = later_last key keys left last

tick_line_last : (keys : List Key) (cut : LineCut) → LineIsLast keys cut → LineIsLast (Tick ∷ keys) cut
tick_line_last keys (Unended _) last = tt
tick_line_last keys (Ended _ _ left) last = later_last Tick keys left last

cut_line_last : (first : Bool) (keys : List Key) → LineIsLast keys (cut_line first keys)
cut_line_last first [] = tt
cut_line_last first (Tick ∷ keys) = tick_line_last keys (cut_line first keys) (cut_line_last first keys)
cut_line_last first (Byte byte ∷ keys) =
    let rest = cut_line_last false keys in
    elim (ends_line first byte) as (λ ends. LineIsLast (Byte byte ∷ keys) (if ends then Ended [] byte keys else onto_line byte (cut_line false keys))) [
      | true ↦ later_last (Byte byte) keys keys (all_last keys)
      | false ↦ onto_line_last (Byte byte) keys byte (cut_line false keys) rest
    ]

-- the keys after an answer
abbrev keys_behind : AnswerCut → List Key
keys_behind (Missing keys) = keys
keys_behind (Given _ keys) = keys

onto_answer_last : (key : Key) (keys : List Key) (byte : ℕ) (cut : AnswerCut) → AreLastKeys keys (keys_behind cut) → AreLastKeys (key ∷ keys) (keys_behind (onto_answer byte cut))
onto_answer_last key keys byte (Missing left) last = later_last key keys left last
onto_answer_last key keys byte (Given _ left) last = later_last key keys left last

cut_answer_last : (quiet : ℕ) (keys : List Key) → AreLastKeys keys (keys_behind (cut_answer quiet keys))
cut_answer_last quiet [] = all_last []
cut_answer_last quiet (Tick ∷ keys) =
    let rest = cut_answer_last (suc quiet) keys in
    elim (suc quiet == most_quiet_ticks) as (λ ends. AreLastKeys (Tick ∷ keys) (keys_behind (if ends then Missing keys else cut_answer (suc quiet) keys))) [
      | true ↦ later_last Tick keys keys (all_last keys)
      | false ↦ later_last Tick keys (keys_behind (cut_answer (suc quiet) keys)) rest
    ]
cut_answer_last quiet (Byte byte ∷ keys) =
    let rest = cut_answer_last 0 keys in
    elim (is_enter_key byte) as (λ ends. AreLastKeys (Byte byte ∷ keys) (keys_behind (if ends then Given [] keys else onto_answer byte (cut_answer 0 keys)))) [
      | true ↦ later_last (Byte byte) keys keys (all_last keys)
      | false ↦ onto_answer_last (Byte byte) keys byte (cut_answer 0 keys) rest
    ]

answer_turn_last : (candidate : Candidate) (password : List ℕ) (answer : Option (List ℕ)) (cut : AnswerCut) → TurnIsLast (keys_behind cut) (answer_turn candidate password answer cut)
answer_turn_last candidate password answer (Missing keys) = all_last keys
answer_turn_last candidate password answer (Given bytes keys) =
    elim (is_right password (answer_after answer bytes)) as (λ right. TurnIsLast keys (if right then Takes candidate newline keys else Again (newline ++ codes "Sorry." ++ newline) keys keys)) [
      | true ↦ all_last keys
      | false ↦ all_last keys
    ]

question_turn_last : (candidate : Candidate) (password : Option (List ℕ)) (keys : List Key) → TurnIsLast keys (question_turn candidate password keys)
question_turn_last candidate None keys = all_last keys
question_turn_last candidate (Some password) keys =
    let cut = cut_answer 0 keys in
    behind_last keys (codes "Password: ") (answer_turn candidate password (Some []) cut)
    (turn_last_of_last keys (keys_behind cut) (answer_turn candidate password (Some []) cut) (cut_answer_last 0 keys) (answer_turn_last candidate password (Some []) cut))

candidate_turn_last : (setup : Setup) (candidate : Candidate) (keys : List Key) → TurnIsLast keys (candidate_turn setup candidate keys)
candidate_turn_last setup candidate keys = question_turn_last candidate (asked_password setup.entries candidate) keys

meaning_turn_last : (setup : Setup) (meaning : Meaning) (keys : List Key) → TurnIsLast keys (meaning_turn setup meaning keys)
meaning_turn_last setup Nothing keys = candidate_turn_last setup (default_candidate setup false) keys
meaning_turn_last setup (Names entry words) keys = candidate_turn_last setup (record { entry = entry; words = words; automatic = false }) keys
meaning_turn_last setup NoSuch keys = all_last keys

line_end_turn_last : (setup : Setup) (text : List ℕ) (by : ℕ) (keys : List Key) → TurnIsLast keys (line_end_turn setup text by keys)
line_end_turn_last setup text by keys =
    let finished = meaning_turn_last setup (meaning setup.entries text) keys in
    elim (is_enter_key by) as (λ enter. TurnIsLast keys (if enter then meaning_turn setup (meaning setup.entries text) keys else (if is_erase_key by then Again [] keys keys else Again (listing setup.entries) keys keys))) [
      | true ↦ finished
      | false ↦ elim (is_erase_key by) as (λ erase. TurnIsLast keys (if erase then Again [] keys keys else Again (listing setup.entries) keys keys)) [
        | true ↦ all_last keys
        | false ↦ all_last keys
      ]
    ]

line_turn_last : (setup : Setup) (text : List ℕ) (keys : List Key) (cut : LineCut) → LineIsLast keys cut → TurnIsLast keys (line_turn setup text cut)
line_turn_last setup text keys (Unended bytes) last = tt
line_turn_last setup text keys (Ended bytes by left) last =
    let turn = line_end_turn setup (text_after setup.settings.capacity text bytes) by left in
    behind_last keys (echoes setup.settings.capacity text bytes ++ newline) turn
    (turn_last_of_last keys left turn last (line_end_turn_last setup (text_after setup.settings.capacity text bytes) by left))

next_line_turn_last : (setup : Setup) (keys : List Key) → TurnIsLast keys (next_line_turn setup keys)
next_line_turn_last setup keys = line_turn_last setup [] keys (cut_line true keys) (cut_line_last true keys)

-- the keys after a wait
abbrev keys_of_wait : WaitCut → List Key
keys_of_wait (Elapsed keys) = keys
keys_of_wait (Interrupted byte keys) = Byte byte ∷ keys

cut_wait_last : (wait : ℕ) (keys : List Key) → AreLastKeys keys (keys_of_wait (cut_wait wait keys))
cut_wait_last zero keys = all_last keys
cut_wait_last (suc wait) [] = all_last []
cut_wait_last (suc wait) (Tick ∷ keys) = later_last Tick keys (keys_of_wait (cut_wait wait keys)) (cut_wait_last wait keys)
cut_wait_last (suc wait) (Byte byte ∷ keys) = all_last (Byte byte ∷ keys)

delay_turn_last : (setup : Setup) (cut : WaitCut) → TurnIsLast (keys_of_wait cut) (delay_turn setup cut)
delay_turn_last setup (Elapsed keys) = candidate_turn_last setup (automatic_candidate setup) keys
delay_turn_last setup (Interrupted byte keys) = all_last (Byte byte ∷ keys)

timeout_turn_last : (setup : Setup) (cut : WaitCut) → TurnIsLast (keys_of_wait cut) (timeout_turn setup cut)
timeout_turn_last setup (Elapsed keys) =
    behind_last keys newline (candidate_turn setup (default_candidate setup true) keys) (candidate_turn_last setup (default_candidate setup true) keys)
timeout_turn_last setup (Interrupted byte keys) = next_line_turn_last setup (Byte byte ∷ keys)

opened_turn_last : (setup : Setup) (timeout : Option ℕ) (keys : List Key) → TurnIsLast keys (opened_turn setup timeout keys)
opened_turn_last setup None keys = next_line_turn_last setup keys
opened_turn_last setup (Some wait) keys =
    let cut = cut_wait wait keys in
    turn_last_of_last keys (keys_of_wait cut) (timeout_turn setup cut) (cut_wait_last wait keys) (timeout_turn_last setup cut)

course_from_last : (setup : Setup) (most : ℕ) (opened : Bool) (turn : Turn) (keys : List Key) → TurnIsLast keys turn → AreLastKeys keys (course_from setup most opened turn).left
course_from_last setup most opened (Takes candidate text left) keys last = last
course_from_last setup most opened (Idles text) keys last = none_last keys
course_from_last setup zero opened (Again text now left) keys last = none_last keys
course_from_last setup (suc most) opened (Again text now left) keys last =
    last_of_last keys left (course_from setup most true (next_line_turn setup left)).left last
    (course_from_last setup most true (next_line_turn setup left) left (next_line_turn_last setup left))

course_opened_last : (setup : Setup) (opens : Bool) (keys : List Key) → AreLastKeys keys (course_opened setup (most_turns keys) opens keys).left
course_opened_last setup true keys =
    course_from_last setup (most_turns keys) true (opened_turn setup setup.settings.timeout keys) keys (opened_turn_last setup setup.settings.timeout keys)
course_opened_last setup false keys =
    let cut = cut_wait setup.settings.delay keys in
    course_from_last setup (most_turns keys) false (delay_turn setup cut) keys
    (turn_last_of_last keys (keys_of_wait cut) (delay_turn setup cut) (cut_wait_last setup.settings.delay keys) (delay_turn_last setup cut))

-- the keys that a course leaves are the last of these
pub course_of_last : (setup : Setup) (keys : List Key) → AreLastKeys keys (course_of setup keys).left
unfolding course_of
course_of_last setup keys = course_opened_last setup (opens_at_once setup) keys

-- the keys that a choice leaves are the last of those that it was given
pub choice_last : (settings : Settings) (entries : List ListedEntry) (line : DefaultLine) (message : Option (List ℕ)) (keys : List Key) → AreLastKeys keys (choice settings entries line message keys).left
choice_last settings entries line message keys = course_of_last (record { settings = settings; entries = entries; line = line }) keys

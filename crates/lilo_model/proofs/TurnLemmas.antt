-- As many lines as the choice counts on are enough: with more the course is the same, so where it
-- stops for want of lines is never reached.
use Rattle.std.proofs.Common.{◌≡◌, ℕ, zero, suc, ◌+◌, ◌≤◌, List, [], ◌∷◌, length, Bool, true, false, ◌==◌, if◌then◌else◌, codes, ◌++◌, Option, None, Some, refl, ap, add-suc, arith}
use Rattle.lilo_model.specs.Prompt.{Key, Byte, Tick}
use Rattle.lilo_model.specs.KeyCuts.{WaitCut, Elapsed, Interrupted, cut_wait, LineCut, Unended, Ended, onto_line, ends_line, is_enter_key, is_erase_key, cut_line, AnswerCut, Missing, Given, onto_answer, most_quiet_ticks, cut_answer}
use Rattle.lilo_model.specs.LineEdits.{echoes, text_after, answer_after}
use Rattle.lilo_model.specs.LineWords.{Meaning, Nothing, Names, NoSuch, meaning}
use Rattle.lilo_model.specs.Choice.{Setup, Candidate, default_candidate, automatic_candidate, asked_password, newline, listing, Turn, Takes, Idles, Again, turn_behind, is_right, answer_turn, question_turn, candidate_turn, meaning_turn, line_end_turn, line_turn, next_line_turn, delay_turn, timeout_turn, opened_turn, prompt_pieces, course_behind, course_from, course_opened, Shows, most_turns}

-- how many lines a turn leaves to be cut, at most: one for each key, and the one that the keys end in
abbrev pub lines_of_turn : Turn → ℕ
lines_of_turn (Takes _ _ _) = 0
lines_of_turn (Idles _) = 0
lines_of_turn (Again _ _ keys) = suc (length keys)

-- a number of lines that are few enough after a text too
behind_few : (text : List ℕ) (turn : Turn) (most : ℕ) → lines_of_turn turn ≤ most → lines_of_turn (turn_behind text turn) ≤ most
behind_few text (Takes _ _ _) most few = few
behind_few text (Idles _) most few = few
behind_few text (Again _ _ _) most few = few

-- how many lines a cut line leaves to be cut, at most
abbrev lines_of_cut : LineCut → ℕ
lines_of_cut (Unended _) = 0
lines_of_cut (Ended _ _ keys) = suc (length keys)

lines_of_cut-onto_line : (byte : ℕ) (cut : LineCut) → lines_of_cut (onto_line byte cut) ≡ lines_of_cut cut
lines_of_cut-onto_line byte (Unended _) = refl
lines_of_cut-onto_line byte (Ended _ _ _) = refl

-- a line that ends takes a key at least
lines_of_cut-cut_line : (first : Bool) (keys : List Key) → lines_of_cut (cut_line first keys) ≤ length keys
lines_of_cut-cut_line first [] = omega arith
lines_of_cut-cut_line first (Tick ∷ keys) = let rest = lines_of_cut-cut_line first keys in omega arith
lines_of_cut-cut_line first (Byte byte ∷ keys) =
    let rest = lines_of_cut-cut_line false keys in
    let onto = lines_of_cut-onto_line byte (cut_line false keys) in
    elim (ends_line first byte) as (λ ends. lines_of_cut (if ends then Ended [] byte keys else onto_line byte (cut_line false keys)) ≤ suc (length keys)) [
      | true ↦ omega arith
      | false ↦ omega arith
    ]

-- the keys after an answer
abbrev keys_behind : AnswerCut → List Key
keys_behind (Missing keys) = keys
keys_behind (Given _ keys) = keys

keys_behind-onto_answer : (byte : ℕ) (cut : AnswerCut) → keys_behind (onto_answer byte cut) ≡ keys_behind cut
keys_behind-onto_answer byte (Missing _) = refl
keys_behind-onto_answer byte (Given _ _) = refl

-- the keys after an answer are no more than before
length-keys_behind : (quiet : ℕ) (keys : List Key) → length (keys_behind (cut_answer quiet keys)) ≤ length keys
length-keys_behind quiet [] = omega arith
length-keys_behind quiet (Tick ∷ keys) =
    let rest = length-keys_behind (suc quiet) keys in
    elim (suc quiet == most_quiet_ticks) as (λ ends. length (keys_behind (if ends then Missing keys else cut_answer (suc quiet) keys)) ≤ suc (length keys)) [
      | true ↦ omega arith
      | false ↦ omega arith
    ]
length-keys_behind quiet (Byte byte ∷ keys) =
    let rest = length-keys_behind 0 keys in
    let onto = ap length (keys_behind-onto_answer byte (cut_answer 0 keys)) in
    elim (is_enter_key byte) as (λ ends. length (keys_behind (if ends then Given [] keys else onto_answer byte (cut_answer 0 keys))) ≤ suc (length keys)) [
      | true ↦ omega arith
      | false ↦ omega arith
    ]

answer_turn_few : (candidate : Candidate) (password : List ℕ) (answer : Option (List ℕ)) (cut : AnswerCut) → lines_of_turn (answer_turn candidate password answer cut) ≤ suc (length (keys_behind cut))
answer_turn_few candidate password answer (Missing keys) = omega arith
answer_turn_few candidate password answer (Given bytes keys) =
    elim (is_right password (answer_after answer bytes)) as (λ right. lines_of_turn (if right then Takes candidate newline keys else Again (newline ++ codes "Sorry." ++ newline) keys keys) ≤ suc (length keys)) [
      | true ↦ omega arith
      | false ↦ omega arith
    ]

question_turn_few : (candidate : Candidate) (password : Option (List ℕ)) (keys : List Key) → lines_of_turn (question_turn candidate password keys) ≤ suc (length keys)
question_turn_few candidate None keys = omega arith
question_turn_few candidate (Some password) keys =
    let few = answer_turn_few candidate password (Some []) (cut_answer 0 keys) in
    let fewer = length-keys_behind 0 keys in
    behind_few (codes "Password: ") (answer_turn candidate password (Some []) (cut_answer 0 keys)) (suc (length keys)) (omega arith)

candidate_turn_few : (setup : Setup) (candidate : Candidate) (keys : List Key) → lines_of_turn (candidate_turn setup candidate keys) ≤ suc (length keys)
candidate_turn_few setup candidate keys = question_turn_few candidate (asked_password setup.entries candidate) keys

meaning_turn_few : (setup : Setup) (meaning : Meaning) (keys : List Key) → lines_of_turn (meaning_turn setup meaning keys) ≤ suc (length keys)
meaning_turn_few setup Nothing keys = candidate_turn_few setup (default_candidate setup false) keys
meaning_turn_few setup (Names entry words) keys = candidate_turn_few setup (record { entry = entry; words = words; automatic = false }) keys
meaning_turn_few setup NoSuch keys = omega arith

line_end_turn_few : (setup : Setup) (text : List ℕ) (by : ℕ) (keys : List Key) → lines_of_turn (line_end_turn setup text by keys) ≤ suc (length keys)
line_end_turn_few setup text by keys =
    let finished = meaning_turn_few setup (meaning setup.entries text) keys in
    elim (is_enter_key by) as (λ enter. lines_of_turn (if enter then meaning_turn setup (meaning setup.entries text) keys else (if is_erase_key by then Again [] keys keys else Again (listing setup.entries) keys keys)) ≤ suc (length keys)) [
      | true ↦ finished
      | false ↦ elim (is_erase_key by) as (λ erase. lines_of_turn (if erase then Again [] keys keys else Again (listing setup.entries) keys keys) ≤ suc (length keys)) [
        | true ↦ omega arith
        | false ↦ omega arith
      ]
    ]

line_turn_few : (setup : Setup) (text : List ℕ) (cut : LineCut) → lines_of_turn (line_turn setup text cut) ≤ lines_of_cut cut
line_turn_few setup text (Unended bytes) = omega arith
line_turn_few setup text (Ended bytes by keys) =
    behind_few (echoes setup.settings.capacity text bytes ++ newline) (line_end_turn setup (text_after setup.settings.capacity text bytes) by keys) (suc (length keys)) (line_end_turn_few setup (text_after setup.settings.capacity text bytes) by keys)

-- the line that keys begin with leaves no more lines than there are keys
pub next_line_turn_few : (setup : Setup) (keys : List Key) → lines_of_turn (next_line_turn setup keys) ≤ length keys
next_line_turn_few setup keys =
    let few = line_turn_few setup [] (cut_line true keys) in
    let fewer = lines_of_cut-cut_line true keys in
    omega arith

-- the keys after a wait
abbrev keys_of_wait : WaitCut → List Key
keys_of_wait (Elapsed keys) = keys
keys_of_wait (Interrupted byte keys) = Byte byte ∷ keys

length-keys_of_wait : (wait : ℕ) (keys : List Key) → length (keys_of_wait (cut_wait wait keys)) ≤ length keys
length-keys_of_wait zero keys = omega arith
length-keys_of_wait (suc wait) [] = omega arith
length-keys_of_wait (suc wait) (Tick ∷ keys) = let rest = length-keys_of_wait wait keys in omega arith
length-keys_of_wait (suc wait) (Byte byte ∷ keys) = omega arith

delay_turn_few_of : (setup : Setup) (cut : WaitCut) → lines_of_turn (delay_turn setup cut) ≤ suc (length (keys_of_wait cut))
delay_turn_few_of setup (Elapsed keys) = candidate_turn_few setup (automatic_candidate setup) keys
delay_turn_few_of setup (Interrupted byte keys) = omega arith

-- the delay leaves no more lines than the choice counts on
pub delay_turn_few : (setup : Setup) (wait : ℕ) (keys : List Key) → lines_of_turn (delay_turn setup (cut_wait wait keys)) ≤ most_turns keys
delay_turn_few setup wait keys =
    let few = delay_turn_few_of setup (cut_wait wait keys) in
    let fewer = length-keys_of_wait wait keys in
    omega arith

timeout_turn_few : (setup : Setup) (cut : WaitCut) → lines_of_turn (timeout_turn setup cut) ≤ suc (length (keys_of_wait cut))
timeout_turn_few setup (Elapsed keys) =
    behind_few newline (candidate_turn setup (default_candidate setup true) keys) (suc (length keys)) (candidate_turn_few setup (default_candidate setup true) keys)
timeout_turn_few setup (Interrupted byte keys) = let few = next_line_turn_few setup (Byte byte ∷ keys) in omega arith

-- nor does what comes first at a prompt that no key opened
pub opened_turn_few : (setup : Setup) (timeout : Option ℕ) (keys : List Key) → lines_of_turn (opened_turn setup timeout keys) ≤ most_turns keys
opened_turn_few setup None keys = let few = next_line_turn_few setup keys in omega arith
opened_turn_few setup (Some wait) keys =
    let few = timeout_turn_few setup (cut_wait wait keys) in
    let fewer = length-keys_of_wait wait keys in
    omega arith

-- where the lines are enough, more make no difference
pub course_from-add : (setup : Setup) (more most : ℕ) (opened : Bool) (turn : Turn) → lines_of_turn turn ≤ most → course_from setup (more + most) opened turn ≡ course_from setup most opened turn
course_from-add setup more most opened (Takes candidate text keys) enough = refl
course_from-add setup more most opened (Idles text) enough = refl
course_from-add setup more zero opened (Again text left keys) enough = absurd (omega arith)
course_from-add setup more (suc most) opened (Again text left keys) enough =
    let few = next_line_turn_few setup keys in
    let same = course_from-add setup more most true (next_line_turn setup keys) (omega arith) in
    rw add-suc (ap (course_behind (Shows text ∷ prompt_pieces opened left)) same)

-- the course that a choice is read from is the same with more lines
pub course_opened-add : (setup : Setup) (more : ℕ) (opens : Bool) (keys : List Key) → course_opened setup (more + most_turns keys) opens keys ≡ course_opened setup (most_turns keys) opens keys
course_opened-add setup more true keys =
    ap (course_behind (prompt_pieces false keys)) (course_from-add setup more (most_turns keys) true (opened_turn setup setup.settings.timeout keys) (opened_turn_few setup setup.settings.timeout keys))
course_opened-add setup more false keys =
    course_from-add setup more (most_turns keys) false (delay_turn setup (cut_wait setup.settings.delay keys)) (delay_turn_few setup setup.settings.delay keys)

-- What a prompt shows and comes to where it is given a list of keys, one by one. (This project's own.)
use Rattle.std.specs.Prelude.{◌≡◌, ℕ, zero, suc, List, [], ◌∷◌, ◌++◌, length, take, drop, map, flat_map, Bool, true, false, if◌then◌else◌, Option, None, Some}
use Rattle.std.specs.Prelude.{unwrap_or, nat_eq}
use Rattle.std.specs.Option.{option_map}
use Rattle.std.specs.List.{starts_with}
use Rattle.lilo_model.specs.Prompt.{Key, Byte, Tick, ListedEntry}
use Rattle.lilo_model.specs.Choice.{Setup, listing, Piece, Shows, Opens, Course, course_of}
use Rattle.bios_model.specs.declared.key.Key as heard
use Rattle.bios_model.specs.declared.key.Key.TheVariants as keys
use Rattle.prompt_core.specs.declared.reply.Answer.{Answer}
use Rattle.prompt_core.specs.declared.reply.Answer.TheVariants as answers
use Rattle.prompt_core.specs.Steps.{Chosen, chosen_of, State, Decided, Over, Said, Step, prompt_text, key_step, start_step}

-- ---- what is shown

pub data Mark : Type 0 where
  -- a byte
  Shown : ℕ → Mark
  -- the message's place, where the prompt opens; the keys that are not taken then
  Opened : List Key → Mark

abbrev pub text_marks : List ℕ → List Mark
text_marks text = map Shown text

-- whether a text begins with the prompt
abbrev pub begins_prompt : List ℕ → Bool
begins_prompt text = starts_with nat_eq text prompt_text

-- where the first prompt in a text begins, or the text's end
abbrev pub first_prompt : List ℕ → ℕ
first_prompt [] = 0
first_prompt (byte ∷ text) = if begins_prompt (byte ∷ text) then 0 else suc (first_prompt text)

-- a place that was found after a byte, or else the byte's own where that is one
abbrev pub later_place : Option ℕ → Bool → Option ℕ
later_place (Some place) here = Some (suc place)
later_place None here = if here then Some 0 else None

-- where the last prompt in a text begins
abbrev pub last_found : List ℕ → Option ℕ
last_found [] = None
last_found (byte ∷ text) = later_place (last_found text) (begins_prompt (byte ∷ text))

-- where the last prompt in a text begins, or the text's end
abbrev pub last_prompt : List ℕ → ℕ
last_prompt text = unwrap_or (last_found text) (length text)

-- a text with another at a place
abbrev pub inserted : List ℕ → ℕ → List ℕ → List ℕ
inserted text place other = take place text ++ (other ++ drop place text)

-- a text with the names directly before its last prompt, where they are listed
abbrev pub with_names : List ListedEntry → Answer → List ℕ → List ℕ
with_names entries answers.List text = inserted text (last_prompt text) (listing entries)
with_names entries _ text = text

-- a text with the message's place directly before its first prompt
abbrev pub message_marks : List ListedEntry → Answer → List Key → ℕ → List ℕ → List Mark
message_marks entries answer left place text =
    text_marks (take place text) ++ (Opened left ∷ text_marks (with_names entries answer (drop place text)))

-- what is shown of an answer, where so many keys are not taken
abbrev pub said_marks : List ListedEntry → List Key → Said → List Mark
said_marks entries left said =
    if said.opened
    then message_marks entries said.answer left (first_prompt said.show) said.show
    else text_marks (with_names entries said.answer said.show)

-- the names, where they are listed
abbrev pub listed : List ListedEntry → Answer → List ℕ
listed entries answers.List = listing entries
listed entries _ = []

-- the message's place, where the prompt opens
abbrev pub opened_at : Bool → List Key → List Mark
opened_at true left = Opened left ∷ []
opened_at false left = []

-- what is shown by three texts, with the message between the first two and the names between the last two
abbrev pub parts_marks : List ListedEntry → List Key → Said → List ℕ → List ℕ → List ℕ → List Mark
parts_marks entries left said before middle rest =
    text_marks before ++ (opened_at said.opened left ++ text_marks (middle ++ (listed entries said.answer ++ rest)))

-- ---- a list of keys

-- what was chosen, all that was shown, and the keys that were not taken
pub record Run : Type 0 where
  pub picked : Option Chosen
  pub shown : List Mark
  pub left : List Key

-- a run with more shown before it
abbrev pub run_behind : List Mark → Run → Run
run_behind marks run = record { picked = run.picked; shown = marks ++ run.shown; left = run.left }

-- whether no key is waited for
abbrev pub is_done : State → Bool
is_done (Decided chosen) = true
is_done Over = true
is_done _ = false

-- what is chosen in a state
abbrev pub chosen_in : State → Option Chosen
chosen_in (Decided chosen) = Some chosen
chosen_in _ = None

-- a run that takes no more keys
abbrev pub ended : State → List Key → Run
ended state left = record { picked = chosen_in state; shown = []; left = left }

-- a key, as the prompt is given it
abbrev pub heard_key : Key → heard.Key
heard_key (Byte byte) = keys.Byte byte
heard_key Tick = keys.Tick

-- what comes of silence, as long as it is given at most so often
abbrev pub silenced : Setup → ℕ → State → Run
silenced setup zero state = ended state []
silenced setup (suc more) state =
    if is_done state then ended state []
    else run_behind
    (said_marks setup.entries [] (key_step setup state keys.Silence).said)
    (silenced setup more (key_step setup state keys.Silence).state)

-- what comes of keys, and silence after them: one that waits asks a password, and begins a line, at most
abbrev pub driven : Setup → List Key → State → Run
driven setup [] state = silenced setup 3 state
driven setup (key ∷ left) state =
    if is_done state then ended state (key ∷ left)
    else run_behind
    (said_marks setup.entries left (key_step setup state (heard_key key)).said)
    (driven setup left (key_step setup state (heard_key key)).state)

-- what comes of a step, with these keys after it
abbrev pub after_step : Setup → List Key → Step → Run
after_step setup left step = run_behind (said_marks setup.entries left step.said) (driven setup left step.state)

-- what comes of keys from the start on
unfoldable pub run_of : Setup → List Key → Run
run_of setup keys = after_step setup keys (start_step setup)

-- ---- the same by cutting

abbrev pub piece_marks : Piece → List Mark
piece_marks (Shows text) = text_marks text
piece_marks (Opens left) = Opened left ∷ []

-- a course, as it is seen
abbrev pub seen : Setup → Course → Run
seen setup course = record {
  picked = option_map (chosen_of setup.entries) course.picked;
  shown = flat_map piece_marks course.shown;
  left = course.left;
}

-- ---- the law

-- Given any list of keys one by one, the prompt chooses, shows and leaves what the list does that is cut: the same
-- entry with its words, mode and lines, the same text with the message's place, and the same keys left.
abbrev pub KeysLaw : Type 0
KeysLaw = (setup : Setup) (keys : List Key) → run_of setup keys ≡ seen setup (course_of setup keys)

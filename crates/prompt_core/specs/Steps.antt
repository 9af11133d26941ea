-- How the prompt goes on with one key. The rules are this project's own; the texts, and the keys that edit a line,
-- follow LILO's manners.
use Rattle.std.specs.Prelude.{◌≡◌, ℕ, suc, ◌-◌, List, [], ◌∷◌, ◌++◌, Bool, true, false, not, ◌&&◌, ◌||◌, ◌==◌, nat_le, if◌then◌else◌, Option, None, Some}
use Rattle.std.specs.Prelude.{unwrap_or, slice_get, codes}
use Rattle.std.specs.Option.{option_map, option_and_then}
use Rattle.lilo_model.specs.DefaultLine.{line_text}
use Rattle.lilo_model.specs.Prompt.{ListedEntry}
use Rattle.lilo_model.specs.KeyCuts.{is_enter_key, is_erase_key, is_list_key, most_quiet_ticks}
use Rattle.lilo_model.specs.LineEdits.{text_after_byte, echo_of, answer_after_byte}
use Rattle.lilo_model.specs.LineWords.{Meaning, Nothing, Names, NoSuch, meaning, is_empty_list, joined_words, passed_words, kept_words, has_lock_word}
use Rattle.lilo_model.specs.LineWords.{words_video_mode}
use Rattle.lilo_model.specs.Choice.{Setup, Candidate, newline, is_right}
use Rattle.bios_model.specs.declared.key.Key as heard
use Rattle.bios_model.specs.declared.key.Key.TheVariants as keys
use Rattle.prompt_core.specs.declared.reply.Picked as picks
use Rattle.prompt_core.specs.declared.reply.Answer.{Answer}
use Rattle.prompt_core.specs.declared.reply.Answer.TheVariants as answers

-- what is chosen, with its words
pub record Chosen : Type 0 where
  pub picked : picks.Picked
  -- the words to pass on, with single spaces between them
  pub words : List ℕ
  -- the name and the words but `lock`, with single spaces between them
  pub lock_line : List ℕ

-- a password that is asked
pub record Question : Type 0 where
  -- what the password gives
  pub chosen : Chosen
  pub password : List ℕ
  -- the answer so far, or nothing once it was too long
  pub answer : Option (List ℕ)
  -- the ticks since the last byte
  pub quiet : ℕ
  -- whether the prompt was shown before
  pub opened : Bool

-- where the prompt is between two keys
pub data State : Type 0 where
  -- so many ticks are waited for before the automatic choice
  Delaying : ℕ → State
  -- so many ticks are waited for at the open prompt
  Timing : ℕ → State
  -- a line is typed: its text, and whether its first key is still to come
  Typing : List ℕ → Bool → State
  -- a password is asked
  Asking : Question → State
  -- this was chosen
  Decided : Chosen → State
  -- nothing is chosen, and no key is waited for
  Over : State

-- what the prompt answers
pub record Said : Type 0 where
  pub answer : Answer
  pub show : List ℕ
  -- whether the prompt is shown for the first time
  pub opened : Bool

-- where the prompt is after a key, and what it answers
pub record Step : Type 0 where
  pub state : State
  pub said : Said

-- a step that doesn't open the prompt
abbrev pub stepped : State → Answer → List ℕ → Step
stepped state answer show = record { state = state; said = record { answer = answer; show = show; opened = false } }

-- a step that opens the prompt
abbrev pub opening : Step → Step
opening step = record {
  state = step.state;
  said = record { answer = step.said.answer; show = step.said.show; opened = true };
}

-- the prompt's text
abbrev pub prompt_text : List ℕ
prompt_text = codes "boot: "

-- ---- what can be chosen

-- the name of the entry at a place, of no bytes where there is none
abbrev pub name_at : List ListedEntry → ℕ → List ℕ
name_at entries place = unwrap_or (option_map (λ entry. entry.name) (slice_get entries place)) []

-- what a candidate is once it is chosen
abbrev pub chosen_of : List ListedEntry → Candidate → Chosen
chosen_of entries candidate = record {
  picked = record {
    entry = candidate.entry;
    automatic = candidate.automatic;
    lock = has_lock_word candidate.words;
    vga = words_video_mode candidate.words;
  };
  words = joined_words (passed_words candidate.words);
  lock_line = joined_words (name_at entries candidate.entry ∷ kept_words candidate.words);
}

-- the entry that is chosen without words
abbrev pub plain_choice : List ListedEntry → ℕ → Bool → Chosen
plain_choice entries place automatic = record {
  picked = record { entry = place; automatic = automatic; lock = false; vga = None };
  words = [];
  lock_line = name_at entries place;
}

-- the default entry, chosen without words
abbrev pub default_choice : Setup → Bool → Chosen
default_choice setup automatic = plain_choice setup.entries setup.settings.default_entry automatic

-- what a line chooses
pub data Meant : Type 0 where
  -- it has no words
  Blank : Meant
  -- its first word is a name
  Means : Chosen → Meant
  -- its first word is no name
  Unknown : Meant

-- what a meaning chooses
abbrev pub meant_of : List ListedEntry → Bool → Meaning → Meant
meant_of entries automatic Nothing = Blank
meant_of entries automatic (Names place words) =
    Means (chosen_of entries (record { entry = place; words = words; automatic = automatic }))
meant_of entries automatic NoSuch = Unknown

-- what the default line chooses
abbrev pub line_meant : Setup → Meant
line_meant setup = meant_of setup.entries true (meaning setup.entries (line_text setup.line))

-- whether the prompt is shown at once: it is asked for, and the default line chooses nothing
abbrev pub opens_by : Bool → Meant → Bool
opens_by prompt Blank = prompt
opens_by prompt (Means chosen) = false
opens_by prompt Unknown = prompt

-- what a line chooses, or else what else is
abbrev pub meant_or : Chosen → Meant → Chosen
meant_or other Blank = other
meant_or other (Means chosen) = chosen
meant_or other Unknown = other

-- the password that an entry asks of what is chosen
abbrev pub entry_asks : Chosen → ListedEntry → Option (List ℕ)
entry_asks chosen entry =
    if entry.restricted && not (not chosen.picked.automatic && not (is_empty_list chosen.words)) then None
    else entry.password

-- the password that is asked of what is chosen
abbrev pub password_of : List ListedEntry → Chosen → Option (List ℕ)
password_of entries chosen = option_and_then (entry_asks chosen) (slice_get entries chosen.picked.entry)

-- ---- steps; each shows a text before what comes of it

-- a choice, after the question for its password where there is one
abbrev pub question_step : List ℕ → Bool → Chosen → Option (List ℕ) → Step
question_step before opened chosen None = stepped (Decided chosen) (answers.Chosen chosen.picked) before
question_step before opened chosen (Some password) =
    stepped
    (Asking (record { chosen = chosen; password = password; answer = Some []; quiet = 0; opened = opened }))
    answers.AskPassword (before ++ codes "Password: ")

-- a choice
abbrev pub choice_step : List ListedEntry → List ℕ → Bool → Chosen → Step
choice_step entries before opened chosen = question_step before opened chosen (password_of entries chosen)

-- a line begins
abbrev pub begun_step : Answer → List ℕ → Step
begun_step answer before = stepped (Typing [] true) answer (before ++ prompt_text)

-- a finished line
abbrev pub meant_step : Setup → List ℕ → Meant → Step
meant_step setup before Blank = choice_step setup.entries before true (default_choice setup false)
meant_step setup before (Means chosen) = choice_step setup.entries before true chosen
meant_step setup before Unknown = begun_step answers.NoSuch (before ++ (codes "No such image." ++ newline))

-- a byte at a line
abbrev pub line_step : Setup → List ℕ → List ℕ → Bool → ℕ → Step
line_step setup before text first byte =
    if is_enter_key byte then meant_step setup (before ++ newline) (meant_of setup.entries false (meaning setup.entries text))
    else (if is_erase_key byte then begun_step answers.More (before ++ newline)
    else (if first && is_list_key byte then begun_step answers.List (before ++ newline)
    else stepped
    (Typing (text_after_byte setup.settings.capacity text byte) false)
    answers.More (before ++ echo_of setup.settings.capacity text byte)))

-- the delay is over
abbrev pub delayed_step : Setup → Step
delayed_step setup = choice_step setup.entries [] false (meant_or (default_choice setup true) (line_meant setup))

-- the timeout is over
abbrev pub timed_step : Setup → List ℕ → Step
timed_step setup before = choice_step setup.entries (before ++ newline) true (default_choice setup true)

-- the prompt is shown after a question, for the first time or again
abbrev pub reopened_step : Bool → List ℕ → Step
reopened_step opened before =
    let step = begun_step answers.WrongPassword before in if opened then step else opening step

-- an answer is finished
abbrev pub answered_step : Question → Step
answered_step question =
    if is_right question.password question.answer
    then stepped (Decided question.chosen) (answers.Chosen question.chosen.picked) newline
    else reopened_step question.opened (newline ++ codes "Sorry." ++ newline)

-- a byte at a question
abbrev pub answer_step : Question → ℕ → Step
answer_step question byte =
    if is_enter_key byte then answered_step question
    else stepped
    (Asking (record {
      chosen = question.chosen;
      password = question.password;
      answer = answer_after_byte question.answer byte;
      quiet = 0;
      opened = question.opened;
    }))
    answers.More []

-- a tick at a question
abbrev pub quiet_step : Question → Step
quiet_step question =
    if suc question.quiet == most_quiet_ticks then reopened_step question.opened newline
    else stepped
    (Asking (record {
      chosen = question.chosen;
      password = question.password;
      answer = question.answer;
      quiet = suc question.quiet;
      opened = question.opened;
    }))
    answers.More []

-- ---- keys

-- a byte
abbrev pub byte_step : Setup → State → ℕ → Step
byte_step setup (Delaying wait) byte = opening (line_step setup prompt_text [] true byte)
byte_step setup (Timing wait) byte = line_step setup [] [] true byte
byte_step setup (Typing text first) byte = line_step setup [] text first byte
byte_step setup (Asking question) byte = answer_step question byte
byte_step setup (Decided chosen) byte = stepped (Decided chosen) answers.Idle []
byte_step setup Over byte = stepped Over answers.Idle []

-- a tick
abbrev pub tick_step : Setup → State → Step
tick_step setup (Delaying wait) =
    if nat_le wait 1 then delayed_step setup else stepped (Delaying (wait - 1)) answers.More []
tick_step setup (Timing wait) =
    if nat_le wait 1 then timed_step setup [] else stepped (Timing (wait - 1)) answers.More []
tick_step setup (Typing text first) = stepped (Typing text first) answers.More []
tick_step setup (Asking question) = quiet_step question
tick_step setup (Decided chosen) = stepped (Decided chosen) answers.Idle []
tick_step setup Over = stepped Over answers.Idle []

-- no key comes any more
abbrev pub silence_step : Setup → State → Step
silence_step setup (Delaying wait) = delayed_step setup
silence_step setup (Timing wait) = timed_step setup []
silence_step setup (Typing text first) = stepped Over answers.Idle []
silence_step setup (Asking question) = reopened_step question.opened newline
silence_step setup (Decided chosen) = stepped (Decided chosen) answers.Idle []
silence_step setup Over = stepped Over answers.Idle []

-- a key
unfoldable pub key_step : Setup → State → heard.Key → Step
key_step setup state (keys.Byte byte) = byte_step setup state byte
key_step setup state keys.Tick = tick_step setup state
key_step setup state keys.Silence = silence_step setup state

-- ---- the start

-- the prompt is shown at once, with a timeout or none
abbrev pub shown_step : Setup → Option ℕ → Step
shown_step setup None = opening (begun_step answers.More [])
shown_step setup (Some wait) =
    if wait == 0 then opening (timed_step setup prompt_text)
    else opening (stepped (Timing wait) answers.More prompt_text)

-- the delay begins
abbrev pub waiting_step : Setup → Step
waiting_step setup =
    if setup.settings.delay == 0 then delayed_step setup
    else stepped (Delaying setup.settings.delay) answers.More []

-- the start
unfoldable pub start_step : Setup → Step
start_step setup =
    if opens_by setup.settings.prompt (line_meant setup) then shown_step setup setup.settings.timeout
    else waiting_step setup

-- ---- what was chosen

-- the words to pass on, once an entry is chosen
abbrev pub words_in : State → List ℕ
words_in (Decided chosen) = chosen.words
words_in _ = []

-- the entry's name and the words but `lock`, once it is chosen
abbrev pub lock_line_in : State → List ℕ
lock_line_in (Decided chosen) = chosen.lock_line
lock_line_in _ = []

-- ---- when more keys are wanted

-- whether a key finishes a line or a password, asks for the names, or completes a wait; silence always does
abbrev pub tells : State → heard.Key → Bool
tells (Delaying wait) (keys.Byte byte) = is_enter_key byte || is_list_key byte
tells (Timing wait) (keys.Byte byte) = is_enter_key byte || is_list_key byte
tells (Typing text first) (keys.Byte byte) = is_enter_key byte || (first && is_list_key byte)
tells (Asking question) (keys.Byte byte) = is_enter_key byte
tells (Delaying wait) keys.Tick = nat_le wait 1
tells (Timing wait) keys.Tick = nat_le wait 1
tells (Typing text first) keys.Tick = false
tells (Asking question) keys.Tick = suc question.quiet == most_quiet_ticks
tells _ _ = true

-- whether an answer is that more keys are wanted
abbrev pub wants_more : Answer → Bool
wants_more answers.More = true
wants_more _ = false

-- More keys are wanted exactly as long as no line or password is finished, no names are asked for and no wait is over.
abbrev pub MoreLaw : Type 0
MoreLaw = (setup : Setup) (state : State) (key : heard.Key) → wants_more (key_step setup state key).said.answer ≡ not (tells state key)

-- Which plain value of the model each value of this crate stands for.
use Rattle.std.specs.Prelude.{ℕ, List, map, false, None}
use Rattle.std.specs.Option.{option_map}
use Rattle.lilo_model.specs.Prompt as prompts
use Rattle.lilo_model.specs.Choice.{Setup}
use Rattle.lilo_model.specs.DefaultLine as lines
use Rattle.prompt_core.specs.declared.entry.Choice.{Choice}
use Rattle.prompt_core.specs.declared.entry.Settings.{Settings}
use Rattle.prompt_core.specs.declared.line.Meant as means
use Rattle.prompt_core.specs.declared.line.Meant.TheVariants as meanings
use Rattle.prompt_core.specs.declared.reply.Reply.{Reply}
use Rattle.prompt_core.specs.declared.state.Chosen as chosens
use Rattle.prompt_core.specs.declared.state.Question as questions
use Rattle.prompt_core.specs.declared.state.State as states
use Rattle.prompt_core.specs.declared.state.State.TheVariants as variants
use Rattle.prompt_core.specs.declared.state.Step as steps
use Rattle.prompt_core.specs.Steps.{Chosen, Question, State, Delaying, Timing, Typing, Asking, Decided, Over, Said, Step, Meant, Blank, Means, Unknown}

-- an entry; what is kept for later boots has no part in the choice
abbrev pub choice_view : Choice → prompts.ListedEntry
choice_view choice = record {
  name = choice.name.items;
  password = option_map (λ password. password.items) choice.password;
  restricted = choice.restricted;
  lock = false;
  fallback = None;
}

abbrev pub entries_view : List Choice → List prompts.ListedEntry
entries_view choices = map choice_view choices

abbrev pub settings_view : Settings → prompts.Settings
settings_view settings = record {
  prompt = settings.prompt;
  delay = settings.delay;
  timeout = settings.timeout;
  default_entry = settings.default_entry;
  capacity = settings.capacity;
}

-- what is chosen from, with the text of a default line, and how
abbrev pub setup_of : Settings → List Choice → List ℕ → Setup
setup_of settings choices text =
    record { settings = settings_view settings; entries = entries_view choices; line = lines.Kept text }

-- what is chosen
abbrev pub chosen_view : chosens.Chosen → Chosen
chosen_view chosen = record {
  picked = chosen.picked;
  words = chosen.words.items;
  lock_line = chosen.lock_line.items;
}

-- what a line chooses
abbrev pub meant_view : means.Meant → Meant
meant_view meanings.Blank = Blank
meant_view (meanings.Means chosen) = Means (chosen_view chosen)
meant_view meanings.Unknown = Unknown

-- a password that is asked
abbrev pub question_view : questions.Question → Question
question_view question = record {
  chosen = chosen_view question.chosen;
  password = question.password.items;
  answer = option_map (λ answer. answer.items) question.answer;
  quiet = question.quiet;
  opened = question.opened;
}

-- where the prompt is
abbrev pub state_view : states.State → State
state_view (variants.Delaying wait) = Delaying wait
state_view (variants.Timing wait) = Timing wait
state_view (variants.Typing text first) = Typing text.items first
state_view (variants.Asking question) = Asking (question_view question)
state_view (variants.Decided chosen) = Decided (chosen_view chosen)
state_view variants.Over = Over

-- what the prompt answers
abbrev pub said_of : Reply → Said
said_of reply = record { answer = reply.answer; show = reply.show.items; opened = reply.opened }

-- where the prompt is after a key, and what it answers
abbrev pub step_view : steps.Step → Step
step_view step = record { state = state_view step.state; said = said_of step.reply }

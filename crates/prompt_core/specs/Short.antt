-- How long the texts are that a prompt holds. (This project's own.)
use Rattle.std.specs.Prelude.{ℕ, ◌≤◌, length, ⊤}
use Rattle.lilo_model.specs.DefaultLine.{line_text}
use Rattle.lilo_model.specs.Choice.{Setup}
use Rattle.bios_model.specs.declared.key.Key as heard
use Rattle.prompt_core.specs.Steps.{name_at, State, Typing, Asking, Decided, key_step, start_step}

-- what is chosen from has names, a default line and typed lines of at most so many bytes
pub record AreShort (most : ℕ) (setup : Setup) : Type 0 where
  pub names : (place : ℕ) → length (name_at setup.entries place) ≤ most
  pub line : length (line_text setup.line) ≤ most
  pub capacity : setup.settings.capacity ≤ most

-- the typed line, or the line that a lock keeps, has at most so many bytes
abbrev pub IsShort : ℕ → State → Type 0
IsShort most (Typing text first) = length text ≤ most
IsShort most (Asking question) = length question.chosen.lock_line ≤ most
IsShort most (Decided chosen) = length chosen.lock_line ≤ most
IsShort most _ = ⊤

-- A prompt holds no longer line than the longest of a name, the default line and a typed line.
pub record HoldsShort (most : ℕ) (setup : Setup) : Type 0 where
  pub begins : IsShort most (start_step setup).state
  pub goes_on : (state : State) (key : heard.Key) → IsShort most state → IsShort most (key_step setup state key).state

abbrev pub ShortLaw : Type 0
ShortLaw = (most : ℕ) (setup : Setup) → AreShort most setup → HoldsShort most setup

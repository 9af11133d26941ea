-- What the cases are written in.
use Rattle.std.specs.Prelude.{ℕ, List, map, replicate, Bool, Option}
use Rattle.lilo_model.specs.DefaultLine.{DefaultLine}
use Rattle.lilo_model.specs.Prompt.{Key, Byte, Tick, Settings, ListedEntry, Picked, Decision, Opening}
use Rattle.lilo_model.specs.Choice.{choice, opening}

-- bytes that are typed
abbrev pub typing : List ℕ → List Key
typing bytes = map Byte bytes

-- so many ticks
abbrev pub waiting : ℕ → List Key
waiting ticks = replicate ticks Tick

-- settings, by the prompt's flag, the delay, the timeout, the default entry and the capacity
abbrev pub settings : Bool → ℕ → Option ℕ → ℕ → ℕ → Settings
settings prompt delay timeout default_entry capacity =
    record { prompt = prompt; delay = delay; timeout = timeout; default_entry = default_entry; capacity = capacity }

-- an entry, by its name, its password, whether that is restricted, its lock and its fallback
abbrev pub listed : List ℕ → Option (List ℕ) → Bool → Bool → Option (List ℕ) → ListedEntry
listed name password restricted lock fallback =
    record { name = name; password = password; restricted = restricted; lock = lock; fallback = fallback }

-- what was chosen, by the entry, the words, whether it was automatic, and the video mode
abbrev pub chosen : ℕ → List ℕ → Bool → Option ℕ → Picked
chosen entry words automatic vga = record { entry = entry; words = words; automatic = automatic; vga = vga }

-- both answers to one list of keys
pub record Answers : Type 0 where
  pub decision : Decision
  pub opening : Option Opening

-- the answers that the definitions give
abbrev pub answers : Settings → List ListedEntry → DefaultLine → Option (List ℕ) → List Key → Answers
answers settings entries line message keys =
    record { decision = choice settings entries line message keys; opening = opening settings entries line keys }

-- the answers that are expected: what was chosen, the text, the new default line, the keys that are left, and the opening
abbrev pub expected : Option Picked → List ℕ → DefaultLine → List Key → Option Opening → Answers
expected picked shown line left opening =
    record { decision = record { picked = picked; shown = shown; line = line; left = left }; opening = opening }

-- the prompt is shown for the first time after this text, with these keys left
abbrev pub opened : List ℕ → List Key → Opening
opened before left = record { before = before; left = left }

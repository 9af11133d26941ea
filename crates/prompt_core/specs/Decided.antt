-- What a prompt that is given a list of keys comes to, in terms of the choice by cutting.
use Rattle.std.specs.Prelude.{◌≡◌, ℕ, List, [], ◌∷◌, map, flat_map, false, ◌||◌, if◌then◌else◌, Option, None, Some, unwrap_or, slice_get}
use Rattle.std.specs.Option.{option_map}
use Rattle.lilo_model.specs.DefaultLine.{DefaultLine, Kept, line_text, line_after}
use Rattle.lilo_model.specs.Prompt.{Key, Settings, ListedEntry, Picked, Decision, Opening}
use Rattle.lilo_model.specs.Choice.{Setup, filled_text, opening_behind, choice, opening}
use Rattle.prompt_core.specs.Steps.{Chosen}
use Rattle.prompt_core.specs.Run.{Mark, Shown, Opened, Run, run_of}

-- ---- what the prompt is given of an entry, and of the default line

-- an entry without what is kept for later boots
abbrev pub plain_entry : ListedEntry → ListedEntry
plain_entry entry = record {
  name = entry.name;
  password = entry.password;
  restricted = entry.restricted;
  lock = false;
  fallback = None;
}

-- what is chosen from, as far as the prompt is given it
abbrev pub plain_setup : Settings → List ListedEntry → DefaultLine → Setup
plain_setup settings entries line =
    record { settings = settings; entries = map plain_entry entries; line = Kept (line_text line) }

-- ---- what is shown

-- the text of a mark, with the message at its place
abbrev pub mark_text : List ℕ → Mark → List ℕ
mark_text message (Shown byte) = byte ∷ []
mark_text message (Opened left) = message

-- the text of marks
abbrev pub marks_text : List ℕ → List Mark → List ℕ
marks_text message marks = flat_map (mark_text message) marks

-- where the prompt opens among marks
abbrev pub marks_opening : List Mark → Option Opening
marks_opening [] = None
marks_opening (Shown byte ∷ marks) = option_map (opening_behind (byte ∷ [])) (marks_opening marks)
marks_opening (Opened left ∷ marks) = Some (record { before = []; left = left })

-- ---- what is chosen and kept

-- what was chosen
abbrev pub picked_by : Chosen → Picked
picked_by chosen = record {
  entry = chosen.picked.entry;
  words = chosen.words;
  automatic = chosen.picked.automatic;
  vga = chosen.picked.vga;
}

-- the line that a choice of this entry keeps, where it is to be kept
abbrev pub locked_by : Chosen → ListedEntry → Option (List ℕ)
locked_by chosen entry = if entry.lock || chosen.picked.lock then Some chosen.lock_line else None

-- the default line after a choice of this entry, or of one that is not in the list
abbrev pub line_by : DefaultLine → Chosen → Option ListedEntry → DefaultLine
line_by line chosen None = line_after line None None
line_by line chosen (Some entry) = line_after line (locked_by chosen entry) (filled_text entry.fallback)

-- the default line after a choice, or without one
abbrev pub line_behind : List ListedEntry → DefaultLine → Option Chosen → DefaultLine
line_behind entries line None = line
line_behind entries line (Some chosen) = line_by line chosen (slice_get entries chosen.picked.entry)

-- the decision that a run comes to
abbrev pub decided : List ListedEntry → DefaultLine → List ℕ → Run → Decision
decided entries line message run = record {
  picked = option_map picked_by run.picked;
  shown = marks_text message run.shown;
  line = line_behind entries line run.picked;
  left = run.left;
}

-- ---- the laws

-- Given any list of keys one by one, the prompt comes to the choice by cutting: what is chosen, all that is shown, the
-- new default line, and the keys left. It is given neither an entry's lock nor its fallback, nor the line's state.
abbrev pub ChoiceLaw : Type 0
ChoiceLaw =
    (settings : Settings) (entries : List ListedEntry) (line : DefaultLine) (message : Option (List ℕ)) (keys : List Key)
    → decided entries line (unwrap_or message []) (run_of (plain_setup settings entries line) keys)
    ≡ choice settings entries line message keys

-- It opens where the choice by cutting opens.
abbrev pub OpeningLaw : Type 0
OpeningLaw =
    (settings : Settings) (entries : List ListedEntry) (line : DefaultLine) (keys : List Key)
    → marks_opening (run_of (plain_setup settings entries line) keys).shown ≡ opening settings entries line keys

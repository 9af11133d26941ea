-- The default line: what an installation chooses without keys. Its states, and how a boot changes it,
-- are rules of this project's own; a line for one boot and a kept one follow LILO's manners.
use Rattle.std.specs.Prelude.{ℕ, List, [], Option, None, Some}

pub data DefaultLine : Type 0 where
  -- there is no line
  Empty : DefaultLine
  -- a line for one boot
  Once : List ℕ → DefaultLine
  -- a line for each boot
  Kept : List ℕ → DefaultLine

-- the text of a line
abbrev pub line_text : DefaultLine → List ℕ
line_text Empty = []
line_text (Once text) = text
line_text (Kept text) = text

-- the line once it has served a boot
abbrev pub line_after_use : DefaultLine → DefaultLine
line_after_use Empty = Empty
line_after_use (Once _) = Empty
line_after_use (Kept text) = Kept text

-- the line after a boot: a line to lock on is kept, or else a fallback is, or else the line has served
abbrev pub line_after : DefaultLine → Option (List ℕ) → Option (List ℕ) → DefaultLine
line_after line (Some lock) fallback = Kept lock
line_after line None (Some fallback) = Kept fallback
line_after line None None = line_after_use line

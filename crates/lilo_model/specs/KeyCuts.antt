-- Where a list of keys is cut: after a wait, after a line, after an answer to the password's
-- question. A cut knows no text, no reply and no entry. The keys that end a line follow LILO's
-- manners; how long is waited for an answer is a rule of this project's own.
use Rattle.std.specs.Prelude.{ℕ, zero, suc, List, [], ◌∷◌, Bool, false, ◌&&◌, ◌||◌, ◌==◌, if◌then◌else◌}
use Rattle.lilo_model.specs.Prompt.{Key, Byte, Tick}

-- a wait for a number of ticks, cut off from the keys
pub data WaitCut : Type 0 where
  -- the ticks came, or the keys ended before: the keys after them
  Elapsed : List Key → WaitCut
  -- a byte came before: the byte, and the keys after it
  Interrupted : ℕ → List Key → WaitCut

-- the keys, cut where so many ticks come before the first byte, at that byte, or at their end
abbrev pub cut_wait : ℕ → List Key → WaitCut
cut_wait zero keys = Elapsed keys
cut_wait (suc ticks) [] = Elapsed []
cut_wait (suc ticks) (Tick ∷ keys) = cut_wait ticks keys
cut_wait (suc ticks) (Byte byte ∷ keys) = Interrupted byte keys

-- a line, cut off from the keys
pub data LineCut : Type 0 where
  -- the keys ended before the line did: its bytes
  Unended : List ℕ → LineCut
  -- its bytes, the byte that ended it, and the keys after it
  Ended : List ℕ → ℕ → List Key → LineCut

-- the cut line with a byte more at its start
abbrev pub onto_line : ℕ → LineCut → LineCut
onto_line byte (Unended bytes) = Unended (byte ∷ bytes)
onto_line byte (Ended bytes by keys) = Ended (byte ∷ bytes) by keys

-- whether a byte finishes a line or an answer: a newline or a carriage return
abbrev pub is_enter_key : ℕ → Bool
is_enter_key byte = byte == 10 || byte == 13

-- whether a byte empties a line
abbrev pub is_erase_key : ℕ → Bool
is_erase_key byte = byte == 21

-- whether a byte that is a line's first asks for the list: a tab or a question mark
abbrev pub is_list_key : ℕ → Bool
is_list_key byte = byte == 9 || byte == 63

-- whether a byte ends a line, of which it is the first byte or a later one
abbrev pub ends_line : Bool → ℕ → Bool
ends_line first byte = is_enter_key byte || is_erase_key byte || (first && is_list_key byte)

-- the keys, cut after the byte that ends a line, whose first byte or a later one is next; ticks are passed over
abbrev pub cut_line : Bool → List Key → LineCut
cut_line first [] = Unended []
cut_line first (Tick ∷ keys) = cut_line first keys
cut_line first (Byte byte ∷ keys) =
    if ends_line first byte then Ended [] byte keys else onto_line byte (cut_line false keys)

-- an answer, cut off from the keys
pub data AnswerCut : Type 0 where
  -- no answer came: the keys that are left
  Missing : List Key → AnswerCut
  -- the bytes before the one that finished it, and the keys after it
  Given : List ℕ → List Key → AnswerCut

-- the cut answer with a byte more at its start
abbrev pub onto_answer : ℕ → AnswerCut → AnswerCut
onto_answer byte (Missing keys) = Missing keys
onto_answer byte (Given bytes keys) = Given (byte ∷ bytes) keys

-- how many ticks in a row end the wait for an answer
abbrev pub most_quiet_ticks : ℕ
most_quiet_ticks = 600

-- the keys, cut after the byte that finishes an answer, or where no answer comes: after so many ticks
-- in a row, of which some came already, or at their end
abbrev pub cut_answer : ℕ → List Key → AnswerCut
cut_answer quiet [] = Missing []
cut_answer quiet (Tick ∷ keys) =
    if suc quiet == most_quiet_ticks then Missing keys else cut_answer (suc quiet) keys
cut_answer quiet (Byte byte ∷ keys) =
    if is_enter_key byte then Given [] keys else onto_answer byte (cut_answer 0 keys)

-- The sector of a map that holds the default line: `LINE`, the state, the length, the text from byte 8 on.
-- This layout is the project's own.
use Rattle.std.specs.Prelude.{ℕ, ◌==◌, nat_le, Bool, not, ◌&&◌, if◌then◌else◌, List, ◌++◌, length, bytes_eq, codes, Result, Ok, Err}
use Rattle.lilo_model.specs.Bytes.{part_of, number16, bytes16, filled_bytes}
use Rattle.lilo_model.specs.BootSector.{MapFault, BadLine}
use Rattle.lilo_model.specs.DefaultLine.{DefaultLine, Empty, Once, Kept, line_text}

-- the most bytes of a line
abbrev pub line_capacity : ℕ
line_capacity = 255

-- whether the sector begins with LINE, its state and length are in their ranges, and there is a text
-- exactly where the state isn't 0
unfoldable pub is_line : List ℕ → Bool
is_line bytes =
    bytes_eq (part_of bytes 0 4) (codes "LINE")
    && nat_le (number16 bytes 4) 2
    && nat_le (number16 bytes 6) line_capacity
    && (if number16 bytes 4 == 0 then number16 bytes 6 == 0 else not (number16 bytes 6 == 0))

-- the line in a sector that has one
unfoldable pub line_of : List ℕ → DefaultLine
line_of bytes =
    if number16 bytes 4 == 0 then Empty else
    if number16 bytes 4 == 1 then Once (part_of bytes 8 (number16 bytes 6)) else
    Kept (part_of bytes 8 (number16 bytes 6))

-- what a sector says as that of the default line
unfoldable pub line_at : List ℕ → Result DefaultLine MapFault
line_at bytes = if is_line bytes then Ok (line_of bytes) else Err BadLine

-- the number of a line's state
abbrev pub state_number : DefaultLine → ℕ
state_number Empty = 0
state_number (Once text) = 1
state_number (Kept text) = 2

-- the sector of a line
unfoldable pub line_bytes : DefaultLine → List ℕ
line_bytes line =
    filled_bytes 512
    (codes "LINE" ++ bytes16 (state_number line) ++ bytes16 (length (line_text line)) ++ line_text line)

-- whether two lines are the same
unfoldable pub is_same_line : DefaultLine → DefaultLine → Bool
is_same_line line other =
    (state_number line == state_number other) && bytes_eq (line_text line) (line_text other)

-- Parts of a list of bytes, and the numbers in them, the lowest byte first (as the Linux/x86 boot protocol
-- and the IBM PC have them). An offset counts bytes from the start of the list.
use Rattle.std.specs.Prelude.{ℕ, ◌+◌, ◌-◌, ◌/◌, ◌%◌, ◌==◌, nat_le, Bool, ◌&&◌, if◌then◌else◌, List, [], ◌∷◌, ◌++◌, length, take, drop, replicate}
use Rattle.std.specs.List.{list_all, before_first}
use Rattle.std.specs.Int.{w16, w32, from_le_bytes, to_le_bytes}

-- the len bytes from an offset
abbrev pub part_of : List ℕ → ℕ → ℕ → List ℕ
part_of bytes at len = take len (drop at bytes)

-- the bytes with those from an offset replaced by as many others
abbrev pub with_part : List ℕ → ℕ → List ℕ → List ℕ
with_part bytes at new = take at bytes ++ (new ++ drop (length new) (drop at bytes))

-- the number in the two bytes from an offset
unfoldable pub number16 : List ℕ → ℕ → ℕ
number16 bytes at = from_le_bytes w16 (part_of bytes at 2)

-- the number in the four bytes from an offset
unfoldable pub number32 : List ℕ → ℕ → ℕ
number32 bytes at = from_le_bytes w32 (part_of bytes at 4)

-- a number as two bytes
abbrev pub bytes16 : ℕ → List ℕ
bytes16 number = to_le_bytes w16 number

-- a number as four bytes
abbrev pub bytes32 : ℕ → List ℕ
bytes32 number = to_le_bytes w32 number

-- bytes, and zeros after them up to a length
abbrev pub filled_bytes : ℕ → List ℕ → List ℕ
filled_bytes len bytes = bytes ++ replicate (len - length bytes) 0

-- whether all bytes are zero
unfoldable pub is_zero : List ℕ → Bool
is_zero bytes = list_all (λ byte. byte == 0) bytes

-- whether a number lies between two others, or is one of them
abbrev pub is_between : ℕ → ℕ → ℕ → Bool
is_between low high number = nat_le low number && nat_le number high

-- the bytes before the first zero byte of a field
abbrev pub name_in : List ℕ → ℕ → ℕ → List ℕ
name_in bytes at len = before_first (λ byte. byte == 0) (part_of bytes at len)

-- a digit of 0 to 15 as a lower-case hexadecimal one
abbrev pub hex_digit : ℕ → ℕ
hex_digit digit = if nat_le digit 9 then digit + 48 else digit + 87

-- a byte as two hexadecimal digits
abbrev pub hex_byte : ℕ → List ℕ
hex_byte byte = hex_digit (byte / 16) ∷ (hex_digit (byte % 16) ∷ [])

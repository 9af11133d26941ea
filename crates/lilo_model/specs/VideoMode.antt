-- The video modes that a word names. The names follow LILO's manners; that a number may also be
-- hexadecimal, and how far it goes, are rules of this project's own.
use Rattle.std.specs.Prelude.{ℕ, List, [], ◌∷◌, drop, Option, None, Some, nat_le, nat_eq, if◌then◌else◌, codes}
use Rattle.std.specs.List.{list_all, starts_with}
use Rattle.std.specs.Char.{is_digit}
use Rattle.std.specs.Str.{bytes_eq}
use Rattle.std.specs.Str.Parse.{digits_value}

-- the number that one or more digits of this radix write
abbrev pub numeral_value : ℕ → List ℕ → Option ℕ
numeral_value radix [] = None
numeral_value radix (digit ∷ digits) =
    if list_all (λ c. is_digit c radix) (digit ∷ digits) then Some (digits_value radix (digit ∷ digits)) else None

-- the number that a text writes: in decimal, or in hexadecimal after `0x`
abbrev pub written_number : List ℕ → Option ℕ
written_number text = if starts_with nat_eq text (codes "0x") then numeral_value 16 (drop 2 text) else numeral_value 10 text

-- the number, where it is one that a mode can have
abbrev pub mode_number : Option ℕ → Option ℕ
mode_number None = None
mode_number (Some number) = if nat_le number 65535 then Some number else None

-- the video mode that a text names
abbrev pub video_mode : List ℕ → Option ℕ
video_mode text =
    if bytes_eq text (codes "normal") then Some 0xFFFF
    else (if bytes_eq text (codes "ext") then Some 0xFFFE
    else (if bytes_eq text (codes "extended") then Some 0xFFFE
    else (if bytes_eq text (codes "ask") then Some 0xFFFD
    else mode_number (written_number text))))

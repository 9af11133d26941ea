-- What the bytes of a line or of an answer come to: folds by appending and removing. That 8 and 127
-- remove, and how a removal is shown, follow LILO's manners; which bytes are taken, and how many, are
-- rules of this project's own.
use Rattle.std.specs.Prelude.{ℕ, ◌-◌, List, [], ◌∷◌, ◌++◌, length, take, fold, Bool, ◌&&◌, ◌||◌, ◌==◌, nat_le, nat_lt, if◌then◌else◌, Option, None, Some}

-- whether a byte can be in a line
abbrev pub is_printable : ℕ → Bool
is_printable byte = nat_le 32 byte && nat_le byte 126

-- whether a byte removes the one before it
abbrev pub is_removal : ℕ → Bool
is_removal byte = byte == 8 || byte == 127

-- a text without its last byte
abbrev pub without_last : List ℕ → List ℕ
without_last text = take (length text - 1) text

-- a line's text after one byte more, where it may have so many
abbrev pub text_after_byte : ℕ → List ℕ → ℕ → List ℕ
text_after_byte capacity text byte =
    if is_removal byte then without_last text
    else (if is_printable byte && nat_lt (length text) capacity then text ++ (byte ∷ []) else text)

-- a line's text after more bytes
abbrev pub text_after : ℕ → List ℕ → List ℕ → List ℕ
text_after capacity text bytes = fold (text_after_byte capacity) text bytes

-- how a removal is shown: back, a space over the byte, back
abbrev pub erasing_text : List ℕ
erasing_text = 8 ∷ 32 ∷ 8 ∷ []

-- what a removal shows at a text
abbrev pub removal_echo : List ℕ → List ℕ
removal_echo [] = []
removal_echo (_ ∷ _) = erasing_text

-- what a byte shows at a line's text
abbrev pub echo_of : ℕ → List ℕ → ℕ → List ℕ
echo_of capacity text byte =
    if is_removal byte then removal_echo text
    else (if is_printable byte && nat_lt (length text) capacity then byte ∷ [] else [])

-- what more bytes show at a line's text
abbrev pub echoes : ℕ → List ℕ → List ℕ → List ℕ
echoes capacity text [] = []
echoes capacity text (byte ∷ bytes) = echo_of capacity text byte ++ echoes capacity (text_after_byte capacity text byte) bytes

-- the most bytes of an answer
abbrev pub answer_capacity : ℕ
answer_capacity = 31

-- an answer after one byte more; nothing where it was or becomes too long
abbrev pub answer_after_byte : Option (List ℕ) → ℕ → Option (List ℕ)
answer_after_byte None byte = None
answer_after_byte (Some answer) byte =
    if is_removal byte then Some (without_last answer)
    else (if is_printable byte then (if nat_lt (length answer) answer_capacity then Some (answer ++ (byte ∷ [])) else None)
    else Some answer)

-- an answer after more bytes; nothing where it became too long on the way
abbrev pub answer_after : Option (List ℕ) → List ℕ → Option (List ℕ)
answer_after answer bytes = fold answer_after_byte answer bytes

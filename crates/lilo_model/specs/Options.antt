-- The sectors of a map that hold an entry's texts: the options sector, with the middle of its command line,
-- and the extra sector, with its fallback and its password. Both layouts are this project's own.
use Rattle.std.specs.Prelude.{ℕ, ◌&&◌, nat_le, if◌then◌else◌, List, ◌++◌, length, replicate, Result, Ok, Err}
use Rattle.lilo_model.specs.Bytes.{part_of, number16, bytes16, filled_bytes}
use Rattle.lilo_model.specs.BootSector.{MapFault, BadTable}

-- the texts of an extra sector
pub record Extra : Type 0 where
  pub fallback : List ℕ
  pub password : List ℕ

-- the most bytes of a middle text, and of a fallback
abbrev pub text_limit : ℕ
text_limit = 255

-- the most bytes of a password
abbrev pub password_limit : ℕ
password_limit = 31

-- the middle text in an options sector, unless its length passes the limit
unfoldable pub options_at : List ℕ → Result (List ℕ) MapFault
options_at bytes =
    if nat_le (number16 bytes 0) text_limit
    then Ok (part_of bytes 8 (number16 bytes 0))
    else Err (BadTable 255)

-- the texts in an extra sector, unless a length passes its limit
unfoldable pub extra_at : List ℕ → Result Extra MapFault
extra_at bytes =
    if nat_le (number16 bytes 0) text_limit && nat_le (number16 bytes 2) password_limit
    then Ok (record { fallback = part_of bytes 4 (number16 bytes 0); password = part_of bytes 480 (number16 bytes 2) })
    else Err (BadTable 255)

-- the options sector of a middle text
unfoldable pub options_bytes : List ℕ → List ℕ
options_bytes middle = filled_bytes 512 (bytes16 (length middle) ++ replicate 6 0 ++ middle)

-- the extra sector of a fallback and a password
unfoldable pub extra_bytes : Extra → List ℕ
extra_bytes extra =
    filled_bytes 512
    (filled_bytes 480 (bytes16 (length extra.fallback) ++ bytes16 (length extra.password) ++ extra.fallback)
    ++ extra.password)

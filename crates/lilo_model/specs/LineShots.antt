-- What `-R` writes: the default line for one boot, or none (after LILO's manners; the checks and their order are this
-- project's own).
use Rattle.std.specs.Prelude.{◌≡◌, ℕ, nat_le, min, List, [], ◌∷◌, length, Result, Ok, Err}
use Rattle.lilo_model.specs.Checks.{◌>>=◌, require, with_fault}
use Rattle.lilo_model.specs.Disks.{Image, Machine, Span, DiskSector}
use Rattle.lilo_model.specs.Slots.{place_at}
use Rattle.lilo_model.specs.BootSector as maps
use Rattle.lilo_model.specs.BootSector.{BootSector, MapFault, boot_at}
use Rattle.lilo_model.specs.DefaultLine.{DefaultLine, Empty, Once}
use Rattle.lilo_model.specs.LineSector.{line_capacity, line_at}

-- a default line that a sector of the map can say
abbrev pub IsAllowedLine : DefaultLine → Type 0
IsAllowedLine line = (bytes : List ℕ) × (line_at bytes ≡ Ok line)

-- why a line isn't written
pub data ShotFault : Type 0 where
  -- the boot sector is of another system
  NotOurs : ShotFault
  -- the line has so many bytes
  LineTooLong : (size : ℕ) → ShotFault
  -- a field of the boot sector breaks the format
  BadTable : (entry : ℕ) → ShotFault
  -- the slot of the line names no sector
  NotFound : ShotFault

-- the line that a text makes: one for one boot, or none
abbrev pub shot_line : List ℕ → DefaultLine
shot_line [] = Empty
shot_line (byte ∷ text) = Once (byte ∷ text)

-- a text isn't too long for a line; a length past 32 bits is reported as the greatest number of them
abbrev pub length_check : List ℕ → Result (Unit {0}) ShotFault
length_check text = require (nat_le (length text) line_capacity) (LineTooLong (min (length text) 0xFFFFFFFF))

-- the length of a line is judged after whether a boot sector is of this format, and before its fields
abbrev pub judged_boot : List ℕ → Result BootSector MapFault → Result BootSector ShotFault
judged_boot text (Ok boot) = length_check text >>= λ a. Ok boot
judged_boot text (Err (maps.BadTable entry)) = length_check text >>= λ a. Err (BadTable entry)
judged_boot text (Err maps.NotOurs) = Err NotOurs
judged_boot text (Err (maps.BadVersion version)) = Err NotOurs
judged_boot text (Err maps.BadLine) = Err NotOurs

-- where the line of a text is written, by the boot sector at the start of a span, or the first refusal
unfoldable pub shot_place : Image → Machine → Span → List ℕ → Result DiskSector ShotFault
shot_place image machine span text = do
  boot ← judged_boot text (boot_at (image span.disk span.start))
  with_fault (λ fault. NotFound) (place_at machine boot.line 0)

-- What is written of a map is read again, as laws.
use Rattle.std.specs.Prelude.{◌≡◌, ◌≤◌, ℕ, List, length, All, Option, IfSome, Ok}
use Rattle.lilo_model.specs.Bytes.{part_of}
use Rattle.lilo_model.specs.BootSector.{BootSector, boot_at, merged_sector}
use Rattle.lilo_model.specs.Table.{Descriptor, table_at}
use Rattle.lilo_model.specs.Plan.{sectors_of_table}
use Rattle.lilo_model.specs.Options.{Extra, text_limit, password_limit, options_at, options_bytes, extra_at, extra_bytes}
use Rattle.lilo_model.specs.DefaultLine.{DefaultLine}
use Rattle.lilo_model.specs.LineSector.{line_at, line_bytes}
use Rattle.lilo_model.specs.Slots.{Slot}
use Rattle.lilo_model.specs.Section.{slot_parts, link_at, section_bytes}
use Rattle.lilo_model.specs.Lays.{slots_of}
use Rattle.sector_address.specs.Whole.{IsSlot}
use Rattle.map_again_laws.specs.Fits.{IsOneSlot, FitsBoot, FitEntries, HaveNames, IsLine}

-- a boot sector, whatever else the sector has
abbrev pub BootAgainLaw : Type 0
BootAgainLaw =
    (boot : BootSector) (code present : List ℕ) → FitsBoot boot
    → length (part_of code 128 312) ≡ 312 → length (part_of present 440 70) ≡ 70
    → boot_at (merged_sector boot code present) ≡ Ok boot

-- the entries of a table, no two of one name
abbrev pub TableAgainLaw : Type 0
TableAgainLaw =
    (entries : List Descriptor) → FitEntries entries → HaveNames entries → length entries ≤ 24
    → table_at (length entries) (sectors_of_table entries) ≡ Ok entries

-- a middle text
abbrev pub OptionsAgainLaw : Type 0
OptionsAgainLaw = (middle : List ℕ) → length middle ≤ text_limit → options_at (options_bytes middle) ≡ Ok middle

-- a fallback and a password
abbrev pub ExtraAgainLaw : Type 0
ExtraAgainLaw =
    (extra : Extra) → length extra.fallback ≤ text_limit → length extra.password ≤ password_limit
    → extra_at (extra_bytes extra) ≡ Ok extra

-- a default line
abbrev pub LineAgainLaw : Type 0
LineAgainLaw = (line : DefaultLine) → IsLine line → line_at (line_bytes line) ≡ Ok line

-- the slots of a section sector, at most 63
abbrev pub SlotsAgainLaw : Type 0
SlotsAgainLaw =
    (slots : List Slot) (link : Option Slot) → All IsSlot slots → length slots ≤ 63
    → slots_of (slot_parts (section_bytes slots link)) ≡ slots

-- its link, a slot of one sector
abbrev pub LinkAgainLaw : Type 0
LinkAgainLaw =
    (number : ℕ) (slots : List Slot) (link : Option Slot) → length slots ≤ 63 → IfSome link IsOneSlot
    → link_at number (section_bytes slots link) ≡ Ok link

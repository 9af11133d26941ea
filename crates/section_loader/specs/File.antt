-- What the steps of reading a file give.
use Rattle.std.specs.Prelude.{◌≡◌, ◌<◌, ◌≤◌, ◌-◌, ℕ, List, [], take, Option, None, Some, Result, Ok, Err, IsErr}
use Rattle.disk_trait.specs.declared.disks.Disks.{Ghosts}
use Rattle.lilo_model.specs.Disks.{Image, Machine, DiskSector}
use Rattle.lilo_model.specs.Slots as slots
use Rattle.lilo_model.specs.Slots.{place_at}
use Rattle.lilo_model.specs.Section.{sectors_for}
use Rattle.lilo_model.specs.Reason.{NotFound}
use Rattle.bios_model.specs.Machine.{sector_bytes_at}
use Rattle.sector_address.specs.Machine.{OnDisks}
use Rattle.sector_address.specs.View.{slot_view}
use Rattle.sector_address.specs.declared.slot.Slot.{Slot}
use Rattle.map_section.specs.Reader.{ReaderState, fed, turns_left}
use Rattle.section_loader.specs.declared.reason.Halt.{Halt}
use Rattle.section_loader.specs.declared.reason.Halt.TheVariants.{Device, Refused}
use Rattle.section_loader.specs.declared.file.FileReader.{FileReader}
use Rattle.section_loader.specs.Reading.{Reading, ended_reading, reading_slot, reading_sector, FileRest, rest_ahead, rest_behind}
use Rattle.section_loader.specs.View.{reason_view}

-- how many sectors are left of the slot at hand
abbrev pub held_in : FileReader → ℕ
held_in file = file.slot.count - file.index

-- as many sectors are needed after the slot at hand as the bytes that are left take, and the first section sector has a
-- slot of its own
pub record IsCounted (file : FileReader) : Type 0 where
  pub needed : file.section.needed ≡ sectors_for file.left - held_in file
  pub one : file.first.count ≡ 1

-- none is left of the slot at hand
abbrev pub IsSpent : FileReader → Type 0
IsSpent file = file.slot.count ≤ file.index

-- one is left of it at least
pub record HasNext (file : FileReader) : Type 0 where
  pub some : file.index < file.slot.count
  pub few : file.slot.count ≤ 255

-- what is left of a file
abbrev pub rest_in : Image → Machine → FileReader → FileRest
rest_in image machine file =
    rest_ahead image machine (slot_view file.first) file.left (slot_view file.slot) file.index (held_in file) file.section

-- a fact about what was left of a file and what is left now, where the disks report their past
abbrev pub OnFile : {D : Type 0} → Ghosts D → D → FileReader → FileReader → (FileRest → FileRest → Type 0) → Type 0
OnFile g disks old new P = OnDisks g disks (λ now machine. P (rest_in now machine old) (rest_in now machine new))

-- how many sectors are needed after a turn, and that fewer turns are left
abbrev pub Counts : Option Slot → ReaderState → ReaderState → Type 0
Counts (Some slot) old new = (1 ≤ slot.count) × (new.needed ≡ old.needed - slot.count)
Counts None old new = (new.needed ≡ old.needed) × (turns_left new < turns_left old)

-- what is read from a turn on
abbrev pub Turns : Machine → ℕ → Result (Option Slot) Halt → Reading → (ℕ → Reading) → Type 0
Turns machine wanted (Ok (Some slot)) ahead behind = ahead ≡ reading_slot machine (slot_view slot) wanted (behind (wanted - slot.count))
Turns machine wanted (Ok None) ahead behind = ahead ≡ behind wanted
Turns machine wanted (Err Device) ahead behind = Unit {0}
Turns machine wanted (Err (Refused reason)) ahead behind = ahead ≡ ended_reading (Some (reason_view reason))

-- what is read at a slot that is named
abbrev pub Names : Machine → ℕ → Result Slot Halt → Reading → (ℕ → Reading) → Type 0
Names machine wanted (Ok slot) ahead behind = ahead ≡ reading_slot machine (slot_view slot) wanted (behind (wanted - slot.count))
Names machine wanted (Err Device) ahead behind = Unit {0}
Names machine wanted (Err (Refused reason)) ahead behind = ahead ≡ ended_reading (Some (reason_view reason))

-- what was read of a file, and what is left of it
abbrev pub Yields : Result ℕ Halt → FileRest → List ℕ → FileRest → Type 0
Yields (Ok size) old sector new = old ≡ rest_behind (take size sector) new
Yields (Err Device) old sector new = Unit {0}
Yields (Err (Refused reason)) old sector new = old ≡ record { bytes = []; stop = Some (reason_view reason) }

-- what is left of a file is the same, or what is refused is in place of it
abbrev pub KeepsRest : Result (Unit {0}) Halt → FileRest → FileRest → Type 0
KeepsRest (Ok done) old new = old ≡ new
KeepsRest (Err Device) old new = Unit {0}
KeepsRest (Err (Refused reason)) old new = old ≡ record { bytes = []; stop = Some (reason_view reason) }

-- a reader was fed a section sector
abbrev pub IsFed : ReaderState → ReaderState → Type 0
IsFed old new = (bytes : List ℕ) × (new ≡ fed old bytes)

-- what is read once a reader was fed the section sector at a place
abbrev pub FindsSector : Image → Result (Option Slot) Halt → Result DiskSector slots.AddressFault → ReaderState → ReaderState → Type 0
FindsSector image (Ok _) found old new = (behind : ReaderState → Reading) → reading_sector image behind old found ≡ behind new
FindsSector image (Err Device) found old new = Unit {0}
FindsSector image (Err (Refused reason)) found old new =
    (behind : ReaderState → Reading) → reading_sector image behind old found ≡ ended_reading (Some (reason_view reason))

-- what is read of a slot at an index
abbrev pub ReadsAt : Image → Machine → slots.Slot → ℕ → Result (Unit {0}) Halt → List ℕ → Type 0
ReadsAt image machine slot index (Ok done) bytes = sector_bytes_at image machine slot index ≡ Ok bytes
ReadsAt image machine slot index (Err Device) bytes = Unit {0}
ReadsAt image machine slot index (Err (Refused reason)) bytes =
    IsErr (place_at machine slot index) × (reason_view reason ≡ NotFound)

-- what is read at a slot of one sector
abbrev pub ReadsOne : Image → Machine → slots.Slot → Result (Unit {0}) Halt → List ℕ → Type 0
ReadsOne image machine slot result bytes = ReadsAt image machine slot 0 result bytes

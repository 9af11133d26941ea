-- How a file is read by the sectors that its section names, one after the other (this project's own): a reader of the
-- section is run over what the disks hold. What is read from the file's start on is the model's content.
use Rattle.std.specs.Prelude.{ℕ, zero, suc, ◌+◌, ◌-◌, min, List, [], ◌∷◌, ◌++◌, map, take, Option, None, Some, Result, Ok, Err}
use Rattle.std.specs.Option.{option_map}
use Rattle.std.specs.List.{concat}
use Rattle.lilo_model.specs.Disks.{Image, Machine, DiskSector, bytes_at}
use Rattle.lilo_model.specs.Slots as slots
use Rattle.lilo_model.specs.Slots.{place_at}
use Rattle.lilo_model.specs.Section.{SectionFault, Content, sectors_for}
use Rattle.lilo_model.specs.Reason.{Reason, NotFound, section_reason}
use Rattle.map_section.specs.Reader.{Ask, Slot, Sector, First, Done, ReaderState, next_of, fed, turns_left}

-- sectors, and what is in place of further ones
pub record Reading : Type 0 where
  pub places : List DiskSector
  pub stop : Option Reason

-- a reading without a sector
abbrev pub ended_reading : Option Reason → Reading
ended_reading stop = record { places = []; stop = stop }

-- a reading that is refused as a slot names no sector
abbrev pub lost_reading : Reading
lost_reading = ended_reading (Some NotFound)

-- a sector, and what is read after it
abbrev pub reading_place : Reading → Result DiskSector slots.AddressFault → Reading
reading_place behind (Ok place) = record behind { places = place ∷ behind.places }
reading_place behind (Err fault) = lost_reading

-- so many sectors of a slot, from an index on, and what is read after them
abbrev pub reading_named : Machine → slots.Slot → ℕ → ℕ → Reading → Reading
reading_named machine slot index zero behind = behind
reading_named machine slot index (suc more) behind =
    reading_place (reading_named machine slot (index + 1) more behind) (place_at machine slot index)

-- the sectors of a slot, as many as are wanted, and what is read after them
abbrev pub reading_slot : Machine → slots.Slot → ℕ → Reading → Reading
reading_slot machine slot wanted behind = reading_named machine slot 0 (min slot.count wanted) behind

-- what is read once the reader is fed a section sector
abbrev pub reading_sector : Image → (ReaderState → Reading) → ReaderState → Result DiskSector slots.AddressFault → Reading
reading_sector image behind state (Ok place) = behind (fed state (bytes_at image place))
reading_sector image behind state (Err fault) = lost_reading

-- what is read from an answer of the reader on, where so many sectors are wanted
abbrev pub reading_answer : Image → Machine → slots.Slot → ℕ → (ℕ → ReaderState → Reading) → ReaderState → Result Ask SectionFault → Reading
reading_answer image machine first wanted behind state (Err fault) = ended_reading (Some (section_reason fault))
reading_answer image machine first wanted behind state (Ok Done) = ended_reading None
reading_answer image machine first wanted behind state (Ok First) =
    reading_sector image (behind wanted) state (place_at machine first 0)
reading_answer image machine first wanted behind state (Ok (Sector link)) =
    reading_sector image (behind wanted) state (place_at machine link 0)
reading_answer image machine first wanted behind state (Ok (Slot slot)) =
    reading_slot machine slot wanted (behind (wanted - slot.count) state)

-- what is read in so many turns of the reader, where so many sectors are wanted
abbrev pub reading_turns : Image → Machine → slots.Slot → ℕ → ℕ → ReaderState → Reading
reading_turns image machine first zero wanted state = ended_reading None
reading_turns image machine first (suc turns) wanted state =
    reading_answer image machine first wanted (reading_turns image machine first turns) (next_of state).state (next_of state).answer

-- what is read where a reader is
unfoldable pub reading_ahead : Image → Machine → slots.Slot → ℕ → ReaderState → Reading
reading_ahead image machine first wanted state = reading_turns image machine first (suc (turns_left state)) wanted state

-- the bytes that are left of a file, and what is in place of further ones
pub record FileRest : Type 0 where
  pub bytes : List ℕ
  pub stop : Option Reason

-- the bytes in a reading's sectors, of which so many are left
abbrev pub rest_of : Image → ℕ → Reading → FileRest
rest_of image left reading = record {
  bytes = take left (concat (map (bytes_at image) reading.places));
  stop = reading.stop;
}

-- what is left of a file of which so many sectors of a slot are left, from an index on, where a reader of its section
-- comes after that slot
abbrev pub rest_ahead : Image → Machine → slots.Slot → ℕ → slots.Slot → ℕ → ℕ → ReaderState → FileRest
rest_ahead image machine first left slot index held state =
    rest_of image left
    (reading_named machine slot index (min held (sectors_for left)) (reading_ahead image machine first (sectors_for left - held) state))

-- the same of a file of which nothing is read yet
abbrev pub content_rest : Content → FileRest
content_rest content = record { bytes = content.bytes; stop = option_map section_reason content.refusal }

-- some bytes, and what is left after them
abbrev pub rest_behind : List ℕ → FileRest → FileRest
rest_behind bytes rest = record rest { bytes = bytes ++ rest.bytes }

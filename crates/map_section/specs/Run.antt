-- A reader that is run over an image: each section sector that it asks for is fed to it, and each slot that it
-- names is looked up.
use Rattle.std.specs.Prelude.{ℕ, zero, suc, ◌+◌, ◌-◌, min, None, Some, Result, Ok, Err}
use Rattle.lilo_model.specs.Disks.{Image, Machine, DiskSector, bytes_at}
use Rattle.lilo_model.specs.Section.{SectionFault, NotFound, Listing, with_place, with_looked, ended_listing}
use Rattle.lilo_model.specs.Slots as slots
use Rattle.lilo_model.specs.Slots.{place_at}
use Rattle.map_section.specs.Reader.{Ask, Slot, Sector, First, Done, ReaderState, next_of, fed}

-- a place that a slot names, and what is listed after it
abbrev pub listed_place : Listing → Result DiskSector slots.AddressFault → Listing
listed_place behind (Ok place) = with_place place behind
listed_place behind (Err fault) = ended_listing (Some NotFound)

-- the places of so many sectors of a slot, from an index on, and what is listed after them
abbrev pub listed_slot : Machine → slots.Slot → ℕ → ℕ → Listing → Listing
listed_slot machine slot index zero behind = behind
listed_slot machine slot index (suc more) behind =
    listed_place (listed_slot machine slot (index + 1) more behind) (place_at machine slot index)

-- a section sector that is looked at, and what is listed once the reader is fed it
abbrev pub listed_sector : Image → (ReaderState → Listing) → ReaderState → Result DiskSector slots.AddressFault → Listing
listed_sector image behind state (Ok place) = with_looked place (behind (fed state (bytes_at image place)))
listed_sector image behind state (Err fault) = ended_listing (Some NotFound)

-- what is listed from an answer on, where so many sectors are wanted
abbrev pub listed_answer : Image → Machine → slots.Slot → ℕ → (ℕ → ReaderState → Listing) → ReaderState → Result Ask SectionFault → Listing
listed_answer image machine first wanted behind state (Err fault) = ended_listing (Some fault)
listed_answer image machine first wanted behind state (Ok Done) = ended_listing None
listed_answer image machine first wanted behind state (Ok First) =
    listed_sector image (behind wanted) state (place_at machine first 0)
listed_answer image machine first wanted behind state (Ok (Sector link)) =
    listed_sector image (behind wanted) state (place_at machine link 0)
listed_answer image machine first wanted behind state (Ok (Slot slot)) =
    listed_slot machine slot 0 (min slot.count wanted) (behind (wanted - slot.count) state)

-- what a reader lists in so many turns, where so many sectors are wanted
abbrev pub run_reader : Image → Machine → slots.Slot → ℕ → ℕ → ReaderState → Listing
run_reader image machine first zero wanted state = ended_listing None
run_reader image machine first (suc turns) wanted state =
    listed_answer image machine first wanted (run_reader image machine first turns) (next_of state).state (next_of state).answer

-- A section lists the sectors of a file: section sectors of 63 slots each, joined by links. This format is
-- the project's own.
use Rattle.std.specs.Prelude.{ℕ, zero, suc, ◌+◌, ◌*◌, ◌/◌, ◌==◌, if◌then◌else◌, List, [], ◌∷◌, ◌++◌, map, Option, None, Some, Result, Ok, Err, take}
use Rattle.std.specs.List.{concat, range_with_len}
use Rattle.lilo_model.specs.Bytes.{part_of, filled_bytes}
use Rattle.lilo_model.specs.Disks.{Image, Machine, DiskSector, bytes_at}
use Rattle.lilo_model.specs.Slots as slots
use Rattle.lilo_model.specs.Slots.{Slot, slot_at, slot_bytes, optional_bytes, place_at}

-- why a section is refused
pub data SectionFault : Type 0 where
  -- eight bytes are no slot, or those of a link no slot of one sector; the place counts 64 a section sector
  BadSlot : (place : ℕ) → SectionFault
  -- more sectors are needed, and a link comes after as many section sectors as there may be
  ChainTooLong : (chain : ℕ) → SectionFault
  -- more sectors are needed, and the section ends after so many
  ShortChain : (sectors : ℕ) → SectionFault
  -- a slot names no sector
  NotFound : SectionFault

-- what is met along a section, in order
pub data Step : Type 0 where
  -- a section sector
  Reads : DiskSector → Step
  -- a sector that a slot names
  Names : DiskSector → Step
  -- a refusal
  Refuses : SectionFault → Step

-- what a section gives
pub record Listing : Type 0 where
  -- the sectors that its slots name
  pub places : List DiskSector
  -- the section sectors that are looked at for them
  pub looked : List DiskSector
  -- what is met in place of more sectors, where more are needed
  pub refusal : Option SectionFault

-- ---- the steps along a section

-- the step at one sector of a slot
abbrev pub sector_step : Result DiskSector slots.AddressFault → Step
sector_step (Ok place) = Names place
sector_step (Err fault) = Refuses NotFound

-- the steps at a slot, one for each of its sectors
abbrev pub slot_steps : Machine → Slot → List Step
slot_steps machine slot =
    map (λ index. sector_step (place_at machine slot index)) (range_with_len 0 slot.count)

-- the steps at what is at a place for a slot, and after it
abbrev pub slot_steps_then : Machine → ℕ → Result (Option Slot) slots.AddressFault → List Step → List Step
slot_steps_then machine place (Ok None) behind = []
slot_steps_then machine place (Ok (Some slot)) behind = slot_steps machine slot ++ behind
slot_steps_then machine place (Err fault) behind = Refuses (BadSlot place) ∷ []

-- the steps at slots, of which the first is at a place, up to a zero one
abbrev pub slots_steps : Machine → ℕ → List (List ℕ) → List Step
slots_steps machine place [] = []
slots_steps machine place (part ∷ parts) =
    slot_steps_then machine place (slot_at part) (slots_steps machine (place + 1) parts)

-- the bytes of the 63 slots of a section sector
abbrev pub slot_parts : List ℕ → List (List ℕ)
slot_parts bytes = map (λ index. part_of bytes (8 * index) 8) (range_with_len 0 63)

-- a link: none at the end of the chain, or a slot of one sector
abbrev pub link_of : ℕ → Result (Option Slot) slots.AddressFault → Result (Option Slot) SectionFault
link_of number (Ok None) = Ok None
link_of number (Ok (Some slot)) =
    if slot.count == 1 then Ok (Some slot) else Err (BadSlot (number * 64 + 63))
link_of number (Err fault) = Err (BadSlot (number * 64 + 63))

-- the link in the last eight bytes of a section sector
unfoldable pub link_at : ℕ → List ℕ → Result (Option Slot) SectionFault
link_at number bytes = link_of number (slot_at (part_of bytes 504 8))

-- the steps at a section sector, with those after its link
abbrev pub sector_steps : Image → Machine → ℕ → (Result (Option Slot) SectionFault → List Step) → Result DiskSector slots.AddressFault → List Step
sector_steps image machine number behind (Ok place) =
    Reads place
    ∷ (slots_steps machine (number * 64) (slot_parts (bytes_at image place))
    ++ behind (link_at number (bytes_at image place)))
sector_steps image machine number behind (Err fault) = Refuses NotFound ∷ []

-- the steps after a link
abbrev pub link_steps : (Slot → List Step) → Result (Option Slot) SectionFault → List Step
link_steps follow (Ok None) = []
link_steps follow (Ok (Some slot)) = follow slot
link_steps follow (Err fault) = Refuses fault ∷ []

-- the steps along a chain of at most so many section sectors more, from a link on
abbrev pub chain_steps : Image → Machine → ℕ → ℕ → ℕ → Slot → List Step
chain_steps image machine chain number zero link = Refuses (ChainTooLong chain) ∷ []
chain_steps image machine chain number (suc more) link =
    sector_steps
    image
    machine
    number
    (link_steps (chain_steps image machine chain (number + 1) more))
    (place_at machine link 0)

-- ---- the section

-- a listing with one more sector at its head
abbrev pub with_place : DiskSector → Listing → Listing
with_place place listing = record listing { places = place ∷ listing.places }

-- a listing with one more section sector at its head
abbrev pub with_looked : DiskSector → Listing → Listing
with_looked place listing = record listing { looked = place ∷ listing.looked }

-- a listing that ends
abbrev pub ended_listing : Option SectionFault → Listing
ended_listing refusal = record { places = []; looked = []; refusal = refusal }

-- the first of the sectors that steps name, as many as are needed, where some are given already
abbrev pub listing_of : ℕ → ℕ → List Step → Listing
listing_of given zero steps = ended_listing None
listing_of given (suc needed) [] = ended_listing (Some (ShortChain given))
listing_of given (suc needed) (Reads place ∷ steps) = with_looked place (listing_of given (suc needed) steps)
listing_of given (suc needed) (Names place ∷ steps) = with_place place (listing_of (given + 1) needed steps)
listing_of given (suc needed) (Refuses fault ∷ steps) = ended_listing (Some fault)

-- Section: the sectors of a file, as many as are needed, that the slots name along the links, in at most
-- chain section sectors from the one at a slot
unfoldable pub section : Image → Machine → Slot → ℕ → ℕ → Listing
section image machine first sectors chain =
    listing_of 0 sectors (chain_steps image machine chain 0 chain first)

-- how many sectors some bytes take
abbrev pub sectors_for : ℕ → ℕ
sectors_for len = (len + 511) / 512

-- the bytes of a file up to where its section is refused
pub record Content : Type 0 where
  pub bytes : List ℕ
  pub refusal : Option SectionFault

-- the bytes of listed sectors, of which the file has so many
abbrev pub content_of : Image → ℕ → Listing → Content
content_of image len listing = record {
  bytes = take len (concat (map (bytes_at image) listing.places));
  refusal = listing.refusal;
}

-- the listing of a file with so many bytes
abbrev pub file_listing : Image → Machine → Slot → ℕ → ℕ → Listing
file_listing image machine first len chain = section image machine first (sectors_for len) chain

-- the bytes of such a file
unfoldable pub file_content : Image → Machine → Slot → ℕ → ℕ → Content
file_content image machine first len chain =
    content_of image len (file_listing image machine first len chain)

-- the section sector with some slots, at most 63, and a link
unfoldable pub section_bytes : List Slot → Option Slot → List ℕ
section_bytes slots link = filled_bytes 504 (concat (map slot_bytes slots)) ++ optional_bytes link

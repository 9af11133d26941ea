-- What is read of a file is the model's content.
use Rattle.std.proofs.Common.{◌≡◌, ℕ, zero, suc, ◌+◌, ◌-◌, ◌<◌, ◌≤◌, ◌==◌, min, false, refl, ◌∙◌, ap, List, map, length, option_map, Result, Ok, Err, arith, length-take}
use Rattle.std.specs.List.{concat}
use Rattle.lilo_model.specs.Disks.{Image, Machine, DiskSector, bytes_at}
use Rattle.lilo_model.specs.Slots as slots
use Rattle.lilo_model.specs.Slots.{place_at}
use Rattle.lilo_model.specs.Section.{SectionFault, Listing, section, sectors_for, file_content}
use Rattle.lilo_model.specs.Reason.{section_reason}
use Rattle.map_section.specs.Reader.{Ask, Slot, Sector, First, Done, ReaderState, begun, next_of, fed, turns_left}
use Rattle.map_section.specs.Run.{listed_place, listed_slot, listed_sector, listed_answer, run_reader}
use Rattle.map_section.proofs.RunLemmas.{section_law}
use Rattle.section_loader.specs.Reading.{Reading, reading_place, reading_named, reading_sector, reading_answer, reading_turns, reading_ahead, rest_of, content_rest}

-- what is read beside what is listed
abbrev read_of : Listing → Reading
read_of listing = record { places = listing.places; stop = option_map section_reason listing.refusal }

place_reads :
    (listing : Listing) (found : Result DiskSector slots.AddressFault)
    → reading_place (read_of listing) found ≡ read_of (listed_place listing found)
place_reads listing (Ok place) = refl
place_reads listing (Err fault) = refl

named_reads :
    (machine : Machine) (slot : slots.Slot) (index count : ℕ) (reading : Reading) (listing : Listing) → reading ≡ read_of listing
    → reading_named machine slot index count reading ≡ read_of (listed_slot machine slot index count listing)
named_reads machine slot index zero reading listing same = same
named_reads machine slot index (suc more) reading listing same =
    ap (λ r. reading_place r (place_at machine slot index)) (named_reads machine slot (index + 1) more reading listing same)
    ∙ place_reads (listed_slot machine slot (index + 1) more listing) (place_at machine slot index)

sector_reads :
    (image : Image) (read : ReaderState → Reading) (list : ReaderState → Listing)
    → ((state : ReaderState) → read state ≡ read_of (list state))
    → (state : ReaderState) (found : Result DiskSector slots.AddressFault)
    → reading_sector image read state found ≡ read_of (listed_sector image list state found)
sector_reads image read list same state (Ok place) = same (fed state (bytes_at image place))
sector_reads image read list same state (Err fault) = refl

answer_reads :
    (image : Image) (machine : Machine) (first : slots.Slot) (wanted : ℕ)
    (read : ℕ → ReaderState → Reading) (list : ℕ → ReaderState → Listing)
    → ((wanted : ℕ) (state : ReaderState) → read wanted state ≡ read_of (list wanted state))
    → (state : ReaderState) (answer : Result Ask SectionFault)
    → reading_answer image machine first wanted read state answer ≡ read_of (listed_answer image machine first wanted list state answer)
answer_reads image machine first wanted read list same state (Err fault) = refl
answer_reads image machine first wanted read list same state (Ok Done) = refl
answer_reads image machine first wanted read list same state (Ok First) =
    sector_reads image (read wanted) (list wanted) (same wanted) state (place_at machine first 0)
answer_reads image machine first wanted read list same state (Ok (Sector link)) =
    sector_reads image (read wanted) (list wanted) (same wanted) state (place_at machine link 0)
answer_reads image machine first wanted read list same state (Ok (Slot slot)) =
    named_reads machine slot 0 (min slot.count wanted) _ _ (same (wanted - slot.count) state)

-- in as many turns, what is read is what is listed
turns_read :
    (image : Image) (machine : Machine) (first : slots.Slot) (turns wanted : ℕ) (state : ReaderState)
    → reading_turns image machine first turns wanted state ≡ read_of (run_reader image machine first turns wanted state)
turns_read image machine first zero wanted state = refl
turns_read image machine first (suc turns) wanted state =
    answer_reads image machine first wanted (reading_turns image machine first turns) (run_reader image machine first turns)
    (turns_read image machine first turns) (next_of state).state (next_of state).answer

-- the turns of a new reader are enough
enough_turns : (sectors chain : ℕ) (bytes : List ℕ) → sectors + chain < suc (turns_left (begun sectors chain bytes))
enough_turns sectors zero bytes = omega arith
enough_turns sectors (suc chain) bytes = let some : (suc chain == 0) ≡ false = grind arith in rw some (omega arith)

section_reads :
    (image : Image) (machine : Machine) (first : slots.Slot) (sectors chain : ℕ) (bytes : List ℕ)
    → reading_ahead image machine first sectors (begun sectors chain bytes) ≡ read_of (section image machine first sectors chain)
unfolding reading_ahead
section_reads image machine first sectors chain bytes =
    let state = begun sectors chain bytes in
    turns_read image machine first (suc (turns_left state)) sectors state
    ∙ ap read_of (section_law image machine first sectors chain (suc (turns_left state)) bytes (enough_turns sectors chain bytes))

-- what is read of a file from its start on is the model's content
pub file_reads :
    (image : Image) (machine : Machine) (first : slots.Slot) (len chain : ℕ) (bytes : List ℕ)
    → rest_of image len (reading_ahead image machine first (sectors_for len) (begun (sectors_for len) chain bytes))
    ≡ content_rest (file_content image machine first len chain)
unfolding file_content
file_reads image machine first len chain bytes =
    ap (λ reading. rest_of image len reading) (section_reads image machine first (sectors_for len) chain bytes)

-- a file has no more bytes than it is long
pub content_fits :
    (image : Image) (machine : Machine) (first : slots.Slot) (len chain : ℕ)
    → length (file_content image machine first len chain).bytes ≤ len
unfolding file_content
content_fits image machine first len chain =
    let some = length-take len (concat (map (bytes_at image) (section image machine first (sectors_for len) chain).places)) in
    omega arith

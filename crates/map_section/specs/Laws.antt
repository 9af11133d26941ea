-- What a reader of a section gives, as laws.
use Rattle.std.specs.Prelude.{◌≡◌, ◌+◌, ◌<◌, ℕ, List, Ok, Err}
use Rattle.lilo_model.specs.Disks.{Image, Machine}
use Rattle.lilo_model.specs.Slots.{Slot}
use Rattle.lilo_model.specs.Section.{SectionFault, section}
use Rattle.map_section.specs.Reader.{ReaderState, Done, begun, next_of, turns_left, AnswerTakesTurn}
use Rattle.map_section.specs.Run.{run_reader}

-- A reader that is run over an image lists what Section says: the same places in order, the same section
-- sectors, and the same refusal.
abbrev pub SectionLaw : Type 0
SectionLaw =
    (image : Image) (machine : Machine) (first : Slot) (sectors chain turns : ℕ) (bytes : List ℕ)
    → sectors + chain < turns
    → run_reader image machine first turns sectors (begun sectors chain bytes)
    ≡ section image machine first sectors chain

-- where more turns are given than a reader has left, further ones make no difference
abbrev pub EnoughTurnsLaw : Type 0
EnoughTurnsLaw =
    (image : Image) (machine : Machine) (first : Slot) (more turns wanted : ℕ) (state : ReaderState)
    → turns_left state < turns
    → run_reader image machine first (more + turns) wanted state ≡ run_reader image machine first turns wanted state

-- Each answer of a reader but `Done` takes a turn: after it fewer are left, once the section sector that is
-- asked for is fed.
abbrev pub TurnsLaw : Type 0
TurnsLaw = (state : ReaderState) → AnswerTakesTurn state (next_of state).state (next_of state).answer

-- a reader that is done stays so
abbrev pub DoneLaw : Type 0
DoneLaw = (state : ReaderState) → (next_of state).answer ≡ Ok Done → (next_of state).state ≡ state

-- a reader that refused a section refuses it again
abbrev pub RefusedLaw : Type 0
RefusedLaw =
    (state : ReaderState) (fault : SectionFault) → (next_of state).answer ≡ Err fault
    → next_of (next_of state).state ≡ record { answer = Err fault; state = (next_of state).state }

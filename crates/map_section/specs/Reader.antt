-- What a reader of a section answers, and what it is then, as it is fed section sectors.
use Rattle.std.specs.Prelude.{◌≡◌, ◌+◌, ◌-◌, ◌*◌, ◌<◌, ◌==◌, ℕ, nat_lt, min, if◌then◌else◌, List, Option, None, Some, Result, Ok, Err}
use Rattle.lilo_model.specs.Bytes.{part_of}
use Rattle.lilo_model.specs.Section.{SectionFault, BadSlot, ChainTooLong, ShortChain, link_at}
use Rattle.lilo_model.specs.Slots as slots
use Rattle.lilo_model.specs.Slots.{slot_at}
use Rattle.sector_address.specs.Whole.{IsSlot}

-- what a reader answers
pub data Ask : Type 0 where
  -- the next sectors are those of this slot
  Slot : slots.Slot → Ask
  -- the section sector at this link is wanted
  Sector : slots.Slot → Ask
  -- the first section sector is wanted
  First : Ask
  -- the list is complete
  Done : Ask

-- where a reader is
pub data Stage : Type 0 where
  -- a section sector is wanted: the first, or the one at a link
  Wanted : Option slots.Slot → Stage
  -- the slot of this index comes next
  Slots : (index : ℕ) → Stage
  -- the section was refused
  Refused : SectionFault → Stage

-- a reader
pub record ReaderState : Type 0 where
  -- how many sectors were named, and how many more are needed
  pub given : ℕ
  pub needed : ℕ
  -- the most section sectors, and the number of the one that is wanted or at hand, from 0
  pub chain : ℕ
  pub number : ℕ
  pub stage : Stage
  -- the bytes of the section sector at hand
  pub bytes : List ℕ

-- an answer, and the reader after it
pub record Turn : Type 0 where
  pub answer : Result Ask SectionFault
  pub state : ReaderState

-- ---- the start

abbrev pub first_stage : ℕ → Stage
first_stage chain = if chain == 0 then Refused (ChainTooLong chain) else Wanted None

-- a reader of so many sectors in at most chain section sectors, with these bytes at hand
abbrev pub begun : ℕ → ℕ → List ℕ → ReaderState
begun sectors chain bytes = record {
  given = 0;
  needed = sectors;
  chain = chain;
  number = 0;
  stage = first_stage chain;
  bytes = bytes;
}

-- ---- an answer

-- a refusal, which stays
abbrev pub refused : ReaderState → SectionFault → Turn
refused state fault = record { answer = Err fault; state = record state { stage = Refused fault } }

-- the reader after a slot that it named
abbrev pub behind_slot : ReaderState → ℕ → slots.Slot → ReaderState
behind_slot state index slot = record state {
  given = state.given + min slot.count state.needed;
  needed = state.needed - slot.count;
  stage = Slots (index + 1);
}

-- the reader that wants the section sector at a link
abbrev pub at_link : ReaderState → slots.Slot → ReaderState
at_link state link = record state { number = state.number + 1; stage = Wanted (Some link) }

-- at a link that is there
abbrev pub further_turn : ReaderState → slots.Slot → Turn
further_turn state link =
    if nat_lt (state.number + 1) state.chain
    then record { answer = Ok (Sector link); state = at_link state link }
    else refused state (ChainTooLong state.chain)

-- at what stands for a link
abbrev pub link_turn : ReaderState → Result (Option slots.Slot) SectionFault → Turn
link_turn state (Err fault) = refused state fault
link_turn state (Ok None) = refused state (ShortChain state.given)
link_turn state (Ok (Some link)) = further_turn state link

-- at the link of the section sector at hand
abbrev pub end_turn : ReaderState → Turn
end_turn state = link_turn state (link_at state.number state.bytes)

-- at what stands for a slot
abbrev pub slot_turn : ReaderState → ℕ → Result (Option slots.Slot) slots.AddressFault → Turn
slot_turn state index (Err fault) = refused state (BadSlot (state.number * 64 + index))
slot_turn state index (Ok None) = end_turn state
slot_turn state index (Ok (Some slot)) =
    record { answer = Ok (Slot slot); state = behind_slot state index slot }

-- at a slot of the section sector at hand, or after the last one
abbrev pub slots_turn : ReaderState → ℕ → Turn
slots_turn state index =
    if nat_lt index 63 then slot_turn state index (slot_at (part_of state.bytes (8 * index) 8)) else end_turn state

-- where more sectors are needed
abbrev pub stage_turn : ReaderState → Stage → Turn
stage_turn state (Wanted None) = record { answer = Ok First; state = state }
stage_turn state (Wanted (Some link)) = record { answer = Ok (Sector link); state = state }
stage_turn state (Slots index) = slots_turn state index
stage_turn state (Refused fault) = record { answer = Err fault; state = state }

-- the next answer
abbrev pub next_of : ReaderState → Turn
next_of state =
    if state.needed == 0 then record { answer = Ok Done; state = state } else stage_turn state state.stage

-- ---- a section sector

-- the reader that was given the section sector it wants
abbrev pub fed : ReaderState → List ℕ → ReaderState
fed state bytes = record state { stage = Slots 0; bytes = bytes }

-- a section sector is wanted
abbrev pub IsWanted : Stage → Type 0
IsWanted (Wanted link) = Unit {0}
IsWanted (Slots index) = ⊥
IsWanted (Refused fault) = ⊥

-- it asked for a section sector, and was not given it yet
abbrev pub IsAsking : ReaderState → Type 0
IsAsking state = (0 < state.needed) × IsWanted state.stage

-- a link is a slot of one sector
abbrev pub IsLink : slots.Slot → Type 0
IsLink link = IsSlot link × (link.count ≡ 1)

-- What a caller may rest on at an answer: a slot is one that eight bytes can name, and a reader that asks for
-- a section sector may be fed it.
abbrev pub Offers : Ask → ReaderState → Type 0
Offers (Slot slot) state = IsSlot slot
Offers (Sector link) state = IsLink link × IsAsking state
Offers First state = IsAsking state
Offers Done state = Unit {0}

-- ---- how long it goes on

-- how many answers after a section sector there are at most until the last one
abbrev pub sector_turns : ReaderState → ℕ
sector_turns state = state.needed + (state.chain - state.number)

-- how many there are at most, where the wait for a section sector counts too
abbrev pub turns_at : ReaderState → Stage → ℕ
turns_at state (Wanted link) = sector_turns state + 1
turns_at state (Slots index) = sector_turns state
turns_at state (Refused fault) = sector_turns state

abbrev pub turns_left : ReaderState → ℕ
turns_left state = turns_at state state.stage

-- At each answer but the last one fewer are left, once the section sector that is asked for is fed.
abbrev pub TakesTurn : Ask → ReaderState → ReaderState → Type 0
TakesTurn (Slot slot) old new = turns_left new < turns_left old
TakesTurn (Sector link) old new = (bytes : List ℕ) → turns_left (fed new bytes) < turns_left old
TakesTurn First old new = (bytes : List ℕ) → turns_left (fed new bytes) < turns_left old
TakesTurn Done old new = Unit {0}

-- an answer takes a turn; a refusal needn't
abbrev pub AnswerTakesTurn : ReaderState → ReaderState → Result Ask SectionFault → Type 0
AnswerTakesTurn old new (Ok ask) = TakesTurn ask old new
AnswerTakesTurn old new (Err fault) = Unit {0}

-- How many sectors an answer leaves to be named: those of a slot come off, and a section sector that is asked for
-- takes none. `Done` comes where none is needed, and each other answer where some are.
abbrev pub CountsDown : Ask → ReaderState → ReaderState → Type 0
CountsDown (Slot slot) old new = (new.needed ≡ old.needed - slot.count) × (0 < old.needed)
CountsDown (Sector link) old new = (new.needed ≡ old.needed) × (0 < old.needed)
CountsDown First old new = (new.needed ≡ old.needed) × (0 < old.needed)
CountsDown Done old new = old.needed ≡ 0

-- Each answer of a reader takes a turn, so that enough turns are as good as more.
use Rattle.std.proofs.Common.{◌≡◌, ◌≤◌, ◌<◌, ◌+◌, ◌-◌, ◌*◌, ◌==◌, ℕ, zero, suc, Bool, true, false, refl, ap, List, Option, None, Some, Result, Ok, Err, add-suc, arith}
use Rattle.std.specs.Prelude.{min, nat_lt}
use Rattle.lilo_model.specs.Bytes.{part_of}
use Rattle.lilo_model.specs.Disks.{Image, Machine, DiskSector, bytes_at}
use Rattle.lilo_model.specs.Slots as slots
use Rattle.lilo_model.specs.Slots.{slot_at, place_at}
use Rattle.lilo_model.specs.Section.{SectionFault, Listing, with_looked, link_at}
use Rattle.map_section.specs.Reader.{Ask, Slot, Sector, First, Done, Stage, Wanted, Slots, Refused, ReaderState, Turn, next_of, fed, link_turn, slot_turn, slots_turn, stage_turn, turns_left, AnswerTakesTurn}
use Rattle.map_section.specs.Run.{listed_slot, listed_sector, listed_answer, run_reader}
use Rattle.map_section.specs.Laws.{EnoughTurnsLaw, TurnsLaw}
use Rattle.map_section.proofs.RunLemmas.{counted, reading}

-- the answer of a turn takes one, after this reader
abbrev TurnTakesTurn : ReaderState → Turn → Type 0
TurnTakesTurn old turn = AnswerTakesTurn old turn.state turn.answer

further_takes :
    (given needed chain number index : ℕ) (bytes : List ℕ) (link : slots.Slot) (further : Bool)
    → nat_lt (number + 1) chain ≡ further
    → TurnTakesTurn (reading given needed chain number index bytes)
    (link_turn (reading given needed chain number index bytes) (Ok (Some link)))
further_takes given needed chain number index bytes link true is =
    let less : number + 1 < chain = grind arith in
    rw is (λ (fresh : List ℕ). omega arith)
further_takes given needed chain number index bytes link false is = rw is tt

link_takes :
    (given needed chain number index : ℕ) (bytes : List ℕ) (found : Result (Option slots.Slot) SectionFault)
    → TurnTakesTurn (reading given needed chain number index bytes)
    (link_turn (reading given needed chain number index bytes) found)
link_takes given needed chain number index bytes (Err fault) = tt
link_takes given needed chain number index bytes (Ok None) = tt
link_takes given needed chain number index bytes (Ok (Some link)) =
    further_takes given needed chain number index bytes link _ refl

slot_takes :
    (given needed chain number index : ℕ) (bytes : List ℕ) (found : Result (Option slots.Slot) slots.AddressFault)
    → ((slot : slots.Slot) → found ≡ Ok (Some slot) → 1 ≤ slot.count)
    → TurnTakesTurn (reading given (suc needed) chain number index bytes)
    (slot_turn (reading given (suc needed) chain number index bytes) index found)
slot_takes given needed chain number index bytes (Err fault) some = tt
slot_takes given needed chain number index bytes (Ok None) some =
    link_takes given (suc needed) chain number index bytes (link_at number bytes)
slot_takes given needed chain number index bytes (Ok (Some slot)) some =
    let one = some slot refl in omega arith

slots_take :
    (given needed chain number index : ℕ) (bytes : List ℕ) (before : Bool) → nat_lt index 63 ≡ before
    → TurnTakesTurn (reading given (suc needed) chain number index bytes)
    (slots_turn (reading given (suc needed) chain number index bytes) index)
slots_take given needed chain number index bytes true is =
    rw is
    (slot_takes given needed chain number index bytes (slot_at (part_of bytes (8 * index) 8))
    (λ slot read. counted (part_of bytes (8 * index) 8) slot read))
slots_take given needed chain number index bytes false is =
    rw is (link_takes given (suc needed) chain number index bytes (link_at number bytes))

-- a reader at a stage
abbrev standing : ℕ → ℕ → ℕ → ℕ → Stage → List ℕ → ReaderState
standing given needed chain number stage bytes = record {
  given = given;
  needed = needed;
  chain = chain;
  number = number;
  stage = stage;
  bytes = bytes;
}

stage_takes :
    (given needed chain number : ℕ) (stage : Stage) (bytes : List ℕ)
    → TurnTakesTurn (standing given (suc needed) chain number stage bytes)
    (stage_turn (standing given (suc needed) chain number stage bytes) stage)
stage_takes given needed chain number (Wanted None) bytes = λ fresh. omega arith
stage_takes given needed chain number (Wanted (Some link)) bytes = λ fresh. omega arith
stage_takes given needed chain number (Slots index) bytes = slots_take given needed chain number index bytes _ refl
stage_takes given needed chain number (Refused fault) bytes = tt

next_takes_by :
    (given needed chain number : ℕ) (stage : Stage) (bytes : List ℕ)
    → TurnTakesTurn (standing given needed chain number stage bytes) (next_of (standing given needed chain number stage bytes))
next_takes_by given zero chain number stage bytes = tt
next_takes_by given (suc needed) chain number stage bytes =
    let some : (suc needed == 0) ≡ false = grind arith in
    rw some (stage_takes given needed chain number stage bytes)

-- each answer of a reader takes a turn
pub next_takes : TurnsLaw
next_takes state = next_takes_by state.given state.needed state.chain state.number state.stage state.bytes

-- ---- runs

sector_same :
    (image : Image) (behind behind' : ReaderState → Listing) (state : ReaderState)
    → ((bytes : List ℕ) → behind (fed state bytes) ≡ behind' (fed state bytes))
    → (found : Result DiskSector slots.AddressFault)
    → listed_sector image behind state found ≡ listed_sector image behind' state found
sector_same image behind behind' state same (Ok place) =
    ap (λ listing. with_looked place listing) (same (bytes_at image place))
sector_same image behind behind' state same (Err fault) = refl

-- runs that are the same where few turns are left are so a turn before
abbrev SameRuns : Image → Machine → slots.Slot → ℕ → ℕ → Type 0
SameRuns image machine first more turns =
    (wanted : ℕ) (state : ReaderState) → turns_left state < turns
    → run_reader image machine first (more + turns) wanted state ≡ run_reader image machine first turns wanted state

answer_same :
    (image : Image) (machine : Machine) (first : slots.Slot) (more turns wanted : ℕ) → SameRuns image machine first more turns
    → (old new : ReaderState) → turns_left old < suc turns → (answer : Result Ask SectionFault) → AnswerTakesTurn old new answer
    → listed_answer image machine first wanted (run_reader image machine first (more + turns)) new answer
    ≡ listed_answer image machine first wanted (run_reader image machine first turns) new answer
answer_same image machine first more turns wanted same old new few (Err fault) takes = refl
answer_same image machine first more turns wanted same old new few (Ok Done) takes = refl
answer_same image machine first more turns wanted same old new few (Ok First) takes =
    sector_same image (run_reader image machine first (more + turns) wanted) (run_reader image machine first turns wanted) new
    (λ bytes. let fewer = takes bytes in same wanted (fed new bytes) (omega arith)) (place_at machine first 0)
answer_same image machine first more turns wanted same old new few (Ok (Sector link)) takes =
    sector_same image (run_reader image machine first (more + turns) wanted) (run_reader image machine first turns wanted) new
    (λ bytes. let fewer = takes bytes in same wanted (fed new bytes) (omega arith)) (place_at machine link 0)
answer_same image machine first more turns wanted same old new few (Ok (Slot slot)) takes =
    ap (λ listing. listed_slot machine slot 0 (min slot.count wanted) listing) (same (wanted - slot.count) new (omega arith))

-- enough turns are as good as more
pub enough_turns_law : EnoughTurnsLaw
enough_turns_law image machine first more zero wanted state few = absurd (omega arith)
enough_turns_law image machine first more (suc turns) wanted state few =
    rw add-suc
    (answer_same image machine first more turns wanted (enough_turns_law image machine first more turns) state (next_of state).state few
    (next_of state).answer (next_takes state))

-- What is read where a reader is, by its next answer.
use Rattle.std.proofs.Common.{◌≡◌, ◌<◌, ◌+◌, ◌-◌, ℕ, zero, suc, refl, ◌∙◌, ap, List, Result, Ok, Err, add-suc, arith}
use Rattle.lilo_model.specs.Disks.{Image, Machine, DiskSector, bytes_at}
use Rattle.lilo_model.specs.Slots as slots
use Rattle.lilo_model.specs.Slots.{place_at}
use Rattle.lilo_model.specs.Section.{SectionFault}
use Rattle.map_section.specs.Reader.{Ask, Slot, Sector, First, Done, ReaderState, next_of, fed, turns_left, AnswerTakesTurn}
use Rattle.map_section.proofs.TurnLemmas.{next_takes}
use Rattle.section_loader.specs.Reading.{Reading, reading_slot, reading_sector, reading_answer, reading_turns, reading_ahead}

sector_same :
    (image : Image) (behind behind' : ReaderState → Reading) (state : ReaderState)
    → ((bytes : List ℕ) → behind (fed state bytes) ≡ behind' (fed state bytes))
    → (found : Result DiskSector slots.AddressFault)
    → reading_sector image behind state found ≡ reading_sector image behind' state found
sector_same image behind behind' state same (Ok place) = same (bytes_at image place)
sector_same image behind behind' state same (Err fault) = refl

-- runs that are the same where few turns are left give the same from an answer that takes a turn on
answer_same :
    (image : Image) (machine : Machine) (first : slots.Slot) (turns wanted : ℕ) (behind behind' : ℕ → ReaderState → Reading)
    → ((w : ℕ) (s : ReaderState) → turns_left s < turns → behind w s ≡ behind' w s)
    → (old new : ReaderState) → turns_left old < suc turns → (answer : Result Ask SectionFault) → AnswerTakesTurn old new answer
    → reading_answer image machine first wanted behind new answer
    ≡ reading_answer image machine first wanted behind' new answer
answer_same image machine first turns wanted behind behind' same old new few (Err fault) takes = refl
answer_same image machine first turns wanted behind behind' same old new few (Ok Done) takes = refl
answer_same image machine first turns wanted behind behind' same old new few (Ok First) takes =
    sector_same image (behind wanted) (behind' wanted) new
    (λ bytes. let fewer = takes bytes in same wanted (fed new bytes) (omega arith)) (place_at machine first 0)
answer_same image machine first turns wanted behind behind' same old new few (Ok (Sector link)) takes =
    sector_same image (behind wanted) (behind' wanted) new
    (λ bytes. let fewer = takes bytes in same wanted (fed new bytes) (omega arith)) (place_at machine link 0)
answer_same image machine first turns wanted behind behind' same old new few (Ok (Slot slot)) takes =
    ap (λ reading. reading_slot machine slot wanted reading) (same (wanted - slot.count) new (omega arith))

-- enough turns are as good as more
pub enough_turns :
    (image : Image) (machine : Machine) (first : slots.Slot) (more turns wanted : ℕ) (state : ReaderState)
    → turns_left state < turns
    → reading_turns image machine first (more + turns) wanted state ≡ reading_turns image machine first turns wanted state
enough_turns image machine first more zero wanted state few = absurd (omega arith)
enough_turns image machine first more (suc turns) wanted state few =
    rw add-suc
    (answer_same image machine first turns wanted (reading_turns image machine first (more + turns)) (reading_turns image machine first turns)
    (λ w s fewer. enough_turns image machine first more turns w s fewer)
    state (next_of state).state few (next_of state).answer (next_takes state))

-- as many turns as are left, or more
pub turns_ahead :
    (image : Image) (machine : Machine) (first : slots.Slot) (turns wanted : ℕ) (state : ReaderState)
    → turns_left state < turns
    → reading_turns image machine first turns wanted state ≡ reading_ahead image machine first wanted state
unfolding reading_ahead
turns_ahead image machine first turns wanted state few =
    let split : turns ≡ (turns - suc (turns_left state)) + suc (turns_left state) = omega arith in
    ap (λ t. reading_turns image machine first t wanted state) split
    ∙ enough_turns image machine first (turns - suc (turns_left state)) (suc (turns_left state)) wanted state (omega arith)

-- what is read is what the next answer says
pub ahead_turn :
    (image : Image) (machine : Machine) (first : slots.Slot) (wanted : ℕ) (state : ReaderState)
    → reading_ahead image machine first wanted state
    ≡ reading_answer image machine first wanted (reading_ahead image machine first) (next_of state).state (next_of state).answer
unfolding reading_ahead
ahead_turn image machine first wanted state =
    answer_same image machine first (turns_left state) wanted (reading_turns image machine first (turns_left state)) (reading_ahead image machine first)
    (λ w s fewer. turns_ahead image machine first (turns_left state) w s fewer)
    state (next_of state).state (omega arith) (next_of state).answer (next_takes state)

-- the same, where the answer and the reader after it are known
pub ahead_by :
    (image : Image) (machine : Machine) (first : slots.Slot) (wanted : ℕ) (state new : ReaderState) (answer : Result Ask SectionFault)
    → answer ≡ (next_of state).answer → new ≡ (next_of state).state
    → reading_ahead image machine first wanted state
    ≡ reading_answer image machine first wanted (reading_ahead image machine first) new answer
ahead_by image machine first wanted state new answer same_answer same_state =
    rw (same_answer, same_state) (ahead_turn image machine first wanted state)

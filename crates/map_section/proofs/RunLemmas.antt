-- A reader that is run over an image lists what Section says.
use Rattle.std.proofs.Common.{◌≡◌, ◌≤◌, ◌<◌, ◌+◌, ◌-◌, ◌*◌, ◌==◌, ℕ, zero, suc, Bool, true, false, refl, sym, ◌∙◌, ap, List, ◌∷◌, ◌++◌, map, append_assoc, Option, None, Some, Result, Ok, Err, arith}
use Rattle.std.specs.Prelude.{min, nat_lt, slice_index}
use Rattle.std.specs.List.{range_with_len}
use Rattle.lilo_model.specs.Bytes.{part_of, is_zero}
use Rattle.lilo_model.specs.Disks.{Image, Machine, DiskSector, bytes_at}
use Rattle.lilo_model.specs.Slots as slots
use Rattle.lilo_model.specs.Slots.{Slot, has_ranges, is_slot, slot_of, slot_at, place_at}
use Rattle.lilo_model.specs.Section.{SectionFault, ChainTooLong, Step, Listing, sector_step, slot_steps, slot_steps_then, slots_steps, slot_parts, link_at, sector_steps, link_steps, chain_steps, with_place, with_looked, listing_of, section}
use Rattle.map_section.specs.Reader as reader
use Rattle.map_section.specs.Reader.{Ask, Stage, Wanted, Slots, Refused, ReaderState, Turn, begun, next_of, fed, refused, behind_slot, at_link, further_turn, link_turn, end_turn, slot_turn, slots_turn, stage_turn}
use Rattle.map_section.specs.Run.{listed_place, listed_slot, listed_sector, listed_answer, run_reader}
use Rattle.map_section.specs.Laws.{SectionLaw}

-- ---- the sectors of one slot

place_steps :
    (given needed : ℕ) (steps : List Step) (behind : Listing) (found : Result DiskSector slots.AddressFault)
    → listing_of (given + 1) needed steps ≡ behind
    → listing_of given (suc needed) (sector_step found ∷ steps) ≡ listed_place behind found
place_steps given needed steps behind (Ok place) same = ap (λ listing. with_place place listing) same
place_steps given needed steps behind (Err fault) same = refl

-- what a slot's first sectors give, as many as are needed
listed_slot-steps :
    (machine : Machine) (slot : Slot) (more given needed index taken : ℕ) (behind : List Step)
    → taken ≡ min more needed
    → listing_of given needed (map (λ at. sector_step (place_at machine slot at)) (range_with_len index more) ++ behind)
    ≡ listed_slot machine slot index taken (listing_of (given + taken) (needed - more) behind)
listed_slot-steps machine slot zero given needed index zero behind few =
    let same : given + 0 ≡ given = omega arith in
    let rest : needed - 0 ≡ needed = omega arith in
    rw (same, rest) refl
listed_slot-steps machine slot zero given needed index (suc taken) behind few = absurd (omega arith)
listed_slot-steps machine slot (suc more) given zero index zero behind few =
    let rest : 0 - suc more ≡ 0 = omega arith in
    rw rest refl
listed_slot-steps machine slot (suc more) given zero index (suc taken) behind few = absurd (omega arith)
listed_slot-steps machine slot (suc more) given (suc needed) index zero behind few = absurd (omega arith)
listed_slot-steps machine slot (suc more) given (suc needed) index (suc taken) behind few =
    let later = listed_slot-steps machine slot more (given + 1) needed (index + 1) taken behind (omega arith) in
    let same : given + suc taken ≡ given + 1 + taken = omega arith in
    let rest : suc needed - suc more ≡ needed - more = omega arith in
    rw (same, rest)
    (place_steps given needed
    (map (λ at. sector_step (place_at machine slot at)) (range_with_len (index + 1) more) ++ behind)
    (listed_slot machine slot (index + 1) taken (listing_of (given + 1 + taken) (needed - more) behind))
    (place_at machine slot index) later)

counted_by :
    (bytes : List ℕ) (slot : Slot) (zeros good : Bool) → is_zero bytes ≡ zeros → is_slot bytes ≡ good
    → slot_at bytes ≡ Ok (Some slot) → 1 ≤ slot.count
unfolding slot_at is_slot has_ranges slot_of
counted_by bytes slot true good is_zeros is_good read = let e = rw is_zeros at read in cc
counted_by bytes slot false false is_zeros is_good read = let e = rw (is_zeros, is_good) at read in cc
counted_by bytes slot false true is_zeros is_good read =
    let some : 1 ≤ slice_index bytes 2 = grind arith in
    let e = rw (is_zeros, is_good) at read in
    let count : slice_index bytes 2 ≡ slot.count = ap (λ found. found.count) (let same : slot_of bytes ≡ slot = cc in same) in
    omega arith

-- a slot has a sector
pub counted : (bytes : List ℕ) (slot : Slot) → slot_at bytes ≡ Ok (Some slot) → 1 ≤ slot.count
counted bytes slot read = counted_by bytes slot _ _ refl refl read

-- ---- a section sector

-- a reader with a section sector at hand
abbrev pub reading : ℕ → ℕ → ℕ → ℕ → ℕ → List ℕ → ReaderState
reading given needed chain number index bytes = record {
  given = given;
  needed = needed;
  chain = chain;
  number = number;
  stage = Slots index;
  bytes = bytes;
}

-- a reader that wants a section sector
abbrev waiting : ℕ → ℕ → ℕ → ℕ → Option Slot → List ℕ → ReaderState
waiting given needed chain number link bytes = record {
  given = given;
  needed = needed;
  chain = chain;
  number = number;
  stage = Wanted link;
  bytes = bytes;
}

-- the parts of a section sector from an index on
abbrev parts_from : List ℕ → ℕ → ℕ → List (List ℕ)
parts_from bytes index left = map (λ at. part_of bytes (8 * at) 8) (range_with_len index left)

-- the steps after a section sector's slots
abbrev steps_behind : Image → Machine → ℕ → ℕ → ℕ → List ℕ → List Step
steps_behind image machine chain number more bytes =
    link_steps (chain_steps image machine chain (number + 1) more) (link_at number bytes)

-- the steps from a slot of a section sector on
abbrev steps_from : Image → Machine → ℕ → ℕ → ℕ → ℕ → ℕ → List ℕ → List Step
steps_from image machine chain number more index left bytes =
    slots_steps machine (number * 64 + index) (parts_from bytes index left)
    ++ steps_behind image machine chain number more bytes

-- what is listed from a turn on
abbrev listed_turn : Image → Machine → Slot → ℕ → ℕ → Turn → Listing
listed_turn image machine first wanted turns turn =
    listed_answer image machine first wanted (run_reader image machine first turns) turn.state turn.answer

-- a reader with a section sector at hand lists what the steps from there on give
abbrev ListsSteps : Image → Machine → Slot → ℕ → ℕ → Type 0
ListsSteps image machine first chain turns =
    (given needed number more index left : ℕ) (bytes : List ℕ) → chain ≡ number + 1 + more → index + left ≡ 63
    → needed + more < turns
    → run_reader image machine first turns needed (reading given needed chain number index bytes)
    ≡ listing_of given needed (steps_from image machine chain number more index left bytes)

-- at the first slot
lists_first :
    (image : Image) (machine : Machine) (first : Slot) (chain turns : ℕ) → ListsSteps image machine first chain turns
    → (given needed number more : ℕ) (bytes : List ℕ) → chain ≡ number + 1 + more → needed + more < turns
    → run_reader image machine first turns needed (reading given needed chain number 0 bytes)
    ≡ listing_of given needed
    (slots_steps machine (number * 64) (slot_parts bytes) ++ steps_behind image machine chain number more bytes)
lists_first image machine first chain turns later given needed number more bytes whole enough =
    let same : number * 64 + 0 ≡ number * 64 = omega arith in
    rw same at (later given needed number more 0 63 bytes whole refl enough)

-- so does one that wants a section sector
sector_lists :
    (image : Image) (machine : Machine) (first : Slot) (chain turns : ℕ) → ListsSteps image machine first chain turns
    → (given needed number more : ℕ) (link : Option Slot) (bytes : List ℕ) → chain ≡ number + 1 + more
    → suc needed + more < turns → (found : Result DiskSector slots.AddressFault)
    → listed_sector image (run_reader image machine first turns (suc needed)) (waiting given (suc needed) chain number link bytes) found
    ≡ listing_of given (suc needed) (sector_steps image machine number (link_steps (chain_steps image machine chain (number + 1) more)) found)
sector_lists image machine first chain turns later given needed number more link bytes whole enough (Ok place) =
    ap (λ listing. with_looked place listing)
    (lists_first image machine first chain turns later given (suc needed) number more (bytes_at image place) whole enough)
sector_lists image machine first chain turns later given needed number more link bytes whole enough (Err fault) = refl

nat_lt-true : (a b : ℕ) → a < b → nat_lt a b ≡ true
nat_lt-true a b less = grind arith

nat_lt-false : (a b : ℕ) → b ≤ a → nat_lt a b ≡ false
nat_lt-false a b less = grind arith

-- the turn at a link
link_lists :
    (image : Image) (machine : Machine) (first : Slot) (chain turns : ℕ) → ListsSteps image machine first chain turns
    → (given needed number more index : ℕ) (bytes : List ℕ) → chain ≡ number + 1 + more
    → suc needed + more < suc turns → (found : Result (Option Slot) SectionFault)
    → listed_turn image machine first (suc needed) turns (link_turn (reading given (suc needed) chain number index bytes) found)
    ≡ listing_of given (suc needed) (link_steps (chain_steps image machine chain (number + 1) more) found)
link_lists image machine first chain turns later given needed number more index bytes whole enough (Err fault) = refl
link_lists image machine first chain turns later given needed number more index bytes whole enough (Ok None) = refl
link_lists image machine first chain turns later given needed number zero index bytes whole enough (Ok (Some link)) =
    let last : nat_lt (number + 1) chain ≡ false = nat_lt-false (number + 1) chain (omega arith) in
    rw last refl
link_lists image machine first chain turns later given needed number (suc more) index bytes whole enough (Ok (Some link)) =
    let further : nat_lt (number + 1) chain ≡ true = nat_lt-true (number + 1) chain (omega arith) in
    rw further
    (sector_lists image machine first chain turns later given needed (number + 1) more (Some link) bytes (omega arith)
    (omega arith) (place_at machine link 0))

-- the turn at a slot
slot_lists :
    (image : Image) (machine : Machine) (first : Slot) (chain turns : ℕ) → ListsSteps image machine first chain turns
    → (given needed number more index left : ℕ) (bytes : List ℕ) → chain ≡ number + 1 + more → index + suc left ≡ 63
    → suc needed + more < suc turns → (found : Result (Option Slot) slots.AddressFault)
    → ((slot : Slot) → found ≡ Ok (Some slot) → 1 ≤ slot.count)
    → listed_turn image machine first (suc needed) turns (slot_turn (reading given (suc needed) chain number index bytes) index found)
    ≡ listing_of given (suc needed)
    (slot_steps_then machine (number * 64 + index) found (slots_steps machine (number * 64 + index + 1) (parts_from bytes (index + 1) left))
    ++ steps_behind image machine chain number more bytes)
slot_lists image machine first chain turns later given needed number more index left bytes whole inside enough (Err fault) some = refl
slot_lists image machine first chain turns later given needed number more index left bytes whole inside enough (Ok None) some =
    link_lists image machine first chain turns later given needed number more index bytes whole enough (link_at number bytes)
slot_lists image machine first chain turns later given needed number more index left bytes whole inside enough (Ok (Some slot)) some =
    let one = some slot refl in
    let taken = min slot.count (suc needed) in
    let rest = slots_steps machine (number * 64 + index + 1) (parts_from bytes (index + 1) left) in
    let behind = steps_behind image machine chain number more bytes in
    let listed = later (given + taken) (suc needed - slot.count) number more (index + 1) left bytes whole (omega arith) (omega arith) in
    let same : number * 64 + (index + 1) ≡ number * 64 + index + 1 = omega arith in
    let listed' = rw same at listed in
    let named = listed_slot-steps machine slot slot.count given (suc needed) 0 taken (rest ++ behind) refl in
    ap (λ listing. listed_slot machine slot 0 taken listing) listed'
    ∙ sym named
    ∙ ap (λ steps. listing_of given (suc needed) steps) (sym (append_assoc (slot_steps machine slot) rest behind))

next_of-slots :
    (given needed chain number index : ℕ) (bytes : List ℕ)
    → next_of (reading given (suc needed) chain number index bytes)
    ≡ slots_turn (reading given (suc needed) chain number index bytes) index
next_of-slots given needed chain number index bytes =
    let some : (suc needed == 0) ≡ false = grind arith in rw some refl

-- a reader with a section sector at hand lists what the steps from there on give
lists_steps : (image : Image) (machine : Machine) (first : Slot) (chain turns : ℕ) → ListsSteps image machine first chain turns
lists_steps image machine first chain zero given needed number more index left bytes whole inside enough = absurd (omega arith)
lists_steps image machine first chain (suc turns) given zero number more index left bytes whole inside enough = refl
lists_steps image machine first chain (suc turns) given (suc needed) number more index zero bytes whole inside enough =
    let later = lists_steps image machine first chain turns in
    let past : nat_lt index 63 ≡ false = nat_lt-false index 63 (omega arith) in
    let at = next_of-slots given needed chain number index bytes in
    ap (λ turn. listed_turn image machine first (suc needed) turns turn) at
    ∙ rw past (link_lists image machine first chain turns later given needed number more index bytes whole enough (link_at number bytes))
lists_steps image machine first chain (suc turns) given (suc needed) number more index (suc left) bytes whole inside enough =
    let later = lists_steps image machine first chain turns in
    let before : nat_lt index 63 ≡ true = nat_lt-true index 63 (omega arith) in
    let at = next_of-slots given needed chain number index bytes in
    ap (λ turn. listed_turn image machine first (suc needed) turns turn) at
    ∙ rw before
    (slot_lists image machine first chain turns later given needed number more index left bytes whole inside enough
    (slot_at (part_of bytes (8 * index) 8)) (λ slot read. counted (part_of bytes (8 * index) 8) slot read))

-- ---- the whole

next_of-first :
    (needed chain : ℕ) (bytes : List ℕ)
    → next_of (begun (suc needed) (suc chain) bytes)
    ≡ record { answer = Ok reader.First; state = waiting 0 (suc needed) (suc chain) 0 None bytes }
next_of-first needed chain bytes =
    let some : (suc needed == 0) ≡ false = grind arith in
    let allowed : (suc chain == 0) ≡ false = grind arith in
    rw (some, allowed) refl

next_of-none :
    (needed : ℕ) (bytes : List ℕ)
    → next_of (begun (suc needed) 0 bytes)
    ≡ record { answer = Err (ChainTooLong 0); state = begun (suc needed) 0 bytes }
next_of-none needed bytes = let some : (suc needed == 0) ≡ false = grind arith in rw some refl

-- the reader gives Section
pub section_law : SectionLaw
unfolding section
section_law image machine first sectors chain zero bytes enough = absurd (omega arith)
section_law image machine first zero chain (suc turns) bytes enough = refl
section_law image machine first (suc needed) zero (suc turns) bytes enough =
    ap (λ turn. listed_turn image machine first (suc needed) turns turn) (next_of-none needed bytes)
section_law image machine first (suc needed) (suc chain) (suc turns) bytes enough =
    let later = lists_steps image machine first (suc chain) turns in
    ap (λ turn. listed_turn image machine first (suc needed) turns turn) (next_of-first needed chain bytes)
    ∙ sector_lists image machine first (suc chain) turns later 0 needed 0 chain None bytes (omega arith) (omega arith) (place_at machine first 0)

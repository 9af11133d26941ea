-- What is met along a section, turn by turn.
use Rattle.std.proofs.Common.{◌≡◌, ◌<◌, ◌≤◌, ◌+◌, ◌-◌, ℕ, ◌==◌, zero, suc, Bool, true, false, refl, sym, ◌∙◌, ap, subst, List, [], ◌∷◌, Option, Result, Ok, Err, arith, rules}
use Rattle.std.specs.Prelude.{min, IfOk, IsErr}
use Rattle.disk_trait.specs.Past.{Past, Told}
use Rattle.disk_trait.proofs.ToldLemmas.{told_map}
use Rattle.lilo_model.specs.Disks.{Image, Machine, DiskSector}
use Rattle.lilo_model.specs.Slots as slots
use Rattle.lilo_model.specs.Slots.{place_at}
use Rattle.lilo_model.specs.Section.{SectionFault, Listing, section}
use Rattle.map_section.specs.Reader.{Ask, Slot, Done, ReaderState, begun, next_of, fed, turns_left}
use Rattle.map_section.specs.Run.{listed_place, listed_slot, listed_sector, listed_answer, run_reader}
use Rattle.map_section.proofs.RunLemmas.{section_law}
use Rattle.map_section.proofs.TurnLemmas.{enough_turns_law}
use Rattle.present_map.specs.Follow.{listed_ahead, IsFed, MeetsOn}
use Rattle.present_map.specs.Zones.{Met, Meets, MeetsListing}
use Rattle.present_map.proofs.ZonesLemmas.{meets_none, meets_place}

-- as many turns as are left, or more
pub run_ahead :
    (image : Image) (machine : Machine) (first : slots.Slot) (turns wanted : ℕ) (state : ReaderState)
    → wanted ≡ state.needed → turns_left state < turns
    → run_reader image machine first turns wanted state ≡ listed_ahead image machine first state
unfolding listed_ahead
run_ahead image machine first turns wanted state same few =
    let split : turns ≡ (turns - suc (turns_left state)) + suc (turns_left state) = omega arith in
    ap (λ t. run_reader image machine first t wanted state) split
    ∙ enough_turns_law image machine first (turns - suc (turns_left state)) (suc (turns_left state)) wanted state (omega arith)
    ∙ ap (λ w. run_reader image machine first (suc (turns_left state)) w state) same

-- what is listed is what the next answer says
pub ahead_by :
    (image : Image) (machine : Machine) (first : slots.Slot) (state new : ReaderState) (answer : Result Ask SectionFault)
    → answer ≡ (next_of state).answer → new ≡ (next_of state).state
    → listed_answer image machine first state.needed (run_reader image machine first (turns_left state)) new answer
    ≡ listed_ahead image machine first state
unfolding listed_ahead
ahead_by image machine first state new answer same_answer same_state = rw (same_answer, same_state) refl

-- what is listed of a section is what is ahead of a reader that begins
pub section_ahead :
    (image : Image) (machine : Machine) (first : slots.Slot) (sectors chain : ℕ) (bytes : List ℕ)
    → listed_ahead image machine first (begun sectors chain bytes) ≡ section image machine first sectors chain
unfolding listed_ahead
section_ahead image machine first sectors chain bytes =
    section_law image machine first sectors chain (suc (turns_left (begun sectors chain bytes))) bytes (enough chain)
  where
    enough : (chain : ℕ) → sectors + chain < suc (turns_left (begun sectors chain bytes))
    enough zero = omega arith
    enough (suc chain) = let some : (suc chain == 0) ≡ false = grind arith in rw some (omega arith)

-- another listing after it, and another whole
pub meets_on-same :
    (goes_on : Bool) (old new : Met) (behind behind' whole whole' : Listing) → behind ≡ behind' → whole ≡ whole'
    → MeetsOn goes_on old new behind whole → MeetsOn goes_on old new behind' whole'
meets_on-same goes_on old new behind behind' whole whole' one other meets = rw (one, other) at meets

-- a slot was named
pub turn_slot :
    (image : Image) (machine : Machine) (first : slots.Slot) (state new : ReaderState) (slot : slots.Slot) (goes_on : Bool) (old met : Met)
    → Ok (Slot slot) ≡ (next_of state).answer → new ≡ (next_of state).state → turns_left new < turns_left state
    → new.needed ≡ state.needed - slot.count
    → ((behind : Listing) → MeetsOn goes_on old met behind (listed_slot machine slot 0 (min slot.count state.needed) behind))
    → MeetsOn goes_on old met (listed_ahead image machine first new) (listed_ahead image machine first state)
turn_slot image machine first state new slot goes_on old met answer next fewer needed meets =
    let behind = run_reader image machine first (turns_left state) (state.needed - slot.count) new in
    meets_on-same goes_on old met behind _ (listed_slot machine slot 0 (min slot.count state.needed) behind) _
    (run_ahead image machine first (turns_left state) (state.needed - slot.count) new (sym needed) fewer)
    (ahead_by image machine first state new (Ok (Slot slot)) answer next) (meets behind)

-- a section sector was asked for
pub turn_sector :
    (image : Image) (machine : Machine) (first : slots.Slot) (state new end : ReaderState) (found : Result DiskSector slots.AddressFault)
    (answer : Ask) (goes_on : Bool) (old met : Met)
    → Ok answer ≡ (next_of state).answer → new ≡ (next_of state).state
    → listed_answer image machine first state.needed (run_reader image machine first (turns_left state)) new (Ok answer)
    ≡ listed_sector image (run_reader image machine first (turns_left state) state.needed) new found
    → new.needed ≡ state.needed
    → ((bytes : List ℕ) → turns_left (fed new bytes) < turns_left state)
    → (goes_on ≡ true → IsFed new end)
    → ((behind : ReaderState → Listing) → MeetsOn goes_on old met (behind end) (listed_sector image behind new found))
    → MeetsOn goes_on old met (listed_ahead image machine first end) (listed_ahead image machine first state)
turn_sector image machine first state new end found answer true old met is next asks needed fewer feeds meets =
    let behind = run_reader image machine first (turns_left state) state.needed in
    let given = feeds refl in
    let few : turns_left end < turns_left state = rw (given.1) (fewer given.0) in
    let count : state.needed ≡ end.needed = rw (given.1) (sym needed) in
    meets_on-same true old met (behind end) _ (listed_sector image behind new found) _
    (run_ahead image machine first (turns_left state) state.needed end count few)
    (sym asks ∙ ahead_by image machine first state new (Ok answer) is next) (meets behind)
turn_sector image machine first state new end found answer false old met is next asks needed fewer feeds meets =
    let behind = run_reader image machine first (turns_left state) state.needed in
    meets_on-same false old met (behind end) _ (listed_sector image behind new found) _
    refl (sym asks ∙ ahead_by image machine first state new (Ok answer) is next) (meets behind)

-- the same of a call that may have failed
pub turn_fed :
    {E : Type 0} (past : Option Past) (machine : Machine) (first : slots.Slot) (state new end : ReaderState)
    (found : Result DiskSector slots.AddressFault) (answer : Ask) (old met : Met) (result : Result Bool E)
    → Ok answer ≡ (next_of state).answer → new ≡ (next_of state).state
    → ((now : Image) → listed_answer now machine first state.needed (run_reader now machine first (turns_left state)) new (Ok answer)
    ≡ listed_sector now (run_reader now machine first (turns_left state) state.needed) new found)
    → new.needed ≡ state.needed
    → ((bytes : List ℕ) → turns_left (fed new bytes) < turns_left state)
    → IfOk result (λ goes_on. goes_on ≡ true → IsFed new end)
    → IfOk result (λ goes_on. Told past (λ now. (behind : ReaderState → Listing) → MeetsOn goes_on old met (behind end) (listed_sector now behind new found)))
    → IfOk result (λ goes_on. Told past (λ now. MeetsOn goes_on old met (listed_ahead now machine first end) (listed_ahead now machine first state)))
turn_fed past machine first state new end found answer old met (Ok goes_on) is next asks needed fewer feeds meets =
    told_map past _ _
    (λ now meets. turn_sector now machine first state new end found answer goes_on old met is next (asks now) needed fewer feeds meets)
    meets
turn_fed past machine first state new end found answer old met (Err fault) is next asks needed fewer feeds meets = tt

-- nothing more is listed
pub turn_done :
    (image : Image) (machine : Machine) (first : slots.Slot) (state : ReaderState) (met : Met) → Ok Done ≡ (next_of state).answer
    → MeetsListing met met (listed_ahead image machine first state)
turn_done image machine first state met is =
    subst (λ listing. MeetsListing met met listing) (ahead_by image machine first state (next_of state).state (Ok Done) is refl) (meets_none met)

pub turn_refused :
    (image : Image) (machine : Machine) (first : slots.Slot) (state : ReaderState) (met : Met) (fault : SectionFault) → Err fault ≡ (next_of state).answer
    → MeetsListing met met (listed_ahead image machine first state)
turn_refused image machine first state met fault is =
    subst (λ listing. MeetsListing met met listing) (ahead_by image machine first state (next_of state).state (Err fault) is refl) (meets_none met)

-- a turn, and those before it
pub meets_on-more :
    (goes_on : Bool) (old met new : Met) (ahead behind whole : Listing) → MeetsOn true old met ahead whole → MeetsOn goes_on met new behind ahead
    → MeetsOn goes_on old new behind whole
meets_on-more true old met new ahead behind whole first second = λ end rest. first end (second end rest)
meets_on-more false old met new ahead behind whole first second = first new second

-- ---- the sectors of a slot

-- one that is there
pub meets_next :
    (met new end : Met) (machine : Machine) (slot : slots.Slot) (index count : ℕ) (behind : Listing) (place : DiskSector) → index < count
    → place_at machine slot index ≡ Ok place → Meets met new (place ∷ [])
    → MeetsListing new end (listed_slot machine slot (index + 1) (count - (index + 1)) behind)
    → MeetsListing met end (listed_slot machine slot index (count - index) behind)
meets_next met new end machine slot index count behind place more found here rest =
    let split : count - index ≡ suc (count - (index + 1)) = omega arith in
    rw (split, found) (meets_place met new end place (listed_slot machine slot (index + 1) (count - (index + 1)) behind) here rest)

-- one that isn't
pub meets_lost :
    (met : Met) (machine : Machine) (slot : slots.Slot) (index count : ℕ) (behind : Listing) → index < count
    → IsErr (place_at machine slot index) → MeetsListing met met (listed_slot machine slot index (count - index) behind)
meets_lost met machine slot index count behind more lost =
    let split : count - index ≡ suc (count - (index + 1)) = omega arith in
    rw split (by (listed_slot machine slot (index + 1) (count - (index + 1)) behind) (place_at machine slot index) lost)
  where
    by : (rest : Listing) (found : Result DiskSector slots.AddressFault) → IsErr found → MeetsListing met met (listed_place rest found)
    by rest (Ok place) lost = absurd (search rules)
    by rest (Err fault) lost = meets_none met

-- the end of them
pub meets_end :
    (met : Met) (end : Met) (machine : Machine) (slot : slots.Slot) (index count : ℕ) (behind : Listing) → count ≤ index
    → MeetsListing met end behind → MeetsListing met end (listed_slot machine slot index (count - index) behind)
meets_end met end machine slot index count behind past rest =
    let none : count - index ≡ 0 = omega arith in rw none rest

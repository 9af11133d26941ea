-- What a cursor over runs gives, call by call, and over all calls.
use Rattle.std.specs.Prelude.{◌≡◌, ◌<◌, ℕ, zero, suc, ◌+◌, Bool, true, false, if◌then◌else◌, List, [], ◌∷◌, length, drop, Option, Some, None, Result, Ok, Err}
use Rattle.std.specs.Result.{result_ok}
use Rattle.lilo_model.specs.Checks.{◌>>=◌}
use Rattle.lilo_model.specs.Disks.{DiskSector, Geometry}
use Rattle.lilo_model.specs.Slots.{Slot, Mode, AddressFault, slot_make, could_be_one}
use Rattle.lilo_model.specs.Plan.{filled_places}
use Rattle.sector_address.specs.View.{mode_view, geometry_view}
use Rattle.slot_lists.specs.declared.cursor.SlotCursor.{SlotCursor}
use Rattle.slot_lists.specs.declared.runs.Run.{Run}
use Rattle.slot_lists.specs.Made.{made_slots, compact_made}
use Rattle.slot_lists.specs.Runs.{places_in}

-- the sectors of runs that a cursor has yet to name
unfoldable pub left_of : SlotCursor → List Run → DiskSector → List DiskSector
left_of cursor runs zero_place = drop cursor.offset (filled_places zero_place (places_in (drop cursor.run runs)))

-- a cursor makes slots as it did
pub record SameKind (old new : SlotCursor) : Type 0 where
  pub mode : new.mode ≡ old.mode
  pub geometry : new.geometry ≡ old.geometry
  pub compact : new.compact ≡ old.compact

-- the first of some sectors
abbrev pub first_place : List DiskSector → Option DiskSector
first_place [] = None
first_place (place ∷ others) = Some place

-- its slot, where it has one
abbrev pub first_slot : Mode → Geometry → List DiskSector → Option Slot
first_slot mode geometry [] = None
first_slot mode geometry (place ∷ others) = result_ok (slot_make mode geometry place.disk place.sector 1)

-- a slot, and the sectors after those that it names
pub record Grown : Type 0 where
  pub slot : Slot
  pub left : List DiskSector

-- what is made of a slot that may be there
abbrev pub with_slot : {A : Type 0} → Option Slot → A → (Slot → A) → A
with_slot None otherwise made = otherwise
with_slot (Some slot) otherwise made = made slot

-- a slot that names as many of the sectors after its own as it can
abbrev pub grown : Mode → Geometry → Slot → List DiskSector → Grown
grown mode geometry slot [] = record { slot = slot; left = [] }
grown mode geometry slot (place ∷ others) =
    with_slot
    (result_ok (slot_make mode geometry place.disk place.sector 1))
    (record { slot = slot; left = place ∷ others })
    (λ next.
    if could_be_one geometry slot next
    then grown mode geometry (record slot { count = slot.count + next.count }) others
    else record { slot = slot; left = place ∷ others })

-- what a call answers, and the sectors that are left then
pub record Answered : Type 0 where
  pub answer : Result (Option Slot) AddressFault
  pub left : List DiskSector

-- the slot of a sector, and of those after it that it can name where slots are to be joined
abbrev pub after_first : Mode → Geometry → Bool → Result Slot AddressFault → List DiskSector → Answered
after_first mode geometry compact (Err fault) others = record { answer = Err fault; left = [] }
after_first mode geometry false (Ok slot) others = record { answer = Ok (Some slot); left = others }
after_first mode geometry true (Ok slot) others =
    let whole : Grown = grown mode geometry slot others in
    record { answer = Ok (Some whole.slot); left = whole.left }

-- the next slot of some sectors, or the refusal of the first
abbrev pub slot_next : Mode → Geometry → Bool → List DiskSector → Answered
slot_next mode geometry compact [] = record { answer = Ok None; left = [] }
slot_next mode geometry compact (place ∷ others) =
    after_first mode geometry compact (slot_make mode geometry place.disk place.sector 1) others

-- the same as a cursor makes it
abbrev pub next_slot : SlotCursor → List DiskSector → Answered
next_slot cursor places = slot_next (mode_view cursor.mode) (geometry_view cursor.geometry) cursor.compact places

-- the slots that so many calls give one after the other, until none is left, or the refusal
abbrev pub called : ℕ → Mode → Geometry → Bool → List DiskSector → Result (List Slot) AddressFault
called zero mode geometry compact places = Ok []
called (suc calls) mode geometry compact places =
    let next : Answered = slot_next mode geometry compact places in
    next.answer >>= λ found.
    with_slot found (Ok []) (λ slot. called calls mode geometry compact next.left >>= λ others. Ok (slot ∷ others))

-- more calls than there are sectors give the slots of all
pub record CalledAll (mode : Mode) (geometry : Geometry) (places : List DiskSector) (calls : ℕ) : Type 0 where
  pub plain : called calls mode geometry false places ≡ made_slots mode geometry places
  pub joined : called calls mode geometry true places ≡ compact_made mode geometry places

abbrev pub CursorLaw : Type 0
CursorLaw =
    (mode : Mode) (geometry : Geometry) (places : List DiskSector) (calls : ℕ) → length places < calls
    → CalledAll mode geometry places calls

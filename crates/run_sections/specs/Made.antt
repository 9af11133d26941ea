-- The slots of sectors, and those that a cursor has yet to make.
use Rattle.std.specs.Prelude.{◌≡◌, Bool, true, false, List, [], ◌∷◌, map, length, take, drop, Option, None, Some, Result, Ok}
use Rattle.lilo_model.specs.Disks.{DiskSector, Geometry}
use Rattle.lilo_model.specs.Slots.{Slot, Mode, AddressFault}
use Rattle.sector_address.specs.declared.slot.Slot as slots
use Rattle.sector_address.specs.View.{mode_view, geometry_view, slot_view}
use Rattle.slot_lists.specs.declared.cursor.SlotCursor.{SlotCursor}
use Rattle.slot_lists.specs.declared.runs.Run.{Run}
use Rattle.slot_lists.specs.Made.{made_slots, compact_made}
use Rattle.slot_lists.specs.Cursor.{left_of}

-- a slot for each sector, or joined ones where they are compact; or the first refusal
abbrev pub slots_made : Mode → Geometry → Bool → List DiskSector → Result (List Slot) AddressFault
slots_made mode geometry true places = compact_made mode geometry places
slots_made mode geometry false places = made_slots mode geometry places

-- the slots of what a cursor has yet to name
abbrev pub slots_left : SlotCursor → List Run → DiskSector → Result (List Slot) AddressFault
slots_left cursor runs zero_place =
    slots_made (mode_view cursor.mode) (geometry_view cursor.geometry) cursor.compact (left_of cursor runs zero_place)

-- a first slot of some, and the others
pub record OneMore (slot : Slot) (all : List Slot) (rest : Result (List Slot) AddressFault) : Type 0 where
  pub first : all ≡ slot ∷ drop 1 all
  pub left : rest ≡ Ok (drop 1 all)

-- what was answered is the first of some slots, and the others are left; or there is none
abbrev pub IsNext : Option slots.Slot → List Slot → Result (List Slot) AddressFault → Type 0
IsNext None all rest = (all ≡ []) × (rest ≡ Ok [])
IsNext (Some slot) all rest = OneMore (slot_view slot) all rest

-- some first slots of all were taken, and the others are left
pub record AreTaken (taken : List slots.Slot) (all : List Slot) (rest : Result (List Slot) AddressFault) : Type 0 where
  pub first : map slot_view taken ≡ take (length taken) all
  pub left : rest ≡ Ok (drop (length taken) all)

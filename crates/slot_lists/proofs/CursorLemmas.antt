-- What a cursor takes of the sectors that are left.
use Rattle.std.proofs.Common.{◌≡◌, ◌<◌, ℕ, zero, suc, ◌+◌, Bool, true, false, List, [], ◌∷◌, length, drop, Option, Some, None, Result, Ok, Err, refl, sym, ap, ◌∙◌, arith}
use Rattle.std.specs.Result.{result_ok}
use Rattle.lilo_model.specs.Checks.{◌>>=◌}
use Rattle.lilo_model.specs.Disks.{DiskSector, Geometry}
use Rattle.lilo_model.specs.Slots.{Slot, Mode, AddressFault, slot_make, could_be_one}
use Rattle.lilo_model.specs.Plan.{joined_slots, compact_slots}
use Rattle.sector_address.specs.View.{mode_view, geometry_view}
use Rattle.slot_lists.specs.declared.cursor.SlotCursor.{SlotCursor}
use Rattle.slot_lists.specs.declared.runs.Run.{Run}
use Rattle.slot_lists.specs.Made.{made_slots, compact_made, one_geometry}
use Rattle.slot_lists.specs.Cursor.{first_place, first_slot, Grown, grown, with_slot, Answered, after_first, slot_next, next_slot, called, left_of, SameKind}
use Rattle.slot_lists.proofs.RunLemmas.{left-less}

-- a list that has a first
pub first-is : (places : List DiskSector) (place : DiskSector) → first_place places ≡ Some place → places ≡ place ∷ drop 1 places
first-is [] place is = cc
first-is (first ∷ others) place is = let same : first ≡ place = cc in ap (λ first. first ∷ others) same

pub none-is : (places : List DiskSector) → first_place places ≡ None → places ≡ []
none-is [] is = refl
none-is (first ∷ others) is = cc

module _ (mode : Mode) (geometry : Geometry) where
  pub first-slot-of :
      (places : List DiskSector) (place : DiskSector) → first_place places ≡ Some place
      → first_slot mode geometry places ≡ result_ok (slot_make mode geometry place.disk place.sector 1)
  first-slot-of places place is = ap (first_slot mode geometry) (first-is places place is)

  pub no-first-slot : (places : List DiskSector) → first_place places ≡ None → first_slot mode geometry places ≡ None
  no-first-slot places is = ap (first_slot mode geometry) (none-is places is)

  -- no slot, or none that could be one with it
  pub grown-alone :
      (slot : Slot) (places : List DiskSector) → first_slot mode geometry places ≡ None
      → grown mode geometry slot places ≡ record { slot = slot; left = places }
  grown-alone slot [] is = refl
  grown-alone slot (place ∷ others) is = rw is refl

  pub grown-ends :
      (slot next : Slot) (places : List DiskSector) → first_slot mode geometry places ≡ Some next → could_be_one geometry slot next ≡ false
      → grown mode geometry slot places ≡ record { slot = slot; left = places }
  grown-ends slot next [] is one = cc
  grown-ends slot next (place ∷ others) is one = rw (is, one) refl

  pub grown-takes :
      (slot next : Slot) (places : List DiskSector) → first_slot mode geometry places ≡ Some next → could_be_one geometry slot next ≡ true
      → grown mode geometry slot places ≡ grown mode geometry (record slot { count = slot.count + next.count }) (drop 1 places)
  grown-takes slot next [] is one = cc
  grown-takes slot next (place ∷ others) is one = rw (is, one) refl

  pub next-of :
      (compact : Bool) (places : List DiskSector) (place : DiskSector) → first_place places ≡ Some place
      → slot_next mode geometry compact places ≡ after_first mode geometry compact (slot_make mode geometry place.disk place.sector 1) (drop 1 places)
  next-of compact places place is = ap (slot_next mode geometry compact) (first-is places place is)

  pub no-next : (compact : Bool) (places : List DiskSector) → first_place places ≡ None → slot_next mode geometry compact places ≡ record { answer = Ok None; left = [] }
  no-next compact places is = ap (slot_next mode geometry compact) (none-is places is)

  -- what is joined of a slot and the slots after it
  abbrev joined : Slot → List DiskSector → Result (List Slot) AddressFault
  joined slot places = made_slots mode geometry places >>= λ made. Ok (joined_slots (one_geometry geometry) slot made)

  abbrev rest-of : Grown → Result (List Slot) AddressFault
  rest-of whole = compact_made mode geometry whole.left >>= λ others. Ok (whole.slot ∷ others)

  -- what is made of a first slot and those after it
  abbrev all-after : Result Slot AddressFault → List DiskSector → Result (List Slot) AddressFault
  all-after made others = made >>= λ value. made_slots mode geometry others >>= λ values. Ok (value ∷ values)

  joined-taken :
      (slot next : Slot) (rest : Result (List Slot) AddressFault) → could_be_one geometry slot next ≡ true
      → (rest >>= λ made. Ok (next ∷ made)) >>= (λ made. Ok (joined_slots (one_geometry geometry) slot made))
      ≡ rest >>= (λ made. Ok (joined_slots (one_geometry geometry) (record slot { count = slot.count + next.count }) made))
  joined-taken slot next (Err fault) e = refl
  joined-taken slot next (Ok made) e = rw e refl

  joined-apart :
      (slot next : Slot) (rest : Result (List Slot) AddressFault) → could_be_one geometry slot next ≡ false
      → (rest >>= λ made. Ok (next ∷ made)) >>= (λ made. Ok (joined_slots (one_geometry geometry) slot made))
      ≡ ((rest >>= λ made. Ok (next ∷ made)) >>= λ made. Ok (compact_slots (one_geometry geometry) made)) >>= (λ others. Ok (slot ∷ others))
  joined-apart slot next (Err fault) e = refl
  joined-apart slot next (Ok made) e = rw e refl

  -- one place more, after which the rest is known
  joined-more :
      (slot : Slot) (place : DiskSector) (others : List DiskSector)
      → ((next : Slot) → joined (record slot { count = slot.count + next.count }) others ≡ rest-of (grown mode geometry (record slot { count = slot.count + next.count }) others))
      → (made : Result Slot AddressFault) → slot_make mode geometry place.disk place.sector 1 ≡ made
      → joined slot (place ∷ others) ≡ rest-of (grown mode geometry slot (place ∷ others))
  joined-more slot place others more (Err fault) is = rw is (rw is refl)
  joined-more slot place others more (Ok next) is = one (could_be_one geometry slot next) refl
    where
      one : (test : Bool) → could_be_one geometry slot next ≡ test → joined slot (place ∷ others) ≡ rest-of (grown mode geometry slot (place ∷ others))
      one true e =
          ap (λ made. all-after made others >>= λ made. Ok (joined_slots (one_geometry geometry) slot made)) is
          ∙ joined-taken slot next (made_slots mode geometry others) e
          ∙ more next
          ∙ ap rest-of (sym (grown-takes slot next (place ∷ others) (ap result_ok is) e))
      one false e =
          ap (λ made. all-after made others >>= λ made. Ok (joined_slots (one_geometry geometry) slot made)) is
          ∙ joined-apart slot next (made_slots mode geometry others) e
          ∙ ap (λ made. (all-after made others >>= λ made. Ok (compact_slots (one_geometry geometry) made)) >>= λ others. Ok (slot ∷ others)) (sym is)
          ∙ ap rest-of (sym (grown-ends slot next (place ∷ others) (ap result_ok is) e))

  joined-grown : (slot : Slot) (places : List DiskSector) → joined slot places ≡ rest-of (grown mode geometry slot places)
  joined-grown slot [] = refl
  joined-grown slot (place ∷ others) =
      joined-more slot place others (λ next. joined-grown (record slot { count = slot.count + next.count }) others) (slot_make mode geometry place.disk place.sector 1) refl

  -- fewer sectors are left
  fewer-more :
      (slot : Slot) (place : DiskSector) (others : List DiskSector)
      → ((next : Slot) → length (grown mode geometry (record slot { count = slot.count + next.count }) others).left < suc (length others))
      → (made : Option Slot) → result_ok (slot_make mode geometry place.disk place.sector 1) ≡ made
      → length (grown mode geometry slot (place ∷ others)).left < suc (suc (length others))
  fewer-more slot place others more None is = rw (grown-alone slot (place ∷ others) is) (omega arith)
  fewer-more slot place others more (Some next) is = one (could_be_one geometry slot next) refl
    where
      one : (test : Bool) → could_be_one geometry slot next ≡ test → length (grown mode geometry slot (place ∷ others)).left < suc (suc (length others))
      one true e = rw (grown-takes slot next (place ∷ others) is e) (let fewer = more next in omega (arith, fewer))
      one false e = rw (grown-ends slot next (place ∷ others) is e) (omega arith)

  grown-fewer : (slot : Slot) (places : List DiskSector) → length (grown mode geometry slot places).left < suc (length places)
  grown-fewer slot [] = omega arith
  grown-fewer slot (place ∷ others) =
      fewer-more slot place others (λ next. grown-fewer (record slot { count = slot.count + next.count }) others) (result_ok (slot_make mode geometry place.disk place.sector 1)) refl

  -- ---- all calls

  -- what a call and those after it give
  abbrev goes-on : ℕ → Bool → Answered → Result (List Slot) AddressFault
  goes-on calls compact next =
      next.answer >>= λ found.
      with_slot found (Ok []) (λ slot. called calls mode geometry compact next.left >>= λ others. Ok (slot ∷ others))

  plain-more :
      (place : DiskSector) (others : List DiskSector) (calls : ℕ) → called calls mode geometry false others ≡ made_slots mode geometry others
      → (made : Result Slot AddressFault) → goes-on calls false (after_first mode geometry false made others) ≡ all-after made others
  plain-more place others calls more (Err fault) = refl
  plain-more place others calls more (Ok slot) = ap (λ rest. rest >>= λ others. Ok (slot ∷ others)) more

  pub called-plain : (places : List DiskSector) (calls : ℕ) → length places < calls → called calls mode geometry false places ≡ made_slots mode geometry places
  called-plain places zero enough = absurd (omega (arith, enough))
  called-plain [] (suc calls) enough = refl
  called-plain (place ∷ others) (suc calls) enough =
      plain-more place others calls (called-plain others calls (omega (arith, enough))) (slot_make mode geometry place.disk place.sector 1)

  joined-whole :
      (slot : Slot) (rest : Result (List Slot) AddressFault)
      → rest >>= (λ made. Ok (joined_slots (one_geometry geometry) slot made))
      ≡ (rest >>= λ values. Ok (slot ∷ values)) >>= (λ made. Ok (compact_slots (one_geometry geometry) made))
  joined-whole slot (Err fault) = refl
  joined-whole slot (Ok made) = refl

  joined-calls :
      (others : List DiskSector) (calls : ℕ)
      → ((slot : Slot) → called calls mode geometry true (grown mode geometry slot others).left ≡ compact_made mode geometry (grown mode geometry slot others).left)
      → (made : Result Slot AddressFault)
      → goes-on calls true (after_first mode geometry true made others) ≡ all-after made others >>= (λ made. Ok (compact_slots (one_geometry geometry) made))
  joined-calls others calls more (Err fault) = refl
  joined-calls others calls more (Ok slot) =
      ap (λ rest. rest >>= λ after. Ok ((grown mode geometry slot others).slot ∷ after)) (more slot)
      ∙ sym (joined-grown slot others)
      ∙ joined-whole slot (made_slots mode geometry others)

  pub called-joined : (places : List DiskSector) (calls : ℕ) → length places < calls → called calls mode geometry true places ≡ compact_made mode geometry places
  called-joined places zero enough = absurd (omega (arith, enough))
  called-joined [] (suc calls) enough = refl
  called-joined (place ∷ others) (suc calls) enough =
      joined-calls others calls
      (λ slot. let fewer = grown-fewer slot others in called-joined (grown mode geometry slot others).left calls (omega (arith, enough, fewer)))
      (slot_make mode geometry place.disk place.sector 1)

-- ---- one call

module _ (before placed : SlotCursor) (runs : List Run) (zero_place place : DiskSector) (same : SameKind before placed)
    (kept : left_of placed runs zero_place ≡ left_of before runs zero_place)
    (first : Some place ≡ first_place (left_of before runs zero_place)) where
  -- what the cursor at a sector leaves after it
  pub left-after : left_of (record placed { offset = placed.offset + 1 }) runs zero_place ≡ drop 1 (left_of before runs zero_place)
  unfolding left_of
  left-after = left-less zero_place runs placed.run placed.offset ∙ ap (drop 1) kept

  next-is :
      (made : Result Slot AddressFault) → made ≡ slot_make (mode_view placed.mode) (geometry_view placed.geometry) place.disk place.sector 1
      → next_slot before (left_of before runs zero_place)
      ≡ after_first (mode_view placed.mode) (geometry_view placed.geometry) placed.compact made (left_of (record placed { offset = placed.offset + 1 }) runs zero_place)
  next-is made is =
      ap (λ mode. slot_next (mode_view mode) (geometry_view before.geometry) before.compact (left_of before runs zero_place)) (sym same.mode)
      ∙ ap (λ geometry. slot_next (mode_view placed.mode) (geometry_view geometry) before.compact (left_of before runs zero_place)) (sym same.geometry)
      ∙ ap (λ compact. slot_next (mode_view placed.mode) (geometry_view placed.geometry) compact (left_of before runs zero_place)) (sym same.compact)
      ∙ next-of (mode_view placed.mode) (geometry_view placed.geometry) placed.compact (left_of before runs zero_place) place (sym first)
      ∙ ap (λ made. after_first (mode_view placed.mode) (geometry_view placed.geometry) placed.compact made (drop 1 (left_of before runs zero_place))) (sym is)
      ∙ ap (after_first (mode_view placed.mode) (geometry_view placed.geometry) placed.compact made) (sym left-after)

  -- what it answers, where slots are joined and where they aren't
  pub next-with :
      (compact : Bool) → placed.compact ≡ compact → (made : Result Slot AddressFault)
      → made ≡ slot_make (mode_view placed.mode) (geometry_view placed.geometry) place.disk place.sector 1
      → next_slot before (left_of before runs zero_place)
      ≡ after_first (mode_view placed.mode) (geometry_view placed.geometry) compact made (left_of (record placed { offset = placed.offset + 1 }) runs zero_place)
  next-with compact joins made is =
      next-is made is
      ∙ ap (λ compact. after_first (mode_view placed.mode) (geometry_view placed.geometry) compact made (left_of (record placed { offset = placed.offset + 1 }) runs zero_place)) joins

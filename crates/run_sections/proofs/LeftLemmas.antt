-- The slots that are left after one more.
use Rattle.std.proofs.Common.{◌≡◌, ◌<◌, ◌≤◌, ℕ, zero, suc, ◌+◌, Bool, true, false, List, [], ◌∷◌, ◌++◌, length, map, take, drop, Option, Some, None, Result, Ok, Err, length-append, refl, sym, ap, subst, ◌∙◌, arith}
use Rattle.std.specs.Option.{option_map}
use Rattle.std.proofs.lemmas.List.{drop-drop, map-append}
use Rattle.lilo_model.specs.Checks.{◌>>=◌}
use Rattle.lilo_model.specs.Disks.{DiskSector, Geometry}
use Rattle.lilo_model.specs.Slots as model
use Rattle.lilo_model.specs.Slots.{Mode, AddressFault, slot_make}
use Rattle.sector_address.specs.declared.slot.Slot.{Slot}
use Rattle.sector_address.specs.View.{mode_view, geometry_view, slot_view}
use Rattle.slot_lists.specs.declared.cursor.SlotCursor.{SlotCursor}
use Rattle.slot_lists.specs.declared.runs.Run.{Run}
use Rattle.slot_lists.specs.Made.{made_slots}
use Rattle.slot_lists.specs.Cursor.{with_slot, Answered, after_first, slot_next, next_slot, called, left_of, SameKind}
use Rattle.slot_lists.proofs.CursorLemmas.{called-plain, called-joined}
use Rattle.run_sections.specs.Made.{slots_made, slots_left, OneMore, IsNext, AreTaken}

-- more calls than there are sectors make all slots
called-all : (mode : Mode) (geometry : Geometry) (compact : Bool) (places : List DiskSector) (calls : ℕ) → length places < calls
    → called calls mode geometry compact places ≡ slots_made mode geometry compact places
called-all mode geometry true places calls enough = called-joined mode geometry places calls enough
called-all mode geometry false places calls enough = called-plain mode geometry places calls enough

-- the slots of some sectors are the next one and those of what is left after it
made-next : (mode : Mode) (geometry : Geometry) (compact : Bool) (places : List DiskSector)
    → slots_made mode geometry compact places
    ≡ ((slot_next mode geometry compact places).answer >>= λ found.
    with_slot found (Ok []) (λ slot. slots_made mode geometry compact (slot_next mode geometry compact places).left >>= λ others. Ok (slot ∷ others)))
made-next mode geometry compact places =
    sym (called-all mode geometry compact places (suc calls) (omega arith))
    ∙ ap (λ (rest : Result (List model.Slot) AddressFault). next.answer >>= λ found. with_slot found (Ok []) (λ slot. rest >>= λ others. Ok (slot ∷ others)))
    (called-all mode geometry compact next.left calls (omega arith))
  where
    next : Answered
    next = slot_next mode geometry compact places

    calls : ℕ
    calls = length places + length (slot_next mode geometry compact places).left + 1

-- nothing is left where no slot is
none-left : (mode : Mode) (geometry : Geometry) (compact : Bool) (places : List DiskSector) → (slot_next mode geometry compact places).answer ≡ Ok None
    → (slot_next mode geometry compact places).left ≡ []
none-left mode geometry compact [] is = refl
none-left mode geometry compact (place ∷ others) is = by compact (slot_make mode geometry place.disk place.sector 1) is
  where
    by : (compact : Bool) (made : Result model.Slot AddressFault)
        → (after_first mode geometry compact made others).answer ≡ Ok None
        → (after_first mode geometry compact made others).left ≡ []
    by compact (Err fault) is = cc
    by true (Ok slot) is = cc
    by false (Ok slot) is = cc

made-none : (mode : Mode) (geometry : Geometry) (compact : Bool) → slots_made mode geometry compact [] ≡ Ok []
made-none mode geometry true = refl
made-none mode geometry false = refl

abbrev Slots : Type 0
Slots = Result (List model.Slot) AddressFault

one-more : (slot : model.Slot) (all : List model.Slot) (rest : Slots) → (rest >>= λ others. Ok (slot ∷ others)) ≡ Ok all → OneMore slot all rest
one-more slot all (Err fault) is = cc
one-more slot [] (Ok others) is = cc
one-more slot (first ∷ more) (Ok others) is =
    let same : slot ≡ first = cc in
    let rest : others ≡ more = cc in
    record { first = ap (λ one. one ∷ more) (sym same); left = ap Ok rest }

same-list : (all : List model.Slot) (made : Slots) → made ≡ Ok [] → made ≡ Ok all → all ≡ []
same-list [] made none is = refl
same-list (slot ∷ all) made none is = cc

not-both : (fault : AddressFault) (all : List model.Slot) → Err fault ≡ Ok all → ⊥
not-both fault all same = cc

-- a cursor that was made
pub begun : (cursor : SlotCursor) (runs : List Run) (zero_place : DiskSector) (mode : Mode) (geometry : Geometry) (compact : Bool) (places : List DiskSector) (all : List model.Slot)
    → mode_view cursor.mode ≡ mode → geometry_view cursor.geometry ≡ geometry → cursor.compact ≡ compact → left_of cursor runs zero_place ≡ places
    → slots_made mode geometry compact places ≡ Ok all → slots_left cursor runs zero_place ≡ Ok all
begun cursor runs zero_place mode geometry compact places all a b c d made =
    ap (λ mode. slots_made mode (geometry_view cursor.geometry) cursor.compact (left_of cursor runs zero_place)) a
    ∙ ap (λ geometry. slots_made mode geometry cursor.compact (left_of cursor runs zero_place)) b
    ∙ ap (λ compact. slots_made mode geometry compact (left_of cursor runs zero_place)) c
    ∙ ap (slots_made mode geometry compact) d
    ∙ made

module _ (old new : SlotCursor) (runs : List Run) (zero_place : DiskSector) (same : SameKind old new)
    (left : left_of new runs zero_place ≡ (next_slot old (left_of old runs zero_place)).left) where
  abbrev Next : Answered
  Next = next_slot old (left_of old runs zero_place)

  -- the slots that are left then
  after : slots_left new runs zero_place ≡ slots_made (mode_view old.mode) (geometry_view old.geometry) old.compact Next.left
  after =
      ap (λ mode. slots_made (mode_view mode) (geometry_view new.geometry) new.compact (left_of new runs zero_place)) same.mode
      ∙ ap (λ geometry. slots_made (mode_view old.mode) (geometry_view geometry) new.compact (left_of new runs zero_place)) same.geometry
      ∙ ap (λ compact. slots_made (mode_view old.mode) (geometry_view old.geometry) compact (left_of new runs zero_place)) same.compact
      ∙ ap (slots_made (mode_view old.mode) (geometry_view old.geometry) old.compact) left

  abbrev with-answer : Result (Option model.Slot) AddressFault → Slots
  with-answer answer =
      answer >>= λ found.
      with_slot found (Ok [])
      (λ slot. slots_made (mode_view old.mode) (geometry_view old.geometry) old.compact Next.left >>= λ others. Ok (slot ∷ others))

  before : (answer : Result (Option model.Slot) AddressFault) → answer ≡ Next.answer → slots_left old runs zero_place ≡ with-answer answer
  before answer is = made-next (mode_view old.mode) (geometry_view old.geometry) old.compact (left_of old runs zero_place) ∙ ap with-answer (sym is)

  left-some : (slot : model.Slot) (all : List model.Slot) → Ok (Some slot) ≡ Next.answer → slots_left old runs zero_place ≡ Ok all
      → OneMore slot all (slots_left new runs zero_place)
  left-some slot all is made =
      subst (OneMore slot all) (sym after)
      (one-more slot all (slots_made (mode_view old.mode) (geometry_view old.geometry) old.compact Next.left) (sym (before (Ok (Some slot)) is) ∙ made))

  left-none : (all : List model.Slot) → Ok None ≡ Next.answer → slots_left old runs zero_place ≡ Ok all
      → (all ≡ []) × (slots_left new runs zero_place ≡ Ok [])
  left-none all is made = (
    same-list all (with-answer (Ok None)) refl (sym (before (Ok None) is) ∙ made),
    after
        ∙ ap (slots_made (mode_view old.mode) (geometry_view old.geometry) old.compact) (none-left (mode_view old.mode) (geometry_view old.geometry) old.compact (left_of old runs zero_place) (sym is))
        ∙ made-none (mode_view old.mode) (geometry_view old.geometry) old.compact,
  )

  -- what was found, and what is left then
  pub left-found : (found : Option Slot) (all : List model.Slot) → Ok (option_map slot_view found) ≡ Next.answer → slots_left old runs zero_place ≡ Ok all
      → IsNext found all (slots_left new runs zero_place)
  left-found None all is made = left-none all is made
  left-found (Some slot) all is made = left-some (slot_view slot) all is made

  -- where all have slots nothing is refused
  pub left-refused : (fault : AddressFault) (all : List model.Slot) → Err fault ≡ Next.answer → slots_left old runs zero_place ≡ Ok all → ⊥
  left-refused fault all is made = not-both fault all (sym (before (Err fault) is) ∙ made)

-- ---- sectors that are passed

-- a slot for each sector: those of the others, where some are passed
made-dropped : (mode : Mode) (geometry : Geometry) (n : ℕ) (places : List DiskSector) (all : List model.Slot)
    → made_slots mode geometry places ≡ Ok all → made_slots mode geometry (drop n places) ≡ Ok (drop n all)
made-dropped mode geometry zero places all made = made
made-dropped mode geometry (suc n) [] all made =
    let none : [] ≡ all = cc in
    ap (λ all. Ok (drop (suc n) all)) none
made-dropped mode geometry (suc n) (place ∷ others) all made =
    by (slot_make mode geometry place.disk place.sector 1) (made_slots mode geometry others) refl made (made-dropped mode geometry n others)
  where
    by : (first : Result model.Slot AddressFault) (rest : Slots) → made_slots mode geometry others ≡ rest
        → (first >>= λ value. rest >>= λ values. Ok (value ∷ values)) ≡ Ok all
        → ((more : List model.Slot) → made_slots mode geometry others ≡ Ok more → made_slots mode geometry (drop n others) ≡ Ok (drop n more))
        → made_slots mode geometry (drop n others) ≡ Ok (drop (suc n) all)
    by (Err fault) rest is whole after = cc
    by (Ok slot) (Err fault) is whole after = cc
    by (Ok slot) (Ok more) is whole after =
        let same : slot ∷ more ≡ all = cc in
        after more is ∙ ap (λ all. Ok (drop (suc n) all)) same

pub skipped : (old new : SlotCursor) (runs : List Run) (zero_place : DiskSector) (n : ℕ) (all : List model.Slot)
    → SameKind old new → old.compact ≡ false → left_of new runs zero_place ≡ drop n (left_of old runs zero_place)
    → slots_left old runs zero_place ≡ Ok all → slots_left new runs zero_place ≡ Ok (drop n all)
skipped old new runs zero_place n all same plain left made =
    ap (λ mode. slots_made (mode_view mode) (geometry_view new.geometry) new.compact (left_of new runs zero_place)) same.mode
    ∙ ap (λ geometry. slots_made (mode_view old.mode) (geometry_view geometry) new.compact (left_of new runs zero_place)) same.geometry
    ∙ ap (λ compact. slots_made (mode_view old.mode) (geometry_view old.geometry) compact (left_of new runs zero_place)) (same.compact ∙ plain)
    ∙ ap (made_slots (mode_view old.mode) (geometry_view old.geometry)) left
    ∙ made-dropped (mode_view old.mode) (geometry_view old.geometry) n (left_of old runs zero_place) all
    (sym (ap (λ compact. slots_made (mode_view old.mode) (geometry_view old.geometry) compact (left_of old runs zero_place)) plain) ∙ made)

-- ---- lists

pub drop-more : {A : Type 0} (n : ℕ) (xs : List A) → drop 1 (drop n xs) ≡ drop (n + 1) xs
drop-more n xs = drop-drop 1 n xs

take-suc : {A : Type 0} (n : ℕ) (xs rest : List A) (x : A) → drop n xs ≡ x ∷ rest → take (suc n) xs ≡ take n xs ++ x ∷ []
take-suc zero [] rest x is = cc
take-suc zero (first ∷ xs) rest x is = let same : first ≡ x = cc in ap (λ one. one ∷ []) same
take-suc (suc n) [] rest x is = cc
take-suc (suc n) (first ∷ xs) rest x is = ap (λ others. first ∷ others) (take-suc n xs rest x is)

take-more : {A : Type 0} (n : ℕ) (xs rest : List A) (x : A) → drop n xs ≡ x ∷ rest → take (n + 1) xs ≡ take n xs ++ x ∷ []
take-more n xs rest x is =
    let one : n + 1 ≡ suc n = omega arith in
    ap (λ n. take n xs) one ∙ take-suc n xs rest x is

take-none : {A : Type 0} (m : ℕ) (xs : List A) → xs ≡ [] → take m xs ≡ []
take-none zero xs is = refl
take-none (suc m) [] is = refl
take-none (suc m) (x ∷ xs) is = cc

pub take-all : {A : Type 0} (n m : ℕ) (xs : List A) → drop n xs ≡ [] → n ≤ m → take m xs ≡ take n xs
take-all zero m xs none less = take-none m xs none
take-all (suc n) zero xs none less = absurd (omega (arith, less))
take-all (suc n) (suc m) [] none less = refl
take-all (suc n) (suc m) (x ∷ xs) none less = ap (λ rest. x ∷ rest) (take-all n m xs none (omega (arith, less)))

drop-nothing : {A : Type 0} (m : ℕ) (xs : List A) → xs ≡ [] → drop m xs ≡ []
drop-nothing zero xs is = is
drop-nothing (suc m) [] is = refl
drop-nothing (suc m) (x ∷ xs) is = cc

pub drop-none : {A : Type 0} (n m : ℕ) (xs : List A) → drop n xs ≡ [] → n ≤ m → drop m xs ≡ []
drop-none zero m xs none less = drop-nothing m xs none
drop-none (suc n) zero xs none less = absurd (omega (arith, less))
drop-none (suc n) (suc m) [] none less = refl
drop-none (suc n) (suc m) (x ∷ xs) none less = drop-none n m xs none (omega (arith, less))

-- one slot more is taken
pub taken-more : (taken now : List Slot) (slot : Slot) (all : List model.Slot) (before rest : Result (List model.Slot) AddressFault)
    → AreTaken taken all before → OneMore (slot_view slot) (drop (length taken) all) rest → now ≡ taken ++ slot ∷ []
    → AreTaken now all rest
taken-more taken now slot all before rest so one is =
    let long : length now ≡ length taken + 1 = ap length is ∙ length-append taken (slot ∷ []) in
    record {
      first =
          ap (map slot_view) is ∙ map-append slot_view taken (slot ∷ [])
          ∙ ap (λ those. those ++ slot_view slot ∷ []) so.first
          ∙ sym (take-more (length taken) all (drop 1 (drop (length taken) all)) (slot_view slot) one.first)
          ∙ ap (λ n. take n all) (sym long);
      left = one.left ∙ ap Ok (drop-more (length taken) all) ∙ ap (λ n. Ok (drop n all)) (sym long);
    }

-- none is taken yet
pub taken-none : (taken : List Slot) (all : List model.Slot) (rest : Result (List model.Slot) AddressFault) → taken ≡ [] → rest ≡ Ok all → AreTaken taken all rest
taken-none [] all rest is made = record { first = refl; left = made }
taken-none (slot ∷ taken) all rest is made = cc

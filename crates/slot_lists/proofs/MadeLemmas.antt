-- Slots that are made one after the other, until one is refused.
use Rattle.std.proofs.Common.{◌≡◌, ◌<◌, ℕ, zero, suc, ◌+◌, List, [], ◌∷◌, ◌++◌, length, map, take, add-one, Result, Ok, Err, refl, sym, ap, ◌∙◌, arith}
use Rattle.std.specs.Prelude.{slice_index_or}
use Rattle.std.proofs.lemmas.List.{map-append}
use Rattle.lilo_model.specs.Checks.{◌>>=◌, each}
use Rattle.lilo_model.specs.Disks.{Geometry}
use Rattle.lilo_model.specs.Slots as model
use Rattle.lilo_model.specs.Slots.{Mode, slot_make}
use Rattle.sector_address.specs.declared.slot.Slot.{Slot}
use Rattle.sector_address.specs.View.{slot_view}
use Rattle.slot_lists.specs.declared.slots.DiskSector.{DiskSector}
use Rattle.slot_lists.specs.Made.{place_view, made_slots, is_made, places_check}

module _ {X Y A F : Type 0} (check : Y → Result A F) (view : X → Y) where
  -- a check that passes after some that passed
  each-more :
      (xs : List X) (index : ℕ) (other : X) (values : List A) (value : A) → index < length xs
      → each (map check (map view (take index xs))) ≡ Ok values → check (view (slice_index_or xs index other)) ≡ Ok value
      → each (map check (map view (take (suc index) xs))) ≡ Ok (values ++ (value ∷ []))
  each-more [] index other values value below before is = absurd (omega (arith, below))
  each-more (x ∷ xs) zero other values value below before is = rw is (sym (ap Ok none))
    where
      none : values ++ (value ∷ []) ≡ value ∷ []
      none = let empty : values ≡ [] = cc in ap (λ values. values ++ (value ∷ [])) empty
  each-more (x ∷ xs) (suc index) other values value below before is =
      by (check (view x)) (each (map check (map view (take index xs)))) refl refl before
      (λ others e. each-more xs index other others value (omega (arith, below)) e is)
    where
      by : (first : Result A F) (rest : Result (List A) F) → check (view x) ≡ first → each (map check (map view (take index xs))) ≡ rest
          → (first >>= λ value. rest >>= λ values. Ok (value ∷ values)) ≡ Ok values
          → ((others : List A) → each (map check (map view (take index xs))) ≡ Ok others → each (map check (map view (take (suc index) xs))) ≡ Ok (others ++ (value ∷ [])))
          → each (check (view x) ∷ map check (map view (take (suc index) xs))) ≡ Ok (values ++ (value ∷ []))
      by (Err fault) rest e1 e2 h more = cc
      by (Ok one) (Err fault) e1 e2 h more = cc
      by (Ok one) (Ok others) e1 e2 h more =
          let all : values ≡ one ∷ others = cc in
          rw (e1, more others e2) (ap (λ values. Ok (values ++ (value ∷ []))) (sym all))

  -- one that fails
  each-stops :
      (xs : List X) (index : ℕ) (other : X) (values : List A) (fault : F) → index < length xs
      → each (map check (map view (take index xs))) ≡ Ok values → check (view (slice_index_or xs index other)) ≡ Err fault
      → each (map check (map view xs)) ≡ Err fault
  each-stops [] index other values fault below before is = absurd (omega (arith, below))
  each-stops (x ∷ xs) zero other values fault below before is = rw is refl
  each-stops (x ∷ xs) (suc index) other values fault below before is =
      by (check (view x)) (each (map check (map view (take index xs)))) refl refl before
      (λ others e. each-stops xs index other others fault (omega (arith, below)) e is)
    where
      by : (first : Result A F) (rest : Result (List A) F) → check (view x) ≡ first → each (map check (map view (take index xs))) ≡ rest
          → (first >>= λ value. rest >>= λ values. Ok (value ∷ values)) ≡ Ok values
          → ((others : List A) → each (map check (map view (take index xs))) ≡ Ok others → each (map check (map view xs)) ≡ Err fault)
          → each (check (view x) ∷ map check (map view xs)) ≡ Err fault
      by (Err other-fault) rest e1 e2 h stops = cc
      by (Ok one) (Err other-fault) e1 e2 h stops = cc
      by (Ok one) (Ok others) e1 e2 h stops = rw (e1, stops others e2) refl

module _ (mode : Mode) (geometry : Geometry) (places : List DiskSector) (index : ℕ) (other : DiskSector) (slots : List Slot) (below : index < length places)
    (before : made_slots mode geometry (map place_view (take index places)) ≡ Ok (map slot_view slots)) where
  abbrev place : DiskSector
  place = slice_index_or places index other

  -- the slot of one sector more
  pub made-more :
      (slot : Slot) (now : List Slot) → slot_make mode geometry place.disk place.sector 1 ≡ Ok (slot_view slot) → now ≡ slots ++ (slot ∷ [])
      → made_slots mode geometry (map place_view (take (index + 1) places)) ≡ Ok (map slot_view now)
  made-more slot now is more =
      ap (λ n. made_slots mode geometry (map place_view (take n places))) (add-one index)
      ∙ each-more (λ place. slot_make mode geometry place.disk place.sector 1) place_view places index other (map slot_view slots) (slot_view slot) below before is
      ∙ ap Ok (sym (ap (map slot_view) more ∙ map-append slot_view slots (slot ∷ [])))

  -- a sector that no slot can name
  pub made-stops :
      (fault : model.AddressFault) → slot_make mode geometry place.disk place.sector 1 ≡ Err fault
      → made_slots mode geometry (map place_view places) ≡ Err fault
  made-stops fault is =
      each-stops (λ place. slot_make mode geometry place.disk place.sector 1) place_view places index other (map slot_view slots) fault below before is

module _ (mode : Mode) (geometry : Geometry) (places : List DiskSector) (index : ℕ) (other : DiskSector) (below : index < length places)
    (before : places_check mode geometry (map place_view (take index places)) ≡ Ok tt) where
  abbrev next-place : DiskSector
  next-place = slice_index_or places index other

  -- those before it have slots
  some-made : (made : Result (List model.Slot) model.AddressFault) → made_slots mode geometry (map place_view (take index places)) ≡ made
      → is_made made ≡ Ok tt → {P : Type 0} → ((slots : List model.Slot) → made_slots mode geometry (map place_view (take index places)) ≡ Ok slots → P) → P
  some-made (Ok slots) is passes then-so = then-so slots is
  some-made (Err fault) is passes then-so = cc

  -- one place more has a slot
  pub check-more :
      (slot : model.Slot) → slot_make mode geometry next-place.disk next-place.sector 1 ≡ Ok slot
      → places_check mode geometry (map place_view (take (index + 1) places)) ≡ Ok tt
  check-more slot is =
      ap (λ n. places_check mode geometry (map place_view (take n places))) (add-one index)
      ∙ some-made (made_slots mode geometry (map place_view (take index places))) refl before
      (λ slots made. ap is_made (each-more (λ place. slot_make mode geometry place.disk place.sector 1) place_view places index other slots slot below made is))

  -- or has none
  pub check-stops :
      (fault : model.AddressFault) → slot_make mode geometry next-place.disk next-place.sector 1 ≡ Err fault
      → places_check mode geometry (map place_view places) ≡ Err fault
  check-stops fault is =
      some-made (made_slots mode geometry (map place_view (take index places))) refl before
      (λ slots made. ap is_made (each-stops (λ place. slot_make mode geometry place.disk place.sector 1) place_view places index other slots fault below made is))

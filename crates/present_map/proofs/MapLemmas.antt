-- The sectors of a table.
use Rattle.std.proofs.Common.{◌≡◌, ◌<◌, ◌+◌, ◌∙◌, ℕ, refl, ap, List, [], ◌∷◌, map, length, drop, add-one, Result, Ok, Err, rules}
use Rattle.std.specs.Prelude.{IsOk, IsErr, slice_index_or}
use Rattle.std.proofs.Math.Seq.{drop-cons}
use Rattle.lilo_model.specs.Checks.{◌>>=◌, each, with_fault}
use Rattle.lilo_model.specs.Disks.{Image, Machine, DiskSector, bytes_at}
use Rattle.lilo_model.specs.Slots as slots
use Rattle.lilo_model.specs.Slots.{Slot, AddressFault, place_at}
use Rattle.lilo_model.specs.Boot.{slot_bytes_at}
use Rattle.lilo_model.specs.Mapped.{found_places}
use Rattle.bios_model.specs.Machine.{slots_bytes_at, first_places}
use Rattle.sector_address.specs.View.{slot_view}
use Rattle.sector_address.specs.declared.slot.Slot as declared
use Rattle.present_map.specs.Map.{AreThere}
use Rattle.present_map.specs.Zones.{Met, Meets}
use Rattle.present_map.proofs.ZonesLemmas.{meets_none, meets_more}

module _ (image : Image) (machine : Machine) where
  place-bytes :
      (found : Result DiskSector AddressFault) (places : Result (List DiskSector) AddressFault)
      → ((found >>= λ place. Ok (bytes_at image place)) >>= λ bytes. (places >>= λ places. Ok (map (bytes_at image) places)) >>= λ others. Ok (bytes ∷ others))
      ≡ ((found >>= λ place. places >>= λ places. Ok (place ∷ places)) >>= λ places. Ok (map (bytes_at image) places))
  place-bytes (Ok place) (Ok places) = refl
  place-bytes (Ok place) (Err fault) = refl
  place-bytes (Err fault) places = refl

  each-bytes :
      (some : List Slot)
      → each (map (slot_bytes_at image machine) some)
      ≡ (each (map (λ slot. place_at machine slot 0) some) >>= λ places. Ok (map (bytes_at image) places))
  unfolding slot_bytes_at
  each-bytes [] = refl
  each-bytes (slot ∷ some) =
      ap (λ found. (place_at machine slot 0 >>= λ place. Ok (bytes_at image place)) >>= λ bytes. found >>= λ others. Ok (bytes ∷ others)) (each-bytes some)
      ∙ place-bytes (place_at machine slot 0) (each (map (λ slot. place_at machine slot 0) some))

  -- what was read of slots is what is at their places
  pub bytes-at-places :
      (some : List Slot) (bytes : List (List ℕ)) (places : List DiskSector) → slots_bytes_at image machine some ≡ Ok bytes
      → each (map (λ slot. place_at machine slot 0) some) ≡ Ok places → bytes ≡ map (bytes_at image) places
  bytes-at-places some bytes places read found =
      let is : with_fault (λ fault. slots.NotFound) (each (map (λ slot. place_at machine slot 0) some) >>= λ places. Ok (map (bytes_at image) places)) ≡ Ok bytes = rw (← each-bytes some) read in
      let given = rw found at is in
      cc

-- ---- slots up to the first that names no sector

-- one that does
pub found_next :
    (met new end : Met) (found : Result DiskSector AddressFault) (place : DiskSector) (rest : List (Result DiskSector AddressFault))
    → found ≡ Ok place → Meets met new (place ∷ []) → Meets new end (found_places rest) → Meets met end (found_places (found ∷ rest))
found_next met new end found place rest is here others = rw is (meets_more met new end (place ∷ []) (found_places rest) here others)

-- one that doesn't
pub found_lost :
    (met : Met) (found : Result DiskSector AddressFault) (rest : List (Result DiskSector AddressFault)) → IsErr found
    → Meets met met (found_places (found ∷ rest))
found_lost met (Ok place) rest lost = absurd (search rules)
found_lost met (Err fault) rest lost = meets_none met

pub each_ok :
    {A F : Type 0} (found : Result A F) (value : A) (rest : List (Result A F)) → found ≡ Ok value → IsOk (each rest) → IsOk (each (found ∷ rest))
each_ok {A = A} {F = F} found value rest is there = rw is (by (each rest) there)
  where
    by : (others : Result (List A) F) → IsOk others → IsOk (others >>= λ values. Ok (value ∷ values))
    by (Ok values) there = search rules
    by (Err fault) there = absurd (search rules)

pub each_err :
    {A F : Type 0} (found : Result A F) (value : A) (rest : List (Result A F)) → found ≡ Ok value → IsErr (each rest) → IsErr (each (found ∷ rest))
each_err {A = A} {F = F} found value rest is lost = rw is (by (each rest) lost)
  where
    by : (others : Result (List A) F) → IsErr others → IsErr (others >>= λ values. Ok (value ∷ values))
    by (Ok values) lost = absurd (search rules)
    by (Err fault) lost = search rules

pub each_lost : {A F : Type 0} (found : Result A F) (rest : List (Result A F)) → IsErr found → IsErr (each (found ∷ rest))
each_lost (Ok value) rest lost = absurd (search rules)
each_lost (Err fault) rest lost = search rules

-- slots that are there name sectors
first-same :
    (machine : Machine) (some : List declared.Slot) → first_places machine some ≡ each (map (λ slot. place_at machine slot 0) (map slot_view some))
first-same machine [] = refl
first-same machine (slot ∷ some) =
    ap (λ others. place_at machine (slot_view slot) 0 >>= λ place. others >>= λ places. Ok (place ∷ places)) (first-same machine some)

pub not_lost : (machine : Machine) (some : List declared.Slot) → AreThere machine (map slot_view some) → IsErr (first_places machine some) → ⊥
not_lost machine some there lost = by _ there (rw (← first-same machine some) lost)
  where
    by : (found : Result (List DiskSector) AddressFault) → IsOk found → IsErr found → ⊥
    by (Ok places) there lost = absurd (search rules)
    by (Err fault) there lost = absurd (search rules)

-- ---- slots one after another

module _ (machine : Machine) (some : List declared.Slot) (index : ℕ) (other : declared.Slot) where
  -- the slot of an index, and those after it
  split : index < length some → drop index some ≡ slice_index_or some index other ∷ drop (index + 1) some
  split below = rw add-one (drop-cons some index other below)

  -- what they name
  abbrev named : List declared.Slot → List (Result DiskSector AddressFault)
  named slots = map (λ slot. place_at machine slot 0) (map slot_view slots)

  pub slot_next :
      (met new end : Met) (place : DiskSector) → index < length some
      → place_at machine (slot_view (slice_index_or some index other)) 0 ≡ Ok place → Meets met new (place ∷ [])
      → Meets new end (found_places (named (drop (index + 1) some))) → Meets met end (found_places (named (drop index some)))
  slot_next met new end place below is here others = rw (split below) (found_next met new end _ place (named (drop (index + 1) some)) is here others)

  pub slot_lost :
      (met : Met) → index < length some → IsErr (place_at machine (slot_view (slice_index_or some index other)) 0)
      → Meets met met (found_places (named (drop index some)))
  slot_lost met below lost = rw (split below) (found_lost met _ (named (drop (index + 1) some)) lost)

  pub slot_ok :
      (place : DiskSector) → index < length some → place_at machine (slot_view (slice_index_or some index other)) 0 ≡ Ok place
      → IsOk (each (named (drop (index + 1) some))) → IsOk (each (named (drop index some)))
  slot_ok place below is there = rw (split below) (each_ok _ place (named (drop (index + 1) some)) is there)

  pub slot_err :
      (place : DiskSector) → index < length some → place_at machine (slot_view (slice_index_or some index other)) 0 ≡ Ok place
      → IsErr (each (named (drop (index + 1) some))) → IsErr (each (named (drop index some)))
  slot_err place below is lost = rw (split below) (each_err _ place (named (drop (index + 1) some)) is lost)

  pub slot_none :
      index < length some → IsErr (place_at machine (slot_view (slice_index_or some index other)) 0) → IsErr (each (named (drop index some)))
  slot_none below lost = rw (split below) (each_lost _ (named (drop (index + 1) some)) lost)

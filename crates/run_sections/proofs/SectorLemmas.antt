-- The section sectors of a file that is planned.
use Rattle.std.proofs.Common.{◌≡◌, ◌<◌, ℕ, zero, suc, ◌+◌, ◌-◌, ◌*◌, Bool, true, false, ◌&&◌, if◌then◌else◌, List, [], ◌∷◌, map, take, drop, Result, Ok, Err, refl, ap, subst, ◌∙◌, arith}
use Rattle.std.specs.Prelude.{slice_index_or, unwrap_or, nat_lt}
use Rattle.std.specs.List.{AllByRecursion}
use Rattle.std.specs.Result.{result_ok}
use Rattle.std.proofs.lemmas.List.{drop-drop}
use Rattle.lilo_model.specs.Checks.{◌>>=◌}
use Rattle.lilo_model.specs.Disks.{DiskSector, Geometry, Machine}
use Rattle.lilo_model.specs.Slots.{Slot, Mode, AddressFault, Address, Cylinder, TooFar, slot_make, slot_with, address_in, has_cylinders, last_cylinder, cylinder_of, could_be_one}
use Rattle.lilo_model.specs.Section.{section_bytes}
use Rattle.lilo_model.specs.Plan.{filled_places, slot_to, no_slot, joined_slots, compact_slots, file_slots, chain_for, link_to, chain_sectors, file_sectors}
use Rattle.slot_lists.specs.Made.{made_slots, one_geometry}
use Rattle.run_sections.specs.Made.{slots_made}
use Rattle.run_sections.specs.Laws.{FileSlotsLaw, FileSectorLaw}

-- what is made has its disk
made-with : (disk count : ℕ) (address : Result Address AddressFault) (slot : Slot) → slot_with disk count address ≡ Ok slot → slot.disk ≡ disk
made-with disk count (Ok address) slot is = cc
made-with disk count (Err fault) slot is = cc

pub made-disk : (mode : Mode) (geometry : Geometry) (disk sector : ℕ) (slot : Slot) → slot_make mode geometry disk sector 1 ≡ Ok slot → slot.disk ≡ disk
unfolding slot_make
made-disk mode geometry disk sector slot is =
    by (has_cylinders mode && nat_lt last_cylinder (cylinder_of geometry (sector + 1 - 1))) (nat_lt 0xFFFFFFFF (sector + 1 - 1)) is
  where
    by : (a b : Bool) → (if a then Err (Cylinder (cylinder_of geometry (sector + 1 - 1))) else (if b then Err (TooFar (sector + 1 - 1)) else slot_with disk 1 (address_in mode geometry sector))) ≡ Ok slot → slot.disk ≡ disk
    by true b is = cc
    by false true is = cc
    by false false is = made-with disk 1 (address_in mode geometry sector) slot is

module _ (mode : Mode) (machine : Machine) (geometry : Geometry) where
  abbrev IsOn : DiskSector → Type 0
  IsOn place = machine.geometry_of place.disk ≡ geometry

  abbrev IsOnSlot : Slot → Type 0
  IsOnSlot slot = machine.geometry_of slot.disk ≡ geometry

  -- slots that are made, and their disks
  record AreMade (places : List DiskSector) (slots : List Slot) : Type 0 where
    are : map (slot_to mode machine) places ≡ slots
    on : AllByRecursion IsOnSlot slots

  one-made : (place : DiskSector) (slot : Slot) → IsOn place → slot_make mode geometry place.disk place.sector 1 ≡ Ok slot → slot_to mode machine place ≡ slot
  unfolding slot_to
  one-made place slot on is =
      ap (λ geometry. unwrap_or (result_ok (slot_make mode geometry place.disk place.sector 1)) no_slot) on
      ∙ ap (λ made. unwrap_or (result_ok made) no_slot) is

  all-made : (places : List DiskSector) (slots : List Slot) → AllByRecursion IsOn places → made_slots mode geometry places ≡ Ok slots → AreMade places slots
  all-made [] slots on made =
      let none : [] ≡ slots = cc in
      subst (AreMade []) none (record { are = refl; on = tt })
  all-made (place ∷ others) slots on made =
      by (slot_make mode geometry place.disk place.sector 1) (made_slots mode geometry others) refl refl made (λ more are. all-made others more on.1 are)
    where
      by : (first : Result Slot AddressFault) (rest : Result (List Slot) AddressFault)
          → slot_make mode geometry place.disk place.sector 1 ≡ first → made_slots mode geometry others ≡ rest
          → (first >>= λ value. rest >>= λ values. Ok (value ∷ values)) ≡ Ok slots
          → ((more : List Slot) → made_slots mode geometry others ≡ Ok more → AreMade others more) → AreMade (place ∷ others) slots
      by (Err fault) rest is are whole after = cc
      by (Ok slot) (Err fault) is are whole after = cc
      by (Ok slot) (Ok more) is are whole after =
          let all : slot ∷ more ≡ slots = cc in
          let behind = after more are in
          subst (AreMade (place ∷ others)) all (record {
            are = ap (λ first. first ∷ map (slot_to mode machine) others) (one-made place slot on.0 is) ∙ ap (λ rest. slot ∷ rest) behind.are;
            on = (ap machine.geometry_of (made-disk mode geometry place.disk place.sector slot is) ∙ on.0, behind.on);
          })

  joined-same : (slot : Slot) (slots : List Slot) → IsOnSlot slot → AllByRecursion IsOnSlot slots
      → joined_slots machine slot slots ≡ joined_slots (one_geometry geometry) slot slots
  joined-same slot [] on all = refl
  joined-same slot (next ∷ others) on all =
      ap (λ geometry. if could_be_one geometry slot next
      then joined_slots machine (record slot { count = slot.count + next.count }) others
      else slot ∷ joined_slots machine next others) on
      ∙ by (could_be_one geometry slot next)
      (joined-same (record slot { count = slot.count + next.count }) others on all.1)
      (joined-same next others all.0 all.1)
    where
      by : (one : Bool)
          → joined_slots machine (record slot { count = slot.count + next.count }) others ≡ joined_slots (one_geometry geometry) (record slot { count = slot.count + next.count }) others
          → joined_slots machine next others ≡ joined_slots (one_geometry geometry) next others
          → (if one then joined_slots machine (record slot { count = slot.count + next.count }) others else slot ∷ joined_slots machine next others)
          ≡ (if one then joined_slots (one_geometry geometry) (record slot { count = slot.count + next.count }) others else slot ∷ joined_slots (one_geometry geometry) next others)
      by true longer apart = longer
      by false longer apart = ap (λ rest. slot ∷ rest) apart

  compact-same : (slots : List Slot) → AllByRecursion IsOnSlot slots → compact_slots machine slots ≡ compact_slots (one_geometry geometry) slots
  compact-same [] all = refl
  compact-same (slot ∷ others) all = joined-same slot others all.0 all.1

  slots-are : (compact : Bool) (places : List DiskSector) (slots : List Slot) → AllByRecursion IsOn places → slots_made mode geometry compact places ≡ Ok slots
      → (if compact then compact_slots machine (map (slot_to mode machine) places) else map (slot_to mode machine) places) ≡ slots
  slots-are false places slots on made = (all-made places slots on made).are
  slots-are true places slots on made = by (made_slots mode geometry places) refl made
    where
      by : (all : Result (List Slot) AddressFault) → made_slots mode geometry places ≡ all
          → (all >>= λ made. Ok (compact_slots (one_geometry geometry) made)) ≡ Ok slots
          → compact_slots machine (map (slot_to mode machine) places) ≡ slots
      by (Err fault) is whole = cc
      by (Ok all) is whole =
          let those = all-made places all on is in
          let end : compact_slots (one_geometry geometry) all ≡ slots = cc in
          ap (compact_slots machine) those.are ∙ compact-same all those.on ∙ end

pub file_slots_law : FileSlotsLaw
unfolding file_slots
file_slots_law config machine geometry zero_place file slots has =
    slots-are config.mode machine geometry config.compact (filled_places zero_place file.places) slots has.on has.made

-- ---- by index

drop-drop-one : {A : Type 0} (n : ℕ) (xs : List A) → drop n (drop 1 xs) ≡ drop (n + 1) xs
drop-drop-one n xs =
    let same : 1 + n ≡ n + 1 = omega arith in
    drop-drop n 1 xs ∙ ap (λ n. drop n xs) same

module _ (to : DiskSector → Slot) where
  chain-at : (chain : ℕ) (slots : List Slot) (behind : List DiskSector) (index : ℕ) → index < chain
      → slice_index_or (chain_sectors to chain slots behind) index []
      ≡ section_bytes (take 63 (drop (63 * index) slots)) (link_to to (chain - 1 - index) (drop index behind))
  chain-at zero slots behind index below = absurd (omega (arith, below))
  chain-at (suc more) slots behind zero below =
      let same : more ≡ suc more - 1 - zero = omega arith in
      ap (λ n. section_bytes (take 63 slots) (link_to to n behind)) same
  chain-at (suc more) slots behind (suc index) below =
      let count : 63 + 63 * index ≡ 63 * suc index = omega arith in
      let left : more - 1 - index ≡ suc more - 1 - suc index = omega (arith, below) in
      let next : index + 1 ≡ suc index = omega arith in
      chain-at more (drop 63 slots) (drop 1 behind) index (omega (arith, below))
      ∙ ap (λ slots. section_bytes (take 63 slots) (link_to to (more - 1 - index) (drop index (drop 1 behind))))
      (drop-drop (63 * index) 63 slots ∙ ap (λ n. drop n slots) count)
      ∙ ap (λ n. section_bytes (take 63 (drop (63 * suc index) slots)) (link_to to n (drop index (drop 1 behind)))) left
      ∙ ap (λ places. section_bytes (take 63 (drop (63 * suc index) slots)) (link_to to (suc more - 1 - suc index) places))
      (drop-drop-one index behind ∙ ap (λ n. drop n behind) next)

pub file_sector_law : FileSectorLaw
unfolding file_sectors
file_sector_law config machine geometry zero_place file slots places index has below =
    ap (λ slots. slice_index_or (chain_sectors (slot_to config.mode machine) (chain_for config machine file) slots (drop 1 places)) index []) (file_slots_law config machine geometry zero_place file slots has)
    ∙ chain-at (slot_to config.mode machine) (chain_for config machine file) slots (drop 1 places) index below
    ∙ ap (λ behind. section_bytes (take 63 (drop (63 * index) slots)) (link_to (slot_to config.mode machine) (chain_for config machine file - 1 - index) behind)) (drop-drop-one index places)

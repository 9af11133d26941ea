-- A file whose section lies in the map is read whole, also once the default line is written.
use Rattle.std.proofs.Common.{◌≡◌, ◌≢◌, ◌≤◌, ℕ, zero, suc, ◌+◌, ◌*◌, ◌==◌, Bool, true, false, ◌&&◌, if◌then◌else◌, List, [], ◌∷◌, map, length, take, drop, Option, None, Some, refl, sym, ap, subst, ◌∙◌, arith, eqb-true}
use Rattle.std.specs.List.{concat, range_with_len}
use Rattle.lilo_model.specs.Disks.{Image, Machine, DiskSector, bytes_at, with_sector}
use Rattle.std.specs.Prelude.{unwrap_or, option_map}
use Rattle.lilo_model.specs.Slots.{Slot, place_at, could_be_one}
use Rattle.lilo_model.specs.Section.{sector_step, sectors_for, section, file_content}
use Rattle.lilo_model.specs.Conf.{Config}
use Rattle.lilo_model.specs.Plan.{MappedFile, slot_to, filled_places, place_of_sector, section_sectors, slots_for, chain_for, file_slots, file_sectors, chain_sectors, compact_slots, slots_after}
use Rattle.map_laws.specs.Shows.{whole}
use Rattle.map_laws.specs.Lies.{AreNamed, IsNone, FileLies}
use Rattle.lilo_model.specs.Lays.{chain_slots, AreAt}
use Rattle.map_laws.proofs.SectionAgain.{Group, slots_in, places_in, AreGroups, Lists, chain-slots, section_again}
use Rattle.map_laws.proofs.Compact.{Joined, compact-joined}
use Rattle.map_laws.proofs.Reckoned.{reckoned}
use Rattle.map_laws.proofs.FileAgain.{content_again}

-- ---- plain slots

abbrev plain_groups : (DiskSector → Slot) → List DiskSector → List Group
plain_groups to places = map (λ place. record { slot = to place; places = place ∷ [] }) places

plain-slots : (to : DiskSector → Slot) (places : List DiskSector) → slots_in (plain_groups to places) ≡ map to places
plain-slots to [] = refl
plain-slots to (place ∷ places) = ap (λ slots. to place ∷ slots) (plain-slots to places)

plain-places : (to : DiskSector → Slot) (places : List DiskSector) → places_in (plain_groups to places) ≡ places
plain-places to [] = refl
plain-places to (place ∷ places) = ap (λ places. place ∷ places) (plain-places to places)

plain-are : (machine : Machine) (to : DiskSector → Slot) (places : List DiskSector) → AreNamed machine to places → AreGroups machine (plain_groups to places)
plain-are machine to [] named = tt
plain-are machine to (place ∷ places) named = (record { whole = named.0.one.whole; steps = ap (λ n. map (λ index. sector_step (place_at machine (to place) index)) (range_with_len 0 n)) named.0.one.one ∙ ap (λ found. sector_step found ∷ []) named.0.names }, plain-are machine to places named.1)

length-groups : (to : DiskSector → Slot) (places : List DiskSector) → length (plain_groups to places) ≡ length places
length-groups to [] = refl
length-groups to (place ∷ places) = ap suc (length-groups to places)

length-places : (zero_place : DiskSector) (places : List (Option DiskSector)) → length (filled_places zero_place places) ≡ length places
length-places zero_place [] = refl
length-places zero_place (place ∷ places) = ap suc (length-places zero_place places)

-- ---- a file

-- the slots of a file name its sectors in order, as many as were reckoned at most
slots-joined : (machine : Machine) (config : Config) (zero_place : DiskSector) (file : MappedFile) → AreNamed machine (slot_to config.mode machine) (filled_places zero_place file.places) → Joined machine (file_slots config machine zero_place file) (filled_places zero_place file.places)
unfolding file_slots
slots-joined machine config zero_place file named = by config.compact
  where
    by : (compact : Bool) → Joined machine (if compact then compact_slots machine (map (slot_to config.mode machine) (filled_places zero_place file.places)) else map (slot_to config.mode machine) (filled_places zero_place file.places)) (filled_places zero_place file.places)
    by true = compact-joined machine (slot_to config.mode machine) (filled_places zero_place file.places) named
    by false =
        let to = slot_to config.mode machine in
        let places = filled_places zero_place file.places in
        record { groups = plain_groups to places; slots_are = plain-slots to places; places_are = plain-places to places; good = plain-are machine to places named }

slots-filled : (to : DiskSector → Slot) (zero_place : DiskSector) (places : List (Option DiskSector)) → map to (filled_places zero_place places) ≡ map (λ other. unwrap_or other (to zero_place)) (map (option_map to) places)
slots-filled to zero_place [] = refl
slots-filled to zero_place (None ∷ places) = ap (λ slots. to zero_place ∷ slots) (slots-filled to zero_place places)
slots-filled to zero_place (Some place ∷ places) = ap (λ slots. to place ∷ slots) (slots-filled to zero_place places)

slots-few : (machine : Machine) (config : Config) (zero_place : DiskSector) (file : MappedFile) → length (file_slots config machine zero_place file) ≤ slots_for config machine file
unfolding file_slots slots_for
slots-few machine config zero_place file = by config.compact
  where
    by : (compact : Bool) → length (if compact then compact_slots machine (map (slot_to config.mode machine) (filled_places zero_place file.places)) else map (slot_to config.mode machine) (filled_places zero_place file.places)) ≤ (if compact then slots_after machine None (map (option_map (slot_to config.mode machine)) file.places) else length file.places)
    by true = rw (slots-filled (slot_to config.mode machine) zero_place file.places) (reckoned machine (slot_to config.mode machine zero_place) (map (option_map (slot_to config.mode machine)) file.places))
    by false = let long = length-map-to (filled_places zero_place file.places) ∙ length-places zero_place file.places in omega (arith, long)
      where
        length-map-to : (places : List DiskSector) → length (map (slot_to config.mode machine) places) ≡ length places
        length-map-to [] = refl
        length-map-to (place ∷ places) = ap suc (length-map-to places)

-- no slots are reckoned where there is no sector, and never more than sectors
slots-after : (machine : Machine) (held : Option Slot) (slots : List (Option Slot)) → slots_after machine held slots ≤ length slots
slots-after machine held [] = omega arith
slots-after machine held (None ∷ slots) = let h = slots-after machine None slots in omega (arith, h)
slots-after machine None (Some next ∷ slots) = let h = slots-after machine (Some next) slots in omega (arith, h)
slots-after machine (Some slot) (Some next ∷ slots) =
    by (could_be_one (machine.geometry_of slot.disk) slot next) (slots-after machine (Some (record slot { count = slot.count + next.count })) slots) (slots-after machine (Some next) slots)
  where
    by : (test : Bool) → slots_after machine (Some (record slot { count = slot.count + next.count })) slots ≤ length slots → slots_after machine (Some next) slots ≤ length slots
        → (if test then slots_after machine (Some (record slot { count = slot.count + next.count })) slots else 1 + slots_after machine (Some next) slots) ≤ suc (length slots)
    by true h h' = omega (arith, h)
    by false h h' = omega (arith, h')

some-slots : (machine : Machine) (slots : List (Option Slot)) → 1 ≤ length slots → 1 ≤ slots_after machine None slots
some-slots machine [] some = absurd (omega (arith, some))
some-slots machine (None ∷ slots) some = omega arith
some-slots machine (Some slot ∷ slots) some = omega arith

length-options : (to : DiskSector → Slot) (places : List (Option DiskSector)) → length (map (option_map to) places) ≡ length places
length-options to [] = refl
length-options to (place ∷ places) = ap suc (length-options to places)

pub slots-between : (machine : Machine) (config : Config) (file : MappedFile) → 1 ≤ length file.places → (1 ≤ slots_for config machine file) × (slots_for config machine file ≤ length file.places)
unfolding slots_for
slots-between machine config file some = by config.compact
  where
    by : (compact : Bool) → (1 ≤ (if compact then slots_after machine None (map (option_map (slot_to config.mode machine)) file.places) else length file.places)) × ((if compact then slots_after machine None (map (option_map (slot_to config.mode machine)) file.places) else length file.places) ≤ length file.places)
    by true =
        let long = length-options (slot_to config.mode machine) file.places in
        let h = slots-after machine None (map (option_map (slot_to config.mode machine)) file.places) in
        (some-slots machine (map (option_map (slot_to config.mode machine)) file.places) (omega (arith, long, some)), omega (arith, h, long))
    by false = (some, omega arith)

length-groups-of : (groups : List Group) → length (slots_in groups) ≡ length groups
length-groups-of [] = refl
length-groups-of (group ∷ groups) = ap suc (length-groups-of groups)

module _ (image : Image) (machine : Machine) (config : Config) (line_place zero_place : DiskSector) where
  pub chain-is : (file : MappedFile) → chain_for config machine file ≡ section_sectors (slots_for config machine file)
  unfolding chain_for
  chain-is file = refl

  -- its section lists its sectors, by its slots
  pub file-listed : (file : MappedFile) (bytes : List ℕ) (own : List DiskSector) → FileLies image machine config line_place zero_place file bytes
      → AreNamed machine (slot_to config.mode machine) own → AreAt image own (file_sectors config machine zero_place file own)
      → Lists (filled_places zero_place file.places) (section image machine (slot_to config.mode machine (place_of_sector own 0)) (sectors_for file.size) (chain_for config machine file))
      × (chain_slots image machine (chain_for config machine file) (slot_to config.mode machine (place_of_sector own 0)) ≡ file_slots config machine zero_place file)
  unfolding file_sectors
  file-listed file bytes own lies named lie =
      let some : 1 ≤ length file.places = rw lies.count (omega (arith, lies.some)) in
      by-chain (chain_for config machine file) (chain-is file) (slots-between machine config file some).0 own named lie
    where
      by-chain : (chain : ℕ) → chain ≡ section_sectors (slots_for config machine file) → 1 ≤ slots_for config machine file → (own : List DiskSector) → AreNamed machine (slot_to config.mode machine) own
          → AreAt image own (chain_sectors (slot_to config.mode machine) chain (file_slots config machine zero_place file) (drop 1 own))
          → Lists (filled_places zero_place file.places) (section image machine (slot_to config.mode machine (place_of_sector own 0)) (sectors_for file.size) chain)
          × (chain_slots image machine chain (slot_to config.mode machine (place_of_sector own 0)) ≡ file_slots config machine zero_place file)
      by-chain zero is some own named lie = absurd (omega (arith, is, some))
      by-chain (suc more) is some [] named lie = absurd lie
      by-chain (suc more) is some (here ∷ after) named lie =
          let to = slot_to config.mode machine in
          let places = filled_places zero_place file.places in
          let j = slots-joined machine config zero_place file lies.named in
          let size : length j.groups ≡ length (file_slots config machine zero_place file) = sym (length-groups-of j.groups) ∙ ap length j.slots_are in
          let most = slots-few machine config zero_place file in
          let few : length j.groups ≤ 63 * (more + 1) = omega (arith, size, most, is) in
          let lie' = subst (λ slots. AreAt image (here ∷ after) (chain_sectors to (suc more) slots after)) (sym j.slots_are) lie in
          let listed = section_again image machine to more j.groups here after j.good few named lie' in
          let count : length (places_in j.groups) ≡ sectors_for file.size = ap length j.places_are ∙ length-places zero_place file.places ∙ lies.count ∙ ap sectors_for (sym lies.size) in (
            subst (λ n. Lists places (section image machine (to here) n (suc more))) count (subst (λ places. Lists places (section image machine (to here) (length (places_in j.groups)) (suc more))) j.places_are listed),
            chain-slots image machine to (suc more) more j.groups here after j.good few named lie' ∙ j.slots_are,
          )

  pub file-shown : (file : MappedFile) (bytes : List ℕ) (own : List DiskSector) → FileLies image machine config line_place zero_place file bytes
      → AreNamed machine (slot_to config.mode machine) own → AreAt image own (file_sectors config machine zero_place file own)
      → file_content image machine (slot_to config.mode machine (place_of_sector own 0)) file.size (chain_for config machine file) ≡ whole bytes
  file-shown file bytes own lies named lie =
      let to = slot_to config.mode machine in
      let places = filled_places zero_place file.places in
      let chain = chain_for config machine file in
      let here = place_of_sector own 0 in
      ap (λ n. file_content image machine (to here) n chain) lies.size
      ∙ content_again image machine (to here) chain places bytes (subst (λ n. Lists places (section image machine (to here) (sectors_for n) chain)) lies.size (file-listed file bytes own lies named lie).0) lies.lies

-- ---- the same once a sector is written that is none of them

-- two sectors with one disk and one number are one
same-sector : (place at : DiskSector) → (place.disk == at.disk && place.sector == at.sector) ≡ true → place ≡ at
same-sector place at test =
    let both = both-true (place.disk == at.disk) (place.sector == at.sector) test in
    let made : ℕ → ℕ → DiskSector = λ disk sector. record { disk = disk; sector = sector } in
    ap (λ n. made n place.sector) (eqb-true place.disk at.disk both.0) ∙ ap (made at.disk) (eqb-true place.sector at.sector both.1)
  where
    both-true : (one other : Bool) → (one && other) ≡ true → (one ≡ true) × (other ≡ true)
    both-true true other both = (refl, both)
    both-true false other both = cc

module _ (image : Image) (line_place : DiskSector) (new : List ℕ) where
  other-sector : (place : DiskSector) → line_place ≢ place → bytes_at (with_sector image line_place new) place ≡ bytes_at image place
  other-sector place other = by_test (line_place.disk == place.disk && line_place.sector == place.sector) (same-sector line_place place)
    where
      by_test : (test : Bool) → (test ≡ true → line_place ≡ place) → (if test then new else image place.disk place.sector) ≡ image place.disk place.sector
      by_test true same = absurd (other (same refl))
      by_test false same = refl

  other-sectors : (places : List DiskSector) → IsNone line_place places → map (bytes_at (with_sector image line_place new)) places ≡ map (bytes_at image) places
  other-sectors [] none = refl
  other-sectors (place ∷ places) none = ap (λ bytes. bytes ∷ map (bytes_at (with_sector image line_place new)) places) (other-sector place none.0) ∙ ap (λ sectors. bytes_at image place ∷ sectors) (other-sectors places none.1)

  pub lie-still : (places : List DiskSector) (sectors : List (List ℕ)) → IsNone line_place places → AreAt image places sectors → AreAt (with_sector image line_place new) places sectors
  lie-still places [] none lie = tt
  lie-still [] (bytes ∷ sectors) none lie = absurd lie
  lie-still (place ∷ places) (bytes ∷ sectors) none lie = (other-sector place none.0 ∙ lie.0, lie-still places sectors none.1 lie.1)

  pub file-still : (machine : Machine) (config : Config) (zero_place : DiskSector) (file : MappedFile) (bytes : List ℕ) → FileLies image machine config line_place zero_place file bytes → FileLies (with_sector image line_place new) machine config line_place zero_place file bytes
  file-still machine config zero_place file bytes lies = record {
    size = lies.size;
    some = lies.some;
    few = lies.few;
    slots = lies.slots;
    count = lies.count;
    named = lies.named;
    apart = lies.apart;
    lies = ap (λ sectors. take (length bytes) (concat sectors)) (other-sectors (filled_places zero_place file.places) lies.apart) ∙ lies.lies;
  }

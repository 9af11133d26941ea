-- Joined slots name the same sectors in order.
use Rattle.std.proofs.Common.{◌≡◌, ◌≤◌, ℕ, ◌+◌, ◌==◌, Bool, true, false, ◌&&◌, if◌then◌else◌, List, [], ◌∷◌, ◌++◌, map, Ok, Err, refl, sym, ap, subst, ◌∙◌, arith, append_assoc, eqb-true}
use Rattle.std.specs.Prelude.{nat_le}
use Rattle.std.specs.List.{range_with_len}
use Rattle.std.proofs.lemmas.List.{map-append}
use Rattle.std.proofs.lemmas.List.FromFn.{map-range_with_len_more}
use Rattle.std.proofs.lemmas.Bool.Decides.{nat_tests}
use Rattle.lilo_model.specs.Disks.{Machine, Geometry, DiskSector}
use Rattle.lilo_model.specs.Slots.{Slot, Address, Chs, Linear, Lba32, AddressFault, number_at, sector_at, place_of, place_at, follows, could_be_one, to_lba}
use Rattle.lilo_model.specs.Section.{Names, sector_step}
use Rattle.sector_address.specs.Whole.{IsAddress}
use Rattle.lilo_model.specs.Plan.{joined_slots, compact_slots}
use Rattle.map_laws.specs.Lies.{IsNamed, AreNamed}
use Rattle.map_laws.proofs.SectionAgain.{Group, slots_in, places_in, IsGroup, AreGroups}

-- slots and the sectors that they name, as groups
pub record Joined (machine : Machine) (slots : List Slot) (places : List DiskSector) : Type 0 where
  pub groups : List Group
  pub slots_are : slots_in groups ≡ slots
  pub places_are : places_in groups ≡ places
  pub good : AreGroups machine groups

-- the number after a slot's sectors is the next one's
next-number : (geometry : Geometry) (address other : Address) (count more : ℕ) → IsAddress address → IsAddress other → follows geometry address count other more ≡ true → number_at geometry address count ≡ number_at geometry other 0
next-number geometry (Chs c h s) (Chs c' h' s') count more is is' e =
    let all = four (c == c') (h == h') (s + count == s') (nat_le (s' + more) (geometry.sectors + 1)) e in
    let some : (s == 0) ≡ false = grind (arith, nat_tests) in
    let some' : (s' == 0) ≡ false = grind (arith, nat_tests) in
    let same_c : c ≡ c' = eqb-true c c' all.0 in
    let same_h : h ≡ h' = eqb-true h h' all.1 in
    let same_s : s + count ≡ s' + 0 = omega (arith, eqb-true (s + count) s' all.2) in
    rw (some, some') (ap (λ c. to_lba geometry c h (s + count)) same_c ∙ ap (λ h. to_lba geometry c' h (s + count)) same_h ∙ ap (to_lba geometry c' h') same_s)
  where
    four : (a b c d : Bool) → (a && b && c && d) ≡ true → (a ≡ true) × (b ≡ true) × (c ≡ true)
    four true true true d e = (refl, refl, refl)
    four false b c d e = cc
    four true false c d e = cc
    four true true false d e = cc
next-number geometry (Linear n) (Linear n') count more is is' e =
    let same : n + count ≡ n' + 0 = omega (arith, eqb-true (n + count) n' e) in
    ap (λ m. if nat_le (Rattle.lilo_model.specs.Slots.cylinder_of geometry m) Rattle.lilo_model.specs.Slots.last_cylinder then Ok m else Err Rattle.lilo_model.specs.Slots.NotFound) same
next-number geometry (Lba32 n) (Lba32 n') count more is is' e =
    let same : n + count ≡ n' + 0 = omega (arith, eqb-true (n + count) n' e) in ap Ok same
next-number geometry (Chs c h s) (Linear n') count more is is' e = cc
next-number geometry (Chs c h s) (Lba32 n') count more is is' e = cc
next-number geometry (Linear n) (Chs c h s) count more is is' e = cc
next-number geometry (Linear n) (Lba32 n') count more is is' e = cc
next-number geometry (Lba32 n) (Chs c h s) count more is is' e = cc
next-number geometry (Lba32 n) (Linear n') count more is is' e = cc

abbrev longer : Slot → Slot → Slot
longer slot next = record slot { count = slot.count + next.count }

-- a slot that takes a next one of one sector names that too
longer-group : (machine : Machine) (to : DiskSector → Slot) (slot : Slot) (prefix : List DiskSector) (place : DiskSector) → IsGroup machine (record { slot = slot; places = prefix }) → IsNamed machine to place
    → could_be_one (machine.geometry_of slot.disk) slot (to place) ≡ true → IsGroup machine (record { slot = longer slot (to place); places = prefix ++ (place ∷ []) })
unfolding could_be_one place_at sector_at
longer-group machine to slot prefix place group named e =
    let geometry = machine.geometry_of slot.disk in
    let next = to place in
    let all = three (slot.disk == next.disk) (nat_le (slot.count + next.count) 127) (follows geometry slot.address slot.count next.address next.count) e in
    let disk : slot.disk ≡ next.disk = eqb-true slot.disk next.disk all.0 in
    let fits : slot.count + next.count ≤ 127 = less (slot.count + next.count) all.1 in
    let number = next-number geometry slot.address next.address slot.count next.count group.whole.address named.one.whole.address all.2 in
    let place_is : place_of machine slot.disk (number_at geometry slot.address slot.count) ≡ Ok place =
    ap (place_of machine slot.disk) number ∙ ap (λ disk. place_of machine disk (number_at (machine.geometry_of disk) next.address 0)) disk ∙ named.names in
    let one : slot.count + next.count ≡ slot.count + 1 = ap (λ n. slot.count + n) named.one.one in
    record {
      whole = record { disk = group.whole.disk; some = omega (arith, group.whole.some); few = fits; address = group.whole.address };
      steps =
          ap (λ n. map (λ index. sector_step (place_of machine slot.disk (number_at geometry slot.address index))) (range_with_len 0 n)) one
          ∙ map-range_with_len_more (λ index. sector_step (place_of machine slot.disk (number_at geometry slot.address index))) 0 slot.count slot.count (omega arith)
          ∙ ap (λ steps. steps ++ (sector_step (place_of machine slot.disk (number_at geometry slot.address slot.count)) ∷ [])) group.steps
          ∙ ap (λ found. map Names prefix ++ (sector_step found ∷ [])) place_is
          ∙ sym (map-append Names prefix (place ∷ []));
    }
  where
    three : (a b c : Bool) → (a && b && c) ≡ true → (a ≡ true) × (b ≡ true) × (c ≡ true)
    three true true true e = (refl, refl, refl)
    three false b c e = cc
    three true false c e = cc
    three true true false e = cc

    less : (n : ℕ) → nat_le n 127 ≡ true → n ≤ 127
    less n e = grind (arith, nat_tests)

one-group : (machine : Machine) (to : DiskSector → Slot) (place : DiskSector) → IsNamed machine to place → IsGroup machine (record { slot = to place; places = place ∷ [] })
one-group machine to place named = record { whole = named.one.whole; steps = ap (λ n. map (λ index. sector_step (place_at machine (to place) index)) (range_with_len 0 n)) named.one.one ∙ ap (λ found. sector_step found ∷ []) named.names }

joined : (machine : Machine) (to : DiskSector → Slot) (places : List DiskSector) (slot : Slot) (prefix : List DiskSector) → IsGroup machine (record { slot = slot; places = prefix }) → AreNamed machine to places
    → Joined machine (joined_slots machine slot (map to places)) (prefix ++ places)
joined machine to [] slot prefix group named = record { groups = record { slot = slot; places = prefix } ∷ []; slots_are = refl; places_are = refl; good = (group, tt) }
joined machine to (place ∷ places) slot prefix group named =
    by-test (could_be_one (machine.geometry_of slot.disk) slot (to place)) refl
    (λ e. joined machine to places (longer slot (to place)) (prefix ++ (place ∷ [])) (longer-group machine to slot prefix place group named.0 e) named.1)
    (joined machine to places (to place) (place ∷ []) (one-group machine to place named.0) named.1)
  where
    by-test : (test : Bool) → could_be_one (machine.geometry_of slot.disk) slot (to place) ≡ test
        → (could_be_one (machine.geometry_of slot.disk) slot (to place) ≡ true → Joined machine (joined_slots machine (longer slot (to place)) (map to places)) ((prefix ++ (place ∷ [])) ++ places))
        → Joined machine (joined_slots machine (to place) (map to places)) ((place ∷ []) ++ places)
        → Joined machine (if test then joined_slots machine (longer slot (to place)) (map to places) else slot ∷ joined_slots machine (to place) (map to places)) (prefix ++ (place ∷ places))
    by-test true e more other = subst (Joined machine (joined_slots machine (longer slot (to place)) (map to places))) (append_assoc prefix (place ∷ []) places) (more e)
    by-test false e more other = record {
      groups = record { slot = slot; places = prefix } ∷ other.groups;
      slots_are = ap (λ slots. slot ∷ slots) other.slots_are;
      places_are = ap (λ places. prefix ++ places) other.places_are;
      good = (group, other.good);
    }

-- Compact slots name the places in order.
pub compact-joined : (machine : Machine) (to : DiskSector → Slot) (places : List DiskSector) → AreNamed machine to places → Joined machine (compact_slots machine (map to places)) places
compact-joined machine to [] named = record { groups = []; slots_are = refl; places_are = refl; good = tt }
compact-joined machine to (place ∷ places) named = joined machine to places (to place) (place ∷ []) (one-group machine to place named.0) named.1

-- A section that is written is read as the sectors that its slots name.
use Rattle.std.proofs.Common.{◌≡◌, ◌≤◌, ℕ, zero, suc, ◌+◌, ◌-◌, ◌*◌, List, [], ◌∷◌, ◌++◌, map, length, take, drop, replicate, Option, None, Some, Result, Ok, refl, sym, ap, subst, ◌∙◌, arith, append_assoc, append-nil, length-append}
use Rattle.std.specs.List.{concat}
use Rattle.std.proofs.lemmas.List.{map-append, length-map}
use Rattle.lilo_model.specs.Bytes.{is_zero, part_of, filled_bytes}
use Rattle.lilo_model.specs.Disks.{Image, Machine, DiskSector, bytes_at}
use Rattle.lilo_model.specs.Slots.{Slot, slot_at, slot_bytes, optional_bytes, place_at}
use Rattle.lilo_model.specs.Section.{SectionFault, Step, Reads, Names, Listing, slot_steps, slots_steps, slot_steps_then, slot_parts, link_of, link_at, link_steps, sector_steps, chain_steps, listing_of, section, section_bytes}
use Rattle.sector_address.specs.Whole.{IsSlot}
use Rattle.sector_address.proofs.BytesLemmas.{encode_law}
use Rattle.lilo_model.specs.Plan.{chain_sectors}
use Rattle.map_again_laws.proofs.Parts.{part-between, length-filled}
use Rattle.map_laws.specs.Lies.{IsOneSlot, IsNamed, AreNamed}
use Rattle.lilo_model.specs.Lays.{slots_of, slots_at_link, slots_from, chain_slots, AreAt}
use Rattle.map_again_laws.proofs.SlotAgain.{length-slot}
use Rattle.map_again_laws.proofs.SectionAgain.{eights, parts-eights, slot-prefix, slot-after, zeros-again}

-- a slot, and the sectors that it names
pub record Group : Type 0 where
  pub slot : Slot
  pub places : List DiskSector

abbrev pub slots_in : List Group → List Slot
slots_in groups = map (λ group. group.slot) groups

abbrev pub places_in : List Group → List DiskSector
places_in [] = []
places_in (group ∷ groups) = group.places ++ places_in groups

pub record IsGroup (machine : Machine) (group : Group) : Type 0 where
  pub whole : IsSlot group.slot
  pub steps : slot_steps machine group.slot ≡ map Names group.places

abbrev pub AreGroups : Machine → List Group → Type 0
AreGroups machine [] = Unit {0}
AreGroups machine (group ∷ groups) = IsGroup machine group × AreGroups machine groups

-- ---- the parts of a section sector

-- the parts of slots that lie one after the other, and of what lies after them
parts-slots : (slots : List Slot) (count : ℕ) (tail : List ℕ) → length slots ≤ count → eights count (concat (map slot_bytes slots) ++ tail) ≡ map slot_bytes slots ++ eights (count - length slots) tail
parts-slots [] count tail few =
    let none : count ≡ count - 0 = omega arith in
    ap (λ n. eights n tail) none
parts-slots (slot ∷ slots) zero tail few = absurd (omega (arith, few))
parts-slots (slot ∷ slots) (suc count) tail few =
    let others = concat (map slot_bytes slots) ++ tail in
    let one : count - length slots ≡ suc count - suc (length slots) = omega arith in
    ap (λ bytes. take 8 bytes ∷ eights count (drop 8 bytes)) (append_assoc (slot_bytes slot) (concat (map slot_bytes slots)) tail)
    ∙ ap (λ part. part ∷ eights count (drop 8 (slot_bytes slot ++ others))) (slot-prefix slot others)
    ∙ ap (λ bytes. slot_bytes slot ∷ eights count bytes) (slot-after slot others)
    ∙ ap (λ parts. slot_bytes slot ∷ parts) (parts-slots slots count tail (omega (arith, few)))
    ∙ ap (λ n. slot_bytes slot ∷ (map slot_bytes slots ++ eights n tail)) one

-- the steps at slots and the zeros after them
zeros-read : (machine : Machine) (place count zeros : ℕ) (tail : List ℕ) → 8 * count ≤ zeros → slots_steps machine place (eights count (replicate zeros 0 ++ tail)) ≡ []
unfolding slot_at is_zero
zeros-read machine place zero zeros tail fits = refl
zeros-read machine place (suc count) (suc (suc (suc (suc (suc (suc (suc (suc zeros)))))))) tail fits = refl
zeros-read machine place (suc count) _ tail fits = absurd (omega (arith, fits))

pub slots-read : (machine : Machine) (groups : List Group) (place : ℕ) (others : List (List ℕ)) → AreGroups machine groups → ((place : ℕ) → slots_steps machine place others ≡ [])
    → slots_steps machine place (map slot_bytes (slots_in groups) ++ others) ≡ map Names (places_in groups)
slots-read machine [] place others are none = none place
slots-read machine (group ∷ groups) place others are none =
    ap (λ found. slot_steps_then machine place found (slots_steps machine (place + 1) (map slot_bytes (slots_in groups) ++ others))) (encode_law group.slot are.0.whole)
    ∙ ap (λ steps. steps ++ slots_steps machine (place + 1) (map slot_bytes (slots_in groups) ++ others)) are.0.steps
    ∙ ap (λ steps. map Names group.places ++ steps) (slots-read machine groups (place + 1) others are.1 none)
    ∙ sym (map-append Names group.places (places_in groups))

-- the slots themselves, up to the zeros after them
slots-again : (machine : Machine) (groups : List Group) (others : List (List ℕ)) → AreGroups machine groups → slots_of others ≡ [] → slots_of (map slot_bytes (slots_in groups) ++ others) ≡ slots_in groups
slots-again machine [] others are none = none
slots-again machine (group ∷ groups) others are none = rw (encode_law group.slot are.0.whole, slots-again machine groups others are.1 none) refl

-- ---- a section sector

length-slots : (groups : List Group) → length (concat (map slot_bytes (slots_in groups))) ≡ 8 * length groups
length-slots [] = refl
length-slots (group ∷ groups) =
    length-append (slot_bytes group.slot) (concat (map slot_bytes (slots_in groups))) ∙ ap (λ n. n + length (concat (map slot_bytes (slots_in groups)))) (length-slot group.slot)
    ∙ ap (λ n. 8 + n) (length-slots groups) ∙ omega arith

-- its parts: those of its slots, and zeros
parts-sector : (groups : List Group) (link : Option Slot) → length groups ≤ 63
    → slot_parts (section_bytes (slots_in groups) link) ≡ map slot_bytes (slots_in groups) ++ eights (63 - length (slots_in groups)) (replicate (504 - length (concat (map slot_bytes (slots_in groups)))) 0 ++ optional_bytes link)
unfolding section_bytes
parts-sector groups link few =
    let bytes = concat (map slot_bytes (slots_in groups)) in
    let count : length (slots_in groups) ≡ length groups = length-map groups (λ (group : Group). group.slot) in
    parts-eights (section_bytes (slots_in groups) link) 0 63
    ∙ ap (eights 63) (append_assoc bytes (replicate (504 - length bytes) 0) (optional_bytes link))
    ∙ parts-slots (slots_in groups) 63 (replicate (504 - length bytes) 0 ++ optional_bytes link) (omega (arith, count, few))

-- so many zeros that no part of them is a slot
zeros-enough : (groups : List Group) → length groups ≤ 63 → 8 * (63 - length (slots_in groups)) ≤ 504 - length (concat (map slot_bytes (slots_in groups)))
zeros-enough groups few =
    let long = length-slots groups in
    let count : length (slots_in groups) ≡ length groups = length-map groups (λ (group : Group). group.slot) in
    omega (arith, long, count, few)

-- the steps at the slots of a section sector
pub sector-read : (machine : Machine) (groups : List Group) (place : ℕ) (link : Option Slot) → AreGroups machine groups → length groups ≤ 63
    → slots_steps machine place (slot_parts (section_bytes (slots_in groups) link)) ≡ map Names (places_in groups)
sector-read machine groups place link are few =
    let bytes = concat (map slot_bytes (slots_in groups)) in
    ap (slots_steps machine place) (parts-sector groups link few)
    ∙ slots-read machine groups place (eights (63 - length (slots_in groups)) (replicate (504 - length bytes) 0 ++ optional_bytes link)) are
    (λ place. zeros-read machine place (63 - length (slots_in groups)) (504 - length bytes) (optional_bytes link) (zeros-enough groups few))

-- the slots of a section sector
sector-slots : (machine : Machine) (groups : List Group) (link : Option Slot) → AreGroups machine groups → length groups ≤ 63 → slots_of (slot_parts (section_bytes (slots_in groups) link)) ≡ slots_in groups
sector-slots machine groups link are few =
    let bytes = concat (map slot_bytes (slots_in groups)) in
    ap slots_of (parts-sector groups link few)
    ∙ slots-again machine groups (eights (63 - length (slots_in groups)) (replicate (504 - length bytes) 0 ++ optional_bytes link)) are
    (zeros-again (63 - length (slots_in groups)) (504 - length bytes) (optional_bytes link) (zeros-enough groups few))

-- and at its link
pub link-read : (number : ℕ) (groups : List Group) (link : Option Slot) → length groups ≤ 63 → link_at number (section_bytes (slots_in groups) link) ≡ link_of number (slot_at (optional_bytes link))
unfolding link_at section_bytes
link-read number groups link few =
    let bytes = concat (map slot_bytes (slots_in groups)) in
    let long : length bytes ≡ 8 * length groups = length-slots groups in
    let size : length (filled_bytes 504 bytes) ≡ 504 = length-filled 504 bytes (omega (arith, long, few)) in
    ap (λ part. link_of number (slot_at part)) (link-part (filled_bytes 504 bytes) size link)
  where
    link-long : (link : Option Slot) → length (optional_bytes link) ≡ 8
    link-long None = refl
    link-long (Some slot) = length-slot slot

    link-part : (bytes : List ℕ) → length bytes ≡ 504 → (link : Option Slot) → part_of (bytes ++ optional_bytes link) 504 8 ≡ optional_bytes link
    link-part bytes size link =
        ap (λ all. part_of (bytes ++ all) 504 8) (sym (append-nil (optional_bytes link)))
        ∙ part-between bytes (optional_bytes link) [] 504 8 size (link-long link)

-- ---- the listing

-- a listing has these places, and no refusal
pub record Lists (places : List DiskSector) (listing : Listing) : Type 0 where
  pub all : listing.places ≡ places
  pub good : listing.refusal ≡ None

-- steps list places, however many lie before them
abbrev pub StepsList : List DiskSector → List Step → Type 0
StepsList places steps = (given : ℕ) → Lists places (listing_of given (length places) steps)

lists-none : (steps : List Step) → StepsList [] steps
lists-none steps given = record { all = refl; good = refl }

lists-after : (prefix suffix : List DiskSector) (steps : List Step) → StepsList suffix steps → StepsList (prefix ++ suffix) (map Names prefix ++ steps)
lists-after [] suffix steps lists given = lists given
lists-after (place ∷ prefix) suffix steps lists given =
    let h = lists-after prefix suffix steps lists (given + 1) in
    record { all = ap (λ places. place ∷ places) h.all; good = h.good }

lists-reads : (places : List DiskSector) (place : DiskSector) (steps : List Step) → StepsList places steps → StepsList places (Reads place ∷ steps)
lists-reads [] place steps lists given = lists given
lists-reads (first ∷ places) place steps lists given = record { all = (lists given).all; good = (lists given).good }

-- ---- a chain

are-prefix : (machine : Machine) (count : ℕ) (groups : List Group) → AreGroups machine groups → AreGroups machine (take count groups)
are-prefix machine zero groups are = tt
are-prefix machine (suc count) [] are = tt
are-prefix machine (suc count) (group ∷ groups) are = (are.0, are-prefix machine count groups are.1)

are-suffix : (machine : Machine) (count : ℕ) (groups : List Group) → AreGroups machine groups → AreGroups machine (drop count groups)
are-suffix machine zero groups are = are
are-suffix machine (suc count) [] are = tt
are-suffix machine (suc count) (group ∷ groups) are = are-suffix machine count groups are.1

places-cut : (count : ℕ) (groups : List Group) → places_in groups ≡ places_in (take count groups) ++ places_in (drop count groups)
places-cut zero groups = refl
places-cut (suc count) [] = refl
places-cut (suc count) (group ∷ groups) =
    ap (λ places. group.places ++ places) (places-cut count groups) ∙ sym (append_assoc group.places (places_in (take count groups)) (places_in (drop count groups)))

slots-prefix : (count : ℕ) (groups : List Group) → take count (slots_in groups) ≡ slots_in (take count groups)
slots-prefix zero groups = refl
slots-prefix (suc count) [] = refl
slots-prefix (suc count) (group ∷ groups) = ap (λ slots. group.slot ∷ slots) (slots-prefix count groups)

slots-suffix : (count : ℕ) (groups : List Group) → drop count (slots_in groups) ≡ slots_in (drop count groups)
slots-suffix zero groups = refl
slots-suffix (suc count) [] = refl
slots-suffix (suc count) (group ∷ groups) = slots-suffix count groups

few-prefix : (count : ℕ) (groups : List Group) → length (take count groups) ≤ count
few-prefix zero groups = omega arith
few-prefix (suc count) [] = omega arith
few-prefix (suc count) (group ∷ groups) = let h = few-prefix count groups in omega (arith, h)

drop-all : (count : ℕ) (groups : List Group) → length groups ≤ count → drop count groups ≡ []
drop-all zero [] few = refl
drop-all zero (group ∷ groups) few = absurd (omega (arith, few))
drop-all (suc count) [] few = refl
drop-all (suc count) (group ∷ groups) few = drop-all count groups (omega (arith, few))

few-suffix : (count : ℕ) (groups : List Group) (most : ℕ) → length groups ≤ count + most → length (drop count groups) ≤ most
few-suffix zero groups most few = omega (arith, few)
few-suffix (suc count) [] most few = omega arith
few-suffix (suc count) (group ∷ groups) most few = few-suffix count groups most (omega (arith, few))

slots-cut : (count : ℕ) (groups : List Group) → slots_in (take count groups) ++ slots_in (drop count groups) ≡ slots_in groups
slots-cut zero groups = refl
slots-cut (suc count) [] = refl
slots-cut (suc count) (group ∷ groups) = ap (λ slots. group.slot ∷ slots) (slots-cut count groups)

module _ (image : Image) (machine : Machine) (to : DiskSector → Slot) (chain : ℕ) where
  -- the steps at a section sector list its slots' places, and then those after it
  sector-lists : (number : ℕ) (groups : List Group) (here : DiskSector) (link : Option Slot) (suffix : List DiskSector) (follow : Result (Option Slot) SectionFault → List Step)
      → AreGroups machine groups → length groups ≤ 63 → IsNamed machine to here → bytes_at image here ≡ section_bytes (slots_in groups) link
      → StepsList suffix (follow (link_of number (slot_at (optional_bytes link))))
      → StepsList (places_in groups ++ suffix) (sector_steps image machine number follow (place_at machine (to here) 0))
  sector-lists number groups here link suffix follow are few named lies lists =
      rw (named.names, lies, sector-read machine groups (number * 64) link are few, link-read number groups link few)
      (lists-reads (places_in groups ++ suffix) here (map Names (places_in groups) ++ follow (link_of number (slot_at (optional_bytes link))))
      (lists-after (places_in groups) suffix (follow (link_of number (slot_at (optional_bytes link)))) lists))

  pub link-of : (number : ℕ) (slot : Slot) → IsOneSlot slot → link_of number (slot_at (optional_bytes (Some slot))) ≡ Ok (Some slot)
  link-of number slot one = rw (encode_law slot one.whole, one.one) refl

  chain-lists : (more number : ℕ) (groups : List Group) (here : DiskSector) (after : List DiskSector)
      → AreGroups machine groups → length groups ≤ 63 * (more + 1) → AreNamed machine to (here ∷ after)
      → AreAt image (here ∷ after) (chain_sectors to (suc more) (slots_in groups) after)
      → StepsList (places_in groups) (chain_steps image machine chain number (suc more) (to here))
  unfolding slot_at is_zero
  chain-lists zero number groups here after are few named lie =
      let prefix = take 63 groups in
      subst (λ places. StepsList places (chain_steps image machine chain number 1 (to here))) (sym (places-cut 63 groups))
      (sector-lists number prefix here None (places_in (drop 63 groups)) (link_steps (chain_steps image machine chain (number + 1) zero)) (are-prefix machine 63 groups are) (few-prefix 63 groups) named.0
      (lie.0 ∙ ap (λ slots. section_bytes slots None) (slots-prefix 63 groups))
      (none-after (drop 63 groups) (drop-all 63 groups (omega (arith, few)))))
    where
      none-after : (groups : List Group) → groups ≡ [] → StepsList (places_in groups) []
      none-after groups is = rw is (lists-none [])
  chain-lists (suc more) number groups here [] are few named lie = absurd lie.1
  chain-lists (suc more) number groups here (next ∷ after) are few named lie =
      let prefix = take 63 groups in
      let suffix = drop 63 groups in
      subst (λ places. StepsList places (chain_steps image machine chain number (suc (suc more)) (to here))) (sym (places-cut 63 groups))
      (sector-lists number prefix here (Some (to next)) (places_in suffix) (link_steps (chain_steps image machine chain (number + 1) (suc more))) (are-prefix machine 63 groups are) (few-prefix 63 groups) named.0
      (lie.0 ∙ ap (λ slots. section_bytes slots (Some (to next))) (slots-prefix 63 groups))
      (rw (link-of number (to next) named.1.0.one)
      (chain-lists more (number + 1) suffix next after (are-suffix machine 63 groups are) (few-suffix 63 groups (63 * (more + 1)) (omega (arith, few))) named.1
      (subst (λ slots. AreAt image (next ∷ after) (chain_sectors to (suc more) slots after)) (slots-suffix 63 groups) lie.1))))

  -- ---- the slots along a chain

  slots-at : (groups : List Group) (here : DiskSector) (link : Option Slot) (follow : Slot → List Slot) → AreGroups machine groups → length groups ≤ 63 → IsNamed machine to here → bytes_at image here ≡ section_bytes (slots_in groups) link
      → slots_from image follow (place_at machine (to here) 0) ≡ slots_in groups ++ slots_at_link follow (link_of 0 (slot_at (optional_bytes link)))
  slots-at groups here link follow are few named lies = rw (named.names, lies, sector-slots machine groups link are few, link-read 0 groups link few) refl

  pub chain-slots : (more : ℕ) (groups : List Group) (here : DiskSector) (after : List DiskSector)
      → AreGroups machine groups → length groups ≤ 63 * (more + 1) → AreNamed machine to (here ∷ after)
      → AreAt image (here ∷ after) (chain_sectors to (suc more) (slots_in groups) after)
      → chain_slots image machine (suc more) (to here) ≡ slots_in groups
  unfolding slot_at is_zero
  chain-slots zero groups here after are few named lie =
      slots-at (take 63 groups) here None (chain_slots image machine zero) (are-prefix machine 63 groups are) (few-prefix 63 groups) named.0 (lie.0 ∙ ap (λ slots. section_bytes slots None) (slots-prefix 63 groups))
      ∙ ap (λ groups'. slots_in (take 63 groups) ++ slots_in groups') (sym (drop-all 63 groups (omega (arith, few))))
      ∙ slots-cut 63 groups
  chain-slots (suc more) groups here [] are few named lie = absurd lie.1
  chain-slots (suc more) groups here (next ∷ after) are few named lie =
      let suffix = drop 63 groups in
      slots-at (take 63 groups) here (Some (to next)) (chain_slots image machine (suc more)) (are-prefix machine 63 groups are) (few-prefix 63 groups) named.0 (lie.0 ∙ ap (λ slots. section_bytes slots (Some (to next))) (slots-prefix 63 groups))
      ∙ ap (λ link. slots_in (take 63 groups) ++ slots_at_link (chain_slots image machine (suc more)) link) (link-of 0 (to next) named.1.0.one)
      ∙ ap (λ slots. slots_in (take 63 groups) ++ slots)
      (chain-slots more suffix next after (are-suffix machine 63 groups are) (few-suffix 63 groups (63 * (more + 1)) (omega (arith, few))) named.1
      (subst (λ slots. AreAt image (next ∷ after) (chain_sectors to (suc more) slots after)) (slots-suffix 63 groups) lie.1))
      ∙ slots-cut 63 groups

-- A section whose sectors lie where they are to lie lists the places of its slots, and nothing is refused.
pub section_again :
    (image : Image) (machine : Machine) (to : DiskSector → Slot) (more : ℕ) (groups : List Group) (here : DiskSector) (after : List DiskSector)
    → AreGroups machine groups → length groups ≤ 63 * (more + 1) → AreNamed machine to (here ∷ after)
    → AreAt image (here ∷ after) (chain_sectors to (suc more) (slots_in groups) after)
    → Lists (places_in groups) (section image machine (to here) (length (places_in groups)) (suc more))
unfolding section
section_again image machine to more groups here after are few named lie =
    chain-lists image machine to (suc more) more 0 groups here after are few named lie 0

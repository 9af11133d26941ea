-- The section sectors that are looked at for a file lie at the places of its section.
use Rattle.std.proofs.Common.{◌≡◌, ◌≤◌, ℕ, zero, suc, ◌+◌, ◌*◌, List, [], ◌∷◌, ◌++◌, map, length, take, drop, Option, None, Some, Result, Ok, Err, refl, sym, ap, subst, arith, length-take}
use Rattle.std.specs.List.{All, range_with_len}
use Rattle.std.proofs.lemmas.List.{length-map}
use Rattle.std.proofs.lemmas.List.Elements.{All-nil, All-cons, All-head, All-tail, All-append, All-same}
use Rattle.lilo_model.specs.Conf.{Config}
use Rattle.lilo_model.specs.Disks.{Image, Machine, DiskSector, bytes_at}
use Rattle.lilo_model.specs.Lays.{AreAt}
use Rattle.lilo_model.specs.Mapped.{listing_places}
use Rattle.lilo_model.specs.Plan.{MappedFile, slot_to, place_of_sector, filled_places, chain_for, chain_sectors, file_slots, file_sectors}
use Rattle.lilo_model.specs.Section.{SectionFault, ChainTooLong, Step, Reads, Names, Refuses, sector_step, slot_steps, slot_steps_then, slots_steps, slot_parts, link_of, link_at, link_steps, sector_steps, chain_steps, listing_of, section, sectors_for, file_listing, section_bytes}
use Rattle.lilo_model.specs.Slots.{AddressFault, Slot, slot_at, optional_bytes, place_at}
use Rattle.lilo_model.specs.Bytes.{is_zero}
use Rattle.map_laws.specs.Lies.{IsNamed, AreNamed, FileLies}
use Rattle.map_laws.proofs.Files.{file-listed}
use Rattle.map_laws.proofs.SectionAgain.{Group, slots_in, link-of, link-read}

-- ---- a section sector's link

abbrev bare : Slot → Group
bare slot = record { slot = slot; places = [] }

bare-slots : (slots : List Slot) → slots_in (map bare slots) ≡ slots
bare-slots [] = refl
bare-slots (slot ∷ slots) = ap (λ others. slot ∷ others) (bare-slots slots)

link-there : (number : ℕ) (slots : List Slot) (link : Option Slot) → length slots ≤ 63 → link_at number (section_bytes slots link) ≡ link_of number (slot_at (optional_bytes link))
link-there number slots link few =
    let count : length (map bare slots) ≡ length slots = length-map slots bare in
    subst (λ some. link_at number (section_bytes some link) ≡ link_of number (slot_at (optional_bytes link))) (bare-slots slots) (link-read number (map bare slots) link (omega (arith, count, few)))

few-taken : (slots : List Slot) → length (take 63 slots) ≤ 63
few-taken slots = subst (λ long. long ≤ 63) (sym (length-take 63 slots)) (grind arith)

-- ---- the sectors that steps read

module _ (P : DiskSector → Type 0) where
  -- each section sector among them has a fact
  abbrev AllReads : List Step → Type 0
  AllReads [] = Unit {0}
  AllReads (Reads place ∷ steps) = P place × AllReads steps
  AllReads (Names place ∷ steps) = AllReads steps
  AllReads (Refuses fault ∷ steps) = AllReads steps

  reads-joined : (first second : List Step) → AllReads first → AllReads second → AllReads (first ++ second)
  reads-joined [] second all others = others
  reads-joined (Reads place ∷ first) second all others = (all.0, reads-joined first second all.1 others)
  reads-joined (Names place ∷ first) second all others = reads-joined first second all others
  reads-joined (Refuses fault ∷ first) second all others = reads-joined first second all others

  -- there is none among the steps of slots
  step-reads : (found : Result DiskSector AddressFault) (steps : List Step) → AllReads steps → AllReads (sector_step found ∷ steps)
  step-reads (Ok place) steps all = all
  step-reads (Err fault) steps all = all

  slot-reads : (machine : Machine) (slot : Slot) (indices : List ℕ) → AllReads (map (λ index. sector_step (place_at machine slot index)) indices)
  slot-reads machine slot [] = tt
  slot-reads machine slot (index ∷ indices) =
      step-reads (place_at machine slot index) (map (λ index. sector_step (place_at machine slot index)) indices) (slot-reads machine slot indices)

  slots-read : (machine : Machine) (place : ℕ) (parts : List (List ℕ)) → AllReads (slots_steps machine place parts)
  slots-read machine place [] = tt
  slots-read machine place (part ∷ parts) = by (slot_at part) (slots-read machine (place + 1) parts)
    where
      by : (found : Result (Option Slot) AddressFault) → AllReads (slots_steps machine (place + 1) parts) → AllReads (slot_steps_then machine place found (slots_steps machine (place + 1) parts))
      by (Ok None) others = tt
      by (Ok (Some slot)) others = reads-joined (slot_steps machine slot) (slots_steps machine (place + 1) parts) (slot-reads machine slot (range_with_len 0 slot.count)) others
      by (Err fault) others = tt

  -- a listing looks at what its steps read
  looked-reads : (given needed : ℕ) (steps : List Step) → AllReads steps → All P (listing_of given needed steps).looked
  looked-reads given zero steps all = All-nil P
  looked-reads given (suc needed) [] all = All-nil P
  looked-reads given (suc needed) (Reads place ∷ steps) all = All-cons P place (listing_of given (suc needed) steps).looked all.0 (looked-reads given (suc needed) steps all.1)
  looked-reads given (suc needed) (Names place ∷ steps) all = looked-reads (given + 1) needed steps all
  looked-reads given (suc needed) (Refuses fault ∷ steps) all = All-nil P

  -- ---- along a chain

  module _ (image : Image) (machine : Machine) (to : DiskSector → Slot) (chain : ℕ) where
    sector-reads : (number : ℕ) (slots : List Slot) (here : DiskSector) (link : Option Slot) (follow : Result (Option Slot) SectionFault → List Step)
        → length slots ≤ 63 → IsNamed machine to here → P here → bytes_at image here ≡ section_bytes slots link
        → AllReads (follow (link_of number (slot_at (optional_bytes link))))
        → AllReads (sector_steps image machine number follow (place_at machine (to here) 0))
    sector-reads number slots here link follow few named has lies others =
        rw (named.names, lies, link-there number slots link few) (
          has,
          reads-joined (slots_steps machine (number * 64) (slot_parts (section_bytes slots link))) (follow (link_of number (slot_at (optional_bytes link))))
              (slots-read machine (number * 64) (slot_parts (section_bytes slots link))) others,
        )

    chain-reads : (more number : ℕ) (slots : List Slot) (here : DiskSector) (after : List DiskSector) → AreNamed machine to (here ∷ after) → All P (here ∷ after)
        → AreAt image (here ∷ after) (chain_sectors to (suc more) slots after)
        → AllReads (chain_steps image machine chain number (suc more) (to here))
    unfolding slot_at is_zero
    chain-reads zero number slots here after named all lie =
        sector-reads number (take 63 slots) here None (link_steps (chain_steps image machine chain (number + 1) zero)) (few-taken slots) named.0 (All-head P here after all) lie.0 tt
    chain-reads (suc more) number slots here [] named all lie = absurd lie.1
    chain-reads (suc more) number slots here (next ∷ after) named all lie =
        sector-reads number (take 63 slots) here (Some (to next)) (link_steps (chain_steps image machine chain (number + 1) (suc more))) (few-taken slots) named.0 (All-head P here (next ∷ after) all) lie.0
        (rw (link-of image machine to chain number (to next) named.1.0.one)
        (chain-reads more (number + 1) (drop 63 slots) next after named.1 (All-tail P here (next ∷ after) all) lie.1))

  -- ---- a file

  module _ (image : Image) (machine : Machine) (config : Config) (line_place zero_place : DiskSector) where
    file-looked : (file : MappedFile) (own : List DiskSector) → AreNamed machine (slot_to config.mode machine) own → All P own → AreAt image own (file_sectors config machine zero_place file own)
        → All P (file_listing image machine (slot_to config.mode machine (place_of_sector own 0)) file.size (chain_for config machine file)).looked
    unfolding file_sectors section
    file-looked file own named all lie = by (chain_for config machine file) own named all lie
      where
        by : (chain : ℕ) (own : List DiskSector) → AreNamed machine (slot_to config.mode machine) own → All P own
            → AreAt image own (chain_sectors (slot_to config.mode machine) chain (file_slots config machine zero_place file) (drop 1 own))
            → All P (section image machine (slot_to config.mode machine (place_of_sector own 0)) (sectors_for file.size) chain).looked
        by zero own named all lie = looked-reads 0 (sectors_for file.size) (Refuses (ChainTooLong 0) ∷ []) tt
        by (suc more) [] named all lie = absurd lie
        by (suc more) (here ∷ after) named all lie =
            looked-reads 0 (sectors_for file.size) (chain_steps image machine (suc more) 0 (suc more) (slot_to config.mode machine here))
            (chain-reads image machine (slot_to config.mode machine) (suc more) more 0 (file_slots config machine zero_place file) here after named all lie)

    -- all that is looked at for it: its section's sectors and its own
    pub file-mapped : (file : MappedFile) (bytes : List ℕ) (own : List DiskSector) → FileLies image machine config line_place zero_place file bytes
        → AreNamed machine (slot_to config.mode machine) own → AreAt image own (file_sectors config machine zero_place file own)
        → All P own → All P (filled_places zero_place file.places)
        → All P (listing_places (file_listing image machine (slot_to config.mode machine (place_of_sector own 0)) file.size (chain_for config machine file)))
    file-mapped file bytes own lies named lie all filled =
        let listing = file_listing image machine (slot_to config.mode machine (place_of_sector own 0)) file.size (chain_for config machine file) in
        All-append P listing.looked listing.places (file-looked file own named all lie)
        (All-same P listing.places (filled_places zero_place file.places) (file-listed image machine config line_place zero_place file bytes own lies named lie).0.all filled)

-- Where the default line's sector is written, a file's section leads to no other sectors than before: a sector
-- with a line refuses at its first slot.
use Rattle.std.proofs.Common.{◌≡◌, ℕ, zero, suc, ◌+◌, ◌*◌, ◌==◌, Bool, true, false, ◌&&◌, if◌then◌else◌, List, [], ◌∷◌, ◌++◌, map, Option, None, Some, Result, Ok, Err, refl, ap, sym, subst, ◌⊎◌, inl, inr}
use Rattle.std.specs.List.{range_with_len}
use Rattle.lilo_model.specs.Bytes.{part_of, is_zero}
use Rattle.lilo_model.specs.Disks.{Image, Machine, DiskSector, bytes_at, with_sector}
use Rattle.lilo_model.specs.Slots as slots
use Rattle.lilo_model.specs.Slots.{Slot, has_ranges, is_slot, slot_at, place_at}
use Rattle.lilo_model.specs.DefaultLine.{DefaultLine}
use Rattle.lilo_model.specs.LineSector.{line_bytes}
use Rattle.lilo_model.specs.Section.{SectionFault, BadSlot, Step, Reads, Names, Refuses, Listing, slots_steps, slot_parts, slot_steps_then, link_at, link_steps, sector_steps, chain_steps, listing_of, section, sectors_for, file_listing}
use Rattle.lilo_model.specs.Mapped.{listing_places}
use Rattle.lilo_model.specs.Boot.{line_written}
use Rattle.boot_laws.proofs.Same.{Same, same-front, same-back, same-joined}

-- the first slot of a line's sector is none
line-refuses : (line : DefaultLine) → slot_at (part_of (line_bytes line) 0 8) ≡ Err slots.BadSlot
unfolding slot_at is_zero is_slot has_ranges line_bytes
line-refuses line = refl

-- each sector of one image is that of another, or its first slot is none
abbrev pub Cuts : Image → Image → Type 0
Cuts image written =
    (place : DiskSector) → (bytes_at written place ≡ bytes_at image place) ⊎ (slot_at (part_of (bytes_at written place) 0 8) ≡ Err slots.BadSlot)

cuts-test : (image : Image) (line : DefaultLine) (disk sector : ℕ) (test : Bool)
    → ((if test then line_bytes line else image disk sector) ≡ image disk sector) ⊎ (slot_at (part_of (if test then line_bytes line else image disk sector) 0 8) ≡ Err slots.BadSlot)
cuts-test image line disk sector true = inr (line-refuses line)
cuts-test image line disk sector false = inl refl

-- an image with a line's sector is such a one
pub line-cuts : (image : Image) (line : DefaultLine) (stands : Bool) (place : Result DiskSector slots.AddressFault) → Cuts image (line_written image line stands place)
line-cuts image line true place at = inl refl
line-cuts image line false (Err fault) at = inl refl
line-cuts image line false (Ok place) at = cuts-test image line at.disk at.sector (place.disk == at.disk && place.sector == at.sector)

-- images with the same line's sector are the same where the images without it are
written-test : (bytes before before' : List ℕ) (test : Bool) → before' ≡ before → (if test then bytes else before') ≡ (if test then bytes else before)
written-test bytes before before' true same = refl
written-test bytes before before' false same = same

written-sector : (image other : Image) (place : DiskSector) (bytes : List ℕ) (places : List DiskSector) → Same image other places → Same (with_sector image place bytes) (with_sector other place bytes) places
written-sector image other place bytes [] same = tt
written-sector image other place bytes (at ∷ places) same =
    (written-test bytes (bytes_at image at) (bytes_at other at) (place.disk == at.disk && place.sector == at.sector) same.0, written-sector image other place bytes places same.1)

pub written-same : (image other : Image) (line : DefaultLine) (stands : Bool) (place : Result DiskSector slots.AddressFault) (places : List DiskSector)
    → Same image other places → Same (line_written image line stands place) (line_written other line stands place) places
written-same image other line true place places same = same
written-same image other line false (Err fault) places same = same
written-same image other line false (Ok place) places same = written-sector image other place (line_bytes line) places same

-- the same on the sectors of a listing
abbrev Within : Image → Image → Listing → Type 0
Within one two listing = Same one two listing.looked × Same one two listing.places

module _ (one two : Image) where
  -- steps give no other sectors than others
  abbrev Keeps : List Step → List Step → Type 0
  Keeps steps steps' = (given needed : ℕ) → Within one two (listing_of given needed steps) → Within one two (listing_of given needed steps')

  keeps-behind : (first steps steps' : List Step) → Keeps steps steps' → Keeps (first ++ steps) (first ++ steps')
  keeps-behind first steps steps' keeps given zero within = within
  keeps-behind [] steps steps' keeps given (suc needed) within = keeps given (suc needed) within
  keeps-behind (Reads place ∷ first) steps steps' keeps given (suc needed) within =
      let rest = keeps-behind first steps steps' keeps given (suc needed) (within.0.1, within.1) in
      ((within.0.0, rest.0), rest.1)
  keeps-behind (Names place ∷ first) steps steps' keeps given (suc needed) within =
      let rest = keeps-behind first steps steps' keeps (given + 1) needed (within.0, within.1.1) in
      (rest.0, (within.1.0, rest.1))
  keeps-behind (Refuses fault ∷ first) steps steps' keeps given (suc needed) within = within

  module _ (image written : Image) (cuts : Cuts image written) (machine : Machine) where
    -- a sector that refuses at its first slot gives none
    cut-steps : (number : ℕ) (bytes : List ℕ) → slot_at (part_of bytes 0 8) ≡ Err slots.BadSlot → slots_steps machine (number * 64) (slot_parts bytes) ≡ Refuses (BadSlot (number * 64)) ∷ []
    cut-steps number bytes bad =
        ap (λ found. slot_steps_then machine (number * 64) found (slots_steps machine (number * 64 + 1) (map (λ index. part_of bytes (8 * index) 8) (range_with_len 1 62)))) bad

    sector-keeps : (number : ℕ) (behind behind' : Result (Option Slot) SectionFault → List Step)
        → ((link : Result (Option Slot) SectionFault) → Keeps (behind link) (behind' link))
        → (place : Result DiskSector slots.AddressFault)
        → Keeps (sector_steps image machine number behind place) (sector_steps written machine number behind' place)
    sector-keeps number behind behind' keeps (Err fault) given needed within = within
    sector-keeps number behind behind' keeps (Ok place) given zero within = within
    sector-keeps number behind behind' keeps (Ok place) given (suc needed) within =
        let rest : List ℕ → (Result (Option Slot) SectionFault → List Step) → Listing = λ bytes next. listing_of given (suc needed) (slots_steps machine (number * 64) (slot_parts bytes) ++ next (link_at number bytes)) in
        elim (cuts place) [
          | inl same ↦
              let link = link_at number (bytes_at image place) in
              let first = slots_steps machine (number * 64) (slot_parts (bytes_at image place)) in
              let kept = keeps-behind first (behind link) (behind' link) (keeps link) given (suc needed) (within.0.1, within.1) in
              let moved = subst (λ bytes. Within one two (rest bytes behind')) (sym same) kept in
              ((within.0.0, moved.0), moved.1)
          | inr bad ↦
              let link = link_at number (bytes_at written place) in
              let moved = subst (λ steps. Within one two (listing_of given (suc needed) (steps ++ behind' link))) (sym (cut-steps number (bytes_at written place) bad)) (tt, tt) in
              ((within.0.0, moved.0), moved.1)
        ]

    link-keeps : (follow follow' : Slot → List Step) → ((slot : Slot) → Keeps (follow slot) (follow' slot))
        → (link : Result (Option Slot) SectionFault) → Keeps (link_steps follow link) (link_steps follow' link)
    link-keeps follow follow' keeps (Ok None) given needed within = within
    link-keeps follow follow' keeps (Ok (Some slot)) given needed within = keeps slot given needed within
    link-keeps follow follow' keeps (Err fault) given needed within = within

    chain-keeps : (chain number more : ℕ) (link : Slot) → Keeps (chain_steps image machine chain number more link) (chain_steps written machine chain number more link)
    chain-keeps chain number zero link given needed within = within
    chain-keeps chain number (suc more) link given needed within =
        sector-keeps number
        (link_steps (chain_steps image machine chain (number + 1) more))
        (link_steps (chain_steps written machine chain (number + 1) more))
        (link-keeps (chain_steps image machine chain (number + 1) more) (chain_steps written machine chain (number + 1) more) (chain-keeps chain (number + 1) more))
        (place_at machine link 0)
        given
        needed
        within

    -- what holds on a listing's sectors holds on those of the listing after the write
    pub listing-keeps : (first : Slot) (len chain : ℕ) → Same one two (listing_places (file_listing image machine first len chain)) → Same one two (listing_places (file_listing written machine first len chain))
    unfolding section
    listing-keeps first len chain same =
        let before = file_listing image machine first len chain in
        let after = file_listing written machine first len chain in
        let kept : Within one two after = chain-keeps chain 0 chain first 0 (sectors_for len) (same-front one two before.looked before.places same, same-back one two before.looked before.places same) in
        same-joined one two after.looked after.places kept.0 kept.1

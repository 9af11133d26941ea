-- The sectors of a file are read from the section sectors that are looked at, and its bytes from these sectors.
use Rattle.std.proofs.Common.{◌≡◌, ℕ, zero, suc, ◌+◌, ◌*◌, List, [], ◌∷◌, ◌++◌, Option, None, Some, Result, Ok, Err, refl, ap, ◌∙◌, take}
use Rattle.std.specs.List.{concat}
use Rattle.lilo_model.specs.Disks.{Image, Machine, DiskSector, bytes_at}
use Rattle.lilo_model.specs.Slots as slots
use Rattle.lilo_model.specs.Slots.{Slot, place_at}
use Rattle.lilo_model.specs.Section.{SectionFault, Step, Reads, Names, Refuses, Listing, slots_steps, slot_parts, link_at, link_steps, sector_steps, chain_steps, with_place, with_looked, listing_of, section, sectors_for, content_of, file_listing, file_content}
use Rattle.lilo_model.specs.Mapped.{listing_places}
use Rattle.boot_laws.proofs.Same.{Same, same-front, same-back, same-bytes}

-- steps give the same sectors as others, where the section sectors that these look at are the same
abbrev pub SameListings : Image → Image → List Step → List Step → Type 0
SameListings image other steps steps' =
    (given needed : ℕ) → Same image other (listing_of given needed steps).looked → listing_of given needed steps' ≡ listing_of given needed steps

module _ (image other : Image) where
  -- so they do with the same steps before them
  listing-behind : (first steps steps' : List Step) → SameListings image other steps steps' → SameListings image other (first ++ steps) (first ++ steps')
  listing-behind first steps steps' same given zero looked = refl
  listing-behind [] steps steps' same given (suc needed) looked = same given (suc needed) looked
  listing-behind (Reads place ∷ first) steps steps' same given (suc needed) looked =
      ap (with_looked place) (listing-behind first steps steps' same given (suc needed) looked.1)
  listing-behind (Names place ∷ first) steps steps' same given (suc needed) looked =
      ap (with_place place) (listing-behind first steps steps' same (given + 1) needed looked)
  listing-behind (Refuses fault ∷ first) steps steps' same given (suc needed) looked = refl

  module _ (machine : Machine) where
    sector-same : (number : ℕ) (behind behind' : Result (Option Slot) SectionFault → List Step)
        → ((link : Result (Option Slot) SectionFault) → SameListings image other (behind link) (behind' link))
        → (place : Result DiskSector slots.AddressFault)
        → SameListings image other (sector_steps image machine number behind place) (sector_steps other machine number behind' place)
    sector-same number behind behind' same (Err fault) given needed looked = refl
    sector-same number behind behind' same (Ok place) given zero looked = refl
    sector-same number behind behind' same (Ok place) given (suc needed) looked =
        let link = link_at number (bytes_at image place) in
        let first = slots_steps machine (number * 64) (slot_parts (bytes_at image place)) in
        ap (λ bytes. with_looked place (listing_of given (suc needed) (slots_steps machine (number * 64) (slot_parts bytes) ++ behind' (link_at number bytes)))) looked.0
        ∙ ap (with_looked place) (listing-behind first (behind link) (behind' link) (same link) given (suc needed) looked.1)

    -- what comes after a link is the same, where the chain after it is
    link-same : (follow follow' : Slot → List Step) → ((slot : Slot) → SameListings image other (follow slot) (follow' slot))
        → (link : Result (Option Slot) SectionFault) → SameListings image other (link_steps follow link) (link_steps follow' link)
    link-same follow follow' same (Ok None) given needed looked = refl
    link-same follow follow' same (Ok (Some slot)) given needed looked = same slot given needed looked
    link-same follow follow' same (Err fault) given needed looked = refl

    -- a chain is read from the section sectors that are looked at
    chain-same : (chain number more : ℕ) (link : Slot) → SameListings image other (chain_steps image machine chain number more link) (chain_steps other machine chain number more link)
    chain-same chain number zero link given needed looked = refl
    chain-same chain number (suc more) link given needed looked =
        sector-same number
        (link_steps (chain_steps image machine chain (number + 1) more))
        (link_steps (chain_steps other machine chain (number + 1) more))
        (link-same (chain_steps image machine chain (number + 1) more) (chain_steps other machine chain (number + 1) more) (chain-same chain (number + 1) more))
        (place_at machine link 0)
        given
        needed
        looked

    -- the listing of a file is read from them
    pub listing-same : (first : Slot) (len chain : ℕ) → Same image other (file_listing image machine first len chain).looked → file_listing other machine first len chain ≡ file_listing image machine first len chain
    unfolding section
    listing-same first len chain looked = chain-same chain 0 chain first 0 (sectors_for len) looked

  content_of-same : (len : ℕ) (listing : Listing) → Same image other listing.places → content_of other len listing ≡ content_of image len listing
  content_of-same len listing same =
      ap (λ sectors. record { bytes = take len (concat sectors); refusal = listing.refusal }) (same-bytes image other listing.places same)

  -- and its bytes from them and from the sectors that are listed
  pub content-same : (machine : Machine) (first : Slot) (len chain : ℕ) → Same image other (listing_places (file_listing image machine first len chain)) → file_content other machine first len chain ≡ file_content image machine first len chain
  unfolding file_content
  content-same machine first len chain same =
      let listing = file_listing image machine first len chain in
      ap (content_of other len) (listing-same machine first len chain (same-front image other listing.looked listing.places same))
      ∙ content_of-same len listing (same-back image other listing.looked listing.places same)

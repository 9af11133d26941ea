-- The sectors of a file on a volume, one after the other, are its content.
use Rattle.std.proofs.Common.{◌≡◌, ◌≢◌, ◌≤◌, ℕ, zero, suc, ◌+◌, ◌*◌, ◌/◌, ◌%◌, ◌==◌, Bool, true, false, if◌then◌else◌, List, [], ◌∷◌, ◌++◌, map, length, take, replicate, None, Some, refl, sym, ap, ◌∙◌, arith, append_assoc, append-nil, length-append}
use Rattle.std.specs.Prelude.{Option}
use Rattle.std.specs.List.{concat, range_with_len}
use Rattle.std.proofs.lemmas.Simd.{map-map}
use Rattle.std.proofs.lemmas.Bool.Decides.{nat_tests}
use Rattle.std.proofs.lemmas.List.Folds.{concat-append}
use Rattle.std.proofs.lemmas.List.FromFn.{map-range_with_len_more}
use Rattle.lilo_model.specs.Disks.{Image, Machine, DiskSector, bytes_at}
use Rattle.lilo_model.specs.Slots.{Slot}
use Rattle.lilo_model.specs.Section.{Listing, sectors_for, content_of, file_content, section}
use Rattle.lilo_model.specs.MinixParts.{Volume, parts_of, sector_of, zone_bytes, blocks_for}
use Rattle.lilo_model.specs.MinixNames.{zone_number, block, blocks, content}
use Rattle.lilo_model.specs.Planned.{sector_in_zone, inode_places}
use Rattle.map_laws.specs.Shows.{whole}
use Rattle.map_laws.proofs.SectionAgain.{Lists}

-- a file whose section lists its sectors is there as a whole
pub content_again : (image : Image) (machine : Machine) (first : Slot) (chain : ℕ) (places : List DiskSector) (bytes : List ℕ)
    → Lists places (section image machine first (sectors_for (length bytes)) chain)
    → take (length bytes) (concat (map (bytes_at image) places)) ≡ bytes
    → file_content image machine first (length bytes) chain ≡ whole bytes
unfolding file_content
content_again image machine first chain places bytes lists is =
    by-listing (section image machine first (sectors_for (length bytes)) chain) lists
  where
    by-listing : (listing : Listing) → Lists places listing → content_of image (length bytes) listing ≡ whole bytes
    by-listing listing lists = rw (lists.all, lists.good, is) refl

-- ---- a file on a volume

-- the bytes of a place, zeros for a hole
abbrev pub held_bytes : Image → Option DiskSector → List ℕ
held_bytes image None = replicate 512 0
held_bytes image (Some place) = bytes_at image place

-- the bytes of a file's sectors
module _ (volume : Volume) (image : Image) (number : ℕ) where
  abbrev pub sector_bytes : ℕ → List ℕ
  sector_bytes index =
      held_bytes image (sector_in_zone volume.span (zone_number volume.layout (parts_of volume image) number (index / 2)) index)

  both-halves : (index : ℕ) → sector_bytes (2 * index) ++ sector_bytes (2 * index + 1) ≡ block volume.layout (parts_of volume image) number index
  unfolding block parts_of
  both-halves index =
      rw (half, other, even, odd) (by-zone (zone_number volume.layout (parts_of volume image) number index) (zone_number volume.layout (parts_of volume image) number index == 0) refl)
    where
      half : 2 * index / 2 ≡ index
      half = omega arith

      other : (2 * index + 1) / 2 ≡ index
      other = omega arith

      even : 2 * index % 2 ≡ 0
      even = omega arith

      odd : (2 * index + 1) % 2 ≡ 1
      odd = omega arith

      by-zone : (zone : ℕ) (hole : Bool) → (zone == 0) ≡ hole
          → held_bytes image (if zone == 0 then None else Some (record { disk = volume.span.disk; sector = volume.span.start + (2 * zone + 0) }))
          ++ held_bytes image (if zone == 0 then None else Some (record { disk = volume.span.disk; sector = volume.span.start + (2 * zone + 1) }))
          ≡ zone_bytes (parts_of volume image) zone
      by-zone zone true is = rw is refl
      by-zone zone false is = rw (is) (ap (λ n. sector_of volume image n ++ sector_of volume image (2 * zone + 1)) (omega arith))

  -- the first sectors, one after the other
  abbrev pub sectors_to : ℕ → List ℕ
  sectors_to count = concat (map sector_bytes (range_with_len 0 count))

  one-more : (count : ℕ) → sectors_to (count + 1) ≡ sectors_to count ++ sector_bytes count
  one-more count =
      ap concat (map-range_with_len_more sector_bytes 0 count count (omega arith))
      ∙ concat-append (map sector_bytes (range_with_len 0 count)) (sector_bytes count ∷ [])
      ∙ ap (λ last. sectors_to count ++ last) (append-nil (sector_bytes count))

  two-more : (count : ℕ) → sectors_to (2 * count + 1 + 1) ≡ sectors_to (2 * count) ++ block volume.layout (parts_of volume image) number count
  two-more count =
      one-more (2 * count + 1) ∙ ap (λ bytes. bytes ++ sector_bytes (2 * count + 1)) (one-more (2 * count))
      ∙ append_assoc (sectors_to (2 * count)) (sector_bytes (2 * count)) (sector_bytes (2 * count + 1))
      ∙ ap (λ bytes. sectors_to (2 * count) ++ bytes) (both-halves count)

  pub blocks-sectors : (count : ℕ) → sectors_to (2 * count) ≡ blocks (block volume.layout (parts_of volume image) number) count
  blocks-sectors zero = refl
  blocks-sectors (suc count) =
      let next : 2 * suc count ≡ 2 * count + 1 + 1 = omega arith in
      ap sectors_to next ∙ two-more count ∙ ap (λ bytes. bytes ++ block volume.layout (parts_of volume image) number count) (blocks-sectors count)

  -- each sector that the file has is whole
  module _ (long : (index : ℕ) → length (sector_bytes index) ≡ 512) where
    pub length-sectors : (count : ℕ) → length (sectors_to count) ≡ 512 * count
    length-sectors zero = refl
    length-sectors (suc count) =
        let next : suc count ≡ count + 1 = omega arith in
        ap (λ n. length (sectors_to n)) next ∙ ap length (one-more count) ∙ length-append (sectors_to count) (sector_bytes count)
        ∙ ap (λ n. n + length (sector_bytes count)) (length-sectors count) ∙ ap (λ n. 512 * count + n) (long count) ∙ omega arith

    take-prefix : (size : ℕ) (prefix suffix : List ℕ) → size ≤ length prefix → take size (prefix ++ suffix) ≡ take size prefix
    take-prefix zero prefix suffix fits = refl
    take-prefix (suc size) [] suffix fits = absurd (omega (arith, fits))
    take-prefix (suc size) (byte ∷ prefix) suffix fits = ap (λ bytes. byte ∷ bytes) (take-prefix size prefix suffix (omega (arith, fits)))

    -- as many bytes of them as the file has are its first blocks'
    sectors-enough : (size : ℕ) → take size (sectors_to (sectors_for size)) ≡ take size (blocks (block volume.layout (parts_of volume image) number) (blocks_for size))
    sectors-enough size = by-odd (2 * blocks_for size == sectors_for size) refl
      where
        by-odd : (even : Bool) → (2 * blocks_for size == sectors_for size) ≡ even → take size (sectors_to (sectors_for size)) ≡ take size (blocks (block volume.layout (parts_of volume image) number) (blocks_for size))
        by-odd true is =
            let same : 2 * blocks_for size ≡ sectors_for size = grind (arith, nat_tests) in
            ap (λ n. take size (sectors_to n)) (sym same) ∙ ap (take size) (blocks-sectors (blocks_for size))
        by-odd false is =
            let other : 2 * blocks_for size ≢ sectors_for size = grind (arith, nat_tests) in
            let more : 2 * blocks_for size ≡ sectors_for size + 1 = omega (arith, other) in
            let size_fits : size ≤ length (sectors_to (sectors_for size)) = rw (length-sectors (sectors_for size)) (omega arith) in
            sym (take-prefix size (sectors_to (sectors_for size)) (sector_bytes (sectors_for size)) size_fits)
            ∙ ap (take size) (sym (one-more (sectors_for size)) ∙ ap sectors_to (sym more) ∙ blocks-sectors (blocks_for size))

    -- A file's sectors in order, zeros for holes, have its content.
    pub file-sectors : take ((parts_of volume image).node number).size (concat (map (held_bytes image) (inode_places volume (parts_of volume image) number))) ≡ content volume.layout (parts_of volume image) number
    unfolding inode_places content
    file-sectors =
        let size = ((parts_of volume image).node number).size in
        ap (λ sectors. take size (concat sectors)) (map-map _ _ (range_with_len 0 (sectors_for size))) ∙ sectors-enough size

-- What a survey found says which bits are those of waste.
use Rattle.std.proofs.Common.{◌≡◌, ◌≤◌, ◌<◌, ◌+◌, ◌-◌, ◌/◌, ◌%◌, ◌==◌, ◌&&◌, ◌||◌, ℕ, nat_le, nat_lt, Bool, true, false, not, List, length, Option, Some, None, refl, sym, ◌∙◌, ap, arith, inl, inr}
use Rattle.std.specs.Prelude.{is_none, is_some}
use Rattle.std.proofs.lemmas.Bool.{and_parts, le-leb, lt-ltb}
use Rattle.lilo_model.specs.Disks.{Image}
use Rattle.lilo_model.specs.MinixLayout.{IsSuper}
use Rattle.lilo_model.specs.MinixParts.{Parts, Volume, sector_of, bit, parts_of, zone_bit, zone_mark_sector}
use Rattle.lilo_model.specs.MinixSurvey as model
use Rattle.lilo_model.specs.MinixSurvey.{Met}
use Rattle.ldisk_model.specs.Waste.{IsWasteZone, IsWasteInode, is_met, is_waste_zone, is_waste_inode, waste_zones, waste_inodes, AreWaste}
use Rattle.minix_steps.specs.Free.{free_from}
use Rattle.minix_steps.proofs.RangeLemmas.{same_free}
use Rattle.minix_steps.proofs.RegionLemmas.{laid_super}
use Rattle.minix_survey.specs.declared.findings.Findings.{Findings}
use Rattle.minix_survey.specs.Findings.{owner_in, names_in, AreFindings}
use Rattle.minix_reclaim.specs.declared.bitmap.Bitmap.{Bitmap}
use Rattle.minix_reclaim.specs.declared.bitmap.Marked.TheVariants.{Zones, Inodes}
use Rattle.minix_reclaim.specs.Bitmap.{zone_bitmap, inode_bitmap, is_used, sector_with, bit_with, marked, is_unused_on}
use Rattle.minix_reclaim.specs.Frees.{IsWasteUnused, bits_in, sectors_of}

unused-none : (o : Option ℕ) → is_some o ≡ false → is_none o ≡ true
unused-none None is = refl
unused-none (Some n) is = cc

none-unused : (o : Option ℕ) → is_none o ≡ true → is_some o ≡ false
none-unused None is = refl
none-unused (Some n) is = cc

not-some : (o : Option ℕ) → not (is_some o) ≡ is_none o
not-some None = refl
not-some (Some n) = refl

not-false : (b : Bool) → not b ≡ true → b ≡ false
not-false true is = cc
not-false false is = refl

module _ (volume : Volume) (image : Image) (count : ℕ) (is : IsSuper volume.layout count) where
  abbrev Parts' : Parts
  Parts' = parts_of volume image

  abbrev Zones' : Bitmap
  Zones' = zone_bitmap volume.layout

  abbrev Inodes' : Bitmap
  Inodes' = inode_bitmap volume.layout

  first-some : 1 ≤ volume.layout.first
  first-some = let lays = laid_super volume.layout count is in omega (arith, lays.table)

  -- ---- where bits lie

  zone-sector : (n : ℕ) → volume.layout.first ≤ n → sector_with Zones' n ≡ zone_mark_sector volume.layout n
  zone-sector n from = omega (arith, from, first-some)

  zone-place : (n : ℕ) → volume.layout.first ≤ n → bit_with Zones' n ≡ zone_bit volume.layout n % 4096
  zone-place n from = let same : n - (volume.layout.first - 1) ≡ zone_bit volume.layout n = omega (arith, from, first-some) in ap (λ k. k % 4096) same

  pub zone_mark : (n : ℕ) → volume.layout.first ≤ n → marked volume image Zones' n ≡ (Parts').has_zone n
  unfolding parts_of
  zone_mark n from =
      ap (λ s. bit (sector_of volume image s) (bit_with Zones' n)) (zone-sector n from)
      ∙ ap (bit (sector_of volume image (zone_mark_sector volume.layout n))) (zone-place n from)

  pub inode_mark : (n : ℕ) → marked volume image Inodes' n ≡ (Parts').has_inode n
  unfolding parts_of
  inode_mark n = let same : n - 0 ≡ n = omega arith in ap (λ k. bit (sector_of volume image (4 + k / 4096)) (k % 4096)) same

  module _ (found : Findings) (met : List Met) (findings : AreFindings found met) (waste : AreWaste volume.layout (Parts') met) where
    -- ---- zones

    zone-same : (n : ℕ) → volume.layout.first ≤ n → n < volume.layout.zones → is_unused_on volume image Zones' found n ≡ is_waste_zone volume.layout (Parts') met n
    zone-same n from below =
        ap (λ (b : Bool). b && not (is_some (owner_in found n))) (zone_mark n from)
        ∙ ap (λ (o : Option ℕ). (Parts').has_zone n && not (is_some o)) (findings.owner n)
        ∙ ap (λ (b : Bool). (Parts').has_zone n && b) (not-some (model.owner met n))
        ∙ sym (ap (λ (b : Bool). b && nat_lt n volume.layout.zones && (Parts').has_zone n && is_none (model.owner met n)) (le-leb volume.layout.first n from)
        ∙ ap (λ (b : Bool). b && (Parts').has_zone n && is_none (model.owner met n)) (lt-ltb n volume.layout.zones below))

    unused-zone : (n : ℕ) → volume.layout.first ≤ n → n < volume.layout.zones → marked volume image Zones' n ≡ true → is_used Zones found n ≡ false → IsWasteZone volume.layout (Parts') n
    unused-zone n from below set unused =
        (waste.zones n).0 (sym (zone-same n from below) ∙ ap (λ (b : Bool). b && not (is_some (owner_in found n))) set ∙ ap not unused)

    pub zones_waste : IsWasteUnused volume image Zones' found
    zones_waste n number set unused =
        let above = number.above in
        let from : volume.layout.first ≤ n = omega (arith, above) in
        inl (record { zone = n; waste = unused-zone n from number.below set unused; there = sym (zone-sector n from); is = sym (zone-place n from) })

    pub waste_zone_unused : (n : ℕ) → IsWasteZone volume.layout (Parts') n → is_used Zones found n ≡ false
    waste_zone_unused n it =
        ap (λ (o : Option ℕ). is_some o) (findings.owner n)
        ∙ none-unused (model.owner met n) (and_parts (nat_le volume.layout.first n && nat_lt n volume.layout.zones && (Parts').has_zone n) (is_none (model.owner met n)) ((waste.zones n).1 it)).1

    pub zones_counted : length (free_from (is_unused_on volume image Zones' found) (volume.layout.first - 1 + 1) (bits_in Zones' (sectors_of Zones') - 1)) ≡ length (waste_zones volume.layout (Parts') met)
    unfolding waste_zones
    zones_counted =
        let lays = laid_super volume.layout count is in
        let start : volume.layout.first - 1 + 1 ≡ volume.layout.first = omega (arith, first-some) in
        let many : bits_in Zones' (sectors_of Zones') - 1 ≡ volume.layout.zones - volume.layout.first = omega (arith, first-some, lays.first) in
        ap (λ a. length (free_from (is_unused_on volume image Zones' found) a (bits_in Zones' (sectors_of Zones') - 1))) start
        ∙ ap (λ n. length (free_from (is_unused_on volume image Zones' found) volume.layout.first n)) many
        ∙ ap length (same_free (is_unused_on volume image Zones' found) (is_waste_zone volume.layout (Parts') met) volume.layout.first (volume.layout.zones - volume.layout.first)
        (λ m low high. zone-same m low (omega (arith, high, lays.first))))

    -- ---- inodes

    inode-same : (n : ℕ) → 1 ≤ n → n ≤ volume.layout.inodes → is_unused_on volume image Inodes' found n ≡ is_waste_inode volume.layout (Parts') met n
    inode-same n from below =
        ap (λ (b : Bool). b && not ((n == 1) || not (names_in found n == 0))) (inode_mark n)
        ∙ ap (λ (k : ℕ). (Parts').has_inode n && not ((n == 1) || not (k == 0))) (findings.names n)
        ∙ sym (ap (λ (b : Bool). b && nat_le n volume.layout.inodes && (Parts').has_inode n && not (is_met met n)) (le-leb 1 n from)
        ∙ ap (λ (b : Bool). b && (Parts').has_inode n && not (is_met met n)) (le-leb n volume.layout.inodes below))

    unused-inode : (n : ℕ) → 1 ≤ n → n ≤ volume.layout.inodes → marked volume image Inodes' n ≡ true → is_used Inodes found n ≡ false → IsWasteInode volume.layout (Parts') n
    unused-inode n from below set unused =
        (waste.inodes n).0 (sym (inode-same n from below) ∙ ap (λ (b : Bool). b && not (is_used Inodes found n)) set ∙ ap not unused)

    pub inodes_waste : IsWasteUnused volume image Inodes' found
    inodes_waste n number set unused =
        let above = number.above in
        let below = number.below in
        inr (record { number = n; waste = unused-inode n (omega (arith, above)) (omega (arith, below)) set unused; there = omega arith; is = omega arith })

    pub waste_inode_unused : (n : ℕ) → IsWasteInode volume.layout (Parts') n → is_used Inodes found n ≡ false
    waste_inode_unused n it =
        ap (λ (k : ℕ). (n == 1) || not (k == 0)) (findings.names n)
        ∙ not-false (is_met met n) (and_parts (nat_le 1 n && nat_le n volume.layout.inodes && (Parts').has_inode n) (not (is_met met n)) ((waste.inodes n).1 it)).1

    pub inodes_counted : length (free_from (is_unused_on volume image Inodes' found) (0 + 1) (bits_in Inodes' (sectors_of Inodes') - 1)) ≡ length (waste_inodes volume.layout (Parts') met)
    unfolding waste_inodes
    inodes_counted =
        let many : bits_in Inodes' (sectors_of Inodes') - 1 ≡ volume.layout.inodes = omega arith in
        ap (λ n. length (free_from (is_unused_on volume image Inodes' found) 1 n)) many
        ∙ ap length (same_free (is_unused_on volume image Inodes' found) (is_waste_inode volume.layout (Parts') met) 1 volume.layout.inodes
        (λ m low high. inode-same m low (omega (arith, high))))

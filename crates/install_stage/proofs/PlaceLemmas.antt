-- Facts of places that are reckoned by an index, one by one.
use Rattle.std.proofs.Common.{◌≡◌, ◌≢◌, ◌≤◌, ◌<◌, ℕ, zero, suc, ◌+◌, List, [], ◌∷◌, length, map, refl, ap, ◌∙◌, arith}
use Rattle.std.specs.List.{AllByRecursion, range_with_len}
use Rattle.lilo_model.specs.Disks.{Image, DiskSector, bytes_at}
use Rattle.lilo_model.specs.Lays.{AreAt}
use Rattle.map_laws.specs.Lies.{IsNone}
use Rattle.install_stage.specs.Blocks.{sector_or_zeros}

module _ (place : ℕ → DiskSector) where
  abbrev pub PlacesFrom : ℕ → ℕ → List DiskSector
  PlacesFrom from count = map place (range_with_len from count)

  -- sectors lie there that lie there one by one
  pub at_each : (image : Image) (from : ℕ) (sectors : List (List ℕ))
      → ((index : ℕ) → index < length sectors → bytes_at image (place (from + index)) ≡ sector_or_zeros sectors index) → AreAt image (PlacesFrom from (length sectors)) sectors
  at_each image from [] same = tt
  at_each image from (bytes ∷ sectors) same =
      let here : from ≡ from + 0 = omega arith in (
        ap (λ n. bytes_at image (place n)) here ∙ same 0 (omega arith),
        at_each image (from + 1) sectors (λ index low.
            let next : from + 1 + index ≡ from + suc index = omega arith in
            ap (λ n. bytes_at image (place n)) next ∙ same (suc index) (omega (arith, low))),
      )

  -- each has what they have one by one
  pub each_has : (P : DiskSector → Type 0) (from count : ℕ) → ((index : ℕ) → from ≤ index → index < from + count → P (place index)) → AllByRecursion P (PlacesFrom from count)
  each_has P from zero has = tt
  each_has P from (suc count) has = (has from (omega arith) (omega arith), each_has P (from + 1) count (λ index low high. has index (omega (arith, low)) (omega (arith, high))))

-- one is none of them
pub none_is : (place : ℕ → DiskSector) (one : DiskSector) (from count : ℕ) → ((index : ℕ) → from ≤ index → index < from + count → one ≢ place index) → IsNone one (PlacesFrom place from count)
none_is place one from zero other = tt
none_is place one from (suc count) other =
    (other from (omega arith) (omega arith), none_is place one (from + 1) count (λ index low high. other index (omega (arith, low)) (omega (arith, high))))

-- two reckonings that agree
pub same_places : (one other : ℕ → DiskSector) (from count : ℕ) → ((index : ℕ) → one index ≡ other index) → PlacesFrom one from count ≡ PlacesFrom other from count
same_places one other from zero same = refl
same_places one other from (suc count) same =
    ap (λ place. place ∷ PlacesFrom one (from + 1) count) (same from) ∙ ap (λ places. other from ∷ places) (same_places one other (from + 1) count same)

-- Images that have the same bytes in each of some sectors.
use Rattle.std.proofs.Common.{◌≡◌, List, [], ◌∷◌, ◌++◌, map, refl, ap, ◌∙◌}
use Rattle.std.proofs.lemmas.List.Elements.{recursion_from_All}
use Rattle.std.specs.List.{All, AllByRecursion}
use Rattle.lilo_model.specs.Disks.{Image, DiskSector, bytes_at}

-- the same by recursion
abbrev pub Same : Image → Image → List DiskSector → Type 0
Same image other places = AllByRecursion (λ place. bytes_at other place ≡ bytes_at image place) places

module _ (image other : Image) where
  pub same-from_all : (places : List DiskSector) → All (λ place. bytes_at other place ≡ bytes_at image place) places → Same image other places
  same-from_all places all = recursion_from_All (λ place. bytes_at other place ≡ bytes_at image place) places all

  pub same-front : (front back : List DiskSector) → Same image other (front ++ back) → Same image other front
  same-front [] back same = tt
  same-front (place ∷ front) back same = (same.0, same-front front back same.1)

  pub same-back : (front back : List DiskSector) → Same image other (front ++ back) → Same image other back
  same-back [] back same = same
  same-back (place ∷ front) back same = same-back front back same.1

  pub same-joined : (front back : List DiskSector) → Same image other front → Same image other back → Same image other (front ++ back)
  same-joined [] back same same' = same'
  same-joined (place ∷ front) back same same' = (same.0, same-joined front back same.1 same')

  pub same-bytes : (places : List DiskSector) → Same image other places → map (bytes_at other) places ≡ map (bytes_at image) places
  same-bytes [] same = refl
  same-bytes (place ∷ places) same = ap (λ bytes. bytes ∷ map (bytes_at other) places) same.0 ∙ ap (λ sectors. bytes_at image place ∷ sectors) (same-bytes places same.1)

-- Laws of sections: how many sectors are given, and how many bytes they are.
use Rattle.std.proofs.Common.{◌≡◌, ℕ, zero, suc, ◌+◌, ◌*◌, ◌≤◌, ◌∙◌, List, [], ◌∷◌, length, map, None, refl, ap, arith}
use Rattle.std.proofs.lemmas.List.{length-append, length-take-le}
use Rattle.std.specs.List.{concat}
use Rattle.lilo_model.specs.Disks.{Image, IsImage, DiskSector, bytes_at}
use Rattle.lilo_model.specs.Section.{Step, Reads, Names, Refuses, listing_of, content_of, sectors_for}

-- a section without a refusal gives as many sectors as are needed
pub listing_of-length : (given needed : ℕ) (steps : List Step) → (listing_of given needed steps).refusal ≡ None → length (listing_of given needed steps).places ≡ needed
listing_of-length given zero steps h = refl
listing_of-length given (suc needed) [] h = cc
listing_of-length given (suc needed) (Reads place ∷ steps) h = listing_of-length given (suc needed) steps h
listing_of-length given (suc needed) (Names place ∷ steps) h = ap suc (listing_of-length (given + 1) needed steps h)
listing_of-length given (suc needed) (Refuses fault ∷ steps) h = cc

-- a section never gives more
pub listing_of-most : (given needed : ℕ) (steps : List Step) → length (listing_of given needed steps).places ≤ needed
listing_of-most given zero steps = omega arith
listing_of-most given (suc needed) [] = omega arith
listing_of-most given (suc needed) (Reads place ∷ steps) = listing_of-most given (suc needed) steps
listing_of-most given (suc needed) (Names place ∷ steps) = let h : length (listing_of (given + 1) needed steps).places ≤ needed = listing_of-most (given + 1) needed steps in omega arith
listing_of-most given (suc needed) (Refuses fault ∷ steps) = omega arith

-- joined sectors have 512 bytes each
pub concat-sectors : (image : Image) → IsImage image → (places : List DiskSector) → length (concat (map (bytes_at image) places)) ≡ 512 * length places
concat-sectors image sound [] = refl
concat-sectors image sound (place ∷ places) =
    let h : length (concat (map (bytes_at image) places)) ≡ 512 * length places = concat-sectors image sound places in
    let s : length (image place.disk place.sector) ≡ 512 = (sound place.disk place.sector).size in
    length-append (image place.disk place.sector) (concat (map (bytes_at image) places)) ∙ (omega arith)

-- a file whose section isn't refused has as many bytes as were asked for
pub content_of-length : (image : Image) → IsImage image → (len : ℕ) (steps : List Step) → (content_of image len (listing_of 0 (sectors_for len) steps)).refusal ≡ None → length (content_of image len (listing_of 0 (sectors_for len) steps)).bytes ≡ len
content_of-length image sound len steps h =
    let count : length (listing_of 0 (sectors_for len) steps).places ≡ sectors_for len = listing_of-length 0 (sectors_for len) steps h in
    let bytes : length (concat (map (bytes_at image) (listing_of 0 (sectors_for len) steps).places)) ≡ 512 * length (listing_of 0 (sectors_for len) steps).places = concat-sectors image sound (listing_of 0 (sectors_for len) steps).places in
    length-take-le len (concat (map (bytes_at image) (listing_of 0 (sectors_for len) steps).places)) (omega arith)

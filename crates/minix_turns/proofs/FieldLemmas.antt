-- The fields of an inode of which one is changed.
use Rattle.std.proofs.Common.{◌≡◌, ◌≤◌, ◌<◌, ◌^◌, ℕ, zero, suc, true, List, [], ◌∷◌, ◌++◌, length, take, set, Ok, refl, ◌∙◌, ap, arith, length-append}
use Rattle.std.proofs.lemmas.List.{length-set, length-take-le}
use Rattle.std.proofs.lemmas.List.Elements.{All-set}
use Rattle.lilo_model.specs.MinixLayout.{Kind, V1Short, V1Long, V2Short, V2Long, Inode, FitsInode, is_size, most_links, number_size, inode_size, inode_of, inode_at, inode_bytes, v1_inode_bytes, v2_inode_bytes, bytes32_of, kept_inode}
use Rattle.minix_layout.proofs.Reading.{kept_law}
use Rattle.minix_layout.proofs.Written.{length-bytes16_of, length-bytes32_of}
use Rattle.minix_change_laws.specs.Changes.{with_size, with_top}
use Rattle.minix_change_laws.specs.Sees.{with_links}
use Rattle.minix_turns.specs.Inode.{FitsTop}

-- ---- what is written

pub gid_small : (kind : Kind) (inode : Inode) → FitsInode kind inode → inode.gid ≤ most_links kind
gid_small V1Short inode fits = let f = fits.gid_fits in omega (arith, f)
gid_small V1Long inode fits = let f = fits.gid_fits in omega (arith, f)
gid_small V2Short inode fits = let f = fits.gid_fits in omega (arith, f)
gid_small V2Long inode fits = let f = fits.gid_fits in omega (arith, f)

long_by : (kind : Kind) (inode : Inode) → length (take 9 inode.zones) ≡ 9 → length inode.times ≡ 3 → length inode.zones ≡ 10 → length (inode_bytes kind inode) ≡ inode_size kind
unfolding inode_bytes v1_inode_bytes v2_inode_bytes
long_by V1Short inode nine three ten = let n = length-bytes16_of (take 9 inode.zones) in omega (arith, n, nine)
long_by V1Long inode nine three ten = let n = length-bytes16_of (take 9 inode.zones) in omega (arith, n, nine)
long_by V2Short inode nine three ten = let t = length-append (bytes32_of inode.times) (bytes32_of inode.zones) in let n = length-bytes32_of inode.times in let m = length-bytes32_of inode.zones in omega (arith, t, n, m, three, ten)
long_by V2Long inode nine three ten = let t = length-append (bytes32_of inode.times) (bytes32_of inode.zones) in let n = length-bytes32_of inode.times in let m = length-bytes32_of inode.zones in omega (arith, t, n, m, three, ten)

pub inode_long : (kind : Kind) (inode : Inode) → FitsInode kind inode → length (inode_bytes kind inode) ≡ inode_size kind
inode_long kind inode fits = let ten = fits.ten in long_by kind inode (length-take-le 9 inode.zones (omega (arith, ten))) fits.three ten

-- ---- what fits

pub fits_links : (kind : Kind) (inode : Inode) (links : ℕ) → FitsInode kind inode → links ≤ most_links kind → FitsInode kind (with_links inode links)
fits_links kind inode links fits few = record {
  mode_fits = fits.mode_fits;
  links_fit = few;
  uid_fits = fits.uid_fits;
  gid_fits = fits.gid_fits;
  size_fits = fits.size_fits;
  times_fit = fits.times_fit;
  zones_fit = fits.zones_fit;
  three = fits.three;
  ten = fits.ten;
}

pub fits_size : (kind : Kind) (inode : Inode) (size : ℕ) → FitsInode kind inode → size < 2 ^ 32 → FitsInode kind (with_size inode size)
fits_size kind inode size fits small = record {
  mode_fits = fits.mode_fits;
  links_fit = fits.links_fit;
  uid_fits = fits.uid_fits;
  gid_fits = fits.gid_fits;
  size_fits = small;
  times_fit = fits.times_fit;
  zones_fit = fits.zones_fit;
  three = fits.three;
  ten = fits.ten;
}

pub fits_top : (kind : Kind) (inode : Inode) (top zone size : ℕ) → FitsInode kind inode → FitsTop kind top zone → size < 2 ^ 32 → FitsInode kind (with_top inode top zone size)
fits_top kind inode top zone size fits new small = record {
  mode_fits = fits.mode_fits;
  links_fit = fits.links_fit;
  uid_fits = fits.uid_fits;
  gid_fits = fits.gid_fits;
  size_fits = small;
  times_fit = fits.times_fit;
  zones_fit = All-set (λ z. z < 256 ^ number_size kind) inode.zones top zone new.small fits.zones_fit;
  three = fits.three;
  ten = length-set inode.zones top zone ∙ fits.ten;
}

-- ---- what is kept

at_of : (kind : Kind) (bytes : List ℕ) → is_size kind (inode_of kind bytes).size ≡ true → inode_at kind bytes ≡ Ok (inode_of kind bytes)
unfolding inode_at
at_of kind bytes small = rw small refl

-- what was read is kept whole
pub kept_read : (kind : Kind) (bytes : List ℕ) → is_size kind (inode_of kind bytes).size ≡ true → kept_inode kind (inode_of kind bytes) ≡ inode_of kind bytes
kept_read kind bytes small = kept_law kind bytes (inode_of kind bytes) (at_of kind bytes small)

pub kept_links : (kind : Kind) (inode : Inode) (links : ℕ) → kept_inode kind inode ≡ inode → kept_inode kind (with_links inode links) ≡ with_links inode links
unfolding kept_inode
kept_links V1Short inode links is = ap (λ i. with_links i links) is
kept_links V1Long inode links is = ap (λ i. with_links i links) is
kept_links V2Short inode links is = refl
kept_links V2Long inode links is = refl

pub kept_size : (kind : Kind) (inode : Inode) (size : ℕ) → kept_inode kind inode ≡ inode → kept_inode kind (with_size inode size) ≡ with_size inode size
unfolding kept_inode
kept_size V1Short inode size is = ap (λ i. with_size i size) is
kept_size V1Long inode size is = ap (λ i. with_size i size) is
kept_size V2Short inode size is = refl
kept_size V2Long inode size is = refl

-- one of the first numbers that is set
set_first : (n : ℕ) (xs ys : List ℕ) (at x : ℕ) → at < n → at < length xs → take n (set xs at x) ++ ys ≡ set (take n xs ++ ys) at x
set_first zero xs ys at x low in' = absurd (omega (arith, low))
set_first (suc n) [] ys at x low in' = absurd (omega (arith, in'))
set_first (suc n) (y ∷ xs) ys zero x low in' = refl
set_first (suc n) (y ∷ xs) ys (suc at) x low in' = ap (λ (zs : List ℕ). y ∷ zs) (set_first n xs ys at x (omega (arith, low)) (omega (arith, in')))

first_set : (zones : List ℕ) (top zone : ℕ) → top < 9 → length zones ≡ 10 → take 9 zones ++ (0 ∷ []) ≡ zones → take 9 (set zones top zone) ++ (0 ∷ []) ≡ set zones top zone
first_set zones top zone low ten is = set_first 9 zones (0 ∷ []) top zone low (omega (arith, low, ten)) ∙ ap (λ (zs : List ℕ). set zs top zone) is

top_v1 : (inode : Inode) (top zone size : ℕ) → top < 9 → length inode.zones ≡ 10 → kept_inode V1Short inode ≡ inode → kept_inode V1Short (with_top inode top zone size) ≡ with_top inode top zone size
unfolding kept_inode
top_v1 inode top zone size low ten is =
    let zones = first_set inode.zones top zone low ten (ap (λ (i : Inode). i.zones) is) in
    ap (λ (zs : List ℕ). record (kept_inode V1Short (with_top inode top zone size)) { zones = zs }) zones
    ∙ ap (λ (i : Inode). record (with_top inode top zone size) { times = i.times }) is

pub kept_top : (kind : Kind) (inode : Inode) (top zone size : ℕ) → FitsTop kind top zone → length inode.zones ≡ 10 → kept_inode kind inode ≡ inode → kept_inode kind (with_top inode top zone size) ≡ with_top inode top zone size
unfolding kept_inode
kept_top V1Short inode top zone size fits ten is = top_v1 inode top zone size fits.low ten is
kept_top V1Long inode top zone size fits ten is = top_v1 inode top zone size fits.low ten is
kept_top V2Short inode top zone size fits ten is = refl
kept_top V2Long inode top zone size fits ten is = refl

-- it is one of ten
pub low_top : (kind : Kind) (top zone : ℕ) → FitsTop kind top zone → top < 10
low_top V1Short top zone fits = let low = fits.low in omega (arith, low)
low_top V1Long top zone fits = let low = fits.low in omega (arith, low)
low_top V2Short top zone fits = fits.low
low_top V2Long top zone fits = fits.low

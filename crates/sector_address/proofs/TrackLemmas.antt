-- Numbers of sectors, and their cylinders, heads and sectors.
use Rattle.std.proofs.Common.{◌≡◌, ◌+◌, ◌-◌, ◌*◌, ◌/◌, ◌%◌, ◌≤◌, ◌<◌, ℕ, Bool, true, false, refl, sym, ap, ◌∙◌, Ok, arith}
use Rattle.std.specs.Prelude.{nat_lt}
use Rattle.std.proofs.lemmas.Bool.Decides.{nat_tests}
use Rattle.std.proofs.lemmas.Nat.{div-mul-add, mod-mul-add, div-add-mod', mod_below}
use Rattle.std.proofs.Math.Nat.{div-div-eq-div-mul, mul_comm}
use Rattle.lilo_model.specs.Disks.{Geometry, IsGeometry}
use Rattle.lilo_model.specs.Slots.{Chs, cylinder_of, last_cylinder, to_chs, is_on_track, to_lba}
use Rattle.sector_address.specs.Laws.{NumberLaw, CylinderLaw}

-- the cylinder is the track, counted over all of them, by the heads
cylinder_by_track : (geometry : Geometry) (number : ℕ) → cylinder_of geometry number ≡ number / geometry.sectors / geometry.heads
cylinder_by_track geometry number =
    ap (λ n. number / n) (mul_comm geometry.heads geometry.sectors)
    ∙ sym (div-div-eq-div-mul number geometry.sectors geometry.heads)

-- the number that a cylinder, head and sector have
abbrev number_of : Geometry → ℕ → ℕ → ℕ → ℕ
number_of geometry cylinder head sector = (cylinder * geometry.heads + head) * geometry.sectors + (sector - 1)

-- it is the number that they were taken from
pub number_from : (geometry : Geometry) (number : ℕ) → number_of geometry (cylinder_of geometry number) (number / geometry.sectors % geometry.heads) (number % geometry.sectors + 1) ≡ number
number_from geometry number =
    let track : cylinder_of geometry number * geometry.heads + number / geometry.sectors % geometry.heads ≡ number / geometry.sectors =
    ap (λ c. c * geometry.heads + number / geometry.sectors % geometry.heads) (cylinder_by_track geometry number)
    ∙ div-add-mod' (number / geometry.sectors) geometry.heads in
    let last : number % geometry.sectors + 1 - 1 ≡ number % geometry.sectors = omega arith in
    ap (λ t. t * geometry.sectors + (number % geometry.sectors + 1 - 1)) track
    ∙ ap (λ s. number / geometry.sectors * geometry.sectors + s) last
    ∙ div-add-mod' number geometry.sectors

-- a head and a sector of the disk are on a track
pub on_track : (geometry : Geometry) (head sector : ℕ) → head < geometry.heads → 1 ≤ sector → sector ≤ geometry.sectors → is_on_track geometry head sector ≡ true
on_track geometry head sector low some few = grind (arith, nat_tests)

-- and only those are
off_track : (geometry : Geometry) (head sector : ℕ) → is_on_track geometry head sector ≡ true → (head < geometry.heads) × (1 ≤ sector) × (sector ≤ geometry.sectors)
off_track geometry head sector is = (grind (arith, nat_tests), grind (arith, nat_tests), grind (arith, nat_tests))

-- what lies on a track has its number
pub to_lba-on : (geometry : Geometry) (cylinder head sector : ℕ) → head < geometry.heads → 1 ≤ sector → sector ≤ geometry.sectors → to_lba geometry cylinder head sector ≡ Ok (number_of geometry cylinder head sector)
unfolding to_lba
to_lba-on geometry cylinder head sector low some few = rw (on_track geometry head sector low some few) refl

number_by :
    (geometry : Geometry) (number cylinder head sector : ℕ) (far : Bool) → nat_lt last_cylinder (cylinder_of geometry number) ≡ far
    → IsGeometry geometry → to_chs geometry number ≡ Ok (Chs cylinder head sector) → to_lba geometry cylinder head sector ≡ Ok number
unfolding to_chs
number_by geometry number cylinder head sector true is_far whole is =
    let e = rw is_far at is in cc
number_by geometry number cylinder head sector false is_far whole is =
    let e = rw is_far at is in
    let c : cylinder ≡ cylinder_of geometry number = cc in
    let h : head ≡ number / geometry.sectors % geometry.heads = cc in
    let s : sector ≡ number % geometry.sectors + 1 = cc in
    rw (c, h, s)
    (to_lba-on geometry (cylinder_of geometry number) (number / geometry.sectors % geometry.heads) (number % geometry.sectors + 1)
    (mod_below (number / geometry.sectors) geometry.heads whole.some_head) (omega arith)
    (omega (arith, mod_below number geometry.sectors whole.some_sector))
    ∙ ap Ok (number_from geometry number))

pub number_law : NumberLaw
number_law geometry number cylinder head sector whole is =
    number_by geometry number cylinder head sector _ refl whole is

-- ---- and back

module _ (geometry : Geometry) (cylinder head sector : ℕ) (low : head < geometry.heads) (some : 1 ≤ sector) (few : sector ≤ geometry.sectors) where
  -- the track of such a number
  track_back : number_of geometry cylinder head sector / geometry.sectors ≡ cylinder * geometry.heads + head
  track_back = div-mul-add (cylinder * geometry.heads + head) geometry.sectors (sector - 1) (omega arith)

  cylinder_back : cylinder_of geometry (number_of geometry cylinder head sector) ≡ cylinder
  cylinder_back =
      cylinder_by_track geometry (number_of geometry cylinder head sector)
      ∙ ap (λ t. t / geometry.heads) track_back
      ∙ div-mul-add cylinder geometry.heads head low

  head_back : number_of geometry cylinder head sector / geometry.sectors % geometry.heads ≡ head
  head_back = ap (λ t. t % geometry.heads) track_back ∙ mod-mul-add cylinder geometry.heads head low

  sector_back : number_of geometry cylinder head sector % geometry.sectors + 1 ≡ sector
  sector_back =
      ap (λ s. s + 1) (mod-mul-add (cylinder * geometry.heads + head) geometry.sectors (sector - 1) (omega arith))
      ∙ omega arith

  near : cylinder ≤ last_cylinder → nat_lt last_cylinder (cylinder_of geometry (number_of geometry cylinder head sector)) ≡ false
  near reached = rw cylinder_back (grind (arith, nat_tests))

  pub to_chs-back : cylinder ≤ last_cylinder → to_chs geometry (number_of geometry cylinder head sector) ≡ Ok (Chs cylinder head sector)
  unfolding to_chs
  to_chs-back reached = rw (near reached) (ap Ok (cc (cylinder_back, head_back, sector_back)))

cylinder_by :
    (geometry : Geometry) (cylinder head sector number : ℕ) (on : Bool) → is_on_track geometry head sector ≡ on
    → cylinder ≤ last_cylinder → to_lba geometry cylinder head sector ≡ Ok number
    → to_chs geometry number ≡ Ok (Chs cylinder head sector)
unfolding to_lba
cylinder_by geometry cylinder head sector number false is_on reached is =
    let e = rw is_on at is in cc
cylinder_by geometry cylinder head sector number true is_on reached is =
    let e = rw is_on at is in
    let n : number ≡ number_of geometry cylinder head sector = cc in
    let on = off_track geometry head sector is_on in
    rw n (to_chs-back geometry cylinder head sector on.0 on.1 on.2 reached)

pub cylinder_law : CylinderLaw
cylinder_law geometry cylinder head sector number reached is =
    cylinder_by geometry cylinder head sector number _ refl reached is

-- What the checks of a superblock say of the bitmaps.
use Rattle.std.proofs.Common.{◌≡◌, ◌≤◌, ◌<◌, ◌+◌, ◌*◌, ◌-◌, ◌/◌, ℕ, Bool, true, false, nat_le, nat_lt, ◌&&◌, Result, Ok, refl, arith}
use Rattle.std.proofs.lemmas.Bool.Decides.{nat_tests}
use Rattle.lilo_model.specs.Checks.{◌>>=◌, require}
use Rattle.lilo_model.specs.MinixLayout.{Super, IsSuper, super_checks, zone_map_holds, table_start, table_blocks, BadSize, Inodes, Zones, InodeMap, ZoneMap, FirstZone}
use Rattle.minix_steps.specs.declared.bitmap.Bitmap.{Bitmap}
use Rattle.minix_steps.specs.Bitmap.{IsBitmapIn, zone_bitmap, inode_bitmap}

-- one check was passed, and the others
passed : {F : Type 0} (test : Bool) (fault : F) (rest : Result (Unit {0}) F)
    → (require test fault >>= λ a. rest) ≡ Ok tt → (test ≡ true) × (rest ≡ Ok tt)
passed true fault rest all = (refl, all)
passed false fault rest all = cc

last_passed : {F : Type 0} (test : Bool) (fault : F) → require test fault ≡ Ok tt → test ≡ true
last_passed true fault is = refl
last_passed false fault is = cc

-- the numbers of a superblock that passed its checks
pub record Fits (super : Super) (sectors : ℕ) : Type 0 where
  pub zones_fit : 2 * super.zones ≤ sectors
  pub imap_fits : super.inodes < 8192 * super.imap
  pub zmap_fits : super.zones - super.first < 8192 * super.zmap
  pub behind : table_start super ≤ super.first
  pub below : super.first < super.zones

pub fits : (super : Super) (sectors : ℕ) → super_checks super sectors ≡ Ok tt → Fits super sectors
unfolding super_checks
fits super sectors passes =
    let one = passed (nat_le 1 super.inodes) (BadSize Inodes) _ passes in
    let two = passed (nat_le 1 super.zones && nat_le (2 * super.zones) sectors) (BadSize Zones) _ one.1 in
    let three = passed (nat_lt super.inodes (8192 * super.imap)) (BadSize InodeMap) _ two.1 in
    let four = passed (zone_map_holds super) (BadSize ZoneMap) _ three.1 in
    let five = last_passed (nat_le (table_start super + table_blocks super) super.first && nat_lt super.first super.zones) (BadSize FirstZone) four.1 in
    let zones : nat_le 1 super.zones && nat_le (2 * super.zones) sectors ≡ true = two.0 in
    let imap : nat_lt super.inodes (8192 * super.imap) ≡ true = three.0 in
    let zmap : zone_map_holds super ≡ true = four.0 in
    let first : nat_le (table_start super + table_blocks super) super.first && nat_lt super.first super.zones ≡ true = five in
    let behind : table_start super + table_blocks super ≤ super.first = grind (arith, nat_tests) in
    record {
      zones_fit = grind (arith, nat_tests);
      imap_fits = grind (arith, nat_tests);
      zmap_fits = grind (arith, nat_tests);
      behind = omega arith;
      below = grind (arith, nat_tests);
    }

-- the first data zone comes after block 1
pub first_some : (super : Super) (sectors : ℕ) → IsSuper super sectors → 2 ≤ super.first
first_some super sectors is = let f = fits super sectors is.passes in omega arith

pub zone_bitmap_in : (super : Super) (sectors : ℕ) → IsSuper super sectors → IsBitmapIn (zone_bitmap super) sectors
zone_bitmap_in super sectors is =
    let f = fits super sectors is.passes in
    record { some = omega arith; fits = omega arith }

pub inode_bitmap_in : (super : Super) (sectors : ℕ) → IsSuper super sectors → IsBitmapIn (inode_bitmap super) sectors
inode_bitmap_in super sectors is =
    let f = fits super sectors is.passes in
    record { some = omega arith; fits = omega arith }

-- the sector with a number's bit is one of the volume
pub sector_inside : (bitmap : Bitmap) (count at : ℕ) → IsBitmapIn bitmap count → at < bitmap.end
    → bitmap.sector + (at - bitmap.origin) / 4096 < count
sector_inside bitmap count at is below =
    let f = is.fits in
    omega arith

-- How the regions of a Minix volume lie whose superblock passed the checks: the superblock, the bitmaps of
-- inodes and of zones, the table of inodes, and the data zones, one after the other.
use Rattle.std.proofs.Common.{◌≡◌, ℕ, ◌+◌, ◌-◌, ◌*◌, ◌/◌, ◌<◌, ◌≤◌, ◌==◌, ◌&&◌, Bool, true, false, nat_le, nat_lt, List, Option, Some, None, Result, Ok, Err, refl, subst, arith}
use Rattle.std.proofs.lemmas.Bool.{leb-true, ltb-true, and_parts}
use Rattle.std.proofs.lemmas.Bool.Decides.{nat_tests}
use Rattle.lilo_model.specs.Bytes.{number16}
use Rattle.lilo_model.specs.Checks.{◌>>=◌, require}
use Rattle.lilo_model.specs.MinixLayout.{Kind, V1Short, V1Long, V2Short, V2Long, Super, LayoutFault, BadSize, ZoneSize, Inodes, Zones, InodeMap, ZoneMap, FirstZone, inode_size, table_start, table_blocks, kind_of, super_of, super_checks, zone_map_holds, super_in, super_at, inode_place}
use Rattle.lilo_model.specs.MinixParts.{inode_mark_sector, zone_mark_sector}

-- what the checks say
pub record Laid (super : Super) : Type 0 where
  pub imap : super.inodes < 8192 * super.imap
  pub zmap : super.zones - super.first < 8192 * super.zmap
  pub table : table_start super + table_blocks super ≤ super.first
  pub first : super.first < super.zones

-- a chain of five checks that refuses nothing
five-true : {F : Type 0} (a b c d e : Bool) (fa fb fc fd fe : F)
    → (require a fa >>= λ u. require b fb >>= λ v. require c fc >>= λ w. require d fd >>= λ x. require e fe) ≡ Ok tt
    → (c ≡ true) × (d ≡ true) × (e ≡ true)
five-true true true true true true fa fb fc fd fe passes = (refl, refl, refl)
five-true true true true true false fa fb fc fd fe passes = cc
five-true true true true false e fa fb fc fd fe passes = cc
five-true true true false d e fa fb fc fd fe passes = cc
five-true true false c d e fa fb fc fd fe passes = cc
five-true false b c d e fa fb fc fd fe passes = cc

-- the bitmap has bits enough where the first data zone lies before the end
zone_map-enough : (super : Super) → zone_map_holds super ≡ true → super.first < super.zones → super.zones - super.first < 8192 * super.zmap
zone_map-enough super holds first = grind (arith, nat_tests)

laid-checks : (super : Super) (sectors : ℕ) → super_checks super sectors ≡ Ok tt → Laid super
unfolding super_checks
laid-checks super sectors passes =
    let all = five-true
    (nat_le 1 super.inodes) (nat_le 1 super.zones && nat_le (2 * super.zones) sectors) (nat_lt super.inodes (8192 * super.imap))
    (zone_map_holds super) (nat_le (table_start super + table_blocks super) super.first && nat_lt super.first super.zones)
    (BadSize Inodes) (BadSize Zones) (BadSize InodeMap) (BadSize ZoneMap) (BadSize FirstZone) passes in
    let last = and_parts (nat_le (table_start super + table_blocks super) super.first) (nat_lt super.first super.zones) all.2 in
    let first = ltb-true super.first super.zones last.1 in
    record {
      imap = ltb-true super.inodes (8192 * super.imap) all.0;
      zmap = zone_map-enough super all.1 first;
      table = leb-true (table_start super + table_blocks super) super.first last.0;
      first = first;
    }

-- the fields that passed the checks are those that were read
checked : (super to : Super) (check : Result (Unit {0}) LayoutFault) → (check >>= λ a. Ok super) ≡ Ok to → (check ≡ Ok tt) × (super ≡ to)
checked super to (Ok value) given = (refl, cc)
checked super to (Err fault) given = cc

no_zone_size : {B : Type 0} (test : Bool) (fault : LayoutFault) (next : Result B LayoutFault) (to : B) → (require test fault >>= λ a. next) ≡ Ok to → next ≡ Ok to
no_zone_size true fault next to given = given
no_zone_size false fault next to given = cc

laid-by : (found : Option Kind) (bytes : List ℕ) (sectors : ℕ) (super : Super) → super_in found bytes sectors ≡ Ok super → Laid super
unfolding super_in
laid-by None bytes sectors super given = cc
laid-by (Some kind) bytes sectors super given =
    let rest = no_zone_size (number16 bytes 10 == 0) ZoneSize (super_checks (super_of kind bytes) sectors >>= λ a. Ok (super_of kind bytes)) super given in
    let is = checked (super_of kind bytes) super (super_checks (super_of kind bytes) sectors) rest in
    subst Laid is.1 (laid-checks (super_of kind bytes) sectors is.0)

-- a superblock that was read
pub laid : (bytes : List ℕ) (sectors : ℕ) (super : Super) → super_at bytes sectors ≡ Ok super → Laid super
unfolding super_at
laid bytes sectors super given = laid-by (kind_of (number16 bytes 16)) bytes sectors super given

-- ---- where the parts lie

module _ (super : Super) (lies : Laid super) where
  pub mark-from : (number : ℕ) → 4 ≤ inode_mark_sector number
  mark-from number = omega arith

  -- the bitmap of inodes
  pub mark-below : (number : ℕ) → number ≤ super.inodes → inode_mark_sector number < 4 + 2 * super.imap
  mark-below number range = omega (arith, lies.imap)

  -- the bitmap of zones
  pub zone_mark-from : (zone : ℕ) → 4 + 2 * super.imap ≤ zone_mark_sector super zone
  zone_mark-from zone = omega arith

  pub zone_mark-below : (zone : ℕ) → zone < super.zones → zone_mark_sector super zone < 2 * table_start super
  zone_mark-below zone range = omega (arith, lies.zmap)

  -- the table of inodes
  pub place-from : (number : ℕ) → 2 * table_start super ≤ (inode_place super number).sector
  unfolding inode_place
  place-from number = omega arith

  place-by : (kind : Kind) (inodes start number : ℕ) → 0 < number → number ≤ inodes → 2 * start + (number - 1) * inode_size kind / 512 < 2 * (start + (inodes * inode_size kind + 1023) / 1024)
  place-by V1Short inodes start number some range = omega arith
  place-by V1Long inodes start number some range = omega arith
  place-by V2Short inodes start number some range = omega arith
  place-by V2Long inodes start number some range = omega arith

  pub place-below : (number : ℕ) → 0 < number → number ≤ super.inodes → (inode_place super number).sector < 2 * super.first
  unfolding inode_place
  place-below number some range =
      let low : 2 * table_start super + (number - 1) * inode_size super.kind / 512 < 2 * (table_start super + table_blocks super) = place-by super.kind super.inodes (table_start super) number some range in
      omega (arith, low, lies.table)

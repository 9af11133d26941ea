-- Where zones, bitmap bits and inodes lie on a volume whose superblock passed its checks.
use Rattle.std.proofs.Common.{◌≡◌, ◌≤◌, ◌<◌, ◌+◌, ◌*◌, ◌-◌, ℕ, Bool, true, false, nat_le, nat_lt, ◌&&◌, Result, Ok, refl, arith}
use Rattle.std.proofs.lemmas.Bool.Decides.{nat_tests}
use Rattle.lilo_model.specs.Checks.{◌>>=◌, require}
use Rattle.lilo_model.specs.MinixLayout.{Super, IsSuper, BadSize, Inodes, Zones, InodeMap, ZoneMap, FirstZone, super_checks, zone_map_holds, table_start, table_blocks, inode_place}
use Rattle.lilo_model.specs.MinixParts.{inode_mark_sector, zone_mark_sector}
use Rattle.minix_change_laws.specs.Beside.{IsOfBitmaps}
use Rattle.minix_change_laws.proofs.Laid.{Laid, mark-below, zone_mark-from, zone_mark-below, place-from, place-below}
use Rattle.minix_steps.proofs.BitmapLemmas.{fits}

passed : {F : Type 0} (test : Bool) (fault : F) (rest : Result (Unit {0}) F) → (require test fault >>= λ a. rest) ≡ Ok tt → rest ≡ Ok tt
passed true fault rest all = all
passed false fault rest all = cc

passed_last : {F : Type 0} (test : Bool) (fault : F) → require test fault ≡ Ok tt → test ≡ true
passed_last true fault all = refl
passed_last false fault all = cc

-- the table of inodes comes before the data zones
table_before : (super : Super) (sectors : ℕ) → super_checks super sectors ≡ Ok tt → table_start super + table_blocks super ≤ super.first
unfolding super_checks
table_before super sectors passes =
    let one = passed (nat_le 1 super.inodes) (BadSize Inodes) _ passes in
    let two = passed (nat_le 1 super.zones && nat_le (2 * super.zones) sectors) (BadSize Zones) _ one in
    let three = passed (nat_lt super.inodes (8192 * super.imap)) (BadSize InodeMap) _ two in
    let four = passed (zone_map_holds super) (BadSize ZoneMap) _ three in
    let five = passed_last (nat_le (table_start super + table_blocks super) super.first && nat_lt super.first super.zones) (BadSize FirstZone) four in
    grind (arith, nat_tests)

-- what the checks say
pub laid_super : (super : Super) (sectors : ℕ) → IsSuper super sectors → Laid super
laid_super super sectors is =
    let known = fits super sectors is.passes in
    record { imap = known.imap_fits; zmap = known.zmap_fits; table = table_before super sectors is.passes; first = known.below }

module _ (super : Super) (sectors : ℕ) (is : IsSuper super sectors) where
  pub lies : Laid super
  lies = laid_super super sectors is

  pub sector_there : (sector : ℕ) → sector < 2 * super.zones → sector < sectors
  sector_there sector inside = let known = fits super sectors is.passes in omega (arith, known.zones_fit, inside)

  pub place_there : (number : ℕ) → 1 ≤ number → number ≤ super.inodes → (inode_place super number).sector < 2 * super.zones
  place_there number some there =
      let low = place-below super lies number some there in
      omega (arith, low, lies.first)

  pub place_from : (number : ℕ) → 4 ≤ (inode_place super number).sector
  place_from number =
      let low = place-from super lies number in
      omega (arith, low)

  pub mark_in : (number : ℕ) → number ≤ super.inodes → IsOfBitmaps super (inode_mark_sector number)
  mark_in number there = let low = mark-below super lies number there in (omega arith, omega (arith, low))

  pub zone_mark_in : (zone : ℕ) → zone < super.zones → IsOfBitmaps super (zone_mark_sector super zone)
  zone_mark_in zone below = let from = zone_mark-from super lies zone in (omega (arith, from), zone_mark-below super lies zone below)

  pub bitmap_there : (sector : ℕ) → IsOfBitmaps super sector → sector < 2 * super.zones
  bitmap_there sector range = omega (arith, range.1, lies.table, lies.first)

  -- data zones come after block 1
  pub zone_behind : 2 ≤ super.first
  zone_behind = omega (arith, lies.table)

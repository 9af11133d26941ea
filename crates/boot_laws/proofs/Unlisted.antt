-- A write of one sector leaves the others as they were.
use Rattle.std.proofs.Common.{◌≡◌, ◌≢◌, ℕ, ◌==◌, Bool, true, false, ◌&&◌, if◌then◌else◌, List, get_or, refl, sym, ap, ◌∙◌, eqb-true}
use Rattle.std.proofs.lemmas.Bool.{and_parts}
use Rattle.lilo_model.specs.Disks.{Image, DiskSector, bytes_at, with_sector}
use Rattle.boot_laws.specs.SameOn.{UnlistedLaw}

-- two sectors with one disk and one number are one
same-sector : (place at : DiskSector) → (place.disk == at.disk && place.sector == at.sector) ≡ true → at ≡ place
same-sector place at test =
    let both : ((place.disk == at.disk) ≡ true) × ((place.sector == at.sector) ≡ true) = and_parts (place.disk == at.disk) (place.sector == at.sector) test in
    let disk : at.disk ≡ place.disk = sym (eqb-true place.disk at.disk both.0) in
    let sector : at.sector ≡ place.sector = sym (eqb-true place.sector at.sector both.1) in
    let made : ℕ → ℕ → DiskSector = λ disk sector. record { disk = disk; sector = sector } in
    ap (λ n. made n at.sector) disk ∙ ap (made place.disk) sector

untouched : (image : Image) (place at : DiskSector) (bytes : List ℕ) → at ≢ place → bytes_at (with_sector image place bytes) at ≡ bytes_at image at
untouched image place at bytes other = by_test (place.disk == at.disk && place.sector == at.sector) (same-sector place at)
  where
    by_test : (test : Bool) → (test ≡ true → at ≡ place) → (if test then bytes else image at.disk at.sector) ≡ image at.disk at.sector
    by_test true same = absurd (other (same refl))
    by_test false same = refl

pub unlisted_law : UnlistedLaw
unlisted_law places image place bytes others k d below = untouched image place (get_or places k d) bytes (others k d below)

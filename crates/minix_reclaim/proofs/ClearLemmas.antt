-- Where a clear map lies.
use Rattle.std.proofs.Common.{◌≡◌, ◌≢◌, ◌≤◌, ◌<◌, ◌+◌, ◌-◌, ◌*◌, ◌⊎◌, ℕ, refl, subst₂, arith, inl, inr}
use Rattle.std.proofs.lemmas.Bool.{cases_lt, cases_eq}
use Rattle.lilo_model.specs.Clear.{IsPlain, IsClearPlace}
use Rattle.lilo_model.specs.Disks.{Image, DiskSector}
use Rattle.lilo_model.specs.MinixLayout.{table_start, table_blocks, super_sector}
use Rattle.lilo_model.specs.MinixNames.{HasSound, IsSound}
use Rattle.lilo_model.specs.MinixParts.{Volume}
use Rattle.minix_change_laws.proofs.Beside.{lies}
use Rattle.minix_reclaim.specs.Cleared.{IsOffBitmaps}
use Rattle.minix_reclaim.specs.Laws.{ClearLaw}

module _ (volume : Volume) (image : Image) (sound : HasSound volume image) (place : DiskSector) (clear : IsClearPlace volume image place) where
  not-within : place.disk ≡ volume.span.disk → volume.span.start + 4 ≤ place.sector
      → place.sector < volume.span.start + 4 + 2 * (volume.layout.imap + volume.layout.zmap) → ⊥
  not-within disk from below =
      let lays = lies volume image sound in
      let sector : ℕ = place.sector - volume.span.start in
      let there : place.sector ≡ volume.span.start + sector = omega (arith, from) in
      let P : ℕ → ℕ → Type 0 = λ d s. place ≡ record { disk = d; sector = s } in
      let plain : IsPlain volume image sector = clear sector (subst₂ P disk there refl) (omega (arith, from, below, lays.table, lays.first)) in
      by sector there from below plain.tables
    where
      by : (sector : ℕ) → place.sector ≡ volume.span.start + sector → volume.span.start + 4 ≤ place.sector
          → place.sector < volume.span.start + 4 + 2 * (volume.layout.imap + volume.layout.zmap)
          → (sector < super_sector) ⊎ (2 * (table_start volume.layout + table_blocks volume.layout) ≤ sector) → ⊥
      by sector there from below (inl low) = omega (arith, there, from, low)
      by sector there from below (inr high) = omega (arith, there, below, high)

  clear-off : IsOffBitmaps volume place.disk place.sector
  clear-off = by (cases_eq place.disk volume.span.disk) (cases_lt place.sector (volume.span.start + 4)) (cases_lt place.sector (volume.span.start + 4 + 2 * (volume.layout.imap + volume.layout.zmap)))
    where
      by : (place.disk ≡ volume.span.disk) ⊎ (place.disk ≢ volume.span.disk) → (place.sector < volume.span.start + 4) ⊎ (volume.span.start + 4 ≤ place.sector)
          → (place.sector < volume.span.start + 4 + 2 * (volume.layout.imap + volume.layout.zmap)) ⊎ (volume.span.start + 4 + 2 * (volume.layout.imap + volume.layout.zmap) ≤ place.sector)
          → IsOffBitmaps volume place.disk place.sector
      by (inr apart) low high = inl apart
      by (inl same) (inl low) high = inr (inl low)
      by (inl same) (inr from) (inr high) = inr (inr high)
      by (inl same) (inr from) (inl below) = absurd (not-within same from below)

pub clear_law : ClearLaw
unfolding IsSound
clear_law volume image machine boot sound clear k d inside = clear-off volume image sound _ (clear k d inside)

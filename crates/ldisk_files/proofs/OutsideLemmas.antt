-- Sectors outside a volume's span, and those of its parts.
use Rattle.std.proofs.Common.{◌≤◌, ◌<◌, ◌+◌, ◌-◌, ◌*◌, ℕ, inl, inr, arith}
use Rattle.disk_trait.specs.declared.disks.Disks.{Ghosts}
use Rattle.disk_trait.specs.NotWritten.{IsOther}
use Rattle.disk_trait.specs.Range.{IsOutside}
use Rattle.lilo_model.specs.MinixLayout.{IsSuper}
use Rattle.minix_steps.proofs.RegionLemmas.{sector_there}
use Rattle.minix_zones.specs.Volume.{volume_view}
use Rattle.minix_zones.specs.declared.volume.Volume.{Volume}

module _ {D : Type 0} {disks : Ghosts D} (start : Volume D disks) (laid : IsSuper (volume_view start).layout (volume_view start).span.count)
    (d s : ℕ) (outside : IsOutside start.span.disk start.span.start start.span.count d s) where
  inside-at : (sector : ℕ) → sector < 2 * (volume_view start).layout.zones → sector < start.span.count
  inside-at sector below = sector_there (volume_view start).layout (volume_view start).span.count laid sector below

  pub off-range : (from count : ℕ) → from + count ≤ 2 * (volume_view start).layout.zones → 0 < count → IsOutside start.span.disk (start.span.start + from) count d s
  off-range from count below some = by outside
    where
      last : from + count ≤ start.span.count
      last = let end = inside-at (from + count - 1) (omega (arith, below, some)) in omega (arith, end, some)

      by : IsOutside start.span.disk start.span.start start.span.count d s → IsOutside start.span.disk (start.span.start + from) count d s
      by (inl other) = inl other
      by (inr (inl before)) = inr (inl (omega (arith, before)))
      by (inr (inr after)) = inr (inr (omega (arith, after, last)))

  pub off-one : (sector : ℕ) → sector < 2 * (volume_view start).layout.zones → IsOther start.span.disk (start.span.start + sector) d s
  off-one sector below = by outside
    where
      by : IsOutside start.span.disk start.span.start start.span.count d s → IsOther start.span.disk (start.span.start + sector) d s
      by (inl other) = inl other
      by (inr (inl before)) = inr (λ same. omega (arith, before, same))
      by (inr (inr after)) = inr (λ same. let end = inside-at sector below in omega (arith, after, same, end))

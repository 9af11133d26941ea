-- A Clear map is spared.
use Rattle.std.proofs.Common.{◌≡◌, ◌<◌, ◌≤◌, ◌⊎◌, ℕ, ◌+◌, ◌*◌, Bool, true, List, None, Some, arith, ap, inl, inr, subst, sym, get_or}
use Rattle.disk_trait.specs.declared.event.Event.{Event}
use Rattle.disk_trait.specs.Past.{Past}
use Rattle.disk_trait.specs.Moments.{now, IsQuiet, LeavesOnly, MayLeave}
use Rattle.disk_trait.specs.NotWritten.{continued, NotWritten}
use Rattle.disk_trait.proofs.LawLemmas.{leaves_only_law}
use Rattle.disk_trait.proofs.MomentLemmas.{leaves_none, leaves_weaker}
use Rattle.disk_trait.proofs.NotWrittenLemmas.{not_written_stays}
use Rattle.lilo_model.specs.Disks.{Image, DiskSector}
use Rattle.lilo_model.specs.MinixParts.{Volume}
use Rattle.lilo_model.specs.Mapped.{mapped_sectors}
use Rattle.lilo_model.specs.Clear.{IsClearPlace, IsPlain, IsOfZone}
use Rattle.install_laws.specs.Writes.{IsOfDirectory, MayBeWritten, IsWritable, SparesLaw, UnwrittenLaw, WritesOnlyLaw}

module _ (volume : Volume) (image : Image) (chosen : ℕ → Bool) (place : DiskSector) (avoided : (zone sector : ℕ) → chosen zone ≡ true → IsOfZone zone sector → place ≡ record { disk = volume.span.disk; sector = volume.span.start + sector } → ⊥) where
  by-zone : (sector zone : ℕ) → place ≡ record { disk = volume.span.disk; sector = volume.span.start + sector } → IsPlain volume image sector → IsOfZone zone sector → ((chosen zone ≡ true) ⊎ IsOfDirectory volume image zone) → ⊥
  by-zone sector zone is plain of (inl picked) = avoided zone sector picked of is
  by-zone sector zone is plain of (inr directory) = let no = (plain.zones directory.number directory.at zone directory.refers of).0 in let yes = directory.is in cc

  by-sector : (sector : ℕ) → place ≡ record { disk = volume.span.disk; sector = volume.span.start + sector } → IsPlain volume image sector → MayBeWritten volume image chosen sector → ⊥
  by-sector sector is plain (inl tables) = by-tables plain.tables
    where
      by-tables : (sector < Rattle.lilo_model.specs.MinixLayout.super_sector) ⊎ (2 * (Rattle.lilo_model.specs.MinixLayout.table_start volume.layout + Rattle.lilo_model.specs.MinixLayout.table_blocks volume.layout) ≤ sector) → ⊥
      by-tables (inl before) = omega (arith, before, tables)
      by-tables (inr after) = omega (arith, after, tables)
  by-sector sector is plain (inr zone) = by-zone sector zone.0 is plain zone.1 zone.2

  not-written : IsClearPlace volume image place → IsWritable volume image chosen place → ⊥
  not-written clear w = by-sector w.sector w.is (clear w.sector w.is w.inside) w.may

pub spares_law : SparesLaw
spares_law volume machine span chosen old new clear avoided writes =
    leaves_weaker old new _ _ writes (λ c same k d below. same (get_or (mapped_sectors (now old) machine span) k d) (not-written volume (now old) chosen (get_or (mapped_sectors (now old) machine span) k d) (avoided k d below) (clear k d below)))

-- ---- what isn't written

-- the events between two pasts, at any moment of which each sector that none of them writes has what it had
module _ (old : Past) (newer : List Event) (quiet : IsQuiet (Some old)) where
  kept : (d s : ℕ) → NotWritten (Some old) (Some (continued newer old)) d s → LeavesOnly (Some old) (Some (continued newer old)) (λ c. c d s ≡ now (Some old) d s)
  kept d s run = (not_written_stays (Some old) (Some (continued newer old)) d s run).1.stays (now (Some old) d s) (λ c left. ap (λ (image : Image). image d s) (quiet c left))

  all-kept : LeavesOnly (Some old) (Some (continued newer old)) (λ c. (d s : ℕ) → NotWritten (Some old) (Some (continued newer old)) d s → c d s ≡ now (Some old) d s)
  all-kept = (leaves_only_law _ old newer).1 (λ k c from to left d s run. (leaves_only_law _ old newer).0 (kept d s run) k c from to left)

pub unwritten_law : UnwrittenLaw
unfolding NotWritten MayLeave
unwritten_law None None disk sector quiet run = leaves_none None _ (λ c left. absurd left)
unwritten_law None (Some new) disk sector quiet run = absurd run
unwritten_law (Some old) None disk sector quiet run = absurd run
unwritten_law (Some old) (Some new) disk sector quiet run =
    subst (λ (past : Past). LeavesOnly (Some old) (Some past) (λ c. (d s : ℕ) → NotWritten (Some old) (Some past) d s → c d s ≡ now (Some old) d s))
    (sym run.1) (all-kept old run.0 quiet)

-- a sector of another disk isn't the volume's
elsewhere : (volume : Volume) (image : Image) (chosen : ℕ → Bool) → IsWritable volume image chosen (record { disk = volume.span.disk + 1; sector = 0 }) → ⊥
elsewhere volume image chosen w = let is = ap (λ (place : DiskSector). place.disk) w.is in absurd (omega (arith, is))

pub writes_only_law : WritesOnlyLaw
writes_only_law volume chosen old new quiet none =
    leaves_weaker old new _ _
    (unwritten_law old new (volume.span.disk + 1) 0 quiet (none (record { disk = volume.span.disk + 1; sector = 0 }) (elsewhere volume (now old) chosen)))
    (λ c stays place not. stays place.disk place.sector (none place not))

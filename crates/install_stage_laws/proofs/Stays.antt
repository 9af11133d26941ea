-- What the new map lies in stays, and means what it did.
use Rattle.std.proofs.Common.{◌≡◌, ℕ, suc, ◌≤◌, ◌<◌, ◌+◌, ◌*◌, ◌⊎◌, inl, inr, true, false, ap, ◌∙◌, arith}
use Rattle.lilo_model.specs.Disks.{Image, DiskSector, bytes_at, with_sector}
use Rattle.lilo_model.specs.LineSector.{line_at}
use Rattle.lilo_model.specs.MinixNames.{names_in}
use Rattle.lilo_model.specs.Meant.{meant, menu_of}
use Rattle.lilo_model.specs.Plan.{plan_boot}
use Rattle.lilo_model.specs.Planned.{planned}
use Rattle.boot_laws.specs.SameOn.{SameOn}
use Rattle.map_laws.specs.Lies.{all_places, MapLies}
use Rattle.map_laws.specs.MapStays.{fixed_places}
use Rattle.map_laws.specs.PlannedLies.{targets_for}
use Rattle.map_laws.proofs.Whole.{map_law, boot-read}
use Rattle.map_laws.proofs.Stays.{map_stays_law}
use Rattle.map_laws.proofs.Planned.{map-lies}
use Rattle.map_laws.proofs.Lines.{other-line}
use Rattle.std.specs.Prelude.{slice_index_or}
use Rattle.lilo_model.specs.DefaultLine.{Empty}
use Rattle.lilo_model.specs.Disks.{bytes_at}
use Rattle.lilo_model.specs.Clear.{IsClearPlace, IsPlain, IsOfZone}
use Rattle.lilo_model.specs.MinixParts.{Volume}
use Rattle.lilo_model.specs.MinixLayout.{super_sector, table_start, table_blocks}
use Rattle.disk_trait.specs.Moments.{now}
use Rattle.disk_trait.proofs.MomentLemmas.{leaves_weaker}
use Rattle.install_laws.specs.Writes.{IsOfDirectory, MayBeWritten, IsWritable}
use Rattle.install_stage_laws.specs.StaysLaws.{planned_places, MeansStaysLaw, ClearStaysLaw, TidyLaw}

-- ---- in another image

pub means_stays_law : MeansStaysLaw
unfolding meant plan_boot
means_stays_law before image c machine volume span config time devices places present sound s elsewhere same =
    let plan = planned before machine volume config time in
    let menu = menu_of config (names_in volume before) devices in
    let targets = targets_for (names_in volume before) devices config.sections in
    let here : bytes_at c places.line ≡ bytes_at image places.line = same 0 places.line (omega arith) in
    let fixed : SameOn (fixed_places span plan places) image c = λ index d below. same (suc index) d (omega (arith, below)) in
    let lies : MapLies c machine span plan menu targets Empty places present =
    map_stays_law image c machine span plan menu targets Empty Empty places present
    (map-lies before image machine volume span config time devices Empty places present sound s) fixed (ap line_at here ∙ s.line_is) in
    record {
      boot = plan_boot plan machine (all_places places);
      says = boot-read c machine span plan menu targets Empty places present lies;
      named = lies.named.0.names;
      line_is = lies.line_is;
      empty = λ keys memory. map_law c machine span plan menu targets Empty places present keys memory lies;
      each_line = λ bytes line is keys memory. map_law (with_sector c places.line bytes) machine span plan menu targets line places present keys memory
          (other-line c machine span plan menu targets Empty line places present bytes lies elsewhere is);
    }

-- ---- what is Clear isn't written

module _ (volume : Volume) (image : Image) (place : DiskSector) where
  by-zone : (sector zone : ℕ) → IsPlain volume image sector → IsOfZone zone sector → ((false ≡ true) ⊎ IsOfDirectory volume image zone) → ⊥
  by-zone sector zone plain of (inl picked) = cc
  by-zone sector zone plain of (inr directory) = let no = (plain.zones directory.number directory.at zone directory.refers of).0 in let yes = directory.is in cc

  by-tables : (sector : ℕ) → (super_sector ≤ sector) × (sector < 2 * (table_start volume.layout + table_blocks volume.layout))
      → (sector < super_sector) ⊎ (2 * (table_start volume.layout + table_blocks volume.layout) ≤ sector) → ⊥
  by-tables sector tables (inl before) = let low = tables.0 in omega (arith, before, low)
  by-tables sector tables (inr after) = let high = tables.1 in omega (arith, after, high)

  by-sector : (sector : ℕ) → IsPlain volume image sector → MayBeWritten volume image (λ zone. false) sector → ⊥
  by-sector sector plain (inl tables) = by-tables sector tables plain.tables
  by-sector sector plain (inr zone) = by-zone sector zone.0 plain zone.1 zone.2

  pub clear-not : IsClearPlace volume image place → IsWritable volume image (λ zone. false) place → ⊥
  clear-not clear w = by-sector w.sector (clear w.sector w.is w.inside) w.may

pub clear_stays_law : ClearStaysLaw
clear_stays_law volume places old new clear writes =
    leaves_weaker old new _ _ writes
    (λ c same index d below. same (slice_index_or places index d) (clear-not volume (now old) (slice_index_or places index d) (clear index d below)))

pub tidy_law : TidyLaw
tidy_law before machine volume span config time devices places present committed tidied sound s elsewhere clear writes =
    leaves_weaker committed tidied _ _
    (clear_stays_law volume (planned_places before machine volume span config time places) committed tidied clear writes)
    (λ c same. means_stays_law before (now committed) c machine volume span config time devices places present sound s elsewhere same)

-- What a writer of files doesn't write: sectors outside the volume or of its block 0, and those of files.
use Rattle.std.proofs.Common.{◌≡◌, ◌≢◌, ◌≤◌, ◌<◌, ◌⊎◌, inl, inr, ℕ, ◌+◌, ◌*◌, ◌/◌, ◌%◌, ◌==◌, Bool, true, List, sym, refl, ap, subst, ◌∙◌, arith}
use Rattle.std.specs.Prelude.{Option}
use Rattle.std.proofs.lemmas.Bool.{cases_eq}
use Rattle.std.proofs.lemmas.Bool.Decides.{nat_tests}
use Rattle.disk_trait.specs.Moments.{now}
use Rattle.disk_trait.proofs.LawLemmas.{end_of_run_law}
use Rattle.disk_trait.proofs.MomentLemmas.{at_now, leaves_weaker}
use Rattle.lilo_model.specs.Clear.{IsOfZone}
use Rattle.lilo_model.specs.Disks.{Image, DiskSector}
use Rattle.lilo_model.specs.MinixNames.{Named, Refers, IsSound}
use Rattle.lilo_model.specs.MinixParts.{Volume, Pointer, parts_of, block_pointer, is_file, is_directory}
use Rattle.lilo_model.specs.Planned.{mapped_inode, optional_file}
use Rattle.minix_change_laws.specs.Beside.{IsDataZone}
use Rattle.minix_change_laws.proofs.Laid.{Laid, laid}
use Rattle.minix_change_laws.proofs.Seen.{opened}
use Rattle.install_laws.specs.Boots.{HasBootOf}
use Rattle.install_laws.specs.Writes.{IsOfDirectory, MayBeWritten, IsWritable, IsApartSector}
use Rattle.install_laws.proofs.Writes.{spares_law}
use Rattle.install_stage_laws.specs.Staged.{KeepsRest, AreFree, IsChosenPlace}
use Rattle.install_stage_laws.specs.StageLaws.{ApartKeptLaw, KeepsRestLaw, StagesLaw}
use Rattle.install_stage_laws.proofs.Files.{place_of, refers-block, Each, EachOptional, file-has, optional-has}

-- ---- sectors of a volume

pub same-sector : (volume : Volume) (place : DiskSector) (sector other : ℕ) → place ≡ place_of volume sector → place ≡ place_of volume other → sector ≡ other
same-sector volume place sector other one two =
    let same : volume.span.start + sector ≡ volume.span.start + other = ap (λ (p : DiskSector). p.sector) (sym one ∙ two) in
    omega (arith, same)

pub same-zone : (zone other sector : ℕ) → IsOfZone zone sector → IsOfZone other sector → zone ≡ other
same-zone zone other sector (inl one) (inl two) = omega (arith, one, two)
same-zone zone other sector (inl one) (inr two) = omega (arith, one, two)
same-zone zone other sector (inr one) (inl two) = omega (arith, one, two)
same-zone zone other sector (inr one) (inr two) = omega (arith, one, two)

pub from-zone : (zone sector first : ℕ) → IsOfZone zone sector → first ≤ zone → 2 * first ≤ sector
from-zone zone sector first (inl is) from = omega (arith, is, from)
from-zone zone sector first (inr is) from = omega (arith, is, from)

pub below-zones : (zone sector zones : ℕ) → IsOfZone zone sector → zone < zones → sector < 2 * zones
below-zones zone sector zones (inl is) below = omega (arith, is, below)
below-zones zone sector zones (inr is) below = omega (arith, is, below)

pub half : (zone index : ℕ) → IsOfZone zone (2 * zone + index % 2)
half zone index = by (cases_eq (index % 2) 0)
  where
    by : (index % 2 ≡ 0) ⊎ (index % 2 ≡ 0 → ⊥) → IsOfZone zone (2 * zone + index % 2)
    by (inl even) = inl (omega (arith, even))
    by (inr odd) = inr (omega (arith, odd))

-- a file is no directory
pub file-not-directory : (mode : ℕ) → (mode / 4096 == 8) ≡ true → (mode / 4096 == 4) ≡ true → ⊥
file-not-directory mode one two = grind (arith, nat_tests, one, two)

-- a sector that isn't the volume's past its block 0 is none of its others
pub apart-other : (volume : Volume) (d s sector : ℕ) (place : DiskSector) → IsApartSector volume d s → place ≡ place_of volume sector → 2 ≤ sector → sector < 2 * volume.layout.zones
    → place ≢ record { disk = d; sector = s }
apart-other volume d s sector place apart is from below same = by apart
  where
    disk : d ≡ volume.span.disk
    disk = ap (λ (p : DiskSector). p.disk) (sym same ∙ is)

    at : s ≡ volume.span.start + sector
    at = ap (λ (p : DiskSector). p.sector) (sym same ∙ is)

    by : IsApartSector volume d s → ⊥
    by (inl other) = other disk
    by (inr (inl before)) = omega (arith, before, at, from)
    by (inr (inr after)) = omega (arith, after, at, below)

module _ (volume : Volume) (image : Image) (sound : IsSound volume image) where
  pub lies : Laid volume.layout
  lies = laid _ volume.span.count volume.layout (opened volume image sound).super

  -- zones begin past block 0
  pub some-first : 2 ≤ volume.layout.first
  some-first = let table = lies.table in omega (arith, table)

  pub from-two : (zone sector : ℕ) → IsOfZone zone sector → volume.layout.first ≤ zone → 2 ≤ sector
  from-two zone sector of from = let least = some-first in let low = from-zone zone sector volume.layout.first of from in omega (arith, least, low)

  module _ (chosen : ℕ → Bool) where
    -- a chosen place is one that a writer of files may write
    pub chosen-writable : ((zone : ℕ) → chosen zone ≡ true → IsDataZone volume.layout zone) → (place : DiskSector) → IsChosenPlace volume chosen place → IsWritable volume image chosen place
    chosen-writable data-zones place c = record {
      sector = c.sector;
      inside = below-zones c.zone c.sector volume.layout.zones c.of (data-zones c.zone c.picked).1;
      is = c.is;
      may = inr (c.zone, c.of, inl c.picked);
    }

    -- what may be written lies past block 0
    past-first : ((zone : ℕ) → chosen zone ≡ true → IsDataZone volume.layout zone) → (sector : ℕ) → MayBeWritten volume image chosen sector → 2 ≤ sector
    past-first data-zones sector (inl tables) = tables.0
    past-first data-zones sector (inr one) = by one.2
      where
        by : ((chosen one.0 ≡ true) ⊎ IsOfDirectory volume image one.0) → 2 ≤ sector
        by (inl picked) = from-two one.0 sector one.1 (data-zones one.0 picked).0
        by (inr directory) = from-two one.0 sector one.1 ((opened volume image sound).parts.zone_range directory.number directory.at one.0 directory.refers).0

    -- so a sector that isn't the volume's, or is of block 0, isn't one
    pub apart-not : ((zone : ℕ) → chosen zone ≡ true → IsDataZone volume.layout zone) → (place : DiskSector) → IsApartSector volume place.disk place.sector → IsWritable volume image chosen place → ⊥
    apart-not data-zones place apart w = apart-other volume place.disk place.sector w.sector place apart w.is (past-first data-zones w.sector w.may) w.inside refl

    -- ---- sectors of files

    module _ (free : AreFree volume image chosen) where
      zones-free : (zone : ℕ) → chosen zone ≡ true → IsDataZone volume.layout zone
      zones-free zone picked = (free zone picked).0

      -- a sector of a regular file isn't one that may be written
      file-not : (number : ℕ) (at : Pointer) (zone sector : ℕ) (place : DiskSector) → Refers volume.layout (parts_of volume image) number at zone → is_file ((parts_of volume image).node number) ≡ true
          → IsOfZone zone sector → place ≡ place_of volume sector → IsWritable volume image chosen place → ⊥
      file-not number at zone sector place refers regular of is w = by-may w.may
        where
          same : w.sector ≡ sector
          same = same-sector volume place w.sector sector w.is is

          by-zone : (other : ℕ) → zone ≡ other → ((chosen other ≡ true) ⊎ IsOfDirectory volume image other) → ⊥
          by-zone other one (inl picked) =
              let marked : (parts_of volume image).has_zone other ≡ true = subst (λ z. (parts_of volume image).has_zone z ≡ true) one ((opened volume image sound).parts.zone_marked number at zone refers) in
              let not-marked = (free other picked).1 in
              cc
          by-zone other one (inr directory) =
              let there : Refers volume.layout (parts_of volume image) directory.number directory.at zone =
              subst (λ z. Refers volume.layout (parts_of volume image) directory.number directory.at z) (sym one) directory.refers in
              let both = (opened volume image sound).parts.once number directory.number at directory.at zone refers there in
              let listed : is_directory ((parts_of volume image).node number) ≡ true = subst (λ n. is_directory ((parts_of volume image).node n) ≡ true) (sym both.0) directory.is in
              file-not-directory ((parts_of volume image).node number).mode regular listed

          by-may : MayBeWritten volume image chosen w.sector → ⊥
          by-may (inl tables) =
              let range = (opened volume image sound).parts.zone_range number at zone refers in
              let low = from-zone zone sector volume.layout.first of range.0 in
              let table = lies.table in
              let high = tables.1 in
              omega (arith, low, table, high, same)
          by-may (inr one) = by-zone one.0 (same-zone zone one.0 w.sector (subst (IsOfZone zone) (sym same) of) one.1) one.2

pub apart_kept_law : ApartKeptLaw
apart_kept_law volume image chosen place sound data-zones apart w = apart-not volume image sound chosen data-zones place apart w

-- ---- files

-- a place stays: it isn't one that may be written, nor the boot sector's
pub record Stays (volume : Volume) (image : Image) (chosen : ℕ → Bool) (boot : DiskSector) (place : DiskSector) : Type 0 where
  pub kept : IsWritable volume image chosen place → ⊥
  pub other : place ≢ boot

module _ (volume : Volume) (image : Image) (chosen : ℕ → Bool) (boot : DiskSector) (sound : IsSound volume image) (free : AreFree volume image chosen) (apart : IsApartSector volume boot.disk boot.sector) where
  -- the sectors of a file that is mapped
  pub file-stays : (number : ℕ) → Named volume.layout (parts_of volume image) number → is_file ((parts_of volume image).node number) ≡ true
      → Each volume image (Stays volume image chosen boot) (mapped_inode volume (parts_of volume image) number).places
  file-stays number named regular = file-has volume image (Stays volume image chosen boot) number (λ index zone is some.
      let refers = refers-block volume image number named regular index zone is some in
      let range = (opened volume image sound).parts.zone_range number (block_pointer volume.layout.kind (index / 2)) zone refers in
      let sector = 2 * zone + index % 2 in
      record {
        kept = file-not volume image sound chosen free number (block_pointer volume.layout.kind (index / 2)) zone sector (place_of volume sector) refers regular (half zone index) refl;
        other =
            apart-other volume boot.disk boot.sector sector (place_of volume sector) apart refl
            (from-two volume image sound zone sector (half zone index) range.0) (below-zones zone sector volume.layout.zones (half zone index) range.1);
      })

  -- and of one that may be absent or empty
  pub optional-stays : (path : Option (List ℕ)) → EachOptional volume image (Stays volume image chosen boot) (optional_file volume (parts_of volume image) path)
  optional-stays path = optional-has volume image (Stays volume image chosen boot) sound file-stays path

-- ---- runs

pub keeps_rest_law : KeepsRestLaw
keeps_rest_law volume chosen old new writes = (
  λ c left. end_of_run_law (KeepsRest volume (now old) chosen) old new writes c left,
  λ told. end_of_run_law (KeepsRest volume (now old) chosen) old new writes (now new) (at_now new told),
)

pub stages_law : StagesLaw
stages_law volume machine span chosen begun staged sound apart free avoided writes = record {
  stage = λ clear. spares_law volume machine span chosen begun staged clear (avoided clear) writes;
  stage_boot =
      let boot : DiskSector = record { disk = span.disk; sector = span.start } in
      leaves_weaker begun staged _ (HasBootOf span (now begun)) writes
      (λ c same. same boot (apart-not volume (now begun) sound chosen (λ zone picked. (free zone picked).0) boot apart));
}

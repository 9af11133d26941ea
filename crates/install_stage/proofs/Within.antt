-- A file is made in sectors that a writer of files may write.
use Rattle.std.proofs.Common.{◌≡◌, ◌≢◌, ◌≤◌, ◌<◌, ◌+◌, ℕ, true, false, length, refl, ⊎_elim}
use Rattle.std.specs.Prelude.{All, slice_index}
use Rattle.std.proofs.lemmas.Bool.{or_left, or_right, or_cases}
use Rattle.std.proofs.lemmas.List.Elements.{All-contains, All-from_get_or, Contains-get_or}
use Rattle.disk_trait.specs.declared.disks.Disks.{Ghosts}
use Rattle.disk_trait.specs.Moments.{now}
use Rattle.disk_trait.specs.NotWritten.{NotWritten}
use Rattle.disk_trait.specs.Range.{IsOutside}
use Rattle.install_laws.proofs.Writes.{writes_only_law}
use Rattle.lilo_model.specs.Disks.{Image, DiskSector}
use Rattle.lilo_model.specs.MinixLayout.{zone_sector}
use Rattle.lilo_model.specs.MinixParts as model
use Rattle.minix_change_laws.specs.Beside.{IsDataZone}
use Rattle.minix_steps.specs.Numbers.{has_number}
use Rattle.minix_steps.proofs.SetLemmas.{contains_from, has_from}
use Rattle.minix_choice_laws.specs.Apart.{promise_of}
use Rattle.minix_create.specs.declared.chosen.Chosen.{Chosen}
use Rattle.minix_change_laws.specs.Only.{zone_of_entry}
use Rattle.minix_change_laws.proofs.Only.{directory-refers}
use Rattle.minix_layout.specs.View.{super_view}
use Rattle.minix_change_laws.proofs.Seen.{opened}
use Rattle.minix_steps.specs.Written.{parts_now}
use Rattle.minix_zones.specs.Volume.{volume_view, past_of}
use Rattle.minix_zones.specs.View as zones
use Rattle.minix_zones.specs.declared.volume.Volume.{Volume}
use Rattle.install_stage.specs.Within.{is_chosen, AreDataZones, IsFreeFile, FreeWherePromised, IsKept, NeedsNoOther, MakesFile, WritesWithin}
use Rattle.install_stage.proofs.Kept.{off-chosen, off-directory, off-maps, off-inode, off-mark, apart_law}

module _ {D : Type 0} {disks : Ghosts D} (volume : Volume D disks) (chosen : Chosen) (f : IsFreeFile volume chosen) where
  abbrev View : model.Volume
  View = volume_view volume

  abbrev Now : Image
  Now = now (past_of volume)

  -- ---- the chosen zones are data zones

  own-zone : (zone : ℕ) → has_number chosen.choice.zones zone ≡ true → IsDataZone (super_view volume.layout) zone
  own-zone zone has =
      let it : zones.IsDataZone volume.layout zone = All-contains (zones.IsDataZone volume.layout) chosen.choice.zones zone f.suits.are_data (contains_from chosen.choice.zones zone has) in
      (it.from, it.below)

  growth-zones : All (IsDataZone (super_view volume.layout)) chosen.choice.growth
  growth-zones = All-from_get_or (IsDataZone (super_view volume.layout)) chosen.choice.growth 0 (λ level low. (f.free.grows.growth_is.from level low, f.free.grows.growth_is.below level low))

  growth-zone : (zone : ℕ) → has_number chosen.choice.growth zone ≡ true → IsDataZone (super_view volume.layout) zone
  growth-zone zone has = All-contains (IsDataZone (super_view volume.layout)) chosen.choice.growth zone growth-zones (contains_from chosen.choice.growth zone has)

  pub zones_data : AreDataZones (super_view volume.layout) (is_chosen chosen)
  zones_data zone picked = ⊎_elim (own-zone zone) (growth-zone zone) (or_cases (has_number chosen.choice.zones zone) (has_number chosen.choice.growth zone) picked)

  -- none of them is marked where it was promised
  own-free : All (λ zone. (parts_now volume).has_zone zone ≡ false) chosen.choice.zones
  own-free = All-from_get_or (λ zone. (parts_now volume).has_zone zone ≡ false) chosen.choice.zones 0 f.free.zones

  pub free_promised : FreeWherePromised volume chosen
  free_promised taken promised held zone picked = (
    zones_data zone picked,
    ⊎_elim
        (λ own. All-contains (λ z. (parts_now volume).has_zone z ≡ false) chosen.choice.zones zone own-free (contains_from chosen.choice.zones zone own))
        (λ grown. All-contains (λ z. (parts_now volume).has_zone z ≡ false) chosen.choice.growth zone growth-free (contains_from chosen.choice.growth zone grown))
        (or_cases (has_number chosen.choice.zones zone) (has_number chosen.choice.growth zone) picked),
  )
    where
      growth-free : All (λ z. (parts_now volume).has_zone z ≡ false) chosen.choice.growth
      growth-free = All-from_get_or (λ z. (parts_now volume).has_zone z ≡ false) chosen.choice.growth 0
          (λ level low. (promised.zones (promise_of chosen.directory chosen.choice) level held.promise low).unmarked)

  of-growth : (level : ℕ) → level < length chosen.choice.growth → is_chosen chosen (slice_index chosen.choice.growth level) ≡ true
  of-growth level low =
      or_right (has_number chosen.choice.zones (slice_index chosen.choice.growth level)) (has_number chosen.choice.growth (slice_index chosen.choice.growth level))
      (has_from chosen.choice.growth (slice_index chosen.choice.growth level) (Contains-get_or chosen.choice.growth level 0 low))

  -- ---- what is needed

  directory-range : (1 ≤ chosen.directory) × (chosen.directory ≤ volume.layout.inodes)
  directory-range = (opened View Now f.free.sound).parts.in_range chosen.directory f.free.grows.named

  pub needs_no_other : NeedsNoOther volume chosen
  needs_no_other place not = record {
    file = record {
      bitmaps = off-maps View Now f.free.sound (is_chosen chosen) place.disk place.sector not;
      zones = λ zone has. off-chosen View Now f.free.sound (is_chosen chosen) place.disk place.sector not zone (own-zone zone has)
          (or_left (has_number chosen.choice.zones zone) (has_number chosen.choice.growth zone) has);
      inode = off-inode View Now f.free.sound (is_chosen chosen) place.disk place.sector not chosen.choice.inode f.suits.some f.suits.there;
    };
    name = off-name;
    above = λ is. let plain = f.file in absurd (cc);
    growth = λ apart. record {
      directory = record {
        inode = off-inode View Now f.free.sound (is_chosen chosen) place.disk place.sector not chosen.directory directory-range.0 directory-range.1;
        zones = λ at zone to. off-directory View Now f.free.sound (is_chosen chosen) place.disk place.sector not chosen.directory at zone (record { named = f.free.grows.named; to = to }) f.free.grows.is;
      };
      zones = λ level low. record {
        bit = off-mark View Now f.free.sound (is_chosen chosen) place.disk place.sector not (slice_index chosen.choice.growth level) (growth-range level low);
        bytes = off-chosen View Now f.free.sound (is_chosen chosen) place.disk place.sector not (slice_index chosen.choice.growth level) (growth-range level low) (of-growth level low);
      };
    };
  }
    where
      growth-range : (level : ℕ) → level < length chosen.choice.growth → IsDataZone (super_view volume.layout) (slice_index chosen.choice.growth level)
      growth-range level low = (f.free.grows.growth_is.from level low, f.free.grows.growth_is.below level low)

      off-name : zone_of_entry (super_view volume.layout) (parts_now volume) chosen.directory chosen.choice.place ≢ 0
          → IsOutside volume.span.disk (volume.span.start + zone_sector (zone_of_entry (super_view volume.layout) (parts_now volume) chosen.directory chosen.choice.place)) 2 place.disk place.sector
      off-name some =
          off-directory View Now f.free.sound (is_chosen chosen) place.disk place.sector not chosen.directory _ _
          (directory-refers (super_view volume.layout) (parts_now volume) chosen.directory chosen.choice.place f.free.grows.named f.free.grows.is _ some refl) f.free.grows.is

-- ---- what is written

module _ {D : Type 0} {disks : Ghosts D} (start volume : Volume D disks) (chosen : Chosen) (f : IsFreeFile start chosen) (makes : MakesFile start volume chosen) where
  pub writes_within : WritesWithin start volume chosen
  writes_within = record {
    others = others;
    only = λ quiet. writes_only_law (volume_view start) (is_chosen chosen) (past_of start) (past_of volume) quiet others;
    apart = λ d s apart. others (record { disk = d; sector = s })
        (apart_law (volume_view start) (now (past_of start)) (is_chosen chosen) d s f.free.sound (zones_data start chosen f) apart);
  }
    where
      others : (place : DiskSector) → IsKept start (is_chosen chosen) place → NotWritten (past_of start) (past_of volume) place.disk place.sector
      others place not = makes.creates.others makes.told place.disk place.sector (needs_no_other start chosen f place not)

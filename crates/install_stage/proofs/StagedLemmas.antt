-- All is staged once a map was made.
use Rattle.std.proofs.Common.{◌≡◌, ◌≤◌, ◌<◌, ◌+◌, ◌-◌, ◌*◌, ℕ, Bool, true, List, [], ◌∷◌, length, map, Option, Ok, sym, ap, ◌∙◌, subst, ⊎_elim, arith}
use Rattle.std.specs.List.{AllByRecursion}
use Rattle.std.proofs.lemmas.Bool.{cases_eq, cases_lt}
use Rattle.disk_trait.specs.declared.disks.Disks.{Ghosts}
use Rattle.disk_trait.specs.Moments.{now}
use Rattle.disk_trait.specs.Past.{Past}
use Rattle.install_laws.specs.Writes.{IsWritable}
use Rattle.install_stage.specs.Within.{is_chosen}
use Rattle.install_stage_laws.specs.Committed.{IsStaged}
use Rattle.install_stage_laws.specs.Staged.{KeepsRest, IsChosenPlace, IsStagedMap, IsNewBoot}
use Rattle.install_stage_laws.proofs.Mapped.{mapped_joined_law}
use Rattle.install_stage_laws.proofs.Sectors.{keeps_rest_law}
use Rattle.lilo_model.specs.Conf.{Config}
use Rattle.lilo_model.specs.Devices.{Device}
use Rattle.lilo_model.specs.Disks.{Image, Machine, Span, bytes_at}
use Rattle.lilo_model.specs.Disks as model
use Rattle.lilo_model.specs.Lays.{AreAt}
use Rattle.lilo_model.specs.MinixNames.{IsSound}
use Rattle.lilo_model.specs.MinixParts as volumes
use Rattle.lilo_model.specs.Plan.{Plan, plan_sectors}
use Rattle.map_laws.specs.MapLays.{HoldsMap}
use Rattle.map_laws.specs.Lies.{MapPlaces, all_places}
use Rattle.map_sectors.specs.Map.{plan_view}
use Rattle.map_sectors.specs.declared.map.MapPlan.{MapPlan}
use Rattle.minix_create.specs.declared.chosen.Chosen.{Chosen}
use Rattle.minix_change_laws.proofs.Seen.{opened}
use Rattle.minix_zones.specs.Volume.{volume_view, past_of}
use Rattle.minix_zones.specs.declared.volume.Volume.{Volume}
use Rattle.slot_lists.specs.Made.{place_view}
use Rattle.slot_lists.specs.declared.slots.DiskSector.{DiskSector}
use Rattle.install_stage.specs.MapFile.{IsFirstApart, MakesMap}
use Rattle.install_stage.specs.Staged.{WasPlanned, StagedLaw}

-- ---- all sectors are whole

module _ (volume : volumes.Volume) (before c : Image) (zones : ℕ → Bool) (keeps : KeepsRest volume before zones c) (sound : IsSound volume c) (place : model.DiskSector) (was : length (bytes_at before place) ≡ 512) where
  kept : (IsWritable volume before zones place → ⊥) → length (bytes_at c place) ≡ 512
  kept not = ap length (keeps place not) ∙ was

  in-volume : place.disk ≡ volume.span.disk → volume.span.start ≤ place.sector → place.sector < volume.span.start + 2 * volume.layout.zones → length (bytes_at c place) ≡ 512
  in-volume disk from below =
      let sector : volume.span.start + (place.sector - volume.span.start) ≡ place.sector = omega (arith, from) in
      ap (λ (d : ℕ). length (c d place.sector)) disk
      ∙ ap (λ (s : ℕ). length (c volume.span.disk s)) (sym sector)
      ∙ (opened volume c sound).whole (place.sector - volume.span.start) (omega (arith, from, below))

  pub still-whole : length (bytes_at c place) ≡ 512
  still-whole = ⊎_elim on-disk (λ other. kept (λ w. other (ap (λ (p : model.DiskSector). p.disk) w.is))) (cases_eq place.disk volume.span.disk)
    where
      at : (w : IsWritable volume before zones place) → place.sector ≡ volume.span.start + w.sector
      at w = ap (λ (p : model.DiskSector). p.sector) w.is

      on-disk : place.disk ≡ volume.span.disk → length (bytes_at c place) ≡ 512
      on-disk disk = ⊎_elim
          (λ low. kept (λ w. let is = at w in omega (arith, low, is)))
          (λ from. ⊎_elim
          (λ below. in-volume disk from below)
          (λ past. kept (λ w. let is = at w in let inside = w.inside in omega (arith, past, is, inside)))
          (cases_lt place.sector (volume.span.start + 2 * volume.layout.zones)))
          (cases_lt place.sector volume.span.start)

-- ---- places of chosen zones

pub more-chosen : (volume : volumes.Volume) (one zones : ℕ → Bool) → ((zone : ℕ) → one zone ≡ true → zones zone ≡ true) → (places : List model.DiskSector)
    → AllByRecursion (IsChosenPlace volume one) places → AllByRecursion (IsChosenPlace volume zones) places
more-chosen volume one zones more [] own = tt
more-chosen volume one zones more (place ∷ places) own =
    let first = own.0 in
    (record { zone = first.zone; sector = first.sector; picked = more first.zone first.picked; of = first.of; is = first.is }, more-chosen volume one zones more places own.1)

-- ---- the whole

module _ {D : Type 0} {disks : Ghosts D} (start new : Volume D disks) (chosen : Chosen) (plan : MapPlan) (places : List DiskSector)
    (begun : Option Past) (machine : Machine) (span : Span) (config : Config) (device : Device) (time : ℕ) (zones : ℕ → Bool)
    (map_places : MapPlaces) (bytes : List ℕ) (path : List (List ℕ))
    (are : map place_view places ≡ all_places map_places)
    (was : WasPlanned begun start new machine span config device time zones chosen plan (all_places map_places))
    (boot : IsNewBoot (now begun) machine (volume_view start) span config time (all_places map_places) bytes)
    (makes : MakesMap start new machine path chosen plan places (Ok tt)) where
  abbrev View : volumes.Volume
  View = volume_view start

  abbrev Before : Image
  Before = now begun

  abbrev Staged : Image
  Staged = now (past_of new)

  abbrev Lie : List model.DiskSector
  Lie = all_places map_places

  keeps : KeepsRest View Before zones Staged
  keeps = (keeps_rest_law View zones begun (past_of new) was.writes).1 (makes.creates.leads.goes_on.told was.told)

  staged-map : IsStagedMap Before Staged machine View config time zones map_places
  staged-map = record {
    keeps = keeps;
    free = was.planned.free;
    whole = λ place inside. still-whole View Before Staged zones keeps (makes.held was.told).files.sound place (was.planned.whole place inside);
    own = more-chosen View (is_chosen chosen) zones was.own Lie (subst (λ (l : List model.DiskSector). AllByRecursion (IsChosenPlace View (is_chosen chosen)) l) are (makes.room was.told).own);
    apart = subst IsFirstApart are (makes.room was.told).first;
    lies =
        subst (λ (p : Plan). AreAt Staged Lie (plan_sectors p machine Lie)) was.planned.plan_is
        (subst (λ (l : List model.DiskSector). AreAt Staged l (plan_sectors (plan_view plan) machine l)) are (makes.done was.told).lies);
  }

  pub staged : IsStaged Before Staged machine View span config device time zones map_places bytes path
  staged = record {
    sound = was.planned.sound;
    apart = was.planned.apart;
    outside = was.planned.outside;
    accepted = was.planned.accepted;
    map = staged-map;
    boot = boot;
    files = mapped_joined_law View config Before (now (past_of start)) Staged was.files (makes.held was.told).files;
    holds =
        subst (λ (p : Plan). HoldsMap Staged machine View p path Lie) was.planned.plan_is
        (subst (λ (l : List model.DiskSector). HoldsMap Staged machine View (plan_view plan) path l) are (makes.done was.told).holds);
  }

pub staged_law : {D : Type 0} {disks : Ghosts D} (start new : Volume D disks) (chosen : Chosen) (plan : MapPlan) (places : List DiskSector) → StagedLaw start new chosen plan places
staged_law start new chosen plan places begun machine span config device time zones map_places bytes path are was boot makes =
    staged start new chosen plan places begun machine span config device time zones map_places bytes path are was boot makes

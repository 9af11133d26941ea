-- The places of a map's own sectors lie on the plan's disk, and have slots.
use Rattle.std.proofs.Common.{◌≡◌, ◌≤◌, ◌<◌, ℕ, zero, suc, List, [], ◌∷◌, length, map, drop, Ok, sym, subst, arith}
use Rattle.std.specs.Prelude.{All, slice_index_or}
use Rattle.std.specs.List.{AllByRecursion}
use Rattle.std.proofs.lemmas.List.{length-map}
use Rattle.std.proofs.lemmas.List.Elements.{All-drop}
use Rattle.lilo_model.specs.ConfOptions as options
use Rattle.lilo_model.specs.Disks as disks
use Rattle.lilo_model.specs.Disks.{Machine}
use Rattle.lilo_model.specs.Plan.{map_size, nowhere, place_of_sector}
use Rattle.lilo_model.specs.PlanRefusal.{own_places_check, place_check}
use Rattle.map_laws.proofs.Accepted.{all-pass}
use Rattle.lilo_conf.specs.View.{config_view}
use Rattle.slot_lists.specs.declared.slots.DiskSector.{DiskSector}
use Rattle.slot_lists.specs.Made.{place_view}
use Rattle.map_sectors.specs.declared.map.MapPlan.{MapPlan}
use Rattle.map_sectors.specs.Map.{plan_view, HasGeometries}
use Rattle.map_sectors.specs.Places.{LieOnFour, IsOwnPlace, AreOwnPlaces, HasPlaces}
use Rattle.map_sectors.proofs.FourLemmas.{four-own}

-- ---- on four disks

-- the place of a sector
pub four-at : (places : List disks.DiskSector) (index : ℕ) → LieOnFour places → (place_of_sector places index).disk ≤ 3
four-at [] index four = omega arith
four-at (place ∷ places) zero four = four 0 place (omega arith)
four-at (place ∷ places) (suc index) four = four-at places index (λ k d below. four (suc k) d (omega (arith, below)))

-- ---- the place of a sector

on-at : (disk : ℕ) (places : List DiskSector) (index : ℕ) → All (λ place. place.disk ≡ disk) places → index < length places
    → (place_of_sector (map place_view places) index).disk ≡ disk
on-at disk [] index on below = absurd (omega (arith, below))
on-at disk (place ∷ places) zero on below = on 0 place (omega arith)
on-at disk (place ∷ places) (suc index) on below = on-at disk places index (λ k d below. on (suc k) d (omega (arith, below))) (omega (arith, below))

all-at : {A : Type 0} (P : A → Type 0) (values : List A) (index : ℕ) (other : A) → AllByRecursion P values → index < length values → P (slice_index_or values index other)
all-at P [] index other all below = absurd (omega (arith, below))
all-at P (value ∷ values) zero other all below = all.0
all-at P (value ∷ values) (suc index) other all below = all-at P values index other all.1 (omega (arith, below))

module _ (machine : Machine) (plan : MapPlan) where
  pub own-at : (places : List DiskSector) (index : ℕ) → All (λ place. place.disk ≡ plan.disk) places
      → own_places_check (config_view plan.config) machine (map place_view places) ≡ Ok tt → index < length places
      → IsOwnPlace machine plan (place_of_sector (map place_view places) index)
  unfolding own_places_check
  own-at places index on check below = record {
    on = on-at plan.disk places index on below;
    check = all-at (λ place. place_check (config_view plan.config) machine options.Map place ≡ Ok tt) (map place_view places) index nowhere
        (all-pass (place_check (config_view plan.config) machine options.Map) (map place_view places) check)
        (subst (λ n. index < n) (sym (length-map places place_view)) below);
  }

  -- a map has five sectors at least
  pub some-sectors : 5 ≤ map_size (plan_view plan) machine
  unfolding map_size
  some-sectors = omega arith

  -- all places of a map's sectors, with that of the zero sector
  pub all-places : (places : List DiskSector) → HasGeometries machine plan.geometries → All (λ place. place.disk ≡ plan.disk) places
      → AreOwnPlaces machine plan places → HasPlaces machine plan (place_of_sector (map place_view places) 4) (map place_view places)
  all-places places has on own =
      let some = some-sectors in
      let count = own.count in
      record {
        geometries = has;
        zero_sector = own-at places 4 on own.check (omega (arith, some, count));
        four = four-own plan.disk places plan.disk_is on;
      }

  -- the places after some of them
  pub after-some : (zero_place : disks.DiskSector) (places : List disks.DiskSector) (count : ℕ)
      → HasPlaces machine plan zero_place places → HasPlaces machine plan zero_place (drop count places)
  after-some zero_place places count has = record {
    geometries = has.geometries;
    zero_sector = has.zero_sector;
    four = All-drop (λ place. place.disk ≤ 3) count places has.four;
  }

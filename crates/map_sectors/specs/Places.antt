-- The places of a map's own sectors.
use Rattle.std.specs.Prelude.{◌≡◌, ◌≤◌, List, All, Ok, length, map}
use Rattle.lilo_model.specs.ConfOptions as options
use Rattle.lilo_model.specs.Disks.{DiskSector, Machine}
use Rattle.lilo_model.specs.Plan.{map_size}
use Rattle.lilo_model.specs.PlanRefusal.{own_places_check, place_check}
use Rattle.lilo_conf.specs.View.{config_view}
use Rattle.slot_lists.specs.declared.slots.DiskSector as slots
use Rattle.slot_lists.specs.Made.{place_view}
use Rattle.map_sectors.specs.declared.map.MapPlan.{MapPlan}
use Rattle.map_sectors.specs.Map.{plan_view, HasGeometries}

-- places lie on the disks 0 to 3
abbrev pub LieOnFour : List DiskSector → Type 0
LieOnFour places = All (λ place. place.disk ≤ 3) places

-- a place lies on the plan's disk, and has a slot
pub record IsOwnPlace (machine : Machine) (plan : MapPlan) (place : DiskSector) : Type 0 where
  pub on : place.disk ≡ plan.disk
  pub check : place_check (config_view plan.config) machine options.Map place ≡ Ok tt

-- each sector of a map has its place, and that has a slot
pub record AreOwnPlaces (machine : Machine) (plan : MapPlan) (places : List slots.DiskSector) : Type 0 where
  pub count : length places ≡ map_size (plan_view plan) machine
  pub check : own_places_check (config_view plan.config) machine (map place_view places) ≡ Ok tt

-- some sectors of a map lie at places, and the zero sector has its place: on a machine that is divided as the plan has it
pub record HasPlaces (machine : Machine) (plan : MapPlan) (zero_place : DiskSector) (places : List DiskSector) : Type 0 where
  pub geometries : HasGeometries machine plan.geometries
  pub zero_sector : IsOwnPlace machine plan zero_place
  pub four : LieOnFour places

-- The value of a plan, and the machine that it is for.
use Rattle.std.specs.Prelude.{◌≡◌, ◌≤◌, ℕ, List, slice_index_or}
use Rattle.disk_trait.specs.declared.geometry.Geometry.{Geometry}
use Rattle.lilo_model.specs.Disks.{Machine}
use Rattle.lilo_model.specs.Plan.{Plan}
use Rattle.sector_address.specs.View.{geometry_view}
use Rattle.lilo_conf.specs.View.{config_view}
use Rattle.map_plan.specs.Whole.{files_view}
use Rattle.map_sectors.specs.declared.map.MapPlan.{MapPlan}

-- the plan that it is
abbrev pub plan_view : MapPlan → Plan
plan_view plan = files_view (config_view plan.config) plan.time plan.files

-- the disks 0 to 3 of a machine are divided so
abbrev pub HasGeometries : Machine → List Geometry → Type 0
HasGeometries machine geometries =
    (disk : ℕ) (other : Geometry) → disk ≤ 3 → machine.geometry_of disk ≡ geometry_view (slice_index_or geometries disk other)

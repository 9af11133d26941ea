-- By the disk's geometry.
use Rattle.std.proofs.Common.{subst}
use Rattle.lilo_model.specs.PlanRefusal.{geometry_check}
use Rattle.disk_trait.specs.declared.geometry.Geometry.{Geometry}
use Rattle.sector_address.specs.View.{geometry_view}
use Rattle.lilo_conf.specs.View.{disk_view}
use Rattle.map_plan.specs.View.{Decides}
use Rattle.map_plan.proofs.held.check_disk.Goals as goal

pub returns : goal.returns
returns g c =
    subst (λ (geometry : Geometry). Decides c.check_geometry.result (geometry_check (disk_view c.args.disk.now) (geometry_view geometry))) c.geometry.ensures c.check_geometry.ensures

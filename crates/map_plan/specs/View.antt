-- When a refusal is the model's, and its cause.
use Rattle.std.specs.Prelude.{◌≡◌, ℕ, Option, Some, None, IsSome, Result, Ok, Err}
use Rattle.std.specs.Option.{option_map}
use Rattle.lilo_model.specs.Faults.{Rose}
use Rattle.lilo_model.specs.MinixParts as parts
use Rattle.lilo_model.specs.MinixFind as trees
use Rattle.lilo_model.specs.PlanRefusal as model
use Rattle.sector_address.specs.View.{address_fault_view}
use Rattle.mbr_table.specs.View.{table_fault_view}
use Rattle.conf_settings.specs.View.{opt_view}
use Rattle.setup_header.specs.View.{setup_fault_view}
use Rattle.minix_layout.specs.View.{layout_fault_view}
use Rattle.minix_zones.specs.declared.zone_fault.ZoneFault.{ZoneFault}
use Rattle.minix_zones.specs.declared.zone_fault.ZoneFault.TheVariants as zone_faults
use Rattle.minix_tree.specs.declared.tree_fault.TreeFault.{TreeFault}
use Rattle.minix_tree.specs.declared.tree_fault.TreeFault.TheVariants as tree_faults
use Rattle.map_plan.specs.declared.fault.PlanFault.{PlanFault}
use Rattle.map_plan.specs.declared.fault.PlanFault.TheVariants as faults

-- why a zone is refused, unless the disk failed
abbrev pub zone_refusal : ZoneFault → Option parts.ZoneFault
zone_refusal (zone_faults.Layout fault) = Some (parts.Layout (layout_fault_view fault))
zone_refusal (zone_faults.ZoneOutside zone) = Some (parts.ZoneOutside zone)
zone_refusal zone_faults.Device = None

-- why a path is refused, unless the disk failed or memory ended
abbrev pub tree_refusal : TreeFault → Option trees.TreeFault
tree_refusal (tree_faults.NotFound position) = Some (trees.NotFound position)
tree_refusal (tree_faults.NotDirectory position) = Some (trees.NotDirectory position)
tree_refusal tree_faults.NotFile = Some trees.NotFile
tree_refusal tree_faults.TooManyLinks = Some trees.TooManyLinks
tree_refusal (tree_faults.BadEntry directory) = Some (trees.BadEntry directory)
tree_refusal tree_faults.PathTooLong = Some trees.PathTooLong
tree_refusal (tree_faults.Zone fault) = option_map trees.Zone (zone_refusal fault)
tree_refusal tree_faults.Memory = None

-- why a plan is refused, unless the disk failed or memory ended
abbrev pub plan_refusal : PlanFault → Option model.PlanFault
plan_refusal (faults.Missing text) = Some (model.Missing text)
plan_refusal faults.NoImagesLeft = Some model.NoImagesLeft
plan_refusal (faults.Header path fault) = Some (model.Header path (setup_fault_view fault))
plan_refusal (faults.Address option fault) = Some (model.Address (opt_view option) (address_fault_view fault))
plan_refusal (faults.TooManySlots option slots) = Some (model.TooManySlots (opt_view option) slots)
plan_refusal (faults.GeometryDiffers option have) = Some (model.GeometryDiffers (opt_view option) have)
plan_refusal (faults.OtherIsBoot path) = Some (model.OtherIsBoot path)
plan_refusal (faults.NoSignature path) = Some (model.NoSignature path)
plan_refusal (faults.MessageTooLong size) = Some (model.MessageTooLong size)
plan_refusal (faults.Table fault) = Some (model.Table (table_fault_view fault))
plan_refusal (faults.Tree path fault) = option_map (model.Tree path) (tree_refusal fault)
plan_refusal faults.Device = None
plan_refusal faults.Memory = None

-- a refusal is the one that is given, if there is one
abbrev pub IsRefusal : {B : Type 0} → Option model.PlanFault → Result B model.PlanFault → Type 0
IsRefusal None given = Unit {0}
IsRefusal (Some refusal) given = given ≡ Err refusal

-- a plan was refused as the model refuses it, or the disk failed, or memory ended
abbrev pub Refuses : {B : Type 0} → PlanFault → Result B model.PlanFault → Type 0
Refuses fault given = IsRefusal (plan_refusal fault) given

-- what was answered, seen by view, is what the model gives, unless the disk failed or memory ended
abbrev pub Gives : {A B : Type 0} → (A → B) → Result A PlanFault → Result B model.PlanFault → Type 0
Gives view (Ok value) given = given ≡ Ok (view value)
Gives view (Err fault) given = Refuses fault given

-- the same of a check that reads no disk and takes no memory: each of its refusals is one of the model's
abbrev pub Decides : {T : Type 0} → Result T PlanFault → Result (Unit {0}) model.PlanFault → Type 0
Decides (Ok done) given = given ≡ Ok tt
Decides (Err fault) given = Some given ≡ option_map Err (plan_refusal fault)

-- the cause of a refusal that isn't one of the model's: the disk failed and its count of faults rose, or memory ended
abbrev pub HasPlanCause : ℕ → ℕ → PlanFault → Type 0
HasPlanCause before now faults.Device = Rose before now
HasPlanCause before now faults.Memory = Unit {0}
HasPlanCause before now fault = IsSome (plan_refusal fault)

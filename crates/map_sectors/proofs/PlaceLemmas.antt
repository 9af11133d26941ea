-- The places of a map's own sectors.
use Rattle.std.proofs.Common.{◌≡◌, ℕ, suc, List, [], ◌∷◌, map, Option, Some, None, Result, Ok, Err, refl, ap, ◌∙◌, arith}
use Rattle.std.specs.Prelude.{All, IfErr, IsSome}
use Rattle.std.specs.Option.{option_map}
use Rattle.std.specs.List.{AllByRecursion}
use Rattle.lilo_model.specs.Disks as disks
use Rattle.lilo_model.specs.Disks.{Geometry, Machine}
use Rattle.lilo_model.specs.PlanRefusal as model
use Rattle.slot_lists.specs.declared.slots.DiskSector.{DiskSector}
use Rattle.slot_lists.specs.Made.{place_view}
use Rattle.map_plan.specs.declared.fault.PlanFault.{PlanFault}
use Rattle.map_plan.specs.declared.fault.PlanFault.TheVariants as faults
use Rattle.map_plan.specs.View.{Decides, HasPlanCause, plan_refusal}

module _ (machine : Machine) (disk : ℕ) (geometry : Geometry) (is : machine.geometry_of disk ≡ geometry) where
  pub own-on : (places : List DiskSector) → All (λ place. place.disk ≡ disk) places
      → AllByRecursion (λ place. machine.geometry_of place.disk ≡ geometry) (map place_view places)
  own-on [] on = tt
  own-on (place ∷ places) on =
      (ap machine.geometry_of (on 0 place (omega arith)) ∙ is, own-on places (λ k d below. on (suc k) d (omega (arith, below))))

pub all-on : (machine : Machine) (geometry : Geometry) (places : List disks.DiskSector) → ((disk : ℕ) → machine.geometry_of disk ≡ geometry)
    → AllByRecursion (λ place. machine.geometry_of place.disk ≡ geometry) places
all-on machine geometry [] is = tt
all-on machine geometry (place ∷ places) is = (is place.disk, all-on machine geometry places is)

some-refusal : (fault : PlanFault) (given : Result (Unit {0}) model.PlanFault) → Decides {T = Unit {0}} (Err fault) given → IsSome (plan_refusal fault)
some-refusal fault given is = by (plan_refusal fault) is
  where
    by : (refusal : Option model.PlanFault) → Some given ≡ option_map Err refusal → IsSome refusal
    by None is = cc
    by (Some refusal) is = refl

cause-by : (before now : ℕ) (fault : PlanFault) → IsSome (plan_refusal fault) → HasPlanCause before now fault
cause-by before now (faults.Missing text) is = is
cause-by before now faults.NoImagesLeft is = is
cause-by before now (faults.Header path fault) is = is
cause-by before now (faults.Address named fault) is = is
cause-by before now (faults.TooManySlots named slots) is = is
cause-by before now (faults.GeometryDiffers named have) is = is
cause-by before now (faults.OtherIsBoot path) is = is
cause-by before now (faults.NoSignature path) is = is
cause-by before now (faults.MessageTooLong size) is = is
cause-by before now (faults.Table fault) is = is
cause-by before now (faults.Tree path fault) is = is
cause-by before now faults.Device is = cc
cause-by before now faults.Memory is = tt

-- a check that is decided is refused for a cause
pub decided-cause : (before now : ℕ) (result : Result (Unit {0}) PlanFault) (given : Result (Unit {0}) model.PlanFault)
    → Decides result given → IfErr result (HasPlanCause before now)
decided-cause before now (Ok done) given is = tt
decided-cause before now (Err fault) given is = cause-by before now fault (some-refusal fault given is)

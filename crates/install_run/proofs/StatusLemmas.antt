-- Each refusal has one of a few exit statuses.
use Rattle.std.proofs.Common.{ℕ}
use Rattle.disk_trait.specs.declared.disks.Phase.{Phase}
use Rattle.lilo_model.specs.Faults.{Rose}
use Rattle.map_plan.specs.declared.fault.PlanFault.{PlanFault}
use Rattle.map_plan.specs.declared.fault.PlanFault.TheVariants as plans
use Rattle.install_run.specs.Texts.{device_status, fault_status, plan_status}
use Rattle.install_order.specs.Faults.{HasInstallCause}
use Rattle.install_order.specs.declared.fault.InstallFault.{InstallFault}
use Rattle.install_order.specs.declared.fault.InstallFault.TheVariants as faults

-- what is so of each status that a refusal may have is so of its own; that of a disk that failed may rest on which it was
module _ (P : InstallFault → ℕ → Type 0) (phase : Phase) (is-3 : (fault : InstallFault) → P fault 3) (is-4 : (fault : InstallFault) → P fault 4)
    (is-5 : (fault : InstallFault) → P fault 5) (is-13 : (fault : InstallFault) → P fault 13) (in-plan : P (faults.Plan plans.Device) 8)
    (device : P faults.Device (device_status phase)) where
  of_plan : (plan : PlanFault) → P (faults.Plan plan) (plan_status plan)
  of_plan (plans.Missing text) = is-3 _
  of_plan plans.NoImagesLeft = is-3 _
  of_plan (plans.Header path fault) = is-4 _
  of_plan (plans.Address opt fault) = is-4 _
  of_plan (plans.TooManySlots opt slots) = is-4 _
  of_plan (plans.GeometryDiffers opt have) = is-4 _
  of_plan (plans.OtherIsBoot path) = is-4 _
  of_plan (plans.NoSignature path) = is-4 _
  of_plan (plans.MessageTooLong size) = is-4 _
  of_plan (plans.Table fault) = is-3 _
  of_plan (plans.Tree path fault) = is-3 _
  of_plan plans.Device = in-plan
  of_plan plans.Memory = is-13 _

  pub of_status : (fault : InstallFault) → P fault (fault_status fault phase)
  of_status (faults.Survey fault) = is-3 _
  of_status (faults.NotApart opt) = is-4 _
  of_status (faults.Path path fault) = is-3 _
  of_status (faults.Plan plan) = of_plan plan
  of_status (faults.Write fault) = is-5 _
  of_status faults.Device = device
  of_status faults.Memory = is-13 _

-- where a status is none of the others', it is that of a disk that failed
pub rose_by : (Is : ℕ → Type 0) → (Is 3 → ⊥) → (Is 4 → ⊥) → (Is 5 → ⊥) → (Is 13 → ⊥) → (fault : InstallFault) (phase : Phase) (before after : ℕ)
    → HasInstallCause before after fault → Is (fault_status fault phase) → Rose before after
rose_by Is not-3 not-4 not-5 not-13 fault phase before after =
    of_status Caused phase (λ f cause is. absurd (not-3 is)) (λ f cause is. absurd (not-4 is)) (λ f cause is. absurd (not-5 is))
    (λ f cause is. absurd (not-13 is)) (λ cause is. cc) (λ cause is. cause) fault
  where
    Caused : InstallFault → ℕ → Type 0
    Caused fault status = HasInstallCause before after fault → Is status → Rose before after

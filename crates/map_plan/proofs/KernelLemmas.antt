-- A kernel's section whose kernel is refused is omitted, or refused.
use Rattle.std.proofs.Common.{◌≡◌, Bool, true, false, List, [], ◌∷◌, Option, Result, Ok, Err}
use Rattle.lilo_model.specs.Conf.{ConfSection}
use Rattle.lilo_model.specs.Plan.{MappedFile, MappedSection}
use Rattle.lilo_model.specs.PlanRefusal as model
use Rattle.lilo_model.specs.PlanRefusal.{PlanFault}
use Rattle.map_plan.specs.Files.{kernel_by}

module _ (section : ConfSection) (initrd : Result (Option MappedFile) PlanFault) where
  pub kernel-empty : (optional : Bool) (fault : PlanFault) (found : List MappedSection) → kernel_by section optional (Err fault) initrd ≡ Ok found → [] ≡ found
  kernel-empty false fault found is = cc
  kernel-empty true (model.Missing path) found is = cc
  kernel-empty true model.NoImagesLeft found is = cc
  kernel-empty true (model.Header a b) found is = cc
  kernel-empty true (model.Address a b) found is = cc
  kernel-empty true (model.TooManySlots a b) found is = cc
  kernel-empty true (model.GeometryDiffers a b) found is = cc
  kernel-empty true (model.OtherIsBoot a) found is = cc
  kernel-empty true (model.NoSignature a) found is = cc
  kernel-empty true (model.MessageTooLong a) found is = cc
  kernel-empty true (model.Table a) found is = cc
  kernel-empty true (model.Tree a b) found is = cc

  pub kernel-none : (optional : Bool) (fault : PlanFault) (mapped : MappedSection) → kernel_by section optional (Err fault) initrd ≡ Ok (mapped ∷ []) → ⊥
  kernel-none optional fault mapped is =
      let none : [] ≡ mapped ∷ [] = kernel-empty optional fault (mapped ∷ []) is in
      cc

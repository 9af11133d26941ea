-- The files of a sound volume are mapped, and refused, as the model plans them.
use Rattle.std.proofs.Common.{◌≡◌, ℕ, Bool, true, false, if◌then◌else◌, List, [], ◌∷◌, Option, Some, None, Result, Ok, Err, refl, sym, ap, subst, ◌∙◌}
use Rattle.std.specs.Result.{result_ok}
use Rattle.std.specs.Option.{option_map, option_and_then}
use Rattle.disk_trait.specs.Past.{Past, Told, now_of}
use Rattle.lilo_model.specs.Checks.{◌>>=◌, require, with_fault}
use Rattle.lilo_model.specs.Disks.{Image}
use Rattle.lilo_model.specs.MinixParts.{Volume, Parts, parts_of, is_file}
use Rattle.lilo_model.specs.MinixNames.{IsSound}
use Rattle.lilo_model.specs.MinixFind as trees
use Rattle.lilo_model.specs.MinixFind.{NotFile, find}
use Rattle.lilo_model.specs.Conf.{ConfSection}
use Rattle.lilo_model.specs.Plan.{MappedFile, MappedSection}
use Rattle.lilo_model.specs.Planned.{mapped_inode, file_inode, some_file, optional_file, kernel_section}
use Rattle.lilo_model.specs.PlanRefusal as model
use Rattle.lilo_model.specs.PlanRefusal.{Tree, Missing, path_fault, file_check, if_there, kernel_then}
use Rattle.lilo_conf.specs.declared.section.Section.{Section}
use Rattle.lilo_conf.specs.View.{section_view}
use Rattle.minix_tree.specs.declared.tree_fault.TreeFault.{TreeFault}
use Rattle.minix_tree.specs.View as tree_views
use Rattle.file_runs.specs.Mapped.{file_mapped}
use Rattle.file_runs.proofs.MappedLemmas.{mapped_law}
use Rattle.map_plan.specs.declared.fault.PlanFault.{PlanFault}
use Rattle.map_plan.specs.declared.file.KernelFiles.{KernelFiles}
use Rattle.map_plan.specs.View.{IsRefusal, Refuses, Gives, plan_refusal}
use Rattle.map_plan.specs.Files.{file_found, kernel_view, file_planned, optional_planned, kernel_by, kernel_planned, passed, IsFilePlan, IsOptionalPlan, IsKernelPlan, FilePlanLaw, OptionalPlanLaw, KernelPlanLaw}

module _ (volume : Volume) (path : List ℕ) where
  pub found-planned : (past : Option Past) (file : MappedFile)
      → Told past (λ now. file_mapped volume (parts_of volume now) path ≡ Ok file)
      → Told past (λ now. IsSound volume now → file_planned volume (parts_of volume now) path ≡ Ok file)
  unfolding file_planned
  found-planned None file found = tt
  found-planned (Some past) file found = λ sound.
      ap (with_fault (path_fault path)) (sym (mapped_law volume (now_of past) path sound) ∙ found)

  pub refused-planned : (past : Option Past) (fault : TreeFault) (refusal : PlanFault)
      → Told past (λ now. tree_views.Refuses fault (file_mapped volume (parts_of volume now) path))
      → ((found : Result MappedFile trees.TreeFault) → tree_views.Refuses fault found → Refuses refusal (with_fault (path_fault path) found))
      → Told past (λ now. IsSound volume now → Refuses refusal (file_planned volume (parts_of volume now) path))
  unfolding file_planned
  refused-planned None fault refusal refused after = tt
  refused-planned (Some past) fault refusal refused after = λ sound.
      after (file_found volume (parts_of volume (now_of past)) path)
      (subst (tree_views.Refuses fault) (mapped_law volume (now_of past) path sound) refused)

-- ---- a kernel's section

kept-refusal : {A B : Type 0} (refusal : Option model.PlanFault) (found : Result A model.PlanFault) (next : A → Result B model.PlanFault)
    → IsRefusal refusal found → IsRefusal refusal (found >>= next)
kept-refusal None found next is = tt
kept-refusal {A = A} (Some refusal) found next is = ap (λ (found : Result A model.PlanFault). found >>= next) is

module _ (volume : Volume) (section : Section) (path : List ℕ) (same : path ≡ section.path) where
  abbrev main : Image → List ℕ → Result MappedFile model.PlanFault
  main now path = file_planned volume (parts_of volume now) path

  abbrev initrd : Image → Result (Option MappedFile) model.PlanFault
  initrd now = optional_planned volume (parts_of volume now) section.initrd

  pub kernel-refused : (past : Option Past) (fault : PlanFault) (result : Result (Option KernelFiles) PlanFault)
      → Told past (λ now. IsSound volume now → Refuses fault (main now path))
      → ((found : Result MappedFile model.PlanFault) (others : Result (Option MappedFile) model.PlanFault) → Refuses fault found
      → Gives (kernel_view section) result (kernel_by (section_view section) section.optional found others))
      → Told past (λ now. IsSound volume now → Gives (kernel_view section) result (kernel_planned volume (parts_of volume now) (section_view section)))
  unfolding kernel_planned
  kernel-refused None fault result refused after = tt
  kernel-refused (Some past) fault result refused after = λ sound.
      after (main (now_of past) section.path) (initrd (now_of past)) (subst (λ path. Refuses fault (main (now_of past) path)) same (refused sound))

  pub initrd-refused : (past : Option Past) (fault : PlanFault) (file : MappedFile)
      → Told past (λ now. IsSound volume now → main now path ≡ Ok file) → Told past (λ now. IsSound volume now → Refuses fault (initrd now))
      → Told past (λ now. IsSound volume now → Refuses fault (kernel_planned volume (parts_of volume now) (section_view section)))
  unfolding kernel_planned
  initrd-refused None fault file found refused = tt
  initrd-refused (Some past) fault file found refused = λ sound.
      subst (λ (found : Result MappedFile model.PlanFault). Refuses fault (kernel_by (section_view section) section.optional found (initrd (now_of past))))
      (sym (ap (main (now_of past)) (sym same) ∙ found sound))
      (kept-refusal (plan_refusal fault) (initrd (now_of past)) (λ initrd. Ok (record { section = section_view section; main = file; initrd = initrd } ∷ [])) (refused sound))

  pub kernel-found : (past : Option Past) (file : MappedFile) (other : Option MappedFile)
      → Told past (λ now. IsSound volume now → main now path ≡ Ok file) → Told past (λ now. IsSound volume now → initrd now ≡ Ok other)
      → Told past (λ now. IsSound volume now → kernel_planned volume (parts_of volume now) (section_view section) ≡ Ok (record { section = section_view section; main = file; initrd = other } ∷ []))
  unfolding kernel_planned
  kernel-found None file other found there = tt
  kernel-found (Some past) file other found there = λ sound.
      ap (λ (found : Result MappedFile model.PlanFault). kernel_by (section_view section) section.optional found (initrd (now_of past))) (ap (main (now_of past)) (sym same) ∙ found sound)
      ∙ ap (λ (initrd : Result (Option MappedFile) model.PlanFault). initrd >>= λ initrd. Ok (record { section = section_view section; main = file; initrd = initrd } ∷ [])) (there sound)

-- ---- the model's words

module _ (volume : Volume) (parts : Parts) where
  abbrev by_file : List ℕ → ℕ → Bool → Result MappedFile trees.TreeFault
  by_file path number file = require file NotFile >>= λ a. Ok (mapped_inode volume parts number)

  file-plan : (path : List ℕ) → IsFilePlan volume parts path
  unfolding file_planned file_inode
  file-plan path = record {
    check = check (find volume.layout parts path) refl;
    mapped = mapped (find volume.layout parts path);
  }
    where
      kind : (number : ℕ) (file : Bool) → require file (Tree path NotFile) ≡ passed (with_fault (path_fault path) (by_file path number file))
      kind number true = refl
      kind number false = refl

      check : (found : Result ℕ trees.TreeFault) → find volume.layout parts path ≡ found
          → (with_fault (path_fault path) found >>= λ number. require (is_file (parts.node number)) (Tree path NotFile))
          ≡ passed (with_fault (path_fault path) (found >>= λ number. by_file path number (is_file (parts.node number))))
      check (Ok number) is = kind number (is_file (parts.node number))
      check (Err fault) is = refl

      there : (number : ℕ) (file : Bool)
          → result_ok (with_fault (path_fault path) (by_file path number file)) ≡ option_map (mapped_inode volume parts) (if file then Some number else None)
      there number true = refl
      there number false = refl

      mapped : (found : Result ℕ trees.TreeFault)
          → result_ok (with_fault (path_fault path) (found >>= λ number. by_file path number (is_file (parts.node number))))
          ≡ option_map (mapped_inode volume parts) (option_and_then (λ number. if is_file (parts.node number) then Some number else None) (result_ok found))
      mapped (Ok number) = there number (is_file (parts.node number))
      mapped (Err fault) = refl

  optional-plan : (path : Option (List ℕ)) → IsOptionalPlan volume parts path
  optional-plan None = record { check = refl; mapped = λ file is. cc }
  optional-plan (Some path) =
      let plan = file-plan path in
      record {
        check = plan.check ∙ check (file_planned volume parts path);
        mapped = λ file is. ap (option_and_then some_file) (sym plan.mapped) ∙ mapped (file_planned volume parts path) file is;
      }
    where
      check : (file : Result MappedFile model.PlanFault) → passed file ≡ passed (file >>= λ file. Ok (some_file file))
      check (Ok file) = refl
      check (Err fault) = refl

      mapped : (planned : Result MappedFile model.PlanFault) (file : Option MappedFile) → (planned >>= λ file. Ok (some_file file)) ≡ Ok file
          → option_and_then some_file (result_ok planned) ≡ file
      mapped (Ok main) file is = cc
      mapped (Err fault) file is = cc

  kernel-plan : (section : ConfSection) → IsKernelPlan volume parts section
  unfolding kernel_planned
  kernel-plan section =
      let main = file-plan section.path in
      let initrd = optional-plan section.initrd in
      record {
        check =
            ap (λ main. kernel_then section.optional main (if_there (file_check volume parts) section.initrd)) main.check
            ∙ ap (kernel_then section.optional (passed (file_planned volume parts section.path))) initrd.check
            ∙ check section.optional (file_planned volume parts section.path) (optional_planned volume parts section.initrd);
        mapped = λ sections is. mapped section.optional (file_planned volume parts section.path) (optional_planned volume parts section.initrd)
            (file_inode volume parts section.path) sections main.mapped initrd.mapped is;
      }
    where
      check : (optional : Bool) (main : Result MappedFile model.PlanFault) (initrd : Result (Option MappedFile) model.PlanFault)
          → kernel_then optional (passed main) (passed initrd) ≡ passed (kernel_by section optional main initrd)
      check optional (Ok main) (Ok initrd) = refl
      check optional (Ok main) (Err fault) = refl
      check true (Err (Missing path)) initrd = refl
      check false (Err fault) initrd = refl
      check true (Err model.NoImagesLeft) initrd = refl
      check true (Err (model.Header a b)) initrd = refl
      check true (Err (model.Address a b)) initrd = refl
      check true (Err (model.TooManySlots a b)) initrd = refl
      check true (Err (model.GeometryDiffers a b)) initrd = refl
      check true (Err (model.OtherIsBoot a)) initrd = refl
      check true (Err (model.NoSignature a)) initrd = refl
      check true (Err (model.MessageTooLong a)) initrd = refl
      check true (Err (model.Table a)) initrd = refl
      check true (Err (Tree a b)) initrd = refl

      mapped : (optional : Bool) (main : Result MappedFile model.PlanFault) (initrd : Result (Option MappedFile) model.PlanFault)
          (number : Option ℕ) (sections : List MappedSection)
          → result_ok main ≡ option_map (mapped_inode volume parts) number
          → ((file : Option MappedFile) → initrd ≡ Ok file → optional_file volume parts section.initrd ≡ file)
          → kernel_by section optional main initrd ≡ Ok sections → kernel_section volume parts section number ≡ sections
      mapped optional (Ok main) (Ok initrd) None sections there given is = cc
      mapped optional (Ok main) (Ok initrd) (Some number) sections there given is =
          let same : main ≡ mapped_inode volume parts number = cc in
          let all : record { section = section; main = main; initrd = initrd } ∷ [] ≡ sections = cc in
          ap (λ initrd. record { section = section; main = mapped_inode volume parts number; initrd = initrd } ∷ []) (given initrd refl)
          ∙ ap (λ main. record { section = section; main = main; initrd = initrd } ∷ []) (sym same)
          ∙ all
      mapped optional (Ok main) (Err fault) number sections there given is = cc
      mapped true (Err (Missing path)) initrd None sections there given is = cc
      mapped true (Err (Missing path)) initrd (Some number) sections there given is = cc
      mapped false (Err fault) initrd number sections there given is = cc
      mapped true (Err model.NoImagesLeft) initrd number sections there given is = cc
      mapped true (Err (model.Header a b)) initrd number sections there given is = cc
      mapped true (Err (model.Address a b)) initrd number sections there given is = cc
      mapped true (Err (model.TooManySlots a b)) initrd number sections there given is = cc
      mapped true (Err (model.GeometryDiffers a b)) initrd number sections there given is = cc
      mapped true (Err (model.OtherIsBoot a)) initrd number sections there given is = cc
      mapped true (Err (model.NoSignature a)) initrd number sections there given is = cc
      mapped true (Err (model.MessageTooLong a)) initrd number sections there given is = cc
      mapped true (Err (model.Table a)) initrd number sections there given is = cc
      mapped true (Err (Tree a b)) initrd number sections there given is = cc

pub file_plan_law : FilePlanLaw
file_plan_law volume parts path = file-plan volume parts path

pub optional_plan_law : OptionalPlanLaw
optional_plan_law volume parts path = optional-plan volume parts path

pub kernel_plan_law : KernelPlanLaw
kernel_plan_law volume parts section = kernel-plan volume parts section

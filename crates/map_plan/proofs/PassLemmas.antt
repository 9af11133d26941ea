-- Checks of values one after the other, until one is refused.
use Rattle.std.proofs.Common.{◌≡◌, ◌<◌, ◌≤◌, ℕ, zero, suc, ◌+◌, List, [], ◌∷◌, length, map, take, Option, Some, None, Result, Ok, Err, refl, sym, ap, subst, ◌∙◌, arith, add-one}
use Rattle.std.specs.Prelude.{slice_index_or}
use Rattle.std.specs.Option.{option_map}
use Rattle.std.proofs.lemmas.List.{take_all}
use Rattle.lilo_model.specs.Checks.{◌>>=◌}
use Rattle.lilo_model.specs.PlanRefusal as model
use Rattle.lilo_model.specs.PlanRefusal.{each_passes}
use Rattle.map_plan.specs.declared.fault.PlanFault.{PlanFault}
use Rattle.map_plan.specs.View.{IsRefusal, Refuses, Decides, Gives, plan_refusal}

-- a check that only refuses, last of several
pub unit_last : {F : Type 0} (found : Result (Unit {0}) F) → (found >>= λ a. Ok tt) ≡ found
unit_last (Ok done) = refl
unit_last (Err fault) = refl

module _ {X Y F : Type 0} (check : Y → Result (Unit {0}) F) (view : X → Y) where
  -- one that passes after some that passed
  pub passes-more :
      (xs : List X) (index : ℕ) (other : X) → index < length xs
      → each_passes check (map view (take index xs)) ≡ Ok tt → check (view (slice_index_or xs index other)) ≡ Ok tt
      → each_passes check (map view (take (suc index) xs)) ≡ Ok tt
  passes-more [] index other below before is = absurd (omega (arith, below))
  passes-more (x ∷ xs) zero other below before is = rw is refl
  passes-more (x ∷ xs) (suc index) other below before is =
      by (check (view x)) refl before (λ h. passes-more xs index other (omega (arith, below)) h is)
    where
      by : (first : Result (Unit {0}) F) → check (view x) ≡ first → (first >>= λ a. each_passes check (map view (take index xs))) ≡ Ok tt
          → (each_passes check (map view (take index xs)) ≡ Ok tt → each_passes check (map view (take (suc index) xs)) ≡ Ok tt)
          → (check (view x) >>= λ a. each_passes check (map view (take (suc index) xs))) ≡ Ok tt
      by (Ok done) e h more = rw e (more h)
      by (Err fault) e h more = cc

  pub passes-next :
      (xs : List X) (index : ℕ) (other : X) → index < length xs
      → each_passes check (map view (take index xs)) ≡ Ok tt → check (view (slice_index_or xs index other)) ≡ Ok tt
      → each_passes check (map view (take (index + 1) xs)) ≡ Ok tt
  passes-next xs index other below before is =
      subst (λ n. each_passes check (map view (take n xs)) ≡ Ok tt) (sym (add-one index)) (passes-more xs index other below before is)

  -- one that is refused is what is refused of all
  pub passes-stops :
      (xs : List X) (index : ℕ) (other : X) (fault : F) → index < length xs
      → each_passes check (map view (take index xs)) ≡ Ok tt → check (view (slice_index_or xs index other)) ≡ Err fault
      → each_passes check (map view xs) ≡ Err fault
  passes-stops [] index other fault below before is = absurd (omega (arith, below))
  passes-stops (x ∷ xs) zero other fault below before is = rw is refl
  passes-stops (x ∷ xs) (suc index) other fault below before is =
      by (check (view x)) refl before (λ h. passes-stops xs index other fault (omega (arith, below)) h is)
    where
      by : (first : Result (Unit {0}) F) → check (view x) ≡ first → (first >>= λ a. each_passes check (map view (take index xs))) ≡ Ok tt
          → (each_passes check (map view (take index xs)) ≡ Ok tt → each_passes check (map view xs) ≡ Err fault)
          → (check (view x) >>= λ a. each_passes check (map view xs)) ≡ Err fault
      by (Ok done) e h stops = rw e (stops h)
      by (Err other-fault) e h stops = cc

  -- all of them passed
  pub passes-all : (xs : List X) (index : ℕ) → length xs ≤ index → each_passes check (map view (take index xs)) ≡ Ok tt
      → each_passes check (map view xs) ≡ Ok tt
  passes-all xs index over is = ap (λ xs. each_passes check (map view xs)) (sym (take_all index xs over)) ∙ is

-- ---- by the refusals of a plan

module _ {X Y : Type 0} (check : Y → Result (Unit {0}) model.PlanFault) (view : X → Y) (xs : List X) (index : ℕ) (other : X) (fault : PlanFault) (below : index < length xs)
    (before : each_passes check (map view (take index xs)) ≡ Ok tt) where
  pub passes-refused : Refuses fault (check (view (slice_index_or xs index other))) → Refuses fault (each_passes check (map view xs))
  passes-refused is = by (plan_refusal fault) is
    where
      by : (refusal : Option model.PlanFault) → IsRefusal refusal (check (view (slice_index_or xs index other))) → IsRefusal refusal (each_passes check (map view xs))
      by None is = tt
      by (Some refusal) is = passes-stops check view xs index other refusal below before is

  pub passes-decided : Some (check (view (slice_index_or xs index other))) ≡ option_map Err (plan_refusal fault)
      → Some (each_passes check (map view xs)) ≡ option_map Err (plan_refusal fault)
  passes-decided is = by (plan_refusal fault) is
    where
      by : (refusal : Option model.PlanFault) → Some (check (view (slice_index_or xs index other))) ≡ option_map Err refusal
          → Some (each_passes check (map view xs)) ≡ option_map Err refusal
      by None is = cc
      by (Some refusal) is =
          let here : check (view (slice_index_or xs index other)) ≡ Err refusal = cc in
          ap Some (passes-stops check view xs index other refusal below before here)

-- ---- one check and then another

-- a check that is decided gives what it decides
pub decides-gives : (result : Result (Unit {0}) PlanFault) (given : Result (Unit {0}) model.PlanFault) → Decides result given → Gives (λ done. tt) result given
decides-gives (Ok done) given is = is
decides-gives (Err fault) given is = by (plan_refusal fault) is
  where
    by : (refusal : Option model.PlanFault) → Some given ≡ option_map Err refusal → IsRefusal refusal given
    by None is = tt
    by (Some refusal) is = cc

-- the first refusal is that of all
pub decides-first : (fault : PlanFault) (given next : Result (Unit {0}) model.PlanFault) → Some given ≡ option_map Err (plan_refusal fault)
    → Some (given >>= λ a. next) ≡ option_map Err (plan_refusal fault)
decides-first fault given next is = by (plan_refusal fault) is
  where
    by : (refusal : Option model.PlanFault) → Some given ≡ option_map Err refusal → Some (given >>= λ a. next) ≡ option_map Err refusal
    by None is = cc
    by (Some refusal) is =
        let here : given ≡ Err refusal = cc in
        ap (λ (given : Result (Unit {0}) model.PlanFault). Some (given >>= λ a. next)) here

-- what is refused of something that isn't is a failure of the disk or the end of memory
pub refuses-none : {A B : Type 0} (fault : PlanFault) (given : Result A model.PlanFault) (value : A) (other : Result B model.PlanFault)
    → Refuses fault given → given ≡ Ok value → Refuses fault other
refuses-none fault given value other refused is = by (plan_refusal fault) refused
  where
    by : (refusal : Option model.PlanFault) → IsRefusal refusal given → IsRefusal refusal other
    by None refused = tt
    by (Some refusal) refused = cc

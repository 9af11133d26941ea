-- A section has two names at most.
use Rattle.std.proofs.Common.{◌≡◌, ◌≤◌, ℕ, ◌+◌, ◌*◌, List, [], ◌∷◌, ◌++◌, length, Option, Some, None, refl, arith}
use Rattle.lilo_model.specs.Conf.{ConfSection}
use Rattle.lilo_model.specs.ConfLawful.{names_of_section}
use Rattle.lilo_model.specs.Plan.{plan_names}
use Rattle.map_plan.specs.declared.section.PlannedSection.{PlannedSection}
use Rattle.map_sectors.specs.declared.map.MapPlan.{MapPlan}
use Rattle.map_plan.specs.Names.{names_of}
use Rattle.map_plan.specs.Sections.{planned_view, planned_views}
use Rattle.map_sectors.specs.Map.{plan_view}

length-both : {X : Type 0} (xs ys : List X) → length (xs ++ ys) ≡ length xs + length ys
length-both [] ys = omega arith
length-both (x ∷ xs) ys = let others = length-both xs ys in omega (arith, others)

two-names : (section : ConfSection) → length (names_of_section section) ≤ 2
unfolding names_of_section
two-names section = by section.alias refl
  where
    by : (alias : Option (List ℕ)) → section.alias ≡ alias → length (names_of_section section) ≤ 2
    by None none = let one : length (names_of_section section) ≡ 1 = rw none refl in omega (arith, one)
    by (Some name) some = let two : length (names_of_section section) ≡ 2 = rw some refl in omega (arith, two)

names-most : (sections : List PlannedSection) → length (names_of (planned_views sections)) ≤ 2 * length sections
names-most [] = omega arith
names-most (section ∷ sections) =
    let here = two-names (planned_view section).section in
    let others = names-most sections in
    let all = length-both (names_of_section (planned_view section).section) (names_of (planned_views sections)) in
    omega (arith, here, others, all)

pub few-names : (plan : MapPlan) → length (plan_names (plan_view plan)) ≤ 65535
unfolding plan_names
few-names plan =
    let most = names-most plan.files.sections.items in
    let few = plan.few in
    omega (arith, most, few)

-- The names of a plan.
use Rattle.std.specs.Prelude.{ℕ, List, flat_map, Option, Result}
use Rattle.lilo_model.specs.Checks.{require}
use Rattle.lilo_model.specs.Conf.{has_name}
use Rattle.lilo_model.specs.ConfLawful.{names_of_section}
use Rattle.lilo_model.specs.Plan.{MappedSection}
use Rattle.lilo_model.specs.PlanRefusal.{PlanFault, Missing, if_there}

-- those of the sections that are mapped, in the order of the table
abbrev pub names_of : List MappedSection → List (List ℕ)
names_of sections = flat_map (λ mapped. names_of_section mapped.section) sections

-- a default is one of some names
abbrev pub default_among : Option (List ℕ) → List (List ℕ) → Result (Unit {0}) PlanFault
default_among wanted names = if_there (λ name. require (has_name name names) (Missing name)) wanted

-- Which plain value of the model each value of this crate stands for.
use Rattle.std.specs.Prelude.{ℕ, List, map, flat_map, Option, None, Some, Result, Ok, Err}
use Rattle.std.specs.Borrow.{Bor}
use Rattle.lilo_model.specs.Conf.{ConfParts, section_names}
use Rattle.lilo_model.specs.ConfRefusal.{ConfRefusal}
use Rattle.lilo_model.specs.ConfSettings as model
use Rattle.conf_settings.specs.View.{fault_view, settings_view}
use Rattle.conf_settings.specs.declared.reason.ConfFault.{ConfFault}
use Rattle.conf_settings.specs.declared.setting.Setting.{Setting}
use Rattle.conf_judge.specs.declared.parts.Parts.{Parts}

-- some lists of settings
abbrev pub lists_view : List (Bor (List Setting)) → List (List model.Setting)
lists_view lists = map (λ list. settings_view list.now) lists

-- the settings of each part
abbrev pub parts_view : Parts → ConfParts
parts_view parts = record { front = settings_view parts.front.now; sections = lists_view parts.sections.items }

-- the names of some sections
abbrev pub names_of : List (Bor (List Setting)) → List (List ℕ)
names_of sections = flat_map section_names (lists_view sections)

-- these names, or why they are refused
abbrev pub names_view : Option ConfFault → List (List ℕ) → Result (List (List ℕ)) (Option ConfRefusal)
names_view None names = Ok names
names_view (Some fault) names = Err (fault_view fault)

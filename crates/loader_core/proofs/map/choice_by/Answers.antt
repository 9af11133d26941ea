use Rattle.std.proofs.Common.{◌∙◌, ap, Some}
use Rattle.std.specs.Option.{option_map}
use Rattle.lilo_model.specs.Checks.{seen}
use Rattle.boot_map.specs.View.{extra_view, map_fault_view}
use Rattle.loader_core.proofs.MapLemmas.{choice_refused}
use Rattle.loader_core.proofs.map.choice_by.Goals as goal

pub returns-in-Some-Err : goal.returns-in-Some-Err
returns-in-Some-Err c = λ bytes said.
    let is = c.in-Some-Err.is ∙ ap (λ r. Some r) c.in-Some-Err.field-0-is in
    choice_refused bytes c.args.extra (map_fault_view c.in-Some-Err.field-0-0) (ap (option_map (seen extra_view map_fault_view)) is) said

use Rattle.std.proofs.Common.{Option, sym, subst}
use Rattle.std.specs.Option.{option_map}
use Rattle.lilo_model.specs.PlanRefusal.{if_there, message_check}
use Rattle.slot_lists.specs.Runs.{places_in}
use Rattle.file_runs.specs.declared.mapped.FileRuns.{FileRuns}
use Rattle.file_runs.specs.Mapped.{file_view}
use Rattle.map_plan.specs.View.{Decides}
use Rattle.map_plan.proofs.whole.check_some_message.Goals as goal

pub returns-in-Some : goal.returns-in-Some
returns-in-Some c =
    subst (λ (file : Option FileRuns). Decides c.check_message.result (if_there message_check (option_map file_view file)))
    (sym c.in-Some.is) (c.check_message.ensures (places_in c.in-Some.file.runs))

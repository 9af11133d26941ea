use Rattle.std.proofs.Common.{Option, sym, subst}
use Rattle.std.specs.Option.{option_map}
use Rattle.std.specs.Prelude.{IfSome}
use Rattle.lilo_model.specs.PlanRefusal.{if_there, mapped_file_check}
use Rattle.conf_settings.specs.View.{opt_view}
use Rattle.file_runs.specs.declared.mapped.FileRuns.{FileRuns}
use Rattle.file_runs.specs.Mapped.{file_view}
use Rattle.map_plan.specs.Named.{LiesOnDisk}
use Rattle.map_plan.specs.Sound.{machine_for}
use Rattle.map_plan.specs.View.{Decides}
use Rattle.map_plan.proofs.address.check_optional_addresses.Goals as goal

pub returns-in-Some-clause-decided : goal.returns-in-Some-clause-decided
returns-in-Some-clause-decided g c config named =
    subst
    (λ (file : Option FileRuns). IfSome (option_map file_view file) (LiesOnDisk c.args.volume.now.span.disk)
    → Decides c.check_file_addresses.result
    (if_there (mapped_file_check config (machine_for c.args.volume.now) (opt_view c.args.option)) (option_map file_view file)))
    (sym c.in-Some.is) (c.check_file_addresses.ensures.decided config named)

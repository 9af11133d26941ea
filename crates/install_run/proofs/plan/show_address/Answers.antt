use Rattle.std.specs.Prelude.{◌++◌, codes}
use Rattle.lilo_model.specs.ConfOptions.{opt_name}
use Rattle.lilo_model.specs.PlanRefusal.{address_text}
use Rattle.conf_settings.specs.View.{opt_view}
use Rattle.sector_address.specs.View.{address_fault_view}
use Rattle.stream_trait.proofs.ShowsLemmas.{shows_join, shows_same}
use Rattle.install_run.proofs.TextLemmas.{end_joined}
use Rattle.install_run.proofs.plan.show_address.Goals as goal

pub returns-clause-shown : goal.returns-clause-shown
returns-clause-shown g c =
    let name = opt_name (opt_view c.args.option) in
    let end = address_text (address_fault_view c.args.fault) ++ codes "\n" in
    shows_same _ _ _ _ (end_joined (codes "address: " ++ name) (address_text (address_fault_view c.args.fault)) (codes "\n"))
    (shows_join _ _ _ (codes "address: " ++ name) end
    (shows_join _ _ _ (codes "address: ") name c.put.ensures.shown (rw c.name.ensures.name at c.put-2.ensures.shown)) c.show_end.ensures.shown)

use Rattle.std.specs.Prelude.{◌++◌, codes}
use Rattle.lilo_model.specs.ConfOptions.{opt_name}
use Rattle.conf_settings.specs.View.{opt_view}
use Rattle.stream_trait.proofs.ShowsLemmas.{shows_join}
use Rattle.install_run.proofs.refusal.show_fault.Goals as goal

pub returns-in-NotApart-clause-shown : goal.returns-in-NotApart-clause-shown
returns-in-NotApart-clause-shown g c =
    let name = opt_name (opt_view c.in-NotApart.option) in
    rw c.in-NotApart.is
    (shows_join _ _ _ (codes "address: " ++ name) (codes " is not apart\n")
    (shows_join _ _ _ (codes "address: ") name c.put-in-NotApart.ensures.shown (rw c.name.ensures.name at c.put-in-NotApart-2.ensures.shown)) c.put-in-NotApart-3.ensures.shown)

pub returns-in-Memory-clause-shown : goal.returns-in-Memory-clause-shown
returns-in-Memory-clause-shown g c = rw c.in-Memory.is c.put-in-Memory.ensures.shown

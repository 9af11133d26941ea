use Rattle.std.specs.Prelude.{◌++◌, decimal}
use Rattle.lilo_model.specs.ConfOptions.{opt_name}
use Rattle.conf_settings.specs.View.{opt_view}
use Rattle.stream_trait.proofs.ShowsLemmas.{shows_join, shows_same}
use Rattle.install_run.proofs.TextLemmas.{three_joined}
use Rattle.install_run.proofs.plan.show_option.Goals as goal

pub returns-clause-shown : goal.returns-clause-shown
returns-clause-shown g c =
    let name = opt_name (opt_view c.args.option) in
    let front = c.args.text.now ++ name in
    shows_same _ _ _ _ (three_joined front c.args.middle.now (decimal c.args.number) c.args.end.now)
    (shows_join _ _ _ front (c.args.middle.now ++ decimal c.args.number ++ c.args.end.now)
    (shows_join _ _ _ c.args.text.now name c.put.ensures.shown (rw c.name.ensures.name at c.put-2.ensures.shown)) c.show_numbered.ensures.shown)

use Rattle.std.specs.Prelude.{◌++◌, decimal}
use Rattle.stream_trait.proofs.ShowsLemmas.{shows_join}
use Rattle.install_run.proofs.text.show_numbered.Goals as goal

pub returns-clause-shown : goal.returns-clause-shown
returns-clause-shown g c =
    shows_join _ _ _ (c.args.text.now ++ decimal c.args.number) c.args.end.now
    (shows_join _ _ _ c.args.text.now (decimal c.args.number) c.put.ensures.shown c.show_number.ensures.shown) c.put-2.ensures.shown

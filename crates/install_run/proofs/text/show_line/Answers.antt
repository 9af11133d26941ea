use Rattle.std.specs.Prelude.{◌++◌, codes}
use Rattle.stream_trait.proofs.ShowsLemmas.{shows_join}
use Rattle.install_run.proofs.text.show_line.Goals as goal

pub returns-clause-shown : goal.returns-clause-shown
returns-clause-shown g c =
    shows_join _ _ _ (c.args.text.now ++ c.args.end.now) (codes "\n")
    (shows_join _ _ _ c.args.text.now c.args.end.now c.put.ensures.shown c.put-2.ensures.shown) c.put-3.ensures.shown

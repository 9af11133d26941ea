use Rattle.std.specs.Prelude.{◌++◌, codes}
use Rattle.stream_trait.proofs.ShowsLemmas.{shows_join}
use Rattle.lilo_run.proofs.conf.say_path.Goals as goal

pub returns-clause-shown : goal.returns-clause-shown
returns-clause-shown g c =
    shows_join _ _ _ (c.args.text.now ++ c.args.path.now) (codes "\n")
    (shows_join _ _ _ c.args.text.now c.args.path.now c.put.ensures.shown c.put-2.ensures.shown) c.put-3.ensures.shown

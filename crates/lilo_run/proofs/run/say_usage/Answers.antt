use Rattle.std.specs.Prelude.{◌++◌, codes}
use Rattle.stream_trait.proofs.ShowsLemmas.{shows_join}
use Rattle.lilo_run.proofs.run.say_usage.Goals as goal

pub returns-clause-shown : goal.returns-clause-shown
returns-clause-shown g c =
    shows_join _ _ _ (codes "lilo: usage: " ++ c.args.word.now) (codes "\n")
    (shows_join _ _ _ (codes "lilo: usage: ") c.args.word.now c.put.ensures.shown (rw (← c.as_bytes.ensures.value) c.put-2.ensures.shown))
    c.put-3.ensures.shown

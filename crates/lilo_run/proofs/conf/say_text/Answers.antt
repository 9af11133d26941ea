-- The line is that of the refusal.
use Rattle.std.proofs.Common.{sym, ◌∙◌}
use Rattle.std.specs.Prelude.{◌++◌, codes}
use Rattle.stream_trait.proofs.ShowsLemmas.{shows_join}
use Rattle.lilo_run.proofs.ConfLemmas.{text_shown}
use Rattle.lilo_run.proofs.conf.say_text.Goals as goal

pub returns-clause-shown : goal.returns-clause-shown
returns-clause-shown g c =
    let line = c.config_line.result.items in
    text_shown c.args.fault line _ _ (sym c.is_memory.ensures ∙ c.if-is_memory.false) c.config_line.ensures.line
    (shows_join _ _ _ (codes "lilo: config: " ++ line) (codes "\n")
    (shows_join _ _ _ (codes "lilo: config: ") line c.put.ensures.shown (rw c.as_slice.ensures.value at c.put-2.ensures.shown))
    c.put-3.ensures.shown)

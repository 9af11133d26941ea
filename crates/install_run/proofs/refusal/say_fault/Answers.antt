use Rattle.std.specs.Prelude.{codes}
use Rattle.stream_trait.proofs.ShowsLemmas.{shows_join}
use Rattle.install_run.specs.Texts.{fault_text}
use Rattle.install_run.proofs.refusal.say_fault.Goals as goal

pub returns-clause-shown : goal.returns-clause-shown
returns-clause-shown g c =
    shows_join _ _ _ (codes "lilo: ") (fault_text c.args.fault.now c.args.phase) c.put.ensures.shown c.show_fault.ensures.shown

use Rattle.minix_steps.proofs.StepLemmas.{steps_join}
use Rattle.minix_steps.proofs.ready.steps_join.Goals as goal

pub returns : goal.returns
returns g c = steps_join c.args.old.now c.args.mid.now c.args.new.now c.requires.ready c.requires.first c.requires.next

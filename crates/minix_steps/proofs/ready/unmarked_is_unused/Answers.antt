use Rattle.minix_steps.proofs.ReadyLemmas.{unmarked_unused}
use Rattle.minix_steps.proofs.ready.unmarked_is_unused.Goals as goal

pub returns : goal.returns
returns g c = unmarked_unused c.args.volume.now c.requires.ready c.args.zone c.requires.from c.requires.below c.requires.unmarked

use Rattle.minix_steps.proofs.ReadyLemmas.{quiet_ready}
use Rattle.minix_steps.proofs.ready.quiet_is_ready.Goals as goal

pub returns : goal.returns
returns g c = quiet_ready c.args.volume.now c.requires.quiet c.requires.sound

use Rattle.minix_steps.proofs.ReadyLemmas.{unmarked_unnamed}
use Rattle.minix_steps.proofs.ready.unmarked_is_unnamed.Goals as goal

pub returns : goal.returns
returns g c = unmarked_unnamed c.args.volume.now c.requires.ready c.args.number c.requires.some c.requires.there c.requires.unmarked

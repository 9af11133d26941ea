use Rattle.minix_turns.proofs.JoinedLemmas.{steps_unseen}
use Rattle.minix_turns.proofs.joined.steps_are_unseen.Goals as goal

pub returns : goal.returns
returns g c = steps_unseen c.args.old.now c.args.new.now c.requires.quiet c.requires.sound c.requires.steps

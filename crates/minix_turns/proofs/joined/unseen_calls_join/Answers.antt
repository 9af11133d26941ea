use Rattle.minix_turns.proofs.JoinedLemmas.{unseen_join}
use Rattle.minix_turns.proofs.joined.unseen_calls_join.Goals as goal

pub returns : goal.returns
returns g c = unseen_join c.args.old.now c.args.mid.now c.args.new.now c.requires.first c.requires.next

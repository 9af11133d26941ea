use Rattle.minix_turns.proofs.JoinedLemmas.{leads_then_unseen}
use Rattle.minix_turns.proofs.joined.path_stays_led.Goals as goal

pub returns : goal.returns
returns g c path found what first = leads_then_unseen c.args.old.now c.args.mid.now c.args.new.now path found what first c.requires.next

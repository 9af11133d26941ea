use Rattle.minix_turns.proofs.JoinedLemmas.{unseen_then_leads}
use Rattle.minix_turns.proofs.joined.path_is_led_after.Goals as goal

pub returns : goal.returns
returns g c path found what result = unseen_then_leads c.args.old.now c.args.mid.now c.args.new.now path found what result c.requires.first

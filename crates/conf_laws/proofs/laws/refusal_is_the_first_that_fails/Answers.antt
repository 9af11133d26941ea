use Rattle.conf_laws.proofs.Order.{order_law}
use Rattle.conf_laws.proofs.laws.refusal_is_the_first_that_fails.Goals as goal

pub returns : goal.returns
returns c = order_law

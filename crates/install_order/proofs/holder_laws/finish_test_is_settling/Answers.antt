use Rattle.install_order.proofs.Holder.{finish_law}
use Rattle.install_order.proofs.holder_laws.finish_test_is_settling.Goals as goal

pub returns : goal.returns
returns c = finish_law

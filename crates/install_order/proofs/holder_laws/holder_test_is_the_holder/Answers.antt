use Rattle.install_order.proofs.Holder.{holder_law}
use Rattle.install_order.proofs.holder_laws.holder_test_is_the_holder.Goals as goal

pub returns : goal.returns
returns c = holder_law

use Rattle.install_laws.proofs.ClearTest.{clear_test_law}
use Rattle.install_laws.proofs.laws.clear_test_is_clear.Goals as goal

pub returns : goal.returns
returns c = clear_test_law

use Rattle.install_laws.proofs.Writes.{writes_only_law}
use Rattle.install_laws.proofs.laws.unwritten_rest_is_a_writer_of_files.Goals as goal

pub returns : goal.returns
returns c = writes_only_law

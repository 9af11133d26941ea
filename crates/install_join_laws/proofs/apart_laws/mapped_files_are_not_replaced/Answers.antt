use Rattle.install_join_laws.proofs.Mapped.{mapped_apart_law}
use Rattle.install_join_laws.proofs.apart_laws.mapped_files_are_not_replaced.Goals as goal

pub returns : goal.returns
returns c = mapped_apart_law

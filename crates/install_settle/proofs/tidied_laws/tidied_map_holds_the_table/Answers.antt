use Rattle.install_settle.proofs.TidiedLemmas.{tidied_holds_law}
use Rattle.install_settle.proofs.tidied_laws.tidied_map_holds_the_table.Goals as goal

pub returns : goal.returns
returns c = tidied_holds_law

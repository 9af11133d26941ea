use Rattle.install_join_laws.proofs.Tables.{tables_law}
use Rattle.install_join_laws.proofs.apart_laws.device_lies_where_its_tables_stay.Goals as goal

pub returns : goal.returns
returns c = tables_law

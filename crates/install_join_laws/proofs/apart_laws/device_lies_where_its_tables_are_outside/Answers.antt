use Rattle.install_join_laws.proofs.Tables.{outside_tables_law}
use Rattle.install_join_laws.proofs.apart_laws.device_lies_where_its_tables_are_outside.Goals as goal

pub returns : goal.returns
returns c = outside_tables_law

use Rattle.map_again_laws.proofs.TableAgain.{table_again}
use Rattle.map_again_laws.proofs.laws.written_table_is_read.Goals as goal

pub returns : goal.returns
returns c = table_again

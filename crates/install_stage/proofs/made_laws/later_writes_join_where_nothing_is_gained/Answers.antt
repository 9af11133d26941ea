use Rattle.install_stage.proofs.After.{gains_join_law}
use Rattle.install_stage.proofs.made_laws.later_writes_join_where_nothing_is_gained.Goals as goal

pub returns : goal.returns
returns c = gains_join_law

use Rattle.install_stage_laws.proofs.Committed.{staged_tidies_law}
use Rattle.install_stage_laws.proofs.stage_laws.tidying_of_a_staged_map_leaves_what_is_meant.Goals as goal

pub returns : goal.returns
returns c = staged_tidies_law

use Rattle.install_stage_laws.proofs.Stays.{tidy_law}
use Rattle.install_stage_laws.proofs.stays_laws.tidying_leaves_what_is_meant.Goals as goal

pub returns : goal.returns
returns c = tidy_law

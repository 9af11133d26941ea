use Rattle.minix_reclaim.proofs.WasteLemmas.{waste_law}
use Rattle.minix_reclaim.proofs.laws.waste_is_what_a_survey_leaves.Goals as goal

pub returns : goal.returns
returns c = waste_law

use Rattle.minix_survey_laws.proofs.Seen.{seen_law}
use Rattle.minix_survey_laws.proofs.laws.seen_inodes_are_named.Goals as goal

pub returns : goal.returns
returns c = seen_law

use Rattle.minix_survey_laws.proofs.Paths.{named_law}
use Rattle.minix_survey_laws.proofs.laws.named_inodes_are_seen.Goals as goal

pub returns : goal.returns
returns c = named_law

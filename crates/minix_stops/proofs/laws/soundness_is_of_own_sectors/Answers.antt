use Rattle.minix_stops.proofs.OwnLemmas.{own_sectors_law, own_names_law}
use Rattle.minix_stops.proofs.laws.soundness_is_of_own_sectors.Goals as goal

pub returns-clause-both : goal.returns-clause-both
returns-clause-both c = own_sectors_law

pub returns-clause-names : goal.returns-clause-names
returns-clause-names c = own_names_law

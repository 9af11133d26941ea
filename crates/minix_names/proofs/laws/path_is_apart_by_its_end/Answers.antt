use Rattle.minix_names.proofs.ApartLaws.{apart_law}
use Rattle.minix_names.proofs.laws.path_is_apart_by_its_end.Goals as goal

pub returns : goal.returns
returns c = apart_law

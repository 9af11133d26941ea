use Rattle.map_laws.proofs.MeantFiles.{optional_file_law}
use Rattle.map_laws.proofs.laws.optional_file_is_mapped_where_it_counts.Goals as goal

pub returns : goal.returns
returns c = optional_file_law

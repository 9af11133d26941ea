use Rattle.map_laws.proofs.MeantFiles.{file_law}
use Rattle.map_laws.proofs.laws.kept_file_lies.Goals as goal

pub returns : goal.returns
returns c = file_law

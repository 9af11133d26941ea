use Rattle.map_laws.proofs.Accepted.{accepted_file_law}
use Rattle.map_laws.proofs.laws.accepted_file_lies.Goals as goal

pub returns : goal.returns
returns c = accepted_file_law

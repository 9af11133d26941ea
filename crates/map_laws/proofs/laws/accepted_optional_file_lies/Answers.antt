use Rattle.map_laws.proofs.Accepted.{accepted_optional_law}
use Rattle.map_laws.proofs.laws.accepted_optional_file_lies.Goals as goal

pub returns : goal.returns
returns c = accepted_optional_law

use Rattle.boot_laws.proofs.Steps.{content_law}
use Rattle.boot_laws.proofs.laws.listed_file_has_its_size.Goals as goal

pub returns : goal.returns
returns c = content_law

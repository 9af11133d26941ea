use Rattle.boot_laws.proofs.Steps.{place_law}
use Rattle.boot_laws.proofs.laws.whole_files_load_as_placed.Goals as goal

pub returns : goal.returns
returns c = place_law

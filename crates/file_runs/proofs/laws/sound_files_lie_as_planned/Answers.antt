use Rattle.file_runs.proofs.PlacesLemmas.{places_law}
use Rattle.file_runs.proofs.laws.sound_files_lie_as_planned.Goals as goal

pub returns : goal.returns
returns c = places_law

use Rattle.file_runs.proofs.MappedLemmas.{mapped_law}
use Rattle.file_runs.proofs.laws.sound_paths_are_mapped_as_planned.Goals as goal

pub returns : goal.returns
returns c = mapped_law

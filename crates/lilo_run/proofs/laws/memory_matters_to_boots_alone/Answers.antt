use Rattle.lilo_run.proofs.MemoryLemmas.{same_in_any_memory}
use Rattle.lilo_run.proofs.laws.memory_matters_to_boots_alone.Goals as goal

pub returns : goal.returns
returns c = same_in_any_memory

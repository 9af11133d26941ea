use Rattle.lilo_run.proofs.MemoryLemmas.{all_are_left}
use Rattle.lilo_run.proofs.laws.keys_matter_to_boots_alone.Goals as goal

pub returns : goal.returns
returns c = all_are_left

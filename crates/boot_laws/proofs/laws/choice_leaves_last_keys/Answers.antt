use Rattle.boot_laws.proofs.Steps.{last_keys_law}
use Rattle.boot_laws.proofs.laws.choice_leaves_last_keys.Goals as goal

pub returns : goal.returns
returns c = last_keys_law

use Rattle.conf_laws.proofs.Sample.{sample_law}
use Rattle.conf_laws.proofs.laws.a_config_is_lawful.Goals as goal

pub returns : goal.returns
returns c = sample_law

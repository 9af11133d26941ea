use Rattle.conf_laws.proofs.Lawful.{lawful_law}
use Rattle.conf_laws.proofs.laws.every_config_is_lawful.Goals as goal

pub returns : goal.returns
returns c = lawful_law

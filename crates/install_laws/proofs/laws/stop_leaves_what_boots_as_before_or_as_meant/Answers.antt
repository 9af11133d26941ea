use Rattle.install_laws.proofs.Headline.{headline_law}
use Rattle.install_laws.proofs.laws.stop_leaves_what_boots_as_before_or_as_meant.Goals as goal

pub returns : goal.returns
returns c = headline_law

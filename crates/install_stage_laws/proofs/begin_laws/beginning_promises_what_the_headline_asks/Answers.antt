use Rattle.install_stage_laws.proofs.Spared.{begins_law}
use Rattle.install_stage_laws.proofs.begin_laws.beginning_promises_what_the_headline_asks.Goals as goal

pub returns : goal.returns
returns c = begins_law

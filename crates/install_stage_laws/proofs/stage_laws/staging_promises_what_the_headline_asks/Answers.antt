use Rattle.install_stage_laws.proofs.Sectors.{stages_law}
use Rattle.install_stage_laws.proofs.stage_laws.staging_promises_what_the_headline_asks.Goals as goal

pub returns : goal.returns
returns c = stages_law

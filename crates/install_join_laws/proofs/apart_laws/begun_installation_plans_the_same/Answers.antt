use Rattle.install_join_laws.proofs.Surveyed.{begun_plans_law}
use Rattle.install_join_laws.proofs.apart_laws.begun_installation_plans_the_same.Goals as goal

pub returns : goal.returns
returns c = begun_plans_law

use Rattle.install_join_laws.proofs.Plans.{settled_plan_law}
use Rattle.install_join_laws.proofs.apart_laws.settled_configuration_plans_the_same.Goals as goal

pub returns : goal.returns
returns c = settled_plan_law

use Rattle.install_join_laws.proofs.Stays.{kept_devices_law}
use Rattle.install_join_laws.proofs.apart_laws.devices_that_stay_are_apart.Goals as goal

pub returns : goal.returns
returns c = kept_devices_law

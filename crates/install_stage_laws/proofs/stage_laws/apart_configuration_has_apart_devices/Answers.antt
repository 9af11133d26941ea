use Rattle.install_stage_laws.proofs.Devices.{apart_devices_law}
use Rattle.install_stage_laws.proofs.stage_laws.apart_configuration_has_apart_devices.Goals as goal

pub returns : goal.returns
returns c = apart_devices_law

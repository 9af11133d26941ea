use Rattle.mbr_table.proofs.DeviceLemmas.{device_at-is, device_at-device_name}
use Rattle.mbr_table.proofs.laws.names.Goals as goal

pub returns : goal.returns
returns c = λ name device. (device_at-is name device, λ h. device_at-device_name name device h.0 h.1)

use Rattle.session_laws.proofs.Origins.{devices_at_entry_law}
use Rattle.session_laws.proofs.laws.outside_devices_are_those_at_the_entry.Goals as goal

pub returns : goal.returns
returns c = devices_at_entry_law

use Rattle.install_stage_laws.proofs.Held.{staged_held_law}
use Rattle.install_stage_laws.proofs.stage_laws.staged_image_is_held.Goals as goal

pub returns : goal.returns
returns c = staged_held_law

use Rattle.install_stage_laws.proofs.Held.{seen_held_law}
use Rattle.install_stage_laws.proofs.stage_laws.image_seen_as_before_is_held.Goals as goal

pub returns : goal.returns
returns c = seen_held_law

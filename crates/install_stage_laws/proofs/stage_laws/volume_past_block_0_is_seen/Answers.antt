use Rattle.install_stage_laws.proofs.Committed.{sectors_seen_law}
use Rattle.install_stage_laws.proofs.stage_laws.volume_past_block_0_is_seen.Goals as goal

pub returns : goal.returns
returns c = sectors_seen_law

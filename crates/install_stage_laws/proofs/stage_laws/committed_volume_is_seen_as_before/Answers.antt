use Rattle.install_stage_laws.proofs.Committed.{commit_seen_law}
use Rattle.install_stage_laws.proofs.stage_laws.committed_volume_is_seen_as_before.Goals as goal

pub returns : goal.returns
returns c = commit_seen_law

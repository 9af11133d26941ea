use Rattle.install_stage_laws.proofs.Committed.{commit_holds_law}
use Rattle.install_stage_laws.proofs.stage_laws.committed_map_is_held.Goals as goal

pub returns : goal.returns
returns c = commit_holds_law

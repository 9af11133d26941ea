use Rattle.install_stage_laws.proofs.Apart.{apart_backup_law}
use Rattle.install_stage_laws.proofs.begin_laws.apart_backup_is_none_of_the_map.Goals as goal

pub returns : goal.returns
returns c = apart_backup_law

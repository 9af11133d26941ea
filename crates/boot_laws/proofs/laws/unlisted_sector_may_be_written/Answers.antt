use Rattle.boot_laws.proofs.Unlisted.{unlisted_law}
use Rattle.boot_laws.proofs.laws.unlisted_sector_may_be_written.Goals as goal

pub returns : goal.returns
returns c = unlisted_law

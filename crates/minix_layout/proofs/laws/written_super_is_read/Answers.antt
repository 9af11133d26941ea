use Rattle.minix_layout.proofs.Reading.{super_law}
use Rattle.minix_layout.proofs.laws.written_super_is_read.Goals as goal

pub returns : goal.returns
returns c = super_law

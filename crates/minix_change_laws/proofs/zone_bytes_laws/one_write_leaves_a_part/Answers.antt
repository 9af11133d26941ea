use Rattle.minix_change_laws.proofs.Part.{write_part_law}
use Rattle.minix_change_laws.proofs.zone_bytes_laws.one_write_leaves_a_part.Goals as goal

pub returns : goal.returns
returns c = write_part_law

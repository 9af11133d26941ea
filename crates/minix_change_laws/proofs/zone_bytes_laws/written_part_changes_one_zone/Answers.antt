use Rattle.minix_change_laws.proofs.Part.{part_law}
use Rattle.minix_change_laws.proofs.zone_bytes_laws.written_part_changes_one_zone.Goals as goal

pub returns : goal.returns
returns c = part_law

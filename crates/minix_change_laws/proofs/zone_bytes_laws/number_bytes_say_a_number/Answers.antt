use Rattle.minix_change_laws.proofs.Numbers.{number_bytes_law}
use Rattle.minix_change_laws.proofs.zone_bytes_laws.number_bytes_say_a_number.Goals as goal

pub returns : goal.returns
returns c = number_bytes_law

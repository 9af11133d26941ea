use Rattle.minix_steps.proofs.BitLemmas.{one_bit}
use Rattle.minix_steps.proofs.bit_laws.mark_is_one_bit.Goals as goal

pub returns : goal.returns
returns c bytes at value inside = one_bit bytes at value inside

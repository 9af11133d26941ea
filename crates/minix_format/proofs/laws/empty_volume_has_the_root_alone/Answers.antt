use Rattle.minix_format.proofs.FormatLemmas.{format_law}
use Rattle.minix_format.proofs.laws.empty_volume_has_the_root_alone.Goals as goal

pub returns : goal.returns
returns c = format_law

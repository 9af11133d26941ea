use Rattle.minix_change_laws.proofs.PartSample.{growth_sample_law}
use Rattle.minix_change_laws.proofs.zone_bytes_laws.directory_may_grow_in_each_way.Goals as goal

pub returns : goal.returns
returns c = growth_sample_law

use Rattle.minix_steps.proofs.MarkLaws.{one_zone_mark}
use Rattle.minix_steps.proofs.bit_laws.zone_mark_is_one_bit.Goals as goal

pub returns : goal.returns
returns c volume image zone value is from below long = one_zone_mark volume image zone value is from below long

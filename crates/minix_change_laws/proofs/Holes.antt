-- Entries in holes.
use Rattle.std.proofs.Common.{◌%◌, ◌∙◌, ap}
use Rattle.lilo_model.specs.MinixParts.{zone_bytes}
use Rattle.lilo_model.specs.MinixEntries.{entry_in, entries_per_block}
use Rattle.lilo_model.specs.MinixNames.{block, entry}
use Rattle.minix_change_laws.specs.GrowthLaws.{HoleLaw}
use Rattle.minix_change_laws.proofs.Zeros.{entry-zeros}

pub hole_law : HoleLaw
unfolding entry block
hole_law super parts directory place hole =
    ap (λ zone. (entry_in super.kind (zone_bytes parts zone) (place % entries_per_block super.kind)).inode) hole
    ∙ entry-zeros super.kind (place % entries_per_block super.kind)

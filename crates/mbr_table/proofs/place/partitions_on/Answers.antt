use Rattle.std.proofs.Common.{arith}
use Rattle.mbr_table.proofs.ListedLemmas.{AreListed-append}
use Rattle.mbr_table.proofs.place.partitions_on.Goals as goal

pub returns-clause-listed : goal.returns-clause-listed
returns-clause-listed g c =
    rw c.joined.ensures
    (AreListed-append c.args.disk.disk c.args.disk.size 1 5 64 c.in_ok-primary.primary.items c.in_ok-logical.logical.items
    (omega arith) (omega arith) c.in_ok-primary.ensures.listed c.in_ok-logical.ensures.listed)

-- A table that is refused ends the search of its disk.
use Rattle.std.proofs.Common.{rules, refl}
use Rattle.sector_address.specs.Machine.{machine_of}
use Rattle.minix_search.proofs.SearchLemmas.{on_refused}
use Rattle.minix_search.proofs.search.volume_in_table.Goals as goal

pub returns-else-has_no_table-clause-volume : goal.returns-else-has_no_table-clause-volume
returns-else-has_no_table-clause-volume g c =
    on_refused _ _ (machine_of g.D.Disks c.args.disks.now) c.args.disk _ refl
    (search rules) c.in-Err.ensures.partitions

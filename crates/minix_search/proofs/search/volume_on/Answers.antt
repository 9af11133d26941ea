-- A disk as a whole ends the search, or its partitions do.
use Rattle.std.proofs.Common.{rules}
use Rattle.sector_address.specs.Machine.{machine_of}
use Rattle.minix_search.proofs.SearchLemmas.{on_whole, on_partitions}
use Rattle.minix_search.proofs.search.volume_on.Goals as goal

pub returns-then-branch-clause-volume : goal.returns-then-branch-clause-volume
returns-then-branch-clause-volume g c =
    let count = c.size-count in
    on_whole _ (machine_of g.D.Disks c.args.disks.now) c.args.disk count.result count.ensures.size
    (search rules) (rw (c.if-branch.true, count.ensures.size) at c.in_ok-holds_volume.ensures.holds)

pub returns-clause-volume : goal.returns-clause-volume
returns-clause-volume g c =
    let same = c.holds_volume.ensures.same in
    on_partitions _ _ (machine_of g.D.Disks c.args.disks.now) c.args.disk _ same.same_past (search rules)
    (rw (c.if-branch.false, c.size-count.ensures.size) at c.in_ok-holds_volume.ensures.holds)
    (rw (same.same_size, same.same_geometry) at c.volume_in_table.ensures.volume)

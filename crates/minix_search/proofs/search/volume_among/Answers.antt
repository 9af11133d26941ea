-- A partition ends the search, or it goes on after it.
use Rattle.std.proofs.Common.{rules}
use Rattle.mbr_table.proofs.ToldLemmas.{same_twice}
use Rattle.minix_search.proofs.SearchLemmas.{no_partition, partition_found, partition_refused, partition_passed, partitions_passed}
use Rattle.minix_search.proofs.search.volume_among.Goals as goal

pub returns-in-Ok-Some-clause-volume : goal.returns-in-Ok-Some-clause-volume
returns-in-Ok-Some-clause-volume g c =
    partition_found _ _ c.args.disk c.args.partitions.now c.loop-partition.partition-index no_partition _ c.loop-partition-test.true
    c.loop-partition.invariant.same.same_past c.loop-partition.invariant.left (rw c.in-Ok-Some.field-0-is at c.in-Ok-Some.ensures.volume)

pub returns-in-Err-clause-volume : goal.returns-in-Err-clause-volume
returns-in-Err-clause-volume g c =
    partition_refused _ _ c.args.disk c.args.partitions.now c.loop-partition.partition-index no_partition _ c.loop-partition-test.true
    c.loop-partition.invariant.same.same_past c.loop-partition.invariant.left c.in-Err.ensures.volume

pub loop-partition-preserved : goal.loop-partition-preserved
loop-partition-preserved g c = record {
  left =
      partition_passed _ _ c.args.disk c.args.partitions.now c.loop-partition.partition-index no_partition c.loop-partition-test.true
      c.loop-partition.invariant.same.same_past c.loop-partition.invariant.left (rw c.in-Ok-None.field-0-is at c.in-Ok-None.ensures.volume);
  same = same_twice _ _ _ _ _ _ _ c.loop-partition.invariant.same c.volume_at.ensures.same;
  later = search rules;
}

pub returns-clause-volume : goal.returns-clause-volume
returns-clause-volume g c = partitions_passed _ c.args.disk c.args.partitions.now c.loop-partition.partition-index (search rules) c.loop-partition.invariant.left

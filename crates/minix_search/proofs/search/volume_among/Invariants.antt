-- Where the search of all partitions ends is where that of those that are left does.
use Rattle.std.proofs.Common.{◌≡◌, ◌≤◌, drop}
use Rattle.std.specs.Prelude.{find, Ok}
use Rattle.disk_trait.specs.Past.{Told}
use Rattle.disk_trait.specs.Calls.{SameOf}
use Rattle.lilo_model.specs.VolumeSearch.{searched_partitions, ends_search}
use Rattle.mbr_table.specs.View.{partitions_view}
use Rattle.minix_search.proofs.search.volume_among.Given as goal

abbrev pub invariant-loop-partition : goal.invariant-loop-partition
invariant-loop-partition g l =
    let disks = g.D.Disks in
    record {
      left :
          Told (disks.past l.fn.disks) (λ now. find (ends_search now) (searched_partitions l.disk (Ok (partitions_view l.partitions)))
          ≡ find (ends_search now) (searched_partitions l.disk (Ok (partitions_view (drop l.partition-index l.partitions)))));
      same : SameOf disks l.fn.disks l.disks;
      later : disks.faults l.fn.disks ≤ disks.faults l.disks;
    }

-- A disk ends the search, or it goes on with the next.
use Rattle.std.proofs.Common.{rules}
use Rattle.sector_address.specs.Machine.{machine_of}
use Rattle.mbr_table.proofs.ToldLemmas.{same_twice}
use Rattle.minix_search.proofs.SearchLemmas.{disk_found, disk_refused, disk_passed, disks_passed}
use Rattle.minix_search.proofs.search.first_volume.Goals as goal

pub returns-in-Ok-Some-clause-volume : goal.returns-in-Ok-Some-clause-volume
returns-in-Ok-Some-clause-volume g c =
    let same = c.loop-disk.invariant.same in
    disk_found _ (machine_of g.D.Disks c.args.disks.now) c.loop-disk.disk _ c.loop-disk-test.true
    c.loop-disk.invariant.left (rw (c.in-Ok-Some.field-0-is, same.same_past, same.same_size, same.same_geometry) at c.in-Ok-Some.ensures.volume)

pub returns-in-Err-clause-volume : goal.returns-in-Err-clause-volume
returns-in-Err-clause-volume g c =
    let same = c.loop-disk.invariant.same in
    disk_refused _ (machine_of g.D.Disks c.args.disks.now) c.loop-disk.disk _ c.loop-disk-test.true
    c.loop-disk.invariant.left (rw (same.same_past, same.same_size, same.same_geometry) at c.in-Err.ensures.volume)

pub loop-disk-preserved : goal.loop-disk-preserved
loop-disk-preserved g c =
    let same = c.loop-disk.invariant.same in
    record {
      left =
          disk_passed _ (machine_of g.D.Disks c.args.disks.now) c.loop-disk.disk c.loop-disk-test.true
          c.loop-disk.invariant.left (rw (c.in-Ok-None.field-0-is, same.same_past, same.same_size, same.same_geometry) at c.in-Ok-None.ensures.volume);
      same = same_twice _ _ _ _ _ _ _ same c.volume_on.ensures.same;
      later = search rules;
    }

pub returns-clause-volume : goal.returns-clause-volume
returns-clause-volume g c =
    disks_passed _ (machine_of g.D.Disks c.args.disks.now) c.loop-disk.disk (search rules)
    c.loop-disk.invariant.left

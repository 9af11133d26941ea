use Rattle.std.proofs.Common.{◌≡◌, map, take}
use Rattle.disk_trait.specs.MemDisks.{zero_disk}
use Rattle.disk_trait.proofs.mem_disks.zero_disks.Given as goal

abbrev pub invariant-loop-disk : goal.invariant-loop-disk
invariant-loop-disk l = l.made.items ≡ map zero_disk (take l.disk-index l.disks)

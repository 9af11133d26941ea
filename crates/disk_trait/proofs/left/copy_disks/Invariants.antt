use Rattle.std.proofs.Common.{◌≡◌, take}
use Rattle.disk_trait.proofs.left.copy_disks.Given as goal

abbrev pub invariant-loop-disk : goal.invariant-loop-disk
invariant-loop-disk l = l.made.items ≡ take l.disk-index l.disks

use Rattle.file_disks.proofs.Disks.{DurableTo}
use Rattle.file_disks.proofs.file_disks.FileDisks.is_durable.Given as goal

-- each before this one is durable
abbrev pub invariant-loop-disk : goal.invariant-loop-disk
invariant-loop-disk g l = DurableTo l.disk l.self.disks

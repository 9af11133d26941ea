use Rattle.std.proofs.Common.{◌≡◌, drop}
use Rattle.std.specs.Prelude.{find, ◌==◌}
use Rattle.lilo_model.specs.Partitions as model
use Rattle.mbr_table.specs.View.{partitions_view}
use Rattle.mbr_table.proofs.place.numbered.Given as goal

-- the first of the partitions that are left is the first of all
abbrev pub invariant-loop-partition : goal.invariant-loop-partition
invariant-loop-partition l =
    find (λ (p : model.Partition). p.number == l.number) (partitions_view l.partitions)
    ≡ find (λ (p : model.Partition). p.number == l.number) (partitions_view (drop l.partition-index l.partitions))

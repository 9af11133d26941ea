-- What is known of partitions that are listed, whatever a disk holds.
use Rattle.std.specs.Prelude.{◌≡◌, ◌<◌, ◌≤◌, ℕ, ◌+◌, List, map, All}
use Rattle.std.specs.List.Sorted.{IsStrictlyIncreasing}
use Rattle.disk_trait.specs.declared.disks.Span.{Span}
use Rattle.mbr_table.specs.declared.partition.Partition.{Partition}

-- a disk of this size as a whole
abbrev pub disk_span : ℕ → ℕ → Span
disk_span disk size = record { disk = disk; start = 0; count = size }

-- the span lies on a disk of this size, and has a sector
pub record IsOnDisk (disk size : ℕ) (span : Span) : Type 0 where
  pub on : span.disk ≡ disk
  pub some : 1 ≤ span.count
  pub ends : span.start + span.count ≤ size

-- the partition's number is one of those from low on that are below high
pub record IsNumbered (low high : ℕ) (partition : Partition) : Type 0 where
  pub least : low ≤ partition.number
  pub below : partition.number < high

-- the partitions lie on a disk of this size, and their numbers rise from low on and are below high
pub record AreListed (disk size low high : ℕ) (partitions : List Partition) : Type 0 where
  pub spans : All (λ partition. IsOnDisk disk size partition.span) partitions
  pub numbers : All (λ partition. IsNumbered low high partition) partitions
  pub rising : IsStrictlyIncreasing (map (λ partition. partition.number) partitions)

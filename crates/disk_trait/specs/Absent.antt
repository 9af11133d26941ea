-- What is said of a disk that isn't there.
use Rattle.std.proofs.Common.{lit≤}
use Rattle.disk_trait.specs.declared.geometry.Geometry.{Geometry}

-- 16 heads of 63 sectors
abbrev pub absent_geometry : Geometry
absent_geometry = record { heads = 16; sectors = 63; some_heads = lit≤ tt; few_heads = lit≤ tt; some_sectors = lit≤ tt; few_sectors = lit≤ tt }

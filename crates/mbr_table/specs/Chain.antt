-- The chain of tables inside an extended partition.
use Rattle.std.specs.Prelude.{ℕ, List, Some}
use Rattle.lilo_model.specs.Disks.{Image}
use Rattle.lilo_model.specs.Partitions.{linked_sector, chain_from}
use Rattle.mbr_table.specs.declared.chain.Chain.{Chain}

-- the sectors of a chain's first tables, at most so many
abbrev pub first_tables : Image → Chain → ℕ → List ℕ
first_tables now chain most =
    chain_from (linked_sector (now chain.disk.disk) chain.disk.size chain.outer) most (Some chain.outer)

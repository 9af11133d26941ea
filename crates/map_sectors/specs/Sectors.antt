-- Some of the sectors of a map.
use Rattle.std.specs.Prelude.{ℕ, List, ◌∷◌, ◌++◌, drop, length, replicate, Option}
use Rattle.lilo_model.specs.Conf.{Config}
use Rattle.lilo_model.specs.Disks.{DiskSector, Machine}
use Rattle.lilo_model.specs.Plan.{MappedFile, MappedSection, Plan, chain_for, extra_sectors, file_sectors, optional_sectors, plan_entries, sectors_after}
use Rattle.lilo_model.specs.Plan.{sectors_of_table}

-- those of its main file and of its initial ramdisk, at their places
abbrev pub sectors_of_files : Config → Machine → DiskSector → MappedFile → Option MappedFile → List DiskSector → List (List ℕ)
sectors_of_files config machine zero_place main initrd places =
    file_sectors config machine zero_place main places
    ++ optional_sectors config machine zero_place initrd (drop (chain_for config machine main) places)

-- those after its options sector, at their places
abbrev pub sectors_after_options : Config → Machine → DiskSector → MappedSection → List DiskSector → List (List ℕ)
sectors_after_options config machine zero_place mapped places =
    extra_sectors mapped.section
    ++ sectors_of_files config machine zero_place mapped.main mapped.initrd (drop (length (extra_sectors mapped.section)) places)

-- those of a map after the sector of the default line
abbrev pub sectors_after_line : Plan → Machine → List DiskSector → List (List ℕ)
sectors_after_line plan machine places =
    sectors_of_table (plan_entries plan machine places) ++ (replicate 512 0 ∷ sectors_after plan machine places)

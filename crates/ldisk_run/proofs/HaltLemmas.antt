-- Refusals of the calls below, as this crate reports them.
use Rattle.std.proofs.Common.{◌≡◌, ℕ, Result, Ok, Err, IsErr, refl}
use Rattle.lilo_model.specs.Faults.{Rose}
use Rattle.lilo_model.specs.Checks.{◌>>=◌, with_fault}
use Rattle.lilo_model.specs.MinixFind as finds
use Rattle.lilo_model.specs.MinixParts as parts
use Rattle.lilo_model.specs.Partitions as partitions
use Rattle.mbr_table.specs.Gives as tables
use Rattle.mbr_table.specs.declared.table_fault.TableFault.{TableFault}
use Rattle.mbr_table.specs.declared.table_fault.TableFault.TheVariants as table_faults
use Rattle.minix_zones.specs.View as volumes
use Rattle.minix_zones.specs.declared.zone_fault.ZoneFault.{ZoneFault}
use Rattle.minix_zones.specs.declared.zone_fault.ZoneFault.TheVariants as zones
use Rattle.minix_tree.specs.View as trees
use Rattle.minix_tree.specs.declared.tree_fault.TreeFault.{TreeFault}
use Rattle.minix_tree.specs.declared.tree_fault.TreeFault.TheVariants as tree_faults
use Rattle.ldisk_run.specs.Run.{Halts, IsTableHalt, IsZoneHalt, IsTreeHalt, HasCause}
use Rattle.ldisk_run.specs.declared.halt.Halt.{Halt}
use Rattle.ldisk_run.specs.declared.halt.Halt.TheVariants.{Device, Refused}

-- ---- refusals of a chain of checks

refused_then :
    {A B F G : Type 0} (told : F → G) (found : Result A F) (next : A → Result B G) → IsErr found
    → IsErr (with_fault told found >>= next)
refused_then told (Ok value) next refused = absurd cc
refused_then told (Err fault) next refused = refl

pub halts_then :
    {A B F G : Type 0} (halt : Halt) (told : F → G) (found : Result A F) (next : A → Result B G) → Halts halt found
    → Halts halt (with_fault told found >>= next)
halts_then Device told found next halts = tt
halts_then Refused told found next halts = refused_then told found next halts

told_refused : {A F G : Type 0} (told : F → G) (found : Result A F) → IsErr found → IsErr (with_fault told found)
told_refused told (Ok value) refused = absurd cc
told_refused told (Err fault) refused = refl

pub halts_told :
    {A F G : Type 0} (halt : Halt) (told : F → G) (found : Result A F) → Halts halt found → Halts halt (with_fault told found)
halts_told Device told found halts = tt
halts_told Refused told found halts = told_refused told found halts

untold_refused : {A F G : Type 0} (told : F → G) (found : Result A F) → IsErr (with_fault told found) → IsErr found
untold_refused told (Ok value) refused = absurd cc
untold_refused told (Err fault) refused = refl

pub halts_untold :
    {A F G : Type 0} (halt : Halt) (told : F → G) (found : Result A F) → Halts halt (with_fault told found) → Halts halt found
halts_untold Device told found halts = tt
halts_untold Refused told found halts = untold_refused told found halts

behind_refused : {A B F : Type 0} (found : Result A F) (next : A → Result B F) → IsErr found → IsErr (found >>= next)
behind_refused (Ok value) next refused = absurd cc
behind_refused (Err fault) next refused = refl

pub halts_behind :
    {A B F : Type 0} (halt : Halt) (found : Result A F) (next : A → Result B F) → Halts halt found → Halts halt (found >>= next)
halts_behind Device found next halts = tt
halts_behind Refused found next halts = behind_refused found next halts

is_refused : {A F : Type 0} (halt : Halt) (found : Result A F) (fault : F) → halt ≡ Refused → found ≡ Err fault → Halts halt found
is_refused halt found fault is refused = rw (is, refused) refl

by_device : {A F : Type 0} (halt : Halt) (found : Result A F) → halt ≡ Device → Halts halt found
by_device halt found is = rw is tt

-- ---- partition tables

pub table_halts :
    {A : Type 0} (fault : TableFault) (halt : Halt) (found : Result A partitions.TableFault)
    → tables.Refuses fault found → IsTableHalt fault halt → Halts halt found
table_halts (table_faults.NoSignature sector) halt found refused is = is_refused halt found (partitions.NoSignature sector) is refused
table_halts (table_faults.OutsideDisk number) halt found refused is = is_refused halt found (partitions.OutsideDisk number) is refused
table_halts (table_faults.LoopedChain sector) halt found refused is = is_refused halt found (partitions.LoopedChain sector) is refused
table_halts table_faults.TooMany halt found refused is = is_refused halt found partitions.TooMany is refused
table_halts table_faults.UnknownDevice halt found refused is = is_refused halt found partitions.UnknownDevice is refused
table_halts (table_faults.NoPartition number) halt found refused is = is_refused halt found (partitions.NoPartition number) is refused
table_halts (table_faults.NoDisk disk) halt found refused is = is_refused halt found (partitions.NoDisk disk) is refused
table_halts table_faults.Device halt found refused is = by_device halt found is

-- ---- superblocks, inodes and zones

zone_refused :
    {A : Type 0} (fault : ZoneFault) (halt : Halt) (found : Result A parts.ZoneFault)
    → volumes.Refuses fault found → IsZoneHalt fault halt → Halts halt found
zone_refused (zones.Layout fault) halt found refused is = is_refused halt found _ is refused
zone_refused (zones.ZoneOutside zone) halt found refused is = is_refused halt found _ is refused
zone_refused zones.Device halt found refused is = by_device halt found is

pub zone_halts :
    {A : Type 0} (fault : ZoneFault) (halt : Halt) (found : Result A parts.ZoneFault)
    → volumes.Refuses fault found → IsZoneHalt fault halt → Halts halt found
zone_halts fault halt found refused is = zone_refused fault halt found refused is

pub zone_cause :
    (before now : ℕ) (fault : ZoneFault) (halt : Halt) → (fault ≡ zones.Device → Rose before now) → IsZoneHalt fault halt
    → HasCause before now halt
zone_cause before now (zones.Layout fault) halt rose is = rw is tt
zone_cause before now (zones.ZoneOutside zone) halt rose is = rw is tt
zone_cause before now zones.Device halt rose is = rw is (rose refl)

-- ---- paths and files

tree_zone :
    {A : Type 0} (fault : ZoneFault) (halt : Halt) (found : Result A finds.TreeFault)
    → trees.RefusesZone fault found → IsZoneHalt fault halt → Halts halt found
tree_zone (zones.Layout fault) halt found refused is = is_refused halt found _ is refused
tree_zone (zones.ZoneOutside zone) halt found refused is = is_refused halt found _ is refused
tree_zone zones.Device halt found refused is = by_device halt found is

pub tree_halts :
    {A : Type 0} (before now : ℕ) (fault : TreeFault) (halt : Halt) (found : Result A finds.TreeFault)
    → trees.HasTreeCause before now fault → trees.Refuses fault found → IsTreeHalt fault halt → Halts halt found
tree_halts before now (tree_faults.NotFound position) halt found cause refused is = is_refused halt found _ is refused
tree_halts before now (tree_faults.NotDirectory position) halt found cause refused is = is_refused halt found _ is refused
tree_halts before now tree_faults.NotFile halt found cause refused is = is_refused halt found _ is refused
tree_halts before now tree_faults.TooManyLinks halt found cause refused is = is_refused halt found _ is refused
tree_halts before now (tree_faults.BadEntry directory) halt found cause refused is = is_refused halt found _ is refused
tree_halts before now tree_faults.PathTooLong halt found cause refused is = is_refused halt found _ is refused
tree_halts before now (tree_faults.Zone fault) halt found cause refused is = tree_zone fault halt found refused is
tree_halts before now tree_faults.Memory halt found cause refused is = absurd cause

tree_zone_cause :
    (before now : ℕ) (fault : ZoneFault) (halt : Halt) → trees.HasTreeCause before now (tree_faults.Zone fault)
    → IsZoneHalt fault halt → HasCause before now halt
tree_zone_cause before now (zones.Layout fault) halt cause is = rw is tt
tree_zone_cause before now (zones.ZoneOutside zone) halt cause is = rw is tt
tree_zone_cause before now zones.Device halt cause is = rw is cause

pub tree_cause :
    (before now : ℕ) (fault : TreeFault) (halt : Halt) → trees.HasTreeCause before now fault → IsTreeHalt fault halt
    → HasCause before now halt
tree_cause before now (tree_faults.NotFound position) halt cause is = rw is tt
tree_cause before now (tree_faults.NotDirectory position) halt cause is = rw is tt
tree_cause before now tree_faults.NotFile halt cause is = rw is tt
tree_cause before now tree_faults.TooManyLinks halt cause is = rw is tt
tree_cause before now (tree_faults.BadEntry directory) halt cause is = rw is tt
tree_cause before now tree_faults.PathTooLong halt cause is = rw is tt
tree_cause before now (tree_faults.Zone fault) halt cause is = tree_zone_cause before now fault halt cause is
tree_cause before now tree_faults.Memory halt cause is = absurd cause

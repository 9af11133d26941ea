-- Partition tables, and where on a disk a device lies (IBM PC partition table, with the chain of tables inside an
-- extended partition). Sectors are counted from 0, entries and partitions from 1.
use Rattle.std.specs.Prelude.{ℕ, zero, suc, ◌+◌, ◌==◌, nat_eq, nat_le, nat_lt, Bool, not, ◌&&◌, ◌||◌, if◌then◌else◌, List, [], ◌∷◌, ◌++◌, length, find}
use Rattle.std.specs.Prelude.{slice_index, Option, None, Some, option_map, option_to_list, ok_or, Result, Ok}
use Rattle.std.specs.List.{list_any}
use Rattle.lilo_model.specs.Bytes.{number32}
use Rattle.lilo_model.specs.Checks.{◌>>=◌, require}
use Rattle.lilo_model.specs.BootSector.{is_bootable}
use Rattle.lilo_model.specs.Disks.{Image, Machine, Span}
use Rattle.lilo_model.specs.Devices as devices
use Rattle.lilo_model.specs.Refusal as refusals

-- what an entry of a table says, but for the cylinders, heads and sectors in it, which aren't used
pub record Entry : Type 0 where
  pub status : ℕ
  -- the type, 0 for no partition
  pub kind : ℕ
  -- the first sector
  pub start : ℕ
  -- how many sectors there are
  pub count : ℕ

-- a partition that is listed
pub record Partition : Type 0 where
  pub number : ℕ
  -- the type
  pub kind : ℕ
  pub span : Span

-- why a device can't be found, or the partitions of a disk can't be listed
pub data TableFault : Type 0 where
  -- the table in this sector doesn't end in 55 AA
  NoSignature : (sector : ℕ) → TableFault
  -- the partition of this number ends past the disk, or with 0 a table to which a link leads
  OutsideDisk : (number : ℕ) → TableFault
  -- a link leads to a table that was read before, in this sector
  LoopedChain : (sector : ℕ) → TableFault
  -- there are more logical partitions than have a number
  TooMany : TableFault
  -- the name is none of a device
  UnknownDevice : TableFault
  -- the disk has no partition of this number
  NoPartition : (number : ℕ) → TableFault
  -- there is no disk of this number
  NoDisk : (disk : ℕ) → TableFault
  -- the disk couldn't be read: no definition gives it, since no disk fails in them
  Device : TableFault

-- how a refusal of a command reports it
abbrev pub device_fault : TableFault → refusals.DeviceFault
device_fault (NoDisk disk) = refusals.NoDisk
device_fault (NoPartition number) = refusals.NoPartition
device_fault fault = refusals.BadTable

-- the device of a name, or else the name is unknown
unfoldable pub named_device : List ℕ → Result devices.Device TableFault
named_device name = ok_or (devices.device_at name) UnknownDevice

-- ---- one table

-- the entry in the 16 bytes at an offset
unfoldable pub entry_at : List ℕ → ℕ → Entry
entry_at bytes at = record {
  status = slice_index bytes at;
  kind = slice_index bytes (at + 4);
  start = number32 bytes (at + 8);
  count = number32 bytes (at + 12);
}

-- the four entries of a table
unfoldable pub entries_of : List ℕ → List Entry
entries_of bytes =
    entry_at bytes 0x1BE ∷ (entry_at bytes 0x1CE ∷ (entry_at bytes 0x1DE ∷ (entry_at bytes 0x1EE ∷ [])))

-- the entries of the table in a sector, which ends in 55 AA
unfoldable pub table_entries : ℕ → List ℕ → Result (List Entry) TableFault
table_entries sector bytes = do
  signed ← require (is_bootable bytes) (NoSignature sector)
  Ok (entries_of bytes)

-- whether an entry isn't empty
abbrev pub is_used : Entry → Bool
is_used entry = not (entry.kind == 0) && not (entry.count == 0)

-- whether a type is one of an extended partition
abbrev pub is_extended : ℕ → Bool
is_extended kind = kind == 0x05 || kind == 0x0F || kind == 0x85

-- whether an entry is an extended partition, which leads to a further table
unfoldable pub is_link : Entry → Bool
is_link entry = is_used entry && is_extended entry.kind

-- whether an entry is a partition that isn't extended
unfoldable pub is_plain : Entry → Bool
is_plain entry = is_used entry && not (is_extended entry.kind)

-- the first entry that leads to a further table
unfoldable pub link_of : List Entry → Option Entry
link_of entries = find is_link entries

-- the first entry that is another partition
unfoldable pub logical_of : List Entry → Option Entry
logical_of entries = find is_plain entries

-- ---- partitions

-- an entry as a partition of a disk of this size: its start counts from a sector, and it ends by the disk's end
unfoldable pub listed : ℕ → ℕ → ℕ → ℕ → Entry → Result Partition TableFault
listed size disk base number entry = do
  inside ← require (nat_le (base + entry.start + entry.count) size) (OutsideDisk number)
  Ok (record {
    number = number;
    kind = entry.kind;
    span = record { disk = disk; start = base + entry.start; count = entry.count };
  })

-- the partitions that entries are which aren't empty, where the first entry has this number
abbrev pub listed_from : ℕ → ℕ → ℕ → List Entry → Result (List Partition) TableFault
listed_from size disk number [] = Ok []
listed_from size disk number (entry ∷ entries) =
    if is_used entry
    then (listed size disk 0 number entry >>= λ first.
    listed_from size disk (number + 1) entries >>= λ others. Ok (first ∷ others))
    else listed_from size disk (number + 1) entries

-- ---- the chain of tables inside an extended partition

-- the sector to which the link of the table in a sector leads: it counts from the start of the outer extended
-- partition. There is none after a table past the disk's end.
unfoldable pub linked_sector : (ℕ → List ℕ) → ℕ → ℕ → ℕ → Option ℕ
linked_sector sectors size outer sector =
    if nat_lt sector size then option_map (λ entry. outer + entry.start) (link_of (entries_of (sectors sector))) else None

-- the sectors of a chain's tables, each the one to which the link of the one before leads, and at most so many
abbrev pub chain_from : (ℕ → Option ℕ) → ℕ → Option ℕ → List ℕ
chain_from linked zero at = []
chain_from linked (suc most) None = []
chain_from linked (suc most) (Some sector) = sector ∷ chain_from linked most (linked sector)

-- the entries of a table of the chain: it lies on the disk, and wasn't read before, as were the table in sector 0
-- and those that are earlier in the chain
unfoldable pub chain_entries : (ℕ → List ℕ) → ℕ → List ℕ → ℕ → Result (List Entry) TableFault
chain_entries sectors size earlier sector = do
  new ← require (not (list_any (nat_eq sector) (0 ∷ earlier))) (LoopedChain sector)
  inside ← require (nat_lt sector size) (OutsideDisk 0)
  table_entries sector (sectors sector)

-- the logical partition of a table of the chain, if there is one: the last number is 63
abbrev pub logical_at : ℕ → ℕ → ℕ → ℕ → Option Entry → Result (Option Partition) TableFault
logical_at size disk sector number None = Ok None
logical_at size disk sector number (Some entry) = do
  few ← require (nat_le number 63) TooMany
  partition ← listed size disk sector number entry
  Ok (Some partition)

-- the logical partitions of the chain's later tables, where the first has this number
abbrev pub logical_from : (ℕ → List ℕ) → ℕ → ℕ → ℕ → List ℕ → List ℕ → Result (List Partition) TableFault
logical_from sectors size disk number earlier [] = Ok []
logical_from sectors size disk number earlier (sector ∷ later) =
    chain_entries sectors size earlier sector >>= λ entries.
    logical_at size disk sector number (logical_of entries) >>= λ first.
    logical_from sectors size disk (number + length (option_to_list first)) (earlier ++ (sector ∷ [])) later >>= λ others.
    Ok (option_to_list first ++ others)

-- the sectors of the tables inside an extended partition that starts here. A chain that doesn't end comes back, and
-- the first table that was read before is among these, since there are no more tables than sectors.
unfoldable pub chain_tables : (ℕ → List ℕ) → ℕ → ℕ → List ℕ
chain_tables sectors size outer = chain_from (linked_sector sectors size outer) size (Some outer)

-- the logical partitions inside an extended one, if there is one
abbrev pub logical_partitions : (ℕ → List ℕ) → ℕ → ℕ → Option Entry → Result (List Partition) TableFault
logical_partitions sectors size disk None = Ok []
logical_partitions sectors size disk (Some outer) =
    logical_from sectors size disk 5 [] (chain_tables sectors size outer.start)

-- the partitions of a disk in order of number: those of the table in sector 0, 1 to 4, of which the first extended
-- one is followed, and the logical ones from 5 on
unfoldable pub partitions_of : Image → Machine → ℕ → Result (List Partition) TableFault
partitions_of image machine disk = do
  there ← require (not (machine.size_of disk == 0)) (NoDisk disk)
  entries ← table_entries 0 (image disk 0)
  primary ← listed_from (machine.size_of disk) disk 1 entries
  logical ← logical_partitions (image disk) (machine.size_of disk) disk (link_of entries)
  Ok (primary ++ logical)

-- ---- where a device lies

-- the span of the partition of a number
unfoldable pub numbered_span : ℕ → List Partition → Result Span TableFault
numbered_span number partitions =
    ok_or (option_map (λ partition. partition.span) (find (λ partition. partition.number == number) partitions))
    (NoPartition number)

-- the sectors of a disk that is there
abbrev pub whole_span : Machine → ℕ → Span
whole_span machine disk = record { disk = disk; start = 0; count = machine.size_of disk }

-- the sectors of a device: a whole disk, or one of its partitions
unfoldable pub span_of : Image → Machine → devices.Device → Result Span TableFault
span_of image machine device =
    require (not (machine.size_of device.disk == 0)) (NoDisk device.disk) >>= λ there.
    if device.partition == 0 then Ok (whole_span machine device.disk) else
    (partitions_of image machine device.disk >>= numbered_span device.partition)

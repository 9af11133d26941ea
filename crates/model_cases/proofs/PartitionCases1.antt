-- Cases of partition tables and of names of devices; tools/partition_cases.py writes this file.
use Rattle.std.proofs.Common.{◌≡◌, ◌∷◌, [], None, Some, Ok, Err, codes, refl}
use Rattle.std.specs.Fmt.{digits}
use Rattle.lilo_model.specs.BootSector.{is_bootable}
use Rattle.lilo_model.specs.Bytes.{number32}
use Rattle.lilo_model.specs.Devices.{disk_name, last_partition, partition_name, device_name, devices_of, named_devices, device_at, disk_number, device_number}
use Rattle.lilo_model.specs.Partitions.{NoSignature, OutsideDisk, LoopedChain, TooMany, NoPartition, NoDisk, named_device, entry_at, entries_of, table_entries, is_link, is_plain, link_of, logical_of, listed, linked_sector, chain_entries, chain_tables, partitions_of, numbered_span, span_of}
use Rattle.model_cases.specs.Sparse.{hex, patch_at, disks_of, disk_with, machine_of}

-- no table
pub case_1 : partitions_of (disks_of []) (machine_of (disk_with 9 16 63 ∷ [])) 0 ≡ Err (NoSignature 0)
unfolding disk_name last_partition partition_name device_name devices_of named_devices device_at disk_number device_number named_device entry_at entries_of table_entries is_link is_plain link_of logical_of listed linked_sector chain_entries chain_tables partitions_of numbered_span span_of is_bootable number32 digits
case_1 = refl

-- no disk
pub case_2 : partitions_of (disks_of []) (machine_of (disk_with 9 16 63 ∷ [])) 1 ≡ Err (NoDisk 1)
unfolding disk_name last_partition partition_name device_name devices_of named_devices device_at disk_number device_number named_device entry_at entries_of table_entries is_link is_plain link_of logical_of listed linked_sector chain_entries chain_tables partitions_of numbered_span span_of is_bootable number32 digits
case_2 = refl

-- a table with no partition
pub case_3 : partitions_of (disks_of (patch_at 0 0 510 (hex 2 0x55aa) ∷ [])) (machine_of (disk_with 9 16 63 ∷ [])) 0 ≡ Ok []
unfolding disk_name last_partition partition_name device_name devices_of named_devices device_at disk_number device_number named_device entry_at entries_of table_entries is_link is_plain link_of logical_of listed linked_sector chain_entries chain_tables partitions_of numbered_span span_of is_bootable number32 digits
case_3 = refl

-- a table with no signature
pub case_4 : partitions_of (disks_of (patch_at 0 0 446 (hex 16 0x00000000830000000100000002000000) ∷ [])) (machine_of (disk_with 900 16 63 ∷ [])) 0 ≡ Err (NoSignature 0)
unfolding disk_name last_partition partition_name device_name devices_of named_devices device_at disk_number device_number named_device entry_at entries_of table_entries is_link is_plain link_of logical_of listed linked_sector chain_entries chain_tables partitions_of numbered_span span_of is_bootable number32 digits
case_4 = refl

-- four partitions
pub case_5 : partitions_of (disks_of (patch_at 0 0 446 (hex 64 0x80000000830000000100000063000000000000008200000064000000320000000000000006000000f40100000100000000000000a5000000f5010000f3010000) ∷ patch_at 0 0 510 (hex 2 0x55aa) ∷ [])) (machine_of (disk_with 1000 16 63 ∷ [])) 0 ≡ Ok (record { number = 1; kind = 0x83; span = record { disk = 0; start = 1; count = 99 } } ∷ record { number = 2; kind = 0x82; span = record { disk = 0; start = 100; count = 50 } } ∷ record { number = 3; kind = 0x06; span = record { disk = 0; start = 500; count = 1 } } ∷ record { number = 4; kind = 0xa5; span = record { disk = 0; start = 501; count = 499 } } ∷ [])
unfolding disk_name last_partition partition_name device_name devices_of named_devices device_at disk_number device_number named_device entry_at entries_of table_entries is_link is_plain link_of logical_of listed linked_sector chain_entries chain_tables partitions_of numbered_span span_of is_bootable number32 digits
case_5 = refl

-- partitions with empty entries between
pub case_6 : partitions_of (disks_of (patch_at 0 0 446 (hex 64 0x00000000000000000100000009000000000000008300000005000000000000000000000083000000050000000700000000000000010000001400000001000000) ∷ patch_at 0 0 510 (hex 2 0x55aa) ∷ [])) (machine_of (disk_with 1000 16 63 ∷ [])) 0 ≡ Ok (record { number = 3; kind = 0x83; span = record { disk = 0; start = 5; count = 7 } } ∷ record { number = 4; kind = 0x01; span = record { disk = 0; start = 20; count = 1 } } ∷ [])
unfolding disk_name last_partition partition_name device_name devices_of named_devices device_at disk_number device_number named_device entry_at entries_of table_entries is_link is_plain link_of logical_of listed linked_sector chain_entries chain_tables partitions_of numbered_span span_of is_bootable number32 digits
case_6 = refl

-- a partition that ends with the disk
pub case_7 : partitions_of (disks_of (patch_at 0 0 446 (hex 16 0x000000008300000040000000b4010000) ∷ patch_at 0 0 510 (hex 2 0x55aa) ∷ [])) (machine_of (disk_with 500 16 63 ∷ [])) 0 ≡ Ok (record { number = 1; kind = 0x83; span = record { disk = 0; start = 64; count = 436 } } ∷ [])
unfolding disk_name last_partition partition_name device_name devices_of named_devices device_at disk_number device_number named_device entry_at entries_of table_entries is_link is_plain link_of logical_of listed linked_sector chain_entries chain_tables partitions_of numbered_span span_of is_bootable number32 digits
case_7 = refl

-- a partition that ends a sector later
pub case_8 : partitions_of (disks_of (patch_at 0 0 446 (hex 32 0x00000000830000000100000001000000000000008300000041000000b4010000) ∷ patch_at 0 0 510 (hex 2 0x55aa) ∷ [])) (machine_of (disk_with 500 16 63 ∷ [])) 0 ≡ Err (OutsideDisk 2)
unfolding disk_name last_partition partition_name device_name devices_of named_devices device_at disk_number device_number named_device entry_at entries_of table_entries is_link is_plain link_of logical_of listed linked_sector chain_entries chain_tables partitions_of numbered_span span_of is_bootable number32 digits
case_8 = refl

-- the highest numbers
pub case_9 : partitions_of (disks_of (patch_at 0 0 446 (hex 32 0x000000000000000000000000000000000000000083000000ffffffffffffffff) ∷ patch_at 0 0 510 (hex 2 0x55aa) ∷ [])) (machine_of (disk_with 500 16 63 ∷ [])) 0 ≡ Err (OutsideDisk 2)
unfolding disk_name last_partition partition_name device_name devices_of named_devices device_at disk_number device_number named_device entry_at entries_of table_entries is_link is_plain link_of logical_of listed linked_sector chain_entries chain_tables partitions_of numbered_span span_of is_bootable number32 digits
case_9 = refl

-- an empty entry past the disk
pub case_10 : partitions_of (disks_of (patch_at 0 0 446 (hex 48 0x000000000000000084030000840300000000000083000000840300000000000000000000830000000900000009000000) ∷ patch_at 0 0 510 (hex 2 0x55aa) ∷ [])) (machine_of (disk_with 500 16 63 ∷ [])) 0 ≡ Ok (record { number = 3; kind = 0x83; span = record { disk = 0; start = 9; count = 9 } } ∷ [])
unfolding disk_name last_partition partition_name device_name devices_of named_devices device_at disk_number device_number named_device entry_at entries_of table_entries is_link is_plain link_of logical_of listed linked_sector chain_entries chain_tables partitions_of numbered_span span_of is_bootable number32 digits
case_10 = refl

-- a logical partition
pub case_11 : partitions_of (disks_of (patch_at 0 0 446 (hex 16 0x000000000500000064000000e8030000) ∷ patch_at 0 0 510 (hex 2 0x55aa) ∷ patch_at 0 100 446 (hex 16 0x00000000830000000a00000014000000) ∷ patch_at 0 100 510 (hex 2 0x55aa) ∷ [])) (machine_of (disk_with 2000 16 63 ∷ [])) 0 ≡ Ok (record { number = 1; kind = 0x05; span = record { disk = 0; start = 100; count = 1000 } } ∷ record { number = 5; kind = 0x83; span = record { disk = 0; start = 110; count = 20 } } ∷ [])
unfolding disk_name last_partition partition_name device_name devices_of named_devices device_at disk_number device_number named_device entry_at entries_of table_entries is_link is_plain link_of logical_of listed linked_sector chain_entries chain_tables partitions_of numbered_span span_of is_bootable number32 digits
case_11 = refl

-- the third kind of extended partition, with an empty table
pub case_12 : partitions_of (disks_of (patch_at 0 0 446 (hex 16 0x00000000850000006400000032000000) ∷ patch_at 0 0 510 (hex 2 0x55aa) ∷ patch_at 0 100 510 (hex 2 0x55aa) ∷ [])) (machine_of (disk_with 300 16 63 ∷ [])) 0 ≡ Ok (record { number = 1; kind = 0x85; span = record { disk = 0; start = 100; count = 50 } } ∷ [])
unfolding disk_name last_partition partition_name device_name devices_of named_devices device_at disk_number device_number named_device entry_at entries_of table_entries is_link is_plain link_of logical_of listed linked_sector chain_entries chain_tables partitions_of numbered_span span_of is_bootable number32 digits
case_12 = refl

-- logical partitions, each link from the outer partition
pub case_13 : partitions_of (disks_of (patch_at 0 0 446 (hex 32 0x00000000830000000100000032000000000000000f00000064000000f4010000) ∷ patch_at 0 0 510 (hex 2 0x55aa) ∷ patch_at 0 100 446 (hex 32 0x0000000083000000010000000a0000000000000005000000140000001e000000) ∷ patch_at 0 100 510 (hex 2 0x55aa) ∷ patch_at 0 120 446 (hex 32 0x0000000082000000020000001400000000000000050000003c0000001e000000) ∷ patch_at 0 120 510 (hex 2 0x55aa) ∷ patch_at 0 160 446 (hex 16 0x00000000070000000100000005000000) ∷ patch_at 0 160 510 (hex 2 0x55aa) ∷ [])) (machine_of (disk_with 700 16 63 ∷ [])) 0 ≡ Ok (record { number = 1; kind = 0x83; span = record { disk = 0; start = 1; count = 50 } } ∷ record { number = 2; kind = 0x0f; span = record { disk = 0; start = 100; count = 500 } } ∷ record { number = 5; kind = 0x83; span = record { disk = 0; start = 101; count = 10 } } ∷ record { number = 6; kind = 0x82; span = record { disk = 0; start = 122; count = 20 } } ∷ record { number = 7; kind = 0x07; span = record { disk = 0; start = 161; count = 5 } } ∷ [])
unfolding disk_name last_partition partition_name device_name devices_of named_devices device_at disk_number device_number named_device entry_at entries_of table_entries is_link is_plain link_of logical_of listed linked_sector chain_entries chain_tables partitions_of numbered_span span_of is_bootable number32 digits
case_13 = refl

-- the link before the logical partition
pub case_14 : partitions_of (disks_of (patch_at 0 0 446 (hex 16 0x000000000500000064000000c8000000) ∷ patch_at 0 0 510 (hex 2 0x55aa) ∷ patch_at 0 100 446 (hex 32 0x000000000f0000001e0000000900000000000000830000000100000004000000) ∷ patch_at 0 100 510 (hex 2 0x55aa) ∷ patch_at 0 130 446 (hex 32 0x00000000050000003c0000000900000000000000830000000200000005000000) ∷ patch_at 0 130 510 (hex 2 0x55aa) ∷ patch_at 0 160 446 (hex 16 0x00000000830000000300000006000000) ∷ patch_at 0 160 510 (hex 2 0x55aa) ∷ [])) (machine_of (disk_with 400 16 63 ∷ [])) 0 ≡ Ok (record { number = 1; kind = 0x05; span = record { disk = 0; start = 100; count = 200 } } ∷ record { number = 5; kind = 0x83; span = record { disk = 0; start = 101; count = 4 } } ∷ record { number = 6; kind = 0x83; span = record { disk = 0; start = 132; count = 5 } } ∷ record { number = 7; kind = 0x83; span = record { disk = 0; start = 163; count = 6 } } ∷ [])
unfolding disk_name last_partition partition_name device_name devices_of named_devices device_at disk_number device_number named_device entry_at entries_of table_entries is_link is_plain link_of logical_of listed linked_sector chain_entries chain_tables partitions_of numbered_span span_of is_bootable number32 digits
case_14 = refl

-- further entries of a logical table
pub case_15 : partitions_of (disks_of (patch_at 0 0 446 (hex 16 0x000000000500000064000000c8000000) ∷ patch_at 0 0 510 (hex 2 0x55aa) ∷ patch_at 0 100 446 (hex 64 0x00000000830000000100000004000000000000008300000009000000040000000000000005000000280000000900000000000000050000005000000009000000) ∷ patch_at 0 100 510 (hex 2 0x55aa) ∷ patch_at 0 140 446 (hex 16 0x00000000820000000100000003000000) ∷ patch_at 0 140 510 (hex 2 0x55aa) ∷ patch_at 0 180 446 (hex 16 0x00000000070000000100000003000000) ∷ patch_at 0 180 510 (hex 2 0x55aa) ∷ [])) (machine_of (disk_with 400 16 63 ∷ [])) 0 ≡ Ok (record { number = 1; kind = 0x05; span = record { disk = 0; start = 100; count = 200 } } ∷ record { number = 5; kind = 0x83; span = record { disk = 0; start = 101; count = 4 } } ∷ record { number = 6; kind = 0x82; span = record { disk = 0; start = 141; count = 3 } } ∷ [])
unfolding disk_name last_partition partition_name device_name devices_of named_devices device_at disk_number device_number named_device entry_at entries_of table_entries is_link is_plain link_of logical_of listed linked_sector chain_entries chain_tables partitions_of numbered_span span_of is_bootable number32 digits
case_15 = refl

-- the second extended partition
pub case_16 : partitions_of (disks_of (patch_at 0 0 446 (hex 32 0x00000000050000006400000032000000000000000f000000c800000032000000) ∷ patch_at 0 0 510 (hex 2 0x55aa) ∷ patch_at 0 100 446 (hex 16 0x00000000830000000100000004000000) ∷ patch_at 0 100 510 (hex 2 0x55aa) ∷ patch_at 0 200 446 (hex 16 0x00000000830000000100000009000000) ∷ patch_at 0 200 510 (hex 2 0x55aa) ∷ [])) (machine_of (disk_with 400 16 63 ∷ [])) 0 ≡ Ok (record { number = 1; kind = 0x05; span = record { disk = 0; start = 100; count = 50 } } ∷ record { number = 2; kind = 0x0f; span = record { disk = 0; start = 200; count = 50 } } ∷ record { number = 5; kind = 0x83; span = record { disk = 0; start = 101; count = 4 } } ∷ [])
unfolding disk_name last_partition partition_name device_name devices_of named_devices device_at disk_number device_number named_device entry_at entries_of table_entries is_link is_plain link_of logical_of listed linked_sector chain_entries chain_tables partitions_of numbered_span span_of is_bootable number32 digits
case_16 = refl

-- a chain that falls
pub case_17 : partitions_of (disks_of (patch_at 0 0 446 (hex 16 0x0000000005000000c800000032000000) ∷ patch_at 0 0 510 (hex 2 0x55aa) ∷ patch_at 0 200 446 (hex 32 0x0000000083000000010000000300000000000000050000005000000001000000) ∷ patch_at 0 200 510 (hex 2 0x55aa) ∷ patch_at 0 280 446 (hex 32 0x0000000083000000020000000400000000000000050000002800000001000000) ∷ patch_at 0 280 510 (hex 2 0x55aa) ∷ patch_at 0 240 446 (hex 16 0x00000000830000000300000005000000) ∷ patch_at 0 240 510 (hex 2 0x55aa) ∷ [])) (machine_of (disk_with 400 16 63 ∷ [])) 0 ≡ Ok (record { number = 1; kind = 0x05; span = record { disk = 0; start = 200; count = 50 } } ∷ record { number = 5; kind = 0x83; span = record { disk = 0; start = 201; count = 3 } } ∷ record { number = 6; kind = 0x83; span = record { disk = 0; start = 282; count = 4 } } ∷ record { number = 7; kind = 0x83; span = record { disk = 0; start = 243; count = 5 } } ∷ [])
unfolding disk_name last_partition partition_name device_name devices_of named_devices device_at disk_number device_number named_device entry_at entries_of table_entries is_link is_plain link_of logical_of listed linked_sector chain_entries chain_tables partitions_of numbered_span span_of is_bootable number32 digits
case_17 = refl

-- a table with a link alone
pub case_18 : partitions_of (disks_of (patch_at 0 0 446 (hex 16 0x0000000005000000c800000032000000) ∷ patch_at 0 0 510 (hex 2 0x55aa) ∷ patch_at 0 200 446 (hex 16 0x00000000050000001e00000003000000) ∷ patch_at 0 200 510 (hex 2 0x55aa) ∷ patch_at 0 230 446 (hex 16 0x00000000830000000100000007000000) ∷ patch_at 0 230 510 (hex 2 0x55aa) ∷ [])) (machine_of (disk_with 400 16 63 ∷ [])) 0 ≡ Ok (record { number = 1; kind = 0x05; span = record { disk = 0; start = 200; count = 50 } } ∷ record { number = 5; kind = 0x83; span = record { disk = 0; start = 231; count = 7 } } ∷ [])
unfolding disk_name last_partition partition_name device_name devices_of named_devices device_at disk_number device_number named_device entry_at entries_of table_entries is_link is_plain link_of logical_of listed linked_sector chain_entries chain_tables partitions_of numbered_span span_of is_bootable number32 digits
case_18 = refl

-- a table that links to itself
pub case_19 : partitions_of (disks_of (patch_at 0 0 446 (hex 16 0x00000000050000006400000032000000) ∷ patch_at 0 0 510 (hex 2 0x55aa) ∷ patch_at 0 100 446 (hex 32 0x0000000083000000010000000200000000000000050000000000000009000000) ∷ patch_at 0 100 510 (hex 2 0x55aa) ∷ [])) (machine_of (disk_with 300 16 63 ∷ [])) 0 ≡ Err (LoopedChain 100)
unfolding disk_name last_partition partition_name device_name devices_of named_devices device_at disk_number device_number named_device entry_at entries_of table_entries is_link is_plain link_of logical_of listed linked_sector chain_entries chain_tables partitions_of numbered_span span_of is_bootable number32 digits
case_19 = refl

-- a chain that comes back to its second table
pub case_20 : partitions_of (disks_of (patch_at 0 0 446 (hex 16 0x00000000050000006400000032000000) ∷ patch_at 0 0 510 (hex 2 0x55aa) ∷ patch_at 0 100 446 (hex 16 0x00000000050000000a00000009000000) ∷ patch_at 0 100 510 (hex 2 0x55aa) ∷ patch_at 0 110 446 (hex 32 0x0000000083000000010000000100000000000000050000001400000009000000) ∷ patch_at 0 110 510 (hex 2 0x55aa) ∷ patch_at 0 120 446 (hex 32 0x0000000083000000010000000100000000000000050000000a00000009000000) ∷ patch_at 0 120 510 (hex 2 0x55aa) ∷ [])) (machine_of (disk_with 200 16 63 ∷ [])) 0 ≡ Err (LoopedChain 110)
unfolding disk_name last_partition partition_name device_name devices_of named_devices device_at disk_number device_number named_device entry_at entries_of table_entries is_link is_plain link_of logical_of listed linked_sector chain_entries chain_tables partitions_of numbered_span span_of is_bootable number32 digits
case_20 = refl

-- an extended partition over the first sector
pub case_21 : partitions_of (disks_of (patch_at 0 0 446 (hex 16 0x00000000050000000000000032000000) ∷ patch_at 0 0 510 (hex 2 0x55aa) ∷ [])) (machine_of (disk_with 200 16 63 ∷ [])) 0 ≡ Err (LoopedChain 0)
unfolding disk_name last_partition partition_name device_name devices_of named_devices device_at disk_number device_number named_device entry_at entries_of table_entries is_link is_plain link_of logical_of listed linked_sector chain_entries chain_tables partitions_of numbered_span span_of is_bootable number32 digits
case_21 = refl

-- a link past the disk
pub case_22 : partitions_of (disks_of (patch_at 0 0 446 (hex 16 0x00000000050000006400000032000000) ∷ patch_at 0 0 510 (hex 2 0x55aa) ∷ patch_at 0 100 446 (hex 32 0x000000008300000001000000020000000000000005000000c800000001000000) ∷ patch_at 0 100 510 (hex 2 0x55aa) ∷ [])) (machine_of (disk_with 300 16 63 ∷ [])) 0 ≡ Err (OutsideDisk 0)
unfolding disk_name last_partition partition_name device_name devices_of named_devices device_at disk_number device_number named_device entry_at entries_of table_entries is_link is_plain link_of logical_of listed linked_sector chain_entries chain_tables partitions_of numbered_span span_of is_bootable number32 digits
case_22 = refl

-- a link to the last sector
pub case_23 : partitions_of (disks_of (patch_at 0 0 446 (hex 16 0x00000000050000006400000032000000) ∷ patch_at 0 0 510 (hex 2 0x55aa) ∷ patch_at 0 100 446 (hex 32 0x000000008300000001000000020000000000000005000000c700000001000000) ∷ patch_at 0 100 510 (hex 2 0x55aa) ∷ patch_at 0 299 510 (hex 2 0x55aa) ∷ [])) (machine_of (disk_with 300 16 63 ∷ [])) 0 ≡ Ok (record { number = 1; kind = 0x05; span = record { disk = 0; start = 100; count = 50 } } ∷ record { number = 5; kind = 0x83; span = record { disk = 0; start = 101; count = 2 } } ∷ [])
unfolding disk_name last_partition partition_name device_name devices_of named_devices device_at disk_number device_number named_device entry_at entries_of table_entries is_link is_plain link_of logical_of listed linked_sector chain_entries chain_tables partitions_of numbered_span span_of is_bootable number32 digits
case_23 = refl

-- a link to a sector with no table
pub case_24 : partitions_of (disks_of (patch_at 0 0 446 (hex 16 0x00000000050000006400000032000000) ∷ patch_at 0 0 510 (hex 2 0x55aa) ∷ patch_at 0 100 446 (hex 32 0x0000000083000000010000000200000000000000050000000900000001000000) ∷ patch_at 0 100 510 (hex 2 0x55aa) ∷ [])) (machine_of (disk_with 300 16 63 ∷ [])) 0 ≡ Err (NoSignature 109)
unfolding disk_name last_partition partition_name device_name devices_of named_devices device_at disk_number device_number named_device entry_at entries_of table_entries is_link is_plain link_of logical_of listed linked_sector chain_entries chain_tables partitions_of numbered_span span_of is_bootable number32 digits
case_24 = refl

-- a logical partition past the disk, before its link
pub case_25 : partitions_of (disks_of (patch_at 0 0 446 (hex 16 0x00000000050000006400000032000000) ∷ patch_at 0 0 510 (hex 2 0x55aa) ∷ patch_at 0 100 446 (hex 32 0x000000008300000001000000c800000000000000050000000000000009000000) ∷ patch_at 0 100 510 (hex 2 0x55aa) ∷ [])) (machine_of (disk_with 300 16 63 ∷ [])) 0 ≡ Err (OutsideDisk 5)
unfolding disk_name last_partition partition_name device_name devices_of named_devices device_at disk_number device_number named_device entry_at entries_of table_entries is_link is_plain link_of logical_of listed linked_sector chain_entries chain_tables partitions_of numbered_span span_of is_bootable number32 digits
case_25 = refl

-- an extended partition past the disk
pub case_26 : partitions_of (disks_of (patch_at 0 0 446 (hex 16 0x000000000500000064000000c9000000) ∷ patch_at 0 0 510 (hex 2 0x55aa) ∷ patch_at 0 100 446 (hex 16 0x00000000830000000100000002000000) ∷ patch_at 0 100 510 (hex 2 0x55aa) ∷ [])) (machine_of (disk_with 300 16 63 ∷ [])) 0 ≡ Err (OutsideDisk 1)
unfolding disk_name last_partition partition_name device_name devices_of named_devices device_at disk_number device_number named_device entry_at entries_of table_entries is_link is_plain link_of logical_of listed linked_sector chain_entries chain_tables partitions_of numbered_span span_of is_bootable number32 digits
case_26 = refl

-- fifty-nine logical partitions
pub case_27 : partitions_of (disks_of (patch_at 0 0 446 (hex 16 0x000000000500000064000000c8000000) ∷ patch_at 0 0 510 (hex 2 0x55aa) ∷ patch_at 0 100 446 (hex 32 0x0000000081000000010000000100000000000000050000000200000002000000) ∷ patch_at 0 100 510 (hex 2 0x55aa) ∷ patch_at 0 102 446 (hex 32 0x0000000081000000010000000100000000000000050000000400000002000000) ∷ patch_at 0 102 510 (hex 2 0x55aa) ∷ patch_at 0 104 446 (hex 32 0x0000000081000000010000000100000000000000050000000600000002000000) ∷ patch_at 0 104 510 (hex 2 0x55aa) ∷ patch_at 0 106 446 (hex 32 0x0000000081000000010000000100000000000000050000000800000002000000) ∷ patch_at 0 106 510 (hex 2 0x55aa) ∷ patch_at 0 108 446 (hex 32 0x0000000081000000010000000100000000000000050000000a00000002000000) ∷ patch_at 0 108 510 (hex 2 0x55aa) ∷ patch_at 0 110 446 (hex 32 0x0000000081000000010000000100000000000000050000000c00000002000000) ∷ patch_at 0 110 510 (hex 2 0x55aa) ∷ patch_at 0 112 446 (hex 32 0x0000000081000000010000000100000000000000050000000e00000002000000) ∷ patch_at 0 112 510 (hex 2 0x55aa) ∷ patch_at 0 114 446 (hex 32 0x0000000081000000010000000100000000000000050000001000000002000000) ∷ patch_at 0 114 510 (hex 2 0x55aa) ∷ patch_at 0 116 446 (hex 32 0x0000000081000000010000000100000000000000050000001200000002000000) ∷ patch_at 0 116 510 (hex 2 0x55aa) ∷ patch_at 0 118 446 (hex 32 0x0000000081000000010000000100000000000000050000001400000002000000) ∷ patch_at 0 118 510 (hex 2 0x55aa) ∷ patch_at 0 120 446 (hex 32 0x0000000081000000010000000100000000000000050000001600000002000000) ∷ patch_at 0 120 510 (hex 2 0x55aa) ∷ patch_at 0 122 446 (hex 32 0x0000000081000000010000000100000000000000050000001800000002000000) ∷ patch_at 0 122 510 (hex 2 0x55aa) ∷ patch_at 0 124 446 (hex 32 0x0000000081000000010000000100000000000000050000001a00000002000000) ∷ patch_at 0 124 510 (hex 2 0x55aa) ∷ patch_at 0 126 446 (hex 32 0x0000000081000000010000000100000000000000050000001c00000002000000) ∷ patch_at 0 126 510 (hex 2 0x55aa) ∷ patch_at 0 128 446 (hex 32 0x0000000081000000010000000100000000000000050000001e00000002000000) ∷ patch_at 0 128 510 (hex 2 0x55aa) ∷ patch_at 0 130 446 (hex 32 0x0000000081000000010000000100000000000000050000002000000002000000) ∷ patch_at 0 130 510 (hex 2 0x55aa) ∷ patch_at 0 132 446 (hex 32 0x0000000081000000010000000100000000000000050000002200000002000000) ∷ patch_at 0 132 510 (hex 2 0x55aa) ∷ patch_at 0 134 446 (hex 32 0x0000000081000000010000000100000000000000050000002400000002000000) ∷ patch_at 0 134 510 (hex 2 0x55aa) ∷ patch_at 0 136 446 (hex 32 0x0000000081000000010000000100000000000000050000002600000002000000) ∷ patch_at 0 136 510 (hex 2 0x55aa) ∷ patch_at 0 138 446 (hex 32 0x0000000081000000010000000100000000000000050000002800000002000000) ∷ patch_at 0 138 510 (hex 2 0x55aa) ∷ patch_at 0 140 446 (hex 32 0x0000000081000000010000000100000000000000050000002a00000002000000) ∷ patch_at 0 140 510 (hex 2 0x55aa) ∷ patch_at 0 142 446 (hex 32 0x0000000081000000010000000100000000000000050000002c00000002000000) ∷ patch_at 0 142 510 (hex 2 0x55aa) ∷ patch_at 0 144 446 (hex 32 0x0000000081000000010000000100000000000000050000002e00000002000000) ∷ patch_at 0 144 510 (hex 2 0x55aa) ∷ patch_at 0 146 446 (hex 32 0x0000000081000000010000000100000000000000050000003000000002000000) ∷ patch_at 0 146 510 (hex 2 0x55aa) ∷ patch_at 0 148 446 (hex 32 0x0000000081000000010000000100000000000000050000003200000002000000) ∷ patch_at 0 148 510 (hex 2 0x55aa) ∷ patch_at 0 150 446 (hex 32 0x0000000081000000010000000100000000000000050000003400000002000000) ∷ patch_at 0 150 510 (hex 2 0x55aa) ∷ patch_at 0 152 446 (hex 32 0x0000000081000000010000000100000000000000050000003600000002000000) ∷ patch_at 0 152 510 (hex 2 0x55aa) ∷ patch_at 0 154 446 (hex 32 0x0000000081000000010000000100000000000000050000003800000002000000) ∷ patch_at 0 154 510 (hex 2 0x55aa) ∷ patch_at 0 156 446 (hex 32 0x0000000081000000010000000100000000000000050000003a00000002000000) ∷ patch_at 0 156 510 (hex 2 0x55aa) ∷ patch_at 0 158 446 (hex 32 0x0000000081000000010000000100000000000000050000003c00000002000000) ∷ patch_at 0 158 510 (hex 2 0x55aa) ∷ patch_at 0 160 446 (hex 32 0x0000000081000000010000000100000000000000050000003e00000002000000) ∷ patch_at 0 160 510 (hex 2 0x55aa) ∷ patch_at 0 162 446 (hex 32 0x0000000081000000010000000100000000000000050000004000000002000000) ∷ patch_at 0 162 510 (hex 2 0x55aa) ∷ patch_at 0 164 446 (hex 32 0x0000000081000000010000000100000000000000050000004200000002000000) ∷ patch_at 0 164 510 (hex 2 0x55aa) ∷ patch_at 0 166 446 (hex 32 0x0000000081000000010000000100000000000000050000004400000002000000) ∷ patch_at 0 166 510 (hex 2 0x55aa) ∷ patch_at 0 168 446 (hex 32 0x0000000081000000010000000100000000000000050000004600000002000000) ∷ patch_at 0 168 510 (hex 2 0x55aa) ∷ patch_at 0 170 446 (hex 32 0x0000000081000000010000000100000000000000050000004800000002000000) ∷ patch_at 0 170 510 (hex 2 0x55aa) ∷ patch_at 0 172 446 (hex 32 0x0000000081000000010000000100000000000000050000004a00000002000000) ∷ patch_at 0 172 510 (hex 2 0x55aa) ∷ patch_at 0 174 446 (hex 32 0x0000000081000000010000000100000000000000050000004c00000002000000) ∷ patch_at 0 174 510 (hex 2 0x55aa) ∷ patch_at 0 176 446 (hex 32 0x0000000081000000010000000100000000000000050000004e00000002000000) ∷ patch_at 0 176 510 (hex 2 0x55aa) ∷ patch_at 0 178 446 (hex 32 0x0000000081000000010000000100000000000000050000005000000002000000) ∷ patch_at 0 178 510 (hex 2 0x55aa) ∷ patch_at 0 180 446 (hex 32 0x0000000081000000010000000100000000000000050000005200000002000000) ∷ patch_at 0 180 510 (hex 2 0x55aa) ∷ patch_at 0 182 446 (hex 32 0x0000000081000000010000000100000000000000050000005400000002000000) ∷ patch_at 0 182 510 (hex 2 0x55aa) ∷ patch_at 0 184 446 (hex 32 0x0000000081000000010000000100000000000000050000005600000002000000) ∷ patch_at 0 184 510 (hex 2 0x55aa) ∷ patch_at 0 186 446 (hex 32 0x0000000081000000010000000100000000000000050000005800000002000000) ∷ patch_at 0 186 510 (hex 2 0x55aa) ∷ patch_at 0 188 446 (hex 32 0x0000000081000000010000000100000000000000050000005a00000002000000) ∷ patch_at 0 188 510 (hex 2 0x55aa) ∷ patch_at 0 190 446 (hex 32 0x0000000081000000010000000100000000000000050000005c00000002000000) ∷ patch_at 0 190 510 (hex 2 0x55aa) ∷ patch_at 0 192 446 (hex 32 0x0000000081000000010000000100000000000000050000005e00000002000000) ∷ patch_at 0 192 510 (hex 2 0x55aa) ∷ patch_at 0 194 446 (hex 32 0x0000000081000000010000000100000000000000050000006000000002000000) ∷ patch_at 0 194 510 (hex 2 0x55aa) ∷ patch_at 0 196 446 (hex 32 0x0000000081000000010000000100000000000000050000006200000002000000) ∷ patch_at 0 196 510 (hex 2 0x55aa) ∷ patch_at 0 198 446 (hex 32 0x0000000081000000010000000100000000000000050000006400000002000000) ∷ patch_at 0 198 510 (hex 2 0x55aa) ∷ patch_at 0 200 446 (hex 32 0x0000000081000000010000000100000000000000050000006600000002000000) ∷ patch_at 0 200 510 (hex 2 0x55aa) ∷ patch_at 0 202 446 (hex 32 0x0000000081000000010000000100000000000000050000006800000002000000) ∷ patch_at 0 202 510 (hex 2 0x55aa) ∷ patch_at 0 204 446 (hex 32 0x0000000081000000010000000100000000000000050000006a00000002000000) ∷ patch_at 0 204 510 (hex 2 0x55aa) ∷ patch_at 0 206 446 (hex 32 0x0000000081000000010000000100000000000000050000006c00000002000000) ∷ patch_at 0 206 510 (hex 2 0x55aa) ∷ patch_at 0 208 446 (hex 32 0x0000000081000000010000000100000000000000050000006e00000002000000) ∷ patch_at 0 208 510 (hex 2 0x55aa) ∷ patch_at 0 210 446 (hex 32 0x0000000081000000010000000100000000000000050000007000000002000000) ∷ patch_at 0 210 510 (hex 2 0x55aa) ∷ patch_at 0 212 446 (hex 32 0x0000000081000000010000000100000000000000050000007200000002000000) ∷ patch_at 0 212 510 (hex 2 0x55aa) ∷ patch_at 0 214 446 (hex 32 0x0000000081000000010000000100000000000000050000007400000002000000) ∷ patch_at 0 214 510 (hex 2 0x55aa) ∷ patch_at 0 216 446 (hex 16 0x00000000810000000100000001000000) ∷ patch_at 0 216 510 (hex 2 0x55aa) ∷ [])) (machine_of (disk_with 300 16 63 ∷ [])) 0 ≡ Ok (record { number = 1; kind = 0x05; span = record { disk = 0; start = 100; count = 200 } } ∷ record { number = 5; kind = 0x81; span = record { disk = 0; start = 101; count = 1 } } ∷ record { number = 6; kind = 0x81; span = record { disk = 0; start = 103; count = 1 } } ∷ record { number = 7; kind = 0x81; span = record { disk = 0; start = 105; count = 1 } } ∷ record { number = 8; kind = 0x81; span = record { disk = 0; start = 107; count = 1 } } ∷ record { number = 9; kind = 0x81; span = record { disk = 0; start = 109; count = 1 } } ∷ record { number = 10; kind = 0x81; span = record { disk = 0; start = 111; count = 1 } } ∷ record { number = 11; kind = 0x81; span = record { disk = 0; start = 113; count = 1 } } ∷ record { number = 12; kind = 0x81; span = record { disk = 0; start = 115; count = 1 } } ∷ record { number = 13; kind = 0x81; span = record { disk = 0; start = 117; count = 1 } } ∷ record { number = 14; kind = 0x81; span = record { disk = 0; start = 119; count = 1 } } ∷ record { number = 15; kind = 0x81; span = record { disk = 0; start = 121; count = 1 } } ∷ record { number = 16; kind = 0x81; span = record { disk = 0; start = 123; count = 1 } } ∷ record { number = 17; kind = 0x81; span = record { disk = 0; start = 125; count = 1 } } ∷ record { number = 18; kind = 0x81; span = record { disk = 0; start = 127; count = 1 } } ∷ record { number = 19; kind = 0x81; span = record { disk = 0; start = 129; count = 1 } } ∷ record { number = 20; kind = 0x81; span = record { disk = 0; start = 131; count = 1 } } ∷ record { number = 21; kind = 0x81; span = record { disk = 0; start = 133; count = 1 } } ∷ record { number = 22; kind = 0x81; span = record { disk = 0; start = 135; count = 1 } } ∷ record { number = 23; kind = 0x81; span = record { disk = 0; start = 137; count = 1 } } ∷ record { number = 24; kind = 0x81; span = record { disk = 0; start = 139; count = 1 } } ∷ record { number = 25; kind = 0x81; span = record { disk = 0; start = 141; count = 1 } } ∷ record { number = 26; kind = 0x81; span = record { disk = 0; start = 143; count = 1 } } ∷ record { number = 27; kind = 0x81; span = record { disk = 0; start = 145; count = 1 } } ∷ record { number = 28; kind = 0x81; span = record { disk = 0; start = 147; count = 1 } } ∷ record { number = 29; kind = 0x81; span = record { disk = 0; start = 149; count = 1 } } ∷ record { number = 30; kind = 0x81; span = record { disk = 0; start = 151; count = 1 } } ∷ record { number = 31; kind = 0x81; span = record { disk = 0; start = 153; count = 1 } } ∷ record { number = 32; kind = 0x81; span = record { disk = 0; start = 155; count = 1 } } ∷ record { number = 33; kind = 0x81; span = record { disk = 0; start = 157; count = 1 } } ∷ record { number = 34; kind = 0x81; span = record { disk = 0; start = 159; count = 1 } } ∷ record { number = 35; kind = 0x81; span = record { disk = 0; start = 161; count = 1 } } ∷ record { number = 36; kind = 0x81; span = record { disk = 0; start = 163; count = 1 } } ∷ record { number = 37; kind = 0x81; span = record { disk = 0; start = 165; count = 1 } } ∷ record { number = 38; kind = 0x81; span = record { disk = 0; start = 167; count = 1 } } ∷ record { number = 39; kind = 0x81; span = record { disk = 0; start = 169; count = 1 } } ∷ record { number = 40; kind = 0x81; span = record { disk = 0; start = 171; count = 1 } } ∷ record { number = 41; kind = 0x81; span = record { disk = 0; start = 173; count = 1 } } ∷ record { number = 42; kind = 0x81; span = record { disk = 0; start = 175; count = 1 } } ∷ record { number = 43; kind = 0x81; span = record { disk = 0; start = 177; count = 1 } } ∷ record { number = 44; kind = 0x81; span = record { disk = 0; start = 179; count = 1 } } ∷ record { number = 45; kind = 0x81; span = record { disk = 0; start = 181; count = 1 } } ∷ record { number = 46; kind = 0x81; span = record { disk = 0; start = 183; count = 1 } } ∷ record { number = 47; kind = 0x81; span = record { disk = 0; start = 185; count = 1 } } ∷ record { number = 48; kind = 0x81; span = record { disk = 0; start = 187; count = 1 } } ∷ record { number = 49; kind = 0x81; span = record { disk = 0; start = 189; count = 1 } } ∷ record { number = 50; kind = 0x81; span = record { disk = 0; start = 191; count = 1 } } ∷ record { number = 51; kind = 0x81; span = record { disk = 0; start = 193; count = 1 } } ∷ record { number = 52; kind = 0x81; span = record { disk = 0; start = 195; count = 1 } } ∷ record { number = 53; kind = 0x81; span = record { disk = 0; start = 197; count = 1 } } ∷ record { number = 54; kind = 0x81; span = record { disk = 0; start = 199; count = 1 } } ∷ record { number = 55; kind = 0x81; span = record { disk = 0; start = 201; count = 1 } } ∷ record { number = 56; kind = 0x81; span = record { disk = 0; start = 203; count = 1 } } ∷ record { number = 57; kind = 0x81; span = record { disk = 0; start = 205; count = 1 } } ∷ record { number = 58; kind = 0x81; span = record { disk = 0; start = 207; count = 1 } } ∷ record { number = 59; kind = 0x81; span = record { disk = 0; start = 209; count = 1 } } ∷ record { number = 60; kind = 0x81; span = record { disk = 0; start = 211; count = 1 } } ∷ record { number = 61; kind = 0x81; span = record { disk = 0; start = 213; count = 1 } } ∷ record { number = 62; kind = 0x81; span = record { disk = 0; start = 215; count = 1 } } ∷ record { number = 63; kind = 0x81; span = record { disk = 0; start = 217; count = 1 } } ∷ [])
unfolding disk_name last_partition partition_name device_name devices_of named_devices device_at disk_number device_number named_device entry_at entries_of table_entries is_link is_plain link_of logical_of listed linked_sector chain_entries chain_tables partitions_of numbered_span span_of is_bootable number32 digits
case_27 = refl

-- sixty logical partitions
pub case_28 : partitions_of (disks_of (patch_at 0 0 446 (hex 16 0x000000000500000064000000c8000000) ∷ patch_at 0 0 510 (hex 2 0x55aa) ∷ patch_at 0 100 446 (hex 32 0x0000000081000000010000000100000000000000050000000200000002000000) ∷ patch_at 0 100 510 (hex 2 0x55aa) ∷ patch_at 0 102 446 (hex 32 0x0000000081000000010000000100000000000000050000000400000002000000) ∷ patch_at 0 102 510 (hex 2 0x55aa) ∷ patch_at 0 104 446 (hex 32 0x0000000081000000010000000100000000000000050000000600000002000000) ∷ patch_at 0 104 510 (hex 2 0x55aa) ∷ patch_at 0 106 446 (hex 32 0x0000000081000000010000000100000000000000050000000800000002000000) ∷ patch_at 0 106 510 (hex 2 0x55aa) ∷ patch_at 0 108 446 (hex 32 0x0000000081000000010000000100000000000000050000000a00000002000000) ∷ patch_at 0 108 510 (hex 2 0x55aa) ∷ patch_at 0 110 446 (hex 32 0x0000000081000000010000000100000000000000050000000c00000002000000) ∷ patch_at 0 110 510 (hex 2 0x55aa) ∷ patch_at 0 112 446 (hex 32 0x0000000081000000010000000100000000000000050000000e00000002000000) ∷ patch_at 0 112 510 (hex 2 0x55aa) ∷ patch_at 0 114 446 (hex 32 0x0000000081000000010000000100000000000000050000001000000002000000) ∷ patch_at 0 114 510 (hex 2 0x55aa) ∷ patch_at 0 116 446 (hex 32 0x0000000081000000010000000100000000000000050000001200000002000000) ∷ patch_at 0 116 510 (hex 2 0x55aa) ∷ patch_at 0 118 446 (hex 32 0x0000000081000000010000000100000000000000050000001400000002000000) ∷ patch_at 0 118 510 (hex 2 0x55aa) ∷ patch_at 0 120 446 (hex 32 0x0000000081000000010000000100000000000000050000001600000002000000) ∷ patch_at 0 120 510 (hex 2 0x55aa) ∷ patch_at 0 122 446 (hex 32 0x0000000081000000010000000100000000000000050000001800000002000000) ∷ patch_at 0 122 510 (hex 2 0x55aa) ∷ patch_at 0 124 446 (hex 32 0x0000000081000000010000000100000000000000050000001a00000002000000) ∷ patch_at 0 124 510 (hex 2 0x55aa) ∷ patch_at 0 126 446 (hex 32 0x0000000081000000010000000100000000000000050000001c00000002000000) ∷ patch_at 0 126 510 (hex 2 0x55aa) ∷ patch_at 0 128 446 (hex 32 0x0000000081000000010000000100000000000000050000001e00000002000000) ∷ patch_at 0 128 510 (hex 2 0x55aa) ∷ patch_at 0 130 446 (hex 32 0x0000000081000000010000000100000000000000050000002000000002000000) ∷ patch_at 0 130 510 (hex 2 0x55aa) ∷ patch_at 0 132 446 (hex 32 0x0000000081000000010000000100000000000000050000002200000002000000) ∷ patch_at 0 132 510 (hex 2 0x55aa) ∷ patch_at 0 134 446 (hex 32 0x0000000081000000010000000100000000000000050000002400000002000000) ∷ patch_at 0 134 510 (hex 2 0x55aa) ∷ patch_at 0 136 446 (hex 32 0x0000000081000000010000000100000000000000050000002600000002000000) ∷ patch_at 0 136 510 (hex 2 0x55aa) ∷ patch_at 0 138 446 (hex 32 0x0000000081000000010000000100000000000000050000002800000002000000) ∷ patch_at 0 138 510 (hex 2 0x55aa) ∷ patch_at 0 140 446 (hex 32 0x0000000081000000010000000100000000000000050000002a00000002000000) ∷ patch_at 0 140 510 (hex 2 0x55aa) ∷ patch_at 0 142 446 (hex 32 0x0000000081000000010000000100000000000000050000002c00000002000000) ∷ patch_at 0 142 510 (hex 2 0x55aa) ∷ patch_at 0 144 446 (hex 32 0x0000000081000000010000000100000000000000050000002e00000002000000) ∷ patch_at 0 144 510 (hex 2 0x55aa) ∷ patch_at 0 146 446 (hex 32 0x0000000081000000010000000100000000000000050000003000000002000000) ∷ patch_at 0 146 510 (hex 2 0x55aa) ∷ patch_at 0 148 446 (hex 32 0x0000000081000000010000000100000000000000050000003200000002000000) ∷ patch_at 0 148 510 (hex 2 0x55aa) ∷ patch_at 0 150 446 (hex 32 0x0000000081000000010000000100000000000000050000003400000002000000) ∷ patch_at 0 150 510 (hex 2 0x55aa) ∷ patch_at 0 152 446 (hex 32 0x0000000081000000010000000100000000000000050000003600000002000000) ∷ patch_at 0 152 510 (hex 2 0x55aa) ∷ patch_at 0 154 446 (hex 32 0x0000000081000000010000000100000000000000050000003800000002000000) ∷ patch_at 0 154 510 (hex 2 0x55aa) ∷ patch_at 0 156 446 (hex 32 0x0000000081000000010000000100000000000000050000003a00000002000000) ∷ patch_at 0 156 510 (hex 2 0x55aa) ∷ patch_at 0 158 446 (hex 32 0x0000000081000000010000000100000000000000050000003c00000002000000) ∷ patch_at 0 158 510 (hex 2 0x55aa) ∷ patch_at 0 160 446 (hex 32 0x0000000081000000010000000100000000000000050000003e00000002000000) ∷ patch_at 0 160 510 (hex 2 0x55aa) ∷ patch_at 0 162 446 (hex 32 0x0000000081000000010000000100000000000000050000004000000002000000) ∷ patch_at 0 162 510 (hex 2 0x55aa) ∷ patch_at 0 164 446 (hex 32 0x0000000081000000010000000100000000000000050000004200000002000000) ∷ patch_at 0 164 510 (hex 2 0x55aa) ∷ patch_at 0 166 446 (hex 32 0x0000000081000000010000000100000000000000050000004400000002000000) ∷ patch_at 0 166 510 (hex 2 0x55aa) ∷ patch_at 0 168 446 (hex 32 0x0000000081000000010000000100000000000000050000004600000002000000) ∷ patch_at 0 168 510 (hex 2 0x55aa) ∷ patch_at 0 170 446 (hex 32 0x0000000081000000010000000100000000000000050000004800000002000000) ∷ patch_at 0 170 510 (hex 2 0x55aa) ∷ patch_at 0 172 446 (hex 32 0x0000000081000000010000000100000000000000050000004a00000002000000) ∷ patch_at 0 172 510 (hex 2 0x55aa) ∷ patch_at 0 174 446 (hex 32 0x0000000081000000010000000100000000000000050000004c00000002000000) ∷ patch_at 0 174 510 (hex 2 0x55aa) ∷ patch_at 0 176 446 (hex 32 0x0000000081000000010000000100000000000000050000004e00000002000000) ∷ patch_at 0 176 510 (hex 2 0x55aa) ∷ patch_at 0 178 446 (hex 32 0x0000000081000000010000000100000000000000050000005000000002000000) ∷ patch_at 0 178 510 (hex 2 0x55aa) ∷ patch_at 0 180 446 (hex 32 0x0000000081000000010000000100000000000000050000005200000002000000) ∷ patch_at 0 180 510 (hex 2 0x55aa) ∷ patch_at 0 182 446 (hex 32 0x0000000081000000010000000100000000000000050000005400000002000000) ∷ patch_at 0 182 510 (hex 2 0x55aa) ∷ patch_at 0 184 446 (hex 32 0x0000000081000000010000000100000000000000050000005600000002000000) ∷ patch_at 0 184 510 (hex 2 0x55aa) ∷ patch_at 0 186 446 (hex 32 0x0000000081000000010000000100000000000000050000005800000002000000) ∷ patch_at 0 186 510 (hex 2 0x55aa) ∷ patch_at 0 188 446 (hex 32 0x0000000081000000010000000100000000000000050000005a00000002000000) ∷ patch_at 0 188 510 (hex 2 0x55aa) ∷ patch_at 0 190 446 (hex 32 0x0000000081000000010000000100000000000000050000005c00000002000000) ∷ patch_at 0 190 510 (hex 2 0x55aa) ∷ patch_at 0 192 446 (hex 32 0x0000000081000000010000000100000000000000050000005e00000002000000) ∷ patch_at 0 192 510 (hex 2 0x55aa) ∷ patch_at 0 194 446 (hex 32 0x0000000081000000010000000100000000000000050000006000000002000000) ∷ patch_at 0 194 510 (hex 2 0x55aa) ∷ patch_at 0 196 446 (hex 32 0x0000000081000000010000000100000000000000050000006200000002000000) ∷ patch_at 0 196 510 (hex 2 0x55aa) ∷ patch_at 0 198 446 (hex 32 0x0000000081000000010000000100000000000000050000006400000002000000) ∷ patch_at 0 198 510 (hex 2 0x55aa) ∷ patch_at 0 200 446 (hex 32 0x0000000081000000010000000100000000000000050000006600000002000000) ∷ patch_at 0 200 510 (hex 2 0x55aa) ∷ patch_at 0 202 446 (hex 32 0x0000000081000000010000000100000000000000050000006800000002000000) ∷ patch_at 0 202 510 (hex 2 0x55aa) ∷ patch_at 0 204 446 (hex 32 0x0000000081000000010000000100000000000000050000006a00000002000000) ∷ patch_at 0 204 510 (hex 2 0x55aa) ∷ patch_at 0 206 446 (hex 32 0x0000000081000000010000000100000000000000050000006c00000002000000) ∷ patch_at 0 206 510 (hex 2 0x55aa) ∷ patch_at 0 208 446 (hex 32 0x0000000081000000010000000100000000000000050000006e00000002000000) ∷ patch_at 0 208 510 (hex 2 0x55aa) ∷ patch_at 0 210 446 (hex 32 0x0000000081000000010000000100000000000000050000007000000002000000) ∷ patch_at 0 210 510 (hex 2 0x55aa) ∷ patch_at 0 212 446 (hex 32 0x0000000081000000010000000100000000000000050000007200000002000000) ∷ patch_at 0 212 510 (hex 2 0x55aa) ∷ patch_at 0 214 446 (hex 32 0x0000000081000000010000000100000000000000050000007400000002000000) ∷ patch_at 0 214 510 (hex 2 0x55aa) ∷ patch_at 0 216 446 (hex 32 0x0000000081000000010000000100000000000000050000007600000002000000) ∷ patch_at 0 216 510 (hex 2 0x55aa) ∷ patch_at 0 218 446 (hex 16 0x00000000810000000100000001000000) ∷ patch_at 0 218 510 (hex 2 0x55aa) ∷ [])) (machine_of (disk_with 300 16 63 ∷ [])) 0 ≡ Err TooMany
unfolding disk_name last_partition partition_name device_name devices_of named_devices device_at disk_number device_number named_device entry_at entries_of table_entries is_link is_plain link_of logical_of listed linked_sector chain_entries chain_tables partitions_of numbered_span span_of is_bootable number32 digits
case_28 = refl

-- a sixtieth logical partition past the disk
pub case_29 : partitions_of (disks_of (patch_at 0 0 446 (hex 16 0x000000000500000064000000c8000000) ∷ patch_at 0 0 510 (hex 2 0x55aa) ∷ patch_at 0 100 446 (hex 32 0x0000000081000000010000000100000000000000050000000200000002000000) ∷ patch_at 0 100 510 (hex 2 0x55aa) ∷ patch_at 0 102 446 (hex 32 0x0000000081000000010000000100000000000000050000000400000002000000) ∷ patch_at 0 102 510 (hex 2 0x55aa) ∷ patch_at 0 104 446 (hex 32 0x0000000081000000010000000100000000000000050000000600000002000000) ∷ patch_at 0 104 510 (hex 2 0x55aa) ∷ patch_at 0 106 446 (hex 32 0x0000000081000000010000000100000000000000050000000800000002000000) ∷ patch_at 0 106 510 (hex 2 0x55aa) ∷ patch_at 0 108 446 (hex 32 0x0000000081000000010000000100000000000000050000000a00000002000000) ∷ patch_at 0 108 510 (hex 2 0x55aa) ∷ patch_at 0 110 446 (hex 32 0x0000000081000000010000000100000000000000050000000c00000002000000) ∷ patch_at 0 110 510 (hex 2 0x55aa) ∷ patch_at 0 112 446 (hex 32 0x0000000081000000010000000100000000000000050000000e00000002000000) ∷ patch_at 0 112 510 (hex 2 0x55aa) ∷ patch_at 0 114 446 (hex 32 0x0000000081000000010000000100000000000000050000001000000002000000) ∷ patch_at 0 114 510 (hex 2 0x55aa) ∷ patch_at 0 116 446 (hex 32 0x0000000081000000010000000100000000000000050000001200000002000000) ∷ patch_at 0 116 510 (hex 2 0x55aa) ∷ patch_at 0 118 446 (hex 32 0x0000000081000000010000000100000000000000050000001400000002000000) ∷ patch_at 0 118 510 (hex 2 0x55aa) ∷ patch_at 0 120 446 (hex 32 0x0000000081000000010000000100000000000000050000001600000002000000) ∷ patch_at 0 120 510 (hex 2 0x55aa) ∷ patch_at 0 122 446 (hex 32 0x0000000081000000010000000100000000000000050000001800000002000000) ∷ patch_at 0 122 510 (hex 2 0x55aa) ∷ patch_at 0 124 446 (hex 32 0x0000000081000000010000000100000000000000050000001a00000002000000) ∷ patch_at 0 124 510 (hex 2 0x55aa) ∷ patch_at 0 126 446 (hex 32 0x0000000081000000010000000100000000000000050000001c00000002000000) ∷ patch_at 0 126 510 (hex 2 0x55aa) ∷ patch_at 0 128 446 (hex 32 0x0000000081000000010000000100000000000000050000001e00000002000000) ∷ patch_at 0 128 510 (hex 2 0x55aa) ∷ patch_at 0 130 446 (hex 32 0x0000000081000000010000000100000000000000050000002000000002000000) ∷ patch_at 0 130 510 (hex 2 0x55aa) ∷ patch_at 0 132 446 (hex 32 0x0000000081000000010000000100000000000000050000002200000002000000) ∷ patch_at 0 132 510 (hex 2 0x55aa) ∷ patch_at 0 134 446 (hex 32 0x0000000081000000010000000100000000000000050000002400000002000000) ∷ patch_at 0 134 510 (hex 2 0x55aa) ∷ patch_at 0 136 446 (hex 32 0x0000000081000000010000000100000000000000050000002600000002000000) ∷ patch_at 0 136 510 (hex 2 0x55aa) ∷ patch_at 0 138 446 (hex 32 0x0000000081000000010000000100000000000000050000002800000002000000) ∷ patch_at 0 138 510 (hex 2 0x55aa) ∷ patch_at 0 140 446 (hex 32 0x0000000081000000010000000100000000000000050000002a00000002000000) ∷ patch_at 0 140 510 (hex 2 0x55aa) ∷ patch_at 0 142 446 (hex 32 0x0000000081000000010000000100000000000000050000002c00000002000000) ∷ patch_at 0 142 510 (hex 2 0x55aa) ∷ patch_at 0 144 446 (hex 32 0x0000000081000000010000000100000000000000050000002e00000002000000) ∷ patch_at 0 144 510 (hex 2 0x55aa) ∷ patch_at 0 146 446 (hex 32 0x0000000081000000010000000100000000000000050000003000000002000000) ∷ patch_at 0 146 510 (hex 2 0x55aa) ∷ patch_at 0 148 446 (hex 32 0x0000000081000000010000000100000000000000050000003200000002000000) ∷ patch_at 0 148 510 (hex 2 0x55aa) ∷ patch_at 0 150 446 (hex 32 0x0000000081000000010000000100000000000000050000003400000002000000) ∷ patch_at 0 150 510 (hex 2 0x55aa) ∷ patch_at 0 152 446 (hex 32 0x0000000081000000010000000100000000000000050000003600000002000000) ∷ patch_at 0 152 510 (hex 2 0x55aa) ∷ patch_at 0 154 446 (hex 32 0x0000000081000000010000000100000000000000050000003800000002000000) ∷ patch_at 0 154 510 (hex 2 0x55aa) ∷ patch_at 0 156 446 (hex 32 0x0000000081000000010000000100000000000000050000003a00000002000000) ∷ patch_at 0 156 510 (hex 2 0x55aa) ∷ patch_at 0 158 446 (hex 32 0x0000000081000000010000000100000000000000050000003c00000002000000) ∷ patch_at 0 158 510 (hex 2 0x55aa) ∷ patch_at 0 160 446 (hex 32 0x0000000081000000010000000100000000000000050000003e00000002000000) ∷ patch_at 0 160 510 (hex 2 0x55aa) ∷ patch_at 0 162 446 (hex 32 0x0000000081000000010000000100000000000000050000004000000002000000) ∷ patch_at 0 162 510 (hex 2 0x55aa) ∷ patch_at 0 164 446 (hex 32 0x0000000081000000010000000100000000000000050000004200000002000000) ∷ patch_at 0 164 510 (hex 2 0x55aa) ∷ patch_at 0 166 446 (hex 32 0x0000000081000000010000000100000000000000050000004400000002000000) ∷ patch_at 0 166 510 (hex 2 0x55aa) ∷ patch_at 0 168 446 (hex 32 0x0000000081000000010000000100000000000000050000004600000002000000) ∷ patch_at 0 168 510 (hex 2 0x55aa) ∷ patch_at 0 170 446 (hex 32 0x0000000081000000010000000100000000000000050000004800000002000000) ∷ patch_at 0 170 510 (hex 2 0x55aa) ∷ patch_at 0 172 446 (hex 32 0x0000000081000000010000000100000000000000050000004a00000002000000) ∷ patch_at 0 172 510 (hex 2 0x55aa) ∷ patch_at 0 174 446 (hex 32 0x0000000081000000010000000100000000000000050000004c00000002000000) ∷ patch_at 0 174 510 (hex 2 0x55aa) ∷ patch_at 0 176 446 (hex 32 0x0000000081000000010000000100000000000000050000004e00000002000000) ∷ patch_at 0 176 510 (hex 2 0x55aa) ∷ patch_at 0 178 446 (hex 32 0x0000000081000000010000000100000000000000050000005000000002000000) ∷ patch_at 0 178 510 (hex 2 0x55aa) ∷ patch_at 0 180 446 (hex 32 0x0000000081000000010000000100000000000000050000005200000002000000) ∷ patch_at 0 180 510 (hex 2 0x55aa) ∷ patch_at 0 182 446 (hex 32 0x0000000081000000010000000100000000000000050000005400000002000000) ∷ patch_at 0 182 510 (hex 2 0x55aa) ∷ patch_at 0 184 446 (hex 32 0x0000000081000000010000000100000000000000050000005600000002000000) ∷ patch_at 0 184 510 (hex 2 0x55aa) ∷ patch_at 0 186 446 (hex 32 0x0000000081000000010000000100000000000000050000005800000002000000) ∷ patch_at 0 186 510 (hex 2 0x55aa) ∷ patch_at 0 188 446 (hex 32 0x0000000081000000010000000100000000000000050000005a00000002000000) ∷ patch_at 0 188 510 (hex 2 0x55aa) ∷ patch_at 0 190 446 (hex 32 0x0000000081000000010000000100000000000000050000005c00000002000000) ∷ patch_at 0 190 510 (hex 2 0x55aa) ∷ patch_at 0 192 446 (hex 32 0x0000000081000000010000000100000000000000050000005e00000002000000) ∷ patch_at 0 192 510 (hex 2 0x55aa) ∷ patch_at 0 194 446 (hex 32 0x0000000081000000010000000100000000000000050000006000000002000000) ∷ patch_at 0 194 510 (hex 2 0x55aa) ∷ patch_at 0 196 446 (hex 32 0x0000000081000000010000000100000000000000050000006200000002000000) ∷ patch_at 0 196 510 (hex 2 0x55aa) ∷ patch_at 0 198 446 (hex 32 0x0000000081000000010000000100000000000000050000006400000002000000) ∷ patch_at 0 198 510 (hex 2 0x55aa) ∷ patch_at 0 200 446 (hex 32 0x0000000081000000010000000100000000000000050000006600000002000000) ∷ patch_at 0 200 510 (hex 2 0x55aa) ∷ patch_at 0 202 446 (hex 32 0x0000000081000000010000000100000000000000050000006800000002000000) ∷ patch_at 0 202 510 (hex 2 0x55aa) ∷ patch_at 0 204 446 (hex 32 0x0000000081000000010000000100000000000000050000006a00000002000000) ∷ patch_at 0 204 510 (hex 2 0x55aa) ∷ patch_at 0 206 446 (hex 32 0x0000000081000000010000000100000000000000050000006c00000002000000) ∷ patch_at 0 206 510 (hex 2 0x55aa) ∷ patch_at 0 208 446 (hex 32 0x0000000081000000010000000100000000000000050000006e00000002000000) ∷ patch_at 0 208 510 (hex 2 0x55aa) ∷ patch_at 0 210 446 (hex 32 0x0000000081000000010000000100000000000000050000007000000002000000) ∷ patch_at 0 210 510 (hex 2 0x55aa) ∷ patch_at 0 212 446 (hex 32 0x0000000081000000010000000100000000000000050000007200000002000000) ∷ patch_at 0 212 510 (hex 2 0x55aa) ∷ patch_at 0 214 446 (hex 32 0x0000000081000000010000000100000000000000050000007400000002000000) ∷ patch_at 0 214 510 (hex 2 0x55aa) ∷ patch_at 0 216 446 (hex 32 0x0000000081000000010000000100000000000000050000007600000001000000) ∷ patch_at 0 216 510 (hex 2 0x55aa) ∷ patch_at 0 218 446 (hex 16 0x000000008100000001000000f4010000) ∷ patch_at 0 218 510 (hex 2 0x55aa) ∷ [])) (machine_of (disk_with 300 16 63 ∷ [])) 0 ≡ Err TooMany
unfolding disk_name last_partition partition_name device_name devices_of named_devices device_at disk_number device_number named_device entry_at entries_of table_entries is_link is_plain link_of logical_of listed linked_sector chain_entries chain_tables partitions_of numbered_span span_of is_bootable number32 digits
case_29 = refl

-- the place of the whole disk
pub case_30 : span_of (disks_of []) (machine_of (disk_with 9 16 63 ∷ [])) (record { disk = 0; partition = 0 }) ≡ Ok (record { disk = 0; start = 0; count = 9 })
unfolding disk_name last_partition partition_name device_name devices_of named_devices device_at disk_number device_number named_device entry_at entries_of table_entries is_link is_plain link_of logical_of listed linked_sector chain_entries chain_tables partitions_of numbered_span span_of is_bootable number32 digits
case_30 = refl

-- the place of the whole of a disk that is absent
pub case_31 : span_of (disks_of []) (machine_of (disk_with 9 16 63 ∷ [])) (record { disk = 2; partition = 0 }) ≡ Err (NoDisk 2)
unfolding disk_name last_partition partition_name device_name devices_of named_devices device_at disk_number device_number named_device entry_at entries_of table_entries is_link is_plain link_of logical_of listed linked_sector chain_entries chain_tables partitions_of numbered_span span_of is_bootable number32 digits
case_31 = refl

-- the place of a partition of a disk that is absent
pub case_32 : span_of (disks_of []) (machine_of (disk_with 9 16 63 ∷ [])) (record { disk = 1; partition = 3 }) ≡ Err (NoDisk 1)
unfolding disk_name last_partition partition_name device_name devices_of named_devices device_at disk_number device_number named_device entry_at entries_of table_entries is_link is_plain link_of logical_of listed linked_sector chain_entries chain_tables partitions_of numbered_span span_of is_bootable number32 digits
case_32 = refl

-- the place of a partition with no table
pub case_33 : span_of (disks_of []) (machine_of (disk_with 9 16 63 ∷ [])) (record { disk = 0; partition = 1 }) ≡ Err (NoSignature 0)
unfolding disk_name last_partition partition_name device_name devices_of named_devices device_at disk_number device_number named_device entry_at entries_of table_entries is_link is_plain link_of logical_of listed linked_sector chain_entries chain_tables partitions_of numbered_span span_of is_bootable number32 digits
case_33 = refl

-- the place of a logical partition
pub case_34 : span_of (disks_of (patch_at 0 0 446 (hex 16 0x000000000500000064000000e8030000) ∷ patch_at 0 0 510 (hex 2 0x55aa) ∷ patch_at 0 100 446 (hex 16 0x00000000830000000a00000014000000) ∷ patch_at 0 100 510 (hex 2 0x55aa) ∷ [])) (machine_of (disk_with 2000 16 63 ∷ [])) (record { disk = 0; partition = 5 }) ≡ Ok (record { disk = 0; start = 110; count = 20 })
unfolding disk_name last_partition partition_name device_name devices_of named_devices device_at disk_number device_number named_device entry_at entries_of table_entries is_link is_plain link_of logical_of listed linked_sector chain_entries chain_tables partitions_of numbered_span span_of is_bootable number32 digits
case_34 = refl

-- the place of the extended partition
pub case_35 : span_of (disks_of (patch_at 0 0 446 (hex 16 0x000000000500000064000000e8030000) ∷ patch_at 0 0 510 (hex 2 0x55aa) ∷ patch_at 0 100 446 (hex 16 0x00000000830000000a00000014000000) ∷ patch_at 0 100 510 (hex 2 0x55aa) ∷ [])) (machine_of (disk_with 2000 16 63 ∷ [])) (record { disk = 0; partition = 1 }) ≡ Ok (record { disk = 0; start = 100; count = 1000 })
unfolding disk_name last_partition partition_name device_name devices_of named_devices device_at disk_number device_number named_device entry_at entries_of table_entries is_link is_plain link_of logical_of listed linked_sector chain_entries chain_tables partitions_of numbered_span span_of is_bootable number32 digits
case_35 = refl

-- the place of a number that is not there
pub case_36 : span_of (disks_of (patch_at 0 0 446 (hex 16 0x000000000500000064000000e8030000) ∷ patch_at 0 0 510 (hex 2 0x55aa) ∷ patch_at 0 100 446 (hex 16 0x00000000830000000a00000014000000) ∷ patch_at 0 100 510 (hex 2 0x55aa) ∷ [])) (machine_of (disk_with 2000 16 63 ∷ [])) (record { disk = 0; partition = 9 }) ≡ Err (NoPartition 9)
unfolding disk_name last_partition partition_name device_name devices_of named_devices device_at disk_number device_number named_device entry_at entries_of table_entries is_link is_plain link_of logical_of listed linked_sector chain_entries chain_tables partitions_of numbered_span span_of is_bootable number32 digits
case_36 = refl

-- the name "/dev/hda"
pub case_37 : device_at (codes "/dev/hda") ≡ Some (record { disk = 0; partition = 0 })
unfolding disk_name last_partition partition_name device_name devices_of named_devices device_at disk_number device_number named_device entry_at entries_of table_entries is_link is_plain link_of logical_of listed linked_sector chain_entries chain_tables partitions_of numbered_span span_of is_bootable number32 digits
case_37 = refl

-- the number of "/dev/hda"
pub case_38 : device_number (record { disk = 0; partition = 0 }) ≡ 0x300
unfolding disk_name last_partition partition_name device_name devices_of named_devices device_at disk_number device_number named_device entry_at entries_of table_entries is_link is_plain link_of logical_of listed linked_sector chain_entries chain_tables partitions_of numbered_span span_of is_bootable number32 digits
case_38 = refl

-- the name "/dev/hdb"
pub case_39 : device_at (codes "/dev/hdb") ≡ Some (record { disk = 1; partition = 0 })
unfolding disk_name last_partition partition_name device_name devices_of named_devices device_at disk_number device_number named_device entry_at entries_of table_entries is_link is_plain link_of logical_of listed linked_sector chain_entries chain_tables partitions_of numbered_span span_of is_bootable number32 digits
case_39 = refl

-- the number of "/dev/hdb"
pub case_40 : device_number (record { disk = 1; partition = 0 }) ≡ 0x340
unfolding disk_name last_partition partition_name device_name devices_of named_devices device_at disk_number device_number named_device entry_at entries_of table_entries is_link is_plain link_of logical_of listed linked_sector chain_entries chain_tables partitions_of numbered_span span_of is_bootable number32 digits
case_40 = refl

-- the name "/dev/sda"
pub case_41 : device_at (codes "/dev/sda") ≡ Some (record { disk = 2; partition = 0 })
unfolding disk_name last_partition partition_name device_name devices_of named_devices device_at disk_number device_number named_device entry_at entries_of table_entries is_link is_plain link_of logical_of listed linked_sector chain_entries chain_tables partitions_of numbered_span span_of is_bootable number32 digits
case_41 = refl

-- the number of "/dev/sda"
pub case_42 : device_number (record { disk = 2; partition = 0 }) ≡ 0x800
unfolding disk_name last_partition partition_name device_name devices_of named_devices device_at disk_number device_number named_device entry_at entries_of table_entries is_link is_plain link_of logical_of listed linked_sector chain_entries chain_tables partitions_of numbered_span span_of is_bootable number32 digits
case_42 = refl

-- the name "/dev/sdb"
pub case_43 : device_at (codes "/dev/sdb") ≡ Some (record { disk = 3; partition = 0 })
unfolding disk_name last_partition partition_name device_name devices_of named_devices device_at disk_number device_number named_device entry_at entries_of table_entries is_link is_plain link_of logical_of listed linked_sector chain_entries chain_tables partitions_of numbered_span span_of is_bootable number32 digits
case_43 = refl

-- the number of "/dev/sdb"
pub case_44 : device_number (record { disk = 3; partition = 0 }) ≡ 0x810
unfolding disk_name last_partition partition_name device_name devices_of named_devices device_at disk_number device_number named_device entry_at entries_of table_entries is_link is_plain link_of logical_of listed linked_sector chain_entries chain_tables partitions_of numbered_span span_of is_bootable number32 digits
case_44 = refl

-- the name "/dev/hda1"
pub case_45 : device_at (codes "/dev/hda1") ≡ Some (record { disk = 0; partition = 1 })
unfolding disk_name last_partition partition_name device_name devices_of named_devices device_at disk_number device_number named_device entry_at entries_of table_entries is_link is_plain link_of logical_of listed linked_sector chain_entries chain_tables partitions_of numbered_span span_of is_bootable number32 digits
case_45 = refl

-- the number of "/dev/hda1"
pub case_46 : device_number (record { disk = 0; partition = 1 }) ≡ 0x301
unfolding disk_name last_partition partition_name device_name devices_of named_devices device_at disk_number device_number named_device entry_at entries_of table_entries is_link is_plain link_of logical_of listed linked_sector chain_entries chain_tables partitions_of numbered_span span_of is_bootable number32 digits
case_46 = refl

-- the name "/dev/hda63"
pub case_47 : device_at (codes "/dev/hda63") ≡ Some (record { disk = 0; partition = 63 })
unfolding disk_name last_partition partition_name device_name devices_of named_devices device_at disk_number device_number named_device entry_at entries_of table_entries is_link is_plain link_of logical_of listed linked_sector chain_entries chain_tables partitions_of numbered_span span_of is_bootable number32 digits
case_47 = refl

-- the number of "/dev/hda63"
pub case_48 : device_number (record { disk = 0; partition = 63 }) ≡ 0x33f
unfolding disk_name last_partition partition_name device_name devices_of named_devices device_at disk_number device_number named_device entry_at entries_of table_entries is_link is_plain link_of logical_of listed linked_sector chain_entries chain_tables partitions_of numbered_span span_of is_bootable number32 digits
case_48 = refl

-- the name "/dev/hdb10"
pub case_49 : device_at (codes "/dev/hdb10") ≡ Some (record { disk = 1; partition = 10 })
unfolding disk_name last_partition partition_name device_name devices_of named_devices device_at disk_number device_number named_device entry_at entries_of table_entries is_link is_plain link_of logical_of listed linked_sector chain_entries chain_tables partitions_of numbered_span span_of is_bootable number32 digits
case_49 = refl

-- the number of "/dev/hdb10"
pub case_50 : device_number (record { disk = 1; partition = 10 }) ≡ 0x34a
unfolding disk_name last_partition partition_name device_name devices_of named_devices device_at disk_number device_number named_device entry_at entries_of table_entries is_link is_plain link_of logical_of listed linked_sector chain_entries chain_tables partitions_of numbered_span span_of is_bootable number32 digits
case_50 = refl

-- the name "/dev/sda9"
pub case_51 : device_at (codes "/dev/sda9") ≡ Some (record { disk = 2; partition = 9 })
unfolding disk_name last_partition partition_name device_name devices_of named_devices device_at disk_number device_number named_device entry_at entries_of table_entries is_link is_plain link_of logical_of listed linked_sector chain_entries chain_tables partitions_of numbered_span span_of is_bootable number32 digits
case_51 = refl

-- the number of "/dev/sda9"
pub case_52 : device_number (record { disk = 2; partition = 9 }) ≡ 0x809
unfolding disk_name last_partition partition_name device_name devices_of named_devices device_at disk_number device_number named_device entry_at entries_of table_entries is_link is_plain link_of logical_of listed linked_sector chain_entries chain_tables partitions_of numbered_span span_of is_bootable number32 digits
case_52 = refl

-- the name "/dev/sdb15"
pub case_53 : device_at (codes "/dev/sdb15") ≡ Some (record { disk = 3; partition = 15 })
unfolding disk_name last_partition partition_name device_name devices_of named_devices device_at disk_number device_number named_device entry_at entries_of table_entries is_link is_plain link_of logical_of listed linked_sector chain_entries chain_tables partitions_of numbered_span span_of is_bootable number32 digits
case_53 = refl

-- the number of "/dev/sdb15"
pub case_54 : device_number (record { disk = 3; partition = 15 }) ≡ 0x81f
unfolding disk_name last_partition partition_name device_name devices_of named_devices device_at disk_number device_number named_device entry_at entries_of table_entries is_link is_plain link_of logical_of listed linked_sector chain_entries chain_tables partitions_of numbered_span span_of is_bootable number32 digits
case_54 = refl

-- the name "/dev/sdb16"
pub case_55 : device_at (codes "/dev/sdb16") ≡ None
unfolding disk_name last_partition partition_name device_name devices_of named_devices device_at disk_number device_number named_device entry_at entries_of table_entries is_link is_plain link_of logical_of listed linked_sector chain_entries chain_tables partitions_of numbered_span span_of is_bootable number32 digits
case_55 = refl

-- the name "/dev/hda64"
pub case_56 : device_at (codes "/dev/hda64") ≡ None
unfolding disk_name last_partition partition_name device_name devices_of named_devices device_at disk_number device_number named_device entry_at entries_of table_entries is_link is_plain link_of logical_of listed linked_sector chain_entries chain_tables partitions_of numbered_span span_of is_bootable number32 digits
case_56 = refl

-- the name "/dev/hda0"
pub case_57 : device_at (codes "/dev/hda0") ≡ None
unfolding disk_name last_partition partition_name device_name devices_of named_devices device_at disk_number device_number named_device entry_at entries_of table_entries is_link is_plain link_of logical_of listed linked_sector chain_entries chain_tables partitions_of numbered_span span_of is_bootable number32 digits
case_57 = refl

-- the name "/dev/hda01"
pub case_58 : device_at (codes "/dev/hda01") ≡ None
unfolding disk_name last_partition partition_name device_name devices_of named_devices device_at disk_number device_number named_device entry_at entries_of table_entries is_link is_plain link_of logical_of listed linked_sector chain_entries chain_tables partitions_of numbered_span span_of is_bootable number32 digits
case_58 = refl

-- the name "/dev/hda1 "
pub case_59 : device_at (codes "/dev/hda1 ") ≡ None
unfolding disk_name last_partition partition_name device_name devices_of named_devices device_at disk_number device_number named_device entry_at entries_of table_entries is_link is_plain link_of logical_of listed linked_sector chain_entries chain_tables partitions_of numbered_span span_of is_bootable number32 digits
case_59 = refl

-- the name "/dev/hdc"
pub case_60 : device_at (codes "/dev/hdc") ≡ None
unfolding disk_name last_partition partition_name device_name devices_of named_devices device_at disk_number device_number named_device entry_at entries_of table_entries is_link is_plain link_of logical_of listed linked_sector chain_entries chain_tables partitions_of numbered_span span_of is_bootable number32 digits
case_60 = refl

-- the name "/dev/hda100"
pub case_61 : device_at (codes "/dev/hda100") ≡ None
unfolding disk_name last_partition partition_name device_name devices_of named_devices device_at disk_number device_number named_device entry_at entries_of table_entries is_link is_plain link_of logical_of listed linked_sector chain_entries chain_tables partitions_of numbered_span span_of is_bootable number32 digits
case_61 = refl

-- the name "hda1"
pub case_62 : device_at (codes "hda1") ≡ None
unfolding disk_name last_partition partition_name device_name devices_of named_devices device_at disk_number device_number named_device entry_at entries_of table_entries is_link is_plain link_of logical_of listed linked_sector chain_entries chain_tables partitions_of numbered_span span_of is_bootable number32 digits
case_62 = refl

-- the name "/dev/hd"
pub case_63 : device_at (codes "/dev/hd") ≡ None
unfolding disk_name last_partition partition_name device_name devices_of named_devices device_at disk_number device_number named_device entry_at entries_of table_entries is_link is_plain link_of logical_of listed linked_sector chain_entries chain_tables partitions_of numbered_span span_of is_bootable number32 digits
case_63 = refl

-- the name ""
pub case_64 : device_at ([]) ≡ None
unfolding disk_name last_partition partition_name device_name devices_of named_devices device_at disk_number device_number named_device entry_at entries_of table_entries is_link is_plain link_of logical_of listed linked_sector chain_entries chain_tables partitions_of numbered_span span_of is_bootable number32 digits
case_64 = refl

-- the name "/dev/hda/"
pub case_65 : device_at (codes "/dev/hda/") ≡ None
unfolding disk_name last_partition partition_name device_name devices_of named_devices device_at disk_number device_number named_device entry_at entries_of table_entries is_link is_plain link_of logical_of listed linked_sector chain_entries chain_tables partitions_of numbered_span span_of is_bootable number32 digits
case_65 = refl

-- the name "/dev/hda:"
pub case_66 : device_at (codes "/dev/hda:") ≡ None
unfolding disk_name last_partition partition_name device_name devices_of named_devices device_at disk_number device_number named_device entry_at entries_of table_entries is_link is_plain link_of logical_of listed linked_sector chain_entries chain_tables partitions_of numbered_span span_of is_bootable number32 digits
case_66 = refl

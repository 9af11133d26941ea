-- Cases of the model, written by tools/plan_cases.py: whether what a configuration names is apart, and which path is refused.
use Rattle.std.proofs.Common.{◌≡◌, ◌∷◌, ◌++◌, [], true, false, codes, None, Some, Err, refl}
use Rattle.std.specs.Prelude.{is_ok}
use Rattle.lilo_model.specs.Apart.{names_pair, is_apart_path, apart_checks}
use Rattle.lilo_model.specs.BootSector.{is_bootable, has_signature, has_options, has_names, has_slots, has_no_message, has_whole_message, has_message, has_zeros, is_whole, timeout_of, table_slots, boot_of, boot_at, field_bytes, merged_sector}
use Rattle.lilo_model.specs.Bytes.{number16, number32, is_zero}
use Rattle.lilo_model.specs.Conf.{ReadOnlyMount}
use Rattle.lilo_model.specs.Devices.{disk_name, last_partition, partition_name, device_name, devices_of, named_devices, device_at, disk_number, device_number}
use Rattle.lilo_model.specs.MinixEntries.{entry_of, entries_in, entry_at as minixentries_entry_at, find_entry, entries_at, is_dots}
use Rattle.lilo_model.specs.MinixFind.{components, child, find_path, file_block, file_at}
use Rattle.lilo_model.specs.MinixFindNames.{child_path, path_of}
use Rattle.lilo_model.specs.MinixLayout.{kind_of, super_of, super_checks, super_in, super_at, with_counts, super_bytes, v1_inode, v2_inode, inode_of, inode_at, v1_inode_bytes, v2_inode_bytes, inode_bytes, kept_inode, inode_place, V1Long}
use Rattle.lilo_model.specs.MinixNames.{zone_number, block, content, entry, first_named, lookup, reached, thing, names, names_in, IsSound}
use Rattle.lilo_model.specs.MinixParts.{bit, with_bit, parts_of, volume_at, number_in, follow, pointer_by, inside, follow_at, zone_at, block_at, content_at}
use Rattle.lilo_model.specs.NamePlaces.{name_path, default_backup, backup_path}
use Rattle.lilo_model.specs.Partitions.{named_device, entry_at, entries_of, table_entries, is_link, is_plain, link_of, logical_of, listed, linked_sector, chain_entries, chain_tables, partitions_of, numbered_span, span_of}
use Rattle.lilo_model.specs.Settled.{is_foreign, replaceable_name, own_names}
use Rattle.lilo_model.specs.Slots.{has_ranges, has_address, is_slot, is_one_slot, chs_of, address_of, slot_of, some_slot, slot_at, slot_bytes, to_chs, to_lba, sector_at, sectors_of, place_at, slot_make, could_be_one, Lba32Mode}
use Rattle.lilo_model.specs.MinixFind as trees
use Rattle.model_cases.specs.Sparse.{hex, patch_at, disks_of, disk_with, machine_of}
use Rattle.model_cases.specs.PlanDisks.{disk_files}

-- map is below a file
pub names_map_is_below_a_file : (is_ok (apart_checks (disks_of disk_files) (machine_of (disk_with 4096 16 63 ∷ [])) (record { span = record { disk = 0; start = 64; count = 4032 }; layout = record { kind = V1Long; inodes = 64; zones = 2016; imap = 1; zmap = 1; first = 6; max_size = 268966912; state = 1 } }) (record { boot = (Some (record { disk = 0; partition = 0 })); map = (codes "/boot/boot.b/map"); install = (Some (codes "/boot/boot.b")); backup = None; force_backup = None; compact = false; mode = Lba32Mode; default_name = (Some (codes "linux")); delay = 0; timeout = (Some 50); prompt = true; message = None; disks = []; sections = ((record { other = None; path = (codes "/boot/vmlinuz"); label = (codes "linux"); alias = None; initrd = (Some (codes "/boot/initrd")); root = (Some 769); mount = ReadOnlyMount; append = None; literal = None; vga = None; password = None; restricted = false; optional = false; lock = false; fallback = None; table = None; line = 8 }) ∷ []) }) (record { disk = 0; partition = 0 })) ≡ true) × (own_names (names_in (record { span = record { disk = 0; start = 64; count = 4032 }; layout = record { kind = V1Long; inodes = 64; zones = 2016; imap = 1; zmap = 1; first = 6; max_size = 268966912; state = 1 } }) (disks_of disk_files)) (record { boot = (Some (record { disk = 0; partition = 0 })); map = (codes "/boot/boot.b/map"); install = (Some (codes "/boot/boot.b")); backup = None; force_backup = None; compact = false; mode = Lba32Mode; default_name = (Some (codes "linux")); delay = 0; timeout = (Some 50); prompt = true; message = None; disks = []; sections = ((record { other = None; path = (codes "/boot/vmlinuz"); label = (codes "linux"); alias = None; initrd = (Some (codes "/boot/initrd")); root = (Some 769); mount = ReadOnlyMount; append = None; literal = None; vga = None; password = None; restricted = false; optional = false; lock = false; fallback = None; table = None; line = 8 }) ∷ []) }) (record { disk = 0; partition = 0 }) (is_foreign (disks_of disk_files 0 0)) ≡ Err (record { path = (codes "/boot/boot.b/map"); fault = trees.NotDirectory 2 }))
unfolding number16 number32 is_zero has_ranges has_address is_slot is_one_slot chs_of address_of slot_of some_slot slot_at slot_bytes to_chs to_lba sector_at sectors_of place_at slot_make could_be_one named_device entry_at entries_of table_entries is_link is_plain link_of logical_of listed linked_sector chain_entries chain_tables partitions_of numbered_span span_of disk_name last_partition partition_name device_name devices_of named_devices device_at disk_number device_number kind_of super_of super_checks super_in super_at with_counts super_bytes v1_inode v2_inode inode_of inode_at v1_inode_bytes v2_inode_bytes inode_bytes kept_inode inode_place bit with_bit parts_of volume_at number_in follow pointer_by inside follow_at zone_at block_at content_at entry_of entries_in minixentries_entry_at find_entry entries_at is_dots components child find_path file_block file_at zone_number block content entry first_named lookup reached thing names names_in IsSound child_path path_of is_bootable has_signature has_options has_names has_slots has_no_message has_whole_message has_message has_zeros is_whole timeout_of table_slots boot_of boot_at field_bytes merged_sector name_path default_backup backup_path names_pair is_apart_path apart_checks is_foreign replaceable_name own_names
names_map_is_below_a_file = (refl, refl)

-- map is a directory
pub names_map_is_a_directory : (is_ok (apart_checks (disks_of disk_files) (machine_of (disk_with 4096 16 63 ∷ [])) (record { span = record { disk = 0; start = 64; count = 4032 }; layout = record { kind = V1Long; inodes = 64; zones = 2016; imap = 1; zmap = 1; first = 6; max_size = 268966912; state = 1 } }) (record { boot = (Some (record { disk = 0; partition = 0 })); map = (codes "/boot/"); install = (Some (codes "/boot/boot.b")); backup = None; force_backup = None; compact = false; mode = Lba32Mode; default_name = (Some (codes "linux")); delay = 0; timeout = (Some 50); prompt = true; message = None; disks = []; sections = ((record { other = None; path = (codes "/boot/vmlinuz"); label = (codes "linux"); alias = None; initrd = (Some (codes "/boot/initrd")); root = (Some 769); mount = ReadOnlyMount; append = None; literal = None; vga = None; password = None; restricted = false; optional = false; lock = false; fallback = None; table = None; line = 8 }) ∷ []) }) (record { disk = 0; partition = 0 })) ≡ true) × (own_names (names_in (record { span = record { disk = 0; start = 64; count = 4032 }; layout = record { kind = V1Long; inodes = 64; zones = 2016; imap = 1; zmap = 1; first = 6; max_size = 268966912; state = 1 } }) (disks_of disk_files)) (record { boot = (Some (record { disk = 0; partition = 0 })); map = (codes "/boot/"); install = (Some (codes "/boot/boot.b")); backup = None; force_backup = None; compact = false; mode = Lba32Mode; default_name = (Some (codes "linux")); delay = 0; timeout = (Some 50); prompt = true; message = None; disks = []; sections = ((record { other = None; path = (codes "/boot/vmlinuz"); label = (codes "linux"); alias = None; initrd = (Some (codes "/boot/initrd")); root = (Some 769); mount = ReadOnlyMount; append = None; literal = None; vga = None; password = None; restricted = false; optional = false; lock = false; fallback = None; table = None; line = 8 }) ∷ []) }) (record { disk = 0; partition = 0 }) (is_foreign (disks_of disk_files 0 0)) ≡ Err (record { path = (codes "/boot/"); fault = trees.NotFile }))
unfolding number16 number32 is_zero has_ranges has_address is_slot is_one_slot chs_of address_of slot_of some_slot slot_at slot_bytes to_chs to_lba sector_at sectors_of place_at slot_make could_be_one named_device entry_at entries_of table_entries is_link is_plain link_of logical_of listed linked_sector chain_entries chain_tables partitions_of numbered_span span_of disk_name last_partition partition_name device_name devices_of named_devices device_at disk_number device_number kind_of super_of super_checks super_in super_at with_counts super_bytes v1_inode v2_inode inode_of inode_at v1_inode_bytes v2_inode_bytes inode_bytes kept_inode inode_place bit with_bit parts_of volume_at number_in follow pointer_by inside follow_at zone_at block_at content_at entry_of entries_in minixentries_entry_at find_entry entries_at is_dots components child find_path file_block file_at zone_number block content entry first_named lookup reached thing names names_in IsSound child_path path_of is_bootable has_signature has_options has_names has_slots has_no_message has_whole_message has_message has_zeros is_whole timeout_of table_slots boot_of boot_at field_bytes merged_sector name_path default_backup backup_path names_pair is_apart_path apart_checks is_foreign replaceable_name own_names
names_map_is_a_directory = (refl, refl)

-- map is a dot
pub names_map_is_a_dot : (is_ok (apart_checks (disks_of disk_files) (machine_of (disk_with 4096 16 63 ∷ [])) (record { span = record { disk = 0; start = 64; count = 4032 }; layout = record { kind = V1Long; inodes = 64; zones = 2016; imap = 1; zmap = 1; first = 6; max_size = 268966912; state = 1 } }) (record { boot = (Some (record { disk = 0; partition = 0 })); map = (codes "/boot/."); install = (Some (codes "/boot/boot.b")); backup = None; force_backup = None; compact = false; mode = Lba32Mode; default_name = (Some (codes "linux")); delay = 0; timeout = (Some 50); prompt = true; message = None; disks = []; sections = ((record { other = None; path = (codes "/boot/vmlinuz"); label = (codes "linux"); alias = None; initrd = (Some (codes "/boot/initrd")); root = (Some 769); mount = ReadOnlyMount; append = None; literal = None; vga = None; password = None; restricted = false; optional = false; lock = false; fallback = None; table = None; line = 8 }) ∷ []) }) (record { disk = 0; partition = 0 })) ≡ true) × (own_names (names_in (record { span = record { disk = 0; start = 64; count = 4032 }; layout = record { kind = V1Long; inodes = 64; zones = 2016; imap = 1; zmap = 1; first = 6; max_size = 268966912; state = 1 } }) (disks_of disk_files)) (record { boot = (Some (record { disk = 0; partition = 0 })); map = (codes "/boot/."); install = (Some (codes "/boot/boot.b")); backup = None; force_backup = None; compact = false; mode = Lba32Mode; default_name = (Some (codes "linux")); delay = 0; timeout = (Some 50); prompt = true; message = None; disks = []; sections = ((record { other = None; path = (codes "/boot/vmlinuz"); label = (codes "linux"); alias = None; initrd = (Some (codes "/boot/initrd")); root = (Some 769); mount = ReadOnlyMount; append = None; literal = None; vga = None; password = None; restricted = false; optional = false; lock = false; fallback = None; table = None; line = 8 }) ∷ []) }) (record { disk = 0; partition = 0 }) (is_foreign (disks_of disk_files 0 0)) ≡ Err (record { path = (codes "/boot/."); fault = trees.NotFile }))
unfolding number16 number32 is_zero has_ranges has_address is_slot is_one_slot chs_of address_of slot_of some_slot slot_at slot_bytes to_chs to_lba sector_at sectors_of place_at slot_make could_be_one named_device entry_at entries_of table_entries is_link is_plain link_of logical_of listed linked_sector chain_entries chain_tables partitions_of numbered_span span_of disk_name last_partition partition_name device_name devices_of named_devices device_at disk_number device_number kind_of super_of super_checks super_in super_at with_counts super_bytes v1_inode v2_inode inode_of inode_at v1_inode_bytes v2_inode_bytes inode_bytes kept_inode inode_place bit with_bit parts_of volume_at number_in follow pointer_by inside follow_at zone_at block_at content_at entry_of entries_in minixentries_entry_at find_entry entries_at is_dots components child find_path file_block file_at zone_number block content entry first_named lookup reached thing names names_in IsSound child_path path_of is_bootable has_signature has_options has_names has_slots has_no_message has_whole_message has_message has_zeros is_whole timeout_of table_slots boot_of boot_at field_bytes merged_sector name_path default_backup backup_path names_pair is_apart_path apart_checks is_foreign replaceable_name own_names
names_map_is_a_dot = (refl, refl)

-- map is two dots
pub names_map_is_two_dots : (is_ok (apart_checks (disks_of disk_files) (machine_of (disk_with 4096 16 63 ∷ [])) (record { span = record { disk = 0; start = 64; count = 4032 }; layout = record { kind = V1Long; inodes = 64; zones = 2016; imap = 1; zmap = 1; first = 6; max_size = 268966912; state = 1 } }) (record { boot = (Some (record { disk = 0; partition = 0 })); map = (codes "/boot/.."); install = (Some (codes "/boot/boot.b")); backup = None; force_backup = None; compact = false; mode = Lba32Mode; default_name = (Some (codes "linux")); delay = 0; timeout = (Some 50); prompt = true; message = None; disks = []; sections = ((record { other = None; path = (codes "/boot/vmlinuz"); label = (codes "linux"); alias = None; initrd = (Some (codes "/boot/initrd")); root = (Some 769); mount = ReadOnlyMount; append = None; literal = None; vga = None; password = None; restricted = false; optional = false; lock = false; fallback = None; table = None; line = 8 }) ∷ []) }) (record { disk = 0; partition = 0 })) ≡ true) × (own_names (names_in (record { span = record { disk = 0; start = 64; count = 4032 }; layout = record { kind = V1Long; inodes = 64; zones = 2016; imap = 1; zmap = 1; first = 6; max_size = 268966912; state = 1 } }) (disks_of disk_files)) (record { boot = (Some (record { disk = 0; partition = 0 })); map = (codes "/boot/.."); install = (Some (codes "/boot/boot.b")); backup = None; force_backup = None; compact = false; mode = Lba32Mode; default_name = (Some (codes "linux")); delay = 0; timeout = (Some 50); prompt = true; message = None; disks = []; sections = ((record { other = None; path = (codes "/boot/vmlinuz"); label = (codes "linux"); alias = None; initrd = (Some (codes "/boot/initrd")); root = (Some 769); mount = ReadOnlyMount; append = None; literal = None; vga = None; password = None; restricted = false; optional = false; lock = false; fallback = None; table = None; line = 8 }) ∷ []) }) (record { disk = 0; partition = 0 }) (is_foreign (disks_of disk_files 0 0)) ≡ Err (record { path = (codes "/boot/.."); fault = trees.NotFile }))
unfolding number16 number32 is_zero has_ranges has_address is_slot is_one_slot chs_of address_of slot_of some_slot slot_at slot_bytes to_chs to_lba sector_at sectors_of place_at slot_make could_be_one named_device entry_at entries_of table_entries is_link is_plain link_of logical_of listed linked_sector chain_entries chain_tables partitions_of numbered_span span_of disk_name last_partition partition_name device_name devices_of named_devices device_at disk_number device_number kind_of super_of super_checks super_in super_at with_counts super_bytes v1_inode v2_inode inode_of inode_at v1_inode_bytes v2_inode_bytes inode_bytes kept_inode inode_place bit with_bit parts_of volume_at number_in follow pointer_by inside follow_at zone_at block_at content_at entry_of entries_in minixentries_entry_at find_entry entries_at is_dots components child find_path file_block file_at zone_number block content entry first_named lookup reached thing names names_in IsSound child_path path_of is_bootable has_signature has_options has_names has_slots has_no_message has_whole_message has_message has_zeros is_whole timeout_of table_slots boot_of boot_at field_bytes merged_sector name_path default_backup backup_path names_pair is_apart_path apart_checks is_foreign replaceable_name own_names
names_map_is_two_dots = (refl, refl)

-- map is a link
pub names_map_is_a_link : (is_ok (apart_checks (disks_of (disk_files ++ (patch_at 0 68 1 (hex 1 0x01) ∷ patch_at 0 70 1 (hex 1 0x03) ∷ patch_at 0 72 36 (hex 1 0xc0) ∷ patch_at 0 72 192 (hex 2 0xffa1) ∷ patch_at 0 72 224 (hex 5 0xa481000001) ∷ patch_at 0 72 237 (hex 2 0x010e) ∷ patch_at 0 78 160 (hex 3 0x07006c) ∷ patch_at 0 80 64 (hex 1 0x08) ∷ patch_at 0 90 0 (codes "m") ∷ patch_at 0 92 0 (codes "#") ∷ []))) (machine_of (disk_with 4096 16 63 ∷ [])) (record { span = record { disk = 0; start = 64; count = 4032 }; layout = record { kind = V1Long; inodes = 64; zones = 2016; imap = 1; zmap = 1; first = 6; max_size = 268966912; state = 1 } }) (record { boot = (Some (record { disk = 0; partition = 0 })); map = (codes "/boot/l"); install = (Some (codes "/boot/boot.b")); backup = None; force_backup = None; compact = false; mode = Lba32Mode; default_name = (Some (codes "linux")); delay = 0; timeout = (Some 50); prompt = true; message = None; disks = []; sections = ((record { other = None; path = (codes "/boot/vmlinuz"); label = (codes "linux"); alias = None; initrd = (Some (codes "/boot/initrd")); root = (Some 769); mount = ReadOnlyMount; append = None; literal = None; vga = None; password = None; restricted = false; optional = false; lock = false; fallback = None; table = None; line = 8 }) ∷ []) }) (record { disk = 0; partition = 0 })) ≡ true) × (own_names (names_in (record { span = record { disk = 0; start = 64; count = 4032 }; layout = record { kind = V1Long; inodes = 64; zones = 2016; imap = 1; zmap = 1; first = 6; max_size = 268966912; state = 1 } }) (disks_of (disk_files ++ (patch_at 0 68 1 (hex 1 0x01) ∷ patch_at 0 70 1 (hex 1 0x03) ∷ patch_at 0 72 36 (hex 1 0xc0) ∷ patch_at 0 72 192 (hex 2 0xffa1) ∷ patch_at 0 72 224 (hex 5 0xa481000001) ∷ patch_at 0 72 237 (hex 2 0x010e) ∷ patch_at 0 78 160 (hex 3 0x07006c) ∷ patch_at 0 80 64 (hex 1 0x08) ∷ patch_at 0 90 0 (codes "m") ∷ patch_at 0 92 0 (codes "#") ∷ [])))) (record { boot = (Some (record { disk = 0; partition = 0 })); map = (codes "/boot/l"); install = (Some (codes "/boot/boot.b")); backup = None; force_backup = None; compact = false; mode = Lba32Mode; default_name = (Some (codes "linux")); delay = 0; timeout = (Some 50); prompt = true; message = None; disks = []; sections = ((record { other = None; path = (codes "/boot/vmlinuz"); label = (codes "linux"); alias = None; initrd = (Some (codes "/boot/initrd")); root = (Some 769); mount = ReadOnlyMount; append = None; literal = None; vga = None; password = None; restricted = false; optional = false; lock = false; fallback = None; table = None; line = 8 }) ∷ []) }) (record { disk = 0; partition = 0 }) (is_foreign (disks_of (disk_files ++ (patch_at 0 68 1 (hex 1 0x01) ∷ patch_at 0 70 1 (hex 1 0x03) ∷ patch_at 0 72 36 (hex 1 0xc0) ∷ patch_at 0 72 192 (hex 2 0xffa1) ∷ patch_at 0 72 224 (hex 5 0xa481000001) ∷ patch_at 0 72 237 (hex 2 0x010e) ∷ patch_at 0 78 160 (hex 3 0x07006c) ∷ patch_at 0 80 64 (hex 1 0x08) ∷ patch_at 0 90 0 (codes "m") ∷ patch_at 0 92 0 (codes "#") ∷ [])) 0 0)) ≡ Err (record { path = (codes "/boot/l"); fault = trees.NotFile }))
unfolding number16 number32 is_zero has_ranges has_address is_slot is_one_slot chs_of address_of slot_of some_slot slot_at slot_bytes to_chs to_lba sector_at sectors_of place_at slot_make could_be_one named_device entry_at entries_of table_entries is_link is_plain link_of logical_of listed linked_sector chain_entries chain_tables partitions_of numbered_span span_of disk_name last_partition partition_name device_name devices_of named_devices device_at disk_number device_number kind_of super_of super_checks super_in super_at with_counts super_bytes v1_inode v2_inode inode_of inode_at v1_inode_bytes v2_inode_bytes inode_bytes kept_inode inode_place bit with_bit parts_of volume_at number_in follow pointer_by inside follow_at zone_at block_at content_at entry_of entries_in minixentries_entry_at find_entry entries_at is_dots components child find_path file_block file_at zone_number block content entry first_named lookup reached thing names names_in IsSound child_path path_of is_bootable has_signature has_options has_names has_slots has_no_message has_whole_message has_message has_zeros is_whole timeout_of table_slots boot_of boot_at field_bytes merged_sector name_path default_backup backup_path names_pair is_apart_path apart_checks is_foreign replaceable_name own_names
names_map_is_a_link = (refl, refl)

-- map~ is a directory
pub names_map_is_a_directory_2 : (is_ok (apart_checks (disks_of (disk_files ++ (patch_at 0 68 1 (hex 1 0x01) ∷ patch_at 0 70 1 (hex 1 0x03) ∷ patch_at 0 72 36 (hex 1 0xc0) ∷ patch_at 0 72 45 (hex 1 0x03) ∷ patch_at 0 72 192 (hex 5 0xed41000040) ∷ patch_at 0 72 205 (hex 1 0x02) ∷ patch_at 0 72 224 (hex 5 0xa481000001) ∷ patch_at 0 72 237 (hex 2 0x010e) ∷ patch_at 0 78 160 (hex 6 0x07006d61707e) ∷ patch_at 0 80 64 (hex 1 0x08) ∷ patch_at 0 90 0 (hex 3 0x07002e) ∷ patch_at 0 90 32 (hex 4 0x02002e2e) ∷ patch_at 0 92 0 (codes "#") ∷ []))) (machine_of (disk_with 4096 16 63 ∷ [])) (record { span = record { disk = 0; start = 64; count = 4032 }; layout = record { kind = V1Long; inodes = 64; zones = 2016; imap = 1; zmap = 1; first = 6; max_size = 268966912; state = 1 } }) (record { boot = (Some (record { disk = 0; partition = 0 })); map = (codes "/boot/map"); install = (Some (codes "/boot/boot.b")); backup = None; force_backup = None; compact = false; mode = Lba32Mode; default_name = (Some (codes "linux")); delay = 0; timeout = (Some 50); prompt = true; message = None; disks = []; sections = ((record { other = None; path = (codes "/boot/vmlinuz"); label = (codes "linux"); alias = None; initrd = (Some (codes "/boot/initrd")); root = (Some 769); mount = ReadOnlyMount; append = None; literal = None; vga = None; password = None; restricted = false; optional = false; lock = false; fallback = None; table = None; line = 8 }) ∷ []) }) (record { disk = 0; partition = 0 })) ≡ true) × (own_names (names_in (record { span = record { disk = 0; start = 64; count = 4032 }; layout = record { kind = V1Long; inodes = 64; zones = 2016; imap = 1; zmap = 1; first = 6; max_size = 268966912; state = 1 } }) (disks_of (disk_files ++ (patch_at 0 68 1 (hex 1 0x01) ∷ patch_at 0 70 1 (hex 1 0x03) ∷ patch_at 0 72 36 (hex 1 0xc0) ∷ patch_at 0 72 45 (hex 1 0x03) ∷ patch_at 0 72 192 (hex 5 0xed41000040) ∷ patch_at 0 72 205 (hex 1 0x02) ∷ patch_at 0 72 224 (hex 5 0xa481000001) ∷ patch_at 0 72 237 (hex 2 0x010e) ∷ patch_at 0 78 160 (hex 6 0x07006d61707e) ∷ patch_at 0 80 64 (hex 1 0x08) ∷ patch_at 0 90 0 (hex 3 0x07002e) ∷ patch_at 0 90 32 (hex 4 0x02002e2e) ∷ patch_at 0 92 0 (codes "#") ∷ [])))) (record { boot = (Some (record { disk = 0; partition = 0 })); map = (codes "/boot/map"); install = (Some (codes "/boot/boot.b")); backup = None; force_backup = None; compact = false; mode = Lba32Mode; default_name = (Some (codes "linux")); delay = 0; timeout = (Some 50); prompt = true; message = None; disks = []; sections = ((record { other = None; path = (codes "/boot/vmlinuz"); label = (codes "linux"); alias = None; initrd = (Some (codes "/boot/initrd")); root = (Some 769); mount = ReadOnlyMount; append = None; literal = None; vga = None; password = None; restricted = false; optional = false; lock = false; fallback = None; table = None; line = 8 }) ∷ []) }) (record { disk = 0; partition = 0 }) (is_foreign (disks_of (disk_files ++ (patch_at 0 68 1 (hex 1 0x01) ∷ patch_at 0 70 1 (hex 1 0x03) ∷ patch_at 0 72 36 (hex 1 0xc0) ∷ patch_at 0 72 45 (hex 1 0x03) ∷ patch_at 0 72 192 (hex 5 0xed41000040) ∷ patch_at 0 72 205 (hex 1 0x02) ∷ patch_at 0 72 224 (hex 5 0xa481000001) ∷ patch_at 0 72 237 (hex 2 0x010e) ∷ patch_at 0 78 160 (hex 6 0x07006d61707e) ∷ patch_at 0 80 64 (hex 1 0x08) ∷ patch_at 0 90 0 (hex 3 0x07002e) ∷ patch_at 0 90 32 (hex 4 0x02002e2e) ∷ patch_at 0 92 0 (codes "#") ∷ [])) 0 0)) ≡ Err (record { path = (codes "/boot/map"); fault = trees.NotFile }))
unfolding number16 number32 is_zero has_ranges has_address is_slot is_one_slot chs_of address_of slot_of some_slot slot_at slot_bytes to_chs to_lba sector_at sectors_of place_at slot_make could_be_one named_device entry_at entries_of table_entries is_link is_plain link_of logical_of listed linked_sector chain_entries chain_tables partitions_of numbered_span span_of disk_name last_partition partition_name device_name devices_of named_devices device_at disk_number device_number kind_of super_of super_checks super_in super_at with_counts super_bytes v1_inode v2_inode inode_of inode_at v1_inode_bytes v2_inode_bytes inode_bytes kept_inode inode_place bit with_bit parts_of volume_at number_in follow pointer_by inside follow_at zone_at block_at content_at entry_of entries_in minixentries_entry_at find_entry entries_at is_dots components child find_path file_block file_at zone_number block content entry first_named lookup reached thing names names_in IsSound child_path path_of is_bootable has_signature has_options has_names has_slots has_no_message has_whole_message has_message has_zeros is_whole timeout_of table_slots boot_of boot_at field_bytes merged_sector name_path default_backup backup_path names_pair is_apart_path apart_checks is_foreign replaceable_name own_names
names_map_is_a_directory_2 = (refl, refl)

-- map is the root
pub names_map_is_the_root : (is_ok (apart_checks (disks_of disk_files) (machine_of (disk_with 4096 16 63 ∷ [])) (record { span = record { disk = 0; start = 64; count = 4032 }; layout = record { kind = V1Long; inodes = 64; zones = 2016; imap = 1; zmap = 1; first = 6; max_size = 268966912; state = 1 } }) (record { boot = (Some (record { disk = 0; partition = 0 })); map = (codes "//"); install = (Some (codes "/boot/boot.b")); backup = None; force_backup = None; compact = false; mode = Lba32Mode; default_name = (Some (codes "linux")); delay = 0; timeout = (Some 50); prompt = true; message = None; disks = []; sections = ((record { other = None; path = (codes "/boot/vmlinuz"); label = (codes "linux"); alias = None; initrd = (Some (codes "/boot/initrd")); root = (Some 769); mount = ReadOnlyMount; append = None; literal = None; vga = None; password = None; restricted = false; optional = false; lock = false; fallback = None; table = None; line = 8 }) ∷ []) }) (record { disk = 0; partition = 0 })) ≡ true) × (own_names (names_in (record { span = record { disk = 0; start = 64; count = 4032 }; layout = record { kind = V1Long; inodes = 64; zones = 2016; imap = 1; zmap = 1; first = 6; max_size = 268966912; state = 1 } }) (disks_of disk_files)) (record { boot = (Some (record { disk = 0; partition = 0 })); map = (codes "//"); install = (Some (codes "/boot/boot.b")); backup = None; force_backup = None; compact = false; mode = Lba32Mode; default_name = (Some (codes "linux")); delay = 0; timeout = (Some 50); prompt = true; message = None; disks = []; sections = ((record { other = None; path = (codes "/boot/vmlinuz"); label = (codes "linux"); alias = None; initrd = (Some (codes "/boot/initrd")); root = (Some 769); mount = ReadOnlyMount; append = None; literal = None; vga = None; password = None; restricted = false; optional = false; lock = false; fallback = None; table = None; line = 8 }) ∷ []) }) (record { disk = 0; partition = 0 }) (is_foreign (disks_of disk_files 0 0)) ≡ Err (record { path = (codes "//"); fault = trees.NotFile }))
unfolding number16 number32 is_zero has_ranges has_address is_slot is_one_slot chs_of address_of slot_of some_slot slot_at slot_bytes to_chs to_lba sector_at sectors_of place_at slot_make could_be_one named_device entry_at entries_of table_entries is_link is_plain link_of logical_of listed linked_sector chain_entries chain_tables partitions_of numbered_span span_of disk_name last_partition partition_name device_name devices_of named_devices device_at disk_number device_number kind_of super_of super_checks super_in super_at with_counts super_bytes v1_inode v2_inode inode_of inode_at v1_inode_bytes v2_inode_bytes inode_bytes kept_inode inode_place bit with_bit parts_of volume_at number_in follow pointer_by inside follow_at zone_at block_at content_at entry_of entries_in minixentries_entry_at find_entry entries_at is_dots components child find_path file_block file_at zone_number block content entry first_named lookup reached thing names names_in IsSound child_path path_of is_bootable has_signature has_options has_names has_slots has_no_message has_whole_message has_message has_zeros is_whole timeout_of table_slots boot_of boot_at field_bytes merged_sector name_path default_backup backup_path names_pair is_apart_path apart_checks is_foreign replaceable_name own_names
names_map_is_the_root = (refl, refl)

-- the backup is a directory
pub names_the_backup_is_a_directory : (is_ok (apart_checks (disks_of disk_files) (machine_of (disk_with 4096 16 63 ∷ [])) (record { span = record { disk = 0; start = 64; count = 4032 }; layout = record { kind = V1Long; inodes = 64; zones = 2016; imap = 1; zmap = 1; first = 6; max_size = 268966912; state = 1 } }) (record { boot = (Some (record { disk = 0; partition = 0 })); map = (codes "/boot/map"); install = (Some (codes "/boot/boot.b")); backup = (Some (codes "/etc")); force_backup = None; compact = false; mode = Lba32Mode; default_name = (Some (codes "linux")); delay = 0; timeout = (Some 50); prompt = true; message = None; disks = []; sections = ((record { other = None; path = (codes "/boot/vmlinuz"); label = (codes "linux"); alias = None; initrd = (Some (codes "/boot/initrd")); root = (Some 769); mount = ReadOnlyMount; append = None; literal = None; vga = None; password = None; restricted = false; optional = false; lock = false; fallback = None; table = None; line = 9 }) ∷ []) }) (record { disk = 0; partition = 0 })) ≡ true) × (own_names (names_in (record { span = record { disk = 0; start = 64; count = 4032 }; layout = record { kind = V1Long; inodes = 64; zones = 2016; imap = 1; zmap = 1; first = 6; max_size = 268966912; state = 1 } }) (disks_of disk_files)) (record { boot = (Some (record { disk = 0; partition = 0 })); map = (codes "/boot/map"); install = (Some (codes "/boot/boot.b")); backup = (Some (codes "/etc")); force_backup = None; compact = false; mode = Lba32Mode; default_name = (Some (codes "linux")); delay = 0; timeout = (Some 50); prompt = true; message = None; disks = []; sections = ((record { other = None; path = (codes "/boot/vmlinuz"); label = (codes "linux"); alias = None; initrd = (Some (codes "/boot/initrd")); root = (Some 769); mount = ReadOnlyMount; append = None; literal = None; vga = None; password = None; restricted = false; optional = false; lock = false; fallback = None; table = None; line = 9 }) ∷ []) }) (record { disk = 0; partition = 0 }) (is_foreign (disks_of disk_files 0 0)) ≡ Err (record { path = (codes "/etc"); fault = trees.NotFile }))
unfolding number16 number32 is_zero has_ranges has_address is_slot is_one_slot chs_of address_of slot_of some_slot slot_at slot_bytes to_chs to_lba sector_at sectors_of place_at slot_make could_be_one named_device entry_at entries_of table_entries is_link is_plain link_of logical_of listed linked_sector chain_entries chain_tables partitions_of numbered_span span_of disk_name last_partition partition_name device_name devices_of named_devices device_at disk_number device_number kind_of super_of super_checks super_in super_at with_counts super_bytes v1_inode v2_inode inode_of inode_at v1_inode_bytes v2_inode_bytes inode_bytes kept_inode inode_place bit with_bit parts_of volume_at number_in follow pointer_by inside follow_at zone_at block_at content_at entry_of entries_in minixentries_entry_at find_entry entries_at is_dots components child find_path file_block file_at zone_number block content entry first_named lookup reached thing names names_in IsSound child_path path_of is_bootable has_signature has_options has_names has_slots has_no_message has_whole_message has_message has_zeros is_whole timeout_of table_slots boot_of boot_at field_bytes merged_sector name_path default_backup backup_path names_pair is_apart_path apart_checks is_foreign replaceable_name own_names
names_the_backup_is_a_directory = (refl, refl)

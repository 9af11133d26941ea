-- Cases of the model, written by tools/plan_cases.py: why no map is planned.
use Rattle.std.proofs.Common.{◌≡◌, ◌∷◌, [], true, false, codes, None, Some, Err, refl}
use Rattle.std.specs.Prelude.{is_ok}
use Rattle.std.specs.Fmt.{digits}
use Rattle.lilo_model.specs.BootSector.{is_bootable, has_signature, has_options, has_names, has_slots, has_no_message, has_whole_message, has_message, has_zeros, is_whole, timeout_of, table_slots, boot_of, boot_at, field_bytes, merged_sector}
use Rattle.lilo_model.specs.Bytes.{number16, number32, is_zero}
use Rattle.lilo_model.specs.Conf.{Unsaid, ReadOnlyMount}
use Rattle.lilo_model.specs.ConfLawful.{names_of_section, names_of_config}
use Rattle.lilo_model.specs.ConfOptions.{opt_name, all_options, option_at, opt_number, takes_of, places_of, stands_in, opens, is_of_disk, is_of_name, excluded_by}
use Rattle.lilo_model.specs.Devices.{disk_name, last_partition, partition_name, device_name, devices_of, named_devices, device_at, disk_number, device_number}
use Rattle.lilo_model.specs.Header.{setup_of, version_of, header_of, header_at, fit_checks, plan_memory, replaced_fields, patch}
use Rattle.lilo_model.specs.Meant.{started, menu_decision, menu_boot, file_of, middle_text, target_of, menu_entries, menu_of, meant}
use Rattle.lilo_model.specs.MinixEntries.{entry_of, entries_in, entry_at as minixentries_entry_at, find_entry, entries_at, is_dots}
use Rattle.lilo_model.specs.MinixFind.{components, child, find_path, file_block, file_at}
use Rattle.lilo_model.specs.MinixFindNames.{child_path, path_of}
use Rattle.lilo_model.specs.MinixLayout.{kind_of, super_of, super_checks, super_in, super_at, with_counts, super_bytes, v1_inode, v2_inode, inode_of, inode_at, v1_inode_bytes, v2_inode_bytes, inode_bytes, kept_inode, inode_place, V1Long}
use Rattle.lilo_model.specs.MinixNames.{zone_number, block, content, entry, first_named, lookup, reached, thing, names, names_in, IsSound}
use Rattle.lilo_model.specs.MinixParts.{bit, with_bit, parts_of, volume_at, number_in, follow, pointer_by, inside, follow_at, zone_at, block_at, content_at}
use Rattle.lilo_model.specs.Partitions.{named_device, entry_at, entries_of, table_entries, is_link, is_plain, link_of, logical_of, listed, linked_sector, chain_entries, chain_tables, partitions_of, numbered_span, span_of}
use Rattle.lilo_model.specs.Place.{command_line, written_by, place, kernel_fit}
use Rattle.lilo_model.specs.Plan.{slot_to, slots_for, chain_for, file_slots, file_sectors, section_sectors_at, flags_of, descriptor_for, plan_entries, sectors_of_table, sectors_after, plan_sectors, map_size, plan_names, plan_boot, plan_boot_sector}
use Rattle.lilo_model.specs.PlanRefusal.{file_checks, held_checks, address_checks, plan_at, own_places_check, plan_text, Missing, Table, Tree, plan_status}
use Rattle.lilo_model.specs.Planned.{devices_in, inode_places, mapped_inode, file_inode, mapped_section, code_in, planned}
use Rattle.lilo_model.specs.Slots.{has_ranges, has_address, is_slot, is_one_slot, chs_of, address_of, slot_of, some_slot, slot_at, slot_bytes, to_chs, to_lba, sector_at, sectors_of, place_at, slot_make, could_be_one, ChsMode, Lba32Mode}
use Rattle.lilo_model.specs.MinixFind as trees
use Rattle.lilo_model.specs.Partitions as tables
use Rattle.model_cases.specs.Sparse.{disks_of, disk_with, machine_of}
use Rattle.model_cases.specs.PlanDisks.{disk_files, disk_systems}

-- nothing is refused
pub refused_nothing_is_refused : is_ok (plan_at (disks_of disk_files) (machine_of (disk_with 4096 16 63 ∷ [])) (record { span = record { disk = 0; start = 64; count = 4032 }; layout = record { kind = V1Long; inodes = 64; zones = 2016; imap = 1; zmap = 1; first = 6; max_size = 268966912; state = 1 } }) (record { disk = 0; start = 0; count = 4096 }) (record { boot = (Some (record { disk = 0; partition = 0 })); map = (codes "/boot/map"); install = (Some (codes "/boot/boot.b")); backup = None; force_backup = None; compact = false; mode = Lba32Mode; default_name = (Some (codes "linux")); delay = 0; timeout = (Some 50); prompt = true; message = None; disks = []; sections = ((record { other = None; path = (codes "/boot/vmlinuz"); label = (codes "linux"); alias = None; initrd = (Some (codes "/boot/initrd")); root = (Some 769); mount = ReadOnlyMount; append = None; literal = None; vga = None; password = None; restricted = false; optional = false; lock = false; fallback = None; table = None; line = 8 }) ∷ []) }) 0) ≡ true
unfolding number16 number32 is_zero has_ranges has_address is_slot is_one_slot chs_of address_of slot_of some_slot slot_at slot_bytes to_chs to_lba sector_at sectors_of place_at slot_make could_be_one named_device entry_at entries_of table_entries is_link is_plain link_of logical_of listed linked_sector chain_entries chain_tables partitions_of numbered_span span_of disk_name last_partition partition_name device_name devices_of named_devices device_at disk_number device_number kind_of super_of super_checks super_in super_at with_counts super_bytes v1_inode v2_inode inode_of inode_at v1_inode_bytes v2_inode_bytes inode_bytes kept_inode inode_place bit with_bit parts_of volume_at number_in follow pointer_by inside follow_at zone_at block_at content_at entry_of entries_in minixentries_entry_at find_entry entries_at is_dots components child find_path file_block file_at zone_number block content entry first_named lookup reached thing names names_in IsSound child_path path_of is_bootable has_signature has_options has_names has_slots has_no_message has_whole_message has_message has_zeros is_whole timeout_of table_slots boot_of boot_at field_bytes merged_sector names_of_section names_of_config started menu_decision menu_boot file_of middle_text target_of menu_entries menu_of meant slot_to slots_for chain_for file_slots file_sectors section_sectors_at flags_of descriptor_for plan_entries sectors_of_table sectors_after plan_sectors map_size plan_names plan_boot plan_boot_sector devices_in inode_places mapped_inode file_inode mapped_section code_in planned file_checks held_checks address_checks plan_at own_places_check plan_text opt_name all_options option_at opt_number takes_of places_of stands_in opens is_of_disk is_of_name excluded_by setup_of version_of header_of header_at fit_checks plan_memory replaced_fields patch command_line written_by place kernel_fit digits
refused_nothing_is_refused = refl

-- the code is missing, and so are the message and the kernel
pub refused_the_code_is_missing_and_so_are_the_message_and_the_kernel : (plan_at (disks_of disk_systems) (machine_of (disk_with 4096 16 63 ∷ disk_with 2000 4 17 ∷ [])) (record { span = record { disk = 0; start = 64; count = 4032 }; layout = record { kind = V1Long; inodes = 64; zones = 2016; imap = 1; zmap = 1; first = 6; max_size = 268966912; state = 1 } }) (record { disk = 0; start = 0; count = 4096 }) (record { boot = (Some (record { disk = 0; partition = 0 })); map = (codes "/boot/map"); install = (Some (codes "/gone")); backup = None; force_backup = None; compact = false; mode = ChsMode; default_name = None; delay = 0; timeout = None; prompt = false; message = (Some (codes "/gone")); disks = []; sections = ((record { other = None; path = (codes "/gone"); label = (codes "a"); alias = None; initrd = None; root = None; mount = Unsaid; append = None; literal = None; vga = None; password = None; restricted = false; optional = false; lock = false; fallback = None; table = None; line = 5 }) ∷ []) }) 0 ≡ Err (Missing (codes "/gone"))) × (plan_status (Missing (codes "/gone")) ≡ 3) × (plan_text (Missing (codes "/gone")) ≡ (codes "missing /gone"))
unfolding number16 number32 is_zero has_ranges has_address is_slot is_one_slot chs_of address_of slot_of some_slot slot_at slot_bytes to_chs to_lba sector_at sectors_of place_at slot_make could_be_one named_device entry_at entries_of table_entries is_link is_plain link_of logical_of listed linked_sector chain_entries chain_tables partitions_of numbered_span span_of disk_name last_partition partition_name device_name devices_of named_devices device_at disk_number device_number kind_of super_of super_checks super_in super_at with_counts super_bytes v1_inode v2_inode inode_of inode_at v1_inode_bytes v2_inode_bytes inode_bytes kept_inode inode_place bit with_bit parts_of volume_at number_in follow pointer_by inside follow_at zone_at block_at content_at entry_of entries_in minixentries_entry_at find_entry entries_at is_dots components child find_path file_block file_at zone_number block content entry first_named lookup reached thing names names_in IsSound child_path path_of is_bootable has_signature has_options has_names has_slots has_no_message has_whole_message has_message has_zeros is_whole timeout_of table_slots boot_of boot_at field_bytes merged_sector names_of_section names_of_config started menu_decision menu_boot file_of middle_text target_of menu_entries menu_of meant slot_to slots_for chain_for file_slots file_sectors section_sectors_at flags_of descriptor_for plan_entries sectors_of_table sectors_after plan_sectors map_size plan_names plan_boot plan_boot_sector devices_in inode_places mapped_inode file_inode mapped_section code_in planned file_checks held_checks address_checks plan_at own_places_check plan_text opt_name all_options option_at opt_number takes_of places_of stands_in opens is_of_disk is_of_name excluded_by setup_of version_of header_of header_at fit_checks plan_memory replaced_fields patch command_line written_by place kernel_fit digits
refused_the_code_is_missing_and_so_are_the_message_and_the_kernel = (refl, refl, refl)

-- the message is a directory, before another system on no disk
pub refused_the_message_is_a_directory_before_another_system_on_no_disk : (plan_at (disks_of disk_systems) (machine_of (disk_with 4096 16 63 ∷ disk_with 2000 4 17 ∷ [])) (record { span = record { disk = 0; start = 64; count = 4032 }; layout = record { kind = V1Long; inodes = 64; zones = 2016; imap = 1; zmap = 1; first = 6; max_size = 268966912; state = 1 } }) (record { disk = 0; start = 0; count = 4096 }) (record { boot = (Some (record { disk = 0; partition = 0 })); map = (codes "/boot/map"); install = (Some (codes "/boot/boot.b")); backup = None; force_backup = None; compact = false; mode = ChsMode; default_name = None; delay = 0; timeout = None; prompt = false; message = (Some (codes "/boot")); disks = []; sections = ((record { other = (Some (record { disk = 3; partition = 1 })); path = (codes "/dev/sdb1"); label = (codes "x"); alias = None; initrd = None; root = None; mount = Unsaid; append = None; literal = None; vga = None; password = None; restricted = false; optional = false; lock = false; fallback = None; table = None; line = 5 }) ∷ (record { other = None; path = (codes "/gone"); label = (codes "a"); alias = None; initrd = None; root = None; mount = Unsaid; append = None; literal = None; vga = None; password = None; restricted = false; optional = false; lock = false; fallback = None; table = None; line = 7 }) ∷ []) }) 0 ≡ Err (Tree (codes "/boot") trees.NotFile)) × (plan_status (Tree (codes "/boot") trees.NotFile) ≡ 3) × (plan_text (Tree (codes "/boot") trees.NotFile) ≡ (codes "path /boot"))
unfolding number16 number32 is_zero has_ranges has_address is_slot is_one_slot chs_of address_of slot_of some_slot slot_at slot_bytes to_chs to_lba sector_at sectors_of place_at slot_make could_be_one named_device entry_at entries_of table_entries is_link is_plain link_of logical_of listed linked_sector chain_entries chain_tables partitions_of numbered_span span_of disk_name last_partition partition_name device_name devices_of named_devices device_at disk_number device_number kind_of super_of super_checks super_in super_at with_counts super_bytes v1_inode v2_inode inode_of inode_at v1_inode_bytes v2_inode_bytes inode_bytes kept_inode inode_place bit with_bit parts_of volume_at number_in follow pointer_by inside follow_at zone_at block_at content_at entry_of entries_in minixentries_entry_at find_entry entries_at is_dots components child find_path file_block file_at zone_number block content entry first_named lookup reached thing names names_in IsSound child_path path_of is_bootable has_signature has_options has_names has_slots has_no_message has_whole_message has_message has_zeros is_whole timeout_of table_slots boot_of boot_at field_bytes merged_sector names_of_section names_of_config started menu_decision menu_boot file_of middle_text target_of menu_entries menu_of meant slot_to slots_for chain_for file_slots file_sectors section_sectors_at flags_of descriptor_for plan_entries sectors_of_table sectors_after plan_sectors map_size plan_names plan_boot plan_boot_sector devices_in inode_places mapped_inode file_inode mapped_section code_in planned file_checks held_checks address_checks plan_at own_places_check plan_text opt_name all_options option_at opt_number takes_of places_of stands_in opens is_of_disk is_of_name excluded_by setup_of version_of header_of header_at fit_checks plan_memory replaced_fields patch command_line written_by place kernel_fit digits
refused_the_message_is_a_directory_before_another_system_on_no_disk = (refl, refl, refl)

-- a missing kernel comes before the next table on no partition
pub refused_a_missing_kernel_comes_before_the_next_table_on_no_partition : (plan_at (disks_of disk_systems) (machine_of (disk_with 4096 16 63 ∷ disk_with 2000 4 17 ∷ [])) (record { span = record { disk = 0; start = 64; count = 4032 }; layout = record { kind = V1Long; inodes = 64; zones = 2016; imap = 1; zmap = 1; first = 6; max_size = 268966912; state = 1 } }) (record { disk = 0; start = 0; count = 4096 }) (record { boot = (Some (record { disk = 0; partition = 0 })); map = (codes "/boot/map"); install = (Some (codes "/boot/boot.b")); backup = None; force_backup = None; compact = false; mode = ChsMode; default_name = None; delay = 0; timeout = None; prompt = false; message = None; disks = []; sections = ((record { other = None; path = (codes "/boot/vmlinuz"); label = (codes "linux"); alias = None; initrd = (Some (codes "/boot/initrd")); root = None; mount = ReadOnlyMount; append = None; literal = None; vga = None; password = None; restricted = false; optional = false; lock = false; fallback = None; table = None; line = 4 }) ∷ (record { other = None; path = (codes "/gone"); label = (codes "a"); alias = None; initrd = None; root = None; mount = Unsaid; append = None; literal = None; vga = None; password = None; restricted = false; optional = false; lock = false; fallback = None; table = None; line = 8 }) ∷ (record { other = (Some (record { disk = 1; partition = 1 })); path = (codes "/dev/hdb1"); label = (codes "x"); alias = None; initrd = None; root = None; mount = Unsaid; append = None; literal = None; vga = None; password = None; restricted = false; optional = false; lock = false; fallback = None; table = (Some (record { disk = 1; partition = 7 })); line = 10 }) ∷ []) }) 0 ≡ Err (Missing (codes "/gone"))) × (plan_status (Missing (codes "/gone")) ≡ 3) × (plan_text (Missing (codes "/gone")) ≡ (codes "missing /gone"))
unfolding number16 number32 is_zero has_ranges has_address is_slot is_one_slot chs_of address_of slot_of some_slot slot_at slot_bytes to_chs to_lba sector_at sectors_of place_at slot_make could_be_one named_device entry_at entries_of table_entries is_link is_plain link_of logical_of listed linked_sector chain_entries chain_tables partitions_of numbered_span span_of disk_name last_partition partition_name device_name devices_of named_devices device_at disk_number device_number kind_of super_of super_checks super_in super_at with_counts super_bytes v1_inode v2_inode inode_of inode_at v1_inode_bytes v2_inode_bytes inode_bytes kept_inode inode_place bit with_bit parts_of volume_at number_in follow pointer_by inside follow_at zone_at block_at content_at entry_of entries_in minixentries_entry_at find_entry entries_at is_dots components child find_path file_block file_at zone_number block content entry first_named lookup reached thing names names_in IsSound child_path path_of is_bootable has_signature has_options has_names has_slots has_no_message has_whole_message has_message has_zeros is_whole timeout_of table_slots boot_of boot_at field_bytes merged_sector names_of_section names_of_config started menu_decision menu_boot file_of middle_text target_of menu_entries menu_of meant slot_to slots_for chain_for file_slots file_sectors section_sectors_at flags_of descriptor_for plan_entries sectors_of_table sectors_after plan_sectors map_size plan_names plan_boot plan_boot_sector devices_in inode_places mapped_inode file_inode mapped_section code_in planned file_checks held_checks address_checks plan_at own_places_check plan_text opt_name all_options option_at opt_number takes_of places_of stands_in opens is_of_disk is_of_name excluded_by setup_of version_of header_of header_at fit_checks plan_memory replaced_fields patch command_line written_by place kernel_fit digits
refused_a_missing_kernel_comes_before_the_next_table_on_no_partition = (refl, refl, refl)

-- a table on no partition comes before the next missing kernel
pub refused_a_table_on_no_partition_comes_before_the_next_missing_kernel : (plan_at (disks_of disk_systems) (machine_of (disk_with 4096 16 63 ∷ disk_with 2000 4 17 ∷ [])) (record { span = record { disk = 0; start = 64; count = 4032 }; layout = record { kind = V1Long; inodes = 64; zones = 2016; imap = 1; zmap = 1; first = 6; max_size = 268966912; state = 1 } }) (record { disk = 0; start = 0; count = 4096 }) (record { boot = (Some (record { disk = 0; partition = 0 })); map = (codes "/boot/map"); install = (Some (codes "/boot/boot.b")); backup = None; force_backup = None; compact = false; mode = ChsMode; default_name = None; delay = 0; timeout = None; prompt = false; message = None; disks = []; sections = ((record { other = (Some (record { disk = 1; partition = 1 })); path = (codes "/dev/hdb1"); label = (codes "x"); alias = None; initrd = None; root = None; mount = Unsaid; append = None; literal = None; vga = None; password = None; restricted = false; optional = false; lock = false; fallback = None; table = (Some (record { disk = 1; partition = 7 })); line = 4 }) ∷ (record { other = None; path = (codes "/gone"); label = (codes "a"); alias = None; initrd = None; root = None; mount = Unsaid; append = None; literal = None; vga = None; password = None; restricted = false; optional = false; lock = false; fallback = None; table = None; line = 7 }) ∷ []) }) 0 ≡ Err (Table (tables.NoPartition 7))) × (plan_status (Table (tables.NoPartition 7)) ≡ 3) × (plan_text (Table (tables.NoPartition 7)) ≡ (codes "no partition"))
unfolding number16 number32 is_zero has_ranges has_address is_slot is_one_slot chs_of address_of slot_of some_slot slot_at slot_bytes to_chs to_lba sector_at sectors_of place_at slot_make could_be_one named_device entry_at entries_of table_entries is_link is_plain link_of logical_of listed linked_sector chain_entries chain_tables partitions_of numbered_span span_of disk_name last_partition partition_name device_name devices_of named_devices device_at disk_number device_number kind_of super_of super_checks super_in super_at with_counts super_bytes v1_inode v2_inode inode_of inode_at v1_inode_bytes v2_inode_bytes inode_bytes kept_inode inode_place bit with_bit parts_of volume_at number_in follow pointer_by inside follow_at zone_at block_at content_at entry_of entries_in minixentries_entry_at find_entry entries_at is_dots components child find_path file_block file_at zone_number block content entry first_named lookup reached thing names names_in IsSound child_path path_of is_bootable has_signature has_options has_names has_slots has_no_message has_whole_message has_message has_zeros is_whole timeout_of table_slots boot_of boot_at field_bytes merged_sector names_of_section names_of_config started menu_decision menu_boot file_of middle_text target_of menu_entries menu_of meant slot_to slots_for chain_for file_slots file_sectors section_sectors_at flags_of descriptor_for plan_entries sectors_of_table sectors_after plan_sectors map_size plan_names plan_boot plan_boot_sector devices_in inode_places mapped_inode file_inode mapped_section code_in planned file_checks held_checks address_checks plan_at own_places_check plan_text opt_name all_options option_at opt_number takes_of places_of stands_in opens is_of_disk is_of_name excluded_by setup_of version_of header_of header_at fit_checks plan_memory replaced_fields patch command_line written_by place kernel_fit digits
refused_a_table_on_no_partition_comes_before_the_next_missing_kernel = (refl, refl, refl)

-- another system's device comes before its table's
pub refused_another_systems_device_comes_before_its_tables : (plan_at (disks_of disk_systems) (machine_of (disk_with 4096 16 63 ∷ disk_with 2000 4 17 ∷ [])) (record { span = record { disk = 0; start = 64; count = 4032 }; layout = record { kind = V1Long; inodes = 64; zones = 2016; imap = 1; zmap = 1; first = 6; max_size = 268966912; state = 1 } }) (record { disk = 0; start = 0; count = 4096 }) (record { boot = (Some (record { disk = 0; partition = 0 })); map = (codes "/boot/map"); install = (Some (codes "/boot/boot.b")); backup = None; force_backup = None; compact = false; mode = ChsMode; default_name = None; delay = 0; timeout = None; prompt = false; message = None; disks = []; sections = ((record { other = (Some (record { disk = 1; partition = 3 })); path = (codes "/dev/hdb3"); label = (codes "x"); alias = None; initrd = None; root = None; mount = Unsaid; append = None; literal = None; vga = None; password = None; restricted = false; optional = false; lock = false; fallback = None; table = (Some (record { disk = 2; partition = 0 })); line = 4 }) ∷ []) }) 0 ≡ Err (Table (tables.NoPartition 3))) × (plan_status (Table (tables.NoPartition 3)) ≡ 3) × (plan_text (Table (tables.NoPartition 3)) ≡ (codes "no partition"))
unfolding number16 number32 is_zero has_ranges has_address is_slot is_one_slot chs_of address_of slot_of some_slot slot_at slot_bytes to_chs to_lba sector_at sectors_of place_at slot_make could_be_one named_device entry_at entries_of table_entries is_link is_plain link_of logical_of listed linked_sector chain_entries chain_tables partitions_of numbered_span span_of disk_name last_partition partition_name device_name devices_of named_devices device_at disk_number device_number kind_of super_of super_checks super_in super_at with_counts super_bytes v1_inode v2_inode inode_of inode_at v1_inode_bytes v2_inode_bytes inode_bytes kept_inode inode_place bit with_bit parts_of volume_at number_in follow pointer_by inside follow_at zone_at block_at content_at entry_of entries_in minixentries_entry_at find_entry entries_at is_dots components child find_path file_block file_at zone_number block content entry first_named lookup reached thing names names_in IsSound child_path path_of is_bootable has_signature has_options has_names has_slots has_no_message has_whole_message has_message has_zeros is_whole timeout_of table_slots boot_of boot_at field_bytes merged_sector names_of_section names_of_config started menu_decision menu_boot file_of middle_text target_of menu_entries menu_of meant slot_to slots_for chain_for file_slots file_sectors section_sectors_at flags_of descriptor_for plan_entries sectors_of_table sectors_after plan_sectors map_size plan_names plan_boot plan_boot_sector devices_in inode_places mapped_inode file_inode mapped_section code_in planned file_checks held_checks address_checks plan_at own_places_check plan_text opt_name all_options option_at opt_number takes_of places_of stands_in opens is_of_disk is_of_name excluded_by setup_of version_of header_of header_at fit_checks plan_memory replaced_fields patch command_line written_by place kernel_fit digits
refused_another_systems_device_comes_before_its_tables = (refl, refl, refl)

-- a missing initrd comes before the next missing kernel
pub refused_a_missing_initrd_comes_before_the_next_missing_kernel : (plan_at (disks_of disk_systems) (machine_of (disk_with 4096 16 63 ∷ disk_with 2000 4 17 ∷ [])) (record { span = record { disk = 0; start = 64; count = 4032 }; layout = record { kind = V1Long; inodes = 64; zones = 2016; imap = 1; zmap = 1; first = 6; max_size = 268966912; state = 1 } }) (record { disk = 0; start = 0; count = 4096 }) (record { boot = (Some (record { disk = 0; partition = 0 })); map = (codes "/boot/map"); install = (Some (codes "/boot/boot.b")); backup = None; force_backup = None; compact = false; mode = ChsMode; default_name = None; delay = 0; timeout = None; prompt = false; message = None; disks = []; sections = ((record { other = None; path = (codes "/boot/vmlinuz"); label = (codes "a"); alias = None; initrd = (Some (codes "/boot/gone")); root = None; mount = Unsaid; append = None; literal = None; vga = None; password = None; restricted = false; optional = false; lock = false; fallback = None; table = None; line = 4 }) ∷ (record { other = None; path = (codes "/gone"); label = (codes "b"); alias = None; initrd = None; root = None; mount = Unsaid; append = None; literal = None; vga = None; password = None; restricted = false; optional = false; lock = false; fallback = None; table = None; line = 7 }) ∷ []) }) 0 ≡ Err (Missing (codes "/boot/gone"))) × (plan_status (Missing (codes "/boot/gone")) ≡ 3) × (plan_text (Missing (codes "/boot/gone")) ≡ (codes "missing /boot/gone"))
unfolding number16 number32 is_zero has_ranges has_address is_slot is_one_slot chs_of address_of slot_of some_slot slot_at slot_bytes to_chs to_lba sector_at sectors_of place_at slot_make could_be_one named_device entry_at entries_of table_entries is_link is_plain link_of logical_of listed linked_sector chain_entries chain_tables partitions_of numbered_span span_of disk_name last_partition partition_name device_name devices_of named_devices device_at disk_number device_number kind_of super_of super_checks super_in super_at with_counts super_bytes v1_inode v2_inode inode_of inode_at v1_inode_bytes v2_inode_bytes inode_bytes kept_inode inode_place bit with_bit parts_of volume_at number_in follow pointer_by inside follow_at zone_at block_at content_at entry_of entries_in minixentries_entry_at find_entry entries_at is_dots components child find_path file_block file_at zone_number block content entry first_named lookup reached thing names names_in IsSound child_path path_of is_bootable has_signature has_options has_names has_slots has_no_message has_whole_message has_message has_zeros is_whole timeout_of table_slots boot_of boot_at field_bytes merged_sector names_of_section names_of_config started menu_decision menu_boot file_of middle_text target_of menu_entries menu_of meant slot_to slots_for chain_for file_slots file_sectors section_sectors_at flags_of descriptor_for plan_entries sectors_of_table sectors_after plan_sectors map_size plan_names plan_boot plan_boot_sector devices_in inode_places mapped_inode file_inode mapped_section code_in planned file_checks held_checks address_checks plan_at own_places_check plan_text opt_name all_options option_at opt_number takes_of places_of stands_in opens is_of_disk is_of_name excluded_by setup_of version_of header_of header_at fit_checks plan_memory replaced_fields patch command_line written_by place kernel_fit digits
refused_a_missing_initrd_comes_before_the_next_missing_kernel = (refl, refl, refl)

-- an initrd that is a directory comes before the next missing kernel
pub refused_an_initrd_that_is_a_directory_comes_before_the_next_missing_kernel : (plan_at (disks_of disk_systems) (machine_of (disk_with 4096 16 63 ∷ disk_with 2000 4 17 ∷ [])) (record { span = record { disk = 0; start = 64; count = 4032 }; layout = record { kind = V1Long; inodes = 64; zones = 2016; imap = 1; zmap = 1; first = 6; max_size = 268966912; state = 1 } }) (record { disk = 0; start = 0; count = 4096 }) (record { boot = (Some (record { disk = 0; partition = 0 })); map = (codes "/boot/map"); install = (Some (codes "/boot/boot.b")); backup = None; force_backup = None; compact = false; mode = ChsMode; default_name = None; delay = 0; timeout = None; prompt = false; message = None; disks = []; sections = ((record { other = None; path = (codes "/boot/vmlinuz"); label = (codes "a"); alias = None; initrd = (Some (codes "/etc")); root = None; mount = Unsaid; append = None; literal = None; vga = None; password = None; restricted = false; optional = false; lock = false; fallback = None; table = None; line = 4 }) ∷ (record { other = None; path = (codes "/gone"); label = (codes "b"); alias = None; initrd = None; root = None; mount = Unsaid; append = None; literal = None; vga = None; password = None; restricted = false; optional = false; lock = false; fallback = None; table = None; line = 7 }) ∷ []) }) 0 ≡ Err (Tree (codes "/etc") trees.NotFile)) × (plan_status (Tree (codes "/etc") trees.NotFile) ≡ 3) × (plan_text (Tree (codes "/etc") trees.NotFile) ≡ (codes "path /etc"))
unfolding number16 number32 is_zero has_ranges has_address is_slot is_one_slot chs_of address_of slot_of some_slot slot_at slot_bytes to_chs to_lba sector_at sectors_of place_at slot_make could_be_one named_device entry_at entries_of table_entries is_link is_plain link_of logical_of listed linked_sector chain_entries chain_tables partitions_of numbered_span span_of disk_name last_partition partition_name device_name devices_of named_devices device_at disk_number device_number kind_of super_of super_checks super_in super_at with_counts super_bytes v1_inode v2_inode inode_of inode_at v1_inode_bytes v2_inode_bytes inode_bytes kept_inode inode_place bit with_bit parts_of volume_at number_in follow pointer_by inside follow_at zone_at block_at content_at entry_of entries_in minixentries_entry_at find_entry entries_at is_dots components child find_path file_block file_at zone_number block content entry first_named lookup reached thing names names_in IsSound child_path path_of is_bootable has_signature has_options has_names has_slots has_no_message has_whole_message has_message has_zeros is_whole timeout_of table_slots boot_of boot_at field_bytes merged_sector names_of_section names_of_config started menu_decision menu_boot file_of middle_text target_of menu_entries menu_of meant slot_to slots_for chain_for file_slots file_sectors section_sectors_at flags_of descriptor_for plan_entries sectors_of_table sectors_after plan_sectors map_size plan_names plan_boot plan_boot_sector devices_in inode_places mapped_inode file_inode mapped_section code_in planned file_checks held_checks address_checks plan_at own_places_check plan_text opt_name all_options option_at opt_number takes_of places_of stands_in opens is_of_disk is_of_name excluded_by setup_of version_of header_of header_at fit_checks plan_memory replaced_fields patch command_line written_by place kernel_fit digits
refused_an_initrd_that_is_a_directory_comes_before_the_next_missing_kernel = (refl, refl, refl)

-- Cases of the model, written by tools/plan_cases.py: why no map is planned.
use Rattle.std.proofs.Common.{◌≡◌, ◌∷◌, ◌++◌, [], true, false, codes, None, Some, Err, refl}
use Rattle.std.specs.Prelude.{is_ok}
use Rattle.std.specs.Fmt.{digits}
use Rattle.lilo_model.specs.BootSector.{is_bootable, has_signature, has_options, has_names, has_slots, has_no_message, has_whole_message, has_message, has_zeros, is_whole, timeout_of, table_slots, boot_of, boot_at, field_bytes, merged_sector}
use Rattle.lilo_model.specs.Bytes.{number16, number32, is_zero}
use Rattle.lilo_model.specs.Conf.{Unsaid, ReadOnlyMount}
use Rattle.lilo_model.specs.ConfLawful.{names_of_section, names_of_config}
use Rattle.lilo_model.specs.ConfOptions.{opt_name, all_options, option_at, opt_number, takes_of, places_of, stands_in, opens, is_of_disk, is_of_name, excluded_by}
use Rattle.lilo_model.specs.Devices.{disk_name, last_partition, partition_name, device_name, devices_of, named_devices, device_at, disk_number, device_number}
use Rattle.lilo_model.specs.Header.{setup_of, version_of, header_of, header_at, fit_checks, plan_memory, replaced_fields, patch}
use Rattle.lilo_model.specs.Meant.{started, menu_decision, menu_boot, file_of, middle_text, target_of, menu_entries, menu_of, meant}
use Rattle.lilo_model.specs.MinixEntries.{entry_of, entries_in, entry_at as minixentries_entry_at, find_entry, entries_at, is_dots}
use Rattle.lilo_model.specs.MinixFind.{components, child, find_path, file_block, file_at}
use Rattle.lilo_model.specs.MinixFindNames.{child_path, path_of}
use Rattle.lilo_model.specs.MinixLayout.{kind_of, super_of, super_checks, super_in, super_at, with_counts, super_bytes, v1_inode, v2_inode, inode_of, inode_at, v1_inode_bytes, v2_inode_bytes, inode_bytes, kept_inode, inode_place, V1Long}
use Rattle.lilo_model.specs.MinixNames.{zone_number, block, content, entry, first_named, lookup, reached, thing, names, names_in, IsSound}
use Rattle.lilo_model.specs.MinixParts.{bit, with_bit, parts_of, volume_at, number_in, follow, pointer_by, inside, follow_at, zone_at, block_at, content_at}
use Rattle.lilo_model.specs.Partitions.{named_device, entry_at, entries_of, table_entries, is_link, is_plain, link_of, logical_of, listed, linked_sector, chain_entries, chain_tables, partitions_of, numbered_span, span_of}
use Rattle.lilo_model.specs.Place.{command_line, written_by, place, kernel_fit}
use Rattle.lilo_model.specs.Plan.{slot_to, slots_for, chain_for, file_slots, file_sectors, section_sectors_at, flags_of, descriptor_for, plan_entries, sectors_of_table, sectors_after, plan_sectors, map_size, plan_names, plan_boot, plan_boot_sector}
use Rattle.lilo_model.specs.PlanRefusal.{file_checks, held_checks, address_checks, plan_at, own_places_check, plan_text, Address, NoSignature, Table, plan_status}
use Rattle.lilo_model.specs.Planned.{devices_in, inode_places, mapped_inode, file_inode, mapped_section, code_in, planned}
use Rattle.lilo_model.specs.Slots.{has_ranges, has_address, is_slot, is_one_slot, chs_of, address_of, slot_of, some_slot, slot_at, slot_bytes, to_chs, to_lba, sector_at, sectors_of, place_at, slot_make, could_be_one, ChsMode, LinearMode, Lba32Mode}
use Rattle.lilo_model.specs.Slots as slots
use Rattle.lilo_model.specs.Partitions as tables
use Rattle.lilo_model.specs.ConfOptions as options
use Rattle.model_cases.specs.Sparse.{hex, patch_at, disks_of, disk_with, machine_of}
use Rattle.model_cases.specs.PlanDisks.{disk_systems}

-- a sector beyond the last cylinder passes where lba32 numbers it
pub refused_a_sector_beyond_the_last_cylinder_passes_where_lba32_numbers_it : is_ok (plan_at (disks_of (disk_systems ++ (patch_at 1 0 454 (hex 6 0x58fc00006400) ∷ patch_at 1 0 466 (hex 9 0x0600000020fd000032) ∷ patch_at 1 64600 510 (hex 2 0x55aa) ∷ patch_at 1 64800 510 (hex 2 0x55aa) ∷ []))) (machine_of (disk_with 4096 16 63 ∷ disk_with 70000 1 63 ∷ [])) (record { span = record { disk = 0; start = 64; count = 4032 }; layout = record { kind = V1Long; inodes = 64; zones = 2016; imap = 1; zmap = 1; first = 6; max_size = 268966912; state = 1 } }) (record { disk = 0; start = 0; count = 4096 }) (record { boot = (Some (record { disk = 0; partition = 0 })); map = (codes "/boot/map"); install = (Some (codes "/boot/boot.b")); backup = None; force_backup = None; compact = false; mode = Lba32Mode; default_name = None; delay = 0; timeout = None; prompt = false; message = None; disks = []; sections = ((record { other = (Some (record { disk = 1; partition = 1 })); path = (codes "/dev/hdb1"); label = (codes "x"); alias = None; initrd = None; root = None; mount = Unsaid; append = None; literal = None; vga = None; password = None; restricted = false; optional = false; lock = false; fallback = None; table = (Some (record { disk = 1; partition = 2 })); line = 5 }) ∷ (record { other = None; path = (codes "/boot/vmlinuz"); label = (codes "linux"); alias = None; initrd = (Some (codes "/boot/initrd")); root = None; mount = ReadOnlyMount; append = None; literal = None; vga = None; password = None; restricted = false; optional = false; lock = false; fallback = None; table = None; line = 8 }) ∷ []) }) 0) ≡ true
unfolding number16 number32 is_zero has_ranges has_address is_slot is_one_slot chs_of address_of slot_of some_slot slot_at slot_bytes to_chs to_lba sector_at sectors_of place_at slot_make could_be_one named_device entry_at entries_of table_entries is_link is_plain link_of logical_of listed linked_sector chain_entries chain_tables partitions_of numbered_span span_of disk_name last_partition partition_name device_name devices_of named_devices device_at disk_number device_number kind_of super_of super_checks super_in super_at with_counts super_bytes v1_inode v2_inode inode_of inode_at v1_inode_bytes v2_inode_bytes inode_bytes kept_inode inode_place bit with_bit parts_of volume_at number_in follow pointer_by inside follow_at zone_at block_at content_at entry_of entries_in minixentries_entry_at find_entry entries_at is_dots components child find_path file_block file_at zone_number block content entry first_named lookup reached thing names names_in IsSound child_path path_of is_bootable has_signature has_options has_names has_slots has_no_message has_whole_message has_message has_zeros is_whole timeout_of table_slots boot_of boot_at field_bytes merged_sector names_of_section names_of_config started menu_decision menu_boot file_of middle_text target_of menu_entries menu_of meant slot_to slots_for chain_for file_slots file_sectors section_sectors_at flags_of descriptor_for plan_entries sectors_of_table sectors_after plan_sectors map_size plan_names plan_boot plan_boot_sector devices_in inode_places mapped_inode file_inode mapped_section code_in planned file_checks held_checks address_checks plan_at own_places_check plan_text opt_name all_options option_at opt_number takes_of places_of stands_in opens is_of_disk is_of_name excluded_by setup_of version_of header_of header_at fit_checks plan_memory replaced_fields patch command_line written_by place kernel_fit digits
refused_a_sector_beyond_the_last_cylinder_passes_where_lba32_numbers_it = refl

-- the last sector of the last cylinder passes
pub refused_the_last_sector_of_the_last_cylinder_passes : is_ok (plan_at (disks_of (disk_systems ++ (patch_at 1 0 454 (hex 6 0xfffb00006400) ∷ patch_at 1 0 466 (hex 9 0x06000000c7fc000032) ∷ patch_at 1 64511 510 (hex 2 0x55aa) ∷ patch_at 1 64711 510 (hex 2 0x55aa) ∷ []))) (machine_of (disk_with 4096 16 63 ∷ disk_with 70000 1 63 ∷ [])) (record { span = record { disk = 0; start = 64; count = 4032 }; layout = record { kind = V1Long; inodes = 64; zones = 2016; imap = 1; zmap = 1; first = 6; max_size = 268966912; state = 1 } }) (record { disk = 0; start = 0; count = 4096 }) (record { boot = (Some (record { disk = 0; partition = 0 })); map = (codes "/boot/map"); install = (Some (codes "/boot/boot.b")); backup = None; force_backup = None; compact = false; mode = LinearMode; default_name = None; delay = 0; timeout = None; prompt = false; message = None; disks = []; sections = ((record { other = (Some (record { disk = 1; partition = 1 })); path = (codes "/dev/hdb1"); label = (codes "x"); alias = None; initrd = None; root = None; mount = Unsaid; append = None; literal = None; vga = None; password = None; restricted = false; optional = false; lock = false; fallback = None; table = None; line = 5 }) ∷ []) }) 0) ≡ true
unfolding number16 number32 is_zero has_ranges has_address is_slot is_one_slot chs_of address_of slot_of some_slot slot_at slot_bytes to_chs to_lba sector_at sectors_of place_at slot_make could_be_one named_device entry_at entries_of table_entries is_link is_plain link_of logical_of listed linked_sector chain_entries chain_tables partitions_of numbered_span span_of disk_name last_partition partition_name device_name devices_of named_devices device_at disk_number device_number kind_of super_of super_checks super_in super_at with_counts super_bytes v1_inode v2_inode inode_of inode_at v1_inode_bytes v2_inode_bytes inode_bytes kept_inode inode_place bit with_bit parts_of volume_at number_in follow pointer_by inside follow_at zone_at block_at content_at entry_of entries_in minixentries_entry_at find_entry entries_at is_dots components child find_path file_block file_at zone_number block content entry first_named lookup reached thing names names_in IsSound child_path path_of is_bootable has_signature has_options has_names has_slots has_no_message has_whole_message has_message has_zeros is_whole timeout_of table_slots boot_of boot_at field_bytes merged_sector names_of_section names_of_config started menu_decision menu_boot file_of middle_text target_of menu_entries menu_of meant slot_to slots_for chain_for file_slots file_sectors section_sectors_at flags_of descriptor_for plan_entries sectors_of_table sectors_after plan_sectors map_size plan_names plan_boot plan_boot_sector devices_in inode_places mapped_inode file_inode mapped_section code_in planned file_checks held_checks address_checks plan_at own_places_check plan_text opt_name all_options option_at opt_number takes_of places_of stands_in opens is_of_disk is_of_name excluded_by setup_of version_of header_of header_at fit_checks plan_memory replaced_fields patch command_line written_by place kernel_fit digits
refused_the_last_sector_of_the_last_cylinder_passes = refl

-- the first sector past the last cylinder
pub refused_the_first_sector_past_the_last_cylinder : (plan_at (disks_of (disk_systems ++ (patch_at 1 0 454 (hex 6 0x00fc00006400) ∷ patch_at 1 0 466 (hex 9 0x06000000c8fc000032) ∷ patch_at 1 64512 510 (hex 2 0x55aa) ∷ patch_at 1 64712 510 (hex 2 0x55aa) ∷ []))) (machine_of (disk_with 4096 16 63 ∷ disk_with 70000 1 63 ∷ [])) (record { span = record { disk = 0; start = 64; count = 4032 }; layout = record { kind = V1Long; inodes = 64; zones = 2016; imap = 1; zmap = 1; first = 6; max_size = 268966912; state = 1 } }) (record { disk = 0; start = 0; count = 4096 }) (record { boot = (Some (record { disk = 0; partition = 0 })); map = (codes "/boot/map"); install = (Some (codes "/boot/boot.b")); backup = None; force_backup = None; compact = true; mode = LinearMode; default_name = None; delay = 0; timeout = None; prompt = false; message = None; disks = []; sections = ((record { other = (Some (record { disk = 1; partition = 1 })); path = (codes "/dev/hdb1"); label = (codes "x"); alias = None; initrd = None; root = None; mount = Unsaid; append = None; literal = None; vga = None; password = None; restricted = false; optional = false; lock = false; fallback = None; table = None; line = 6 }) ∷ []) }) 0 ≡ Err (Address options.OtherDevice (slots.Cylinder 1024))) × (plan_status (Address options.OtherDevice (slots.Cylinder 1024)) ≡ 4) × (plan_text (Address options.OtherDevice (slots.Cylinder 1024)) ≡ (codes "other cylinder 1024 over 1023"))
unfolding number16 number32 is_zero has_ranges has_address is_slot is_one_slot chs_of address_of slot_of some_slot slot_at slot_bytes to_chs to_lba sector_at sectors_of place_at slot_make could_be_one named_device entry_at entries_of table_entries is_link is_plain link_of logical_of listed linked_sector chain_entries chain_tables partitions_of numbered_span span_of disk_name last_partition partition_name device_name devices_of named_devices device_at disk_number device_number kind_of super_of super_checks super_in super_at with_counts super_bytes v1_inode v2_inode inode_of inode_at v1_inode_bytes v2_inode_bytes inode_bytes kept_inode inode_place bit with_bit parts_of volume_at number_in follow pointer_by inside follow_at zone_at block_at content_at entry_of entries_in minixentries_entry_at find_entry entries_at is_dots components child find_path file_block file_at zone_number block content entry first_named lookup reached thing names names_in IsSound child_path path_of is_bootable has_signature has_options has_names has_slots has_no_message has_whole_message has_message has_zeros is_whole timeout_of table_slots boot_of boot_at field_bytes merged_sector names_of_section names_of_config started menu_decision menu_boot file_of middle_text target_of menu_entries menu_of meant slot_to slots_for chain_for file_slots file_sectors section_sectors_at flags_of descriptor_for plan_entries sectors_of_table sectors_after plan_sectors map_size plan_names plan_boot plan_boot_sector devices_in inode_places mapped_inode file_inode mapped_section code_in planned file_checks held_checks address_checks plan_at own_places_check plan_text opt_name all_options option_at opt_number takes_of places_of stands_in opens is_of_disk is_of_name excluded_by setup_of version_of header_of header_at fit_checks plan_memory replaced_fields patch command_line written_by place kernel_fit digits
refused_the_first_sector_past_the_last_cylinder = (refl, refl, refl)

-- another system on a disk without a table
pub refused_another_system_on_a_disk_without_a_table : (plan_at (disks_of (disk_systems ++ (patch_at 1 0 510 (hex 2 0x0000) ∷ []))) (machine_of (disk_with 4096 16 63 ∷ disk_with 2000 4 17 ∷ [])) (record { span = record { disk = 0; start = 64; count = 4032 }; layout = record { kind = V1Long; inodes = 64; zones = 2016; imap = 1; zmap = 1; first = 6; max_size = 268966912; state = 1 } }) (record { disk = 0; start = 0; count = 4096 }) (record { boot = (Some (record { disk = 0; partition = 0 })); map = (codes "/boot/map"); install = (Some (codes "/boot/boot.b")); backup = None; force_backup = None; compact = false; mode = ChsMode; default_name = None; delay = 0; timeout = None; prompt = false; message = None; disks = []; sections = ((record { other = (Some (record { disk = 1; partition = 1 })); path = (codes "/dev/hdb1"); label = (codes "x"); alias = None; initrd = None; root = None; mount = Unsaid; append = None; literal = None; vga = None; password = None; restricted = false; optional = false; lock = false; fallback = None; table = None; line = 4 }) ∷ []) }) 0 ≡ Err (Table (tables.NoSignature 0))) × (plan_status (Table (tables.NoSignature 0)) ≡ 3) × (plan_text (Table (tables.NoSignature 0)) ≡ (codes "table"))
unfolding number16 number32 is_zero has_ranges has_address is_slot is_one_slot chs_of address_of slot_of some_slot slot_at slot_bytes to_chs to_lba sector_at sectors_of place_at slot_make could_be_one named_device entry_at entries_of table_entries is_link is_plain link_of logical_of listed linked_sector chain_entries chain_tables partitions_of numbered_span span_of disk_name last_partition partition_name device_name devices_of named_devices device_at disk_number device_number kind_of super_of super_checks super_in super_at with_counts super_bytes v1_inode v2_inode inode_of inode_at v1_inode_bytes v2_inode_bytes inode_bytes kept_inode inode_place bit with_bit parts_of volume_at number_in follow pointer_by inside follow_at zone_at block_at content_at entry_of entries_in minixentries_entry_at find_entry entries_at is_dots components child find_path file_block file_at zone_number block content entry first_named lookup reached thing names names_in IsSound child_path path_of is_bootable has_signature has_options has_names has_slots has_no_message has_whole_message has_message has_zeros is_whole timeout_of table_slots boot_of boot_at field_bytes merged_sector names_of_section names_of_config started menu_decision menu_boot file_of middle_text target_of menu_entries menu_of meant slot_to slots_for chain_for file_slots file_sectors section_sectors_at flags_of descriptor_for plan_entries sectors_of_table sectors_after plan_sectors map_size plan_names plan_boot plan_boot_sector devices_in inode_places mapped_inode file_inode mapped_section code_in planned file_checks held_checks address_checks plan_at own_places_check plan_text opt_name all_options option_at opt_number takes_of places_of stands_in opens is_of_disk is_of_name excluded_by setup_of version_of header_of header_at fit_checks plan_memory replaced_fields patch command_line written_by place kernel_fit digits
refused_another_system_on_a_disk_without_a_table = (refl, refl, refl)

-- a disk as a whole needs no table but its own signature
pub refused_a_disk_as_a_whole_needs_no_table_but_its_own_signature : (plan_at (disks_of (disk_systems ++ (patch_at 1 0 510 (hex 2 0x0000) ∷ []))) (machine_of (disk_with 4096 16 63 ∷ disk_with 2000 4 17 ∷ [])) (record { span = record { disk = 0; start = 64; count = 4032 }; layout = record { kind = V1Long; inodes = 64; zones = 2016; imap = 1; zmap = 1; first = 6; max_size = 268966912; state = 1 } }) (record { disk = 0; start = 0; count = 4096 }) (record { boot = (Some (record { disk = 0; partition = 0 })); map = (codes "/boot/map"); install = (Some (codes "/boot/boot.b")); backup = None; force_backup = None; compact = false; mode = ChsMode; default_name = None; delay = 0; timeout = None; prompt = false; message = None; disks = []; sections = ((record { other = (Some (record { disk = 1; partition = 0 })); path = (codes "/dev/hdb"); label = (codes "x"); alias = None; initrd = None; root = None; mount = Unsaid; append = None; literal = None; vga = None; password = None; restricted = false; optional = false; lock = false; fallback = None; table = None; line = 4 }) ∷ []) }) 0 ≡ Err (NoSignature (codes "/dev/hdb"))) × (plan_status (NoSignature (codes "/dev/hdb")) ≡ 4) × (plan_text (NoSignature (codes "/dev/hdb")) ≡ (codes "no signature /dev/hdb"))
unfolding number16 number32 is_zero has_ranges has_address is_slot is_one_slot chs_of address_of slot_of some_slot slot_at slot_bytes to_chs to_lba sector_at sectors_of place_at slot_make could_be_one named_device entry_at entries_of table_entries is_link is_plain link_of logical_of listed linked_sector chain_entries chain_tables partitions_of numbered_span span_of disk_name last_partition partition_name device_name devices_of named_devices device_at disk_number device_number kind_of super_of super_checks super_in super_at with_counts super_bytes v1_inode v2_inode inode_of inode_at v1_inode_bytes v2_inode_bytes inode_bytes kept_inode inode_place bit with_bit parts_of volume_at number_in follow pointer_by inside follow_at zone_at block_at content_at entry_of entries_in minixentries_entry_at find_entry entries_at is_dots components child find_path file_block file_at zone_number block content entry first_named lookup reached thing names names_in IsSound child_path path_of is_bootable has_signature has_options has_names has_slots has_no_message has_whole_message has_message has_zeros is_whole timeout_of table_slots boot_of boot_at field_bytes merged_sector names_of_section names_of_config started menu_decision menu_boot file_of middle_text target_of menu_entries menu_of meant slot_to slots_for chain_for file_slots file_sectors section_sectors_at flags_of descriptor_for plan_entries sectors_of_table sectors_after plan_sectors map_size plan_names plan_boot plan_boot_sector devices_in inode_places mapped_inode file_inode mapped_section code_in planned file_checks held_checks address_checks plan_at own_places_check plan_text opt_name all_options option_at opt_number takes_of places_of stands_in opens is_of_disk is_of_name excluded_by setup_of version_of header_of header_at fit_checks plan_memory replaced_fields patch command_line written_by place kernel_fit digits
refused_a_disk_as_a_whole_needs_no_table_but_its_own_signature = (refl, refl, refl)

-- another system in a partition past its disk
pub refused_another_system_in_a_partition_past_its_disk : (plan_at (disks_of (disk_systems ++ (patch_at 1 0 458 (hex 2 0x8813) ∷ []))) (machine_of (disk_with 4096 16 63 ∷ disk_with 2000 4 17 ∷ [])) (record { span = record { disk = 0; start = 64; count = 4032 }; layout = record { kind = V1Long; inodes = 64; zones = 2016; imap = 1; zmap = 1; first = 6; max_size = 268966912; state = 1 } }) (record { disk = 0; start = 0; count = 4096 }) (record { boot = (Some (record { disk = 0; partition = 0 })); map = (codes "/boot/map"); install = (Some (codes "/boot/boot.b")); backup = None; force_backup = None; compact = false; mode = ChsMode; default_name = None; delay = 0; timeout = None; prompt = false; message = None; disks = []; sections = ((record { other = (Some (record { disk = 1; partition = 1 })); path = (codes "/dev/hdb1"); label = (codes "x"); alias = None; initrd = None; root = None; mount = Unsaid; append = None; literal = None; vga = None; password = None; restricted = false; optional = false; lock = false; fallback = None; table = None; line = 4 }) ∷ []) }) 0 ≡ Err (Table (tables.OutsideDisk 1))) × (plan_status (Table (tables.OutsideDisk 1)) ≡ 3) × (plan_text (Table (tables.OutsideDisk 1)) ≡ (codes "table"))
unfolding number16 number32 is_zero has_ranges has_address is_slot is_one_slot chs_of address_of slot_of some_slot slot_at slot_bytes to_chs to_lba sector_at sectors_of place_at slot_make could_be_one named_device entry_at entries_of table_entries is_link is_plain link_of logical_of listed linked_sector chain_entries chain_tables partitions_of numbered_span span_of disk_name last_partition partition_name device_name devices_of named_devices device_at disk_number device_number kind_of super_of super_checks super_in super_at with_counts super_bytes v1_inode v2_inode inode_of inode_at v1_inode_bytes v2_inode_bytes inode_bytes kept_inode inode_place bit with_bit parts_of volume_at number_in follow pointer_by inside follow_at zone_at block_at content_at entry_of entries_in minixentries_entry_at find_entry entries_at is_dots components child find_path file_block file_at zone_number block content entry first_named lookup reached thing names names_in IsSound child_path path_of is_bootable has_signature has_options has_names has_slots has_no_message has_whole_message has_message has_zeros is_whole timeout_of table_slots boot_of boot_at field_bytes merged_sector names_of_section names_of_config started menu_decision menu_boot file_of middle_text target_of menu_entries menu_of meant slot_to slots_for chain_for file_slots file_sectors section_sectors_at flags_of descriptor_for plan_entries sectors_of_table sectors_after plan_sectors map_size plan_names plan_boot plan_boot_sector devices_in inode_places mapped_inode file_inode mapped_section code_in planned file_checks held_checks address_checks plan_at own_places_check plan_text opt_name all_options option_at opt_number takes_of places_of stands_in opens is_of_disk is_of_name excluded_by setup_of version_of header_of header_at fit_checks plan_memory replaced_fields patch command_line written_by place kernel_fit digits
refused_another_system_in_a_partition_past_its_disk = (refl, refl, refl)

-- a chain of partitions that goes round
pub refused_a_chain_of_partitions_that_goes_round : (plan_at (disks_of (disk_systems ++ (patch_at 1 0 466 (hex 9 0x05000000dc05000064) ∷ patch_at 1 1500 466 (hex 1 0x05) ∷ patch_at 1 1500 474 (codes "\n") ∷ patch_at 1 1500 510 (hex 2 0x55aa) ∷ []))) (machine_of (disk_with 4096 16 63 ∷ disk_with 2000 4 17 ∷ [])) (record { span = record { disk = 0; start = 64; count = 4032 }; layout = record { kind = V1Long; inodes = 64; zones = 2016; imap = 1; zmap = 1; first = 6; max_size = 268966912; state = 1 } }) (record { disk = 0; start = 0; count = 4096 }) (record { boot = (Some (record { disk = 0; partition = 0 })); map = (codes "/boot/map"); install = (Some (codes "/boot/boot.b")); backup = None; force_backup = None; compact = false; mode = ChsMode; default_name = None; delay = 0; timeout = None; prompt = false; message = None; disks = []; sections = ((record { other = (Some (record { disk = 1; partition = 5 })); path = (codes "/dev/hdb5"); label = (codes "x"); alias = None; initrd = None; root = None; mount = Unsaid; append = None; literal = None; vga = None; password = None; restricted = false; optional = false; lock = false; fallback = None; table = None; line = 4 }) ∷ []) }) 0 ≡ Err (Table (tables.LoopedChain 1500))) × (plan_status (Table (tables.LoopedChain 1500)) ≡ 3) × (plan_text (Table (tables.LoopedChain 1500)) ≡ (codes "table"))
unfolding number16 number32 is_zero has_ranges has_address is_slot is_one_slot chs_of address_of slot_of some_slot slot_at slot_bytes to_chs to_lba sector_at sectors_of place_at slot_make could_be_one named_device entry_at entries_of table_entries is_link is_plain link_of logical_of listed linked_sector chain_entries chain_tables partitions_of numbered_span span_of disk_name last_partition partition_name device_name devices_of named_devices device_at disk_number device_number kind_of super_of super_checks super_in super_at with_counts super_bytes v1_inode v2_inode inode_of inode_at v1_inode_bytes v2_inode_bytes inode_bytes kept_inode inode_place bit with_bit parts_of volume_at number_in follow pointer_by inside follow_at zone_at block_at content_at entry_of entries_in minixentries_entry_at find_entry entries_at is_dots components child find_path file_block file_at zone_number block content entry first_named lookup reached thing names names_in IsSound child_path path_of is_bootable has_signature has_options has_names has_slots has_no_message has_whole_message has_message has_zeros is_whole timeout_of table_slots boot_of boot_at field_bytes merged_sector names_of_section names_of_config started menu_decision menu_boot file_of middle_text target_of menu_entries menu_of meant slot_to slots_for chain_for file_slots file_sectors section_sectors_at flags_of descriptor_for plan_entries sectors_of_table sectors_after plan_sectors map_size plan_names plan_boot plan_boot_sector devices_in inode_places mapped_inode file_inode mapped_section code_in planned file_checks held_checks address_checks plan_at own_places_check plan_text opt_name all_options option_at opt_number takes_of places_of stands_in opens is_of_disk is_of_name excluded_by setup_of version_of header_of header_at fit_checks plan_memory replaced_fields patch command_line written_by place kernel_fit digits
refused_a_chain_of_partitions_that_goes_round = (refl, refl, refl)

-- a chain of partitions without a signature
pub refused_a_chain_of_partitions_without_a_signature : (plan_at (disks_of (disk_systems ++ (patch_at 1 0 466 (hex 9 0x05000000dc05000064) ∷ []))) (machine_of (disk_with 4096 16 63 ∷ disk_with 2000 4 17 ∷ [])) (record { span = record { disk = 0; start = 64; count = 4032 }; layout = record { kind = V1Long; inodes = 64; zones = 2016; imap = 1; zmap = 1; first = 6; max_size = 268966912; state = 1 } }) (record { disk = 0; start = 0; count = 4096 }) (record { boot = (Some (record { disk = 0; partition = 0 })); map = (codes "/boot/map"); install = (Some (codes "/boot/boot.b")); backup = None; force_backup = None; compact = false; mode = ChsMode; default_name = None; delay = 0; timeout = None; prompt = false; message = None; disks = []; sections = ((record { other = (Some (record { disk = 1; partition = 1 })); path = (codes "/dev/hdb1"); label = (codes "x"); alias = None; initrd = None; root = None; mount = Unsaid; append = None; literal = None; vga = None; password = None; restricted = false; optional = false; lock = false; fallback = None; table = None; line = 4 }) ∷ []) }) 0 ≡ Err (Table (tables.NoSignature 1500))) × (plan_status (Table (tables.NoSignature 1500)) ≡ 3) × (plan_text (Table (tables.NoSignature 1500)) ≡ (codes "table"))
unfolding number16 number32 is_zero has_ranges has_address is_slot is_one_slot chs_of address_of slot_of some_slot slot_at slot_bytes to_chs to_lba sector_at sectors_of place_at slot_make could_be_one named_device entry_at entries_of table_entries is_link is_plain link_of logical_of listed linked_sector chain_entries chain_tables partitions_of numbered_span span_of disk_name last_partition partition_name device_name devices_of named_devices device_at disk_number device_number kind_of super_of super_checks super_in super_at with_counts super_bytes v1_inode v2_inode inode_of inode_at v1_inode_bytes v2_inode_bytes inode_bytes kept_inode inode_place bit with_bit parts_of volume_at number_in follow pointer_by inside follow_at zone_at block_at content_at entry_of entries_in minixentries_entry_at find_entry entries_at is_dots components child find_path file_block file_at zone_number block content entry first_named lookup reached thing names names_in IsSound child_path path_of is_bootable has_signature has_options has_names has_slots has_no_message has_whole_message has_message has_zeros is_whole timeout_of table_slots boot_of boot_at field_bytes merged_sector names_of_section names_of_config started menu_decision menu_boot file_of middle_text target_of menu_entries menu_of meant slot_to slots_for chain_for file_slots file_sectors section_sectors_at flags_of descriptor_for plan_entries sectors_of_table sectors_after plan_sectors map_size plan_names plan_boot plan_boot_sector devices_in inode_places mapped_inode file_inode mapped_section code_in planned file_checks held_checks address_checks plan_at own_places_check plan_text opt_name all_options option_at opt_number takes_of places_of stands_in opens is_of_disk is_of_name excluded_by setup_of version_of header_of header_at fit_checks plan_memory replaced_fields patch command_line written_by place kernel_fit digits
refused_a_chain_of_partitions_without_a_signature = (refl, refl, refl)

-- Cases of the model, written by tools/plan_cases.py: why no map is planned.
use Rattle.std.proofs.Common.{◌≡◌, ◌∷◌, ◌++◌, [], true, false, codes, replicate, None, Some, Err, refl}
use Rattle.std.specs.Fmt.{digits}
use Rattle.lilo_model.specs.BootSector.{is_bootable, has_signature, has_options, has_names, has_slots, has_no_message, has_whole_message, has_message, has_zeros, is_whole, timeout_of, table_slots, boot_of, boot_at, field_bytes, merged_sector}
use Rattle.lilo_model.specs.Bytes.{number16, number32, is_zero}
use Rattle.lilo_model.specs.Conf.{Unsaid, ReadOnlyMount}
use Rattle.lilo_model.specs.ConfLawful.{names_of_section, names_of_config}
use Rattle.lilo_model.specs.ConfOptions.{opt_name, all_options, option_at, opt_number, takes_of, places_of, stands_in, opens, is_of_disk, is_of_name, excluded_by}
use Rattle.lilo_model.specs.Devices.{disk_name, last_partition, partition_name, device_name, devices_of, named_devices, device_at, disk_number, device_number}
use Rattle.lilo_model.specs.Header.{setup_of, version_of, header_of, header_at, fit_checks, plan_memory, replaced_fields, patch}
use Rattle.lilo_model.specs.Meant.{started, menu_decision, menu_boot, file_of, middle_text, target_of, menu_entries, menu_of, meant}
use Rattle.lilo_model.specs.MinixEntries.{entry_of, entries_in, entry_at as minixentries_entry_at, find_entry, entries_at, is_dots}
use Rattle.lilo_model.specs.MinixFind.{components, child, find_path, file_block, file_at}
use Rattle.lilo_model.specs.MinixFindNames.{child_path, path_of}
use Rattle.lilo_model.specs.MinixLayout.{kind_of, super_of, super_checks, super_in, super_at, with_counts, super_bytes, v1_inode, v2_inode, inode_of, inode_at, v1_inode_bytes, v2_inode_bytes, inode_bytes, kept_inode, inode_place, V1Long}
use Rattle.lilo_model.specs.MinixNames.{zone_number, block, content, entry, first_named, lookup, reached, thing, names, names_in, IsSound}
use Rattle.lilo_model.specs.MinixParts.{bit, with_bit, parts_of, volume_at, number_in, follow, pointer_by, inside, follow_at, zone_at, block_at, content_at}
use Rattle.lilo_model.specs.Partitions.{named_device, entry_at, entries_of, table_entries, is_link, is_plain, link_of, logical_of, listed, linked_sector, chain_entries, chain_tables, partitions_of, numbered_span, span_of}
use Rattle.lilo_model.specs.Place.{command_line, written_by, place, kernel_fit}
use Rattle.lilo_model.specs.Plan.{slot_to, slots_for, chain_for, file_slots, file_sectors, section_sectors_at, flags_of, descriptor_for, plan_entries, sectors_of_table, sectors_after, plan_sectors, map_size, plan_names, plan_boot, plan_boot_sector}
use Rattle.lilo_model.specs.PlanRefusal.{file_checks, held_checks, address_checks, plan_at, own_places_check, plan_text, Missing, OtherIsBoot, Table, Tree, plan_status}
use Rattle.lilo_model.specs.Planned.{devices_in, inode_places, mapped_inode, file_inode, mapped_section, code_in, planned}
use Rattle.lilo_model.specs.Slots.{has_ranges, has_address, is_slot, is_one_slot, chs_of, address_of, slot_of, some_slot, slot_at, slot_bytes, to_chs, to_lba, sector_at, sectors_of, place_at, slot_make, could_be_one, Lba32Mode}
use Rattle.lilo_model.specs.MinixFind as trees
use Rattle.lilo_model.specs.Partitions as tables
use Rattle.model_cases.specs.Sparse.{hex, patch_at, disks_of, disk_with, machine_of}
use Rattle.model_cases.specs.PlanDisks.{disk_files, disk_systems}

-- a link to itself
pub refused_a_link_to_itself : (plan_at (disks_of (disk_files ++ (patch_at 0 70 1 (hex 1 0x00) ∷ patch_at 0 72 96 (hex 6 0xffa100000700) ∷ patch_at 0 72 112 (hex 1 0x00) ∷ patch_at 0 72 142 (codes "\n") ∷ patch_at 0 72 174 (hex 1 0x0b) ∷ patch_at 0 72 206 (hex 1 0x0c) ∷ patch_at 0 82 0 (codes "vmlinuz") ∷ patch_at 0 82 497 (hex 1 0x00) ∷ patch_at 0 82 510 (hex 2 0x0000) ∷ patch_at 0 83 2 (replicate 6 0) ∷ patch_at 0 83 17 (hex 1 0x00) ∷ patch_at 0 83 44 (hex 4 0x00000000) ∷ patch_at 0 83 56 (hex 1 0x00) ∷ patch_at 0 84 0 (replicate 512 165) ∷ patch_at 0 85 0 (replicate 188 165) ∷ patch_at 0 86 0 (replicate 512 144) ∷ patch_at 0 87 0 (replicate 188 0) ∷ patch_at 0 88 0 (codes "#" ++ replicate 511 0) ∷ patch_at 0 90 0 (hex 1 0x00) ∷ []))) (machine_of (disk_with 4096 16 63 ∷ [])) (record { span = record { disk = 0; start = 64; count = 4032 }; layout = record { kind = V1Long; inodes = 64; zones = 2016; imap = 1; zmap = 1; first = 6; max_size = 268966912; state = 1 } }) (record { disk = 0; start = 0; count = 4096 }) (record { boot = (Some (record { disk = 0; partition = 0 })); map = (codes "/boot/map"); install = (Some (codes "/boot/boot.b")); backup = None; force_backup = None; compact = false; mode = Lba32Mode; default_name = (Some (codes "linux")); delay = 0; timeout = (Some 50); prompt = true; message = None; disks = []; sections = ((record { other = None; path = (codes "/boot/vmlinuz"); label = (codes "linux"); alias = None; initrd = None; root = (Some 769); mount = ReadOnlyMount; append = None; literal = None; vga = None; password = None; restricted = false; optional = false; lock = false; fallback = None; table = None; line = 8 }) ∷ []) }) 0 ≡ Err (Tree (codes "/boot/vmlinuz") trees.TooManyLinks)) × (plan_status (Tree (codes "/boot/vmlinuz") trees.TooManyLinks) ≡ 3) × (plan_text (Tree (codes "/boot/vmlinuz") trees.TooManyLinks) ≡ (codes "path /boot/vmlinuz"))
unfolding number16 number32 is_zero has_ranges has_address is_slot is_one_slot chs_of address_of slot_of some_slot slot_at slot_bytes to_chs to_lba sector_at sectors_of place_at slot_make could_be_one named_device entry_at entries_of table_entries is_link is_plain link_of logical_of listed linked_sector chain_entries chain_tables partitions_of numbered_span span_of disk_name last_partition partition_name device_name devices_of named_devices device_at disk_number device_number kind_of super_of super_checks super_in super_at with_counts super_bytes v1_inode v2_inode inode_of inode_at v1_inode_bytes v2_inode_bytes inode_bytes kept_inode inode_place bit with_bit parts_of volume_at number_in follow pointer_by inside follow_at zone_at block_at content_at entry_of entries_in minixentries_entry_at find_entry entries_at is_dots components child find_path file_block file_at zone_number block content entry first_named lookup reached thing names names_in IsSound child_path path_of is_bootable has_signature has_options has_names has_slots has_no_message has_whole_message has_message has_zeros is_whole timeout_of table_slots boot_of boot_at field_bytes merged_sector names_of_section names_of_config started menu_decision menu_boot file_of middle_text target_of menu_entries menu_of meant slot_to slots_for chain_for file_slots file_sectors section_sectors_at flags_of descriptor_for plan_entries sectors_of_table sectors_after plan_sectors map_size plan_names plan_boot plan_boot_sector devices_in inode_places mapped_inode file_inode mapped_section code_in planned file_checks held_checks address_checks plan_at own_places_check plan_text opt_name all_options option_at opt_number takes_of places_of stands_in opens is_of_disk is_of_name excluded_by setup_of version_of header_of header_at fit_checks plan_memory replaced_fields patch command_line written_by place kernel_fit digits
refused_a_link_to_itself = (refl, refl, refl)

-- nine links
pub refused_nine_links : (plan_at (disks_of (disk_files ++ (patch_at 0 68 1 (hex 2 0xff01) ∷ patch_at 0 70 1 (hex 2 0xff03) ∷ patch_at 0 72 36 (hex 2 0xc001) ∷ patch_at 0 72 96 (hex 6 0xffa100000200) ∷ patch_at 0 72 112 (hex 1 0x00) ∷ patch_at 0 72 128 (hex 6 0xffa100000200) ∷ patch_at 0 72 142 (codes "\n") ∷ patch_at 0 72 160 (hex 6 0xffa100000200) ∷ patch_at 0 72 174 (hex 1 0x0b) ∷ patch_at 0 72 192 (hex 5 0xffa1000002) ∷ patch_at 0 72 206 (hex 1 0x0c) ∷ patch_at 0 72 224 (hex 5 0xffa1000002) ∷ patch_at 0 72 237 (hex 2 0x010d) ∷ patch_at 0 72 256 (hex 5 0xffa1000002) ∷ patch_at 0 72 269 (hex 2 0x010e) ∷ patch_at 0 72 288 (hex 5 0xffa1000002) ∷ patch_at 0 72 301 (hex 2 0x010f) ∷ patch_at 0 72 320 (hex 5 0xffa1000002) ∷ patch_at 0 72 333 (hex 2 0x0110) ∷ patch_at 0 72 352 (hex 5 0xffa1000002) ∷ patch_at 0 72 365 (hex 2 0x0111) ∷ patch_at 0 72 384 (hex 6 0xa48100000504) ∷ patch_at 0 72 397 (hex 4 0x01120013) ∷ patch_at 0 72 416 (hex 6 0xa4810000bc02) ∷ patch_at 0 72 429 (hex 2 0x0114) ∷ patch_at 0 72 448 (hex 6 0xa48100000002) ∷ patch_at 0 72 461 (hex 2 0x0115) ∷ patch_at 0 72 480 (hex 5 0xa481000001) ∷ patch_at 0 72 493 (hex 2 0x0116) ∷ patch_at 0 78 98 (hex 6 0x613100000000) ∷ patch_at 0 78 130 (hex 6 0x613200000000) ∷ patch_at 0 78 160 (hex 4 0x07006133) ∷ patch_at 0 78 192 (hex 4 0x08006134) ∷ patch_at 0 78 224 (hex 4 0x09006135) ∷ patch_at 0 78 256 (hex 4 0x0a006136) ∷ patch_at 0 78 288 (hex 4 0x0b006137) ∷ patch_at 0 78 320 (hex 4 0x0c006138) ∷ patch_at 0 78 352 (hex 4 0x0d006139) ∷ patch_at 0 78 384 (hex 8 0x0e00696e69747264) ∷ patch_at 0 78 416 (hex 8 0x0f00626f6f742e62) ∷ patch_at 0 80 64 (hex 1 0x10) ∷ patch_at 0 82 0 (codes "a1") ∷ patch_at 0 82 497 (hex 1 0x00) ∷ patch_at 0 82 510 (hex 2 0x0000) ∷ patch_at 0 83 2 (replicate 6 0) ∷ patch_at 0 83 17 (hex 1 0x00) ∷ patch_at 0 83 44 (hex 4 0x00000000) ∷ patch_at 0 83 56 (hex 1 0x00) ∷ patch_at 0 84 0 (hex 5 0x6132000000) ∷ patch_at 0 86 0 (codes "a3" ++ replicate 510 0) ∷ patch_at 0 87 0 (replicate 188 0) ∷ patch_at 0 88 0 (codes "a4" ++ replicate 510 0) ∷ patch_at 0 90 0 (codes "a5") ∷ patch_at 0 92 0 (codes "a6") ∷ patch_at 0 94 0 (codes "a7") ∷ patch_at 0 96 0 (codes "a8") ∷ patch_at 0 98 0 (codes "a9") ∷ patch_at 0 100 497 (hex 1 0x01) ∷ patch_at 0 100 510 (hex 2 0x55aa) ∷ patch_at 0 101 2 (hex 6 0x486472530602) ∷ patch_at 0 101 17 (hex 1 0x01) ∷ patch_at 0 101 44 (hex 4 0xffffff37) ∷ patch_at 0 101 56 (hex 1 0xff) ∷ patch_at 0 102 0 (codes "HELLO") ∷ patch_at 0 104 0 (replicate 512 165) ∷ patch_at 0 105 0 (replicate 188 165) ∷ patch_at 0 106 0 (replicate 512 144) ∷ patch_at 0 108 0 (codes "#") ∷ []))) (machine_of (disk_with 4096 16 63 ∷ [])) (record { span = record { disk = 0; start = 64; count = 4032 }; layout = record { kind = V1Long; inodes = 64; zones = 2016; imap = 1; zmap = 1; first = 6; max_size = 268966912; state = 1 } }) (record { disk = 0; start = 0; count = 4096 }) (record { boot = (Some (record { disk = 0; partition = 0 })); map = (codes "/boot/map"); install = (Some (codes "/boot/boot.b")); backup = None; force_backup = None; compact = false; mode = Lba32Mode; default_name = (Some (codes "linux")); delay = 0; timeout = (Some 50); prompt = true; message = None; disks = []; sections = ((record { other = None; path = (codes "/boot/vmlinuz"); label = (codes "linux"); alias = None; initrd = None; root = (Some 769); mount = ReadOnlyMount; append = None; literal = None; vga = None; password = None; restricted = false; optional = false; lock = false; fallback = None; table = None; line = 8 }) ∷ []) }) 0 ≡ Err (Tree (codes "/boot/vmlinuz") trees.TooManyLinks)) × (plan_status (Tree (codes "/boot/vmlinuz") trees.TooManyLinks) ≡ 3) × (plan_text (Tree (codes "/boot/vmlinuz") trees.TooManyLinks) ≡ (codes "path /boot/vmlinuz"))
unfolding number16 number32 is_zero has_ranges has_address is_slot is_one_slot chs_of address_of slot_of some_slot slot_at slot_bytes to_chs to_lba sector_at sectors_of place_at slot_make could_be_one named_device entry_at entries_of table_entries is_link is_plain link_of logical_of listed linked_sector chain_entries chain_tables partitions_of numbered_span span_of disk_name last_partition partition_name device_name devices_of named_devices device_at disk_number device_number kind_of super_of super_checks super_in super_at with_counts super_bytes v1_inode v2_inode inode_of inode_at v1_inode_bytes v2_inode_bytes inode_bytes kept_inode inode_place bit with_bit parts_of volume_at number_in follow pointer_by inside follow_at zone_at block_at content_at entry_of entries_in minixentries_entry_at find_entry entries_at is_dots components child find_path file_block file_at zone_number block content entry first_named lookup reached thing names names_in IsSound child_path path_of is_bootable has_signature has_options has_names has_slots has_no_message has_whole_message has_message has_zeros is_whole timeout_of table_slots boot_of boot_at field_bytes merged_sector names_of_section names_of_config started menu_decision menu_boot file_of middle_text target_of menu_entries menu_of meant slot_to slots_for chain_for file_slots file_sectors section_sectors_at flags_of descriptor_for plan_entries sectors_of_table sectors_after plan_sectors map_size plan_names plan_boot plan_boot_sector devices_in inode_places mapped_inode file_inode mapped_section code_in planned file_checks held_checks address_checks plan_at own_places_check plan_text opt_name all_options option_at opt_number takes_of places_of stands_in opens is_of_disk is_of_name excluded_by setup_of version_of header_of header_at fit_checks plan_memory replaced_fields patch command_line written_by place kernel_fit digits
refused_nine_links = (refl, refl, refl)

-- another system on no disk, after a missing kernel
pub refused_another_system_on_no_disk_after_a_missing_kernel : (plan_at (disks_of (disk_files ++ (patch_at 0 68 0 (hex 1 0x7f) ∷ patch_at 0 70 0 (hex 2 0x7f00) ∷ patch_at 0 72 36 (hex 1 0x80) ∷ patch_at 0 72 100 (hex 2 0xbc02) ∷ patch_at 0 72 112 (hex 1 0x00) ∷ patch_at 0 72 132 (hex 1 0x00) ∷ patch_at 0 72 142 (codes "\n") ∷ patch_at 0 72 164 (hex 2 0x0100) ∷ patch_at 0 72 174 (hex 1 0x0b) ∷ patch_at 0 72 192 (replicate 5 0) ∷ patch_at 0 72 205 (hex 2 0x0000) ∷ patch_at 0 78 66 (hex 7 0x696e6974726400) ∷ patch_at 0 78 98 (codes "boot.b") ∷ patch_at 0 78 128 (replicate 8 0) ∷ patch_at 0 80 64 (hex 1 0x06) ∷ patch_at 0 82 0 (replicate 512 165) ∷ patch_at 0 83 0 (replicate 188 165) ∷ patch_at 0 84 0 (replicate 512 144) ∷ patch_at 0 86 0 (codes "#" ++ replicate 511 0) ∷ patch_at 0 87 0 (replicate 188 0) ∷ patch_at 0 88 0 (replicate 512 0) ∷ patch_at 0 90 0 (hex 1 0x00) ∷ []))) (machine_of (disk_with 4096 16 63 ∷ [])) (record { span = record { disk = 0; start = 64; count = 4032 }; layout = record { kind = V1Long; inodes = 64; zones = 2016; imap = 1; zmap = 1; first = 6; max_size = 268966912; state = 1 } }) (record { disk = 0; start = 0; count = 4096 }) (record { boot = (Some (record { disk = 0; partition = 0 })); map = (codes "/boot/map"); install = (Some (codes "/boot/boot.b")); backup = None; force_backup = None; compact = false; mode = Lba32Mode; default_name = (Some (codes "linux")); delay = 0; timeout = (Some 50); prompt = true; message = None; disks = []; sections = ((record { other = None; path = (codes "/boot/vmlinuz"); label = (codes "linux"); alias = None; initrd = (Some (codes "/boot/initrd")); root = (Some 769); mount = ReadOnlyMount; append = None; literal = None; vga = None; password = None; restricted = false; optional = false; lock = false; fallback = None; table = None; line = 8 }) ∷ (record { other = (Some (record { disk = 1; partition = 0 })); path = (codes "/dev/hdb"); label = (codes "x"); alias = None; initrd = None; root = None; mount = Unsaid; append = None; literal = None; vga = None; password = None; restricted = false; optional = false; lock = false; fallback = None; table = None; line = 13 }) ∷ []) }) 0 ≡ Err (Missing (codes "/boot/vmlinuz"))) × (plan_status (Missing (codes "/boot/vmlinuz")) ≡ 3) × (plan_text (Missing (codes "/boot/vmlinuz")) ≡ (codes "missing /boot/vmlinuz"))
unfolding number16 number32 is_zero has_ranges has_address is_slot is_one_slot chs_of address_of slot_of some_slot slot_at slot_bytes to_chs to_lba sector_at sectors_of place_at slot_make could_be_one named_device entry_at entries_of table_entries is_link is_plain link_of logical_of listed linked_sector chain_entries chain_tables partitions_of numbered_span span_of disk_name last_partition partition_name device_name devices_of named_devices device_at disk_number device_number kind_of super_of super_checks super_in super_at with_counts super_bytes v1_inode v2_inode inode_of inode_at v1_inode_bytes v2_inode_bytes inode_bytes kept_inode inode_place bit with_bit parts_of volume_at number_in follow pointer_by inside follow_at zone_at block_at content_at entry_of entries_in minixentries_entry_at find_entry entries_at is_dots components child find_path file_block file_at zone_number block content entry first_named lookup reached thing names names_in IsSound child_path path_of is_bootable has_signature has_options has_names has_slots has_no_message has_whole_message has_message has_zeros is_whole timeout_of table_slots boot_of boot_at field_bytes merged_sector names_of_section names_of_config started menu_decision menu_boot file_of middle_text target_of menu_entries menu_of meant slot_to slots_for chain_for file_slots file_sectors section_sectors_at flags_of descriptor_for plan_entries sectors_of_table sectors_after plan_sectors map_size plan_names plan_boot plan_boot_sector devices_in inode_places mapped_inode file_inode mapped_section code_in planned file_checks held_checks address_checks plan_at own_places_check plan_text opt_name all_options option_at opt_number takes_of places_of stands_in opens is_of_disk is_of_name excluded_by setup_of version_of header_of header_at fit_checks plan_memory replaced_fields patch command_line written_by place kernel_fit digits
refused_another_system_on_no_disk_after_a_missing_kernel = (refl, refl, refl)

-- another system on no disk
pub refused_another_system_on_no_disk : (plan_at (disks_of disk_files) (machine_of (disk_with 4096 16 63 ∷ [])) (record { span = record { disk = 0; start = 64; count = 4032 }; layout = record { kind = V1Long; inodes = 64; zones = 2016; imap = 1; zmap = 1; first = 6; max_size = 268966912; state = 1 } }) (record { disk = 0; start = 0; count = 4096 }) (record { boot = (Some (record { disk = 0; partition = 0 })); map = (codes "/boot/map"); install = (Some (codes "/boot/boot.b")); backup = None; force_backup = None; compact = false; mode = Lba32Mode; default_name = (Some (codes "linux")); delay = 0; timeout = (Some 50); prompt = true; message = None; disks = []; sections = ((record { other = None; path = (codes "/boot/vmlinuz"); label = (codes "linux"); alias = None; initrd = (Some (codes "/boot/initrd")); root = (Some 769); mount = ReadOnlyMount; append = None; literal = None; vga = None; password = None; restricted = false; optional = false; lock = false; fallback = None; table = None; line = 8 }) ∷ (record { other = (Some (record { disk = 1; partition = 0 })); path = (codes "/dev/hdb"); label = (codes "x"); alias = None; initrd = None; root = None; mount = Unsaid; append = None; literal = None; vga = None; password = None; restricted = false; optional = false; lock = false; fallback = None; table = None; line = 13 }) ∷ []) }) 0 ≡ Err (Table (tables.NoDisk 1))) × (plan_status (Table (tables.NoDisk 1)) ≡ 3) × (plan_text (Table (tables.NoDisk 1)) ≡ (codes "no disk"))
unfolding number16 number32 is_zero has_ranges has_address is_slot is_one_slot chs_of address_of slot_of some_slot slot_at slot_bytes to_chs to_lba sector_at sectors_of place_at slot_make could_be_one named_device entry_at entries_of table_entries is_link is_plain link_of logical_of listed linked_sector chain_entries chain_tables partitions_of numbered_span span_of disk_name last_partition partition_name device_name devices_of named_devices device_at disk_number device_number kind_of super_of super_checks super_in super_at with_counts super_bytes v1_inode v2_inode inode_of inode_at v1_inode_bytes v2_inode_bytes inode_bytes kept_inode inode_place bit with_bit parts_of volume_at number_in follow pointer_by inside follow_at zone_at block_at content_at entry_of entries_in minixentries_entry_at find_entry entries_at is_dots components child find_path file_block file_at zone_number block content entry first_named lookup reached thing names names_in IsSound child_path path_of is_bootable has_signature has_options has_names has_slots has_no_message has_whole_message has_message has_zeros is_whole timeout_of table_slots boot_of boot_at field_bytes merged_sector names_of_section names_of_config started menu_decision menu_boot file_of middle_text target_of menu_entries menu_of meant slot_to slots_for chain_for file_slots file_sectors section_sectors_at flags_of descriptor_for plan_entries sectors_of_table sectors_after plan_sectors map_size plan_names plan_boot plan_boot_sector devices_in inode_places mapped_inode file_inode mapped_section code_in planned file_checks held_checks address_checks plan_at own_places_check plan_text opt_name all_options option_at opt_number takes_of places_of stands_in opens is_of_disk is_of_name excluded_by setup_of version_of header_of header_at fit_checks plan_memory replaced_fields patch command_line written_by place kernel_fit digits
refused_another_system_on_no_disk = (refl, refl, refl)

-- another system on no partition
pub refused_another_system_on_no_partition : (plan_at (disks_of disk_files) (machine_of (disk_with 4096 16 63 ∷ [])) (record { span = record { disk = 0; start = 64; count = 4032 }; layout = record { kind = V1Long; inodes = 64; zones = 2016; imap = 1; zmap = 1; first = 6; max_size = 268966912; state = 1 } }) (record { disk = 0; start = 0; count = 4096 }) (record { boot = (Some (record { disk = 0; partition = 0 })); map = (codes "/boot/map"); install = (Some (codes "/boot/boot.b")); backup = None; force_backup = None; compact = false; mode = Lba32Mode; default_name = (Some (codes "linux")); delay = 0; timeout = (Some 50); prompt = true; message = None; disks = []; sections = ((record { other = None; path = (codes "/boot/vmlinuz"); label = (codes "linux"); alias = None; initrd = (Some (codes "/boot/initrd")); root = (Some 769); mount = ReadOnlyMount; append = None; literal = None; vga = None; password = None; restricted = false; optional = false; lock = false; fallback = None; table = None; line = 8 }) ∷ (record { other = (Some (record { disk = 0; partition = 3 })); path = (codes "/dev/hda3"); label = (codes "x"); alias = None; initrd = None; root = None; mount = Unsaid; append = None; literal = None; vga = None; password = None; restricted = false; optional = false; lock = false; fallback = None; table = None; line = 13 }) ∷ []) }) 0 ≡ Err (Table (tables.NoPartition 3))) × (plan_status (Table (tables.NoPartition 3)) ≡ 3) × (plan_text (Table (tables.NoPartition 3)) ≡ (codes "no partition"))
unfolding number16 number32 is_zero has_ranges has_address is_slot is_one_slot chs_of address_of slot_of some_slot slot_at slot_bytes to_chs to_lba sector_at sectors_of place_at slot_make could_be_one named_device entry_at entries_of table_entries is_link is_plain link_of logical_of listed linked_sector chain_entries chain_tables partitions_of numbered_span span_of disk_name last_partition partition_name device_name devices_of named_devices device_at disk_number device_number kind_of super_of super_checks super_in super_at with_counts super_bytes v1_inode v2_inode inode_of inode_at v1_inode_bytes v2_inode_bytes inode_bytes kept_inode inode_place bit with_bit parts_of volume_at number_in follow pointer_by inside follow_at zone_at block_at content_at entry_of entries_in minixentries_entry_at find_entry entries_at is_dots components child find_path file_block file_at zone_number block content entry first_named lookup reached thing names names_in IsSound child_path path_of is_bootable has_signature has_options has_names has_slots has_no_message has_whole_message has_message has_zeros is_whole timeout_of table_slots boot_of boot_at field_bytes merged_sector names_of_section names_of_config started menu_decision menu_boot file_of middle_text target_of menu_entries menu_of meant slot_to slots_for chain_for file_slots file_sectors section_sectors_at flags_of descriptor_for plan_entries sectors_of_table sectors_after plan_sectors map_size plan_names plan_boot plan_boot_sector devices_in inode_places mapped_inode file_inode mapped_section code_in planned file_checks held_checks address_checks plan_at own_places_check plan_text opt_name all_options option_at opt_number takes_of places_of stands_in opens is_of_disk is_of_name excluded_by setup_of version_of header_of header_at fit_checks plan_memory replaced_fields patch command_line written_by place kernel_fit digits
refused_another_system_on_no_partition = (refl, refl, refl)

-- a table on no partition
pub refused_a_table_on_no_partition : (plan_at (disks_of disk_systems) (machine_of (disk_with 4096 16 63 ∷ disk_with 2000 4 17 ∷ [])) (record { span = record { disk = 0; start = 64; count = 4032 }; layout = record { kind = V1Long; inodes = 64; zones = 2016; imap = 1; zmap = 1; first = 6; max_size = 268966912; state = 1 } }) (record { disk = 0; start = 0; count = 4096 }) (record { boot = (Some (record { disk = 0; partition = 0 })); map = (codes "/boot/map"); install = (Some (codes "/boot/boot.b")); backup = None; force_backup = None; compact = false; mode = Lba32Mode; default_name = (Some (codes "linux")); delay = 0; timeout = (Some 50); prompt = true; message = None; disks = []; sections = ((record { other = None; path = (codes "/boot/vmlinuz"); label = (codes "linux"); alias = None; initrd = (Some (codes "/boot/initrd")); root = (Some 769); mount = ReadOnlyMount; append = None; literal = None; vga = None; password = None; restricted = false; optional = false; lock = false; fallback = None; table = None; line = 8 }) ∷ (record { other = (Some (record { disk = 1; partition = 1 })); path = (codes "/dev/hdb1"); label = (codes "x"); alias = None; initrd = None; root = None; mount = Unsaid; append = None; literal = None; vga = None; password = None; restricted = false; optional = false; lock = false; fallback = None; table = (Some (record { disk = 1; partition = 7 })); line = 13 }) ∷ []) }) 0 ≡ Err (Table (tables.NoPartition 7))) × (plan_status (Table (tables.NoPartition 7)) ≡ 3) × (plan_text (Table (tables.NoPartition 7)) ≡ (codes "no partition"))
unfolding number16 number32 is_zero has_ranges has_address is_slot is_one_slot chs_of address_of slot_of some_slot slot_at slot_bytes to_chs to_lba sector_at sectors_of place_at slot_make could_be_one named_device entry_at entries_of table_entries is_link is_plain link_of logical_of listed linked_sector chain_entries chain_tables partitions_of numbered_span span_of disk_name last_partition partition_name device_name devices_of named_devices device_at disk_number device_number kind_of super_of super_checks super_in super_at with_counts super_bytes v1_inode v2_inode inode_of inode_at v1_inode_bytes v2_inode_bytes inode_bytes kept_inode inode_place bit with_bit parts_of volume_at number_in follow pointer_by inside follow_at zone_at block_at content_at entry_of entries_in minixentries_entry_at find_entry entries_at is_dots components child find_path file_block file_at zone_number block content entry first_named lookup reached thing names names_in IsSound child_path path_of is_bootable has_signature has_options has_names has_slots has_no_message has_whole_message has_message has_zeros is_whole timeout_of table_slots boot_of boot_at field_bytes merged_sector names_of_section names_of_config started menu_decision menu_boot file_of middle_text target_of menu_entries menu_of meant slot_to slots_for chain_for file_slots file_sectors section_sectors_at flags_of descriptor_for plan_entries sectors_of_table sectors_after plan_sectors map_size plan_names plan_boot plan_boot_sector devices_in inode_places mapped_inode file_inode mapped_section code_in planned file_checks held_checks address_checks plan_at own_places_check plan_text opt_name all_options option_at opt_number takes_of places_of stands_in opens is_of_disk is_of_name excluded_by setup_of version_of header_of header_at fit_checks plan_memory replaced_fields patch command_line written_by place kernel_fit digits
refused_a_table_on_no_partition = (refl, refl, refl)

-- another system is the boot device
pub refused_another_system_is_the_boot_device : (plan_at (disks_of disk_files) (machine_of (disk_with 4096 16 63 ∷ [])) (record { span = record { disk = 0; start = 64; count = 4032 }; layout = record { kind = V1Long; inodes = 64; zones = 2016; imap = 1; zmap = 1; first = 6; max_size = 268966912; state = 1 } }) (record { disk = 0; start = 0; count = 4096 }) (record { boot = (Some (record { disk = 0; partition = 0 })); map = (codes "/boot/map"); install = (Some (codes "/boot/boot.b")); backup = None; force_backup = None; compact = false; mode = Lba32Mode; default_name = (Some (codes "linux")); delay = 0; timeout = (Some 50); prompt = true; message = None; disks = []; sections = ((record { other = None; path = (codes "/boot/vmlinuz"); label = (codes "linux"); alias = None; initrd = (Some (codes "/boot/initrd")); root = (Some 769); mount = ReadOnlyMount; append = None; literal = None; vga = None; password = None; restricted = false; optional = false; lock = false; fallback = None; table = None; line = 8 }) ∷ (record { other = (Some (record { disk = 0; partition = 0 })); path = (codes "/dev/hda"); label = (codes "x"); alias = None; initrd = None; root = None; mount = Unsaid; append = None; literal = None; vga = None; password = None; restricted = false; optional = false; lock = false; fallback = None; table = None; line = 13 }) ∷ []) }) 0 ≡ Err (OtherIsBoot (codes "/dev/hda"))) × (plan_status (OtherIsBoot (codes "/dev/hda")) ≡ 4) × (plan_text (OtherIsBoot (codes "/dev/hda")) ≡ (codes "other is boot /dev/hda"))
unfolding number16 number32 is_zero has_ranges has_address is_slot is_one_slot chs_of address_of slot_of some_slot slot_at slot_bytes to_chs to_lba sector_at sectors_of place_at slot_make could_be_one named_device entry_at entries_of table_entries is_link is_plain link_of logical_of listed linked_sector chain_entries chain_tables partitions_of numbered_span span_of disk_name last_partition partition_name device_name devices_of named_devices device_at disk_number device_number kind_of super_of super_checks super_in super_at with_counts super_bytes v1_inode v2_inode inode_of inode_at v1_inode_bytes v2_inode_bytes inode_bytes kept_inode inode_place bit with_bit parts_of volume_at number_in follow pointer_by inside follow_at zone_at block_at content_at entry_of entries_in minixentries_entry_at find_entry entries_at is_dots components child find_path file_block file_at zone_number block content entry first_named lookup reached thing names names_in IsSound child_path path_of is_bootable has_signature has_options has_names has_slots has_no_message has_whole_message has_message has_zeros is_whole timeout_of table_slots boot_of boot_at field_bytes merged_sector names_of_section names_of_config started menu_decision menu_boot file_of middle_text target_of menu_entries menu_of meant slot_to slots_for chain_for file_slots file_sectors section_sectors_at flags_of descriptor_for plan_entries sectors_of_table sectors_after plan_sectors map_size plan_names plan_boot plan_boot_sector devices_in inode_places mapped_inode file_inode mapped_section code_in planned file_checks held_checks address_checks plan_at own_places_check plan_text opt_name all_options option_at opt_number takes_of places_of stands_in opens is_of_disk is_of_name excluded_by setup_of version_of header_of header_at fit_checks plan_memory replaced_fields patch command_line written_by place kernel_fit digits
refused_another_system_is_the_boot_device = (refl, refl, refl)

-- and of two
pub refused_and_of_two : (plan_at (disks_of disk_systems) (machine_of (disk_with 4096 16 63 ∷ disk_with 2000 4 17 ∷ [])) (record { span = record { disk = 0; start = 64; count = 4032 }; layout = record { kind = V1Long; inodes = 64; zones = 2016; imap = 1; zmap = 1; first = 6; max_size = 268966912; state = 1 } }) (record { disk = 0; start = 0; count = 4096 }) (record { boot = (Some (record { disk = 0; partition = 0 })); map = (codes "/boot/map"); install = (Some (codes "/boot/boot.b")); backup = None; force_backup = None; compact = false; mode = Lba32Mode; default_name = (Some (codes "linux")); delay = 0; timeout = (Some 50); prompt = true; message = None; disks = []; sections = ((record { other = None; path = (codes "/boot/vmlinuz"); label = (codes "linux"); alias = None; initrd = (Some (codes "/boot/initrd")); root = (Some 769); mount = ReadOnlyMount; append = None; literal = None; vga = None; password = None; restricted = false; optional = false; lock = false; fallback = None; table = None; line = 8 }) ∷ (record { other = (Some (record { disk = 1; partition = 1 })); path = (codes "/dev/hdb1"); label = (codes "y"); alias = None; initrd = None; root = None; mount = Unsaid; append = None; literal = None; vga = None; password = None; restricted = false; optional = false; lock = false; fallback = None; table = None; line = 13 }) ∷ (record { other = (Some (record { disk = 0; partition = 0 })); path = (codes "/dev/hda"); label = (codes "x"); alias = None; initrd = None; root = None; mount = Unsaid; append = None; literal = None; vga = None; password = None; restricted = false; optional = false; lock = false; fallback = None; table = None; line = 15 }) ∷ []) }) 0 ≡ Err (OtherIsBoot (codes "/dev/hda"))) × (plan_status (OtherIsBoot (codes "/dev/hda")) ≡ 4) × (plan_text (OtherIsBoot (codes "/dev/hda")) ≡ (codes "other is boot /dev/hda"))
unfolding number16 number32 is_zero has_ranges has_address is_slot is_one_slot chs_of address_of slot_of some_slot slot_at slot_bytes to_chs to_lba sector_at sectors_of place_at slot_make could_be_one named_device entry_at entries_of table_entries is_link is_plain link_of logical_of listed linked_sector chain_entries chain_tables partitions_of numbered_span span_of disk_name last_partition partition_name device_name devices_of named_devices device_at disk_number device_number kind_of super_of super_checks super_in super_at with_counts super_bytes v1_inode v2_inode inode_of inode_at v1_inode_bytes v2_inode_bytes inode_bytes kept_inode inode_place bit with_bit parts_of volume_at number_in follow pointer_by inside follow_at zone_at block_at content_at entry_of entries_in minixentries_entry_at find_entry entries_at is_dots components child find_path file_block file_at zone_number block content entry first_named lookup reached thing names names_in IsSound child_path path_of is_bootable has_signature has_options has_names has_slots has_no_message has_whole_message has_message has_zeros is_whole timeout_of table_slots boot_of boot_at field_bytes merged_sector names_of_section names_of_config started menu_decision menu_boot file_of middle_text target_of menu_entries menu_of meant slot_to slots_for chain_for file_slots file_sectors section_sectors_at flags_of descriptor_for plan_entries sectors_of_table sectors_after plan_sectors map_size plan_names plan_boot plan_boot_sector devices_in inode_places mapped_inode file_inode mapped_section code_in planned file_checks held_checks address_checks plan_at own_places_check plan_text opt_name all_options option_at opt_number takes_of places_of stands_in opens is_of_disk is_of_name excluded_by setup_of version_of header_of header_at fit_checks plan_memory replaced_fields patch command_line written_by place kernel_fit digits
refused_and_of_two = (refl, refl, refl)

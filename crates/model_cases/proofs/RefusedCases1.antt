-- Cases of the model, written by tools/plan_cases.py: why no map is planned.
use Rattle.std.proofs.Common.{◌≡◌, ◌∷◌, ◌++◌, [], true, false, codes, replicate, None, Some, Err, refl}
use Rattle.std.specs.Fmt.{digits}
use Rattle.lilo_model.specs.BootSector.{is_bootable, has_signature, has_options, has_names, has_slots, has_no_message, has_whole_message, has_message, has_zeros, is_whole, timeout_of, table_slots, boot_of, boot_at, field_bytes, merged_sector}
use Rattle.lilo_model.specs.Bytes.{number16, number32, is_zero}
use Rattle.lilo_model.specs.Conf.{Unsaid, ReadOnlyMount}
use Rattle.lilo_model.specs.ConfLawful.{names_of_section, names_of_config}
use Rattle.lilo_model.specs.ConfOptions.{opt_name, all_options, option_at, opt_number, takes_of, places_of, stands_in, opens, is_of_disk, is_of_name, excluded_by}
use Rattle.lilo_model.specs.Devices.{disk_name, last_partition, partition_name, device_name, devices_of, named_devices, device_at, disk_number, device_number}
use Rattle.lilo_model.specs.Header.{setup_of, version_of, header_of, header_at, fit_checks, plan_memory, replaced_fields, patch, NoBootFlag}
use Rattle.lilo_model.specs.Meant.{started, menu_decision, menu_boot, file_of, middle_text, target_of, menu_entries, menu_of, meant}
use Rattle.lilo_model.specs.MinixEntries.{entry_of, entries_in, entry_at as minixentries_entry_at, find_entry, entries_at, is_dots}
use Rattle.lilo_model.specs.MinixFind.{components, child, find_path, file_block, file_at}
use Rattle.lilo_model.specs.MinixFindNames.{child_path, path_of}
use Rattle.lilo_model.specs.MinixLayout.{kind_of, super_of, super_checks, super_in, super_at, with_counts, super_bytes, v1_inode, v2_inode, inode_of, inode_at, v1_inode_bytes, v2_inode_bytes, inode_bytes, kept_inode, inode_place, V1Long}
use Rattle.lilo_model.specs.MinixNames.{zone_number, block, content, entry, first_named, lookup, reached, thing, names, names_in, IsSound}
use Rattle.lilo_model.specs.MinixParts.{bit, with_bit, parts_of, volume_at, number_in, follow, pointer_by, inside, follow_at, zone_at, block_at, content_at}
use Rattle.lilo_model.specs.Partitions.{named_device, entry_at, entries_of, table_entries, is_link, is_plain, link_of, logical_of, listed, linked_sector, chain_entries, chain_tables, partitions_of, numbered_span, span_of}
use Rattle.lilo_model.specs.Place.{command_line, written_by, place, kernel_fit}
use Rattle.lilo_model.specs.Plan.{slot_to, slots_for, chain_for, file_slots, file_sectors, section_sectors_at, flags_of, descriptor_for, plan_entries, sectors_of_table, sectors_after, plan_sectors, map_size, plan_names, plan_boot, plan_boot_sector}
use Rattle.lilo_model.specs.PlanRefusal.{file_checks, held_checks, address_checks, plan_at, own_places_check, plan_text, Missing, NoImagesLeft, Tree, plan_status, Header as headers_of}
use Rattle.lilo_model.specs.Planned.{devices_in, inode_places, mapped_inode, file_inode, mapped_section, code_in, planned}
use Rattle.lilo_model.specs.Slots.{has_ranges, has_address, is_slot, is_one_slot, chs_of, address_of, slot_of, some_slot, slot_at, slot_bytes, to_chs, to_lba, sector_at, sectors_of, place_at, slot_make, could_be_one, Lba32Mode}
use Rattle.lilo_model.specs.MinixFind as trees
use Rattle.lilo_model.specs.Header as headers
use Rattle.model_cases.specs.Sparse.{hex, patch_at, disks_of, disk_with, machine_of}
use Rattle.model_cases.specs.PlanDisks.{disk_files}

-- no file with the code
pub refused_no_file_with_the_code : (plan_at (disks_of disk_files) (machine_of (disk_with 4096 16 63 ∷ [])) (record { span = record { disk = 0; start = 64; count = 4032 }; layout = record { kind = V1Long; inodes = 64; zones = 2016; imap = 1; zmap = 1; first = 6; max_size = 268966912; state = 1 } }) (record { disk = 0; start = 0; count = 4096 }) (record { boot = (Some (record { disk = 0; partition = 0 })); map = (codes "/boot/map"); install = (Some (codes "/boot/none")); backup = None; force_backup = None; compact = false; mode = Lba32Mode; default_name = (Some (codes "linux")); delay = 0; timeout = (Some 50); prompt = true; message = None; disks = []; sections = ((record { other = None; path = (codes "/boot/vmlinuz"); label = (codes "linux"); alias = None; initrd = (Some (codes "/boot/initrd")); root = (Some 769); mount = ReadOnlyMount; append = None; literal = None; vga = None; password = None; restricted = false; optional = false; lock = false; fallback = None; table = None; line = 8 }) ∷ []) }) 0 ≡ Err (Missing (codes "/boot/none"))) × (plan_status (Missing (codes "/boot/none")) ≡ 3) × (plan_text (Missing (codes "/boot/none")) ≡ (codes "missing /boot/none"))
unfolding number16 number32 is_zero has_ranges has_address is_slot is_one_slot chs_of address_of slot_of some_slot slot_at slot_bytes to_chs to_lba sector_at sectors_of place_at slot_make could_be_one named_device entry_at entries_of table_entries is_link is_plain link_of logical_of listed linked_sector chain_entries chain_tables partitions_of numbered_span span_of disk_name last_partition partition_name device_name devices_of named_devices device_at disk_number device_number kind_of super_of super_checks super_in super_at with_counts super_bytes v1_inode v2_inode inode_of inode_at v1_inode_bytes v2_inode_bytes inode_bytes kept_inode inode_place bit with_bit parts_of volume_at number_in follow pointer_by inside follow_at zone_at block_at content_at entry_of entries_in minixentries_entry_at find_entry entries_at is_dots components child find_path file_block file_at zone_number block content entry first_named lookup reached thing names names_in IsSound child_path path_of is_bootable has_signature has_options has_names has_slots has_no_message has_whole_message has_message has_zeros is_whole timeout_of table_slots boot_of boot_at field_bytes merged_sector names_of_section names_of_config started menu_decision menu_boot file_of middle_text target_of menu_entries menu_of meant slot_to slots_for chain_for file_slots file_sectors section_sectors_at flags_of descriptor_for plan_entries sectors_of_table sectors_after plan_sectors map_size plan_names plan_boot plan_boot_sector devices_in inode_places mapped_inode file_inode mapped_section code_in planned file_checks held_checks address_checks plan_at own_places_check plan_text opt_name all_options option_at opt_number takes_of places_of stands_in opens is_of_disk is_of_name excluded_by setup_of version_of header_of header_at fit_checks plan_memory replaced_fields patch command_line written_by place kernel_fit digits
refused_no_file_with_the_code = (refl, refl, refl)

-- the code is a directory, and the message is missing
pub refused_the_code_is_a_directory_and_the_message_is_missing : (plan_at (disks_of disk_files) (machine_of (disk_with 4096 16 63 ∷ [])) (record { span = record { disk = 0; start = 64; count = 4032 }; layout = record { kind = V1Long; inodes = 64; zones = 2016; imap = 1; zmap = 1; first = 6; max_size = 268966912; state = 1 } }) (record { disk = 0; start = 0; count = 4096 }) (record { boot = (Some (record { disk = 0; partition = 0 })); map = (codes "/boot/map"); install = (Some (codes "/boot")); backup = None; force_backup = None; compact = false; mode = Lba32Mode; default_name = (Some (codes "linux")); delay = 0; timeout = (Some 50); prompt = true; message = (Some (codes "/none")); disks = []; sections = ((record { other = None; path = (codes "/boot/vmlinuz"); label = (codes "linux"); alias = None; initrd = (Some (codes "/boot/initrd")); root = (Some 769); mount = ReadOnlyMount; append = None; literal = None; vga = None; password = None; restricted = false; optional = false; lock = false; fallback = None; table = None; line = 9 }) ∷ []) }) 0 ≡ Err (Tree (codes "/boot") trees.NotFile)) × (plan_status (Tree (codes "/boot") trees.NotFile) ≡ 3) × (plan_text (Tree (codes "/boot") trees.NotFile) ≡ (codes "path /boot"))
unfolding number16 number32 is_zero has_ranges has_address is_slot is_one_slot chs_of address_of slot_of some_slot slot_at slot_bytes to_chs to_lba sector_at sectors_of place_at slot_make could_be_one named_device entry_at entries_of table_entries is_link is_plain link_of logical_of listed linked_sector chain_entries chain_tables partitions_of numbered_span span_of disk_name last_partition partition_name device_name devices_of named_devices device_at disk_number device_number kind_of super_of super_checks super_in super_at with_counts super_bytes v1_inode v2_inode inode_of inode_at v1_inode_bytes v2_inode_bytes inode_bytes kept_inode inode_place bit with_bit parts_of volume_at number_in follow pointer_by inside follow_at zone_at block_at content_at entry_of entries_in minixentries_entry_at find_entry entries_at is_dots components child find_path file_block file_at zone_number block content entry first_named lookup reached thing names names_in IsSound child_path path_of is_bootable has_signature has_options has_names has_slots has_no_message has_whole_message has_message has_zeros is_whole timeout_of table_slots boot_of boot_at field_bytes merged_sector names_of_section names_of_config started menu_decision menu_boot file_of middle_text target_of menu_entries menu_of meant slot_to slots_for chain_for file_slots file_sectors section_sectors_at flags_of descriptor_for plan_entries sectors_of_table sectors_after plan_sectors map_size plan_names plan_boot plan_boot_sector devices_in inode_places mapped_inode file_inode mapped_section code_in planned file_checks held_checks address_checks plan_at own_places_check plan_text opt_name all_options option_at opt_number takes_of places_of stands_in opens is_of_disk is_of_name excluded_by setup_of version_of header_of header_at fit_checks plan_memory replaced_fields patch command_line written_by place kernel_fit digits
refused_the_code_is_a_directory_and_the_message_is_missing = (refl, refl, refl)

-- the message leads through a file, and the kernel is missing
pub refused_the_message_leads_through_a_file_and_the_kernel_is_missing : (plan_at (disks_of (disk_files ++ (patch_at 0 68 0 (hex 1 0x7f) ∷ patch_at 0 70 0 (hex 2 0x7f00) ∷ patch_at 0 72 36 (hex 1 0x80) ∷ patch_at 0 72 100 (hex 2 0xbc02) ∷ patch_at 0 72 112 (hex 1 0x00) ∷ patch_at 0 72 132 (hex 1 0x00) ∷ patch_at 0 72 142 (codes "\n") ∷ patch_at 0 72 164 (hex 2 0x0100) ∷ patch_at 0 72 174 (hex 1 0x0b) ∷ patch_at 0 72 192 (replicate 5 0) ∷ patch_at 0 72 205 (hex 2 0x0000) ∷ patch_at 0 78 66 (hex 7 0x696e6974726400) ∷ patch_at 0 78 98 (codes "boot.b") ∷ patch_at 0 78 128 (replicate 8 0) ∷ patch_at 0 80 64 (hex 1 0x06) ∷ patch_at 0 82 0 (replicate 512 165) ∷ patch_at 0 83 0 (replicate 188 165) ∷ patch_at 0 84 0 (replicate 512 144) ∷ patch_at 0 86 0 (codes "#" ++ replicate 511 0) ∷ patch_at 0 87 0 (replicate 188 0) ∷ patch_at 0 88 0 (replicate 512 0) ∷ patch_at 0 90 0 (hex 1 0x00) ∷ []))) (machine_of (disk_with 4096 16 63 ∷ [])) (record { span = record { disk = 0; start = 64; count = 4032 }; layout = record { kind = V1Long; inodes = 64; zones = 2016; imap = 1; zmap = 1; first = 6; max_size = 268966912; state = 1 } }) (record { disk = 0; start = 0; count = 4096 }) (record { boot = (Some (record { disk = 0; partition = 0 })); map = (codes "/boot/map"); install = (Some (codes "/boot/boot.b")); backup = None; force_backup = None; compact = false; mode = Lba32Mode; default_name = (Some (codes "linux")); delay = 0; timeout = (Some 50); prompt = true; message = (Some (codes "/boot/initrd/x")); disks = []; sections = ((record { other = None; path = (codes "/boot/vmlinuz"); label = (codes "linux"); alias = None; initrd = None; root = (Some 769); mount = ReadOnlyMount; append = None; literal = None; vga = None; password = None; restricted = false; optional = false; lock = false; fallback = None; table = None; line = 9 }) ∷ []) }) 0 ≡ Err (Tree (codes "/boot/initrd/x") (trees.NotDirectory 2))) × (plan_status (Tree (codes "/boot/initrd/x") (trees.NotDirectory 2)) ≡ 3) × (plan_text (Tree (codes "/boot/initrd/x") (trees.NotDirectory 2)) ≡ (codes "path /boot/initrd/x"))
unfolding number16 number32 is_zero has_ranges has_address is_slot is_one_slot chs_of address_of slot_of some_slot slot_at slot_bytes to_chs to_lba sector_at sectors_of place_at slot_make could_be_one named_device entry_at entries_of table_entries is_link is_plain link_of logical_of listed linked_sector chain_entries chain_tables partitions_of numbered_span span_of disk_name last_partition partition_name device_name devices_of named_devices device_at disk_number device_number kind_of super_of super_checks super_in super_at with_counts super_bytes v1_inode v2_inode inode_of inode_at v1_inode_bytes v2_inode_bytes inode_bytes kept_inode inode_place bit with_bit parts_of volume_at number_in follow pointer_by inside follow_at zone_at block_at content_at entry_of entries_in minixentries_entry_at find_entry entries_at is_dots components child find_path file_block file_at zone_number block content entry first_named lookup reached thing names names_in IsSound child_path path_of is_bootable has_signature has_options has_names has_slots has_no_message has_whole_message has_message has_zeros is_whole timeout_of table_slots boot_of boot_at field_bytes merged_sector names_of_section names_of_config started menu_decision menu_boot file_of middle_text target_of menu_entries menu_of meant slot_to slots_for chain_for file_slots file_sectors section_sectors_at flags_of descriptor_for plan_entries sectors_of_table sectors_after plan_sectors map_size plan_names plan_boot plan_boot_sector devices_in inode_places mapped_inode file_inode mapped_section code_in planned file_checks held_checks address_checks plan_at own_places_check plan_text opt_name all_options option_at opt_number takes_of places_of stands_in opens is_of_disk is_of_name excluded_by setup_of version_of header_of header_at fit_checks plan_memory replaced_fields patch command_line written_by place kernel_fit digits
refused_the_message_leads_through_a_file_and_the_kernel_is_missing = (refl, refl, refl)

-- the kernel is missing
pub refused_the_kernel_is_missing : (plan_at (disks_of (disk_files ++ (patch_at 0 68 0 (hex 1 0x7f) ∷ patch_at 0 70 0 (hex 2 0x7f00) ∷ patch_at 0 72 36 (hex 1 0x80) ∷ patch_at 0 72 100 (hex 2 0xbc02) ∷ patch_at 0 72 112 (hex 1 0x00) ∷ patch_at 0 72 132 (hex 1 0x00) ∷ patch_at 0 72 142 (codes "\n") ∷ patch_at 0 72 164 (hex 2 0x0100) ∷ patch_at 0 72 174 (hex 1 0x0b) ∷ patch_at 0 72 192 (replicate 5 0) ∷ patch_at 0 72 205 (hex 2 0x0000) ∷ patch_at 0 78 66 (hex 7 0x696e6974726400) ∷ patch_at 0 78 98 (codes "boot.b") ∷ patch_at 0 78 128 (replicate 8 0) ∷ patch_at 0 80 64 (hex 1 0x06) ∷ patch_at 0 82 0 (replicate 512 165) ∷ patch_at 0 83 0 (replicate 188 165) ∷ patch_at 0 84 0 (replicate 512 144) ∷ patch_at 0 86 0 (codes "#" ++ replicate 511 0) ∷ patch_at 0 87 0 (replicate 188 0) ∷ patch_at 0 88 0 (replicate 512 0) ∷ patch_at 0 90 0 (hex 1 0x00) ∷ []))) (machine_of (disk_with 4096 16 63 ∷ [])) (record { span = record { disk = 0; start = 64; count = 4032 }; layout = record { kind = V1Long; inodes = 64; zones = 2016; imap = 1; zmap = 1; first = 6; max_size = 268966912; state = 1 } }) (record { disk = 0; start = 0; count = 4096 }) (record { boot = (Some (record { disk = 0; partition = 0 })); map = (codes "/boot/map"); install = (Some (codes "/boot/boot.b")); backup = None; force_backup = None; compact = false; mode = Lba32Mode; default_name = (Some (codes "linux")); delay = 0; timeout = (Some 50); prompt = true; message = None; disks = []; sections = ((record { other = None; path = (codes "/boot/vmlinuz"); label = (codes "linux"); alias = None; initrd = (Some (codes "/boot/initrd")); root = (Some 769); mount = ReadOnlyMount; append = None; literal = None; vga = None; password = None; restricted = false; optional = false; lock = false; fallback = None; table = None; line = 8 }) ∷ []) }) 0 ≡ Err (Missing (codes "/boot/vmlinuz"))) × (plan_status (Missing (codes "/boot/vmlinuz")) ≡ 3) × (plan_text (Missing (codes "/boot/vmlinuz")) ≡ (codes "missing /boot/vmlinuz"))
unfolding number16 number32 is_zero has_ranges has_address is_slot is_one_slot chs_of address_of slot_of some_slot slot_at slot_bytes to_chs to_lba sector_at sectors_of place_at slot_make could_be_one named_device entry_at entries_of table_entries is_link is_plain link_of logical_of listed linked_sector chain_entries chain_tables partitions_of numbered_span span_of disk_name last_partition partition_name device_name devices_of named_devices device_at disk_number device_number kind_of super_of super_checks super_in super_at with_counts super_bytes v1_inode v2_inode inode_of inode_at v1_inode_bytes v2_inode_bytes inode_bytes kept_inode inode_place bit with_bit parts_of volume_at number_in follow pointer_by inside follow_at zone_at block_at content_at entry_of entries_in minixentries_entry_at find_entry entries_at is_dots components child find_path file_block file_at zone_number block content entry first_named lookup reached thing names names_in IsSound child_path path_of is_bootable has_signature has_options has_names has_slots has_no_message has_whole_message has_message has_zeros is_whole timeout_of table_slots boot_of boot_at field_bytes merged_sector names_of_section names_of_config started menu_decision menu_boot file_of middle_text target_of menu_entries menu_of meant slot_to slots_for chain_for file_slots file_sectors section_sectors_at flags_of descriptor_for plan_entries sectors_of_table sectors_after plan_sectors map_size plan_names plan_boot plan_boot_sector devices_in inode_places mapped_inode file_inode mapped_section code_in planned file_checks held_checks address_checks plan_at own_places_check plan_text opt_name all_options option_at opt_number takes_of places_of stands_in opens is_of_disk is_of_name excluded_by setup_of version_of header_of header_at fit_checks plan_memory replaced_fields patch command_line written_by place kernel_fit digits
refused_the_kernel_is_missing = (refl, refl, refl)

-- the kernel is missing and optional, and is the default
pub refused_the_kernel_is_missing_and_optional_and_is_the_default : (plan_at (disks_of (disk_files ++ (patch_at 0 68 0 (hex 1 0x7f) ∷ patch_at 0 70 0 (hex 2 0x7f00) ∷ patch_at 0 72 36 (hex 1 0x80) ∷ patch_at 0 72 100 (hex 2 0xbc02) ∷ patch_at 0 72 112 (hex 1 0x00) ∷ patch_at 0 72 132 (hex 1 0x00) ∷ patch_at 0 72 142 (codes "\n") ∷ patch_at 0 72 164 (hex 2 0x0100) ∷ patch_at 0 72 174 (hex 1 0x0b) ∷ patch_at 0 72 192 (replicate 5 0) ∷ patch_at 0 72 205 (hex 2 0x0000) ∷ patch_at 0 78 66 (hex 7 0x696e6974726400) ∷ patch_at 0 78 98 (codes "boot.b") ∷ patch_at 0 78 128 (replicate 8 0) ∷ patch_at 0 80 64 (hex 1 0x06) ∷ patch_at 0 82 0 (replicate 512 165) ∷ patch_at 0 83 0 (replicate 188 165) ∷ patch_at 0 84 0 (replicate 512 144) ∷ patch_at 0 86 0 (codes "#" ++ replicate 511 0) ∷ patch_at 0 87 0 (replicate 188 0) ∷ patch_at 0 88 0 (replicate 512 0) ∷ patch_at 0 90 0 (hex 1 0x00) ∷ []))) (machine_of (disk_with 4096 16 63 ∷ [])) (record { span = record { disk = 0; start = 64; count = 4032 }; layout = record { kind = V1Long; inodes = 64; zones = 2016; imap = 1; zmap = 1; first = 6; max_size = 268966912; state = 1 } }) (record { disk = 0; start = 0; count = 4096 }) (record { boot = (Some (record { disk = 0; partition = 0 })); map = (codes "/boot/map"); install = (Some (codes "/boot/boot.b")); backup = None; force_backup = None; compact = false; mode = Lba32Mode; default_name = (Some (codes "linux")); delay = 0; timeout = (Some 50); prompt = true; message = None; disks = []; sections = ((record { other = None; path = (codes "/boot/vmlinuz"); label = (codes "linux"); alias = None; initrd = (Some (codes "/boot/initrd")); root = (Some 769); mount = ReadOnlyMount; append = None; literal = None; vga = None; password = None; restricted = false; optional = true; lock = false; fallback = None; table = None; line = 8 }) ∷ []) }) 0 ≡ Err (Missing (codes "linux"))) × (plan_status (Missing (codes "linux")) ≡ 3) × (plan_text (Missing (codes "linux")) ≡ (codes "missing linux"))
unfolding number16 number32 is_zero has_ranges has_address is_slot is_one_slot chs_of address_of slot_of some_slot slot_at slot_bytes to_chs to_lba sector_at sectors_of place_at slot_make could_be_one named_device entry_at entries_of table_entries is_link is_plain link_of logical_of listed linked_sector chain_entries chain_tables partitions_of numbered_span span_of disk_name last_partition partition_name device_name devices_of named_devices device_at disk_number device_number kind_of super_of super_checks super_in super_at with_counts super_bytes v1_inode v2_inode inode_of inode_at v1_inode_bytes v2_inode_bytes inode_bytes kept_inode inode_place bit with_bit parts_of volume_at number_in follow pointer_by inside follow_at zone_at block_at content_at entry_of entries_in minixentries_entry_at find_entry entries_at is_dots components child find_path file_block file_at zone_number block content entry first_named lookup reached thing names names_in IsSound child_path path_of is_bootable has_signature has_options has_names has_slots has_no_message has_whole_message has_message has_zeros is_whole timeout_of table_slots boot_of boot_at field_bytes merged_sector names_of_section names_of_config started menu_decision menu_boot file_of middle_text target_of menu_entries menu_of meant slot_to slots_for chain_for file_slots file_sectors section_sectors_at flags_of descriptor_for plan_entries sectors_of_table sectors_after plan_sectors map_size plan_names plan_boot plan_boot_sector devices_in inode_places mapped_inode file_inode mapped_section code_in planned file_checks held_checks address_checks plan_at own_places_check plan_text opt_name all_options option_at opt_number takes_of places_of stands_in opens is_of_disk is_of_name excluded_by setup_of version_of header_of header_at fit_checks plan_memory replaced_fields patch command_line written_by place kernel_fit digits
refused_the_kernel_is_missing_and_optional_and_is_the_default = (refl, refl, refl)

-- the only section is omitted
pub refused_the_only_section_is_omitted : (plan_at (disks_of (disk_files ++ (patch_at 0 68 0 (hex 1 0x7f) ∷ patch_at 0 70 0 (hex 2 0x7f00) ∷ patch_at 0 72 36 (hex 1 0x80) ∷ patch_at 0 72 100 (hex 2 0xbc02) ∷ patch_at 0 72 112 (hex 1 0x00) ∷ patch_at 0 72 132 (hex 1 0x00) ∷ patch_at 0 72 142 (codes "\n") ∷ patch_at 0 72 164 (hex 2 0x0100) ∷ patch_at 0 72 174 (hex 1 0x0b) ∷ patch_at 0 72 192 (replicate 5 0) ∷ patch_at 0 72 205 (hex 2 0x0000) ∷ patch_at 0 78 66 (hex 7 0x696e6974726400) ∷ patch_at 0 78 98 (codes "boot.b") ∷ patch_at 0 78 128 (replicate 8 0) ∷ patch_at 0 80 64 (hex 1 0x06) ∷ patch_at 0 82 0 (replicate 512 165) ∷ patch_at 0 83 0 (replicate 188 165) ∷ patch_at 0 84 0 (replicate 512 144) ∷ patch_at 0 86 0 (codes "#" ++ replicate 511 0) ∷ patch_at 0 87 0 (replicate 188 0) ∷ patch_at 0 88 0 (replicate 512 0) ∷ patch_at 0 90 0 (hex 1 0x00) ∷ []))) (machine_of (disk_with 4096 16 63 ∷ [])) (record { span = record { disk = 0; start = 64; count = 4032 }; layout = record { kind = V1Long; inodes = 64; zones = 2016; imap = 1; zmap = 1; first = 6; max_size = 268966912; state = 1 } }) (record { disk = 0; start = 0; count = 4096 }) (record { boot = (Some (record { disk = 0; partition = 0 })); map = (codes "/boot/map"); install = (Some (codes "/boot/boot.b")); backup = None; force_backup = None; compact = false; mode = Lba32Mode; default_name = None; delay = 0; timeout = (Some 50); prompt = true; message = None; disks = []; sections = ((record { other = None; path = (codes "/boot/vmlinuz"); label = (codes "linux"); alias = None; initrd = (Some (codes "/boot/initrd")); root = (Some 769); mount = ReadOnlyMount; append = None; literal = None; vga = None; password = None; restricted = false; optional = true; lock = false; fallback = None; table = None; line = 7 }) ∷ []) }) 0 ≡ Err (NoImagesLeft)) × (plan_status (NoImagesLeft) ≡ 3) × (plan_text (NoImagesLeft) ≡ (codes "no images left"))
unfolding number16 number32 is_zero has_ranges has_address is_slot is_one_slot chs_of address_of slot_of some_slot slot_at slot_bytes to_chs to_lba sector_at sectors_of place_at slot_make could_be_one named_device entry_at entries_of table_entries is_link is_plain link_of logical_of listed linked_sector chain_entries chain_tables partitions_of numbered_span span_of disk_name last_partition partition_name device_name devices_of named_devices device_at disk_number device_number kind_of super_of super_checks super_in super_at with_counts super_bytes v1_inode v2_inode inode_of inode_at v1_inode_bytes v2_inode_bytes inode_bytes kept_inode inode_place bit with_bit parts_of volume_at number_in follow pointer_by inside follow_at zone_at block_at content_at entry_of entries_in minixentries_entry_at find_entry entries_at is_dots components child find_path file_block file_at zone_number block content entry first_named lookup reached thing names names_in IsSound child_path path_of is_bootable has_signature has_options has_names has_slots has_no_message has_whole_message has_message has_zeros is_whole timeout_of table_slots boot_of boot_at field_bytes merged_sector names_of_section names_of_config started menu_decision menu_boot file_of middle_text target_of menu_entries menu_of meant slot_to slots_for chain_for file_slots file_sectors section_sectors_at flags_of descriptor_for plan_entries sectors_of_table sectors_after plan_sectors map_size plan_names plan_boot plan_boot_sector devices_in inode_places mapped_inode file_inode mapped_section code_in planned file_checks held_checks address_checks plan_at own_places_check plan_text opt_name all_options option_at opt_number takes_of places_of stands_in opens is_of_disk is_of_name excluded_by setup_of version_of header_of header_at fit_checks plan_memory replaced_fields patch command_line written_by place kernel_fit digits
refused_the_only_section_is_omitted = (refl, refl, refl)

-- the initrd is missing
pub refused_the_initrd_is_missing : (plan_at (disks_of (disk_files ++ (patch_at 0 68 0 (hex 1 0x7f) ∷ patch_at 0 70 1 (hex 1 0x00) ∷ patch_at 0 72 36 (hex 1 0x80) ∷ patch_at 0 72 132 (hex 1 0x00) ∷ patch_at 0 72 164 (hex 2 0x0100) ∷ patch_at 0 72 192 (replicate 5 0) ∷ patch_at 0 72 205 (hex 2 0x0000) ∷ patch_at 0 78 98 (codes "boot.b") ∷ patch_at 0 78 128 (replicate 8 0) ∷ patch_at 0 80 64 (hex 1 0x06) ∷ patch_at 0 86 0 (replicate 512 144) ∷ patch_at 0 87 0 (replicate 188 0) ∷ patch_at 0 88 0 (codes "#" ++ replicate 511 0) ∷ patch_at 0 90 0 (hex 1 0x00) ∷ []))) (machine_of (disk_with 4096 16 63 ∷ [])) (record { span = record { disk = 0; start = 64; count = 4032 }; layout = record { kind = V1Long; inodes = 64; zones = 2016; imap = 1; zmap = 1; first = 6; max_size = 268966912; state = 1 } }) (record { disk = 0; start = 0; count = 4096 }) (record { boot = (Some (record { disk = 0; partition = 0 })); map = (codes "/boot/map"); install = (Some (codes "/boot/boot.b")); backup = None; force_backup = None; compact = false; mode = Lba32Mode; default_name = (Some (codes "linux")); delay = 0; timeout = (Some 50); prompt = true; message = None; disks = []; sections = ((record { other = None; path = (codes "/boot/vmlinuz"); label = (codes "linux"); alias = None; initrd = (Some (codes "/boot/initrd")); root = (Some 769); mount = ReadOnlyMount; append = None; literal = None; vga = None; password = None; restricted = false; optional = false; lock = false; fallback = None; table = None; line = 8 }) ∷ []) }) 0 ≡ Err (Missing (codes "/boot/initrd"))) × (plan_status (Missing (codes "/boot/initrd")) ≡ 3) × (plan_text (Missing (codes "/boot/initrd")) ≡ (codes "missing /boot/initrd"))
unfolding number16 number32 is_zero has_ranges has_address is_slot is_one_slot chs_of address_of slot_of some_slot slot_at slot_bytes to_chs to_lba sector_at sectors_of place_at slot_make could_be_one named_device entry_at entries_of table_entries is_link is_plain link_of logical_of listed linked_sector chain_entries chain_tables partitions_of numbered_span span_of disk_name last_partition partition_name device_name devices_of named_devices device_at disk_number device_number kind_of super_of super_checks super_in super_at with_counts super_bytes v1_inode v2_inode inode_of inode_at v1_inode_bytes v2_inode_bytes inode_bytes kept_inode inode_place bit with_bit parts_of volume_at number_in follow pointer_by inside follow_at zone_at block_at content_at entry_of entries_in minixentries_entry_at find_entry entries_at is_dots components child find_path file_block file_at zone_number block content entry first_named lookup reached thing names names_in IsSound child_path path_of is_bootable has_signature has_options has_names has_slots has_no_message has_whole_message has_message has_zeros is_whole timeout_of table_slots boot_of boot_at field_bytes merged_sector names_of_section names_of_config started menu_decision menu_boot file_of middle_text target_of menu_entries menu_of meant slot_to slots_for chain_for file_slots file_sectors section_sectors_at flags_of descriptor_for plan_entries sectors_of_table sectors_after plan_sectors map_size plan_names plan_boot plan_boot_sector devices_in inode_places mapped_inode file_inode mapped_section code_in planned file_checks held_checks address_checks plan_at own_places_check plan_text opt_name all_options option_at opt_number takes_of places_of stands_in opens is_of_disk is_of_name excluded_by setup_of version_of header_of header_at fit_checks plan_memory replaced_fields patch command_line written_by place kernel_fit digits
refused_the_initrd_is_missing = (refl, refl, refl)

-- the initrd of an omitted section is not looked for
pub refused_the_initrd_of_an_omitted_section_is_not_looked_for : (plan_at (disks_of (disk_files ++ (patch_at 0 68 0 (hex 1 0x7f) ∷ patch_at 0 70 0 (hex 2 0x7f00) ∷ patch_at 0 72 36 (hex 1 0x80) ∷ patch_at 0 72 100 (hex 2 0xbc02) ∷ patch_at 0 72 112 (hex 1 0x00) ∷ patch_at 0 72 132 (hex 1 0x00) ∷ patch_at 0 72 142 (codes "\n") ∷ patch_at 0 72 164 (hex 2 0x0100) ∷ patch_at 0 72 174 (hex 1 0x0b) ∷ patch_at 0 72 192 (replicate 5 0) ∷ patch_at 0 72 205 (hex 2 0x0000) ∷ patch_at 0 78 66 (hex 7 0x696e6974726400) ∷ patch_at 0 78 98 (codes "boot.b") ∷ patch_at 0 78 128 (replicate 8 0) ∷ patch_at 0 80 64 (hex 1 0x06) ∷ patch_at 0 82 0 (replicate 512 165) ∷ patch_at 0 83 0 (replicate 188 165) ∷ patch_at 0 84 0 (replicate 512 144) ∷ patch_at 0 86 0 (codes "#" ++ replicate 511 0) ∷ patch_at 0 87 0 (replicate 188 0) ∷ patch_at 0 88 0 (replicate 512 0) ∷ patch_at 0 90 0 (hex 1 0x00) ∷ []))) (machine_of (disk_with 4096 16 63 ∷ [])) (record { span = record { disk = 0; start = 64; count = 4032 }; layout = record { kind = V1Long; inodes = 64; zones = 2016; imap = 1; zmap = 1; first = 6; max_size = 268966912; state = 1 } }) (record { disk = 0; start = 0; count = 4096 }) (record { boot = (Some (record { disk = 0; partition = 0 })); map = (codes "/boot/map"); install = (Some (codes "/boot/boot.b")); backup = None; force_backup = None; compact = false; mode = Lba32Mode; default_name = None; delay = 0; timeout = (Some 50); prompt = true; message = None; disks = []; sections = ((record { other = None; path = (codes "/boot/vmlinuz"); label = (codes "linux"); alias = None; initrd = None; root = (Some 769); mount = ReadOnlyMount; append = None; literal = None; vga = None; password = None; restricted = false; optional = true; lock = false; fallback = None; table = None; line = 7 }) ∷ (record { other = None; path = (codes "/boot/boot.b"); label = (codes "b"); alias = None; initrd = None; root = None; mount = Unsaid; append = None; literal = None; vga = None; password = None; restricted = false; optional = false; lock = false; fallback = None; table = None; line = 12 }) ∷ []) }) 0 ≡ Err (headers_of (codes "/boot/boot.b") headers.NoBootFlag)) × (plan_status (headers_of (codes "/boot/boot.b") headers.NoBootFlag) ≡ 4) × (plan_text (headers_of (codes "/boot/boot.b") headers.NoBootFlag) ≡ (codes "header /boot/boot.b"))
unfolding number16 number32 is_zero has_ranges has_address is_slot is_one_slot chs_of address_of slot_of some_slot slot_at slot_bytes to_chs to_lba sector_at sectors_of place_at slot_make could_be_one named_device entry_at entries_of table_entries is_link is_plain link_of logical_of listed linked_sector chain_entries chain_tables partitions_of numbered_span span_of disk_name last_partition partition_name device_name devices_of named_devices device_at disk_number device_number kind_of super_of super_checks super_in super_at with_counts super_bytes v1_inode v2_inode inode_of inode_at v1_inode_bytes v2_inode_bytes inode_bytes kept_inode inode_place bit with_bit parts_of volume_at number_in follow pointer_by inside follow_at zone_at block_at content_at entry_of entries_in minixentries_entry_at find_entry entries_at is_dots components child find_path file_block file_at zone_number block content entry first_named lookup reached thing names names_in IsSound child_path path_of is_bootable has_signature has_options has_names has_slots has_no_message has_whole_message has_message has_zeros is_whole timeout_of table_slots boot_of boot_at field_bytes merged_sector names_of_section names_of_config started menu_decision menu_boot file_of middle_text target_of menu_entries menu_of meant slot_to slots_for chain_for file_slots file_sectors section_sectors_at flags_of descriptor_for plan_entries sectors_of_table sectors_after plan_sectors map_size plan_names plan_boot plan_boot_sector devices_in inode_places mapped_inode file_inode mapped_section code_in planned file_checks held_checks address_checks plan_at own_places_check plan_text opt_name all_options option_at opt_number takes_of places_of stands_in opens is_of_disk is_of_name excluded_by setup_of version_of header_of header_at fit_checks plan_memory replaced_fields patch command_line written_by place kernel_fit digits
refused_the_initrd_of_an_omitted_section_is_not_looked_for = (refl, refl, refl)

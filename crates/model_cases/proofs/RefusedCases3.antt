-- Cases of the model, written by tools/plan_cases.py: why no map is planned.
use Rattle.std.proofs.Common.{◌≡◌, ◌∷◌, ◌++◌, [], true, false, codes, replicate, None, Some, Err, refl}
use Rattle.std.specs.Fmt.{digits}
use Rattle.lilo_model.specs.BootSector.{is_bootable, has_signature, has_options, has_names, has_slots, has_no_message, has_whole_message, has_message, has_zeros, is_whole, timeout_of, table_slots, boot_of, boot_at, field_bytes, merged_sector}
use Rattle.lilo_model.specs.Bytes.{number16, number32, is_zero}
use Rattle.lilo_model.specs.Conf.{Unsaid, ReadOnlyMount}
use Rattle.lilo_model.specs.ConfLawful.{names_of_section, names_of_config}
use Rattle.lilo_model.specs.ConfOptions.{opt_name, all_options, option_at, opt_number, takes_of, places_of, stands_in, opens, is_of_disk, is_of_name, excluded_by}
use Rattle.lilo_model.specs.Devices.{disk_name, last_partition, partition_name, device_name, devices_of, named_devices, device_at, disk_number, device_number}
use Rattle.lilo_model.specs.Header.{setup_of, version_of, header_of, header_at, fit_checks, plan_memory, replaced_fields, patch, TooShort, NoBootFlag}
use Rattle.lilo_model.specs.Meant.{started, menu_decision, menu_boot, file_of, middle_text, target_of, menu_entries, menu_of, meant}
use Rattle.lilo_model.specs.MinixEntries.{entry_of, entries_in, entry_at as minixentries_entry_at, find_entry, entries_at, is_dots}
use Rattle.lilo_model.specs.MinixFind.{components, child, find_path, file_block, file_at}
use Rattle.lilo_model.specs.MinixFindNames.{child_path, path_of}
use Rattle.lilo_model.specs.MinixLayout.{kind_of, super_of, super_checks, super_in, super_at, with_counts, super_bytes, v1_inode, v2_inode, inode_of, inode_at, v1_inode_bytes, v2_inode_bytes, inode_bytes, kept_inode, inode_place, V1Long}
use Rattle.lilo_model.specs.MinixNames.{zone_number, block, content, entry, first_named, lookup, reached, thing, names, names_in, IsSound}
use Rattle.lilo_model.specs.MinixParts.{bit, with_bit, parts_of, volume_at, number_in, follow, pointer_by, inside, follow_at, zone_at, block_at, content_at}
use Rattle.lilo_model.specs.Partitions.{named_device, entry_at, entries_of, table_entries, is_link, is_plain, link_of, logical_of, listed, linked_sector, chain_entries, chain_tables, partitions_of, numbered_span, span_of}
use Rattle.lilo_model.specs.Place.{command_line, written_by, place, kernel_fit}
use Rattle.lilo_model.specs.Plan.{slot_to, slots_for, chain_for, file_slots, file_sectors, section_sectors_at, flags_of, descriptor_for, plan_entries, sectors_of_table, sectors_after, plan_sectors, map_size, plan_names, plan_boot, plan_boot_sector}
use Rattle.lilo_model.specs.PlanRefusal.{file_checks, held_checks, address_checks, plan_at, own_places_check, plan_text, GeometryDiffers, NoSignature, MessageTooLong, plan_status, Header as headers_of}
use Rattle.lilo_model.specs.Planned.{devices_in, inode_places, mapped_inode, file_inode, mapped_section, code_in, planned}
use Rattle.lilo_model.specs.Slots.{has_ranges, has_address, is_slot, is_one_slot, chs_of, address_of, slot_of, some_slot, slot_at, slot_bytes, to_chs, to_lba, sector_at, sectors_of, place_at, slot_make, could_be_one, Lba32Mode}
use Rattle.lilo_model.specs.Header as headers
use Rattle.lilo_model.specs.ConfOptions as options
use Rattle.model_cases.specs.Sparse.{hex, patch_at, disks_of, disk_with, machine_of}
use Rattle.model_cases.specs.PlanDisks.{disk_files, disk_systems}

-- no signature
pub refused_no_signature : (plan_at (disks_of (disk_systems ++ (patch_at 1 63 510 (hex 1 0x00) ∷ []))) (machine_of (disk_with 4096 16 63 ∷ disk_with 2000 4 17 ∷ [])) (record { span = record { disk = 0; start = 64; count = 4032 }; layout = record { kind = V1Long; inodes = 64; zones = 2016; imap = 1; zmap = 1; first = 6; max_size = 268966912; state = 1 } }) (record { disk = 0; start = 0; count = 4096 }) (record { boot = (Some (record { disk = 0; partition = 0 })); map = (codes "/boot/map"); install = (Some (codes "/boot/boot.b")); backup = None; force_backup = None; compact = false; mode = Lba32Mode; default_name = (Some (codes "linux")); delay = 0; timeout = (Some 50); prompt = true; message = None; disks = []; sections = ((record { other = None; path = (codes "/boot/vmlinuz"); label = (codes "linux"); alias = None; initrd = (Some (codes "/boot/initrd")); root = (Some 769); mount = ReadOnlyMount; append = None; literal = None; vga = None; password = None; restricted = false; optional = false; lock = false; fallback = None; table = None; line = 8 }) ∷ (record { other = (Some (record { disk = 1; partition = 1 })); path = (codes "/dev/hdb1"); label = (codes "x"); alias = None; initrd = None; root = None; mount = Unsaid; append = None; literal = None; vga = None; password = None; restricted = false; optional = false; lock = false; fallback = None; table = None; line = 13 }) ∷ []) }) 0 ≡ Err (NoSignature (codes "/dev/hdb1"))) × (plan_status (NoSignature (codes "/dev/hdb1")) ≡ 4) × (plan_text (NoSignature (codes "/dev/hdb1")) ≡ (codes "no signature /dev/hdb1"))
unfolding number16 number32 is_zero has_ranges has_address is_slot is_one_slot chs_of address_of slot_of some_slot slot_at slot_bytes to_chs to_lba sector_at sectors_of place_at slot_make could_be_one named_device entry_at entries_of table_entries is_link is_plain link_of logical_of listed linked_sector chain_entries chain_tables partitions_of numbered_span span_of disk_name last_partition partition_name device_name devices_of named_devices device_at disk_number device_number kind_of super_of super_checks super_in super_at with_counts super_bytes v1_inode v2_inode inode_of inode_at v1_inode_bytes v2_inode_bytes inode_bytes kept_inode inode_place bit with_bit parts_of volume_at number_in follow pointer_by inside follow_at zone_at block_at content_at entry_of entries_in minixentries_entry_at find_entry entries_at is_dots components child find_path file_block file_at zone_number block content entry first_named lookup reached thing names names_in IsSound child_path path_of is_bootable has_signature has_options has_names has_slots has_no_message has_whole_message has_message has_zeros is_whole timeout_of table_slots boot_of boot_at field_bytes merged_sector names_of_section names_of_config started menu_decision menu_boot file_of middle_text target_of menu_entries menu_of meant slot_to slots_for chain_for file_slots file_sectors section_sectors_at flags_of descriptor_for plan_entries sectors_of_table sectors_after plan_sectors map_size plan_names plan_boot plan_boot_sector devices_in inode_places mapped_inode file_inode mapped_section code_in planned file_checks held_checks address_checks plan_at own_places_check plan_text opt_name all_options option_at opt_number takes_of places_of stands_in opens is_of_disk is_of_name excluded_by setup_of version_of header_of header_at fit_checks plan_memory replaced_fields patch command_line written_by place kernel_fit digits
refused_no_signature = (refl, refl, refl)

-- no signature, after a kernel without a boot flag
pub refused_no_signature_after_a_kernel_without_a_boot_flag : (plan_at (disks_of (disk_systems ++ (patch_at 0 82 510 (hex 2 0x0000) ∷ patch_at 0 84 0 (replicate 5 5) ∷ patch_at 1 63 510 (hex 1 0x00) ∷ []))) (machine_of (disk_with 4096 16 63 ∷ disk_with 2000 4 17 ∷ [])) (record { span = record { disk = 0; start = 64; count = 4032 }; layout = record { kind = V1Long; inodes = 64; zones = 2016; imap = 1; zmap = 1; first = 6; max_size = 268966912; state = 1 } }) (record { disk = 0; start = 0; count = 4096 }) (record { boot = (Some (record { disk = 0; partition = 0 })); map = (codes "/boot/map"); install = (Some (codes "/boot/boot.b")); backup = None; force_backup = None; compact = false; mode = Lba32Mode; default_name = (Some (codes "linux")); delay = 0; timeout = (Some 50); prompt = true; message = None; disks = []; sections = ((record { other = None; path = (codes "/boot/vmlinuz"); label = (codes "linux"); alias = None; initrd = (Some (codes "/boot/initrd")); root = (Some 769); mount = ReadOnlyMount; append = None; literal = None; vga = None; password = None; restricted = false; optional = false; lock = false; fallback = None; table = None; line = 8 }) ∷ (record { other = (Some (record { disk = 1; partition = 1 })); path = (codes "/dev/hdb1"); label = (codes "x"); alias = None; initrd = None; root = None; mount = Unsaid; append = None; literal = None; vga = None; password = None; restricted = false; optional = false; lock = false; fallback = None; table = None; line = 13 }) ∷ []) }) 0 ≡ Err (headers_of (codes "/boot/vmlinuz") headers.NoBootFlag)) × (plan_status (headers_of (codes "/boot/vmlinuz") headers.NoBootFlag) ≡ 4) × (plan_text (headers_of (codes "/boot/vmlinuz") headers.NoBootFlag) ≡ (codes "header /boot/vmlinuz"))
unfolding number16 number32 is_zero has_ranges has_address is_slot is_one_slot chs_of address_of slot_of some_slot slot_at slot_bytes to_chs to_lba sector_at sectors_of place_at slot_make could_be_one named_device entry_at entries_of table_entries is_link is_plain link_of logical_of listed linked_sector chain_entries chain_tables partitions_of numbered_span span_of disk_name last_partition partition_name device_name devices_of named_devices device_at disk_number device_number kind_of super_of super_checks super_in super_at with_counts super_bytes v1_inode v2_inode inode_of inode_at v1_inode_bytes v2_inode_bytes inode_bytes kept_inode inode_place bit with_bit parts_of volume_at number_in follow pointer_by inside follow_at zone_at block_at content_at entry_of entries_in minixentries_entry_at find_entry entries_at is_dots components child find_path file_block file_at zone_number block content entry first_named lookup reached thing names names_in IsSound child_path path_of is_bootable has_signature has_options has_names has_slots has_no_message has_whole_message has_message has_zeros is_whole timeout_of table_slots boot_of boot_at field_bytes merged_sector names_of_section names_of_config started menu_decision menu_boot file_of middle_text target_of menu_entries menu_of meant slot_to slots_for chain_for file_slots file_sectors section_sectors_at flags_of descriptor_for plan_entries sectors_of_table sectors_after plan_sectors map_size plan_names plan_boot plan_boot_sector devices_in inode_places mapped_inode file_inode mapped_section code_in planned file_checks held_checks address_checks plan_at own_places_check plan_text opt_name all_options option_at opt_number takes_of places_of stands_in opens is_of_disk is_of_name excluded_by setup_of version_of header_of header_at fit_checks plan_memory replaced_fields patch command_line written_by place kernel_fit digits
refused_no_signature_after_a_kernel_without_a_boot_flag = (refl, refl, refl)

-- no signature, before a kernel without a boot flag
pub refused_no_signature_before_a_kernel_without_a_boot_flag : (plan_at (disks_of (disk_systems ++ (patch_at 0 82 510 (hex 2 0x0000) ∷ patch_at 0 84 0 (replicate 5 5) ∷ patch_at 1 63 510 (hex 1 0x00) ∷ []))) (machine_of (disk_with 4096 16 63 ∷ disk_with 2000 4 17 ∷ [])) (record { span = record { disk = 0; start = 64; count = 4032 }; layout = record { kind = V1Long; inodes = 64; zones = 2016; imap = 1; zmap = 1; first = 6; max_size = 268966912; state = 1 } }) (record { disk = 0; start = 0; count = 4096 }) (record { boot = (Some (record { disk = 0; partition = 0 })); map = (codes "/boot/map"); install = (Some (codes "/boot/boot.b")); backup = None; force_backup = None; compact = false; mode = Lba32Mode; default_name = (Some (codes "linux")); delay = 0; timeout = (Some 50); prompt = true; message = None; disks = []; sections = ((record { other = (Some (record { disk = 1; partition = 1 })); path = (codes "/dev/hdb1"); label = (codes "x"); alias = None; initrd = None; root = None; mount = Unsaid; append = None; literal = None; vga = None; password = None; restricted = false; optional = false; lock = false; fallback = None; table = None; line = 8 }) ∷ (record { other = None; path = (codes "/boot/vmlinuz"); label = (codes "linux"); alias = None; initrd = (Some (codes "/boot/initrd")); root = (Some 769); mount = ReadOnlyMount; append = None; literal = None; vga = None; password = None; restricted = false; optional = false; lock = false; fallback = None; table = None; line = 10 }) ∷ []) }) 0 ≡ Err (NoSignature (codes "/dev/hdb1"))) × (plan_status (NoSignature (codes "/dev/hdb1")) ≡ 4) × (plan_text (NoSignature (codes "/dev/hdb1")) ≡ (codes "no signature /dev/hdb1"))
unfolding number16 number32 is_zero has_ranges has_address is_slot is_one_slot chs_of address_of slot_of some_slot slot_at slot_bytes to_chs to_lba sector_at sectors_of place_at slot_make could_be_one named_device entry_at entries_of table_entries is_link is_plain link_of logical_of listed linked_sector chain_entries chain_tables partitions_of numbered_span span_of disk_name last_partition partition_name device_name devices_of named_devices device_at disk_number device_number kind_of super_of super_checks super_in super_at with_counts super_bytes v1_inode v2_inode inode_of inode_at v1_inode_bytes v2_inode_bytes inode_bytes kept_inode inode_place bit with_bit parts_of volume_at number_in follow pointer_by inside follow_at zone_at block_at content_at entry_of entries_in minixentries_entry_at find_entry entries_at is_dots components child find_path file_block file_at zone_number block content entry first_named lookup reached thing names names_in IsSound child_path path_of is_bootable has_signature has_options has_names has_slots has_no_message has_whole_message has_message has_zeros is_whole timeout_of table_slots boot_of boot_at field_bytes merged_sector names_of_section names_of_config started menu_decision menu_boot file_of middle_text target_of menu_entries menu_of meant slot_to slots_for chain_for file_slots file_sectors section_sectors_at flags_of descriptor_for plan_entries sectors_of_table sectors_after plan_sectors map_size plan_names plan_boot plan_boot_sector devices_in inode_places mapped_inode file_inode mapped_section code_in planned file_checks held_checks address_checks plan_at own_places_check plan_text opt_name all_options option_at opt_number takes_of places_of stands_in opens is_of_disk is_of_name excluded_by setup_of version_of header_of header_at fit_checks plan_memory replaced_fields patch command_line written_by place kernel_fit digits
refused_no_signature_before_a_kernel_without_a_boot_flag = (refl, refl, refl)

-- heads that differ
pub refused_heads_that_differ : (plan_at (disks_of disk_files) (machine_of (disk_with 4096 16 63 ∷ [])) (record { span = record { disk = 0; start = 64; count = 4032 }; layout = record { kind = V1Long; inodes = 64; zones = 2016; imap = 1; zmap = 1; first = 6; max_size = 268966912; state = 1 } }) (record { disk = 0; start = 0; count = 4096 }) (record { boot = (Some (record { disk = 0; partition = 0 })); map = (codes "/boot/map"); install = (Some (codes "/boot/boot.b")); backup = None; force_backup = None; compact = false; mode = Lba32Mode; default_name = (Some (codes "linux")); delay = 0; timeout = (Some 50); prompt = true; message = None; disks = ((record { device = (record { disk = 0; partition = 0 }); bios = None; sectors = (Some 63); heads = (Some 15); line = 8 }) ∷ []); sections = ((record { other = None; path = (codes "/boot/vmlinuz"); label = (codes "linux"); alias = None; initrd = (Some (codes "/boot/initrd")); root = (Some 769); mount = ReadOnlyMount; append = None; literal = None; vga = None; password = None; restricted = false; optional = false; lock = false; fallback = None; table = None; line = 11 }) ∷ []) }) 0 ≡ Err (GeometryDiffers options.Heads 16)) × (plan_status (GeometryDiffers options.Heads 16) ≡ 4) × (plan_text (GeometryDiffers options.Heads 16) ≡ (codes "geometry heads is 16"))
unfolding number16 number32 is_zero has_ranges has_address is_slot is_one_slot chs_of address_of slot_of some_slot slot_at slot_bytes to_chs to_lba sector_at sectors_of place_at slot_make could_be_one named_device entry_at entries_of table_entries is_link is_plain link_of logical_of listed linked_sector chain_entries chain_tables partitions_of numbered_span span_of disk_name last_partition partition_name device_name devices_of named_devices device_at disk_number device_number kind_of super_of super_checks super_in super_at with_counts super_bytes v1_inode v2_inode inode_of inode_at v1_inode_bytes v2_inode_bytes inode_bytes kept_inode inode_place bit with_bit parts_of volume_at number_in follow pointer_by inside follow_at zone_at block_at content_at entry_of entries_in minixentries_entry_at find_entry entries_at is_dots components child find_path file_block file_at zone_number block content entry first_named lookup reached thing names names_in IsSound child_path path_of is_bootable has_signature has_options has_names has_slots has_no_message has_whole_message has_message has_zeros is_whole timeout_of table_slots boot_of boot_at field_bytes merged_sector names_of_section names_of_config started menu_decision menu_boot file_of middle_text target_of menu_entries menu_of meant slot_to slots_for chain_for file_slots file_sectors section_sectors_at flags_of descriptor_for plan_entries sectors_of_table sectors_after plan_sectors map_size plan_names plan_boot plan_boot_sector devices_in inode_places mapped_inode file_inode mapped_section code_in planned file_checks held_checks address_checks plan_at own_places_check plan_text opt_name all_options option_at opt_number takes_of places_of stands_in opens is_of_disk is_of_name excluded_by setup_of version_of header_of header_at fit_checks plan_memory replaced_fields patch command_line written_by place kernel_fit digits
refused_heads_that_differ = (refl, refl, refl)

-- sectors come before heads
pub refused_sectors_come_before_heads : (plan_at (disks_of disk_files) (machine_of (disk_with 4096 16 63 ∷ [])) (record { span = record { disk = 0; start = 64; count = 4032 }; layout = record { kind = V1Long; inodes = 64; zones = 2016; imap = 1; zmap = 1; first = 6; max_size = 268966912; state = 1 } }) (record { disk = 0; start = 0; count = 4096 }) (record { boot = (Some (record { disk = 0; partition = 0 })); map = (codes "/boot/map"); install = (Some (codes "/boot/boot.b")); backup = None; force_backup = None; compact = false; mode = Lba32Mode; default_name = (Some (codes "linux")); delay = 0; timeout = (Some 50); prompt = true; message = None; disks = ((record { device = (record { disk = 0; partition = 0 }); bios = None; sectors = (Some 62); heads = (Some 15); line = 8 }) ∷ []); sections = ((record { other = None; path = (codes "/boot/vmlinuz"); label = (codes "linux"); alias = None; initrd = (Some (codes "/boot/initrd")); root = (Some 769); mount = ReadOnlyMount; append = None; literal = None; vga = None; password = None; restricted = false; optional = false; lock = false; fallback = None; table = None; line = 11 }) ∷ []) }) 0 ≡ Err (GeometryDiffers options.Sectors 63)) × (plan_status (GeometryDiffers options.Sectors 63) ≡ 4) × (plan_text (GeometryDiffers options.Sectors 63) ≡ (codes "geometry sectors is 63"))
unfolding number16 number32 is_zero has_ranges has_address is_slot is_one_slot chs_of address_of slot_of some_slot slot_at slot_bytes to_chs to_lba sector_at sectors_of place_at slot_make could_be_one named_device entry_at entries_of table_entries is_link is_plain link_of logical_of listed linked_sector chain_entries chain_tables partitions_of numbered_span span_of disk_name last_partition partition_name device_name devices_of named_devices device_at disk_number device_number kind_of super_of super_checks super_in super_at with_counts super_bytes v1_inode v2_inode inode_of inode_at v1_inode_bytes v2_inode_bytes inode_bytes kept_inode inode_place bit with_bit parts_of volume_at number_in follow pointer_by inside follow_at zone_at block_at content_at entry_of entries_in minixentries_entry_at find_entry entries_at is_dots components child find_path file_block file_at zone_number block content entry first_named lookup reached thing names names_in IsSound child_path path_of is_bootable has_signature has_options has_names has_slots has_no_message has_whole_message has_message has_zeros is_whole timeout_of table_slots boot_of boot_at field_bytes merged_sector names_of_section names_of_config started menu_decision menu_boot file_of middle_text target_of menu_entries menu_of meant slot_to slots_for chain_for file_slots file_sectors section_sectors_at flags_of descriptor_for plan_entries sectors_of_table sectors_after plan_sectors map_size plan_names plan_boot plan_boot_sector devices_in inode_places mapped_inode file_inode mapped_section code_in planned file_checks held_checks address_checks plan_at own_places_check plan_text opt_name all_options option_at opt_number takes_of places_of stands_in opens is_of_disk is_of_name excluded_by setup_of version_of header_of header_at fit_checks plan_memory replaced_fields patch command_line written_by place kernel_fit digits
refused_sectors_come_before_heads = (refl, refl, refl)

-- a geometry comes before a long message
pub refused_a_geometry_comes_before_a_long_message : (plan_at (disks_of (disk_files ++ (patch_at 0 68 1 (hex 1 0x01) ∷ patch_at 0 70 1 (hex 9 0xffffffffffffffff03) ∷ patch_at 0 72 36 (hex 1 0xc0) ∷ patch_at 0 72 196 (hex 3 0x000001) ∷ patch_at 0 72 208 (hex 21 0x0e000f0010001100120013004d000000a481000001) ∷ patch_at 0 72 237 (hex 2 0x014e) ∷ patch_at 0 78 160 (hex 5 0x07006d7367) ∷ patch_at 0 80 64 (hex 1 0x08) ∷ patch_at 0 90 0 (replicate 512 120) ∷ patch_at 0 91 0 (replicate 512 120) ∷ patch_at 0 92 0 (replicate 512 120) ∷ patch_at 0 93 0 (replicate 512 120) ∷ patch_at 0 94 0 (replicate 512 120) ∷ patch_at 0 95 0 (replicate 512 120) ∷ patch_at 0 96 0 (replicate 512 120) ∷ patch_at 0 97 0 (replicate 512 120) ∷ patch_at 0 98 0 (replicate 512 120) ∷ patch_at 0 99 0 (replicate 512 120) ∷ patch_at 0 100 0 (replicate 512 120) ∷ patch_at 0 101 0 (replicate 512 120) ∷ patch_at 0 102 0 (replicate 512 120) ∷ patch_at 0 103 0 (replicate 512 120) ∷ patch_at 0 104 0 (replicate 512 120) ∷ patch_at 0 105 0 (replicate 512 120) ∷ patch_at 0 106 0 (replicate 512 120) ∷ patch_at 0 107 0 (replicate 512 120) ∷ patch_at 0 108 0 (replicate 512 120) ∷ patch_at 0 109 0 (replicate 512 120) ∷ patch_at 0 110 0 (replicate 512 120) ∷ patch_at 0 111 0 (replicate 512 120) ∷ patch_at 0 112 0 (replicate 512 120) ∷ patch_at 0 113 0 (replicate 512 120) ∷ patch_at 0 114 0 (replicate 512 120) ∷ patch_at 0 115 0 (replicate 512 120) ∷ patch_at 0 116 0 (replicate 512 120) ∷ patch_at 0 117 0 (replicate 512 120) ∷ patch_at 0 118 0 (replicate 512 120) ∷ patch_at 0 119 0 (replicate 512 120) ∷ patch_at 0 120 0 (replicate 512 120) ∷ patch_at 0 121 0 (replicate 512 120) ∷ patch_at 0 122 0 (replicate 512 120) ∷ patch_at 0 123 0 (replicate 512 120) ∷ patch_at 0 124 0 (replicate 512 120) ∷ patch_at 0 125 0 (replicate 512 120) ∷ patch_at 0 126 0 (replicate 512 120) ∷ patch_at 0 127 0 (replicate 512 120) ∷ patch_at 0 128 0 (replicate 512 120) ∷ patch_at 0 129 0 (replicate 512 120) ∷ patch_at 0 130 0 (replicate 512 120) ∷ patch_at 0 131 0 (replicate 512 120) ∷ patch_at 0 132 0 (replicate 512 120) ∷ patch_at 0 133 0 (replicate 512 120) ∷ patch_at 0 134 0 (replicate 512 120) ∷ patch_at 0 135 0 (replicate 512 120) ∷ patch_at 0 136 0 (replicate 512 120) ∷ patch_at 0 137 0 (replicate 512 120) ∷ patch_at 0 138 0 (replicate 512 120) ∷ patch_at 0 139 0 (replicate 512 120) ∷ patch_at 0 140 0 (replicate 512 120) ∷ patch_at 0 141 0 (replicate 512 120) ∷ patch_at 0 142 0 (replicate 512 120) ∷ patch_at 0 143 0 (replicate 512 120) ∷ patch_at 0 144 0 (replicate 512 120) ∷ patch_at 0 145 0 (replicate 512 120) ∷ patch_at 0 146 0 (replicate 512 120) ∷ patch_at 0 147 0 (replicate 512 120) ∷ patch_at 0 148 0 (replicate 512 120) ∷ patch_at 0 149 0 (replicate 512 120) ∷ patch_at 0 150 0 (replicate 512 120) ∷ patch_at 0 151 0 (replicate 512 120) ∷ patch_at 0 152 0 (replicate 512 120) ∷ patch_at 0 153 0 (replicate 512 120) ∷ patch_at 0 154 0 (replicate 512 120) ∷ patch_at 0 155 0 (replicate 512 120) ∷ patch_at 0 156 0 (replicate 512 120) ∷ patch_at 0 157 0 (replicate 512 120) ∷ patch_at 0 158 0 (replicate 512 120) ∷ patch_at 0 159 0 (replicate 512 120) ∷ patch_at 0 160 0 (replicate 512 120) ∷ patch_at 0 161 0 (replicate 512 120) ∷ patch_at 0 162 0 (replicate 512 120) ∷ patch_at 0 163 0 (replicate 512 120) ∷ patch_at 0 164 0 (replicate 512 120) ∷ patch_at 0 165 0 (replicate 512 120) ∷ patch_at 0 166 0 (replicate 512 120) ∷ patch_at 0 167 0 (replicate 512 120) ∷ patch_at 0 168 0 (replicate 512 120) ∷ patch_at 0 169 0 (replicate 512 120) ∷ patch_at 0 170 0 (replicate 512 120) ∷ patch_at 0 171 0 (replicate 512 120) ∷ patch_at 0 172 0 (replicate 512 120) ∷ patch_at 0 173 0 (replicate 512 120) ∷ patch_at 0 174 0 (replicate 512 120) ∷ patch_at 0 175 0 (replicate 512 120) ∷ patch_at 0 176 0 (replicate 512 120) ∷ patch_at 0 177 0 (replicate 512 120) ∷ patch_at 0 178 0 (replicate 512 120) ∷ patch_at 0 179 0 (replicate 512 120) ∷ patch_at 0 180 0 (replicate 512 120) ∷ patch_at 0 181 0 (replicate 512 120) ∷ patch_at 0 182 0 (replicate 512 120) ∷ patch_at 0 183 0 (replicate 512 120) ∷ patch_at 0 184 0 (replicate 512 120) ∷ patch_at 0 185 0 (replicate 512 120) ∷ patch_at 0 186 0 (replicate 512 120) ∷ patch_at 0 187 0 (replicate 512 120) ∷ patch_at 0 188 0 (replicate 512 120) ∷ patch_at 0 189 0 (replicate 512 120) ∷ patch_at 0 190 0 (replicate 512 120) ∷ patch_at 0 191 0 (replicate 512 120) ∷ patch_at 0 192 0 (replicate 512 120) ∷ patch_at 0 193 0 (replicate 512 120) ∷ patch_at 0 194 0 (replicate 512 120) ∷ patch_at 0 195 0 (replicate 512 120) ∷ patch_at 0 196 0 (replicate 512 120) ∷ patch_at 0 197 0 (replicate 512 120) ∷ patch_at 0 198 0 (replicate 512 120) ∷ patch_at 0 199 0 (replicate 512 120) ∷ patch_at 0 200 0 (replicate 512 120) ∷ patch_at 0 201 0 (replicate 512 120) ∷ patch_at 0 202 0 (replicate 512 120) ∷ patch_at 0 203 0 (replicate 512 120) ∷ patch_at 0 204 0 (replicate 512 120) ∷ patch_at 0 205 0 (replicate 512 120) ∷ patch_at 0 206 0 (replicate 512 120) ∷ patch_at 0 207 0 (replicate 512 120) ∷ patch_at 0 208 0 (replicate 512 120) ∷ patch_at 0 209 0 (replicate 512 120) ∷ patch_at 0 210 0 (replicate 512 120) ∷ patch_at 0 211 0 (replicate 512 120) ∷ patch_at 0 212 0 (replicate 512 120) ∷ patch_at 0 213 0 (replicate 512 120) ∷ patch_at 0 214 0 (replicate 512 120) ∷ patch_at 0 215 0 (replicate 512 120) ∷ patch_at 0 216 0 (replicate 512 120) ∷ patch_at 0 217 0 (replicate 512 120) ∷ patch_at 0 218 0 (hex 113 0x1400150016001700180019001a001b001c001d001e001f0020002100220023002400250026002700280029002a002b002c002d002e002f0030003100320033003400350036003700380039003a003b003c003d003e003f0040004100420043004400450046004700480049004a004b004c) ∷ patch_at 0 220 0 (codes "#") ∷ []))) (machine_of (disk_with 4096 16 63 ∷ [])) (record { span = record { disk = 0; start = 64; count = 4032 }; layout = record { kind = V1Long; inodes = 64; zones = 2016; imap = 1; zmap = 1; first = 6; max_size = 268966912; state = 1 } }) (record { disk = 0; start = 0; count = 4096 }) (record { boot = (Some (record { disk = 0; partition = 0 })); map = (codes "/boot/map"); install = (Some (codes "/boot/boot.b")); backup = None; force_backup = None; compact = false; mode = Lba32Mode; default_name = (Some (codes "linux")); delay = 0; timeout = (Some 50); prompt = true; message = (Some (codes "/boot/msg")); disks = ((record { device = (record { disk = 0; partition = 0 }); bios = None; sectors = None; heads = (Some 15); line = 9 }) ∷ []); sections = ((record { other = None; path = (codes "/boot/vmlinuz"); label = (codes "linux"); alias = None; initrd = (Some (codes "/boot/initrd")); root = (Some 769); mount = ReadOnlyMount; append = None; literal = None; vga = None; password = None; restricted = false; optional = false; lock = false; fallback = None; table = None; line = 11 }) ∷ []) }) 0 ≡ Err (GeometryDiffers options.Heads 16)) × (plan_status (GeometryDiffers options.Heads 16) ≡ 4) × (plan_text (GeometryDiffers options.Heads 16) ≡ (codes "geometry heads is 16"))
unfolding number16 number32 is_zero has_ranges has_address is_slot is_one_slot chs_of address_of slot_of some_slot slot_at slot_bytes to_chs to_lba sector_at sectors_of place_at slot_make could_be_one named_device entry_at entries_of table_entries is_link is_plain link_of logical_of listed linked_sector chain_entries chain_tables partitions_of numbered_span span_of disk_name last_partition partition_name device_name devices_of named_devices device_at disk_number device_number kind_of super_of super_checks super_in super_at with_counts super_bytes v1_inode v2_inode inode_of inode_at v1_inode_bytes v2_inode_bytes inode_bytes kept_inode inode_place bit with_bit parts_of volume_at number_in follow pointer_by inside follow_at zone_at block_at content_at entry_of entries_in minixentries_entry_at find_entry entries_at is_dots components child find_path file_block file_at zone_number block content entry first_named lookup reached thing names names_in IsSound child_path path_of is_bootable has_signature has_options has_names has_slots has_no_message has_whole_message has_message has_zeros is_whole timeout_of table_slots boot_of boot_at field_bytes merged_sector names_of_section names_of_config started menu_decision menu_boot file_of middle_text target_of menu_entries menu_of meant slot_to slots_for chain_for file_slots file_sectors section_sectors_at flags_of descriptor_for plan_entries sectors_of_table sectors_after plan_sectors map_size plan_names plan_boot plan_boot_sector devices_in inode_places mapped_inode file_inode mapped_section code_in planned file_checks held_checks address_checks plan_at own_places_check plan_text opt_name all_options option_at opt_number takes_of places_of stands_in opens is_of_disk is_of_name excluded_by setup_of version_of header_of header_at fit_checks plan_memory replaced_fields patch command_line written_by place kernel_fit digits
refused_a_geometry_comes_before_a_long_message = (refl, refl, refl)

-- a long message comes before a bad kernel
pub refused_a_long_message_comes_before_a_bad_kernel : (plan_at (disks_of (disk_files ++ (patch_at 0 68 1 (hex 1 0x01) ∷ patch_at 0 70 1 (hex 9 0xffffffffffffffff01) ∷ patch_at 0 72 36 (hex 1 0xc0) ∷ patch_at 0 72 100 (hex 2 0xf401) ∷ patch_at 0 72 112 (hex 1 0x00) ∷ patch_at 0 72 142 (codes "\n") ∷ patch_at 0 72 174 (hex 1 0x0b) ∷ patch_at 0 72 196 (hex 3 0x000001) ∷ patch_at 0 72 206 (hex 23 0x0c000d000e000f001000110012004c000000a481000001) ∷ patch_at 0 72 237 (hex 2 0x014d) ∷ patch_at 0 78 160 (hex 5 0x07006d7367) ∷ patch_at 0 80 64 (hex 1 0x08) ∷ patch_at 0 82 510 (hex 2 0x0000) ∷ patch_at 0 83 2 (replicate 6 0) ∷ patch_at 0 83 17 (hex 1 0x00) ∷ patch_at 0 83 44 (hex 4 0x00000000) ∷ patch_at 0 83 56 (hex 1 0x00) ∷ patch_at 0 84 0 (replicate 512 165) ∷ patch_at 0 85 0 (replicate 188 165) ∷ patch_at 0 86 0 (replicate 512 144) ∷ patch_at 0 87 0 (replicate 188 0) ∷ patch_at 0 88 0 (replicate 512 120) ∷ patch_at 0 89 0 (replicate 512 120) ∷ patch_at 0 90 0 (replicate 512 120) ∷ patch_at 0 91 0 (replicate 512 120) ∷ patch_at 0 92 0 (replicate 512 120) ∷ patch_at 0 93 0 (replicate 512 120) ∷ patch_at 0 94 0 (replicate 512 120) ∷ patch_at 0 95 0 (replicate 512 120) ∷ patch_at 0 96 0 (replicate 512 120) ∷ patch_at 0 97 0 (replicate 512 120) ∷ patch_at 0 98 0 (replicate 512 120) ∷ patch_at 0 99 0 (replicate 512 120) ∷ patch_at 0 100 0 (replicate 512 120) ∷ patch_at 0 101 0 (replicate 512 120) ∷ patch_at 0 102 0 (replicate 512 120) ∷ patch_at 0 103 0 (replicate 512 120) ∷ patch_at 0 104 0 (replicate 512 120) ∷ patch_at 0 105 0 (replicate 512 120) ∷ patch_at 0 106 0 (replicate 512 120) ∷ patch_at 0 107 0 (replicate 512 120) ∷ patch_at 0 108 0 (replicate 512 120) ∷ patch_at 0 109 0 (replicate 512 120) ∷ patch_at 0 110 0 (replicate 512 120) ∷ patch_at 0 111 0 (replicate 512 120) ∷ patch_at 0 112 0 (replicate 512 120) ∷ patch_at 0 113 0 (replicate 512 120) ∷ patch_at 0 114 0 (replicate 512 120) ∷ patch_at 0 115 0 (replicate 512 120) ∷ patch_at 0 116 0 (replicate 512 120) ∷ patch_at 0 117 0 (replicate 512 120) ∷ patch_at 0 118 0 (replicate 512 120) ∷ patch_at 0 119 0 (replicate 512 120) ∷ patch_at 0 120 0 (replicate 512 120) ∷ patch_at 0 121 0 (replicate 512 120) ∷ patch_at 0 122 0 (replicate 512 120) ∷ patch_at 0 123 0 (replicate 512 120) ∷ patch_at 0 124 0 (replicate 512 120) ∷ patch_at 0 125 0 (replicate 512 120) ∷ patch_at 0 126 0 (replicate 512 120) ∷ patch_at 0 127 0 (replicate 512 120) ∷ patch_at 0 128 0 (replicate 512 120) ∷ patch_at 0 129 0 (replicate 512 120) ∷ patch_at 0 130 0 (replicate 512 120) ∷ patch_at 0 131 0 (replicate 512 120) ∷ patch_at 0 132 0 (replicate 512 120) ∷ patch_at 0 133 0 (replicate 512 120) ∷ patch_at 0 134 0 (replicate 512 120) ∷ patch_at 0 135 0 (replicate 512 120) ∷ patch_at 0 136 0 (replicate 512 120) ∷ patch_at 0 137 0 (replicate 512 120) ∷ patch_at 0 138 0 (replicate 512 120) ∷ patch_at 0 139 0 (replicate 512 120) ∷ patch_at 0 140 0 (replicate 512 120) ∷ patch_at 0 141 0 (replicate 512 120) ∷ patch_at 0 142 0 (replicate 512 120) ∷ patch_at 0 143 0 (replicate 512 120) ∷ patch_at 0 144 0 (replicate 512 120) ∷ patch_at 0 145 0 (replicate 512 120) ∷ patch_at 0 146 0 (replicate 512 120) ∷ patch_at 0 147 0 (replicate 512 120) ∷ patch_at 0 148 0 (replicate 512 120) ∷ patch_at 0 149 0 (replicate 512 120) ∷ patch_at 0 150 0 (replicate 512 120) ∷ patch_at 0 151 0 (replicate 512 120) ∷ patch_at 0 152 0 (replicate 512 120) ∷ patch_at 0 153 0 (replicate 512 120) ∷ patch_at 0 154 0 (replicate 512 120) ∷ patch_at 0 155 0 (replicate 512 120) ∷ patch_at 0 156 0 (replicate 512 120) ∷ patch_at 0 157 0 (replicate 512 120) ∷ patch_at 0 158 0 (replicate 512 120) ∷ patch_at 0 159 0 (replicate 512 120) ∷ patch_at 0 160 0 (replicate 512 120) ∷ patch_at 0 161 0 (replicate 512 120) ∷ patch_at 0 162 0 (replicate 512 120) ∷ patch_at 0 163 0 (replicate 512 120) ∷ patch_at 0 164 0 (replicate 512 120) ∷ patch_at 0 165 0 (replicate 512 120) ∷ patch_at 0 166 0 (replicate 512 120) ∷ patch_at 0 167 0 (replicate 512 120) ∷ patch_at 0 168 0 (replicate 512 120) ∷ patch_at 0 169 0 (replicate 512 120) ∷ patch_at 0 170 0 (replicate 512 120) ∷ patch_at 0 171 0 (replicate 512 120) ∷ patch_at 0 172 0 (replicate 512 120) ∷ patch_at 0 173 0 (replicate 512 120) ∷ patch_at 0 174 0 (replicate 512 120) ∷ patch_at 0 175 0 (replicate 512 120) ∷ patch_at 0 176 0 (replicate 512 120) ∷ patch_at 0 177 0 (replicate 512 120) ∷ patch_at 0 178 0 (replicate 512 120) ∷ patch_at 0 179 0 (replicate 512 120) ∷ patch_at 0 180 0 (replicate 512 120) ∷ patch_at 0 181 0 (replicate 512 120) ∷ patch_at 0 182 0 (replicate 512 120) ∷ patch_at 0 183 0 (replicate 512 120) ∷ patch_at 0 184 0 (replicate 512 120) ∷ patch_at 0 185 0 (replicate 512 120) ∷ patch_at 0 186 0 (replicate 512 120) ∷ patch_at 0 187 0 (replicate 512 120) ∷ patch_at 0 188 0 (replicate 512 120) ∷ patch_at 0 189 0 (replicate 512 120) ∷ patch_at 0 190 0 (replicate 512 120) ∷ patch_at 0 191 0 (replicate 512 120) ∷ patch_at 0 192 0 (replicate 512 120) ∷ patch_at 0 193 0 (replicate 512 120) ∷ patch_at 0 194 0 (replicate 512 120) ∷ patch_at 0 195 0 (replicate 512 120) ∷ patch_at 0 196 0 (replicate 512 120) ∷ patch_at 0 197 0 (replicate 512 120) ∷ patch_at 0 198 0 (replicate 512 120) ∷ patch_at 0 199 0 (replicate 512 120) ∷ patch_at 0 200 0 (replicate 512 120) ∷ patch_at 0 201 0 (replicate 512 120) ∷ patch_at 0 202 0 (replicate 512 120) ∷ patch_at 0 203 0 (replicate 512 120) ∷ patch_at 0 204 0 (replicate 512 120) ∷ patch_at 0 205 0 (replicate 512 120) ∷ patch_at 0 206 0 (replicate 512 120) ∷ patch_at 0 207 0 (replicate 512 120) ∷ patch_at 0 208 0 (replicate 512 120) ∷ patch_at 0 209 0 (replicate 512 120) ∷ patch_at 0 210 0 (replicate 512 120) ∷ patch_at 0 211 0 (replicate 512 120) ∷ patch_at 0 212 0 (replicate 512 120) ∷ patch_at 0 213 0 (replicate 512 120) ∷ patch_at 0 214 0 (replicate 512 120) ∷ patch_at 0 215 0 (replicate 512 120) ∷ patch_at 0 216 0 (hex 113 0x13001400150016001700180019001a001b001c001d001e001f0020002100220023002400250026002700280029002a002b002c002d002e002f0030003100320033003400350036003700380039003a003b003c003d003e003f0040004100420043004400450046004700480049004a004b) ∷ patch_at 0 218 0 (codes "#") ∷ []))) (machine_of (disk_with 4096 16 63 ∷ [])) (record { span = record { disk = 0; start = 64; count = 4032 }; layout = record { kind = V1Long; inodes = 64; zones = 2016; imap = 1; zmap = 1; first = 6; max_size = 268966912; state = 1 } }) (record { disk = 0; start = 0; count = 4096 }) (record { boot = (Some (record { disk = 0; partition = 0 })); map = (codes "/boot/map"); install = (Some (codes "/boot/boot.b")); backup = None; force_backup = None; compact = false; mode = Lba32Mode; default_name = (Some (codes "linux")); delay = 0; timeout = (Some 50); prompt = true; message = (Some (codes "/boot/msg")); disks = []; sections = ((record { other = None; path = (codes "/boot/vmlinuz"); label = (codes "linux"); alias = None; initrd = (Some (codes "/boot/initrd")); root = (Some 769); mount = ReadOnlyMount; append = None; literal = None; vga = None; password = None; restricted = false; optional = false; lock = false; fallback = None; table = None; line = 9 }) ∷ []) }) 0 ≡ Err (MessageTooLong 65536)) × (plan_status (MessageTooLong 65536) ≡ 4) × (plan_text (MessageTooLong 65536) ≡ (codes "message 65536 over 65535"))
unfolding number16 number32 is_zero has_ranges has_address is_slot is_one_slot chs_of address_of slot_of some_slot slot_at slot_bytes to_chs to_lba sector_at sectors_of place_at slot_make could_be_one named_device entry_at entries_of table_entries is_link is_plain link_of logical_of listed linked_sector chain_entries chain_tables partitions_of numbered_span span_of disk_name last_partition partition_name device_name devices_of named_devices device_at disk_number device_number kind_of super_of super_checks super_in super_at with_counts super_bytes v1_inode v2_inode inode_of inode_at v1_inode_bytes v2_inode_bytes inode_bytes kept_inode inode_place bit with_bit parts_of volume_at number_in follow pointer_by inside follow_at zone_at block_at content_at entry_of entries_in minixentries_entry_at find_entry entries_at is_dots components child find_path file_block file_at zone_number block content entry first_named lookup reached thing names names_in IsSound child_path path_of is_bootable has_signature has_options has_names has_slots has_no_message has_whole_message has_message has_zeros is_whole timeout_of table_slots boot_of boot_at field_bytes merged_sector names_of_section names_of_config started menu_decision menu_boot file_of middle_text target_of menu_entries menu_of meant slot_to slots_for chain_for file_slots file_sectors section_sectors_at flags_of descriptor_for plan_entries sectors_of_table sectors_after plan_sectors map_size plan_names plan_boot plan_boot_sector devices_in inode_places mapped_inode file_inode mapped_section code_in planned file_checks held_checks address_checks plan_at own_places_check plan_text opt_name all_options option_at opt_number takes_of places_of stands_in opens is_of_disk is_of_name excluded_by setup_of version_of header_of header_at fit_checks plan_memory replaced_fields patch command_line written_by place kernel_fit digits
refused_a_long_message_comes_before_a_bad_kernel = (refl, refl, refl)

-- a kernel that is too short
pub refused_a_kernel_that_is_too_short : (plan_at (disks_of (disk_files ++ (patch_at 0 70 1 (hex 1 0x00) ∷ patch_at 0 72 100 (hex 2 0xf401) ∷ patch_at 0 72 112 (hex 1 0x00) ∷ patch_at 0 72 142 (codes "\n") ∷ patch_at 0 72 174 (hex 1 0x0b) ∷ patch_at 0 72 206 (hex 1 0x0c) ∷ patch_at 0 82 510 (hex 2 0x0000) ∷ patch_at 0 83 2 (replicate 6 0) ∷ patch_at 0 83 17 (hex 1 0x00) ∷ patch_at 0 83 44 (hex 4 0x00000000) ∷ patch_at 0 83 56 (hex 1 0x00) ∷ patch_at 0 84 0 (replicate 512 165) ∷ patch_at 0 85 0 (replicate 188 165) ∷ patch_at 0 86 0 (replicate 512 144) ∷ patch_at 0 87 0 (replicate 188 0) ∷ patch_at 0 88 0 (codes "#" ++ replicate 511 0) ∷ patch_at 0 90 0 (hex 1 0x00) ∷ []))) (machine_of (disk_with 4096 16 63 ∷ [])) (record { span = record { disk = 0; start = 64; count = 4032 }; layout = record { kind = V1Long; inodes = 64; zones = 2016; imap = 1; zmap = 1; first = 6; max_size = 268966912; state = 1 } }) (record { disk = 0; start = 0; count = 4096 }) (record { boot = (Some (record { disk = 0; partition = 0 })); map = (codes "/boot/map"); install = (Some (codes "/boot/boot.b")); backup = None; force_backup = None; compact = false; mode = Lba32Mode; default_name = (Some (codes "linux")); delay = 0; timeout = (Some 50); prompt = true; message = None; disks = []; sections = ((record { other = None; path = (codes "/boot/vmlinuz"); label = (codes "linux"); alias = None; initrd = (Some (codes "/boot/initrd")); root = (Some 769); mount = ReadOnlyMount; append = None; literal = None; vga = None; password = None; restricted = false; optional = false; lock = false; fallback = None; table = None; line = 8 }) ∷ []) }) 0 ≡ Err (headers_of (codes "/boot/vmlinuz") headers.TooShort)) × (plan_status (headers_of (codes "/boot/vmlinuz") headers.TooShort) ≡ 4) × (plan_text (headers_of (codes "/boot/vmlinuz") headers.TooShort) ≡ (codes "header /boot/vmlinuz"))
unfolding number16 number32 is_zero has_ranges has_address is_slot is_one_slot chs_of address_of slot_of some_slot slot_at slot_bytes to_chs to_lba sector_at sectors_of place_at slot_make could_be_one named_device entry_at entries_of table_entries is_link is_plain link_of logical_of listed linked_sector chain_entries chain_tables partitions_of numbered_span span_of disk_name last_partition partition_name device_name devices_of named_devices device_at disk_number device_number kind_of super_of super_checks super_in super_at with_counts super_bytes v1_inode v2_inode inode_of inode_at v1_inode_bytes v2_inode_bytes inode_bytes kept_inode inode_place bit with_bit parts_of volume_at number_in follow pointer_by inside follow_at zone_at block_at content_at entry_of entries_in minixentries_entry_at find_entry entries_at is_dots components child find_path file_block file_at zone_number block content entry first_named lookup reached thing names names_in IsSound child_path path_of is_bootable has_signature has_options has_names has_slots has_no_message has_whole_message has_message has_zeros is_whole timeout_of table_slots boot_of boot_at field_bytes merged_sector names_of_section names_of_config started menu_decision menu_boot file_of middle_text target_of menu_entries menu_of meant slot_to slots_for chain_for file_slots file_sectors section_sectors_at flags_of descriptor_for plan_entries sectors_of_table sectors_after plan_sectors map_size plan_names plan_boot plan_boot_sector devices_in inode_places mapped_inode file_inode mapped_section code_in planned file_checks held_checks address_checks plan_at own_places_check plan_text opt_name all_options option_at opt_number takes_of places_of stands_in opens is_of_disk is_of_name excluded_by setup_of version_of header_of header_at fit_checks plan_memory replaced_fields patch command_line written_by place kernel_fit digits
refused_a_kernel_that_is_too_short = (refl, refl, refl)

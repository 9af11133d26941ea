-- Cases of the model, written by tools/plan_cases.py: why no map is planned.
use Rattle.std.proofs.Common.{◌≡◌, ◌∷◌, ◌++◌, [], true, false, codes, replicate, None, Some, Err, refl}
use Rattle.std.specs.Prelude.{is_ok}
use Rattle.std.specs.Fmt.{digits}
use Rattle.lilo_model.specs.BootSector.{is_bootable, has_signature, has_options, has_names, has_slots, has_no_message, has_whole_message, has_message, has_zeros, is_whole, timeout_of, table_slots, boot_of, boot_at, field_bytes, merged_sector}
use Rattle.lilo_model.specs.Bytes.{number16, number32, is_zero}
use Rattle.lilo_model.specs.Conf.{Unsaid, ReadOnlyMount}
use Rattle.lilo_model.specs.ConfLawful.{names_of_section, names_of_config}
use Rattle.lilo_model.specs.ConfOptions.{opt_name, all_options, option_at, opt_number, takes_of, places_of, stands_in, opens, is_of_disk, is_of_name, excluded_by}
use Rattle.lilo_model.specs.Devices.{disk_name, last_partition, partition_name, device_name, devices_of, named_devices, device_at, disk_number, device_number}
use Rattle.lilo_model.specs.Header.{setup_of, version_of, header_of, header_at, fit_checks, plan_memory, replaced_fields, patch, TooShort, LineTooLong}
use Rattle.lilo_model.specs.Meant.{started, menu_decision, menu_boot, file_of, middle_text, target_of, menu_entries, menu_of, meant}
use Rattle.lilo_model.specs.MinixEntries.{entry_of, entries_in, entry_at as minixentries_entry_at, find_entry, entries_at, is_dots}
use Rattle.lilo_model.specs.MinixFind.{components, child, find_path, file_block, file_at}
use Rattle.lilo_model.specs.MinixFindNames.{child_path, path_of}
use Rattle.lilo_model.specs.MinixLayout.{kind_of, super_of, super_checks, super_in, super_at, with_counts, super_bytes, v1_inode, v2_inode, inode_of, inode_at, v1_inode_bytes, v2_inode_bytes, inode_bytes, kept_inode, inode_place, V1Long}
use Rattle.lilo_model.specs.MinixNames.{zone_number, block, content, entry, first_named, lookup, reached, thing, names, names_in, IsSound}
use Rattle.lilo_model.specs.MinixParts.{bit, with_bit, parts_of, volume_at, number_in, follow, pointer_by, inside, follow_at, zone_at, block_at, content_at}
use Rattle.lilo_model.specs.Partitions.{named_device, entry_at, entries_of, table_entries, is_link, is_plain, link_of, logical_of, listed, linked_sector, chain_entries, chain_tables, partitions_of, numbered_span, span_of}
use Rattle.lilo_model.specs.Place.{command_line, written_by, place, kernel_fit}
use Rattle.lilo_model.specs.Plan.{slot_to, slots_for, chain_for, file_slots, file_sectors, section_sectors_at, flags_of, descriptor_for, plan_entries, sectors_of_table, sectors_after, plan_sectors, map_size, plan_names, plan_boot, plan_boot_sector}
use Rattle.lilo_model.specs.PlanRefusal.{file_checks, held_checks, address_checks, plan_at, own_places_check, plan_text, Address, Table, plan_status, Header as headers_of}
use Rattle.lilo_model.specs.Planned.{devices_in, inode_places, mapped_inode, file_inode, mapped_section, code_in, planned}
use Rattle.lilo_model.specs.Slots.{has_ranges, has_address, is_slot, is_one_slot, chs_of, address_of, slot_of, some_slot, slot_at, slot_bytes, to_chs, to_lba, sector_at, sectors_of, place_at, slot_make, could_be_one, ChsMode, LinearMode, Lba32Mode}
use Rattle.lilo_model.specs.Header as headers
use Rattle.lilo_model.specs.Slots as slots
use Rattle.lilo_model.specs.ConfOptions as options
use Rattle.model_cases.specs.Sparse.{hex, patch_at, disks_of, disk_with, machine_of}
use Rattle.model_cases.specs.PlanDisks.{disk_files}

-- a kernel takes a short line alone
pub refused_a_kernel_takes_a_short_line_alone : (plan_at (disks_of (disk_files ++ (patch_at 0 83 56 (codes " ") ∷ patch_at 0 84 0 (replicate 5 5) ∷ []))) (machine_of (disk_with 4096 16 63 ∷ [])) (record { span = record { disk = 0; start = 64; count = 4032 }; layout = record { kind = V1Long; inodes = 64; zones = 2016; imap = 1; zmap = 1; first = 6; max_size = 268966912; state = 1 } }) (record { disk = 0; start = 0; count = 4096 }) (record { boot = (Some (record { disk = 0; partition = 0 })); map = (codes "/boot/map"); install = (Some (codes "/boot/boot.b")); backup = None; force_backup = None; compact = false; mode = Lba32Mode; default_name = (Some (codes "linux")); delay = 0; timeout = (Some 50); prompt = true; message = None; disks = []; sections = ((record { other = None; path = (codes "/boot/vmlinuz"); label = (codes "linux"); alias = None; initrd = (Some (codes "/boot/initrd")); root = (Some 769); mount = ReadOnlyMount; append = None; literal = None; vga = None; password = None; restricted = false; optional = false; lock = false; fallback = None; table = None; line = 8 }) ∷ []) }) 0 ≡ Err (headers_of (codes "/boot/vmlinuz") (headers.LineTooLong 33))) × (plan_status (headers_of (codes "/boot/vmlinuz") (headers.LineTooLong 33)) ≡ 4) × (plan_text (headers_of (codes "/boot/vmlinuz") (headers.LineTooLong 33)) ≡ (codes "header /boot/vmlinuz"))
unfolding number16 number32 is_zero has_ranges has_address is_slot is_one_slot chs_of address_of slot_of some_slot slot_at slot_bytes to_chs to_lba sector_at sectors_of place_at slot_make could_be_one named_device entry_at entries_of table_entries is_link is_plain link_of logical_of listed linked_sector chain_entries chain_tables partitions_of numbered_span span_of disk_name last_partition partition_name device_name devices_of named_devices device_at disk_number device_number kind_of super_of super_checks super_in super_at with_counts super_bytes v1_inode v2_inode inode_of inode_at v1_inode_bytes v2_inode_bytes inode_bytes kept_inode inode_place bit with_bit parts_of volume_at number_in follow pointer_by inside follow_at zone_at block_at content_at entry_of entries_in minixentries_entry_at find_entry entries_at is_dots components child find_path file_block file_at zone_number block content entry first_named lookup reached thing names names_in IsSound child_path path_of is_bootable has_signature has_options has_names has_slots has_no_message has_whole_message has_message has_zeros is_whole timeout_of table_slots boot_of boot_at field_bytes merged_sector names_of_section names_of_config started menu_decision menu_boot file_of middle_text target_of menu_entries menu_of meant slot_to slots_for chain_for file_slots file_sectors section_sectors_at flags_of descriptor_for plan_entries sectors_of_table sectors_after plan_sectors map_size plan_names plan_boot plan_boot_sector devices_in inode_places mapped_inode file_inode mapped_section code_in planned file_checks held_checks address_checks plan_at own_places_check plan_text opt_name all_options option_at opt_number takes_of places_of stands_in opens is_of_disk is_of_name excluded_by setup_of version_of header_of header_at fit_checks plan_memory replaced_fields patch command_line written_by place kernel_fit digits
refused_a_kernel_takes_a_short_line_alone = (refl, refl, refl)

-- a cylinder past the last
pub refused_a_cylinder_past_the_last : (plan_at (disks_of (patch_at 0 0 450 (hex 10 0x81000000f80700000808) ∷ patch_at 0 0 510 (hex 2 0x55aa) ∷ patch_at 0 2042 0 (hex 9 0x400004040100010006) ∷ patch_at 0 2042 13 (hex 6 0x1c08108f1301) ∷ patch_at 0 2044 0 (hex 1 0xff) ∷ patch_at 0 2044 8 (hex 1 0xfe ++ replicate 503 255) ∷ patch_at 0 2045 0 (replicate 512 255) ∷ patch_at 0 2046 0 (hex 2 0xff01) ∷ patch_at 0 2046 127 (hex 1 0x80 ++ replicate 384 255) ∷ patch_at 0 2047 0 (replicate 512 255) ∷ patch_at 0 2048 0 (hex 5 0xed41000080) ∷ patch_at 0 2048 13 (hex 2 0x0406) ∷ patch_at 0 2048 32 (hex 5 0xed410000a0) ∷ patch_at 0 2048 45 (hex 2 0x0207) ∷ patch_at 0 2048 64 (hex 5 0xed41000060) ∷ patch_at 0 2048 77 (hex 2 0x0208) ∷ patch_at 0 2048 96 (hex 6 0xa48100000504) ∷ patch_at 0 2048 109 (hex 4 0x0109000a) ∷ patch_at 0 2048 128 (hex 6 0xa4810000bc02) ∷ patch_at 0 2048 141 (hex 2 0x010b) ∷ patch_at 0 2048 160 (hex 6 0xa48100000002) ∷ patch_at 0 2048 173 (hex 2 0x010c) ∷ patch_at 0 2048 192 (hex 5 0xa481000001) ∷ patch_at 0 2048 205 (hex 2 0x010d) ∷ patch_at 0 2052 0 (hex 3 0x01002e) ∷ patch_at 0 2052 32 (hex 4 0x01002e2e) ∷ patch_at 0 2052 64 (hex 6 0x0200626f6f74) ∷ patch_at 0 2052 96 (hex 5 0x0300657463) ∷ patch_at 0 2054 0 (hex 3 0x02002e) ∷ patch_at 0 2054 32 (hex 4 0x01002e2e) ∷ patch_at 0 2054 64 (hex 9 0x0400766d6c696e757a) ∷ patch_at 0 2054 96 (hex 8 0x0500696e69747264) ∷ patch_at 0 2054 128 (hex 8 0x0600626f6f742e62) ∷ patch_at 0 2056 0 (hex 3 0x03002e) ∷ patch_at 0 2056 32 (hex 4 0x01002e2e) ∷ patch_at 0 2056 64 (hex 11 0x07006c696c6f2e636f6e66) ∷ patch_at 0 2058 497 (hex 1 0x01) ∷ patch_at 0 2058 510 (hex 2 0x55aa) ∷ patch_at 0 2059 2 (hex 6 0x486472530602) ∷ patch_at 0 2059 17 (hex 1 0x01) ∷ patch_at 0 2059 44 (hex 4 0xffffff37) ∷ patch_at 0 2059 56 (hex 1 0xff) ∷ patch_at 0 2060 0 (codes "HELLO") ∷ patch_at 0 2062 0 (replicate 512 165) ∷ patch_at 0 2063 0 (replicate 188 165) ∷ patch_at 0 2064 0 (replicate 512 144) ∷ patch_at 0 2066 0 (codes "#") ∷ [])) (machine_of (disk_with 4096 2 1 ∷ [])) (record { span = record { disk = 0; start = 2040; count = 2056 }; layout = record { kind = V1Long; inodes = 64; zones = 1028; imap = 1; zmap = 1; first = 6; max_size = 268966912; state = 1 } }) (record { disk = 0; start = 0; count = 4096 }) (record { boot = (Some (record { disk = 0; partition = 0 })); map = (codes "/boot/map"); install = (Some (codes "/boot/boot.b")); backup = None; force_backup = None; compact = false; mode = ChsMode; default_name = (Some (codes "linux")); delay = 0; timeout = (Some 50); prompt = true; message = None; disks = []; sections = ((record { other = None; path = (codes "/boot/vmlinuz"); label = (codes "linux"); alias = None; initrd = (Some (codes "/boot/initrd")); root = (Some 769); mount = ReadOnlyMount; append = None; literal = None; vga = None; password = None; restricted = false; optional = false; lock = false; fallback = None; table = None; line = 7 }) ∷ []) }) 0 ≡ Err (Address options.Image (slots.Cylinder 1029))) × (plan_status (Address options.Image (slots.Cylinder 1029)) ≡ 4) × (plan_text (Address options.Image (slots.Cylinder 1029)) ≡ (codes "image cylinder 1029 over 1023"))
unfolding number16 number32 is_zero has_ranges has_address is_slot is_one_slot chs_of address_of slot_of some_slot slot_at slot_bytes to_chs to_lba sector_at sectors_of place_at slot_make could_be_one named_device entry_at entries_of table_entries is_link is_plain link_of logical_of listed linked_sector chain_entries chain_tables partitions_of numbered_span span_of disk_name last_partition partition_name device_name devices_of named_devices device_at disk_number device_number kind_of super_of super_checks super_in super_at with_counts super_bytes v1_inode v2_inode inode_of inode_at v1_inode_bytes v2_inode_bytes inode_bytes kept_inode inode_place bit with_bit parts_of volume_at number_in follow pointer_by inside follow_at zone_at block_at content_at entry_of entries_in minixentries_entry_at find_entry entries_at is_dots components child find_path file_block file_at zone_number block content entry first_named lookup reached thing names names_in IsSound child_path path_of is_bootable has_signature has_options has_names has_slots has_no_message has_whole_message has_message has_zeros is_whole timeout_of table_slots boot_of boot_at field_bytes merged_sector names_of_section names_of_config started menu_decision menu_boot file_of middle_text target_of menu_entries menu_of meant slot_to slots_for chain_for file_slots file_sectors section_sectors_at flags_of descriptor_for plan_entries sectors_of_table sectors_after plan_sectors map_size plan_names plan_boot plan_boot_sector devices_in inode_places mapped_inode file_inode mapped_section code_in planned file_checks held_checks address_checks plan_at own_places_check plan_text opt_name all_options option_at opt_number takes_of places_of stands_in opens is_of_disk is_of_name excluded_by setup_of version_of header_of header_at fit_checks plan_memory replaced_fields patch command_line written_by place kernel_fit digits
refused_a_cylinder_past_the_last = (refl, refl, refl)

-- the same, of the message first
pub refused_the_same_of_the_message_first : (plan_at (disks_of (patch_at 0 0 450 (hex 10 0x81000000f80700000808) ∷ patch_at 0 0 510 (hex 2 0x55aa) ∷ patch_at 0 2042 0 (hex 9 0x400004040100010006) ∷ patch_at 0 2042 13 (hex 6 0x1c08108f1301) ∷ patch_at 0 2044 0 (hex 1 0xff) ∷ patch_at 0 2044 8 (hex 1 0xfe ++ replicate 503 255) ∷ patch_at 0 2045 0 (replicate 512 255) ∷ patch_at 0 2046 0 (hex 2 0xff01) ∷ patch_at 0 2046 127 (hex 1 0x80 ++ replicate 384 255) ∷ patch_at 0 2047 0 (replicate 512 255) ∷ patch_at 0 2048 0 (hex 5 0xed41000080) ∷ patch_at 0 2048 13 (hex 2 0x0406) ∷ patch_at 0 2048 32 (hex 5 0xed410000a0) ∷ patch_at 0 2048 45 (hex 2 0x0207) ∷ patch_at 0 2048 64 (hex 5 0xed41000060) ∷ patch_at 0 2048 77 (hex 2 0x0208) ∷ patch_at 0 2048 96 (hex 6 0xa48100000504) ∷ patch_at 0 2048 109 (hex 4 0x0109000a) ∷ patch_at 0 2048 128 (hex 6 0xa4810000bc02) ∷ patch_at 0 2048 141 (hex 2 0x010b) ∷ patch_at 0 2048 160 (hex 6 0xa48100000002) ∷ patch_at 0 2048 173 (hex 2 0x010c) ∷ patch_at 0 2048 192 (hex 5 0xa481000001) ∷ patch_at 0 2048 205 (hex 2 0x010d) ∷ patch_at 0 2052 0 (hex 3 0x01002e) ∷ patch_at 0 2052 32 (hex 4 0x01002e2e) ∷ patch_at 0 2052 64 (hex 6 0x0200626f6f74) ∷ patch_at 0 2052 96 (hex 5 0x0300657463) ∷ patch_at 0 2054 0 (hex 3 0x02002e) ∷ patch_at 0 2054 32 (hex 4 0x01002e2e) ∷ patch_at 0 2054 64 (hex 9 0x0400766d6c696e757a) ∷ patch_at 0 2054 96 (hex 8 0x0500696e69747264) ∷ patch_at 0 2054 128 (hex 8 0x0600626f6f742e62) ∷ patch_at 0 2056 0 (hex 3 0x03002e) ∷ patch_at 0 2056 32 (hex 4 0x01002e2e) ∷ patch_at 0 2056 64 (hex 11 0x07006c696c6f2e636f6e66) ∷ patch_at 0 2058 497 (hex 1 0x01) ∷ patch_at 0 2058 510 (hex 2 0x55aa) ∷ patch_at 0 2059 2 (hex 6 0x486472530602) ∷ patch_at 0 2059 17 (hex 1 0x01) ∷ patch_at 0 2059 44 (hex 4 0xffffff37) ∷ patch_at 0 2059 56 (hex 1 0xff) ∷ patch_at 0 2060 0 (codes "HELLO") ∷ patch_at 0 2062 0 (replicate 512 165) ∷ patch_at 0 2063 0 (replicate 188 165) ∷ patch_at 0 2064 0 (replicate 512 144) ∷ patch_at 0 2066 0 (codes "#") ∷ [])) (machine_of (disk_with 4096 2 1 ∷ [])) (record { span = record { disk = 0; start = 2040; count = 2056 }; layout = record { kind = V1Long; inodes = 64; zones = 1028; imap = 1; zmap = 1; first = 6; max_size = 268966912; state = 1 } }) (record { disk = 0; start = 0; count = 4096 }) (record { boot = (Some (record { disk = 0; partition = 0 })); map = (codes "/boot/map"); install = (Some (codes "/boot/boot.b")); backup = None; force_backup = None; compact = true; mode = LinearMode; default_name = (Some (codes "linux")); delay = 0; timeout = (Some 50); prompt = true; message = (Some (codes "/boot/boot.b")); disks = []; sections = ((record { other = None; path = (codes "/boot/vmlinuz"); label = (codes "linux"); alias = None; initrd = (Some (codes "/boot/initrd")); root = (Some 769); mount = ReadOnlyMount; append = None; literal = None; vga = None; password = None; restricted = false; optional = false; lock = false; fallback = None; table = None; line = 10 }) ∷ []) }) 0 ≡ Err (Address options.Message (slots.Cylinder 1032))) × (plan_status (Address options.Message (slots.Cylinder 1032)) ≡ 4) × (plan_text (Address options.Message (slots.Cylinder 1032)) ≡ (codes "message cylinder 1032 over 1023"))
unfolding number16 number32 is_zero has_ranges has_address is_slot is_one_slot chs_of address_of slot_of some_slot slot_at slot_bytes to_chs to_lba sector_at sectors_of place_at slot_make could_be_one named_device entry_at entries_of table_entries is_link is_plain link_of logical_of listed linked_sector chain_entries chain_tables partitions_of numbered_span span_of disk_name last_partition partition_name device_name devices_of named_devices device_at disk_number device_number kind_of super_of super_checks super_in super_at with_counts super_bytes v1_inode v2_inode inode_of inode_at v1_inode_bytes v2_inode_bytes inode_bytes kept_inode inode_place bit with_bit parts_of volume_at number_in follow pointer_by inside follow_at zone_at block_at content_at entry_of entries_in minixentries_entry_at find_entry entries_at is_dots components child find_path file_block file_at zone_number block content entry first_named lookup reached thing names names_in IsSound child_path path_of is_bootable has_signature has_options has_names has_slots has_no_message has_whole_message has_message has_zeros is_whole timeout_of table_slots boot_of boot_at field_bytes merged_sector names_of_section names_of_config started menu_decision menu_boot file_of middle_text target_of menu_entries menu_of meant slot_to slots_for chain_for file_slots file_sectors section_sectors_at flags_of descriptor_for plan_entries sectors_of_table sectors_after plan_sectors map_size plan_names plan_boot plan_boot_sector devices_in inode_places mapped_inode file_inode mapped_section code_in planned file_checks held_checks address_checks plan_at own_places_check plan_text opt_name all_options option_at opt_number takes_of places_of stands_in opens is_of_disk is_of_name excluded_by setup_of version_of header_of header_at fit_checks plan_memory replaced_fields patch command_line written_by place kernel_fit digits
refused_the_same_of_the_message_first = (refl, refl, refl)

-- the same, of the initrd alone
pub refused_the_same_of_the_initrd_alone : (plan_at (disks_of (patch_at 0 0 450 (hex 10 0x81000000ea0700001608) ∷ patch_at 0 0 510 (hex 2 0x55aa) ∷ patch_at 0 2028 0 (hex 9 0x40000b040100010006) ∷ patch_at 0 2028 13 (hex 6 0x1c08108f1301) ∷ patch_at 0 2030 0 (hex 1 0xff) ∷ patch_at 0 2030 8 (hex 1 0xfe ++ replicate 503 255) ∷ patch_at 0 2031 0 (replicate 512 255) ∷ patch_at 0 2032 0 (hex 2 0xff01) ∷ patch_at 0 2032 128 (hex 1 0xc0 ++ replicate 383 255) ∷ patch_at 0 2033 0 (replicate 512 255) ∷ patch_at 0 2034 0 (hex 5 0xed41000080) ∷ patch_at 0 2034 13 (hex 2 0x0406) ∷ patch_at 0 2034 32 (hex 5 0xed410000a0) ∷ patch_at 0 2034 45 (hex 2 0x0207) ∷ patch_at 0 2034 64 (hex 5 0xed41000060) ∷ patch_at 0 2034 77 (hex 2 0x0208) ∷ patch_at 0 2034 96 (hex 6 0xa48100000504) ∷ patch_at 0 2034 109 (hex 4 0x0109000a) ∷ patch_at 0 2034 128 (hex 6 0xa4810000bc02) ∷ patch_at 0 2034 141 (hex 2 0x010b) ∷ patch_at 0 2034 160 (hex 6 0xa48100000002) ∷ patch_at 0 2034 173 (hex 2 0x010c) ∷ patch_at 0 2034 192 (hex 5 0xa481000001) ∷ patch_at 0 2034 205 (hex 2 0x010d) ∷ patch_at 0 2038 0 (hex 3 0x01002e) ∷ patch_at 0 2038 32 (hex 4 0x01002e2e) ∷ patch_at 0 2038 64 (hex 6 0x0200626f6f74) ∷ patch_at 0 2038 96 (hex 5 0x0300657463) ∷ patch_at 0 2040 0 (hex 3 0x02002e) ∷ patch_at 0 2040 32 (hex 4 0x01002e2e) ∷ patch_at 0 2040 64 (hex 9 0x0400766d6c696e757a) ∷ patch_at 0 2040 96 (hex 8 0x0500696e69747264) ∷ patch_at 0 2040 128 (hex 8 0x0600626f6f742e62) ∷ patch_at 0 2042 0 (hex 3 0x03002e) ∷ patch_at 0 2042 32 (hex 4 0x01002e2e) ∷ patch_at 0 2042 64 (hex 11 0x07006c696c6f2e636f6e66) ∷ patch_at 0 2044 497 (hex 1 0x01) ∷ patch_at 0 2044 510 (hex 2 0x55aa) ∷ patch_at 0 2045 2 (hex 6 0x486472530602) ∷ patch_at 0 2045 17 (hex 1 0x01) ∷ patch_at 0 2045 44 (hex 4 0xffffff37) ∷ patch_at 0 2045 56 (hex 1 0xff) ∷ patch_at 0 2046 0 (codes "HELLO") ∷ patch_at 0 2048 0 (replicate 512 165) ∷ patch_at 0 2049 0 (replicate 188 165) ∷ patch_at 0 2050 0 (replicate 512 144) ∷ patch_at 0 2052 0 (codes "#") ∷ [])) (machine_of (disk_with 4096 2 1 ∷ [])) (record { span = record { disk = 0; start = 2026; count = 2070 }; layout = record { kind = V1Long; inodes = 64; zones = 1035; imap = 1; zmap = 1; first = 6; max_size = 268966912; state = 1 } }) (record { disk = 0; start = 0; count = 4096 }) (record { boot = (Some (record { disk = 0; partition = 0 })); map = (codes "/boot/map"); install = (Some (codes "/boot/boot.b")); backup = None; force_backup = None; compact = false; mode = ChsMode; default_name = (Some (codes "linux")); delay = 0; timeout = (Some 50); prompt = true; message = None; disks = []; sections = ((record { other = None; path = (codes "/boot/vmlinuz"); label = (codes "linux"); alias = None; initrd = (Some (codes "/boot/initrd")); root = (Some 769); mount = ReadOnlyMount; append = None; literal = None; vga = None; password = None; restricted = false; optional = false; lock = false; fallback = None; table = None; line = 7 }) ∷ []) }) 0 ≡ Err (Address options.Initrd (slots.Cylinder 1024))) × (plan_status (Address options.Initrd (slots.Cylinder 1024)) ≡ 4) × (plan_text (Address options.Initrd (slots.Cylinder 1024)) ≡ (codes "initrd cylinder 1024 over 1023"))
unfolding number16 number32 is_zero has_ranges has_address is_slot is_one_slot chs_of address_of slot_of some_slot slot_at slot_bytes to_chs to_lba sector_at sectors_of place_at slot_make could_be_one named_device entry_at entries_of table_entries is_link is_plain link_of logical_of listed linked_sector chain_entries chain_tables partitions_of numbered_span span_of disk_name last_partition partition_name device_name devices_of named_devices device_at disk_number device_number kind_of super_of super_checks super_in super_at with_counts super_bytes v1_inode v2_inode inode_of inode_at v1_inode_bytes v2_inode_bytes inode_bytes kept_inode inode_place bit with_bit parts_of volume_at number_in follow pointer_by inside follow_at zone_at block_at content_at entry_of entries_in minixentries_entry_at find_entry entries_at is_dots components child find_path file_block file_at zone_number block content entry first_named lookup reached thing names names_in IsSound child_path path_of is_bootable has_signature has_options has_names has_slots has_no_message has_whole_message has_message has_zeros is_whole timeout_of table_slots boot_of boot_at field_bytes merged_sector names_of_section names_of_config started menu_decision menu_boot file_of middle_text target_of menu_entries menu_of meant slot_to slots_for chain_for file_slots file_sectors section_sectors_at flags_of descriptor_for plan_entries sectors_of_table sectors_after plan_sectors map_size plan_names plan_boot plan_boot_sector devices_in inode_places mapped_inode file_inode mapped_section code_in planned file_checks held_checks address_checks plan_at own_places_check plan_text opt_name all_options option_at opt_number takes_of places_of stands_in opens is_of_disk is_of_name excluded_by setup_of version_of header_of header_at fit_checks plan_memory replaced_fields patch command_line written_by place kernel_fit digits
refused_the_same_of_the_initrd_alone = (refl, refl, refl)

-- the same, of another system before the initrd
pub refused_the_same_of_another_system_before_the_initrd : (plan_at (disks_of (patch_at 0 0 450 (hex 10 0x81000000ea0700001608) ∷ patch_at 0 0 510 (hex 2 0x55aa) ∷ patch_at 0 2028 0 (hex 9 0x40000b040100010006) ∷ patch_at 0 2028 13 (hex 6 0x1c08108f1301) ∷ patch_at 0 2030 0 (hex 1 0xff) ∷ patch_at 0 2030 8 (hex 1 0xfe ++ replicate 503 255) ∷ patch_at 0 2031 0 (replicate 512 255) ∷ patch_at 0 2032 0 (hex 2 0xff01) ∷ patch_at 0 2032 128 (hex 1 0xc0 ++ replicate 383 255) ∷ patch_at 0 2033 0 (replicate 512 255) ∷ patch_at 0 2034 0 (hex 5 0xed41000080) ∷ patch_at 0 2034 13 (hex 2 0x0406) ∷ patch_at 0 2034 32 (hex 5 0xed410000a0) ∷ patch_at 0 2034 45 (hex 2 0x0207) ∷ patch_at 0 2034 64 (hex 5 0xed41000060) ∷ patch_at 0 2034 77 (hex 2 0x0208) ∷ patch_at 0 2034 96 (hex 6 0xa48100000504) ∷ patch_at 0 2034 109 (hex 4 0x0109000a) ∷ patch_at 0 2034 128 (hex 6 0xa4810000bc02) ∷ patch_at 0 2034 141 (hex 2 0x010b) ∷ patch_at 0 2034 160 (hex 6 0xa48100000002) ∷ patch_at 0 2034 173 (hex 2 0x010c) ∷ patch_at 0 2034 192 (hex 5 0xa481000001) ∷ patch_at 0 2034 205 (hex 2 0x010d) ∷ patch_at 0 2038 0 (hex 3 0x01002e) ∷ patch_at 0 2038 32 (hex 4 0x01002e2e) ∷ patch_at 0 2038 64 (hex 6 0x0200626f6f74) ∷ patch_at 0 2038 96 (hex 5 0x0300657463) ∷ patch_at 0 2040 0 (hex 3 0x02002e) ∷ patch_at 0 2040 32 (hex 4 0x01002e2e) ∷ patch_at 0 2040 64 (hex 9 0x0400766d6c696e757a) ∷ patch_at 0 2040 96 (hex 8 0x0500696e69747264) ∷ patch_at 0 2040 128 (hex 8 0x0600626f6f742e62) ∷ patch_at 0 2042 0 (hex 3 0x03002e) ∷ patch_at 0 2042 32 (hex 4 0x01002e2e) ∷ patch_at 0 2042 64 (hex 11 0x07006c696c6f2e636f6e66) ∷ patch_at 0 2044 497 (hex 1 0x01) ∷ patch_at 0 2044 510 (hex 2 0x55aa) ∷ patch_at 0 2045 2 (hex 6 0x486472530602) ∷ patch_at 0 2045 17 (hex 1 0x01) ∷ patch_at 0 2045 44 (hex 4 0xffffff37) ∷ patch_at 0 2045 56 (hex 1 0xff) ∷ patch_at 0 2046 0 (codes "HELLO") ∷ patch_at 0 2048 0 (replicate 512 165) ∷ patch_at 0 2049 0 (replicate 188 165) ∷ patch_at 0 2050 0 (replicate 512 144) ∷ patch_at 0 2052 0 (codes "#") ∷ patch_at 1 0 446 (hex 14 0x8001020306050607dc0500009001) ∷ patch_at 1 0 510 (hex 2 0x55aa) ∷ patch_at 1 1500 510 (hex 2 0x55aa) ∷ [])) (machine_of (disk_with 4096 2 1 ∷ disk_with 2000 1 1 ∷ [])) (record { span = record { disk = 0; start = 2026; count = 2070 }; layout = record { kind = V1Long; inodes = 64; zones = 1035; imap = 1; zmap = 1; first = 6; max_size = 268966912; state = 1 } }) (record { disk = 0; start = 0; count = 4096 }) (record { boot = (Some (record { disk = 0; partition = 0 })); map = (codes "/boot/map"); install = (Some (codes "/boot/boot.b")); backup = None; force_backup = None; compact = false; mode = ChsMode; default_name = (Some (codes "linux")); delay = 0; timeout = (Some 50); prompt = true; message = None; disks = []; sections = ((record { other = (Some (record { disk = 1; partition = 1 })); path = (codes "/dev/hdb1"); label = (codes "x"); alias = None; initrd = None; root = None; mount = Unsaid; append = None; literal = None; vga = None; password = None; restricted = false; optional = false; lock = false; fallback = None; table = None; line = 7 }) ∷ (record { other = None; path = (codes "/boot/vmlinuz"); label = (codes "linux"); alias = None; initrd = (Some (codes "/boot/initrd")); root = (Some 769); mount = ReadOnlyMount; append = None; literal = None; vga = None; password = None; restricted = false; optional = false; lock = false; fallback = None; table = None; line = 9 }) ∷ []) }) 0 ≡ Err (Address options.OtherDevice (slots.Cylinder 1500))) × (plan_status (Address options.OtherDevice (slots.Cylinder 1500)) ≡ 4) × (plan_text (Address options.OtherDevice (slots.Cylinder 1500)) ≡ (codes "other cylinder 1500 over 1023"))
unfolding number16 number32 is_zero has_ranges has_address is_slot is_one_slot chs_of address_of slot_of some_slot slot_at slot_bytes to_chs to_lba sector_at sectors_of place_at slot_make could_be_one named_device entry_at entries_of table_entries is_link is_plain link_of logical_of listed linked_sector chain_entries chain_tables partitions_of numbered_span span_of disk_name last_partition partition_name device_name devices_of named_devices device_at disk_number device_number kind_of super_of super_checks super_in super_at with_counts super_bytes v1_inode v2_inode inode_of inode_at v1_inode_bytes v2_inode_bytes inode_bytes kept_inode inode_place bit with_bit parts_of volume_at number_in follow pointer_by inside follow_at zone_at block_at content_at entry_of entries_in minixentries_entry_at find_entry entries_at is_dots components child find_path file_block file_at zone_number block content entry first_named lookup reached thing names names_in IsSound child_path path_of is_bootable has_signature has_options has_names has_slots has_no_message has_whole_message has_message has_zeros is_whole timeout_of table_slots boot_of boot_at field_bytes merged_sector names_of_section names_of_config started menu_decision menu_boot file_of middle_text target_of menu_entries menu_of meant slot_to slots_for chain_for file_slots file_sectors section_sectors_at flags_of descriptor_for plan_entries sectors_of_table sectors_after plan_sectors map_size plan_names plan_boot plan_boot_sector devices_in inode_places mapped_inode file_inode mapped_section code_in planned file_checks held_checks address_checks plan_at own_places_check plan_text opt_name all_options option_at opt_number takes_of places_of stands_in opens is_of_disk is_of_name excluded_by setup_of version_of header_of header_at fit_checks plan_memory replaced_fields patch command_line written_by place kernel_fit digits
refused_the_same_of_another_system_before_the_initrd = (refl, refl, refl)

-- the same, of a table
pub refused_the_same_of_a_table : (plan_at (disks_of (disk_files ++ (patch_at 1 0 446 (hex 14 0x8001020306050607dc0500009001) ∷ patch_at 1 0 510 (hex 2 0x55aa) ∷ patch_at 1 1500 510 (hex 2 0x55aa) ∷ []))) (machine_of (disk_with 4096 16 63 ∷ disk_with 2000 1 1 ∷ [])) (record { span = record { disk = 0; start = 64; count = 4032 }; layout = record { kind = V1Long; inodes = 64; zones = 2016; imap = 1; zmap = 1; first = 6; max_size = 268966912; state = 1 } }) (record { disk = 0; start = 0; count = 4096 }) (record { boot = (Some (record { disk = 0; partition = 0 })); map = (codes "/boot/map"); install = (Some (codes "/boot/boot.b")); backup = None; force_backup = None; compact = false; mode = ChsMode; default_name = (Some (codes "linux")); delay = 0; timeout = (Some 50); prompt = true; message = None; disks = []; sections = ((record { other = None; path = (codes "/boot/vmlinuz"); label = (codes "linux"); alias = None; initrd = (Some (codes "/boot/initrd")); root = (Some 769); mount = ReadOnlyMount; append = None; literal = None; vga = None; password = None; restricted = false; optional = false; lock = false; fallback = None; table = None; line = 7 }) ∷ (record { other = (Some (record { disk = 1; partition = 0 })); path = (codes "/dev/hdb"); label = (codes "x"); alias = None; initrd = None; root = None; mount = Unsaid; append = None; literal = None; vga = None; password = None; restricted = false; optional = false; lock = false; fallback = None; table = (Some (record { disk = 1; partition = 1 })); line = 12 }) ∷ []) }) 0 ≡ Err (Address options.Table (slots.Cylinder 1500))) × (plan_status (Address options.Table (slots.Cylinder 1500)) ≡ 4) × (plan_text (Address options.Table (slots.Cylinder 1500)) ≡ (codes "table cylinder 1500 over 1023"))
unfolding number16 number32 is_zero has_ranges has_address is_slot is_one_slot chs_of address_of slot_of some_slot slot_at slot_bytes to_chs to_lba sector_at sectors_of place_at slot_make could_be_one named_device entry_at entries_of table_entries is_link is_plain link_of logical_of listed linked_sector chain_entries chain_tables partitions_of numbered_span span_of disk_name last_partition partition_name device_name devices_of named_devices device_at disk_number device_number kind_of super_of super_checks super_in super_at with_counts super_bytes v1_inode v2_inode inode_of inode_at v1_inode_bytes v2_inode_bytes inode_bytes kept_inode inode_place bit with_bit parts_of volume_at number_in follow pointer_by inside follow_at zone_at block_at content_at entry_of entries_in minixentries_entry_at find_entry entries_at is_dots components child find_path file_block file_at zone_number block content entry first_named lookup reached thing names names_in IsSound child_path path_of is_bootable has_signature has_options has_names has_slots has_no_message has_whole_message has_message has_zeros is_whole timeout_of table_slots boot_of boot_at field_bytes merged_sector names_of_section names_of_config started menu_decision menu_boot file_of middle_text target_of menu_entries menu_of meant slot_to slots_for chain_for file_slots file_sectors section_sectors_at flags_of descriptor_for plan_entries sectors_of_table sectors_after plan_sectors map_size plan_names plan_boot plan_boot_sector devices_in inode_places mapped_inode file_inode mapped_section code_in planned file_checks held_checks address_checks plan_at own_places_check plan_text opt_name all_options option_at opt_number takes_of places_of stands_in opens is_of_disk is_of_name excluded_by setup_of version_of header_of header_at fit_checks plan_memory replaced_fields patch command_line written_by place kernel_fit digits
refused_the_same_of_a_table = (refl, refl, refl)

-- another system by its number
pub refused_another_system_by_its_number : is_ok (plan_at (disks_of (disk_files ++ (patch_at 1 0 446 (hex 14 0x8001020306050607dc0500009001) ∷ patch_at 1 0 510 (hex 2 0x55aa) ∷ patch_at 1 1500 510 (hex 2 0x55aa) ∷ []))) (machine_of (disk_with 4096 16 63 ∷ disk_with 2000 1 1 ∷ [])) (record { span = record { disk = 0; start = 64; count = 4032 }; layout = record { kind = V1Long; inodes = 64; zones = 2016; imap = 1; zmap = 1; first = 6; max_size = 268966912; state = 1 } }) (record { disk = 0; start = 0; count = 4096 }) (record { boot = (Some (record { disk = 0; partition = 0 })); map = (codes "/boot/map"); install = (Some (codes "/boot/boot.b")); backup = None; force_backup = None; compact = false; mode = Lba32Mode; default_name = (Some (codes "linux")); delay = 0; timeout = (Some 50); prompt = true; message = None; disks = []; sections = ((record { other = None; path = (codes "/boot/vmlinuz"); label = (codes "linux"); alias = None; initrd = (Some (codes "/boot/initrd")); root = (Some 769); mount = ReadOnlyMount; append = None; literal = None; vga = None; password = None; restricted = false; optional = false; lock = false; fallback = None; table = None; line = 8 }) ∷ (record { other = (Some (record { disk = 1; partition = 1 })); path = (codes "/dev/hdb1"); label = (codes "x"); alias = None; initrd = None; root = None; mount = Unsaid; append = None; literal = None; vga = None; password = None; restricted = false; optional = false; lock = false; fallback = None; table = None; line = 13 }) ∷ []) }) 0) ≡ true
unfolding number16 number32 is_zero has_ranges has_address is_slot is_one_slot chs_of address_of slot_of some_slot slot_at slot_bytes to_chs to_lba sector_at sectors_of place_at slot_make could_be_one named_device entry_at entries_of table_entries is_link is_plain link_of logical_of listed linked_sector chain_entries chain_tables partitions_of numbered_span span_of disk_name last_partition partition_name device_name devices_of named_devices device_at disk_number device_number kind_of super_of super_checks super_in super_at with_counts super_bytes v1_inode v2_inode inode_of inode_at v1_inode_bytes v2_inode_bytes inode_bytes kept_inode inode_place bit with_bit parts_of volume_at number_in follow pointer_by inside follow_at zone_at block_at content_at entry_of entries_in minixentries_entry_at find_entry entries_at is_dots components child find_path file_block file_at zone_number block content entry first_named lookup reached thing names names_in IsSound child_path path_of is_bootable has_signature has_options has_names has_slots has_no_message has_whole_message has_message has_zeros is_whole timeout_of table_slots boot_of boot_at field_bytes merged_sector names_of_section names_of_config started menu_decision menu_boot file_of middle_text target_of menu_entries menu_of meant slot_to slots_for chain_for file_slots file_sectors section_sectors_at flags_of descriptor_for plan_entries sectors_of_table sectors_after plan_sectors map_size plan_names plan_boot plan_boot_sector devices_in inode_places mapped_inode file_inode mapped_section code_in planned file_checks held_checks address_checks plan_at own_places_check plan_text opt_name all_options option_at opt_number takes_of places_of stands_in opens is_of_disk is_of_name excluded_by setup_of version_of header_of header_at fit_checks plan_memory replaced_fields patch command_line written_by place kernel_fit digits
refused_another_system_by_its_number = refl

-- headers come before addresses
pub refused_headers_come_before_addresses : (plan_at (disks_of (patch_at 0 0 450 (hex 10 0x81000000f80700000808) ∷ patch_at 0 0 510 (hex 2 0x55aa) ∷ patch_at 0 2042 0 (hex 9 0x400004040100010006) ∷ patch_at 0 2042 13 (hex 6 0x1c08108f1301) ∷ patch_at 0 2044 0 (hex 1 0xff) ∷ patch_at 0 2044 8 (hex 1 0xfe ++ replicate 503 255) ∷ patch_at 0 2045 0 (replicate 512 255) ∷ patch_at 0 2046 0 (hex 1 0xff) ∷ patch_at 0 2046 127 (hex 1 0x80 ++ replicate 384 255) ∷ patch_at 0 2047 0 (replicate 512 255) ∷ patch_at 0 2048 0 (hex 5 0xed41000080) ∷ patch_at 0 2048 13 (hex 2 0x0406) ∷ patch_at 0 2048 32 (hex 5 0xed410000a0) ∷ patch_at 0 2048 45 (hex 2 0x0207) ∷ patch_at 0 2048 64 (hex 5 0xed41000060) ∷ patch_at 0 2048 77 (hex 2 0x0208) ∷ patch_at 0 2048 96 (hex 6 0xa4810000f401) ∷ patch_at 0 2048 109 (hex 2 0x0109) ∷ patch_at 0 2048 128 (hex 6 0xa4810000bc02) ∷ patch_at 0 2048 141 (hex 2 0x010a) ∷ patch_at 0 2048 160 (hex 6 0xa48100000002) ∷ patch_at 0 2048 173 (hex 2 0x010b) ∷ patch_at 0 2048 192 (hex 5 0xa481000001) ∷ patch_at 0 2048 205 (hex 2 0x010c) ∷ patch_at 0 2052 0 (hex 3 0x01002e) ∷ patch_at 0 2052 32 (hex 4 0x01002e2e) ∷ patch_at 0 2052 64 (hex 6 0x0200626f6f74) ∷ patch_at 0 2052 96 (hex 5 0x0300657463) ∷ patch_at 0 2054 0 (hex 3 0x02002e) ∷ patch_at 0 2054 32 (hex 4 0x01002e2e) ∷ patch_at 0 2054 64 (hex 9 0x0400766d6c696e757a) ∷ patch_at 0 2054 96 (hex 8 0x0500696e69747264) ∷ patch_at 0 2054 128 (hex 8 0x0600626f6f742e62) ∷ patch_at 0 2056 0 (hex 3 0x03002e) ∷ patch_at 0 2056 32 (hex 4 0x01002e2e) ∷ patch_at 0 2056 64 (hex 11 0x07006c696c6f2e636f6e66) ∷ patch_at 0 2058 497 (hex 1 0x01) ∷ patch_at 0 2060 0 (replicate 512 165) ∷ patch_at 0 2061 0 (replicate 188 165) ∷ patch_at 0 2062 0 (replicate 512 144) ∷ patch_at 0 2064 0 (codes "#") ∷ [])) (machine_of (disk_with 4096 2 1 ∷ [])) (record { span = record { disk = 0; start = 2040; count = 2056 }; layout = record { kind = V1Long; inodes = 64; zones = 1028; imap = 1; zmap = 1; first = 6; max_size = 268966912; state = 1 } }) (record { disk = 0; start = 0; count = 4096 }) (record { boot = (Some (record { disk = 0; partition = 0 })); map = (codes "/boot/map"); install = (Some (codes "/boot/boot.b")); backup = None; force_backup = None; compact = false; mode = ChsMode; default_name = (Some (codes "linux")); delay = 0; timeout = (Some 50); prompt = true; message = None; disks = []; sections = ((record { other = None; path = (codes "/boot/vmlinuz"); label = (codes "linux"); alias = None; initrd = (Some (codes "/boot/initrd")); root = (Some 769); mount = ReadOnlyMount; append = None; literal = None; vga = None; password = None; restricted = false; optional = false; lock = false; fallback = None; table = None; line = 7 }) ∷ []) }) 0 ≡ Err (headers_of (codes "/boot/vmlinuz") headers.TooShort)) × (plan_status (headers_of (codes "/boot/vmlinuz") headers.TooShort) ≡ 4) × (plan_text (headers_of (codes "/boot/vmlinuz") headers.TooShort) ≡ (codes "header /boot/vmlinuz"))
unfolding number16 number32 is_zero has_ranges has_address is_slot is_one_slot chs_of address_of slot_of some_slot slot_at slot_bytes to_chs to_lba sector_at sectors_of place_at slot_make could_be_one named_device entry_at entries_of table_entries is_link is_plain link_of logical_of listed linked_sector chain_entries chain_tables partitions_of numbered_span span_of disk_name last_partition partition_name device_name devices_of named_devices device_at disk_number device_number kind_of super_of super_checks super_in super_at with_counts super_bytes v1_inode v2_inode inode_of inode_at v1_inode_bytes v2_inode_bytes inode_bytes kept_inode inode_place bit with_bit parts_of volume_at number_in follow pointer_by inside follow_at zone_at block_at content_at entry_of entries_in minixentries_entry_at find_entry entries_at is_dots components child find_path file_block file_at zone_number block content entry first_named lookup reached thing names names_in IsSound child_path path_of is_bootable has_signature has_options has_names has_slots has_no_message has_whole_message has_message has_zeros is_whole timeout_of table_slots boot_of boot_at field_bytes merged_sector names_of_section names_of_config started menu_decision menu_boot file_of middle_text target_of menu_entries menu_of meant slot_to slots_for chain_for file_slots file_sectors section_sectors_at flags_of descriptor_for plan_entries sectors_of_table sectors_after plan_sectors map_size plan_names plan_boot plan_boot_sector devices_in inode_places mapped_inode file_inode mapped_section code_in planned file_checks held_checks address_checks plan_at own_places_check plan_text opt_name all_options option_at opt_number takes_of places_of stands_in opens is_of_disk is_of_name excluded_by setup_of version_of header_of header_at fit_checks plan_memory replaced_fields patch command_line written_by place kernel_fit digits
refused_headers_come_before_addresses = (refl, refl, refl)

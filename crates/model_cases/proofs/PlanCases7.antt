-- Cases of the model, written by tools/plan_cases.py: the sectors of planned maps, and their boot sectors.
use Rattle.std.proofs.Common.{◌≡◌, ◌∷◌, ◌++◌, [], codes, replicate, refl}
use Rattle.lilo_model.specs.BootSector.{is_bootable, has_signature, has_options, has_names, has_slots, has_no_message, has_whole_message, has_message, has_zeros, is_whole, timeout_of, table_slots, boot_of, boot_at, field_bytes, merged_sector}
use Rattle.lilo_model.specs.Bytes.{number16, number32, is_zero}
use Rattle.lilo_model.specs.ConfLawful.{names_of_section, names_of_config}
use Rattle.lilo_model.specs.Devices.{disk_name, last_partition, partition_name, device_name, devices_of, named_devices, device_at, disk_number, device_number}
use Rattle.lilo_model.specs.LineSector.{is_line, line_of, line_at, line_bytes, is_same_line}
use Rattle.lilo_model.specs.Meant.{started, menu_decision, menu_boot, file_of, middle_text, target_of, menu_entries, menu_of, meant}
use Rattle.lilo_model.specs.MinixEntries.{entry_of, entries_in, entry_at as minixentries_entry_at, find_entry, entries_at, is_dots}
use Rattle.lilo_model.specs.MinixFind.{components, child, find_path, file_block, file_at}
use Rattle.lilo_model.specs.MinixFindNames.{child_path, path_of}
use Rattle.lilo_model.specs.MinixLayout.{kind_of, super_of, super_checks, super_in, super_at, with_counts, super_bytes, v1_inode, v2_inode, inode_of, inode_at, v1_inode_bytes, v2_inode_bytes, inode_bytes, kept_inode, inode_place}
use Rattle.lilo_model.specs.MinixNames.{zone_number, block, content, entry, first_named, lookup, reached, thing, names, names_in, IsSound}
use Rattle.lilo_model.specs.MinixParts.{bit, with_bit, parts_of, volume_at, number_in, follow, pointer_by, inside, follow_at, zone_at, block_at, content_at}
use Rattle.lilo_model.specs.Options.{options_at, extra_at, options_bytes, extra_bytes}
use Rattle.lilo_model.specs.Partitions.{named_device, entry_at, entries_of, table_entries, is_link, is_plain, link_of, logical_of, listed, linked_sector, chain_entries, chain_tables, partitions_of, numbered_span, span_of}
use Rattle.lilo_model.specs.Plan.{slot_to, slots_for, chain_for, file_slots, file_sectors, section_sectors_at, flags_of, descriptor_for, plan_entries, sectors_of_table, sectors_after, plan_sectors, map_size, plan_names, plan_boot, plan_boot_sector}
use Rattle.lilo_model.specs.Planned.{devices_in, inode_places, mapped_inode, file_inode, mapped_section, code_in, planned}
use Rattle.lilo_model.specs.Section.{link_at, section, file_content, section_bytes}
use Rattle.lilo_model.specs.Slots.{has_ranges, has_address, is_slot, is_one_slot, chs_of, address_of, slot_of, some_slot, slot_at, slot_bytes, to_chs, to_lba, sector_at, sectors_of, place_at, slot_make, could_be_one}
use Rattle.lilo_model.specs.Table.{is_set, entry_name, is_printable, is_name, has_flags, has_video, has_length, has_main, has_initrd, has_extra, is_entry, descriptor_of, entry_bytes, same_name, repeats, breaks, table_at, descriptor_bytes}
use Rattle.model_cases.specs.Sparse.{hex, piece, file, disks_of, on}
use Rattle.model_cases.specs.PlanChanceConfs1.{conf_r25, conf_r26, conf_r27, conf_r28, conf_r29, conf_r30}
use Rattle.model_cases.specs.PlanChanceConfs2.{conf_r31, conf_r32}
use Rattle.model_cases.specs.PlanDisks.{disk_many}
use Rattle.model_cases.specs.PlanVolumes.{machine_many, volume_many}

-- by chance 25
pub plan_by_chance_25 : (plan_sectors (planned (disks_of disk_many) machine_many volume_many conf_r25 1545503053) machine_many (on 0 (2365 ∷ []) ++ on 1 (1395 ∷ []) ++ on 0 (839 ∷ 3402 ∷ 3606 ∷ 394 ∷ 2486 ∷ 803 ∷ 1793 ∷ []) ++ on 1 (943 ∷ []) ++ on 0 (981 ∷ 2634 ∷ []) ++ on 1 (1936 ∷ []) ++ on 0 (2430 ∷ [])) ≡ (file 512 (piece 0 (codes "LINE") ∷ [])) ∷ (file 512 (piece 0 (codes "win") ∷ piece 16 (hex 6 0x020000000504) ∷ piece 28 (hex 15 0x01800100110006000180010030000c) ∷ piece 52 (hex 17 0x01000000018001001e0207006c696e7578) ∷ piece 80 (hex 51 0x4e00000040060000dc050000018001001e010c000180010025000f0001800100340209000100010001810100090d03006f6c64) ∷ piece 144 (hex 6 0x280001034006) ∷ piece 156 (hex 15 0x01810100101c010001800100250206) ∷ piece 180 (hex 1 0x01) ∷ [])) ∷ (file 512 []) ∷ (file 512 []) ∷ (file 512 []) ∷ (file 512 (piece 0 (hex 1 0x04) ∷ piece 8 (codes " x y") ∷ [])) ∷ (file 512 (piece 2 (hex 1 0x03) ∷ piece 480 (codes "abc") ∷ [])) ∷ (file 512 (piece 0 (hex 23 0x018001002a000100018001002b000100018001002c0001) ∷ [])) ∷ (file 512 (piece 0 (hex 1 0x06) ∷ piece 8 (codes " quiet") ∷ [])) ∷ (file 512 (piece 2 (hex 1 0x03) ∷ piece 480 (codes "abc") ∷ [])) ∷ (file 512 (piece 0 (hex 31 0x018001001e000100018001001f000100018001002000010001800100210001) ∷ [])) ∷ (file 512 (piece 0 (hex 23 0x0180010034000100018001003500010001800100360001) ∷ [])) ∷ (file 512 (piece 0 (hex 1 0x09) ∷ piece 8 (codes " root=801") ∷ [])) ∷ (file 512 (piece 0 (hex 31 0x018001001e000100018001001f000100018001002000010001800100210001) ∷ [])) ∷ []) × (plan_boot_sector (planned (disks_of disk_many) machine_many volume_many conf_r25 1545503053) machine_many (on 0 (2365 ∷ []) ++ on 1 (1395 ∷ []) ++ on 0 (839 ∷ 3402 ∷ 3606 ∷ 394 ∷ 2486 ∷ 803 ∷ 1793 ∷ []) ++ on 1 (943 ∷ []) ++ on 0 (981 ∷ 2634 ∷ []) ++ on 1 (1936 ∷ []) ++ on 0 (2430 ∷ [])) (disks_of disk_many 0 0) ≡ file 512 (piece 0 (hex 19 0xeb7e4c494c4f01004d811e5c01000000ffff03) ∷ piece 24 (hex 15 0x018001002302050001800100100309) ∷ piece 48 (hex 23 0x01810100021402000180010015000d0001800100010306) ∷ piece 96 (hex 1 0x01) ∷ piece 128 (replicate 312 144) ∷ piece 450 (hex 10 0x8100000040000000c00f) ∷ piece 510 (hex 2 0x55aa) ∷ [])) × (map_size (planned (disks_of disk_many) machine_many volume_many conf_r25 1545503053) machine_many ≡ 14)
unfolding number16 number32 is_zero has_ranges has_address is_slot is_one_slot chs_of address_of slot_of some_slot slot_at slot_bytes to_chs to_lba sector_at sectors_of place_at slot_make could_be_one named_device entry_at entries_of table_entries is_link is_plain link_of logical_of listed linked_sector chain_entries chain_tables partitions_of numbered_span span_of disk_name last_partition partition_name device_name devices_of named_devices device_at disk_number device_number kind_of super_of super_checks super_in super_at with_counts super_bytes v1_inode v2_inode inode_of inode_at v1_inode_bytes v2_inode_bytes inode_bytes kept_inode inode_place bit with_bit parts_of volume_at number_in follow pointer_by inside follow_at zone_at block_at content_at entry_of entries_in minixentries_entry_at find_entry entries_at is_dots components child find_path file_block file_at zone_number block content entry first_named lookup reached thing names names_in IsSound child_path path_of link_at section file_content section_bytes is_bootable has_signature has_options has_names has_slots has_no_message has_whole_message has_message has_zeros is_whole timeout_of table_slots boot_of boot_at field_bytes merged_sector is_set entry_name is_printable is_name has_flags has_video has_length has_main has_initrd has_extra is_entry descriptor_of entry_bytes same_name repeats breaks table_at descriptor_bytes options_at extra_at options_bytes extra_bytes is_line line_of line_at line_bytes is_same_line names_of_section names_of_config started menu_decision menu_boot file_of middle_text target_of menu_entries menu_of meant slot_to slots_for chain_for file_slots file_sectors section_sectors_at flags_of descriptor_for plan_entries sectors_of_table sectors_after plan_sectors map_size plan_names plan_boot plan_boot_sector devices_in inode_places mapped_inode file_inode mapped_section code_in planned
plan_by_chance_25 = (refl, refl, refl)

-- by chance 26
pub plan_by_chance_26 : (plan_sectors (planned (disks_of disk_many) machine_many volume_many conf_r26 114615183) machine_many (on 0 (3610 ∷ []) ++ on 1 (497 ∷ 1852 ∷ []) ++ on 0 (626 ∷ []) ++ on 1 (1774 ∷ []) ++ on 0 (2986 ∷ 3181 ∷ 1199 ∷ []) ++ on 1 (1161 ∷ []) ++ on 0 (1004 ∷ 3659 ∷ 1078 ∷ [])) ≡ (file 512 (piece 0 (codes "LINE") ∷ [])) ∷ (file 512 (piece 0 (codes "x2") ∷ piece 16 (hex 51 0x7000050005100000dc05000002800100aa0b000002800100af040000028101008904000001000100028001006d0c000077696e) ∷ piece 80 (hex 6 0x12000000050a) ∷ piece 92 (hex 14 0x02800100ec030000028001003604) ∷ piece 116 (hex 10 0x01000000028001004b0e) ∷ [])) ∷ (file 512 []) ∷ (file 512 []) ∷ (file 512 []) ∷ (file 512 (piece 0 (hex 1 0x04) ∷ piece 8 (codes " x y") ∷ [])) ∷ (file 512 (piece 0 (hex 6 0x020000007832) ∷ [])) ∷ (file 512 (piece 0 (hex 29 0x028004006000000002810100ee06000002810100ee0600000280030064) ∷ [])) ∷ (file 512 (piece 0 (hex 5 0x0280030072) ∷ [])) ∷ (file 512 (piece 0 (hex 1 0x09) ∷ piece 8 (codes " root=301") ∷ [])) ∷ (file 512 (piece 0 (hex 7 0x0300030077696e) ∷ piece 480 (codes "abc") ∷ [])) ∷ (file 512 (piece 0 (hex 29 0x028002006c00000002810100ee06000002810100ee060000028002006e) ∷ [])) ∷ []) × (plan_boot_sector (planned (disks_of disk_many) machine_many volume_many conf_r26 114615183) machine_many (on 0 (3610 ∷ []) ++ on 1 (497 ∷ 1852 ∷ []) ++ on 0 (626 ∷ []) ++ on 1 (1774 ∷ []) ++ on 0 (2986 ∷ 3181 ∷ 1199 ∷ []) ++ on 1 (1161 ∷ []) ++ on 0 (1004 ∷ 3659 ∷ 1078 ∷ [])) (disks_of disk_many 0 0) ≡ file 512 (piece 0 (hex 12 0xeb7e4c494c4f01008fe3d406) ∷ piece 16 (hex 3 0xffff02) ∷ piece 24 (hex 14 0x028001001a0e000002810100ee06) ∷ piece 48 (hex 22 0x02810100f1010000028101003c070000028001007202) ∷ piece 128 (replicate 312 144) ∷ piece 450 (hex 10 0x8100000040000000c00f) ∷ piece 510 (hex 2 0x55aa) ∷ [])) × (map_size (planned (disks_of disk_many) machine_many volume_many conf_r26 114615183) machine_many ≡ 12)
unfolding number16 number32 is_zero has_ranges has_address is_slot is_one_slot chs_of address_of slot_of some_slot slot_at slot_bytes to_chs to_lba sector_at sectors_of place_at slot_make could_be_one named_device entry_at entries_of table_entries is_link is_plain link_of logical_of listed linked_sector chain_entries chain_tables partitions_of numbered_span span_of disk_name last_partition partition_name device_name devices_of named_devices device_at disk_number device_number kind_of super_of super_checks super_in super_at with_counts super_bytes v1_inode v2_inode inode_of inode_at v1_inode_bytes v2_inode_bytes inode_bytes kept_inode inode_place bit with_bit parts_of volume_at number_in follow pointer_by inside follow_at zone_at block_at content_at entry_of entries_in minixentries_entry_at find_entry entries_at is_dots components child find_path file_block file_at zone_number block content entry first_named lookup reached thing names names_in IsSound child_path path_of link_at section file_content section_bytes is_bootable has_signature has_options has_names has_slots has_no_message has_whole_message has_message has_zeros is_whole timeout_of table_slots boot_of boot_at field_bytes merged_sector is_set entry_name is_printable is_name has_flags has_video has_length has_main has_initrd has_extra is_entry descriptor_of entry_bytes same_name repeats breaks table_at descriptor_bytes options_at extra_at options_bytes extra_bytes is_line line_of line_at line_bytes is_same_line names_of_section names_of_config started menu_decision menu_boot file_of middle_text target_of menu_entries menu_of meant slot_to slots_for chain_for file_slots file_sectors section_sectors_at flags_of descriptor_for plan_entries sectors_of_table sectors_after plan_sectors map_size plan_names plan_boot plan_boot_sector devices_in inode_places mapped_inode file_inode mapped_section code_in planned
plan_by_chance_26 = (refl, refl, refl)

-- by chance 27
pub plan_by_chance_27 : (plan_sectors (planned (disks_of disk_many) machine_many volume_many conf_r27 26) machine_many (on 0 (190 ∷ 191 ∷ 192 ∷ 193 ∷ 194 ∷ 195 ∷ 196 ∷ 197 ∷ [])) ≡ (file 512 (piece 0 (codes "LINE") ∷ [])) ∷ (file 512 (piece 0 (codes "win") ∷ piece 16 (hex 6 0x100000000504) ∷ piece 28 (hex 13 0x03800100c300000003800100c5) ∷ piece 52 (hex 9 0x0100000003800100c4) ∷ [])) ∷ (file 512 []) ∷ (file 512 []) ∷ (file 512 []) ∷ (file 512 []) ∷ (file 512 (piece 0 (hex 7 0x0300000077696e) ∷ [])) ∷ (file 512 (piece 0 (hex 5 0x0380030068) ∷ [])) ∷ []) × (plan_boot_sector (planned (disks_of disk_many) machine_many volume_many conf_r27 26) machine_many (on 0 (190 ∷ 191 ∷ 192 ∷ 193 ∷ 194 ∷ 195 ∷ 196 ∷ 197 ∷ [])) (disks_of disk_many 0 0) ≡ file 512 (piece 0 (hex 19 0xeb7e4c494c4f01001a00000001000000ffff01) ∷ piece 24 (hex 13 0x03800100be00000003800100c2) ∷ piece 48 (hex 21 0x03800100bf00000003800100c000000003800100c1) ∷ piece 128 (replicate 312 144) ∷ piece 450 (hex 10 0x8100000040000000c00f) ∷ piece 510 (hex 2 0x55aa) ∷ [])) × (map_size (planned (disks_of disk_many) machine_many volume_many conf_r27 26) machine_many ≡ 8)
unfolding number16 number32 is_zero has_ranges has_address is_slot is_one_slot chs_of address_of slot_of some_slot slot_at slot_bytes to_chs to_lba sector_at sectors_of place_at slot_make could_be_one named_device entry_at entries_of table_entries is_link is_plain link_of logical_of listed linked_sector chain_entries chain_tables partitions_of numbered_span span_of disk_name last_partition partition_name device_name devices_of named_devices device_at disk_number device_number kind_of super_of super_checks super_in super_at with_counts super_bytes v1_inode v2_inode inode_of inode_at v1_inode_bytes v2_inode_bytes inode_bytes kept_inode inode_place bit with_bit parts_of volume_at number_in follow pointer_by inside follow_at zone_at block_at content_at entry_of entries_in minixentries_entry_at find_entry entries_at is_dots components child find_path file_block file_at zone_number block content entry first_named lookup reached thing names names_in IsSound child_path path_of link_at section file_content section_bytes is_bootable has_signature has_options has_names has_slots has_no_message has_whole_message has_message has_zeros is_whole timeout_of table_slots boot_of boot_at field_bytes merged_sector is_set entry_name is_printable is_name has_flags has_video has_length has_main has_initrd has_extra is_entry descriptor_of entry_bytes same_name repeats breaks table_at descriptor_bytes options_at extra_at options_bytes extra_bytes is_line line_of line_at line_bytes is_same_line names_of_section names_of_config started menu_decision menu_boot file_of middle_text target_of menu_entries menu_of meant slot_to slots_for chain_for file_slots file_sectors section_sectors_at flags_of descriptor_for plan_entries sectors_of_table sectors_after plan_sectors map_size plan_names plan_boot plan_boot_sector devices_in inode_places mapped_inode file_inode mapped_section code_in planned
plan_by_chance_27 = (refl, refl, refl)

-- by chance 28
pub plan_by_chance_28 : (plan_sectors (planned (disks_of disk_many) machine_many volume_many conf_r28 3181269657) machine_many (on 0 (2961 ∷ []) ++ on 1 (1666 ∷ []) ++ on 0 (1989 ∷ 3783 ∷ 586 ∷ 230 ∷ 1671 ∷ 3095 ∷ []) ++ on 1 (1362 ∷ []) ++ on 0 (1039 ∷ 1938 ∷ []) ++ on 1 (1654 ∷ []) ++ on 0 (3957 ∷ 2417 ∷ 1494 ∷ [])) ≡ (file 512 (piece 0 (codes "LINE") ∷ [])) ∷ (file 512 (piece 0 (codes "a") ∷ piece 16 (hex 50 0x66000500e8800000dc0500000180010022010a00018101000314000001800100200100000100010001800100090301006132) ∷ piece 80 (hex 50 0x66000500e8800000dc0500000180010022010a00018101000314000001800100200100000100010001800100090301007832) ∷ piece 144 (hex 1 0x81) ∷ piece 149 (hex 1 0x04) ∷ piece 156 (hex 15 0x0180010031010e0001810100061801) ∷ piece 180 (hex 1 0x01) ∷ piece 192 (codes "x22") ∷ piece 208 (hex 1 0x81) ∷ piece 213 (hex 1 0x04) ∷ piece 220 (hex 15 0x0180010031010e0001810100061801) ∷ piece 244 (hex 1 0x01) ∷ piece 256 (codes "old") ∷ piece 272 (hex 1 0x13) ∷ piece 277 (hex 1 0x02) ∷ piece 284 (hex 15 0x0180010034030e00018001002e0107) ∷ piece 308 (hex 16 0x0100000001800100180206006f6c6432) ∷ piece 336 (hex 1 0x13) ∷ piece 341 (hex 1 0x02) ∷ piece 348 (hex 15 0x0180010034030e00018001002e0107) ∷ piece 372 (hex 11 0x0100000001800100180206) ∷ [])) ∷ (file 512 []) ∷ (file 512 []) ∷ (file 512 []) ∷ (file 512 (piece 0 (hex 7 0x018001001c0001) ∷ [])) ∷ (file 512 (piece 0 (hex 1 0x06) ∷ piece 8 (codes " quiet") ∷ [])) ∷ (file 512 (piece 2 (hex 1 0x03) ∷ piece 480 (codes "tux") ∷ [])) ∷ (file 512 (piece 0 (hex 15 0x018008003800010001803900010002) ∷ [])) ∷ (file 512 (piece 0 (hex 7 0x01800300340001) ∷ [])) ∷ (file 512 []) ∷ (file 512 (piece 0 (hex 13 0x018101000d0003000180010001) ∷ [])) ∷ (file 512 []) ∷ (file 512 (piece 0 (hex 8 0x040003006f6c6432) ∷ piece 480 (codes "tux") ∷ [])) ∷ (file 512 (piece 0 (hex 5 0x0181010001) ∷ [])) ∷ []) × (plan_boot_sector (planned (disks_of disk_many) machine_many volume_many conf_r28 3181269657) machine_many (on 0 (2961 ∷ []) ++ on 1 (1666 ∷ []) ++ on 0 (1989 ∷ 3783 ∷ 586 ∷ 230 ∷ 1671 ∷ 3095 ∷ []) ++ on 1 (1362 ∷ []) ++ on 0 (1039 ∷ 1938 ∷ []) ++ on 1 (1654 ∷ []) ++ on 0 (3957 ∷ 2417 ∷ 1494 ∷ [])) (disks_of disk_many 0 0) ≡ file 512 (piece 0 (hex 71 0xeb7e4c494c4f010099529ebd00000300ffff06000c0001000180010001020f000180010014000900018001002a00030001810100011802000180010025010f000180010004030c) ∷ piece 96 (hex 1 0x05) ∷ piece 450 (hex 10 0x8100000040000000c00f) ∷ piece 510 (hex 2 0x55aa) ∷ [])) × (map_size (planned (disks_of disk_many) machine_many volume_many conf_r28 3181269657) machine_many ≡ 15)
unfolding number16 number32 is_zero has_ranges has_address is_slot is_one_slot chs_of address_of slot_of some_slot slot_at slot_bytes to_chs to_lba sector_at sectors_of place_at slot_make could_be_one named_device entry_at entries_of table_entries is_link is_plain link_of logical_of listed linked_sector chain_entries chain_tables partitions_of numbered_span span_of disk_name last_partition partition_name device_name devices_of named_devices device_at disk_number device_number kind_of super_of super_checks super_in super_at with_counts super_bytes v1_inode v2_inode inode_of inode_at v1_inode_bytes v2_inode_bytes inode_bytes kept_inode inode_place bit with_bit parts_of volume_at number_in follow pointer_by inside follow_at zone_at block_at content_at entry_of entries_in minixentries_entry_at find_entry entries_at is_dots components child find_path file_block file_at zone_number block content entry first_named lookup reached thing names names_in IsSound child_path path_of link_at section file_content section_bytes is_bootable has_signature has_options has_names has_slots has_no_message has_whole_message has_message has_zeros is_whole timeout_of table_slots boot_of boot_at field_bytes merged_sector is_set entry_name is_printable is_name has_flags has_video has_length has_main has_initrd has_extra is_entry descriptor_of entry_bytes same_name repeats breaks table_at descriptor_bytes options_at extra_at options_bytes extra_bytes is_line line_of line_at line_bytes is_same_line names_of_section names_of_config started menu_decision menu_boot file_of middle_text target_of menu_entries menu_of meant slot_to slots_for chain_for file_slots file_sectors section_sectors_at flags_of descriptor_for plan_entries sectors_of_table sectors_after plan_sectors map_size plan_names plan_boot plan_boot_sector devices_in inode_places mapped_inode file_inode mapped_section code_in planned
plan_by_chance_28 = (refl, refl, refl)

-- by chance 29
pub plan_by_chance_29 : (plan_sectors (planned (disks_of disk_many) machine_many volume_many conf_r29 2430395144) machine_many (on 0 (726 ∷ []) ++ on 1 (913 ∷ 1948 ∷ []) ++ on 0 (3356 ∷ []) ++ on 1 (1234 ∷ []) ++ on 0 (4006 ∷ 2893 ∷ 892 ∷ []) ++ on 1 (1952 ∷ []) ++ on 0 (230 ∷ []) ++ on 1 (1735 ∷ [])) ≡ (file 512 (piece 0 (codes "LINE") ∷ [])) ∷ (file 512 (piece 0 (codes "x2") ∷ piece 16 (hex 6 0x30000103050a) ∷ piece 28 (hex 15 0x0180010026030f00018001000b000e) ∷ piece 52 (hex 15 0x01000000018001003b020d0077696e) ∷ piece 80 (hex 1 0x8f) ∷ piece 85 (hex 1 0x04) ∷ piece 92 (hex 15 0x018101000f1c020001810100021902) ∷ piece 116 (hex 11 0x01000000018001002a0003) ∷ [])) ∷ (file 512 []) ∷ (file 512 []) ∷ (file 512 []) ∷ (file 512 (piece 0 (hex 1 0x12) ∷ piece 8 (codes " ro root=801 quiet") ∷ [])) ∷ (file 512 (piece 0 (hex 7 0x030000006f6c64) ∷ [])) ∷ (file 512 (piece 0 (hex 31 0x018002002e000100018101000b120000018101000b12000001800200300001) ∷ [])) ∷ (file 512 []) ∷ (file 512 (piece 2 (hex 1 0x03) ∷ piece 480 (codes "abc") ∷ [])) ∷ (file 512 (piece 0 (hex 13 0x01810100010000000180010001) ∷ [])) ∷ []) × (plan_boot_sector (planned (disks_of disk_many) machine_many volume_many conf_r29 2430395144) machine_many (on 0 (726 ∷ []) ++ on 1 (913 ∷ 1948 ∷ []) ++ on 0 (3356 ∷ []) ++ on 1 (1234 ∷ []) ++ on 0 (4006 ∷ 2893 ∷ 892 ∷ []) ++ on 1 (1952 ∷ []) ++ on 0 (230 ∷ []) ++ on 1 (1735 ∷ [])) (disks_of disk_many 0 0) ≡ file 512 (piece 0 (hex 19 0xeb7e4c494c4f010008e3dc9000000300ffff02) ∷ piece 24 (hex 14 0x0180010022000b00018101000b12) ∷ piece 48 (hex 23 0x018101000d0d0100018101000b1c020001800100120305) ∷ piece 128 (replicate 312 144) ∷ piece 450 (hex 10 0x8100000040000000c00f) ∷ piece 510 (hex 2 0x55aa) ∷ [])) × (map_size (planned (disks_of disk_many) machine_many volume_many conf_r29 2430395144) machine_many ≡ 11)
unfolding number16 number32 is_zero has_ranges has_address is_slot is_one_slot chs_of address_of slot_of some_slot slot_at slot_bytes to_chs to_lba sector_at sectors_of place_at slot_make could_be_one named_device entry_at entries_of table_entries is_link is_plain link_of logical_of listed linked_sector chain_entries chain_tables partitions_of numbered_span span_of disk_name last_partition partition_name device_name devices_of named_devices device_at disk_number device_number kind_of super_of super_checks super_in super_at with_counts super_bytes v1_inode v2_inode inode_of inode_at v1_inode_bytes v2_inode_bytes inode_bytes kept_inode inode_place bit with_bit parts_of volume_at number_in follow pointer_by inside follow_at zone_at block_at content_at entry_of entries_in minixentries_entry_at find_entry entries_at is_dots components child find_path file_block file_at zone_number block content entry first_named lookup reached thing names names_in IsSound child_path path_of link_at section file_content section_bytes is_bootable has_signature has_options has_names has_slots has_no_message has_whole_message has_message has_zeros is_whole timeout_of table_slots boot_of boot_at field_bytes merged_sector is_set entry_name is_printable is_name has_flags has_video has_length has_main has_initrd has_extra is_entry descriptor_of entry_bytes same_name repeats breaks table_at descriptor_bytes options_at extra_at options_bytes extra_bytes is_line line_of line_at line_bytes is_same_line names_of_section names_of_config started menu_decision menu_boot file_of middle_text target_of menu_entries menu_of meant slot_to slots_for chain_for file_slots file_sectors section_sectors_at flags_of descriptor_for plan_entries sectors_of_table sectors_after plan_sectors map_size plan_names plan_boot plan_boot_sector devices_in inode_places mapped_inode file_inode mapped_section code_in planned
plan_by_chance_29 = (refl, refl, refl)

-- by chance 30
pub plan_by_chance_30 : (plan_sectors (planned (disks_of disk_many) machine_many volume_many conf_r30 29) machine_many (on 0 (190 ∷ 191 ∷ 192 ∷ 193 ∷ 194 ∷ 195 ∷ 196 ∷ 197 ∷ 198 ∷ 199 ∷ 200 ∷ [])) ≡ (file 512 (piece 0 (codes "LINE") ∷ [])) ∷ (file 512 (piece 0 (codes "linux") ∷ piece 16 (hex 6 0x2000ffff0504) ∷ piece 28 (hex 15 0x018001000700030001800100080003) ∷ piece 52 (hex 1 0x01) ∷ piece 64 (codes "linux2") ∷ piece 80 (hex 6 0x2000ffff0504) ∷ piece 92 (hex 15 0x018001000700030001800100080003) ∷ piece 116 (hex 1 0x01) ∷ piece 128 (codes "x2") ∷ piece 148 (hex 2 0x4006) ∷ piece 156 (hex 15 0x0180010009000300018001000a0003) ∷ piece 180 (hex 1 0x01) ∷ piece 192 (codes "old") ∷ piece 212 (hex 2 0x0510) ∷ piece 220 (hex 15 0x018001000b000300018001000c0003) ∷ piece 244 (hex 1 0x01) ∷ [])) ∷ (file 512 []) ∷ (file 512 []) ∷ (file 512 []) ∷ (file 512 []) ∷ (file 512 (piece 0 (hex 23 0x0180010014000100018001001500010001800100160001) ∷ [])) ∷ (file 512 (piece 0 (hex 1 0x02) ∷ piece 8 (codes " a") ∷ [])) ∷ (file 512 (piece 0 (hex 31 0x018001001e000100018001001f000100018001002000010001800100210001) ∷ [])) ∷ (file 512 (piece 0 (hex 1 0x0c) ∷ piece 8 (codes " ro root=803") ∷ [])) ∷ (file 512 (piece 0 (hex 71 0x0180010022000100018001002300010001800100240001000180010025000100018001000600030001800100060003000180010026000100018001002700010001800100280001) ∷ [])) ∷ []) × (plan_boot_sector (planned (disks_of disk_many) machine_many volume_many conf_r30 29) machine_many (on 0 (190 ∷ 191 ∷ 192 ∷ 193 ∷ 194 ∷ 195 ∷ 196 ∷ 197 ∷ 198 ∷ 199 ∷ 200 ∷ [])) (disks_of disk_many 0 0) ≡ file 512 (piece 0 (hex 9 0xeb7e4c494c4f01001d) ∷ piece 14 (hex 5 0x0100320004) ∷ piece 24 (hex 15 0x018001000200030001800100060003) ∷ piece 48 (hex 23 0x0180010003000300018001000400030001800100050003) ∷ piece 96 (hex 1 0x01) ∷ piece 128 (replicate 312 144) ∷ piece 450 (hex 10 0x8100000040000000c00f) ∷ piece 510 (hex 2 0x55aa) ∷ [])) × (map_size (planned (disks_of disk_many) machine_many volume_many conf_r30 29) machine_many ≡ 11)
unfolding number16 number32 is_zero has_ranges has_address is_slot is_one_slot chs_of address_of slot_of some_slot slot_at slot_bytes to_chs to_lba sector_at sectors_of place_at slot_make could_be_one named_device entry_at entries_of table_entries is_link is_plain link_of logical_of listed linked_sector chain_entries chain_tables partitions_of numbered_span span_of disk_name last_partition partition_name device_name devices_of named_devices device_at disk_number device_number kind_of super_of super_checks super_in super_at with_counts super_bytes v1_inode v2_inode inode_of inode_at v1_inode_bytes v2_inode_bytes inode_bytes kept_inode inode_place bit with_bit parts_of volume_at number_in follow pointer_by inside follow_at zone_at block_at content_at entry_of entries_in minixentries_entry_at find_entry entries_at is_dots components child find_path file_block file_at zone_number block content entry first_named lookup reached thing names names_in IsSound child_path path_of link_at section file_content section_bytes is_bootable has_signature has_options has_names has_slots has_no_message has_whole_message has_message has_zeros is_whole timeout_of table_slots boot_of boot_at field_bytes merged_sector is_set entry_name is_printable is_name has_flags has_video has_length has_main has_initrd has_extra is_entry descriptor_of entry_bytes same_name repeats breaks table_at descriptor_bytes options_at extra_at options_bytes extra_bytes is_line line_of line_at line_bytes is_same_line names_of_section names_of_config started menu_decision menu_boot file_of middle_text target_of menu_entries menu_of meant slot_to slots_for chain_for file_slots file_sectors section_sectors_at flags_of descriptor_for plan_entries sectors_of_table sectors_after plan_sectors map_size plan_names plan_boot plan_boot_sector devices_in inode_places mapped_inode file_inode mapped_section code_in planned
plan_by_chance_30 = (refl, refl, refl)

-- by chance 31
pub plan_by_chance_31 : (plan_sectors (planned (disks_of disk_many) machine_many volume_many conf_r31 2516131631) machine_many (on 0 (190 ∷ 191 ∷ 192 ∷ 193 ∷ 194 ∷ 195 ∷ 196 ∷ 197 ∷ 198 ∷ [])) ≡ (file 512 (piece 0 (codes "LINE") ∷ [])) ∷ (file 512 (piece 0 (codes "old") ∷ piece 20 (hex 2 0x050a) ∷ piece 28 (hex 13 0x03800100c300000003800100c4) ∷ piece 52 (hex 1 0x01) ∷ piece 64 (codes "linux") ∷ piece 84 (hex 2 0x0504) ∷ piece 92 (hex 13 0x03800100c500000003800100c6) ∷ piece 116 (hex 1 0x01) ∷ [])) ∷ (file 512 []) ∷ (file 512 []) ∷ (file 512 []) ∷ (file 512 []) ∷ (file 512 (piece 0 (hex 45 0x038001006c000000038001006d00000003800100c200000003800100c2000000038001006e000000038001006f) ∷ [])) ∷ (file 512 []) ∷ (file 512 (piece 0 (hex 21 0x03800100680000000380010069000000038001006a) ∷ [])) ∷ []) × (plan_boot_sector (planned (disks_of disk_many) machine_many volume_many conf_r31 2516131631) machine_many (on 0 (190 ∷ 191 ∷ 192 ∷ 193 ∷ 194 ∷ 195 ∷ 196 ∷ 197 ∷ 198 ∷ [])) (disks_of disk_many 0 0) ≡ file 512 (piece 0 (hex 12 0xeb7e4c494c4f01002f1ff995) ∷ piece 16 (hex 3 0x580202) ∷ piece 24 (hex 13 0x03800100be00000003800100c2) ∷ piece 48 (hex 21 0x03800100bf00000003800100c000000003800100c1) ∷ piece 128 (replicate 312 144) ∷ piece 450 (hex 10 0x8100000040000000c00f) ∷ piece 510 (hex 2 0x55aa) ∷ [])) × (map_size (planned (disks_of disk_many) machine_many volume_many conf_r31 2516131631) machine_many ≡ 9)
unfolding number16 number32 is_zero has_ranges has_address is_slot is_one_slot chs_of address_of slot_of some_slot slot_at slot_bytes to_chs to_lba sector_at sectors_of place_at slot_make could_be_one named_device entry_at entries_of table_entries is_link is_plain link_of logical_of listed linked_sector chain_entries chain_tables partitions_of numbered_span span_of disk_name last_partition partition_name device_name devices_of named_devices device_at disk_number device_number kind_of super_of super_checks super_in super_at with_counts super_bytes v1_inode v2_inode inode_of inode_at v1_inode_bytes v2_inode_bytes inode_bytes kept_inode inode_place bit with_bit parts_of volume_at number_in follow pointer_by inside follow_at zone_at block_at content_at entry_of entries_in minixentries_entry_at find_entry entries_at is_dots components child find_path file_block file_at zone_number block content entry first_named lookup reached thing names names_in IsSound child_path path_of link_at section file_content section_bytes is_bootable has_signature has_options has_names has_slots has_no_message has_whole_message has_message has_zeros is_whole timeout_of table_slots boot_of boot_at field_bytes merged_sector is_set entry_name is_printable is_name has_flags has_video has_length has_main has_initrd has_extra is_entry descriptor_of entry_bytes same_name repeats breaks table_at descriptor_bytes options_at extra_at options_bytes extra_bytes is_line line_of line_at line_bytes is_same_line names_of_section names_of_config started menu_decision menu_boot file_of middle_text target_of menu_entries menu_of meant slot_to slots_for chain_for file_slots file_sectors section_sectors_at flags_of descriptor_for plan_entries sectors_of_table sectors_after plan_sectors map_size plan_names plan_boot plan_boot_sector devices_in inode_places mapped_inode file_inode mapped_section code_in planned
plan_by_chance_31 = (refl, refl, refl)

-- by chance 32
pub plan_by_chance_32 : (plan_sectors (planned (disks_of disk_many) machine_many volume_many conf_r32 4236863251) machine_many (on 0 (190 ∷ 191 ∷ 192 ∷ 193 ∷ 194 ∷ 195 ∷ 196 ∷ 197 ∷ 198 ∷ 199 ∷ [])) ≡ (file 512 (piece 0 (codes "LINE") ∷ [])) ∷ (file 512 (piece 0 (codes "a") ∷ piece 16 (hex 6 0x080000000510) ∷ piece 28 (hex 15 0x018001000700030001800100080003) ∷ piece 52 (hex 1 0x01) ∷ piece 64 (codes "a2") ∷ piece 80 (hex 6 0x080000000510) ∷ piece 92 (hex 15 0x018001000700030001800100080003) ∷ piece 116 (hex 1 0x01) ∷ piece 128 (codes "x2") ∷ piece 144 (hex 39 0x4000000005100000dc0500000180010009000300018001000a000300018001000b000300010001) ∷ [])) ∷ (file 512 []) ∷ (file 512 []) ∷ (file 512 []) ∷ (file 512 (piece 0 (hex 1 0x09) ∷ piece 8 (codes " root=801") ∷ [])) ∷ (file 512 (piece 0 (hex 31 0x01800400220001000180010006000300018001000600030001800300260001) ∷ [])) ∷ (file 512 (piece 0 (hex 1 0x09) ∷ piece 8 (codes " root=301") ∷ [])) ∷ (file 512 (piece 0 (hex 31 0x01800400220001000180010006000300018001000600030001800300260001) ∷ [])) ∷ (file 512 (piece 0 (hex 7 0x01800300340001) ∷ [])) ∷ []) × (plan_boot_sector (planned (disks_of disk_many) machine_many volume_many conf_r32 4236863251) machine_many (on 0 (190 ∷ 191 ∷ 192 ∷ 193 ∷ 194 ∷ 195 ∷ 196 ∷ 197 ∷ 198 ∷ 199 ∷ [])) (disks_of disk_many 0 0) ≡ file 512 (piece 0 (hex 19 0xeb7e4c494c4f0100136789fc00000100ffff03) ∷ piece 24 (hex 15 0x018001000200030001800100060003) ∷ piece 48 (hex 23 0x0180010003000300018001000400030001800100050003) ∷ piece 128 (replicate 312 144) ∷ piece 450 (hex 10 0x8100000040000000c00f) ∷ piece 510 (hex 2 0x55aa) ∷ [])) × (map_size (planned (disks_of disk_many) machine_many volume_many conf_r32 4236863251) machine_many ≡ 10)
unfolding number16 number32 is_zero has_ranges has_address is_slot is_one_slot chs_of address_of slot_of some_slot slot_at slot_bytes to_chs to_lba sector_at sectors_of place_at slot_make could_be_one named_device entry_at entries_of table_entries is_link is_plain link_of logical_of listed linked_sector chain_entries chain_tables partitions_of numbered_span span_of disk_name last_partition partition_name device_name devices_of named_devices device_at disk_number device_number kind_of super_of super_checks super_in super_at with_counts super_bytes v1_inode v2_inode inode_of inode_at v1_inode_bytes v2_inode_bytes inode_bytes kept_inode inode_place bit with_bit parts_of volume_at number_in follow pointer_by inside follow_at zone_at block_at content_at entry_of entries_in minixentries_entry_at find_entry entries_at is_dots components child find_path file_block file_at zone_number block content entry first_named lookup reached thing names names_in IsSound child_path path_of link_at section file_content section_bytes is_bootable has_signature has_options has_names has_slots has_no_message has_whole_message has_message has_zeros is_whole timeout_of table_slots boot_of boot_at field_bytes merged_sector is_set entry_name is_printable is_name has_flags has_video has_length has_main has_initrd has_extra is_entry descriptor_of entry_bytes same_name repeats breaks table_at descriptor_bytes options_at extra_at options_bytes extra_bytes is_line line_of line_at line_bytes is_same_line names_of_section names_of_config started menu_decision menu_boot file_of middle_text target_of menu_entries menu_of meant slot_to slots_for chain_for file_slots file_sectors section_sectors_at flags_of descriptor_for plan_entries sectors_of_table sectors_after plan_sectors map_size plan_names plan_boot plan_boot_sector devices_in inode_places mapped_inode file_inode mapped_section code_in planned
plan_by_chance_32 = (refl, refl, refl)

-- Cases of the model, written by tools/plan_cases.py: the sectors of planned maps, and their boot sectors.
use Rattle.std.proofs.Common.{◌≡◌, ◌∷◌, ◌++◌, [], codes, replicate, refl}
use Rattle.lilo_model.specs.BootSector.{is_bootable, has_signature, has_options, has_names, has_slots, has_no_message, has_whole_message, has_message, has_zeros, is_whole, timeout_of, table_slots, boot_of, boot_at, field_bytes, merged_sector}
use Rattle.lilo_model.specs.Bytes.{number16, number32, is_zero}
use Rattle.lilo_model.specs.ConfLawful.{names_of_section, names_of_config}
use Rattle.lilo_model.specs.Devices.{disk_name, last_partition, partition_name, device_name, devices_of, named_devices, device_at, disk_number, device_number}
use Rattle.lilo_model.specs.LineSector.{is_line, line_of, line_at, line_bytes, is_same_line}
use Rattle.lilo_model.specs.Meant.{started, menu_decision, menu_boot, file_of, middle_text, target_of, menu_entries, menu_of, meant}
use Rattle.lilo_model.specs.MinixEntries.{entry_of, entries_in, entry_at as minixentries_entry_at, find_entry, entries_at, is_dots}
use Rattle.lilo_model.specs.MinixFind.{components, child, find_path, file_block, file_at}
use Rattle.lilo_model.specs.MinixFindNames.{child_path, path_of}
use Rattle.lilo_model.specs.MinixLayout.{kind_of, super_of, super_checks, super_in, super_at, with_counts, super_bytes, v1_inode, v2_inode, inode_of, inode_at, v1_inode_bytes, v2_inode_bytes, inode_bytes, kept_inode, inode_place}
use Rattle.lilo_model.specs.MinixNames.{zone_number, block, content, entry, first_named, lookup, reached, thing, names, names_in, IsSound}
use Rattle.lilo_model.specs.MinixParts.{bit, with_bit, parts_of, volume_at, number_in, follow, pointer_by, inside, follow_at, zone_at, block_at, content_at}
use Rattle.lilo_model.specs.Options.{options_at, extra_at, options_bytes, extra_bytes}
use Rattle.lilo_model.specs.Partitions.{named_device, entry_at, entries_of, table_entries, is_link, is_plain, link_of, logical_of, listed, linked_sector, chain_entries, chain_tables, partitions_of, numbered_span, span_of}
use Rattle.lilo_model.specs.Plan.{slot_to, slots_for, chain_for, file_slots, file_sectors, section_sectors_at, flags_of, descriptor_for, plan_entries, sectors_of_table, sectors_after, plan_sectors, map_size, plan_names, plan_boot, plan_boot_sector}
use Rattle.lilo_model.specs.Planned.{devices_in, inode_places, mapped_inode, file_inode, mapped_section, code_in, planned}
use Rattle.lilo_model.specs.Section.{link_at, section, file_content, section_bytes}
use Rattle.lilo_model.specs.Slots.{has_ranges, has_address, is_slot, is_one_slot, chs_of, address_of, slot_of, some_slot, slot_at, slot_bytes, to_chs, to_lba, sector_at, sectors_of, place_at, slot_make, could_be_one}
use Rattle.lilo_model.specs.Table.{is_set, entry_name, is_printable, is_name, has_flags, has_video, has_length, has_main, has_initrd, has_extra, is_entry, descriptor_of, entry_bytes, same_name, repeats, breaks, table_at, descriptor_bytes}
use Rattle.model_cases.specs.Sparse.{hex, piece, file, disks_of, on}
use Rattle.model_cases.specs.PlanChanceConfs1.{conf_r17, conf_r18, conf_r19, conf_r20, conf_r21, conf_r22, conf_r23, conf_r24}
use Rattle.model_cases.specs.PlanDisks.{disk_many}
use Rattle.model_cases.specs.PlanVolumes.{machine_many, volume_many}

-- by chance 17
pub plan_by_chance_17 : (plan_sectors (planned (disks_of disk_many) machine_many volume_many conf_r17 1150810787) machine_many (on 0 (3862 ∷ []) ++ on 1 (960 ∷ []) ++ on 0 (888 ∷ 3266 ∷ 385 ∷ 2574 ∷ []) ++ on 1 (1482 ∷ []) ++ on 0 (3654 ∷ 2755 ∷ 3384 ∷ [])) ≡ (file 512 (piece 0 (codes "LINE") ∷ [])) ∷ (file 512 (piece 0 (codes "a") ∷ piece 20 (hex 2 0x0504) ∷ piece 28 (hex 14 0x028001000e0a000002810100ca05) ∷ piece 52 (hex 1 0x01) ∷ piece 64 (codes "win") ∷ piece 80 (hex 6 0x100000000510) ∷ piece 92 (hex 14 0x02800100460e000002800100380d) ∷ piece 116 (hex 16 0x0100000002800100c30a000077696e32) ∷ piece 144 (hex 6 0x100000000510) ∷ piece 156 (hex 14 0x02800100460e000002800100380d) ∷ piece 180 (hex 10 0x0100000002800100c30a) ∷ [])) ∷ (file 512 []) ∷ (file 512 []) ∷ (file 512 []) ∷ (file 512 (piece 0 (hex 1 0x07) ∷ piece 8 (codes " single") ∷ [])) ∷ (file 512 (piece 0 (hex 5 0x0280030068) ∷ [])) ∷ (file 512 []) ∷ (file 512 (piece 0 (hex 7 0x0300000077696e) ∷ [])) ∷ (file 512 (piece 0 (hex 29 0x0280040060000000028001008101000002800100810100000280030064) ∷ [])) ∷ []) × (plan_boot_sector (planned (disks_of disk_many) machine_many volume_many conf_r17 1150810787) machine_many (on 0 (3862 ∷ []) ++ on 1 (960 ∷ []) ++ on 0 (888 ∷ 3266 ∷ 385 ∷ 2574 ∷ []) ++ on 1 (1482 ∷ []) ++ on 0 (3654 ∷ 2755 ∷ 3384 ∷ [])) (disks_of disk_many 0 0) ≡ file 512 (piece 0 (hex 12 0xeb7e4c494c4f0100a3fa9744) ∷ piece 16 (hex 3 0xffff03) ∷ piece 24 (hex 14 0x02800100160f0000028001008101) ∷ piece 48 (hex 22 0x02810100c0030000028001007803000002800100c20c) ∷ piece 450 (hex 10 0x8100000040000000c00f) ∷ piece 510 (hex 2 0x55aa) ∷ [])) × (map_size (planned (disks_of disk_many) machine_many volume_many conf_r17 1150810787) machine_many ≡ 10)
unfolding number16 number32 is_zero has_ranges has_address is_slot is_one_slot chs_of address_of slot_of some_slot slot_at slot_bytes to_chs to_lba sector_at sectors_of place_at slot_make could_be_one named_device entry_at entries_of table_entries is_link is_plain link_of logical_of listed linked_sector chain_entries chain_tables partitions_of numbered_span span_of disk_name last_partition partition_name device_name devices_of named_devices device_at disk_number device_number kind_of super_of super_checks super_in super_at with_counts super_bytes v1_inode v2_inode inode_of inode_at v1_inode_bytes v2_inode_bytes inode_bytes kept_inode inode_place bit with_bit parts_of volume_at number_in follow pointer_by inside follow_at zone_at block_at content_at entry_of entries_in minixentries_entry_at find_entry entries_at is_dots components child find_path file_block file_at zone_number block content entry first_named lookup reached thing names names_in IsSound child_path path_of link_at section file_content section_bytes is_bootable has_signature has_options has_names has_slots has_no_message has_whole_message has_message has_zeros is_whole timeout_of table_slots boot_of boot_at field_bytes merged_sector is_set entry_name is_printable is_name has_flags has_video has_length has_main has_initrd has_extra is_entry descriptor_of entry_bytes same_name repeats breaks table_at descriptor_bytes options_at extra_at options_bytes extra_bytes is_line line_of line_at line_bytes is_same_line names_of_section names_of_config started menu_decision menu_boot file_of middle_text target_of menu_entries menu_of meant slot_to slots_for chain_for file_slots file_sectors section_sectors_at flags_of descriptor_for plan_entries sectors_of_table sectors_after plan_sectors map_size plan_names plan_boot plan_boot_sector devices_in inode_places mapped_inode file_inode mapped_section code_in planned
plan_by_chance_17 = (refl, refl, refl)

-- by chance 18
pub plan_by_chance_18 : (plan_sectors (planned (disks_of disk_many) machine_many volume_many conf_r18 17) machine_many (on 0 (190 ∷ 191 ∷ 192 ∷ 193 ∷ 194 ∷ 195 ∷ 196 ∷ 197 ∷ 198 ∷ 199 ∷ [])) ≡ (file 512 (piece 0 (codes "LINE") ∷ [])) ∷ (file 512 (piece 0 (codes "old") ∷ piece 20 (hex 2 0x0504) ∷ piece 28 (hex 15 0x018001000800030001800100090003) ∷ piece 52 (hex 1 0x01) ∷ piece 64 (codes "x2") ∷ piece 84 (hex 2 0x050a) ∷ piece 92 (hex 15 0x018001000a000300018001000b0003) ∷ piece 116 (hex 1 0x01) ∷ [])) ∷ (file 512 []) ∷ (file 512 []) ∷ (file 512 []) ∷ (file 512 (piece 0 (hex 7 0x018001001c0001) ∷ [])) ∷ (file 512 (piece 0 (hex 1 0x03) ∷ piece 8 (codes " ro") ∷ [])) ∷ (file 512 (piece 0 (hex 7 0x018003002a0001) ∷ [])) ∷ (file 512 []) ∷ (file 512 (piece 0 (hex 31 0x018002002e0001000180010006000300018001000600030001800200300001) ∷ [])) ∷ []) × (plan_boot_sector (planned (disks_of disk_many) machine_many volume_many conf_r18 17) machine_many (on 0 (190 ∷ 191 ∷ 192 ∷ 193 ∷ 194 ∷ 195 ∷ 196 ∷ 197 ∷ 198 ∷ 199 ∷ [])) (disks_of disk_many 0 0) ≡ file 512 (piece 0 (hex 9 0xeb7e4c494c4f010011) ∷ piece 16 (hex 55 0x010002000c0001000180010002000300018001000600030001800100070003000180010003000300018001000400030001800100050003) ∷ piece 128 (replicate 312 144) ∷ piece 450 (hex 10 0x8100000040000000c00f) ∷ piece 510 (hex 2 0x55aa) ∷ [])) × (map_size (planned (disks_of disk_many) machine_many volume_many conf_r18 17) machine_many ≡ 10)
unfolding number16 number32 is_zero has_ranges has_address is_slot is_one_slot chs_of address_of slot_of some_slot slot_at slot_bytes to_chs to_lba sector_at sectors_of place_at slot_make could_be_one named_device entry_at entries_of table_entries is_link is_plain link_of logical_of listed linked_sector chain_entries chain_tables partitions_of numbered_span span_of disk_name last_partition partition_name device_name devices_of named_devices device_at disk_number device_number kind_of super_of super_checks super_in super_at with_counts super_bytes v1_inode v2_inode inode_of inode_at v1_inode_bytes v2_inode_bytes inode_bytes kept_inode inode_place bit with_bit parts_of volume_at number_in follow pointer_by inside follow_at zone_at block_at content_at entry_of entries_in minixentries_entry_at find_entry entries_at is_dots components child find_path file_block file_at zone_number block content entry first_named lookup reached thing names names_in IsSound child_path path_of link_at section file_content section_bytes is_bootable has_signature has_options has_names has_slots has_no_message has_whole_message has_message has_zeros is_whole timeout_of table_slots boot_of boot_at field_bytes merged_sector is_set entry_name is_printable is_name has_flags has_video has_length has_main has_initrd has_extra is_entry descriptor_of entry_bytes same_name repeats breaks table_at descriptor_bytes options_at extra_at options_bytes extra_bytes is_line line_of line_at line_bytes is_same_line names_of_section names_of_config started menu_decision menu_boot file_of middle_text target_of menu_entries menu_of meant slot_to slots_for chain_for file_slots file_sectors section_sectors_at flags_of descriptor_for plan_entries sectors_of_table sectors_after plan_sectors map_size plan_names plan_boot plan_boot_sector devices_in inode_places mapped_inode file_inode mapped_section code_in planned
plan_by_chance_18 = (refl, refl, refl)

-- by chance 19
pub plan_by_chance_19 : (plan_sectors (planned (disks_of disk_many) machine_many volume_many conf_r19 776832616) machine_many (on 0 (190 ∷ 191 ∷ 192 ∷ 193 ∷ 194 ∷ 195 ∷ 196 ∷ 197 ∷ [])) ≡ (file 512 (piece 0 (codes "LINE") ∷ [])) ∷ (file 512 (piece 0 (codes "x2") ∷ piece 16 (hex 1 0x91) ∷ piece 21 (hex 1 0x04) ∷ piece 28 (hex 15 0x018001000700030001800100090003) ∷ piece 52 (hex 11 0x0100000001800100080003) ∷ [])) ∷ (file 512 []) ∷ (file 512 []) ∷ (file 512 []) ∷ (file 512 []) ∷ (file 512 (piece 0 (hex 6 0x020000007832) ∷ [])) ∷ (file 512 (piece 0 (hex 13 0x018101000d0003000181010001) ∷ [])) ∷ []) × (plan_boot_sector (planned (disks_of disk_many) machine_many volume_many conf_r19 776832616) machine_many (on 0 (190 ∷ 191 ∷ 192 ∷ 193 ∷ 194 ∷ 195 ∷ 196 ∷ 197 ∷ [])) (disks_of disk_many 0 0) ≡ file 512 (piece 0 (hex 19 0xeb7e4c494c4f010068864d2e01000000ffff01) ∷ piece 24 (hex 15 0x018001000200030001800100060003) ∷ piece 48 (hex 23 0x0180010003000300018001000400030001800100050003) ∷ piece 128 (replicate 312 144) ∷ piece 450 (hex 10 0x8100000040000000c00f) ∷ piece 510 (hex 2 0x55aa) ∷ [])) × (map_size (planned (disks_of disk_many) machine_many volume_many conf_r19 776832616) machine_many ≡ 8)
unfolding number16 number32 is_zero has_ranges has_address is_slot is_one_slot chs_of address_of slot_of some_slot slot_at slot_bytes to_chs to_lba sector_at sectors_of place_at slot_make could_be_one named_device entry_at entries_of table_entries is_link is_plain link_of logical_of listed linked_sector chain_entries chain_tables partitions_of numbered_span span_of disk_name last_partition partition_name device_name devices_of named_devices device_at disk_number device_number kind_of super_of super_checks super_in super_at with_counts super_bytes v1_inode v2_inode inode_of inode_at v1_inode_bytes v2_inode_bytes inode_bytes kept_inode inode_place bit with_bit parts_of volume_at number_in follow pointer_by inside follow_at zone_at block_at content_at entry_of entries_in minixentries_entry_at find_entry entries_at is_dots components child find_path file_block file_at zone_number block content entry first_named lookup reached thing names names_in IsSound child_path path_of link_at section file_content section_bytes is_bootable has_signature has_options has_names has_slots has_no_message has_whole_message has_message has_zeros is_whole timeout_of table_slots boot_of boot_at field_bytes merged_sector is_set entry_name is_printable is_name has_flags has_video has_length has_main has_initrd has_extra is_entry descriptor_of entry_bytes same_name repeats breaks table_at descriptor_bytes options_at extra_at options_bytes extra_bytes is_line line_of line_at line_bytes is_same_line names_of_section names_of_config started menu_decision menu_boot file_of middle_text target_of menu_entries menu_of meant slot_to slots_for chain_for file_slots file_sectors section_sectors_at flags_of descriptor_for plan_entries sectors_of_table sectors_after plan_sectors map_size plan_names plan_boot plan_boot_sector devices_in inode_places mapped_inode file_inode mapped_section code_in planned
plan_by_chance_19 = (refl, refl, refl)

-- by chance 20
pub plan_by_chance_20 : (plan_sectors (planned (disks_of disk_many) machine_many volume_many conf_r20 1659841598) machine_many (on 0 (1995 ∷ 3761 ∷ 1216 ∷ 3502 ∷ 1125 ∷ 3131 ∷ 3777 ∷ 601 ∷ 3257 ∷ 662 ∷ 2837 ∷ [])) ≡ (file 512 (piece 0 (codes "LINE") ∷ [])) ∷ (file 512 (piece 0 (codes "x2") ∷ piece 16 (hex 51 0x62000500050a0000bc020000018001002d0301000180010023000900018001002d03030001000100018001003d030b0077696e) ∷ piece 80 (hex 1 0x09) ∷ piece 85 (hex 1 0x02) ∷ piece 92 (hex 15 0x0180010021000a000180010003020d) ∷ piece 116 (hex 1 0x01) ∷ piece 128 (codes "win2") ∷ piece 144 (hex 1 0x09) ∷ piece 149 (hex 1 0x02) ∷ piece 156 (hex 15 0x0180010021000a000180010003020d) ∷ piece 180 (hex 1 0x01) ∷ [])) ∷ (file 512 []) ∷ (file 512 []) ∷ (file 512 []) ∷ (file 512 []) ∷ (file 512 (piece 2 (hex 1 0x03) ∷ piece 480 (codes "abc") ∷ [])) ∷ (file 512 (piece 0 (hex 31 0x018002002e0001000180010037010100018001003701010001800200300001) ∷ [])) ∷ (file 512 (piece 0 (hex 7 0x01800200180001) ∷ [])) ∷ (file 512 []) ∷ (file 512 (piece 0 (hex 7 0x018101000d0003) ∷ [])) ∷ []) × (plan_boot_sector (planned (disks_of disk_many) machine_many volume_many conf_r20 1659841598) machine_many (on 0 (1995 ∷ 3761 ∷ 1216 ∷ 3502 ∷ 1125 ∷ 3131 ∷ 3777 ∷ 601 ∷ 3257 ∷ 662 ∷ 2837 ∷ [])) (disks_of disk_many 0 0) ≡ file 512 (piece 0 (hex 19 0xeb7e4c494c4f01003e2cef6201001400ffff03) ∷ piece 24 (hex 15 0x018001002b010f0001800100370101) ∷ piece 48 (hex 23 0x018001002d030b00018001001401030001800100260307) ∷ piece 128 (replicate 312 144) ∷ piece 450 (hex 10 0x8100000040000000c00f) ∷ piece 510 (hex 2 0x55aa) ∷ [])) × (map_size (planned (disks_of disk_many) machine_many volume_many conf_r20 1659841598) machine_many ≡ 11)
unfolding number16 number32 is_zero has_ranges has_address is_slot is_one_slot chs_of address_of slot_of some_slot slot_at slot_bytes to_chs to_lba sector_at sectors_of place_at slot_make could_be_one named_device entry_at entries_of table_entries is_link is_plain link_of logical_of listed linked_sector chain_entries chain_tables partitions_of numbered_span span_of disk_name last_partition partition_name device_name devices_of named_devices device_at disk_number device_number kind_of super_of super_checks super_in super_at with_counts super_bytes v1_inode v2_inode inode_of inode_at v1_inode_bytes v2_inode_bytes inode_bytes kept_inode inode_place bit with_bit parts_of volume_at number_in follow pointer_by inside follow_at zone_at block_at content_at entry_of entries_in minixentries_entry_at find_entry entries_at is_dots components child find_path file_block file_at zone_number block content entry first_named lookup reached thing names names_in IsSound child_path path_of link_at section file_content section_bytes is_bootable has_signature has_options has_names has_slots has_no_message has_whole_message has_message has_zeros is_whole timeout_of table_slots boot_of boot_at field_bytes merged_sector is_set entry_name is_printable is_name has_flags has_video has_length has_main has_initrd has_extra is_entry descriptor_of entry_bytes same_name repeats breaks table_at descriptor_bytes options_at extra_at options_bytes extra_bytes is_line line_of line_at line_bytes is_same_line names_of_section names_of_config started menu_decision menu_boot file_of middle_text target_of menu_entries menu_of meant slot_to slots_for chain_for file_slots file_sectors section_sectors_at flags_of descriptor_for plan_entries sectors_of_table sectors_after plan_sectors map_size plan_names plan_boot plan_boot_sector devices_in inode_places mapped_inode file_inode mapped_section code_in planned
plan_by_chance_20 = (refl, refl, refl)

-- by chance 21
pub plan_by_chance_21 : (plan_sectors (planned (disks_of disk_many) machine_many volume_many conf_r21 20) machine_many (on 0 (190 ∷ 191 ∷ 192 ∷ 193 ∷ 194 ∷ 195 ∷ 196 ∷ 197 ∷ 198 ∷ 199 ∷ 200 ∷ [])) ≡ (file 512 (piece 0 (codes "LINE") ∷ [])) ∷ (file 512 (piece 0 (codes "x2") ∷ piece 16 (hex 6 0x220005004006) ∷ piece 28 (hex 13 0x02800100c300000002800100c5) ∷ piece 52 (hex 15 0x0100000002800100c40000006f6c64) ∷ piece 80 (hex 6 0x060000000504) ∷ piece 92 (hex 13 0x02800100c600000002800100c8) ∷ piece 116 (hex 9 0x0100000002800100c7) ∷ [])) ∷ (file 512 []) ∷ (file 512 []) ∷ (file 512 []) ∷ (file 512 (piece 0 (hex 1 0x0f) ∷ piece 8 (codes " root=301 quiet") ∷ [])) ∷ (file 512 (piece 2 (hex 1 0x03) ∷ piece 480 (codes "abc") ∷ [])) ∷ (file 512 (piece 0 (hex 29 0x028001005c000000028001005d000000028001005e000000028001005f) ∷ [])) ∷ (file 512 (piece 0 (hex 1 0x09) ∷ piece 8 (codes " root=301") ∷ [])) ∷ (file 512 (piece 2 (hex 1 0x03) ∷ piece 480 (codes "tux") ∷ [])) ∷ (file 512 (piece 0 (hex 21 0x02800100680000000280010069000000028001006a) ∷ [])) ∷ []) × (plan_boot_sector (planned (disks_of disk_many) machine_many volume_many conf_r21 20) machine_many (on 0 (190 ∷ 191 ∷ 192 ∷ 193 ∷ 194 ∷ 195 ∷ 196 ∷ 197 ∷ 198 ∷ 199 ∷ 200 ∷ [])) (disks_of disk_many 0 0) ≡ file 512 (piece 0 (hex 19 0xeb7e4c494c4f01001400000001000000ffff02) ∷ piece 24 (hex 13 0x02800100be00000002800100c2) ∷ piece 48 (hex 21 0x02800100bf00000002800100c000000002800100c1) ∷ piece 128 (replicate 312 144) ∷ piece 450 (hex 10 0x8100000040000000c00f) ∷ piece 510 (hex 2 0x55aa) ∷ [])) × (map_size (planned (disks_of disk_many) machine_many volume_many conf_r21 20) machine_many ≡ 11)
unfolding number16 number32 is_zero has_ranges has_address is_slot is_one_slot chs_of address_of slot_of some_slot slot_at slot_bytes to_chs to_lba sector_at sectors_of place_at slot_make could_be_one named_device entry_at entries_of table_entries is_link is_plain link_of logical_of listed linked_sector chain_entries chain_tables partitions_of numbered_span span_of disk_name last_partition partition_name device_name devices_of named_devices device_at disk_number device_number kind_of super_of super_checks super_in super_at with_counts super_bytes v1_inode v2_inode inode_of inode_at v1_inode_bytes v2_inode_bytes inode_bytes kept_inode inode_place bit with_bit parts_of volume_at number_in follow pointer_by inside follow_at zone_at block_at content_at entry_of entries_in minixentries_entry_at find_entry entries_at is_dots components child find_path file_block file_at zone_number block content entry first_named lookup reached thing names names_in IsSound child_path path_of link_at section file_content section_bytes is_bootable has_signature has_options has_names has_slots has_no_message has_whole_message has_message has_zeros is_whole timeout_of table_slots boot_of boot_at field_bytes merged_sector is_set entry_name is_printable is_name has_flags has_video has_length has_main has_initrd has_extra is_entry descriptor_of entry_bytes same_name repeats breaks table_at descriptor_bytes options_at extra_at options_bytes extra_bytes is_line line_of line_at line_bytes is_same_line names_of_section names_of_config started menu_decision menu_boot file_of middle_text target_of menu_entries menu_of meant slot_to slots_for chain_for file_slots file_sectors section_sectors_at flags_of descriptor_for plan_entries sectors_of_table sectors_after plan_sectors map_size plan_names plan_boot plan_boot_sector devices_in inode_places mapped_inode file_inode mapped_section code_in planned
plan_by_chance_21 = (refl, refl, refl)

-- by chance 22
pub plan_by_chance_22 : (plan_sectors (planned (disks_of disk_many) machine_many volume_many conf_r22 2679861980) machine_many (on 0 (190 ∷ 191 ∷ 192 ∷ 193 ∷ 194 ∷ 195 ∷ 196 ∷ 197 ∷ 198 ∷ 199 ∷ 200 ∷ 201 ∷ [])) ≡ (file 512 (piece 0 (codes "LINE") ∷ [])) ∷ (file 512 (piece 0 (codes "x2") ∷ piece 16 (hex 39 0x4000000005040000bc02000002800100c300000002800100c400000002800100c5000000010001) ∷ piece 64 (codes "win") ∷ piece 80 (hex 1 0x81) ∷ piece 85 (hex 1 0x04) ∷ piece 92 (hex 13 0x02800100c600000002800100c7) ∷ piece 116 (hex 1 0x01) ∷ piece 128 (codes "linux") ∷ piece 144 (hex 6 0x2000fdff0504) ∷ piece 156 (hex 13 0x02800100c800000002800100c9) ∷ piece 180 (hex 1 0x01) ∷ [])) ∷ (file 512 []) ∷ (file 512 []) ∷ (file 512 []) ∷ (file 512 []) ∷ (file 512 (piece 0 (hex 5 0x0280030052) ∷ [])) ∷ (file 512 (piece 0 (hex 5 0x0280020056) ∷ [])) ∷ (file 512 []) ∷ (file 512 (piece 0 (hex 3 0x028101) ∷ piece 8 (hex 3 0x028101) ∷ [])) ∷ (file 512 (piece 0 (hex 1 0x04) ∷ piece 8 (codes " x y") ∷ [])) ∷ (file 512 (piece 0 (hex 5 0x0280030052) ∷ [])) ∷ []) × (plan_boot_sector (planned (disks_of disk_many) machine_many volume_many conf_r22 2679861980) machine_many (on 0 (190 ∷ 191 ∷ 192 ∷ 193 ∷ 194 ∷ 195 ∷ 196 ∷ 197 ∷ 198 ∷ 199 ∷ 200 ∷ 201 ∷ [])) (disks_of disk_many 0 0) ≡ file 512 (piece 0 (hex 19 0xeb7e4c494c4f0100dc72bb9f01001400580203) ∷ piece 24 (hex 13 0x02800100be00000002800100c2) ∷ piece 48 (hex 21 0x02800100bf00000002800100c000000002800100c1) ∷ piece 128 (replicate 312 144) ∷ piece 450 (hex 10 0x8100000040000000c00f) ∷ piece 510 (hex 2 0x55aa) ∷ [])) × (map_size (planned (disks_of disk_many) machine_many volume_many conf_r22 2679861980) machine_many ≡ 12)
unfolding number16 number32 is_zero has_ranges has_address is_slot is_one_slot chs_of address_of slot_of some_slot slot_at slot_bytes to_chs to_lba sector_at sectors_of place_at slot_make could_be_one named_device entry_at entries_of table_entries is_link is_plain link_of logical_of listed linked_sector chain_entries chain_tables partitions_of numbered_span span_of disk_name last_partition partition_name device_name devices_of named_devices device_at disk_number device_number kind_of super_of super_checks super_in super_at with_counts super_bytes v1_inode v2_inode inode_of inode_at v1_inode_bytes v2_inode_bytes inode_bytes kept_inode inode_place bit with_bit parts_of volume_at number_in follow pointer_by inside follow_at zone_at block_at content_at entry_of entries_in minixentries_entry_at find_entry entries_at is_dots components child find_path file_block file_at zone_number block content entry first_named lookup reached thing names names_in IsSound child_path path_of link_at section file_content section_bytes is_bootable has_signature has_options has_names has_slots has_no_message has_whole_message has_message has_zeros is_whole timeout_of table_slots boot_of boot_at field_bytes merged_sector is_set entry_name is_printable is_name has_flags has_video has_length has_main has_initrd has_extra is_entry descriptor_of entry_bytes same_name repeats breaks table_at descriptor_bytes options_at extra_at options_bytes extra_bytes is_line line_of line_at line_bytes is_same_line names_of_section names_of_config started menu_decision menu_boot file_of middle_text target_of menu_entries menu_of meant slot_to slots_for chain_for file_slots file_sectors section_sectors_at flags_of descriptor_for plan_entries sectors_of_table sectors_after plan_sectors map_size plan_names plan_boot plan_boot_sector devices_in inode_places mapped_inode file_inode mapped_section code_in planned
plan_by_chance_22 = (refl, refl, refl)

-- by chance 23
pub plan_by_chance_23 : (plan_sectors (planned (disks_of disk_many) machine_many volume_many conf_r23 3060127365) machine_many (on 0 (190 ∷ 191 ∷ 192 ∷ 193 ∷ 194 ∷ 195 ∷ 196 ∷ 197 ∷ 198 ∷ 199 ∷ 200 ∷ 201 ∷ 202 ∷ [])) ≡ (file 512 (piece 0 (codes "LINE") ∷ [])) ∷ (file 512 (piece 0 (codes "linux") ∷ piece 16 (hex 51 0x4a000000e8800000dc05000003800100c300000003800100c500000003800100c70000000200010003800100c400000077696e) ∷ piece 80 (hex 39 0x4000000005100000bc02000003800100c800000003800100c900000003800100ca000000010001) ∷ [])) ∷ (file 512 []) ∷ (file 512 []) ∷ (file 512 []) ∷ (file 512 []) ∷ (file 512 (piece 2 (hex 1 0x03) ∷ piece 480 (codes "tux") ∷ [])) ∷ (file 512 (piece 0 (hex 509 0x0380010076000000038001007700000003800100780000000380010079000000038001007a000000038001007b000000038001007c000000038001007d000000038001007e000000038001007f0000000380010080000000038001008100000003800100820000000380010083000000038001008400000003800100850000000380010086000000038001008700000003800100880000000380010089000000038001008a000000038001008b000000038001008c000000038001008d000000038001008e000000038001008f0000000380010090000000038001009100000003800100920000000380010093000000038001009400000003800100950000000380010096000000038001009700000003800100980000000380010099000000038001009a000000038001009b000000038001009c000000038001009d000000038001009e000000038001009f00000003800100a000000003800100a100000003800100a200000003800100a300000003800100a400000003800100a500000003800100a600000003800100a700000003800100a800000003800100a900000003800100aa00000003800100ab00000003800100ac00000003800100ad00000003800100ae00000003800100af00000003800100b000000003800100b100000003800100b200000003800100b300000003800100b400000003800100c6) ∷ [])) ∷ (file 512 (piece 0 (hex 13 0x03800100b500000003800100b6) ∷ [])) ∷ (file 512 (piece 0 (hex 21 0x038001007200000003800100730000000380010074) ∷ [])) ∷ (file 512 (piece 0 (hex 1 0x0e) ∷ piece 8 (codes " ro root=803 a") ∷ [])) ∷ (file 512 (piece 0 (hex 69 0x038001006000000003800100610000000380010062000000038001006300000003800100c200000003800100c2000000038001006400000003800100650000000380010066) ∷ [])) ∷ (file 512 (piece 0 (hex 13 0x03800100560000000380010057) ∷ [])) ∷ []) × (plan_boot_sector (planned (disks_of disk_many) machine_many volume_many conf_r23 3060127365) machine_many (on 0 (190 ∷ 191 ∷ 192 ∷ 193 ∷ 194 ∷ 195 ∷ 196 ∷ 197 ∷ 198 ∷ 199 ∷ 200 ∷ 201 ∷ 202 ∷ [])) (disks_of disk_many 0 0) ≡ file 512 (piece 0 (hex 19 0xeb7e4c494c4f010085d665b600000100ffff02) ∷ piece 24 (hex 13 0x03800100be00000003800100c2) ∷ piece 48 (hex 21 0x03800100bf00000003800100c000000003800100c1) ∷ piece 450 (hex 10 0x8100000040000000c00f) ∷ piece 510 (hex 2 0x55aa) ∷ [])) × (map_size (planned (disks_of disk_many) machine_many volume_many conf_r23 3060127365) machine_many ≡ 13)
unfolding number16 number32 is_zero has_ranges has_address is_slot is_one_slot chs_of address_of slot_of some_slot slot_at slot_bytes to_chs to_lba sector_at sectors_of place_at slot_make could_be_one named_device entry_at entries_of table_entries is_link is_plain link_of logical_of listed linked_sector chain_entries chain_tables partitions_of numbered_span span_of disk_name last_partition partition_name device_name devices_of named_devices device_at disk_number device_number kind_of super_of super_checks super_in super_at with_counts super_bytes v1_inode v2_inode inode_of inode_at v1_inode_bytes v2_inode_bytes inode_bytes kept_inode inode_place bit with_bit parts_of volume_at number_in follow pointer_by inside follow_at zone_at block_at content_at entry_of entries_in minixentries_entry_at find_entry entries_at is_dots components child find_path file_block file_at zone_number block content entry first_named lookup reached thing names names_in IsSound child_path path_of link_at section file_content section_bytes is_bootable has_signature has_options has_names has_slots has_no_message has_whole_message has_message has_zeros is_whole timeout_of table_slots boot_of boot_at field_bytes merged_sector is_set entry_name is_printable is_name has_flags has_video has_length has_main has_initrd has_extra is_entry descriptor_of entry_bytes same_name repeats breaks table_at descriptor_bytes options_at extra_at options_bytes extra_bytes is_line line_of line_at line_bytes is_same_line names_of_section names_of_config started menu_decision menu_boot file_of middle_text target_of menu_entries menu_of meant slot_to slots_for chain_for file_slots file_sectors section_sectors_at flags_of descriptor_for plan_entries sectors_of_table sectors_after plan_sectors map_size plan_names plan_boot plan_boot_sector devices_in inode_places mapped_inode file_inode mapped_section code_in planned
plan_by_chance_23 = (refl, refl, refl)

-- by chance 24
pub plan_by_chance_24 : (plan_sectors (planned (disks_of disk_many) machine_many volume_many conf_r24 23) machine_many (on 0 (190 ∷ 191 ∷ 192 ∷ 193 ∷ 194 ∷ 195 ∷ 196 ∷ 197 ∷ [])) ≡ (file 512 (piece 0 (codes "LINE") ∷ [])) ∷ (file 512 (piece 0 (codes "linux") ∷ piece 16 (hex 6 0x160000000504) ∷ piece 28 (hex 13 0x03800100c300000003800100c5) ∷ piece 52 (hex 9 0x0100000003800100c4) ∷ [])) ∷ (file 512 []) ∷ (file 512 []) ∷ (file 512 []) ∷ (file 512 (piece 0 (hex 1 0x0c) ∷ piece 8 (codes " rw root=803") ∷ [])) ∷ (file 512 (piece 0 (hex 9 0x050003006c696e7578) ∷ piece 480 (codes "abc") ∷ [])) ∷ (file 512 (piece 0 (hex 21 0x03800100680000000380010069000000038001006a) ∷ [])) ∷ []) × (plan_boot_sector (planned (disks_of disk_many) machine_many volume_many conf_r24 23) machine_many (on 0 (190 ∷ 191 ∷ 192 ∷ 193 ∷ 194 ∷ 195 ∷ 196 ∷ 197 ∷ [])) (disks_of disk_many 0 0) ≡ file 512 (piece 0 (hex 19 0xeb7e4c494c4f01001700000001000000010001) ∷ piece 24 (hex 13 0x03800100be00000003800100c2) ∷ piece 48 (hex 21 0x03800100bf00000003800100c000000003800100c1) ∷ piece 450 (hex 10 0x8100000040000000c00f) ∷ piece 510 (hex 2 0x55aa) ∷ [])) × (map_size (planned (disks_of disk_many) machine_many volume_many conf_r24 23) machine_many ≡ 8)
unfolding number16 number32 is_zero has_ranges has_address is_slot is_one_slot chs_of address_of slot_of some_slot slot_at slot_bytes to_chs to_lba sector_at sectors_of place_at slot_make could_be_one named_device entry_at entries_of table_entries is_link is_plain link_of logical_of listed linked_sector chain_entries chain_tables partitions_of numbered_span span_of disk_name last_partition partition_name device_name devices_of named_devices device_at disk_number device_number kind_of super_of super_checks super_in super_at with_counts super_bytes v1_inode v2_inode inode_of inode_at v1_inode_bytes v2_inode_bytes inode_bytes kept_inode inode_place bit with_bit parts_of volume_at number_in follow pointer_by inside follow_at zone_at block_at content_at entry_of entries_in minixentries_entry_at find_entry entries_at is_dots components child find_path file_block file_at zone_number block content entry first_named lookup reached thing names names_in IsSound child_path path_of link_at section file_content section_bytes is_bootable has_signature has_options has_names has_slots has_no_message has_whole_message has_message has_zeros is_whole timeout_of table_slots boot_of boot_at field_bytes merged_sector is_set entry_name is_printable is_name has_flags has_video has_length has_main has_initrd has_extra is_entry descriptor_of entry_bytes same_name repeats breaks table_at descriptor_bytes options_at extra_at options_bytes extra_bytes is_line line_of line_at line_bytes is_same_line names_of_section names_of_config started menu_decision menu_boot file_of middle_text target_of menu_entries menu_of meant slot_to slots_for chain_for file_slots file_sectors section_sectors_at flags_of descriptor_for plan_entries sectors_of_table sectors_after plan_sectors map_size plan_names plan_boot plan_boot_sector devices_in inode_places mapped_inode file_inode mapped_section code_in planned
plan_by_chance_24 = (refl, refl, refl)

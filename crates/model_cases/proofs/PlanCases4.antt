-- Cases of the model, written by tools/plan_cases.py: the sectors of planned maps, and their boot sectors.
use Rattle.std.proofs.Common.{◌≡◌, ◌∷◌, ◌++◌, [], codes, replicate, refl}
use Rattle.lilo_model.specs.BootSector.{is_bootable, has_signature, has_options, has_names, has_slots, has_no_message, has_whole_message, has_message, has_zeros, is_whole, timeout_of, table_slots, boot_of, boot_at, field_bytes, merged_sector}
use Rattle.lilo_model.specs.Bytes.{number16, number32, is_zero}
use Rattle.lilo_model.specs.ConfLawful.{names_of_section, names_of_config}
use Rattle.lilo_model.specs.Devices.{disk_name, last_partition, partition_name, device_name, devices_of, named_devices, device_at, disk_number, device_number}
use Rattle.lilo_model.specs.LineSector.{is_line, line_of, line_at, line_bytes, is_same_line}
use Rattle.lilo_model.specs.Meant.{started, menu_decision, menu_boot, file_of, middle_text, target_of, menu_entries, menu_of, meant}
use Rattle.lilo_model.specs.MinixEntries.{entry_of, entries_in, entry_at as minixentries_entry_at, find_entry, entries_at, is_dots}
use Rattle.lilo_model.specs.MinixFind.{components, child, find_path, file_block, file_at}
use Rattle.lilo_model.specs.MinixFindNames.{child_path, path_of}
use Rattle.lilo_model.specs.MinixLayout.{kind_of, super_of, super_checks, super_in, super_at, with_counts, super_bytes, v1_inode, v2_inode, inode_of, inode_at, v1_inode_bytes, v2_inode_bytes, inode_bytes, kept_inode, inode_place}
use Rattle.lilo_model.specs.MinixNames.{zone_number, block, content, entry, first_named, lookup, reached, thing, names, names_in, IsSound}
use Rattle.lilo_model.specs.MinixParts.{bit, with_bit, parts_of, volume_at, number_in, follow, pointer_by, inside, follow_at, zone_at, block_at, content_at}
use Rattle.lilo_model.specs.Options.{options_at, extra_at, options_bytes, extra_bytes}
use Rattle.lilo_model.specs.Partitions.{named_device, entry_at, entries_of, table_entries, is_link, is_plain, link_of, logical_of, listed, linked_sector, chain_entries, chain_tables, partitions_of, numbered_span, span_of}
use Rattle.lilo_model.specs.Plan.{slot_to, slots_for, chain_for, file_slots, file_sectors, section_sectors_at, flags_of, descriptor_for, plan_entries, sectors_of_table, sectors_after, plan_sectors, map_size, plan_names, plan_boot, plan_boot_sector}
use Rattle.lilo_model.specs.Planned.{devices_in, inode_places, mapped_inode, file_inode, mapped_section, code_in, planned}
use Rattle.lilo_model.specs.Section.{link_at, section, file_content, section_bytes}
use Rattle.lilo_model.specs.Slots.{has_ranges, has_address, is_slot, is_one_slot, chs_of, address_of, slot_of, some_slot, slot_at, slot_bytes, to_chs, to_lba, sector_at, sectors_of, place_at, slot_make, could_be_one}
use Rattle.lilo_model.specs.Table.{is_set, entry_name, is_printable, is_name, has_flags, has_video, has_length, has_main, has_initrd, has_extra, is_entry, descriptor_of, entry_bytes, same_name, repeats, breaks, table_at, descriptor_bytes}
use Rattle.model_cases.specs.Sparse.{hex, piece, file, disks_of, on}
use Rattle.model_cases.specs.PlanChanceConfs1.{conf_r1, conf_r2, conf_r3, conf_r4, conf_r5, conf_r6, conf_r7, conf_r8}
use Rattle.model_cases.specs.PlanDisks.{disk_many}
use Rattle.model_cases.specs.PlanVolumes.{machine_many, volume_many}

-- by chance 1
pub plan_by_chance_1 : (plan_sectors (planned (disks_of disk_many) machine_many volume_many conf_r1 1602753240) machine_many (on 0 (502 ∷ 3128 ∷ 3308 ∷ []) ++ on 1 (1890 ∷ []) ++ on 0 (2918 ∷ []) ++ on 1 (382 ∷ 1990 ∷ []) ++ on 0 (3345 ∷ [])) ≡ (file 512 (piece 0 (codes "LINE") ∷ [])) ∷ (file 512 (piece 0 (codes "a") ∷ piece 16 (hex 39 0x4800000040060000bc020000038101007e01000003810100c607000003800100110d0000010001) ∷ [])) ∷ (file 512 []) ∷ (file 512 []) ∷ (file 512 []) ∷ (file 512 (piece 0 (hex 1 0x03) ∷ piece 8 (codes " rw") ∷ [])) ∷ (file 512 (piece 0 (hex 5 0x038004005c) ∷ [])) ∷ (file 512 (piece 0 (hex 5 0x0380020056) ∷ [])) ∷ []) × (plan_boot_sector (planned (disks_of disk_many) machine_many volume_many conf_r1 1602753240) machine_many (on 0 (502 ∷ 3128 ∷ 3308 ∷ []) ++ on 1 (1890 ∷ []) ++ on 0 (2918 ∷ []) ++ on 1 (382 ∷ 1990 ∷ []) ++ on 0 (3345 ∷ [])) (disks_of disk_many 0 0) ≡ file 512 (piece 0 (hex 19 0xeb7e4c494c4f0100d812885f01000100ffff01) ∷ piece 24 (hex 14 0x03800100f601000003800100660b) ∷ piece 48 (hex 22 0x03800100380c000003800100ec0c0000038101006207) ∷ piece 450 (hex 10 0x8100000040000000c00f) ∷ piece 510 (hex 2 0x55aa) ∷ [])) × (map_size (planned (disks_of disk_many) machine_many volume_many conf_r1 1602753240) machine_many ≡ 8)
unfolding number16 number32 is_zero has_ranges has_address is_slot is_one_slot chs_of address_of slot_of some_slot slot_at slot_bytes to_chs to_lba sector_at sectors_of place_at slot_make could_be_one named_device entry_at entries_of table_entries is_link is_plain link_of logical_of listed linked_sector chain_entries chain_tables partitions_of numbered_span span_of disk_name last_partition partition_name device_name devices_of named_devices device_at disk_number device_number kind_of super_of super_checks super_in super_at with_counts super_bytes v1_inode v2_inode inode_of inode_at v1_inode_bytes v2_inode_bytes inode_bytes kept_inode inode_place bit with_bit parts_of volume_at number_in follow pointer_by inside follow_at zone_at block_at content_at entry_of entries_in minixentries_entry_at find_entry entries_at is_dots components child find_path file_block file_at zone_number block content entry first_named lookup reached thing names names_in IsSound child_path path_of link_at section file_content section_bytes is_bootable has_signature has_options has_names has_slots has_no_message has_whole_message has_message has_zeros is_whole timeout_of table_slots boot_of boot_at field_bytes merged_sector is_set entry_name is_printable is_name has_flags has_video has_length has_main has_initrd has_extra is_entry descriptor_of entry_bytes same_name repeats breaks table_at descriptor_bytes options_at extra_at options_bytes extra_bytes is_line line_of line_at line_bytes is_same_line names_of_section names_of_config started menu_decision menu_boot file_of middle_text target_of menu_entries menu_of meant slot_to slots_for chain_for file_slots file_sectors section_sectors_at flags_of descriptor_for plan_entries sectors_of_table sectors_after plan_sectors map_size plan_names plan_boot plan_boot_sector devices_in inode_places mapped_inode file_inode mapped_section code_in planned
plan_by_chance_1 = (refl, refl, refl)

-- by chance 2
pub plan_by_chance_2 : (plan_sectors (planned (disks_of disk_many) machine_many volume_many conf_r2 1531991191) machine_many (on 0 (190 ∷ 191 ∷ 192 ∷ 193 ∷ 194 ∷ 195 ∷ 196 ∷ 197 ∷ [])) ≡ (file 512 (piece 0 (codes "LINE") ∷ [])) ∷ (file 512 (piece 0 (codes "win") ∷ piece 20 (hex 2 0x4006) ∷ piece 28 (hex 13 0x03800100c400000003800100c5) ∷ piece 52 (hex 1 0x01) ∷ piece 64 (codes "win2") ∷ piece 84 (hex 2 0x4006) ∷ piece 92 (hex 13 0x03800100c400000003800100c5) ∷ piece 116 (hex 1 0x01) ∷ [])) ∷ (file 512 []) ∷ (file 512 []) ∷ (file 512 []) ∷ (file 512 (piece 0 (hex 5 0x038001005a) ∷ [])) ∷ (file 512 (piece 0 (hex 1 0x0c) ∷ piece 8 (codes " ro root=801") ∷ [])) ∷ (file 512 (piece 0 (hex 29 0x038001005c000000038001005d000000038001005e000000038001005f) ∷ [])) ∷ []) × (plan_boot_sector (planned (disks_of disk_many) machine_many volume_many conf_r2 1531991191) machine_many (on 0 (190 ∷ 191 ∷ 192 ∷ 193 ∷ 194 ∷ 195 ∷ 196 ∷ 197 ∷ [])) (disks_of disk_many 0 0) ≡ file 512 (piece 0 (hex 12 0xeb7e4c494c4f01009754505b) ∷ piece 16 (hex 53 0xffff02000c00010003800100be00000003800100c200000003800100c300000003800100bf00000003800100c000000003800100c1) ∷ piece 128 (replicate 312 144) ∷ piece 450 (hex 10 0x8100000040000000c00f) ∷ piece 510 (hex 2 0x55aa) ∷ [])) × (map_size (planned (disks_of disk_many) machine_many volume_many conf_r2 1531991191) machine_many ≡ 8)
unfolding number16 number32 is_zero has_ranges has_address is_slot is_one_slot chs_of address_of slot_of some_slot slot_at slot_bytes to_chs to_lba sector_at sectors_of place_at slot_make could_be_one named_device entry_at entries_of table_entries is_link is_plain link_of logical_of listed linked_sector chain_entries chain_tables partitions_of numbered_span span_of disk_name last_partition partition_name device_name devices_of named_devices device_at disk_number device_number kind_of super_of super_checks super_in super_at with_counts super_bytes v1_inode v2_inode inode_of inode_at v1_inode_bytes v2_inode_bytes inode_bytes kept_inode inode_place bit with_bit parts_of volume_at number_in follow pointer_by inside follow_at zone_at block_at content_at entry_of entries_in minixentries_entry_at find_entry entries_at is_dots components child find_path file_block file_at zone_number block content entry first_named lookup reached thing names names_in IsSound child_path path_of link_at section file_content section_bytes is_bootable has_signature has_options has_names has_slots has_no_message has_whole_message has_message has_zeros is_whole timeout_of table_slots boot_of boot_at field_bytes merged_sector is_set entry_name is_printable is_name has_flags has_video has_length has_main has_initrd has_extra is_entry descriptor_of entry_bytes same_name repeats breaks table_at descriptor_bytes options_at extra_at options_bytes extra_bytes is_line line_of line_at line_bytes is_same_line names_of_section names_of_config started menu_decision menu_boot file_of middle_text target_of menu_entries menu_of meant slot_to slots_for chain_for file_slots file_sectors section_sectors_at flags_of descriptor_for plan_entries sectors_of_table sectors_after plan_sectors map_size plan_names plan_boot plan_boot_sector devices_in inode_places mapped_inode file_inode mapped_section code_in planned
plan_by_chance_2 = (refl, refl, refl)

-- by chance 3
pub plan_by_chance_3 : (plan_sectors (planned (disks_of disk_many) machine_many volume_many conf_r3 2) machine_many (on 0 (190 ∷ 191 ∷ 192 ∷ 193 ∷ 194 ∷ 195 ∷ 196 ∷ 197 ∷ 198 ∷ 199 ∷ 200 ∷ [])) ≡ (file 512 (piece 0 (codes "LINE") ∷ [])) ∷ (file 512 (piece 0 (codes "old") ∷ piece 16 (hex 6 0x120000000504) ∷ piece 28 (hex 15 0x0180010008000300018001000a0003) ∷ piece 52 (hex 17 0x0100000001800100090003006c696e7578) ∷ piece 84 (hex 2 0xe880) ∷ piece 92 (hex 15 0x018001000b000300018001000c0003) ∷ piece 116 (hex 1 0x01) ∷ [])) ∷ (file 512 []) ∷ (file 512 []) ∷ (file 512 []) ∷ (file 512 (piece 0 (hex 7 0x018001001c0001) ∷ [])) ∷ (file 512 (piece 0 (hex 1 0x03) ∷ piece 8 (codes " ro") ∷ [])) ∷ (file 512 (piece 0 (hex 7 0x030003006f6c64) ∷ piece 480 (codes "abc") ∷ [])) ∷ (file 512 (piece 0 (hex 7 0x01800300140001) ∷ [])) ∷ (file 512 []) ∷ (file 512 (piece 0 (hex 15 0x018008003800010001803900010002) ∷ [])) ∷ []) × (plan_boot_sector (planned (disks_of disk_many) machine_many volume_many conf_r3 2) machine_many (on 0 (190 ∷ 191 ∷ 192 ∷ 193 ∷ 194 ∷ 195 ∷ 196 ∷ 197 ∷ 198 ∷ 199 ∷ 200 ∷ [])) (disks_of disk_many 0 0) ≡ file 512 (piece 0 (hex 71 0xeb7e4c494c4f01000200000001000000050002000c0001000180010002000300018001000600030001800100070003000180010003000300018001000400030001800100050003) ∷ piece 128 (replicate 312 144) ∷ piece 450 (hex 10 0x8100000040000000c00f) ∷ piece 510 (hex 2 0x55aa) ∷ [])) × (map_size (planned (disks_of disk_many) machine_many volume_many conf_r3 2) machine_many ≡ 11)
unfolding number16 number32 is_zero has_ranges has_address is_slot is_one_slot chs_of address_of slot_of some_slot slot_at slot_bytes to_chs to_lba sector_at sectors_of place_at slot_make could_be_one named_device entry_at entries_of table_entries is_link is_plain link_of logical_of listed linked_sector chain_entries chain_tables partitions_of numbered_span span_of disk_name last_partition partition_name device_name devices_of named_devices device_at disk_number device_number kind_of super_of super_checks super_in super_at with_counts super_bytes v1_inode v2_inode inode_of inode_at v1_inode_bytes v2_inode_bytes inode_bytes kept_inode inode_place bit with_bit parts_of volume_at number_in follow pointer_by inside follow_at zone_at block_at content_at entry_of entries_in minixentries_entry_at find_entry entries_at is_dots components child find_path file_block file_at zone_number block content entry first_named lookup reached thing names names_in IsSound child_path path_of link_at section file_content section_bytes is_bootable has_signature has_options has_names has_slots has_no_message has_whole_message has_message has_zeros is_whole timeout_of table_slots boot_of boot_at field_bytes merged_sector is_set entry_name is_printable is_name has_flags has_video has_length has_main has_initrd has_extra is_entry descriptor_of entry_bytes same_name repeats breaks table_at descriptor_bytes options_at extra_at options_bytes extra_bytes is_line line_of line_at line_bytes is_same_line names_of_section names_of_config started menu_decision menu_boot file_of middle_text target_of menu_entries menu_of meant slot_to slots_for chain_for file_slots file_sectors section_sectors_at flags_of descriptor_for plan_entries sectors_of_table sectors_after plan_sectors map_size plan_names plan_boot plan_boot_sector devices_in inode_places mapped_inode file_inode mapped_section code_in planned
plan_by_chance_3 = (refl, refl, refl)

-- by chance 4
pub plan_by_chance_4 : (plan_sectors (planned (disks_of disk_many) machine_many volume_many conf_r4 2785421699) machine_many (on 0 (862 ∷ 3442 ∷ 2194 ∷ []) ++ on 1 (598 ∷ []) ++ on 0 (3554 ∷ 2537 ∷ []) ++ on 1 (708 ∷ []) ++ on 0 (1427 ∷ [])) ≡ (file 512 (piece 0 (codes "LINE") ∷ [])) ∷ (file 512 (piece 0 (codes "old") ∷ piece 16 (hex 1 0x11) ∷ piece 21 (hex 1 0x02) ∷ piece 28 (hex 14 0x02800100e9090000028001009305) ∷ piece 52 (hex 10 0x0100000002810100c402) ∷ [])) ∷ (file 512 []) ∷ (file 512 []) ∷ (file 512 []) ∷ (file 512 []) ∷ (file 512 (piece 0 (hex 10 0x060000006c696e757832) ∷ [])) ∷ (file 512 (piece 0 (hex 5 0x028101003f) ∷ [])) ∷ []) × (plan_boot_sector (planned (disks_of disk_many) machine_many volume_many conf_r4 2785421699) machine_many (on 0 (862 ∷ 3442 ∷ 2194 ∷ []) ++ on 1 (598 ∷ []) ++ on 0 (3554 ∷ 2537 ∷ []) ++ on 1 (708 ∷ []) ++ on 0 (1427 ∷ [])) (disks_of disk_many 0 0) ≡ file 512 (piece 0 (hex 19 0xeb7e4c494c4f0100832906a600000100ffff01) ∷ piece 24 (hex 14 0x028001005e03000002800100e20d) ∷ piece 48 (hex 22 0x02800100720d00000280010092080000028101005602) ∷ piece 128 (replicate 312 144) ∷ piece 450 (hex 10 0x8100000040000000c00f) ∷ piece 510 (hex 2 0x55aa) ∷ [])) × (map_size (planned (disks_of disk_many) machine_many volume_many conf_r4 2785421699) machine_many ≡ 8)
unfolding number16 number32 is_zero has_ranges has_address is_slot is_one_slot chs_of address_of slot_of some_slot slot_at slot_bytes to_chs to_lba sector_at sectors_of place_at slot_make could_be_one named_device entry_at entries_of table_entries is_link is_plain link_of logical_of listed linked_sector chain_entries chain_tables partitions_of numbered_span span_of disk_name last_partition partition_name device_name devices_of named_devices device_at disk_number device_number kind_of super_of super_checks super_in super_at with_counts super_bytes v1_inode v2_inode inode_of inode_at v1_inode_bytes v2_inode_bytes inode_bytes kept_inode inode_place bit with_bit parts_of volume_at number_in follow pointer_by inside follow_at zone_at block_at content_at entry_of entries_in minixentries_entry_at find_entry entries_at is_dots components child find_path file_block file_at zone_number block content entry first_named lookup reached thing names names_in IsSound child_path path_of link_at section file_content section_bytes is_bootable has_signature has_options has_names has_slots has_no_message has_whole_message has_message has_zeros is_whole timeout_of table_slots boot_of boot_at field_bytes merged_sector is_set entry_name is_printable is_name has_flags has_video has_length has_main has_initrd has_extra is_entry descriptor_of entry_bytes same_name repeats breaks table_at descriptor_bytes options_at extra_at options_bytes extra_bytes is_line line_of line_at line_bytes is_same_line names_of_section names_of_config started menu_decision menu_boot file_of middle_text target_of menu_entries menu_of meant slot_to slots_for chain_for file_slots file_sectors section_sectors_at flags_of descriptor_for plan_entries sectors_of_table sectors_after plan_sectors map_size plan_names plan_boot plan_boot_sector devices_in inode_places mapped_inode file_inode mapped_section code_in planned
plan_by_chance_4 = (refl, refl, refl)

-- by chance 5
pub plan_by_chance_5 : (plan_sectors (planned (disks_of disk_many) machine_many volume_many conf_r5 1030340142) machine_many (on 0 (3470 ∷ 1155 ∷ 2356 ∷ 3015 ∷ 457 ∷ []) ++ on 1 (712 ∷ []) ++ on 0 (1893 ∷ 682 ∷ [])) ≡ (file 512 (piece 0 (codes "LINE") ∷ [])) ∷ (file 512 (piece 0 (codes "linux") ∷ piece 16 (hex 6 0x120000000504) ∷ piece 28 (hex 15 0x01810100100a01000180010035000a) ∷ piece 52 (hex 18 0x010000000180010004010e006c696e757832) ∷ piece 80 (hex 6 0x120000000504) ∷ piece 92 (hex 15 0x01810100100a01000180010035000a) ∷ piece 116 (hex 11 0x010000000180010004010e) ∷ [])) ∷ (file 512 []) ∷ (file 512 []) ∷ (file 512 []) ∷ (file 512 (piece 0 (hex 1 0x03) ∷ piece 8 (codes " rw") ∷ [])) ∷ (file 512 (piece 0 (hex 10 0x060003006c696e757832) ∷ piece 480 (codes "abc") ∷ [])) ∷ (file 512 (piece 0 (hex 23 0x018001002a000100018001002b000100018001002c0001) ∷ [])) ∷ []) × (plan_boot_sector (planned (disks_of disk_many) machine_many volume_many conf_r5 1030340142) machine_many (on 0 (3470 ∷ 1155 ∷ 2356 ∷ 3015 ∷ 457 ∷ []) ++ on 1 (712 ∷ []) ++ on 0 (1893 ∷ 682 ∷ [])) (disks_of disk_many 0 0) ≡ file 512 (piece 0 (hex 19 0xeb7e4c494c4f01002ebe693d01001400010002) ∷ piece 24 (hex 15 0x018001000603070001800100110007) ∷ piece 48 (hex 23 0x0180010016010200018001001a0205000180010037020f) ∷ piece 128 (replicate 312 144) ∷ piece 450 (hex 10 0x8100000040000000c00f) ∷ piece 510 (hex 2 0x55aa) ∷ [])) × (map_size (planned (disks_of disk_many) machine_many volume_many conf_r5 1030340142) machine_many ≡ 8)
unfolding number16 number32 is_zero has_ranges has_address is_slot is_one_slot chs_of address_of slot_of some_slot slot_at slot_bytes to_chs to_lba sector_at sectors_of place_at slot_make could_be_one named_device entry_at entries_of table_entries is_link is_plain link_of logical_of listed linked_sector chain_entries chain_tables partitions_of numbered_span span_of disk_name last_partition partition_name device_name devices_of named_devices device_at disk_number device_number kind_of super_of super_checks super_in super_at with_counts super_bytes v1_inode v2_inode inode_of inode_at v1_inode_bytes v2_inode_bytes inode_bytes kept_inode inode_place bit with_bit parts_of volume_at number_in follow pointer_by inside follow_at zone_at block_at content_at entry_of entries_in minixentries_entry_at find_entry entries_at is_dots components child find_path file_block file_at zone_number block content entry first_named lookup reached thing names names_in IsSound child_path path_of link_at section file_content section_bytes is_bootable has_signature has_options has_names has_slots has_no_message has_whole_message has_message has_zeros is_whole timeout_of table_slots boot_of boot_at field_bytes merged_sector is_set entry_name is_printable is_name has_flags has_video has_length has_main has_initrd has_extra is_entry descriptor_of entry_bytes same_name repeats breaks table_at descriptor_bytes options_at extra_at options_bytes extra_bytes is_line line_of line_at line_bytes is_same_line names_of_section names_of_config started menu_decision menu_boot file_of middle_text target_of menu_entries menu_of meant slot_to slots_for chain_for file_slots file_sectors section_sectors_at flags_of descriptor_for plan_entries sectors_of_table sectors_after plan_sectors map_size plan_names plan_boot plan_boot_sector devices_in inode_places mapped_inode file_inode mapped_section code_in planned
plan_by_chance_5 = (refl, refl, refl)

-- by chance 6
pub plan_by_chance_6 : (plan_sectors (planned (disks_of disk_many) machine_many volume_many conf_r6 5) machine_many (on 0 (190 ∷ 191 ∷ 192 ∷ 193 ∷ 194 ∷ 195 ∷ 196 ∷ 197 ∷ 198 ∷ 199 ∷ [])) ≡ (file 512 (piece 0 (codes "LINE") ∷ [])) ∷ (file 512 (piece 0 (codes "linux") ∷ piece 16 (hex 6 0x2000fdff4006) ∷ piece 28 (hex 13 0x02800100c400000002800100c5) ∷ piece 52 (hex 1 0x01) ∷ piece 64 (codes "linux2") ∷ piece 80 (hex 6 0x2000fdff4006) ∷ piece 92 (hex 13 0x02800100c400000002800100c5) ∷ piece 116 (hex 1 0x01) ∷ piece 128 (codes "win") ∷ piece 144 (hex 6 0x200005004006) ∷ piece 156 (hex 13 0x02800100c600000002800100c7) ∷ piece 180 (hex 1 0x01) ∷ [])) ∷ (file 512 []) ∷ (file 512 []) ∷ (file 512 []) ∷ (file 512 (piece 0 (hex 5 0x028001005a) ∷ [])) ∷ (file 512 (piece 0 (hex 1 0x03) ∷ piece 8 (codes " ro") ∷ [])) ∷ (file 512 (piece 0 (hex 5 0x028004005c) ∷ [])) ∷ (file 512 (piece 0 (hex 1 0x0b) ∷ piece 8 (codes " mem=64M  y") ∷ [])) ∷ (file 512 (piece 0 (hex 5 0x028004005c) ∷ [])) ∷ []) × (plan_boot_sector (planned (disks_of disk_many) machine_many volume_many conf_r6 5) machine_many (on 0 (190 ∷ 191 ∷ 192 ∷ 193 ∷ 194 ∷ 195 ∷ 196 ∷ 197 ∷ 198 ∷ 199 ∷ [])) (disks_of disk_many 0 0) ≡ file 512 (piece 0 (hex 9 0xeb7e4c494c4f010005) ∷ piece 16 (hex 53 0x580203000c00010002800100be00000002800100c200000002800100c300000002800100bf00000002800100c000000002800100c1) ∷ piece 96 (hex 1 0x01) ∷ piece 128 (replicate 312 144) ∷ piece 450 (hex 10 0x8100000040000000c00f) ∷ piece 510 (hex 2 0x55aa) ∷ [])) × (map_size (planned (disks_of disk_many) machine_many volume_many conf_r6 5) machine_many ≡ 10)
unfolding number16 number32 is_zero has_ranges has_address is_slot is_one_slot chs_of address_of slot_of some_slot slot_at slot_bytes to_chs to_lba sector_at sectors_of place_at slot_make could_be_one named_device entry_at entries_of table_entries is_link is_plain link_of logical_of listed linked_sector chain_entries chain_tables partitions_of numbered_span span_of disk_name last_partition partition_name device_name devices_of named_devices device_at disk_number device_number kind_of super_of super_checks super_in super_at with_counts super_bytes v1_inode v2_inode inode_of inode_at v1_inode_bytes v2_inode_bytes inode_bytes kept_inode inode_place bit with_bit parts_of volume_at number_in follow pointer_by inside follow_at zone_at block_at content_at entry_of entries_in minixentries_entry_at find_entry entries_at is_dots components child find_path file_block file_at zone_number block content entry first_named lookup reached thing names names_in IsSound child_path path_of link_at section file_content section_bytes is_bootable has_signature has_options has_names has_slots has_no_message has_whole_message has_message has_zeros is_whole timeout_of table_slots boot_of boot_at field_bytes merged_sector is_set entry_name is_printable is_name has_flags has_video has_length has_main has_initrd has_extra is_entry descriptor_of entry_bytes same_name repeats breaks table_at descriptor_bytes options_at extra_at options_bytes extra_bytes is_line line_of line_at line_bytes is_same_line names_of_section names_of_config started menu_decision menu_boot file_of middle_text target_of menu_entries menu_of meant slot_to slots_for chain_for file_slots file_sectors section_sectors_at flags_of descriptor_for plan_entries sectors_of_table sectors_after plan_sectors map_size plan_names plan_boot plan_boot_sector devices_in inode_places mapped_inode file_inode mapped_section code_in planned
plan_by_chance_6 = (refl, refl, refl)

-- by chance 7
pub plan_by_chance_7 : (plan_sectors (planned (disks_of disk_many) machine_many volume_many conf_r7 1546787504) machine_many (on 0 (190 ∷ 191 ∷ 192 ∷ 193 ∷ 194 ∷ 195 ∷ 196 ∷ 197 ∷ [])) ≡ (file 512 (piece 0 (codes "LINE") ∷ [])) ∷ (file 512 (piece 0 (codes "a") ∷ piece 16 (hex 6 0x080000000504) ∷ piece 28 (hex 15 0x018001000800030001800100090003) ∷ piece 52 (hex 1 0x01) ∷ [])) ∷ (file 512 []) ∷ (file 512 []) ∷ (file 512 []) ∷ (file 512 (piece 0 (hex 7 0x018001001c0001) ∷ [])) ∷ (file 512 (piece 0 (hex 1 0x04) ∷ piece 8 (codes " x y") ∷ [])) ∷ (file 512 (piece 0 (hex 7 0x018003002a0001) ∷ [])) ∷ []) × (plan_boot_sector (planned (disks_of disk_many) machine_many volume_many conf_r7 1546787504) machine_many (on 0 (190 ∷ 191 ∷ 192 ∷ 193 ∷ 194 ∷ 195 ∷ 196 ∷ 197 ∷ [])) (disks_of disk_many 0 0) ≡ file 512 (piece 0 (hex 71 0xeb7e4c494c4f0100b01a325c01000000010001000c0001000180010002000300018001000600030001800100070003000180010003000300018001000400030001800100050003) ∷ piece 128 (replicate 312 144) ∷ piece 450 (hex 10 0x8100000040000000c00f) ∷ piece 510 (hex 2 0x55aa) ∷ [])) × (map_size (planned (disks_of disk_many) machine_many volume_many conf_r7 1546787504) machine_many ≡ 8)
unfolding number16 number32 is_zero has_ranges has_address is_slot is_one_slot chs_of address_of slot_of some_slot slot_at slot_bytes to_chs to_lba sector_at sectors_of place_at slot_make could_be_one named_device entry_at entries_of table_entries is_link is_plain link_of logical_of listed linked_sector chain_entries chain_tables partitions_of numbered_span span_of disk_name last_partition partition_name device_name devices_of named_devices device_at disk_number device_number kind_of super_of super_checks super_in super_at with_counts super_bytes v1_inode v2_inode inode_of inode_at v1_inode_bytes v2_inode_bytes inode_bytes kept_inode inode_place bit with_bit parts_of volume_at number_in follow pointer_by inside follow_at zone_at block_at content_at entry_of entries_in minixentries_entry_at find_entry entries_at is_dots components child find_path file_block file_at zone_number block content entry first_named lookup reached thing names names_in IsSound child_path path_of link_at section file_content section_bytes is_bootable has_signature has_options has_names has_slots has_no_message has_whole_message has_message has_zeros is_whole timeout_of table_slots boot_of boot_at field_bytes merged_sector is_set entry_name is_printable is_name has_flags has_video has_length has_main has_initrd has_extra is_entry descriptor_of entry_bytes same_name repeats breaks table_at descriptor_bytes options_at extra_at options_bytes extra_bytes is_line line_of line_at line_bytes is_same_line names_of_section names_of_config started menu_decision menu_boot file_of middle_text target_of menu_entries menu_of meant slot_to slots_for chain_for file_slots file_sectors section_sectors_at flags_of descriptor_for plan_entries sectors_of_table sectors_after plan_sectors map_size plan_names plan_boot plan_boot_sector devices_in inode_places mapped_inode file_inode mapped_section code_in planned
plan_by_chance_7 = (refl, refl, refl)

-- by chance 8
pub plan_by_chance_8 : (plan_sectors (planned (disks_of disk_many) machine_many volume_many conf_r8 4083175791) machine_many (on 0 (190 ∷ 191 ∷ 192 ∷ 193 ∷ 194 ∷ 195 ∷ 196 ∷ 197 ∷ 198 ∷ 199 ∷ 200 ∷ 201 ∷ [])) ≡ (file 512 (piece 0 (codes "LINE") ∷ [])) ∷ (file 512 (piece 0 (codes "old") ∷ piece 16 (hex 6 0x100000004006) ∷ piece 28 (hex 13 0x02800100c300000002800100c5) ∷ piece 52 (hex 16 0x0100000002800100c40000006f6c6432) ∷ piece 80 (hex 6 0x100000004006) ∷ piece 92 (hex 13 0x02800100c300000002800100c5) ∷ piece 116 (hex 13 0x0100000002800100c400000061) ∷ piece 144 (hex 45 0x50000000050a0000dc05000002800100c600000002800100c800000002800100c90000000100010002800100c7) ∷ [])) ∷ (file 512 []) ∷ (file 512 []) ∷ (file 512 []) ∷ (file 512 []) ∷ (file 512 (piece 0 (hex 7 0x030000006f6c64) ∷ [])) ∷ (file 512 (piece 0 (hex 5 0x028004005c) ∷ [])) ∷ (file 512 (piece 0 (hex 1 0x14) ∷ piece 8 (codes " root=301 mem=64M  y") ∷ [])) ∷ (file 512 (piece 0 (hex 7 0x030000006f6c64) ∷ [])) ∷ (file 512 (piece 0 (hex 29 0x028002006c00000002800100c200000002800100c2000000028002006e) ∷ [])) ∷ (file 512 (piece 0 (hex 5 0x0280030072) ∷ [])) ∷ []) × (plan_boot_sector (planned (disks_of disk_many) machine_many volume_many conf_r8 4083175791) machine_many (on 0 (190 ∷ 191 ∷ 192 ∷ 193 ∷ 194 ∷ 195 ∷ 196 ∷ 197 ∷ 198 ∷ 199 ∷ 200 ∷ 201 ∷ [])) (disks_of disk_many 0 0) ≡ file 512 (piece 0 (hex 19 0xeb7e4c494c4f01006f5160f301000000ffff03) ∷ piece 24 (hex 13 0x02800100be00000002800100c2) ∷ piece 48 (hex 21 0x02800100bf00000002800100c000000002800100c1) ∷ piece 128 (replicate 312 144) ∷ piece 450 (hex 10 0x8100000040000000c00f) ∷ piece 510 (hex 2 0x55aa) ∷ [])) × (map_size (planned (disks_of disk_many) machine_many volume_many conf_r8 4083175791) machine_many ≡ 12)
unfolding number16 number32 is_zero has_ranges has_address is_slot is_one_slot chs_of address_of slot_of some_slot slot_at slot_bytes to_chs to_lba sector_at sectors_of place_at slot_make could_be_one named_device entry_at entries_of table_entries is_link is_plain link_of logical_of listed linked_sector chain_entries chain_tables partitions_of numbered_span span_of disk_name last_partition partition_name device_name devices_of named_devices device_at disk_number device_number kind_of super_of super_checks super_in super_at with_counts super_bytes v1_inode v2_inode inode_of inode_at v1_inode_bytes v2_inode_bytes inode_bytes kept_inode inode_place bit with_bit parts_of volume_at number_in follow pointer_by inside follow_at zone_at block_at content_at entry_of entries_in minixentries_entry_at find_entry entries_at is_dots components child find_path file_block file_at zone_number block content entry first_named lookup reached thing names names_in IsSound child_path path_of link_at section file_content section_bytes is_bootable has_signature has_options has_names has_slots has_no_message has_whole_message has_message has_zeros is_whole timeout_of table_slots boot_of boot_at field_bytes merged_sector is_set entry_name is_printable is_name has_flags has_video has_length has_main has_initrd has_extra is_entry descriptor_of entry_bytes same_name repeats breaks table_at descriptor_bytes options_at extra_at options_bytes extra_bytes is_line line_of line_at line_bytes is_same_line names_of_section names_of_config started menu_decision menu_boot file_of middle_text target_of menu_entries menu_of meant slot_to slots_for chain_for file_slots file_sectors section_sectors_at flags_of descriptor_for plan_entries sectors_of_table sectors_after plan_sectors map_size plan_names plan_boot plan_boot_sector devices_in inode_places mapped_inode file_inode mapped_section code_in planned
plan_by_chance_8 = (refl, refl, refl)

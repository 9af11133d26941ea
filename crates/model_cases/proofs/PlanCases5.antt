-- Cases of the model, written by tools/plan_cases.py: the sectors of planned maps, and their boot sectors.
use Rattle.std.proofs.Common.{◌≡◌, ◌∷◌, ◌++◌, [], codes, replicate, refl}
use Rattle.lilo_model.specs.BootSector.{is_bootable, has_signature, has_options, has_names, has_slots, has_no_message, has_whole_message, has_message, has_zeros, is_whole, timeout_of, table_slots, boot_of, boot_at, field_bytes, merged_sector}
use Rattle.lilo_model.specs.Bytes.{number16, number32, is_zero}
use Rattle.lilo_model.specs.ConfLawful.{names_of_section, names_of_config}
use Rattle.lilo_model.specs.Devices.{disk_name, last_partition, partition_name, device_name, devices_of, named_devices, device_at, disk_number, device_number}
use Rattle.lilo_model.specs.LineSector.{is_line, line_of, line_at, line_bytes, is_same_line}
use Rattle.lilo_model.specs.Meant.{started, menu_decision, menu_boot, file_of, middle_text, target_of, menu_entries, menu_of, meant}
use Rattle.lilo_model.specs.MinixEntries.{entry_of, entries_in, entry_at as minixentries_entry_at, find_entry, entries_at, is_dots}
use Rattle.lilo_model.specs.MinixFind.{components, child, find_path, file_block, file_at}
use Rattle.lilo_model.specs.MinixFindNames.{child_path, path_of}
use Rattle.lilo_model.specs.MinixLayout.{kind_of, super_of, super_checks, super_in, super_at, with_counts, super_bytes, v1_inode, v2_inode, inode_of, inode_at, v1_inode_bytes, v2_inode_bytes, inode_bytes, kept_inode, inode_place}
use Rattle.lilo_model.specs.MinixNames.{zone_number, block, content, entry, first_named, lookup, reached, thing, names, names_in, IsSound}
use Rattle.lilo_model.specs.MinixParts.{bit, with_bit, parts_of, volume_at, number_in, follow, pointer_by, inside, follow_at, zone_at, block_at, content_at}
use Rattle.lilo_model.specs.Options.{options_at, extra_at, options_bytes, extra_bytes}
use Rattle.lilo_model.specs.Partitions.{named_device, entry_at, entries_of, table_entries, is_link, is_plain, link_of, logical_of, listed, linked_sector, chain_entries, chain_tables, partitions_of, numbered_span, span_of}
use Rattle.lilo_model.specs.Plan.{slot_to, slots_for, chain_for, file_slots, file_sectors, section_sectors_at, flags_of, descriptor_for, plan_entries, sectors_of_table, sectors_after, plan_sectors, map_size, plan_names, plan_boot, plan_boot_sector}
use Rattle.lilo_model.specs.Planned.{devices_in, inode_places, mapped_inode, file_inode, mapped_section, code_in, planned}
use Rattle.lilo_model.specs.Section.{link_at, section, file_content, section_bytes}
use Rattle.lilo_model.specs.Slots.{has_ranges, has_address, is_slot, is_one_slot, chs_of, address_of, slot_of, some_slot, slot_at, slot_bytes, to_chs, to_lba, sector_at, sectors_of, place_at, slot_make, could_be_one}
use Rattle.lilo_model.specs.Table.{is_set, entry_name, is_printable, is_name, has_flags, has_video, has_length, has_main, has_initrd, has_extra, is_entry, descriptor_of, entry_bytes, same_name, repeats, breaks, table_at, descriptor_bytes}
use Rattle.model_cases.specs.Sparse.{hex, piece, file, disks_of, on}
use Rattle.model_cases.specs.PlanChanceConfs1.{conf_r10, conf_r11, conf_r12, conf_r13, conf_r14, conf_r15, conf_r16, conf_r9}
use Rattle.model_cases.specs.PlanDisks.{disk_many}
use Rattle.model_cases.specs.PlanVolumes.{machine_many, volume_many}

-- by chance 9
pub plan_by_chance_9 : (plan_sectors (planned (disks_of disk_many) machine_many volume_many conf_r9 8) machine_many (on 0 (190 ∷ 191 ∷ 192 ∷ 193 ∷ 194 ∷ 195 ∷ 196 ∷ 197 ∷ [])) ≡ (file 512 (piece 0 (codes "LINE") ∷ [])) ∷ (file 512 (piece 0 (codes "win") ∷ piece 16 (hex 39 0x60000103050a0000dc050000018001000700030001800100080003000180010009000300010001) ∷ [])) ∷ (file 512 []) ∷ (file 512 []) ∷ (file 512 []) ∷ (file 512 []) ∷ (file 512 (piece 0 (hex 31 0x018002002e0001000180010006000300018001000600030001800200300001) ∷ [])) ∷ (file 512 (piece 0 (hex 7 0x01800300340001) ∷ [])) ∷ []) × (plan_boot_sector (planned (disks_of disk_many) machine_many volume_many conf_r9 8) machine_many (on 0 (190 ∷ 191 ∷ 192 ∷ 193 ∷ 194 ∷ 195 ∷ 196 ∷ 197 ∷ [])) (disks_of disk_many 0 0) ≡ file 512 (piece 0 (hex 9 0xeb7e4c494c4f010008) ∷ piece 14 (hex 5 0x0100010001) ∷ piece 24 (hex 15 0x018001000200030001800100060003) ∷ piece 48 (hex 23 0x0180010003000300018001000400030001800100050003) ∷ piece 128 (replicate 312 144) ∷ piece 450 (hex 10 0x8100000040000000c00f) ∷ piece 510 (hex 2 0x55aa) ∷ [])) × (map_size (planned (disks_of disk_many) machine_many volume_many conf_r9 8) machine_many ≡ 8)
unfolding number16 number32 is_zero has_ranges has_address is_slot is_one_slot chs_of address_of slot_of some_slot slot_at slot_bytes to_chs to_lba sector_at sectors_of place_at slot_make could_be_one named_device entry_at entries_of table_entries is_link is_plain link_of logical_of listed linked_sector chain_entries chain_tables partitions_of numbered_span span_of disk_name last_partition partition_name device_name devices_of named_devices device_at disk_number device_number kind_of super_of super_checks super_in super_at with_counts super_bytes v1_inode v2_inode inode_of inode_at v1_inode_bytes v2_inode_bytes inode_bytes kept_inode inode_place bit with_bit parts_of volume_at number_in follow pointer_by inside follow_at zone_at block_at content_at entry_of entries_in minixentries_entry_at find_entry entries_at is_dots components child find_path file_block file_at zone_number block content entry first_named lookup reached thing names names_in IsSound child_path path_of link_at section file_content section_bytes is_bootable has_signature has_options has_names has_slots has_no_message has_whole_message has_message has_zeros is_whole timeout_of table_slots boot_of boot_at field_bytes merged_sector is_set entry_name is_printable is_name has_flags has_video has_length has_main has_initrd has_extra is_entry descriptor_of entry_bytes same_name repeats breaks table_at descriptor_bytes options_at extra_at options_bytes extra_bytes is_line line_of line_at line_bytes is_same_line names_of_section names_of_config started menu_decision menu_boot file_of middle_text target_of menu_entries menu_of meant slot_to slots_for chain_for file_slots file_sectors section_sectors_at flags_of descriptor_for plan_entries sectors_of_table sectors_after plan_sectors map_size plan_names plan_boot plan_boot_sector devices_in inode_places mapped_inode file_inode mapped_section code_in planned
plan_by_chance_9 = (refl, refl, refl)

-- by chance 10
pub plan_by_chance_10 : (plan_sectors (planned (disks_of disk_many) machine_many volume_many conf_r10 278796641) machine_many (on 0 (190 ∷ 191 ∷ 192 ∷ 193 ∷ 194 ∷ 195 ∷ 196 ∷ 197 ∷ 198 ∷ 199 ∷ 200 ∷ 201 ∷ 202 ∷ 203 ∷ [])) ≡ (file 512 (piece 0 (codes "LINE") ∷ [])) ∷ (file 512 (piece 0 (codes "x2") ∷ piece 20 (hex 2 0x0510) ∷ piece 28 (hex 13 0x03800100c300000003800100c4) ∷ piece 52 (hex 1 0x01) ∷ piece 64 (codes "old") ∷ piece 80 (hex 39 0x4800000005100000dc05000003800100c500000003800100c600000003800100c7000000010001) ∷ piece 128 (codes "win") ∷ piece 144 (hex 52 0x4600000040060000bc02000003800100c800000003800100ca00000003800100cb0000000100010003800100c900000077696e32) ∷ piece 208 (hex 45 0x4600000040060000bc02000003800100c800000003800100ca00000003800100cb0000000100010003800100c9) ∷ [])) ∷ (file 512 []) ∷ (file 512 []) ∷ (file 512 []) ∷ (file 512 (piece 0 (hex 1 0x0b) ∷ piece 8 (codes " root=803 a") ∷ [])) ∷ (file 512 (piece 0 (hex 29 0x038004006000000003800100c200000003800100c20000000380030064) ∷ [])) ∷ (file 512 (piece 0 (hex 1 0x03) ∷ piece 8 (codes " ro") ∷ [])) ∷ (file 512 (piece 0 (hex 29 0x038004006000000003800100c200000003800100c20000000380030064) ∷ [])) ∷ (file 512 (piece 0 (hex 5 0x0380030072) ∷ [])) ∷ (file 512 []) ∷ (file 512 (piece 2 (hex 1 0x03) ∷ piece 480 (codes "abc") ∷ [])) ∷ (file 512 (piece 0 (hex 5 0x038004005c) ∷ [])) ∷ (file 512 (piece 0 (hex 5 0x0380020056) ∷ [])) ∷ []) × (plan_boot_sector (planned (disks_of disk_many) machine_many volume_many conf_r10 278796641) machine_many (on 0 (190 ∷ 191 ∷ 192 ∷ 193 ∷ 194 ∷ 195 ∷ 196 ∷ 197 ∷ 198 ∷ 199 ∷ 200 ∷ 201 ∷ 202 ∷ 203 ∷ [])) (disks_of disk_many 0 0) ≡ file 512 (piece 0 (hex 19 0xeb7e4c494c4f010061199e1001000000ffff04) ∷ piece 24 (hex 13 0x03800100be00000003800100c2) ∷ piece 48 (hex 21 0x03800100bf00000003800100c000000003800100c1) ∷ piece 128 (replicate 312 144) ∷ piece 450 (hex 10 0x8100000040000000c00f) ∷ piece 510 (hex 2 0x55aa) ∷ [])) × (map_size (planned (disks_of disk_many) machine_many volume_many conf_r10 278796641) machine_many ≡ 14)
unfolding number16 number32 is_zero has_ranges has_address is_slot is_one_slot chs_of address_of slot_of some_slot slot_at slot_bytes to_chs to_lba sector_at sectors_of place_at slot_make could_be_one named_device entry_at entries_of table_entries is_link is_plain link_of logical_of listed linked_sector chain_entries chain_tables partitions_of numbered_span span_of disk_name last_partition partition_name device_name devices_of named_devices device_at disk_number device_number kind_of super_of super_checks super_in super_at with_counts super_bytes v1_inode v2_inode inode_of inode_at v1_inode_bytes v2_inode_bytes inode_bytes kept_inode inode_place bit with_bit parts_of volume_at number_in follow pointer_by inside follow_at zone_at block_at content_at entry_of entries_in minixentries_entry_at find_entry entries_at is_dots components child find_path file_block file_at zone_number block content entry first_named lookup reached thing names names_in IsSound child_path path_of link_at section file_content section_bytes is_bootable has_signature has_options has_names has_slots has_no_message has_whole_message has_message has_zeros is_whole timeout_of table_slots boot_of boot_at field_bytes merged_sector is_set entry_name is_printable is_name has_flags has_video has_length has_main has_initrd has_extra is_entry descriptor_of entry_bytes same_name repeats breaks table_at descriptor_bytes options_at extra_at options_bytes extra_bytes is_line line_of line_at line_bytes is_same_line names_of_section names_of_config started menu_decision menu_boot file_of middle_text target_of menu_entries menu_of meant slot_to slots_for chain_for file_slots file_sectors section_sectors_at flags_of descriptor_for plan_entries sectors_of_table sectors_after plan_sectors map_size plan_names plan_boot plan_boot_sector devices_in inode_places mapped_inode file_inode mapped_section code_in planned
plan_by_chance_10 = (refl, refl, refl)

-- by chance 11
pub plan_by_chance_11 : (plan_sectors (planned (disks_of disk_many) machine_many volume_many conf_r11 1248210110) machine_many (on 0 (190 ∷ 191 ∷ 192 ∷ 193 ∷ 194 ∷ 195 ∷ 196 ∷ [])) ≡ (file 512 (piece 0 (codes "LINE") ∷ [])) ∷ (file 512 (piece 0 (codes "x2") ∷ piece 20 (hex 2 0x0504) ∷ piece 28 (hex 13 0x02800100c300000002800100c4) ∷ piece 52 (hex 1 0x01) ∷ piece 64 (codes "x22") ∷ piece 84 (hex 2 0x0504) ∷ piece 92 (hex 13 0x02800100c300000002800100c4) ∷ piece 116 (hex 1 0x01) ∷ [])) ∷ (file 512 []) ∷ (file 512 []) ∷ (file 512 []) ∷ (file 512 (piece 0 (hex 1 0x04) ∷ piece 8 (codes " x y") ∷ [])) ∷ (file 512 (piece 0 (hex 21 0x028001005200000002800100530000000280010054) ∷ [])) ∷ []) × (plan_boot_sector (planned (disks_of disk_many) machine_many volume_many conf_r11 1248210110) machine_many (on 0 (190 ∷ 191 ∷ 192 ∷ 193 ∷ 194 ∷ 195 ∷ 196 ∷ [])) (disks_of disk_many 0 0) ≡ file 512 (piece 0 (hex 19 0xeb7e4c494c4f0100be2c664a01001400ffff02) ∷ piece 24 (hex 13 0x02800100be00000002800100c2) ∷ piece 48 (hex 21 0x02800100bf00000002800100c000000002800100c1) ∷ piece 128 (replicate 312 144) ∷ piece 450 (hex 10 0x8100000040000000c00f) ∷ piece 510 (hex 2 0x55aa) ∷ [])) × (map_size (planned (disks_of disk_many) machine_many volume_many conf_r11 1248210110) machine_many ≡ 7)
unfolding number16 number32 is_zero has_ranges has_address is_slot is_one_slot chs_of address_of slot_of some_slot slot_at slot_bytes to_chs to_lba sector_at sectors_of place_at slot_make could_be_one named_device entry_at entries_of table_entries is_link is_plain link_of logical_of listed linked_sector chain_entries chain_tables partitions_of numbered_span span_of disk_name last_partition partition_name device_name devices_of named_devices device_at disk_number device_number kind_of super_of super_checks super_in super_at with_counts super_bytes v1_inode v2_inode inode_of inode_at v1_inode_bytes v2_inode_bytes inode_bytes kept_inode inode_place bit with_bit parts_of volume_at number_in follow pointer_by inside follow_at zone_at block_at content_at entry_of entries_in minixentries_entry_at find_entry entries_at is_dots components child find_path file_block file_at zone_number block content entry first_named lookup reached thing names names_in IsSound child_path path_of link_at section file_content section_bytes is_bootable has_signature has_options has_names has_slots has_no_message has_whole_message has_message has_zeros is_whole timeout_of table_slots boot_of boot_at field_bytes merged_sector is_set entry_name is_printable is_name has_flags has_video has_length has_main has_initrd has_extra is_entry descriptor_of entry_bytes same_name repeats breaks table_at descriptor_bytes options_at extra_at options_bytes extra_bytes is_line line_of line_at line_bytes is_same_line names_of_section names_of_config started menu_decision menu_boot file_of middle_text target_of menu_entries menu_of meant slot_to slots_for chain_for file_slots file_sectors section_sectors_at flags_of descriptor_for plan_entries sectors_of_table sectors_after plan_sectors map_size plan_names plan_boot plan_boot_sector devices_in inode_places mapped_inode file_inode mapped_section code_in planned
plan_by_chance_11 = (refl, refl, refl)

-- by chance 12
pub plan_by_chance_12 : (plan_sectors (planned (disks_of disk_many) machine_many volume_many conf_r12 11) machine_many (on 0 (190 ∷ 191 ∷ 192 ∷ 193 ∷ 194 ∷ 195 ∷ 196 ∷ 197 ∷ 198 ∷ [])) ≡ (file 512 (piece 0 (codes "LINE") ∷ [])) ∷ (file 512 (piece 0 (codes "win") ∷ piece 16 (hex 39 0x4800000005040000bc02000001800100080003000180010009000300018001000a000300010001) ∷ [])) ∷ (file 512 []) ∷ (file 512 []) ∷ (file 512 []) ∷ (file 512 (piece 0 (hex 7 0x018001001c0001) ∷ [])) ∷ (file 512 (piece 0 (hex 1 0x09) ∷ piece 8 (codes " root=801") ∷ [])) ∷ (file 512 (piece 0 (hex 7 0x01800300140001) ∷ [])) ∷ (file 512 (piece 0 (hex 7 0x01800200180001) ∷ [])) ∷ []) × (plan_boot_sector (planned (disks_of disk_many) machine_many volume_many conf_r12 11) machine_many (on 0 (190 ∷ 191 ∷ 192 ∷ 193 ∷ 194 ∷ 195 ∷ 196 ∷ 197 ∷ 198 ∷ [])) (disks_of disk_many 0 0) ≡ file 512 (piece 0 (hex 9 0xeb7e4c494c4f01000b) ∷ piece 14 (hex 57 0x0100320001000c0001000180010002000300018001000600030001800100070003000180010003000300018001000400030001800100050003) ∷ piece 450 (hex 10 0x8100000040000000c00f) ∷ piece 510 (hex 2 0x55aa) ∷ [])) × (map_size (planned (disks_of disk_many) machine_many volume_many conf_r12 11) machine_many ≡ 9)
unfolding number16 number32 is_zero has_ranges has_address is_slot is_one_slot chs_of address_of slot_of some_slot slot_at slot_bytes to_chs to_lba sector_at sectors_of place_at slot_make could_be_one named_device entry_at entries_of table_entries is_link is_plain link_of logical_of listed linked_sector chain_entries chain_tables partitions_of numbered_span span_of disk_name last_partition partition_name device_name devices_of named_devices device_at disk_number device_number kind_of super_of super_checks super_in super_at with_counts super_bytes v1_inode v2_inode inode_of inode_at v1_inode_bytes v2_inode_bytes inode_bytes kept_inode inode_place bit with_bit parts_of volume_at number_in follow pointer_by inside follow_at zone_at block_at content_at entry_of entries_in minixentries_entry_at find_entry entries_at is_dots components child find_path file_block file_at zone_number block content entry first_named lookup reached thing names names_in IsSound child_path path_of link_at section file_content section_bytes is_bootable has_signature has_options has_names has_slots has_no_message has_whole_message has_message has_zeros is_whole timeout_of table_slots boot_of boot_at field_bytes merged_sector is_set entry_name is_printable is_name has_flags has_video has_length has_main has_initrd has_extra is_entry descriptor_of entry_bytes same_name repeats breaks table_at descriptor_bytes options_at extra_at options_bytes extra_bytes is_line line_of line_at line_bytes is_same_line names_of_section names_of_config started menu_decision menu_boot file_of middle_text target_of menu_entries menu_of meant slot_to slots_for chain_for file_slots file_sectors section_sectors_at flags_of descriptor_for plan_entries sectors_of_table sectors_after plan_sectors map_size plan_names plan_boot plan_boot_sector devices_in inode_places mapped_inode file_inode mapped_section code_in planned
plan_by_chance_12 = (refl, refl, refl)

-- by chance 13
pub plan_by_chance_13 : (plan_sectors (planned (disks_of disk_many) machine_many volume_many conf_r13 4021317180) machine_many (on 0 (247 ∷ 1147 ∷ []) ++ on 1 (1186 ∷ []) ++ on 0 (3051 ∷ 1712 ∷ 1559 ∷ []) ++ on 1 (1429 ∷ []) ++ on 0 (3905 ∷ [])) ≡ (file 512 (piece 0 (codes "LINE") ∷ [])) ∷ (file 512 (piece 0 (codes "old") ∷ piece 16 (hex 6 0x100000000510) ∷ piece 28 (hex 15 0x0180010030010800018001003f030d) ∷ piece 52 (hex 10 0x01000000018101000215) ∷ [])) ∷ (file 512 []) ∷ (file 512 []) ∷ (file 512 []) ∷ (file 512 (piece 0 (hex 1 0x14) ∷ piece 8 (codes " root=803 mem=64M  y") ∷ [])) ∷ (file 512 (piece 0 (hex 7 0x030000006f6c64) ∷ [])) ∷ (file 512 (piece 0 (hex 71 0x0180010022000100018001002300010001800100240001000180010025000100018001000c010b00018001000c010b000180010026000100018001002700010001800100280001) ∷ [])) ∷ []) × (plan_boot_sector (planned (disks_of disk_many) machine_many volume_many conf_r13 4021317180) machine_many (on 0 (247 ∷ 1147 ∷ []) ++ on 1 (1186 ∷ []) ++ on 0 (3051 ∷ 1712 ∷ 1559 ∷ []) ++ on 1 (1429 ∷ []) ++ on 0 (3905 ∷ [])) (disks_of disk_many 0 0) ≡ file 512 (piece 0 (hex 12 0xeb7e4c494c4f01003c6eb0ef) ∷ piece 16 (hex 3 0xffff01) ∷ piece 24 (hex 15 0x018001003b000300018001000c010b) ∷ piece 48 (hex 22 0x018001000e010200018101000e110100018001001c03) ∷ piece 450 (hex 10 0x8100000040000000c00f) ∷ piece 510 (hex 2 0x55aa) ∷ [])) × (map_size (planned (disks_of disk_many) machine_many volume_many conf_r13 4021317180) machine_many ≡ 8)
unfolding number16 number32 is_zero has_ranges has_address is_slot is_one_slot chs_of address_of slot_of some_slot slot_at slot_bytes to_chs to_lba sector_at sectors_of place_at slot_make could_be_one named_device entry_at entries_of table_entries is_link is_plain link_of logical_of listed linked_sector chain_entries chain_tables partitions_of numbered_span span_of disk_name last_partition partition_name device_name devices_of named_devices device_at disk_number device_number kind_of super_of super_checks super_in super_at with_counts super_bytes v1_inode v2_inode inode_of inode_at v1_inode_bytes v2_inode_bytes inode_bytes kept_inode inode_place bit with_bit parts_of volume_at number_in follow pointer_by inside follow_at zone_at block_at content_at entry_of entries_in minixentries_entry_at find_entry entries_at is_dots components child find_path file_block file_at zone_number block content entry first_named lookup reached thing names names_in IsSound child_path path_of link_at section file_content section_bytes is_bootable has_signature has_options has_names has_slots has_no_message has_whole_message has_message has_zeros is_whole timeout_of table_slots boot_of boot_at field_bytes merged_sector is_set entry_name is_printable is_name has_flags has_video has_length has_main has_initrd has_extra is_entry descriptor_of entry_bytes same_name repeats breaks table_at descriptor_bytes options_at extra_at options_bytes extra_bytes is_line line_of line_at line_bytes is_same_line names_of_section names_of_config started menu_decision menu_boot file_of middle_text target_of menu_entries menu_of meant slot_to slots_for chain_for file_slots file_sectors section_sectors_at flags_of descriptor_for plan_entries sectors_of_table sectors_after plan_sectors map_size plan_names plan_boot plan_boot_sector devices_in inode_places mapped_inode file_inode mapped_section code_in planned
plan_by_chance_13 = (refl, refl, refl)

-- by chance 14
pub plan_by_chance_14 : (plan_sectors (planned (disks_of disk_many) machine_many volume_many conf_r14 3382071841) machine_many (on 0 (190 ∷ 191 ∷ 192 ∷ 193 ∷ 194 ∷ 195 ∷ 196 ∷ 197 ∷ 198 ∷ 199 ∷ 200 ∷ 201 ∷ [])) ≡ (file 512 (piece 0 (codes "LINE") ∷ [])) ∷ (file 512 (piece 0 (codes "win") ∷ piece 16 (hex 6 0x16000000e880) ∷ piece 28 (hex 13 0x03800100c300000003800100c5) ∷ piece 52 (hex 17 0x0100000003800100c40000006c696e7578) ∷ piece 80 (hex 45 0x46000000050a0000bc02000003800100c600000003800100c800000003800100c90000000100010003800100c7) ∷ [])) ∷ (file 512 []) ∷ (file 512 []) ∷ (file 512 []) ∷ (file 512 []) ∷ (file 512 (piece 0 (hex 7 0x0300030077696e) ∷ piece 480 (codes "tux") ∷ [])) ∷ (file 512 (piece 0 (hex 5 0x0380410076) ∷ [])) ∷ (file 512 (piece 0 (hex 1 0x07) ∷ piece 8 (codes " single") ∷ [])) ∷ (file 512 (piece 2 (hex 1 0x03) ∷ piece 480 (codes "abc") ∷ [])) ∷ (file 512 (piece 0 (hex 29 0x038002006c00000003800100c200000003800100c2000000038002006e) ∷ [])) ∷ (file 512 (piece 0 (hex 5 0x0380020056) ∷ [])) ∷ []) × (plan_boot_sector (planned (disks_of disk_many) machine_many volume_many conf_r14 3382071841) machine_many (on 0 (190 ∷ 191 ∷ 192 ∷ 193 ∷ 194 ∷ 195 ∷ 196 ∷ 197 ∷ 198 ∷ 199 ∷ 200 ∷ 201 ∷ [])) (disks_of disk_many 0 0) ≡ file 512 (piece 0 (hex 19 0xeb7e4c494c4f0100215296c901001400ffff02) ∷ piece 24 (hex 13 0x03800100be00000003800100c2) ∷ piece 48 (hex 21 0x03800100bf00000003800100c000000003800100c1) ∷ piece 96 (hex 1 0x01) ∷ piece 128 (replicate 312 144) ∷ piece 450 (hex 10 0x8100000040000000c00f) ∷ piece 510 (hex 2 0x55aa) ∷ [])) × (map_size (planned (disks_of disk_many) machine_many volume_many conf_r14 3382071841) machine_many ≡ 12)
unfolding number16 number32 is_zero has_ranges has_address is_slot is_one_slot chs_of address_of slot_of some_slot slot_at slot_bytes to_chs to_lba sector_at sectors_of place_at slot_make could_be_one named_device entry_at entries_of table_entries is_link is_plain link_of logical_of listed linked_sector chain_entries chain_tables partitions_of numbered_span span_of disk_name last_partition partition_name device_name devices_of named_devices device_at disk_number device_number kind_of super_of super_checks super_in super_at with_counts super_bytes v1_inode v2_inode inode_of inode_at v1_inode_bytes v2_inode_bytes inode_bytes kept_inode inode_place bit with_bit parts_of volume_at number_in follow pointer_by inside follow_at zone_at block_at content_at entry_of entries_in minixentries_entry_at find_entry entries_at is_dots components child find_path file_block file_at zone_number block content entry first_named lookup reached thing names names_in IsSound child_path path_of link_at section file_content section_bytes is_bootable has_signature has_options has_names has_slots has_no_message has_whole_message has_message has_zeros is_whole timeout_of table_slots boot_of boot_at field_bytes merged_sector is_set entry_name is_printable is_name has_flags has_video has_length has_main has_initrd has_extra is_entry descriptor_of entry_bytes same_name repeats breaks table_at descriptor_bytes options_at extra_at options_bytes extra_bytes is_line line_of line_at line_bytes is_same_line names_of_section names_of_config started menu_decision menu_boot file_of middle_text target_of menu_entries menu_of meant slot_to slots_for chain_for file_slots file_sectors section_sectors_at flags_of descriptor_for plan_entries sectors_of_table sectors_after plan_sectors map_size plan_names plan_boot plan_boot_sector devices_in inode_places mapped_inode file_inode mapped_section code_in planned
plan_by_chance_14 = (refl, refl, refl)

-- by chance 15
pub plan_by_chance_15 : (plan_sectors (planned (disks_of disk_many) machine_many volume_many conf_r15 14) machine_many (on 0 (190 ∷ 191 ∷ 192 ∷ 193 ∷ 194 ∷ 195 ∷ 196 ∷ [])) ≡ (file 512 (piece 0 (codes "LINE") ∷ [])) ∷ (file 512 (piece 0 (codes "linux") ∷ piece 20 (hex 2 0xe880) ∷ piece 28 (hex 13 0x03800100c300000003800100c4) ∷ piece 52 (hex 1 0x01) ∷ piece 64 (codes "linux2") ∷ piece 84 (hex 2 0xe880) ∷ piece 92 (hex 13 0x03800100c300000003800100c4) ∷ piece 116 (hex 1 0x01) ∷ [])) ∷ (file 512 []) ∷ (file 512 []) ∷ (file 512 []) ∷ (file 512 []) ∷ (file 512 (piece 0 (hex 5 0x0380410076) ∷ [])) ∷ []) × (plan_boot_sector (planned (disks_of disk_many) machine_many volume_many conf_r15 14) machine_many (on 0 (190 ∷ 191 ∷ 192 ∷ 193 ∷ 194 ∷ 195 ∷ 196 ∷ [])) (disks_of disk_many 0 0) ≡ file 512 (piece 0 (hex 9 0xeb7e4c494c4f01000e) ∷ piece 14 (hex 5 0x1400580202) ∷ piece 24 (hex 13 0x03800100be00000003800100c2) ∷ piece 48 (hex 21 0x03800100bf00000003800100c000000003800100c1) ∷ piece 450 (hex 10 0x8100000040000000c00f) ∷ piece 510 (hex 2 0x55aa) ∷ [])) × (map_size (planned (disks_of disk_many) machine_many volume_many conf_r15 14) machine_many ≡ 7)
unfolding number16 number32 is_zero has_ranges has_address is_slot is_one_slot chs_of address_of slot_of some_slot slot_at slot_bytes to_chs to_lba sector_at sectors_of place_at slot_make could_be_one named_device entry_at entries_of table_entries is_link is_plain link_of logical_of listed linked_sector chain_entries chain_tables partitions_of numbered_span span_of disk_name last_partition partition_name device_name devices_of named_devices device_at disk_number device_number kind_of super_of super_checks super_in super_at with_counts super_bytes v1_inode v2_inode inode_of inode_at v1_inode_bytes v2_inode_bytes inode_bytes kept_inode inode_place bit with_bit parts_of volume_at number_in follow pointer_by inside follow_at zone_at block_at content_at entry_of entries_in minixentries_entry_at find_entry entries_at is_dots components child find_path file_block file_at zone_number block content entry first_named lookup reached thing names names_in IsSound child_path path_of link_at section file_content section_bytes is_bootable has_signature has_options has_names has_slots has_no_message has_whole_message has_message has_zeros is_whole timeout_of table_slots boot_of boot_at field_bytes merged_sector is_set entry_name is_printable is_name has_flags has_video has_length has_main has_initrd has_extra is_entry descriptor_of entry_bytes same_name repeats breaks table_at descriptor_bytes options_at extra_at options_bytes extra_bytes is_line line_of line_at line_bytes is_same_line names_of_section names_of_config started menu_decision menu_boot file_of middle_text target_of menu_entries menu_of meant slot_to slots_for chain_for file_slots file_sectors section_sectors_at flags_of descriptor_for plan_entries sectors_of_table sectors_after plan_sectors map_size plan_names plan_boot plan_boot_sector devices_in inode_places mapped_inode file_inode mapped_section code_in planned
plan_by_chance_15 = (refl, refl, refl)

-- by chance 16
pub plan_by_chance_16 : (plan_sectors (planned (disks_of disk_many) machine_many volume_many conf_r16 280824922) machine_many (on 0 (190 ∷ 191 ∷ 192 ∷ 193 ∷ 194 ∷ 195 ∷ 196 ∷ 197 ∷ 198 ∷ [])) ≡ (file 512 (piece 0 (codes "LINE") ∷ [])) ∷ (file 512 (piece 0 (codes "win") ∷ piece 16 (hex 6 0x200001030504) ∷ piece 28 (hex 13 0x02800100c300000002800100c4) ∷ piece 52 (hex 1 0x01) ∷ piece 64 (codes "a") ∷ piece 84 (hex 2 0x050a) ∷ piece 92 (hex 13 0x02800100c500000002800100c6) ∷ piece 116 (hex 1 0x01) ∷ [])) ∷ (file 512 []) ∷ (file 512 []) ∷ (file 512 []) ∷ (file 512 (piece 0 (hex 1 0x04) ∷ piece 8 (codes " x y") ∷ [])) ∷ (file 512 (piece 0 (hex 21 0x02800100680000000280010069000000028001006a) ∷ [])) ∷ (file 512 (piece 0 (hex 1 0x09) ∷ piece 8 (codes " root=801") ∷ [])) ∷ (file 512 (piece 0 (hex 45 0x028001006c000000028001006d00000002800100c200000002800100c2000000028001006e000000028001006f) ∷ [])) ∷ []) × (plan_boot_sector (planned (disks_of disk_many) machine_many volume_many conf_r16 280824922) machine_many (on 0 (190 ∷ 191 ∷ 192 ∷ 193 ∷ 194 ∷ 195 ∷ 196 ∷ 197 ∷ 198 ∷ [])) (disks_of disk_many 0 0) ≡ file 512 (piece 0 (hex 19 0xeb7e4c494c4f01005a0cbd1001000300050002) ∷ piece 24 (hex 13 0x02800100be00000002800100c2) ∷ piece 48 (hex 21 0x02800100bf00000002800100c000000002800100c1) ∷ piece 128 (replicate 312 144) ∷ piece 450 (hex 10 0x8100000040000000c00f) ∷ piece 510 (hex 2 0x55aa) ∷ [])) × (map_size (planned (disks_of disk_many) machine_many volume_many conf_r16 280824922) machine_many ≡ 9)
unfolding number16 number32 is_zero has_ranges has_address is_slot is_one_slot chs_of address_of slot_of some_slot slot_at slot_bytes to_chs to_lba sector_at sectors_of place_at slot_make could_be_one named_device entry_at entries_of table_entries is_link is_plain link_of logical_of listed linked_sector chain_entries chain_tables partitions_of numbered_span span_of disk_name last_partition partition_name device_name devices_of named_devices device_at disk_number device_number kind_of super_of super_checks super_in super_at with_counts super_bytes v1_inode v2_inode inode_of inode_at v1_inode_bytes v2_inode_bytes inode_bytes kept_inode inode_place bit with_bit parts_of volume_at number_in follow pointer_by inside follow_at zone_at block_at content_at entry_of entries_in minixentries_entry_at find_entry entries_at is_dots components child find_path file_block file_at zone_number block content entry first_named lookup reached thing names names_in IsSound child_path path_of link_at section file_content section_bytes is_bootable has_signature has_options has_names has_slots has_no_message has_whole_message has_message has_zeros is_whole timeout_of table_slots boot_of boot_at field_bytes merged_sector is_set entry_name is_printable is_name has_flags has_video has_length has_main has_initrd has_extra is_entry descriptor_of entry_bytes same_name repeats breaks table_at descriptor_bytes options_at extra_at options_bytes extra_bytes is_line line_of line_at line_bytes is_same_line names_of_section names_of_config started menu_decision menu_boot file_of middle_text target_of menu_entries menu_of meant slot_to slots_for chain_for file_slots file_sectors section_sectors_at flags_of descriptor_for plan_entries sectors_of_table sectors_after plan_sectors map_size plan_names plan_boot plan_boot_sector devices_in inode_places mapped_inode file_inode mapped_section code_in planned
plan_by_chance_16 = (refl, refl, refl)

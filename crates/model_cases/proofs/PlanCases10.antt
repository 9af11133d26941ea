-- Cases of the model, written by tools/plan_cases.py: the sectors of planned maps, and their boot sectors.
use Rattle.std.proofs.Common.{◌≡◌, ◌∷◌, [], codes, replicate, refl}
use Rattle.lilo_model.specs.BootSector.{is_bootable, has_signature, has_options, has_names, has_slots, has_no_message, has_whole_message, has_message, has_zeros, is_whole, timeout_of, table_slots, boot_of, boot_at, field_bytes, merged_sector}
use Rattle.lilo_model.specs.Bytes.{number16, number32, is_zero}
use Rattle.lilo_model.specs.ConfLawful.{names_of_section, names_of_config}
use Rattle.lilo_model.specs.Devices.{disk_name, last_partition, partition_name, device_name, devices_of, named_devices, device_at, disk_number, device_number}
use Rattle.lilo_model.specs.LineSector.{is_line, line_of, line_at, line_bytes, is_same_line}
use Rattle.lilo_model.specs.Meant.{started, menu_decision, menu_boot, file_of, middle_text, target_of, menu_entries, menu_of, meant}
use Rattle.lilo_model.specs.MinixEntries.{entry_of, entries_in, entry_at as minixentries_entry_at, find_entry, entries_at, is_dots}
use Rattle.lilo_model.specs.MinixFind.{components, child, find_path, file_block, file_at}
use Rattle.lilo_model.specs.MinixFindNames.{child_path, path_of}
use Rattle.lilo_model.specs.MinixLayout.{kind_of, super_of, super_checks, super_in, super_at, with_counts, super_bytes, v1_inode, v2_inode, inode_of, inode_at, v1_inode_bytes, v2_inode_bytes, inode_bytes, kept_inode, inode_place}
use Rattle.lilo_model.specs.MinixNames.{zone_number, block, content, entry, first_named, lookup, reached, thing, names, names_in, IsSound}
use Rattle.lilo_model.specs.MinixParts.{bit, with_bit, parts_of, volume_at, number_in, follow, pointer_by, inside, follow_at, zone_at, block_at, content_at}
use Rattle.lilo_model.specs.Options.{options_at, extra_at, options_bytes, extra_bytes}
use Rattle.lilo_model.specs.Partitions.{named_device, entry_at, entries_of, table_entries, is_link, is_plain, link_of, logical_of, listed, linked_sector, chain_entries, chain_tables, partitions_of, numbered_span, span_of}
use Rattle.lilo_model.specs.Plan.{slot_to, slots_for, chain_for, file_slots, file_sectors, section_sectors_at, flags_of, descriptor_for, plan_entries, sectors_of_table, sectors_after, plan_sectors, map_size, plan_names, plan_boot, plan_boot_sector}
use Rattle.lilo_model.specs.Planned.{devices_in, inode_places, mapped_inode, file_inode, mapped_section, code_in, planned}
use Rattle.lilo_model.specs.Section.{link_at, section, file_content, section_bytes}
use Rattle.lilo_model.specs.Slots.{has_ranges, has_address, is_slot, is_one_slot, chs_of, address_of, slot_of, some_slot, slot_at, slot_bytes, to_chs, to_lba, sector_at, sectors_of, place_at, slot_make, could_be_one}
use Rattle.lilo_model.specs.Table.{is_set, entry_name, is_printable, is_name, has_flags, has_video, has_length, has_main, has_initrd, has_extra, is_entry, descriptor_of, entry_bytes, same_name, repeats, breaks, table_at, descriptor_bytes}
use Rattle.model_cases.specs.Sparse.{hex, piece, file, disks_of, on}
use Rattle.model_cases.specs.PlanChanceConfs2.{conf_r49, conf_r50, conf_r51, conf_r52, conf_r53, conf_r54, conf_r55, conf_r56}
use Rattle.model_cases.specs.PlanDisks.{disk_many}
use Rattle.model_cases.specs.PlanVolumes.{machine_many, volume_many}

-- by chance 49
pub plan_by_chance_49 : (plan_sectors (planned (disks_of disk_many) machine_many volume_many conf_r49 1966644298) machine_many (on 0 (190 ∷ 191 ∷ 192 ∷ 193 ∷ 194 ∷ 195 ∷ 196 ∷ 197 ∷ 198 ∷ [])) ≡ (file 512 (piece 0 (codes "LINE") ∷ [])) ∷ (file 512 (piece 0 (codes "x2") ∷ piece 20 (hex 2 0x4006) ∷ piece 28 (hex 15 0x018001000700030001800100080003) ∷ piece 52 (hex 1 0x01) ∷ piece 64 (codes "x22") ∷ piece 84 (hex 2 0x4006) ∷ piece 92 (hex 15 0x018001000700030001800100080003) ∷ piece 116 (hex 1 0x01) ∷ piece 128 (codes "old") ∷ piece 144 (hex 6 0x080000004006) ∷ piece 156 (hex 15 0x0180010009000300018001000a0003) ∷ piece 180 (hex 1 0x01) ∷ [])) ∷ (file 512 []) ∷ (file 512 []) ∷ (file 512 []) ∷ (file 512 (piece 0 (hex 1 0x0c) ∷ piece 8 (codes " rw root=803") ∷ [])) ∷ (file 512 (piece 0 (hex 31 0x018001001e000100018001001f000100018001002000010001800100210001) ∷ [])) ∷ (file 512 (piece 0 (hex 1 0x12) ∷ piece 8 (codes " rw root=801 quiet") ∷ [])) ∷ (file 512 (piece 0 (hex 31 0x018001001e000100018001001f000100018001002000010001800100210001) ∷ [])) ∷ []) × (plan_boot_sector (planned (disks_of disk_many) machine_many volume_many conf_r49 1966644298) machine_many (on 0 (190 ∷ 191 ∷ 192 ∷ 193 ∷ 194 ∷ 195 ∷ 196 ∷ 197 ∷ 198 ∷ [])) (disks_of disk_many 0 0) ≡ file 512 (piece 0 (hex 12 0xeb7e4c494c4f01004a9c3875) ∷ piece 16 (hex 3 0xffff03) ∷ piece 24 (hex 15 0x018001000200030001800100060003) ∷ piece 48 (hex 23 0x0180010003000300018001000400030001800100050003) ∷ piece 128 (replicate 312 144) ∷ piece 450 (hex 10 0x8100000040000000c00f) ∷ piece 510 (hex 2 0x55aa) ∷ [])) × (map_size (planned (disks_of disk_many) machine_many volume_many conf_r49 1966644298) machine_many ≡ 9)
unfolding number16 number32 is_zero has_ranges has_address is_slot is_one_slot chs_of address_of slot_of some_slot slot_at slot_bytes to_chs to_lba sector_at sectors_of place_at slot_make could_be_one named_device entry_at entries_of table_entries is_link is_plain link_of logical_of listed linked_sector chain_entries chain_tables partitions_of numbered_span span_of disk_name last_partition partition_name device_name devices_of named_devices device_at disk_number device_number kind_of super_of super_checks super_in super_at with_counts super_bytes v1_inode v2_inode inode_of inode_at v1_inode_bytes v2_inode_bytes inode_bytes kept_inode inode_place bit with_bit parts_of volume_at number_in follow pointer_by inside follow_at zone_at block_at content_at entry_of entries_in minixentries_entry_at find_entry entries_at is_dots components child find_path file_block file_at zone_number block content entry first_named lookup reached thing names names_in IsSound child_path path_of link_at section file_content section_bytes is_bootable has_signature has_options has_names has_slots has_no_message has_whole_message has_message has_zeros is_whole timeout_of table_slots boot_of boot_at field_bytes merged_sector is_set entry_name is_printable is_name has_flags has_video has_length has_main has_initrd has_extra is_entry descriptor_of entry_bytes same_name repeats breaks table_at descriptor_bytes options_at extra_at options_bytes extra_bytes is_line line_of line_at line_bytes is_same_line names_of_section names_of_config started menu_decision menu_boot file_of middle_text target_of menu_entries menu_of meant slot_to slots_for chain_for file_slots file_sectors section_sectors_at flags_of descriptor_for plan_entries sectors_of_table sectors_after plan_sectors map_size plan_names plan_boot plan_boot_sector devices_in inode_places mapped_inode file_inode mapped_section code_in planned
plan_by_chance_49 = (refl, refl, refl)

-- by chance 50
pub plan_by_chance_50 : (plan_sectors (planned (disks_of disk_many) machine_many volume_many conf_r50 122309640) machine_many (on 0 (190 ∷ 191 ∷ 192 ∷ 193 ∷ 194 ∷ 195 ∷ 196 ∷ 197 ∷ 198 ∷ [])) ≡ (file 512 (piece 0 (codes "LINE") ∷ [])) ∷ (file 512 (piece 0 (codes "win") ∷ piece 16 (hex 39 0x4800000005100000dc05000001800100080003000180010009000300018001000a000300010001) ∷ piece 64 (codes "win2") ∷ piece 80 (hex 39 0x4800000005100000dc05000001800100080003000180010009000300018001000a000300010001) ∷ [])) ∷ (file 512 []) ∷ (file 512 []) ∷ (file 512 []) ∷ (file 512 (piece 0 (hex 7 0x018001001c0001) ∷ [])) ∷ (file 512 []) ∷ (file 512 (piece 0 (hex 71 0x0180010022000100018001002300010001800100240001000180010025000100018001000600030001800100060003000180010026000100018001002700010001800100280001) ∷ [])) ∷ (file 512 (piece 0 (hex 23 0x0180010034000100018001003500010001800100360001) ∷ [])) ∷ []) × (plan_boot_sector (planned (disks_of disk_many) machine_many volume_many conf_r50 122309640) machine_many (on 0 (190 ∷ 191 ∷ 192 ∷ 193 ∷ 194 ∷ 195 ∷ 196 ∷ 197 ∷ 198 ∷ [])) (disks_of disk_many 0 0) ≡ file 512 (piece 0 (hex 71 0xeb7e4c494c4f0100084c4a0700001400ffff02000c0001000180010002000300018001000600030001800100070003000180010003000300018001000400030001800100050003) ∷ piece 96 (hex 1 0x01) ∷ piece 128 (replicate 312 144) ∷ piece 450 (hex 10 0x8100000040000000c00f) ∷ piece 510 (hex 2 0x55aa) ∷ [])) × (map_size (planned (disks_of disk_many) machine_many volume_many conf_r50 122309640) machine_many ≡ 9)
unfolding number16 number32 is_zero has_ranges has_address is_slot is_one_slot chs_of address_of slot_of some_slot slot_at slot_bytes to_chs to_lba sector_at sectors_of place_at slot_make could_be_one named_device entry_at entries_of table_entries is_link is_plain link_of logical_of listed linked_sector chain_entries chain_tables partitions_of numbered_span span_of disk_name last_partition partition_name device_name devices_of named_devices device_at disk_number device_number kind_of super_of super_checks super_in super_at with_counts super_bytes v1_inode v2_inode inode_of inode_at v1_inode_bytes v2_inode_bytes inode_bytes kept_inode inode_place bit with_bit parts_of volume_at number_in follow pointer_by inside follow_at zone_at block_at content_at entry_of entries_in minixentries_entry_at find_entry entries_at is_dots components child find_path file_block file_at zone_number block content entry first_named lookup reached thing names names_in IsSound child_path path_of link_at section file_content section_bytes is_bootable has_signature has_options has_names has_slots has_no_message has_whole_message has_message has_zeros is_whole timeout_of table_slots boot_of boot_at field_bytes merged_sector is_set entry_name is_printable is_name has_flags has_video has_length has_main has_initrd has_extra is_entry descriptor_of entry_bytes same_name repeats breaks table_at descriptor_bytes options_at extra_at options_bytes extra_bytes is_line line_of line_at line_bytes is_same_line names_of_section names_of_config started menu_decision menu_boot file_of middle_text target_of menu_entries menu_of meant slot_to slots_for chain_for file_slots file_sectors section_sectors_at flags_of descriptor_for plan_entries sectors_of_table sectors_after plan_sectors map_size plan_names plan_boot plan_boot_sector devices_in inode_places mapped_inode file_inode mapped_section code_in planned
plan_by_chance_50 = (refl, refl, refl)

-- by chance 51
pub plan_by_chance_51 : (plan_sectors (planned (disks_of disk_many) machine_many volume_many conf_r51 50) machine_many (on 0 (190 ∷ 191 ∷ 192 ∷ 193 ∷ 194 ∷ 195 ∷ 196 ∷ 197 ∷ [])) ≡ (file 512 (piece 0 (codes "LINE") ∷ [])) ∷ (file 512 (piece 0 (codes "a") ∷ piece 16 (hex 39 0x4000000040060000bc02000003800100c300000003800100c400000003800100c5000000010001) ∷ [])) ∷ (file 512 []) ∷ (file 512 []) ∷ (file 512 []) ∷ (file 512 (piece 0 (hex 1 0x07) ∷ piece 8 (codes " single") ∷ [])) ∷ (file 512 (piece 0 (hex 29 0x038001005c000000038001005d000000038001005e000000038001005f) ∷ [])) ∷ (file 512 (piece 0 (hex 13 0x03800100560000000380010057) ∷ [])) ∷ []) × (plan_boot_sector (planned (disks_of disk_many) machine_many volume_many conf_r51 50) machine_many (on 0 (190 ∷ 191 ∷ 192 ∷ 193 ∷ 194 ∷ 195 ∷ 196 ∷ 197 ∷ [])) (disks_of disk_many 0 0) ≡ file 512 (piece 0 (hex 9 0xeb7e4c494c4f010032) ∷ piece 14 (hex 5 0x0300ffff01) ∷ piece 24 (hex 13 0x03800100be00000003800100c2) ∷ piece 48 (hex 21 0x03800100bf00000003800100c000000003800100c1) ∷ piece 128 (replicate 312 144) ∷ piece 450 (hex 10 0x8100000040000000c00f) ∷ piece 510 (hex 2 0x55aa) ∷ [])) × (map_size (planned (disks_of disk_many) machine_many volume_many conf_r51 50) machine_many ≡ 8)
unfolding number16 number32 is_zero has_ranges has_address is_slot is_one_slot chs_of address_of slot_of some_slot slot_at slot_bytes to_chs to_lba sector_at sectors_of place_at slot_make could_be_one named_device entry_at entries_of table_entries is_link is_plain link_of logical_of listed linked_sector chain_entries chain_tables partitions_of numbered_span span_of disk_name last_partition partition_name device_name devices_of named_devices device_at disk_number device_number kind_of super_of super_checks super_in super_at with_counts super_bytes v1_inode v2_inode inode_of inode_at v1_inode_bytes v2_inode_bytes inode_bytes kept_inode inode_place bit with_bit parts_of volume_at number_in follow pointer_by inside follow_at zone_at block_at content_at entry_of entries_in minixentries_entry_at find_entry entries_at is_dots components child find_path file_block file_at zone_number block content entry first_named lookup reached thing names names_in IsSound child_path path_of link_at section file_content section_bytes is_bootable has_signature has_options has_names has_slots has_no_message has_whole_message has_message has_zeros is_whole timeout_of table_slots boot_of boot_at field_bytes merged_sector is_set entry_name is_printable is_name has_flags has_video has_length has_main has_initrd has_extra is_entry descriptor_of entry_bytes same_name repeats breaks table_at descriptor_bytes options_at extra_at options_bytes extra_bytes is_line line_of line_at line_bytes is_same_line names_of_section names_of_config started menu_decision menu_boot file_of middle_text target_of menu_entries menu_of meant slot_to slots_for chain_for file_slots file_sectors section_sectors_at flags_of descriptor_for plan_entries sectors_of_table sectors_after plan_sectors map_size plan_names plan_boot plan_boot_sector devices_in inode_places mapped_inode file_inode mapped_section code_in planned
plan_by_chance_51 = (refl, refl, refl)

-- by chance 52
pub plan_by_chance_52 : (plan_sectors (planned (disks_of disk_many) machine_many volume_many conf_r52 1039464445) machine_many (on 0 (190 ∷ 191 ∷ 192 ∷ 193 ∷ 194 ∷ 195 ∷ 196 ∷ 197 ∷ 198 ∷ 199 ∷ 200 ∷ [])) ≡ (file 512 (piece 0 (codes "LINE") ∷ [])) ∷ (file 512 (piece 0 (codes "old") ∷ piece 20 (hex 2 0xe880) ∷ piece 28 (hex 13 0x03800100c300000003800100c4) ∷ piece 52 (hex 1 0x02) ∷ piece 64 (codes "win") ∷ piece 80 (hex 6 0x100000004006) ∷ piece 92 (hex 13 0x03800100c600000003800100c8) ∷ piece 116 (hex 9 0x0100000003800100c7) ∷ [])) ∷ (file 512 []) ∷ (file 512 []) ∷ (file 512 []) ∷ (file 512 (piece 0 (hex 1 0x09) ∷ piece 8 (codes " rw quiet") ∷ [])) ∷ (file 512 (piece 0 (hex 509 0x0380010076000000038001007700000003800100780000000380010079000000038001007a000000038001007b000000038001007c000000038001007d000000038001007e000000038001007f0000000380010080000000038001008100000003800100820000000380010083000000038001008400000003800100850000000380010086000000038001008700000003800100880000000380010089000000038001008a000000038001008b000000038001008c000000038001008d000000038001008e000000038001008f0000000380010090000000038001009100000003800100920000000380010093000000038001009400000003800100950000000380010096000000038001009700000003800100980000000380010099000000038001009a000000038001009b000000038001009c000000038001009d000000038001009e000000038001009f00000003800100a000000003800100a100000003800100a200000003800100a300000003800100a400000003800100a500000003800100a600000003800100a700000003800100a800000003800100a900000003800100aa00000003800100ab00000003800100ac00000003800100ad00000003800100ae00000003800100af00000003800100b000000003800100b100000003800100b200000003800100b300000003800100b400000003800100c5) ∷ [])) ∷ (file 512 (piece 0 (hex 13 0x03800100b500000003800100b6) ∷ [])) ∷ (file 512 (piece 0 (hex 1 0x09) ∷ piece 8 (codes " ro quiet") ∷ [])) ∷ (file 512 (piece 0 (hex 7 0x030000006f6c64) ∷ [])) ∷ (file 512 (piece 0 (hex 29 0x038001005c000000038001005d000000038001005e000000038001005f) ∷ [])) ∷ []) × (plan_boot_sector (planned (disks_of disk_many) machine_many volume_many conf_r52 1039464445) machine_many (on 0 (190 ∷ 191 ∷ 192 ∷ 193 ∷ 194 ∷ 195 ∷ 196 ∷ 197 ∷ 198 ∷ 199 ∷ 200 ∷ [])) (disks_of disk_many 0 0) ≡ file 512 (piece 0 (hex 19 0xeb7e4c494c4f0100fdf7f43d01000100ffff02) ∷ piece 24 (hex 13 0x03800100be00000003800100c2) ∷ piece 48 (hex 21 0x03800100bf00000003800100c000000003800100c1) ∷ piece 450 (hex 10 0x8100000040000000c00f) ∷ piece 510 (hex 2 0x55aa) ∷ [])) × (map_size (planned (disks_of disk_many) machine_many volume_many conf_r52 1039464445) machine_many ≡ 11)
unfolding number16 number32 is_zero has_ranges has_address is_slot is_one_slot chs_of address_of slot_of some_slot slot_at slot_bytes to_chs to_lba sector_at sectors_of place_at slot_make could_be_one named_device entry_at entries_of table_entries is_link is_plain link_of logical_of listed linked_sector chain_entries chain_tables partitions_of numbered_span span_of disk_name last_partition partition_name device_name devices_of named_devices device_at disk_number device_number kind_of super_of super_checks super_in super_at with_counts super_bytes v1_inode v2_inode inode_of inode_at v1_inode_bytes v2_inode_bytes inode_bytes kept_inode inode_place bit with_bit parts_of volume_at number_in follow pointer_by inside follow_at zone_at block_at content_at entry_of entries_in minixentries_entry_at find_entry entries_at is_dots components child find_path file_block file_at zone_number block content entry first_named lookup reached thing names names_in IsSound child_path path_of link_at section file_content section_bytes is_bootable has_signature has_options has_names has_slots has_no_message has_whole_message has_message has_zeros is_whole timeout_of table_slots boot_of boot_at field_bytes merged_sector is_set entry_name is_printable is_name has_flags has_video has_length has_main has_initrd has_extra is_entry descriptor_of entry_bytes same_name repeats breaks table_at descriptor_bytes options_at extra_at options_bytes extra_bytes is_line line_of line_at line_bytes is_same_line names_of_section names_of_config started menu_decision menu_boot file_of middle_text target_of menu_entries menu_of meant slot_to slots_for chain_for file_slots file_sectors section_sectors_at flags_of descriptor_for plan_entries sectors_of_table sectors_after plan_sectors map_size plan_names plan_boot plan_boot_sector devices_in inode_places mapped_inode file_inode mapped_section code_in planned
plan_by_chance_52 = (refl, refl, refl)

-- by chance 53
pub plan_by_chance_53 : (plan_sectors (planned (disks_of disk_many) machine_many volume_many conf_r53 3308531356) machine_many (on 0 (190 ∷ 191 ∷ 192 ∷ 193 ∷ 194 ∷ 195 ∷ 196 ∷ 197 ∷ 198 ∷ 199 ∷ 200 ∷ 201 ∷ 202 ∷ 203 ∷ [])) ≡ (file 512 (piece 0 (codes "LINE") ∷ [])) ∷ (file 512 (piece 0 (codes "x2") ∷ piece 16 (hex 6 0x2000fdff4006) ∷ piece 28 (hex 13 0x03800100c300000003800100c4) ∷ piece 52 (hex 1 0x01) ∷ piece 64 (codes "a") ∷ piece 80 (hex 6 0x26000103e880) ∷ piece 92 (hex 13 0x03800100c500000003800100c7) ∷ piece 116 (hex 14 0x0100000003800100c60000006132) ∷ piece 144 (hex 6 0x26000103e880) ∷ piece 156 (hex 13 0x03800100c500000003800100c7) ∷ piece 180 (hex 17 0x0100000003800100c60000006c696e7578) ∷ piece 208 (hex 45 0x6200fdff050a0000dc05000003800100c800000003800100ca00000003800100cb0000000100010003800100c9) ∷ [])) ∷ (file 512 []) ∷ (file 512 []) ∷ (file 512 []) ∷ (file 512 (piece 0 (hex 1 0x09) ∷ piece 8 (codes " root=301") ∷ [])) ∷ (file 512 (piece 0 (hex 5 0x038004005c) ∷ [])) ∷ (file 512 (piece 0 (hex 1 0x07) ∷ piece 8 (codes " single") ∷ [])) ∷ (file 512 (piece 2 (hex 1 0x03) ∷ piece 480 (codes "tux") ∷ [])) ∷ (file 512 (piece 0 (hex 5 0x0380410076) ∷ [])) ∷ (file 512 (piece 0 (hex 1 0x04) ∷ piece 8 (codes " x y") ∷ [])) ∷ (file 512 (piece 2 (hex 1 0x03) ∷ piece 480 (codes "tux") ∷ [])) ∷ (file 512 (piece 0 (hex 29 0x038002006c00000003800100c200000003800100c2000000038002006e) ∷ [])) ∷ (file 512 (piece 0 (hex 5 0x0380030072) ∷ [])) ∷ []) × (plan_boot_sector (planned (disks_of disk_many) machine_many volume_many conf_r53 3308531356) machine_many (on 0 (190 ∷ 191 ∷ 192 ∷ 193 ∷ 194 ∷ 195 ∷ 196 ∷ 197 ∷ 198 ∷ 199 ∷ 200 ∷ 201 ∷ 202 ∷ 203 ∷ [])) (disks_of disk_many 0 0) ≡ file 512 (piece 0 (hex 19 0xeb7e4c494c4f01009c2e34c501000100ffff04) ∷ piece 24 (hex 13 0x03800100be00000003800100c2) ∷ piece 48 (hex 21 0x03800100bf00000003800100c000000003800100c1) ∷ piece 128 (replicate 312 144) ∷ piece 450 (hex 10 0x8100000040000000c00f) ∷ piece 510 (hex 2 0x55aa) ∷ [])) × (map_size (planned (disks_of disk_many) machine_many volume_many conf_r53 3308531356) machine_many ≡ 14)
unfolding number16 number32 is_zero has_ranges has_address is_slot is_one_slot chs_of address_of slot_of some_slot slot_at slot_bytes to_chs to_lba sector_at sectors_of place_at slot_make could_be_one named_device entry_at entries_of table_entries is_link is_plain link_of logical_of listed linked_sector chain_entries chain_tables partitions_of numbered_span span_of disk_name last_partition partition_name device_name devices_of named_devices device_at disk_number device_number kind_of super_of super_checks super_in super_at with_counts super_bytes v1_inode v2_inode inode_of inode_at v1_inode_bytes v2_inode_bytes inode_bytes kept_inode inode_place bit with_bit parts_of volume_at number_in follow pointer_by inside follow_at zone_at block_at content_at entry_of entries_in minixentries_entry_at find_entry entries_at is_dots components child find_path file_block file_at zone_number block content entry first_named lookup reached thing names names_in IsSound child_path path_of link_at section file_content section_bytes is_bootable has_signature has_options has_names has_slots has_no_message has_whole_message has_message has_zeros is_whole timeout_of table_slots boot_of boot_at field_bytes merged_sector is_set entry_name is_printable is_name has_flags has_video has_length has_main has_initrd has_extra is_entry descriptor_of entry_bytes same_name repeats breaks table_at descriptor_bytes options_at extra_at options_bytes extra_bytes is_line line_of line_at line_bytes is_same_line names_of_section names_of_config started menu_decision menu_boot file_of middle_text target_of menu_entries menu_of meant slot_to slots_for chain_for file_slots file_sectors section_sectors_at flags_of descriptor_for plan_entries sectors_of_table sectors_after plan_sectors map_size plan_names plan_boot plan_boot_sector devices_in inode_places mapped_inode file_inode mapped_section code_in planned
plan_by_chance_53 = (refl, refl, refl)

-- by chance 54
pub plan_by_chance_54 : (plan_sectors (planned (disks_of disk_many) machine_many volume_many conf_r54 53) machine_many (on 0 (190 ∷ 191 ∷ 192 ∷ 193 ∷ 194 ∷ 195 ∷ 196 ∷ 197 ∷ 198 ∷ 199 ∷ [])) ≡ (file 512 (piece 0 (codes "LINE") ∷ [])) ∷ (file 512 (piece 0 (codes "win") ∷ piece 16 (hex 39 0x4000000005100000dc05000003800100c300000003800100c400000003800100c5000000010001) ∷ piece 64 (codes "x2") ∷ piece 80 (hex 1 0x81) ∷ piece 85 (hex 1 0x04) ∷ piece 92 (hex 13 0x03800100c600000003800100c7) ∷ piece 116 (hex 1 0x01) ∷ [])) ∷ (file 512 []) ∷ (file 512 []) ∷ (file 512 []) ∷ (file 512 (piece 0 (hex 1 0x0b) ∷ piece 8 (codes " mem=64M  y") ∷ [])) ∷ (file 512 (piece 0 (hex 69 0x038001006000000003800100610000000380010062000000038001006300000003800100c200000003800100c2000000038001006400000003800100650000000380010066) ∷ [])) ∷ (file 512 (piece 0 (hex 21 0x038001007200000003800100730000000380010074) ∷ [])) ∷ (file 512 []) ∷ (file 512 (piece 0 (hex 11 0x038101003f000000038001) ∷ [])) ∷ []) × (plan_boot_sector (planned (disks_of disk_many) machine_many volume_many conf_r54 53) machine_many (on 0 (190 ∷ 191 ∷ 192 ∷ 193 ∷ 194 ∷ 195 ∷ 196 ∷ 197 ∷ 198 ∷ 199 ∷ [])) (disks_of disk_many 0 0) ≡ file 512 (piece 0 (hex 19 0xeb7e4c494c4f01003500000001000000010002) ∷ piece 24 (hex 13 0x03800100be00000003800100c2) ∷ piece 48 (hex 21 0x03800100bf00000003800100c000000003800100c1) ∷ piece 128 (replicate 312 144) ∷ piece 450 (hex 10 0x8100000040000000c00f) ∷ piece 510 (hex 2 0x55aa) ∷ [])) × (map_size (planned (disks_of disk_many) machine_many volume_many conf_r54 53) machine_many ≡ 10)
unfolding number16 number32 is_zero has_ranges has_address is_slot is_one_slot chs_of address_of slot_of some_slot slot_at slot_bytes to_chs to_lba sector_at sectors_of place_at slot_make could_be_one named_device entry_at entries_of table_entries is_link is_plain link_of logical_of listed linked_sector chain_entries chain_tables partitions_of numbered_span span_of disk_name last_partition partition_name device_name devices_of named_devices device_at disk_number device_number kind_of super_of super_checks super_in super_at with_counts super_bytes v1_inode v2_inode inode_of inode_at v1_inode_bytes v2_inode_bytes inode_bytes kept_inode inode_place bit with_bit parts_of volume_at number_in follow pointer_by inside follow_at zone_at block_at content_at entry_of entries_in minixentries_entry_at find_entry entries_at is_dots components child find_path file_block file_at zone_number block content entry first_named lookup reached thing names names_in IsSound child_path path_of link_at section file_content section_bytes is_bootable has_signature has_options has_names has_slots has_no_message has_whole_message has_message has_zeros is_whole timeout_of table_slots boot_of boot_at field_bytes merged_sector is_set entry_name is_printable is_name has_flags has_video has_length has_main has_initrd has_extra is_entry descriptor_of entry_bytes same_name repeats breaks table_at descriptor_bytes options_at extra_at options_bytes extra_bytes is_line line_of line_at line_bytes is_same_line names_of_section names_of_config started menu_decision menu_boot file_of middle_text target_of menu_entries menu_of meant slot_to slots_for chain_for file_slots file_sectors section_sectors_at flags_of descriptor_for plan_entries sectors_of_table sectors_after plan_sectors map_size plan_names plan_boot plan_boot_sector devices_in inode_places mapped_inode file_inode mapped_section code_in planned
plan_by_chance_54 = (refl, refl, refl)

-- by chance 55
pub plan_by_chance_55 : (plan_sectors (planned (disks_of disk_many) machine_many volume_many conf_r55 3852886872) machine_many (on 0 (190 ∷ 191 ∷ 192 ∷ 193 ∷ 194 ∷ 195 ∷ 196 ∷ 197 ∷ [])) ≡ (file 512 (piece 0 (codes "LINE") ∷ [])) ∷ (file 512 (piece 0 (codes "win") ∷ piece 16 (hex 6 0x100000000504) ∷ piece 28 (hex 13 0x03800100c300000003800100c5) ∷ piece 52 (hex 9 0x0100000003800100c4) ∷ [])) ∷ (file 512 []) ∷ (file 512 []) ∷ (file 512 []) ∷ (file 512 []) ∷ (file 512 (piece 0 (hex 7 0x0300000077696e) ∷ [])) ∷ (file 512 (piece 0 (hex 21 0x03800100680000000380010069000000038001006a) ∷ [])) ∷ []) × (plan_boot_sector (planned (disks_of disk_many) machine_many volume_many conf_r55 3852886872) machine_many (on 0 (190 ∷ 191 ∷ 192 ∷ 193 ∷ 194 ∷ 195 ∷ 196 ∷ 197 ∷ [])) (disks_of disk_many 0 0) ≡ file 512 (piece 0 (hex 19 0xeb7e4c494c4f01005863a6e500000100320001) ∷ piece 24 (hex 13 0x03800100be00000003800100c2) ∷ piece 48 (hex 21 0x03800100bf00000003800100c000000003800100c1) ∷ piece 128 (replicate 312 144) ∷ piece 450 (hex 10 0x8100000040000000c00f) ∷ piece 510 (hex 2 0x55aa) ∷ [])) × (map_size (planned (disks_of disk_many) machine_many volume_many conf_r55 3852886872) machine_many ≡ 8)
unfolding number16 number32 is_zero has_ranges has_address is_slot is_one_slot chs_of address_of slot_of some_slot slot_at slot_bytes to_chs to_lba sector_at sectors_of place_at slot_make could_be_one named_device entry_at entries_of table_entries is_link is_plain link_of logical_of listed linked_sector chain_entries chain_tables partitions_of numbered_span span_of disk_name last_partition partition_name device_name devices_of named_devices device_at disk_number device_number kind_of super_of super_checks super_in super_at with_counts super_bytes v1_inode v2_inode inode_of inode_at v1_inode_bytes v2_inode_bytes inode_bytes kept_inode inode_place bit with_bit parts_of volume_at number_in follow pointer_by inside follow_at zone_at block_at content_at entry_of entries_in minixentries_entry_at find_entry entries_at is_dots components child find_path file_block file_at zone_number block content entry first_named lookup reached thing names names_in IsSound child_path path_of link_at section file_content section_bytes is_bootable has_signature has_options has_names has_slots has_no_message has_whole_message has_message has_zeros is_whole timeout_of table_slots boot_of boot_at field_bytes merged_sector is_set entry_name is_printable is_name has_flags has_video has_length has_main has_initrd has_extra is_entry descriptor_of entry_bytes same_name repeats breaks table_at descriptor_bytes options_at extra_at options_bytes extra_bytes is_line line_of line_at line_bytes is_same_line names_of_section names_of_config started menu_decision menu_boot file_of middle_text target_of menu_entries menu_of meant slot_to slots_for chain_for file_slots file_sectors section_sectors_at flags_of descriptor_for plan_entries sectors_of_table sectors_after plan_sectors map_size plan_names plan_boot plan_boot_sector devices_in inode_places mapped_inode file_inode mapped_section code_in planned
plan_by_chance_55 = (refl, refl, refl)

-- by chance 56
pub plan_by_chance_56 : (plan_sectors (planned (disks_of disk_many) machine_many volume_many conf_r56 20426542) machine_many (on 0 (190 ∷ 191 ∷ 192 ∷ 193 ∷ 194 ∷ 195 ∷ 196 ∷ 197 ∷ 198 ∷ 199 ∷ 200 ∷ 201 ∷ 202 ∷ [])) ≡ (file 512 (piece 0 (codes "LINE") ∷ [])) ∷ (file 512 (piece 0 (codes "a") ∷ piece 16 (hex 6 0x2800fdff4006) ∷ piece 28 (hex 13 0x03800100c300000003800100c4) ∷ piece 52 (hex 1 0x01) ∷ piece 64 (codes "x2") ∷ piece 80 (hex 51 0x6e00010340060000dc05000003800100c500000003800100c700000003800100c80000000100010003800100c600000077696e) ∷ piece 144 (hex 6 0x080000004006) ∷ piece 156 (hex 13 0x03800100c900000003800100ca) ∷ piece 180 (hex 1 0x01) ∷ piece 192 (codes "win2") ∷ piece 208 (hex 6 0x080000004006) ∷ piece 220 (hex 13 0x03800100c900000003800100ca) ∷ piece 244 (hex 1 0x01) ∷ [])) ∷ (file 512 []) ∷ (file 512 []) ∷ (file 512 []) ∷ (file 512 (piece 0 (hex 1 0x03) ∷ piece 8 (codes " ro") ∷ [])) ∷ (file 512 (piece 0 (hex 5 0x038004005c) ∷ [])) ∷ (file 512 []) ∷ (file 512 (piece 2 (hex 1 0x03) ∷ piece 480 (codes "abc") ∷ [])) ∷ (file 512 (piece 0 (hex 5 0x038004005c) ∷ [])) ∷ (file 512 (piece 0 (hex 5 0x0380030072) ∷ [])) ∷ (file 512 (piece 0 (hex 1 0x06) ∷ piece 8 (codes " quiet") ∷ [])) ∷ (file 512 (piece 0 (hex 5 0x038004005c) ∷ [])) ∷ []) × (plan_boot_sector (planned (disks_of disk_many) machine_many volume_many conf_r56 20426542) machine_many (on 0 (190 ∷ 191 ∷ 192 ∷ 193 ∷ 194 ∷ 195 ∷ 196 ∷ 197 ∷ 198 ∷ 199 ∷ 200 ∷ 201 ∷ 202 ∷ [])) (disks_of disk_many 0 0) ≡ file 512 (piece 0 (hex 19 0xeb7e4c494c4f01002eaf370101001400ffff04) ∷ piece 24 (hex 13 0x03800100be00000003800100c2) ∷ piece 48 (hex 21 0x03800100bf00000003800100c000000003800100c1) ∷ piece 128 (replicate 312 144) ∷ piece 450 (hex 10 0x8100000040000000c00f) ∷ piece 510 (hex 2 0x55aa) ∷ [])) × (map_size (planned (disks_of disk_many) machine_many volume_many conf_r56 20426542) machine_many ≡ 13)
unfolding number16 number32 is_zero has_ranges has_address is_slot is_one_slot chs_of address_of slot_of some_slot slot_at slot_bytes to_chs to_lba sector_at sectors_of place_at slot_make could_be_one named_device entry_at entries_of table_entries is_link is_plain link_of logical_of listed linked_sector chain_entries chain_tables partitions_of numbered_span span_of disk_name last_partition partition_name device_name devices_of named_devices device_at disk_number device_number kind_of super_of super_checks super_in super_at with_counts super_bytes v1_inode v2_inode inode_of inode_at v1_inode_bytes v2_inode_bytes inode_bytes kept_inode inode_place bit with_bit parts_of volume_at number_in follow pointer_by inside follow_at zone_at block_at content_at entry_of entries_in minixentries_entry_at find_entry entries_at is_dots components child find_path file_block file_at zone_number block content entry first_named lookup reached thing names names_in IsSound child_path path_of link_at section file_content section_bytes is_bootable has_signature has_options has_names has_slots has_no_message has_whole_message has_message has_zeros is_whole timeout_of table_slots boot_of boot_at field_bytes merged_sector is_set entry_name is_printable is_name has_flags has_video has_length has_main has_initrd has_extra is_entry descriptor_of entry_bytes same_name repeats breaks table_at descriptor_bytes options_at extra_at options_bytes extra_bytes is_line line_of line_at line_bytes is_same_line names_of_section names_of_config started menu_decision menu_boot file_of middle_text target_of menu_entries menu_of meant slot_to slots_for chain_for file_slots file_sectors section_sectors_at flags_of descriptor_for plan_entries sectors_of_table sectors_after plan_sectors map_size plan_names plan_boot plan_boot_sector devices_in inode_places mapped_inode file_inode mapped_section code_in planned
plan_by_chance_56 = (refl, refl, refl)

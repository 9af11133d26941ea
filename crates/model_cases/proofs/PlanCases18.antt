-- Cases of the model, written by tools/plan_cases.py: the sectors of planned maps, and their boot sectors.
use Rattle.std.proofs.Common.{◌≡◌, ◌∷◌, ◌++◌, [], codes, replicate, refl}
use Rattle.lilo_model.specs.BootSector.{is_bootable, has_signature, has_options, has_names, has_slots, has_no_message, has_whole_message, has_message, has_zeros, is_whole, timeout_of, table_slots, boot_of, boot_at, field_bytes, merged_sector}
use Rattle.lilo_model.specs.Bytes.{number16, number32, is_zero}
use Rattle.lilo_model.specs.ConfLawful.{names_of_section, names_of_config}
use Rattle.lilo_model.specs.Devices.{disk_name, last_partition, partition_name, device_name, devices_of, named_devices, device_at, disk_number, device_number}
use Rattle.lilo_model.specs.LineSector.{is_line, line_of, line_at, line_bytes, is_same_line}
use Rattle.lilo_model.specs.Meant.{started, menu_decision, menu_boot, file_of, middle_text, target_of, menu_entries, menu_of, meant}
use Rattle.lilo_model.specs.MinixEntries.{entry_of, entries_in, entry_at as minixentries_entry_at, find_entry, entries_at, is_dots}
use Rattle.lilo_model.specs.MinixFind.{components, child, find_path, file_block, file_at}
use Rattle.lilo_model.specs.MinixFindNames.{child_path, path_of}
use Rattle.lilo_model.specs.MinixLayout.{kind_of, super_of, super_checks, super_in, super_at, with_counts, super_bytes, v1_inode, v2_inode, inode_of, inode_at, v1_inode_bytes, v2_inode_bytes, inode_bytes, kept_inode, inode_place}
use Rattle.lilo_model.specs.MinixNames.{zone_number, block, content, entry, first_named, lookup, reached, thing, names, names_in, IsSound}
use Rattle.lilo_model.specs.MinixParts.{bit, with_bit, parts_of, volume_at, number_in, follow, pointer_by, inside, follow_at, zone_at, block_at, content_at}
use Rattle.lilo_model.specs.Options.{options_at, extra_at, options_bytes, extra_bytes}
use Rattle.lilo_model.specs.Partitions.{named_device, entry_at, entries_of, table_entries, is_link, is_plain, link_of, logical_of, listed, linked_sector, chain_entries, chain_tables, partitions_of, numbered_span, span_of}
use Rattle.lilo_model.specs.Plan.{slot_to, slots_for, chain_for, file_slots, file_sectors, section_sectors_at, flags_of, descriptor_for, plan_entries, sectors_of_table, sectors_after, plan_sectors, map_size, plan_names, plan_boot, plan_boot_sector}
use Rattle.lilo_model.specs.Planned.{devices_in, inode_places, mapped_inode, file_inode, mapped_section, code_in, planned}
use Rattle.lilo_model.specs.Section.{link_at, section, file_content, section_bytes}
use Rattle.lilo_model.specs.Slots.{has_ranges, has_address, is_slot, is_one_slot, chs_of, address_of, slot_of, some_slot, slot_at, slot_bytes, to_chs, to_lba, sector_at, sectors_of, place_at, slot_make, could_be_one}
use Rattle.lilo_model.specs.Table.{is_set, entry_name, is_printable, is_name, has_flags, has_video, has_length, has_main, has_initrd, has_extra, is_entry, descriptor_of, entry_bytes, same_name, repeats, breaks, table_at, descriptor_bytes}
use Rattle.model_cases.specs.Sparse.{hex, piece, file, disks_of, on}
use Rattle.model_cases.specs.PlanDisks.{disk_logical}
use Rattle.model_cases.specs.PlanLogicalConfs.{conf_logical_13, conf_logical_14, conf_logical_15, conf_logical_16, conf_logical_17, conf_logical_18, conf_logical_19, conf_logical_20}
use Rattle.model_cases.specs.PlanVolumes.{machine_logical, volume_logical}

-- linear, compact, a message, delay 1, timeout 7, an image, an initrd, a lock
pub plan_linear_compact_a_message_delay_1_timeout_7_an_image_an_initrd_a_lock : (plan_sectors (planned (disks_of disk_logical) machine_logical volume_logical conf_logical_13 573216291) machine_logical (on 0 (826 ∷ 714 ∷ 1195 ∷ 2358 ∷ 691 ∷ 1121 ∷ 1085 ∷ 1872 ∷ 425 ∷ [])) ≡ (file 512 (piece 0 (codes "LINE") ∷ [])) ∷ (file 512 (piece 0 (codes "dos") ∷ piece 16 (hex 39 0x4800000005040000000c0000028001003d040000028001005007000002800100a9010000010001) ∷ [])) ∷ (file 512 []) ∷ (file 512 []) ∷ (file 512 []) ∷ (file 512 (piece 0 (hex 5 0x028003008a) ∷ [])) ∷ (file 512 []) ∷ (file 512 (piece 0 (hex 5 0x0280030084) ∷ [])) ∷ (file 512 (piece 0 (hex 46 0x02800100b302000002800100b302000002800100b302000002800100b302000002800100b302000002800100b302) ∷ [])) ∷ []) × (plan_boot_sector (planned (disks_of disk_logical) machine_logical volume_logical conf_logical_13 573216291) machine_logical (on 0 (826 ∷ 714 ∷ 1195 ∷ 2358 ∷ 691 ∷ 1121 ∷ 1085 ∷ 1872 ∷ 425 ∷ [])) (disks_of disk_logical 0 0) ≡ file 512 (piece 0 (hex 70 0xeb7e4c494c4f010023962a220000010007000100b4040100028001003a03000002800100b3020000028001006104000002800100ca02000002800100ab040000028001003609) ∷ piece 128 (replicate 312 195) ∷ piece 450 (hex 9 0x83000000110000001e) ∷ piece 466 (hex 10 0x05000000440000006009) ∷ piece 510 (hex 2 0x55aa) ∷ [])) × (map_size (planned (disks_of disk_logical) machine_logical volume_logical conf_logical_13 573216291) machine_logical ≡ 9)
unfolding number16 number32 is_zero has_ranges has_address is_slot is_one_slot chs_of address_of slot_of some_slot slot_at slot_bytes to_chs to_lba sector_at sectors_of place_at slot_make could_be_one named_device entry_at entries_of table_entries is_link is_plain link_of logical_of listed linked_sector chain_entries chain_tables partitions_of numbered_span span_of disk_name last_partition partition_name device_name devices_of named_devices device_at disk_number device_number kind_of super_of super_checks super_in super_at with_counts super_bytes v1_inode v2_inode inode_of inode_at v1_inode_bytes v2_inode_bytes inode_bytes kept_inode inode_place bit with_bit parts_of volume_at number_in follow pointer_by inside follow_at zone_at block_at content_at entry_of entries_in minixentries_entry_at find_entry entries_at is_dots components child find_path file_block file_at zone_number block content entry first_named lookup reached thing names names_in IsSound child_path path_of link_at section file_content section_bytes is_bootable has_signature has_options has_names has_slots has_no_message has_whole_message has_message has_zeros is_whole timeout_of table_slots boot_of boot_at field_bytes merged_sector is_set entry_name is_printable is_name has_flags has_video has_length has_main has_initrd has_extra is_entry descriptor_of entry_bytes same_name repeats breaks table_at descriptor_bytes options_at extra_at options_bytes extra_bytes is_line line_of line_at line_bytes is_same_line names_of_section names_of_config started menu_decision menu_boot file_of middle_text target_of menu_entries menu_of meant slot_to slots_for chain_for file_slots file_sectors section_sectors_at flags_of descriptor_for plan_entries sectors_of_table sectors_after plan_sectors map_size plan_names plan_boot plan_boot_sector devices_in inode_places mapped_inode file_inode mapped_section code_in planned
plan_linear_compact_a_message_delay_1_timeout_7_an_image_an_initrd_a_lock = (refl, refl, refl)

-- by cylinder, 3 images, another system, an initrd, an alias, a lock, a fallback, vga, root
pub plan_by_cylinder_3_images_another_system_an_initrd_an_alias_a_lock_a_fallback_vga_root : (plan_sectors (planned (disks_of disk_logical) machine_logical volume_logical conf_logical_14 1806947951) machine_logical (on 0 (158 ∷ 159 ∷ 164 ∷ 165 ∷ 166 ∷ 167 ∷ 168 ∷ 169 ∷ 170 ∷ 171 ∷ 172 ∷ 173 ∷ 174 ∷ 175 ∷ 176 ∷ 177 ∷ [])) ≡ (file 512 (piece 0 (codes "LINE") ∷ [])) ∷ (file 512 (piece 0 (hex 55 0x6669667465656e2d6c657474657273006800fdff05040000d40e0000018001000f02010001800100100201000180010011020100010001) ∷ piece 64 (codes "old") ∷ piece 80 (hex 49 0x7000fdff581b0000000c000001800100010202000180010003020200018001000402020001000100018001000202020032) ∷ piece 144 (hex 52 0x7000fdff581b0000000c000001800100010202000180010003020200018001000402020001000100018001000202020073616665) ∷ piece 208 (hex 6 0x2800fdff0504) ∷ piece 220 (hex 15 0x018001000502020001800100060202) ∷ piece 244 (hex 1 0x01) ∷ piece 256 (codes "b") ∷ piece 272 (hex 1 0x01) ∷ piece 277 (hex 1 0x02) ∷ piece 284 (hex 15 0x018001000702020001800100080202) ∷ piece 308 (hex 1 0x01) ∷ piece 320 (codes "1") ∷ piece 336 (hex 1 0x01) ∷ piece 341 (hex 1 0x02) ∷ piece 348 (hex 15 0x018001000702020001800100080202) ∷ piece 372 (hex 1 0x01) ∷ [])) ∷ (file 512 []) ∷ (file 512 []) ∷ (file 512 []) ∷ (file 512 (piece 0 (hex 1 0x0c) ∷ piece 8 (codes " ro root=305") ∷ [])) ∷ (file 512 (piece 0 (hex 23 0x018001000e010300018001000f01030001800100100103) ∷ [])) ∷ (file 512 (piece 0 (hex 63 0x018001000e020100018001000e020100018001000a010300018001000b010300018001000e020100018001000e020100018001000c010300018001000d0103) ∷ [])) ∷ (file 512 (piece 0 (hex 1 0x03) ∷ piece 8 (codes " ro") ∷ [])) ∷ (file 512 (piece 0 (hex 19 0x0f0000006669667465656e2d6c657474657273) ∷ [])) ∷ (file 512 (piece 0 (hex 111 0x0180010011010200018001000101030001800100020103000180010003010300018001000e020100018001000e020100018001000e020100018001000e0201000180010004010300018001000501030001800100060103000180010007010300018001000801030001800100090103) ∷ [])) ∷ (file 512 (piece 0 (hex 47 0x018001000e020100018001000e020100018001000e020100018001000e020100018001000e020100018001000e0201) ∷ [])) ∷ (file 512 (piece 0 (hex 1 0x03) ∷ piece 8 (codes " ro") ∷ [])) ∷ (file 512 (piece 0 (hex 23 0x018001000e010300018001000f01030001800100100103) ∷ [])) ∷ (file 512 []) ∷ (file 512 (piece 0 (hex 7 0x01810100230002) ∷ [])) ∷ []) × (plan_boot_sector (planned (disks_of disk_logical) machine_logical volume_logical conf_logical_14 1806947951) machine_logical (on 0 (158 ∷ 159 ∷ 164 ∷ 165 ∷ 166 ∷ 167 ∷ 168 ∷ 169 ∷ 170 ∷ 171 ∷ 172 ∷ 173 ∷ 174 ∷ 175 ∷ 176 ∷ 177 ∷ [])) (disks_of disk_logical 0 0) ≡ file 512 (piece 0 (hex 12 0xeb7e4c494c4f01006fd6b36b) ∷ piece 16 (hex 3 0xffff06) ∷ piece 24 (hex 15 0x0180010006020100018001000e0201) ∷ piece 48 (hex 23 0x0180010007020100018001000c020100018001000d0201) ∷ piece 96 (hex 1 0x01) ∷ piece 128 (replicate 312 195) ∷ piece 450 (hex 9 0x83000000110000001e) ∷ piece 466 (hex 10 0x05000000440000006009) ∷ piece 510 (hex 2 0x55aa) ∷ [])) × (map_size (planned (disks_of disk_logical) machine_logical volume_logical conf_logical_14 1806947951) machine_logical ≡ 16)
unfolding number16 number32 is_zero has_ranges has_address is_slot is_one_slot chs_of address_of slot_of some_slot slot_at slot_bytes to_chs to_lba sector_at sectors_of place_at slot_make could_be_one named_device entry_at entries_of table_entries is_link is_plain link_of logical_of listed linked_sector chain_entries chain_tables partitions_of numbered_span span_of disk_name last_partition partition_name device_name devices_of named_devices device_at disk_number device_number kind_of super_of super_checks super_in super_at with_counts super_bytes v1_inode v2_inode inode_of inode_at v1_inode_bytes v2_inode_bytes inode_bytes kept_inode inode_place bit with_bit parts_of volume_at number_in follow pointer_by inside follow_at zone_at block_at content_at entry_of entries_in minixentries_entry_at find_entry entries_at is_dots components child find_path file_block file_at zone_number block content entry first_named lookup reached thing names names_in IsSound child_path path_of link_at section file_content section_bytes is_bootable has_signature has_options has_names has_slots has_no_message has_whole_message has_message has_zeros is_whole timeout_of table_slots boot_of boot_at field_bytes merged_sector is_set entry_name is_printable is_name has_flags has_video has_length has_main has_initrd has_extra is_entry descriptor_of entry_bytes same_name repeats breaks table_at descriptor_bytes options_at extra_at options_bytes extra_bytes is_line line_of line_at line_bytes is_same_line names_of_section names_of_config started menu_decision menu_boot file_of middle_text target_of menu_entries menu_of meant slot_to slots_for chain_for file_slots file_sectors section_sectors_at flags_of descriptor_for plan_entries sectors_of_table sectors_after plan_sectors map_size plan_names plan_boot plan_boot_sector devices_in inode_places mapped_inode file_inode mapped_section code_in planned
plan_by_cylinder_3_images_another_system_an_initrd_an_alias_a_lock_a_fallback_vga_root = (refl, refl, refl)

-- linear, a prompt, delay 30, 4 images, an initrd, an alias, a lock, a fallback, literal, append, vga, root
pub plan_linear_a_prompt_delay_30_4_images_an_initrd_an_alias_a_lock_a_fallback_literal_append_vga_root : (plan_sectors (planned (disks_of disk_logical) machine_logical volume_logical conf_logical_15 958860794) machine_logical (on 1 (399 ∷ []) ++ on 0 (1576 ∷ 329 ∷ 1956 ∷ 382 ∷ 1876 ∷ 629 ∷ 1569 ∷ 1692 ∷ 956 ∷ 2174 ∷ 865 ∷ 1965 ∷ 1033 ∷ 2342 ∷ [])) ≡ (file 512 (piece 0 (codes "LINE") ∷ [])) ∷ (file 512 (piece 0 (hex 22 0x6669667465656e2d6c6574746572730030000000a00f) ∷ piece 28 (hex 14 0x0280010054070000028001002106) ∷ piece 52 (hex 13 0x01000000028001007502000062) ∷ piece 80 (hex 6 0x080000000104) ∷ piece 92 (hex 14 0x028001009c06000002800100bc03) ∷ piece 116 (hex 1 0x01) ∷ piece 128 (codes "7") ∷ piece 144 (hex 6 0x080000000104) ∷ piece 156 (hex 14 0x028001009c06000002800100bc03) ∷ piece 180 (hex 1 0x01) ∷ piece 192 (codes "old") ∷ piece 212 (hex 2 0x0504) ∷ piece 220 (hex 14 0x028001007e080000028001006103) ∷ piece 244 (hex 1 0x01) ∷ piece 256 (codes "two") ∷ piece 272 (hex 39 0x48000000050400000102000002800100ad07000002800100090400000280010026090000010001) ∷ piece 320 (codes "4") ∷ piece 336 (hex 39 0x48000000050400000102000002800100ad07000002800100090400000280010026090000010001) ∷ [])) ∷ (file 512 []) ∷ (file 512 []) ∷ (file 512 []) ∷ (file 512 (piece 0 (codes "\n") ∷ piece 8 (codes " root=ca85") ∷ [])) ∷ (file 512 (piece 0 (hex 19 0x0f0000006669667465656e2d6c657474657273) ∷ [])) ∷ (file 512 (piece 0 (hex 61 0x02800100980000000280010099000000028001009c000000028001009d00000002800100a000000002800100a100000002800100a200000002800100a3) ∷ [])) ∷ (file 512 (piece 0 (hex 1 0x0f) ∷ piece 8 (codes " root=ca85 a=77") ∷ [])) ∷ (file 512 (piece 0 (hex 21 0x028001009400000002800100950000000280010096) ∷ [])) ∷ (file 512 (piece 0 (hex 1 0x0d) ∷ piece 8 (codes " rw root=ca85") ∷ [])) ∷ (file 512 (piece 0 (hex 21 0x028001008400000002800100850000000280010086) ∷ [])) ∷ (file 512 (piece 0 (codes "\n") ∷ piece 8 (codes " only this") ∷ [])) ∷ (file 512 (piece 0 (hex 21 0x028001008400000002800100850000000280010086) ∷ [])) ∷ (file 512 (piece 0 (hex 13 0x028001008e000000028001008f) ∷ [])) ∷ []) × (plan_boot_sector (planned (disks_of disk_logical) machine_logical volume_logical conf_logical_15 958860794) machine_logical (on 1 (399 ∷ []) ++ on 0 (1576 ∷ 329 ∷ 1956 ∷ 382 ∷ 1876 ∷ 629 ∷ 1569 ∷ 1692 ∷ 956 ∷ 2174 ∷ 865 ∷ 1965 ∷ 1033 ∷ 2342 ∷ [])) (disks_of disk_logical 0 0) ≡ file 512 (piece 0 (hex 19 0xeb7e4c494c4f0100fa0d273901001e00ffff06) ∷ piece 24 (hex 14 0x028101008f010000028001007e01) ∷ piece 48 (hex 22 0x0280010028060000028001004901000002800100a407) ∷ piece 96 (hex 1 0x01) ∷ piece 128 (replicate 312 195) ∷ piece 450 (hex 9 0x83000000110000001e) ∷ piece 466 (hex 10 0x05000000440000006009) ∷ piece 510 (hex 2 0x55aa) ∷ [])) × (map_size (planned (disks_of disk_logical) machine_logical volume_logical conf_logical_15 958860794) machine_logical ≡ 15)
unfolding number16 number32 is_zero has_ranges has_address is_slot is_one_slot chs_of address_of slot_of some_slot slot_at slot_bytes to_chs to_lba sector_at sectors_of place_at slot_make could_be_one named_device entry_at entries_of table_entries is_link is_plain link_of logical_of listed linked_sector chain_entries chain_tables partitions_of numbered_span span_of disk_name last_partition partition_name device_name devices_of named_devices device_at disk_number device_number kind_of super_of super_checks super_in super_at with_counts super_bytes v1_inode v2_inode inode_of inode_at v1_inode_bytes v2_inode_bytes inode_bytes kept_inode inode_place bit with_bit parts_of volume_at number_in follow pointer_by inside follow_at zone_at block_at content_at entry_of entries_in minixentries_entry_at find_entry entries_at is_dots components child find_path file_block file_at zone_number block content entry first_named lookup reached thing names names_in IsSound child_path path_of link_at section file_content section_bytes is_bootable has_signature has_options has_names has_slots has_no_message has_whole_message has_message has_zeros is_whole timeout_of table_slots boot_of boot_at field_bytes merged_sector is_set entry_name is_printable is_name has_flags has_video has_length has_main has_initrd has_extra is_entry descriptor_of entry_bytes same_name repeats breaks table_at descriptor_bytes options_at extra_at options_bytes extra_bytes is_line line_of line_at line_bytes is_same_line names_of_section names_of_config started menu_decision menu_boot file_of middle_text target_of menu_entries menu_of meant slot_to slots_for chain_for file_slots file_sectors section_sectors_at flags_of descriptor_for plan_entries sectors_of_table sectors_after plan_sectors map_size plan_names plan_boot plan_boot_sector devices_in inode_places mapped_inode file_inode mapped_section code_in planned
plan_linear_a_prompt_delay_30_4_images_an_initrd_an_alias_a_lock_a_fallback_literal_append_vga_root = (refl, refl, refl)

-- linear, compact, a message, a prompt, delay 30, timeout 0, 3 images, a fallback, literal, append, vga
pub plan_linear_compact_a_message_a_prompt_delay_30_timeout_0_3_images_a_fallback_literal_append_vga : (plan_sectors (planned (disks_of disk_logical) machine_logical volume_logical conf_logical_16 1088338037) machine_logical (on 0 (158 ∷ 159 ∷ 164 ∷ 165 ∷ 166 ∷ 167 ∷ 168 ∷ 169 ∷ 170 ∷ 171 ∷ 172 ∷ 173 ∷ 174 ∷ [])) ≡ (file 512 (piece 0 (codes "LINE") ∷ [])) ∷ (file 512 (piece 0 (codes "fifteen-letters") ∷ piece 20 (hex 2 0x0504) ∷ piece 28 (hex 13 0x02800100a800000002800100a9) ∷ piece 52 (hex 1 0x01) ∷ piece 64 (codes "dos") ∷ piece 84 (hex 2 0xa00f) ∷ piece 92 (hex 13 0x02800100aa00000002800100ab) ∷ piece 116 (hex 1 0x01) ∷ piece 128 (codes "two") ∷ piece 144 (hex 6 0x300005030504) ∷ piece 156 (hex 13 0x02800100ac00000002800100ae) ∷ piece 180 (hex 9 0x0100000002800100ad) ∷ [])) ∷ (file 512 []) ∷ (file 512 []) ∷ (file 512 []) ∷ (file 512 (piece 0 (hex 5 0x028003008a) ∷ [])) ∷ (file 512 (piece 0 (codes "\n") ∷ piece 8 (codes " only this") ∷ [])) ∷ (file 512 (piece 0 (hex 5 0x0280030084) ∷ [])) ∷ (file 512 []) ∷ (file 512 (piece 0 (hex 21 0x0280020098000000028002009c00000002800400a0) ∷ [])) ∷ (file 512 []) ∷ (file 512 (piece 0 (hex 9 0x0500000074776f2073) ∷ [])) ∷ (file 512 (piece 0 (hex 5 0x0280030084) ∷ [])) ∷ []) × (plan_boot_sector (planned (disks_of disk_logical) machine_logical volume_logical conf_logical_16 1088338037) machine_logical (on 0 (158 ∷ 159 ∷ 164 ∷ 165 ∷ 166 ∷ 167 ∷ 168 ∷ 169 ∷ 170 ∷ 171 ∷ 172 ∷ 173 ∷ 174 ∷ [])) (disks_of disk_logical 0 102) ≡ file 512 (piece 0 (hex 69 0xeb7e4c494c4f010075b8de4001001e0000000300b4040100028001009e00000002800100a600000002800100a7000000028001009f00000002800100a400000002800100a5) ∷ piece 96 (hex 1 0x01) ∷ piece 128 (replicate 312 195) ∷ piece 510 (hex 2 0x55aa) ∷ [])) × (map_size (planned (disks_of disk_logical) machine_logical volume_logical conf_logical_16 1088338037) machine_logical ≡ 13)
unfolding number16 number32 is_zero has_ranges has_address is_slot is_one_slot chs_of address_of slot_of some_slot slot_at slot_bytes to_chs to_lba sector_at sectors_of place_at slot_make could_be_one named_device entry_at entries_of table_entries is_link is_plain link_of logical_of listed linked_sector chain_entries chain_tables partitions_of numbered_span span_of disk_name last_partition partition_name device_name devices_of named_devices device_at disk_number device_number kind_of super_of super_checks super_in super_at with_counts super_bytes v1_inode v2_inode inode_of inode_at v1_inode_bytes v2_inode_bytes inode_bytes kept_inode inode_place bit with_bit parts_of volume_at number_in follow pointer_by inside follow_at zone_at block_at content_at entry_of entries_in minixentries_entry_at find_entry entries_at is_dots components child find_path file_block file_at zone_number block content entry first_named lookup reached thing names names_in IsSound child_path path_of link_at section file_content section_bytes is_bootable has_signature has_options has_names has_slots has_no_message has_whole_message has_message has_zeros is_whole timeout_of table_slots boot_of boot_at field_bytes merged_sector is_set entry_name is_printable is_name has_flags has_video has_length has_main has_initrd has_extra is_entry descriptor_of entry_bytes same_name repeats breaks table_at descriptor_bytes options_at extra_at options_bytes extra_bytes is_line line_of line_at line_bytes is_same_line names_of_section names_of_config started menu_decision menu_boot file_of middle_text target_of menu_entries menu_of meant slot_to slots_for chain_for file_slots file_sectors section_sectors_at flags_of descriptor_for plan_entries sectors_of_table sectors_after plan_sectors map_size plan_names plan_boot plan_boot_sector devices_in inode_places mapped_inode file_inode mapped_section code_in planned
plan_linear_compact_a_message_a_prompt_delay_30_timeout_0_3_images_a_fallback_literal_append_vga = (refl, refl, refl)

-- lba32, compact, a message, a prompt, timeout 7, 2 images, another system, an initrd, an alias, a fallback, root
pub plan_lba32_compact_a_message_a_prompt_timeout_7_2_images_another_system_an_initrd_an_alias_a_fallback_root : (plan_sectors (planned (disks_of disk_logical) machine_logical volume_logical conf_logical_17 1461506659) machine_logical (on 0 (1580 ∷ 1071 ∷ 580 ∷ 2099 ∷ 973 ∷ 441 ∷ 2170 ∷ 1664 ∷ 846 ∷ 1552 ∷ 2307 ∷ 1699 ∷ 262 ∷ 1913 ∷ [])) ≡ (file 512 (piece 0 (codes "LINE") ∷ [])) ∷ (file 512 (piece 0 (codes "two") ∷ piece 20 (hex 2 0xa00f) ∷ piece 28 (hex 14 0x03800100b9010000038001007a08) ∷ piece 52 (hex 1 0x01) ∷ piece 64 (codes "5") ∷ piece 84 (hex 2 0xa00f) ∷ piece 92 (hex 14 0x03800100b9010000038001007a08) ∷ piece 116 (hex 1 0x01) ∷ piece 128 (codes "dos") ∷ piece 144 (hex 49 0x50000000581b0000d40e000003800100800600000380010010060000038001000309000001000100038001004e03000037) ∷ piece 208 (hex 65 0x50000000581b0000d40e000003800100800600000380010010060000038001000309000001000100038001004e0300006669667465656e2d6c6574746572730011) ∷ piece 277 (hex 1 0x02) ∷ piece 284 (hex 14 0x03800100a3060000038001007907) ∷ piece 308 (hex 13 0x01000000038001000601000034) ∷ piece 336 (hex 1 0x11) ∷ piece 341 (hex 1 0x02) ∷ piece 348 (hex 14 0x03800100a3060000038001007907) ∷ piece 372 (hex 10 0x01000000038001000601) ∷ [])) ∷ (file 512 []) ∷ (file 512 []) ∷ (file 512 []) ∷ (file 512 (piece 0 (hex 1 0x0c) ∷ piece 8 (codes " ro root=301") ∷ [])) ∷ (file 512 (piece 0 (hex 21 0x0380020098000000038002009c00000003800400a0) ∷ [])) ∷ (file 512 (piece 0 (hex 1 0x0c) ∷ piece 8 (codes " ro root=305") ∷ [])) ∷ (file 512 (piece 0 (hex 7 0x0300000074776f) ∷ [])) ∷ (file 512 (piece 0 (hex 45 0x038004007600000003800100cd03000003800100cd03000003800100cd03000003800100cd030000038006007a) ∷ [])) ∷ (file 512 (piece 0 (hex 45 0x03800100cd03000003800100cd030000038002008000000003800100cd03000003800100cd0300000380020082) ∷ [])) ∷ (file 512 []) ∷ (file 512 (piece 0 (hex 7 0x0300000074776f) ∷ [])) ∷ (file 512 (piece 0 (hex 3 0x038101) ∷ [])) ∷ []) × (plan_boot_sector (planned (disks_of disk_logical) machine_logical volume_logical conf_logical_17 1461506659) machine_logical (on 0 (1580 ∷ 1071 ∷ 580 ∷ 2099 ∷ 973 ∷ 441 ∷ 2170 ∷ 1664 ∷ 846 ∷ 1552 ∷ 2307 ∷ 1699 ∷ 262 ∷ 1913 ∷ [])) (disks_of disk_logical 0 102) ≡ file 512 (piece 0 (hex 19 0xeb7e4c494c4f010063d21c5701000000070006) ∷ piece 24 (hex 14 0x038001002c06000003800100cd03) ∷ piece 48 (hex 22 0x038001002f0400000380010044020000038001003308) ∷ piece 96 (hex 1 0x04) ∷ piece 128 (replicate 312 195) ∷ piece 510 (hex 2 0x55aa) ∷ [])) × (map_size (planned (disks_of disk_logical) machine_logical volume_logical conf_logical_17 1461506659) machine_logical ≡ 14)
unfolding number16 number32 is_zero has_ranges has_address is_slot is_one_slot chs_of address_of slot_of some_slot slot_at slot_bytes to_chs to_lba sector_at sectors_of place_at slot_make could_be_one named_device entry_at entries_of table_entries is_link is_plain link_of logical_of listed linked_sector chain_entries chain_tables partitions_of numbered_span span_of disk_name last_partition partition_name device_name devices_of named_devices device_at disk_number device_number kind_of super_of super_checks super_in super_at with_counts super_bytes v1_inode v2_inode inode_of inode_at v1_inode_bytes v2_inode_bytes inode_bytes kept_inode inode_place bit with_bit parts_of volume_at number_in follow pointer_by inside follow_at zone_at block_at content_at entry_of entries_in minixentries_entry_at find_entry entries_at is_dots components child find_path file_block file_at zone_number block content entry first_named lookup reached thing names names_in IsSound child_path path_of link_at section file_content section_bytes is_bootable has_signature has_options has_names has_slots has_no_message has_whole_message has_message has_zeros is_whole timeout_of table_slots boot_of boot_at field_bytes merged_sector is_set entry_name is_printable is_name has_flags has_video has_length has_main has_initrd has_extra is_entry descriptor_of entry_bytes same_name repeats breaks table_at descriptor_bytes options_at extra_at options_bytes extra_bytes is_line line_of line_at line_bytes is_same_line names_of_section names_of_config started menu_decision menu_boot file_of middle_text target_of menu_entries menu_of meant slot_to slots_for chain_for file_slots file_sectors section_sectors_at flags_of descriptor_for plan_entries sectors_of_table sectors_after plan_sectors map_size plan_names plan_boot plan_boot_sector devices_in inode_places mapped_inode file_inode mapped_section code_in planned
plan_lba32_compact_a_message_a_prompt_timeout_7_2_images_another_system_an_initrd_an_alias_a_fallback_root = (refl, refl, refl)

-- by cylinder, a message, delay 65534, timeout 1, an image, another system, a password, restricted, a lock, literal, append, vga
pub plan_by_cylinder_a_message_delay_65534_timeout_1_an_image_another_system_a_password_restricted_a_lock_literal_append_vga : (plan_sectors (planned (disks_of disk_logical) machine_logical volume_logical conf_logical_18 3226770248) machine_logical (on 0 (158 ∷ 159 ∷ 164 ∷ 165 ∷ 166 ∷ 167 ∷ 168 ∷ 169 ∷ 170 ∷ 171 ∷ 172 ∷ 173 ∷ [])) ≡ (file 512 (piece 0 (codes "LINE") ∷ [])) ∷ (file 512 (piece 0 (codes "two") ∷ piece 16 (hex 6 0x260003030104) ∷ piece 28 (hex 15 0x018001001002010001800100010202) ∷ piece 52 (hex 13 0x01000000018001001102010078) ∷ piece 80 (hex 1 0x0b) ∷ piece 85 (hex 1 0x02) ∷ piece 92 (hex 15 0x018001000202020001800100040202) ∷ piece 116 (hex 11 0x0100000001800100030202) ∷ [])) ∷ (file 512 []) ∷ (file 512 []) ∷ (file 512 []) ∷ (file 512 (piece 0 (hex 22 0x01800100030200000180010004020000018001000502) ∷ [])) ∷ (file 512 (piece 0 (codes "\n") ∷ piece 8 (codes " only this") ∷ [])) ∷ (file 512 (piece 2 (hex 1 0x03) ∷ piece 480 (codes "a b") ∷ [])) ∷ (file 512 (piece 0 (hex 22 0x018001000d020000018001000e020000018001000f02) ∷ [])) ∷ (file 512 []) ∷ (file 512 (piece 2 (hex 1 0x03) ∷ piece 480 (codes "a b") ∷ [])) ∷ (file 512 (piece 0 (hex 7 0x01800100010001) ∷ [])) ∷ []) × (plan_boot_sector (planned (disks_of disk_logical) machine_logical volume_logical conf_logical_18 3226770248) machine_logical (on 0 (158 ∷ 159 ∷ 164 ∷ 165 ∷ 166 ∷ 167 ∷ 168 ∷ 169 ∷ 170 ∷ 171 ∷ 172 ∷ 173 ∷ [])) (disks_of disk_logical 0 0) ≡ file 512 (piece 0 (hex 71 0xeb7e4c494c4f0100489b54c00000feff01000200b40401000180010006020100018001000e020100018001000f0201000180010007020100018001000c020100018001000d0201) ∷ piece 128 (replicate 312 195) ∷ piece 450 (hex 9 0x83000000110000001e) ∷ piece 466 (hex 10 0x05000000440000006009) ∷ piece 510 (hex 2 0x55aa) ∷ [])) × (map_size (planned (disks_of disk_logical) machine_logical volume_logical conf_logical_18 3226770248) machine_logical ≡ 12)
unfolding number16 number32 is_zero has_ranges has_address is_slot is_one_slot chs_of address_of slot_of some_slot slot_at slot_bytes to_chs to_lba sector_at sectors_of place_at slot_make could_be_one named_device entry_at entries_of table_entries is_link is_plain link_of logical_of listed linked_sector chain_entries chain_tables partitions_of numbered_span span_of disk_name last_partition partition_name device_name devices_of named_devices device_at disk_number device_number kind_of super_of super_checks super_in super_at with_counts super_bytes v1_inode v2_inode inode_of inode_at v1_inode_bytes v2_inode_bytes inode_bytes kept_inode inode_place bit with_bit parts_of volume_at number_in follow pointer_by inside follow_at zone_at block_at content_at entry_of entries_in minixentries_entry_at find_entry entries_at is_dots components child find_path file_block file_at zone_number block content entry first_named lookup reached thing names names_in IsSound child_path path_of link_at section file_content section_bytes is_bootable has_signature has_options has_names has_slots has_no_message has_whole_message has_message has_zeros is_whole timeout_of table_slots boot_of boot_at field_bytes merged_sector is_set entry_name is_printable is_name has_flags has_video has_length has_main has_initrd has_extra is_entry descriptor_of entry_bytes same_name repeats breaks table_at descriptor_bytes options_at extra_at options_bytes extra_bytes is_line line_of line_at line_bytes is_same_line names_of_section names_of_config started menu_decision menu_boot file_of middle_text target_of menu_entries menu_of meant slot_to slots_for chain_for file_slots file_sectors section_sectors_at flags_of descriptor_for plan_entries sectors_of_table sectors_after plan_sectors map_size plan_names plan_boot plan_boot_sector devices_in inode_places mapped_inode file_inode mapped_section code_in planned
plan_by_cylinder_a_message_delay_65534_timeout_1_an_image_another_system_a_password_restricted_a_lock_literal_append_vga = (refl, refl, refl)

-- linear, compact, a message, timeout 65534, 2 images, an initrd, a password, restricted, literal, append, vga
pub plan_linear_compact_a_message_timeout_65534_2_images_an_initrd_a_password_restricted_literal_append_vga : (plan_sectors (planned (disks_of disk_logical) machine_logical volume_logical conf_logical_19 2422805327) machine_logical (on 1 (365 ∷ []) ++ on 0 (1324 ∷ 231 ∷ 1434 ∷ 1386 ∷ 1638 ∷ 319 ∷ 432 ∷ 2145 ∷ 2005 ∷ 403 ∷ [])) ≡ (file 512 (piece 0 (codes "LINE") ∷ [])) ∷ (file 512 (piece 0 (codes "dos") ∷ piece 16 (hex 6 0x200003030104) ∷ piece 28 (hex 14 0x0280010066060000028001003f01) ∷ piece 52 (hex 1 0x01) ∷ piece 64 (codes "safe") ∷ piece 80 (hex 46 0x4600000001040000d40e000002800100b001000002800100d5070000028001009301000001000100028001006108) ∷ [])) ∷ (file 512 []) ∷ (file 512 []) ∷ (file 512 []) ∷ (file 512 (piece 0 (codes "\n") ∷ piece 8 (codes " only this") ∷ [])) ∷ (file 512 (piece 0 (hex 5 0x0280030094) ∷ [])) ∷ (file 512 (piece 0 (hex 1 0x09) ∷ piece 8 (codes " quiet  x") ∷ [])) ∷ (file 512 (piece 2 (hex 1 0x1f) ∷ piece 480 (replicate 31 112) ∷ [])) ∷ (file 512 (piece 0 (hex 5 0x0280030094) ∷ [])) ∷ (file 512 (piece 0 (hex 45 0x028001006a050000028001006a0500000280020080000000028001006a050000028001006a0500000280020082) ∷ [])) ∷ []) × (plan_boot_sector (planned (disks_of disk_logical) machine_logical volume_logical conf_logical_19 2422805327) machine_logical (on 1 (365 ∷ []) ++ on 0 (1324 ∷ 231 ∷ 1434 ∷ 1386 ∷ 1638 ∷ 319 ∷ 432 ∷ 2145 ∷ 2005 ∷ 403 ∷ [])) (disks_of disk_logical 0 0) ≡ file 512 (piece 0 (hex 12 0xeb7e4c494c4f01004f136990) ∷ piece 16 (hex 3 0xfeff02) ∷ piece 24 (hex 14 0x028101006d010000028001006a05) ∷ piece 48 (hex 22 0x028001002c05000002800100e7000000028001009a05) ∷ piece 128 (replicate 312 195) ∷ piece 450 (hex 9 0x83000000110000001e) ∷ piece 466 (hex 10 0x05000000440000006009) ∷ piece 510 (hex 2 0x55aa) ∷ [])) × (map_size (planned (disks_of disk_logical) machine_logical volume_logical conf_logical_19 2422805327) machine_logical ≡ 11)
unfolding number16 number32 is_zero has_ranges has_address is_slot is_one_slot chs_of address_of slot_of some_slot slot_at slot_bytes to_chs to_lba sector_at sectors_of place_at slot_make could_be_one named_device entry_at entries_of table_entries is_link is_plain link_of logical_of listed linked_sector chain_entries chain_tables partitions_of numbered_span span_of disk_name last_partition partition_name device_name devices_of named_devices device_at disk_number device_number kind_of super_of super_checks super_in super_at with_counts super_bytes v1_inode v2_inode inode_of inode_at v1_inode_bytes v2_inode_bytes inode_bytes kept_inode inode_place bit with_bit parts_of volume_at number_in follow pointer_by inside follow_at zone_at block_at content_at entry_of entries_in minixentries_entry_at find_entry entries_at is_dots components child find_path file_block file_at zone_number block content entry first_named lookup reached thing names names_in IsSound child_path path_of link_at section file_content section_bytes is_bootable has_signature has_options has_names has_slots has_no_message has_whole_message has_message has_zeros is_whole timeout_of table_slots boot_of boot_at field_bytes merged_sector is_set entry_name is_printable is_name has_flags has_video has_length has_main has_initrd has_extra is_entry descriptor_of entry_bytes same_name repeats breaks table_at descriptor_bytes options_at extra_at options_bytes extra_bytes is_line line_of line_at line_bytes is_same_line names_of_section names_of_config started menu_decision menu_boot file_of middle_text target_of menu_entries menu_of meant slot_to slots_for chain_for file_slots file_sectors section_sectors_at flags_of descriptor_for plan_entries sectors_of_table sectors_after plan_sectors map_size plan_names plan_boot plan_boot_sector devices_in inode_places mapped_inode file_inode mapped_section code_in planned
plan_linear_compact_a_message_timeout_65534_2_images_an_initrd_a_password_restricted_literal_append_vga = (refl, refl, refl)

-- linear, compact, a prompt, an image, an alias, append, vga
pub plan_linear_compact_a_prompt_an_image_an_alias_append_vga : (plan_sectors (planned (disks_of disk_logical) machine_logical volume_logical conf_logical_20 3354308878) machine_logical (on 0 (158 ∷ 159 ∷ 164 ∷ 165 ∷ 166 ∷ 167 ∷ 168 ∷ [])) ≡ (file 512 (piece 0 (codes "LINE") ∷ [])) ∷ (file 512 (piece 0 (codes "old") ∷ piece 16 (hex 6 0x2000fdff0104) ∷ piece 28 (hex 13 0x02800100a700000002800100a8) ∷ piece 52 (hex 1 0x01) ∷ piece 64 (codes "5") ∷ piece 80 (hex 6 0x2000fdff0104) ∷ piece 92 (hex 13 0x02800100a700000002800100a8) ∷ piece 116 (hex 1 0x01) ∷ [])) ∷ (file 512 []) ∷ (file 512 []) ∷ (file 512 []) ∷ (file 512 (piece 0 (hex 1 0x05) ∷ piece 8 (codes " a=43") ∷ [])) ∷ (file 512 (piece 0 (hex 5 0x0280030094) ∷ [])) ∷ []) × (plan_boot_sector (planned (disks_of disk_logical) machine_logical volume_logical conf_logical_20 3354308878) machine_logical (on 0 (158 ∷ 159 ∷ 164 ∷ 165 ∷ 166 ∷ 167 ∷ 168 ∷ [])) (disks_of disk_logical 0 102) ≡ file 512 (piece 0 (hex 19 0xeb7e4c494c4f01000eb1eec701000000ffff02) ∷ piece 24 (hex 13 0x028001009e00000002800100a6) ∷ piece 48 (hex 21 0x028001009f00000002800100a400000002800100a5) ∷ piece 128 (replicate 312 195) ∷ piece 510 (hex 2 0x55aa) ∷ [])) × (map_size (planned (disks_of disk_logical) machine_logical volume_logical conf_logical_20 3354308878) machine_logical ≡ 7)
unfolding number16 number32 is_zero has_ranges has_address is_slot is_one_slot chs_of address_of slot_of some_slot slot_at slot_bytes to_chs to_lba sector_at sectors_of place_at slot_make could_be_one named_device entry_at entries_of table_entries is_link is_plain link_of logical_of listed linked_sector chain_entries chain_tables partitions_of numbered_span span_of disk_name last_partition partition_name device_name devices_of named_devices device_at disk_number device_number kind_of super_of super_checks super_in super_at with_counts super_bytes v1_inode v2_inode inode_of inode_at v1_inode_bytes v2_inode_bytes inode_bytes kept_inode inode_place bit with_bit parts_of volume_at number_in follow pointer_by inside follow_at zone_at block_at content_at entry_of entries_in minixentries_entry_at find_entry entries_at is_dots components child find_path file_block file_at zone_number block content entry first_named lookup reached thing names names_in IsSound child_path path_of link_at section file_content section_bytes is_bootable has_signature has_options has_names has_slots has_no_message has_whole_message has_message has_zeros is_whole timeout_of table_slots boot_of boot_at field_bytes merged_sector is_set entry_name is_printable is_name has_flags has_video has_length has_main has_initrd has_extra is_entry descriptor_of entry_bytes same_name repeats breaks table_at descriptor_bytes options_at extra_at options_bytes extra_bytes is_line line_of line_at line_bytes is_same_line names_of_section names_of_config started menu_decision menu_boot file_of middle_text target_of menu_entries menu_of meant slot_to slots_for chain_for file_slots file_sectors section_sectors_at flags_of descriptor_for plan_entries sectors_of_table sectors_after plan_sectors map_size plan_names plan_boot plan_boot_sector devices_in inode_places mapped_inode file_inode mapped_section code_in planned
plan_linear_compact_a_prompt_an_image_an_alias_append_vga = (refl, refl, refl)

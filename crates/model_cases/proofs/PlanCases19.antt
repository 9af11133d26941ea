-- Cases of the model, written by tools/plan_cases.py: the sectors of planned maps, and their boot sectors.
use Rattle.std.proofs.Common.{◌≡◌, ◌∷◌, [], codes, replicate, refl}
use Rattle.lilo_model.specs.BootSector.{is_bootable, has_signature, has_options, has_names, has_slots, has_no_message, has_whole_message, has_message, has_zeros, is_whole, timeout_of, table_slots, boot_of, boot_at, field_bytes, merged_sector}
use Rattle.lilo_model.specs.Bytes.{number16, number32, is_zero}
use Rattle.lilo_model.specs.ConfLawful.{names_of_section, names_of_config}
use Rattle.lilo_model.specs.Devices.{disk_name, last_partition, partition_name, device_name, devices_of, named_devices, device_at, disk_number, device_number}
use Rattle.lilo_model.specs.LineSector.{is_line, line_of, line_at, line_bytes, is_same_line}
use Rattle.lilo_model.specs.Meant.{started, menu_decision, menu_boot, file_of, middle_text, target_of, menu_entries, menu_of, meant}
use Rattle.lilo_model.specs.MinixEntries.{entry_of, entries_in, entry_at as minixentries_entry_at, find_entry, entries_at, is_dots}
use Rattle.lilo_model.specs.MinixFind.{components, child, find_path, file_block, file_at}
use Rattle.lilo_model.specs.MinixFindNames.{child_path, path_of}
use Rattle.lilo_model.specs.MinixLayout.{kind_of, super_of, super_checks, super_in, super_at, with_counts, super_bytes, v1_inode, v2_inode, inode_of, inode_at, v1_inode_bytes, v2_inode_bytes, inode_bytes, kept_inode, inode_place}
use Rattle.lilo_model.specs.MinixNames.{zone_number, block, content, entry, first_named, lookup, reached, thing, names, names_in, IsSound}
use Rattle.lilo_model.specs.MinixParts.{bit, with_bit, parts_of, volume_at, number_in, follow, pointer_by, inside, follow_at, zone_at, block_at, content_at}
use Rattle.lilo_model.specs.Options.{options_at, extra_at, options_bytes, extra_bytes}
use Rattle.lilo_model.specs.Partitions.{named_device, entry_at, entries_of, table_entries, is_link, is_plain, link_of, logical_of, listed, linked_sector, chain_entries, chain_tables, partitions_of, numbered_span, span_of}
use Rattle.lilo_model.specs.Plan.{slot_to, slots_for, chain_for, file_slots, file_sectors, section_sectors_at, flags_of, descriptor_for, plan_entries, sectors_of_table, sectors_after, plan_sectors, map_size, plan_names, plan_boot, plan_boot_sector}
use Rattle.lilo_model.specs.Planned.{devices_in, inode_places, mapped_inode, file_inode, mapped_section, code_in, planned}
use Rattle.lilo_model.specs.Section.{link_at, section, file_content, section_bytes}
use Rattle.lilo_model.specs.Slots.{has_ranges, has_address, is_slot, is_one_slot, chs_of, address_of, slot_of, some_slot, slot_at, slot_bytes, to_chs, to_lba, sector_at, sectors_of, place_at, slot_make, could_be_one}
use Rattle.lilo_model.specs.Table.{is_set, entry_name, is_printable, is_name, has_flags, has_video, has_length, has_main, has_initrd, has_extra, is_entry, descriptor_of, entry_bytes, same_name, repeats, breaks, table_at, descriptor_bytes}
use Rattle.model_cases.specs.Sparse.{hex, piece, file, disks_of, on}
use Rattle.model_cases.specs.PlanDisks.{disk_logical}
use Rattle.model_cases.specs.PlanLogicalConfs.{conf_logical_21, conf_logical_22, conf_logical_23, conf_logical_24, conf_logical_25, conf_logical_26, conf_logical_27, conf_logical_28}
use Rattle.model_cases.specs.PlanVolumes.{machine_logical, volume_logical}

-- linear, a message, a prompt, 2 images, an alias, a lock, root
pub plan_linear_a_message_a_prompt_2_images_an_alias_a_lock_root : (plan_sectors (planned (disks_of disk_logical) machine_logical volume_logical conf_logical_21 841699275) machine_logical (on 0 (2163 ∷ 1085 ∷ 420 ∷ 1063 ∷ 964 ∷ 393 ∷ 555 ∷ 2137 ∷ 670 ∷ [])) ≡ (file 512 (piece 0 (codes "LINE") ∷ [])) ∷ (file 512 (piece 0 (codes "b") ∷ piece 16 (hex 6 0x080000000504) ∷ piece 28 (hex 14 0x0280010089010000028001002b02) ∷ piece 52 (hex 1 0x01) ∷ piece 64 (codes "fifteen-letters") ∷ piece 84 (hex 2 0x0504) ∷ piece 92 (hex 14 0x0280010059080000028001009e02) ∷ piece 116 (hex 1 0x01) ∷ piece 128 (codes "7") ∷ piece 148 (hex 2 0x0504) ∷ piece 156 (hex 14 0x0280010059080000028001009e02) ∷ piece 180 (hex 1 0x01) ∷ [])) ∷ (file 512 []) ∷ (file 512 []) ∷ (file 512 []) ∷ (file 512 (piece 0 (codes "\n") ∷ piece 8 (codes " root=1abc") ∷ [])) ∷ (file 512 (piece 0 (hex 21 0x028001008400000002800100850000000280010086) ∷ [])) ∷ (file 512 (piece 0 (hex 1 0x0d) ∷ piece 8 (codes " rw root=1abc") ∷ [])) ∷ (file 512 (piece 0 (hex 21 0x028001008400000002800100850000000280010086) ∷ [])) ∷ []) × (plan_boot_sector (planned (disks_of disk_logical) machine_logical volume_logical conf_logical_21 841699275) machine_logical (on 0 (2163 ∷ 1085 ∷ 420 ∷ 1063 ∷ 964 ∷ 393 ∷ 555 ∷ 2137 ∷ 670 ∷ [])) (disks_of disk_logical 0 102) ≡ file 512 (piece 0 (hex 19 0xeb7e4c494c4f0100cb4f2b3201000000ffff03) ∷ piece 24 (hex 14 0x028001007308000002800100c403) ∷ piece 48 (hex 22 0x028001003d04000002800100a4010000028001002704) ∷ piece 128 (replicate 312 195) ∷ piece 510 (hex 2 0x55aa) ∷ [])) × (map_size (planned (disks_of disk_logical) machine_logical volume_logical conf_logical_21 841699275) machine_logical ≡ 9)
unfolding number16 number32 is_zero has_ranges has_address is_slot is_one_slot chs_of address_of slot_of some_slot slot_at slot_bytes to_chs to_lba sector_at sectors_of place_at slot_make could_be_one named_device entry_at entries_of table_entries is_link is_plain link_of logical_of listed linked_sector chain_entries chain_tables partitions_of numbered_span span_of disk_name last_partition partition_name device_name devices_of named_devices device_at disk_number device_number kind_of super_of super_checks super_in super_at with_counts super_bytes v1_inode v2_inode inode_of inode_at v1_inode_bytes v2_inode_bytes inode_bytes kept_inode inode_place bit with_bit parts_of volume_at number_in follow pointer_by inside follow_at zone_at block_at content_at entry_of entries_in minixentries_entry_at find_entry entries_at is_dots components child find_path file_block file_at zone_number block content entry first_named lookup reached thing names names_in IsSound child_path path_of link_at section file_content section_bytes is_bootable has_signature has_options has_names has_slots has_no_message has_whole_message has_message has_zeros is_whole timeout_of table_slots boot_of boot_at field_bytes merged_sector is_set entry_name is_printable is_name has_flags has_video has_length has_main has_initrd has_extra is_entry descriptor_of entry_bytes same_name repeats breaks table_at descriptor_bytes options_at extra_at options_bytes extra_bytes is_line line_of line_at line_bytes is_same_line names_of_section names_of_config started menu_decision menu_boot file_of middle_text target_of menu_entries menu_of meant slot_to slots_for chain_for file_slots file_sectors section_sectors_at flags_of descriptor_for plan_entries sectors_of_table sectors_after plan_sectors map_size plan_names plan_boot plan_boot_sector devices_in inode_places mapped_inode file_inode mapped_section code_in planned
plan_linear_a_message_a_prompt_2_images_an_alias_a_lock_root = (refl, refl, refl)

-- lba32, delay 2, timeout 0, 2 images, another system, an alias, a table, a password, restricted, vga, root
pub plan_lba32_delay_2_timeout_0_2_images_another_system_an_alias_a_table_a_password_restricted_vga_root : (plan_sectors (planned (disks_of disk_logical) machine_logical volume_logical conf_logical_22 3129456887) machine_logical (on 0 (158 ∷ 159 ∷ 164 ∷ 165 ∷ 166 ∷ 167 ∷ 168 ∷ 169 ∷ 170 ∷ 171 ∷ 172 ∷ 173 ∷ 174 ∷ [])) ≡ (file 512 (piece 0 (codes "LINE") ∷ [])) ∷ (file 512 (piece 0 (codes "dos") ∷ piece 16 (hex 6 0x20000503581b) ∷ piece 28 (hex 13 0x03800100a700000003800100a8) ∷ piece 52 (hex 1 0x01) ∷ piece 64 (codes "old") ∷ piece 80 (hex 1 0x87) ∷ piece 85 (hex 1 0x04) ∷ piece 92 (hex 13 0x03800100a900000003800100ab) ∷ piece 116 (hex 16 0x0100000003800100aa000000616f6c64) ∷ piece 144 (hex 1 0x87) ∷ piece 149 (hex 1 0x04) ∷ piece 156 (hex 13 0x03800100a900000003800100ab) ∷ piece 180 (hex 15 0x0100000003800100aa00000074776f) ∷ piece 208 (hex 6 0x020000000104) ∷ piece 220 (hex 13 0x03800100ac00000003800100ae) ∷ piece 244 (hex 13 0x0100000003800100ad00000037) ∷ piece 272 (hex 6 0x020000000104) ∷ piece 284 (hex 13 0x03800100ac00000003800100ae) ∷ piece 308 (hex 9 0x0100000003800100ad) ∷ [])) ∷ (file 512 []) ∷ (file 512 []) ∷ (file 512 []) ∷ (file 512 (piece 0 (hex 1 0x0c) ∷ piece 8 (codes " rw root=305") ∷ [])) ∷ (file 512 (piece 0 (hex 109 0x038001007600000003800100770000000380010078000000038001007900000003800100a600000003800100a600000003800100a600000003800100a6000000038001007a000000038001007b000000038001007c000000038001007d000000038001007e000000038001007f) ∷ [])) ∷ (file 512 []) ∷ (file 512 (piece 2 (hex 1 0x03) ∷ piece 480 (codes "tux") ∷ [])) ∷ (file 512 (piece 0 (hex 11 0x0381010011000000038101) ∷ [])) ∷ (file 512 (piece 0 (hex 1 0x03) ∷ piece 8 (codes " ro") ∷ [])) ∷ (file 512 (piece 2 (hex 1 0x03) ∷ piece 480 (codes "tux") ∷ [])) ∷ (file 512 (piece 0 (hex 21 0x038001009400000003800100950000000380010096) ∷ [])) ∷ []) × (plan_boot_sector (planned (disks_of disk_logical) machine_logical volume_logical conf_logical_22 3129456887) machine_logical (on 0 (158 ∷ 159 ∷ 164 ∷ 165 ∷ 166 ∷ 167 ∷ 168 ∷ 169 ∷ 170 ∷ 171 ∷ 172 ∷ 173 ∷ 174 ∷ [])) (disks_of disk_logical 0 102) ≡ file 512 (piece 0 (hex 19 0xeb7e4c494c4f0100f7b887ba00000200000005) ∷ piece 24 (hex 13 0x038001009e00000003800100a6) ∷ piece 48 (hex 21 0x038001009f00000003800100a400000003800100a5) ∷ piece 128 (replicate 312 195) ∷ piece 510 (hex 2 0x55aa) ∷ [])) × (map_size (planned (disks_of disk_logical) machine_logical volume_logical conf_logical_22 3129456887) machine_logical ≡ 13)
unfolding number16 number32 is_zero has_ranges has_address is_slot is_one_slot chs_of address_of slot_of some_slot slot_at slot_bytes to_chs to_lba sector_at sectors_of place_at slot_make could_be_one named_device entry_at entries_of table_entries is_link is_plain link_of logical_of listed linked_sector chain_entries chain_tables partitions_of numbered_span span_of disk_name last_partition partition_name device_name devices_of named_devices device_at disk_number device_number kind_of super_of super_checks super_in super_at with_counts super_bytes v1_inode v2_inode inode_of inode_at v1_inode_bytes v2_inode_bytes inode_bytes kept_inode inode_place bit with_bit parts_of volume_at number_in follow pointer_by inside follow_at zone_at block_at content_at entry_of entries_in minixentries_entry_at find_entry entries_at is_dots components child find_path file_block file_at zone_number block content entry first_named lookup reached thing names names_in IsSound child_path path_of link_at section file_content section_bytes is_bootable has_signature has_options has_names has_slots has_no_message has_whole_message has_message has_zeros is_whole timeout_of table_slots boot_of boot_at field_bytes merged_sector is_set entry_name is_printable is_name has_flags has_video has_length has_main has_initrd has_extra is_entry descriptor_of entry_bytes same_name repeats breaks table_at descriptor_bytes options_at extra_at options_bytes extra_bytes is_line line_of line_at line_bytes is_same_line names_of_section names_of_config started menu_decision menu_boot file_of middle_text target_of menu_entries menu_of meant slot_to slots_for chain_for file_slots file_sectors section_sectors_at flags_of descriptor_for plan_entries sectors_of_table sectors_after plan_sectors map_size plan_names plan_boot plan_boot_sector devices_in inode_places mapped_inode file_inode mapped_section code_in planned
plan_lba32_delay_2_timeout_0_2_images_another_system_an_alias_a_table_a_password_restricted_vga_root = (refl, refl, refl)

-- lba32, a prompt, delay 1, an image, another system, an initrd, a fallback, root
pub plan_lba32_a_prompt_delay_1_an_image_another_system_an_initrd_a_fallback_root : (plan_sectors (planned (disks_of disk_logical) machine_logical volume_logical conf_logical_23 810971156) machine_logical (on 0 (1721 ∷ 1898 ∷ 509 ∷ 962 ∷ 1427 ∷ 1070 ∷ 1109 ∷ 473 ∷ 2063 ∷ 221 ∷ [])) ≡ (file 512 (piece 0 (codes "LINE") ∷ [])) ∷ (file 512 (piece 0 (codes "dos") ∷ piece 16 (hex 1 0x01) ∷ piece 21 (hex 1 0x02) ∷ piece 28 (hex 14 0x038001002e040000038001005504) ∷ piece 52 (hex 1 0x01) ∷ piece 64 (codes "x") ∷ piece 80 (hex 6 0x100000000104) ∷ piece 92 (hex 13 0x03800100d901000003800100dd) ∷ piece 116 (hex 10 0x01000000038001000f08) ∷ [])) ∷ (file 512 []) ∷ (file 512 []) ∷ (file 512 []) ∷ (file 512 []) ∷ (file 512 (piece 0 (hex 5 0x03810100a0) ∷ [])) ∷ (file 512 (piece 0 (hex 1 0x0c) ∷ piece 8 (codes " rw root=305") ∷ [])) ∷ (file 512 (piece 0 (hex 7 0x03000000646f73) ∷ [])) ∷ (file 512 (piece 0 (hex 21 0x038001009400000003800100950000000380010096) ∷ [])) ∷ []) × (plan_boot_sector (planned (disks_of disk_logical) machine_logical volume_logical conf_logical_23 810971156) machine_logical (on 0 (1721 ∷ 1898 ∷ 509 ∷ 962 ∷ 1427 ∷ 1070 ∷ 1109 ∷ 473 ∷ 2063 ∷ 221 ∷ [])) (disks_of disk_logical 0 0) ≡ file 512 (piece 0 (hex 19 0xeb7e4c494c4f01001470563001000100ffff02) ∷ piece 24 (hex 14 0x03800100b9060000038001009305) ∷ piece 48 (hex 22 0x038001006a07000003800100fd01000003800100c203) ∷ piece 96 (hex 1 0x01) ∷ piece 450 (hex 9 0x83000000110000001e) ∷ piece 466 (hex 10 0x05000000440000006009) ∷ piece 510 (hex 2 0x55aa) ∷ [])) × (map_size (planned (disks_of disk_logical) machine_logical volume_logical conf_logical_23 810971156) machine_logical ≡ 10)
unfolding number16 number32 is_zero has_ranges has_address is_slot is_one_slot chs_of address_of slot_of some_slot slot_at slot_bytes to_chs to_lba sector_at sectors_of place_at slot_make could_be_one named_device entry_at entries_of table_entries is_link is_plain link_of logical_of listed linked_sector chain_entries chain_tables partitions_of numbered_span span_of disk_name last_partition partition_name device_name devices_of named_devices device_at disk_number device_number kind_of super_of super_checks super_in super_at with_counts super_bytes v1_inode v2_inode inode_of inode_at v1_inode_bytes v2_inode_bytes inode_bytes kept_inode inode_place bit with_bit parts_of volume_at number_in follow pointer_by inside follow_at zone_at block_at content_at entry_of entries_in minixentries_entry_at find_entry entries_at is_dots components child find_path file_block file_at zone_number block content entry first_named lookup reached thing names names_in IsSound child_path path_of link_at section file_content section_bytes is_bootable has_signature has_options has_names has_slots has_no_message has_whole_message has_message has_zeros is_whole timeout_of table_slots boot_of boot_at field_bytes merged_sector is_set entry_name is_printable is_name has_flags has_video has_length has_main has_initrd has_extra is_entry descriptor_of entry_bytes same_name repeats breaks table_at descriptor_bytes options_at extra_at options_bytes extra_bytes is_line line_of line_at line_bytes is_same_line names_of_section names_of_config started menu_decision menu_boot file_of middle_text target_of menu_entries menu_of meant slot_to slots_for chain_for file_slots file_sectors section_sectors_at flags_of descriptor_for plan_entries sectors_of_table sectors_after plan_sectors map_size plan_names plan_boot plan_boot_sector devices_in inode_places mapped_inode file_inode mapped_section code_in planned
plan_lba32_a_prompt_delay_1_an_image_another_system_an_initrd_a_fallback_root = (refl, refl, refl)

-- lba32, a prompt, delay 1, an image, another system, an alias, a lock, a fallback, root
pub plan_lba32_a_prompt_delay_1_an_image_another_system_an_alias_a_lock_a_fallback_root : (plan_sectors (planned (disks_of disk_logical) machine_logical volume_logical conf_logical_24 3628362530) machine_logical (on 0 (158 ∷ 159 ∷ 164 ∷ 165 ∷ 166 ∷ 167 ∷ 168 ∷ 169 ∷ 170 ∷ 171 ∷ [])) ≡ (file 512 (piece 0 (codes "LINE") ∷ [])) ∷ (file 512 (piece 0 (codes "linux") ∷ piece 16 (hex 6 0x10000000a00f) ∷ piece 28 (hex 13 0x03800100a700000003800100a9) ∷ piece 52 (hex 13 0x0100000003800100a800000037) ∷ piece 80 (hex 6 0x10000000a00f) ∷ piece 92 (hex 13 0x03800100a700000003800100a9) ∷ piece 116 (hex 29 0x0100000003800100a80000006669667465656e2d6c6574746572730009) ∷ piece 149 (hex 1 0x02) ∷ piece 156 (hex 13 0x03800100aa00000003800100ab) ∷ piece 180 (hex 1 0x01) ∷ [])) ∷ (file 512 []) ∷ (file 512 []) ∷ (file 512 []) ∷ (file 512 (piece 0 (hex 1 0x09) ∷ piece 8 (codes " root=305") ∷ [])) ∷ (file 512 (piece 0 (hex 9 0x050000006c696e7578) ∷ [])) ∷ (file 512 (piece 0 (hex 61 0x03800100980000000380010099000000038001009c000000038001009d00000003800100a000000003800100a100000003800100a200000003800100a3) ∷ [])) ∷ (file 512 []) ∷ (file 512 (piece 0 (hex 5 0x03810100a0) ∷ [])) ∷ []) × (plan_boot_sector (planned (disks_of disk_logical) machine_logical volume_logical conf_logical_24 3628362530) machine_logical (on 0 (158 ∷ 159 ∷ 164 ∷ 165 ∷ 166 ∷ 167 ∷ 168 ∷ 169 ∷ 170 ∷ 171 ∷ [])) (disks_of disk_logical 0 0) ≡ file 512 (piece 0 (hex 19 0xeb7e4c494c4f0100226b44d801000100ffff03) ∷ piece 24 (hex 13 0x038001009e00000003800100a6) ∷ piece 48 (hex 21 0x038001009f00000003800100a400000003800100a5) ∷ piece 128 (replicate 312 195) ∷ piece 450 (hex 9 0x83000000110000001e) ∷ piece 466 (hex 10 0x05000000440000006009) ∷ piece 510 (hex 2 0x55aa) ∷ [])) × (map_size (planned (disks_of disk_logical) machine_logical volume_logical conf_logical_24 3628362530) machine_logical ≡ 10)
unfolding number16 number32 is_zero has_ranges has_address is_slot is_one_slot chs_of address_of slot_of some_slot slot_at slot_bytes to_chs to_lba sector_at sectors_of place_at slot_make could_be_one named_device entry_at entries_of table_entries is_link is_plain link_of logical_of listed linked_sector chain_entries chain_tables partitions_of numbered_span span_of disk_name last_partition partition_name device_name devices_of named_devices device_at disk_number device_number kind_of super_of super_checks super_in super_at with_counts super_bytes v1_inode v2_inode inode_of inode_at v1_inode_bytes v2_inode_bytes inode_bytes kept_inode inode_place bit with_bit parts_of volume_at number_in follow pointer_by inside follow_at zone_at block_at content_at entry_of entries_in minixentries_entry_at find_entry entries_at is_dots components child find_path file_block file_at zone_number block content entry first_named lookup reached thing names names_in IsSound child_path path_of link_at section file_content section_bytes is_bootable has_signature has_options has_names has_slots has_no_message has_whole_message has_message has_zeros is_whole timeout_of table_slots boot_of boot_at field_bytes merged_sector is_set entry_name is_printable is_name has_flags has_video has_length has_main has_initrd has_extra is_entry descriptor_of entry_bytes same_name repeats breaks table_at descriptor_bytes options_at extra_at options_bytes extra_bytes is_line line_of line_at line_bytes is_same_line names_of_section names_of_config started menu_decision menu_boot file_of middle_text target_of menu_entries menu_of meant slot_to slots_for chain_for file_slots file_sectors section_sectors_at flags_of descriptor_for plan_entries sectors_of_table sectors_after plan_sectors map_size plan_names plan_boot plan_boot_sector devices_in inode_places mapped_inode file_inode mapped_section code_in planned
plan_lba32_a_prompt_delay_1_an_image_another_system_an_alias_a_lock_a_fallback_root = (refl, refl, refl)

-- linear, delay 65534, an image, an alias, a fallback
pub plan_linear_delay_65534_an_image_an_alias_a_fallback : (plan_sectors (planned (disks_of disk_logical) machine_logical volume_logical conf_logical_25 794370742) machine_logical (on 0 (2166 ∷ 979 ∷ 2318 ∷ 1008 ∷ 2109 ∷ 795 ∷ 722 ∷ 1389 ∷ [])) ≡ (file 512 (piece 0 (codes "LINE") ∷ [])) ∷ (file 512 (piece 0 (codes "safe") ∷ piece 16 (hex 6 0x10000000a00f) ∷ piece 28 (hex 14 0x028001001b030000028001006d05) ∷ piece 52 (hex 17 0x0100000002800100d20200006173616665) ∷ piece 80 (hex 6 0x10000000a00f) ∷ piece 92 (hex 14 0x028001001b030000028001006d05) ∷ piece 116 (hex 10 0x0100000002800100d202) ∷ [])) ∷ (file 512 []) ∷ (file 512 []) ∷ (file 512 []) ∷ (file 512 []) ∷ (file 512 (piece 0 (hex 10 0x06000000736166652073) ∷ [])) ∷ (file 512 (piece 0 (hex 61 0x02800100980000000280010099000000028001009c000000028001009d00000002800100a000000002800100a100000002800100a200000002800100a3) ∷ [])) ∷ []) × (plan_boot_sector (planned (disks_of disk_logical) machine_logical volume_logical conf_logical_25 794370742) machine_logical (on 0 (2166 ∷ 979 ∷ 2318 ∷ 1008 ∷ 2109 ∷ 795 ∷ 722 ∷ 1389 ∷ [])) (disks_of disk_logical 0 0) ≡ file 512 (piece 0 (hex 19 0xeb7e4c494c4f0100b622592f0000feffffff02) ∷ piece 24 (hex 14 0x0280010076080000028001003d08) ∷ piece 48 (hex 22 0x02800100d3030000028001000e09000002800100f003) ∷ piece 450 (hex 9 0x83000000110000001e) ∷ piece 466 (hex 10 0x05000000440000006009) ∷ piece 510 (hex 2 0x55aa) ∷ [])) × (map_size (planned (disks_of disk_logical) machine_logical volume_logical conf_logical_25 794370742) machine_logical ≡ 8)
unfolding number16 number32 is_zero has_ranges has_address is_slot is_one_slot chs_of address_of slot_of some_slot slot_at slot_bytes to_chs to_lba sector_at sectors_of place_at slot_make could_be_one named_device entry_at entries_of table_entries is_link is_plain link_of logical_of listed linked_sector chain_entries chain_tables partitions_of numbered_span span_of disk_name last_partition partition_name device_name devices_of named_devices device_at disk_number device_number kind_of super_of super_checks super_in super_at with_counts super_bytes v1_inode v2_inode inode_of inode_at v1_inode_bytes v2_inode_bytes inode_bytes kept_inode inode_place bit with_bit parts_of volume_at number_in follow pointer_by inside follow_at zone_at block_at content_at entry_of entries_in minixentries_entry_at find_entry entries_at is_dots components child find_path file_block file_at zone_number block content entry first_named lookup reached thing names names_in IsSound child_path path_of link_at section file_content section_bytes is_bootable has_signature has_options has_names has_slots has_no_message has_whole_message has_message has_zeros is_whole timeout_of table_slots boot_of boot_at field_bytes merged_sector is_set entry_name is_printable is_name has_flags has_video has_length has_main has_initrd has_extra is_entry descriptor_of entry_bytes same_name repeats breaks table_at descriptor_bytes options_at extra_at options_bytes extra_bytes is_line line_of line_at line_bytes is_same_line names_of_section names_of_config started menu_decision menu_boot file_of middle_text target_of menu_entries menu_of meant slot_to slots_for chain_for file_slots file_sectors section_sectors_at flags_of descriptor_for plan_entries sectors_of_table sectors_after plan_sectors map_size plan_names plan_boot plan_boot_sector devices_in inode_places mapped_inode file_inode mapped_section code_in planned
plan_linear_delay_65534_an_image_an_alias_a_fallback = (refl, refl, refl)

-- by cylinder, a message, a prompt, delay 65534, an image, one omitted, another system, an alias, a table, a password, restricted, append, vga, root
pub plan_by_cylinder_a_message_a_prompt_delay_65534_an_image_one_omitted_another_system_an_alias_a_table_a_password_restricted_append_vga_root : (plan_sectors (planned (disks_of disk_logical) machine_logical volume_logical conf_logical_26 566163143) machine_logical (on 0 (158 ∷ 159 ∷ 164 ∷ 165 ∷ 166 ∷ 167 ∷ 168 ∷ 169 ∷ 170 ∷ [])) ≡ (file 512 (piece 0 (codes "LINE") ∷ [])) ∷ (file 512 (piece 0 (codes "old") ∷ piece 16 (hex 1 0x87) ∷ piece 21 (hex 1 0x04) ∷ piece 28 (hex 15 0x018001001002010001800100010202) ∷ piece 52 (hex 13 0x01000000018001001102010032) ∷ piece 80 (hex 1 0x87) ∷ piece 85 (hex 1 0x04) ∷ piece 92 (hex 15 0x018001001002010001800100010202) ∷ piece 116 (hex 11 0x0100000001800100110201) ∷ [])) ∷ (file 512 []) ∷ (file 512 []) ∷ (file 512 []) ∷ (file 512 (piece 0 (hex 22 0x01800100030200000180010004020000018001000502) ∷ [])) ∷ (file 512 []) ∷ (file 512 (piece 2 (hex 1 0x03) ∷ piece 480 (codes "tux") ∷ [])) ∷ (file 512 (piece 0 (hex 13 0x01800100010001000180010001) ∷ [])) ∷ []) × (plan_boot_sector (planned (disks_of disk_logical) machine_logical volume_logical conf_logical_26 566163143) machine_logical (on 0 (158 ∷ 159 ∷ 164 ∷ 165 ∷ 166 ∷ 167 ∷ 168 ∷ 169 ∷ 170 ∷ [])) (disks_of disk_logical 0 102) ≡ file 512 (piece 0 (hex 71 0xeb7e4c494c4f0100c7f6be210100feffffff0200b40401000180010006020100018001000e020100018001000f0201000180010007020100018001000c020100018001000d0201) ∷ piece 128 (replicate 312 195) ∷ piece 510 (hex 2 0x55aa) ∷ [])) × (map_size (planned (disks_of disk_logical) machine_logical volume_logical conf_logical_26 566163143) machine_logical ≡ 9)
unfolding number16 number32 is_zero has_ranges has_address is_slot is_one_slot chs_of address_of slot_of some_slot slot_at slot_bytes to_chs to_lba sector_at sectors_of place_at slot_make could_be_one named_device entry_at entries_of table_entries is_link is_plain link_of logical_of listed linked_sector chain_entries chain_tables partitions_of numbered_span span_of disk_name last_partition partition_name device_name devices_of named_devices device_at disk_number device_number kind_of super_of super_checks super_in super_at with_counts super_bytes v1_inode v2_inode inode_of inode_at v1_inode_bytes v2_inode_bytes inode_bytes kept_inode inode_place bit with_bit parts_of volume_at number_in follow pointer_by inside follow_at zone_at block_at content_at entry_of entries_in minixentries_entry_at find_entry entries_at is_dots components child find_path file_block file_at zone_number block content entry first_named lookup reached thing names names_in IsSound child_path path_of link_at section file_content section_bytes is_bootable has_signature has_options has_names has_slots has_no_message has_whole_message has_message has_zeros is_whole timeout_of table_slots boot_of boot_at field_bytes merged_sector is_set entry_name is_printable is_name has_flags has_video has_length has_main has_initrd has_extra is_entry descriptor_of entry_bytes same_name repeats breaks table_at descriptor_bytes options_at extra_at options_bytes extra_bytes is_line line_of line_at line_bytes is_same_line names_of_section names_of_config started menu_decision menu_boot file_of middle_text target_of menu_entries menu_of meant slot_to slots_for chain_for file_slots file_sectors section_sectors_at flags_of descriptor_for plan_entries sectors_of_table sectors_after plan_sectors map_size plan_names plan_boot plan_boot_sector devices_in inode_places mapped_inode file_inode mapped_section code_in planned
plan_by_cylinder_a_message_a_prompt_delay_65534_an_image_one_omitted_another_system_an_alias_a_table_a_password_restricted_append_vga_root = (refl, refl, refl)

-- by cylinder, timeout 65534, another system, an alias, a table, a password, restricted, a fallback
pub plan_by_cylinder_timeout_65534_another_system_an_alias_a_table_a_password_restricted_a_fallback : (plan_sectors (planned (disks_of disk_logical) machine_logical volume_logical conf_logical_27 61589295) machine_logical (on 0 (855 ∷ 1656 ∷ 2294 ∷ 724 ∷ 905 ∷ 318 ∷ 315 ∷ 2095 ∷ [])) ≡ (file 512 (piece 0 (codes "LINE") ∷ [])) ∷ (file 512 (piece 0 (codes "old") ∷ piece 16 (hex 1 0x97) ∷ piece 21 (hex 1 0x04) ∷ piece 28 (hex 15 0x018001000d04020001800100051e03) ∷ piece 52 (hex 16 0x01000000018001000a040200616f6c64) ∷ piece 80 (hex 1 0x97) ∷ piece 85 (hex 1 0x04) ∷ piece 92 (hex 15 0x018001000d04020001800100051e03) ∷ piece 116 (hex 11 0x01000000018001000a0402) ∷ [])) ∷ (file 512 []) ∷ (file 512 []) ∷ (file 512 []) ∷ (file 512 []) ∷ (file 512 (piece 0 (hex 9 0x050003006f6c642073) ∷ piece 480 (codes "a b") ∷ [])) ∷ (file 512 (piece 0 (hex 13 0x01810100120000000181010001) ∷ [])) ∷ []) × (plan_boot_sector (planned (disks_of disk_logical) machine_logical volume_logical conf_logical_27 61589295) machine_logical (on 0 (855 ∷ 1656 ∷ 2294 ∷ 724 ∷ 905 ∷ 318 ∷ 315 ∷ 2095 ∷ [])) (disks_of disk_logical 0 0) ≡ file 512 (piece 0 (hex 12 0xeb7e4c494c4f01002fc7ab03) ∷ piece 16 (hex 3 0xfeff02) ∷ piece 24 (hex 15 0x01800100060c020001800100050d01) ∷ piece 48 (hex 23 0x01800100081801000180010011210200018001000b0a02) ∷ piece 128 (replicate 312 195) ∷ piece 450 (hex 9 0x83000000110000001e) ∷ piece 466 (hex 10 0x05000000440000006009) ∷ piece 510 (hex 2 0x55aa) ∷ [])) × (map_size (planned (disks_of disk_logical) machine_logical volume_logical conf_logical_27 61589295) machine_logical ≡ 8)
unfolding number16 number32 is_zero has_ranges has_address is_slot is_one_slot chs_of address_of slot_of some_slot slot_at slot_bytes to_chs to_lba sector_at sectors_of place_at slot_make could_be_one named_device entry_at entries_of table_entries is_link is_plain link_of logical_of listed linked_sector chain_entries chain_tables partitions_of numbered_span span_of disk_name last_partition partition_name device_name devices_of named_devices device_at disk_number device_number kind_of super_of super_checks super_in super_at with_counts super_bytes v1_inode v2_inode inode_of inode_at v1_inode_bytes v2_inode_bytes inode_bytes kept_inode inode_place bit with_bit parts_of volume_at number_in follow pointer_by inside follow_at zone_at block_at content_at entry_of entries_in minixentries_entry_at find_entry entries_at is_dots components child find_path file_block file_at zone_number block content entry first_named lookup reached thing names names_in IsSound child_path path_of link_at section file_content section_bytes is_bootable has_signature has_options has_names has_slots has_no_message has_whole_message has_message has_zeros is_whole timeout_of table_slots boot_of boot_at field_bytes merged_sector is_set entry_name is_printable is_name has_flags has_video has_length has_main has_initrd has_extra is_entry descriptor_of entry_bytes same_name repeats breaks table_at descriptor_bytes options_at extra_at options_bytes extra_bytes is_line line_of line_at line_bytes is_same_line names_of_section names_of_config started menu_decision menu_boot file_of middle_text target_of menu_entries menu_of meant slot_to slots_for chain_for file_slots file_sectors section_sectors_at flags_of descriptor_for plan_entries sectors_of_table sectors_after plan_sectors map_size plan_names plan_boot plan_boot_sector devices_in inode_places mapped_inode file_inode mapped_section code_in planned
plan_by_cylinder_timeout_65534_another_system_an_alias_a_table_a_password_restricted_a_fallback = (refl, refl, refl)

-- lba32, delay 2, 3 images, an initrd, a password, a fallback, literal, append, root
pub plan_lba32_delay_2_3_images_an_initrd_a_password_a_fallback_literal_append_root : (plan_sectors (planned (disks_of disk_logical) machine_logical volume_logical conf_logical_28 2148622511) machine_logical (on 0 (158 ∷ 159 ∷ 164 ∷ 165 ∷ 166 ∷ 167 ∷ 168 ∷ 169 ∷ 170 ∷ 171 ∷ 172 ∷ 173 ∷ 174 ∷ 175 ∷ 176 ∷ [])) ≡ (file 512 (piece 0 (codes "LINE") ∷ [])) ∷ (file 512 (piece 0 (codes "safe") ∷ piece 16 (hex 6 0x02000000a00f) ∷ piece 28 (hex 13 0x03800100a700000003800100a9) ∷ piece 52 (hex 15 0x0100000003800100a80000006f6c64) ∷ piece 80 (hex 39 0x4000000005040000d40e000003800100aa00000003800100ab00000003800100ac000000010001) ∷ piece 128 (codes "two") ∷ piece 144 (hex 45 0x52000000050400000102000003800100ad00000003800100af00000003800100b00000000100010003800100ae) ∷ [])) ∷ (file 512 []) ∷ (file 512 []) ∷ (file 512 []) ∷ (file 512 (piece 0 (codes "\n") ∷ piece 8 (codes " only this") ∷ [])) ∷ (file 512 (piece 2 (hex 1 0x03) ∷ piece 480 (codes "a b") ∷ [])) ∷ (file 512 (piece 0 (hex 61 0x03800100980000000380010099000000038001009c000000038001009d00000003800100a000000003800100a100000003800100a200000003800100a3) ∷ [])) ∷ (file 512 (piece 0 (hex 1 0x12) ∷ piece 8 (codes " root=d26 quiet  x") ∷ [])) ∷ (file 512 (piece 0 (hex 21 0x038001008400000003800100850000000380010086) ∷ [])) ∷ (file 512 (piece 0 (hex 61 0x03800100a600000003800100a60000000380010080000000038001008100000003800100a600000003800100a600000003800100820000000380010083) ∷ [])) ∷ (file 512 (piece 0 (hex 1 0x12) ∷ piece 8 (codes " root=305 quiet  x") ∷ [])) ∷ (file 512 (piece 0 (hex 9 0x0500030074776f2073) ∷ piece 480 (codes "tux") ∷ [])) ∷ (file 512 (piece 0 (hex 21 0x038001008400000003800100850000000380010086) ∷ [])) ∷ (file 512 (piece 0 (hex 13 0x038001008e000000038001008f) ∷ [])) ∷ []) × (plan_boot_sector (planned (disks_of disk_logical) machine_logical volume_logical conf_logical_28 2148622511) machine_logical (on 0 (158 ∷ 159 ∷ 164 ∷ 165 ∷ 166 ∷ 167 ∷ 168 ∷ 169 ∷ 170 ∷ 171 ∷ 172 ∷ 173 ∷ 174 ∷ 175 ∷ 176 ∷ [])) (disks_of disk_logical 0 102) ≡ file 512 (piece 0 (hex 19 0xeb7e4c494c4f0100af60118000000200ffff03) ∷ piece 24 (hex 13 0x038001009e00000003800100a6) ∷ piece 48 (hex 21 0x038001009f00000003800100a400000003800100a5) ∷ piece 96 (hex 1 0x01) ∷ piece 128 (replicate 312 195) ∷ piece 510 (hex 2 0x55aa) ∷ [])) × (map_size (planned (disks_of disk_logical) machine_logical volume_logical conf_logical_28 2148622511) machine_logical ≡ 15)
unfolding number16 number32 is_zero has_ranges has_address is_slot is_one_slot chs_of address_of slot_of some_slot slot_at slot_bytes to_chs to_lba sector_at sectors_of place_at slot_make could_be_one named_device entry_at entries_of table_entries is_link is_plain link_of logical_of listed linked_sector chain_entries chain_tables partitions_of numbered_span span_of disk_name last_partition partition_name device_name devices_of named_devices device_at disk_number device_number kind_of super_of super_checks super_in super_at with_counts super_bytes v1_inode v2_inode inode_of inode_at v1_inode_bytes v2_inode_bytes inode_bytes kept_inode inode_place bit with_bit parts_of volume_at number_in follow pointer_by inside follow_at zone_at block_at content_at entry_of entries_in minixentries_entry_at find_entry entries_at is_dots components child find_path file_block file_at zone_number block content entry first_named lookup reached thing names names_in IsSound child_path path_of link_at section file_content section_bytes is_bootable has_signature has_options has_names has_slots has_no_message has_whole_message has_message has_zeros is_whole timeout_of table_slots boot_of boot_at field_bytes merged_sector is_set entry_name is_printable is_name has_flags has_video has_length has_main has_initrd has_extra is_entry descriptor_of entry_bytes same_name repeats breaks table_at descriptor_bytes options_at extra_at options_bytes extra_bytes is_line line_of line_at line_bytes is_same_line names_of_section names_of_config started menu_decision menu_boot file_of middle_text target_of menu_entries menu_of meant slot_to slots_for chain_for file_slots file_sectors section_sectors_at flags_of descriptor_for plan_entries sectors_of_table sectors_after plan_sectors map_size plan_names plan_boot plan_boot_sector devices_in inode_places mapped_inode file_inode mapped_section code_in planned
plan_lba32_delay_2_3_images_an_initrd_a_password_a_fallback_literal_append_root = (refl, refl, refl)

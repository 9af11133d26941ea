-- Cases of the model, written by tools/plan_cases.py: the sectors of planned maps, and their boot sectors.
use Rattle.std.proofs.Common.{◌≡◌, ◌∷◌, ◌++◌, [], codes, replicate, refl}
use Rattle.lilo_model.specs.BootSector.{is_bootable, has_signature, has_options, has_names, has_slots, has_no_message, has_whole_message, has_message, has_zeros, is_whole, timeout_of, table_slots, boot_of, boot_at, field_bytes, merged_sector}
use Rattle.lilo_model.specs.Bytes.{number16, number32, is_zero}
use Rattle.lilo_model.specs.ConfLawful.{names_of_section, names_of_config}
use Rattle.lilo_model.specs.Devices.{disk_name, last_partition, partition_name, device_name, devices_of, named_devices, device_at, disk_number, device_number}
use Rattle.lilo_model.specs.LineSector.{is_line, line_of, line_at, line_bytes, is_same_line}
use Rattle.lilo_model.specs.Meant.{started, menu_decision, menu_boot, file_of, middle_text, target_of, menu_entries, menu_of, meant}
use Rattle.lilo_model.specs.MinixEntries.{entry_of, entries_in, entry_at as minixentries_entry_at, find_entry, entries_at, is_dots}
use Rattle.lilo_model.specs.MinixFind.{components, child, find_path, file_block, file_at}
use Rattle.lilo_model.specs.MinixFindNames.{child_path, path_of}
use Rattle.lilo_model.specs.MinixLayout.{kind_of, super_of, super_checks, super_in, super_at, with_counts, super_bytes, v1_inode, v2_inode, inode_of, inode_at, v1_inode_bytes, v2_inode_bytes, inode_bytes, kept_inode, inode_place}
use Rattle.lilo_model.specs.MinixNames.{zone_number, block, content, entry, first_named, lookup, reached, thing, names, names_in, IsSound}
use Rattle.lilo_model.specs.MinixParts.{bit, with_bit, parts_of, volume_at, number_in, follow, pointer_by, inside, follow_at, zone_at, block_at, content_at}
use Rattle.lilo_model.specs.Options.{options_at, extra_at, options_bytes, extra_bytes}
use Rattle.lilo_model.specs.Partitions.{named_device, entry_at, entries_of, table_entries, is_link, is_plain, link_of, logical_of, listed, linked_sector, chain_entries, chain_tables, partitions_of, numbered_span, span_of}
use Rattle.lilo_model.specs.Plan.{slot_to, slots_for, chain_for, file_slots, file_sectors, section_sectors_at, flags_of, descriptor_for, plan_entries, sectors_of_table, sectors_after, plan_sectors, map_size, plan_names, plan_boot, plan_boot_sector}
use Rattle.lilo_model.specs.Planned.{devices_in, inode_places, mapped_inode, file_inode, mapped_section, code_in, planned}
use Rattle.lilo_model.specs.Section.{link_at, section, file_content, section_bytes}
use Rattle.lilo_model.specs.Slots.{has_ranges, has_address, is_slot, is_one_slot, chs_of, address_of, slot_of, some_slot, slot_at, slot_bytes, to_chs, to_lba, sector_at, sectors_of, place_at, slot_make, could_be_one}
use Rattle.lilo_model.specs.Table.{is_set, entry_name, is_printable, is_name, has_flags, has_video, has_length, has_main, has_initrd, has_extra, is_entry, descriptor_of, entry_bytes, same_name, repeats, breaks, table_at, descriptor_bytes}
use Rattle.model_cases.specs.Sparse.{hex, piece, file, disks_of, on}
use Rattle.model_cases.specs.PlanDisks.{disk_logical}
use Rattle.model_cases.specs.PlanLogicalConfs.{conf_logical_10, conf_logical_11, conf_logical_12, conf_logical_5, conf_logical_6, conf_logical_7, conf_logical_8, conf_logical_9}
use Rattle.model_cases.specs.PlanVolumes.{machine_logical, volume_logical}

-- lba32, compact, timeout 1, an image, another system, an initrd, a fallback
pub plan_lba32_compact_timeout_1_an_image_another_system_an_initrd_a_fallback : (plan_sectors (planned (disks_of disk_logical) machine_logical volume_logical conf_logical_5 1719079043) machine_logical (on 0 (657 ∷ 2065 ∷ 1895 ∷ 2117 ∷ 1524 ∷ 2014 ∷ 228 ∷ 614 ∷ 1211 ∷ 770 ∷ 1628 ∷ [])) ≡ (file 512 (piece 0 (codes "LINE") ∷ [])) ∷ (file 512 (piece 0 (codes "b") ∷ piece 16 (hex 52 0x50000000581b0000d40e000003800100de070000038001006602000003800100bb0400000100010003800100e400000073616665) ∷ piece 80 (hex 1 0x01) ∷ piece 85 (hex 1 0x02) ∷ piece 92 (hex 14 0x0380010002030000038001005c06) ∷ piece 116 (hex 1 0x01) ∷ [])) ∷ (file 512 []) ∷ (file 512 []) ∷ (file 512 []) ∷ (file 512 (piece 0 (hex 1 0x03) ∷ piece 8 (codes " ro") ∷ [])) ∷ (file 512 (piece 0 (hex 5 0x0100000062) ∷ [])) ∷ (file 512 (piece 0 (hex 45 0x038004007600000003800100f405000003800100f405000003800100f405000003800100f4050000038006007a) ∷ [])) ∷ (file 512 (piece 0 (hex 45 0x03800100f405000003800100f4050000038002008000000003800100f405000003800100f40500000380020082) ∷ [])) ∷ (file 512 []) ∷ (file 512 (piece 0 (hex 5 0x0381010011) ∷ [])) ∷ []) × (plan_boot_sector (planned (disks_of disk_logical) machine_logical volume_logical conf_logical_5 1719079043) machine_logical (on 0 (657 ∷ 2065 ∷ 1895 ∷ 2117 ∷ 1524 ∷ 2014 ∷ 228 ∷ 614 ∷ 1211 ∷ 770 ∷ 1628 ∷ [])) (disks_of disk_logical 0 102) ≡ file 512 (piece 0 (hex 12 0xeb7e4c494c4f010083107766) ∷ piece 16 (hex 3 0x010002) ∷ piece 24 (hex 14 0x038001009102000003800100f405) ∷ piece 48 (hex 22 0x03800100110800000380010067070000038001004508) ∷ piece 96 (hex 1 0x01) ∷ piece 510 (hex 2 0x55aa) ∷ [])) × (map_size (planned (disks_of disk_logical) machine_logical volume_logical conf_logical_5 1719079043) machine_logical ≡ 11)
unfolding number16 number32 is_zero has_ranges has_address is_slot is_one_slot chs_of address_of slot_of some_slot slot_at slot_bytes to_chs to_lba sector_at sectors_of place_at slot_make could_be_one named_device entry_at entries_of table_entries is_link is_plain link_of logical_of listed linked_sector chain_entries chain_tables partitions_of numbered_span span_of disk_name last_partition partition_name device_name devices_of named_devices device_at disk_number device_number kind_of super_of super_checks super_in super_at with_counts super_bytes v1_inode v2_inode inode_of inode_at v1_inode_bytes v2_inode_bytes inode_bytes kept_inode inode_place bit with_bit parts_of volume_at number_in follow pointer_by inside follow_at zone_at block_at content_at entry_of entries_in minixentries_entry_at find_entry entries_at is_dots components child find_path file_block file_at zone_number block content entry first_named lookup reached thing names names_in IsSound child_path path_of link_at section file_content section_bytes is_bootable has_signature has_options has_names has_slots has_no_message has_whole_message has_message has_zeros is_whole timeout_of table_slots boot_of boot_at field_bytes merged_sector is_set entry_name is_printable is_name has_flags has_video has_length has_main has_initrd has_extra is_entry descriptor_of entry_bytes same_name repeats breaks table_at descriptor_bytes options_at extra_at options_bytes extra_bytes is_line line_of line_at line_bytes is_same_line names_of_section names_of_config started menu_decision menu_boot file_of middle_text target_of menu_entries menu_of meant slot_to slots_for chain_for file_slots file_sectors section_sectors_at flags_of descriptor_for plan_entries sectors_of_table sectors_after plan_sectors map_size plan_names plan_boot plan_boot_sector devices_in inode_places mapped_inode file_inode mapped_section code_in planned
plan_lba32_compact_timeout_1_an_image_another_system_an_initrd_a_fallback = (refl, refl, refl)

-- linear, delay 1, timeout 1, an image, one omitted, another system, a table, a password, append, root
pub plan_linear_delay_1_timeout_1_an_image_one_omitted_another_system_a_table_a_password_append_root : (plan_sectors (planned (disks_of disk_logical) machine_logical volume_logical conf_logical_6 3884096246) machine_logical (on 0 (158 ∷ 159 ∷ 164 ∷ 165 ∷ 166 ∷ 167 ∷ 168 ∷ 169 ∷ [])) ≡ (file 512 (piece 0 (codes "LINE") ∷ [])) ∷ (file 512 (piece 0 (codes "dos") ∷ piece 16 (hex 1 0x83) ∷ piece 21 (hex 1 0x04) ∷ piece 28 (hex 13 0x02800100a700000002800100a9) ∷ piece 52 (hex 9 0x0100000002800100a8) ∷ [])) ∷ (file 512 []) ∷ (file 512 []) ∷ (file 512 []) ∷ (file 512 []) ∷ (file 512 (piece 2 (hex 1 0x03) ∷ piece 480 (codes "top") ∷ [])) ∷ (file 512 (piece 0 (hex 11 0x0280010011000000028101) ∷ [])) ∷ []) × (plan_boot_sector (planned (disks_of disk_logical) machine_logical volume_logical conf_logical_6 3884096246) machine_logical (on 0 (158 ∷ 159 ∷ 164 ∷ 165 ∷ 166 ∷ 167 ∷ 168 ∷ 169 ∷ [])) (disks_of disk_logical 0 102) ≡ file 512 (piece 0 (hex 19 0xeb7e4c494c4f0100f69a82e700000100010001) ∷ piece 24 (hex 13 0x028001009e00000002800100a6) ∷ piece 48 (hex 21 0x028001009f00000002800100a400000002800100a5) ∷ piece 128 (replicate 312 195) ∷ piece 510 (hex 2 0x55aa) ∷ [])) × (map_size (planned (disks_of disk_logical) machine_logical volume_logical conf_logical_6 3884096246) machine_logical ≡ 8)
unfolding number16 number32 is_zero has_ranges has_address is_slot is_one_slot chs_of address_of slot_of some_slot slot_at slot_bytes to_chs to_lba sector_at sectors_of place_at slot_make could_be_one named_device entry_at entries_of table_entries is_link is_plain link_of logical_of listed linked_sector chain_entries chain_tables partitions_of numbered_span span_of disk_name last_partition partition_name device_name devices_of named_devices device_at disk_number device_number kind_of super_of super_checks super_in super_at with_counts super_bytes v1_inode v2_inode inode_of inode_at v1_inode_bytes v2_inode_bytes inode_bytes kept_inode inode_place bit with_bit parts_of volume_at number_in follow pointer_by inside follow_at zone_at block_at content_at entry_of entries_in minixentries_entry_at find_entry entries_at is_dots components child find_path file_block file_at zone_number block content entry first_named lookup reached thing names names_in IsSound child_path path_of link_at section file_content section_bytes is_bootable has_signature has_options has_names has_slots has_no_message has_whole_message has_message has_zeros is_whole timeout_of table_slots boot_of boot_at field_bytes merged_sector is_set entry_name is_printable is_name has_flags has_video has_length has_main has_initrd has_extra is_entry descriptor_of entry_bytes same_name repeats breaks table_at descriptor_bytes options_at extra_at options_bytes extra_bytes is_line line_of line_at line_bytes is_same_line names_of_section names_of_config started menu_decision menu_boot file_of middle_text target_of menu_entries menu_of meant slot_to slots_for chain_for file_slots file_sectors section_sectors_at flags_of descriptor_for plan_entries sectors_of_table sectors_after plan_sectors map_size plan_names plan_boot plan_boot_sector devices_in inode_places mapped_inode file_inode mapped_section code_in planned
plan_linear_delay_1_timeout_1_an_image_one_omitted_another_system_a_table_a_password_append_root = (refl, refl, refl)

-- by cylinder, a prompt, delay 2, timeout 0, an image, a password, restricted
pub plan_by_cylinder_a_prompt_delay_2_timeout_0_an_image_a_password_restricted : (plan_sectors (planned (disks_of disk_logical) machine_logical volume_logical conf_logical_7 2482155178) machine_logical (on 0 (2139 ∷ 1482 ∷ 183 ∷ 387 ∷ 304 ∷ 1772 ∷ 948 ∷ 870 ∷ [])) ≡ (file 512 (piece 0 (codes "LINE") ∷ [])) ∷ (file 512 (piece 0 (codes "dos") ∷ piece 16 (hex 6 0x06000000581b) ∷ piece 28 (hex 15 0x01800100051a000001800100040c03) ∷ piece 52 (hex 11 0x01000000018001000e0d03) ∷ [])) ∷ (file 512 []) ∷ (file 512 []) ∷ (file 512 []) ∷ (file 512 (piece 0 (hex 1 0x03) ∷ piece 8 (codes " rw") ∷ [])) ∷ (file 512 (piece 2 (hex 1 0x1f) ∷ piece 480 (replicate 31 112) ∷ [])) ∷ (file 512 (piece 0 (hex 111 0x018001001101020001800100010103000180010002010300018001000301030001800100100401000180010010040100018001001004010001800100100401000180010004010300018001000501030001800100060103000180010007010300018001000801030001800100090103) ∷ [])) ∷ []) × (plan_boot_sector (planned (disks_of disk_logical) machine_logical volume_logical conf_logical_7 2482155178) machine_logical (on 0 (2139 ∷ 1482 ∷ 183 ∷ 387 ∷ 304 ∷ 1772 ∷ 948 ∷ 870 ∷ [])) (disks_of disk_logical 0 102) ≡ file 512 (piece 0 (hex 19 0xeb7e4c494c4f0100aaaef29301000200000001) ∷ piece 24 (hex 15 0x018001000f1f010001800100100401) ∷ piece 48 (hex 23 0x0180010004150300018001000e020200018001000e0502) ∷ piece 128 (replicate 312 195) ∷ piece 510 (hex 2 0x55aa) ∷ [])) × (map_size (planned (disks_of disk_logical) machine_logical volume_logical conf_logical_7 2482155178) machine_logical ≡ 8)
unfolding number16 number32 is_zero has_ranges has_address is_slot is_one_slot chs_of address_of slot_of some_slot slot_at slot_bytes to_chs to_lba sector_at sectors_of place_at slot_make could_be_one named_device entry_at entries_of table_entries is_link is_plain link_of logical_of listed linked_sector chain_entries chain_tables partitions_of numbered_span span_of disk_name last_partition partition_name device_name devices_of named_devices device_at disk_number device_number kind_of super_of super_checks super_in super_at with_counts super_bytes v1_inode v2_inode inode_of inode_at v1_inode_bytes v2_inode_bytes inode_bytes kept_inode inode_place bit with_bit parts_of volume_at number_in follow pointer_by inside follow_at zone_at block_at content_at entry_of entries_in minixentries_entry_at find_entry entries_at is_dots components child find_path file_block file_at zone_number block content entry first_named lookup reached thing names names_in IsSound child_path path_of link_at section file_content section_bytes is_bootable has_signature has_options has_names has_slots has_no_message has_whole_message has_message has_zeros is_whole timeout_of table_slots boot_of boot_at field_bytes merged_sector is_set entry_name is_printable is_name has_flags has_video has_length has_main has_initrd has_extra is_entry descriptor_of entry_bytes same_name repeats breaks table_at descriptor_bytes options_at extra_at options_bytes extra_bytes is_line line_of line_at line_bytes is_same_line names_of_section names_of_config started menu_decision menu_boot file_of middle_text target_of menu_entries menu_of meant slot_to slots_for chain_for file_slots file_sectors section_sectors_at flags_of descriptor_for plan_entries sectors_of_table sectors_after plan_sectors map_size plan_names plan_boot plan_boot_sector devices_in inode_places mapped_inode file_inode mapped_section code_in planned
plan_by_cylinder_a_prompt_delay_2_timeout_0_an_image_a_password_restricted = (refl, refl, refl)

-- lba32, a prompt, timeout 0, 2 images, another system, an initrd, a table, a password, restricted, a fallback, literal, append, root
pub plan_lba32_a_prompt_timeout_0_2_images_another_system_an_initrd_a_table_a_password_restricted_a_fallback_literal_append_root : (plan_sectors (planned (disks_of disk_logical) machine_logical volume_logical conf_logical_8 439588752) machine_logical (on 0 (158 ∷ 159 ∷ 164 ∷ 165 ∷ 166 ∷ 167 ∷ 168 ∷ 169 ∷ 170 ∷ 171 ∷ 172 ∷ 173 ∷ 174 ∷ 175 ∷ [])) ≡ (file 512 (piece 0 (codes "LINE") ∷ [])) ∷ (file 512 (piece 0 (codes "b") ∷ piece 16 (hex 39 0x40000000050400000102000003800100a700000003800100a800000003800100a9000000010001) ∷ piece 64 (hex 17 0x6669667465656e2d6c6574746572730091) ∷ piece 85 (hex 1 0x04) ∷ piece 92 (hex 13 0x03800100aa00000003800100ac) ∷ piece 116 (hex 15 0x0100000003800100ab00000074776f) ∷ piece 144 (hex 6 0x160000000504) ∷ piece 156 (hex 13 0x03800100ad00000003800100af) ∷ piece 180 (hex 9 0x0100000003800100ae) ∷ [])) ∷ (file 512 []) ∷ (file 512 []) ∷ (file 512 []) ∷ (file 512 (piece 0 (codes "\n") ∷ piece 8 (codes " only this") ∷ [])) ∷ (file 512 (piece 0 (hex 21 0x038001008400000003800100850000000380010086) ∷ [])) ∷ (file 512 (piece 0 (hex 13 0x038001008e000000038001008f) ∷ [])) ∷ (file 512 []) ∷ (file 512 (piece 0 (hex 9 0x0500000074776f2073) ∷ [])) ∷ (file 512 (piece 0 (hex 11 0x0380010011000000038001) ∷ [])) ∷ (file 512 (piece 0 (hex 1 0x0e) ∷ piece 8 (codes " root=305 a=19") ∷ [])) ∷ (file 512 (piece 0 (hex 5 0x01001f0062) ∷ piece 480 (replicate 31 112) ∷ [])) ∷ (file 512 (piece 0 (hex 21 0x038001008400000003800100850000000380010086) ∷ [])) ∷ []) × (plan_boot_sector (planned (disks_of disk_logical) machine_logical volume_logical conf_logical_8 439588752) machine_logical (on 0 (158 ∷ 159 ∷ 164 ∷ 165 ∷ 166 ∷ 167 ∷ 168 ∷ 169 ∷ 170 ∷ 171 ∷ 172 ∷ 173 ∷ 174 ∷ 175 ∷ [])) (disks_of disk_logical 0 0) ≡ file 512 (piece 0 (hex 13 0xeb7e4c494c4f01009097331a01) ∷ piece 18 (hex 1 0x03) ∷ piece 24 (hex 13 0x038001009e00000003800100a6) ∷ piece 48 (hex 21 0x038001009f00000003800100a400000003800100a5) ∷ piece 128 (replicate 312 195) ∷ piece 450 (hex 9 0x83000000110000001e) ∷ piece 466 (hex 10 0x05000000440000006009) ∷ piece 510 (hex 2 0x55aa) ∷ [])) × (map_size (planned (disks_of disk_logical) machine_logical volume_logical conf_logical_8 439588752) machine_logical ≡ 14)
unfolding number16 number32 is_zero has_ranges has_address is_slot is_one_slot chs_of address_of slot_of some_slot slot_at slot_bytes to_chs to_lba sector_at sectors_of place_at slot_make could_be_one named_device entry_at entries_of table_entries is_link is_plain link_of logical_of listed linked_sector chain_entries chain_tables partitions_of numbered_span span_of disk_name last_partition partition_name device_name devices_of named_devices device_at disk_number device_number kind_of super_of super_checks super_in super_at with_counts super_bytes v1_inode v2_inode inode_of inode_at v1_inode_bytes v2_inode_bytes inode_bytes kept_inode inode_place bit with_bit parts_of volume_at number_in follow pointer_by inside follow_at zone_at block_at content_at entry_of entries_in minixentries_entry_at find_entry entries_at is_dots components child find_path file_block file_at zone_number block content entry first_named lookup reached thing names names_in IsSound child_path path_of link_at section file_content section_bytes is_bootable has_signature has_options has_names has_slots has_no_message has_whole_message has_message has_zeros is_whole timeout_of table_slots boot_of boot_at field_bytes merged_sector is_set entry_name is_printable is_name has_flags has_video has_length has_main has_initrd has_extra is_entry descriptor_of entry_bytes same_name repeats breaks table_at descriptor_bytes options_at extra_at options_bytes extra_bytes is_line line_of line_at line_bytes is_same_line names_of_section names_of_config started menu_decision menu_boot file_of middle_text target_of menu_entries menu_of meant slot_to slots_for chain_for file_slots file_sectors section_sectors_at flags_of descriptor_for plan_entries sectors_of_table sectors_after plan_sectors map_size plan_names plan_boot plan_boot_sector devices_in inode_places mapped_inode file_inode mapped_section code_in planned
plan_lba32_a_prompt_timeout_0_2_images_another_system_an_initrd_a_table_a_password_restricted_a_fallback_literal_append_root = (refl, refl, refl)

-- linear, a message, 2 images, one omitted, an initrd, an alias, a password, restricted, a fallback, append, vga
pub plan_linear_a_message_2_images_one_omitted_an_initrd_an_alias_a_password_restricted_a_fallback_append_vga : (plan_sectors (planned (disks_of disk_logical) machine_logical volume_logical conf_logical_9 973119831) machine_logical (on 0 (1876 ∷ []) ++ on 1 (385 ∷ []) ++ on 0 (2147 ∷ 1396 ∷ 1198 ∷ 826 ∷ 1477 ∷ 594 ∷ [])) ≡ (file 512 (piece 0 (codes "LINE") ∷ [])) ∷ (file 512 (piece 0 (codes "linux") ∷ piece 16 (hex 6 0x2600fdff0104) ∷ piece 28 (hex 14 0x028001003a030000028001005202) ∷ piece 52 (hex 18 0x0100000002800100c5050000616c696e7578) ∷ piece 80 (hex 6 0x2600fdff0104) ∷ piece 92 (hex 14 0x028001003a030000028001005202) ∷ piece 116 (hex 10 0x0100000002800100c505) ∷ [])) ∷ (file 512 []) ∷ (file 512 []) ∷ (file 512 []) ∷ (file 512 (piece 0 (hex 1 0x08) ∷ piece 8 (codes " rw a=27") ∷ [])) ∷ (file 512 (piece 2 (hex 1 0x03) ∷ piece 480 (codes "a b") ∷ [])) ∷ (file 512 (piece 0 (hex 21 0x028001009400000002800100950000000280010096) ∷ [])) ∷ []) × (plan_boot_sector (planned (disks_of disk_logical) machine_logical volume_logical conf_logical_9 973119831) machine_logical (on 0 (1876 ∷ []) ++ on 1 (385 ∷ []) ++ on 0 (2147 ∷ 1396 ∷ 1198 ∷ 826 ∷ 1477 ∷ 594 ∷ [])) (disks_of disk_logical 0 102) ≡ file 512 (piece 0 (hex 12 0xeb7e4c494c4f010057a1003a) ∷ piece 16 (hex 3 0xffff02) ∷ piece 24 (hex 14 0x028001005407000002800100ae04) ∷ piece 48 (hex 22 0x02810100810100000280010063080000028001007405) ∷ piece 128 (replicate 312 195) ∷ piece 510 (hex 2 0x55aa) ∷ [])) × (map_size (planned (disks_of disk_logical) machine_logical volume_logical conf_logical_9 973119831) machine_logical ≡ 8)
unfolding number16 number32 is_zero has_ranges has_address is_slot is_one_slot chs_of address_of slot_of some_slot slot_at slot_bytes to_chs to_lba sector_at sectors_of place_at slot_make could_be_one named_device entry_at entries_of table_entries is_link is_plain link_of logical_of listed linked_sector chain_entries chain_tables partitions_of numbered_span span_of disk_name last_partition partition_name device_name devices_of named_devices device_at disk_number device_number kind_of super_of super_checks super_in super_at with_counts super_bytes v1_inode v2_inode inode_of inode_at v1_inode_bytes v2_inode_bytes inode_bytes kept_inode inode_place bit with_bit parts_of volume_at number_in follow pointer_by inside follow_at zone_at block_at content_at entry_of entries_in minixentries_entry_at find_entry entries_at is_dots components child find_path file_block file_at zone_number block content entry first_named lookup reached thing names names_in IsSound child_path path_of link_at section file_content section_bytes is_bootable has_signature has_options has_names has_slots has_no_message has_whole_message has_message has_zeros is_whole timeout_of table_slots boot_of boot_at field_bytes merged_sector is_set entry_name is_printable is_name has_flags has_video has_length has_main has_initrd has_extra is_entry descriptor_of entry_bytes same_name repeats breaks table_at descriptor_bytes options_at extra_at options_bytes extra_bytes is_line line_of line_at line_bytes is_same_line names_of_section names_of_config started menu_decision menu_boot file_of middle_text target_of menu_entries menu_of meant slot_to slots_for chain_for file_slots file_sectors section_sectors_at flags_of descriptor_for plan_entries sectors_of_table sectors_after plan_sectors map_size plan_names plan_boot plan_boot_sector devices_in inode_places mapped_inode file_inode mapped_section code_in planned
plan_linear_a_message_2_images_one_omitted_an_initrd_an_alias_a_password_restricted_a_fallback_append_vga = (refl, refl, refl)

-- by cylinder, compact, a message, a prompt, an image, an initrd, an alias, a lock, vga, root
pub plan_by_cylinder_compact_a_message_a_prompt_an_image_an_initrd_an_alias_a_lock_vga_root : (plan_sectors (planned (disks_of disk_logical) machine_logical volume_logical conf_logical_10 313261467) machine_logical (on 0 (158 ∷ 159 ∷ 164 ∷ 165 ∷ 166 ∷ 167 ∷ 168 ∷ 169 ∷ [])) ≡ (file 512 (piece 0 (codes "LINE") ∷ [])) ∷ (file 512 (piece 0 (codes "linux") ∷ piece 16 (hex 39 0x6800050305040000000c0000018001000f02010001800100100201000180010011020100010001) ∷ piece 64 (codes "1") ∷ piece 80 (hex 39 0x6800050305040000000c0000018001000f02010001800100100201000180010011020100010001) ∷ [])) ∷ (file 512 []) ∷ (file 512 []) ∷ (file 512 []) ∷ (file 512 (piece 0 (hex 1 0x09) ∷ piece 8 (codes " root=305") ∷ [])) ∷ (file 512 (piece 0 (hex 7 0x018003000e0103) ∷ [])) ∷ (file 512 (piece 0 (hex 47 0x018001000e020100018001000e020100018001000e020100018001000e020100018001000e020100018001000e0201) ∷ [])) ∷ []) × (plan_boot_sector (planned (disks_of disk_logical) machine_logical volume_logical conf_logical_10 313261467) machine_logical (on 0 (158 ∷ 159 ∷ 164 ∷ 165 ∷ 166 ∷ 167 ∷ 168 ∷ 169 ∷ [])) (disks_of disk_logical 0 0) ≡ file 512 (piece 0 (hex 19 0xeb7e4c494c4f01009bfdab1201000000ffff02) ∷ piece 24 (hex 15 0x0180010006020100018001000e0201) ∷ piece 48 (hex 23 0x0180010007020100018001000c020100018001000d0201) ∷ piece 450 (hex 9 0x83000000110000001e) ∷ piece 466 (hex 10 0x05000000440000006009) ∷ piece 510 (hex 2 0x55aa) ∷ [])) × (map_size (planned (disks_of disk_logical) machine_logical volume_logical conf_logical_10 313261467) machine_logical ≡ 8)
unfolding number16 number32 is_zero has_ranges has_address is_slot is_one_slot chs_of address_of slot_of some_slot slot_at slot_bytes to_chs to_lba sector_at sectors_of place_at slot_make could_be_one named_device entry_at entries_of table_entries is_link is_plain link_of logical_of listed linked_sector chain_entries chain_tables partitions_of numbered_span span_of disk_name last_partition partition_name device_name devices_of named_devices device_at disk_number device_number kind_of super_of super_checks super_in super_at with_counts super_bytes v1_inode v2_inode inode_of inode_at v1_inode_bytes v2_inode_bytes inode_bytes kept_inode inode_place bit with_bit parts_of volume_at number_in follow pointer_by inside follow_at zone_at block_at content_at entry_of entries_in minixentries_entry_at find_entry entries_at is_dots components child find_path file_block file_at zone_number block content entry first_named lookup reached thing names names_in IsSound child_path path_of link_at section file_content section_bytes is_bootable has_signature has_options has_names has_slots has_no_message has_whole_message has_message has_zeros is_whole timeout_of table_slots boot_of boot_at field_bytes merged_sector is_set entry_name is_printable is_name has_flags has_video has_length has_main has_initrd has_extra is_entry descriptor_of entry_bytes same_name repeats breaks table_at descriptor_bytes options_at extra_at options_bytes extra_bytes is_line line_of line_at line_bytes is_same_line names_of_section names_of_config started menu_decision menu_boot file_of middle_text target_of menu_entries menu_of meant slot_to slots_for chain_for file_slots file_sectors section_sectors_at flags_of descriptor_for plan_entries sectors_of_table sectors_after plan_sectors map_size plan_names plan_boot plan_boot_sector devices_in inode_places mapped_inode file_inode mapped_section code_in planned
plan_by_cylinder_compact_a_message_a_prompt_an_image_an_initrd_an_alias_a_lock_vga_root = (refl, refl, refl)

-- linear, compact, a message, timeout 1, 2 images, a fallback, append, vga
pub plan_linear_compact_a_message_timeout_1_2_images_a_fallback_append_vga : (plan_sectors (planned (disks_of disk_logical) machine_logical volume_logical conf_logical_11 2709656257) machine_logical (on 0 (1777 ∷ 543 ∷ 385 ∷ 188 ∷ 1511 ∷ 2017 ∷ 1419 ∷ 535 ∷ 1371 ∷ 2175 ∷ [])) ≡ (file 512 (piece 0 (codes "LINE") ∷ [])) ∷ (file 512 (piece 0 (hex 22 0x6669667465656e2d6c65747465727300200003030104) ∷ piece 28 (hex 14 0x02800100e1070000028001008b05) ∷ piece 52 (hex 1 0x01) ∷ piece 64 (codes "old") ∷ piece 80 (hex 6 0x300003030504) ∷ piece 92 (hex 14 0x0280010017020000028001007f08) ∷ piece 116 (hex 10 0x01000000028001005b05) ∷ [])) ∷ (file 512 []) ∷ (file 512 []) ∷ (file 512 []) ∷ (file 512 (piece 0 (hex 1 0x05) ∷ piece 8 (codes " a=44") ∷ [])) ∷ (file 512 (piece 0 (hex 5 0x0280030094) ∷ [])) ∷ (file 512 (piece 0 (hex 1 0x08) ∷ piece 8 (codes " rw a=29") ∷ [])) ∷ (file 512 (piece 0 (hex 19 0x0f0000006669667465656e2d6c657474657273) ∷ [])) ∷ (file 512 (piece 0 (hex 5 0x0280030084) ∷ [])) ∷ []) × (plan_boot_sector (planned (disks_of disk_logical) machine_logical volume_logical conf_logical_11 2709656257) machine_logical (on 0 (1777 ∷ 543 ∷ 385 ∷ 188 ∷ 1511 ∷ 2017 ∷ 1419 ∷ 535 ∷ 1371 ∷ 2175 ∷ [])) (disks_of disk_logical 0 102) ≡ file 512 (piece 0 (hex 12 0xeb7e4c494c4f0100c11282a1) ∷ piece 16 (hex 3 0x010002) ∷ piece 24 (hex 14 0x02800100f106000002800100e705) ∷ piece 48 (hex 21 0x028001001f020000028001008101000002800100bc) ∷ piece 96 (hex 1 0x01) ∷ piece 128 (replicate 312 195) ∷ piece 510 (hex 2 0x55aa) ∷ [])) × (map_size (planned (disks_of disk_logical) machine_logical volume_logical conf_logical_11 2709656257) machine_logical ≡ 10)
unfolding number16 number32 is_zero has_ranges has_address is_slot is_one_slot chs_of address_of slot_of some_slot slot_at slot_bytes to_chs to_lba sector_at sectors_of place_at slot_make could_be_one named_device entry_at entries_of table_entries is_link is_plain link_of logical_of listed linked_sector chain_entries chain_tables partitions_of numbered_span span_of disk_name last_partition partition_name device_name devices_of named_devices device_at disk_number device_number kind_of super_of super_checks super_in super_at with_counts super_bytes v1_inode v2_inode inode_of inode_at v1_inode_bytes v2_inode_bytes inode_bytes kept_inode inode_place bit with_bit parts_of volume_at number_in follow pointer_by inside follow_at zone_at block_at content_at entry_of entries_in minixentries_entry_at find_entry entries_at is_dots components child find_path file_block file_at zone_number block content entry first_named lookup reached thing names names_in IsSound child_path path_of link_at section file_content section_bytes is_bootable has_signature has_options has_names has_slots has_no_message has_whole_message has_message has_zeros is_whole timeout_of table_slots boot_of boot_at field_bytes merged_sector is_set entry_name is_printable is_name has_flags has_video has_length has_main has_initrd has_extra is_entry descriptor_of entry_bytes same_name repeats breaks table_at descriptor_bytes options_at extra_at options_bytes extra_bytes is_line line_of line_at line_bytes is_same_line names_of_section names_of_config started menu_decision menu_boot file_of middle_text target_of menu_entries menu_of meant slot_to slots_for chain_for file_slots file_sectors section_sectors_at flags_of descriptor_for plan_entries sectors_of_table sectors_after plan_sectors map_size plan_names plan_boot plan_boot_sector devices_in inode_places mapped_inode file_inode mapped_section code_in planned
plan_linear_compact_a_message_timeout_1_2_images_a_fallback_append_vga = (refl, refl, refl)

-- lba32, compact, a prompt, 2 other systems, an alias, a lock
pub plan_lba32_compact_a_prompt_2_other_systems_an_alias_a_lock : (plan_sectors (planned (disks_of disk_logical) machine_logical volume_logical conf_logical_12 3787824547) machine_logical (on 0 (158 ∷ 159 ∷ 164 ∷ 165 ∷ 166 ∷ 167 ∷ 168 ∷ 169 ∷ 170 ∷ [])) ≡ (file 512 (piece 0 (codes "LINE") ∷ [])) ∷ (file 512 (piece 0 (codes "b") ∷ piece 16 (hex 1 0x09) ∷ piece 21 (hex 1 0x02) ∷ piece 28 (hex 13 0x03800100a700000003800100a8) ∷ piece 52 (hex 1 0x01) ∷ piece 64 (codes "dos") ∷ piece 80 (hex 1 0x01) ∷ piece 85 (hex 1 0x02) ∷ piece 92 (hex 13 0x03800100a900000003800100aa) ∷ piece 116 (hex 1 0x01) ∷ piece 128 (codes "5") ∷ piece 144 (hex 1 0x01) ∷ piece 149 (hex 1 0x02) ∷ piece 156 (hex 13 0x03800100a900000003800100aa) ∷ piece 180 (hex 1 0x01) ∷ [])) ∷ (file 512 []) ∷ (file 512 []) ∷ (file 512 []) ∷ (file 512 []) ∷ (file 512 (piece 0 (hex 5 0x0380010011) ∷ [])) ∷ (file 512 []) ∷ (file 512 (piece 0 (hex 3 0x038101) ∷ [])) ∷ []) × (plan_boot_sector (planned (disks_of disk_logical) machine_logical volume_logical conf_logical_12 3787824547) machine_logical (on 0 (158 ∷ 159 ∷ 164 ∷ 165 ∷ 166 ∷ 167 ∷ 168 ∷ 169 ∷ 170 ∷ [])) (disks_of disk_logical 0 0) ≡ file 512 (piece 0 (hex 19 0xeb7e4c494c4f0100a39dc5e101000000ffff03) ∷ piece 24 (hex 13 0x038001009e00000003800100a6) ∷ piece 48 (hex 21 0x038001009f00000003800100a400000003800100a5) ∷ piece 96 (hex 1 0x01) ∷ piece 450 (hex 9 0x83000000110000001e) ∷ piece 466 (hex 10 0x05000000440000006009) ∷ piece 510 (hex 2 0x55aa) ∷ [])) × (map_size (planned (disks_of disk_logical) machine_logical volume_logical conf_logical_12 3787824547) machine_logical ≡ 9)
unfolding number16 number32 is_zero has_ranges has_address is_slot is_one_slot chs_of address_of slot_of some_slot slot_at slot_bytes to_chs to_lba sector_at sectors_of place_at slot_make could_be_one named_device entry_at entries_of table_entries is_link is_plain link_of logical_of listed linked_sector chain_entries chain_tables partitions_of numbered_span span_of disk_name last_partition partition_name device_name devices_of named_devices device_at disk_number device_number kind_of super_of super_checks super_in super_at with_counts super_bytes v1_inode v2_inode inode_of inode_at v1_inode_bytes v2_inode_bytes inode_bytes kept_inode inode_place bit with_bit parts_of volume_at number_in follow pointer_by inside follow_at zone_at block_at content_at entry_of entries_in minixentries_entry_at find_entry entries_at is_dots components child find_path file_block file_at zone_number block content entry first_named lookup reached thing names names_in IsSound child_path path_of link_at section file_content section_bytes is_bootable has_signature has_options has_names has_slots has_no_message has_whole_message has_message has_zeros is_whole timeout_of table_slots boot_of boot_at field_bytes merged_sector is_set entry_name is_printable is_name has_flags has_video has_length has_main has_initrd has_extra is_entry descriptor_of entry_bytes same_name repeats breaks table_at descriptor_bytes options_at extra_at options_bytes extra_bytes is_line line_of line_at line_bytes is_same_line names_of_section names_of_config started menu_decision menu_boot file_of middle_text target_of menu_entries menu_of meant slot_to slots_for chain_for file_slots file_sectors section_sectors_at flags_of descriptor_for plan_entries sectors_of_table sectors_after plan_sectors map_size plan_names plan_boot plan_boot_sector devices_in inode_places mapped_inode file_inode mapped_section code_in planned
plan_lba32_compact_a_prompt_2_other_systems_an_alias_a_lock = (refl, refl, refl)

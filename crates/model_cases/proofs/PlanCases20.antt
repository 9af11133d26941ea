-- Cases of the model, written by tools/plan_cases.py: the sectors of planned maps, and their boot sectors.
use Rattle.std.proofs.Common.{◌≡◌, ◌∷◌, ◌++◌, [], codes, replicate, refl}
use Rattle.lilo_model.specs.BootSector.{is_bootable, has_signature, has_options, has_names, has_slots, has_no_message, has_whole_message, has_message, has_zeros, is_whole, timeout_of, table_slots, boot_of, boot_at, field_bytes, merged_sector}
use Rattle.lilo_model.specs.Bytes.{number16, number32, is_zero}
use Rattle.lilo_model.specs.ConfLawful.{names_of_section, names_of_config}
use Rattle.lilo_model.specs.Devices.{disk_name, last_partition, partition_name, device_name, devices_of, named_devices, device_at, disk_number, device_number}
use Rattle.lilo_model.specs.LineSector.{is_line, line_of, line_at, line_bytes, is_same_line}
use Rattle.lilo_model.specs.Meant.{started, menu_decision, menu_boot, file_of, middle_text, target_of, menu_entries, menu_of, meant}
use Rattle.lilo_model.specs.MinixEntries.{entry_of, entries_in, entry_at as minixentries_entry_at, find_entry, entries_at, is_dots}
use Rattle.lilo_model.specs.MinixFind.{components, child, find_path, file_block, file_at}
use Rattle.lilo_model.specs.MinixFindNames.{child_path, path_of}
use Rattle.lilo_model.specs.MinixLayout.{kind_of, super_of, super_checks, super_in, super_at, with_counts, super_bytes, v1_inode, v2_inode, inode_of, inode_at, v1_inode_bytes, v2_inode_bytes, inode_bytes, kept_inode, inode_place}
use Rattle.lilo_model.specs.MinixNames.{zone_number, block, content, entry, first_named, lookup, reached, thing, names, names_in, IsSound}
use Rattle.lilo_model.specs.MinixParts.{bit, with_bit, parts_of, volume_at, number_in, follow, pointer_by, inside, follow_at, zone_at, block_at, content_at}
use Rattle.lilo_model.specs.Options.{options_at, extra_at, options_bytes, extra_bytes}
use Rattle.lilo_model.specs.Partitions.{named_device, entry_at, entries_of, table_entries, is_link, is_plain, link_of, logical_of, listed, linked_sector, chain_entries, chain_tables, partitions_of, numbered_span, span_of}
use Rattle.lilo_model.specs.Plan.{slot_to, slots_for, chain_for, file_slots, file_sectors, section_sectors_at, flags_of, descriptor_for, plan_entries, sectors_of_table, sectors_after, plan_sectors, map_size, plan_names, plan_boot, plan_boot_sector}
use Rattle.lilo_model.specs.Planned.{devices_in, inode_places, mapped_inode, file_inode, mapped_section, code_in, planned}
use Rattle.lilo_model.specs.Section.{link_at, section, file_content, section_bytes}
use Rattle.lilo_model.specs.Slots.{has_ranges, has_address, is_slot, is_one_slot, chs_of, address_of, slot_of, some_slot, slot_at, slot_bytes, to_chs, to_lba, sector_at, sectors_of, place_at, slot_make, could_be_one}
use Rattle.lilo_model.specs.Table.{is_set, entry_name, is_printable, is_name, has_flags, has_video, has_length, has_main, has_initrd, has_extra, is_entry, descriptor_of, entry_bytes, same_name, repeats, breaks, table_at, descriptor_bytes}
use Rattle.model_cases.specs.Sparse.{hex, piece, file, disks_of, on}
use Rattle.model_cases.specs.PlanDisks.{disk_logical}
use Rattle.model_cases.specs.PlanLogicalConfs.{conf_logical_29, conf_logical_30, conf_logical_31, conf_logical_32}
use Rattle.model_cases.specs.PlanVolumes.{machine_logical, volume_logical}

-- lba32, compact, a message, delay 30, timeout 65534, an image, a fallback, vga
pub plan_lba32_compact_a_message_delay_30_timeout_65534_an_image_a_fallback_vga : (plan_sectors (planned (disks_of disk_logical) machine_logical volume_logical conf_logical_29 4292247383) machine_logical (on 0 (1898 ∷ 1329 ∷ 1413 ∷ 928 ∷ 398 ∷ 782 ∷ []) ++ on 1 (379 ∷ []) ++ on 0 (286 ∷ 1765 ∷ [])) ≡ (file 512 (piece 0 (codes "LINE") ∷ [])) ∷ (file 512 (piece 0 (hex 22 0x6669667465656e2d6c65747465727300300003030504) ∷ piece 28 (hex 14 0x038101007b01000003800100e506) ∷ piece 52 (hex 10 0x01000000038001001e01) ∷ [])) ∷ (file 512 []) ∷ (file 512 []) ∷ (file 512 []) ∷ (file 512 (piece 0 (hex 5 0x038003008a) ∷ [])) ∷ (file 512 (piece 0 (hex 1 0x03) ∷ piece 8 (codes " rw") ∷ [])) ∷ (file 512 (piece 0 (hex 21 0x110000006669667465656e2d6c6574746572732073) ∷ [])) ∷ (file 512 (piece 0 (hex 5 0x0380030084) ∷ [])) ∷ []) × (plan_boot_sector (planned (disks_of disk_logical) machine_logical volume_logical conf_logical_29 4292247383) machine_logical (on 0 (1898 ∷ 1329 ∷ 1413 ∷ 928 ∷ 398 ∷ 782 ∷ []) ++ on 1 (379 ∷ []) ++ on 0 (286 ∷ 1765 ∷ [])) (disks_of disk_logical 0 102) ≡ file 512 (piece 0 (hex 70 0xeb7e4c494c4f0100577fd6ff00001e00feff0100b4040100038001006a070000038001008e010000038001000e0300000380010031050000038001008505000003800100a003) ∷ piece 128 (replicate 312 195) ∷ piece 510 (hex 2 0x55aa) ∷ [])) × (map_size (planned (disks_of disk_logical) machine_logical volume_logical conf_logical_29 4292247383) machine_logical ≡ 9)
unfolding number16 number32 is_zero has_ranges has_address is_slot is_one_slot chs_of address_of slot_of some_slot slot_at slot_bytes to_chs to_lba sector_at sectors_of place_at slot_make could_be_one named_device entry_at entries_of table_entries is_link is_plain link_of logical_of listed linked_sector chain_entries chain_tables partitions_of numbered_span span_of disk_name last_partition partition_name device_name devices_of named_devices device_at disk_number device_number kind_of super_of super_checks super_in super_at with_counts super_bytes v1_inode v2_inode inode_of inode_at v1_inode_bytes v2_inode_bytes inode_bytes kept_inode inode_place bit with_bit parts_of volume_at number_in follow pointer_by inside follow_at zone_at block_at content_at entry_of entries_in minixentries_entry_at find_entry entries_at is_dots components child find_path file_block file_at zone_number block content entry first_named lookup reached thing names names_in IsSound child_path path_of link_at section file_content section_bytes is_bootable has_signature has_options has_names has_slots has_no_message has_whole_message has_message has_zeros is_whole timeout_of table_slots boot_of boot_at field_bytes merged_sector is_set entry_name is_printable is_name has_flags has_video has_length has_main has_initrd has_extra is_entry descriptor_of entry_bytes same_name repeats breaks table_at descriptor_bytes options_at extra_at options_bytes extra_bytes is_line line_of line_at line_bytes is_same_line names_of_section names_of_config started menu_decision menu_boot file_of middle_text target_of menu_entries menu_of meant slot_to slots_for chain_for file_slots file_sectors section_sectors_at flags_of descriptor_for plan_entries sectors_of_table sectors_after plan_sectors map_size plan_names plan_boot plan_boot_sector devices_in inode_places mapped_inode file_inode mapped_section code_in planned
plan_lba32_compact_a_message_delay_30_timeout_65534_an_image_a_fallback_vga = (refl, refl, refl)

-- lba32, compact, a prompt, 3 images, one omitted, an initrd, an alias, a password, restricted, a lock, literal, vga
pub plan_lba32_compact_a_prompt_3_images_one_omitted_an_initrd_an_alias_a_password_restricted_a_lock_literal_vga : (plan_sectors (planned (disks_of disk_logical) machine_logical volume_logical conf_logical_30 2342831966) machine_logical (on 0 (158 ∷ 159 ∷ 164 ∷ 165 ∷ 166 ∷ 167 ∷ 168 ∷ 169 ∷ 170 ∷ 171 ∷ [])) ≡ (file 512 (piece 0 (codes "LINE") ∷ [])) ∷ (file 512 (piece 0 (hex 22 0x6669667465656e2d6c657474657273002e000303a00f) ∷ piece 28 (hex 13 0x03800100a700000003800100a9) ∷ piece 52 (hex 13 0x0100000003800100a800000078) ∷ piece 84 (hex 2 0xa00f) ∷ piece 92 (hex 13 0x03800100aa00000003800100ab) ∷ piece 116 (hex 1 0x01) ∷ [])) ∷ (file 512 []) ∷ (file 512 []) ∷ (file 512 []) ∷ (file 512 (piece 0 (hex 1 0x03) ∷ piece 8 (codes " rw") ∷ [])) ∷ (file 512 (piece 2 (hex 1 0x03) ∷ piece 480 (codes "a b") ∷ [])) ∷ (file 512 (piece 0 (hex 21 0x0380020098000000038002009c00000003800400a0) ∷ [])) ∷ (file 512 []) ∷ (file 512 (piece 0 (hex 21 0x0380020098000000038002009c00000003800400a0) ∷ [])) ∷ []) × (plan_boot_sector (planned (disks_of disk_logical) machine_logical volume_logical conf_logical_30 2342831966) machine_logical (on 0 (158 ∷ 159 ∷ 164 ∷ 165 ∷ 166 ∷ 167 ∷ 168 ∷ 169 ∷ 170 ∷ 171 ∷ [])) (disks_of disk_logical 0 102) ≡ file 512 (piece 0 (hex 19 0xeb7e4c494c4f01005ec7a48b01000000ffff02) ∷ piece 24 (hex 13 0x038001009e00000003800100a6) ∷ piece 48 (hex 21 0x038001009f00000003800100a400000003800100a5) ∷ piece 510 (hex 2 0x55aa) ∷ [])) × (map_size (planned (disks_of disk_logical) machine_logical volume_logical conf_logical_30 2342831966) machine_logical ≡ 10)
unfolding number16 number32 is_zero has_ranges has_address is_slot is_one_slot chs_of address_of slot_of some_slot slot_at slot_bytes to_chs to_lba sector_at sectors_of place_at slot_make could_be_one named_device entry_at entries_of table_entries is_link is_plain link_of logical_of listed linked_sector chain_entries chain_tables partitions_of numbered_span span_of disk_name last_partition partition_name device_name devices_of named_devices device_at disk_number device_number kind_of super_of super_checks super_in super_at with_counts super_bytes v1_inode v2_inode inode_of inode_at v1_inode_bytes v2_inode_bytes inode_bytes kept_inode inode_place bit with_bit parts_of volume_at number_in follow pointer_by inside follow_at zone_at block_at content_at entry_of entries_in minixentries_entry_at find_entry entries_at is_dots components child find_path file_block file_at zone_number block content entry first_named lookup reached thing names names_in IsSound child_path path_of link_at section file_content section_bytes is_bootable has_signature has_options has_names has_slots has_no_message has_whole_message has_message has_zeros is_whole timeout_of table_slots boot_of boot_at field_bytes merged_sector is_set entry_name is_printable is_name has_flags has_video has_length has_main has_initrd has_extra is_entry descriptor_of entry_bytes same_name repeats breaks table_at descriptor_bytes options_at extra_at options_bytes extra_bytes is_line line_of line_at line_bytes is_same_line names_of_section names_of_config started menu_decision menu_boot file_of middle_text target_of menu_entries menu_of meant slot_to slots_for chain_for file_slots file_sectors section_sectors_at flags_of descriptor_for plan_entries sectors_of_table sectors_after plan_sectors map_size plan_names plan_boot plan_boot_sector devices_in inode_places mapped_inode file_inode mapped_section code_in planned
plan_lba32_compact_a_prompt_3_images_one_omitted_an_initrd_an_alias_a_password_restricted_a_lock_literal_vga = (refl, refl, refl)

-- lba32, compact, 2 images, an alias, a password, a fallback, append, root
pub plan_lba32_compact_2_images_an_alias_a_password_a_fallback_append_root : (plan_sectors (planned (disks_of disk_logical) machine_logical volume_logical conf_logical_31 2857495964) machine_logical (on 0 (826 ∷ 299 ∷ 1727 ∷ 1543 ∷ 2374 ∷ 1102 ∷ 1948 ∷ 1485 ∷ 749 ∷ []) ++ on 1 (395 ∷ [])) ≡ (file 512 (piece 0 (codes "LINE") ∷ [])) ∷ (file 512 (piece 0 (codes "b") ∷ piece 16 (hex 6 0x120000000504) ∷ piece 28 (hex 14 0x038001004e04000003800100cd05) ∷ piece 52 (hex 13 0x01000000038001009c07000031) ∷ piece 80 (hex 6 0x120000000504) ∷ piece 92 (hex 14 0x038001004e04000003800100cd05) ∷ piece 116 (hex 16 0x01000000038001009c07000073616665) ∷ piece 148 (hex 2 0x0504) ∷ piece 156 (hex 14 0x03800100ed020000038101008b01) ∷ piece 180 (hex 1 0x01) ∷ piece 192 (codes "2") ∷ piece 212 (hex 2 0x0504) ∷ piece 220 (hex 14 0x03800100ed020000038101008b01) ∷ piece 244 (hex 1 0x01) ∷ [])) ∷ (file 512 []) ∷ (file 512 []) ∷ (file 512 []) ∷ (file 512 (piece 0 (hex 1 0x11) ∷ piece 8 (codes " rw root=305 a=86") ∷ [])) ∷ (file 512 (piece 0 (hex 10 0x06000300736166652073) ∷ piece 480 (codes "tux") ∷ [])) ∷ (file 512 (piece 0 (hex 5 0x0380030084) ∷ [])) ∷ (file 512 (piece 0 (codes "\n") ∷ piece 8 (codes " root=4dd5") ∷ [])) ∷ (file 512 (piece 0 (hex 5 0x0380030084) ∷ [])) ∷ []) × (plan_boot_sector (planned (disks_of disk_logical) machine_logical volume_logical conf_logical_31 2857495964) machine_logical (on 0 (826 ∷ 299 ∷ 1727 ∷ 1543 ∷ 2374 ∷ 1102 ∷ 1948 ∷ 1485 ∷ 749 ∷ []) ++ on 1 (395 ∷ [])) (disks_of disk_logical 0 0) ≡ file 512 (piece 0 (hex 12 0xeb7e4c494c4f01009ced51aa) ∷ piece 16 (hex 3 0xffff04) ∷ piece 24 (hex 14 0x038001003a030000038001004609) ∷ piece 48 (hex 22 0x038001002b01000003800100bf060000038001000706) ∷ piece 128 (replicate 312 195) ∷ piece 450 (hex 9 0x83000000110000001e) ∷ piece 466 (hex 10 0x05000000440000006009) ∷ piece 510 (hex 2 0x55aa) ∷ [])) × (map_size (planned (disks_of disk_logical) machine_logical volume_logical conf_logical_31 2857495964) machine_logical ≡ 10)
unfolding number16 number32 is_zero has_ranges has_address is_slot is_one_slot chs_of address_of slot_of some_slot slot_at slot_bytes to_chs to_lba sector_at sectors_of place_at slot_make could_be_one named_device entry_at entries_of table_entries is_link is_plain link_of logical_of listed linked_sector chain_entries chain_tables partitions_of numbered_span span_of disk_name last_partition partition_name device_name devices_of named_devices device_at disk_number device_number kind_of super_of super_checks super_in super_at with_counts super_bytes v1_inode v2_inode inode_of inode_at v1_inode_bytes v2_inode_bytes inode_bytes kept_inode inode_place bit with_bit parts_of volume_at number_in follow pointer_by inside follow_at zone_at block_at content_at entry_of entries_in minixentries_entry_at find_entry entries_at is_dots components child find_path file_block file_at zone_number block content entry first_named lookup reached thing names names_in IsSound child_path path_of link_at section file_content section_bytes is_bootable has_signature has_options has_names has_slots has_no_message has_whole_message has_message has_zeros is_whole timeout_of table_slots boot_of boot_at field_bytes merged_sector is_set entry_name is_printable is_name has_flags has_video has_length has_main has_initrd has_extra is_entry descriptor_of entry_bytes same_name repeats breaks table_at descriptor_bytes options_at extra_at options_bytes extra_bytes is_line line_of line_at line_bytes is_same_line names_of_section names_of_config started menu_decision menu_boot file_of middle_text target_of menu_entries menu_of meant slot_to slots_for chain_for file_slots file_sectors section_sectors_at flags_of descriptor_for plan_entries sectors_of_table sectors_after plan_sectors map_size plan_names plan_boot plan_boot_sector devices_in inode_places mapped_inode file_inode mapped_section code_in planned
plan_lba32_compact_2_images_an_alias_a_password_a_fallback_append_root = (refl, refl, refl)

-- linear, compact, a prompt, delay 1, timeout 0, another system, an alias, a table, a fallback
pub plan_linear_compact_a_prompt_delay_1_timeout_0_another_system_an_alias_a_table_a_fallback : (plan_sectors (planned (disks_of disk_logical) machine_logical volume_logical conf_logical_32 2855972947) machine_logical (on 0 (158 ∷ 159 ∷ 164 ∷ 165 ∷ 166 ∷ 167 ∷ 168 ∷ 169 ∷ [])) ≡ (file 512 (piece 0 (codes "LINE") ∷ [])) ∷ (file 512 (piece 0 (codes "x") ∷ piece 16 (hex 1 0x91) ∷ piece 21 (hex 1 0x04) ∷ piece 28 (hex 13 0x02800100a700000002800100a9) ∷ piece 52 (hex 14 0x0100000002800100a80000006178) ∷ piece 80 (hex 1 0x91) ∷ piece 85 (hex 1 0x04) ∷ piece 92 (hex 13 0x02800100a700000002800100a9) ∷ piece 116 (hex 9 0x0100000002800100a8) ∷ [])) ∷ (file 512 []) ∷ (file 512 []) ∷ (file 512 []) ∷ (file 512 []) ∷ (file 512 (piece 0 (hex 7 0x03000000782073) ∷ [])) ∷ (file 512 (piece 0 (hex 11 0x0281010011000000028001) ∷ [])) ∷ []) × (plan_boot_sector (planned (disks_of disk_logical) machine_logical volume_logical conf_logical_32 2855972947) machine_logical (on 0 (158 ∷ 159 ∷ 164 ∷ 165 ∷ 166 ∷ 167 ∷ 168 ∷ 169 ∷ [])) (disks_of disk_logical 0 102) ≡ file 512 (piece 0 (hex 19 0xeb7e4c494c4f010053b03aaa01000100000002) ∷ piece 24 (hex 13 0x028001009e00000002800100a6) ∷ piece 48 (hex 21 0x028001009f00000002800100a400000002800100a5) ∷ piece 510 (hex 2 0x55aa) ∷ [])) × (map_size (planned (disks_of disk_logical) machine_logical volume_logical conf_logical_32 2855972947) machine_logical ≡ 8)
unfolding number16 number32 is_zero has_ranges has_address is_slot is_one_slot chs_of address_of slot_of some_slot slot_at slot_bytes to_chs to_lba sector_at sectors_of place_at slot_make could_be_one named_device entry_at entries_of table_entries is_link is_plain link_of logical_of listed linked_sector chain_entries chain_tables partitions_of numbered_span span_of disk_name last_partition partition_name device_name devices_of named_devices device_at disk_number device_number kind_of super_of super_checks super_in super_at with_counts super_bytes v1_inode v2_inode inode_of inode_at v1_inode_bytes v2_inode_bytes inode_bytes kept_inode inode_place bit with_bit parts_of volume_at number_in follow pointer_by inside follow_at zone_at block_at content_at entry_of entries_in minixentries_entry_at find_entry entries_at is_dots components child find_path file_block file_at zone_number block content entry first_named lookup reached thing names names_in IsSound child_path path_of link_at section file_content section_bytes is_bootable has_signature has_options has_names has_slots has_no_message has_whole_message has_message has_zeros is_whole timeout_of table_slots boot_of boot_at field_bytes merged_sector is_set entry_name is_printable is_name has_flags has_video has_length has_main has_initrd has_extra is_entry descriptor_of entry_bytes same_name repeats breaks table_at descriptor_bytes options_at extra_at options_bytes extra_bytes is_line line_of line_at line_bytes is_same_line names_of_section names_of_config started menu_decision menu_boot file_of middle_text target_of menu_entries menu_of meant slot_to slots_for chain_for file_slots file_sectors section_sectors_at flags_of descriptor_for plan_entries sectors_of_table sectors_after plan_sectors map_size plan_names plan_boot plan_boot_sector devices_in inode_places mapped_inode file_inode mapped_section code_in planned
plan_linear_compact_a_prompt_delay_1_timeout_0_another_system_an_alias_a_table_a_fallback = (refl, refl, refl)

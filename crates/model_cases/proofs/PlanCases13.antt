-- Cases of the model, written by tools/plan_cases.py: the sectors of planned maps, and their boot sectors.
use Rattle.std.proofs.Common.{◌≡◌, ◌∷◌, ◌++◌, [], codes, replicate, refl}
use Rattle.lilo_model.specs.BootSector.{is_bootable, has_signature, has_options, has_names, has_slots, has_no_message, has_whole_message, has_message, has_zeros, is_whole, timeout_of, table_slots, boot_of, boot_at, field_bytes, merged_sector}
use Rattle.lilo_model.specs.Bytes.{number16, number32, is_zero}
use Rattle.lilo_model.specs.ConfLawful.{names_of_section, names_of_config}
use Rattle.lilo_model.specs.Devices.{disk_name, last_partition, partition_name, device_name, devices_of, named_devices, device_at, disk_number, device_number}
use Rattle.lilo_model.specs.LineSector.{is_line, line_of, line_at, line_bytes, is_same_line}
use Rattle.lilo_model.specs.Meant.{started, menu_decision, menu_boot, file_of, middle_text, target_of, menu_entries, menu_of, meant}
use Rattle.lilo_model.specs.MinixEntries.{entry_of, entries_in, entry_at as minixentries_entry_at, find_entry, entries_at, is_dots}
use Rattle.lilo_model.specs.MinixFind.{components, child, find_path, file_block, file_at}
use Rattle.lilo_model.specs.MinixFindNames.{child_path, path_of}
use Rattle.lilo_model.specs.MinixLayout.{kind_of, super_of, super_checks, super_in, super_at, with_counts, super_bytes, v1_inode, v2_inode, inode_of, inode_at, v1_inode_bytes, v2_inode_bytes, inode_bytes, kept_inode, inode_place}
use Rattle.lilo_model.specs.MinixNames.{zone_number, block, content, entry, first_named, lookup, reached, thing, names, names_in, IsSound}
use Rattle.lilo_model.specs.MinixParts.{bit, with_bit, parts_of, volume_at, number_in, follow, pointer_by, inside, follow_at, zone_at, block_at, content_at}
use Rattle.lilo_model.specs.Options.{options_at, extra_at, options_bytes, extra_bytes}
use Rattle.lilo_model.specs.Partitions.{named_device, entry_at, entries_of, table_entries, is_link, is_plain, link_of, logical_of, listed, linked_sector, chain_entries, chain_tables, partitions_of, numbered_span, span_of}
use Rattle.lilo_model.specs.Plan.{slot_to, slots_for, chain_for, file_slots, file_sectors, section_sectors_at, flags_of, descriptor_for, plan_entries, sectors_of_table, sectors_after, plan_sectors, map_size, plan_names, plan_boot, plan_boot_sector}
use Rattle.lilo_model.specs.Planned.{devices_in, inode_places, mapped_inode, file_inode, mapped_section, code_in, planned}
use Rattle.lilo_model.specs.Section.{link_at, section, file_content, section_bytes}
use Rattle.lilo_model.specs.Slots.{has_ranges, has_address, is_slot, is_one_slot, chs_of, address_of, slot_of, some_slot, slot_at, slot_bytes, to_chs, to_lba, sector_at, sectors_of, place_at, slot_make, could_be_one}
use Rattle.lilo_model.specs.Table.{is_set, entry_name, is_printable, is_name, has_flags, has_video, has_length, has_main, has_initrd, has_extra, is_entry, descriptor_of, entry_bytes, same_name, repeats, breaks, table_at, descriptor_bytes}
use Rattle.model_cases.specs.Sparse.{hex, piece, file, disks_of, on}
use Rattle.model_cases.specs.PlanDisks.{disk_tracks}
use Rattle.model_cases.specs.PlanTracksConfs.{conf_tracks_13, conf_tracks_14, conf_tracks_15, conf_tracks_16, conf_tracks_17, conf_tracks_18, conf_tracks_19, conf_tracks_20}
use Rattle.model_cases.specs.PlanVolumes.{machine_tracks, volume_tracks}

-- linear, compact, a prompt, delay 65534, an image, a lock, vga
pub plan_linear_compact_a_prompt_delay_65534_an_image_a_lock_vga : (plan_sectors (planned (disks_of disk_tracks) machine_tracks volume_tracks conf_tracks_13 1222285614) machine_tracks (on 0 (1674 ∷ 2372 ∷ 2763 ∷ 697 ∷ 506 ∷ 937 ∷ []) ++ on 1 (387 ∷ [])) ≡ (file 512 (piece 0 (codes "LINE") ∷ [])) ∷ (file 512 (piece 0 (hex 22 0x6669667465656e2d6c65747465727300280005037c15) ∷ piece 28 (hex 14 0x02800100a9030000028101008301) ∷ piece 52 (hex 1 0x01) ∷ [])) ∷ (file 512 []) ∷ (file 512 []) ∷ (file 512 []) ∷ (file 512 (piece 0 (hex 1 0x03) ∷ piece 8 (codes " ro") ∷ [])) ∷ (file 512 (piece 0 (hex 30 0x02800200ae01000002800200b201000002800200b601000002800500ba01) ∷ [])) ∷ []) × (plan_boot_sector (planned (disks_of disk_tracks) machine_tracks volume_tracks conf_tracks_13 1222285614) machine_tracks (on 0 (1674 ∷ 2372 ∷ 2763 ∷ 697 ∷ 506 ∷ 937 ∷ []) ++ on 1 (387 ∷ [])) (disks_of disk_tracks 0 0) ≡ file 512 (piece 0 (hex 19 0xeb7e4c494c4f01002e99da480100feffffff01) ∷ piece 24 (hex 14 0x028001008a06000002800100fa01) ∷ piece 48 (hex 22 0x028001004409000002800100cb0a000002800100b902) ∷ piece 128 (hex 122 0x8182838485868788898a8b8c8d8e8f909192939495969798999a9b9c9d9e9fa0a1a2a3a4a5a6a7a8a9aaabacadaeafb0b1b2b3b4b5b6b7b8b9babbbcbdbebfc0c1c2c3c4c5c6c7c8c9cacbcccdcecfd0d1d2d3d4d5d6d7d8d9dadbdcdddedfe0e1e2e3e4e5e6e7e8e9eaebecedeeeff0f1f2f3f4f5f6f7f8f9fa ++ replicate 190 67) ∷ piece 450 (hex 9 0x830000002000000028) ∷ piece 466 (hex 10 0x8100000060000000f00a) ∷ piece 510 (hex 2 0x55aa) ∷ [])) × (map_size (planned (disks_of disk_tracks) machine_tracks volume_tracks conf_tracks_13 1222285614) machine_tracks ≡ 7)
unfolding number16 number32 is_zero has_ranges has_address is_slot is_one_slot chs_of address_of slot_of some_slot slot_at slot_bytes to_chs to_lba sector_at sectors_of place_at slot_make could_be_one named_device entry_at entries_of table_entries is_link is_plain link_of logical_of listed linked_sector chain_entries chain_tables partitions_of numbered_span span_of disk_name last_partition partition_name device_name devices_of named_devices device_at disk_number device_number kind_of super_of super_checks super_in super_at with_counts super_bytes v1_inode v2_inode inode_of inode_at v1_inode_bytes v2_inode_bytes inode_bytes kept_inode inode_place bit with_bit parts_of volume_at number_in follow pointer_by inside follow_at zone_at block_at content_at entry_of entries_in minixentries_entry_at find_entry entries_at is_dots components child find_path file_block file_at zone_number block content entry first_named lookup reached thing names names_in IsSound child_path path_of link_at section file_content section_bytes is_bootable has_signature has_options has_names has_slots has_no_message has_whole_message has_message has_zeros is_whole timeout_of table_slots boot_of boot_at field_bytes merged_sector is_set entry_name is_printable is_name has_flags has_video has_length has_main has_initrd has_extra is_entry descriptor_of entry_bytes same_name repeats breaks table_at descriptor_bytes options_at extra_at options_bytes extra_bytes is_line line_of line_at line_bytes is_same_line names_of_section names_of_config started menu_decision menu_boot file_of middle_text target_of menu_entries menu_of meant slot_to slots_for chain_for file_slots file_sectors section_sectors_at flags_of descriptor_for plan_entries sectors_of_table sectors_after plan_sectors map_size plan_names plan_boot plan_boot_sector devices_in inode_places mapped_inode file_inode mapped_section code_in planned
plan_linear_compact_a_prompt_delay_65534_an_image_a_lock_vga = (refl, refl, refl)

-- linear, compact, timeout 1, an image, a password, restricted, append
pub plan_linear_compact_timeout_1_an_image_a_password_restricted_append : (plan_sectors (planned (disks_of disk_tracks) machine_tracks volume_tracks conf_tracks_14 419011571) machine_tracks (on 0 (436 ∷ 437 ∷ 440 ∷ 441 ∷ 448 ∷ 449 ∷ 450 ∷ 451 ∷ [])) ≡ (file 512 (piece 0 (codes "LINE") ∷ [])) ∷ (file 512 (piece 0 (codes "x") ∷ piece 16 (hex 6 0x060000007c15) ∷ piece 28 (hex 14 0x02800100c101000002800100c301) ∷ piece 52 (hex 10 0x0100000002800100c201) ∷ [])) ∷ (file 512 []) ∷ (file 512 []) ∷ (file 512 []) ∷ (file 512 (piece 0 (hex 1 0x09) ∷ piece 8 (codes " quiet  x") ∷ [])) ∷ (file 512 (piece 2 (hex 1 0x03) ∷ piece 480 (codes "tux") ∷ [])) ∷ (file 512 (piece 0 (hex 30 0x02800200ae01000002800200b201000002800200b601000002800500ba01) ∷ [])) ∷ []) × (plan_boot_sector (planned (disks_of disk_tracks) machine_tracks volume_tracks conf_tracks_14 419011571) machine_tracks (on 0 (436 ∷ 437 ∷ 440 ∷ 441 ∷ 448 ∷ 449 ∷ 450 ∷ 451 ∷ [])) (disks_of disk_tracks 0 96) ≡ file 512 (piece 0 (hex 12 0xeb7e4c494c4f0100f39bf918) ∷ piece 16 (hex 3 0x010001) ∷ piece 24 (hex 14 0x02800100b401000002800100c001) ∷ piece 48 (hex 22 0x02800100b501000002800100b801000002800100b901) ∷ piece 510 (hex 2 0x55aa) ∷ [])) × (map_size (planned (disks_of disk_tracks) machine_tracks volume_tracks conf_tracks_14 419011571) machine_tracks ≡ 8)
unfolding number16 number32 is_zero has_ranges has_address is_slot is_one_slot chs_of address_of slot_of some_slot slot_at slot_bytes to_chs to_lba sector_at sectors_of place_at slot_make could_be_one named_device entry_at entries_of table_entries is_link is_plain link_of logical_of listed linked_sector chain_entries chain_tables partitions_of numbered_span span_of disk_name last_partition partition_name device_name devices_of named_devices device_at disk_number device_number kind_of super_of super_checks super_in super_at with_counts super_bytes v1_inode v2_inode inode_of inode_at v1_inode_bytes v2_inode_bytes inode_bytes kept_inode inode_place bit with_bit parts_of volume_at number_in follow pointer_by inside follow_at zone_at block_at content_at entry_of entries_in minixentries_entry_at find_entry entries_at is_dots components child find_path file_block file_at zone_number block content entry first_named lookup reached thing names names_in IsSound child_path path_of link_at section file_content section_bytes is_bootable has_signature has_options has_names has_slots has_no_message has_whole_message has_message has_zeros is_whole timeout_of table_slots boot_of boot_at field_bytes merged_sector is_set entry_name is_printable is_name has_flags has_video has_length has_main has_initrd has_extra is_entry descriptor_of entry_bytes same_name repeats breaks table_at descriptor_bytes options_at extra_at options_bytes extra_bytes is_line line_of line_at line_bytes is_same_line names_of_section names_of_config started menu_decision menu_boot file_of middle_text target_of menu_entries menu_of meant slot_to slots_for chain_for file_slots file_sectors section_sectors_at flags_of descriptor_for plan_entries sectors_of_table sectors_after plan_sectors map_size plan_names plan_boot plan_boot_sector devices_in inode_places mapped_inode file_inode mapped_section code_in planned
plan_linear_compact_timeout_1_an_image_a_password_restricted_append = (refl, refl, refl)

-- by cylinder, a prompt, delay 65534, an image, another system, an alias, a table, a password, restricted, literal
pub plan_by_cylinder_a_prompt_delay_65534_an_image_another_system_an_alias_a_table_a_password_restricted_literal : (plan_sectors (planned (disks_of disk_tracks) machine_tracks volume_tracks conf_tracks_15 4087367625) machine_tracks (on 0 (1473 ∷ 713 ∷ 1252 ∷ 707 ∷ 2880 ∷ []) ++ on 1 (431 ∷ []) ++ on 0 (2111 ∷ 1140 ∷ 2032 ∷ 1607 ∷ 996 ∷ [])) ≡ (file 512 (piece 0 (codes "LINE") ∷ [])) ∷ (file 512 (piece 0 (codes "old") ∷ piece 16 (hex 6 0x020000007c15) ∷ piece 28 (hex 15 0x018101000706010001800100150403) ∷ piece 52 (hex 15 0x010000000180010020080100646f73) ∷ piece 80 (hex 1 0x87) ∷ piece 85 (hex 1 0x04) ∷ piece 92 (hex 15 0x018001001107070001800100050307) ∷ piece 116 (hex 13 0x01000000018001000806020033) ∷ piece 144 (hex 1 0x87) ∷ piece 149 (hex 1 0x04) ∷ piece 156 (hex 15 0x018001001107070001800100050307) ∷ piece 180 (hex 11 0x0100000001800100080602) ∷ [])) ∷ (file 512 []) ∷ (file 512 []) ∷ (file 512 []) ∷ (file 512 (piece 0 (codes "\n") ∷ piece 8 (codes " only this") ∷ [])) ∷ (file 512 (piece 2 (hex 1 0x03) ∷ piece 480 (codes "top") ∷ [])) ∷ (file 512 (piece 0 (hex 87 0x018001000f01050001800100100105000180010013010500018001001401050001800100170105000180010018010500018001001b010500018001001c010500018001001d010500018001001e010500018001001f0105) ∷ [])) ∷ (file 512 []) ∷ (file 512 (piece 2 (hex 1 0x1f) ∷ piece 480 (replicate 31 112) ∷ [])) ∷ (file 512 (piece 0 (hex 13 0x01810100010000000181010001) ∷ [])) ∷ []) × (plan_boot_sector (planned (disks_of disk_tracks) machine_tracks volume_tracks conf_tracks_15 4087367625) machine_tracks (on 0 (1473 ∷ 713 ∷ 1252 ∷ 707 ∷ 2880 ∷ []) ++ on 1 (431 ∷ []) ++ on 0 (2111 ∷ 1140 ∷ 2032 ∷ 1607 ∷ 996 ∷ [])) (disks_of disk_tracks 0 96) ≡ file 512 (piece 0 (hex 19 0xeb7e4c494c4f0100c947a0f30100feffffff03) ∷ piece 24 (hex 15 0x018001000205060001800100010b02) ∷ piece 48 (hex 23 0x018001000a020600018001000504070001800100040206) ∷ piece 128 (hex 122 0x8182838485868788898a8b8c8d8e8f909192939495969798999a9b9c9d9e9fa0a1a2a3a4a5a6a7a8a9aaabacadaeafb0b1b2b3b4b5b6b7b8b9babbbcbdbebfc0c1c2c3c4c5c6c7c8c9cacbcccdcecfd0d1d2d3d4d5d6d7d8d9dadbdcdddedfe0e1e2e3e4e5e6e7e8e9eaebecedeeeff0f1f2f3f4f5f6f7f8f9fa ++ replicate 190 67) ∷ piece 510 (hex 2 0x55aa) ∷ [])) × (map_size (planned (disks_of disk_tracks) machine_tracks volume_tracks conf_tracks_15 4087367625) machine_tracks ≡ 11)
unfolding number16 number32 is_zero has_ranges has_address is_slot is_one_slot chs_of address_of slot_of some_slot slot_at slot_bytes to_chs to_lba sector_at sectors_of place_at slot_make could_be_one named_device entry_at entries_of table_entries is_link is_plain link_of logical_of listed linked_sector chain_entries chain_tables partitions_of numbered_span span_of disk_name last_partition partition_name device_name devices_of named_devices device_at disk_number device_number kind_of super_of super_checks super_in super_at with_counts super_bytes v1_inode v2_inode inode_of inode_at v1_inode_bytes v2_inode_bytes inode_bytes kept_inode inode_place bit with_bit parts_of volume_at number_in follow pointer_by inside follow_at zone_at block_at content_at entry_of entries_in minixentries_entry_at find_entry entries_at is_dots components child find_path file_block file_at zone_number block content entry first_named lookup reached thing names names_in IsSound child_path path_of link_at section file_content section_bytes is_bootable has_signature has_options has_names has_slots has_no_message has_whole_message has_message has_zeros is_whole timeout_of table_slots boot_of boot_at field_bytes merged_sector is_set entry_name is_printable is_name has_flags has_video has_length has_main has_initrd has_extra is_entry descriptor_of entry_bytes same_name repeats breaks table_at descriptor_bytes options_at extra_at options_bytes extra_bytes is_line line_of line_at line_bytes is_same_line names_of_section names_of_config started menu_decision menu_boot file_of middle_text target_of menu_entries menu_of meant slot_to slots_for chain_for file_slots file_sectors section_sectors_at flags_of descriptor_for plan_entries sectors_of_table sectors_after plan_sectors map_size plan_names plan_boot plan_boot_sector devices_in inode_places mapped_inode file_inode mapped_section code_in planned
plan_by_cylinder_a_prompt_delay_65534_an_image_another_system_an_alias_a_table_a_password_restricted_literal = (refl, refl, refl)

-- linear, a prompt, an image, 2 other systems, an initrd, a table, a lock, a fallback, append, vga
pub plan_linear_a_prompt_an_image_2_other_systems_an_initrd_a_table_a_lock_a_fallback_append_vga : (plan_sectors (planned (disks_of disk_tracks) machine_tracks volume_tracks conf_tracks_16 1237192479) machine_tracks (on 0 (436 ∷ 437 ∷ 440 ∷ 441 ∷ 448 ∷ 449 ∷ 450 ∷ 451 ∷ 452 ∷ 453 ∷ 454 ∷ 455 ∷ 456 ∷ [])) ≡ (file 512 (piece 0 (codes "LINE") ∷ [])) ∷ (file 512 (piece 0 (codes "old") ∷ piece 16 (hex 1 0x89) ∷ piece 21 (hex 1 0x04) ∷ piece 28 (hex 14 0x02800100c101000002800100c201) ∷ piece 52 (hex 1 0x01) ∷ piece 64 (codes "b") ∷ piece 80 (hex 1 0x81) ∷ piece 85 (hex 1 0x04) ∷ piece 92 (hex 14 0x02800100c301000002800100c401) ∷ piece 116 (hex 1 0x01) ∷ piece 128 (codes "dos") ∷ piece 144 (hex 46 0x7000fdff4d1200000a00000002800100c501000002800100c701000002800100c80100000100010002800100c601) ∷ [])) ∷ (file 512 []) ∷ (file 512 []) ∷ (file 512 []) ∷ (file 512 []) ∷ (file 512 (piece 0 (hex 13 0x02810100110000000281010011) ∷ [])) ∷ (file 512 []) ∷ (file 512 (piece 0 (hex 11 0x02810100a0000000028101) ∷ [])) ∷ (file 512 (piece 0 (hex 1 0x08) ∷ piece 8 (codes " rw a=12") ∷ [])) ∷ (file 512 (piece 0 (hex 7 0x030000006f6c64) ∷ [])) ∷ (file 512 (piece 0 (hex 78 0x028001000401000002800100050100000280010006010000028001000701000002800100080100000280010009010000028001000a010000028001000b010000028001000c010000028001000d01) ∷ [])) ∷ (file 512 (piece 0 (hex 6 0x028001000001) ∷ [])) ∷ []) × (plan_boot_sector (planned (disks_of disk_tracks) machine_tracks volume_tracks conf_tracks_16 1237192479) machine_tracks (on 0 (436 ∷ 437 ∷ 440 ∷ 441 ∷ 448 ∷ 449 ∷ 450 ∷ 451 ∷ 452 ∷ 453 ∷ 454 ∷ 455 ∷ 456 ∷ [])) (disks_of disk_tracks 0 96) ≡ file 512 (piece 0 (hex 19 0xeb7e4c494c4f01001f0fbe4901000000ffff03) ∷ piece 24 (hex 14 0x02800100b401000002800100c001) ∷ piece 48 (hex 22 0x02800100b501000002800100b801000002800100b901) ∷ piece 128 (hex 122 0x8182838485868788898a8b8c8d8e8f909192939495969798999a9b9c9d9e9fa0a1a2a3a4a5a6a7a8a9aaabacadaeafb0b1b2b3b4b5b6b7b8b9babbbcbdbebfc0c1c2c3c4c5c6c7c8c9cacbcccdcecfd0d1d2d3d4d5d6d7d8d9dadbdcdddedfe0e1e2e3e4e5e6e7e8e9eaebecedeeeff0f1f2f3f4f5f6f7f8f9fa ++ replicate 190 67) ∷ piece 510 (hex 2 0x55aa) ∷ [])) × (map_size (planned (disks_of disk_tracks) machine_tracks volume_tracks conf_tracks_16 1237192479) machine_tracks ≡ 13)
unfolding number16 number32 is_zero has_ranges has_address is_slot is_one_slot chs_of address_of slot_of some_slot slot_at slot_bytes to_chs to_lba sector_at sectors_of place_at slot_make could_be_one named_device entry_at entries_of table_entries is_link is_plain link_of logical_of listed linked_sector chain_entries chain_tables partitions_of numbered_span span_of disk_name last_partition partition_name device_name devices_of named_devices device_at disk_number device_number kind_of super_of super_checks super_in super_at with_counts super_bytes v1_inode v2_inode inode_of inode_at v1_inode_bytes v2_inode_bytes inode_bytes kept_inode inode_place bit with_bit parts_of volume_at number_in follow pointer_by inside follow_at zone_at block_at content_at entry_of entries_in minixentries_entry_at find_entry entries_at is_dots components child find_path file_block file_at zone_number block content entry first_named lookup reached thing names names_in IsSound child_path path_of link_at section file_content section_bytes is_bootable has_signature has_options has_names has_slots has_no_message has_whole_message has_message has_zeros is_whole timeout_of table_slots boot_of boot_at field_bytes merged_sector is_set entry_name is_printable is_name has_flags has_video has_length has_main has_initrd has_extra is_entry descriptor_of entry_bytes same_name repeats breaks table_at descriptor_bytes options_at extra_at options_bytes extra_bytes is_line line_of line_at line_bytes is_same_line names_of_section names_of_config started menu_decision menu_boot file_of middle_text target_of menu_entries menu_of meant slot_to slots_for chain_for file_slots file_sectors section_sectors_at flags_of descriptor_for plan_entries sectors_of_table sectors_after plan_sectors map_size plan_names plan_boot plan_boot_sector devices_in inode_places mapped_inode file_inode mapped_section code_in planned
plan_linear_a_prompt_an_image_2_other_systems_an_initrd_a_table_a_lock_a_fallback_append_vga = (refl, refl, refl)

-- linear, a prompt, timeout 7, 3 images, another system, an initrd, an alias, a table, a fallback, literal, vga, root
pub plan_linear_a_prompt_timeout_7_3_images_another_system_an_initrd_an_alias_a_table_a_fallback_literal_vga_root : (plan_sectors (planned (disks_of disk_tracks) machine_tracks volume_tracks conf_tracks_17 3899176727) machine_tracks (on 0 (1911 ∷ 775 ∷ 2300 ∷ 1211 ∷ 509 ∷ 2663 ∷ 677 ∷ 2191 ∷ 1913 ∷ 1672 ∷ 2346 ∷ 2500 ∷ 2315 ∷ 849 ∷ 1196 ∷ 2328 ∷ 2021 ∷ 1041 ∷ [])) ≡ (file 512 (piece 0 (codes "LINE") ∷ [])) ∷ (file 512 (piece 0 (codes "linux") ∷ piece 16 (hex 49 0x500000004d120000bc02000002800100670a0000028001008f08000002800100790700000100010002800100a502000062) ∷ piece 80 (hex 1 0x81) ∷ piece 85 (hex 1 0x04) ∷ piece 92 (hex 14 0x0280010088060000028001002a09) ∷ piece 116 (hex 1 0x01) ∷ piece 128 (codes "3") ∷ piece 144 (hex 1 0x81) ∷ piece 149 (hex 1 0x04) ∷ piece 156 (hex 14 0x0280010088060000028001002a09) ∷ piece 180 (hex 1 0x01) ∷ piece 192 (codes "dos") ∷ piece 208 (hex 6 0x100000007c15) ∷ piece 220 (hex 14 0x02800100c4090000028001005103) ∷ piece 244 (hex 16 0x01000000028001000b09000061646f73) ∷ piece 272 (hex 6 0x100000007c15) ∷ piece 284 (hex 14 0x02800100c4090000028001005103) ∷ piece 308 (hex 15 0x01000000028001000b09000074776f) ∷ piece 336 (hex 39 0x6000ffff9c7f00000a00000002800100ac04000002800100180900000280010011040000020001) ∷ [])) ∷ (file 512 []) ∷ (file 512 []) ∷ (file 512 []) ∷ (file 512 (piece 0 (codes "\n") ∷ piece 8 (codes " only this") ∷ [])) ∷ (file 512 (piece 0 (hex 9 0x050000006c696e7578) ∷ [])) ∷ (file 512 (piece 0 (hex 78 0x028001000401000002800100050100000280010006010000028001000701000002800100080100000280010009010000028001000a010000028001000b010000028001000c010000028001000d01) ∷ [])) ∷ (file 512 (piece 0 (hex 13 0x02800100780000000280010079) ∷ [])) ∷ (file 512 []) ∷ (file 512 (piece 0 (hex 3 0x028101) ∷ piece 8 (hex 3 0x028101) ∷ [])) ∷ (file 512 (piece 0 (hex 1 0x0c) ∷ piece 8 (codes " ro root=301") ∷ [])) ∷ (file 512 (piece 0 (hex 9 0x0500000074776f2073) ∷ [])) ∷ (file 512 (piece 0 (hex 86 0x02800100ae01000002800100af01000002800100b201000002800100b301000002800100b601000002800100b701000002800100ba01000002800100bb01000002800100bc01000002800100bd01000002800100be01) ∷ [])) ∷ (file 512 (piece 0 (hex 1 0x03) ∷ piece 8 (codes " ro") ∷ [])) ∷ (file 512 (piece 0 (hex 510 0x02800100be00000002800100bf00000002800100c000000002800100c100000002800100c200000002800100c300000002800100c400000002800100c500000002800100c600000002800100c700000002800100c800000002800100c900000002800100ca00000002800100cb00000002800100cc00000002800100cd00000002800100ce00000002800100cf00000002800100d000000002800100d100000002800100d200000002800100d300000002800100d400000002800100d500000002800100d600000002800100d700000002800100d800000002800100d900000002800100da00000002800100db00000002800100dc00000002800100dd00000002800100de00000002800100df00000002800100e000000002800100e100000002800100e200000002800100e300000002800100e400000002800100e500000002800100e600000002800100e700000002800100e800000002800100e900000002800100ea00000002800100eb00000002800100ec00000002800100ed00000002800100ee00000002800100ef00000002800100f000000002800100f100000002800100f200000002800100f300000002800100f400000002800100f500000002800100f600000002800100f700000002800100f800000002800100f900000002800100fa00000002800100fb00000002800100fc00000002800100e507) ∷ [])) ∷ (file 512 (piece 0 (hex 5 0x02800100fd) ∷ [])) ∷ (file 512 (piece 0 (hex 6 0x028001000001) ∷ [])) ∷ []) × (plan_boot_sector (planned (disks_of disk_tracks) machine_tracks volume_tracks conf_tracks_17 3899176727) machine_tracks (on 0 (1911 ∷ 775 ∷ 2300 ∷ 1211 ∷ 509 ∷ 2663 ∷ 677 ∷ 2191 ∷ 1913 ∷ 1672 ∷ 2346 ∷ 2500 ∷ 2315 ∷ 849 ∷ 1196 ∷ 2328 ∷ 2021 ∷ 1041 ∷ [])) (disks_of disk_tracks 0 32) ≡ file 512 (piece 0 (hex 19 0xeb7e4c494c4f010017b768e801000000070006) ∷ piece 24 (hex 14 0x028001007707000002800100fd01) ∷ piece 48 (hex 22 0x028001000703000002800100fc08000002800100bb04) ∷ piece 96 (hex 1 0x01) ∷ piece 128 (hex 122 0x8182838485868788898a8b8c8d8e8f909192939495969798999a9b9c9d9e9fa0a1a2a3a4a5a6a7a8a9aaabacadaeafb0b1b2b3b4b5b6b7b8b9babbbcbdbebfc0c1c2c3c4c5c6c7c8c9cacbcccdcecfd0d1d2d3d4d5d6d7d8d9dadbdcdddedfe0e1e2e3e4e5e6e7e8e9eaebecedeeeff0f1f2f3f4f5f6f7f8f9fa ++ replicate 190 67) ∷ piece 510 (hex 2 0x55aa) ∷ [])) × (map_size (planned (disks_of disk_tracks) machine_tracks volume_tracks conf_tracks_17 3899176727) machine_tracks ≡ 18)
unfolding number16 number32 is_zero has_ranges has_address is_slot is_one_slot chs_of address_of slot_of some_slot slot_at slot_bytes to_chs to_lba sector_at sectors_of place_at slot_make could_be_one named_device entry_at entries_of table_entries is_link is_plain link_of logical_of listed linked_sector chain_entries chain_tables partitions_of numbered_span span_of disk_name last_partition partition_name device_name devices_of named_devices device_at disk_number device_number kind_of super_of super_checks super_in super_at with_counts super_bytes v1_inode v2_inode inode_of inode_at v1_inode_bytes v2_inode_bytes inode_bytes kept_inode inode_place bit with_bit parts_of volume_at number_in follow pointer_by inside follow_at zone_at block_at content_at entry_of entries_in minixentries_entry_at find_entry entries_at is_dots components child find_path file_block file_at zone_number block content entry first_named lookup reached thing names names_in IsSound child_path path_of link_at section file_content section_bytes is_bootable has_signature has_options has_names has_slots has_no_message has_whole_message has_message has_zeros is_whole timeout_of table_slots boot_of boot_at field_bytes merged_sector is_set entry_name is_printable is_name has_flags has_video has_length has_main has_initrd has_extra is_entry descriptor_of entry_bytes same_name repeats breaks table_at descriptor_bytes options_at extra_at options_bytes extra_bytes is_line line_of line_at line_bytes is_same_line names_of_section names_of_config started menu_decision menu_boot file_of middle_text target_of menu_entries menu_of meant slot_to slots_for chain_for file_slots file_sectors section_sectors_at flags_of descriptor_for plan_entries sectors_of_table sectors_after plan_sectors map_size plan_names plan_boot plan_boot_sector devices_in inode_places mapped_inode file_inode mapped_section code_in planned
plan_linear_a_prompt_timeout_7_3_images_another_system_an_initrd_an_alias_a_table_a_fallback_literal_vga_root = (refl, refl, refl)

-- lba32, a message, a prompt, delay 30, timeout 65534, an image, another system, an alias, a fallback, append, vga
pub plan_lba32_a_message_a_prompt_delay_30_timeout_65534_an_image_another_system_an_alias_a_fallback_append_vga : (plan_sectors (planned (disks_of disk_tracks) machine_tracks volume_tracks conf_tracks_18 3881723251) machine_tracks (on 0 (436 ∷ 437 ∷ 440 ∷ 441 ∷ 448 ∷ 449 ∷ 450 ∷ 451 ∷ 452 ∷ 453 ∷ 454 ∷ 455 ∷ [])) ≡ (file 512 (piece 0 (codes "LINE") ∷ [])) ∷ (file 512 (piece 0 (codes "safe") ∷ piece 16 (hex 6 0x3000fdff4d12) ∷ piece 28 (hex 14 0x03800100c201000003800100c401) ∷ piece 52 (hex 13 0x0100000003800100c301000036) ∷ piece 80 (hex 6 0x3000fdff4d12) ∷ piece 92 (hex 14 0x03800100c201000003800100c401) ∷ piece 116 (hex 13 0x0100000003800100c301000078) ∷ piece 144 (hex 1 0x11) ∷ piece 149 (hex 1 0x02) ∷ piece 156 (hex 14 0x03800100c501000003800100c701) ∷ piece 180 (hex 13 0x0100000003800100c601000035) ∷ piece 208 (hex 1 0x11) ∷ piece 213 (hex 1 0x02) ∷ piece 220 (hex 14 0x03800100c501000003800100c701) ∷ piece 244 (hex 10 0x0100000003800100c601) ∷ [])) ∷ (file 512 []) ∷ (file 512 []) ∷ (file 512 []) ∷ (file 512 (piece 0 (hex 14 0x0380010002010000038001000301) ∷ [])) ∷ (file 512 (piece 0 (hex 1 0x05) ∷ piece 8 (codes " a=52") ∷ [])) ∷ (file 512 (piece 0 (hex 8 0x0400000073616665) ∷ [])) ∷ (file 512 (piece 0 (hex 78 0x038001000401000003800100050100000380010006010000038001000701000003800100080100000380010009010000038001000a010000038001000b010000038001000c010000038001000d01) ∷ [])) ∷ (file 512 []) ∷ (file 512 (piece 0 (hex 8 0x0400000073616665) ∷ [])) ∷ (file 512 (piece 0 (hex 3 0x038101) ∷ [])) ∷ []) × (plan_boot_sector (planned (disks_of disk_tracks) machine_tracks volume_tracks conf_tracks_18 3881723251) machine_tracks (on 0 (436 ∷ 437 ∷ 440 ∷ 441 ∷ 448 ∷ 449 ∷ 450 ∷ 451 ∷ 452 ∷ 453 ∷ 454 ∷ 455 ∷ [])) (disks_of disk_tracks 0 96) ≡ file 512 (piece 0 (hex 70 0xeb7e4c494c4f010073655ee701001e00feff04000102010003800100b401000003800100c001000003800100c101000003800100b501000003800100b801000003800100b901) ∷ piece 128 (hex 122 0x8182838485868788898a8b8c8d8e8f909192939495969798999a9b9c9d9e9fa0a1a2a3a4a5a6a7a8a9aaabacadaeafb0b1b2b3b4b5b6b7b8b9babbbcbdbebfc0c1c2c3c4c5c6c7c8c9cacbcccdcecfd0d1d2d3d4d5d6d7d8d9dadbdcdddedfe0e1e2e3e4e5e6e7e8e9eaebecedeeeff0f1f2f3f4f5f6f7f8f9fa ++ replicate 190 67) ∷ piece 510 (hex 2 0x55aa) ∷ [])) × (map_size (planned (disks_of disk_tracks) machine_tracks volume_tracks conf_tracks_18 3881723251) machine_tracks ≡ 12)
unfolding number16 number32 is_zero has_ranges has_address is_slot is_one_slot chs_of address_of slot_of some_slot slot_at slot_bytes to_chs to_lba sector_at sectors_of place_at slot_make could_be_one named_device entry_at entries_of table_entries is_link is_plain link_of logical_of listed linked_sector chain_entries chain_tables partitions_of numbered_span span_of disk_name last_partition partition_name device_name devices_of named_devices device_at disk_number device_number kind_of super_of super_checks super_in super_at with_counts super_bytes v1_inode v2_inode inode_of inode_at v1_inode_bytes v2_inode_bytes inode_bytes kept_inode inode_place bit with_bit parts_of volume_at number_in follow pointer_by inside follow_at zone_at block_at content_at entry_of entries_in minixentries_entry_at find_entry entries_at is_dots components child find_path file_block file_at zone_number block content entry first_named lookup reached thing names names_in IsSound child_path path_of link_at section file_content section_bytes is_bootable has_signature has_options has_names has_slots has_no_message has_whole_message has_message has_zeros is_whole timeout_of table_slots boot_of boot_at field_bytes merged_sector is_set entry_name is_printable is_name has_flags has_video has_length has_main has_initrd has_extra is_entry descriptor_of entry_bytes same_name repeats breaks table_at descriptor_bytes options_at extra_at options_bytes extra_bytes is_line line_of line_at line_bytes is_same_line names_of_section names_of_config started menu_decision menu_boot file_of middle_text target_of menu_entries menu_of meant slot_to slots_for chain_for file_slots file_sectors section_sectors_at flags_of descriptor_for plan_entries sectors_of_table sectors_after plan_sectors map_size plan_names plan_boot plan_boot_sector devices_in inode_places mapped_inode file_inode mapped_section code_in planned
plan_lba32_a_message_a_prompt_delay_30_timeout_65534_an_image_another_system_an_alias_a_fallback_append_vga = (refl, refl, refl)

-- linear, a prompt, timeout 65534, another system, an alias, a password
pub plan_linear_a_prompt_timeout_65534_another_system_an_alias_a_password : (plan_sectors (planned (disks_of disk_tracks) machine_tracks volume_tracks conf_tracks_19 1711373582) machine_tracks (on 0 (2745 ∷ 2709 ∷ 2788 ∷ 1051 ∷ 1260 ∷ 1476 ∷ 2068 ∷ 501 ∷ [])) ≡ (file 512 (piece 0 (codes "LINE") ∷ [])) ∷ (file 512 (piece 0 (codes "x") ∷ piece 16 (hex 1 0x03) ∷ piece 21 (hex 1 0x02) ∷ piece 28 (hex 14 0x02800100c405000002800100f501) ∷ piece 52 (hex 13 0x01000000028001001408000035) ∷ piece 80 (hex 1 0x03) ∷ piece 85 (hex 1 0x02) ∷ piece 92 (hex 14 0x02800100c405000002800100f501) ∷ piece 116 (hex 10 0x01000000028001001408) ∷ [])) ∷ (file 512 []) ∷ (file 512 []) ∷ (file 512 []) ∷ (file 512 []) ∷ (file 512 (piece 2 (hex 1 0x03) ∷ piece 480 (codes "tux") ∷ [])) ∷ (file 512 (piece 0 (hex 3 0x028101) ∷ [])) ∷ []) × (plan_boot_sector (planned (disks_of disk_tracks) machine_tracks volume_tracks conf_tracks_19 1711373582) machine_tracks (on 0 (2745 ∷ 2709 ∷ 2788 ∷ 1051 ∷ 1260 ∷ 1476 ∷ 2068 ∷ 501 ∷ [])) (disks_of disk_tracks 0 0) ≡ file 512 (piece 0 (hex 19 0xeb7e4c494c4f01000e7d016601000000feff02) ∷ piece 24 (hex 14 0x02800100b90a000002800100ec04) ∷ piece 48 (hex 22 0x02800100950a000002800100e40a0000028001001b04) ∷ piece 128 (hex 122 0x8182838485868788898a8b8c8d8e8f909192939495969798999a9b9c9d9e9fa0a1a2a3a4a5a6a7a8a9aaabacadaeafb0b1b2b3b4b5b6b7b8b9babbbcbdbebfc0c1c2c3c4c5c6c7c8c9cacbcccdcecfd0d1d2d3d4d5d6d7d8d9dadbdcdddedfe0e1e2e3e4e5e6e7e8e9eaebecedeeeff0f1f2f3f4f5f6f7f8f9fa ++ replicate 190 67) ∷ piece 450 (hex 9 0x830000002000000028) ∷ piece 466 (hex 10 0x8100000060000000f00a) ∷ piece 510 (hex 2 0x55aa) ∷ [])) × (map_size (planned (disks_of disk_tracks) machine_tracks volume_tracks conf_tracks_19 1711373582) machine_tracks ≡ 8)
unfolding number16 number32 is_zero has_ranges has_address is_slot is_one_slot chs_of address_of slot_of some_slot slot_at slot_bytes to_chs to_lba sector_at sectors_of place_at slot_make could_be_one named_device entry_at entries_of table_entries is_link is_plain link_of logical_of listed linked_sector chain_entries chain_tables partitions_of numbered_span span_of disk_name last_partition partition_name device_name devices_of named_devices device_at disk_number device_number kind_of super_of super_checks super_in super_at with_counts super_bytes v1_inode v2_inode inode_of inode_at v1_inode_bytes v2_inode_bytes inode_bytes kept_inode inode_place bit with_bit parts_of volume_at number_in follow pointer_by inside follow_at zone_at block_at content_at entry_of entries_in minixentries_entry_at find_entry entries_at is_dots components child find_path file_block file_at zone_number block content entry first_named lookup reached thing names names_in IsSound child_path path_of link_at section file_content section_bytes is_bootable has_signature has_options has_names has_slots has_no_message has_whole_message has_message has_zeros is_whole timeout_of table_slots boot_of boot_at field_bytes merged_sector is_set entry_name is_printable is_name has_flags has_video has_length has_main has_initrd has_extra is_entry descriptor_of entry_bytes same_name repeats breaks table_at descriptor_bytes options_at extra_at options_bytes extra_bytes is_line line_of line_at line_bytes is_same_line names_of_section names_of_config started menu_decision menu_boot file_of middle_text target_of menu_entries menu_of meant slot_to slots_for chain_for file_slots file_sectors section_sectors_at flags_of descriptor_for plan_entries sectors_of_table sectors_after plan_sectors map_size plan_names plan_boot plan_boot_sector devices_in inode_places mapped_inode file_inode mapped_section code_in planned
plan_linear_a_prompt_timeout_65534_another_system_an_alias_a_password = (refl, refl, refl)

-- lba32, delay 2, timeout 65534, an image, an alias, a password, literal, append, vga
pub plan_lba32_delay_2_timeout_65534_an_image_an_alias_a_password_literal_append_vga : (plan_sectors (planned (disks_of disk_tracks) machine_tracks volume_tracks conf_tracks_20 767391625) machine_tracks (on 0 (436 ∷ 437 ∷ 440 ∷ 441 ∷ 448 ∷ 449 ∷ 450 ∷ 451 ∷ [])) ≡ (file 512 (piece 0 (codes "LINE") ∷ [])) ∷ (file 512 (piece 0 (codes "linux") ∷ piece 16 (hex 6 0x2200fdff7c15) ∷ piece 28 (hex 14 0x03800100c101000003800100c301) ∷ piece 52 (hex 13 0x0100000003800100c201000037) ∷ piece 80 (hex 6 0x2200fdff7c15) ∷ piece 92 (hex 14 0x03800100c101000003800100c301) ∷ piece 116 (hex 10 0x0100000003800100c201) ∷ [])) ∷ (file 512 []) ∷ (file 512 []) ∷ (file 512 []) ∷ (file 512 (piece 0 (codes "\n") ∷ piece 8 (codes " only this") ∷ [])) ∷ (file 512 (piece 2 (hex 1 0x03) ∷ piece 480 (codes "tux") ∷ [])) ∷ (file 512 (piece 0 (hex 86 0x03800100ae01000003800100af01000003800100b201000003800100b301000003800100b601000003800100b701000003800100ba01000003800100bb01000003800100bc01000003800100bd01000003800100be01) ∷ [])) ∷ []) × (plan_boot_sector (planned (disks_of disk_tracks) machine_tracks volume_tracks conf_tracks_20 767391625) machine_tracks (on 0 (436 ∷ 437 ∷ 440 ∷ 441 ∷ 448 ∷ 449 ∷ 450 ∷ 451 ∷ [])) (disks_of disk_tracks 0 32) ≡ file 512 (piece 0 (hex 19 0xeb7e4c494c4f01008977bd2d00000200feff02) ∷ piece 24 (hex 14 0x03800100b401000003800100c001) ∷ piece 48 (hex 22 0x03800100b501000003800100b801000003800100b901) ∷ piece 128 (hex 122 0x8182838485868788898a8b8c8d8e8f909192939495969798999a9b9c9d9e9fa0a1a2a3a4a5a6a7a8a9aaabacadaeafb0b1b2b3b4b5b6b7b8b9babbbcbdbebfc0c1c2c3c4c5c6c7c8c9cacbcccdcecfd0d1d2d3d4d5d6d7d8d9dadbdcdddedfe0e1e2e3e4e5e6e7e8e9eaebecedeeeff0f1f2f3f4f5f6f7f8f9fa ++ replicate 190 67) ∷ piece 510 (hex 2 0x55aa) ∷ [])) × (map_size (planned (disks_of disk_tracks) machine_tracks volume_tracks conf_tracks_20 767391625) machine_tracks ≡ 8)
unfolding number16 number32 is_zero has_ranges has_address is_slot is_one_slot chs_of address_of slot_of some_slot slot_at slot_bytes to_chs to_lba sector_at sectors_of place_at slot_make could_be_one named_device entry_at entries_of table_entries is_link is_plain link_of logical_of listed linked_sector chain_entries chain_tables partitions_of numbered_span span_of disk_name last_partition partition_name device_name devices_of named_devices device_at disk_number device_number kind_of super_of super_checks super_in super_at with_counts super_bytes v1_inode v2_inode inode_of inode_at v1_inode_bytes v2_inode_bytes inode_bytes kept_inode inode_place bit with_bit parts_of volume_at number_in follow pointer_by inside follow_at zone_at block_at content_at entry_of entries_in minixentries_entry_at find_entry entries_at is_dots components child find_path file_block file_at zone_number block content entry first_named lookup reached thing names names_in IsSound child_path path_of link_at section file_content section_bytes is_bootable has_signature has_options has_names has_slots has_no_message has_whole_message has_message has_zeros is_whole timeout_of table_slots boot_of boot_at field_bytes merged_sector is_set entry_name is_printable is_name has_flags has_video has_length has_main has_initrd has_extra is_entry descriptor_of entry_bytes same_name repeats breaks table_at descriptor_bytes options_at extra_at options_bytes extra_bytes is_line line_of line_at line_bytes is_same_line names_of_section names_of_config started menu_decision menu_boot file_of middle_text target_of menu_entries menu_of meant slot_to slots_for chain_for file_slots file_sectors section_sectors_at flags_of descriptor_for plan_entries sectors_of_table sectors_after plan_sectors map_size plan_names plan_boot plan_boot_sector devices_in inode_places mapped_inode file_inode mapped_section code_in planned
plan_lba32_delay_2_timeout_65534_an_image_an_alias_a_password_literal_append_vga = (refl, refl, refl)

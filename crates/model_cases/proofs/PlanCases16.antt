-- Cases of the model, written by tools/plan_cases.py: the sectors of planned maps, and their boot sectors.
use Rattle.std.proofs.Common.{◌≡◌, ◌∷◌, ◌++◌, [], codes, replicate, refl}
use Rattle.lilo_model.specs.BootSector.{is_bootable, has_signature, has_options, has_names, has_slots, has_no_message, has_whole_message, has_message, has_zeros, is_whole, timeout_of, table_slots, boot_of, boot_at, field_bytes, merged_sector}
use Rattle.lilo_model.specs.Bytes.{number16, number32, is_zero}
use Rattle.lilo_model.specs.ConfLawful.{names_of_section, names_of_config}
use Rattle.lilo_model.specs.Devices.{disk_name, last_partition, partition_name, device_name, devices_of, named_devices, device_at, disk_number, device_number}
use Rattle.lilo_model.specs.LineSector.{is_line, line_of, line_at, line_bytes, is_same_line}
use Rattle.lilo_model.specs.Meant.{started, menu_decision, menu_boot, file_of, middle_text, target_of, menu_entries, menu_of, meant}
use Rattle.lilo_model.specs.MinixEntries.{entry_of, entries_in, entry_at as minixentries_entry_at, find_entry, entries_at, is_dots}
use Rattle.lilo_model.specs.MinixFind.{components, child, find_path, file_block, file_at}
use Rattle.lilo_model.specs.MinixFindNames.{child_path, path_of}
use Rattle.lilo_model.specs.MinixLayout.{kind_of, super_of, super_checks, super_in, super_at, with_counts, super_bytes, v1_inode, v2_inode, inode_of, inode_at, v1_inode_bytes, v2_inode_bytes, inode_bytes, kept_inode, inode_place}
use Rattle.lilo_model.specs.MinixNames.{zone_number, block, content, entry, first_named, lookup, reached, thing, names, names_in, IsSound}
use Rattle.lilo_model.specs.MinixParts.{bit, with_bit, parts_of, volume_at, number_in, follow, pointer_by, inside, follow_at, zone_at, block_at, content_at}
use Rattle.lilo_model.specs.Options.{options_at, extra_at, options_bytes, extra_bytes}
use Rattle.lilo_model.specs.Partitions.{named_device, entry_at, entries_of, table_entries, is_link, is_plain, link_of, logical_of, listed, linked_sector, chain_entries, chain_tables, partitions_of, numbered_span, span_of}
use Rattle.lilo_model.specs.Plan.{slot_to, slots_for, chain_for, file_slots, file_sectors, section_sectors_at, flags_of, descriptor_for, plan_entries, sectors_of_table, sectors_after, plan_sectors, map_size, plan_names, plan_boot, plan_boot_sector}
use Rattle.lilo_model.specs.Planned.{devices_in, inode_places, mapped_inode, file_inode, mapped_section, code_in, planned}
use Rattle.lilo_model.specs.Section.{link_at, section, file_content, section_bytes}
use Rattle.lilo_model.specs.Slots.{has_ranges, has_address, is_slot, is_one_slot, chs_of, address_of, slot_of, some_slot, slot_at, slot_bytes, to_chs, to_lba, sector_at, sectors_of, place_at, slot_make, could_be_one}
use Rattle.lilo_model.specs.Table.{is_set, entry_name, is_printable, is_name, has_flags, has_video, has_length, has_main, has_initrd, has_extra, is_entry, descriptor_of, entry_bytes, same_name, repeats, breaks, table_at, descriptor_bytes}
use Rattle.model_cases.specs.Sparse.{hex, piece, file, disks_of, on}
use Rattle.model_cases.specs.PlanDisks.{disk_logical, disk_tracks}
use Rattle.model_cases.specs.PlanLogicalConfs.{conf_logical_1, conf_logical_2, conf_logical_3, conf_logical_4}
use Rattle.model_cases.specs.PlanTracksConfs.{conf_tracks_37, conf_tracks_38, conf_tracks_39, conf_tracks_40}
use Rattle.model_cases.specs.PlanVolumes.{machine_logical, machine_tracks, volume_logical, volume_tracks}

-- lba32, compact, a prompt, delay 65534, 3 images, one omitted, an initrd, an alias, a password, a lock, a fallback, append, root
pub plan_lba32_compact_a_prompt_delay_65534_3_images_one_omitted_an_initrd_an_alias_a_password_a_lock_a_fallback_append_root : (plan_sectors (planned (disks_of disk_tracks) machine_tracks volume_tracks conf_tracks_37 2242686124) machine_tracks (on 0 (1687 ∷ 1965 ∷ []) ++ on 1 (472 ∷ []) ++ on 0 (1321 ∷ 2374 ∷ 1202 ∷ 506 ∷ 2814 ∷ []) ++ on 1 (447 ∷ []) ++ on 0 (995 ∷ [])) ≡ (file 512 (piece 0 (codes "LINE") ∷ [])) ∷ (file 512 (piece 0 (hex 55 0x6669667465656e2d6c657474657273004800000040060000bc02000003800100b204000003800100fa01000003800100fe0a0000010001) ∷ piece 64 (codes "dos") ∷ piece 84 (hex 2 0xd007) ∷ piece 92 (hex 14 0x03810100bf01000003800100e303) ∷ piece 116 (hex 1 0x01) ∷ [])) ∷ (file 512 []) ∷ (file 512 []) ∷ (file 512 []) ∷ (file 512 (piece 0 (hex 1 0x09) ∷ piece 8 (codes " quiet  x") ∷ [])) ∷ (file 512 (piece 0 (hex 6 0x038004000e01) ∷ [])) ∷ (file 512 (piece 0 (hex 5 0x0380020078) ∷ [])) ∷ (file 512 (piece 0 (hex 1 0x09) ∷ piece 8 (codes " quiet  x") ∷ [])) ∷ (file 512 (piece 0 (hex 6 0x038004001601) ∷ [])) ∷ []) × (plan_boot_sector (planned (disks_of disk_tracks) machine_tracks volume_tracks conf_tracks_37 2242686124) machine_tracks (on 0 (1687 ∷ 1965 ∷ []) ++ on 1 (472 ∷ []) ++ on 0 (1321 ∷ 2374 ∷ 1202 ∷ 506 ∷ 2814 ∷ []) ++ on 1 (447 ∷ []) ++ on 0 (995 ∷ [])) (disks_of disk_tracks 0 32) ≡ file 512 (piece 0 (hex 19 0xeb7e4c494c4f0100acacac850100feffffff02) ∷ piece 24 (hex 14 0x0380010097060000038001004609) ∷ piece 48 (hex 22 0x03800100ad07000003810100d8010000038001002905) ∷ piece 96 (hex 1 0x01) ∷ piece 128 (hex 122 0x8182838485868788898a8b8c8d8e8f909192939495969798999a9b9c9d9e9fa0a1a2a3a4a5a6a7a8a9aaabacadaeafb0b1b2b3b4b5b6b7b8b9babbbcbdbebfc0c1c2c3c4c5c6c7c8c9cacbcccdcecfd0d1d2d3d4d5d6d7d8d9dadbdcdddedfe0e1e2e3e4e5e6e7e8e9eaebecedeeeff0f1f2f3f4f5f6f7f8f9fa ++ replicate 190 67) ∷ piece 510 (hex 2 0x55aa) ∷ [])) × (map_size (planned (disks_of disk_tracks) machine_tracks volume_tracks conf_tracks_37 2242686124) machine_tracks ≡ 10)
unfolding number16 number32 is_zero has_ranges has_address is_slot is_one_slot chs_of address_of slot_of some_slot slot_at slot_bytes to_chs to_lba sector_at sectors_of place_at slot_make could_be_one named_device entry_at entries_of table_entries is_link is_plain link_of logical_of listed linked_sector chain_entries chain_tables partitions_of numbered_span span_of disk_name last_partition partition_name device_name devices_of named_devices device_at disk_number device_number kind_of super_of super_checks super_in super_at with_counts super_bytes v1_inode v2_inode inode_of inode_at v1_inode_bytes v2_inode_bytes inode_bytes kept_inode inode_place bit with_bit parts_of volume_at number_in follow pointer_by inside follow_at zone_at block_at content_at entry_of entries_in minixentries_entry_at find_entry entries_at is_dots components child find_path file_block file_at zone_number block content entry first_named lookup reached thing names names_in IsSound child_path path_of link_at section file_content section_bytes is_bootable has_signature has_options has_names has_slots has_no_message has_whole_message has_message has_zeros is_whole timeout_of table_slots boot_of boot_at field_bytes merged_sector is_set entry_name is_printable is_name has_flags has_video has_length has_main has_initrd has_extra is_entry descriptor_of entry_bytes same_name repeats breaks table_at descriptor_bytes options_at extra_at options_bytes extra_bytes is_line line_of line_at line_bytes is_same_line names_of_section names_of_config started menu_decision menu_boot file_of middle_text target_of menu_entries menu_of meant slot_to slots_for chain_for file_slots file_sectors section_sectors_at flags_of descriptor_for plan_entries sectors_of_table sectors_after plan_sectors map_size plan_names plan_boot plan_boot_sector devices_in inode_places mapped_inode file_inode mapped_section code_in planned
plan_lba32_compact_a_prompt_delay_65534_3_images_one_omitted_an_initrd_an_alias_a_password_a_lock_a_fallback_append_root = (refl, refl, refl)

-- lba32, a message, 2 other systems, a table, a lock
pub plan_lba32_a_message_2_other_systems_a_table_a_lock : (plan_sectors (planned (disks_of disk_tracks) machine_tracks volume_tracks conf_tracks_38 2745585215) machine_tracks (on 0 (436 ∷ 437 ∷ 440 ∷ 441 ∷ 448 ∷ 449 ∷ 450 ∷ 451 ∷ 452 ∷ 453 ∷ [])) ≡ (file 512 (piece 0 (codes "LINE") ∷ [])) ∷ (file 512 (piece 0 (hex 17 0x6669667465656e2d6c6574746572730001) ∷ piece 21 (hex 1 0x02) ∷ piece 28 (hex 14 0x03800100c201000003800100c301) ∷ piece 52 (hex 1 0x01) ∷ piece 64 (codes "linux") ∷ piece 80 (hex 1 0x89) ∷ piece 85 (hex 1 0x04) ∷ piece 92 (hex 14 0x03800100c401000003800100c501) ∷ piece 116 (hex 1 0x01) ∷ [])) ∷ (file 512 []) ∷ (file 512 []) ∷ (file 512 []) ∷ (file 512 (piece 0 (hex 14 0x0380010002010000038001000301) ∷ [])) ∷ (file 512 []) ∷ (file 512 (piece 0 (hex 3 0x038101) ∷ [])) ∷ (file 512 []) ∷ (file 512 (piece 0 (hex 13 0x03800100200000000381010011) ∷ [])) ∷ []) × (plan_boot_sector (planned (disks_of disk_tracks) machine_tracks volume_tracks conf_tracks_38 2745585215) machine_tracks (on 0 (436 ∷ 437 ∷ 440 ∷ 441 ∷ 448 ∷ 449 ∷ 450 ∷ 451 ∷ 452 ∷ 453 ∷ [])) (disks_of disk_tracks 0 96) ≡ file 512 (piece 0 (hex 12 0xeb7e4c494c4f01003f4ea6a3) ∷ piece 16 (hex 54 0xffff02000102010003800100b401000003800100c001000003800100c101000003800100b501000003800100b801000003800100b901) ∷ piece 128 (hex 122 0x8182838485868788898a8b8c8d8e8f909192939495969798999a9b9c9d9e9fa0a1a2a3a4a5a6a7a8a9aaabacadaeafb0b1b2b3b4b5b6b7b8b9babbbcbdbebfc0c1c2c3c4c5c6c7c8c9cacbcccdcecfd0d1d2d3d4d5d6d7d8d9dadbdcdddedfe0e1e2e3e4e5e6e7e8e9eaebecedeeeff0f1f2f3f4f5f6f7f8f9fa ++ replicate 190 67) ∷ piece 510 (hex 2 0x55aa) ∷ [])) × (map_size (planned (disks_of disk_tracks) machine_tracks volume_tracks conf_tracks_38 2745585215) machine_tracks ≡ 10)
unfolding number16 number32 is_zero has_ranges has_address is_slot is_one_slot chs_of address_of slot_of some_slot slot_at slot_bytes to_chs to_lba sector_at sectors_of place_at slot_make could_be_one named_device entry_at entries_of table_entries is_link is_plain link_of logical_of listed linked_sector chain_entries chain_tables partitions_of numbered_span span_of disk_name last_partition partition_name device_name devices_of named_devices device_at disk_number device_number kind_of super_of super_checks super_in super_at with_counts super_bytes v1_inode v2_inode inode_of inode_at v1_inode_bytes v2_inode_bytes inode_bytes kept_inode inode_place bit with_bit parts_of volume_at number_in follow pointer_by inside follow_at zone_at block_at content_at entry_of entries_in minixentries_entry_at find_entry entries_at is_dots components child find_path file_block file_at zone_number block content entry first_named lookup reached thing names names_in IsSound child_path path_of link_at section file_content section_bytes is_bootable has_signature has_options has_names has_slots has_no_message has_whole_message has_message has_zeros is_whole timeout_of table_slots boot_of boot_at field_bytes merged_sector is_set entry_name is_printable is_name has_flags has_video has_length has_main has_initrd has_extra is_entry descriptor_of entry_bytes same_name repeats breaks table_at descriptor_bytes options_at extra_at options_bytes extra_bytes is_line line_of line_at line_bytes is_same_line names_of_section names_of_config started menu_decision menu_boot file_of middle_text target_of menu_entries menu_of meant slot_to slots_for chain_for file_slots file_sectors section_sectors_at flags_of descriptor_for plan_entries sectors_of_table sectors_after plan_sectors map_size plan_names plan_boot plan_boot_sector devices_in inode_places mapped_inode file_inode mapped_section code_in planned
plan_lba32_a_message_2_other_systems_a_table_a_lock = (refl, refl, refl)

-- linear, compact, a message, an image, 3 other systems, an alias, a table, a password, a lock, vga
pub plan_linear_compact_a_message_an_image_3_other_systems_an_alias_a_table_a_password_a_lock_vga : (plan_sectors (planned (disks_of disk_tracks) machine_tracks volume_tracks conf_tracks_39 3577170747) machine_tracks (on 0 (2343 ∷ []) ++ on 1 (455 ∷ []) ++ on 0 (830 ∷ 2600 ∷ 505 ∷ 669 ∷ 2714 ∷ 1777 ∷ 611 ∷ 1983 ∷ 594 ∷ 691 ∷ 2242 ∷ 1464 ∷ 1307 ∷ 1217 ∷ 1034 ∷ 450 ∷ [])) ≡ (file 512 (piece 0 (codes "LINE") ∷ [])) ∷ (file 512 (piece 0 (codes "two") ∷ piece 16 (hex 1 0x0b) ∷ piece 21 (hex 1 0x02) ∷ piece 28 (hex 14 0x028001009a0a0000028001006302) ∷ piece 52 (hex 13 0x0100000002800100f106000078) ∷ piece 80 (hex 1 0x83) ∷ piece 85 (hex 1 0x04) ∷ piece 92 (hex 14 0x02800100bf07000002800100b302) ∷ piece 116 (hex 13 0x01000000028001005202000033) ∷ piece 144 (hex 1 0x83) ∷ piece 149 (hex 1 0x04) ∷ piece 156 (hex 14 0x02800100bf07000002800100b302) ∷ piece 180 (hex 17 0x0100000002800100520200006c696e7578) ∷ piece 208 (hex 1 0x0b) ∷ piece 213 (hex 1 0x02) ∷ piece 220 (hex 14 0x02800100c2080000028001001b05) ∷ piece 244 (hex 15 0x0100000002800100b80500006f6c64) ∷ piece 272 (hex 6 0x22000000d007) ∷ piece 284 (hex 14 0x02800100c104000002800100c201) ∷ piece 308 (hex 13 0x01000000028001000a04000032) ∷ piece 336 (hex 6 0x22000000d007) ∷ piece 348 (hex 14 0x02800100c104000002800100c201) ∷ piece 372 (hex 10 0x01000000028001000a04) ∷ [])) ∷ (file 512 []) ∷ (file 512 []) ∷ (file 512 []) ∷ (file 512 (piece 0 (hex 6 0x028002000201) ∷ [])) ∷ (file 512 []) ∷ (file 512 (piece 2 (hex 1 0x03) ∷ piece 480 (codes "top") ∷ [])) ∷ (file 512 (piece 0 (hex 5 0x0280010020) ∷ [])) ∷ (file 512 []) ∷ (file 512 (piece 2 (hex 1 0x03) ∷ piece 480 (codes "top") ∷ [])) ∷ (file 512 (piece 0 (hex 11 0x0280010020000000028101) ∷ [])) ∷ (file 512 []) ∷ (file 512 (piece 2 (hex 1 0x03) ∷ piece 480 (codes "top") ∷ [])) ∷ (file 512 (piece 0 (hex 5 0x02810100a0) ∷ [])) ∷ (file 512 []) ∷ (file 512 (piece 2 (hex 1 0x03) ∷ piece 480 (codes "top") ∷ [])) ∷ (file 512 (piece 0 (hex 6 0x028004001601) ∷ [])) ∷ []) × (plan_boot_sector (planned (disks_of disk_tracks) machine_tracks volume_tracks conf_tracks_39 3577170747) machine_tracks (on 0 (2343 ∷ []) ++ on 1 (455 ∷ []) ++ on 0 (830 ∷ 2600 ∷ 505 ∷ 669 ∷ 2714 ∷ 1777 ∷ 611 ∷ 1983 ∷ 594 ∷ 691 ∷ 2242 ∷ 1464 ∷ 1307 ∷ 1217 ∷ 1034 ∷ 450 ∷ [])) (disks_of disk_tracks 0 96) ≡ file 512 (piece 0 (hex 12 0xeb7e4c494c4f01003b4b37d5) ∷ piece 16 (hex 54 0xffff060001020100028001002709000002800100f9010000028001009d02000002810100c7010000028001003e03000002800100280a) ∷ piece 96 (hex 1 0x03) ∷ piece 128 (hex 122 0x8182838485868788898a8b8c8d8e8f909192939495969798999a9b9c9d9e9fa0a1a2a3a4a5a6a7a8a9aaabacadaeafb0b1b2b3b4b5b6b7b8b9babbbcbdbebfc0c1c2c3c4c5c6c7c8c9cacbcccdcecfd0d1d2d3d4d5d6d7d8d9dadbdcdddedfe0e1e2e3e4e5e6e7e8e9eaebecedeeeff0f1f2f3f4f5f6f7f8f9fa ++ replicate 190 67) ∷ piece 510 (hex 2 0x55aa) ∷ [])) × (map_size (planned (disks_of disk_tracks) machine_tracks volume_tracks conf_tracks_39 3577170747) machine_tracks ≡ 18)
unfolding number16 number32 is_zero has_ranges has_address is_slot is_one_slot chs_of address_of slot_of some_slot slot_at slot_bytes to_chs to_lba sector_at sectors_of place_at slot_make could_be_one named_device entry_at entries_of table_entries is_link is_plain link_of logical_of listed linked_sector chain_entries chain_tables partitions_of numbered_span span_of disk_name last_partition partition_name device_name devices_of named_devices device_at disk_number device_number kind_of super_of super_checks super_in super_at with_counts super_bytes v1_inode v2_inode inode_of inode_at v1_inode_bytes v2_inode_bytes inode_bytes kept_inode inode_place bit with_bit parts_of volume_at number_in follow pointer_by inside follow_at zone_at block_at content_at entry_of entries_in minixentries_entry_at find_entry entries_at is_dots components child find_path file_block file_at zone_number block content entry first_named lookup reached thing names names_in IsSound child_path path_of link_at section file_content section_bytes is_bootable has_signature has_options has_names has_slots has_no_message has_whole_message has_message has_zeros is_whole timeout_of table_slots boot_of boot_at field_bytes merged_sector is_set entry_name is_printable is_name has_flags has_video has_length has_main has_initrd has_extra is_entry descriptor_of entry_bytes same_name repeats breaks table_at descriptor_bytes options_at extra_at options_bytes extra_bytes is_line line_of line_at line_bytes is_same_line names_of_section names_of_config started menu_decision menu_boot file_of middle_text target_of menu_entries menu_of meant slot_to slots_for chain_for file_slots file_sectors section_sectors_at flags_of descriptor_for plan_entries sectors_of_table sectors_after plan_sectors map_size plan_names plan_boot plan_boot_sector devices_in inode_places mapped_inode file_inode mapped_section code_in planned
plan_linear_compact_a_message_an_image_3_other_systems_an_alias_a_table_a_password_a_lock_vga = (refl, refl, refl)

-- lba32, compact, a prompt, timeout 65534, 2 images, one omitted, another system, an initrd, a lock, root
pub plan_lba32_compact_a_prompt_timeout_65534_2_images_one_omitted_another_system_an_initrd_a_lock_root : (plan_sectors (planned (disks_of disk_tracks) machine_tracks volume_tracks conf_tracks_40 115377188) machine_tracks (on 0 (436 ∷ 437 ∷ 440 ∷ 441 ∷ 448 ∷ 449 ∷ 450 ∷ 451 ∷ 452 ∷ [])) ≡ (file 512 (piece 0 (codes "LINE") ∷ [])) ∷ (file 512 (piece 0 (hex 17 0x6669667465656e2d6c6574746572730001) ∷ piece 21 (hex 1 0x02) ∷ piece 28 (hex 14 0x03800100c101000003800100c201) ∷ piece 52 (hex 1 0x01) ∷ piece 64 (codes "two") ∷ piece 80 (hex 6 0x080000001405) ∷ piece 92 (hex 14 0x03800100c301000003800100c401) ∷ piece 116 (hex 1 0x01) ∷ [])) ∷ (file 512 []) ∷ (file 512 []) ∷ (file 512 []) ∷ (file 512 []) ∷ (file 512 (piece 0 (hex 5 0x0380010020) ∷ [])) ∷ (file 512 (piece 0 (hex 1 0x09) ∷ piece 8 (codes " root=301") ∷ [])) ∷ (file 512 (piece 0 (hex 6 0x038003001201) ∷ [])) ∷ []) × (plan_boot_sector (planned (disks_of disk_tracks) machine_tracks volume_tracks conf_tracks_40 115377188) machine_tracks (on 0 (436 ∷ 437 ∷ 440 ∷ 441 ∷ 448 ∷ 449 ∷ 450 ∷ 451 ∷ 452 ∷ [])) (disks_of disk_tracks 0 0) ≡ file 512 (piece 0 (hex 19 0xeb7e4c494c4f01002484e00601000000feff02) ∷ piece 24 (hex 14 0x03800100b401000003800100c001) ∷ piece 48 (hex 22 0x03800100b501000003800100b801000003800100b901) ∷ piece 128 (hex 122 0x8182838485868788898a8b8c8d8e8f909192939495969798999a9b9c9d9e9fa0a1a2a3a4a5a6a7a8a9aaabacadaeafb0b1b2b3b4b5b6b7b8b9babbbcbdbebfc0c1c2c3c4c5c6c7c8c9cacbcccdcecfd0d1d2d3d4d5d6d7d8d9dadbdcdddedfe0e1e2e3e4e5e6e7e8e9eaebecedeeeff0f1f2f3f4f5f6f7f8f9fa ++ replicate 190 67) ∷ piece 450 (hex 9 0x830000002000000028) ∷ piece 466 (hex 10 0x8100000060000000f00a) ∷ piece 510 (hex 2 0x55aa) ∷ [])) × (map_size (planned (disks_of disk_tracks) machine_tracks volume_tracks conf_tracks_40 115377188) machine_tracks ≡ 9)
unfolding number16 number32 is_zero has_ranges has_address is_slot is_one_slot chs_of address_of slot_of some_slot slot_at slot_bytes to_chs to_lba sector_at sectors_of place_at slot_make could_be_one named_device entry_at entries_of table_entries is_link is_plain link_of logical_of listed linked_sector chain_entries chain_tables partitions_of numbered_span span_of disk_name last_partition partition_name device_name devices_of named_devices device_at disk_number device_number kind_of super_of super_checks super_in super_at with_counts super_bytes v1_inode v2_inode inode_of inode_at v1_inode_bytes v2_inode_bytes inode_bytes kept_inode inode_place bit with_bit parts_of volume_at number_in follow pointer_by inside follow_at zone_at block_at content_at entry_of entries_in minixentries_entry_at find_entry entries_at is_dots components child find_path file_block file_at zone_number block content entry first_named lookup reached thing names names_in IsSound child_path path_of link_at section file_content section_bytes is_bootable has_signature has_options has_names has_slots has_no_message has_whole_message has_message has_zeros is_whole timeout_of table_slots boot_of boot_at field_bytes merged_sector is_set entry_name is_printable is_name has_flags has_video has_length has_main has_initrd has_extra is_entry descriptor_of entry_bytes same_name repeats breaks table_at descriptor_bytes options_at extra_at options_bytes extra_bytes is_line line_of line_at line_bytes is_same_line names_of_section names_of_config started menu_decision menu_boot file_of middle_text target_of menu_entries menu_of meant slot_to slots_for chain_for file_slots file_sectors section_sectors_at flags_of descriptor_for plan_entries sectors_of_table sectors_after plan_sectors map_size plan_names plan_boot plan_boot_sector devices_in inode_places mapped_inode file_inode mapped_section code_in planned
plan_lba32_compact_a_prompt_timeout_65534_2_images_one_omitted_another_system_an_initrd_a_lock_root = (refl, refl, refl)

-- an initrd that is all hole
pub plan_an_initrd_that_is_all_hole : (plan_sectors (planned (disks_of disk_logical) machine_logical volume_logical conf_logical_1 3981198664) machine_logical (on 0 (158 ∷ 159 ∷ 164 ∷ 165 ∷ 166 ∷ 167 ∷ 168 ∷ 169 ∷ [])) ≡ (file 512 (piece 0 (codes "LINE") ∷ [])) ∷ (file 512 (piece 0 (codes "a") ∷ piece 16 (hex 39 0x4000000005040000000c000003800100a700000003800100a800000003800100a9000000010001) ∷ [])) ∷ (file 512 []) ∷ (file 512 []) ∷ (file 512 []) ∷ (file 512 []) ∷ (file 512 (piece 0 (hex 21 0x038001008400000003800100850000000380010086) ∷ [])) ∷ (file 512 (piece 0 (hex 45 0x03800100a600000003800100a600000003800100a600000003800100a600000003800100a600000003800100a6) ∷ [])) ∷ []) × (plan_boot_sector (planned (disks_of disk_logical) machine_logical volume_logical conf_logical_1 3981198664) machine_logical (on 0 (158 ∷ 159 ∷ 164 ∷ 165 ∷ 166 ∷ 167 ∷ 168 ∷ 169 ∷ [])) (disks_of disk_logical 0 0) ≡ file 512 (piece 0 (hex 12 0xeb7e4c494c4f010048454ced) ∷ piece 16 (hex 3 0xffff01) ∷ piece 24 (hex 13 0x038001009e00000003800100a6) ∷ piece 48 (hex 21 0x038001009f00000003800100a400000003800100a5) ∷ piece 128 (replicate 312 195) ∷ piece 450 (hex 9 0x83000000110000001e) ∷ piece 466 (hex 10 0x05000000440000006009) ∷ piece 510 (hex 2 0x55aa) ∷ [])) × (map_size (planned (disks_of disk_logical) machine_logical volume_logical conf_logical_1 3981198664) machine_logical ≡ 8)
unfolding number16 number32 is_zero has_ranges has_address is_slot is_one_slot chs_of address_of slot_of some_slot slot_at slot_bytes to_chs to_lba sector_at sectors_of place_at slot_make could_be_one named_device entry_at entries_of table_entries is_link is_plain link_of logical_of listed linked_sector chain_entries chain_tables partitions_of numbered_span span_of disk_name last_partition partition_name device_name devices_of named_devices device_at disk_number device_number kind_of super_of super_checks super_in super_at with_counts super_bytes v1_inode v2_inode inode_of inode_at v1_inode_bytes v2_inode_bytes inode_bytes kept_inode inode_place bit with_bit parts_of volume_at number_in follow pointer_by inside follow_at zone_at block_at content_at entry_of entries_in minixentries_entry_at find_entry entries_at is_dots components child find_path file_block file_at zone_number block content entry first_named lookup reached thing names names_in IsSound child_path path_of link_at section file_content section_bytes is_bootable has_signature has_options has_names has_slots has_no_message has_whole_message has_message has_zeros is_whole timeout_of table_slots boot_of boot_at field_bytes merged_sector is_set entry_name is_printable is_name has_flags has_video has_length has_main has_initrd has_extra is_entry descriptor_of entry_bytes same_name repeats breaks table_at descriptor_bytes options_at extra_at options_bytes extra_bytes is_line line_of line_at line_bytes is_same_line names_of_section names_of_config started menu_decision menu_boot file_of middle_text target_of menu_entries menu_of meant slot_to slots_for chain_for file_slots file_sectors section_sectors_at flags_of descriptor_for plan_entries sectors_of_table sectors_after plan_sectors map_size plan_names plan_boot plan_boot_sector devices_in inode_places mapped_inode file_inode mapped_section code_in planned
plan_an_initrd_that_is_all_hole = (refl, refl, refl)

-- holes in a kernel, an initrd and a message, compact by cylinder
pub plan_holes_in_a_kernel_an_initrd_and_a_message_compact_by_cylinder : (plan_sectors (planned (disks_of disk_logical) machine_logical volume_logical conf_logical_2 974829958) machine_logical (on 0 (158 ∷ 159 ∷ 164 ∷ 165 ∷ 166 ∷ 167 ∷ 168 ∷ 169 ∷ 170 ∷ [])) ≡ (file 512 (piece 0 (codes "LINE") ∷ [])) ∷ (file 512 (piece 0 (codes "a") ∷ piece 16 (hex 39 0x40000000581b0000d40e0000018001001002010001800100110201000180010001020200010001) ∷ [])) ∷ (file 512 []) ∷ (file 512 []) ∷ (file 512 []) ∷ (file 512 (piece 0 (hex 6 0x018003000302) ∷ [])) ∷ (file 512 []) ∷ (file 512 (piece 0 (hex 55 0x01800100110102000180030001010300018001000e020100018001000e020100018001000e020100018001000e02010001800600040103) ∷ [])) ∷ (file 512 (piece 0 (hex 47 0x018001000e020100018001000e020100018002000a010300018001000e020100018001000e020100018002000c0103) ∷ [])) ∷ []) × (plan_boot_sector (planned (disks_of disk_logical) machine_logical volume_logical conf_logical_2 974829958) machine_logical (on 0 (158 ∷ 159 ∷ 164 ∷ 165 ∷ 166 ∷ 167 ∷ 168 ∷ 169 ∷ 170 ∷ [])) (disks_of disk_logical 0 0) ≡ file 512 (piece 0 (hex 71 0xeb7e4c494c4f010086b91a3a01000000ffff0100b40401000180010006020100018001000e020100018001000f0201000180010007020100018001000c020100018001000d0201) ∷ piece 128 (replicate 312 195) ∷ piece 450 (hex 9 0x83000000110000001e) ∷ piece 466 (hex 10 0x05000000440000006009) ∷ piece 510 (hex 2 0x55aa) ∷ [])) × (map_size (planned (disks_of disk_logical) machine_logical volume_logical conf_logical_2 974829958) machine_logical ≡ 9)
unfolding number16 number32 is_zero has_ranges has_address is_slot is_one_slot chs_of address_of slot_of some_slot slot_at slot_bytes to_chs to_lba sector_at sectors_of place_at slot_make could_be_one named_device entry_at entries_of table_entries is_link is_plain link_of logical_of listed linked_sector chain_entries chain_tables partitions_of numbered_span span_of disk_name last_partition partition_name device_name devices_of named_devices device_at disk_number device_number kind_of super_of super_checks super_in super_at with_counts super_bytes v1_inode v2_inode inode_of inode_at v1_inode_bytes v2_inode_bytes inode_bytes kept_inode inode_place bit with_bit parts_of volume_at number_in follow pointer_by inside follow_at zone_at block_at content_at entry_of entries_in minixentries_entry_at find_entry entries_at is_dots components child find_path file_block file_at zone_number block content entry first_named lookup reached thing names names_in IsSound child_path path_of link_at section file_content section_bytes is_bootable has_signature has_options has_names has_slots has_no_message has_whole_message has_message has_zeros is_whole timeout_of table_slots boot_of boot_at field_bytes merged_sector is_set entry_name is_printable is_name has_flags has_video has_length has_main has_initrd has_extra is_entry descriptor_of entry_bytes same_name repeats breaks table_at descriptor_bytes options_at extra_at options_bytes extra_bytes is_line line_of line_at line_bytes is_same_line names_of_section names_of_config started menu_decision menu_boot file_of middle_text target_of menu_entries menu_of meant slot_to slots_for chain_for file_slots file_sectors section_sectors_at flags_of descriptor_for plan_entries sectors_of_table sectors_after plan_sectors map_size plan_names plan_boot plan_boot_sector devices_in inode_places mapped_inode file_inode mapped_section code_in planned
plan_holes_in_a_kernel_an_initrd_and_a_message_compact_by_cylinder = (refl, refl, refl)

-- the same, one by one, with linear addresses
pub plan_the_same_one_by_one_with_linear_addresses : (plan_sectors (planned (disks_of disk_logical) machine_logical volume_logical conf_logical_3 3655681100) machine_logical (on 0 (158 ∷ 159 ∷ 164 ∷ 165 ∷ 166 ∷ 167 ∷ 168 ∷ 169 ∷ 170 ∷ [])) ≡ (file 512 (piece 0 (codes "LINE") ∷ [])) ∷ (file 512 (piece 0 (codes "a") ∷ piece 16 (hex 39 0x40000000581b0000d40e000002800100a800000002800100a900000002800100aa000000010001) ∷ [])) ∷ (file 512 []) ∷ (file 512 []) ∷ (file 512 []) ∷ (file 512 (piece 0 (hex 21 0x028001008a000000028001008b000000028001008c) ∷ [])) ∷ (file 512 []) ∷ (file 512 (piece 0 (hex 109 0x028001007600000002800100770000000280010078000000028001007900000002800100a600000002800100a600000002800100a600000002800100a6000000028001007a000000028001007b000000028001007c000000028001007d000000028001007e000000028001007f) ∷ [])) ∷ (file 512 (piece 0 (hex 61 0x02800100a600000002800100a60000000280010080000000028001008100000002800100a600000002800100a600000002800100820000000280010083) ∷ [])) ∷ []) × (plan_boot_sector (planned (disks_of disk_logical) machine_logical volume_logical conf_logical_3 3655681100) machine_logical (on 0 (158 ∷ 159 ∷ 164 ∷ 165 ∷ 166 ∷ 167 ∷ 168 ∷ 169 ∷ 170 ∷ [])) (disks_of disk_logical 0 0) ≡ file 512 (piece 0 (hex 69 0xeb7e4c494c4f01004c44e5d901000000ffff0100b4040100028001009e00000002800100a600000002800100a7000000028001009f00000002800100a400000002800100a5) ∷ piece 128 (replicate 312 195) ∷ piece 450 (hex 9 0x83000000110000001e) ∷ piece 466 (hex 10 0x05000000440000006009) ∷ piece 510 (hex 2 0x55aa) ∷ [])) × (map_size (planned (disks_of disk_logical) machine_logical volume_logical conf_logical_3 3655681100) machine_logical ≡ 9)
unfolding number16 number32 is_zero has_ranges has_address is_slot is_one_slot chs_of address_of slot_of some_slot slot_at slot_bytes to_chs to_lba sector_at sectors_of place_at slot_make could_be_one named_device entry_at entries_of table_entries is_link is_plain link_of logical_of listed linked_sector chain_entries chain_tables partitions_of numbered_span span_of disk_name last_partition partition_name device_name devices_of named_devices device_at disk_number device_number kind_of super_of super_checks super_in super_at with_counts super_bytes v1_inode v2_inode inode_of inode_at v1_inode_bytes v2_inode_bytes inode_bytes kept_inode inode_place bit with_bit parts_of volume_at number_in follow pointer_by inside follow_at zone_at block_at content_at entry_of entries_in minixentries_entry_at find_entry entries_at is_dots components child find_path file_block file_at zone_number block content entry first_named lookup reached thing names names_in IsSound child_path path_of link_at section file_content section_bytes is_bootable has_signature has_options has_names has_slots has_no_message has_whole_message has_message has_zeros is_whole timeout_of table_slots boot_of boot_at field_bytes merged_sector is_set entry_name is_printable is_name has_flags has_video has_length has_main has_initrd has_extra is_entry descriptor_of entry_bytes same_name repeats breaks table_at descriptor_bytes options_at extra_at options_bytes extra_bytes is_line line_of line_at line_bytes is_same_line names_of_section names_of_config started menu_decision menu_boot file_of middle_text target_of menu_entries menu_of meant slot_to slots_for chain_for file_slots file_sectors section_sectors_at flags_of descriptor_for plan_entries sectors_of_table sectors_after plan_sectors map_size plan_names plan_boot plan_boot_sector devices_in inode_places mapped_inode file_inode mapped_section code_in planned
plan_the_same_one_by_one_with_linear_addresses = (refl, refl, refl)

-- the boot sector of the logical partition itself
pub plan_the_boot_sector_of_the_logical_partition_itself : (plan_sectors (planned (disks_of disk_logical) machine_logical volume_logical conf_logical_4 2726771336) machine_logical (on 0 (158 ∷ 159 ∷ 164 ∷ 165 ∷ 166 ∷ 167 ∷ 168 ∷ 169 ∷ 170 ∷ [])) ≡ (file 512 (piece 0 (codes "LINE") ∷ [])) ∷ (file 512 (piece 0 (codes "a") ∷ piece 20 (hex 2 0xa00f) ∷ piece 28 (hex 13 0x03800100a700000003800100a8) ∷ piece 52 (hex 1 0x01) ∷ piece 64 (codes "root") ∷ piece 80 (hex 1 0x81) ∷ piece 85 (hex 1 0x04) ∷ piece 92 (hex 13 0x03800100a900000003800100aa) ∷ piece 116 (hex 1 0x01) ∷ [])) ∷ (file 512 []) ∷ (file 512 []) ∷ (file 512 []) ∷ (file 512 []) ∷ (file 512 (piece 0 (hex 61 0x03800100980000000380010099000000038001009c000000038001009d00000003800100a000000003800100a100000003800100a200000003800100a3) ∷ [])) ∷ (file 512 []) ∷ (file 512 (piece 0 (hex 11 0x0380010011000000038001) ∷ [])) ∷ []) × (plan_boot_sector (planned (disks_of disk_logical) machine_logical volume_logical conf_logical_4 2726771336) machine_logical (on 0 (158 ∷ 159 ∷ 164 ∷ 165 ∷ 166 ∷ 167 ∷ 168 ∷ 169 ∷ 170 ∷ [])) (disks_of disk_logical 0 102) ≡ file 512 (piece 0 (hex 12 0xeb7e4c494c4f0100883a87a2) ∷ piece 16 (hex 3 0xffff02) ∷ piece 24 (hex 13 0x038001009e00000003800100a6) ∷ piece 48 (hex 21 0x038001009f00000003800100a400000003800100a5) ∷ piece 510 (hex 2 0x55aa) ∷ [])) × (map_size (planned (disks_of disk_logical) machine_logical volume_logical conf_logical_4 2726771336) machine_logical ≡ 9)
unfolding number16 number32 is_zero has_ranges has_address is_slot is_one_slot chs_of address_of slot_of some_slot slot_at slot_bytes to_chs to_lba sector_at sectors_of place_at slot_make could_be_one named_device entry_at entries_of table_entries is_link is_plain link_of logical_of listed linked_sector chain_entries chain_tables partitions_of numbered_span span_of disk_name last_partition partition_name device_name devices_of named_devices device_at disk_number device_number kind_of super_of super_checks super_in super_at with_counts super_bytes v1_inode v2_inode inode_of inode_at v1_inode_bytes v2_inode_bytes inode_bytes kept_inode inode_place bit with_bit parts_of volume_at number_in follow pointer_by inside follow_at zone_at block_at content_at entry_of entries_in minixentries_entry_at find_entry entries_at is_dots components child find_path file_block file_at zone_number block content entry first_named lookup reached thing names names_in IsSound child_path path_of link_at section file_content section_bytes is_bootable has_signature has_options has_names has_slots has_no_message has_whole_message has_message has_zeros is_whole timeout_of table_slots boot_of boot_at field_bytes merged_sector is_set entry_name is_printable is_name has_flags has_video has_length has_main has_initrd has_extra is_entry descriptor_of entry_bytes same_name repeats breaks table_at descriptor_bytes options_at extra_at options_bytes extra_bytes is_line line_of line_at line_bytes is_same_line names_of_section names_of_config started menu_decision menu_boot file_of middle_text target_of menu_entries menu_of meant slot_to slots_for chain_for file_slots file_sectors section_sectors_at flags_of descriptor_for plan_entries sectors_of_table sectors_after plan_sectors map_size plan_names plan_boot plan_boot_sector devices_in inode_places mapped_inode file_inode mapped_section code_in planned
plan_the_boot_sector_of_the_logical_partition_itself = (refl, refl, refl)

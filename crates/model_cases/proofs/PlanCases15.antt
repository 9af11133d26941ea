-- Cases of the model, written by tools/plan_cases.py: the sectors of planned maps, and their boot sectors.
use Rattle.std.proofs.Common.{◌≡◌, ◌∷◌, ◌++◌, [], codes, replicate, refl}
use Rattle.lilo_model.specs.BootSector.{is_bootable, has_signature, has_options, has_names, has_slots, has_no_message, has_whole_message, has_message, has_zeros, is_whole, timeout_of, table_slots, boot_of, boot_at, field_bytes, merged_sector}
use Rattle.lilo_model.specs.Bytes.{number16, number32, is_zero}
use Rattle.lilo_model.specs.ConfLawful.{names_of_section, names_of_config}
use Rattle.lilo_model.specs.Devices.{disk_name, last_partition, partition_name, device_name, devices_of, named_devices, device_at, disk_number, device_number}
use Rattle.lilo_model.specs.LineSector.{is_line, line_of, line_at, line_bytes, is_same_line}
use Rattle.lilo_model.specs.Meant.{started, menu_decision, menu_boot, file_of, middle_text, target_of, menu_entries, menu_of, meant}
use Rattle.lilo_model.specs.MinixEntries.{entry_of, entries_in, entry_at as minixentries_entry_at, find_entry, entries_at, is_dots}
use Rattle.lilo_model.specs.MinixFind.{components, child, find_path, file_block, file_at}
use Rattle.lilo_model.specs.MinixFindNames.{child_path, path_of}
use Rattle.lilo_model.specs.MinixLayout.{kind_of, super_of, super_checks, super_in, super_at, with_counts, super_bytes, v1_inode, v2_inode, inode_of, inode_at, v1_inode_bytes, v2_inode_bytes, inode_bytes, kept_inode, inode_place}
use Rattle.lilo_model.specs.MinixNames.{zone_number, block, content, entry, first_named, lookup, reached, thing, names, names_in, IsSound}
use Rattle.lilo_model.specs.MinixParts.{bit, with_bit, parts_of, volume_at, number_in, follow, pointer_by, inside, follow_at, zone_at, block_at, content_at}
use Rattle.lilo_model.specs.Options.{options_at, extra_at, options_bytes, extra_bytes}
use Rattle.lilo_model.specs.Partitions.{named_device, entry_at, entries_of, table_entries, is_link, is_plain, link_of, logical_of, listed, linked_sector, chain_entries, chain_tables, partitions_of, numbered_span, span_of}
use Rattle.lilo_model.specs.Plan.{slot_to, slots_for, chain_for, file_slots, file_sectors, section_sectors_at, flags_of, descriptor_for, plan_entries, sectors_of_table, sectors_after, plan_sectors, map_size, plan_names, plan_boot, plan_boot_sector}
use Rattle.lilo_model.specs.Planned.{devices_in, inode_places, mapped_inode, file_inode, mapped_section, code_in, planned}
use Rattle.lilo_model.specs.Section.{link_at, section, file_content, section_bytes}
use Rattle.lilo_model.specs.Slots.{has_ranges, has_address, is_slot, is_one_slot, chs_of, address_of, slot_of, some_slot, slot_at, slot_bytes, to_chs, to_lba, sector_at, sectors_of, place_at, slot_make, could_be_one}
use Rattle.lilo_model.specs.Table.{is_set, entry_name, is_printable, is_name, has_flags, has_video, has_length, has_main, has_initrd, has_extra, is_entry, descriptor_of, entry_bytes, same_name, repeats, breaks, table_at, descriptor_bytes}
use Rattle.model_cases.specs.Sparse.{hex, piece, file, disks_of, on}
use Rattle.model_cases.specs.PlanDisks.{disk_tracks}
use Rattle.model_cases.specs.PlanTracksConfs.{conf_tracks_29, conf_tracks_30, conf_tracks_31, conf_tracks_32, conf_tracks_33, conf_tracks_34, conf_tracks_35, conf_tracks_36}
use Rattle.model_cases.specs.PlanVolumes.{machine_tracks, volume_tracks}

-- lba32, compact, a message, a prompt, timeout 65534, 2 images, an initrd, an alias, a password, restricted, a lock, a fallback, append
pub plan_lba32_compact_a_message_a_prompt_timeout_65534_2_images_an_initrd_an_alias_a_password_restricted_a_lock_a_fallback_append : (plan_sectors (planned (disks_of disk_tracks) machine_tracks volume_tracks conf_tracks_29 2691592850) machine_tracks (on 0 (2011 ∷ 497 ∷ 1379 ∷ 703 ∷ 1480 ∷ 1750 ∷ 1229 ∷ 2093 ∷ 2099 ∷ 2508 ∷ 2270 ∷ 1722 ∷ 2548 ∷ [])) ≡ (file 512 (piece 0 (codes "LINE") ∷ [])) ∷ (file 512 (piece 0 (codes "two") ∷ piece 16 (hex 6 0x12000000d007) ∷ piece 28 (hex 14 0x03800100cd040000038001003308) ∷ piece 52 (hex 13 0x01000000038001002d08000035) ∷ piece 80 (hex 6 0x12000000d007) ∷ piece 92 (hex 14 0x03800100cd040000038001003308) ∷ piece 116 (hex 16 0x01000000038001002d08000073616665) ∷ piece 144 (hex 46 0x4e0000007c150000bc02000003800100cc09000003800100ba06000003800100f40900000100010003800100de08) ∷ [])) ∷ (file 512 []) ∷ (file 512 []) ∷ (file 512 []) ∷ (file 512 (piece 0 (hex 6 0x038001000001) ∷ [])) ∷ (file 512 (piece 0 (hex 1 0x08) ∷ piece 8 (codes " ro a=98") ∷ [])) ∷ (file 512 (piece 0 (hex 7 0x0300030074776f) ∷ piece 480 (codes "top") ∷ [])) ∷ (file 512 (piece 0 (hex 6 0x038004001601) ∷ [])) ∷ (file 512 (piece 0 (hex 1 0x08) ∷ piece 8 (codes " ro a=88") ∷ [])) ∷ (file 512 (piece 2 (hex 1 0x03) ∷ piece 480 (codes "a b") ∷ [])) ∷ (file 512 (piece 0 (hex 30 0x03800200ae01000003800200b201000003800200b601000003800500ba01) ∷ [])) ∷ (file 512 (piece 0 (hex 5 0x0380020078) ∷ [])) ∷ []) × (plan_boot_sector (planned (disks_of disk_tracks) machine_tracks volume_tracks conf_tracks_29 2691592850) machine_tracks (on 0 (2011 ∷ 497 ∷ 1379 ∷ 703 ∷ 1480 ∷ 1750 ∷ 1229 ∷ 2093 ∷ 2099 ∷ 2508 ∷ 2270 ∷ 1722 ∷ 2548 ∷ [])) (disks_of disk_tracks 0 96) ≡ file 512 (piece 0 (hex 70 0xeb7e4c494c4f010092726ea001000000feff03000a00010003800100db07000003800100c805000003800100d606000003800100f1010000038001006305000003800100bf02) ∷ piece 510 (hex 2 0x55aa) ∷ [])) × (map_size (planned (disks_of disk_tracks) machine_tracks volume_tracks conf_tracks_29 2691592850) machine_tracks ≡ 13)
unfolding number16 number32 is_zero has_ranges has_address is_slot is_one_slot chs_of address_of slot_of some_slot slot_at slot_bytes to_chs to_lba sector_at sectors_of place_at slot_make could_be_one named_device entry_at entries_of table_entries is_link is_plain link_of logical_of listed linked_sector chain_entries chain_tables partitions_of numbered_span span_of disk_name last_partition partition_name device_name devices_of named_devices device_at disk_number device_number kind_of super_of super_checks super_in super_at with_counts super_bytes v1_inode v2_inode inode_of inode_at v1_inode_bytes v2_inode_bytes inode_bytes kept_inode inode_place bit with_bit parts_of volume_at number_in follow pointer_by inside follow_at zone_at block_at content_at entry_of entries_in minixentries_entry_at find_entry entries_at is_dots components child find_path file_block file_at zone_number block content entry first_named lookup reached thing names names_in IsSound child_path path_of link_at section file_content section_bytes is_bootable has_signature has_options has_names has_slots has_no_message has_whole_message has_message has_zeros is_whole timeout_of table_slots boot_of boot_at field_bytes merged_sector is_set entry_name is_printable is_name has_flags has_video has_length has_main has_initrd has_extra is_entry descriptor_of entry_bytes same_name repeats breaks table_at descriptor_bytes options_at extra_at options_bytes extra_bytes is_line line_of line_at line_bytes is_same_line names_of_section names_of_config started menu_decision menu_boot file_of middle_text target_of menu_entries menu_of meant slot_to slots_for chain_for file_slots file_sectors section_sectors_at flags_of descriptor_for plan_entries sectors_of_table sectors_after plan_sectors map_size plan_names plan_boot plan_boot_sector devices_in inode_places mapped_inode file_inode mapped_section code_in planned
plan_lba32_compact_a_message_a_prompt_timeout_65534_2_images_an_initrd_an_alias_a_password_restricted_a_lock_a_fallback_append = (refl, refl, refl)

-- lba32, compact, a message, a prompt, delay 2, timeout 7, 3 images, another system, an initrd, an alias, a table, a password, a fallback, append, vga, root
pub plan_lba32_compact_a_message_a_prompt_delay_2_timeout_7_3_images_another_system_an_initrd_an_alias_a_table_a_password_a_fallback_append_vga_root : (plan_sectors (planned (disks_of disk_tracks) machine_tracks volume_tracks conf_tracks_30 521450832) machine_tracks (on 0 (436 ∷ 437 ∷ 440 ∷ 441 ∷ 448 ∷ 449 ∷ 450 ∷ 451 ∷ 452 ∷ 453 ∷ 454 ∷ 455 ∷ 456 ∷ 457 ∷ 458 ∷ 459 ∷ 460 ∷ [])) ≡ (file 512 (piece 0 (codes "LINE") ∷ [])) ∷ (file 512 (piece 0 (codes "safe") ∷ piece 16 (hex 6 0x200005039c7f) ∷ piece 28 (hex 14 0x03800100c201000003800100c301) ∷ piece 52 (hex 1 0x01) ∷ piece 64 (codes "b") ∷ piece 80 (hex 1 0x81) ∷ piece 85 (hex 1 0x04) ∷ piece 92 (hex 14 0x03800100c401000003800100c501) ∷ piece 116 (hex 1 0x01) ∷ piece 128 (codes "two") ∷ piece 144 (hex 49 0x52000000050400000a00000003800100c601000003800100c801000003800100c90100000100010003800100c701000033) ∷ piece 208 (hex 51 0x52000000050400000a00000003800100c601000003800100c801000003800100c90100000100010003800100c70100006f6c64) ∷ piece 272 (hex 6 0x020000009c7f) ∷ piece 284 (hex 14 0x03800100ca01000003800100cc01) ∷ piece 308 (hex 10 0x0100000003800100cb01) ∷ [])) ∷ (file 512 []) ∷ (file 512 []) ∷ (file 512 []) ∷ (file 512 (piece 0 (hex 6 0x038001000001) ∷ [])) ∷ (file 512 (piece 0 (hex 1 0x11) ∷ piece 8 (codes " ro root=301 a=46") ∷ [])) ∷ (file 512 (piece 0 (hex 5 0x03804000be) ∷ [])) ∷ (file 512 []) ∷ (file 512 (piece 0 (hex 13 0x03800100200000000381010011) ∷ [])) ∷ (file 512 (piece 0 (hex 1 0x03) ∷ piece 8 (codes " rw") ∷ [])) ∷ (file 512 (piece 0 (hex 8 0x0400030073616665) ∷ piece 480 (codes "tux") ∷ [])) ∷ (file 512 (piece 0 (hex 5 0x0380030074) ∷ [])) ∷ (file 512 (piece 0 (hex 6 0x038001000001) ∷ [])) ∷ (file 512 (piece 0 (hex 1 0x03) ∷ piece 8 (codes " ro") ∷ [])) ∷ (file 512 (piece 2 (hex 1 0x1f) ∷ piece 480 (replicate 31 112) ∷ [])) ∷ (file 512 (piece 0 (hex 5 0x03804000be) ∷ [])) ∷ []) × (plan_boot_sector (planned (disks_of disk_tracks) machine_tracks volume_tracks conf_tracks_30 521450832) machine_tracks (on 0 (436 ∷ 437 ∷ 440 ∷ 441 ∷ 448 ∷ 449 ∷ 450 ∷ 451 ∷ 452 ∷ 453 ∷ 454 ∷ 455 ∷ 456 ∷ 457 ∷ 458 ∷ 459 ∷ 460 ∷ [])) (disks_of disk_tracks 0 0) ≡ file 512 (piece 0 (hex 70 0xeb7e4c494c4f010050b5141f01000200070005000a00010003800100b401000003800100c001000003800100c101000003800100b501000003800100b801000003800100b901) ∷ piece 128 (hex 122 0x8182838485868788898a8b8c8d8e8f909192939495969798999a9b9c9d9e9fa0a1a2a3a4a5a6a7a8a9aaabacadaeafb0b1b2b3b4b5b6b7b8b9babbbcbdbebfc0c1c2c3c4c5c6c7c8c9cacbcccdcecfd0d1d2d3d4d5d6d7d8d9dadbdcdddedfe0e1e2e3e4e5e6e7e8e9eaebecedeeeff0f1f2f3f4f5f6f7f8f9fa ++ replicate 190 67) ∷ piece 450 (hex 9 0x830000002000000028) ∷ piece 466 (hex 10 0x8100000060000000f00a) ∷ piece 510 (hex 2 0x55aa) ∷ [])) × (map_size (planned (disks_of disk_tracks) machine_tracks volume_tracks conf_tracks_30 521450832) machine_tracks ≡ 17)
unfolding number16 number32 is_zero has_ranges has_address is_slot is_one_slot chs_of address_of slot_of some_slot slot_at slot_bytes to_chs to_lba sector_at sectors_of place_at slot_make could_be_one named_device entry_at entries_of table_entries is_link is_plain link_of logical_of listed linked_sector chain_entries chain_tables partitions_of numbered_span span_of disk_name last_partition partition_name device_name devices_of named_devices device_at disk_number device_number kind_of super_of super_checks super_in super_at with_counts super_bytes v1_inode v2_inode inode_of inode_at v1_inode_bytes v2_inode_bytes inode_bytes kept_inode inode_place bit with_bit parts_of volume_at number_in follow pointer_by inside follow_at zone_at block_at content_at entry_of entries_in minixentries_entry_at find_entry entries_at is_dots components child find_path file_block file_at zone_number block content entry first_named lookup reached thing names names_in IsSound child_path path_of link_at section file_content section_bytes is_bootable has_signature has_options has_names has_slots has_no_message has_whole_message has_message has_zeros is_whole timeout_of table_slots boot_of boot_at field_bytes merged_sector is_set entry_name is_printable is_name has_flags has_video has_length has_main has_initrd has_extra is_entry descriptor_of entry_bytes same_name repeats breaks table_at descriptor_bytes options_at extra_at options_bytes extra_bytes is_line line_of line_at line_bytes is_same_line names_of_section names_of_config started menu_decision menu_boot file_of middle_text target_of menu_entries menu_of meant slot_to slots_for chain_for file_slots file_sectors section_sectors_at flags_of descriptor_for plan_entries sectors_of_table sectors_after plan_sectors map_size plan_names plan_boot plan_boot_sector devices_in inode_places mapped_inode file_inode mapped_section code_in planned
plan_lba32_compact_a_message_a_prompt_delay_2_timeout_7_3_images_another_system_an_initrd_an_alias_a_table_a_password_a_fallback_append_vga_root = (refl, refl, refl)

-- by cylinder, compact, a message, timeout 1, an image, an initrd, a password, a fallback
pub plan_by_cylinder_compact_a_message_timeout_1_an_image_an_initrd_a_password_a_fallback : (plan_sectors (planned (disks_of disk_tracks) machine_tracks volume_tracks conf_tracks_31 2520144471) machine_tracks (on 0 (1388 ∷ 2083 ∷ 470 ∷ 881 ∷ 2447 ∷ 2671 ∷ 2302 ∷ 1630 ∷ 1675 ∷ 2293 ∷ [])) ≡ (file 512 (piece 0 (codes "LINE") ∷ [])) ∷ (file 512 (piece 0 (codes "b") ∷ piece 16 (hex 47 0x520000009c7f0000bc020000018001001f080700018001000c060400018001001608070001000100018001001f0602) ∷ [])) ∷ (file 512 []) ∷ (file 512 []) ∷ (file 512 []) ∷ (file 512 (piece 0 (hex 6 0x018001000101) ∷ [])) ∷ (file 512 (piece 0 (hex 1 0x03) ∷ piece 8 (codes " ro") ∷ [])) ∷ (file 512 (piece 0 (hex 7 0x03001f00622073) ∷ piece 480 (replicate 31 112) ∷ [])) ∷ (file 512 (piece 0 (hex 23 0x018002001f000500018020000100060001801e00010007) ∷ [])) ∷ (file 512 (piece 0 (hex 7 0x01800200190003) ∷ [])) ∷ []) × (plan_boot_sector (planned (disks_of disk_tracks) machine_tracks volume_tracks conf_tracks_31 2520144471) machine_tracks (on 0 (1388 ∷ 2083 ∷ 470 ∷ 881 ∷ 2447 ∷ 2671 ∷ 2302 ∷ 1630 ∷ 1675 ∷ 2293 ∷ [])) (disks_of disk_tracks 0 96) ≡ file 512 (piece 0 (hex 12 0xeb7e4c494c4f0100575a3696) ∷ piece 16 (hex 55 0x010001000a000100018001000d050300018001001009040001800100100a03000180010004080100018001001701060001800100120303) ∷ piece 510 (hex 2 0x55aa) ∷ [])) × (map_size (planned (disks_of disk_tracks) machine_tracks volume_tracks conf_tracks_31 2520144471) machine_tracks ≡ 10)
unfolding number16 number32 is_zero has_ranges has_address is_slot is_one_slot chs_of address_of slot_of some_slot slot_at slot_bytes to_chs to_lba sector_at sectors_of place_at slot_make could_be_one named_device entry_at entries_of table_entries is_link is_plain link_of logical_of listed linked_sector chain_entries chain_tables partitions_of numbered_span span_of disk_name last_partition partition_name device_name devices_of named_devices device_at disk_number device_number kind_of super_of super_checks super_in super_at with_counts super_bytes v1_inode v2_inode inode_of inode_at v1_inode_bytes v2_inode_bytes inode_bytes kept_inode inode_place bit with_bit parts_of volume_at number_in follow pointer_by inside follow_at zone_at block_at content_at entry_of entries_in minixentries_entry_at find_entry entries_at is_dots components child find_path file_block file_at zone_number block content entry first_named lookup reached thing names names_in IsSound child_path path_of link_at section file_content section_bytes is_bootable has_signature has_options has_names has_slots has_no_message has_whole_message has_message has_zeros is_whole timeout_of table_slots boot_of boot_at field_bytes merged_sector is_set entry_name is_printable is_name has_flags has_video has_length has_main has_initrd has_extra is_entry descriptor_of entry_bytes same_name repeats breaks table_at descriptor_bytes options_at extra_at options_bytes extra_bytes is_line line_of line_at line_bytes is_same_line names_of_section names_of_config started menu_decision menu_boot file_of middle_text target_of menu_entries menu_of meant slot_to slots_for chain_for file_slots file_sectors section_sectors_at flags_of descriptor_for plan_entries sectors_of_table sectors_after plan_sectors map_size plan_names plan_boot plan_boot_sector devices_in inode_places mapped_inode file_inode mapped_section code_in planned
plan_by_cylinder_compact_a_message_timeout_1_an_image_an_initrd_a_password_a_fallback = (refl, refl, refl)

-- by cylinder, compact, timeout 7, 2 images, an initrd, an alias, a lock, root
pub plan_by_cylinder_compact_timeout_7_2_images_an_initrd_an_alias_a_lock_root : (plan_sectors (planned (disks_of disk_tracks) machine_tracks volume_tracks conf_tracks_32 3831060941) machine_tracks (on 0 (436 ∷ 437 ∷ 440 ∷ 441 ∷ 448 ∷ 449 ∷ 450 ∷ 451 ∷ 452 ∷ 453 ∷ 454 ∷ [])) ≡ (file 512 (piece 0 (codes "LINE") ∷ [])) ∷ (file 512 (piece 0 (codes "linux") ∷ piece 16 (hex 39 0x480000004d1200000a000000018001000201060001800100030106000180010004010600010001) ∷ piece 64 (codes "4") ∷ piece 80 (hex 39 0x480000004d1200000a000000018001000201060001800100030106000180010004010600010001) ∷ piece 128 (codes "x") ∷ piece 144 (hex 39 0x400000007c1500000a000000018001000501060001800100060106000180010007010600010001) ∷ [])) ∷ (file 512 []) ∷ (file 512 []) ∷ (file 512 []) ∷ (file 512 (piece 0 (hex 1 0x03) ∷ piece 8 (codes " rw") ∷ [])) ∷ (file 512 (piece 0 (hex 6 0x01800a000501) ∷ [])) ∷ (file 512 (piece 0 (hex 6 0x018001000101) ∷ [])) ∷ (file 512 (piece 0 (hex 1 0x0c) ∷ piece 8 (codes " rw root=301") ∷ [])) ∷ (file 512 (piece 0 (hex 31 0x018002000f01050001800200130105000180020017010500018005001b0105) ∷ [])) ∷ (file 512 (piece 0 (hex 6 0x018001000101) ∷ [])) ∷ []) × (plan_boot_sector (planned (disks_of disk_tracks) machine_tracks volume_tracks conf_tracks_32 3831060941) machine_tracks (on 0 (436 ∷ 437 ∷ 440 ∷ 441 ∷ 448 ∷ 449 ∷ 450 ∷ 451 ∷ 452 ∷ 453 ∷ 454 ∷ [])) (disks_of disk_tracks 0 32) ≡ file 512 (piece 0 (hex 12 0xeb7e4c494c4f0100cd5959e4) ∷ piece 16 (hex 3 0x070003) ∷ piece 24 (hex 15 0x018001001501050001800100010106) ∷ piece 48 (hex 23 0x01800100160105000180010019010500018001001a0105) ∷ piece 128 (hex 122 0x8182838485868788898a8b8c8d8e8f909192939495969798999a9b9c9d9e9fa0a1a2a3a4a5a6a7a8a9aaabacadaeafb0b1b2b3b4b5b6b7b8b9babbbcbdbebfc0c1c2c3c4c5c6c7c8c9cacbcccdcecfd0d1d2d3d4d5d6d7d8d9dadbdcdddedfe0e1e2e3e4e5e6e7e8e9eaebecedeeeff0f1f2f3f4f5f6f7f8f9fa ++ replicate 190 67) ∷ piece 510 (hex 2 0x55aa) ∷ [])) × (map_size (planned (disks_of disk_tracks) machine_tracks volume_tracks conf_tracks_32 3831060941) machine_tracks ≡ 11)
unfolding number16 number32 is_zero has_ranges has_address is_slot is_one_slot chs_of address_of slot_of some_slot slot_at slot_bytes to_chs to_lba sector_at sectors_of place_at slot_make could_be_one named_device entry_at entries_of table_entries is_link is_plain link_of logical_of listed linked_sector chain_entries chain_tables partitions_of numbered_span span_of disk_name last_partition partition_name device_name devices_of named_devices device_at disk_number device_number kind_of super_of super_checks super_in super_at with_counts super_bytes v1_inode v2_inode inode_of inode_at v1_inode_bytes v2_inode_bytes inode_bytes kept_inode inode_place bit with_bit parts_of volume_at number_in follow pointer_by inside follow_at zone_at block_at content_at entry_of entries_in minixentries_entry_at find_entry entries_at is_dots components child find_path file_block file_at zone_number block content entry first_named lookup reached thing names names_in IsSound child_path path_of link_at section file_content section_bytes is_bootable has_signature has_options has_names has_slots has_no_message has_whole_message has_message has_zeros is_whole timeout_of table_slots boot_of boot_at field_bytes merged_sector is_set entry_name is_printable is_name has_flags has_video has_length has_main has_initrd has_extra is_entry descriptor_of entry_bytes same_name repeats breaks table_at descriptor_bytes options_at extra_at options_bytes extra_bytes is_line line_of line_at line_bytes is_same_line names_of_section names_of_config started menu_decision menu_boot file_of middle_text target_of menu_entries menu_of meant slot_to slots_for chain_for file_slots file_sectors section_sectors_at flags_of descriptor_for plan_entries sectors_of_table sectors_after plan_sectors map_size plan_names plan_boot plan_boot_sector devices_in inode_places mapped_inode file_inode mapped_section code_in planned
plan_by_cylinder_compact_timeout_7_2_images_an_initrd_an_alias_a_lock_root = (refl, refl, refl)

-- by cylinder, compact, delay 65534, 2 images, another system, an initrd, a password, a fallback, append, vga, root
pub plan_by_cylinder_compact_delay_65534_2_images_another_system_an_initrd_a_password_a_fallback_append_vga_root : (plan_sectors (planned (disks_of disk_tracks) machine_tracks volume_tracks conf_tracks_33 1401143055) machine_tracks (on 0 (2039 ∷ 2337 ∷ 1588 ∷ 2192 ∷ 2699 ∷ 1115 ∷ 1221 ∷ 1706 ∷ 2354 ∷ 2204 ∷ 1145 ∷ 2125 ∷ 1846 ∷ 2189 ∷ [])) ≡ (file 512 (piece 0 (codes "LINE") ∷ [])) ∷ (file 512 (piece 0 (codes "old") ∷ piece 16 (hex 1 0x01) ∷ piece 21 (hex 1 0x02) ∷ piece 28 (hex 15 0x018001001c04020001800100060406) ∷ piece 52 (hex 1 0x01) ∷ piece 64 (hex 65 0x6669667465656e2d6c657474657273007000fdff4d120000bc020000018001000b060500018001001d080400018001001a04030001000100018001001309010062) ∷ piece 144 (hex 6 0x3200fdff4d12) ∷ piece 156 (hex 15 0x018001000e080200018001000e0804) ∷ piece 180 (hex 11 0x0100000001800100170701) ∷ [])) ∷ (file 512 []) ∷ (file 512 []) ∷ (file 512 []) ∷ (file 512 []) ∷ (file 512 (piece 0 (hex 5 0x0181010001) ∷ [])) ∷ (file 512 (piece 0 (hex 1 0x0f) ∷ piece 8 (codes " root=e546 a=82") ∷ [])) ∷ (file 512 (piece 0 (hex 7 0x03000000622073) ∷ [])) ∷ (file 512 (piece 0 (hex 6 0x01800a000501) ∷ [])) ∷ (file 512 (piece 0 (hex 7 0x01800200190003) ∷ [])) ∷ (file 512 (piece 0 (hex 1 0x0e) ∷ piece 8 (codes " root=305 a=16") ∷ [])) ∷ (file 512 (piece 0 (hex 7 0x030003006f6c64) ∷ piece 480 (codes "tux") ∷ [])) ∷ (file 512 (piece 0 (hex 6 0x01800a000501) ∷ [])) ∷ []) × (plan_boot_sector (planned (disks_of disk_tracks) machine_tracks volume_tracks conf_tracks_33 1401143055) machine_tracks (on 0 (2039 ∷ 2337 ∷ 1588 ∷ 2192 ∷ 2699 ∷ 1115 ∷ 1221 ∷ 1706 ∷ 2354 ∷ 2204 ∷ 1145 ∷ 2125 ∷ 1846 ∷ 2189 ∷ [])) (disks_of disk_tracks 0 96) ≡ file 512 (piece 0 (hex 19 0xeb7e4c494c4f01000fbf83530000feffffff03) ∷ piece 24 (hex 15 0x0180010018070700018001000c0a04) ∷ piece 48 (hex 23 0x0180010002090100018001001506010001800100110804) ∷ piece 96 (hex 1 0x02) ∷ piece 128 (hex 122 0x8182838485868788898a8b8c8d8e8f909192939495969798999a9b9c9d9e9fa0a1a2a3a4a5a6a7a8a9aaabacadaeafb0b1b2b3b4b5b6b7b8b9babbbcbdbebfc0c1c2c3c4c5c6c7c8c9cacbcccdcecfd0d1d2d3d4d5d6d7d8d9dadbdcdddedfe0e1e2e3e4e5e6e7e8e9eaebecedeeeff0f1f2f3f4f5f6f7f8f9fa ++ replicate 190 67) ∷ piece 510 (hex 2 0x55aa) ∷ [])) × (map_size (planned (disks_of disk_tracks) machine_tracks volume_tracks conf_tracks_33 1401143055) machine_tracks ≡ 14)
unfolding number16 number32 is_zero has_ranges has_address is_slot is_one_slot chs_of address_of slot_of some_slot slot_at slot_bytes to_chs to_lba sector_at sectors_of place_at slot_make could_be_one named_device entry_at entries_of table_entries is_link is_plain link_of logical_of listed linked_sector chain_entries chain_tables partitions_of numbered_span span_of disk_name last_partition partition_name device_name devices_of named_devices device_at disk_number device_number kind_of super_of super_checks super_in super_at with_counts super_bytes v1_inode v2_inode inode_of inode_at v1_inode_bytes v2_inode_bytes inode_bytes kept_inode inode_place bit with_bit parts_of volume_at number_in follow pointer_by inside follow_at zone_at block_at content_at entry_of entries_in minixentries_entry_at find_entry entries_at is_dots components child find_path file_block file_at zone_number block content entry first_named lookup reached thing names names_in IsSound child_path path_of link_at section file_content section_bytes is_bootable has_signature has_options has_names has_slots has_no_message has_whole_message has_message has_zeros is_whole timeout_of table_slots boot_of boot_at field_bytes merged_sector is_set entry_name is_printable is_name has_flags has_video has_length has_main has_initrd has_extra is_entry descriptor_of entry_bytes same_name repeats breaks table_at descriptor_bytes options_at extra_at options_bytes extra_bytes is_line line_of line_at line_bytes is_same_line names_of_section names_of_config started menu_decision menu_boot file_of middle_text target_of menu_entries menu_of meant slot_to slots_for chain_for file_slots file_sectors section_sectors_at flags_of descriptor_for plan_entries sectors_of_table sectors_after plan_sectors map_size plan_names plan_boot plan_boot_sector devices_in inode_places mapped_inode file_inode mapped_section code_in planned
plan_by_cylinder_compact_delay_65534_2_images_another_system_an_initrd_a_password_a_fallback_append_vga_root = (refl, refl, refl)

-- lba32, compact, a message, a prompt, an image, another system, an initrd, an alias, a password, a fallback, append, root
pub plan_lba32_compact_a_message_a_prompt_an_image_another_system_an_initrd_an_alias_a_password_a_fallback_append_root : (plan_sectors (planned (disks_of disk_tracks) machine_tracks volume_tracks conf_tracks_34 1889081894) machine_tracks (on 0 (436 ∷ 437 ∷ 440 ∷ 441 ∷ 448 ∷ 449 ∷ 450 ∷ 451 ∷ 452 ∷ 453 ∷ 454 ∷ 455 ∷ 456 ∷ [])) ≡ (file 512 (piece 0 (codes "LINE") ∷ [])) ∷ (file 512 (piece 0 (codes "dos") ∷ piece 16 (hex 1 0x11) ∷ piece 21 (hex 1 0x02) ∷ piece 28 (hex 14 0x03800100c201000003800100c401) ∷ piece 52 (hex 13 0x0100000003800100c301000032) ∷ piece 80 (hex 1 0x11) ∷ piece 85 (hex 1 0x02) ∷ piece 92 (hex 14 0x03800100c201000003800100c401) ∷ piece 116 (hex 15 0x0100000003800100c30100006f6c64) ∷ piece 144 (hex 46 0x42000000050400000a00000003800100c501000003800100c701000003800100c80100000100010003800100c601) ∷ [])) ∷ (file 512 []) ∷ (file 512 []) ∷ (file 512 []) ∷ (file 512 (piece 0 (hex 6 0x038001000001) ∷ [])) ∷ (file 512 []) ∷ (file 512 (piece 0 (hex 7 0x03000000646f73) ∷ [])) ∷ (file 512 (piece 0 (hex 5 0x0381010011) ∷ [])) ∷ (file 512 (piece 0 (hex 1 0x16) ∷ piece 8 (codes " ro root=d96a quiet  x") ∷ [])) ∷ (file 512 (piece 2 (hex 1 0x03) ∷ piece 480 (codes "tux") ∷ [])) ∷ (file 512 (piece 0 (hex 5 0x0380030074) ∷ [])) ∷ (file 512 (piece 0 (hex 6 0x038001000001) ∷ [])) ∷ []) × (plan_boot_sector (planned (disks_of disk_tracks) machine_tracks volume_tracks conf_tracks_34 1889081894) machine_tracks (on 0 (436 ∷ 437 ∷ 440 ∷ 441 ∷ 448 ∷ 449 ∷ 450 ∷ 451 ∷ 452 ∷ 453 ∷ 454 ∷ 455 ∷ 456 ∷ [])) (disks_of disk_tracks 0 96) ≡ file 512 (piece 0 (hex 70 0xeb7e4c494c4f0100261a997001000000ffff03000a00010003800100b401000003800100c001000003800100c101000003800100b501000003800100b801000003800100b901) ∷ piece 128 (hex 122 0x8182838485868788898a8b8c8d8e8f909192939495969798999a9b9c9d9e9fa0a1a2a3a4a5a6a7a8a9aaabacadaeafb0b1b2b3b4b5b6b7b8b9babbbcbdbebfc0c1c2c3c4c5c6c7c8c9cacbcccdcecfd0d1d2d3d4d5d6d7d8d9dadbdcdddedfe0e1e2e3e4e5e6e7e8e9eaebecedeeeff0f1f2f3f4f5f6f7f8f9fa ++ replicate 190 67) ∷ piece 510 (hex 2 0x55aa) ∷ [])) × (map_size (planned (disks_of disk_tracks) machine_tracks volume_tracks conf_tracks_34 1889081894) machine_tracks ≡ 13)
unfolding number16 number32 is_zero has_ranges has_address is_slot is_one_slot chs_of address_of slot_of some_slot slot_at slot_bytes to_chs to_lba sector_at sectors_of place_at slot_make could_be_one named_device entry_at entries_of table_entries is_link is_plain link_of logical_of listed linked_sector chain_entries chain_tables partitions_of numbered_span span_of disk_name last_partition partition_name device_name devices_of named_devices device_at disk_number device_number kind_of super_of super_checks super_in super_at with_counts super_bytes v1_inode v2_inode inode_of inode_at v1_inode_bytes v2_inode_bytes inode_bytes kept_inode inode_place bit with_bit parts_of volume_at number_in follow pointer_by inside follow_at zone_at block_at content_at entry_of entries_in minixentries_entry_at find_entry entries_at is_dots components child find_path file_block file_at zone_number block content entry first_named lookup reached thing names names_in IsSound child_path path_of link_at section file_content section_bytes is_bootable has_signature has_options has_names has_slots has_no_message has_whole_message has_message has_zeros is_whole timeout_of table_slots boot_of boot_at field_bytes merged_sector is_set entry_name is_printable is_name has_flags has_video has_length has_main has_initrd has_extra is_entry descriptor_of entry_bytes same_name repeats breaks table_at descriptor_bytes options_at extra_at options_bytes extra_bytes is_line line_of line_at line_bytes is_same_line names_of_section names_of_config started menu_decision menu_boot file_of middle_text target_of menu_entries menu_of meant slot_to slots_for chain_for file_slots file_sectors section_sectors_at flags_of descriptor_for plan_entries sectors_of_table sectors_after plan_sectors map_size plan_names plan_boot plan_boot_sector devices_in inode_places mapped_inode file_inode mapped_section code_in planned
plan_lba32_compact_a_message_a_prompt_an_image_another_system_an_initrd_an_alias_a_password_a_fallback_append_root = (refl, refl, refl)

-- by cylinder, compact, a prompt, timeout 65534, an image, an initrd, a fallback, literal, vga, root
pub plan_by_cylinder_compact_a_prompt_timeout_65534_an_image_an_initrd_a_fallback_literal_vga_root : (plan_sectors (planned (disks_of disk_tracks) machine_tracks volume_tracks conf_tracks_35 1538671622) machine_tracks (on 0 (1619 ∷ 720 ∷ 2165 ∷ 1178 ∷ 1888 ∷ 2881 ∷ 2456 ∷ 667 ∷ 1926 ∷ [])) ≡ (file 512 (piece 0 (codes "LINE") ∷ [])) ∷ (file 512 (piece 0 (codes "b") ∷ piece 16 (hex 47 0x7000fdff400600000a00000001800100020b0200018001001c02040001800100070704000100010001800100190904) ∷ [])) ∷ (file 512 []) ∷ (file 512 []) ∷ (file 512 []) ∷ (file 512 (piece 0 (codes "\n") ∷ piece 8 (codes " only this") ∷ [])) ∷ (file 512 (piece 0 (hex 7 0x03000000622073) ∷ [])) ∷ (file 512 (piece 0 (hex 6 0x018004000f01) ∷ [])) ∷ (file 512 (piece 0 (hex 6 0x018001000101) ∷ [])) ∷ []) × (plan_boot_sector (planned (disks_of disk_tracks) machine_tracks volume_tracks conf_tracks_35 1538671622) machine_tracks (on 0 (1619 ∷ 720 ∷ 2165 ∷ 1178 ∷ 1888 ∷ 2881 ∷ 2456 ∷ 667 ∷ 1926 ∷ [])) (disks_of disk_tracks 0 32) ≡ file 512 (piece 0 (hex 19 0xeb7e4c494c4f01000644b65b01000000feff01) ∷ piece 24 (hex 15 0x018001001406020001800100010703) ∷ piece 48 (hex 23 0x01800100110206000180010016080300018001001b0404) ∷ piece 128 (hex 122 0x8182838485868788898a8b8c8d8e8f909192939495969798999a9b9c9d9e9fa0a1a2a3a4a5a6a7a8a9aaabacadaeafb0b1b2b3b4b5b6b7b8b9babbbcbdbebfc0c1c2c3c4c5c6c7c8c9cacbcccdcecfd0d1d2d3d4d5d6d7d8d9dadbdcdddedfe0e1e2e3e4e5e6e7e8e9eaebecedeeeff0f1f2f3f4f5f6f7f8f9fa ++ replicate 190 67) ∷ piece 510 (hex 2 0x55aa) ∷ [])) × (map_size (planned (disks_of disk_tracks) machine_tracks volume_tracks conf_tracks_35 1538671622) machine_tracks ≡ 9)
unfolding number16 number32 is_zero has_ranges has_address is_slot is_one_slot chs_of address_of slot_of some_slot slot_at slot_bytes to_chs to_lba sector_at sectors_of place_at slot_make could_be_one named_device entry_at entries_of table_entries is_link is_plain link_of logical_of listed linked_sector chain_entries chain_tables partitions_of numbered_span span_of disk_name last_partition partition_name device_name devices_of named_devices device_at disk_number device_number kind_of super_of super_checks super_in super_at with_counts super_bytes v1_inode v2_inode inode_of inode_at v1_inode_bytes v2_inode_bytes inode_bytes kept_inode inode_place bit with_bit parts_of volume_at number_in follow pointer_by inside follow_at zone_at block_at content_at entry_of entries_in minixentries_entry_at find_entry entries_at is_dots components child find_path file_block file_at zone_number block content entry first_named lookup reached thing names names_in IsSound child_path path_of link_at section file_content section_bytes is_bootable has_signature has_options has_names has_slots has_no_message has_whole_message has_message has_zeros is_whole timeout_of table_slots boot_of boot_at field_bytes merged_sector is_set entry_name is_printable is_name has_flags has_video has_length has_main has_initrd has_extra is_entry descriptor_of entry_bytes same_name repeats breaks table_at descriptor_bytes options_at extra_at options_bytes extra_bytes is_line line_of line_at line_bytes is_same_line names_of_section names_of_config started menu_decision menu_boot file_of middle_text target_of menu_entries menu_of meant slot_to slots_for chain_for file_slots file_sectors section_sectors_at flags_of descriptor_for plan_entries sectors_of_table sectors_after plan_sectors map_size plan_names plan_boot plan_boot_sector devices_in inode_places mapped_inode file_inode mapped_section code_in planned
plan_by_cylinder_compact_a_prompt_timeout_65534_an_image_an_initrd_a_fallback_literal_vga_root = (refl, refl, refl)

-- linear, compact, a message, another system, an alias, a lock
pub plan_linear_compact_a_message_another_system_an_alias_a_lock : (plan_sectors (planned (disks_of disk_tracks) machine_tracks volume_tracks conf_tracks_36 1444126007) machine_tracks (on 0 (436 ∷ 437 ∷ 440 ∷ 441 ∷ 448 ∷ 449 ∷ 450 ∷ 451 ∷ [])) ≡ (file 512 (piece 0 (codes "LINE") ∷ [])) ∷ (file 512 (piece 0 (codes "safe") ∷ piece 16 (hex 1 0x09) ∷ piece 21 (hex 1 0x02) ∷ piece 28 (hex 14 0x02800100c201000002800100c301) ∷ piece 52 (hex 1 0x01) ∷ piece 64 (codes "2") ∷ piece 80 (hex 1 0x09) ∷ piece 85 (hex 1 0x02) ∷ piece 92 (hex 14 0x02800100c201000002800100c301) ∷ piece 116 (hex 1 0x01) ∷ [])) ∷ (file 512 []) ∷ (file 512 []) ∷ (file 512 []) ∷ (file 512 (piece 0 (hex 6 0x028002000201) ∷ [])) ∷ (file 512 []) ∷ (file 512 (piece 0 (hex 5 0x0280010020) ∷ [])) ∷ []) × (plan_boot_sector (planned (disks_of disk_tracks) machine_tracks volume_tracks conf_tracks_36 1444126007) machine_tracks (on 0 (436 ∷ 437 ∷ 440 ∷ 441 ∷ 448 ∷ 449 ∷ 450 ∷ 451 ∷ [])) (disks_of disk_tracks 0 0) ≡ file 512 (piece 0 (hex 12 0xeb7e4c494c4f0100379d1356) ∷ piece 16 (hex 54 0xffff02000102010002800100b401000002800100c001000002800100c101000002800100b501000002800100b801000002800100b901) ∷ piece 128 (hex 122 0x8182838485868788898a8b8c8d8e8f909192939495969798999a9b9c9d9e9fa0a1a2a3a4a5a6a7a8a9aaabacadaeafb0b1b2b3b4b5b6b7b8b9babbbcbdbebfc0c1c2c3c4c5c6c7c8c9cacbcccdcecfd0d1d2d3d4d5d6d7d8d9dadbdcdddedfe0e1e2e3e4e5e6e7e8e9eaebecedeeeff0f1f2f3f4f5f6f7f8f9fa ++ replicate 190 67) ∷ piece 450 (hex 9 0x830000002000000028) ∷ piece 466 (hex 10 0x8100000060000000f00a) ∷ piece 510 (hex 2 0x55aa) ∷ [])) × (map_size (planned (disks_of disk_tracks) machine_tracks volume_tracks conf_tracks_36 1444126007) machine_tracks ≡ 8)
unfolding number16 number32 is_zero has_ranges has_address is_slot is_one_slot chs_of address_of slot_of some_slot slot_at slot_bytes to_chs to_lba sector_at sectors_of place_at slot_make could_be_one named_device entry_at entries_of table_entries is_link is_plain link_of logical_of listed linked_sector chain_entries chain_tables partitions_of numbered_span span_of disk_name last_partition partition_name device_name devices_of named_devices device_at disk_number device_number kind_of super_of super_checks super_in super_at with_counts super_bytes v1_inode v2_inode inode_of inode_at v1_inode_bytes v2_inode_bytes inode_bytes kept_inode inode_place bit with_bit parts_of volume_at number_in follow pointer_by inside follow_at zone_at block_at content_at entry_of entries_in minixentries_entry_at find_entry entries_at is_dots components child find_path file_block file_at zone_number block content entry first_named lookup reached thing names names_in IsSound child_path path_of link_at section file_content section_bytes is_bootable has_signature has_options has_names has_slots has_no_message has_whole_message has_message has_zeros is_whole timeout_of table_slots boot_of boot_at field_bytes merged_sector is_set entry_name is_printable is_name has_flags has_video has_length has_main has_initrd has_extra is_entry descriptor_of entry_bytes same_name repeats breaks table_at descriptor_bytes options_at extra_at options_bytes extra_bytes is_line line_of line_at line_bytes is_same_line names_of_section names_of_config started menu_decision menu_boot file_of middle_text target_of menu_entries menu_of meant slot_to slots_for chain_for file_slots file_sectors section_sectors_at flags_of descriptor_for plan_entries sectors_of_table sectors_after plan_sectors map_size plan_names plan_boot plan_boot_sector devices_in inode_places mapped_inode file_inode mapped_section code_in planned
plan_linear_compact_a_message_another_system_an_alias_a_lock = (refl, refl, refl)

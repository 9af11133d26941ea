-- Cases of the model, written by tools/plan_cases.py: the sectors of planned maps, and their boot sectors.
use Rattle.std.proofs.Common.{◌≡◌, ◌∷◌, [], codes, replicate, refl}
use Rattle.lilo_model.specs.BootSector.{is_bootable, has_signature, has_options, has_names, has_slots, has_no_message, has_whole_message, has_message, has_zeros, is_whole, timeout_of, table_slots, boot_of, boot_at, field_bytes, merged_sector}
use Rattle.lilo_model.specs.Bytes.{number16, number32, is_zero}
use Rattle.lilo_model.specs.ConfLawful.{names_of_section, names_of_config}
use Rattle.lilo_model.specs.Devices.{disk_name, last_partition, partition_name, device_name, devices_of, named_devices, device_at, disk_number, device_number}
use Rattle.lilo_model.specs.LineSector.{is_line, line_of, line_at, line_bytes, is_same_line}
use Rattle.lilo_model.specs.Meant.{started, menu_decision, menu_boot, file_of, middle_text, target_of, menu_entries, menu_of, meant}
use Rattle.lilo_model.specs.MinixEntries.{entry_of, entries_in, entry_at as minixentries_entry_at, find_entry, entries_at, is_dots}
use Rattle.lilo_model.specs.MinixFind.{components, child, find_path, file_block, file_at}
use Rattle.lilo_model.specs.MinixFindNames.{child_path, path_of}
use Rattle.lilo_model.specs.MinixLayout.{kind_of, super_of, super_checks, super_in, super_at, with_counts, super_bytes, v1_inode, v2_inode, inode_of, inode_at, v1_inode_bytes, v2_inode_bytes, inode_bytes, kept_inode, inode_place}
use Rattle.lilo_model.specs.MinixNames.{zone_number, block, content, entry, first_named, lookup, reached, thing, names, names_in, IsSound}
use Rattle.lilo_model.specs.MinixParts.{bit, with_bit, parts_of, volume_at, number_in, follow, pointer_by, inside, follow_at, zone_at, block_at, content_at}
use Rattle.lilo_model.specs.Options.{options_at, extra_at, options_bytes, extra_bytes}
use Rattle.lilo_model.specs.Partitions.{named_device, entry_at, entries_of, table_entries, is_link, is_plain, link_of, logical_of, listed, linked_sector, chain_entries, chain_tables, partitions_of, numbered_span, span_of}
use Rattle.lilo_model.specs.Plan.{slot_to, slots_for, chain_for, file_slots, file_sectors, section_sectors_at, flags_of, descriptor_for, plan_entries, sectors_of_table, sectors_after, plan_sectors, map_size, plan_names, plan_boot, plan_boot_sector}
use Rattle.lilo_model.specs.Planned.{devices_in, inode_places, mapped_inode, file_inode, mapped_section, code_in, planned}
use Rattle.lilo_model.specs.Section.{link_at, section, file_content, section_bytes}
use Rattle.lilo_model.specs.Slots.{has_ranges, has_address, is_slot, is_one_slot, chs_of, address_of, slot_of, some_slot, slot_at, slot_bytes, to_chs, to_lba, sector_at, sectors_of, place_at, slot_make, could_be_one}
use Rattle.lilo_model.specs.Table.{is_set, entry_name, is_printable, is_name, has_flags, has_video, has_length, has_main, has_initrd, has_extra, is_entry, descriptor_of, entry_bytes, same_name, repeats, breaks, table_at, descriptor_bytes}
use Rattle.model_cases.specs.Sparse.{hex, piece, file, disks_of, on}
use Rattle.model_cases.specs.PlanConfs.{conf_alias_fallback, conf_empty_message, conf_literal, conf_lock, conf_low, conf_optional, conf_password, conf_row8}
use Rattle.model_cases.specs.PlanDisks.{disk_alias_fallback, disk_empty_message, disk_literal, disk_lock, disk_low, disk_optional, disk_password, disk_row8}
use Rattle.model_cases.specs.PlanVolumes.{machine_alias_fallback, machine_empty_message, machine_literal, machine_lock, machine_low, machine_optional, machine_password, machine_row8, volume_alias_fallback, volume_empty_message, volume_literal, volume_lock, volume_low, volume_optional, volume_password, volume_row8}

-- a restricted password
pub plan_a_restricted_password : (plan_sectors (planned (disks_of disk_password) machine_password volume_password conf_password 305419896) machine_password (on 0 (94 ∷ 95 ∷ 96 ∷ 97 ∷ 98 ∷ 99 ∷ 100 ∷ 101 ∷ 102 ∷ [])) ≡ (file 512 (piece 0 (codes "LINE") ∷ [])) ∷ (file 512 (piece 0 (codes "linux") ∷ piece 16 (hex 45 0x4600000005040000bc020000038001006300000003800100650000000380010066000000010001000380010064) ∷ [])) ∷ (file 512 []) ∷ (file 512 []) ∷ (file 512 []) ∷ (file 512 (piece 0 (hex 1 0x0c) ∷ piece 8 (codes " ro root=301") ∷ [])) ∷ (file 512 (piece 2 (hex 1 0x03) ∷ piece 480 (codes "tux") ∷ [])) ∷ (file 512 (piece 0 (hex 21 0x038001005200000003800100530000000380010054) ∷ [])) ∷ (file 512 (piece 0 (hex 13 0x03800100560000000380010057) ∷ [])) ∷ []) × (plan_boot_sector (planned (disks_of disk_password) machine_password volume_password conf_password 305419896) machine_password (on 0 (94 ∷ 95 ∷ 96 ∷ 97 ∷ 98 ∷ 99 ∷ 100 ∷ 101 ∷ 102 ∷ [])) (disks_of disk_password 0 0) ≡ file 512 (piece 0 (hex 19 0xeb7e4c494c4f01007856341201000000320001) ∷ piece 24 (hex 13 0x038001005e0000000380010062) ∷ piece 48 (hex 21 0x038001005f00000003800100600000000380010061) ∷ piece 128 (replicate 312 144) ∷ piece 450 (hex 10 0x8100000040000000c00f) ∷ piece 510 (hex 2 0x55aa) ∷ [])) × (map_size (planned (disks_of disk_password) machine_password volume_password conf_password 305419896) machine_password ≡ 9)
unfolding number16 number32 is_zero has_ranges has_address is_slot is_one_slot chs_of address_of slot_of some_slot slot_at slot_bytes to_chs to_lba sector_at sectors_of place_at slot_make could_be_one named_device entry_at entries_of table_entries is_link is_plain link_of logical_of listed linked_sector chain_entries chain_tables partitions_of numbered_span span_of disk_name last_partition partition_name device_name devices_of named_devices device_at disk_number device_number kind_of super_of super_checks super_in super_at with_counts super_bytes v1_inode v2_inode inode_of inode_at v1_inode_bytes v2_inode_bytes inode_bytes kept_inode inode_place bit with_bit parts_of volume_at number_in follow pointer_by inside follow_at zone_at block_at content_at entry_of entries_in minixentries_entry_at find_entry entries_at is_dots components child find_path file_block file_at zone_number block content entry first_named lookup reached thing names names_in IsSound child_path path_of link_at section file_content section_bytes is_bootable has_signature has_options has_names has_slots has_no_message has_whole_message has_message has_zeros is_whole timeout_of table_slots boot_of boot_at field_bytes merged_sector is_set entry_name is_printable is_name has_flags has_video has_length has_main has_initrd has_extra is_entry descriptor_of entry_bytes same_name repeats breaks table_at descriptor_bytes options_at extra_at options_bytes extra_bytes is_line line_of line_at line_bytes is_same_line names_of_section names_of_config started menu_decision menu_boot file_of middle_text target_of menu_entries menu_of meant slot_to slots_for chain_for file_slots file_sectors section_sectors_at flags_of descriptor_for plan_entries sectors_of_table sectors_after plan_sectors map_size plan_names plan_boot plan_boot_sector devices_in inode_places mapped_inode file_inode mapped_section code_in planned
plan_a_restricted_password = (refl, refl, refl)

-- an alias, a fallback, texts and a video mode
pub plan_an_alias_a_fallback_texts_and_a_video_mode : (plan_sectors (planned (disks_of disk_alias_fallback) machine_alias_fallback volume_alias_fallback conf_alias_fallback 305419896) machine_alias_fallback (on 0 (94 ∷ 95 ∷ 96 ∷ 97 ∷ 98 ∷ 99 ∷ 100 ∷ 101 ∷ 102 ∷ [])) ≡ (file 512 (piece 0 (codes "LINE") ∷ [])) ∷ (file 512 (piece 0 (codes "linux") ∷ piece 16 (hex 49 0x7000fdff05040000bc0200000380010063000000038001006500000003800100660000000100010003800100640000006c) ∷ piece 80 (hex 45 0x7000fdff05040000bc020000038001006300000003800100650000000380010066000000010001000380010064) ∷ [])) ∷ (file 512 []) ∷ (file 512 []) ∷ (file 512 []) ∷ (file 512 (piece 0 (hex 1 0x14) ∷ piece 8 (codes " ro root=301 quiet x") ∷ [])) ∷ (file 512 (piece 0 (hex 9 0x050000006c696e7578) ∷ [])) ∷ (file 512 (piece 0 (hex 21 0x038001005200000003800100530000000380010054) ∷ [])) ∷ (file 512 (piece 0 (hex 13 0x03800100560000000380010057) ∷ [])) ∷ []) × (plan_boot_sector (planned (disks_of disk_alias_fallback) machine_alias_fallback volume_alias_fallback conf_alias_fallback 305419896) machine_alias_fallback (on 0 (94 ∷ 95 ∷ 96 ∷ 97 ∷ 98 ∷ 99 ∷ 100 ∷ 101 ∷ 102 ∷ [])) (disks_of disk_alias_fallback 0 0) ≡ file 512 (piece 0 (hex 19 0xeb7e4c494c4f01007856341201000000320002) ∷ piece 24 (hex 13 0x038001005e0000000380010062) ∷ piece 48 (hex 21 0x038001005f00000003800100600000000380010061) ∷ piece 128 (replicate 312 144) ∷ piece 450 (hex 10 0x8100000040000000c00f) ∷ piece 510 (hex 2 0x55aa) ∷ [])) × (map_size (planned (disks_of disk_alias_fallback) machine_alias_fallback volume_alias_fallback conf_alias_fallback 305419896) machine_alias_fallback ≡ 9)
unfolding number16 number32 is_zero has_ranges has_address is_slot is_one_slot chs_of address_of slot_of some_slot slot_at slot_bytes to_chs to_lba sector_at sectors_of place_at slot_make could_be_one named_device entry_at entries_of table_entries is_link is_plain link_of logical_of listed linked_sector chain_entries chain_tables partitions_of numbered_span span_of disk_name last_partition partition_name device_name devices_of named_devices device_at disk_number device_number kind_of super_of super_checks super_in super_at with_counts super_bytes v1_inode v2_inode inode_of inode_at v1_inode_bytes v2_inode_bytes inode_bytes kept_inode inode_place bit with_bit parts_of volume_at number_in follow pointer_by inside follow_at zone_at block_at content_at entry_of entries_in minixentries_entry_at find_entry entries_at is_dots components child find_path file_block file_at zone_number block content entry first_named lookup reached thing names names_in IsSound child_path path_of link_at section file_content section_bytes is_bootable has_signature has_options has_names has_slots has_no_message has_whole_message has_message has_zeros is_whole timeout_of table_slots boot_of boot_at field_bytes merged_sector is_set entry_name is_printable is_name has_flags has_video has_length has_main has_initrd has_extra is_entry descriptor_of entry_bytes same_name repeats breaks table_at descriptor_bytes options_at extra_at options_bytes extra_bytes is_line line_of line_at line_bytes is_same_line names_of_section names_of_config started menu_decision menu_boot file_of middle_text target_of menu_entries menu_of meant slot_to slots_for chain_for file_slots file_sectors section_sectors_at flags_of descriptor_for plan_entries sectors_of_table sectors_after plan_sectors map_size plan_names plan_boot plan_boot_sector devices_in inode_places mapped_inode file_inode mapped_section code_in planned
plan_an_alias_a_fallback_texts_and_a_video_mode = (refl, refl, refl)

-- a lock
pub plan_a_lock : (plan_sectors (planned (disks_of disk_lock) machine_lock volume_lock conf_lock 305419896) machine_lock (on 0 (94 ∷ 95 ∷ 96 ∷ 97 ∷ 98 ∷ 99 ∷ 100 ∷ 101 ∷ [])) ≡ (file 512 (piece 0 (codes "LINE") ∷ [])) ∷ (file 512 (piece 0 (codes "linux") ∷ piece 16 (hex 39 0x4800000005040000bc020000038001006300000003800100640000000380010065000000010001) ∷ [])) ∷ (file 512 []) ∷ (file 512 []) ∷ (file 512 []) ∷ (file 512 (piece 0 (hex 1 0x0c) ∷ piece 8 (codes " ro root=301") ∷ [])) ∷ (file 512 (piece 0 (hex 21 0x038001005200000003800100530000000380010054) ∷ [])) ∷ (file 512 (piece 0 (hex 13 0x03800100560000000380010057) ∷ [])) ∷ []) × (plan_boot_sector (planned (disks_of disk_lock) machine_lock volume_lock conf_lock 305419896) machine_lock (on 0 (94 ∷ 95 ∷ 96 ∷ 97 ∷ 98 ∷ 99 ∷ 100 ∷ 101 ∷ [])) (disks_of disk_lock 0 0) ≡ file 512 (piece 0 (hex 19 0xeb7e4c494c4f01007856341201000000320001) ∷ piece 24 (hex 13 0x038001005e0000000380010062) ∷ piece 48 (hex 21 0x038001005f00000003800100600000000380010061) ∷ piece 128 (replicate 312 144) ∷ piece 450 (hex 10 0x8100000040000000c00f) ∷ piece 510 (hex 2 0x55aa) ∷ [])) × (map_size (planned (disks_of disk_lock) machine_lock volume_lock conf_lock 305419896) machine_lock ≡ 8)
unfolding number16 number32 is_zero has_ranges has_address is_slot is_one_slot chs_of address_of slot_of some_slot slot_at slot_bytes to_chs to_lba sector_at sectors_of place_at slot_make could_be_one named_device entry_at entries_of table_entries is_link is_plain link_of logical_of listed linked_sector chain_entries chain_tables partitions_of numbered_span span_of disk_name last_partition partition_name device_name devices_of named_devices device_at disk_number device_number kind_of super_of super_checks super_in super_at with_counts super_bytes v1_inode v2_inode inode_of inode_at v1_inode_bytes v2_inode_bytes inode_bytes kept_inode inode_place bit with_bit parts_of volume_at number_in follow pointer_by inside follow_at zone_at block_at content_at entry_of entries_in minixentries_entry_at find_entry entries_at is_dots components child find_path file_block file_at zone_number block content entry first_named lookup reached thing names names_in IsSound child_path path_of link_at section file_content section_bytes is_bootable has_signature has_options has_names has_slots has_no_message has_whole_message has_message has_zeros is_whole timeout_of table_slots boot_of boot_at field_bytes merged_sector is_set entry_name is_printable is_name has_flags has_video has_length has_main has_initrd has_extra is_entry descriptor_of entry_bytes same_name repeats breaks table_at descriptor_bytes options_at extra_at options_bytes extra_bytes is_line line_of line_at line_bytes is_same_line names_of_section names_of_config started menu_decision menu_boot file_of middle_text target_of menu_entries menu_of meant slot_to slots_for chain_for file_slots file_sectors section_sectors_at flags_of descriptor_for plan_entries sectors_of_table sectors_after plan_sectors map_size plan_names plan_boot plan_boot_sector devices_in inode_places mapped_inode file_inode mapped_section code_in planned
plan_a_lock = (refl, refl, refl)

-- a literal text and a message
pub plan_a_literal_text_and_a_message : (plan_sectors (planned (disks_of disk_literal) machine_literal volume_literal conf_literal 305419896) machine_literal (on 0 (96 ∷ 97 ∷ 98 ∷ 99 ∷ 100 ∷ 101 ∷ 102 ∷ 103 ∷ 104 ∷ [])) ≡ (file 512 (piece 0 (codes "LINE") ∷ [])) ∷ (file 512 (piece 0 (codes "linux") ∷ piece 16 (hex 39 0x4000000005040000bc020000038001006600000003800100670000000380010068000000010001) ∷ [])) ∷ (file 512 []) ∷ (file 512 []) ∷ (file 512 []) ∷ (file 512 (piece 0 (hex 5 0x038001005a) ∷ [])) ∷ (file 512 (piece 0 (hex 1 0x07) ∷ piece 8 (codes " single") ∷ [])) ∷ (file 512 (piece 0 (hex 21 0x038001005200000003800100530000000380010054) ∷ [])) ∷ (file 512 (piece 0 (hex 13 0x03800100560000000380010057) ∷ [])) ∷ []) × (plan_boot_sector (planned (disks_of disk_literal) machine_literal volume_literal conf_literal 305419896) machine_literal (on 0 (96 ∷ 97 ∷ 98 ∷ 99 ∷ 100 ∷ 101 ∷ 102 ∷ 103 ∷ 104 ∷ [])) (disks_of disk_literal 0 0) ≡ file 512 (piece 0 (hex 69 0xeb7e4c494c4f01007856341201000000320001000c000100038001006000000003800100640000000380010065000000038001006100000003800100620000000380010063) ∷ piece 128 (replicate 312 144) ∷ piece 450 (hex 10 0x8100000040000000c00f) ∷ piece 510 (hex 2 0x55aa) ∷ [])) × (map_size (planned (disks_of disk_literal) machine_literal volume_literal conf_literal 305419896) machine_literal ≡ 9)
unfolding number16 number32 is_zero has_ranges has_address is_slot is_one_slot chs_of address_of slot_of some_slot slot_at slot_bytes to_chs to_lba sector_at sectors_of place_at slot_make could_be_one named_device entry_at entries_of table_entries is_link is_plain link_of logical_of listed linked_sector chain_entries chain_tables partitions_of numbered_span span_of disk_name last_partition partition_name device_name devices_of named_devices device_at disk_number device_number kind_of super_of super_checks super_in super_at with_counts super_bytes v1_inode v2_inode inode_of inode_at v1_inode_bytes v2_inode_bytes inode_bytes kept_inode inode_place bit with_bit parts_of volume_at number_in follow pointer_by inside follow_at zone_at block_at content_at entry_of entries_in minixentries_entry_at find_entry entries_at is_dots components child find_path file_block file_at zone_number block content entry first_named lookup reached thing names names_in IsSound child_path path_of link_at section file_content section_bytes is_bootable has_signature has_options has_names has_slots has_no_message has_whole_message has_message has_zeros is_whole timeout_of table_slots boot_of boot_at field_bytes merged_sector is_set entry_name is_printable is_name has_flags has_video has_length has_main has_initrd has_extra is_entry descriptor_of entry_bytes same_name repeats breaks table_at descriptor_bytes options_at extra_at options_bytes extra_bytes is_line line_of line_at line_bytes is_same_line names_of_section names_of_config started menu_decision menu_boot file_of middle_text target_of menu_entries menu_of meant slot_to slots_for chain_for file_slots file_sectors section_sectors_at flags_of descriptor_for plan_entries sectors_of_table sectors_after plan_sectors map_size plan_names plan_boot plan_boot_sector devices_in inode_places mapped_inode file_inode mapped_section code_in planned
plan_a_literal_text_and_a_message = (refl, refl, refl)

-- an empty message
pub plan_an_empty_message : (plan_sectors (planned (disks_of disk_empty_message) machine_empty_message volume_empty_message conf_empty_message 305419896) machine_empty_message (on 0 (94 ∷ 95 ∷ 96 ∷ 97 ∷ 98 ∷ 99 ∷ 100 ∷ 101 ∷ [])) ≡ (file 512 (piece 0 (codes "LINE") ∷ [])) ∷ (file 512 (piece 0 (codes "linux") ∷ piece 16 (hex 39 0x4000000005040000bc020000038001006300000003800100640000000380010065000000010001) ∷ [])) ∷ (file 512 []) ∷ (file 512 []) ∷ (file 512 []) ∷ (file 512 (piece 0 (hex 1 0x0c) ∷ piece 8 (codes " ro root=301") ∷ [])) ∷ (file 512 (piece 0 (hex 21 0x038001005200000003800100530000000380010054) ∷ [])) ∷ (file 512 (piece 0 (hex 13 0x03800100560000000380010057) ∷ [])) ∷ []) × (plan_boot_sector (planned (disks_of disk_empty_message) machine_empty_message volume_empty_message conf_empty_message 305419896) machine_empty_message (on 0 (94 ∷ 95 ∷ 96 ∷ 97 ∷ 98 ∷ 99 ∷ 100 ∷ 101 ∷ [])) (disks_of disk_empty_message 0 0) ≡ file 512 (piece 0 (hex 19 0xeb7e4c494c4f01007856341201000000320001) ∷ piece 24 (hex 13 0x038001005e0000000380010062) ∷ piece 48 (hex 21 0x038001005f00000003800100600000000380010061) ∷ piece 128 (replicate 312 144) ∷ piece 450 (hex 10 0x8100000040000000c00f) ∷ piece 510 (hex 2 0x55aa) ∷ [])) × (map_size (planned (disks_of disk_empty_message) machine_empty_message volume_empty_message conf_empty_message 305419896) machine_empty_message ≡ 8)
unfolding number16 number32 is_zero has_ranges has_address is_slot is_one_slot chs_of address_of slot_of some_slot slot_at slot_bytes to_chs to_lba sector_at sectors_of place_at slot_make could_be_one named_device entry_at entries_of table_entries is_link is_plain link_of logical_of listed linked_sector chain_entries chain_tables partitions_of numbered_span span_of disk_name last_partition partition_name device_name devices_of named_devices device_at disk_number device_number kind_of super_of super_checks super_in super_at with_counts super_bytes v1_inode v2_inode inode_of inode_at v1_inode_bytes v2_inode_bytes inode_bytes kept_inode inode_place bit with_bit parts_of volume_at number_in follow pointer_by inside follow_at zone_at block_at content_at entry_of entries_in minixentries_entry_at find_entry entries_at is_dots components child find_path file_block file_at zone_number block content entry first_named lookup reached thing names names_in IsSound child_path path_of link_at section file_content section_bytes is_bootable has_signature has_options has_names has_slots has_no_message has_whole_message has_message has_zeros is_whole timeout_of table_slots boot_of boot_at field_bytes merged_sector is_set entry_name is_printable is_name has_flags has_video has_length has_main has_initrd has_extra is_entry descriptor_of entry_bytes same_name repeats breaks table_at descriptor_bytes options_at extra_at options_bytes extra_bytes is_line line_of line_at line_bytes is_same_line names_of_section names_of_config started menu_decision menu_boot file_of middle_text target_of menu_entries menu_of meant slot_to slots_for chain_for file_slots file_sectors section_sectors_at flags_of descriptor_for plan_entries sectors_of_table sectors_after plan_sectors map_size plan_names plan_boot plan_boot_sector devices_in inode_places mapped_inode file_inode mapped_section code_in planned
plan_an_empty_message = (refl, refl, refl)

-- a kernel before the protocol
pub plan_a_kernel_before_the_protocol : (plan_sectors (planned (disks_of disk_low) machine_low volume_low conf_low 305419896) machine_low (on 0 (92 ∷ 93 ∷ 94 ∷ 95 ∷ 96 ∷ 97 ∷ 98 ∷ [])) ≡ (file 512 (piece 0 (codes "LINE") ∷ [])) ∷ (file 512 (piece 0 (codes "linux") ∷ piece 20 (hex 2 0x0504) ∷ piece 28 (hex 13 0x03800100610000000380010062) ∷ piece 52 (hex 1 0x01) ∷ [])) ∷ (file 512 []) ∷ (file 512 []) ∷ (file 512 []) ∷ (file 512 (piece 0 (hex 1 0x0c) ∷ piece 8 (codes " ro root=301") ∷ [])) ∷ (file 512 (piece 0 (hex 21 0x038001005200000003800100530000000380010054) ∷ [])) ∷ []) × (plan_boot_sector (planned (disks_of disk_low) machine_low volume_low conf_low 305419896) machine_low (on 0 (92 ∷ 93 ∷ 94 ∷ 95 ∷ 96 ∷ 97 ∷ 98 ∷ [])) (disks_of disk_low 0 0) ≡ file 512 (piece 0 (hex 12 0xeb7e4c494c4f010078563412) ∷ piece 16 (hex 3 0xffff01) ∷ piece 24 (hex 13 0x038001005c0000000380010060) ∷ piece 48 (hex 21 0x038001005d000000038001005e000000038001005f) ∷ piece 128 (replicate 312 144) ∷ piece 450 (hex 10 0x8100000040000000c00f) ∷ piece 510 (hex 2 0x55aa) ∷ [])) × (map_size (planned (disks_of disk_low) machine_low volume_low conf_low 305419896) machine_low ≡ 7)
unfolding number16 number32 is_zero has_ranges has_address is_slot is_one_slot chs_of address_of slot_of some_slot slot_at slot_bytes to_chs to_lba sector_at sectors_of place_at slot_make could_be_one named_device entry_at entries_of table_entries is_link is_plain link_of logical_of listed linked_sector chain_entries chain_tables partitions_of numbered_span span_of disk_name last_partition partition_name device_name devices_of named_devices device_at disk_number device_number kind_of super_of super_checks super_in super_at with_counts super_bytes v1_inode v2_inode inode_of inode_at v1_inode_bytes v2_inode_bytes inode_bytes kept_inode inode_place bit with_bit parts_of volume_at number_in follow pointer_by inside follow_at zone_at block_at content_at entry_of entries_in minixentries_entry_at find_entry entries_at is_dots components child find_path file_block file_at zone_number block content entry first_named lookup reached thing names names_in IsSound child_path path_of link_at section file_content section_bytes is_bootable has_signature has_options has_names has_slots has_no_message has_whole_message has_message has_zeros is_whole timeout_of table_slots boot_of boot_at field_bytes merged_sector is_set entry_name is_printable is_name has_flags has_video has_length has_main has_initrd has_extra is_entry descriptor_of entry_bytes same_name repeats breaks table_at descriptor_bytes options_at extra_at options_bytes extra_bytes is_line line_of line_at line_bytes is_same_line names_of_section names_of_config started menu_decision menu_boot file_of middle_text target_of menu_entries menu_of meant slot_to slots_for chain_for file_slots file_sectors section_sectors_at flags_of descriptor_for plan_entries sectors_of_table sectors_after plan_sectors map_size plan_names plan_boot plan_boot_sector devices_in inode_places mapped_inode file_inode mapped_section code_in planned
plan_a_kernel_before_the_protocol = (refl, refl, refl)

-- no number of setup sectors
pub plan_no_number_of_setup_sectors : (plan_sectors (planned (disks_of disk_row8) machine_row8 volume_row8 conf_row8 305419896) machine_row8 (on 0 (92 ∷ 93 ∷ 94 ∷ 95 ∷ 96 ∷ 97 ∷ 98 ∷ [])) ≡ (file 512 (piece 0 (codes "LINE") ∷ [])) ∷ (file 512 (piece 0 (codes "linux") ∷ piece 20 (hex 2 0x050a) ∷ piece 28 (hex 13 0x03800100610000000380010062) ∷ piece 52 (hex 1 0x01) ∷ [])) ∷ (file 512 []) ∷ (file 512 []) ∷ (file 512 []) ∷ (file 512 (piece 0 (hex 1 0x0c) ∷ piece 8 (codes " ro root=301") ∷ [])) ∷ (file 512 (piece 0 (hex 45 0x038001005200000003800100530000000380010060000000038001006000000003800100540000000380010055) ∷ [])) ∷ []) × (plan_boot_sector (planned (disks_of disk_row8) machine_row8 volume_row8 conf_row8 305419896) machine_row8 (on 0 (92 ∷ 93 ∷ 94 ∷ 95 ∷ 96 ∷ 97 ∷ 98 ∷ [])) (disks_of disk_row8 0 0) ≡ file 512 (piece 0 (hex 12 0xeb7e4c494c4f010078563412) ∷ piece 16 (hex 3 0xffff01) ∷ piece 24 (hex 13 0x038001005c0000000380010060) ∷ piece 48 (hex 21 0x038001005d000000038001005e000000038001005f) ∷ piece 128 (replicate 312 144) ∷ piece 450 (hex 10 0x8100000040000000c00f) ∷ piece 510 (hex 2 0x55aa) ∷ [])) × (map_size (planned (disks_of disk_row8) machine_row8 volume_row8 conf_row8 305419896) machine_row8 ≡ 7)
unfolding number16 number32 is_zero has_ranges has_address is_slot is_one_slot chs_of address_of slot_of some_slot slot_at slot_bytes to_chs to_lba sector_at sectors_of place_at slot_make could_be_one named_device entry_at entries_of table_entries is_link is_plain link_of logical_of listed linked_sector chain_entries chain_tables partitions_of numbered_span span_of disk_name last_partition partition_name device_name devices_of named_devices device_at disk_number device_number kind_of super_of super_checks super_in super_at with_counts super_bytes v1_inode v2_inode inode_of inode_at v1_inode_bytes v2_inode_bytes inode_bytes kept_inode inode_place bit with_bit parts_of volume_at number_in follow pointer_by inside follow_at zone_at block_at content_at entry_of entries_in minixentries_entry_at find_entry entries_at is_dots components child find_path file_block file_at zone_number block content entry first_named lookup reached thing names names_in IsSound child_path path_of link_at section file_content section_bytes is_bootable has_signature has_options has_names has_slots has_no_message has_whole_message has_message has_zeros is_whole timeout_of table_slots boot_of boot_at field_bytes merged_sector is_set entry_name is_printable is_name has_flags has_video has_length has_main has_initrd has_extra is_entry descriptor_of entry_bytes same_name repeats breaks table_at descriptor_bytes options_at extra_at options_bytes extra_bytes is_line line_of line_at line_bytes is_same_line names_of_section names_of_config started menu_decision menu_boot file_of middle_text target_of menu_entries menu_of meant slot_to slots_for chain_for file_slots file_sectors section_sectors_at flags_of descriptor_for plan_entries sectors_of_table sectors_after plan_sectors map_size plan_names plan_boot plan_boot_sector devices_in inode_places mapped_inode file_inode mapped_section code_in planned
plan_no_number_of_setup_sectors = (refl, refl, refl)

-- optional sections
pub plan_optional_sections : (plan_sectors (planned (disks_of disk_optional) machine_optional volume_optional conf_optional 305419896) machine_optional (on 0 (98 ∷ 99 ∷ 100 ∷ 101 ∷ 102 ∷ 103 ∷ 104 ∷ 105 ∷ 106 ∷ 107 ∷ [])) ≡ (file 512 (piece 0 (codes "LINE") ∷ [])) ∷ (file 512 (piece 0 (codes "linux") ∷ piece 16 (hex 39 0x4000000005040000bc020000038001006700000003800100680000000380010069000000010001) ∷ piece 64 (codes "old") ∷ piece 84 (hex 2 0x4006) ∷ piece 92 (hex 13 0x038001006a000000038001006b) ∷ piece 116 (hex 1 0x01) ∷ [])) ∷ (file 512 []) ∷ (file 512 []) ∷ (file 512 []) ∷ (file 512 (piece 0 (hex 1 0x0c) ∷ piece 8 (codes " ro root=301") ∷ [])) ∷ (file 512 (piece 0 (hex 21 0x038001005200000003800100530000000380010054) ∷ [])) ∷ (file 512 (piece 0 (hex 13 0x03800100560000000380010057) ∷ [])) ∷ (file 512 []) ∷ (file 512 (piece 0 (hex 29 0x038001005a000000038001005b000000038001005c000000038001005d) ∷ [])) ∷ []) × (plan_boot_sector (planned (disks_of disk_optional) machine_optional volume_optional conf_optional 305419896) machine_optional (on 0 (98 ∷ 99 ∷ 100 ∷ 101 ∷ 102 ∷ 103 ∷ 104 ∷ 105 ∷ 106 ∷ 107 ∷ [])) (disks_of disk_optional 0 0) ≡ file 512 (piece 0 (hex 19 0xeb7e4c494c4f01007856341201000000320002) ∷ piece 24 (hex 13 0x03800100620000000380010066) ∷ piece 48 (hex 21 0x038001006300000003800100640000000380010065) ∷ piece 128 (replicate 312 144) ∷ piece 450 (hex 10 0x8100000040000000c00f) ∷ piece 510 (hex 2 0x55aa) ∷ [])) × (map_size (planned (disks_of disk_optional) machine_optional volume_optional conf_optional 305419896) machine_optional ≡ 10)
unfolding number16 number32 is_zero has_ranges has_address is_slot is_one_slot chs_of address_of slot_of some_slot slot_at slot_bytes to_chs to_lba sector_at sectors_of place_at slot_make could_be_one named_device entry_at entries_of table_entries is_link is_plain link_of logical_of listed linked_sector chain_entries chain_tables partitions_of numbered_span span_of disk_name last_partition partition_name device_name devices_of named_devices device_at disk_number device_number kind_of super_of super_checks super_in super_at with_counts super_bytes v1_inode v2_inode inode_of inode_at v1_inode_bytes v2_inode_bytes inode_bytes kept_inode inode_place bit with_bit parts_of volume_at number_in follow pointer_by inside follow_at zone_at block_at content_at entry_of entries_in minixentries_entry_at find_entry entries_at is_dots components child find_path file_block file_at zone_number block content entry first_named lookup reached thing names names_in IsSound child_path path_of link_at section file_content section_bytes is_bootable has_signature has_options has_names has_slots has_no_message has_whole_message has_message has_zeros is_whole timeout_of table_slots boot_of boot_at field_bytes merged_sector is_set entry_name is_printable is_name has_flags has_video has_length has_main has_initrd has_extra is_entry descriptor_of entry_bytes same_name repeats breaks table_at descriptor_bytes options_at extra_at options_bytes extra_bytes is_line line_of line_at line_bytes is_same_line names_of_section names_of_config started menu_decision menu_boot file_of middle_text target_of menu_entries menu_of meant slot_to slots_for chain_for file_slots file_sectors section_sectors_at flags_of descriptor_for plan_entries sectors_of_table sectors_after plan_sectors map_size plan_names plan_boot plan_boot_sector devices_in inode_places mapped_inode file_inode mapped_section code_in planned
plan_optional_sections = (refl, refl, refl)

-- Cases of the model, written by tools/plan_cases.py: the sectors of planned maps, and their boot sectors.
use Rattle.std.proofs.Common.{◌≡◌, ◌∷◌, [], codes, replicate, refl}
use Rattle.lilo_model.specs.BootSector.{is_bootable, has_signature, has_options, has_names, has_slots, has_no_message, has_whole_message, has_message, has_zeros, is_whole, timeout_of, table_slots, boot_of, boot_at, field_bytes, merged_sector}
use Rattle.lilo_model.specs.Bytes.{number16, number32, is_zero}
use Rattle.lilo_model.specs.ConfLawful.{names_of_section, names_of_config}
use Rattle.lilo_model.specs.Devices.{disk_name, last_partition, partition_name, device_name, devices_of, named_devices, device_at, disk_number, device_number}
use Rattle.lilo_model.specs.LineSector.{is_line, line_of, line_at, line_bytes, is_same_line}
use Rattle.lilo_model.specs.Meant.{started, menu_decision, menu_boot, file_of, middle_text, target_of, menu_entries, menu_of, meant}
use Rattle.lilo_model.specs.MinixEntries.{entry_of, entries_in, entry_at as minixentries_entry_at, find_entry, entries_at, is_dots}
use Rattle.lilo_model.specs.MinixFind.{components, child, find_path, file_block, file_at}
use Rattle.lilo_model.specs.MinixFindNames.{child_path, path_of}
use Rattle.lilo_model.specs.MinixLayout.{kind_of, super_of, super_checks, super_in, super_at, with_counts, super_bytes, v1_inode, v2_inode, inode_of, inode_at, v1_inode_bytes, v2_inode_bytes, inode_bytes, kept_inode, inode_place}
use Rattle.lilo_model.specs.MinixNames.{zone_number, block, content, entry, first_named, lookup, reached, thing, names, names_in, IsSound}
use Rattle.lilo_model.specs.MinixParts.{bit, with_bit, parts_of, volume_at, number_in, follow, pointer_by, inside, follow_at, zone_at, block_at, content_at}
use Rattle.lilo_model.specs.Options.{options_at, extra_at, options_bytes, extra_bytes}
use Rattle.lilo_model.specs.Partitions.{named_device, entry_at, entries_of, table_entries, is_link, is_plain, link_of, logical_of, listed, linked_sector, chain_entries, chain_tables, partitions_of, numbered_span, span_of}
use Rattle.lilo_model.specs.Plan.{slot_to, slots_for, chain_for, file_slots, file_sectors, section_sectors_at, flags_of, descriptor_for, plan_entries, sectors_of_table, sectors_after, plan_sectors, map_size, plan_names, plan_boot, plan_boot_sector}
use Rattle.lilo_model.specs.Planned.{devices_in, inode_places, mapped_inode, file_inode, mapped_section, code_in, planned}
use Rattle.lilo_model.specs.Section.{link_at, section, file_content, section_bytes}
use Rattle.lilo_model.specs.Slots.{has_ranges, has_address, is_slot, is_one_slot, chs_of, address_of, slot_of, some_slot, slot_at, slot_bytes, to_chs, to_lba, sector_at, sectors_of, place_at, slot_make, could_be_one}
use Rattle.lilo_model.specs.Table.{is_set, entry_name, is_printable, is_name, has_flags, has_video, has_length, has_main, has_initrd, has_extra, is_entry, descriptor_of, entry_bytes, same_name, repeats, breaks, table_at, descriptor_bytes}
use Rattle.model_cases.specs.Sparse.{hex, piece, file, disks_of, on}
use Rattle.model_cases.specs.PlanConfs.{conf_chs, conf_compact, conf_compact_chs, conf_hole, conf_hole_compact, conf_linear, conf_no_prompt, conf_sample}
use Rattle.model_cases.specs.PlanDisks.{disk_chs, disk_compact, disk_compact_chs, disk_hole, disk_hole_compact, disk_linear, disk_no_prompt, disk_sample}
use Rattle.model_cases.specs.PlanVolumes.{machine_chs, machine_compact, machine_compact_chs, machine_hole, machine_hole_compact, machine_linear, machine_no_prompt, machine_sample, volume_chs, volume_compact, volume_compact_chs, volume_hole, volume_hole_compact, volume_linear, volume_no_prompt, volume_sample}

-- the sample configuration
pub plan_the_sample_configuration : (plan_sectors (planned (disks_of disk_sample) machine_sample volume_sample conf_sample 305419896) machine_sample (on 0 (94 ∷ 95 ∷ 96 ∷ 97 ∷ 98 ∷ 99 ∷ 100 ∷ 101 ∷ [])) ≡ (file 512 (piece 0 (codes "LINE") ∷ [])) ∷ (file 512 (piece 0 (codes "linux") ∷ piece 16 (hex 39 0x4000000005040000bc020000038001006300000003800100640000000380010065000000010001) ∷ [])) ∷ (file 512 []) ∷ (file 512 []) ∷ (file 512 []) ∷ (file 512 (piece 0 (hex 1 0x0c) ∷ piece 8 (codes " ro root=301") ∷ [])) ∷ (file 512 (piece 0 (hex 21 0x038001005200000003800100530000000380010054) ∷ [])) ∷ (file 512 (piece 0 (hex 13 0x03800100560000000380010057) ∷ [])) ∷ []) × (plan_boot_sector (planned (disks_of disk_sample) machine_sample volume_sample conf_sample 305419896) machine_sample (on 0 (94 ∷ 95 ∷ 96 ∷ 97 ∷ 98 ∷ 99 ∷ 100 ∷ 101 ∷ [])) (disks_of disk_sample 0 0) ≡ file 512 (piece 0 (hex 19 0xeb7e4c494c4f01007856341201000000320001) ∷ piece 24 (hex 13 0x038001005e0000000380010062) ∷ piece 48 (hex 21 0x038001005f00000003800100600000000380010061) ∷ piece 128 (replicate 312 144) ∷ piece 450 (hex 10 0x8100000040000000c00f) ∷ piece 510 (hex 2 0x55aa) ∷ [])) × (map_size (planned (disks_of disk_sample) machine_sample volume_sample conf_sample 305419896) machine_sample ≡ 8)
unfolding number16 number32 is_zero has_ranges has_address is_slot is_one_slot chs_of address_of slot_of some_slot slot_at slot_bytes to_chs to_lba sector_at sectors_of place_at slot_make could_be_one named_device entry_at entries_of table_entries is_link is_plain link_of logical_of listed linked_sector chain_entries chain_tables partitions_of numbered_span span_of disk_name last_partition partition_name device_name devices_of named_devices device_at disk_number device_number kind_of super_of super_checks super_in super_at with_counts super_bytes v1_inode v2_inode inode_of inode_at v1_inode_bytes v2_inode_bytes inode_bytes kept_inode inode_place bit with_bit parts_of volume_at number_in follow pointer_by inside follow_at zone_at block_at content_at entry_of entries_in minixentries_entry_at find_entry entries_at is_dots components child find_path file_block file_at zone_number block content entry first_named lookup reached thing names names_in IsSound child_path path_of link_at section file_content section_bytes is_bootable has_signature has_options has_names has_slots has_no_message has_whole_message has_message has_zeros is_whole timeout_of table_slots boot_of boot_at field_bytes merged_sector is_set entry_name is_printable is_name has_flags has_video has_length has_main has_initrd has_extra is_entry descriptor_of entry_bytes same_name repeats breaks table_at descriptor_bytes options_at extra_at options_bytes extra_bytes is_line line_of line_at line_bytes is_same_line names_of_section names_of_config started menu_decision menu_boot file_of middle_text target_of menu_entries menu_of meant slot_to slots_for chain_for file_slots file_sectors section_sectors_at flags_of descriptor_for plan_entries sectors_of_table sectors_after plan_sectors map_size plan_names plan_boot plan_boot_sector devices_in inode_places mapped_inode file_inode mapped_section code_in planned
plan_the_sample_configuration = (refl, refl, refl)

-- no prompt, no timeout
pub plan_no_prompt_no_timeout : (plan_sectors (planned (disks_of disk_no_prompt) machine_no_prompt volume_no_prompt conf_no_prompt 305419896) machine_no_prompt (on 0 (94 ∷ 95 ∷ 96 ∷ 97 ∷ 98 ∷ 99 ∷ 100 ∷ 101 ∷ [])) ≡ (file 512 (piece 0 (codes "LINE") ∷ [])) ∷ (file 512 (piece 0 (codes "linux") ∷ piece 16 (hex 39 0x4000000005040000bc020000038001006300000003800100640000000380010065000000010001) ∷ [])) ∷ (file 512 []) ∷ (file 512 []) ∷ (file 512 []) ∷ (file 512 (piece 0 (hex 1 0x0c) ∷ piece 8 (codes " ro root=301") ∷ [])) ∷ (file 512 (piece 0 (hex 21 0x038001005200000003800100530000000380010054) ∷ [])) ∷ (file 512 (piece 0 (hex 13 0x03800100560000000380010057) ∷ [])) ∷ []) × (plan_boot_sector (planned (disks_of disk_no_prompt) machine_no_prompt volume_no_prompt conf_no_prompt 305419896) machine_no_prompt (on 0 (94 ∷ 95 ∷ 96 ∷ 97 ∷ 98 ∷ 99 ∷ 100 ∷ 101 ∷ [])) (disks_of disk_no_prompt 0 0) ≡ file 512 (piece 0 (hex 12 0xeb7e4c494c4f010078563412) ∷ piece 16 (hex 3 0xffff01) ∷ piece 24 (hex 13 0x038001005e0000000380010062) ∷ piece 48 (hex 21 0x038001005f00000003800100600000000380010061) ∷ piece 128 (replicate 312 144) ∷ piece 450 (hex 10 0x8100000040000000c00f) ∷ piece 510 (hex 2 0x55aa) ∷ [])) × (map_size (planned (disks_of disk_no_prompt) machine_no_prompt volume_no_prompt conf_no_prompt 305419896) machine_no_prompt ≡ 8)
unfolding number16 number32 is_zero has_ranges has_address is_slot is_one_slot chs_of address_of slot_of some_slot slot_at slot_bytes to_chs to_lba sector_at sectors_of place_at slot_make could_be_one named_device entry_at entries_of table_entries is_link is_plain link_of logical_of listed linked_sector chain_entries chain_tables partitions_of numbered_span span_of disk_name last_partition partition_name device_name devices_of named_devices device_at disk_number device_number kind_of super_of super_checks super_in super_at with_counts super_bytes v1_inode v2_inode inode_of inode_at v1_inode_bytes v2_inode_bytes inode_bytes kept_inode inode_place bit with_bit parts_of volume_at number_in follow pointer_by inside follow_at zone_at block_at content_at entry_of entries_in minixentries_entry_at find_entry entries_at is_dots components child find_path file_block file_at zone_number block content entry first_named lookup reached thing names names_in IsSound child_path path_of link_at section file_content section_bytes is_bootable has_signature has_options has_names has_slots has_no_message has_whole_message has_message has_zeros is_whole timeout_of table_slots boot_of boot_at field_bytes merged_sector is_set entry_name is_printable is_name has_flags has_video has_length has_main has_initrd has_extra is_entry descriptor_of entry_bytes same_name repeats breaks table_at descriptor_bytes options_at extra_at options_bytes extra_bytes is_line line_of line_at line_bytes is_same_line names_of_section names_of_config started menu_decision menu_boot file_of middle_text target_of menu_entries menu_of meant slot_to slots_for chain_for file_slots file_sectors section_sectors_at flags_of descriptor_for plan_entries sectors_of_table sectors_after plan_sectors map_size plan_names plan_boot plan_boot_sector devices_in inode_places mapped_inode file_inode mapped_section code_in planned
plan_no_prompt_no_timeout = (refl, refl, refl)

-- compact
pub plan_compact : (plan_sectors (planned (disks_of disk_compact) machine_compact volume_compact conf_compact 305419896) machine_compact (on 0 (94 ∷ 95 ∷ 96 ∷ 97 ∷ 98 ∷ 99 ∷ 100 ∷ 101 ∷ [])) ≡ (file 512 (piece 0 (codes "LINE") ∷ [])) ∷ (file 512 (piece 0 (codes "linux") ∷ piece 16 (hex 39 0x4000000005040000bc020000038001006300000003800100640000000380010065000000010001) ∷ [])) ∷ (file 512 []) ∷ (file 512 []) ∷ (file 512 []) ∷ (file 512 (piece 0 (hex 1 0x0c) ∷ piece 8 (codes " ro root=301") ∷ [])) ∷ (file 512 (piece 0 (hex 5 0x0380030052) ∷ [])) ∷ (file 512 (piece 0 (hex 5 0x0380020056) ∷ [])) ∷ []) × (plan_boot_sector (planned (disks_of disk_compact) machine_compact volume_compact conf_compact 305419896) machine_compact (on 0 (94 ∷ 95 ∷ 96 ∷ 97 ∷ 98 ∷ 99 ∷ 100 ∷ 101 ∷ [])) (disks_of disk_compact 0 0) ≡ file 512 (piece 0 (hex 19 0xeb7e4c494c4f01007856341201000000320001) ∷ piece 24 (hex 13 0x038001005e0000000380010062) ∷ piece 48 (hex 21 0x038001005f00000003800100600000000380010061) ∷ piece 128 (replicate 312 144) ∷ piece 450 (hex 10 0x8100000040000000c00f) ∷ piece 510 (hex 2 0x55aa) ∷ [])) × (map_size (planned (disks_of disk_compact) machine_compact volume_compact conf_compact 305419896) machine_compact ≡ 8)
unfolding number16 number32 is_zero has_ranges has_address is_slot is_one_slot chs_of address_of slot_of some_slot slot_at slot_bytes to_chs to_lba sector_at sectors_of place_at slot_make could_be_one named_device entry_at entries_of table_entries is_link is_plain link_of logical_of listed linked_sector chain_entries chain_tables partitions_of numbered_span span_of disk_name last_partition partition_name device_name devices_of named_devices device_at disk_number device_number kind_of super_of super_checks super_in super_at with_counts super_bytes v1_inode v2_inode inode_of inode_at v1_inode_bytes v2_inode_bytes inode_bytes kept_inode inode_place bit with_bit parts_of volume_at number_in follow pointer_by inside follow_at zone_at block_at content_at entry_of entries_in minixentries_entry_at find_entry entries_at is_dots components child find_path file_block file_at zone_number block content entry first_named lookup reached thing names names_in IsSound child_path path_of link_at section file_content section_bytes is_bootable has_signature has_options has_names has_slots has_no_message has_whole_message has_message has_zeros is_whole timeout_of table_slots boot_of boot_at field_bytes merged_sector is_set entry_name is_printable is_name has_flags has_video has_length has_main has_initrd has_extra is_entry descriptor_of entry_bytes same_name repeats breaks table_at descriptor_bytes options_at extra_at options_bytes extra_bytes is_line line_of line_at line_bytes is_same_line names_of_section names_of_config started menu_decision menu_boot file_of middle_text target_of menu_entries menu_of meant slot_to slots_for chain_for file_slots file_sectors section_sectors_at flags_of descriptor_for plan_entries sectors_of_table sectors_after plan_sectors map_size plan_names plan_boot plan_boot_sector devices_in inode_places mapped_inode file_inode mapped_section code_in planned
plan_compact = (refl, refl, refl)

-- addresses by cylinder, head and sector
pub plan_addresses_by_cylinder_head_and_sector : (plan_sectors (planned (disks_of disk_chs) machine_chs volume_chs conf_chs 305419896) machine_chs (on 0 (94 ∷ 95 ∷ 96 ∷ 97 ∷ 98 ∷ 99 ∷ 100 ∷ 101 ∷ [])) ≡ (file 512 (piece 0 (codes "LINE") ∷ [])) ∷ (file 512 (piece 0 (codes "linux") ∷ piece 16 (hex 39 0x4000000005040000bc020000018001002500010001800100260001000180010027000100010001) ∷ [])) ∷ (file 512 []) ∷ (file 512 []) ∷ (file 512 []) ∷ (file 512 (piece 0 (hex 1 0x0c) ∷ piece 8 (codes " ro root=301") ∷ [])) ∷ (file 512 (piece 0 (hex 23 0x0180010014000100018001001500010001800100160001) ∷ [])) ∷ (file 512 (piece 0 (hex 15 0x018001001800010001800100190001) ∷ [])) ∷ []) × (plan_boot_sector (planned (disks_of disk_chs) machine_chs volume_chs conf_chs 305419896) machine_chs (on 0 (94 ∷ 95 ∷ 96 ∷ 97 ∷ 98 ∷ 99 ∷ 100 ∷ 101 ∷ [])) (disks_of disk_chs 0 0) ≡ file 512 (piece 0 (hex 19 0xeb7e4c494c4f01007856341201000000320001) ∷ piece 24 (hex 15 0x018001002000010001800100240001) ∷ piece 48 (hex 23 0x0180010021000100018001002200010001800100230001) ∷ piece 128 (replicate 312 144) ∷ piece 450 (hex 10 0x8100000040000000c00f) ∷ piece 510 (hex 2 0x55aa) ∷ [])) × (map_size (planned (disks_of disk_chs) machine_chs volume_chs conf_chs 305419896) machine_chs ≡ 8)
unfolding number16 number32 is_zero has_ranges has_address is_slot is_one_slot chs_of address_of slot_of some_slot slot_at slot_bytes to_chs to_lba sector_at sectors_of place_at slot_make could_be_one named_device entry_at entries_of table_entries is_link is_plain link_of logical_of listed linked_sector chain_entries chain_tables partitions_of numbered_span span_of disk_name last_partition partition_name device_name devices_of named_devices device_at disk_number device_number kind_of super_of super_checks super_in super_at with_counts super_bytes v1_inode v2_inode inode_of inode_at v1_inode_bytes v2_inode_bytes inode_bytes kept_inode inode_place bit with_bit parts_of volume_at number_in follow pointer_by inside follow_at zone_at block_at content_at entry_of entries_in minixentries_entry_at find_entry entries_at is_dots components child find_path file_block file_at zone_number block content entry first_named lookup reached thing names names_in IsSound child_path path_of link_at section file_content section_bytes is_bootable has_signature has_options has_names has_slots has_no_message has_whole_message has_message has_zeros is_whole timeout_of table_slots boot_of boot_at field_bytes merged_sector is_set entry_name is_printable is_name has_flags has_video has_length has_main has_initrd has_extra is_entry descriptor_of entry_bytes same_name repeats breaks table_at descriptor_bytes options_at extra_at options_bytes extra_bytes is_line line_of line_at line_bytes is_same_line names_of_section names_of_config started menu_decision menu_boot file_of middle_text target_of menu_entries menu_of meant slot_to slots_for chain_for file_slots file_sectors section_sectors_at flags_of descriptor_for plan_entries sectors_of_table sectors_after plan_sectors map_size plan_names plan_boot plan_boot_sector devices_in inode_places mapped_inode file_inode mapped_section code_in planned
plan_addresses_by_cylinder_head_and_sector = (refl, refl, refl)

-- linear addresses
pub plan_linear_addresses : (plan_sectors (planned (disks_of disk_linear) machine_linear volume_linear conf_linear 305419896) machine_linear (on 0 (94 ∷ 95 ∷ 96 ∷ 97 ∷ 98 ∷ 99 ∷ 100 ∷ 101 ∷ [])) ≡ (file 512 (piece 0 (codes "LINE") ∷ [])) ∷ (file 512 (piece 0 (codes "linux") ∷ piece 16 (hex 39 0x4000000005040000bc020000028001006300000002800100640000000280010065000000010001) ∷ [])) ∷ (file 512 []) ∷ (file 512 []) ∷ (file 512 []) ∷ (file 512 (piece 0 (hex 1 0x0c) ∷ piece 8 (codes " ro root=301") ∷ [])) ∷ (file 512 (piece 0 (hex 21 0x028001005200000002800100530000000280010054) ∷ [])) ∷ (file 512 (piece 0 (hex 13 0x02800100560000000280010057) ∷ [])) ∷ []) × (plan_boot_sector (planned (disks_of disk_linear) machine_linear volume_linear conf_linear 305419896) machine_linear (on 0 (94 ∷ 95 ∷ 96 ∷ 97 ∷ 98 ∷ 99 ∷ 100 ∷ 101 ∷ [])) (disks_of disk_linear 0 0) ≡ file 512 (piece 0 (hex 19 0xeb7e4c494c4f01007856341201000000320001) ∷ piece 24 (hex 13 0x028001005e0000000280010062) ∷ piece 48 (hex 21 0x028001005f00000002800100600000000280010061) ∷ piece 128 (replicate 312 144) ∷ piece 450 (hex 10 0x8100000040000000c00f) ∷ piece 510 (hex 2 0x55aa) ∷ [])) × (map_size (planned (disks_of disk_linear) machine_linear volume_linear conf_linear 305419896) machine_linear ≡ 8)
unfolding number16 number32 is_zero has_ranges has_address is_slot is_one_slot chs_of address_of slot_of some_slot slot_at slot_bytes to_chs to_lba sector_at sectors_of place_at slot_make could_be_one named_device entry_at entries_of table_entries is_link is_plain link_of logical_of listed linked_sector chain_entries chain_tables partitions_of numbered_span span_of disk_name last_partition partition_name device_name devices_of named_devices device_at disk_number device_number kind_of super_of super_checks super_in super_at with_counts super_bytes v1_inode v2_inode inode_of inode_at v1_inode_bytes v2_inode_bytes inode_bytes kept_inode inode_place bit with_bit parts_of volume_at number_in follow pointer_by inside follow_at zone_at block_at content_at entry_of entries_in minixentries_entry_at find_entry entries_at is_dots components child find_path file_block file_at zone_number block content entry first_named lookup reached thing names names_in IsSound child_path path_of link_at section file_content section_bytes is_bootable has_signature has_options has_names has_slots has_no_message has_whole_message has_message has_zeros is_whole timeout_of table_slots boot_of boot_at field_bytes merged_sector is_set entry_name is_printable is_name has_flags has_video has_length has_main has_initrd has_extra is_entry descriptor_of entry_bytes same_name repeats breaks table_at descriptor_bytes options_at extra_at options_bytes extra_bytes is_line line_of line_at line_bytes is_same_line names_of_section names_of_config started menu_decision menu_boot file_of middle_text target_of menu_entries menu_of meant slot_to slots_for chain_for file_slots file_sectors section_sectors_at flags_of descriptor_for plan_entries sectors_of_table sectors_after plan_sectors map_size plan_names plan_boot plan_boot_sector devices_in inode_places mapped_inode file_inode mapped_section code_in planned
plan_linear_addresses = (refl, refl, refl)

-- compact, by cylinder, head and sector
pub plan_compact_by_cylinder_head_and_sector : (plan_sectors (planned (disks_of disk_compact_chs) machine_compact_chs volume_compact_chs conf_compact_chs 305419896) machine_compact_chs (on 0 (94 ∷ 95 ∷ 96 ∷ 97 ∷ 98 ∷ 99 ∷ 100 ∷ 101 ∷ [])) ≡ (file 512 (piece 0 (codes "LINE") ∷ [])) ∷ (file 512 (piece 0 (codes "linux") ∷ piece 16 (hex 39 0x4000000005040000bc020000018001002500010001800100260001000180010027000100010001) ∷ [])) ∷ (file 512 []) ∷ (file 512 []) ∷ (file 512 []) ∷ (file 512 (piece 0 (hex 1 0x0c) ∷ piece 8 (codes " ro root=301") ∷ [])) ∷ (file 512 (piece 0 (hex 7 0x01800300140001) ∷ [])) ∷ (file 512 (piece 0 (hex 7 0x01800200180001) ∷ [])) ∷ []) × (plan_boot_sector (planned (disks_of disk_compact_chs) machine_compact_chs volume_compact_chs conf_compact_chs 305419896) machine_compact_chs (on 0 (94 ∷ 95 ∷ 96 ∷ 97 ∷ 98 ∷ 99 ∷ 100 ∷ 101 ∷ [])) (disks_of disk_compact_chs 0 0) ≡ file 512 (piece 0 (hex 19 0xeb7e4c494c4f01007856341201000000320001) ∷ piece 24 (hex 15 0x018001002000010001800100240001) ∷ piece 48 (hex 23 0x0180010021000100018001002200010001800100230001) ∷ piece 128 (replicate 312 144) ∷ piece 450 (hex 10 0x8100000040000000c00f) ∷ piece 510 (hex 2 0x55aa) ∷ [])) × (map_size (planned (disks_of disk_compact_chs) machine_compact_chs volume_compact_chs conf_compact_chs 305419896) machine_compact_chs ≡ 8)
unfolding number16 number32 is_zero has_ranges has_address is_slot is_one_slot chs_of address_of slot_of some_slot slot_at slot_bytes to_chs to_lba sector_at sectors_of place_at slot_make could_be_one named_device entry_at entries_of table_entries is_link is_plain link_of logical_of listed linked_sector chain_entries chain_tables partitions_of numbered_span span_of disk_name last_partition partition_name device_name devices_of named_devices device_at disk_number device_number kind_of super_of super_checks super_in super_at with_counts super_bytes v1_inode v2_inode inode_of inode_at v1_inode_bytes v2_inode_bytes inode_bytes kept_inode inode_place bit with_bit parts_of volume_at number_in follow pointer_by inside follow_at zone_at block_at content_at entry_of entries_in minixentries_entry_at find_entry entries_at is_dots components child find_path file_block file_at zone_number block content entry first_named lookup reached thing names names_in IsSound child_path path_of link_at section file_content section_bytes is_bootable has_signature has_options has_names has_slots has_no_message has_whole_message has_message has_zeros is_whole timeout_of table_slots boot_of boot_at field_bytes merged_sector is_set entry_name is_printable is_name has_flags has_video has_length has_main has_initrd has_extra is_entry descriptor_of entry_bytes same_name repeats breaks table_at descriptor_bytes options_at extra_at options_bytes extra_bytes is_line line_of line_at line_bytes is_same_line names_of_section names_of_config started menu_decision menu_boot file_of middle_text target_of menu_entries menu_of meant slot_to slots_for chain_for file_slots file_sectors section_sectors_at flags_of descriptor_for plan_entries sectors_of_table sectors_after plan_sectors map_size plan_names plan_boot plan_boot_sector devices_in inode_places mapped_inode file_inode mapped_section code_in planned
plan_compact_by_cylinder_head_and_sector = (refl, refl, refl)

-- a hole in a kernel
pub plan_a_hole_in_a_kernel : (plan_sectors (planned (disks_of disk_hole) machine_hole volume_hole conf_hole 305419896) machine_hole (on 0 (98 ∷ 99 ∷ 100 ∷ 101 ∷ 102 ∷ 103 ∷ 104 ∷ 105 ∷ [])) ≡ (file 512 (piece 0 (codes "LINE") ∷ [])) ∷ (file 512 (piece 0 (codes "linux") ∷ piece 16 (hex 39 0x4000000005100000bc020000038001006700000003800100680000000380010069000000010001) ∷ [])) ∷ (file 512 []) ∷ (file 512 []) ∷ (file 512 []) ∷ (file 512 (piece 0 (hex 1 0x0c) ∷ piece 8 (codes " ro root=301") ∷ [])) ∷ (file 512 (piece 0 (hex 69 0x038001005200000003800100530000000380010054000000038001005500000003800100660000000380010066000000038001005600000003800100570000000380010058) ∷ [])) ∷ (file 512 (piece 0 (hex 13 0x038001005a000000038001005b) ∷ [])) ∷ []) × (plan_boot_sector (planned (disks_of disk_hole) machine_hole volume_hole conf_hole 305419896) machine_hole (on 0 (98 ∷ 99 ∷ 100 ∷ 101 ∷ 102 ∷ 103 ∷ 104 ∷ 105 ∷ [])) (disks_of disk_hole 0 0) ≡ file 512 (piece 0 (hex 19 0xeb7e4c494c4f01007856341201000000320001) ∷ piece 24 (hex 13 0x03800100620000000380010066) ∷ piece 48 (hex 21 0x038001006300000003800100640000000380010065) ∷ piece 128 (replicate 312 144) ∷ piece 450 (hex 10 0x8100000040000000c00f) ∷ piece 510 (hex 2 0x55aa) ∷ [])) × (map_size (planned (disks_of disk_hole) machine_hole volume_hole conf_hole 305419896) machine_hole ≡ 8)
unfolding number16 number32 is_zero has_ranges has_address is_slot is_one_slot chs_of address_of slot_of some_slot slot_at slot_bytes to_chs to_lba sector_at sectors_of place_at slot_make could_be_one named_device entry_at entries_of table_entries is_link is_plain link_of logical_of listed linked_sector chain_entries chain_tables partitions_of numbered_span span_of disk_name last_partition partition_name device_name devices_of named_devices device_at disk_number device_number kind_of super_of super_checks super_in super_at with_counts super_bytes v1_inode v2_inode inode_of inode_at v1_inode_bytes v2_inode_bytes inode_bytes kept_inode inode_place bit with_bit parts_of volume_at number_in follow pointer_by inside follow_at zone_at block_at content_at entry_of entries_in minixentries_entry_at find_entry entries_at is_dots components child find_path file_block file_at zone_number block content entry first_named lookup reached thing names names_in IsSound child_path path_of link_at section file_content section_bytes is_bootable has_signature has_options has_names has_slots has_no_message has_whole_message has_message has_zeros is_whole timeout_of table_slots boot_of boot_at field_bytes merged_sector is_set entry_name is_printable is_name has_flags has_video has_length has_main has_initrd has_extra is_entry descriptor_of entry_bytes same_name repeats breaks table_at descriptor_bytes options_at extra_at options_bytes extra_bytes is_line line_of line_at line_bytes is_same_line names_of_section names_of_config started menu_decision menu_boot file_of middle_text target_of menu_entries menu_of meant slot_to slots_for chain_for file_slots file_sectors section_sectors_at flags_of descriptor_for plan_entries sectors_of_table sectors_after plan_sectors map_size plan_names plan_boot plan_boot_sector devices_in inode_places mapped_inode file_inode mapped_section code_in planned
plan_a_hole_in_a_kernel = (refl, refl, refl)

-- a hole, and compact
pub plan_a_hole_and_compact : (plan_sectors (planned (disks_of disk_hole_compact) machine_hole_compact volume_hole_compact conf_hole_compact 305419896) machine_hole_compact (on 0 (98 ∷ 99 ∷ 100 ∷ 101 ∷ 102 ∷ 103 ∷ 104 ∷ 105 ∷ [])) ≡ (file 512 (piece 0 (codes "LINE") ∷ [])) ∷ (file 512 (piece 0 (codes "linux") ∷ piece 16 (hex 39 0x4000000005100000bc020000038001006700000003800100680000000380010069000000010001) ∷ [])) ∷ (file 512 []) ∷ (file 512 []) ∷ (file 512 []) ∷ (file 512 (piece 0 (hex 1 0x0c) ∷ piece 8 (codes " ro root=301") ∷ [])) ∷ (file 512 (piece 0 (hex 29 0x0380040052000000038001006600000003800100660000000380030056) ∷ [])) ∷ (file 512 (piece 0 (hex 5 0x038002005a) ∷ [])) ∷ []) × (plan_boot_sector (planned (disks_of disk_hole_compact) machine_hole_compact volume_hole_compact conf_hole_compact 305419896) machine_hole_compact (on 0 (98 ∷ 99 ∷ 100 ∷ 101 ∷ 102 ∷ 103 ∷ 104 ∷ 105 ∷ [])) (disks_of disk_hole_compact 0 0) ≡ file 512 (piece 0 (hex 19 0xeb7e4c494c4f01007856341201000000320001) ∷ piece 24 (hex 13 0x03800100620000000380010066) ∷ piece 48 (hex 21 0x038001006300000003800100640000000380010065) ∷ piece 128 (replicate 312 144) ∷ piece 450 (hex 10 0x8100000040000000c00f) ∷ piece 510 (hex 2 0x55aa) ∷ [])) × (map_size (planned (disks_of disk_hole_compact) machine_hole_compact volume_hole_compact conf_hole_compact 305419896) machine_hole_compact ≡ 8)
unfolding number16 number32 is_zero has_ranges has_address is_slot is_one_slot chs_of address_of slot_of some_slot slot_at slot_bytes to_chs to_lba sector_at sectors_of place_at slot_make could_be_one named_device entry_at entries_of table_entries is_link is_plain link_of logical_of listed linked_sector chain_entries chain_tables partitions_of numbered_span span_of disk_name last_partition partition_name device_name devices_of named_devices device_at disk_number device_number kind_of super_of super_checks super_in super_at with_counts super_bytes v1_inode v2_inode inode_of inode_at v1_inode_bytes v2_inode_bytes inode_bytes kept_inode inode_place bit with_bit parts_of volume_at number_in follow pointer_by inside follow_at zone_at block_at content_at entry_of entries_in minixentries_entry_at find_entry entries_at is_dots components child find_path file_block file_at zone_number block content entry first_named lookup reached thing names names_in IsSound child_path path_of link_at section file_content section_bytes is_bootable has_signature has_options has_names has_slots has_no_message has_whole_message has_message has_zeros is_whole timeout_of table_slots boot_of boot_at field_bytes merged_sector is_set entry_name is_printable is_name has_flags has_video has_length has_main has_initrd has_extra is_entry descriptor_of entry_bytes same_name repeats breaks table_at descriptor_bytes options_at extra_at options_bytes extra_bytes is_line line_of line_at line_bytes is_same_line names_of_section names_of_config started menu_decision menu_boot file_of middle_text target_of menu_entries menu_of meant slot_to slots_for chain_for file_slots file_sectors section_sectors_at flags_of descriptor_for plan_entries sectors_of_table sectors_after plan_sectors map_size plan_names plan_boot plan_boot_sector devices_in inode_places mapped_inode file_inode mapped_section code_in planned
plan_a_hole_and_compact = (refl, refl, refl)

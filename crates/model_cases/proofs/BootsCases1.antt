-- Cases of the model, written by tools/plan_cases.py: planned maps boot as is meant.
use Rattle.std.proofs.Common.{◌≡◌, ◌∷◌, [], codes, refl}
use Rattle.lilo_model.specs.Boot.{foreign_boot, slot_bytes_at, map_sectors, present_line, good_map, listed_entries, settings_of, message_of, middle_of, image_with_line, handed_ending, main_of, loaded_ending, kernel_ending, entry_ending, chosen_boot, decision_at, opening_at, prompted_boot, map_boot, whole_boot}
use Rattle.lilo_model.specs.BootSector.{is_bootable, has_signature, has_options, has_names, has_slots, has_no_message, has_whole_message, has_message, has_zeros, is_whole, timeout_of, table_slots, boot_of, boot_at, field_bytes, merged_sector}
use Rattle.lilo_model.specs.Bytes.{number16, number32, is_zero}
use Rattle.lilo_model.specs.Choice.{course_of}
use Rattle.lilo_model.specs.ConfLawful.{names_of_section, names_of_config}
use Rattle.lilo_model.specs.DefaultLine.{Empty}
use Rattle.lilo_model.specs.Devices.{disk_name, last_partition, partition_name, device_name, devices_of, named_devices, device_at, disk_number, device_number}
use Rattle.lilo_model.specs.Header.{setup_of, version_of, header_of, header_at, fit_checks, plan_memory, replaced_fields, patch}
use Rattle.lilo_model.specs.LineSector.{is_line, line_of, line_at, line_bytes, is_same_line}
use Rattle.lilo_model.specs.LineWords.{words_of, meaning}
use Rattle.lilo_model.specs.Meant.{started, menu_decision, menu_boot, file_of, middle_text, target_of, menu_entries, menu_of, meant}
use Rattle.lilo_model.specs.MinixEntries.{entry_of, entries_in, entry_at as minixentries_entry_at, find_entry, entries_at, is_dots}
use Rattle.lilo_model.specs.MinixFind.{components, child, find_path, file_block, file_at}
use Rattle.lilo_model.specs.MinixFindNames.{child_path, path_of}
use Rattle.lilo_model.specs.MinixLayout.{kind_of, super_of, super_checks, super_in, super_at, with_counts, super_bytes, v1_inode, v2_inode, inode_of, inode_at, v1_inode_bytes, v2_inode_bytes, inode_bytes, kept_inode, inode_place}
use Rattle.lilo_model.specs.MinixNames.{zone_number, block, content, entry, first_named, lookup, reached, thing, names, names_in, IsSound}
use Rattle.lilo_model.specs.MinixParts.{bit, with_bit, parts_of, volume_at, number_in, follow, pointer_by, inside, follow_at, zone_at, block_at, content_at}
use Rattle.lilo_model.specs.Options.{options_at, extra_at, options_bytes, extra_bytes}
use Rattle.lilo_model.specs.Partitions.{named_device, entry_at, entries_of, table_entries, is_link, is_plain, link_of, logical_of, listed, linked_sector, chain_entries, chain_tables, partitions_of, numbered_span, span_of}
use Rattle.lilo_model.specs.Place.{command_line, written_by, place, kernel_fit}
use Rattle.lilo_model.specs.Plan.{slot_to, slots_for, chain_for, file_slots, file_sectors, section_sectors_at, flags_of, descriptor_for, plan_entries, sectors_of_table, sectors_after, plan_sectors, map_size, plan_names, plan_boot, plan_boot_sector}
use Rattle.lilo_model.specs.Planned.{devices_in, inode_places, mapped_inode, file_inode, mapped_section, code_in, planned}
use Rattle.lilo_model.specs.Section.{link_at, section, file_content, section_bytes}
use Rattle.lilo_model.specs.Slots.{has_ranges, has_address, is_slot, is_one_slot, chs_of, address_of, slot_of, some_slot, slot_at, slot_bytes, to_chs, to_lba, sector_at, sectors_of, place_at, slot_make, could_be_one}
use Rattle.lilo_model.specs.Table.{is_set, entry_name, is_printable, is_name, has_flags, has_video, has_length, has_main, has_initrd, has_extra, is_entry, descriptor_of, entry_bytes, same_name, repeats, breaks, table_at, descriptor_bytes}
use Rattle.model_cases.specs.Sparse.{disks_of, on, typed}
use Rattle.model_cases.specs.Volumes.{with_sectors}
use Rattle.model_cases.specs.PlanConfs.{conf_chs, conf_compact, conf_compact_chs, conf_hole, conf_hole_compact, conf_no_prompt, conf_password, conf_sample}
use Rattle.model_cases.specs.PlanDisks.{disk_chs, disk_compact, disk_compact_chs, disk_hole, disk_hole_compact, disk_no_prompt, disk_password, disk_sample}
use Rattle.model_cases.specs.PlanVolumes.{machine_chs, machine_compact, machine_compact_chs, machine_hole, machine_hole_compact, machine_no_prompt, machine_password, machine_sample, volume_chs, volume_compact, volume_compact_chs, volume_hole, volume_hole_compact, volume_no_prompt, volume_password, volume_sample}

-- the sample configuration
pub boots_the_sample_configuration : (whole_boot (with_sectors (disks_of disk_sample) (record { disk = 0; sector = 0 } ∷ (on 0 (94 ∷ 95 ∷ 96 ∷ 97 ∷ 98 ∷ 99 ∷ 100 ∷ 101 ∷ []))) (plan_boot_sector (planned (disks_of disk_sample) machine_sample volume_sample conf_sample 305419896) machine_sample (on 0 (94 ∷ 95 ∷ 96 ∷ 97 ∷ 98 ∷ 99 ∷ 100 ∷ 101 ∷ [])) (disks_of disk_sample 0 0) ∷ plan_sectors (planned (disks_of disk_sample) machine_sample volume_sample conf_sample 305419896) machine_sample (on 0 (94 ∷ 95 ∷ 96 ∷ 97 ∷ 98 ∷ 99 ∷ 100 ∷ 101 ∷ [])))) machine_sample (record { disk = 0; start = 0; count = 4096 }) [] 16777216 ≡ meant conf_sample (names_in volume_sample (disks_of disk_sample)) (devices_in (disks_of disk_sample) machine_sample) Empty [] 16777216) × (whole_boot (with_sectors (disks_of disk_sample) (record { disk = 0; sector = 0 } ∷ (on 0 (94 ∷ 95 ∷ 96 ∷ 97 ∷ 98 ∷ 99 ∷ 100 ∷ 101 ∷ []))) (plan_boot_sector (planned (disks_of disk_sample) machine_sample volume_sample conf_sample 305419896) machine_sample (on 0 (94 ∷ 95 ∷ 96 ∷ 97 ∷ 98 ∷ 99 ∷ 100 ∷ 101 ∷ [])) (disks_of disk_sample 0 0) ∷ plan_sectors (planned (disks_of disk_sample) machine_sample volume_sample conf_sample 305419896) machine_sample (on 0 (94 ∷ 95 ∷ 96 ∷ 97 ∷ 98 ∷ 99 ∷ 100 ∷ 101 ∷ [])))) machine_sample (record { disk = 0; start = 0; count = 4096 }) (typed (codes "linux single\n")) 16777216 ≡ meant conf_sample (names_in volume_sample (disks_of disk_sample)) (devices_in (disks_of disk_sample) machine_sample) Empty (typed (codes "linux single\n")) 16777216)
unfolding number16 number32 is_zero has_ranges has_address is_slot is_one_slot chs_of address_of slot_of some_slot slot_at slot_bytes to_chs to_lba sector_at sectors_of place_at slot_make could_be_one named_device entry_at entries_of table_entries is_link is_plain link_of logical_of listed linked_sector chain_entries chain_tables partitions_of numbered_span span_of disk_name last_partition partition_name device_name devices_of named_devices device_at disk_number device_number kind_of super_of super_checks super_in super_at with_counts super_bytes v1_inode v2_inode inode_of inode_at v1_inode_bytes v2_inode_bytes inode_bytes kept_inode inode_place bit with_bit parts_of volume_at number_in follow pointer_by inside follow_at zone_at block_at content_at entry_of entries_in minixentries_entry_at find_entry entries_at is_dots components child find_path file_block file_at zone_number block content entry first_named lookup reached thing names names_in IsSound child_path path_of link_at section file_content section_bytes is_bootable has_signature has_options has_names has_slots has_no_message has_whole_message has_message has_zeros is_whole timeout_of table_slots boot_of boot_at field_bytes merged_sector is_set entry_name is_printable is_name has_flags has_video has_length has_main has_initrd has_extra is_entry descriptor_of entry_bytes same_name repeats breaks table_at descriptor_bytes options_at extra_at options_bytes extra_bytes is_line line_of line_at line_bytes is_same_line setup_of version_of header_of header_at fit_checks plan_memory replaced_fields patch command_line written_by place kernel_fit course_of words_of meaning foreign_boot slot_bytes_at map_sectors present_line good_map listed_entries settings_of message_of middle_of image_with_line handed_ending main_of loaded_ending kernel_ending entry_ending chosen_boot decision_at opening_at prompted_boot map_boot whole_boot names_of_section names_of_config started menu_decision menu_boot file_of middle_text target_of menu_entries menu_of meant slot_to slots_for chain_for file_slots file_sectors section_sectors_at flags_of descriptor_for plan_entries sectors_of_table sectors_after plan_sectors map_size plan_names plan_boot plan_boot_sector devices_in inode_places mapped_inode file_inode mapped_section code_in planned
boots_the_sample_configuration = (refl, refl)

-- no prompt, no timeout
pub boots_no_prompt_no_timeout : whole_boot (with_sectors (disks_of disk_no_prompt) (record { disk = 0; sector = 0 } ∷ (on 0 (94 ∷ 95 ∷ 96 ∷ 97 ∷ 98 ∷ 99 ∷ 100 ∷ 101 ∷ []))) (plan_boot_sector (planned (disks_of disk_no_prompt) machine_no_prompt volume_no_prompt conf_no_prompt 305419896) machine_no_prompt (on 0 (94 ∷ 95 ∷ 96 ∷ 97 ∷ 98 ∷ 99 ∷ 100 ∷ 101 ∷ [])) (disks_of disk_no_prompt 0 0) ∷ plan_sectors (planned (disks_of disk_no_prompt) machine_no_prompt volume_no_prompt conf_no_prompt 305419896) machine_no_prompt (on 0 (94 ∷ 95 ∷ 96 ∷ 97 ∷ 98 ∷ 99 ∷ 100 ∷ 101 ∷ [])))) machine_no_prompt (record { disk = 0; start = 0; count = 4096 }) [] 16777216 ≡ meant conf_no_prompt (names_in volume_no_prompt (disks_of disk_no_prompt)) (devices_in (disks_of disk_no_prompt) machine_no_prompt) Empty [] 16777216
unfolding number16 number32 is_zero has_ranges has_address is_slot is_one_slot chs_of address_of slot_of some_slot slot_at slot_bytes to_chs to_lba sector_at sectors_of place_at slot_make could_be_one named_device entry_at entries_of table_entries is_link is_plain link_of logical_of listed linked_sector chain_entries chain_tables partitions_of numbered_span span_of disk_name last_partition partition_name device_name devices_of named_devices device_at disk_number device_number kind_of super_of super_checks super_in super_at with_counts super_bytes v1_inode v2_inode inode_of inode_at v1_inode_bytes v2_inode_bytes inode_bytes kept_inode inode_place bit with_bit parts_of volume_at number_in follow pointer_by inside follow_at zone_at block_at content_at entry_of entries_in minixentries_entry_at find_entry entries_at is_dots components child find_path file_block file_at zone_number block content entry first_named lookup reached thing names names_in IsSound child_path path_of link_at section file_content section_bytes is_bootable has_signature has_options has_names has_slots has_no_message has_whole_message has_message has_zeros is_whole timeout_of table_slots boot_of boot_at field_bytes merged_sector is_set entry_name is_printable is_name has_flags has_video has_length has_main has_initrd has_extra is_entry descriptor_of entry_bytes same_name repeats breaks table_at descriptor_bytes options_at extra_at options_bytes extra_bytes is_line line_of line_at line_bytes is_same_line setup_of version_of header_of header_at fit_checks plan_memory replaced_fields patch command_line written_by place kernel_fit course_of words_of meaning foreign_boot slot_bytes_at map_sectors present_line good_map listed_entries settings_of message_of middle_of image_with_line handed_ending main_of loaded_ending kernel_ending entry_ending chosen_boot decision_at opening_at prompted_boot map_boot whole_boot names_of_section names_of_config started menu_decision menu_boot file_of middle_text target_of menu_entries menu_of meant slot_to slots_for chain_for file_slots file_sectors section_sectors_at flags_of descriptor_for plan_entries sectors_of_table sectors_after plan_sectors map_size plan_names plan_boot plan_boot_sector devices_in inode_places mapped_inode file_inode mapped_section code_in planned
boots_no_prompt_no_timeout = refl

-- compact
pub boots_compact : whole_boot (with_sectors (disks_of disk_compact) (record { disk = 0; sector = 0 } ∷ (on 0 (94 ∷ 95 ∷ 96 ∷ 97 ∷ 98 ∷ 99 ∷ 100 ∷ 101 ∷ []))) (plan_boot_sector (planned (disks_of disk_compact) machine_compact volume_compact conf_compact 305419896) machine_compact (on 0 (94 ∷ 95 ∷ 96 ∷ 97 ∷ 98 ∷ 99 ∷ 100 ∷ 101 ∷ [])) (disks_of disk_compact 0 0) ∷ plan_sectors (planned (disks_of disk_compact) machine_compact volume_compact conf_compact 305419896) machine_compact (on 0 (94 ∷ 95 ∷ 96 ∷ 97 ∷ 98 ∷ 99 ∷ 100 ∷ 101 ∷ [])))) machine_compact (record { disk = 0; start = 0; count = 4096 }) [] 16777216 ≡ meant conf_compact (names_in volume_compact (disks_of disk_compact)) (devices_in (disks_of disk_compact) machine_compact) Empty [] 16777216
unfolding number16 number32 is_zero has_ranges has_address is_slot is_one_slot chs_of address_of slot_of some_slot slot_at slot_bytes to_chs to_lba sector_at sectors_of place_at slot_make could_be_one named_device entry_at entries_of table_entries is_link is_plain link_of logical_of listed linked_sector chain_entries chain_tables partitions_of numbered_span span_of disk_name last_partition partition_name device_name devices_of named_devices device_at disk_number device_number kind_of super_of super_checks super_in super_at with_counts super_bytes v1_inode v2_inode inode_of inode_at v1_inode_bytes v2_inode_bytes inode_bytes kept_inode inode_place bit with_bit parts_of volume_at number_in follow pointer_by inside follow_at zone_at block_at content_at entry_of entries_in minixentries_entry_at find_entry entries_at is_dots components child find_path file_block file_at zone_number block content entry first_named lookup reached thing names names_in IsSound child_path path_of link_at section file_content section_bytes is_bootable has_signature has_options has_names has_slots has_no_message has_whole_message has_message has_zeros is_whole timeout_of table_slots boot_of boot_at field_bytes merged_sector is_set entry_name is_printable is_name has_flags has_video has_length has_main has_initrd has_extra is_entry descriptor_of entry_bytes same_name repeats breaks table_at descriptor_bytes options_at extra_at options_bytes extra_bytes is_line line_of line_at line_bytes is_same_line setup_of version_of header_of header_at fit_checks plan_memory replaced_fields patch command_line written_by place kernel_fit course_of words_of meaning foreign_boot slot_bytes_at map_sectors present_line good_map listed_entries settings_of message_of middle_of image_with_line handed_ending main_of loaded_ending kernel_ending entry_ending chosen_boot decision_at opening_at prompted_boot map_boot whole_boot names_of_section names_of_config started menu_decision menu_boot file_of middle_text target_of menu_entries menu_of meant slot_to slots_for chain_for file_slots file_sectors section_sectors_at flags_of descriptor_for plan_entries sectors_of_table sectors_after plan_sectors map_size plan_names plan_boot plan_boot_sector devices_in inode_places mapped_inode file_inode mapped_section code_in planned
boots_compact = refl

-- addresses by cylinder, head and sector
pub boots_addresses_by_cylinder_head_and_sector : whole_boot (with_sectors (disks_of disk_chs) (record { disk = 0; sector = 0 } ∷ (on 0 (94 ∷ 95 ∷ 96 ∷ 97 ∷ 98 ∷ 99 ∷ 100 ∷ 101 ∷ []))) (plan_boot_sector (planned (disks_of disk_chs) machine_chs volume_chs conf_chs 305419896) machine_chs (on 0 (94 ∷ 95 ∷ 96 ∷ 97 ∷ 98 ∷ 99 ∷ 100 ∷ 101 ∷ [])) (disks_of disk_chs 0 0) ∷ plan_sectors (planned (disks_of disk_chs) machine_chs volume_chs conf_chs 305419896) machine_chs (on 0 (94 ∷ 95 ∷ 96 ∷ 97 ∷ 98 ∷ 99 ∷ 100 ∷ 101 ∷ [])))) machine_chs (record { disk = 0; start = 0; count = 4096 }) [] 16777216 ≡ meant conf_chs (names_in volume_chs (disks_of disk_chs)) (devices_in (disks_of disk_chs) machine_chs) Empty [] 16777216
unfolding number16 number32 is_zero has_ranges has_address is_slot is_one_slot chs_of address_of slot_of some_slot slot_at slot_bytes to_chs to_lba sector_at sectors_of place_at slot_make could_be_one named_device entry_at entries_of table_entries is_link is_plain link_of logical_of listed linked_sector chain_entries chain_tables partitions_of numbered_span span_of disk_name last_partition partition_name device_name devices_of named_devices device_at disk_number device_number kind_of super_of super_checks super_in super_at with_counts super_bytes v1_inode v2_inode inode_of inode_at v1_inode_bytes v2_inode_bytes inode_bytes kept_inode inode_place bit with_bit parts_of volume_at number_in follow pointer_by inside follow_at zone_at block_at content_at entry_of entries_in minixentries_entry_at find_entry entries_at is_dots components child find_path file_block file_at zone_number block content entry first_named lookup reached thing names names_in IsSound child_path path_of link_at section file_content section_bytes is_bootable has_signature has_options has_names has_slots has_no_message has_whole_message has_message has_zeros is_whole timeout_of table_slots boot_of boot_at field_bytes merged_sector is_set entry_name is_printable is_name has_flags has_video has_length has_main has_initrd has_extra is_entry descriptor_of entry_bytes same_name repeats breaks table_at descriptor_bytes options_at extra_at options_bytes extra_bytes is_line line_of line_at line_bytes is_same_line setup_of version_of header_of header_at fit_checks plan_memory replaced_fields patch command_line written_by place kernel_fit course_of words_of meaning foreign_boot slot_bytes_at map_sectors present_line good_map listed_entries settings_of message_of middle_of image_with_line handed_ending main_of loaded_ending kernel_ending entry_ending chosen_boot decision_at opening_at prompted_boot map_boot whole_boot names_of_section names_of_config started menu_decision menu_boot file_of middle_text target_of menu_entries menu_of meant slot_to slots_for chain_for file_slots file_sectors section_sectors_at flags_of descriptor_for plan_entries sectors_of_table sectors_after plan_sectors map_size plan_names plan_boot plan_boot_sector devices_in inode_places mapped_inode file_inode mapped_section code_in planned
boots_addresses_by_cylinder_head_and_sector = refl

-- compact, by cylinder, head and sector
pub boots_compact_by_cylinder_head_and_sector : whole_boot (with_sectors (disks_of disk_compact_chs) (record { disk = 0; sector = 0 } ∷ (on 0 (94 ∷ 95 ∷ 96 ∷ 97 ∷ 98 ∷ 99 ∷ 100 ∷ 101 ∷ []))) (plan_boot_sector (planned (disks_of disk_compact_chs) machine_compact_chs volume_compact_chs conf_compact_chs 305419896) machine_compact_chs (on 0 (94 ∷ 95 ∷ 96 ∷ 97 ∷ 98 ∷ 99 ∷ 100 ∷ 101 ∷ [])) (disks_of disk_compact_chs 0 0) ∷ plan_sectors (planned (disks_of disk_compact_chs) machine_compact_chs volume_compact_chs conf_compact_chs 305419896) machine_compact_chs (on 0 (94 ∷ 95 ∷ 96 ∷ 97 ∷ 98 ∷ 99 ∷ 100 ∷ 101 ∷ [])))) machine_compact_chs (record { disk = 0; start = 0; count = 4096 }) [] 16777216 ≡ meant conf_compact_chs (names_in volume_compact_chs (disks_of disk_compact_chs)) (devices_in (disks_of disk_compact_chs) machine_compact_chs) Empty [] 16777216
unfolding number16 number32 is_zero has_ranges has_address is_slot is_one_slot chs_of address_of slot_of some_slot slot_at slot_bytes to_chs to_lba sector_at sectors_of place_at slot_make could_be_one named_device entry_at entries_of table_entries is_link is_plain link_of logical_of listed linked_sector chain_entries chain_tables partitions_of numbered_span span_of disk_name last_partition partition_name device_name devices_of named_devices device_at disk_number device_number kind_of super_of super_checks super_in super_at with_counts super_bytes v1_inode v2_inode inode_of inode_at v1_inode_bytes v2_inode_bytes inode_bytes kept_inode inode_place bit with_bit parts_of volume_at number_in follow pointer_by inside follow_at zone_at block_at content_at entry_of entries_in minixentries_entry_at find_entry entries_at is_dots components child find_path file_block file_at zone_number block content entry first_named lookup reached thing names names_in IsSound child_path path_of link_at section file_content section_bytes is_bootable has_signature has_options has_names has_slots has_no_message has_whole_message has_message has_zeros is_whole timeout_of table_slots boot_of boot_at field_bytes merged_sector is_set entry_name is_printable is_name has_flags has_video has_length has_main has_initrd has_extra is_entry descriptor_of entry_bytes same_name repeats breaks table_at descriptor_bytes options_at extra_at options_bytes extra_bytes is_line line_of line_at line_bytes is_same_line setup_of version_of header_of header_at fit_checks plan_memory replaced_fields patch command_line written_by place kernel_fit course_of words_of meaning foreign_boot slot_bytes_at map_sectors present_line good_map listed_entries settings_of message_of middle_of image_with_line handed_ending main_of loaded_ending kernel_ending entry_ending chosen_boot decision_at opening_at prompted_boot map_boot whole_boot names_of_section names_of_config started menu_decision menu_boot file_of middle_text target_of menu_entries menu_of meant slot_to slots_for chain_for file_slots file_sectors section_sectors_at flags_of descriptor_for plan_entries sectors_of_table sectors_after plan_sectors map_size plan_names plan_boot plan_boot_sector devices_in inode_places mapped_inode file_inode mapped_section code_in planned
boots_compact_by_cylinder_head_and_sector = refl

-- a hole in a kernel
pub boots_a_hole_in_a_kernel : whole_boot (with_sectors (disks_of disk_hole) (record { disk = 0; sector = 0 } ∷ (on 0 (98 ∷ 99 ∷ 100 ∷ 101 ∷ 102 ∷ 103 ∷ 104 ∷ 105 ∷ []))) (plan_boot_sector (planned (disks_of disk_hole) machine_hole volume_hole conf_hole 305419896) machine_hole (on 0 (98 ∷ 99 ∷ 100 ∷ 101 ∷ 102 ∷ 103 ∷ 104 ∷ 105 ∷ [])) (disks_of disk_hole 0 0) ∷ plan_sectors (planned (disks_of disk_hole) machine_hole volume_hole conf_hole 305419896) machine_hole (on 0 (98 ∷ 99 ∷ 100 ∷ 101 ∷ 102 ∷ 103 ∷ 104 ∷ 105 ∷ [])))) machine_hole (record { disk = 0; start = 0; count = 4096 }) [] 16777216 ≡ meant conf_hole (names_in volume_hole (disks_of disk_hole)) (devices_in (disks_of disk_hole) machine_hole) Empty [] 16777216
unfolding number16 number32 is_zero has_ranges has_address is_slot is_one_slot chs_of address_of slot_of some_slot slot_at slot_bytes to_chs to_lba sector_at sectors_of place_at slot_make could_be_one named_device entry_at entries_of table_entries is_link is_plain link_of logical_of listed linked_sector chain_entries chain_tables partitions_of numbered_span span_of disk_name last_partition partition_name device_name devices_of named_devices device_at disk_number device_number kind_of super_of super_checks super_in super_at with_counts super_bytes v1_inode v2_inode inode_of inode_at v1_inode_bytes v2_inode_bytes inode_bytes kept_inode inode_place bit with_bit parts_of volume_at number_in follow pointer_by inside follow_at zone_at block_at content_at entry_of entries_in minixentries_entry_at find_entry entries_at is_dots components child find_path file_block file_at zone_number block content entry first_named lookup reached thing names names_in IsSound child_path path_of link_at section file_content section_bytes is_bootable has_signature has_options has_names has_slots has_no_message has_whole_message has_message has_zeros is_whole timeout_of table_slots boot_of boot_at field_bytes merged_sector is_set entry_name is_printable is_name has_flags has_video has_length has_main has_initrd has_extra is_entry descriptor_of entry_bytes same_name repeats breaks table_at descriptor_bytes options_at extra_at options_bytes extra_bytes is_line line_of line_at line_bytes is_same_line setup_of version_of header_of header_at fit_checks plan_memory replaced_fields patch command_line written_by place kernel_fit course_of words_of meaning foreign_boot slot_bytes_at map_sectors present_line good_map listed_entries settings_of message_of middle_of image_with_line handed_ending main_of loaded_ending kernel_ending entry_ending chosen_boot decision_at opening_at prompted_boot map_boot whole_boot names_of_section names_of_config started menu_decision menu_boot file_of middle_text target_of menu_entries menu_of meant slot_to slots_for chain_for file_slots file_sectors section_sectors_at flags_of descriptor_for plan_entries sectors_of_table sectors_after plan_sectors map_size plan_names plan_boot plan_boot_sector devices_in inode_places mapped_inode file_inode mapped_section code_in planned
boots_a_hole_in_a_kernel = refl

-- a hole, and compact
pub boots_a_hole_and_compact : whole_boot (with_sectors (disks_of disk_hole_compact) (record { disk = 0; sector = 0 } ∷ (on 0 (98 ∷ 99 ∷ 100 ∷ 101 ∷ 102 ∷ 103 ∷ 104 ∷ 105 ∷ []))) (plan_boot_sector (planned (disks_of disk_hole_compact) machine_hole_compact volume_hole_compact conf_hole_compact 305419896) machine_hole_compact (on 0 (98 ∷ 99 ∷ 100 ∷ 101 ∷ 102 ∷ 103 ∷ 104 ∷ 105 ∷ [])) (disks_of disk_hole_compact 0 0) ∷ plan_sectors (planned (disks_of disk_hole_compact) machine_hole_compact volume_hole_compact conf_hole_compact 305419896) machine_hole_compact (on 0 (98 ∷ 99 ∷ 100 ∷ 101 ∷ 102 ∷ 103 ∷ 104 ∷ 105 ∷ [])))) machine_hole_compact (record { disk = 0; start = 0; count = 4096 }) [] 16777216 ≡ meant conf_hole_compact (names_in volume_hole_compact (disks_of disk_hole_compact)) (devices_in (disks_of disk_hole_compact) machine_hole_compact) Empty [] 16777216
unfolding number16 number32 is_zero has_ranges has_address is_slot is_one_slot chs_of address_of slot_of some_slot slot_at slot_bytes to_chs to_lba sector_at sectors_of place_at slot_make could_be_one named_device entry_at entries_of table_entries is_link is_plain link_of logical_of listed linked_sector chain_entries chain_tables partitions_of numbered_span span_of disk_name last_partition partition_name device_name devices_of named_devices device_at disk_number device_number kind_of super_of super_checks super_in super_at with_counts super_bytes v1_inode v2_inode inode_of inode_at v1_inode_bytes v2_inode_bytes inode_bytes kept_inode inode_place bit with_bit parts_of volume_at number_in follow pointer_by inside follow_at zone_at block_at content_at entry_of entries_in minixentries_entry_at find_entry entries_at is_dots components child find_path file_block file_at zone_number block content entry first_named lookup reached thing names names_in IsSound child_path path_of link_at section file_content section_bytes is_bootable has_signature has_options has_names has_slots has_no_message has_whole_message has_message has_zeros is_whole timeout_of table_slots boot_of boot_at field_bytes merged_sector is_set entry_name is_printable is_name has_flags has_video has_length has_main has_initrd has_extra is_entry descriptor_of entry_bytes same_name repeats breaks table_at descriptor_bytes options_at extra_at options_bytes extra_bytes is_line line_of line_at line_bytes is_same_line setup_of version_of header_of header_at fit_checks plan_memory replaced_fields patch command_line written_by place kernel_fit course_of words_of meaning foreign_boot slot_bytes_at map_sectors present_line good_map listed_entries settings_of message_of middle_of image_with_line handed_ending main_of loaded_ending kernel_ending entry_ending chosen_boot decision_at opening_at prompted_boot map_boot whole_boot names_of_section names_of_config started menu_decision menu_boot file_of middle_text target_of menu_entries menu_of meant slot_to slots_for chain_for file_slots file_sectors section_sectors_at flags_of descriptor_for plan_entries sectors_of_table sectors_after plan_sectors map_size plan_names plan_boot plan_boot_sector devices_in inode_places mapped_inode file_inode mapped_section code_in planned
boots_a_hole_and_compact = refl

-- a restricted password
pub boots_a_restricted_password : whole_boot (with_sectors (disks_of disk_password) (record { disk = 0; sector = 0 } ∷ (on 0 (94 ∷ 95 ∷ 96 ∷ 97 ∷ 98 ∷ 99 ∷ 100 ∷ 101 ∷ 102 ∷ []))) (plan_boot_sector (planned (disks_of disk_password) machine_password volume_password conf_password 305419896) machine_password (on 0 (94 ∷ 95 ∷ 96 ∷ 97 ∷ 98 ∷ 99 ∷ 100 ∷ 101 ∷ 102 ∷ [])) (disks_of disk_password 0 0) ∷ plan_sectors (planned (disks_of disk_password) machine_password volume_password conf_password 305419896) machine_password (on 0 (94 ∷ 95 ∷ 96 ∷ 97 ∷ 98 ∷ 99 ∷ 100 ∷ 101 ∷ 102 ∷ [])))) machine_password (record { disk = 0; start = 0; count = 4096 }) (typed (codes "linux\n")) 16777216 ≡ meant conf_password (names_in volume_password (disks_of disk_password)) (devices_in (disks_of disk_password) machine_password) Empty (typed (codes "linux\n")) 16777216
unfolding number16 number32 is_zero has_ranges has_address is_slot is_one_slot chs_of address_of slot_of some_slot slot_at slot_bytes to_chs to_lba sector_at sectors_of place_at slot_make could_be_one named_device entry_at entries_of table_entries is_link is_plain link_of logical_of listed linked_sector chain_entries chain_tables partitions_of numbered_span span_of disk_name last_partition partition_name device_name devices_of named_devices device_at disk_number device_number kind_of super_of super_checks super_in super_at with_counts super_bytes v1_inode v2_inode inode_of inode_at v1_inode_bytes v2_inode_bytes inode_bytes kept_inode inode_place bit with_bit parts_of volume_at number_in follow pointer_by inside follow_at zone_at block_at content_at entry_of entries_in minixentries_entry_at find_entry entries_at is_dots components child find_path file_block file_at zone_number block content entry first_named lookup reached thing names names_in IsSound child_path path_of link_at section file_content section_bytes is_bootable has_signature has_options has_names has_slots has_no_message has_whole_message has_message has_zeros is_whole timeout_of table_slots boot_of boot_at field_bytes merged_sector is_set entry_name is_printable is_name has_flags has_video has_length has_main has_initrd has_extra is_entry descriptor_of entry_bytes same_name repeats breaks table_at descriptor_bytes options_at extra_at options_bytes extra_bytes is_line line_of line_at line_bytes is_same_line setup_of version_of header_of header_at fit_checks plan_memory replaced_fields patch command_line written_by place kernel_fit course_of words_of meaning foreign_boot slot_bytes_at map_sectors present_line good_map listed_entries settings_of message_of middle_of image_with_line handed_ending main_of loaded_ending kernel_ending entry_ending chosen_boot decision_at opening_at prompted_boot map_boot whole_boot names_of_section names_of_config started menu_decision menu_boot file_of middle_text target_of menu_entries menu_of meant slot_to slots_for chain_for file_slots file_sectors section_sectors_at flags_of descriptor_for plan_entries sectors_of_table sectors_after plan_sectors map_size plan_names plan_boot plan_boot_sector devices_in inode_places mapped_inode file_inode mapped_section code_in planned
boots_a_restricted_password = refl

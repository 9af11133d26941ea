-- Cases of the model, written by tools/plan_cases.py: planned maps boot as is meant.
use Rattle.std.proofs.Common.{◌≡◌, ◌∷◌, ◌++◌, [], codes, refl}
use Rattle.lilo_model.specs.Boot.{foreign_boot, slot_bytes_at, map_sectors, present_line, good_map, listed_entries, settings_of, message_of, middle_of, image_with_line, handed_ending, main_of, loaded_ending, kernel_ending, entry_ending, chosen_boot, decision_at, opening_at, prompted_boot, map_boot, whole_boot}
use Rattle.lilo_model.specs.BootSector.{is_bootable, has_signature, has_options, has_names, has_slots, has_no_message, has_whole_message, has_message, has_zeros, is_whole, timeout_of, table_slots, boot_of, boot_at, field_bytes, merged_sector}
use Rattle.lilo_model.specs.Bytes.{number16, number32, is_zero}
use Rattle.lilo_model.specs.Choice.{course_of}
use Rattle.lilo_model.specs.ConfLawful.{names_of_section, names_of_config}
use Rattle.lilo_model.specs.DefaultLine.{Empty}
use Rattle.lilo_model.specs.Devices.{disk_name, last_partition, partition_name, device_name, devices_of, named_devices, device_at, disk_number, device_number}
use Rattle.lilo_model.specs.Header.{setup_of, version_of, header_of, header_at, fit_checks, plan_memory, replaced_fields, patch}
use Rattle.lilo_model.specs.LineSector.{is_line, line_of, line_at, line_bytes, is_same_line}
use Rattle.lilo_model.specs.LineWords.{words_of, meaning}
use Rattle.lilo_model.specs.Meant.{started, menu_decision, menu_boot, file_of, middle_text, target_of, menu_entries, menu_of, meant}
use Rattle.lilo_model.specs.MinixEntries.{entry_of, entries_in, entry_at as minixentries_entry_at, find_entry, entries_at, is_dots}
use Rattle.lilo_model.specs.MinixFind.{components, child, find_path, file_block, file_at}
use Rattle.lilo_model.specs.MinixFindNames.{child_path, path_of}
use Rattle.lilo_model.specs.MinixLayout.{kind_of, super_of, super_checks, super_in, super_at, with_counts, super_bytes, v1_inode, v2_inode, inode_of, inode_at, v1_inode_bytes, v2_inode_bytes, inode_bytes, kept_inode, inode_place}
use Rattle.lilo_model.specs.MinixNames.{zone_number, block, content, entry, first_named, lookup, reached, thing, names, names_in, IsSound}
use Rattle.lilo_model.specs.MinixParts.{bit, with_bit, parts_of, volume_at, number_in, follow, pointer_by, inside, follow_at, zone_at, block_at, content_at}
use Rattle.lilo_model.specs.Options.{options_at, extra_at, options_bytes, extra_bytes}
use Rattle.lilo_model.specs.Partitions.{named_device, entry_at, entries_of, table_entries, is_link, is_plain, link_of, logical_of, listed, linked_sector, chain_entries, chain_tables, partitions_of, numbered_span, span_of}
use Rattle.lilo_model.specs.Place.{command_line, written_by, place, kernel_fit}
use Rattle.lilo_model.specs.Plan.{slot_to, slots_for, chain_for, file_slots, file_sectors, section_sectors_at, flags_of, descriptor_for, plan_entries, sectors_of_table, sectors_after, plan_sectors, map_size, plan_names, plan_boot, plan_boot_sector}
use Rattle.lilo_model.specs.Planned.{devices_in, inode_places, mapped_inode, file_inode, mapped_section, code_in, planned}
use Rattle.lilo_model.specs.Section.{link_at, section, file_content, section_bytes}
use Rattle.lilo_model.specs.Slots.{has_ranges, has_address, is_slot, is_one_slot, chs_of, address_of, slot_of, some_slot, slot_at, slot_bytes, to_chs, to_lba, sector_at, sectors_of, place_at, slot_make, could_be_one}
use Rattle.lilo_model.specs.Table.{is_set, entry_name, is_printable, is_name, has_flags, has_video, has_length, has_main, has_initrd, has_extra, is_entry, descriptor_of, entry_bytes, same_name, repeats, breaks, table_at, descriptor_bytes}
use Rattle.model_cases.specs.Sparse.{hex, disks_of, on, typed, waited}
use Rattle.model_cases.specs.Volumes.{with_sectors}
use Rattle.model_cases.specs.PlanChanceConfs1.{conf_r21, conf_r27, conf_r9}
use Rattle.model_cases.specs.PlanChanceConfs2.{conf_r33, conf_r45, conf_r51}
use Rattle.model_cases.specs.PlanConfs.{conf_full}
use Rattle.model_cases.specs.PlanDisks.{disk_full, disk_many}
use Rattle.model_cases.specs.PlanVolumes.{machine_full, machine_many, volume_full, volume_many}

-- compact, a message, an initrd, and two other systems, one with the table of the boot device
pub boots_compact_a_message_an_initrd_and_two_other_systems_one_with_the_table_of_the_boot_device : whole_boot (with_sectors (disks_of disk_full) (record { disk = 0; sector = 0 } ∷ (on 0 (96 ∷ 97 ∷ 98 ∷ 99 ∷ 100 ∷ 101 ∷ 102 ∷ 103 ∷ 104 ∷ 105 ∷ 106 ∷ 107 ∷ 108 ∷ 109 ∷ []))) (plan_boot_sector (planned (disks_of disk_full) machine_full volume_full conf_full 305419896) machine_full (on 0 (96 ∷ 97 ∷ 98 ∷ 99 ∷ 100 ∷ 101 ∷ 102 ∷ 103 ∷ 104 ∷ 105 ∷ 106 ∷ 107 ∷ 108 ∷ 109 ∷ [])) (disks_of disk_full 0 0) ∷ plan_sectors (planned (disks_of disk_full) machine_full volume_full conf_full 305419896) machine_full (on 0 (96 ∷ 97 ∷ 98 ∷ 99 ∷ 100 ∷ 101 ∷ 102 ∷ 103 ∷ 104 ∷ 105 ∷ 106 ∷ 107 ∷ 108 ∷ 109 ∷ [])))) machine_full (record { disk = 0; start = 0; count = 4096 }) (typed (codes "dos\n")) 16777216 ≡ meant conf_full (names_in volume_full (disks_of disk_full)) (devices_in (disks_of disk_full) machine_full) Empty (typed (codes "dos\n")) 16777216
unfolding number16 number32 is_zero has_ranges has_address is_slot is_one_slot chs_of address_of slot_of some_slot slot_at slot_bytes to_chs to_lba sector_at sectors_of place_at slot_make could_be_one named_device entry_at entries_of table_entries is_link is_plain link_of logical_of listed linked_sector chain_entries chain_tables partitions_of numbered_span span_of disk_name last_partition partition_name device_name devices_of named_devices device_at disk_number device_number kind_of super_of super_checks super_in super_at with_counts super_bytes v1_inode v2_inode inode_of inode_at v1_inode_bytes v2_inode_bytes inode_bytes kept_inode inode_place bit with_bit parts_of volume_at number_in follow pointer_by inside follow_at zone_at block_at content_at entry_of entries_in minixentries_entry_at find_entry entries_at is_dots components child find_path file_block file_at zone_number block content entry first_named lookup reached thing names names_in IsSound child_path path_of link_at section file_content section_bytes is_bootable has_signature has_options has_names has_slots has_no_message has_whole_message has_message has_zeros is_whole timeout_of table_slots boot_of boot_at field_bytes merged_sector is_set entry_name is_printable is_name has_flags has_video has_length has_main has_initrd has_extra is_entry descriptor_of entry_bytes same_name repeats breaks table_at descriptor_bytes options_at extra_at options_bytes extra_bytes is_line line_of line_at line_bytes is_same_line setup_of version_of header_of header_at fit_checks plan_memory replaced_fields patch command_line written_by place kernel_fit course_of words_of meaning foreign_boot slot_bytes_at map_sectors present_line good_map listed_entries settings_of message_of middle_of image_with_line handed_ending main_of loaded_ending kernel_ending entry_ending chosen_boot decision_at opening_at prompted_boot map_boot whole_boot names_of_section names_of_config started menu_decision menu_boot file_of middle_text target_of menu_entries menu_of meant slot_to slots_for chain_for file_slots file_sectors section_sectors_at flags_of descriptor_for plan_entries sectors_of_table sectors_after plan_sectors map_size plan_names plan_boot plan_boot_sector devices_in inode_places mapped_inode file_inode mapped_section code_in planned
boots_compact_a_message_an_initrd_and_two_other_systems_one_with_the_table_of_the_boot_device = refl

-- by chance 9
pub boots_by_chance_9 : whole_boot (with_sectors (disks_of disk_many) (record { disk = 0; sector = 0 } ∷ (on 0 (190 ∷ 191 ∷ 192 ∷ 193 ∷ 194 ∷ 195 ∷ 196 ∷ 197 ∷ []))) (plan_boot_sector (planned (disks_of disk_many) machine_many volume_many conf_r9 8) machine_many (on 0 (190 ∷ 191 ∷ 192 ∷ 193 ∷ 194 ∷ 195 ∷ 196 ∷ 197 ∷ [])) (disks_of disk_many 0 0) ∷ plan_sectors (planned (disks_of disk_many) machine_many volume_many conf_r9 8) machine_many (on 0 (190 ∷ 191 ∷ 192 ∷ 193 ∷ 194 ∷ 195 ∷ 196 ∷ 197 ∷ [])))) machine_many (record { disk = 0; start = 0; count = 4096 }) (typed (codes "win lock\n") ++ waited 1 ++ typed (hex 2 0x3f15) ++ waited 4 ++ typed (hex 4 0x77696e15)) 2097152 ≡ meant conf_r9 (names_in volume_many (disks_of disk_many)) (devices_in (disks_of disk_many) machine_many) Empty (typed (codes "win lock\n") ++ waited 1 ++ typed (hex 2 0x3f15) ++ waited 4 ++ typed (hex 4 0x77696e15)) 2097152
unfolding number16 number32 is_zero has_ranges has_address is_slot is_one_slot chs_of address_of slot_of some_slot slot_at slot_bytes to_chs to_lba sector_at sectors_of place_at slot_make could_be_one named_device entry_at entries_of table_entries is_link is_plain link_of logical_of listed linked_sector chain_entries chain_tables partitions_of numbered_span span_of disk_name last_partition partition_name device_name devices_of named_devices device_at disk_number device_number kind_of super_of super_checks super_in super_at with_counts super_bytes v1_inode v2_inode inode_of inode_at v1_inode_bytes v2_inode_bytes inode_bytes kept_inode inode_place bit with_bit parts_of volume_at number_in follow pointer_by inside follow_at zone_at block_at content_at entry_of entries_in minixentries_entry_at find_entry entries_at is_dots components child find_path file_block file_at zone_number block content entry first_named lookup reached thing names names_in IsSound child_path path_of link_at section file_content section_bytes is_bootable has_signature has_options has_names has_slots has_no_message has_whole_message has_message has_zeros is_whole timeout_of table_slots boot_of boot_at field_bytes merged_sector is_set entry_name is_printable is_name has_flags has_video has_length has_main has_initrd has_extra is_entry descriptor_of entry_bytes same_name repeats breaks table_at descriptor_bytes options_at extra_at options_bytes extra_bytes is_line line_of line_at line_bytes is_same_line setup_of version_of header_of header_at fit_checks plan_memory replaced_fields patch command_line written_by place kernel_fit course_of words_of meaning foreign_boot slot_bytes_at map_sectors present_line good_map listed_entries settings_of message_of middle_of image_with_line handed_ending main_of loaded_ending kernel_ending entry_ending chosen_boot decision_at opening_at prompted_boot map_boot whole_boot names_of_section names_of_config started menu_decision menu_boot file_of middle_text target_of menu_entries menu_of meant slot_to slots_for chain_for file_slots file_sectors section_sectors_at flags_of descriptor_for plan_entries sectors_of_table sectors_after plan_sectors map_size plan_names plan_boot plan_boot_sector devices_in inode_places mapped_inode file_inode mapped_section code_in planned
boots_by_chance_9 = refl

-- by chance 21
pub boots_by_chance_21 : whole_boot (with_sectors (disks_of disk_many) (record { disk = 0; sector = 0 } ∷ (on 0 (190 ∷ 191 ∷ 192 ∷ 193 ∷ 194 ∷ 195 ∷ 196 ∷ 197 ∷ 198 ∷ 199 ∷ 200 ∷ []))) (plan_boot_sector (planned (disks_of disk_many) machine_many volume_many conf_r21 20) machine_many (on 0 (190 ∷ 191 ∷ 192 ∷ 193 ∷ 194 ∷ 195 ∷ 196 ∷ 197 ∷ 198 ∷ 199 ∷ 200 ∷ [])) (disks_of disk_many 0 0) ∷ plan_sectors (planned (disks_of disk_many) machine_many volume_many conf_r21 20) machine_many (on 0 (190 ∷ 191 ∷ 192 ∷ 193 ∷ 194 ∷ 195 ∷ 196 ∷ 197 ∷ 198 ∷ 199 ∷ 200 ∷ [])))) machine_many (record { disk = 0; start = 0; count = 4096 }) (typed (codes "tux\n") ++ waited 60 ++ typed (hex 6 0x6f6c6415090a)) 1073741824 ≡ meant conf_r21 (names_in volume_many (disks_of disk_many)) (devices_in (disks_of disk_many) machine_many) Empty (typed (codes "tux\n") ++ waited 60 ++ typed (hex 6 0x6f6c6415090a)) 1073741824
unfolding number16 number32 is_zero has_ranges has_address is_slot is_one_slot chs_of address_of slot_of some_slot slot_at slot_bytes to_chs to_lba sector_at sectors_of place_at slot_make could_be_one named_device entry_at entries_of table_entries is_link is_plain link_of logical_of listed linked_sector chain_entries chain_tables partitions_of numbered_span span_of disk_name last_partition partition_name device_name devices_of named_devices device_at disk_number device_number kind_of super_of super_checks super_in super_at with_counts super_bytes v1_inode v2_inode inode_of inode_at v1_inode_bytes v2_inode_bytes inode_bytes kept_inode inode_place bit with_bit parts_of volume_at number_in follow pointer_by inside follow_at zone_at block_at content_at entry_of entries_in minixentries_entry_at find_entry entries_at is_dots components child find_path file_block file_at zone_number block content entry first_named lookup reached thing names names_in IsSound child_path path_of link_at section file_content section_bytes is_bootable has_signature has_options has_names has_slots has_no_message has_whole_message has_message has_zeros is_whole timeout_of table_slots boot_of boot_at field_bytes merged_sector is_set entry_name is_printable is_name has_flags has_video has_length has_main has_initrd has_extra is_entry descriptor_of entry_bytes same_name repeats breaks table_at descriptor_bytes options_at extra_at options_bytes extra_bytes is_line line_of line_at line_bytes is_same_line setup_of version_of header_of header_at fit_checks plan_memory replaced_fields patch command_line written_by place kernel_fit course_of words_of meaning foreign_boot slot_bytes_at map_sectors present_line good_map listed_entries settings_of message_of middle_of image_with_line handed_ending main_of loaded_ending kernel_ending entry_ending chosen_boot decision_at opening_at prompted_boot map_boot whole_boot names_of_section names_of_config started menu_decision menu_boot file_of middle_text target_of menu_entries menu_of meant slot_to slots_for chain_for file_slots file_sectors section_sectors_at flags_of descriptor_for plan_entries sectors_of_table sectors_after plan_sectors map_size plan_names plan_boot plan_boot_sector devices_in inode_places mapped_inode file_inode mapped_section code_in planned
boots_by_chance_21 = refl

-- by chance 27
pub boots_by_chance_27 : whole_boot (with_sectors (disks_of disk_many) (record { disk = 0; sector = 0 } ∷ (on 0 (190 ∷ 191 ∷ 192 ∷ 193 ∷ 194 ∷ 195 ∷ 196 ∷ 197 ∷ []))) (plan_boot_sector (planned (disks_of disk_many) machine_many volume_many conf_r27 26) machine_many (on 0 (190 ∷ 191 ∷ 192 ∷ 193 ∷ 194 ∷ 195 ∷ 196 ∷ 197 ∷ [])) (disks_of disk_many 0 0) ∷ plan_sectors (planned (disks_of disk_many) machine_many volume_many conf_r27 26) machine_many (on 0 (190 ∷ 191 ∷ 192 ∷ 193 ∷ 194 ∷ 195 ∷ 196 ∷ 197 ∷ [])))) machine_many (record { disk = 0; start = 0; count = 4096 }) (waited 60 ++ typed (codes "tux\n")) 2097152 ≡ meant conf_r27 (names_in volume_many (disks_of disk_many)) (devices_in (disks_of disk_many) machine_many) Empty (waited 60 ++ typed (codes "tux\n")) 2097152
unfolding number16 number32 is_zero has_ranges has_address is_slot is_one_slot chs_of address_of slot_of some_slot slot_at slot_bytes to_chs to_lba sector_at sectors_of place_at slot_make could_be_one named_device entry_at entries_of table_entries is_link is_plain link_of logical_of listed linked_sector chain_entries chain_tables partitions_of numbered_span span_of disk_name last_partition partition_name device_name devices_of named_devices device_at disk_number device_number kind_of super_of super_checks super_in super_at with_counts super_bytes v1_inode v2_inode inode_of inode_at v1_inode_bytes v2_inode_bytes inode_bytes kept_inode inode_place bit with_bit parts_of volume_at number_in follow pointer_by inside follow_at zone_at block_at content_at entry_of entries_in minixentries_entry_at find_entry entries_at is_dots components child find_path file_block file_at zone_number block content entry first_named lookup reached thing names names_in IsSound child_path path_of link_at section file_content section_bytes is_bootable has_signature has_options has_names has_slots has_no_message has_whole_message has_message has_zeros is_whole timeout_of table_slots boot_of boot_at field_bytes merged_sector is_set entry_name is_printable is_name has_flags has_video has_length has_main has_initrd has_extra is_entry descriptor_of entry_bytes same_name repeats breaks table_at descriptor_bytes options_at extra_at options_bytes extra_bytes is_line line_of line_at line_bytes is_same_line setup_of version_of header_of header_at fit_checks plan_memory replaced_fields patch command_line written_by place kernel_fit course_of words_of meaning foreign_boot slot_bytes_at map_sectors present_line good_map listed_entries settings_of message_of middle_of image_with_line handed_ending main_of loaded_ending kernel_ending entry_ending chosen_boot decision_at opening_at prompted_boot map_boot whole_boot names_of_section names_of_config started menu_decision menu_boot file_of middle_text target_of menu_entries menu_of meant slot_to slots_for chain_for file_slots file_sectors section_sectors_at flags_of descriptor_for plan_entries sectors_of_table sectors_after plan_sectors map_size plan_names plan_boot plan_boot_sector devices_in inode_places mapped_inode file_inode mapped_section code_in planned
boots_by_chance_27 = refl

-- by chance 33
pub boots_by_chance_33 : whole_boot (with_sectors (disks_of disk_many) (record { disk = 0; sector = 0 } ∷ (on 0 (190 ∷ 191 ∷ 192 ∷ 193 ∷ 194 ∷ 195 ∷ 196 ∷ 197 ∷ 198 ∷ []))) (plan_boot_sector (planned (disks_of disk_many) machine_many volume_many conf_r33 32) machine_many (on 0 (190 ∷ 191 ∷ 192 ∷ 193 ∷ 194 ∷ 195 ∷ 196 ∷ 197 ∷ 198 ∷ [])) (disks_of disk_many 0 0) ∷ plan_sectors (planned (disks_of disk_many) machine_many volume_many conf_r33 32) machine_many (on 0 (190 ∷ 191 ∷ 192 ∷ 193 ∷ 194 ∷ 195 ∷ 196 ∷ 197 ∷ 198 ∷ [])))) machine_many (record { disk = 0; start = 0; count = 4096 }) (waited 60 ++ typed (hex 13 0x6c696e75782073696e676c6515)) 2097152 ≡ meant conf_r33 (names_in volume_many (disks_of disk_many)) (devices_in (disks_of disk_many) machine_many) Empty (waited 60 ++ typed (hex 13 0x6c696e75782073696e676c6515)) 2097152
unfolding number16 number32 is_zero has_ranges has_address is_slot is_one_slot chs_of address_of slot_of some_slot slot_at slot_bytes to_chs to_lba sector_at sectors_of place_at slot_make could_be_one named_device entry_at entries_of table_entries is_link is_plain link_of logical_of listed linked_sector chain_entries chain_tables partitions_of numbered_span span_of disk_name last_partition partition_name device_name devices_of named_devices device_at disk_number device_number kind_of super_of super_checks super_in super_at with_counts super_bytes v1_inode v2_inode inode_of inode_at v1_inode_bytes v2_inode_bytes inode_bytes kept_inode inode_place bit with_bit parts_of volume_at number_in follow pointer_by inside follow_at zone_at block_at content_at entry_of entries_in minixentries_entry_at find_entry entries_at is_dots components child find_path file_block file_at zone_number block content entry first_named lookup reached thing names names_in IsSound child_path path_of link_at section file_content section_bytes is_bootable has_signature has_options has_names has_slots has_no_message has_whole_message has_message has_zeros is_whole timeout_of table_slots boot_of boot_at field_bytes merged_sector is_set entry_name is_printable is_name has_flags has_video has_length has_main has_initrd has_extra is_entry descriptor_of entry_bytes same_name repeats breaks table_at descriptor_bytes options_at extra_at options_bytes extra_bytes is_line line_of line_at line_bytes is_same_line setup_of version_of header_of header_at fit_checks plan_memory replaced_fields patch command_line written_by place kernel_fit course_of words_of meaning foreign_boot slot_bytes_at map_sectors present_line good_map listed_entries settings_of message_of middle_of image_with_line handed_ending main_of loaded_ending kernel_ending entry_ending chosen_boot decision_at opening_at prompted_boot map_boot whole_boot names_of_section names_of_config started menu_decision menu_boot file_of middle_text target_of menu_entries menu_of meant slot_to slots_for chain_for file_slots file_sectors section_sectors_at flags_of descriptor_for plan_entries sectors_of_table sectors_after plan_sectors map_size plan_names plan_boot plan_boot_sector devices_in inode_places mapped_inode file_inode mapped_section code_in planned
boots_by_chance_33 = refl

-- by chance 45
pub boots_by_chance_45 : whole_boot (with_sectors (disks_of disk_many) (record { disk = 0; sector = 0 } ∷ (on 0 (190 ∷ 191 ∷ 192 ∷ 193 ∷ 194 ∷ 195 ∷ 196 ∷ []))) (plan_boot_sector (planned (disks_of disk_many) machine_many volume_many conf_r45 44) machine_many (on 0 (190 ∷ 191 ∷ 192 ∷ 193 ∷ 194 ∷ 195 ∷ 196 ∷ [])) (disks_of disk_many 0 0) ∷ plan_sectors (planned (disks_of disk_many) machine_many volume_many conf_r45 44) machine_many (on 0 (190 ∷ 191 ∷ 192 ∷ 193 ∷ 194 ∷ 195 ∷ 196 ∷ [])))) machine_many (record { disk = 0; start = 0; count = 4096 }) (waited 4 ++ typed (hex 13 0x6c696e75782073696e676c650d)) 2097152 ≡ meant conf_r45 (names_in volume_many (disks_of disk_many)) (devices_in (disks_of disk_many) machine_many) Empty (waited 4 ++ typed (hex 13 0x6c696e75782073696e676c650d)) 2097152
unfolding number16 number32 is_zero has_ranges has_address is_slot is_one_slot chs_of address_of slot_of some_slot slot_at slot_bytes to_chs to_lba sector_at sectors_of place_at slot_make could_be_one named_device entry_at entries_of table_entries is_link is_plain link_of logical_of listed linked_sector chain_entries chain_tables partitions_of numbered_span span_of disk_name last_partition partition_name device_name devices_of named_devices device_at disk_number device_number kind_of super_of super_checks super_in super_at with_counts super_bytes v1_inode v2_inode inode_of inode_at v1_inode_bytes v2_inode_bytes inode_bytes kept_inode inode_place bit with_bit parts_of volume_at number_in follow pointer_by inside follow_at zone_at block_at content_at entry_of entries_in minixentries_entry_at find_entry entries_at is_dots components child find_path file_block file_at zone_number block content entry first_named lookup reached thing names names_in IsSound child_path path_of link_at section file_content section_bytes is_bootable has_signature has_options has_names has_slots has_no_message has_whole_message has_message has_zeros is_whole timeout_of table_slots boot_of boot_at field_bytes merged_sector is_set entry_name is_printable is_name has_flags has_video has_length has_main has_initrd has_extra is_entry descriptor_of entry_bytes same_name repeats breaks table_at descriptor_bytes options_at extra_at options_bytes extra_bytes is_line line_of line_at line_bytes is_same_line setup_of version_of header_of header_at fit_checks plan_memory replaced_fields patch command_line written_by place kernel_fit course_of words_of meaning foreign_boot slot_bytes_at map_sectors present_line good_map listed_entries settings_of message_of middle_of image_with_line handed_ending main_of loaded_ending kernel_ending entry_ending chosen_boot decision_at opening_at prompted_boot map_boot whole_boot names_of_section names_of_config started menu_decision menu_boot file_of middle_text target_of menu_entries menu_of meant slot_to slots_for chain_for file_slots file_sectors section_sectors_at flags_of descriptor_for plan_entries sectors_of_table sectors_after plan_sectors map_size plan_names plan_boot plan_boot_sector devices_in inode_places mapped_inode file_inode mapped_section code_in planned
boots_by_chance_45 = refl

-- by chance 51
pub boots_by_chance_51 : whole_boot (with_sectors (disks_of disk_many) (record { disk = 0; sector = 0 } ∷ (on 0 (190 ∷ 191 ∷ 192 ∷ 193 ∷ 194 ∷ 195 ∷ 196 ∷ 197 ∷ []))) (plan_boot_sector (planned (disks_of disk_many) machine_many volume_many conf_r51 50) machine_many (on 0 (190 ∷ 191 ∷ 192 ∷ 193 ∷ 194 ∷ 195 ∷ 196 ∷ 197 ∷ [])) (disks_of disk_many 0 0) ∷ plan_sectors (planned (disks_of disk_many) machine_many volume_many conf_r51 50) machine_many (on 0 (190 ∷ 191 ∷ 192 ∷ 193 ∷ 194 ∷ 195 ∷ 196 ∷ 197 ∷ [])))) machine_many (record { disk = 0; start = 0; count = 4096 }) [] 16777216 ≡ meant conf_r51 (names_in volume_many (disks_of disk_many)) (devices_in (disks_of disk_many) machine_many) Empty [] 16777216
unfolding number16 number32 is_zero has_ranges has_address is_slot is_one_slot chs_of address_of slot_of some_slot slot_at slot_bytes to_chs to_lba sector_at sectors_of place_at slot_make could_be_one named_device entry_at entries_of table_entries is_link is_plain link_of logical_of listed linked_sector chain_entries chain_tables partitions_of numbered_span span_of disk_name last_partition partition_name device_name devices_of named_devices device_at disk_number device_number kind_of super_of super_checks super_in super_at with_counts super_bytes v1_inode v2_inode inode_of inode_at v1_inode_bytes v2_inode_bytes inode_bytes kept_inode inode_place bit with_bit parts_of volume_at number_in follow pointer_by inside follow_at zone_at block_at content_at entry_of entries_in minixentries_entry_at find_entry entries_at is_dots components child find_path file_block file_at zone_number block content entry first_named lookup reached thing names names_in IsSound child_path path_of link_at section file_content section_bytes is_bootable has_signature has_options has_names has_slots has_no_message has_whole_message has_message has_zeros is_whole timeout_of table_slots boot_of boot_at field_bytes merged_sector is_set entry_name is_printable is_name has_flags has_video has_length has_main has_initrd has_extra is_entry descriptor_of entry_bytes same_name repeats breaks table_at descriptor_bytes options_at extra_at options_bytes extra_bytes is_line line_of line_at line_bytes is_same_line setup_of version_of header_of header_at fit_checks plan_memory replaced_fields patch command_line written_by place kernel_fit course_of words_of meaning foreign_boot slot_bytes_at map_sectors present_line good_map listed_entries settings_of message_of middle_of image_with_line handed_ending main_of loaded_ending kernel_ending entry_ending chosen_boot decision_at opening_at prompted_boot map_boot whole_boot names_of_section names_of_config started menu_decision menu_boot file_of middle_text target_of menu_entries menu_of meant slot_to slots_for chain_for file_slots file_sectors section_sectors_at flags_of descriptor_for plan_entries sectors_of_table sectors_after plan_sectors map_size plan_names plan_boot plan_boot_sector devices_in inode_places mapped_inode file_inode mapped_section code_in planned
boots_by_chance_51 = refl

-- Cases of the model, written by tools/plan_cases.py: planned maps boot as is meant.
use Rattle.std.proofs.Common.{◌≡◌, ◌∷◌, [], codes, refl}
use Rattle.lilo_model.specs.Boot.{foreign_boot, slot_bytes_at, map_sectors, present_line, good_map, listed_entries, settings_of, message_of, middle_of, image_with_line, handed_ending, main_of, loaded_ending, kernel_ending, entry_ending, chosen_boot, decision_at, opening_at, prompted_boot, map_boot, whole_boot}
use Rattle.lilo_model.specs.BootSector.{is_bootable, has_signature, has_options, has_names, has_slots, has_no_message, has_whole_message, has_message, has_zeros, is_whole, timeout_of, table_slots, boot_of, boot_at, field_bytes, merged_sector}
use Rattle.lilo_model.specs.Bytes.{number16, number32, is_zero}
use Rattle.lilo_model.specs.Choice.{course_of}
use Rattle.lilo_model.specs.ConfLawful.{names_of_section, names_of_config}
use Rattle.lilo_model.specs.DefaultLine.{Empty}
use Rattle.lilo_model.specs.Devices.{disk_name, last_partition, partition_name, device_name, devices_of, named_devices, device_at, disk_number, device_number}
use Rattle.lilo_model.specs.Header.{setup_of, version_of, header_of, header_at, fit_checks, plan_memory, replaced_fields, patch}
use Rattle.lilo_model.specs.LineSector.{is_line, line_of, line_at, line_bytes, is_same_line}
use Rattle.lilo_model.specs.LineWords.{words_of, meaning}
use Rattle.lilo_model.specs.Meant.{started, menu_decision, menu_boot, file_of, middle_text, target_of, menu_entries, menu_of, meant}
use Rattle.lilo_model.specs.MinixEntries.{entry_of, entries_in, entry_at as minixentries_entry_at, find_entry, entries_at, is_dots}
use Rattle.lilo_model.specs.MinixFind.{components, child, find_path, file_block, file_at}
use Rattle.lilo_model.specs.MinixFindNames.{child_path, path_of}
use Rattle.lilo_model.specs.MinixLayout.{kind_of, super_of, super_checks, super_in, super_at, with_counts, super_bytes, v1_inode, v2_inode, inode_of, inode_at, v1_inode_bytes, v2_inode_bytes, inode_bytes, kept_inode, inode_place}
use Rattle.lilo_model.specs.MinixNames.{zone_number, block, content, entry, first_named, lookup, reached, thing, names, names_in, IsSound}
use Rattle.lilo_model.specs.MinixParts.{bit, with_bit, parts_of, volume_at, number_in, follow, pointer_by, inside, follow_at, zone_at, block_at, content_at}
use Rattle.lilo_model.specs.Options.{options_at, extra_at, options_bytes, extra_bytes}
use Rattle.lilo_model.specs.Partitions.{named_device, entry_at, entries_of, table_entries, is_link, is_plain, link_of, logical_of, listed, linked_sector, chain_entries, chain_tables, partitions_of, numbered_span, span_of}
use Rattle.lilo_model.specs.Place.{command_line, written_by, place, kernel_fit}
use Rattle.lilo_model.specs.Plan.{slot_to, slots_for, chain_for, file_slots, file_sectors, section_sectors_at, flags_of, descriptor_for, plan_entries, sectors_of_table, sectors_after, plan_sectors, map_size, plan_names, plan_boot, plan_boot_sector}
use Rattle.lilo_model.specs.Planned.{devices_in, inode_places, mapped_inode, file_inode, mapped_section, code_in, planned}
use Rattle.lilo_model.specs.Section.{link_at, section, file_content, section_bytes}
use Rattle.lilo_model.specs.Slots.{has_ranges, has_address, is_slot, is_one_slot, chs_of, address_of, slot_of, some_slot, slot_at, slot_bytes, to_chs, to_lba, sector_at, sectors_of, place_at, slot_make, could_be_one}
use Rattle.lilo_model.specs.Table.{is_set, entry_name, is_printable, is_name, has_flags, has_video, has_length, has_main, has_initrd, has_extra, is_entry, descriptor_of, entry_bytes, same_name, repeats, breaks, table_at, descriptor_bytes}
use Rattle.model_cases.specs.Sparse.{hex, disks_of, on, typed}
use Rattle.model_cases.specs.Volumes.{with_sectors}
use Rattle.model_cases.specs.PlanConfs.{conf_alias_fallback, conf_link, conf_literal, conf_optional, conf_other, conf_own_table, conf_two_chain, conf_whole}
use Rattle.model_cases.specs.PlanDisks.{disk_alias_fallback, disk_link, disk_literal, disk_optional, disk_other, disk_own_table, disk_two_chain, disk_whole}
use Rattle.model_cases.specs.PlanVolumes.{machine_alias_fallback, machine_link, machine_literal, machine_optional, machine_other, machine_own_table, machine_two_chain, machine_whole, volume_alias_fallback, volume_link, volume_literal, volume_optional, volume_other, volume_own_table, volume_two_chain, volume_whole}

-- an alias, a fallback, texts and a video mode
pub boots_an_alias_a_fallback_texts_and_a_video_mode : whole_boot (with_sectors (disks_of disk_alias_fallback) (record { disk = 0; sector = 0 } ∷ (on 0 (94 ∷ 95 ∷ 96 ∷ 97 ∷ 98 ∷ 99 ∷ 100 ∷ 101 ∷ 102 ∷ []))) (plan_boot_sector (planned (disks_of disk_alias_fallback) machine_alias_fallback volume_alias_fallback conf_alias_fallback 305419896) machine_alias_fallback (on 0 (94 ∷ 95 ∷ 96 ∷ 97 ∷ 98 ∷ 99 ∷ 100 ∷ 101 ∷ 102 ∷ [])) (disks_of disk_alias_fallback 0 0) ∷ plan_sectors (planned (disks_of disk_alias_fallback) machine_alias_fallback volume_alias_fallback conf_alias_fallback 305419896) machine_alias_fallback (on 0 (94 ∷ 95 ∷ 96 ∷ 97 ∷ 98 ∷ 99 ∷ 100 ∷ 101 ∷ 102 ∷ [])))) machine_alias_fallback (record { disk = 0; start = 0; count = 4096 }) (typed (codes "l vga=3 y\n")) 16777216 ≡ meant conf_alias_fallback (names_in volume_alias_fallback (disks_of disk_alias_fallback)) (devices_in (disks_of disk_alias_fallback) machine_alias_fallback) Empty (typed (codes "l vga=3 y\n")) 16777216
unfolding number16 number32 is_zero has_ranges has_address is_slot is_one_slot chs_of address_of slot_of some_slot slot_at slot_bytes to_chs to_lba sector_at sectors_of place_at slot_make could_be_one named_device entry_at entries_of table_entries is_link is_plain link_of logical_of listed linked_sector chain_entries chain_tables partitions_of numbered_span span_of disk_name last_partition partition_name device_name devices_of named_devices device_at disk_number device_number kind_of super_of super_checks super_in super_at with_counts super_bytes v1_inode v2_inode inode_of inode_at v1_inode_bytes v2_inode_bytes inode_bytes kept_inode inode_place bit with_bit parts_of volume_at number_in follow pointer_by inside follow_at zone_at block_at content_at entry_of entries_in minixentries_entry_at find_entry entries_at is_dots components child find_path file_block file_at zone_number block content entry first_named lookup reached thing names names_in IsSound child_path path_of link_at section file_content section_bytes is_bootable has_signature has_options has_names has_slots has_no_message has_whole_message has_message has_zeros is_whole timeout_of table_slots boot_of boot_at field_bytes merged_sector is_set entry_name is_printable is_name has_flags has_video has_length has_main has_initrd has_extra is_entry descriptor_of entry_bytes same_name repeats breaks table_at descriptor_bytes options_at extra_at options_bytes extra_bytes is_line line_of line_at line_bytes is_same_line setup_of version_of header_of header_at fit_checks plan_memory replaced_fields patch command_line written_by place kernel_fit course_of words_of meaning foreign_boot slot_bytes_at map_sectors present_line good_map listed_entries settings_of message_of middle_of image_with_line handed_ending main_of loaded_ending kernel_ending entry_ending chosen_boot decision_at opening_at prompted_boot map_boot whole_boot names_of_section names_of_config started menu_decision menu_boot file_of middle_text target_of menu_entries menu_of meant slot_to slots_for chain_for file_slots file_sectors section_sectors_at flags_of descriptor_for plan_entries sectors_of_table sectors_after plan_sectors map_size plan_names plan_boot plan_boot_sector devices_in inode_places mapped_inode file_inode mapped_section code_in planned
boots_an_alias_a_fallback_texts_and_a_video_mode = refl

-- a literal text and a message
pub boots_a_literal_text_and_a_message : whole_boot (with_sectors (disks_of disk_literal) (record { disk = 0; sector = 0 } ∷ (on 0 (96 ∷ 97 ∷ 98 ∷ 99 ∷ 100 ∷ 101 ∷ 102 ∷ 103 ∷ 104 ∷ []))) (plan_boot_sector (planned (disks_of disk_literal) machine_literal volume_literal conf_literal 305419896) machine_literal (on 0 (96 ∷ 97 ∷ 98 ∷ 99 ∷ 100 ∷ 101 ∷ 102 ∷ 103 ∷ 104 ∷ [])) (disks_of disk_literal 0 0) ∷ plan_sectors (planned (disks_of disk_literal) machine_literal volume_literal conf_literal 305419896) machine_literal (on 0 (96 ∷ 97 ∷ 98 ∷ 99 ∷ 100 ∷ 101 ∷ 102 ∷ 103 ∷ 104 ∷ [])))) machine_literal (record { disk = 0; start = 0; count = 4096 }) (typed (hex 7 0x3f6c696e75780a)) 16777216 ≡ meant conf_literal (names_in volume_literal (disks_of disk_literal)) (devices_in (disks_of disk_literal) machine_literal) Empty (typed (hex 7 0x3f6c696e75780a)) 16777216
unfolding number16 number32 is_zero has_ranges has_address is_slot is_one_slot chs_of address_of slot_of some_slot slot_at slot_bytes to_chs to_lba sector_at sectors_of place_at slot_make could_be_one named_device entry_at entries_of table_entries is_link is_plain link_of logical_of listed linked_sector chain_entries chain_tables partitions_of numbered_span span_of disk_name last_partition partition_name device_name devices_of named_devices device_at disk_number device_number kind_of super_of super_checks super_in super_at with_counts super_bytes v1_inode v2_inode inode_of inode_at v1_inode_bytes v2_inode_bytes inode_bytes kept_inode inode_place bit with_bit parts_of volume_at number_in follow pointer_by inside follow_at zone_at block_at content_at entry_of entries_in minixentries_entry_at find_entry entries_at is_dots components child find_path file_block file_at zone_number block content entry first_named lookup reached thing names names_in IsSound child_path path_of link_at section file_content section_bytes is_bootable has_signature has_options has_names has_slots has_no_message has_whole_message has_message has_zeros is_whole timeout_of table_slots boot_of boot_at field_bytes merged_sector is_set entry_name is_printable is_name has_flags has_video has_length has_main has_initrd has_extra is_entry descriptor_of entry_bytes same_name repeats breaks table_at descriptor_bytes options_at extra_at options_bytes extra_bytes is_line line_of line_at line_bytes is_same_line setup_of version_of header_of header_at fit_checks plan_memory replaced_fields patch command_line written_by place kernel_fit course_of words_of meaning foreign_boot slot_bytes_at map_sectors present_line good_map listed_entries settings_of message_of middle_of image_with_line handed_ending main_of loaded_ending kernel_ending entry_ending chosen_boot decision_at opening_at prompted_boot map_boot whole_boot names_of_section names_of_config started menu_decision menu_boot file_of middle_text target_of menu_entries menu_of meant slot_to slots_for chain_for file_slots file_sectors section_sectors_at flags_of descriptor_for plan_entries sectors_of_table sectors_after plan_sectors map_size plan_names plan_boot plan_boot_sector devices_in inode_places mapped_inode file_inode mapped_section code_in planned
boots_a_literal_text_and_a_message = refl

-- optional sections
pub boots_optional_sections : whole_boot (with_sectors (disks_of disk_optional) (record { disk = 0; sector = 0 } ∷ (on 0 (98 ∷ 99 ∷ 100 ∷ 101 ∷ 102 ∷ 103 ∷ 104 ∷ 105 ∷ 106 ∷ 107 ∷ []))) (plan_boot_sector (planned (disks_of disk_optional) machine_optional volume_optional conf_optional 305419896) machine_optional (on 0 (98 ∷ 99 ∷ 100 ∷ 101 ∷ 102 ∷ 103 ∷ 104 ∷ 105 ∷ 106 ∷ 107 ∷ [])) (disks_of disk_optional 0 0) ∷ plan_sectors (planned (disks_of disk_optional) machine_optional volume_optional conf_optional 305419896) machine_optional (on 0 (98 ∷ 99 ∷ 100 ∷ 101 ∷ 102 ∷ 103 ∷ 104 ∷ 105 ∷ 106 ∷ 107 ∷ [])))) machine_optional (record { disk = 0; start = 0; count = 4096 }) (typed (codes "old\n")) 16777216 ≡ meant conf_optional (names_in volume_optional (disks_of disk_optional)) (devices_in (disks_of disk_optional) machine_optional) Empty (typed (codes "old\n")) 16777216
unfolding number16 number32 is_zero has_ranges has_address is_slot is_one_slot chs_of address_of slot_of some_slot slot_at slot_bytes to_chs to_lba sector_at sectors_of place_at slot_make could_be_one named_device entry_at entries_of table_entries is_link is_plain link_of logical_of listed linked_sector chain_entries chain_tables partitions_of numbered_span span_of disk_name last_partition partition_name device_name devices_of named_devices device_at disk_number device_number kind_of super_of super_checks super_in super_at with_counts super_bytes v1_inode v2_inode inode_of inode_at v1_inode_bytes v2_inode_bytes inode_bytes kept_inode inode_place bit with_bit parts_of volume_at number_in follow pointer_by inside follow_at zone_at block_at content_at entry_of entries_in minixentries_entry_at find_entry entries_at is_dots components child find_path file_block file_at zone_number block content entry first_named lookup reached thing names names_in IsSound child_path path_of link_at section file_content section_bytes is_bootable has_signature has_options has_names has_slots has_no_message has_whole_message has_message has_zeros is_whole timeout_of table_slots boot_of boot_at field_bytes merged_sector is_set entry_name is_printable is_name has_flags has_video has_length has_main has_initrd has_extra is_entry descriptor_of entry_bytes same_name repeats breaks table_at descriptor_bytes options_at extra_at options_bytes extra_bytes is_line line_of line_at line_bytes is_same_line setup_of version_of header_of header_at fit_checks plan_memory replaced_fields patch command_line written_by place kernel_fit course_of words_of meaning foreign_boot slot_bytes_at map_sectors present_line good_map listed_entries settings_of message_of middle_of image_with_line handed_ending main_of loaded_ending kernel_ending entry_ending chosen_boot decision_at opening_at prompted_boot map_boot whole_boot names_of_section names_of_config started menu_decision menu_boot file_of middle_text target_of menu_entries menu_of meant slot_to slots_for chain_for file_slots file_sectors section_sectors_at flags_of descriptor_for plan_entries sectors_of_table sectors_after plan_sectors map_size plan_names plan_boot plan_boot_sector devices_in inode_places mapped_inode file_inode mapped_section code_in planned
boots_optional_sections = refl

-- two other systems
pub boots_two_other_systems : whole_boot (with_sectors (disks_of disk_other) (record { disk = 0; sector = 0 } ∷ (on 0 (94 ∷ 95 ∷ 96 ∷ 97 ∷ 98 ∷ 99 ∷ 100 ∷ 101 ∷ 102 ∷ 103 ∷ 104 ∷ 105 ∷ 106 ∷ []))) (plan_boot_sector (planned (disks_of disk_other) machine_other volume_other conf_other 305419896) machine_other (on 0 (94 ∷ 95 ∷ 96 ∷ 97 ∷ 98 ∷ 99 ∷ 100 ∷ 101 ∷ 102 ∷ 103 ∷ 104 ∷ 105 ∷ 106 ∷ [])) (disks_of disk_other 0 0) ∷ plan_sectors (planned (disks_of disk_other) machine_other volume_other conf_other 305419896) machine_other (on 0 (94 ∷ 95 ∷ 96 ∷ 97 ∷ 98 ∷ 99 ∷ 100 ∷ 101 ∷ 102 ∷ 103 ∷ 104 ∷ 105 ∷ 106 ∷ [])))) machine_other (record { disk = 0; start = 0; count = 4096 }) (typed (codes "dos\n")) 16777216 ≡ meant conf_other (names_in volume_other (disks_of disk_other)) (devices_in (disks_of disk_other) machine_other) Empty (typed (codes "dos\n")) 16777216
unfolding number16 number32 is_zero has_ranges has_address is_slot is_one_slot chs_of address_of slot_of some_slot slot_at slot_bytes to_chs to_lba sector_at sectors_of place_at slot_make could_be_one named_device entry_at entries_of table_entries is_link is_plain link_of logical_of listed linked_sector chain_entries chain_tables partitions_of numbered_span span_of disk_name last_partition partition_name device_name devices_of named_devices device_at disk_number device_number kind_of super_of super_checks super_in super_at with_counts super_bytes v1_inode v2_inode inode_of inode_at v1_inode_bytes v2_inode_bytes inode_bytes kept_inode inode_place bit with_bit parts_of volume_at number_in follow pointer_by inside follow_at zone_at block_at content_at entry_of entries_in minixentries_entry_at find_entry entries_at is_dots components child find_path file_block file_at zone_number block content entry first_named lookup reached thing names names_in IsSound child_path path_of link_at section file_content section_bytes is_bootable has_signature has_options has_names has_slots has_no_message has_whole_message has_message has_zeros is_whole timeout_of table_slots boot_of boot_at field_bytes merged_sector is_set entry_name is_printable is_name has_flags has_video has_length has_main has_initrd has_extra is_entry descriptor_of entry_bytes same_name repeats breaks table_at descriptor_bytes options_at extra_at options_bytes extra_bytes is_line line_of line_at line_bytes is_same_line setup_of version_of header_of header_at fit_checks plan_memory replaced_fields patch command_line written_by place kernel_fit course_of words_of meaning foreign_boot slot_bytes_at map_sectors present_line good_map listed_entries settings_of message_of middle_of image_with_line handed_ending main_of loaded_ending kernel_ending entry_ending chosen_boot decision_at opening_at prompted_boot map_boot whole_boot names_of_section names_of_config started menu_decision menu_boot file_of middle_text target_of menu_entries menu_of meant slot_to slots_for chain_for file_slots file_sectors section_sectors_at flags_of descriptor_for plan_entries sectors_of_table sectors_after plan_sectors map_size plan_names plan_boot plan_boot_sector devices_in inode_places mapped_inode file_inode mapped_section code_in planned
boots_two_other_systems = refl

-- the table of the boot device
pub boots_the_table_of_the_boot_device : whole_boot (with_sectors (disks_of disk_own_table) (record { disk = 0; sector = 0 } ∷ (on 0 (94 ∷ 95 ∷ 96 ∷ 97 ∷ 98 ∷ 99 ∷ 100 ∷ 101 ∷ 102 ∷ 103 ∷ []))) (plan_boot_sector (planned (disks_of disk_own_table) machine_own_table volume_own_table conf_own_table 305419896) machine_own_table (on 0 (94 ∷ 95 ∷ 96 ∷ 97 ∷ 98 ∷ 99 ∷ 100 ∷ 101 ∷ 102 ∷ 103 ∷ [])) (disks_of disk_own_table 0 0) ∷ plan_sectors (planned (disks_of disk_own_table) machine_own_table volume_own_table conf_own_table 305419896) machine_own_table (on 0 (94 ∷ 95 ∷ 96 ∷ 97 ∷ 98 ∷ 99 ∷ 100 ∷ 101 ∷ 102 ∷ 103 ∷ [])))) machine_own_table (record { disk = 0; start = 0; count = 4096 }) (typed (codes "win\n")) 16777216 ≡ meant conf_own_table (names_in volume_own_table (disks_of disk_own_table)) (devices_in (disks_of disk_own_table) machine_own_table) Empty (typed (codes "win\n")) 16777216
unfolding number16 number32 is_zero has_ranges has_address is_slot is_one_slot chs_of address_of slot_of some_slot slot_at slot_bytes to_chs to_lba sector_at sectors_of place_at slot_make could_be_one named_device entry_at entries_of table_entries is_link is_plain link_of logical_of listed linked_sector chain_entries chain_tables partitions_of numbered_span span_of disk_name last_partition partition_name device_name devices_of named_devices device_at disk_number device_number kind_of super_of super_checks super_in super_at with_counts super_bytes v1_inode v2_inode inode_of inode_at v1_inode_bytes v2_inode_bytes inode_bytes kept_inode inode_place bit with_bit parts_of volume_at number_in follow pointer_by inside follow_at zone_at block_at content_at entry_of entries_in minixentries_entry_at find_entry entries_at is_dots components child find_path file_block file_at zone_number block content entry first_named lookup reached thing names names_in IsSound child_path path_of link_at section file_content section_bytes is_bootable has_signature has_options has_names has_slots has_no_message has_whole_message has_message has_zeros is_whole timeout_of table_slots boot_of boot_at field_bytes merged_sector is_set entry_name is_printable is_name has_flags has_video has_length has_main has_initrd has_extra is_entry descriptor_of entry_bytes same_name repeats breaks table_at descriptor_bytes options_at extra_at options_bytes extra_bytes is_line line_of line_at line_bytes is_same_line setup_of version_of header_of header_at fit_checks plan_memory replaced_fields patch command_line written_by place kernel_fit course_of words_of meaning foreign_boot slot_bytes_at map_sectors present_line good_map listed_entries settings_of message_of middle_of image_with_line handed_ending main_of loaded_ending kernel_ending entry_ending chosen_boot decision_at opening_at prompted_boot map_boot whole_boot names_of_section names_of_config started menu_decision menu_boot file_of middle_text target_of menu_entries menu_of meant slot_to slots_for chain_for file_slots file_sectors section_sectors_at flags_of descriptor_for plan_entries sectors_of_table sectors_after plan_sectors map_size plan_names plan_boot plan_boot_sector devices_in inode_places mapped_inode file_inode mapped_section code_in planned
boots_the_table_of_the_boot_device = refl

-- links, an empty initrd, a short code
pub boots_links_an_empty_initrd_a_short_code : whole_boot (with_sectors (disks_of disk_link) (record { disk = 0; sector = 0 } ∷ (on 0 (96 ∷ 97 ∷ 98 ∷ 99 ∷ 100 ∷ 101 ∷ 102 ∷ []))) (plan_boot_sector (planned (disks_of disk_link) machine_link volume_link conf_link 305419896) machine_link (on 0 (96 ∷ 97 ∷ 98 ∷ 99 ∷ 100 ∷ 101 ∷ 102 ∷ [])) (disks_of disk_link 0 0) ∷ plan_sectors (planned (disks_of disk_link) machine_link volume_link conf_link 305419896) machine_link (on 0 (96 ∷ 97 ∷ 98 ∷ 99 ∷ 100 ∷ 101 ∷ 102 ∷ [])))) machine_link (record { disk = 0; start = 0; count = 4096 }) [] 16777216 ≡ meant conf_link (names_in volume_link (disks_of disk_link)) (devices_in (disks_of disk_link) machine_link) Empty [] 16777216
unfolding number16 number32 is_zero has_ranges has_address is_slot is_one_slot chs_of address_of slot_of some_slot slot_at slot_bytes to_chs to_lba sector_at sectors_of place_at slot_make could_be_one named_device entry_at entries_of table_entries is_link is_plain link_of logical_of listed linked_sector chain_entries chain_tables partitions_of numbered_span span_of disk_name last_partition partition_name device_name devices_of named_devices device_at disk_number device_number kind_of super_of super_checks super_in super_at with_counts super_bytes v1_inode v2_inode inode_of inode_at v1_inode_bytes v2_inode_bytes inode_bytes kept_inode inode_place bit with_bit parts_of volume_at number_in follow pointer_by inside follow_at zone_at block_at content_at entry_of entries_in minixentries_entry_at find_entry entries_at is_dots components child find_path file_block file_at zone_number block content entry first_named lookup reached thing names names_in IsSound child_path path_of link_at section file_content section_bytes is_bootable has_signature has_options has_names has_slots has_no_message has_whole_message has_message has_zeros is_whole timeout_of table_slots boot_of boot_at field_bytes merged_sector is_set entry_name is_printable is_name has_flags has_video has_length has_main has_initrd has_extra is_entry descriptor_of entry_bytes same_name repeats breaks table_at descriptor_bytes options_at extra_at options_bytes extra_bytes is_line line_of line_at line_bytes is_same_line setup_of version_of header_of header_at fit_checks plan_memory replaced_fields patch command_line written_by place kernel_fit course_of words_of meaning foreign_boot slot_bytes_at map_sectors present_line good_map listed_entries settings_of message_of middle_of image_with_line handed_ending main_of loaded_ending kernel_ending entry_ending chosen_boot decision_at opening_at prompted_boot map_boot whole_boot names_of_section names_of_config started menu_decision menu_boot file_of middle_text target_of menu_entries menu_of meant slot_to slots_for chain_for file_slots file_sectors section_sectors_at flags_of descriptor_for plan_entries sectors_of_table sectors_after plan_sectors map_size plan_names plan_boot plan_boot_sector devices_in inode_places mapped_inode file_inode mapped_section code_in planned
boots_links_an_empty_initrd_a_short_code = refl

-- two section sectors
pub boots_two_section_sectors : whole_boot (with_sectors (disks_of disk_two_chain) (record { disk = 0; sector = 0 } ∷ (on 0 (154 ∷ 155 ∷ 156 ∷ 157 ∷ 158 ∷ 159 ∷ 160 ∷ 161 ∷ []))) (plan_boot_sector (planned (disks_of disk_two_chain) machine_two_chain volume_two_chain conf_two_chain 305419896) machine_two_chain (on 0 (154 ∷ 155 ∷ 156 ∷ 157 ∷ 158 ∷ 159 ∷ 160 ∷ 161 ∷ [])) (disks_of disk_two_chain 0 0) ∷ plan_sectors (planned (disks_of disk_two_chain) machine_two_chain volume_two_chain conf_two_chain 305419896) machine_two_chain (on 0 (154 ∷ 155 ∷ 156 ∷ 157 ∷ 158 ∷ 159 ∷ 160 ∷ 161 ∷ [])))) machine_two_chain (record { disk = 0; start = 0; count = 4096 }) [] 16777216 ≡ meant conf_two_chain (names_in volume_two_chain (disks_of disk_two_chain)) (devices_in (disks_of disk_two_chain) machine_two_chain) Empty [] 16777216
unfolding number16 number32 is_zero has_ranges has_address is_slot is_one_slot chs_of address_of slot_of some_slot slot_at slot_bytes to_chs to_lba sector_at sectors_of place_at slot_make could_be_one named_device entry_at entries_of table_entries is_link is_plain link_of logical_of listed linked_sector chain_entries chain_tables partitions_of numbered_span span_of disk_name last_partition partition_name device_name devices_of named_devices device_at disk_number device_number kind_of super_of super_checks super_in super_at with_counts super_bytes v1_inode v2_inode inode_of inode_at v1_inode_bytes v2_inode_bytes inode_bytes kept_inode inode_place bit with_bit parts_of volume_at number_in follow pointer_by inside follow_at zone_at block_at content_at entry_of entries_in minixentries_entry_at find_entry entries_at is_dots components child find_path file_block file_at zone_number block content entry first_named lookup reached thing names names_in IsSound child_path path_of link_at section file_content section_bytes is_bootable has_signature has_options has_names has_slots has_no_message has_whole_message has_message has_zeros is_whole timeout_of table_slots boot_of boot_at field_bytes merged_sector is_set entry_name is_printable is_name has_flags has_video has_length has_main has_initrd has_extra is_entry descriptor_of entry_bytes same_name repeats breaks table_at descriptor_bytes options_at extra_at options_bytes extra_bytes is_line line_of line_at line_bytes is_same_line setup_of version_of header_of header_at fit_checks plan_memory replaced_fields patch command_line written_by place kernel_fit course_of words_of meaning foreign_boot slot_bytes_at map_sectors present_line good_map listed_entries settings_of message_of middle_of image_with_line handed_ending main_of loaded_ending kernel_ending entry_ending chosen_boot decision_at opening_at prompted_boot map_boot whole_boot names_of_section names_of_config started menu_decision menu_boot file_of middle_text target_of menu_entries menu_of meant slot_to slots_for chain_for file_slots file_sectors section_sectors_at flags_of descriptor_for plan_entries sectors_of_table sectors_after plan_sectors map_size plan_names plan_boot plan_boot_sector devices_in inode_places mapped_inode file_inode mapped_section code_in planned
boots_two_section_sectors = refl

-- a volume on its own partition boots
pub boots_a_volume_on_its_own_partition_boots : whole_boot (with_sectors (disks_of disk_whole) (record { disk = 0; sector = 64 } ∷ (on 0 (98 ∷ 99 ∷ 100 ∷ 101 ∷ 102 ∷ 103 ∷ 104 ∷ 105 ∷ []))) (plan_boot_sector (planned (disks_of disk_whole) machine_whole volume_whole conf_whole 305419896) machine_whole (on 0 (98 ∷ 99 ∷ 100 ∷ 101 ∷ 102 ∷ 103 ∷ 104 ∷ 105 ∷ [])) (disks_of disk_whole 0 64) ∷ plan_sectors (planned (disks_of disk_whole) machine_whole volume_whole conf_whole 305419896) machine_whole (on 0 (98 ∷ 99 ∷ 100 ∷ 101 ∷ 102 ∷ 103 ∷ 104 ∷ 105 ∷ [])))) machine_whole (record { disk = 0; start = 64; count = 4032 }) [] 16777216 ≡ meant conf_whole (names_in volume_whole (disks_of disk_whole)) (devices_in (disks_of disk_whole) machine_whole) Empty [] 16777216
unfolding number16 number32 is_zero has_ranges has_address is_slot is_one_slot chs_of address_of slot_of some_slot slot_at slot_bytes to_chs to_lba sector_at sectors_of place_at slot_make could_be_one named_device entry_at entries_of table_entries is_link is_plain link_of logical_of listed linked_sector chain_entries chain_tables partitions_of numbered_span span_of disk_name last_partition partition_name device_name devices_of named_devices device_at disk_number device_number kind_of super_of super_checks super_in super_at with_counts super_bytes v1_inode v2_inode inode_of inode_at v1_inode_bytes v2_inode_bytes inode_bytes kept_inode inode_place bit with_bit parts_of volume_at number_in follow pointer_by inside follow_at zone_at block_at content_at entry_of entries_in minixentries_entry_at find_entry entries_at is_dots components child find_path file_block file_at zone_number block content entry first_named lookup reached thing names names_in IsSound child_path path_of link_at section file_content section_bytes is_bootable has_signature has_options has_names has_slots has_no_message has_whole_message has_message has_zeros is_whole timeout_of table_slots boot_of boot_at field_bytes merged_sector is_set entry_name is_printable is_name has_flags has_video has_length has_main has_initrd has_extra is_entry descriptor_of entry_bytes same_name repeats breaks table_at descriptor_bytes options_at extra_at options_bytes extra_bytes is_line line_of line_at line_bytes is_same_line setup_of version_of header_of header_at fit_checks plan_memory replaced_fields patch command_line written_by place kernel_fit course_of words_of meaning foreign_boot slot_bytes_at map_sectors present_line good_map listed_entries settings_of message_of middle_of image_with_line handed_ending main_of loaded_ending kernel_ending entry_ending chosen_boot decision_at opening_at prompted_boot map_boot whole_boot names_of_section names_of_config started menu_decision menu_boot file_of middle_text target_of menu_entries menu_of meant slot_to slots_for chain_for file_slots file_sectors section_sectors_at flags_of descriptor_for plan_entries sectors_of_table sectors_after plan_sectors map_size plan_names plan_boot plan_boot_sector devices_in inode_places mapped_inode file_inode mapped_section code_in planned
boots_a_volume_on_its_own_partition_boots = refl

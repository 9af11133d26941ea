-- What an installation and its test answer, written by tools/install_cases.py.
use Rattle.std.proofs.Common.{◌≡◌, ◌∷◌, ◌++◌, [], codes, replicate, None, Ok, refl}
use Rattle.lilo_model.specs.Apart.{names_pair, is_apart_path, apart_checks}
use Rattle.lilo_model.specs.BootSector.{is_bootable, has_signature, has_options, has_names, has_slots, has_no_message, has_whole_message, has_message, has_zeros, is_whole, timeout_of, table_slots, boot_of, boot_at, field_bytes, merged_sector}
use Rattle.lilo_model.specs.Bytes.{number16, number32, is_zero}
use Rattle.lilo_model.specs.Conf.{with_front, parts_of as conf_parts_of, value_of, line_of as conf_line_of, effect_value, effect_flag, opener_of, opening_line, section_path, section_label, label_reason, excludes_line, is_locked_fallback, is_open_restricted, section_refusal, sections_refusal, section_names, many_refusal, names_reason, names_from, default_refusal, mount_of, effect_mount, section_device, section_of, number_of, disk_of, disks_of as conf_disks_of, mode_of, config_of, whole_of, conf_at}
use Rattle.lilo_model.specs.ConfJudge.{given_text, setting_of, has_option, opened_part, part_kind, setting_disk, details_count, details_of, group_disk, is_same_disk, takes_nothing, text_reason, given_reason, value_reason, disk_reason, detail_reason, excluded_in, part_reason, setting_reason, part_after, settings_refusal}
use Rattle.lilo_model.specs.ConfLawful.{names_of_section, names_of_config}
use Rattle.lilo_model.specs.ConfOptions.{opt_name, all_options, option_at, opt_number, takes_of, places_of, stands_in, opens, is_of_disk, is_of_name, excluded_by}
use Rattle.lilo_model.specs.ConfRefusal.{conf_reason_text, config_line}
use Rattle.lilo_model.specs.ConfSettings.{fault_place, text_refusal, flag_given, flag_cut, given_of, signed_cut, valued_cut, taken_cut, word_cut, token_cut, setting_cut, with_setting, settings_from, text_settings}
use Rattle.lilo_model.specs.ConfTokens.{is_separator, is_bad_byte, line_at as conftokens_line_at, in_comment, is_blank, blank_length, is_of_word, is_escape, ends_quoted, quoted_length, unless_bad, sound_token, word_at, closed, quoted_at, equals_at, piece_at, token_start, next_piece, is_equals, pieces_from, text_pieces, unescaped_byte, unescaped, plain_bytes}
use Rattle.lilo_model.specs.ConfValues.{is_path, is_name as confvalues_is_name, is_text, is_shown, number_between, whole_disk_at, root_at, is_value, last_length, last_part}
use Rattle.lilo_model.specs.ConfVerdict.{file_on, conf_file, conf_device, place_at as confverdict_place_at, conf_names_text, conf_query_verdict}
use Rattle.lilo_model.specs.Devices.{disk_name, last_partition, partition_name, device_name, devices_of, named_devices, device_at, disk_number, device_number}
use Rattle.lilo_model.specs.Header.{setup_of, version_of, header_of, header_at, fit_checks, plan_memory, replaced_fields, patch}
use Rattle.lilo_model.specs.LineSector.{is_line, line_of, line_at, line_bytes, is_same_line}
use Rattle.lilo_model.specs.Mapped.{entry_places, map_places, mapped_sectors}
use Rattle.lilo_model.specs.Meant.{started, menu_decision, menu_boot, file_of, middle_text, target_of, menu_entries, menu_of, meant}
use Rattle.lilo_model.specs.MinixEntries.{entry_of, entries_in, entry_at as minixentries_entry_at, find_entry, entries_at, is_dots}
use Rattle.lilo_model.specs.MinixFind.{components, child, find_path, file_block, file_at}
use Rattle.lilo_model.specs.MinixFindNames.{child_path, path_of}
use Rattle.lilo_model.specs.MinixLayout.{kind_of, super_of, super_checks, super_in, super_at, with_counts, super_bytes, v1_inode, v2_inode, inode_of, inode_at, v1_inode_bytes, v2_inode_bytes, inode_bytes, kept_inode, inode_place}
use Rattle.lilo_model.specs.MinixNames.{zone_number, block, content, entry, first_named, lookup, reached, thing, names, names_in, IsSound}
use Rattle.lilo_model.specs.MinixParts.{bit, with_bit, parts_of, volume_at, number_in, follow, pointer_by, inside, follow_at, zone_at, block_at, content_at}
use Rattle.lilo_model.specs.MinixSurvey.{was_reached, with_inode, survey_walk, owner, names_of, has_name, judge, judged, survey_of, survey, is_indirect}
use Rattle.lilo_model.specs.NamePlaces.{name_path, default_backup, backup_path}
use Rattle.lilo_model.specs.Options.{options_at, extra_at, options_bytes, extra_bytes}
use Rattle.lilo_model.specs.Partitions.{named_device, entry_at, entries_of, table_entries, is_link, is_plain, link_of, logical_of, listed, linked_sector, chain_entries, chain_tables, partitions_of, numbered_span, span_of}
use Rattle.lilo_model.specs.Place.{command_line, written_by, place, kernel_fit}
use Rattle.lilo_model.specs.Plan.{slot_to, slots_for, chain_for, file_slots, file_sectors, section_sectors_at, flags_of, descriptor_for, plan_entries, sectors_of_table, sectors_after, plan_sectors, map_size, plan_names, plan_boot, plan_boot_sector}
use Rattle.lilo_model.specs.PlanRefusal.{file_checks, held_checks, address_checks, plan_at, own_places_check, plan_text}
use Rattle.lilo_model.specs.Planned.{devices_in, inode_places, mapped_inode, file_inode, mapped_section, code_in, planned}
use Rattle.lilo_model.specs.Refusal.{refusal_line}
use Rattle.lilo_model.specs.Section.{link_at, section, file_content, section_bytes}
use Rattle.lilo_model.specs.Settled.{is_foreign, replaceable_name, own_names}
use Rattle.lilo_model.specs.Slots.{has_ranges, has_address, is_slot, is_one_slot, chs_of, address_of, slot_of, some_slot, slot_at, slot_bytes, to_chs, to_lba, sector_at, sectors_of, place_at, slot_make, could_be_one}
use Rattle.lilo_model.specs.Table.{is_set, entry_name, is_printable, is_name, has_flags, has_video, has_length, has_main, has_initrd, has_extra, is_entry, descriptor_of, entry_bytes, same_name, repeats, breaks, table_at, descriptor_bytes}
use Rattle.lilo_model.specs.Verdict.{names_behind, names_text, query_verdict, dump_text, boot_verdict}
use Rattle.lilo_model.specs.VolumeSearch.{has_magic, holds_volume, searched_partitions, searched_on, ends_search, first_volume, named_volume, volume_place}
use Rattle.model_cases.specs.Sparse.{hex, patch_at, disk_with, machine_of}
use Rattle.model_cases.specs.PlanDisks.{disk_files}
use Rattle.std.specs.Fmt.{digits}
use Rattle.install_laws.specs.InstallVerdict.{install_line, begun_by, is_clear, is_holder, may_settle, room_on, install_room, test_room, answer_of, install_checks, install_answer, answer_text, test_text, install_verdict, test_verdict}
use Rattle.write_model.specs.Choice.{free_inode, left_zones, name_check, file_need, choice_with, zones_check, choose_blocks, choose, taken_with}
use Rattle.write_model.specs.FileZones.{data_blocks, made_above, made_indirect}
use Rattle.write_model.specs.Growth.{way_along, missing_on_way, promised_zone}
use Rattle.write_model.specs.Places.{all_entries, has_name as places_has_name, is_overlooked, is_promised, new_place}
use Rattle.map_cases.specs.InstallCase.{case_answer, both_verdicts}

-- a backup at the map
pub install_a_backup_at_the_map : both_verdicts (case_answer (disk_files ++ (patch_at 0 72 196 (hex 1 0xc5) ∷ patch_at 0 90 0 (codes "boot=/dev/hda\nmap=/boot/map\ninstall=/boot/boot.b\nprompt\ntimeout=50\nlba32\nbackup=/boot/map\ndefault=linux\nimage=/boot/vmlinuz\n    label=linux\n    initrd=/boot/initrd\n    read-only\n    root=/dev/hda1\n") ∷ [])) (machine_of (disk_with 4096 16 63 ∷ [])) None None (Ok [])) ≡ (record { status = 4; text = (codes "lilo: address: backup is not apart\n") }, record { status = 4; text = (codes "lilo: address: backup is not apart\n") })
unfolding number16 number32 is_zero has_ranges has_address is_slot is_one_slot chs_of address_of slot_of some_slot slot_at slot_bytes to_chs to_lba sector_at sectors_of place_at slot_make could_be_one named_device entry_at entries_of table_entries is_link is_plain link_of logical_of listed linked_sector chain_entries chain_tables partitions_of numbered_span span_of disk_name last_partition partition_name device_name devices_of named_devices device_at disk_number device_number kind_of super_of super_checks super_in super_at with_counts super_bytes v1_inode v2_inode inode_of inode_at v1_inode_bytes v2_inode_bytes inode_bytes kept_inode inode_place bit with_bit parts_of volume_at number_in follow pointer_by inside follow_at zone_at block_at content_at entry_of entries_in minixentries_entry_at find_entry entries_at is_dots components child find_path file_block file_at zone_number block content entry first_named lookup reached thing names names_in IsSound child_path path_of link_at section file_content section_bytes is_bootable has_signature has_options has_names has_slots has_no_message has_whole_message has_message has_zeros is_whole timeout_of table_slots boot_of boot_at field_bytes merged_sector is_set entry_name is_printable is_name has_flags has_video has_length has_main has_initrd has_extra is_entry descriptor_of entry_bytes same_name repeats breaks table_at descriptor_bytes options_at extra_at options_bytes extra_bytes is_line line_of line_at line_bytes is_same_line names_of_section names_of_config started menu_decision menu_boot file_of middle_text target_of menu_entries menu_of meant slot_to slots_for chain_for file_slots file_sectors section_sectors_at flags_of descriptor_for plan_entries sectors_of_table sectors_after plan_sectors map_size plan_names plan_boot plan_boot_sector devices_in inode_places mapped_inode file_inode mapped_section code_in planned with_front conf_parts_of value_of conf_line_of effect_value effect_flag opener_of opening_line section_path section_label label_reason excludes_line is_locked_fallback is_open_restricted section_refusal sections_refusal section_names many_refusal names_reason names_from default_refusal mount_of effect_mount section_device section_of number_of disk_of conf_disks_of mode_of config_of whole_of conf_at given_text setting_of has_option opened_part part_kind setting_disk details_count details_of group_disk is_same_disk takes_nothing text_reason given_reason value_reason disk_reason detail_reason excluded_in part_reason setting_reason part_after settings_refusal opt_name all_options option_at opt_number takes_of places_of stands_in opens is_of_disk is_of_name excluded_by fault_place text_refusal flag_given flag_cut given_of signed_cut valued_cut taken_cut word_cut token_cut setting_cut with_setting settings_from text_settings is_separator is_bad_byte conftokens_line_at in_comment is_blank blank_length is_of_word is_escape ends_quoted quoted_length unless_bad sound_token word_at closed quoted_at equals_at piece_at token_start next_piece is_equals pieces_from text_pieces unescaped_byte unescaped plain_bytes is_path confvalues_is_name is_text is_shown number_between whole_disk_at root_at is_value last_length last_part file_checks held_checks address_checks plan_at own_places_check plan_text setup_of version_of header_of header_at fit_checks plan_memory replaced_fields patch command_line written_by place kernel_fit name_path default_backup backup_path names_pair is_apart_path apart_checks is_foreign replaceable_name own_names was_reached with_inode survey_walk owner names_of has_name judge judged survey_of survey is_indirect entry_places map_places mapped_sectors refusal_line conf_reason_text config_line has_magic holds_volume searched_partitions searched_on ends_search first_volume named_volume volume_place file_on conf_file conf_device confverdict_place_at conf_names_text conf_query_verdict names_behind names_text query_verdict dump_text boot_verdict install_line begun_by is_clear is_holder may_settle room_on install_room test_room answer_of install_checks install_answer answer_text test_text install_verdict test_verdict free_inode left_zones name_check file_need choice_with zones_check choose_blocks choose taken_with data_blocks made_above made_indirect way_along missing_on_way promised_zone all_entries places_has_name is_overlooked is_promised new_place digits
install_a_backup_at_the_map = refl

-- a forced backup at map~
pub install_a_forced_backup_at_map : both_verdicts (case_answer (disk_files ++ (patch_at 0 72 196 (hex 1 0xcc) ∷ patch_at 0 90 0 (codes "boot=/dev/hda\nmap=/boot/map\ninstall=/boot/boot.b\nprompt\ntimeout=50\nlba32\nforce-backup=/boot/map~\ndefault=linux\nimage=/boot/vmlinuz\n    label=linux\n    initrd=/boot/initrd\n    read-only\n    root=/dev/hda1\n") ∷ [])) (machine_of (disk_with 4096 16 63 ∷ [])) None None (Ok [])) ≡ (record { status = 4; text = (codes "lilo: address: force-backup is not apart\n") }, record { status = 4; text = (codes "lilo: address: force-backup is not apart\n") })
unfolding number16 number32 is_zero has_ranges has_address is_slot is_one_slot chs_of address_of slot_of some_slot slot_at slot_bytes to_chs to_lba sector_at sectors_of place_at slot_make could_be_one named_device entry_at entries_of table_entries is_link is_plain link_of logical_of listed linked_sector chain_entries chain_tables partitions_of numbered_span span_of disk_name last_partition partition_name device_name devices_of named_devices device_at disk_number device_number kind_of super_of super_checks super_in super_at with_counts super_bytes v1_inode v2_inode inode_of inode_at v1_inode_bytes v2_inode_bytes inode_bytes kept_inode inode_place bit with_bit parts_of volume_at number_in follow pointer_by inside follow_at zone_at block_at content_at entry_of entries_in minixentries_entry_at find_entry entries_at is_dots components child find_path file_block file_at zone_number block content entry first_named lookup reached thing names names_in IsSound child_path path_of link_at section file_content section_bytes is_bootable has_signature has_options has_names has_slots has_no_message has_whole_message has_message has_zeros is_whole timeout_of table_slots boot_of boot_at field_bytes merged_sector is_set entry_name is_printable is_name has_flags has_video has_length has_main has_initrd has_extra is_entry descriptor_of entry_bytes same_name repeats breaks table_at descriptor_bytes options_at extra_at options_bytes extra_bytes is_line line_of line_at line_bytes is_same_line names_of_section names_of_config started menu_decision menu_boot file_of middle_text target_of menu_entries menu_of meant slot_to slots_for chain_for file_slots file_sectors section_sectors_at flags_of descriptor_for plan_entries sectors_of_table sectors_after plan_sectors map_size plan_names plan_boot plan_boot_sector devices_in inode_places mapped_inode file_inode mapped_section code_in planned with_front conf_parts_of value_of conf_line_of effect_value effect_flag opener_of opening_line section_path section_label label_reason excludes_line is_locked_fallback is_open_restricted section_refusal sections_refusal section_names many_refusal names_reason names_from default_refusal mount_of effect_mount section_device section_of number_of disk_of conf_disks_of mode_of config_of whole_of conf_at given_text setting_of has_option opened_part part_kind setting_disk details_count details_of group_disk is_same_disk takes_nothing text_reason given_reason value_reason disk_reason detail_reason excluded_in part_reason setting_reason part_after settings_refusal opt_name all_options option_at opt_number takes_of places_of stands_in opens is_of_disk is_of_name excluded_by fault_place text_refusal flag_given flag_cut given_of signed_cut valued_cut taken_cut word_cut token_cut setting_cut with_setting settings_from text_settings is_separator is_bad_byte conftokens_line_at in_comment is_blank blank_length is_of_word is_escape ends_quoted quoted_length unless_bad sound_token word_at closed quoted_at equals_at piece_at token_start next_piece is_equals pieces_from text_pieces unescaped_byte unescaped plain_bytes is_path confvalues_is_name is_text is_shown number_between whole_disk_at root_at is_value last_length last_part file_checks held_checks address_checks plan_at own_places_check plan_text setup_of version_of header_of header_at fit_checks plan_memory replaced_fields patch command_line written_by place kernel_fit name_path default_backup backup_path names_pair is_apart_path apart_checks is_foreign replaceable_name own_names was_reached with_inode survey_walk owner names_of has_name judge judged survey_of survey is_indirect entry_places map_places mapped_sectors refusal_line conf_reason_text config_line has_magic holds_volume searched_partitions searched_on ends_search first_volume named_volume volume_place file_on conf_file conf_device confverdict_place_at conf_names_text conf_query_verdict names_behind names_text query_verdict dump_text boot_verdict install_line begun_by is_clear is_holder may_settle room_on install_room test_room answer_of install_checks install_answer answer_text test_text install_verdict test_verdict free_inode left_zones name_check file_need choice_with zones_check choose_blocks choose taken_with data_blocks made_above made_indirect way_along missing_on_way promised_zone all_entries places_has_name is_overlooked is_promised new_place digits
install_a_forced_backup_at_map = refl

-- the code in the map
pub install_the_code_in_the_map : both_verdicts (case_answer (disk_files ++ (patch_at 0 68 1 (hex 1 0x01) ∷ patch_at 0 70 1 (hex 1 0x03) ∷ patch_at 0 72 36 (hex 1 0xc0) ∷ patch_at 0 72 196 (hex 1 0xb1) ∷ patch_at 0 72 224 (hex 15 0xa4810000000200000000000000010e) ∷ patch_at 0 78 160 (hex 5 0x08006d6170) ∷ patch_at 0 90 0 (codes "boot=/dev/hda\nmap=/boot/map\ninstall=/boot/map\nprompt\ntimeout=50\nlba32\ndefault=linux\nimage=/boot/vmlinuz\n    label=linux\n    initrd=/boot/initrd\n    read-only\n    root=/dev/hda1\n") ∷ patch_at 0 92 0 (replicate 512 120) ∷ [])) (machine_of (disk_with 4096 16 63 ∷ [])) None None (Ok [])) ≡ (record { status = 4; text = (codes "lilo: address: install is not apart\n") }, record { status = 4; text = (codes "lilo: address: install is not apart\n") })
unfolding number16 number32 is_zero has_ranges has_address is_slot is_one_slot chs_of address_of slot_of some_slot slot_at slot_bytes to_chs to_lba sector_at sectors_of place_at slot_make could_be_one named_device entry_at entries_of table_entries is_link is_plain link_of logical_of listed linked_sector chain_entries chain_tables partitions_of numbered_span span_of disk_name last_partition partition_name device_name devices_of named_devices device_at disk_number device_number kind_of super_of super_checks super_in super_at with_counts super_bytes v1_inode v2_inode inode_of inode_at v1_inode_bytes v2_inode_bytes inode_bytes kept_inode inode_place bit with_bit parts_of volume_at number_in follow pointer_by inside follow_at zone_at block_at content_at entry_of entries_in minixentries_entry_at find_entry entries_at is_dots components child find_path file_block file_at zone_number block content entry first_named lookup reached thing names names_in IsSound child_path path_of link_at section file_content section_bytes is_bootable has_signature has_options has_names has_slots has_no_message has_whole_message has_message has_zeros is_whole timeout_of table_slots boot_of boot_at field_bytes merged_sector is_set entry_name is_printable is_name has_flags has_video has_length has_main has_initrd has_extra is_entry descriptor_of entry_bytes same_name repeats breaks table_at descriptor_bytes options_at extra_at options_bytes extra_bytes is_line line_of line_at line_bytes is_same_line names_of_section names_of_config started menu_decision menu_boot file_of middle_text target_of menu_entries menu_of meant slot_to slots_for chain_for file_slots file_sectors section_sectors_at flags_of descriptor_for plan_entries sectors_of_table sectors_after plan_sectors map_size plan_names plan_boot plan_boot_sector devices_in inode_places mapped_inode file_inode mapped_section code_in planned with_front conf_parts_of value_of conf_line_of effect_value effect_flag opener_of opening_line section_path section_label label_reason excludes_line is_locked_fallback is_open_restricted section_refusal sections_refusal section_names many_refusal names_reason names_from default_refusal mount_of effect_mount section_device section_of number_of disk_of conf_disks_of mode_of config_of whole_of conf_at given_text setting_of has_option opened_part part_kind setting_disk details_count details_of group_disk is_same_disk takes_nothing text_reason given_reason value_reason disk_reason detail_reason excluded_in part_reason setting_reason part_after settings_refusal opt_name all_options option_at opt_number takes_of places_of stands_in opens is_of_disk is_of_name excluded_by fault_place text_refusal flag_given flag_cut given_of signed_cut valued_cut taken_cut word_cut token_cut setting_cut with_setting settings_from text_settings is_separator is_bad_byte conftokens_line_at in_comment is_blank blank_length is_of_word is_escape ends_quoted quoted_length unless_bad sound_token word_at closed quoted_at equals_at piece_at token_start next_piece is_equals pieces_from text_pieces unescaped_byte unescaped plain_bytes is_path confvalues_is_name is_text is_shown number_between whole_disk_at root_at is_value last_length last_part file_checks held_checks address_checks plan_at own_places_check plan_text setup_of version_of header_of header_at fit_checks plan_memory replaced_fields patch command_line written_by place kernel_fit name_path default_backup backup_path names_pair is_apart_path apart_checks is_foreign replaceable_name own_names was_reached with_inode survey_walk owner names_of has_name judge judged survey_of survey is_indirect entry_places map_places mapped_sectors refusal_line conf_reason_text config_line has_magic holds_volume searched_partitions searched_on ends_search first_volume named_volume volume_place file_on conf_file conf_device confverdict_place_at conf_names_text conf_query_verdict names_behind names_text query_verdict dump_text boot_verdict install_line begun_by is_clear is_holder may_settle room_on install_room test_room answer_of install_checks install_answer answer_text test_text install_verdict test_verdict free_inode left_zones name_check file_need choice_with zones_check choose_blocks choose taken_with data_blocks made_above made_indirect way_along missing_on_way promised_zone all_entries places_has_name is_overlooked is_promised new_place digits
install_the_code_in_the_map = refl

-- a kernel at map~
pub install_a_kernel_at_map : both_verdicts (case_answer (disk_files ++ (patch_at 0 72 196 (hex 1 0xb1) ∷ patch_at 0 90 0 (codes "boot=/dev/hda\nmap=/boot/map\ninstall=/boot/boot.b\nprompt\ntimeout=50\nlba32\ndefault=linux\nimage=/boot/map~\n    label=linux\n    initrd=/boot/initrd\n    read-only\n    root=/dev/hda1\n") ∷ [])) (machine_of (disk_with 4096 16 63 ∷ [])) None None (Ok [])) ≡ (record { status = 4; text = (codes "lilo: address: image is not apart\n") }, record { status = 4; text = (codes "lilo: address: image is not apart\n") })
unfolding number16 number32 is_zero has_ranges has_address is_slot is_one_slot chs_of address_of slot_of some_slot slot_at slot_bytes to_chs to_lba sector_at sectors_of place_at slot_make could_be_one named_device entry_at entries_of table_entries is_link is_plain link_of logical_of listed linked_sector chain_entries chain_tables partitions_of numbered_span span_of disk_name last_partition partition_name device_name devices_of named_devices device_at disk_number device_number kind_of super_of super_checks super_in super_at with_counts super_bytes v1_inode v2_inode inode_of inode_at v1_inode_bytes v2_inode_bytes inode_bytes kept_inode inode_place bit with_bit parts_of volume_at number_in follow pointer_by inside follow_at zone_at block_at content_at entry_of entries_in minixentries_entry_at find_entry entries_at is_dots components child find_path file_block file_at zone_number block content entry first_named lookup reached thing names names_in IsSound child_path path_of link_at section file_content section_bytes is_bootable has_signature has_options has_names has_slots has_no_message has_whole_message has_message has_zeros is_whole timeout_of table_slots boot_of boot_at field_bytes merged_sector is_set entry_name is_printable is_name has_flags has_video has_length has_main has_initrd has_extra is_entry descriptor_of entry_bytes same_name repeats breaks table_at descriptor_bytes options_at extra_at options_bytes extra_bytes is_line line_of line_at line_bytes is_same_line names_of_section names_of_config started menu_decision menu_boot file_of middle_text target_of menu_entries menu_of meant slot_to slots_for chain_for file_slots file_sectors section_sectors_at flags_of descriptor_for plan_entries sectors_of_table sectors_after plan_sectors map_size plan_names plan_boot plan_boot_sector devices_in inode_places mapped_inode file_inode mapped_section code_in planned with_front conf_parts_of value_of conf_line_of effect_value effect_flag opener_of opening_line section_path section_label label_reason excludes_line is_locked_fallback is_open_restricted section_refusal sections_refusal section_names many_refusal names_reason names_from default_refusal mount_of effect_mount section_device section_of number_of disk_of conf_disks_of mode_of config_of whole_of conf_at given_text setting_of has_option opened_part part_kind setting_disk details_count details_of group_disk is_same_disk takes_nothing text_reason given_reason value_reason disk_reason detail_reason excluded_in part_reason setting_reason part_after settings_refusal opt_name all_options option_at opt_number takes_of places_of stands_in opens is_of_disk is_of_name excluded_by fault_place text_refusal flag_given flag_cut given_of signed_cut valued_cut taken_cut word_cut token_cut setting_cut with_setting settings_from text_settings is_separator is_bad_byte conftokens_line_at in_comment is_blank blank_length is_of_word is_escape ends_quoted quoted_length unless_bad sound_token word_at closed quoted_at equals_at piece_at token_start next_piece is_equals pieces_from text_pieces unescaped_byte unescaped plain_bytes is_path confvalues_is_name is_text is_shown number_between whole_disk_at root_at is_value last_length last_part file_checks held_checks address_checks plan_at own_places_check plan_text setup_of version_of header_of header_at fit_checks plan_memory replaced_fields patch command_line written_by place kernel_fit name_path default_backup backup_path names_pair is_apart_path apart_checks is_foreign replaceable_name own_names was_reached with_inode survey_walk owner names_of has_name judge judged survey_of survey is_indirect entry_places map_places mapped_sectors refusal_line conf_reason_text config_line has_magic holds_volume searched_partitions searched_on ends_search first_volume named_volume volume_place file_on conf_file conf_device confverdict_place_at conf_names_text conf_query_verdict names_behind names_text query_verdict dump_text boot_verdict install_line begun_by is_clear is_holder may_settle room_on install_room test_room answer_of install_checks install_answer answer_text test_text install_verdict test_verdict free_inode left_zones name_check file_need choice_with zones_check choose_blocks choose taken_with data_blocks made_above made_indirect way_along missing_on_way promised_zone all_entries places_has_name is_overlooked is_promised new_place digits
install_a_kernel_at_map = refl

-- an initrd by a link to the map
pub install_an_initrd_by_a_link_to_the_map : both_verdicts (case_answer (disk_files ++ (patch_at 0 68 1 (hex 1 0x01) ∷ patch_at 0 70 1 (hex 1 0x03) ∷ patch_at 0 72 36 (hex 1 0xc0) ∷ patch_at 0 72 196 (hex 1 0xaf) ∷ patch_at 0 72 224 (hex 5 0xffa1000003) ∷ patch_at 0 72 237 (hex 2 0x010e) ∷ patch_at 0 78 160 (hex 3 0x08006c) ∷ patch_at 0 90 0 (codes "boot=/dev/hda\nmap=/boot/map\ninstall=/boot/boot.b\nprompt\ntimeout=50\nlba32\ndefault=linux\nimage=/boot/vmlinuz\n    label=linux\n    initrd=/boot/l\n    read-only\n    root=/dev/hda1\n") ∷ patch_at 0 92 0 (codes "map") ∷ [])) (machine_of (disk_with 4096 16 63 ∷ [])) None None (Ok [])) ≡ (record { status = 4; text = (codes "lilo: address: initrd is not apart\n") }, record { status = 4; text = (codes "lilo: address: initrd is not apart\n") })
unfolding number16 number32 is_zero has_ranges has_address is_slot is_one_slot chs_of address_of slot_of some_slot slot_at slot_bytes to_chs to_lba sector_at sectors_of place_at slot_make could_be_one named_device entry_at entries_of table_entries is_link is_plain link_of logical_of listed linked_sector chain_entries chain_tables partitions_of numbered_span span_of disk_name last_partition partition_name device_name devices_of named_devices device_at disk_number device_number kind_of super_of super_checks super_in super_at with_counts super_bytes v1_inode v2_inode inode_of inode_at v1_inode_bytes v2_inode_bytes inode_bytes kept_inode inode_place bit with_bit parts_of volume_at number_in follow pointer_by inside follow_at zone_at block_at content_at entry_of entries_in minixentries_entry_at find_entry entries_at is_dots components child find_path file_block file_at zone_number block content entry first_named lookup reached thing names names_in IsSound child_path path_of link_at section file_content section_bytes is_bootable has_signature has_options has_names has_slots has_no_message has_whole_message has_message has_zeros is_whole timeout_of table_slots boot_of boot_at field_bytes merged_sector is_set entry_name is_printable is_name has_flags has_video has_length has_main has_initrd has_extra is_entry descriptor_of entry_bytes same_name repeats breaks table_at descriptor_bytes options_at extra_at options_bytes extra_bytes is_line line_of line_at line_bytes is_same_line names_of_section names_of_config started menu_decision menu_boot file_of middle_text target_of menu_entries menu_of meant slot_to slots_for chain_for file_slots file_sectors section_sectors_at flags_of descriptor_for plan_entries sectors_of_table sectors_after plan_sectors map_size plan_names plan_boot plan_boot_sector devices_in inode_places mapped_inode file_inode mapped_section code_in planned with_front conf_parts_of value_of conf_line_of effect_value effect_flag opener_of opening_line section_path section_label label_reason excludes_line is_locked_fallback is_open_restricted section_refusal sections_refusal section_names many_refusal names_reason names_from default_refusal mount_of effect_mount section_device section_of number_of disk_of conf_disks_of mode_of config_of whole_of conf_at given_text setting_of has_option opened_part part_kind setting_disk details_count details_of group_disk is_same_disk takes_nothing text_reason given_reason value_reason disk_reason detail_reason excluded_in part_reason setting_reason part_after settings_refusal opt_name all_options option_at opt_number takes_of places_of stands_in opens is_of_disk is_of_name excluded_by fault_place text_refusal flag_given flag_cut given_of signed_cut valued_cut taken_cut word_cut token_cut setting_cut with_setting settings_from text_settings is_separator is_bad_byte conftokens_line_at in_comment is_blank blank_length is_of_word is_escape ends_quoted quoted_length unless_bad sound_token word_at closed quoted_at equals_at piece_at token_start next_piece is_equals pieces_from text_pieces unescaped_byte unescaped plain_bytes is_path confvalues_is_name is_text is_shown number_between whole_disk_at root_at is_value last_length last_part file_checks held_checks address_checks plan_at own_places_check plan_text setup_of version_of header_of header_at fit_checks plan_memory replaced_fields patch command_line written_by place kernel_fit name_path default_backup backup_path names_pair is_apart_path apart_checks is_foreign replaceable_name own_names was_reached with_inode survey_walk owner names_of has_name judge judged survey_of survey is_indirect entry_places map_places mapped_sectors refusal_line conf_reason_text config_line has_magic holds_volume searched_partitions searched_on ends_search first_volume named_volume volume_place file_on conf_file conf_device confverdict_place_at conf_names_text conf_query_verdict names_behind names_text query_verdict dump_text boot_verdict install_line begun_by is_clear is_holder may_settle room_on install_room test_room answer_of install_checks install_answer answer_text test_text install_verdict test_verdict free_inode left_zones name_check file_need choice_with zones_check choose_blocks choose taken_with data_blocks made_above made_indirect way_along missing_on_way promised_zone all_entries places_has_name is_overlooked is_promised new_place digits
install_an_initrd_by_a_link_to_the_map = refl

-- a message that is the map
pub install_a_message_that_is_the_map : both_verdicts (case_answer (disk_files ++ (patch_at 0 72 196 (hex 1 0xc6) ∷ patch_at 0 90 0 (codes "boot=/dev/hda\nmap=/boot/map\ninstall=/boot/boot.b\nprompt\nmessage=/boot/map\ntimeout=50\nlba32\ndefault=linux\nimage=/boot/vmlinuz\n    label=linux\n    initrd=/boot/initrd\n    read-only\n    root=/dev/hda1\n") ∷ [])) (machine_of (disk_with 4096 16 63 ∷ [])) None None (Ok [])) ≡ (record { status = 4; text = (codes "lilo: address: message is not apart\n") }, record { status = 4; text = (codes "lilo: address: message is not apart\n") })
unfolding number16 number32 is_zero has_ranges has_address is_slot is_one_slot chs_of address_of slot_of some_slot slot_at slot_bytes to_chs to_lba sector_at sectors_of place_at slot_make could_be_one named_device entry_at entries_of table_entries is_link is_plain link_of logical_of listed linked_sector chain_entries chain_tables partitions_of numbered_span span_of disk_name last_partition partition_name device_name devices_of named_devices device_at disk_number device_number kind_of super_of super_checks super_in super_at with_counts super_bytes v1_inode v2_inode inode_of inode_at v1_inode_bytes v2_inode_bytes inode_bytes kept_inode inode_place bit with_bit parts_of volume_at number_in follow pointer_by inside follow_at zone_at block_at content_at entry_of entries_in minixentries_entry_at find_entry entries_at is_dots components child find_path file_block file_at zone_number block content entry first_named lookup reached thing names names_in IsSound child_path path_of link_at section file_content section_bytes is_bootable has_signature has_options has_names has_slots has_no_message has_whole_message has_message has_zeros is_whole timeout_of table_slots boot_of boot_at field_bytes merged_sector is_set entry_name is_printable is_name has_flags has_video has_length has_main has_initrd has_extra is_entry descriptor_of entry_bytes same_name repeats breaks table_at descriptor_bytes options_at extra_at options_bytes extra_bytes is_line line_of line_at line_bytes is_same_line names_of_section names_of_config started menu_decision menu_boot file_of middle_text target_of menu_entries menu_of meant slot_to slots_for chain_for file_slots file_sectors section_sectors_at flags_of descriptor_for plan_entries sectors_of_table sectors_after plan_sectors map_size plan_names plan_boot plan_boot_sector devices_in inode_places mapped_inode file_inode mapped_section code_in planned with_front conf_parts_of value_of conf_line_of effect_value effect_flag opener_of opening_line section_path section_label label_reason excludes_line is_locked_fallback is_open_restricted section_refusal sections_refusal section_names many_refusal names_reason names_from default_refusal mount_of effect_mount section_device section_of number_of disk_of conf_disks_of mode_of config_of whole_of conf_at given_text setting_of has_option opened_part part_kind setting_disk details_count details_of group_disk is_same_disk takes_nothing text_reason given_reason value_reason disk_reason detail_reason excluded_in part_reason setting_reason part_after settings_refusal opt_name all_options option_at opt_number takes_of places_of stands_in opens is_of_disk is_of_name excluded_by fault_place text_refusal flag_given flag_cut given_of signed_cut valued_cut taken_cut word_cut token_cut setting_cut with_setting settings_from text_settings is_separator is_bad_byte conftokens_line_at in_comment is_blank blank_length is_of_word is_escape ends_quoted quoted_length unless_bad sound_token word_at closed quoted_at equals_at piece_at token_start next_piece is_equals pieces_from text_pieces unescaped_byte unescaped plain_bytes is_path confvalues_is_name is_text is_shown number_between whole_disk_at root_at is_value last_length last_part file_checks held_checks address_checks plan_at own_places_check plan_text setup_of version_of header_of header_at fit_checks plan_memory replaced_fields patch command_line written_by place kernel_fit name_path default_backup backup_path names_pair is_apart_path apart_checks is_foreign replaceable_name own_names was_reached with_inode survey_walk owner names_of has_name judge judged survey_of survey is_indirect entry_places map_places mapped_sectors refusal_line conf_reason_text config_line has_magic holds_volume searched_partitions searched_on ends_search first_volume named_volume volume_place file_on conf_file conf_device confverdict_place_at conf_names_text conf_query_verdict names_behind names_text query_verdict dump_text boot_verdict install_line begun_by is_clear is_holder may_settle room_on install_room test_room answer_of install_checks install_answer answer_text test_text install_verdict test_verdict free_inode left_zones name_check file_need choice_with zones_check choose_blocks choose taken_with data_blocks made_above made_indirect way_along missing_on_way promised_zone all_entries places_has_name is_overlooked is_promised new_place digits
install_a_message_that_is_the_map = refl

-- another system in the volume
pub install_another_system_in_the_volume : both_verdicts (case_answer (disk_files ++ (patch_at 0 0 466 (hex 9 0x830000006400000032) ∷ patch_at 0 72 196 (hex 1 0xc4) ∷ patch_at 0 90 0 (codes "boot=/dev/hda\nmap=/boot/map\ninstall=/boot/boot.b\nprompt\ntimeout=50\nlba32\ndefault=linux\nimage=/boot/vmlinuz\n    label=linux\n    initrd=/boot/initrd\n    read-only\n    root=/dev/hda1\nother=/dev/hda2\n") ∷ [])) (machine_of (disk_with 4096 16 63 ∷ [])) None None (Ok [])) ≡ (record { status = 4; text = (codes "lilo: address: other is not apart\n") }, record { status = 4; text = (codes "lilo: address: other is not apart\n") })
unfolding number16 number32 is_zero has_ranges has_address is_slot is_one_slot chs_of address_of slot_of some_slot slot_at slot_bytes to_chs to_lba sector_at sectors_of place_at slot_make could_be_one named_device entry_at entries_of table_entries is_link is_plain link_of logical_of listed linked_sector chain_entries chain_tables partitions_of numbered_span span_of disk_name last_partition partition_name device_name devices_of named_devices device_at disk_number device_number kind_of super_of super_checks super_in super_at with_counts super_bytes v1_inode v2_inode inode_of inode_at v1_inode_bytes v2_inode_bytes inode_bytes kept_inode inode_place bit with_bit parts_of volume_at number_in follow pointer_by inside follow_at zone_at block_at content_at entry_of entries_in minixentries_entry_at find_entry entries_at is_dots components child find_path file_block file_at zone_number block content entry first_named lookup reached thing names names_in IsSound child_path path_of link_at section file_content section_bytes is_bootable has_signature has_options has_names has_slots has_no_message has_whole_message has_message has_zeros is_whole timeout_of table_slots boot_of boot_at field_bytes merged_sector is_set entry_name is_printable is_name has_flags has_video has_length has_main has_initrd has_extra is_entry descriptor_of entry_bytes same_name repeats breaks table_at descriptor_bytes options_at extra_at options_bytes extra_bytes is_line line_of line_at line_bytes is_same_line names_of_section names_of_config started menu_decision menu_boot file_of middle_text target_of menu_entries menu_of meant slot_to slots_for chain_for file_slots file_sectors section_sectors_at flags_of descriptor_for plan_entries sectors_of_table sectors_after plan_sectors map_size plan_names plan_boot plan_boot_sector devices_in inode_places mapped_inode file_inode mapped_section code_in planned with_front conf_parts_of value_of conf_line_of effect_value effect_flag opener_of opening_line section_path section_label label_reason excludes_line is_locked_fallback is_open_restricted section_refusal sections_refusal section_names many_refusal names_reason names_from default_refusal mount_of effect_mount section_device section_of number_of disk_of conf_disks_of mode_of config_of whole_of conf_at given_text setting_of has_option opened_part part_kind setting_disk details_count details_of group_disk is_same_disk takes_nothing text_reason given_reason value_reason disk_reason detail_reason excluded_in part_reason setting_reason part_after settings_refusal opt_name all_options option_at opt_number takes_of places_of stands_in opens is_of_disk is_of_name excluded_by fault_place text_refusal flag_given flag_cut given_of signed_cut valued_cut taken_cut word_cut token_cut setting_cut with_setting settings_from text_settings is_separator is_bad_byte conftokens_line_at in_comment is_blank blank_length is_of_word is_escape ends_quoted quoted_length unless_bad sound_token word_at closed quoted_at equals_at piece_at token_start next_piece is_equals pieces_from text_pieces unescaped_byte unescaped plain_bytes is_path confvalues_is_name is_text is_shown number_between whole_disk_at root_at is_value last_length last_part file_checks held_checks address_checks plan_at own_places_check plan_text setup_of version_of header_of header_at fit_checks plan_memory replaced_fields patch command_line written_by place kernel_fit name_path default_backup backup_path names_pair is_apart_path apart_checks is_foreign replaceable_name own_names was_reached with_inode survey_walk owner names_of has_name judge judged survey_of survey is_indirect entry_places map_places mapped_sectors refusal_line conf_reason_text config_line has_magic holds_volume searched_partitions searched_on ends_search first_volume named_volume volume_place file_on conf_file conf_device confverdict_place_at conf_names_text conf_query_verdict names_behind names_text query_verdict dump_text boot_verdict install_line begun_by is_clear is_holder may_settle room_on install_room test_room answer_of install_checks install_answer answer_text test_text install_verdict test_verdict free_inode left_zones name_check file_need choice_with zones_check choose_blocks choose taken_with data_blocks made_above made_indirect way_along missing_on_way promised_zone all_entries places_has_name is_overlooked is_promised new_place digits
install_another_system_in_the_volume = refl

-- a map that is a directory
pub install_a_map_that_is_a_directory : both_verdicts (case_answer (disk_files ++ (patch_at 0 72 196 (hex 1 0xb0) ∷ patch_at 0 90 0 (codes "boot=/dev/hda\nmap=/boot\ninstall=/boot/boot.b\nprompt\ntimeout=50\nlba32\ndefault=linux\nimage=/boot/vmlinuz\n    label=linux\n    initrd=/boot/initrd\n    read-only\n    root=/dev/hda1\n") ∷ [])) (machine_of (disk_with 4096 16 63 ∷ [])) None None (Ok [])) ≡ (record { status = 3; text = (codes "lilo: volume: not a file\n") }, record { status = 3; text = (codes "lilo: volume: not a file\n") })
unfolding number16 number32 is_zero has_ranges has_address is_slot is_one_slot chs_of address_of slot_of some_slot slot_at slot_bytes to_chs to_lba sector_at sectors_of place_at slot_make could_be_one named_device entry_at entries_of table_entries is_link is_plain link_of logical_of listed linked_sector chain_entries chain_tables partitions_of numbered_span span_of disk_name last_partition partition_name device_name devices_of named_devices device_at disk_number device_number kind_of super_of super_checks super_in super_at with_counts super_bytes v1_inode v2_inode inode_of inode_at v1_inode_bytes v2_inode_bytes inode_bytes kept_inode inode_place bit with_bit parts_of volume_at number_in follow pointer_by inside follow_at zone_at block_at content_at entry_of entries_in minixentries_entry_at find_entry entries_at is_dots components child find_path file_block file_at zone_number block content entry first_named lookup reached thing names names_in IsSound child_path path_of link_at section file_content section_bytes is_bootable has_signature has_options has_names has_slots has_no_message has_whole_message has_message has_zeros is_whole timeout_of table_slots boot_of boot_at field_bytes merged_sector is_set entry_name is_printable is_name has_flags has_video has_length has_main has_initrd has_extra is_entry descriptor_of entry_bytes same_name repeats breaks table_at descriptor_bytes options_at extra_at options_bytes extra_bytes is_line line_of line_at line_bytes is_same_line names_of_section names_of_config started menu_decision menu_boot file_of middle_text target_of menu_entries menu_of meant slot_to slots_for chain_for file_slots file_sectors section_sectors_at flags_of descriptor_for plan_entries sectors_of_table sectors_after plan_sectors map_size plan_names plan_boot plan_boot_sector devices_in inode_places mapped_inode file_inode mapped_section code_in planned with_front conf_parts_of value_of conf_line_of effect_value effect_flag opener_of opening_line section_path section_label label_reason excludes_line is_locked_fallback is_open_restricted section_refusal sections_refusal section_names many_refusal names_reason names_from default_refusal mount_of effect_mount section_device section_of number_of disk_of conf_disks_of mode_of config_of whole_of conf_at given_text setting_of has_option opened_part part_kind setting_disk details_count details_of group_disk is_same_disk takes_nothing text_reason given_reason value_reason disk_reason detail_reason excluded_in part_reason setting_reason part_after settings_refusal opt_name all_options option_at opt_number takes_of places_of stands_in opens is_of_disk is_of_name excluded_by fault_place text_refusal flag_given flag_cut given_of signed_cut valued_cut taken_cut word_cut token_cut setting_cut with_setting settings_from text_settings is_separator is_bad_byte conftokens_line_at in_comment is_blank blank_length is_of_word is_escape ends_quoted quoted_length unless_bad sound_token word_at closed quoted_at equals_at piece_at token_start next_piece is_equals pieces_from text_pieces unescaped_byte unescaped plain_bytes is_path confvalues_is_name is_text is_shown number_between whole_disk_at root_at is_value last_length last_part file_checks held_checks address_checks plan_at own_places_check plan_text setup_of version_of header_of header_at fit_checks plan_memory replaced_fields patch command_line written_by place kernel_fit name_path default_backup backup_path names_pair is_apart_path apart_checks is_foreign replaceable_name own_names was_reached with_inode survey_walk owner names_of has_name judge judged survey_of survey is_indirect entry_places map_places mapped_sectors refusal_line conf_reason_text config_line has_magic holds_volume searched_partitions searched_on ends_search first_volume named_volume volume_place file_on conf_file conf_device confverdict_place_at conf_names_text conf_query_verdict names_behind names_text query_verdict dump_text boot_verdict install_line begun_by is_clear is_holder may_settle room_on install_room test_room answer_of install_checks install_answer answer_text test_text install_verdict test_verdict free_inode left_zones name_check file_need choice_with zones_check choose_blocks choose taken_with data_blocks made_above made_indirect way_along missing_on_way promised_zone all_entries places_has_name is_overlooked is_promised new_place digits
install_a_map_that_is_a_directory = refl

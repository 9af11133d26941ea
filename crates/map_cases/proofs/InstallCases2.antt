-- What an installation and its test answer, written by tools/install_cases.py.
use Rattle.std.proofs.Common.{◌≡◌, ◌∷◌, ◌++◌, [], codes, replicate, None, Ok, refl}
use Rattle.lilo_model.specs.Apart.{names_pair, is_apart_path, apart_checks}
use Rattle.lilo_model.specs.BootSector.{is_bootable, has_signature, has_options, has_names, has_slots, has_no_message, has_whole_message, has_message, has_zeros, is_whole, timeout_of, table_slots, boot_of, boot_at, field_bytes, merged_sector}
use Rattle.lilo_model.specs.Bytes.{number16, number32, is_zero}
use Rattle.lilo_model.specs.Conf.{with_front, parts_of as conf_parts_of, value_of, line_of as conf_line_of, effect_value, effect_flag, opener_of, opening_line, section_path, section_label, label_reason, excludes_line, is_locked_fallback, is_open_restricted, section_refusal, sections_refusal, section_names, many_refusal, names_reason, names_from, default_refusal, mount_of, effect_mount, section_device, section_of, number_of, disk_of, disks_of as conf_disks_of, mode_of, config_of, whole_of, conf_at}
use Rattle.lilo_model.specs.ConfJudge.{given_text, setting_of, has_option, opened_part, part_kind, setting_disk, details_count, details_of, group_disk, is_same_disk, takes_nothing, text_reason, given_reason, value_reason, disk_reason, detail_reason, excluded_in, part_reason, setting_reason, part_after, settings_refusal}
use Rattle.lilo_model.specs.ConfLawful.{names_of_section, names_of_config}
use Rattle.lilo_model.specs.ConfOptions.{opt_name, all_options, option_at, opt_number, takes_of, places_of, stands_in, opens, is_of_disk, is_of_name, excluded_by}
use Rattle.lilo_model.specs.ConfRefusal.{conf_reason_text, config_line}
use Rattle.lilo_model.specs.ConfSettings.{fault_place, text_refusal, flag_given, flag_cut, given_of, signed_cut, valued_cut, taken_cut, word_cut, token_cut, setting_cut, with_setting, settings_from, text_settings}
use Rattle.lilo_model.specs.ConfTokens.{is_separator, is_bad_byte, line_at as conftokens_line_at, in_comment, is_blank, blank_length, is_of_word, is_escape, ends_quoted, quoted_length, unless_bad, sound_token, word_at, closed, quoted_at, equals_at, piece_at, token_start, next_piece, is_equals, pieces_from, text_pieces, unescaped_byte, unescaped, plain_bytes}
use Rattle.lilo_model.specs.ConfValues.{is_path, is_name as confvalues_is_name, is_text, is_shown, number_between, whole_disk_at, root_at, is_value, last_length, last_part}
use Rattle.lilo_model.specs.ConfVerdict.{file_on, conf_file, conf_device, place_at as confverdict_place_at, conf_names_text, conf_query_verdict}
use Rattle.lilo_model.specs.Devices.{disk_name, last_partition, partition_name, device_name, devices_of, named_devices, device_at, disk_number, device_number}
use Rattle.lilo_model.specs.Header.{setup_of, version_of, header_of, header_at, fit_checks, plan_memory, replaced_fields, patch}
use Rattle.lilo_model.specs.LineSector.{is_line, line_of, line_at, line_bytes, is_same_line}
use Rattle.lilo_model.specs.Mapped.{entry_places, map_places, mapped_sectors}
use Rattle.lilo_model.specs.Meant.{started, menu_decision, menu_boot, file_of, middle_text, target_of, menu_entries, menu_of, meant}
use Rattle.lilo_model.specs.MinixEntries.{entry_of, entries_in, entry_at as minixentries_entry_at, find_entry, entries_at, is_dots}
use Rattle.lilo_model.specs.MinixFind.{components, child, find_path, file_block, file_at}
use Rattle.lilo_model.specs.MinixFindNames.{child_path, path_of}
use Rattle.lilo_model.specs.MinixLayout.{kind_of, super_of, super_checks, super_in, super_at, with_counts, super_bytes, v1_inode, v2_inode, inode_of, inode_at, v1_inode_bytes, v2_inode_bytes, inode_bytes, kept_inode, inode_place}
use Rattle.lilo_model.specs.MinixNames.{zone_number, block, content, entry, first_named, lookup, reached, thing, names, names_in, IsSound}
use Rattle.lilo_model.specs.MinixParts.{bit, with_bit, parts_of, volume_at, number_in, follow, pointer_by, inside, follow_at, zone_at, block_at, content_at}
use Rattle.lilo_model.specs.MinixSurvey.{was_reached, with_inode, survey_walk, owner, names_of, has_name, judge, judged, survey_of, survey, is_indirect}
use Rattle.lilo_model.specs.NamePlaces.{name_path, default_backup, backup_path}
use Rattle.lilo_model.specs.Options.{options_at, extra_at, options_bytes, extra_bytes}
use Rattle.lilo_model.specs.Partitions.{named_device, entry_at, entries_of, table_entries, is_link, is_plain, link_of, logical_of, listed, linked_sector, chain_entries, chain_tables, partitions_of, numbered_span, span_of}
use Rattle.lilo_model.specs.Place.{command_line, written_by, place, kernel_fit}
use Rattle.lilo_model.specs.Plan.{slot_to, slots_for, chain_for, file_slots, file_sectors, section_sectors_at, flags_of, descriptor_for, plan_entries, sectors_of_table, sectors_after, plan_sectors, map_size, plan_names, plan_boot, plan_boot_sector}
use Rattle.lilo_model.specs.PlanRefusal.{file_checks, held_checks, address_checks, plan_at, own_places_check, plan_text}
use Rattle.lilo_model.specs.Planned.{devices_in, inode_places, mapped_inode, file_inode, mapped_section, code_in, planned}
use Rattle.lilo_model.specs.Refusal.{refusal_line}
use Rattle.lilo_model.specs.Section.{link_at, section, file_content, section_bytes}
use Rattle.lilo_model.specs.Settled.{is_foreign, replaceable_name, own_names}
use Rattle.lilo_model.specs.Slots.{has_ranges, has_address, is_slot, is_one_slot, chs_of, address_of, slot_of, some_slot, slot_at, slot_bytes, to_chs, to_lba, sector_at, sectors_of, place_at, slot_make, could_be_one}
use Rattle.lilo_model.specs.Table.{is_set, entry_name, is_printable, is_name, has_flags, has_video, has_length, has_main, has_initrd, has_extra, is_entry, descriptor_of, entry_bytes, same_name, repeats, breaks, table_at, descriptor_bytes}
use Rattle.lilo_model.specs.Verdict.{names_behind, names_text, query_verdict, dump_text, boot_verdict}
use Rattle.lilo_model.specs.VolumeSearch.{has_magic, holds_volume, searched_partitions, searched_on, ends_search, first_volume, named_volume, volume_place}
use Rattle.model_cases.specs.Sparse.{hex, patch_at, disk_with, machine_of, on}
use Rattle.model_cases.specs.PlanDisks.{disk_files}
use Rattle.std.specs.Fmt.{digits}
use Rattle.install_laws.specs.InstallVerdict.{install_line, begun_by, is_clear, is_holder, may_settle, room_on, install_room, test_room, answer_of, install_checks, install_answer, answer_text, test_text, install_verdict, test_verdict}
use Rattle.write_model.specs.Choice.{free_inode, left_zones, name_check, file_need, choice_with, zones_check, choose_blocks, choose, taken_with}
use Rattle.write_model.specs.FileZones.{data_blocks, made_above, made_indirect}
use Rattle.write_model.specs.Growth.{way_along, missing_on_way, promised_zone}
use Rattle.write_model.specs.Places.{all_entries, has_name as places_has_name, is_overlooked, is_promised, new_place}
use Rattle.install_laws.specs.InstallVerdict.{verdict_by}
use Rattle.map_cases.specs.InstallCase.{case_answer, both_verdicts}

-- one link left
pub install_one_link_left : (verdict_by answer_text (case_answer (disk_files ++ (patch_at 0 0 0 (hex 37 0xeb7e4c494c4f0100785634120100000032000100000000000380010066000000038001006a) ∷ patch_at 0 0 48 (hex 21 0x038001006700000003800100680000000380010069) ∷ patch_at 0 0 128 (replicate 312 144) ∷ patch_at 0 68 1 (hex 1 0x07) ∷ patch_at 0 70 1 (hex 2 0xff03) ∷ patch_at 0 72 36 (hex 2 0x0001) ∷ patch_at 0 72 196 (hex 1 0xb4) ∷ patch_at 0 72 224 (hex 15 0xa4810000000200007856341200010e) ∷ patch_at 0 72 256 (hex 21 0xa4810000001000007856341200010f001000110012) ∷ patch_at 0 72 288 (hex 21 0xa4810000001000007856341200fe13001400150016) ∷ patch_at 0 78 160 (hex 11 0x0800626f6f742e30333030) ∷ patch_at 0 78 192 (hex 5 0x09006d6170) ∷ patch_at 0 78 224 (hex 6 0x0a006d61707e) ∷ patch_at 0 90 0 (codes "boot=/dev/hda\nmap=/boot/map\ninstall=/boot/boot.b\nprompt\ntimeout=50\nlba32\ndefault=linux\nimage=/boot/vmlinuz\n    label=linux\n    initrd=/boot/initrd\n    read-only\n    root=/dev/hda1\n") ∷ patch_at 0 92 450 (hex 10 0x8100000040000000c00f) ∷ patch_at 0 92 510 (hex 2 0x55aa) ∷ patch_at 0 94 0 (codes "LINE") ∷ patch_at 0 95 0 (codes "linux") ∷ patch_at 0 95 16 (hex 39 0x4000000005040000bc020000038001006300000003800100640000000380010065000000010001) ∷ patch_at 0 99 0 (hex 20 0x0c0000000000000020726f20726f6f743d333031) ∷ patch_at 0 100 0 (hex 21 0x038001005200000003800100530000000380010054) ∷ patch_at 0 101 0 (hex 13 0x03800100560000000380010057) ∷ patch_at 0 102 0 (codes "LINE") ∷ patch_at 0 103 0 (codes "linux") ∷ patch_at 0 103 16 (hex 39 0x4000000005040000bc020000038001006b000000038001006c000000038001006d000000010001) ∷ patch_at 0 107 0 (hex 20 0x0c0000000000000020726f20726f6f743d333031) ∷ patch_at 0 108 0 (hex 21 0x038001005200000003800100530000000380010054) ∷ patch_at 0 109 0 (hex 13 0x03800100560000000380010057) ∷ [])) (machine_of (disk_with 4096 16 63 ∷ [])) None None (Ok (on 0 (94 ∷ 95 ∷ 96 ∷ 97 ∷ 98 ∷ 99 ∷ 100 ∷ 101 ∷ [])))) ≡ record { status = 0; text = (codes "Added linux *\n") }) × (verdict_by test_text (case_answer (disk_files ++ (patch_at 0 0 0 (hex 37 0xeb7e4c494c4f0100785634120100000032000100000000000380010066000000038001006a) ∷ patch_at 0 0 48 (hex 21 0x038001006700000003800100680000000380010069) ∷ patch_at 0 0 128 (replicate 312 144) ∷ patch_at 0 68 1 (hex 1 0x07) ∷ patch_at 0 70 1 (hex 2 0xff03) ∷ patch_at 0 72 36 (hex 2 0x0001) ∷ patch_at 0 72 196 (hex 1 0xb4) ∷ patch_at 0 72 224 (hex 15 0xa4810000000200007856341200010e) ∷ patch_at 0 72 256 (hex 21 0xa4810000001000007856341200010f001000110012) ∷ patch_at 0 72 288 (hex 21 0xa4810000001000007856341200fe13001400150016) ∷ patch_at 0 78 160 (hex 11 0x0800626f6f742e30333030) ∷ patch_at 0 78 192 (hex 5 0x09006d6170) ∷ patch_at 0 78 224 (hex 6 0x0a006d61707e) ∷ patch_at 0 90 0 (codes "boot=/dev/hda\nmap=/boot/map\ninstall=/boot/boot.b\nprompt\ntimeout=50\nlba32\ndefault=linux\nimage=/boot/vmlinuz\n    label=linux\n    initrd=/boot/initrd\n    read-only\n    root=/dev/hda1\n") ∷ patch_at 0 92 450 (hex 10 0x8100000040000000c00f) ∷ patch_at 0 92 510 (hex 2 0x55aa) ∷ patch_at 0 94 0 (codes "LINE") ∷ patch_at 0 95 0 (codes "linux") ∷ patch_at 0 95 16 (hex 39 0x4000000005040000bc020000038001006300000003800100640000000380010065000000010001) ∷ patch_at 0 99 0 (hex 20 0x0c0000000000000020726f20726f6f743d333031) ∷ patch_at 0 100 0 (hex 21 0x038001005200000003800100530000000380010054) ∷ patch_at 0 101 0 (hex 13 0x03800100560000000380010057) ∷ patch_at 0 102 0 (codes "LINE") ∷ patch_at 0 103 0 (codes "linux") ∷ patch_at 0 103 16 (hex 39 0x4000000005040000bc020000038001006b000000038001006c000000038001006d000000010001) ∷ patch_at 0 107 0 (hex 20 0x0c0000000000000020726f20726f6f743d333031) ∷ patch_at 0 108 0 (hex 21 0x038001005200000003800100530000000380010054) ∷ patch_at 0 109 0 (hex 13 0x03800100560000000380010057) ∷ [])) (machine_of (disk_with 4096 16 63 ∷ [])) None None (Ok (on 0 (110 ∷ 111 ∷ 112 ∷ 113 ∷ 114 ∷ 115 ∷ 116 ∷ 117 ∷ [])))) ≡ record { status = 0; text = (codes "Added linux *\nOld map is clear.\nNo changes were made.\n") })
unfolding number16 number32 is_zero has_ranges has_address is_slot is_one_slot chs_of address_of slot_of some_slot slot_at slot_bytes to_chs to_lba sector_at sectors_of place_at slot_make could_be_one named_device entry_at entries_of table_entries is_link is_plain link_of logical_of listed linked_sector chain_entries chain_tables partitions_of numbered_span span_of disk_name last_partition partition_name device_name devices_of named_devices device_at disk_number device_number kind_of super_of super_checks super_in super_at with_counts super_bytes v1_inode v2_inode inode_of inode_at v1_inode_bytes v2_inode_bytes inode_bytes kept_inode inode_place bit with_bit parts_of volume_at number_in follow pointer_by inside follow_at zone_at block_at content_at entry_of entries_in minixentries_entry_at find_entry entries_at is_dots components child find_path file_block file_at zone_number block content entry first_named lookup reached thing names names_in IsSound child_path path_of link_at section file_content section_bytes is_bootable has_signature has_options has_names has_slots has_no_message has_whole_message has_message has_zeros is_whole timeout_of table_slots boot_of boot_at field_bytes merged_sector is_set entry_name is_printable is_name has_flags has_video has_length has_main has_initrd has_extra is_entry descriptor_of entry_bytes same_name repeats breaks table_at descriptor_bytes options_at extra_at options_bytes extra_bytes is_line line_of line_at line_bytes is_same_line names_of_section names_of_config started menu_decision menu_boot file_of middle_text target_of menu_entries menu_of meant slot_to slots_for chain_for file_slots file_sectors section_sectors_at flags_of descriptor_for plan_entries sectors_of_table sectors_after plan_sectors map_size plan_names plan_boot plan_boot_sector devices_in inode_places mapped_inode file_inode mapped_section code_in planned with_front conf_parts_of value_of conf_line_of effect_value effect_flag opener_of opening_line section_path section_label label_reason excludes_line is_locked_fallback is_open_restricted section_refusal sections_refusal section_names many_refusal names_reason names_from default_refusal mount_of effect_mount section_device section_of number_of disk_of conf_disks_of mode_of config_of whole_of conf_at given_text setting_of has_option opened_part part_kind setting_disk details_count details_of group_disk is_same_disk takes_nothing text_reason given_reason value_reason disk_reason detail_reason excluded_in part_reason setting_reason part_after settings_refusal opt_name all_options option_at opt_number takes_of places_of stands_in opens is_of_disk is_of_name excluded_by fault_place text_refusal flag_given flag_cut given_of signed_cut valued_cut taken_cut word_cut token_cut setting_cut with_setting settings_from text_settings is_separator is_bad_byte conftokens_line_at in_comment is_blank blank_length is_of_word is_escape ends_quoted quoted_length unless_bad sound_token word_at closed quoted_at equals_at piece_at token_start next_piece is_equals pieces_from text_pieces unescaped_byte unescaped plain_bytes is_path confvalues_is_name is_text is_shown number_between whole_disk_at root_at is_value last_length last_part file_checks held_checks address_checks plan_at own_places_check plan_text setup_of version_of header_of header_at fit_checks plan_memory replaced_fields patch command_line written_by place kernel_fit name_path default_backup backup_path names_pair is_apart_path apart_checks is_foreign replaceable_name own_names was_reached with_inode survey_walk owner names_of has_name judge judged survey_of survey is_indirect entry_places map_places mapped_sectors refusal_line conf_reason_text config_line has_magic holds_volume searched_partitions searched_on ends_search first_volume named_volume volume_place file_on conf_file conf_device confverdict_place_at conf_names_text conf_query_verdict names_behind names_text query_verdict dump_text boot_verdict install_line begun_by is_clear is_holder may_settle room_on install_room test_room answer_of install_checks install_answer answer_text test_text install_verdict test_verdict free_inode left_zones name_check file_need choice_with zones_check choose_blocks choose taken_with data_blocks made_above made_indirect way_along missing_on_way promised_zone all_entries places_has_name is_overlooked is_promised new_place digits
install_one_link_left = (refl, refl)

-- links that are no matter
pub install_links_that_are_no_matter : both_verdicts (case_answer (disk_files ++ (patch_at 0 0 0 (hex 37 0xeb7e4c494c4f0100785634120100000032000100000000000380010066000000038001006a) ∷ patch_at 0 0 48 (hex 21 0x038001006700000003800100680000000380010069) ∷ patch_at 0 0 128 (replicate 312 144) ∷ patch_at 0 68 1 (hex 1 0x07) ∷ patch_at 0 70 1 (hex 2 0xff03) ∷ patch_at 0 72 36 (hex 2 0x0001) ∷ patch_at 0 72 196 (hex 1 0xb6) ∷ patch_at 0 72 224 (hex 15 0xa4810000000200007856341200010e) ∷ patch_at 0 72 256 (hex 21 0xa4810000001000007856341200010f001000110012) ∷ patch_at 0 72 288 (hex 21 0xa4810000001000007856341200ff13001400150016) ∷ patch_at 0 78 160 (hex 11 0x0800626f6f742e30333030) ∷ patch_at 0 78 192 (hex 5 0x09006d6170) ∷ patch_at 0 78 224 (hex 6 0x0a006d61707e) ∷ patch_at 0 90 0 (codes "boot=/dev/hda\nmap=/boot/other\ninstall=/boot/boot.b\nprompt\ntimeout=50\nlba32\ndefault=linux\nimage=/boot/vmlinuz\n    label=linux\n    initrd=/boot/initrd\n    read-only\n    root=/dev/hda1\n") ∷ patch_at 0 92 450 (hex 10 0x8100000040000000c00f) ∷ patch_at 0 92 510 (hex 2 0x55aa) ∷ patch_at 0 94 0 (codes "LINE") ∷ patch_at 0 95 0 (codes "linux") ∷ patch_at 0 95 16 (hex 39 0x4000000005040000bc020000038001006300000003800100640000000380010065000000010001) ∷ patch_at 0 99 0 (hex 20 0x0c0000000000000020726f20726f6f743d333031) ∷ patch_at 0 100 0 (hex 21 0x038001005200000003800100530000000380010054) ∷ patch_at 0 101 0 (hex 13 0x03800100560000000380010057) ∷ patch_at 0 102 0 (codes "LINE") ∷ patch_at 0 103 0 (codes "linux") ∷ patch_at 0 103 16 (hex 39 0x4000000005040000bc020000038001006b000000038001006c000000038001006d000000010001) ∷ patch_at 0 107 0 (hex 20 0x0c0000000000000020726f20726f6f743d333031) ∷ patch_at 0 108 0 (hex 21 0x038001005200000003800100530000000380010054) ∷ patch_at 0 109 0 (hex 13 0x03800100560000000380010057) ∷ [])) (machine_of (disk_with 4096 16 63 ∷ [])) None None (Ok (on 0 (110 ∷ 111 ∷ 112 ∷ 113 ∷ 114 ∷ 115 ∷ 116 ∷ 117 ∷ [])))) ≡ (record { status = 0; text = (codes "Added linux *\n") }, record { status = 0; text = (codes "Added linux *\nOld map is clear.\nNo changes were made.\n") })
unfolding number16 number32 is_zero has_ranges has_address is_slot is_one_slot chs_of address_of slot_of some_slot slot_at slot_bytes to_chs to_lba sector_at sectors_of place_at slot_make could_be_one named_device entry_at entries_of table_entries is_link is_plain link_of logical_of listed linked_sector chain_entries chain_tables partitions_of numbered_span span_of disk_name last_partition partition_name device_name devices_of named_devices device_at disk_number device_number kind_of super_of super_checks super_in super_at with_counts super_bytes v1_inode v2_inode inode_of inode_at v1_inode_bytes v2_inode_bytes inode_bytes kept_inode inode_place bit with_bit parts_of volume_at number_in follow pointer_by inside follow_at zone_at block_at content_at entry_of entries_in minixentries_entry_at find_entry entries_at is_dots components child find_path file_block file_at zone_number block content entry first_named lookup reached thing names names_in IsSound child_path path_of link_at section file_content section_bytes is_bootable has_signature has_options has_names has_slots has_no_message has_whole_message has_message has_zeros is_whole timeout_of table_slots boot_of boot_at field_bytes merged_sector is_set entry_name is_printable is_name has_flags has_video has_length has_main has_initrd has_extra is_entry descriptor_of entry_bytes same_name repeats breaks table_at descriptor_bytes options_at extra_at options_bytes extra_bytes is_line line_of line_at line_bytes is_same_line names_of_section names_of_config started menu_decision menu_boot file_of middle_text target_of menu_entries menu_of meant slot_to slots_for chain_for file_slots file_sectors section_sectors_at flags_of descriptor_for plan_entries sectors_of_table sectors_after plan_sectors map_size plan_names plan_boot plan_boot_sector devices_in inode_places mapped_inode file_inode mapped_section code_in planned with_front conf_parts_of value_of conf_line_of effect_value effect_flag opener_of opening_line section_path section_label label_reason excludes_line is_locked_fallback is_open_restricted section_refusal sections_refusal section_names many_refusal names_reason names_from default_refusal mount_of effect_mount section_device section_of number_of disk_of conf_disks_of mode_of config_of whole_of conf_at given_text setting_of has_option opened_part part_kind setting_disk details_count details_of group_disk is_same_disk takes_nothing text_reason given_reason value_reason disk_reason detail_reason excluded_in part_reason setting_reason part_after settings_refusal opt_name all_options option_at opt_number takes_of places_of stands_in opens is_of_disk is_of_name excluded_by fault_place text_refusal flag_given flag_cut given_of signed_cut valued_cut taken_cut word_cut token_cut setting_cut with_setting settings_from text_settings is_separator is_bad_byte conftokens_line_at in_comment is_blank blank_length is_of_word is_escape ends_quoted quoted_length unless_bad sound_token word_at closed quoted_at equals_at piece_at token_start next_piece is_equals pieces_from text_pieces unescaped_byte unescaped plain_bytes is_path confvalues_is_name is_text is_shown number_between whole_disk_at root_at is_value last_length last_part file_checks held_checks address_checks plan_at own_places_check plan_text setup_of version_of header_of header_at fit_checks plan_memory replaced_fields patch command_line written_by place kernel_fit name_path default_backup backup_path names_pair is_apart_path apart_checks is_foreign replaceable_name own_names was_reached with_inode survey_walk owner names_of has_name judge judged survey_of survey is_indirect entry_places map_places mapped_sectors refusal_line conf_reason_text config_line has_magic holds_volume searched_partitions searched_on ends_search first_volume named_volume volume_place file_on conf_file conf_device confverdict_place_at conf_names_text conf_query_verdict names_behind names_text query_verdict dump_text boot_verdict install_line begun_by is_clear is_holder may_settle room_on install_room test_room answer_of install_checks install_answer answer_text test_text install_verdict test_verdict free_inode left_zones name_check file_need choice_with zones_check choose_blocks choose taken_with data_blocks made_above made_indirect way_along missing_on_way promised_zone all_entries places_has_name is_overlooked is_promised new_place digits
install_links_that_are_no_matter = refl

-- a broken boot sector of this format
pub install_a_broken_boot_sector_of_this_format : both_verdicts (case_answer (disk_files ++ (patch_at 0 0 0 (hex 37 0xeb7e4c494c4f010078563412010000003200010000000000038001005e0000000380010062) ∷ patch_at 0 0 48 (hex 25 0x038001005f0000000380010060000000038001006100000001) ∷ patch_at 0 0 128 (replicate 312 144) ∷ patch_at 0 68 1 (hex 1 0x03) ∷ patch_at 0 70 1 (hex 1 0x3f) ∷ patch_at 0 72 36 (hex 1 0xe0) ∷ patch_at 0 72 196 (hex 1 0xb4) ∷ patch_at 0 72 224 (hex 15 0xa4810000000200007856341200010e) ∷ patch_at 0 72 256 (hex 21 0xa4810000001000007856341200010f001000110012) ∷ patch_at 0 78 160 (hex 11 0x0800626f6f742e30333030) ∷ patch_at 0 78 192 (hex 5 0x09006d6170) ∷ patch_at 0 90 0 (codes "boot=/dev/hda\nmap=/boot/map\ninstall=/boot/boot.b\nprompt\ntimeout=50\nlba32\ndefault=linux\nimage=/boot/vmlinuz\n    label=linux\n    initrd=/boot/initrd\n    read-only\n    root=/dev/hda1\n") ∷ patch_at 0 92 450 (hex 10 0x8100000040000000c00f) ∷ patch_at 0 92 510 (hex 2 0x55aa) ∷ patch_at 0 94 0 (codes "LINE") ∷ patch_at 0 95 0 (codes "linux") ∷ patch_at 0 95 16 (hex 39 0x4000000005040000bc020000038001006300000003800100640000000380010065000000010001) ∷ patch_at 0 99 0 (hex 20 0x0c0000000000000020726f20726f6f743d333031) ∷ patch_at 0 100 0 (hex 21 0x038001005200000003800100530000000380010054) ∷ patch_at 0 101 0 (hex 13 0x03800100560000000380010057) ∷ [])) (machine_of (disk_with 4096 16 63 ∷ [])) None None (Ok (on 0 (102 ∷ 103 ∷ 104 ∷ 105 ∷ 106 ∷ 107 ∷ 108 ∷ 109 ∷ [])))) ≡ (record { status = 0; text = (codes "Added linux *\n") }, record { status = 0; text = (codes "Added linux *\nOld map is clear.\nNo changes were made.\n") })
unfolding number16 number32 is_zero has_ranges has_address is_slot is_one_slot chs_of address_of slot_of some_slot slot_at slot_bytes to_chs to_lba sector_at sectors_of place_at slot_make could_be_one named_device entry_at entries_of table_entries is_link is_plain link_of logical_of listed linked_sector chain_entries chain_tables partitions_of numbered_span span_of disk_name last_partition partition_name device_name devices_of named_devices device_at disk_number device_number kind_of super_of super_checks super_in super_at with_counts super_bytes v1_inode v2_inode inode_of inode_at v1_inode_bytes v2_inode_bytes inode_bytes kept_inode inode_place bit with_bit parts_of volume_at number_in follow pointer_by inside follow_at zone_at block_at content_at entry_of entries_in minixentries_entry_at find_entry entries_at is_dots components child find_path file_block file_at zone_number block content entry first_named lookup reached thing names names_in IsSound child_path path_of link_at section file_content section_bytes is_bootable has_signature has_options has_names has_slots has_no_message has_whole_message has_message has_zeros is_whole timeout_of table_slots boot_of boot_at field_bytes merged_sector is_set entry_name is_printable is_name has_flags has_video has_length has_main has_initrd has_extra is_entry descriptor_of entry_bytes same_name repeats breaks table_at descriptor_bytes options_at extra_at options_bytes extra_bytes is_line line_of line_at line_bytes is_same_line names_of_section names_of_config started menu_decision menu_boot file_of middle_text target_of menu_entries menu_of meant slot_to slots_for chain_for file_slots file_sectors section_sectors_at flags_of descriptor_for plan_entries sectors_of_table sectors_after plan_sectors map_size plan_names plan_boot plan_boot_sector devices_in inode_places mapped_inode file_inode mapped_section code_in planned with_front conf_parts_of value_of conf_line_of effect_value effect_flag opener_of opening_line section_path section_label label_reason excludes_line is_locked_fallback is_open_restricted section_refusal sections_refusal section_names many_refusal names_reason names_from default_refusal mount_of effect_mount section_device section_of number_of disk_of conf_disks_of mode_of config_of whole_of conf_at given_text setting_of has_option opened_part part_kind setting_disk details_count details_of group_disk is_same_disk takes_nothing text_reason given_reason value_reason disk_reason detail_reason excluded_in part_reason setting_reason part_after settings_refusal opt_name all_options option_at opt_number takes_of places_of stands_in opens is_of_disk is_of_name excluded_by fault_place text_refusal flag_given flag_cut given_of signed_cut valued_cut taken_cut word_cut token_cut setting_cut with_setting settings_from text_settings is_separator is_bad_byte conftokens_line_at in_comment is_blank blank_length is_of_word is_escape ends_quoted quoted_length unless_bad sound_token word_at closed quoted_at equals_at piece_at token_start next_piece is_equals pieces_from text_pieces unescaped_byte unescaped plain_bytes is_path confvalues_is_name is_text is_shown number_between whole_disk_at root_at is_value last_length last_part file_checks held_checks address_checks plan_at own_places_check plan_text setup_of version_of header_of header_at fit_checks plan_memory replaced_fields patch command_line written_by place kernel_fit name_path default_backup backup_path names_pair is_apart_path apart_checks is_foreign replaceable_name own_names was_reached with_inode survey_walk owner names_of has_name judge judged survey_of survey is_indirect entry_places map_places mapped_sectors refusal_line conf_reason_text config_line has_magic holds_volume searched_partitions searched_on ends_search first_volume named_volume volume_place file_on conf_file conf_device confverdict_place_at conf_names_text conf_query_verdict names_behind names_text query_verdict dump_text boot_verdict install_line begun_by is_clear is_holder may_settle room_on install_room test_room answer_of install_checks install_answer answer_text test_text install_verdict test_verdict free_inode left_zones name_check file_need choice_with zones_check choose_blocks choose taken_with data_blocks made_above made_indirect way_along missing_on_way promised_zone all_entries places_has_name is_overlooked is_promised new_place digits
install_a_broken_boot_sector_of_this_format = refl

-- a default line in the superblock
pub install_a_default_line_in_the_superblock : both_verdicts (case_answer (disk_files ++ (patch_at 0 0 0 (hex 37 0xeb7e4c494c4f01007856341201000000320001000000000003800100420000000380010062) ∷ patch_at 0 0 48 (hex 21 0x038001005f00000003800100600000000380010061) ∷ patch_at 0 0 128 (replicate 312 144) ∷ patch_at 0 68 1 (hex 1 0x03) ∷ patch_at 0 70 1 (hex 1 0x3f) ∷ patch_at 0 72 36 (hex 1 0xe0) ∷ patch_at 0 72 196 (hex 1 0xb4) ∷ patch_at 0 72 224 (hex 15 0xa4810000000200007856341200010e) ∷ patch_at 0 72 256 (hex 21 0xa4810000001000007856341200010f001000110012) ∷ patch_at 0 78 160 (hex 11 0x0800626f6f742e30333030) ∷ patch_at 0 78 192 (hex 5 0x09006d6170) ∷ patch_at 0 90 0 (codes "boot=/dev/hda\nmap=/boot/map\ninstall=/boot/boot.b\nprompt\ntimeout=50\nlba32\ndefault=linux\nimage=/boot/vmlinuz\n    label=linux\n    initrd=/boot/initrd\n    read-only\n    root=/dev/hda1\n") ∷ patch_at 0 92 450 (hex 10 0x8100000040000000c00f) ∷ patch_at 0 92 510 (hex 2 0x55aa) ∷ patch_at 0 94 0 (codes "LINE") ∷ patch_at 0 95 0 (codes "linux") ∷ patch_at 0 95 16 (hex 39 0x4000000005040000bc020000038001006300000003800100640000000380010065000000010001) ∷ patch_at 0 99 0 (hex 20 0x0c0000000000000020726f20726f6f743d333031) ∷ patch_at 0 100 0 (hex 21 0x038001005200000003800100530000000380010054) ∷ patch_at 0 101 0 (hex 13 0x03800100560000000380010057) ∷ [])) (machine_of (disk_with 4096 16 63 ∷ [])) None None (Ok (on 0 (102 ∷ 103 ∷ 104 ∷ 105 ∷ 106 ∷ 107 ∷ 108 ∷ 109 ∷ [])))) ≡ (record { status = 0; text = (codes "Warning: the old map isn't clear.\nAdded linux *\n") }, record { status = 0; text = (codes "Warning: the old map isn't clear.\nAdded linux *\nOld map isn't clear.\nNo changes were made.\n") })
unfolding number16 number32 is_zero has_ranges has_address is_slot is_one_slot chs_of address_of slot_of some_slot slot_at slot_bytes to_chs to_lba sector_at sectors_of place_at slot_make could_be_one named_device entry_at entries_of table_entries is_link is_plain link_of logical_of listed linked_sector chain_entries chain_tables partitions_of numbered_span span_of disk_name last_partition partition_name device_name devices_of named_devices device_at disk_number device_number kind_of super_of super_checks super_in super_at with_counts super_bytes v1_inode v2_inode inode_of inode_at v1_inode_bytes v2_inode_bytes inode_bytes kept_inode inode_place bit with_bit parts_of volume_at number_in follow pointer_by inside follow_at zone_at block_at content_at entry_of entries_in minixentries_entry_at find_entry entries_at is_dots components child find_path file_block file_at zone_number block content entry first_named lookup reached thing names names_in IsSound child_path path_of link_at section file_content section_bytes is_bootable has_signature has_options has_names has_slots has_no_message has_whole_message has_message has_zeros is_whole timeout_of table_slots boot_of boot_at field_bytes merged_sector is_set entry_name is_printable is_name has_flags has_video has_length has_main has_initrd has_extra is_entry descriptor_of entry_bytes same_name repeats breaks table_at descriptor_bytes options_at extra_at options_bytes extra_bytes is_line line_of line_at line_bytes is_same_line names_of_section names_of_config started menu_decision menu_boot file_of middle_text target_of menu_entries menu_of meant slot_to slots_for chain_for file_slots file_sectors section_sectors_at flags_of descriptor_for plan_entries sectors_of_table sectors_after plan_sectors map_size plan_names plan_boot plan_boot_sector devices_in inode_places mapped_inode file_inode mapped_section code_in planned with_front conf_parts_of value_of conf_line_of effect_value effect_flag opener_of opening_line section_path section_label label_reason excludes_line is_locked_fallback is_open_restricted section_refusal sections_refusal section_names many_refusal names_reason names_from default_refusal mount_of effect_mount section_device section_of number_of disk_of conf_disks_of mode_of config_of whole_of conf_at given_text setting_of has_option opened_part part_kind setting_disk details_count details_of group_disk is_same_disk takes_nothing text_reason given_reason value_reason disk_reason detail_reason excluded_in part_reason setting_reason part_after settings_refusal opt_name all_options option_at opt_number takes_of places_of stands_in opens is_of_disk is_of_name excluded_by fault_place text_refusal flag_given flag_cut given_of signed_cut valued_cut taken_cut word_cut token_cut setting_cut with_setting settings_from text_settings is_separator is_bad_byte conftokens_line_at in_comment is_blank blank_length is_of_word is_escape ends_quoted quoted_length unless_bad sound_token word_at closed quoted_at equals_at piece_at token_start next_piece is_equals pieces_from text_pieces unescaped_byte unescaped plain_bytes is_path confvalues_is_name is_text is_shown number_between whole_disk_at root_at is_value last_length last_part file_checks held_checks address_checks plan_at own_places_check plan_text setup_of version_of header_of header_at fit_checks plan_memory replaced_fields patch command_line written_by place kernel_fit name_path default_backup backup_path names_pair is_apart_path apart_checks is_foreign replaceable_name own_names was_reached with_inode survey_walk owner names_of has_name judge judged survey_of survey is_indirect entry_places map_places mapped_sectors refusal_line conf_reason_text config_line has_magic holds_volume searched_partitions searched_on ends_search first_volume named_volume volume_place file_on conf_file conf_device confverdict_place_at conf_names_text conf_query_verdict names_behind names_text query_verdict dump_text boot_verdict install_line begun_by is_clear is_holder may_settle room_on install_room test_room answer_of install_checks install_answer answer_text test_text install_verdict test_verdict free_inode left_zones name_check file_need choice_with zones_check choose_blocks choose taken_with data_blocks made_above made_indirect way_along missing_on_way promised_zone all_entries places_has_name is_overlooked is_promised new_place digits
install_a_default_line_in_the_superblock = refl

-- a default line in the inode table
pub install_a_default_line_in_the_inode_table : both_verdicts (case_answer (disk_files ++ (patch_at 0 0 0 (hex 37 0xeb7e4c494c4f01007856341201000000320001000000000003800100480000000380010062) ∷ patch_at 0 0 48 (hex 21 0x038001005f00000003800100600000000380010061) ∷ patch_at 0 0 128 (replicate 312 144) ∷ patch_at 0 68 1 (hex 1 0x03) ∷ patch_at 0 70 1 (hex 1 0x3f) ∷ patch_at 0 72 36 (hex 1 0xe0) ∷ patch_at 0 72 196 (hex 1 0xb4) ∷ patch_at 0 72 224 (hex 15 0xa4810000000200007856341200010e) ∷ patch_at 0 72 256 (hex 21 0xa4810000001000007856341200010f001000110012) ∷ patch_at 0 78 160 (hex 11 0x0800626f6f742e30333030) ∷ patch_at 0 78 192 (hex 5 0x09006d6170) ∷ patch_at 0 90 0 (codes "boot=/dev/hda\nmap=/boot/map\ninstall=/boot/boot.b\nprompt\ntimeout=50\nlba32\ndefault=linux\nimage=/boot/vmlinuz\n    label=linux\n    initrd=/boot/initrd\n    read-only\n    root=/dev/hda1\n") ∷ patch_at 0 92 450 (hex 10 0x8100000040000000c00f) ∷ patch_at 0 92 510 (hex 2 0x55aa) ∷ patch_at 0 94 0 (codes "LINE") ∷ patch_at 0 95 0 (codes "linux") ∷ patch_at 0 95 16 (hex 39 0x4000000005040000bc020000038001006300000003800100640000000380010065000000010001) ∷ patch_at 0 99 0 (hex 20 0x0c0000000000000020726f20726f6f743d333031) ∷ patch_at 0 100 0 (hex 21 0x038001005200000003800100530000000380010054) ∷ patch_at 0 101 0 (hex 13 0x03800100560000000380010057) ∷ [])) (machine_of (disk_with 4096 16 63 ∷ [])) None None (Ok (on 0 (102 ∷ 103 ∷ 104 ∷ 105 ∷ 106 ∷ 107 ∷ 108 ∷ 109 ∷ [])))) ≡ (record { status = 0; text = (codes "Warning: the old map isn't clear.\nAdded linux *\n") }, record { status = 0; text = (codes "Warning: the old map isn't clear.\nAdded linux *\nOld map isn't clear.\nNo changes were made.\n") })
unfolding number16 number32 is_zero has_ranges has_address is_slot is_one_slot chs_of address_of slot_of some_slot slot_at slot_bytes to_chs to_lba sector_at sectors_of place_at slot_make could_be_one named_device entry_at entries_of table_entries is_link is_plain link_of logical_of listed linked_sector chain_entries chain_tables partitions_of numbered_span span_of disk_name last_partition partition_name device_name devices_of named_devices device_at disk_number device_number kind_of super_of super_checks super_in super_at with_counts super_bytes v1_inode v2_inode inode_of inode_at v1_inode_bytes v2_inode_bytes inode_bytes kept_inode inode_place bit with_bit parts_of volume_at number_in follow pointer_by inside follow_at zone_at block_at content_at entry_of entries_in minixentries_entry_at find_entry entries_at is_dots components child find_path file_block file_at zone_number block content entry first_named lookup reached thing names names_in IsSound child_path path_of link_at section file_content section_bytes is_bootable has_signature has_options has_names has_slots has_no_message has_whole_message has_message has_zeros is_whole timeout_of table_slots boot_of boot_at field_bytes merged_sector is_set entry_name is_printable is_name has_flags has_video has_length has_main has_initrd has_extra is_entry descriptor_of entry_bytes same_name repeats breaks table_at descriptor_bytes options_at extra_at options_bytes extra_bytes is_line line_of line_at line_bytes is_same_line names_of_section names_of_config started menu_decision menu_boot file_of middle_text target_of menu_entries menu_of meant slot_to slots_for chain_for file_slots file_sectors section_sectors_at flags_of descriptor_for plan_entries sectors_of_table sectors_after plan_sectors map_size plan_names plan_boot plan_boot_sector devices_in inode_places mapped_inode file_inode mapped_section code_in planned with_front conf_parts_of value_of conf_line_of effect_value effect_flag opener_of opening_line section_path section_label label_reason excludes_line is_locked_fallback is_open_restricted section_refusal sections_refusal section_names many_refusal names_reason names_from default_refusal mount_of effect_mount section_device section_of number_of disk_of conf_disks_of mode_of config_of whole_of conf_at given_text setting_of has_option opened_part part_kind setting_disk details_count details_of group_disk is_same_disk takes_nothing text_reason given_reason value_reason disk_reason detail_reason excluded_in part_reason setting_reason part_after settings_refusal opt_name all_options option_at opt_number takes_of places_of stands_in opens is_of_disk is_of_name excluded_by fault_place text_refusal flag_given flag_cut given_of signed_cut valued_cut taken_cut word_cut token_cut setting_cut with_setting settings_from text_settings is_separator is_bad_byte conftokens_line_at in_comment is_blank blank_length is_of_word is_escape ends_quoted quoted_length unless_bad sound_token word_at closed quoted_at equals_at piece_at token_start next_piece is_equals pieces_from text_pieces unescaped_byte unescaped plain_bytes is_path confvalues_is_name is_text is_shown number_between whole_disk_at root_at is_value last_length last_part file_checks held_checks address_checks plan_at own_places_check plan_text setup_of version_of header_of header_at fit_checks plan_memory replaced_fields patch command_line written_by place kernel_fit name_path default_backup backup_path names_pair is_apart_path apart_checks is_foreign replaceable_name own_names was_reached with_inode survey_walk owner names_of has_name judge judged survey_of survey is_indirect entry_places map_places mapped_sectors refusal_line conf_reason_text config_line has_magic holds_volume searched_partitions searched_on ends_search first_volume named_volume volume_place file_on conf_file conf_device confverdict_place_at conf_names_text conf_query_verdict names_behind names_text query_verdict dump_text boot_verdict install_line begun_by is_clear is_holder may_settle room_on install_room test_room answer_of install_checks install_answer answer_text test_text install_verdict test_verdict free_inode left_zones name_check file_need choice_with zones_check choose_blocks choose taken_with data_blocks made_above made_indirect way_along missing_on_way promised_zone all_entries places_has_name is_overlooked is_promised new_place digits
install_a_default_line_in_the_inode_table = refl

-- a default line in a directory
pub install_a_default_line_in_a_directory : both_verdicts (case_answer (disk_files ++ (patch_at 0 0 0 (hex 37 0xeb7e4c494c4f010078563412010000003200010000000000038001004e0000000380010062) ∷ patch_at 0 0 48 (hex 21 0x038001005f00000003800100600000000380010061) ∷ patch_at 0 0 128 (replicate 312 144) ∷ patch_at 0 68 1 (hex 1 0x03) ∷ patch_at 0 70 1 (hex 1 0x3f) ∷ patch_at 0 72 36 (hex 1 0xe0) ∷ patch_at 0 72 196 (hex 1 0xb4) ∷ patch_at 0 72 224 (hex 15 0xa4810000000200007856341200010e) ∷ patch_at 0 72 256 (hex 21 0xa4810000001000007856341200010f001000110012) ∷ patch_at 0 78 160 (hex 11 0x0800626f6f742e30333030) ∷ patch_at 0 78 192 (hex 5 0x09006d6170) ∷ patch_at 0 90 0 (codes "boot=/dev/hda\nmap=/boot/map\ninstall=/boot/boot.b\nprompt\ntimeout=50\nlba32\ndefault=linux\nimage=/boot/vmlinuz\n    label=linux\n    initrd=/boot/initrd\n    read-only\n    root=/dev/hda1\n") ∷ patch_at 0 92 450 (hex 10 0x8100000040000000c00f) ∷ patch_at 0 92 510 (hex 2 0x55aa) ∷ patch_at 0 94 0 (codes "LINE") ∷ patch_at 0 95 0 (codes "linux") ∷ patch_at 0 95 16 (hex 39 0x4000000005040000bc020000038001006300000003800100640000000380010065000000010001) ∷ patch_at 0 99 0 (hex 20 0x0c0000000000000020726f20726f6f743d333031) ∷ patch_at 0 100 0 (hex 21 0x038001005200000003800100530000000380010054) ∷ patch_at 0 101 0 (hex 13 0x03800100560000000380010057) ∷ [])) (machine_of (disk_with 4096 16 63 ∷ [])) None None (Ok (on 0 (102 ∷ 103 ∷ 104 ∷ 105 ∷ 106 ∷ 107 ∷ 108 ∷ 109 ∷ [])))) ≡ (record { status = 0; text = (codes "Warning: the old map isn't clear.\nAdded linux *\n") }, record { status = 0; text = (codes "Warning: the old map isn't clear.\nAdded linux *\nOld map isn't clear.\nNo changes were made.\n") })
unfolding number16 number32 is_zero has_ranges has_address is_slot is_one_slot chs_of address_of slot_of some_slot slot_at slot_bytes to_chs to_lba sector_at sectors_of place_at slot_make could_be_one named_device entry_at entries_of table_entries is_link is_plain link_of logical_of listed linked_sector chain_entries chain_tables partitions_of numbered_span span_of disk_name last_partition partition_name device_name devices_of named_devices device_at disk_number device_number kind_of super_of super_checks super_in super_at with_counts super_bytes v1_inode v2_inode inode_of inode_at v1_inode_bytes v2_inode_bytes inode_bytes kept_inode inode_place bit with_bit parts_of volume_at number_in follow pointer_by inside follow_at zone_at block_at content_at entry_of entries_in minixentries_entry_at find_entry entries_at is_dots components child find_path file_block file_at zone_number block content entry first_named lookup reached thing names names_in IsSound child_path path_of link_at section file_content section_bytes is_bootable has_signature has_options has_names has_slots has_no_message has_whole_message has_message has_zeros is_whole timeout_of table_slots boot_of boot_at field_bytes merged_sector is_set entry_name is_printable is_name has_flags has_video has_length has_main has_initrd has_extra is_entry descriptor_of entry_bytes same_name repeats breaks table_at descriptor_bytes options_at extra_at options_bytes extra_bytes is_line line_of line_at line_bytes is_same_line names_of_section names_of_config started menu_decision menu_boot file_of middle_text target_of menu_entries menu_of meant slot_to slots_for chain_for file_slots file_sectors section_sectors_at flags_of descriptor_for plan_entries sectors_of_table sectors_after plan_sectors map_size plan_names plan_boot plan_boot_sector devices_in inode_places mapped_inode file_inode mapped_section code_in planned with_front conf_parts_of value_of conf_line_of effect_value effect_flag opener_of opening_line section_path section_label label_reason excludes_line is_locked_fallback is_open_restricted section_refusal sections_refusal section_names many_refusal names_reason names_from default_refusal mount_of effect_mount section_device section_of number_of disk_of conf_disks_of mode_of config_of whole_of conf_at given_text setting_of has_option opened_part part_kind setting_disk details_count details_of group_disk is_same_disk takes_nothing text_reason given_reason value_reason disk_reason detail_reason excluded_in part_reason setting_reason part_after settings_refusal opt_name all_options option_at opt_number takes_of places_of stands_in opens is_of_disk is_of_name excluded_by fault_place text_refusal flag_given flag_cut given_of signed_cut valued_cut taken_cut word_cut token_cut setting_cut with_setting settings_from text_settings is_separator is_bad_byte conftokens_line_at in_comment is_blank blank_length is_of_word is_escape ends_quoted quoted_length unless_bad sound_token word_at closed quoted_at equals_at piece_at token_start next_piece is_equals pieces_from text_pieces unescaped_byte unescaped plain_bytes is_path confvalues_is_name is_text is_shown number_between whole_disk_at root_at is_value last_length last_part file_checks held_checks address_checks plan_at own_places_check plan_text setup_of version_of header_of header_at fit_checks plan_memory replaced_fields patch command_line written_by place kernel_fit name_path default_backup backup_path names_pair is_apart_path apart_checks is_foreign replaceable_name own_names was_reached with_inode survey_walk owner names_of has_name judge judged survey_of survey is_indirect entry_places map_places mapped_sectors refusal_line conf_reason_text config_line has_magic holds_volume searched_partitions searched_on ends_search first_volume named_volume volume_place file_on conf_file conf_device confverdict_place_at conf_names_text conf_query_verdict names_behind names_text query_verdict dump_text boot_verdict install_line begun_by is_clear is_holder may_settle room_on install_room test_room answer_of install_checks install_answer answer_text test_text install_verdict test_verdict free_inode left_zones name_check file_need choice_with zones_check choose_blocks choose taken_with data_blocks made_above made_indirect way_along missing_on_way promised_zone all_entries places_has_name is_overlooked is_promised new_place digits
install_a_default_line_in_a_directory = refl

-- a default line in a file
pub install_a_default_line_in_a_file : both_verdicts (case_answer (disk_files ++ (patch_at 0 0 0 (hex 37 0xeb7e4c494c4f01007856341201000000320001000000000003800100520000000380010062) ∷ patch_at 0 0 48 (hex 21 0x038001005f00000003800100600000000380010061) ∷ patch_at 0 0 128 (replicate 312 144) ∷ patch_at 0 68 1 (hex 1 0x03) ∷ patch_at 0 70 1 (hex 1 0x3f) ∷ patch_at 0 72 36 (hex 1 0xe0) ∷ patch_at 0 72 196 (hex 1 0xb4) ∷ patch_at 0 72 224 (hex 15 0xa4810000000200007856341200010e) ∷ patch_at 0 72 256 (hex 21 0xa4810000001000007856341200010f001000110012) ∷ patch_at 0 78 160 (hex 11 0x0800626f6f742e30333030) ∷ patch_at 0 78 192 (hex 5 0x09006d6170) ∷ patch_at 0 90 0 (codes "boot=/dev/hda\nmap=/boot/map\ninstall=/boot/boot.b\nprompt\ntimeout=50\nlba32\ndefault=linux\nimage=/boot/vmlinuz\n    label=linux\n    initrd=/boot/initrd\n    read-only\n    root=/dev/hda1\n") ∷ patch_at 0 92 450 (hex 10 0x8100000040000000c00f) ∷ patch_at 0 92 510 (hex 2 0x55aa) ∷ patch_at 0 94 0 (codes "LINE") ∷ patch_at 0 95 0 (codes "linux") ∷ patch_at 0 95 16 (hex 39 0x4000000005040000bc020000038001006300000003800100640000000380010065000000010001) ∷ patch_at 0 99 0 (hex 20 0x0c0000000000000020726f20726f6f743d333031) ∷ patch_at 0 100 0 (hex 21 0x038001005200000003800100530000000380010054) ∷ patch_at 0 101 0 (hex 13 0x03800100560000000380010057) ∷ [])) (machine_of (disk_with 4096 16 63 ∷ [])) None None (Ok (on 0 (102 ∷ 103 ∷ 104 ∷ 105 ∷ 106 ∷ 107 ∷ 108 ∷ 109 ∷ [])))) ≡ (record { status = 0; text = (codes "Added linux *\n") }, record { status = 0; text = (codes "Added linux *\nOld map is clear.\nNo changes were made.\n") })
unfolding number16 number32 is_zero has_ranges has_address is_slot is_one_slot chs_of address_of slot_of some_slot slot_at slot_bytes to_chs to_lba sector_at sectors_of place_at slot_make could_be_one named_device entry_at entries_of table_entries is_link is_plain link_of logical_of listed linked_sector chain_entries chain_tables partitions_of numbered_span span_of disk_name last_partition partition_name device_name devices_of named_devices device_at disk_number device_number kind_of super_of super_checks super_in super_at with_counts super_bytes v1_inode v2_inode inode_of inode_at v1_inode_bytes v2_inode_bytes inode_bytes kept_inode inode_place bit with_bit parts_of volume_at number_in follow pointer_by inside follow_at zone_at block_at content_at entry_of entries_in minixentries_entry_at find_entry entries_at is_dots components child find_path file_block file_at zone_number block content entry first_named lookup reached thing names names_in IsSound child_path path_of link_at section file_content section_bytes is_bootable has_signature has_options has_names has_slots has_no_message has_whole_message has_message has_zeros is_whole timeout_of table_slots boot_of boot_at field_bytes merged_sector is_set entry_name is_printable is_name has_flags has_video has_length has_main has_initrd has_extra is_entry descriptor_of entry_bytes same_name repeats breaks table_at descriptor_bytes options_at extra_at options_bytes extra_bytes is_line line_of line_at line_bytes is_same_line names_of_section names_of_config started menu_decision menu_boot file_of middle_text target_of menu_entries menu_of meant slot_to slots_for chain_for file_slots file_sectors section_sectors_at flags_of descriptor_for plan_entries sectors_of_table sectors_after plan_sectors map_size plan_names plan_boot plan_boot_sector devices_in inode_places mapped_inode file_inode mapped_section code_in planned with_front conf_parts_of value_of conf_line_of effect_value effect_flag opener_of opening_line section_path section_label label_reason excludes_line is_locked_fallback is_open_restricted section_refusal sections_refusal section_names many_refusal names_reason names_from default_refusal mount_of effect_mount section_device section_of number_of disk_of conf_disks_of mode_of config_of whole_of conf_at given_text setting_of has_option opened_part part_kind setting_disk details_count details_of group_disk is_same_disk takes_nothing text_reason given_reason value_reason disk_reason detail_reason excluded_in part_reason setting_reason part_after settings_refusal opt_name all_options option_at opt_number takes_of places_of stands_in opens is_of_disk is_of_name excluded_by fault_place text_refusal flag_given flag_cut given_of signed_cut valued_cut taken_cut word_cut token_cut setting_cut with_setting settings_from text_settings is_separator is_bad_byte conftokens_line_at in_comment is_blank blank_length is_of_word is_escape ends_quoted quoted_length unless_bad sound_token word_at closed quoted_at equals_at piece_at token_start next_piece is_equals pieces_from text_pieces unescaped_byte unescaped plain_bytes is_path confvalues_is_name is_text is_shown number_between whole_disk_at root_at is_value last_length last_part file_checks held_checks address_checks plan_at own_places_check plan_text setup_of version_of header_of header_at fit_checks plan_memory replaced_fields patch command_line written_by place kernel_fit name_path default_backup backup_path names_pair is_apart_path apart_checks is_foreign replaceable_name own_names was_reached with_inode survey_walk owner names_of has_name judge judged survey_of survey is_indirect entry_places map_places mapped_sectors refusal_line conf_reason_text config_line has_magic holds_volume searched_partitions searched_on ends_search first_volume named_volume volume_place file_on conf_file conf_device confverdict_place_at conf_names_text conf_query_verdict names_behind names_text query_verdict dump_text boot_verdict install_line begun_by is_clear is_holder may_settle room_on install_room test_room answer_of install_checks install_answer answer_text test_text install_verdict test_verdict free_inode left_zones name_check file_need choice_with zones_check choose_blocks choose taken_with data_blocks made_above made_indirect way_along missing_on_way promised_zone all_entries places_has_name is_overlooked is_promised new_place digits
install_a_default_line_in_a_file = refl

-- a default line before the volume
pub install_a_default_line_before_the_volume : both_verdicts (case_answer (disk_files ++ (patch_at 0 0 0 (hex 37 0xeb7e4c494c4f01007856341201000000320001000000000003800100140000000380010062) ∷ patch_at 0 0 48 (hex 21 0x038001005f00000003800100600000000380010061) ∷ patch_at 0 0 128 (replicate 312 144) ∷ patch_at 0 68 1 (hex 1 0x03) ∷ patch_at 0 70 1 (hex 1 0x3f) ∷ patch_at 0 72 36 (hex 1 0xe0) ∷ patch_at 0 72 196 (hex 1 0xb4) ∷ patch_at 0 72 224 (hex 15 0xa4810000000200007856341200010e) ∷ patch_at 0 72 256 (hex 21 0xa4810000001000007856341200010f001000110012) ∷ patch_at 0 78 160 (hex 11 0x0800626f6f742e30333030) ∷ patch_at 0 78 192 (hex 5 0x09006d6170) ∷ patch_at 0 90 0 (codes "boot=/dev/hda\nmap=/boot/map\ninstall=/boot/boot.b\nprompt\ntimeout=50\nlba32\ndefault=linux\nimage=/boot/vmlinuz\n    label=linux\n    initrd=/boot/initrd\n    read-only\n    root=/dev/hda1\n") ∷ patch_at 0 92 450 (hex 10 0x8100000040000000c00f) ∷ patch_at 0 92 510 (hex 2 0x55aa) ∷ patch_at 0 94 0 (codes "LINE") ∷ patch_at 0 95 0 (codes "linux") ∷ patch_at 0 95 16 (hex 39 0x4000000005040000bc020000038001006300000003800100640000000380010065000000010001) ∷ patch_at 0 99 0 (hex 20 0x0c0000000000000020726f20726f6f743d333031) ∷ patch_at 0 100 0 (hex 21 0x038001005200000003800100530000000380010054) ∷ patch_at 0 101 0 (hex 13 0x03800100560000000380010057) ∷ [])) (machine_of (disk_with 4096 16 63 ∷ [])) None None (Ok (on 0 (102 ∷ 103 ∷ 104 ∷ 105 ∷ 106 ∷ 107 ∷ 108 ∷ 109 ∷ [])))) ≡ (record { status = 0; text = (codes "Added linux *\n") }, record { status = 0; text = (codes "Added linux *\nOld map is clear.\nNo changes were made.\n") })
unfolding number16 number32 is_zero has_ranges has_address is_slot is_one_slot chs_of address_of slot_of some_slot slot_at slot_bytes to_chs to_lba sector_at sectors_of place_at slot_make could_be_one named_device entry_at entries_of table_entries is_link is_plain link_of logical_of listed linked_sector chain_entries chain_tables partitions_of numbered_span span_of disk_name last_partition partition_name device_name devices_of named_devices device_at disk_number device_number kind_of super_of super_checks super_in super_at with_counts super_bytes v1_inode v2_inode inode_of inode_at v1_inode_bytes v2_inode_bytes inode_bytes kept_inode inode_place bit with_bit parts_of volume_at number_in follow pointer_by inside follow_at zone_at block_at content_at entry_of entries_in minixentries_entry_at find_entry entries_at is_dots components child find_path file_block file_at zone_number block content entry first_named lookup reached thing names names_in IsSound child_path path_of link_at section file_content section_bytes is_bootable has_signature has_options has_names has_slots has_no_message has_whole_message has_message has_zeros is_whole timeout_of table_slots boot_of boot_at field_bytes merged_sector is_set entry_name is_printable is_name has_flags has_video has_length has_main has_initrd has_extra is_entry descriptor_of entry_bytes same_name repeats breaks table_at descriptor_bytes options_at extra_at options_bytes extra_bytes is_line line_of line_at line_bytes is_same_line names_of_section names_of_config started menu_decision menu_boot file_of middle_text target_of menu_entries menu_of meant slot_to slots_for chain_for file_slots file_sectors section_sectors_at flags_of descriptor_for plan_entries sectors_of_table sectors_after plan_sectors map_size plan_names plan_boot plan_boot_sector devices_in inode_places mapped_inode file_inode mapped_section code_in planned with_front conf_parts_of value_of conf_line_of effect_value effect_flag opener_of opening_line section_path section_label label_reason excludes_line is_locked_fallback is_open_restricted section_refusal sections_refusal section_names many_refusal names_reason names_from default_refusal mount_of effect_mount section_device section_of number_of disk_of conf_disks_of mode_of config_of whole_of conf_at given_text setting_of has_option opened_part part_kind setting_disk details_count details_of group_disk is_same_disk takes_nothing text_reason given_reason value_reason disk_reason detail_reason excluded_in part_reason setting_reason part_after settings_refusal opt_name all_options option_at opt_number takes_of places_of stands_in opens is_of_disk is_of_name excluded_by fault_place text_refusal flag_given flag_cut given_of signed_cut valued_cut taken_cut word_cut token_cut setting_cut with_setting settings_from text_settings is_separator is_bad_byte conftokens_line_at in_comment is_blank blank_length is_of_word is_escape ends_quoted quoted_length unless_bad sound_token word_at closed quoted_at equals_at piece_at token_start next_piece is_equals pieces_from text_pieces unescaped_byte unescaped plain_bytes is_path confvalues_is_name is_text is_shown number_between whole_disk_at root_at is_value last_length last_part file_checks held_checks address_checks plan_at own_places_check plan_text setup_of version_of header_of header_at fit_checks plan_memory replaced_fields patch command_line written_by place kernel_fit name_path default_backup backup_path names_pair is_apart_path apart_checks is_foreign replaceable_name own_names was_reached with_inode survey_walk owner names_of has_name judge judged survey_of survey is_indirect entry_places map_places mapped_sectors refusal_line conf_reason_text config_line has_magic holds_volume searched_partitions searched_on ends_search first_volume named_volume volume_place file_on conf_file conf_device confverdict_place_at conf_names_text conf_query_verdict names_behind names_text query_verdict dump_text boot_verdict install_line begun_by is_clear is_holder may_settle room_on install_room test_room answer_of install_checks install_answer answer_text test_text install_verdict test_verdict free_inode left_zones name_check file_need choice_with zones_check choose_blocks choose taken_with data_blocks made_above made_indirect way_along missing_on_way promised_zone all_entries places_has_name is_overlooked is_promised new_place digits
install_a_default_line_before_the_volume = refl

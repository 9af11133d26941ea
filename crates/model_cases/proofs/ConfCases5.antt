-- Cases of lilo.conf, part 5; tools/conf_cases.py writes this file.
use Rattle.std.specs.Prelude.{◌≡◌, [], ◌∷◌, ◌++◌, Err, codes}
use Rattle.std.proofs.Common.{refl}
use Rattle.std.specs.Fmt.{digits}
use Rattle.lilo_model.specs.ConfOptions as options
use Rattle.lilo_model.specs.ConfTokens as tokens
use Rattle.lilo_model.specs.ConfRefusal as reasons
use Rattle.lilo_model.specs.Conf.{with_front, parts_of, value_of, line_of, effect_value, effect_flag, opener_of, opening_line, section_path, section_label, label_reason, excludes_line, is_locked_fallback, is_open_restricted, section_refusal, sections_refusal, section_names, many_refusal, names_reason, names_from, default_refusal, mount_of, effect_mount, section_device, section_of, number_of, disk_of, disks_of, mode_of, config_of, whole_of, conf_at}
use Rattle.lilo_model.specs.ConfJudge.{given_text, setting_of, has_option, opened_part, part_kind, setting_disk, details_count, details_of, group_disk, is_same_disk, takes_nothing, text_reason, given_reason, value_reason, disk_reason, detail_reason, excluded_in, part_reason, setting_reason, part_after, settings_refusal}
use Rattle.lilo_model.specs.ConfOptions.{opt_name, all_options, option_at, opt_number, takes_of, places_of, stands_in, opens, is_of_disk, is_of_name, excluded_by}
use Rattle.lilo_model.specs.ConfRefusal.{conf_reason_text, config_line}
use Rattle.lilo_model.specs.ConfSettings.{fault_place, text_refusal, flag_given, flag_cut, given_of, signed_cut, valued_cut, taken_cut, word_cut, token_cut, setting_cut, with_setting, settings_from, text_settings}
use Rattle.lilo_model.specs.ConfTokens.{is_separator, is_bad_byte, line_at, in_comment, is_blank, blank_length, is_of_word, is_escape, ends_quoted, quoted_length, unless_bad, sound_token, word_at, closed, quoted_at, equals_at, piece_at, token_start, next_piece, is_equals, pieces_from, text_pieces, unescaped_byte, unescaped, plain_bytes}
use Rattle.lilo_model.specs.ConfValues.{is_path, is_name, is_text, is_shown, number_between, whole_disk_at, root_at, is_value, last_length, last_part}
use Rattle.lilo_model.specs.Devices.{disk_name, last_partition, partition_name, device_name, devices_of, named_devices, device_at, disk_number, device_number}

-- a bad byte in a word that is none
pub conf_a_bad_byte_in_a_word_that_is_none : (conf_at (codes "boot=/dev/hda\nfoo" ++ (127 ∷ [])) ≡ Err (record { reason = (reasons.Text (tokens.BadByte 17)); option = options.Boot; line = 2 })) × (config_line (record { reason = (reasons.Text (tokens.BadByte 17)); option = options.Boot; line = 2 }) ≡ (codes "boot: bad byte at line 2"))
unfolding digits with_front parts_of value_of line_of effect_value effect_flag opener_of opening_line section_path section_label label_reason excludes_line is_locked_fallback is_open_restricted section_refusal sections_refusal section_names many_refusal names_reason names_from default_refusal mount_of effect_mount section_device section_of number_of disk_of disks_of mode_of config_of whole_of conf_at given_text setting_of has_option opened_part part_kind setting_disk details_count details_of group_disk is_same_disk takes_nothing text_reason given_reason value_reason disk_reason detail_reason excluded_in part_reason setting_reason part_after settings_refusal opt_name all_options option_at opt_number takes_of places_of stands_in opens is_of_disk is_of_name excluded_by conf_reason_text config_line fault_place text_refusal flag_given flag_cut given_of signed_cut valued_cut taken_cut word_cut token_cut setting_cut with_setting settings_from text_settings is_separator is_bad_byte line_at in_comment is_blank blank_length is_of_word is_escape ends_quoted quoted_length unless_bad sound_token word_at closed quoted_at equals_at piece_at token_start next_piece is_equals pieces_from text_pieces unescaped_byte unescaped plain_bytes is_path is_name is_text is_shown number_between whole_disk_at root_at is_value last_length last_part disk_name last_partition partition_name device_name devices_of named_devices device_at disk_number device_number
conf_a_bad_byte_in_a_word_that_is_none = (refl, refl)

-- an open quote after an equals sign
pub conf_an_open_quote_after_an_equals_sign : (conf_at (codes "prompt\nlabel=" ++ (34 ∷ []) ++ codes "lin") ≡ Err (record { reason = (reasons.Text (tokens.OpenQuote 13)); option = options.Label; line = 2 })) × (config_line (record { reason = (reasons.Text (tokens.OpenQuote 13)); option = options.Label; line = 2 }) ≡ (codes "label: open quote at line 2"))
unfolding digits with_front parts_of value_of line_of effect_value effect_flag opener_of opening_line section_path section_label label_reason excludes_line is_locked_fallback is_open_restricted section_refusal sections_refusal section_names many_refusal names_reason names_from default_refusal mount_of effect_mount section_device section_of number_of disk_of disks_of mode_of config_of whole_of conf_at given_text setting_of has_option opened_part part_kind setting_disk details_count details_of group_disk is_same_disk takes_nothing text_reason given_reason value_reason disk_reason detail_reason excluded_in part_reason setting_reason part_after settings_refusal opt_name all_options option_at opt_number takes_of places_of stands_in opens is_of_disk is_of_name excluded_by conf_reason_text config_line fault_place text_refusal flag_given flag_cut given_of signed_cut valued_cut taken_cut word_cut token_cut setting_cut with_setting settings_from text_settings is_separator is_bad_byte line_at in_comment is_blank blank_length is_of_word is_escape ends_quoted quoted_length unless_bad sound_token word_at closed quoted_at equals_at piece_at token_start next_piece is_equals pieces_from text_pieces unescaped_byte unescaped plain_bytes is_path is_name is_text is_shown number_between whole_disk_at root_at is_value last_length last_part disk_name last_partition partition_name device_name devices_of named_devices device_at disk_number device_number
conf_an_open_quote_after_an_equals_sign = (refl, refl)

-- an open quote after an option without its sign
pub conf_an_open_quote_after_an_option_without_its_sign : (conf_at (codes "prompt label\n" ++ (34 ∷ []) ++ codes "lin") ≡ Err (record { reason = (reasons.Text (tokens.OpenQuote 13)); option = options.Label; line = 2 })) × (config_line (record { reason = (reasons.Text (tokens.OpenQuote 13)); option = options.Label; line = 2 }) ≡ (codes "label: open quote at line 2"))
unfolding digits with_front parts_of value_of line_of effect_value effect_flag opener_of opening_line section_path section_label label_reason excludes_line is_locked_fallback is_open_restricted section_refusal sections_refusal section_names many_refusal names_reason names_from default_refusal mount_of effect_mount section_device section_of number_of disk_of disks_of mode_of config_of whole_of conf_at given_text setting_of has_option opened_part part_kind setting_disk details_count details_of group_disk is_same_disk takes_nothing text_reason given_reason value_reason disk_reason detail_reason excluded_in part_reason setting_reason part_after settings_refusal opt_name all_options option_at opt_number takes_of places_of stands_in opens is_of_disk is_of_name excluded_by conf_reason_text config_line fault_place text_refusal flag_given flag_cut given_of signed_cut valued_cut taken_cut word_cut token_cut setting_cut with_setting settings_from text_settings is_separator is_bad_byte line_at in_comment is_blank blank_length is_of_word is_escape ends_quoted quoted_length unless_bad sound_token word_at closed quoted_at equals_at piece_at token_start next_piece is_equals pieces_from text_pieces unescaped_byte unescaped plain_bytes is_path is_name is_text is_shown number_between whole_disk_at root_at is_value last_length last_part disk_name last_partition partition_name device_name devices_of named_devices device_at disk_number device_number
conf_an_open_quote_after_an_option_without_its_sign = (refl, refl)

-- a bad byte in a value
pub conf_a_bad_byte_in_a_value : (conf_at (codes "prompt\nlabel=l" ++ (1 ∷ [])) ≡ Err (record { reason = (reasons.Text (tokens.BadByte 14)); option = options.Label; line = 2 })) × (config_line (record { reason = (reasons.Text (tokens.BadByte 14)); option = options.Label; line = 2 }) ≡ (codes "label: bad byte at line 2"))
unfolding digits with_front parts_of value_of line_of effect_value effect_flag opener_of opening_line section_path section_label label_reason excludes_line is_locked_fallback is_open_restricted section_refusal sections_refusal section_names many_refusal names_reason names_from default_refusal mount_of effect_mount section_device section_of number_of disk_of disks_of mode_of config_of whole_of conf_at given_text setting_of has_option opened_part part_kind setting_disk details_count details_of group_disk is_same_disk takes_nothing text_reason given_reason value_reason disk_reason detail_reason excluded_in part_reason setting_reason part_after settings_refusal opt_name all_options option_at opt_number takes_of places_of stands_in opens is_of_disk is_of_name excluded_by conf_reason_text config_line fault_place text_refusal flag_given flag_cut given_of signed_cut valued_cut taken_cut word_cut token_cut setting_cut with_setting settings_from text_settings is_separator is_bad_byte line_at in_comment is_blank blank_length is_of_word is_escape ends_quoted quoted_length unless_bad sound_token word_at closed quoted_at equals_at piece_at token_start next_piece is_equals pieces_from text_pieces unescaped_byte unescaped plain_bytes is_path is_name is_text is_shown number_between whole_disk_at root_at is_value last_length last_part disk_name last_partition partition_name device_name devices_of named_devices device_at disk_number device_number
conf_a_bad_byte_in_a_value = (refl, refl)

-- a bad byte after a flag
pub conf_a_bad_byte_after_a_flag : (conf_at (codes "prompt \n" ++ (127 ∷ [])) ≡ Err (record { reason = (reasons.Text (tokens.BadByte 8)); option = options.Prompt; line = 2 })) × (config_line (record { reason = (reasons.Text (tokens.BadByte 8)); option = options.Prompt; line = 2 }) ≡ (codes "prompt: bad byte at line 2"))
unfolding digits with_front parts_of value_of line_of effect_value effect_flag opener_of opening_line section_path section_label label_reason excludes_line is_locked_fallback is_open_restricted section_refusal sections_refusal section_names many_refusal names_reason names_from default_refusal mount_of effect_mount section_device section_of number_of disk_of disks_of mode_of config_of whole_of conf_at given_text setting_of has_option opened_part part_kind setting_disk details_count details_of group_disk is_same_disk takes_nothing text_reason given_reason value_reason disk_reason detail_reason excluded_in part_reason setting_reason part_after settings_refusal opt_name all_options option_at opt_number takes_of places_of stands_in opens is_of_disk is_of_name excluded_by conf_reason_text config_line fault_place text_refusal flag_given flag_cut given_of signed_cut valued_cut taken_cut word_cut token_cut setting_cut with_setting settings_from text_settings is_separator is_bad_byte line_at in_comment is_blank blank_length is_of_word is_escape ends_quoted quoted_length unless_bad sound_token word_at closed quoted_at equals_at piece_at token_start next_piece is_equals pieces_from text_pieces unescaped_byte unescaped plain_bytes is_path is_name is_text is_shown number_between whole_disk_at root_at is_value last_length last_part disk_name last_partition partition_name device_name devices_of named_devices device_at disk_number device_number
conf_a_bad_byte_after_a_flag = (refl, refl)

-- a bad byte in an option
pub conf_a_bad_byte_in_an_option : (conf_at (codes "prompt image" ++ (0 ∷ [])) ≡ Err (record { reason = (reasons.Text (tokens.BadByte 12)); option = options.Prompt; line = 1 })) × (config_line (record { reason = (reasons.Text (tokens.BadByte 12)); option = options.Prompt; line = 1 }) ≡ (codes "prompt: bad byte at line 1"))
unfolding digits with_front parts_of value_of line_of effect_value effect_flag opener_of opening_line section_path section_label label_reason excludes_line is_locked_fallback is_open_restricted section_refusal sections_refusal section_names many_refusal names_reason names_from default_refusal mount_of effect_mount section_device section_of number_of disk_of disks_of mode_of config_of whole_of conf_at given_text setting_of has_option opened_part part_kind setting_disk details_count details_of group_disk is_same_disk takes_nothing text_reason given_reason value_reason disk_reason detail_reason excluded_in part_reason setting_reason part_after settings_refusal opt_name all_options option_at opt_number takes_of places_of stands_in opens is_of_disk is_of_name excluded_by conf_reason_text config_line fault_place text_refusal flag_given flag_cut given_of signed_cut valued_cut taken_cut word_cut token_cut setting_cut with_setting settings_from text_settings is_separator is_bad_byte line_at in_comment is_blank blank_length is_of_word is_escape ends_quoted quoted_length unless_bad sound_token word_at closed quoted_at equals_at piece_at token_start next_piece is_equals pieces_from text_pieces unescaped_byte unescaped plain_bytes is_path is_name is_text is_shown number_between whole_disk_at root_at is_value last_length last_part disk_name last_partition partition_name device_name devices_of named_devices device_at disk_number device_number
conf_a_bad_byte_in_an_option = (refl, refl)

-- a quote alone
pub conf_a_quote_alone : (conf_at ((34 ∷ [])) ≡ Err (record { reason = (reasons.Text (tokens.OpenQuote 0)); option = options.Other; line = 1 })) × (config_line (record { reason = (reasons.Text (tokens.OpenQuote 0)); option = options.Other; line = 1 }) ≡ (codes "text: open quote at line 1"))
unfolding digits with_front parts_of value_of line_of effect_value effect_flag opener_of opening_line section_path section_label label_reason excludes_line is_locked_fallback is_open_restricted section_refusal sections_refusal section_names many_refusal names_reason names_from default_refusal mount_of effect_mount section_device section_of number_of disk_of disks_of mode_of config_of whole_of conf_at given_text setting_of has_option opened_part part_kind setting_disk details_count details_of group_disk is_same_disk takes_nothing text_reason given_reason value_reason disk_reason detail_reason excluded_in part_reason setting_reason part_after settings_refusal opt_name all_options option_at opt_number takes_of places_of stands_in opens is_of_disk is_of_name excluded_by conf_reason_text config_line fault_place text_refusal flag_given flag_cut given_of signed_cut valued_cut taken_cut word_cut token_cut setting_cut with_setting settings_from text_settings is_separator is_bad_byte line_at in_comment is_blank blank_length is_of_word is_escape ends_quoted quoted_length unless_bad sound_token word_at closed quoted_at equals_at piece_at token_start next_piece is_equals pieces_from text_pieces unescaped_byte unescaped plain_bytes is_path is_name is_text is_shown number_between whole_disk_at root_at is_value last_length last_part disk_name last_partition partition_name device_name devices_of named_devices device_at disk_number device_number
conf_a_quote_alone = (refl, refl)

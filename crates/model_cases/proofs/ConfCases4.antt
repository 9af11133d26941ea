-- Cases of lilo.conf, part 4; tools/conf_cases.py writes this file.
use Rattle.std.specs.Prelude.{◌≡◌, [], ◌∷◌, ◌++◌, true, false, None, Some, Ok, Err, codes}
use Rattle.std.proofs.Common.{refl}
use Rattle.std.specs.Fmt.{digits}
use Rattle.lilo_model.specs.Slots.{ChsMode, LinearMode}
use Rattle.lilo_model.specs.ConfOptions as options
use Rattle.lilo_model.specs.ConfTokens as tokens
use Rattle.lilo_model.specs.ConfRefusal as reasons
use Rattle.lilo_model.specs.Conf.{with_front, parts_of, value_of, line_of, effect_value, effect_flag, opener_of, opening_line, section_path, section_label, label_reason, excludes_line, is_locked_fallback, is_open_restricted, section_refusal, sections_refusal, section_names, many_refusal, names_reason, names_from, default_refusal, mount_of, effect_mount, section_device, section_of, number_of, disk_of, disks_of, mode_of, config_of, whole_of, conf_at, Unsaid, ReadOnlyMount, ReadWriteMount}
use Rattle.lilo_model.specs.ConfJudge.{given_text, setting_of, has_option, opened_part, part_kind, setting_disk, details_count, details_of, group_disk, is_same_disk, takes_nothing, text_reason, given_reason, value_reason, disk_reason, detail_reason, excluded_in, part_reason, setting_reason, part_after, settings_refusal}
use Rattle.lilo_model.specs.ConfOptions.{opt_name, all_options, option_at, opt_number, takes_of, places_of, stands_in, opens, is_of_disk, is_of_name, excluded_by}
use Rattle.lilo_model.specs.ConfRefusal.{conf_reason_text, config_line}
use Rattle.lilo_model.specs.ConfSettings.{fault_place, text_refusal, flag_given, flag_cut, given_of, signed_cut, valued_cut, taken_cut, word_cut, token_cut, setting_cut, with_setting, settings_from, text_settings}
use Rattle.lilo_model.specs.ConfTokens.{is_separator, is_bad_byte, line_at, in_comment, is_blank, blank_length, is_of_word, is_escape, ends_quoted, quoted_length, unless_bad, sound_token, word_at, closed, quoted_at, equals_at, piece_at, token_start, next_piece, is_equals, pieces_from, text_pieces, unescaped_byte, unescaped, plain_bytes}
use Rattle.lilo_model.specs.ConfValues.{is_path, is_name, is_text, is_shown, number_between, whole_disk_at, root_at, is_value, last_length, last_part}
use Rattle.lilo_model.specs.Devices.{disk_name, last_partition, partition_name, device_name, devices_of, named_devices, device_at, disk_number, device_number}

-- a delay too long
pub conf_a_delay_too_long : (conf_at (codes "delay=65535\n") ≡ Err (record { reason = reasons.BadValue; option = options.Delay; line = 1 })) × (config_line (record { reason = reasons.BadValue; option = options.Delay; line = 1 }) ≡ (codes "delay: bad value at line 1"))
unfolding digits with_front parts_of value_of line_of effect_value effect_flag opener_of opening_line section_path section_label label_reason excludes_line is_locked_fallback is_open_restricted section_refusal sections_refusal section_names many_refusal names_reason names_from default_refusal mount_of effect_mount section_device section_of number_of disk_of disks_of mode_of config_of whole_of conf_at given_text setting_of has_option opened_part part_kind setting_disk details_count details_of group_disk is_same_disk takes_nothing text_reason given_reason value_reason disk_reason detail_reason excluded_in part_reason setting_reason part_after settings_refusal opt_name all_options option_at opt_number takes_of places_of stands_in opens is_of_disk is_of_name excluded_by conf_reason_text config_line fault_place text_refusal flag_given flag_cut given_of signed_cut valued_cut taken_cut word_cut token_cut setting_cut with_setting settings_from text_settings is_separator is_bad_byte line_at in_comment is_blank blank_length is_of_word is_escape ends_quoted quoted_length unless_bad sound_token word_at closed quoted_at equals_at piece_at token_start next_piece is_equals pieces_from text_pieces unescaped_byte unescaped plain_bytes is_path is_name is_text is_shown number_between whole_disk_at root_at is_value last_length last_part disk_name last_partition partition_name device_name devices_of named_devices device_at disk_number device_number
conf_a_delay_too_long = (refl, refl)

-- a number of letters
pub conf_a_number_of_letters : (conf_at (codes "delay=5x\n") ≡ Err (record { reason = reasons.BadValue; option = options.Delay; line = 1 })) × (config_line (record { reason = reasons.BadValue; option = options.Delay; line = 1 }) ≡ (codes "delay: bad value at line 1"))
unfolding digits with_front parts_of value_of line_of effect_value effect_flag opener_of opening_line section_path section_label label_reason excludes_line is_locked_fallback is_open_restricted section_refusal sections_refusal section_names many_refusal names_reason names_from default_refusal mount_of effect_mount section_device section_of number_of disk_of disks_of mode_of config_of whole_of conf_at given_text setting_of has_option opened_part part_kind setting_disk details_count details_of group_disk is_same_disk takes_nothing text_reason given_reason value_reason disk_reason detail_reason excluded_in part_reason setting_reason part_after settings_refusal opt_name all_options option_at opt_number takes_of places_of stands_in opens is_of_disk is_of_name excluded_by conf_reason_text config_line fault_place text_refusal flag_given flag_cut given_of signed_cut valued_cut taken_cut word_cut token_cut setting_cut with_setting settings_from text_settings is_separator is_bad_byte line_at in_comment is_blank blank_length is_of_word is_escape ends_quoted quoted_length unless_bad sound_token word_at closed quoted_at equals_at piece_at token_start next_piece is_equals pieces_from text_pieces unescaped_byte unescaped plain_bytes is_path is_name is_text is_shown number_between whole_disk_at root_at is_value last_length last_part disk_name last_partition partition_name device_name devices_of named_devices device_at disk_number device_number
conf_a_number_of_letters = (refl, refl)

-- a number with a great letter
pub conf_a_number_with_a_great_letter : (conf_at (codes "delay=0X10\n") ≡ Err (record { reason = reasons.BadValue; option = options.Delay; line = 1 })) × (config_line (record { reason = reasons.BadValue; option = options.Delay; line = 1 }) ≡ (codes "delay: bad value at line 1"))
unfolding digits with_front parts_of value_of line_of effect_value effect_flag opener_of opening_line section_path section_label label_reason excludes_line is_locked_fallback is_open_restricted section_refusal sections_refusal section_names many_refusal names_reason names_from default_refusal mount_of effect_mount section_device section_of number_of disk_of disks_of mode_of config_of whole_of conf_at given_text setting_of has_option opened_part part_kind setting_disk details_count details_of group_disk is_same_disk takes_nothing text_reason given_reason value_reason disk_reason detail_reason excluded_in part_reason setting_reason part_after settings_refusal opt_name all_options option_at opt_number takes_of places_of stands_in opens is_of_disk is_of_name excluded_by conf_reason_text config_line fault_place text_refusal flag_given flag_cut given_of signed_cut valued_cut taken_cut word_cut token_cut setting_cut with_setting settings_from text_settings is_separator is_bad_byte line_at in_comment is_blank blank_length is_of_word is_escape ends_quoted quoted_length unless_bad sound_token word_at closed quoted_at equals_at piece_at token_start next_piece is_equals pieces_from text_pieces unescaped_byte unescaped plain_bytes is_path is_name is_text is_shown number_between whole_disk_at root_at is_value last_length last_part disk_name last_partition partition_name device_name devices_of named_devices device_at disk_number device_number
conf_a_number_with_a_great_letter = (refl, refl)

-- leading zeros
pub conf_leading_zeros : conf_at (codes "delay=0x00fE\nimage=/a\n") ≡ Ok (record { boot = None; map = (codes "/boot/map"); install = None; backup = None; force_backup = None; compact = false; mode = ChsMode; default_name = None; delay = 254; timeout = None; prompt = false; message = None; disks = []; sections = ((record { other = None; path = (codes "/a"); label = (codes "a"); alias = None; initrd = None; root = None; mount = Unsaid; append = None; literal = None; vga = None; password = None; restricted = false; optional = false; lock = false; fallback = None; table = None; line = 2 }) ∷ []) })
unfolding digits with_front parts_of value_of line_of effect_value effect_flag opener_of opening_line section_path section_label label_reason excludes_line is_locked_fallback is_open_restricted section_refusal sections_refusal section_names many_refusal names_reason names_from default_refusal mount_of effect_mount section_device section_of number_of disk_of disks_of mode_of config_of whole_of conf_at given_text setting_of has_option opened_part part_kind setting_disk details_count details_of group_disk is_same_disk takes_nothing text_reason given_reason value_reason disk_reason detail_reason excluded_in part_reason setting_reason part_after settings_refusal opt_name all_options option_at opt_number takes_of places_of stands_in opens is_of_disk is_of_name excluded_by conf_reason_text config_line fault_place text_refusal flag_given flag_cut given_of signed_cut valued_cut taken_cut word_cut token_cut setting_cut with_setting settings_from text_settings is_separator is_bad_byte line_at in_comment is_blank blank_length is_of_word is_escape ends_quoted quoted_length unless_bad sound_token word_at closed quoted_at equals_at piece_at token_start next_piece is_equals pieces_from text_pieces unescaped_byte unescaped plain_bytes is_path is_name is_text is_shown number_between whole_disk_at root_at is_value last_length last_part disk_name last_partition partition_name device_name devices_of named_devices device_at disk_number device_number
conf_leading_zeros = refl

-- a mode
pub conf_a_mode : (conf_at (codes "vga=65536\n") ≡ Err (record { reason = reasons.BadValue; option = options.Vga; line = 1 })) × (config_line (record { reason = reasons.BadValue; option = options.Vga; line = 1 }) ≡ (codes "vga: bad value at line 1"))
unfolding digits with_front parts_of value_of line_of effect_value effect_flag opener_of opening_line section_path section_label label_reason excludes_line is_locked_fallback is_open_restricted section_refusal sections_refusal section_names many_refusal names_reason names_from default_refusal mount_of effect_mount section_device section_of number_of disk_of disks_of mode_of config_of whole_of conf_at given_text setting_of has_option opened_part part_kind setting_disk details_count details_of group_disk is_same_disk takes_nothing text_reason given_reason value_reason disk_reason detail_reason excluded_in part_reason setting_reason part_after settings_refusal opt_name all_options option_at opt_number takes_of places_of stands_in opens is_of_disk is_of_name excluded_by conf_reason_text config_line fault_place text_refusal flag_given flag_cut given_of signed_cut valued_cut taken_cut word_cut token_cut setting_cut with_setting settings_from text_settings is_separator is_bad_byte line_at in_comment is_blank blank_length is_of_word is_escape ends_quoted quoted_length unless_bad sound_token word_at closed quoted_at equals_at piece_at token_start next_piece is_equals pieces_from text_pieces unescaped_byte unescaped plain_bytes is_path is_name is_text is_shown number_between whole_disk_at root_at is_value last_length last_part disk_name last_partition partition_name device_name devices_of named_devices device_at disk_number device_number
conf_a_mode = (refl, refl)

-- a root without its mark
pub conf_a_root_without_its_mark : (conf_at (codes "root=301\n") ≡ Err (record { reason = reasons.BadValue; option = options.Root; line = 1 })) × (config_line (record { reason = reasons.BadValue; option = options.Root; line = 1 }) ≡ (codes "root: bad value at line 1"))
unfolding digits with_front parts_of value_of line_of effect_value effect_flag opener_of opening_line section_path section_label label_reason excludes_line is_locked_fallback is_open_restricted section_refusal sections_refusal section_names many_refusal names_reason names_from default_refusal mount_of effect_mount section_device section_of number_of disk_of disks_of mode_of config_of whole_of conf_at given_text setting_of has_option opened_part part_kind setting_disk details_count details_of group_disk is_same_disk takes_nothing text_reason given_reason value_reason disk_reason detail_reason excluded_in part_reason setting_reason part_after settings_refusal opt_name all_options option_at opt_number takes_of places_of stands_in opens is_of_disk is_of_name excluded_by conf_reason_text config_line fault_place text_refusal flag_given flag_cut given_of signed_cut valued_cut taken_cut word_cut token_cut setting_cut with_setting settings_from text_settings is_separator is_bad_byte line_at in_comment is_blank blank_length is_of_word is_escape ends_quoted quoted_length unless_bad sound_token word_at closed quoted_at equals_at piece_at token_start next_piece is_equals pieces_from text_pieces unescaped_byte unescaped plain_bytes is_path is_name is_text is_shown number_between whole_disk_at root_at is_value last_length last_part disk_name last_partition partition_name device_name devices_of named_devices device_at disk_number device_number
conf_a_root_without_its_mark = (refl, refl)

-- a restricted section
pub conf_a_restricted_section : (conf_at (codes "restricted\nimage=/a\n") ≡ Err (record { reason = (reasons.Needs options.Password); option = options.Restricted; line = 2 })) × (config_line (record { reason = (reasons.Needs options.Password); option = options.Restricted; line = 2 }) ≡ (codes "restricted: needs password at line 2"))
unfolding digits with_front parts_of value_of line_of effect_value effect_flag opener_of opening_line section_path section_label label_reason excludes_line is_locked_fallback is_open_restricted section_refusal sections_refusal section_names many_refusal names_reason names_from default_refusal mount_of effect_mount section_device section_of number_of disk_of disks_of mode_of config_of whole_of conf_at given_text setting_of has_option opened_part part_kind setting_disk details_count details_of group_disk is_same_disk takes_nothing text_reason given_reason value_reason disk_reason detail_reason excluded_in part_reason setting_reason part_after settings_refusal opt_name all_options option_at opt_number takes_of places_of stands_in opens is_of_disk is_of_name excluded_by conf_reason_text config_line fault_place text_refusal flag_given flag_cut given_of signed_cut valued_cut taken_cut word_cut token_cut setting_cut with_setting settings_from text_settings is_separator is_bad_byte line_at in_comment is_blank blank_length is_of_word is_escape ends_quoted quoted_length unless_bad sound_token word_at closed quoted_at equals_at piece_at token_start next_piece is_equals pieces_from text_pieces unescaped_byte unescaped plain_bytes is_path is_name is_text is_shown number_between whole_disk_at root_at is_value last_length last_part disk_name last_partition partition_name device_name devices_of named_devices device_at disk_number device_number
conf_a_restricted_section = (refl, refl)

-- a restricted section with a password
pub conf_a_restricted_section_with_a_password : conf_at (codes "restricted\npassword=tux\nimage=/a\n") ≡ Ok (record { boot = None; map = (codes "/boot/map"); install = None; backup = None; force_backup = None; compact = false; mode = ChsMode; default_name = None; delay = 0; timeout = None; prompt = false; message = None; disks = []; sections = ((record { other = None; path = (codes "/a"); label = (codes "a"); alias = None; initrd = None; root = None; mount = Unsaid; append = None; literal = None; vga = None; password = (Some (codes "tux")); restricted = true; optional = false; lock = false; fallback = None; table = None; line = 3 }) ∷ []) })
unfolding digits with_front parts_of value_of line_of effect_value effect_flag opener_of opening_line section_path section_label label_reason excludes_line is_locked_fallback is_open_restricted section_refusal sections_refusal section_names many_refusal names_reason names_from default_refusal mount_of effect_mount section_device section_of number_of disk_of disks_of mode_of config_of whole_of conf_at given_text setting_of has_option opened_part part_kind setting_disk details_count details_of group_disk is_same_disk takes_nothing text_reason given_reason value_reason disk_reason detail_reason excluded_in part_reason setting_reason part_after settings_refusal opt_name all_options option_at opt_number takes_of places_of stands_in opens is_of_disk is_of_name excluded_by conf_reason_text config_line fault_place text_refusal flag_given flag_cut given_of signed_cut valued_cut taken_cut word_cut token_cut setting_cut with_setting settings_from text_settings is_separator is_bad_byte line_at in_comment is_blank blank_length is_of_word is_escape ends_quoted quoted_length unless_bad sound_token word_at closed quoted_at equals_at piece_at token_start next_piece is_equals pieces_from text_pieces unescaped_byte unescaped plain_bytes is_path is_name is_text is_shown number_between whole_disk_at root_at is_value last_length last_part disk_name last_partition partition_name device_name devices_of named_devices device_at disk_number device_number
conf_a_restricted_section_with_a_password = refl

-- a password of 32 bytes
pub conf_a_password_of_32_bytes : (conf_at (codes "password=xxxxxxxxxxxxxxxxxxxxxxxxxxxxxxxx\n") ≡ Err (record { reason = reasons.BadValue; option = options.Password; line = 1 })) × (config_line (record { reason = reasons.BadValue; option = options.Password; line = 1 }) ≡ (codes "password: bad value at line 1"))
unfolding digits with_front parts_of value_of line_of effect_value effect_flag opener_of opening_line section_path section_label label_reason excludes_line is_locked_fallback is_open_restricted section_refusal sections_refusal section_names many_refusal names_reason names_from default_refusal mount_of effect_mount section_device section_of number_of disk_of disks_of mode_of config_of whole_of conf_at given_text setting_of has_option opened_part part_kind setting_disk details_count details_of group_disk is_same_disk takes_nothing text_reason given_reason value_reason disk_reason detail_reason excluded_in part_reason setting_reason part_after settings_refusal opt_name all_options option_at opt_number takes_of places_of stands_in opens is_of_disk is_of_name excluded_by conf_reason_text config_line fault_place text_refusal flag_given flag_cut given_of signed_cut valued_cut taken_cut word_cut token_cut setting_cut with_setting settings_from text_settings is_separator is_bad_byte line_at in_comment is_blank blank_length is_of_word is_escape ends_quoted quoted_length unless_bad sound_token word_at closed quoted_at equals_at piece_at token_start next_piece is_equals pieces_from text_pieces unescaped_byte unescaped plain_bytes is_path is_name is_text is_shown number_between whole_disk_at root_at is_value last_length last_part disk_name last_partition partition_name device_name devices_of named_devices device_at disk_number device_number
conf_a_password_of_32_bytes = (refl, refl)

-- a password of no byte
pub conf_a_password_of_no_byte : (conf_at (codes "password=" ++ (34 ∷ []) ++ (34 ∷ []) ++ codes "\n") ≡ Err (record { reason = reasons.BadValue; option = options.Password; line = 1 })) × (config_line (record { reason = reasons.BadValue; option = options.Password; line = 1 }) ≡ (codes "password: bad value at line 1"))
unfolding digits with_front parts_of value_of line_of effect_value effect_flag opener_of opening_line section_path section_label label_reason excludes_line is_locked_fallback is_open_restricted section_refusal sections_refusal section_names many_refusal names_reason names_from default_refusal mount_of effect_mount section_device section_of number_of disk_of disks_of mode_of config_of whole_of conf_at given_text setting_of has_option opened_part part_kind setting_disk details_count details_of group_disk is_same_disk takes_nothing text_reason given_reason value_reason disk_reason detail_reason excluded_in part_reason setting_reason part_after settings_refusal opt_name all_options option_at opt_number takes_of places_of stands_in opens is_of_disk is_of_name excluded_by conf_reason_text config_line fault_place text_refusal flag_given flag_cut given_of signed_cut valued_cut taken_cut word_cut token_cut setting_cut with_setting settings_from text_settings is_separator is_bad_byte line_at in_comment is_blank blank_length is_of_word is_escape ends_quoted quoted_length unless_bad sound_token word_at closed quoted_at equals_at piece_at token_start next_piece is_equals pieces_from text_pieces unescaped_byte unescaped plain_bytes is_path is_name is_text is_shown number_between whole_disk_at root_at is_value last_length last_part disk_name last_partition partition_name device_name devices_of named_devices device_at disk_number device_number
conf_a_password_of_no_byte = (refl, refl)

-- a fallback of 256 bytes
pub conf_a_fallback_of_256_bytes : (conf_at (codes "fallback=xxxxxxxxxxxxxxxxxxxxxxxxxxxxxxxxxxxxxxxxxxxxxxxxxxxxxxxxxxxxxxxxxxxxxxxxxxxxxxxxxxxxxxxxxxxxxxxxxxxxxxxxxxxxxxxxxxxxxxxxxxxxxxxxxxxxxxxxxxxxxxxxxxxxxxxxxxxxxxxxxxxxxxxxxxxxxxxxxxxxxxxxxxxxxxxxxxxxxxxxxxxxxxxxxxxxxxxxxxxxxxxxxxxxxxxxxxxxxxxxxxxxxxxxxxxxxxxx\n") ≡ Err (record { reason = reasons.BadValue; option = options.Fallback; line = 1 })) × (config_line (record { reason = reasons.BadValue; option = options.Fallback; line = 1 }) ≡ (codes "fallback: bad value at line 1"))
unfolding digits with_front parts_of value_of line_of effect_value effect_flag opener_of opening_line section_path section_label label_reason excludes_line is_locked_fallback is_open_restricted section_refusal sections_refusal section_names many_refusal names_reason names_from default_refusal mount_of effect_mount section_device section_of number_of disk_of disks_of mode_of config_of whole_of conf_at given_text setting_of has_option opened_part part_kind setting_disk details_count details_of group_disk is_same_disk takes_nothing text_reason given_reason value_reason disk_reason detail_reason excluded_in part_reason setting_reason part_after settings_refusal opt_name all_options option_at opt_number takes_of places_of stands_in opens is_of_disk is_of_name excluded_by conf_reason_text config_line fault_place text_refusal flag_given flag_cut given_of signed_cut valued_cut taken_cut word_cut token_cut setting_cut with_setting settings_from text_settings is_separator is_bad_byte line_at in_comment is_blank blank_length is_of_word is_escape ends_quoted quoted_length unless_bad sound_token word_at closed quoted_at equals_at piece_at token_start next_piece is_equals pieces_from text_pieces unescaped_byte unescaped plain_bytes is_path is_name is_text is_shown number_between whole_disk_at root_at is_value last_length last_part disk_name last_partition partition_name device_name devices_of named_devices device_at disk_number device_number
conf_a_fallback_of_256_bytes = (refl, refl)

-- a global lock and a fallback
pub conf_a_global_lock_and_a_fallback : (conf_at (codes "lock\nimage=/a\n\nfallback=a\n") ≡ Err (record { reason = (reasons.Excludes options.Lock); option = options.Fallback; line = 2 })) × (config_line (record { reason = (reasons.Excludes options.Lock); option = options.Fallback; line = 2 }) ≡ (codes "fallback: excludes lock at line 2"))
unfolding digits with_front parts_of value_of line_of effect_value effect_flag opener_of opening_line section_path section_label label_reason excludes_line is_locked_fallback is_open_restricted section_refusal sections_refusal section_names many_refusal names_reason names_from default_refusal mount_of effect_mount section_device section_of number_of disk_of disks_of mode_of config_of whole_of conf_at given_text setting_of has_option opened_part part_kind setting_disk details_count details_of group_disk is_same_disk takes_nothing text_reason given_reason value_reason disk_reason detail_reason excluded_in part_reason setting_reason part_after settings_refusal opt_name all_options option_at opt_number takes_of places_of stands_in opens is_of_disk is_of_name excluded_by conf_reason_text config_line fault_place text_refusal flag_given flag_cut given_of signed_cut valued_cut taken_cut word_cut token_cut setting_cut with_setting settings_from text_settings is_separator is_bad_byte line_at in_comment is_blank blank_length is_of_word is_escape ends_quoted quoted_length unless_bad sound_token word_at closed quoted_at equals_at piece_at token_start next_piece is_equals pieces_from text_pieces unescaped_byte unescaped plain_bytes is_path is_name is_text is_shown number_between whole_disk_at root_at is_value last_length last_part disk_name last_partition partition_name device_name devices_of named_devices device_at disk_number device_number
conf_a_global_lock_and_a_fallback = (refl, refl)

-- options of no effect
pub conf_options_of_no_effect : conf_at (codes "compact\nnowarn\nignore-table fix-table verbose=5\nmessage=/m\noptional\nother=/dev/sda\nloader=/l\n") ≡ Ok (record { boot = None; map = (codes "/boot/map"); install = None; backup = None; force_backup = None; compact = true; mode = ChsMode; default_name = None; delay = 0; timeout = None; prompt = false; message = (Some (codes "/m")); disks = []; sections = ((record { other = (Some (record { disk = 2; partition = 0 })); path = (codes "/dev/sda"); label = (codes "sda"); alias = None; initrd = None; root = None; mount = Unsaid; append = None; literal = None; vga = None; password = None; restricted = false; optional = true; lock = false; fallback = None; table = None; line = 6 }) ∷ []) })
unfolding digits with_front parts_of value_of line_of effect_value effect_flag opener_of opening_line section_path section_label label_reason excludes_line is_locked_fallback is_open_restricted section_refusal sections_refusal section_names many_refusal names_reason names_from default_refusal mount_of effect_mount section_device section_of number_of disk_of disks_of mode_of config_of whole_of conf_at given_text setting_of has_option opened_part part_kind setting_disk details_count details_of group_disk is_same_disk takes_nothing text_reason given_reason value_reason disk_reason detail_reason excluded_in part_reason setting_reason part_after settings_refusal opt_name all_options option_at opt_number takes_of places_of stands_in opens is_of_disk is_of_name excluded_by conf_reason_text config_line fault_place text_refusal flag_given flag_cut given_of signed_cut valued_cut taken_cut word_cut token_cut setting_cut with_setting settings_from text_settings is_separator is_bad_byte line_at in_comment is_blank blank_length is_of_word is_escape ends_quoted quoted_length unless_bad sound_token word_at closed quoted_at equals_at piece_at token_start next_piece is_equals pieces_from text_pieces unescaped_byte unescaped plain_bytes is_path is_name is_text is_shown number_between whole_disk_at root_at is_value last_length last_part disk_name last_partition partition_name device_name devices_of named_devices device_at disk_number device_number
conf_options_of_no_effect = refl

-- an option after its section
pub conf_an_option_after_its_section : (conf_at (codes "image=/a\nboot=/dev/hda\n") ≡ Err (record { reason = reasons.Misplaced; option = options.Boot; line = 2 })) × (config_line (record { reason = reasons.Misplaced; option = options.Boot; line = 2 }) ≡ (codes "boot: misplaced at line 2"))
unfolding digits with_front parts_of value_of line_of effect_value effect_flag opener_of opening_line section_path section_label label_reason excludes_line is_locked_fallback is_open_restricted section_refusal sections_refusal section_names many_refusal names_reason names_from default_refusal mount_of effect_mount section_device section_of number_of disk_of disks_of mode_of config_of whole_of conf_at given_text setting_of has_option opened_part part_kind setting_disk details_count details_of group_disk is_same_disk takes_nothing text_reason given_reason value_reason disk_reason detail_reason excluded_in part_reason setting_reason part_after settings_refusal opt_name all_options option_at opt_number takes_of places_of stands_in opens is_of_disk is_of_name excluded_by conf_reason_text config_line fault_place text_refusal flag_given flag_cut given_of signed_cut valued_cut taken_cut word_cut token_cut setting_cut with_setting settings_from text_settings is_separator is_bad_byte line_at in_comment is_blank blank_length is_of_word is_escape ends_quoted quoted_length unless_bad sound_token word_at closed quoted_at equals_at piece_at token_start next_piece is_equals pieces_from text_pieces unescaped_byte unescaped plain_bytes is_path is_name is_text is_shown number_between whole_disk_at root_at is_value last_length last_part disk_name last_partition partition_name device_name devices_of named_devices device_at disk_number device_number
conf_an_option_after_its_section = (refl, refl)

-- no value in a wrong place
pub conf_no_value_in_a_wrong_place : (conf_at (codes "image=/a\nboot\n") ≡ Err (record { reason = reasons.Misplaced; option = options.Boot; line = 2 })) × (config_line (record { reason = reasons.Misplaced; option = options.Boot; line = 2 }) ≡ (codes "boot: misplaced at line 2"))
unfolding digits with_front parts_of value_of line_of effect_value effect_flag opener_of opening_line section_path section_label label_reason excludes_line is_locked_fallback is_open_restricted section_refusal sections_refusal section_names many_refusal names_reason names_from default_refusal mount_of effect_mount section_device section_of number_of disk_of disks_of mode_of config_of whole_of conf_at given_text setting_of has_option opened_part part_kind setting_disk details_count details_of group_disk is_same_disk takes_nothing text_reason given_reason value_reason disk_reason detail_reason excluded_in part_reason setting_reason part_after settings_refusal opt_name all_options option_at opt_number takes_of places_of stands_in opens is_of_disk is_of_name excluded_by conf_reason_text config_line fault_place text_refusal flag_given flag_cut given_of signed_cut valued_cut taken_cut word_cut token_cut setting_cut with_setting settings_from text_settings is_separator is_bad_byte line_at in_comment is_blank blank_length is_of_word is_escape ends_quoted quoted_length unless_bad sound_token word_at closed quoted_at equals_at piece_at token_start next_piece is_equals pieces_from text_pieces unescaped_byte unescaped plain_bytes is_path is_name is_text is_shown number_between whole_disk_at root_at is_value last_length last_part disk_name last_partition partition_name device_name devices_of named_devices device_at disk_number device_number
conf_no_value_in_a_wrong_place = (refl, refl)

-- carriage returns
pub conf_carriage_returns : conf_at (codes "prompt" ++ (13 ∷ []) ++ codes "\nimage = /a" ++ (13 ∷ []) ++ codes "\n" ++ (9 ∷ []) ++ codes "label" ++ (9 ∷ []) ++ codes "=" ++ (9 ∷ []) ++ (34 ∷ []) ++ codes "b" ++ (34 ∷ []) ++ (13 ∷ []) ++ codes "\n") ≡ Ok (record { boot = None; map = (codes "/boot/map"); install = None; backup = None; force_backup = None; compact = false; mode = ChsMode; default_name = None; delay = 0; timeout = None; prompt = true; message = None; disks = []; sections = ((record { other = None; path = (codes "/a"); label = (codes "b"); alias = None; initrd = None; root = None; mount = Unsaid; append = None; literal = None; vga = None; password = None; restricted = false; optional = false; lock = false; fallback = None; table = None; line = 2 }) ∷ []) })
unfolding digits with_front parts_of value_of line_of effect_value effect_flag opener_of opening_line section_path section_label label_reason excludes_line is_locked_fallback is_open_restricted section_refusal sections_refusal section_names many_refusal names_reason names_from default_refusal mount_of effect_mount section_device section_of number_of disk_of disks_of mode_of config_of whole_of conf_at given_text setting_of has_option opened_part part_kind setting_disk details_count details_of group_disk is_same_disk takes_nothing text_reason given_reason value_reason disk_reason detail_reason excluded_in part_reason setting_reason part_after settings_refusal opt_name all_options option_at opt_number takes_of places_of stands_in opens is_of_disk is_of_name excluded_by conf_reason_text config_line fault_place text_refusal flag_given flag_cut given_of signed_cut valued_cut taken_cut word_cut token_cut setting_cut with_setting settings_from text_settings is_separator is_bad_byte line_at in_comment is_blank blank_length is_of_word is_escape ends_quoted quoted_length unless_bad sound_token word_at closed quoted_at equals_at piece_at token_start next_piece is_equals pieces_from text_pieces unescaped_byte unescaped plain_bytes is_path is_name is_text is_shown number_between whole_disk_at root_at is_value last_length last_part disk_name last_partition partition_name device_name devices_of named_devices device_at disk_number device_number
conf_carriage_returns = refl

-- blanks, tabs and comments
pub conf_blanks_tabs_and_comments : conf_at (codes "# LILO configuration file" ++ (13 ∷ []) ++ codes "\n#" ++ (13 ∷ []) ++ codes "\nboot = /dev/hda" ++ (13 ∷ []) ++ codes "\nmap=/boot/map.b" ++ (13 ∷ []) ++ codes "\ninstall" ++ (9 ∷ []) ++ codes "=" ++ (9 ∷ []) ++ codes "/boot/boot.b" ++ (13 ∷ []) ++ codes "\nprompt" ++ (13 ∷ []) ++ codes "\ntimeout = 100 # ten seconds" ++ (13 ∷ []) ++ codes "\ncompact" ++ (13 ∷ []) ++ codes "\nvga = normal" ++ (13 ∷ []) ++ codes "\nappend = " ++ (34 ∷ []) ++ codes "hdc=ide-scsi quiet" ++ (34 ∷ []) ++ (13 ∷ []) ++ codes "\nread-only" ++ (13 ∷ []) ++ codes "\n" ++ (13 ∷ []) ++ codes "\nimage = /boot/vmlinuz" ++ (13 ∷ []) ++ codes "\n" ++ (9 ∷ []) ++ codes "label = linux" ++ (13 ∷ []) ++ codes "\n" ++ (9 ∷ []) ++ codes "root = /dev/hda2" ++ (13 ∷ []) ++ codes "\n" ++ (13 ∷ []) ++ codes "\nimage = /boot/vmlinuz.old" ++ (13 ∷ []) ++ codes "\n" ++ (9 ∷ []) ++ codes "label = old" ++ (13 ∷ []) ++ codes "\n" ++ (9 ∷ []) ++ codes "root = /dev/hda2" ++ (13 ∷ []) ++ codes "\n" ++ (9 ∷ []) ++ codes "append = single" ++ (13 ∷ []) ++ codes "\n" ++ (9 ∷ []) ++ codes "optional" ++ (13 ∷ []) ++ codes "\n" ++ (13 ∷ []) ++ codes "\nother = /dev/hda1" ++ (13 ∷ []) ++ codes "\n" ++ (9 ∷ []) ++ codes "label = dos" ++ (13 ∷ []) ++ codes "\n" ++ (9 ∷ []) ++ codes "table = /dev/hda" ++ (13 ∷ []) ++ codes "\n") ≡ Ok (record { boot = (Some (record { disk = 0; partition = 0 })); map = (codes "/boot/map.b"); install = (Some (codes "/boot/boot.b")); backup = None; force_backup = None; compact = true; mode = ChsMode; default_name = None; delay = 0; timeout = (Some 100); prompt = true; message = None; disks = []; sections = ((record { other = None; path = (codes "/boot/vmlinuz"); label = (codes "linux"); alias = None; initrd = None; root = (Some 770); mount = ReadOnlyMount; append = (Some (codes "hdc=ide-scsi quiet")); literal = None; vga = (Some 65535); password = None; restricted = false; optional = false; lock = false; fallback = None; table = None; line = 13 }) ∷ (record { other = None; path = (codes "/boot/vmlinuz.old"); label = (codes "old"); alias = None; initrd = None; root = (Some 770); mount = ReadOnlyMount; append = (Some (codes "single")); literal = None; vga = (Some 65535); password = None; restricted = false; optional = true; lock = false; fallback = None; table = None; line = 17 }) ∷ (record { other = (Some (record { disk = 0; partition = 1 })); path = (codes "/dev/hda1"); label = (codes "dos"); alias = None; initrd = None; root = None; mount = Unsaid; append = None; literal = None; vga = None; password = None; restricted = false; optional = false; lock = false; fallback = None; table = (Some (record { disk = 0; partition = 0 })); line = 23 }) ∷ []) })
unfolding digits with_front parts_of value_of line_of effect_value effect_flag opener_of opening_line section_path section_label label_reason excludes_line is_locked_fallback is_open_restricted section_refusal sections_refusal section_names many_refusal names_reason names_from default_refusal mount_of effect_mount section_device section_of number_of disk_of disks_of mode_of config_of whole_of conf_at given_text setting_of has_option opened_part part_kind setting_disk details_count details_of group_disk is_same_disk takes_nothing text_reason given_reason value_reason disk_reason detail_reason excluded_in part_reason setting_reason part_after settings_refusal opt_name all_options option_at opt_number takes_of places_of stands_in opens is_of_disk is_of_name excluded_by conf_reason_text config_line fault_place text_refusal flag_given flag_cut given_of signed_cut valued_cut taken_cut word_cut token_cut setting_cut with_setting settings_from text_settings is_separator is_bad_byte line_at in_comment is_blank blank_length is_of_word is_escape ends_quoted quoted_length unless_bad sound_token word_at closed quoted_at equals_at piece_at token_start next_piece is_equals pieces_from text_pieces unescaped_byte unescaped plain_bytes is_path is_name is_text is_shown number_between whole_disk_at root_at is_value last_length last_part disk_name last_partition partition_name device_name devices_of named_devices device_at disk_number device_number
conf_blanks_tabs_and_comments = refl

-- sections before the global part
pub conf_sections_before_the_global_part : conf_at (codes "boot=/dev/sda\nlinear\nbackup=/boot/boot.0800\nmessage=/boot/message\ndelay=20\nverbose=5\nnowarn ignore-table fix-table\ndisk=/dev/sda\n    bios=0x82\n    sectors=63\n    heads=255\n    cylinders=1024\ndisk=/dev/hdb\ndefault=safe\npassword=" ++ (34 ∷ []) ++ codes "no entry" ++ (34 ∷ []) ++ codes "\nrestricted\ninitrd=/boot/initrd\nroot=0x802\nread-write\nimage=/vmlinuz\n    alias=Linux\n    fallback=" ++ (34 ∷ []) ++ codes "old 1" ++ (34 ∷ []) ++ codes "\n    vga=0x317\nimage=/vmlinuz.old\n    label=safe\n    initrd=/boot/initrd.old\n    read-only\n    literal=" ++ (34 ∷ []) ++ codes "init=/bin/sh" ++ (34 ∷ []) ++ codes "\n    password=x\n    vga = ask\nother=/dev/sdb1\n    loader=/boot/chain.b\n    alias=win\n    lock\n") ≡ Ok (record { boot = (Some (record { disk = 2; partition = 0 })); map = (codes "/boot/map"); install = None; backup = (Some (codes "/boot/boot.0800")); force_backup = None; compact = false; mode = LinearMode; default_name = (Some (codes "safe")); delay = 20; timeout = None; prompt = false; message = (Some (codes "/boot/message")); disks = ((record { device = (record { disk = 2; partition = 0 }); bios = (Some 130); sectors = (Some 63); heads = (Some 255); line = 8 }) ∷ (record { device = (record { disk = 1; partition = 0 }); bios = None; sectors = None; heads = None; line = 13 }) ∷ []); sections = ((record { other = None; path = (codes "/vmlinuz"); label = (codes "vmlinuz"); alias = (Some (codes "Linux")); initrd = (Some (codes "/boot/initrd")); root = (Some 2050); mount = ReadWriteMount; append = None; literal = None; vga = (Some 791); password = (Some (codes "no entry")); restricted = true; optional = false; lock = false; fallback = (Some (codes "old 1")); table = None; line = 20 }) ∷ (record { other = None; path = (codes "/vmlinuz.old"); label = (codes "safe"); alias = None; initrd = (Some (codes "/boot/initrd.old")); root = (Some 2050); mount = ReadOnlyMount; append = None; literal = (Some (codes "init=/bin/sh")); vga = (Some 65533); password = (Some (codes "x")); restricted = true; optional = false; lock = false; fallback = None; table = None; line = 24 }) ∷ (record { other = (Some (record { disk = 3; partition = 1 })); path = (codes "/dev/sdb1"); label = (codes "sdb1"); alias = (Some (codes "win")); initrd = None; root = None; mount = Unsaid; append = None; literal = None; vga = None; password = (Some (codes "no entry")); restricted = true; optional = false; lock = true; fallback = None; table = None; line = 31 }) ∷ []) })
unfolding digits with_front parts_of value_of line_of effect_value effect_flag opener_of opening_line section_path section_label label_reason excludes_line is_locked_fallback is_open_restricted section_refusal sections_refusal section_names many_refusal names_reason names_from default_refusal mount_of effect_mount section_device section_of number_of disk_of disks_of mode_of config_of whole_of conf_at given_text setting_of has_option opened_part part_kind setting_disk details_count details_of group_disk is_same_disk takes_nothing text_reason given_reason value_reason disk_reason detail_reason excluded_in part_reason setting_reason part_after settings_refusal opt_name all_options option_at opt_number takes_of places_of stands_in opens is_of_disk is_of_name excluded_by conf_reason_text config_line fault_place text_refusal flag_given flag_cut given_of signed_cut valued_cut taken_cut word_cut token_cut setting_cut with_setting settings_from text_settings is_separator is_bad_byte line_at in_comment is_blank blank_length is_of_word is_escape ends_quoted quoted_length unless_bad sound_token word_at closed quoted_at equals_at piece_at token_start next_piece is_equals pieces_from text_pieces unescaped_byte unescaped plain_bytes is_path is_name is_text is_shown number_between whole_disk_at root_at is_value last_length last_part disk_name last_partition partition_name device_name devices_of named_devices device_at disk_number device_number
conf_sections_before_the_global_part = refl

-- all on one line
pub conf_all_on_one_line : conf_at (codes "map=" ++ (34 ∷ []) ++ codes "/boot/my map" ++ (34 ∷ []) ++ codes " force-backup=/boot/old append=x vga=extended optional lock image=/a append=" ++ (34 ∷ []) ++ codes "a" ++ (92 ∷ []) ++ (34 ∷ []) ++ codes "b" ++ (92 ∷ []) ++ (92 ∷ []) ++ codes "c" ++ (34 ∷ []) ++ codes " root=/dev/sda3 vga=5 image=/b/c label=C other=/dev/hdb") ≡ Ok (record { boot = None; map = (codes "/boot/my map"); install = None; backup = None; force_backup = (Some (codes "/boot/old")); compact = false; mode = ChsMode; default_name = None; delay = 0; timeout = None; prompt = false; message = None; disks = []; sections = ((record { other = None; path = (codes "/a"); label = (codes "a"); alias = None; initrd = None; root = (Some 2051); mount = Unsaid; append = (Some (codes "a" ++ (34 ∷ []) ++ codes "b" ++ (92 ∷ []) ++ codes "c")); literal = None; vga = (Some 5); password = None; restricted = false; optional = true; lock = true; fallback = None; table = None; line = 1 }) ∷ (record { other = None; path = (codes "/b/c"); label = (codes "C"); alias = None; initrd = None; root = None; mount = Unsaid; append = (Some (codes "x")); literal = None; vga = (Some 65534); password = None; restricted = false; optional = true; lock = true; fallback = None; table = None; line = 1 }) ∷ (record { other = (Some (record { disk = 1; partition = 0 })); path = (codes "/dev/hdb"); label = (codes "hdb"); alias = None; initrd = None; root = None; mount = Unsaid; append = None; literal = None; vga = None; password = None; restricted = false; optional = true; lock = true; fallback = None; table = None; line = 1 }) ∷ []) })
unfolding digits with_front parts_of value_of line_of effect_value effect_flag opener_of opening_line section_path section_label label_reason excludes_line is_locked_fallback is_open_restricted section_refusal sections_refusal section_names many_refusal names_reason names_from default_refusal mount_of effect_mount section_device section_of number_of disk_of disks_of mode_of config_of whole_of conf_at given_text setting_of has_option opened_part part_kind setting_disk details_count details_of group_disk is_same_disk takes_nothing text_reason given_reason value_reason disk_reason detail_reason excluded_in part_reason setting_reason part_after settings_refusal opt_name all_options option_at opt_number takes_of places_of stands_in opens is_of_disk is_of_name excluded_by conf_reason_text config_line fault_place text_refusal flag_given flag_cut given_of signed_cut valued_cut taken_cut word_cut token_cut setting_cut with_setting settings_from text_settings is_separator is_bad_byte line_at in_comment is_blank blank_length is_of_word is_escape ends_quoted quoted_length unless_bad sound_token word_at closed quoted_at equals_at piece_at token_start next_piece is_equals pieces_from text_pieces unescaped_byte unescaped plain_bytes is_path is_name is_text is_shown number_between whole_disk_at root_at is_value last_length last_part disk_name last_partition partition_name device_name devices_of named_devices device_at disk_number device_number
conf_all_on_one_line = refl

-- an open quote at the second boot
pub conf_an_open_quote_at_the_second_boot : (conf_at (codes "boot=/dev/hda\nboot=" ++ (34 ∷ []) ++ codes "x") ≡ Err (record { reason = (reasons.Text (tokens.OpenQuote 19)); option = options.Boot; line = 2 })) × (config_line (record { reason = (reasons.Text (tokens.OpenQuote 19)); option = options.Boot; line = 2 }) ≡ (codes "boot: open quote at line 2"))
unfolding digits with_front parts_of value_of line_of effect_value effect_flag opener_of opening_line section_path section_label label_reason excludes_line is_locked_fallback is_open_restricted section_refusal sections_refusal section_names many_refusal names_reason names_from default_refusal mount_of effect_mount section_device section_of number_of disk_of disks_of mode_of config_of whole_of conf_at given_text setting_of has_option opened_part part_kind setting_disk details_count details_of group_disk is_same_disk takes_nothing text_reason given_reason value_reason disk_reason detail_reason excluded_in part_reason setting_reason part_after settings_refusal opt_name all_options option_at opt_number takes_of places_of stands_in opens is_of_disk is_of_name excluded_by conf_reason_text config_line fault_place text_refusal flag_given flag_cut given_of signed_cut valued_cut taken_cut word_cut token_cut setting_cut with_setting settings_from text_settings is_separator is_bad_byte line_at in_comment is_blank blank_length is_of_word is_escape ends_quoted quoted_length unless_bad sound_token word_at closed quoted_at equals_at piece_at token_start next_piece is_equals pieces_from text_pieces unescaped_byte unescaped plain_bytes is_path is_name is_text is_shown number_between whole_disk_at root_at is_value last_length last_part disk_name last_partition partition_name device_name devices_of named_devices device_at disk_number device_number
conf_an_open_quote_at_the_second_boot = (refl, refl)

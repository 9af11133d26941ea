-- Cases of lilo.conf, part 2; tools/conf_cases.py writes this file.
use Rattle.std.specs.Prelude.{◌≡◌, [], ◌∷◌, ◌++◌, false, None, Some, Ok, Err, codes}
use Rattle.std.proofs.Common.{refl}
use Rattle.std.specs.Fmt.{digits}
use Rattle.lilo_model.specs.Slots.{ChsMode}
use Rattle.lilo_model.specs.ConfOptions as options
use Rattle.lilo_model.specs.ConfTokens as tokens
use Rattle.lilo_model.specs.ConfRefusal as reasons
use Rattle.lilo_model.specs.Conf.{with_front, parts_of, value_of, line_of, effect_value, effect_flag, opener_of, opening_line, section_path, section_label, label_reason, excludes_line, is_locked_fallback, is_open_restricted, section_refusal, sections_refusal, section_names, many_refusal, names_reason, names_from, default_refusal, mount_of, effect_mount, section_device, section_of, number_of, disk_of, disks_of, mode_of, config_of, whole_of, conf_at, Unsaid}
use Rattle.lilo_model.specs.ConfJudge.{given_text, setting_of, has_option, opened_part, part_kind, setting_disk, details_count, details_of, group_disk, is_same_disk, takes_nothing, text_reason, given_reason, value_reason, disk_reason, detail_reason, excluded_in, part_reason, setting_reason, part_after, settings_refusal}
use Rattle.lilo_model.specs.ConfOptions.{opt_name, all_options, option_at, opt_number, takes_of, places_of, stands_in, opens, is_of_disk, is_of_name, excluded_by}
use Rattle.lilo_model.specs.ConfRefusal.{conf_reason_text, config_line}
use Rattle.lilo_model.specs.ConfSettings.{fault_place, text_refusal, flag_given, flag_cut, given_of, signed_cut, valued_cut, taken_cut, word_cut, token_cut, setting_cut, with_setting, settings_from, text_settings}
use Rattle.lilo_model.specs.ConfTokens.{is_separator, is_bad_byte, line_at, in_comment, is_blank, blank_length, is_of_word, is_escape, ends_quoted, quoted_length, unless_bad, sound_token, word_at, closed, quoted_at, equals_at, piece_at, token_start, next_piece, is_equals, pieces_from, text_pieces, unescaped_byte, unescaped, plain_bytes}
use Rattle.lilo_model.specs.ConfValues.{is_path, is_name, is_text, is_shown, number_between, whole_disk_at, root_at, is_value, last_length, last_part}
use Rattle.lilo_model.specs.Devices.{disk_name, last_partition, partition_name, device_name, devices_of, named_devices, device_at, disk_number, device_number}

-- ten sections with aliases
pub conf_ten_sections_with_aliases : (conf_at (codes "image=/a alias=A\nimage=/b alias=B\nimage=/c alias=C\nimage=/d alias=D\nimage=/e alias=E\nimage=/f alias=F\nimage=/g alias=G\nimage=/h alias=H\nimage=/i alias=I\nimage=/j alias=J\n") ≡ Err (record { reason = reasons.TooManyNames; option = options.Image; line = 10 })) × (config_line (record { reason = reasons.TooManyNames; option = options.Image; line = 10 }) ≡ (codes "image: too many names at line 10"))
unfolding digits with_front parts_of value_of line_of effect_value effect_flag opener_of opening_line section_path section_label label_reason excludes_line is_locked_fallback is_open_restricted section_refusal sections_refusal section_names many_refusal names_reason names_from default_refusal mount_of effect_mount section_device section_of number_of disk_of disks_of mode_of config_of whole_of conf_at given_text setting_of has_option opened_part part_kind setting_disk details_count details_of group_disk is_same_disk takes_nothing text_reason given_reason value_reason disk_reason detail_reason excluded_in part_reason setting_reason part_after settings_refusal opt_name all_options option_at opt_number takes_of places_of stands_in opens is_of_disk is_of_name excluded_by conf_reason_text config_line fault_place text_refusal flag_given flag_cut given_of signed_cut valued_cut taken_cut word_cut token_cut setting_cut with_setting settings_from text_settings is_separator is_bad_byte line_at in_comment is_blank blank_length is_of_word is_escape ends_quoted quoted_length unless_bad sound_token word_at closed quoted_at equals_at piece_at token_start next_piece is_equals pieces_from text_pieces unescaped_byte unescaped plain_bytes is_path is_name is_text is_shown number_between whole_disk_at root_at is_value last_length last_part disk_name last_partition partition_name device_name devices_of named_devices device_at disk_number device_number
conf_ten_sections_with_aliases = (refl, refl)

-- an open quote
pub conf_an_open_quote : (conf_at (codes "label=" ++ (34 ∷ []) ++ codes "lin") ≡ Err (record { reason = (reasons.Text (tokens.OpenQuote 6)); option = options.Label; line = 1 })) × (config_line (record { reason = (reasons.Text (tokens.OpenQuote 6)); option = options.Label; line = 1 }) ≡ (codes "label: open quote at line 1"))
unfolding digits with_front parts_of value_of line_of effect_value effect_flag opener_of opening_line section_path section_label label_reason excludes_line is_locked_fallback is_open_restricted section_refusal sections_refusal section_names many_refusal names_reason names_from default_refusal mount_of effect_mount section_device section_of number_of disk_of disks_of mode_of config_of whole_of conf_at given_text setting_of has_option opened_part part_kind setting_disk details_count details_of group_disk is_same_disk takes_nothing text_reason given_reason value_reason disk_reason detail_reason excluded_in part_reason setting_reason part_after settings_refusal opt_name all_options option_at opt_number takes_of places_of stands_in opens is_of_disk is_of_name excluded_by conf_reason_text config_line fault_place text_refusal flag_given flag_cut given_of signed_cut valued_cut taken_cut word_cut token_cut setting_cut with_setting settings_from text_settings is_separator is_bad_byte line_at in_comment is_blank blank_length is_of_word is_escape ends_quoted quoted_length unless_bad sound_token word_at closed quoted_at equals_at piece_at token_start next_piece is_equals pieces_from text_pieces unescaped_byte unescaped plain_bytes is_path is_name is_text is_shown number_between whole_disk_at root_at is_value last_length last_part disk_name last_partition partition_name device_name devices_of named_devices device_at disk_number device_number
conf_an_open_quote = (refl, refl)

-- an open quote after an option
pub conf_an_open_quote_after_an_option : (conf_at (codes "prompt\ndefault=" ++ (34 ∷ []) ++ codes "lin\n") ≡ Err (record { reason = (reasons.Text (tokens.OpenQuote 15)); option = options.Default; line = 2 })) × (config_line (record { reason = (reasons.Text (tokens.OpenQuote 15)); option = options.Default; line = 2 }) ≡ (codes "default: open quote at line 2"))
unfolding digits with_front parts_of value_of line_of effect_value effect_flag opener_of opening_line section_path section_label label_reason excludes_line is_locked_fallback is_open_restricted section_refusal sections_refusal section_names many_refusal names_reason names_from default_refusal mount_of effect_mount section_device section_of number_of disk_of disks_of mode_of config_of whole_of conf_at given_text setting_of has_option opened_part part_kind setting_disk details_count details_of group_disk is_same_disk takes_nothing text_reason given_reason value_reason disk_reason detail_reason excluded_in part_reason setting_reason part_after settings_refusal opt_name all_options option_at opt_number takes_of places_of stands_in opens is_of_disk is_of_name excluded_by conf_reason_text config_line fault_place text_refusal flag_given flag_cut given_of signed_cut valued_cut taken_cut word_cut token_cut setting_cut with_setting settings_from text_settings is_separator is_bad_byte line_at in_comment is_blank blank_length is_of_word is_escape ends_quoted quoted_length unless_bad sound_token word_at closed quoted_at equals_at piece_at token_start next_piece is_equals pieces_from text_pieces unescaped_byte unescaped plain_bytes is_path is_name is_text is_shown number_between whole_disk_at root_at is_value last_length last_part disk_name last_partition partition_name device_name devices_of named_devices device_at disk_number device_number
conf_an_open_quote_after_an_option = (refl, refl)

-- a bad byte
pub conf_a_bad_byte : (conf_at ((0 ∷ [])) ≡ Err (record { reason = (reasons.Text (tokens.BadByte 0)); option = options.Other; line = 1 })) × (config_line (record { reason = (reasons.Text (tokens.BadByte 0)); option = options.Other; line = 1 }) ≡ (codes "text: bad byte at line 1"))
unfolding digits with_front parts_of value_of line_of effect_value effect_flag opener_of opening_line section_path section_label label_reason excludes_line is_locked_fallback is_open_restricted section_refusal sections_refusal section_names many_refusal names_reason names_from default_refusal mount_of effect_mount section_device section_of number_of disk_of disks_of mode_of config_of whole_of conf_at given_text setting_of has_option opened_part part_kind setting_disk details_count details_of group_disk is_same_disk takes_nothing text_reason given_reason value_reason disk_reason detail_reason excluded_in part_reason setting_reason part_after settings_refusal opt_name all_options option_at opt_number takes_of places_of stands_in opens is_of_disk is_of_name excluded_by conf_reason_text config_line fault_place text_refusal flag_given flag_cut given_of signed_cut valued_cut taken_cut word_cut token_cut setting_cut with_setting settings_from text_settings is_separator is_bad_byte line_at in_comment is_blank blank_length is_of_word is_escape ends_quoted quoted_length unless_bad sound_token word_at closed quoted_at equals_at piece_at token_start next_piece is_equals pieces_from text_pieces unescaped_byte unescaped plain_bytes is_path is_name is_text is_shown number_between whole_disk_at root_at is_value last_length last_part disk_name last_partition partition_name device_name devices_of named_devices device_at disk_number device_number
conf_a_bad_byte = (refl, refl)

-- a bad byte after an option
pub conf_a_bad_byte_after_an_option : (conf_at (codes "map=/a" ++ (127 ∷ []) ++ codes "\n") ≡ Err (record { reason = (reasons.Text (tokens.BadByte 6)); option = options.Map; line = 1 })) × (config_line (record { reason = (reasons.Text (tokens.BadByte 6)); option = options.Map; line = 1 }) ≡ (codes "map: bad byte at line 1"))
unfolding digits with_front parts_of value_of line_of effect_value effect_flag opener_of opening_line section_path section_label label_reason excludes_line is_locked_fallback is_open_restricted section_refusal sections_refusal section_names many_refusal names_reason names_from default_refusal mount_of effect_mount section_device section_of number_of disk_of disks_of mode_of config_of whole_of conf_at given_text setting_of has_option opened_part part_kind setting_disk details_count details_of group_disk is_same_disk takes_nothing text_reason given_reason value_reason disk_reason detail_reason excluded_in part_reason setting_reason part_after settings_refusal opt_name all_options option_at opt_number takes_of places_of stands_in opens is_of_disk is_of_name excluded_by conf_reason_text config_line fault_place text_refusal flag_given flag_cut given_of signed_cut valued_cut taken_cut word_cut token_cut setting_cut with_setting settings_from text_settings is_separator is_bad_byte line_at in_comment is_blank blank_length is_of_word is_escape ends_quoted quoted_length unless_bad sound_token word_at closed quoted_at equals_at piece_at token_start next_piece is_equals pieces_from text_pieces unescaped_byte unescaped plain_bytes is_path is_name is_text is_shown number_between whole_disk_at root_at is_value last_length last_part disk_name last_partition partition_name device_name devices_of named_devices device_at disk_number device_number
conf_a_bad_byte_after_an_option = (refl, refl)

-- a bad byte in a comment
pub conf_a_bad_byte_in_a_comment : conf_at (codes "#" ++ (0 ∷ []) ++ codes "\nimage=/a\n") ≡ Ok (record { boot = None; map = (codes "/boot/map"); install = None; backup = None; force_backup = None; compact = false; mode = ChsMode; default_name = None; delay = 0; timeout = None; prompt = false; message = None; disks = []; sections = ((record { other = None; path = (codes "/a"); label = (codes "a"); alias = None; initrd = None; root = None; mount = Unsaid; append = None; literal = None; vga = None; password = None; restricted = false; optional = false; lock = false; fallback = None; table = None; line = 2 }) ∷ []) })
unfolding digits with_front parts_of value_of line_of effect_value effect_flag opener_of opening_line section_path section_label label_reason excludes_line is_locked_fallback is_open_restricted section_refusal sections_refusal section_names many_refusal names_reason names_from default_refusal mount_of effect_mount section_device section_of number_of disk_of disks_of mode_of config_of whole_of conf_at given_text setting_of has_option opened_part part_kind setting_disk details_count details_of group_disk is_same_disk takes_nothing text_reason given_reason value_reason disk_reason detail_reason excluded_in part_reason setting_reason part_after settings_refusal opt_name all_options option_at opt_number takes_of places_of stands_in opens is_of_disk is_of_name excluded_by conf_reason_text config_line fault_place text_refusal flag_given flag_cut given_of signed_cut valued_cut taken_cut word_cut token_cut setting_cut with_setting settings_from text_settings is_separator is_bad_byte line_at in_comment is_blank blank_length is_of_word is_escape ends_quoted quoted_length unless_bad sound_token word_at closed quoted_at equals_at piece_at token_start next_piece is_equals pieces_from text_pieces unescaped_byte unescaped plain_bytes is_path is_name is_text is_shown number_between whole_disk_at root_at is_value last_length last_part disk_name last_partition partition_name device_name devices_of named_devices device_at disk_number device_number
conf_a_bad_byte_in_a_comment = refl

-- an option that is left out
pub conf_an_option_that_is_left_out : (conf_at (codes "prompt\nserial=0,9600\n") ≡ Err (record { reason = reasons.LeftOut; option = options.Serial; line = 2 })) × (config_line (record { reason = reasons.LeftOut; option = options.Serial; line = 2 }) ≡ (codes "serial: left out at line 2"))
unfolding digits with_front parts_of value_of line_of effect_value effect_flag opener_of opening_line section_path section_label label_reason excludes_line is_locked_fallback is_open_restricted section_refusal sections_refusal section_names many_refusal names_reason names_from default_refusal mount_of effect_mount section_device section_of number_of disk_of disks_of mode_of config_of whole_of conf_at given_text setting_of has_option opened_part part_kind setting_disk details_count details_of group_disk is_same_disk takes_nothing text_reason given_reason value_reason disk_reason detail_reason excluded_in part_reason setting_reason part_after settings_refusal opt_name all_options option_at opt_number takes_of places_of stands_in opens is_of_disk is_of_name excluded_by conf_reason_text config_line fault_place text_refusal flag_given flag_cut given_of signed_cut valued_cut taken_cut word_cut token_cut setting_cut with_setting settings_from text_settings is_separator is_bad_byte line_at in_comment is_blank blank_length is_of_word is_escape ends_quoted quoted_length unless_bad sound_token word_at closed quoted_at equals_at piece_at token_start next_piece is_equals pieces_from text_pieces unescaped_byte unescaped plain_bytes is_path is_name is_text is_shown number_between whole_disk_at root_at is_value last_length last_part disk_name last_partition partition_name device_name devices_of named_devices device_at disk_number device_number
conf_an_option_that_is_left_out = (refl, refl)

-- a word that is none
pub conf_a_word_that_is_none : (conf_at (codes "prompt\nfoo\n") ≡ Err (record { reason = reasons.Unknown; option = options.Other; line = 2 })) × (config_line (record { reason = reasons.Unknown; option = options.Other; line = 2 }) ≡ (codes "text: unknown at line 2"))
unfolding digits with_front parts_of value_of line_of effect_value effect_flag opener_of opening_line section_path section_label label_reason excludes_line is_locked_fallback is_open_restricted section_refusal sections_refusal section_names many_refusal names_reason names_from default_refusal mount_of effect_mount section_device section_of number_of disk_of disks_of mode_of config_of whole_of conf_at given_text setting_of has_option opened_part part_kind setting_disk details_count details_of group_disk is_same_disk takes_nothing text_reason given_reason value_reason disk_reason detail_reason excluded_in part_reason setting_reason part_after settings_refusal opt_name all_options option_at opt_number takes_of places_of stands_in opens is_of_disk is_of_name excluded_by conf_reason_text config_line fault_place text_refusal flag_given flag_cut given_of signed_cut valued_cut taken_cut word_cut token_cut setting_cut with_setting settings_from text_settings is_separator is_bad_byte line_at in_comment is_blank blank_length is_of_word is_escape ends_quoted quoted_length unless_bad sound_token word_at closed quoted_at equals_at piece_at token_start next_piece is_equals pieces_from text_pieces unescaped_byte unescaped plain_bytes is_path is_name is_text is_shown number_between whole_disk_at root_at is_value last_length last_part disk_name last_partition partition_name device_name devices_of named_devices device_at disk_number device_number
conf_a_word_that_is_none = (refl, refl)

-- a quoted word
pub conf_a_quoted_word : (conf_at ((34 ∷ []) ++ codes "prompt" ++ (34 ∷ []) ++ codes "\n") ≡ Err (record { reason = reasons.Unknown; option = options.Other; line = 1 })) × (config_line (record { reason = reasons.Unknown; option = options.Other; line = 1 }) ≡ (codes "text: unknown at line 1"))
unfolding digits with_front parts_of value_of line_of effect_value effect_flag opener_of opening_line section_path section_label label_reason excludes_line is_locked_fallback is_open_restricted section_refusal sections_refusal section_names many_refusal names_reason names_from default_refusal mount_of effect_mount section_device section_of number_of disk_of disks_of mode_of config_of whole_of conf_at given_text setting_of has_option opened_part part_kind setting_disk details_count details_of group_disk is_same_disk takes_nothing text_reason given_reason value_reason disk_reason detail_reason excluded_in part_reason setting_reason part_after settings_refusal opt_name all_options option_at opt_number takes_of places_of stands_in opens is_of_disk is_of_name excluded_by conf_reason_text config_line fault_place text_refusal flag_given flag_cut given_of signed_cut valued_cut taken_cut word_cut token_cut setting_cut with_setting settings_from text_settings is_separator is_bad_byte line_at in_comment is_blank blank_length is_of_word is_escape ends_quoted quoted_length unless_bad sound_token word_at closed quoted_at equals_at piece_at token_start next_piece is_equals pieces_from text_pieces unescaped_byte unescaped plain_bytes is_path is_name is_text is_shown number_between whole_disk_at root_at is_value last_length last_part disk_name last_partition partition_name device_name devices_of named_devices device_at disk_number device_number
conf_a_quoted_word = (refl, refl)

-- an equals sign first
pub conf_an_equals_sign_first : (conf_at (codes "= a\n") ≡ Err (record { reason = reasons.Unknown; option = options.Other; line = 1 })) × (config_line (record { reason = reasons.Unknown; option = options.Other; line = 1 }) ≡ (codes "text: unknown at line 1"))
unfolding digits with_front parts_of value_of line_of effect_value effect_flag opener_of opening_line section_path section_label label_reason excludes_line is_locked_fallback is_open_restricted section_refusal sections_refusal section_names many_refusal names_reason names_from default_refusal mount_of effect_mount section_device section_of number_of disk_of disks_of mode_of config_of whole_of conf_at given_text setting_of has_option opened_part part_kind setting_disk details_count details_of group_disk is_same_disk takes_nothing text_reason given_reason value_reason disk_reason detail_reason excluded_in part_reason setting_reason part_after settings_refusal opt_name all_options option_at opt_number takes_of places_of stands_in opens is_of_disk is_of_name excluded_by conf_reason_text config_line fault_place text_refusal flag_given flag_cut given_of signed_cut valued_cut taken_cut word_cut token_cut setting_cut with_setting settings_from text_settings is_separator is_bad_byte line_at in_comment is_blank blank_length is_of_word is_escape ends_quoted quoted_length unless_bad sound_token word_at closed quoted_at equals_at piece_at token_start next_piece is_equals pieces_from text_pieces unescaped_byte unescaped plain_bytes is_path is_name is_text is_shown number_between whole_disk_at root_at is_value last_length last_part disk_name last_partition partition_name device_name devices_of named_devices device_at disk_number device_number
conf_an_equals_sign_first = (refl, refl)

-- escapes
pub conf_escapes : conf_at (codes "image=/a\nappend=" ++ (34 ∷ []) ++ codes "a" ++ (92 ∷ []) ++ (34 ∷ []) ++ codes "b" ++ (92 ∷ []) ++ (92 ∷ []) ++ codes "c" ++ (34 ∷ []) ++ codes "\n") ≡ Ok (record { boot = None; map = (codes "/boot/map"); install = None; backup = None; force_backup = None; compact = false; mode = ChsMode; default_name = None; delay = 0; timeout = None; prompt = false; message = None; disks = []; sections = ((record { other = None; path = (codes "/a"); label = (codes "a"); alias = None; initrd = None; root = None; mount = Unsaid; append = (Some (codes "a" ++ (34 ∷ []) ++ codes "b" ++ (92 ∷ []) ++ codes "c")); literal = None; vga = None; password = None; restricted = false; optional = false; lock = false; fallback = None; table = None; line = 1 }) ∷ []) })
unfolding digits with_front parts_of value_of line_of effect_value effect_flag opener_of opening_line section_path section_label label_reason excludes_line is_locked_fallback is_open_restricted section_refusal sections_refusal section_names many_refusal names_reason names_from default_refusal mount_of effect_mount section_device section_of number_of disk_of disks_of mode_of config_of whole_of conf_at given_text setting_of has_option opened_part part_kind setting_disk details_count details_of group_disk is_same_disk takes_nothing text_reason given_reason value_reason disk_reason detail_reason excluded_in part_reason setting_reason part_after settings_refusal opt_name all_options option_at opt_number takes_of places_of stands_in opens is_of_disk is_of_name excluded_by conf_reason_text config_line fault_place text_refusal flag_given flag_cut given_of signed_cut valued_cut taken_cut word_cut token_cut setting_cut with_setting settings_from text_settings is_separator is_bad_byte line_at in_comment is_blank blank_length is_of_word is_escape ends_quoted quoted_length unless_bad sound_token word_at closed quoted_at equals_at piece_at token_start next_piece is_equals pieces_from text_pieces unescaped_byte unescaped plain_bytes is_path is_name is_text is_shown number_between whole_disk_at root_at is_value last_length last_part disk_name last_partition partition_name device_name devices_of named_devices device_at disk_number device_number
conf_escapes = refl

-- another backslash
pub conf_another_backslash : conf_at (codes "image=/a\nappend=" ++ (34 ∷ []) ++ codes "a" ++ (92 ∷ []) ++ codes "nb" ++ (34 ∷ []) ++ codes "\n") ≡ Ok (record { boot = None; map = (codes "/boot/map"); install = None; backup = None; force_backup = None; compact = false; mode = ChsMode; default_name = None; delay = 0; timeout = None; prompt = false; message = None; disks = []; sections = ((record { other = None; path = (codes "/a"); label = (codes "a"); alias = None; initrd = None; root = None; mount = Unsaid; append = (Some (codes "a" ++ (92 ∷ []) ++ codes "nb")); literal = None; vga = None; password = None; restricted = false; optional = false; lock = false; fallback = None; table = None; line = 1 }) ∷ []) })
unfolding digits with_front parts_of value_of line_of effect_value effect_flag opener_of opening_line section_path section_label label_reason excludes_line is_locked_fallback is_open_restricted section_refusal sections_refusal section_names many_refusal names_reason names_from default_refusal mount_of effect_mount section_device section_of number_of disk_of disks_of mode_of config_of whole_of conf_at given_text setting_of has_option opened_part part_kind setting_disk details_count details_of group_disk is_same_disk takes_nothing text_reason given_reason value_reason disk_reason detail_reason excluded_in part_reason setting_reason part_after settings_refusal opt_name all_options option_at opt_number takes_of places_of stands_in opens is_of_disk is_of_name excluded_by conf_reason_text config_line fault_place text_refusal flag_given flag_cut given_of signed_cut valued_cut taken_cut word_cut token_cut setting_cut with_setting settings_from text_settings is_separator is_bad_byte line_at in_comment is_blank blank_length is_of_word is_escape ends_quoted quoted_length unless_bad sound_token word_at closed quoted_at equals_at piece_at token_start next_piece is_equals pieces_from text_pieces unescaped_byte unescaped plain_bytes is_path is_name is_text is_shown number_between whole_disk_at root_at is_value last_length last_part disk_name last_partition partition_name device_name devices_of named_devices device_at disk_number device_number
conf_another_backslash = refl

-- a word with an equals sign
pub conf_a_word_with_an_equals_sign : conf_at (codes "image=/a\nappend= root=/dev/sda\n") ≡ Ok (record { boot = None; map = (codes "/boot/map"); install = None; backup = None; force_backup = None; compact = false; mode = ChsMode; default_name = None; delay = 0; timeout = None; prompt = false; message = None; disks = []; sections = ((record { other = None; path = (codes "/a"); label = (codes "a"); alias = None; initrd = None; root = None; mount = Unsaid; append = (Some (codes "root=/dev/sda")); literal = None; vga = None; password = None; restricted = false; optional = false; lock = false; fallback = None; table = None; line = 1 }) ∷ []) })
unfolding digits with_front parts_of value_of line_of effect_value effect_flag opener_of opening_line section_path section_label label_reason excludes_line is_locked_fallback is_open_restricted section_refusal sections_refusal section_names many_refusal names_reason names_from default_refusal mount_of effect_mount section_device section_of number_of disk_of disks_of mode_of config_of whole_of conf_at given_text setting_of has_option opened_part part_kind setting_disk details_count details_of group_disk is_same_disk takes_nothing text_reason given_reason value_reason disk_reason detail_reason excluded_in part_reason setting_reason part_after settings_refusal opt_name all_options option_at opt_number takes_of places_of stands_in opens is_of_disk is_of_name excluded_by conf_reason_text config_line fault_place text_refusal flag_given flag_cut given_of signed_cut valued_cut taken_cut word_cut token_cut setting_cut with_setting settings_from text_settings is_separator is_bad_byte line_at in_comment is_blank blank_length is_of_word is_escape ends_quoted quoted_length unless_bad sound_token word_at closed quoted_at equals_at piece_at token_start next_piece is_equals pieces_from text_pieces unescaped_byte unescaped plain_bytes is_path is_name is_text is_shown number_between whole_disk_at root_at is_value last_length last_part disk_name last_partition partition_name device_name devices_of named_devices device_at disk_number device_number
conf_a_word_with_an_equals_sign = refl

-- a value without a sign
pub conf_a_value_without_a_sign : (conf_at (codes "map /a\n") ≡ Err (record { reason = reasons.NoValue; option = options.Map; line = 1 })) × (config_line (record { reason = reasons.NoValue; option = options.Map; line = 1 }) ≡ (codes "map: no value at line 1"))
unfolding digits with_front parts_of value_of line_of effect_value effect_flag opener_of opening_line section_path section_label label_reason excludes_line is_locked_fallback is_open_restricted section_refusal sections_refusal section_names many_refusal names_reason names_from default_refusal mount_of effect_mount section_device section_of number_of disk_of disks_of mode_of config_of whole_of conf_at given_text setting_of has_option opened_part part_kind setting_disk details_count details_of group_disk is_same_disk takes_nothing text_reason given_reason value_reason disk_reason detail_reason excluded_in part_reason setting_reason part_after settings_refusal opt_name all_options option_at opt_number takes_of places_of stands_in opens is_of_disk is_of_name excluded_by conf_reason_text config_line fault_place text_refusal flag_given flag_cut given_of signed_cut valued_cut taken_cut word_cut token_cut setting_cut with_setting settings_from text_settings is_separator is_bad_byte line_at in_comment is_blank blank_length is_of_word is_escape ends_quoted quoted_length unless_bad sound_token word_at closed quoted_at equals_at piece_at token_start next_piece is_equals pieces_from text_pieces unescaped_byte unescaped plain_bytes is_path is_name is_text is_shown number_between whole_disk_at root_at is_value last_length last_part disk_name last_partition partition_name device_name devices_of named_devices device_at disk_number device_number
conf_a_value_without_a_sign = (refl, refl)

-- a sign without a value
pub conf_a_sign_without_a_value : (conf_at (codes "map=\n") ≡ Err (record { reason = reasons.NoValue; option = options.Map; line = 1 })) × (config_line (record { reason = reasons.NoValue; option = options.Map; line = 1 }) ≡ (codes "map: no value at line 1"))
unfolding digits with_front parts_of value_of line_of effect_value effect_flag opener_of opening_line section_path section_label label_reason excludes_line is_locked_fallback is_open_restricted section_refusal sections_refusal section_names many_refusal names_reason names_from default_refusal mount_of effect_mount section_device section_of number_of disk_of disks_of mode_of config_of whole_of conf_at given_text setting_of has_option opened_part part_kind setting_disk details_count details_of group_disk is_same_disk takes_nothing text_reason given_reason value_reason disk_reason detail_reason excluded_in part_reason setting_reason part_after settings_refusal opt_name all_options option_at opt_number takes_of places_of stands_in opens is_of_disk is_of_name excluded_by conf_reason_text config_line fault_place text_refusal flag_given flag_cut given_of signed_cut valued_cut taken_cut word_cut token_cut setting_cut with_setting settings_from text_settings is_separator is_bad_byte line_at in_comment is_blank blank_length is_of_word is_escape ends_quoted quoted_length unless_bad sound_token word_at closed quoted_at equals_at piece_at token_start next_piece is_equals pieces_from text_pieces unescaped_byte unescaped plain_bytes is_path is_name is_text is_shown number_between whole_disk_at root_at is_value last_length last_part disk_name last_partition partition_name device_name devices_of named_devices device_at disk_number device_number
conf_a_sign_without_a_value = (refl, refl)

-- two signs
pub conf_two_signs : (conf_at (codes "map==/a\n") ≡ Err (record { reason = reasons.NoValue; option = options.Map; line = 1 })) × (config_line (record { reason = reasons.NoValue; option = options.Map; line = 1 }) ≡ (codes "map: no value at line 1"))
unfolding digits with_front parts_of value_of line_of effect_value effect_flag opener_of opening_line section_path section_label label_reason excludes_line is_locked_fallback is_open_restricted section_refusal sections_refusal section_names many_refusal names_reason names_from default_refusal mount_of effect_mount section_device section_of number_of disk_of disks_of mode_of config_of whole_of conf_at given_text setting_of has_option opened_part part_kind setting_disk details_count details_of group_disk is_same_disk takes_nothing text_reason given_reason value_reason disk_reason detail_reason excluded_in part_reason setting_reason part_after settings_refusal opt_name all_options option_at opt_number takes_of places_of stands_in opens is_of_disk is_of_name excluded_by conf_reason_text config_line fault_place text_refusal flag_given flag_cut given_of signed_cut valued_cut taken_cut word_cut token_cut setting_cut with_setting settings_from text_settings is_separator is_bad_byte line_at in_comment is_blank blank_length is_of_word is_escape ends_quoted quoted_length unless_bad sound_token word_at closed quoted_at equals_at piece_at token_start next_piece is_equals pieces_from text_pieces unescaped_byte unescaped plain_bytes is_path is_name is_text is_shown number_between whole_disk_at root_at is_value last_length last_part disk_name last_partition partition_name device_name devices_of named_devices device_at disk_number device_number
conf_two_signs = (refl, refl)

-- a sign after a flag
pub conf_a_sign_after_a_flag : (conf_at (codes "prompt = yes\n") ≡ Err (record { reason = reasons.BadValue; option = options.Prompt; line = 1 })) × (config_line (record { reason = reasons.BadValue; option = options.Prompt; line = 1 }) ≡ (codes "prompt: bad value at line 1"))
unfolding digits with_front parts_of value_of line_of effect_value effect_flag opener_of opening_line section_path section_label label_reason excludes_line is_locked_fallback is_open_restricted section_refusal sections_refusal section_names many_refusal names_reason names_from default_refusal mount_of effect_mount section_device section_of number_of disk_of disks_of mode_of config_of whole_of conf_at given_text setting_of has_option opened_part part_kind setting_disk details_count details_of group_disk is_same_disk takes_nothing text_reason given_reason value_reason disk_reason detail_reason excluded_in part_reason setting_reason part_after settings_refusal opt_name all_options option_at opt_number takes_of places_of stands_in opens is_of_disk is_of_name excluded_by conf_reason_text config_line fault_place text_refusal flag_given flag_cut given_of signed_cut valued_cut taken_cut word_cut token_cut setting_cut with_setting settings_from text_settings is_separator is_bad_byte line_at in_comment is_blank blank_length is_of_word is_escape ends_quoted quoted_length unless_bad sound_token word_at closed quoted_at equals_at piece_at token_start next_piece is_equals pieces_from text_pieces unescaped_byte unescaped plain_bytes is_path is_name is_text is_shown number_between whole_disk_at root_at is_value last_length last_part disk_name last_partition partition_name device_name devices_of named_devices device_at disk_number device_number
conf_a_sign_after_a_flag = (refl, refl)

-- a flag twice
pub conf_a_flag_twice : (conf_at (codes "prompt prompt\n") ≡ Err (record { reason = reasons.Repeated; option = options.Prompt; line = 1 })) × (config_line (record { reason = reasons.Repeated; option = options.Prompt; line = 1 }) ≡ (codes "prompt: repeated at line 1"))
unfolding digits with_front parts_of value_of line_of effect_value effect_flag opener_of opening_line section_path section_label label_reason excludes_line is_locked_fallback is_open_restricted section_refusal sections_refusal section_names many_refusal names_reason names_from default_refusal mount_of effect_mount section_device section_of number_of disk_of disks_of mode_of config_of whole_of conf_at given_text setting_of has_option opened_part part_kind setting_disk details_count details_of group_disk is_same_disk takes_nothing text_reason given_reason value_reason disk_reason detail_reason excluded_in part_reason setting_reason part_after settings_refusal opt_name all_options option_at opt_number takes_of places_of stands_in opens is_of_disk is_of_name excluded_by conf_reason_text config_line fault_place text_refusal flag_given flag_cut given_of signed_cut valued_cut taken_cut word_cut token_cut setting_cut with_setting settings_from text_settings is_separator is_bad_byte line_at in_comment is_blank blank_length is_of_word is_escape ends_quoted quoted_length unless_bad sound_token word_at closed quoted_at equals_at piece_at token_start next_piece is_equals pieces_from text_pieces unescaped_byte unescaped plain_bytes is_path is_name is_text is_shown number_between whole_disk_at root_at is_value last_length last_part disk_name last_partition partition_name device_name devices_of named_devices device_at disk_number device_number
conf_a_flag_twice = (refl, refl)

-- a path without a slash
pub conf_a_path_without_a_slash : (conf_at (codes "map=boot/map\n") ≡ Err (record { reason = reasons.BadValue; option = options.Map; line = 1 })) × (config_line (record { reason = reasons.BadValue; option = options.Map; line = 1 }) ≡ (codes "map: bad value at line 1"))
unfolding digits with_front parts_of value_of line_of effect_value effect_flag opener_of opening_line section_path section_label label_reason excludes_line is_locked_fallback is_open_restricted section_refusal sections_refusal section_names many_refusal names_reason names_from default_refusal mount_of effect_mount section_device section_of number_of disk_of disks_of mode_of config_of whole_of conf_at given_text setting_of has_option opened_part part_kind setting_disk details_count details_of group_disk is_same_disk takes_nothing text_reason given_reason value_reason disk_reason detail_reason excluded_in part_reason setting_reason part_after settings_refusal opt_name all_options option_at opt_number takes_of places_of stands_in opens is_of_disk is_of_name excluded_by conf_reason_text config_line fault_place text_refusal flag_given flag_cut given_of signed_cut valued_cut taken_cut word_cut token_cut setting_cut with_setting settings_from text_settings is_separator is_bad_byte line_at in_comment is_blank blank_length is_of_word is_escape ends_quoted quoted_length unless_bad sound_token word_at closed quoted_at equals_at piece_at token_start next_piece is_equals pieces_from text_pieces unescaped_byte unescaped plain_bytes is_path is_name is_text is_shown number_between whole_disk_at root_at is_value last_length last_part disk_name last_partition partition_name device_name devices_of named_devices device_at disk_number device_number
conf_a_path_without_a_slash = (refl, refl)

-- linear and lba32
pub conf_linear_and_lba32 : (conf_at (codes "linear\nlba32\n") ≡ Err (record { reason = (reasons.Excludes options.Linear); option = options.Lba32; line = 2 })) × (config_line (record { reason = (reasons.Excludes options.Linear); option = options.Lba32; line = 2 }) ≡ (codes "lba32: excludes linear at line 2"))
unfolding digits with_front parts_of value_of line_of effect_value effect_flag opener_of opening_line section_path section_label label_reason excludes_line is_locked_fallback is_open_restricted section_refusal sections_refusal section_names many_refusal names_reason names_from default_refusal mount_of effect_mount section_device section_of number_of disk_of disks_of mode_of config_of whole_of conf_at given_text setting_of has_option opened_part part_kind setting_disk details_count details_of group_disk is_same_disk takes_nothing text_reason given_reason value_reason disk_reason detail_reason excluded_in part_reason setting_reason part_after settings_refusal opt_name all_options option_at opt_number takes_of places_of stands_in opens is_of_disk is_of_name excluded_by conf_reason_text config_line fault_place text_refusal flag_given flag_cut given_of signed_cut valued_cut taken_cut word_cut token_cut setting_cut with_setting settings_from text_settings is_separator is_bad_byte line_at in_comment is_blank blank_length is_of_word is_escape ends_quoted quoted_length unless_bad sound_token word_at closed quoted_at equals_at piece_at token_start next_piece is_equals pieces_from text_pieces unescaped_byte unescaped plain_bytes is_path is_name is_text is_shown number_between whole_disk_at root_at is_value last_length last_part disk_name last_partition partition_name device_name devices_of named_devices device_at disk_number device_number
conf_linear_and_lba32 = (refl, refl)

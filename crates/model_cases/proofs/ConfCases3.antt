-- Cases of lilo.conf, part 3; tools/conf_cases.py writes this file.
use Rattle.std.specs.Prelude.{◌≡◌, [], ◌∷◌, ◌++◌, false, None, Some, Ok, Err, codes}
use Rattle.std.proofs.Common.{refl}
use Rattle.std.specs.Fmt.{digits}
use Rattle.lilo_model.specs.Slots.{ChsMode}
use Rattle.lilo_model.specs.ConfOptions as options
use Rattle.lilo_model.specs.ConfRefusal as reasons
use Rattle.lilo_model.specs.Conf.{with_front, parts_of, value_of, line_of, effect_value, effect_flag, opener_of, opening_line, section_path, section_label, label_reason, excludes_line, is_locked_fallback, is_open_restricted, section_refusal, sections_refusal, section_names, many_refusal, names_reason, names_from, default_refusal, mount_of, effect_mount, section_device, section_of, number_of, disk_of, disks_of, mode_of, config_of, whole_of, conf_at, Unsaid, ReadWriteMount}
use Rattle.lilo_model.specs.ConfJudge.{given_text, setting_of, has_option, opened_part, part_kind, setting_disk, details_count, details_of, group_disk, is_same_disk, takes_nothing, text_reason, given_reason, value_reason, disk_reason, detail_reason, excluded_in, part_reason, setting_reason, part_after, settings_refusal}
use Rattle.lilo_model.specs.ConfOptions.{opt_name, all_options, option_at, opt_number, takes_of, places_of, stands_in, opens, is_of_disk, is_of_name, excluded_by}
use Rattle.lilo_model.specs.ConfRefusal.{conf_reason_text, config_line}
use Rattle.lilo_model.specs.ConfSettings.{fault_place, text_refusal, flag_given, flag_cut, given_of, signed_cut, valued_cut, taken_cut, word_cut, token_cut, setting_cut, with_setting, settings_from, text_settings}
use Rattle.lilo_model.specs.ConfTokens.{is_separator, is_bad_byte, line_at, in_comment, is_blank, blank_length, is_of_word, is_escape, ends_quoted, quoted_length, unless_bad, sound_token, word_at, closed, quoted_at, equals_at, piece_at, token_start, next_piece, is_equals, pieces_from, text_pieces, unescaped_byte, unescaped, plain_bytes}
use Rattle.lilo_model.specs.ConfValues.{is_path, is_name, is_text, is_shown, number_between, whole_disk_at, root_at, is_value, last_length, last_part}
use Rattle.lilo_model.specs.Devices.{disk_name, last_partition, partition_name, device_name, devices_of, named_devices, device_at, disk_number, device_number}

-- two backups
pub conf_two_backups : (conf_at (codes "backup=/a\nforce-backup=/b\n") ≡ Err (record { reason = (reasons.Excludes options.Backup); option = options.ForceBackup; line = 2 })) × (config_line (record { reason = (reasons.Excludes options.Backup); option = options.ForceBackup; line = 2 }) ≡ (codes "force-backup: excludes backup at line 2"))
unfolding digits with_front parts_of value_of line_of effect_value effect_flag opener_of opening_line section_path section_label label_reason excludes_line is_locked_fallback is_open_restricted section_refusal sections_refusal section_names many_refusal names_reason names_from default_refusal mount_of effect_mount section_device section_of number_of disk_of disks_of mode_of config_of whole_of conf_at given_text setting_of has_option opened_part part_kind setting_disk details_count details_of group_disk is_same_disk takes_nothing text_reason given_reason value_reason disk_reason detail_reason excluded_in part_reason setting_reason part_after settings_refusal opt_name all_options option_at opt_number takes_of places_of stands_in opens is_of_disk is_of_name excluded_by conf_reason_text config_line fault_place text_refusal flag_given flag_cut given_of signed_cut valued_cut taken_cut word_cut token_cut setting_cut with_setting settings_from text_settings is_separator is_bad_byte line_at in_comment is_blank blank_length is_of_word is_escape ends_quoted quoted_length unless_bad sound_token word_at closed quoted_at equals_at piece_at token_start next_piece is_equals pieces_from text_pieces unescaped_byte unescaped plain_bytes is_path is_name is_text is_shown number_between whole_disk_at root_at is_value last_length last_part disk_name last_partition partition_name device_name devices_of named_devices device_at disk_number device_number
conf_two_backups = (refl, refl)

-- both mounts
pub conf_both_mounts : (conf_at (codes "image=/a\nread-write read-only\n") ≡ Err (record { reason = (reasons.Excludes options.ReadWrite); option = options.ReadOnly; line = 2 })) × (config_line (record { reason = (reasons.Excludes options.ReadWrite); option = options.ReadOnly; line = 2 }) ≡ (codes "read-only: excludes read-write at line 2"))
unfolding digits with_front parts_of value_of line_of effect_value effect_flag opener_of opening_line section_path section_label label_reason excludes_line is_locked_fallback is_open_restricted section_refusal sections_refusal section_names many_refusal names_reason names_from default_refusal mount_of effect_mount section_device section_of number_of disk_of disks_of mode_of config_of whole_of conf_at given_text setting_of has_option opened_part part_kind setting_disk details_count details_of group_disk is_same_disk takes_nothing text_reason given_reason value_reason disk_reason detail_reason excluded_in part_reason setting_reason part_after settings_refusal opt_name all_options option_at opt_number takes_of places_of stands_in opens is_of_disk is_of_name excluded_by conf_reason_text config_line fault_place text_refusal flag_given flag_cut given_of signed_cut valued_cut taken_cut word_cut token_cut setting_cut with_setting settings_from text_settings is_separator is_bad_byte line_at in_comment is_blank blank_length is_of_word is_escape ends_quoted quoted_length unless_bad sound_token word_at closed quoted_at equals_at piece_at token_start next_piece is_equals pieces_from text_pieces unescaped_byte unescaped plain_bytes is_path is_name is_text is_shown number_between whole_disk_at root_at is_value last_length last_part disk_name last_partition partition_name device_name devices_of named_devices device_at disk_number device_number
conf_both_mounts = (refl, refl)

-- a mount that replaces the global one
pub conf_a_mount_that_replaces_the_global_one : conf_at (codes "read-only\nimage=/a\nread-write\n") ≡ Ok (record { boot = None; map = (codes "/boot/map"); install = None; backup = None; force_backup = None; compact = false; mode = ChsMode; default_name = None; delay = 0; timeout = None; prompt = false; message = None; disks = []; sections = ((record { other = None; path = (codes "/a"); label = (codes "a"); alias = None; initrd = None; root = None; mount = ReadWriteMount; append = None; literal = None; vga = None; password = None; restricted = false; optional = false; lock = false; fallback = None; table = None; line = 2 }) ∷ []) })
unfolding digits with_front parts_of value_of line_of effect_value effect_flag opener_of opening_line section_path section_label label_reason excludes_line is_locked_fallback is_open_restricted section_refusal sections_refusal section_names many_refusal names_reason names_from default_refusal mount_of effect_mount section_device section_of number_of disk_of disks_of mode_of config_of whole_of conf_at given_text setting_of has_option opened_part part_kind setting_disk details_count details_of group_disk is_same_disk takes_nothing text_reason given_reason value_reason disk_reason detail_reason excluded_in part_reason setting_reason part_after settings_refusal opt_name all_options option_at opt_number takes_of places_of stands_in opens is_of_disk is_of_name excluded_by conf_reason_text config_line fault_place text_refusal flag_given flag_cut given_of signed_cut valued_cut taken_cut word_cut token_cut setting_cut with_setting settings_from text_settings is_separator is_bad_byte line_at in_comment is_blank blank_length is_of_word is_escape ends_quoted quoted_length unless_bad sound_token word_at closed quoted_at equals_at piece_at token_start next_piece is_equals pieces_from text_pieces unescaped_byte unescaped plain_bytes is_path is_name is_text is_shown number_between whole_disk_at root_at is_value last_length last_part disk_name last_partition partition_name device_name devices_of named_devices device_at disk_number device_number
conf_a_mount_that_replaces_the_global_one = refl

-- global defaults
pub conf_global_defaults : conf_at (codes "append=" ++ (34 ∷ []) ++ codes "a b" ++ (34 ∷ []) ++ codes "\nvga=ask\nroot=0x301\ninitrd=/i\nimage=/a\nother=/dev/hda2\nlabel=dos\ntable=/dev/hda\nimage=/c\nappend=c vga=0x0f root=/dev/sdb1\n") ≡ Ok (record { boot = None; map = (codes "/boot/map"); install = None; backup = None; force_backup = None; compact = false; mode = ChsMode; default_name = None; delay = 0; timeout = None; prompt = false; message = None; disks = []; sections = ((record { other = None; path = (codes "/a"); label = (codes "a"); alias = None; initrd = (Some (codes "/i")); root = (Some 769); mount = Unsaid; append = (Some (codes "a b")); literal = None; vga = (Some 65533); password = None; restricted = false; optional = false; lock = false; fallback = None; table = None; line = 5 }) ∷ (record { other = (Some (record { disk = 0; partition = 2 })); path = (codes "/dev/hda2"); label = (codes "dos"); alias = None; initrd = None; root = None; mount = Unsaid; append = None; literal = None; vga = None; password = None; restricted = false; optional = false; lock = false; fallback = None; table = (Some (record { disk = 0; partition = 0 })); line = 6 }) ∷ (record { other = None; path = (codes "/c"); label = (codes "c"); alias = None; initrd = (Some (codes "/i")); root = (Some 2065); mount = Unsaid; append = (Some (codes "c")); literal = None; vga = (Some 15); password = None; restricted = false; optional = false; lock = false; fallback = None; table = None; line = 9 }) ∷ []) })
unfolding digits with_front parts_of value_of line_of effect_value effect_flag opener_of opening_line section_path section_label label_reason excludes_line is_locked_fallback is_open_restricted section_refusal sections_refusal section_names many_refusal names_reason names_from default_refusal mount_of effect_mount section_device section_of number_of disk_of disks_of mode_of config_of whole_of conf_at given_text setting_of has_option opened_part part_kind setting_disk details_count details_of group_disk is_same_disk takes_nothing text_reason given_reason value_reason disk_reason detail_reason excluded_in part_reason setting_reason part_after settings_refusal opt_name all_options option_at opt_number takes_of places_of stands_in opens is_of_disk is_of_name excluded_by conf_reason_text config_line fault_place text_refusal flag_given flag_cut given_of signed_cut valued_cut taken_cut word_cut token_cut setting_cut with_setting settings_from text_settings is_separator is_bad_byte line_at in_comment is_blank blank_length is_of_word is_escape ends_quoted quoted_length unless_bad sound_token word_at closed quoted_at equals_at piece_at token_start next_piece is_equals pieces_from text_pieces unescaped_byte unescaped plain_bytes is_path is_name is_text is_shown number_between whole_disk_at root_at is_value last_length last_part disk_name last_partition partition_name device_name devices_of named_devices device_at disk_number device_number
conf_global_defaults = refl

-- a literal
pub conf_a_literal : conf_at (codes "image=/a\nliteral=" ++ (34 ∷ []) ++ codes "a b" ++ (34 ∷ []) ++ codes "\n") ≡ Ok (record { boot = None; map = (codes "/boot/map"); install = None; backup = None; force_backup = None; compact = false; mode = ChsMode; default_name = None; delay = 0; timeout = None; prompt = false; message = None; disks = []; sections = ((record { other = None; path = (codes "/a"); label = (codes "a"); alias = None; initrd = None; root = None; mount = Unsaid; append = None; literal = (Some (codes "a b")); vga = None; password = None; restricted = false; optional = false; lock = false; fallback = None; table = None; line = 1 }) ∷ []) })
unfolding digits with_front parts_of value_of line_of effect_value effect_flag opener_of opening_line section_path section_label label_reason excludes_line is_locked_fallback is_open_restricted section_refusal sections_refusal section_names many_refusal names_reason names_from default_refusal mount_of effect_mount section_device section_of number_of disk_of disks_of mode_of config_of whole_of conf_at given_text setting_of has_option opened_part part_kind setting_disk details_count details_of group_disk is_same_disk takes_nothing text_reason given_reason value_reason disk_reason detail_reason excluded_in part_reason setting_reason part_after settings_refusal opt_name all_options option_at opt_number takes_of places_of stands_in opens is_of_disk is_of_name excluded_by conf_reason_text config_line fault_place text_refusal flag_given flag_cut given_of signed_cut valued_cut taken_cut word_cut token_cut setting_cut with_setting settings_from text_settings is_separator is_bad_byte line_at in_comment is_blank blank_length is_of_word is_escape ends_quoted quoted_length unless_bad sound_token word_at closed quoted_at equals_at piece_at token_start next_piece is_equals pieces_from text_pieces unescaped_byte unescaped plain_bytes is_path is_name is_text is_shown number_between whole_disk_at root_at is_value last_length last_part disk_name last_partition partition_name device_name devices_of named_devices device_at disk_number device_number
conf_a_literal = refl

-- a literal outside
pub conf_a_literal_outside : (conf_at (codes "literal=a\n") ≡ Err (record { reason = reasons.Misplaced; option = options.Literal; line = 1 })) × (config_line (record { reason = reasons.Misplaced; option = options.Literal; line = 1 }) ≡ (codes "literal: misplaced at line 1"))
unfolding digits with_front parts_of value_of line_of effect_value effect_flag opener_of opening_line section_path section_label label_reason excludes_line is_locked_fallback is_open_restricted section_refusal sections_refusal section_names many_refusal names_reason names_from default_refusal mount_of effect_mount section_device section_of number_of disk_of disks_of mode_of config_of whole_of conf_at given_text setting_of has_option opened_part part_kind setting_disk details_count details_of group_disk is_same_disk takes_nothing text_reason given_reason value_reason disk_reason detail_reason excluded_in part_reason setting_reason part_after settings_refusal opt_name all_options option_at opt_number takes_of places_of stands_in opens is_of_disk is_of_name excluded_by conf_reason_text config_line fault_place text_refusal flag_given flag_cut given_of signed_cut valued_cut taken_cut word_cut token_cut setting_cut with_setting settings_from text_settings is_separator is_bad_byte line_at in_comment is_blank blank_length is_of_word is_escape ends_quoted quoted_length unless_bad sound_token word_at closed quoted_at equals_at piece_at token_start next_piece is_equals pieces_from text_pieces unescaped_byte unescaped plain_bytes is_path is_name is_text is_shown number_between whole_disk_at root_at is_value last_length last_part disk_name last_partition partition_name device_name devices_of named_devices device_at disk_number device_number
conf_a_literal_outside = (refl, refl)

-- an initrd of another system
pub conf_an_initrd_of_another_system : (conf_at (codes "other=/dev/hda1\ninitrd=/i\n") ≡ Err (record { reason = reasons.Misplaced; option = options.Initrd; line = 2 })) × (config_line (record { reason = reasons.Misplaced; option = options.Initrd; line = 2 }) ≡ (codes "initrd: misplaced at line 2"))
unfolding digits with_front parts_of value_of line_of effect_value effect_flag opener_of opening_line section_path section_label label_reason excludes_line is_locked_fallback is_open_restricted section_refusal sections_refusal section_names many_refusal names_reason names_from default_refusal mount_of effect_mount section_device section_of number_of disk_of disks_of mode_of config_of whole_of conf_at given_text setting_of has_option opened_part part_kind setting_disk details_count details_of group_disk is_same_disk takes_nothing text_reason given_reason value_reason disk_reason detail_reason excluded_in part_reason setting_reason part_after settings_refusal opt_name all_options option_at opt_number takes_of places_of stands_in opens is_of_disk is_of_name excluded_by conf_reason_text config_line fault_place text_refusal flag_given flag_cut given_of signed_cut valued_cut taken_cut word_cut token_cut setting_cut with_setting settings_from text_settings is_separator is_bad_byte line_at in_comment is_blank blank_length is_of_word is_escape ends_quoted quoted_length unless_bad sound_token word_at closed quoted_at equals_at piece_at token_start next_piece is_equals pieces_from text_pieces unescaped_byte unescaped plain_bytes is_path is_name is_text is_shown number_between whole_disk_at root_at is_value last_length last_part disk_name last_partition partition_name device_name devices_of named_devices device_at disk_number device_number
conf_an_initrd_of_another_system = (refl, refl)

-- a table of a kernel
pub conf_a_table_of_a_kernel : (conf_at (codes "image=/a\ntable=/dev/hda\n") ≡ Err (record { reason = reasons.Misplaced; option = options.Table; line = 2 })) × (config_line (record { reason = reasons.Misplaced; option = options.Table; line = 2 }) ≡ (codes "table: misplaced at line 2"))
unfolding digits with_front parts_of value_of line_of effect_value effect_flag opener_of opening_line section_path section_label label_reason excludes_line is_locked_fallback is_open_restricted section_refusal sections_refusal section_names many_refusal names_reason names_from default_refusal mount_of effect_mount section_device section_of number_of disk_of disks_of mode_of config_of whole_of conf_at given_text setting_of has_option opened_part part_kind setting_disk details_count details_of group_disk is_same_disk takes_nothing text_reason given_reason value_reason disk_reason detail_reason excluded_in part_reason setting_reason part_after settings_refusal opt_name all_options option_at opt_number takes_of places_of stands_in opens is_of_disk is_of_name excluded_by conf_reason_text config_line fault_place text_refusal flag_given flag_cut given_of signed_cut valued_cut taken_cut word_cut token_cut setting_cut with_setting settings_from text_settings is_separator is_bad_byte line_at in_comment is_blank blank_length is_of_word is_escape ends_quoted quoted_length unless_bad sound_token word_at closed quoted_at equals_at piece_at token_start next_piece is_equals pieces_from text_pieces unescaped_byte unescaped plain_bytes is_path is_name is_text is_shown number_between whole_disk_at root_at is_value last_length last_part disk_name last_partition partition_name device_name devices_of named_devices device_at disk_number device_number
conf_a_table_of_a_kernel = (refl, refl)

-- a device that is none
pub conf_a_device_that_is_none : (conf_at (codes "boot=/dev/hdc\n") ≡ Err (record { reason = reasons.BadValue; option = options.Boot; line = 1 })) × (config_line (record { reason = reasons.BadValue; option = options.Boot; line = 1 }) ≡ (codes "boot: bad value at line 1"))
unfolding digits with_front parts_of value_of line_of effect_value effect_flag opener_of opening_line section_path section_label label_reason excludes_line is_locked_fallback is_open_restricted section_refusal sections_refusal section_names many_refusal names_reason names_from default_refusal mount_of effect_mount section_device section_of number_of disk_of disks_of mode_of config_of whole_of conf_at given_text setting_of has_option opened_part part_kind setting_disk details_count details_of group_disk is_same_disk takes_nothing text_reason given_reason value_reason disk_reason detail_reason excluded_in part_reason setting_reason part_after settings_refusal opt_name all_options option_at opt_number takes_of places_of stands_in opens is_of_disk is_of_name excluded_by conf_reason_text config_line fault_place text_refusal flag_given flag_cut given_of signed_cut valued_cut taken_cut word_cut token_cut setting_cut with_setting settings_from text_settings is_separator is_bad_byte line_at in_comment is_blank blank_length is_of_word is_escape ends_quoted quoted_length unless_bad sound_token word_at closed quoted_at equals_at piece_at token_start next_piece is_equals pieces_from text_pieces unescaped_byte unescaped plain_bytes is_path is_name is_text is_shown number_between whole_disk_at root_at is_value last_length last_part disk_name last_partition partition_name device_name devices_of named_devices device_at disk_number device_number
conf_a_device_that_is_none = (refl, refl)

-- a section of a device that is none
pub conf_a_section_of_a_device_that_is_none : (conf_at (codes "other=/dev/hda64\n") ≡ Err (record { reason = reasons.BadValue; option = options.OtherDevice; line = 1 })) × (config_line (record { reason = reasons.BadValue; option = options.OtherDevice; line = 1 }) ≡ (codes "other: bad value at line 1"))
unfolding digits with_front parts_of value_of line_of effect_value effect_flag opener_of opening_line section_path section_label label_reason excludes_line is_locked_fallback is_open_restricted section_refusal sections_refusal section_names many_refusal names_reason names_from default_refusal mount_of effect_mount section_device section_of number_of disk_of disks_of mode_of config_of whole_of conf_at given_text setting_of has_option opened_part part_kind setting_disk details_count details_of group_disk is_same_disk takes_nothing text_reason given_reason value_reason disk_reason detail_reason excluded_in part_reason setting_reason part_after settings_refusal opt_name all_options option_at opt_number takes_of places_of stands_in opens is_of_disk is_of_name excluded_by conf_reason_text config_line fault_place text_refusal flag_given flag_cut given_of signed_cut valued_cut taken_cut word_cut token_cut setting_cut with_setting settings_from text_settings is_separator is_bad_byte line_at in_comment is_blank blank_length is_of_word is_escape ends_quoted quoted_length unless_bad sound_token word_at closed quoted_at equals_at piece_at token_start next_piece is_equals pieces_from text_pieces unescaped_byte unescaped plain_bytes is_path is_name is_text is_shown number_between whole_disk_at root_at is_value last_length last_part disk_name last_partition partition_name device_name devices_of named_devices device_at disk_number device_number
conf_a_section_of_a_device_that_is_none = (refl, refl)

-- disks
pub conf_disks : conf_at (codes "disk=/dev/hda bios=0x80 sectors=63 heads=255 cylinders=65535\ndisk=/dev/sdb\nbios=131\nimage=/a\n") ≡ Ok (record { boot = None; map = (codes "/boot/map"); install = None; backup = None; force_backup = None; compact = false; mode = ChsMode; default_name = None; delay = 0; timeout = None; prompt = false; message = None; disks = ((record { device = (record { disk = 0; partition = 0 }); bios = (Some 128); sectors = (Some 63); heads = (Some 255); line = 1 }) ∷ (record { device = (record { disk = 3; partition = 0 }); bios = (Some 131); sectors = None; heads = None; line = 2 }) ∷ []); sections = ((record { other = None; path = (codes "/a"); label = (codes "a"); alias = None; initrd = None; root = None; mount = Unsaid; append = None; literal = None; vga = None; password = None; restricted = false; optional = false; lock = false; fallback = None; table = None; line = 4 }) ∷ []) })
unfolding digits with_front parts_of value_of line_of effect_value effect_flag opener_of opening_line section_path section_label label_reason excludes_line is_locked_fallback is_open_restricted section_refusal sections_refusal section_names many_refusal names_reason names_from default_refusal mount_of effect_mount section_device section_of number_of disk_of disks_of mode_of config_of whole_of conf_at given_text setting_of has_option opened_part part_kind setting_disk details_count details_of group_disk is_same_disk takes_nothing text_reason given_reason value_reason disk_reason detail_reason excluded_in part_reason setting_reason part_after settings_refusal opt_name all_options option_at opt_number takes_of places_of stands_in opens is_of_disk is_of_name excluded_by conf_reason_text config_line fault_place text_refusal flag_given flag_cut given_of signed_cut valued_cut taken_cut word_cut token_cut setting_cut with_setting settings_from text_settings is_separator is_bad_byte line_at in_comment is_blank blank_length is_of_word is_escape ends_quoted quoted_length unless_bad sound_token word_at closed quoted_at equals_at piece_at token_start next_piece is_equals pieces_from text_pieces unescaped_byte unescaped plain_bytes is_path is_name is_text is_shown number_between whole_disk_at root_at is_value last_length last_part disk_name last_partition partition_name device_name devices_of named_devices device_at disk_number device_number
conf_disks = refl

-- a disk twice
pub conf_a_disk_twice : (conf_at (codes "disk=/dev/hda\ndisk=/dev/hda\n") ≡ Err (record { reason = reasons.Repeated; option = options.Disk; line = 2 })) × (config_line (record { reason = reasons.Repeated; option = options.Disk; line = 2 }) ≡ (codes "disk: repeated at line 2"))
unfolding digits with_front parts_of value_of line_of effect_value effect_flag opener_of opening_line section_path section_label label_reason excludes_line is_locked_fallback is_open_restricted section_refusal sections_refusal section_names many_refusal names_reason names_from default_refusal mount_of effect_mount section_device section_of number_of disk_of disks_of mode_of config_of whole_of conf_at given_text setting_of has_option opened_part part_kind setting_disk details_count details_of group_disk is_same_disk takes_nothing text_reason given_reason value_reason disk_reason detail_reason excluded_in part_reason setting_reason part_after settings_refusal opt_name all_options option_at opt_number takes_of places_of stands_in opens is_of_disk is_of_name excluded_by conf_reason_text config_line fault_place text_refusal flag_given flag_cut given_of signed_cut valued_cut taken_cut word_cut token_cut setting_cut with_setting settings_from text_settings is_separator is_bad_byte line_at in_comment is_blank blank_length is_of_word is_escape ends_quoted quoted_length unless_bad sound_token word_at closed quoted_at equals_at piece_at token_start next_piece is_equals pieces_from text_pieces unescaped_byte unescaped plain_bytes is_path is_name is_text is_shown number_between whole_disk_at root_at is_value last_length last_part disk_name last_partition partition_name device_name devices_of named_devices device_at disk_number device_number
conf_a_disk_twice = (refl, refl)

-- a part of a disk
pub conf_a_part_of_a_disk : (conf_at (codes "disk=/dev/hda1\n") ≡ Err (record { reason = reasons.BadValue; option = options.Disk; line = 1 })) × (config_line (record { reason = reasons.BadValue; option = options.Disk; line = 1 }) ≡ (codes "disk: bad value at line 1"))
unfolding digits with_front parts_of value_of line_of effect_value effect_flag opener_of opening_line section_path section_label label_reason excludes_line is_locked_fallback is_open_restricted section_refusal sections_refusal section_names many_refusal names_reason names_from default_refusal mount_of effect_mount section_device section_of number_of disk_of disks_of mode_of config_of whole_of conf_at given_text setting_of has_option opened_part part_kind setting_disk details_count details_of group_disk is_same_disk takes_nothing text_reason given_reason value_reason disk_reason detail_reason excluded_in part_reason setting_reason part_after settings_refusal opt_name all_options option_at opt_number takes_of places_of stands_in opens is_of_disk is_of_name excluded_by conf_reason_text config_line fault_place text_refusal flag_given flag_cut given_of signed_cut valued_cut taken_cut word_cut token_cut setting_cut with_setting settings_from text_settings is_separator is_bad_byte line_at in_comment is_blank blank_length is_of_word is_escape ends_quoted quoted_length unless_bad sound_token word_at closed quoted_at equals_at piece_at token_start next_piece is_equals pieces_from text_pieces unescaped_byte unescaped plain_bytes is_path is_name is_text is_shown number_between whole_disk_at root_at is_value last_length last_part disk_name last_partition partition_name device_name devices_of named_devices device_at disk_number device_number
conf_a_part_of_a_disk = (refl, refl)

-- heads twice
pub conf_heads_twice : (conf_at (codes "disk=/dev/hda heads=1 heads=2\n") ≡ Err (record { reason = reasons.Repeated; option = options.Heads; line = 1 })) × (config_line (record { reason = reasons.Repeated; option = options.Heads; line = 1 }) ≡ (codes "heads: repeated at line 1"))
unfolding digits with_front parts_of value_of line_of effect_value effect_flag opener_of opening_line section_path section_label label_reason excludes_line is_locked_fallback is_open_restricted section_refusal sections_refusal section_names many_refusal names_reason names_from default_refusal mount_of effect_mount section_device section_of number_of disk_of disks_of mode_of config_of whole_of conf_at given_text setting_of has_option opened_part part_kind setting_disk details_count details_of group_disk is_same_disk takes_nothing text_reason given_reason value_reason disk_reason detail_reason excluded_in part_reason setting_reason part_after settings_refusal opt_name all_options option_at opt_number takes_of places_of stands_in opens is_of_disk is_of_name excluded_by conf_reason_text config_line fault_place text_refusal flag_given flag_cut given_of signed_cut valued_cut taken_cut word_cut token_cut setting_cut with_setting settings_from text_settings is_separator is_bad_byte line_at in_comment is_blank blank_length is_of_word is_escape ends_quoted quoted_length unless_bad sound_token word_at closed quoted_at equals_at piece_at token_start next_piece is_equals pieces_from text_pieces unescaped_byte unescaped plain_bytes is_path is_name is_text is_shown number_between whole_disk_at root_at is_value last_length last_part disk_name last_partition partition_name device_name devices_of named_devices device_at disk_number device_number
conf_heads_twice = (refl, refl)

-- heads after another option
pub conf_heads_after_another_option : (conf_at (codes "disk=/dev/hda prompt heads=1\n") ≡ Err (record { reason = reasons.Misplaced; option = options.Heads; line = 1 })) × (config_line (record { reason = reasons.Misplaced; option = options.Heads; line = 1 }) ≡ (codes "heads: misplaced at line 1"))
unfolding digits with_front parts_of value_of line_of effect_value effect_flag opener_of opening_line section_path section_label label_reason excludes_line is_locked_fallback is_open_restricted section_refusal sections_refusal section_names many_refusal names_reason names_from default_refusal mount_of effect_mount section_device section_of number_of disk_of disks_of mode_of config_of whole_of conf_at given_text setting_of has_option opened_part part_kind setting_disk details_count details_of group_disk is_same_disk takes_nothing text_reason given_reason value_reason disk_reason detail_reason excluded_in part_reason setting_reason part_after settings_refusal opt_name all_options option_at opt_number takes_of places_of stands_in opens is_of_disk is_of_name excluded_by conf_reason_text config_line fault_place text_refusal flag_given flag_cut given_of signed_cut valued_cut taken_cut word_cut token_cut setting_cut with_setting settings_from text_settings is_separator is_bad_byte line_at in_comment is_blank blank_length is_of_word is_escape ends_quoted quoted_length unless_bad sound_token word_at closed quoted_at equals_at piece_at token_start next_piece is_equals pieces_from text_pieces unescaped_byte unescaped plain_bytes is_path is_name is_text is_shown number_between whole_disk_at root_at is_value last_length last_part disk_name last_partition partition_name device_name devices_of named_devices device_at disk_number device_number
conf_heads_after_another_option = (refl, refl)

-- heads of no disk
pub conf_heads_of_no_disk : (conf_at (codes "heads=1\n") ≡ Err (record { reason = reasons.Misplaced; option = options.Heads; line = 1 })) × (config_line (record { reason = reasons.Misplaced; option = options.Heads; line = 1 }) ≡ (codes "heads: misplaced at line 1"))
unfolding digits with_front parts_of value_of line_of effect_value effect_flag opener_of opening_line section_path section_label label_reason excludes_line is_locked_fallback is_open_restricted section_refusal sections_refusal section_names many_refusal names_reason names_from default_refusal mount_of effect_mount section_device section_of number_of disk_of disks_of mode_of config_of whole_of conf_at given_text setting_of has_option opened_part part_kind setting_disk details_count details_of group_disk is_same_disk takes_nothing text_reason given_reason value_reason disk_reason detail_reason excluded_in part_reason setting_reason part_after settings_refusal opt_name all_options option_at opt_number takes_of places_of stands_in opens is_of_disk is_of_name excluded_by conf_reason_text config_line fault_place text_refusal flag_given flag_cut given_of signed_cut valued_cut taken_cut word_cut token_cut setting_cut with_setting settings_from text_settings is_separator is_bad_byte line_at in_comment is_blank blank_length is_of_word is_escape ends_quoted quoted_length unless_bad sound_token word_at closed quoted_at equals_at piece_at token_start next_piece is_equals pieces_from text_pieces unescaped_byte unescaped plain_bytes is_path is_name is_text is_shown number_between whole_disk_at root_at is_value last_length last_part disk_name last_partition partition_name device_name devices_of named_devices device_at disk_number device_number
conf_heads_of_no_disk = (refl, refl)

-- too many heads
pub conf_too_many_heads : (conf_at (codes "disk=/dev/hda heads=256\n") ≡ Err (record { reason = reasons.BadValue; option = options.Heads; line = 1 })) × (config_line (record { reason = reasons.BadValue; option = options.Heads; line = 1 }) ≡ (codes "heads: bad value at line 1"))
unfolding digits with_front parts_of value_of line_of effect_value effect_flag opener_of opening_line section_path section_label label_reason excludes_line is_locked_fallback is_open_restricted section_refusal sections_refusal section_names many_refusal names_reason names_from default_refusal mount_of effect_mount section_device section_of number_of disk_of disks_of mode_of config_of whole_of conf_at given_text setting_of has_option opened_part part_kind setting_disk details_count details_of group_disk is_same_disk takes_nothing text_reason given_reason value_reason disk_reason detail_reason excluded_in part_reason setting_reason part_after settings_refusal opt_name all_options option_at opt_number takes_of places_of stands_in opens is_of_disk is_of_name excluded_by conf_reason_text config_line fault_place text_refusal flag_given flag_cut given_of signed_cut valued_cut taken_cut word_cut token_cut setting_cut with_setting settings_from text_settings is_separator is_bad_byte line_at in_comment is_blank blank_length is_of_word is_escape ends_quoted quoted_length unless_bad sound_token word_at closed quoted_at equals_at piece_at token_start next_piece is_equals pieces_from text_pieces unescaped_byte unescaped plain_bytes is_path is_name is_text is_shown number_between whole_disk_at root_at is_value last_length last_part disk_name last_partition partition_name device_name devices_of named_devices device_at disk_number device_number
conf_too_many_heads = (refl, refl)

-- the number of another disk
pub conf_the_number_of_another_disk : (conf_at (codes "disk=/dev/hdb bios=0x80\n") ≡ Err (record { reason = reasons.BadValue; option = options.Bios; line = 1 })) × (config_line (record { reason = reasons.BadValue; option = options.Bios; line = 1 }) ≡ (codes "bios: bad value at line 1"))
unfolding digits with_front parts_of value_of line_of effect_value effect_flag opener_of opening_line section_path section_label label_reason excludes_line is_locked_fallback is_open_restricted section_refusal sections_refusal section_names many_refusal names_reason names_from default_refusal mount_of effect_mount section_device section_of number_of disk_of disks_of mode_of config_of whole_of conf_at given_text setting_of has_option opened_part part_kind setting_disk details_count details_of group_disk is_same_disk takes_nothing text_reason given_reason value_reason disk_reason detail_reason excluded_in part_reason setting_reason part_after settings_refusal opt_name all_options option_at opt_number takes_of places_of stands_in opens is_of_disk is_of_name excluded_by conf_reason_text config_line fault_place text_refusal flag_given flag_cut given_of signed_cut valued_cut taken_cut word_cut token_cut setting_cut with_setting settings_from text_settings is_separator is_bad_byte line_at in_comment is_blank blank_length is_of_word is_escape ends_quoted quoted_length unless_bad sound_token word_at closed quoted_at equals_at piece_at token_start next_piece is_equals pieces_from text_pieces unescaped_byte unescaped plain_bytes is_path is_name is_text is_shown number_between whole_disk_at root_at is_value last_length last_part disk_name last_partition partition_name device_name devices_of named_devices device_at disk_number device_number
conf_the_number_of_another_disk = (refl, refl)

-- a disk in a section
pub conf_a_disk_in_a_section : (conf_at (codes "image=/a\ndisk=/dev/hda\n") ≡ Err (record { reason = reasons.Misplaced; option = options.Disk; line = 2 })) × (config_line (record { reason = reasons.Misplaced; option = options.Disk; line = 2 }) ≡ (codes "disk: misplaced at line 2"))
unfolding digits with_front parts_of value_of line_of effect_value effect_flag opener_of opening_line section_path section_label label_reason excludes_line is_locked_fallback is_open_restricted section_refusal sections_refusal section_names many_refusal names_reason names_from default_refusal mount_of effect_mount section_device section_of number_of disk_of disks_of mode_of config_of whole_of conf_at given_text setting_of has_option opened_part part_kind setting_disk details_count details_of group_disk is_same_disk takes_nothing text_reason given_reason value_reason disk_reason detail_reason excluded_in part_reason setting_reason part_after settings_refusal opt_name all_options option_at opt_number takes_of places_of stands_in opens is_of_disk is_of_name excluded_by conf_reason_text config_line fault_place text_refusal flag_given flag_cut given_of signed_cut valued_cut taken_cut word_cut token_cut setting_cut with_setting settings_from text_settings is_separator is_bad_byte line_at in_comment is_blank blank_length is_of_word is_escape ends_quoted quoted_length unless_bad sound_token word_at closed quoted_at equals_at piece_at token_start next_piece is_equals pieces_from text_pieces unescaped_byte unescaped plain_bytes is_path is_name is_text is_shown number_between whole_disk_at root_at is_value last_length last_part disk_name last_partition partition_name device_name devices_of named_devices device_at disk_number device_number
conf_a_disk_in_a_section = (refl, refl)

-- a delay
pub conf_a_delay : conf_at (codes "delay=65534\ntimeout=0\nimage=/a\n") ≡ Ok (record { boot = None; map = (codes "/boot/map"); install = None; backup = None; force_backup = None; compact = false; mode = ChsMode; default_name = None; delay = 65534; timeout = (Some 0); prompt = false; message = None; disks = []; sections = ((record { other = None; path = (codes "/a"); label = (codes "a"); alias = None; initrd = None; root = None; mount = Unsaid; append = None; literal = None; vga = None; password = None; restricted = false; optional = false; lock = false; fallback = None; table = None; line = 3 }) ∷ []) })
unfolding digits with_front parts_of value_of line_of effect_value effect_flag opener_of opening_line section_path section_label label_reason excludes_line is_locked_fallback is_open_restricted section_refusal sections_refusal section_names many_refusal names_reason names_from default_refusal mount_of effect_mount section_device section_of number_of disk_of disks_of mode_of config_of whole_of conf_at given_text setting_of has_option opened_part part_kind setting_disk details_count details_of group_disk is_same_disk takes_nothing text_reason given_reason value_reason disk_reason detail_reason excluded_in part_reason setting_reason part_after settings_refusal opt_name all_options option_at opt_number takes_of places_of stands_in opens is_of_disk is_of_name excluded_by conf_reason_text config_line fault_place text_refusal flag_given flag_cut given_of signed_cut valued_cut taken_cut word_cut token_cut setting_cut with_setting settings_from text_settings is_separator is_bad_byte line_at in_comment is_blank blank_length is_of_word is_escape ends_quoted quoted_length unless_bad sound_token word_at closed quoted_at equals_at piece_at token_start next_piece is_equals pieces_from text_pieces unescaped_byte unescaped plain_bytes is_path is_name is_text is_shown number_between whole_disk_at root_at is_value last_length last_part disk_name last_partition partition_name device_name devices_of named_devices device_at disk_number device_number
conf_a_delay = refl

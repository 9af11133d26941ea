-- What the sample says.
use Rattle.std.proofs.Common.{◌≡◌, Ok, refl}
use Rattle.std.specs.Fmt.{digits}
use Rattle.lilo_model.specs.Conf.{with_front, parts_of, value_of, line_of, effect_value, effect_flag, opener_of, opening_line, section_path, section_label, label_reason, excludes_line, is_locked_fallback, is_open_restricted, section_refusal, sections_refusal, section_names, many_refusal, names_reason, names_from, default_refusal, mount_of, effect_mount, section_device, section_of, number_of, disk_of, disks_of, mode_of, config_of, whole_of, conf_at}
use Rattle.lilo_model.specs.ConfJudge.{given_text, setting_of, has_option, opened_part, part_kind, setting_disk, details_count, details_of, group_disk, is_same_disk, takes_nothing, text_reason, given_reason, value_reason, disk_reason, detail_reason, excluded_in, part_reason, setting_reason, part_after, settings_refusal}
use Rattle.lilo_model.specs.ConfOptions.{opt_name, all_options, option_at, opt_number, takes_of, places_of, stands_in, opens, is_of_disk, is_of_name, excluded_by}
use Rattle.lilo_model.specs.ConfSettings.{fault_place, text_refusal, flag_given, flag_cut, given_of, signed_cut, valued_cut, taken_cut, word_cut, token_cut, setting_cut, with_setting, settings_from, text_settings}
use Rattle.lilo_model.specs.ConfTokens.{is_separator, is_bad_byte, line_at, in_comment, is_blank, blank_length, is_of_word, is_escape, ends_quoted, quoted_length, unless_bad, sound_token, word_at, closed, quoted_at, equals_at, piece_at, token_start, next_piece, is_equals, pieces_from, text_pieces, unescaped_byte, unescaped, plain_bytes}
use Rattle.lilo_model.specs.ConfValues.{is_path, is_name, is_text, is_shown, number_between, whole_disk_at, root_at, is_value, last_length, last_part}
use Rattle.lilo_model.specs.Devices.{disk_name, last_partition, partition_name, device_name, devices_of, named_devices, device_at, disk_number, device_number}
use Rattle.conf_laws.specs.Sample.{sample_text, sample, SampleLaw}
use Rattle.conf_laws.proofs.Lawful.{lawful_law}

sample-says : conf_at sample_text ≡ Ok sample
unfolding digits with_front parts_of value_of line_of effect_value effect_flag opener_of opening_line section_path section_label label_reason excludes_line is_locked_fallback is_open_restricted section_refusal sections_refusal section_names many_refusal names_reason names_from default_refusal mount_of effect_mount section_device section_of number_of disk_of disks_of mode_of config_of whole_of conf_at given_text setting_of has_option opened_part part_kind setting_disk details_count details_of group_disk is_same_disk takes_nothing text_reason given_reason value_reason disk_reason detail_reason excluded_in part_reason setting_reason part_after settings_refusal opt_name all_options option_at opt_number takes_of places_of stands_in opens is_of_disk is_of_name excluded_by fault_place text_refusal flag_given flag_cut given_of signed_cut valued_cut taken_cut word_cut token_cut setting_cut with_setting settings_from text_settings is_separator is_bad_byte line_at in_comment is_blank blank_length is_of_word is_escape ends_quoted quoted_length unless_bad sound_token word_at closed quoted_at equals_at piece_at token_start next_piece is_equals pieces_from text_pieces unescaped_byte unescaped plain_bytes is_path is_name is_text is_shown number_between whole_disk_at root_at is_value last_length last_part disk_name last_partition partition_name device_name devices_of named_devices device_at disk_number device_number
sample-says = refl

pub sample_law : SampleLaw
sample_law = record { says = sample-says; lawful = lawful_law sample_text sample sample-says }

-- Cases of the model, written by tools/model_cases.py: what a listing of names prints.
use Rattle.std.proofs.Common.{◌≡◌, ◌∷◌, ◌++◌, [], Ok, Err, codes, refl}
use Rattle.std.specs.Fmt.{digits}
use Rattle.lilo_model.specs.Boot.{foreign_boot, slot_bytes_at, map_sectors, present_line, good_map, listed_entries, settings_of, message_of, middle_of, image_with_line, handed_ending, main_of, loaded_ending, kernel_ending, entry_ending, chosen_boot, decision_at, opening_at, prompted_boot, map_boot, whole_boot}
use Rattle.lilo_model.specs.BootSector.{is_bootable, has_signature, has_options, has_names, has_slots, has_no_message, has_whole_message, has_message, has_zeros, is_whole, timeout_of, table_slots, boot_of, boot_at}
use Rattle.lilo_model.specs.Bytes.{number16, number32, is_zero}
use Rattle.lilo_model.specs.Choice.{course_of}
use Rattle.lilo_model.specs.Header.{setup_of, version_of, header_of, header_at, fit_checks, plan_memory, replaced_fields, patch}
use Rattle.lilo_model.specs.LineSector.{is_line, line_of, line_at, line_bytes, is_same_line}
use Rattle.lilo_model.specs.LineWords.{words_of, meaning}
use Rattle.lilo_model.specs.Options.{options_at, extra_at}
use Rattle.lilo_model.specs.Place.{command_line, written_by, place, kernel_fit}
use Rattle.lilo_model.specs.Reason.{reason_text}
use Rattle.lilo_model.specs.Refusal.{refusal_line, NoDisk}
use Rattle.lilo_model.specs.Section.{link_at, section, file_content}
use Rattle.lilo_model.specs.Slots.{has_ranges, has_address, is_slot, is_one_slot, chs_of, address_of, slot_of, some_slot, slot_at, slot_bytes, to_chs, to_lba, sector_at, sectors_of, place_at, slot_make, could_be_one}
use Rattle.lilo_model.specs.Table.{is_set, entry_name, is_printable, is_name, has_flags, has_video, has_length, has_main, has_initrd, has_extra, is_entry, descriptor_of, entry_bytes, same_name, repeats, breaks, table_at}
use Rattle.lilo_model.specs.Verdict.{names_behind, names_text, query_verdict, dump_text, boot_verdict}
use Rattle.model_cases.specs.Sparse.{hex, patch_at, disks_of, disk_with, machine_of}
use Rattle.model_cases.specs.Fixtures.{fixture_l, fixture_menu}

-- the name after a boot sector
pub query_the_name_after_a_boot_sector : query_verdict (disks_of fixture_l) (machine_of (disk_with 4096 16 63 ∷ [])) (Ok (record { disk = 0; start = 0; count = 4096 })) ≡ record { status = 0; text = (codes "linux *\n") }
unfolding number16 number32 is_zero has_ranges has_address is_slot is_one_slot chs_of address_of slot_of some_slot slot_at slot_bytes to_chs to_lba sector_at sectors_of place_at slot_make could_be_one link_at section file_content is_bootable has_signature has_options has_names has_slots has_no_message has_whole_message has_message has_zeros is_whole timeout_of table_slots boot_of boot_at is_set entry_name is_printable is_name has_flags has_video has_length has_main has_initrd has_extra is_entry descriptor_of entry_bytes same_name repeats breaks table_at options_at extra_at is_line line_of line_at line_bytes is_same_line setup_of version_of header_of header_at fit_checks plan_memory replaced_fields patch command_line written_by place kernel_fit foreign_boot slot_bytes_at map_sectors present_line good_map listed_entries settings_of message_of middle_of image_with_line handed_ending main_of loaded_ending kernel_ending entry_ending chosen_boot decision_at opening_at prompted_boot map_boot whole_boot course_of words_of meaning reason_text refusal_line names_behind names_text query_verdict dump_text boot_verdict digits
query_the_name_after_a_boot_sector = refl

-- a blank disk is not ours
pub query_a_blank_disk_is_not_ours : query_verdict (disks_of []) (machine_of (disk_with 4096 16 63 ∷ [])) (Ok (record { disk = 0; start = 0; count = 4096 })) ≡ record { status = 6; text = (codes "lilo: not ours\n") }
unfolding number16 number32 is_zero has_ranges has_address is_slot is_one_slot chs_of address_of slot_of some_slot slot_at slot_bytes to_chs to_lba sector_at sectors_of place_at slot_make could_be_one link_at section file_content is_bootable has_signature has_options has_names has_slots has_no_message has_whole_message has_message has_zeros is_whole timeout_of table_slots boot_of boot_at is_set entry_name is_printable is_name has_flags has_video has_length has_main has_initrd has_extra is_entry descriptor_of entry_bytes same_name repeats breaks table_at options_at extra_at is_line line_of line_at line_bytes is_same_line setup_of version_of header_of header_at fit_checks plan_memory replaced_fields patch command_line written_by place kernel_fit foreign_boot slot_bytes_at map_sectors present_line good_map listed_entries settings_of message_of middle_of image_with_line handed_ending main_of loaded_ending kernel_ending entry_ending chosen_boot decision_at opening_at prompted_boot map_boot whole_boot course_of words_of meaning reason_text refusal_line names_behind names_text query_verdict dump_text boot_verdict digits
query_a_blank_disk_is_not_ours = refl

-- version 3 is not ours
pub query_version_3_is_not_ours : query_verdict (disks_of (fixture_l ++ (patch_at 0 0 6 (hex 2 0x0300) ∷ []))) (machine_of (disk_with 4096 16 63 ∷ [])) (Ok (record { disk = 0; start = 0; count = 4096 })) ≡ record { status = 6; text = (codes "lilo: not ours\n") }
unfolding number16 number32 is_zero has_ranges has_address is_slot is_one_slot chs_of address_of slot_of some_slot slot_at slot_bytes to_chs to_lba sector_at sectors_of place_at slot_make could_be_one link_at section file_content is_bootable has_signature has_options has_names has_slots has_no_message has_whole_message has_message has_zeros is_whole timeout_of table_slots boot_of boot_at is_set entry_name is_printable is_name has_flags has_video has_length has_main has_initrd has_extra is_entry descriptor_of entry_bytes same_name repeats breaks table_at options_at extra_at is_line line_of line_at line_bytes is_same_line setup_of version_of header_of header_at fit_checks plan_memory replaced_fields patch command_line written_by place kernel_fit foreign_boot slot_bytes_at map_sectors present_line good_map listed_entries settings_of message_of middle_of image_with_line handed_ending main_of loaded_ending kernel_ending entry_ending chosen_boot decision_at opening_at prompted_boot map_boot whole_boot course_of words_of meaning reason_text refusal_line names_behind names_text query_verdict dump_text boot_verdict digits
query_version_3_is_not_ours = refl

-- 20 names
pub query_20_names : query_verdict (disks_of (fixture_l ++ (patch_at 0 0 18 (hex 2 0x1400) ∷ []))) (machine_of (disk_with 4096 16 63 ∷ [])) (Ok (record { disk = 0; start = 0; count = 4096 })) ≡ record { status = 7; text = (codes "lilo: boot: bad table 255\n") }
unfolding number16 number32 is_zero has_ranges has_address is_slot is_one_slot chs_of address_of slot_of some_slot slot_at slot_bytes to_chs to_lba sector_at sectors_of place_at slot_make could_be_one link_at section file_content is_bootable has_signature has_options has_names has_slots has_no_message has_whole_message has_message has_zeros is_whole timeout_of table_slots boot_of boot_at is_set entry_name is_printable is_name has_flags has_video has_length has_main has_initrd has_extra is_entry descriptor_of entry_bytes same_name repeats breaks table_at options_at extra_at is_line line_of line_at line_bytes is_same_line setup_of version_of header_of header_at fit_checks plan_memory replaced_fields patch command_line written_by place kernel_fit foreign_boot slot_bytes_at map_sectors present_line good_map listed_entries settings_of message_of middle_of image_with_line handed_ending main_of loaded_ending kernel_ending entry_ending chosen_boot decision_at opening_at prompted_boot map_boot whole_boot course_of words_of meaning reason_text refusal_line names_behind names_text query_verdict dump_text boot_verdict digits
query_20_names = refl

-- a table slot past the disk
pub query_a_table_slot_past_the_disk : query_verdict (disks_of (fixture_l ++ (patch_at 0 0 48 (hex 8 0x0380010000100000) ∷ []))) (machine_of (disk_with 4096 16 63 ∷ [])) (Ok (record { disk = 0; start = 0; count = 4096 })) ≡ record { status = 7; text = (codes "lilo: boot: not found\n") }
unfolding number16 number32 is_zero has_ranges has_address is_slot is_one_slot chs_of address_of slot_of some_slot slot_at slot_bytes to_chs to_lba sector_at sectors_of place_at slot_make could_be_one link_at section file_content is_bootable has_signature has_options has_names has_slots has_no_message has_whole_message has_message has_zeros is_whole timeout_of table_slots boot_of boot_at is_set entry_name is_printable is_name has_flags has_video has_length has_main has_initrd has_extra is_entry descriptor_of entry_bytes same_name repeats breaks table_at options_at extra_at is_line line_of line_at line_bytes is_same_line setup_of version_of header_of header_at fit_checks plan_memory replaced_fields patch command_line written_by place kernel_fit foreign_boot slot_bytes_at map_sectors present_line good_map listed_entries settings_of message_of middle_of image_with_line handed_ending main_of loaded_ending kernel_ending entry_ending chosen_boot decision_at opening_at prompted_boot map_boot whole_boot course_of words_of meaning reason_text refusal_line names_behind names_text query_verdict dump_text boot_verdict digits
query_a_table_slot_past_the_disk = refl

-- an absent disk
pub query_an_absent_disk : query_verdict (disks_of fixture_l) (machine_of (disk_with 4096 16 63 ∷ [])) (Err NoDisk) ≡ record { status = 3; text = (codes "lilo: volume: no disk\n") }
unfolding number16 number32 is_zero has_ranges has_address is_slot is_one_slot chs_of address_of slot_of some_slot slot_at slot_bytes to_chs to_lba sector_at sectors_of place_at slot_make could_be_one link_at section file_content is_bootable has_signature has_options has_names has_slots has_no_message has_whole_message has_message has_zeros is_whole timeout_of table_slots boot_of boot_at is_set entry_name is_printable is_name has_flags has_video has_length has_main has_initrd has_extra is_entry descriptor_of entry_bytes same_name repeats breaks table_at options_at extra_at is_line line_of line_at line_bytes is_same_line setup_of version_of header_of header_at fit_checks plan_memory replaced_fields patch command_line written_by place kernel_fit foreign_boot slot_bytes_at map_sectors present_line good_map listed_entries settings_of message_of middle_of image_with_line handed_ending main_of loaded_ending kernel_ending entry_ending chosen_boot decision_at opening_at prompted_boot map_boot whole_boot course_of words_of meaning reason_text refusal_line names_behind names_text query_verdict dump_text boot_verdict digits
query_an_absent_disk = refl

-- six names
pub query_six_names : query_verdict (disks_of fixture_menu) (machine_of (disk_with 4096 16 63 ∷ disk_with 2000 4 17 ∷ [])) (Ok (record { disk = 0; start = 0; count = 4096 })) ≡ record { status = 0; text = (codes "linux *\nsafe\ntry\nkeep\ndos\nwin\n") }
unfolding number16 number32 is_zero has_ranges has_address is_slot is_one_slot chs_of address_of slot_of some_slot slot_at slot_bytes to_chs to_lba sector_at sectors_of place_at slot_make could_be_one link_at section file_content is_bootable has_signature has_options has_names has_slots has_no_message has_whole_message has_message has_zeros is_whole timeout_of table_slots boot_of boot_at is_set entry_name is_printable is_name has_flags has_video has_length has_main has_initrd has_extra is_entry descriptor_of entry_bytes same_name repeats breaks table_at options_at extra_at is_line line_of line_at line_bytes is_same_line setup_of version_of header_of header_at fit_checks plan_memory replaced_fields patch command_line written_by place kernel_fit foreign_boot slot_bytes_at map_sectors present_line good_map listed_entries settings_of message_of middle_of image_with_line handed_ending main_of loaded_ending kernel_ending entry_ending chosen_boot decision_at opening_at prompted_boot map_boot whole_boot course_of words_of meaning reason_text refusal_line names_behind names_text query_verdict dump_text boot_verdict digits
query_six_names = refl

-- another default
pub query_another_default : query_verdict (disks_of (fixture_menu ++ (patch_at 0 0 96 (hex 2 0x0400) ∷ []))) (machine_of (disk_with 4096 16 63 ∷ disk_with 2000 4 17 ∷ [])) (Ok (record { disk = 0; start = 0; count = 4096 })) ≡ record { status = 0; text = (codes "linux\nsafe\ntry\nkeep\ndos *\nwin\n") }
unfolding number16 number32 is_zero has_ranges has_address is_slot is_one_slot chs_of address_of slot_of some_slot slot_at slot_bytes to_chs to_lba sector_at sectors_of place_at slot_make could_be_one link_at section file_content is_bootable has_signature has_options has_names has_slots has_no_message has_whole_message has_message has_zeros is_whole timeout_of table_slots boot_of boot_at is_set entry_name is_printable is_name has_flags has_video has_length has_main has_initrd has_extra is_entry descriptor_of entry_bytes same_name repeats breaks table_at options_at extra_at is_line line_of line_at line_bytes is_same_line setup_of version_of header_of header_at fit_checks plan_memory replaced_fields patch command_line written_by place kernel_fit foreign_boot slot_bytes_at map_sectors present_line good_map listed_entries settings_of message_of middle_of image_with_line handed_ending main_of loaded_ending kernel_ending entry_ending chosen_boot decision_at opening_at prompted_boot map_boot whole_boot course_of words_of meaning reason_text refusal_line names_behind names_text query_verdict dump_text boot_verdict digits
query_another_default = refl

-- a bad second entry
pub query_a_bad_second_entry : query_verdict (disks_of (fixture_menu ++ (patch_at 0 95 64 (hex 1 0x00) ∷ []))) (machine_of (disk_with 4096 16 63 ∷ disk_with 2000 4 17 ∷ [])) (Ok (record { disk = 0; start = 0; count = 4096 })) ≡ record { status = 7; text = (codes "lilo: boot: bad table 1\n") }
unfolding number16 number32 is_zero has_ranges has_address is_slot is_one_slot chs_of address_of slot_of some_slot slot_at slot_bytes to_chs to_lba sector_at sectors_of place_at slot_make could_be_one link_at section file_content is_bootable has_signature has_options has_names has_slots has_no_message has_whole_message has_message has_zeros is_whole timeout_of table_slots boot_of boot_at is_set entry_name is_printable is_name has_flags has_video has_length has_main has_initrd has_extra is_entry descriptor_of entry_bytes same_name repeats breaks table_at options_at extra_at is_line line_of line_at line_bytes is_same_line setup_of version_of header_of header_at fit_checks plan_memory replaced_fields patch command_line written_by place kernel_fit foreign_boot slot_bytes_at map_sectors present_line good_map listed_entries settings_of message_of middle_of image_with_line handed_ending main_of loaded_ending kernel_ending entry_ending chosen_boot decision_at opening_at prompted_boot map_boot whole_boot course_of words_of meaning reason_text refusal_line names_behind names_text query_verdict dump_text boot_verdict digits
query_a_bad_second_entry = refl

-- a table slot by cylinder, head and sector
pub query_a_table_slot_by_cylinder_head_and_sector : query_verdict (disks_of (fixture_l ++ (patch_at 0 0 48 (hex 8 0x0180010021000100) ∷ []))) (machine_of (disk_with 4096 16 63 ∷ [])) (Ok (record { disk = 0; start = 0; count = 4096 })) ≡ record { status = 0; text = (codes "linux *\n") }
unfolding number16 number32 is_zero has_ranges has_address is_slot is_one_slot chs_of address_of slot_of some_slot slot_at slot_bytes to_chs to_lba sector_at sectors_of place_at slot_make could_be_one link_at section file_content is_bootable has_signature has_options has_names has_slots has_no_message has_whole_message has_message has_zeros is_whole timeout_of table_slots boot_of boot_at is_set entry_name is_printable is_name has_flags has_video has_length has_main has_initrd has_extra is_entry descriptor_of entry_bytes same_name repeats breaks table_at options_at extra_at is_line line_of line_at line_bytes is_same_line setup_of version_of header_of header_at fit_checks plan_memory replaced_fields patch command_line written_by place kernel_fit foreign_boot slot_bytes_at map_sectors present_line good_map listed_entries settings_of message_of middle_of image_with_line handed_ending main_of loaded_ending kernel_ending entry_ending chosen_boot decision_at opening_at prompted_boot map_boot whole_boot course_of words_of meaning reason_text refusal_line names_behind names_text query_verdict dump_text boot_verdict digits
query_a_table_slot_by_cylinder_head_and_sector = refl

-- a table slot past its track
pub query_a_table_slot_past_its_track : query_verdict (disks_of (fixture_l ++ (patch_at 0 0 48 (hex 8 0x018001003f100100) ∷ []))) (machine_of (disk_with 4096 16 63 ∷ [])) (Ok (record { disk = 0; start = 0; count = 4096 })) ≡ record { status = 7; text = (codes "lilo: boot: not found\n") }
unfolding number16 number32 is_zero has_ranges has_address is_slot is_one_slot chs_of address_of slot_of some_slot slot_at slot_bytes to_chs to_lba sector_at sectors_of place_at slot_make could_be_one link_at section file_content is_bootable has_signature has_options has_names has_slots has_no_message has_whole_message has_message has_zeros is_whole timeout_of table_slots boot_of boot_at is_set entry_name is_printable is_name has_flags has_video has_length has_main has_initrd has_extra is_entry descriptor_of entry_bytes same_name repeats breaks table_at options_at extra_at is_line line_of line_at line_bytes is_same_line setup_of version_of header_of header_at fit_checks plan_memory replaced_fields patch command_line written_by place kernel_fit foreign_boot slot_bytes_at map_sectors present_line good_map listed_entries settings_of message_of middle_of image_with_line handed_ending main_of loaded_ending kernel_ending entry_ending chosen_boot decision_at opening_at prompted_boot map_boot whole_boot course_of words_of meaning reason_text refusal_line names_behind names_text query_verdict dump_text boot_verdict digits
query_a_table_slot_past_its_track = refl

-- a bad default line is nothing to a listing
pub query_a_bad_default_line_is_nothing_to_a_listing : query_verdict (disks_of (fixture_l ++ (patch_at 0 94 0 (codes "X") ∷ []))) (machine_of (disk_with 4096 16 63 ∷ [])) (Ok (record { disk = 0; start = 0; count = 4096 })) ≡ record { status = 0; text = (codes "linux *\n") }
unfolding number16 number32 is_zero has_ranges has_address is_slot is_one_slot chs_of address_of slot_of some_slot slot_at slot_bytes to_chs to_lba sector_at sectors_of place_at slot_make could_be_one link_at section file_content is_bootable has_signature has_options has_names has_slots has_no_message has_whole_message has_message has_zeros is_whole timeout_of table_slots boot_of boot_at is_set entry_name is_printable is_name has_flags has_video has_length has_main has_initrd has_extra is_entry descriptor_of entry_bytes same_name repeats breaks table_at options_at extra_at is_line line_of line_at line_bytes is_same_line setup_of version_of header_of header_at fit_checks plan_memory replaced_fields patch command_line written_by place kernel_fit foreign_boot slot_bytes_at map_sectors present_line good_map listed_entries settings_of message_of middle_of image_with_line handed_ending main_of loaded_ending kernel_ending entry_ending chosen_boot decision_at opening_at prompted_boot map_boot whole_boot course_of words_of meaning reason_text refusal_line names_behind names_text query_verdict dump_text boot_verdict digits
query_a_bad_default_line_is_nothing_to_a_listing = refl

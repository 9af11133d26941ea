-- The premises of the law on what planned maps boot are met, written by tools/plan_cases.py.
use Rattle.std.proofs.Common.{◌≡◌, ◌≢◌, ◌==◌, ℕ, List, [], ◌∷◌, length, false}
use Rattle.std.proofs.Common.{codes, refl, ap, arith, lit<, lit≤}
use Rattle.std.specs.Fmt.{digits}
use Rattle.std.proofs.lemmas.Bool.Decides.{nat_tests}
use Rattle.lilo_model.specs.Disks.{Image, DiskSector}
use Rattle.conf_laws.proofs.Lawful.{lawful_law}
use Rattle.map_laws.specs.PlannedLies.{PlannedLies}
use Rattle.lilo_model.specs.BootSector.{is_bootable, has_signature, has_options, has_names, has_slots, has_no_message, has_whole_message, has_message, has_zeros, is_whole, timeout_of, table_slots, boot_of, boot_at, field_bytes, merged_sector}
use Rattle.lilo_model.specs.Bytes.{number16, number32, is_zero}
use Rattle.lilo_model.specs.Conf.{with_front, parts_of as conf_parts_of, value_of, line_of as conf_line_of, effect_value, effect_flag, opener_of, opening_line, section_path, section_label, label_reason, excludes_line, is_locked_fallback, is_open_restricted, section_refusal, sections_refusal, section_names, many_refusal, names_reason, names_from, default_refusal, mount_of, effect_mount, section_device, section_of, number_of, disk_of, disks_of as conf_disks_of, mode_of, config_of, whole_of, conf_at}
use Rattle.lilo_model.specs.ConfJudge.{given_text, setting_of, has_option, opened_part, part_kind, setting_disk, details_count, details_of, group_disk, is_same_disk, takes_nothing, text_reason, given_reason, value_reason, disk_reason, detail_reason, excluded_in, part_reason, setting_reason, part_after, settings_refusal}
use Rattle.lilo_model.specs.ConfLawful.{names_of_section, names_of_config}
use Rattle.lilo_model.specs.ConfOptions.{opt_name, all_options, option_at, opt_number, takes_of, places_of, stands_in, opens, is_of_disk, is_of_name, excluded_by}
use Rattle.lilo_model.specs.ConfSettings.{fault_place, text_refusal, flag_given, flag_cut, given_of, signed_cut, valued_cut, taken_cut, word_cut, token_cut, setting_cut, with_setting, settings_from, text_settings}
use Rattle.lilo_model.specs.ConfTokens.{is_separator, is_bad_byte, line_at as conftokens_line_at, in_comment, is_blank, blank_length, is_of_word, is_escape, ends_quoted, quoted_length, unless_bad, sound_token, word_at, closed, quoted_at, equals_at, piece_at, token_start, next_piece, is_equals, pieces_from, text_pieces, unescaped_byte, unescaped, plain_bytes}
use Rattle.lilo_model.specs.ConfValues.{is_path, is_name as confvalues_is_name, is_text, is_shown, number_between, whole_disk_at, root_at, is_value, last_length, last_part}
use Rattle.lilo_model.specs.DefaultLine.{Empty}
use Rattle.lilo_model.specs.Devices.{disk_name, last_partition, partition_name, device_name, devices_of, named_devices, device_at, disk_number, device_number}
use Rattle.lilo_model.specs.LineSector.{is_line, line_of, line_at, line_bytes, is_same_line}
use Rattle.lilo_model.specs.Meant.{started, menu_decision, menu_boot, file_of, middle_text, target_of, menu_entries, menu_of, meant}
use Rattle.lilo_model.specs.MinixEntries.{entry_of, entries_in, entry_at as minixentries_entry_at, find_entry, entries_at, is_dots}
use Rattle.lilo_model.specs.MinixFind.{components, child, find_path, file_block, file_at}
use Rattle.lilo_model.specs.MinixFindNames.{child_path, path_of}
use Rattle.lilo_model.specs.MinixLayout.{kind_of, super_of, super_checks, super_in, super_at, with_counts, super_bytes, v1_inode, v2_inode, inode_of, inode_at, v1_inode_bytes, v2_inode_bytes, inode_bytes, kept_inode, inode_place}
use Rattle.lilo_model.specs.MinixNames.{zone_number, block, content, entry, first_named, lookup, reached, thing, names, names_in, IsSound}
use Rattle.lilo_model.specs.MinixParts.{bit, with_bit, parts_of, volume_at, number_in, follow, pointer_by, inside, follow_at, zone_at, block_at, content_at}
use Rattle.lilo_model.specs.Options.{options_at, extra_at, options_bytes, extra_bytes}
use Rattle.lilo_model.specs.Partitions.{named_device, entry_at, entries_of, table_entries, is_link, is_plain, link_of, logical_of, listed, linked_sector, chain_entries, chain_tables, partitions_of, numbered_span, span_of}
use Rattle.lilo_model.specs.Plan.{slot_to, slots_for, chain_for, file_slots, file_sectors, section_sectors_at, flags_of, descriptor_for, plan_entries, sectors_of_table, sectors_after, plan_sectors, map_size, plan_names, plan_boot, plan_boot_sector}
use Rattle.lilo_model.specs.Planned.{devices_in, inode_places, mapped_inode, file_inode, mapped_section, code_in, planned}
use Rattle.lilo_model.specs.Section.{link_at, section, file_content, section_bytes}
use Rattle.lilo_model.specs.Slots.{has_ranges, has_address, is_slot, is_one_slot, chs_of, address_of, slot_of, some_slot, slot_at, slot_bytes, to_chs, to_lba, sector_at, sectors_of, place_at, slot_make, could_be_one}
use Rattle.lilo_model.specs.Table.{is_set, entry_name, is_printable, is_name, has_flags, has_video, has_length, has_main, has_initrd, has_extra, is_entry, descriptor_of, entry_bytes, same_name, repeats, breaks, table_at, descriptor_bytes}
use Rattle.model_cases.specs.Sparse.{disks_of, on}
use Rattle.model_cases.specs.Volumes.{with_sectors}
use Rattle.model_cases.specs.PlanConfs.{conf_optional}
use Rattle.model_cases.specs.PlanDisks.{disk_optional}
use Rattle.model_cases.specs.PlanVolumes.{machine_optional, volume_optional}

other-sector : (place other : DiskSector) → (place.sector == other.sector) ≡ false → place ≢ other
other-sector place other test same =
    let same_sector : place.sector ≡ other.sector = ap (λ (place : DiskSector). place.sector) same in
    let differs : place.sector ≢ other.sector = grind (arith, nat_tests) in
    differs same_sector

no-section : {A : Type 0} → (first : A) (others : List A) → first ∷ others ≡ [] → ⊥
no-section first others none = let long = ap length none in omega (arith, long)

not-odd : (rest : ℕ) → rest ≡ 0 → rest ≡ 1 → ⊥
not-odd rest even odd = omega (arith, even, odd)

-- the disks with what was planned
abbrev image_optional : Image
image_optional = with_sectors (disks_of disk_optional) (record { disk = 0; sector = 0 } ∷ (on 0 (98 ∷ 99 ∷ 100 ∷ 101 ∷ 102 ∷ 103 ∷ 104 ∷ 105 ∷ 106 ∷ 107 ∷ []))) (plan_boot_sector (planned (disks_of disk_optional) machine_optional volume_optional conf_optional 305419896) machine_optional (on 0 (98 ∷ 99 ∷ 100 ∷ 101 ∷ 102 ∷ 103 ∷ 104 ∷ 105 ∷ 106 ∷ 107 ∷ [])) (disks_of disk_optional 0 0) ∷ plan_sectors (planned (disks_of disk_optional) machine_optional volume_optional conf_optional 305419896) machine_optional (on 0 (98 ∷ 99 ∷ 100 ∷ 101 ∷ 102 ∷ 103 ∷ 104 ∷ 105 ∷ 106 ∷ 107 ∷ [])))

-- optional sections
pub lies_optional : PlannedLies (disks_of disk_optional) image_optional machine_optional volume_optional (record { disk = 0; start = 0; count = 4096 }) conf_optional 305419896 (devices_in (disks_of disk_optional) machine_optional) Empty (record { line = record { disk = 0; sector = 98 }; one = record { disk = 0; sector = 99 }; two = record { disk = 0; sector = 100 }; three = record { disk = 0; sector = 101 }; zero_place = record { disk = 0; sector = 102 }; rest = ((record { disk = 0; sector = 103 }) ∷ (record { disk = 0; sector = 104 }) ∷ (record { disk = 0; sector = 105 }) ∷ (record { disk = 0; sector = 106 }) ∷ (record { disk = 0; sector = 107 }) ∷ []) }) (disks_of disk_optional 0 0)
unfolding number16 number32 is_zero has_ranges has_address is_slot is_one_slot chs_of address_of slot_of some_slot slot_at slot_bytes to_chs to_lba sector_at sectors_of place_at slot_make could_be_one named_device entry_at entries_of table_entries is_link is_plain link_of logical_of listed linked_sector chain_entries chain_tables partitions_of numbered_span span_of disk_name last_partition partition_name device_name devices_of named_devices device_at disk_number device_number kind_of super_of super_checks super_in super_at with_counts super_bytes v1_inode v2_inode inode_of inode_at v1_inode_bytes v2_inode_bytes inode_bytes kept_inode inode_place bit with_bit parts_of volume_at number_in follow pointer_by inside follow_at zone_at block_at content_at entry_of entries_in minixentries_entry_at find_entry entries_at is_dots components child find_path file_block file_at zone_number block content entry first_named lookup reached thing names names_in IsSound child_path path_of link_at section file_content section_bytes is_bootable has_signature has_options has_names has_slots has_no_message has_whole_message has_message has_zeros is_whole timeout_of table_slots boot_of boot_at field_bytes merged_sector is_set entry_name is_printable is_name has_flags has_video has_length has_main has_initrd has_extra is_entry descriptor_of entry_bytes same_name repeats breaks table_at descriptor_bytes options_at extra_at options_bytes extra_bytes is_line line_of line_at line_bytes is_same_line names_of_section names_of_config started menu_decision menu_boot file_of middle_text target_of menu_entries menu_of meant slot_to slots_for chain_for file_slots file_sectors section_sectors_at flags_of descriptor_for plan_entries sectors_of_table sectors_after plan_sectors map_size plan_names plan_boot plan_boot_sector devices_in inode_places mapped_inode file_inode mapped_section code_in planned with_front conf_parts_of value_of conf_line_of effect_value effect_flag opener_of opening_line section_path section_label label_reason excludes_line is_locked_fallback is_open_restricted section_refusal sections_refusal section_names many_refusal names_reason names_from default_refusal mount_of effect_mount section_device section_of number_of disk_of conf_disks_of mode_of config_of whole_of conf_at given_text setting_of has_option opened_part part_kind setting_disk details_count details_of group_disk is_same_disk takes_nothing text_reason given_reason value_reason disk_reason detail_reason excluded_in part_reason setting_reason part_after settings_refusal opt_name all_options option_at opt_number takes_of places_of stands_in opens is_of_disk is_of_name excluded_by fault_place text_refusal flag_given flag_cut given_of signed_cut valued_cut taken_cut word_cut token_cut setting_cut with_setting settings_from text_settings is_separator is_bad_byte conftokens_line_at in_comment is_blank blank_length is_of_word is_escape ends_quoted quoted_length unless_bad sound_token word_at closed quoted_at equals_at piece_at token_start next_piece is_equals pieces_from text_pieces unescaped_byte unescaped plain_bytes is_path confvalues_is_name is_text is_shown number_between whole_disk_at root_at is_value last_length last_part digits
lies_optional = record {
  lawful = lawful_law (codes "boot=/dev/hda\nmap=/boot/map\ninstall=/boot/boot.b\nprompt\ntimeout=50\nlba32\nimage=/boot/vmlinuz\n    label=linux\n    initrd=/boot/initrd\n    read-only\n    root=/dev/hda1\n    optional\n    image=/boot/gone\n    label=gone\n    optional\n    image=/boot/old\n    label=old\n") conf_optional refl;
  time_fits = lit< tt;
  present_long = refl;
  boot = refl;
  line_is = refl;
  lies = (refl, (refl, (refl, (refl, (refl, (refl, (refl, (refl, (refl, tt)))))))));
  named = (record { one = record { whole = record { disk = omega arith; some = omega arith; few = omega arith; address = lit< tt }; one = refl }; names = refl }, (record { one = record { whole = record { disk = omega arith; some = omega arith; few = omega arith; address = lit< tt }; one = refl }; names = refl }, (record { one = record { whole = record { disk = omega arith; some = omega arith; few = omega arith; address = lit< tt }; one = refl }; names = refl }, (record { one = record { whole = record { disk = omega arith; some = omega arith; few = omega arith; address = lit< tt }; one = refl }; names = refl }, (record { one = record { whole = record { disk = omega arith; some = omega arith; few = omega arith; address = lit< tt }; one = refl }; names = refl }, (record { one = record { whole = record { disk = omega arith; some = omega arith; few = omega arith; address = lit< tt }; one = refl }; names = refl }, (record { one = record { whole = record { disk = omega arith; some = omega arith; few = omega arith; address = lit< tt }; one = refl }; names = refl }, (record { one = record { whole = record { disk = omega arith; some = omega arith; few = omega arith; address = lit< tt }; one = refl }; names = refl }, (record { one = record { whole = record { disk = omega arith; some = omega arith; few = omega arith; address = lit< tt }; one = refl }; names = refl }, (record { one = record { whole = record { disk = omega arith; some = omega arith; few = omega arith; address = lit< tt }; one = refl }; names = refl }, tt))))))))));
  apart = (other-sector _ _ refl, (other-sector _ _ refl, (other-sector _ _ refl, (other-sector _ _ refl, (other-sector _ _ refl, (other-sector _ _ refl, (other-sector _ _ refl, (other-sector _ _ refl, (other-sector _ _ refl, tt)))))))));
  left = λ none. no-section _ _ none;
  message_few = tt;
  message = tt;
  files = (lit≤ tt, (refl, refl, refl, record { size = refl; some = lit≤ tt; few = lit< tt; slots = lit≤ tt; count = refl; named = (record { one = record { whole = record { disk = omega arith; some = omega arith; few = omega arith; address = lit< tt }; one = refl }; names = refl }, (record { one = record { whole = record { disk = omega arith; some = omega arith; few = omega arith; address = lit< tt }; one = refl }; names = refl }, (record { one = record { whole = record { disk = omega arith; some = omega arith; few = omega arith; address = lit< tt }; one = refl }; names = refl }, tt))); apart = (other-sector _ _ refl, (other-sector _ _ refl, (other-sector _ _ refl, tt))); lies = refl }, record { size = refl; some = lit≤ tt; few = lit< tt; slots = lit≤ tt; count = refl; named = (record { one = record { whole = record { disk = omega arith; some = omega arith; few = omega arith; address = lit< tt }; one = refl }; names = refl }, (record { one = record { whole = record { disk = omega arith; some = omega arith; few = omega arith; address = lit< tt }; one = refl }; names = refl }, tt)); apart = (other-sector _ _ refl, (other-sector _ _ refl, tt)); lies = refl }), (lit≤ tt, (refl, refl, refl, record { size = refl; some = lit≤ tt; few = lit< tt; slots = lit≤ tt; count = refl; named = (record { one = record { whole = record { disk = omega arith; some = omega arith; few = omega arith; address = lit< tt }; one = refl }; names = refl }, (record { one = record { whole = record { disk = omega arith; some = omega arith; few = omega arith; address = lit< tt }; one = refl }; names = refl }, (record { one = record { whole = record { disk = omega arith; some = omega arith; few = omega arith; address = lit< tt }; one = refl }; names = refl }, (record { one = record { whole = record { disk = omega arith; some = omega arith; few = omega arith; address = lit< tt }; one = refl }; names = refl }, tt)))); apart = (other-sector _ _ refl, (other-sector _ _ refl, (other-sector _ _ refl, (other-sector _ _ refl, tt)))); lies = refl }, tt), tt));
}

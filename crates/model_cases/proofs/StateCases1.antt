-- Cases of the model, written by tools/model_cases.py: the state of an image.
use Rattle.std.proofs.Common.{◌≡◌, ◌∷◌, ◌++◌, [], None, Some, codes, replicate, refl}
use Rattle.lilo_model.specs.Boot.{foreign_boot, slot_bytes_at, map_sectors, present_line, good_map, listed_entries, settings_of, message_of, middle_of, image_with_line, handed_ending, main_of, loaded_ending, kernel_ending, entry_ending, chosen_boot, decision_at, opening_at, prompted_boot, map_boot, whole_boot}
use Rattle.lilo_model.specs.BootSector.{is_bootable, has_signature, has_options, has_names, has_slots, has_no_message, has_whole_message, has_message, has_zeros, is_whole, timeout_of, table_slots, boot_of, boot_at}
use Rattle.lilo_model.specs.Bytes.{number16, number32, is_zero}
use Rattle.lilo_model.specs.DefaultLine.{Empty, Once, Kept}
use Rattle.lilo_model.specs.LineSector.{is_line, line_of, line_at, line_bytes, is_same_line}
use Rattle.lilo_model.specs.Mapped.{entry_places, map_places, mapped_sectors}
use Rattle.lilo_model.specs.Section.{link_at, section, file_content}
use Rattle.lilo_model.specs.Slots.{has_ranges, has_address, is_slot, is_one_slot, chs_of, address_of, slot_of, some_slot, slot_at, slot_bytes, to_chs, to_lba, sector_at, sectors_of, place_at, slot_make, could_be_one}
use Rattle.session_model.specs.State.{line_place, line_in, body_in}
use Rattle.lilo_model.specs.Table.{is_set, entry_name, is_printable, is_name, has_flags, has_video, has_length, has_main, has_initrd, has_extra, is_entry, descriptor_of, entry_bytes, same_name, repeats, breaks, table_at}
use Rattle.model_cases.specs.Sparse.{hex, piece, patch_at, file, disks_of, disk_with, machine_of, held, site_on}
use Rattle.model_cases.specs.Fixtures.{fixture_installed}

-- an installed disk
pub state_an_installed_disk : (line_place (site_on (machine_of (disk_with 4096 16 63 ∷ [])) (record { disk = 0; start = 0; count = 4096 })) (disks_of fixture_installed) ≡ (Some (record { disk = 0; sector = 94 }))) × (line_in (site_on (machine_of (disk_with 4096 16 63 ∷ [])) (record { disk = 0; start = 0; count = 4096 })) (disks_of fixture_installed) ≡ (Some Empty)) × (body_in (site_on (machine_of (disk_with 4096 16 63 ∷ [])) (record { disk = 0; start = 0; count = 4096 })) (disks_of fixture_installed) ≡ held 0 0 (file 512 (piece 0 (hex 7 0xeb7e4c494c4f01) ∷ piece 12 (hex 7 0x01000000320001) ∷ piece 24 (hex 13 0x038001005e0000000380010062) ∷ piece 48 (hex 21 0x038001005f00000003800100600000000380010061) ∷ piece 128 (replicate 312 144) ∷ piece 450 (hex 10 0x8100000040000000c00f) ∷ piece 510 (hex 2 0x55aa) ∷ [])) ∷ held 0 95 (file 512 (piece 0 (codes "linux") ∷ piece 16 (hex 39 0x4000000005040000bc020000038001006300000003800100640000000380010065000000010001) ∷ [])) ∷ held 0 96 (file 512 []) ∷ held 0 97 (file 512 []) ∷ held 0 99 (file 512 (piece 0 (hex 1 0x0c) ∷ piece 8 (codes " ro root=301") ∷ [])) ∷ held 0 100 (file 512 (piece 0 (hex 21 0x038001005200000003800100530000000380010054) ∷ [])) ∷ held 0 82 (file 512 (piece 497 (hex 1 0x01) ∷ piece 510 (hex 2 0x55aa) ∷ [])) ∷ held 0 83 (file 512 (piece 2 (hex 6 0x486472530602) ∷ piece 17 (hex 1 0x01) ∷ piece 44 (hex 4 0xffffff37) ∷ piece 56 (hex 1 0xff) ∷ [])) ∷ held 0 84 (file 512 (piece 0 (codes "HELLO") ∷ [])) ∷ held 0 101 (file 512 (piece 0 (hex 13 0x03800100560000000380010057) ∷ [])) ∷ held 0 86 (replicate 512 165) ∷ held 0 87 (file 512 (piece 0 (replicate 188 165) ∷ [])) ∷ [])
unfolding number16 number32 is_zero has_ranges has_address is_slot is_one_slot chs_of address_of slot_of some_slot slot_at slot_bytes to_chs to_lba sector_at sectors_of place_at slot_make could_be_one link_at section file_content is_bootable has_signature has_options has_names has_slots has_no_message has_whole_message has_message has_zeros is_whole timeout_of table_slots boot_of boot_at is_set entry_name is_printable is_name has_flags has_video has_length has_main has_initrd has_extra is_entry descriptor_of entry_bytes same_name repeats breaks table_at entry_places map_places mapped_sectors is_line line_of line_at line_bytes is_same_line foreign_boot slot_bytes_at map_sectors present_line good_map listed_entries settings_of message_of middle_of image_with_line handed_ending main_of loaded_ending kernel_ending entry_ending chosen_boot decision_at opening_at prompted_boot map_boot whole_boot line_place line_in body_in
state_an_installed_disk = (refl, refl, refl)

-- after -R with a line
pub state_after_r_with_a_line : (line_place (site_on (machine_of (disk_with 4096 16 63 ∷ [])) (record { disk = 0; start = 0; count = 4096 })) (disks_of (fixture_installed ++ (patch_at 0 94 4 (hex 16 0x01000c006c696e75782073696e676c65) ∷ []))) ≡ (Some (record { disk = 0; sector = 94 }))) × (line_in (site_on (machine_of (disk_with 4096 16 63 ∷ [])) (record { disk = 0; start = 0; count = 4096 })) (disks_of (fixture_installed ++ (patch_at 0 94 4 (hex 16 0x01000c006c696e75782073696e676c65) ∷ []))) ≡ (Some (Once (codes "linux single")))) × (body_in (site_on (machine_of (disk_with 4096 16 63 ∷ [])) (record { disk = 0; start = 0; count = 4096 })) (disks_of (fixture_installed ++ (patch_at 0 94 4 (hex 16 0x01000c006c696e75782073696e676c65) ∷ []))) ≡ held 0 0 (file 512 (piece 0 (hex 7 0xeb7e4c494c4f01) ∷ piece 12 (hex 7 0x01000000320001) ∷ piece 24 (hex 13 0x038001005e0000000380010062) ∷ piece 48 (hex 21 0x038001005f00000003800100600000000380010061) ∷ piece 128 (replicate 312 144) ∷ piece 450 (hex 10 0x8100000040000000c00f) ∷ piece 510 (hex 2 0x55aa) ∷ [])) ∷ held 0 95 (file 512 (piece 0 (codes "linux") ∷ piece 16 (hex 39 0x4000000005040000bc020000038001006300000003800100640000000380010065000000010001) ∷ [])) ∷ held 0 96 (file 512 []) ∷ held 0 97 (file 512 []) ∷ held 0 99 (file 512 (piece 0 (hex 1 0x0c) ∷ piece 8 (codes " ro root=301") ∷ [])) ∷ held 0 100 (file 512 (piece 0 (hex 21 0x038001005200000003800100530000000380010054) ∷ [])) ∷ held 0 82 (file 512 (piece 497 (hex 1 0x01) ∷ piece 510 (hex 2 0x55aa) ∷ [])) ∷ held 0 83 (file 512 (piece 2 (hex 6 0x486472530602) ∷ piece 17 (hex 1 0x01) ∷ piece 44 (hex 4 0xffffff37) ∷ piece 56 (hex 1 0xff) ∷ [])) ∷ held 0 84 (file 512 (piece 0 (codes "HELLO") ∷ [])) ∷ held 0 101 (file 512 (piece 0 (hex 13 0x03800100560000000380010057) ∷ [])) ∷ held 0 86 (replicate 512 165) ∷ held 0 87 (file 512 (piece 0 (replicate 188 165) ∷ [])) ∷ [])
unfolding number16 number32 is_zero has_ranges has_address is_slot is_one_slot chs_of address_of slot_of some_slot slot_at slot_bytes to_chs to_lba sector_at sectors_of place_at slot_make could_be_one link_at section file_content is_bootable has_signature has_options has_names has_slots has_no_message has_whole_message has_message has_zeros is_whole timeout_of table_slots boot_of boot_at is_set entry_name is_printable is_name has_flags has_video has_length has_main has_initrd has_extra is_entry descriptor_of entry_bytes same_name repeats breaks table_at entry_places map_places mapped_sectors is_line line_of line_at line_bytes is_same_line foreign_boot slot_bytes_at map_sectors present_line good_map listed_entries settings_of message_of middle_of image_with_line handed_ending main_of loaded_ending kernel_ending entry_ending chosen_boot decision_at opening_at prompted_boot map_boot whole_boot line_place line_in body_in
state_after_r_with_a_line = (refl, refl, refl)

-- after a boot that locks a line
pub state_after_a_boot_that_locks_a_line : (line_place (site_on (machine_of (disk_with 4096 16 63 ∷ [])) (record { disk = 0; start = 0; count = 4096 })) (disks_of (fixture_installed ++ (patch_at 0 94 4 (hex 15 0x02000b006c696e7578207175696574) ∷ []))) ≡ (Some (record { disk = 0; sector = 94 }))) × (line_in (site_on (machine_of (disk_with 4096 16 63 ∷ [])) (record { disk = 0; start = 0; count = 4096 })) (disks_of (fixture_installed ++ (patch_at 0 94 4 (hex 15 0x02000b006c696e7578207175696574) ∷ []))) ≡ (Some (Kept (codes "linux quiet")))) × (body_in (site_on (machine_of (disk_with 4096 16 63 ∷ [])) (record { disk = 0; start = 0; count = 4096 })) (disks_of (fixture_installed ++ (patch_at 0 94 4 (hex 15 0x02000b006c696e7578207175696574) ∷ []))) ≡ held 0 0 (file 512 (piece 0 (hex 7 0xeb7e4c494c4f01) ∷ piece 12 (hex 7 0x01000000320001) ∷ piece 24 (hex 13 0x038001005e0000000380010062) ∷ piece 48 (hex 21 0x038001005f00000003800100600000000380010061) ∷ piece 128 (replicate 312 144) ∷ piece 450 (hex 10 0x8100000040000000c00f) ∷ piece 510 (hex 2 0x55aa) ∷ [])) ∷ held 0 95 (file 512 (piece 0 (codes "linux") ∷ piece 16 (hex 39 0x4000000005040000bc020000038001006300000003800100640000000380010065000000010001) ∷ [])) ∷ held 0 96 (file 512 []) ∷ held 0 97 (file 512 []) ∷ held 0 99 (file 512 (piece 0 (hex 1 0x0c) ∷ piece 8 (codes " ro root=301") ∷ [])) ∷ held 0 100 (file 512 (piece 0 (hex 21 0x038001005200000003800100530000000380010054) ∷ [])) ∷ held 0 82 (file 512 (piece 497 (hex 1 0x01) ∷ piece 510 (hex 2 0x55aa) ∷ [])) ∷ held 0 83 (file 512 (piece 2 (hex 6 0x486472530602) ∷ piece 17 (hex 1 0x01) ∷ piece 44 (hex 4 0xffffff37) ∷ piece 56 (hex 1 0xff) ∷ [])) ∷ held 0 84 (file 512 (piece 0 (codes "HELLO") ∷ [])) ∷ held 0 101 (file 512 (piece 0 (hex 13 0x03800100560000000380010057) ∷ [])) ∷ held 0 86 (replicate 512 165) ∷ held 0 87 (file 512 (piece 0 (replicate 188 165) ∷ [])) ∷ [])
unfolding number16 number32 is_zero has_ranges has_address is_slot is_one_slot chs_of address_of slot_of some_slot slot_at slot_bytes to_chs to_lba sector_at sectors_of place_at slot_make could_be_one link_at section file_content is_bootable has_signature has_options has_names has_slots has_no_message has_whole_message has_message has_zeros is_whole timeout_of table_slots boot_of boot_at is_set entry_name is_printable is_name has_flags has_video has_length has_main has_initrd has_extra is_entry descriptor_of entry_bytes same_name repeats breaks table_at entry_places map_places mapped_sectors is_line line_of line_at line_bytes is_same_line foreign_boot slot_bytes_at map_sectors present_line good_map listed_entries settings_of message_of middle_of image_with_line handed_ending main_of loaded_ending kernel_ending entry_ending chosen_boot decision_at opening_at prompted_boot map_boot whole_boot line_place line_in body_in
state_after_a_boot_that_locks_a_line = (refl, refl, refl)

-- after -u
pub state_after_u : (line_place (site_on (machine_of (disk_with 4096 16 63 ∷ [])) (record { disk = 0; start = 0; count = 4096 })) (disks_of (fixture_installed ++ (patch_at 0 0 0 (replicate 37 0) ∷ patch_at 0 0 48 (replicate 21 0) ∷ patch_at 0 0 128 (replicate 312 0) ∷ []))) ≡ None) × (line_in (site_on (machine_of (disk_with 4096 16 63 ∷ [])) (record { disk = 0; start = 0; count = 4096 })) (disks_of (fixture_installed ++ (patch_at 0 0 0 (replicate 37 0) ∷ patch_at 0 0 48 (replicate 21 0) ∷ patch_at 0 0 128 (replicate 312 0) ∷ []))) ≡ None) × (body_in (site_on (machine_of (disk_with 4096 16 63 ∷ [])) (record { disk = 0; start = 0; count = 4096 })) (disks_of (fixture_installed ++ (patch_at 0 0 0 (replicate 37 0) ∷ patch_at 0 0 48 (replicate 21 0) ∷ patch_at 0 0 128 (replicate 312 0) ∷ []))) ≡ held 0 0 (file 512 (piece 450 (hex 10 0x8100000040000000c00f) ∷ piece 510 (hex 2 0x55aa) ∷ [])) ∷ [])
unfolding number16 number32 is_zero has_ranges has_address is_slot is_one_slot chs_of address_of slot_of some_slot slot_at slot_bytes to_chs to_lba sector_at sectors_of place_at slot_make could_be_one link_at section file_content is_bootable has_signature has_options has_names has_slots has_no_message has_whole_message has_message has_zeros is_whole timeout_of table_slots boot_of boot_at is_set entry_name is_printable is_name has_flags has_video has_length has_main has_initrd has_extra is_entry descriptor_of entry_bytes same_name repeats breaks table_at entry_places map_places mapped_sectors is_line line_of line_at line_bytes is_same_line foreign_boot slot_bytes_at map_sectors present_line good_map listed_entries settings_of message_of middle_of image_with_line handed_ending main_of loaded_ending kernel_ending entry_ending chosen_boot decision_at opening_at prompted_boot map_boot whole_boot line_place line_in body_in
state_after_u = (refl, refl, refl)

-- a bad default line
pub state_a_bad_default_line : (line_place (site_on (machine_of (disk_with 4096 16 63 ∷ [])) (record { disk = 0; start = 0; count = 4096 })) (disks_of (fixture_installed ++ (patch_at 0 94 0 (codes "K") ∷ []))) ≡ (Some (record { disk = 0; sector = 94 }))) × (line_in (site_on (machine_of (disk_with 4096 16 63 ∷ [])) (record { disk = 0; start = 0; count = 4096 })) (disks_of (fixture_installed ++ (patch_at 0 94 0 (codes "K") ∷ []))) ≡ None) × (body_in (site_on (machine_of (disk_with 4096 16 63 ∷ [])) (record { disk = 0; start = 0; count = 4096 })) (disks_of (fixture_installed ++ (patch_at 0 94 0 (codes "K") ∷ []))) ≡ held 0 0 (file 512 (piece 0 (hex 7 0xeb7e4c494c4f01) ∷ piece 12 (hex 7 0x01000000320001) ∷ piece 24 (hex 13 0x038001005e0000000380010062) ∷ piece 48 (hex 21 0x038001005f00000003800100600000000380010061) ∷ piece 128 (replicate 312 144) ∷ piece 450 (hex 10 0x8100000040000000c00f) ∷ piece 510 (hex 2 0x55aa) ∷ [])) ∷ held 0 95 (file 512 (piece 0 (codes "linux") ∷ piece 16 (hex 39 0x4000000005040000bc020000038001006300000003800100640000000380010065000000010001) ∷ [])) ∷ held 0 96 (file 512 []) ∷ held 0 97 (file 512 []) ∷ held 0 99 (file 512 (piece 0 (hex 1 0x0c) ∷ piece 8 (codes " ro root=301") ∷ [])) ∷ held 0 100 (file 512 (piece 0 (hex 21 0x038001005200000003800100530000000380010054) ∷ [])) ∷ held 0 82 (file 512 (piece 497 (hex 1 0x01) ∷ piece 510 (hex 2 0x55aa) ∷ [])) ∷ held 0 83 (file 512 (piece 2 (hex 6 0x486472530602) ∷ piece 17 (hex 1 0x01) ∷ piece 44 (hex 4 0xffffff37) ∷ piece 56 (hex 1 0xff) ∷ [])) ∷ held 0 84 (file 512 (piece 0 (codes "HELLO") ∷ [])) ∷ held 0 101 (file 512 (piece 0 (hex 13 0x03800100560000000380010057) ∷ [])) ∷ held 0 86 (replicate 512 165) ∷ held 0 87 (file 512 (piece 0 (replicate 188 165) ∷ [])) ∷ [])
unfolding number16 number32 is_zero has_ranges has_address is_slot is_one_slot chs_of address_of slot_of some_slot slot_at slot_bytes to_chs to_lba sector_at sectors_of place_at slot_make could_be_one link_at section file_content is_bootable has_signature has_options has_names has_slots has_no_message has_whole_message has_message has_zeros is_whole timeout_of table_slots boot_of boot_at is_set entry_name is_printable is_name has_flags has_video has_length has_main has_initrd has_extra is_entry descriptor_of entry_bytes same_name repeats breaks table_at entry_places map_places mapped_sectors is_line line_of line_at line_bytes is_same_line foreign_boot slot_bytes_at map_sectors present_line good_map listed_entries settings_of message_of middle_of image_with_line handed_ending main_of loaded_ending kernel_ending entry_ending chosen_boot decision_at opening_at prompted_boot map_boot whole_boot line_place line_in body_in
state_a_bad_default_line = (refl, refl, refl)

-- a default line that is absent
pub state_a_default_line_that_is_absent : (line_place (site_on (machine_of (disk_with 4096 16 63 ∷ [])) (record { disk = 0; start = 0; count = 4096 })) (disks_of (fixture_installed ++ (patch_at 0 0 28 (hex 2 0x0010) ∷ []))) ≡ None) × (line_in (site_on (machine_of (disk_with 4096 16 63 ∷ [])) (record { disk = 0; start = 0; count = 4096 })) (disks_of (fixture_installed ++ (patch_at 0 0 28 (hex 2 0x0010) ∷ []))) ≡ None) × (body_in (site_on (machine_of (disk_with 4096 16 63 ∷ [])) (record { disk = 0; start = 0; count = 4096 })) (disks_of (fixture_installed ++ (patch_at 0 0 28 (hex 2 0x0010) ∷ []))) ≡ held 0 0 (file 512 (piece 0 (hex 7 0xeb7e4c494c4f01) ∷ piece 12 (hex 7 0x01000000320001) ∷ piece 24 (hex 13 0x03800100001000000380010062) ∷ piece 48 (hex 21 0x038001005f00000003800100600000000380010061) ∷ piece 128 (replicate 312 144) ∷ piece 450 (hex 10 0x8100000040000000c00f) ∷ piece 510 (hex 2 0x55aa) ∷ [])) ∷ held 0 95 (file 512 (piece 0 (codes "linux") ∷ piece 16 (hex 39 0x4000000005040000bc020000038001006300000003800100640000000380010065000000010001) ∷ [])) ∷ held 0 96 (file 512 []) ∷ held 0 97 (file 512 []) ∷ held 0 99 (file 512 (piece 0 (hex 1 0x0c) ∷ piece 8 (codes " ro root=301") ∷ [])) ∷ held 0 100 (file 512 (piece 0 (hex 21 0x038001005200000003800100530000000380010054) ∷ [])) ∷ held 0 82 (file 512 (piece 497 (hex 1 0x01) ∷ piece 510 (hex 2 0x55aa) ∷ [])) ∷ held 0 83 (file 512 (piece 2 (hex 6 0x486472530602) ∷ piece 17 (hex 1 0x01) ∷ piece 44 (hex 4 0xffffff37) ∷ piece 56 (hex 1 0xff) ∷ [])) ∷ held 0 84 (file 512 (piece 0 (codes "HELLO") ∷ [])) ∷ held 0 101 (file 512 (piece 0 (hex 13 0x03800100560000000380010057) ∷ [])) ∷ held 0 86 (replicate 512 165) ∷ held 0 87 (file 512 (piece 0 (replicate 188 165) ∷ [])) ∷ [])
unfolding number16 number32 is_zero has_ranges has_address is_slot is_one_slot chs_of address_of slot_of some_slot slot_at slot_bytes to_chs to_lba sector_at sectors_of place_at slot_make could_be_one link_at section file_content is_bootable has_signature has_options has_names has_slots has_no_message has_whole_message has_message has_zeros is_whole timeout_of table_slots boot_of boot_at is_set entry_name is_printable is_name has_flags has_video has_length has_main has_initrd has_extra is_entry descriptor_of entry_bytes same_name repeats breaks table_at entry_places map_places mapped_sectors is_line line_of line_at line_bytes is_same_line foreign_boot slot_bytes_at map_sectors present_line good_map listed_entries settings_of message_of middle_of image_with_line handed_ending main_of loaded_ending kernel_ending entry_ending chosen_boot decision_at opening_at prompted_boot map_boot whole_boot line_place line_in body_in
state_a_default_line_that_is_absent = (refl, refl, refl)

-- a boot sector that breaks the format
pub state_a_boot_sector_that_breaks_the_format : (line_place (site_on (machine_of (disk_with 4096 16 63 ∷ [])) (record { disk = 0; start = 0; count = 4096 })) (disks_of (fixture_installed ++ (patch_at 0 0 18 (hex 1 0x00) ∷ []))) ≡ None) × (line_in (site_on (machine_of (disk_with 4096 16 63 ∷ [])) (record { disk = 0; start = 0; count = 4096 })) (disks_of (fixture_installed ++ (patch_at 0 0 18 (hex 1 0x00) ∷ []))) ≡ None) × (body_in (site_on (machine_of (disk_with 4096 16 63 ∷ [])) (record { disk = 0; start = 0; count = 4096 })) (disks_of (fixture_installed ++ (patch_at 0 0 18 (hex 1 0x00) ∷ []))) ≡ held 0 0 (file 512 (piece 0 (hex 7 0xeb7e4c494c4f01) ∷ piece 12 (hex 5 0x0100000032) ∷ piece 24 (hex 13 0x038001005e0000000380010062) ∷ piece 48 (hex 21 0x038001005f00000003800100600000000380010061) ∷ piece 128 (replicate 312 144) ∷ piece 450 (hex 10 0x8100000040000000c00f) ∷ piece 510 (hex 2 0x55aa) ∷ [])) ∷ [])
unfolding number16 number32 is_zero has_ranges has_address is_slot is_one_slot chs_of address_of slot_of some_slot slot_at slot_bytes to_chs to_lba sector_at sectors_of place_at slot_make could_be_one link_at section file_content is_bootable has_signature has_options has_names has_slots has_no_message has_whole_message has_message has_zeros is_whole timeout_of table_slots boot_of boot_at is_set entry_name is_printable is_name has_flags has_video has_length has_main has_initrd has_extra is_entry descriptor_of entry_bytes same_name repeats breaks table_at entry_places map_places mapped_sectors is_line line_of line_at line_bytes is_same_line foreign_boot slot_bytes_at map_sectors present_line good_map listed_entries settings_of message_of middle_of image_with_line handed_ending main_of loaded_ending kernel_ending entry_ending chosen_boot decision_at opening_at prompted_boot map_boot whole_boot line_place line_in body_in
state_a_boot_sector_that_breaks_the_format = (refl, refl, refl)

-- a bad table
pub state_a_bad_table : (line_place (site_on (machine_of (disk_with 4096 16 63 ∷ [])) (record { disk = 0; start = 0; count = 4096 })) (disks_of (fixture_installed ++ (patch_at 0 95 0 (hex 1 0x00) ∷ []))) ≡ (Some (record { disk = 0; sector = 94 }))) × (line_in (site_on (machine_of (disk_with 4096 16 63 ∷ [])) (record { disk = 0; start = 0; count = 4096 })) (disks_of (fixture_installed ++ (patch_at 0 95 0 (hex 1 0x00) ∷ []))) ≡ (Some Empty)) × (body_in (site_on (machine_of (disk_with 4096 16 63 ∷ [])) (record { disk = 0; start = 0; count = 4096 })) (disks_of (fixture_installed ++ (patch_at 0 95 0 (hex 1 0x00) ∷ []))) ≡ held 0 0 (file 512 (piece 0 (hex 7 0xeb7e4c494c4f01) ∷ piece 12 (hex 7 0x01000000320001) ∷ piece 24 (hex 13 0x038001005e0000000380010062) ∷ piece 48 (hex 21 0x038001005f00000003800100600000000380010061) ∷ piece 128 (replicate 312 144) ∷ piece 450 (hex 10 0x8100000040000000c00f) ∷ piece 510 (hex 2 0x55aa) ∷ [])) ∷ held 0 95 (file 512 (piece 1 (codes "inux") ∷ piece 16 (hex 39 0x4000000005040000bc020000038001006300000003800100640000000380010065000000010001) ∷ [])) ∷ held 0 96 (file 512 []) ∷ held 0 97 (file 512 []) ∷ [])
unfolding number16 number32 is_zero has_ranges has_address is_slot is_one_slot chs_of address_of slot_of some_slot slot_at slot_bytes to_chs to_lba sector_at sectors_of place_at slot_make could_be_one link_at section file_content is_bootable has_signature has_options has_names has_slots has_no_message has_whole_message has_message has_zeros is_whole timeout_of table_slots boot_of boot_at is_set entry_name is_printable is_name has_flags has_video has_length has_main has_initrd has_extra is_entry descriptor_of entry_bytes same_name repeats breaks table_at entry_places map_places mapped_sectors is_line line_of line_at line_bytes is_same_line foreign_boot slot_bytes_at map_sectors present_line good_map listed_entries settings_of message_of middle_of image_with_line handed_ending main_of loaded_ending kernel_ending entry_ending chosen_boot decision_at opening_at prompted_boot map_boot whole_boot line_place line_in body_in
state_a_bad_table = (refl, refl, refl)

-- Cases of the model, written by tools/model_cases.py: the sectors that a boot may look at.
use Rattle.std.proofs.Common.{◌≡◌, ◌∷◌, ◌++◌, [], replicate, refl}
use Rattle.lilo_model.specs.BootSector.{is_bootable, has_signature, has_options, has_names, has_slots, has_no_message, has_whole_message, has_message, has_zeros, is_whole, timeout_of, table_slots, boot_of, boot_at}
use Rattle.lilo_model.specs.Bytes.{number16, number32, is_zero}
use Rattle.lilo_model.specs.Mapped.{entry_places, map_places, mapped_sectors}
use Rattle.lilo_model.specs.Section.{link_at, section, file_content}
use Rattle.lilo_model.specs.Slots.{has_ranges, has_address, is_slot, is_one_slot, chs_of, address_of, slot_of, some_slot, slot_at, slot_bytes, to_chs, to_lba, sector_at, sectors_of, place_at, slot_make, could_be_one}
use Rattle.lilo_model.specs.Table.{is_set, entry_name, is_printable, is_name, has_flags, has_video, has_length, has_main, has_initrd, has_extra, is_entry, descriptor_of, entry_bytes, same_name, repeats, breaks, table_at}
use Rattle.model_cases.specs.Sparse.{hex, patch_at, disks_of, disk_with, machine_of, on}
use Rattle.model_cases.specs.Fixtures.{fixture_l, fixture_l2, fixture_menu}

-- a foreign boot sector alone
pub mapped_a_foreign_boot_sector_alone : mapped_sectors (disks_of []) (machine_of (disk_with 4096 16 63 ∷ [])) (record { disk = 0; start = 0; count = 4096 }) ≡ on 0 (0 ∷ [])
unfolding number16 number32 is_zero has_ranges has_address is_slot is_one_slot chs_of address_of slot_of some_slot slot_at slot_bytes to_chs to_lba sector_at sectors_of place_at slot_make could_be_one link_at section file_content is_bootable has_signature has_options has_names has_slots has_no_message has_whole_message has_message has_zeros is_whole timeout_of table_slots boot_of boot_at is_set entry_name is_printable is_name has_flags has_video has_length has_main has_initrd has_extra is_entry descriptor_of entry_bytes same_name repeats breaks table_at entry_places map_places mapped_sectors
mapped_a_foreign_boot_sector_alone = refl

-- a boot sector that breaks the format alone
pub mapped_a_boot_sector_that_breaks_the_format_alone : mapped_sectors (disks_of (fixture_l ++ (patch_at 0 0 18 (hex 2 0x0000) ∷ []))) (machine_of (disk_with 4096 16 63 ∷ [])) (record { disk = 0; start = 0; count = 4096 }) ≡ on 0 (0 ∷ [])
unfolding number16 number32 is_zero has_ranges has_address is_slot is_one_slot chs_of address_of slot_of some_slot slot_at slot_bytes to_chs to_lba sector_at sectors_of place_at slot_make could_be_one link_at section file_content is_bootable has_signature has_options has_names has_slots has_no_message has_whole_message has_message has_zeros is_whole timeout_of table_slots boot_of boot_at is_set entry_name is_printable is_name has_flags has_video has_length has_main has_initrd has_extra is_entry descriptor_of entry_bytes same_name repeats breaks table_at entry_places map_places mapped_sectors
mapped_a_boot_sector_that_breaks_the_format_alone = refl

-- a kernel and its initrd
pub mapped_a_kernel_and_its_initrd : mapped_sectors (disks_of fixture_l) (machine_of (disk_with 4096 16 63 ∷ [])) (record { disk = 0; start = 0; count = 4096 }) ≡ on 0 (0 ∷ 94 ∷ 95 ∷ 96 ∷ 97 ∷ 99 ∷ 100 ∷ 82 ∷ 83 ∷ 84 ∷ 101 ∷ 86 ∷ 87 ∷ [])
unfolding number16 number32 is_zero has_ranges has_address is_slot is_one_slot chs_of address_of slot_of some_slot slot_at slot_bytes to_chs to_lba sector_at sectors_of place_at slot_make could_be_one link_at section file_content is_bootable has_signature has_options has_names has_slots has_no_message has_whole_message has_message has_zeros is_whole timeout_of table_slots boot_of boot_at is_set entry_name is_printable is_name has_flags has_video has_length has_main has_initrd has_extra is_entry descriptor_of entry_bytes same_name repeats breaks table_at entry_places map_places mapped_sectors
mapped_a_kernel_and_its_initrd = refl

-- a kernel
pub mapped_a_kernel : mapped_sectors (disks_of fixture_l2) (machine_of (disk_with 4096 16 63 ∷ [])) (record { disk = 0; start = 0; count = 4096 }) ≡ on 0 (0 ∷ 94 ∷ 95 ∷ 96 ∷ 97 ∷ 99 ∷ 100 ∷ 82 ∷ 83 ∷ 84 ∷ [])
unfolding number16 number32 is_zero has_ranges has_address is_slot is_one_slot chs_of address_of slot_of some_slot slot_at slot_bytes to_chs to_lba sector_at sectors_of place_at slot_make could_be_one link_at section file_content is_bootable has_signature has_options has_names has_slots has_no_message has_whole_message has_message has_zeros is_whole timeout_of table_slots boot_of boot_at is_set entry_name is_printable is_name has_flags has_video has_length has_main has_initrd has_extra is_entry descriptor_of entry_bytes same_name repeats breaks table_at entry_places map_places mapped_sectors
mapped_a_kernel = refl

-- six entries and a message on two disks
pub mapped_six_entries_and_a_message_on_two_disks : mapped_sectors (disks_of fixture_menu) (machine_of (disk_with 4096 16 63 ∷ disk_with 2000 4 17 ∷ [])) (record { disk = 0; start = 0; count = 4096 }) ≡ on 0 (0 ∷ 94 ∷ 95 ∷ 96 ∷ 97 ∷ 110 ∷ 111 ∷ 120 ∷ 121 ∷ 99 ∷ 100 ∷ 82 ∷ 83 ∷ 84 ∷ 101 ∷ 86 ∷ 87 ∷ 102 ∷ 104 ∷ 103 ∷ 82 ∷ 83 ∷ 84 ∷ 99 ∷ 106 ∷ 105 ∷ 82 ∷ 83 ∷ 84 ∷ 107 ∷ 108 ∷ 124 ∷ 125 ∷ 98 ∷ 109 ∷ 112 ∷ []) ++ on 1 (63 ∷ 0 ∷ []) ++ on 0 (109 ∷ 114 ∷ 113 ∷ []) ++ on 1 (17 ∷ [])
unfolding number16 number32 is_zero has_ranges has_address is_slot is_one_slot chs_of address_of slot_of some_slot slot_at slot_bytes to_chs to_lba sector_at sectors_of place_at slot_make could_be_one link_at section file_content is_bootable has_signature has_options has_names has_slots has_no_message has_whole_message has_message has_zeros is_whole timeout_of table_slots boot_of boot_at is_set entry_name is_printable is_name has_flags has_video has_length has_main has_initrd has_extra is_entry descriptor_of entry_bytes same_name repeats breaks table_at entry_places map_places mapped_sectors
mapped_six_entries_and_a_message_on_two_disks = refl

-- a bad table
pub mapped_a_bad_table : mapped_sectors (disks_of (fixture_l ++ (patch_at 0 95 0 (hex 1 0x00) ∷ []))) (machine_of (disk_with 4096 16 63 ∷ [])) (record { disk = 0; start = 0; count = 4096 }) ≡ on 0 (0 ∷ 94 ∷ 95 ∷ 96 ∷ 97 ∷ [])
unfolding number16 number32 is_zero has_ranges has_address is_slot is_one_slot chs_of address_of slot_of some_slot slot_at slot_bytes to_chs to_lba sector_at sectors_of place_at slot_make could_be_one link_at section file_content is_bootable has_signature has_options has_names has_slots has_no_message has_whole_message has_message has_zeros is_whole timeout_of table_slots boot_of boot_at is_set entry_name is_printable is_name has_flags has_video has_length has_main has_initrd has_extra is_entry descriptor_of entry_bytes same_name repeats breaks table_at entry_places map_places mapped_sectors
mapped_a_bad_table = refl

-- a bad default line changes nothing
pub mapped_a_bad_default_line_changes_nothing : mapped_sectors (disks_of (fixture_l ++ (patch_at 0 94 0 (hex 1 0x00) ∷ []))) (machine_of (disk_with 4096 16 63 ∷ [])) (record { disk = 0; start = 0; count = 4096 }) ≡ on 0 (0 ∷ 94 ∷ 95 ∷ 96 ∷ 97 ∷ 99 ∷ 100 ∷ 82 ∷ 83 ∷ 84 ∷ 101 ∷ 86 ∷ 87 ∷ [])
unfolding number16 number32 is_zero has_ranges has_address is_slot is_one_slot chs_of address_of slot_of some_slot slot_at slot_bytes to_chs to_lba sector_at sectors_of place_at slot_make could_be_one link_at section file_content is_bootable has_signature has_options has_names has_slots has_no_message has_whole_message has_message has_zeros is_whole timeout_of table_slots boot_of boot_at is_set entry_name is_printable is_name has_flags has_video has_length has_main has_initrd has_extra is_entry descriptor_of entry_bytes same_name repeats breaks table_at entry_places map_places mapped_sectors
mapped_a_bad_default_line_changes_nothing = refl

-- a default line that is absent
pub mapped_a_default_line_that_is_absent : mapped_sectors (disks_of (fixture_l ++ (patch_at 0 0 24 (hex 8 0x0380010000100000) ∷ []))) (machine_of (disk_with 4096 16 63 ∷ [])) (record { disk = 0; start = 0; count = 4096 }) ≡ on 0 (0 ∷ 95 ∷ 96 ∷ 97 ∷ 99 ∷ 100 ∷ 82 ∷ 83 ∷ 84 ∷ 101 ∷ 86 ∷ 87 ∷ [])
unfolding number16 number32 is_zero has_ranges has_address is_slot is_one_slot chs_of address_of slot_of some_slot slot_at slot_bytes to_chs to_lba sector_at sectors_of place_at slot_make could_be_one link_at section file_content is_bootable has_signature has_options has_names has_slots has_no_message has_whole_message has_message has_zeros is_whole timeout_of table_slots boot_of boot_at is_set entry_name is_printable is_name has_flags has_video has_length has_main has_initrd has_extra is_entry descriptor_of entry_bytes same_name repeats breaks table_at entry_places map_places mapped_sectors
mapped_a_default_line_that_is_absent = refl

-- a last table sector that is absent
pub mapped_a_last_table_sector_that_is_absent : mapped_sectors (disks_of (fixture_l ++ (patch_at 0 0 64 (hex 8 0x0380010000100000) ∷ []))) (machine_of (disk_with 4096 16 63 ∷ [])) (record { disk = 0; start = 0; count = 4096 }) ≡ on 0 (0 ∷ 94 ∷ 95 ∷ 96 ∷ [])
unfolding number16 number32 is_zero has_ranges has_address is_slot is_one_slot chs_of address_of slot_of some_slot slot_at slot_bytes to_chs to_lba sector_at sectors_of place_at slot_make could_be_one link_at section file_content is_bootable has_signature has_options has_names has_slots has_no_message has_whole_message has_message has_zeros is_whole timeout_of table_slots boot_of boot_at is_set entry_name is_printable is_name has_flags has_video has_length has_main has_initrd has_extra is_entry descriptor_of entry_bytes same_name repeats breaks table_at entry_places map_places mapped_sectors
mapped_a_last_table_sector_that_is_absent = refl

-- an initrd counts although its kernel is refused
pub mapped_an_initrd_counts_although_its_kernel_is_refused : mapped_sectors (disks_of (fixture_l ++ (patch_at 0 100 8 (hex 1 0xff) ∷ []))) (machine_of (disk_with 4096 16 63 ∷ [])) (record { disk = 0; start = 0; count = 4096 }) ≡ on 0 (0 ∷ 94 ∷ 95 ∷ 96 ∷ 97 ∷ 99 ∷ 100 ∷ 82 ∷ 101 ∷ 86 ∷ 87 ∷ [])
unfolding number16 number32 is_zero has_ranges has_address is_slot is_one_slot chs_of address_of slot_of some_slot slot_at slot_bytes to_chs to_lba sector_at sectors_of place_at slot_make could_be_one link_at section file_content is_bootable has_signature has_options has_names has_slots has_no_message has_whole_message has_message has_zeros is_whole timeout_of table_slots boot_of boot_at is_set entry_name is_printable is_name has_flags has_video has_length has_main has_initrd has_extra is_entry descriptor_of entry_bytes same_name repeats breaks table_at entry_places map_places mapped_sectors
mapped_an_initrd_counts_although_its_kernel_is_refused = refl

-- a section that links to itself
pub mapped_a_section_that_links_to_itself : mapped_sectors (disks_of (fixture_l2 ++ (patch_at 0 100 16 (replicate 8 0) ∷ patch_at 0 100 504 (hex 8 0x0380010064000000) ∷ patch_at 0 95 52 (hex 2 0x0300) ∷ []))) (machine_of (disk_with 4096 16 63 ∷ [])) (record { disk = 0; start = 0; count = 4096 }) ≡ on 0 (0 ∷ 94 ∷ 95 ∷ 96 ∷ 97 ∷ 99 ∷ 100 ∷ 100 ∷ 82 ∷ 83 ∷ 82 ∷ [])
unfolding number16 number32 is_zero has_ranges has_address is_slot is_one_slot chs_of address_of slot_of some_slot slot_at slot_bytes to_chs to_lba sector_at sectors_of place_at slot_make could_be_one link_at section file_content is_bootable has_signature has_options has_names has_slots has_no_message has_whole_message has_message has_zeros is_whole timeout_of table_slots boot_of boot_at is_set entry_name is_printable is_name has_flags has_video has_length has_main has_initrd has_extra is_entry descriptor_of entry_bytes same_name repeats breaks table_at entry_places map_places mapped_sectors
mapped_a_section_that_links_to_itself = refl

-- options that are absent
pub mapped_options_that_are_absent : mapped_sectors (disks_of (fixture_menu ++ (patch_at 0 95 28 (hex 8 0x0380010000100000) ∷ []))) (machine_of (disk_with 4096 16 63 ∷ disk_with 2000 4 17 ∷ [])) (record { disk = 0; start = 0; count = 4096 }) ≡ on 0 (0 ∷ 94 ∷ 95 ∷ 96 ∷ 97 ∷ 110 ∷ 111 ∷ 120 ∷ 121 ∷ 100 ∷ 82 ∷ 83 ∷ 84 ∷ 101 ∷ 86 ∷ 87 ∷ 102 ∷ 104 ∷ 103 ∷ 82 ∷ 83 ∷ 84 ∷ 99 ∷ 106 ∷ 105 ∷ 82 ∷ 83 ∷ 84 ∷ 107 ∷ 108 ∷ 124 ∷ 125 ∷ 98 ∷ 109 ∷ 112 ∷ []) ++ on 1 (63 ∷ 0 ∷ []) ++ on 0 (109 ∷ 114 ∷ 113 ∷ []) ++ on 1 (17 ∷ [])
unfolding number16 number32 is_zero has_ranges has_address is_slot is_one_slot chs_of address_of slot_of some_slot slot_at slot_bytes to_chs to_lba sector_at sectors_of place_at slot_make could_be_one link_at section file_content is_bootable has_signature has_options has_names has_slots has_no_message has_whole_message has_message has_zeros is_whole timeout_of table_slots boot_of boot_at is_set entry_name is_printable is_name has_flags has_video has_length has_main has_initrd has_extra is_entry descriptor_of entry_bytes same_name repeats breaks table_at entry_places map_places mapped_sectors
mapped_options_that_are_absent = refl

-- a message that ends too early
pub mapped_a_message_that_ends_too_early : mapped_sectors (disks_of (fixture_menu ++ (patch_at 0 110 504 (replicate 8 0) ∷ []))) (machine_of (disk_with 4096 16 63 ∷ disk_with 2000 4 17 ∷ [])) (record { disk = 0; start = 0; count = 4096 }) ≡ on 0 (0 ∷ 94 ∷ 95 ∷ 96 ∷ 97 ∷ 110 ∷ 120 ∷ 99 ∷ 100 ∷ 82 ∷ 83 ∷ 84 ∷ 101 ∷ 86 ∷ 87 ∷ 102 ∷ 104 ∷ 103 ∷ 82 ∷ 83 ∷ 84 ∷ 99 ∷ 106 ∷ 105 ∷ 82 ∷ 83 ∷ 84 ∷ 107 ∷ 108 ∷ 124 ∷ 125 ∷ 98 ∷ 109 ∷ 112 ∷ []) ++ on 1 (63 ∷ 0 ∷ []) ++ on 0 (109 ∷ 114 ∷ 113 ∷ []) ++ on 1 (17 ∷ [])
unfolding number16 number32 is_zero has_ranges has_address is_slot is_one_slot chs_of address_of slot_of some_slot slot_at slot_bytes to_chs to_lba sector_at sectors_of place_at slot_make could_be_one link_at section file_content is_bootable has_signature has_options has_names has_slots has_no_message has_whole_message has_message has_zeros is_whole timeout_of table_slots boot_of boot_at is_set entry_name is_printable is_name has_flags has_video has_length has_main has_initrd has_extra is_entry descriptor_of entry_bytes same_name repeats breaks table_at entry_places map_places mapped_sectors
mapped_a_message_that_ends_too_early = refl

-- a first table sector past the disk
pub mapped_a_first_table_sector_past_the_disk : mapped_sectors (disks_of (fixture_l2 ++ (patch_at 0 0 48 (hex 8 0x0380010000100000) ∷ []))) (machine_of (disk_with 4096 16 63 ∷ [])) (record { disk = 0; start = 0; count = 4096 }) ≡ on 0 (0 ∷ 94 ∷ [])
unfolding number16 number32 is_zero has_ranges has_address is_slot is_one_slot chs_of address_of slot_of some_slot slot_at slot_bytes to_chs to_lba sector_at sectors_of place_at slot_make could_be_one link_at section file_content is_bootable has_signature has_options has_names has_slots has_no_message has_whole_message has_message has_zeros is_whole timeout_of table_slots boot_of boot_at is_set entry_name is_printable is_name has_flags has_video has_length has_main has_initrd has_extra is_entry descriptor_of entry_bytes same_name repeats breaks table_at entry_places map_places mapped_sectors
mapped_a_first_table_sector_past_the_disk = refl

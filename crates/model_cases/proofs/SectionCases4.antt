-- Cases of the model, written by tools/model_cases.py: the sectors that a section lists.
use Rattle.std.proofs.Common.{◌≡◌, ◌∷◌, ◌++◌, [], None, Some, refl}
use Rattle.lilo_model.specs.Bytes.{number16, number32, is_zero}
use Rattle.lilo_model.specs.Section.{link_at, section, file_content, BadSlot, ChainTooLong, NotFound}
use Rattle.lilo_model.specs.Slots.{has_ranges, has_address, is_slot, is_one_slot, chs_of, address_of, slot_of, some_slot, slot_at, slot_bytes, to_chs, to_lba, sector_at, sectors_of, place_at, slot_make, could_be_one, Lba32}
use Rattle.model_cases.specs.Sparse.{hex, patch_at, disks_of, disk_with, machine_of, on}

-- 7 sectors in at most 1 section sector: too many links
pub section_7_sectors_in_at_most_1_section_sector_too_many_links_3 : section (disks_of (patch_at 0 34 504 (hex 8 0x0380010022000000) ∷ [])) (machine_of (disk_with 1200 1 1 ∷ [])) (record { disk = 0; count = 1; address = Lba32 34 }) 7 1 ≡ record { places = []; looked = (on 0 (34 ∷ [])); refusal = (Some (ChainTooLong 1)) }
unfolding number16 number32 is_zero has_ranges has_address is_slot is_one_slot chs_of address_of slot_of some_slot slot_at slot_bytes to_chs to_lba sector_at sectors_of place_at slot_make could_be_one link_at section file_content
section_7_sectors_in_at_most_1_section_sector_too_many_links_3 = refl

-- 10 sectors in at most 1 section sector: a sector that is absent
pub section_10_sectors_in_at_most_1_section_sector_a_sector_that_is_absent_6 : section (disks_of (patch_at 0 29 0 (hex 24 0x0180010006070000038002004002000003800400bb020000) ∷ patch_at 0 29 504 (hex 8 0x038001001d000000) ∷ [])) (machine_of (disk_with 700 4 17 ∷ disk_with 0 16 63 ∷ disk_with 900 16 63 ∷ [])) (record { disk = 0; count = 1; address = Lba32 29 }) 10 1 ≡ record { places = (on 0 (481 ∷ 576 ∷ 577 ∷ 699 ∷ [])); looked = (on 0 (29 ∷ [])); refusal = (Some NotFound) }
unfolding number16 number32 is_zero has_ranges has_address is_slot is_one_slot chs_of address_of slot_of some_slot slot_at slot_bytes to_chs to_lba sector_at sectors_of place_at slot_make could_be_one link_at section file_content
section_10_sectors_in_at_most_1_section_sector_a_sector_that_is_absent_6 = refl

-- 10 sectors in at most 3 section sectors: too many links
pub section_10_sectors_in_at_most_3_section_sectors_too_many_links : section (disks_of (patch_at 1 49 0 (hex 8 0x0180020007060100) ∷ patch_at 1 49 504 (hex 8 0x038001003d000000) ∷ patch_at 0 61 0 (hex 8 0x0380030069000000) ∷ patch_at 0 61 504 (hex 8 0x0381010085000000) ∷ patch_at 1 133 504 (hex 8 0x0381010031000000) ∷ [])) (machine_of (disk_with 300 2 9 ∷ disk_with 5000 255 63 ∷ [])) (record { disk = 1; count = 1; address = Lba32 49 }) 10 3 ≡ record { places = (on 0 (123 ∷ 124 ∷ 105 ∷ 106 ∷ 107 ∷ [])); looked = (on 1 (49 ∷ []) ++ on 0 (61 ∷ []) ++ on 1 (133 ∷ [])); refusal = (Some (ChainTooLong 3)) }
unfolding number16 number32 is_zero has_ranges has_address is_slot is_one_slot chs_of address_of slot_of some_slot slot_at slot_bytes to_chs to_lba sector_at sectors_of place_at slot_make could_be_one link_at section file_content
section_10_sectors_in_at_most_3_section_sectors_too_many_links = refl

-- 2 sectors in at most 4 section sectors: a sector that is absent
pub section_2_sectors_in_at_most_4_section_sectors_a_sector_that_is_absent : section (disks_of (patch_at 0 51 0 (hex 24 0x0181010001000000018104000100000003800300ae020000) ∷ patch_at 0 51 504 (hex 8 0x0382010063000000) ∷ patch_at 2 99 0 (hex 40 0xb9d5e7c2bd712c580180020001050200038204003602000003810100000000000383030083030000) ∷ patch_at 2 99 504 (hex 8 0x038002001e000000) ∷ patch_at 0 114 0 (hex 8 0x03800200a0000000) ∷ [])) (machine_of (disk_with 700 4 17 ∷ disk_with 0 16 63 ∷ disk_with 900 16 63 ∷ [])) (record { disk = 0; count = 1; address = Lba32 51 }) 2 4 ≡ record { places = []; looked = (on 0 (51 ∷ [])); refusal = (Some NotFound) }
unfolding number16 number32 is_zero has_ranges has_address is_slot is_one_slot chs_of address_of slot_of some_slot slot_at slot_bytes to_chs to_lba sector_at sectors_of place_at slot_make could_be_one link_at section file_content
section_2_sectors_in_at_most_4_section_sectors_a_sector_that_is_absent = refl

-- 1 sectors in at most 1 section sector: a bad slot
pub section_1_sectors_in_at_most_1_section_sector_a_bad_slot : section (disks_of (patch_at 0 22 504 (hex 8 0x038002001e000000) ∷ [])) (machine_of (disk_with 300 2 9 ∷ disk_with 5000 255 63 ∷ [])) (record { disk = 0; count = 1; address = Lba32 22 }) 1 1 ≡ record { places = []; looked = (on 0 (22 ∷ [])); refusal = (Some (BadSlot 63)) }
unfolding number16 number32 is_zero has_ranges has_address is_slot is_one_slot chs_of address_of slot_of some_slot slot_at slot_bytes to_chs to_lba sector_at sectors_of place_at slot_make could_be_one link_at section file_content
section_1_sectors_in_at_most_1_section_sector_a_bad_slot = refl

-- 10 sectors in at most 2 section sectors: all are named
pub section_10_sectors_in_at_most_2_section_sectors_all_are_named : section (disks_of (patch_at 1 59 0 (hex 8 0x03800400d1000000) ∷ patch_at 1 59 504 (hex 8 0x0381010047000000) ∷ patch_at 1 71 0 (hex 64 0x0380040067000000028001009500000002800100e1000000038101008d020000038001002401000003830100911100000380040011010000038301009f090000) ∷ patch_at 1 71 504 (hex 8 0x0380010100000000) ∷ [])) (machine_of (disk_with 300 2 9 ∷ disk_with 5000 255 63 ∷ [])) (record { disk = 1; count = 1; address = Lba32 59 }) 10 2 ≡ record { places = (on 0 (209 ∷ 210 ∷ 211 ∷ 212 ∷ 103 ∷ 104 ∷ 105 ∷ 106 ∷ 149 ∷ 225 ∷ [])); looked = (on 1 (59 ∷ 71 ∷ [])); refusal = None }
unfolding number16 number32 is_zero has_ranges has_address is_slot is_one_slot chs_of address_of slot_of some_slot slot_at slot_bytes to_chs to_lba sector_at sectors_of place_at slot_make could_be_one link_at section file_content
section_10_sectors_in_at_most_2_section_sectors_all_are_named = refl

-- 15 sectors in at most 1 section sector: a sector that is absent
pub section_15_sectors_in_at_most_1_section_sector_a_sector_that_is_absent_7 : section (disks_of (patch_at 1 36 0 (hex 40 0x038002002b0100000180020002100000038102002f000000038001000e0100000181010025004d00) ∷ patch_at 1 36 504 (hex 8 0x038002001e000000) ∷ patch_at 0 69 0 (hex 40 0x038001005800000003810100ae07000003800200fd0000000381010087130000038003002b010000) ∷ patch_at 0 69 504 (hex 8 0x0380010100000000) ∷ patch_at 0 101 0 (hex 64 0x02800300a4000000018101002f001d0003830300e8110000038003002d000000038103007502000002810200450d00000181020039001200028101006e050000) ∷ [])) (machine_of (disk_with 300 2 9 ∷ disk_with 5000 255 63 ∷ [])) (record { disk = 1; count = 1; address = Lba32 36 }) 15 1 ≡ record { places = (on 0 (299 ∷ [])); looked = (on 1 (36 ∷ [])); refusal = (Some NotFound) }
unfolding number16 number32 is_zero has_ranges has_address is_slot is_one_slot chs_of address_of slot_of some_slot slot_at slot_bytes to_chs to_lba sector_at sectors_of place_at slot_make could_be_one link_at section file_content
section_15_sectors_in_at_most_1_section_sector_a_sector_that_is_absent_7 = refl

-- 7 sectors in at most 1 section sector: all are named
pub section_7_sectors_in_at_most_1_section_sector_all_are_named_2 : section (disks_of (patch_at 0 56 0 (hex 64 0x03800400ad0d000003800100b800000003800100e7080000038001008c0c0000018304002d00070003800400590a0000028001000f07000003800100ff0f0000) ∷ [])) (machine_of (disk_with 4096 16 63 ∷ [])) (record { disk = 0; count = 1; address = Lba32 56 }) 7 1 ≡ record { places = (on 0 (3501 ∷ 3502 ∷ 3503 ∷ 3504 ∷ 184 ∷ 2279 ∷ 3212 ∷ [])); looked = (on 0 (56 ∷ [])); refusal = None }
unfolding number16 number32 is_zero has_ranges has_address is_slot is_one_slot chs_of address_of slot_of some_slot slot_at slot_bytes to_chs to_lba sector_at sectors_of place_at slot_make could_be_one link_at section file_content
section_7_sectors_in_at_most_1_section_sector_all_are_named_2 = refl

-- 15 sectors in at most 1 section sector: too many links
pub section_15_sectors_in_at_most_1_section_sector_too_many_links_3 : section (disks_of (patch_at 0 35 0 (hex 64 0x03810100a10e0000028001002d0000000281010059020000018104000500000003800200cb000000038002007500000003800100de000000038001008b000000) ∷ patch_at 0 35 504 (hex 8 0x038001009f860100) ∷ [])) (machine_of (disk_with 300 2 9 ∷ disk_with 5000 255 63 ∷ [])) (record { disk = 0; count = 1; address = Lba32 35 }) 15 1 ≡ record { places = (on 1 (3745 ∷ []) ++ on 0 (45 ∷ []) ++ on 1 (601 ∷ 4 ∷ 5 ∷ 6 ∷ 7 ∷ []) ++ on 0 (203 ∷ 204 ∷ 117 ∷ 118 ∷ 222 ∷ 139 ∷ [])); looked = (on 0 (35 ∷ [])); refusal = (Some (ChainTooLong 1)) }
unfolding number16 number32 is_zero has_ranges has_address is_slot is_one_slot chs_of address_of slot_of some_slot slot_at slot_bytes to_chs to_lba sector_at sectors_of place_at slot_make could_be_one link_at section file_content
section_15_sectors_in_at_most_1_section_sector_too_many_links_3 = refl

-- 1 sectors in at most 2 section sectors: all are named
pub section_1_sectors_in_at_most_2_section_sectors_all_are_named_3 : section (disks_of (patch_at 0 37 0 (hex 24 0x03800300f500000002810300b90f000003810200220e0000) ∷ patch_at 0 37 504 (hex 8 0x0380010061000000) ∷ patch_at 0 97 0 (hex 40 0x03810400e90700000381010002100000018101002c002500038004000100000001800100040f0100) ∷ [])) (machine_of (disk_with 300 2 9 ∷ disk_with 5000 255 63 ∷ [])) (record { disk = 0; count = 1; address = Lba32 37 }) 1 2 ≡ record { places = (on 0 (245 ∷ [])); looked = (on 0 (37 ∷ [])); refusal = None }
unfolding number16 number32 is_zero has_ranges has_address is_slot is_one_slot chs_of address_of slot_of some_slot slot_at slot_bytes to_chs to_lba sector_at sectors_of place_at slot_make could_be_one link_at section file_content
section_1_sectors_in_at_most_2_section_sectors_all_are_named_3 = refl

-- 4 sectors in at most 1 section sector: all are named
pub section_4_sectors_in_at_most_1_section_sector_all_are_named_5 : section (disks_of (patch_at 0 57 0 (hex 40 0x03800100ef05000003800200240f0000028004005d0b000003800100a70600000280010041050000) ∷ [])) (machine_of (disk_with 4096 16 63 ∷ [])) (record { disk = 0; count = 1; address = Lba32 57 }) 4 1 ≡ record { places = (on 0 (1519 ∷ 3876 ∷ 3877 ∷ 2909 ∷ [])); looked = (on 0 (57 ∷ [])); refusal = None }
unfolding number16 number32 is_zero has_ranges has_address is_slot is_one_slot chs_of address_of slot_of some_slot slot_at slot_bytes to_chs to_lba sector_at sectors_of place_at slot_make could_be_one link_at section file_content
section_4_sectors_in_at_most_1_section_sector_all_are_named_5 = refl

-- 15 sectors in at most 3 section sectors: a sector that is absent
pub section_15_sectors_in_at_most_3_section_sectors_a_sector_that_is_absent : section (disks_of (patch_at 1 38 0 (hex 16 0x03800100690000000180020007010100) ∷ patch_at 1 38 504 (hex 8 0x0381010060000000) ∷ patch_at 1 96 0 (hex 8 0x0180040009030100) ∷ patch_at 1 96 504 (hex 8 0x038101006b000000) ∷ patch_at 1 107 0 (hex 64 0x01800100020b000002800300750000000180020007040100ec1bc5f2f98ef1c703810100750400000380010094000000028101006613000003810100ae030000) ∷ [])) (machine_of (disk_with 300 2 9 ∷ disk_with 5000 255 63 ∷ [])) (record { disk = 1; count = 1; address = Lba32 38 }) 15 3 ≡ record { places = (on 0 (105 ∷ 33 ∷ 34 ∷ 71 ∷ [])); looked = (on 1 (38 ∷ 96 ∷ [])); refusal = (Some NotFound) }
unfolding number16 number32 is_zero has_ranges has_address is_slot is_one_slot chs_of address_of slot_of some_slot slot_at slot_bytes to_chs to_lba sector_at sectors_of place_at slot_make could_be_one link_at section file_content
section_15_sectors_in_at_most_3_section_sectors_a_sector_that_is_absent = refl

-- 2 sectors in at most 3 section sectors: all are named
pub section_2_sectors_in_at_most_3_section_sectors_all_are_named_2 : section (disks_of (patch_at 0 37 504 (hex 8 0x038001003d000000) ∷ patch_at 0 61 0 (hex 24 0x03800300800c0000018003001502020002800200c2000000) ∷ [])) (machine_of (disk_with 4096 16 63 ∷ [])) (record { disk = 0; count = 1; address = Lba32 37 }) 2 3 ≡ record { places = (on 0 (3200 ∷ 3201 ∷ [])); looked = (on 0 (37 ∷ 61 ∷ [])); refusal = None }
unfolding number16 number32 is_zero has_ranges has_address is_slot is_one_slot chs_of address_of slot_of some_slot slot_at slot_bytes to_chs to_lba sector_at sectors_of place_at slot_make could_be_one link_at section file_content
section_2_sectors_in_at_most_3_section_sectors_all_are_named_2 = refl

-- 7 sectors in at most 3 section sectors: too many links
pub section_7_sectors_in_at_most_3_section_sectors_too_many_links : section (disks_of (patch_at 1 20 0 (hex 8 0x038102001a070000) ∷ patch_at 1 20 504 (hex 8 0x038001005a000000) ∷ patch_at 0 90 504 (hex 8 0x0381010014000000) ∷ [])) (machine_of (disk_with 300 2 9 ∷ disk_with 5000 255 63 ∷ [])) (record { disk = 1; count = 1; address = Lba32 20 }) 7 3 ≡ record { places = (on 1 (1818 ∷ 1819 ∷ 1818 ∷ 1819 ∷ [])); looked = (on 1 (20 ∷ []) ++ on 0 (90 ∷ []) ++ on 1 (20 ∷ [])); refusal = (Some (ChainTooLong 3)) }
unfolding number16 number32 is_zero has_ranges has_address is_slot is_one_slot chs_of address_of slot_of some_slot slot_at slot_bytes to_chs to_lba sector_at sectors_of place_at slot_make could_be_one link_at section file_content
section_7_sectors_in_at_most_3_section_sectors_too_many_links = refl

-- 7 sectors in at most 2 section sectors: all are named
pub section_7_sectors_in_at_most_2_section_sectors_all_are_named : section (disks_of (patch_at 0 20 0 (hex 24 0x0380020047020000038004006600000002800100c0030000) ∷ patch_at 0 20 504 (hex 8 0x0380010014000000) ∷ [])) (machine_of (disk_with 1200 1 1 ∷ [])) (record { disk = 0; count = 1; address = Lba32 20 }) 7 2 ≡ record { places = (on 0 (583 ∷ 584 ∷ 102 ∷ 103 ∷ 104 ∷ 105 ∷ 960 ∷ [])); looked = (on 0 (20 ∷ [])); refusal = None }
unfolding number16 number32 is_zero has_ranges has_address is_slot is_one_slot chs_of address_of slot_of some_slot slot_at slot_bytes to_chs to_lba sector_at sectors_of place_at slot_make could_be_one link_at section file_content
section_7_sectors_in_at_most_2_section_sectors_all_are_named = refl

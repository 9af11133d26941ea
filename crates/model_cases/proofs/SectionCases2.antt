-- Cases of the model, written by tools/model_cases.py: the sectors that a section lists.
use Rattle.std.proofs.Common.{◌≡◌, ◌∷◌, ◌++◌, [], None, Some, refl}
use Rattle.lilo_model.specs.Bytes.{number16, number32, is_zero}
use Rattle.lilo_model.specs.Section.{link_at, section, file_content, BadSlot, ChainTooLong, ShortChain, NotFound}
use Rattle.lilo_model.specs.Slots.{has_ranges, has_address, is_slot, is_one_slot, chs_of, address_of, slot_of, some_slot, slot_at, slot_bytes, to_chs, to_lba, sector_at, sectors_of, place_at, slot_make, could_be_one, Lba32}
use Rattle.model_cases.specs.Sparse.{hex, patch_at, disks_of, disk_with, machine_of, on}

-- 2 sectors in at most 1 section sector: all are named
pub section_2_sectors_in_at_most_1_section_sector_all_are_named_2 : section (disks_of (patch_at 0 20 0 (hex 16 0x038002001404000002800200af040000) ∷ patch_at 0 20 504 (hex 8 0x0380010014000000) ∷ [])) (machine_of (disk_with 1200 1 1 ∷ [])) (record { disk = 0; count = 1; address = Lba32 20 }) 2 1 ≡ record { places = (on 0 (1044 ∷ 1045 ∷ [])); looked = (on 0 (20 ∷ [])); refusal = None }
unfolding number16 number32 is_zero has_ranges has_address is_slot is_one_slot chs_of address_of slot_of some_slot slot_at slot_bytes to_chs to_lba sector_at sectors_of place_at slot_make could_be_one link_at section file_content
section_2_sectors_in_at_most_1_section_sector_all_are_named_2 = refl

-- 10 sectors in at most 1 section sector: a bad slot
pub section_10_sectors_in_at_most_1_section_sector_a_bad_slot : section (disks_of (patch_at 0 20 504 (hex 8 0x038002001e000000) ∷ [])) (machine_of (disk_with 1200 1 1 ∷ [])) (record { disk = 0; count = 1; address = Lba32 20 }) 10 1 ≡ record { places = []; looked = (on 0 (20 ∷ [])); refusal = (Some (BadSlot 63)) }
unfolding number16 number32 is_zero has_ranges has_address is_slot is_one_slot chs_of address_of slot_of some_slot slot_at slot_bytes to_chs to_lba sector_at sectors_of place_at slot_make could_be_one link_at section file_content
section_10_sectors_in_at_most_1_section_sector_a_bad_slot = refl

-- 15 sectors in at most 4 section sectors: an end after 9
pub section_15_sectors_in_at_most_4_section_sectors_an_end_after_9 : section (disks_of (patch_at 1 41 0 (hex 16 0x028103009c0f000003810100450e0000) ∷ patch_at 1 41 504 (hex 8 0x0380010059000000) ∷ patch_at 0 89 0 (hex 8 0x03800100ba000000) ∷ patch_at 0 89 504 (hex 8 0x0381010073000000) ∷ patch_at 1 115 0 (hex 8 0x0180040001000000) ∷ [])) (machine_of (disk_with 300 2 9 ∷ disk_with 5000 255 63 ∷ [])) (record { disk = 1; count = 1; address = Lba32 41 }) 15 4 ≡ record { places = (on 1 (3996 ∷ 3997 ∷ 3998 ∷ 3653 ∷ []) ++ on 0 (186 ∷ 0 ∷ 1 ∷ 2 ∷ 3 ∷ [])); looked = (on 1 (41 ∷ []) ++ on 0 (89 ∷ []) ++ on 1 (115 ∷ [])); refusal = (Some (ShortChain 9)) }
unfolding number16 number32 is_zero has_ranges has_address is_slot is_one_slot chs_of address_of slot_of some_slot slot_at slot_bytes to_chs to_lba sector_at sectors_of place_at slot_make could_be_one link_at section file_content
section_15_sectors_in_at_most_4_section_sectors_an_end_after_9 = refl

-- 4 sectors in at most 4 section sectors: a sector that is absent
pub section_4_sectors_in_at_most_4_section_sectors_a_sector_that_is_absent : section (disks_of (patch_at 0 25 0 (hex 8 0x02830400f4010000) ∷ patch_at 0 25 504 (hex 8 0x038001005f000000) ∷ patch_at 0 95 0 (hex 24 0x03800100cb03000003800300af040000028004004d010000) ∷ patch_at 0 95 504 (hex 8 0x0380010071000000) ∷ patch_at 0 113 0 (hex 16 0x03800300f8000000fb2df02326c11e2c) ∷ patch_at 0 113 504 (hex 8 0x0380010019000000) ∷ [])) (machine_of (disk_with 1200 1 1 ∷ [])) (record { disk = 0; count = 1; address = Lba32 25 }) 4 4 ≡ record { places = []; looked = (on 0 (25 ∷ [])); refusal = (Some NotFound) }
unfolding number16 number32 is_zero has_ranges has_address is_slot is_one_slot chs_of address_of slot_of some_slot slot_at slot_bytes to_chs to_lba sector_at sectors_of place_at slot_make could_be_one link_at section file_content
section_4_sectors_in_at_most_4_section_sectors_a_sector_that_is_absent = refl

-- 15 sectors in at most 1 section sector: a bad slot
pub section_15_sectors_in_at_most_1_section_sector_a_bad_slot : section (disks_of (patch_at 0 35 0 (hex 40 0x589457e0fade76c703800100690a00000380010060070000018004002e000f000383010092010000) ∷ [])) (machine_of (disk_with 4096 16 63 ∷ [])) (record { disk = 0; count = 1; address = Lba32 35 }) 15 1 ≡ record { places = []; looked = (on 0 (35 ∷ [])); refusal = (Some (BadSlot 0)) }
unfolding number16 number32 is_zero has_ranges has_address is_slot is_one_slot chs_of address_of slot_of some_slot slot_at slot_bytes to_chs to_lba sector_at sectors_of place_at slot_make could_be_one link_at section file_content
section_15_sectors_in_at_most_1_section_sector_a_bad_slot = refl

-- 15 sectors in at most 1 section sector: a sector that is absent
pub section_15_sectors_in_at_most_1_section_sector_a_sector_that_is_absent : section (disks_of (patch_at 0 23 0 (hex 40 0x0183030017004f00028101000b0f0000038102005c120000038003001b0100000181010033004200) ∷ patch_at 0 23 504 (hex 8 0x038101003c000000) ∷ patch_at 1 60 0 (hex 64 0x0380010054000000038002002b010000018101003a001a00038003009c0000000181010017004f00038103003b040000018102001200380003800100ca000000) ∷ patch_at 1 60 504 (hex 8 0x0380010017000000) ∷ [])) (machine_of (disk_with 300 2 9 ∷ disk_with 5000 255 63 ∷ [])) (record { disk = 0; count = 1; address = Lba32 23 }) 15 1 ≡ record { places = []; looked = (on 0 (23 ∷ [])); refusal = (Some NotFound) }
unfolding number16 number32 is_zero has_ranges has_address is_slot is_one_slot chs_of address_of slot_of some_slot slot_at slot_bytes to_chs to_lba sector_at sectors_of place_at slot_make could_be_one link_at section file_content
section_15_sectors_in_at_most_1_section_sector_a_sector_that_is_absent = refl

-- 15 sectors in at most 1 section sector: an end after 0
pub section_15_sectors_in_at_most_1_section_sector_an_end_after_0 : section (disks_of []) (machine_of (disk_with 700 4 17 ∷ disk_with 0 16 63 ∷ disk_with 900 16 63 ∷ [])) (record { disk = 2; count = 1; address = Lba32 49 }) 15 1 ≡ record { places = []; looked = (on 2 (49 ∷ [])); refusal = (Some (ShortChain 0)) }
unfolding number16 number32 is_zero has_ranges has_address is_slot is_one_slot chs_of address_of slot_of some_slot slot_at slot_bytes to_chs to_lba sector_at sectors_of place_at slot_make could_be_one link_at section file_content
section_15_sectors_in_at_most_1_section_sector_an_end_after_0 = refl

-- 7 sectors in at most 1 section sector: too many links
pub section_7_sectors_in_at_most_1_section_sector_too_many_links : section (disks_of (patch_at 0 43 0 (hex 24 0x038001002d00000003800100190000000280010080000000) ∷ patch_at 0 43 504 (hex 8 0x0380010044000000) ∷ patch_at 0 68 0 (hex 8 0x01800400090b0000) ∷ [])) (machine_of (disk_with 300 2 9 ∷ disk_with 5000 255 63 ∷ [])) (record { disk = 0; count = 1; address = Lba32 43 }) 7 1 ≡ record { places = (on 0 (45 ∷ 25 ∷ 128 ∷ [])); looked = (on 0 (43 ∷ [])); refusal = (Some (ChainTooLong 1)) }
unfolding number16 number32 is_zero has_ranges has_address is_slot is_one_slot chs_of address_of slot_of some_slot slot_at slot_bytes to_chs to_lba sector_at sectors_of place_at slot_make could_be_one link_at section file_content
section_7_sectors_in_at_most_1_section_sector_too_many_links = refl

-- 15 sectors in at most 1 section sector: a sector that is absent
pub section_15_sectors_in_at_most_1_section_sector_a_sector_that_is_absent_2 : section (disks_of (patch_at 2 30 0 (hex 8 0x0381030000000000) ∷ patch_at 2 30 504 (hex 8 0x038201001e000000) ∷ [])) (machine_of (disk_with 700 4 17 ∷ disk_with 0 16 63 ∷ disk_with 900 16 63 ∷ [])) (record { disk = 2; count = 1; address = Lba32 30 }) 15 1 ≡ record { places = []; looked = (on 2 (30 ∷ [])); refusal = (Some NotFound) }
unfolding number16 number32 is_zero has_ranges has_address is_slot is_one_slot chs_of address_of slot_of some_slot slot_at slot_bytes to_chs to_lba sector_at sectors_of place_at slot_make could_be_one link_at section file_content
section_15_sectors_in_at_most_1_section_sector_a_sector_that_is_absent_2 = refl

-- 7 sectors in at most 4 section sectors: a bad slot
pub section_7_sectors_in_at_most_4_section_sectors_a_bad_slot : section (disks_of (patch_at 0 32 0 (hex 16 0x038003004407000002800100f2090000) ∷ patch_at 0 32 504 (hex 8 0x0380010100000000) ∷ patch_at 0 76 0 (hex 24 0x02800400460b000003800400d407000003800100ff0f0000) ∷ patch_at 0 76 504 (hex 8 0x038001007d000000) ∷ patch_at 0 125 0 (hex 24 0x018002003500080003800100310a000003800200ee070000) ∷ patch_at 0 125 504 (hex 8 0x0380010020000000) ∷ [])) (machine_of (disk_with 4096 16 63 ∷ [])) (record { disk = 0; count = 1; address = Lba32 32 }) 7 4 ≡ record { places = (on 0 (1860 ∷ 1861 ∷ 1862 ∷ 2546 ∷ [])); looked = (on 0 (32 ∷ [])); refusal = (Some (BadSlot 63)) }
unfolding number16 number32 is_zero has_ranges has_address is_slot is_one_slot chs_of address_of slot_of some_slot slot_at slot_bytes to_chs to_lba sector_at sectors_of place_at slot_make could_be_one link_at section file_content
section_7_sectors_in_at_most_4_section_sectors_a_bad_slot = refl

-- 4 sectors in at most 1 section sector: a sector that is absent
pub section_4_sectors_in_at_most_1_section_sector_a_sector_that_is_absent : section (disks_of (patch_at 0 54 0 (hex 40 0x02800200af0400000180010081cf00008b53a42f7d127ab403800100de0100000380030012000000) ∷ patch_at 0 54 504 (hex 8 0x0380010056000000) ∷ patch_at 0 86 0 (hex 64 0x03830400af040000028001002502000002800100c001000003800100af040000038303001f04000003800400af040000e560030866b9a40c0180010001b20000) ∷ [])) (machine_of (disk_with 1200 1 1 ∷ [])) (record { disk = 0; count = 1; address = Lba32 54 }) 4 1 ≡ record { places = []; looked = (on 0 (54 ∷ [])); refusal = (Some NotFound) }
unfolding number16 number32 is_zero has_ranges has_address is_slot is_one_slot chs_of address_of slot_of some_slot slot_at slot_bytes to_chs to_lba sector_at sectors_of place_at slot_make could_be_one link_at section file_content
section_4_sectors_in_at_most_1_section_sector_a_sector_that_is_absent = refl

-- 2 sectors in at most 2 section sectors: a sector that is absent
pub section_2_sectors_in_at_most_2_section_sectors_a_sector_that_is_absent : section (disks_of (patch_at 2 28 0 (hex 24 0x018101000100000003810100000000000381020000000000) ∷ patch_at 2 28 504 (hex 8 0x038201003c000000) ∷ patch_at 2 60 0 (hex 40 0x018101000100000002820300830300000181030001000000028204005402000002800100bb020000) ∷ patch_at 2 60 504 (hex 8 0x038001007c000000) ∷ patch_at 0 124 0 (hex 24 0x018101000100000002820400e70200000381010000000000) ∷ [])) (machine_of (disk_with 700 4 17 ∷ disk_with 0 16 63 ∷ disk_with 900 16 63 ∷ [])) (record { disk = 2; count = 1; address = Lba32 28 }) 2 2 ≡ record { places = []; looked = (on 2 (28 ∷ [])); refusal = (Some NotFound) }
unfolding number16 number32 is_zero has_ranges has_address is_slot is_one_slot chs_of address_of slot_of some_slot slot_at slot_bytes to_chs to_lba sector_at sectors_of place_at slot_make could_be_one link_at section file_content
section_2_sectors_in_at_most_2_section_sectors_a_sector_that_is_absent = refl

-- 10 sectors in at most 3 section sectors: an end after 3
pub section_10_sectors_in_at_most_3_section_sectors_an_end_after_3 : section (disks_of (patch_at 0 36 0 (hex 16 0x02800200b4030000038001004f030000) ∷ patch_at 0 36 504 (hex 8 0x0380010061000000) ∷ [])) (machine_of (disk_with 1200 1 1 ∷ [])) (record { disk = 0; count = 1; address = Lba32 36 }) 10 3 ≡ record { places = (on 0 (948 ∷ 949 ∷ 847 ∷ [])); looked = (on 0 (36 ∷ 97 ∷ [])); refusal = (Some (ShortChain 3)) }
unfolding number16 number32 is_zero has_ranges has_address is_slot is_one_slot chs_of address_of slot_of some_slot slot_at slot_bytes to_chs to_lba sector_at sectors_of place_at slot_make could_be_one link_at section file_content
section_10_sectors_in_at_most_3_section_sectors_an_end_after_3 = refl

-- 2 sectors in at most 1 section sector: all are named
pub section_2_sectors_in_at_most_1_section_sector_all_are_named_3 : section (disks_of (patch_at 1 57 0 (hex 40 0x01800400050c01000380010055000000028103006d0500002cfc3c05c2ae3a880381010087130000) ∷ patch_at 1 57 504 (hex 8 0x0380010100000000) ∷ [])) (machine_of (disk_with 300 2 9 ∷ disk_with 5000 255 63 ∷ [])) (record { disk = 1; count = 1; address = Lba32 57 }) 2 1 ≡ record { places = (on 0 (229 ∷ 230 ∷ [])); looked = (on 1 (57 ∷ [])); refusal = None }
unfolding number16 number32 is_zero has_ranges has_address is_slot is_one_slot chs_of address_of slot_of some_slot slot_at slot_bytes to_chs to_lba sector_at sectors_of place_at slot_make could_be_one link_at section file_content
section_2_sectors_in_at_most_1_section_sector_all_are_named_3 = refl

-- 15 sectors in at most 3 section sectors: a bad slot
pub section_15_sectors_in_at_most_3_section_sectors_a_bad_slot : section (disks_of (patch_at 0 20 0 (hex 16 0x038002001509000003800200ac070000) ∷ patch_at 0 20 504 (hex 8 0x038001003f000000) ∷ patch_at 0 63 0 (hex 24 0x03800400ff070000bb5fc7ea70011b080180010001040100) ∷ patch_at 0 63 504 (hex 8 0x038002001e000000) ∷ [])) (machine_of (disk_with 4096 16 63 ∷ [])) (record { disk = 0; count = 1; address = Lba32 20 }) 15 3 ≡ record { places = (on 0 (2325 ∷ 2326 ∷ 1964 ∷ 1965 ∷ 2047 ∷ 2048 ∷ 2049 ∷ 2050 ∷ [])); looked = (on 0 (20 ∷ 63 ∷ [])); refusal = (Some (BadSlot 65)) }
unfolding number16 number32 is_zero has_ranges has_address is_slot is_one_slot chs_of address_of slot_of some_slot slot_at slot_bytes to_chs to_lba sector_at sectors_of place_at slot_make could_be_one link_at section file_content
section_15_sectors_in_at_most_3_section_sectors_a_bad_slot = refl

-- 10 sectors in at most 1 section sector: an end after 0
pub section_10_sectors_in_at_most_1_section_sector_an_end_after_0 : section (disks_of []) (machine_of (disk_with 1200 1 1 ∷ [])) (record { disk = 0; count = 1; address = Lba32 49 }) 10 1 ≡ record { places = []; looked = (on 0 (49 ∷ [])); refusal = (Some (ShortChain 0)) }
unfolding number16 number32 is_zero has_ranges has_address is_slot is_one_slot chs_of address_of slot_of some_slot slot_at slot_bytes to_chs to_lba sector_at sectors_of place_at slot_make could_be_one link_at section file_content
section_10_sectors_in_at_most_1_section_sector_an_end_after_0 = refl

-- 15 sectors in at most 1 section sector: a sector that is absent
pub section_15_sectors_in_at_most_1_section_sector_a_sector_that_is_absent_3 : section (disks_of (patch_at 0 39 0 (hex 40 0x038003005202000003800100b5000000038301000902000003800200df030000b1b1219d42c79e01) ∷ [])) (machine_of (disk_with 1200 1 1 ∷ [])) (record { disk = 0; count = 1; address = Lba32 39 }) 15 1 ≡ record { places = (on 0 (594 ∷ 595 ∷ 596 ∷ 181 ∷ [])); looked = (on 0 (39 ∷ [])); refusal = (Some NotFound) }
unfolding number16 number32 is_zero has_ranges has_address is_slot is_one_slot chs_of address_of slot_of some_slot slot_at slot_bytes to_chs to_lba sector_at sectors_of place_at slot_make could_be_one link_at section file_content
section_15_sectors_in_at_most_1_section_sector_a_sector_that_is_absent_3 = refl

-- 15 sectors in at most 2 section sectors: an end after 0
pub section_15_sectors_in_at_most_2_section_sectors_an_end_after_0 : section (disks_of []) (machine_of (disk_with 700 4 17 ∷ disk_with 0 16 63 ∷ disk_with 900 16 63 ∷ [])) (record { disk = 0; count = 1; address = Lba32 27 }) 15 2 ≡ record { places = []; looked = (on 0 (27 ∷ [])); refusal = (Some (ShortChain 0)) }
unfolding number16 number32 is_zero has_ranges has_address is_slot is_one_slot chs_of address_of slot_of some_slot slot_at slot_bytes to_chs to_lba sector_at sectors_of place_at slot_make could_be_one link_at section file_content
section_15_sectors_in_at_most_2_section_sectors_an_end_after_0 = refl

-- 15 sectors in at most 1 section sector: a sector that is absent
pub section_15_sectors_in_at_most_1_section_sector_a_sector_that_is_absent_4 : section (disks_of (patch_at 0 33 0 (hex 24 0x028101000000000003800100800200000181020001000000) ∷ patch_at 0 33 504 (hex 8 0x0380010040000000) ∷ patch_at 0 64 0 (hex 24 0x03830100ba02000003800200890100000380010090010000) ∷ patch_at 0 64 504 (hex 8 0x0382010080000000) ∷ patch_at 2 128 0 (hex 8 0x0380020098010000) ∷ [])) (machine_of (disk_with 700 4 17 ∷ disk_with 0 16 63 ∷ disk_with 900 16 63 ∷ [])) (record { disk = 0; count = 1; address = Lba32 33 }) 15 1 ≡ record { places = []; looked = (on 0 (33 ∷ [])); refusal = (Some NotFound) }
unfolding number16 number32 is_zero has_ranges has_address is_slot is_one_slot chs_of address_of slot_of some_slot slot_at slot_bytes to_chs to_lba sector_at sectors_of place_at slot_make could_be_one link_at section file_content
section_15_sectors_in_at_most_1_section_sector_a_sector_that_is_absent_4 = refl

-- 4 sectors in at most 1 section sector: too many links
pub section_4_sectors_in_at_most_1_section_sector_too_many_links_2 : section (disks_of (patch_at 2 26 504 (hex 8 0x038001005b000000) ∷ [])) (machine_of (disk_with 700 4 17 ∷ disk_with 0 16 63 ∷ disk_with 900 16 63 ∷ [])) (record { disk = 2; count = 1; address = Lba32 26 }) 4 1 ≡ record { places = []; looked = (on 2 (26 ∷ [])); refusal = (Some (ChainTooLong 1)) }
unfolding number16 number32 is_zero has_ranges has_address is_slot is_one_slot chs_of address_of slot_of some_slot slot_at slot_bytes to_chs to_lba sector_at sectors_of place_at slot_make could_be_one link_at section file_content
section_4_sectors_in_at_most_1_section_sector_too_many_links_2 = refl

-- 4 sectors in at most 1 section sector: too many links
pub section_4_sectors_in_at_most_1_section_sector_too_many_links_3 : section (disks_of (patch_at 0 39 0 (hex 24 0x03800100aa0200000380010099040000028001001c000000) ∷ patch_at 0 39 504 (hex 8 0x0380010027000000) ∷ [])) (machine_of (disk_with 1200 1 1 ∷ [])) (record { disk = 0; count = 1; address = Lba32 39 }) 4 1 ≡ record { places = (on 0 (682 ∷ 1177 ∷ 28 ∷ [])); looked = (on 0 (39 ∷ [])); refusal = (Some (ChainTooLong 1)) }
unfolding number16 number32 is_zero has_ranges has_address is_slot is_one_slot chs_of address_of slot_of some_slot slot_at slot_bytes to_chs to_lba sector_at sectors_of place_at slot_make could_be_one link_at section file_content
section_4_sectors_in_at_most_1_section_sector_too_many_links_3 = refl

-- 2 sectors in at most 2 section sectors: all are named
pub section_2_sectors_in_at_most_2_section_sectors_all_are_named : section (disks_of (patch_at 0 44 0 (hex 16 0x02800400f80e00000183010024000400) ∷ patch_at 0 44 504 (hex 8 0x0380010049000000) ∷ patch_at 0 73 0 (hex 16 0x018001002f010f0003800400e00a0000) ∷ [])) (machine_of (disk_with 4096 16 63 ∷ [])) (record { disk = 0; count = 1; address = Lba32 44 }) 2 2 ≡ record { places = (on 0 (3832 ∷ 3833 ∷ [])); looked = (on 0 (44 ∷ [])); refusal = None }
unfolding number16 number32 is_zero has_ranges has_address is_slot is_one_slot chs_of address_of slot_of some_slot slot_at slot_bytes to_chs to_lba sector_at sectors_of place_at slot_make could_be_one link_at section file_content
section_2_sectors_in_at_most_2_section_sectors_all_are_named = refl

-- 10 sectors in at most 3 section sectors: all are named
pub section_10_sectors_in_at_most_3_section_sectors_all_are_named : section (disks_of (patch_at 0 50 0 (hex 40 0x03800400cb06000003800300ac030000038002006d0d0000028001005c0100000380010068000000) ∷ patch_at 0 50 504 (hex 8 0x038001005b000000) ∷ patch_at 0 91 0 (hex 24 0x038001000f05000003800300800d00000180030039020300) ∷ patch_at 0 91 504 (hex 8 0x0380010032000000) ∷ [])) (machine_of (disk_with 4096 16 63 ∷ [])) (record { disk = 0; count = 1; address = Lba32 50 }) 10 3 ≡ record { places = (on 0 (1739 ∷ 1740 ∷ 1741 ∷ 1742 ∷ 940 ∷ 941 ∷ 942 ∷ 3437 ∷ 3438 ∷ 348 ∷ [])); looked = (on 0 (50 ∷ [])); refusal = None }
unfolding number16 number32 is_zero has_ranges has_address is_slot is_one_slot chs_of address_of slot_of some_slot slot_at slot_bytes to_chs to_lba sector_at sectors_of place_at slot_make could_be_one link_at section file_content
section_10_sectors_in_at_most_3_section_sectors_all_are_named = refl

-- 10 sectors in at most 1 section sector: a sector that is absent
pub section_10_sectors_in_at_most_1_section_sector_a_sector_that_is_absent : section (disks_of (patch_at 0 28 0 (hex 40 0x0180030081f3000003800200ae01000003800200ca01000003800100af040000028001005f020000) ∷ patch_at 0 28 504 (hex 8 0x038001001c000000) ∷ [])) (machine_of (disk_with 1200 1 1 ∷ [])) (record { disk = 0; count = 1; address = Lba32 28 }) 10 1 ≡ record { places = (on 0 (755 ∷ [])); looked = (on 0 (28 ∷ [])); refusal = (Some NotFound) }
unfolding number16 number32 is_zero has_ranges has_address is_slot is_one_slot chs_of address_of slot_of some_slot slot_at slot_bytes to_chs to_lba sector_at sectors_of place_at slot_make could_be_one link_at section file_content
section_10_sectors_in_at_most_1_section_sector_a_sector_that_is_absent = refl

-- 1 sectors in at most 2 section sectors: a sector that is absent
pub section_1_sectors_in_at_most_2_section_sectors_a_sector_that_is_absent : section (disks_of (patch_at 2 23 0 (hex 64 0x03810400000000000281010000000000038004009b000000028201000b000000018002000900020003820100dc0200000380020014000000038201007f010000) ∷ patch_at 2 23 504 (hex 8 0x038001004f000000) ∷ patch_at 0 79 0 (hex 40 0x038103000000000001810100010000000180010004000000038201006e0200000180010001050000) ∷ patch_at 0 79 504 (hex 8 0x0382010017000000) ∷ [])) (machine_of (disk_with 700 4 17 ∷ disk_with 0 16 63 ∷ disk_with 900 16 63 ∷ [])) (record { disk = 2; count = 1; address = Lba32 23 }) 1 2 ≡ record { places = []; looked = (on 2 (23 ∷ [])); refusal = (Some NotFound) }
unfolding number16 number32 is_zero has_ranges has_address is_slot is_one_slot chs_of address_of slot_of some_slot slot_at slot_bytes to_chs to_lba sector_at sectors_of place_at slot_make could_be_one link_at section file_content
section_1_sectors_in_at_most_2_section_sectors_a_sector_that_is_absent = refl

-- 10 sectors in at most 1 section sector: a sector that is absent
pub section_10_sectors_in_at_most_1_section_sector_a_sector_that_is_absent_2 : section (disks_of (patch_at 0 51 0 (hex 40 0x02800100b4020000038004002c040000038003008d0200000180020041f100000280010047040000) ∷ patch_at 0 51 504 (hex 8 0x0380010033000000) ∷ [])) (machine_of (disk_with 1200 1 1 ∷ [])) (record { disk = 0; count = 1; address = Lba32 51 }) 10 1 ≡ record { places = (on 0 (692 ∷ 1068 ∷ 1069 ∷ 1070 ∷ 1071 ∷ 653 ∷ 654 ∷ 655 ∷ 497 ∷ [])); looked = (on 0 (51 ∷ [])); refusal = (Some NotFound) }
unfolding number16 number32 is_zero has_ranges has_address is_slot is_one_slot chs_of address_of slot_of some_slot slot_at slot_bytes to_chs to_lba sector_at sectors_of place_at slot_make could_be_one link_at section file_content
section_10_sectors_in_at_most_1_section_sector_a_sector_that_is_absent_2 = refl

-- 2 sectors in at most 3 section sectors: all are named
pub section_2_sectors_in_at_most_3_section_sectors_all_are_named : section (disks_of (patch_at 1 46 0 (hex 8 0x0181030018004900) ∷ patch_at 1 46 504 (hex 8 0x0380010100000000) ∷ patch_at 1 86 0 (hex 16 0x03800400d60000000181040023004300) ∷ patch_at 1 86 504 (hex 8 0x0380010088000000) ∷ [])) (machine_of (disk_with 300 2 9 ∷ disk_with 5000 255 63 ∷ [])) (record { disk = 1; count = 1; address = Lba32 46 }) 2 3 ≡ record { places = (on 1 (4622 ∷ 4623 ∷ [])); looked = (on 1 (46 ∷ [])); refusal = None }
unfolding number16 number32 is_zero has_ranges has_address is_slot is_one_slot chs_of address_of slot_of some_slot slot_at slot_bytes to_chs to_lba sector_at sectors_of place_at slot_make could_be_one link_at section file_content
section_2_sectors_in_at_most_3_section_sectors_all_are_named = refl

-- 1 sectors in at most 1 section sector: all are named
pub section_1_sectors_in_at_most_1_section_sector_all_are_named_2 : section (disks_of (patch_at 2 27 0 (hex 40 0x02820100110200000281010000000000038201003d01000003810400000000000381020000000000) ∷ patch_at 2 27 504 (hex 8 0x038201001b000000) ∷ [])) (machine_of (disk_with 700 4 17 ∷ disk_with 0 16 63 ∷ disk_with 900 16 63 ∷ [])) (record { disk = 2; count = 1; address = Lba32 27 }) 1 1 ≡ record { places = (on 2 (529 ∷ [])); looked = (on 2 (27 ∷ [])); refusal = None }
unfolding number16 number32 is_zero has_ranges has_address is_slot is_one_slot chs_of address_of slot_of some_slot slot_at slot_bytes to_chs to_lba sector_at sectors_of place_at slot_make could_be_one link_at section file_content
section_1_sectors_in_at_most_1_section_sector_all_are_named_2 = refl

-- 7 sectors in at most 1 section sector: a sector that is absent
pub section_7_sectors_in_at_most_1_section_sector_a_sector_that_is_absent : section (disks_of (patch_at 2 35 0 (hex 40 0x0381030000000000028001005200000003800100ce0100000181040001000000038201000e020000) ∷ patch_at 2 35 504 (hex 8 0x0382010023000000) ∷ [])) (machine_of (disk_with 700 4 17 ∷ disk_with 0 16 63 ∷ disk_with 900 16 63 ∷ [])) (record { disk = 2; count = 1; address = Lba32 35 }) 7 1 ≡ record { places = []; looked = (on 2 (35 ∷ [])); refusal = (Some NotFound) }
unfolding number16 number32 is_zero has_ranges has_address is_slot is_one_slot chs_of address_of slot_of some_slot slot_at slot_bytes to_chs to_lba sector_at sectors_of place_at slot_make could_be_one link_at section file_content
section_7_sectors_in_at_most_1_section_sector_a_sector_that_is_absent = refl

-- 2 sectors in at most 1 section sector: all are named
pub section_2_sectors_in_at_most_1_section_sector_all_are_named_4 : section (disks_of (patch_at 0 49 0 (hex 8 0x0282040059000000) ∷ [])) (machine_of (disk_with 700 4 17 ∷ disk_with 0 16 63 ∷ disk_with 900 16 63 ∷ [])) (record { disk = 0; count = 1; address = Lba32 49 }) 2 1 ≡ record { places = (on 2 (89 ∷ 90 ∷ [])); looked = (on 0 (49 ∷ [])); refusal = None }
unfolding number16 number32 is_zero has_ranges has_address is_slot is_one_slot chs_of address_of slot_of some_slot slot_at slot_bytes to_chs to_lba sector_at sectors_of place_at slot_make could_be_one link_at section file_content
section_2_sectors_in_at_most_1_section_sector_all_are_named_4 = refl

-- 10 sectors in at most 4 section sectors: a sector that is absent
pub section_10_sectors_in_at_most_4_section_sectors_a_sector_that_is_absent : section (disks_of (patch_at 0 27 0 (hex 8 0x03800300ac040000) ∷ patch_at 0 27 504 (hex 8 0x0380010045000000) ∷ patch_at 0 69 0 (hex 40 0x03800100890400000180030081da00000180010041a20000028001002f0200000280010071010000) ∷ patch_at 0 69 504 (hex 8 0x038001007d000000) ∷ patch_at 0 125 0 (hex 24 0x0383040061040000038004000f0000000380010092010000) ∷ [])) (machine_of (disk_with 1200 1 1 ∷ [])) (record { disk = 0; count = 1; address = Lba32 27 }) 10 4 ≡ record { places = (on 0 (1196 ∷ 1197 ∷ 1198 ∷ 1161 ∷ 730 ∷ [])); looked = (on 0 (27 ∷ 69 ∷ [])); refusal = (Some NotFound) }
unfolding number16 number32 is_zero has_ranges has_address is_slot is_one_slot chs_of address_of slot_of some_slot slot_at slot_bytes to_chs to_lba sector_at sectors_of place_at slot_make could_be_one link_at section file_content
section_10_sectors_in_at_most_4_section_sectors_a_sector_that_is_absent = refl

-- 7 sectors in at most 1 section sector: too many links
pub section_7_sectors_in_at_most_1_section_sector_too_many_links_2 : section (disks_of (patch_at 0 51 0 (hex 24 0x038101003a0500000281010013040000038101005b120000) ∷ patch_at 0 51 504 (hex 8 0x0380010033000000) ∷ [])) (machine_of (disk_with 300 2 9 ∷ disk_with 5000 255 63 ∷ [])) (record { disk = 0; count = 1; address = Lba32 51 }) 7 1 ≡ record { places = (on 1 (1338 ∷ 1043 ∷ 4699 ∷ [])); looked = (on 0 (51 ∷ [])); refusal = (Some (ChainTooLong 1)) }
unfolding number16 number32 is_zero has_ranges has_address is_slot is_one_slot chs_of address_of slot_of some_slot slot_at slot_bytes to_chs to_lba sector_at sectors_of place_at slot_make could_be_one link_at section file_content
section_7_sectors_in_at_most_1_section_sector_too_many_links_2 = refl

-- 4 sectors in at most 4 section sectors: all are named
pub section_4_sectors_in_at_most_4_section_sectors_all_are_named : section (disks_of (patch_at 0 48 0 (hex 16 0x038001003f0900000380040095040000) ∷ patch_at 0 48 504 (hex 8 0x0380010062000000) ∷ patch_at 0 98 0 (hex 24 0x028004005d040000038001002b0200000180010032020000) ∷ patch_at 0 98 504 (hex 8 0x038001007f000000) ∷ [])) (machine_of (disk_with 4096 16 63 ∷ [])) (record { disk = 0; count = 1; address = Lba32 48 }) 4 4 ≡ record { places = (on 0 (2367 ∷ 1173 ∷ 1174 ∷ 1175 ∷ [])); looked = (on 0 (48 ∷ [])); refusal = None }
unfolding number16 number32 is_zero has_ranges has_address is_slot is_one_slot chs_of address_of slot_of some_slot slot_at slot_bytes to_chs to_lba sector_at sectors_of place_at slot_make could_be_one link_at section file_content
section_4_sectors_in_at_most_4_section_sectors_all_are_named = refl

-- 10 sectors in at most 1 section sector: too many links
pub section_10_sectors_in_at_most_1_section_sector_too_many_links : section (disks_of (patch_at 0 45 0 (hex 40 0x02810100d00e0000028001002b010000038101009a030000018001000202010003800100d3000000) ∷ patch_at 0 45 504 (hex 8 0x038001004b000000) ∷ [])) (machine_of (disk_with 300 2 9 ∷ disk_with 5000 255 63 ∷ [])) (record { disk = 0; count = 1; address = Lba32 45 }) 10 1 ≡ record { places = (on 1 (3792 ∷ []) ++ on 0 (299 ∷ []) ++ on 1 (922 ∷ []) ++ on 0 (46 ∷ 211 ∷ [])); looked = (on 0 (45 ∷ [])); refusal = (Some (ChainTooLong 1)) }
unfolding number16 number32 is_zero has_ranges has_address is_slot is_one_slot chs_of address_of slot_of some_slot slot_at slot_bytes to_chs to_lba sector_at sectors_of place_at slot_make could_be_one link_at section file_content
section_10_sectors_in_at_most_1_section_sector_too_many_links = refl

-- 2 sectors in at most 2 section sectors: all are named
pub section_2_sectors_in_at_most_2_section_sectors_all_are_named_2 : section (disks_of (patch_at 0 39 0 (hex 16 0x018001000403010003800100bb020000) ∷ [])) (machine_of (disk_with 700 4 17 ∷ disk_with 0 16 63 ∷ disk_with 900 16 63 ∷ [])) (record { disk = 0; count = 1; address = Lba32 39 }) 2 2 ≡ record { places = (on 0 (224 ∷ 699 ∷ [])); looked = (on 0 (39 ∷ [])); refusal = None }
unfolding number16 number32 is_zero has_ranges has_address is_slot is_one_slot chs_of address_of slot_of some_slot slot_at slot_bytes to_chs to_lba sector_at sectors_of place_at slot_make could_be_one link_at section file_content
section_2_sectors_in_at_most_2_section_sectors_all_are_named_2 = refl

-- 4 sectors in at most 1 section sector: all are named
pub section_4_sectors_in_at_most_1_section_sector_all_are_named : section (disks_of (patch_at 0 32 0 (hex 64 0x01800400240009000180010030000a0003800400fa01000002800200c909000002800300680f00000280010030080000018004003f0109000380040054060000) ∷ patch_at 0 32 504 (hex 8 0x0380010020000000) ∷ [])) (machine_of (disk_with 4096 16 63 ∷ [])) (record { disk = 0; count = 1; address = Lba32 32 }) 4 1 ≡ record { places = (on 0 (602 ∷ 603 ∷ 604 ∷ 605 ∷ [])); looked = (on 0 (32 ∷ [])); refusal = None }
unfolding number16 number32 is_zero has_ranges has_address is_slot is_one_slot chs_of address_of slot_of some_slot slot_at slot_bytes to_chs to_lba sector_at sectors_of place_at slot_make could_be_one link_at section file_content
section_4_sectors_in_at_most_1_section_sector_all_are_named = refl

-- 10 sectors in at most 1 section sector: too many links
pub section_10_sectors_in_at_most_1_section_sector_too_many_links_2 : section (disks_of (patch_at 0 27 0 (hex 8 0x03800200b90e0000) ∷ patch_at 0 27 504 (hex 8 0x038001001b000000) ∷ [])) (machine_of (disk_with 4096 16 63 ∷ [])) (record { disk = 0; count = 1; address = Lba32 27 }) 10 1 ≡ record { places = (on 0 (3769 ∷ 3770 ∷ [])); looked = (on 0 (27 ∷ [])); refusal = (Some (ChainTooLong 1)) }
unfolding number16 number32 is_zero has_ranges has_address is_slot is_one_slot chs_of address_of slot_of some_slot slot_at slot_bytes to_chs to_lba sector_at sectors_of place_at slot_make could_be_one link_at section file_content
section_10_sectors_in_at_most_1_section_sector_too_many_links_2 = refl

-- 1 sectors in at most 2 section sectors: all are named
pub section_1_sectors_in_at_most_2_section_sectors_all_are_named : section (disks_of (patch_at 0 41 0 (hex 64 0x0380030067030000038002001401000002800400b201000003800200af04000001800200410e000002800300ea00000002800300af0400000180040081060000) ∷ patch_at 0 41 504 (hex 8 0x038001003e000000) ∷ patch_at 0 62 0 (hex 40 0x038001003901000002800100ba010000a2c40ef19957d32e038004002503000001800300c1890000) ∷ [])) (machine_of (disk_with 1200 1 1 ∷ [])) (record { disk = 0; count = 1; address = Lba32 41 }) 1 2 ≡ record { places = (on 0 (871 ∷ [])); looked = (on 0 (41 ∷ [])); refusal = None }
unfolding number16 number32 is_zero has_ranges has_address is_slot is_one_slot chs_of address_of slot_of some_slot slot_at slot_bytes to_chs to_lba sector_at sectors_of place_at slot_make could_be_one link_at section file_content
section_1_sectors_in_at_most_2_section_sectors_all_are_named = refl

-- 10 sectors in at most 1 section sector: a sector that is absent
pub section_10_sectors_in_at_most_1_section_sector_a_sector_that_is_absent_3 : section (disks_of (patch_at 0 53 0 (hex 8 0x038301002b010000) ∷ patch_at 0 53 504 (hex 8 0x038001005f000000) ∷ patch_at 0 95 0 (hex 8 0x03830200a1020000) ∷ [])) (machine_of (disk_with 1200 1 1 ∷ [])) (record { disk = 0; count = 1; address = Lba32 53 }) 10 1 ≡ record { places = []; looked = (on 0 (53 ∷ [])); refusal = (Some NotFound) }
unfolding number16 number32 is_zero has_ranges has_address is_slot is_one_slot chs_of address_of slot_of some_slot slot_at slot_bytes to_chs to_lba sector_at sectors_of place_at slot_make could_be_one link_at section file_content
section_10_sectors_in_at_most_1_section_sector_a_sector_that_is_absent_3 = refl

-- 2 sectors in at most 3 section sectors: a sector that is absent
pub section_2_sectors_in_at_most_3_section_sectors_a_sector_that_is_absent : section (disks_of (patch_at 0 26 0 (hex 40 0x0181010001000000c97aea78bd0733a5038101000000000002810200000000000181010001000000) ∷ patch_at 0 26 504 (hex 8 0x038201005f000000) ∷ patch_at 2 95 0 (hex 24 0x028101000000000001800100030402000180030004050200) ∷ patch_at 2 95 504 (hex 8 0x038001006f000000) ∷ patch_at 0 111 0 (hex 8 0x0382040098000000) ∷ [])) (machine_of (disk_with 700 4 17 ∷ disk_with 0 16 63 ∷ disk_with 900 16 63 ∷ [])) (record { disk = 0; count = 1; address = Lba32 26 }) 2 3 ≡ record { places = []; looked = (on 0 (26 ∷ [])); refusal = (Some NotFound) }
unfolding number16 number32 is_zero has_ranges has_address is_slot is_one_slot chs_of address_of slot_of some_slot slot_at slot_bytes to_chs to_lba sector_at sectors_of place_at slot_make could_be_one link_at section file_content
section_2_sectors_in_at_most_3_section_sectors_a_sector_that_is_absent = refl

-- Cases of the model, written by tools/model_cases.py: the sectors that a section lists.
use Rattle.std.proofs.Common.{◌≡◌, ◌∷◌, ◌++◌, [], None, Some, refl}
use Rattle.lilo_model.specs.Bytes.{number16, number32, is_zero}
use Rattle.lilo_model.specs.Section.{link_at, section, file_content, BadSlot, ChainTooLong, ShortChain, NotFound}
use Rattle.lilo_model.specs.Slots.{has_ranges, has_address, is_slot, is_one_slot, chs_of, address_of, slot_of, some_slot, slot_at, slot_bytes, to_chs, to_lba, sector_at, sectors_of, place_at, slot_make, could_be_one, Lba32}
use Rattle.model_cases.specs.Sparse.{hex, patch_at, disks_of, disk_with, machine_of, on}

-- 7 sectors in at most 3 section sectors: a bad slot
pub section_7_sectors_in_at_most_3_section_sectors_a_bad_slot : section (disks_of (patch_at 0 59 0 (hex 8 0x0280010021010000) ∷ patch_at 0 59 504 (hex 8 0x0380010040000000) ∷ patch_at 0 64 0 (hex 64 0x935d7c451f20a8d10180040001ca000003800200430000000180010001f100000280020049000000018004008174000003800100290000000380020025030000) ∷ patch_at 0 64 504 (hex 8 0x038001007a000000) ∷ patch_at 0 122 0 (hex 24 0x6f706ab9597fe841038004004e040000038001004f040000) ∷ [])) (machine_of (disk_with 1200 1 1 ∷ [])) (record { disk = 0; count = 1; address = Lba32 59 }) 7 3 ≡ record { places = (on 0 (289 ∷ [])); looked = (on 0 (59 ∷ 64 ∷ [])); refusal = (Some (BadSlot 64)) }
unfolding number16 number32 is_zero has_ranges has_address is_slot is_one_slot chs_of address_of slot_of some_slot slot_at slot_bytes to_chs to_lba sector_at sectors_of place_at slot_make could_be_one link_at section file_content
section_7_sectors_in_at_most_3_section_sectors_a_bad_slot = refl

-- 7 sectors in at most 1 section sector: a sector that is absent
pub section_7_sectors_in_at_most_1_section_sector_a_sector_that_is_absent_2 : section (disks_of (patch_at 2 49 0 (hex 24 0x0182030012000e000281010000000000018004000c090200) ∷ [])) (machine_of (disk_with 700 4 17 ∷ disk_with 0 16 63 ∷ disk_with 900 16 63 ∷ [])) (record { disk = 2; count = 1; address = Lba32 49 }) 7 1 ≡ record { places = (on 2 (899 ∷ [])); looked = (on 2 (49 ∷ [])); refusal = (Some NotFound) }
unfolding number16 number32 is_zero has_ranges has_address is_slot is_one_slot chs_of address_of slot_of some_slot slot_at slot_bytes to_chs to_lba sector_at sectors_of place_at slot_make could_be_one link_at section file_content
section_7_sectors_in_at_most_1_section_sector_a_sector_that_is_absent_2 = refl

-- 10 sectors in at most 1 section sector: a sector that is absent
pub section_10_sectors_in_at_most_1_section_sector_a_sector_that_is_absent_4 : section (disks_of (patch_at 0 46 0 (hex 40 0x02800300af040000028001003b010000028001003d00000001800300c123000002800300af040000) ∷ patch_at 0 46 504 (hex 8 0x038001002e000000) ∷ [])) (machine_of (disk_with 1200 1 1 ∷ [])) (record { disk = 0; count = 1; address = Lba32 46 }) 10 1 ≡ record { places = []; looked = (on 0 (46 ∷ [])); refusal = (Some NotFound) }
unfolding number16 number32 is_zero has_ranges has_address is_slot is_one_slot chs_of address_of slot_of some_slot slot_at slot_bytes to_chs to_lba sector_at sectors_of place_at slot_make could_be_one link_at section file_content
section_10_sectors_in_at_most_1_section_sector_a_sector_that_is_absent_4 = refl

-- 2 sectors in at most 1 section sector: all are named
pub section_2_sectors_in_at_most_1_section_sector_all_are_named_5 : section (disks_of (patch_at 0 23 0 (hex 16 0x01800300050203000382010021000000) ∷ patch_at 0 23 504 (hex 8 0x0380010057000000) ∷ patch_at 0 87 0 (hex 40 0x028202006f0300000281020000000000028204004801000003810100000000000282010073010000) ∷ [])) (machine_of (disk_with 700 4 17 ∷ disk_with 0 16 63 ∷ disk_with 900 16 63 ∷ [])) (record { disk = 0; count = 1; address = Lba32 23 }) 2 1 ≡ record { places = (on 0 (191 ∷ 192 ∷ [])); looked = (on 0 (23 ∷ [])); refusal = None }
unfolding number16 number32 is_zero has_ranges has_address is_slot is_one_slot chs_of address_of slot_of some_slot slot_at slot_bytes to_chs to_lba sector_at sectors_of place_at slot_make could_be_one link_at section file_content
section_2_sectors_in_at_most_1_section_sector_all_are_named_5 = refl

-- 7 sectors in at most 2 section sectors: a sector that is absent
pub section_7_sectors_in_at_most_2_section_sectors_a_sector_that_is_absent : section (disks_of (patch_at 2 30 0 (hex 64 0x0382010083030000018001000100020003810300000000000380030011020000038001006d000000028104000000000001800100030a010017a4edb8d6d565a3) ∷ patch_at 2 30 504 (hex 8 0x0382010055000000) ∷ patch_at 2 85 504 (hex 8 0x0380010070000000) ∷ patch_at 0 112 0 (hex 64 0x018204002a0000000280020068010000028101000000000003800400dc01000003800300320000000381040000000000018001000b0802000380010047020000) ∷ patch_at 0 112 504 (hex 8 0x038201001e000000) ∷ [])) (machine_of (disk_with 700 4 17 ∷ disk_with 0 16 63 ∷ disk_with 900 16 63 ∷ [])) (record { disk = 2; count = 1; address = Lba32 30 }) 7 2 ≡ record { places = (on 2 (899 ∷ []) ++ on 0 (34 ∷ [])); looked = (on 2 (30 ∷ [])); refusal = (Some NotFound) }
unfolding number16 number32 is_zero has_ranges has_address is_slot is_one_slot chs_of address_of slot_of some_slot slot_at slot_bytes to_chs to_lba sector_at sectors_of place_at slot_make could_be_one link_at section file_content
section_7_sectors_in_at_most_2_section_sectors_a_sector_that_is_absent = refl

-- 2 sectors in at most 1 section sector: too many links
pub section_2_sectors_in_at_most_1_section_sector_too_many_links : section (disks_of (patch_at 0 39 504 (hex 8 0x0380010027000000) ∷ [])) (machine_of (disk_with 4096 16 63 ∷ [])) (record { disk = 0; count = 1; address = Lba32 39 }) 2 1 ≡ record { places = []; looked = (on 0 (39 ∷ [])); refusal = (Some (ChainTooLong 1)) }
unfolding number16 number32 is_zero has_ranges has_address is_slot is_one_slot chs_of address_of slot_of some_slot slot_at slot_bytes to_chs to_lba sector_at sectors_of place_at slot_make could_be_one link_at section file_content
section_2_sectors_in_at_most_1_section_sector_too_many_links = refl

-- 2 sectors in at most 1 section sector: all are named
pub section_2_sectors_in_at_most_1_section_sector_all_are_named_6 : section (disks_of (patch_at 0 42 0 (hex 40 0x038001000902000003800200af040000028003007202000002800300e601000003830100fc000000) ∷ [])) (machine_of (disk_with 1200 1 1 ∷ [])) (record { disk = 0; count = 1; address = Lba32 42 }) 2 1 ≡ record { places = (on 0 (521 ∷ 1199 ∷ [])); looked = (on 0 (42 ∷ [])); refusal = None }
unfolding number16 number32 is_zero has_ranges has_address is_slot is_one_slot chs_of address_of slot_of some_slot slot_at slot_bytes to_chs to_lba sector_at sectors_of place_at slot_make could_be_one link_at section file_content
section_2_sectors_in_at_most_1_section_sector_all_are_named_6 = refl

-- 4 sectors in at most 2 section sectors: a sector that is absent
pub section_4_sectors_in_at_most_2_section_sectors_a_sector_that_is_absent : section (disks_of (patch_at 0 44 0 (hex 16 0x01800400080200000381020087130000) ∷ [])) (machine_of (disk_with 300 2 9 ∷ disk_with 5000 255 63 ∷ [])) (record { disk = 0; count = 1; address = Lba32 44 }) 4 2 ≡ record { places = (on 0 (43 ∷ 44 ∷ [])); looked = (on 0 (44 ∷ [])); refusal = (Some NotFound) }
unfolding number16 number32 is_zero has_ranges has_address is_slot is_one_slot chs_of address_of slot_of some_slot slot_at slot_bytes to_chs to_lba sector_at sectors_of place_at slot_make could_be_one link_at section file_content
section_4_sectors_in_at_most_2_section_sectors_a_sector_that_is_absent = refl

-- 10 sectors in at most 3 section sectors: a sector that is absent
pub section_10_sectors_in_at_most_3_section_sectors_a_sector_that_is_absent : section (disks_of (patch_at 0 20 0 (hex 8 0x0380010064010000) ∷ patch_at 0 20 504 (hex 8 0x0380010054000000) ∷ patch_at 0 84 0 (hex 8 0x02800300d50e0000) ∷ patch_at 0 84 504 (hex 8 0x0380010065000000) ∷ patch_at 0 101 0 (hex 8 0x03800400ff0f0000) ∷ [])) (machine_of (disk_with 4096 16 63 ∷ [])) (record { disk = 0; count = 1; address = Lba32 20 }) 10 3 ≡ record { places = (on 0 (356 ∷ 3797 ∷ 3798 ∷ 3799 ∷ 4095 ∷ [])); looked = (on 0 (20 ∷ 84 ∷ 101 ∷ [])); refusal = (Some NotFound) }
unfolding number16 number32 is_zero has_ranges has_address is_slot is_one_slot chs_of address_of slot_of some_slot slot_at slot_bytes to_chs to_lba sector_at sectors_of place_at slot_make could_be_one link_at section file_content
section_10_sectors_in_at_most_3_section_sectors_a_sector_that_is_absent = refl

-- 2 sectors in at most 2 section sectors: too many links
pub section_2_sectors_in_at_most_2_section_sectors_too_many_links : section (disks_of (patch_at 0 25 504 (hex 8 0x0380010019000000) ∷ [])) (machine_of (disk_with 4096 16 63 ∷ [])) (record { disk = 0; count = 1; address = Lba32 25 }) 2 2 ≡ record { places = []; looked = (on 0 (25 ∷ 25 ∷ [])); refusal = (Some (ChainTooLong 2)) }
unfolding number16 number32 is_zero has_ranges has_address is_slot is_one_slot chs_of address_of slot_of some_slot slot_at slot_bytes to_chs to_lba sector_at sectors_of place_at slot_make could_be_one link_at section file_content
section_2_sectors_in_at_most_2_section_sectors_too_many_links = refl

-- 1 sectors in at most 1 section sector: all are named
pub section_1_sectors_in_at_most_1_section_sector_all_are_named_3 : section (disks_of (patch_at 0 40 0 (hex 16 0x0180030003030c0002800100490c0000) ∷ patch_at 0 40 504 (hex 8 0x0380010028000000) ∷ [])) (machine_of (disk_with 4096 16 63 ∷ [])) (record { disk = 0; count = 1; address = Lba32 40 }) 1 1 ≡ record { places = (on 0 (3782 ∷ [])); looked = (on 0 (40 ∷ [])); refusal = None }
unfolding number16 number32 is_zero has_ranges has_address is_slot is_one_slot chs_of address_of slot_of some_slot slot_at slot_bytes to_chs to_lba sector_at sectors_of place_at slot_make could_be_one link_at section file_content
section_1_sectors_in_at_most_1_section_sector_all_are_named_3 = refl

-- 1 sectors in at most 3 section sectors: all are named
pub section_1_sectors_in_at_most_3_section_sectors_all_are_named_2 : section (disks_of (patch_at 0 20 0 (hex 64 0x038004002300000003800100af04000001800200818d000003830100da00000003800100a7020000028004003b0400000180010041aa0000038004000f030000) ∷ patch_at 0 20 504 (hex 8 0x038001003e000000) ∷ patch_at 0 62 0 (hex 16 0x0280010062010000028004006e020000) ∷ patch_at 0 62 504 (hex 8 0x038001006c000000) ∷ patch_at 0 108 0 (hex 40 0x03800400310400000380040021020000038004006302000002800200870000000280030028040000) ∷ [])) (machine_of (disk_with 1200 1 1 ∷ [])) (record { disk = 0; count = 1; address = Lba32 20 }) 1 3 ≡ record { places = (on 0 (35 ∷ [])); looked = (on 0 (20 ∷ [])); refusal = None }
unfolding number16 number32 is_zero has_ranges has_address is_slot is_one_slot chs_of address_of slot_of some_slot slot_at slot_bytes to_chs to_lba sector_at sectors_of place_at slot_make could_be_one link_at section file_content
section_1_sectors_in_at_most_3_section_sectors_all_are_named_2 = refl

-- 15 sectors in at most 1 section sector: a sector that is absent
pub section_15_sectors_in_at_most_1_section_sector_a_sector_that_is_absent_5 : section (disks_of (patch_at 2 53 0 (hex 16 0x03810200000000000382010048010000) ∷ [])) (machine_of (disk_with 700 4 17 ∷ disk_with 0 16 63 ∷ disk_with 900 16 63 ∷ [])) (record { disk = 2; count = 1; address = Lba32 53 }) 15 1 ≡ record { places = []; looked = (on 2 (53 ∷ [])); refusal = (Some NotFound) }
unfolding number16 number32 is_zero has_ranges has_address is_slot is_one_slot chs_of address_of slot_of some_slot slot_at slot_bytes to_chs to_lba sector_at sectors_of place_at slot_make could_be_one link_at section file_content
section_15_sectors_in_at_most_1_section_sector_a_sector_that_is_absent_5 = refl

-- 15 sectors in at most 2 section sectors: a sector that is absent
pub section_15_sectors_in_at_most_2_section_sectors_a_sector_that_is_absent : section (disks_of (patch_at 2 55 0 (hex 40 0x03810200000000000381010000000000038203001b02000002820100440000000381020000000000) ∷ patch_at 2 55 504 (hex 8 0x0380010100000000) ∷ [])) (machine_of (disk_with 700 4 17 ∷ disk_with 0 16 63 ∷ disk_with 900 16 63 ∷ [])) (record { disk = 2; count = 1; address = Lba32 55 }) 15 2 ≡ record { places = []; looked = (on 2 (55 ∷ [])); refusal = (Some NotFound) }
unfolding number16 number32 is_zero has_ranges has_address is_slot is_one_slot chs_of address_of slot_of some_slot slot_at slot_bytes to_chs to_lba sector_at sectors_of place_at slot_make could_be_one link_at section file_content
section_15_sectors_in_at_most_2_section_sectors_a_sector_that_is_absent = refl

-- 10 sectors in at most 1 section sector: all are named
pub section_10_sectors_in_at_most_1_section_sector_all_are_named : section (disks_of (patch_at 0 27 0 (hex 64 0x038001008f0a0000038003007d04000002800100ff0f00000180010004000800018002001100030003800100210e000003800100de0a000049770f945a4ad419) ∷ patch_at 0 27 504 (hex 8 0x038001001b000000) ∷ [])) (machine_of (disk_with 4096 16 63 ∷ [])) (record { disk = 0; count = 1; address = Lba32 27 }) 10 1 ≡ record { places = (on 0 (2703 ∷ 1149 ∷ 1150 ∷ 1151 ∷ 4095 ∷ 507 ∷ 205 ∷ 206 ∷ 3617 ∷ 2782 ∷ [])); looked = (on 0 (27 ∷ [])); refusal = None }
unfolding number16 number32 is_zero has_ranges has_address is_slot is_one_slot chs_of address_of slot_of some_slot slot_at slot_bytes to_chs to_lba sector_at sectors_of place_at slot_make could_be_one link_at section file_content
section_10_sectors_in_at_most_1_section_sector_all_are_named = refl

-- 4 sectors in at most 1 section sector: all are named
pub section_4_sectors_in_at_most_1_section_sector_all_are_named_2 : section (disks_of (patch_at 0 35 0 (hex 64 0x0380020021010000028002008a010000038001007d01000002800400a504000003800400980400000180040041a90000038001005b030000028001005d010000) ∷ [])) (machine_of (disk_with 1200 1 1 ∷ [])) (record { disk = 0; count = 1; address = Lba32 35 }) 4 1 ≡ record { places = (on 0 (289 ∷ 290 ∷ 394 ∷ 395 ∷ [])); looked = (on 0 (35 ∷ [])); refusal = None }
unfolding number16 number32 is_zero has_ranges has_address is_slot is_one_slot chs_of address_of slot_of some_slot slot_at slot_bytes to_chs to_lba sector_at sectors_of place_at slot_make could_be_one link_at section file_content
section_4_sectors_in_at_most_1_section_sector_all_are_named_2 = refl

-- 1 sectors in at most 1 section sector: all are named
pub section_1_sectors_in_at_most_1_section_sector_all_are_named_4 : section (disks_of (patch_at 0 51 0 (hex 8 0x0182030002000300) ∷ patch_at 0 51 504 (hex 8 0x0380010033000000) ∷ [])) (machine_of (disk_with 700 4 17 ∷ disk_with 0 16 63 ∷ disk_with 900 16 63 ∷ [])) (record { disk = 0; count = 1; address = Lba32 51 }) 1 1 ≡ record { places = (on 2 (190 ∷ [])); looked = (on 0 (51 ∷ [])); refusal = None }
unfolding number16 number32 is_zero has_ranges has_address is_slot is_one_slot chs_of address_of slot_of some_slot slot_at slot_bytes to_chs to_lba sector_at sectors_of place_at slot_make could_be_one link_at section file_content
section_1_sectors_in_at_most_1_section_sector_all_are_named_4 = refl

-- 2 sectors in at most 2 section sectors: a sector that is absent
pub section_2_sectors_in_at_most_2_section_sectors_a_sector_that_is_absent_2 : section (disks_of (patch_at 0 56 0 (hex 24 0x0180040001c700000380010057020000028001005e040000) ∷ patch_at 0 56 504 (hex 8 0x0380010048000000) ∷ patch_at 0 72 504 (hex 8 0x038001009f860100) ∷ [])) (machine_of (disk_with 1200 1 1 ∷ [])) (record { disk = 0; count = 1; address = Lba32 56 }) 2 2 ≡ record { places = (on 0 (199 ∷ [])); looked = (on 0 (56 ∷ [])); refusal = (Some NotFound) }
unfolding number16 number32 is_zero has_ranges has_address is_slot is_one_slot chs_of address_of slot_of some_slot slot_at slot_bytes to_chs to_lba sector_at sectors_of place_at slot_make could_be_one link_at section file_content
section_2_sectors_in_at_most_2_section_sectors_a_sector_that_is_absent_2 = refl

-- 15 sectors in at most 1 section sector: too many links
pub section_15_sectors_in_at_most_1_section_sector_too_many_links_2 : section (disks_of (patch_at 0 35 0 (hex 40 0x038003001e080000038001001f040000018001001f0005000180010001040100038002002c0c0000) ∷ patch_at 0 35 504 (hex 8 0x0380010023000000) ∷ [])) (machine_of (disk_with 4096 16 63 ∷ [])) (record { disk = 0; count = 1; address = Lba32 35 }) 15 1 ≡ record { places = (on 0 (2078 ∷ 2079 ∷ 2080 ∷ 1055 ∷ 345 ∷ 4095 ∷ 3116 ∷ 3117 ∷ [])); looked = (on 0 (35 ∷ [])); refusal = (Some (ChainTooLong 1)) }
unfolding number16 number32 is_zero has_ranges has_address is_slot is_one_slot chs_of address_of slot_of some_slot slot_at slot_bytes to_chs to_lba sector_at sectors_of place_at slot_make could_be_one link_at section file_content
section_15_sectors_in_at_most_1_section_sector_too_many_links_2 = refl

-- 15 sectors in at most 1 section sector: a bad slot
pub section_15_sectors_in_at_most_1_section_sector_a_bad_slot_2 : section (disks_of (patch_at 0 57 0 (hex 24 0x018004002d0100005499d7c6c450b068018001000c030700) ∷ [])) (machine_of (disk_with 4096 16 63 ∷ [])) (record { disk = 0; count = 1; address = Lba32 57 }) 15 1 ≡ record { places = (on 0 (1052 ∷ 1053 ∷ 1054 ∷ 1055 ∷ [])); looked = (on 0 (57 ∷ [])); refusal = (Some (BadSlot 1)) }
unfolding number16 number32 is_zero has_ranges has_address is_slot is_one_slot chs_of address_of slot_of some_slot slot_at slot_bytes to_chs to_lba sector_at sectors_of place_at slot_make could_be_one link_at section file_content
section_15_sectors_in_at_most_1_section_sector_a_bad_slot_2 = refl

-- 7 sectors in at most 1 section sector: a bad slot
pub section_7_sectors_in_at_most_1_section_sector_a_bad_slot : section (disks_of (patch_at 2 34 0 (hex 40 0x695daa05cd3b0b26038001001b0100000280010067010000018101000100000003800100f0000000) ∷ patch_at 2 34 504 (hex 8 0x0380010061000000) ∷ patch_at 0 97 504 (hex 8 0x0382010022000000) ∷ [])) (machine_of (disk_with 700 4 17 ∷ disk_with 0 16 63 ∷ disk_with 900 16 63 ∷ [])) (record { disk = 2; count = 1; address = Lba32 34 }) 7 1 ≡ record { places = []; looked = (on 2 (34 ∷ [])); refusal = (Some (BadSlot 0)) }
unfolding number16 number32 is_zero has_ranges has_address is_slot is_one_slot chs_of address_of slot_of some_slot slot_at slot_bytes to_chs to_lba sector_at sectors_of place_at slot_make could_be_one link_at section file_content
section_7_sectors_in_at_most_1_section_sector_a_bad_slot = refl

-- 10 sectors in at most 3 section sectors: a sector that is absent
pub section_10_sectors_in_at_most_3_section_sectors_a_sector_that_is_absent_2 : section (disks_of (patch_at 0 32 0 (hex 24 0x02800400ff0f0000038001009e0f0000028301002f0d0000) ∷ patch_at 0 32 504 (hex 8 0x0380010054000000) ∷ patch_at 0 84 0 (hex 24 0x03800100c2030000a274cec11de6c21d02800200800a0000) ∷ patch_at 0 84 504 (hex 8 0x038001006a000000) ∷ patch_at 0 106 0 (hex 16 0x028301006c0e00000380020067030000) ∷ patch_at 0 106 504 (hex 8 0x038002001e000000) ∷ [])) (machine_of (disk_with 4096 16 63 ∷ [])) (record { disk = 0; count = 1; address = Lba32 32 }) 10 3 ≡ record { places = (on 0 (4095 ∷ [])); looked = (on 0 (32 ∷ [])); refusal = (Some NotFound) }
unfolding number16 number32 is_zero has_ranges has_address is_slot is_one_slot chs_of address_of slot_of some_slot slot_at slot_bytes to_chs to_lba sector_at sectors_of place_at slot_make could_be_one link_at section file_content
section_10_sectors_in_at_most_3_section_sectors_a_sector_that_is_absent_2 = refl

-- 7 sectors in at most 1 section sector: a sector that is absent
pub section_7_sectors_in_at_most_1_section_sector_a_sector_that_is_absent_3 : section (disks_of (patch_at 0 54 0 (hex 40 0x0380020013000000018003000187000003800100170400000380020086020000038004001b010000) ∷ patch_at 0 54 504 (hex 8 0x0380010042000000) ∷ patch_at 0 66 0 (hex 24 0x03800400af04000001800400c160000003800100b9010000) ∷ patch_at 0 66 504 (hex 8 0x038001006b000000) ∷ patch_at 0 107 0 (hex 64 0x0180020081270000d3a0f30a2f7b7f560380010015020000038001007404000003800100230200000180020041ea000001800400c1f800000380030010030000) ∷ [])) (machine_of (disk_with 1200 1 1 ∷ [])) (record { disk = 0; count = 1; address = Lba32 54 }) 7 1 ≡ record { places = (on 0 (19 ∷ 20 ∷ 135 ∷ [])); looked = (on 0 (54 ∷ [])); refusal = (Some NotFound) }
unfolding number16 number32 is_zero has_ranges has_address is_slot is_one_slot chs_of address_of slot_of some_slot slot_at slot_bytes to_chs to_lba sector_at sectors_of place_at slot_make could_be_one link_at section file_content
section_7_sectors_in_at_most_1_section_sector_a_sector_that_is_absent_3 = refl

-- 15 sectors in at most 1 section sector: a sector that is absent
pub section_15_sectors_in_at_most_1_section_sector_a_sector_that_is_absent_6 : section (disks_of (patch_at 2 25 0 (hex 64 0x03800400bb02000003810100000000000b7a42006e75e1f3028101000000000040d649ea3cc722c30381020000000000028004007b0000000381010000000000) ∷ patch_at 2 25 504 (hex 8 0x0382010019000000) ∷ [])) (machine_of (disk_with 700 4 17 ∷ disk_with 0 16 63 ∷ disk_with 900 16 63 ∷ [])) (record { disk = 2; count = 1; address = Lba32 25 }) 15 1 ≡ record { places = (on 0 (699 ∷ [])); looked = (on 2 (25 ∷ [])); refusal = (Some NotFound) }
unfolding number16 number32 is_zero has_ranges has_address is_slot is_one_slot chs_of address_of slot_of some_slot slot_at slot_bytes to_chs to_lba sector_at sectors_of place_at slot_make could_be_one link_at section file_content
section_15_sectors_in_at_most_1_section_sector_a_sector_that_is_absent_6 = refl

-- 15 sectors in at most 1 section sector: a bad slot
pub section_15_sectors_in_at_most_1_section_sector_a_bad_slot_3 : section (disks_of (patch_at 0 41 0 (hex 8 0xd08098392f00330a) ∷ patch_at 0 41 504 (hex 8 0x0380010029000000) ∷ [])) (machine_of (disk_with 1200 1 1 ∷ [])) (record { disk = 0; count = 1; address = Lba32 41 }) 15 1 ≡ record { places = []; looked = (on 0 (41 ∷ [])); refusal = (Some (BadSlot 0)) }
unfolding number16 number32 is_zero has_ranges has_address is_slot is_one_slot chs_of address_of slot_of some_slot slot_at slot_bytes to_chs to_lba sector_at sectors_of place_at slot_make could_be_one link_at section file_content
section_15_sectors_in_at_most_1_section_sector_a_bad_slot_3 = refl

-- 4 sectors in at most 2 section sectors: too many links
pub section_4_sectors_in_at_most_2_section_sectors_too_many_links : section (disks_of (patch_at 0 41 504 (hex 8 0x0380010029000000) ∷ [])) (machine_of (disk_with 300 2 9 ∷ disk_with 5000 255 63 ∷ [])) (record { disk = 0; count = 1; address = Lba32 41 }) 4 2 ≡ record { places = []; looked = (on 0 (41 ∷ 41 ∷ [])); refusal = (Some (ChainTooLong 2)) }
unfolding number16 number32 is_zero has_ranges has_address is_slot is_one_slot chs_of address_of slot_of some_slot slot_at slot_bytes to_chs to_lba sector_at sectors_of place_at slot_make could_be_one link_at section file_content
section_4_sectors_in_at_most_2_section_sectors_too_many_links = refl

-- 15 sectors in at most 1 section sector: a bad slot
pub section_15_sectors_in_at_most_1_section_sector_a_bad_slot_4 : section (disks_of (patch_at 0 55 504 (hex 8 0x038002001e000000) ∷ [])) (machine_of (disk_with 300 2 9 ∷ disk_with 5000 255 63 ∷ [])) (record { disk = 0; count = 1; address = Lba32 55 }) 15 1 ≡ record { places = []; looked = (on 0 (55 ∷ [])); refusal = (Some (BadSlot 63)) }
unfolding number16 number32 is_zero has_ranges has_address is_slot is_one_slot chs_of address_of slot_of some_slot slot_at slot_bytes to_chs to_lba sector_at sectors_of place_at slot_make could_be_one link_at section file_content
section_15_sectors_in_at_most_1_section_sector_a_bad_slot_4 = refl

-- 15 sectors in at most 2 section sectors: too many links
pub section_15_sectors_in_at_most_2_section_sectors_too_many_links : section (disks_of (patch_at 0 52 0 (hex 40 0x03800100aa0400000180010041f40000038001006e04000003800100d701000001800100011f0000) ∷ patch_at 0 52 504 (hex 8 0x0380010034000000) ∷ [])) (machine_of (disk_with 1200 1 1 ∷ [])) (record { disk = 0; count = 1; address = Lba32 52 }) 15 2 ≡ record { places = (on 0 (1194 ∷ 500 ∷ 1134 ∷ 471 ∷ 31 ∷ 1194 ∷ 500 ∷ 1134 ∷ 471 ∷ 31 ∷ [])); looked = (on 0 (52 ∷ 52 ∷ [])); refusal = (Some (ChainTooLong 2)) }
unfolding number16 number32 is_zero has_ranges has_address is_slot is_one_slot chs_of address_of slot_of some_slot slot_at slot_bytes to_chs to_lba sector_at sectors_of place_at slot_make could_be_one link_at section file_content
section_15_sectors_in_at_most_2_section_sectors_too_many_links = refl

-- 1 sectors in at most 2 section sectors: an end after 0
pub section_1_sectors_in_at_most_2_section_sectors_an_end_after_0 : section (disks_of []) (machine_of (disk_with 700 4 17 ∷ disk_with 0 16 63 ∷ disk_with 900 16 63 ∷ [])) (record { disk = 0; count = 1; address = Lba32 25 }) 1 2 ≡ record { places = []; looked = (on 0 (25 ∷ [])); refusal = (Some (ShortChain 0)) }
unfolding number16 number32 is_zero has_ranges has_address is_slot is_one_slot chs_of address_of slot_of some_slot slot_at slot_bytes to_chs to_lba sector_at sectors_of place_at slot_make could_be_one link_at section file_content
section_1_sectors_in_at_most_2_section_sectors_an_end_after_0 = refl

-- 7 sectors in at most 1 section sector: all are named
pub section_7_sectors_in_at_most_1_section_sector_all_are_named : section (disks_of (patch_at 0 57 0 (hex 24 0x018204001700000003820100c40200000182030016000000) ∷ [])) (machine_of (disk_with 700 4 17 ∷ disk_with 0 16 63 ∷ disk_with 900 16 63 ∷ [])) (record { disk = 0; count = 1; address = Lba32 57 }) 7 1 ≡ record { places = (on 2 (22 ∷ 23 ∷ 24 ∷ 25 ∷ 708 ∷ 21 ∷ 22 ∷ [])); looked = (on 0 (57 ∷ [])); refusal = None }
unfolding number16 number32 is_zero has_ranges has_address is_slot is_one_slot chs_of address_of slot_of some_slot slot_at slot_bytes to_chs to_lba sector_at sectors_of place_at slot_make could_be_one link_at section file_content
section_7_sectors_in_at_most_1_section_sector_all_are_named = refl

-- 7 sectors in at most 2 section sectors: a sector that is absent
pub section_7_sectors_in_at_most_2_section_sectors_a_sector_that_is_absent_2 : section (disks_of (patch_at 2 20 0 (hex 24 0x03800100bb02000001810100010000000380010053020000) ∷ [])) (machine_of (disk_with 700 4 17 ∷ disk_with 0 16 63 ∷ disk_with 900 16 63 ∷ [])) (record { disk = 2; count = 1; address = Lba32 20 }) 7 2 ≡ record { places = (on 0 (699 ∷ [])); looked = (on 2 (20 ∷ [])); refusal = (Some NotFound) }
unfolding number16 number32 is_zero has_ranges has_address is_slot is_one_slot chs_of address_of slot_of some_slot slot_at slot_bytes to_chs to_lba sector_at sectors_of place_at slot_make could_be_one link_at section file_content
section_7_sectors_in_at_most_2_section_sectors_a_sector_that_is_absent_2 = refl

-- 4 sectors in at most 1 section sector: all are named
pub section_4_sectors_in_at_most_1_section_sector_all_are_named_3 : section (disks_of (patch_at 0 59 0 (hex 64 0x03800100c500000003800400aa00000003800300af04000003800300af04000001800200c1b90000038003002d0300000180010041a00000038001007b030000) ∷ patch_at 0 59 504 (hex 8 0x0380010041000000) ∷ patch_at 0 65 0 (hex 8 0x02800100c2020000) ∷ patch_at 0 65 504 (hex 8 0x0380010080000000) ∷ patch_at 0 128 0 (hex 40 0x01800200415800000380030034040000038004006e00000003800300780300000380020098000000) ∷ patch_at 0 128 504 (hex 8 0x038001003b000000) ∷ [])) (machine_of (disk_with 1200 1 1 ∷ [])) (record { disk = 0; count = 1; address = Lba32 59 }) 4 1 ≡ record { places = (on 0 (197 ∷ 170 ∷ 171 ∷ 172 ∷ [])); looked = (on 0 (59 ∷ [])); refusal = None }
unfolding number16 number32 is_zero has_ranges has_address is_slot is_one_slot chs_of address_of slot_of some_slot slot_at slot_bytes to_chs to_lba sector_at sectors_of place_at slot_make could_be_one link_at section file_content
section_4_sectors_in_at_most_1_section_sector_all_are_named_3 = refl

-- 1 sectors in at most 2 section sectors: all are named
pub section_1_sectors_in_at_most_2_section_sectors_all_are_named_2 : section (disks_of (patch_at 0 53 0 (hex 16 0x03800200f400000001800300010e0000) ∷ [])) (machine_of (disk_with 1200 1 1 ∷ [])) (record { disk = 0; count = 1; address = Lba32 53 }) 1 2 ≡ record { places = (on 0 (244 ∷ [])); looked = (on 0 (53 ∷ [])); refusal = None }
unfolding number16 number32 is_zero has_ranges has_address is_slot is_one_slot chs_of address_of slot_of some_slot slot_at slot_bytes to_chs to_lba sector_at sectors_of place_at slot_make could_be_one link_at section file_content
section_1_sectors_in_at_most_2_section_sectors_all_are_named_2 = refl

-- 4 sectors in at most 1 section sector: all are named
pub section_4_sectors_in_at_most_1_section_sector_all_are_named_4 : section (disks_of (patch_at 0 41 0 (hex 16 0x0380010017010000028004000b0a0000) ∷ [])) (machine_of (disk_with 4096 16 63 ∷ [])) (record { disk = 0; count = 1; address = Lba32 41 }) 4 1 ≡ record { places = (on 0 (279 ∷ 2571 ∷ 2572 ∷ 2573 ∷ [])); looked = (on 0 (41 ∷ [])); refusal = None }
unfolding number16 number32 is_zero has_ranges has_address is_slot is_one_slot chs_of address_of slot_of some_slot slot_at slot_bytes to_chs to_lba sector_at sectors_of place_at slot_make could_be_one link_at section file_content
section_4_sectors_in_at_most_1_section_sector_all_are_named_4 = refl

-- 4 sectors in at most 2 section sectors: an end after 0
pub section_4_sectors_in_at_most_2_section_sectors_an_end_after_0_2 : section (disks_of []) (machine_of (disk_with 300 2 9 ∷ disk_with 5000 255 63 ∷ [])) (record { disk = 1; count = 1; address = Lba32 25 }) 4 2 ≡ record { places = []; looked = (on 1 (25 ∷ [])); refusal = (Some (ShortChain 0)) }
unfolding number16 number32 is_zero has_ranges has_address is_slot is_one_slot chs_of address_of slot_of some_slot slot_at slot_bytes to_chs to_lba sector_at sectors_of place_at slot_make could_be_one link_at section file_content
section_4_sectors_in_at_most_2_section_sectors_an_end_after_0_2 = refl

-- 7 sectors in at most 2 section sectors: an end after 2
pub section_7_sectors_in_at_most_2_section_sectors_an_end_after_2 : section (disks_of (patch_at 0 36 0 (hex 8 0x0380020016030000) ∷ [])) (machine_of (disk_with 4096 16 63 ∷ [])) (record { disk = 0; count = 1; address = Lba32 36 }) 7 2 ≡ record { places = (on 0 (790 ∷ 791 ∷ [])); looked = (on 0 (36 ∷ [])); refusal = (Some (ShortChain 2)) }
unfolding number16 number32 is_zero has_ranges has_address is_slot is_one_slot chs_of address_of slot_of some_slot slot_at slot_bytes to_chs to_lba sector_at sectors_of place_at slot_make could_be_one link_at section file_content
section_7_sectors_in_at_most_2_section_sectors_an_end_after_2 = refl

-- 10 sectors in at most 1 section sector: a sector that is absent
pub section_10_sectors_in_at_most_1_section_sector_a_sector_that_is_absent_5 : section (disks_of (patch_at 2 50 0 (hex 40 0x03800300a2000000028201006b000000038001001e0200000181040001000000018001000b060000) ∷ [])) (machine_of (disk_with 700 4 17 ∷ disk_with 0 16 63 ∷ disk_with 900 16 63 ∷ [])) (record { disk = 2; count = 1; address = Lba32 50 }) 10 1 ≡ record { places = (on 0 (162 ∷ 163 ∷ 164 ∷ []) ++ on 2 (107 ∷ []) ++ on 0 (542 ∷ [])); looked = (on 2 (50 ∷ [])); refusal = (Some NotFound) }
unfolding number16 number32 is_zero has_ranges has_address is_slot is_one_slot chs_of address_of slot_of some_slot slot_at slot_bytes to_chs to_lba sector_at sectors_of place_at slot_make could_be_one link_at section file_content
section_10_sectors_in_at_most_1_section_sector_a_sector_that_is_absent_5 = refl

-- 2 sectors in at most 2 section sectors: an end after 0
pub section_2_sectors_in_at_most_2_section_sectors_an_end_after_0 : section (disks_of []) (machine_of (disk_with 4096 16 63 ∷ [])) (record { disk = 0; count = 1; address = Lba32 30 }) 2 2 ≡ record { places = []; looked = (on 0 (30 ∷ [])); refusal = (Some (ShortChain 0)) }
unfolding number16 number32 is_zero has_ranges has_address is_slot is_one_slot chs_of address_of slot_of some_slot slot_at slot_bytes to_chs to_lba sector_at sectors_of place_at slot_make could_be_one link_at section file_content
section_2_sectors_in_at_most_2_section_sectors_an_end_after_0 = refl

-- 4 sectors in at most 1 section sector: an end after 0
pub section_4_sectors_in_at_most_1_section_sector_an_end_after_0 : section (disks_of []) (machine_of (disk_with 1200 1 1 ∷ [])) (record { disk = 0; count = 1; address = Lba32 46 }) 4 1 ≡ record { places = []; looked = (on 0 (46 ∷ [])); refusal = (Some (ShortChain 0)) }
unfolding number16 number32 is_zero has_ranges has_address is_slot is_one_slot chs_of address_of slot_of some_slot slot_at slot_bytes to_chs to_lba sector_at sectors_of place_at slot_make could_be_one link_at section file_content
section_4_sectors_in_at_most_1_section_sector_an_end_after_0 = refl

-- 15 sectors in at most 4 section sectors: a bad slot
pub section_15_sectors_in_at_most_4_section_sectors_a_bad_slot : section (disks_of (patch_at 0 35 0 (hex 16 0x0180010011010b000180010001040100) ∷ patch_at 0 35 504 (hex 8 0x0380010049000000) ∷ patch_at 0 73 504 (hex 8 0x038001006b000000) ∷ patch_at 0 107 0 (hex 64 0xb7ca4f70f90efe3b03800100b2080000028002008608000003800100ac0a00000180040031010300038001002f090000028004003207000003800100cb030000) ∷ [])) (machine_of (disk_with 4096 16 63 ∷ [])) (record { disk = 0; count = 1; address = Lba32 35 }) 15 4 ≡ record { places = (on 0 (1717 ∷ 4095 ∷ [])); looked = (on 0 (35 ∷ 73 ∷ 107 ∷ [])); refusal = (Some (BadSlot 128)) }
unfolding number16 number32 is_zero has_ranges has_address is_slot is_one_slot chs_of address_of slot_of some_slot slot_at slot_bytes to_chs to_lba sector_at sectors_of place_at slot_make could_be_one link_at section file_content
section_15_sectors_in_at_most_4_section_sectors_a_bad_slot = refl

-- Cases of the model, written by tools/model_cases.py: the sectors that a section lists.
use Rattle.std.proofs.Common.{◌≡◌, ◌∷◌, ◌++◌, [], None, Some, replicate, refl}
use Rattle.lilo_model.specs.Bytes.{number16, number32, is_zero}
use Rattle.lilo_model.specs.Section.{link_at, section, file_content, BadSlot, ChainTooLong, ShortChain, NotFound}
use Rattle.lilo_model.specs.Slots.{has_ranges, has_address, is_slot, is_one_slot, chs_of, address_of, slot_of, some_slot, slot_at, slot_bytes, to_chs, to_lba, sector_at, sectors_of, place_at, slot_make, could_be_one, Lba32}
use Rattle.model_cases.specs.Sparse.{hex, patch_at, disks_of, disk_with, machine_of, on}

-- the three sectors of a kernel
pub section_the_three_sectors_of_a_kernel : section (disks_of (patch_at 0 100 0 (hex 24 0x038001005200000003800100530000000380010054000000) ∷ [])) (machine_of (disk_with 4096 16 63 ∷ [])) (record { disk = 0; count = 1; address = Lba32 100 }) 3 1 ≡ record { places = (on 0 (82 ∷ 83 ∷ 84 ∷ [])); looked = (on 0 (100 ∷ [])); refusal = None }
unfolding number16 number32 is_zero has_ranges has_address is_slot is_one_slot chs_of address_of slot_of some_slot slot_at slot_bytes to_chs to_lba sector_at sectors_of place_at slot_make could_be_one link_at section file_content
section_the_three_sectors_of_a_kernel = refl

-- the zero sector at the places of a hole
pub section_the_zero_sector_at_the_places_of_a_hole : section (disks_of (patch_at 0 100 0 (hex 72 0x03800100520000000380010053000000038001005400000003800100550000000380010062000000038001006200000003800100580000000380010059000000038001005a000000) ∷ [])) (machine_of (disk_with 4096 16 63 ∷ [])) (record { disk = 0; count = 1; address = Lba32 100 }) 9 1 ≡ record { places = (on 0 (82 ∷ 83 ∷ 84 ∷ 85 ∷ 98 ∷ 98 ∷ 88 ∷ 89 ∷ 90 ∷ [])); looked = (on 0 (100 ∷ [])); refusal = None }
unfolding number16 number32 is_zero has_ranges has_address is_slot is_one_slot chs_of address_of slot_of some_slot slot_at slot_bytes to_chs to_lba sector_at sectors_of place_at slot_make could_be_one link_at section file_content
section_the_zero_sector_at_the_places_of_a_hole = refl

-- one slot of three sectors
pub section_one_slot_of_three_sectors : section (disks_of (patch_at 0 100 0 (hex 8 0x0380030052000000) ∷ [])) (machine_of (disk_with 4096 16 63 ∷ [])) (record { disk = 0; count = 1; address = Lba32 100 }) 3 1 ≡ record { places = (on 0 (82 ∷ 83 ∷ 84 ∷ [])); looked = (on 0 (100 ∷ [])); refusal = None }
unfolding number16 number32 is_zero has_ranges has_address is_slot is_one_slot chs_of address_of slot_of some_slot slot_at slot_bytes to_chs to_lba sector_at sectors_of place_at slot_make could_be_one link_at section file_content
section_one_slot_of_three_sectors = refl

-- one slot of three sectors by cylinder, head and sector
pub section_one_slot_of_three_sectors_by_cylinder_head_and_sector : section (disks_of (patch_at 0 100 0 (hex 8 0x0180030014000100) ∷ [])) (machine_of (disk_with 4096 16 63 ∷ [])) (record { disk = 0; count = 1; address = Lba32 100 }) 3 1 ≡ record { places = (on 0 (82 ∷ 83 ∷ 84 ∷ [])); looked = (on 0 (100 ∷ [])); refusal = None }
unfolding number16 number32 is_zero has_ranges has_address is_slot is_one_slot chs_of address_of slot_of some_slot slot_at slot_bytes to_chs to_lba sector_at sectors_of place_at slot_make could_be_one link_at section file_content
section_one_slot_of_three_sectors_by_cylinder_head_and_sector = refl

-- a section whose link is itself
pub section_a_section_whose_link_is_itself : section (disks_of (patch_at 0 100 0 (hex 24 0x038001005200000003800100530000000380010054000000) ∷ patch_at 0 100 504 (hex 8 0x0380010064000000) ∷ [])) (machine_of (disk_with 4096 16 63 ∷ [])) (record { disk = 0; count = 1; address = Lba32 100 }) 4 1 ≡ record { places = (on 0 (82 ∷ 83 ∷ 84 ∷ [])); looked = (on 0 (100 ∷ [])); refusal = (Some (ChainTooLong 1)) }
unfolding number16 number32 is_zero has_ranges has_address is_slot is_one_slot chs_of address_of slot_of some_slot slot_at slot_bytes to_chs to_lba sector_at sectors_of place_at slot_make could_be_one link_at section file_content
section_a_section_whose_link_is_itself = refl

-- a section whose link is itself, followed once more
pub section_a_section_whose_link_is_itself_followed_once_more : section (disks_of (patch_at 0 100 0 (hex 24 0x038001005200000003800100530000000380010054000000) ∷ patch_at 0 100 504 (hex 8 0x0380010064000000) ∷ [])) (machine_of (disk_with 4096 16 63 ∷ [])) (record { disk = 0; count = 1; address = Lba32 100 }) 6 2 ≡ record { places = (on 0 (82 ∷ 83 ∷ 84 ∷ 82 ∷ 83 ∷ 84 ∷ [])); looked = (on 0 (100 ∷ 100 ∷ [])); refusal = None }
unfolding number16 number32 is_zero has_ranges has_address is_slot is_one_slot chs_of address_of slot_of some_slot slot_at slot_bytes to_chs to_lba sector_at sectors_of place_at slot_make could_be_one link_at section file_content
section_a_section_whose_link_is_itself_followed_once_more = refl

-- a section whose link is itself, three times
pub section_a_section_whose_link_is_itself_three_times : section (disks_of (patch_at 0 100 0 (hex 24 0x038001005200000003800100530000000380010054000000) ∷ patch_at 0 100 504 (hex 8 0x0380010064000000) ∷ [])) (machine_of (disk_with 4096 16 63 ∷ [])) (record { disk = 0; count = 1; address = Lba32 100 }) 10 3 ≡ record { places = (on 0 (82 ∷ 83 ∷ 84 ∷ 82 ∷ 83 ∷ 84 ∷ 82 ∷ 83 ∷ 84 ∷ [])); looked = (on 0 (100 ∷ 100 ∷ 100 ∷ [])); refusal = (Some (ChainTooLong 3)) }
unfolding number16 number32 is_zero has_ranges has_address is_slot is_one_slot chs_of address_of slot_of some_slot slot_at slot_bytes to_chs to_lba sector_at sectors_of place_at slot_make could_be_one link_at section file_content
section_a_section_whose_link_is_itself_three_times = refl

-- a third slot that is zero
pub section_a_third_slot_that_is_zero : section (disks_of (patch_at 0 100 0 (hex 16 0x03800100520000000380010053000000) ∷ [])) (machine_of (disk_with 4096 16 63 ∷ [])) (record { disk = 0; count = 1; address = Lba32 100 }) 3 1 ≡ record { places = (on 0 (82 ∷ 83 ∷ [])); looked = (on 0 (100 ∷ [])); refusal = (Some (ShortChain 2)) }
unfolding number16 number32 is_zero has_ranges has_address is_slot is_one_slot chs_of address_of slot_of some_slot slot_at slot_bytes to_chs to_lba sector_at sectors_of place_at slot_make could_be_one link_at section file_content
section_a_third_slot_that_is_zero = refl

-- no sector needed
pub section_no_sector_needed : section (disks_of (patch_at 0 100 0 (replicate 8 255) ∷ [])) (machine_of (disk_with 4096 16 63 ∷ [])) (record { disk = 0; count = 1; address = Lba32 100 }) 0 1 ≡ record { places = []; looked = []; refusal = None }
unfolding number16 number32 is_zero has_ranges has_address is_slot is_one_slot chs_of address_of slot_of some_slot slot_at slot_bytes to_chs to_lba sector_at sectors_of place_at slot_make could_be_one link_at section file_content
section_no_sector_needed = refl

-- no sector needed in no section sector
pub section_no_sector_needed_in_no_section_sector : section (disks_of []) (machine_of (disk_with 4096 16 63 ∷ [])) (record { disk = 0; count = 1; address = Lba32 100 }) 0 0 ≡ record { places = []; looked = []; refusal = None }
unfolding number16 number32 is_zero has_ranges has_address is_slot is_one_slot chs_of address_of slot_of some_slot slot_at slot_bytes to_chs to_lba sector_at sectors_of place_at slot_make could_be_one link_at section file_content
section_no_sector_needed_in_no_section_sector = refl

-- a sector needed in no section sector
pub section_a_sector_needed_in_no_section_sector : section (disks_of (patch_at 0 100 0 (hex 24 0x038001005200000003800100530000000380010054000000) ∷ [])) (machine_of (disk_with 4096 16 63 ∷ [])) (record { disk = 0; count = 1; address = Lba32 100 }) 1 0 ≡ record { places = []; looked = []; refusal = (Some (ChainTooLong 0)) }
unfolding number16 number32 is_zero has_ranges has_address is_slot is_one_slot chs_of address_of slot_of some_slot slot_at slot_bytes to_chs to_lba sector_at sectors_of place_at slot_make could_be_one link_at section file_content
section_a_sector_needed_in_no_section_sector = refl

-- an empty section sector
pub section_an_empty_section_sector : section (disks_of []) (machine_of (disk_with 4096 16 63 ∷ [])) (record { disk = 0; count = 1; address = Lba32 100 }) 1 1 ≡ record { places = []; looked = (on 0 (100 ∷ [])); refusal = (Some (ShortChain 0)) }
unfolding number16 number32 is_zero has_ranges has_address is_slot is_one_slot chs_of address_of slot_of some_slot slot_at slot_bytes to_chs to_lba sector_at sectors_of place_at slot_make could_be_one link_at section file_content
section_an_empty_section_sector = refl

-- a bad slot after the last that is needed is never met
pub section_a_bad_slot_after_the_last_that_is_needed_is_never_met : section (disks_of (patch_at 0 100 0 (hex 32 0x038001005200000003800100530000000380010054000000ffffffffffffffff) ∷ [])) (machine_of (disk_with 4096 16 63 ∷ [])) (record { disk = 0; count = 1; address = Lba32 100 }) 3 1 ≡ record { places = (on 0 (82 ∷ 83 ∷ 84 ∷ [])); looked = (on 0 (100 ∷ [])); refusal = None }
unfolding number16 number32 is_zero has_ranges has_address is_slot is_one_slot chs_of address_of slot_of some_slot slot_at slot_bytes to_chs to_lba sector_at sectors_of place_at slot_make could_be_one link_at section file_content
section_a_bad_slot_after_the_last_that_is_needed_is_never_met = refl

-- a bad slot
pub section_a_bad_slot : section (disks_of (patch_at 0 100 0 (hex 32 0x038001005200000003800100530000000380010054000000ffffffffffffffff) ∷ [])) (machine_of (disk_with 4096 16 63 ∷ [])) (record { disk = 0; count = 1; address = Lba32 100 }) 4 1 ≡ record { places = (on 0 (82 ∷ 83 ∷ 84 ∷ [])); looked = (on 0 (100 ∷ [])); refusal = (Some (BadSlot 3)) }
unfolding number16 number32 is_zero has_ranges has_address is_slot is_one_slot chs_of address_of slot_of some_slot slot_at slot_bytes to_chs to_lba sector_at sectors_of place_at slot_make could_be_one link_at section file_content
section_a_bad_slot = refl

-- a bad slot before a good one
pub section_a_bad_slot_before_a_good_one : section (disks_of (patch_at 0 100 0 (hex 32 0x0480010000000000038001005200000003800100530000000380010054000000) ∷ [])) (machine_of (disk_with 4096 16 63 ∷ [])) (record { disk = 0; count = 1; address = Lba32 100 }) 1 1 ≡ record { places = []; looked = (on 0 (100 ∷ [])); refusal = (Some (BadSlot 0)) }
unfolding number16 number32 is_zero has_ranges has_address is_slot is_one_slot chs_of address_of slot_of some_slot slot_at slot_bytes to_chs to_lba sector_at sectors_of place_at slot_make could_be_one link_at section file_content
section_a_bad_slot_before_a_good_one = refl

-- a link that is no slot
pub section_a_link_that_is_no_slot : section (disks_of (patch_at 0 100 0 (hex 24 0x038001005200000003800100530000000380010054000000) ∷ patch_at 0 100 504 (hex 8 0x0380010100000000) ∷ [])) (machine_of (disk_with 4096 16 63 ∷ [])) (record { disk = 0; count = 1; address = Lba32 100 }) 4 1 ≡ record { places = (on 0 (82 ∷ 83 ∷ 84 ∷ [])); looked = (on 0 (100 ∷ [])); refusal = (Some (BadSlot 63)) }
unfolding number16 number32 is_zero has_ranges has_address is_slot is_one_slot chs_of address_of slot_of some_slot slot_at slot_bytes to_chs to_lba sector_at sectors_of place_at slot_make could_be_one link_at section file_content
section_a_link_that_is_no_slot = refl

-- a link of two sectors
pub section_a_link_of_two_sectors : section (disks_of (patch_at 0 100 0 (hex 24 0x038001005200000003800100530000000380010054000000) ∷ patch_at 0 100 504 (hex 8 0x0380020065000000) ∷ [])) (machine_of (disk_with 4096 16 63 ∷ [])) (record { disk = 0; count = 1; address = Lba32 100 }) 4 2 ≡ record { places = (on 0 (82 ∷ 83 ∷ 84 ∷ [])); looked = (on 0 (100 ∷ [])); refusal = (Some (BadSlot 63)) }
unfolding number16 number32 is_zero has_ranges has_address is_slot is_one_slot chs_of address_of slot_of some_slot slot_at slot_bytes to_chs to_lba sector_at sectors_of place_at slot_make could_be_one link_at section file_content
section_a_link_of_two_sectors = refl

-- a link of two sectors where no link may be followed
pub section_a_link_of_two_sectors_where_no_link_may_be_followed : section (disks_of (patch_at 0 100 0 (hex 24 0x038001005200000003800100530000000380010054000000) ∷ patch_at 0 100 504 (hex 8 0x0380020065000000) ∷ [])) (machine_of (disk_with 4096 16 63 ∷ [])) (record { disk = 0; count = 1; address = Lba32 100 }) 4 1 ≡ record { places = (on 0 (82 ∷ 83 ∷ 84 ∷ [])); looked = (on 0 (100 ∷ [])); refusal = (Some (BadSlot 63)) }
unfolding number16 number32 is_zero has_ranges has_address is_slot is_one_slot chs_of address_of slot_of some_slot slot_at slot_bytes to_chs to_lba sector_at sectors_of place_at slot_make could_be_one link_at section file_content
section_a_link_of_two_sectors_where_no_link_may_be_followed = refl

-- a link that is never looked at
pub section_a_link_that_is_never_looked_at : section (disks_of (patch_at 0 100 0 (hex 24 0x038001005200000003800100530000000380010054000000) ∷ patch_at 0 100 504 (hex 8 0x0380020065000000) ∷ [])) (machine_of (disk_with 4096 16 63 ∷ [])) (record { disk = 0; count = 1; address = Lba32 100 }) 3 1 ≡ record { places = (on 0 (82 ∷ 83 ∷ 84 ∷ [])); looked = (on 0 (100 ∷ [])); refusal = None }
unfolding number16 number32 is_zero has_ranges has_address is_slot is_one_slot chs_of address_of slot_of some_slot slot_at slot_bytes to_chs to_lba sector_at sectors_of place_at slot_make could_be_one link_at section file_content
section_a_link_that_is_never_looked_at = refl

-- a link to no sector
pub section_a_link_to_no_sector : section (disks_of (patch_at 0 100 0 (hex 24 0x038001005200000003800100530000000380010054000000) ∷ patch_at 0 100 504 (hex 8 0x0380010000100000) ∷ [])) (machine_of (disk_with 4096 16 63 ∷ [])) (record { disk = 0; count = 1; address = Lba32 100 }) 4 2 ≡ record { places = (on 0 (82 ∷ 83 ∷ 84 ∷ [])); looked = (on 0 (100 ∷ [])); refusal = (Some NotFound) }
unfolding number16 number32 is_zero has_ranges has_address is_slot is_one_slot chs_of address_of slot_of some_slot slot_at slot_bytes to_chs to_lba sector_at sectors_of place_at slot_make could_be_one link_at section file_content
section_a_link_to_no_sector = refl

-- a link to no sector where no link may be followed
pub section_a_link_to_no_sector_where_no_link_may_be_followed : section (disks_of (patch_at 0 100 0 (hex 24 0x038001005200000003800100530000000380010054000000) ∷ patch_at 0 100 504 (hex 8 0x0380010000100000) ∷ [])) (machine_of (disk_with 4096 16 63 ∷ [])) (record { disk = 0; count = 1; address = Lba32 100 }) 4 1 ≡ record { places = (on 0 (82 ∷ 83 ∷ 84 ∷ [])); looked = (on 0 (100 ∷ [])); refusal = (Some (ChainTooLong 1)) }
unfolding number16 number32 is_zero has_ranges has_address is_slot is_one_slot chs_of address_of slot_of some_slot slot_at slot_bytes to_chs to_lba sector_at sectors_of place_at slot_make could_be_one link_at section file_content
section_a_link_to_no_sector_where_no_link_may_be_followed = refl

-- a first section sector that is absent
pub section_a_first_section_sector_that_is_absent : section (disks_of []) (machine_of (disk_with 4096 16 63 ∷ [])) (record { disk = 0; count = 1; address = Lba32 4096 }) 1 1 ≡ record { places = []; looked = []; refusal = (Some NotFound) }
unfolding number16 number32 is_zero has_ranges has_address is_slot is_one_slot chs_of address_of slot_of some_slot slot_at slot_bytes to_chs to_lba sector_at sectors_of place_at slot_make could_be_one link_at section file_content
section_a_first_section_sector_that_is_absent = refl

-- a slot that leaves the disk
pub section_a_slot_that_leaves_the_disk : section (disks_of (patch_at 0 100 0 (hex 8 0x03800400fe0f0000) ∷ [])) (machine_of (disk_with 4096 16 63 ∷ [])) (record { disk = 0; count = 1; address = Lba32 100 }) 4 1 ≡ record { places = (on 0 (4094 ∷ 4095 ∷ [])); looked = (on 0 (100 ∷ [])); refusal = (Some NotFound) }
unfolding number16 number32 is_zero has_ranges has_address is_slot is_one_slot chs_of address_of slot_of some_slot slot_at slot_bytes to_chs to_lba sector_at sectors_of place_at slot_make could_be_one link_at section file_content
section_a_slot_that_leaves_the_disk = refl

-- a slot that leaves the disk after what is needed
pub section_a_slot_that_leaves_the_disk_after_what_is_needed : section (disks_of (patch_at 0 100 0 (hex 8 0x03800400fe0f0000) ∷ [])) (machine_of (disk_with 4096 16 63 ∷ [])) (record { disk = 0; count = 1; address = Lba32 100 }) 2 1 ≡ record { places = (on 0 (4094 ∷ 4095 ∷ [])); looked = (on 0 (100 ∷ [])); refusal = None }
unfolding number16 number32 is_zero has_ranges has_address is_slot is_one_slot chs_of address_of slot_of some_slot slot_at slot_bytes to_chs to_lba sector_at sectors_of place_at slot_make could_be_one link_at section file_content
section_a_slot_that_leaves_the_disk_after_what_is_needed = refl

-- a slot that leaves its track
pub section_a_slot_that_leaves_its_track : section (disks_of (patch_at 0 100 0 (hex 8 0x018003003e000000) ∷ [])) (machine_of (disk_with 4096 16 63 ∷ [])) (record { disk = 0; count = 1; address = Lba32 100 }) 3 1 ≡ record { places = (on 0 (61 ∷ 62 ∷ [])); looked = (on 0 (100 ∷ [])); refusal = (Some NotFound) }
unfolding number16 number32 is_zero has_ranges has_address is_slot is_one_slot chs_of address_of slot_of some_slot slot_at slot_bytes to_chs to_lba sector_at sectors_of place_at slot_make could_be_one link_at section file_content
section_a_slot_that_leaves_its_track = refl

-- 63 slots in one section sector and a zero link
pub section_63_slots_in_one_section_sector_and_a_zero_link : section (disks_of (patch_at 0 100 0 (hex 504 0x03800100c800000003800100c900000003800100ca00000003800100cb00000003800100cc00000003800100cd00000003800100ce00000003800100cf00000003800100d000000003800100d100000003800100d200000003800100d300000003800100d400000003800100d500000003800100d600000003800100d700000003800100d800000003800100d900000003800100da00000003800100db00000003800100dc00000003800100dd00000003800100de00000003800100df00000003800100e000000003800100e100000003800100e200000003800100e300000003800100e400000003800100e500000003800100e600000003800100e700000003800100e800000003800100e900000003800100ea00000003800100eb00000003800100ec00000003800100ed00000003800100ee00000003800100ef00000003800100f000000003800100f100000003800100f200000003800100f300000003800100f400000003800100f500000003800100f600000003800100f700000003800100f800000003800100f900000003800100fa00000003800100fb00000003800100fc00000003800100fd00000003800100fe00000003800100ff0000000380010000010000038001000101000003800100020100000380010003010000038001000401000003800100050100000380010006010000) ∷ [])) (machine_of (disk_with 4096 16 63 ∷ [])) (record { disk = 0; count = 1; address = Lba32 100 }) 63 1 ≡ record { places = (on 0 (200 ∷ 201 ∷ 202 ∷ 203 ∷ 204 ∷ 205 ∷ 206 ∷ 207 ∷ 208 ∷ 209 ∷ 210 ∷ 211 ∷ 212 ∷ 213 ∷ 214 ∷ 215 ∷ 216 ∷ 217 ∷ 218 ∷ 219 ∷ 220 ∷ 221 ∷ 222 ∷ 223 ∷ 224 ∷ 225 ∷ 226 ∷ 227 ∷ 228 ∷ 229 ∷ 230 ∷ 231 ∷ 232 ∷ 233 ∷ 234 ∷ 235 ∷ 236 ∷ 237 ∷ 238 ∷ 239 ∷ 240 ∷ 241 ∷ 242 ∷ 243 ∷ 244 ∷ 245 ∷ 246 ∷ 247 ∷ 248 ∷ 249 ∷ 250 ∷ 251 ∷ 252 ∷ 253 ∷ 254 ∷ 255 ∷ 256 ∷ 257 ∷ 258 ∷ 259 ∷ 260 ∷ 261 ∷ 262 ∷ [])); looked = (on 0 (100 ∷ [])); refusal = None }
unfolding number16 number32 is_zero has_ranges has_address is_slot is_one_slot chs_of address_of slot_of some_slot slot_at slot_bytes to_chs to_lba sector_at sectors_of place_at slot_make could_be_one link_at section file_content
section_63_slots_in_one_section_sector_and_a_zero_link = refl

-- 64 slots in two section sectors
pub section_64_slots_in_two_section_sectors : section (disks_of (patch_at 0 100 0 (hex 504 0x03800100c800000003800100c900000003800100ca00000003800100cb00000003800100cc00000003800100cd00000003800100ce00000003800100cf00000003800100d000000003800100d100000003800100d200000003800100d300000003800100d400000003800100d500000003800100d600000003800100d700000003800100d800000003800100d900000003800100da00000003800100db00000003800100dc00000003800100dd00000003800100de00000003800100df00000003800100e000000003800100e100000003800100e200000003800100e300000003800100e400000003800100e500000003800100e600000003800100e700000003800100e800000003800100e900000003800100ea00000003800100eb00000003800100ec00000003800100ed00000003800100ee00000003800100ef00000003800100f000000003800100f100000003800100f200000003800100f300000003800100f400000003800100f500000003800100f600000003800100f700000003800100f800000003800100f900000003800100fa00000003800100fb00000003800100fc00000003800100fd00000003800100fe00000003800100ff0000000380010000010000038001000101000003800100020100000380010003010000038001000401000003800100050100000380010006010000) ∷ patch_at 0 100 504 (hex 8 0x0380010065000000) ∷ patch_at 0 101 0 (hex 8 0x0380010007010000) ∷ [])) (machine_of (disk_with 4096 16 63 ∷ [])) (record { disk = 0; count = 1; address = Lba32 100 }) 64 2 ≡ record { places = (on 0 (200 ∷ 201 ∷ 202 ∷ 203 ∷ 204 ∷ 205 ∷ 206 ∷ 207 ∷ 208 ∷ 209 ∷ 210 ∷ 211 ∷ 212 ∷ 213 ∷ 214 ∷ 215 ∷ 216 ∷ 217 ∷ 218 ∷ 219 ∷ 220 ∷ 221 ∷ 222 ∷ 223 ∷ 224 ∷ 225 ∷ 226 ∷ 227 ∷ 228 ∷ 229 ∷ 230 ∷ 231 ∷ 232 ∷ 233 ∷ 234 ∷ 235 ∷ 236 ∷ 237 ∷ 238 ∷ 239 ∷ 240 ∷ 241 ∷ 242 ∷ 243 ∷ 244 ∷ 245 ∷ 246 ∷ 247 ∷ 248 ∷ 249 ∷ 250 ∷ 251 ∷ 252 ∷ 253 ∷ 254 ∷ 255 ∷ 256 ∷ 257 ∷ 258 ∷ 259 ∷ 260 ∷ 261 ∷ 262 ∷ 263 ∷ [])); looked = (on 0 (100 ∷ 101 ∷ [])); refusal = None }
unfolding number16 number32 is_zero has_ranges has_address is_slot is_one_slot chs_of address_of slot_of some_slot slot_at slot_bytes to_chs to_lba sector_at sectors_of place_at slot_make could_be_one link_at section file_content
section_64_slots_in_two_section_sectors = refl

-- 64 slots in two section sectors of which one may be read
pub section_64_slots_in_two_section_sectors_of_which_one_may_be_read : section (disks_of (patch_at 0 100 0 (hex 504 0x03800100c800000003800100c900000003800100ca00000003800100cb00000003800100cc00000003800100cd00000003800100ce00000003800100cf00000003800100d000000003800100d100000003800100d200000003800100d300000003800100d400000003800100d500000003800100d600000003800100d700000003800100d800000003800100d900000003800100da00000003800100db00000003800100dc00000003800100dd00000003800100de00000003800100df00000003800100e000000003800100e100000003800100e200000003800100e300000003800100e400000003800100e500000003800100e600000003800100e700000003800100e800000003800100e900000003800100ea00000003800100eb00000003800100ec00000003800100ed00000003800100ee00000003800100ef00000003800100f000000003800100f100000003800100f200000003800100f300000003800100f400000003800100f500000003800100f600000003800100f700000003800100f800000003800100f900000003800100fa00000003800100fb00000003800100fc00000003800100fd00000003800100fe00000003800100ff0000000380010000010000038001000101000003800100020100000380010003010000038001000401000003800100050100000380010006010000) ∷ patch_at 0 100 504 (hex 8 0x0380010065000000) ∷ patch_at 0 101 0 (hex 8 0x0380010007010000) ∷ [])) (machine_of (disk_with 4096 16 63 ∷ [])) (record { disk = 0; count = 1; address = Lba32 100 }) 64 1 ≡ record { places = (on 0 (200 ∷ 201 ∷ 202 ∷ 203 ∷ 204 ∷ 205 ∷ 206 ∷ 207 ∷ 208 ∷ 209 ∷ 210 ∷ 211 ∷ 212 ∷ 213 ∷ 214 ∷ 215 ∷ 216 ∷ 217 ∷ 218 ∷ 219 ∷ 220 ∷ 221 ∷ 222 ∷ 223 ∷ 224 ∷ 225 ∷ 226 ∷ 227 ∷ 228 ∷ 229 ∷ 230 ∷ 231 ∷ 232 ∷ 233 ∷ 234 ∷ 235 ∷ 236 ∷ 237 ∷ 238 ∷ 239 ∷ 240 ∷ 241 ∷ 242 ∷ 243 ∷ 244 ∷ 245 ∷ 246 ∷ 247 ∷ 248 ∷ 249 ∷ 250 ∷ 251 ∷ 252 ∷ 253 ∷ 254 ∷ 255 ∷ 256 ∷ 257 ∷ 258 ∷ 259 ∷ 260 ∷ 261 ∷ 262 ∷ [])); looked = (on 0 (100 ∷ [])); refusal = (Some (ChainTooLong 1)) }
unfolding number16 number32 is_zero has_ranges has_address is_slot is_one_slot chs_of address_of slot_of some_slot slot_at slot_bytes to_chs to_lba sector_at sectors_of place_at slot_make could_be_one link_at section file_content
section_64_slots_in_two_section_sectors_of_which_one_may_be_read = refl

-- a bad slot in the second section sector
pub section_a_bad_slot_in_the_second_section_sector : section (disks_of (patch_at 0 100 0 (hex 8 0x03800100c8000000) ∷ patch_at 0 100 504 (hex 8 0x0380010065000000) ∷ patch_at 0 101 0 (hex 16 0x03800100c90000000380000000000000) ∷ [])) (machine_of (disk_with 4096 16 63 ∷ [])) (record { disk = 0; count = 1; address = Lba32 100 }) 3 2 ≡ record { places = (on 0 (200 ∷ 201 ∷ [])); looked = (on 0 (100 ∷ 101 ∷ [])); refusal = (Some (BadSlot 65)) }
unfolding number16 number32 is_zero has_ranges has_address is_slot is_one_slot chs_of address_of slot_of some_slot slot_at slot_bytes to_chs to_lba sector_at sectors_of place_at slot_make could_be_one link_at section file_content
section_a_bad_slot_in_the_second_section_sector = refl

-- a bad link in the second section sector
pub section_a_bad_link_in_the_second_section_sector : section (disks_of (patch_at 0 100 0 (hex 8 0x03800100c8000000) ∷ patch_at 0 100 504 (hex 8 0x0380010065000000) ∷ patch_at 0 101 0 (hex 8 0x03800100c9000000) ∷ patch_at 0 101 504 (hex 8 0x0180010000000000) ∷ [])) (machine_of (disk_with 4096 16 63 ∷ [])) (record { disk = 0; count = 1; address = Lba32 100 }) 3 3 ≡ record { places = (on 0 (200 ∷ 201 ∷ [])); looked = (on 0 (100 ∷ 101 ∷ [])); refusal = (Some (BadSlot 127)) }
unfolding number16 number32 is_zero has_ranges has_address is_slot is_one_slot chs_of address_of slot_of some_slot slot_at slot_bytes to_chs to_lba sector_at sectors_of place_at slot_make could_be_one link_at section file_content
section_a_bad_link_in_the_second_section_sector = refl

-- a slot of 127 sectors
pub section_a_slot_of_127_sectors : section (disks_of (patch_at 0 100 0 (hex 8 0x03807f002c010000) ∷ [])) (machine_of (disk_with 4096 16 63 ∷ [])) (record { disk = 0; count = 1; address = Lba32 100 }) 127 1 ≡ record { places = (on 0 (300 ∷ 301 ∷ 302 ∷ 303 ∷ 304 ∷ 305 ∷ 306 ∷ 307 ∷ 308 ∷ 309 ∷ 310 ∷ 311 ∷ 312 ∷ 313 ∷ 314 ∷ 315 ∷ 316 ∷ 317 ∷ 318 ∷ 319 ∷ 320 ∷ 321 ∷ 322 ∷ 323 ∷ 324 ∷ 325 ∷ 326 ∷ 327 ∷ 328 ∷ 329 ∷ 330 ∷ 331 ∷ 332 ∷ 333 ∷ 334 ∷ 335 ∷ 336 ∷ 337 ∷ 338 ∷ 339 ∷ 340 ∷ 341 ∷ 342 ∷ 343 ∷ 344 ∷ 345 ∷ 346 ∷ 347 ∷ 348 ∷ 349 ∷ 350 ∷ 351 ∷ 352 ∷ 353 ∷ 354 ∷ 355 ∷ 356 ∷ 357 ∷ 358 ∷ 359 ∷ 360 ∷ 361 ∷ 362 ∷ 363 ∷ 364 ∷ 365 ∷ 366 ∷ 367 ∷ 368 ∷ 369 ∷ 370 ∷ 371 ∷ 372 ∷ 373 ∷ 374 ∷ 375 ∷ 376 ∷ 377 ∷ 378 ∷ 379 ∷ 380 ∷ 381 ∷ 382 ∷ 383 ∷ 384 ∷ 385 ∷ 386 ∷ 387 ∷ 388 ∷ 389 ∷ 390 ∷ 391 ∷ 392 ∷ 393 ∷ 394 ∷ 395 ∷ 396 ∷ 397 ∷ 398 ∷ 399 ∷ 400 ∷ 401 ∷ 402 ∷ 403 ∷ 404 ∷ 405 ∷ 406 ∷ 407 ∷ 408 ∷ 409 ∷ 410 ∷ 411 ∷ 412 ∷ 413 ∷ 414 ∷ 415 ∷ 416 ∷ 417 ∷ 418 ∷ 419 ∷ 420 ∷ 421 ∷ 422 ∷ 423 ∷ 424 ∷ 425 ∷ 426 ∷ [])); looked = (on 0 (100 ∷ [])); refusal = None }
unfolding number16 number32 is_zero has_ranges has_address is_slot is_one_slot chs_of address_of slot_of some_slot slot_at slot_bytes to_chs to_lba sector_at sectors_of place_at slot_make could_be_one link_at section file_content
section_a_slot_of_127_sectors = refl

-- 2 sectors in at most 1 section sector: a bad slot
pub section_2_sectors_in_at_most_1_section_sector_a_bad_slot : section (disks_of (patch_at 0 32 504 (hex 8 0x0380010100000000) ∷ [])) (machine_of (disk_with 1200 1 1 ∷ [])) (record { disk = 0; count = 1; address = Lba32 32 }) 2 1 ≡ record { places = []; looked = (on 0 (32 ∷ [])); refusal = (Some (BadSlot 63)) }
unfolding number16 number32 is_zero has_ranges has_address is_slot is_one_slot chs_of address_of slot_of some_slot slot_at slot_bytes to_chs to_lba sector_at sectors_of place_at slot_make could_be_one link_at section file_content
section_2_sectors_in_at_most_1_section_sector_a_bad_slot = refl

-- 15 sectors in at most 4 section sectors: all are named
pub section_15_sectors_in_at_most_4_section_sectors_all_are_named : section (disks_of (patch_at 0 32 0 (hex 40 0x0380040038000000038001007100000002800200c600000003810100550c00000380030008010000) ∷ patch_at 0 32 504 (hex 8 0x0381010060000000) ∷ patch_at 1 96 504 (hex 8 0x0380010074000000) ∷ patch_at 0 116 0 (hex 24 0x02810100b105000002810100871300000180020005070100) ∷ [])) (machine_of (disk_with 300 2 9 ∷ disk_with 5000 255 63 ∷ [])) (record { disk = 0; count = 1; address = Lba32 32 }) 15 4 ≡ record { places = (on 0 (56 ∷ 57 ∷ 58 ∷ 59 ∷ 113 ∷ 198 ∷ 199 ∷ []) ++ on 1 (3157 ∷ []) ++ on 0 (264 ∷ 265 ∷ 266 ∷ []) ++ on 1 (1457 ∷ 4999 ∷ []) ++ on 0 (139 ∷ 140 ∷ [])); looked = (on 0 (32 ∷ []) ++ on 1 (96 ∷ []) ++ on 0 (116 ∷ [])); refusal = None }
unfolding number16 number32 is_zero has_ranges has_address is_slot is_one_slot chs_of address_of slot_of some_slot slot_at slot_bytes to_chs to_lba sector_at sectors_of place_at slot_make could_be_one link_at section file_content
section_15_sectors_in_at_most_4_section_sectors_all_are_named = refl

-- 1 sectors in at most 3 section sectors: all are named
pub section_1_sectors_in_at_most_3_section_sectors_all_are_named : section (disks_of (patch_at 1 35 0 (hex 64 0x03810400f40300000181010017004f00038102005a0e0000038004002b01000002810300040d0000038102006c060000038104008713000003810200e0080000) ∷ patch_at 1 35 504 (hex 8 0x038001003e000000) ∷ patch_at 0 62 0 (hex 8 0x0180040002000000) ∷ patch_at 0 62 504 (hex 8 0x0380010066000000) ∷ patch_at 0 102 0 (hex 64 0x02800100c3000000038101004912000003810100140d0000018304003d003d0003810100a30f000003800100830000000181010016002d00028101000c080000) ∷ [])) (machine_of (disk_with 300 2 9 ∷ disk_with 5000 255 63 ∷ [])) (record { disk = 1; count = 1; address = Lba32 35 }) 1 3 ≡ record { places = (on 1 (1012 ∷ [])); looked = (on 1 (35 ∷ [])); refusal = None }
unfolding number16 number32 is_zero has_ranges has_address is_slot is_one_slot chs_of address_of slot_of some_slot slot_at slot_bytes to_chs to_lba sector_at sectors_of place_at slot_make could_be_one link_at section file_content
section_1_sectors_in_at_most_3_section_sectors_all_are_named = refl

-- 15 sectors in at most 1 section sector: too many links
pub section_15_sectors_in_at_most_1_section_sector_too_many_links : section (disks_of (patch_at 0 54 0 (hex 24 0x03800100ff0f0000028002008f02000002800200ca020000) ∷ patch_at 0 54 504 (hex 8 0x038001004d000000) ∷ patch_at 0 77 0 (hex 24 0x038003002406000003800100c402000003800100e10a0000) ∷ [])) (machine_of (disk_with 4096 16 63 ∷ [])) (record { disk = 0; count = 1; address = Lba32 54 }) 15 1 ≡ record { places = (on 0 (4095 ∷ 655 ∷ 656 ∷ 714 ∷ 715 ∷ [])); looked = (on 0 (54 ∷ [])); refusal = (Some (ChainTooLong 1)) }
unfolding number16 number32 is_zero has_ranges has_address is_slot is_one_slot chs_of address_of slot_of some_slot slot_at slot_bytes to_chs to_lba sector_at sectors_of place_at slot_make could_be_one link_at section file_content
section_15_sectors_in_at_most_1_section_sector_too_many_links = refl

-- 1 sectors in at most 1 section sector: all are named
pub section_1_sectors_in_at_most_1_section_sector_all_are_named : section (disks_of (patch_at 0 47 0 (hex 24 0x03810100950e000001800300010d00000380040029010000) ∷ [])) (machine_of (disk_with 300 2 9 ∷ disk_with 5000 255 63 ∷ [])) (record { disk = 0; count = 1; address = Lba32 47 }) 1 1 ≡ record { places = (on 1 (3733 ∷ [])); looked = (on 0 (47 ∷ [])); refusal = None }
unfolding number16 number32 is_zero has_ranges has_address is_slot is_one_slot chs_of address_of slot_of some_slot slot_at slot_bytes to_chs to_lba sector_at sectors_of place_at slot_make could_be_one link_at section file_content
section_1_sectors_in_at_most_1_section_sector_all_are_named = refl

-- 4 sectors in at most 1 section sector: too many links
pub section_4_sectors_in_at_most_1_section_sector_too_many_links : section (disks_of (patch_at 1 39 504 (hex 8 0x038001009f860100) ∷ [])) (machine_of (disk_with 300 2 9 ∷ disk_with 5000 255 63 ∷ [])) (record { disk = 1; count = 1; address = Lba32 39 }) 4 1 ≡ record { places = []; looked = (on 1 (39 ∷ [])); refusal = (Some (ChainTooLong 1)) }
unfolding number16 number32 is_zero has_ranges has_address is_slot is_one_slot chs_of address_of slot_of some_slot slot_at slot_bytes to_chs to_lba sector_at sectors_of place_at slot_make could_be_one link_at section file_content
section_4_sectors_in_at_most_1_section_sector_too_many_links = refl

-- 4 sectors in at most 2 section sectors: an end after 0
pub section_4_sectors_in_at_most_2_section_sectors_an_end_after_0 : section (disks_of (patch_at 2 26 504 (hex 8 0x038001003c000000) ∷ [])) (machine_of (disk_with 700 4 17 ∷ disk_with 0 16 63 ∷ disk_with 900 16 63 ∷ [])) (record { disk = 2; count = 1; address = Lba32 26 }) 4 2 ≡ record { places = []; looked = (on 2 (26 ∷ []) ++ on 0 (60 ∷ [])); refusal = (Some (ShortChain 0)) }
unfolding number16 number32 is_zero has_ranges has_address is_slot is_one_slot chs_of address_of slot_of some_slot slot_at slot_bytes to_chs to_lba sector_at sectors_of place_at slot_make could_be_one link_at section file_content
section_4_sectors_in_at_most_2_section_sectors_an_end_after_0 = refl

-- 10 sectors in at most 1 section sector: an end after 4
pub section_10_sectors_in_at_most_1_section_sector_an_end_after_4 : section (disks_of (patch_at 0 20 0 (hex 24 0x0380010047090000028001001b090000028002005d050000) ∷ [])) (machine_of (disk_with 4096 16 63 ∷ [])) (record { disk = 0; count = 1; address = Lba32 20 }) 10 1 ≡ record { places = (on 0 (2375 ∷ 2331 ∷ 1373 ∷ 1374 ∷ [])); looked = (on 0 (20 ∷ [])); refusal = (Some (ShortChain 4)) }
unfolding number16 number32 is_zero has_ranges has_address is_slot is_one_slot chs_of address_of slot_of some_slot slot_at slot_bytes to_chs to_lba sector_at sectors_of place_at slot_make could_be_one link_at section file_content
section_10_sectors_in_at_most_1_section_sector_an_end_after_4 = refl

-- 2 sectors in at most 1 section sector: all are named
pub section_2_sectors_in_at_most_1_section_sector_all_are_named : section (disks_of (patch_at 0 46 0 (hex 16 0x0180040004020b0003800200ff0f0000) ∷ [])) (machine_of (disk_with 4096 16 63 ∷ [])) (record { disk = 0; count = 1; address = Lba32 46 }) 2 1 ≡ record { places = (on 0 (2712 ∷ 2713 ∷ [])); looked = (on 0 (46 ∷ [])); refusal = None }
unfolding number16 number32 is_zero has_ranges has_address is_slot is_one_slot chs_of address_of slot_of some_slot slot_at slot_bytes to_chs to_lba sector_at sectors_of place_at slot_make could_be_one link_at section file_content
section_2_sectors_in_at_most_1_section_sector_all_are_named = refl

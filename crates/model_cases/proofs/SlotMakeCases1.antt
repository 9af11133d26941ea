-- Cases of the model, written by tools/model_cases.py: making a slot.
use Rattle.std.proofs.Common.{◌≡◌, Ok, Err, refl}
use Rattle.lilo_model.specs.Bytes.{number16, number32, is_zero}
use Rattle.lilo_model.specs.Slots.{has_ranges, has_address, is_slot, is_one_slot, chs_of, address_of, slot_of, some_slot, slot_at, slot_bytes, to_chs, to_lba, sector_at, sectors_of, place_at, slot_make, could_be_one, Chs, Linear, Lba32, ChsMode, LinearMode, Lba32Mode, Cylinder, TooFar}

-- the last sector of cylinder 1023
pub slot_make_the_last_sector_of_cylinder_1023 : slot_make ChsMode (record { heads = 16; sectors = 63 }) 0 1032191 1 ≡ Ok (record { disk = 0; count = 1; address = Chs 1023 15 63 })
unfolding number16 number32 is_zero has_ranges has_address is_slot is_one_slot chs_of address_of slot_of some_slot slot_at slot_bytes to_chs to_lba sector_at sectors_of place_at slot_make could_be_one
slot_make_the_last_sector_of_cylinder_1023 = refl

-- the first sector of cylinder 1024
pub slot_make_the_first_sector_of_cylinder_1024 : slot_make ChsMode (record { heads = 16; sectors = 63 }) 0 1032192 1 ≡ Err (Cylinder 1024)
unfolding number16 number32 is_zero has_ranges has_address is_slot is_one_slot chs_of address_of slot_of some_slot slot_at slot_bytes to_chs to_lba sector_at sectors_of place_at slot_make could_be_one
slot_make_the_first_sector_of_cylinder_1024 = refl

-- the last sector that 32 bits name
pub slot_make_the_last_sector_that_32_bits_name : slot_make ChsMode (record { heads = 16; sectors = 63 }) 1 4294967295 1 ≡ Err (Cylinder 4260880)
unfolding number16 number32 is_zero has_ranges has_address is_slot is_one_slot chs_of address_of slot_of some_slot slot_at slot_bytes to_chs to_lba sector_at sectors_of place_at slot_make could_be_one
slot_make_the_last_sector_that_32_bits_name = refl

-- a sector past 32 bits
pub slot_make_a_sector_past_32_bits : slot_make ChsMode (record { heads = 16; sectors = 63 }) 1 4294967296 1 ≡ Err (Cylinder 4260880)
unfolding number16 number32 is_zero has_ranges has_address is_slot is_one_slot chs_of address_of slot_of some_slot slot_at slot_bytes to_chs to_lba sector_at sectors_of place_at slot_make could_be_one
slot_make_a_sector_past_32_bits = refl

-- sector 0
pub slot_make_sector_0 : slot_make ChsMode (record { heads = 2; sectors = 1 }) 3 0 1 ≡ Ok (record { disk = 3; count = 1; address = Chs 0 0 1 })
unfolding number16 number32 is_zero has_ranges has_address is_slot is_one_slot chs_of address_of slot_of some_slot slot_at slot_bytes to_chs to_lba sector_at sectors_of place_at slot_make could_be_one
slot_make_sector_0 = refl

-- the last sector of cylinder 1023
pub slot_make_the_last_sector_of_cylinder_1023_2 : slot_make LinearMode (record { heads = 16; sectors = 63 }) 0 1032191 1 ≡ Ok (record { disk = 0; count = 1; address = Linear 1032191 })
unfolding number16 number32 is_zero has_ranges has_address is_slot is_one_slot chs_of address_of slot_of some_slot slot_at slot_bytes to_chs to_lba sector_at sectors_of place_at slot_make could_be_one
slot_make_the_last_sector_of_cylinder_1023_2 = refl

-- the first sector of cylinder 1024
pub slot_make_the_first_sector_of_cylinder_1024_2 : slot_make LinearMode (record { heads = 16; sectors = 63 }) 0 1032192 1 ≡ Err (Cylinder 1024)
unfolding number16 number32 is_zero has_ranges has_address is_slot is_one_slot chs_of address_of slot_of some_slot slot_at slot_bytes to_chs to_lba sector_at sectors_of place_at slot_make could_be_one
slot_make_the_first_sector_of_cylinder_1024_2 = refl

-- the last sector that 32 bits name
pub slot_make_the_last_sector_that_32_bits_name_2 : slot_make LinearMode (record { heads = 16; sectors = 63 }) 1 4294967295 1 ≡ Err (Cylinder 4260880)
unfolding number16 number32 is_zero has_ranges has_address is_slot is_one_slot chs_of address_of slot_of some_slot slot_at slot_bytes to_chs to_lba sector_at sectors_of place_at slot_make could_be_one
slot_make_the_last_sector_that_32_bits_name_2 = refl

-- a sector past 32 bits
pub slot_make_a_sector_past_32_bits_2 : slot_make LinearMode (record { heads = 16; sectors = 63 }) 1 4294967296 1 ≡ Err (Cylinder 4260880)
unfolding number16 number32 is_zero has_ranges has_address is_slot is_one_slot chs_of address_of slot_of some_slot slot_at slot_bytes to_chs to_lba sector_at sectors_of place_at slot_make could_be_one
slot_make_a_sector_past_32_bits_2 = refl

-- sector 0
pub slot_make_sector_0_2 : slot_make LinearMode (record { heads = 2; sectors = 1 }) 3 0 1 ≡ Ok (record { disk = 3; count = 1; address = Linear 0 })
unfolding number16 number32 is_zero has_ranges has_address is_slot is_one_slot chs_of address_of slot_of some_slot slot_at slot_bytes to_chs to_lba sector_at sectors_of place_at slot_make could_be_one
slot_make_sector_0_2 = refl

-- the last sector of cylinder 1023
pub slot_make_the_last_sector_of_cylinder_1023_3 : slot_make Lba32Mode (record { heads = 16; sectors = 63 }) 0 1032191 1 ≡ Ok (record { disk = 0; count = 1; address = Lba32 1032191 })
unfolding number16 number32 is_zero has_ranges has_address is_slot is_one_slot chs_of address_of slot_of some_slot slot_at slot_bytes to_chs to_lba sector_at sectors_of place_at slot_make could_be_one
slot_make_the_last_sector_of_cylinder_1023_3 = refl

-- the first sector of cylinder 1024
pub slot_make_the_first_sector_of_cylinder_1024_3 : slot_make Lba32Mode (record { heads = 16; sectors = 63 }) 0 1032192 1 ≡ Ok (record { disk = 0; count = 1; address = Lba32 1032192 })
unfolding number16 number32 is_zero has_ranges has_address is_slot is_one_slot chs_of address_of slot_of some_slot slot_at slot_bytes to_chs to_lba sector_at sectors_of place_at slot_make could_be_one
slot_make_the_first_sector_of_cylinder_1024_3 = refl

-- the last sector that 32 bits name
pub slot_make_the_last_sector_that_32_bits_name_3 : slot_make Lba32Mode (record { heads = 16; sectors = 63 }) 1 4294967295 1 ≡ Ok (record { disk = 1; count = 1; address = Lba32 4294967295 })
unfolding number16 number32 is_zero has_ranges has_address is_slot is_one_slot chs_of address_of slot_of some_slot slot_at slot_bytes to_chs to_lba sector_at sectors_of place_at slot_make could_be_one
slot_make_the_last_sector_that_32_bits_name_3 = refl

-- a sector past 32 bits
pub slot_make_a_sector_past_32_bits_3 : slot_make Lba32Mode (record { heads = 16; sectors = 63 }) 1 4294967296 1 ≡ Err (TooFar 4294967296)
unfolding number16 number32 is_zero has_ranges has_address is_slot is_one_slot chs_of address_of slot_of some_slot slot_at slot_bytes to_chs to_lba sector_at sectors_of place_at slot_make could_be_one
slot_make_a_sector_past_32_bits_3 = refl

-- sector 0
pub slot_make_sector_0_3 : slot_make Lba32Mode (record { heads = 2; sectors = 1 }) 3 0 1 ≡ Ok (record { disk = 3; count = 1; address = Lba32 0 })
unfolding number16 number32 is_zero has_ranges has_address is_slot is_one_slot chs_of address_of slot_of some_slot slot_at slot_bytes to_chs to_lba sector_at sectors_of place_at slot_make could_be_one
slot_make_sector_0_3 = refl

-- two sectors of which the second is past 32 bits
pub slot_make_two_sectors_of_which_the_second_is_past_32_bits : slot_make Lba32Mode (record { heads = 255; sectors = 63 }) 0 4294967295 2 ≡ Err (TooFar 4294967296)
unfolding number16 number32 is_zero has_ranges has_address is_slot is_one_slot chs_of address_of slot_of some_slot slot_at slot_bytes to_chs to_lba sector_at sectors_of place_at slot_make could_be_one
slot_make_two_sectors_of_which_the_second_is_past_32_bits = refl

-- two sectors of which the second is past cylinder 1023
pub slot_make_two_sectors_of_which_the_second_is_past_cylinder_1023 : slot_make LinearMode (record { heads = 16; sectors = 63 }) 0 1032191 2 ≡ Err (Cylinder 1024)
unfolding number16 number32 is_zero has_ranges has_address is_slot is_one_slot chs_of address_of slot_of some_slot slot_at slot_bytes to_chs to_lba sector_at sectors_of place_at slot_make could_be_one
slot_make_two_sectors_of_which_the_second_is_past_cylinder_1023 = refl

-- sector 2048 of a disk with two sectors a cylinder
pub slot_make_sector_2048_of_a_disk_with_two_sectors_a_cylinder : slot_make ChsMode (record { heads = 2; sectors = 1 }) 0 2048 1 ≡ Err (Cylinder 1024)
unfolding number16 number32 is_zero has_ranges has_address is_slot is_one_slot chs_of address_of slot_of some_slot slot_at slot_bytes to_chs to_lba sector_at sectors_of place_at slot_make could_be_one
slot_make_sector_2048_of_a_disk_with_two_sectors_a_cylinder = refl

-- one sector
pub slot_make_one_sector : slot_make Lba32Mode (record { heads = 16; sectors = 63 }) 1 3634 1 ≡ Ok (record { disk = 1; count = 1; address = Lba32 3634 })
unfolding number16 number32 is_zero has_ranges has_address is_slot is_one_slot chs_of address_of slot_of some_slot slot_at slot_bytes to_chs to_lba sector_at sectors_of place_at slot_make could_be_one
slot_make_one_sector = refl

-- 127 sectors from a number on
pub slot_make_127_sectors_from_a_number_on : slot_make LinearMode (record { heads = 1; sectors = 1 }) 1 1021 127 ≡ Err (Cylinder 1147)
unfolding number16 number32 is_zero has_ranges has_address is_slot is_one_slot chs_of address_of slot_of some_slot slot_at slot_bytes to_chs to_lba sector_at sectors_of place_at slot_make could_be_one
slot_make_127_sectors_from_a_number_on = refl

-- one sector
pub slot_make_one_sector_2 : slot_make LinearMode (record { heads = 4; sectors = 17 }) 2 69631 1 ≡ Ok (record { disk = 2; count = 1; address = Linear 69631 })
unfolding number16 number32 is_zero has_ranges has_address is_slot is_one_slot chs_of address_of slot_of some_slot slot_at slot_bytes to_chs to_lba sector_at sectors_of place_at slot_make could_be_one
slot_make_one_sector_2 = refl

-- one sector
pub slot_make_one_sector_3 : slot_make LinearMode (record { heads = 255; sectors = 63 }) 3 16450560 1 ≡ Err (Cylinder 1024)
unfolding number16 number32 is_zero has_ranges has_address is_slot is_one_slot chs_of address_of slot_of some_slot slot_at slot_bytes to_chs to_lba sector_at sectors_of place_at slot_make could_be_one
slot_make_one_sector_3 = refl

-- 127 sectors from a number on
pub slot_make_127_sectors_from_a_number_on_2 : slot_make LinearMode (record { heads = 1; sectors = 1 }) 3 534 127 ≡ Ok (record { disk = 3; count = 127; address = Linear 534 })
unfolding number16 number32 is_zero has_ranges has_address is_slot is_one_slot chs_of address_of slot_of some_slot slot_at slot_bytes to_chs to_lba sector_at sectors_of place_at slot_make could_be_one
slot_make_127_sectors_from_a_number_on_2 = refl

-- 2 sectors from a number on
pub slot_make_2_sectors_from_a_number_on : slot_make Lba32Mode (record { heads = 4; sectors = 17 }) 1 54879 2 ≡ Ok (record { disk = 1; count = 2; address = Lba32 54879 })
unfolding number16 number32 is_zero has_ranges has_address is_slot is_one_slot chs_of address_of slot_of some_slot slot_at slot_bytes to_chs to_lba sector_at sectors_of place_at slot_make could_be_one
slot_make_2_sectors_from_a_number_on = refl

-- 2 sectors from a number on
pub slot_make_2_sectors_from_a_number_on_2 : slot_make ChsMode (record { heads = 2; sectors = 9 }) 0 8293 2 ≡ Ok (record { disk = 0; count = 2; address = Chs 460 1 5 })
unfolding number16 number32 is_zero has_ranges has_address is_slot is_one_slot chs_of address_of slot_of some_slot slot_at slot_bytes to_chs to_lba sector_at sectors_of place_at slot_make could_be_one
slot_make_2_sectors_from_a_number_on_2 = refl

-- one sector
pub slot_make_one_sector_4 : slot_make LinearMode (record { heads = 1; sectors = 1 }) 0 1022 1 ≡ Ok (record { disk = 0; count = 1; address = Linear 1022 })
unfolding number16 number32 is_zero has_ranges has_address is_slot is_one_slot chs_of address_of slot_of some_slot slot_at slot_bytes to_chs to_lba sector_at sectors_of place_at slot_make could_be_one
slot_make_one_sector_4 = refl

-- 2 sectors from a number on
pub slot_make_2_sectors_from_a_number_on_3 : slot_make Lba32Mode (record { heads = 64; sectors = 32 }) 3 202 2 ≡ Ok (record { disk = 3; count = 2; address = Lba32 202 })
unfolding number16 number32 is_zero has_ranges has_address is_slot is_one_slot chs_of address_of slot_of some_slot slot_at slot_bytes to_chs to_lba sector_at sectors_of place_at slot_make could_be_one
slot_make_2_sectors_from_a_number_on_3 = refl

-- 3 sectors from a number on
pub slot_make_3_sectors_from_a_number_on : slot_make LinearMode (record { heads = 2; sectors = 9 }) 2 18432 3 ≡ Err (Cylinder 1024)
unfolding number16 number32 is_zero has_ranges has_address is_slot is_one_slot chs_of address_of slot_of some_slot slot_at slot_bytes to_chs to_lba sector_at sectors_of place_at slot_make could_be_one
slot_make_3_sectors_from_a_number_on = refl

-- 2 sectors from a number on
pub slot_make_2_sectors_from_a_number_on_4 : slot_make LinearMode (record { heads = 2; sectors = 9 }) 2 4660 2 ≡ Ok (record { disk = 2; count = 2; address = Linear 4660 })
unfolding number16 number32 is_zero has_ranges has_address is_slot is_one_slot chs_of address_of slot_of some_slot slot_at slot_bytes to_chs to_lba sector_at sectors_of place_at slot_make could_be_one
slot_make_2_sectors_from_a_number_on_4 = refl

-- one sector
pub slot_make_one_sector_5 : slot_make LinearMode (record { heads = 16; sectors = 63 }) 0 138 1 ≡ Ok (record { disk = 0; count = 1; address = Linear 138 })
unfolding number16 number32 is_zero has_ranges has_address is_slot is_one_slot chs_of address_of slot_of some_slot slot_at slot_bytes to_chs to_lba sector_at sectors_of place_at slot_make could_be_one
slot_make_one_sector_5 = refl

-- one sector
pub slot_make_one_sector_6 : slot_make LinearMode (record { heads = 4; sectors = 17 }) 2 69629 1 ≡ Ok (record { disk = 2; count = 1; address = Linear 69629 })
unfolding number16 number32 is_zero has_ranges has_address is_slot is_one_slot chs_of address_of slot_of some_slot slot_at slot_bytes to_chs to_lba sector_at sectors_of place_at slot_make could_be_one
slot_make_one_sector_6 = refl

-- 127 sectors from a number on
pub slot_make_127_sectors_from_a_number_on_3 : slot_make Lba32Mode (record { heads = 16; sectors = 63 }) 1 424 127 ≡ Ok (record { disk = 1; count = 127; address = Lba32 424 })
unfolding number16 number32 is_zero has_ranges has_address is_slot is_one_slot chs_of address_of slot_of some_slot slot_at slot_bytes to_chs to_lba sector_at sectors_of place_at slot_make could_be_one
slot_make_127_sectors_from_a_number_on_3 = refl

-- 127 sectors from a number on
pub slot_make_127_sectors_from_a_number_on_4 : slot_make Lba32Mode (record { heads = 64; sectors = 32 }) 0 308678 127 ≡ Ok (record { disk = 0; count = 127; address = Lba32 308678 })
unfolding number16 number32 is_zero has_ranges has_address is_slot is_one_slot chs_of address_of slot_of some_slot slot_at slot_bytes to_chs to_lba sector_at sectors_of place_at slot_make could_be_one
slot_make_127_sectors_from_a_number_on_4 = refl

-- 2 sectors from a number on
pub slot_make_2_sectors_from_a_number_on_5 : slot_make Lba32Mode (record { heads = 1; sectors = 1 }) 0 741 2 ≡ Ok (record { disk = 0; count = 2; address = Lba32 741 })
unfolding number16 number32 is_zero has_ranges has_address is_slot is_one_slot chs_of address_of slot_of some_slot slot_at slot_bytes to_chs to_lba sector_at sectors_of place_at slot_make could_be_one
slot_make_2_sectors_from_a_number_on_5 = refl

-- 3 sectors from a number on
pub slot_make_3_sectors_from_a_number_on_2 : slot_make Lba32Mode (record { heads = 16; sectors = 63 }) 3 1032190 3 ≡ Ok (record { disk = 3; count = 3; address = Lba32 1032190 })
unfolding number16 number32 is_zero has_ranges has_address is_slot is_one_slot chs_of address_of slot_of some_slot slot_at slot_bytes to_chs to_lba sector_at sectors_of place_at slot_make could_be_one
slot_make_3_sectors_from_a_number_on_2 = refl

-- 3 sectors from a number on
pub slot_make_3_sectors_from_a_number_on_3 : slot_make ChsMode (record { heads = 64; sectors = 32 }) 3 2097152 3 ≡ Err (Cylinder 1024)
unfolding number16 number32 is_zero has_ranges has_address is_slot is_one_slot chs_of address_of slot_of some_slot slot_at slot_bytes to_chs to_lba sector_at sectors_of place_at slot_make could_be_one
slot_make_3_sectors_from_a_number_on_3 = refl

-- one sector
pub slot_make_one_sector_7 : slot_make ChsMode (record { heads = 1; sectors = 1 }) 3 1023 1 ≡ Ok (record { disk = 3; count = 1; address = Chs 1023 0 1 })
unfolding number16 number32 is_zero has_ranges has_address is_slot is_one_slot chs_of address_of slot_of some_slot slot_at slot_bytes to_chs to_lba sector_at sectors_of place_at slot_make could_be_one
slot_make_one_sector_7 = refl

-- 3 sectors from a number on
pub slot_make_3_sectors_from_a_number_on_4 : slot_make LinearMode (record { heads = 4; sectors = 17 }) 0 9681 3 ≡ Ok (record { disk = 0; count = 3; address = Linear 9681 })
unfolding number16 number32 is_zero has_ranges has_address is_slot is_one_slot chs_of address_of slot_of some_slot slot_at slot_bytes to_chs to_lba sector_at sectors_of place_at slot_make could_be_one
slot_make_3_sectors_from_a_number_on_4 = refl

-- 3 sectors from a number on
pub slot_make_3_sectors_from_a_number_on_5 : slot_make ChsMode (record { heads = 255; sectors = 63 }) 3 1178 3 ≡ Ok (record { disk = 3; count = 3; address = Chs 0 18 45 })
unfolding number16 number32 is_zero has_ranges has_address is_slot is_one_slot chs_of address_of slot_of some_slot slot_at slot_bytes to_chs to_lba sector_at sectors_of place_at slot_make could_be_one
slot_make_3_sectors_from_a_number_on_5 = refl

-- one sector
pub slot_make_one_sector_8 : slot_make ChsMode (record { heads = 4; sectors = 17 }) 3 69632 1 ≡ Err (Cylinder 1024)
unfolding number16 number32 is_zero has_ranges has_address is_slot is_one_slot chs_of address_of slot_of some_slot slot_at slot_bytes to_chs to_lba sector_at sectors_of place_at slot_make could_be_one
slot_make_one_sector_8 = refl

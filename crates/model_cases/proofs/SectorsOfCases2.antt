-- Cases of the model, written by tools/model_cases.py: the sectors of a slot.
use Rattle.std.proofs.Common.{◌≡◌, ◌∷◌, [], Ok, Err, refl}
use Rattle.lilo_model.specs.Bytes.{number16, number32, is_zero}
use Rattle.lilo_model.specs.Slots.{has_ranges, has_address, is_slot, is_one_slot, chs_of, address_of, slot_of, some_slot, slot_at, slot_bytes, to_chs, to_lba, sector_at, sectors_of, place_at, slot_make, could_be_one, Chs, Linear, Lba32, NotFound}

-- 5 sectors by cylinder, head and sector
pub sectors_of_5_sectors_by_cylinder_head_and_sector : sectors_of (record { heads = 64; sectors = 32 }) (record { disk = 3; count = 5; address = Chs 1023 16 23 }) ≡ Ok 2095638 ∷ Ok 2095639 ∷ Ok 2095640 ∷ Ok 2095641 ∷ Ok 2095642 ∷ []
unfolding number16 number32 is_zero has_ranges has_address is_slot is_one_slot chs_of address_of slot_of some_slot slot_at slot_bytes to_chs to_lba sector_at sectors_of place_at slot_make could_be_one
sectors_of_5_sectors_by_cylinder_head_and_sector = refl

-- 5 sectors by a number
pub sectors_of_5_sectors_by_a_number_3 : sectors_of (record { heads = 64; sectors = 32 }) (record { disk = 1; count = 5; address = Lba32 4294967295 }) ≡ Ok 4294967295 ∷ Ok 4294967296 ∷ Ok 4294967297 ∷ Ok 4294967298 ∷ Ok 4294967299 ∷ []
unfolding number16 number32 is_zero has_ranges has_address is_slot is_one_slot chs_of address_of slot_of some_slot slot_at slot_bytes to_chs to_lba sector_at sectors_of place_at slot_make could_be_one
sectors_of_5_sectors_by_a_number_3 = refl

-- 2 sectors by a number
pub sectors_of_2_sectors_by_a_number_3 : sectors_of (record { heads = 255; sectors = 63 }) (record { disk = 2; count = 2; address = Lba32 82 }) ≡ Ok 82 ∷ Ok 83 ∷ []
unfolding number16 number32 is_zero has_ranges has_address is_slot is_one_slot chs_of address_of slot_of some_slot slot_at slot_bytes to_chs to_lba sector_at sectors_of place_at slot_make could_be_one
sectors_of_2_sectors_by_a_number_3 = refl

-- 3 sectors by a number read by cylinders
pub sectors_of_3_sectors_by_a_number_read_by_cylinders : sectors_of (record { heads = 255; sectors = 63 }) (record { disk = 0; count = 3; address = Linear 5 }) ≡ Ok 5 ∷ Ok 6 ∷ Ok 7 ∷ []
unfolding number16 number32 is_zero has_ranges has_address is_slot is_one_slot chs_of address_of slot_of some_slot slot_at slot_bytes to_chs to_lba sector_at sectors_of place_at slot_make could_be_one
sectors_of_3_sectors_by_a_number_read_by_cylinders = refl

-- one sector by a number read by cylinders
pub sectors_of_one_sector_by_a_number_read_by_cylinders_6 : sectors_of (record { heads = 255; sectors = 63 }) (record { disk = 2; count = 1; address = Linear 16450558 }) ≡ Ok 16450558 ∷ []
unfolding number16 number32 is_zero has_ranges has_address is_slot is_one_slot chs_of address_of slot_of some_slot slot_at slot_bytes to_chs to_lba sector_at sectors_of place_at slot_make could_be_one
sectors_of_one_sector_by_a_number_read_by_cylinders_6 = refl

-- one sector by cylinder, head and sector
pub sectors_of_one_sector_by_cylinder_head_and_sector_5 : sectors_of (record { heads = 16; sectors = 63 }) (record { disk = 2; count = 1; address = Chs 1 9 5 }) ≡ Ok 1579 ∷ []
unfolding number16 number32 is_zero has_ranges has_address is_slot is_one_slot chs_of address_of slot_of some_slot slot_at slot_bytes to_chs to_lba sector_at sectors_of place_at slot_make could_be_one
sectors_of_one_sector_by_cylinder_head_and_sector_5 = refl

-- 5 sectors by a number read by cylinders
pub sectors_of_5_sectors_by_a_number_read_by_cylinders_2 : sectors_of (record { heads = 2; sectors = 9 }) (record { disk = 3; count = 5; address = Linear 5 }) ≡ Ok 5 ∷ Ok 6 ∷ Ok 7 ∷ Ok 8 ∷ Ok 9 ∷ []
unfolding number16 number32 is_zero has_ranges has_address is_slot is_one_slot chs_of address_of slot_of some_slot slot_at slot_bytes to_chs to_lba sector_at sectors_of place_at slot_make could_be_one
sectors_of_5_sectors_by_a_number_read_by_cylinders_2 = refl

-- 3 sectors by cylinder, head and sector
pub sectors_of_3_sectors_by_cylinder_head_and_sector_3 : sectors_of (record { heads = 64; sectors = 32 }) (record { disk = 2; count = 3; address = Chs 1 58 29 }) ≡ Ok 3932 ∷ Ok 3933 ∷ Ok 3934 ∷ []
unfolding number16 number32 is_zero has_ranges has_address is_slot is_one_slot chs_of address_of slot_of some_slot slot_at slot_bytes to_chs to_lba sector_at sectors_of place_at slot_make could_be_one
sectors_of_3_sectors_by_cylinder_head_and_sector_3 = refl

-- one sector by cylinder, head and sector
pub sectors_of_one_sector_by_cylinder_head_and_sector_6 : sectors_of (record { heads = 2; sectors = 9 }) (record { disk = 1; count = 1; address = Chs 5 0 4 }) ≡ Ok 93 ∷ []
unfolding number16 number32 is_zero has_ranges has_address is_slot is_one_slot chs_of address_of slot_of some_slot slot_at slot_bytes to_chs to_lba sector_at sectors_of place_at slot_make could_be_one
sectors_of_one_sector_by_cylinder_head_and_sector_6 = refl

-- one sector by a number
pub sectors_of_one_sector_by_a_number_7 : sectors_of (record { heads = 4; sectors = 17 }) (record { disk = 0; count = 1; address = Lba32 4294967295 }) ≡ Ok 4294967295 ∷ []
unfolding number16 number32 is_zero has_ranges has_address is_slot is_one_slot chs_of address_of slot_of some_slot slot_at slot_bytes to_chs to_lba sector_at sectors_of place_at slot_make could_be_one
sectors_of_one_sector_by_a_number_7 = refl

-- one sector by a number read by cylinders
pub sectors_of_one_sector_by_a_number_read_by_cylinders_7 : sectors_of (record { heads = 4; sectors = 17 }) (record { disk = 3; count = 1; address = Linear 69631 }) ≡ Ok 69631 ∷ []
unfolding number16 number32 is_zero has_ranges has_address is_slot is_one_slot chs_of address_of slot_of some_slot slot_at slot_bytes to_chs to_lba sector_at sectors_of place_at slot_make could_be_one
sectors_of_one_sector_by_a_number_read_by_cylinders_7 = refl

-- one sector by cylinder, head and sector
pub sectors_of_one_sector_by_cylinder_head_and_sector_7 : sectors_of (record { heads = 64; sectors = 32 }) (record { disk = 2; count = 1; address = Chs 0 42 25 }) ≡ Ok 1368 ∷ []
unfolding number16 number32 is_zero has_ranges has_address is_slot is_one_slot chs_of address_of slot_of some_slot slot_at slot_bytes to_chs to_lba sector_at sectors_of place_at slot_make could_be_one
sectors_of_one_sector_by_cylinder_head_and_sector_7 = refl

-- one sector by cylinder, head and sector, not found
pub sectors_of_one_sector_by_cylinder_head_and_sector_not_found_2 : sectors_of (record { heads = 64; sectors = 32 }) (record { disk = 0; count = 1; address = Chs 0 35 33 }) ≡ Err NotFound ∷ []
unfolding number16 number32 is_zero has_ranges has_address is_slot is_one_slot chs_of address_of slot_of some_slot slot_at slot_bytes to_chs to_lba sector_at sectors_of place_at slot_make could_be_one
sectors_of_one_sector_by_cylinder_head_and_sector_not_found_2 = refl

-- 2 sectors by a number
pub sectors_of_2_sectors_by_a_number_4 : sectors_of (record { heads = 1; sectors = 1 }) (record { disk = 3; count = 2; address = Lba32 3076468895 }) ≡ Ok 3076468895 ∷ Ok 3076468896 ∷ []
unfolding number16 number32 is_zero has_ranges has_address is_slot is_one_slot chs_of address_of slot_of some_slot slot_at slot_bytes to_chs to_lba sector_at sectors_of place_at slot_make could_be_one
sectors_of_2_sectors_by_a_number_4 = refl

-- one sector by cylinder, head and sector, not found
pub sectors_of_one_sector_by_cylinder_head_and_sector_not_found_3 : sectors_of (record { heads = 64; sectors = 32 }) (record { disk = 1; count = 1; address = Chs 1016 65 11 }) ≡ Err NotFound ∷ []
unfolding number16 number32 is_zero has_ranges has_address is_slot is_one_slot chs_of address_of slot_of some_slot slot_at slot_bytes to_chs to_lba sector_at sectors_of place_at slot_make could_be_one
sectors_of_one_sector_by_cylinder_head_and_sector_not_found_3 = refl

-- 2 sectors by cylinder, head and sector, none of them found
pub sectors_of_2_sectors_by_cylinder_head_and_sector_none_of_them_found_2 : sectors_of (record { heads = 16; sectors = 63 }) (record { disk = 3; count = 2; address = Chs 1 16 33 }) ≡ Err NotFound ∷ Err NotFound ∷ []
unfolding number16 number32 is_zero has_ranges has_address is_slot is_one_slot chs_of address_of slot_of some_slot slot_at slot_bytes to_chs to_lba sector_at sectors_of place_at slot_make could_be_one
sectors_of_2_sectors_by_cylinder_head_and_sector_none_of_them_found_2 = refl

-- one sector by cylinder, head and sector
pub sectors_of_one_sector_by_cylinder_head_and_sector_8 : sectors_of (record { heads = 4; sectors = 17 }) (record { disk = 2; count = 1; address = Chs 5 3 3 }) ≡ Ok 393 ∷ []
unfolding number16 number32 is_zero has_ranges has_address is_slot is_one_slot chs_of address_of slot_of some_slot slot_at slot_bytes to_chs to_lba sector_at sectors_of place_at slot_make could_be_one
sectors_of_one_sector_by_cylinder_head_and_sector_8 = refl

-- one sector by a number
pub sectors_of_one_sector_by_a_number_8 : sectors_of (record { heads = 16; sectors = 63 }) (record { disk = 1; count = 1; address = Lba32 0 }) ≡ Ok 0 ∷ []
unfolding number16 number32 is_zero has_ranges has_address is_slot is_one_slot chs_of address_of slot_of some_slot slot_at slot_bytes to_chs to_lba sector_at sectors_of place_at slot_make could_be_one
sectors_of_one_sector_by_a_number_8 = refl

-- 2 sectors by a number
pub sectors_of_2_sectors_by_a_number_5 : sectors_of (record { heads = 16; sectors = 63 }) (record { disk = 1; count = 2; address = Lba32 0 }) ≡ Ok 0 ∷ Ok 1 ∷ []
unfolding number16 number32 is_zero has_ranges has_address is_slot is_one_slot chs_of address_of slot_of some_slot slot_at slot_bytes to_chs to_lba sector_at sectors_of place_at slot_make could_be_one
sectors_of_2_sectors_by_a_number_5 = refl

-- one sector by a number read by cylinders
pub sectors_of_one_sector_by_a_number_read_by_cylinders_8 : sectors_of (record { heads = 4; sectors = 17 }) (record { disk = 2; count = 1; address = Linear 13731 }) ≡ Ok 13731 ∷ []
unfolding number16 number32 is_zero has_ranges has_address is_slot is_one_slot chs_of address_of slot_of some_slot slot_at slot_bytes to_chs to_lba sector_at sectors_of place_at slot_make could_be_one
sectors_of_one_sector_by_a_number_read_by_cylinders_8 = refl

-- 5 sectors by cylinder, head and sector, none of them found
pub sectors_of_5_sectors_by_cylinder_head_and_sector_none_of_them_found : sectors_of (record { heads = 255; sectors = 63 }) (record { disk = 0; count = 5; address = Chs 5 255 43 }) ≡ Err NotFound ∷ Err NotFound ∷ Err NotFound ∷ Err NotFound ∷ Err NotFound ∷ []
unfolding number16 number32 is_zero has_ranges has_address is_slot is_one_slot chs_of address_of slot_of some_slot slot_at slot_bytes to_chs to_lba sector_at sectors_of place_at slot_make could_be_one
sectors_of_5_sectors_by_cylinder_head_and_sector_none_of_them_found = refl

-- 2 sectors by cylinder, head and sector
pub sectors_of_2_sectors_by_cylinder_head_and_sector_3 : sectors_of (record { heads = 16; sectors = 63 }) (record { disk = 1; count = 2; address = Chs 5 10 42 }) ≡ Ok 5711 ∷ Ok 5712 ∷ []
unfolding number16 number32 is_zero has_ranges has_address is_slot is_one_slot chs_of address_of slot_of some_slot slot_at slot_bytes to_chs to_lba sector_at sectors_of place_at slot_make could_be_one
sectors_of_2_sectors_by_cylinder_head_and_sector_3 = refl

-- one sector by a number read by cylinders
pub sectors_of_one_sector_by_a_number_read_by_cylinders_9 : sectors_of (record { heads = 255; sectors = 63 }) (record { disk = 0; count = 1; address = Linear 5 }) ≡ Ok 5 ∷ []
unfolding number16 number32 is_zero has_ranges has_address is_slot is_one_slot chs_of address_of slot_of some_slot slot_at slot_bytes to_chs to_lba sector_at sectors_of place_at slot_make could_be_one
sectors_of_one_sector_by_a_number_read_by_cylinders_9 = refl

-- one sector by a number
pub sectors_of_one_sector_by_a_number_9 : sectors_of (record { heads = 1; sectors = 1 }) (record { disk = 3; count = 1; address = Lba32 82 }) ≡ Ok 82 ∷ []
unfolding number16 number32 is_zero has_ranges has_address is_slot is_one_slot chs_of address_of slot_of some_slot slot_at slot_bytes to_chs to_lba sector_at sectors_of place_at slot_make could_be_one
sectors_of_one_sector_by_a_number_9 = refl

-- one sector by a number read by cylinders
pub sectors_of_one_sector_by_a_number_read_by_cylinders_10 : sectors_of (record { heads = 1; sectors = 1 }) (record { disk = 1; count = 1; address = Linear 5 }) ≡ Ok 5 ∷ []
unfolding number16 number32 is_zero has_ranges has_address is_slot is_one_slot chs_of address_of slot_of some_slot slot_at slot_bytes to_chs to_lba sector_at sectors_of place_at slot_make could_be_one
sectors_of_one_sector_by_a_number_read_by_cylinders_10 = refl

-- 2 sectors by a number
pub sectors_of_2_sectors_by_a_number_6 : sectors_of (record { heads = 255; sectors = 63 }) (record { disk = 2; count = 2; address = Lba32 82 }) ≡ Ok 82 ∷ Ok 83 ∷ []
unfolding number16 number32 is_zero has_ranges has_address is_slot is_one_slot chs_of address_of slot_of some_slot slot_at slot_bytes to_chs to_lba sector_at sectors_of place_at slot_make could_be_one
sectors_of_2_sectors_by_a_number_6 = refl

-- 3 sectors by a number
pub sectors_of_3_sectors_by_a_number : sectors_of (record { heads = 16; sectors = 63 }) (record { disk = 1; count = 3; address = Lba32 1322810806 }) ≡ Ok 1322810806 ∷ Ok 1322810807 ∷ Ok 1322810808 ∷ []
unfolding number16 number32 is_zero has_ranges has_address is_slot is_one_slot chs_of address_of slot_of some_slot slot_at slot_bytes to_chs to_lba sector_at sectors_of place_at slot_make could_be_one
sectors_of_3_sectors_by_a_number = refl

-- 2 sectors by a number read by cylinders
pub sectors_of_2_sectors_by_a_number_read_by_cylinders_2 : sectors_of (record { heads = 16; sectors = 63 }) (record { disk = 0; count = 2; address = Linear 1032190 }) ≡ Ok 1032190 ∷ Ok 1032191 ∷ []
unfolding number16 number32 is_zero has_ranges has_address is_slot is_one_slot chs_of address_of slot_of some_slot slot_at slot_bytes to_chs to_lba sector_at sectors_of place_at slot_make could_be_one
sectors_of_2_sectors_by_a_number_read_by_cylinders_2 = refl

-- 2 sectors by a number
pub sectors_of_2_sectors_by_a_number_7 : sectors_of (record { heads = 4; sectors = 17 }) (record { disk = 3; count = 2; address = Lba32 0 }) ≡ Ok 0 ∷ Ok 1 ∷ []
unfolding number16 number32 is_zero has_ranges has_address is_slot is_one_slot chs_of address_of slot_of some_slot slot_at slot_bytes to_chs to_lba sector_at sectors_of place_at slot_make could_be_one
sectors_of_2_sectors_by_a_number_7 = refl

-- one sector by cylinder, head and sector
pub sectors_of_one_sector_by_cylinder_head_and_sector_9 : sectors_of (record { heads = 16; sectors = 63 }) (record { disk = 0; count = 1; address = Chs 1023 8 30 }) ≡ Ok 1031717 ∷ []
unfolding number16 number32 is_zero has_ranges has_address is_slot is_one_slot chs_of address_of slot_of some_slot slot_at slot_bytes to_chs to_lba sector_at sectors_of place_at slot_make could_be_one
sectors_of_one_sector_by_cylinder_head_and_sector_9 = refl

-- one sector by a number read by cylinders
pub sectors_of_one_sector_by_a_number_read_by_cylinders_11 : sectors_of (record { heads = 64; sectors = 32 }) (record { disk = 0; count = 1; address = Linear 0 }) ≡ Ok 0 ∷ []
unfolding number16 number32 is_zero has_ranges has_address is_slot is_one_slot chs_of address_of slot_of some_slot slot_at slot_bytes to_chs to_lba sector_at sectors_of place_at slot_make could_be_one
sectors_of_one_sector_by_a_number_read_by_cylinders_11 = refl

-- 5 sectors by a number
pub sectors_of_5_sectors_by_a_number_4 : sectors_of (record { heads = 4; sectors = 17 }) (record { disk = 0; count = 5; address = Lba32 3506243396 }) ≡ Ok 3506243396 ∷ Ok 3506243397 ∷ Ok 3506243398 ∷ Ok 3506243399 ∷ Ok 3506243400 ∷ []
unfolding number16 number32 is_zero has_ranges has_address is_slot is_one_slot chs_of address_of slot_of some_slot slot_at slot_bytes to_chs to_lba sector_at sectors_of place_at slot_make could_be_one
sectors_of_5_sectors_by_a_number_4 = refl

-- 2 sectors by a number read by cylinders
pub sectors_of_2_sectors_by_a_number_read_by_cylinders_3 : sectors_of (record { heads = 16; sectors = 63 }) (record { disk = 0; count = 2; address = Linear 5 }) ≡ Ok 5 ∷ Ok 6 ∷ []
unfolding number16 number32 is_zero has_ranges has_address is_slot is_one_slot chs_of address_of slot_of some_slot slot_at slot_bytes to_chs to_lba sector_at sectors_of place_at slot_make could_be_one
sectors_of_2_sectors_by_a_number_read_by_cylinders_3 = refl

-- 5 sectors by a number
pub sectors_of_5_sectors_by_a_number_5 : sectors_of (record { heads = 4; sectors = 17 }) (record { disk = 0; count = 5; address = Lba32 4294967291 }) ≡ Ok 4294967291 ∷ Ok 4294967292 ∷ Ok 4294967293 ∷ Ok 4294967294 ∷ Ok 4294967295 ∷ []
unfolding number16 number32 is_zero has_ranges has_address is_slot is_one_slot chs_of address_of slot_of some_slot slot_at slot_bytes to_chs to_lba sector_at sectors_of place_at slot_make could_be_one
sectors_of_5_sectors_by_a_number_5 = refl

-- one sector by a number read by cylinders
pub sectors_of_one_sector_by_a_number_read_by_cylinders_12 : sectors_of (record { heads = 255; sectors = 63 }) (record { disk = 1; count = 1; address = Linear 5 }) ≡ Ok 5 ∷ []
unfolding number16 number32 is_zero has_ranges has_address is_slot is_one_slot chs_of address_of slot_of some_slot slot_at slot_bytes to_chs to_lba sector_at sectors_of place_at slot_make could_be_one
sectors_of_one_sector_by_a_number_read_by_cylinders_12 = refl

-- 5 sectors by a number
pub sectors_of_5_sectors_by_a_number_6 : sectors_of (record { heads = 64; sectors = 32 }) (record { disk = 0; count = 5; address = Lba32 4095 }) ≡ Ok 4095 ∷ Ok 4096 ∷ Ok 4097 ∷ Ok 4098 ∷ Ok 4099 ∷ []
unfolding number16 number32 is_zero has_ranges has_address is_slot is_one_slot chs_of address_of slot_of some_slot slot_at slot_bytes to_chs to_lba sector_at sectors_of place_at slot_make could_be_one
sectors_of_5_sectors_by_a_number_6 = refl

-- 2 sectors by a number read by cylinders
pub sectors_of_2_sectors_by_a_number_read_by_cylinders_4 : sectors_of (record { heads = 1; sectors = 1 }) (record { disk = 3; count = 2; address = Linear 0 }) ≡ Ok 0 ∷ Ok 1 ∷ []
unfolding number16 number32 is_zero has_ranges has_address is_slot is_one_slot chs_of address_of slot_of some_slot slot_at slot_bytes to_chs to_lba sector_at sectors_of place_at slot_make could_be_one
sectors_of_2_sectors_by_a_number_read_by_cylinders_4 = refl

-- one sector by a number read by cylinders
pub sectors_of_one_sector_by_a_number_read_by_cylinders_13 : sectors_of (record { heads = 64; sectors = 32 }) (record { disk = 0; count = 1; address = Linear 2097151 }) ≡ Ok 2097151 ∷ []
unfolding number16 number32 is_zero has_ranges has_address is_slot is_one_slot chs_of address_of slot_of some_slot slot_at slot_bytes to_chs to_lba sector_at sectors_of place_at slot_make could_be_one
sectors_of_one_sector_by_a_number_read_by_cylinders_13 = refl

-- one sector by a number
pub sectors_of_one_sector_by_a_number_10 : sectors_of (record { heads = 1; sectors = 1 }) (record { disk = 1; count = 1; address = Lba32 0 }) ≡ Ok 0 ∷ []
unfolding number16 number32 is_zero has_ranges has_address is_slot is_one_slot chs_of address_of slot_of some_slot slot_at slot_bytes to_chs to_lba sector_at sectors_of place_at slot_make could_be_one
sectors_of_one_sector_by_a_number_10 = refl

-- 5 sectors by a number read by cylinders
pub sectors_of_5_sectors_by_a_number_read_by_cylinders_3 : sectors_of (record { heads = 255; sectors = 63 }) (record { disk = 3; count = 5; address = Linear 5270666 }) ≡ Ok 5270666 ∷ Ok 5270667 ∷ Ok 5270668 ∷ Ok 5270669 ∷ Ok 5270670 ∷ []
unfolding number16 number32 is_zero has_ranges has_address is_slot is_one_slot chs_of address_of slot_of some_slot slot_at slot_bytes to_chs to_lba sector_at sectors_of place_at slot_make could_be_one
sectors_of_5_sectors_by_a_number_read_by_cylinders_3 = refl

-- Cases of the model, written by tools/model_cases.py: the sectors of a slot.
use Rattle.std.proofs.Common.{◌≡◌, ◌∷◌, [], Ok, Err, refl}
use Rattle.lilo_model.specs.Bytes.{number16, number32, is_zero}
use Rattle.lilo_model.specs.Slots.{has_ranges, has_address, is_slot, is_one_slot, chs_of, address_of, slot_of, some_slot, slot_at, slot_bytes, to_chs, to_lba, sector_at, sectors_of, place_at, slot_make, could_be_one, Chs, Linear, Lba32, NotFound}

-- 3 sectors by cylinder, head and sector, none of them found
pub sectors_of_3_sectors_by_cylinder_head_and_sector_none_of_them_found : sectors_of (record { heads = 2; sectors = 9 }) (record { disk = 2; count = 3; address = Chs 5 0 10 }) ≡ Err NotFound ∷ Err NotFound ∷ Err NotFound ∷ []
unfolding number16 number32 is_zero has_ranges has_address is_slot is_one_slot chs_of address_of slot_of some_slot slot_at slot_bytes to_chs to_lba sector_at sectors_of place_at slot_make could_be_one
sectors_of_3_sectors_by_cylinder_head_and_sector_none_of_them_found = refl

-- one sector by cylinder, head and sector
pub sectors_of_one_sector_by_cylinder_head_and_sector_10 : sectors_of (record { heads = 16; sectors = 63 }) (record { disk = 2; count = 1; address = Chs 69 0 41 }) ≡ Ok 69592 ∷ []
unfolding number16 number32 is_zero has_ranges has_address is_slot is_one_slot chs_of address_of slot_of some_slot slot_at slot_bytes to_chs to_lba sector_at sectors_of place_at slot_make could_be_one
sectors_of_one_sector_by_cylinder_head_and_sector_10 = refl

-- one sector by a number
pub sectors_of_one_sector_by_a_number_11 : sectors_of (record { heads = 2; sectors = 9 }) (record { disk = 2; count = 1; address = Lba32 82 }) ≡ Ok 82 ∷ []
unfolding number16 number32 is_zero has_ranges has_address is_slot is_one_slot chs_of address_of slot_of some_slot slot_at slot_bytes to_chs to_lba sector_at sectors_of place_at slot_make could_be_one
sectors_of_one_sector_by_a_number_11 = refl

-- one sector by a number read by cylinders
pub sectors_of_one_sector_by_a_number_read_by_cylinders_14 : sectors_of (record { heads = 4; sectors = 17 }) (record { disk = 2; count = 1; address = Linear 45695 }) ≡ Ok 45695 ∷ []
unfolding number16 number32 is_zero has_ranges has_address is_slot is_one_slot chs_of address_of slot_of some_slot slot_at slot_bytes to_chs to_lba sector_at sectors_of place_at slot_make could_be_one
sectors_of_one_sector_by_a_number_read_by_cylinders_14 = refl

-- one sector by a number
pub sectors_of_one_sector_by_a_number_12 : sectors_of (record { heads = 2; sectors = 9 }) (record { disk = 0; count = 1; address = Lba32 4294967295 }) ≡ Ok 4294967295 ∷ []
unfolding number16 number32 is_zero has_ranges has_address is_slot is_one_slot chs_of address_of slot_of some_slot slot_at slot_bytes to_chs to_lba sector_at sectors_of place_at slot_make could_be_one
sectors_of_one_sector_by_a_number_12 = refl

-- 2 sectors by a number read by cylinders
pub sectors_of_2_sectors_by_a_number_read_by_cylinders_5 : sectors_of (record { heads = 64; sectors = 32 }) (record { disk = 1; count = 2; address = Linear 5 }) ≡ Ok 5 ∷ Ok 6 ∷ []
unfolding number16 number32 is_zero has_ranges has_address is_slot is_one_slot chs_of address_of slot_of some_slot slot_at slot_bytes to_chs to_lba sector_at sectors_of place_at slot_make could_be_one
sectors_of_2_sectors_by_a_number_read_by_cylinders_5 = refl

-- one sector by cylinder, head and sector, not found
pub sectors_of_one_sector_by_cylinder_head_and_sector_not_found_4 : sectors_of (record { heads = 16; sectors = 63 }) (record { disk = 3; count = 1; address = Chs 1023 17 63 }) ≡ Err NotFound ∷ []
unfolding number16 number32 is_zero has_ranges has_address is_slot is_one_slot chs_of address_of slot_of some_slot slot_at slot_bytes to_chs to_lba sector_at sectors_of place_at slot_make could_be_one
sectors_of_one_sector_by_cylinder_head_and_sector_not_found_4 = refl

-- one sector by cylinder, head and sector
pub sectors_of_one_sector_by_cylinder_head_and_sector_11 : sectors_of (record { heads = 64; sectors = 32 }) (record { disk = 1; count = 1; address = Chs 1023 3 22 }) ≡ Ok 2095221 ∷ []
unfolding number16 number32 is_zero has_ranges has_address is_slot is_one_slot chs_of address_of slot_of some_slot slot_at slot_bytes to_chs to_lba sector_at sectors_of place_at slot_make could_be_one
sectors_of_one_sector_by_cylinder_head_and_sector_11 = refl

-- 5 sectors by a number read by cylinders, none of them found
pub sectors_of_5_sectors_by_a_number_read_by_cylinders_none_of_them_found : sectors_of (record { heads = 4; sectors = 17 }) (record { disk = 1; count = 5; address = Linear 69632 }) ≡ Err NotFound ∷ Err NotFound ∷ Err NotFound ∷ Err NotFound ∷ Err NotFound ∷ []
unfolding number16 number32 is_zero has_ranges has_address is_slot is_one_slot chs_of address_of slot_of some_slot slot_at slot_bytes to_chs to_lba sector_at sectors_of place_at slot_make could_be_one
sectors_of_5_sectors_by_a_number_read_by_cylinders_none_of_them_found = refl

-- 3 sectors by a number read by cylinders
pub sectors_of_3_sectors_by_a_number_read_by_cylinders_2 : sectors_of (record { heads = 16; sectors = 63 }) (record { disk = 0; count = 3; address = Linear 248401 }) ≡ Ok 248401 ∷ Ok 248402 ∷ Ok 248403 ∷ []
unfolding number16 number32 is_zero has_ranges has_address is_slot is_one_slot chs_of address_of slot_of some_slot slot_at slot_bytes to_chs to_lba sector_at sectors_of place_at slot_make could_be_one
sectors_of_3_sectors_by_a_number_read_by_cylinders_2 = refl

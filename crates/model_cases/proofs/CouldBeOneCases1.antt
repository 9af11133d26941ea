-- Cases of the model, written by tools/model_cases.py: whether two neighbouring slots could be one.
use Rattle.std.proofs.Common.{◌≡◌, true, false, refl}
use Rattle.lilo_model.specs.Bytes.{number16, number32, is_zero}
use Rattle.lilo_model.specs.Slots.{has_ranges, has_address, is_slot, is_one_slot, chs_of, address_of, slot_of, some_slot, slot_at, slot_bytes, to_chs, to_lba, sector_at, sectors_of, place_at, slot_make, could_be_one, Chs, Linear, Lba32}

-- two slots that couldn't be one
pub could_be_one_two_slots_that_couldnt_be_one : could_be_one (record { heads = 2; sectors = 9 }) (record { disk = 3; count = 126; address = Linear 5 }) (record { disk = 3; count = 127; address = Linear 130 }) ≡ false
unfolding number16 number32 is_zero has_ranges has_address is_slot is_one_slot chs_of address_of slot_of some_slot slot_at slot_bytes to_chs to_lba sector_at sectors_of place_at slot_make could_be_one
could_be_one_two_slots_that_couldnt_be_one = refl

-- two slots that couldn't be one
pub could_be_one_two_slots_that_couldnt_be_one_2 : could_be_one (record { heads = 255; sectors = 63 }) (record { disk = 0; count = 127; address = Linear 0 }) (record { disk = 0; count = 1; address = Linear 127 }) ≡ false
unfolding number16 number32 is_zero has_ranges has_address is_slot is_one_slot chs_of address_of slot_of some_slot slot_at slot_bytes to_chs to_lba sector_at sectors_of place_at slot_make could_be_one
could_be_one_two_slots_that_couldnt_be_one_2 = refl

-- two slots that couldn't be one
pub could_be_one_two_slots_that_couldnt_be_one_3 : could_be_one (record { heads = 255; sectors = 63 }) (record { disk = 0; count = 127; address = Linear 82 }) (record { disk = 1; count = 2; address = Chs 0 3 20 }) ≡ false
unfolding number16 number32 is_zero has_ranges has_address is_slot is_one_slot chs_of address_of slot_of some_slot slot_at slot_bytes to_chs to_lba sector_at sectors_of place_at slot_make could_be_one
could_be_one_two_slots_that_couldnt_be_one_3 = refl

-- two slots that could be one
pub could_be_one_two_slots_that_could_be_one : could_be_one (record { heads = 16; sectors = 63 }) (record { disk = 2; count = 126; address = Lba32 0 }) (record { disk = 2; count = 1; address = Lba32 126 }) ≡ true
unfolding number16 number32 is_zero has_ranges has_address is_slot is_one_slot chs_of address_of slot_of some_slot slot_at slot_bytes to_chs to_lba sector_at sectors_of place_at slot_make could_be_one
could_be_one_two_slots_that_could_be_one = refl

-- two slots that couldn't be one
pub could_be_one_two_slots_that_couldnt_be_one_4 : could_be_one (record { heads = 255; sectors = 63 }) (record { disk = 0; count = 60; address = Linear 0 }) (record { disk = 0; count = 5; address = Lba32 60 }) ≡ false
unfolding number16 number32 is_zero has_ranges has_address is_slot is_one_slot chs_of address_of slot_of some_slot slot_at slot_bytes to_chs to_lba sector_at sectors_of place_at slot_make could_be_one
could_be_one_two_slots_that_couldnt_be_one_4 = refl

-- two slots that could be one
pub could_be_one_two_slots_that_could_be_one_2 : could_be_one (record { heads = 255; sectors = 63 }) (record { disk = 0; count = 2; address = Chs 1023 181 45 }) (record { disk = 0; count = 5; address = Chs 1023 181 47 }) ≡ true
unfolding number16 number32 is_zero has_ranges has_address is_slot is_one_slot chs_of address_of slot_of some_slot slot_at slot_bytes to_chs to_lba sector_at sectors_of place_at slot_make could_be_one
could_be_one_two_slots_that_could_be_one_2 = refl

-- two slots that couldn't be one
pub could_be_one_two_slots_that_couldnt_be_one_5 : could_be_one (record { heads = 255; sectors = 63 }) (record { disk = 1; count = 1; address = Lba32 0 }) (record { disk = 2; count = 5; address = Lba32 1 }) ≡ false
unfolding number16 number32 is_zero has_ranges has_address is_slot is_one_slot chs_of address_of slot_of some_slot slot_at slot_bytes to_chs to_lba sector_at sectors_of place_at slot_make could_be_one
could_be_one_two_slots_that_couldnt_be_one_5 = refl

-- two slots that couldn't be one
pub could_be_one_two_slots_that_couldnt_be_one_6 : could_be_one (record { heads = 4; sectors = 17 }) (record { disk = 2; count = 127; address = Lba32 1061686869 }) (record { disk = 2; count = 1; address = Lba32 1061686996 }) ≡ false
unfolding number16 number32 is_zero has_ranges has_address is_slot is_one_slot chs_of address_of slot_of some_slot slot_at slot_bytes to_chs to_lba sector_at sectors_of place_at slot_make could_be_one
could_be_one_two_slots_that_couldnt_be_one_6 = refl

-- two slots that could be one
pub could_be_one_two_slots_that_could_be_one_3 : could_be_one (record { heads = 4; sectors = 17 }) (record { disk = 3; count = 60; address = Lba32 82 }) (record { disk = 3; count = 2; address = Lba32 142 }) ≡ true
unfolding number16 number32 is_zero has_ranges has_address is_slot is_one_slot chs_of address_of slot_of some_slot slot_at slot_bytes to_chs to_lba sector_at sectors_of place_at slot_make could_be_one
could_be_one_two_slots_that_could_be_one_3 = refl

-- two slots that could be one
pub could_be_one_two_slots_that_could_be_one_4 : could_be_one (record { heads = 2; sectors = 9 }) (record { disk = 2; count = 60; address = Lba32 3182016308 }) (record { disk = 2; count = 5; address = Lba32 3182016368 }) ≡ true
unfolding number16 number32 is_zero has_ranges has_address is_slot is_one_slot chs_of address_of slot_of some_slot slot_at slot_bytes to_chs to_lba sector_at sectors_of place_at slot_make could_be_one
could_be_one_two_slots_that_could_be_one_4 = refl

-- two slots that couldn't be one
pub could_be_one_two_slots_that_couldnt_be_one_7 : could_be_one (record { heads = 4; sectors = 17 }) (record { disk = 0; count = 1; address = Lba32 0 }) (record { disk = 0; count = 5; address = Chs 0 0 2 }) ≡ false
unfolding number16 number32 is_zero has_ranges has_address is_slot is_one_slot chs_of address_of slot_of some_slot slot_at slot_bytes to_chs to_lba sector_at sectors_of place_at slot_make could_be_one
could_be_one_two_slots_that_couldnt_be_one_7 = refl

-- two slots that couldn't be one
pub could_be_one_two_slots_that_couldnt_be_one_8 : could_be_one (record { heads = 4; sectors = 17 }) (record { disk = 2; count = 2; address = Chs 0 2 12 }) (record { disk = 3; count = 67; address = Lba32 47 }) ≡ false
unfolding number16 number32 is_zero has_ranges has_address is_slot is_one_slot chs_of address_of slot_of some_slot slot_at slot_bytes to_chs to_lba sector_at sectors_of place_at slot_make could_be_one
could_be_one_two_slots_that_couldnt_be_one_8 = refl

-- two slots that could be one
pub could_be_one_two_slots_that_could_be_one_5 : could_be_one (record { heads = 4; sectors = 17 }) (record { disk = 2; count = 1; address = Chs 1023 3 11 }) (record { disk = 2; count = 5; address = Chs 1023 3 12 }) ≡ true
unfolding number16 number32 is_zero has_ranges has_address is_slot is_one_slot chs_of address_of slot_of some_slot slot_at slot_bytes to_chs to_lba sector_at sectors_of place_at slot_make could_be_one
could_be_one_two_slots_that_could_be_one_5 = refl

-- two slots that couldn't be one
pub could_be_one_two_slots_that_couldnt_be_one_9 : could_be_one (record { heads = 255; sectors = 63 }) (record { disk = 2; count = 127; address = Linear 82 }) (record { disk = 2; count = 2; address = Chs 0 3 21 }) ≡ false
unfolding number16 number32 is_zero has_ranges has_address is_slot is_one_slot chs_of address_of slot_of some_slot slot_at slot_bytes to_chs to_lba sector_at sectors_of place_at slot_make could_be_one
could_be_one_two_slots_that_couldnt_be_one_9 = refl

-- two slots that couldn't be one
pub could_be_one_two_slots_that_couldnt_be_one_10 : could_be_one (record { heads = 4; sectors = 17 }) (record { disk = 3; count = 127; address = Linear 37903 }) (record { disk = 3; count = 1; address = Linear 38029 }) ≡ false
unfolding number16 number32 is_zero has_ranges has_address is_slot is_one_slot chs_of address_of slot_of some_slot slot_at slot_bytes to_chs to_lba sector_at sectors_of place_at slot_make could_be_one
could_be_one_two_slots_that_couldnt_be_one_10 = refl

-- two slots that couldn't be one
pub could_be_one_two_slots_that_couldnt_be_one_11 : could_be_one (record { heads = 2; sectors = 9 }) (record { disk = 3; count = 1; address = Chs 1 1 6 }) (record { disk = 3; count = 127; address = Chs 1 1 7 }) ≡ false
unfolding number16 number32 is_zero has_ranges has_address is_slot is_one_slot chs_of address_of slot_of some_slot slot_at slot_bytes to_chs to_lba sector_at sectors_of place_at slot_make could_be_one
could_be_one_two_slots_that_couldnt_be_one_11 = refl

-- two slots that couldn't be one
pub could_be_one_two_slots_that_couldnt_be_one_12 : could_be_one (record { heads = 255; sectors = 63 }) (record { disk = 1; count = 1; address = Linear 0 }) (record { disk = 1; count = 127; address = Lba32 1 }) ≡ false
unfolding number16 number32 is_zero has_ranges has_address is_slot is_one_slot chs_of address_of slot_of some_slot slot_at slot_bytes to_chs to_lba sector_at sectors_of place_at slot_make could_be_one
could_be_one_two_slots_that_couldnt_be_one_12 = refl

-- two slots that couldn't be one
pub could_be_one_two_slots_that_couldnt_be_one_13 : could_be_one (record { heads = 2; sectors = 9 }) (record { disk = 0; count = 126; address = Lba32 0 }) (record { disk = 0; count = 127; address = Lba32 125 }) ≡ false
unfolding number16 number32 is_zero has_ranges has_address is_slot is_one_slot chs_of address_of slot_of some_slot slot_at slot_bytes to_chs to_lba sector_at sectors_of place_at slot_make could_be_one
could_be_one_two_slots_that_couldnt_be_one_13 = refl

-- two slots that could be one
pub could_be_one_two_slots_that_could_be_one_6 : could_be_one (record { heads = 16; sectors = 63 }) (record { disk = 1; count = 2; address = Linear 0 }) (record { disk = 1; count = 1; address = Linear 2 }) ≡ true
unfolding number16 number32 is_zero has_ranges has_address is_slot is_one_slot chs_of address_of slot_of some_slot slot_at slot_bytes to_chs to_lba sector_at sectors_of place_at slot_make could_be_one
could_be_one_two_slots_that_could_be_one_6 = refl

-- two slots that could be one
pub could_be_one_two_slots_that_could_be_one_7 : could_be_one (record { heads = 4; sectors = 17 }) (record { disk = 3; count = 2; address = Lba32 4095 }) (record { disk = 3; count = 1; address = Lba32 4097 }) ≡ true
unfolding number16 number32 is_zero has_ranges has_address is_slot is_one_slot chs_of address_of slot_of some_slot slot_at slot_bytes to_chs to_lba sector_at sectors_of place_at slot_make could_be_one
could_be_one_two_slots_that_could_be_one_7 = refl

-- two slots that could be one
pub could_be_one_two_slots_that_could_be_one_8 : could_be_one (record { heads = 2; sectors = 9 }) (record { disk = 2; count = 126; address = Linear 0 }) (record { disk = 2; count = 1; address = Linear 126 }) ≡ true
unfolding number16 number32 is_zero has_ranges has_address is_slot is_one_slot chs_of address_of slot_of some_slot slot_at slot_bytes to_chs to_lba sector_at sectors_of place_at slot_make could_be_one
could_be_one_two_slots_that_could_be_one_8 = refl

-- two slots that could be one
pub could_be_one_two_slots_that_could_be_one_9 : could_be_one (record { heads = 255; sectors = 63 }) (record { disk = 3; count = 60; address = Lba32 4095 }) (record { disk = 3; count = 1; address = Lba32 4155 }) ≡ true
unfolding number16 number32 is_zero has_ranges has_address is_slot is_one_slot chs_of address_of slot_of some_slot slot_at slot_bytes to_chs to_lba sector_at sectors_of place_at slot_make could_be_one
could_be_one_two_slots_that_could_be_one_9 = refl

-- two slots that couldn't be one
pub could_be_one_two_slots_that_couldnt_be_one_14 : could_be_one (record { heads = 255; sectors = 63 }) (record { disk = 3; count = 126; address = Lba32 0 }) (record { disk = 3; count = 1; address = Lba32 127 }) ≡ false
unfolding number16 number32 is_zero has_ranges has_address is_slot is_one_slot chs_of address_of slot_of some_slot slot_at slot_bytes to_chs to_lba sector_at sectors_of place_at slot_make could_be_one
could_be_one_two_slots_that_couldnt_be_one_14 = refl

-- two slots that couldn't be one
pub could_be_one_two_slots_that_couldnt_be_one_15 : could_be_one (record { heads = 16; sectors = 63 }) (record { disk = 3; count = 2; address = Linear 0 }) (record { disk = 0; count = 127; address = Linear 3 }) ≡ false
unfolding number16 number32 is_zero has_ranges has_address is_slot is_one_slot chs_of address_of slot_of some_slot slot_at slot_bytes to_chs to_lba sector_at sectors_of place_at slot_make could_be_one
could_be_one_two_slots_that_couldnt_be_one_15 = refl

-- two slots that couldn't be one
pub could_be_one_two_slots_that_couldnt_be_one_16 : could_be_one (record { heads = 4; sectors = 17 }) (record { disk = 2; count = 127; address = Lba32 82 }) (record { disk = 2; count = 127; address = Lba32 208 }) ≡ false
unfolding number16 number32 is_zero has_ranges has_address is_slot is_one_slot chs_of address_of slot_of some_slot slot_at slot_bytes to_chs to_lba sector_at sectors_of place_at slot_make could_be_one
could_be_one_two_slots_that_couldnt_be_one_16 = refl

-- two slots that couldn't be one
pub could_be_one_two_slots_that_couldnt_be_one_17 : could_be_one (record { heads = 255; sectors = 63 }) (record { disk = 3; count = 126; address = Lba32 4095 }) (record { disk = 3; count = 1; address = Lba32 4220 }) ≡ false
unfolding number16 number32 is_zero has_ranges has_address is_slot is_one_slot chs_of address_of slot_of some_slot slot_at slot_bytes to_chs to_lba sector_at sectors_of place_at slot_make could_be_one
could_be_one_two_slots_that_couldnt_be_one_17 = refl

-- two slots that could be one
pub could_be_one_two_slots_that_could_be_one_10 : could_be_one (record { heads = 2; sectors = 9 }) (record { disk = 1; count = 1; address = Chs 0 1 6 }) (record { disk = 1; count = 1; address = Chs 0 1 7 }) ≡ true
unfolding number16 number32 is_zero has_ranges has_address is_slot is_one_slot chs_of address_of slot_of some_slot slot_at slot_bytes to_chs to_lba sector_at sectors_of place_at slot_make could_be_one
could_be_one_two_slots_that_could_be_one_10 = refl

-- two slots that could be one
pub could_be_one_two_slots_that_could_be_one_11 : could_be_one (record { heads = 4; sectors = 17 }) (record { disk = 0; count = 1; address = Linear 82 }) (record { disk = 0; count = 67; address = Linear 83 }) ≡ true
unfolding number16 number32 is_zero has_ranges has_address is_slot is_one_slot chs_of address_of slot_of some_slot slot_at slot_bytes to_chs to_lba sector_at sectors_of place_at slot_make could_be_one
could_be_one_two_slots_that_could_be_one_11 = refl

-- two slots that couldn't be one
pub could_be_one_two_slots_that_couldnt_be_one_18 : could_be_one (record { heads = 2; sectors = 9 }) (record { disk = 2; count = 1; address = Chs 1023 0 7 }) (record { disk = 2; count = 5; address = Chs 1023 0 7 }) ≡ false
unfolding number16 number32 is_zero has_ranges has_address is_slot is_one_slot chs_of address_of slot_of some_slot slot_at slot_bytes to_chs to_lba sector_at sectors_of place_at slot_make could_be_one
could_be_one_two_slots_that_couldnt_be_one_18 = refl

-- two slots that could be one
pub could_be_one_two_slots_that_could_be_one_12 : could_be_one (record { heads = 2; sectors = 9 }) (record { disk = 0; count = 2; address = Linear 12626 }) (record { disk = 0; count = 67; address = Linear 12628 }) ≡ true
unfolding number16 number32 is_zero has_ranges has_address is_slot is_one_slot chs_of address_of slot_of some_slot slot_at slot_bytes to_chs to_lba sector_at sectors_of place_at slot_make could_be_one
could_be_one_two_slots_that_could_be_one_12 = refl

-- two slots that couldn't be one
pub could_be_one_two_slots_that_couldnt_be_one_19 : could_be_one (record { heads = 2; sectors = 9 }) (record { disk = 2; count = 2; address = Chs 1023 0 6 }) (record { disk = 2; count = 5; address = Lba32 18421 }) ≡ false
unfolding number16 number32 is_zero has_ranges has_address is_slot is_one_slot chs_of address_of slot_of some_slot slot_at slot_bytes to_chs to_lba sector_at sectors_of place_at slot_make could_be_one
could_be_one_two_slots_that_couldnt_be_one_19 = refl

-- two slots that couldn't be one
pub could_be_one_two_slots_that_couldnt_be_one_20 : could_be_one (record { heads = 255; sectors = 63 }) (record { disk = 2; count = 126; address = Lba32 0 }) (record { disk = 2; count = 2; address = Chs 0 2 2 }) ≡ false
unfolding number16 number32 is_zero has_ranges has_address is_slot is_one_slot chs_of address_of slot_of some_slot slot_at slot_bytes to_chs to_lba sector_at sectors_of place_at slot_make could_be_one
could_be_one_two_slots_that_couldnt_be_one_20 = refl

-- two slots that couldn't be one
pub could_be_one_two_slots_that_couldnt_be_one_21 : could_be_one (record { heads = 255; sectors = 63 }) (record { disk = 3; count = 1; address = Lba32 0 }) (record { disk = 3; count = 1; address = Chs 0 0 2 }) ≡ false
unfolding number16 number32 is_zero has_ranges has_address is_slot is_one_slot chs_of address_of slot_of some_slot slot_at slot_bytes to_chs to_lba sector_at sectors_of place_at slot_make could_be_one
could_be_one_two_slots_that_couldnt_be_one_21 = refl

-- two slots that could be one
pub could_be_one_two_slots_that_could_be_one_13 : could_be_one (record { heads = 4; sectors = 17 }) (record { disk = 0; count = 1; address = Lba32 82 }) (record { disk = 0; count = 67; address = Lba32 83 }) ≡ true
unfolding number16 number32 is_zero has_ranges has_address is_slot is_one_slot chs_of address_of slot_of some_slot slot_at slot_bytes to_chs to_lba sector_at sectors_of place_at slot_make could_be_one
could_be_one_two_slots_that_could_be_one_13 = refl

-- two slots that couldn't be one
pub could_be_one_two_slots_that_couldnt_be_one_22 : could_be_one (record { heads = 255; sectors = 63 }) (record { disk = 3; count = 126; address = Linear 16450558 }) (record { disk = 3; count = 5; address = Lba32 16450684 }) ≡ false
unfolding number16 number32 is_zero has_ranges has_address is_slot is_one_slot chs_of address_of slot_of some_slot slot_at slot_bytes to_chs to_lba sector_at sectors_of place_at slot_make could_be_one
could_be_one_two_slots_that_couldnt_be_one_22 = refl

-- two slots that could be one
pub could_be_one_two_slots_that_could_be_one_14 : could_be_one (record { heads = 4; sectors = 17 }) (record { disk = 3; count = 1; address = Lba32 941042169 }) (record { disk = 3; count = 67; address = Lba32 941042170 }) ≡ true
unfolding number16 number32 is_zero has_ranges has_address is_slot is_one_slot chs_of address_of slot_of some_slot slot_at slot_bytes to_chs to_lba sector_at sectors_of place_at slot_make could_be_one
could_be_one_two_slots_that_could_be_one_14 = refl

-- two slots that could be one
pub could_be_one_two_slots_that_could_be_one_15 : could_be_one (record { heads = 16; sectors = 63 }) (record { disk = 0; count = 60; address = Linear 5 }) (record { disk = 0; count = 1; address = Linear 65 }) ≡ true
unfolding number16 number32 is_zero has_ranges has_address is_slot is_one_slot chs_of address_of slot_of some_slot slot_at slot_bytes to_chs to_lba sector_at sectors_of place_at slot_make could_be_one
could_be_one_two_slots_that_could_be_one_15 = refl

-- two slots that couldn't be one
pub could_be_one_two_slots_that_couldnt_be_one_23 : could_be_one (record { heads = 4; sectors = 17 }) (record { disk = 3; count = 2; address = Chs 5 2 11 }) (record { disk = 3; count = 127; address = Chs 5 2 13 }) ≡ false
unfolding number16 number32 is_zero has_ranges has_address is_slot is_one_slot chs_of address_of slot_of some_slot slot_at slot_bytes to_chs to_lba sector_at sectors_of place_at slot_make could_be_one
could_be_one_two_slots_that_couldnt_be_one_23 = refl

-- two slots that couldn't be one
pub could_be_one_two_slots_that_couldnt_be_one_24 : could_be_one (record { heads = 255; sectors = 63 }) (record { disk = 1; count = 1; address = Lba32 0 }) (record { disk = 2; count = 1; address = Lba32 1 }) ≡ false
unfolding number16 number32 is_zero has_ranges has_address is_slot is_one_slot chs_of address_of slot_of some_slot slot_at slot_bytes to_chs to_lba sector_at sectors_of place_at slot_make could_be_one
could_be_one_two_slots_that_couldnt_be_one_24 = refl

-- two slots that couldn't be one
pub could_be_one_two_slots_that_couldnt_be_one_25 : could_be_one (record { heads = 16; sectors = 63 }) (record { disk = 0; count = 2; address = Linear 5 }) (record { disk = 0; count = 127; address = Chs 0 0 8 }) ≡ false
unfolding number16 number32 is_zero has_ranges has_address is_slot is_one_slot chs_of address_of slot_of some_slot slot_at slot_bytes to_chs to_lba sector_at sectors_of place_at slot_make could_be_one
could_be_one_two_slots_that_couldnt_be_one_25 = refl

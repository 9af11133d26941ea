-- Cases of the model, written by tools/model_cases.py: what eight bytes say.
use Rattle.std.proofs.Common.{◌≡◌, None, Some, Ok, Err, replicate, refl}
use Rattle.lilo_model.specs.Bytes.{number16, number32, is_zero}
use Rattle.lilo_model.specs.Slots.{has_ranges, has_address, is_slot, is_one_slot, chs_of, address_of, slot_of, some_slot, slot_at, slot_bytes, to_chs, to_lba, sector_at, sectors_of, place_at, slot_make, could_be_one, Chs, Linear, Lba32, BadSlot}
use Rattle.model_cases.specs.Sparse.{hex}

-- eight zero bytes are the end
pub slot_at_eight_zero_bytes_are_the_end : slot_at (replicate 8 0) ≡ Ok None
unfolding number16 number32 is_zero has_ranges has_address is_slot is_one_slot chs_of address_of slot_of some_slot slot_at slot_bytes to_chs to_lba sector_at sectors_of place_at slot_make could_be_one
slot_at_eight_zero_bytes_are_the_end = refl

-- sector 94 by its number
pub slot_at_sector_94_by_its_number : slot_at (hex 8 0x038001005e000000) ≡ Ok (Some (record { disk = 0; count = 1; address = Lba32 94 }))
unfolding number16 number32 is_zero has_ranges has_address is_slot is_one_slot chs_of address_of slot_of some_slot slot_at slot_bytes to_chs to_lba sector_at sectors_of place_at slot_make could_be_one
slot_at_sector_94_by_its_number = refl

-- the last sector by cylinder, head and sector
pub slot_at_the_last_sector_by_cylinder_head_and_sector : slot_at (hex 8 0x01800100ffff0f00) ≡ Ok (Some (record { disk = 0; count = 1; address = Chs 1023 15 63 }))
unfolding number16 number32 is_zero has_ranges has_address is_slot is_one_slot chs_of address_of slot_of some_slot slot_at slot_bytes to_chs to_lba sector_at sectors_of place_at slot_make could_be_one
slot_at_the_last_sector_by_cylinder_head_and_sector = refl

-- the last sector of cylinder 1023 by its number
pub slot_at_the_last_sector_of_cylinder_1023_by_its_number : slot_at (hex 8 0x02800100ffbf0f00) ≡ Ok (Some (record { disk = 0; count = 1; address = Linear 1032191 }))
unfolding number16 number32 is_zero has_ranges has_address is_slot is_one_slot chs_of address_of slot_of some_slot slot_at slot_bytes to_chs to_lba sector_at sectors_of place_at slot_make could_be_one
slot_at_the_last_sector_of_cylinder_1023_by_its_number = refl

-- sector 1,032,192
pub slot_at_sector_1_032_192 : slot_at (hex 8 0x0380010000c00f00) ≡ Ok (Some (record { disk = 0; count = 1; address = Lba32 1032192 }))
unfolding number16 number32 is_zero has_ranges has_address is_slot is_one_slot chs_of address_of slot_of some_slot slot_at slot_bytes to_chs to_lba sector_at sectors_of place_at slot_make could_be_one
slot_at_sector_1_032_192 = refl

-- three sectors
pub slot_at_three_sectors : slot_at (hex 8 0x0380030052000000) ≡ Ok (Some (record { disk = 0; count = 3; address = Lba32 82 }))
unfolding number16 number32 is_zero has_ranges has_address is_slot is_one_slot chs_of address_of slot_of some_slot slot_at slot_bytes to_chs to_lba sector_at sectors_of place_at slot_make could_be_one
slot_at_three_sectors = refl

-- a fourth mode
pub slot_at_a_fourth_mode : slot_at (hex 8 0x0480010052000000) ≡ Err BadSlot
unfolding number16 number32 is_zero has_ranges has_address is_slot is_one_slot chs_of address_of slot_of some_slot slot_at slot_bytes to_chs to_lba sector_at sectors_of place_at slot_make could_be_one
slot_at_a_fourth_mode = refl

-- mode 0 with something after it
pub slot_at_mode_0_with_something_after_it : slot_at (hex 8 0x0080010052000000) ≡ Err BadSlot
unfolding number16 number32 is_zero has_ranges has_address is_slot is_one_slot chs_of address_of slot_of some_slot slot_at slot_bytes to_chs to_lba sector_at sectors_of place_at slot_make could_be_one
slot_at_mode_0_with_something_after_it = refl

-- a fifth disk
pub slot_at_a_fifth_disk : slot_at (hex 8 0x0384010052000000) ≡ Err BadSlot
unfolding number16 number32 is_zero has_ranges has_address is_slot is_one_slot chs_of address_of slot_of some_slot slot_at slot_bytes to_chs to_lba sector_at sectors_of place_at slot_make could_be_one
slot_at_a_fifth_disk = refl

-- no BIOS disk
pub slot_at_no_bios_disk : slot_at (hex 8 0x037f010052000000) ≡ Err BadSlot
unfolding number16 number32 is_zero has_ranges has_address is_slot is_one_slot chs_of address_of slot_of some_slot slot_at slot_bytes to_chs to_lba sector_at sectors_of place_at slot_make could_be_one
slot_at_no_bios_disk = refl

-- count 0
pub slot_at_count_0 : slot_at (hex 8 0x0380000052000000) ≡ Err BadSlot
unfolding number16 number32 is_zero has_ranges has_address is_slot is_one_slot chs_of address_of slot_of some_slot slot_at slot_bytes to_chs to_lba sector_at sectors_of place_at slot_make could_be_one
slot_at_count_0 = refl

-- count 127
pub slot_at_count_127 : slot_at (hex 8 0x03837f0052000000) ≡ Ok (Some (record { disk = 3; count = 127; address = Lba32 82 }))
unfolding number16 number32 is_zero has_ranges has_address is_slot is_one_slot chs_of address_of slot_of some_slot slot_at slot_bytes to_chs to_lba sector_at sectors_of place_at slot_make could_be_one
slot_at_count_127 = refl

-- count 128
pub slot_at_count_128 : slot_at (hex 8 0x0380800052000000) ≡ Err BadSlot
unfolding number16 number32 is_zero has_ranges has_address is_slot is_one_slot chs_of address_of slot_of some_slot slot_at slot_bytes to_chs to_lba sector_at sectors_of place_at slot_make could_be_one
slot_at_count_128 = refl

-- a fourth byte
pub slot_at_a_fourth_byte : slot_at (hex 8 0x0380010152000000) ≡ Err BadSlot
unfolding number16 number32 is_zero has_ranges has_address is_slot is_one_slot chs_of address_of slot_of some_slot slot_at slot_bytes to_chs to_lba sector_at sectors_of place_at slot_make could_be_one
slot_at_a_fourth_byte = refl

-- no sector
pub slot_at_no_sector : slot_at (hex 8 0x0180010040000100) ≡ Err BadSlot
unfolding number16 number32 is_zero has_ranges has_address is_slot is_one_slot chs_of address_of slot_of some_slot slot_at slot_bytes to_chs to_lba sector_at sectors_of place_at slot_make could_be_one
slot_at_no_sector = refl

-- sector 0 of cylinder 256
pub slot_at_sector_0_of_cylinder_256 : slot_at (hex 8 0x0180010040050100) ≡ Err BadSlot
unfolding number16 number32 is_zero has_ranges has_address is_slot is_one_slot chs_of address_of slot_of some_slot slot_at slot_bytes to_chs to_lba sector_at sectors_of place_at slot_make could_be_one
slot_at_sector_0_of_cylinder_256 = refl

-- a last byte after the head
pub slot_at_a_last_byte_after_the_head : slot_at (hex 8 0x0180010001000101) ≡ Err BadSlot
unfolding number16 number32 is_zero has_ranges has_address is_slot is_one_slot chs_of address_of slot_of some_slot slot_at slot_bytes to_chs to_lba sector_at sectors_of place_at slot_make could_be_one
slot_at_a_last_byte_after_the_head = refl

-- a last byte of a number
pub slot_at_a_last_byte_of_a_number : slot_at (hex 8 0x0380010001000001) ≡ Ok (Some (record { disk = 0; count = 1; address = Lba32 16777217 }))
unfolding number16 number32 is_zero has_ranges has_address is_slot is_one_slot chs_of address_of slot_of some_slot slot_at slot_bytes to_chs to_lba sector_at sectors_of place_at slot_make could_be_one
slot_at_a_last_byte_of_a_number = refl

-- one byte at the end alone
pub slot_at_one_byte_at_the_end_alone : slot_at (hex 8 0x0000000000000001) ≡ Err BadSlot
unfolding number16 number32 is_zero has_ranges has_address is_slot is_one_slot chs_of address_of slot_of some_slot slot_at slot_bytes to_chs to_lba sector_at sectors_of place_at slot_make could_be_one
slot_at_one_byte_at_the_end_alone = refl

-- a slot, or what resembles one
pub slot_at_a_slot_or_what_resembles_one : slot_at (hex 8 0x018002001f011080) ≡ Err BadSlot
unfolding number16 number32 is_zero has_ranges has_address is_slot is_one_slot chs_of address_of slot_of some_slot slot_at slot_bytes to_chs to_lba sector_at sectors_of place_at slot_make could_be_one
slot_at_a_slot_or_what_resembles_one = refl

-- a slot, or what resembles one
pub slot_at_a_slot_or_what_resembles_one_2 : slot_at (hex 8 0x01837f00f3ff0200) ≡ Ok (Some (record { disk = 3; count = 127; address = Chs 1023 2 51 }))
unfolding number16 number32 is_zero has_ranges has_address is_slot is_one_slot chs_of address_of slot_of some_slot slot_at slot_bytes to_chs to_lba sector_at sectors_of place_at slot_make could_be_one
slot_at_a_slot_or_what_resembles_one_2 = refl

-- a slot, or what resembles one
pub slot_at_a_slot_or_what_resembles_one_3 : slot_at (hex 8 0x0182950018001100) ≡ Err BadSlot
unfolding number16 number32 is_zero has_ranges has_address is_slot is_one_slot chs_of address_of slot_of some_slot slot_at slot_bytes to_chs to_lba sector_at sectors_of place_at slot_make could_be_one
slot_at_a_slot_or_what_resembles_one_3 = refl

-- a slot, or what resembles one
pub slot_at_a_slot_or_what_resembles_one_4 : slot_at (hex 8 0x03817f00ffffffff) ≡ Ok (Some (record { disk = 1; count = 127; address = Lba32 4294967295 }))
unfolding number16 number32 is_zero has_ranges has_address is_slot is_one_slot chs_of address_of slot_of some_slot slot_at slot_bytes to_chs to_lba sector_at sectors_of place_at slot_make could_be_one
slot_at_a_slot_or_what_resembles_one_4 = refl

-- a slot, or what resembles one
pub slot_at_a_slot_or_what_resembles_one_5 : slot_at (hex 8 0x7f8102002a000200) ≡ Err BadSlot
unfolding number16 number32 is_zero has_ranges has_address is_slot is_one_slot chs_of address_of slot_of some_slot slot_at slot_bytes to_chs to_lba sector_at sectors_of place_at slot_make could_be_one
slot_at_a_slot_or_what_resembles_one_5 = refl

-- a slot, or what resembles one
pub slot_at_a_slot_or_what_resembles_one_6 : slot_at (hex 8 0x017f0180ffff0700) ≡ Err BadSlot
unfolding number16 number32 is_zero has_ranges has_address is_slot is_one_slot chs_of address_of slot_of some_slot slot_at slot_bytes to_chs to_lba sector_at sectors_of place_at slot_make could_be_one
slot_at_a_slot_or_what_resembles_one_6 = refl

-- a slot, or what resembles one
pub slot_at_a_slot_or_what_resembles_one_7 : slot_at (hex 8 0x02820100ffbf0f00) ≡ Ok (Some (record { disk = 2; count = 1; address = Linear 1032191 }))
unfolding number16 number32 is_zero has_ranges has_address is_slot is_one_slot chs_of address_of slot_of some_slot slot_at slot_bytes to_chs to_lba sector_at sectors_of place_at slot_make could_be_one
slot_at_a_slot_or_what_resembles_one_7 = refl

-- a slot, or what resembles one
pub slot_at_a_slot_or_what_resembles_one_8 : slot_at (hex 8 0x0080020000000000) ≡ Err BadSlot
unfolding number16 number32 is_zero has_ranges has_address is_slot is_one_slot chs_of address_of slot_of some_slot slot_at slot_bytes to_chs to_lba sector_at sectors_of place_at slot_make could_be_one
slot_at_a_slot_or_what_resembles_one_8 = refl

-- a slot, or what resembles one
pub slot_at_a_slot_or_what_resembles_one_9 : slot_at (hex 8 0x0383020000000000) ≡ Ok (Some (record { disk = 3; count = 2; address = Lba32 0 }))
unfolding number16 number32 is_zero has_ranges has_address is_slot is_one_slot chs_of address_of slot_of some_slot slot_at slot_bytes to_chs to_lba sector_at sectors_of place_at slot_make could_be_one
slot_at_a_slot_or_what_resembles_one_9 = refl

-- a slot, or what resembles one
pub slot_at_a_slot_or_what_resembles_one_10 : slot_at (hex 8 0x02817f0028938000) ≡ Ok (Some (record { disk = 1; count = 127; address = Linear 8426280 }))
unfolding number16 number32 is_zero has_ranges has_address is_slot is_one_slot chs_of address_of slot_of some_slot slot_at slot_bytes to_chs to_lba sector_at sectors_of place_at slot_make could_be_one
slot_at_a_slot_or_what_resembles_one_10 = refl

-- a slot, or what resembles one
pub slot_at_a_slot_or_what_resembles_one_11 : slot_at (hex 8 0x0380010081ff84ff) ≡ Ok (Some (record { disk = 0; count = 1; address = Lba32 4286906241 }))
unfolding number16 number32 is_zero has_ranges has_address is_slot is_one_slot chs_of address_of slot_of some_slot slot_at slot_bytes to_chs to_lba sector_at sectors_of place_at slot_make could_be_one
slot_at_a_slot_or_what_resembles_one_11 = refl

-- a slot, or what resembles one
pub slot_at_a_slot_or_what_resembles_one_12 : slot_at (hex 8 0x01830200ff7fffff) ≡ Err BadSlot
unfolding number16 number32 is_zero has_ranges has_address is_slot is_one_slot chs_of address_of slot_of some_slot slot_at slot_bytes to_chs to_lba sector_at sectors_of place_at slot_make could_be_one
slot_at_a_slot_or_what_resembles_one_12 = refl

-- a slot, or what resembles one
pub slot_at_a_slot_or_what_resembles_one_13 : slot_at (hex 8 0x03837f8481ffffff) ≡ Err BadSlot
unfolding number16 number32 is_zero has_ranges has_address is_slot is_one_slot chs_of address_of slot_of some_slot slot_at slot_bytes to_chs to_lba sector_at sectors_of place_at slot_make could_be_one
slot_at_a_slot_or_what_resembles_one_13 = refl

-- a slot, or what resembles one
pub slot_at_a_slot_or_what_resembles_one_14 : slot_at (hex 8 0x0281020001bf0f00) ≡ Ok (Some (record { disk = 1; count = 2; address = Linear 1031937 }))
unfolding number16 number32 is_zero has_ranges has_address is_slot is_one_slot chs_of address_of slot_of some_slot slot_at slot_bytes to_chs to_lba sector_at sectors_of place_at slot_make could_be_one
slot_at_a_slot_or_what_resembles_one_14 = refl

-- a slot, or what resembles one
pub slot_at_a_slot_or_what_resembles_one_15 : slot_at (hex 8 0x01820100039f0f00) ≡ Ok (Some (record { disk = 2; count = 1; address = Chs 159 15 3 }))
unfolding number16 number32 is_zero has_ranges has_address is_slot is_one_slot chs_of address_of slot_of some_slot slot_at slot_bytes to_chs to_lba sector_at sectors_of place_at slot_make could_be_one
slot_at_a_slot_or_what_resembles_one_15 = refl

-- a slot, or what resembles one
pub slot_at_a_slot_or_what_resembles_one_16 : slot_at (hex 8 0x03830102ff0f0000) ≡ Err BadSlot
unfolding number16 number32 is_zero has_ranges has_address is_slot is_one_slot chs_of address_of slot_of some_slot slot_at slot_bytes to_chs to_lba sector_at sectors_of place_at slot_make could_be_one
slot_at_a_slot_or_what_resembles_one_16 = refl

-- a slot, or what resembles one
pub slot_at_a_slot_or_what_resembles_one_17 : slot_at (hex 8 0x01827f00dfff0000) ≡ Ok (Some (record { disk = 2; count = 127; address = Chs 1023 0 31 }))
unfolding number16 number32 is_zero has_ranges has_address is_slot is_one_slot chs_of address_of slot_of some_slot slot_at slot_bytes to_chs to_lba sector_at sectors_of place_at slot_make could_be_one
slot_at_a_slot_or_what_resembles_one_17 = refl

-- a slot, or what resembles one
pub slot_at_a_slot_or_what_resembles_one_18 : slot_at (hex 8 0x03810200feff01ff) ≡ Ok (Some (record { disk = 1; count = 2; address = Lba32 4278321150 }))
unfolding number16 number32 is_zero has_ranges has_address is_slot is_one_slot chs_of address_of slot_of some_slot slot_at slot_bytes to_chs to_lba sector_at sectors_of place_at slot_make could_be_one
slot_at_a_slot_or_what_resembles_one_18 = refl

-- a slot, or what resembles one
pub slot_at_a_slot_or_what_resembles_one_19 : slot_at (hex 8 0x01820200ebb30400) ≡ Ok (Some (record { disk = 2; count = 2; address = Chs 947 4 43 }))
unfolding number16 number32 is_zero has_ranges has_address is_slot is_one_slot chs_of address_of slot_of some_slot slot_at slot_bytes to_chs to_lba sector_at sectors_of place_at slot_make could_be_one
slot_at_a_slot_or_what_resembles_one_19 = refl

-- a slot, or what resembles one
pub slot_at_a_slot_or_what_resembles_one_20 : slot_at (hex 8 0x0282010000040000) ≡ Ok (Some (record { disk = 2; count = 1; address = Linear 1024 }))
unfolding number16 number32 is_zero has_ranges has_address is_slot is_one_slot chs_of address_of slot_of some_slot slot_at slot_bytes to_chs to_lba sector_at sectors_of place_at slot_make could_be_one
slot_at_a_slot_or_what_resembles_one_20 = refl

-- a slot, or what resembles one
pub slot_at_a_slot_or_what_resembles_one_21 : slot_at (hex 8 0x03800200feffff00) ≡ Ok (Some (record { disk = 0; count = 2; address = Lba32 16777214 }))
unfolding number16 number32 is_zero has_ranges has_address is_slot is_one_slot chs_of address_of slot_of some_slot slot_at slot_bytes to_chs to_lba sector_at sectors_of place_at slot_make could_be_one
slot_at_a_slot_or_what_resembles_one_21 = refl

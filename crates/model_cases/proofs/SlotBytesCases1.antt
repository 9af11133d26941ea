-- Cases of the model, written by tools/model_cases.py: the bytes of a slot.
use Rattle.std.proofs.Common.{◌≡◌, refl}
use Rattle.lilo_model.specs.Bytes.{number16, number32, is_zero}
use Rattle.lilo_model.specs.Slots.{has_ranges, has_address, is_slot, is_one_slot, chs_of, address_of, slot_of, some_slot, slot_at, slot_bytes, to_chs, to_lba, sector_at, sectors_of, place_at, slot_make, could_be_one, Chs, Linear, Lba32}
use Rattle.model_cases.specs.Sparse.{hex}

-- the bytes of a slot by a number
pub slot_bytes_the_bytes_of_a_slot_by_a_number : slot_bytes (record { disk = 2; count = 2; address = Lba32 82 }) ≡ hex 8 0x0382020052000000
unfolding number16 number32 is_zero has_ranges has_address is_slot is_one_slot chs_of address_of slot_of some_slot slot_at slot_bytes to_chs to_lba sector_at sectors_of place_at slot_make could_be_one
slot_bytes_the_bytes_of_a_slot_by_a_number = refl

-- the bytes of a slot by cylinder, head and sector
pub slot_bytes_the_bytes_of_a_slot_by_cylinder_head_and_sector : slot_bytes (record { disk = 2; count = 1; address = Chs 1 4 26 }) ≡ hex 8 0x018201001a010400
unfolding number16 number32 is_zero has_ranges has_address is_slot is_one_slot chs_of address_of slot_of some_slot slot_at slot_bytes to_chs to_lba sector_at sectors_of place_at slot_make could_be_one
slot_bytes_the_bytes_of_a_slot_by_cylinder_head_and_sector = refl

-- the bytes of a slot by a number read by cylinders
pub slot_bytes_the_bytes_of_a_slot_by_a_number_read_by_cylinders : slot_bytes (record { disk = 3; count = 127; address = Linear 0 }) ≡ hex 8 0x02837f0000000000
unfolding number16 number32 is_zero has_ranges has_address is_slot is_one_slot chs_of address_of slot_of some_slot slot_at slot_bytes to_chs to_lba sector_at sectors_of place_at slot_make could_be_one
slot_bytes_the_bytes_of_a_slot_by_a_number_read_by_cylinders = refl

-- the bytes of a slot by a number read by cylinders
pub slot_bytes_the_bytes_of_a_slot_by_a_number_read_by_cylinders_2 : slot_bytes (record { disk = 3; count = 2; address = Linear 0 }) ≡ hex 8 0x0283020000000000
unfolding number16 number32 is_zero has_ranges has_address is_slot is_one_slot chs_of address_of slot_of some_slot slot_at slot_bytes to_chs to_lba sector_at sectors_of place_at slot_make could_be_one
slot_bytes_the_bytes_of_a_slot_by_a_number_read_by_cylinders_2 = refl

-- the bytes of a slot by a number
pub slot_bytes_the_bytes_of_a_slot_by_a_number_2 : slot_bytes (record { disk = 1; count = 2; address = Lba32 0 }) ≡ hex 8 0x0381020000000000
unfolding number16 number32 is_zero has_ranges has_address is_slot is_one_slot chs_of address_of slot_of some_slot slot_at slot_bytes to_chs to_lba sector_at sectors_of place_at slot_make could_be_one
slot_bytes_the_bytes_of_a_slot_by_a_number_2 = refl

-- the bytes of a slot by cylinder, head and sector
pub slot_bytes_the_bytes_of_a_slot_by_cylinder_head_and_sector_2 : slot_bytes (record { disk = 0; count = 1; address = Chs 1023 2 26 }) ≡ hex 8 0x01800100daff0200
unfolding number16 number32 is_zero has_ranges has_address is_slot is_one_slot chs_of address_of slot_of some_slot slot_at slot_bytes to_chs to_lba sector_at sectors_of place_at slot_make could_be_one
slot_bytes_the_bytes_of_a_slot_by_cylinder_head_and_sector_2 = refl

-- the bytes of a slot by a number read by cylinders
pub slot_bytes_the_bytes_of_a_slot_by_a_number_read_by_cylinders_3 : slot_bytes (record { disk = 3; count = 2; address = Linear 1032190 }) ≡ hex 8 0x02830200febf0f00
unfolding number16 number32 is_zero has_ranges has_address is_slot is_one_slot chs_of address_of slot_of some_slot slot_at slot_bytes to_chs to_lba sector_at sectors_of place_at slot_make could_be_one
slot_bytes_the_bytes_of_a_slot_by_a_number_read_by_cylinders_3 = refl

-- the bytes of a slot by a number read by cylinders
pub slot_bytes_the_bytes_of_a_slot_by_a_number_read_by_cylinders_4 : slot_bytes (record { disk = 3; count = 127; address = Linear 781602 }) ≡ hex 8 0x02837f0022ed0b00
unfolding number16 number32 is_zero has_ranges has_address is_slot is_one_slot chs_of address_of slot_of some_slot slot_at slot_bytes to_chs to_lba sector_at sectors_of place_at slot_make could_be_one
slot_bytes_the_bytes_of_a_slot_by_a_number_read_by_cylinders_4 = refl

-- the bytes of a slot by a number
pub slot_bytes_the_bytes_of_a_slot_by_a_number_3 : slot_bytes (record { disk = 1; count = 1; address = Lba32 4294967295 }) ≡ hex 8 0x03810100ffffffff
unfolding number16 number32 is_zero has_ranges has_address is_slot is_one_slot chs_of address_of slot_of some_slot slot_at slot_bytes to_chs to_lba sector_at sectors_of place_at slot_make could_be_one
slot_bytes_the_bytes_of_a_slot_by_a_number_3 = refl

-- the bytes of a slot by a number
pub slot_bytes_the_bytes_of_a_slot_by_a_number_4 : slot_bytes (record { disk = 3; count = 1; address = Lba32 82 }) ≡ hex 8 0x0383010052000000
unfolding number16 number32 is_zero has_ranges has_address is_slot is_one_slot chs_of address_of slot_of some_slot slot_at slot_bytes to_chs to_lba sector_at sectors_of place_at slot_make could_be_one
slot_bytes_the_bytes_of_a_slot_by_a_number_4 = refl

-- the bytes of a slot by a number
pub slot_bytes_the_bytes_of_a_slot_by_a_number_5 : slot_bytes (record { disk = 3; count = 1; address = Lba32 82 }) ≡ hex 8 0x0383010052000000
unfolding number16 number32 is_zero has_ranges has_address is_slot is_one_slot chs_of address_of slot_of some_slot slot_at slot_bytes to_chs to_lba sector_at sectors_of place_at slot_make could_be_one
slot_bytes_the_bytes_of_a_slot_by_a_number_5 = refl

-- the bytes of a slot by cylinder, head and sector
pub slot_bytes_the_bytes_of_a_slot_by_cylinder_head_and_sector_3 : slot_bytes (record { disk = 0; count = 127; address = Chs 5 10 43 }) ≡ hex 8 0x01807f002b050a00
unfolding number16 number32 is_zero has_ranges has_address is_slot is_one_slot chs_of address_of slot_of some_slot slot_at slot_bytes to_chs to_lba sector_at sectors_of place_at slot_make could_be_one
slot_bytes_the_bytes_of_a_slot_by_cylinder_head_and_sector_3 = refl

-- the bytes of a slot by a number
pub slot_bytes_the_bytes_of_a_slot_by_a_number_6 : slot_bytes (record { disk = 0; count = 1; address = Lba32 0 }) ≡ hex 8 0x0380010000000000
unfolding number16 number32 is_zero has_ranges has_address is_slot is_one_slot chs_of address_of slot_of some_slot slot_at slot_bytes to_chs to_lba sector_at sectors_of place_at slot_make could_be_one
slot_bytes_the_bytes_of_a_slot_by_a_number_6 = refl

-- the bytes of a slot by cylinder, head and sector
pub slot_bytes_the_bytes_of_a_slot_by_cylinder_head_and_sector_4 : slot_bytes (record { disk = 3; count = 2; address = Chs 1 0 4 }) ≡ hex 8 0x0183020004010000
unfolding number16 number32 is_zero has_ranges has_address is_slot is_one_slot chs_of address_of slot_of some_slot slot_at slot_bytes to_chs to_lba sector_at sectors_of place_at slot_make could_be_one
slot_bytes_the_bytes_of_a_slot_by_cylinder_head_and_sector_4 = refl

-- the bytes of a slot by a number
pub slot_bytes_the_bytes_of_a_slot_by_a_number_7 : slot_bytes (record { disk = 1; count = 2; address = Lba32 4294967295 }) ≡ hex 8 0x03810200ffffffff
unfolding number16 number32 is_zero has_ranges has_address is_slot is_one_slot chs_of address_of slot_of some_slot slot_at slot_bytes to_chs to_lba sector_at sectors_of place_at slot_make could_be_one
slot_bytes_the_bytes_of_a_slot_by_a_number_7 = refl

-- the bytes of a slot by a number
pub slot_bytes_the_bytes_of_a_slot_by_a_number_8 : slot_bytes (record { disk = 1; count = 127; address = Lba32 3273448220 }) ≡ hex 8 0x03817f001cdb1cc3
unfolding number16 number32 is_zero has_ranges has_address is_slot is_one_slot chs_of address_of slot_of some_slot slot_at slot_bytes to_chs to_lba sector_at sectors_of place_at slot_make could_be_one
slot_bytes_the_bytes_of_a_slot_by_a_number_8 = refl

-- the bytes of a slot by cylinder, head and sector
pub slot_bytes_the_bytes_of_a_slot_by_cylinder_head_and_sector_5 : slot_bytes (record { disk = 3; count = 127; address = Chs 864 12 1 }) ≡ hex 8 0x01837f00c1600c00
unfolding number16 number32 is_zero has_ranges has_address is_slot is_one_slot chs_of address_of slot_of some_slot slot_at slot_bytes to_chs to_lba sector_at sectors_of place_at slot_make could_be_one
slot_bytes_the_bytes_of_a_slot_by_cylinder_head_and_sector_5 = refl

-- the bytes of a slot by a number
pub slot_bytes_the_bytes_of_a_slot_by_a_number_9 : slot_bytes (record { disk = 1; count = 2; address = Lba32 214020087 }) ≡ hex 8 0x03810200f7afc10c
unfolding number16 number32 is_zero has_ranges has_address is_slot is_one_slot chs_of address_of slot_of some_slot slot_at slot_bytes to_chs to_lba sector_at sectors_of place_at slot_make could_be_one
slot_bytes_the_bytes_of_a_slot_by_a_number_9 = refl

-- the bytes of a slot by cylinder, head and sector
pub slot_bytes_the_bytes_of_a_slot_by_cylinder_head_and_sector_6 : slot_bytes (record { disk = 0; count = 1; address = Chs 0 2 18 }) ≡ hex 8 0x0180010012000200
unfolding number16 number32 is_zero has_ranges has_address is_slot is_one_slot chs_of address_of slot_of some_slot slot_at slot_bytes to_chs to_lba sector_at sectors_of place_at slot_make could_be_one
slot_bytes_the_bytes_of_a_slot_by_cylinder_head_and_sector_6 = refl

-- the bytes of a slot by a number read by cylinders
pub slot_bytes_the_bytes_of_a_slot_by_a_number_read_by_cylinders_5 : slot_bytes (record { disk = 1; count = 1; address = Linear 1032191 }) ≡ hex 8 0x02810100ffbf0f00
unfolding number16 number32 is_zero has_ranges has_address is_slot is_one_slot chs_of address_of slot_of some_slot slot_at slot_bytes to_chs to_lba sector_at sectors_of place_at slot_make could_be_one
slot_bytes_the_bytes_of_a_slot_by_a_number_read_by_cylinders_5 = refl

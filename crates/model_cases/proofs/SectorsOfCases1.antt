-- Cases of the model, written by tools/model_cases.py: the sectors of a slot.
use Rattle.std.proofs.Common.{◌≡◌, ◌∷◌, [], Ok, Err, refl}
use Rattle.lilo_model.specs.Bytes.{number16, number32, is_zero}
use Rattle.lilo_model.specs.Slots.{has_ranges, has_address, is_slot, is_one_slot, chs_of, address_of, slot_of, some_slot, slot_at, slot_bytes, to_chs, to_lba, sector_at, sectors_of, place_at, slot_make, could_be_one, Chs, Linear, Lba32, NotFound}

-- the first sector of a kernel, by cylinder, head and sector
pub sectors_of_the_first_sector_of_a_kernel_by_cylinder_head_and_sector : sectors_of (record { heads = 16; sectors = 63 }) (record { disk = 0; count = 1; address = Chs 0 1 20 }) ≡ Ok 82 ∷ []
unfolding number16 number32 is_zero has_ranges has_address is_slot is_one_slot chs_of address_of slot_of some_slot slot_at slot_bytes to_chs to_lba sector_at sectors_of place_at slot_make could_be_one
sectors_of_the_first_sector_of_a_kernel_by_cylinder_head_and_sector = refl

-- the last sector that a BIOS reaches
pub sectors_of_the_last_sector_that_a_bios_reaches : sectors_of (record { heads = 16; sectors = 63 }) (record { disk = 0; count = 1; address = Chs 1023 15 63 }) ≡ Ok 1032191 ∷ []
unfolding number16 number32 is_zero has_ranges has_address is_slot is_one_slot chs_of address_of slot_of some_slot slot_at slot_bytes to_chs to_lba sector_at sectors_of place_at slot_make could_be_one
sectors_of_the_last_sector_that_a_bios_reaches = refl

-- the last sector of cylinder 1023, by its number
pub sectors_of_the_last_sector_of_cylinder_1023_by_its_number : sectors_of (record { heads = 16; sectors = 63 }) (record { disk = 0; count = 1; address = Linear 1032191 }) ≡ Ok 1032191 ∷ []
unfolding number16 number32 is_zero has_ranges has_address is_slot is_one_slot chs_of address_of slot_of some_slot slot_at slot_bytes to_chs to_lba sector_at sectors_of place_at slot_make could_be_one
sectors_of_the_last_sector_of_cylinder_1023_by_its_number = refl

-- a linear slot whose second sector is past cylinder 1023
pub sectors_of_a_linear_slot_whose_second_sector_is_past_cylinder_1023 : sectors_of (record { heads = 16; sectors = 63 }) (record { disk = 0; count = 2; address = Linear 1032191 }) ≡ Ok 1032191 ∷ Err NotFound ∷ []
unfolding number16 number32 is_zero has_ranges has_address is_slot is_one_slot chs_of address_of slot_of some_slot slot_at slot_bytes to_chs to_lba sector_at sectors_of place_at slot_make could_be_one
sectors_of_a_linear_slot_whose_second_sector_is_past_cylinder_1023 = refl

-- a number alone goes past cylinder 1023
pub sectors_of_a_number_alone_goes_past_cylinder_1023 : sectors_of (record { heads = 16; sectors = 63 }) (record { disk = 0; count = 3; address = Lba32 1032191 }) ≡ Ok 1032191 ∷ Ok 1032192 ∷ Ok 1032193 ∷ []
unfolding number16 number32 is_zero has_ranges has_address is_slot is_one_slot chs_of address_of slot_of some_slot slot_at slot_bytes to_chs to_lba sector_at sectors_of place_at slot_make could_be_one
sectors_of_a_number_alone_goes_past_cylinder_1023 = refl

-- a slot by cylinder, head and sector ends with its track
pub sectors_of_a_slot_by_cylinder_head_and_sector_ends_with_its_track : sectors_of (record { heads = 16; sectors = 63 }) (record { disk = 0; count = 3; address = Chs 0 0 62 }) ≡ Ok 61 ∷ Ok 62 ∷ Err NotFound ∷ []
unfolding number16 number32 is_zero has_ranges has_address is_slot is_one_slot chs_of address_of slot_of some_slot slot_at slot_bytes to_chs to_lba sector_at sectors_of place_at slot_make could_be_one
sectors_of_a_slot_by_cylinder_head_and_sector_ends_with_its_track = refl

-- a linear slot crosses tracks
pub sectors_of_a_linear_slot_crosses_tracks : sectors_of (record { heads = 16; sectors = 63 }) (record { disk = 0; count = 3; address = Linear 62 }) ≡ Ok 62 ∷ Ok 63 ∷ Ok 64 ∷ []
unfolding number16 number32 is_zero has_ranges has_address is_slot is_one_slot chs_of address_of slot_of some_slot slot_at slot_bytes to_chs to_lba sector_at sectors_of place_at slot_make could_be_one
sectors_of_a_linear_slot_crosses_tracks = refl

-- a head that the disk lacks
pub sectors_of_a_head_that_the_disk_lacks : sectors_of (record { heads = 16; sectors = 63 }) (record { disk = 0; count = 1; address = Chs 0 16 1 }) ≡ Err NotFound ∷ []
unfolding number16 number32 is_zero has_ranges has_address is_slot is_one_slot chs_of address_of slot_of some_slot slot_at slot_bytes to_chs to_lba sector_at sectors_of place_at slot_make could_be_one
sectors_of_a_head_that_the_disk_lacks = refl

-- a sector that the track lacks
pub sectors_of_a_sector_that_the_track_lacks : sectors_of (record { heads = 16; sectors = 32 }) (record { disk = 0; count = 1; address = Chs 0 0 33 }) ≡ Err NotFound ∷ []
unfolding number16 number32 is_zero has_ranges has_address is_slot is_one_slot chs_of address_of slot_of some_slot slot_at slot_bytes to_chs to_lba sector_at sectors_of place_at slot_make could_be_one
sectors_of_a_sector_that_the_track_lacks = refl

-- a whole track
pub sectors_of_a_whole_track : sectors_of (record { heads = 255; sectors = 63 }) (record { disk = 3; count = 63; address = Chs 2 3 1 }) ≡ Ok 32319 ∷ Ok 32320 ∷ Ok 32321 ∷ Ok 32322 ∷ Ok 32323 ∷ Ok 32324 ∷ Ok 32325 ∷ Ok 32326 ∷ Ok 32327 ∷ Ok 32328 ∷ Ok 32329 ∷ Ok 32330 ∷ Ok 32331 ∷ Ok 32332 ∷ Ok 32333 ∷ Ok 32334 ∷ Ok 32335 ∷ Ok 32336 ∷ Ok 32337 ∷ Ok 32338 ∷ Ok 32339 ∷ Ok 32340 ∷ Ok 32341 ∷ Ok 32342 ∷ Ok 32343 ∷ Ok 32344 ∷ Ok 32345 ∷ Ok 32346 ∷ Ok 32347 ∷ Ok 32348 ∷ Ok 32349 ∷ Ok 32350 ∷ Ok 32351 ∷ Ok 32352 ∷ Ok 32353 ∷ Ok 32354 ∷ Ok 32355 ∷ Ok 32356 ∷ Ok 32357 ∷ Ok 32358 ∷ Ok 32359 ∷ Ok 32360 ∷ Ok 32361 ∷ Ok 32362 ∷ Ok 32363 ∷ Ok 32364 ∷ Ok 32365 ∷ Ok 32366 ∷ Ok 32367 ∷ Ok 32368 ∷ Ok 32369 ∷ Ok 32370 ∷ Ok 32371 ∷ Ok 32372 ∷ Ok 32373 ∷ Ok 32374 ∷ Ok 32375 ∷ Ok 32376 ∷ Ok 32377 ∷ Ok 32378 ∷ Ok 32379 ∷ Ok 32380 ∷ Ok 32381 ∷ []
unfolding number16 number32 is_zero has_ranges has_address is_slot is_one_slot chs_of address_of slot_of some_slot slot_at slot_bytes to_chs to_lba sector_at sectors_of place_at slot_make could_be_one
sectors_of_a_whole_track = refl

-- 127 sectors
pub sectors_of_127_sectors : sectors_of (record { heads = 4; sectors = 17 }) (record { disk = 1; count = 127; address = Lba32 4000000000 }) ≡ Ok 4000000000 ∷ Ok 4000000001 ∷ Ok 4000000002 ∷ Ok 4000000003 ∷ Ok 4000000004 ∷ Ok 4000000005 ∷ Ok 4000000006 ∷ Ok 4000000007 ∷ Ok 4000000008 ∷ Ok 4000000009 ∷ Ok 4000000010 ∷ Ok 4000000011 ∷ Ok 4000000012 ∷ Ok 4000000013 ∷ Ok 4000000014 ∷ Ok 4000000015 ∷ Ok 4000000016 ∷ Ok 4000000017 ∷ Ok 4000000018 ∷ Ok 4000000019 ∷ Ok 4000000020 ∷ Ok 4000000021 ∷ Ok 4000000022 ∷ Ok 4000000023 ∷ Ok 4000000024 ∷ Ok 4000000025 ∷ Ok 4000000026 ∷ Ok 4000000027 ∷ Ok 4000000028 ∷ Ok 4000000029 ∷ Ok 4000000030 ∷ Ok 4000000031 ∷ Ok 4000000032 ∷ Ok 4000000033 ∷ Ok 4000000034 ∷ Ok 4000000035 ∷ Ok 4000000036 ∷ Ok 4000000037 ∷ Ok 4000000038 ∷ Ok 4000000039 ∷ Ok 4000000040 ∷ Ok 4000000041 ∷ Ok 4000000042 ∷ Ok 4000000043 ∷ Ok 4000000044 ∷ Ok 4000000045 ∷ Ok 4000000046 ∷ Ok 4000000047 ∷ Ok 4000000048 ∷ Ok 4000000049 ∷ Ok 4000000050 ∷ Ok 4000000051 ∷ Ok 4000000052 ∷ Ok 4000000053 ∷ Ok 4000000054 ∷ Ok 4000000055 ∷ Ok 4000000056 ∷ Ok 4000000057 ∷ Ok 4000000058 ∷ Ok 4000000059 ∷ Ok 4000000060 ∷ Ok 4000000061 ∷ Ok 4000000062 ∷ Ok 4000000063 ∷ Ok 4000000064 ∷ Ok 4000000065 ∷ Ok 4000000066 ∷ Ok 4000000067 ∷ Ok 4000000068 ∷ Ok 4000000069 ∷ Ok 4000000070 ∷ Ok 4000000071 ∷ Ok 4000000072 ∷ Ok 4000000073 ∷ Ok 4000000074 ∷ Ok 4000000075 ∷ Ok 4000000076 ∷ Ok 4000000077 ∷ Ok 4000000078 ∷ Ok 4000000079 ∷ Ok 4000000080 ∷ Ok 4000000081 ∷ Ok 4000000082 ∷ Ok 4000000083 ∷ Ok 4000000084 ∷ Ok 4000000085 ∷ Ok 4000000086 ∷ Ok 4000000087 ∷ Ok 4000000088 ∷ Ok 4000000089 ∷ Ok 4000000090 ∷ Ok 4000000091 ∷ Ok 4000000092 ∷ Ok 4000000093 ∷ Ok 4000000094 ∷ Ok 4000000095 ∷ Ok 4000000096 ∷ Ok 4000000097 ∷ Ok 4000000098 ∷ Ok 4000000099 ∷ Ok 4000000100 ∷ Ok 4000000101 ∷ Ok 4000000102 ∷ Ok 4000000103 ∷ Ok 4000000104 ∷ Ok 4000000105 ∷ Ok 4000000106 ∷ Ok 4000000107 ∷ Ok 4000000108 ∷ Ok 4000000109 ∷ Ok 4000000110 ∷ Ok 4000000111 ∷ Ok 4000000112 ∷ Ok 4000000113 ∷ Ok 4000000114 ∷ Ok 4000000115 ∷ Ok 4000000116 ∷ Ok 4000000117 ∷ Ok 4000000118 ∷ Ok 4000000119 ∷ Ok 4000000120 ∷ Ok 4000000121 ∷ Ok 4000000122 ∷ Ok 4000000123 ∷ Ok 4000000124 ∷ Ok 4000000125 ∷ Ok 4000000126 ∷ []
unfolding number16 number32 is_zero has_ranges has_address is_slot is_one_slot chs_of address_of slot_of some_slot slot_at slot_bytes to_chs to_lba sector_at sectors_of place_at slot_make could_be_one
sectors_of_127_sectors = refl

-- one sector by a number
pub sectors_of_one_sector_by_a_number : sectors_of (record { heads = 64; sectors = 32 }) (record { disk = 1; count = 1; address = Lba32 0 }) ≡ Ok 0 ∷ []
unfolding number16 number32 is_zero has_ranges has_address is_slot is_one_slot chs_of address_of slot_of some_slot slot_at slot_bytes to_chs to_lba sector_at sectors_of place_at slot_make could_be_one
sectors_of_one_sector_by_a_number = refl

-- one sector by a number read by cylinders
pub sectors_of_one_sector_by_a_number_read_by_cylinders : sectors_of (record { heads = 2; sectors = 9 }) (record { disk = 0; count = 1; address = Linear 18430 }) ≡ Ok 18430 ∷ []
unfolding number16 number32 is_zero has_ranges has_address is_slot is_one_slot chs_of address_of slot_of some_slot slot_at slot_bytes to_chs to_lba sector_at sectors_of place_at slot_make could_be_one
sectors_of_one_sector_by_a_number_read_by_cylinders = refl

-- 2 sectors by a number
pub sectors_of_2_sectors_by_a_number : sectors_of (record { heads = 2; sectors = 9 }) (record { disk = 3; count = 2; address = Lba32 4095 }) ≡ Ok 4095 ∷ Ok 4096 ∷ []
unfolding number16 number32 is_zero has_ranges has_address is_slot is_one_slot chs_of address_of slot_of some_slot slot_at slot_bytes to_chs to_lba sector_at sectors_of place_at slot_make could_be_one
sectors_of_2_sectors_by_a_number = refl

-- one sector by a number
pub sectors_of_one_sector_by_a_number_2 : sectors_of (record { heads = 64; sectors = 32 }) (record { disk = 2; count = 1; address = Lba32 1835547896 }) ≡ Ok 1835547896 ∷ []
unfolding number16 number32 is_zero has_ranges has_address is_slot is_one_slot chs_of address_of slot_of some_slot slot_at slot_bytes to_chs to_lba sector_at sectors_of place_at slot_make could_be_one
sectors_of_one_sector_by_a_number_2 = refl

-- one sector by a number read by cylinders
pub sectors_of_one_sector_by_a_number_read_by_cylinders_2 : sectors_of (record { heads = 1; sectors = 1 }) (record { disk = 3; count = 1; address = Linear 1023 }) ≡ Ok 1023 ∷ []
unfolding number16 number32 is_zero has_ranges has_address is_slot is_one_slot chs_of address_of slot_of some_slot slot_at slot_bytes to_chs to_lba sector_at sectors_of place_at slot_make could_be_one
sectors_of_one_sector_by_a_number_read_by_cylinders_2 = refl

-- one sector by cylinder, head and sector
pub sectors_of_one_sector_by_cylinder_head_and_sector : sectors_of (record { heads = 16; sectors = 63 }) (record { disk = 0; count = 1; address = Chs 5 9 63 }) ≡ Ok 5669 ∷ []
unfolding number16 number32 is_zero has_ranges has_address is_slot is_one_slot chs_of address_of slot_of some_slot slot_at slot_bytes to_chs to_lba sector_at sectors_of place_at slot_make could_be_one
sectors_of_one_sector_by_cylinder_head_and_sector = refl

-- one sector by a number read by cylinders
pub sectors_of_one_sector_by_a_number_read_by_cylinders_3 : sectors_of (record { heads = 16; sectors = 63 }) (record { disk = 1; count = 1; address = Linear 1032191 }) ≡ Ok 1032191 ∷ []
unfolding number16 number32 is_zero has_ranges has_address is_slot is_one_slot chs_of address_of slot_of some_slot slot_at slot_bytes to_chs to_lba sector_at sectors_of place_at slot_make could_be_one
sectors_of_one_sector_by_a_number_read_by_cylinders_3 = refl

-- one sector by cylinder, head and sector
pub sectors_of_one_sector_by_cylinder_head_and_sector_2 : sectors_of (record { heads = 16; sectors = 63 }) (record { disk = 2; count = 1; address = Chs 5 14 59 }) ≡ Ok 5980 ∷ []
unfolding number16 number32 is_zero has_ranges has_address is_slot is_one_slot chs_of address_of slot_of some_slot slot_at slot_bytes to_chs to_lba sector_at sectors_of place_at slot_make could_be_one
sectors_of_one_sector_by_cylinder_head_and_sector_2 = refl

-- 2 sectors by cylinder, head and sector, none of them found
pub sectors_of_2_sectors_by_cylinder_head_and_sector_none_of_them_found : sectors_of (record { heads = 2; sectors = 9 }) (record { disk = 1; count = 2; address = Chs 1 1 10 }) ≡ Err NotFound ∷ Err NotFound ∷ []
unfolding number16 number32 is_zero has_ranges has_address is_slot is_one_slot chs_of address_of slot_of some_slot slot_at slot_bytes to_chs to_lba sector_at sectors_of place_at slot_make could_be_one
sectors_of_2_sectors_by_cylinder_head_and_sector_none_of_them_found = refl

-- one sector by cylinder, head and sector
pub sectors_of_one_sector_by_cylinder_head_and_sector_3 : sectors_of (record { heads = 2; sectors = 9 }) (record { disk = 1; count = 1; address = Chs 5 0 6 }) ≡ Ok 95 ∷ []
unfolding number16 number32 is_zero has_ranges has_address is_slot is_one_slot chs_of address_of slot_of some_slot slot_at slot_bytes to_chs to_lba sector_at sectors_of place_at slot_make could_be_one
sectors_of_one_sector_by_cylinder_head_and_sector_3 = refl

-- 5 sectors by a number
pub sectors_of_5_sectors_by_a_number : sectors_of (record { heads = 2; sectors = 9 }) (record { disk = 0; count = 5; address = Lba32 4294967295 }) ≡ Ok 4294967295 ∷ Ok 4294967296 ∷ Ok 4294967297 ∷ Ok 4294967298 ∷ Ok 4294967299 ∷ []
unfolding number16 number32 is_zero has_ranges has_address is_slot is_one_slot chs_of address_of slot_of some_slot slot_at slot_bytes to_chs to_lba sector_at sectors_of place_at slot_make could_be_one
sectors_of_5_sectors_by_a_number = refl

-- one sector by a number read by cylinders
pub sectors_of_one_sector_by_a_number_read_by_cylinders_4 : sectors_of (record { heads = 1; sectors = 1 }) (record { disk = 0; count = 1; address = Linear 5 }) ≡ Ok 5 ∷ []
unfolding number16 number32 is_zero has_ranges has_address is_slot is_one_slot chs_of address_of slot_of some_slot slot_at slot_bytes to_chs to_lba sector_at sectors_of place_at slot_make could_be_one
sectors_of_one_sector_by_a_number_read_by_cylinders_4 = refl

-- 5 sectors by a number read by cylinders
pub sectors_of_5_sectors_by_a_number_read_by_cylinders : sectors_of (record { heads = 4; sectors = 17 }) (record { disk = 0; count = 5; address = Linear 0 }) ≡ Ok 0 ∷ Ok 1 ∷ Ok 2 ∷ Ok 3 ∷ Ok 4 ∷ []
unfolding number16 number32 is_zero has_ranges has_address is_slot is_one_slot chs_of address_of slot_of some_slot slot_at slot_bytes to_chs to_lba sector_at sectors_of place_at slot_make could_be_one
sectors_of_5_sectors_by_a_number_read_by_cylinders = refl

-- 3 sectors by cylinder, head and sector
pub sectors_of_3_sectors_by_cylinder_head_and_sector : sectors_of (record { heads = 16; sectors = 63 }) (record { disk = 1; count = 3; address = Chs 1 0 60 }) ≡ Ok 1067 ∷ Ok 1068 ∷ Ok 1069 ∷ []
unfolding number16 number32 is_zero has_ranges has_address is_slot is_one_slot chs_of address_of slot_of some_slot slot_at slot_bytes to_chs to_lba sector_at sectors_of place_at slot_make could_be_one
sectors_of_3_sectors_by_cylinder_head_and_sector = refl

-- 2 sectors by a number read by cylinders
pub sectors_of_2_sectors_by_a_number_read_by_cylinders : sectors_of (record { heads = 255; sectors = 63 }) (record { disk = 1; count = 2; address = Linear 5 }) ≡ Ok 5 ∷ Ok 6 ∷ []
unfolding number16 number32 is_zero has_ranges has_address is_slot is_one_slot chs_of address_of slot_of some_slot slot_at slot_bytes to_chs to_lba sector_at sectors_of place_at slot_make could_be_one
sectors_of_2_sectors_by_a_number_read_by_cylinders = refl

-- one sector by cylinder, head and sector, not found
pub sectors_of_one_sector_by_cylinder_head_and_sector_not_found : sectors_of (record { heads = 2; sectors = 9 }) (record { disk = 1; count = 1; address = Chs 1 3 5 }) ≡ Err NotFound ∷ []
unfolding number16 number32 is_zero has_ranges has_address is_slot is_one_slot chs_of address_of slot_of some_slot slot_at slot_bytes to_chs to_lba sector_at sectors_of place_at slot_make could_be_one
sectors_of_one_sector_by_cylinder_head_and_sector_not_found = refl

-- 2 sectors by cylinder, head and sector
pub sectors_of_2_sectors_by_cylinder_head_and_sector : sectors_of (record { heads = 64; sectors = 32 }) (record { disk = 3; count = 2; address = Chs 1 24 20 }) ≡ Ok 2835 ∷ Ok 2836 ∷ []
unfolding number16 number32 is_zero has_ranges has_address is_slot is_one_slot chs_of address_of slot_of some_slot slot_at slot_bytes to_chs to_lba sector_at sectors_of place_at slot_make could_be_one
sectors_of_2_sectors_by_cylinder_head_and_sector = refl

-- 3 sectors by cylinder, head and sector
pub sectors_of_3_sectors_by_cylinder_head_and_sector_2 : sectors_of (record { heads = 4; sectors = 17 }) (record { disk = 2; count = 3; address = Chs 1 0 1 }) ≡ Ok 68 ∷ Ok 69 ∷ Ok 70 ∷ []
unfolding number16 number32 is_zero has_ranges has_address is_slot is_one_slot chs_of address_of slot_of some_slot slot_at slot_bytes to_chs to_lba sector_at sectors_of place_at slot_make could_be_one
sectors_of_3_sectors_by_cylinder_head_and_sector_2 = refl

-- 2 sectors by a number
pub sectors_of_2_sectors_by_a_number_2 : sectors_of (record { heads = 4; sectors = 17 }) (record { disk = 2; count = 2; address = Lba32 0 }) ≡ Ok 0 ∷ Ok 1 ∷ []
unfolding number16 number32 is_zero has_ranges has_address is_slot is_one_slot chs_of address_of slot_of some_slot slot_at slot_bytes to_chs to_lba sector_at sectors_of place_at slot_make could_be_one
sectors_of_2_sectors_by_a_number_2 = refl

-- one sector by a number
pub sectors_of_one_sector_by_a_number_3 : sectors_of (record { heads = 16; sectors = 63 }) (record { disk = 3; count = 1; address = Lba32 4095 }) ≡ Ok 4095 ∷ []
unfolding number16 number32 is_zero has_ranges has_address is_slot is_one_slot chs_of address_of slot_of some_slot slot_at slot_bytes to_chs to_lba sector_at sectors_of place_at slot_make could_be_one
sectors_of_one_sector_by_a_number_3 = refl

-- one sector by a number
pub sectors_of_one_sector_by_a_number_4 : sectors_of (record { heads = 4; sectors = 17 }) (record { disk = 0; count = 1; address = Lba32 177111630 }) ≡ Ok 177111630 ∷ []
unfolding number16 number32 is_zero has_ranges has_address is_slot is_one_slot chs_of address_of slot_of some_slot slot_at slot_bytes to_chs to_lba sector_at sectors_of place_at slot_make could_be_one
sectors_of_one_sector_by_a_number_4 = refl

-- 5 sectors by a number
pub sectors_of_5_sectors_by_a_number_2 : sectors_of (record { heads = 255; sectors = 63 }) (record { disk = 3; count = 5; address = Lba32 4294967291 }) ≡ Ok 4294967291 ∷ Ok 4294967292 ∷ Ok 4294967293 ∷ Ok 4294967294 ∷ Ok 4294967295 ∷ []
unfolding number16 number32 is_zero has_ranges has_address is_slot is_one_slot chs_of address_of slot_of some_slot slot_at slot_bytes to_chs to_lba sector_at sectors_of place_at slot_make could_be_one
sectors_of_5_sectors_by_a_number_2 = refl

-- one sector by a number read by cylinders, not found
pub sectors_of_one_sector_by_a_number_read_by_cylinders_not_found : sectors_of (record { heads = 4; sectors = 17 }) (record { disk = 3; count = 1; address = Linear 69632 }) ≡ Err NotFound ∷ []
unfolding number16 number32 is_zero has_ranges has_address is_slot is_one_slot chs_of address_of slot_of some_slot slot_at slot_bytes to_chs to_lba sector_at sectors_of place_at slot_make could_be_one
sectors_of_one_sector_by_a_number_read_by_cylinders_not_found = refl

-- one sector by a number read by cylinders
pub sectors_of_one_sector_by_a_number_read_by_cylinders_5 : sectors_of (record { heads = 1; sectors = 1 }) (record { disk = 3; count = 1; address = Linear 7 }) ≡ Ok 7 ∷ []
unfolding number16 number32 is_zero has_ranges has_address is_slot is_one_slot chs_of address_of slot_of some_slot slot_at slot_bytes to_chs to_lba sector_at sectors_of place_at slot_make could_be_one
sectors_of_one_sector_by_a_number_read_by_cylinders_5 = refl

-- one sector by a number
pub sectors_of_one_sector_by_a_number_5 : sectors_of (record { heads = 16; sectors = 63 }) (record { disk = 3; count = 1; address = Lba32 4294967295 }) ≡ Ok 4294967295 ∷ []
unfolding number16 number32 is_zero has_ranges has_address is_slot is_one_slot chs_of address_of slot_of some_slot slot_at slot_bytes to_chs to_lba sector_at sectors_of place_at slot_make could_be_one
sectors_of_one_sector_by_a_number_5 = refl

-- 3 sectors by a number read by cylinders, 1 of them not found
pub sectors_of_3_sectors_by_a_number_read_by_cylinders_1_of_them_not_found : sectors_of (record { heads = 4; sectors = 17 }) (record { disk = 1; count = 3; address = Linear 69630 }) ≡ Ok 69630 ∷ Ok 69631 ∷ Err NotFound ∷ []
unfolding number16 number32 is_zero has_ranges has_address is_slot is_one_slot chs_of address_of slot_of some_slot slot_at slot_bytes to_chs to_lba sector_at sectors_of place_at slot_make could_be_one
sectors_of_3_sectors_by_a_number_read_by_cylinders_1_of_them_not_found = refl

-- one sector by cylinder, head and sector
pub sectors_of_one_sector_by_cylinder_head_and_sector_4 : sectors_of (record { heads = 255; sectors = 63 }) (record { disk = 2; count = 1; address = Chs 1023 61 63 }) ≡ Ok 16438400 ∷ []
unfolding number16 number32 is_zero has_ranges has_address is_slot is_one_slot chs_of address_of slot_of some_slot slot_at slot_bytes to_chs to_lba sector_at sectors_of place_at slot_make could_be_one
sectors_of_one_sector_by_cylinder_head_and_sector_4 = refl

-- one sector by a number
pub sectors_of_one_sector_by_a_number_6 : sectors_of (record { heads = 4; sectors = 17 }) (record { disk = 1; count = 1; address = Lba32 4294967295 }) ≡ Ok 4294967295 ∷ []
unfolding number16 number32 is_zero has_ranges has_address is_slot is_one_slot chs_of address_of slot_of some_slot slot_at slot_bytes to_chs to_lba sector_at sectors_of place_at slot_make could_be_one
sectors_of_one_sector_by_a_number_6 = refl

-- 2 sectors by cylinder, head and sector
pub sectors_of_2_sectors_by_cylinder_head_and_sector_2 : sectors_of (record { heads = 2; sectors = 9 }) (record { disk = 3; count = 2; address = Chs 595 1 2 }) ≡ Ok 10720 ∷ Ok 10721 ∷ []
unfolding number16 number32 is_zero has_ranges has_address is_slot is_one_slot chs_of address_of slot_of some_slot slot_at slot_bytes to_chs to_lba sector_at sectors_of place_at slot_make could_be_one
sectors_of_2_sectors_by_cylinder_head_and_sector_2 = refl

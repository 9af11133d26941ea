-- Cases of the model, written by tools/model_cases.py: what a boot sector says.
use Rattle.std.proofs.Common.{◌≡◌, ◌∷◌, [], true, false, None, Some, Ok, Err, codes, refl}
use Rattle.lilo_model.specs.BootSector.{is_bootable, has_signature, has_options, has_names, has_slots, has_no_message, has_whole_message, has_message, has_zeros, is_whole, timeout_of, table_slots, boot_of, boot_at, NotOurs, BadVersion, BadTable}
use Rattle.lilo_model.specs.Bytes.{number16, number32, is_zero}
use Rattle.lilo_model.specs.Slots.{has_ranges, has_address, is_slot, is_one_slot, chs_of, address_of, slot_of, some_slot, slot_at, slot_bytes, to_chs, to_lba, sector_at, sectors_of, place_at, slot_make, could_be_one, Lba32}
use Rattle.model_cases.specs.Sparse.{hex, piece, file}

-- a boot sector without a message
pub boot_sector_a_boot_sector_without_a_message : boot_at (file 512 (piece 0 (hex 37 0xeb7e4c494c4f010000000000010000003200010000000000038001005e0000000380010062) ∷ piece 48 (hex 21 0x038001005f00000003800100600000000380010061) ∷ piece 510 (hex 2 0x55aa) ∷ [])) ≡ Ok (record { version = 1; time = 0; prompt = true; delay = 0; timeout = (Some 50); names = 1; default_entry = 0; message_length = 0; message_chain = 0; line = (record { disk = 0; count = 1; address = Lba32 94 }); zero_sector = (record { disk = 0; count = 1; address = Lba32 98 }); message = None; table = ((record { disk = 0; count = 1; address = Lba32 95 }) ∷ (record { disk = 0; count = 1; address = Lba32 96 }) ∷ (record { disk = 0; count = 1; address = Lba32 97 }) ∷ []) })
unfolding number16 number32 is_zero has_ranges has_address is_slot is_one_slot chs_of address_of slot_of some_slot slot_at slot_bytes to_chs to_lba sector_at sectors_of place_at slot_make could_be_one is_bootable has_signature has_options has_names has_slots has_no_message has_whole_message has_message has_zeros is_whole timeout_of table_slots boot_of boot_at
boot_sector_a_boot_sector_without_a_message = refl

-- a boot sector with a message
pub boot_sector_a_boot_sector_with_a_message : boot_at (file 512 (piece 0 (hex 69 0xeb7e4c494c4f0100000000000100000032000600bc020200038001005e0000000380010062000000038001006e000000038001005f00000003800100600000000380010061) ∷ piece 510 (hex 2 0x55aa) ∷ [])) ≡ Ok (record { version = 1; time = 0; prompt = true; delay = 0; timeout = (Some 50); names = 6; default_entry = 0; message_length = 700; message_chain = 2; line = (record { disk = 0; count = 1; address = Lba32 94 }); zero_sector = (record { disk = 0; count = 1; address = Lba32 98 }); message = (Some (record { disk = 0; count = 1; address = Lba32 110 })); table = ((record { disk = 0; count = 1; address = Lba32 95 }) ∷ (record { disk = 0; count = 1; address = Lba32 96 }) ∷ (record { disk = 0; count = 1; address = Lba32 97 }) ∷ []) })
unfolding number16 number32 is_zero has_ranges has_address is_slot is_one_slot chs_of address_of slot_of some_slot slot_at slot_bytes to_chs to_lba sector_at sectors_of place_at slot_make could_be_one is_bootable has_signature has_options has_names has_slots has_no_message has_whole_message has_message has_zeros is_whole timeout_of table_slots boot_of boot_at
boot_sector_a_boot_sector_with_a_message = refl

-- another first byte
pub boot_sector_another_first_byte : boot_at (file 512 (piece 0 (hex 69 0xea7e4c494c4f0100000000000100000032000600bc020200038001005e0000000380010062000000038001006e000000038001005f00000003800100600000000380010061) ∷ piece 510 (hex 2 0x55aa) ∷ [])) ≡ Err NotOurs
unfolding number16 number32 is_zero has_ranges has_address is_slot is_one_slot chs_of address_of slot_of some_slot slot_at slot_bytes to_chs to_lba sector_at sectors_of place_at slot_make could_be_one is_bootable has_signature has_options has_names has_slots has_no_message has_whole_message has_message has_zeros is_whole timeout_of table_slots boot_of boot_at
boot_sector_another_first_byte = refl

-- another second byte
pub boot_sector_another_second_byte : boot_at (file 512 (piece 0 (hex 69 0xeb004c494c4f0100000000000100000032000600bc020200038001005e0000000380010062000000038001006e000000038001005f00000003800100600000000380010061) ∷ piece 510 (hex 2 0x55aa) ∷ [])) ≡ Err NotOurs
unfolding number16 number32 is_zero has_ranges has_address is_slot is_one_slot chs_of address_of slot_of some_slot slot_at slot_bytes to_chs to_lba sector_at sectors_of place_at slot_make could_be_one is_bootable has_signature has_options has_names has_slots has_no_message has_whole_message has_message has_zeros is_whole timeout_of table_slots boot_of boot_at
boot_sector_another_second_byte = refl

-- another name
pub boot_sector_another_name : boot_at (file 512 (piece 0 (hex 69 0xeb7e6c696c6f0100000000000100000032000600bc020200038001005e0000000380010062000000038001006e000000038001005f00000003800100600000000380010061) ∷ piece 510 (hex 2 0x55aa) ∷ [])) ≡ Err NotOurs
unfolding number16 number32 is_zero has_ranges has_address is_slot is_one_slot chs_of address_of slot_of some_slot slot_at slot_bytes to_chs to_lba sector_at sectors_of place_at slot_make could_be_one is_bootable has_signature has_options has_names has_slots has_no_message has_whole_message has_message has_zeros is_whole timeout_of table_slots boot_of boot_at
boot_sector_another_name = refl

-- no 55 AA
pub boot_sector_no_55_aa : boot_at (file 512 (piece 0 (hex 69 0xeb7e4c494c4f0100000000000100000032000600bc020200038001005e0000000380010062000000038001006e000000038001005f00000003800100600000000380010061) ∷ piece 511 (hex 1 0xaa) ∷ [])) ≡ Err NotOurs
unfolding number16 number32 is_zero has_ranges has_address is_slot is_one_slot chs_of address_of slot_of some_slot slot_at slot_bytes to_chs to_lba sector_at sectors_of place_at slot_make could_be_one is_bootable has_signature has_options has_names has_slots has_no_message has_whole_message has_message has_zeros is_whole timeout_of table_slots boot_of boot_at
boot_sector_no_55_aa = refl

-- no AA
pub boot_sector_no_aa : boot_at (file 512 (piece 0 (hex 69 0xeb7e4c494c4f0100000000000100000032000600bc020200038001005e0000000380010062000000038001006e000000038001005f00000003800100600000000380010061) ∷ piece 510 (codes "U") ∷ [])) ≡ Err NotOurs
unfolding number16 number32 is_zero has_ranges has_address is_slot is_one_slot chs_of address_of slot_of some_slot slot_at slot_bytes to_chs to_lba sector_at sectors_of place_at slot_make could_be_one is_bootable has_signature has_options has_names has_slots has_no_message has_whole_message has_message has_zeros is_whole timeout_of table_slots boot_of boot_at
boot_sector_no_aa = refl

-- version 0
pub boot_sector_version_0 : boot_at (file 512 (piece 0 (hex 69 0xeb7e4c494c4f0000000000000100000032000600bc020200038001005e0000000380010062000000038001006e000000038001005f00000003800100600000000380010061) ∷ piece 510 (hex 2 0x55aa) ∷ [])) ≡ Err (BadVersion 0)
unfolding number16 number32 is_zero has_ranges has_address is_slot is_one_slot chs_of address_of slot_of some_slot slot_at slot_bytes to_chs to_lba sector_at sectors_of place_at slot_make could_be_one is_bootable has_signature has_options has_names has_slots has_no_message has_whole_message has_message has_zeros is_whole timeout_of table_slots boot_of boot_at
boot_sector_version_0 = refl

-- version 2
pub boot_sector_version_2 : boot_at (file 512 (piece 0 (hex 69 0xeb7e4c494c4f0200000000000100000032000600bc020200038001005e0000000380010062000000038001006e000000038001005f00000003800100600000000380010061) ∷ piece 510 (hex 2 0x55aa) ∷ [])) ≡ Err (BadVersion 2)
unfolding number16 number32 is_zero has_ranges has_address is_slot is_one_slot chs_of address_of slot_of some_slot slot_at slot_bytes to_chs to_lba sector_at sectors_of place_at slot_make could_be_one is_bootable has_signature has_options has_names has_slots has_no_message has_whole_message has_message has_zeros is_whole timeout_of table_slots boot_of boot_at
boot_sector_version_2 = refl

-- version 257
pub boot_sector_version_257 : boot_at (file 512 (piece 0 (hex 69 0xeb7e4c494c4f0101000000000100000032000600bc020200038001005e0000000380010062000000038001006e000000038001005f00000003800100600000000380010061) ∷ piece 510 (hex 2 0x55aa) ∷ [])) ≡ Err (BadVersion 257)
unfolding number16 number32 is_zero has_ranges has_address is_slot is_one_slot chs_of address_of slot_of some_slot slot_at slot_bytes to_chs to_lba sector_at sectors_of place_at slot_make could_be_one is_bootable has_signature has_options has_names has_slots has_no_message has_whole_message has_message has_zeros is_whole timeout_of table_slots boot_of boot_at
boot_sector_version_257 = refl

-- version 2, broken
pub boot_sector_version_2_broken : boot_at (file 512 (piece 0 (hex 69 0xeb7e4c494c4f0200000000000100000032000000bc020200038001005e0000000380010062000000038001006e000000038001005f00000003800100600000000380010061) ∷ piece 510 (hex 2 0x55aa) ∷ [])) ≡ Err (BadVersion 2)
unfolding number16 number32 is_zero has_ranges has_address is_slot is_one_slot chs_of address_of slot_of some_slot slot_at slot_bytes to_chs to_lba sector_at sectors_of place_at slot_make could_be_one is_bootable has_signature has_options has_names has_slots has_no_message has_whole_message has_message has_zeros is_whole timeout_of table_slots boot_of boot_at
boot_sector_version_2_broken = refl

-- a second flag
pub boot_sector_a_second_flag : boot_at (file 512 (piece 0 (hex 69 0xeb7e4c494c4f0100000000000200000032000600bc020200038001005e0000000380010062000000038001006e000000038001005f00000003800100600000000380010061) ∷ piece 510 (hex 2 0x55aa) ∷ [])) ≡ Err (BadTable 255)
unfolding number16 number32 is_zero has_ranges has_address is_slot is_one_slot chs_of address_of slot_of some_slot slot_at slot_bytes to_chs to_lba sector_at sectors_of place_at slot_make could_be_one is_bootable has_signature has_options has_names has_slots has_no_message has_whole_message has_message has_zeros is_whole timeout_of table_slots boot_of boot_at
boot_sector_a_second_flag = refl

-- a high flag
pub boot_sector_a_high_flag : boot_at (file 512 (piece 0 (hex 69 0xeb7e4c494c4f0100000000000180000032000600bc020200038001005e0000000380010062000000038001006e000000038001005f00000003800100600000000380010061) ∷ piece 510 (hex 2 0x55aa) ∷ [])) ≡ Err (BadTable 255)
unfolding number16 number32 is_zero has_ranges has_address is_slot is_one_slot chs_of address_of slot_of some_slot slot_at slot_bytes to_chs to_lba sector_at sectors_of place_at slot_make could_be_one is_bootable has_signature has_options has_names has_slots has_no_message has_whole_message has_message has_zeros is_whole timeout_of table_slots boot_of boot_at
boot_sector_a_high_flag = refl

-- no prompt
pub boot_sector_no_prompt : boot_at (file 512 (piece 0 (hex 7 0xeb7e4c494c4f01) ∷ piece 16 (hex 53 0x32000600bc020200038001005e0000000380010062000000038001006e000000038001005f00000003800100600000000380010061) ∷ piece 510 (hex 2 0x55aa) ∷ [])) ≡ Ok (record { version = 1; time = 0; prompt = false; delay = 0; timeout = (Some 50); names = 6; default_entry = 0; message_length = 700; message_chain = 2; line = (record { disk = 0; count = 1; address = Lba32 94 }); zero_sector = (record { disk = 0; count = 1; address = Lba32 98 }); message = (Some (record { disk = 0; count = 1; address = Lba32 110 })); table = ((record { disk = 0; count = 1; address = Lba32 95 }) ∷ (record { disk = 0; count = 1; address = Lba32 96 }) ∷ (record { disk = 0; count = 1; address = Lba32 97 }) ∷ []) })
unfolding number16 number32 is_zero has_ranges has_address is_slot is_one_slot chs_of address_of slot_of some_slot slot_at slot_bytes to_chs to_lba sector_at sectors_of place_at slot_make could_be_one is_bootable has_signature has_options has_names has_slots has_no_message has_whole_message has_message has_zeros is_whole timeout_of table_slots boot_of boot_at
boot_sector_no_prompt = refl

-- the longest delay
pub boot_sector_the_longest_delay : boot_at (file 512 (piece 0 (hex 69 0xeb7e4c494c4f0100000000000100feff32000600bc020200038001005e0000000380010062000000038001006e000000038001005f00000003800100600000000380010061) ∷ piece 510 (hex 2 0x55aa) ∷ [])) ≡ Ok (record { version = 1; time = 0; prompt = true; delay = 65534; timeout = (Some 50); names = 6; default_entry = 0; message_length = 700; message_chain = 2; line = (record { disk = 0; count = 1; address = Lba32 94 }); zero_sector = (record { disk = 0; count = 1; address = Lba32 98 }); message = (Some (record { disk = 0; count = 1; address = Lba32 110 })); table = ((record { disk = 0; count = 1; address = Lba32 95 }) ∷ (record { disk = 0; count = 1; address = Lba32 96 }) ∷ (record { disk = 0; count = 1; address = Lba32 97 }) ∷ []) })
unfolding number16 number32 is_zero has_ranges has_address is_slot is_one_slot chs_of address_of slot_of some_slot slot_at slot_bytes to_chs to_lba sector_at sectors_of place_at slot_make could_be_one is_bootable has_signature has_options has_names has_slots has_no_message has_whole_message has_message has_zeros is_whole timeout_of table_slots boot_of boot_at
boot_sector_the_longest_delay = refl

-- a delay of 65,535
pub boot_sector_a_delay_of_65_535 : boot_at (file 512 (piece 0 (hex 69 0xeb7e4c494c4f0100000000000100ffff32000600bc020200038001005e0000000380010062000000038001006e000000038001005f00000003800100600000000380010061) ∷ piece 510 (hex 2 0x55aa) ∷ [])) ≡ Err (BadTable 255)
unfolding number16 number32 is_zero has_ranges has_address is_slot is_one_slot chs_of address_of slot_of some_slot slot_at slot_bytes to_chs to_lba sector_at sectors_of place_at slot_make could_be_one is_bootable has_signature has_options has_names has_slots has_no_message has_whole_message has_message has_zeros is_whole timeout_of table_slots boot_of boot_at
boot_sector_a_delay_of_65_535 = refl

-- no timeout
pub boot_sector_no_timeout : boot_at (file 512 (piece 0 (hex 69 0xeb7e4c494c4f01000000000001000000ffff0600bc020200038001005e0000000380010062000000038001006e000000038001005f00000003800100600000000380010061) ∷ piece 510 (hex 2 0x55aa) ∷ [])) ≡ Ok (record { version = 1; time = 0; prompt = true; delay = 0; timeout = None; names = 6; default_entry = 0; message_length = 700; message_chain = 2; line = (record { disk = 0; count = 1; address = Lba32 94 }); zero_sector = (record { disk = 0; count = 1; address = Lba32 98 }); message = (Some (record { disk = 0; count = 1; address = Lba32 110 })); table = ((record { disk = 0; count = 1; address = Lba32 95 }) ∷ (record { disk = 0; count = 1; address = Lba32 96 }) ∷ (record { disk = 0; count = 1; address = Lba32 97 }) ∷ []) })
unfolding number16 number32 is_zero has_ranges has_address is_slot is_one_slot chs_of address_of slot_of some_slot slot_at slot_bytes to_chs to_lba sector_at sectors_of place_at slot_make could_be_one is_bootable has_signature has_options has_names has_slots has_no_message has_whole_message has_message has_zeros is_whole timeout_of table_slots boot_of boot_at
boot_sector_no_timeout = refl

-- timeout 0
pub boot_sector_timeout_0 : boot_at (file 512 (piece 0 (hex 69 0xeb7e4c494c4f0100000000000100000000000600bc020200038001005e0000000380010062000000038001006e000000038001005f00000003800100600000000380010061) ∷ piece 510 (hex 2 0x55aa) ∷ [])) ≡ Ok (record { version = 1; time = 0; prompt = true; delay = 0; timeout = (Some 0); names = 6; default_entry = 0; message_length = 700; message_chain = 2; line = (record { disk = 0; count = 1; address = Lba32 94 }); zero_sector = (record { disk = 0; count = 1; address = Lba32 98 }); message = (Some (record { disk = 0; count = 1; address = Lba32 110 })); table = ((record { disk = 0; count = 1; address = Lba32 95 }) ∷ (record { disk = 0; count = 1; address = Lba32 96 }) ∷ (record { disk = 0; count = 1; address = Lba32 97 }) ∷ []) })
unfolding number16 number32 is_zero has_ranges has_address is_slot is_one_slot chs_of address_of slot_of some_slot slot_at slot_bytes to_chs to_lba sector_at sectors_of place_at slot_make could_be_one is_bootable has_signature has_options has_names has_slots has_no_message has_whole_message has_message has_zeros is_whole timeout_of table_slots boot_of boot_at
boot_sector_timeout_0 = refl

-- no names
pub boot_sector_no_names : boot_at (file 512 (piece 0 (hex 69 0xeb7e4c494c4f0100000000000100000032000000bc020200038001005e0000000380010062000000038001006e000000038001005f00000003800100600000000380010061) ∷ piece 510 (hex 2 0x55aa) ∷ [])) ≡ Err (BadTable 255)
unfolding number16 number32 is_zero has_ranges has_address is_slot is_one_slot chs_of address_of slot_of some_slot slot_at slot_bytes to_chs to_lba sector_at sectors_of place_at slot_make could_be_one is_bootable has_signature has_options has_names has_slots has_no_message has_whole_message has_message has_zeros is_whole timeout_of table_slots boot_of boot_at
boot_sector_no_names = refl

-- 19 names
pub boot_sector_19_names : boot_at (file 512 (piece 0 (hex 69 0xeb7e4c494c4f0100000000000100000032001300bc020200038001005e0000000380010062000000038001006e000000038001005f00000003800100600000000380010061) ∷ piece 510 (hex 2 0x55aa) ∷ [])) ≡ Ok (record { version = 1; time = 0; prompt = true; delay = 0; timeout = (Some 50); names = 19; default_entry = 0; message_length = 700; message_chain = 2; line = (record { disk = 0; count = 1; address = Lba32 94 }); zero_sector = (record { disk = 0; count = 1; address = Lba32 98 }); message = (Some (record { disk = 0; count = 1; address = Lba32 110 })); table = ((record { disk = 0; count = 1; address = Lba32 95 }) ∷ (record { disk = 0; count = 1; address = Lba32 96 }) ∷ (record { disk = 0; count = 1; address = Lba32 97 }) ∷ []) })
unfolding number16 number32 is_zero has_ranges has_address is_slot is_one_slot chs_of address_of slot_of some_slot slot_at slot_bytes to_chs to_lba sector_at sectors_of place_at slot_make could_be_one is_bootable has_signature has_options has_names has_slots has_no_message has_whole_message has_message has_zeros is_whole timeout_of table_slots boot_of boot_at
boot_sector_19_names = refl

-- 20 names
pub boot_sector_20_names : boot_at (file 512 (piece 0 (hex 69 0xeb7e4c494c4f0100000000000100000032001400bc020200038001005e0000000380010062000000038001006e000000038001005f00000003800100600000000380010061) ∷ piece 510 (hex 2 0x55aa) ∷ [])) ≡ Err (BadTable 255)
unfolding number16 number32 is_zero has_ranges has_address is_slot is_one_slot chs_of address_of slot_of some_slot slot_at slot_bytes to_chs to_lba sector_at sectors_of place_at slot_make could_be_one is_bootable has_signature has_options has_names has_slots has_no_message has_whole_message has_message has_zeros is_whole timeout_of table_slots boot_of boot_at
boot_sector_20_names = refl

-- the last entry is the default
pub boot_sector_the_last_entry_is_the_default : boot_at (file 512 (piece 0 (hex 69 0xeb7e4c494c4f0100000000000100000032000600bc020200038001005e0000000380010062000000038001006e000000038001005f00000003800100600000000380010061) ∷ piece 96 (hex 1 0x05) ∷ piece 510 (hex 2 0x55aa) ∷ [])) ≡ Ok (record { version = 1; time = 0; prompt = true; delay = 0; timeout = (Some 50); names = 6; default_entry = 5; message_length = 700; message_chain = 2; line = (record { disk = 0; count = 1; address = Lba32 94 }); zero_sector = (record { disk = 0; count = 1; address = Lba32 98 }); message = (Some (record { disk = 0; count = 1; address = Lba32 110 })); table = ((record { disk = 0; count = 1; address = Lba32 95 }) ∷ (record { disk = 0; count = 1; address = Lba32 96 }) ∷ (record { disk = 0; count = 1; address = Lba32 97 }) ∷ []) })
unfolding number16 number32 is_zero has_ranges has_address is_slot is_one_slot chs_of address_of slot_of some_slot slot_at slot_bytes to_chs to_lba sector_at sectors_of place_at slot_make could_be_one is_bootable has_signature has_options has_names has_slots has_no_message has_whole_message has_message has_zeros is_whole timeout_of table_slots boot_of boot_at
boot_sector_the_last_entry_is_the_default = refl

-- a default past the names
pub boot_sector_a_default_past_the_names : boot_at (file 512 (piece 0 (hex 69 0xeb7e4c494c4f0100000000000100000032000600bc020200038001005e0000000380010062000000038001006e000000038001005f00000003800100600000000380010061) ∷ piece 96 (hex 1 0x06) ∷ piece 510 (hex 2 0x55aa) ∷ [])) ≡ Err (BadTable 255)
unfolding number16 number32 is_zero has_ranges has_address is_slot is_one_slot chs_of address_of slot_of some_slot slot_at slot_bytes to_chs to_lba sector_at sectors_of place_at slot_make could_be_one is_bootable has_signature has_options has_names has_slots has_no_message has_whole_message has_message has_zeros is_whole timeout_of table_slots boot_of boot_at
boot_sector_a_default_past_the_names = refl

-- a message of no bytes
pub boot_sector_a_message_of_no_bytes : boot_at (file 512 (piece 0 (hex 69 0xeb7e4c494c4f010000000000010000003200060000000200038001005e0000000380010062000000038001006e000000038001005f00000003800100600000000380010061) ∷ piece 510 (hex 2 0x55aa) ∷ [])) ≡ Err (BadTable 255)
unfolding number16 number32 is_zero has_ranges has_address is_slot is_one_slot chs_of address_of slot_of some_slot slot_at slot_bytes to_chs to_lba sector_at sectors_of place_at slot_make could_be_one is_bootable has_signature has_options has_names has_slots has_no_message has_whole_message has_message has_zeros is_whole timeout_of table_slots boot_of boot_at
boot_sector_a_message_of_no_bytes = refl

-- a message in no section sector
pub boot_sector_a_message_in_no_section_sector : boot_at (file 512 (piece 0 (hex 69 0xeb7e4c494c4f0100000000000100000032000600bc020000038001005e0000000380010062000000038001006e000000038001005f00000003800100600000000380010061) ∷ piece 510 (hex 2 0x55aa) ∷ [])) ≡ Err (BadTable 255)
unfolding number16 number32 is_zero has_ranges has_address is_slot is_one_slot chs_of address_of slot_of some_slot slot_at slot_bytes to_chs to_lba sector_at sectors_of place_at slot_make could_be_one is_bootable has_signature has_options has_names has_slots has_no_message has_whole_message has_message has_zeros is_whole timeout_of table_slots boot_of boot_at
boot_sector_a_message_in_no_section_sector = refl

-- a message in four section sectors
pub boot_sector_a_message_in_four_section_sectors : boot_at (file 512 (piece 0 (hex 69 0xeb7e4c494c4f0100000000000100000032000600bc020400038001005e0000000380010062000000038001006e000000038001005f00000003800100600000000380010061) ∷ piece 510 (hex 2 0x55aa) ∷ [])) ≡ Err (BadTable 255)
unfolding number16 number32 is_zero has_ranges has_address is_slot is_one_slot chs_of address_of slot_of some_slot slot_at slot_bytes to_chs to_lba sector_at sectors_of place_at slot_make could_be_one is_bootable has_signature has_options has_names has_slots has_no_message has_whole_message has_message has_zeros is_whole timeout_of table_slots boot_of boot_at
boot_sector_a_message_in_four_section_sectors = refl

-- three section sectors
pub boot_sector_three_section_sectors : boot_at (file 512 (piece 0 (hex 69 0xeb7e4c494c4f0100000000000100000032000600bc020300038001005e0000000380010062000000038001006e000000038001005f00000003800100600000000380010061) ∷ piece 510 (hex 2 0x55aa) ∷ [])) ≡ Ok (record { version = 1; time = 0; prompt = true; delay = 0; timeout = (Some 50); names = 6; default_entry = 0; message_length = 700; message_chain = 3; line = (record { disk = 0; count = 1; address = Lba32 94 }); zero_sector = (record { disk = 0; count = 1; address = Lba32 98 }); message = (Some (record { disk = 0; count = 1; address = Lba32 110 })); table = ((record { disk = 0; count = 1; address = Lba32 95 }) ∷ (record { disk = 0; count = 1; address = Lba32 96 }) ∷ (record { disk = 0; count = 1; address = Lba32 97 }) ∷ []) })
unfolding number16 number32 is_zero has_ranges has_address is_slot is_one_slot chs_of address_of slot_of some_slot slot_at slot_bytes to_chs to_lba sector_at sectors_of place_at slot_make could_be_one is_bootable has_signature has_options has_names has_slots has_no_message has_whole_message has_message has_zeros is_whole timeout_of table_slots boot_of boot_at
boot_sector_three_section_sectors = refl

-- a message without a slot
pub boot_sector_a_message_without_a_slot : boot_at (file 512 (piece 0 (hex 37 0xeb7e4c494c4f0100000000000100000032000600bc020200038001005e0000000380010062) ∷ piece 48 (hex 21 0x038001005f00000003800100600000000380010061) ∷ piece 510 (hex 2 0x55aa) ∷ [])) ≡ Err (BadTable 255)
unfolding number16 number32 is_zero has_ranges has_address is_slot is_one_slot chs_of address_of slot_of some_slot slot_at slot_bytes to_chs to_lba sector_at sectors_of place_at slot_make could_be_one is_bootable has_signature has_options has_names has_slots has_no_message has_whole_message has_message has_zeros is_whole timeout_of table_slots boot_of boot_at
boot_sector_a_message_without_a_slot = refl

-- no message at all
pub boot_sector_no_message_at_all : boot_at (file 512 (piece 0 (hex 37 0xeb7e4c494c4f010000000000010000003200060000000000038001005e0000000380010062) ∷ piece 48 (hex 21 0x038001005f00000003800100600000000380010061) ∷ piece 510 (hex 2 0x55aa) ∷ [])) ≡ Ok (record { version = 1; time = 0; prompt = true; delay = 0; timeout = (Some 50); names = 6; default_entry = 0; message_length = 0; message_chain = 0; line = (record { disk = 0; count = 1; address = Lba32 94 }); zero_sector = (record { disk = 0; count = 1; address = Lba32 98 }); message = None; table = ((record { disk = 0; count = 1; address = Lba32 95 }) ∷ (record { disk = 0; count = 1; address = Lba32 96 }) ∷ (record { disk = 0; count = 1; address = Lba32 97 }) ∷ []) })
unfolding number16 number32 is_zero has_ranges has_address is_slot is_one_slot chs_of address_of slot_of some_slot slot_at slot_bytes to_chs to_lba sector_at sectors_of place_at slot_make could_be_one is_bootable has_signature has_options has_names has_slots has_no_message has_whole_message has_message has_zeros is_whole timeout_of table_slots boot_of boot_at
boot_sector_no_message_at_all = refl

-- a line slot of two sectors
pub boot_sector_a_line_slot_of_two_sectors : boot_at (file 512 (piece 0 (hex 69 0xeb7e4c494c4f0100000000000100000032000600bc020200038002005e0000000380010062000000038001006e000000038001005f00000003800100600000000380010061) ∷ piece 510 (hex 2 0x55aa) ∷ [])) ≡ Err (BadTable 255)
unfolding number16 number32 is_zero has_ranges has_address is_slot is_one_slot chs_of address_of slot_of some_slot slot_at slot_bytes to_chs to_lba sector_at sectors_of place_at slot_make could_be_one is_bootable has_signature has_options has_names has_slots has_no_message has_whole_message has_message has_zeros is_whole timeout_of table_slots boot_of boot_at
boot_sector_a_line_slot_of_two_sectors = refl

-- a line slot of zeros
pub boot_sector_a_line_slot_of_zeros : boot_at (file 512 (piece 0 (hex 23 0xeb7e4c494c4f0100000000000100000032000600bc0202) ∷ piece 32 (hex 37 0x0380010062000000038001006e000000038001005f00000003800100600000000380010061) ∷ piece 510 (hex 2 0x55aa) ∷ [])) ≡ Err (BadTable 255)
unfolding number16 number32 is_zero has_ranges has_address is_slot is_one_slot chs_of address_of slot_of some_slot slot_at slot_bytes to_chs to_lba sector_at sectors_of place_at slot_make could_be_one is_bootable has_signature has_options has_names has_slots has_no_message has_whole_message has_message has_zeros is_whole timeout_of table_slots boot_of boot_at
boot_sector_a_line_slot_of_zeros = refl

-- a zero slot of zeros
pub boot_sector_a_zero_slot_of_zeros : boot_at (file 512 (piece 0 (hex 29 0xeb7e4c494c4f0100000000000100000032000600bc020200038001005e) ∷ piece 40 (hex 29 0x038001006e000000038001005f00000003800100600000000380010061) ∷ piece 510 (hex 2 0x55aa) ∷ [])) ≡ Err (BadTable 255)
unfolding number16 number32 is_zero has_ranges has_address is_slot is_one_slot chs_of address_of slot_of some_slot slot_at slot_bytes to_chs to_lba sector_at sectors_of place_at slot_make could_be_one is_bootable has_signature has_options has_names has_slots has_no_message has_whole_message has_message has_zeros is_whole timeout_of table_slots boot_of boot_at
boot_sector_a_zero_slot_of_zeros = refl

-- a zero slot on a fifth disk
pub boot_sector_a_zero_slot_on_a_fifth_disk : boot_at (file 512 (piece 0 (hex 69 0xeb7e4c494c4f0100000000000100000032000600bc020200038001005e0000000384010062000000038001006e000000038001005f00000003800100600000000380010061) ∷ piece 510 (hex 2 0x55aa) ∷ [])) ≡ Err (BadTable 255)
unfolding number16 number32 is_zero has_ranges has_address is_slot is_one_slot chs_of address_of slot_of some_slot slot_at slot_bytes to_chs to_lba sector_at sectors_of place_at slot_make could_be_one is_bootable has_signature has_options has_names has_slots has_no_message has_whole_message has_message has_zeros is_whole timeout_of table_slots boot_of boot_at
boot_sector_a_zero_slot_on_a_fifth_disk = refl

-- a message slot of two sectors
pub boot_sector_a_message_slot_of_two_sectors : boot_at (file 512 (piece 0 (hex 69 0xeb7e4c494c4f0100000000000100000032000600bc020200038001005e0000000380010062000000038002006e000000038001005f00000003800100600000000380010061) ∷ piece 510 (hex 2 0x55aa) ∷ [])) ≡ Err (BadTable 255)
unfolding number16 number32 is_zero has_ranges has_address is_slot is_one_slot chs_of address_of slot_of some_slot slot_at slot_bytes to_chs to_lba sector_at sectors_of place_at slot_make could_be_one is_bootable has_signature has_options has_names has_slots has_no_message has_whole_message has_message has_zeros is_whole timeout_of table_slots boot_of boot_at
boot_sector_a_message_slot_of_two_sectors = refl

-- a first table slot of zeros
pub boot_sector_a_first_table_slot_of_zeros : boot_at (file 512 (piece 0 (hex 45 0xeb7e4c494c4f0100000000000100000032000600bc020200038001005e0000000380010062000000038001006e) ∷ piece 56 (hex 13 0x03800100600000000380010061) ∷ piece 510 (hex 2 0x55aa) ∷ [])) ≡ Err (BadTable 255)
unfolding number16 number32 is_zero has_ranges has_address is_slot is_one_slot chs_of address_of slot_of some_slot slot_at slot_bytes to_chs to_lba sector_at sectors_of place_at slot_make could_be_one is_bootable has_signature has_options has_names has_slots has_no_message has_whole_message has_message has_zeros is_whole timeout_of table_slots boot_of boot_at
boot_sector_a_first_table_slot_of_zeros = refl

-- a third table slot of two sectors
pub boot_sector_a_third_table_slot_of_two_sectors : boot_at (file 512 (piece 0 (hex 69 0xeb7e4c494c4f0100000000000100000032000600bc020200038001005e0000000380010062000000038001006e000000038001005f00000003800100600000000380020061) ∷ piece 510 (hex 2 0x55aa) ∷ [])) ≡ Err (BadTable 255)
unfolding number16 number32 is_zero has_ranges has_address is_slot is_one_slot chs_of address_of slot_of some_slot slot_at slot_bytes to_chs to_lba sector_at sectors_of place_at slot_make could_be_one is_bootable has_signature has_options has_names has_slots has_no_message has_whole_message has_message has_zeros is_whole timeout_of table_slots boot_of boot_at
boot_sector_a_third_table_slot_of_two_sectors = refl

-- a fourth table slot
pub boot_sector_a_fourth_table_slot : boot_at (file 512 (piece 0 (hex 77 0xeb7e4c494c4f0100000000000100000032000600bc020200038001005e0000000380010062000000038001006e000000038001005f000000038001006000000003800100610000000380010063) ∷ piece 510 (hex 2 0x55aa) ∷ [])) ≡ Err (BadTable 255)
unfolding number16 number32 is_zero has_ranges has_address is_slot is_one_slot chs_of address_of slot_of some_slot slot_at slot_bytes to_chs to_lba sector_at sectors_of place_at slot_make could_be_one is_bootable has_signature has_options has_names has_slots has_no_message has_whole_message has_message has_zeros is_whole timeout_of table_slots boot_of boot_at
boot_sector_a_fourth_table_slot = refl

-- the last byte of the unused slots
pub boot_sector_the_last_byte_of_the_unused_slots : boot_at (file 512 (piece 0 (hex 69 0xeb7e4c494c4f0100000000000100000032000600bc020200038001005e0000000380010062000000038001006e000000038001005f00000003800100600000000380010061) ∷ piece 95 (hex 1 0x01) ∷ piece 510 (hex 2 0x55aa) ∷ [])) ≡ Err (BadTable 255)
unfolding number16 number32 is_zero has_ranges has_address is_slot is_one_slot chs_of address_of slot_of some_slot slot_at slot_bytes to_chs to_lba sector_at sectors_of place_at slot_make could_be_one is_bootable has_signature has_options has_names has_slots has_no_message has_whole_message has_message has_zeros is_whole timeout_of table_slots boot_of boot_at
boot_sector_the_last_byte_of_the_unused_slots = refl

-- the first zero byte after the default
pub boot_sector_the_first_zero_byte_after_the_default : boot_at (file 512 (piece 0 (hex 69 0xeb7e4c494c4f0100000000000100000032000600bc020200038001005e0000000380010062000000038001006e000000038001005f00000003800100600000000380010061) ∷ piece 98 (hex 1 0x01) ∷ piece 510 (hex 2 0x55aa) ∷ [])) ≡ Err (BadTable 255)
unfolding number16 number32 is_zero has_ranges has_address is_slot is_one_slot chs_of address_of slot_of some_slot slot_at slot_bytes to_chs to_lba sector_at sectors_of place_at slot_make could_be_one is_bootable has_signature has_options has_names has_slots has_no_message has_whole_message has_message has_zeros is_whole timeout_of table_slots boot_of boot_at
boot_sector_the_first_zero_byte_after_the_default = refl

-- the last zero byte after the default
pub boot_sector_the_last_zero_byte_after_the_default : boot_at (file 512 (piece 0 (hex 69 0xeb7e4c494c4f0100000000000100000032000600bc020200038001005e0000000380010062000000038001006e000000038001005f00000003800100600000000380010061) ∷ piece 127 (hex 1 0x01) ∷ piece 510 (hex 2 0x55aa) ∷ [])) ≡ Err (BadTable 255)
unfolding number16 number32 is_zero has_ranges has_address is_slot is_one_slot chs_of address_of slot_of some_slot slot_at slot_bytes to_chs to_lba sector_at sectors_of place_at slot_make could_be_one is_bootable has_signature has_options has_names has_slots has_no_message has_whole_message has_message has_zeros is_whole timeout_of table_slots boot_of boot_at
boot_sector_the_last_zero_byte_after_the_default = refl

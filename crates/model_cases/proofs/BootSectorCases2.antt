-- Cases of the model, written by tools/model_cases.py: what a boot sector says.
use Rattle.std.proofs.Common.{◌≡◌, ◌∷◌, [], true, Some, Ok, Err, replicate, refl}
use Rattle.lilo_model.specs.BootSector.{is_bootable, has_signature, has_options, has_names, has_slots, has_no_message, has_whole_message, has_message, has_zeros, is_whole, timeout_of, table_slots, boot_of, boot_at, NotOurs, BadVersion, BadTable}
use Rattle.lilo_model.specs.Bytes.{number16, number32, is_zero}
use Rattle.lilo_model.specs.Slots.{has_ranges, has_address, is_slot, is_one_slot, chs_of, address_of, slot_of, some_slot, slot_at, slot_bytes, to_chs, to_lba, sector_at, sectors_of, place_at, slot_make, could_be_one, Chs, Linear, Lba32}
use Rattle.model_cases.specs.Sparse.{hex, piece, file}

-- code after the fields
pub boot_sector_code_after_the_fields : boot_at (file 512 (piece 0 (hex 69 0xeb7e4c494c4f0100000000000100000032000600bc020200038001005e0000000380010062000000038001006e000000038001005f00000003800100600000000380010061) ∷ piece 128 (replicate 8 144) ∷ piece 510 (hex 2 0x55aa) ∷ [])) ≡ Ok (record { version = 1; time = 0; prompt = true; delay = 0; timeout = (Some 50); names = 6; default_entry = 0; message_length = 700; message_chain = 2; line = (record { disk = 0; count = 1; address = Lba32 94 }); zero_sector = (record { disk = 0; count = 1; address = Lba32 98 }); message = (Some (record { disk = 0; count = 1; address = Lba32 110 })); table = ((record { disk = 0; count = 1; address = Lba32 95 }) ∷ (record { disk = 0; count = 1; address = Lba32 96 }) ∷ (record { disk = 0; count = 1; address = Lba32 97 }) ∷ []) })
unfolding number16 number32 is_zero has_ranges has_address is_slot is_one_slot chs_of address_of slot_of some_slot slot_at slot_bytes to_chs to_lba sector_at sectors_of place_at slot_make could_be_one is_bootable has_signature has_options has_names has_slots has_no_message has_whole_message has_message has_zeros is_whole timeout_of table_slots boot_of boot_at
boot_sector_code_after_the_fields = refl

-- a partition table
pub boot_sector_a_partition_table : boot_at (file 512 (piece 0 (hex 69 0xeb7e4c494c4f0100000000000100000032000600bc020200038001005e0000000380010062000000038001006e000000038001005f00000003800100600000000380010061) ∷ piece 446 (hex 1 0x80) ∷ piece 510 (hex 2 0x55aa) ∷ [])) ≡ Ok (record { version = 1; time = 0; prompt = true; delay = 0; timeout = (Some 50); names = 6; default_entry = 0; message_length = 700; message_chain = 2; line = (record { disk = 0; count = 1; address = Lba32 94 }); zero_sector = (record { disk = 0; count = 1; address = Lba32 98 }); message = (Some (record { disk = 0; count = 1; address = Lba32 110 })); table = ((record { disk = 0; count = 1; address = Lba32 95 }) ∷ (record { disk = 0; count = 1; address = Lba32 96 }) ∷ (record { disk = 0; count = 1; address = Lba32 97 }) ∷ []) })
unfolding number16 number32 is_zero has_ranges has_address is_slot is_one_slot chs_of address_of slot_of some_slot slot_at slot_bytes to_chs to_lba sector_at sectors_of place_at slot_make could_be_one is_bootable has_signature has_options has_names has_slots has_no_message has_whole_message has_message has_zeros is_whole timeout_of table_slots boot_of boot_at
boot_sector_a_partition_table = refl

-- slots by cylinder, head and sector
pub boot_sector_slots_by_cylinder_head_and_sector : boot_at (file 512 (piece 0 (hex 69 0xeb7e4c494c4f0100000000000100000032000600bc02020001800100200001000380010062000000038001006e000000028101005f00000003800100600000000380010061) ∷ piece 510 (hex 2 0x55aa) ∷ [])) ≡ Ok (record { version = 1; time = 0; prompt = true; delay = 0; timeout = (Some 50); names = 6; default_entry = 0; message_length = 700; message_chain = 2; line = (record { disk = 0; count = 1; address = Chs 0 1 32 }); zero_sector = (record { disk = 0; count = 1; address = Lba32 98 }); message = (Some (record { disk = 0; count = 1; address = Lba32 110 })); table = ((record { disk = 1; count = 1; address = Linear 95 }) ∷ (record { disk = 0; count = 1; address = Lba32 96 }) ∷ (record { disk = 0; count = 1; address = Lba32 97 }) ∷ []) })
unfolding number16 number32 is_zero has_ranges has_address is_slot is_one_slot chs_of address_of slot_of some_slot slot_at slot_bytes to_chs to_lba sector_at sectors_of place_at slot_make could_be_one is_bootable has_signature has_options has_names has_slots has_no_message has_whole_message has_message has_zeros is_whole timeout_of table_slots boot_of boot_at
boot_sector_slots_by_cylinder_head_and_sector = refl

-- a time
pub boot_sector_a_time : boot_at (file 512 (piece 0 (hex 69 0xeb7e4c494c4f0100785634120100000032000600bc020200038001005e0000000380010062000000038001006e000000038001005f00000003800100600000000380010061) ∷ piece 510 (hex 2 0x55aa) ∷ [])) ≡ Ok (record { version = 1; time = 305419896; prompt = true; delay = 0; timeout = (Some 50); names = 6; default_entry = 0; message_length = 700; message_chain = 2; line = (record { disk = 0; count = 1; address = Lba32 94 }); zero_sector = (record { disk = 0; count = 1; address = Lba32 98 }); message = (Some (record { disk = 0; count = 1; address = Lba32 110 })); table = ((record { disk = 0; count = 1; address = Lba32 95 }) ∷ (record { disk = 0; count = 1; address = Lba32 96 }) ∷ (record { disk = 0; count = 1; address = Lba32 97 }) ∷ []) })
unfolding number16 number32 is_zero has_ranges has_address is_slot is_one_slot chs_of address_of slot_of some_slot slot_at slot_bytes to_chs to_lba sector_at sectors_of place_at slot_make could_be_one is_bootable has_signature has_options has_names has_slots has_no_message has_whole_message has_message has_zeros is_whole timeout_of table_slots boot_of boot_at
boot_sector_a_time = refl

-- a boot sector with a byte changed
pub boot_sector_a_boot_sector_with_a_byte_changed : boot_at (file 512 (piece 0 (hex 69 0xeb7e4c494c4f0100000000000100000032000600bc020200038001005e0000000302010062000000038001006e000000038001005f00000003800100600000000380010061) ∷ piece 510 (hex 2 0x55aa) ∷ [])) ≡ Err (BadTable 255)
unfolding number16 number32 is_zero has_ranges has_address is_slot is_one_slot chs_of address_of slot_of some_slot slot_at slot_bytes to_chs to_lba sector_at sectors_of place_at slot_make could_be_one is_bootable has_signature has_options has_names has_slots has_no_message has_whole_message has_message has_zeros is_whole timeout_of table_slots boot_of boot_at
boot_sector_a_boot_sector_with_a_byte_changed = refl

-- a boot sector with two bytes changed
pub boot_sector_a_boot_sector_with_two_bytes_changed : boot_at (file 512 (piece 0 (hex 69 0xeb7e4cff4c4f0100000000000100000032000600bc020200038001005e0000000380010062000000038001006e000000038001005f00000003800100600000000380010061) ∷ piece 510 (hex 2 0x55aa) ∷ [])) ≡ Err NotOurs
unfolding number16 number32 is_zero has_ranges has_address is_slot is_one_slot chs_of address_of slot_of some_slot slot_at slot_bytes to_chs to_lba sector_at sectors_of place_at slot_make could_be_one is_bootable has_signature has_options has_names has_slots has_no_message has_whole_message has_message has_zeros is_whole timeout_of table_slots boot_of boot_at
boot_sector_a_boot_sector_with_two_bytes_changed = refl

-- a boot sector with a byte changed
pub boot_sector_a_boot_sector_with_a_byte_changed_2 : boot_at (file 512 (piece 0 (hex 69 0xeb7e4c494c4f0100000000000100000032000600bc020200038001005e0000000380010062000000038001006e000000038001005f00000003800101600000000380010061) ∷ piece 510 (hex 2 0x55aa) ∷ [])) ≡ Err (BadTable 255)
unfolding number16 number32 is_zero has_ranges has_address is_slot is_one_slot chs_of address_of slot_of some_slot slot_at slot_bytes to_chs to_lba sector_at sectors_of place_at slot_make could_be_one is_bootable has_signature has_options has_names has_slots has_no_message has_whole_message has_message has_zeros is_whole timeout_of table_slots boot_of boot_at
boot_sector_a_boot_sector_with_a_byte_changed_2 = refl

-- a boot sector with two bytes changed
pub boot_sector_a_boot_sector_with_two_bytes_changed_2 : boot_at (file 512 (piece 0 (hex 69 0xeb7e4c494c4f0100000000000100000032000600bc020200038001005e0000000380010062000000038001006e000000038001005f00000003800100600000000380010061) ∷ piece 101 (hex 1 0x01) ∷ piece 120 (hex 1 0xff) ∷ piece 510 (hex 2 0x55aa) ∷ [])) ≡ Err (BadTable 255)
unfolding number16 number32 is_zero has_ranges has_address is_slot is_one_slot chs_of address_of slot_of some_slot slot_at slot_bytes to_chs to_lba sector_at sectors_of place_at slot_make could_be_one is_bootable has_signature has_options has_names has_slots has_no_message has_whole_message has_message has_zeros is_whole timeout_of table_slots boot_of boot_at
boot_sector_a_boot_sector_with_two_bytes_changed_2 = refl

-- a boot sector with a byte changed
pub boot_sector_a_boot_sector_with_a_byte_changed_3 : boot_at (file 512 (piece 0 (hex 69 0xeb7e4c494c4f0100000000000100000032000600bc020200038001005e000000038001006200ff00038001006e000000038001005f00000003800100600000000380010061) ∷ piece 510 (hex 2 0x55aa) ∷ [])) ≡ Ok (record { version = 1; time = 0; prompt = true; delay = 0; timeout = (Some 50); names = 6; default_entry = 0; message_length = 700; message_chain = 2; line = (record { disk = 0; count = 1; address = Lba32 94 }); zero_sector = (record { disk = 0; count = 1; address = Lba32 16711778 }); message = (Some (record { disk = 0; count = 1; address = Lba32 110 })); table = ((record { disk = 0; count = 1; address = Lba32 95 }) ∷ (record { disk = 0; count = 1; address = Lba32 96 }) ∷ (record { disk = 0; count = 1; address = Lba32 97 }) ∷ []) })
unfolding number16 number32 is_zero has_ranges has_address is_slot is_one_slot chs_of address_of slot_of some_slot slot_at slot_bytes to_chs to_lba sector_at sectors_of place_at slot_make could_be_one is_bootable has_signature has_options has_names has_slots has_no_message has_whole_message has_message has_zeros is_whole timeout_of table_slots boot_of boot_at
boot_sector_a_boot_sector_with_a_byte_changed_3 = refl

-- a boot sector with two bytes changed
pub boot_sector_a_boot_sector_with_two_bytes_changed_3 : boot_at (file 512 (piece 0 (hex 69 0xeb7e4c004c4f0100000000000100000032000600bc020200038001005e0000000380010062000000008001006e000000038001005f00000003800100600000000380010061) ∷ piece 510 (hex 2 0x55aa) ∷ [])) ≡ Err NotOurs
unfolding number16 number32 is_zero has_ranges has_address is_slot is_one_slot chs_of address_of slot_of some_slot slot_at slot_bytes to_chs to_lba sector_at sectors_of place_at slot_make could_be_one is_bootable has_signature has_options has_names has_slots has_no_message has_whole_message has_message has_zeros is_whole timeout_of table_slots boot_of boot_at
boot_sector_a_boot_sector_with_two_bytes_changed_3 = refl

-- a boot sector with a byte changed
pub boot_sector_a_boot_sector_with_a_byte_changed_4 : boot_at (file 512 (piece 0 (hex 69 0xeb7e4c494c4f0102000000000100000032000600bc020200038001005e0000000380010062000000038001006e000000038001005f00000003800100600000000380010061) ∷ piece 510 (hex 2 0x55aa) ∷ [])) ≡ Err (BadVersion 513)
unfolding number16 number32 is_zero has_ranges has_address is_slot is_one_slot chs_of address_of slot_of some_slot slot_at slot_bytes to_chs to_lba sector_at sectors_of place_at slot_make could_be_one is_bootable has_signature has_options has_names has_slots has_no_message has_whole_message has_message has_zeros is_whole timeout_of table_slots boot_of boot_at
boot_sector_a_boot_sector_with_a_byte_changed_4 = refl

-- a boot sector with a byte changed
pub boot_sector_a_boot_sector_with_a_byte_changed_5 : boot_at (file 512 (piece 0 (hex 69 0xeb7e4c494c4f0100000000000100000032000600bc020200038001005e0000000380010062000000038001006e000000038001005f00000003800100600000000380010061) ∷ piece 99 (hex 1 0xff) ∷ piece 510 (hex 2 0x55aa) ∷ [])) ≡ Err (BadTable 255)
unfolding number16 number32 is_zero has_ranges has_address is_slot is_one_slot chs_of address_of slot_of some_slot slot_at slot_bytes to_chs to_lba sector_at sectors_of place_at slot_make could_be_one is_bootable has_signature has_options has_names has_slots has_no_message has_whole_message has_message has_zeros is_whole timeout_of table_slots boot_of boot_at
boot_sector_a_boot_sector_with_a_byte_changed_5 = refl

-- a boot sector with a byte changed
pub boot_sector_a_boot_sector_with_a_byte_changed_6 : boot_at (file 512 (piece 0 (hex 69 0xeb7e4c494c4f0100000000000100000032000600bc020200038001005e0000000380010062000000038001006e000000038001005f00000003800100600000000380010061) ∷ piece 113 (hex 1 0x01) ∷ piece 510 (hex 2 0x55aa) ∷ [])) ≡ Err (BadTable 255)
unfolding number16 number32 is_zero has_ranges has_address is_slot is_one_slot chs_of address_of slot_of some_slot slot_at slot_bytes to_chs to_lba sector_at sectors_of place_at slot_make could_be_one is_bootable has_signature has_options has_names has_slots has_no_message has_whole_message has_message has_zeros is_whole timeout_of table_slots boot_of boot_at
boot_sector_a_boot_sector_with_a_byte_changed_6 = refl

-- a boot sector with a byte changed
pub boot_sector_a_boot_sector_with_a_byte_changed_7 : boot_at (file 512 (piece 0 (hex 69 0xeb7e4c494c4f0100000000000100000032000600bc020200008001005e0000000380010062000000038001006e000000038001005f00000003800100600000000380010061) ∷ piece 510 (hex 2 0x55aa) ∷ [])) ≡ Err (BadTable 255)
unfolding number16 number32 is_zero has_ranges has_address is_slot is_one_slot chs_of address_of slot_of some_slot slot_at slot_bytes to_chs to_lba sector_at sectors_of place_at slot_make could_be_one is_bootable has_signature has_options has_names has_slots has_no_message has_whole_message has_message has_zeros is_whole timeout_of table_slots boot_of boot_at
boot_sector_a_boot_sector_with_a_byte_changed_7 = refl

-- a boot sector with a byte changed
pub boot_sector_a_boot_sector_with_a_byte_changed_8 : boot_at (file 512 (piece 0 (hex 69 0xeb7e4c494c4f0100000000000100000032000600bc020200038001005e0000000380010062000000038001006e000000038001005f00000003800100600000000380010061) ∷ piece 126 (hex 1 0x01) ∷ piece 510 (hex 2 0x55aa) ∷ [])) ≡ Err (BadTable 255)
unfolding number16 number32 is_zero has_ranges has_address is_slot is_one_slot chs_of address_of slot_of some_slot slot_at slot_bytes to_chs to_lba sector_at sectors_of place_at slot_make could_be_one is_bootable has_signature has_options has_names has_slots has_no_message has_whole_message has_message has_zeros is_whole timeout_of table_slots boot_of boot_at
boot_sector_a_boot_sector_with_a_byte_changed_8 = refl

-- a boot sector with a byte changed
pub boot_sector_a_boot_sector_with_a_byte_changed_9 : boot_at (file 512 (piece 0 (hex 69 0xeb7e4c494c4f0100000000000100000032000600bc020200038001005e0000000380010062000000038001006e000000038001005f00000003800100600000000380010061) ∷ piece 111 (hex 1 0x02) ∷ piece 510 (hex 2 0x55aa) ∷ [])) ≡ Err (BadTable 255)
unfolding number16 number32 is_zero has_ranges has_address is_slot is_one_slot chs_of address_of slot_of some_slot slot_at slot_bytes to_chs to_lba sector_at sectors_of place_at slot_make could_be_one is_bootable has_signature has_options has_names has_slots has_no_message has_whole_message has_message has_zeros is_whole timeout_of table_slots boot_of boot_at
boot_sector_a_boot_sector_with_a_byte_changed_9 = refl

-- a boot sector with a byte changed
pub boot_sector_a_boot_sector_with_a_byte_changed_10 : boot_at (file 512 (piece 0 (hex 69 0xeb7e4c494c4f0100000000000100000032000600bc020200038001005e0000000380010062000000038001006e000000038001005f00000003800100600000000380010061) ∷ piece 98 (hex 1 0x02) ∷ piece 510 (hex 2 0x55aa) ∷ [])) ≡ Err (BadTable 255)
unfolding number16 number32 is_zero has_ranges has_address is_slot is_one_slot chs_of address_of slot_of some_slot slot_at slot_bytes to_chs to_lba sector_at sectors_of place_at slot_make could_be_one is_bootable has_signature has_options has_names has_slots has_no_message has_whole_message has_message has_zeros is_whole timeout_of table_slots boot_of boot_at
boot_sector_a_boot_sector_with_a_byte_changed_10 = refl

-- a boot sector with two bytes changed
pub boot_sector_a_boot_sector_with_two_bytes_changed_4 : boot_at (file 512 (piece 0 (hex 69 0xeb7e4c494c4f0100000000000100000032000600bc020200038001005e0000000380010062000000038001006e000000038001005f00000003800100600000000380010061) ∷ piece 104 (hex 1 0x01) ∷ piece 510 (hex 2 0x55aa) ∷ [])) ≡ Err (BadTable 255)
unfolding number16 number32 is_zero has_ranges has_address is_slot is_one_slot chs_of address_of slot_of some_slot slot_at slot_bytes to_chs to_lba sector_at sectors_of place_at slot_make could_be_one is_bootable has_signature has_options has_names has_slots has_no_message has_whole_message has_message has_zeros is_whole timeout_of table_slots boot_of boot_at
boot_sector_a_boot_sector_with_two_bytes_changed_4 = refl

-- a boot sector with a byte changed
pub boot_sector_a_boot_sector_with_a_byte_changed_11 : boot_at (file 512 (piece 0 (hex 69 0xeb7e4c494c4f0100000000000100000032000600bc020200038001005e0000000380010062000000030201006e000000038001005f00000003800100600000000380010061) ∷ piece 510 (hex 2 0x55aa) ∷ [])) ≡ Err (BadTable 255)
unfolding number16 number32 is_zero has_ranges has_address is_slot is_one_slot chs_of address_of slot_of some_slot slot_at slot_bytes to_chs to_lba sector_at sectors_of place_at slot_make could_be_one is_bootable has_signature has_options has_names has_slots has_no_message has_whole_message has_message has_zeros is_whole timeout_of table_slots boot_of boot_at
boot_sector_a_boot_sector_with_a_byte_changed_11 = refl

-- a boot sector with two bytes changed
pub boot_sector_a_boot_sector_with_two_bytes_changed_5 : boot_at (file 512 (piece 0 (hex 69 0xeb7e4c494c4f0100000000000100000032000600bc020200038001005e0000000380010062000000038001006e000000038001005f00000003800100600000000380010002) ∷ piece 510 (hex 2 0x55aa) ∷ [])) ≡ Ok (record { version = 1; time = 0; prompt = true; delay = 0; timeout = (Some 50); names = 6; default_entry = 0; message_length = 700; message_chain = 2; line = (record { disk = 0; count = 1; address = Lba32 94 }); zero_sector = (record { disk = 0; count = 1; address = Lba32 98 }); message = (Some (record { disk = 0; count = 1; address = Lba32 110 })); table = ((record { disk = 0; count = 1; address = Lba32 95 }) ∷ (record { disk = 0; count = 1; address = Lba32 96 }) ∷ (record { disk = 0; count = 1; address = Lba32 2 }) ∷ []) })
unfolding number16 number32 is_zero has_ranges has_address is_slot is_one_slot chs_of address_of slot_of some_slot slot_at slot_bytes to_chs to_lba sector_at sectors_of place_at slot_make could_be_one is_bootable has_signature has_options has_names has_slots has_no_message has_whole_message has_message has_zeros is_whole timeout_of table_slots boot_of boot_at
boot_sector_a_boot_sector_with_two_bytes_changed_5 = refl

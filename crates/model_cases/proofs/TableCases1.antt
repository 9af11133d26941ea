-- Cases of the model, written by tools/model_cases.py: the entries of a table.
use Rattle.std.proofs.Common.{◌≡◌, ◌∷◌, [], None, Some, Ok, Err, codes, refl}
use Rattle.lilo_model.specs.BootSector.{is_bootable, has_signature, has_options, has_names, has_slots, has_no_message, has_whole_message, has_message, has_zeros, is_whole, timeout_of, table_slots, boot_of, boot_at, BadTable}
use Rattle.lilo_model.specs.Bytes.{number16, number32, is_zero}
use Rattle.lilo_model.specs.Slots.{has_ranges, has_address, is_slot, is_one_slot, chs_of, address_of, slot_of, some_slot, slot_at, slot_bytes, to_chs, to_lba, sector_at, sectors_of, place_at, slot_make, could_be_one, Chs, Linear, Lba32}
use Rattle.lilo_model.specs.Table.{is_set, entry_name, is_printable, is_name, has_flags, has_video, has_length, has_main, has_initrd, has_extra, is_entry, descriptor_of, entry_bytes, same_name, repeats, breaks, table_at}
use Rattle.model_cases.specs.Sparse.{hex, piece, file}

-- six entries
pub table_six_entries : table_at 6 ((file 512 (piece 0 (codes "linux") ∷ piece 16 (hex 39 0x4000000005040000bc020000038001006300000003800100640000000380010065000000010001) ∷ piece 64 (codes "safe") ∷ piece 80 (hex 27 0x060000000504000000000000038001006600000001800100290001) ∷ piece 116 (hex 15 0x010000000380010068000000747279) ∷ piece 144 (hex 25 0x10000000050400000000000003800100630000000380010069) ∷ piece 180 (hex 16 0x01000000038001006a0000006b656570) ∷ piece 208 (hex 25 0x2800fdff1405000000000000038001006b000000028001006c) ∷ piece 244 (hex 1 0x01) ∷ piece 256 (codes "dos") ∷ piece 272 (hex 25 0x810000000004000000000000038001006d0000000380010070) ∷ piece 308 (hex 1 0x01) ∷ piece 320 (codes "win") ∷ piece 336 (hex 25 0x030000000002000000000000038001006d0000000380010071) ∷ piece 372 (hex 9 0x010000000380010072) ∷ [])) ∷ (file 512 []) ∷ (file 512 []) ∷ []) ≡ Ok ((record { name = (codes "linux"); flags = 0x40; vga = 0; main_length = 1029; initrd_length = 700; options = (record { disk = 0; count = 1; address = Lba32 99 }); first = (record { disk = 0; count = 1; address = Lba32 100 }); initrd = (Some (record { disk = 0; count = 1; address = Lba32 101 })); chain = 1; initrd_chain = 1; extra = None }) ∷ (record { name = (codes "safe"); flags = 0x6; vga = 0; main_length = 1029; initrd_length = 0; options = (record { disk = 0; count = 1; address = Lba32 102 }); first = (record { disk = 0; count = 1; address = Chs 0 1 41 }); initrd = None; chain = 1; initrd_chain = 0; extra = (Some (record { disk = 0; count = 1; address = Lba32 104 })) }) ∷ (record { name = (codes "try"); flags = 0x10; vga = 0; main_length = 1029; initrd_length = 0; options = (record { disk = 0; count = 1; address = Lba32 99 }); first = (record { disk = 0; count = 1; address = Lba32 105 }); initrd = None; chain = 1; initrd_chain = 0; extra = (Some (record { disk = 0; count = 1; address = Lba32 106 })) }) ∷ (record { name = (codes "keep"); flags = 0x28; vga = 65533; main_length = 1300; initrd_length = 0; options = (record { disk = 0; count = 1; address = Lba32 107 }); first = (record { disk = 0; count = 1; address = Linear 108 }); initrd = None; chain = 1; initrd_chain = 0; extra = None }) ∷ (record { name = (codes "dos"); flags = 0x81; vga = 0; main_length = 1024; initrd_length = 0; options = (record { disk = 0; count = 1; address = Lba32 109 }); first = (record { disk = 0; count = 1; address = Lba32 112 }); initrd = None; chain = 1; initrd_chain = 0; extra = None }) ∷ (record { name = (codes "win"); flags = 0x3; vga = 0; main_length = 512; initrd_length = 0; options = (record { disk = 0; count = 1; address = Lba32 109 }); first = (record { disk = 0; count = 1; address = Lba32 113 }); initrd = None; chain = 1; initrd_chain = 0; extra = (Some (record { disk = 0; count = 1; address = Lba32 114 })) }) ∷ [])
unfolding number16 number32 is_zero has_ranges has_address is_slot is_one_slot chs_of address_of slot_of some_slot slot_at slot_bytes to_chs to_lba sector_at sectors_of place_at slot_make could_be_one is_bootable has_signature has_options has_names has_slots has_no_message has_whole_message has_message has_zeros is_whole timeout_of table_slots boot_of boot_at is_set entry_name is_printable is_name has_flags has_video has_length has_main has_initrd has_extra is_entry descriptor_of entry_bytes same_name repeats breaks table_at
table_six_entries = refl

-- the first of six
pub table_the_first_of_six : table_at 1 ((file 512 (piece 0 (codes "linux") ∷ piece 16 (hex 39 0x4000000005040000bc020000038001006300000003800100640000000380010065000000010001) ∷ piece 64 (codes "safe") ∷ piece 80 (hex 27 0x060000000504000000000000038001006600000001800100290001) ∷ piece 116 (hex 15 0x010000000380010068000000747279) ∷ piece 144 (hex 25 0x10000000050400000000000003800100630000000380010069) ∷ piece 180 (hex 16 0x01000000038001006a0000006b656570) ∷ piece 208 (hex 25 0x2800fdff1405000000000000038001006b000000028001006c) ∷ piece 244 (hex 1 0x01) ∷ piece 256 (codes "dos") ∷ piece 272 (hex 25 0x810000000004000000000000038001006d0000000380010070) ∷ piece 308 (hex 1 0x01) ∷ piece 320 (codes "win") ∷ piece 336 (hex 25 0x030000000002000000000000038001006d0000000380010071) ∷ piece 372 (hex 9 0x010000000380010072) ∷ [])) ∷ (file 512 []) ∷ (file 512 []) ∷ []) ≡ Ok ((record { name = (codes "linux"); flags = 0x40; vga = 0; main_length = 1029; initrd_length = 700; options = (record { disk = 0; count = 1; address = Lba32 99 }); first = (record { disk = 0; count = 1; address = Lba32 100 }); initrd = (Some (record { disk = 0; count = 1; address = Lba32 101 })); chain = 1; initrd_chain = 1; extra = None }) ∷ [])
unfolding number16 number32 is_zero has_ranges has_address is_slot is_one_slot chs_of address_of slot_of some_slot slot_at slot_bytes to_chs to_lba sector_at sectors_of place_at slot_make could_be_one is_bootable has_signature has_options has_names has_slots has_no_message has_whole_message has_message has_zeros is_whole timeout_of table_slots boot_of boot_at is_set entry_name is_printable is_name has_flags has_video has_length has_main has_initrd has_extra is_entry descriptor_of entry_bytes same_name repeats breaks table_at
table_the_first_of_six = refl

-- an empty name
pub table_an_empty_name : table_at 6 ((file 512 (piece 16 (hex 39 0x4000000005040000bc020000038001006300000003800100640000000380010065000000010001) ∷ piece 64 (codes "safe") ∷ piece 80 (hex 27 0x060000000504000000000000038001006600000001800100290001) ∷ piece 116 (hex 15 0x010000000380010068000000747279) ∷ piece 144 (hex 25 0x10000000050400000000000003800100630000000380010069) ∷ piece 180 (hex 16 0x01000000038001006a0000006b656570) ∷ piece 208 (hex 25 0x2800fdff1405000000000000038001006b000000028001006c) ∷ piece 244 (hex 1 0x01) ∷ piece 256 (codes "dos") ∷ piece 272 (hex 25 0x810000000004000000000000038001006d0000000380010070) ∷ piece 308 (hex 1 0x01) ∷ piece 320 (codes "win") ∷ piece 336 (hex 25 0x030000000002000000000000038001006d0000000380010071) ∷ piece 372 (hex 9 0x010000000380010072) ∷ [])) ∷ (file 512 []) ∷ (file 512 []) ∷ []) ≡ Err (BadTable 0)
unfolding number16 number32 is_zero has_ranges has_address is_slot is_one_slot chs_of address_of slot_of some_slot slot_at slot_bytes to_chs to_lba sector_at sectors_of place_at slot_make could_be_one is_bootable has_signature has_options has_names has_slots has_no_message has_whole_message has_message has_zeros is_whole timeout_of table_slots boot_of boot_at is_set entry_name is_printable is_name has_flags has_video has_length has_main has_initrd has_extra is_entry descriptor_of entry_bytes same_name repeats breaks table_at
table_an_empty_name = refl

-- a name of 15 bytes
pub table_a_name_of_15_bytes : table_at 6 ((file 512 (piece 0 (hex 55 0x6162636465666768696a6b6c6d6e6f004000000005040000bc020000038001006300000003800100640000000380010065000000010001) ∷ piece 64 (codes "safe") ∷ piece 80 (hex 27 0x060000000504000000000000038001006600000001800100290001) ∷ piece 116 (hex 15 0x010000000380010068000000747279) ∷ piece 144 (hex 25 0x10000000050400000000000003800100630000000380010069) ∷ piece 180 (hex 16 0x01000000038001006a0000006b656570) ∷ piece 208 (hex 25 0x2800fdff1405000000000000038001006b000000028001006c) ∷ piece 244 (hex 1 0x01) ∷ piece 256 (codes "dos") ∷ piece 272 (hex 25 0x810000000004000000000000038001006d0000000380010070) ∷ piece 308 (hex 1 0x01) ∷ piece 320 (codes "win") ∷ piece 336 (hex 25 0x030000000002000000000000038001006d0000000380010071) ∷ piece 372 (hex 9 0x010000000380010072) ∷ [])) ∷ (file 512 []) ∷ (file 512 []) ∷ []) ≡ Ok ((record { name = (codes "abcdefghijklmno"); flags = 0x40; vga = 0; main_length = 1029; initrd_length = 700; options = (record { disk = 0; count = 1; address = Lba32 99 }); first = (record { disk = 0; count = 1; address = Lba32 100 }); initrd = (Some (record { disk = 0; count = 1; address = Lba32 101 })); chain = 1; initrd_chain = 1; extra = None }) ∷ (record { name = (codes "safe"); flags = 0x6; vga = 0; main_length = 1029; initrd_length = 0; options = (record { disk = 0; count = 1; address = Lba32 102 }); first = (record { disk = 0; count = 1; address = Chs 0 1 41 }); initrd = None; chain = 1; initrd_chain = 0; extra = (Some (record { disk = 0; count = 1; address = Lba32 104 })) }) ∷ (record { name = (codes "try"); flags = 0x10; vga = 0; main_length = 1029; initrd_length = 0; options = (record { disk = 0; count = 1; address = Lba32 99 }); first = (record { disk = 0; count = 1; address = Lba32 105 }); initrd = None; chain = 1; initrd_chain = 0; extra = (Some (record { disk = 0; count = 1; address = Lba32 106 })) }) ∷ (record { name = (codes "keep"); flags = 0x28; vga = 65533; main_length = 1300; initrd_length = 0; options = (record { disk = 0; count = 1; address = Lba32 107 }); first = (record { disk = 0; count = 1; address = Linear 108 }); initrd = None; chain = 1; initrd_chain = 0; extra = None }) ∷ (record { name = (codes "dos"); flags = 0x81; vga = 0; main_length = 1024; initrd_length = 0; options = (record { disk = 0; count = 1; address = Lba32 109 }); first = (record { disk = 0; count = 1; address = Lba32 112 }); initrd = None; chain = 1; initrd_chain = 0; extra = None }) ∷ (record { name = (codes "win"); flags = 0x3; vga = 0; main_length = 512; initrd_length = 0; options = (record { disk = 0; count = 1; address = Lba32 109 }); first = (record { disk = 0; count = 1; address = Lba32 113 }); initrd = None; chain = 1; initrd_chain = 0; extra = (Some (record { disk = 0; count = 1; address = Lba32 114 })) }) ∷ [])
unfolding number16 number32 is_zero has_ranges has_address is_slot is_one_slot chs_of address_of slot_of some_slot slot_at slot_bytes to_chs to_lba sector_at sectors_of place_at slot_make could_be_one is_bootable has_signature has_options has_names has_slots has_no_message has_whole_message has_message has_zeros is_whole timeout_of table_slots boot_of boot_at is_set entry_name is_printable is_name has_flags has_video has_length has_main has_initrd has_extra is_entry descriptor_of entry_bytes same_name repeats breaks table_at
table_a_name_of_15_bytes = refl

-- a name of 16 bytes
pub table_a_name_of_16_bytes : table_at 6 ((file 512 (piece 0 (hex 55 0x6162636465666768696a6b6c6d6e6f704000000005040000bc020000038001006300000003800100640000000380010065000000010001) ∷ piece 64 (codes "safe") ∷ piece 80 (hex 27 0x060000000504000000000000038001006600000001800100290001) ∷ piece 116 (hex 15 0x010000000380010068000000747279) ∷ piece 144 (hex 25 0x10000000050400000000000003800100630000000380010069) ∷ piece 180 (hex 16 0x01000000038001006a0000006b656570) ∷ piece 208 (hex 25 0x2800fdff1405000000000000038001006b000000028001006c) ∷ piece 244 (hex 1 0x01) ∷ piece 256 (codes "dos") ∷ piece 272 (hex 25 0x810000000004000000000000038001006d0000000380010070) ∷ piece 308 (hex 1 0x01) ∷ piece 320 (codes "win") ∷ piece 336 (hex 25 0x030000000002000000000000038001006d0000000380010071) ∷ piece 372 (hex 9 0x010000000380010072) ∷ [])) ∷ (file 512 []) ∷ (file 512 []) ∷ []) ≡ Err (BadTable 0)
unfolding number16 number32 is_zero has_ranges has_address is_slot is_one_slot chs_of address_of slot_of some_slot slot_at slot_bytes to_chs to_lba sector_at sectors_of place_at slot_make could_be_one is_bootable has_signature has_options has_names has_slots has_no_message has_whole_message has_message has_zeros is_whole timeout_of table_slots boot_of boot_at is_set entry_name is_printable is_name has_flags has_video has_length has_main has_initrd has_extra is_entry descriptor_of entry_bytes same_name repeats breaks table_at
table_a_name_of_16_bytes = refl

-- a space in a name
pub table_a_space_in_a_name : table_at 6 ((file 512 (piece 0 (codes "li ux") ∷ piece 16 (hex 39 0x4000000005040000bc020000038001006300000003800100640000000380010065000000010001) ∷ piece 64 (codes "safe") ∷ piece 80 (hex 27 0x060000000504000000000000038001006600000001800100290001) ∷ piece 116 (hex 15 0x010000000380010068000000747279) ∷ piece 144 (hex 25 0x10000000050400000000000003800100630000000380010069) ∷ piece 180 (hex 16 0x01000000038001006a0000006b656570) ∷ piece 208 (hex 25 0x2800fdff1405000000000000038001006b000000028001006c) ∷ piece 244 (hex 1 0x01) ∷ piece 256 (codes "dos") ∷ piece 272 (hex 25 0x810000000004000000000000038001006d0000000380010070) ∷ piece 308 (hex 1 0x01) ∷ piece 320 (codes "win") ∷ piece 336 (hex 25 0x030000000002000000000000038001006d0000000380010071) ∷ piece 372 (hex 9 0x010000000380010072) ∷ [])) ∷ (file 512 []) ∷ (file 512 []) ∷ []) ≡ Err (BadTable 0)
unfolding number16 number32 is_zero has_ranges has_address is_slot is_one_slot chs_of address_of slot_of some_slot slot_at slot_bytes to_chs to_lba sector_at sectors_of place_at slot_make could_be_one is_bootable has_signature has_options has_names has_slots has_no_message has_whole_message has_message has_zeros is_whole timeout_of table_slots boot_of boot_at is_set entry_name is_printable is_name has_flags has_video has_length has_main has_initrd has_extra is_entry descriptor_of entry_bytes same_name repeats breaks table_at
table_a_space_in_a_name = refl

-- a byte 0x7F in a name
pub table_a_byte_0x7f_in_a_name : table_at 6 ((file 512 (piece 0 (hex 5 0x6c697f7578) ∷ piece 16 (hex 39 0x4000000005040000bc020000038001006300000003800100640000000380010065000000010001) ∷ piece 64 (codes "safe") ∷ piece 80 (hex 27 0x060000000504000000000000038001006600000001800100290001) ∷ piece 116 (hex 15 0x010000000380010068000000747279) ∷ piece 144 (hex 25 0x10000000050400000000000003800100630000000380010069) ∷ piece 180 (hex 16 0x01000000038001006a0000006b656570) ∷ piece 208 (hex 25 0x2800fdff1405000000000000038001006b000000028001006c) ∷ piece 244 (hex 1 0x01) ∷ piece 256 (codes "dos") ∷ piece 272 (hex 25 0x810000000004000000000000038001006d0000000380010070) ∷ piece 308 (hex 1 0x01) ∷ piece 320 (codes "win") ∷ piece 336 (hex 25 0x030000000002000000000000038001006d0000000380010071) ∷ piece 372 (hex 9 0x010000000380010072) ∷ [])) ∷ (file 512 []) ∷ (file 512 []) ∷ []) ≡ Err (BadTable 0)
unfolding number16 number32 is_zero has_ranges has_address is_slot is_one_slot chs_of address_of slot_of some_slot slot_at slot_bytes to_chs to_lba sector_at sectors_of place_at slot_make could_be_one is_bootable has_signature has_options has_names has_slots has_no_message has_whole_message has_message has_zeros is_whole timeout_of table_slots boot_of boot_at is_set entry_name is_printable is_name has_flags has_video has_length has_main has_initrd has_extra is_entry descriptor_of entry_bytes same_name repeats breaks table_at
table_a_byte_0x7f_in_a_name = refl

-- a byte 0x80 in a name
pub table_a_byte_0x80_in_a_name : table_at 6 ((file 512 (piece 0 (hex 5 0x80696e7578) ∷ piece 16 (hex 39 0x4000000005040000bc020000038001006300000003800100640000000380010065000000010001) ∷ piece 64 (codes "safe") ∷ piece 80 (hex 27 0x060000000504000000000000038001006600000001800100290001) ∷ piece 116 (hex 15 0x010000000380010068000000747279) ∷ piece 144 (hex 25 0x10000000050400000000000003800100630000000380010069) ∷ piece 180 (hex 16 0x01000000038001006a0000006b656570) ∷ piece 208 (hex 25 0x2800fdff1405000000000000038001006b000000028001006c) ∷ piece 244 (hex 1 0x01) ∷ piece 256 (codes "dos") ∷ piece 272 (hex 25 0x810000000004000000000000038001006d0000000380010070) ∷ piece 308 (hex 1 0x01) ∷ piece 320 (codes "win") ∷ piece 336 (hex 25 0x030000000002000000000000038001006d0000000380010071) ∷ piece 372 (hex 9 0x010000000380010072) ∷ [])) ∷ (file 512 []) ∷ (file 512 []) ∷ []) ≡ Err (BadTable 0)
unfolding number16 number32 is_zero has_ranges has_address is_slot is_one_slot chs_of address_of slot_of some_slot slot_at slot_bytes to_chs to_lba sector_at sectors_of place_at slot_make could_be_one is_bootable has_signature has_options has_names has_slots has_no_message has_whole_message has_message has_zeros is_whole timeout_of table_slots boot_of boot_at is_set entry_name is_printable is_name has_flags has_video has_length has_main has_initrd has_extra is_entry descriptor_of entry_bytes same_name repeats breaks table_at
table_a_byte_0x80_in_a_name = refl

-- the greatest byte of a name
pub table_the_greatest_byte_of_a_name : table_at 6 ((file 512 (piece 0 (codes "~inux") ∷ piece 16 (hex 39 0x4000000005040000bc020000038001006300000003800100640000000380010065000000010001) ∷ piece 64 (codes "safe") ∷ piece 80 (hex 27 0x060000000504000000000000038001006600000001800100290001) ∷ piece 116 (hex 15 0x010000000380010068000000747279) ∷ piece 144 (hex 25 0x10000000050400000000000003800100630000000380010069) ∷ piece 180 (hex 16 0x01000000038001006a0000006b656570) ∷ piece 208 (hex 25 0x2800fdff1405000000000000038001006b000000028001006c) ∷ piece 244 (hex 1 0x01) ∷ piece 256 (codes "dos") ∷ piece 272 (hex 25 0x810000000004000000000000038001006d0000000380010070) ∷ piece 308 (hex 1 0x01) ∷ piece 320 (codes "win") ∷ piece 336 (hex 25 0x030000000002000000000000038001006d0000000380010071) ∷ piece 372 (hex 9 0x010000000380010072) ∷ [])) ∷ (file 512 []) ∷ (file 512 []) ∷ []) ≡ Ok ((record { name = (codes "~inux"); flags = 0x40; vga = 0; main_length = 1029; initrd_length = 700; options = (record { disk = 0; count = 1; address = Lba32 99 }); first = (record { disk = 0; count = 1; address = Lba32 100 }); initrd = (Some (record { disk = 0; count = 1; address = Lba32 101 })); chain = 1; initrd_chain = 1; extra = None }) ∷ (record { name = (codes "safe"); flags = 0x6; vga = 0; main_length = 1029; initrd_length = 0; options = (record { disk = 0; count = 1; address = Lba32 102 }); first = (record { disk = 0; count = 1; address = Chs 0 1 41 }); initrd = None; chain = 1; initrd_chain = 0; extra = (Some (record { disk = 0; count = 1; address = Lba32 104 })) }) ∷ (record { name = (codes "try"); flags = 0x10; vga = 0; main_length = 1029; initrd_length = 0; options = (record { disk = 0; count = 1; address = Lba32 99 }); first = (record { disk = 0; count = 1; address = Lba32 105 }); initrd = None; chain = 1; initrd_chain = 0; extra = (Some (record { disk = 0; count = 1; address = Lba32 106 })) }) ∷ (record { name = (codes "keep"); flags = 0x28; vga = 65533; main_length = 1300; initrd_length = 0; options = (record { disk = 0; count = 1; address = Lba32 107 }); first = (record { disk = 0; count = 1; address = Linear 108 }); initrd = None; chain = 1; initrd_chain = 0; extra = None }) ∷ (record { name = (codes "dos"); flags = 0x81; vga = 0; main_length = 1024; initrd_length = 0; options = (record { disk = 0; count = 1; address = Lba32 109 }); first = (record { disk = 0; count = 1; address = Lba32 112 }); initrd = None; chain = 1; initrd_chain = 0; extra = None }) ∷ (record { name = (codes "win"); flags = 0x3; vga = 0; main_length = 512; initrd_length = 0; options = (record { disk = 0; count = 1; address = Lba32 109 }); first = (record { disk = 0; count = 1; address = Lba32 113 }); initrd = None; chain = 1; initrd_chain = 0; extra = (Some (record { disk = 0; count = 1; address = Lba32 114 })) }) ∷ [])
unfolding number16 number32 is_zero has_ranges has_address is_slot is_one_slot chs_of address_of slot_of some_slot slot_at slot_bytes to_chs to_lba sector_at sectors_of place_at slot_make could_be_one is_bootable has_signature has_options has_names has_slots has_no_message has_whole_message has_message has_zeros is_whole timeout_of table_slots boot_of boot_at is_set entry_name is_printable is_name has_flags has_video has_length has_main has_initrd has_extra is_entry descriptor_of entry_bytes same_name repeats breaks table_at
table_the_greatest_byte_of_a_name = refl

-- the least byte of a name
pub table_the_least_byte_of_a_name : table_at 6 ((file 512 (piece 0 (codes "!inux") ∷ piece 16 (hex 39 0x4000000005040000bc020000038001006300000003800100640000000380010065000000010001) ∷ piece 64 (codes "safe") ∷ piece 80 (hex 27 0x060000000504000000000000038001006600000001800100290001) ∷ piece 116 (hex 15 0x010000000380010068000000747279) ∷ piece 144 (hex 25 0x10000000050400000000000003800100630000000380010069) ∷ piece 180 (hex 16 0x01000000038001006a0000006b656570) ∷ piece 208 (hex 25 0x2800fdff1405000000000000038001006b000000028001006c) ∷ piece 244 (hex 1 0x01) ∷ piece 256 (codes "dos") ∷ piece 272 (hex 25 0x810000000004000000000000038001006d0000000380010070) ∷ piece 308 (hex 1 0x01) ∷ piece 320 (codes "win") ∷ piece 336 (hex 25 0x030000000002000000000000038001006d0000000380010071) ∷ piece 372 (hex 9 0x010000000380010072) ∷ [])) ∷ (file 512 []) ∷ (file 512 []) ∷ []) ≡ Ok ((record { name = (codes "!inux"); flags = 0x40; vga = 0; main_length = 1029; initrd_length = 700; options = (record { disk = 0; count = 1; address = Lba32 99 }); first = (record { disk = 0; count = 1; address = Lba32 100 }); initrd = (Some (record { disk = 0; count = 1; address = Lba32 101 })); chain = 1; initrd_chain = 1; extra = None }) ∷ (record { name = (codes "safe"); flags = 0x6; vga = 0; main_length = 1029; initrd_length = 0; options = (record { disk = 0; count = 1; address = Lba32 102 }); first = (record { disk = 0; count = 1; address = Chs 0 1 41 }); initrd = None; chain = 1; initrd_chain = 0; extra = (Some (record { disk = 0; count = 1; address = Lba32 104 })) }) ∷ (record { name = (codes "try"); flags = 0x10; vga = 0; main_length = 1029; initrd_length = 0; options = (record { disk = 0; count = 1; address = Lba32 99 }); first = (record { disk = 0; count = 1; address = Lba32 105 }); initrd = None; chain = 1; initrd_chain = 0; extra = (Some (record { disk = 0; count = 1; address = Lba32 106 })) }) ∷ (record { name = (codes "keep"); flags = 0x28; vga = 65533; main_length = 1300; initrd_length = 0; options = (record { disk = 0; count = 1; address = Lba32 107 }); first = (record { disk = 0; count = 1; address = Linear 108 }); initrd = None; chain = 1; initrd_chain = 0; extra = None }) ∷ (record { name = (codes "dos"); flags = 0x81; vga = 0; main_length = 1024; initrd_length = 0; options = (record { disk = 0; count = 1; address = Lba32 109 }); first = (record { disk = 0; count = 1; address = Lba32 112 }); initrd = None; chain = 1; initrd_chain = 0; extra = None }) ∷ (record { name = (codes "win"); flags = 0x3; vga = 0; main_length = 512; initrd_length = 0; options = (record { disk = 0; count = 1; address = Lba32 109 }); first = (record { disk = 0; count = 1; address = Lba32 113 }); initrd = None; chain = 1; initrd_chain = 0; extra = (Some (record { disk = 0; count = 1; address = Lba32 114 })) }) ∷ [])
unfolding number16 number32 is_zero has_ranges has_address is_slot is_one_slot chs_of address_of slot_of some_slot slot_at slot_bytes to_chs to_lba sector_at sectors_of place_at slot_make could_be_one is_bootable has_signature has_options has_names has_slots has_no_message has_whole_message has_message has_zeros is_whole timeout_of table_slots boot_of boot_at is_set entry_name is_printable is_name has_flags has_video has_length has_main has_initrd has_extra is_entry descriptor_of entry_bytes same_name repeats breaks table_at
table_the_least_byte_of_a_name = refl

-- something after the zero of a name
pub table_something_after_the_zero_of_a_name : table_at 6 ((file 512 (piece 0 (hex 9 0x6c696e757800000078) ∷ piece 16 (hex 39 0x4000000005040000bc020000038001006300000003800100640000000380010065000000010001) ∷ piece 64 (codes "safe") ∷ piece 80 (hex 27 0x060000000504000000000000038001006600000001800100290001) ∷ piece 116 (hex 15 0x010000000380010068000000747279) ∷ piece 144 (hex 25 0x10000000050400000000000003800100630000000380010069) ∷ piece 180 (hex 16 0x01000000038001006a0000006b656570) ∷ piece 208 (hex 25 0x2800fdff1405000000000000038001006b000000028001006c) ∷ piece 244 (hex 1 0x01) ∷ piece 256 (codes "dos") ∷ piece 272 (hex 25 0x810000000004000000000000038001006d0000000380010070) ∷ piece 308 (hex 1 0x01) ∷ piece 320 (codes "win") ∷ piece 336 (hex 25 0x030000000002000000000000038001006d0000000380010071) ∷ piece 372 (hex 9 0x010000000380010072) ∷ [])) ∷ (file 512 []) ∷ (file 512 []) ∷ []) ≡ Err (BadTable 0)
unfolding number16 number32 is_zero has_ranges has_address is_slot is_one_slot chs_of address_of slot_of some_slot slot_at slot_bytes to_chs to_lba sector_at sectors_of place_at slot_make could_be_one is_bootable has_signature has_options has_names has_slots has_no_message has_whole_message has_message has_zeros is_whole timeout_of table_slots boot_of boot_at is_set entry_name is_printable is_name has_flags has_video has_length has_main has_initrd has_extra is_entry descriptor_of entry_bytes same_name repeats breaks table_at
table_something_after_the_zero_of_a_name = refl

-- the name of an earlier entry
pub table_the_name_of_an_earlier_entry : table_at 6 ((file 512 (piece 0 (codes "linux") ∷ piece 16 (hex 39 0x4000000005040000bc020000038001006300000003800100640000000380010065000000010001) ∷ piece 64 (codes "safe") ∷ piece 80 (hex 27 0x060000000504000000000000038001006600000001800100290001) ∷ piece 116 (hex 15 0x010000000380010068000000747279) ∷ piece 144 (hex 25 0x10000000050400000000000003800100630000000380010069) ∷ piece 180 (hex 16 0x01000000038001006a0000006b656570) ∷ piece 208 (hex 25 0x2800fdff1405000000000000038001006b000000028001006c) ∷ piece 244 (hex 1 0x01) ∷ piece 256 (codes "dos") ∷ piece 272 (hex 25 0x810000000004000000000000038001006d0000000380010070) ∷ piece 308 (hex 1 0x01) ∷ piece 320 (codes "linux") ∷ piece 336 (hex 25 0x030000000002000000000000038001006d0000000380010071) ∷ piece 372 (hex 9 0x010000000380010072) ∷ [])) ∷ (file 512 []) ∷ (file 512 []) ∷ []) ≡ Err (BadTable 5)
unfolding number16 number32 is_zero has_ranges has_address is_slot is_one_slot chs_of address_of slot_of some_slot slot_at slot_bytes to_chs to_lba sector_at sectors_of place_at slot_make could_be_one is_bootable has_signature has_options has_names has_slots has_no_message has_whole_message has_message has_zeros is_whole timeout_of table_slots boot_of boot_at is_set entry_name is_printable is_name has_flags has_video has_length has_main has_initrd has_extra is_entry descriptor_of entry_bytes same_name repeats breaks table_at
table_the_name_of_an_earlier_entry = refl

-- the name of an earlier entry in the second
pub table_the_name_of_an_earlier_entry_in_the_second : table_at 6 ((file 512 (piece 0 (codes "linux") ∷ piece 16 (hex 39 0x4000000005040000bc020000038001006300000003800100640000000380010065000000010001) ∷ piece 64 (codes "linux") ∷ piece 80 (hex 27 0x060000000504000000000000038001006600000001800100290001) ∷ piece 116 (hex 15 0x010000000380010068000000747279) ∷ piece 144 (hex 25 0x10000000050400000000000003800100630000000380010069) ∷ piece 180 (hex 16 0x01000000038001006a0000006b656570) ∷ piece 208 (hex 25 0x2800fdff1405000000000000038001006b000000028001006c) ∷ piece 244 (hex 1 0x01) ∷ piece 256 (codes "dos") ∷ piece 272 (hex 25 0x810000000004000000000000038001006d0000000380010070) ∷ piece 308 (hex 1 0x01) ∷ piece 320 (codes "win") ∷ piece 336 (hex 25 0x030000000002000000000000038001006d0000000380010071) ∷ piece 372 (hex 9 0x010000000380010072) ∷ [])) ∷ (file 512 []) ∷ (file 512 []) ∷ []) ≡ Err (BadTable 1)
unfolding number16 number32 is_zero has_ranges has_address is_slot is_one_slot chs_of address_of slot_of some_slot slot_at slot_bytes to_chs to_lba sector_at sectors_of place_at slot_make could_be_one is_bootable has_signature has_options has_names has_slots has_no_message has_whole_message has_message has_zeros is_whole timeout_of table_slots boot_of boot_at is_set entry_name is_printable is_name has_flags has_video has_length has_main has_initrd has_extra is_entry descriptor_of entry_bytes same_name repeats breaks table_at
table_the_name_of_an_earlier_entry_in_the_second = refl

-- a name that goes on from an earlier one
pub table_a_name_that_goes_on_from_an_earlier_one : table_at 6 ((file 512 (piece 0 (codes "linux") ∷ piece 16 (hex 39 0x4000000005040000bc020000038001006300000003800100640000000380010065000000010001) ∷ piece 64 (codes "linux2") ∷ piece 80 (hex 27 0x060000000504000000000000038001006600000001800100290001) ∷ piece 116 (hex 15 0x010000000380010068000000747279) ∷ piece 144 (hex 25 0x10000000050400000000000003800100630000000380010069) ∷ piece 180 (hex 16 0x01000000038001006a0000006b656570) ∷ piece 208 (hex 25 0x2800fdff1405000000000000038001006b000000028001006c) ∷ piece 244 (hex 1 0x01) ∷ piece 256 (codes "dos") ∷ piece 272 (hex 25 0x810000000004000000000000038001006d0000000380010070) ∷ piece 308 (hex 1 0x01) ∷ piece 320 (codes "win") ∷ piece 336 (hex 25 0x030000000002000000000000038001006d0000000380010071) ∷ piece 372 (hex 9 0x010000000380010072) ∷ [])) ∷ (file 512 []) ∷ (file 512 []) ∷ []) ≡ Ok ((record { name = (codes "linux"); flags = 0x40; vga = 0; main_length = 1029; initrd_length = 700; options = (record { disk = 0; count = 1; address = Lba32 99 }); first = (record { disk = 0; count = 1; address = Lba32 100 }); initrd = (Some (record { disk = 0; count = 1; address = Lba32 101 })); chain = 1; initrd_chain = 1; extra = None }) ∷ (record { name = (codes "linux2"); flags = 0x6; vga = 0; main_length = 1029; initrd_length = 0; options = (record { disk = 0; count = 1; address = Lba32 102 }); first = (record { disk = 0; count = 1; address = Chs 0 1 41 }); initrd = None; chain = 1; initrd_chain = 0; extra = (Some (record { disk = 0; count = 1; address = Lba32 104 })) }) ∷ (record { name = (codes "try"); flags = 0x10; vga = 0; main_length = 1029; initrd_length = 0; options = (record { disk = 0; count = 1; address = Lba32 99 }); first = (record { disk = 0; count = 1; address = Lba32 105 }); initrd = None; chain = 1; initrd_chain = 0; extra = (Some (record { disk = 0; count = 1; address = Lba32 106 })) }) ∷ (record { name = (codes "keep"); flags = 0x28; vga = 65533; main_length = 1300; initrd_length = 0; options = (record { disk = 0; count = 1; address = Lba32 107 }); first = (record { disk = 0; count = 1; address = Linear 108 }); initrd = None; chain = 1; initrd_chain = 0; extra = None }) ∷ (record { name = (codes "dos"); flags = 0x81; vga = 0; main_length = 1024; initrd_length = 0; options = (record { disk = 0; count = 1; address = Lba32 109 }); first = (record { disk = 0; count = 1; address = Lba32 112 }); initrd = None; chain = 1; initrd_chain = 0; extra = None }) ∷ (record { name = (codes "win"); flags = 0x3; vga = 0; main_length = 512; initrd_length = 0; options = (record { disk = 0; count = 1; address = Lba32 109 }); first = (record { disk = 0; count = 1; address = Lba32 113 }); initrd = None; chain = 1; initrd_chain = 0; extra = (Some (record { disk = 0; count = 1; address = Lba32 114 })) }) ∷ [])
unfolding number16 number32 is_zero has_ranges has_address is_slot is_one_slot chs_of address_of slot_of some_slot slot_at slot_bytes to_chs to_lba sector_at sectors_of place_at slot_make could_be_one is_bootable has_signature has_options has_names has_slots has_no_message has_whole_message has_message has_zeros is_whole timeout_of table_slots boot_of boot_at is_set entry_name is_printable is_name has_flags has_video has_length has_main has_initrd has_extra is_entry descriptor_of entry_bytes same_name repeats breaks table_at
table_a_name_that_goes_on_from_an_earlier_one = refl

-- an unknown flag
pub table_an_unknown_flag : table_at 6 ((file 512 (piece 0 (codes "linux") ∷ piece 16 (hex 39 0x4001000005040000bc020000038001006300000003800100640000000380010065000000010001) ∷ piece 64 (codes "safe") ∷ piece 80 (hex 27 0x060000000504000000000000038001006600000001800100290001) ∷ piece 116 (hex 15 0x010000000380010068000000747279) ∷ piece 144 (hex 25 0x10000000050400000000000003800100630000000380010069) ∷ piece 180 (hex 16 0x01000000038001006a0000006b656570) ∷ piece 208 (hex 25 0x2800fdff1405000000000000038001006b000000028001006c) ∷ piece 244 (hex 1 0x01) ∷ piece 256 (codes "dos") ∷ piece 272 (hex 25 0x810000000004000000000000038001006d0000000380010070) ∷ piece 308 (hex 1 0x01) ∷ piece 320 (codes "win") ∷ piece 336 (hex 25 0x030000000002000000000000038001006d0000000380010071) ∷ piece 372 (hex 9 0x010000000380010072) ∷ [])) ∷ (file 512 []) ∷ (file 512 []) ∷ []) ≡ Err (BadTable 0)
unfolding number16 number32 is_zero has_ranges has_address is_slot is_one_slot chs_of address_of slot_of some_slot slot_at slot_bytes to_chs to_lba sector_at sectors_of place_at slot_make could_be_one is_bootable has_signature has_options has_names has_slots has_no_message has_whole_message has_message has_zeros is_whole timeout_of table_slots boot_of boot_at is_set entry_name is_printable is_name has_flags has_video has_length has_main has_initrd has_extra is_entry descriptor_of entry_bytes same_name repeats breaks table_at
table_an_unknown_flag = refl

-- lock and fallback
pub table_lock_and_fallback : table_at 6 ((file 512 (piece 0 (codes "linux") ∷ piece 16 (hex 39 0x4000000005040000bc020000038001006300000003800100640000000380010065000000010001) ∷ piece 64 (codes "safe") ∷ piece 80 (hex 27 0x060000000504000000000000038001006600000001800100290001) ∷ piece 116 (hex 15 0x010000000380010068000000747279) ∷ piece 144 (hex 25 0x18000000050400000000000003800100630000000380010069) ∷ piece 180 (hex 16 0x01000000038001006a0000006b656570) ∷ piece 208 (hex 25 0x2800fdff1405000000000000038001006b000000028001006c) ∷ piece 244 (hex 1 0x01) ∷ piece 256 (codes "dos") ∷ piece 272 (hex 25 0x810000000004000000000000038001006d0000000380010070) ∷ piece 308 (hex 1 0x01) ∷ piece 320 (codes "win") ∷ piece 336 (hex 25 0x030000000002000000000000038001006d0000000380010071) ∷ piece 372 (hex 9 0x010000000380010072) ∷ [])) ∷ (file 512 []) ∷ (file 512 []) ∷ []) ≡ Err (BadTable 2)
unfolding number16 number32 is_zero has_ranges has_address is_slot is_one_slot chs_of address_of slot_of some_slot slot_at slot_bytes to_chs to_lba sector_at sectors_of place_at slot_make could_be_one is_bootable has_signature has_options has_names has_slots has_no_message has_whole_message has_message has_zeros is_whole timeout_of table_slots boot_of boot_at is_set entry_name is_printable is_name has_flags has_video has_length has_main has_initrd has_extra is_entry descriptor_of entry_bytes same_name repeats breaks table_at
table_lock_and_fallback = refl

-- restricted without password
pub table_restricted_without_password : table_at 6 ((file 512 (piece 0 (codes "linux") ∷ piece 16 (hex 39 0x4400000005040000bc020000038001006300000003800100640000000380010065000000010001) ∷ piece 64 (codes "safe") ∷ piece 80 (hex 27 0x060000000504000000000000038001006600000001800100290001) ∷ piece 116 (hex 15 0x010000000380010068000000747279) ∷ piece 144 (hex 25 0x10000000050400000000000003800100630000000380010069) ∷ piece 180 (hex 16 0x01000000038001006a0000006b656570) ∷ piece 208 (hex 25 0x2800fdff1405000000000000038001006b000000028001006c) ∷ piece 244 (hex 1 0x01) ∷ piece 256 (codes "dos") ∷ piece 272 (hex 25 0x810000000004000000000000038001006d0000000380010070) ∷ piece 308 (hex 1 0x01) ∷ piece 320 (codes "win") ∷ piece 336 (hex 25 0x030000000002000000000000038001006d0000000380010071) ∷ piece 372 (hex 9 0x010000000380010072) ∷ [])) ∷ (file 512 []) ∷ (file 512 []) ∷ []) ≡ Err (BadTable 0)
unfolding number16 number32 is_zero has_ranges has_address is_slot is_one_slot chs_of address_of slot_of some_slot slot_at slot_bytes to_chs to_lba sector_at sectors_of place_at slot_make could_be_one is_bootable has_signature has_options has_names has_slots has_no_message has_whole_message has_message has_zeros is_whole timeout_of table_slots boot_of boot_at is_set entry_name is_printable is_name has_flags has_video has_length has_main has_initrd has_extra is_entry descriptor_of entry_bytes same_name repeats breaks table_at
table_restricted_without_password = refl

-- table without other
pub table_table_without_other : table_at 6 ((file 512 (piece 0 (codes "linux") ∷ piece 16 (hex 39 0xc000000005040000bc020000038001006300000003800100640000000380010065000000010001) ∷ piece 64 (codes "safe") ∷ piece 80 (hex 27 0x060000000504000000000000038001006600000001800100290001) ∷ piece 116 (hex 15 0x010000000380010068000000747279) ∷ piece 144 (hex 25 0x10000000050400000000000003800100630000000380010069) ∷ piece 180 (hex 16 0x01000000038001006a0000006b656570) ∷ piece 208 (hex 25 0x2800fdff1405000000000000038001006b000000028001006c) ∷ piece 244 (hex 1 0x01) ∷ piece 256 (codes "dos") ∷ piece 272 (hex 25 0x810000000004000000000000038001006d0000000380010070) ∷ piece 308 (hex 1 0x01) ∷ piece 320 (codes "win") ∷ piece 336 (hex 25 0x030000000002000000000000038001006d0000000380010071) ∷ piece 372 (hex 9 0x010000000380010072) ∷ [])) ∷ (file 512 []) ∷ (file 512 []) ∷ []) ≡ Err (BadTable 0)
unfolding number16 number32 is_zero has_ranges has_address is_slot is_one_slot chs_of address_of slot_of some_slot slot_at slot_bytes to_chs to_lba sector_at sectors_of place_at slot_make could_be_one is_bootable has_signature has_options has_names has_slots has_no_message has_whole_message has_message has_zeros is_whole timeout_of table_slots boot_of boot_at is_set entry_name is_printable is_name has_flags has_video has_length has_main has_initrd has_extra is_entry descriptor_of entry_bytes same_name repeats breaks table_at
table_table_without_other = refl

-- other with a video mode
pub table_other_with_a_video_mode : table_at 6 ((file 512 (piece 0 (codes "linux") ∷ piece 16 (hex 39 0x4000000005040000bc020000038001006300000003800100640000000380010065000000010001) ∷ piece 64 (codes "safe") ∷ piece 80 (hex 27 0x060000000504000000000000038001006600000001800100290001) ∷ piece 116 (hex 15 0x010000000380010068000000747279) ∷ piece 144 (hex 25 0x10000000050400000000000003800100630000000380010069) ∷ piece 180 (hex 16 0x01000000038001006a0000006b656570) ∷ piece 208 (hex 25 0x2800fdff1405000000000000038001006b000000028001006c) ∷ piece 244 (hex 1 0x01) ∷ piece 256 (codes "dos") ∷ piece 272 (hex 25 0xa10000000004000000000000038001006d0000000380010070) ∷ piece 308 (hex 1 0x01) ∷ piece 320 (codes "win") ∷ piece 336 (hex 25 0x030000000002000000000000038001006d0000000380010071) ∷ piece 372 (hex 9 0x010000000380010072) ∷ [])) ∷ (file 512 []) ∷ (file 512 []) ∷ []) ≡ Err (BadTable 4)
unfolding number16 number32 is_zero has_ranges has_address is_slot is_one_slot chs_of address_of slot_of some_slot slot_at slot_bytes to_chs to_lba sector_at sectors_of place_at slot_make could_be_one is_bootable has_signature has_options has_names has_slots has_no_message has_whole_message has_message has_zeros is_whole timeout_of table_slots boot_of boot_at is_set entry_name is_printable is_name has_flags has_video has_length has_main has_initrd has_extra is_entry descriptor_of entry_bytes same_name repeats breaks table_at
table_other_with_a_video_mode = refl

-- other with an initrd
pub table_other_with_an_initrd : table_at 6 ((file 512 (piece 0 (codes "linux") ∷ piece 16 (hex 39 0x4000000005040000bc020000038001006300000003800100640000000380010065000000010001) ∷ piece 64 (codes "safe") ∷ piece 80 (hex 27 0x060000000504000000000000038001006600000001800100290001) ∷ piece 116 (hex 15 0x010000000380010068000000747279) ∷ piece 144 (hex 25 0x10000000050400000000000003800100630000000380010069) ∷ piece 180 (hex 16 0x01000000038001006a0000006b656570) ∷ piece 208 (hex 25 0x2800fdff1405000000000000038001006b000000028001006c) ∷ piece 244 (hex 1 0x01) ∷ piece 256 (codes "dos") ∷ piece 272 (hex 25 0xc10000000004000000000000038001006d0000000380010070) ∷ piece 308 (hex 1 0x01) ∷ piece 320 (codes "win") ∷ piece 336 (hex 25 0x030000000002000000000000038001006d0000000380010071) ∷ piece 372 (hex 9 0x010000000380010072) ∷ [])) ∷ (file 512 []) ∷ (file 512 []) ∷ []) ≡ Err (BadTable 4)
unfolding number16 number32 is_zero has_ranges has_address is_slot is_one_slot chs_of address_of slot_of some_slot slot_at slot_bytes to_chs to_lba sector_at sectors_of place_at slot_make could_be_one is_bootable has_signature has_options has_names has_slots has_no_message has_whole_message has_message has_zeros is_whole timeout_of table_slots boot_of boot_at is_set entry_name is_printable is_name has_flags has_video has_length has_main has_initrd has_extra is_entry descriptor_of entry_bytes same_name repeats breaks table_at
table_other_with_an_initrd = refl

-- a video mode without its flag
pub table_a_video_mode_without_its_flag : table_at 6 ((file 512 (piece 0 (codes "linux") ∷ piece 16 (hex 39 0x4000010005040000bc020000038001006300000003800100640000000380010065000000010001) ∷ piece 64 (codes "safe") ∷ piece 80 (hex 27 0x060000000504000000000000038001006600000001800100290001) ∷ piece 116 (hex 15 0x010000000380010068000000747279) ∷ piece 144 (hex 25 0x10000000050400000000000003800100630000000380010069) ∷ piece 180 (hex 16 0x01000000038001006a0000006b656570) ∷ piece 208 (hex 25 0x2800fdff1405000000000000038001006b000000028001006c) ∷ piece 244 (hex 1 0x01) ∷ piece 256 (codes "dos") ∷ piece 272 (hex 25 0x810000000004000000000000038001006d0000000380010070) ∷ piece 308 (hex 1 0x01) ∷ piece 320 (codes "win") ∷ piece 336 (hex 25 0x030000000002000000000000038001006d0000000380010071) ∷ piece 372 (hex 9 0x010000000380010072) ∷ [])) ∷ (file 512 []) ∷ (file 512 []) ∷ []) ≡ Err (BadTable 0)
unfolding number16 number32 is_zero has_ranges has_address is_slot is_one_slot chs_of address_of slot_of some_slot slot_at slot_bytes to_chs to_lba sector_at sectors_of place_at slot_make could_be_one is_bootable has_signature has_options has_names has_slots has_no_message has_whole_message has_message has_zeros is_whole timeout_of table_slots boot_of boot_at is_set entry_name is_printable is_name has_flags has_video has_length has_main has_initrd has_extra is_entry descriptor_of entry_bytes same_name repeats breaks table_at
table_a_video_mode_without_its_flag = refl

-- a video mode of 0 with its flag
pub table_a_video_mode_of_0_with_its_flag : table_at 6 ((file 512 (piece 0 (codes "linux") ∷ piece 16 (hex 39 0x6000000005040000bc020000038001006300000003800100640000000380010065000000010001) ∷ piece 64 (codes "safe") ∷ piece 80 (hex 27 0x060000000504000000000000038001006600000001800100290001) ∷ piece 116 (hex 15 0x010000000380010068000000747279) ∷ piece 144 (hex 25 0x10000000050400000000000003800100630000000380010069) ∷ piece 180 (hex 16 0x01000000038001006a0000006b656570) ∷ piece 208 (hex 25 0x2800fdff1405000000000000038001006b000000028001006c) ∷ piece 244 (hex 1 0x01) ∷ piece 256 (codes "dos") ∷ piece 272 (hex 25 0x810000000004000000000000038001006d0000000380010070) ∷ piece 308 (hex 1 0x01) ∷ piece 320 (codes "win") ∷ piece 336 (hex 25 0x030000000002000000000000038001006d0000000380010071) ∷ piece 372 (hex 9 0x010000000380010072) ∷ [])) ∷ (file 512 []) ∷ (file 512 []) ∷ []) ≡ Ok ((record { name = (codes "linux"); flags = 0x60; vga = 0; main_length = 1029; initrd_length = 700; options = (record { disk = 0; count = 1; address = Lba32 99 }); first = (record { disk = 0; count = 1; address = Lba32 100 }); initrd = (Some (record { disk = 0; count = 1; address = Lba32 101 })); chain = 1; initrd_chain = 1; extra = None }) ∷ (record { name = (codes "safe"); flags = 0x6; vga = 0; main_length = 1029; initrd_length = 0; options = (record { disk = 0; count = 1; address = Lba32 102 }); first = (record { disk = 0; count = 1; address = Chs 0 1 41 }); initrd = None; chain = 1; initrd_chain = 0; extra = (Some (record { disk = 0; count = 1; address = Lba32 104 })) }) ∷ (record { name = (codes "try"); flags = 0x10; vga = 0; main_length = 1029; initrd_length = 0; options = (record { disk = 0; count = 1; address = Lba32 99 }); first = (record { disk = 0; count = 1; address = Lba32 105 }); initrd = None; chain = 1; initrd_chain = 0; extra = (Some (record { disk = 0; count = 1; address = Lba32 106 })) }) ∷ (record { name = (codes "keep"); flags = 0x28; vga = 65533; main_length = 1300; initrd_length = 0; options = (record { disk = 0; count = 1; address = Lba32 107 }); first = (record { disk = 0; count = 1; address = Linear 108 }); initrd = None; chain = 1; initrd_chain = 0; extra = None }) ∷ (record { name = (codes "dos"); flags = 0x81; vga = 0; main_length = 1024; initrd_length = 0; options = (record { disk = 0; count = 1; address = Lba32 109 }); first = (record { disk = 0; count = 1; address = Lba32 112 }); initrd = None; chain = 1; initrd_chain = 0; extra = None }) ∷ (record { name = (codes "win"); flags = 0x3; vga = 0; main_length = 512; initrd_length = 0; options = (record { disk = 0; count = 1; address = Lba32 109 }); first = (record { disk = 0; count = 1; address = Lba32 113 }); initrd = None; chain = 1; initrd_chain = 0; extra = (Some (record { disk = 0; count = 1; address = Lba32 114 })) }) ∷ [])
unfolding number16 number32 is_zero has_ranges has_address is_slot is_one_slot chs_of address_of slot_of some_slot slot_at slot_bytes to_chs to_lba sector_at sectors_of place_at slot_make could_be_one is_bootable has_signature has_options has_names has_slots has_no_message has_whole_message has_message has_zeros is_whole timeout_of table_slots boot_of boot_at is_set entry_name is_printable is_name has_flags has_video has_length has_main has_initrd has_extra is_entry descriptor_of entry_bytes same_name repeats breaks table_at
table_a_video_mode_of_0_with_its_flag = refl

-- an initrd without its slot
pub table_an_initrd_without_its_slot : table_at 6 ((file 512 (piece 0 (codes "linux") ∷ piece 16 (hex 25 0x4000000005040000bc02000003800100630000000380010064) ∷ piece 52 (hex 3 0x010001) ∷ piece 64 (codes "safe") ∷ piece 80 (hex 27 0x060000000504000000000000038001006600000001800100290001) ∷ piece 116 (hex 15 0x010000000380010068000000747279) ∷ piece 144 (hex 25 0x10000000050400000000000003800100630000000380010069) ∷ piece 180 (hex 16 0x01000000038001006a0000006b656570) ∷ piece 208 (hex 25 0x2800fdff1405000000000000038001006b000000028001006c) ∷ piece 244 (hex 1 0x01) ∷ piece 256 (codes "dos") ∷ piece 272 (hex 25 0x810000000004000000000000038001006d0000000380010070) ∷ piece 308 (hex 1 0x01) ∷ piece 320 (codes "win") ∷ piece 336 (hex 25 0x030000000002000000000000038001006d0000000380010071) ∷ piece 372 (hex 9 0x010000000380010072) ∷ [])) ∷ (file 512 []) ∷ (file 512 []) ∷ []) ≡ Err (BadTable 0)
unfolding number16 number32 is_zero has_ranges has_address is_slot is_one_slot chs_of address_of slot_of some_slot slot_at slot_bytes to_chs to_lba sector_at sectors_of place_at slot_make could_be_one is_bootable has_signature has_options has_names has_slots has_no_message has_whole_message has_message has_zeros is_whole timeout_of table_slots boot_of boot_at is_set entry_name is_printable is_name has_flags has_video has_length has_main has_initrd has_extra is_entry descriptor_of entry_bytes same_name repeats breaks table_at
table_an_initrd_without_its_slot = refl

-- an initrd without a section sector
pub table_an_initrd_without_a_section_sector : table_at 6 ((file 512 (piece 0 (codes "linux") ∷ piece 16 (hex 37 0x4000000005040000bc02000003800100630000000380010064000000038001006500000001) ∷ piece 64 (codes "safe") ∷ piece 80 (hex 27 0x060000000504000000000000038001006600000001800100290001) ∷ piece 116 (hex 15 0x010000000380010068000000747279) ∷ piece 144 (hex 25 0x10000000050400000000000003800100630000000380010069) ∷ piece 180 (hex 16 0x01000000038001006a0000006b656570) ∷ piece 208 (hex 25 0x2800fdff1405000000000000038001006b000000028001006c) ∷ piece 244 (hex 1 0x01) ∷ piece 256 (codes "dos") ∷ piece 272 (hex 25 0x810000000004000000000000038001006d0000000380010070) ∷ piece 308 (hex 1 0x01) ∷ piece 320 (codes "win") ∷ piece 336 (hex 25 0x030000000002000000000000038001006d0000000380010071) ∷ piece 372 (hex 9 0x010000000380010072) ∷ [])) ∷ (file 512 []) ∷ (file 512 []) ∷ []) ≡ Err (BadTable 0)
unfolding number16 number32 is_zero has_ranges has_address is_slot is_one_slot chs_of address_of slot_of some_slot slot_at slot_bytes to_chs to_lba sector_at sectors_of place_at slot_make could_be_one is_bootable has_signature has_options has_names has_slots has_no_message has_whole_message has_message has_zeros is_whole timeout_of table_slots boot_of boot_at is_set entry_name is_printable is_name has_flags has_video has_length has_main has_initrd has_extra is_entry descriptor_of entry_bytes same_name repeats breaks table_at
table_an_initrd_without_a_section_sector = refl

-- an initrd without its flag
pub table_an_initrd_without_its_flag : table_at 6 ((file 512 (piece 0 (codes "linux") ∷ piece 20 (hex 35 0x05040000bc020000038001006300000003800100640000000380010065000000010001) ∷ piece 64 (codes "safe") ∷ piece 80 (hex 27 0x060000000504000000000000038001006600000001800100290001) ∷ piece 116 (hex 15 0x010000000380010068000000747279) ∷ piece 144 (hex 25 0x10000000050400000000000003800100630000000380010069) ∷ piece 180 (hex 16 0x01000000038001006a0000006b656570) ∷ piece 208 (hex 25 0x2800fdff1405000000000000038001006b000000028001006c) ∷ piece 244 (hex 1 0x01) ∷ piece 256 (codes "dos") ∷ piece 272 (hex 25 0x810000000004000000000000038001006d0000000380010070) ∷ piece 308 (hex 1 0x01) ∷ piece 320 (codes "win") ∷ piece 336 (hex 25 0x030000000002000000000000038001006d0000000380010071) ∷ piece 372 (hex 9 0x010000000380010072) ∷ [])) ∷ (file 512 []) ∷ (file 512 []) ∷ []) ≡ Err (BadTable 0)
unfolding number16 number32 is_zero has_ranges has_address is_slot is_one_slot chs_of address_of slot_of some_slot slot_at slot_bytes to_chs to_lba sector_at sectors_of place_at slot_make could_be_one is_bootable has_signature has_options has_names has_slots has_no_message has_whole_message has_message has_zeros is_whole timeout_of table_slots boot_of boot_at is_set entry_name is_printable is_name has_flags has_video has_length has_main has_initrd has_extra is_entry descriptor_of entry_bytes same_name repeats breaks table_at
table_an_initrd_without_its_flag = refl

-- a length of no initrd
pub table_a_length_of_no_initrd : table_at 6 ((file 512 (piece 0 (codes "linux") ∷ piece 16 (hex 39 0x4000000005040000bc020000038001006300000003800100640000000380010065000000010001) ∷ piece 64 (codes "safe") ∷ piece 80 (hex 27 0x060000000504000001000000038001006600000001800100290001) ∷ piece 116 (hex 15 0x010000000380010068000000747279) ∷ piece 144 (hex 25 0x10000000050400000000000003800100630000000380010069) ∷ piece 180 (hex 16 0x01000000038001006a0000006b656570) ∷ piece 208 (hex 25 0x2800fdff1405000000000000038001006b000000028001006c) ∷ piece 244 (hex 1 0x01) ∷ piece 256 (codes "dos") ∷ piece 272 (hex 25 0x810000000004000000000000038001006d0000000380010070) ∷ piece 308 (hex 1 0x01) ∷ piece 320 (codes "win") ∷ piece 336 (hex 25 0x030000000002000000000000038001006d0000000380010071) ∷ piece 372 (hex 9 0x010000000380010072) ∷ [])) ∷ (file 512 []) ∷ (file 512 []) ∷ []) ≡ Err (BadTable 1)
unfolding number16 number32 is_zero has_ranges has_address is_slot is_one_slot chs_of address_of slot_of some_slot slot_at slot_bytes to_chs to_lba sector_at sectors_of place_at slot_make could_be_one is_bootable has_signature has_options has_names has_slots has_no_message has_whole_message has_message has_zeros is_whole timeout_of table_slots boot_of boot_at is_set entry_name is_printable is_name has_flags has_video has_length has_main has_initrd has_extra is_entry descriptor_of entry_bytes same_name repeats breaks table_at
table_a_length_of_no_initrd = refl

-- an initrd of no bytes
pub table_an_initrd_of_no_bytes : table_at 6 ((file 512 (piece 0 (codes "linux") ∷ piece 16 (hex 39 0x400000000504000000000000038001006300000003800100640000000380010065000000010001) ∷ piece 64 (codes "safe") ∷ piece 80 (hex 27 0x060000000504000000000000038001006600000001800100290001) ∷ piece 116 (hex 15 0x010000000380010068000000747279) ∷ piece 144 (hex 25 0x10000000050400000000000003800100630000000380010069) ∷ piece 180 (hex 16 0x01000000038001006a0000006b656570) ∷ piece 208 (hex 25 0x2800fdff1405000000000000038001006b000000028001006c) ∷ piece 244 (hex 1 0x01) ∷ piece 256 (codes "dos") ∷ piece 272 (hex 25 0x810000000004000000000000038001006d0000000380010070) ∷ piece 308 (hex 1 0x01) ∷ piece 320 (codes "win") ∷ piece 336 (hex 25 0x030000000002000000000000038001006d0000000380010071) ∷ piece 372 (hex 9 0x010000000380010072) ∷ [])) ∷ (file 512 []) ∷ (file 512 []) ∷ []) ≡ Ok ((record { name = (codes "linux"); flags = 0x40; vga = 0; main_length = 1029; initrd_length = 0; options = (record { disk = 0; count = 1; address = Lba32 99 }); first = (record { disk = 0; count = 1; address = Lba32 100 }); initrd = (Some (record { disk = 0; count = 1; address = Lba32 101 })); chain = 1; initrd_chain = 1; extra = None }) ∷ (record { name = (codes "safe"); flags = 0x6; vga = 0; main_length = 1029; initrd_length = 0; options = (record { disk = 0; count = 1; address = Lba32 102 }); first = (record { disk = 0; count = 1; address = Chs 0 1 41 }); initrd = None; chain = 1; initrd_chain = 0; extra = (Some (record { disk = 0; count = 1; address = Lba32 104 })) }) ∷ (record { name = (codes "try"); flags = 0x10; vga = 0; main_length = 1029; initrd_length = 0; options = (record { disk = 0; count = 1; address = Lba32 99 }); first = (record { disk = 0; count = 1; address = Lba32 105 }); initrd = None; chain = 1; initrd_chain = 0; extra = (Some (record { disk = 0; count = 1; address = Lba32 106 })) }) ∷ (record { name = (codes "keep"); flags = 0x28; vga = 65533; main_length = 1300; initrd_length = 0; options = (record { disk = 0; count = 1; address = Lba32 107 }); first = (record { disk = 0; count = 1; address = Linear 108 }); initrd = None; chain = 1; initrd_chain = 0; extra = None }) ∷ (record { name = (codes "dos"); flags = 0x81; vga = 0; main_length = 1024; initrd_length = 0; options = (record { disk = 0; count = 1; address = Lba32 109 }); first = (record { disk = 0; count = 1; address = Lba32 112 }); initrd = None; chain = 1; initrd_chain = 0; extra = None }) ∷ (record { name = (codes "win"); flags = 0x3; vga = 0; main_length = 512; initrd_length = 0; options = (record { disk = 0; count = 1; address = Lba32 109 }); first = (record { disk = 0; count = 1; address = Lba32 113 }); initrd = None; chain = 1; initrd_chain = 0; extra = (Some (record { disk = 0; count = 1; address = Lba32 114 })) }) ∷ [])
unfolding number16 number32 is_zero has_ranges has_address is_slot is_one_slot chs_of address_of slot_of some_slot slot_at slot_bytes to_chs to_lba sector_at sectors_of place_at slot_make could_be_one is_bootable has_signature has_options has_names has_slots has_no_message has_whole_message has_message has_zeros is_whole timeout_of table_slots boot_of boot_at is_set entry_name is_printable is_name has_flags has_video has_length has_main has_initrd has_extra is_entry descriptor_of entry_bytes same_name repeats breaks table_at
table_an_initrd_of_no_bytes = refl

-- no initrd at all
pub table_no_initrd_at_all : table_at 6 ((file 512 (piece 0 (codes "linux") ∷ piece 20 (hex 21 0x050400000000000003800100630000000380010064) ∷ piece 52 (hex 1 0x01) ∷ piece 64 (codes "safe") ∷ piece 80 (hex 27 0x060000000504000000000000038001006600000001800100290001) ∷ piece 116 (hex 15 0x010000000380010068000000747279) ∷ piece 144 (hex 25 0x10000000050400000000000003800100630000000380010069) ∷ piece 180 (hex 16 0x01000000038001006a0000006b656570) ∷ piece 208 (hex 25 0x2800fdff1405000000000000038001006b000000028001006c) ∷ piece 244 (hex 1 0x01) ∷ piece 256 (codes "dos") ∷ piece 272 (hex 25 0x810000000004000000000000038001006d0000000380010070) ∷ piece 308 (hex 1 0x01) ∷ piece 320 (codes "win") ∷ piece 336 (hex 25 0x030000000002000000000000038001006d0000000380010071) ∷ piece 372 (hex 9 0x010000000380010072) ∷ [])) ∷ (file 512 []) ∷ (file 512 []) ∷ []) ≡ Ok ((record { name = (codes "linux"); flags = 0x0; vga = 0; main_length = 1029; initrd_length = 0; options = (record { disk = 0; count = 1; address = Lba32 99 }); first = (record { disk = 0; count = 1; address = Lba32 100 }); initrd = None; chain = 1; initrd_chain = 0; extra = None }) ∷ (record { name = (codes "safe"); flags = 0x6; vga = 0; main_length = 1029; initrd_length = 0; options = (record { disk = 0; count = 1; address = Lba32 102 }); first = (record { disk = 0; count = 1; address = Chs 0 1 41 }); initrd = None; chain = 1; initrd_chain = 0; extra = (Some (record { disk = 0; count = 1; address = Lba32 104 })) }) ∷ (record { name = (codes "try"); flags = 0x10; vga = 0; main_length = 1029; initrd_length = 0; options = (record { disk = 0; count = 1; address = Lba32 99 }); first = (record { disk = 0; count = 1; address = Lba32 105 }); initrd = None; chain = 1; initrd_chain = 0; extra = (Some (record { disk = 0; count = 1; address = Lba32 106 })) }) ∷ (record { name = (codes "keep"); flags = 0x28; vga = 65533; main_length = 1300; initrd_length = 0; options = (record { disk = 0; count = 1; address = Lba32 107 }); first = (record { disk = 0; count = 1; address = Linear 108 }); initrd = None; chain = 1; initrd_chain = 0; extra = None }) ∷ (record { name = (codes "dos"); flags = 0x81; vga = 0; main_length = 1024; initrd_length = 0; options = (record { disk = 0; count = 1; address = Lba32 109 }); first = (record { disk = 0; count = 1; address = Lba32 112 }); initrd = None; chain = 1; initrd_chain = 0; extra = None }) ∷ (record { name = (codes "win"); flags = 0x3; vga = 0; main_length = 512; initrd_length = 0; options = (record { disk = 0; count = 1; address = Lba32 109 }); first = (record { disk = 0; count = 1; address = Lba32 113 }); initrd = None; chain = 1; initrd_chain = 0; extra = (Some (record { disk = 0; count = 1; address = Lba32 114 })) }) ∷ [])
unfolding number16 number32 is_zero has_ranges has_address is_slot is_one_slot chs_of address_of slot_of some_slot slot_at slot_bytes to_chs to_lba sector_at sectors_of place_at slot_make could_be_one is_bootable has_signature has_options has_names has_slots has_no_message has_whole_message has_message has_zeros is_whole timeout_of table_slots boot_of boot_at is_set entry_name is_printable is_name has_flags has_video has_length has_main has_initrd has_extra is_entry descriptor_of entry_bytes same_name repeats breaks table_at
table_no_initrd_at_all = refl

-- an extra slot that nothing asks for
pub table_an_extra_slot_that_nothing_asks_for : table_at 6 ((file 512 (piece 0 (codes "linux") ∷ piece 16 (hex 52 0x4000000005040000bc02000003800100630000000380010064000000038001006500000001000100038001000900000073616665) ∷ piece 80 (hex 27 0x060000000504000000000000038001006600000001800100290001) ∷ piece 116 (hex 15 0x010000000380010068000000747279) ∷ piece 144 (hex 25 0x10000000050400000000000003800100630000000380010069) ∷ piece 180 (hex 16 0x01000000038001006a0000006b656570) ∷ piece 208 (hex 25 0x2800fdff1405000000000000038001006b000000028001006c) ∷ piece 244 (hex 1 0x01) ∷ piece 256 (codes "dos") ∷ piece 272 (hex 25 0x810000000004000000000000038001006d0000000380010070) ∷ piece 308 (hex 1 0x01) ∷ piece 320 (codes "win") ∷ piece 336 (hex 25 0x030000000002000000000000038001006d0000000380010071) ∷ piece 372 (hex 9 0x010000000380010072) ∷ [])) ∷ (file 512 []) ∷ (file 512 []) ∷ []) ≡ Err (BadTable 0)
unfolding number16 number32 is_zero has_ranges has_address is_slot is_one_slot chs_of address_of slot_of some_slot slot_at slot_bytes to_chs to_lba sector_at sectors_of place_at slot_make could_be_one is_bootable has_signature has_options has_names has_slots has_no_message has_whole_message has_message has_zeros is_whole timeout_of table_slots boot_of boot_at is_set entry_name is_printable is_name has_flags has_video has_length has_main has_initrd has_extra is_entry descriptor_of entry_bytes same_name repeats breaks table_at
table_an_extra_slot_that_nothing_asks_for = refl

-- a password without an extra slot
pub table_a_password_without_an_extra_slot : table_at 6 ((file 512 (piece 0 (codes "linux") ∷ piece 16 (hex 39 0x4000000005040000bc020000038001006300000003800100640000000380010065000000010001) ∷ piece 64 (codes "safe") ∷ piece 80 (hex 27 0x060000000504000000000000038001006600000001800100290001) ∷ piece 116 (hex 1 0x01) ∷ piece 128 (codes "try") ∷ piece 144 (hex 25 0x10000000050400000000000003800100630000000380010069) ∷ piece 180 (hex 16 0x01000000038001006a0000006b656570) ∷ piece 208 (hex 25 0x2800fdff1405000000000000038001006b000000028001006c) ∷ piece 244 (hex 1 0x01) ∷ piece 256 (codes "dos") ∷ piece 272 (hex 25 0x810000000004000000000000038001006d0000000380010070) ∷ piece 308 (hex 1 0x01) ∷ piece 320 (codes "win") ∷ piece 336 (hex 25 0x030000000002000000000000038001006d0000000380010071) ∷ piece 372 (hex 9 0x010000000380010072) ∷ [])) ∷ (file 512 []) ∷ (file 512 []) ∷ []) ≡ Err (BadTable 1)
unfolding number16 number32 is_zero has_ranges has_address is_slot is_one_slot chs_of address_of slot_of some_slot slot_at slot_bytes to_chs to_lba sector_at sectors_of place_at slot_make could_be_one is_bootable has_signature has_options has_names has_slots has_no_message has_whole_message has_message has_zeros is_whole timeout_of table_slots boot_of boot_at is_set entry_name is_printable is_name has_flags has_video has_length has_main has_initrd has_extra is_entry descriptor_of entry_bytes same_name repeats breaks table_at
table_a_password_without_an_extra_slot = refl

-- a fallback without an extra slot
pub table_a_fallback_without_an_extra_slot : table_at 6 ((file 512 (piece 0 (codes "linux") ∷ piece 16 (hex 39 0x4000000005040000bc020000038001006300000003800100640000000380010065000000010001) ∷ piece 64 (codes "safe") ∷ piece 80 (hex 27 0x060000000504000000000000038001006600000001800100290001) ∷ piece 116 (hex 15 0x010000000380010068000000747279) ∷ piece 144 (hex 25 0x10000000050400000000000003800100630000000380010069) ∷ piece 180 (hex 1 0x01) ∷ piece 192 (codes "keep") ∷ piece 208 (hex 25 0x2800fdff1405000000000000038001006b000000028001006c) ∷ piece 244 (hex 1 0x01) ∷ piece 256 (codes "dos") ∷ piece 272 (hex 25 0x810000000004000000000000038001006d0000000380010070) ∷ piece 308 (hex 1 0x01) ∷ piece 320 (codes "win") ∷ piece 336 (hex 25 0x030000000002000000000000038001006d0000000380010071) ∷ piece 372 (hex 9 0x010000000380010072) ∷ [])) ∷ (file 512 []) ∷ (file 512 []) ∷ []) ≡ Err (BadTable 2)
unfolding number16 number32 is_zero has_ranges has_address is_slot is_one_slot chs_of address_of slot_of some_slot slot_at slot_bytes to_chs to_lba sector_at sectors_of place_at slot_make could_be_one is_bootable has_signature has_options has_names has_slots has_no_message has_whole_message has_message has_zeros is_whole timeout_of table_slots boot_of boot_at is_set entry_name is_printable is_name has_flags has_video has_length has_main has_initrd has_extra is_entry descriptor_of entry_bytes same_name repeats breaks table_at
table_a_fallback_without_an_extra_slot = refl

-- an extra slot of two sectors
pub table_an_extra_slot_of_two_sectors : table_at 6 ((file 512 (piece 0 (codes "linux") ∷ piece 16 (hex 39 0x4000000005040000bc020000038001006300000003800100640000000380010065000000010001) ∷ piece 64 (codes "safe") ∷ piece 80 (hex 27 0x060000000504000000000000038001006600000001800100290001) ∷ piece 116 (hex 15 0x010000000380020068000000747279) ∷ piece 144 (hex 25 0x10000000050400000000000003800100630000000380010069) ∷ piece 180 (hex 16 0x01000000038001006a0000006b656570) ∷ piece 208 (hex 25 0x2800fdff1405000000000000038001006b000000028001006c) ∷ piece 244 (hex 1 0x01) ∷ piece 256 (codes "dos") ∷ piece 272 (hex 25 0x810000000004000000000000038001006d0000000380010070) ∷ piece 308 (hex 1 0x01) ∷ piece 320 (codes "win") ∷ piece 336 (hex 25 0x030000000002000000000000038001006d0000000380010071) ∷ piece 372 (hex 9 0x010000000380010072) ∷ [])) ∷ (file 512 []) ∷ (file 512 []) ∷ []) ≡ Err (BadTable 1)
unfolding number16 number32 is_zero has_ranges has_address is_slot is_one_slot chs_of address_of slot_of some_slot slot_at slot_bytes to_chs to_lba sector_at sectors_of place_at slot_make could_be_one is_bootable has_signature has_options has_names has_slots has_no_message has_whole_message has_message has_zeros is_whole timeout_of table_slots boot_of boot_at is_set entry_name is_printable is_name has_flags has_video has_length has_main has_initrd has_extra is_entry descriptor_of entry_bytes same_name repeats breaks table_at
table_an_extra_slot_of_two_sectors = refl

-- a main file of no bytes
pub table_a_main_file_of_no_bytes : table_at 6 ((file 512 (piece 0 (codes "linux") ∷ piece 16 (codes "@") ∷ piece 24 (hex 31 0xbc020000038001006300000003800100640000000380010065000000010001) ∷ piece 64 (codes "safe") ∷ piece 80 (hex 27 0x060000000504000000000000038001006600000001800100290001) ∷ piece 116 (hex 15 0x010000000380010068000000747279) ∷ piece 144 (hex 25 0x10000000050400000000000003800100630000000380010069) ∷ piece 180 (hex 16 0x01000000038001006a0000006b656570) ∷ piece 208 (hex 25 0x2800fdff1405000000000000038001006b000000028001006c) ∷ piece 244 (hex 1 0x01) ∷ piece 256 (codes "dos") ∷ piece 272 (hex 25 0x810000000004000000000000038001006d0000000380010070) ∷ piece 308 (hex 1 0x01) ∷ piece 320 (codes "win") ∷ piece 336 (hex 25 0x030000000002000000000000038001006d0000000380010071) ∷ piece 372 (hex 9 0x010000000380010072) ∷ [])) ∷ (file 512 []) ∷ (file 512 []) ∷ []) ≡ Err (BadTable 0)
unfolding number16 number32 is_zero has_ranges has_address is_slot is_one_slot chs_of address_of slot_of some_slot slot_at slot_bytes to_chs to_lba sector_at sectors_of place_at slot_make could_be_one is_bootable has_signature has_options has_names has_slots has_no_message has_whole_message has_message has_zeros is_whole timeout_of table_slots boot_of boot_at is_set entry_name is_printable is_name has_flags has_video has_length has_main has_initrd has_extra is_entry descriptor_of entry_bytes same_name repeats breaks table_at
table_a_main_file_of_no_bytes = refl

-- no section sector of the main file
pub table_no_section_sector_of_the_main_file : table_at 6 ((file 512 (piece 0 (codes "linux") ∷ piece 16 (hex 39 0x4000000005040000bc020000038001006300000003800100640000000380010065000000000001) ∷ piece 64 (codes "safe") ∷ piece 80 (hex 27 0x060000000504000000000000038001006600000001800100290001) ∷ piece 116 (hex 15 0x010000000380010068000000747279) ∷ piece 144 (hex 25 0x10000000050400000000000003800100630000000380010069) ∷ piece 180 (hex 16 0x01000000038001006a0000006b656570) ∷ piece 208 (hex 25 0x2800fdff1405000000000000038001006b000000028001006c) ∷ piece 244 (hex 1 0x01) ∷ piece 256 (codes "dos") ∷ piece 272 (hex 25 0x810000000004000000000000038001006d0000000380010070) ∷ piece 308 (hex 1 0x01) ∷ piece 320 (codes "win") ∷ piece 336 (hex 25 0x030000000002000000000000038001006d0000000380010071) ∷ piece 372 (hex 9 0x010000000380010072) ∷ [])) ∷ (file 512 []) ∷ (file 512 []) ∷ []) ≡ Err (BadTable 0)
unfolding number16 number32 is_zero has_ranges has_address is_slot is_one_slot chs_of address_of slot_of some_slot slot_at slot_bytes to_chs to_lba sector_at sectors_of place_at slot_make could_be_one is_bootable has_signature has_options has_names has_slots has_no_message has_whole_message has_message has_zeros is_whole timeout_of table_slots boot_of boot_at is_set entry_name is_printable is_name has_flags has_video has_length has_main has_initrd has_extra is_entry descriptor_of entry_bytes same_name repeats breaks table_at
table_no_section_sector_of_the_main_file = refl

-- a main length of one byte
pub table_a_main_length_of_one_byte : table_at 6 ((file 512 (piece 0 (codes "linux") ∷ piece 16 (hex 39 0x4000000001000000bc020000038001006300000003800100640000000380010065000000010001) ∷ piece 64 (codes "safe") ∷ piece 80 (hex 27 0x060000000504000000000000038001006600000001800100290001) ∷ piece 116 (hex 15 0x010000000380010068000000747279) ∷ piece 144 (hex 25 0x10000000050400000000000003800100630000000380010069) ∷ piece 180 (hex 16 0x01000000038001006a0000006b656570) ∷ piece 208 (hex 25 0x2800fdff1405000000000000038001006b000000028001006c) ∷ piece 244 (hex 1 0x01) ∷ piece 256 (codes "dos") ∷ piece 272 (hex 25 0x810000000004000000000000038001006d0000000380010070) ∷ piece 308 (hex 1 0x01) ∷ piece 320 (codes "win") ∷ piece 336 (hex 25 0x030000000002000000000000038001006d0000000380010071) ∷ piece 372 (hex 9 0x010000000380010072) ∷ [])) ∷ (file 512 []) ∷ (file 512 []) ∷ []) ≡ Ok ((record { name = (codes "linux"); flags = 0x40; vga = 0; main_length = 1; initrd_length = 700; options = (record { disk = 0; count = 1; address = Lba32 99 }); first = (record { disk = 0; count = 1; address = Lba32 100 }); initrd = (Some (record { disk = 0; count = 1; address = Lba32 101 })); chain = 1; initrd_chain = 1; extra = None }) ∷ (record { name = (codes "safe"); flags = 0x6; vga = 0; main_length = 1029; initrd_length = 0; options = (record { disk = 0; count = 1; address = Lba32 102 }); first = (record { disk = 0; count = 1; address = Chs 0 1 41 }); initrd = None; chain = 1; initrd_chain = 0; extra = (Some (record { disk = 0; count = 1; address = Lba32 104 })) }) ∷ (record { name = (codes "try"); flags = 0x10; vga = 0; main_length = 1029; initrd_length = 0; options = (record { disk = 0; count = 1; address = Lba32 99 }); first = (record { disk = 0; count = 1; address = Lba32 105 }); initrd = None; chain = 1; initrd_chain = 0; extra = (Some (record { disk = 0; count = 1; address = Lba32 106 })) }) ∷ (record { name = (codes "keep"); flags = 0x28; vga = 65533; main_length = 1300; initrd_length = 0; options = (record { disk = 0; count = 1; address = Lba32 107 }); first = (record { disk = 0; count = 1; address = Linear 108 }); initrd = None; chain = 1; initrd_chain = 0; extra = None }) ∷ (record { name = (codes "dos"); flags = 0x81; vga = 0; main_length = 1024; initrd_length = 0; options = (record { disk = 0; count = 1; address = Lba32 109 }); first = (record { disk = 0; count = 1; address = Lba32 112 }); initrd = None; chain = 1; initrd_chain = 0; extra = None }) ∷ (record { name = (codes "win"); flags = 0x3; vga = 0; main_length = 512; initrd_length = 0; options = (record { disk = 0; count = 1; address = Lba32 109 }); first = (record { disk = 0; count = 1; address = Lba32 113 }); initrd = None; chain = 1; initrd_chain = 0; extra = (Some (record { disk = 0; count = 1; address = Lba32 114 })) }) ∷ [])
unfolding number16 number32 is_zero has_ranges has_address is_slot is_one_slot chs_of address_of slot_of some_slot slot_at slot_bytes to_chs to_lba sector_at sectors_of place_at slot_make could_be_one is_bootable has_signature has_options has_names has_slots has_no_message has_whole_message has_message has_zeros is_whole timeout_of table_slots boot_of boot_at is_set entry_name is_printable is_name has_flags has_video has_length has_main has_initrd has_extra is_entry descriptor_of entry_bytes same_name repeats breaks table_at
table_a_main_length_of_one_byte = refl

-- another system of 511 bytes
pub table_another_system_of_511_bytes : table_at 6 ((file 512 (piece 0 (codes "linux") ∷ piece 16 (hex 39 0x4000000005040000bc020000038001006300000003800100640000000380010065000000010001) ∷ piece 64 (codes "safe") ∷ piece 80 (hex 27 0x060000000504000000000000038001006600000001800100290001) ∷ piece 116 (hex 15 0x010000000380010068000000747279) ∷ piece 144 (hex 25 0x10000000050400000000000003800100630000000380010069) ∷ piece 180 (hex 16 0x01000000038001006a0000006b656570) ∷ piece 208 (hex 25 0x2800fdff1405000000000000038001006b000000028001006c) ∷ piece 244 (hex 1 0x01) ∷ piece 256 (codes "dos") ∷ piece 272 (hex 25 0x810000000004000000000000038001006d0000000380010070) ∷ piece 308 (hex 1 0x01) ∷ piece 320 (codes "win") ∷ piece 336 (hex 25 0x03000000ff01000000000000038001006d0000000380010071) ∷ piece 372 (hex 9 0x010000000380010072) ∷ [])) ∷ (file 512 []) ∷ (file 512 []) ∷ []) ≡ Err (BadTable 5)
unfolding number16 number32 is_zero has_ranges has_address is_slot is_one_slot chs_of address_of slot_of some_slot slot_at slot_bytes to_chs to_lba sector_at sectors_of place_at slot_make could_be_one is_bootable has_signature has_options has_names has_slots has_no_message has_whole_message has_message has_zeros is_whole timeout_of table_slots boot_of boot_at is_set entry_name is_printable is_name has_flags has_video has_length has_main has_initrd has_extra is_entry descriptor_of entry_bytes same_name repeats breaks table_at
table_another_system_of_511_bytes = refl

-- another system of 1024 bytes without a table
pub table_another_system_of_1024_bytes_without_a_table : table_at 6 ((file 512 (piece 0 (codes "linux") ∷ piece 16 (hex 39 0x4000000005040000bc020000038001006300000003800100640000000380010065000000010001) ∷ piece 64 (codes "safe") ∷ piece 80 (hex 27 0x060000000504000000000000038001006600000001800100290001) ∷ piece 116 (hex 15 0x010000000380010068000000747279) ∷ piece 144 (hex 25 0x10000000050400000000000003800100630000000380010069) ∷ piece 180 (hex 16 0x01000000038001006a0000006b656570) ∷ piece 208 (hex 25 0x2800fdff1405000000000000038001006b000000028001006c) ∷ piece 244 (hex 1 0x01) ∷ piece 256 (codes "dos") ∷ piece 272 (hex 25 0x810000000004000000000000038001006d0000000380010070) ∷ piece 308 (hex 1 0x01) ∷ piece 320 (codes "win") ∷ piece 336 (hex 25 0x030000000004000000000000038001006d0000000380010071) ∷ piece 372 (hex 9 0x010000000380010072) ∷ [])) ∷ (file 512 []) ∷ (file 512 []) ∷ []) ≡ Err (BadTable 5)
unfolding number16 number32 is_zero has_ranges has_address is_slot is_one_slot chs_of address_of slot_of some_slot slot_at slot_bytes to_chs to_lba sector_at sectors_of place_at slot_make could_be_one is_bootable has_signature has_options has_names has_slots has_no_message has_whole_message has_message has_zeros is_whole timeout_of table_slots boot_of boot_at is_set entry_name is_printable is_name has_flags has_video has_length has_main has_initrd has_extra is_entry descriptor_of entry_bytes same_name repeats breaks table_at
table_another_system_of_1024_bytes_without_a_table = refl

-- a table with 512 bytes
pub table_a_table_with_512_bytes : table_at 6 ((file 512 (piece 0 (codes "linux") ∷ piece 16 (hex 39 0x4000000005040000bc020000038001006300000003800100640000000380010065000000010001) ∷ piece 64 (codes "safe") ∷ piece 80 (hex 27 0x060000000504000000000000038001006600000001800100290001) ∷ piece 116 (hex 15 0x010000000380010068000000747279) ∷ piece 144 (hex 25 0x10000000050400000000000003800100630000000380010069) ∷ piece 180 (hex 16 0x01000000038001006a0000006b656570) ∷ piece 208 (hex 25 0x2800fdff1405000000000000038001006b000000028001006c) ∷ piece 244 (hex 1 0x01) ∷ piece 256 (codes "dos") ∷ piece 272 (hex 25 0x810000000002000000000000038001006d0000000380010070) ∷ piece 308 (hex 1 0x01) ∷ piece 320 (codes "win") ∷ piece 336 (hex 25 0x030000000002000000000000038001006d0000000380010071) ∷ piece 372 (hex 9 0x010000000380010072) ∷ [])) ∷ (file 512 []) ∷ (file 512 []) ∷ []) ≡ Err (BadTable 4)
unfolding number16 number32 is_zero has_ranges has_address is_slot is_one_slot chs_of address_of slot_of some_slot slot_at slot_bytes to_chs to_lba sector_at sectors_of place_at slot_make could_be_one is_bootable has_signature has_options has_names has_slots has_no_message has_whole_message has_message has_zeros is_whole timeout_of table_slots boot_of boot_at is_set entry_name is_printable is_name has_flags has_video has_length has_main has_initrd has_extra is_entry descriptor_of entry_bytes same_name repeats breaks table_at
table_a_table_with_512_bytes = refl

-- options without a slot
pub table_options_without_a_slot : table_at 6 ((file 512 (piece 0 (codes "linux") ∷ piece 16 (hex 10 0x4000000005040000bc02) ∷ piece 36 (hex 19 0x03800100640000000380010065000000010001) ∷ piece 64 (codes "safe") ∷ piece 80 (hex 27 0x060000000504000000000000038001006600000001800100290001) ∷ piece 116 (hex 15 0x010000000380010068000000747279) ∷ piece 144 (hex 25 0x10000000050400000000000003800100630000000380010069) ∷ piece 180 (hex 16 0x01000000038001006a0000006b656570) ∷ piece 208 (hex 25 0x2800fdff1405000000000000038001006b000000028001006c) ∷ piece 244 (hex 1 0x01) ∷ piece 256 (codes "dos") ∷ piece 272 (hex 25 0x810000000004000000000000038001006d0000000380010070) ∷ piece 308 (hex 1 0x01) ∷ piece 320 (codes "win") ∷ piece 336 (hex 25 0x030000000002000000000000038001006d0000000380010071) ∷ piece 372 (hex 9 0x010000000380010072) ∷ [])) ∷ (file 512 []) ∷ (file 512 []) ∷ []) ≡ Err (BadTable 0)
unfolding number16 number32 is_zero has_ranges has_address is_slot is_one_slot chs_of address_of slot_of some_slot slot_at slot_bytes to_chs to_lba sector_at sectors_of place_at slot_make could_be_one is_bootable has_signature has_options has_names has_slots has_no_message has_whole_message has_message has_zeros is_whole timeout_of table_slots boot_of boot_at is_set entry_name is_printable is_name has_flags has_video has_length has_main has_initrd has_extra is_entry descriptor_of entry_bytes same_name repeats breaks table_at
table_options_without_a_slot = refl

-- options of two sectors
pub table_options_of_two_sectors : table_at 6 ((file 512 (piece 0 (codes "linux") ∷ piece 16 (hex 39 0x4000000005040000bc020000038002006300000003800100640000000380010065000000010001) ∷ piece 64 (codes "safe") ∷ piece 80 (hex 27 0x060000000504000000000000038001006600000001800100290001) ∷ piece 116 (hex 15 0x010000000380010068000000747279) ∷ piece 144 (hex 25 0x10000000050400000000000003800100630000000380010069) ∷ piece 180 (hex 16 0x01000000038001006a0000006b656570) ∷ piece 208 (hex 25 0x2800fdff1405000000000000038001006b000000028001006c) ∷ piece 244 (hex 1 0x01) ∷ piece 256 (codes "dos") ∷ piece 272 (hex 25 0x810000000004000000000000038001006d0000000380010070) ∷ piece 308 (hex 1 0x01) ∷ piece 320 (codes "win") ∷ piece 336 (hex 25 0x030000000002000000000000038001006d0000000380010071) ∷ piece 372 (hex 9 0x010000000380010072) ∷ [])) ∷ (file 512 []) ∷ (file 512 []) ∷ []) ≡ Err (BadTable 0)
unfolding number16 number32 is_zero has_ranges has_address is_slot is_one_slot chs_of address_of slot_of some_slot slot_at slot_bytes to_chs to_lba sector_at sectors_of place_at slot_make could_be_one is_bootable has_signature has_options has_names has_slots has_no_message has_whole_message has_message has_zeros is_whole timeout_of table_slots boot_of boot_at is_set entry_name is_printable is_name has_flags has_video has_length has_main has_initrd has_extra is_entry descriptor_of entry_bytes same_name repeats breaks table_at
table_options_of_two_sectors = refl

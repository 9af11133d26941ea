-- Cases of the model, written by tools/model_cases.py: the entries of a table.
use Rattle.std.proofs.Common.{◌≡◌, ◌∷◌, [], None, Some, Ok, Err, codes, refl}
use Rattle.lilo_model.specs.BootSector.{is_bootable, has_signature, has_options, has_names, has_slots, has_no_message, has_whole_message, has_message, has_zeros, is_whole, timeout_of, table_slots, boot_of, boot_at, BadTable}
use Rattle.lilo_model.specs.Bytes.{number16, number32, is_zero}
use Rattle.lilo_model.specs.Slots.{has_ranges, has_address, is_slot, is_one_slot, chs_of, address_of, slot_of, some_slot, slot_at, slot_bytes, to_chs, to_lba, sector_at, sectors_of, place_at, slot_make, could_be_one, Chs, Linear, Lba32}
use Rattle.lilo_model.specs.Table.{is_set, entry_name, is_printable, is_name, has_flags, has_video, has_length, has_main, has_initrd, has_extra, is_entry, descriptor_of, entry_bytes, same_name, repeats, breaks, table_at}
use Rattle.model_cases.specs.Sparse.{hex, piece, file}

-- a main slot of mode 4
pub table_a_main_slot_of_mode_4 : table_at 6 ((file 512 (piece 0 (codes "linux") ∷ piece 16 (hex 39 0x4000000005040000bc020000038001006300000004800100640000000380010065000000010001) ∷ piece 64 (codes "safe") ∷ piece 80 (hex 27 0x060000000504000000000000038001006600000001800100290001) ∷ piece 116 (hex 15 0x010000000380010068000000747279) ∷ piece 144 (hex 25 0x10000000050400000000000003800100630000000380010069) ∷ piece 180 (hex 16 0x01000000038001006a0000006b656570) ∷ piece 208 (hex 25 0x2800fdff1405000000000000038001006b000000028001006c) ∷ piece 244 (hex 1 0x01) ∷ piece 256 (codes "dos") ∷ piece 272 (hex 25 0x810000000004000000000000038001006d0000000380010070) ∷ piece 308 (hex 1 0x01) ∷ piece 320 (codes "win") ∷ piece 336 (hex 25 0x030000000002000000000000038001006d0000000380010071) ∷ piece 372 (hex 9 0x010000000380010072) ∷ [])) ∷ (file 512 []) ∷ (file 512 []) ∷ []) ≡ Err (BadTable 0)
unfolding number16 number32 is_zero has_ranges has_address is_slot is_one_slot chs_of address_of slot_of some_slot slot_at slot_bytes to_chs to_lba sector_at sectors_of place_at slot_make could_be_one is_bootable has_signature has_options has_names has_slots has_no_message has_whole_message has_message has_zeros is_whole timeout_of table_slots boot_of boot_at is_set entry_name is_printable is_name has_flags has_video has_length has_main has_initrd has_extra is_entry descriptor_of entry_bytes same_name repeats breaks table_at
table_a_main_slot_of_mode_4 = refl

-- a main slot of zeros
pub table_a_main_slot_of_zeros : table_at 6 ((file 512 (piece 0 (codes "linux") ∷ piece 16 (hex 17 0x4000000005040000bc0200000380010063) ∷ piece 44 (hex 11 0x0380010065000000010001) ∷ piece 64 (codes "safe") ∷ piece 80 (hex 27 0x060000000504000000000000038001006600000001800100290001) ∷ piece 116 (hex 15 0x010000000380010068000000747279) ∷ piece 144 (hex 25 0x10000000050400000000000003800100630000000380010069) ∷ piece 180 (hex 16 0x01000000038001006a0000006b656570) ∷ piece 208 (hex 25 0x2800fdff1405000000000000038001006b000000028001006c) ∷ piece 244 (hex 1 0x01) ∷ piece 256 (codes "dos") ∷ piece 272 (hex 25 0x810000000004000000000000038001006d0000000380010070) ∷ piece 308 (hex 1 0x01) ∷ piece 320 (codes "win") ∷ piece 336 (hex 25 0x030000000002000000000000038001006d0000000380010071) ∷ piece 372 (hex 9 0x010000000380010072) ∷ [])) ∷ (file 512 []) ∷ (file 512 []) ∷ []) ≡ Err (BadTable 0)
unfolding number16 number32 is_zero has_ranges has_address is_slot is_one_slot chs_of address_of slot_of some_slot slot_at slot_bytes to_chs to_lba sector_at sectors_of place_at slot_make could_be_one is_bootable has_signature has_options has_names has_slots has_no_message has_whole_message has_message has_zeros is_whole timeout_of table_slots boot_of boot_at is_set entry_name is_printable is_name has_flags has_video has_length has_main has_initrd has_extra is_entry descriptor_of entry_bytes same_name repeats breaks table_at
table_a_main_slot_of_zeros = refl

-- a main slot of count 0
pub table_a_main_slot_of_count_0 : table_at 6 ((file 512 (piece 0 (codes "linux") ∷ piece 16 (hex 39 0x4000000005040000bc020000038001006300000003800000640000000380010065000000010001) ∷ piece 64 (codes "safe") ∷ piece 80 (hex 27 0x060000000504000000000000038001006600000001800100290001) ∷ piece 116 (hex 15 0x010000000380010068000000747279) ∷ piece 144 (hex 25 0x10000000050400000000000003800100630000000380010069) ∷ piece 180 (hex 16 0x01000000038001006a0000006b656570) ∷ piece 208 (hex 25 0x2800fdff1405000000000000038001006b000000028001006c) ∷ piece 244 (hex 1 0x01) ∷ piece 256 (codes "dos") ∷ piece 272 (hex 25 0x810000000004000000000000038001006d0000000380010070) ∷ piece 308 (hex 1 0x01) ∷ piece 320 (codes "win") ∷ piece 336 (hex 25 0x030000000002000000000000038001006d0000000380010071) ∷ piece 372 (hex 9 0x010000000380010072) ∷ [])) ∷ (file 512 []) ∷ (file 512 []) ∷ []) ≡ Err (BadTable 0)
unfolding number16 number32 is_zero has_ranges has_address is_slot is_one_slot chs_of address_of slot_of some_slot slot_at slot_bytes to_chs to_lba sector_at sectors_of place_at slot_make could_be_one is_bootable has_signature has_options has_names has_slots has_no_message has_whole_message has_message has_zeros is_whole timeout_of table_slots boot_of boot_at is_set entry_name is_printable is_name has_flags has_video has_length has_main has_initrd has_extra is_entry descriptor_of entry_bytes same_name repeats breaks table_at
table_a_main_slot_of_count_0 = refl

-- bytes after the last entry
pub table_bytes_after_the_last_entry : table_at 6 ((file 512 (piece 0 (codes "linux") ∷ piece 16 (hex 39 0x4000000005040000bc020000038001006300000003800100640000000380010065000000010001) ∷ piece 64 (codes "safe") ∷ piece 80 (hex 27 0x060000000504000000000000038001006600000001800100290001) ∷ piece 116 (hex 15 0x010000000380010068000000747279) ∷ piece 144 (hex 25 0x10000000050400000000000003800100630000000380010069) ∷ piece 180 (hex 16 0x01000000038001006a0000006b656570) ∷ piece 208 (hex 25 0x2800fdff1405000000000000038001006b000000028001006c) ∷ piece 244 (hex 1 0x01) ∷ piece 256 (codes "dos") ∷ piece 272 (hex 25 0x810000000004000000000000038001006d0000000380010070) ∷ piece 308 (hex 1 0x01) ∷ piece 320 (codes "win") ∷ piece 336 (hex 25 0x030000000002000000000000038001006d0000000380010071) ∷ piece 372 (hex 76 0x010000000380010072000000ffffffffffffffffffffffffffffffffffffffffffffffffffffffffffffffffffffffffffffffffffffffffffffffffffffffffffffffffffffffffffffffff) ∷ [])) ∷ (file 512 []) ∷ (file 512 []) ∷ []) ≡ Ok ((record { name = (codes "linux"); flags = 0x40; vga = 0; main_length = 1029; initrd_length = 700; options = (record { disk = 0; count = 1; address = Lba32 99 }); first = (record { disk = 0; count = 1; address = Lba32 100 }); initrd = (Some (record { disk = 0; count = 1; address = Lba32 101 })); chain = 1; initrd_chain = 1; extra = None }) ∷ (record { name = (codes "safe"); flags = 0x6; vga = 0; main_length = 1029; initrd_length = 0; options = (record { disk = 0; count = 1; address = Lba32 102 }); first = (record { disk = 0; count = 1; address = Chs 0 1 41 }); initrd = None; chain = 1; initrd_chain = 0; extra = (Some (record { disk = 0; count = 1; address = Lba32 104 })) }) ∷ (record { name = (codes "try"); flags = 0x10; vga = 0; main_length = 1029; initrd_length = 0; options = (record { disk = 0; count = 1; address = Lba32 99 }); first = (record { disk = 0; count = 1; address = Lba32 105 }); initrd = None; chain = 1; initrd_chain = 0; extra = (Some (record { disk = 0; count = 1; address = Lba32 106 })) }) ∷ (record { name = (codes "keep"); flags = 0x28; vga = 65533; main_length = 1300; initrd_length = 0; options = (record { disk = 0; count = 1; address = Lba32 107 }); first = (record { disk = 0; count = 1; address = Linear 108 }); initrd = None; chain = 1; initrd_chain = 0; extra = None }) ∷ (record { name = (codes "dos"); flags = 0x81; vga = 0; main_length = 1024; initrd_length = 0; options = (record { disk = 0; count = 1; address = Lba32 109 }); first = (record { disk = 0; count = 1; address = Lba32 112 }); initrd = None; chain = 1; initrd_chain = 0; extra = None }) ∷ (record { name = (codes "win"); flags = 0x3; vga = 0; main_length = 512; initrd_length = 0; options = (record { disk = 0; count = 1; address = Lba32 109 }); first = (record { disk = 0; count = 1; address = Lba32 113 }); initrd = None; chain = 1; initrd_chain = 0; extra = (Some (record { disk = 0; count = 1; address = Lba32 114 })) }) ∷ [])
unfolding number16 number32 is_zero has_ranges has_address is_slot is_one_slot chs_of address_of slot_of some_slot slot_at slot_bytes to_chs to_lba sector_at sectors_of place_at slot_make could_be_one is_bootable has_signature has_options has_names has_slots has_no_message has_whole_message has_message has_zeros is_whole timeout_of table_slots boot_of boot_at is_set entry_name is_printable is_name has_flags has_video has_length has_main has_initrd has_extra is_entry descriptor_of entry_bytes same_name repeats breaks table_at
table_bytes_after_the_last_entry = refl

-- two bad entries, of which the first counts
pub table_two_bad_entries_of_which_the_first_counts : table_at 6 ((file 512 (piece 0 (codes "linux") ∷ piece 16 (hex 39 0x4000000005040000bc020000038001006300000003800100640000000380010065000000010001) ∷ piece 64 (codes "safe") ∷ piece 80 (hex 27 0xffff00000504000000000000038001006600000001800100290001) ∷ piece 116 (hex 15 0x010000000380010068000000747279) ∷ piece 144 (hex 25 0x10000000050400000000000003800100630000000380010069) ∷ piece 180 (hex 16 0x01000000038001006a0000006b656570) ∷ piece 208 (hex 25 0xfffffdff1405000000000000038001006b000000028001006c) ∷ piece 244 (hex 1 0x01) ∷ piece 256 (codes "dos") ∷ piece 272 (hex 25 0x810000000004000000000000038001006d0000000380010070) ∷ piece 308 (hex 1 0x01) ∷ piece 320 (codes "win") ∷ piece 336 (hex 25 0x030000000002000000000000038001006d0000000380010071) ∷ piece 372 (hex 9 0x010000000380010072) ∷ [])) ∷ (file 512 []) ∷ (file 512 []) ∷ []) ≡ Err (BadTable 1)
unfolding number16 number32 is_zero has_ranges has_address is_slot is_one_slot chs_of address_of slot_of some_slot slot_at slot_bytes to_chs to_lba sector_at sectors_of place_at slot_make could_be_one is_bootable has_signature has_options has_names has_slots has_no_message has_whole_message has_message has_zeros is_whole timeout_of table_slots boot_of boot_at is_set entry_name is_printable is_name has_flags has_video has_length has_main has_initrd has_extra is_entry descriptor_of entry_bytes same_name repeats breaks table_at
table_two_bad_entries_of_which_the_first_counts = refl

-- nineteen entries in three sectors
pub table_nineteen_entries_in_three_sectors : table_at 19 ((file 512 (piece 0 (codes "entry00") ∷ piece 20 (hex 21 0x050400000000000003800100630000000380010064) ∷ piece 52 (hex 1 0x01) ∷ piece 64 (codes "entry01") ∷ piece 84 (hex 21 0x050400000000000003800100630000000380010064) ∷ piece 116 (hex 1 0x01) ∷ piece 128 (codes "entry02") ∷ piece 148 (hex 21 0x050400000000000003800100630000000380010064) ∷ piece 180 (hex 1 0x01) ∷ piece 192 (codes "entry03") ∷ piece 212 (hex 21 0x050400000000000003800100630000000380010064) ∷ piece 244 (hex 1 0x01) ∷ piece 256 (codes "entry04") ∷ piece 276 (hex 21 0x050400000000000003800100630000000380010064) ∷ piece 308 (hex 1 0x01) ∷ piece 320 (codes "entry05") ∷ piece 340 (hex 21 0x050400000000000003800100630000000380010064) ∷ piece 372 (hex 1 0x01) ∷ piece 384 (codes "entry06") ∷ piece 404 (hex 21 0x050400000000000003800100630000000380010064) ∷ piece 436 (hex 1 0x01) ∷ piece 448 (codes "entry07") ∷ piece 468 (hex 21 0x050400000000000003800100630000000380010064) ∷ piece 500 (hex 1 0x01) ∷ [])) ∷ (file 512 (piece 0 (codes "entry08") ∷ piece 20 (hex 21 0x050400000000000003800100630000000380010064) ∷ piece 52 (hex 1 0x01) ∷ piece 64 (codes "entry09") ∷ piece 84 (hex 21 0x050400000000000003800100630000000380010064) ∷ piece 116 (hex 1 0x01) ∷ piece 128 (codes "entry10") ∷ piece 148 (hex 21 0x050400000000000003800100630000000380010064) ∷ piece 180 (hex 1 0x01) ∷ piece 192 (codes "entry11") ∷ piece 212 (hex 21 0x050400000000000003800100630000000380010064) ∷ piece 244 (hex 1 0x01) ∷ piece 256 (codes "entry12") ∷ piece 276 (hex 21 0x050400000000000003800100630000000380010064) ∷ piece 308 (hex 1 0x01) ∷ piece 320 (codes "entry13") ∷ piece 340 (hex 21 0x050400000000000003800100630000000380010064) ∷ piece 372 (hex 1 0x01) ∷ piece 384 (codes "entry14") ∷ piece 404 (hex 21 0x050400000000000003800100630000000380010064) ∷ piece 436 (hex 1 0x01) ∷ piece 448 (codes "entry15") ∷ piece 468 (hex 21 0x050400000000000003800100630000000380010064) ∷ piece 500 (hex 1 0x01) ∷ [])) ∷ (file 512 (piece 0 (codes "entry16") ∷ piece 20 (hex 21 0x050400000000000003800100630000000380010064) ∷ piece 52 (hex 1 0x01) ∷ piece 64 (codes "entry17") ∷ piece 84 (hex 21 0x050400000000000003800100630000000380010064) ∷ piece 116 (hex 1 0x01) ∷ piece 128 (codes "entry18") ∷ piece 148 (hex 21 0x050400000000000003800100630000000380010064) ∷ piece 180 (hex 1 0x01) ∷ [])) ∷ []) ≡ Ok ((record { name = (codes "entry00"); flags = 0x0; vga = 0; main_length = 1029; initrd_length = 0; options = (record { disk = 0; count = 1; address = Lba32 99 }); first = (record { disk = 0; count = 1; address = Lba32 100 }); initrd = None; chain = 1; initrd_chain = 0; extra = None }) ∷ (record { name = (codes "entry01"); flags = 0x0; vga = 0; main_length = 1029; initrd_length = 0; options = (record { disk = 0; count = 1; address = Lba32 99 }); first = (record { disk = 0; count = 1; address = Lba32 100 }); initrd = None; chain = 1; initrd_chain = 0; extra = None }) ∷ (record { name = (codes "entry02"); flags = 0x0; vga = 0; main_length = 1029; initrd_length = 0; options = (record { disk = 0; count = 1; address = Lba32 99 }); first = (record { disk = 0; count = 1; address = Lba32 100 }); initrd = None; chain = 1; initrd_chain = 0; extra = None }) ∷ (record { name = (codes "entry03"); flags = 0x0; vga = 0; main_length = 1029; initrd_length = 0; options = (record { disk = 0; count = 1; address = Lba32 99 }); first = (record { disk = 0; count = 1; address = Lba32 100 }); initrd = None; chain = 1; initrd_chain = 0; extra = None }) ∷ (record { name = (codes "entry04"); flags = 0x0; vga = 0; main_length = 1029; initrd_length = 0; options = (record { disk = 0; count = 1; address = Lba32 99 }); first = (record { disk = 0; count = 1; address = Lba32 100 }); initrd = None; chain = 1; initrd_chain = 0; extra = None }) ∷ (record { name = (codes "entry05"); flags = 0x0; vga = 0; main_length = 1029; initrd_length = 0; options = (record { disk = 0; count = 1; address = Lba32 99 }); first = (record { disk = 0; count = 1; address = Lba32 100 }); initrd = None; chain = 1; initrd_chain = 0; extra = None }) ∷ (record { name = (codes "entry06"); flags = 0x0; vga = 0; main_length = 1029; initrd_length = 0; options = (record { disk = 0; count = 1; address = Lba32 99 }); first = (record { disk = 0; count = 1; address = Lba32 100 }); initrd = None; chain = 1; initrd_chain = 0; extra = None }) ∷ (record { name = (codes "entry07"); flags = 0x0; vga = 0; main_length = 1029; initrd_length = 0; options = (record { disk = 0; count = 1; address = Lba32 99 }); first = (record { disk = 0; count = 1; address = Lba32 100 }); initrd = None; chain = 1; initrd_chain = 0; extra = None }) ∷ (record { name = (codes "entry08"); flags = 0x0; vga = 0; main_length = 1029; initrd_length = 0; options = (record { disk = 0; count = 1; address = Lba32 99 }); first = (record { disk = 0; count = 1; address = Lba32 100 }); initrd = None; chain = 1; initrd_chain = 0; extra = None }) ∷ (record { name = (codes "entry09"); flags = 0x0; vga = 0; main_length = 1029; initrd_length = 0; options = (record { disk = 0; count = 1; address = Lba32 99 }); first = (record { disk = 0; count = 1; address = Lba32 100 }); initrd = None; chain = 1; initrd_chain = 0; extra = None }) ∷ (record { name = (codes "entry10"); flags = 0x0; vga = 0; main_length = 1029; initrd_length = 0; options = (record { disk = 0; count = 1; address = Lba32 99 }); first = (record { disk = 0; count = 1; address = Lba32 100 }); initrd = None; chain = 1; initrd_chain = 0; extra = None }) ∷ (record { name = (codes "entry11"); flags = 0x0; vga = 0; main_length = 1029; initrd_length = 0; options = (record { disk = 0; count = 1; address = Lba32 99 }); first = (record { disk = 0; count = 1; address = Lba32 100 }); initrd = None; chain = 1; initrd_chain = 0; extra = None }) ∷ (record { name = (codes "entry12"); flags = 0x0; vga = 0; main_length = 1029; initrd_length = 0; options = (record { disk = 0; count = 1; address = Lba32 99 }); first = (record { disk = 0; count = 1; address = Lba32 100 }); initrd = None; chain = 1; initrd_chain = 0; extra = None }) ∷ (record { name = (codes "entry13"); flags = 0x0; vga = 0; main_length = 1029; initrd_length = 0; options = (record { disk = 0; count = 1; address = Lba32 99 }); first = (record { disk = 0; count = 1; address = Lba32 100 }); initrd = None; chain = 1; initrd_chain = 0; extra = None }) ∷ (record { name = (codes "entry14"); flags = 0x0; vga = 0; main_length = 1029; initrd_length = 0; options = (record { disk = 0; count = 1; address = Lba32 99 }); first = (record { disk = 0; count = 1; address = Lba32 100 }); initrd = None; chain = 1; initrd_chain = 0; extra = None }) ∷ (record { name = (codes "entry15"); flags = 0x0; vga = 0; main_length = 1029; initrd_length = 0; options = (record { disk = 0; count = 1; address = Lba32 99 }); first = (record { disk = 0; count = 1; address = Lba32 100 }); initrd = None; chain = 1; initrd_chain = 0; extra = None }) ∷ (record { name = (codes "entry16"); flags = 0x0; vga = 0; main_length = 1029; initrd_length = 0; options = (record { disk = 0; count = 1; address = Lba32 99 }); first = (record { disk = 0; count = 1; address = Lba32 100 }); initrd = None; chain = 1; initrd_chain = 0; extra = None }) ∷ (record { name = (codes "entry17"); flags = 0x0; vga = 0; main_length = 1029; initrd_length = 0; options = (record { disk = 0; count = 1; address = Lba32 99 }); first = (record { disk = 0; count = 1; address = Lba32 100 }); initrd = None; chain = 1; initrd_chain = 0; extra = None }) ∷ (record { name = (codes "entry18"); flags = 0x0; vga = 0; main_length = 1029; initrd_length = 0; options = (record { disk = 0; count = 1; address = Lba32 99 }); first = (record { disk = 0; count = 1; address = Lba32 100 }); initrd = None; chain = 1; initrd_chain = 0; extra = None }) ∷ [])
unfolding number16 number32 is_zero has_ranges has_address is_slot is_one_slot chs_of address_of slot_of some_slot slot_at slot_bytes to_chs to_lba sector_at sectors_of place_at slot_make could_be_one is_bootable has_signature has_options has_names has_slots has_no_message has_whole_message has_message has_zeros is_whole timeout_of table_slots boot_of boot_at is_set entry_name is_printable is_name has_flags has_video has_length has_main has_initrd has_extra is_entry descriptor_of entry_bytes same_name repeats breaks table_at
table_nineteen_entries_in_three_sectors = refl

-- the nineteenth entry has the name of the first
pub table_the_nineteenth_entry_has_the_name_of_the_first : table_at 19 ((file 512 (piece 0 (codes "entry00") ∷ piece 20 (hex 21 0x050400000000000003800100630000000380010064) ∷ piece 52 (hex 1 0x01) ∷ piece 64 (codes "entry01") ∷ piece 84 (hex 21 0x050400000000000003800100630000000380010064) ∷ piece 116 (hex 1 0x01) ∷ piece 128 (codes "entry02") ∷ piece 148 (hex 21 0x050400000000000003800100630000000380010064) ∷ piece 180 (hex 1 0x01) ∷ piece 192 (codes "entry03") ∷ piece 212 (hex 21 0x050400000000000003800100630000000380010064) ∷ piece 244 (hex 1 0x01) ∷ piece 256 (codes "entry04") ∷ piece 276 (hex 21 0x050400000000000003800100630000000380010064) ∷ piece 308 (hex 1 0x01) ∷ piece 320 (codes "entry05") ∷ piece 340 (hex 21 0x050400000000000003800100630000000380010064) ∷ piece 372 (hex 1 0x01) ∷ piece 384 (codes "entry06") ∷ piece 404 (hex 21 0x050400000000000003800100630000000380010064) ∷ piece 436 (hex 1 0x01) ∷ piece 448 (codes "entry07") ∷ piece 468 (hex 21 0x050400000000000003800100630000000380010064) ∷ piece 500 (hex 1 0x01) ∷ [])) ∷ (file 512 (piece 0 (codes "entry08") ∷ piece 20 (hex 21 0x050400000000000003800100630000000380010064) ∷ piece 52 (hex 1 0x01) ∷ piece 64 (codes "entry09") ∷ piece 84 (hex 21 0x050400000000000003800100630000000380010064) ∷ piece 116 (hex 1 0x01) ∷ piece 128 (codes "entry10") ∷ piece 148 (hex 21 0x050400000000000003800100630000000380010064) ∷ piece 180 (hex 1 0x01) ∷ piece 192 (codes "entry11") ∷ piece 212 (hex 21 0x050400000000000003800100630000000380010064) ∷ piece 244 (hex 1 0x01) ∷ piece 256 (codes "entry12") ∷ piece 276 (hex 21 0x050400000000000003800100630000000380010064) ∷ piece 308 (hex 1 0x01) ∷ piece 320 (codes "entry13") ∷ piece 340 (hex 21 0x050400000000000003800100630000000380010064) ∷ piece 372 (hex 1 0x01) ∷ piece 384 (codes "entry14") ∷ piece 404 (hex 21 0x050400000000000003800100630000000380010064) ∷ piece 436 (hex 1 0x01) ∷ piece 448 (codes "entry15") ∷ piece 468 (hex 21 0x050400000000000003800100630000000380010064) ∷ piece 500 (hex 1 0x01) ∷ [])) ∷ (file 512 (piece 0 (codes "entry16") ∷ piece 20 (hex 21 0x050400000000000003800100630000000380010064) ∷ piece 52 (hex 1 0x01) ∷ piece 64 (codes "entry17") ∷ piece 84 (hex 21 0x050400000000000003800100630000000380010064) ∷ piece 116 (hex 1 0x01) ∷ piece 128 (codes "entry00") ∷ piece 148 (hex 21 0x050400000000000003800100630000000380010064) ∷ piece 180 (hex 1 0x01) ∷ [])) ∷ []) ≡ Err (BadTable 18)
unfolding number16 number32 is_zero has_ranges has_address is_slot is_one_slot chs_of address_of slot_of some_slot slot_at slot_bytes to_chs to_lba sector_at sectors_of place_at slot_make could_be_one is_bootable has_signature has_options has_names has_slots has_no_message has_whole_message has_message has_zeros is_whole timeout_of table_slots boot_of boot_at is_set entry_name is_printable is_name has_flags has_video has_length has_main has_initrd has_extra is_entry descriptor_of entry_bytes same_name repeats breaks table_at
table_the_nineteenth_entry_has_the_name_of_the_first = refl

-- an entry of the third sector is bad
pub table_an_entry_of_the_third_sector_is_bad : table_at 19 ((file 512 (piece 0 (codes "entry00") ∷ piece 20 (hex 21 0x050400000000000003800100630000000380010064) ∷ piece 52 (hex 1 0x01) ∷ piece 64 (codes "entry01") ∷ piece 84 (hex 21 0x050400000000000003800100630000000380010064) ∷ piece 116 (hex 1 0x01) ∷ piece 128 (codes "entry02") ∷ piece 148 (hex 21 0x050400000000000003800100630000000380010064) ∷ piece 180 (hex 1 0x01) ∷ piece 192 (codes "entry03") ∷ piece 212 (hex 21 0x050400000000000003800100630000000380010064) ∷ piece 244 (hex 1 0x01) ∷ piece 256 (codes "entry04") ∷ piece 276 (hex 21 0x050400000000000003800100630000000380010064) ∷ piece 308 (hex 1 0x01) ∷ piece 320 (codes "entry05") ∷ piece 340 (hex 21 0x050400000000000003800100630000000380010064) ∷ piece 372 (hex 1 0x01) ∷ piece 384 (codes "entry06") ∷ piece 404 (hex 21 0x050400000000000003800100630000000380010064) ∷ piece 436 (hex 1 0x01) ∷ piece 448 (codes "entry07") ∷ piece 468 (hex 21 0x050400000000000003800100630000000380010064) ∷ piece 500 (hex 1 0x01) ∷ [])) ∷ (file 512 (piece 0 (codes "entry08") ∷ piece 20 (hex 21 0x050400000000000003800100630000000380010064) ∷ piece 52 (hex 1 0x01) ∷ piece 64 (codes "entry09") ∷ piece 84 (hex 21 0x050400000000000003800100630000000380010064) ∷ piece 116 (hex 1 0x01) ∷ piece 128 (codes "entry10") ∷ piece 148 (hex 21 0x050400000000000003800100630000000380010064) ∷ piece 180 (hex 1 0x01) ∷ piece 192 (codes "entry11") ∷ piece 212 (hex 21 0x050400000000000003800100630000000380010064) ∷ piece 244 (hex 1 0x01) ∷ piece 256 (codes "entry12") ∷ piece 276 (hex 21 0x050400000000000003800100630000000380010064) ∷ piece 308 (hex 1 0x01) ∷ piece 320 (codes "entry13") ∷ piece 340 (hex 21 0x050400000000000003800100630000000380010064) ∷ piece 372 (hex 1 0x01) ∷ piece 384 (codes "entry14") ∷ piece 404 (hex 21 0x050400000000000003800100630000000380010064) ∷ piece 436 (hex 1 0x01) ∷ piece 448 (codes "entry15") ∷ piece 468 (hex 21 0x050400000000000003800100630000000380010064) ∷ piece 500 (hex 1 0x01) ∷ [])) ∷ (file 512 (piece 0 (codes "entry16") ∷ piece 20 (hex 21 0x050400000000000003800100630000000380010064) ∷ piece 52 (hex 1 0x01) ∷ piece 65 (codes "ntry17") ∷ piece 84 (hex 21 0x050400000000000003800100630000000380010064) ∷ piece 116 (hex 1 0x01) ∷ piece 128 (codes "entry18") ∷ piece 148 (hex 21 0x050400000000000003800100630000000380010064) ∷ piece 180 (hex 1 0x01) ∷ [])) ∷ []) ≡ Err (BadTable 17)
unfolding number16 number32 is_zero has_ranges has_address is_slot is_one_slot chs_of address_of slot_of some_slot slot_at slot_bytes to_chs to_lba sector_at sectors_of place_at slot_make could_be_one is_bootable has_signature has_options has_names has_slots has_no_message has_whole_message has_message has_zeros is_whole timeout_of table_slots boot_of boot_at is_set entry_name is_printable is_name has_flags has_video has_length has_main has_initrd has_extra is_entry descriptor_of entry_bytes same_name repeats breaks table_at
table_an_entry_of_the_third_sector_is_bad = refl

-- Cases of the model, written by tools/model_cases.py: a kernel, its initrd and its line in memory.
use Rattle.std.proofs.Common.{◌≡◌, ◌∷◌, [], None, Some, Ok, Err, codes, replicate, refl}
use Rattle.lilo_model.specs.Bytes.{number16, number32, is_zero}
use Rattle.lilo_model.specs.Header.{setup_of, version_of, header_of, header_at, fit_checks, plan_memory, replaced_fields, patch, TooShort, NoInitrd, NoRoom, LineTooLong}
use Rattle.lilo_model.specs.Place.{command_line, written_by, place, kernel_fit}
use Rattle.model_cases.specs.Sparse.{hex, piece, file}

-- a high kernel of protocol 2.06 with an initrd
pub place_a_high_kernel_of_protocol_2_06_with_an_initrd : place (file 1029 (piece 497 (hex 1 0x01) ∷ piece 510 (hex 10 0x55aa0000486472530602) ∷ piece 529 (hex 1 0x01) ∷ piece 556 (hex 4 0xffffff37) ∷ piece 568 (hex 1 0xff) ∷ piece 1024 (codes "HELLO") ∷ [])) (Some (replicate 700 165)) (codes "auto BOOT_IMAGE=linux ro root=301") None 16777216 ≡ Ok (record { layout = (record { real = record { address = 0x90000; size = 1024 }; protected = record { address = 0x100000; size = 5 }; initrd = (Some (record { address = 0xfff000; size = 700 })); line = record { address = 0x99800; size = 34 } }); written = (record { address = 0x90000; bytes = (file 1024 (piece 497 (hex 1 0x01) ∷ piece 510 (hex 10 0x55aa0000486472530602) ∷ piece 528 (hex 2 0x0281) ∷ piece 537 (hex 5 0xf0ff00bc02) ∷ piece 549 (hex 11 0x96000000980900ffffff37) ∷ piece 568 (hex 1 0xff) ∷ [])) } ∷ record { address = 0x100000; bytes = (codes "HELLO") } ∷ record { address = 0xfff000; bytes = (replicate 700 165) } ∷ record { address = 0x99800; bytes = (file 34 (piece 0 (codes "auto BOOT_IMAGE=linux ro root=301") ∷ [])) } ∷ []) })
unfolding number16 number32 is_zero setup_of version_of header_of header_at fit_checks plan_memory replaced_fields patch command_line written_by place kernel_fit
place_a_high_kernel_of_protocol_2_06_with_an_initrd = refl

-- the same without an initrd
pub place_the_same_without_an_initrd : place (file 1029 (piece 497 (hex 1 0x01) ∷ piece 510 (hex 10 0x55aa0000486472530602) ∷ piece 529 (hex 1 0x01) ∷ piece 556 (hex 4 0xffffff37) ∷ piece 568 (hex 1 0xff) ∷ piece 1024 (codes "HELLO") ∷ [])) None (codes "auto BOOT_IMAGE=linux ro root=301") None 16777216 ≡ Ok (record { layout = (record { real = record { address = 0x90000; size = 1024 }; protected = record { address = 0x100000; size = 5 }; initrd = None; line = record { address = 0x99800; size = 34 } }); written = (record { address = 0x90000; bytes = (file 1024 (piece 497 (hex 1 0x01) ∷ piece 510 (hex 10 0x55aa0000486472530602) ∷ piece 528 (hex 2 0x0281) ∷ piece 549 (hex 11 0x96000000980900ffffff37) ∷ piece 568 (hex 1 0xff) ∷ [])) } ∷ record { address = 0x100000; bytes = (codes "HELLO") } ∷ record { address = 0x99800; bytes = (file 34 (piece 0 (codes "auto BOOT_IMAGE=linux ro root=301") ∷ [])) } ∷ []) })
unfolding number16 number32 is_zero setup_of version_of header_of header_at fit_checks plan_memory replaced_fields patch command_line written_by place kernel_fit
place_the_same_without_an_initrd = refl

-- a memory that ends before the kernel does
pub place_a_memory_that_ends_before_the_kernel_does : place (file 1029 (piece 497 (hex 1 0x01) ∷ piece 510 (hex 10 0x55aa0000486472530602) ∷ piece 529 (hex 1 0x01) ∷ piece 556 (hex 4 0xffffff37) ∷ piece 568 (hex 1 0xff) ∷ piece 1024 (codes "HELLO") ∷ [])) None (codes "auto BOOT_IMAGE=linux ro root=301") None 1048576 ≡ Err (NoRoom 1048581 1048576)
unfolding number16 number32 is_zero setup_of version_of header_of header_at fit_checks plan_memory replaced_fields patch command_line written_by place kernel_fit
place_a_memory_that_ends_before_the_kernel_does = refl

-- a kernel without a version
pub place_a_kernel_without_a_version : place (file 1029 (piece 497 (hex 1 0x01) ∷ piece 510 (hex 2 0x55aa) ∷ piece 556 (hex 4 0xffffff37) ∷ piece 568 (hex 1 0xff) ∷ piece 1024 (codes "HELLO") ∷ [])) None (codes "auto BOOT_IMAGE=linux ro root=301") None 16777216 ≡ Ok (record { layout = (record { real = record { address = 0x90000; size = 1024 }; protected = record { address = 0x10000; size = 5 }; initrd = None; line = record { address = 0x99800; size = 34 } }); written = (record { address = 0x90000; bytes = (file 1024 (piece 32 (hex 4 0x3fa30098) ∷ piece 497 (hex 1 0x01) ∷ piece 510 (hex 2 0x55aa) ∷ piece 556 (hex 4 0xffffff37) ∷ piece 568 (hex 1 0xff) ∷ [])) } ∷ record { address = 0x10000; bytes = (codes "HELLO") } ∷ record { address = 0x99800; bytes = (file 34 (piece 0 (codes "auto BOOT_IMAGE=linux ro root=301") ∷ [])) } ∷ []) })
unfolding number16 number32 is_zero setup_of version_of header_of header_at fit_checks plan_memory replaced_fields patch command_line written_by place kernel_fit
place_a_kernel_without_a_version = refl

-- a kernel without a version can take no initrd
pub place_a_kernel_without_a_version_can_take_no_initrd : place (file 1029 (piece 497 (hex 1 0x01) ∷ piece 510 (hex 2 0x55aa) ∷ piece 556 (hex 4 0xffffff37) ∷ piece 568 (hex 1 0xff) ∷ piece 1024 (codes "HELLO") ∷ [])) (Some (replicate 700 165)) (codes "auto BOOT_IMAGE=linux ro root=301") None 16777216 ≡ Err NoInitrd
unfolding number16 number32 is_zero setup_of version_of header_of header_at fit_checks plan_memory replaced_fields patch command_line written_by place kernel_fit
place_a_kernel_without_a_version_can_take_no_initrd = refl

-- no number of setup sectors means four
pub place_no_number_of_setup_sectors_means_four : place (file 2565 (piece 510 (hex 10 0x55aa0000486472530602) ∷ piece 529 (hex 1 0x01) ∷ piece 556 (hex 4 0xffffff37) ∷ piece 568 (hex 1 0xff) ∷ piece 2560 (codes "HELLO") ∷ [])) None (codes "auto BOOT_IMAGE=linux ro root=301") None 16777216 ≡ Ok (record { layout = (record { real = record { address = 0x90000; size = 2560 }; protected = record { address = 0x100000; size = 5 }; initrd = None; line = record { address = 0x99800; size = 34 } }); written = (record { address = 0x90000; bytes = (file 2560 (piece 510 (hex 10 0x55aa0000486472530602) ∷ piece 528 (hex 2 0x0281) ∷ piece 549 (hex 11 0x96000000980900ffffff37) ∷ piece 568 (hex 1 0xff) ∷ [])) } ∷ record { address = 0x100000; bytes = (codes "HELLO") } ∷ record { address = 0x99800; bytes = (file 34 (piece 0 (codes "auto BOOT_IMAGE=linux ro root=301") ∷ [])) } ∷ []) })
unfolding number16 number32 is_zero setup_of version_of header_of header_at fit_checks plan_memory replaced_fields patch command_line written_by place kernel_fit
place_no_number_of_setup_sectors_means_four = refl

-- a kernel one byte shorter than its setup
pub place_a_kernel_one_byte_shorter_than_its_setup : place (file 2559 (piece 510 (hex 10 0x55aa0000486472530602) ∷ piece 529 (hex 1 0x01) ∷ piece 556 (hex 4 0xffffff37) ∷ piece 568 (hex 1 0xff) ∷ [])) None (codes "auto BOOT_IMAGE=linux ro root=301") None 16777216 ≡ Err TooShort
unfolding number16 number32 is_zero setup_of version_of header_of header_at fit_checks plan_memory replaced_fields patch command_line written_by place kernel_fit
place_a_kernel_one_byte_shorter_than_its_setup = refl

-- a video mode
pub place_a_video_mode : place (file 1029 (piece 497 (hex 1 0x01) ∷ piece 510 (hex 10 0x55aa0000486472530602) ∷ piece 529 (hex 1 0x01) ∷ piece 556 (hex 4 0xffffff37) ∷ piece 568 (hex 1 0xff) ∷ piece 1024 (codes "HELLO") ∷ [])) None (codes "auto BOOT_IMAGE=linux ro root=301") (Some 65533) 16777216 ≡ Ok (record { layout = (record { real = record { address = 0x90000; size = 1024 }; protected = record { address = 0x100000; size = 5 }; initrd = None; line = record { address = 0x99800; size = 34 } }); written = (record { address = 0x90000; bytes = (file 1024 (piece 497 (hex 1 0x01) ∷ piece 506 (hex 14 0xfdff000055aa0000486472530602) ∷ piece 528 (hex 2 0x0281) ∷ piece 549 (hex 11 0x96000000980900ffffff37) ∷ piece 568 (hex 1 0xff) ∷ [])) } ∷ record { address = 0x100000; bytes = (codes "HELLO") } ∷ record { address = 0x99800; bytes = (file 34 (piece 0 (codes "auto BOOT_IMAGE=linux ro root=301") ∷ [])) } ∷ []) })
unfolding number16 number32 is_zero setup_of version_of header_of header_at fit_checks plan_memory replaced_fields patch command_line written_by place kernel_fit
place_a_video_mode = refl

-- a line of 255 bytes
pub place_a_line_of_255_bytes : place (file 1029 (piece 497 (hex 1 0x01) ∷ piece 510 (hex 10 0x55aa0000486472530602) ∷ piece 529 (hex 1 0x01) ∷ piece 556 (hex 4 0xffffff37) ∷ piece 568 (hex 1 0xff) ∷ piece 1024 (codes "HELLO") ∷ [])) None (replicate 255 120) None 16777216 ≡ Ok (record { layout = (record { real = record { address = 0x90000; size = 1024 }; protected = record { address = 0x100000; size = 5 }; initrd = None; line = record { address = 0x99800; size = 256 } }); written = (record { address = 0x90000; bytes = (file 1024 (piece 497 (hex 1 0x01) ∷ piece 510 (hex 10 0x55aa0000486472530602) ∷ piece 528 (hex 2 0x0281) ∷ piece 549 (hex 11 0x96000000980900ffffff37) ∷ piece 568 (hex 1 0xff) ∷ [])) } ∷ record { address = 0x100000; bytes = (codes "HELLO") } ∷ record { address = 0x99800; bytes = (file 256 (piece 0 (replicate 255 120) ∷ [])) } ∷ []) })
unfolding number16 number32 is_zero setup_of version_of header_of header_at fit_checks plan_memory replaced_fields patch command_line written_by place kernel_fit
place_a_line_of_255_bytes = refl

-- a line of 256 bytes
pub place_a_line_of_256_bytes : place (file 1029 (piece 497 (hex 1 0x01) ∷ piece 510 (hex 10 0x55aa0000486472530602) ∷ piece 529 (hex 1 0x01) ∷ piece 556 (hex 4 0xffffff37) ∷ piece 568 (hex 1 0xff) ∷ piece 1024 (codes "HELLO") ∷ [])) None (replicate 256 120) None 16777216 ≡ Err (LineTooLong 256)
unfolding number16 number32 is_zero setup_of version_of header_of header_at fit_checks plan_memory replaced_fields patch command_line written_by place kernel_fit
place_a_line_of_256_bytes = refl

-- a kernel of 511 bytes
pub place_a_kernel_of_511_bytes : place (file 511 (piece 497 (hex 1 0x01) ∷ piece 510 (codes "U") ∷ [])) None (codes "auto BOOT_IMAGE=linux ro root=301") None 16777216 ≡ Err TooShort
unfolding number16 number32 is_zero setup_of version_of header_of header_at fit_checks plan_memory replaced_fields patch command_line written_by place kernel_fit
place_a_kernel_of_511_bytes = refl

-- a kernel of 512 bytes
pub place_a_kernel_of_512_bytes : place (file 512 (piece 497 (hex 1 0x01) ∷ piece 510 (hex 2 0x55aa) ∷ [])) None (codes "auto BOOT_IMAGE=linux ro root=301") None 16777216 ≡ Err TooShort
unfolding number16 number32 is_zero setup_of version_of header_of header_at fit_checks plan_memory replaced_fields patch command_line written_by place kernel_fit
place_a_kernel_of_512_bytes = refl

-- a kernel of two sectors with nothing after it
pub place_a_kernel_of_two_sectors_with_nothing_after_it : place (file 1024 (piece 497 (hex 1 0x01) ∷ piece 510 (hex 10 0x55aa0000486472530602) ∷ piece 529 (hex 1 0x01) ∷ piece 556 (hex 4 0xffffff37) ∷ piece 568 (hex 1 0xff) ∷ [])) None (codes "auto BOOT_IMAGE=linux ro root=301") None 16777216 ≡ Ok (record { layout = (record { real = record { address = 0x90000; size = 1024 }; protected = record { address = 0x100000; size = 0 }; initrd = None; line = record { address = 0x99800; size = 34 } }); written = (record { address = 0x90000; bytes = (file 1024 (piece 497 (hex 1 0x01) ∷ piece 510 (hex 10 0x55aa0000486472530602) ∷ piece 528 (hex 2 0x0281) ∷ piece 549 (hex 11 0x96000000980900ffffff37) ∷ piece 568 (hex 1 0xff) ∷ [])) } ∷ record { address = 0x100000; bytes = (file 0 []) } ∷ record { address = 0x99800; bytes = (file 34 (piece 0 (codes "auto BOOT_IMAGE=linux ro root=301") ∷ [])) } ∷ []) })
unfolding number16 number32 is_zero setup_of version_of header_of header_at fit_checks plan_memory replaced_fields patch command_line written_by place kernel_fit
place_a_kernel_of_two_sectors_with_nothing_after_it = refl

-- a file with nothing in it
pub place_a_file_with_nothing_in_it : place (file 0 []) None (codes "auto BOOT_IMAGE=linux ro root=301") None 16777216 ≡ Err TooShort
unfolding number16 number32 is_zero setup_of version_of header_of header_at fit_checks plan_memory replaced_fields patch command_line written_by place kernel_fit
place_a_file_with_nothing_in_it = refl

-- a kernel of 1600 bytes with an initrd of 700: it is refused
pub place_a_kernel_of_1600_bytes_with_an_initrd_of_700_it_is_refused : place (file 1600 (piece 182 (codes "9") ∷ piece 439 (codes "i") ∷ piece 459 (hex 1 0x09) ∷ piece 497 (hex 1 0x01) ∷ piece 510 (hex 2 0x55aa) ∷ piece 529 (codes " ") ∷ piece 557 (hex 2 0x1010) ∷ piece 568 (hex 1 0xff) ∷ piece 1126 (codes "l") ∷ piece 1599 (hex 1 0x07) ∷ [])) (Some (replicate 700 165)) (replicate 21 120) None 1052672 ≡ Err NoInitrd
unfolding number16 number32 is_zero setup_of version_of header_of header_at fit_checks plan_memory replaced_fields patch command_line written_by place kernel_fit
place_a_kernel_of_1600_bytes_with_an_initrd_of_700_it_is_refused = refl

-- a kernel of 2565 bytes with an initrd of 700: it is placed
pub place_a_kernel_of_2565_bytes_with_an_initrd_of_700_it_is_placed : place (file 2565 (piece 497 (hex 1 0x01) ∷ piece 510 (hex 10 0x55aa0000486472530602) ∷ piece 529 (hex 1 0x01) ∷ piece 556 (hex 3 0xffff1f) ∷ piece 568 (hex 2 0xff07) ∷ piece 711 (codes "+") ∷ piece 720 (hex 1 0xdd) ∷ piece 840 (hex 1 0xfa) ∷ piece 1905 (hex 1 0x90) ∷ piece 2564 (hex 1 0x07) ∷ [])) (Some (replicate 700 165)) (codes "auto BOOT_IMAGE=linux ro root=301") (Some 65535) 16777216 ≡ Ok (record { layout = (record { real = record { address = 0x90000; size = 1024 }; protected = record { address = 0x100000; size = 1541 }; initrd = (Some (record { address = 0x1ff000; size = 700 })); line = record { address = 0x99800; size = 34 } }); written = (record { address = 0x90000; bytes = (file 1024 (piece 497 (hex 1 0x01) ∷ piece 506 (hex 14 0xffff000055aa0000486472530602) ∷ piece 528 (hex 2 0x0281) ∷ piece 537 (hex 5 0xf01f00bc02) ∷ piece 549 (hex 10 0x96000000980900ffff1f) ∷ piece 568 (hex 2 0xff07) ∷ piece 711 (codes "+") ∷ piece 720 (hex 1 0xdd) ∷ piece 840 (hex 1 0xfa) ∷ [])) } ∷ record { address = 0x100000; bytes = (file 1541 (piece 881 (hex 1 0x90) ∷ piece 1540 (hex 1 0x07) ∷ [])) } ∷ record { address = 0x1ff000; bytes = (replicate 700 165) } ∷ record { address = 0x99800; bytes = (file 34 (piece 0 (codes "auto BOOT_IMAGE=linux ro root=301") ∷ [])) } ∷ []) })
unfolding number16 number32 is_zero setup_of version_of header_of header_at fit_checks plan_memory replaced_fields patch command_line written_by place kernel_fit
place_a_kernel_of_2565_bytes_with_an_initrd_of_700_it_is_placed = refl

-- a kernel of 1536 bytes with an initrd of 1: it is refused
pub place_a_kernel_of_1536_bytes_with_an_initrd_of_1_it_is_refused : place (file 1536 (piece 345 (hex 1 0xac) ∷ piece 497 (hex 1 0x01) ∷ piece 510 (hex 2 0x55aa) ∷ piece 529 (codes " ") ∷ piece 556 (hex 4 0xffffff37) ∷ piece 568 (hex 1 0xff) ∷ piece 672 (hex 1 0xd0) ∷ piece 723 (hex 1 0x87) ∷ piece 1065 (codes "v") ∷ piece 1535 (hex 1 0x07) ∷ [])) (Some (hex 1 0xa5)) [] (Some 3) 1052672 ≡ Err NoInitrd
unfolding number16 number32 is_zero setup_of version_of header_of header_at fit_checks plan_memory replaced_fields patch command_line written_by place kernel_fit
place_a_kernel_of_1536_bytes_with_an_initrd_of_1_it_is_refused = refl

-- a kernel of 3100 bytes: it is placed
pub place_a_kernel_of_3100_bytes_it_is_placed : place (file 3100 (piece 329 (codes "k") ∷ piece 375 (hex 1 0x90) ∷ piece 510 (hex 10 0x55aa0000486472530402) ∷ piece 529 (hex 1 0x01) ∷ piece 557 (hex 2 0x1010) ∷ piece 568 (hex 1 0xff) ∷ piece 1018 (hex 1 0x01) ∷ piece 2053 (hex 1 0xd7) ∷ piece 3099 (hex 1 0x07) ∷ [])) None (codes "BOOT_IMAGE=a") (Some 65535) 2097152 ≡ Ok (record { layout = (record { real = record { address = 0x90000; size = 2560 }; protected = record { address = 0x100000; size = 540 }; initrd = None; line = record { address = 0x99800; size = 13 } }); written = (record { address = 0x90000; bytes = (file 2560 (piece 329 (codes "k") ∷ piece 375 (hex 1 0x90) ∷ piece 506 (hex 14 0xffff000055aa0000486472530402) ∷ piece 528 (hex 2 0x0281) ∷ piece 549 (hex 10 0x96000000980900001010) ∷ piece 568 (hex 1 0xff) ∷ piece 1018 (hex 1 0x01) ∷ piece 2053 (hex 1 0xd7) ∷ [])) } ∷ record { address = 0x100000; bytes = (file 540 (piece 539 (hex 1 0x07) ∷ [])) } ∷ record { address = 0x99800; bytes = (file 13 (piece 0 (codes "BOOT_IMAGE=a") ∷ [])) } ∷ []) })
unfolding number16 number32 is_zero setup_of version_of header_of header_at fit_checks plan_memory replaced_fields patch command_line written_by place kernel_fit
place_a_kernel_of_3100_bytes_it_is_placed = refl

-- a kernel of 1029 bytes: it is refused
pub place_a_kernel_of_1029_bytes_it_is_refused : place (file 1029 (piece 504 (hex 16 0x03000000000055aa0000486472530202) ∷ piece 529 (hex 1 0x01) ∷ piece 556 (hex 3 0xffff1f) ∷ piece 568 (hex 1 0xff) ∷ piece 585 (hex 1 0xce) ∷ piece 886 (hex 1 0x83) ∷ piece 1024 (hex 5 0xcd00000007) ∷ [])) None (replicate 255 120) None 2097152 ≡ Err TooShort
unfolding number16 number32 is_zero setup_of version_of header_of header_at fit_checks plan_memory replaced_fields patch command_line written_by place kernel_fit
place_a_kernel_of_1029_bytes_it_is_refused = refl

-- a kernel of 1024 bytes with an initrd of 700: it is refused
pub place_a_kernel_of_1024_bytes_with_an_initrd_of_700_it_is_refused : place (file 1024 (piece 182 (hex 1 0xb5) ∷ piece 497 (hex 1 0x01) ∷ piece 510 (hex 10 0x55aa0000486472530602) ∷ piece 529 (codes " ") ∷ piece 556 (hex 4 0xffffff37) ∷ piece 568 (hex 1 0x14) ∷ piece 684 (hex 1 0xff) ∷ piece 838 (hex 1 0x22) ∷ [])) (Some (replicate 700 165)) (replicate 21 120) None 1048576 ≡ Err (LineTooLong 21)
unfolding number16 number32 is_zero setup_of version_of header_of header_at fit_checks plan_memory replaced_fields patch command_line written_by place kernel_fit
place_a_kernel_of_1024_bytes_with_an_initrd_of_700_it_is_refused = refl

-- a kernel of 1029 bytes with an initrd of 1: it is refused
pub place_a_kernel_of_1029_bytes_with_an_initrd_of_1_it_is_refused : place (file 1029 (piece 137 (codes "D") ∷ piece 462 (hex 1 0x9f) ∷ piece 510 (hex 10 0x55aa0000486472580302) ∷ piece 529 (hex 1 0xff) ∷ piece 556 (hex 4 0xffffff37) ∷ piece 568 (hex 1 0xff) ∷ piece 715 (codes "t") ∷ piece 1028 (hex 1 0x07) ∷ [])) (Some (hex 1 0xa5)) (codes "auto BOOT_IMAGE=linux ro root=301") None 1073741824 ≡ Err TooShort
unfolding number16 number32 is_zero setup_of version_of header_of header_at fit_checks plan_memory replaced_fields patch command_line written_by place kernel_fit
place_a_kernel_of_1029_bytes_with_an_initrd_of_1_it_is_refused = refl

-- a kernel of 1029 bytes: it is placed
pub place_a_kernel_of_1029_bytes_it_is_placed : place (file 1029 (piece 349 (codes "{") ∷ piece 492 (hex 6 0x980000000001) ∷ piece 510 (hex 10 0x55aa0000486472530202) ∷ piece 556 (hex 4 0xffffffff) ∷ piece 568 (hex 1 0x14) ∷ piece 1011 (codes "W") ∷ piece 1024 (hex 5 0x1c00000007) ∷ [])) None [] None 16777216 ≡ Ok (record { layout = (record { real = record { address = 0x90000; size = 1024 }; protected = record { address = 0x10000; size = 5 }; initrd = None; line = record { address = 0x99800; size = 1 } }); written = (record { address = 0x90000; bytes = (file 1024 (piece 349 (codes "{") ∷ piece 492 (hex 6 0x980000000001) ∷ piece 510 (hex 10 0x55aa0000486472530202) ∷ piece 528 (hex 2 0x0280) ∷ piece 549 (hex 11 0x96000000980900ffffffff) ∷ piece 568 (hex 1 0x14) ∷ piece 1011 (codes "W") ∷ [])) } ∷ record { address = 0x10000; bytes = (hex 5 0x1c00000007) } ∷ record { address = 0x99800; bytes = (file 1 []) } ∷ []) })
unfolding number16 number32 is_zero setup_of version_of header_of header_at fit_checks plan_memory replaced_fields patch command_line written_by place kernel_fit
place_a_kernel_of_1029_bytes_it_is_placed = refl

-- a kernel of 3100 bytes: it is placed
pub place_a_kernel_of_3100_bytes_it_is_placed_2 : place (file 3100 (piece 187 (hex 1 0x8f) ∷ piece 212 (hex 1 0xee) ∷ piece 497 (hex 1 0x02) ∷ piece 510 (hex 10 0x55aa0000486472530002) ∷ piece 529 (hex 1 0xff) ∷ piece 556 (hex 4 0xffffff37) ∷ piece 568 (hex 1 0xff) ∷ piece 847 (hex 1 0xbe) ∷ piece 1226 (codes "G") ∷ piece 3099 (hex 1 0x07) ∷ [])) None [] (Some 3) 1073741824 ≡ Ok (record { layout = (record { real = record { address = 0x90000; size = 1536 }; protected = record { address = 0x100000; size = 1564 }; initrd = None; line = record { address = 0x99800; size = 1 } }); written = (record { address = 0x90000; bytes = (file 1536 (piece 32 (hex 4 0x3fa30098) ∷ piece 187 (hex 1 0x8f) ∷ piece 212 (hex 1 0xee) ∷ piece 497 (hex 1 0x02) ∷ piece 506 (hex 14 0x0300000055aa0000486472530002) ∷ piece 528 (hex 2 0x02ff) ∷ piece 556 (hex 4 0xffffff37) ∷ piece 568 (hex 1 0xff) ∷ piece 847 (hex 1 0xbe) ∷ piece 1226 (codes "G") ∷ [])) } ∷ record { address = 0x100000; bytes = (file 1564 (piece 1563 (hex 1 0x07) ∷ [])) } ∷ record { address = 0x99800; bytes = (file 1 []) } ∷ []) })
unfolding number16 number32 is_zero setup_of version_of header_of header_at fit_checks plan_memory replaced_fields patch command_line written_by place kernel_fit
place_a_kernel_of_3100_bytes_it_is_placed_2 = refl

-- a kernel of 2565 bytes: it is placed
pub place_a_kernel_of_2565_bytes_it_is_placed : place (file 2565 (piece 497 (hex 1 0x02) ∷ piece 510 (hex 10 0x55aa0000486472530402) ∷ piece 556 (hex 3 0xffff1f) ∷ piece 568 (hex 1 0xff) ∷ piece 624 (codes "r") ∷ piece 647 (hex 1 0x0e) ∷ piece 857 (hex 1 0x1c) ∷ piece 1998 (hex 1 0x3f) ∷ piece 2564 (hex 1 0x07) ∷ [])) None (codes "BOOT_IMAGE=a") (Some 65535) 1052672 ≡ Ok (record { layout = (record { real = record { address = 0x90000; size = 1536 }; protected = record { address = 0x10000; size = 1029 }; initrd = None; line = record { address = 0x99800; size = 13 } }); written = (record { address = 0x90000; bytes = (file 1536 (piece 497 (hex 1 0x02) ∷ piece 506 (hex 14 0xffff000055aa0000486472530402) ∷ piece 528 (hex 2 0x0280) ∷ piece 549 (hex 10 0x96000000980900ffff1f) ∷ piece 568 (hex 1 0xff) ∷ piece 624 (codes "r") ∷ piece 647 (hex 1 0x0e) ∷ piece 857 (hex 1 0x1c) ∷ [])) } ∷ record { address = 0x10000; bytes = (file 1029 (piece 462 (hex 1 0x3f) ∷ piece 1028 (hex 1 0x07) ∷ [])) } ∷ record { address = 0x99800; bytes = (file 13 (piece 0 (codes "BOOT_IMAGE=a") ∷ [])) } ∷ []) })
unfolding number16 number32 is_zero setup_of version_of header_of header_at fit_checks plan_memory replaced_fields patch command_line written_by place kernel_fit
place_a_kernel_of_2565_bytes_it_is_placed = refl

-- a kernel of 2565 bytes with an initrd of 0: it is placed
pub place_a_kernel_of_2565_bytes_with_an_initrd_of_0_it_is_placed : place (file 2565 (piece 274 (codes "}") ∷ piece 363 (codes ",") ∷ piece 497 (hex 1 0x04) ∷ piece 510 (hex 10 0x55aa0000486472530002) ∷ piece 556 (hex 4 0xffffff37) ∷ piece 879 (hex 1 0x86) ∷ piece 2125 (hex 1 0x16) ∷ piece 2564 (hex 1 0x07) ∷ [])) (Some (file 0 [])) (codes "auto BOOT_IMAGE=linux ro root=301") (Some 3) 1048576 ≡ Ok (record { layout = (record { real = record { address = 0x90000; size = 2560 }; protected = record { address = 0x10000; size = 5 }; initrd = (Some (record { address = 0x100000; size = 0 })); line = record { address = 0x99800; size = 34 } }); written = (record { address = 0x90000; bytes = (file 2560 (piece 32 (hex 4 0x3fa30098) ∷ piece 274 (codes "}") ∷ piece 363 (codes ",") ∷ piece 497 (hex 1 0x04) ∷ piece 506 (hex 14 0x0300000055aa0000486472530002) ∷ piece 528 (hex 1 0x02) ∷ piece 538 (hex 1 0x10) ∷ piece 556 (hex 4 0xffffff37) ∷ piece 879 (hex 1 0x86) ∷ piece 2125 (hex 1 0x16) ∷ [])) } ∷ record { address = 0x10000; bytes = (file 5 (piece 4 (hex 1 0x07) ∷ [])) } ∷ record { address = 0x100000; bytes = (file 0 []) } ∷ record { address = 0x99800; bytes = (file 34 (piece 0 (codes "auto BOOT_IMAGE=linux ro root=301") ∷ [])) } ∷ []) })
unfolding number16 number32 is_zero setup_of version_of header_of header_at fit_checks plan_memory replaced_fields patch command_line written_by place kernel_fit
place_a_kernel_of_2565_bytes_with_an_initrd_of_0_it_is_placed = refl

-- a kernel of 900 bytes: it is refused
pub place_a_kernel_of_900_bytes_it_is_refused : place (file 900 (piece 510 (hex 10 0x55aa0000486472530002) ∷ piece 529 (hex 1 0xff) ∷ piece 556 (hex 4 0xffffff37) ∷ piece 568 (hex 1 0xff) ∷ piece 898 (hex 1 0xc3) ∷ [])) None (codes "auto BOOT_IMAGE=linux ro root=301") None 1052672 ≡ Err TooShort
unfolding number16 number32 is_zero setup_of version_of header_of header_at fit_checks plan_memory replaced_fields patch command_line written_by place kernel_fit
place_a_kernel_of_900_bytes_it_is_refused = refl

-- a kernel of 1029 bytes with an initrd of 4096: it is placed
pub place_a_kernel_of_1029_bytes_with_an_initrd_of_4096_it_is_placed : place (file 1029 (piece 151 (codes ";") ∷ piece 431 (codes "^") ∷ piece 497 (hex 1 0x01) ∷ piece 510 (hex 10 0x55aa0000486472530202) ∷ piece 556 (hex 4 0xffffff37) ∷ piece 568 (hex 1 0xff) ∷ piece 1024 (hex 5 0x1c00000007) ∷ [])) (Some (replicate 4096 165)) (replicate 21 120) None 2097152 ≡ Ok (record { layout = (record { real = record { address = 0x90000; size = 1024 }; protected = record { address = 0x10000; size = 5 }; initrd = (Some (record { address = 0x1ff000; size = 4096 })); line = record { address = 0x99800; size = 22 } }); written = (record { address = 0x90000; bytes = (file 1024 (piece 151 (codes ";") ∷ piece 431 (codes "^") ∷ piece 497 (hex 1 0x01) ∷ piece 510 (hex 10 0x55aa0000486472530202) ∷ piece 528 (hex 2 0x0280) ∷ piece 537 (hex 5 0xf01f000010) ∷ piece 549 (hex 11 0x96000000980900ffffff37) ∷ piece 568 (hex 1 0xff) ∷ [])) } ∷ record { address = 0x10000; bytes = (hex 5 0x1c00000007) } ∷ record { address = 0x1ff000; bytes = (replicate 4096 165) } ∷ record { address = 0x99800; bytes = (file 22 (piece 0 (replicate 21 120) ∷ [])) } ∷ []) })
unfolding number16 number32 is_zero setup_of version_of header_of header_at fit_checks plan_memory replaced_fields patch command_line written_by place kernel_fit
place_a_kernel_of_1029_bytes_with_an_initrd_of_4096_it_is_placed = refl

-- a kernel of 3100 bytes with an initrd of 4096: it is placed
pub place_a_kernel_of_3100_bytes_with_an_initrd_of_4096_it_is_placed : place (file 3100 (piece 230 (codes "W") ∷ piece 510 (hex 10 0x55aa0000486472530602) ∷ piece 529 (hex 1 0x01) ∷ piece 556 (hex 4 0xffffff37) ∷ piece 568 (hex 1 0xff) ∷ piece 916 (codes "G") ∷ piece 950 (hex 1 0xe7) ∷ piece 1588 (codes "/") ∷ piece 3099 (hex 1 0x07) ∷ [])) (Some (replicate 4096 165)) (replicate 255 120) None 2097152 ≡ Ok (record { layout = (record { real = record { address = 0x90000; size = 2560 }; protected = record { address = 0x100000; size = 540 }; initrd = (Some (record { address = 0x1ff000; size = 4096 })); line = record { address = 0x99800; size = 256 } }); written = (record { address = 0x90000; bytes = (file 2560 (piece 230 (codes "W") ∷ piece 510 (hex 10 0x55aa0000486472530602) ∷ piece 528 (hex 2 0x0281) ∷ piece 537 (hex 5 0xf01f000010) ∷ piece 549 (hex 11 0x96000000980900ffffff37) ∷ piece 568 (hex 1 0xff) ∷ piece 916 (codes "G") ∷ piece 950 (hex 1 0xe7) ∷ piece 1588 (codes "/") ∷ [])) } ∷ record { address = 0x100000; bytes = (file 540 (piece 539 (hex 1 0x07) ∷ [])) } ∷ record { address = 0x1ff000; bytes = (replicate 4096 165) } ∷ record { address = 0x99800; bytes = (file 256 (piece 0 (replicate 255 120) ∷ [])) } ∷ []) })
unfolding number16 number32 is_zero setup_of version_of header_of header_at fit_checks plan_memory replaced_fields patch command_line written_by place kernel_fit
place_a_kernel_of_3100_bytes_with_an_initrd_of_4096_it_is_placed = refl

-- a kernel of 1029 bytes: it is refused
pub place_a_kernel_of_1029_bytes_it_is_refused_2 : place (file 1029 (piece 433 (codes "Y") ∷ piece 497 (hex 1 0x04) ∷ piece 510 (hex 2 0x55aa) ∷ piece 529 (hex 1 0x81) ∷ piece 556 (hex 4 0xffffff37) ∷ piece 568 (hex 2 0xff07) ∷ piece 963 (hex 1 0xbb) ∷ piece 1022 (hex 7 0x05000015000007) ∷ [])) None (codes "BOOT_IMAGE=a") (Some 3) 1048576 ≡ Err TooShort
unfolding number16 number32 is_zero setup_of version_of header_of header_at fit_checks plan_memory replaced_fields patch command_line written_by place kernel_fit
place_a_kernel_of_1029_bytes_it_is_refused_2 = refl

-- a kernel of 3100 bytes: it is placed
pub place_a_kernel_of_3100_bytes_it_is_placed_3 : place (file 3100 (piece 41 (hex 8 0xa100000000000084) ∷ piece 497 (hex 1 0x01) ∷ piece 510 (hex 2 0x55aa) ∷ piece 529 (hex 1 0xff) ∷ piece 556 (hex 4 0xffffff37) ∷ piece 1012 (hex 1 0xb6) ∷ piece 2254 (codes "g") ∷ piece 3099 (hex 1 0x07) ∷ [])) None (replicate 21 120) None 1048576 ≡ Ok (record { layout = (record { real = record { address = 0x90000; size = 1024 }; protected = record { address = 0x10000; size = 2076 }; initrd = None; line = record { address = 0x99800; size = 22 } }); written = (record { address = 0x90000; bytes = (file 1024 (piece 32 (hex 17 0x3fa300980000000000a100000000000084) ∷ piece 497 (hex 1 0x01) ∷ piece 510 (hex 2 0x55aa) ∷ piece 529 (hex 1 0xff) ∷ piece 556 (hex 4 0xffffff37) ∷ piece 1012 (hex 1 0xb6) ∷ [])) } ∷ record { address = 0x10000; bytes = (file 2076 (piece 1230 (codes "g") ∷ piece 2075 (hex 1 0x07) ∷ [])) } ∷ record { address = 0x99800; bytes = (file 22 (piece 0 (replicate 21 120) ∷ [])) } ∷ []) })
unfolding number16 number32 is_zero setup_of version_of header_of header_at fit_checks plan_memory replaced_fields patch command_line written_by place kernel_fit
place_a_kernel_of_3100_bytes_it_is_placed_3 = refl

-- a kernel of 1029 bytes: it is refused
pub place_a_kernel_of_1029_bytes_it_is_refused_3 : place (file 1029 (piece 187 (hex 1 0xd3) ∷ piece 379 (codes "~") ∷ piece 497 (hex 1 0x05) ∷ piece 510 (hex 10 0x55aa0000486472530402) ∷ piece 529 (hex 1 0xff) ∷ piece 556 (hex 3 0xffff1f) ∷ piece 1028 (hex 1 0x07) ∷ [])) None (replicate 21 120) (Some 65535) 1052672 ≡ Err TooShort
unfolding number16 number32 is_zero setup_of version_of header_of header_at fit_checks plan_memory replaced_fields patch command_line written_by place kernel_fit
place_a_kernel_of_1029_bytes_it_is_refused_3 = refl

-- a kernel of 1536 bytes: it is refused
pub place_a_kernel_of_1536_bytes_it_is_refused : place (file 1536 (piece 438 (hex 1 0xda) ∷ piece 510 (hex 10 0x55aa0000486472530002) ∷ piece 529 (codes " ") ∷ piece 556 (hex 4 0xffffff37) ∷ piece 568 (hex 2 0xff07) ∷ piece 587 (hex 1 0x1a) ∷ piece 613 (hex 1 0xc5) ∷ piece 1209 (hex 1 0xf9) ∷ piece 1535 (hex 1 0x07) ∷ [])) None (replicate 21 120) (Some 3) 16777216 ≡ Err TooShort
unfolding number16 number32 is_zero setup_of version_of header_of header_at fit_checks plan_memory replaced_fields patch command_line written_by place kernel_fit
place_a_kernel_of_1536_bytes_it_is_refused = refl

-- a kernel of 3100 bytes: it is refused
pub place_a_kernel_of_3100_bytes_it_is_refused : place (file 3100 (piece 216 (codes "i") ∷ piece 324 (hex 1 0x1d) ∷ piece 497 (hex 1 0x01) ∷ piece 510 (hex 10 0x55aa0000486472530602) ∷ piece 529 (hex 1 0x81) ∷ piece 556 (hex 3 0xffffff) ∷ piece 1023 (hex 1 0xb7) ∷ piece 1270 (hex 1 0x95) ∷ piece 3099 (hex 1 0x07) ∷ [])) None (replicate 21 120) None 2097152 ≡ Err (LineTooLong 21)
unfolding number16 number32 is_zero setup_of version_of header_of header_at fit_checks plan_memory replaced_fields patch command_line written_by place kernel_fit
place_a_kernel_of_3100_bytes_it_is_refused = refl

-- a kernel of 1029 bytes with an initrd of 4096: it is refused
pub place_a_kernel_of_1029_bytes_with_an_initrd_of_4096_it_is_refused : place (file 1029 (piece 131 (codes "'") ∷ piece 497 (hex 1 0x04) ∷ piece 510 (hex 10 0x55aa0000486472530402) ∷ piece 529 (codes " ") ∷ piece 557 (hex 2 0x1010) ∷ piece 576 (codes "!") ∷ piece 831 (hex 1 0xa1) ∷ piece 1028 (hex 1 0x07) ∷ [])) (Some (replicate 4096 165)) (codes "BOOT_IMAGE=a") (Some 3) 1048576 ≡ Err TooShort
unfolding number16 number32 is_zero setup_of version_of header_of header_at fit_checks plan_memory replaced_fields patch command_line written_by place kernel_fit
place_a_kernel_of_1029_bytes_with_an_initrd_of_4096_it_is_refused = refl

-- a kernel of 1029 bytes: it is placed
pub place_a_kernel_of_1029_bytes_it_is_placed_2 : place (file 1029 (piece 45 (codes "q") ∷ piece 241 (hex 1 0x1c) ∷ piece 497 (hex 1 0x01) ∷ piece 510 (hex 10 0x55aa0000486472530302) ∷ piece 529 (hex 1 0x01) ∷ piece 556 (hex 4 0xffffff37) ∷ piece 568 (hex 1 0x14) ∷ piece 790 (codes "U") ∷ piece 1028 (hex 1 0x07) ∷ [])) None (codes "BOOT_IMAGE=a") None 16777216 ≡ Ok (record { layout = (record { real = record { address = 0x90000; size = 1024 }; protected = record { address = 0x100000; size = 5 }; initrd = None; line = record { address = 0x99800; size = 13 } }); written = (record { address = 0x90000; bytes = (file 1024 (piece 45 (codes "q") ∷ piece 241 (hex 1 0x1c) ∷ piece 497 (hex 1 0x01) ∷ piece 510 (hex 10 0x55aa0000486472530302) ∷ piece 528 (hex 2 0x0281) ∷ piece 549 (hex 11 0x96000000980900ffffff37) ∷ piece 568 (hex 1 0x14) ∷ piece 790 (codes "U") ∷ [])) } ∷ record { address = 0x100000; bytes = (file 5 (piece 4 (hex 1 0x07) ∷ [])) } ∷ record { address = 0x99800; bytes = (file 13 (piece 0 (codes "BOOT_IMAGE=a") ∷ [])) } ∷ []) })
unfolding number16 number32 is_zero setup_of version_of header_of header_at fit_checks plan_memory replaced_fields patch command_line written_by place kernel_fit
place_a_kernel_of_1029_bytes_it_is_placed_2 = refl

-- a kernel of 3100 bytes: it is refused
pub place_a_kernel_of_3100_bytes_it_is_refused_2 : place (file 3100 (piece 55 (hex 1 0x9e) ∷ piece 283 (codes "r") ∷ piece 492 (hex 6 0xed0000000001) ∷ piece 510 (hex 10 0x55aa0000486472530c02) ∷ piece 529 (hex 1 0x01) ∷ piece 556 (hex 4 0xffffff37) ∷ piece 568 (hex 1 0x14) ∷ piece 1163 (codes "%") ∷ piece 3099 (hex 1 0x07) ∷ [])) None (replicate 255 120) (Some 3) 1048576 ≡ Err (LineTooLong 255)
unfolding number16 number32 is_zero setup_of version_of header_of header_at fit_checks plan_memory replaced_fields patch command_line written_by place kernel_fit
place_a_kernel_of_3100_bytes_it_is_refused_2 = refl

-- a kernel of 1536 bytes with an initrd of 4096: it is refused
pub place_a_kernel_of_1536_bytes_with_an_initrd_of_4096_it_is_refused : place (file 1536 (piece 328 (codes "2") ∷ piece 497 (hex 1 0x01) ∷ piece 510 (hex 2 0x55aa) ∷ piece 529 (hex 1 0x01) ∷ piece 556 (hex 4 0xffffffff) ∷ piece 568 (hex 2 0xff07) ∷ piece 700 (codes "/") ∷ piece 773 (codes "j") ∷ piece 1127 (hex 1 0xfb) ∷ piece 1535 (hex 1 0x07) ∷ [])) (Some (replicate 4096 165)) (codes "auto BOOT_IMAGE=linux ro root=301") None 1073741824 ≡ Err NoInitrd
unfolding number16 number32 is_zero setup_of version_of header_of header_at fit_checks plan_memory replaced_fields patch command_line written_by place kernel_fit
place_a_kernel_of_1536_bytes_with_an_initrd_of_4096_it_is_refused = refl

-- a kernel of 2565 bytes: it is placed
pub place_a_kernel_of_2565_bytes_it_is_placed_2 : place (file 2565 (piece 83 (codes "t") ∷ piece 497 (hex 1 0x01) ∷ piece 510 (hex 10 0x55aa0000486472530102) ∷ piece 529 (hex 1 0x01) ∷ piece 556 (hex 4 0xffffff37) ∷ piece 819 (hex 1 0x3f) ∷ piece 878 (codes "6") ∷ piece 1158 (hex 1 0x9f) ∷ piece 2564 (hex 1 0x07) ∷ [])) None (replicate 255 120) None 16777216 ≡ Ok (record { layout = (record { real = record { address = 0x90000; size = 1024 }; protected = record { address = 0x100000; size = 1541 }; initrd = None; line = record { address = 0x99800; size = 256 } }); written = (record { address = 0x90000; bytes = (file 1024 (piece 32 (hex 4 0x3fa30098) ∷ piece 83 (codes "t") ∷ piece 497 (hex 1 0x01) ∷ piece 510 (hex 10 0x55aa0000486472530102) ∷ piece 528 (hex 2 0x0281) ∷ piece 549 (hex 11 0x96000000000000ffffff37) ∷ piece 819 (hex 1 0x3f) ∷ piece 878 (codes "6") ∷ [])) } ∷ record { address = 0x100000; bytes = (file 1541 (piece 134 (hex 1 0x9f) ∷ piece 1540 (hex 1 0x07) ∷ [])) } ∷ record { address = 0x99800; bytes = (file 256 (piece 0 (replicate 255 120) ∷ [])) } ∷ []) })
unfolding number16 number32 is_zero setup_of version_of header_of header_at fit_checks plan_memory replaced_fields patch command_line written_by place kernel_fit
place_a_kernel_of_2565_bytes_it_is_placed_2 = refl

-- a kernel of 3100 bytes with an initrd of 700: it is refused
pub place_a_kernel_of_3100_bytes_with_an_initrd_of_700_it_is_refused : place (file 3100 (piece 497 (hex 1 0x02) ∷ piece 510 (hex 10 0x55aa0000486472530002) ∷ piece 529 (hex 1 0x81) ∷ piece 556 (hex 4 0xffffff37) ∷ piece 568 (hex 1 0xff) ∷ piece 743 (codes "e") ∷ piece 958 (hex 1 0x14) ∷ piece 2845 (hex 1 0xf2) ∷ piece 3099 (hex 1 0x07) ∷ [])) (Some (replicate 700 165)) (replicate 21 120) (Some 3) 1052672 ≡ Err (NoRoom 1053372 1052672)
unfolding number16 number32 is_zero setup_of version_of header_of header_at fit_checks plan_memory replaced_fields patch command_line written_by place kernel_fit
place_a_kernel_of_3100_bytes_with_an_initrd_of_700_it_is_refused = refl

-- a kernel of 1600 bytes with an initrd of 0: it is placed
pub place_a_kernel_of_1600_bytes_with_an_initrd_of_0_it_is_placed : place (file 1600 (piece 368 (hex 1 0xd5) ∷ piece 497 (hex 1 0x01) ∷ piece 510 (hex 10 0x55aa0000486472530002) ∷ piece 529 (hex 1 0x01) ∷ piece 556 (hex 4 0xffffff37) ∷ piece 636 (codes "J") ∷ piece 833 (hex 1 0xfd) ∷ piece 1456 (codes ",") ∷ piece 1599 (hex 1 0x07) ∷ [])) (Some (file 0 [])) (replicate 21 120) None 2097152 ≡ Ok (record { layout = (record { real = record { address = 0x90000; size = 1024 }; protected = record { address = 0x100000; size = 576 }; initrd = (Some (record { address = 0x200000; size = 0 })); line = record { address = 0x99800; size = 22 } }); written = (record { address = 0x90000; bytes = (file 1024 (piece 32 (hex 4 0x3fa30098) ∷ piece 368 (hex 1 0xd5) ∷ piece 497 (hex 1 0x01) ∷ piece 510 (hex 10 0x55aa0000486472530002) ∷ piece 528 (hex 2 0x0201) ∷ piece 538 (codes " ") ∷ piece 556 (hex 4 0xffffff37) ∷ piece 636 (codes "J") ∷ piece 833 (hex 1 0xfd) ∷ [])) } ∷ record { address = 0x100000; bytes = (file 576 (piece 432 (codes ",") ∷ piece 575 (hex 1 0x07) ∷ [])) } ∷ record { address = 0x200000; bytes = (file 0 []) } ∷ record { address = 0x99800; bytes = (file 22 (piece 0 (replicate 21 120) ∷ [])) } ∷ []) })
unfolding number16 number32 is_zero setup_of version_of header_of header_at fit_checks plan_memory replaced_fields patch command_line written_by place kernel_fit
place_a_kernel_of_1600_bytes_with_an_initrd_of_0_it_is_placed = refl

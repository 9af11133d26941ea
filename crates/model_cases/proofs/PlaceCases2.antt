-- Cases of the model, written by tools/model_cases.py: a kernel, its initrd and its line in memory.
use Rattle.std.proofs.Common.{◌≡◌, ◌∷◌, [], None, Some, Ok, Err, codes, replicate, refl}
use Rattle.lilo_model.specs.Bytes.{number16, number32, is_zero}
use Rattle.lilo_model.specs.Header.{setup_of, version_of, header_of, header_at, fit_checks, plan_memory, replaced_fields, patch, TooShort, NoRoom, LineTooLong}
use Rattle.lilo_model.specs.Place.{command_line, written_by, place, kernel_fit}
use Rattle.model_cases.specs.Sparse.{hex, piece, file}

-- a kernel of 2565 bytes with an initrd of 0: it is placed
pub place_a_kernel_of_2565_bytes_with_an_initrd_of_0_it_is_placed_2 : place (file 2565 (piece 227 (hex 1 0xed) ∷ piece 468 (codes "#") ∷ piece 497 (hex 1 0x01) ∷ piece 510 (hex 10 0x55aa0000486472530602) ∷ piece 556 (hex 4 0xffffff37) ∷ piece 568 (hex 1 0xff) ∷ piece 1011 (hex 1 0xed) ∷ piece 2052 (hex 1 0xe7) ∷ piece 2564 (hex 1 0x07) ∷ [])) (Some (file 0 [])) (replicate 255 120) (Some 3) 1048576 ≡ Ok (record { layout = (record { real = record { address = 0x90000; size = 1024 }; protected = record { address = 0x10000; size = 1541 }; initrd = (Some (record { address = 0x100000; size = 0 })); line = record { address = 0x99800; size = 256 } }); written = (record { address = 0x90000; bytes = (file 1024 (piece 227 (hex 1 0xed) ∷ piece 468 (codes "#") ∷ piece 497 (hex 1 0x01) ∷ piece 506 (hex 14 0x0300000055aa0000486472530602) ∷ piece 528 (hex 2 0x0280) ∷ piece 538 (hex 1 0x10) ∷ piece 549 (hex 11 0x96000000980900ffffff37) ∷ piece 568 (hex 1 0xff) ∷ piece 1011 (hex 1 0xed) ∷ [])) } ∷ record { address = 0x10000; bytes = (file 1541 (piece 1028 (hex 1 0xe7) ∷ piece 1540 (hex 1 0x07) ∷ [])) } ∷ record { address = 0x100000; bytes = (file 0 []) } ∷ record { address = 0x99800; bytes = (file 256 (piece 0 (replicate 255 120) ∷ [])) } ∷ []) })
unfolding number16 number32 is_zero setup_of version_of header_of header_at fit_checks plan_memory replaced_fields patch command_line written_by place kernel_fit
place_a_kernel_of_2565_bytes_with_an_initrd_of_0_it_is_placed_2 = refl

-- a kernel of 1024 bytes: it is placed
pub place_a_kernel_of_1024_bytes_it_is_placed : place (file 1024 (piece 405 (hex 1 0x88) ∷ piece 490 (hex 8 0xf600000000000001) ∷ piece 510 (hex 10 0x55aa0000486472530602) ∷ piece 529 (hex 1 0x01) ∷ piece 556 (hex 3 0xffffff) ∷ piece 568 (hex 2 0xff07) ∷ piece 955 (codes "2") ∷ [])) None (codes "auto BOOT_IMAGE=linux ro root=301") (Some 65535) 1073741824 ≡ Ok (record { layout = (record { real = record { address = 0x90000; size = 1024 }; protected = record { address = 0x100000; size = 0 }; initrd = None; line = record { address = 0x99800; size = 34 } }); written = (record { address = 0x90000; bytes = (file 1024 (piece 405 (hex 1 0x88) ∷ piece 490 (hex 8 0xf600000000000001) ∷ piece 506 (hex 14 0xffff000055aa0000486472530602) ∷ piece 528 (hex 2 0x0281) ∷ piece 549 (hex 10 0x96000000980900ffffff) ∷ piece 568 (hex 2 0xff07) ∷ piece 955 (codes "2") ∷ [])) } ∷ record { address = 0x100000; bytes = (file 0 []) } ∷ record { address = 0x99800; bytes = (file 34 (piece 0 (codes "auto BOOT_IMAGE=linux ro root=301") ∷ [])) } ∷ []) })
unfolding number16 number32 is_zero setup_of version_of header_of header_at fit_checks plan_memory replaced_fields patch command_line written_by place kernel_fit
place_a_kernel_of_1024_bytes_it_is_placed = refl

-- a kernel of 3100 bytes: it is refused
pub place_a_kernel_of_3100_bytes_it_is_refused_3 : place (file 3100 (piece 5 (hex 1 0xca) ∷ piece 497 (hex 1 0x02) ∷ piece 510 (hex 10 0x55aa0000486472530c02) ∷ piece 529 (hex 1 0x01) ∷ piece 556 (hex 3 0xffff1f) ∷ piece 890 (hex 1 0xb3) ∷ piece 1009 (codes "2") ∷ piece 1561 (codes "-") ∷ piece 3099 (hex 1 0x07) ∷ [])) None (codes "auto BOOT_IMAGE=linux ro root=301") None 16777216 ≡ Err (LineTooLong 33)
unfolding number16 number32 is_zero setup_of version_of header_of header_at fit_checks plan_memory replaced_fields patch command_line written_by place kernel_fit
place_a_kernel_of_3100_bytes_it_is_refused_3 = refl

-- a kernel of 900 bytes with an initrd of 700: it is refused
pub place_a_kernel_of_900_bytes_with_an_initrd_of_700_it_is_refused : place (file 900 (piece 497 (hex 1 0x04) ∷ piece 510 (hex 10 0x55aa0000486472530302) ∷ piece 529 (hex 1 0x81) ∷ piece 547 (hex 1 0xc8) ∷ piece 556 (hex 4 0xffffffff) ∷ piece 568 (hex 1 0xff) ∷ piece 813 (codes "k") ∷ [])) (Some (replicate 700 165)) (codes "BOOT_IMAGE=a") None 1048576 ≡ Err TooShort
unfolding number16 number32 is_zero setup_of version_of header_of header_at fit_checks plan_memory replaced_fields patch command_line written_by place kernel_fit
place_a_kernel_of_900_bytes_with_an_initrd_of_700_it_is_refused = refl

-- a kernel of 2565 bytes with an initrd of 0: it is refused
pub place_a_kernel_of_2565_bytes_with_an_initrd_of_0_it_is_refused : place (file 2565 (piece 232 (hex 1 0xd9) ∷ piece 418 (hex 1 0xca) ∷ piece 497 (hex 1 0x05) ∷ piece 510 (hex 10 0x55aa0000486472530102) ∷ piece 529 (hex 1 0x81) ∷ piece 556 (hex 4 0xffffff37) ∷ piece 568 (hex 2 0xff07) ∷ piece 813 (hex 1 0xca) ∷ piece 2373 (codes "&") ∷ piece 2564 (hex 1 0x07) ∷ [])) (Some (file 0 [])) (codes "BOOT_IMAGE=a") None 1048576 ≡ Err TooShort
unfolding number16 number32 is_zero setup_of version_of header_of header_at fit_checks plan_memory replaced_fields patch command_line written_by place kernel_fit
place_a_kernel_of_2565_bytes_with_an_initrd_of_0_it_is_refused = refl

-- a kernel of 900 bytes with an initrd of 700: it is refused
pub place_a_kernel_of_900_bytes_with_an_initrd_of_700_it_is_refused_2 : place (file 900 (piece 283 (codes "`") ∷ piece 330 (hex 1 0x94) ∷ piece 497 (hex 1 0x02) ∷ piece 510 (hex 10 0x55aa0000486472530302) ∷ piece 529 (hex 1 0x01) ∷ piece 557 (hex 2 0x1010) ∷ piece 568 (hex 2 0xff07) ∷ piece 580 (hex 1 0x07) ∷ [])) (Some (replicate 700 165)) (replicate 21 120) (Some 3) 1052672 ≡ Err TooShort
unfolding number16 number32 is_zero setup_of version_of header_of header_at fit_checks plan_memory replaced_fields patch command_line written_by place kernel_fit
place_a_kernel_of_900_bytes_with_an_initrd_of_700_it_is_refused_2 = refl

-- a kernel of 1029 bytes with an initrd of 700: it is placed
pub place_a_kernel_of_1029_bytes_with_an_initrd_of_700_it_is_placed : place (file 1029 (piece 164 (hex 1 0xc0) ∷ piece 497 (hex 1 0x01) ∷ piece 510 (hex 10 0x55aa0000486472530602) ∷ piece 529 (hex 1 0x01) ∷ piece 556 (hex 4 0xffffff37) ∷ piece 568 (hex 1 0x14) ∷ piece 803 (hex 1 0xd3) ∷ piece 927 (hex 1 0x80) ∷ piece 1026 (hex 3 0xeb0007) ∷ [])) (Some (replicate 700 165)) (codes "BOOT_IMAGE=a") None 1073741824 ≡ Ok (record { layout = (record { real = record { address = 0x90000; size = 1024 }; protected = record { address = 0x100000; size = 5 }; initrd = (Some (record { address = 0x37fff000; size = 700 })); line = record { address = 0x99800; size = 13 } }); written = (record { address = 0x90000; bytes = (file 1024 (piece 164 (hex 1 0xc0) ∷ piece 497 (hex 1 0x01) ∷ piece 510 (hex 10 0x55aa0000486472530602) ∷ piece 528 (hex 2 0x0281) ∷ piece 537 (hex 5 0xf0ff37bc02) ∷ piece 549 (hex 11 0x96000000980900ffffff37) ∷ piece 568 (hex 1 0x14) ∷ piece 803 (hex 1 0xd3) ∷ piece 927 (hex 1 0x80) ∷ [])) } ∷ record { address = 0x100000; bytes = (file 5 (piece 2 (hex 3 0xeb0007) ∷ [])) } ∷ record { address = 0x37fff000; bytes = (replicate 700 165) } ∷ record { address = 0x99800; bytes = (file 13 (piece 0 (codes "BOOT_IMAGE=a") ∷ [])) } ∷ []) })
unfolding number16 number32 is_zero setup_of version_of header_of header_at fit_checks plan_memory replaced_fields patch command_line written_by place kernel_fit
place_a_kernel_of_1029_bytes_with_an_initrd_of_700_it_is_placed = refl

-- a kernel of 1536 bytes with an initrd of 1: it is placed
pub place_a_kernel_of_1536_bytes_with_an_initrd_of_1_it_is_placed : place (file 1536 (piece 55 (hex 1 0xe1) ∷ piece 487 (hex 1 0x9d) ∷ piece 497 (hex 1 0x01) ∷ piece 510 (hex 10 0x55aa0000486472530002) ∷ piece 557 (hex 2 0x1010) ∷ piece 568 (hex 1 0xff) ∷ piece 803 (hex 1 0xf9) ∷ piece 1508 (hex 1 0xdc) ∷ piece 1535 (hex 1 0x07) ∷ [])) (Some (hex 1 0xa5)) [] None 1073741824 ≡ Ok (record { layout = (record { real = record { address = 0x90000; size = 1024 }; protected = record { address = 0x10000; size = 512 }; initrd = (Some (record { address = 0x37fff000; size = 1 })); line = record { address = 0x99800; size = 1 } }); written = (record { address = 0x90000; bytes = (file 1024 (piece 32 (hex 4 0x3fa30098) ∷ piece 55 (hex 1 0xe1) ∷ piece 487 (hex 1 0x9d) ∷ piece 497 (hex 1 0x01) ∷ piece 510 (hex 10 0x55aa0000486472530002) ∷ piece 528 (hex 1 0x02) ∷ piece 537 (hex 4 0xf0ff3701) ∷ piece 557 (hex 2 0x1010) ∷ piece 568 (hex 1 0xff) ∷ piece 803 (hex 1 0xf9) ∷ [])) } ∷ record { address = 0x10000; bytes = (file 512 (piece 484 (hex 1 0xdc) ∷ piece 511 (hex 1 0x07) ∷ [])) } ∷ record { address = 0x37fff000; bytes = (hex 1 0xa5) } ∷ record { address = 0x99800; bytes = (file 1 []) } ∷ []) })
unfolding number16 number32 is_zero setup_of version_of header_of header_at fit_checks plan_memory replaced_fields patch command_line written_by place kernel_fit
place_a_kernel_of_1536_bytes_with_an_initrd_of_1_it_is_placed = refl

-- a kernel of 1536 bytes: it is placed
pub place_a_kernel_of_1536_bytes_it_is_placed : place (file 1536 (piece 94 (codes "4") ∷ piece 497 (hex 1 0x02) ∷ piece 510 (hex 10 0x55aa0000486472530202) ∷ piece 529 (hex 1 0x81) ∷ piece 556 (hex 4 0xffffff37) ∷ piece 568 (hex 2 0xff07) ∷ piece 970 (codes ";") ∷ piece 1006 (hex 1 0xa2) ∷ piece 1526 (hex 1 0xa5) ∷ piece 1535 (hex 1 0x07) ∷ [])) None (replicate 255 120) (Some 3) 1048576 ≡ Ok (record { layout = (record { real = record { address = 0x90000; size = 1536 }; protected = record { address = 0x100000; size = 0 }; initrd = None; line = record { address = 0x99800; size = 256 } }); written = (record { address = 0x90000; bytes = (file 1536 (piece 94 (codes "4") ∷ piece 497 (hex 1 0x02) ∷ piece 506 (hex 14 0x0300000055aa0000486472530202) ∷ piece 528 (hex 2 0x0281) ∷ piece 549 (hex 11 0x96000000980900ffffff37) ∷ piece 568 (hex 2 0xff07) ∷ piece 970 (codes ";") ∷ piece 1006 (hex 1 0xa2) ∷ piece 1526 (hex 1 0xa5) ∷ piece 1535 (hex 1 0x07) ∷ [])) } ∷ record { address = 0x100000; bytes = (file 0 []) } ∷ record { address = 0x99800; bytes = (file 256 (piece 0 (replicate 255 120) ∷ [])) } ∷ []) })
unfolding number16 number32 is_zero setup_of version_of header_of header_at fit_checks plan_memory replaced_fields patch command_line written_by place kernel_fit
place_a_kernel_of_1536_bytes_it_is_placed = refl

-- a kernel of 1024 bytes with an initrd of 700: it is placed
pub place_a_kernel_of_1024_bytes_with_an_initrd_of_700_it_is_placed : place (file 1024 (piece 88 (hex 1 0xc8) ∷ piece 348 (hex 1 0xc6) ∷ piece 497 (hex 1 0x01) ∷ piece 510 (hex 10 0x55aa0000486472530602) ∷ piece 529 (hex 1 0xff) ∷ piece 556 (hex 4 0xffffff37) ∷ piece 568 (hex 1 0xff) ∷ piece 636 (hex 1 0x87) ∷ [])) (Some (replicate 700 165)) (replicate 21 120) (Some 65535) 1073741824 ≡ Ok (record { layout = (record { real = record { address = 0x90000; size = 1024 }; protected = record { address = 0x100000; size = 0 }; initrd = (Some (record { address = 0x37fff000; size = 700 })); line = record { address = 0x99800; size = 22 } }); written = (record { address = 0x90000; bytes = (file 1024 (piece 88 (hex 1 0xc8) ∷ piece 348 (hex 1 0xc6) ∷ piece 497 (hex 1 0x01) ∷ piece 506 (hex 14 0xffff000055aa0000486472530602) ∷ piece 528 (hex 2 0x02ff) ∷ piece 537 (hex 5 0xf0ff37bc02) ∷ piece 549 (hex 11 0x96000000980900ffffff37) ∷ piece 568 (hex 1 0xff) ∷ piece 636 (hex 1 0x87) ∷ [])) } ∷ record { address = 0x100000; bytes = (file 0 []) } ∷ record { address = 0x37fff000; bytes = (replicate 700 165) } ∷ record { address = 0x99800; bytes = (file 22 (piece 0 (replicate 21 120) ∷ [])) } ∷ []) })
unfolding number16 number32 is_zero setup_of version_of header_of header_at fit_checks plan_memory replaced_fields patch command_line written_by place kernel_fit
place_a_kernel_of_1024_bytes_with_an_initrd_of_700_it_is_placed = refl

-- a kernel of 1029 bytes: it is refused
pub place_a_kernel_of_1029_bytes_it_is_refused_4 : place (file 1029 (piece 41 (codes "]") ∷ piece 497 (hex 1 0x01) ∷ piece 510 (hex 10 0x55aa0000486472530302) ∷ piece 529 (hex 1 0xff) ∷ piece 556 (hex 4 0xffffffff) ∷ piece 579 (hex 1 0x1d) ∷ piece 675 (codes "C") ∷ piece 1026 (hex 3 0x220007) ∷ [])) None (codes "auto BOOT_IMAGE=linux ro root=301") (Some 65535) 1048576 ≡ Err (NoRoom 1048581 1048576)
unfolding number16 number32 is_zero setup_of version_of header_of header_at fit_checks plan_memory replaced_fields patch command_line written_by place kernel_fit
place_a_kernel_of_1029_bytes_it_is_refused_4 = refl

-- a kernel of 2565 bytes with an initrd of 4096: it is placed
pub place_a_kernel_of_2565_bytes_with_an_initrd_of_4096_it_is_placed : place (file 2565 (piece 4 (codes ")") ∷ piece 497 (hex 1 0x01) ∷ piece 510 (hex 10 0x55aa0000486472530c02) ∷ piece 556 (hex 4 0xffffff37) ∷ piece 568 (hex 1 0xff) ∷ piece 750 (codes "m") ∷ piece 1396 (hex 1 0xe8) ∷ piece 2564 (hex 1 0x07) ∷ [])) (Some (replicate 4096 165)) (codes "auto BOOT_IMAGE=linux ro root=301") None 2097152 ≡ Ok (record { layout = (record { real = record { address = 0x90000; size = 1024 }; protected = record { address = 0x10000; size = 1541 }; initrd = (Some (record { address = 0x1ff000; size = 4096 })); line = record { address = 0x99800; size = 34 } }); written = (record { address = 0x90000; bytes = (file 1024 (piece 4 (codes ")") ∷ piece 497 (hex 1 0x01) ∷ piece 510 (hex 10 0x55aa0000486472530c02) ∷ piece 528 (hex 2 0x0280) ∷ piece 537 (hex 5 0xf01f000010) ∷ piece 549 (hex 11 0x96000000980900ffffff37) ∷ piece 568 (hex 1 0xff) ∷ piece 750 (codes "m") ∷ [])) } ∷ record { address = 0x10000; bytes = (file 1541 (piece 372 (hex 1 0xe8) ∷ piece 1540 (hex 1 0x07) ∷ [])) } ∷ record { address = 0x1ff000; bytes = (replicate 4096 165) } ∷ record { address = 0x99800; bytes = (file 34 (piece 0 (codes "auto BOOT_IMAGE=linux ro root=301") ∷ [])) } ∷ []) })
unfolding number16 number32 is_zero setup_of version_of header_of header_at fit_checks plan_memory replaced_fields patch command_line written_by place kernel_fit
place_a_kernel_of_2565_bytes_with_an_initrd_of_4096_it_is_placed = refl

-- a kernel of 900 bytes with an initrd of 0: it is refused
pub place_a_kernel_of_900_bytes_with_an_initrd_of_0_it_is_refused : place (file 900 (piece 272 (codes "t") ∷ piece 470 (codes "L") ∷ piece 497 (hex 1 0x04) ∷ piece 510 (hex 10 0x55aa0000486472530602) ∷ piece 529 (hex 1 0x01) ∷ piece 556 (hex 4 0xffffff37) ∷ piece 568 (hex 1 0xff) ∷ piece 596 (hex 1 0x15) ∷ [])) (Some (file 0 [])) [] None 1048576 ≡ Err TooShort
unfolding number16 number32 is_zero setup_of version_of header_of header_at fit_checks plan_memory replaced_fields patch command_line written_by place kernel_fit
place_a_kernel_of_900_bytes_with_an_initrd_of_0_it_is_refused = refl

-- a kernel of 3100 bytes with an initrd of 1: it is refused
pub place_a_kernel_of_3100_bytes_with_an_initrd_of_1_it_is_refused : place (file 3100 (piece 510 (hex 10 0x55aa0000486472530202) ∷ piece 529 (hex 1 0xff) ∷ piece 556 (hex 4 0xffffff37) ∷ piece 568 (hex 1 0x14) ∷ piece 614 (hex 1 0xd8) ∷ piece 668 (codes ".") ∷ piece 834 (hex 1 0x9c) ∷ piece 1661 (hex 1 0x08) ∷ piece 3099 (hex 1 0x07) ∷ [])) (Some (hex 1 0xa5)) (replicate 255 120) None 1052672 ≡ Err (NoRoom 1052673 1052672)
unfolding number16 number32 is_zero setup_of version_of header_of header_at fit_checks plan_memory replaced_fields patch command_line written_by place kernel_fit
place_a_kernel_of_3100_bytes_with_an_initrd_of_1_it_is_refused = refl

-- a kernel of 1600 bytes: it is refused
pub place_a_kernel_of_1600_bytes_it_is_refused : place (file 1600 (piece 471 (hex 1 0x80) ∷ piece 510 (hex 10 0x55aa0000486472530202) ∷ piece 529 (hex 1 0x01) ∷ piece 556 (hex 4 0xffffff37) ∷ piece 568 (hex 1 0xff) ∷ piece 947 (codes "V") ∷ piece 1002 (codes "d") ∷ piece 1110 (hex 1 0xe3) ∷ piece 1599 (hex 1 0x07) ∷ [])) None (codes "BOOT_IMAGE=a") None 1073741824 ≡ Err TooShort
unfolding number16 number32 is_zero setup_of version_of header_of header_at fit_checks plan_memory replaced_fields patch command_line written_by place kernel_fit
place_a_kernel_of_1600_bytes_it_is_refused = refl

-- a kernel of 1536 bytes: it is placed
pub place_a_kernel_of_1536_bytes_it_is_placed_2 : place (file 1536 (piece 320 (hex 1 0xd7) ∷ piece 426 (codes "y") ∷ piece 497 (hex 1 0x01) ∷ piece 510 (hex 10 0x55aa0000486472530602) ∷ piece 529 (hex 1 0xff) ∷ piece 556 (hex 4 0xffffff37) ∷ piece 568 (hex 7 0xff000000000045) ∷ piece 1351 (codes "m") ∷ piece 1535 (hex 1 0x07) ∷ [])) None (codes "BOOT_IMAGE=a") (Some 3) 2097152 ≡ Ok (record { layout = (record { real = record { address = 0x90000; size = 1024 }; protected = record { address = 0x100000; size = 512 }; initrd = None; line = record { address = 0x99800; size = 13 } }); written = (record { address = 0x90000; bytes = (file 1024 (piece 320 (hex 1 0xd7) ∷ piece 426 (codes "y") ∷ piece 497 (hex 1 0x01) ∷ piece 506 (hex 14 0x0300000055aa0000486472530602) ∷ piece 528 (hex 2 0x02ff) ∷ piece 549 (hex 11 0x96000000980900ffffff37) ∷ piece 568 (hex 7 0xff000000000045) ∷ [])) } ∷ record { address = 0x100000; bytes = (file 512 (piece 327 (codes "m") ∷ piece 511 (hex 1 0x07) ∷ [])) } ∷ record { address = 0x99800; bytes = (file 13 (piece 0 (codes "BOOT_IMAGE=a") ∷ [])) } ∷ []) })
unfolding number16 number32 is_zero setup_of version_of header_of header_at fit_checks plan_memory replaced_fields patch command_line written_by place kernel_fit
place_a_kernel_of_1536_bytes_it_is_placed_2 = refl

-- a kernel of 1600 bytes with an initrd of 1: it is refused
pub place_a_kernel_of_1600_bytes_with_an_initrd_of_1_it_is_refused : place (file 1600 (piece 63 (hex 1 0xf2) ∷ piece 279 (codes "#") ∷ piece 290 (hex 1 0x81) ∷ piece 510 (hex 10 0x55aa0000486472530402) ∷ piece 529 (hex 1 0x01) ∷ piece 556 (hex 3 0xffff1f) ∷ piece 568 (hex 1 0xff) ∷ piece 1093 (codes ")") ∷ piece 1599 (hex 1 0x07) ∷ [])) (Some (hex 1 0xa5)) (replicate 21 120) (Some 3) 2097152 ≡ Err TooShort
unfolding number16 number32 is_zero setup_of version_of header_of header_at fit_checks plan_memory replaced_fields patch command_line written_by place kernel_fit
place_a_kernel_of_1600_bytes_with_an_initrd_of_1_it_is_refused = refl

-- a kernel of 3100 bytes: it is placed
pub place_a_kernel_of_3100_bytes_it_is_placed_4 : place (file 3100 (piece 406 (codes "u") ∷ piece 462 (hex 1 0x03) ∷ piece 497 (hex 1 0x01) ∷ piece 510 (hex 10 0x55aa0000486472530502) ∷ piece 556 (hex 4 0xffffff37) ∷ piece 921 (codes "F") ∷ piece 1095 (hex 1 0x1a) ∷ piece 3099 (hex 1 0x07) ∷ [])) None [] None 2097152 ≡ Ok (record { layout = (record { real = record { address = 0x90000; size = 1024 }; protected = record { address = 0x10000; size = 2076 }; initrd = None; line = record { address = 0x99800; size = 1 } }); written = (record { address = 0x90000; bytes = (file 1024 (piece 406 (codes "u") ∷ piece 462 (hex 1 0x03) ∷ piece 497 (hex 1 0x01) ∷ piece 510 (hex 10 0x55aa0000486472530502) ∷ piece 528 (hex 2 0x0280) ∷ piece 549 (hex 11 0x96000000980900ffffff37) ∷ piece 921 (codes "F") ∷ [])) } ∷ record { address = 0x10000; bytes = (file 2076 (piece 71 (hex 1 0x1a) ∷ piece 2075 (hex 1 0x07) ∷ [])) } ∷ record { address = 0x99800; bytes = (file 1 []) } ∷ []) })
unfolding number16 number32 is_zero setup_of version_of header_of header_at fit_checks plan_memory replaced_fields patch command_line written_by place kernel_fit
place_a_kernel_of_3100_bytes_it_is_placed_4 = refl

-- a kernel of 1536 bytes: it is refused
pub place_a_kernel_of_1536_bytes_it_is_refused_2 : place (file 1536 (piece 497 (hex 1 0x04) ∷ piece 510 (hex 10 0x55aa0000486472530c02) ∷ piece 529 (hex 1 0x01) ∷ piece 556 (hex 4 0xffffff37) ∷ piece 567 (hex 2 0x5fff) ∷ piece 618 (codes "<") ∷ piece 1017 (hex 1 0xa2) ∷ piece 1391 (codes "N") ∷ piece 1535 (hex 1 0x07) ∷ [])) None (codes "BOOT_IMAGE=a") None 1073741824 ≡ Err TooShort
unfolding number16 number32 is_zero setup_of version_of header_of header_at fit_checks plan_memory replaced_fields patch command_line written_by place kernel_fit
place_a_kernel_of_1536_bytes_it_is_refused_2 = refl

-- a kernel of 1024 bytes with an initrd of 0: it is refused
pub place_a_kernel_of_1024_bytes_with_an_initrd_of_0_it_is_refused : place (file 1024 (piece 259 (codes "<") ∷ piece 510 (hex 10 0x55aa0000486472530602) ∷ piece 529 (hex 1 0x01) ∷ piece 556 (hex 3 0xffff1f) ∷ piece 568 (hex 2 0xff07) ∷ piece 821 (hex 1 0xbf) ∷ piece 901 (hex 1 0xde) ∷ [])) (Some (file 0 [])) (codes "BOOT_IMAGE=a") None 2097152 ≡ Err TooShort
unfolding number16 number32 is_zero setup_of version_of header_of header_at fit_checks plan_memory replaced_fields patch command_line written_by place kernel_fit
place_a_kernel_of_1024_bytes_with_an_initrd_of_0_it_is_refused = refl

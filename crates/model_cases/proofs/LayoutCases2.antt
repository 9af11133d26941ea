-- Cases of the model, written by tools/model_cases.py: where kernels of any length lie.
use Rattle.std.proofs.Common.{◌≡◌, ◌∷◌, [], None, Some, Ok, Err, codes, refl}
use Rattle.lilo_model.specs.Bytes.{number16, number32, is_zero}
use Rattle.lilo_model.specs.Header.{setup_of, version_of, header_of, header_at, fit_checks, plan_memory, replaced_fields, patch, TooShort, LowTooLarge, NoInitrd, NoRoom, LineTooLong}
use Rattle.lilo_model.specs.Place.{command_line, written_by, place, kernel_fit}
use Rattle.model_cases.specs.Sparse.{hex, piece, file, layout_for}

-- 1023 bytes of a kernel and 700 of an initrd: refused
pub layout_1023_bytes_of_a_kernel_and_700_of_an_initrd_refused : layout_for (file 1024 (piece 497 (hex 1 0x01) ∷ piece 510 (hex 2 0x55aa) ∷ piece 529 (hex 1 0x81) ∷ piece 557 (hex 2 0x1010) ∷ piece 568 (hex 1 0xff) ∷ piece 626 (codes "f") ∷ piece 756 (codes "D") ∷ piece 787 (hex 1 0xf7) ∷ [])) 1023 (Some 700) 255 698438665 ≡ Err TooShort
unfolding number16 number32 is_zero setup_of version_of header_of header_at fit_checks plan_memory replaced_fields patch command_line written_by place kernel_fit
layout_1023_bytes_of_a_kernel_and_700_of_an_initrd_refused = refl

-- 1536 bytes of a kernel: refused
pub layout_1536_bytes_of_a_kernel_refused : layout_for (file 1024 (piece 223 (hex 1 0xf9) ∷ piece 393 (codes "i") ∷ piece 451 (codes "-") ∷ piece 497 (hex 1 0x04) ∷ piece 510 (hex 10 0x55aa0000486472530202) ∷ piece 529 (hex 1 0x81) ∷ piece 556 (hex 4 0xffffffff) ∷ piece 568 (hex 1 0xff) ∷ [])) 1536 None 300 16777216 ≡ Err TooShort
unfolding number16 number32 is_zero setup_of version_of header_of header_at fit_checks plan_memory replaced_fields patch command_line written_by place kernel_fit
layout_1536_bytes_of_a_kernel_refused = refl

-- 5000 bytes of a kernel and 5000 of an initrd: refused
pub layout_5000_bytes_of_a_kernel_and_5000_of_an_initrd_refused : layout_for (file 1024 (piece 119 (codes "4") ∷ piece 497 (hex 1 0x01) ∷ piece 510 (hex 20 0x55aa000048647253060200000000bf0000000081) ∷ piece 556 (hex 4 0xffffff37) ∷ piece 568 (hex 1 0x14) ∷ piece 805 (hex 1 0x0b) ∷ [])) 5000 (Some 5000) 33 1010788174 ≡ Err (LineTooLong 33)
unfolding number16 number32 is_zero setup_of version_of header_of header_at fit_checks plan_memory replaced_fields patch command_line written_by place kernel_fit
layout_5000_bytes_of_a_kernel_and_5000_of_an_initrd_refused = refl

-- 0 bytes of a kernel and 1000000 of an initrd: refused
pub layout_0_bytes_of_a_kernel_and_1000000_of_an_initrd_refused : layout_for (file 1024 (piece 510 (hex 10 0x55aa0000486472530202) ∷ piece 529 (hex 1 0x01) ∷ piece 556 (hex 3 0xffff1f) ∷ piece 568 (hex 1 0x14) ∷ piece 701 (hex 1 0xc9) ∷ piece 765 (hex 1 0x8a) ∷ [])) 0 (Some 1000000) 300 215339016 ≡ Err TooShort
unfolding number16 number32 is_zero setup_of version_of header_of header_at fit_checks plan_memory replaced_fields patch command_line written_by place kernel_fit
layout_0_bytes_of_a_kernel_and_1000000_of_an_initrd_refused = refl

-- 1023 bytes of a kernel and 1 of an initrd: refused
pub layout_1023_bytes_of_a_kernel_and_1_of_an_initrd_refused : layout_for (file 1024 (piece 158 (codes "j") ∷ piece 497 (hex 1 0x04) ∷ piece 510 (hex 10 0x55aa0000486472530402) ∷ piece 529 (hex 1 0xff) ∷ piece 556 (hex 4 0xffffff37) ∷ piece 834 (hex 1 0xdd) ∷ piece 994 (hex 1 0xfd) ∷ [])) 1023 (Some 1) 256 209675218 ≡ Err TooShort
unfolding number16 number32 is_zero setup_of version_of header_of header_at fit_checks plan_memory replaced_fields patch command_line written_by place kernel_fit
layout_1023_bytes_of_a_kernel_and_1_of_an_initrd_refused = refl

-- 1536 bytes of a kernel and 700 of an initrd: refused
pub layout_1536_bytes_of_a_kernel_and_700_of_an_initrd_refused : layout_for (file 1024 (piece 161 (codes "g") ∷ piece 497 (hex 1 0x04) ∷ piece 510 (hex 10 0x55aa0000486472530c02) ∷ piece 529 (hex 1 0x01) ∷ piece 557 (hex 2 0x1010) ∷ piece 568 (hex 2 0xff07) ∷ piece 978 (hex 1 0x8e) ∷ piece 1016 (hex 1 0xe5) ∷ [])) 1536 (Some 700) 300 1073741824 ≡ Err TooShort
unfolding number16 number32 is_zero setup_of version_of header_of header_at fit_checks plan_memory replaced_fields patch command_line written_by place kernel_fit
layout_1536_bytes_of_a_kernel_and_700_of_an_initrd_refused = refl

-- 1536 bytes of a kernel: they have a place
pub layout_1536_bytes_of_a_kernel_they_have_a_place_2 : layout_for (file 1024 (piece 111 (codes "8") ∷ piece 231 (codes "\n") ∷ piece 497 (hex 1 0x01) ∷ piece 510 (hex 10 0x55aa0000486472530c02) ∷ piece 529 (hex 1 0xff) ∷ piece 556 (hex 4 0xffffff37) ∷ piece 568 (hex 1 0xff) ∷ piece 665 (hex 1 0x87) ∷ [])) 1536 None 12 1052672 ≡ Ok (record { real = record { address = 0x90000; size = 1024 }; protected = record { address = 0x100000; size = 512 }; initrd = None; line = record { address = 0x99800; size = 13 } })
unfolding number16 number32 is_zero setup_of version_of header_of header_at fit_checks plan_memory replaced_fields patch command_line written_by place kernel_fit
layout_1536_bytes_of_a_kernel_they_have_a_place_2 = refl

-- 2560 bytes of a kernel and 700 of an initrd: refused
pub layout_2560_bytes_of_a_kernel_and_700_of_an_initrd_refused_2 : layout_for (file 1024 (piece 319 (codes "N") ∷ piece 497 (hex 1 0x02) ∷ piece 510 (hex 10 0x55aa0000486472530c02) ∷ piece 529 (codes " ") ∷ piece 555 (hex 5 0x09ffffff37) ∷ piece 568 (hex 1 0x14) ∷ piece 645 (codes "H") ∷ [])) 2560 (Some 700) 0 1048576 ≡ Err (NoRoom 1049276 1048576)
unfolding number16 number32 is_zero setup_of version_of header_of header_at fit_checks plan_memory replaced_fields patch command_line written_by place kernel_fit
layout_2560_bytes_of_a_kernel_and_700_of_an_initrd_refused_2 = refl

-- 600000 bytes of a kernel: refused
pub layout_600000_bytes_of_a_kernel_refused_2 : layout_for (file 1024 (piece 470 (codes "k") ∷ piece 497 (hex 1 0x01) ∷ piece 510 (hex 10 0x55aa0000486472530c02) ∷ piece 557 (hex 2 0x1010) ∷ piece 593 (hex 1 0xb2) ∷ piece 829 (hex 1 0x3f) ∷ [])) 600000 None 256 1052672 ≡ Err (LowTooLarge 598976)
unfolding number16 number32 is_zero setup_of version_of header_of header_at fit_checks plan_memory replaced_fields patch command_line written_by place kernel_fit
layout_600000_bytes_of_a_kernel_refused_2 = refl

-- 0 bytes of a kernel and 0 of an initrd: refused
pub layout_0_bytes_of_a_kernel_and_0_of_an_initrd_refused : layout_for (file 1024 (piece 497 (hex 1 0x05) ∷ piece 510 (hex 2 0x55aa) ∷ piece 529 (hex 1 0x01) ∷ piece 556 (hex 4 0xffffff37) ∷ piece 568 (hex 1 0xff) ∷ piece 580 (hex 1 0xbe) ∷ piece 911 (codes "&") ∷ [])) 0 (Some 0) 255 1048576 ≡ Err TooShort
unfolding number16 number32 is_zero setup_of version_of header_of header_at fit_checks plan_memory replaced_fields patch command_line written_by place kernel_fit
layout_0_bytes_of_a_kernel_and_0_of_an_initrd_refused = refl

-- 1023 bytes of a kernel: refused
pub layout_1023_bytes_of_a_kernel_refused_2 : layout_for (file 1024 (piece 102 (hex 1 0xf8) ∷ piece 505 (hex 15 0x5e0000000055aa0000486472530602) ∷ piece 529 (hex 1 0x81) ∷ piece 556 (hex 4 0xffffff37) ∷ piece 568 (hex 1 0x14) ∷ piece 873 (codes "O") ∷ [])) 1023 None 255 1048576 ≡ Err TooShort
unfolding number16 number32 is_zero setup_of version_of header_of header_at fit_checks plan_memory replaced_fields patch command_line written_by place kernel_fit
layout_1023_bytes_of_a_kernel_refused_2 = refl

-- 100000 bytes of a kernel and 700 of an initrd: they have a place
pub layout_100000_bytes_of_a_kernel_and_700_of_an_initrd_they_have_a_place : layout_for (file 1024 (piece 183 (hex 1 0xaa) ∷ piece 419 (hex 1 0xeb) ∷ piece 497 (hex 1 0x01) ∷ piece 510 (hex 10 0x55aa0000486472530002) ∷ piece 529 (codes " ") ∷ piece 556 (hex 3 0xffffff) ∷ piece 568 (hex 1 0xff) ∷ piece 897 (hex 1 0x10) ∷ [])) 100000 (Some 700) 12 16777216 ≡ Ok (record { real = record { address = 0x90000; size = 1024 }; protected = record { address = 0x10000; size = 98976 }; initrd = (Some (record { address = 0xfff000; size = 700 })); line = record { address = 0x99800; size = 13 } })
unfolding number16 number32 is_zero setup_of version_of header_of header_at fit_checks plan_memory replaced_fields patch command_line written_by place kernel_fit
layout_100000_bytes_of_a_kernel_and_700_of_an_initrd_they_have_a_place = refl

-- 512 bytes of a kernel and 1 of an initrd: refused
pub layout_512_bytes_of_a_kernel_and_1_of_an_initrd_refused : layout_for (file 1024 (piece 334 (hex 1 0x3f) ∷ piece 367 (codes "`") ∷ piece 497 (hex 1 0x05) ∷ piece 510 (hex 10 0x55aa0000486472530002) ∷ piece 529 (hex 1 0x01) ∷ piece 556 (hex 4 0xffffff37) ∷ piece 568 (hex 1 0x14) ∷ piece 698 (codes "i") ∷ [])) 512 (Some 1) 255 1052672 ≡ Err TooShort
unfolding number16 number32 is_zero setup_of version_of header_of header_at fit_checks plan_memory replaced_fields patch command_line written_by place kernel_fit
layout_512_bytes_of_a_kernel_and_1_of_an_initrd_refused = refl

-- 1529619687 bytes of a kernel and 0 of an initrd: refused
pub layout_1529619687_bytes_of_a_kernel_and_0_of_an_initrd_refused : layout_for (file 1024 (piece 497 (hex 1 0x01) ∷ piece 510 (hex 10 0x55aa0000486472530202) ∷ piece 529 (hex 1 0x01) ∷ piece 556 (hex 4 0xffffff37) ∷ piece 568 (hex 1 0xff) ∷ piece 650 (hex 1 0x1f) ∷ piece 855 (hex 1 0x90) ∷ piece 901 (hex 1 0x3f) ∷ [])) 1529619687 (Some 0) 33 1073741824 ≡ Err (NoRoom 1530667239 1073741824)
unfolding number16 number32 is_zero setup_of version_of header_of header_at fit_checks plan_memory replaced_fields patch command_line written_by place kernel_fit
layout_1529619687_bytes_of_a_kernel_and_0_of_an_initrd_refused = refl

-- 2560 bytes of a kernel and 5000 of an initrd: refused
pub layout_2560_bytes_of_a_kernel_and_5000_of_an_initrd_refused : layout_for (file 1024 (piece 124 (hex 1 0xf7) ∷ piece 368 (hex 1 0x93) ∷ piece 497 (hex 1 0x01) ∷ piece 510 (hex 2 0x55aa) ∷ piece 529 (hex 1 0xff) ∷ piece 556 (hex 4 0xffffff37) ∷ piece 568 (hex 1 0x14) ∷ piece 703 (codes "u") ∷ [])) 2560 (Some 5000) 33 2097152 ≡ Err NoInitrd
unfolding number16 number32 is_zero setup_of version_of header_of header_at fit_checks plan_memory replaced_fields patch command_line written_by place kernel_fit
layout_2560_bytes_of_a_kernel_and_5000_of_an_initrd_refused = refl

-- 1536 bytes of a kernel and 5000 of an initrd: refused
pub layout_1536_bytes_of_a_kernel_and_5000_of_an_initrd_refused : layout_for (file 1024 (piece 362 (codes "2") ∷ piece 497 (hex 1 0x05) ∷ piece 510 (hex 10 0x55aa0000486472530302) ∷ piece 529 (codes " ") ∷ piece 556 (hex 4 0xffffff37) ∷ piece 568 (hex 1 0xff) ∷ piece 733 (codes "t") ∷ piece 872 (hex 1 0xea) ∷ [])) 1536 (Some 5000) 255 1052672 ≡ Err TooShort
unfolding number16 number32 is_zero setup_of version_of header_of header_at fit_checks plan_memory replaced_fields patch command_line written_by place kernel_fit
layout_1536_bytes_of_a_kernel_and_5000_of_an_initrd_refused = refl

-- 0 bytes of a kernel: refused
pub layout_0_bytes_of_a_kernel_refused : layout_for (file 1024 (piece 253 (hex 1 0xaf) ∷ piece 510 (hex 10 0xaa550000486472530c02) ∷ piece 529 (codes " ") ∷ piece 556 (hex 4 0xffffff37) ∷ piece 634 (hex 1 0xa6) ∷ piece 678 (codes "5") ∷ [])) 0 None 0 1052672 ≡ Err TooShort
unfolding number16 number32 is_zero setup_of version_of header_of header_at fit_checks plan_memory replaced_fields patch command_line written_by place kernel_fit
layout_0_bytes_of_a_kernel_refused = refl

-- 1024 bytes of a kernel: refused
pub layout_1024_bytes_of_a_kernel_refused : layout_for (file 1024 (piece 40 (hex 1 0x8e) ∷ piece 497 (hex 1 0x01) ∷ piece 510 (hex 2 0x55aa) ∷ piece 529 (hex 1 0x01) ∷ piece 556 (hex 4 0xffffff37) ∷ piece 877 (hex 1 0x81) ∷ piece 1002 (hex 1 0xa7) ∷ [])) 1024 None 300 234674857 ≡ Err (LineTooLong 300)
unfolding number16 number32 is_zero setup_of version_of header_of header_at fit_checks plan_memory replaced_fields patch command_line written_by place kernel_fit
layout_1024_bytes_of_a_kernel_refused = refl

-- 1024 bytes of a kernel and 4294967295 of an initrd: refused
pub layout_1024_bytes_of_a_kernel_and_4294967295_of_an_initrd_refused : layout_for (file 1024 (piece 442 (codes "i") ∷ piece 497 (hex 1 0x01) ∷ piece 510 (hex 10 0x55aa0000486472530002) ∷ piece 529 (hex 1 0xff) ∷ piece 556 (hex 4 0xffffff37) ∷ piece 568 (hex 2 0xff07) ∷ piece 741 (hex 1 0xae) ∷ piece 771 (hex 1 0xc4) ∷ [])) 1024 (Some 4294967295) 12 1073741824 ≡ Err (NoRoom 4296015871 939524096)
unfolding number16 number32 is_zero setup_of version_of header_of header_at fit_checks plan_memory replaced_fields patch command_line written_by place kernel_fit
layout_1024_bytes_of_a_kernel_and_4294967295_of_an_initrd_refused = refl

-- 512 bytes of a kernel: refused
pub layout_512_bytes_of_a_kernel_refused : layout_for (file 1024 (piece 161 (hex 1 0x05) ∷ piece 441 (hex 1 0xfa) ∷ piece 497 (hex 1 0x01) ∷ piece 510 (hex 10 0x55aa0000486472530302) ∷ piece 529 (hex 1 0x01) ∷ piece 556 (hex 3 0xffff1f) ∷ piece 568 (hex 1 0x14) ∷ piece 860 (hex 1 0xb0) ∷ [])) 512 None 300 2097152 ≡ Err TooShort
unfolding number16 number32 is_zero setup_of version_of header_of header_at fit_checks plan_memory replaced_fields patch command_line written_by place kernel_fit
layout_512_bytes_of_a_kernel_refused = refl

-- 600000 bytes of a kernel and 4294967295 of an initrd: refused
pub layout_600000_bytes_of_a_kernel_and_4294967295_of_an_initrd_refused : layout_for (file 1024 (piece 374 (hex 1 0x92) ∷ piece 463 (codes "'") ∷ piece 497 (hex 1 0x01) ∷ piece 510 (hex 10 0x55aa0000486472530302) ∷ piece 529 (codes " ") ∷ piece 556 (hex 4 0xffffff37) ∷ piece 568 (hex 1 0xff) ∷ piece 856 (codes "B") ∷ [])) 600000 (Some 4294967295) 0 1052672 ≡ Err (LowTooLarge 598976)
unfolding number16 number32 is_zero setup_of version_of header_of header_at fit_checks plan_memory replaced_fields patch command_line written_by place kernel_fit
layout_600000_bytes_of_a_kernel_and_4294967295_of_an_initrd_refused = refl

-- 1023 bytes of a kernel: refused
pub layout_1023_bytes_of_a_kernel_refused_3 : layout_for (file 1024 (piece 497 (hex 1 0x01) ∷ piece 510 (hex 10 0x55aa0000486472530602) ∷ piece 529 (hex 1 0x81) ∷ piece 556 (hex 4 0xffffff37) ∷ piece 568 (hex 1 0xff) ∷ piece 770 (hex 1 0xc0) ∷ piece 892 (codes "Q") ∷ piece 944 (codes "|") ∷ [])) 1023 None 12 1048576 ≡ Err TooShort
unfolding number16 number32 is_zero setup_of version_of header_of header_at fit_checks plan_memory replaced_fields patch command_line written_by place kernel_fit
layout_1023_bytes_of_a_kernel_refused_3 = refl

-- 511 bytes of a kernel and 1000000 of an initrd: refused
pub layout_511_bytes_of_a_kernel_and_1000000_of_an_initrd_refused : layout_for (file 1024 (piece 510 (hex 10 0x55aa0000486472530202) ∷ piece 529 (hex 1 0x01) ∷ piece 556 (hex 3 0xffff1f) ∷ piece 568 (hex 2 0xff07) ∷ piece 650 (hex 1 0x7f) ∷ piece 796 (hex 1 0xab) ∷ piece 928 (hex 1 0x8e) ∷ [])) 511 (Some 1000000) 300 16777216 ≡ Err TooShort
unfolding number16 number32 is_zero setup_of version_of header_of header_at fit_checks plan_memory replaced_fields patch command_line written_by place kernel_fit
layout_511_bytes_of_a_kernel_and_1000000_of_an_initrd_refused = refl

-- 600000 bytes of a kernel and 700 of an initrd: refused
pub layout_600000_bytes_of_a_kernel_and_700_of_an_initrd_refused : layout_for (file 1024 (piece 357 (hex 1 0xb4) ∷ piece 403 (hex 1 0xf6) ∷ piece 510 (hex 10 0x55aa0000486472530302) ∷ piece 556 (hex 4 0xffffffff) ∷ piece 568 (hex 1 0xff) ∷ piece 817 (hex 1 0x06) ∷ [])) 600000 (Some 700) 33 856292367 ≡ Err (LowTooLarge 597440)
unfolding number16 number32 is_zero setup_of version_of header_of header_at fit_checks plan_memory replaced_fields patch command_line written_by place kernel_fit
layout_600000_bytes_of_a_kernel_and_700_of_an_initrd_refused = refl

-- 4294967295 bytes of a kernel and 5000 of an initrd: refused
pub layout_4294967295_bytes_of_a_kernel_and_5000_of_an_initrd_refused : layout_for (file 1024 (piece 328 (hex 1 0x05) ∷ piece 387 (hex 1 0xf5) ∷ piece 497 (hex 1 0x05) ∷ piece 510 (hex 2 0x55aa) ∷ piece 529 (hex 1 0x01) ∷ piece 556 (hex 3 0xffff1f) ∷ piece 568 (hex 1 0xff) ∷ piece 598 (hex 1 0xf6) ∷ [])) 4294967295 (Some 5000) 255 16777216 ≡ Err (LowTooLarge 4294964223)
unfolding number16 number32 is_zero setup_of version_of header_of header_at fit_checks plan_memory replaced_fields patch command_line written_by place kernel_fit
layout_4294967295_bytes_of_a_kernel_and_5000_of_an_initrd_refused = refl

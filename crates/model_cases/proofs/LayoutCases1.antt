-- Cases of the model, written by tools/model_cases.py: where kernels of any length lie.
use Rattle.std.proofs.Common.{◌≡◌, ◌∷◌, [], None, Some, Ok, Err, codes, refl}
use Rattle.lilo_model.specs.Bytes.{number16, number32, is_zero}
use Rattle.lilo_model.specs.Header.{setup_of, version_of, header_of, header_at, fit_checks, plan_memory, replaced_fields, patch, TooShort, SetupTooLarge, LowTooLarge, NoInitrd, NoRoom, LineTooLong}
use Rattle.lilo_model.specs.Place.{command_line, written_by, place, kernel_fit}
use Rattle.model_cases.specs.Sparse.{hex, piece, file, layout_for}

-- 0 setup sectors
pub layout_0_setup_sectors : layout_for (file 1024 (piece 510 (hex 10 0x55aa0000486472530602) ∷ piece 529 (hex 1 0x01) ∷ piece 556 (hex 4 0xffffff37) ∷ piece 568 (hex 1 0xff) ∷ [])) 70000 None 33 16777216 ≡ Ok (record { real = record { address = 0x90000; size = 2560 }; protected = record { address = 0x100000; size = 67440 }; initrd = None; line = record { address = 0x99800; size = 34 } })
unfolding number16 number32 is_zero setup_of version_of header_of header_at fit_checks plan_memory replaced_fields patch command_line written_by place kernel_fit
layout_0_setup_sectors = refl

-- 1 setup sectors
pub layout_1_setup_sectors : layout_for (file 1024 (piece 497 (hex 1 0x01) ∷ piece 510 (hex 10 0x55aa0000486472530602) ∷ piece 529 (hex 1 0x01) ∷ piece 556 (hex 4 0xffffff37) ∷ piece 568 (hex 1 0xff) ∷ [])) 70000 None 33 16777216 ≡ Ok (record { real = record { address = 0x90000; size = 1024 }; protected = record { address = 0x100000; size = 68976 }; initrd = None; line = record { address = 0x99800; size = 34 } })
unfolding number16 number32 is_zero setup_of version_of header_of header_at fit_checks plan_memory replaced_fields patch command_line written_by place kernel_fit
layout_1_setup_sectors = refl

-- 64 setup sectors
pub layout_64_setup_sectors : layout_for (file 1024 (piece 497 (codes "@") ∷ piece 510 (hex 10 0x55aa0000486472530602) ∷ piece 529 (hex 1 0x01) ∷ piece 556 (hex 4 0xffffff37) ∷ piece 568 (hex 1 0xff) ∷ [])) 70000 None 33 16777216 ≡ Ok (record { real = record { address = 0x90000; size = 33280 }; protected = record { address = 0x100000; size = 36720 }; initrd = None; line = record { address = 0x99800; size = 34 } })
unfolding number16 number32 is_zero setup_of version_of header_of header_at fit_checks plan_memory replaced_fields patch command_line written_by place kernel_fit
layout_64_setup_sectors = refl

-- 65 setup sectors
pub layout_65_setup_sectors : layout_for (file 1024 (piece 497 (codes "A") ∷ piece 510 (hex 10 0x55aa0000486472530602) ∷ piece 529 (hex 1 0x01) ∷ piece 556 (hex 4 0xffffff37) ∷ piece 568 (hex 1 0xff) ∷ [])) 70000 None 33 16777216 ≡ Err (SetupTooLarge 65)
unfolding number16 number32 is_zero setup_of version_of header_of header_at fit_checks plan_memory replaced_fields patch command_line written_by place kernel_fit
layout_65_setup_sectors = refl

-- 255 setup sectors
pub layout_255_setup_sectors : layout_for (file 1024 (piece 497 (hex 1 0xff) ∷ piece 510 (hex 10 0x55aa0000486472530602) ∷ piece 529 (hex 1 0x01) ∷ piece 556 (hex 4 0xffffff37) ∷ piece 568 (hex 1 0xff) ∷ [])) 70000 None 33 16777216 ≡ Err (SetupTooLarge 255)
unfolding number16 number32 is_zero setup_of version_of header_of header_at fit_checks plan_memory replaced_fields patch command_line written_by place kernel_fit
layout_255_setup_sectors = refl

-- 64 setup sectors in a kernel that ends with them
pub layout_64_setup_sectors_in_a_kernel_that_ends_with_them : layout_for (file 1024 (piece 497 (codes "@") ∷ piece 510 (hex 10 0x55aa0000486472530602) ∷ piece 529 (hex 1 0x01) ∷ piece 556 (hex 4 0xffffff37) ∷ piece 568 (hex 1 0xff) ∷ [])) 33280 None 33 16777216 ≡ Ok (record { real = record { address = 0x90000; size = 33280 }; protected = record { address = 0x100000; size = 0 }; initrd = None; line = record { address = 0x99800; size = 34 } })
unfolding number16 number32 is_zero setup_of version_of header_of header_at fit_checks plan_memory replaced_fields patch command_line written_by place kernel_fit
layout_64_setup_sectors_in_a_kernel_that_ends_with_them = refl

-- 64 setup sectors in a kernel one byte shorter
pub layout_64_setup_sectors_in_a_kernel_one_byte_shorter : layout_for (file 1024 (piece 497 (codes "@") ∷ piece 510 (hex 10 0x55aa0000486472530602) ∷ piece 529 (hex 1 0x01) ∷ piece 556 (hex 4 0xffffff37) ∷ piece 568 (hex 1 0xff) ∷ [])) 33279 None 33 16777216 ≡ Err TooShort
unfolding number16 number32 is_zero setup_of version_of header_of header_at fit_checks plan_memory replaced_fields patch command_line written_by place kernel_fit
layout_64_setup_sectors_in_a_kernel_one_byte_shorter = refl

-- a low kernel with 524288 bytes after its setup
pub layout_a_low_kernel_with_524288_bytes_after_its_setup : layout_for (file 1024 (piece 497 (hex 1 0x01) ∷ piece 510 (hex 10 0x55aa0000486472530602) ∷ piece 556 (hex 4 0xffffff37) ∷ piece 568 (hex 1 0xff) ∷ [])) 525312 None 33 16777216 ≡ Ok (record { real = record { address = 0x90000; size = 1024 }; protected = record { address = 0x10000; size = 524288 }; initrd = None; line = record { address = 0x99800; size = 34 } })
unfolding number16 number32 is_zero setup_of version_of header_of header_at fit_checks plan_memory replaced_fields patch command_line written_by place kernel_fit
layout_a_low_kernel_with_524288_bytes_after_its_setup = refl

-- a low kernel with 524289 bytes after its setup
pub layout_a_low_kernel_with_524289_bytes_after_its_setup : layout_for (file 1024 (piece 497 (hex 1 0x01) ∷ piece 510 (hex 10 0x55aa0000486472530602) ∷ piece 556 (hex 4 0xffffff37) ∷ piece 568 (hex 1 0xff) ∷ [])) 525313 None 33 16777216 ≡ Err (LowTooLarge 524289)
unfolding number16 number32 is_zero setup_of version_of header_of header_at fit_checks plan_memory replaced_fields patch command_line written_by place kernel_fit
layout_a_low_kernel_with_524289_bytes_after_its_setup = refl

-- a kernel of 4,294,967,295 bytes
pub layout_a_kernel_of_4_294_967_295_bytes : layout_for (file 1024 (piece 497 (hex 1 0x01) ∷ piece 510 (hex 10 0x55aa0000486472530602) ∷ piece 529 (hex 1 0x01) ∷ piece 556 (hex 4 0xffffff37) ∷ piece 568 (hex 1 0xff) ∷ [])) 4294967295 None 33 1073741824 ≡ Err (NoRoom 4296014847 1073741824)
unfolding number16 number32 is_zero setup_of version_of header_of header_at fit_checks plan_memory replaced_fields patch command_line written_by place kernel_fit
layout_a_kernel_of_4_294_967_295_bytes = refl

-- a low kernel of 4,294,967,295 bytes
pub layout_a_low_kernel_of_4_294_967_295_bytes : layout_for (file 1024 (piece 497 (hex 1 0x01) ∷ piece 510 (hex 10 0x55aa0000486472530602) ∷ piece 556 (hex 4 0xffffff37) ∷ piece 568 (hex 1 0xff) ∷ [])) 4294967295 None 33 1073741824 ≡ Err (LowTooLarge 4294966271)
unfolding number16 number32 is_zero setup_of version_of header_of header_at fit_checks plan_memory replaced_fields patch command_line written_by place kernel_fit
layout_a_low_kernel_of_4_294_967_295_bytes = refl

-- an initrd of 4,294,967,295 bytes
pub layout_an_initrd_of_4_294_967_295_bytes : layout_for (file 1024 (piece 497 (hex 1 0x01) ∷ piece 510 (hex 10 0x55aa0000486472530602) ∷ piece 529 (hex 1 0x01) ∷ piece 556 (hex 4 0xffffffff) ∷ piece 568 (hex 1 0xff) ∷ [])) 1029 (Some 4294967295) 33 1073741824 ≡ Err (NoRoom 4296019967 1073741824)
unfolding number16 number32 is_zero setup_of version_of header_of header_at fit_checks plan_memory replaced_fields patch command_line written_by place kernel_fit
layout_an_initrd_of_4_294_967_295_bytes = refl

-- an initrd that just fits
pub layout_an_initrd_that_just_fits : layout_for (file 1024 (piece 497 (hex 1 0x01) ∷ piece 510 (hex 10 0x55aa0000486472530602) ∷ piece 529 (hex 1 0x01) ∷ piece 556 (hex 4 0xffffff37) ∷ piece 568 (hex 1 0xff) ∷ [])) 1029 (Some 15724544) 33 16777216 ≡ Ok (record { real = record { address = 0x90000; size = 1024 }; protected = record { address = 0x100000; size = 5 }; initrd = (Some (record { address = 0x101000; size = 15724544 })); line = record { address = 0x99800; size = 34 } })
unfolding number16 number32 is_zero setup_of version_of header_of header_at fit_checks plan_memory replaced_fields patch command_line written_by place kernel_fit
layout_an_initrd_that_just_fits = refl

-- an initrd one byte too long
pub layout_an_initrd_one_byte_too_long : layout_for (file 1024 (piece 497 (hex 1 0x01) ∷ piece 510 (hex 10 0x55aa0000486472530602) ∷ piece 529 (hex 1 0x01) ∷ piece 556 (hex 4 0xffffff37) ∷ piece 568 (hex 1 0xff) ∷ [])) 1029 (Some 15724545) 33 16777216 ≡ Err (NoRoom 16777217 16777216)
unfolding number16 number32 is_zero setup_of version_of header_of header_at fit_checks plan_memory replaced_fields patch command_line written_by place kernel_fit
layout_an_initrd_one_byte_too_long = refl

-- an initrd that must end below an odd limit
pub layout_an_initrd_that_must_end_below_an_odd_limit : layout_for (file 1024 (piece 497 (hex 1 0x01) ∷ piece 510 (hex 10 0x55aa0000486472530602) ∷ piece 529 (hex 1 0x01) ∷ piece 556 (hex 3 0xfeff1f) ∷ piece 568 (hex 1 0xff) ∷ [])) 1029 (Some 1000) 33 16777216 ≡ Ok (record { real = record { address = 0x90000; size = 1024 }; protected = record { address = 0x100000; size = 5 }; initrd = (Some (record { address = 0x1ff000; size = 1000 })); line = record { address = 0x99800; size = 34 } })
unfolding number16 number32 is_zero setup_of version_of header_of header_at fit_checks plan_memory replaced_fields patch command_line written_by place kernel_fit
layout_an_initrd_that_must_end_below_an_odd_limit = refl

-- before 2.03 the limit of an initrd is fixed
pub layout_before_2_03_the_limit_of_an_initrd_is_fixed : layout_for (file 1024 (piece 497 (hex 1 0x01) ∷ piece 510 (hex 10 0x55aa0000486472530202) ∷ piece 529 (hex 1 0x01) ∷ piece 556 (hex 3 0xffff1f) ∷ piece 568 (hex 1 0xff) ∷ [])) 1029 (Some 1000) 33 1073741824 ≡ Ok (record { real = record { address = 0x90000; size = 1024 }; protected = record { address = 0x100000; size = 5 }; initrd = (Some (record { address = 0x37fff000; size = 1000 })); line = record { address = 0x99800; size = 34 } })
unfolding number16 number32 is_zero setup_of version_of header_of header_at fit_checks plan_memory replaced_fields patch command_line written_by place kernel_fit
layout_before_2_03_the_limit_of_an_initrd_is_fixed = refl

-- from 2.03 on the limit of an initrd is read
pub layout_from_2_03_on_the_limit_of_an_initrd_is_read : layout_for (file 1024 (piece 497 (hex 1 0x01) ∷ piece 510 (hex 10 0x55aa0000486472530302) ∷ piece 529 (hex 1 0x01) ∷ piece 556 (hex 3 0xffff1f) ∷ piece 568 (hex 1 0xff) ∷ [])) 1029 (Some 1000) 33 1073741824 ≡ Ok (record { real = record { address = 0x90000; size = 1024 }; protected = record { address = 0x100000; size = 5 }; initrd = (Some (record { address = 0x1ff000; size = 1000 })); line = record { address = 0x99800; size = 34 } })
unfolding number16 number32 is_zero setup_of version_of header_of header_at fit_checks plan_memory replaced_fields patch command_line written_by place kernel_fit
layout_from_2_03_on_the_limit_of_an_initrd_is_read = refl

-- before 2.06 the limit of a line is 255
pub layout_before_2_06_the_limit_of_a_line_is_255 : layout_for (file 1024 (piece 497 (hex 1 0x01) ∷ piece 510 (hex 10 0x55aa0000486472530502) ∷ piece 529 (hex 1 0x01) ∷ piece 556 (hex 4 0xffffff37) ∷ piece 568 (codes "\n") ∷ [])) 1029 None 33 16777216 ≡ Ok (record { real = record { address = 0x90000; size = 1024 }; protected = record { address = 0x100000; size = 5 }; initrd = None; line = record { address = 0x99800; size = 34 } })
unfolding number16 number32 is_zero setup_of version_of header_of header_at fit_checks plan_memory replaced_fields patch command_line written_by place kernel_fit
layout_before_2_06_the_limit_of_a_line_is_255 = refl

-- from 2.06 on the limit of a line is read
pub layout_from_2_06_on_the_limit_of_a_line_is_read : layout_for (file 1024 (piece 497 (hex 1 0x01) ∷ piece 510 (hex 10 0x55aa0000486472530602) ∷ piece 529 (hex 1 0x01) ∷ piece 556 (hex 4 0xffffff37) ∷ piece 568 (codes "\n") ∷ [])) 1029 None 33 16777216 ≡ Err (LineTooLong 33)
unfolding number16 number32 is_zero setup_of version_of header_of header_at fit_checks plan_memory replaced_fields patch command_line written_by place kernel_fit
layout_from_2_06_on_the_limit_of_a_line_is_read = refl

-- a limit of a line above 255 counts as 255
pub layout_a_limit_of_a_line_above_255_counts_as_255 : layout_for (file 1024 (piece 497 (hex 1 0x01) ∷ piece 510 (hex 10 0x55aa0000486472530602) ∷ piece 529 (hex 1 0x01) ∷ piece 556 (hex 4 0xffffff37) ∷ piece 568 (hex 2 0xff07) ∷ [])) 1029 None 256 16777216 ≡ Err (LineTooLong 256)
unfolding number16 number32 is_zero setup_of version_of header_of header_at fit_checks plan_memory replaced_fields patch command_line written_by place kernel_fit
layout_a_limit_of_a_line_above_255_counts_as_255 = refl

-- a line too long before the memory is looked at
pub layout_a_line_too_long_before_the_memory_is_looked_at : layout_for (file 1024 (piece 497 (hex 1 0x01) ∷ piece 510 (hex 10 0x55aa0000486472530602) ∷ piece 529 (hex 1 0x01) ∷ piece 556 (hex 4 0xffffff37) ∷ piece 568 (codes "\n") ∷ [])) 1029 (Some 5) 33 1048576 ≡ Err (LineTooLong 33)
unfolding number16 number32 is_zero setup_of version_of header_of header_at fit_checks plan_memory replaced_fields patch command_line written_by place kernel_fit
layout_a_line_too_long_before_the_memory_is_looked_at = refl

-- no memory for the kernel before none for the initrd
pub layout_no_memory_for_the_kernel_before_none_for_the_initrd : layout_for (file 1024 (piece 497 (hex 1 0x01) ∷ piece 510 (hex 10 0x55aa0000486472530602) ∷ piece 529 (hex 1 0x01) ∷ piece 556 (hex 4 0xffffff37) ∷ piece 568 (hex 1 0xff) ∷ [])) 1029 (Some 5) 33 1048576 ≡ Err (NoRoom 1048581 1048576)
unfolding number16 number32 is_zero setup_of version_of header_of header_at fit_checks plan_memory replaced_fields patch command_line written_by place kernel_fit
layout_no_memory_for_the_kernel_before_none_for_the_initrd = refl

-- an initrd of no bytes
pub layout_an_initrd_of_no_bytes : layout_for (file 1024 (piece 497 (hex 1 0x01) ∷ piece 510 (hex 10 0x55aa0000486472530602) ∷ piece 529 (hex 1 0x01) ∷ piece 556 (hex 4 0xffffff37) ∷ piece 568 (hex 1 0xff) ∷ [])) 1029 (Some 0) 33 16777216 ≡ Ok (record { real = record { address = 0x90000; size = 1024 }; protected = record { address = 0x100000; size = 5 }; initrd = (Some (record { address = 0x1000000; size = 0 })); line = record { address = 0x99800; size = 34 } })
unfolding number16 number32 is_zero setup_of version_of header_of header_at fit_checks plan_memory replaced_fields patch command_line written_by place kernel_fit
layout_an_initrd_of_no_bytes = refl

-- an initrd of no bytes without a version
pub layout_an_initrd_of_no_bytes_without_a_version : layout_for (file 1024 (piece 497 (hex 1 0x01) ∷ piece 510 (hex 2 0x55aa) ∷ piece 529 (hex 1 0x01) ∷ piece 556 (hex 4 0xffffff37) ∷ piece 568 (hex 1 0xff) ∷ [])) 1029 (Some 0) 33 16777216 ≡ Err NoInitrd
unfolding number16 number32 is_zero setup_of version_of header_of header_at fit_checks plan_memory replaced_fields patch command_line written_by place kernel_fit
layout_an_initrd_of_no_bytes_without_a_version = refl

-- 5000 bytes of a kernel and 4294967295 of an initrd: refused
pub layout_5000_bytes_of_a_kernel_and_4294967295_of_an_initrd_refused : layout_for (file 1024 (piece 39 (hex 1 0xc9) ∷ piece 80 (hex 1 0xf7) ∷ piece 168 (codes "&") ∷ piece 497 (hex 1 0x01) ∷ piece 510 (hex 10 0x55aa0000486472530c02) ∷ piece 556 (hex 3 0xffffff) ∷ piece 568 (hex 1 0xff) ∷ [])) 5000 (Some 4294967295) 0 1073741824 ≡ Err (NoRoom 4296015871 16777216)
unfolding number16 number32 is_zero setup_of version_of header_of header_at fit_checks plan_memory replaced_fields patch command_line written_by place kernel_fit
layout_5000_bytes_of_a_kernel_and_4294967295_of_an_initrd_refused = refl

-- 1023 bytes of a kernel: refused
pub layout_1023_bytes_of_a_kernel_refused : layout_for (file 1024 (piece 321 (hex 1 0xff) ∷ piece 496 (codes "k") ∷ piece 510 (hex 10 0x55aa0000486472530502) ∷ piece 529 (hex 1 0x81) ∷ piece 556 (hex 4 0xffffff37) ∷ piece 568 (hex 1 0xff) ∷ piece 929 (hex 1 0xf5) ∷ [])) 1023 None 0 1052672 ≡ Err TooShort
unfolding number16 number32 is_zero setup_of version_of header_of header_at fit_checks plan_memory replaced_fields patch command_line written_by place kernel_fit
layout_1023_bytes_of_a_kernel_refused = refl

-- 600000 bytes of a kernel: refused
pub layout_600000_bytes_of_a_kernel_refused : layout_for (file 1024 (piece 171 (hex 1 0xc9) ∷ piece 314 (hex 1 0xd1) ∷ piece 497 (hex 1 0x02) ∷ piece 510 (hex 10 0x55aa0000486472530c02) ∷ piece 529 (hex 1 0x01) ∷ piece 556 (hex 3 0xffff1f) ∷ piece 568 (hex 1 0xff) ∷ piece 646 (hex 1 0xa6) ∷ [])) 600000 None 256 1048576 ≡ Err (LineTooLong 256)
unfolding number16 number32 is_zero setup_of version_of header_of header_at fit_checks plan_memory replaced_fields patch command_line written_by place kernel_fit
layout_600000_bytes_of_a_kernel_refused = refl

-- 1536 bytes of a kernel and 4294967295 of an initrd: refused
pub layout_1536_bytes_of_a_kernel_and_4294967295_of_an_initrd_refused : layout_for (file 1024 (piece 313 (codes "*") ∷ piece 342 (codes "$") ∷ piece 487 (hex 1 0xad) ∷ piece 497 (hex 1 0x04) ∷ piece 510 (hex 10 0x55aa0000486472530602) ∷ piece 529 (hex 1 0x01) ∷ piece 557 (hex 2 0x1010) ∷ [])) 1536 (Some 4294967295) 255 16777216 ≡ Err TooShort
unfolding number16 number32 is_zero setup_of version_of header_of header_at fit_checks plan_memory replaced_fields patch command_line written_by place kernel_fit
layout_1536_bytes_of_a_kernel_and_4294967295_of_an_initrd_refused = refl

-- 511 bytes of a kernel and 2444799524 of an initrd: refused
pub layout_511_bytes_of_a_kernel_and_2444799524_of_an_initrd_refused : layout_for (file 1024 (piece 257 (codes ".") ∷ piece 497 (hex 1 0x02) ∷ piece 510 (hex 10 0x55aa0000486472530302) ∷ piece 529 (hex 1 0xff) ∷ piece 556 (hex 3 0xffffff) ∷ piece 568 (hex 2 0xff07) ∷ piece 861 (hex 1 0xa7) ∷ piece 875 (hex 1 0xc3) ∷ [])) 511 (Some 2444799524) 256 1052672 ≡ Err TooShort
unfolding number16 number32 is_zero setup_of version_of header_of header_at fit_checks plan_memory replaced_fields patch command_line written_by place kernel_fit
layout_511_bytes_of_a_kernel_and_2444799524_of_an_initrd_refused = refl

-- 100000 bytes of a kernel: they have a place
pub layout_100000_bytes_of_a_kernel_they_have_a_place : layout_for (file 1024 (piece 390 (codes "^") ∷ piece 497 (hex 1 0x02) ∷ piece 510 (hex 2 0x55aa) ∷ piece 529 (codes " ") ∷ piece 556 (hex 3 0xffff1f) ∷ piece 568 (hex 1 0xff) ∷ piece 587 (codes "=") ∷ piece 622 (codes "R") ∷ [])) 100000 None 12 784955252 ≡ Ok (record { real = record { address = 0x90000; size = 1536 }; protected = record { address = 0x10000; size = 98464 }; initrd = None; line = record { address = 0x99800; size = 13 } })
unfolding number16 number32 is_zero setup_of version_of header_of header_at fit_checks plan_memory replaced_fields patch command_line written_by place kernel_fit
layout_100000_bytes_of_a_kernel_they_have_a_place = refl

-- 1536 bytes of a kernel: they have a place
pub layout_1536_bytes_of_a_kernel_they_have_a_place : layout_for (file 1024 (piece 480 (hex 1 0xa5) ∷ piece 497 (hex 1 0x01) ∷ piece 510 (hex 10 0x55aa0000486472530302) ∷ piece 529 (hex 1 0x01) ∷ piece 556 (hex 4 0xffffff37) ∷ piece 568 (hex 1 0xff) ∷ piece 641 (hex 1 0xa9) ∷ piece 991 (hex 1 0x1b) ∷ [])) 1536 None 33 1073741824 ≡ Ok (record { real = record { address = 0x90000; size = 1024 }; protected = record { address = 0x100000; size = 512 }; initrd = None; line = record { address = 0x99800; size = 34 } })
unfolding number16 number32 is_zero setup_of version_of header_of header_at fit_checks plan_memory replaced_fields patch command_line written_by place kernel_fit
layout_1536_bytes_of_a_kernel_they_have_a_place = refl

-- 4294967295 bytes of a kernel: refused
pub layout_4294967295_bytes_of_a_kernel_refused : layout_for (file 1024 (piece 200 (hex 1 0x1e) ∷ piece 316 (hex 1 0x88) ∷ piece 497 (hex 1 0x04) ∷ piece 510 (hex 10 0x55aa0000486472530502) ∷ piece 529 (hex 1 0x01) ∷ piece 557 (hex 2 0x1010) ∷ piece 568 (hex 1 0xff) ∷ piece 817 (hex 1 0xca) ∷ [])) 4294967295 None 255 2097152 ≡ Err (NoRoom 4296013311 2097152)
unfolding number16 number32 is_zero setup_of version_of header_of header_at fit_checks plan_memory replaced_fields patch command_line written_by place kernel_fit
layout_4294967295_bytes_of_a_kernel_refused = refl

-- 3592325142 bytes of a kernel: refused
pub layout_3592325142_bytes_of_a_kernel_refused : layout_for (file 1024 (piece 128 (codes "3") ∷ piece 497 (hex 1 0x01) ∷ piece 510 (hex 10 0x55aa0000486472530502) ∷ piece 539 (codes "C") ∷ piece 556 (hex 4 0xffffff37) ∷ piece 568 (hex 1 0xff) ∷ piece 753 (hex 1 0xd0) ∷ [])) 3592325142 None 300 1052672 ≡ Err (LowTooLarge 3592324118)
unfolding number16 number32 is_zero setup_of version_of header_of header_at fit_checks plan_memory replaced_fields patch command_line written_by place kernel_fit
layout_3592325142_bytes_of_a_kernel_refused = refl

-- 100000 bytes of a kernel: refused
pub layout_100000_bytes_of_a_kernel_refused : layout_for (file 1024 (piece 72 (hex 1 0x11) ∷ piece 497 (hex 1 0x01) ∷ piece 510 (hex 10 0x55aa0000486472530502) ∷ piece 529 (hex 1 0xff) ∷ piece 538 (hex 1 0x8f) ∷ piece 556 (hex 4 0xffffff37) ∷ piece 609 (hex 1 0xe0) ∷ [])) 100000 None 33 1052672 ≡ Err (NoRoom 1147552 1052672)
unfolding number16 number32 is_zero setup_of version_of header_of header_at fit_checks plan_memory replaced_fields patch command_line written_by place kernel_fit
layout_100000_bytes_of_a_kernel_refused = refl

-- 4294967295 bytes of a kernel: refused
pub layout_4294967295_bytes_of_a_kernel_refused_2 : layout_for (file 1024 (piece 214 (hex 1 0xd0) ∷ piece 510 (hex 10 0x55aa0000486472530c02) ∷ piece 529 (codes " ") ∷ piece 543 (hex 1 0xbf) ∷ piece 556 (hex 4 0xffffffff) ∷ piece 568 (hex 1 0xff) ∷ piece 842 (codes "U") ∷ [])) 4294967295 None 255 1052672 ≡ Err (LowTooLarge 4294964735)
unfolding number16 number32 is_zero setup_of version_of header_of header_at fit_checks plan_memory replaced_fields patch command_line written_by place kernel_fit
layout_4294967295_bytes_of_a_kernel_refused_2 = refl

-- 100000 bytes of a kernel and 5000 of an initrd: they have a place
pub layout_100000_bytes_of_a_kernel_and_5000_of_an_initrd_they_have_a_place : layout_for (file 1024 (piece 2 (codes "w") ∷ piece 137 (codes "O") ∷ piece 497 (hex 1 0x01) ∷ piece 510 (hex 10 0x55aa0000486472530602) ∷ piece 529 (hex 1 0x01) ∷ piece 556 (hex 4 0xffffff37) ∷ piece 568 (hex 1 0xff) ∷ piece 985 (hex 1 0xc2) ∷ [])) 100000 (Some 5000) 12 2097152 ≡ Ok (record { real = record { address = 0x90000; size = 1024 }; protected = record { address = 0x100000; size = 98976 }; initrd = (Some (record { address = 0x1fe000; size = 5000 })); line = record { address = 0x99800; size = 13 } })
unfolding number16 number32 is_zero setup_of version_of header_of header_at fit_checks plan_memory replaced_fields patch command_line written_by place kernel_fit
layout_100000_bytes_of_a_kernel_and_5000_of_an_initrd_they_have_a_place = refl

-- 16777216 bytes of a kernel and 1 of an initrd: refused
pub layout_16777216_bytes_of_a_kernel_and_1_of_an_initrd_refused : layout_for (file 1024 (piece 22 (hex 1 0xd7) ∷ piece 347 (codes "g") ∷ piece 447 (codes " ") ∷ piece 497 (hex 1 0x01) ∷ piece 510 (hex 10 0x55aa0000486472530402) ∷ piece 529 (hex 1 0xff) ∷ piece 556 (hex 4 0xffffff37) ∷ piece 568 (hex 2 0xff07) ∷ [])) 16777216 (Some 1) 12 16777216 ≡ Err (NoRoom 17824768 16777216)
unfolding number16 number32 is_zero setup_of version_of header_of header_at fit_checks plan_memory replaced_fields patch command_line written_by place kernel_fit
layout_16777216_bytes_of_a_kernel_and_1_of_an_initrd_refused = refl

-- 4294967295 bytes of a kernel and 4294967295 of an initrd: refused
pub layout_4294967295_bytes_of_a_kernel_and_4294967295_of_an_initrd_refused : layout_for (file 1024 (piece 64 (codes "O") ∷ piece 497 (hex 1 0x01) ∷ piece 510 (hex 10 0x55aa0000486472530202) ∷ piece 557 (hex 2 0x1010) ∷ piece 568 (hex 1 0x14) ∷ piece 629 (hex 1 0x04) ∷ piece 683 (hex 1 0x97) ∷ [])) 4294967295 (Some 4294967295) 33 1073741824 ≡ Err (LowTooLarge 4294966271)
unfolding number16 number32 is_zero setup_of version_of header_of header_at fit_checks plan_memory replaced_fields patch command_line written_by place kernel_fit
layout_4294967295_bytes_of_a_kernel_and_4294967295_of_an_initrd_refused = refl

-- 5000 bytes of a kernel: they have a place
pub layout_5000_bytes_of_a_kernel_they_have_a_place : layout_for (file 1024 (piece 349 (hex 1 0xe1) ∷ piece 392 (codes "N") ∷ piece 497 (hex 1 0x02) ∷ piece 510 (hex 10 0x55aa0000486472530402) ∷ piece 529 (codes " ") ∷ piece 556 (hex 4 0xffffff37) ∷ piece 620 (hex 1 0xa8) ∷ [])) 5000 None 33 16777216 ≡ Ok (record { real = record { address = 0x90000; size = 1536 }; protected = record { address = 0x10000; size = 3464 }; initrd = None; line = record { address = 0x99800; size = 34 } })
unfolding number16 number32 is_zero setup_of version_of header_of header_at fit_checks plan_memory replaced_fields patch command_line written_by place kernel_fit
layout_5000_bytes_of_a_kernel_they_have_a_place = refl

-- 2560 bytes of a kernel and 700 of an initrd: refused
pub layout_2560_bytes_of_a_kernel_and_700_of_an_initrd_refused : layout_for (file 1024 (piece 187 (codes "9") ∷ piece 497 (hex 1 0x02) ∷ piece 510 (hex 2 0x55aa) ∷ piece 529 (codes " ") ∷ piece 557 (hex 2 0x1010) ∷ piece 636 (codes "\n") ∷ piece 713 (codes "X") ∷ [])) 2560 (Some 700) 0 16777216 ≡ Err NoInitrd
unfolding number16 number32 is_zero setup_of version_of header_of header_at fit_checks plan_memory replaced_fields patch command_line written_by place kernel_fit
layout_2560_bytes_of_a_kernel_and_700_of_an_initrd_refused = refl

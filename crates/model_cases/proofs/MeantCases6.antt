-- Cases of the model, written by tools/plan_cases.py: what a boot does as configurations say.
use Rattle.std.proofs.Common.{◌≡◌, ◌∷◌, ◌++◌, [], codes, replicate, None, Some, refl}
use Rattle.lilo_model.specs.Boot.{Loaded, Handed, Refused}
use Rattle.lilo_model.specs.Bytes.{number16, number32, is_zero}
use Rattle.lilo_model.specs.Choice.{course_of}
use Rattle.lilo_model.specs.ConfLawful.{names_of_section, names_of_config}
use Rattle.lilo_model.specs.DefaultLine.{Empty, Once, Kept}
use Rattle.lilo_model.specs.Header.{setup_of, version_of, header_of, header_at, fit_checks, plan_memory, replaced_fields, patch, NoRoom}
use Rattle.lilo_model.specs.LineWords.{words_of, meaning}
use Rattle.lilo_model.specs.Meant.{started, menu_decision, menu_boot, file_of, middle_text, target_of, menu_entries, menu_of, meant}
use Rattle.lilo_model.specs.MinixFind.{components, child, find_path, file_block, file_at}
use Rattle.lilo_model.specs.MinixFindNames.{child_path, path_of}
use Rattle.lilo_model.specs.Place.{command_line, written_by, place, kernel_fit}
use Rattle.lilo_model.specs.Reason.{Idle, Header}
use Rattle.model_cases.specs.Sparse.{hex, piece, file, typed, waited}
use Rattle.model_cases.specs.PlanChanceConfs1.{conf_r17, conf_r18, conf_r19, conf_r20, conf_r21, conf_r22, conf_r23, conf_r24}
use Rattle.model_cases.specs.PlanNames.{names_many}
use Rattle.model_cases.specs.PlanVolumes.{devices_many}

-- by chance 17
pub meant_by_chance_17 : (meant conf_r17 names_many devices_many (Once (codes "win w")) [] 1073741824 ≡ record { outcome = Loaded (record { real = record { address = 0x90000; size = 1024 }; protected = record { address = 0x100000; size = 3077 }; initrd = None; line = record { address = 0x99800; size = 22 } }); shown = (codes "LILO\nLoading win\n"); line = Some (Kept (codes "win")); written = (record { address = 0x90000; bytes = (file 1024 (piece 497 (hex 1 0x01) ∷ piece 510 (hex 10 0x55aa0000486472530602) ∷ piece 528 (hex 2 0x0281) ∷ piece 549 (hex 11 0x96000000980900ffffff37) ∷ piece 568 (hex 1 0xff) ∷ [])) } ∷ record { address = 0x100000; bytes = (file 3077 (piece 0 (replicate 1024 7) ∷ piece 2048 (replicate 1029 7) ∷ [])) } ∷ record { address = 0x99800; bytes = (file 22 (piece 0 (codes "auto BOOT_IMAGE=win w") ∷ [])) } ∷ []); left = [] }) × (meant conf_r17 names_many devices_many (Once (codes "win2 w")) (waited 4 ++ typed (hex 2 0x090d)) 1073741824 ≡ record { outcome = Loaded (record { real = record { address = 0x90000; size = 1024 }; protected = record { address = 0x100000; size = 3077 }; initrd = None; line = record { address = 0x99800; size = 23 } }); shown = (codes "LILO\nLoading win2\n"); line = Some (Kept (codes "win")); written = (record { address = 0x90000; bytes = (file 1024 (piece 497 (hex 1 0x01) ∷ piece 510 (hex 10 0x55aa0000486472530602) ∷ piece 528 (hex 2 0x0281) ∷ piece 549 (hex 11 0x96000000980900ffffff37) ∷ piece 568 (hex 1 0xff) ∷ [])) } ∷ record { address = 0x100000; bytes = (file 3077 (piece 0 (replicate 1024 7) ∷ piece 2048 (replicate 1029 7) ∷ [])) } ∷ record { address = 0x99800; bytes = (file 23 (piece 0 (codes "auto BOOT_IMAGE=win2 w") ∷ [])) } ∷ []); left = (waited 4 ++ typed (hex 2 0x090d)) })
unfolding number16 number32 is_zero components child find_path file_block file_at child_path path_of names_of_section names_of_config started menu_decision menu_boot file_of middle_text target_of menu_entries menu_of meant setup_of version_of header_of header_at fit_checks plan_memory replaced_fields patch command_line written_by place kernel_fit course_of words_of meaning
meant_by_chance_17 = (refl, refl)

-- by chance 18
pub meant_by_chance_18 : (meant conf_r18 names_many devices_many (Kept (codes "linux2")) [] 2097152 ≡ record { outcome = Loaded (record { real = record { address = 0x90000; size = 1024 }; protected = record { address = 0x10000; size = 5 }; initrd = None; line = record { address = 0x99800; size = 23 } }); shown = (codes "LILO\nLoading old\n"); line = Some (Kept (codes "linux2")); written = (record { address = 0x90000; bytes = (file 1024 (piece 32 (hex 4 0x3fa30098) ∷ piece 497 (hex 1 0x01) ∷ piece 510 (hex 2 0x55aa) ∷ piece 556 (hex 4 0xffffff37) ∷ piece 568 (hex 1 0xff) ∷ [])) } ∷ record { address = 0x10000; bytes = (file 5 (piece 0 (codes "HELLO") ∷ [])) } ∷ record { address = 0x99800; bytes = (file 23 (piece 0 (codes "auto BOOT_IMAGE=old ro") ∷ [])) } ∷ []); left = [] }) × (meant conf_r18 names_many devices_many (Kept (codes "linux2")) (waited 1 ++ typed (hex 5 0x0d6f6c640a)) 16777216 ≡ record { outcome = Loaded (record { real = record { address = 0x90000; size = 1024 }; protected = record { address = 0x10000; size = 5 }; initrd = None; line = record { address = 0x99800; size = 23 } }); shown = (codes "LILO\nLoading old\n"); line = Some (Kept (codes "linux2")); written = (record { address = 0x90000; bytes = (file 1024 (piece 32 (hex 4 0x3fa30098) ∷ piece 497 (hex 1 0x01) ∷ piece 510 (hex 2 0x55aa) ∷ piece 556 (hex 4 0xffffff37) ∷ piece 568 (hex 1 0xff) ∷ [])) } ∷ record { address = 0x10000; bytes = (file 5 (piece 0 (codes "HELLO") ∷ [])) } ∷ record { address = 0x99800; bytes = (file 23 (piece 0 (codes "auto BOOT_IMAGE=old ro") ∷ [])) } ∷ []); left = (waited 1 ++ typed (hex 5 0x0d6f6c640a)) })
unfolding number16 number32 is_zero components child find_path file_block file_at child_path path_of names_of_section names_of_config started menu_decision menu_boot file_of middle_text target_of menu_entries menu_of meant setup_of version_of header_of header_at fit_checks plan_memory replaced_fields patch command_line written_by place kernel_fit course_of words_of meaning
meant_by_chance_18 = (refl, refl)

-- by chance 19
pub meant_by_chance_19 : (meant conf_r19 names_many devices_many (Once (codes "linux2 w")) (typed (hex 9 0x6e6f6e650a6162630d) ++ waited 60 ++ typed (hex 4 0x7475780d)) 1048576 ≡ record { outcome = Refused Idle; shown = (codes "LILO\nboot: none\nNo such image.\nboot: abc\nNo such image.\nboot: tux\nNo such image.\nboot: "); line = Some (Once (codes "linux2 w")); written = []; left = [] }) × (meant conf_r19 names_many devices_many (Kept (codes "gone")) (typed (codes "\n")) 2097152 ≡ record { outcome = Handed; shown = (codes "LILO\nboot: \nLoading x2\n"); line = Some (Kept (codes "x2")); written = (record { address = 0x7be; bytes = (file 64 (piece 0 (hex 14 0x80010203060506073f000000e803) ∷ [])) } ∷ record { address = 0x7c00; bytes = (file 512 (piece 3 (codes "WIN") ∷ piece 510 (hex 2 0x55aa) ∷ [])) } ∷ []); left = [] })
unfolding number16 number32 is_zero components child find_path file_block file_at child_path path_of names_of_section names_of_config started menu_decision menu_boot file_of middle_text target_of menu_entries menu_of meant setup_of version_of header_of header_at fit_checks plan_memory replaced_fields patch command_line written_by place kernel_fit course_of words_of meaning
meant_by_chance_19 = (refl, refl)

-- by chance 20
pub meant_by_chance_20 : (meant conf_r20 names_many devices_many (Kept (codes "x2")) (waited 4 ++ typed (codes "win2 lock\n")) 1048576 ≡ record { outcome = Handed; shown = (codes "LILO\nboot: win2 lock\nLoading win2\n"); line = Some (Kept (codes "win2")); written = (record { address = 0x7c00; bytes = (file 512 (piece 3 (codes "WIN") ∷ piece 510 (hex 2 0x55aa) ∷ [])) } ∷ []); left = [] }) × (meant conf_r20 names_many devices_many Empty (waited 60 ++ typed (codes "\n")) 2097152 ≡ record { outcome = Refused Idle; shown = (codes "LILO\nboot: \nPassword: \nboot: "); line = Some Empty; written = []; left = [] })
unfolding number16 number32 is_zero components child find_path file_block file_at child_path path_of names_of_section names_of_config started menu_decision menu_boot file_of middle_text target_of menu_entries menu_of meant setup_of version_of header_of header_at fit_checks plan_memory replaced_fields patch command_line written_by place kernel_fit course_of words_of meaning
meant_by_chance_20 = (refl, refl)

-- by chance 21
pub meant_by_chance_21 : (meant conf_r21 names_many devices_many (Kept (codes "gone")) (typed (codes "tux\n") ++ waited 60 ++ typed (hex 6 0x6f6c6415090a)) 1073741824 ≡ record { outcome = Refused Idle; shown = (codes "LILO\nboot: tux\nNo such image.\nboot: old\nboot: \nx2\nold\nboot: \nPassword: \nboot: "); line = Some (Kept (codes "gone")); written = []; left = [] }) × (meant conf_r21 names_many devices_many (Kept (codes "gone")) (typed (hex 2 0x0915) ++ waited 60 ++ typed (codes "tux\nold")) 2097152 ≡ record { outcome = Refused Idle; shown = (codes "LILO\nboot: \nx2\nold\nboot: \nboot: tux\nNo such image.\nboot: old"); line = Some (Kept (codes "gone")); written = []; left = [] })
unfolding number16 number32 is_zero components child find_path file_block file_at child_path path_of names_of_section names_of_config started menu_decision menu_boot file_of middle_text target_of menu_entries menu_of meant setup_of version_of header_of header_at fit_checks plan_memory replaced_fields patch command_line written_by place kernel_fit course_of words_of meaning
meant_by_chance_21 = (refl, refl)

-- by chance 22
pub meant_by_chance_22 : (meant conf_r22 names_many devices_many (Kept (codes "linux")) [] 1073741824 ≡ record { outcome = Loaded (record { real = record { address = 0x90000; size = 1024 }; protected = record { address = 0x100000; size = 5 }; initrd = None; line = record { address = 0x99800; size = 26 } }); shown = (codes "LILO\nLoading linux\n"); line = Some (Kept (codes "linux")); written = (record { address = 0x90000; bytes = (file 1024 (piece 497 (hex 1 0x01) ∷ piece 506 (hex 14 0xfdff000055aa0000486472530602) ∷ piece 528 (hex 2 0x0281) ∷ piece 549 (hex 11 0x96000000980900ffffff37) ∷ piece 568 (hex 1 0xff) ∷ [])) } ∷ record { address = 0x100000; bytes = (file 5 (piece 0 (codes "HELLO") ∷ [])) } ∷ record { address = 0x99800; bytes = (file 26 (piece 0 (codes "auto BOOT_IMAGE=linux x y") ∷ [])) } ∷ []); left = [] }) × (meant conf_r22 names_many devices_many Empty (waited 4 ++ typed (codes "\n") ++ waited 60 ++ typed (hex 2 0x3f0a)) 2097152 ≡ record { outcome = Loaded (record { real = record { address = 0x90000; size = 1024 }; protected = record { address = 0x100000; size = 5 }; initrd = (Some (record { address = 0x1ff000; size = 700 })); line = record { address = 0x99800; size = 14 } }); shown = (codes "LILO\nboot: \nLoading x2\n"); line = Some Empty; written = (record { address = 0x90000; bytes = (file 1024 (piece 497 (hex 1 0x01) ∷ piece 510 (hex 10 0x55aa0000486472530602) ∷ piece 528 (hex 2 0x0281) ∷ piece 537 (hex 5 0xf01f00bc02) ∷ piece 549 (hex 11 0x96000000980900ffffff37) ∷ piece 568 (hex 1 0xff) ∷ [])) } ∷ record { address = 0x100000; bytes = (file 5 (piece 0 (codes "HELLO") ∷ [])) } ∷ record { address = 0x1ff000; bytes = (file 700 (piece 0 (replicate 700 165) ∷ [])) } ∷ record { address = 0x99800; bytes = (file 14 (piece 0 (codes "BOOT_IMAGE=x2") ∷ [])) } ∷ []); left = (waited 60 ++ typed (hex 2 0x3f0a)) })
unfolding number16 number32 is_zero components child find_path file_block file_at child_path path_of names_of_section names_of_config started menu_decision menu_boot file_of middle_text target_of menu_entries menu_of meant setup_of version_of header_of header_at fit_checks plan_memory replaced_fields patch command_line written_by place kernel_fit course_of words_of meaning
meant_by_chance_22 = (refl, refl)

-- by chance 23
pub meant_by_chance_23 : (meant conf_r23 names_many devices_many (Kept (codes "win")) (waited 4 ++ typed (hex 6 0x6162087f6c0a) ++ waited 1 ++ typed (hex 4 0x61626315)) 1048576 ≡ record { outcome = Refused (Header (NoRoom 1051653 1048576)); shown = (codes "LILO\nLoading win\nError\n"); line = Some (Kept (codes "win")); written = []; left = (waited 3 ++ typed (hex 6 0x6162087f6c0a) ++ waited 1 ++ typed (hex 4 0x61626315)) }) × (meant conf_r23 names_many devices_many Empty [] 1048576 ≡ record { outcome = Refused Idle; shown = (codes "LILO\nPassword: \nboot: "); line = Some Empty; written = []; left = [] })
unfolding number16 number32 is_zero components child find_path file_block file_at child_path path_of names_of_section names_of_config started menu_decision menu_boot file_of middle_text target_of menu_entries menu_of meant setup_of version_of header_of header_at fit_checks plan_memory replaced_fields patch command_line written_by place kernel_fit course_of words_of meaning
meant_by_chance_23 = (refl, refl)

-- by chance 24
pub meant_by_chance_24 : (meant conf_r24 names_many devices_many Empty (typed (hex 5 0x0d74757815)) 1073741824 ≡ record { outcome = Loaded (record { real = record { address = 0x90000; size = 1024 }; protected = record { address = 0x10000; size = 5 }; initrd = None; line = record { address = 0x99800; size = 29 } }); shown = (codes "LILO\nboot: \nLoading linux\n"); line = Some (Kept (codes "linux")); written = (record { address = 0x90000; bytes = (file 1024 (piece 32 (hex 4 0x3fa30098) ∷ piece 497 (hex 1 0x01) ∷ piece 510 (hex 2 0x55aa) ∷ piece 556 (hex 4 0xffffff37) ∷ piece 568 (hex 1 0xff) ∷ [])) } ∷ record { address = 0x10000; bytes = (file 5 (piece 0 (codes "HELLO") ∷ [])) } ∷ record { address = 0x99800; bytes = (file 29 (piece 0 (codes "BOOT_IMAGE=linux rw root=803") ∷ [])) } ∷ []); left = (typed (hex 4 0x74757815)) }) × (meant conf_r24 names_many devices_many Empty (waited 4 ++ typed (hex 6 0x6c696e757815) ++ waited 1 ++ typed (codes "linux vga=7 z")) 16777216 ≡ record { outcome = Loaded (record { real = record { address = 0x90000; size = 1024 }; protected = record { address = 0x10000; size = 5 }; initrd = None; line = record { address = 0x99800; size = 34 } }); shown = (codes "LILO\nboot: \nLoading linux\n"); line = Some (Kept (codes "linux")); written = (record { address = 0x90000; bytes = (file 1024 (piece 32 (hex 4 0x3fa30098) ∷ piece 497 (hex 1 0x01) ∷ piece 510 (hex 2 0x55aa) ∷ piece 556 (hex 4 0xffffff37) ∷ piece 568 (hex 1 0xff) ∷ [])) } ∷ record { address = 0x10000; bytes = (file 5 (piece 0 (codes "HELLO") ∷ [])) } ∷ record { address = 0x99800; bytes = (file 34 (piece 0 (codes "auto BOOT_IMAGE=linux rw root=803") ∷ [])) } ∷ []); left = (waited 3 ++ typed (hex 6 0x6c696e757815) ++ waited 1 ++ typed (codes "linux vga=7 z")) })
unfolding number16 number32 is_zero components child find_path file_block file_at child_path path_of names_of_section names_of_config started menu_decision menu_boot file_of middle_text target_of menu_entries menu_of meant setup_of version_of header_of header_at fit_checks plan_memory replaced_fields patch command_line written_by place kernel_fit course_of words_of meaning
meant_by_chance_24 = (refl, refl)

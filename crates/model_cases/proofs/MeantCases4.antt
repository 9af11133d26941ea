-- Cases of the model, written by tools/plan_cases.py: what a boot does as configurations say.
use Rattle.std.proofs.Common.{◌≡◌, ◌∷◌, ◌++◌, [], codes, replicate, None, Some, refl}
use Rattle.lilo_model.specs.Boot.{Loaded, Handed, Refused}
use Rattle.lilo_model.specs.Bytes.{number16, number32, is_zero}
use Rattle.lilo_model.specs.Choice.{course_of}
use Rattle.lilo_model.specs.ConfLawful.{names_of_section, names_of_config}
use Rattle.lilo_model.specs.DefaultLine.{Empty, Once, Kept}
use Rattle.lilo_model.specs.Header.{setup_of, version_of, header_of, header_at, fit_checks, plan_memory, replaced_fields, patch, NoRoom}
use Rattle.lilo_model.specs.LineWords.{words_of, meaning}
use Rattle.lilo_model.specs.Meant.{started, menu_decision, menu_boot, file_of, middle_text, target_of, menu_entries, menu_of, meant}
use Rattle.lilo_model.specs.MinixFind.{components, child, find_path, file_block, file_at}
use Rattle.lilo_model.specs.MinixFindNames.{child_path, path_of}
use Rattle.lilo_model.specs.Place.{command_line, written_by, place, kernel_fit}
use Rattle.lilo_model.specs.Reason.{Idle, Header}
use Rattle.model_cases.specs.Sparse.{hex, piece, file, typed, waited}
use Rattle.model_cases.specs.PlanChanceConfs1.{conf_r1, conf_r2, conf_r3, conf_r4, conf_r5, conf_r6, conf_r7, conf_r8}
use Rattle.model_cases.specs.PlanNames.{names_many}
use Rattle.model_cases.specs.PlanVolumes.{devices_many}

-- by chance 1
pub meant_by_chance_1 : (meant conf_r1 names_many devices_many Empty (waited 1 ++ typed (hex 1 0x15)) 2097152 ≡ record { outcome = Refused Idle; shown = (codes "LILO\nboot: \nboot: "); line = Some Empty; written = []; left = [] }) × (meant conf_r1 names_many devices_many (Once (codes "a w")) [] 1048576 ≡ record { outcome = Refused (Header (NoRoom 1049152 1048576)); shown = (codes "LILO\nLoading a\nError\n"); line = Some (Kept (codes "a w")); written = []; left = [] })
unfolding number16 number32 is_zero components child find_path file_block file_at child_path path_of names_of_section names_of_config started menu_decision menu_boot file_of middle_text target_of menu_entries menu_of meant setup_of version_of header_of header_at fit_checks plan_memory replaced_fields patch command_line written_by place kernel_fit course_of words_of meaning
meant_by_chance_1 = (refl, refl)

-- by chance 2
pub meant_by_chance_2 : (meant conf_r2 names_many devices_many (Kept (codes "win")) (waited 4 ++ typed (hex 2 0x3f0d)) 2097152 ≡ record { outcome = Loaded (record { real = record { address = 0x90000; size = 1024 }; protected = record { address = 0x100000; size = 576 }; initrd = None; line = record { address = 0x99800; size = 32 } }); shown = (codes "LILO\nLoading win\n"); line = Some (Kept (codes "win")); written = (record { address = 0x90000; bytes = (file 1024 (piece 497 (hex 1 0x01) ∷ piece 510 (hex 10 0x55aa0000486472530602) ∷ piece 528 (hex 2 0x0281) ∷ piece 549 (hex 11 0x96000000980900ffffff37) ∷ piece 568 (hex 1 0xff) ∷ [])) } ∷ record { address = 0x100000; bytes = (file 576 (piece 0 (replicate 576 5) ∷ [])) } ∷ record { address = 0x99800; bytes = (file 32 (piece 0 (codes "auto BOOT_IMAGE=win ro root=801") ∷ [])) } ∷ []); left = (waited 4 ++ typed (hex 2 0x3f0d)) }) × (meant conf_r2 names_many devices_many (Once (codes "win2 w")) (typed (hex 6 0x3f0a6162630a) ++ waited 60 ++ typed (hex 10 0x77696e32206c6f636b0d)) 1073741824 ≡ record { outcome = Loaded (record { real = record { address = 0x90000; size = 1024 }; protected = record { address = 0x100000; size = 576 }; initrd = None; line = record { address = 0x99800; size = 35 } }); shown = (codes "LILO\nLoading win2\n"); line = Some Empty; written = (record { address = 0x90000; bytes = (file 1024 (piece 497 (hex 1 0x01) ∷ piece 510 (hex 10 0x55aa0000486472530602) ∷ piece 528 (hex 2 0x0281) ∷ piece 549 (hex 11 0x96000000980900ffffff37) ∷ piece 568 (hex 1 0xff) ∷ [])) } ∷ record { address = 0x100000; bytes = (file 576 (piece 0 (replicate 576 5) ∷ [])) } ∷ record { address = 0x99800; bytes = (file 35 (piece 0 (codes "auto BOOT_IMAGE=win2 ro root=801 w") ∷ [])) } ∷ []); left = (typed (hex 6 0x3f0a6162630a) ++ waited 60 ++ typed (hex 10 0x77696e32206c6f636b0d)) })
unfolding number16 number32 is_zero components child find_path file_block file_at child_path path_of names_of_section names_of_config started menu_decision menu_boot file_of middle_text target_of menu_entries menu_of meant setup_of version_of header_of header_at fit_checks plan_memory replaced_fields patch command_line written_by place kernel_fit course_of words_of meaning
meant_by_chance_2 = (refl, refl)

-- by chance 3
pub meant_by_chance_3 : (meant conf_r3 names_many devices_many Empty (typed (codes "linux lock")) 1048576 ≡ record { outcome = Refused Idle; shown = (codes "LILO\nHello\nthere\nboot: linux lock"); line = Some Empty; written = []; left = [] }) × (meant conf_r3 names_many devices_many (Kept (codes "linux")) (typed (hex 2 0x0915) ++ waited 1 ++ typed (hex 2 0x3f0d) ++ waited 60 ++ typed (hex 2 0x0915)) 2097152 ≡ record { outcome = Loaded (record { real = record { address = 0x90000; size = 1024 }; protected = record { address = 0x100000; size = 31976 }; initrd = None; line = record { address = 0x99800; size = 22 } }); shown = (codes "LILO\nLoading linux\n"); line = Some (Kept (codes "linux")); written = (record { address = 0x90000; bytes = (file 1024 (piece 497 (hex 1 0x01) ∷ piece 510 (hex 10 0x55aa0000486472530602) ∷ piece 528 (hex 2 0x0281) ∷ piece 549 (hex 11 0x96000000980900ffffff37) ∷ piece 568 (hex 1 0xff) ∷ [])) } ∷ record { address = 0x100000; bytes = (file 31976 (piece 0 (replicate 31976 5) ∷ [])) } ∷ record { address = 0x99800; bytes = (file 22 (piece 0 (codes "auto BOOT_IMAGE=linux") ∷ [])) } ∷ []); left = (typed (hex 2 0x0915) ++ waited 1 ++ typed (hex 2 0x3f0d) ++ waited 60 ++ typed (hex 2 0x0915)) })
unfolding number16 number32 is_zero components child find_path file_block file_at child_path path_of names_of_section names_of_config started menu_decision menu_boot file_of middle_text target_of menu_entries menu_of meant setup_of version_of header_of header_at fit_checks plan_memory replaced_fields patch command_line written_by place kernel_fit course_of words_of meaning
meant_by_chance_3 = (refl, refl)

-- by chance 4
pub meant_by_chance_4 : (meant conf_r4 names_many devices_many Empty [] 1073741824 ≡ record { outcome = Handed; shown = (codes "LILO\nLoading old\n"); line = Some (Kept (codes "linux2")); written = (record { address = 0x7c00; bytes = (file 512 (piece 3 (codes "WIN") ∷ piece 510 (hex 2 0x55aa) ∷ [])) } ∷ []); left = [] }) × (meant conf_r4 names_many devices_many Empty (waited 1 ++ typed (hex 16 0x6c696e7578206c6f636b0d3f0d6f6c64)) 1073741824 ≡ record { outcome = Handed; shown = (codes "LILO\nLoading old\n"); line = Some (Kept (codes "linux2")); written = (record { address = 0x7c00; bytes = (file 512 (piece 3 (codes "WIN") ∷ piece 510 (hex 2 0x55aa) ∷ [])) } ∷ []); left = (typed (hex 16 0x6c696e7578206c6f636b0d3f0d6f6c64)) })
unfolding number16 number32 is_zero components child find_path file_block file_at child_path path_of names_of_section names_of_config started menu_decision menu_boot file_of middle_text target_of menu_entries menu_of meant setup_of version_of header_of header_at fit_checks plan_memory replaced_fields patch command_line written_by place kernel_fit course_of words_of meaning
meant_by_chance_4 = (refl, refl)

-- by chance 5
pub meant_by_chance_5 : (meant conf_r5 names_many devices_many Empty [] 1073741824 ≡ record { outcome = Refused Idle; shown = (codes "LILO\nboot: \nPassword: \nboot: "); line = Some Empty; written = []; left = [] }) × (meant conf_r5 names_many devices_many (Kept (codes "gone")) [] 2097152 ≡ record { outcome = Refused Idle; shown = (codes "LILO\nboot: \nPassword: \nboot: "); line = Some (Kept (codes "gone")); written = []; left = [] })
unfolding number16 number32 is_zero components child find_path file_block file_at child_path path_of names_of_section names_of_config started menu_decision menu_boot file_of middle_text target_of menu_entries menu_of meant setup_of version_of header_of header_at fit_checks plan_memory replaced_fields patch command_line written_by place kernel_fit course_of words_of meaning
meant_by_chance_5 = (refl, refl)

-- by chance 6
pub meant_by_chance_6 : (meant conf_r6 names_many devices_many (Once (codes "linux w")) (waited 60 ++ typed (hex 10 0x6c696e75781574757815)) 1048576 ≡ record { outcome = Refused (Header (NoRoom 1049152 1048576)); shown = (codes "LILO\nLoading linux\nError\n"); line = Some Empty; written = []; left = (waited 60 ++ typed (hex 10 0x6c696e75781574757815)) }) × (meant conf_r6 names_many devices_many Empty [] 16777216 ≡ record { outcome = Loaded (record { real = record { address = 0x90000; size = 1024 }; protected = record { address = 0x100000; size = 576 }; initrd = None; line = record { address = 0x99800; size = 26 } }); shown = (codes "LILO\nLoading linux2\n"); line = Some Empty; written = (record { address = 0x90000; bytes = (file 1024 (piece 497 (hex 1 0x01) ∷ piece 506 (hex 14 0xfdff000055aa0000486472530602) ∷ piece 528 (hex 2 0x0281) ∷ piece 549 (hex 11 0x96000000980900ffffff37) ∷ piece 568 (hex 1 0xff) ∷ [])) } ∷ record { address = 0x100000; bytes = (file 576 (piece 0 (replicate 576 5) ∷ [])) } ∷ record { address = 0x99800; bytes = (file 26 (piece 0 (codes "auto BOOT_IMAGE=linux2 ro") ∷ [])) } ∷ []); left = [] })
unfolding number16 number32 is_zero components child find_path file_block file_at child_path path_of names_of_section names_of_config started menu_decision menu_boot file_of middle_text target_of menu_entries menu_of meant setup_of version_of header_of header_at fit_checks plan_memory replaced_fields patch command_line written_by place kernel_fit course_of words_of meaning
meant_by_chance_6 = (refl, refl)

-- by chance 7
pub meant_by_chance_7 : (meant conf_r7 names_many devices_many (Kept (codes "gone")) (waited 4 ++ typed (hex 1 0x15) ++ waited 1 ++ typed (hex 2 0x3f0a)) 2097152 ≡ record { outcome = Loaded (record { real = record { address = 0x90000; size = 1024 }; protected = record { address = 0x10000; size = 5 }; initrd = None; line = record { address = 0x99800; size = 22 } }); shown = (codes "LILO\nHello\nthere\nboot: \nLoading a\n"); line = Some (Kept (codes "a")); written = (record { address = 0x90000; bytes = (file 1024 (piece 32 (hex 4 0x3fa30098) ∷ piece 497 (hex 1 0x01) ∷ piece 510 (hex 2 0x55aa) ∷ piece 556 (hex 4 0xffffff37) ∷ piece 568 (hex 1 0xff) ∷ [])) } ∷ record { address = 0x10000; bytes = (file 5 (piece 0 (codes "HELLO") ∷ [])) } ∷ record { address = 0x99800; bytes = (file 22 (piece 0 (codes "auto BOOT_IMAGE=a x y") ∷ [])) } ∷ []); left = (waited 3 ++ typed (hex 1 0x15) ++ waited 1 ++ typed (hex 2 0x3f0a)) }) × (meant conf_r7 names_many devices_many Empty (waited 1 ++ typed (hex 6 0x090a6e6f6e65) ++ waited 1 ++ typed (hex 5 0x6162087f6c)) 1073741824 ≡ record { outcome = Loaded (record { real = record { address = 0x90000; size = 1024 }; protected = record { address = 0x10000; size = 5 }; initrd = None; line = record { address = 0x99800; size = 22 } }); shown = (codes "LILO\nHello\nthere\nboot: \nLoading a\n"); line = Some (Kept (codes "a")); written = (record { address = 0x90000; bytes = (file 1024 (piece 32 (hex 4 0x3fa30098) ∷ piece 497 (hex 1 0x01) ∷ piece 510 (hex 2 0x55aa) ∷ piece 556 (hex 4 0xffffff37) ∷ piece 568 (hex 1 0xff) ∷ [])) } ∷ record { address = 0x10000; bytes = (file 5 (piece 0 (codes "HELLO") ∷ [])) } ∷ record { address = 0x99800; bytes = (file 22 (piece 0 (codes "auto BOOT_IMAGE=a x y") ∷ [])) } ∷ []); left = (typed (hex 6 0x090a6e6f6e65) ++ waited 1 ++ typed (hex 5 0x6162087f6c)) })
unfolding number16 number32 is_zero components child find_path file_block file_at child_path path_of names_of_section names_of_config started menu_decision menu_boot file_of middle_text target_of menu_entries menu_of meant setup_of version_of header_of header_at fit_checks plan_memory replaced_fields patch command_line written_by place kernel_fit course_of words_of meaning
meant_by_chance_7 = (refl, refl)

-- by chance 8
pub meant_by_chance_8 : (meant conf_r8 names_many devices_many Empty (waited 4 ++ typed (hex 4 0x15616263) ++ waited 1 ++ typed (codes "none\n")) 1048576 ≡ record { outcome = Refused Idle; shown = (codes "LILO\nboot: \nboot: abcnone\nNo such image.\nboot: "); line = Some Empty; written = []; left = [] }) × (meant conf_r8 names_many devices_many Empty (waited 4 ++ typed (codes "tux\n")) 1073741824 ≡ record { outcome = Refused Idle; shown = (codes "LILO\nboot: tux\nNo such image.\nboot: "); line = Some Empty; written = []; left = [] })
unfolding number16 number32 is_zero components child find_path file_block file_at child_path path_of names_of_section names_of_config started menu_decision menu_boot file_of middle_text target_of menu_entries menu_of meant setup_of version_of header_of header_at fit_checks plan_memory replaced_fields patch command_line written_by place kernel_fit course_of words_of meaning
meant_by_chance_8 = (refl, refl)

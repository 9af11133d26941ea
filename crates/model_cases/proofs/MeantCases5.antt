-- Cases of the model, written by tools/plan_cases.py: what a boot does as configurations say.
use Rattle.std.proofs.Common.{◌≡◌, ◌∷◌, ◌++◌, [], codes, replicate, None, Some, refl}
use Rattle.lilo_model.specs.Boot.{Loaded, Refused}
use Rattle.lilo_model.specs.Bytes.{number16, number32, is_zero}
use Rattle.lilo_model.specs.Choice.{course_of}
use Rattle.lilo_model.specs.ConfLawful.{names_of_section, names_of_config}
use Rattle.lilo_model.specs.DefaultLine.{Empty, Once, Kept}
use Rattle.lilo_model.specs.Header.{setup_of, version_of, header_of, header_at, fit_checks, plan_memory, replaced_fields, patch}
use Rattle.lilo_model.specs.LineWords.{words_of, meaning}
use Rattle.lilo_model.specs.Meant.{started, menu_decision, menu_boot, file_of, middle_text, target_of, menu_entries, menu_of, meant}
use Rattle.lilo_model.specs.MinixFind.{components, child, find_path, file_block, file_at}
use Rattle.lilo_model.specs.MinixFindNames.{child_path, path_of}
use Rattle.lilo_model.specs.Place.{command_line, written_by, place, kernel_fit}
use Rattle.lilo_model.specs.Reason.{Idle}
use Rattle.model_cases.specs.Sparse.{hex, piece, file, typed, waited}
use Rattle.model_cases.specs.PlanChanceConfs1.{conf_r10, conf_r11, conf_r12, conf_r13, conf_r14, conf_r15, conf_r16, conf_r9}
use Rattle.model_cases.specs.PlanNames.{names_many}
use Rattle.model_cases.specs.PlanVolumes.{devices_many}

-- by chance 9
pub meant_by_chance_9 : (meant conf_r9 names_many devices_many (Kept (codes "win")) (typed (codes "win lock\n") ++ waited 1 ++ typed (hex 2 0x3f15) ++ waited 4 ++ typed (hex 4 0x77696e15)) 2097152 ≡ record { outcome = Loaded (record { real = record { address = 0x90000; size = 2560 }; protected = record { address = 0x100000; size = 5 }; initrd = (Some (record { address = 0x1ff000; size = 1500 })); line = record { address = 0x99800; size = 15 } }); shown = (codes "LILO\nboot: win lock\nLoading win\n"); line = Some (Kept (codes "win")); written = (record { address = 0x90000; bytes = (file 2560 (piece 506 (hex 14 0x0103000055aa0000486472530602) ∷ piece 528 (hex 2 0x0281) ∷ piece 537 (hex 5 0xf01f00dc05) ∷ piece 549 (hex 11 0x96000000980900ffffff37) ∷ piece 568 (hex 1 0xff) ∷ [])) } ∷ record { address = 0x100000; bytes = (file 5 (piece 0 (codes "PMODE") ∷ [])) } ∷ record { address = 0x1ff000; bytes = (file 1500 (piece 0 (replicate 1500 17) ∷ [])) } ∷ record { address = 0x99800; bytes = (file 15 (piece 0 (codes "BOOT_IMAGE=win") ∷ [])) } ∷ []); left = (waited 1 ++ typed (hex 2 0x3f15) ++ waited 4 ++ typed (hex 4 0x77696e15)) }) × (meant conf_r9 names_many devices_many (Once (codes "win w")) [] 2097152 ≡ record { outcome = Loaded (record { real = record { address = 0x90000; size = 2560 }; protected = record { address = 0x100000; size = 5 }; initrd = (Some (record { address = 0x1ff000; size = 1500 })); line = record { address = 0x99800; size = 22 } }); shown = (codes "LILO\nLoading win\n"); line = Some Empty; written = (record { address = 0x90000; bytes = (file 2560 (piece 506 (hex 14 0x0103000055aa0000486472530602) ∷ piece 528 (hex 2 0x0281) ∷ piece 537 (hex 5 0xf01f00dc05) ∷ piece 549 (hex 11 0x96000000980900ffffff37) ∷ piece 568 (hex 1 0xff) ∷ [])) } ∷ record { address = 0x100000; bytes = (file 5 (piece 0 (codes "PMODE") ∷ [])) } ∷ record { address = 0x1ff000; bytes = (file 1500 (piece 0 (replicate 1500 17) ∷ [])) } ∷ record { address = 0x99800; bytes = (file 22 (piece 0 (codes "auto BOOT_IMAGE=win w") ∷ [])) } ∷ []); left = [] })
unfolding number16 number32 is_zero components child find_path file_block file_at child_path path_of names_of_section names_of_config started menu_decision menu_boot file_of middle_text target_of menu_entries menu_of meant setup_of version_of header_of header_at fit_checks plan_memory replaced_fields patch command_line written_by place kernel_fit course_of words_of meaning
meant_by_chance_9 = (refl, refl)

-- by chance 10
pub meant_by_chance_10 : (meant conf_r10 names_many devices_many Empty [] 2097152 ≡ record { outcome = Refused Idle; shown = (codes "LILO\nboot: "); line = Some Empty; written = []; left = [] }) × (meant conf_r10 names_many devices_many Empty (waited 1 ++ typed (hex 13 0x77696e32207667613d37207a15)) 16777216 ≡ record { outcome = Refused Idle; shown = (codes "LILO\nboot: win2 vga=7 z\nboot: "); line = Some Empty; written = []; left = [] })
unfolding number16 number32 is_zero components child find_path file_block file_at child_path path_of names_of_section names_of_config started menu_decision menu_boot file_of middle_text target_of menu_entries menu_of meant setup_of version_of header_of header_at fit_checks plan_memory replaced_fields patch command_line written_by place kernel_fit course_of words_of meaning
meant_by_chance_10 = (refl, refl)

-- by chance 11
pub meant_by_chance_11 : (meant conf_r11 names_many devices_many Empty (waited 60 ++ typed (hex 2 0x3f0a)) 16777216 ≡ record { outcome = Loaded (record { real = record { address = 0x90000; size = 1024 }; protected = record { address = 0x100000; size = 5 }; initrd = None; line = record { address = 0x99800; size = 18 } }); shown = (codes "LILO\nboot: \nx2\nx22\nboot: \nLoading x2\n"); line = Some Empty; written = (record { address = 0x90000; bytes = (file 1024 (piece 497 (hex 1 0x01) ∷ piece 510 (hex 10 0x55aa0000486472530602) ∷ piece 528 (hex 2 0x0281) ∷ piece 549 (hex 11 0x96000000980900ffffff37) ∷ piece 568 (hex 1 0xff) ∷ [])) } ∷ record { address = 0x100000; bytes = (file 5 (piece 0 (codes "HELLO") ∷ [])) } ∷ record { address = 0x99800; bytes = (file 18 (piece 0 (codes "BOOT_IMAGE=x2 x y") ∷ [])) } ∷ []); left = [] }) × (meant conf_r11 names_many devices_many (Kept (codes "gone")) (waited 60 ++ typed (hex 7 0x3f0d6162630a0a)) 1073741824 ≡ record { outcome = Loaded (record { real = record { address = 0x90000; size = 1024 }; protected = record { address = 0x100000; size = 5 }; initrd = None; line = record { address = 0x99800; size = 18 } }); shown = (codes "LILO\nboot: \nx2\nx22\nboot: \nLoading x2\n"); line = Some (Kept (codes "gone")); written = (record { address = 0x90000; bytes = (file 1024 (piece 497 (hex 1 0x01) ∷ piece 510 (hex 10 0x55aa0000486472530602) ∷ piece 528 (hex 2 0x0281) ∷ piece 549 (hex 11 0x96000000980900ffffff37) ∷ piece 568 (hex 1 0xff) ∷ [])) } ∷ record { address = 0x100000; bytes = (file 5 (piece 0 (codes "HELLO") ∷ [])) } ∷ record { address = 0x99800; bytes = (file 18 (piece 0 (codes "BOOT_IMAGE=x2 x y") ∷ [])) } ∷ []); left = (typed (codes "abc\n\n")) })
unfolding number16 number32 is_zero components child find_path file_block file_at child_path path_of names_of_section names_of_config started menu_decision menu_boot file_of middle_text target_of menu_entries menu_of meant setup_of version_of header_of header_at fit_checks plan_memory replaced_fields patch command_line written_by place kernel_fit course_of words_of meaning
meant_by_chance_11 = (refl, refl)

-- by chance 12
pub meant_by_chance_12 : (meant conf_r12 names_many devices_many Empty (typed (codes "win vga=7 z\n")) 1073741824 ≡ record { outcome = Loaded (record { real = record { address = 0x90000; size = 1024 }; protected = record { address = 0x100000; size = 5 }; initrd = (Some (record { address = 0x37fff000; size = 700 })); line = record { address = 0x99800; size = 26 } }); shown = (codes "LILO\nHello\nthere\nboot: win vga=7 z\nLoading win\n"); line = Some (Kept (codes "win vga=7 z")); written = (record { address = 0x90000; bytes = (file 1024 (piece 497 (hex 1 0x01) ∷ piece 506 (hex 14 0x0700000055aa0000486472530602) ∷ piece 528 (hex 2 0x0281) ∷ piece 537 (hex 5 0xf0ff37bc02) ∷ piece 549 (hex 11 0x96000000980900ffffff37) ∷ piece 568 (hex 1 0xff) ∷ [])) } ∷ record { address = 0x100000; bytes = (file 5 (piece 0 (codes "HELLO") ∷ [])) } ∷ record { address = 0x37fff000; bytes = (file 700 (piece 0 (replicate 700 165) ∷ [])) } ∷ record { address = 0x99800; bytes = (file 26 (piece 0 (codes "BOOT_IMAGE=win root=801 z") ∷ [])) } ∷ []); left = [] }) × (meant conf_r12 names_many devices_many (Kept (codes "gone")) (waited 4 ++ typed (hex 12 0x6162087f6c0a6162087f6c0a)) 16777216 ≡ record { outcome = Loaded (record { real = record { address = 0x90000; size = 1024 }; protected = record { address = 0x100000; size = 5 }; initrd = (Some (record { address = 0xfff000; size = 700 })); line = record { address = 0x99800; size = 29 } }); shown = (codes "LILO\nLoading win\n"); line = Some (Kept (codes "win")); written = (record { address = 0x90000; bytes = (file 1024 (piece 497 (hex 1 0x01) ∷ piece 510 (hex 10 0x55aa0000486472530602) ∷ piece 528 (hex 2 0x0281) ∷ piece 537 (hex 5 0xf0ff00bc02) ∷ piece 549 (hex 11 0x96000000980900ffffff37) ∷ piece 568 (hex 1 0xff) ∷ [])) } ∷ record { address = 0x100000; bytes = (file 5 (piece 0 (codes "HELLO") ∷ [])) } ∷ record { address = 0xfff000; bytes = (file 700 (piece 0 (replicate 700 165) ∷ [])) } ∷ record { address = 0x99800; bytes = (file 29 (piece 0 (codes "auto BOOT_IMAGE=win root=801") ∷ [])) } ∷ []); left = (waited 3 ++ typed (hex 12 0x6162087f6c0a6162087f6c0a)) })
unfolding number16 number32 is_zero components child find_path file_block file_at child_path path_of names_of_section names_of_config started menu_decision menu_boot file_of middle_text target_of menu_entries menu_of meant setup_of version_of header_of header_at fit_checks plan_memory replaced_fields patch command_line written_by place kernel_fit course_of words_of meaning
meant_by_chance_12 = (refl, refl)

-- by chance 13
pub meant_by_chance_13 : (meant conf_r13 names_many devices_many Empty (typed (hex 6 0x6162087f6c0d) ++ waited 4 ++ typed (hex 2 0x090a)) 2097152 ≡ record { outcome = Loaded (record { real = record { address = 0x90000; size = 1024 }; protected = record { address = 0x100000; size = 3077 }; initrd = None; line = record { address = 0x99800; size = 40 } }); shown = (codes "LILO\nLoading old\n"); line = Some (Kept (codes "old")); written = (record { address = 0x90000; bytes = (file 1024 (piece 497 (hex 1 0x01) ∷ piece 510 (hex 10 0x55aa0000486472530602) ∷ piece 528 (hex 2 0x0281) ∷ piece 549 (hex 11 0x96000000980900ffffff37) ∷ piece 568 (hex 1 0xff) ∷ [])) } ∷ record { address = 0x100000; bytes = (file 3077 (piece 0 (replicate 1024 7) ∷ piece 2048 (replicate 1029 7) ∷ [])) } ∷ record { address = 0x99800; bytes = (file 40 (piece 0 (codes "auto BOOT_IMAGE=old root=803 mem=64M  y") ∷ [])) } ∷ []); left = (typed (hex 6 0x6162087f6c0d) ++ waited 4 ++ typed (hex 2 0x090a)) }) × (meant conf_r13 names_many devices_many (Once (codes "a w")) (typed (codes "old\n")) 16777216 ≡ record { outcome = Loaded (record { real = record { address = 0x90000; size = 1024 }; protected = record { address = 0x100000; size = 3077 }; initrd = None; line = record { address = 0x99800; size = 40 } }); shown = (codes "LILO\nLoading old\n"); line = Some (Kept (codes "old")); written = (record { address = 0x90000; bytes = (file 1024 (piece 497 (hex 1 0x01) ∷ piece 510 (hex 10 0x55aa0000486472530602) ∷ piece 528 (hex 2 0x0281) ∷ piece 549 (hex 11 0x96000000980900ffffff37) ∷ piece 568 (hex 1 0xff) ∷ [])) } ∷ record { address = 0x100000; bytes = (file 3077 (piece 0 (replicate 1024 7) ∷ piece 2048 (replicate 1029 7) ∷ [])) } ∷ record { address = 0x99800; bytes = (file 40 (piece 0 (codes "auto BOOT_IMAGE=old root=803 mem=64M  y") ∷ [])) } ∷ []); left = (typed (codes "old\n")) })
unfolding number16 number32 is_zero components child find_path file_block file_at child_path path_of names_of_section names_of_config started menu_decision menu_boot file_of middle_text target_of menu_entries menu_of meant setup_of version_of header_of header_at fit_checks plan_memory replaced_fields patch command_line written_by place kernel_fit course_of words_of meaning
meant_by_chance_13 = (refl, refl)

-- by chance 14
pub meant_by_chance_14 : (meant conf_r14 names_many devices_many (Once (codes "linux w")) (typed (hex 4 0x7475780d)) 2097152 ≡ record { outcome = Refused Idle; shown = (codes "LILO\nboot: tux\nNo such image.\nboot: "); line = Some (Once (codes "linux w")); written = []; left = [] }) × (meant conf_r14 names_many devices_many Empty (waited 4 ++ typed (hex 9 0x6e6f6e650d6e6f6e65) ++ waited 4 ++ typed (hex 13 0x6c696e75782073696e676c650d)) 1073741824 ≡ record { outcome = Refused Idle; shown = (codes "LILO\nboot: none\nNo such image.\nboot: nonelinux single\nNo such image.\nboot: "); line = Some Empty; written = []; left = [] })
unfolding number16 number32 is_zero components child find_path file_block file_at child_path path_of names_of_section names_of_config started menu_decision menu_boot file_of middle_text target_of menu_entries menu_of meant setup_of version_of header_of header_at fit_checks plan_memory replaced_fields patch command_line written_by place kernel_fit course_of words_of meaning
meant_by_chance_14 = (refl, refl)

-- by chance 15
pub meant_by_chance_15 : (meant conf_r15 names_many devices_many Empty (typed (hex 5 0x6162087f6c)) 1073741824 ≡ record { outcome = Refused Idle; shown = (hex 20 0x4c494c4f0a626f6f743a2061620820080820086c); line = Some Empty; written = []; left = [] }) × (meant conf_r15 names_many devices_many (Kept (codes "gone")) (waited 4 ++ typed (hex 4 0x15747578) ++ waited 4 ++ typed (codes "linux lock\n")) 16777216 ≡ record { outcome = Refused Idle; shown = (codes "LILO\nboot: \nboot: tuxlinux lock\nNo such image.\nboot: "); line = Some (Kept (codes "gone")); written = []; left = [] })
unfolding number16 number32 is_zero components child find_path file_block file_at child_path path_of names_of_section names_of_config started menu_decision menu_boot file_of middle_text target_of menu_entries menu_of meant setup_of version_of header_of header_at fit_checks plan_memory replaced_fields patch command_line written_by place kernel_fit course_of words_of meaning
meant_by_chance_15 = (refl, refl)

-- by chance 16
pub meant_by_chance_16 : (meant conf_r16 names_many devices_many (Kept (codes "gone")) [] 2097152 ≡ record { outcome = Loaded (record { real = record { address = 0x90000; size = 1024 }; protected = record { address = 0x10000; size = 5 }; initrd = None; line = record { address = 0x99800; size = 24 } }); shown = (codes "LILO\nboot: \nLoading win\n"); line = Some (Kept (codes "gone")); written = (record { address = 0x90000; bytes = (file 1024 (piece 32 (hex 4 0x3fa30098) ∷ piece 497 (hex 1 0x01) ∷ piece 506 (hex 6 0x0103000055aa) ∷ piece 556 (hex 4 0xffffff37) ∷ piece 568 (hex 1 0xff) ∷ [])) } ∷ record { address = 0x10000; bytes = (file 5 (piece 0 (codes "HELLO") ∷ [])) } ∷ record { address = 0x99800; bytes = (file 24 (piece 0 (codes "auto BOOT_IMAGE=win x y") ∷ [])) } ∷ []); left = [] }) × (meant conf_r16 names_many devices_many Empty (typed (hex 28 0x6162087f6c0a6c696e75782073696e676c650a77696e206c6f636b0a)) 1073741824 ≡ record { outcome = Loaded (record { real = record { address = 0x90000; size = 1024 }; protected = record { address = 0x10000; size = 5 }; initrd = None; line = record { address = 0x99800; size = 19 } }); shown = (hex 97 0x4c494c4f0a626f6f743a2061620820080820086c0a4e6f207375636820696d6167652e0a626f6f743a206c696e75782073696e676c650a4e6f207375636820696d6167652e0a626f6f743a2077696e206c6f636b0a4c6f6164696e672077696e0a); line = Some (Kept (codes "win")); written = (record { address = 0x90000; bytes = (file 1024 (piece 32 (hex 4 0x3fa30098) ∷ piece 497 (hex 1 0x01) ∷ piece 506 (hex 6 0x0103000055aa) ∷ piece 556 (hex 4 0xffffff37) ∷ piece 568 (hex 1 0xff) ∷ [])) } ∷ record { address = 0x10000; bytes = (file 5 (piece 0 (codes "HELLO") ∷ [])) } ∷ record { address = 0x99800; bytes = (file 19 (piece 0 (codes "BOOT_IMAGE=win x y") ∷ [])) } ∷ []); left = [] })
unfolding number16 number32 is_zero components child find_path file_block file_at child_path path_of names_of_section names_of_config started menu_decision menu_boot file_of middle_text target_of menu_entries menu_of meant setup_of version_of header_of header_at fit_checks plan_memory replaced_fields patch command_line written_by place kernel_fit course_of words_of meaning
meant_by_chance_16 = (refl, refl)

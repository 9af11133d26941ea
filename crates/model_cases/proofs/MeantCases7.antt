-- Cases of the model, written by tools/plan_cases.py: what a boot does as configurations say.
use Rattle.std.proofs.Common.{◌≡◌, ◌∷◌, ◌++◌, [], codes, replicate, None, Some, refl}
use Rattle.lilo_model.specs.Boot.{Loaded, Refused}
use Rattle.lilo_model.specs.Bytes.{number16, number32, is_zero}
use Rattle.lilo_model.specs.Choice.{course_of}
use Rattle.lilo_model.specs.ConfLawful.{names_of_section, names_of_config}
use Rattle.lilo_model.specs.DefaultLine.{Empty, Once, Kept}
use Rattle.lilo_model.specs.Header.{setup_of, version_of, header_of, header_at, fit_checks, plan_memory, replaced_fields, patch, NoRoom}
use Rattle.lilo_model.specs.LineWords.{words_of, meaning}
use Rattle.lilo_model.specs.Meant.{started, menu_decision, menu_boot, file_of, middle_text, target_of, menu_entries, menu_of, meant}
use Rattle.lilo_model.specs.MinixFind.{components, child, find_path, file_block, file_at}
use Rattle.lilo_model.specs.MinixFindNames.{child_path, path_of}
use Rattle.lilo_model.specs.Place.{command_line, written_by, place, kernel_fit}
use Rattle.lilo_model.specs.Reason.{Idle, Header}
use Rattle.model_cases.specs.Sparse.{hex, piece, file, typed, waited}
use Rattle.model_cases.specs.PlanChanceConfs1.{conf_r25, conf_r26, conf_r27, conf_r28, conf_r29, conf_r30}
use Rattle.model_cases.specs.PlanChanceConfs2.{conf_r31, conf_r32}
use Rattle.model_cases.specs.PlanNames.{names_many}
use Rattle.model_cases.specs.PlanVolumes.{devices_many}

-- by chance 25
pub meant_by_chance_25 : (meant conf_r25 names_many devices_many (Once (codes "old w")) (typed (hex 4 0x61626315)) 16777216 ≡ record { outcome = Loaded (record { real = record { address = 0x90000; size = 1024 }; protected = record { address = 0x100000; size = 576 }; initrd = None; line = record { address = 0x99800; size = 31 } }); shown = (codes "LILO\nLoading old\n"); line = Some (Kept (codes "old w")); written = (record { address = 0x90000; bytes = (file 1024 (piece 497 (hex 1 0x01) ∷ piece 506 (hex 14 0x0103000055aa0000486472530602) ∷ piece 528 (hex 2 0x0281) ∷ piece 549 (hex 11 0x96000000980900ffffff37) ∷ piece 568 (hex 1 0xff) ∷ [])) } ∷ record { address = 0x100000; bytes = (file 576 (piece 0 (replicate 576 5) ∷ [])) } ∷ record { address = 0x99800; bytes = (file 31 (piece 0 (codes "auto BOOT_IMAGE=old root=801 w") ∷ [])) } ∷ []); left = (typed (hex 4 0x61626315)) }) × (meant conf_r25 names_many devices_many (Once (codes "old w")) [] 1048576 ≡ record { outcome = Refused (Header (NoRoom 1049152 1048576)); shown = (codes "LILO\nLoading old\nError\n"); line = Some (Kept (codes "old w")); written = []; left = [] })
unfolding number16 number32 is_zero components child find_path file_block file_at child_path path_of names_of_section names_of_config started menu_decision menu_boot file_of middle_text target_of menu_entries menu_of meant setup_of version_of header_of header_at fit_checks plan_memory replaced_fields patch command_line written_by place kernel_fit course_of words_of meaning
meant_by_chance_25 = (refl, refl)

-- by chance 26
pub meant_by_chance_26 : (meant conf_r26 names_many devices_many (Kept (codes "gone")) [] 1073741824 ≡ record { outcome = Loaded (record { real = record { address = 0x90000; size = 1024 }; protected = record { address = 0x100000; size = 3077 }; initrd = (Some (record { address = 0x37fff000; size = 1500 })); line = record { address = 0x99800; size = 23 } }); shown = (codes "LILO\nLoading x2\n"); line = Some (Kept (codes "x2")); written = (record { address = 0x90000; bytes = (file 1024 (piece 497 (hex 1 0x01) ∷ piece 506 (hex 14 0x0500000055aa0000486472530602) ∷ piece 528 (hex 2 0x0281) ∷ piece 537 (hex 5 0xf0ff37dc05) ∷ piece 549 (hex 11 0x96000000980900ffffff37) ∷ piece 568 (hex 1 0xff) ∷ [])) } ∷ record { address = 0x100000; bytes = (file 3077 (piece 0 (replicate 1024 7) ∷ piece 2048 (replicate 1029 7) ∷ [])) } ∷ record { address = 0x37fff000; bytes = (file 1500 (piece 0 (replicate 1500 17) ∷ [])) } ∷ record { address = 0x99800; bytes = (file 23 (piece 0 (codes "auto BOOT_IMAGE=x2 x y") ∷ [])) } ∷ []); left = [] }) × (meant conf_r26 names_many devices_many (Kept (codes "x2")) (waited 60 ++ typed (hex 2 0x090a)) 1073741824 ≡ record { outcome = Loaded (record { real = record { address = 0x90000; size = 1024 }; protected = record { address = 0x100000; size = 3077 }; initrd = (Some (record { address = 0x37fff000; size = 1500 })); line = record { address = 0x99800; size = 23 } }); shown = (codes "LILO\nLoading x2\n"); line = Some (Kept (codes "x2")); written = (record { address = 0x90000; bytes = (file 1024 (piece 497 (hex 1 0x01) ∷ piece 506 (hex 14 0x0500000055aa0000486472530602) ∷ piece 528 (hex 2 0x0281) ∷ piece 537 (hex 5 0xf0ff37dc05) ∷ piece 549 (hex 11 0x96000000980900ffffff37) ∷ piece 568 (hex 1 0xff) ∷ [])) } ∷ record { address = 0x100000; bytes = (file 3077 (piece 0 (replicate 1024 7) ∷ piece 2048 (replicate 1029 7) ∷ [])) } ∷ record { address = 0x37fff000; bytes = (file 1500 (piece 0 (replicate 1500 17) ∷ [])) } ∷ record { address = 0x99800; bytes = (file 23 (piece 0 (codes "auto BOOT_IMAGE=x2 x y") ∷ [])) } ∷ []); left = (waited 60 ++ typed (hex 2 0x090a)) })
unfolding number16 number32 is_zero components child find_path file_block file_at child_path path_of names_of_section names_of_config started menu_decision menu_boot file_of middle_text target_of menu_entries menu_of meant setup_of version_of header_of header_at fit_checks plan_memory replaced_fields patch command_line written_by place kernel_fit course_of words_of meaning
meant_by_chance_26 = (refl, refl)

-- by chance 27
pub meant_by_chance_27 : (meant conf_r27 names_many devices_many (Kept (codes "win")) (waited 60 ++ typed (codes "tux\n")) 2097152 ≡ record { outcome = Loaded (record { real = record { address = 0x90000; size = 1024 }; protected = record { address = 0x10000; size = 5 }; initrd = None; line = record { address = 0x99800; size = 20 } }); shown = (codes "LILO\nLoading win\n"); line = Some (Kept (codes "win")); written = (record { address = 0x90000; bytes = (file 1024 (piece 32 (hex 4 0x3fa30098) ∷ piece 497 (hex 1 0x01) ∷ piece 510 (hex 2 0x55aa) ∷ piece 556 (hex 4 0xffffff37) ∷ piece 568 (hex 1 0xff) ∷ [])) } ∷ record { address = 0x10000; bytes = (file 5 (piece 0 (codes "HELLO") ∷ [])) } ∷ record { address = 0x99800; bytes = (file 20 (piece 0 (codes "auto BOOT_IMAGE=win") ∷ [])) } ∷ []); left = (waited 60 ++ typed (codes "tux\n")) }) × (meant conf_r27 names_many devices_many (Kept (codes "win")) (typed (hex 4 0x09747578)) 2097152 ≡ record { outcome = Loaded (record { real = record { address = 0x90000; size = 1024 }; protected = record { address = 0x10000; size = 5 }; initrd = None; line = record { address = 0x99800; size = 20 } }); shown = (codes "LILO\nLoading win\n"); line = Some (Kept (codes "win")); written = (record { address = 0x90000; bytes = (file 1024 (piece 32 (hex 4 0x3fa30098) ∷ piece 497 (hex 1 0x01) ∷ piece 510 (hex 2 0x55aa) ∷ piece 556 (hex 4 0xffffff37) ∷ piece 568 (hex 1 0xff) ∷ [])) } ∷ record { address = 0x10000; bytes = (file 5 (piece 0 (codes "HELLO") ∷ [])) } ∷ record { address = 0x99800; bytes = (file 20 (piece 0 (codes "auto BOOT_IMAGE=win") ∷ [])) } ∷ []); left = (typed (hex 4 0x09747578)) })
unfolding number16 number32 is_zero components child find_path file_block file_at child_path path_of names_of_section names_of_config started menu_decision menu_boot file_of middle_text target_of menu_entries menu_of meant setup_of version_of header_of header_at fit_checks plan_memory replaced_fields patch command_line written_by place kernel_fit course_of words_of meaning
meant_by_chance_27 = (refl, refl)

-- by chance 28
pub meant_by_chance_28 : (meant conf_r28 names_many devices_many (Kept (codes "a2")) (typed (hex 7 0x610d6162630a0d)) 1073741824 ≡ record { outcome = Loaded (record { real = record { address = 0x90000; size = 1024 }; protected = record { address = 0x100000; size = 31976 }; initrd = (Some (record { address = 0x37fff000; size = 1500 })); line = record { address = 0x99800; size = 19 } }); shown = (codes "LILO\nHello\nthere\nboot: a\nLoading a\n"); line = Some (Kept (codes "a2")); written = (record { address = 0x90000; bytes = (file 1024 (piece 497 (hex 1 0x01) ∷ piece 506 (hex 14 0x0500000055aa0000486472530602) ∷ piece 528 (hex 2 0x0281) ∷ piece 537 (hex 5 0xf0ff37dc05) ∷ piece 549 (hex 11 0x96000000980900ffffff37) ∷ piece 568 (hex 1 0xff) ∷ [])) } ∷ record { address = 0x100000; bytes = (file 31976 (piece 0 (replicate 31976 5) ∷ [])) } ∷ record { address = 0x37fff000; bytes = (file 1500 (piece 0 (replicate 1500 17) ∷ [])) } ∷ record { address = 0x99800; bytes = (file 19 (piece 0 (codes "BOOT_IMAGE=a quiet") ∷ [])) } ∷ []); left = (typed (hex 5 0x6162630a0d)) }) × (meant conf_r28 names_many devices_many (Once (codes "x2 w")) (waited 1 ++ typed (hex 2 0x3f0a)) 1048576 ≡ record { outcome = Refused Idle; shown = (codes "LILO\nHello\nthere\nboot: \na\na2\nx2\nx22\nold\nold2\nboot: \nPassword: \nboot: "); line = Some (Once (codes "x2 w")); written = []; left = [] })
unfolding number16 number32 is_zero components child find_path file_block file_at child_path path_of names_of_section names_of_config started menu_decision menu_boot file_of middle_text target_of menu_entries menu_of meant setup_of version_of header_of header_at fit_checks plan_memory replaced_fields patch command_line written_by place kernel_fit course_of words_of meaning
meant_by_chance_28 = (refl, refl)

-- by chance 29
pub meant_by_chance_29 : (meant conf_r29 names_many devices_many Empty (typed (hex 11 0x7832207667613d37207a15) ++ waited 60 ++ typed (hex 5 0x6e6f6e6515)) 1073741824 ≡ record { outcome = Refused Idle; shown = (codes "LILO\nboot: x2 vga=7 z\nboot: none\nboot: "); line = Some Empty; written = []; left = [] }) × (meant conf_r29 names_many devices_many (Kept (codes "win")) (typed (hex 7 0x090a6e6f6e650d)) 16777216 ≡ record { outcome = Loaded (record { real = record { address = 0x90000; size = 2560 }; protected = record { address = 0x100000; size = 5 }; initrd = None; line = record { address = 0x99800; size = 32 } }); shown = (codes "LILO\nboot: \nx2\nwin\nboot: \nLoading x2\n"); line = Some (Kept (codes "old")); written = (record { address = 0x90000; bytes = (file 2560 (piece 506 (hex 14 0x0103000055aa0000486472530602) ∷ piece 528 (hex 2 0x0281) ∷ piece 549 (hex 11 0x96000000980900ffffff37) ∷ piece 568 (hex 1 0xff) ∷ [])) } ∷ record { address = 0x100000; bytes = (file 5 (piece 0 (codes "PMODE") ∷ [])) } ∷ record { address = 0x99800; bytes = (file 32 (piece 0 (codes "BOOT_IMAGE=x2 ro root=801 quiet") ∷ [])) } ∷ []); left = (typed (hex 5 0x6e6f6e650d)) })
unfolding number16 number32 is_zero components child find_path file_block file_at child_path path_of names_of_section names_of_config started menu_decision menu_boot file_of middle_text target_of menu_entries menu_of meant setup_of version_of header_of header_at fit_checks plan_memory replaced_fields patch command_line written_by place kernel_fit course_of words_of meaning
meant_by_chance_29 = (refl, refl)

-- by chance 30
pub meant_by_chance_30 : (meant conf_r30 names_many devices_many (Once (codes "x2 w")) (typed (codes "tux")) 1048576 ≡ record { outcome = Refused Idle; shown = (codes "LILO\nboot: tux"); line = Some (Once (codes "x2 w")); written = []; left = [] }) × (meant conf_r30 names_many devices_many Empty (typed (hex 8 0x6f6c640d6162630a)) 16777216 ≡ record { outcome = Loaded (record { real = record { address = 0x90000; size = 1024 }; protected = record { address = 0x100000; size = 3077 }; initrd = None; line = record { address = 0x99800; size = 27 } }); shown = (codes "LILO\nboot: old\nLoading old\n"); line = Some Empty; written = (record { address = 0x90000; bytes = (file 1024 (piece 497 (hex 1 0x01) ∷ piece 510 (hex 10 0x55aa0000486472530602) ∷ piece 528 (hex 2 0x0281) ∷ piece 549 (hex 11 0x96000000980900ffffff37) ∷ piece 568 (hex 1 0xff) ∷ [])) } ∷ record { address = 0x100000; bytes = (file 3077 (piece 0 (replicate 1024 7) ∷ piece 2048 (replicate 1029 7) ∷ [])) } ∷ record { address = 0x99800; bytes = (file 27 (piece 0 (codes "BOOT_IMAGE=old ro root=803") ∷ [])) } ∷ []); left = (typed (codes "abc\n")) })
unfolding number16 number32 is_zero components child find_path file_block file_at child_path path_of names_of_section names_of_config started menu_decision menu_boot file_of middle_text target_of menu_entries menu_of meant setup_of version_of header_of header_at fit_checks plan_memory replaced_fields patch command_line written_by place kernel_fit course_of words_of meaning
meant_by_chance_30 = (refl, refl)

-- by chance 31
pub meant_by_chance_31 : (meant conf_r31 names_many devices_many Empty [] 1048576 ≡ record { outcome = Refused (Header (NoRoom 1048581 1048576)); shown = (codes "LILO\nLoading old\nError\n"); line = Some Empty; written = []; left = [] }) × (meant conf_r31 names_many devices_many (Once (codes "old w")) (waited 60 ++ typed (codes "old lockold vga=7 z")) 2097152 ≡ record { outcome = Loaded (record { real = record { address = 0x90000; size = 2560 }; protected = record { address = 0x100000; size = 5 }; initrd = None; line = record { address = 0x99800; size = 22 } }); shown = (codes "LILO\nLoading old\n"); line = Some Empty; written = (record { address = 0x90000; bytes = (file 2560 (piece 510 (hex 10 0x55aa0000486472530602) ∷ piece 528 (hex 2 0x0281) ∷ piece 549 (hex 11 0x96000000980900ffffff37) ∷ piece 568 (hex 1 0xff) ∷ [])) } ∷ record { address = 0x100000; bytes = (file 5 (piece 0 (codes "PMODE") ∷ [])) } ∷ record { address = 0x99800; bytes = (file 22 (piece 0 (codes "auto BOOT_IMAGE=old w") ∷ [])) } ∷ []); left = (waited 60 ++ typed (codes "old lockold vga=7 z")) })
unfolding number16 number32 is_zero components child find_path file_block file_at child_path path_of names_of_section names_of_config started menu_decision menu_boot file_of middle_text target_of menu_entries menu_of meant setup_of version_of header_of header_at fit_checks plan_memory replaced_fields patch command_line written_by place kernel_fit course_of words_of meaning
meant_by_chance_31 = (refl, refl)

-- by chance 32
pub meant_by_chance_32 : (meant conf_r32 names_many devices_many (Once (codes "x2 w")) (typed (codes "none\n")) 2097152 ≡ record { outcome = Refused Idle; shown = (codes "LILO\nboot: none\nNo such image.\nboot: "); line = Some (Once (codes "x2 w")); written = []; left = [] }) × (meant conf_r32 names_many devices_many (Kept (codes "x2")) (waited 60 ++ typed (hex 4 0x7475780d)) 2097152 ≡ record { outcome = Loaded (record { real = record { address = 0x90000; size = 1024 }; protected = record { address = 0x100000; size = 3077 }; initrd = (Some (record { address = 0x1ff000; size = 1500 })); line = record { address = 0x99800; size = 28 } }); shown = (codes "LILO\nLoading x2\n"); line = Some (Kept (codes "x2")); written = (record { address = 0x90000; bytes = (file 1024 (piece 497 (hex 1 0x01) ∷ piece 510 (hex 10 0x55aa0000486472530602) ∷ piece 528 (hex 2 0x0281) ∷ piece 537 (hex 5 0xf01f00dc05) ∷ piece 549 (hex 11 0x96000000980900ffffff37) ∷ piece 568 (hex 1 0xff) ∷ [])) } ∷ record { address = 0x100000; bytes = (file 3077 (piece 0 (replicate 1024 7) ∷ piece 2048 (replicate 1029 7) ∷ [])) } ∷ record { address = 0x1ff000; bytes = (file 1500 (piece 0 (replicate 1500 17) ∷ [])) } ∷ record { address = 0x99800; bytes = (file 28 (piece 0 (codes "auto BOOT_IMAGE=x2 root=301") ∷ [])) } ∷ []); left = (waited 59 ++ typed (hex 4 0x7475780d)) })
unfolding number16 number32 is_zero components child find_path file_block file_at child_path path_of names_of_section names_of_config started menu_decision menu_boot file_of middle_text target_of menu_entries menu_of meant setup_of version_of header_of header_at fit_checks plan_memory replaced_fields patch command_line written_by place kernel_fit course_of words_of meaning
meant_by_chance_32 = (refl, refl)

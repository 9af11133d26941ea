-- Cases of the model, written by tools/plan_cases.py: what a boot does as configurations say.
use Rattle.std.proofs.Common.{◌≡◌, ◌∷◌, ◌++◌, [], codes, replicate, None, Some, refl}
use Rattle.lilo_model.specs.Boot.{Loaded, Refused}
use Rattle.lilo_model.specs.Bytes.{number16, number32, is_zero}
use Rattle.lilo_model.specs.Choice.{course_of}
use Rattle.lilo_model.specs.ConfLawful.{names_of_section, names_of_config}
use Rattle.lilo_model.specs.DefaultLine.{Empty, Once, Kept}
use Rattle.lilo_model.specs.Header.{setup_of, version_of, header_of, header_at, fit_checks, plan_memory, replaced_fields, patch}
use Rattle.lilo_model.specs.LineWords.{words_of, meaning}
use Rattle.lilo_model.specs.Meant.{started, menu_decision, menu_boot, file_of, middle_text, target_of, menu_entries, menu_of, meant}
use Rattle.lilo_model.specs.MinixFind.{components, child, find_path, file_block, file_at}
use Rattle.lilo_model.specs.MinixFindNames.{child_path, path_of}
use Rattle.lilo_model.specs.Place.{command_line, written_by, place, kernel_fit}
use Rattle.lilo_model.specs.Reason.{Idle}
use Rattle.model_cases.specs.Sparse.{hex, piece, file, typed, waited}
use Rattle.model_cases.specs.PlanChanceConfs2.{conf_r41, conf_r42, conf_r43, conf_r44, conf_r45, conf_r46, conf_r47, conf_r48}
use Rattle.model_cases.specs.PlanNames.{names_many}
use Rattle.model_cases.specs.PlanVolumes.{devices_many}

-- by chance 41
pub meant_by_chance_41 : (meant conf_r41 names_many devices_many (Kept (codes "gone")) (typed (hex 8 0x74757815090a3f0a)) 1073741824 ≡ record { outcome = Loaded (record { real = record { address = 0x90000; size = 1024 }; protected = record { address = 0x100000; size = 576 }; initrd = (Some (record { address = 0x37fff000; size = 700 })); line = record { address = 0x99800; size = 22 } }); shown = (codes "LILO\nboot: tux\nboot: \nwin\na\nboot: \nLoading a\n"); line = Some (Kept (codes "win")); written = (record { address = 0x90000; bytes = (file 1024 (piece 497 (hex 1 0x01) ∷ piece 506 (hex 14 0x0103000055aa0000486472530602) ∷ piece 528 (hex 2 0x0281) ∷ piece 537 (hex 5 0xf0ff37bc02) ∷ piece 549 (hex 11 0x96000000980900ffffff37) ∷ piece 568 (hex 1 0xff) ∷ [])) } ∷ record { address = 0x100000; bytes = (file 576 (piece 0 (replicate 576 5) ∷ [])) } ∷ record { address = 0x37fff000; bytes = (file 700 (piece 0 (replicate 700 165) ∷ [])) } ∷ record { address = 0x99800; bytes = (file 22 (piece 0 (codes "BOOT_IMAGE=a root=301") ∷ [])) } ∷ []); left = (typed (hex 2 0x3f0a)) }) × (meant conf_r41 names_many devices_many (Kept (codes "a")) (typed (hex 2 0x6115)) 1048576 ≡ record { outcome = Refused Idle; shown = (codes "LILO\nboot: a\nboot: "); line = Some (Kept (codes "a")); written = []; left = [] })
unfolding number16 number32 is_zero components child find_path file_block file_at child_path path_of names_of_section names_of_config started menu_decision menu_boot file_of middle_text target_of menu_entries menu_of meant setup_of version_of header_of header_at fit_checks plan_memory replaced_fields patch command_line written_by place kernel_fit course_of words_of meaning
meant_by_chance_41 = (refl, refl)

-- by chance 42
pub meant_by_chance_42 : (meant conf_r42 names_many devices_many (Once (codes "old w")) [] 1073741824 ≡ record { outcome = Loaded (record { real = record { address = 0x90000; size = 1024 }; protected = record { address = 0x100000; size = 5 }; initrd = (Some (record { address = 0x37fff000; size = 1500 })); line = record { address = 0x99800; size = 22 } }); shown = (codes "LILO\nLoading old\n"); line = Some (Kept (codes "old w")); written = (record { address = 0x90000; bytes = (file 1024 (piece 497 (hex 1 0x01) ∷ piece 510 (hex 10 0x55aa0000486472530602) ∷ piece 528 (hex 2 0x0281) ∷ piece 537 (hex 5 0xf0ff37dc05) ∷ piece 549 (hex 11 0x96000000980900ffffff37) ∷ piece 568 (hex 1 0xff) ∷ [])) } ∷ record { address = 0x100000; bytes = (file 5 (piece 0 (codes "HELLO") ∷ [])) } ∷ record { address = 0x37fff000; bytes = (file 1500 (piece 0 (replicate 1500 17) ∷ [])) } ∷ record { address = 0x99800; bytes = (file 22 (piece 0 (codes "auto BOOT_IMAGE=old w") ∷ [])) } ∷ []); left = [] }) × (meant conf_r42 names_many devices_many (Kept (codes "a")) (typed (hex 1 0x15)) 2097152 ≡ record { outcome = Loaded (record { real = record { address = 0x90000; size = 1024 }; protected = record { address = 0x100000; size = 5 }; initrd = None; line = record { address = 0x99800; size = 38 } }); shown = (codes "LILO\nLoading a\n"); line = Some (Kept (codes "a")); written = (record { address = 0x90000; bytes = (file 1024 (piece 497 (hex 1 0x01) ∷ piece 510 (hex 10 0x55aa0000486472530602) ∷ piece 528 (hex 2 0x0281) ∷ piece 549 (hex 11 0x96000000980900ffffff37) ∷ piece 568 (hex 1 0xff) ∷ [])) } ∷ record { address = 0x100000; bytes = (file 5 (piece 0 (codes "HELLO") ∷ [])) } ∷ record { address = 0x99800; bytes = (file 38 (piece 0 (codes "auto BOOT_IMAGE=a root=801 mem=64M  y") ∷ [])) } ∷ []); left = (typed (hex 1 0x15)) })
unfolding number16 number32 is_zero components child find_path file_block file_at child_path path_of names_of_section names_of_config started menu_decision menu_boot file_of middle_text target_of menu_entries menu_of meant setup_of version_of header_of header_at fit_checks plan_memory replaced_fields patch command_line written_by place kernel_fit course_of words_of meaning
meant_by_chance_42 = (refl, refl)

-- by chance 43
pub meant_by_chance_43 : (meant conf_r43 names_many devices_many (Kept (codes "win2")) [] 1073741824 ≡ record { outcome = Loaded (record { real = record { address = 0x90000; size = 1024 }; protected = record { address = 0x100000; size = 3077 }; initrd = None; line = record { address = 0x99800; size = 24 } }); shown = (codes "LILO\nLoading win2\n"); line = Some (Kept (codes "win2")); written = (record { address = 0x90000; bytes = (file 1024 (piece 497 (hex 1 0x01) ∷ piece 510 (hex 10 0x55aa0000486472530602) ∷ piece 528 (hex 2 0x0281) ∷ piece 549 (hex 11 0x96000000980900ffffff37) ∷ piece 568 (hex 1 0xff) ∷ [])) } ∷ record { address = 0x100000; bytes = (file 3077 (piece 0 (replicate 1024 7) ∷ piece 2048 (replicate 1029 7) ∷ [])) } ∷ record { address = 0x99800; bytes = (file 24 (piece 0 (codes "auto BOOT_IMAGE=win2 ro") ∷ [])) } ∷ []); left = [] }) × (meant conf_r43 names_many devices_many (Kept (codes "a")) (waited 4 ++ typed (hex 4 0x7475780d) ++ waited 60 ++ typed (hex 6 0x3f0a7475780a)) 2097152 ≡ record { outcome = Loaded (record { real = record { address = 0x90000; size = 1024 }; protected = record { address = 0x100000; size = 31976 }; initrd = None; line = record { address = 0x99800; size = 21 } }); shown = (codes "LILO\nLoading a\n"); line = Some (Kept (codes "a")); written = (record { address = 0x90000; bytes = (file 1024 (piece 497 (hex 1 0x01) ∷ piece 510 (hex 10 0x55aa0000486472530602) ∷ piece 528 (hex 2 0x0281) ∷ piece 549 (hex 11 0x96000000980900ffffff37) ∷ piece 568 (hex 1 0xff) ∷ [])) } ∷ record { address = 0x100000; bytes = (file 31976 (piece 0 (replicate 31976 5) ∷ [])) } ∷ record { address = 0x99800; bytes = (file 21 (piece 0 (codes "auto BOOT_IMAGE=a ro") ∷ [])) } ∷ []); left = (waited 4 ++ typed (hex 4 0x7475780d) ++ waited 60 ++ typed (hex 6 0x3f0a7475780a)) })
unfolding number16 number32 is_zero components child find_path file_block file_at child_path path_of names_of_section names_of_config started menu_decision menu_boot file_of middle_text target_of menu_entries menu_of meant setup_of version_of header_of header_at fit_checks plan_memory replaced_fields patch command_line written_by place kernel_fit course_of words_of meaning
meant_by_chance_43 = (refl, refl)

-- by chance 44
pub meant_by_chance_44 : (meant conf_r44 names_many devices_many (Kept (codes "gone")) (waited 4 ++ typed (hex 2 0x0915)) 1048576 ≡ record { outcome = Refused Idle; shown = (codes "LILO\nboot: \na\nold\nboot: \nboot: "); line = Some (Kept (codes "gone")); written = []; left = [] }) × (meant conf_r44 names_many devices_many (Kept (codes "gone")) (waited 4 ++ typed (codes "a vga=7 z")) 16777216 ≡ record { outcome = Refused Idle; shown = (codes "LILO\nboot: a vga=7 z"); line = Some (Kept (codes "gone")); written = []; left = [] })
unfolding number16 number32 is_zero components child find_path file_block file_at child_path path_of names_of_section names_of_config started menu_decision menu_boot file_of middle_text target_of menu_entries menu_of meant setup_of version_of header_of header_at fit_checks plan_memory replaced_fields patch command_line written_by place kernel_fit course_of words_of meaning
meant_by_chance_44 = (refl, refl)

-- by chance 45
pub meant_by_chance_45 : (meant conf_r45 names_many devices_many (Once (codes "win w")) (waited 4 ++ typed (hex 13 0x6c696e75782073696e676c650d)) 2097152 ≡ record { outcome = Loaded (record { real = record { address = 0x90000; size = 1024 }; protected = record { address = 0x10000; size = 5 }; initrd = None; line = record { address = 0x99800; size = 24 } }); shown = (codes "LILO\nLoading win\n"); line = Some Empty; written = (record { address = 0x90000; bytes = (file 1024 (piece 32 (hex 4 0x3fa30098) ∷ piece 497 (hex 1 0x01) ∷ piece 510 (hex 2 0x55aa) ∷ piece 556 (hex 4 0xffffff37) ∷ piece 568 (hex 1 0xff) ∷ [])) } ∷ record { address = 0x10000; bytes = (file 5 (piece 0 (codes "HELLO") ∷ [])) } ∷ record { address = 0x99800; bytes = (file 24 (piece 0 (codes "auto BOOT_IMAGE=win a w") ∷ [])) } ∷ []); left = (waited 4 ++ typed (hex 13 0x6c696e75782073696e676c650d)) }) × (meant conf_r45 names_many devices_many Empty (waited 4 ++ typed (codes "win lock")) 1048576 ≡ record { outcome = Refused Idle; shown = (codes "LILO\nboot: win lock"); line = Some Empty; written = []; left = [] })
unfolding number16 number32 is_zero components child find_path file_block file_at child_path path_of names_of_section names_of_config started menu_decision menu_boot file_of middle_text target_of menu_entries menu_of meant setup_of version_of header_of header_at fit_checks plan_memory replaced_fields patch command_line written_by place kernel_fit course_of words_of meaning
meant_by_chance_45 = (refl, refl)

-- by chance 46
pub meant_by_chance_46 : (meant conf_r46 names_many devices_many (Once (codes "x22 w")) (waited 4 ++ typed (hex 4 0x6162630d)) 1073741824 ≡ record { outcome = Refused Idle; shown = (codes "LILO\nPassword: \nSorry.\nboot: "); line = Some (Once (codes "x22 w")); written = []; left = [] }) × (meant conf_r46 names_many devices_many Empty (waited 1 ++ typed (hex 2 0x3f0a)) 1048576 ≡ record { outcome = Refused Idle; shown = (codes "LILO\nPassword: \nSorry.\nboot: "); line = Some Empty; written = []; left = [] })
unfolding number16 number32 is_zero components child find_path file_block file_at child_path path_of names_of_section names_of_config started menu_decision menu_boot file_of middle_text target_of menu_entries menu_of meant setup_of version_of header_of header_at fit_checks plan_memory replaced_fields patch command_line written_by place kernel_fit course_of words_of meaning
meant_by_chance_46 = (refl, refl)

-- by chance 47
pub meant_by_chance_47 : (meant conf_r47 names_many devices_many (Kept (codes "gone")) (typed (hex 8 0x6162087f6c0d090a)) 1073741824 ≡ record { outcome = Loaded (record { real = record { address = 0x90000; size = 1024 }; protected = record { address = 0x100000; size = 5 }; initrd = None; line = record { address = 0x99800; size = 32 } }); shown = (codes "LILO\nLoading old\n"); line = Some (Kept (codes "gone")); written = (record { address = 0x90000; bytes = (file 1024 (piece 497 (hex 1 0x01) ∷ piece 506 (hex 14 0xffff000055aa0000486472530602) ∷ piece 528 (hex 2 0x0281) ∷ piece 549 (hex 11 0x96000000980900ffffff37) ∷ piece 568 (hex 1 0xff) ∷ [])) } ∷ record { address = 0x100000; bytes = (file 5 (piece 0 (codes "HELLO") ∷ [])) } ∷ record { address = 0x99800; bytes = (file 32 (piece 0 (codes "auto BOOT_IMAGE=old rw root=301") ∷ [])) } ∷ []); left = (typed (hex 8 0x6162087f6c0d090a)) }) × (meant conf_r47 names_many devices_many (Kept (codes "gone")) [] 16777216 ≡ record { outcome = Loaded (record { real = record { address = 0x90000; size = 1024 }; protected = record { address = 0x100000; size = 5 }; initrd = None; line = record { address = 0x99800; size = 32 } }); shown = (codes "LILO\nLoading old\n"); line = Some (Kept (codes "gone")); written = (record { address = 0x90000; bytes = (file 1024 (piece 497 (hex 1 0x01) ∷ piece 506 (hex 14 0xffff000055aa0000486472530602) ∷ piece 528 (hex 2 0x0281) ∷ piece 549 (hex 11 0x96000000980900ffffff37) ∷ piece 568 (hex 1 0xff) ∷ [])) } ∷ record { address = 0x100000; bytes = (file 5 (piece 0 (codes "HELLO") ∷ [])) } ∷ record { address = 0x99800; bytes = (file 32 (piece 0 (codes "auto BOOT_IMAGE=old rw root=301") ∷ [])) } ∷ []); left = [] })
unfolding number16 number32 is_zero components child find_path file_block file_at child_path path_of names_of_section names_of_config started menu_decision menu_boot file_of middle_text target_of menu_entries menu_of meant setup_of version_of header_of header_at fit_checks plan_memory replaced_fields patch command_line written_by place kernel_fit course_of words_of meaning
meant_by_chance_47 = (refl, refl)

-- by chance 48
pub meant_by_chance_48 : (meant conf_r48 names_many devices_many (Once (codes "old w")) (waited 60 ++ typed (codes "\noldnone")) 1048576 ≡ record { outcome = Loaded (record { real = record { address = 0x90000; size = 1024 }; protected = record { address = 0x10000; size = 5 }; initrd = None; line = record { address = 0x99800; size = 29 } }); shown = (codes "LILO\nLoading old\n"); line = Some Empty; written = (record { address = 0x90000; bytes = (file 1024 (piece 32 (hex 4 0x3fa30098) ∷ piece 497 (hex 1 0x01) ∷ piece 510 (hex 2 0x55aa) ∷ piece 556 (hex 4 0xffffff37) ∷ piece 568 (hex 1 0xff) ∷ [])) } ∷ record { address = 0x10000; bytes = (file 5 (piece 0 (codes "HELLO") ∷ [])) } ∷ record { address = 0x99800; bytes = (file 29 (piece 0 (codes "auto BOOT_IMAGE=old single w") ∷ [])) } ∷ []); left = (waited 60 ++ typed (codes "\noldnone")) }) × (meant conf_r48 names_many devices_many Empty (waited 4 ++ typed (hex 9 0x6f6c64206c6f636b15)) 1048576 ≡ record { outcome = Refused Idle; shown = (codes "LILO\nHello\nthere\nboot: old lock\nboot: "); line = Some Empty; written = []; left = [] })
unfolding number16 number32 is_zero components child find_path file_block file_at child_path path_of names_of_section names_of_config started menu_decision menu_boot file_of middle_text target_of menu_entries menu_of meant setup_of version_of header_of header_at fit_checks plan_memory replaced_fields patch command_line written_by place kernel_fit course_of words_of meaning
meant_by_chance_48 = (refl, refl)

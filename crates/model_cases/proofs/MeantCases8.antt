-- Cases of the model, written by tools/plan_cases.py: what a boot does as configurations say.
use Rattle.std.proofs.Common.{◌≡◌, ◌∷◌, ◌++◌, [], codes, replicate, None, Some, refl}
use Rattle.lilo_model.specs.Boot.{Loaded, Handed, Refused}
use Rattle.lilo_model.specs.Bytes.{number16, number32, is_zero}
use Rattle.lilo_model.specs.Choice.{course_of}
use Rattle.lilo_model.specs.ConfLawful.{names_of_section, names_of_config}
use Rattle.lilo_model.specs.DefaultLine.{Empty, Once, Kept}
use Rattle.lilo_model.specs.Header.{setup_of, version_of, header_of, header_at, fit_checks, plan_memory, replaced_fields, patch, NoRoom}
use Rattle.lilo_model.specs.LineWords.{words_of, meaning}
use Rattle.lilo_model.specs.Meant.{started, menu_decision, menu_boot, file_of, middle_text, target_of, menu_entries, menu_of, meant}
use Rattle.lilo_model.specs.MinixFind.{components, child, find_path, file_block, file_at}
use Rattle.lilo_model.specs.MinixFindNames.{child_path, path_of}
use Rattle.lilo_model.specs.Place.{command_line, written_by, place, kernel_fit}
use Rattle.lilo_model.specs.Reason.{Idle, Header}
use Rattle.model_cases.specs.Sparse.{hex, piece, file, typed, waited}
use Rattle.model_cases.specs.PlanChanceConfs2.{conf_r33, conf_r34, conf_r35, conf_r36, conf_r37, conf_r38, conf_r39, conf_r40}
use Rattle.model_cases.specs.PlanNames.{names_many}
use Rattle.model_cases.specs.PlanVolumes.{devices_many}

-- by chance 33
pub meant_by_chance_33 : (meant conf_r33 names_many devices_many (Once (codes "x2 w")) (waited 60 ++ typed (hex 13 0x6c696e75782073696e676c6515)) 2097152 ≡ record { outcome = Loaded (record { real = record { address = 0x90000; size = 1024 }; protected = record { address = 0x100000; size = 5 }; initrd = None; line = record { address = 0x99800; size = 25 } }); shown = (codes "LILO\nLoading x2\n"); line = Some Empty; written = (record { address = 0x90000; bytes = (file 1024 (piece 497 (hex 1 0x01) ∷ piece 506 (hex 14 0x0500000055aa0000486472530602) ∷ piece 528 (hex 2 0x0281) ∷ piece 549 (hex 11 0x96000000980900ffffff37) ∷ piece 568 (hex 1 0xff) ∷ [])) } ∷ record { address = 0x100000; bytes = (file 5 (piece 0 (codes "HELLO") ∷ [])) } ∷ record { address = 0x99800; bytes = (file 25 (piece 0 (codes "auto BOOT_IMAGE=x2 x y w") ∷ [])) } ∷ []); left = (waited 60 ++ typed (hex 13 0x6c696e75782073696e676c6515)) }) × (meant conf_r33 names_many devices_many (Once (codes "a w")) (waited 4 ++ typed (codes "\n") ++ waited 1 ++ typed (hex 5 0x783215090a)) 1048576 ≡ record { outcome = Handed; shown = (codes "LILO\nLoading a\n"); line = Some Empty; written = (record { address = 0x7c00; bytes = (file 512 (piece 3 (codes "WIN") ∷ piece 510 (hex 2 0x55aa) ∷ [])) } ∷ []); left = (waited 4 ++ typed (codes "\n") ++ waited 1 ++ typed (hex 5 0x783215090a)) })
unfolding number16 number32 is_zero components child find_path file_block file_at child_path path_of names_of_section names_of_config started menu_decision menu_boot file_of middle_text target_of menu_entries menu_of meant setup_of version_of header_of header_at fit_checks plan_memory replaced_fields patch command_line written_by place kernel_fit course_of words_of meaning
meant_by_chance_33 = (refl, refl)

-- by chance 34
pub meant_by_chance_34 : (meant conf_r34 names_many devices_many (Kept (codes "old")) (waited 4) 1048576 ≡ record { outcome = Refused (Header (NoRoom 1049152 1048576)); shown = (codes "LILO\nLoading linux\nError\n"); line = Some (Kept (codes "old2")); written = []; left = (waited 4) }) × (meant conf_r34 names_many devices_many (Kept (codes "gone")) (waited 1 ++ typed (hex 1 0x3f) ++ waited 1 ++ typed (codes "old2\n")) 16777216 ≡ record { outcome = Loaded (record { real = record { address = 0x90000; size = 1024 }; protected = record { address = 0x100000; size = 576 }; initrd = (Some (record { address = 0xfff000; size = 700 })); line = record { address = 0x99800; size = 24 } }); shown = (codes "LILO\nLoading linux\n"); line = Some (Kept (codes "old2")); written = (record { address = 0x90000; bytes = (file 1024 (piece 497 (hex 1 0x01) ∷ piece 506 (hex 14 0xfdff000055aa0000486472530602) ∷ piece 528 (hex 2 0x0281) ∷ piece 537 (hex 5 0xf0ff00bc02) ∷ piece 549 (hex 11 0x96000000980900ffffff37) ∷ piece 568 (hex 1 0xff) ∷ [])) } ∷ record { address = 0x100000; bytes = (file 576 (piece 0 (replicate 576 5) ∷ [])) } ∷ record { address = 0xfff000; bytes = (file 700 (piece 0 (replicate 700 165) ∷ [])) } ∷ record { address = 0x99800; bytes = (file 24 (piece 0 (codes "auto BOOT_IMAGE=linux a") ∷ [])) } ∷ []); left = (waited 1 ++ typed (hex 1 0x3f) ++ waited 1 ++ typed (codes "old2\n")) })
unfolding number16 number32 is_zero components child find_path file_block file_at child_path path_of names_of_section names_of_config started menu_decision menu_boot file_of middle_text target_of menu_entries menu_of meant setup_of version_of header_of header_at fit_checks plan_memory replaced_fields patch command_line written_by place kernel_fit course_of words_of meaning
meant_by_chance_34 = (refl, refl)

-- by chance 35
pub meant_by_chance_35 : (meant conf_r35 names_many devices_many Empty (waited 1 ++ typed (hex 2 0x0915)) 1073741824 ≡ record { outcome = Loaded (record { real = record { address = 0x90000; size = 1024 }; protected = record { address = 0x100000; size = 5 }; initrd = (Some (record { address = 0x37fff000; size = 700 })); line = record { address = 0x99800; size = 29 } }); shown = (codes "LILO\nLoading old\n"); line = Some Empty; written = (record { address = 0x90000; bytes = (file 1024 (piece 497 (hex 1 0x01) ∷ piece 510 (hex 10 0x55aa0000486472530602) ∷ piece 528 (hex 2 0x0281) ∷ piece 537 (hex 5 0xf0ff37bc02) ∷ piece 549 (hex 11 0x96000000980900ffffff37) ∷ piece 568 (hex 1 0xff) ∷ [])) } ∷ record { address = 0x100000; bytes = (file 5 (piece 0 (codes "HELLO") ∷ [])) } ∷ record { address = 0x37fff000; bytes = (file 700 (piece 0 (replicate 700 165) ∷ [])) } ∷ record { address = 0x99800; bytes = (file 29 (piece 0 (codes "auto BOOT_IMAGE=old root=803") ∷ [])) } ∷ []); left = (waited 1 ++ typed (hex 2 0x0915)) }) × (meant conf_r35 names_many devices_many Empty (typed (codes "abc\n") ++ waited 60 ++ typed (codes "a\n") ++ waited 1 ++ typed (codes "old lock\n")) 1048576 ≡ record { outcome = Refused (Header (NoRoom 1048581 1048576)); shown = (codes "LILO\nLoading old\nError\n"); line = Some Empty; written = []; left = (typed (codes "abc\n") ++ waited 60 ++ typed (codes "a\n") ++ waited 1 ++ typed (codes "old lock\n")) })
unfolding number16 number32 is_zero components child find_path file_block file_at child_path path_of names_of_section names_of_config started menu_decision menu_boot file_of middle_text target_of menu_entries menu_of meant setup_of version_of header_of header_at fit_checks plan_memory replaced_fields patch command_line written_by place kernel_fit course_of words_of meaning
meant_by_chance_35 = (refl, refl)

-- by chance 36
pub meant_by_chance_36 : (meant conf_r36 names_many devices_many (Kept (codes "win")) (waited 4 ++ typed (hex 1 0x09)) 16777216 ≡ record { outcome = Loaded (record { real = record { address = 0x90000; size = 1024 }; protected = record { address = 0x100000; size = 576 }; initrd = None; line = record { address = 0x99800; size = 20 } }); shown = (codes "LILO\nLoading win\n"); line = Some (Kept (codes "win")); written = (record { address = 0x90000; bytes = (file 1024 (piece 497 (hex 1 0x01) ∷ piece 506 (hex 14 0xfdff000055aa0000486472530602) ∷ piece 528 (hex 2 0x0281) ∷ piece 549 (hex 11 0x96000000980900ffffff37) ∷ piece 568 (hex 1 0xff) ∷ [])) } ∷ record { address = 0x100000; bytes = (file 576 (piece 0 (replicate 576 5) ∷ [])) } ∷ record { address = 0x99800; bytes = (file 20 (piece 0 (codes "auto BOOT_IMAGE=win") ∷ [])) } ∷ []); left = (waited 3 ++ typed (hex 1 0x09)) }) × (meant conf_r36 names_many devices_many Empty [] 1073741824 ≡ record { outcome = Refused Idle; shown = (codes "LILO\nboot: "); line = Some Empty; written = []; left = [] })
unfolding number16 number32 is_zero components child find_path file_block file_at child_path path_of names_of_section names_of_config started menu_decision menu_boot file_of middle_text target_of menu_entries menu_of meant setup_of version_of header_of header_at fit_checks plan_memory replaced_fields patch command_line written_by place kernel_fit course_of words_of meaning
meant_by_chance_36 = (refl, refl)

-- by chance 37
pub meant_by_chance_37 : (meant conf_r37 names_many devices_many (Kept (codes "linux")) [] 1073741824 ≡ record { outcome = Refused Idle; shown = (codes "LILO\nPassword: \nHello\nthere\nboot: "); line = Some (Kept (codes "linux")); written = []; left = [] }) × (meant conf_r37 names_many devices_many (Kept (codes "gone")) [] 1073741824 ≡ record { outcome = Refused Idle; shown = (codes "LILO\nHello\nthere\nboot: "); line = Some (Kept (codes "gone")); written = []; left = [] })
unfolding number16 number32 is_zero components child find_path file_block file_at child_path path_of names_of_section names_of_config started menu_decision menu_boot file_of middle_text target_of menu_entries menu_of meant setup_of version_of header_of header_at fit_checks plan_memory replaced_fields patch command_line written_by place kernel_fit course_of words_of meaning
meant_by_chance_37 = (refl, refl)

-- by chance 38
pub meant_by_chance_38 : (meant conf_r38 names_many devices_many (Once (codes "win2 w")) [] 16777216 ≡ record { outcome = Loaded (record { real = record { address = 0x90000; size = 1024 }; protected = record { address = 0x100000; size = 5 }; initrd = None; line = record { address = 0x99800; size = 32 } }); shown = (codes "LILO\nLoading win2\n"); line = Some Empty; written = (record { address = 0x90000; bytes = (file 1024 (piece 497 (hex 1 0x01) ∷ piece 510 (hex 10 0x55aa0000486472530602) ∷ piece 528 (hex 2 0x0281) ∷ piece 549 (hex 11 0x96000000980900ffffff37) ∷ piece 568 (hex 1 0xff) ∷ [])) } ∷ record { address = 0x100000; bytes = (file 5 (piece 0 (codes "HELLO") ∷ [])) } ∷ record { address = 0x99800; bytes = (file 32 (piece 0 (codes "auto BOOT_IMAGE=win2 root=803 w") ∷ [])) } ∷ []); left = [] }) × (meant conf_r38 names_many devices_many (Kept (codes "gone")) (waited 1 ++ typed (codes "win vga=7 z")) 1073741824 ≡ record { outcome = Loaded (record { real = record { address = 0x90000; size = 1024 }; protected = record { address = 0x100000; size = 5 }; initrd = None; line = record { address = 0x99800; size = 29 } }); shown = (codes "LILO\nLoading win\n"); line = Some (Kept (codes "gone")); written = (record { address = 0x90000; bytes = (file 1024 (piece 497 (hex 1 0x01) ∷ piece 510 (hex 10 0x55aa0000486472530602) ∷ piece 528 (hex 2 0x0281) ∷ piece 549 (hex 11 0x96000000980900ffffff37) ∷ piece 568 (hex 1 0xff) ∷ [])) } ∷ record { address = 0x100000; bytes = (file 5 (piece 0 (codes "HELLO") ∷ [])) } ∷ record { address = 0x99800; bytes = (file 29 (piece 0 (codes "auto BOOT_IMAGE=win root=803") ∷ [])) } ∷ []); left = (waited 1 ++ typed (codes "win vga=7 z")) })
unfolding number16 number32 is_zero components child find_path file_block file_at child_path path_of names_of_section names_of_config started menu_decision menu_boot file_of middle_text target_of menu_entries menu_of meant setup_of version_of header_of header_at fit_checks plan_memory replaced_fields patch command_line written_by place kernel_fit course_of words_of meaning
meant_by_chance_38 = (refl, refl)

-- by chance 39
pub meant_by_chance_39 : (meant conf_r39 names_many devices_many (Kept (codes "a")) (typed (hex 10 0x61207667613d37207a15)) 1073741824 ≡ record { outcome = Refused Idle; shown = (codes "LILO\nboot: a vga=7 z\nboot: "); line = Some (Kept (codes "a")); written = []; left = [] }) × (meant conf_r39 names_many devices_many Empty (waited 4 ++ typed (hex 9 0x77696e206c6f636b0d) ++ waited 60 ++ typed (codes "\n")) 16777216 ≡ record { outcome = Loaded (record { real = record { address = 0x90000; size = 1024 }; protected = record { address = 0x100000; size = 576 }; initrd = (Some (record { address = 0xfff000; size = 700 })); line = record { address = 0x99800; size = 22 } }); shown = (codes "LILO\nLoading a2\n"); line = Some Empty; written = (record { address = 0x90000; bytes = (file 1024 (piece 497 (hex 1 0x01) ∷ piece 506 (hex 14 0xffff000055aa0000486472530602) ∷ piece 528 (hex 2 0x0281) ∷ piece 537 (hex 5 0xf0ff00bc02) ∷ piece 549 (hex 11 0x96000000980900ffffff37) ∷ piece 568 (hex 1 0xff) ∷ [])) } ∷ record { address = 0x100000; bytes = (file 576 (piece 0 (replicate 576 5) ∷ [])) } ∷ record { address = 0xfff000; bytes = (file 700 (piece 0 (replicate 700 165) ∷ [])) } ∷ record { address = 0x99800; bytes = (file 22 (piece 0 (codes "auto BOOT_IMAGE=a2 ro") ∷ [])) } ∷ []); left = (waited 1 ++ typed (hex 9 0x77696e206c6f636b0d) ++ waited 60 ++ typed (codes "\n")) })
unfolding number16 number32 is_zero components child find_path file_block file_at child_path path_of names_of_section names_of_config started menu_decision menu_boot file_of middle_text target_of menu_entries menu_of meant setup_of version_of header_of header_at fit_checks plan_memory replaced_fields patch command_line written_by place kernel_fit course_of words_of meaning
meant_by_chance_39 = (refl, refl)

-- by chance 40
pub meant_by_chance_40 : (meant conf_r40 names_many devices_many Empty (typed (hex 5 0x6e6f6e650d)) 2097152 ≡ record { outcome = Refused Idle; shown = (codes "LILO\nHello\nthere\nboot: none\nNo such image.\nboot: "); line = Some Empty; written = []; left = [] }) × (meant conf_r40 names_many devices_many (Kept (codes "a2")) (typed (codes "none") ++ waited 4 ++ typed (hex 1 0x09)) 1048576 ≡ record { outcome = Refused (Header (NoRoom 1051653 1048576)); shown = (codes "LILO\nLoading a2\nError\n"); line = Some (Kept (codes "a")); written = []; left = (typed (codes "none") ++ waited 4 ++ typed (hex 1 0x09)) })
unfolding number16 number32 is_zero components child find_path file_block file_at child_path path_of names_of_section names_of_config started menu_decision menu_boot file_of middle_text target_of menu_entries menu_of meant setup_of version_of header_of header_at fit_checks plan_memory replaced_fields patch command_line written_by place kernel_fit course_of words_of meaning
meant_by_chance_40 = (refl, refl)

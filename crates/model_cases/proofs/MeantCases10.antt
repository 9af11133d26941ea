-- Cases of the model, written by tools/plan_cases.py: what a boot does as configurations say.
use Rattle.std.proofs.Common.{◌≡◌, ◌∷◌, ◌++◌, [], codes, replicate, None, Some, refl}
use Rattle.lilo_model.specs.Boot.{Loaded, Refused}
use Rattle.lilo_model.specs.Bytes.{number16, number32, is_zero}
use Rattle.lilo_model.specs.Choice.{course_of}
use Rattle.lilo_model.specs.ConfLawful.{names_of_section, names_of_config}
use Rattle.lilo_model.specs.DefaultLine.{Empty, Once, Kept}
use Rattle.lilo_model.specs.Header.{setup_of, version_of, header_of, header_at, fit_checks, plan_memory, replaced_fields, patch, NoRoom}
use Rattle.lilo_model.specs.LineWords.{words_of, meaning}
use Rattle.lilo_model.specs.Meant.{started, menu_decision, menu_boot, file_of, middle_text, target_of, menu_entries, menu_of, meant}
use Rattle.lilo_model.specs.MinixFind.{components, child, find_path, file_block, file_at}
use Rattle.lilo_model.specs.MinixFindNames.{child_path, path_of}
use Rattle.lilo_model.specs.Place.{command_line, written_by, place, kernel_fit}
use Rattle.lilo_model.specs.Reason.{Idle, Header}
use Rattle.model_cases.specs.Sparse.{hex, piece, file, typed, waited}
use Rattle.model_cases.specs.PlanChanceConfs2.{conf_r49, conf_r50, conf_r51, conf_r52, conf_r53, conf_r54, conf_r55, conf_r56}
use Rattle.model_cases.specs.PlanNames.{names_many}
use Rattle.model_cases.specs.PlanVolumes.{devices_many}

-- by chance 49
pub meant_by_chance_49 : (meant conf_r49 names_many devices_many (Kept (codes "old")) (typed (hex 5 0x6162087f6c)) 16777216 ≡ record { outcome = Loaded (record { real = record { address = 0x90000; size = 1024 }; protected = record { address = 0x100000; size = 576 }; initrd = None; line = record { address = 0x99800; size = 38 } }); shown = (codes "LILO\nLoading old\n"); line = Some (Kept (codes "old")); written = (record { address = 0x90000; bytes = (file 1024 (piece 497 (hex 1 0x01) ∷ piece 510 (hex 10 0x55aa0000486472530602) ∷ piece 528 (hex 2 0x0281) ∷ piece 549 (hex 11 0x96000000980900ffffff37) ∷ piece 568 (hex 1 0xff) ∷ [])) } ∷ record { address = 0x100000; bytes = (file 576 (piece 0 (replicate 576 5) ∷ [])) } ∷ record { address = 0x99800; bytes = (file 38 (piece 0 (codes "auto BOOT_IMAGE=old rw root=801 quiet") ∷ [])) } ∷ []); left = (typed (hex 5 0x6162087f6c)) }) × (meant conf_r49 names_many devices_many Empty (waited 1 ++ typed (hex 6 0x6162087f6c15) ++ waited 1 ++ typed (hex 6 0x6162630d090d)) 1073741824 ≡ record { outcome = Loaded (record { real = record { address = 0x90000; size = 1024 }; protected = record { address = 0x100000; size = 576 }; initrd = None; line = record { address = 0x99800; size = 31 } }); shown = (codes "LILO\nLoading x2\n"); line = Some Empty; written = (record { address = 0x90000; bytes = (file 1024 (piece 497 (hex 1 0x01) ∷ piece 510 (hex 10 0x55aa0000486472530602) ∷ piece 528 (hex 2 0x0281) ∷ piece 549 (hex 11 0x96000000980900ffffff37) ∷ piece 568 (hex 1 0xff) ∷ [])) } ∷ record { address = 0x100000; bytes = (file 576 (piece 0 (replicate 576 5) ∷ [])) } ∷ record { address = 0x99800; bytes = (file 31 (piece 0 (codes "auto BOOT_IMAGE=x2 rw root=803") ∷ [])) } ∷ []); left = (waited 1 ++ typed (hex 6 0x6162087f6c15) ++ waited 1 ++ typed (hex 6 0x6162630d090d)) })
unfolding number16 number32 is_zero components child find_path file_block file_at child_path path_of names_of_section names_of_config started menu_decision menu_boot file_of middle_text target_of menu_entries menu_of meant setup_of version_of header_of header_at fit_checks plan_memory replaced_fields patch command_line written_by place kernel_fit course_of words_of meaning
meant_by_chance_49 = (refl, refl)

-- by chance 50
pub meant_by_chance_50 : (meant conf_r50 names_many devices_many (Kept (codes "gone")) (waited 4 ++ typed (hex 8 0x6e6f6e650d616263)) 2097152 ≡ record { outcome = Refused Idle; shown = (codes "LILO\nHello\nthere\nboot: none\nNo such image.\nboot: abc"); line = Some (Kept (codes "gone")); written = []; left = [] }) × (meant conf_r50 names_many devices_many Empty (waited 60 ++ typed (hex 13 0x6c696e75782073696e676c650d)) 1073741824 ≡ record { outcome = Loaded (record { real = record { address = 0x90000; size = 1024 }; protected = record { address = 0x100000; size = 3077 }; initrd = (Some (record { address = 0x37fff000; size = 1500 })); line = record { address = 0x99800; size = 21 } }); shown = (codes "LILO\nLoading win2\n"); line = Some (Kept (codes "win2")); written = (record { address = 0x90000; bytes = (file 1024 (piece 497 (hex 1 0x01) ∷ piece 510 (hex 10 0x55aa0000486472530602) ∷ piece 528 (hex 2 0x0281) ∷ piece 537 (hex 5 0xf0ff37dc05) ∷ piece 549 (hex 11 0x96000000980900ffffff37) ∷ piece 568 (hex 1 0xff) ∷ [])) } ∷ record { address = 0x100000; bytes = (file 3077 (piece 0 (replicate 1024 7) ∷ piece 2048 (replicate 1029 7) ∷ [])) } ∷ record { address = 0x37fff000; bytes = (file 1500 (piece 0 (replicate 1500 17) ∷ [])) } ∷ record { address = 0x99800; bytes = (file 21 (piece 0 (codes "auto BOOT_IMAGE=win2") ∷ [])) } ∷ []); left = (waited 40 ++ typed (hex 13 0x6c696e75782073696e676c650d)) })
unfolding number16 number32 is_zero components child find_path file_block file_at child_path path_of names_of_section names_of_config started menu_decision menu_boot file_of middle_text target_of menu_entries menu_of meant setup_of version_of header_of header_at fit_checks plan_memory replaced_fields patch command_line written_by place kernel_fit course_of words_of meaning
meant_by_chance_50 = (refl, refl)

-- by chance 51
pub meant_by_chance_51 : (meant conf_r51 names_many devices_many Empty [] 16777216 ≡ record { outcome = Loaded (record { real = record { address = 0x90000; size = 1024 }; protected = record { address = 0x100000; size = 576 }; initrd = (Some (record { address = 0xfff000; size = 700 })); line = record { address = 0x99800; size = 25 } }); shown = (codes "LILO\nLoading a\n"); line = Some Empty; written = (record { address = 0x90000; bytes = (file 1024 (piece 497 (hex 1 0x01) ∷ piece 510 (hex 10 0x55aa0000486472530602) ∷ piece 528 (hex 2 0x0281) ∷ piece 537 (hex 5 0xf0ff00bc02) ∷ piece 549 (hex 11 0x96000000980900ffffff37) ∷ piece 568 (hex 1 0xff) ∷ [])) } ∷ record { address = 0x100000; bytes = (file 576 (piece 0 (replicate 576 5) ∷ [])) } ∷ record { address = 0xfff000; bytes = (file 700 (piece 0 (replicate 700 165) ∷ [])) } ∷ record { address = 0x99800; bytes = (file 25 (piece 0 (codes "auto BOOT_IMAGE=a single") ∷ [])) } ∷ []); left = [] }) × (meant conf_r51 names_many devices_many Empty (waited 1) 1073741824 ≡ record { outcome = Loaded (record { real = record { address = 0x90000; size = 1024 }; protected = record { address = 0x100000; size = 576 }; initrd = (Some (record { address = 0x37fff000; size = 700 })); line = record { address = 0x99800; size = 25 } }); shown = (codes "LILO\nLoading a\n"); line = Some Empty; written = (record { address = 0x90000; bytes = (file 1024 (piece 497 (hex 1 0x01) ∷ piece 510 (hex 10 0x55aa0000486472530602) ∷ piece 528 (hex 2 0x0281) ∷ piece 537 (hex 5 0xf0ff37bc02) ∷ piece 549 (hex 11 0x96000000980900ffffff37) ∷ piece 568 (hex 1 0xff) ∷ [])) } ∷ record { address = 0x100000; bytes = (file 576 (piece 0 (replicate 576 5) ∷ [])) } ∷ record { address = 0x37fff000; bytes = (file 700 (piece 0 (replicate 700 165) ∷ [])) } ∷ record { address = 0x99800; bytes = (file 25 (piece 0 (codes "auto BOOT_IMAGE=a single") ∷ [])) } ∷ []); left = [] })
unfolding number16 number32 is_zero components child find_path file_block file_at child_path path_of names_of_section names_of_config started menu_decision menu_boot file_of middle_text target_of menu_entries menu_of meant setup_of version_of header_of header_at fit_checks plan_memory replaced_fields patch command_line written_by place kernel_fit course_of words_of meaning
meant_by_chance_51 = (refl, refl)

-- by chance 52
pub meant_by_chance_52 : (meant conf_r52 names_many devices_many Empty (waited 60 ++ typed (hex 1 0x0d)) 2097152 ≡ record { outcome = Loaded (record { real = record { address = 0x90000; size = 1024 }; protected = record { address = 0x100000; size = 31976 }; initrd = None; line = record { address = 0x99800; size = 24 } }); shown = (codes "LILO\nboot: \nLoading old\n"); line = Some Empty; written = (record { address = 0x90000; bytes = (file 1024 (piece 497 (hex 1 0x01) ∷ piece 510 (hex 10 0x55aa0000486472530602) ∷ piece 528 (hex 2 0x0281) ∷ piece 549 (hex 11 0x96000000980900ffffff37) ∷ piece 568 (hex 1 0xff) ∷ [])) } ∷ record { address = 0x100000; bytes = (file 31976 (piece 0 (replicate 31976 5) ∷ [])) } ∷ record { address = 0x99800; bytes = (file 24 (piece 0 (codes "BOOT_IMAGE=old rw quiet") ∷ [])) } ∷ []); left = [] }) × (meant conf_r52 names_many devices_many (Once (codes "win w")) [] 16777216 ≡ record { outcome = Loaded (record { real = record { address = 0x90000; size = 1024 }; protected = record { address = 0x100000; size = 576 }; initrd = None; line = record { address = 0x99800; size = 31 } }); shown = (codes "LILO\nLoading win\n"); line = Some (Kept (codes "old")); written = (record { address = 0x90000; bytes = (file 1024 (piece 497 (hex 1 0x01) ∷ piece 510 (hex 10 0x55aa0000486472530602) ∷ piece 528 (hex 2 0x0281) ∷ piece 549 (hex 11 0x96000000980900ffffff37) ∷ piece 568 (hex 1 0xff) ∷ [])) } ∷ record { address = 0x100000; bytes = (file 576 (piece 0 (replicate 576 5) ∷ [])) } ∷ record { address = 0x99800; bytes = (file 31 (piece 0 (codes "auto BOOT_IMAGE=win ro quiet w") ∷ [])) } ∷ []); left = [] })
unfolding number16 number32 is_zero components child find_path file_block file_at child_path path_of names_of_section names_of_config started menu_decision menu_boot file_of middle_text target_of menu_entries menu_of meant setup_of version_of header_of header_at fit_checks plan_memory replaced_fields patch command_line written_by place kernel_fit course_of words_of meaning
meant_by_chance_52 = (refl, refl)

-- by chance 53
pub meant_by_chance_53 : (meant conf_r53 names_many devices_many (Kept (codes "x2")) (waited 1 ++ typed (codes "linux\n")) 1048576 ≡ record { outcome = Refused (Header (NoRoom 1049152 1048576)); shown = (codes "LILO\nLoading x2\nError\n"); line = Some (Kept (codes "x2")); written = []; left = (typed (codes "linux\n")) }) × (meant conf_r53 names_many devices_many (Once (codes "x2 w")) [] 1048576 ≡ record { outcome = Refused (Header (NoRoom 1049152 1048576)); shown = (codes "LILO\nLoading x2\nError\n"); line = Some Empty; written = []; left = [] })
unfolding number16 number32 is_zero components child find_path file_block file_at child_path path_of names_of_section names_of_config started menu_decision menu_boot file_of middle_text target_of menu_entries menu_of meant setup_of version_of header_of header_at fit_checks plan_memory replaced_fields patch command_line written_by place kernel_fit course_of words_of meaning
meant_by_chance_53 = (refl, refl)

-- by chance 54
pub meant_by_chance_54 : (meant conf_r54 names_many devices_many Empty (typed (codes "win vga=7 z\n")) 16777216 ≡ record { outcome = Loaded (record { real = record { address = 0x90000; size = 1024 }; protected = record { address = 0x100000; size = 3077 }; initrd = (Some (record { address = 0xfff000; size = 1500 })); line = record { address = 0x99800; size = 28 } }); shown = (codes "LILO\nboot: win vga=7 z\nLoading win\n"); line = Some Empty; written = (record { address = 0x90000; bytes = (file 1024 (piece 497 (hex 1 0x01) ∷ piece 506 (hex 14 0x0700000055aa0000486472530602) ∷ piece 528 (hex 2 0x0281) ∷ piece 537 (hex 5 0xf0ff00dc05) ∷ piece 549 (hex 11 0x96000000980900ffffff37) ∷ piece 568 (hex 1 0xff) ∷ [])) } ∷ record { address = 0x100000; bytes = (file 3077 (piece 0 (replicate 1024 7) ∷ piece 2048 (replicate 1029 7) ∷ [])) } ∷ record { address = 0xfff000; bytes = (file 1500 (piece 0 (replicate 1500 17) ∷ [])) } ∷ record { address = 0x99800; bytes = (file 28 (piece 0 (codes "BOOT_IMAGE=win mem=64M  y z") ∷ [])) } ∷ []); left = [] }) × (meant conf_r54 names_many devices_many (Kept (codes "gone")) (waited 4 ++ typed (codes "tux\n")) 1048576 ≡ record { outcome = Refused (Header (NoRoom 1051653 1048576)); shown = (codes "LILO\nboot: \nLoading win\nError\n"); line = Some (Kept (codes "gone")); written = []; left = (waited 3 ++ typed (codes "tux\n")) })
unfolding number16 number32 is_zero components child find_path file_block file_at child_path path_of names_of_section names_of_config started menu_decision menu_boot file_of middle_text target_of menu_entries menu_of meant setup_of version_of header_of header_at fit_checks plan_memory replaced_fields patch command_line written_by place kernel_fit course_of words_of meaning
meant_by_chance_54 = (refl, refl)

-- by chance 55
pub meant_by_chance_55 : (meant conf_r55 names_many devices_many (Once (codes "win w")) (typed (codes "linux single\n")) 1073741824 ≡ record { outcome = Refused Idle; shown = (codes "LILO\nboot: linux single\nNo such image.\nboot: "); line = Some (Once (codes "win w")); written = []; left = [] }) × (meant conf_r55 names_many devices_many (Once (codes "a w")) (typed (codes "tux\n")) 1073741824 ≡ record { outcome = Refused Idle; shown = (codes "LILO\nboot: tux\nNo such image.\nboot: "); line = Some (Once (codes "a w")); written = []; left = [] })
unfolding number16 number32 is_zero components child find_path file_block file_at child_path path_of names_of_section names_of_config started menu_decision menu_boot file_of middle_text target_of menu_entries menu_of meant setup_of version_of header_of header_at fit_checks plan_memory replaced_fields patch command_line written_by place kernel_fit course_of words_of meaning
meant_by_chance_55 = (refl, refl)

-- by chance 56
pub meant_by_chance_56 : (meant conf_r56 names_many devices_many Empty [] 16777216 ≡ record { outcome = Refused Idle; shown = (codes "LILO\nboot: "); line = Some Empty; written = []; left = [] }) × (meant conf_r56 names_many devices_many Empty (typed (hex 3 0x783215) ++ waited 4 ++ typed (codes "win\n")) 1073741824 ≡ record { outcome = Loaded (record { real = record { address = 0x90000; size = 1024 }; protected = record { address = 0x100000; size = 576 }; initrd = None; line = record { address = 0x99800; size = 21 } }); shown = (codes "LILO\nboot: x2\nboot: win\nLoading win\n"); line = Some (Kept (codes "win")); written = (record { address = 0x90000; bytes = (file 1024 (piece 497 (hex 1 0x01) ∷ piece 510 (hex 10 0x55aa0000486472530602) ∷ piece 528 (hex 2 0x0281) ∷ piece 549 (hex 11 0x96000000980900ffffff37) ∷ piece 568 (hex 1 0xff) ∷ [])) } ∷ record { address = 0x100000; bytes = (file 576 (piece 0 (replicate 576 5) ∷ [])) } ∷ record { address = 0x99800; bytes = (file 21 (piece 0 (codes "BOOT_IMAGE=win quiet") ∷ [])) } ∷ []); left = [] })
unfolding number16 number32 is_zero components child find_path file_block file_at child_path path_of names_of_section names_of_config started menu_decision menu_boot file_of middle_text target_of menu_entries menu_of meant setup_of version_of header_of header_at fit_checks plan_memory replaced_fields patch command_line written_by place kernel_fit course_of words_of meaning
meant_by_chance_56 = (refl, refl)

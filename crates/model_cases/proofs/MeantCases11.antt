-- Cases of the model, written by tools/plan_cases.py: what a boot does as configurations say.
use Rattle.std.proofs.Common.{◌≡◌, ◌∷◌, ◌++◌, [], codes, replicate, None, Some, refl}
use Rattle.lilo_model.specs.Boot.{Loaded}
use Rattle.lilo_model.specs.Bytes.{number16, number32, is_zero}
use Rattle.lilo_model.specs.Choice.{course_of}
use Rattle.lilo_model.specs.ConfLawful.{names_of_section, names_of_config}
use Rattle.lilo_model.specs.DefaultLine.{Empty, Once, Kept}
use Rattle.lilo_model.specs.Header.{setup_of, version_of, header_of, header_at, fit_checks, plan_memory, replaced_fields, patch}
use Rattle.lilo_model.specs.LineWords.{words_of, meaning}
use Rattle.lilo_model.specs.Meant.{started, menu_decision, menu_boot, file_of, middle_text, target_of, menu_entries, menu_of, meant}
use Rattle.lilo_model.specs.MinixFind.{components, child, find_path, file_block, file_at}
use Rattle.lilo_model.specs.MinixFindNames.{child_path, path_of}
use Rattle.lilo_model.specs.Place.{command_line, written_by, place, kernel_fit}
use Rattle.model_cases.specs.Sparse.{hex, piece, file, typed, waited}
use Rattle.model_cases.specs.PlanChanceConfs2.{conf_r57, conf_r58, conf_r59, conf_r60}
use Rattle.model_cases.specs.PlanNames.{names_many, names_tracks}
use Rattle.model_cases.specs.PlanTracksConfs.{conf_tracks_1, conf_tracks_2, conf_tracks_3, conf_tracks_4}
use Rattle.model_cases.specs.PlanVolumes.{devices_many, devices_tracks}

-- by chance 57
pub meant_by_chance_57 : (meant conf_r57 names_many devices_many Empty (typed (hex 9 0x616263156f6c640d3f)) 16777216 ≡ record { outcome = Loaded (record { real = record { address = 0x90000; size = 1024 }; protected = record { address = 0x10000; size = 5 }; initrd = None; line = record { address = 0x99800; size = 24 } }); shown = (codes "LILO\nboot: abc\nboot: old\nLoading old\n"); line = Some Empty; written = (record { address = 0x90000; bytes = (file 1024 (piece 32 (hex 4 0x3fa30098) ∷ piece 497 (hex 1 0x01) ∷ piece 510 (hex 2 0x55aa) ∷ piece 556 (hex 4 0xffffff37) ∷ piece 568 (hex 1 0xff) ∷ [])) } ∷ record { address = 0x10000; bytes = (file 5 (piece 0 (codes "HELLO") ∷ [])) } ∷ record { address = 0x99800; bytes = (file 24 (piece 0 (codes "BOOT_IMAGE=old root=801") ∷ [])) } ∷ []); left = (typed (hex 1 0x3f)) }) × (meant conf_r57 names_many devices_many (Once (codes "win2 w")) (waited 60 ++ typed (hex 2 0x090d)) 16777216 ≡ record { outcome = Loaded (record { real = record { address = 0x90000; size = 2560 }; protected = record { address = 0x100000; size = 5 }; initrd = None; line = record { address = 0x99800; size = 25 } }); shown = (codes "LILO\nboot: \nLoading linux\n"); line = Some (Kept (codes "linux")); written = (record { address = 0x90000; bytes = (file 2560 (piece 510 (hex 10 0x55aa0000486472530602) ∷ piece 528 (hex 2 0x0281) ∷ piece 549 (hex 11 0x96000000980900ffffff37) ∷ piece 568 (hex 1 0xff) ∷ [])) } ∷ record { address = 0x100000; bytes = (file 5 (piece 0 (codes "PMODE") ∷ [])) } ∷ record { address = 0x99800; bytes = (file 25 (piece 0 (codes "auto BOOT_IMAGE=linux rw") ∷ [])) } ∷ []); left = (waited 55 ++ typed (hex 2 0x090d)) })
unfolding number16 number32 is_zero components child find_path file_block file_at child_path path_of names_of_section names_of_config started menu_decision menu_boot file_of middle_text target_of menu_entries menu_of meant setup_of version_of header_of header_at fit_checks plan_memory replaced_fields patch command_line written_by place kernel_fit course_of words_of meaning
meant_by_chance_57 = (refl, refl)

-- by chance 58
pub meant_by_chance_58 : (meant conf_r58 names_many devices_many (Kept (codes "gone")) [] 16777216 ≡ record { outcome = Loaded (record { real = record { address = 0x90000; size = 1024 }; protected = record { address = 0x100000; size = 576 }; initrd = None; line = record { address = 0x99800; size = 20 } }); shown = (codes "LILO\nLoading win\n"); line = Some (Kept (codes "win")); written = (record { address = 0x90000; bytes = (file 1024 (piece 497 (hex 1 0x01) ∷ piece 510 (hex 10 0x55aa0000486472530602) ∷ piece 528 (hex 2 0x0281) ∷ piece 549 (hex 11 0x96000000980900ffffff37) ∷ piece 568 (hex 1 0xff) ∷ [])) } ∷ record { address = 0x100000; bytes = (file 576 (piece 0 (replicate 576 5) ∷ [])) } ∷ record { address = 0x99800; bytes = (file 20 (piece 0 (codes "auto BOOT_IMAGE=win") ∷ [])) } ∷ []); left = [] }) × (meant conf_r58 names_many devices_many Empty (waited 60 ++ typed (hex 9 0x77696e206c6f636b0d) ++ waited 4 ++ typed (codes "win lock\n") ++ waited 1 ++ typed (hex 6 0x6162087f6c0d)) 1073741824 ≡ record { outcome = Loaded (record { real = record { address = 0x90000; size = 1024 }; protected = record { address = 0x100000; size = 576 }; initrd = None; line = record { address = 0x99800; size = 20 } }); shown = (codes "LILO\nLoading win\n"); line = Some (Kept (codes "win")); written = (record { address = 0x90000; bytes = (file 1024 (piece 497 (hex 1 0x01) ∷ piece 510 (hex 10 0x55aa0000486472530602) ∷ piece 528 (hex 2 0x0281) ∷ piece 549 (hex 11 0x96000000980900ffffff37) ∷ piece 568 (hex 1 0xff) ∷ [])) } ∷ record { address = 0x100000; bytes = (file 576 (piece 0 (replicate 576 5) ∷ [])) } ∷ record { address = 0x99800; bytes = (file 20 (piece 0 (codes "auto BOOT_IMAGE=win") ∷ [])) } ∷ []); left = (waited 40 ++ typed (hex 9 0x77696e206c6f636b0d) ++ waited 4 ++ typed (codes "win lock\n") ++ waited 1 ++ typed (hex 6 0x6162087f6c0d)) })
unfolding number16 number32 is_zero components child find_path file_block file_at child_path path_of names_of_section names_of_config started menu_decision menu_boot file_of middle_text target_of menu_entries menu_of meant setup_of version_of header_of header_at fit_checks plan_memory replaced_fields patch command_line written_by place kernel_fit course_of words_of meaning
meant_by_chance_58 = (refl, refl)

-- by chance 59
pub meant_by_chance_59 : (meant conf_r59 names_many devices_many (Kept (codes "gone")) [] 2097152 ≡ record { outcome = Loaded (record { real = record { address = 0x90000; size = 1024 }; protected = record { address = 0x10000; size = 5 }; initrd = None; line = record { address = 0x99800; size = 34 } }); shown = (codes "LILO\nLoading win\n"); line = Some (Kept (codes "gone")); written = (record { address = 0x90000; bytes = (file 1024 (piece 32 (hex 4 0x3fa30098) ∷ piece 497 (hex 1 0x01) ∷ piece 506 (hex 6 0xffff000055aa) ∷ piece 556 (hex 4 0xffffff37) ∷ piece 568 (hex 1 0xff) ∷ [])) } ∷ record { address = 0x10000; bytes = (file 5 (piece 0 (codes "HELLO") ∷ [])) } ∷ record { address = 0x99800; bytes = (file 34 (piece 0 (codes "auto BOOT_IMAGE=win rw mem=64M  y") ∷ [])) } ∷ []); left = [] }) × (meant conf_r59 names_many devices_many Empty (waited 4 ++ typed (hex 9 0x77696e206c6f636b15) ++ waited 4 ++ typed (hex 24 0x77696e207667613d37207a0d77696e207667613d37207a0a)) 1048576 ≡ record { outcome = Loaded (record { real = record { address = 0x90000; size = 1024 }; protected = record { address = 0x10000; size = 5 }; initrd = None; line = record { address = 0x99800; size = 34 } }); shown = (codes "LILO\nLoading win\n"); line = Some Empty; written = (record { address = 0x90000; bytes = (file 1024 (piece 32 (hex 4 0x3fa30098) ∷ piece 497 (hex 1 0x01) ∷ piece 506 (hex 6 0xffff000055aa) ∷ piece 556 (hex 4 0xffffff37) ∷ piece 568 (hex 1 0xff) ∷ [])) } ∷ record { address = 0x10000; bytes = (file 5 (piece 0 (codes "HELLO") ∷ [])) } ∷ record { address = 0x99800; bytes = (file 34 (piece 0 (codes "auto BOOT_IMAGE=win rw mem=64M  y") ∷ [])) } ∷ []); left = (waited 3 ++ typed (hex 9 0x77696e206c6f636b15) ++ waited 4 ++ typed (hex 24 0x77696e207667613d37207a0d77696e207667613d37207a0a)) })
unfolding number16 number32 is_zero components child find_path file_block file_at child_path path_of names_of_section names_of_config started menu_decision menu_boot file_of middle_text target_of menu_entries menu_of meant setup_of version_of header_of header_at fit_checks plan_memory replaced_fields patch command_line written_by place kernel_fit course_of words_of meaning
meant_by_chance_59 = (refl, refl)

-- by chance 60
pub meant_by_chance_60 : (meant conf_r60 names_many devices_many (Kept (codes "old")) [] 2097152 ≡ record { outcome = Loaded (record { real = record { address = 0x90000; size = 2560 }; protected = record { address = 0x100000; size = 5 }; initrd = None; line = record { address = 0x99800; size = 29 } }); shown = (codes "LILO\nLoading old\n"); line = Some (Kept (codes "old")); written = (record { address = 0x90000; bytes = (file 2560 (piece 506 (hex 14 0xffff000055aa0000486472530602) ∷ piece 528 (hex 2 0x0281) ∷ piece 549 (hex 11 0x96000000980900ffffff37) ∷ piece 568 (hex 1 0xff) ∷ [])) } ∷ record { address = 0x100000; bytes = (file 5 (piece 0 (codes "PMODE") ∷ [])) } ∷ record { address = 0x99800; bytes = (file 29 (piece 0 (codes "auto BOOT_IMAGE=old root=801") ∷ [])) } ∷ []); left = [] }) × (meant conf_r60 names_many devices_many (Kept (codes "linux")) (waited 60 ++ typed (codes "linux single\n") ++ waited 60 ++ typed (codes "tux") ++ waited 1 ++ typed (codes "none\n")) 1073741824 ≡ record { outcome = Loaded (record { real = record { address = 0x90000; size = 2560 }; protected = record { address = 0x100000; size = 5 }; initrd = None; line = record { address = 0x99800; size = 34 } }); shown = (codes "LILO\nLoading linux\n"); line = Some (Kept (codes "linux")); written = (record { address = 0x90000; bytes = (file 2560 (piece 506 (hex 14 0x0103000055aa0000486472530602) ∷ piece 528 (hex 2 0x0281) ∷ piece 549 (hex 11 0x96000000980900ffffff37) ∷ piece 568 (hex 1 0xff) ∷ [])) } ∷ record { address = 0x100000; bytes = (file 5 (piece 0 (codes "PMODE") ∷ [])) } ∷ record { address = 0x99800; bytes = (file 34 (piece 0 (codes "auto BOOT_IMAGE=linux ro root=803") ∷ [])) } ∷ []); left = (waited 60 ++ typed (codes "linux single\n") ++ waited 60 ++ typed (codes "tux") ++ waited 1 ++ typed (codes "none\n")) })
unfolding number16 number32 is_zero components child find_path file_block file_at child_path path_of names_of_section names_of_config started menu_decision menu_boot file_of middle_text target_of menu_entries menu_of meant setup_of version_of header_of header_at fit_checks plan_memory replaced_fields patch command_line written_by place kernel_fit course_of words_of meaning
meant_by_chance_60 = (refl, refl)

-- nineteen names, the last of which is the default
pub meant_nineteen_names_the_last_of_which_is_the_default : (meant conf_tracks_1 names_tracks devices_tracks Empty (typed (codes "\n")) 16777216 ≡ record { outcome = Loaded (record { real = record { address = 0x90000; size = 1024 }; protected = record { address = 0x100000; size = 31232 }; initrd = None; line = record { address = 0x99800; size = 16 } }); shown = (codes "LILO\nboot: \nLoading last\n"); line = Some (Kept (codes "a8")); written = (record { address = 0x90000; bytes = (file 1024 (piece 497 (hex 1 0x01) ∷ piece 510 (hex 10 0x55aa0000486472530602) ∷ piece 528 (hex 2 0x0281) ∷ piece 549 (hex 11 0x96000000980900ffffff37) ∷ piece 568 (hex 1 0xff) ∷ [])) } ∷ record { address = 0x100000; bytes = (file 31232 (piece 0 (replicate 31232 3) ∷ [])) } ∷ record { address = 0x99800; bytes = (file 16 (piece 0 (codes "BOOT_IMAGE=last") ∷ [])) } ∷ []); left = [] }) × (meant conf_tracks_1 names_tracks devices_tracks Empty (typed (hex 6 0x3f613720780a)) 16777216 ≡ record { outcome = Loaded (record { real = record { address = 0x90000; size = 1024 }; protected = record { address = 0x100000; size = 5 }; initrd = None; line = record { address = 0x99800; size = 16 } }); shown = (codes "LILO\nboot: \nn0\na0\nn1\na1\nn2\na2\nn3\na3\nn4\na4\nn5\na5\nn6\na6\nn7\na7\nn8\na8\nlast\nboot: a7 x\nLoading a7\n"); line = Some Empty; written = (record { address = 0x90000; bytes = (file 1024 (piece 497 (hex 1 0x01) ∷ piece 506 (hex 14 0x0700000055aa0000486472530602) ∷ piece 528 (hex 2 0x0281) ∷ piece 549 (hex 11 0x96000000980900ffffff37) ∷ piece 568 (hex 1 0xff) ∷ [])) } ∷ record { address = 0x100000; bytes = (file 5 (piece 0 (codes "HELLO") ∷ [])) } ∷ record { address = 0x99800; bytes = (file 16 (piece 0 (codes "BOOT_IMAGE=a7 x") ∷ [])) } ∷ []); left = [] })
unfolding number16 number32 is_zero components child find_path file_block file_at child_path path_of names_of_section names_of_config started menu_decision menu_boot file_of middle_text target_of menu_entries menu_of meant setup_of version_of header_of header_at fit_checks plan_memory replaced_fields patch command_line written_by place kernel_fit course_of words_of meaning
meant_nineteen_names_the_last_of_which_is_the_default = (refl, refl)

-- 63 slots fill a section sector, 64 begin another
pub meant_63_slots_fill_a_section_sector_64_begin_another : (meant conf_tracks_2 names_tracks devices_tracks (Kept (codes "b")) [] 16777216 ≡ record { outcome = Loaded (record { real = record { address = 0x90000; size = 1024 }; protected = record { address = 0x100000; size = 31644 }; initrd = (Some (record { address = 0xfff000; size = 700 })); line = record { address = 0x99800; size = 18 } }); shown = (codes "LILO\nLoading b\n"); line = Some (Kept (codes "b")); written = (record { address = 0x90000; bytes = (file 1024 (piece 497 (hex 1 0x01) ∷ piece 510 (hex 10 0x55aa0000486472530602) ∷ piece 528 (hex 2 0x0281) ∷ piece 537 (hex 5 0xf0ff00bc02) ∷ piece 549 (hex 11 0x96000000980900ffffff37) ∷ piece 568 (hex 1 0xff) ∷ [])) } ∷ record { address = 0x100000; bytes = (file 31644 (piece 0 (replicate 31644 4) ∷ [])) } ∷ record { address = 0xfff000; bytes = (file 700 (piece 0 (replicate 700 165) ∷ [])) } ∷ record { address = 0x99800; bytes = (file 18 (piece 0 (codes "auto BOOT_IMAGE=b") ∷ [])) } ∷ []); left = [] }) × (meant conf_tracks_2 names_tracks devices_tracks Empty [] 16777216 ≡ record { outcome = Loaded (record { real = record { address = 0x90000; size = 1024 }; protected = record { address = 0x100000; size = 31232 }; initrd = None; line = record { address = 0x99800; size = 18 } }); shown = (codes "LILO\nLoading a\n"); line = Some Empty; written = (record { address = 0x90000; bytes = (file 1024 (piece 497 (hex 1 0x01) ∷ piece 510 (hex 10 0x55aa0000486472530602) ∷ piece 528 (hex 2 0x0281) ∷ piece 549 (hex 11 0x96000000980900ffffff37) ∷ piece 568 (hex 1 0xff) ∷ [])) } ∷ record { address = 0x100000; bytes = (file 31232 (piece 0 (replicate 31232 3) ∷ [])) } ∷ record { address = 0x99800; bytes = (file 18 (piece 0 (codes "auto BOOT_IMAGE=a") ∷ [])) } ∷ []); left = [] })
unfolding number16 number32 is_zero components child find_path file_block file_at child_path path_of names_of_section names_of_config started menu_decision menu_boot file_of middle_text target_of menu_entries menu_of meant setup_of version_of header_of header_at fit_checks plan_memory replaced_fields patch command_line written_by place kernel_fit course_of words_of meaning
meant_63_slots_fill_a_section_sector_64_begin_another = (refl, refl)

-- the same by cylinder
pub meant_the_same_by_cylinder : (meant conf_tracks_3 names_tracks devices_tracks (Once (codes "b")) (waited 1) 16777216 ≡ record { outcome = Loaded (record { real = record { address = 0x90000; size = 1024 }; protected = record { address = 0x100000; size = 31644 }; initrd = None; line = record { address = 0x99800; size = 18 } }); shown = (codes "LILO\nLoading b\n"); line = Some Empty; written = (record { address = 0x90000; bytes = (file 1024 (piece 497 (hex 1 0x01) ∷ piece 510 (hex 10 0x55aa0000486472530602) ∷ piece 528 (hex 2 0x0281) ∷ piece 549 (hex 11 0x96000000980900ffffff37) ∷ piece 568 (hex 1 0xff) ∷ [])) } ∷ record { address = 0x100000; bytes = (file 31644 (piece 0 (replicate 31644 4) ∷ [])) } ∷ record { address = 0x99800; bytes = (file 18 (piece 0 (codes "auto BOOT_IMAGE=b") ∷ [])) } ∷ []); left = [] }) × (meant conf_tracks_3 names_tracks devices_tracks Empty (typed (hex 2 0x620d)) 16777216 ≡ record { outcome = Loaded (record { real = record { address = 0x90000; size = 1024 }; protected = record { address = 0x100000; size = 31644 }; initrd = None; line = record { address = 0x99800; size = 13 } }); shown = (codes "LILO\nboot: b\nLoading b\n"); line = Some Empty; written = (record { address = 0x90000; bytes = (file 1024 (piece 497 (hex 1 0x01) ∷ piece 510 (hex 10 0x55aa0000486472530602) ∷ piece 528 (hex 2 0x0281) ∷ piece 549 (hex 11 0x96000000980900ffffff37) ∷ piece 568 (hex 1 0xff) ∷ [])) } ∷ record { address = 0x100000; bytes = (file 31644 (piece 0 (replicate 31644 4) ∷ [])) } ∷ record { address = 0x99800; bytes = (file 13 (piece 0 (codes "BOOT_IMAGE=b") ∷ [])) } ∷ []); left = [] })
unfolding number16 number32 is_zero components child find_path file_block file_at child_path path_of names_of_section names_of_config started menu_decision menu_boot file_of middle_text target_of menu_entries menu_of meant setup_of version_of header_of header_at fit_checks plan_memory replaced_fields patch command_line written_by place kernel_fit course_of words_of meaning
meant_the_same_by_cylinder = (refl, refl)

-- compact joins 127 sectors and no more
pub meant_compact_joins_127_sectors_and_no_more : meant conf_tracks_4 names_tracks devices_tracks Empty [] 16777216 ≡ record { outcome = Loaded (record { real = record { address = 0x90000; size = 1024 }; protected = record { address = 0x100000; size = 71677 }; initrd = None; line = record { address = 0x99800; size = 18 } }); shown = (codes "LILO\nLoading a\n"); line = Some Empty; written = (record { address = 0x90000; bytes = (file 1024 (piece 497 (hex 1 0x01) ∷ piece 510 (hex 10 0x55aa0000486472530602) ∷ piece 528 (hex 2 0x0281) ∷ piece 549 (hex 11 0x96000000980900ffffff37) ∷ piece 568 (hex 1 0xff) ∷ [])) } ∷ record { address = 0x100000; bytes = (file 71677 (piece 0 (replicate 71677 11) ∷ [])) } ∷ record { address = 0x99800; bytes = (file 18 (piece 0 (codes "auto BOOT_IMAGE=a") ∷ [])) } ∷ []); left = [] }
unfolding number16 number32 is_zero components child find_path file_block file_at child_path path_of names_of_section names_of_config started menu_decision menu_boot file_of middle_text target_of menu_entries menu_of meant setup_of version_of header_of header_at fit_checks plan_memory replaced_fields patch command_line written_by place kernel_fit course_of words_of meaning
meant_compact_joins_127_sectors_and_no_more = refl

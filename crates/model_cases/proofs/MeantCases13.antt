-- Cases of the model, written by tools/plan_cases.py: what a boot does as configurations say.
use Rattle.std.proofs.Common.{◌≡◌, ◌∷◌, ◌++◌, [], codes, replicate, None, Some, refl}
use Rattle.lilo_model.specs.Boot.{Loaded, Handed, Refused}
use Rattle.lilo_model.specs.Bytes.{number16, number32, is_zero}
use Rattle.lilo_model.specs.Choice.{course_of}
use Rattle.lilo_model.specs.ConfLawful.{names_of_section, names_of_config}
use Rattle.lilo_model.specs.DefaultLine.{Empty, Once, Kept}
use Rattle.lilo_model.specs.Header.{setup_of, version_of, header_of, header_at, fit_checks, plan_memory, replaced_fields, patch, NoRoom}
use Rattle.lilo_model.specs.LineWords.{words_of, meaning}
use Rattle.lilo_model.specs.Meant.{started, menu_decision, menu_boot, file_of, middle_text, target_of, menu_entries, menu_of, meant}
use Rattle.lilo_model.specs.MinixFind.{components, child, find_path, file_block, file_at}
use Rattle.lilo_model.specs.MinixFindNames.{child_path, path_of}
use Rattle.lilo_model.specs.Place.{command_line, written_by, place, kernel_fit}
use Rattle.lilo_model.specs.Reason.{Idle, Header}
use Rattle.model_cases.specs.Sparse.{hex, piece, file, typed, waited}
use Rattle.model_cases.specs.PlanNames.{names_tracks}
use Rattle.model_cases.specs.PlanTracksConfs.{conf_tracks_13, conf_tracks_14, conf_tracks_15, conf_tracks_16, conf_tracks_17, conf_tracks_18, conf_tracks_19, conf_tracks_20}
use Rattle.model_cases.specs.PlanVolumes.{devices_tracks}

-- linear, compact, a prompt, delay 65534, an image, a lock, vga
pub meant_linear_compact_a_prompt_delay_65534_an_image_a_lock_vga : (meant conf_tracks_13 names_tracks devices_tracks Empty (typed (codes "fifteen-letters vga=ext lock y\n")) 16777216 ≡ record { outcome = Loaded (record { real = record { address = 0x90000; size = 1024 }; protected = record { address = 0x100000; size = 4476 }; initrd = None; line = record { address = 0x99800; size = 32 } }); shown = (codes "LILO\nboot: fifteen-letters vga=ext lock y\nLoading fifteen-letters\n"); line = Some (Kept (codes "fifteen-letters vga=ext y")); written = (record { address = 0x90000; bytes = (file 1024 (piece 497 (hex 1 0x01) ∷ piece 506 (hex 14 0xfeff000055aa0000486472530602) ∷ piece 528 (hex 2 0x0281) ∷ piece 549 (hex 11 0x96000000980900ffffff37) ∷ piece 568 (hex 1 0xff) ∷ [])) } ∷ record { address = 0x100000; bytes = (file 4476 (piece 0 (replicate 4476 5) ∷ [])) } ∷ record { address = 0x99800; bytes = (file 32 (piece 0 (codes "BOOT_IMAGE=fifteen-letters ro y") ∷ [])) } ∷ []); left = [] }) × (meant conf_tracks_13 names_tracks devices_tracks (Once (codes "gone")) (typed (hex 30 0x6669667465656e2d6c657474657273207667613d30783720780d72657374)) 3145728 ≡ record { outcome = Loaded (record { real = record { address = 0x90000; size = 1024 }; protected = record { address = 0x100000; size = 4476 }; initrd = None; line = record { address = 0x99800; size = 32 } }); shown = (codes "LILO\nboot: fifteen-letters vga=0x7 x\nLoading fifteen-letters\n"); line = Some (Kept (codes "fifteen-letters vga=0x7 x")); written = (record { address = 0x90000; bytes = (file 1024 (piece 497 (hex 1 0x01) ∷ piece 506 (hex 14 0x0700000055aa0000486472530602) ∷ piece 528 (hex 2 0x0281) ∷ piece 549 (hex 11 0x96000000980900ffffff37) ∷ piece 568 (hex 1 0xff) ∷ [])) } ∷ record { address = 0x100000; bytes = (file 4476 (piece 0 (replicate 4476 5) ∷ [])) } ∷ record { address = 0x99800; bytes = (file 32 (piece 0 (codes "BOOT_IMAGE=fifteen-letters ro x") ∷ [])) } ∷ []); left = (typed (codes "rest")) })
unfolding number16 number32 is_zero components child find_path file_block file_at child_path path_of names_of_section names_of_config started menu_decision menu_boot file_of middle_text target_of menu_entries menu_of meant setup_of version_of header_of header_at fit_checks plan_memory replaced_fields patch command_line written_by place kernel_fit course_of words_of meaning
meant_linear_compact_a_prompt_delay_65534_an_image_a_lock_vga = (refl, refl)

-- linear, compact, timeout 1, an image, a password, restricted, append
pub meant_linear_compact_timeout_1_an_image_a_password_restricted_append : (meant conf_tracks_14 names_tracks devices_tracks Empty (typed (codes "x single\ntux\n")) 16777216 ≡ record { outcome = Loaded (record { real = record { address = 0x90000; size = 1024 }; protected = record { address = 0x100000; size = 4476 }; initrd = None; line = record { address = 0x99800; size = 27 } }); shown = (codes "LILO\nLoading x\n"); line = Some Empty; written = (record { address = 0x90000; bytes = (file 1024 (piece 497 (hex 1 0x01) ∷ piece 510 (hex 10 0x55aa0000486472530602) ∷ piece 528 (hex 2 0x0281) ∷ piece 549 (hex 11 0x96000000980900ffffff37) ∷ piece 568 (hex 1 0xff) ∷ [])) } ∷ record { address = 0x100000; bytes = (file 4476 (piece 0 (replicate 4476 5) ∷ [])) } ∷ record { address = 0x99800; bytes = (file 27 (piece 0 (codes "auto BOOT_IMAGE=x quiet  x") ∷ [])) } ∷ []); left = (typed (codes "x single\ntux\n")) }) × (meant conf_tracks_14 names_tracks devices_tracks Empty [] 4194304 ≡ record { outcome = Loaded (record { real = record { address = 0x90000; size = 1024 }; protected = record { address = 0x100000; size = 4476 }; initrd = None; line = record { address = 0x99800; size = 27 } }); shown = (codes "LILO\nLoading x\n"); line = Some Empty; written = (record { address = 0x90000; bytes = (file 1024 (piece 497 (hex 1 0x01) ∷ piece 510 (hex 10 0x55aa0000486472530602) ∷ piece 528 (hex 2 0x0281) ∷ piece 549 (hex 11 0x96000000980900ffffff37) ∷ piece 568 (hex 1 0xff) ∷ [])) } ∷ record { address = 0x100000; bytes = (file 4476 (piece 0 (replicate 4476 5) ∷ [])) } ∷ record { address = 0x99800; bytes = (file 27 (piece 0 (codes "auto BOOT_IMAGE=x quiet  x") ∷ [])) } ∷ []); left = [] })
unfolding number16 number32 is_zero components child find_path file_block file_at child_path path_of names_of_section names_of_config started menu_decision menu_boot file_of middle_text target_of menu_entries menu_of meant setup_of version_of header_of header_at fit_checks plan_memory replaced_fields patch command_line written_by place kernel_fit course_of words_of meaning
meant_linear_compact_timeout_1_an_image_a_password_restricted_append = (refl, refl)

-- by cylinder, a prompt, delay 65534, an image, another system, an alias, a table, a password, restricted, literal
pub meant_by_cylinder_a_prompt_delay_65534_an_image_another_system_an_alias_a_table_a_password_restricted_literal : (meant conf_tracks_15 names_tracks devices_tracks Empty (typed (hex 51 0x646f73207667613d657874206c6f636b20790d707070707070707070707070707070707070707070707070707070707070700a)) 3145728 ≡ record { outcome = Handed; shown = (codes "LILO\nboot: dos vga=ext lock y\nPassword: \nLoading dos\n"); line = Some (Kept (codes "dos vga=ext y")); written = (record { address = 0x7be; bytes = (file 64 (piece 4 (hex 9 0x060000001100000064) ∷ piece 20 (hex 9 0x0500000096000000c8) ∷ [])) } ∷ record { address = 0x7c00; bytes = (file 512 (piece 3 (codes "MBR2") ∷ piece 450 (hex 9 0x060000001100000064) ∷ piece 466 (hex 9 0x0500000096000000c8) ∷ piece 510 (hex 2 0x55aa) ∷ [])) } ∷ []); left = [] }) × (meant conf_tracks_15 names_tracks devices_tracks Empty (typed (hex 37 0x717515330a707070707070707070707070707070707070707070707070707070707070700a)) 16777216 ≡ record { outcome = Handed; shown = (codes "LILO\nboot: qu\nboot: 3\nLoading 3\n"); line = Some Empty; written = (record { address = 0x7be; bytes = (file 64 (piece 4 (hex 9 0x060000001100000064) ∷ piece 20 (hex 9 0x0500000096000000c8) ∷ [])) } ∷ record { address = 0x7c00; bytes = (file 512 (piece 3 (codes "MBR2") ∷ piece 450 (hex 9 0x060000001100000064) ∷ piece 466 (hex 9 0x0500000096000000c8) ∷ piece 510 (hex 2 0x55aa) ∷ [])) } ∷ []); left = (typed (codes "ppppppppppppppppppppppppppppppp\n")) })
unfolding number16 number32 is_zero components child find_path file_block file_at child_path path_of names_of_section names_of_config started menu_decision menu_boot file_of middle_text target_of menu_entries menu_of meant setup_of version_of header_of header_at fit_checks plan_memory replaced_fields patch command_line written_by place kernel_fit course_of words_of meaning
meant_by_cylinder_a_prompt_delay_65534_an_image_another_system_an_alias_a_table_a_password_restricted_literal = (refl, refl)

-- linear, a prompt, an image, 2 other systems, an initrd, a table, a lock, a fallback, append, vga
pub meant_linear_a_prompt_an_image_2_other_systems_an_initrd_a_table_a_lock_a_fallback_append_vga : (meant conf_tracks_16 names_tracks devices_tracks Empty (typed (hex 5 0x096f6c640a)) 3145728 ≡ record { outcome = Handed; shown = (codes "LILO\nboot: \nold\nb\ndos\nboot: old\nLoading old\n"); line = Some (Kept (codes "old")); written = (record { address = 0x7be; bytes = (file 64 []) } ∷ record { address = 0x7c00; bytes = (file 512 (piece 3 (codes "FAT") ∷ piece 510 (hex 2 0x55aa) ∷ [])) } ∷ []); left = [] }) × (meant conf_tracks_16 names_tracks devices_tracks (Kept (codes "dos")) (typed (hex 5 0x09646f730d)) 1048576 ≡ record { outcome = Refused (Header (NoRoom 1048653 1048576)); shown = (codes "LILO\nLoading dos\nError\n"); line = Some (Kept (codes "old")); written = []; left = (typed (hex 5 0x09646f730d)) })
unfolding number16 number32 is_zero components child find_path file_block file_at child_path path_of names_of_section names_of_config started menu_decision menu_boot file_of middle_text target_of menu_entries menu_of meant setup_of version_of header_of header_at fit_checks plan_memory replaced_fields patch command_line written_by place kernel_fit course_of words_of meaning
meant_linear_a_prompt_an_image_2_other_systems_an_initrd_a_table_a_lock_a_fallback_append_vga = (refl, refl)

-- linear, a prompt, timeout 7, 3 images, another system, an initrd, an alias, a table, a fallback, literal, vga, root
pub meant_linear_a_prompt_timeout_7_3_images_another_system_an_initrd_an_alias_a_table_a_fallback_literal_vga_root : (meant conf_tracks_17 names_tracks devices_tracks Empty (typed (hex 4 0x0a15330a)) 16777216 ≡ record { outcome = Handed; shown = (codes "LILO\nboot: \nLoading b\n"); line = Some Empty; written = (record { address = 0x7be; bytes = (file 64 (piece 4 (hex 9 0x060000001100000064) ∷ piece 20 (hex 9 0x0500000096000000c8) ∷ [])) } ∷ record { address = 0x7c00; bytes = (file 512 (piece 3 (codes "MBR2") ∷ piece 450 (hex 9 0x060000001100000064) ∷ piece 466 (hex 9 0x0500000096000000c8) ∷ piece 510 (hex 2 0x55aa) ∷ [])) } ∷ []); left = (typed (hex 3 0x15330a)) }) × (meant conf_tracks_17 names_tracks devices_tracks (Once (codes "gone")) (waited 3 ++ typed (hex 5 0x61646f730d)) 3145728 ≡ record { outcome = Loaded (record { real = record { address = 0x90000; size = 1024 }; protected = record { address = 0x100000; size = 4476 }; initrd = None; line = record { address = 0x99800; size = 28 } }); shown = (codes "LILO\nboot: ados\nLoading ados\n"); line = Some (Kept (codes "two s")); written = (record { address = 0x90000; bytes = (file 1024 (piece 497 (hex 1 0x01) ∷ piece 510 (hex 10 0x55aa0000486472530602) ∷ piece 528 (hex 2 0x0281) ∷ piece 549 (hex 11 0x96000000980900ffffff37) ∷ piece 568 (hex 1 0xff) ∷ [])) } ∷ record { address = 0x100000; bytes = (file 4476 (piece 0 (replicate 4476 5) ∷ [])) } ∷ record { address = 0x99800; bytes = (file 28 (piece 0 (codes "BOOT_IMAGE=ados ro root=301") ∷ [])) } ∷ []); left = [] })
unfolding number16 number32 is_zero components child find_path file_block file_at child_path path_of names_of_section names_of_config started menu_decision menu_boot file_of middle_text target_of menu_entries menu_of meant setup_of version_of header_of header_at fit_checks plan_memory replaced_fields patch command_line written_by place kernel_fit course_of words_of meaning
meant_linear_a_prompt_timeout_7_3_images_another_system_an_initrd_an_alias_a_table_a_fallback_literal_vga_root = (refl, refl)

-- lba32, a message, a prompt, delay 30, timeout 65534, an image, another system, an alias, a fallback, append, vga
pub meant_lba32_a_message_a_prompt_delay_30_timeout_65534_an_image_another_system_an_alias_a_fallback_append_vga : (meant conf_tracks_18 names_tracks devices_tracks Empty (typed (codes "6 vga=0x7 x\n")) 4194304 ≡ record { outcome = Loaded (record { real = record { address = 0x90000; size = 4608 }; protected = record { address = 0x100000; size = 77 }; initrd = None; line = record { address = 0x99800; size = 20 } }); shown = (codes "LILO\nmmmmmmmmmmmmmmmmmmmmmmmmmmmmmmmmmmmmmmmmmmmmmmmmmmmmmmmmmmmmmmmmmmmmmmmmmmmmmmmmmmmmmmmmmmmmmmmmmmmmmmmmmmmmmmmmmmmmmmmmmmmmmmmmmmmmmmmmmmmmmmmmmmmmmmmmmmmmmmmmmmmmmmmmmmmmmmmmmmmmmmmmmmmmmmmmmmmmmmmmmmmmmmmmmmmmmmmmmmmmmmmmmmmmmmmmmmmmmmmmmmmmmmmmmmmmmmmmmmmmmmmmmmmmmmmmmmmmmmmmmmmmmmmmmmmmmmmmmmmmmmmmmmmmmmmmmmmmmmmmmmmmmmmmmmmmmmmmmmmmmmmmmmmmmmmmmmmmmmmmmmmmmmmmmmmmmmmmmmmmmmmmmmmmmmmmmmmmmmmmmmmmmmmmmmmmmmmmmmmmmmmmmmmmmmmmmmmmmmmmmmmmmmmmmmmmmmmmmmmmmmmmmmmmmmmmmmmmmmmmmmmmmmmmmmmmmmmmmmmmmmmmmmmmmmmmmboot: 6 vga=0x7 x\nLoading 6\n"); line = Some (Kept (codes "safe")); written = (record { address = 0x90000; bytes = (file 4608 (piece 497 (hex 1 0x08) ∷ piece 506 (hex 14 0x0700000055aa0000486472530602) ∷ piece 528 (hex 2 0x0281) ∷ piece 549 (hex 11 0x96000000980900ffffff37) ∷ piece 568 (hex 1 0xff) ∷ piece 1024 (replicate 3584 8) ∷ [])) } ∷ record { address = 0x100000; bytes = (file 77 (piece 0 (replicate 77 8) ∷ [])) } ∷ record { address = 0x99800; bytes = (file 20 (piece 0 (codes "BOOT_IMAGE=6 a=52 x") ∷ [])) } ∷ []); left = [] }) × (meant conf_tracks_18 names_tracks devices_tracks (Kept (codes "safe vga=ask  lock w")) [] 4194304 ≡ record { outcome = Loaded (record { real = record { address = 0x90000; size = 4608 }; protected = record { address = 0x100000; size = 77 }; initrd = None; line = record { address = 0x99800; size = 28 } }); shown = (codes "LILO\nLoading safe\n"); line = Some (Kept (codes "safe vga=ask w")); written = (record { address = 0x90000; bytes = (file 4608 (piece 497 (hex 1 0x08) ∷ piece 506 (hex 14 0xfdff000055aa0000486472530602) ∷ piece 528 (hex 2 0x0281) ∷ piece 549 (hex 11 0x96000000980900ffffff37) ∷ piece 568 (hex 1 0xff) ∷ piece 1024 (replicate 3584 8) ∷ [])) } ∷ record { address = 0x100000; bytes = (file 77 (piece 0 (replicate 77 8) ∷ [])) } ∷ record { address = 0x99800; bytes = (file 28 (piece 0 (codes "auto BOOT_IMAGE=safe a=52 w") ∷ [])) } ∷ []); left = [] })
unfolding number16 number32 is_zero components child find_path file_block file_at child_path path_of names_of_section names_of_config started menu_decision menu_boot file_of middle_text target_of menu_entries menu_of meant setup_of version_of header_of header_at fit_checks plan_memory replaced_fields patch command_line written_by place kernel_fit course_of words_of meaning
meant_lba32_a_message_a_prompt_delay_30_timeout_65534_an_image_another_system_an_alias_a_fallback_append_vga = (refl, refl)

-- linear, a prompt, timeout 65534, another system, an alias, a password
pub meant_linear_a_prompt_timeout_65534_another_system_an_alias_a_password : (meant conf_tracks_19 names_tracks devices_tracks Empty (waited 2 ++ typed (hex 6 0x780d7475780a)) 16777216 ≡ record { outcome = Handed; shown = (codes "LILO\nboot: x\nPassword: \nLoading x\n"); line = Some Empty; written = (record { address = 0x7c00; bytes = (file 512 (piece 3 (codes "MBR2") ∷ piece 450 (hex 9 0x060000001100000064) ∷ piece 466 (hex 9 0x0500000096000000c8) ∷ piece 510 (hex 2 0x55aa) ∷ [])) } ∷ []); left = [] }) × (meant conf_tracks_19 names_tracks devices_tracks (Once (codes "x one")) (waited 3 ++ typed (codes "5 lock\ntux\n")) 3145728 ≡ record { outcome = Refused Idle; shown = (codes "LILO\nPassword: \nSorry.\nboot: tux\nNo such image.\nboot: "); line = Some (Once (codes "x one")); written = []; left = [] })
unfolding number16 number32 is_zero components child find_path file_block file_at child_path path_of names_of_section names_of_config started menu_decision menu_boot file_of middle_text target_of menu_entries menu_of meant setup_of version_of header_of header_at fit_checks plan_memory replaced_fields patch command_line written_by place kernel_fit course_of words_of meaning
meant_linear_a_prompt_timeout_65534_another_system_an_alias_a_password = (refl, refl)

-- lba32, delay 2, timeout 65534, an image, an alias, a password, literal, append, vga
pub meant_lba32_delay_2_timeout_65534_an_image_an_alias_a_password_literal_append_vga : (meant conf_tracks_20 names_tracks devices_tracks Empty (waited 3 ++ typed (hex 8 0x370d77726f6e670a)) 1048576 ≡ record { outcome = Refused Idle; shown = (codes "LILO\nPassword: \nSorry.\nboot: wrong\nNo such image.\nboot: "); line = Some Empty; written = []; left = [] }) × (meant conf_tracks_20 names_tracks devices_tracks (Once (codes "linux one")) [] 16777216 ≡ record { outcome = Refused Idle; shown = (codes "LILO\nPassword: \nboot: "); line = Some (Once (codes "linux one")); written = []; left = [] })
unfolding number16 number32 is_zero components child find_path file_block file_at child_path path_of names_of_section names_of_config started menu_decision menu_boot file_of middle_text target_of menu_entries menu_of meant setup_of version_of header_of header_at fit_checks plan_memory replaced_fields patch command_line written_by place kernel_fit course_of words_of meaning
meant_lba32_delay_2_timeout_65534_an_image_an_alias_a_password_literal_append_vga = (refl, refl)

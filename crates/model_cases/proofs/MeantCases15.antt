-- Cases of the model, written by tools/plan_cases.py: what a boot does as configurations say.
use Rattle.std.proofs.Common.{◌≡◌, ◌∷◌, ◌++◌, [], codes, replicate, None, Some, refl}
use Rattle.lilo_model.specs.Boot.{Loaded, Handed, Refused}
use Rattle.lilo_model.specs.Bytes.{number16, number32, is_zero}
use Rattle.lilo_model.specs.Choice.{course_of}
use Rattle.lilo_model.specs.ConfLawful.{names_of_section, names_of_config}
use Rattle.lilo_model.specs.DefaultLine.{Empty, Once, Kept}
use Rattle.lilo_model.specs.Header.{setup_of, version_of, header_of, header_at, fit_checks, plan_memory, replaced_fields, patch, NoRoom}
use Rattle.lilo_model.specs.LineWords.{words_of, meaning}
use Rattle.lilo_model.specs.Meant.{started, menu_decision, menu_boot, file_of, middle_text, target_of, menu_entries, menu_of, meant}
use Rattle.lilo_model.specs.MinixFind.{components, child, find_path, file_block, file_at}
use Rattle.lilo_model.specs.MinixFindNames.{child_path, path_of}
use Rattle.lilo_model.specs.Place.{command_line, written_by, place, kernel_fit}
use Rattle.lilo_model.specs.Reason.{Idle, Header}
use Rattle.model_cases.specs.Sparse.{hex, piece, file, typed, waited}
use Rattle.model_cases.specs.PlanNames.{names_tracks}
use Rattle.model_cases.specs.PlanTracksConfs.{conf_tracks_29, conf_tracks_30, conf_tracks_31, conf_tracks_32, conf_tracks_33, conf_tracks_34, conf_tracks_35, conf_tracks_36}
use Rattle.model_cases.specs.PlanVolumes.{devices_tracks}

-- lba32, compact, a message, a prompt, timeout 65534, 2 images, an initrd, an alias, a password, restricted, a lock, a fallback, append
pub meant_lba32_compact_a_message_a_prompt_timeout_65534_2_images_an_initrd_an_alias_a_password_restricted_a_lock_a_fallback_append : (meant conf_tracks_29 names_tracks devices_tracks Empty (waited 1 ++ typed (hex 19 0x7a7a0a35207667613d30783720780d746f700a)) 16777216 ≡ record { outcome = Loaded (record { real = record { address = 0x90000; size = 1024 }; protected = record { address = 0x10000; size = 976 }; initrd = None; line = record { address = 0x99800; size = 23 } }); shown = (codes "LILO\nPick one:\nboot: zz\nNo such image.\nboot: 5 vga=0x7 x\nPassword: \nLoading 5\n"); line = Some (Kept (codes "two")); written = (record { address = 0x90000; bytes = (file 1024 (piece 32 (hex 4 0x3fa30098) ∷ piece 497 (hex 1 0x01) ∷ piece 506 (hex 6 0x0700000055aa) ∷ piece 556 (hex 4 0xffffff37) ∷ piece 568 (hex 1 0xff) ∷ [])) } ∷ record { address = 0x10000; bytes = (file 976 (piece 0 (replicate 976 2) ∷ [])) } ∷ record { address = 0x99800; bytes = (file 23 (piece 0 (codes "BOOT_IMAGE=5 ro a=98 x") ∷ [])) } ∷ []); left = [] }) × (meant conf_tracks_29 names_tracks devices_tracks (Once (codes "two one")) [] 16777216 ≡ record { outcome = Refused Idle; shown = (codes "LILO\nPassword: \nPick one:\nboot: "); line = Some (Once (codes "two one")); written = []; left = [] })
unfolding number16 number32 is_zero components child find_path file_block file_at child_path path_of names_of_section names_of_config started menu_decision menu_boot file_of middle_text target_of menu_entries menu_of meant setup_of version_of header_of header_at fit_checks plan_memory replaced_fields patch command_line written_by place kernel_fit course_of words_of meaning
meant_lba32_compact_a_message_a_prompt_timeout_65534_2_images_an_initrd_an_alias_a_password_restricted_a_lock_a_fallback_append = (refl, refl)

-- lba32, compact, a message, a prompt, delay 2, timeout 7, 3 images, another system, an initrd, an alias, a table, a password, a fallback, append, vga, root
pub meant_lba32_compact_a_message_a_prompt_delay_2_timeout_7_3_images_another_system_an_initrd_an_alias_a_table_a_password_a_fallback_append_vga_root : (meant conf_tracks_30 names_tracks devices_tracks Empty (typed (hex 9 0x622073696e676c650d)) 4194304 ≡ record { outcome = Handed; shown = (codes "LILO\nPick one:\nboot: b single\nLoading b\n"); line = Some Empty; written = (record { address = 0x7be; bytes = (file 64 []) } ∷ record { address = 0x7c00; bytes = (file 512 (piece 3 (codes "FREE") ∷ piece 510 (hex 2 0x55aa) ∷ [])) } ∷ []); left = [] }) × (meant conf_tracks_30 names_tracks devices_tracks (Once (codes "old one")) (waited 2 ++ typed (codes "old lock\nppppppppppppppppppppppppppppppp\n")) 16777216 ≡ record { outcome = Refused Idle; shown = (codes "LILO\nPassword: \nSorry.\nPick one:\nboot: ppppppppppppppppppppppppppppppp\nNo such image.\nboot: "); line = Some (Once (codes "old one")); written = []; left = [] })
unfolding number16 number32 is_zero components child find_path file_block file_at child_path path_of names_of_section names_of_config started menu_decision menu_boot file_of middle_text target_of menu_entries menu_of meant setup_of version_of header_of header_at fit_checks plan_memory replaced_fields patch command_line written_by place kernel_fit course_of words_of meaning
meant_lba32_compact_a_message_a_prompt_delay_2_timeout_7_3_images_another_system_an_initrd_an_alias_a_table_a_password_a_fallback_append_vga_root = (refl, refl)

-- by cylinder, compact, a message, timeout 1, an image, an initrd, a password, a fallback
pub meant_by_cylinder_compact_a_message_timeout_1_an_image_an_initrd_a_password_a_fallback : (meant conf_tracks_31 names_tracks devices_tracks Empty (waited 3 ++ typed (codes "b\nppppppppppppppppppppppppppppppp\n")) 4194304 ≡ record { outcome = Refused Idle; shown = (codes "LILO\nPassword: \nSorry.\nPick one:\nboot: ppppppppppppppppppppppppppppppp\nNo such image.\nboot: "); line = Some Empty; written = []; left = [] }) × (meant conf_tracks_31 names_tracks devices_tracks (Once (codes "b one")) (waited 2 ++ typed (hex 34 0x620d707070707070707070707070707070707070707070707070707070707070700a) ++ waited 4) 16777216 ≡ record { outcome = Refused Idle; shown = (codes "LILO\nPassword: \nSorry.\nPick one:\nboot: ppppppppppppppppppppppppppppppp\nNo such image.\nboot: "); line = Some (Once (codes "b one")); written = []; left = [] })
unfolding number16 number32 is_zero components child find_path file_block file_at child_path path_of names_of_section names_of_config started menu_decision menu_boot file_of middle_text target_of menu_entries menu_of meant setup_of version_of header_of header_at fit_checks plan_memory replaced_fields patch command_line written_by place kernel_fit course_of words_of meaning
meant_by_cylinder_compact_a_message_timeout_1_an_image_an_initrd_a_password_a_fallback = (refl, refl)

-- by cylinder, compact, timeout 7, 2 images, an initrd, an alias, a lock, root
pub meant_by_cylinder_compact_timeout_7_2_images_an_initrd_an_alias_a_lock_root : (meant conf_tracks_32 names_tracks devices_tracks Empty (typed (hex 17 0x34207667613d657874206c6f636b20790d)) 4194304 ≡ record { outcome = Loaded (record { real = record { address = 0x90000; size = 4608 }; protected = record { address = 0x100000; size = 77 }; initrd = (Some (record { address = 0x3ff000; size = 10 })); line = record { address = 0x99800; size = 25 } }); shown = (codes "LILO\nLoading linux\n"); line = Some (Kept (codes "linux")); written = (record { address = 0x90000; bytes = (file 4608 (piece 497 (hex 1 0x08) ∷ piece 510 (hex 10 0x55aa0000486472530602) ∷ piece 528 (hex 2 0x0281) ∷ piece 537 (hex 4 0xf03f000a) ∷ piece 549 (hex 11 0x96000000980900ffffff37) ∷ piece 568 (hex 1 0xff) ∷ piece 1024 (replicate 3584 8) ∷ [])) } ∷ record { address = 0x100000; bytes = (file 77 (piece 0 (replicate 77 8) ∷ [])) } ∷ record { address = 0x3ff000; bytes = (file 10 (piece 0 (codes "Pick one:\n") ∷ [])) } ∷ record { address = 0x99800; bytes = (file 25 (piece 0 (codes "auto BOOT_IMAGE=linux rw") ∷ [])) } ∷ []); left = (typed (hex 17 0x34207667613d657874206c6f636b20790d)) }) × (meant conf_tracks_32 names_tracks devices_tracks (Once (codes "x one")) [] 1048576 ≡ record { outcome = Refused (Header (NoRoom 1053052 1048576)); shown = (codes "LILO\nLoading x\nError\n"); line = Some Empty; written = []; left = [] })
unfolding number16 number32 is_zero components child find_path file_block file_at child_path path_of names_of_section names_of_config started menu_decision menu_boot file_of middle_text target_of menu_entries menu_of meant setup_of version_of header_of header_at fit_checks plan_memory replaced_fields patch command_line written_by place kernel_fit course_of words_of meaning
meant_by_cylinder_compact_timeout_7_2_images_an_initrd_an_alias_a_lock_root = (refl, refl)

-- by cylinder, compact, delay 65534, 2 images, another system, an initrd, a password, a fallback, append, vga, root
pub meant_by_cylinder_compact_delay_65534_2_images_another_system_an_initrd_a_password_a_fallback_append_vga_root : (meant conf_tracks_33 names_tracks devices_tracks Empty (typed (codes "old single\nrest")) 16777216 ≡ record { outcome = Handed; shown = (codes "LILO\nboot: old single\nLoading old\n"); line = Some Empty; written = (record { address = 0x7c00; bytes = (file 512 (piece 3 (codes "MBR2") ∷ piece 450 (hex 9 0x060000001100000064) ∷ piece 466 (hex 9 0x0500000096000000c8) ∷ piece 510 (hex 2 0x55aa) ∷ [])) } ∷ []); left = (typed (codes "rest")) }) × (meant conf_tracks_33 names_tracks devices_tracks (Kept (codes "fifteen-letters vga=ask  lock w")) [] 16777216 ≡ record { outcome = Loaded (record { real = record { address = 0x90000; size = 4608 }; protected = record { address = 0x100000; size = 77 }; initrd = (Some (record { address = 0xfff000; size = 700 })); line = record { address = 0x99800; size = 49 } }); shown = (codes "LILO\nLoading fifteen-letters\n"); line = Some (Kept (codes "fifteen-letters vga=ask w")); written = (record { address = 0x90000; bytes = (file 4608 (piece 497 (hex 1 0x08) ∷ piece 506 (hex 14 0xfdff000055aa0000486472530602) ∷ piece 528 (hex 2 0x0281) ∷ piece 537 (hex 5 0xf0ff00bc02) ∷ piece 549 (hex 11 0x96000000980900ffffff37) ∷ piece 568 (hex 1 0xff) ∷ piece 1024 (replicate 3584 8) ∷ [])) } ∷ record { address = 0x100000; bytes = (file 77 (piece 0 (replicate 77 8) ∷ [])) } ∷ record { address = 0xfff000; bytes = (file 700 (piece 0 (replicate 700 165) ∷ [])) } ∷ record { address = 0x99800; bytes = (file 49 (piece 0 (codes "auto BOOT_IMAGE=fifteen-letters root=e546 a=82 w") ∷ [])) } ∷ []); left = [] })
unfolding number16 number32 is_zero components child find_path file_block file_at child_path path_of names_of_section names_of_config started menu_decision menu_boot file_of middle_text target_of menu_entries menu_of meant setup_of version_of header_of header_at fit_checks plan_memory replaced_fields patch command_line written_by place kernel_fit course_of words_of meaning
meant_by_cylinder_compact_delay_65534_2_images_another_system_an_initrd_a_password_a_fallback_append_vga_root = (refl, refl)

-- lba32, compact, a message, a prompt, an image, another system, an initrd, an alias, a password, a fallback, append, root
pub meant_lba32_compact_a_message_a_prompt_an_image_another_system_an_initrd_an_alias_a_password_a_fallback_append_root : (meant conf_tracks_34 names_tracks devices_tracks Empty (waited 3 ++ typed (hex 9 0x096f6c640d7475780a) ++ waited 4) 16777216 ≡ record { outcome = Loaded (record { real = record { address = 0x90000; size = 1024 }; protected = record { address = 0x100000; size = 5 }; initrd = (Some (record { address = 0xfff000; size = 10 })); line = record { address = 0x99800; size = 37 } }); shown = (codes "LILO\nPick one:\nboot: \ndos\n2\nold\nboot: old\nPassword: \nLoading old\n"); line = Some Empty; written = (record { address = 0x90000; bytes = (file 1024 (piece 497 (hex 1 0x01) ∷ piece 510 (hex 10 0x55aa0000486472530602) ∷ piece 528 (hex 2 0x0281) ∷ piece 537 (hex 4 0xf0ff000a) ∷ piece 549 (hex 11 0x96000000980900ffffff37) ∷ piece 568 (hex 1 0xff) ∷ [])) } ∷ record { address = 0x100000; bytes = (file 5 (piece 0 (codes "HELLO") ∷ [])) } ∷ record { address = 0xfff000; bytes = (file 10 (piece 0 (codes "Pick one:\n") ∷ [])) } ∷ record { address = 0x99800; bytes = (file 37 (piece 0 (codes "BOOT_IMAGE=old ro root=d96a quiet  x") ∷ [])) } ∷ []); left = (waited 4) }) × (meant conf_tracks_34 names_tracks devices_tracks (Kept (codes "dos vga=ask  lock w")) (typed (codes "2 lock\n")) 16777216 ≡ record { outcome = Handed; shown = (codes "LILO\nLoading dos\n"); line = Some (Kept (codes "dos vga=ask w")); written = (record { address = 0x7c00; bytes = (file 512 (piece 3 (codes "FAT") ∷ piece 510 (hex 2 0x55aa) ∷ [])) } ∷ []); left = (typed (codes "2 lock\n")) })
unfolding number16 number32 is_zero components child find_path file_block file_at child_path path_of names_of_section names_of_config started menu_decision menu_boot file_of middle_text target_of menu_entries menu_of meant setup_of version_of header_of header_at fit_checks plan_memory replaced_fields patch command_line written_by place kernel_fit course_of words_of meaning
meant_lba32_compact_a_message_a_prompt_an_image_another_system_an_initrd_an_alias_a_password_a_fallback_append_root = (refl, refl)

-- by cylinder, compact, a prompt, timeout 65534, an image, an initrd, a fallback, literal, vga, root
pub meant_by_cylinder_compact_a_prompt_timeout_65534_an_image_an_initrd_a_fallback_literal_vga_root : (meant conf_tracks_35 names_tracks devices_tracks Empty (typed (codes "b lock\n")) 3145728 ≡ record { outcome = Loaded (record { real = record { address = 0x90000; size = 1024 }; protected = record { address = 0x100000; size = 576 }; initrd = (Some (record { address = 0x2ff000; size = 10 })); line = record { address = 0x99800; size = 23 } }); shown = (codes "LILO\nboot: b lock\nLoading b\n"); line = Some (Kept (codes "b")); written = (record { address = 0x90000; bytes = (file 1024 (piece 497 (hex 1 0x01) ∷ piece 506 (hex 14 0xfdff000055aa0000486472530602) ∷ piece 528 (hex 2 0x0281) ∷ piece 537 (hex 4 0xf02f000a) ∷ piece 549 (hex 11 0x96000000980900ffffff37) ∷ piece 568 (codes "(") ∷ [])) } ∷ record { address = 0x100000; bytes = (file 576 (piece 0 (replicate 576 9) ∷ [])) } ∷ record { address = 0x2ff000; bytes = (file 10 (piece 0 (codes "Pick one:\n") ∷ [])) } ∷ record { address = 0x99800; bytes = (file 23 (piece 0 (codes "BOOT_IMAGE=b only this") ∷ [])) } ∷ []); left = [] }) × (meant conf_tracks_35 names_tracks devices_tracks (Kept (codes "b")) [] 16777216 ≡ record { outcome = Loaded (record { real = record { address = 0x90000; size = 1024 }; protected = record { address = 0x100000; size = 576 }; initrd = (Some (record { address = 0xfff000; size = 10 })); line = record { address = 0x99800; size = 28 } }); shown = (codes "LILO\nLoading b\n"); line = Some (Kept (codes "b s")); written = (record { address = 0x90000; bytes = (file 1024 (piece 497 (hex 1 0x01) ∷ piece 506 (hex 14 0xfdff000055aa0000486472530602) ∷ piece 528 (hex 2 0x0281) ∷ piece 537 (hex 4 0xf0ff000a) ∷ piece 549 (hex 11 0x96000000980900ffffff37) ∷ piece 568 (codes "(") ∷ [])) } ∷ record { address = 0x100000; bytes = (file 576 (piece 0 (replicate 576 9) ∷ [])) } ∷ record { address = 0xfff000; bytes = (file 10 (piece 0 (codes "Pick one:\n") ∷ [])) } ∷ record { address = 0x99800; bytes = (file 28 (piece 0 (codes "auto BOOT_IMAGE=b only this") ∷ [])) } ∷ []); left = [] })
unfolding number16 number32 is_zero components child find_path file_block file_at child_path path_of names_of_section names_of_config started menu_decision menu_boot file_of middle_text target_of menu_entries menu_of meant setup_of version_of header_of header_at fit_checks plan_memory replaced_fields patch command_line written_by place kernel_fit course_of words_of meaning
meant_by_cylinder_compact_a_prompt_timeout_65534_an_image_an_initrd_a_fallback_literal_vga_root = (refl, refl)

-- linear, compact, a message, another system, an alias, a lock
pub meant_linear_compact_a_message_another_system_an_alias_a_lock : (meant conf_tracks_36 names_tracks devices_tracks Empty (typed (hex 10 0x73616665206c6f636b0d)) 16777216 ≡ record { outcome = Handed; shown = (codes "LILO\nLoading safe\n"); line = Some (Kept (codes "safe")); written = (record { address = 0x7c00; bytes = (file 512 (piece 3 (codes "FREE") ∷ piece 510 (hex 2 0x55aa) ∷ [])) } ∷ []); left = (typed (hex 10 0x73616665206c6f636b0d)) }) × (meant conf_tracks_36 names_tracks devices_tracks Empty [] 3145728 ≡ record { outcome = Handed; shown = (codes "LILO\nLoading safe\n"); line = Some (Kept (codes "safe")); written = (record { address = 0x7c00; bytes = (file 512 (piece 3 (codes "FREE") ∷ piece 510 (hex 2 0x55aa) ∷ [])) } ∷ []); left = [] })
unfolding number16 number32 is_zero components child find_path file_block file_at child_path path_of names_of_section names_of_config started menu_decision menu_boot file_of middle_text target_of menu_entries menu_of meant setup_of version_of header_of header_at fit_checks plan_memory replaced_fields patch command_line written_by place kernel_fit course_of words_of meaning
meant_linear_compact_a_message_another_system_an_alias_a_lock = (refl, refl)

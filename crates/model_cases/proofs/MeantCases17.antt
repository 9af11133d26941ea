-- Cases of the model, written by tools/plan_cases.py: what a boot does as configurations say.
use Rattle.std.proofs.Common.{◌≡◌, ◌∷◌, ◌++◌, [], codes, replicate, None, Some, refl}
use Rattle.lilo_model.specs.Boot.{Loaded, Handed, Refused}
use Rattle.lilo_model.specs.Bytes.{number16, number32, is_zero}
use Rattle.lilo_model.specs.Choice.{course_of}
use Rattle.lilo_model.specs.ConfLawful.{names_of_section, names_of_config}
use Rattle.lilo_model.specs.DefaultLine.{Empty, Once, Kept}
use Rattle.lilo_model.specs.Header.{setup_of, version_of, header_of, header_at, fit_checks, plan_memory, replaced_fields, patch}
use Rattle.lilo_model.specs.LineWords.{words_of, meaning}
use Rattle.lilo_model.specs.Meant.{started, menu_decision, menu_boot, file_of, middle_text, target_of, menu_entries, menu_of, meant}
use Rattle.lilo_model.specs.MinixFind.{components, child, find_path, file_block, file_at}
use Rattle.lilo_model.specs.MinixFindNames.{child_path, path_of}
use Rattle.lilo_model.specs.Place.{command_line, written_by, place, kernel_fit}
use Rattle.lilo_model.specs.Reason.{Idle}
use Rattle.model_cases.specs.Sparse.{hex, piece, file, typed, waited}
use Rattle.model_cases.specs.PlanLogicalConfs.{conf_logical_10, conf_logical_11, conf_logical_12, conf_logical_5, conf_logical_6, conf_logical_7, conf_logical_8, conf_logical_9}
use Rattle.model_cases.specs.PlanNames.{names_logical}
use Rattle.model_cases.specs.PlanVolumes.{devices_logical}

-- lba32, compact, timeout 1, an image, another system, an initrd, a fallback
pub meant_lba32_compact_timeout_1_an_image_another_system_an_initrd_a_fallback : (meant conf_logical_5 names_logical devices_logical Empty (typed (hex 10 0x73616665206c6f636b0d)) 4194304 ≡ record { outcome = Handed; shown = (codes "LILO\nLoading safe\n"); line = Some Empty; written = (record { address = 0x7c00; bytes = (file 512 (piece 3 (codes "FAT") ∷ piece 510 (hex 2 0x55aa) ∷ [])) } ∷ []); left = (typed (hex 10 0x73616665206c6f636b0d)) }) × (meant conf_logical_5 names_logical devices_logical (Kept (codes "safe")) (typed (hex 8 0x717515736166650d)) 1048576 ≡ record { outcome = Handed; shown = (codes "LILO\nLoading safe\n"); line = Some (Kept (codes "safe")); written = (record { address = 0x7c00; bytes = (file 512 (piece 3 (codes "FAT") ∷ piece 510 (hex 2 0x55aa) ∷ [])) } ∷ []); left = (typed (hex 8 0x717515736166650d)) })
unfolding number16 number32 is_zero components child find_path file_block file_at child_path path_of names_of_section names_of_config started menu_decision menu_boot file_of middle_text target_of menu_entries menu_of meant setup_of version_of header_of header_at fit_checks plan_memory replaced_fields patch command_line written_by place kernel_fit course_of words_of meaning
meant_lba32_compact_timeout_1_an_image_another_system_an_initrd_a_fallback = (refl, refl)

-- linear, delay 1, timeout 1, an image, one omitted, another system, a table, a password, append, root
pub meant_linear_delay_1_timeout_1_an_image_one_omitted_another_system_a_table_a_password_append_root : (meant conf_logical_6 names_logical devices_logical Empty (waited 2 ++ typed (codes "dos\nwrong\nrest")) 3145728 ≡ record { outcome = Refused Idle; shown = (codes "LILO\nPassword: \nSorry.\nboot: wrong\nNo such image.\nboot: rest"); line = Some Empty; written = []; left = [] }) × (meant conf_logical_6 names_logical devices_logical (Kept (codes "x vga=ask  lock w")) [] 16777216 ≡ record { outcome = Refused Idle; shown = (codes "LILO\nPassword: \nboot: "); line = Some (Kept (codes "x vga=ask  lock w")); written = []; left = [] })
unfolding number16 number32 is_zero components child find_path file_block file_at child_path path_of names_of_section names_of_config started menu_decision menu_boot file_of middle_text target_of menu_entries menu_of meant setup_of version_of header_of header_at fit_checks plan_memory replaced_fields patch command_line written_by place kernel_fit course_of words_of meaning
meant_linear_delay_1_timeout_1_an_image_one_omitted_another_system_a_table_a_password_append_root = (refl, refl)

-- by cylinder, a prompt, delay 2, timeout 0, an image, a password, restricted
pub meant_by_cylinder_a_prompt_delay_2_timeout_0_an_image_a_password_restricted : (meant conf_logical_7 names_logical devices_logical Empty (typed (codes "dos\nppppppppppppppppppppppppppppppp\n")) 16777216 ≡ record { outcome = Loaded (record { real = record { address = 0x90000; size = 1024 }; protected = record { address = 0x100000; size = 5976 }; initrd = None; line = record { address = 0x99800; size = 23 } }); shown = (codes "LILO\nboot: \nLoading dos\n"); line = Some Empty; written = (record { address = 0x90000; bytes = (file 1024 (piece 497 (hex 1 0x01) ∷ piece 510 (hex 10 0x55aa0000486472530602) ∷ piece 528 (hex 2 0x0281) ∷ piece 549 (hex 11 0x96000000980900ffffff37) ∷ piece 568 (hex 1 0xff) ∷ [])) } ∷ record { address = 0x100000; bytes = (file 5976 (piece 0 (replicate 1024 7) ∷ piece 3072 (replicate 2048 7) ∷ [])) } ∷ record { address = 0x99800; bytes = (file 23 (piece 0 (codes "auto BOOT_IMAGE=dos rw") ∷ [])) } ∷ []); left = (typed (codes "dos\nppppppppppppppppppppppppppppppp\n")) }) × (meant conf_logical_7 names_logical devices_logical Empty (typed (codes "dos single\nwrong\n")) 16777216 ≡ record { outcome = Loaded (record { real = record { address = 0x90000; size = 1024 }; protected = record { address = 0x100000; size = 5976 }; initrd = None; line = record { address = 0x99800; size = 23 } }); shown = (codes "LILO\nboot: \nLoading dos\n"); line = Some Empty; written = (record { address = 0x90000; bytes = (file 1024 (piece 497 (hex 1 0x01) ∷ piece 510 (hex 10 0x55aa0000486472530602) ∷ piece 528 (hex 2 0x0281) ∷ piece 549 (hex 11 0x96000000980900ffffff37) ∷ piece 568 (hex 1 0xff) ∷ [])) } ∷ record { address = 0x100000; bytes = (file 5976 (piece 0 (replicate 1024 7) ∷ piece 3072 (replicate 2048 7) ∷ [])) } ∷ record { address = 0x99800; bytes = (file 23 (piece 0 (codes "auto BOOT_IMAGE=dos rw") ∷ [])) } ∷ []); left = (typed (codes "dos single\nwrong\n")) })
unfolding number16 number32 is_zero components child find_path file_block file_at child_path path_of names_of_section names_of_config started menu_decision menu_boot file_of middle_text target_of menu_entries menu_of meant setup_of version_of header_of header_at fit_checks plan_memory replaced_fields patch command_line written_by place kernel_fit course_of words_of meaning
meant_by_cylinder_a_prompt_delay_2_timeout_0_an_image_a_password_restricted = (refl, refl)

-- lba32, a prompt, timeout 0, 2 images, another system, an initrd, a table, a password, restricted, a fallback, literal, append, root
pub meant_lba32_a_prompt_timeout_0_2_images_another_system_an_initrd_a_table_a_password_restricted_a_fallback_literal_append_root : (meant conf_logical_8 names_logical devices_logical Empty (waited 1 ++ typed (codes "b\n")) 16777216 ≡ record { outcome = Loaded (record { real = record { address = 0x90000; size = 1024 }; protected = record { address = 0x100000; size = 5 }; initrd = (Some (record { address = 0xfff000; size = 513 })); line = record { address = 0x99800; size = 28 } }); shown = (codes "LILO\nboot: \nLoading b\n"); line = Some Empty; written = (record { address = 0x90000; bytes = (file 1024 (piece 497 (hex 1 0x01) ∷ piece 510 (hex 10 0x55aa0000486472530602) ∷ piece 528 (hex 2 0x0281) ∷ piece 537 (hex 5 0xf0ff000102) ∷ piece 549 (hex 11 0x96000000980900ffffff37) ∷ piece 568 (hex 1 0xff) ∷ [])) } ∷ record { address = 0x100000; bytes = (file 5 (piece 0 (codes "HELLO") ∷ [])) } ∷ record { address = 0xfff000; bytes = (file 513 (piece 0 (replicate 513 165) ∷ [])) } ∷ record { address = 0x99800; bytes = (file 28 (piece 0 (codes "auto BOOT_IMAGE=b only this") ∷ [])) } ∷ []); left = (waited 1 ++ typed (codes "b\n")) }) × (meant conf_logical_8 names_logical devices_logical Empty [] 16777216 ≡ record { outcome = Loaded (record { real = record { address = 0x90000; size = 1024 }; protected = record { address = 0x100000; size = 5 }; initrd = (Some (record { address = 0xfff000; size = 513 })); line = record { address = 0x99800; size = 28 } }); shown = (codes "LILO\nboot: \nLoading b\n"); line = Some Empty; written = (record { address = 0x90000; bytes = (file 1024 (piece 497 (hex 1 0x01) ∷ piece 510 (hex 10 0x55aa0000486472530602) ∷ piece 528 (hex 2 0x0281) ∷ piece 537 (hex 5 0xf0ff000102) ∷ piece 549 (hex 11 0x96000000980900ffffff37) ∷ piece 568 (hex 1 0xff) ∷ [])) } ∷ record { address = 0x100000; bytes = (file 5 (piece 0 (codes "HELLO") ∷ [])) } ∷ record { address = 0xfff000; bytes = (file 513 (piece 0 (replicate 513 165) ∷ [])) } ∷ record { address = 0x99800; bytes = (file 28 (piece 0 (codes "auto BOOT_IMAGE=b only this") ∷ [])) } ∷ []); left = [] })
unfolding number16 number32 is_zero components child find_path file_block file_at child_path path_of names_of_section names_of_config started menu_decision menu_boot file_of middle_text target_of menu_entries menu_of meant setup_of version_of header_of header_at fit_checks plan_memory replaced_fields patch command_line written_by place kernel_fit course_of words_of meaning
meant_lba32_a_prompt_timeout_0_2_images_another_system_an_initrd_a_table_a_password_restricted_a_fallback_literal_append_root = (refl, refl)

-- linear, a message, 2 images, one omitted, an initrd, an alias, a password, restricted, a fallback, append, vga
pub meant_linear_a_message_2_images_one_omitted_an_initrd_an_alias_a_password_restricted_a_fallback_append_vga : (meant conf_logical_9 names_logical devices_logical Empty (waited 1 ++ typed (hex 17 0x3f616c696e7578206c6f636b0d6120620a)) 4194304 ≡ record { outcome = Loaded (record { real = record { address = 0x90000; size = 1024 }; protected = record { address = 0x100000; size = 1 }; initrd = None; line = record { address = 0x99800; size = 30 } }); shown = (codes "LILO\nLoading linux\n"); line = Some Empty; written = (record { address = 0x90000; bytes = (file 1024 (piece 32 (hex 4 0x3fa30098) ∷ piece 497 (hex 1 0x01) ∷ piece 506 (hex 14 0xfdff000055aa0000486472530002) ∷ piece 528 (hex 2 0x0201) ∷ piece 556 (hex 4 0xffffff37) ∷ piece 568 (hex 1 0xff) ∷ [])) } ∷ record { address = 0x100000; bytes = (file 1 (piece 0 (hex 1 0x01) ∷ [])) } ∷ record { address = 0x99800; bytes = (file 30 (piece 0 (codes "auto BOOT_IMAGE=linux rw a=27") ∷ [])) } ∷ []); left = (waited 1 ++ typed (hex 17 0x3f616c696e7578206c6f636b0d6120620a)) }) × (meant conf_logical_9 names_logical devices_logical (Once (codes "linux one")) (typed (hex 26 0x616c696e7578207667613d657874206c6f636b20790d6120620a)) 16777216 ≡ record { outcome = Loaded (record { real = record { address = 0x90000; size = 1024 }; protected = record { address = 0x100000; size = 1 }; initrd = None; line = record { address = 0x99800; size = 34 } }); shown = (codes "LILO\nLoading linux\n"); line = Some Empty; written = (record { address = 0x90000; bytes = (file 1024 (piece 32 (hex 4 0x3fa30098) ∷ piece 497 (hex 1 0x01) ∷ piece 506 (hex 14 0xfdff000055aa0000486472530002) ∷ piece 528 (hex 2 0x0201) ∷ piece 556 (hex 4 0xffffff37) ∷ piece 568 (hex 1 0xff) ∷ [])) } ∷ record { address = 0x100000; bytes = (file 1 (piece 0 (hex 1 0x01) ∷ [])) } ∷ record { address = 0x99800; bytes = (file 34 (piece 0 (codes "auto BOOT_IMAGE=linux rw a=27 one") ∷ [])) } ∷ []); left = (typed (hex 26 0x616c696e7578207667613d657874206c6f636b20790d6120620a)) })
unfolding number16 number32 is_zero components child find_path file_block file_at child_path path_of names_of_section names_of_config started menu_decision menu_boot file_of middle_text target_of menu_entries menu_of meant setup_of version_of header_of header_at fit_checks plan_memory replaced_fields patch command_line written_by place kernel_fit course_of words_of meaning
meant_linear_a_message_2_images_one_omitted_an_initrd_an_alias_a_password_restricted_a_fallback_append_vga = (refl, refl)

-- by cylinder, compact, a message, a prompt, an image, an initrd, an alias, a lock, vga, root
pub meant_by_cylinder_compact_a_message_a_prompt_an_image_an_initrd_an_alias_a_lock_vga_root : (meant conf_logical_10 names_logical devices_logical Empty (waited 3 ++ typed (codes "linux lock\n")) 16777216 ≡ record { outcome = Loaded (record { real = record { address = 0x90000; size = 1024 }; protected = record { address = 0x100000; size = 5 }; initrd = (Some (record { address = 0xfff000; size = 3072 })); line = record { address = 0x99800; size = 26 } }); shown = (codes "LILO\nboot: linux lock\nLoading linux\n"); line = Some (Kept (codes "linux")); written = (record { address = 0x90000; bytes = (file 1024 (piece 497 (hex 1 0x01) ∷ piece 506 (hex 14 0x0503000055aa0000486472530602) ∷ piece 528 (hex 2 0x0281) ∷ piece 537 (hex 5 0xf0ff00000c) ∷ piece 549 (hex 11 0x96000000980900ffffff37) ∷ piece 568 (hex 1 0xff) ∷ [])) } ∷ record { address = 0x100000; bytes = (file 5 (piece 0 (codes "HELLO") ∷ [])) } ∷ record { address = 0xfff000; bytes = (file 3072 []) } ∷ record { address = 0x99800; bytes = (file 26 (piece 0 (codes "BOOT_IMAGE=linux root=305") ∷ [])) } ∷ []); left = [] }) × (meant conf_logical_10 names_logical devices_logical (Kept (codes "linux")) (typed (hex 9 0x312073696e676c650d)) 16777216 ≡ record { outcome = Loaded (record { real = record { address = 0x90000; size = 1024 }; protected = record { address = 0x100000; size = 5 }; initrd = (Some (record { address = 0xfff000; size = 3072 })); line = record { address = 0x99800; size = 31 } }); shown = (codes "LILO\nLoading linux\n"); line = Some (Kept (codes "linux")); written = (record { address = 0x90000; bytes = (file 1024 (piece 497 (hex 1 0x01) ∷ piece 506 (hex 14 0x0503000055aa0000486472530602) ∷ piece 528 (hex 2 0x0281) ∷ piece 537 (hex 5 0xf0ff00000c) ∷ piece 549 (hex 11 0x96000000980900ffffff37) ∷ piece 568 (hex 1 0xff) ∷ [])) } ∷ record { address = 0x100000; bytes = (file 5 (piece 0 (codes "HELLO") ∷ [])) } ∷ record { address = 0xfff000; bytes = (file 3072 []) } ∷ record { address = 0x99800; bytes = (file 31 (piece 0 (codes "auto BOOT_IMAGE=linux root=305") ∷ [])) } ∷ []); left = (typed (hex 9 0x312073696e676c650d)) })
unfolding number16 number32 is_zero components child find_path file_block file_at child_path path_of names_of_section names_of_config started menu_decision menu_boot file_of middle_text target_of menu_entries menu_of meant setup_of version_of header_of header_at fit_checks plan_memory replaced_fields patch command_line written_by place kernel_fit course_of words_of meaning
meant_by_cylinder_compact_a_message_a_prompt_an_image_an_initrd_an_alias_a_lock_vga_root = (refl, refl)

-- linear, compact, a message, timeout 1, 2 images, a fallback, append, vga
pub meant_linear_compact_a_message_timeout_1_2_images_a_fallback_append_vga : (meant conf_logical_11 names_logical devices_logical Empty (typed (codes "old single\n")) 16777216 ≡ record { outcome = Loaded (record { real = record { address = 0x90000; size = 1024 }; protected = record { address = 0x100000; size = 5 }; initrd = None; line = record { address = 0x99800; size = 28 } }); shown = (codes "LILO\nLoading old\n"); line = Some (Kept (codes "fifteen-letters")); written = (record { address = 0x90000; bytes = (file 1024 (piece 497 (hex 1 0x01) ∷ piece 506 (hex 14 0x0303000055aa0000486472530602) ∷ piece 528 (hex 2 0x0281) ∷ piece 549 (hex 11 0x96000000980900ffffff37) ∷ piece 568 (hex 1 0xff) ∷ [])) } ∷ record { address = 0x100000; bytes = (file 5 (piece 0 (codes "HELLO") ∷ [])) } ∷ record { address = 0x99800; bytes = (file 28 (piece 0 (codes "auto BOOT_IMAGE=old rw a=29") ∷ [])) } ∷ []); left = (typed (codes "old single\n")) }) × (meant conf_logical_11 names_logical devices_logical (Once (codes "fifteen-letters one")) (typed (hex 25 0x6e6f7f086669667465656e2d6c657474657273206c6f636b0d)) 16777216 ≡ record { outcome = Loaded (record { real = record { address = 0x90000; size = 1024 }; protected = record { address = 0x100000; size = 1 }; initrd = None; line = record { address = 0x99800; size = 41 } }); shown = (codes "LILO\nLoading fifteen-letters\n"); line = Some Empty; written = (record { address = 0x90000; bytes = (file 1024 (piece 32 (hex 4 0x3fa30098) ∷ piece 497 (hex 1 0x01) ∷ piece 506 (hex 14 0x0303000055aa0000486472530002) ∷ piece 528 (hex 2 0x0201) ∷ piece 556 (hex 4 0xffffff37) ∷ piece 568 (hex 1 0xff) ∷ [])) } ∷ record { address = 0x100000; bytes = (file 1 (piece 0 (hex 1 0x01) ∷ [])) } ∷ record { address = 0x99800; bytes = (file 41 (piece 0 (codes "auto BOOT_IMAGE=fifteen-letters a=44 one") ∷ [])) } ∷ []); left = (typed (hex 25 0x6e6f7f086669667465656e2d6c657474657273206c6f636b0d)) })
unfolding number16 number32 is_zero components child find_path file_block file_at child_path path_of names_of_section names_of_config started menu_decision menu_boot file_of middle_text target_of menu_entries menu_of meant setup_of version_of header_of header_at fit_checks plan_memory replaced_fields patch command_line written_by place kernel_fit course_of words_of meaning
meant_linear_compact_a_message_timeout_1_2_images_a_fallback_append_vga = (refl, refl)

-- lba32, compact, a prompt, 2 other systems, an alias, a lock
pub meant_lba32_compact_a_prompt_2_other_systems_an_alias_a_lock : (meant conf_logical_12 names_logical devices_logical Empty (typed (codes "5\n")) 1048576 ≡ record { outcome = Handed; shown = (codes "LILO\nboot: 5\nLoading 5\n"); line = Some Empty; written = (record { address = 0x7c00; bytes = (file 512 (piece 3 (codes "MBR2") ∷ piece 450 (hex 9 0x060000001100000064) ∷ piece 466 (hex 9 0x0500000096000000c8) ∷ piece 510 (hex 2 0x55aa) ∷ [])) } ∷ []); left = [] }) × (meant conf_logical_12 names_logical devices_logical Empty [] 16777216 ≡ record { outcome = Refused Idle; shown = (codes "LILO\nboot: "); line = Some Empty; written = []; left = [] })
unfolding number16 number32 is_zero components child find_path file_block file_at child_path path_of names_of_section names_of_config started menu_decision menu_boot file_of middle_text target_of menu_entries menu_of meant setup_of version_of header_of header_at fit_checks plan_memory replaced_fields patch command_line written_by place kernel_fit course_of words_of meaning
meant_lba32_compact_a_prompt_2_other_systems_an_alias_a_lock = (refl, refl)

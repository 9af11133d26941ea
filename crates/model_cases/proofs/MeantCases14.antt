-- Cases of the model, written by tools/plan_cases.py: what a boot does as configurations say.
use Rattle.std.proofs.Common.{◌≡◌, ◌∷◌, ◌++◌, [], codes, replicate, None, Some, refl}
use Rattle.lilo_model.specs.Boot.{Loaded, Handed, Refused}
use Rattle.lilo_model.specs.Bytes.{number16, number32, is_zero}
use Rattle.lilo_model.specs.Choice.{course_of}
use Rattle.lilo_model.specs.ConfLawful.{names_of_section, names_of_config}
use Rattle.lilo_model.specs.DefaultLine.{Empty, Once, Kept}
use Rattle.lilo_model.specs.Header.{setup_of, version_of, header_of, header_at, fit_checks, plan_memory, replaced_fields, patch, NoRoom}
use Rattle.lilo_model.specs.LineWords.{words_of, meaning}
use Rattle.lilo_model.specs.Meant.{started, menu_decision, menu_boot, file_of, middle_text, target_of, menu_entries, menu_of, meant}
use Rattle.lilo_model.specs.MinixFind.{components, child, find_path, file_block, file_at}
use Rattle.lilo_model.specs.MinixFindNames.{child_path, path_of}
use Rattle.lilo_model.specs.Place.{command_line, written_by, place, kernel_fit}
use Rattle.lilo_model.specs.Reason.{Idle, Header}
use Rattle.model_cases.specs.Sparse.{hex, piece, file, typed, waited}
use Rattle.model_cases.specs.PlanNames.{names_tracks}
use Rattle.model_cases.specs.PlanTracksConfs.{conf_tracks_21, conf_tracks_22, conf_tracks_23, conf_tracks_24, conf_tracks_25, conf_tracks_26, conf_tracks_27, conf_tracks_28}
use Rattle.model_cases.specs.PlanVolumes.{devices_tracks}

-- by cylinder, timeout 7, 2 images, another system, an initrd, an alias, a password, a lock, a fallback, vga, root
pub meant_by_cylinder_timeout_7_2_images_another_system_an_initrd_an_alias_a_password_a_lock_a_fallback_vga_root : (meant conf_tracks_21 names_tracks devices_tracks Empty (waited 3 ++ typed (hex 6 0x330d6120620a)) 4194304 ≡ record { outcome = Refused Idle; shown = (codes "LILO\nPassword: \nSorry.\nboot: a b\nNo such image.\nboot: "); line = Some Empty; written = []; left = [] }) × (meant conf_tracks_21 names_tracks devices_tracks (Once (codes "fifteen-letters one")) (typed (codes "fifteen-letters\n")) 3145728 ≡ record { outcome = Handed; shown = (codes "LILO\nLoading fifteen-letters\n"); line = Some (Kept (codes "fifteen-letters one")); written = (record { address = 0x7c00; bytes = (file 512 (piece 3 (codes "LOGICAL") ∷ piece 510 (hex 2 0x55aa) ∷ [])) } ∷ []); left = (typed (codes "fifteen-letters\n")) })
unfolding number16 number32 is_zero components child find_path file_block file_at child_path path_of names_of_section names_of_config started menu_decision menu_boot file_of middle_text target_of menu_entries menu_of meant setup_of version_of header_of header_at fit_checks plan_memory replaced_fields patch command_line written_by place kernel_fit course_of words_of meaning
meant_by_cylinder_timeout_7_2_images_another_system_an_initrd_an_alias_a_password_a_lock_a_fallback_vga_root = (refl, refl)

-- by cylinder, a prompt, 4 images, an initrd, an alias, a password, restricted, a fallback, append, vga
pub meant_by_cylinder_a_prompt_4_images_an_initrd_an_alias_a_password_restricted_a_fallback_append_vga : (meant conf_tracks_22 names_tracks devices_tracks Empty (typed (hex 14 0x7a7a0a736166650d77726f6e670a)) 4194304 ≡ record { outcome = Refused Idle; shown = (codes "LILO\nboot: zz\nNo such image.\nboot: safe\nPassword: \nSorry.\nboot: "); line = Some Empty; written = []; left = [] }) × (meant conf_tracks_22 names_tracks devices_tracks (Kept (codes "old")) (typed (hex 28 0x7175156669667465656e2d6c657474657273206c6f636b0d7475780a)) 16777216 ≡ record { outcome = Loaded (record { real = record { address = 0x90000; size = 1024 }; protected = record { address = 0x100000; size = 576 }; initrd = (Some (record { address = 0xfff000; size = 700 })); line = record { address = 0x99800; size = 23 } }); shown = (codes "LILO\nLoading old\n"); line = Some (Kept (codes "fifteen-letters")); written = (record { address = 0x90000; bytes = (file 1024 (piece 497 (hex 1 0x01) ∷ piece 510 (hex 10 0x55aa0000486472530602) ∷ piece 528 (hex 2 0x0281) ∷ piece 537 (hex 5 0xf0ff00bc02) ∷ piece 549 (hex 11 0x96000000980900ffffff37) ∷ piece 568 (codes "(") ∷ [])) } ∷ record { address = 0x100000; bytes = (file 576 (piece 0 (replicate 576 9) ∷ [])) } ∷ record { address = 0xfff000; bytes = (file 700 (piece 0 (replicate 700 165) ∷ [])) } ∷ record { address = 0x99800; bytes = (file 23 (piece 0 (codes "auto BOOT_IMAGE=old ro") ∷ [])) } ∷ []); left = (typed (hex 28 0x7175156669667465656e2d6c657474657273206c6f636b0d7475780a)) })
unfolding number16 number32 is_zero components child find_path file_block file_at child_path path_of names_of_section names_of_config started menu_decision menu_boot file_of middle_text target_of menu_entries menu_of meant setup_of version_of header_of header_at fit_checks plan_memory replaced_fields patch command_line written_by place kernel_fit course_of words_of meaning
meant_by_cylinder_a_prompt_4_images_an_initrd_an_alias_a_password_restricted_a_fallback_append_vga = (refl, refl)

-- by cylinder, delay 2, timeout 1, an image, a fallback, vga, root
pub meant_by_cylinder_delay_2_timeout_1_an_image_a_fallback_vga_root : (meant conf_tracks_23 names_tracks devices_tracks Empty (typed (codes "old lock\n")) 16777216 ≡ record { outcome = Loaded (record { real = record { address = 0x90000; size = 1024 }; protected = record { address = 0x100000; size = 576 }; initrd = None; line = record { address = 0x99800; size = 27 } }); shown = (codes "LILO\nboot: old lock\nLoading old\n"); line = Some (Kept (codes "old")); written = (record { address = 0x90000; bytes = (file 1024 (piece 497 (hex 1 0x01) ∷ piece 506 (hex 14 0x0303000055aa0000486472530602) ∷ piece 528 (hex 2 0x0281) ∷ piece 549 (hex 11 0x96000000980900ffffff37) ∷ piece 568 (codes "(") ∷ [])) } ∷ record { address = 0x100000; bytes = (file 576 (piece 0 (replicate 576 9) ∷ [])) } ∷ record { address = 0x99800; bytes = (file 27 (piece 0 (codes "BOOT_IMAGE=old ro root=305") ∷ [])) } ∷ []); left = [] }) × (meant conf_tracks_23 names_tracks devices_tracks (Once (codes "gone")) [] 16777216 ≡ record { outcome = Loaded (record { real = record { address = 0x90000; size = 1024 }; protected = record { address = 0x100000; size = 576 }; initrd = None; line = record { address = 0x99800; size = 32 } }); shown = (codes "LILO\nLoading old\n"); line = Some (Kept (codes "old s")); written = (record { address = 0x90000; bytes = (file 1024 (piece 497 (hex 1 0x01) ∷ piece 506 (hex 14 0x0303000055aa0000486472530602) ∷ piece 528 (hex 2 0x0281) ∷ piece 549 (hex 11 0x96000000980900ffffff37) ∷ piece 568 (codes "(") ∷ [])) } ∷ record { address = 0x100000; bytes = (file 576 (piece 0 (replicate 576 9) ∷ [])) } ∷ record { address = 0x99800; bytes = (file 32 (piece 0 (codes "auto BOOT_IMAGE=old ro root=305") ∷ [])) } ∷ []); left = [] })
unfolding number16 number32 is_zero components child find_path file_block file_at child_path path_of names_of_section names_of_config started menu_decision menu_boot file_of middle_text target_of menu_entries menu_of meant setup_of version_of header_of header_at fit_checks plan_memory replaced_fields patch command_line written_by place kernel_fit course_of words_of meaning
meant_by_cylinder_delay_2_timeout_1_an_image_a_fallback_vga_root = (refl, refl)

-- by cylinder, compact, a prompt, delay 1, an image, another system, an initrd, a password, restricted, a fallback, append, root
pub meant_by_cylinder_compact_a_prompt_delay_1_an_image_another_system_an_initrd_a_password_restricted_a_fallback_append_root : (meant conf_tracks_24 names_tracks devices_tracks Empty (typed (hex 18 0x74776f207667613d30783720780d6120620a)) 16777216 ≡ record { outcome = Loaded (record { real = record { address = 0x90000; size = 1024 }; protected = record { address = 0x100000; size = 31644 }; initrd = (Some (record { address = 0xfff000; size = 700 })); line = record { address = 0x99800; size = 34 } }); shown = (codes "LILO\nboot: two vga=0x7 x\nPassword: \nLoading two\n"); line = Some Empty; written = (record { address = 0x90000; bytes = (file 1024 (piece 497 (hex 1 0x01) ∷ piece 506 (hex 14 0x0700000055aa0000486472530602) ∷ piece 528 (hex 2 0x0281) ∷ piece 537 (hex 5 0xf0ff00bc02) ∷ piece 549 (hex 11 0x96000000980900ffffff37) ∷ piece 568 (hex 1 0xff) ∷ [])) } ∷ record { address = 0x100000; bytes = (file 31644 (piece 0 (replicate 31644 4) ∷ [])) } ∷ record { address = 0xfff000; bytes = (file 700 (piece 0 (replicate 700 165) ∷ [])) } ∷ record { address = 0x99800; bytes = (file 34 (piece 0 (codes "BOOT_IMAGE=two rw root=305 a=12 x") ∷ [])) } ∷ []); left = [] }) × (meant conf_tracks_24 names_tracks devices_tracks (Once (codes "gone")) (waited 2 ++ typed (hex 32 0x6669667465656e2d6c657474657273207667613d30783720780d77726f6e670a)) 16777216 ≡ record { outcome = Refused Idle; shown = (codes "LILO\nboot: fifteen-letters vga=0x7 x\nPassword: \nSorry.\nboot: "); line = Some (Once (codes "gone")); written = []; left = [] })
unfolding number16 number32 is_zero components child find_path file_block file_at child_path path_of names_of_section names_of_config started menu_decision menu_boot file_of middle_text target_of menu_entries menu_of meant setup_of version_of header_of header_at fit_checks plan_memory replaced_fields patch command_line written_by place kernel_fit course_of words_of meaning
meant_by_cylinder_compact_a_prompt_delay_1_an_image_another_system_an_initrd_a_password_restricted_a_fallback_append_root = (refl, refl)

-- lba32, compact, a message, a prompt, an image, an initrd, a fallback, root
pub meant_lba32_compact_a_message_a_prompt_an_image_an_initrd_a_fallback_root : (meant conf_tracks_25 names_tracks devices_tracks Empty (typed (hex 15 0x73616665207667613d30783720780d)) 16777216 ≡ record { outcome = Loaded (record { real = record { address = 0x90000; size = 1024 }; protected = record { address = 0x100000; size = 31644 }; initrd = (Some (record { address = 0xfff000; size = 10 })); line = record { address = 0x99800; size = 30 } }); shown = (codes "LILO\nmmmmmmmmmmmmmmmmmmmmmmmmmmmmmmmmmmmmmmmmmmmmmmmmmmmmmmmmmmmmmmmmmmmmmmmmmmmmmmmmmmmmmmmmmmmmmmmmmmmmmmmmmmmmmmmmmmmmmmmmmmmmmmmmmmmmmmmmmmmmmmmmmmmmmmmmmmmmmmmmmmmmmmmmmmmmmmmmmmmmmmmmmmmmmmmmmmmmmmmmmmmmmmmmmmmmmmmmmmmmmmmmmmmmmmmmmmmmmmmmmmmmmmmmmmmmmmmmmmmmmmmmmmmmmmmmmmmmmmmmmmmmmmmmmmmmmmmmmmmmmmmmmmmmmmmmmmmmmmmmmmmmmmmmmmmmmmmmmmmmmmmmmmmmmmmmmmmmmmmmmmmmmmmmmmmmmmmmmmmmmmmmmmmmmmmmmmmmmmmmmmmmmmmmmmmmmmmmmmmmmmmmmmmmmmmmmmmmmmmmmmmmmmmmmmmmmmmmmmmmmmmmmmmmmmmmmmmmmmmmmmmmmmmmmmmmmmmmmmmmmmmmmmmmmmmmmboot: safe vga=0x7 x\nLoading safe\n"); line = Some (Kept (codes "safe")); written = (record { address = 0x90000; bytes = (file 1024 (piece 497 (hex 1 0x01) ∷ piece 506 (hex 14 0x0700000055aa0000486472530602) ∷ piece 528 (hex 2 0x0281) ∷ piece 537 (hex 4 0xf0ff000a) ∷ piece 549 (hex 11 0x96000000980900ffffff37) ∷ piece 568 (hex 1 0xff) ∷ [])) } ∷ record { address = 0x100000; bytes = (file 31644 (piece 0 (replicate 31644 4) ∷ [])) } ∷ record { address = 0xfff000; bytes = (file 10 (piece 0 (codes "Pick one:\n") ∷ [])) } ∷ record { address = 0x99800; bytes = (file 30 (piece 0 (codes "BOOT_IMAGE=safe rw root=305 x") ∷ [])) } ∷ []); left = [] }) × (meant conf_tracks_25 names_tracks devices_tracks (Kept (codes "safe vga=ask  lock w")) (typed (hex 20 0x73616665207667613d657874206c6f636b20790d)) 16777216 ≡ record { outcome = Loaded (record { real = record { address = 0x90000; size = 1024 }; protected = record { address = 0x100000; size = 31644 }; initrd = (Some (record { address = 0xfff000; size = 10 })); line = record { address = 0x99800; size = 35 } }); shown = (codes "LILO\nLoading safe\n"); line = Some (Kept (codes "safe vga=ask w")); written = (record { address = 0x90000; bytes = (file 1024 (piece 497 (hex 1 0x01) ∷ piece 506 (hex 14 0xfdff000055aa0000486472530602) ∷ piece 528 (hex 2 0x0281) ∷ piece 537 (hex 4 0xf0ff000a) ∷ piece 549 (hex 11 0x96000000980900ffffff37) ∷ piece 568 (hex 1 0xff) ∷ [])) } ∷ record { address = 0x100000; bytes = (file 31644 (piece 0 (replicate 31644 4) ∷ [])) } ∷ record { address = 0xfff000; bytes = (file 10 (piece 0 (codes "Pick one:\n") ∷ [])) } ∷ record { address = 0x99800; bytes = (file 35 (piece 0 (codes "auto BOOT_IMAGE=safe rw root=305 w") ∷ [])) } ∷ []); left = (typed (hex 20 0x73616665207667613d657874206c6f636b20790d)) })
unfolding number16 number32 is_zero components child find_path file_block file_at child_path path_of names_of_section names_of_config started menu_decision menu_boot file_of middle_text target_of menu_entries menu_of meant setup_of version_of header_of header_at fit_checks plan_memory replaced_fields patch command_line written_by place kernel_fit course_of words_of meaning
meant_lba32_compact_a_message_a_prompt_an_image_an_initrd_a_fallback_root = (refl, refl)

-- lba32, a message, a prompt, 2 other systems, a lock
pub meant_lba32_a_message_a_prompt_2_other_systems_a_lock : (meant conf_tracks_26 names_tracks devices_tracks Empty (typed (codes "fifteen-letters\n")) 16777216 ≡ record { outcome = Handed; shown = (codes "LILO\nPick one:\nboot: fifteen-letters\nLoading fifteen-letters\n"); line = Some Empty; written = (record { address = 0x7c00; bytes = (file 512 (piece 3 (codes "LOGICAL") ∷ piece 510 (hex 2 0x55aa) ∷ [])) } ∷ []); left = [] }) × (meant conf_tracks_26 names_tracks devices_tracks (Once (codes "fifteen-letters one")) (typed (hex 24 0x096669667465656e2d6c6574746572732073696e676c650d)) 1048576 ≡ record { outcome = Handed; shown = (codes "LILO\nLoading fifteen-letters\n"); line = Some Empty; written = (record { address = 0x7c00; bytes = (file 512 (piece 3 (codes "LOGICAL") ∷ piece 510 (hex 2 0x55aa) ∷ [])) } ∷ []); left = (typed (hex 24 0x096669667465656e2d6c6574746572732073696e676c650d)) })
unfolding number16 number32 is_zero components child find_path file_block file_at child_path path_of names_of_section names_of_config started menu_decision menu_boot file_of middle_text target_of menu_entries menu_of meant setup_of version_of header_of header_at fit_checks plan_memory replaced_fields patch command_line written_by place kernel_fit course_of words_of meaning
meant_lba32_a_message_a_prompt_2_other_systems_a_lock = (refl, refl)

-- lba32, compact, a prompt, delay 2, timeout 1, 3 images, another system, an initrd, an alias, a lock, literal, append, root
pub meant_lba32_compact_a_prompt_delay_2_timeout_1_3_images_another_system_an_initrd_an_alias_a_lock_literal_append_root : (meant conf_tracks_27 names_tracks devices_tracks Empty (typed (codes "1 single\n")) 1048576 ≡ record { outcome = Refused (Header (NoRoom 1048852 1048576)); shown = (codes "LILO\nboot: 1 single\nLoading 1\nError\n"); line = Some Empty; written = []; left = [] }) × (meant conf_tracks_27 names_tracks devices_tracks (Kept (codes "aold")) (typed (codes "old vga=ext lock y\n")) 16777216 ≡ record { outcome = Loaded (record { real = record { address = 0x90000; size = 1024 }; protected = record { address = 0x100000; size = 31232 }; initrd = (Some (record { address = 0xfff000; size = 10 })); line = record { address = 0x99800; size = 27 } }); shown = (codes "LILO\nboot: old vga=ext lock y\nLoading old\n"); line = Some (Kept (codes "old vga=ext y")); written = (record { address = 0x90000; bytes = (file 1024 (piece 497 (hex 1 0x01) ∷ piece 506 (hex 14 0xfeff000055aa0000486472530602) ∷ piece 528 (hex 2 0x0281) ∷ piece 537 (hex 4 0xf0ff000a) ∷ piece 549 (hex 11 0x96000000980900ffffff37) ∷ piece 568 (hex 1 0xff) ∷ [])) } ∷ record { address = 0x100000; bytes = (file 31232 (piece 0 (replicate 31232 3) ∷ [])) } ∷ record { address = 0xfff000; bytes = (file 10 (piece 0 (codes "Pick one:\n") ∷ [])) } ∷ record { address = 0x99800; bytes = (file 27 (piece 0 (codes "BOOT_IMAGE=old root=7a58 y") ∷ [])) } ∷ []); left = [] })
unfolding number16 number32 is_zero components child find_path file_block file_at child_path path_of names_of_section names_of_config started menu_decision menu_boot file_of middle_text target_of menu_entries menu_of meant setup_of version_of header_of header_at fit_checks plan_memory replaced_fields patch command_line written_by place kernel_fit course_of words_of meaning
meant_lba32_compact_a_prompt_delay_2_timeout_1_3_images_another_system_an_initrd_an_alias_a_lock_literal_append_root = (refl, refl)

-- by cylinder, 4 images, a password, a fallback, literal, root
pub meant_by_cylinder_4_images_a_password_a_fallback_literal_root : (meant conf_tracks_28 names_tracks devices_tracks Empty (waited 1 ++ typed (hex 12 0x78207667613d30783720780d)) 4194304 ≡ record { outcome = Loaded (record { real = record { address = 0x90000; size = 4608 }; protected = record { address = 0x100000; size = 77 }; initrd = None; line = record { address = 0x99800; size = 32 } }); shown = (codes "LILO\nLoading linux\n"); line = Some Empty; written = (record { address = 0x90000; bytes = (file 4608 (piece 497 (hex 1 0x08) ∷ piece 510 (hex 10 0x55aa0000486472530602) ∷ piece 528 (hex 2 0x0281) ∷ piece 549 (hex 11 0x96000000980900ffffff37) ∷ piece 568 (hex 1 0xff) ∷ piece 1024 (replicate 3584 8) ∷ [])) } ∷ record { address = 0x100000; bytes = (file 77 (piece 0 (replicate 77 8) ∷ [])) } ∷ record { address = 0x99800; bytes = (file 32 (piece 0 (codes "auto BOOT_IMAGE=linux only this") ∷ [])) } ∷ []); left = (waited 1 ++ typed (hex 12 0x78207667613d30783720780d)) }) × (meant conf_tracks_28 names_tracks devices_tracks (Kept (codes "dos vga=ask  lock w")) (typed (codes "x vga=0x7 x\n")) 4194304 ≡ record { outcome = Refused Idle; shown = (codes "LILO\nPassword: \nSorry.\nboot: "); line = Some (Kept (codes "dos vga=ask  lock w")); written = []; left = [] })
unfolding number16 number32 is_zero components child find_path file_block file_at child_path path_of names_of_section names_of_config started menu_decision menu_boot file_of middle_text target_of menu_entries menu_of meant setup_of version_of header_of header_at fit_checks plan_memory replaced_fields patch command_line written_by place kernel_fit course_of words_of meaning
meant_by_cylinder_4_images_a_password_a_fallback_literal_root = (refl, refl)

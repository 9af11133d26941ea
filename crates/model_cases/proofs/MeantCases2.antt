-- Cases of the model, written by tools/plan_cases.py: what a boot does as configurations say.
use Rattle.std.proofs.Common.{◌≡◌, ◌∷◌, [], codes, replicate, None, Some, refl}
use Rattle.lilo_model.specs.Boot.{Loaded, Refused}
use Rattle.lilo_model.specs.Bytes.{number16, number32, is_zero}
use Rattle.lilo_model.specs.Choice.{course_of}
use Rattle.lilo_model.specs.ConfLawful.{names_of_section, names_of_config}
use Rattle.lilo_model.specs.DefaultLine.{Empty, Once, Kept}
use Rattle.lilo_model.specs.Header.{setup_of, version_of, header_of, header_at, fit_checks, plan_memory, replaced_fields, patch, NoInitrd}
use Rattle.lilo_model.specs.LineWords.{words_of, meaning}
use Rattle.lilo_model.specs.Meant.{started, menu_decision, menu_boot, file_of, middle_text, target_of, menu_entries, menu_of, meant}
use Rattle.lilo_model.specs.MinixFind.{components, child, find_path, file_block, file_at}
use Rattle.lilo_model.specs.MinixFindNames.{child_path, path_of}
use Rattle.lilo_model.specs.Place.{command_line, written_by, place, kernel_fit}
use Rattle.lilo_model.specs.Reason.{Idle, Header}
use Rattle.model_cases.specs.Sparse.{hex, piece, file, typed}
use Rattle.model_cases.specs.PlanConfs.{conf_alias_fallback, conf_all_password, conf_empty_message, conf_literal, conf_lock, conf_low, conf_low_initrd, conf_row8}
use Rattle.model_cases.specs.PlanNames.{names_alias_fallback, names_all_password, names_empty_message, names_literal, names_lock, names_low, names_low_initrd, names_row8}
use Rattle.model_cases.specs.PlanVolumes.{devices_alias_fallback, devices_all_password, devices_empty_message, devices_literal, devices_lock, devices_low, devices_low_initrd, devices_row8}

-- a password for all
pub meant_a_password_for_all : (meant conf_all_password names_all_password devices_all_password Empty [] 16777216 ≡ record { outcome = Refused Idle; shown = (codes "LILO\nboot: \nPassword: \nboot: "); line = Some Empty; written = []; left = [] }) × (meant conf_all_password names_all_password devices_all_password Empty (typed (codes "\ntux\n")) 16777216 ≡ record { outcome = Loaded (record { real = record { address = 0x90000; size = 1024 }; protected = record { address = 0x100000; size = 5 }; initrd = (Some (record { address = 0xfff000; size = 700 })); line = record { address = 0x99800; size = 29 } }); shown = (codes "LILO\nboot: \nPassword: \nLoading linux\n"); line = Some Empty; written = (record { address = 0x90000; bytes = (file 1024 (piece 497 (hex 1 0x01) ∷ piece 510 (hex 10 0x55aa0000486472530602) ∷ piece 528 (hex 2 0x0281) ∷ piece 537 (hex 5 0xf0ff00bc02) ∷ piece 549 (hex 11 0x96000000980900ffffff37) ∷ piece 568 (hex 1 0xff) ∷ [])) } ∷ record { address = 0x100000; bytes = (file 5 (piece 0 (codes "HELLO") ∷ [])) } ∷ record { address = 0xfff000; bytes = (file 700 (piece 0 (replicate 700 165) ∷ [])) } ∷ record { address = 0x99800; bytes = (file 29 (piece 0 (codes "BOOT_IMAGE=linux ro root=301") ∷ [])) } ∷ []); left = [] })
unfolding number16 number32 is_zero components child find_path file_block file_at child_path path_of names_of_section names_of_config started menu_decision menu_boot file_of middle_text target_of menu_entries menu_of meant setup_of version_of header_of header_at fit_checks plan_memory replaced_fields patch command_line written_by place kernel_fit course_of words_of meaning
meant_a_password_for_all = (refl, refl)

-- an alias, a fallback, texts and a video mode
pub meant_an_alias_a_fallback_texts_and_a_video_mode : (meant conf_alias_fallback names_alias_fallback devices_alias_fallback Empty (typed (codes "l vga=3 y\n")) 16777216 ≡ record { outcome = Loaded (record { real = record { address = 0x90000; size = 1024 }; protected = record { address = 0x100000; size = 5 }; initrd = (Some (record { address = 0xfff000; size = 700 })); line = record { address = 0x99800; size = 35 } }); shown = (codes "LILO\nboot: l vga=3 y\nLoading l\n"); line = Some (Kept (codes "linux")); written = (record { address = 0x90000; bytes = (file 1024 (piece 497 (hex 1 0x01) ∷ piece 506 (hex 14 0x0300000055aa0000486472530602) ∷ piece 528 (hex 2 0x0281) ∷ piece 537 (hex 5 0xf0ff00bc02) ∷ piece 549 (hex 11 0x96000000980900ffffff37) ∷ piece 568 (hex 1 0xff) ∷ [])) } ∷ record { address = 0x100000; bytes = (file 5 (piece 0 (codes "HELLO") ∷ [])) } ∷ record { address = 0xfff000; bytes = (file 700 (piece 0 (replicate 700 165) ∷ [])) } ∷ record { address = 0x99800; bytes = (file 35 (piece 0 (codes "BOOT_IMAGE=l ro root=301 quiet x y") ∷ [])) } ∷ []); left = [] }) × (meant conf_alias_fallback names_alias_fallback devices_alias_fallback Empty [] 16777216 ≡ record { outcome = Loaded (record { real = record { address = 0x90000; size = 1024 }; protected = record { address = 0x100000; size = 5 }; initrd = (Some (record { address = 0xfff000; size = 700 })); line = record { address = 0x99800; size = 42 } }); shown = (codes "LILO\nboot: \nLoading linux\n"); line = Some (Kept (codes "linux")); written = (record { address = 0x90000; bytes = (file 1024 (piece 497 (hex 1 0x01) ∷ piece 506 (hex 14 0xfdff000055aa0000486472530602) ∷ piece 528 (hex 2 0x0281) ∷ piece 537 (hex 5 0xf0ff00bc02) ∷ piece 549 (hex 11 0x96000000980900ffffff37) ∷ piece 568 (hex 1 0xff) ∷ [])) } ∷ record { address = 0x100000; bytes = (file 5 (piece 0 (codes "HELLO") ∷ [])) } ∷ record { address = 0xfff000; bytes = (file 700 (piece 0 (replicate 700 165) ∷ [])) } ∷ record { address = 0x99800; bytes = (file 42 (piece 0 (codes "auto BOOT_IMAGE=linux ro root=301 quiet x") ∷ [])) } ∷ []); left = [] })
unfolding number16 number32 is_zero components child find_path file_block file_at child_path path_of names_of_section names_of_config started menu_decision menu_boot file_of middle_text target_of menu_entries menu_of meant setup_of version_of header_of header_at fit_checks plan_memory replaced_fields patch command_line written_by place kernel_fit course_of words_of meaning
meant_an_alias_a_fallback_texts_and_a_video_mode = (refl, refl)

-- a lock
pub meant_a_lock : (meant conf_lock names_lock devices_lock Empty (typed (codes "linux single\n")) 16777216 ≡ record { outcome = Loaded (record { real = record { address = 0x90000; size = 1024 }; protected = record { address = 0x100000; size = 5 }; initrd = (Some (record { address = 0xfff000; size = 700 })); line = record { address = 0x99800; size = 36 } }); shown = (codes "LILO\nboot: linux single\nLoading linux\n"); line = Some (Kept (codes "linux single")); written = (record { address = 0x90000; bytes = (file 1024 (piece 497 (hex 1 0x01) ∷ piece 510 (hex 10 0x55aa0000486472530602) ∷ piece 528 (hex 2 0x0281) ∷ piece 537 (hex 5 0xf0ff00bc02) ∷ piece 549 (hex 11 0x96000000980900ffffff37) ∷ piece 568 (hex 1 0xff) ∷ [])) } ∷ record { address = 0x100000; bytes = (file 5 (piece 0 (codes "HELLO") ∷ [])) } ∷ record { address = 0xfff000; bytes = (file 700 (piece 0 (replicate 700 165) ∷ [])) } ∷ record { address = 0x99800; bytes = (file 36 (piece 0 (codes "BOOT_IMAGE=linux ro root=301 single") ∷ [])) } ∷ []); left = [] }) × (meant conf_lock names_lock devices_lock (Kept (codes "linux single")) [] 16777216 ≡ record { outcome = Loaded (record { real = record { address = 0x90000; size = 1024 }; protected = record { address = 0x100000; size = 5 }; initrd = (Some (record { address = 0xfff000; size = 700 })); line = record { address = 0x99800; size = 41 } }); shown = (codes "LILO\nLoading linux\n"); line = Some (Kept (codes "linux single")); written = (record { address = 0x90000; bytes = (file 1024 (piece 497 (hex 1 0x01) ∷ piece 510 (hex 10 0x55aa0000486472530602) ∷ piece 528 (hex 2 0x0281) ∷ piece 537 (hex 5 0xf0ff00bc02) ∷ piece 549 (hex 11 0x96000000980900ffffff37) ∷ piece 568 (hex 1 0xff) ∷ [])) } ∷ record { address = 0x100000; bytes = (file 5 (piece 0 (codes "HELLO") ∷ [])) } ∷ record { address = 0xfff000; bytes = (file 700 (piece 0 (replicate 700 165) ∷ [])) } ∷ record { address = 0x99800; bytes = (file 41 (piece 0 (codes "auto BOOT_IMAGE=linux ro root=301 single") ∷ [])) } ∷ []); left = [] })
unfolding number16 number32 is_zero components child find_path file_block file_at child_path path_of names_of_section names_of_config started menu_decision menu_boot file_of middle_text target_of menu_entries menu_of meant setup_of version_of header_of header_at fit_checks plan_memory replaced_fields patch command_line written_by place kernel_fit course_of words_of meaning
meant_a_lock = (refl, refl)

-- a literal text and a message
pub meant_a_literal_text_and_a_message : (meant conf_literal names_literal devices_literal Empty (typed (hex 7 0x3f6c696e75780a)) 16777216 ≡ record { outcome = Loaded (record { real = record { address = 0x90000; size = 1024 }; protected = record { address = 0x100000; size = 5 }; initrd = (Some (record { address = 0xfff000; size = 700 })); line = record { address = 0x99800; size = 24 } }); shown = (codes "LILO\nHello\nthere\nboot: \nlinux\nboot: linux\nLoading linux\n"); line = Some Empty; written = (record { address = 0x90000; bytes = (file 1024 (piece 497 (hex 1 0x01) ∷ piece 510 (hex 10 0x55aa0000486472530602) ∷ piece 528 (hex 2 0x0281) ∷ piece 537 (hex 5 0xf0ff00bc02) ∷ piece 549 (hex 11 0x96000000980900ffffff37) ∷ piece 568 (hex 1 0xff) ∷ [])) } ∷ record { address = 0x100000; bytes = (file 5 (piece 0 (codes "HELLO") ∷ [])) } ∷ record { address = 0xfff000; bytes = (file 700 (piece 0 (replicate 700 165) ∷ [])) } ∷ record { address = 0x99800; bytes = (file 24 (piece 0 (codes "BOOT_IMAGE=linux single") ∷ [])) } ∷ []); left = [] }) × (meant conf_literal names_literal devices_literal (Once (codes "linux a vga=ext lock")) [] 16777216 ≡ record { outcome = Loaded (record { real = record { address = 0x90000; size = 1024 }; protected = record { address = 0x100000; size = 5 }; initrd = (Some (record { address = 0xfff000; size = 700 })); line = record { address = 0x99800; size = 31 } }); shown = (codes "LILO\nLoading linux\n"); line = Some (Kept (codes "linux a vga=ext")); written = (record { address = 0x90000; bytes = (file 1024 (piece 497 (hex 1 0x01) ∷ piece 506 (hex 14 0xfeff000055aa0000486472530602) ∷ piece 528 (hex 2 0x0281) ∷ piece 537 (hex 5 0xf0ff00bc02) ∷ piece 549 (hex 11 0x96000000980900ffffff37) ∷ piece 568 (hex 1 0xff) ∷ [])) } ∷ record { address = 0x100000; bytes = (file 5 (piece 0 (codes "HELLO") ∷ [])) } ∷ record { address = 0xfff000; bytes = (file 700 (piece 0 (replicate 700 165) ∷ [])) } ∷ record { address = 0x99800; bytes = (file 31 (piece 0 (codes "auto BOOT_IMAGE=linux single a") ∷ [])) } ∷ []); left = [] })
unfolding number16 number32 is_zero components child find_path file_block file_at child_path path_of names_of_section names_of_config started menu_decision menu_boot file_of middle_text target_of menu_entries menu_of meant setup_of version_of header_of header_at fit_checks plan_memory replaced_fields patch command_line written_by place kernel_fit course_of words_of meaning
meant_a_literal_text_and_a_message = (refl, refl)

-- an empty message
pub meant_an_empty_message : meant conf_empty_message names_empty_message devices_empty_message Empty [] 16777216 ≡ record { outcome = Loaded (record { real = record { address = 0x90000; size = 1024 }; protected = record { address = 0x100000; size = 5 }; initrd = (Some (record { address = 0xfff000; size = 700 })); line = record { address = 0x99800; size = 34 } }); shown = (codes "LILO\nboot: \nLoading linux\n"); line = Some Empty; written = (record { address = 0x90000; bytes = (file 1024 (piece 497 (hex 1 0x01) ∷ piece 510 (hex 10 0x55aa0000486472530602) ∷ piece 528 (hex 2 0x0281) ∷ piece 537 (hex 5 0xf0ff00bc02) ∷ piece 549 (hex 11 0x96000000980900ffffff37) ∷ piece 568 (hex 1 0xff) ∷ [])) } ∷ record { address = 0x100000; bytes = (file 5 (piece 0 (codes "HELLO") ∷ [])) } ∷ record { address = 0xfff000; bytes = (file 700 (piece 0 (replicate 700 165) ∷ [])) } ∷ record { address = 0x99800; bytes = (file 34 (piece 0 (codes "auto BOOT_IMAGE=linux ro root=301") ∷ [])) } ∷ []); left = [] }
unfolding number16 number32 is_zero components child find_path file_block file_at child_path path_of names_of_section names_of_config started menu_decision menu_boot file_of middle_text target_of menu_entries menu_of meant setup_of version_of header_of header_at fit_checks plan_memory replaced_fields patch command_line written_by place kernel_fit course_of words_of meaning
meant_an_empty_message = refl

-- a kernel before the protocol
pub meant_a_kernel_before_the_protocol : meant conf_low names_low devices_low Empty [] 16777216 ≡ record { outcome = Loaded (record { real = record { address = 0x90000; size = 1024 }; protected = record { address = 0x10000; size = 5 }; initrd = None; line = record { address = 0x99800; size = 34 } }); shown = (codes "LILO\nLoading linux\n"); line = Some Empty; written = (record { address = 0x90000; bytes = (file 1024 (piece 32 (hex 4 0x3fa30098) ∷ piece 497 (hex 1 0x01) ∷ piece 510 (hex 2 0x55aa) ∷ piece 556 (hex 4 0xffffff37) ∷ piece 568 (hex 1 0xff) ∷ [])) } ∷ record { address = 0x10000; bytes = (file 5 (piece 0 (codes "HELLO") ∷ [])) } ∷ record { address = 0x99800; bytes = (file 34 (piece 0 (codes "auto BOOT_IMAGE=linux ro root=301") ∷ [])) } ∷ []); left = [] }
unfolding number16 number32 is_zero components child find_path file_block file_at child_path path_of names_of_section names_of_config started menu_decision menu_boot file_of middle_text target_of menu_entries menu_of meant setup_of version_of header_of header_at fit_checks plan_memory replaced_fields patch command_line written_by place kernel_fit course_of words_of meaning
meant_a_kernel_before_the_protocol = refl

-- one with an initrd
pub meant_one_with_an_initrd : meant conf_low_initrd names_low_initrd devices_low_initrd Empty (typed (codes "\n")) 16777216 ≡ record { outcome = Refused (Header NoInitrd); shown = (codes "LILO\nboot: \nLoading linux\nError\n"); line = Some Empty; written = []; left = [] }
unfolding number16 number32 is_zero components child find_path file_block file_at child_path path_of names_of_section names_of_config started menu_decision menu_boot file_of middle_text target_of menu_entries menu_of meant setup_of version_of header_of header_at fit_checks plan_memory replaced_fields patch command_line written_by place kernel_fit course_of words_of meaning
meant_one_with_an_initrd = refl

-- no number of setup sectors
pub meant_no_number_of_setup_sectors : meant conf_row8 names_row8 devices_row8 Empty [] 16777216 ≡ record { outcome = Loaded (record { real = record { address = 0x90000; size = 2560 }; protected = record { address = 0x100000; size = 5 }; initrd = None; line = record { address = 0x99800; size = 34 } }); shown = (codes "LILO\nLoading linux\n"); line = Some Empty; written = (record { address = 0x90000; bytes = (file 2560 (piece 510 (hex 10 0x55aa0000486472530602) ∷ piece 528 (hex 2 0x0281) ∷ piece 549 (hex 11 0x96000000980900ffffff37) ∷ piece 568 (hex 1 0xff) ∷ [])) } ∷ record { address = 0x100000; bytes = (file 5 (piece 0 (codes "PMODE") ∷ [])) } ∷ record { address = 0x99800; bytes = (file 34 (piece 0 (codes "auto BOOT_IMAGE=linux ro root=301") ∷ [])) } ∷ []); left = [] }
unfolding number16 number32 is_zero components child find_path file_block file_at child_path path_of names_of_section names_of_config started menu_decision menu_boot file_of middle_text target_of menu_entries menu_of meant setup_of version_of header_of header_at fit_checks plan_memory replaced_fields patch command_line written_by place kernel_fit course_of words_of meaning
meant_no_number_of_setup_sectors = refl

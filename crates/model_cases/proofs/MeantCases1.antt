-- Cases of the model, written by tools/plan_cases.py: what a boot does as configurations say.
use Rattle.std.proofs.Common.{◌≡◌, ◌∷◌, ◌++◌, [], codes, replicate, Some, refl}
use Rattle.lilo_model.specs.Boot.{Loaded, Refused}
use Rattle.lilo_model.specs.Bytes.{number16, number32, is_zero}
use Rattle.lilo_model.specs.Choice.{course_of}
use Rattle.lilo_model.specs.ConfLawful.{names_of_section, names_of_config}
use Rattle.lilo_model.specs.DefaultLine.{Empty, Once, Kept}
use Rattle.lilo_model.specs.Header.{setup_of, version_of, header_of, header_at, fit_checks, plan_memory, replaced_fields, patch, NoRoom}
use Rattle.lilo_model.specs.LineWords.{words_of, meaning}
use Rattle.lilo_model.specs.Meant.{started, menu_decision, menu_boot, file_of, middle_text, target_of, menu_entries, menu_of, meant}
use Rattle.lilo_model.specs.MinixFind.{components, child, find_path, file_block, file_at}
use Rattle.lilo_model.specs.MinixFindNames.{child_path, path_of}
use Rattle.lilo_model.specs.Place.{command_line, written_by, place, kernel_fit}
use Rattle.lilo_model.specs.Reason.{Idle, Header}
use Rattle.model_cases.specs.Sparse.{hex, piece, file, typed, waited}
use Rattle.model_cases.specs.PlanConfs.{conf_chs, conf_compact, conf_delayed, conf_hole, conf_linear, conf_no_prompt, conf_password, conf_sample}
use Rattle.model_cases.specs.PlanNames.{names_chs, names_compact, names_delayed, names_hole, names_linear, names_no_prompt, names_password, names_sample}
use Rattle.model_cases.specs.PlanVolumes.{devices_chs, devices_compact, devices_delayed, devices_hole, devices_linear, devices_no_prompt, devices_password, devices_sample}

-- the sample configuration
pub meant_the_sample_configuration : (meant conf_sample names_sample devices_sample Empty [] 16777216 ≡ record { outcome = Loaded (record { real = record { address = 0x90000; size = 1024 }; protected = record { address = 0x100000; size = 5 }; initrd = (Some (record { address = 0xfff000; size = 700 })); line = record { address = 0x99800; size = 34 } }); shown = (codes "LILO\nboot: \nLoading linux\n"); line = Some Empty; written = (record { address = 0x90000; bytes = (file 1024 (piece 497 (hex 1 0x01) ∷ piece 510 (hex 10 0x55aa0000486472530602) ∷ piece 528 (hex 2 0x0281) ∷ piece 537 (hex 5 0xf0ff00bc02) ∷ piece 549 (hex 11 0x96000000980900ffffff37) ∷ piece 568 (hex 1 0xff) ∷ [])) } ∷ record { address = 0x100000; bytes = (file 5 (piece 0 (codes "HELLO") ∷ [])) } ∷ record { address = 0xfff000; bytes = (file 700 (piece 0 (replicate 700 165) ∷ [])) } ∷ record { address = 0x99800; bytes = (file 34 (piece 0 (codes "auto BOOT_IMAGE=linux ro root=301") ∷ [])) } ∷ []); left = [] }) × (meant conf_sample names_sample devices_sample Empty (typed (codes "linux single\n")) 16777216 ≡ record { outcome = Loaded (record { real = record { address = 0x90000; size = 1024 }; protected = record { address = 0x100000; size = 5 }; initrd = (Some (record { address = 0xfff000; size = 700 })); line = record { address = 0x99800; size = 36 } }); shown = (codes "LILO\nboot: linux single\nLoading linux\n"); line = Some Empty; written = (record { address = 0x90000; bytes = (file 1024 (piece 497 (hex 1 0x01) ∷ piece 510 (hex 10 0x55aa0000486472530602) ∷ piece 528 (hex 2 0x0281) ∷ piece 537 (hex 5 0xf0ff00bc02) ∷ piece 549 (hex 11 0x96000000980900ffffff37) ∷ piece 568 (hex 1 0xff) ∷ [])) } ∷ record { address = 0x100000; bytes = (file 5 (piece 0 (codes "HELLO") ∷ [])) } ∷ record { address = 0xfff000; bytes = (file 700 (piece 0 (replicate 700 165) ∷ [])) } ∷ record { address = 0x99800; bytes = (file 36 (piece 0 (codes "BOOT_IMAGE=linux ro root=301 single") ∷ [])) } ∷ []); left = [] }) × (meant conf_sample names_sample devices_sample Empty (typed (hex 8 0x09206c696e75780a)) 16777216 ≡ record { outcome = Loaded (record { real = record { address = 0x90000; size = 1024 }; protected = record { address = 0x100000; size = 5 }; initrd = (Some (record { address = 0xfff000; size = 700 })); line = record { address = 0x99800; size = 29 } }); shown = (codes "LILO\nboot: \nlinux\nboot:  linux\nLoading linux\n"); line = Some Empty; written = (record { address = 0x90000; bytes = (file 1024 (piece 497 (hex 1 0x01) ∷ piece 510 (hex 10 0x55aa0000486472530602) ∷ piece 528 (hex 2 0x0281) ∷ piece 537 (hex 5 0xf0ff00bc02) ∷ piece 549 (hex 11 0x96000000980900ffffff37) ∷ piece 568 (hex 1 0xff) ∷ [])) } ∷ record { address = 0x100000; bytes = (file 5 (piece 0 (codes "HELLO") ∷ [])) } ∷ record { address = 0xfff000; bytes = (file 700 (piece 0 (replicate 700 165) ∷ [])) } ∷ record { address = 0x99800; bytes = (file 29 (piece 0 (codes "BOOT_IMAGE=linux ro root=301") ∷ [])) } ∷ []); left = [] }) × (meant conf_sample names_sample devices_sample Empty (typed (codes "none\nlinux vga=ask quiet\n")) 16777216 ≡ record { outcome = Loaded (record { real = record { address = 0x90000; size = 1024 }; protected = record { address = 0x100000; size = 5 }; initrd = (Some (record { address = 0xfff000; size = 700 })); line = record { address = 0x99800; size = 35 } }); shown = (codes "LILO\nboot: none\nNo such image.\nboot: linux vga=ask quiet\nLoading linux\n"); line = Some Empty; written = (record { address = 0x90000; bytes = (file 1024 (piece 497 (hex 1 0x01) ∷ piece 506 (hex 14 0xfdff000055aa0000486472530602) ∷ piece 528 (hex 2 0x0281) ∷ piece 537 (hex 5 0xf0ff00bc02) ∷ piece 549 (hex 11 0x96000000980900ffffff37) ∷ piece 568 (hex 1 0xff) ∷ [])) } ∷ record { address = 0x100000; bytes = (file 5 (piece 0 (codes "HELLO") ∷ [])) } ∷ record { address = 0xfff000; bytes = (file 700 (piece 0 (replicate 700 165) ∷ [])) } ∷ record { address = 0x99800; bytes = (file 35 (piece 0 (codes "BOOT_IMAGE=linux ro root=301 quiet") ∷ [])) } ∷ []); left = [] }) × (meant conf_sample names_sample devices_sample Empty (typed (codes "lin")) 16777216 ≡ record { outcome = Refused Idle; shown = (codes "LILO\nboot: lin"); line = Some Empty; written = []; left = [] }) × (meant conf_sample names_sample devices_sample Empty [] 1048576 ≡ record { outcome = Refused (Header (NoRoom 1048581 1048576)); shown = (codes "LILO\nboot: \nLoading linux\nError\n"); line = Some Empty; written = []; left = [] }) × (meant conf_sample names_sample devices_sample Empty (waited 50 ++ typed (codes "x")) 16777216 ≡ record { outcome = Loaded (record { real = record { address = 0x90000; size = 1024 }; protected = record { address = 0x100000; size = 5 }; initrd = (Some (record { address = 0xfff000; size = 700 })); line = record { address = 0x99800; size = 34 } }); shown = (codes "LILO\nboot: \nLoading linux\n"); line = Some Empty; written = (record { address = 0x90000; bytes = (file 1024 (piece 497 (hex 1 0x01) ∷ piece 510 (hex 10 0x55aa0000486472530602) ∷ piece 528 (hex 2 0x0281) ∷ piece 537 (hex 5 0xf0ff00bc02) ∷ piece 549 (hex 11 0x96000000980900ffffff37) ∷ piece 568 (hex 1 0xff) ∷ [])) } ∷ record { address = 0x100000; bytes = (file 5 (piece 0 (codes "HELLO") ∷ [])) } ∷ record { address = 0xfff000; bytes = (file 700 (piece 0 (replicate 700 165) ∷ [])) } ∷ record { address = 0x99800; bytes = (file 34 (piece 0 (codes "auto BOOT_IMAGE=linux ro root=301") ∷ [])) } ∷ []); left = (typed (codes "x")) }) × (meant conf_sample names_sample devices_sample (Kept (codes "linux")) (waited 3 ++ typed (hex 2 0x150a)) 16777216 ≡ record { outcome = Loaded (record { real = record { address = 0x90000; size = 1024 }; protected = record { address = 0x100000; size = 5 }; initrd = (Some (record { address = 0xfff000; size = 700 })); line = record { address = 0x99800; size = 34 } }); shown = (codes "LILO\nLoading linux\n"); line = Some (Kept (codes "linux")); written = (record { address = 0x90000; bytes = (file 1024 (piece 497 (hex 1 0x01) ∷ piece 510 (hex 10 0x55aa0000486472530602) ∷ piece 528 (hex 2 0x0281) ∷ piece 537 (hex 5 0xf0ff00bc02) ∷ piece 549 (hex 11 0x96000000980900ffffff37) ∷ piece 568 (hex 1 0xff) ∷ [])) } ∷ record { address = 0x100000; bytes = (file 5 (piece 0 (codes "HELLO") ∷ [])) } ∷ record { address = 0xfff000; bytes = (file 700 (piece 0 (replicate 700 165) ∷ [])) } ∷ record { address = 0x99800; bytes = (file 34 (piece 0 (codes "auto BOOT_IMAGE=linux ro root=301") ∷ [])) } ∷ []); left = (waited 3 ++ typed (hex 2 0x150a)) })
unfolding number16 number32 is_zero components child find_path file_block file_at child_path path_of names_of_section names_of_config started menu_decision menu_boot file_of middle_text target_of menu_entries menu_of meant setup_of version_of header_of header_at fit_checks plan_memory replaced_fields patch command_line written_by place kernel_fit course_of words_of meaning
meant_the_sample_configuration = (refl, refl, refl, refl, refl, refl, refl, refl)

-- no prompt, no timeout
pub meant_no_prompt_no_timeout : (meant conf_no_prompt names_no_prompt devices_no_prompt Empty [] 16777216 ≡ record { outcome = Loaded (record { real = record { address = 0x90000; size = 1024 }; protected = record { address = 0x100000; size = 5 }; initrd = (Some (record { address = 0xfff000; size = 700 })); line = record { address = 0x99800; size = 34 } }); shown = (codes "LILO\nLoading linux\n"); line = Some Empty; written = (record { address = 0x90000; bytes = (file 1024 (piece 497 (hex 1 0x01) ∷ piece 510 (hex 10 0x55aa0000486472530602) ∷ piece 528 (hex 2 0x0281) ∷ piece 537 (hex 5 0xf0ff00bc02) ∷ piece 549 (hex 11 0x96000000980900ffffff37) ∷ piece 568 (hex 1 0xff) ∷ [])) } ∷ record { address = 0x100000; bytes = (file 5 (piece 0 (codes "HELLO") ∷ [])) } ∷ record { address = 0xfff000; bytes = (file 700 (piece 0 (replicate 700 165) ∷ [])) } ∷ record { address = 0x99800; bytes = (file 34 (piece 0 (codes "auto BOOT_IMAGE=linux ro root=301") ∷ [])) } ∷ []); left = [] }) × (meant conf_no_prompt names_no_prompt devices_no_prompt Empty (typed (codes "x")) 16777216 ≡ record { outcome = Loaded (record { real = record { address = 0x90000; size = 1024 }; protected = record { address = 0x100000; size = 5 }; initrd = (Some (record { address = 0xfff000; size = 700 })); line = record { address = 0x99800; size = 34 } }); shown = (codes "LILO\nLoading linux\n"); line = Some Empty; written = (record { address = 0x90000; bytes = (file 1024 (piece 497 (hex 1 0x01) ∷ piece 510 (hex 10 0x55aa0000486472530602) ∷ piece 528 (hex 2 0x0281) ∷ piece 537 (hex 5 0xf0ff00bc02) ∷ piece 549 (hex 11 0x96000000980900ffffff37) ∷ piece 568 (hex 1 0xff) ∷ [])) } ∷ record { address = 0x100000; bytes = (file 5 (piece 0 (codes "HELLO") ∷ [])) } ∷ record { address = 0xfff000; bytes = (file 700 (piece 0 (replicate 700 165) ∷ [])) } ∷ record { address = 0x99800; bytes = (file 34 (piece 0 (codes "auto BOOT_IMAGE=linux ro root=301") ∷ [])) } ∷ []); left = (typed (codes "x")) }) × (meant conf_no_prompt names_no_prompt devices_no_prompt (Once (codes "none")) [] 16777216 ≡ record { outcome = Loaded (record { real = record { address = 0x90000; size = 1024 }; protected = record { address = 0x100000; size = 5 }; initrd = (Some (record { address = 0xfff000; size = 700 })); line = record { address = 0x99800; size = 34 } }); shown = (codes "LILO\nLoading linux\n"); line = Some Empty; written = (record { address = 0x90000; bytes = (file 1024 (piece 497 (hex 1 0x01) ∷ piece 510 (hex 10 0x55aa0000486472530602) ∷ piece 528 (hex 2 0x0281) ∷ piece 537 (hex 5 0xf0ff00bc02) ∷ piece 549 (hex 11 0x96000000980900ffffff37) ∷ piece 568 (hex 1 0xff) ∷ [])) } ∷ record { address = 0x100000; bytes = (file 5 (piece 0 (codes "HELLO") ∷ [])) } ∷ record { address = 0xfff000; bytes = (file 700 (piece 0 (replicate 700 165) ∷ [])) } ∷ record { address = 0x99800; bytes = (file 34 (piece 0 (codes "auto BOOT_IMAGE=linux ro root=301") ∷ [])) } ∷ []); left = [] })
unfolding number16 number32 is_zero components child find_path file_block file_at child_path path_of names_of_section names_of_config started menu_decision menu_boot file_of middle_text target_of menu_entries menu_of meant setup_of version_of header_of header_at fit_checks plan_memory replaced_fields patch command_line written_by place kernel_fit course_of words_of meaning
meant_no_prompt_no_timeout = (refl, refl, refl)

-- a delay
pub meant_a_delay : (meant conf_delayed names_delayed devices_delayed Empty (waited 2 ++ typed (codes "x\n")) 16777216 ≡ record { outcome = Refused Idle; shown = (codes "LILO\nboot: x\nNo such image.\nboot: "); line = Some Empty; written = []; left = [] }) × (meant conf_delayed names_delayed devices_delayed Empty (waited 3 ++ typed (codes "x")) 16777216 ≡ record { outcome = Loaded (record { real = record { address = 0x90000; size = 1024 }; protected = record { address = 0x100000; size = 5 }; initrd = (Some (record { address = 0xfff000; size = 700 })); line = record { address = 0x99800; size = 34 } }); shown = (codes "LILO\nLoading linux\n"); line = Some Empty; written = (record { address = 0x90000; bytes = (file 1024 (piece 497 (hex 1 0x01) ∷ piece 510 (hex 10 0x55aa0000486472530602) ∷ piece 528 (hex 2 0x0281) ∷ piece 537 (hex 5 0xf0ff00bc02) ∷ piece 549 (hex 11 0x96000000980900ffffff37) ∷ piece 568 (hex 1 0xff) ∷ [])) } ∷ record { address = 0x100000; bytes = (file 5 (piece 0 (codes "HELLO") ∷ [])) } ∷ record { address = 0xfff000; bytes = (file 700 (piece 0 (replicate 700 165) ∷ [])) } ∷ record { address = 0x99800; bytes = (file 34 (piece 0 (codes "auto BOOT_IMAGE=linux ro root=301") ∷ [])) } ∷ []); left = (typed (codes "x")) })
unfolding number16 number32 is_zero components child find_path file_block file_at child_path path_of names_of_section names_of_config started menu_decision menu_boot file_of middle_text target_of menu_entries menu_of meant setup_of version_of header_of header_at fit_checks plan_memory replaced_fields patch command_line written_by place kernel_fit course_of words_of meaning
meant_a_delay = (refl, refl)

-- compact
pub meant_compact : meant conf_compact names_compact devices_compact Empty [] 16777216 ≡ record { outcome = Loaded (record { real = record { address = 0x90000; size = 1024 }; protected = record { address = 0x100000; size = 5 }; initrd = (Some (record { address = 0xfff000; size = 700 })); line = record { address = 0x99800; size = 34 } }); shown = (codes "LILO\nboot: \nLoading linux\n"); line = Some Empty; written = (record { address = 0x90000; bytes = (file 1024 (piece 497 (hex 1 0x01) ∷ piece 510 (hex 10 0x55aa0000486472530602) ∷ piece 528 (hex 2 0x0281) ∷ piece 537 (hex 5 0xf0ff00bc02) ∷ piece 549 (hex 11 0x96000000980900ffffff37) ∷ piece 568 (hex 1 0xff) ∷ [])) } ∷ record { address = 0x100000; bytes = (file 5 (piece 0 (codes "HELLO") ∷ [])) } ∷ record { address = 0xfff000; bytes = (file 700 (piece 0 (replicate 700 165) ∷ [])) } ∷ record { address = 0x99800; bytes = (file 34 (piece 0 (codes "auto BOOT_IMAGE=linux ro root=301") ∷ [])) } ∷ []); left = [] }
unfolding number16 number32 is_zero components child find_path file_block file_at child_path path_of names_of_section names_of_config started menu_decision menu_boot file_of middle_text target_of menu_entries menu_of meant setup_of version_of header_of header_at fit_checks plan_memory replaced_fields patch command_line written_by place kernel_fit course_of words_of meaning
meant_compact = refl

-- addresses by cylinder, head and sector
pub meant_addresses_by_cylinder_head_and_sector : meant conf_chs names_chs devices_chs Empty [] 16777216 ≡ record { outcome = Loaded (record { real = record { address = 0x90000; size = 1024 }; protected = record { address = 0x100000; size = 5 }; initrd = (Some (record { address = 0xfff000; size = 700 })); line = record { address = 0x99800; size = 34 } }); shown = (codes "LILO\nboot: \nLoading linux\n"); line = Some Empty; written = (record { address = 0x90000; bytes = (file 1024 (piece 497 (hex 1 0x01) ∷ piece 510 (hex 10 0x55aa0000486472530602) ∷ piece 528 (hex 2 0x0281) ∷ piece 537 (hex 5 0xf0ff00bc02) ∷ piece 549 (hex 11 0x96000000980900ffffff37) ∷ piece 568 (hex 1 0xff) ∷ [])) } ∷ record { address = 0x100000; bytes = (file 5 (piece 0 (codes "HELLO") ∷ [])) } ∷ record { address = 0xfff000; bytes = (file 700 (piece 0 (replicate 700 165) ∷ [])) } ∷ record { address = 0x99800; bytes = (file 34 (piece 0 (codes "auto BOOT_IMAGE=linux ro root=301") ∷ [])) } ∷ []); left = [] }
unfolding number16 number32 is_zero components child find_path file_block file_at child_path path_of names_of_section names_of_config started menu_decision menu_boot file_of middle_text target_of menu_entries menu_of meant setup_of version_of header_of header_at fit_checks plan_memory replaced_fields patch command_line written_by place kernel_fit course_of words_of meaning
meant_addresses_by_cylinder_head_and_sector = refl

-- linear addresses
pub meant_linear_addresses : meant conf_linear names_linear devices_linear Empty (typed (codes "\n")) 16777216 ≡ record { outcome = Loaded (record { real = record { address = 0x90000; size = 1024 }; protected = record { address = 0x100000; size = 5 }; initrd = (Some (record { address = 0xfff000; size = 700 })); line = record { address = 0x99800; size = 29 } }); shown = (codes "LILO\nboot: \nLoading linux\n"); line = Some Empty; written = (record { address = 0x90000; bytes = (file 1024 (piece 497 (hex 1 0x01) ∷ piece 510 (hex 10 0x55aa0000486472530602) ∷ piece 528 (hex 2 0x0281) ∷ piece 537 (hex 5 0xf0ff00bc02) ∷ piece 549 (hex 11 0x96000000980900ffffff37) ∷ piece 568 (hex 1 0xff) ∷ [])) } ∷ record { address = 0x100000; bytes = (file 5 (piece 0 (codes "HELLO") ∷ [])) } ∷ record { address = 0xfff000; bytes = (file 700 (piece 0 (replicate 700 165) ∷ [])) } ∷ record { address = 0x99800; bytes = (file 29 (piece 0 (codes "BOOT_IMAGE=linux ro root=301") ∷ [])) } ∷ []); left = [] }
unfolding number16 number32 is_zero components child find_path file_block file_at child_path path_of names_of_section names_of_config started menu_decision menu_boot file_of middle_text target_of menu_entries menu_of meant setup_of version_of header_of header_at fit_checks plan_memory replaced_fields patch command_line written_by place kernel_fit course_of words_of meaning
meant_linear_addresses = refl

-- a hole in a kernel
pub meant_a_hole_in_a_kernel : meant conf_hole names_hole devices_hole Empty [] 16777216 ≡ record { outcome = Loaded (record { real = record { address = 0x90000; size = 1024 }; protected = record { address = 0x100000; size = 3077 }; initrd = (Some (record { address = 0xfff000; size = 700 })); line = record { address = 0x99800; size = 34 } }); shown = (codes "LILO\nboot: \nLoading linux\n"); line = Some Empty; written = (record { address = 0x90000; bytes = (file 1024 (piece 497 (hex 1 0x01) ∷ piece 510 (hex 10 0x55aa0000486472530602) ∷ piece 528 (hex 2 0x0281) ∷ piece 537 (hex 5 0xf0ff00bc02) ∷ piece 549 (hex 11 0x96000000980900ffffff37) ∷ piece 568 (hex 1 0xff) ∷ [])) } ∷ record { address = 0x100000; bytes = (file 3077 (piece 0 (replicate 1024 7) ∷ piece 2048 (replicate 1029 7) ∷ [])) } ∷ record { address = 0xfff000; bytes = (file 700 (piece 0 (replicate 700 165) ∷ [])) } ∷ record { address = 0x99800; bytes = (file 34 (piece 0 (codes "auto BOOT_IMAGE=linux ro root=301") ∷ [])) } ∷ []); left = [] }
unfolding number16 number32 is_zero components child find_path file_block file_at child_path path_of names_of_section names_of_config started menu_decision menu_boot file_of middle_text target_of menu_entries menu_of meant setup_of version_of header_of header_at fit_checks plan_memory replaced_fields patch command_line written_by place kernel_fit course_of words_of meaning
meant_a_hole_in_a_kernel = refl

-- a restricted password
pub meant_a_restricted_password : (meant conf_password names_password devices_password Empty (typed (codes "linux\n")) 16777216 ≡ record { outcome = Loaded (record { real = record { address = 0x90000; size = 1024 }; protected = record { address = 0x100000; size = 5 }; initrd = (Some (record { address = 0xfff000; size = 700 })); line = record { address = 0x99800; size = 29 } }); shown = (codes "LILO\nboot: linux\nLoading linux\n"); line = Some Empty; written = (record { address = 0x90000; bytes = (file 1024 (piece 497 (hex 1 0x01) ∷ piece 510 (hex 10 0x55aa0000486472530602) ∷ piece 528 (hex 2 0x0281) ∷ piece 537 (hex 5 0xf0ff00bc02) ∷ piece 549 (hex 11 0x96000000980900ffffff37) ∷ piece 568 (hex 1 0xff) ∷ [])) } ∷ record { address = 0x100000; bytes = (file 5 (piece 0 (codes "HELLO") ∷ [])) } ∷ record { address = 0xfff000; bytes = (file 700 (piece 0 (replicate 700 165) ∷ [])) } ∷ record { address = 0x99800; bytes = (file 29 (piece 0 (codes "BOOT_IMAGE=linux ro root=301") ∷ [])) } ∷ []); left = [] }) × (meant conf_password names_password devices_password Empty (typed (codes "linux single\ntux\n")) 16777216 ≡ record { outcome = Loaded (record { real = record { address = 0x90000; size = 1024 }; protected = record { address = 0x100000; size = 5 }; initrd = (Some (record { address = 0xfff000; size = 700 })); line = record { address = 0x99800; size = 36 } }); shown = (codes "LILO\nboot: linux single\nPassword: \nLoading linux\n"); line = Some Empty; written = (record { address = 0x90000; bytes = (file 1024 (piece 497 (hex 1 0x01) ∷ piece 510 (hex 10 0x55aa0000486472530602) ∷ piece 528 (hex 2 0x0281) ∷ piece 537 (hex 5 0xf0ff00bc02) ∷ piece 549 (hex 11 0x96000000980900ffffff37) ∷ piece 568 (hex 1 0xff) ∷ [])) } ∷ record { address = 0x100000; bytes = (file 5 (piece 0 (codes "HELLO") ∷ [])) } ∷ record { address = 0xfff000; bytes = (file 700 (piece 0 (replicate 700 165) ∷ [])) } ∷ record { address = 0x99800; bytes = (file 36 (piece 0 (codes "BOOT_IMAGE=linux ro root=301 single") ∷ [])) } ∷ []); left = [] }) × (meant conf_password names_password devices_password Empty (typed (codes "linux single\nabc\n")) 16777216 ≡ record { outcome = Refused Idle; shown = (codes "LILO\nboot: linux single\nPassword: \nSorry.\nboot: "); line = Some Empty; written = []; left = [] }) × (meant conf_password names_password devices_password Empty (typed (codes "linux single\n")) 16777216 ≡ record { outcome = Refused Idle; shown = (codes "LILO\nboot: linux single\nPassword: \nboot: "); line = Some Empty; written = []; left = [] })
unfolding number16 number32 is_zero components child find_path file_block file_at child_path path_of names_of_section names_of_config started menu_decision menu_boot file_of middle_text target_of menu_entries menu_of meant setup_of version_of header_of header_at fit_checks plan_memory replaced_fields patch command_line written_by place kernel_fit course_of words_of meaning
meant_a_restricted_password = (refl, refl, refl, refl)

-- Cases of the model, written by tools/plan_cases.py: what a boot does as configurations say.
use Rattle.std.proofs.Common.{◌≡◌, ◌∷◌, [], codes, replicate, None, Some, refl}
use Rattle.lilo_model.specs.Boot.{Loaded, Handed, Refused}
use Rattle.lilo_model.specs.Bytes.{number16, number32, is_zero}
use Rattle.lilo_model.specs.Choice.{course_of}
use Rattle.lilo_model.specs.ConfLawful.{names_of_section, names_of_config}
use Rattle.lilo_model.specs.DefaultLine.{Empty, Once, Kept}
use Rattle.lilo_model.specs.Header.{setup_of, version_of, header_of, header_at, fit_checks, plan_memory, replaced_fields, patch}
use Rattle.lilo_model.specs.LineWords.{words_of, meaning}
use Rattle.lilo_model.specs.Meant.{started, menu_decision, menu_boot, file_of, middle_text, target_of, menu_entries, menu_of, meant}
use Rattle.lilo_model.specs.MinixFind.{components, child, find_path, file_block, file_at}
use Rattle.lilo_model.specs.MinixFindNames.{child_path, path_of}
use Rattle.lilo_model.specs.Place.{command_line, written_by, place, kernel_fit}
use Rattle.lilo_model.specs.Reason.{Idle}
use Rattle.model_cases.specs.Sparse.{hex, piece, file, typed}
use Rattle.model_cases.specs.PlanConfs.{conf_full, conf_link, conf_optional, conf_other, conf_own_table, conf_v1_short, conf_v2_short, conf_whole}
use Rattle.model_cases.specs.PlanNames.{names_full, names_link, names_optional, names_other, names_own_table, names_v1_short, names_v2_short, names_whole}
use Rattle.model_cases.specs.PlanVolumes.{devices_full, devices_link, devices_optional, devices_other, devices_own_table, devices_v1_short, devices_v2_short, devices_whole}

-- optional sections
pub meant_optional_sections : (meant conf_optional names_optional devices_optional Empty (typed (codes "old\n")) 16777216 ≡ record { outcome = Loaded (record { real = record { address = 0x90000; size = 1024 }; protected = record { address = 0x100000; size = 576 }; initrd = None; line = record { address = 0x99800; size = 15 } }); shown = (codes "LILO\nboot: old\nLoading old\n"); line = Some Empty; written = (record { address = 0x90000; bytes = (file 1024 (piece 497 (hex 1 0x01) ∷ piece 510 (hex 10 0x55aa0000486472530602) ∷ piece 528 (hex 2 0x0281) ∷ piece 549 (hex 11 0x96000000980900ffffff37) ∷ piece 568 (hex 1 0xff) ∷ [])) } ∷ record { address = 0x100000; bytes = (file 576 (piece 0 (replicate 576 5) ∷ [])) } ∷ record { address = 0x99800; bytes = (file 15 (piece 0 (codes "BOOT_IMAGE=old") ∷ [])) } ∷ []); left = [] }) × (meant conf_optional names_optional devices_optional Empty (typed (codes "gone\n")) 16777216 ≡ record { outcome = Refused Idle; shown = (codes "LILO\nboot: gone\nNo such image.\nboot: "); line = Some Empty; written = []; left = [] }) × (meant conf_optional names_optional devices_optional (Once (codes "old")) [] 16777216 ≡ record { outcome = Loaded (record { real = record { address = 0x90000; size = 1024 }; protected = record { address = 0x100000; size = 576 }; initrd = None; line = record { address = 0x99800; size = 20 } }); shown = (codes "LILO\nLoading old\n"); line = Some Empty; written = (record { address = 0x90000; bytes = (file 1024 (piece 497 (hex 1 0x01) ∷ piece 510 (hex 10 0x55aa0000486472530602) ∷ piece 528 (hex 2 0x0281) ∷ piece 549 (hex 11 0x96000000980900ffffff37) ∷ piece 568 (hex 1 0xff) ∷ [])) } ∷ record { address = 0x100000; bytes = (file 576 (piece 0 (replicate 576 5) ∷ [])) } ∷ record { address = 0x99800; bytes = (file 20 (piece 0 (codes "auto BOOT_IMAGE=old") ∷ [])) } ∷ []); left = [] })
unfolding number16 number32 is_zero components child find_path file_block file_at child_path path_of names_of_section names_of_config started menu_decision menu_boot file_of middle_text target_of menu_entries menu_of meant setup_of version_of header_of header_at fit_checks plan_memory replaced_fields patch command_line written_by place kernel_fit course_of words_of meaning
meant_optional_sections = (refl, refl, refl)

-- two other systems
pub meant_two_other_systems : (meant conf_other names_other devices_other Empty (typed (codes "dos\n")) 16777216 ≡ record { outcome = Handed; shown = (codes "LILO\nboot: dos\nLoading dos\n"); line = Some Empty; written = (record { address = 0x7be; bytes = (file 64 (piece 0 (hex 14 0x80010203060506073f000000e803) ∷ [])) } ∷ record { address = 0x7c00; bytes = (file 512 (piece 3 (codes "DOS") ∷ piece 446 (hex 14 0x80010203060506073f000000e803) ∷ piece 510 (hex 2 0x55aa) ∷ [])) } ∷ []); left = [] }) × (meant conf_other names_other devices_other Empty (typed (codes "w\nx\n")) 16777216 ≡ record { outcome = Handed; shown = (codes "LILO\nboot: w\nPassword: \nLoading w\n"); line = Some Empty; written = (record { address = 0x7c00; bytes = (file 512 (piece 3 (codes "WIN") ∷ piece 510 (hex 2 0x55aa) ∷ [])) } ∷ []); left = [] }) × (meant conf_other names_other devices_other Empty (typed (codes "hdb1\n")) 16777216 ≡ record { outcome = Refused Idle; shown = (codes "LILO\nboot: hdb1\nPassword: \nboot: "); line = Some Empty; written = []; left = [] }) × (meant conf_other names_other devices_other (Kept (codes "dos")) [] 16777216 ≡ record { outcome = Handed; shown = (codes "LILO\nLoading dos\n"); line = Some (Kept (codes "dos")); written = (record { address = 0x7be; bytes = (file 64 (piece 0 (hex 14 0x80010203060506073f000000e803) ∷ [])) } ∷ record { address = 0x7c00; bytes = (file 512 (piece 3 (codes "DOS") ∷ piece 446 (hex 14 0x80010203060506073f000000e803) ∷ piece 510 (hex 2 0x55aa) ∷ [])) } ∷ []); left = [] })
unfolding number16 number32 is_zero components child find_path file_block file_at child_path path_of names_of_section names_of_config started menu_decision menu_boot file_of middle_text target_of menu_entries menu_of meant setup_of version_of header_of header_at fit_checks plan_memory replaced_fields patch command_line written_by place kernel_fit course_of words_of meaning
meant_two_other_systems = (refl, refl, refl, refl)

-- the table of the boot device
pub meant_the_table_of_the_boot_device : meant conf_own_table names_own_table devices_own_table Empty (typed (codes "win\n")) 16777216 ≡ record { outcome = Handed; shown = (codes "LILO\nboot: win\nLoading win\n"); line = Some Empty; written = (record { address = 0x7be; bytes = (file 64 (piece 4 (hex 10 0x8100000040000000c00f) ∷ [])) } ∷ record { address = 0x7c00; bytes = (file 512 (piece 3 (codes "WIN") ∷ piece 510 (hex 2 0x55aa) ∷ [])) } ∷ []); left = [] }
unfolding number16 number32 is_zero components child find_path file_block file_at child_path path_of names_of_section names_of_config started menu_decision menu_boot file_of middle_text target_of menu_entries menu_of meant setup_of version_of header_of header_at fit_checks plan_memory replaced_fields patch command_line written_by place kernel_fit course_of words_of meaning
meant_the_table_of_the_boot_device = refl

-- links, an empty initrd, a short code
pub meant_links_an_empty_initrd_a_short_code : meant conf_link names_link devices_link Empty [] 16777216 ≡ record { outcome = Loaded (record { real = record { address = 0x90000; size = 1024 }; protected = record { address = 0x100000; size = 5 }; initrd = None; line = record { address = 0x99800; size = 34 } }); shown = (codes "LILO\nLoading linux\n"); line = Some Empty; written = (record { address = 0x90000; bytes = (file 1024 (piece 497 (hex 1 0x01) ∷ piece 510 (hex 10 0x55aa0000486472530602) ∷ piece 528 (hex 2 0x0281) ∷ piece 549 (hex 11 0x96000000980900ffffff37) ∷ piece 568 (hex 1 0xff) ∷ [])) } ∷ record { address = 0x100000; bytes = (file 5 (piece 0 (codes "HELLO") ∷ [])) } ∷ record { address = 0x99800; bytes = (file 34 (piece 0 (codes "auto BOOT_IMAGE=linux ro root=301") ∷ [])) } ∷ []); left = [] }
unfolding number16 number32 is_zero components child find_path file_block file_at child_path path_of names_of_section names_of_config started menu_decision menu_boot file_of middle_text target_of menu_entries menu_of meant setup_of version_of header_of header_at fit_checks plan_memory replaced_fields patch command_line written_by place kernel_fit course_of words_of meaning
meant_links_an_empty_initrd_a_short_code = refl

-- version 2 with short names
pub meant_version_2_with_short_names : meant conf_v2_short names_v2_short devices_v2_short Empty [] 16777216 ≡ record { outcome = Loaded (record { real = record { address = 0x90000; size = 1024 }; protected = record { address = 0x100000; size = 5 }; initrd = (Some (record { address = 0xfff000; size = 700 })); line = record { address = 0x99800; size = 34 } }); shown = (codes "LILO\nboot: \nLoading linux\n"); line = Some Empty; written = (record { address = 0x90000; bytes = (file 1024 (piece 497 (hex 1 0x01) ∷ piece 510 (hex 10 0x55aa0000486472530602) ∷ piece 528 (hex 2 0x0281) ∷ piece 537 (hex 5 0xf0ff00bc02) ∷ piece 549 (hex 11 0x96000000980900ffffff37) ∷ piece 568 (hex 1 0xff) ∷ [])) } ∷ record { address = 0x100000; bytes = (file 5 (piece 0 (codes "HELLO") ∷ [])) } ∷ record { address = 0xfff000; bytes = (file 700 (piece 0 (replicate 700 165) ∷ [])) } ∷ record { address = 0x99800; bytes = (file 34 (piece 0 (codes "auto BOOT_IMAGE=linux ro root=301") ∷ [])) } ∷ []); left = [] }
unfolding number16 number32 is_zero components child find_path file_block file_at child_path path_of names_of_section names_of_config started menu_decision menu_boot file_of middle_text target_of menu_entries menu_of meant setup_of version_of header_of header_at fit_checks plan_memory replaced_fields patch command_line written_by place kernel_fit course_of words_of meaning
meant_version_2_with_short_names = refl

-- version 1 with short names, odd geometry
pub meant_version_1_with_short_names_odd_geometry : meant conf_v1_short names_v1_short devices_v1_short Empty [] 16777216 ≡ record { outcome = Loaded (record { real = record { address = 0x90000; size = 1024 }; protected = record { address = 0x100000; size = 5 }; initrd = (Some (record { address = 0xfff000; size = 700 })); line = record { address = 0x99800; size = 34 } }); shown = (codes "LILO\nboot: \nLoading linux\n"); line = Some Empty; written = (record { address = 0x90000; bytes = (file 1024 (piece 497 (hex 1 0x01) ∷ piece 510 (hex 10 0x55aa0000486472530602) ∷ piece 528 (hex 2 0x0281) ∷ piece 537 (hex 5 0xf0ff00bc02) ∷ piece 549 (hex 11 0x96000000980900ffffff37) ∷ piece 568 (hex 1 0xff) ∷ [])) } ∷ record { address = 0x100000; bytes = (file 5 (piece 0 (codes "HELLO") ∷ [])) } ∷ record { address = 0xfff000; bytes = (file 700 (piece 0 (replicate 700 165) ∷ [])) } ∷ record { address = 0x99800; bytes = (file 34 (piece 0 (codes "auto BOOT_IMAGE=linux ro root=301") ∷ [])) } ∷ []); left = [] }
unfolding number16 number32 is_zero components child find_path file_block file_at child_path path_of names_of_section names_of_config started menu_decision menu_boot file_of middle_text target_of menu_entries menu_of meant setup_of version_of header_of header_at fit_checks plan_memory replaced_fields patch command_line written_by place kernel_fit course_of words_of meaning
meant_version_1_with_short_names_odd_geometry = refl

-- a volume on its own partition boots
pub meant_a_volume_on_its_own_partition_boots : meant conf_whole names_whole devices_whole Empty [] 16777216 ≡ record { outcome = Loaded (record { real = record { address = 0x90000; size = 1024 }; protected = record { address = 0x100000; size = 5 }; initrd = (Some (record { address = 0xfff000; size = 700 })); line = record { address = 0x99800; size = 34 } }); shown = (codes "LILO\nboot: \nLoading linux\n"); line = Some Empty; written = (record { address = 0x90000; bytes = (file 1024 (piece 497 (hex 1 0x01) ∷ piece 510 (hex 10 0x55aa0000486472530602) ∷ piece 528 (hex 2 0x0281) ∷ piece 537 (hex 5 0xf0ff00bc02) ∷ piece 549 (hex 11 0x96000000980900ffffff37) ∷ piece 568 (hex 1 0xff) ∷ [])) } ∷ record { address = 0x100000; bytes = (file 5 (piece 0 (codes "HELLO") ∷ [])) } ∷ record { address = 0xfff000; bytes = (file 700 (piece 0 (replicate 700 165) ∷ [])) } ∷ record { address = 0x99800; bytes = (file 34 (piece 0 (codes "auto BOOT_IMAGE=linux ro root=301") ∷ [])) } ∷ []); left = [] }
unfolding number16 number32 is_zero components child find_path file_block file_at child_path path_of names_of_section names_of_config started menu_decision menu_boot file_of middle_text target_of menu_entries menu_of meant setup_of version_of header_of header_at fit_checks plan_memory replaced_fields patch command_line written_by place kernel_fit course_of words_of meaning
meant_a_volume_on_its_own_partition_boots = refl

-- compact, a message, an initrd, and two other systems, one with the table of the boot device
pub meant_compact_a_message_an_initrd_and_two_other_systems_one_with_the_table_of_the_boot_device : (meant conf_full names_full devices_full Empty (typed (codes "dos\n")) 16777216 ≡ record { outcome = Handed; shown = (codes "LILO\nHello\nboot: dos\nLoading dos\n"); line = Some Empty; written = (record { address = 0x7be; bytes = (file 64 (piece 4 (hex 10 0x8100000040000000c00f) ∷ [])) } ∷ record { address = 0x7c00; bytes = (file 512 (piece 3 (codes "DOS") ∷ piece 446 (hex 14 0x80010203060506073f000000e803) ∷ piece 510 (hex 2 0x55aa) ∷ [])) } ∷ []); left = [] }) × (meant conf_full names_full devices_full Empty (typed (codes "l\ntux\n")) 16777216 ≡ record { outcome = Loaded (record { real = record { address = 0x90000; size = 1024 }; protected = record { address = 0x100000; size = 5 }; initrd = (Some (record { address = 0xfff000; size = 700 })); line = record { address = 0x99800; size = 25 } }); shown = (codes "LILO\nHello\nboot: l\nPassword: \nLoading l\n"); line = Some Empty; written = (record { address = 0x90000; bytes = (file 1024 (piece 497 (hex 1 0x01) ∷ piece 510 (hex 10 0x55aa0000486472530602) ∷ piece 528 (hex 2 0x0281) ∷ piece 537 (hex 5 0xf0ff00bc02) ∷ piece 549 (hex 11 0x96000000980900ffffff37) ∷ piece 568 (hex 1 0xff) ∷ [])) } ∷ record { address = 0x100000; bytes = (file 5 (piece 0 (codes "HELLO") ∷ [])) } ∷ record { address = 0xfff000; bytes = (file 700 (piece 0 (replicate 700 165) ∷ [])) } ∷ record { address = 0x99800; bytes = (file 25 (piece 0 (codes "BOOT_IMAGE=l ro root=301") ∷ [])) } ∷ []); left = [] })
unfolding number16 number32 is_zero components child find_path file_block file_at child_path path_of names_of_section names_of_config started menu_decision menu_boot file_of middle_text target_of menu_entries menu_of meant setup_of version_of header_of header_at fit_checks plan_memory replaced_fields patch command_line written_by place kernel_fit course_of words_of meaning
meant_compact_a_message_an_initrd_and_two_other_systems_one_with_the_table_of_the_boot_device = (refl, refl)

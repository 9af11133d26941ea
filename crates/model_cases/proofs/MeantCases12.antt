-- Cases of the model, written by tools/plan_cases.py: what a boot does as configurations say.
use Rattle.std.proofs.Common.{◌≡◌, ◌∷◌, ◌++◌, [], codes, replicate, None, Some, refl}
use Rattle.lilo_model.specs.Boot.{Loaded, Handed, Refused}
use Rattle.lilo_model.specs.Bytes.{number16, number32, is_zero}
use Rattle.lilo_model.specs.Choice.{course_of}
use Rattle.lilo_model.specs.ConfLawful.{names_of_section, names_of_config}
use Rattle.lilo_model.specs.DefaultLine.{Empty, Once, Kept}
use Rattle.lilo_model.specs.Header.{setup_of, version_of, header_of, header_at, fit_checks, plan_memory, replaced_fields, patch, NoRoom}
use Rattle.lilo_model.specs.LineWords.{words_of, meaning}
use Rattle.lilo_model.specs.Meant.{started, menu_decision, menu_boot, file_of, middle_text, target_of, menu_entries, menu_of, meant}
use Rattle.lilo_model.specs.MinixFind.{components, child, find_path, file_block, file_at}
use Rattle.lilo_model.specs.MinixFindNames.{child_path, path_of}
use Rattle.lilo_model.specs.Place.{command_line, written_by, place, kernel_fit}
use Rattle.lilo_model.specs.Reason.{Idle, Header}
use Rattle.model_cases.specs.Sparse.{hex, piece, file, typed, waited}
use Rattle.model_cases.specs.PlanNames.{names_tracks}
use Rattle.model_cases.specs.PlanTracksConfs.{conf_tracks_10, conf_tracks_11, conf_tracks_12, conf_tracks_5, conf_tracks_6, conf_tracks_7, conf_tracks_8, conf_tracks_9}
use Rattle.model_cases.specs.PlanVolumes.{devices_tracks}

-- the same with linear addresses, and a message of 513 bytes
pub meant_the_same_with_linear_addresses_and_a_message_of_513_bytes : meant conf_tracks_5 names_tracks devices_tracks Empty (typed (codes "1\n")) 16777216 ≡ record { outcome = Loaded (record { real = record { address = 0x90000; size = 1024 }; protected = record { address = 0x100000; size = 71677 }; initrd = None; line = record { address = 0x99800; size = 13 } }); shown = (codes "LILO\nmmmmmmmmmmmmmmmmmmmmmmmmmmmmmmmmmmmmmmmmmmmmmmmmmmmmmmmmmmmmmmmmmmmmmmmmmmmmmmmmmmmmmmmmmmmmmmmmmmmmmmmmmmmmmmmmmmmmmmmmmmmmmmmmmmmmmmmmmmmmmmmmmmmmmmmmmmmmmmmmmmmmmmmmmmmmmmmmmmmmmmmmmmmmmmmmmmmmmmmmmmmmmmmmmmmmmmmmmmmmmmmmmmmmmmmmmmmmmmmmmmmmmmmmmmmmmmmmmmmmmmmmmmmmmmmmmmmmmmmmmmmmmmmmmmmmmmmmmmmmmmmmmmmmmmmmmmmmmmmmmmmmmmmmmmmmmmmmmmmmmmmmmmmmmmmmmmmmmmmmmmmmmmmmmmmmmmmmmmmmmmmmmmmmmmmmmmmmmmmmmmmmmmmmmmmmmmmmmmmmmmmmmmmmmmmmmmmmmmmmmmmmmmmmmmmmmmmmmmmmmmmmmmmmmmmmmmmmmmmmmmmmmmmmmmmmmmmmmmmmmmmmmmmmmmmmmboot: 1\nLoading 1\n"); line = Some Empty; written = (record { address = 0x90000; bytes = (file 1024 (piece 497 (hex 1 0x01) ∷ piece 510 (hex 10 0x55aa0000486472530602) ∷ piece 528 (hex 2 0x0281) ∷ piece 549 (hex 11 0x96000000980900ffffff37) ∷ piece 568 (hex 1 0xff) ∷ [])) } ∷ record { address = 0x100000; bytes = (file 71677 (piece 0 (replicate 71677 11) ∷ [])) } ∷ record { address = 0x99800; bytes = (file 13 (piece 0 (codes "BOOT_IMAGE=1") ∷ [])) } ∷ []); left = [] }
unfolding number16 number32 is_zero components child find_path file_block file_at child_path path_of names_of_section names_of_config started menu_decision menu_boot file_of middle_text target_of menu_entries menu_of meant setup_of version_of header_of header_at fit_checks plan_memory replaced_fields patch command_line written_by place kernel_fit course_of words_of meaning
meant_the_same_with_linear_addresses_and_a_message_of_513_bytes = refl

-- compact by cylinder joins what lies on a track
pub meant_compact_by_cylinder_joins_what_lies_on_a_track : meant conf_tracks_6 names_tracks devices_tracks Empty [] 16777216 ≡ record { outcome = Loaded (record { real = record { address = 0x90000; size = 1024 }; protected = record { address = 0x100000; size = 71677 }; initrd = (Some (record { address = 0xff8000; size = 32256 })); line = record { address = 0x99800; size = 18 } }); shown = (codes "LILO\nLoading a\n"); line = Some Empty; written = (record { address = 0x90000; bytes = (file 1024 (piece 497 (hex 1 0x01) ∷ piece 510 (hex 10 0x55aa0000486472530602) ∷ piece 528 (hex 2 0x0281) ∷ piece 537 (hex 5 0x80ff00007e) ∷ piece 549 (hex 11 0x96000000980900ffffff37) ∷ piece 568 (hex 1 0xff) ∷ [])) } ∷ record { address = 0x100000; bytes = (file 71677 (piece 0 (replicate 71677 11) ∷ [])) } ∷ record { address = 0xff8000; bytes = (file 32256 (piece 497 (hex 1 0x01) ∷ piece 510 (hex 10 0x55aa0000486472530602) ∷ piece 529 (hex 1 0x01) ∷ piece 556 (hex 4 0xffffff37) ∷ piece 568 (hex 1 0xff) ∷ piece 1024 (replicate 31232 3) ∷ [])) } ∷ record { address = 0x99800; bytes = (file 18 (piece 0 (codes "auto BOOT_IMAGE=a") ∷ [])) } ∷ []); left = [] }
unfolding number16 number32 is_zero components child find_path file_block file_at child_path path_of names_of_section names_of_config started menu_decision menu_boot file_of middle_text target_of menu_entries menu_of meant setup_of version_of header_of header_at fit_checks plan_memory replaced_fields patch command_line written_by place kernel_fit course_of words_of meaning
meant_compact_by_cylinder_joins_what_lies_on_a_track = refl

-- 142 sectors one by one, with two links
pub meant_142_sectors_one_by_one_with_two_links : meant conf_tracks_7 names_tracks devices_tracks Empty [] 1048576 ≡ record { outcome = Refused (Header (NoRoom 1120253 1048576)); shown = (codes "LILO\nLoading a\nError\n"); line = Some Empty; written = []; left = [] }
unfolding number16 number32 is_zero components child find_path file_block file_at child_path path_of names_of_section names_of_config started menu_decision menu_boot file_of middle_text target_of menu_entries menu_of meant setup_of version_of header_of header_at fit_checks plan_memory replaced_fields patch command_line written_by place kernel_fit course_of words_of meaning
meant_142_sectors_one_by_one_with_two_links = refl

-- the default is counted over what is left, two of whose sections are omitted
pub meant_the_default_is_counted_over_what_is_left_two_of_whose_sections_are_omitted : meant conf_tracks_8 names_tracks devices_tracks Empty [] 16777216 ≡ record { outcome = Loaded (record { real = record { address = 0x90000; size = 1024 }; protected = record { address = 0x100000; size = 31232 }; initrd = None; line = record { address = 0x99800; size = 19 } }); shown = (codes "LILO\nLoading cc\n"); line = Some Empty; written = (record { address = 0x90000; bytes = (file 1024 (piece 497 (hex 1 0x01) ∷ piece 510 (hex 10 0x55aa0000486472530602) ∷ piece 528 (hex 2 0x0281) ∷ piece 549 (hex 11 0x96000000980900ffffff37) ∷ piece 568 (hex 1 0xff) ∷ [])) } ∷ record { address = 0x100000; bytes = (file 31232 (piece 0 (replicate 31232 3) ∷ [])) } ∷ record { address = 0x99800; bytes = (file 19 (piece 0 (codes "auto BOOT_IMAGE=cc") ∷ [])) } ∷ []); left = [] }
unfolding number16 number32 is_zero components child find_path file_block file_at child_path path_of names_of_section names_of_config started menu_decision menu_boot file_of middle_text target_of menu_entries menu_of meant setup_of version_of header_of header_at fit_checks plan_memory replaced_fields patch command_line written_by place kernel_fit course_of words_of meaning
meant_the_default_is_counted_over_what_is_left_two_of_whose_sections_are_omitted = refl

-- video modes 0 and normal, and one that is typed
pub meant_video_modes_0_and_normal_and_one_that_is_typed : (meant conf_tracks_9 names_tracks devices_tracks Empty [] 16777216 ≡ record { outcome = Loaded (record { real = record { address = 0x90000; size = 1024 }; protected = record { address = 0x100000; size = 5 }; initrd = None; line = record { address = 0x99800; size = 18 } }); shown = (codes "LILO\nboot: \nLoading a\n"); line = Some Empty; written = (record { address = 0x90000; bytes = (file 1024 (piece 497 (hex 1 0x01) ∷ piece 510 (hex 10 0x55aa0000486472530602) ∷ piece 528 (hex 2 0x0281) ∷ piece 549 (hex 11 0x96000000980900ffffff37) ∷ piece 568 (hex 1 0xff) ∷ [])) } ∷ record { address = 0x100000; bytes = (file 5 (piece 0 (codes "HELLO") ∷ [])) } ∷ record { address = 0x99800; bytes = (file 18 (piece 0 (codes "auto BOOT_IMAGE=a") ∷ [])) } ∷ []); left = [] }) × (meant conf_tracks_9 names_tracks devices_tracks (Once (codes "b")) [] 16777216 ≡ record { outcome = Loaded (record { real = record { address = 0x90000; size = 1024 }; protected = record { address = 0x100000; size = 5 }; initrd = None; line = record { address = 0x99800; size = 18 } }); shown = (codes "LILO\nLoading b\n"); line = Some Empty; written = (record { address = 0x90000; bytes = (file 1024 (piece 497 (hex 1 0x01) ∷ piece 506 (hex 14 0xffff000055aa0000486472530602) ∷ piece 528 (hex 2 0x0281) ∷ piece 549 (hex 11 0x96000000980900ffffff37) ∷ piece 568 (hex 1 0xff) ∷ [])) } ∷ record { address = 0x100000; bytes = (file 5 (piece 0 (codes "HELLO") ∷ [])) } ∷ record { address = 0x99800; bytes = (file 18 (piece 0 (codes "auto BOOT_IMAGE=b") ∷ [])) } ∷ []); left = [] }) × (meant conf_tracks_9 names_tracks devices_tracks (Kept (codes "c vga=7 vga=x")) [] 16777216 ≡ record { outcome = Loaded (record { real = record { address = 0x90000; size = 1024 }; protected = record { address = 0x100000; size = 5 }; initrd = None; line = record { address = 0x99800; size = 18 } }); shown = (codes "LILO\nLoading c\n"); line = Some (Kept (codes "c vga=7 vga=x")); written = (record { address = 0x90000; bytes = (file 1024 (piece 497 (hex 1 0x01) ∷ piece 506 (hex 14 0x0700000055aa0000486472530602) ∷ piece 528 (hex 2 0x0281) ∷ piece 549 (hex 11 0x96000000980900ffffff37) ∷ piece 568 (hex 1 0xff) ∷ [])) } ∷ record { address = 0x100000; bytes = (file 5 (piece 0 (codes "HELLO") ∷ [])) } ∷ record { address = 0x99800; bytes = (file 18 (piece 0 (codes "auto BOOT_IMAGE=c") ∷ [])) } ∷ []); left = [] })
unfolding number16 number32 is_zero components child find_path file_block file_at child_path path_of names_of_section names_of_config started menu_decision menu_boot file_of middle_text target_of menu_entries menu_of meant setup_of version_of header_of header_at fit_checks plan_memory replaced_fields patch command_line written_by place kernel_fit course_of words_of meaning
meant_video_modes_0_and_normal_and_one_that_is_typed = (refl, refl, refl)

-- every byte of a section: a fallback, a password, a lock by keys, an alias and a table
pub meant_every_byte_of_a_section_a_fallback_a_password_a_lock_by_keys_an_alias_and_a_table : (meant conf_tracks_10 names_tracks devices_tracks Empty (typed (codes "d lock\nppppppppppppppppppppppppppppppp\n")) 16777216 ≡ record { outcome = Handed; shown = (codes "LILO\nPick one:\nboot: d lock\nLoading d\n"); line = Some (Kept (codes "d")); written = (record { address = 0x7be; bytes = (file 64 []) } ∷ record { address = 0x7c00; bytes = (file 512 (piece 3 (codes "LOGICAL") ∷ piece 510 (hex 2 0x55aa) ∷ [])) } ∷ []); left = (typed (codes "ppppppppppppppppppppppppppppppp\n")) }) × (meant conf_tracks_10 names_tracks devices_tracks Empty (typed (codes "x lock\n")) 4194304 ≡ record { outcome = Loaded (record { real = record { address = 0x90000; size = 1024 }; protected = record { address = 0x100000; size = 276 }; initrd = (Some (record { address = 0x2ff000; size = 700 })); line = record { address = 0x99800; size = 13 } }); shown = (codes "LILO\nPick one:\nboot: x lock\nLoading x\n"); line = Some (Kept (codes "x")); written = (record { address = 0x90000; bytes = (file 1024 (piece 497 (hex 1 0x01) ∷ piece 510 (hex 10 0x55aa0000486472530302) ∷ piece 528 (hex 2 0x0281) ∷ piece 537 (hex 5 0xf02f00bc02) ∷ piece 549 (hex 10 0x96000000980900ffff2f) ∷ piece 568 (hex 1 0xff) ∷ [])) } ∷ record { address = 0x100000; bytes = (file 276 (piece 0 (replicate 276 6) ∷ [])) } ∷ record { address = 0x2ff000; bytes = (file 700 (piece 0 (replicate 700 165) ∷ [])) } ∷ record { address = 0x99800; bytes = (file 13 (piece 0 (codes "BOOT_IMAGE=x") ∷ [])) } ∷ []); left = [] })
unfolding number16 number32 is_zero components child find_path file_block file_at child_path path_of names_of_section names_of_config started menu_decision menu_boot file_of middle_text target_of menu_entries menu_of meant setup_of version_of header_of header_at fit_checks plan_memory replaced_fields patch command_line written_by place kernel_fit course_of words_of meaning
meant_every_byte_of_a_section_a_fallback_a_password_a_lock_by_keys_an_alias_and_a_table = (refl, refl)

-- by cylinder, a message, an image, a lock, vga
pub meant_by_cylinder_a_message_an_image_a_lock_vga : (meant conf_tracks_11 names_tracks devices_tracks Empty (typed (codes "fifteen-letters\n")) 16777216 ≡ record { outcome = Loaded (record { real = record { address = 0x90000; size = 1024 }; protected = record { address = 0x100000; size = 31644 }; initrd = None; line = record { address = 0x99800; size = 35 } }); shown = (codes "LILO\nLoading fifteen-letters\n"); line = Some (Kept (codes "fifteen-letters")); written = (record { address = 0x90000; bytes = (file 1024 (piece 497 (hex 1 0x01) ∷ piece 506 (hex 14 0x0503000055aa0000486472530602) ∷ piece 528 (hex 2 0x0281) ∷ piece 549 (hex 11 0x96000000980900ffffff37) ∷ piece 568 (hex 1 0xff) ∷ [])) } ∷ record { address = 0x100000; bytes = (file 31644 (piece 0 (replicate 31644 4) ∷ [])) } ∷ record { address = 0x99800; bytes = (file 35 (piece 0 (codes "auto BOOT_IMAGE=fifteen-letters ro") ∷ [])) } ∷ []); left = (typed (codes "fifteen-letters\n")) }) × (meant conf_tracks_11 names_tracks devices_tracks (Once (codes "gone")) (typed (hex 22 0x3f6669667465656e2d6c657474657273206c6f636b0d)) 3145728 ≡ record { outcome = Loaded (record { real = record { address = 0x90000; size = 1024 }; protected = record { address = 0x100000; size = 31644 }; initrd = None; line = record { address = 0x99800; size = 35 } }); shown = (codes "LILO\nLoading fifteen-letters\n"); line = Some (Kept (codes "fifteen-letters")); written = (record { address = 0x90000; bytes = (file 1024 (piece 497 (hex 1 0x01) ∷ piece 506 (hex 14 0x0503000055aa0000486472530602) ∷ piece 528 (hex 2 0x0281) ∷ piece 549 (hex 11 0x96000000980900ffffff37) ∷ piece 568 (hex 1 0xff) ∷ [])) } ∷ record { address = 0x100000; bytes = (file 31644 (piece 0 (replicate 31644 4) ∷ [])) } ∷ record { address = 0x99800; bytes = (file 35 (piece 0 (codes "auto BOOT_IMAGE=fifteen-letters ro") ∷ [])) } ∷ []); left = (typed (hex 22 0x3f6669667465656e2d6c657474657273206c6f636b0d)) })
unfolding number16 number32 is_zero components child find_path file_block file_at child_path path_of names_of_section names_of_config started menu_decision menu_boot file_of middle_text target_of menu_entries menu_of meant setup_of version_of header_of header_at fit_checks plan_memory replaced_fields patch command_line written_by place kernel_fit course_of words_of meaning
meant_by_cylinder_a_message_an_image_a_lock_vga = (refl, refl)

-- lba32, compact, a message, delay 65534, timeout 65534, 2 images, one omitted, 2 other systems, an initrd, an alias, a table, a password, a fallback, literal, append, root
pub meant_lba32_compact_a_message_delay_65534_timeout_65534_2_images_one_omitted_2_other_systems_an_initrd_an_alias_a_table_a_password_a_fallback_literal_append_root : (meant conf_tracks_12 names_tracks devices_tracks Empty (typed (codes "fifteen-letters vga=ext lock y\n")) 3145728 ≡ record { outcome = Refused Idle; shown = (codes "LILO\nmmmmmmmmmmmmmmmmmmmmmmmmmmmmmmmmmmmmmmmmmmmmmmmmmmmmmmmmmmmmmmmmmmmmmmmmmmmmmmmmmmmmmmmmmmmmmmmmmmmmmmmmmmmmmmmmmmmmmmmmmmmmmmmmmmmmmmmmmmmmmmmmmmmmmmmmmmmmmmmmmmmmmmmmmmmmmmmmmmmmmmmmmmmmmmmmmmmmmmmmmmmmmmmmmmmmmmmmmmmmmmmmmmmmmmmmmmmmmmmmmmmmmmmmmmmmmmmmmmmmmmmmmmmmmmmmmmmmmmmmmmmmmmmmmmmmmmmmmmmmmmmmmmmmmmmmmmmmmmmmmmmmmmmmmmmmmmmmmmmmmmmmmmmmmmmmmmmmmmmmmmmmmmmmmmmmmmmmmmmmmmmmmmmmmmmmmmmmmmmmmmmmmmmmmmmmmmmmmmmmmmmmmmmmmmmmmmmmmmmmmmmmmmmmmmmmmmmmmmmmmmmmmmmmmmmmmmmmmmmmmmmmmmmmmmmmmmmmmmmmmmmmmmmmmmmmmboot: fifteen-letters vga=ext lock y\nNo such image.\nboot: "); line = Some Empty; written = []; left = [] }) × (meant conf_tracks_12 names_tracks devices_tracks (Kept (codes "old")) (waited 2 ++ typed (hex 8 0x74776f0d7475780a) ++ waited 4) 1048576 ≡ record { outcome = Refused (Header (NoRoom 1048852 1048576)); shown = (codes "LILO\nmmmmmmmmmmmmmmmmmmmmmmmmmmmmmmmmmmmmmmmmmmmmmmmmmmmmmmmmmmmmmmmmmmmmmmmmmmmmmmmmmmmmmmmmmmmmmmmmmmmmmmmmmmmmmmmmmmmmmmmmmmmmmmmmmmmmmmmmmmmmmmmmmmmmmmmmmmmmmmmmmmmmmmmmmmmmmmmmmmmmmmmmmmmmmmmmmmmmmmmmmmmmmmmmmmmmmmmmmmmmmmmmmmmmmmmmmmmmmmmmmmmmmmmmmmmmmmmmmmmmmmmmmmmmmmmmmmmmmmmmmmmmmmmmmmmmmmmmmmmmmmmmmmmmmmmmmmmmmmmmmmmmmmmmmmmmmmmmmmmmmmmmmmmmmmmmmmmmmmmmmmmmmmmmmmmmmmmmmmmmmmmmmmmmmmmmmmmmmmmmmmmmmmmmmmmmmmmmmmmmmmmmmmmmmmmmmmmmmmmmmmmmmmmmmmmmmmmmmmmmmmmmmmmmmmmmmmmmmmmmmmmmmmmmmmmmmmmmmmmmmmmmmmmmmmmmmboot: two\nPassword: \nLoading two\nError\n"); line = Some (Kept (codes "x")); written = []; left = (waited 4) })
unfolding number16 number32 is_zero components child find_path file_block file_at child_path path_of names_of_section names_of_config started menu_decision menu_boot file_of middle_text target_of menu_entries menu_of meant setup_of version_of header_of header_at fit_checks plan_memory replaced_fields patch command_line written_by place kernel_fit course_of words_of meaning
meant_lba32_compact_a_message_delay_65534_timeout_65534_2_images_one_omitted_2_other_systems_an_initrd_an_alias_a_table_a_password_a_fallback_literal_append_root = (refl, refl)

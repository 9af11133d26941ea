-- Cases of command lines; tools/words_cases.py writes this file.
use Rattle.std.proofs.Common.{◌≡◌, [], ◌∷◌, true, false, None, Some, Ok, Err, codes, refl}
use Rattle.std.specs.Fmt.{digits}
use Rattle.lilo_model.specs.Devices.{disk_name, last_partition, partition_name, device_name, devices_of, named_devices, device_at}
use Rattle.lilo_model.specs.Words.{Install, Test, Query, SetLine, Restore, Boot, command_from, part_from, parts_from, run_from, run_at, usage_text}
use Rattle.model_cases.specs.Sparse.{hex}

-- no word
pub words_no_word : run_at [] ≡ Ok ((record { config = None; root = None; verbose = false; command = Install }) ∷ [])
unfolding disk_name last_partition partition_name device_name devices_of named_devices device_at command_from part_from parts_from run_from run_at usage_text digits
words_no_word = refl

-- -t alone
pub words_t_alone : run_at ((codes "-t") ∷ []) ≡ Ok ((record { config = None; root = None; verbose = false; command = Test }) ∷ [])
unfolding disk_name last_partition partition_name device_name devices_of named_devices device_at command_from part_from parts_from run_from run_at usage_text digits
words_t_alone = refl

-- all options, in another order
pub words_all_options_in_another_order : run_at ((codes "-v") ∷ (codes "--root") ∷ (codes "/dev/hda63") ∷ (codes "-C") ∷ (codes "/etc/lilo.conf") ∷ []) ≡ Ok ((record { config = (Some (codes "/etc/lilo.conf")); root = (Some (record { disk = 0; partition = 63 })); verbose = true; command = Install }) ∷ [])
unfolding disk_name last_partition partition_name device_name devices_of named_devices device_at command_from part_from parts_from run_from run_at usage_text digits
words_all_options_in_another_order = refl

-- a bare -q
pub words_a_bare_q : run_at ((codes "-q") ∷ []) ≡ Ok ((record { config = None; root = None; verbose = false; command = (Query None) }) ∷ [])
unfolding disk_name last_partition partition_name device_name devices_of named_devices device_at command_from part_from parts_from run_from run_at usage_text digits
words_a_bare_q = refl

-- -q with a partition
pub words_q_with_a_partition : run_at ((codes "-q") ∷ (codes "/dev/hda9") ∷ []) ≡ Ok ((record { config = None; root = None; verbose = false; command = (Query (Some (record { disk = 0; partition = 9 }))) }) ∷ [])
unfolding disk_name last_partition partition_name device_name devices_of named_devices device_at command_from part_from parts_from run_from run_at usage_text digits
words_q_with_a_partition = refl

-- -q with the last partition of a SCSI disk
pub words_q_with_the_last_partition_of_a_scsi_disk : run_at ((codes "-C") ∷ (codes "/c") ∷ (codes "-q") ∷ (codes "/dev/sdb15") ∷ []) ≡ Ok ((record { config = (Some (codes "/c")); root = None; verbose = false; command = (Query (Some (record { disk = 3; partition = 15 }))) }) ∷ [])
unfolding disk_name last_partition partition_name device_name devices_of named_devices device_at command_from part_from parts_from run_from run_at usage_text digits
words_q_with_the_last_partition_of_a_scsi_disk = refl

-- -u with a whole disk
pub words_u_with_a_whole_disk : run_at ((codes "-u") ∷ (codes "/dev/hdb") ∷ []) ≡ Ok ((record { config = None; root = None; verbose = false; command = (Restore (record { disk = 1; partition = 0 })) }) ∷ [])
unfolding disk_name last_partition partition_name device_name devices_of named_devices device_at command_from part_from parts_from run_from run_at usage_text digits
words_u_with_a_whole_disk = refl

-- boot without --dump
pub words_boot_without_dump : run_at ((codes "boot") ∷ (codes "/dev/sda") ∷ []) ≡ Ok ((record { config = None; root = None; verbose = false; command = (Boot (record { disk = 2; partition = 0 }) false) }) ∷ [])
unfolding disk_name last_partition partition_name device_name devices_of named_devices device_at command_from part_from parts_from run_from run_at usage_text digits
words_boot_without_dump = refl

-- boot with --dump
pub words_boot_with_dump : run_at ((codes "--root") ∷ (codes "/dev/sda1") ∷ (codes "boot") ∷ (codes "/dev/hda") ∷ (codes "--dump") ∷ []) ≡ Ok ((record { config = None; root = (Some (record { disk = 2; partition = 1 })); verbose = false; command = (Boot (record { disk = 0; partition = 0 }) true) }) ∷ [])
unfolding disk_name last_partition partition_name device_name devices_of named_devices device_at command_from part_from parts_from run_from run_at usage_text digits
words_boot_with_dump = refl

-- -R without words
pub words_r_without_words : run_at ((codes "-R") ∷ []) ≡ Ok ((record { config = None; root = None; verbose = false; command = (SetLine []) }) ∷ [])
unfolding disk_name last_partition partition_name device_name devices_of named_devices device_at command_from part_from parts_from run_from run_at usage_text digits
words_r_without_words = refl

-- words of -R that look like options
pub words_words_of_r_that_look_like_options : run_at ((codes "-R") ∷ (codes "-t") ∷ (codes "a b") ∷ (codes "~") ∷ (codes "--dump") ∷ []) ≡ Ok ((record { config = None; root = None; verbose = false; command = (SetLine ((codes "-t") ∷ (codes "a b") ∷ (codes "~") ∷ (codes "--dump") ∷ [])) }) ∷ [])
unfolding disk_name last_partition partition_name device_name devices_of named_devices device_at command_from part_from parts_from run_from run_at usage_text digits
words_words_of_r_that_look_like_options = refl

-- two parts
pub words_two_parts : run_at ((codes "-q") ∷ (codes "/dev/hda9") ∷ (codes "--then") ∷ (codes "boot") ∷ (codes "/dev/hda") ∷ (codes "--dump") ∷ []) ≡ Ok ((record { config = None; root = None; verbose = false; command = (Query (Some (record { disk = 0; partition = 9 }))) }) ∷ (record { config = None; root = None; verbose = false; command = (Boot (record { disk = 0; partition = 0 }) true) }) ∷ [])
unfolding disk_name last_partition partition_name device_name devices_of named_devices device_at command_from part_from parts_from run_from run_at usage_text digits
words_two_parts = refl

-- -R ends at --then
pub words_r_ends_at_then : run_at ((codes "-R") ∷ (codes "a") ∷ (codes "--then") ∷ (codes "-q") ∷ []) ≡ Ok ((record { config = None; root = None; verbose = false; command = (SetLine ((codes "a") ∷ [])) }) ∷ (record { config = None; root = None; verbose = false; command = (Query None) }) ∷ [])
unfolding disk_name last_partition partition_name device_name devices_of named_devices device_at command_from part_from parts_from run_from run_at usage_text digits
words_r_ends_at_then = refl

-- an empty part at each end
pub words_an_empty_part_at_each_end : run_at ((codes "--then") ∷ (codes "-t") ∷ (codes "--then") ∷ []) ≡ Ok ((record { config = None; root = None; verbose = false; command = Install }) ∷ (record { config = None; root = None; verbose = false; command = Test }) ∷ (record { config = None; root = None; verbose = false; command = Install }) ∷ [])
unfolding disk_name last_partition partition_name device_name devices_of named_devices device_at command_from part_from parts_from run_from run_at usage_text digits
words_an_empty_part_at_each_end = refl

-- an option again in another part
pub words_an_option_again_in_another_part : run_at ((codes "-v") ∷ (codes "-t") ∷ (codes "--then") ∷ (codes "-v") ∷ (codes "-C") ∷ (codes "/b") ∷ (codes "-t") ∷ []) ≡ Ok ((record { config = None; root = None; verbose = true; command = Test }) ∷ (record { config = (Some (codes "/b")); root = None; verbose = true; command = Test }) ∷ [])
unfolding disk_name last_partition partition_name device_name devices_of named_devices device_at command_from part_from parts_from run_from run_at usage_text digits
words_an_option_again_in_another_part = refl

-- a word that nothing begins with
pub words_a_word_that_nothing_begins_with : run_at ((codes "-x") ∷ []) ≡ Err (Some 0)
unfolding disk_name last_partition partition_name device_name devices_of named_devices device_at command_from part_from parts_from run_from run_at usage_text digits
words_a_word_that_nothing_begins_with = refl

pub words_a_word_that_nothing_begins_with_text : usage_text ((codes "-x") ∷ []) ≡ codes "lilo: usage: -x\n"
unfolding disk_name last_partition partition_name device_name devices_of named_devices device_at command_from part_from parts_from run_from run_at usage_text digits
words_a_word_that_nothing_begins_with_text = refl

-- a path in the place of an option
pub words_a_path_in_the_place_of_an_option : run_at ((codes "/etc/lilo.conf") ∷ []) ≡ Err (Some 0)
unfolding disk_name last_partition partition_name device_name devices_of named_devices device_at command_from part_from parts_from run_from run_at usage_text digits
words_a_path_in_the_place_of_an_option = refl

pub words_a_path_in_the_place_of_an_option_text : usage_text ((codes "/etc/lilo.conf") ∷ []) ≡ codes "lilo: usage: /etc/lilo.conf\n"
unfolding disk_name last_partition partition_name device_name devices_of named_devices device_at command_from part_from parts_from run_from run_at usage_text digits
words_a_path_in_the_place_of_an_option_text = refl

-- -u without a device
pub words_u_without_a_device : run_at ((codes "-u") ∷ []) ≡ Err None
unfolding disk_name last_partition partition_name device_name devices_of named_devices device_at command_from part_from parts_from run_from run_at usage_text digits
words_u_without_a_device = refl

pub words_u_without_a_device_text : usage_text ((codes "-u") ∷ []) ≡ codes "lilo: usage: (end)\n"
unfolding disk_name last_partition partition_name device_name devices_of named_devices device_at command_from part_from parts_from run_from run_at usage_text digits
words_u_without_a_device_text = refl

-- boot without a device
pub words_boot_without_a_device : run_at ((codes "boot") ∷ []) ≡ Err None
unfolding disk_name last_partition partition_name device_name devices_of named_devices device_at command_from part_from parts_from run_from run_at usage_text digits
words_boot_without_a_device = refl

pub words_boot_without_a_device_text : usage_text ((codes "boot") ∷ []) ≡ codes "lilo: usage: (end)\n"
unfolding disk_name last_partition partition_name device_name devices_of named_devices device_at command_from part_from parts_from run_from run_at usage_text digits
words_boot_without_a_device_text = refl

-- -C without a path
pub words_c_without_a_path : run_at ((codes "-v") ∷ (codes "-C") ∷ []) ≡ Err None
unfolding disk_name last_partition partition_name device_name devices_of named_devices device_at command_from part_from parts_from run_from run_at usage_text digits
words_c_without_a_path = refl

pub words_c_without_a_path_text : usage_text ((codes "-v") ∷ (codes "-C") ∷ []) ≡ codes "lilo: usage: (end)\n"
unfolding disk_name last_partition partition_name device_name devices_of named_devices device_at command_from part_from parts_from run_from run_at usage_text digits
words_c_without_a_path_text = refl

-- --root without a device
pub words_root_without_a_device : run_at ((codes "--root") ∷ []) ≡ Err None
unfolding disk_name last_partition partition_name device_name devices_of named_devices device_at command_from part_from parts_from run_from run_at usage_text digits
words_root_without_a_device = refl

pub words_root_without_a_device_text : usage_text ((codes "--root") ∷ []) ≡ codes "lilo: usage: (end)\n"
unfolding disk_name last_partition partition_name device_name devices_of named_devices device_at command_from part_from parts_from run_from run_at usage_text digits
words_root_without_a_device_text = refl

-- a word after -t
pub words_a_word_after_t : run_at ((codes "-t") ∷ (codes "--dump") ∷ []) ≡ Err (Some 1)
unfolding disk_name last_partition partition_name device_name devices_of named_devices device_at command_from part_from parts_from run_from run_at usage_text digits
words_a_word_after_t = refl

pub words_a_word_after_t_text : usage_text ((codes "-t") ∷ (codes "--dump") ∷ []) ≡ codes "lilo: usage: --dump\n"
unfolding disk_name last_partition partition_name device_name devices_of named_devices device_at command_from part_from parts_from run_from run_at usage_text digits
words_a_word_after_t_text = refl

-- an option after a command
pub words_an_option_after_a_command : run_at ((codes "-q") ∷ (codes "-v") ∷ []) ≡ Err (Some 1)
unfolding disk_name last_partition partition_name device_name devices_of named_devices device_at command_from part_from parts_from run_from run_at usage_text digits
words_an_option_after_a_command = refl

pub words_an_option_after_a_command_text : usage_text ((codes "-q") ∷ (codes "-v") ∷ []) ≡ codes "lilo: usage: -v\n"
unfolding disk_name last_partition partition_name device_name devices_of named_devices device_at command_from part_from parts_from run_from run_at usage_text digits
words_an_option_after_a_command_text = refl

-- a second device after -q
pub words_a_second_device_after_q : run_at ((codes "-q") ∷ (codes "/dev/hda") ∷ (codes "/dev/hdb") ∷ []) ≡ Err (Some 2)
unfolding disk_name last_partition partition_name device_name devices_of named_devices device_at command_from part_from parts_from run_from run_at usage_text digits
words_a_second_device_after_q = refl

pub words_a_second_device_after_q_text : usage_text ((codes "-q") ∷ (codes "/dev/hda") ∷ (codes "/dev/hdb") ∷ []) ≡ codes "lilo: usage: /dev/hdb\n"
unfolding disk_name last_partition partition_name device_name devices_of named_devices device_at command_from part_from parts_from run_from run_at usage_text digits
words_a_second_device_after_q_text = refl

-- -C twice
pub words_c_twice : run_at ((codes "-C") ∷ (codes "/a") ∷ (codes "-C") ∷ (codes "/b") ∷ []) ≡ Err (Some 2)
unfolding disk_name last_partition partition_name device_name devices_of named_devices device_at command_from part_from parts_from run_from run_at usage_text digits
words_c_twice = refl

pub words_c_twice_text : usage_text ((codes "-C") ∷ (codes "/a") ∷ (codes "-C") ∷ (codes "/b") ∷ []) ≡ codes "lilo: usage: -C\n"
unfolding disk_name last_partition partition_name device_name devices_of named_devices device_at command_from part_from parts_from run_from run_at usage_text digits
words_c_twice_text = refl

-- --root twice
pub words_root_twice : run_at ((codes "--root") ∷ (codes "/dev/hda") ∷ (codes "--root") ∷ (codes "/dev/hdb") ∷ []) ≡ Err (Some 2)
unfolding disk_name last_partition partition_name device_name devices_of named_devices device_at command_from part_from parts_from run_from run_at usage_text digits
words_root_twice = refl

pub words_root_twice_text : usage_text ((codes "--root") ∷ (codes "/dev/hda") ∷ (codes "--root") ∷ (codes "/dev/hdb") ∷ []) ≡ codes "lilo: usage: --root\n"
unfolding disk_name last_partition partition_name device_name devices_of named_devices device_at command_from part_from parts_from run_from run_at usage_text digits
words_root_twice_text = refl

-- -v twice
pub words_v_twice : run_at ((codes "-v") ∷ (codes "-v") ∷ []) ≡ Err (Some 1)
unfolding disk_name last_partition partition_name device_name devices_of named_devices device_at command_from part_from parts_from run_from run_at usage_text digits
words_v_twice = refl

pub words_v_twice_text : usage_text ((codes "-v") ∷ (codes "-v") ∷ []) ≡ codes "lilo: usage: -v\n"
unfolding disk_name last_partition partition_name device_name devices_of named_devices device_at command_from part_from parts_from run_from run_at usage_text digits
words_v_twice_text = refl

-- a path without a slash
pub words_a_path_without_a_slash : run_at ((codes "-C") ∷ (codes "etc") ∷ []) ≡ Err (Some 1)
unfolding disk_name last_partition partition_name device_name devices_of named_devices device_at command_from part_from parts_from run_from run_at usage_text digits
words_a_path_without_a_slash = refl

pub words_a_path_without_a_slash_text : usage_text ((codes "-C") ∷ (codes "etc") ∷ []) ≡ codes "lilo: usage: etc\n"
unfolding disk_name last_partition partition_name device_name devices_of named_devices device_at command_from part_from parts_from run_from run_at usage_text digits
words_a_path_without_a_slash_text = refl

-- a partition past the last of an IDE disk
pub words_a_partition_past_the_last_of_an_ide_disk : run_at ((codes "--root") ∷ (codes "/dev/hda64") ∷ []) ≡ Err (Some 1)
unfolding disk_name last_partition partition_name device_name devices_of named_devices device_at command_from part_from parts_from run_from run_at usage_text digits
words_a_partition_past_the_last_of_an_ide_disk = refl

pub words_a_partition_past_the_last_of_an_ide_disk_text : usage_text ((codes "--root") ∷ (codes "/dev/hda64") ∷ []) ≡ codes "lilo: usage: /dev/hda64\n"
unfolding disk_name last_partition partition_name device_name devices_of named_devices device_at command_from part_from parts_from run_from run_at usage_text digits
words_a_partition_past_the_last_of_an_ide_disk_text = refl

-- a partition past the last of a SCSI disk
pub words_a_partition_past_the_last_of_a_scsi_disk : run_at ((codes "-u") ∷ (codes "/dev/sda16") ∷ []) ≡ Err (Some 1)
unfolding disk_name last_partition partition_name device_name devices_of named_devices device_at command_from part_from parts_from run_from run_at usage_text digits
words_a_partition_past_the_last_of_a_scsi_disk = refl

pub words_a_partition_past_the_last_of_a_scsi_disk_text : usage_text ((codes "-u") ∷ (codes "/dev/sda16") ∷ []) ≡ codes "lilo: usage: /dev/sda16\n"
unfolding disk_name last_partition partition_name device_name devices_of named_devices device_at command_from part_from parts_from run_from run_at usage_text digits
words_a_partition_past_the_last_of_a_scsi_disk_text = refl

-- a partition with a leading zero
pub words_a_partition_with_a_leading_zero : run_at ((codes "boot") ∷ (codes "/dev/hda01") ∷ []) ≡ Err (Some 1)
unfolding disk_name last_partition partition_name device_name devices_of named_devices device_at command_from part_from parts_from run_from run_at usage_text digits
words_a_partition_with_a_leading_zero = refl

pub words_a_partition_with_a_leading_zero_text : usage_text ((codes "boot") ∷ (codes "/dev/hda01") ∷ []) ≡ codes "lilo: usage: /dev/hda01\n"
unfolding disk_name last_partition partition_name device_name devices_of named_devices device_at command_from part_from parts_from run_from run_at usage_text digits
words_a_partition_with_a_leading_zero_text = refl

-- a byte of 0x7F after -R
pub words_a_byte_of_0x7f_after_r : run_at ((codes "-R") ∷ (codes "a") ∷ (hex 2 0x627f) ∷ []) ≡ Err (Some 2)
unfolding disk_name last_partition partition_name device_name devices_of named_devices device_at command_from part_from parts_from run_from run_at usage_text digits
words_a_byte_of_0x7f_after_r = refl

pub words_a_byte_of_0x7f_after_r_text : usage_text ((codes "-R") ∷ (codes "a") ∷ (hex 2 0x627f) ∷ []) ≡ hex 16 0x6c696c6f3a2075736167653a20627f0a
unfolding disk_name last_partition partition_name device_name devices_of named_devices device_at command_from part_from parts_from run_from run_at usage_text digits
words_a_byte_of_0x7f_after_r_text = refl

-- a byte of 0x1F after -R
pub words_a_byte_of_0x1f_after_r : run_at ((codes "-R") ∷ (hex 1 0x1f) ∷ []) ≡ Err (Some 1)
unfolding disk_name last_partition partition_name device_name devices_of named_devices device_at command_from part_from parts_from run_from run_at usage_text digits
words_a_byte_of_0x1f_after_r = refl

pub words_a_byte_of_0x1f_after_r_text : usage_text ((codes "-R") ∷ (hex 1 0x1f) ∷ []) ≡ hex 15 0x6c696c6f3a2075736167653a201f0a
unfolding disk_name last_partition partition_name device_name devices_of named_devices device_at command_from part_from parts_from run_from run_at usage_text digits
words_a_byte_of_0x1f_after_r_text = refl

-- an empty word after -R
pub words_an_empty_word_after_r : run_at ((codes "-R") ∷ (codes "a") ∷ [] ∷ []) ≡ Err (Some 2)
unfolding disk_name last_partition partition_name device_name devices_of named_devices device_at command_from part_from parts_from run_from run_at usage_text digits
words_an_empty_word_after_r = refl

pub words_an_empty_word_after_r_text : usage_text ((codes "-R") ∷ (codes "a") ∷ [] ∷ []) ≡ codes "lilo: usage: \n"
unfolding disk_name last_partition partition_name device_name devices_of named_devices device_at command_from part_from parts_from run_from run_at usage_text digits
words_an_empty_word_after_r_text = refl

-- --then where a path must come
pub words_then_where_a_path_must_come : run_at ((codes "-C") ∷ (codes "--then") ∷ (codes "-t") ∷ []) ≡ Err (Some 1)
unfolding disk_name last_partition partition_name device_name devices_of named_devices device_at command_from part_from parts_from run_from run_at usage_text digits
words_then_where_a_path_must_come = refl

pub words_then_where_a_path_must_come_text : usage_text ((codes "-C") ∷ (codes "--then") ∷ (codes "-t") ∷ []) ≡ codes "lilo: usage: --then\n"
unfolding disk_name last_partition partition_name device_name devices_of named_devices device_at command_from part_from parts_from run_from run_at usage_text digits
words_then_where_a_path_must_come_text = refl

-- --then where a device must come
pub words_then_where_a_device_must_come : run_at ((codes "-u") ∷ (codes "--then") ∷ []) ≡ Err (Some 1)
unfolding disk_name last_partition partition_name device_name devices_of named_devices device_at command_from part_from parts_from run_from run_at usage_text digits
words_then_where_a_device_must_come = refl

pub words_then_where_a_device_must_come_text : usage_text ((codes "-u") ∷ (codes "--then") ∷ []) ≡ codes "lilo: usage: --then\n"
unfolding disk_name last_partition partition_name device_name devices_of named_devices device_at command_from part_from parts_from run_from run_at usage_text digits
words_then_where_a_device_must_come_text = refl

-- a wrong word in the second part
pub words_a_wrong_word_in_the_second_part : run_at ((codes "-t") ∷ (codes "--then") ∷ (codes "boot") ∷ (codes "/dev/hda") ∷ (codes "--dump") ∷ (codes "--dump") ∷ []) ≡ Err (Some 5)
unfolding disk_name last_partition partition_name device_name devices_of named_devices device_at command_from part_from parts_from run_from run_at usage_text digits
words_a_wrong_word_in_the_second_part = refl

pub words_a_wrong_word_in_the_second_part_text : usage_text ((codes "-t") ∷ (codes "--then") ∷ (codes "boot") ∷ (codes "/dev/hda") ∷ (codes "--dump") ∷ (codes "--dump") ∷ []) ≡ codes "lilo: usage: --dump\n"
unfolding disk_name last_partition partition_name device_name devices_of named_devices device_at command_from part_from parts_from run_from run_at usage_text digits
words_a_wrong_word_in_the_second_part_text = refl

-- the second part must go on
pub words_the_second_part_must_go_on : run_at ((codes "-R") ∷ (codes "--then") ∷ (codes "boot") ∷ []) ≡ Err None
unfolding disk_name last_partition partition_name device_name devices_of named_devices device_at command_from part_from parts_from run_from run_at usage_text digits
words_the_second_part_must_go_on = refl

pub words_the_second_part_must_go_on_text : usage_text ((codes "-R") ∷ (codes "--then") ∷ (codes "boot") ∷ []) ≡ codes "lilo: usage: (end)\n"
unfolding disk_name last_partition partition_name device_name devices_of named_devices device_at command_from part_from parts_from run_from run_at usage_text digits
words_the_second_part_must_go_on_text = refl

-- --dump twice
pub words_dump_twice : run_at ((codes "boot") ∷ (codes "/dev/hda") ∷ (codes "--dump") ∷ (codes "--dump") ∷ []) ≡ Err (Some 3)
unfolding disk_name last_partition partition_name device_name devices_of named_devices device_at command_from part_from parts_from run_from run_at usage_text digits
words_dump_twice = refl

pub words_dump_twice_text : usage_text ((codes "boot") ∷ (codes "/dev/hda") ∷ (codes "--dump") ∷ (codes "--dump") ∷ []) ≡ codes "lilo: usage: --dump\n"
unfolding disk_name last_partition partition_name device_name devices_of named_devices device_at command_from part_from parts_from run_from run_at usage_text digits
words_dump_twice_text = refl

-- two commands
pub words_two_commands : run_at ((codes "-t") ∷ (codes "-q") ∷ []) ≡ Err (Some 1)
unfolding disk_name last_partition partition_name device_name devices_of named_devices device_at command_from part_from parts_from run_from run_at usage_text digits
words_two_commands = refl

pub words_two_commands_text : usage_text ((codes "-t") ∷ (codes "-q") ∷ []) ≡ codes "lilo: usage: -q\n"
unfolding disk_name last_partition partition_name device_name devices_of named_devices device_at command_from part_from parts_from run_from run_at usage_text digits
words_two_commands_text = refl

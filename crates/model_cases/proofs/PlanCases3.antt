-- Cases of the model, written by tools/plan_cases.py: the sectors of planned maps, and their boot sectors.
use Rattle.std.proofs.Common.{◌≡◌, ◌∷◌, [], codes, replicate, refl}
use Rattle.lilo_model.specs.BootSector.{is_bootable, has_signature, has_options, has_names, has_slots, has_no_message, has_whole_message, has_message, has_zeros, is_whole, timeout_of, table_slots, boot_of, boot_at, field_bytes, merged_sector}
use Rattle.lilo_model.specs.Bytes.{number16, number32, is_zero}
use Rattle.lilo_model.specs.ConfLawful.{names_of_section, names_of_config}
use Rattle.lilo_model.specs.Devices.{disk_name, last_partition, partition_name, device_name, devices_of, named_devices, device_at, disk_number, device_number}
use Rattle.lilo_model.specs.LineSector.{is_line, line_of, line_at, line_bytes, is_same_line}
use Rattle.lilo_model.specs.Meant.{started, menu_decision, menu_boot, file_of, middle_text, target_of, menu_entries, menu_of, meant}
use Rattle.lilo_model.specs.MinixEntries.{entry_of, entries_in, entry_at as minixentries_entry_at, find_entry, entries_at, is_dots}
use Rattle.lilo_model.specs.MinixFind.{components, child, find_path, file_block, file_at}
use Rattle.lilo_model.specs.MinixFindNames.{child_path, path_of}
use Rattle.lilo_model.specs.MinixLayout.{kind_of, super_of, super_checks, super_in, super_at, with_counts, super_bytes, v1_inode, v2_inode, inode_of, inode_at, v1_inode_bytes, v2_inode_bytes, inode_bytes, kept_inode, inode_place}
use Rattle.lilo_model.specs.MinixNames.{zone_number, block, content, entry, first_named, lookup, reached, thing, names, names_in, IsSound}
use Rattle.lilo_model.specs.MinixParts.{bit, with_bit, parts_of, volume_at, number_in, follow, pointer_by, inside, follow_at, zone_at, block_at, content_at}
use Rattle.lilo_model.specs.Options.{options_at, extra_at, options_bytes, extra_bytes}
use Rattle.lilo_model.specs.Partitions.{named_device, entry_at, entries_of, table_entries, is_link, is_plain, link_of, logical_of, listed, linked_sector, chain_entries, chain_tables, partitions_of, numbered_span, span_of}
use Rattle.lilo_model.specs.Plan.{slot_to, slots_for, chain_for, file_slots, file_sectors, section_sectors_at, flags_of, descriptor_for, plan_entries, sectors_of_table, sectors_after, plan_sectors, map_size, plan_names, plan_boot, plan_boot_sector}
use Rattle.lilo_model.specs.Planned.{devices_in, inode_places, mapped_inode, file_inode, mapped_section, code_in, planned}
use Rattle.lilo_model.specs.Section.{link_at, section, file_content, section_bytes}
use Rattle.lilo_model.specs.Slots.{has_ranges, has_address, is_slot, is_one_slot, chs_of, address_of, slot_of, some_slot, slot_at, slot_bytes, to_chs, to_lba, sector_at, sectors_of, place_at, slot_make, could_be_one}
use Rattle.lilo_model.specs.Table.{is_set, entry_name, is_printable, is_name, has_flags, has_video, has_length, has_main, has_initrd, has_extra, is_entry, descriptor_of, entry_bytes, same_name, repeats, breaks, table_at, descriptor_bytes}
use Rattle.model_cases.specs.Sparse.{hex, piece, file, disks_of, on}
use Rattle.model_cases.specs.PlanConfs.{conf_full, conf_link, conf_other, conf_own_table, conf_two_chain, conf_v1_short, conf_v2_short, conf_whole}
use Rattle.model_cases.specs.PlanDisks.{disk_full, disk_link, disk_other, disk_own_table, disk_two_chain, disk_v1_short, disk_v2_short, disk_whole}
use Rattle.model_cases.specs.PlanVolumes.{machine_full, machine_link, machine_other, machine_own_table, machine_two_chain, machine_v1_short, machine_v2_short, machine_whole, volume_full, volume_link, volume_other, volume_own_table, volume_two_chain, volume_v1_short, volume_v2_short, volume_whole}

-- two other systems
pub plan_two_other_systems : (plan_sectors (planned (disks_of disk_other) machine_other volume_other conf_other 305419896) machine_other (on 0 (94 ∷ 95 ∷ 96 ∷ 97 ∷ 98 ∷ 99 ∷ 100 ∷ 101 ∷ 102 ∷ 103 ∷ 104 ∷ 105 ∷ 106 ∷ [])) ≡ (file 512 (piece 0 (codes "LINE") ∷ [])) ∷ (file 512 (piece 0 (codes "linux") ∷ piece 16 (hex 39 0x4000000005040000bc020000038001006300000003800100640000000380010065000000010001) ∷ piece 64 (codes "dos") ∷ piece 80 (hex 1 0x81) ∷ piece 85 (hex 1 0x04) ∷ piece 92 (hex 13 0x03800100660000000380010067) ∷ piece 116 (hex 1 0x01) ∷ piece 128 (codes "hdb1") ∷ piece 144 (hex 1 0x03) ∷ piece 149 (hex 1 0x02) ∷ piece 156 (hex 13 0x0380010068000000038001006a) ∷ piece 180 (hex 13 0x01000000038001006900000077) ∷ piece 208 (hex 1 0x03) ∷ piece 213 (hex 1 0x02) ∷ piece 220 (hex 13 0x0380010068000000038001006a) ∷ piece 244 (hex 9 0x010000000380010069) ∷ [])) ∷ (file 512 []) ∷ (file 512 []) ∷ (file 512 []) ∷ (file 512 (piece 0 (hex 1 0x0c) ∷ piece 8 (codes " ro root=301") ∷ [])) ∷ (file 512 (piece 0 (hex 21 0x038001005200000003800100530000000380010054) ∷ [])) ∷ (file 512 (piece 0 (hex 13 0x03800100560000000380010057) ∷ [])) ∷ (file 512 []) ∷ (file 512 (piece 0 (hex 3 0x038101) ∷ piece 8 (hex 3 0x038101) ∷ [])) ∷ (file 512 []) ∷ (file 512 (piece 2 (hex 1 0x01) ∷ piece 480 (codes "x") ∷ [])) ∷ (file 512 (piece 0 (hex 5 0x038101003f) ∷ [])) ∷ []) × (plan_boot_sector (planned (disks_of disk_other) machine_other volume_other conf_other 305419896) machine_other (on 0 (94 ∷ 95 ∷ 96 ∷ 97 ∷ 98 ∷ 99 ∷ 100 ∷ 101 ∷ 102 ∷ 103 ∷ 104 ∷ 105 ∷ 106 ∷ [])) (disks_of disk_other 0 0) ≡ file 512 (piece 0 (hex 19 0xeb7e4c494c4f01007856341201000000ffff04) ∷ piece 24 (hex 13 0x038001005e0000000380010062) ∷ piece 48 (hex 21 0x038001005f00000003800100600000000380010061) ∷ piece 128 (replicate 312 144) ∷ piece 450 (hex 10 0x8100000040000000c00f) ∷ piece 510 (hex 2 0x55aa) ∷ [])) × (map_size (planned (disks_of disk_other) machine_other volume_other conf_other 305419896) machine_other ≡ 13)
unfolding number16 number32 is_zero has_ranges has_address is_slot is_one_slot chs_of address_of slot_of some_slot slot_at slot_bytes to_chs to_lba sector_at sectors_of place_at slot_make could_be_one named_device entry_at entries_of table_entries is_link is_plain link_of logical_of listed linked_sector chain_entries chain_tables partitions_of numbered_span span_of disk_name last_partition partition_name device_name devices_of named_devices device_at disk_number device_number kind_of super_of super_checks super_in super_at with_counts super_bytes v1_inode v2_inode inode_of inode_at v1_inode_bytes v2_inode_bytes inode_bytes kept_inode inode_place bit with_bit parts_of volume_at number_in follow pointer_by inside follow_at zone_at block_at content_at entry_of entries_in minixentries_entry_at find_entry entries_at is_dots components child find_path file_block file_at zone_number block content entry first_named lookup reached thing names names_in IsSound child_path path_of link_at section file_content section_bytes is_bootable has_signature has_options has_names has_slots has_no_message has_whole_message has_message has_zeros is_whole timeout_of table_slots boot_of boot_at field_bytes merged_sector is_set entry_name is_printable is_name has_flags has_video has_length has_main has_initrd has_extra is_entry descriptor_of entry_bytes same_name repeats breaks table_at descriptor_bytes options_at extra_at options_bytes extra_bytes is_line line_of line_at line_bytes is_same_line names_of_section names_of_config started menu_decision menu_boot file_of middle_text target_of menu_entries menu_of meant slot_to slots_for chain_for file_slots file_sectors section_sectors_at flags_of descriptor_for plan_entries sectors_of_table sectors_after plan_sectors map_size plan_names plan_boot plan_boot_sector devices_in inode_places mapped_inode file_inode mapped_section code_in planned
plan_two_other_systems = (refl, refl, refl)

-- the table of the boot device
pub plan_the_table_of_the_boot_device : (plan_sectors (planned (disks_of disk_own_table) machine_own_table volume_own_table conf_own_table 305419896) machine_own_table (on 0 (94 ∷ 95 ∷ 96 ∷ 97 ∷ 98 ∷ 99 ∷ 100 ∷ 101 ∷ 102 ∷ 103 ∷ [])) ≡ (file 512 (piece 0 (codes "LINE") ∷ [])) ∷ (file 512 (piece 0 (codes "linux") ∷ piece 16 (hex 39 0x4000000005040000bc020000038001006300000003800100640000000380010065000000010001) ∷ piece 64 (codes "win") ∷ piece 80 (hex 1 0x81) ∷ piece 85 (hex 1 0x04) ∷ piece 92 (hex 13 0x03800100660000000380010067) ∷ piece 116 (hex 1 0x01) ∷ [])) ∷ (file 512 []) ∷ (file 512 []) ∷ (file 512 []) ∷ (file 512 (piece 0 (hex 1 0x0c) ∷ piece 8 (codes " ro root=301") ∷ [])) ∷ (file 512 (piece 0 (hex 21 0x038001005200000003800100530000000380010054) ∷ [])) ∷ (file 512 (piece 0 (hex 13 0x03800100560000000380010057) ∷ [])) ∷ (file 512 []) ∷ (file 512 (piece 0 (hex 11 0x038101003f000000038001) ∷ [])) ∷ []) × (plan_boot_sector (planned (disks_of disk_own_table) machine_own_table volume_own_table conf_own_table 305419896) machine_own_table (on 0 (94 ∷ 95 ∷ 96 ∷ 97 ∷ 98 ∷ 99 ∷ 100 ∷ 101 ∷ 102 ∷ 103 ∷ [])) (disks_of disk_own_table 0 0) ≡ file 512 (piece 0 (hex 19 0xeb7e4c494c4f01007856341201000000320002) ∷ piece 24 (hex 13 0x038001005e0000000380010062) ∷ piece 48 (hex 21 0x038001005f00000003800100600000000380010061) ∷ piece 128 (replicate 312 144) ∷ piece 450 (hex 10 0x8100000040000000c00f) ∷ piece 510 (hex 2 0x55aa) ∷ [])) × (map_size (planned (disks_of disk_own_table) machine_own_table volume_own_table conf_own_table 305419896) machine_own_table ≡ 10)
unfolding number16 number32 is_zero has_ranges has_address is_slot is_one_slot chs_of address_of slot_of some_slot slot_at slot_bytes to_chs to_lba sector_at sectors_of place_at slot_make could_be_one named_device entry_at entries_of table_entries is_link is_plain link_of logical_of listed linked_sector chain_entries chain_tables partitions_of numbered_span span_of disk_name last_partition partition_name device_name devices_of named_devices device_at disk_number device_number kind_of super_of super_checks super_in super_at with_counts super_bytes v1_inode v2_inode inode_of inode_at v1_inode_bytes v2_inode_bytes inode_bytes kept_inode inode_place bit with_bit parts_of volume_at number_in follow pointer_by inside follow_at zone_at block_at content_at entry_of entries_in minixentries_entry_at find_entry entries_at is_dots components child find_path file_block file_at zone_number block content entry first_named lookup reached thing names names_in IsSound child_path path_of link_at section file_content section_bytes is_bootable has_signature has_options has_names has_slots has_no_message has_whole_message has_message has_zeros is_whole timeout_of table_slots boot_of boot_at field_bytes merged_sector is_set entry_name is_printable is_name has_flags has_video has_length has_main has_initrd has_extra is_entry descriptor_of entry_bytes same_name repeats breaks table_at descriptor_bytes options_at extra_at options_bytes extra_bytes is_line line_of line_at line_bytes is_same_line names_of_section names_of_config started menu_decision menu_boot file_of middle_text target_of menu_entries menu_of meant slot_to slots_for chain_for file_slots file_sectors section_sectors_at flags_of descriptor_for plan_entries sectors_of_table sectors_after plan_sectors map_size plan_names plan_boot plan_boot_sector devices_in inode_places mapped_inode file_inode mapped_section code_in planned
plan_the_table_of_the_boot_device = (refl, refl, refl)

-- links, an empty initrd, a short code
pub plan_links_an_empty_initrd_a_short_code : (plan_sectors (planned (disks_of disk_link) machine_link volume_link conf_link 305419896) machine_link (on 0 (96 ∷ 97 ∷ 98 ∷ 99 ∷ 100 ∷ 101 ∷ 102 ∷ [])) ≡ (file 512 (piece 0 (codes "LINE") ∷ [])) ∷ (file 512 (piece 0 (codes "linux") ∷ piece 20 (hex 2 0x0504) ∷ piece 28 (hex 13 0x03800100650000000380010066) ∷ piece 52 (hex 1 0x01) ∷ [])) ∷ (file 512 []) ∷ (file 512 []) ∷ (file 512 []) ∷ (file 512 (piece 0 (hex 1 0x0c) ∷ piece 8 (codes " ro root=301") ∷ [])) ∷ (file 512 (piece 0 (hex 21 0x038001005200000003800100530000000380010054) ∷ [])) ∷ []) × (plan_boot_sector (planned (disks_of disk_link) machine_link volume_link conf_link 305419896) machine_link (on 0 (96 ∷ 97 ∷ 98 ∷ 99 ∷ 100 ∷ 101 ∷ 102 ∷ [])) (disks_of disk_link 0 0) ≡ file 512 (piece 0 (hex 12 0xeb7e4c494c4f010078563412) ∷ piece 16 (hex 3 0xffff01) ∷ piece 24 (hex 13 0x03800100600000000380010064) ∷ piece 48 (hex 21 0x038001006100000003800100620000000380010063) ∷ piece 128 (replicate 72 144) ∷ piece 450 (hex 10 0x8100000040000000c00f) ∷ piece 510 (hex 2 0x55aa) ∷ [])) × (map_size (planned (disks_of disk_link) machine_link volume_link conf_link 305419896) machine_link ≡ 7)
unfolding number16 number32 is_zero has_ranges has_address is_slot is_one_slot chs_of address_of slot_of some_slot slot_at slot_bytes to_chs to_lba sector_at sectors_of place_at slot_make could_be_one named_device entry_at entries_of table_entries is_link is_plain link_of logical_of listed linked_sector chain_entries chain_tables partitions_of numbered_span span_of disk_name last_partition partition_name device_name devices_of named_devices device_at disk_number device_number kind_of super_of super_checks super_in super_at with_counts super_bytes v1_inode v2_inode inode_of inode_at v1_inode_bytes v2_inode_bytes inode_bytes kept_inode inode_place bit with_bit parts_of volume_at number_in follow pointer_by inside follow_at zone_at block_at content_at entry_of entries_in minixentries_entry_at find_entry entries_at is_dots components child find_path file_block file_at zone_number block content entry first_named lookup reached thing names names_in IsSound child_path path_of link_at section file_content section_bytes is_bootable has_signature has_options has_names has_slots has_no_message has_whole_message has_message has_zeros is_whole timeout_of table_slots boot_of boot_at field_bytes merged_sector is_set entry_name is_printable is_name has_flags has_video has_length has_main has_initrd has_extra is_entry descriptor_of entry_bytes same_name repeats breaks table_at descriptor_bytes options_at extra_at options_bytes extra_bytes is_line line_of line_at line_bytes is_same_line names_of_section names_of_config started menu_decision menu_boot file_of middle_text target_of menu_entries menu_of meant slot_to slots_for chain_for file_slots file_sectors section_sectors_at flags_of descriptor_for plan_entries sectors_of_table sectors_after plan_sectors map_size plan_names plan_boot plan_boot_sector devices_in inode_places mapped_inode file_inode mapped_section code_in planned
plan_links_an_empty_initrd_a_short_code = (refl, refl, refl)

-- two section sectors
pub plan_two_section_sectors : (plan_sectors (planned (disks_of disk_two_chain) machine_two_chain volume_two_chain conf_two_chain 305419896) machine_two_chain (on 0 (154 ∷ 155 ∷ 156 ∷ 157 ∷ 158 ∷ 159 ∷ 160 ∷ 161 ∷ [])) ≡ (file 512 (piece 0 (codes "LINE") ∷ [])) ∷ (file 512 (piece 0 (codes "linux") ∷ piece 21 (hex 1 0x80) ∷ piece 28 (hex 13 0x038001009f00000003800100a0) ∷ piece 52 (hex 1 0x02) ∷ [])) ∷ (file 512 []) ∷ (file 512 []) ∷ (file 512 []) ∷ (file 512 (piece 0 (hex 1 0x0c) ∷ piece 8 (codes " ro root=301") ∷ [])) ∷ (file 512 (piece 0 (hex 509 0x03800100520000000380010053000000038001005400000003800100550000000380010056000000038001005700000003800100580000000380010059000000038001005a000000038001005b000000038001005c000000038001005d000000038001005e000000038001005f0000000380010060000000038001006100000003800100620000000380010063000000038001006400000003800100650000000380010066000000038001006700000003800100680000000380010069000000038001006a000000038001006b000000038001006c000000038001006d000000038001006e000000038001006f0000000380010070000000038001007100000003800100720000000380010073000000038001007400000003800100750000000380010076000000038001007700000003800100780000000380010079000000038001007a000000038001007b000000038001007c000000038001007d000000038001007e000000038001007f0000000380010080000000038001008100000003800100820000000380010083000000038001008400000003800100850000000380010086000000038001008700000003800100880000000380010089000000038001008a000000038001008b000000038001008c000000038001008d000000038001008e000000038001008f000000038001009000000003800100a1) ∷ [])) ∷ (file 512 (piece 0 (hex 5 0x0380010091) ∷ [])) ∷ []) × (plan_boot_sector (planned (disks_of disk_two_chain) machine_two_chain volume_two_chain conf_two_chain 305419896) machine_two_chain (on 0 (154 ∷ 155 ∷ 156 ∷ 157 ∷ 158 ∷ 159 ∷ 160 ∷ 161 ∷ [])) (disks_of disk_two_chain 0 0) ≡ file 512 (piece 0 (hex 12 0xeb7e4c494c4f010078563412) ∷ piece 16 (hex 3 0xffff01) ∷ piece 24 (hex 13 0x038001009a000000038001009e) ∷ piece 48 (hex 21 0x038001009b000000038001009c000000038001009d) ∷ piece 128 (replicate 312 144) ∷ piece 450 (hex 10 0x8100000040000000c00f) ∷ piece 510 (hex 2 0x55aa) ∷ [])) × (map_size (planned (disks_of disk_two_chain) machine_two_chain volume_two_chain conf_two_chain 305419896) machine_two_chain ≡ 8)
unfolding number16 number32 is_zero has_ranges has_address is_slot is_one_slot chs_of address_of slot_of some_slot slot_at slot_bytes to_chs to_lba sector_at sectors_of place_at slot_make could_be_one named_device entry_at entries_of table_entries is_link is_plain link_of logical_of listed linked_sector chain_entries chain_tables partitions_of numbered_span span_of disk_name last_partition partition_name device_name devices_of named_devices device_at disk_number device_number kind_of super_of super_checks super_in super_at with_counts super_bytes v1_inode v2_inode inode_of inode_at v1_inode_bytes v2_inode_bytes inode_bytes kept_inode inode_place bit with_bit parts_of volume_at number_in follow pointer_by inside follow_at zone_at block_at content_at entry_of entries_in minixentries_entry_at find_entry entries_at is_dots components child find_path file_block file_at zone_number block content entry first_named lookup reached thing names names_in IsSound child_path path_of link_at section file_content section_bytes is_bootable has_signature has_options has_names has_slots has_no_message has_whole_message has_message has_zeros is_whole timeout_of table_slots boot_of boot_at field_bytes merged_sector is_set entry_name is_printable is_name has_flags has_video has_length has_main has_initrd has_extra is_entry descriptor_of entry_bytes same_name repeats breaks table_at descriptor_bytes options_at extra_at options_bytes extra_bytes is_line line_of line_at line_bytes is_same_line names_of_section names_of_config started menu_decision menu_boot file_of middle_text target_of menu_entries menu_of meant slot_to slots_for chain_for file_slots file_sectors section_sectors_at flags_of descriptor_for plan_entries sectors_of_table sectors_after plan_sectors map_size plan_names plan_boot plan_boot_sector devices_in inode_places mapped_inode file_inode mapped_section code_in planned
plan_two_section_sectors = (refl, refl, refl)

-- version 2 with short names
pub plan_version_2_with_short_names : (plan_sectors (planned (disks_of disk_v2_short) machine_v2_short volume_v2_short conf_v2_short 305419896) machine_v2_short (on 0 (98 ∷ 99 ∷ 100 ∷ 101 ∷ 102 ∷ 103 ∷ 104 ∷ 105 ∷ [])) ≡ (file 512 (piece 0 (codes "LINE") ∷ [])) ∷ (file 512 (piece 0 (codes "linux") ∷ piece 16 (hex 39 0x4000000005040000bc020000038001006700000003800100680000000380010069000000010001) ∷ [])) ∷ (file 512 []) ∷ (file 512 []) ∷ (file 512 []) ∷ (file 512 (piece 0 (hex 1 0x0c) ∷ piece 8 (codes " ro root=301") ∷ [])) ∷ (file 512 (piece 0 (hex 21 0x038001005600000003800100570000000380010058) ∷ [])) ∷ (file 512 (piece 0 (hex 13 0x038001005a000000038001005b) ∷ [])) ∷ []) × (plan_boot_sector (planned (disks_of disk_v2_short) machine_v2_short volume_v2_short conf_v2_short 305419896) machine_v2_short (on 0 (98 ∷ 99 ∷ 100 ∷ 101 ∷ 102 ∷ 103 ∷ 104 ∷ 105 ∷ [])) (disks_of disk_v2_short 0 0) ≡ file 512 (piece 0 (hex 19 0xeb7e4c494c4f01007856341201000000320001) ∷ piece 24 (hex 13 0x03800100620000000380010066) ∷ piece 48 (hex 21 0x038001006300000003800100640000000380010065) ∷ piece 128 (replicate 312 144) ∷ piece 450 (hex 10 0x8100000040000000c00f) ∷ piece 510 (hex 2 0x55aa) ∷ [])) × (map_size (planned (disks_of disk_v2_short) machine_v2_short volume_v2_short conf_v2_short 305419896) machine_v2_short ≡ 8)
unfolding number16 number32 is_zero has_ranges has_address is_slot is_one_slot chs_of address_of slot_of some_slot slot_at slot_bytes to_chs to_lba sector_at sectors_of place_at slot_make could_be_one named_device entry_at entries_of table_entries is_link is_plain link_of logical_of listed linked_sector chain_entries chain_tables partitions_of numbered_span span_of disk_name last_partition partition_name device_name devices_of named_devices device_at disk_number device_number kind_of super_of super_checks super_in super_at with_counts super_bytes v1_inode v2_inode inode_of inode_at v1_inode_bytes v2_inode_bytes inode_bytes kept_inode inode_place bit with_bit parts_of volume_at number_in follow pointer_by inside follow_at zone_at block_at content_at entry_of entries_in minixentries_entry_at find_entry entries_at is_dots components child find_path file_block file_at zone_number block content entry first_named lookup reached thing names names_in IsSound child_path path_of link_at section file_content section_bytes is_bootable has_signature has_options has_names has_slots has_no_message has_whole_message has_message has_zeros is_whole timeout_of table_slots boot_of boot_at field_bytes merged_sector is_set entry_name is_printable is_name has_flags has_video has_length has_main has_initrd has_extra is_entry descriptor_of entry_bytes same_name repeats breaks table_at descriptor_bytes options_at extra_at options_bytes extra_bytes is_line line_of line_at line_bytes is_same_line names_of_section names_of_config started menu_decision menu_boot file_of middle_text target_of menu_entries menu_of meant slot_to slots_for chain_for file_slots file_sectors section_sectors_at flags_of descriptor_for plan_entries sectors_of_table sectors_after plan_sectors map_size plan_names plan_boot plan_boot_sector devices_in inode_places mapped_inode file_inode mapped_section code_in planned
plan_version_2_with_short_names = (refl, refl, refl)

-- version 1 with short names, odd geometry
pub plan_version_1_with_short_names_odd_geometry : (plan_sectors (planned (disks_of disk_v1_short) machine_v1_short volume_v1_short conf_v1_short 305419896) machine_v1_short (on 0 (45 ∷ 46 ∷ 47 ∷ 48 ∷ 49 ∷ 50 ∷ 51 ∷ 52 ∷ [])) ≡ (file 512 (piece 0 (codes "LINE") ∷ [])) ∷ (file 512 (piece 0 (codes "linux") ∷ piece 16 (hex 39 0x4000000005040000bc020000028001003200000002800100330000000280010034000000010001) ∷ [])) ∷ (file 512 []) ∷ (file 512 []) ∷ (file 512 []) ∷ (file 512 (piece 0 (hex 1 0x0c) ∷ piece 8 (codes " ro root=301") ∷ [])) ∷ (file 512 (piece 0 (hex 5 0x0280030021) ∷ [])) ∷ (file 512 (piece 0 (hex 5 0x0280020025) ∷ [])) ∷ []) × (plan_boot_sector (planned (disks_of disk_v1_short) machine_v1_short volume_v1_short conf_v1_short 305419896) machine_v1_short (on 0 (45 ∷ 46 ∷ 47 ∷ 48 ∷ 49 ∷ 50 ∷ 51 ∷ 52 ∷ [])) (disks_of disk_v1_short 0 0) ≡ file 512 (piece 0 (hex 19 0xeb7e4c494c4f01007856341201000000320001) ∷ piece 24 (hex 13 0x028001002d0000000280010031) ∷ piece 48 (hex 21 0x028001002e000000028001002f0000000280010030) ∷ piece 128 (replicate 312 144) ∷ piece 450 (hex 10 0x8100000011000000d007) ∷ piece 510 (hex 2 0x55aa) ∷ [])) × (map_size (planned (disks_of disk_v1_short) machine_v1_short volume_v1_short conf_v1_short 305419896) machine_v1_short ≡ 8)
unfolding number16 number32 is_zero has_ranges has_address is_slot is_one_slot chs_of address_of slot_of some_slot slot_at slot_bytes to_chs to_lba sector_at sectors_of place_at slot_make could_be_one named_device entry_at entries_of table_entries is_link is_plain link_of logical_of listed linked_sector chain_entries chain_tables partitions_of numbered_span span_of disk_name last_partition partition_name device_name devices_of named_devices device_at disk_number device_number kind_of super_of super_checks super_in super_at with_counts super_bytes v1_inode v2_inode inode_of inode_at v1_inode_bytes v2_inode_bytes inode_bytes kept_inode inode_place bit with_bit parts_of volume_at number_in follow pointer_by inside follow_at zone_at block_at content_at entry_of entries_in minixentries_entry_at find_entry entries_at is_dots components child find_path file_block file_at zone_number block content entry first_named lookup reached thing names names_in IsSound child_path path_of link_at section file_content section_bytes is_bootable has_signature has_options has_names has_slots has_no_message has_whole_message has_message has_zeros is_whole timeout_of table_slots boot_of boot_at field_bytes merged_sector is_set entry_name is_printable is_name has_flags has_video has_length has_main has_initrd has_extra is_entry descriptor_of entry_bytes same_name repeats breaks table_at descriptor_bytes options_at extra_at options_bytes extra_bytes is_line line_of line_at line_bytes is_same_line names_of_section names_of_config started menu_decision menu_boot file_of middle_text target_of menu_entries menu_of meant slot_to slots_for chain_for file_slots file_sectors section_sectors_at flags_of descriptor_for plan_entries sectors_of_table sectors_after plan_sectors map_size plan_names plan_boot plan_boot_sector devices_in inode_places mapped_inode file_inode mapped_section code_in planned
plan_version_1_with_short_names_odd_geometry = (refl, refl, refl)

-- a volume on its own partition boots
pub plan_a_volume_on_its_own_partition_boots : (plan_sectors (planned (disks_of disk_whole) machine_whole volume_whole conf_whole 305419896) machine_whole (on 0 (98 ∷ 99 ∷ 100 ∷ 101 ∷ 102 ∷ 103 ∷ 104 ∷ 105 ∷ [])) ≡ (file 512 (piece 0 (codes "LINE") ∷ [])) ∷ (file 512 (piece 0 (codes "linux") ∷ piece 16 (hex 39 0x4000000005040000bc020000038001006700000003800100680000000380010069000000010001) ∷ [])) ∷ (file 512 []) ∷ (file 512 []) ∷ (file 512 []) ∷ (file 512 (piece 0 (hex 1 0x0c) ∷ piece 8 (codes " ro root=301") ∷ [])) ∷ (file 512 (piece 0 (hex 21 0x038001005600000003800100570000000380010058) ∷ [])) ∷ (file 512 (piece 0 (hex 13 0x038001005a000000038001005b) ∷ [])) ∷ []) × (plan_boot_sector (planned (disks_of disk_whole) machine_whole volume_whole conf_whole 305419896) machine_whole (on 0 (98 ∷ 99 ∷ 100 ∷ 101 ∷ 102 ∷ 103 ∷ 104 ∷ 105 ∷ [])) (disks_of disk_whole 0 64) ≡ file 512 (piece 0 (hex 19 0xeb7e4c494c4f01007856341201000000320001) ∷ piece 24 (hex 13 0x03800100620000000380010066) ∷ piece 48 (hex 21 0x038001006300000003800100640000000380010065) ∷ piece 128 (replicate 312 144) ∷ piece 510 (hex 2 0x55aa) ∷ [])) × (map_size (planned (disks_of disk_whole) machine_whole volume_whole conf_whole 305419896) machine_whole ≡ 8)
unfolding number16 number32 is_zero has_ranges has_address is_slot is_one_slot chs_of address_of slot_of some_slot slot_at slot_bytes to_chs to_lba sector_at sectors_of place_at slot_make could_be_one named_device entry_at entries_of table_entries is_link is_plain link_of logical_of listed linked_sector chain_entries chain_tables partitions_of numbered_span span_of disk_name last_partition partition_name device_name devices_of named_devices device_at disk_number device_number kind_of super_of super_checks super_in super_at with_counts super_bytes v1_inode v2_inode inode_of inode_at v1_inode_bytes v2_inode_bytes inode_bytes kept_inode inode_place bit with_bit parts_of volume_at number_in follow pointer_by inside follow_at zone_at block_at content_at entry_of entries_in minixentries_entry_at find_entry entries_at is_dots components child find_path file_block file_at zone_number block content entry first_named lookup reached thing names names_in IsSound child_path path_of link_at section file_content section_bytes is_bootable has_signature has_options has_names has_slots has_no_message has_whole_message has_message has_zeros is_whole timeout_of table_slots boot_of boot_at field_bytes merged_sector is_set entry_name is_printable is_name has_flags has_video has_length has_main has_initrd has_extra is_entry descriptor_of entry_bytes same_name repeats breaks table_at descriptor_bytes options_at extra_at options_bytes extra_bytes is_line line_of line_at line_bytes is_same_line names_of_section names_of_config started menu_decision menu_boot file_of middle_text target_of menu_entries menu_of meant slot_to slots_for chain_for file_slots file_sectors section_sectors_at flags_of descriptor_for plan_entries sectors_of_table sectors_after plan_sectors map_size plan_names plan_boot plan_boot_sector devices_in inode_places mapped_inode file_inode mapped_section code_in planned
plan_a_volume_on_its_own_partition_boots = (refl, refl, refl)

-- compact, a message, an initrd, and two other systems, one with the table of the boot device
pub plan_compact_a_message_an_initrd_and_two_other_systems_one_with_the_table_of_the_boot_device : (plan_sectors (planned (disks_of disk_full) machine_full volume_full conf_full 305419896) machine_full (on 0 (96 ∷ 97 ∷ 98 ∷ 99 ∷ 100 ∷ 101 ∷ 102 ∷ 103 ∷ 104 ∷ 105 ∷ 106 ∷ 107 ∷ 108 ∷ 109 ∷ [])) ≡ (file 512 (piece 0 (codes "LINE") ∷ [])) ∷ (file 512 (piece 0 (codes "linux") ∷ piece 16 (hex 49 0x4200000005040000bc0200000380010066000000038001006800000003800100690000000100010003800100670000006c) ∷ piece 80 (hex 51 0x4200000005040000bc020000038001006600000003800100680000000380010069000000010001000380010067000000646f73) ∷ piece 144 (hex 1 0x81) ∷ piece 149 (hex 1 0x04) ∷ piece 156 (hex 13 0x038001006a000000038001006b) ∷ piece 180 (hex 1 0x01) ∷ piece 192 (codes "win") ∷ piece 208 (hex 1 0x01) ∷ piece 213 (hex 1 0x02) ∷ piece 220 (hex 13 0x038001006c000000038001006d) ∷ piece 244 (hex 1 0x01) ∷ [])) ∷ (file 512 []) ∷ (file 512 []) ∷ (file 512 []) ∷ (file 512 (piece 0 (hex 5 0x038001005a) ∷ [])) ∷ (file 512 (piece 0 (hex 1 0x0c) ∷ piece 8 (codes " ro root=301") ∷ [])) ∷ (file 512 (piece 2 (hex 1 0x03) ∷ piece 480 (codes "tux") ∷ [])) ∷ (file 512 (piece 0 (hex 5 0x0380030052) ∷ [])) ∷ (file 512 (piece 0 (hex 5 0x0380020056) ∷ [])) ∷ (file 512 []) ∷ (file 512 (piece 0 (hex 3 0x038101) ∷ piece 8 (hex 3 0x038001) ∷ [])) ∷ (file 512 []) ∷ (file 512 (piece 0 (hex 5 0x038101003f) ∷ [])) ∷ []) × (plan_boot_sector (planned (disks_of disk_full) machine_full volume_full conf_full 305419896) machine_full (on 0 (96 ∷ 97 ∷ 98 ∷ 99 ∷ 100 ∷ 101 ∷ 102 ∷ 103 ∷ 104 ∷ 105 ∷ 106 ∷ 107 ∷ 108 ∷ 109 ∷ [])) (disks_of disk_full 0 0) ≡ file 512 (piece 0 (hex 69 0xeb7e4c494c4f010078563412010000003200040006000100038001006000000003800100640000000380010065000000038001006100000003800100620000000380010063) ∷ piece 128 (replicate 312 144) ∷ piece 450 (hex 10 0x8100000040000000c00f) ∷ piece 510 (hex 2 0x55aa) ∷ [])) × (map_size (planned (disks_of disk_full) machine_full volume_full conf_full 305419896) machine_full ≡ 14)
unfolding number16 number32 is_zero has_ranges has_address is_slot is_one_slot chs_of address_of slot_of some_slot slot_at slot_bytes to_chs to_lba sector_at sectors_of place_at slot_make could_be_one named_device entry_at entries_of table_entries is_link is_plain link_of logical_of listed linked_sector chain_entries chain_tables partitions_of numbered_span span_of disk_name last_partition partition_name device_name devices_of named_devices device_at disk_number device_number kind_of super_of super_checks super_in super_at with_counts super_bytes v1_inode v2_inode inode_of inode_at v1_inode_bytes v2_inode_bytes inode_bytes kept_inode inode_place bit with_bit parts_of volume_at number_in follow pointer_by inside follow_at zone_at block_at content_at entry_of entries_in minixentries_entry_at find_entry entries_at is_dots components child find_path file_block file_at zone_number block content entry first_named lookup reached thing names names_in IsSound child_path path_of link_at section file_content section_bytes is_bootable has_signature has_options has_names has_slots has_no_message has_whole_message has_message has_zeros is_whole timeout_of table_slots boot_of boot_at field_bytes merged_sector is_set entry_name is_printable is_name has_flags has_video has_length has_main has_initrd has_extra is_entry descriptor_of entry_bytes same_name repeats breaks table_at descriptor_bytes options_at extra_at options_bytes extra_bytes is_line line_of line_at line_bytes is_same_line names_of_section names_of_config started menu_decision menu_boot file_of middle_text target_of menu_entries menu_of meant slot_to slots_for chain_for file_slots file_sectors section_sectors_at flags_of descriptor_for plan_entries sectors_of_table sectors_after plan_sectors map_size plan_names plan_boot plan_boot_sector devices_in inode_places mapped_inode file_inode mapped_section code_in planned
plan_compact_a_message_an_initrd_and_two_other_systems_one_with_the_table_of_the_boot_device = (refl, refl, refl)

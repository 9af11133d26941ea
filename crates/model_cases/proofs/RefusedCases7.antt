-- Cases of the model, written by tools/plan_cases.py: why no map is planned.
use Rattle.std.proofs.Common.{◌≡◌, ◌∷◌, [], true, false, codes, None, Some, Err, refl}
use Rattle.std.specs.Fmt.{digits}
use Rattle.lilo_model.specs.BootSector.{is_bootable, has_signature, has_options, has_names, has_slots, has_no_message, has_whole_message, has_message, has_zeros, is_whole, timeout_of, table_slots, boot_of, boot_at, field_bytes, merged_sector}
use Rattle.lilo_model.specs.Bytes.{number16, number32, is_zero}
use Rattle.lilo_model.specs.Conf.{Unsaid, ReadOnlyMount}
use Rattle.lilo_model.specs.ConfLawful.{names_of_section, names_of_config}
use Rattle.lilo_model.specs.ConfOptions.{opt_name, all_options, option_at, opt_number, takes_of, places_of, stands_in, opens, is_of_disk, is_of_name, excluded_by}
use Rattle.lilo_model.specs.Devices.{disk_name, last_partition, partition_name, device_name, devices_of, named_devices, device_at, disk_number, device_number}
use Rattle.lilo_model.specs.Header.{setup_of, version_of, header_of, header_at, fit_checks, plan_memory, replaced_fields, patch}
use Rattle.lilo_model.specs.Meant.{started, menu_decision, menu_boot, file_of, middle_text, target_of, menu_entries, menu_of, meant}
use Rattle.lilo_model.specs.MinixEntries.{entry_of, entries_in, entry_at as minixentries_entry_at, find_entry, entries_at, is_dots}
use Rattle.lilo_model.specs.MinixFind.{components, child, find_path, file_block, file_at}
use Rattle.lilo_model.specs.MinixFindNames.{child_path, path_of}
use Rattle.lilo_model.specs.MinixLayout.{kind_of, super_of, super_checks, super_in, super_at, with_counts, super_bytes, v1_inode, v2_inode, inode_of, inode_at, v1_inode_bytes, v2_inode_bytes, inode_bytes, kept_inode, inode_place, V1Long}
use Rattle.lilo_model.specs.MinixNames.{zone_number, block, content, entry, first_named, lookup, reached, thing, names, names_in, IsSound}
use Rattle.lilo_model.specs.MinixParts.{bit, with_bit, parts_of, volume_at, number_in, follow, pointer_by, inside, follow_at, zone_at, block_at, content_at}
use Rattle.lilo_model.specs.Partitions.{named_device, entry_at, entries_of, table_entries, is_link, is_plain, link_of, logical_of, listed, linked_sector, chain_entries, chain_tables, partitions_of, numbered_span, span_of}
use Rattle.lilo_model.specs.Place.{command_line, written_by, place, kernel_fit}
use Rattle.lilo_model.specs.Plan.{slot_to, slots_for, chain_for, file_slots, file_sectors, section_sectors_at, flags_of, descriptor_for, plan_entries, sectors_of_table, sectors_after, plan_sectors, map_size, plan_names, plan_boot, plan_boot_sector}
use Rattle.lilo_model.specs.PlanRefusal.{file_checks, held_checks, address_checks, plan_at, own_places_check, plan_text, Missing, NoImagesLeft, GeometryDiffers, plan_status}
use Rattle.lilo_model.specs.Planned.{devices_in, inode_places, mapped_inode, file_inode, mapped_section, code_in, planned}
use Rattle.lilo_model.specs.Slots.{has_ranges, has_address, is_slot, is_one_slot, chs_of, address_of, slot_of, some_slot, slot_at, slot_bytes, to_chs, to_lba, sector_at, sectors_of, place_at, slot_make, could_be_one, ChsMode}
use Rattle.lilo_model.specs.ConfOptions as options
use Rattle.model_cases.specs.Sparse.{disks_of, disk_with, machine_of}
use Rattle.model_cases.specs.PlanDisks.{disk_systems}

-- an omitted default comes before that no image is left
pub refused_an_omitted_default_comes_before_that_no_image_is_left : (plan_at (disks_of disk_systems) (machine_of (disk_with 4096 16 63 ∷ disk_with 2000 4 17 ∷ [])) (record { span = record { disk = 0; start = 64; count = 4032 }; layout = record { kind = V1Long; inodes = 64; zones = 2016; imap = 1; zmap = 1; first = 6; max_size = 268966912; state = 1 } }) (record { disk = 0; start = 0; count = 4096 }) (record { boot = (Some (record { disk = 0; partition = 0 })); map = (codes "/boot/map"); install = (Some (codes "/boot/boot.b")); backup = None; force_backup = None; compact = false; mode = ChsMode; default_name = (Some (codes "b")); delay = 0; timeout = None; prompt = false; message = None; disks = []; sections = ((record { other = None; path = (codes "/gone"); label = (codes "a"); alias = None; initrd = None; root = None; mount = Unsaid; append = None; literal = None; vga = None; password = None; restricted = false; optional = true; lock = false; fallback = None; table = None; line = 5 }) ∷ (record { other = None; path = (codes "/gone2"); label = (codes "b"); alias = None; initrd = None; root = None; mount = Unsaid; append = None; literal = None; vga = None; password = None; restricted = false; optional = true; lock = false; fallback = None; table = None; line = 8 }) ∷ []) }) 0 ≡ Err (Missing (codes "b"))) × (plan_status (Missing (codes "b")) ≡ 3) × (plan_text (Missing (codes "b")) ≡ (codes "missing b"))
unfolding number16 number32 is_zero has_ranges has_address is_slot is_one_slot chs_of address_of slot_of some_slot slot_at slot_bytes to_chs to_lba sector_at sectors_of place_at slot_make could_be_one named_device entry_at entries_of table_entries is_link is_plain link_of logical_of listed linked_sector chain_entries chain_tables partitions_of numbered_span span_of disk_name last_partition partition_name device_name devices_of named_devices device_at disk_number device_number kind_of super_of super_checks super_in super_at with_counts super_bytes v1_inode v2_inode inode_of inode_at v1_inode_bytes v2_inode_bytes inode_bytes kept_inode inode_place bit with_bit parts_of volume_at number_in follow pointer_by inside follow_at zone_at block_at content_at entry_of entries_in minixentries_entry_at find_entry entries_at is_dots components child find_path file_block file_at zone_number block content entry first_named lookup reached thing names names_in IsSound child_path path_of is_bootable has_signature has_options has_names has_slots has_no_message has_whole_message has_message has_zeros is_whole timeout_of table_slots boot_of boot_at field_bytes merged_sector names_of_section names_of_config started menu_decision menu_boot file_of middle_text target_of menu_entries menu_of meant slot_to slots_for chain_for file_slots file_sectors section_sectors_at flags_of descriptor_for plan_entries sectors_of_table sectors_after plan_sectors map_size plan_names plan_boot plan_boot_sector devices_in inode_places mapped_inode file_inode mapped_section code_in planned file_checks held_checks address_checks plan_at own_places_check plan_text opt_name all_options option_at opt_number takes_of places_of stands_in opens is_of_disk is_of_name excluded_by setup_of version_of header_of header_at fit_checks plan_memory replaced_fields patch command_line written_by place kernel_fit digits
refused_an_omitted_default_comes_before_that_no_image_is_left = (refl, refl, refl)

-- the alias of an omitted section is the default
pub refused_the_alias_of_an_omitted_section_is_the_default : (plan_at (disks_of disk_systems) (machine_of (disk_with 4096 16 63 ∷ disk_with 2000 4 17 ∷ [])) (record { span = record { disk = 0; start = 64; count = 4032 }; layout = record { kind = V1Long; inodes = 64; zones = 2016; imap = 1; zmap = 1; first = 6; max_size = 268966912; state = 1 } }) (record { disk = 0; start = 0; count = 4096 }) (record { boot = (Some (record { disk = 0; partition = 0 })); map = (codes "/boot/map"); install = (Some (codes "/boot/boot.b")); backup = None; force_backup = None; compact = false; mode = ChsMode; default_name = (Some (codes "bb")); delay = 0; timeout = None; prompt = false; message = None; disks = []; sections = ((record { other = None; path = (codes "/boot/vmlinuz"); label = (codes "linux"); alias = None; initrd = (Some (codes "/boot/initrd")); root = None; mount = ReadOnlyMount; append = None; literal = None; vga = None; password = None; restricted = false; optional = false; lock = false; fallback = None; table = None; line = 5 }) ∷ (record { other = None; path = (codes "/gone"); label = (codes "b"); alias = (Some (codes "bb")); initrd = None; root = None; mount = Unsaid; append = None; literal = None; vga = None; password = None; restricted = false; optional = true; lock = false; fallback = None; table = None; line = 9 }) ∷ []) }) 0 ≡ Err (Missing (codes "bb"))) × (plan_status (Missing (codes "bb")) ≡ 3) × (plan_text (Missing (codes "bb")) ≡ (codes "missing bb"))
unfolding number16 number32 is_zero has_ranges has_address is_slot is_one_slot chs_of address_of slot_of some_slot slot_at slot_bytes to_chs to_lba sector_at sectors_of place_at slot_make could_be_one named_device entry_at entries_of table_entries is_link is_plain link_of logical_of listed linked_sector chain_entries chain_tables partitions_of numbered_span span_of disk_name last_partition partition_name device_name devices_of named_devices device_at disk_number device_number kind_of super_of super_checks super_in super_at with_counts super_bytes v1_inode v2_inode inode_of inode_at v1_inode_bytes v2_inode_bytes inode_bytes kept_inode inode_place bit with_bit parts_of volume_at number_in follow pointer_by inside follow_at zone_at block_at content_at entry_of entries_in minixentries_entry_at find_entry entries_at is_dots components child find_path file_block file_at zone_number block content entry first_named lookup reached thing names names_in IsSound child_path path_of is_bootable has_signature has_options has_names has_slots has_no_message has_whole_message has_message has_zeros is_whole timeout_of table_slots boot_of boot_at field_bytes merged_sector names_of_section names_of_config started menu_decision menu_boot file_of middle_text target_of menu_entries menu_of meant slot_to slots_for chain_for file_slots file_sectors section_sectors_at flags_of descriptor_for plan_entries sectors_of_table sectors_after plan_sectors map_size plan_names plan_boot plan_boot_sector devices_in inode_places mapped_inode file_inode mapped_section code_in planned file_checks held_checks address_checks plan_at own_places_check plan_text opt_name all_options option_at opt_number takes_of places_of stands_in opens is_of_disk is_of_name excluded_by setup_of version_of header_of header_at fit_checks plan_memory replaced_fields patch command_line written_by place kernel_fit digits
refused_the_alias_of_an_omitted_section_is_the_default = (refl, refl, refl)

-- that no image is left comes before a geometry
pub refused_that_no_image_is_left_comes_before_a_geometry : (plan_at (disks_of disk_systems) (machine_of (disk_with 4096 16 63 ∷ disk_with 2000 4 17 ∷ [])) (record { span = record { disk = 0; start = 64; count = 4032 }; layout = record { kind = V1Long; inodes = 64; zones = 2016; imap = 1; zmap = 1; first = 6; max_size = 268966912; state = 1 } }) (record { disk = 0; start = 0; count = 4096 }) (record { boot = (Some (record { disk = 0; partition = 0 })); map = (codes "/boot/map"); install = (Some (codes "/boot/boot.b")); backup = None; force_backup = None; compact = false; mode = ChsMode; default_name = None; delay = 0; timeout = None; prompt = false; message = None; disks = ((record { device = (record { disk = 0; partition = 0 }); bios = (Some 128); sectors = None; heads = (Some 15); line = 4 }) ∷ []); sections = ((record { other = None; path = (codes "/gone"); label = (codes "a"); alias = None; initrd = None; root = None; mount = Unsaid; append = None; literal = None; vga = None; password = None; restricted = false; optional = true; lock = false; fallback = None; table = None; line = 5 }) ∷ []) }) 0 ≡ Err (NoImagesLeft)) × (plan_status (NoImagesLeft) ≡ 3) × (plan_text (NoImagesLeft) ≡ (codes "no images left"))
unfolding number16 number32 is_zero has_ranges has_address is_slot is_one_slot chs_of address_of slot_of some_slot slot_at slot_bytes to_chs to_lba sector_at sectors_of place_at slot_make could_be_one named_device entry_at entries_of table_entries is_link is_plain link_of logical_of listed linked_sector chain_entries chain_tables partitions_of numbered_span span_of disk_name last_partition partition_name device_name devices_of named_devices device_at disk_number device_number kind_of super_of super_checks super_in super_at with_counts super_bytes v1_inode v2_inode inode_of inode_at v1_inode_bytes v2_inode_bytes inode_bytes kept_inode inode_place bit with_bit parts_of volume_at number_in follow pointer_by inside follow_at zone_at block_at content_at entry_of entries_in minixentries_entry_at find_entry entries_at is_dots components child find_path file_block file_at zone_number block content entry first_named lookup reached thing names names_in IsSound child_path path_of is_bootable has_signature has_options has_names has_slots has_no_message has_whole_message has_message has_zeros is_whole timeout_of table_slots boot_of boot_at field_bytes merged_sector names_of_section names_of_config started menu_decision menu_boot file_of middle_text target_of menu_entries menu_of meant slot_to slots_for chain_for file_slots file_sectors section_sectors_at flags_of descriptor_for plan_entries sectors_of_table sectors_after plan_sectors map_size plan_names plan_boot plan_boot_sector devices_in inode_places mapped_inode file_inode mapped_section code_in planned file_checks held_checks address_checks plan_at own_places_check plan_text opt_name all_options option_at opt_number takes_of places_of stands_in opens is_of_disk is_of_name excluded_by setup_of version_of header_of header_at fit_checks plan_memory replaced_fields patch command_line written_by place kernel_fit digits
refused_that_no_image_is_left_comes_before_a_geometry = (refl, refl, refl)

-- an omitted default comes before a geometry
pub refused_an_omitted_default_comes_before_a_geometry : (plan_at (disks_of disk_systems) (machine_of (disk_with 4096 16 63 ∷ disk_with 2000 4 17 ∷ [])) (record { span = record { disk = 0; start = 64; count = 4032 }; layout = record { kind = V1Long; inodes = 64; zones = 2016; imap = 1; zmap = 1; first = 6; max_size = 268966912; state = 1 } }) (record { disk = 0; start = 0; count = 4096 }) (record { boot = (Some (record { disk = 0; partition = 0 })); map = (codes "/boot/map"); install = (Some (codes "/boot/boot.b")); backup = None; force_backup = None; compact = false; mode = ChsMode; default_name = (Some (codes "a")); delay = 0; timeout = None; prompt = false; message = None; disks = ((record { device = (record { disk = 0; partition = 0 }); bios = (Some 128); sectors = None; heads = (Some 15); line = 5 }) ∷ []); sections = ((record { other = None; path = (codes "/boot/vmlinuz"); label = (codes "linux"); alias = None; initrd = (Some (codes "/boot/initrd")); root = None; mount = ReadOnlyMount; append = None; literal = None; vga = None; password = None; restricted = false; optional = false; lock = false; fallback = None; table = None; line = 6 }) ∷ (record { other = None; path = (codes "/gone"); label = (codes "a"); alias = None; initrd = None; root = None; mount = Unsaid; append = None; literal = None; vga = None; password = None; restricted = false; optional = true; lock = false; fallback = None; table = None; line = 10 }) ∷ []) }) 0 ≡ Err (Missing (codes "a"))) × (plan_status (Missing (codes "a")) ≡ 3) × (plan_text (Missing (codes "a")) ≡ (codes "missing a"))
unfolding number16 number32 is_zero has_ranges has_address is_slot is_one_slot chs_of address_of slot_of some_slot slot_at slot_bytes to_chs to_lba sector_at sectors_of place_at slot_make could_be_one named_device entry_at entries_of table_entries is_link is_plain link_of logical_of listed linked_sector chain_entries chain_tables partitions_of numbered_span span_of disk_name last_partition partition_name device_name devices_of named_devices device_at disk_number device_number kind_of super_of super_checks super_in super_at with_counts super_bytes v1_inode v2_inode inode_of inode_at v1_inode_bytes v2_inode_bytes inode_bytes kept_inode inode_place bit with_bit parts_of volume_at number_in follow pointer_by inside follow_at zone_at block_at content_at entry_of entries_in minixentries_entry_at find_entry entries_at is_dots components child find_path file_block file_at zone_number block content entry first_named lookup reached thing names names_in IsSound child_path path_of is_bootable has_signature has_options has_names has_slots has_no_message has_whole_message has_message has_zeros is_whole timeout_of table_slots boot_of boot_at field_bytes merged_sector names_of_section names_of_config started menu_decision menu_boot file_of middle_text target_of menu_entries menu_of meant slot_to slots_for chain_for file_slots file_sectors section_sectors_at flags_of descriptor_for plan_entries sectors_of_table sectors_after plan_sectors map_size plan_names plan_boot plan_boot_sector devices_in inode_places mapped_inode file_inode mapped_section code_in planned file_checks held_checks address_checks plan_at own_places_check plan_text opt_name all_options option_at opt_number takes_of places_of stands_in opens is_of_disk is_of_name excluded_by setup_of version_of header_of header_at fit_checks plan_memory replaced_fields patch command_line written_by place kernel_fit digits
refused_an_omitted_default_comes_before_a_geometry = (refl, refl, refl)

-- a missing kernel comes before a geometry
pub refused_a_missing_kernel_comes_before_a_geometry : (plan_at (disks_of disk_systems) (machine_of (disk_with 4096 16 63 ∷ disk_with 2000 4 17 ∷ [])) (record { span = record { disk = 0; start = 64; count = 4032 }; layout = record { kind = V1Long; inodes = 64; zones = 2016; imap = 1; zmap = 1; first = 6; max_size = 268966912; state = 1 } }) (record { disk = 0; start = 0; count = 4096 }) (record { boot = (Some (record { disk = 0; partition = 0 })); map = (codes "/boot/map"); install = (Some (codes "/boot/boot.b")); backup = None; force_backup = None; compact = false; mode = ChsMode; default_name = None; delay = 0; timeout = None; prompt = false; message = None; disks = ((record { device = (record { disk = 0; partition = 0 }); bios = (Some 128); sectors = None; heads = (Some 15); line = 4 }) ∷ []); sections = ((record { other = None; path = (codes "/gone"); label = (codes "a"); alias = None; initrd = None; root = None; mount = Unsaid; append = None; literal = None; vga = None; password = None; restricted = false; optional = false; lock = false; fallback = None; table = None; line = 5 }) ∷ []) }) 0 ≡ Err (Missing (codes "/gone"))) × (plan_status (Missing (codes "/gone")) ≡ 3) × (plan_text (Missing (codes "/gone")) ≡ (codes "missing /gone"))
unfolding number16 number32 is_zero has_ranges has_address is_slot is_one_slot chs_of address_of slot_of some_slot slot_at slot_bytes to_chs to_lba sector_at sectors_of place_at slot_make could_be_one named_device entry_at entries_of table_entries is_link is_plain link_of logical_of listed linked_sector chain_entries chain_tables partitions_of numbered_span span_of disk_name last_partition partition_name device_name devices_of named_devices device_at disk_number device_number kind_of super_of super_checks super_in super_at with_counts super_bytes v1_inode v2_inode inode_of inode_at v1_inode_bytes v2_inode_bytes inode_bytes kept_inode inode_place bit with_bit parts_of volume_at number_in follow pointer_by inside follow_at zone_at block_at content_at entry_of entries_in minixentries_entry_at find_entry entries_at is_dots components child find_path file_block file_at zone_number block content entry first_named lookup reached thing names names_in IsSound child_path path_of is_bootable has_signature has_options has_names has_slots has_no_message has_whole_message has_message has_zeros is_whole timeout_of table_slots boot_of boot_at field_bytes merged_sector names_of_section names_of_config started menu_decision menu_boot file_of middle_text target_of menu_entries menu_of meant slot_to slots_for chain_for file_slots file_sectors section_sectors_at flags_of descriptor_for plan_entries sectors_of_table sectors_after plan_sectors map_size plan_names plan_boot plan_boot_sector devices_in inode_places mapped_inode file_inode mapped_section code_in planned file_checks held_checks address_checks plan_at own_places_check plan_text opt_name all_options option_at opt_number takes_of places_of stands_in opens is_of_disk is_of_name excluded_by setup_of version_of header_of header_at fit_checks plan_memory replaced_fields patch command_line written_by place kernel_fit digits
refused_a_missing_kernel_comes_before_a_geometry = (refl, refl, refl)

-- the geometry of the second disk
pub refused_the_geometry_of_the_second_disk : (plan_at (disks_of disk_systems) (machine_of (disk_with 4096 16 63 ∷ disk_with 2000 4 17 ∷ [])) (record { span = record { disk = 0; start = 64; count = 4032 }; layout = record { kind = V1Long; inodes = 64; zones = 2016; imap = 1; zmap = 1; first = 6; max_size = 268966912; state = 1 } }) (record { disk = 0; start = 0; count = 4096 }) (record { boot = (Some (record { disk = 0; partition = 0 })); map = (codes "/boot/map"); install = (Some (codes "/boot/boot.b")); backup = None; force_backup = None; compact = false; mode = ChsMode; default_name = None; delay = 0; timeout = None; prompt = false; message = None; disks = ((record { device = (record { disk = 0; partition = 0 }); bios = (Some 128); sectors = (Some 63); heads = (Some 16); line = 4 }) ∷ (record { device = (record { disk = 1; partition = 0 }); bios = None; sectors = (Some 18); heads = None; line = 5 }) ∷ []); sections = ((record { other = None; path = (codes "/boot/vmlinuz"); label = (codes "linux"); alias = None; initrd = (Some (codes "/boot/initrd")); root = None; mount = ReadOnlyMount; append = None; literal = None; vga = None; password = None; restricted = false; optional = false; lock = false; fallback = None; table = None; line = 6 }) ∷ []) }) 0 ≡ Err (GeometryDiffers options.Sectors 17)) × (plan_status (GeometryDiffers options.Sectors 17) ≡ 4) × (plan_text (GeometryDiffers options.Sectors 17) ≡ (codes "geometry sectors is 17"))
unfolding number16 number32 is_zero has_ranges has_address is_slot is_one_slot chs_of address_of slot_of some_slot slot_at slot_bytes to_chs to_lba sector_at sectors_of place_at slot_make could_be_one named_device entry_at entries_of table_entries is_link is_plain link_of logical_of listed linked_sector chain_entries chain_tables partitions_of numbered_span span_of disk_name last_partition partition_name device_name devices_of named_devices device_at disk_number device_number kind_of super_of super_checks super_in super_at with_counts super_bytes v1_inode v2_inode inode_of inode_at v1_inode_bytes v2_inode_bytes inode_bytes kept_inode inode_place bit with_bit parts_of volume_at number_in follow pointer_by inside follow_at zone_at block_at content_at entry_of entries_in minixentries_entry_at find_entry entries_at is_dots components child find_path file_block file_at zone_number block content entry first_named lookup reached thing names names_in IsSound child_path path_of is_bootable has_signature has_options has_names has_slots has_no_message has_whole_message has_message has_zeros is_whole timeout_of table_slots boot_of boot_at field_bytes merged_sector names_of_section names_of_config started menu_decision menu_boot file_of middle_text target_of menu_entries menu_of meant slot_to slots_for chain_for file_slots file_sectors section_sectors_at flags_of descriptor_for plan_entries sectors_of_table sectors_after plan_sectors map_size plan_names plan_boot plan_boot_sector devices_in inode_places mapped_inode file_inode mapped_section code_in planned file_checks held_checks address_checks plan_at own_places_check plan_text opt_name all_options option_at opt_number takes_of places_of stands_in opens is_of_disk is_of_name excluded_by setup_of version_of header_of header_at fit_checks plan_memory replaced_fields patch command_line written_by place kernel_fit digits
refused_the_geometry_of_the_second_disk = (refl, refl, refl)

-- geometries in the order of the configuration
pub refused_geometries_in_the_order_of_the_configuration : (plan_at (disks_of disk_systems) (machine_of (disk_with 4096 16 63 ∷ disk_with 2000 4 17 ∷ [])) (record { span = record { disk = 0; start = 64; count = 4032 }; layout = record { kind = V1Long; inodes = 64; zones = 2016; imap = 1; zmap = 1; first = 6; max_size = 268966912; state = 1 } }) (record { disk = 0; start = 0; count = 4096 }) (record { boot = (Some (record { disk = 0; partition = 0 })); map = (codes "/boot/map"); install = (Some (codes "/boot/boot.b")); backup = None; force_backup = None; compact = false; mode = ChsMode; default_name = None; delay = 0; timeout = None; prompt = false; message = None; disks = ((record { device = (record { disk = 1; partition = 0 }); bios = None; sectors = None; heads = (Some 5); line = 4 }) ∷ (record { device = (record { disk = 0; partition = 0 }); bios = None; sectors = (Some 62); heads = None; line = 5 }) ∷ []); sections = ((record { other = None; path = (codes "/boot/vmlinuz"); label = (codes "linux"); alias = None; initrd = (Some (codes "/boot/initrd")); root = None; mount = ReadOnlyMount; append = None; literal = None; vga = None; password = None; restricted = false; optional = false; lock = false; fallback = None; table = None; line = 6 }) ∷ []) }) 0 ≡ Err (GeometryDiffers options.Heads 4)) × (plan_status (GeometryDiffers options.Heads 4) ≡ 4) × (plan_text (GeometryDiffers options.Heads 4) ≡ (codes "geometry heads is 4"))
unfolding number16 number32 is_zero has_ranges has_address is_slot is_one_slot chs_of address_of slot_of some_slot slot_at slot_bytes to_chs to_lba sector_at sectors_of place_at slot_make could_be_one named_device entry_at entries_of table_entries is_link is_plain link_of logical_of listed linked_sector chain_entries chain_tables partitions_of numbered_span span_of disk_name last_partition partition_name device_name devices_of named_devices device_at disk_number device_number kind_of super_of super_checks super_in super_at with_counts super_bytes v1_inode v2_inode inode_of inode_at v1_inode_bytes v2_inode_bytes inode_bytes kept_inode inode_place bit with_bit parts_of volume_at number_in follow pointer_by inside follow_at zone_at block_at content_at entry_of entries_in minixentries_entry_at find_entry entries_at is_dots components child find_path file_block file_at zone_number block content entry first_named lookup reached thing names names_in IsSound child_path path_of is_bootable has_signature has_options has_names has_slots has_no_message has_whole_message has_message has_zeros is_whole timeout_of table_slots boot_of boot_at field_bytes merged_sector names_of_section names_of_config started menu_decision menu_boot file_of middle_text target_of menu_entries menu_of meant slot_to slots_for chain_for file_slots file_sectors section_sectors_at flags_of descriptor_for plan_entries sectors_of_table sectors_after plan_sectors map_size plan_names plan_boot plan_boot_sector devices_in inode_places mapped_inode file_inode mapped_section code_in planned file_checks held_checks address_checks plan_at own_places_check plan_text opt_name all_options option_at opt_number takes_of places_of stands_in opens is_of_disk is_of_name excluded_by setup_of version_of header_of header_at fit_checks plan_memory replaced_fields patch command_line written_by place kernel_fit digits
refused_geometries_in_the_order_of_the_configuration = (refl, refl, refl)

-- a geometry comes before that another system is the boot device
pub refused_a_geometry_comes_before_that_another_system_is_the_boot_device : (plan_at (disks_of disk_systems) (machine_of (disk_with 4096 16 63 ∷ disk_with 2000 4 17 ∷ [])) (record { span = record { disk = 0; start = 64; count = 4032 }; layout = record { kind = V1Long; inodes = 64; zones = 2016; imap = 1; zmap = 1; first = 6; max_size = 268966912; state = 1 } }) (record { disk = 0; start = 0; count = 4096 }) (record { boot = (Some (record { disk = 0; partition = 0 })); map = (codes "/boot/map"); install = (Some (codes "/boot/boot.b")); backup = None; force_backup = None; compact = false; mode = ChsMode; default_name = None; delay = 0; timeout = None; prompt = false; message = None; disks = ((record { device = (record { disk = 1; partition = 0 }); bios = None; sectors = None; heads = (Some 5); line = 4 }) ∷ []); sections = ((record { other = (Some (record { disk = 0; partition = 0 })); path = (codes "/dev/hda"); label = (codes "x"); alias = None; initrd = None; root = None; mount = Unsaid; append = None; literal = None; vga = None; password = None; restricted = false; optional = false; lock = false; fallback = None; table = None; line = 5 }) ∷ []) }) 0 ≡ Err (GeometryDiffers options.Heads 4)) × (plan_status (GeometryDiffers options.Heads 4) ≡ 4) × (plan_text (GeometryDiffers options.Heads 4) ≡ (codes "geometry heads is 4"))
unfolding number16 number32 is_zero has_ranges has_address is_slot is_one_slot chs_of address_of slot_of some_slot slot_at slot_bytes to_chs to_lba sector_at sectors_of place_at slot_make could_be_one named_device entry_at entries_of table_entries is_link is_plain link_of logical_of listed linked_sector chain_entries chain_tables partitions_of numbered_span span_of disk_name last_partition partition_name device_name devices_of named_devices device_at disk_number device_number kind_of super_of super_checks super_in super_at with_counts super_bytes v1_inode v2_inode inode_of inode_at v1_inode_bytes v2_inode_bytes inode_bytes kept_inode inode_place bit with_bit parts_of volume_at number_in follow pointer_by inside follow_at zone_at block_at content_at entry_of entries_in minixentries_entry_at find_entry entries_at is_dots components child find_path file_block file_at zone_number block content entry first_named lookup reached thing names names_in IsSound child_path path_of is_bootable has_signature has_options has_names has_slots has_no_message has_whole_message has_message has_zeros is_whole timeout_of table_slots boot_of boot_at field_bytes merged_sector names_of_section names_of_config started menu_decision menu_boot file_of middle_text target_of menu_entries menu_of meant slot_to slots_for chain_for file_slots file_sectors section_sectors_at flags_of descriptor_for plan_entries sectors_of_table sectors_after plan_sectors map_size plan_names plan_boot plan_boot_sector devices_in inode_places mapped_inode file_inode mapped_section code_in planned file_checks held_checks address_checks plan_at own_places_check plan_text opt_name all_options option_at opt_number takes_of places_of stands_in opens is_of_disk is_of_name excluded_by setup_of version_of header_of header_at fit_checks plan_memory replaced_fields patch command_line written_by place kernel_fit digits
refused_a_geometry_comes_before_that_another_system_is_the_boot_device = (refl, refl, refl)

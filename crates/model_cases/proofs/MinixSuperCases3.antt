-- Cases of Minix volumes, written by tools/minix_cases.py: superblocks.
use Rattle.std.proofs.Common.{◌≡◌, ◌∷◌, [], Ok, Err, refl}
use Rattle.lilo_model.specs.Bytes.{number16, number32, is_zero}
use Rattle.lilo_model.specs.MinixLayout.{kind_of, super_of, super_checks, super_in, super_at, v1_inode, v2_inode, inode_of, inode_at, inode_place, BadMagic, ZoneSize, BadSize, InodeMap, ZoneMap, FirstZone, V2Long}
use Rattle.model_cases.specs.Sparse.{file, piece, hex}

-- larger zones in version 2 with long names
pub minix_super_larger_zones_in_version_2_with_long_names : super_at (file 512 (piece 0 (hex 24 0x200000000100010006000100ffffff7f7824010028000000) ∷ [])) 80 ≡ Err ZoneSize
unfolding number16 number32 is_zero kind_of super_of super_checks super_in super_at v1_inode v2_inode inode_of inode_at inode_place
minix_super_larger_zones_in_version_2_with_long_names = refl

-- a magic number before a zone size in version 2 with long names
pub minix_super_a_magic_number_before_a_zone_size_in_version_2_with_long_names : super_at (file 512 (piece 0 (hex 24 0x200000000100010006000100ffffff7f5a4d010028000000) ∷ [])) 80 ≡ Err BadMagic
unfolding number16 number32 is_zero kind_of super_of super_checks super_in super_at v1_inode v2_inode inode_of inode_at inode_place
minix_super_a_magic_number_before_a_zone_size_in_version_2_with_long_names = refl

-- no inode bitmap in version 2 with long names
pub minix_super_no_inode_bitmap_in_version_2_with_long_names : super_at (file 512 (piece 0 (hex 24 0x200000000000010006000000ffffff7f7824010028000000) ∷ [])) 80 ≡ Err (BadSize InodeMap)
unfolding number16 number32 is_zero kind_of super_of super_checks super_in super_at v1_inode v2_inode inode_of inode_at inode_place
minix_super_no_inode_bitmap_in_version_2_with_long_names = refl

-- no zone bitmap in version 2 with long names
pub minix_super_no_zone_bitmap_in_version_2_with_long_names : super_at (file 512 (piece 0 (hex 24 0x200000000100000006000000ffffff7f7824010028000000) ∷ [])) 80 ≡ Err (BadSize ZoneMap)
unfolding number16 number32 is_zero kind_of super_of super_checks super_in super_at v1_inode v2_inode inode_of inode_at inode_place
minix_super_no_zone_bitmap_in_version_2_with_long_names = refl

-- no zone bitmap, and a first zone at the end in version 2 with long names
pub minix_super_no_zone_bitmap_and_a_first_zone_at_the_end_in_version_2_with_long_names : super_at (file 512 (piece 0 (hex 24 0x200000000100000028000000ffffff7f7824010028000000) ∷ [])) 80 ≡ Err (BadSize ZoneMap)
unfolding number16 number32 is_zero kind_of super_of super_checks super_in super_at v1_inode v2_inode inode_of inode_at inode_place
minix_super_no_zone_bitmap_and_a_first_zone_at_the_end_in_version_2_with_long_names = refl

-- no zone bitmap, and a first zone after the zones in version 2 with long names
pub minix_super_no_zone_bitmap_and_a_first_zone_after_the_zones_in_version_2_with_long_names : super_at (file 512 (piece 0 (hex 24 0x200000000100000029000000ffffff7f7824010028000000) ∷ [])) 80 ≡ Err (BadSize FirstZone)
unfolding number16 number32 is_zero kind_of super_of super_checks super_in super_at v1_inode v2_inode inode_of inode_at inode_place
minix_super_no_zone_bitmap_and_a_first_zone_after_the_zones_in_version_2_with_long_names = refl

-- inodes that need a second block of bits in version 2 with long names
pub minix_super_inodes_that_need_a_second_block_of_bits_in_version_2_with_long_names : super_at (file 512 (piece 0 (hex 24 0x002000000100010006000000ffffff7f7824010028000000) ∷ [])) 80 ≡ Err (BadSize InodeMap)
unfolding number16 number32 is_zero kind_of super_of super_checks super_in super_at v1_inode v2_inode inode_of inode_at inode_place
minix_super_inodes_that_need_a_second_block_of_bits_in_version_2_with_long_names = refl

-- inodes that fill one block of bits in version 2 with long names
pub minix_super_inodes_that_fill_one_block_of_bits_in_version_2_with_long_names : super_at (file 512 (piece 0 (hex 24 0xff1f00000100010006000000ffffff7f7824010028000000) ∷ [])) 80 ≡ Err (BadSize FirstZone)
unfolding number16 number32 is_zero kind_of super_of super_checks super_in super_at v1_inode v2_inode inode_of inode_at inode_place
minix_super_inodes_that_fill_one_block_of_bits_in_version_2_with_long_names = refl

-- a first zone inside the table in version 2 with long names
pub minix_super_a_first_zone_inside_the_table_in_version_2_with_long_names : super_at (file 512 (piece 0 (hex 24 0x200000000100010005000000ffffff7f7824010028000000) ∷ [])) 80 ≡ Err (BadSize FirstZone)
unfolding number16 number32 is_zero kind_of super_of super_checks super_in super_at v1_inode v2_inode inode_of inode_at inode_place
minix_super_a_first_zone_inside_the_table_in_version_2_with_long_names = refl

-- a first zone after the table in version 2 with long names
pub minix_super_a_first_zone_after_the_table_in_version_2_with_long_names : super_at (file 512 (piece 0 (hex 24 0x200000000100010007000000ffffff7f7824010028000000) ∷ [])) 80 ≡ Ok (record { kind = V2Long; inodes = 32; zones = 40; imap = 1; zmap = 1; first = 7; max_size = 2147483647; state = 1 })
unfolding number16 number32 is_zero kind_of super_of super_checks super_in super_at v1_inode v2_inode inode_of inode_at inode_place
minix_super_a_first_zone_after_the_table_in_version_2_with_long_names = refl

-- a first zone after the zones in version 2 with long names
pub minix_super_a_first_zone_after_the_zones_in_version_2_with_long_names : super_at (file 512 (piece 0 (hex 24 0x200000000100010029000000ffffff7f7824010028000000) ∷ [])) 80 ≡ Err (BadSize FirstZone)
unfolding number16 number32 is_zero kind_of super_of super_checks super_in super_at v1_inode v2_inode inode_of inode_at inode_place
minix_super_a_first_zone_after_the_zones_in_version_2_with_long_names = refl

-- a first zone that is the last in version 2 with long names
pub minix_super_a_first_zone_that_is_the_last_in_version_2_with_long_names : super_at (file 512 (piece 0 (hex 24 0x200000000100010027000000ffffff7f7824010028000000) ∷ [])) 80 ≡ Ok (record { kind = V2Long; inodes = 32; zones = 40; imap = 1; zmap = 1; first = 39; max_size = 2147483647; state = 1 })
unfolding number16 number32 is_zero kind_of super_of super_checks super_in super_at v1_inode v2_inode inode_of inode_at inode_place
minix_super_a_first_zone_that_is_the_last_in_version_2_with_long_names = refl

-- a first zone at the end in version 2 with long names
pub minix_super_a_first_zone_at_the_end_in_version_2_with_long_names : super_at (file 512 (piece 0 (hex 24 0x200000000100010028000000ffffff7f7824010028000000) ∷ [])) 80 ≡ Err (BadSize FirstZone)
unfolding number16 number32 is_zero kind_of super_of super_checks super_in super_at v1_inode v2_inode inode_of inode_at inode_place
minix_super_a_first_zone_at_the_end_in_version_2_with_long_names = refl

-- another greatest size and state in version 2 with long names
pub minix_super_another_greatest_size_and_state_in_version_2_with_long_names : super_at (file 512 (piece 0 (hex 24 0x200000000100010006000000070000007824efbe28000000) ∷ [])) 80 ≡ Ok (record { kind = V2Long; inodes = 32; zones = 40; imap = 1; zmap = 1; first = 6; max_size = 7; state = 48879 })
unfolding number16 number32 is_zero kind_of super_of super_checks super_in super_at v1_inode v2_inode inode_of inode_at inode_place
minix_super_another_greatest_size_and_state_in_version_2_with_long_names = refl

-- zones that need a second block of bits in version 2 with long names
pub minix_super_zones_that_need_a_second_block_of_bits_in_version_2_with_long_names : super_at (file 512 (piece 0 (hex 24 0x200000000100010006000000ffffff7f7824010006200000) ∷ [])) 20000 ≡ Err (BadSize ZoneMap)
unfolding number16 number32 is_zero kind_of super_of super_checks super_in super_at v1_inode v2_inode inode_of inode_at inode_place
minix_super_zones_that_need_a_second_block_of_bits_in_version_2_with_long_names = refl

-- zones that fill one block of bits in version 2 with long names
pub minix_super_zones_that_fill_one_block_of_bits_in_version_2_with_long_names : super_at (file 512 (piece 0 (hex 24 0x200000000100010006000000ffffff7f7824010005200000) ∷ [])) 20000 ≡ Ok (record { kind = V2Long; inodes = 32; zones = 8197; imap = 1; zmap = 1; first = 6; max_size = 2147483647; state = 1 })
unfolding number16 number32 is_zero kind_of super_of super_checks super_in super_at v1_inode v2_inode inode_of inode_at inode_place
minix_super_zones_that_fill_one_block_of_bits_in_version_2_with_long_names = refl

-- Cases of Minix volumes, written by tools/minix_cases.py: superblocks.
use Rattle.std.proofs.Common.{◌≡◌, ◌∷◌, [], Ok, Err, refl}
use Rattle.lilo_model.specs.Bytes.{number16, number32, is_zero}
use Rattle.lilo_model.specs.MinixLayout.{kind_of, super_of, super_checks, super_in, super_at, v1_inode, v2_inode, inode_of, inode_at, inode_place, BadMagic, ZoneSize, BadSize, Inodes, Zones, InodeMap, ZoneMap, FirstZone, V1Short, V1Long}
use Rattle.model_cases.specs.Sparse.{file, piece, hex}

-- the superblock that mkfs.minix makes on 40 blocks in version 1 with short names
pub minix_super_the_superblock_that_mkfs_minix_makes_on_40_blocks_in_version_1_with_short_names : super_at (file 512 (piece 0 (hex 24 0x200028000100010005000000001c08107f13010000000000) ∷ [])) 80 ≡ Ok (record { kind = V1Short; inodes = 32; zones = 40; imap = 1; zmap = 1; first = 5; max_size = 268966912; state = 1 })
unfolding number16 number32 is_zero kind_of super_of super_checks super_in super_at v1_inode v2_inode inode_of inode_at inode_place
minix_super_the_superblock_that_mkfs_minix_makes_on_40_blocks_in_version_1_with_short_names = refl

-- the superblock that mkfs.minix makes on 1440 blocks in version 1 with short names
pub minix_super_the_superblock_that_mkfs_minix_makes_on_1440_blocks_in_version_1_with_short_names : super_at (file 512 (piece 0 (hex 24 0xe001a0050100010013000000001c08107f13010000000000) ∷ [])) 2880 ≡ Ok (record { kind = V1Short; inodes = 480; zones = 1440; imap = 1; zmap = 1; first = 19; max_size = 268966912; state = 1 })
unfolding number16 number32 is_zero kind_of super_of super_checks super_in super_at v1_inode v2_inode inode_of inode_at inode_place
minix_super_the_superblock_that_mkfs_minix_makes_on_1440_blocks_in_version_1_with_short_names = refl

-- the superblock that mkfs.minix makes on 9000 blocks in version 1 with short names
pub minix_super_the_superblock_that_mkfs_minix_makes_on_9000_blocks_in_version_1_with_short_names : super_at (file 512 (piece 0 (hex 24 0xc00b28230100020063000000001c08107f13010000000000) ∷ [])) 18000 ≡ Ok (record { kind = V1Short; inodes = 3008; zones = 9000; imap = 1; zmap = 2; first = 99; max_size = 268966912; state = 1 })
unfolding number16 number32 is_zero kind_of super_of super_checks super_in super_at v1_inode v2_inode inode_of inode_at inode_place
minix_super_the_superblock_that_mkfs_minix_makes_on_9000_blocks_in_version_1_with_short_names = refl

-- one sector too few in version 1 with short names
pub minix_super_one_sector_too_few_in_version_1_with_short_names : super_at (file 512 (piece 0 (hex 24 0x200028000100010005000000001c08107f13010000000000) ∷ [])) 79 ≡ Err (BadSize Zones)
unfolding number16 number32 is_zero kind_of super_of super_checks super_in super_at v1_inode v2_inode inode_of inode_at inode_place
minix_super_one_sector_too_few_in_version_1_with_short_names = refl

-- one sector more in version 1 with short names
pub minix_super_one_sector_more_in_version_1_with_short_names : super_at (file 512 (piece 0 (hex 24 0x200028000100010005000000001c08107f13010000000000) ∷ [])) 81 ≡ Ok (record { kind = V1Short; inodes = 32; zones = 40; imap = 1; zmap = 1; first = 5; max_size = 268966912; state = 1 })
unfolding number16 number32 is_zero kind_of super_of super_checks super_in super_at v1_inode v2_inode inode_of inode_at inode_place
minix_super_one_sector_more_in_version_1_with_short_names = refl

-- no inode in version 1 with short names
pub minix_super_no_inode_in_version_1_with_short_names : super_at (file 512 (piece 0 (hex 24 0x000028000100010005000000001c08107f13010000000000) ∷ [])) 80 ≡ Err (BadSize Inodes)
unfolding number16 number32 is_zero kind_of super_of super_checks super_in super_at v1_inode v2_inode inode_of inode_at inode_place
minix_super_no_inode_in_version_1_with_short_names = refl

-- no zone in version 1 with short names
pub minix_super_no_zone_in_version_1_with_short_names : super_at (file 512 (piece 0 (hex 24 0x200000000100010005000000001c08107f13010000000000) ∷ [])) 80 ≡ Err (BadSize Zones)
unfolding number16 number32 is_zero kind_of super_of super_checks super_in super_at v1_inode v2_inode inode_of inode_at inode_place
minix_super_no_zone_in_version_1_with_short_names = refl

-- another magic number in version 1 with short names
pub minix_super_another_magic_number_in_version_1_with_short_names : super_at (file 512 (piece 0 (hex 24 0x200028000100010005000000001c08105a4d010000000000) ∷ [])) 80 ≡ Err BadMagic
unfolding number16 number32 is_zero kind_of super_of super_checks super_in super_at v1_inode v2_inode inode_of inode_at inode_place
minix_super_another_magic_number_in_version_1_with_short_names = refl

-- larger zones in version 1 with short names
pub minix_super_larger_zones_in_version_1_with_short_names : super_at (file 512 (piece 0 (hex 24 0x200028000100010005000100001c08107f13010000000000) ∷ [])) 80 ≡ Err ZoneSize
unfolding number16 number32 is_zero kind_of super_of super_checks super_in super_at v1_inode v2_inode inode_of inode_at inode_place
minix_super_larger_zones_in_version_1_with_short_names = refl

-- a magic number before a zone size in version 1 with short names
pub minix_super_a_magic_number_before_a_zone_size_in_version_1_with_short_names : super_at (file 512 (piece 0 (hex 24 0x200028000100010005000100001c08105a4d010000000000) ∷ [])) 80 ≡ Err BadMagic
unfolding number16 number32 is_zero kind_of super_of super_checks super_in super_at v1_inode v2_inode inode_of inode_at inode_place
minix_super_a_magic_number_before_a_zone_size_in_version_1_with_short_names = refl

-- no inode bitmap in version 1 with short names
pub minix_super_no_inode_bitmap_in_version_1_with_short_names : super_at (file 512 (piece 0 (hex 24 0x200028000000010005000000001c08107f13010000000000) ∷ [])) 80 ≡ Err (BadSize InodeMap)
unfolding number16 number32 is_zero kind_of super_of super_checks super_in super_at v1_inode v2_inode inode_of inode_at inode_place
minix_super_no_inode_bitmap_in_version_1_with_short_names = refl

-- no zone bitmap in version 1 with short names
pub minix_super_no_zone_bitmap_in_version_1_with_short_names : super_at (file 512 (piece 0 (hex 24 0x200028000100000005000000001c08107f13010000000000) ∷ [])) 80 ≡ Err (BadSize ZoneMap)
unfolding number16 number32 is_zero kind_of super_of super_checks super_in super_at v1_inode v2_inode inode_of inode_at inode_place
minix_super_no_zone_bitmap_in_version_1_with_short_names = refl

-- no zone bitmap, and a first zone at the end in version 1 with short names
pub minix_super_no_zone_bitmap_and_a_first_zone_at_the_end_in_version_1_with_short_names : super_at (file 512 (piece 0 (hex 24 0x200028000100000028000000001c08107f13010000000000) ∷ [])) 80 ≡ Err (BadSize ZoneMap)
unfolding number16 number32 is_zero kind_of super_of super_checks super_in super_at v1_inode v2_inode inode_of inode_at inode_place
minix_super_no_zone_bitmap_and_a_first_zone_at_the_end_in_version_1_with_short_names = refl

-- no zone bitmap, and a first zone after the zones in version 1 with short names
pub minix_super_no_zone_bitmap_and_a_first_zone_after_the_zones_in_version_1_with_short_names : super_at (file 512 (piece 0 (hex 24 0x200028000100000029000000001c08107f13010000000000) ∷ [])) 80 ≡ Err (BadSize FirstZone)
unfolding number16 number32 is_zero kind_of super_of super_checks super_in super_at v1_inode v2_inode inode_of inode_at inode_place
minix_super_no_zone_bitmap_and_a_first_zone_after_the_zones_in_version_1_with_short_names = refl

-- inodes that need a second block of bits in version 1 with short names
pub minix_super_inodes_that_need_a_second_block_of_bits_in_version_1_with_short_names : super_at (file 512 (piece 0 (hex 24 0x002028000100010005000000001c08107f13010000000000) ∷ [])) 80 ≡ Err (BadSize InodeMap)
unfolding number16 number32 is_zero kind_of super_of super_checks super_in super_at v1_inode v2_inode inode_of inode_at inode_place
minix_super_inodes_that_need_a_second_block_of_bits_in_version_1_with_short_names = refl

-- inodes that fill one block of bits in version 1 with short names
pub minix_super_inodes_that_fill_one_block_of_bits_in_version_1_with_short_names : super_at (file 512 (piece 0 (hex 24 0xff1f28000100010005000000001c08107f13010000000000) ∷ [])) 80 ≡ Err (BadSize FirstZone)
unfolding number16 number32 is_zero kind_of super_of super_checks super_in super_at v1_inode v2_inode inode_of inode_at inode_place
minix_super_inodes_that_fill_one_block_of_bits_in_version_1_with_short_names = refl

-- a first zone inside the table in version 1 with short names
pub minix_super_a_first_zone_inside_the_table_in_version_1_with_short_names : super_at (file 512 (piece 0 (hex 24 0x200028000100010004000000001c08107f13010000000000) ∷ [])) 80 ≡ Err (BadSize FirstZone)
unfolding number16 number32 is_zero kind_of super_of super_checks super_in super_at v1_inode v2_inode inode_of inode_at inode_place
minix_super_a_first_zone_inside_the_table_in_version_1_with_short_names = refl

-- a first zone after the table in version 1 with short names
pub minix_super_a_first_zone_after_the_table_in_version_1_with_short_names : super_at (file 512 (piece 0 (hex 24 0x200028000100010006000000001c08107f13010000000000) ∷ [])) 80 ≡ Ok (record { kind = V1Short; inodes = 32; zones = 40; imap = 1; zmap = 1; first = 6; max_size = 268966912; state = 1 })
unfolding number16 number32 is_zero kind_of super_of super_checks super_in super_at v1_inode v2_inode inode_of inode_at inode_place
minix_super_a_first_zone_after_the_table_in_version_1_with_short_names = refl

-- a first zone after the zones in version 1 with short names
pub minix_super_a_first_zone_after_the_zones_in_version_1_with_short_names : super_at (file 512 (piece 0 (hex 24 0x200028000100010029000000001c08107f13010000000000) ∷ [])) 80 ≡ Err (BadSize FirstZone)
unfolding number16 number32 is_zero kind_of super_of super_checks super_in super_at v1_inode v2_inode inode_of inode_at inode_place
minix_super_a_first_zone_after_the_zones_in_version_1_with_short_names = refl

-- a first zone that is the last in version 1 with short names
pub minix_super_a_first_zone_that_is_the_last_in_version_1_with_short_names : super_at (file 512 (piece 0 (hex 24 0x200028000100010027000000001c08107f13010000000000) ∷ [])) 80 ≡ Ok (record { kind = V1Short; inodes = 32; zones = 40; imap = 1; zmap = 1; first = 39; max_size = 268966912; state = 1 })
unfolding number16 number32 is_zero kind_of super_of super_checks super_in super_at v1_inode v2_inode inode_of inode_at inode_place
minix_super_a_first_zone_that_is_the_last_in_version_1_with_short_names = refl

-- a first zone at the end in version 1 with short names
pub minix_super_a_first_zone_at_the_end_in_version_1_with_short_names : super_at (file 512 (piece 0 (hex 24 0x200028000100010028000000001c08107f13010000000000) ∷ [])) 80 ≡ Err (BadSize FirstZone)
unfolding number16 number32 is_zero kind_of super_of super_checks super_in super_at v1_inode v2_inode inode_of inode_at inode_place
minix_super_a_first_zone_at_the_end_in_version_1_with_short_names = refl

-- another greatest size and state in version 1 with short names
pub minix_super_another_greatest_size_and_state_in_version_1_with_short_names : super_at (file 512 (piece 0 (hex 24 0x200028000100010005000000070000007f13efbe00000000) ∷ [])) 80 ≡ Ok (record { kind = V1Short; inodes = 32; zones = 40; imap = 1; zmap = 1; first = 5; max_size = 7; state = 48879 })
unfolding number16 number32 is_zero kind_of super_of super_checks super_in super_at v1_inode v2_inode inode_of inode_at inode_place
minix_super_another_greatest_size_and_state_in_version_1_with_short_names = refl

-- zones that need a second block of bits in version 1 with short names
pub minix_super_zones_that_need_a_second_block_of_bits_in_version_1_with_short_names : super_at (file 512 (piece 0 (hex 24 0x200005200100010005000000001c08107f13010000000000) ∷ [])) 20000 ≡ Err (BadSize ZoneMap)
unfolding number16 number32 is_zero kind_of super_of super_checks super_in super_at v1_inode v2_inode inode_of inode_at inode_place
minix_super_zones_that_need_a_second_block_of_bits_in_version_1_with_short_names = refl

-- zones that fill one block of bits in version 1 with short names
pub minix_super_zones_that_fill_one_block_of_bits_in_version_1_with_short_names : super_at (file 512 (piece 0 (hex 24 0x200004200100010005000000001c08107f13010000000000) ∷ [])) 20000 ≡ Ok (record { kind = V1Short; inodes = 32; zones = 8196; imap = 1; zmap = 1; first = 5; max_size = 268966912; state = 1 })
unfolding number16 number32 is_zero kind_of super_of super_checks super_in super_at v1_inode v2_inode inode_of inode_at inode_place
minix_super_zones_that_fill_one_block_of_bits_in_version_1_with_short_names = refl

-- the superblock that mkfs.minix makes on 40 blocks in version 1 with long names
pub minix_super_the_superblock_that_mkfs_minix_makes_on_40_blocks_in_version_1_with_long_names : super_at (file 512 (piece 0 (hex 24 0x200028000100010005000000001c08108f13010000000000) ∷ [])) 80 ≡ Ok (record { kind = V1Long; inodes = 32; zones = 40; imap = 1; zmap = 1; first = 5; max_size = 268966912; state = 1 })
unfolding number16 number32 is_zero kind_of super_of super_checks super_in super_at v1_inode v2_inode inode_of inode_at inode_place
minix_super_the_superblock_that_mkfs_minix_makes_on_40_blocks_in_version_1_with_long_names = refl

-- the superblock that mkfs.minix makes on 1440 blocks in version 1 with long names
pub minix_super_the_superblock_that_mkfs_minix_makes_on_1440_blocks_in_version_1_with_long_names : super_at (file 512 (piece 0 (hex 24 0xe001a0050100010013000000001c08108f13010000000000) ∷ [])) 2880 ≡ Ok (record { kind = V1Long; inodes = 480; zones = 1440; imap = 1; zmap = 1; first = 19; max_size = 268966912; state = 1 })
unfolding number16 number32 is_zero kind_of super_of super_checks super_in super_at v1_inode v2_inode inode_of inode_at inode_place
minix_super_the_superblock_that_mkfs_minix_makes_on_1440_blocks_in_version_1_with_long_names = refl

-- the superblock that mkfs.minix makes on 9000 blocks in version 1 with long names
pub minix_super_the_superblock_that_mkfs_minix_makes_on_9000_blocks_in_version_1_with_long_names : super_at (file 512 (piece 0 (hex 24 0xc00b28230100020063000000001c08108f13010000000000) ∷ [])) 18000 ≡ Ok (record { kind = V1Long; inodes = 3008; zones = 9000; imap = 1; zmap = 2; first = 99; max_size = 268966912; state = 1 })
unfolding number16 number32 is_zero kind_of super_of super_checks super_in super_at v1_inode v2_inode inode_of inode_at inode_place
minix_super_the_superblock_that_mkfs_minix_makes_on_9000_blocks_in_version_1_with_long_names = refl

-- one sector too few in version 1 with long names
pub minix_super_one_sector_too_few_in_version_1_with_long_names : super_at (file 512 (piece 0 (hex 24 0x200028000100010005000000001c08108f13010000000000) ∷ [])) 79 ≡ Err (BadSize Zones)
unfolding number16 number32 is_zero kind_of super_of super_checks super_in super_at v1_inode v2_inode inode_of inode_at inode_place
minix_super_one_sector_too_few_in_version_1_with_long_names = refl

-- one sector more in version 1 with long names
pub minix_super_one_sector_more_in_version_1_with_long_names : super_at (file 512 (piece 0 (hex 24 0x200028000100010005000000001c08108f13010000000000) ∷ [])) 81 ≡ Ok (record { kind = V1Long; inodes = 32; zones = 40; imap = 1; zmap = 1; first = 5; max_size = 268966912; state = 1 })
unfolding number16 number32 is_zero kind_of super_of super_checks super_in super_at v1_inode v2_inode inode_of inode_at inode_place
minix_super_one_sector_more_in_version_1_with_long_names = refl

-- no inode in version 1 with long names
pub minix_super_no_inode_in_version_1_with_long_names : super_at (file 512 (piece 0 (hex 24 0x000028000100010005000000001c08108f13010000000000) ∷ [])) 80 ≡ Err (BadSize Inodes)
unfolding number16 number32 is_zero kind_of super_of super_checks super_in super_at v1_inode v2_inode inode_of inode_at inode_place
minix_super_no_inode_in_version_1_with_long_names = refl

-- no zone in version 1 with long names
pub minix_super_no_zone_in_version_1_with_long_names : super_at (file 512 (piece 0 (hex 24 0x200000000100010005000000001c08108f13010000000000) ∷ [])) 80 ≡ Err (BadSize Zones)
unfolding number16 number32 is_zero kind_of super_of super_checks super_in super_at v1_inode v2_inode inode_of inode_at inode_place
minix_super_no_zone_in_version_1_with_long_names = refl

-- another magic number in version 1 with long names
pub minix_super_another_magic_number_in_version_1_with_long_names : super_at (file 512 (piece 0 (hex 24 0x200028000100010005000000001c08105a4d010000000000) ∷ [])) 80 ≡ Err BadMagic
unfolding number16 number32 is_zero kind_of super_of super_checks super_in super_at v1_inode v2_inode inode_of inode_at inode_place
minix_super_another_magic_number_in_version_1_with_long_names = refl

-- larger zones in version 1 with long names
pub minix_super_larger_zones_in_version_1_with_long_names : super_at (file 512 (piece 0 (hex 24 0x200028000100010005000100001c08108f13010000000000) ∷ [])) 80 ≡ Err ZoneSize
unfolding number16 number32 is_zero kind_of super_of super_checks super_in super_at v1_inode v2_inode inode_of inode_at inode_place
minix_super_larger_zones_in_version_1_with_long_names = refl

-- a magic number before a zone size in version 1 with long names
pub minix_super_a_magic_number_before_a_zone_size_in_version_1_with_long_names : super_at (file 512 (piece 0 (hex 24 0x200028000100010005000100001c08105a4d010000000000) ∷ [])) 80 ≡ Err BadMagic
unfolding number16 number32 is_zero kind_of super_of super_checks super_in super_at v1_inode v2_inode inode_of inode_at inode_place
minix_super_a_magic_number_before_a_zone_size_in_version_1_with_long_names = refl

-- no inode bitmap in version 1 with long names
pub minix_super_no_inode_bitmap_in_version_1_with_long_names : super_at (file 512 (piece 0 (hex 24 0x200028000000010005000000001c08108f13010000000000) ∷ [])) 80 ≡ Err (BadSize InodeMap)
unfolding number16 number32 is_zero kind_of super_of super_checks super_in super_at v1_inode v2_inode inode_of inode_at inode_place
minix_super_no_inode_bitmap_in_version_1_with_long_names = refl

-- no zone bitmap in version 1 with long names
pub minix_super_no_zone_bitmap_in_version_1_with_long_names : super_at (file 512 (piece 0 (hex 24 0x200028000100000005000000001c08108f13010000000000) ∷ [])) 80 ≡ Err (BadSize ZoneMap)
unfolding number16 number32 is_zero kind_of super_of super_checks super_in super_at v1_inode v2_inode inode_of inode_at inode_place
minix_super_no_zone_bitmap_in_version_1_with_long_names = refl

-- no zone bitmap, and a first zone at the end in version 1 with long names
pub minix_super_no_zone_bitmap_and_a_first_zone_at_the_end_in_version_1_with_long_names : super_at (file 512 (piece 0 (hex 24 0x200028000100000028000000001c08108f13010000000000) ∷ [])) 80 ≡ Err (BadSize ZoneMap)
unfolding number16 number32 is_zero kind_of super_of super_checks super_in super_at v1_inode v2_inode inode_of inode_at inode_place
minix_super_no_zone_bitmap_and_a_first_zone_at_the_end_in_version_1_with_long_names = refl

-- no zone bitmap, and a first zone after the zones in version 1 with long names
pub minix_super_no_zone_bitmap_and_a_first_zone_after_the_zones_in_version_1_with_long_names : super_at (file 512 (piece 0 (hex 24 0x200028000100000029000000001c08108f13010000000000) ∷ [])) 80 ≡ Err (BadSize FirstZone)
unfolding number16 number32 is_zero kind_of super_of super_checks super_in super_at v1_inode v2_inode inode_of inode_at inode_place
minix_super_no_zone_bitmap_and_a_first_zone_after_the_zones_in_version_1_with_long_names = refl

-- inodes that need a second block of bits in version 1 with long names
pub minix_super_inodes_that_need_a_second_block_of_bits_in_version_1_with_long_names : super_at (file 512 (piece 0 (hex 24 0x002028000100010005000000001c08108f13010000000000) ∷ [])) 80 ≡ Err (BadSize InodeMap)
unfolding number16 number32 is_zero kind_of super_of super_checks super_in super_at v1_inode v2_inode inode_of inode_at inode_place
minix_super_inodes_that_need_a_second_block_of_bits_in_version_1_with_long_names = refl

-- inodes that fill one block of bits in version 1 with long names
pub minix_super_inodes_that_fill_one_block_of_bits_in_version_1_with_long_names : super_at (file 512 (piece 0 (hex 24 0xff1f28000100010005000000001c08108f13010000000000) ∷ [])) 80 ≡ Err (BadSize FirstZone)
unfolding number16 number32 is_zero kind_of super_of super_checks super_in super_at v1_inode v2_inode inode_of inode_at inode_place
minix_super_inodes_that_fill_one_block_of_bits_in_version_1_with_long_names = refl

-- Cases of Minix volumes, written by tools/minix_cases.py: the fields of inodes.
use Rattle.std.proofs.Common.{◌≡◌, ◌∷◌, ◌++◌, [], Ok, Err, replicate, refl}
use Rattle.lilo_model.specs.Bytes.{number16, number32, is_zero}
use Rattle.lilo_model.specs.MinixLayout.{kind_of, super_of, super_checks, super_in, super_at, v1_inode, v2_inode, inode_of, inode_at, inode_place, BadSize, FileSize, V1Short, V1Long, V2Short, V2Long}
use Rattle.model_cases.specs.Sparse.{hex}

-- the root that mkfs.minix makes, its times cleared in version 1 with short names
pub minix_inode_the_root_that_mkfs_minix_makes_its_times_cleared_in_version_1_with_short_names : inode_at V1Short (hex 32 0xed41000020000000000000000002050000000000000000000000000000000000) ≡ Ok (record { mode = 16877; links = 2; uid = 0; gid = 0; size = 32; times = (0 ∷ 0 ∷ 0 ∷ []); zones = (5 ∷ 0 ∷ 0 ∷ 0 ∷ 0 ∷ 0 ∷ 0 ∷ 0 ∷ 0 ∷ 0 ∷ []) })
unfolding number16 number32 is_zero kind_of super_of super_checks super_in super_at v1_inode v2_inode inode_of inode_at inode_place
minix_inode_the_root_that_mkfs_minix_makes_its_times_cleared_in_version_1_with_short_names = refl

-- bytes that count up in version 1 with short names
pub minix_inode_bytes_that_count_up_in_version_1_with_short_names : inode_at V1Short (hex 32 0x0102030405060708090a0b0c0d0e0f101112131415161718191a1b1c1d1e1f20) ≡ Ok (record { mode = 513; links = 14; uid = 1027; gid = 13; size = 134678021; times = (202050057 ∷ 202050057 ∷ 202050057 ∷ []); zones = (4111 ∷ 4625 ∷ 5139 ∷ 5653 ∷ 6167 ∷ 6681 ∷ 7195 ∷ 7709 ∷ 8223 ∷ 0 ∷ []) })
unfolding number16 number32 is_zero kind_of super_of super_checks super_in super_at v1_inode v2_inode inode_of inode_at inode_place
minix_inode_bytes_that_count_up_in_version_1_with_short_names = refl

-- the greatest size of version 1 in version 1 with short names
pub minix_inode_the_greatest_size_of_version_1_in_version_1_with_short_names : inode_at V1Short (hex 32 0xed410000001c0810eb20096b0002050000000000000000000000000000000000) ≡ Ok (record { mode = 16877; links = 2; uid = 0; gid = 0; size = 268966912; times = (1795760363 ∷ 1795760363 ∷ 1795760363 ∷ []); zones = (5 ∷ 0 ∷ 0 ∷ 0 ∷ 0 ∷ 0 ∷ 0 ∷ 0 ∷ 0 ∷ 0 ∷ []) })
unfolding number16 number32 is_zero kind_of super_of super_checks super_in super_at v1_inode v2_inode inode_of inode_at inode_place
minix_inode_the_greatest_size_of_version_1_in_version_1_with_short_names = refl

-- one byte more than the greatest size of version 1 in version 1 with short names
pub minix_inode_one_byte_more_than_the_greatest_size_of_version_1_in_version_1_with_short_names : inode_at V1Short (hex 32 0xed410000011c0810eb20096b0002050000000000000000000000000000000000) ≡ Err (BadSize FileSize)
unfolding number16 number32 is_zero kind_of super_of super_checks super_in super_at v1_inode v2_inode inode_of inode_at inode_place
minix_inode_one_byte_more_than_the_greatest_size_of_version_1_in_version_1_with_short_names = refl

-- the root that mkfs.minix makes, its times cleared in version 1 with long names
pub minix_inode_the_root_that_mkfs_minix_makes_its_times_cleared_in_version_1_with_long_names : inode_at V1Long (hex 32 0xed41000040000000000000000002050000000000000000000000000000000000) ≡ Ok (record { mode = 16877; links = 2; uid = 0; gid = 0; size = 64; times = (0 ∷ 0 ∷ 0 ∷ []); zones = (5 ∷ 0 ∷ 0 ∷ 0 ∷ 0 ∷ 0 ∷ 0 ∷ 0 ∷ 0 ∷ 0 ∷ []) })
unfolding number16 number32 is_zero kind_of super_of super_checks super_in super_at v1_inode v2_inode inode_of inode_at inode_place
minix_inode_the_root_that_mkfs_minix_makes_its_times_cleared_in_version_1_with_long_names = refl

-- bytes that count up in version 1 with long names
pub minix_inode_bytes_that_count_up_in_version_1_with_long_names : inode_at V1Long (hex 32 0x0102030405060708090a0b0c0d0e0f101112131415161718191a1b1c1d1e1f20) ≡ Ok (record { mode = 513; links = 14; uid = 1027; gid = 13; size = 134678021; times = (202050057 ∷ 202050057 ∷ 202050057 ∷ []); zones = (4111 ∷ 4625 ∷ 5139 ∷ 5653 ∷ 6167 ∷ 6681 ∷ 7195 ∷ 7709 ∷ 8223 ∷ 0 ∷ []) })
unfolding number16 number32 is_zero kind_of super_of super_checks super_in super_at v1_inode v2_inode inode_of inode_at inode_place
minix_inode_bytes_that_count_up_in_version_1_with_long_names = refl

-- the greatest size of version 1 in version 1 with long names
pub minix_inode_the_greatest_size_of_version_1_in_version_1_with_long_names : inode_at V1Long (hex 32 0xed410000001c0810eb20096b0002050000000000000000000000000000000000) ≡ Ok (record { mode = 16877; links = 2; uid = 0; gid = 0; size = 268966912; times = (1795760363 ∷ 1795760363 ∷ 1795760363 ∷ []); zones = (5 ∷ 0 ∷ 0 ∷ 0 ∷ 0 ∷ 0 ∷ 0 ∷ 0 ∷ 0 ∷ 0 ∷ []) })
unfolding number16 number32 is_zero kind_of super_of super_checks super_in super_at v1_inode v2_inode inode_of inode_at inode_place
minix_inode_the_greatest_size_of_version_1_in_version_1_with_long_names = refl

-- one byte more than the greatest size of version 1 in version 1 with long names
pub minix_inode_one_byte_more_than_the_greatest_size_of_version_1_in_version_1_with_long_names : inode_at V1Long (hex 32 0xed410000011c0810eb20096b0002050000000000000000000000000000000000) ≡ Err (BadSize FileSize)
unfolding number16 number32 is_zero kind_of super_of super_checks super_in super_at v1_inode v2_inode inode_of inode_at inode_place
minix_inode_one_byte_more_than_the_greatest_size_of_version_1_in_version_1_with_long_names = refl

-- the root that mkfs.minix makes, its times cleared in version 2 with short names
pub minix_inode_the_root_that_mkfs_minix_makes_its_times_cleared_in_version_2_with_short_names : inode_at V2Short (hex 25 0xed410200000000002000000000000000000000000000000006 ++ replicate 39 0) ≡ Ok (record { mode = 16877; links = 2; uid = 0; gid = 0; size = 32; times = (0 ∷ 0 ∷ 0 ∷ []); zones = (6 ∷ 0 ∷ 0 ∷ 0 ∷ 0 ∷ 0 ∷ 0 ∷ 0 ∷ 0 ∷ 0 ∷ []) })
unfolding number16 number32 is_zero kind_of super_of super_checks super_in super_at v1_inode v2_inode inode_of inode_at inode_place
minix_inode_the_root_that_mkfs_minix_makes_its_times_cleared_in_version_2_with_short_names = refl

-- bytes that count up in version 2 with short names
pub minix_inode_bytes_that_count_up_in_version_2_with_short_names : inode_at V2Short (hex 64 0x0102030405060708090a0b0c0d0e0f101112131415161718191a1b1c1d1e1f202122232425262728292a2b2c2d2e2f303132333435363738393a3b3c3d3e3f40) ≡ Ok (record { mode = 513; links = 1027; uid = 1541; gid = 2055; size = 202050057; times = (269422093 ∷ 336794129 ∷ 404166165 ∷ []); zones = (471538201 ∷ 538910237 ∷ 606282273 ∷ 673654309 ∷ 741026345 ∷ 808398381 ∷ 875770417 ∷ 943142453 ∷ 1010514489 ∷ 1077886525 ∷ []) })
unfolding number16 number32 is_zero kind_of super_of super_checks super_in super_at v1_inode v2_inode inode_of inode_at inode_place
minix_inode_bytes_that_count_up_in_version_2_with_short_names = refl

-- the greatest size of version 1 in version 2 with short names
pub minix_inode_the_greatest_size_of_version_1_in_version_2_with_short_names : inode_at V2Short (hex 25 0xed41020000000000001c0810eb20096beb20096beb20096b06 ++ replicate 39 0) ≡ Ok (record { mode = 16877; links = 2; uid = 0; gid = 0; size = 268966912; times = (1795760363 ∷ 1795760363 ∷ 1795760363 ∷ []); zones = (6 ∷ 0 ∷ 0 ∷ 0 ∷ 0 ∷ 0 ∷ 0 ∷ 0 ∷ 0 ∷ 0 ∷ []) })
unfolding number16 number32 is_zero kind_of super_of super_checks super_in super_at v1_inode v2_inode inode_of inode_at inode_place
minix_inode_the_greatest_size_of_version_1_in_version_2_with_short_names = refl

-- one byte more than the greatest size of version 1 in version 2 with short names
pub minix_inode_one_byte_more_than_the_greatest_size_of_version_1_in_version_2_with_short_names : inode_at V2Short (hex 25 0xed41020000000000011c0810eb20096beb20096beb20096b06 ++ replicate 39 0) ≡ Ok (record { mode = 16877; links = 2; uid = 0; gid = 0; size = 268966913; times = (1795760363 ∷ 1795760363 ∷ 1795760363 ∷ []); zones = (6 ∷ 0 ∷ 0 ∷ 0 ∷ 0 ∷ 0 ∷ 0 ∷ 0 ∷ 0 ∷ 0 ∷ []) })
unfolding number16 number32 is_zero kind_of super_of super_checks super_in super_at v1_inode v2_inode inode_of inode_at inode_place
minix_inode_one_byte_more_than_the_greatest_size_of_version_1_in_version_2_with_short_names = refl

-- the root that mkfs.minix makes, its times cleared in version 2 with long names
pub minix_inode_the_root_that_mkfs_minix_makes_its_times_cleared_in_version_2_with_long_names : inode_at V2Long (hex 25 0xed410200000000004000000000000000000000000000000006 ++ replicate 39 0) ≡ Ok (record { mode = 16877; links = 2; uid = 0; gid = 0; size = 64; times = (0 ∷ 0 ∷ 0 ∷ []); zones = (6 ∷ 0 ∷ 0 ∷ 0 ∷ 0 ∷ 0 ∷ 0 ∷ 0 ∷ 0 ∷ 0 ∷ []) })
unfolding number16 number32 is_zero kind_of super_of super_checks super_in super_at v1_inode v2_inode inode_of inode_at inode_place
minix_inode_the_root_that_mkfs_minix_makes_its_times_cleared_in_version_2_with_long_names = refl

-- bytes that count up in version 2 with long names
pub minix_inode_bytes_that_count_up_in_version_2_with_long_names : inode_at V2Long (hex 64 0x0102030405060708090a0b0c0d0e0f101112131415161718191a1b1c1d1e1f202122232425262728292a2b2c2d2e2f303132333435363738393a3b3c3d3e3f40) ≡ Ok (record { mode = 513; links = 1027; uid = 1541; gid = 2055; size = 202050057; times = (269422093 ∷ 336794129 ∷ 404166165 ∷ []); zones = (471538201 ∷ 538910237 ∷ 606282273 ∷ 673654309 ∷ 741026345 ∷ 808398381 ∷ 875770417 ∷ 943142453 ∷ 1010514489 ∷ 1077886525 ∷ []) })
unfolding number16 number32 is_zero kind_of super_of super_checks super_in super_at v1_inode v2_inode inode_of inode_at inode_place
minix_inode_bytes_that_count_up_in_version_2_with_long_names = refl

-- the greatest size of version 1 in version 2 with long names
pub minix_inode_the_greatest_size_of_version_1_in_version_2_with_long_names : inode_at V2Long (hex 25 0xed41020000000000001c0810eb20096beb20096beb20096b06 ++ replicate 39 0) ≡ Ok (record { mode = 16877; links = 2; uid = 0; gid = 0; size = 268966912; times = (1795760363 ∷ 1795760363 ∷ 1795760363 ∷ []); zones = (6 ∷ 0 ∷ 0 ∷ 0 ∷ 0 ∷ 0 ∷ 0 ∷ 0 ∷ 0 ∷ 0 ∷ []) })
unfolding number16 number32 is_zero kind_of super_of super_checks super_in super_at v1_inode v2_inode inode_of inode_at inode_place
minix_inode_the_greatest_size_of_version_1_in_version_2_with_long_names = refl

-- one byte more than the greatest size of version 1 in version 2 with long names
pub minix_inode_one_byte_more_than_the_greatest_size_of_version_1_in_version_2_with_long_names : inode_at V2Long (hex 25 0xed41020000000000011c0810eb20096beb20096beb20096b06 ++ replicate 39 0) ≡ Ok (record { mode = 16877; links = 2; uid = 0; gid = 0; size = 268966913; times = (1795760363 ∷ 1795760363 ∷ 1795760363 ∷ []); zones = (6 ∷ 0 ∷ 0 ∷ 0 ∷ 0 ∷ 0 ∷ 0 ∷ 0 ∷ 0 ∷ 0 ∷ []) })
unfolding number16 number32 is_zero kind_of super_of super_checks super_in super_at v1_inode v2_inode inode_of inode_at inode_place
minix_inode_one_byte_more_than_the_greatest_size_of_version_1_in_version_2_with_long_names = refl

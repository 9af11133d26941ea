-- Cases of Minix volumes, written by tools/minix_cases.py: the inode that a path leads to.
use Rattle.std.proofs.Common.{◌≡◌, ◌∷◌, ◌++◌, [], Ok, Err, codes, replicate, refl}
use Rattle.lilo_model.specs.Bytes.{number16, number32, is_zero}
use Rattle.lilo_model.specs.MinixEntries.{entry_of, entry_at, find_entry, entries_at, is_dots}
use Rattle.lilo_model.specs.MinixFind.{components, child, find_path, file_block, file_at, find, NotFound, NotDirectory, TooManyLinks, BadEntry, PathTooLong, Zone}
use Rattle.lilo_model.specs.MinixLayout.{kind_of, super_of, super_checks, super_in, super_at, v1_inode, v2_inode, inode_of, inode_at, inode_place}
use Rattle.lilo_model.specs.MinixParts.{bit, with_bit, parts_of, number_in, follow, pointer_by, inside, follow_at, zone_at, block_at, content_at, ZoneOutside}
use Rattle.model_cases.specs.Sparse.{disks_of, patch_at, hex}
use Rattle.model_cases.specs.MinixFixtures.{minix_v2_long, volume_v2_long, minix_chain_v1_long, volume_chain_v1_long, minix_chain_v2_short, volume_chain_v2_short}

-- the path /la/x in version 2 with long names
pub minix_find_the_path_la_x_in_version_2_with_long_names : find volume_v2_long.layout (parts_of volume_v2_long (disks_of minix_v2_long)) (codes "/la/x") ≡ Err (NotDirectory 2)
unfolding number16 number32 is_zero kind_of super_of super_checks super_in super_at v1_inode v2_inode inode_of inode_at inode_place bit with_bit parts_of number_in follow pointer_by inside follow_at zone_at block_at content_at entry_of entry_at find_entry entries_at is_dots components child find_path file_block file_at
minix_find_the_path_la_x_in_version_2_with_long_names = refl

-- the path /hole/.. in version 2 with long names
pub minix_find_the_path_hole_in_version_2_with_long_names_2 : find volume_v2_long.layout (parts_of volume_v2_long (disks_of minix_v2_long)) (codes "/hole/..") ≡ Err (NotDirectory 1)
unfolding number16 number32 is_zero kind_of super_of super_checks super_in super_at v1_inode v2_inode inode_of inode_at inode_place bit with_bit parts_of number_in follow pointer_by inside follow_at zone_at block_at content_at entry_of entry_at find_entry entries_at is_dots components child find_path file_block file_at
minix_find_the_path_hole_in_version_2_with_long_names_2 = refl

-- the path boot in version 2 with long names
pub minix_find_the_path_boot_in_version_2_with_long_names_2 : find volume_v2_long.layout (parts_of volume_v2_long (disks_of minix_v2_long)) (codes "boot") ≡ Err (NotFound 0)
unfolding number16 number32 is_zero kind_of super_of super_checks super_in super_at v1_inode v2_inode inode_of inode_at inode_place bit with_bit parts_of number_in follow pointer_by inside follow_at zone_at block_at content_at entry_of entry_at find_entry entries_at is_dots components child find_path file_block file_at
minix_find_the_path_boot_in_version_2_with_long_names_2 = refl

-- the path of no byte in version 2 with long names
pub minix_find_the_path_of_no_byte_in_version_2_with_long_names : find volume_v2_long.layout (parts_of volume_v2_long (disks_of minix_v2_long)) [] ≡ Err (NotFound 0)
unfolding number16 number32 is_zero kind_of super_of super_checks super_in super_at v1_inode v2_inode inode_of inode_at inode_place bit with_bit parts_of number_in follow pointer_by inside follow_at zone_at block_at content_at entry_of entry_at find_entry entries_at is_dots components child find_path file_block file_at
minix_find_the_path_of_no_byte_in_version_2_with_long_names = refl

-- the path /boot/old/../../far in version 2 with long names
pub minix_find_the_path_boot_old_far_in_version_2_with_long_names : find volume_v2_long.layout (parts_of volume_v2_long (disks_of minix_v2_long)) (codes "/boot/old/../../far") ≡ Ok 13
unfolding number16 number32 is_zero kind_of super_of super_checks super_in super_at v1_inode v2_inode inode_of inode_at inode_place bit with_bit parts_of number_in follow pointer_by inside follow_at zone_at block_at content_at entry_of entry_at find_entry entries_at is_dots components child find_path file_block file_at
minix_find_the_path_boot_old_far_in_version_2_with_long_names = refl

-- the path /boot/old/c2/x in version 2 with long names
pub minix_find_the_path_boot_old_c2_x_in_version_2_with_long_names : find volume_v2_long.layout (parts_of volume_v2_long (disks_of minix_v2_long)) (codes "/boot/old/c2/x") ≡ Err (NotDirectory 2)
unfolding number16 number32 is_zero kind_of super_of super_checks super_in super_at v1_inode v2_inode inode_of inode_at inode_place bit with_bit parts_of number_in follow pointer_by inside follow_at zone_at block_at content_at entry_of entry_at find_entry entries_at is_dots components child find_path file_block file_at
minix_find_the_path_boot_old_c2_x_in_version_2_with_long_names = refl

-- the path /lr/ in version 2 with long names
pub minix_find_the_path_lr_in_version_2_with_long_names_2 : find volume_v2_long.layout (parts_of volume_v2_long (disks_of minix_v2_long)) (codes "/lr/") ≡ Ok 2
unfolding number16 number32 is_zero kind_of super_of super_checks super_in super_at v1_inode v2_inode inode_of inode_at inode_place bit with_bit parts_of number_in follow pointer_by inside follow_at zone_at block_at content_at entry_of entry_at find_entry entries_at is_dots components child find_path file_block file_at
minix_find_the_path_lr_in_version_2_with_long_names_2 = refl

-- the path /lr/. in version 2 with long names
pub minix_find_the_path_lr_in_version_2_with_long_names_3 : find volume_v2_long.layout (parts_of volume_v2_long (disks_of minix_v2_long)) (codes "/lr/.") ≡ Ok 2
unfolding number16 number32 is_zero kind_of super_of super_checks super_in super_at v1_inode v2_inode inode_of inode_at inode_place bit with_bit parts_of number_in follow pointer_by inside follow_at zone_at block_at content_at entry_of entry_at find_entry entries_at is_dots components child find_path file_block file_at
minix_find_the_path_lr_in_version_2_with_long_names_3 = refl

-- a directory whose zone is outside in version 2 with long names
pub minix_find_a_directory_whose_zone_is_outside_in_version_2_with_long_names : find volume_v2_long.layout (parts_of volume_v2_long (disks_of (minix_v2_long ++ (patch_at 0 11 88 (hex 4 0x60ea0000) ∷ [])))) (codes "/boot/boot.b") ≡ Err (Zone (ZoneOutside 60000))
unfolding number16 number32 is_zero kind_of super_of super_checks super_in super_at v1_inode v2_inode inode_of inode_at inode_place bit with_bit parts_of number_in follow pointer_by inside follow_at zone_at block_at content_at entry_of entry_at find_entry entries_at is_dots components child find_path file_block file_at
minix_find_a_directory_whose_zone_is_outside_in_version_2_with_long_names = refl

-- a root whose zone is outside in version 2 with long names
pub minix_find_a_root_whose_zone_is_outside_in_version_2_with_long_names : find volume_v2_long.layout (parts_of volume_v2_long (disks_of (minix_v2_long ++ (patch_at 0 11 24 (hex 4 0x01000000) ∷ [])))) (codes "/boot") ≡ Err (Zone (ZoneOutside 1))
unfolding number16 number32 is_zero kind_of super_of super_checks super_in super_at v1_inode v2_inode inode_of inode_at inode_place bit with_bit parts_of number_in follow pointer_by inside follow_at zone_at block_at content_at entry_of entry_at find_entry entries_at is_dots components child find_path file_block file_at
minix_find_a_root_whose_zone_is_outside_in_version_2_with_long_names = refl

-- a path of slashes on a root whose zone is outside in version 2 with long names
pub minix_find_a_path_of_slashes_on_a_root_whose_zone_is_outside_in_version_2_with_long_names : find volume_v2_long.layout (parts_of volume_v2_long (disks_of (minix_v2_long ++ (patch_at 0 11 24 (hex 4 0x01000000) ∷ [])))) (codes "//") ≡ Ok 1
unfolding number16 number32 is_zero kind_of super_of super_checks super_in super_at v1_inode v2_inode inode_of inode_at inode_place bit with_bit parts_of number_in follow pointer_by inside follow_at zone_at block_at content_at entry_of entry_at find_entry entries_at is_dots components child find_path file_block file_at
minix_find_a_path_of_slashes_on_a_root_whose_zone_is_outside_in_version_2_with_long_names = refl

-- a link whose zone is outside in version 2 with long names
pub minix_find_a_link_whose_zone_is_outside_in_version_2_with_long_names : find volume_v2_long.layout (parts_of volume_v2_long (disks_of (minix_v2_long ++ (patch_at 0 11 472 (hex 4 0x60ea0000) ∷ [])))) (codes "/lr") ≡ Err (Zone (ZoneOutside 60000))
unfolding number16 number32 is_zero kind_of super_of super_checks super_in super_at v1_inode v2_inode inode_of inode_at inode_place bit with_bit parts_of number_in follow pointer_by inside follow_at zone_at block_at content_at entry_of entry_at find_entry entries_at is_dots components child find_path file_block file_at
minix_find_a_link_whose_zone_is_outside_in_version_2_with_long_names = refl

-- a long link whose zone is outside in version 2 with long names
pub minix_find_a_long_link_whose_zone_is_outside_in_version_2_with_long_names : find volume_v2_long.layout (parts_of volume_v2_long (disks_of (minix_v2_long ++ (patch_at 0 11 472 (hex 4 0x60ea0000) ∷ patch_at 0 11 456 (hex 4 0x01040000) ∷ [])))) (codes "/lr") ≡ Err PathTooLong
unfolding number16 number32 is_zero kind_of super_of super_checks super_in super_at v1_inode v2_inode inode_of inode_at inode_place bit with_bit parts_of number_in follow pointer_by inside follow_at zone_at block_at content_at entry_of entry_at find_entry entries_at is_dots components child find_path file_block file_at
minix_find_a_long_link_whose_zone_is_outside_in_version_2_with_long_names = refl

-- a link of 1024 bytes with one byte after it in version 2 with long names
pub minix_find_a_link_of_1024_bytes_with_one_byte_after_it_in_version_2_with_long_names : find volume_v2_long.layout (parts_of volume_v2_long (disks_of (minix_v2_long ++ (patch_at 0 11 456 (hex 4 0x00040000) ∷ [])))) (codes "/lr/") ≡ Err PathTooLong
unfolding number16 number32 is_zero kind_of super_of super_checks super_in super_at v1_inode v2_inode inode_of inode_at inode_place bit with_bit parts_of number_in follow pointer_by inside follow_at zone_at block_at content_at entry_of entry_at find_entry entries_at is_dots components child find_path file_block file_at
minix_find_a_link_of_1024_bytes_with_one_byte_after_it_in_version_2_with_long_names = refl

-- an empty link in version 2 with long names
pub minix_find_an_empty_link_in_version_2_with_long_names : find volume_v2_long.layout (parts_of volume_v2_long (disks_of (minix_v2_long ++ (patch_at 0 11 456 (hex 4 0x00000000) ∷ [])))) (codes "/lr/boot") ≡ Ok 2
unfolding number16 number32 is_zero kind_of super_of super_checks super_in super_at v1_inode v2_inode inode_of inode_at inode_place bit with_bit parts_of number_in follow pointer_by inside follow_at zone_at block_at content_at entry_of entry_at find_entry entries_at is_dots components child find_path file_block file_at
minix_find_an_empty_link_in_version_2_with_long_names = refl

-- a root that is no directory in version 2 with long names
pub minix_find_a_root_that_is_no_directory_in_version_2_with_long_names : find volume_v2_long.layout (parts_of volume_v2_long (disks_of (minix_v2_long ++ (patch_at 0 11 0 (hex 2 0xa481) ∷ [])))) (codes "/boot") ≡ Err (NotDirectory 0)
unfolding number16 number32 is_zero kind_of super_of super_checks super_in super_at v1_inode v2_inode inode_of inode_at inode_place bit with_bit parts_of number_in follow pointer_by inside follow_at zone_at block_at content_at entry_of entry_at find_entry entries_at is_dots components child find_path file_block file_at
minix_find_a_root_that_is_no_directory_in_version_2_with_long_names = refl

-- the root that is no directory in version 2 with long names
pub minix_find_the_root_that_is_no_directory_in_version_2_with_long_names : find volume_v2_long.layout (parts_of volume_v2_long (disks_of (minix_v2_long ++ (patch_at 0 11 0 (hex 2 0xa481) ∷ [])))) (codes "/") ≡ Ok 1
unfolding number16 number32 is_zero kind_of super_of super_checks super_in super_at v1_inode v2_inode inode_of inode_at inode_place bit with_bit parts_of number_in follow pointer_by inside follow_at zone_at block_at content_at entry_of entry_at find_entry entries_at is_dots components child find_path file_block file_at
minix_find_the_root_that_is_no_directory_in_version_2_with_long_names = refl

-- a directory cut before its third entry in version 2 with long names
pub minix_find_a_directory_cut_before_its_third_entry_in_version_2_with_long_names : find volume_v2_long.layout (parts_of volume_v2_long (disks_of (minix_v2_long ++ (patch_at 0 11 8 (hex 4 0x40000000) ∷ [])))) (codes "/boot") ≡ Err (NotFound 0)
unfolding number16 number32 is_zero kind_of super_of super_checks super_in super_at v1_inode v2_inode inode_of inode_at inode_place bit with_bit parts_of number_in follow pointer_by inside follow_at zone_at block_at content_at entry_of entry_at find_entry entries_at is_dots components child find_path file_block file_at
minix_find_a_directory_cut_before_its_third_entry_in_version_2_with_long_names = refl

-- a directory cut inside its third entry in version 2 with long names
pub minix_find_a_directory_cut_inside_its_third_entry_in_version_2_with_long_names : find volume_v2_long.layout (parts_of volume_v2_long (disks_of (minix_v2_long ++ (patch_at 0 11 8 (hex 4 0x5f000000) ∷ [])))) (codes "/boot") ≡ Err (NotFound 0)
unfolding number16 number32 is_zero kind_of super_of super_checks super_in super_at v1_inode v2_inode inode_of inode_at inode_place bit with_bit parts_of number_in follow pointer_by inside follow_at zone_at block_at content_at entry_of entry_at find_entry entries_at is_dots components child find_path file_block file_at
minix_find_a_directory_cut_inside_its_third_entry_in_version_2_with_long_names = refl

-- a directory cut after its third entry in version 2 with long names
pub minix_find_a_directory_cut_after_its_third_entry_in_version_2_with_long_names : find volume_v2_long.layout (parts_of volume_v2_long (disks_of (minix_v2_long ++ (patch_at 0 11 8 (hex 4 0x60000000) ∷ [])))) (codes "/boot") ≡ Ok 2
unfolding number16 number32 is_zero kind_of super_of super_checks super_in super_at v1_inode v2_inode inode_of inode_at inode_place bit with_bit parts_of number_in follow pointer_by inside follow_at zone_at block_at content_at entry_of entry_at find_entry entries_at is_dots components child find_path file_block file_at
minix_find_a_directory_cut_after_its_third_entry_in_version_2_with_long_names = refl

-- an entry of an inode that is not there in version 2 with long names
pub minix_find_an_entry_of_an_inode_that_is_not_there_in_version_2_with_long_names : find volume_v2_long.layout (parts_of volume_v2_long (disks_of (minix_v2_long ++ (patch_at 0 15 64 (hex 2 0x2100) ∷ [])))) (codes "/boot") ≡ Err (BadEntry 1)
unfolding number16 number32 is_zero kind_of super_of super_checks super_in super_at v1_inode v2_inode inode_of inode_at inode_place bit with_bit parts_of number_in follow pointer_by inside follow_at zone_at block_at content_at entry_of entry_at find_entry entries_at is_dots components child find_path file_block file_at
minix_find_an_entry_of_an_inode_that_is_not_there_in_version_2_with_long_names = refl

-- an entry of the last inode in version 2 with long names
pub minix_find_an_entry_of_the_last_inode_in_version_2_with_long_names : find volume_v2_long.layout (parts_of volume_v2_long (disks_of (minix_v2_long ++ (patch_at 0 15 64 (hex 2 0x2000) ∷ [])))) (codes "/boot") ≡ Ok 32
unfolding number16 number32 is_zero kind_of super_of super_checks super_in super_at v1_inode v2_inode inode_of inode_at inode_place bit with_bit parts_of number_in follow pointer_by inside follow_at zone_at block_at content_at entry_of entry_at find_entry entries_at is_dots components child find_path file_block file_at
minix_find_an_entry_of_the_last_inode_in_version_2_with_long_names = refl

-- an entry with the number 0 in version 2 with long names
pub minix_find_an_entry_with_the_number_0_in_version_2_with_long_names : find volume_v2_long.layout (parts_of volume_v2_long (disks_of (minix_v2_long ++ (patch_at 0 15 64 (hex 2 0x0000) ∷ [])))) (codes "/boot") ≡ Err (NotFound 0)
unfolding number16 number32 is_zero kind_of super_of super_checks super_in super_at v1_inode v2_inode inode_of inode_at inode_place bit with_bit parts_of number_in follow pointer_by inside follow_at zone_at block_at content_at entry_of entry_at find_entry entries_at is_dots components child find_path file_block file_at
minix_find_an_entry_with_the_number_0_in_version_2_with_long_names = refl

-- the first of two entries of one name in version 2 with long names
pub minix_find_the_first_of_two_entries_of_one_name_in_version_2_with_long_names : find volume_v2_long.layout (parts_of volume_v2_long (disks_of (minix_v2_long ++ (patch_at 0 15 96 (hex 32 0x0400626f6f740000000000000000000000000000000000000000000000000000) ∷ [])))) (codes "/boot") ≡ Ok 2
unfolding number16 number32 is_zero kind_of super_of super_checks super_in super_at v1_inode v2_inode inode_of inode_at inode_place bit with_bit parts_of number_in follow pointer_by inside follow_at zone_at block_at content_at entry_of entry_at find_entry entries_at is_dots components child find_path file_block file_at
minix_find_the_first_of_two_entries_of_one_name_in_version_2_with_long_names = refl

-- a size beyond version 1 in version 2 with long names
pub minix_find_a_size_beyond_version_1_in_version_2_with_long_names : find volume_v2_long.layout (parts_of volume_v2_long (disks_of (minix_v2_long ++ (patch_at 0 11 200 (hex 4 0x011c0810) ∷ [])))) (codes "/boot/boot.b") ≡ Ok 4
unfolding number16 number32 is_zero kind_of super_of super_checks super_in super_at v1_inode v2_inode inode_of inode_at inode_place bit with_bit parts_of number_in follow pointer_by inside follow_at zone_at block_at content_at entry_of entry_at find_entry entries_at is_dots components child find_path file_block file_at
minix_find_a_size_beyond_version_1_in_version_2_with_long_names = refl

-- a link with a size beyond version 1, not followed in version 2 with long names
pub minix_find_a_link_with_a_size_beyond_version_1_not_followed_in_version_2_with_long_names : find volume_v2_long.layout (parts_of volume_v2_long (disks_of (minix_v2_long ++ (patch_at 0 11 456 (hex 4 0x011c0810) ∷ [])))) (codes "/lr/x") ≡ Err PathTooLong
unfolding number16 number32 is_zero kind_of super_of super_checks super_in super_at v1_inode v2_inode inode_of inode_at inode_place bit with_bit parts_of number_in follow pointer_by inside follow_at zone_at block_at content_at entry_of entry_at find_entry entries_at is_dots components child find_path file_block file_at
minix_find_a_link_with_a_size_beyond_version_1_not_followed_in_version_2_with_long_names = refl

-- /a0 with links in a row, version 1 with long names
pub minix_find_a0_with_links_in_a_row_version_1_with_long_names : find volume_chain_v1_long.layout (parts_of volume_chain_v1_long (disks_of minix_chain_v1_long)) (codes "/a0") ≡ Err TooManyLinks
unfolding number16 number32 is_zero kind_of super_of super_checks super_in super_at v1_inode v2_inode inode_of inode_at inode_place bit with_bit parts_of number_in follow pointer_by inside follow_at zone_at block_at content_at entry_of entry_at find_entry entries_at is_dots components child find_path file_block file_at
minix_find_a0_with_links_in_a_row_version_1_with_long_names = refl

-- /a1 with links in a row, version 1 with long names
pub minix_find_a1_with_links_in_a_row_version_1_with_long_names : find volume_chain_v1_long.layout (parts_of volume_chain_v1_long (disks_of minix_chain_v1_long)) (codes "/a1") ≡ Ok 2
unfolding number16 number32 is_zero kind_of super_of super_checks super_in super_at v1_inode v2_inode inode_of inode_at inode_place bit with_bit parts_of number_in follow pointer_by inside follow_at zone_at block_at content_at entry_of entry_at find_entry entries_at is_dots components child find_path file_block file_at
minix_find_a1_with_links_in_a_row_version_1_with_long_names = refl

-- /a2/ with links in a row, version 1 with long names
pub minix_find_a2_with_links_in_a_row_version_1_with_long_names : find volume_chain_v1_long.layout (parts_of volume_chain_v1_long (disks_of minix_chain_v1_long)) (codes "/a2/") ≡ Ok 2
unfolding number16 number32 is_zero kind_of super_of super_checks super_in super_at v1_inode v2_inode inode_of inode_at inode_place bit with_bit parts_of number_in follow pointer_by inside follow_at zone_at block_at content_at entry_of entry_at find_entry entries_at is_dots components child find_path file_block file_at
minix_find_a2_with_links_in_a_row_version_1_with_long_names = refl

-- /x with links in a row, version 1 with long names
pub minix_find_x_with_links_in_a_row_version_1_with_long_names : find volume_chain_v1_long.layout (parts_of volume_chain_v1_long (disks_of minix_chain_v1_long)) (codes "/x") ≡ Err TooManyLinks
unfolding number16 number32 is_zero kind_of super_of super_checks super_in super_at v1_inode v2_inode inode_of inode_at inode_place bit with_bit parts_of number_in follow pointer_by inside follow_at zone_at block_at content_at entry_of entry_at find_entry entries_at is_dots components child find_path file_block file_at
minix_find_x_with_links_in_a_row_version_1_with_long_names = refl

-- /f with links in a row, version 1 with long names
pub minix_find_f_with_links_in_a_row_version_1_with_long_names : find volume_chain_v1_long.layout (parts_of volume_chain_v1_long (disks_of minix_chain_v1_long)) (codes "/f") ≡ Ok 2
unfolding number16 number32 is_zero kind_of super_of super_checks super_in super_at v1_inode v2_inode inode_of inode_at inode_place bit with_bit parts_of number_in follow pointer_by inside follow_at zone_at block_at content_at entry_of entry_at find_entry entries_at is_dots components child find_path file_block file_at
minix_find_f_with_links_in_a_row_version_1_with_long_names = refl

-- /a8 with links in a row, version 1 with long names
pub minix_find_a8_with_links_in_a_row_version_1_with_long_names : find volume_chain_v1_long.layout (parts_of volume_chain_v1_long (disks_of minix_chain_v1_long)) (codes "/a8") ≡ Ok 2
unfolding number16 number32 is_zero kind_of super_of super_checks super_in super_at v1_inode v2_inode inode_of inode_at inode_place bit with_bit parts_of number_in follow pointer_by inside follow_at zone_at block_at content_at entry_of entry_at find_entry entries_at is_dots components child find_path file_block file_at
minix_find_a8_with_links_in_a_row_version_1_with_long_names = refl

-- /x/y with links in a row, version 1 with long names
pub minix_find_x_y_with_links_in_a_row_version_1_with_long_names : find volume_chain_v1_long.layout (parts_of volume_chain_v1_long (disks_of minix_chain_v1_long)) (codes "/x/y") ≡ Err TooManyLinks
unfolding number16 number32 is_zero kind_of super_of super_checks super_in super_at v1_inode v2_inode inode_of inode_at inode_place bit with_bit parts_of number_in follow pointer_by inside follow_at zone_at block_at content_at entry_of entry_at find_entry entries_at is_dots components child find_path file_block file_at
minix_find_x_y_with_links_in_a_row_version_1_with_long_names = refl

-- a path of 1024 bytes with links in a row, version 1 with long names
pub minix_find_a_path_of_1024_bytes_with_links_in_a_row_version_1_with_long_names : find volume_chain_v1_long.layout (parts_of volume_chain_v1_long (disks_of minix_chain_v1_long)) (replicate 1024 47) ≡ Ok 1
unfolding number16 number32 is_zero kind_of super_of super_checks super_in super_at v1_inode v2_inode inode_of inode_at inode_place bit with_bit parts_of number_in follow pointer_by inside follow_at zone_at block_at content_at entry_of entry_at find_entry entries_at is_dots components child find_path file_block file_at
minix_find_a_path_of_1024_bytes_with_links_in_a_row_version_1_with_long_names = refl

-- a path of 1025 bytes with links in a row, version 1 with long names
pub minix_find_a_path_of_1025_bytes_with_links_in_a_row_version_1_with_long_names : find volume_chain_v1_long.layout (parts_of volume_chain_v1_long (disks_of minix_chain_v1_long)) (replicate 1025 47) ≡ Err PathTooLong
unfolding number16 number32 is_zero kind_of super_of super_checks super_in super_at v1_inode v2_inode inode_of inode_at inode_place bit with_bit parts_of number_in follow pointer_by inside follow_at zone_at block_at content_at entry_of entry_at find_entry entries_at is_dots components child find_path file_block file_at
minix_find_a_path_of_1025_bytes_with_links_in_a_row_version_1_with_long_names = refl

-- a path of 1024 bytes with links in a row, version 1 with long names
pub minix_find_a_path_of_1024_bytes_with_links_in_a_row_version_1_with_long_names_2 : find volume_chain_v1_long.layout (parts_of volume_chain_v1_long (disks_of minix_chain_v1_long)) (codes "/a0" ++ replicate 1021 47) ≡ Err TooManyLinks
unfolding number16 number32 is_zero kind_of super_of super_checks super_in super_at v1_inode v2_inode inode_of inode_at inode_place bit with_bit parts_of number_in follow pointer_by inside follow_at zone_at block_at content_at entry_of entry_at find_entry entries_at is_dots components child find_path file_block file_at
minix_find_a_path_of_1024_bytes_with_links_in_a_row_version_1_with_long_names_2 = refl

-- /a0 with links in a row, version 2 with short names
pub minix_find_a0_with_links_in_a_row_version_2_with_short_names : find volume_chain_v2_short.layout (parts_of volume_chain_v2_short (disks_of minix_chain_v2_short)) (codes "/a0") ≡ Err TooManyLinks
unfolding number16 number32 is_zero kind_of super_of super_checks super_in super_at v1_inode v2_inode inode_of inode_at inode_place bit with_bit parts_of number_in follow pointer_by inside follow_at zone_at block_at content_at entry_of entry_at find_entry entries_at is_dots components child find_path file_block file_at
minix_find_a0_with_links_in_a_row_version_2_with_short_names = refl

-- /a1 with links in a row, version 2 with short names
pub minix_find_a1_with_links_in_a_row_version_2_with_short_names : find volume_chain_v2_short.layout (parts_of volume_chain_v2_short (disks_of minix_chain_v2_short)) (codes "/a1") ≡ Ok 2
unfolding number16 number32 is_zero kind_of super_of super_checks super_in super_at v1_inode v2_inode inode_of inode_at inode_place bit with_bit parts_of number_in follow pointer_by inside follow_at zone_at block_at content_at entry_of entry_at find_entry entries_at is_dots components child find_path file_block file_at
minix_find_a1_with_links_in_a_row_version_2_with_short_names = refl

-- /a2/ with links in a row, version 2 with short names
pub minix_find_a2_with_links_in_a_row_version_2_with_short_names : find volume_chain_v2_short.layout (parts_of volume_chain_v2_short (disks_of minix_chain_v2_short)) (codes "/a2/") ≡ Ok 2
unfolding number16 number32 is_zero kind_of super_of super_checks super_in super_at v1_inode v2_inode inode_of inode_at inode_place bit with_bit parts_of number_in follow pointer_by inside follow_at zone_at block_at content_at entry_of entry_at find_entry entries_at is_dots components child find_path file_block file_at
minix_find_a2_with_links_in_a_row_version_2_with_short_names = refl

-- /x with links in a row, version 2 with short names
pub minix_find_x_with_links_in_a_row_version_2_with_short_names : find volume_chain_v2_short.layout (parts_of volume_chain_v2_short (disks_of minix_chain_v2_short)) (codes "/x") ≡ Err TooManyLinks
unfolding number16 number32 is_zero kind_of super_of super_checks super_in super_at v1_inode v2_inode inode_of inode_at inode_place bit with_bit parts_of number_in follow pointer_by inside follow_at zone_at block_at content_at entry_of entry_at find_entry entries_at is_dots components child find_path file_block file_at
minix_find_x_with_links_in_a_row_version_2_with_short_names = refl

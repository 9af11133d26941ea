-- Cases of Minix volumes, written by tools/minix_cases.py: the inode that a path leads to.
use Rattle.std.proofs.Common.{◌≡◌, ◌∷◌, ◌++◌, [], Ok, Err, codes, refl}
use Rattle.lilo_model.specs.Bytes.{number16, number32, is_zero}
use Rattle.lilo_model.specs.MinixEntries.{entry_of, entry_at, find_entry, entries_at, is_dots}
use Rattle.lilo_model.specs.MinixFind.{components, child, find_path, file_block, file_at, find, NotFound, NotDirectory, TooManyLinks, PathTooLong, Zone}
use Rattle.lilo_model.specs.MinixLayout.{kind_of, super_of, super_checks, super_in, super_at, v1_inode, v2_inode, inode_of, inode_at, inode_place}
use Rattle.lilo_model.specs.MinixParts.{bit, with_bit, parts_of, number_in, follow, pointer_by, inside, follow_at, zone_at, block_at, content_at, ZoneOutside}
use Rattle.model_cases.specs.Sparse.{disks_of, patch_at, hex}
use Rattle.model_cases.specs.MinixFixtures.{minix_v1_short, volume_v1_short}

-- the path / in version 1 with short names
pub minix_find_the_path_in_version_1_with_short_names : find volume_v1_short.layout (parts_of volume_v1_short (disks_of minix_v1_short)) (codes "/") ≡ Ok 1
unfolding number16 number32 is_zero kind_of super_of super_checks super_in super_at v1_inode v2_inode inode_of inode_at inode_place bit with_bit parts_of number_in follow pointer_by inside follow_at zone_at block_at content_at entry_of entry_at find_entry entries_at is_dots components child find_path file_block file_at
minix_find_the_path_in_version_1_with_short_names = refl

-- the path /boot in version 1 with short names
pub minix_find_the_path_boot_in_version_1_with_short_names : find volume_v1_short.layout (parts_of volume_v1_short (disks_of minix_v1_short)) (codes "/boot") ≡ Ok 2
unfolding number16 number32 is_zero kind_of super_of super_checks super_in super_at v1_inode v2_inode inode_of inode_at inode_place bit with_bit parts_of number_in follow pointer_by inside follow_at zone_at block_at content_at entry_of entry_at find_entry entries_at is_dots components child find_path file_block file_at
minix_find_the_path_boot_in_version_1_with_short_names = refl

-- the path /boot/boot.b in version 1 with short names
pub minix_find_the_path_boot_boot_b_in_version_1_with_short_names : find volume_v1_short.layout (parts_of volume_v1_short (disks_of minix_v1_short)) (codes "/boot/boot.b") ≡ Ok 4
unfolding number16 number32 is_zero kind_of super_of super_checks super_in super_at v1_inode v2_inode inode_of inode_at inode_place bit with_bit parts_of number_in follow pointer_by inside follow_at zone_at block_at content_at entry_of entry_at find_entry entries_at is_dots components child find_path file_block file_at
minix_find_the_path_boot_boot_b_in_version_1_with_short_names = refl

-- the path /boot/old/k in version 1 with short names
pub minix_find_the_path_boot_old_k_in_version_1_with_short_names : find volume_v1_short.layout (parts_of volume_v1_short (disks_of minix_v1_short)) (codes "/boot/old/k") ≡ Ok 5
unfolding number16 number32 is_zero kind_of super_of super_checks super_in super_at v1_inode v2_inode inode_of inode_at inode_place bit with_bit parts_of number_in follow pointer_by inside follow_at zone_at block_at content_at entry_of entry_at find_entry entries_at is_dots components child find_path file_block file_at
minix_find_the_path_boot_old_k_in_version_1_with_short_names = refl

-- the path //boot///old// in version 1 with short names
pub minix_find_the_path_boot_old_in_version_1_with_short_names : find volume_v1_short.layout (parts_of volume_v1_short (disks_of minix_v1_short)) (codes "//boot///old//") ≡ Ok 3
unfolding number16 number32 is_zero kind_of super_of super_checks super_in super_at v1_inode v2_inode inode_of inode_at inode_place bit with_bit parts_of number_in follow pointer_by inside follow_at zone_at block_at content_at entry_of entry_at find_entry entries_at is_dots components child find_path file_block file_at
minix_find_the_path_boot_old_in_version_1_with_short_names = refl

-- the path /boot/../boot/./boot.b in version 1 with short names
pub minix_find_the_path_boot_boot_boot_b_in_version_1_with_short_names : find volume_v1_short.layout (parts_of volume_v1_short (disks_of minix_v1_short)) (codes "/boot/../boot/./boot.b") ≡ Ok 4
unfolding number16 number32 is_zero kind_of super_of super_checks super_in super_at v1_inode v2_inode inode_of inode_at inode_place bit with_bit parts_of number_in follow pointer_by inside follow_at zone_at block_at content_at entry_of entry_at find_entry entries_at is_dots components child find_path file_block file_at
minix_find_the_path_boot_boot_boot_b_in_version_1_with_short_names = refl

-- the path /.. in version 1 with short names
pub minix_find_the_path_in_version_1_with_short_names_2 : find volume_v1_short.layout (parts_of volume_v1_short (disks_of minix_v1_short)) (codes "/..") ≡ Ok 1
unfolding number16 number32 is_zero kind_of super_of super_checks super_in super_at v1_inode v2_inode inode_of inode_at inode_place bit with_bit parts_of number_in follow pointer_by inside follow_at zone_at block_at content_at entry_of entry_at find_entry entries_at is_dots components child find_path file_block file_at
minix_find_the_path_in_version_1_with_short_names_2 = refl

-- the path /../hole in version 1 with short names
pub minix_find_the_path_hole_in_version_1_with_short_names : find volume_v1_short.layout (parts_of volume_v1_short (disks_of minix_v1_short)) (codes "/../hole") ≡ Ok 6
unfolding number16 number32 is_zero kind_of super_of super_checks super_in super_at v1_inode v2_inode inode_of inode_at inode_place bit with_bit parts_of number_in follow pointer_by inside follow_at zone_at block_at content_at entry_of entry_at find_entry entries_at is_dots components child find_path file_block file_at
minix_find_the_path_hole_in_version_1_with_short_names = refl

-- the path /la in version 1 with short names
pub minix_find_the_path_la_in_version_1_with_short_names : find volume_v1_short.layout (parts_of volume_v1_short (disks_of minix_v1_short)) (codes "/la") ≡ Ok 4
unfolding number16 number32 is_zero kind_of super_of super_checks super_in super_at v1_inode v2_inode inode_of inode_at inode_place bit with_bit parts_of number_in follow pointer_by inside follow_at zone_at block_at content_at entry_of entry_at find_entry entries_at is_dots components child find_path file_block file_at
minix_find_the_path_la_in_version_1_with_short_names = refl

-- the path /lr in version 1 with short names
pub minix_find_the_path_lr_in_version_1_with_short_names : find volume_v1_short.layout (parts_of volume_v1_short (disks_of minix_v1_short)) (codes "/lr") ≡ Ok 2
unfolding number16 number32 is_zero kind_of super_of super_checks super_in super_at v1_inode v2_inode inode_of inode_at inode_place bit with_bit parts_of number_in follow pointer_by inside follow_at zone_at block_at content_at entry_of entry_at find_entry entries_at is_dots components child find_path file_block file_at
minix_find_the_path_lr_in_version_1_with_short_names = refl

-- the path /lr/boot.b in version 1 with short names
pub minix_find_the_path_lr_boot_b_in_version_1_with_short_names : find volume_v1_short.layout (parts_of volume_v1_short (disks_of minix_v1_short)) (codes "/lr/boot.b") ≡ Ok 4
unfolding number16 number32 is_zero kind_of super_of super_checks super_in super_at v1_inode v2_inode inode_of inode_at inode_place bit with_bit parts_of number_in follow pointer_by inside follow_at zone_at block_at content_at entry_of entry_at find_entry entries_at is_dots components child find_path file_block file_at
minix_find_the_path_lr_boot_b_in_version_1_with_short_names = refl

-- the path /lr/up in version 1 with short names
pub minix_find_the_path_lr_up_in_version_1_with_short_names : find volume_v1_short.layout (parts_of volume_v1_short (disks_of minix_v1_short)) (codes "/lr/up") ≡ Ok 6
unfolding number16 number32 is_zero kind_of super_of super_checks super_in super_at v1_inode v2_inode inode_of inode_at inode_place bit with_bit parts_of number_in follow pointer_by inside follow_at zone_at block_at content_at entry_of entry_at find_entry entries_at is_dots components child find_path file_block file_at
minix_find_the_path_lr_up_in_version_1_with_short_names = refl

-- the path /boot/up in version 1 with short names
pub minix_find_the_path_boot_up_in_version_1_with_short_names : find volume_v1_short.layout (parts_of volume_v1_short (disks_of minix_v1_short)) (codes "/boot/up") ≡ Ok 6
unfolding number16 number32 is_zero kind_of super_of super_checks super_in super_at v1_inode v2_inode inode_of inode_at inode_place bit with_bit parts_of number_in follow pointer_by inside follow_at zone_at block_at content_at entry_of entry_at find_entry entries_at is_dots components child find_path file_block file_at
minix_find_the_path_boot_up_in_version_1_with_short_names = refl

-- the path /boot/old/c1 in version 1 with short names
pub minix_find_the_path_boot_old_c1_in_version_1_with_short_names : find volume_v1_short.layout (parts_of volume_v1_short (disks_of minix_v1_short)) (codes "/boot/old/c1") ≡ Ok 6
unfolding number16 number32 is_zero kind_of super_of super_checks super_in super_at v1_inode v2_inode inode_of inode_at inode_place bit with_bit parts_of number_in follow pointer_by inside follow_at zone_at block_at content_at entry_of entry_at find_entry entries_at is_dots components child find_path file_block file_at
minix_find_the_path_boot_old_c1_in_version_1_with_short_names = refl

-- the path /boot/old/c2 in version 1 with short names
pub minix_find_the_path_boot_old_c2_in_version_1_with_short_names : find volume_v1_short.layout (parts_of volume_v1_short (disks_of minix_v1_short)) (codes "/boot/old/c2") ≡ Ok 6
unfolding number16 number32 is_zero kind_of super_of super_checks super_in super_at v1_inode v2_inode inode_of inode_at inode_place bit with_bit parts_of number_in follow pointer_by inside follow_at zone_at block_at content_at entry_of entry_at find_entry entries_at is_dots components child find_path file_block file_at
minix_find_the_path_boot_old_c2_in_version_1_with_short_names = refl

-- the path /boot/old/self in version 1 with short names
pub minix_find_the_path_boot_old_self_in_version_1_with_short_names : find volume_v1_short.layout (parts_of volume_v1_short (disks_of minix_v1_short)) (codes "/boot/old/self") ≡ Err TooManyLinks
unfolding number16 number32 is_zero kind_of super_of super_checks super_in super_at v1_inode v2_inode inode_of inode_at inode_place bit with_bit parts_of number_in follow pointer_by inside follow_at zone_at block_at content_at entry_of entry_at find_entry entries_at is_dots components child find_path file_block file_at
minix_find_the_path_boot_old_self_in_version_1_with_short_names = refl

-- the path /none in version 1 with short names
pub minix_find_the_path_none_in_version_1_with_short_names : find volume_v1_short.layout (parts_of volume_v1_short (disks_of minix_v1_short)) (codes "/none") ≡ Err (NotFound 0)
unfolding number16 number32 is_zero kind_of super_of super_checks super_in super_at v1_inode v2_inode inode_of inode_at inode_place bit with_bit parts_of number_in follow pointer_by inside follow_at zone_at block_at content_at entry_of entry_at find_entry entries_at is_dots components child find_path file_block file_at
minix_find_the_path_none_in_version_1_with_short_names = refl

-- the path /boot/none in version 1 with short names
pub minix_find_the_path_boot_none_in_version_1_with_short_names : find volume_v1_short.layout (parts_of volume_v1_short (disks_of minix_v1_short)) (codes "/boot/none") ≡ Err (NotFound 1)
unfolding number16 number32 is_zero kind_of super_of super_checks super_in super_at v1_inode v2_inode inode_of inode_at inode_place bit with_bit parts_of number_in follow pointer_by inside follow_at zone_at block_at content_at entry_of entry_at find_entry entries_at is_dots components child find_path file_block file_at
minix_find_the_path_boot_none_in_version_1_with_short_names = refl

-- the path /lr/none in version 1 with short names
pub minix_find_the_path_lr_none_in_version_1_with_short_names : find volume_v1_short.layout (parts_of volume_v1_short (disks_of minix_v1_short)) (codes "/lr/none") ≡ Err (NotFound 1)
unfolding number16 number32 is_zero kind_of super_of super_checks super_in super_at v1_inode v2_inode inode_of inode_at inode_place bit with_bit parts_of number_in follow pointer_by inside follow_at zone_at block_at content_at entry_of entry_at find_entry entries_at is_dots components child find_path file_block file_at
minix_find_the_path_lr_none_in_version_1_with_short_names = refl

-- the path /boot/boot.b/x in version 1 with short names
pub minix_find_the_path_boot_boot_b_x_in_version_1_with_short_names : find volume_v1_short.layout (parts_of volume_v1_short (disks_of minix_v1_short)) (codes "/boot/boot.b/x") ≡ Err (NotDirectory 2)
unfolding number16 number32 is_zero kind_of super_of super_checks super_in super_at v1_inode v2_inode inode_of inode_at inode_place bit with_bit parts_of number_in follow pointer_by inside follow_at zone_at block_at content_at entry_of entry_at find_entry entries_at is_dots components child find_path file_block file_at
minix_find_the_path_boot_boot_b_x_in_version_1_with_short_names = refl

-- the path /la/x in version 1 with short names
pub minix_find_the_path_la_x_in_version_1_with_short_names : find volume_v1_short.layout (parts_of volume_v1_short (disks_of minix_v1_short)) (codes "/la/x") ≡ Err (NotDirectory 2)
unfolding number16 number32 is_zero kind_of super_of super_checks super_in super_at v1_inode v2_inode inode_of inode_at inode_place bit with_bit parts_of number_in follow pointer_by inside follow_at zone_at block_at content_at entry_of entry_at find_entry entries_at is_dots components child find_path file_block file_at
minix_find_the_path_la_x_in_version_1_with_short_names = refl

-- the path /hole/.. in version 1 with short names
pub minix_find_the_path_hole_in_version_1_with_short_names_2 : find volume_v1_short.layout (parts_of volume_v1_short (disks_of minix_v1_short)) (codes "/hole/..") ≡ Err (NotDirectory 1)
unfolding number16 number32 is_zero kind_of super_of super_checks super_in super_at v1_inode v2_inode inode_of inode_at inode_place bit with_bit parts_of number_in follow pointer_by inside follow_at zone_at block_at content_at entry_of entry_at find_entry entries_at is_dots components child find_path file_block file_at
minix_find_the_path_hole_in_version_1_with_short_names_2 = refl

-- the path boot in version 1 with short names
pub minix_find_the_path_boot_in_version_1_with_short_names_2 : find volume_v1_short.layout (parts_of volume_v1_short (disks_of minix_v1_short)) (codes "boot") ≡ Err (NotFound 0)
unfolding number16 number32 is_zero kind_of super_of super_checks super_in super_at v1_inode v2_inode inode_of inode_at inode_place bit with_bit parts_of number_in follow pointer_by inside follow_at zone_at block_at content_at entry_of entry_at find_entry entries_at is_dots components child find_path file_block file_at
minix_find_the_path_boot_in_version_1_with_short_names_2 = refl

-- the path of no byte in version 1 with short names
pub minix_find_the_path_of_no_byte_in_version_1_with_short_names : find volume_v1_short.layout (parts_of volume_v1_short (disks_of minix_v1_short)) [] ≡ Err (NotFound 0)
unfolding number16 number32 is_zero kind_of super_of super_checks super_in super_at v1_inode v2_inode inode_of inode_at inode_place bit with_bit parts_of number_in follow pointer_by inside follow_at zone_at block_at content_at entry_of entry_at find_entry entries_at is_dots components child find_path file_block file_at
minix_find_the_path_of_no_byte_in_version_1_with_short_names = refl

-- the path /boot/old/../../far in version 1 with short names
pub minix_find_the_path_boot_old_far_in_version_1_with_short_names : find volume_v1_short.layout (parts_of volume_v1_short (disks_of minix_v1_short)) (codes "/boot/old/../../far") ≡ Ok 13
unfolding number16 number32 is_zero kind_of super_of super_checks super_in super_at v1_inode v2_inode inode_of inode_at inode_place bit with_bit parts_of number_in follow pointer_by inside follow_at zone_at block_at content_at entry_of entry_at find_entry entries_at is_dots components child find_path file_block file_at
minix_find_the_path_boot_old_far_in_version_1_with_short_names = refl

-- the path /boot/old/c2/x in version 1 with short names
pub minix_find_the_path_boot_old_c2_x_in_version_1_with_short_names : find volume_v1_short.layout (parts_of volume_v1_short (disks_of minix_v1_short)) (codes "/boot/old/c2/x") ≡ Err (NotDirectory 2)
unfolding number16 number32 is_zero kind_of super_of super_checks super_in super_at v1_inode v2_inode inode_of inode_at inode_place bit with_bit parts_of number_in follow pointer_by inside follow_at zone_at block_at content_at entry_of entry_at find_entry entries_at is_dots components child find_path file_block file_at
minix_find_the_path_boot_old_c2_x_in_version_1_with_short_names = refl

-- the path /lr/ in version 1 with short names
pub minix_find_the_path_lr_in_version_1_with_short_names_2 : find volume_v1_short.layout (parts_of volume_v1_short (disks_of minix_v1_short)) (codes "/lr/") ≡ Ok 2
unfolding number16 number32 is_zero kind_of super_of super_checks super_in super_at v1_inode v2_inode inode_of inode_at inode_place bit with_bit parts_of number_in follow pointer_by inside follow_at zone_at block_at content_at entry_of entry_at find_entry entries_at is_dots components child find_path file_block file_at
minix_find_the_path_lr_in_version_1_with_short_names_2 = refl

-- the path /lr/. in version 1 with short names
pub minix_find_the_path_lr_in_version_1_with_short_names_3 : find volume_v1_short.layout (parts_of volume_v1_short (disks_of minix_v1_short)) (codes "/lr/.") ≡ Ok 2
unfolding number16 number32 is_zero kind_of super_of super_checks super_in super_at v1_inode v2_inode inode_of inode_at inode_place bit with_bit parts_of number_in follow pointer_by inside follow_at zone_at block_at content_at entry_of entry_at find_entry entries_at is_dots components child find_path file_block file_at
minix_find_the_path_lr_in_version_1_with_short_names_3 = refl

-- a directory whose zone is outside in version 1 with short names
pub minix_find_a_directory_whose_zone_is_outside_in_version_1_with_short_names : find volume_v1_short.layout (parts_of volume_v1_short (disks_of (minix_v1_short ++ (patch_at 0 8 46 (hex 2 0x60ea) ∷ [])))) (codes "/boot/boot.b") ≡ Err (Zone (ZoneOutside 60000))
unfolding number16 number32 is_zero kind_of super_of super_checks super_in super_at v1_inode v2_inode inode_of inode_at inode_place bit with_bit parts_of number_in follow pointer_by inside follow_at zone_at block_at content_at entry_of entry_at find_entry entries_at is_dots components child find_path file_block file_at
minix_find_a_directory_whose_zone_is_outside_in_version_1_with_short_names = refl

-- a root whose zone is outside in version 1 with short names
pub minix_find_a_root_whose_zone_is_outside_in_version_1_with_short_names : find volume_v1_short.layout (parts_of volume_v1_short (disks_of (minix_v1_short ++ (patch_at 0 8 14 (hex 2 0x0100) ∷ [])))) (codes "/boot") ≡ Err (Zone (ZoneOutside 1))
unfolding number16 number32 is_zero kind_of super_of super_checks super_in super_at v1_inode v2_inode inode_of inode_at inode_place bit with_bit parts_of number_in follow pointer_by inside follow_at zone_at block_at content_at entry_of entry_at find_entry entries_at is_dots components child find_path file_block file_at
minix_find_a_root_whose_zone_is_outside_in_version_1_with_short_names = refl

-- a path of slashes on a root whose zone is outside in version 1 with short names
pub minix_find_a_path_of_slashes_on_a_root_whose_zone_is_outside_in_version_1_with_short_names : find volume_v1_short.layout (parts_of volume_v1_short (disks_of (minix_v1_short ++ (patch_at 0 8 14 (hex 2 0x0100) ∷ [])))) (codes "//") ≡ Ok 1
unfolding number16 number32 is_zero kind_of super_of super_checks super_in super_at v1_inode v2_inode inode_of inode_at inode_place bit with_bit parts_of number_in follow pointer_by inside follow_at zone_at block_at content_at entry_of entry_at find_entry entries_at is_dots components child find_path file_block file_at
minix_find_a_path_of_slashes_on_a_root_whose_zone_is_outside_in_version_1_with_short_names = refl

-- a link whose zone is outside in version 1 with short names
pub minix_find_a_link_whose_zone_is_outside_in_version_1_with_short_names : find volume_v1_short.layout (parts_of volume_v1_short (disks_of (minix_v1_short ++ (patch_at 0 8 238 (hex 2 0x60ea) ∷ [])))) (codes "/lr") ≡ Err (Zone (ZoneOutside 60000))
unfolding number16 number32 is_zero kind_of super_of super_checks super_in super_at v1_inode v2_inode inode_of inode_at inode_place bit with_bit parts_of number_in follow pointer_by inside follow_at zone_at block_at content_at entry_of entry_at find_entry entries_at is_dots components child find_path file_block file_at
minix_find_a_link_whose_zone_is_outside_in_version_1_with_short_names = refl

-- a long link whose zone is outside in version 1 with short names
pub minix_find_a_long_link_whose_zone_is_outside_in_version_1_with_short_names : find volume_v1_short.layout (parts_of volume_v1_short (disks_of (minix_v1_short ++ (patch_at 0 8 238 (hex 2 0x60ea) ∷ patch_at 0 8 228 (hex 4 0x01040000) ∷ [])))) (codes "/lr") ≡ Err PathTooLong
unfolding number16 number32 is_zero kind_of super_of super_checks super_in super_at v1_inode v2_inode inode_of inode_at inode_place bit with_bit parts_of number_in follow pointer_by inside follow_at zone_at block_at content_at entry_of entry_at find_entry entries_at is_dots components child find_path file_block file_at
minix_find_a_long_link_whose_zone_is_outside_in_version_1_with_short_names = refl

-- a link of 1024 bytes with one byte after it in version 1 with short names
pub minix_find_a_link_of_1024_bytes_with_one_byte_after_it_in_version_1_with_short_names : find volume_v1_short.layout (parts_of volume_v1_short (disks_of (minix_v1_short ++ (patch_at 0 8 228 (hex 4 0x00040000) ∷ [])))) (codes "/lr/") ≡ Err PathTooLong
unfolding number16 number32 is_zero kind_of super_of super_checks super_in super_at v1_inode v2_inode inode_of inode_at inode_place bit with_bit parts_of number_in follow pointer_by inside follow_at zone_at block_at content_at entry_of entry_at find_entry entries_at is_dots components child find_path file_block file_at
minix_find_a_link_of_1024_bytes_with_one_byte_after_it_in_version_1_with_short_names = refl

-- an empty link in version 1 with short names
pub minix_find_an_empty_link_in_version_1_with_short_names : find volume_v1_short.layout (parts_of volume_v1_short (disks_of (minix_v1_short ++ (patch_at 0 8 228 (hex 4 0x00000000) ∷ [])))) (codes "/lr/boot") ≡ Ok 2
unfolding number16 number32 is_zero kind_of super_of super_checks super_in super_at v1_inode v2_inode inode_of inode_at inode_place bit with_bit parts_of number_in follow pointer_by inside follow_at zone_at block_at content_at entry_of entry_at find_entry entries_at is_dots components child find_path file_block file_at
minix_find_an_empty_link_in_version_1_with_short_names = refl

-- a root that is no directory in version 1 with short names
pub minix_find_a_root_that_is_no_directory_in_version_1_with_short_names : find volume_v1_short.layout (parts_of volume_v1_short (disks_of (minix_v1_short ++ (patch_at 0 8 0 (hex 2 0xa481) ∷ [])))) (codes "/boot") ≡ Err (NotDirectory 0)
unfolding number16 number32 is_zero kind_of super_of super_checks super_in super_at v1_inode v2_inode inode_of inode_at inode_place bit with_bit parts_of number_in follow pointer_by inside follow_at zone_at block_at content_at entry_of entry_at find_entry entries_at is_dots components child find_path file_block file_at
minix_find_a_root_that_is_no_directory_in_version_1_with_short_names = refl

-- the root that is no directory in version 1 with short names
pub minix_find_the_root_that_is_no_directory_in_version_1_with_short_names : find volume_v1_short.layout (parts_of volume_v1_short (disks_of (minix_v1_short ++ (patch_at 0 8 0 (hex 2 0xa481) ∷ [])))) (codes "/") ≡ Ok 1
unfolding number16 number32 is_zero kind_of super_of super_checks super_in super_at v1_inode v2_inode inode_of inode_at inode_place bit with_bit parts_of number_in follow pointer_by inside follow_at zone_at block_at content_at entry_of entry_at find_entry entries_at is_dots components child find_path file_block file_at
minix_find_the_root_that_is_no_directory_in_version_1_with_short_names = refl

-- a directory cut before its third entry in version 1 with short names
pub minix_find_a_directory_cut_before_its_third_entry_in_version_1_with_short_names : find volume_v1_short.layout (parts_of volume_v1_short (disks_of (minix_v1_short ++ (patch_at 0 8 4 (hex 4 0x20000000) ∷ [])))) (codes "/boot") ≡ Err (NotFound 0)
unfolding number16 number32 is_zero kind_of super_of super_checks super_in super_at v1_inode v2_inode inode_of inode_at inode_place bit with_bit parts_of number_in follow pointer_by inside follow_at zone_at block_at content_at entry_of entry_at find_entry entries_at is_dots components child find_path file_block file_at
minix_find_a_directory_cut_before_its_third_entry_in_version_1_with_short_names = refl

-- a directory cut inside its third entry in version 1 with short names
pub minix_find_a_directory_cut_inside_its_third_entry_in_version_1_with_short_names : find volume_v1_short.layout (parts_of volume_v1_short (disks_of (minix_v1_short ++ (patch_at 0 8 4 (hex 4 0x2f000000) ∷ [])))) (codes "/boot") ≡ Err (NotFound 0)
unfolding number16 number32 is_zero kind_of super_of super_checks super_in super_at v1_inode v2_inode inode_of inode_at inode_place bit with_bit parts_of number_in follow pointer_by inside follow_at zone_at block_at content_at entry_of entry_at find_entry entries_at is_dots components child find_path file_block file_at
minix_find_a_directory_cut_inside_its_third_entry_in_version_1_with_short_names = refl

-- a directory cut after its third entry in version 1 with short names
pub minix_find_a_directory_cut_after_its_third_entry_in_version_1_with_short_names : find volume_v1_short.layout (parts_of volume_v1_short (disks_of (minix_v1_short ++ (patch_at 0 8 4 (hex 4 0x30000000) ∷ [])))) (codes "/boot") ≡ Ok 2
unfolding number16 number32 is_zero kind_of super_of super_checks super_in super_at v1_inode v2_inode inode_of inode_at inode_place bit with_bit parts_of number_in follow pointer_by inside follow_at zone_at block_at content_at entry_of entry_at find_entry entries_at is_dots components child find_path file_block file_at
minix_find_a_directory_cut_after_its_third_entry_in_version_1_with_short_names = refl

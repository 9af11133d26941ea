-- Cases of Minix volumes, written by tools/minix_cases.py: the bytes of a file.
use Rattle.std.proofs.Common.{◌≡◌, ◌++◌, Ok, Err, codes, replicate, refl}
use Rattle.lilo_model.specs.Bytes.{number16, number32, is_zero}
use Rattle.lilo_model.specs.MinixEntries.{entry_of, entry_at, find_entry, entries_at, is_dots}
use Rattle.lilo_model.specs.MinixFind.{components, child, find_path, file_block, file_at, NotFound, NotDirectory, NotFile}
use Rattle.lilo_model.specs.MinixLayout.{kind_of, super_of, super_checks, super_in, super_at, v1_inode, v2_inode, inode_of, inode_at, inode_place}
use Rattle.lilo_model.specs.MinixParts.{bit, with_bit, parts_of, number_in, follow, pointer_by, inside, follow_at, zone_at, block_at, content_at}
use Rattle.model_cases.specs.Sparse.{disks_of}
use Rattle.model_cases.specs.MinixFixtures.{minix_v1_short, volume_v1_short, minix_v1_long, volume_v1_long, minix_v2_short, volume_v2_short, minix_v2_long, volume_v2_long}

-- the file at /boot/up in version 1 with short names
pub minix_file_the_file_at_boot_up_in_version_1_with_short_names : file_at volume_v1_short.layout (parts_of volume_v1_short (disks_of minix_v1_short)) (codes "/boot/up") ≡ Ok (replicate 1024 0 ++ codes "TAIL")
unfolding number16 number32 is_zero kind_of super_of super_checks super_in super_at v1_inode v2_inode inode_of inode_at inode_place bit with_bit parts_of number_in follow pointer_by inside follow_at zone_at block_at content_at entry_of entry_at find_entry entries_at is_dots components child find_path file_block file_at
minix_file_the_file_at_boot_up_in_version_1_with_short_names = refl

-- the file at /boot in version 1 with short names
pub minix_file_the_file_at_boot_in_version_1_with_short_names : file_at volume_v1_short.layout (parts_of volume_v1_short (disks_of minix_v1_short)) (codes "/boot") ≡ Err NotFile
unfolding number16 number32 is_zero kind_of super_of super_checks super_in super_at v1_inode v2_inode inode_of inode_at inode_place bit with_bit parts_of number_in follow pointer_by inside follow_at zone_at block_at content_at entry_of entry_at find_entry entries_at is_dots components child find_path file_block file_at
minix_file_the_file_at_boot_in_version_1_with_short_names = refl

-- the file at /none in version 1 with short names
pub minix_file_the_file_at_none_in_version_1_with_short_names : file_at volume_v1_short.layout (parts_of volume_v1_short (disks_of minix_v1_short)) (codes "/none") ≡ Err (NotFound 0)
unfolding number16 number32 is_zero kind_of super_of super_checks super_in super_at v1_inode v2_inode inode_of inode_at inode_place bit with_bit parts_of number_in follow pointer_by inside follow_at zone_at block_at content_at entry_of entry_at find_entry entries_at is_dots components child find_path file_block file_at
minix_file_the_file_at_none_in_version_1_with_short_names = refl

-- the file at /hole/x in version 1 with short names
pub minix_file_the_file_at_hole_x_in_version_1_with_short_names : file_at volume_v1_short.layout (parts_of volume_v1_short (disks_of minix_v1_short)) (codes "/hole/x") ≡ Err (NotDirectory 1)
unfolding number16 number32 is_zero kind_of super_of super_checks super_in super_at v1_inode v2_inode inode_of inode_at inode_place bit with_bit parts_of number_in follow pointer_by inside follow_at zone_at block_at content_at entry_of entry_at find_entry entries_at is_dots components child find_path file_block file_at
minix_file_the_file_at_hole_x_in_version_1_with_short_names = refl

-- the file at /boot/up in version 1 with long names
pub minix_file_the_file_at_boot_up_in_version_1_with_long_names : file_at volume_v1_long.layout (parts_of volume_v1_long (disks_of minix_v1_long)) (codes "/boot/up") ≡ Ok (replicate 1024 0 ++ codes "TAIL")
unfolding number16 number32 is_zero kind_of super_of super_checks super_in super_at v1_inode v2_inode inode_of inode_at inode_place bit with_bit parts_of number_in follow pointer_by inside follow_at zone_at block_at content_at entry_of entry_at find_entry entries_at is_dots components child find_path file_block file_at
minix_file_the_file_at_boot_up_in_version_1_with_long_names = refl

-- the file at /boot in version 1 with long names
pub minix_file_the_file_at_boot_in_version_1_with_long_names : file_at volume_v1_long.layout (parts_of volume_v1_long (disks_of minix_v1_long)) (codes "/boot") ≡ Err NotFile
unfolding number16 number32 is_zero kind_of super_of super_checks super_in super_at v1_inode v2_inode inode_of inode_at inode_place bit with_bit parts_of number_in follow pointer_by inside follow_at zone_at block_at content_at entry_of entry_at find_entry entries_at is_dots components child find_path file_block file_at
minix_file_the_file_at_boot_in_version_1_with_long_names = refl

-- the file at /none in version 1 with long names
pub minix_file_the_file_at_none_in_version_1_with_long_names : file_at volume_v1_long.layout (parts_of volume_v1_long (disks_of minix_v1_long)) (codes "/none") ≡ Err (NotFound 0)
unfolding number16 number32 is_zero kind_of super_of super_checks super_in super_at v1_inode v2_inode inode_of inode_at inode_place bit with_bit parts_of number_in follow pointer_by inside follow_at zone_at block_at content_at entry_of entry_at find_entry entries_at is_dots components child find_path file_block file_at
minix_file_the_file_at_none_in_version_1_with_long_names = refl

-- the file at /hole/x in version 1 with long names
pub minix_file_the_file_at_hole_x_in_version_1_with_long_names : file_at volume_v1_long.layout (parts_of volume_v1_long (disks_of minix_v1_long)) (codes "/hole/x") ≡ Err (NotDirectory 1)
unfolding number16 number32 is_zero kind_of super_of super_checks super_in super_at v1_inode v2_inode inode_of inode_at inode_place bit with_bit parts_of number_in follow pointer_by inside follow_at zone_at block_at content_at entry_of entry_at find_entry entries_at is_dots components child find_path file_block file_at
minix_file_the_file_at_hole_x_in_version_1_with_long_names = refl

-- the file at /boot/up in version 2 with short names
pub minix_file_the_file_at_boot_up_in_version_2_with_short_names : file_at volume_v2_short.layout (parts_of volume_v2_short (disks_of minix_v2_short)) (codes "/boot/up") ≡ Ok (replicate 1024 0 ++ codes "TAIL")
unfolding number16 number32 is_zero kind_of super_of super_checks super_in super_at v1_inode v2_inode inode_of inode_at inode_place bit with_bit parts_of number_in follow pointer_by inside follow_at zone_at block_at content_at entry_of entry_at find_entry entries_at is_dots components child find_path file_block file_at
minix_file_the_file_at_boot_up_in_version_2_with_short_names = refl

-- the file at /boot in version 2 with short names
pub minix_file_the_file_at_boot_in_version_2_with_short_names : file_at volume_v2_short.layout (parts_of volume_v2_short (disks_of minix_v2_short)) (codes "/boot") ≡ Err NotFile
unfolding number16 number32 is_zero kind_of super_of super_checks super_in super_at v1_inode v2_inode inode_of inode_at inode_place bit with_bit parts_of number_in follow pointer_by inside follow_at zone_at block_at content_at entry_of entry_at find_entry entries_at is_dots components child find_path file_block file_at
minix_file_the_file_at_boot_in_version_2_with_short_names = refl

-- the file at /none in version 2 with short names
pub minix_file_the_file_at_none_in_version_2_with_short_names : file_at volume_v2_short.layout (parts_of volume_v2_short (disks_of minix_v2_short)) (codes "/none") ≡ Err (NotFound 0)
unfolding number16 number32 is_zero kind_of super_of super_checks super_in super_at v1_inode v2_inode inode_of inode_at inode_place bit with_bit parts_of number_in follow pointer_by inside follow_at zone_at block_at content_at entry_of entry_at find_entry entries_at is_dots components child find_path file_block file_at
minix_file_the_file_at_none_in_version_2_with_short_names = refl

-- the file at /hole/x in version 2 with short names
pub minix_file_the_file_at_hole_x_in_version_2_with_short_names : file_at volume_v2_short.layout (parts_of volume_v2_short (disks_of minix_v2_short)) (codes "/hole/x") ≡ Err (NotDirectory 1)
unfolding number16 number32 is_zero kind_of super_of super_checks super_in super_at v1_inode v2_inode inode_of inode_at inode_place bit with_bit parts_of number_in follow pointer_by inside follow_at zone_at block_at content_at entry_of entry_at find_entry entries_at is_dots components child find_path file_block file_at
minix_file_the_file_at_hole_x_in_version_2_with_short_names = refl

-- the file at /boot/up in version 2 with long names
pub minix_file_the_file_at_boot_up_in_version_2_with_long_names : file_at volume_v2_long.layout (parts_of volume_v2_long (disks_of minix_v2_long)) (codes "/boot/up") ≡ Ok (replicate 1024 0 ++ codes "TAIL")
unfolding number16 number32 is_zero kind_of super_of super_checks super_in super_at v1_inode v2_inode inode_of inode_at inode_place bit with_bit parts_of number_in follow pointer_by inside follow_at zone_at block_at content_at entry_of entry_at find_entry entries_at is_dots components child find_path file_block file_at
minix_file_the_file_at_boot_up_in_version_2_with_long_names = refl

-- the file at /boot in version 2 with long names
pub minix_file_the_file_at_boot_in_version_2_with_long_names : file_at volume_v2_long.layout (parts_of volume_v2_long (disks_of minix_v2_long)) (codes "/boot") ≡ Err NotFile
unfolding number16 number32 is_zero kind_of super_of super_checks super_in super_at v1_inode v2_inode inode_of inode_at inode_place bit with_bit parts_of number_in follow pointer_by inside follow_at zone_at block_at content_at entry_of entry_at find_entry entries_at is_dots components child find_path file_block file_at
minix_file_the_file_at_boot_in_version_2_with_long_names = refl

-- the file at /none in version 2 with long names
pub minix_file_the_file_at_none_in_version_2_with_long_names : file_at volume_v2_long.layout (parts_of volume_v2_long (disks_of minix_v2_long)) (codes "/none") ≡ Err (NotFound 0)
unfolding number16 number32 is_zero kind_of super_of super_checks super_in super_at v1_inode v2_inode inode_of inode_at inode_place bit with_bit parts_of number_in follow pointer_by inside follow_at zone_at block_at content_at entry_of entry_at find_entry entries_at is_dots components child find_path file_block file_at
minix_file_the_file_at_none_in_version_2_with_long_names = refl

-- the file at /hole/x in version 2 with long names
pub minix_file_the_file_at_hole_x_in_version_2_with_long_names : file_at volume_v2_long.layout (parts_of volume_v2_long (disks_of minix_v2_long)) (codes "/hole/x") ≡ Err (NotDirectory 1)
unfolding number16 number32 is_zero kind_of super_of super_checks super_in super_at v1_inode v2_inode inode_of inode_at inode_place bit with_bit parts_of number_in follow pointer_by inside follow_at zone_at block_at content_at entry_of entry_at find_entry entries_at is_dots components child find_path file_block file_at
minix_file_the_file_at_hole_x_in_version_2_with_long_names = refl

-- Cases of Minix volumes, written by tools/minix_cases.py: the bytes of a block.
use Rattle.std.proofs.Common.{◌≡◌, [], Ok, Err, codes, replicate, refl}
use Rattle.lilo_model.specs.Bytes.{number16, number32, is_zero}
use Rattle.lilo_model.specs.MinixEntries.{entry_of, entry_at, find_entry, entries_at, is_dots}
use Rattle.lilo_model.specs.MinixFind.{components, child, find_path, file_block, file_at, NotFile}
use Rattle.lilo_model.specs.MinixLayout.{kind_of, super_of, super_checks, super_in, super_at, v1_inode, v2_inode, inode_of, inode_at, inode_place}
use Rattle.lilo_model.specs.MinixParts.{bit, with_bit, parts_of, number_in, follow, pointer_by, inside, follow_at, zone_at, block_at, content_at}
use Rattle.model_cases.specs.Sparse.{disks_of}
use Rattle.model_cases.specs.MinixFixtures.{minix_v1_short, volume_v1_short, minix_v1_long, volume_v1_long, minix_v2_short, volume_v2_short, minix_v2_long, volume_v2_long}

-- the bytes of block 0 of /hole in version 1 with short names
pub minix_block_the_bytes_of_block_0_of_hole_in_version_1_with_short_names : file_block volume_v1_short.layout (parts_of volume_v1_short (disks_of minix_v1_short)) ((parts_of volume_v1_short (disks_of minix_v1_short)).node 6) 0 ≡ Ok (replicate 1024 0)
unfolding number16 number32 is_zero kind_of super_of super_checks super_in super_at v1_inode v2_inode inode_of inode_at inode_place bit with_bit parts_of number_in follow pointer_by inside follow_at zone_at block_at content_at entry_of entry_at find_entry entries_at is_dots components child find_path file_block file_at
minix_block_the_bytes_of_block_0_of_hole_in_version_1_with_short_names = refl

-- the bytes of block 1 of /hole in version 1 with short names
pub minix_block_the_bytes_of_block_1_of_hole_in_version_1_with_short_names : file_block volume_v1_short.layout (parts_of volume_v1_short (disks_of minix_v1_short)) ((parts_of volume_v1_short (disks_of minix_v1_short)).node 6) 1 ≡ Ok (codes "TAIL")
unfolding number16 number32 is_zero kind_of super_of super_checks super_in super_at v1_inode v2_inode inode_of inode_at inode_place bit with_bit parts_of number_in follow pointer_by inside follow_at zone_at block_at content_at entry_of entry_at find_entry entries_at is_dots components child find_path file_block file_at
minix_block_the_bytes_of_block_1_of_hole_in_version_1_with_short_names = refl

-- the bytes of block 2 of /hole in version 1 with short names
pub minix_block_the_bytes_of_block_2_of_hole_in_version_1_with_short_names : file_block volume_v1_short.layout (parts_of volume_v1_short (disks_of minix_v1_short)) ((parts_of volume_v1_short (disks_of minix_v1_short)).node 6) 2 ≡ Ok []
unfolding number16 number32 is_zero kind_of super_of super_checks super_in super_at v1_inode v2_inode inode_of inode_at inode_place bit with_bit parts_of number_in follow pointer_by inside follow_at zone_at block_at content_at entry_of entry_at find_entry entries_at is_dots components child find_path file_block file_at
minix_block_the_bytes_of_block_2_of_hole_in_version_1_with_short_names = refl

-- the bytes of block 0 of a directory in version 1 with short names
pub minix_block_the_bytes_of_block_0_of_a_directory_in_version_1_with_short_names : file_block volume_v1_short.layout (parts_of volume_v1_short (disks_of minix_v1_short)) ((parts_of volume_v1_short (disks_of minix_v1_short)).node 2) 0 ≡ Err NotFile
unfolding number16 number32 is_zero kind_of super_of super_checks super_in super_at v1_inode v2_inode inode_of inode_at inode_place bit with_bit parts_of number_in follow pointer_by inside follow_at zone_at block_at content_at entry_of entry_at find_entry entries_at is_dots components child find_path file_block file_at
minix_block_the_bytes_of_block_0_of_a_directory_in_version_1_with_short_names = refl

-- the bytes of block 0 of /hole in version 1 with long names
pub minix_block_the_bytes_of_block_0_of_hole_in_version_1_with_long_names : file_block volume_v1_long.layout (parts_of volume_v1_long (disks_of minix_v1_long)) ((parts_of volume_v1_long (disks_of minix_v1_long)).node 6) 0 ≡ Ok (replicate 1024 0)
unfolding number16 number32 is_zero kind_of super_of super_checks super_in super_at v1_inode v2_inode inode_of inode_at inode_place bit with_bit parts_of number_in follow pointer_by inside follow_at zone_at block_at content_at entry_of entry_at find_entry entries_at is_dots components child find_path file_block file_at
minix_block_the_bytes_of_block_0_of_hole_in_version_1_with_long_names = refl

-- the bytes of block 1 of /hole in version 1 with long names
pub minix_block_the_bytes_of_block_1_of_hole_in_version_1_with_long_names : file_block volume_v1_long.layout (parts_of volume_v1_long (disks_of minix_v1_long)) ((parts_of volume_v1_long (disks_of minix_v1_long)).node 6) 1 ≡ Ok (codes "TAIL")
unfolding number16 number32 is_zero kind_of super_of super_checks super_in super_at v1_inode v2_inode inode_of inode_at inode_place bit with_bit parts_of number_in follow pointer_by inside follow_at zone_at block_at content_at entry_of entry_at find_entry entries_at is_dots components child find_path file_block file_at
minix_block_the_bytes_of_block_1_of_hole_in_version_1_with_long_names = refl

-- the bytes of block 2 of /hole in version 1 with long names
pub minix_block_the_bytes_of_block_2_of_hole_in_version_1_with_long_names : file_block volume_v1_long.layout (parts_of volume_v1_long (disks_of minix_v1_long)) ((parts_of volume_v1_long (disks_of minix_v1_long)).node 6) 2 ≡ Ok []
unfolding number16 number32 is_zero kind_of super_of super_checks super_in super_at v1_inode v2_inode inode_of inode_at inode_place bit with_bit parts_of number_in follow pointer_by inside follow_at zone_at block_at content_at entry_of entry_at find_entry entries_at is_dots components child find_path file_block file_at
minix_block_the_bytes_of_block_2_of_hole_in_version_1_with_long_names = refl

-- the bytes of block 0 of a directory in version 1 with long names
pub minix_block_the_bytes_of_block_0_of_a_directory_in_version_1_with_long_names : file_block volume_v1_long.layout (parts_of volume_v1_long (disks_of minix_v1_long)) ((parts_of volume_v1_long (disks_of minix_v1_long)).node 2) 0 ≡ Err NotFile
unfolding number16 number32 is_zero kind_of super_of super_checks super_in super_at v1_inode v2_inode inode_of inode_at inode_place bit with_bit parts_of number_in follow pointer_by inside follow_at zone_at block_at content_at entry_of entry_at find_entry entries_at is_dots components child find_path file_block file_at
minix_block_the_bytes_of_block_0_of_a_directory_in_version_1_with_long_names = refl

-- the bytes of block 0 of /hole in version 2 with short names
pub minix_block_the_bytes_of_block_0_of_hole_in_version_2_with_short_names : file_block volume_v2_short.layout (parts_of volume_v2_short (disks_of minix_v2_short)) ((parts_of volume_v2_short (disks_of minix_v2_short)).node 6) 0 ≡ Ok (replicate 1024 0)
unfolding number16 number32 is_zero kind_of super_of super_checks super_in super_at v1_inode v2_inode inode_of inode_at inode_place bit with_bit parts_of number_in follow pointer_by inside follow_at zone_at block_at content_at entry_of entry_at find_entry entries_at is_dots components child find_path file_block file_at
minix_block_the_bytes_of_block_0_of_hole_in_version_2_with_short_names = refl

-- the bytes of block 1 of /hole in version 2 with short names
pub minix_block_the_bytes_of_block_1_of_hole_in_version_2_with_short_names : file_block volume_v2_short.layout (parts_of volume_v2_short (disks_of minix_v2_short)) ((parts_of volume_v2_short (disks_of minix_v2_short)).node 6) 1 ≡ Ok (codes "TAIL")
unfolding number16 number32 is_zero kind_of super_of super_checks super_in super_at v1_inode v2_inode inode_of inode_at inode_place bit with_bit parts_of number_in follow pointer_by inside follow_at zone_at block_at content_at entry_of entry_at find_entry entries_at is_dots components child find_path file_block file_at
minix_block_the_bytes_of_block_1_of_hole_in_version_2_with_short_names = refl

-- the bytes of block 2 of /hole in version 2 with short names
pub minix_block_the_bytes_of_block_2_of_hole_in_version_2_with_short_names : file_block volume_v2_short.layout (parts_of volume_v2_short (disks_of minix_v2_short)) ((parts_of volume_v2_short (disks_of minix_v2_short)).node 6) 2 ≡ Ok []
unfolding number16 number32 is_zero kind_of super_of super_checks super_in super_at v1_inode v2_inode inode_of inode_at inode_place bit with_bit parts_of number_in follow pointer_by inside follow_at zone_at block_at content_at entry_of entry_at find_entry entries_at is_dots components child find_path file_block file_at
minix_block_the_bytes_of_block_2_of_hole_in_version_2_with_short_names = refl

-- the bytes of block 0 of a directory in version 2 with short names
pub minix_block_the_bytes_of_block_0_of_a_directory_in_version_2_with_short_names : file_block volume_v2_short.layout (parts_of volume_v2_short (disks_of minix_v2_short)) ((parts_of volume_v2_short (disks_of minix_v2_short)).node 2) 0 ≡ Err NotFile
unfolding number16 number32 is_zero kind_of super_of super_checks super_in super_at v1_inode v2_inode inode_of inode_at inode_place bit with_bit parts_of number_in follow pointer_by inside follow_at zone_at block_at content_at entry_of entry_at find_entry entries_at is_dots components child find_path file_block file_at
minix_block_the_bytes_of_block_0_of_a_directory_in_version_2_with_short_names = refl

-- the bytes of block 0 of /hole in version 2 with long names
pub minix_block_the_bytes_of_block_0_of_hole_in_version_2_with_long_names : file_block volume_v2_long.layout (parts_of volume_v2_long (disks_of minix_v2_long)) ((parts_of volume_v2_long (disks_of minix_v2_long)).node 6) 0 ≡ Ok (replicate 1024 0)
unfolding number16 number32 is_zero kind_of super_of super_checks super_in super_at v1_inode v2_inode inode_of inode_at inode_place bit with_bit parts_of number_in follow pointer_by inside follow_at zone_at block_at content_at entry_of entry_at find_entry entries_at is_dots components child find_path file_block file_at
minix_block_the_bytes_of_block_0_of_hole_in_version_2_with_long_names = refl

-- the bytes of block 1 of /hole in version 2 with long names
pub minix_block_the_bytes_of_block_1_of_hole_in_version_2_with_long_names : file_block volume_v2_long.layout (parts_of volume_v2_long (disks_of minix_v2_long)) ((parts_of volume_v2_long (disks_of minix_v2_long)).node 6) 1 ≡ Ok (codes "TAIL")
unfolding number16 number32 is_zero kind_of super_of super_checks super_in super_at v1_inode v2_inode inode_of inode_at inode_place bit with_bit parts_of number_in follow pointer_by inside follow_at zone_at block_at content_at entry_of entry_at find_entry entries_at is_dots components child find_path file_block file_at
minix_block_the_bytes_of_block_1_of_hole_in_version_2_with_long_names = refl

-- the bytes of block 2 of /hole in version 2 with long names
pub minix_block_the_bytes_of_block_2_of_hole_in_version_2_with_long_names : file_block volume_v2_long.layout (parts_of volume_v2_long (disks_of minix_v2_long)) ((parts_of volume_v2_long (disks_of minix_v2_long)).node 6) 2 ≡ Ok []
unfolding number16 number32 is_zero kind_of super_of super_checks super_in super_at v1_inode v2_inode inode_of inode_at inode_place bit with_bit parts_of number_in follow pointer_by inside follow_at zone_at block_at content_at entry_of entry_at find_entry entries_at is_dots components child find_path file_block file_at
minix_block_the_bytes_of_block_2_of_hole_in_version_2_with_long_names = refl

-- the bytes of block 0 of a directory in version 2 with long names
pub minix_block_the_bytes_of_block_0_of_a_directory_in_version_2_with_long_names : file_block volume_v2_long.layout (parts_of volume_v2_long (disks_of minix_v2_long)) ((parts_of volume_v2_long (disks_of minix_v2_long)).node 2) 0 ≡ Err NotFile
unfolding number16 number32 is_zero kind_of super_of super_checks super_in super_at v1_inode v2_inode inode_of inode_at inode_place bit with_bit parts_of number_in follow pointer_by inside follow_at zone_at block_at content_at entry_of entry_at find_entry entries_at is_dots components child find_path file_block file_at
minix_block_the_bytes_of_block_0_of_a_directory_in_version_2_with_long_names = refl

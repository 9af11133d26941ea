-- Cases of Minix volumes, written by tools/minix_cases.py: the inode that a path leads to.
use Rattle.std.proofs.Common.{◌≡◌, ◌++◌, Ok, Err, codes, replicate, refl}
use Rattle.lilo_model.specs.Bytes.{number16, number32, is_zero}
use Rattle.lilo_model.specs.MinixEntries.{entry_of, entry_at, find_entry, entries_at, is_dots}
use Rattle.lilo_model.specs.MinixFind.{components, child, find_path, file_block, file_at, find, TooManyLinks, PathTooLong}
use Rattle.lilo_model.specs.MinixLayout.{kind_of, super_of, super_checks, super_in, super_at, v1_inode, v2_inode, inode_of, inode_at, inode_place}
use Rattle.lilo_model.specs.MinixParts.{bit, with_bit, parts_of, number_in, follow, pointer_by, inside, follow_at, zone_at, block_at, content_at}
use Rattle.model_cases.specs.Sparse.{disks_of}
use Rattle.model_cases.specs.MinixFixtures.{minix_chain_v2_short, volume_chain_v2_short}

-- /f with links in a row, version 2 with short names
pub minix_find_f_with_links_in_a_row_version_2_with_short_names : find volume_chain_v2_short.layout (parts_of volume_chain_v2_short (disks_of minix_chain_v2_short)) (codes "/f") ≡ Ok 2
unfolding number16 number32 is_zero kind_of super_of super_checks super_in super_at v1_inode v2_inode inode_of inode_at inode_place bit with_bit parts_of number_in follow pointer_by inside follow_at zone_at block_at content_at entry_of entry_at find_entry entries_at is_dots components child find_path file_block file_at
minix_find_f_with_links_in_a_row_version_2_with_short_names = refl

-- /a8 with links in a row, version 2 with short names
pub minix_find_a8_with_links_in_a_row_version_2_with_short_names : find volume_chain_v2_short.layout (parts_of volume_chain_v2_short (disks_of minix_chain_v2_short)) (codes "/a8") ≡ Ok 2
unfolding number16 number32 is_zero kind_of super_of super_checks super_in super_at v1_inode v2_inode inode_of inode_at inode_place bit with_bit parts_of number_in follow pointer_by inside follow_at zone_at block_at content_at entry_of entry_at find_entry entries_at is_dots components child find_path file_block file_at
minix_find_a8_with_links_in_a_row_version_2_with_short_names = refl

-- /x/y with links in a row, version 2 with short names
pub minix_find_x_y_with_links_in_a_row_version_2_with_short_names : find volume_chain_v2_short.layout (parts_of volume_chain_v2_short (disks_of minix_chain_v2_short)) (codes "/x/y") ≡ Err TooManyLinks
unfolding number16 number32 is_zero kind_of super_of super_checks super_in super_at v1_inode v2_inode inode_of inode_at inode_place bit with_bit parts_of number_in follow pointer_by inside follow_at zone_at block_at content_at entry_of entry_at find_entry entries_at is_dots components child find_path file_block file_at
minix_find_x_y_with_links_in_a_row_version_2_with_short_names = refl

-- a path of 1024 bytes with links in a row, version 2 with short names
pub minix_find_a_path_of_1024_bytes_with_links_in_a_row_version_2_with_short_names : find volume_chain_v2_short.layout (parts_of volume_chain_v2_short (disks_of minix_chain_v2_short)) (replicate 1024 47) ≡ Ok 1
unfolding number16 number32 is_zero kind_of super_of super_checks super_in super_at v1_inode v2_inode inode_of inode_at inode_place bit with_bit parts_of number_in follow pointer_by inside follow_at zone_at block_at content_at entry_of entry_at find_entry entries_at is_dots components child find_path file_block file_at
minix_find_a_path_of_1024_bytes_with_links_in_a_row_version_2_with_short_names = refl

-- a path of 1025 bytes with links in a row, version 2 with short names
pub minix_find_a_path_of_1025_bytes_with_links_in_a_row_version_2_with_short_names : find volume_chain_v2_short.layout (parts_of volume_chain_v2_short (disks_of minix_chain_v2_short)) (replicate 1025 47) ≡ Err PathTooLong
unfolding number16 number32 is_zero kind_of super_of super_checks super_in super_at v1_inode v2_inode inode_of inode_at inode_place bit with_bit parts_of number_in follow pointer_by inside follow_at zone_at block_at content_at entry_of entry_at find_entry entries_at is_dots components child find_path file_block file_at
minix_find_a_path_of_1025_bytes_with_links_in_a_row_version_2_with_short_names = refl

-- a path of 1024 bytes with links in a row, version 2 with short names
pub minix_find_a_path_of_1024_bytes_with_links_in_a_row_version_2_with_short_names_2 : find volume_chain_v2_short.layout (parts_of volume_chain_v2_short (disks_of minix_chain_v2_short)) (codes "/a0" ++ replicate 1021 47) ≡ Err TooManyLinks
unfolding number16 number32 is_zero kind_of super_of super_checks super_in super_at v1_inode v2_inode inode_of inode_at inode_place bit with_bit parts_of number_in follow pointer_by inside follow_at zone_at block_at content_at entry_of entry_at find_entry entries_at is_dots components child find_path file_block file_at
minix_find_a_path_of_1024_bytes_with_links_in_a_row_version_2_with_short_names_2 = refl

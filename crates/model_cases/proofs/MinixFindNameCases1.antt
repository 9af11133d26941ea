-- Cases of Minix volumes, written by tools/minix_cases.py: the same, where a last link stays.
use Rattle.std.proofs.Common.{◌≡◌, Ok, Err, codes, refl}
use Rattle.lilo_model.specs.Bytes.{number16, number32, is_zero}
use Rattle.lilo_model.specs.MinixEntries.{entry_of, entry_at, find_entry, entries_at, is_dots}
use Rattle.lilo_model.specs.MinixFind.{components, child, find_path, file_block, file_at, find_name, TooManyLinks}
use Rattle.lilo_model.specs.MinixLayout.{kind_of, super_of, super_checks, super_in, super_at, v1_inode, v2_inode, inode_of, inode_at, inode_place}
use Rattle.lilo_model.specs.MinixParts.{bit, with_bit, parts_of, number_in, follow, pointer_by, inside, follow_at, zone_at, block_at, content_at}
use Rattle.model_cases.specs.Sparse.{disks_of}
use Rattle.model_cases.specs.MinixFixtures.{minix_v1_short, volume_v1_short, minix_v1_long, volume_v1_long, minix_v2_short, volume_v2_short, minix_v2_long, volume_v2_long, minix_chain_v1_long, volume_chain_v1_long, minix_chain_v2_short, volume_chain_v2_short}

-- the path /la with its last link in version 1 with short names
pub minix_find_name_the_path_la_with_its_last_link_in_version_1_with_short_names : find_name volume_v1_short.layout (parts_of volume_v1_short (disks_of minix_v1_short)) (codes "/la") ≡ Ok 7
unfolding number16 number32 is_zero kind_of super_of super_checks super_in super_at v1_inode v2_inode inode_of inode_at inode_place bit with_bit parts_of number_in follow pointer_by inside follow_at zone_at block_at content_at entry_of entry_at find_entry entries_at is_dots components child find_path file_block file_at
minix_find_name_the_path_la_with_its_last_link_in_version_1_with_short_names = refl

-- the path /lr with its last link in version 1 with short names
pub minix_find_name_the_path_lr_with_its_last_link_in_version_1_with_short_names : find_name volume_v1_short.layout (parts_of volume_v1_short (disks_of minix_v1_short)) (codes "/lr") ≡ Ok 8
unfolding number16 number32 is_zero kind_of super_of super_checks super_in super_at v1_inode v2_inode inode_of inode_at inode_place bit with_bit parts_of number_in follow pointer_by inside follow_at zone_at block_at content_at entry_of entry_at find_entry entries_at is_dots components child find_path file_block file_at
minix_find_name_the_path_lr_with_its_last_link_in_version_1_with_short_names = refl

-- the path /lr/ with its last link in version 1 with short names
pub minix_find_name_the_path_lr_with_its_last_link_in_version_1_with_short_names_2 : find_name volume_v1_short.layout (parts_of volume_v1_short (disks_of minix_v1_short)) (codes "/lr/") ≡ Ok 8
unfolding number16 number32 is_zero kind_of super_of super_checks super_in super_at v1_inode v2_inode inode_of inode_at inode_place bit with_bit parts_of number_in follow pointer_by inside follow_at zone_at block_at content_at entry_of entry_at find_entry entries_at is_dots components child find_path file_block file_at
minix_find_name_the_path_lr_with_its_last_link_in_version_1_with_short_names_2 = refl

-- the path /lr/. with its last link in version 1 with short names
pub minix_find_name_the_path_lr_with_its_last_link_in_version_1_with_short_names_3 : find_name volume_v1_short.layout (parts_of volume_v1_short (disks_of minix_v1_short)) (codes "/lr/.") ≡ Ok 2
unfolding number16 number32 is_zero kind_of super_of super_checks super_in super_at v1_inode v2_inode inode_of inode_at inode_place bit with_bit parts_of number_in follow pointer_by inside follow_at zone_at block_at content_at entry_of entry_at find_entry entries_at is_dots components child find_path file_block file_at
minix_find_name_the_path_lr_with_its_last_link_in_version_1_with_short_names_3 = refl

-- the path /lr/up with its last link in version 1 with short names
pub minix_find_name_the_path_lr_up_with_its_last_link_in_version_1_with_short_names : find_name volume_v1_short.layout (parts_of volume_v1_short (disks_of minix_v1_short)) (codes "/lr/up") ≡ Ok 9
unfolding number16 number32 is_zero kind_of super_of super_checks super_in super_at v1_inode v2_inode inode_of inode_at inode_place bit with_bit parts_of number_in follow pointer_by inside follow_at zone_at block_at content_at entry_of entry_at find_entry entries_at is_dots components child find_path file_block file_at
minix_find_name_the_path_lr_up_with_its_last_link_in_version_1_with_short_names = refl

-- the path /boot/old/self with its last link in version 1 with short names
pub minix_find_name_the_path_boot_old_self_with_its_last_link_in_version_1_with_short_names : find_name volume_v1_short.layout (parts_of volume_v1_short (disks_of minix_v1_short)) (codes "/boot/old/self") ≡ Ok 10
unfolding number16 number32 is_zero kind_of super_of super_checks super_in super_at v1_inode v2_inode inode_of inode_at inode_place bit with_bit parts_of number_in follow pointer_by inside follow_at zone_at block_at content_at entry_of entry_at find_entry entries_at is_dots components child find_path file_block file_at
minix_find_name_the_path_boot_old_self_with_its_last_link_in_version_1_with_short_names = refl

-- the path /boot/old/c2 with its last link in version 1 with short names
pub minix_find_name_the_path_boot_old_c2_with_its_last_link_in_version_1_with_short_names : find_name volume_v1_short.layout (parts_of volume_v1_short (disks_of minix_v1_short)) (codes "/boot/old/c2") ≡ Ok 12
unfolding number16 number32 is_zero kind_of super_of super_checks super_in super_at v1_inode v2_inode inode_of inode_at inode_place bit with_bit parts_of number_in follow pointer_by inside follow_at zone_at block_at content_at entry_of entry_at find_entry entries_at is_dots components child find_path file_block file_at
minix_find_name_the_path_boot_old_c2_with_its_last_link_in_version_1_with_short_names = refl

-- the path /boot with its last link in version 1 with short names
pub minix_find_name_the_path_boot_with_its_last_link_in_version_1_with_short_names : find_name volume_v1_short.layout (parts_of volume_v1_short (disks_of minix_v1_short)) (codes "/boot") ≡ Ok 2
unfolding number16 number32 is_zero kind_of super_of super_checks super_in super_at v1_inode v2_inode inode_of inode_at inode_place bit with_bit parts_of number_in follow pointer_by inside follow_at zone_at block_at content_at entry_of entry_at find_entry entries_at is_dots components child find_path file_block file_at
minix_find_name_the_path_boot_with_its_last_link_in_version_1_with_short_names = refl

-- the path /la with its last link in version 1 with long names
pub minix_find_name_the_path_la_with_its_last_link_in_version_1_with_long_names : find_name volume_v1_long.layout (parts_of volume_v1_long (disks_of minix_v1_long)) (codes "/la") ≡ Ok 7
unfolding number16 number32 is_zero kind_of super_of super_checks super_in super_at v1_inode v2_inode inode_of inode_at inode_place bit with_bit parts_of number_in follow pointer_by inside follow_at zone_at block_at content_at entry_of entry_at find_entry entries_at is_dots components child find_path file_block file_at
minix_find_name_the_path_la_with_its_last_link_in_version_1_with_long_names = refl

-- the path /lr with its last link in version 1 with long names
pub minix_find_name_the_path_lr_with_its_last_link_in_version_1_with_long_names : find_name volume_v1_long.layout (parts_of volume_v1_long (disks_of minix_v1_long)) (codes "/lr") ≡ Ok 8
unfolding number16 number32 is_zero kind_of super_of super_checks super_in super_at v1_inode v2_inode inode_of inode_at inode_place bit with_bit parts_of number_in follow pointer_by inside follow_at zone_at block_at content_at entry_of entry_at find_entry entries_at is_dots components child find_path file_block file_at
minix_find_name_the_path_lr_with_its_last_link_in_version_1_with_long_names = refl

-- the path /lr/ with its last link in version 1 with long names
pub minix_find_name_the_path_lr_with_its_last_link_in_version_1_with_long_names_2 : find_name volume_v1_long.layout (parts_of volume_v1_long (disks_of minix_v1_long)) (codes "/lr/") ≡ Ok 8
unfolding number16 number32 is_zero kind_of super_of super_checks super_in super_at v1_inode v2_inode inode_of inode_at inode_place bit with_bit parts_of number_in follow pointer_by inside follow_at zone_at block_at content_at entry_of entry_at find_entry entries_at is_dots components child find_path file_block file_at
minix_find_name_the_path_lr_with_its_last_link_in_version_1_with_long_names_2 = refl

-- the path /lr/. with its last link in version 1 with long names
pub minix_find_name_the_path_lr_with_its_last_link_in_version_1_with_long_names_3 : find_name volume_v1_long.layout (parts_of volume_v1_long (disks_of minix_v1_long)) (codes "/lr/.") ≡ Ok 2
unfolding number16 number32 is_zero kind_of super_of super_checks super_in super_at v1_inode v2_inode inode_of inode_at inode_place bit with_bit parts_of number_in follow pointer_by inside follow_at zone_at block_at content_at entry_of entry_at find_entry entries_at is_dots components child find_path file_block file_at
minix_find_name_the_path_lr_with_its_last_link_in_version_1_with_long_names_3 = refl

-- the path /lr/up with its last link in version 1 with long names
pub minix_find_name_the_path_lr_up_with_its_last_link_in_version_1_with_long_names : find_name volume_v1_long.layout (parts_of volume_v1_long (disks_of minix_v1_long)) (codes "/lr/up") ≡ Ok 9
unfolding number16 number32 is_zero kind_of super_of super_checks super_in super_at v1_inode v2_inode inode_of inode_at inode_place bit with_bit parts_of number_in follow pointer_by inside follow_at zone_at block_at content_at entry_of entry_at find_entry entries_at is_dots components child find_path file_block file_at
minix_find_name_the_path_lr_up_with_its_last_link_in_version_1_with_long_names = refl

-- the path /boot/old/self with its last link in version 1 with long names
pub minix_find_name_the_path_boot_old_self_with_its_last_link_in_version_1_with_long_names : find_name volume_v1_long.layout (parts_of volume_v1_long (disks_of minix_v1_long)) (codes "/boot/old/self") ≡ Ok 10
unfolding number16 number32 is_zero kind_of super_of super_checks super_in super_at v1_inode v2_inode inode_of inode_at inode_place bit with_bit parts_of number_in follow pointer_by inside follow_at zone_at block_at content_at entry_of entry_at find_entry entries_at is_dots components child find_path file_block file_at
minix_find_name_the_path_boot_old_self_with_its_last_link_in_version_1_with_long_names = refl

-- the path /boot/old/c2 with its last link in version 1 with long names
pub minix_find_name_the_path_boot_old_c2_with_its_last_link_in_version_1_with_long_names : find_name volume_v1_long.layout (parts_of volume_v1_long (disks_of minix_v1_long)) (codes "/boot/old/c2") ≡ Ok 12
unfolding number16 number32 is_zero kind_of super_of super_checks super_in super_at v1_inode v2_inode inode_of inode_at inode_place bit with_bit parts_of number_in follow pointer_by inside follow_at zone_at block_at content_at entry_of entry_at find_entry entries_at is_dots components child find_path file_block file_at
minix_find_name_the_path_boot_old_c2_with_its_last_link_in_version_1_with_long_names = refl

-- the path /boot with its last link in version 1 with long names
pub minix_find_name_the_path_boot_with_its_last_link_in_version_1_with_long_names : find_name volume_v1_long.layout (parts_of volume_v1_long (disks_of minix_v1_long)) (codes "/boot") ≡ Ok 2
unfolding number16 number32 is_zero kind_of super_of super_checks super_in super_at v1_inode v2_inode inode_of inode_at inode_place bit with_bit parts_of number_in follow pointer_by inside follow_at zone_at block_at content_at entry_of entry_at find_entry entries_at is_dots components child find_path file_block file_at
minix_find_name_the_path_boot_with_its_last_link_in_version_1_with_long_names = refl

-- the path /la with its last link in version 2 with short names
pub minix_find_name_the_path_la_with_its_last_link_in_version_2_with_short_names : find_name volume_v2_short.layout (parts_of volume_v2_short (disks_of minix_v2_short)) (codes "/la") ≡ Ok 7
unfolding number16 number32 is_zero kind_of super_of super_checks super_in super_at v1_inode v2_inode inode_of inode_at inode_place bit with_bit parts_of number_in follow pointer_by inside follow_at zone_at block_at content_at entry_of entry_at find_entry entries_at is_dots components child find_path file_block file_at
minix_find_name_the_path_la_with_its_last_link_in_version_2_with_short_names = refl

-- the path /lr with its last link in version 2 with short names
pub minix_find_name_the_path_lr_with_its_last_link_in_version_2_with_short_names : find_name volume_v2_short.layout (parts_of volume_v2_short (disks_of minix_v2_short)) (codes "/lr") ≡ Ok 8
unfolding number16 number32 is_zero kind_of super_of super_checks super_in super_at v1_inode v2_inode inode_of inode_at inode_place bit with_bit parts_of number_in follow pointer_by inside follow_at zone_at block_at content_at entry_of entry_at find_entry entries_at is_dots components child find_path file_block file_at
minix_find_name_the_path_lr_with_its_last_link_in_version_2_with_short_names = refl

-- the path /lr/ with its last link in version 2 with short names
pub minix_find_name_the_path_lr_with_its_last_link_in_version_2_with_short_names_2 : find_name volume_v2_short.layout (parts_of volume_v2_short (disks_of minix_v2_short)) (codes "/lr/") ≡ Ok 8
unfolding number16 number32 is_zero kind_of super_of super_checks super_in super_at v1_inode v2_inode inode_of inode_at inode_place bit with_bit parts_of number_in follow pointer_by inside follow_at zone_at block_at content_at entry_of entry_at find_entry entries_at is_dots components child find_path file_block file_at
minix_find_name_the_path_lr_with_its_last_link_in_version_2_with_short_names_2 = refl

-- the path /lr/. with its last link in version 2 with short names
pub minix_find_name_the_path_lr_with_its_last_link_in_version_2_with_short_names_3 : find_name volume_v2_short.layout (parts_of volume_v2_short (disks_of minix_v2_short)) (codes "/lr/.") ≡ Ok 2
unfolding number16 number32 is_zero kind_of super_of super_checks super_in super_at v1_inode v2_inode inode_of inode_at inode_place bit with_bit parts_of number_in follow pointer_by inside follow_at zone_at block_at content_at entry_of entry_at find_entry entries_at is_dots components child find_path file_block file_at
minix_find_name_the_path_lr_with_its_last_link_in_version_2_with_short_names_3 = refl

-- the path /lr/up with its last link in version 2 with short names
pub minix_find_name_the_path_lr_up_with_its_last_link_in_version_2_with_short_names : find_name volume_v2_short.layout (parts_of volume_v2_short (disks_of minix_v2_short)) (codes "/lr/up") ≡ Ok 9
unfolding number16 number32 is_zero kind_of super_of super_checks super_in super_at v1_inode v2_inode inode_of inode_at inode_place bit with_bit parts_of number_in follow pointer_by inside follow_at zone_at block_at content_at entry_of entry_at find_entry entries_at is_dots components child find_path file_block file_at
minix_find_name_the_path_lr_up_with_its_last_link_in_version_2_with_short_names = refl

-- the path /boot/old/self with its last link in version 2 with short names
pub minix_find_name_the_path_boot_old_self_with_its_last_link_in_version_2_with_short_names : find_name volume_v2_short.layout (parts_of volume_v2_short (disks_of minix_v2_short)) (codes "/boot/old/self") ≡ Ok 10
unfolding number16 number32 is_zero kind_of super_of super_checks super_in super_at v1_inode v2_inode inode_of inode_at inode_place bit with_bit parts_of number_in follow pointer_by inside follow_at zone_at block_at content_at entry_of entry_at find_entry entries_at is_dots components child find_path file_block file_at
minix_find_name_the_path_boot_old_self_with_its_last_link_in_version_2_with_short_names = refl

-- the path /boot/old/c2 with its last link in version 2 with short names
pub minix_find_name_the_path_boot_old_c2_with_its_last_link_in_version_2_with_short_names : find_name volume_v2_short.layout (parts_of volume_v2_short (disks_of minix_v2_short)) (codes "/boot/old/c2") ≡ Ok 12
unfolding number16 number32 is_zero kind_of super_of super_checks super_in super_at v1_inode v2_inode inode_of inode_at inode_place bit with_bit parts_of number_in follow pointer_by inside follow_at zone_at block_at content_at entry_of entry_at find_entry entries_at is_dots components child find_path file_block file_at
minix_find_name_the_path_boot_old_c2_with_its_last_link_in_version_2_with_short_names = refl

-- the path /boot with its last link in version 2 with short names
pub minix_find_name_the_path_boot_with_its_last_link_in_version_2_with_short_names : find_name volume_v2_short.layout (parts_of volume_v2_short (disks_of minix_v2_short)) (codes "/boot") ≡ Ok 2
unfolding number16 number32 is_zero kind_of super_of super_checks super_in super_at v1_inode v2_inode inode_of inode_at inode_place bit with_bit parts_of number_in follow pointer_by inside follow_at zone_at block_at content_at entry_of entry_at find_entry entries_at is_dots components child find_path file_block file_at
minix_find_name_the_path_boot_with_its_last_link_in_version_2_with_short_names = refl

-- the path /la with its last link in version 2 with long names
pub minix_find_name_the_path_la_with_its_last_link_in_version_2_with_long_names : find_name volume_v2_long.layout (parts_of volume_v2_long (disks_of minix_v2_long)) (codes "/la") ≡ Ok 7
unfolding number16 number32 is_zero kind_of super_of super_checks super_in super_at v1_inode v2_inode inode_of inode_at inode_place bit with_bit parts_of number_in follow pointer_by inside follow_at zone_at block_at content_at entry_of entry_at find_entry entries_at is_dots components child find_path file_block file_at
minix_find_name_the_path_la_with_its_last_link_in_version_2_with_long_names = refl

-- the path /lr with its last link in version 2 with long names
pub minix_find_name_the_path_lr_with_its_last_link_in_version_2_with_long_names : find_name volume_v2_long.layout (parts_of volume_v2_long (disks_of minix_v2_long)) (codes "/lr") ≡ Ok 8
unfolding number16 number32 is_zero kind_of super_of super_checks super_in super_at v1_inode v2_inode inode_of inode_at inode_place bit with_bit parts_of number_in follow pointer_by inside follow_at zone_at block_at content_at entry_of entry_at find_entry entries_at is_dots components child find_path file_block file_at
minix_find_name_the_path_lr_with_its_last_link_in_version_2_with_long_names = refl

-- the path /lr/ with its last link in version 2 with long names
pub minix_find_name_the_path_lr_with_its_last_link_in_version_2_with_long_names_2 : find_name volume_v2_long.layout (parts_of volume_v2_long (disks_of minix_v2_long)) (codes "/lr/") ≡ Ok 8
unfolding number16 number32 is_zero kind_of super_of super_checks super_in super_at v1_inode v2_inode inode_of inode_at inode_place bit with_bit parts_of number_in follow pointer_by inside follow_at zone_at block_at content_at entry_of entry_at find_entry entries_at is_dots components child find_path file_block file_at
minix_find_name_the_path_lr_with_its_last_link_in_version_2_with_long_names_2 = refl

-- the path /lr/. with its last link in version 2 with long names
pub minix_find_name_the_path_lr_with_its_last_link_in_version_2_with_long_names_3 : find_name volume_v2_long.layout (parts_of volume_v2_long (disks_of minix_v2_long)) (codes "/lr/.") ≡ Ok 2
unfolding number16 number32 is_zero kind_of super_of super_checks super_in super_at v1_inode v2_inode inode_of inode_at inode_place bit with_bit parts_of number_in follow pointer_by inside follow_at zone_at block_at content_at entry_of entry_at find_entry entries_at is_dots components child find_path file_block file_at
minix_find_name_the_path_lr_with_its_last_link_in_version_2_with_long_names_3 = refl

-- the path /lr/up with its last link in version 2 with long names
pub minix_find_name_the_path_lr_up_with_its_last_link_in_version_2_with_long_names : find_name volume_v2_long.layout (parts_of volume_v2_long (disks_of minix_v2_long)) (codes "/lr/up") ≡ Ok 9
unfolding number16 number32 is_zero kind_of super_of super_checks super_in super_at v1_inode v2_inode inode_of inode_at inode_place bit with_bit parts_of number_in follow pointer_by inside follow_at zone_at block_at content_at entry_of entry_at find_entry entries_at is_dots components child find_path file_block file_at
minix_find_name_the_path_lr_up_with_its_last_link_in_version_2_with_long_names = refl

-- the path /boot/old/self with its last link in version 2 with long names
pub minix_find_name_the_path_boot_old_self_with_its_last_link_in_version_2_with_long_names : find_name volume_v2_long.layout (parts_of volume_v2_long (disks_of minix_v2_long)) (codes "/boot/old/self") ≡ Ok 10
unfolding number16 number32 is_zero kind_of super_of super_checks super_in super_at v1_inode v2_inode inode_of inode_at inode_place bit with_bit parts_of number_in follow pointer_by inside follow_at zone_at block_at content_at entry_of entry_at find_entry entries_at is_dots components child find_path file_block file_at
minix_find_name_the_path_boot_old_self_with_its_last_link_in_version_2_with_long_names = refl

-- the path /boot/old/c2 with its last link in version 2 with long names
pub minix_find_name_the_path_boot_old_c2_with_its_last_link_in_version_2_with_long_names : find_name volume_v2_long.layout (parts_of volume_v2_long (disks_of minix_v2_long)) (codes "/boot/old/c2") ≡ Ok 12
unfolding number16 number32 is_zero kind_of super_of super_checks super_in super_at v1_inode v2_inode inode_of inode_at inode_place bit with_bit parts_of number_in follow pointer_by inside follow_at zone_at block_at content_at entry_of entry_at find_entry entries_at is_dots components child find_path file_block file_at
minix_find_name_the_path_boot_old_c2_with_its_last_link_in_version_2_with_long_names = refl

-- the path /boot with its last link in version 2 with long names
pub minix_find_name_the_path_boot_with_its_last_link_in_version_2_with_long_names : find_name volume_v2_long.layout (parts_of volume_v2_long (disks_of minix_v2_long)) (codes "/boot") ≡ Ok 2
unfolding number16 number32 is_zero kind_of super_of super_checks super_in super_at v1_inode v2_inode inode_of inode_at inode_place bit with_bit parts_of number_in follow pointer_by inside follow_at zone_at block_at content_at entry_of entry_at find_entry entries_at is_dots components child find_path file_block file_at
minix_find_name_the_path_boot_with_its_last_link_in_version_2_with_long_names = refl

-- /a0 with links in a row and its last link, version 1 with long names
pub minix_find_name_a0_with_links_in_a_row_and_its_last_link_version_1_with_long_names : find_name volume_chain_v1_long.layout (parts_of volume_chain_v1_long (disks_of minix_chain_v1_long)) (codes "/a0") ≡ Ok 3
unfolding number16 number32 is_zero kind_of super_of super_checks super_in super_at v1_inode v2_inode inode_of inode_at inode_place bit with_bit parts_of number_in follow pointer_by inside follow_at zone_at block_at content_at entry_of entry_at find_entry entries_at is_dots components child find_path file_block file_at
minix_find_name_a0_with_links_in_a_row_and_its_last_link_version_1_with_long_names = refl

-- /a0/ with links in a row and its last link, version 1 with long names
pub minix_find_name_a0_with_links_in_a_row_and_its_last_link_version_1_with_long_names_2 : find_name volume_chain_v1_long.layout (parts_of volume_chain_v1_long (disks_of minix_chain_v1_long)) (codes "/a0/") ≡ Ok 3
unfolding number16 number32 is_zero kind_of super_of super_checks super_in super_at v1_inode v2_inode inode_of inode_at inode_place bit with_bit parts_of number_in follow pointer_by inside follow_at zone_at block_at content_at entry_of entry_at find_entry entries_at is_dots components child find_path file_block file_at
minix_find_name_a0_with_links_in_a_row_and_its_last_link_version_1_with_long_names_2 = refl

-- /a0/. with links in a row and its last link, version 1 with long names
pub minix_find_name_a0_with_links_in_a_row_and_its_last_link_version_1_with_long_names_3 : find_name volume_chain_v1_long.layout (parts_of volume_chain_v1_long (disks_of minix_chain_v1_long)) (codes "/a0/.") ≡ Err TooManyLinks
unfolding number16 number32 is_zero kind_of super_of super_checks super_in super_at v1_inode v2_inode inode_of inode_at inode_place bit with_bit parts_of number_in follow pointer_by inside follow_at zone_at block_at content_at entry_of entry_at find_entry entries_at is_dots components child find_path file_block file_at
minix_find_name_a0_with_links_in_a_row_and_its_last_link_version_1_with_long_names_3 = refl

-- /a0 with links in a row and its last link, version 2 with short names
pub minix_find_name_a0_with_links_in_a_row_and_its_last_link_version_2_with_short_names : find_name volume_chain_v2_short.layout (parts_of volume_chain_v2_short (disks_of minix_chain_v2_short)) (codes "/a0") ≡ Ok 3
unfolding number16 number32 is_zero kind_of super_of super_checks super_in super_at v1_inode v2_inode inode_of inode_at inode_place bit with_bit parts_of number_in follow pointer_by inside follow_at zone_at block_at content_at entry_of entry_at find_entry entries_at is_dots components child find_path file_block file_at
minix_find_name_a0_with_links_in_a_row_and_its_last_link_version_2_with_short_names = refl

-- /a0/ with links in a row and its last link, version 2 with short names
pub minix_find_name_a0_with_links_in_a_row_and_its_last_link_version_2_with_short_names_2 : find_name volume_chain_v2_short.layout (parts_of volume_chain_v2_short (disks_of minix_chain_v2_short)) (codes "/a0/") ≡ Ok 3
unfolding number16 number32 is_zero kind_of super_of super_checks super_in super_at v1_inode v2_inode inode_of inode_at inode_place bit with_bit parts_of number_in follow pointer_by inside follow_at zone_at block_at content_at entry_of entry_at find_entry entries_at is_dots components child find_path file_block file_at
minix_find_name_a0_with_links_in_a_row_and_its_last_link_version_2_with_short_names_2 = refl

-- /a0/. with links in a row and its last link, version 2 with short names
pub minix_find_name_a0_with_links_in_a_row_and_its_last_link_version_2_with_short_names_3 : find_name volume_chain_v2_short.layout (parts_of volume_chain_v2_short (disks_of minix_chain_v2_short)) (codes "/a0/.") ≡ Err TooManyLinks
unfolding number16 number32 is_zero kind_of super_of super_checks super_in super_at v1_inode v2_inode inode_of inode_at inode_place bit with_bit parts_of number_in follow pointer_by inside follow_at zone_at block_at content_at entry_of entry_at find_entry entries_at is_dots components child find_path file_block file_at
minix_find_name_a0_with_links_in_a_row_and_its_last_link_version_2_with_short_names_3 = refl

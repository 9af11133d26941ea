-- Cases of Minix volumes, written by tools/minix_cases.py: the entries of a directory.
use Rattle.std.proofs.Common.{◌≡◌, ◌∷◌, [], Ok, codes, refl}
use Rattle.lilo_model.specs.Bytes.{number16, number32, is_zero}
use Rattle.lilo_model.specs.MinixEntries.{entry_of, entry_at, find_entry, entries_at, is_dots, entry_with}
use Rattle.lilo_model.specs.MinixLayout.{kind_of, super_of, super_checks, super_in, super_at, v1_inode, v2_inode, inode_of, inode_at, inode_place}
use Rattle.lilo_model.specs.MinixParts.{bit, with_bit, parts_of, number_in, follow, pointer_by, inside, follow_at, zone_at, block_at, content_at}
use Rattle.model_cases.specs.Sparse.{disks_of}
use Rattle.model_cases.specs.MinixFixtures.{minix_v1_short, volume_v1_short, minix_v1_long, volume_v1_long, minix_v2_short, volume_v2_short, minix_v2_long, volume_v2_long}

-- the entries of /boot in version 1 with short names
pub minix_entries_the_entries_of_boot_in_version_1_with_short_names : entries_at volume_v1_short.layout (parts_of volume_v1_short (disks_of minix_v1_short)) ((parts_of volume_v1_short (disks_of minix_v1_short)).node 2) ≡ Ok (entry_with 2 (codes ".") ∷ entry_with 1 (codes "..") ∷ entry_with 3 (codes "old") ∷ entry_with 4 (codes "boot.b") ∷ entry_with 9 (codes "up") ∷ [])
unfolding number16 number32 is_zero kind_of super_of super_checks super_in super_at v1_inode v2_inode inode_of inode_at inode_place bit with_bit parts_of number_in follow pointer_by inside follow_at zone_at block_at content_at entry_of entry_at find_entry entries_at is_dots
minix_entries_the_entries_of_boot_in_version_1_with_short_names = refl

-- the entries of / in version 1 with short names
pub minix_entries_the_entries_of_in_version_1_with_short_names : entries_at volume_v1_short.layout (parts_of volume_v1_short (disks_of minix_v1_short)) ((parts_of volume_v1_short (disks_of minix_v1_short)).node 1) ≡ Ok (entry_with 1 (codes ".") ∷ entry_with 1 (codes "..") ∷ entry_with 2 (codes "boot") ∷ entry_with 6 (codes "hole") ∷ entry_with 7 (codes "la") ∷ entry_with 8 (codes "lr") ∷ entry_with 13 (codes "far") ∷ [])
unfolding number16 number32 is_zero kind_of super_of super_checks super_in super_at v1_inode v2_inode inode_of inode_at inode_place bit with_bit parts_of number_in follow pointer_by inside follow_at zone_at block_at content_at entry_of entry_at find_entry entries_at is_dots
minix_entries_the_entries_of_in_version_1_with_short_names = refl

-- the entries of /boot in version 1 with long names
pub minix_entries_the_entries_of_boot_in_version_1_with_long_names : entries_at volume_v1_long.layout (parts_of volume_v1_long (disks_of minix_v1_long)) ((parts_of volume_v1_long (disks_of minix_v1_long)).node 2) ≡ Ok (entry_with 2 (codes ".") ∷ entry_with 1 (codes "..") ∷ entry_with 3 (codes "old") ∷ entry_with 4 (codes "boot.b") ∷ entry_with 9 (codes "up") ∷ [])
unfolding number16 number32 is_zero kind_of super_of super_checks super_in super_at v1_inode v2_inode inode_of inode_at inode_place bit with_bit parts_of number_in follow pointer_by inside follow_at zone_at block_at content_at entry_of entry_at find_entry entries_at is_dots
minix_entries_the_entries_of_boot_in_version_1_with_long_names = refl

-- the entries of / in version 1 with long names
pub minix_entries_the_entries_of_in_version_1_with_long_names : entries_at volume_v1_long.layout (parts_of volume_v1_long (disks_of minix_v1_long)) ((parts_of volume_v1_long (disks_of minix_v1_long)).node 1) ≡ Ok (entry_with 1 (codes ".") ∷ entry_with 1 (codes "..") ∷ entry_with 2 (codes "boot") ∷ entry_with 6 (codes "hole") ∷ entry_with 7 (codes "la") ∷ entry_with 8 (codes "lr") ∷ entry_with 13 (codes "far") ∷ [])
unfolding number16 number32 is_zero kind_of super_of super_checks super_in super_at v1_inode v2_inode inode_of inode_at inode_place bit with_bit parts_of number_in follow pointer_by inside follow_at zone_at block_at content_at entry_of entry_at find_entry entries_at is_dots
minix_entries_the_entries_of_in_version_1_with_long_names = refl

-- the entries of /boot in version 2 with short names
pub minix_entries_the_entries_of_boot_in_version_2_with_short_names : entries_at volume_v2_short.layout (parts_of volume_v2_short (disks_of minix_v2_short)) ((parts_of volume_v2_short (disks_of minix_v2_short)).node 2) ≡ Ok (entry_with 2 (codes ".") ∷ entry_with 1 (codes "..") ∷ entry_with 3 (codes "old") ∷ entry_with 4 (codes "boot.b") ∷ entry_with 9 (codes "up") ∷ [])
unfolding number16 number32 is_zero kind_of super_of super_checks super_in super_at v1_inode v2_inode inode_of inode_at inode_place bit with_bit parts_of number_in follow pointer_by inside follow_at zone_at block_at content_at entry_of entry_at find_entry entries_at is_dots
minix_entries_the_entries_of_boot_in_version_2_with_short_names = refl

-- the entries of / in version 2 with short names
pub minix_entries_the_entries_of_in_version_2_with_short_names : entries_at volume_v2_short.layout (parts_of volume_v2_short (disks_of minix_v2_short)) ((parts_of volume_v2_short (disks_of minix_v2_short)).node 1) ≡ Ok (entry_with 1 (codes ".") ∷ entry_with 1 (codes "..") ∷ entry_with 2 (codes "boot") ∷ entry_with 6 (codes "hole") ∷ entry_with 7 (codes "la") ∷ entry_with 8 (codes "lr") ∷ entry_with 13 (codes "far") ∷ [])
unfolding number16 number32 is_zero kind_of super_of super_checks super_in super_at v1_inode v2_inode inode_of inode_at inode_place bit with_bit parts_of number_in follow pointer_by inside follow_at zone_at block_at content_at entry_of entry_at find_entry entries_at is_dots
minix_entries_the_entries_of_in_version_2_with_short_names = refl

-- the entries of /boot in version 2 with long names
pub minix_entries_the_entries_of_boot_in_version_2_with_long_names : entries_at volume_v2_long.layout (parts_of volume_v2_long (disks_of minix_v2_long)) ((parts_of volume_v2_long (disks_of minix_v2_long)).node 2) ≡ Ok (entry_with 2 (codes ".") ∷ entry_with 1 (codes "..") ∷ entry_with 3 (codes "old") ∷ entry_with 4 (codes "boot.b") ∷ entry_with 9 (codes "up") ∷ [])
unfolding number16 number32 is_zero kind_of super_of super_checks super_in super_at v1_inode v2_inode inode_of inode_at inode_place bit with_bit parts_of number_in follow pointer_by inside follow_at zone_at block_at content_at entry_of entry_at find_entry entries_at is_dots
minix_entries_the_entries_of_boot_in_version_2_with_long_names = refl

-- the entries of / in version 2 with long names
pub minix_entries_the_entries_of_in_version_2_with_long_names : entries_at volume_v2_long.layout (parts_of volume_v2_long (disks_of minix_v2_long)) ((parts_of volume_v2_long (disks_of minix_v2_long)).node 1) ≡ Ok (entry_with 1 (codes ".") ∷ entry_with 1 (codes "..") ∷ entry_with 2 (codes "boot") ∷ entry_with 6 (codes "hole") ∷ entry_with 7 (codes "la") ∷ entry_with 8 (codes "lr") ∷ entry_with 13 (codes "far") ∷ [])
unfolding number16 number32 is_zero kind_of super_of super_checks super_in super_at v1_inode v2_inode inode_of inode_at inode_place bit with_bit parts_of number_in follow pointer_by inside follow_at zone_at block_at content_at entry_of entry_at find_entry entries_at is_dots
minix_entries_the_entries_of_in_version_2_with_long_names = refl

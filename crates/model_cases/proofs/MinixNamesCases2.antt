-- Cases of Minix volumes, written by tools/minix_cases.py: what a name is.
use Rattle.std.proofs.Common.{◌≡◌, ◌∷◌, ◌++◌, [], None, Some, codes, replicate, refl}
use Rattle.lilo_model.specs.Bytes.{number16, number32, is_zero}
use Rattle.lilo_model.specs.MinixEntries.{entry_of, entry_at, find_entry, entries_at, is_dots}
use Rattle.lilo_model.specs.MinixLayout.{kind_of, super_of, super_checks, super_in, super_at, v1_inode, v2_inode, inode_of, inode_at, inode_place}
use Rattle.lilo_model.specs.MinixNames.{zone_number, block, content, entry, first_named, lookup, reached, thing, names, names_in, File, Link, Directory}
use Rattle.lilo_model.specs.MinixParts.{bit, with_bit, parts_of, number_in, follow, pointer_by, inside, follow_at, zone_at, block_at, content_at}
use Rattle.model_cases.specs.Sparse.{disks_of}
use Rattle.model_cases.specs.MinixFixtures.{minix_v2_long, volume_v2_long}

-- the name boot in version 2 with long names
pub minix_names_the_name_boot_in_version_2_with_long_names : names volume_v2_long.layout (parts_of volume_v2_long (disks_of minix_v2_long)) ((codes "boot") ∷ []) ≡ (Some Directory)
unfolding number16 number32 is_zero kind_of super_of super_checks super_in super_at v1_inode v2_inode inode_of inode_at inode_place bit with_bit parts_of number_in follow pointer_by inside follow_at zone_at block_at content_at entry_of entry_at find_entry entries_at is_dots zone_number block content entry first_named lookup reached thing names names_in
minix_names_the_name_boot_in_version_2_with_long_names = refl

-- the name boot/boot.b in version 2 with long names
pub minix_names_the_name_boot_boot_b_in_version_2_with_long_names : names volume_v2_long.layout (parts_of volume_v2_long (disks_of minix_v2_long)) ((codes "boot.b") ∷ (codes "boot") ∷ []) ≡ (Some (File (codes "LOADER")))
unfolding number16 number32 is_zero kind_of super_of super_checks super_in super_at v1_inode v2_inode inode_of inode_at inode_place bit with_bit parts_of number_in follow pointer_by inside follow_at zone_at block_at content_at entry_of entry_at find_entry entries_at is_dots zone_number block content entry first_named lookup reached thing names names_in
minix_names_the_name_boot_boot_b_in_version_2_with_long_names = refl

-- the name boot/old/k in version 2 with long names
pub minix_names_the_name_boot_old_k_in_version_2_with_long_names : names volume_v2_long.layout (parts_of volume_v2_long (disks_of minix_v2_long)) ((codes "k") ∷ (codes "old") ∷ (codes "boot") ∷ []) ≡ (Some (File []))
unfolding number16 number32 is_zero kind_of super_of super_checks super_in super_at v1_inode v2_inode inode_of inode_at inode_place bit with_bit parts_of number_in follow pointer_by inside follow_at zone_at block_at content_at entry_of entry_at find_entry entries_at is_dots zone_number block content entry first_named lookup reached thing names names_in
minix_names_the_name_boot_old_k_in_version_2_with_long_names = refl

-- the name hole in version 2 with long names
pub minix_names_the_name_hole_in_version_2_with_long_names : names volume_v2_long.layout (parts_of volume_v2_long (disks_of minix_v2_long)) ((codes "hole") ∷ []) ≡ (Some (File (replicate 1024 0 ++ codes "TAIL")))
unfolding number16 number32 is_zero kind_of super_of super_checks super_in super_at v1_inode v2_inode inode_of inode_at inode_place bit with_bit parts_of number_in follow pointer_by inside follow_at zone_at block_at content_at entry_of entry_at find_entry entries_at is_dots zone_number block content entry first_named lookup reached thing names names_in
minix_names_the_name_hole_in_version_2_with_long_names = refl

-- the name la in version 2 with long names
pub minix_names_the_name_la_in_version_2_with_long_names : names volume_v2_long.layout (parts_of volume_v2_long (disks_of minix_v2_long)) ((codes "la") ∷ []) ≡ (Some (Link (codes "/boot/boot.b")))
unfolding number16 number32 is_zero kind_of super_of super_checks super_in super_at v1_inode v2_inode inode_of inode_at inode_place bit with_bit parts_of number_in follow pointer_by inside follow_at zone_at block_at content_at entry_of entry_at find_entry entries_at is_dots zone_number block content entry first_named lookup reached thing names names_in
minix_names_the_name_la_in_version_2_with_long_names = refl

-- the name lr in version 2 with long names
pub minix_names_the_name_lr_in_version_2_with_long_names : names volume_v2_long.layout (parts_of volume_v2_long (disks_of minix_v2_long)) ((codes "lr") ∷ []) ≡ (Some (Link (codes "boot")))
unfolding number16 number32 is_zero kind_of super_of super_checks super_in super_at v1_inode v2_inode inode_of inode_at inode_place bit with_bit parts_of number_in follow pointer_by inside follow_at zone_at block_at content_at entry_of entry_at find_entry entries_at is_dots zone_number block content entry first_named lookup reached thing names names_in
minix_names_the_name_lr_in_version_2_with_long_names = refl

-- the name boot/up in version 2 with long names
pub minix_names_the_name_boot_up_in_version_2_with_long_names : names volume_v2_long.layout (parts_of volume_v2_long (disks_of minix_v2_long)) ((codes "up") ∷ (codes "boot") ∷ []) ≡ (Some (Link (codes "../hole")))
unfolding number16 number32 is_zero kind_of super_of super_checks super_in super_at v1_inode v2_inode inode_of inode_at inode_place bit with_bit parts_of number_in follow pointer_by inside follow_at zone_at block_at content_at entry_of entry_at find_entry entries_at is_dots zone_number block content entry first_named lookup reached thing names names_in
minix_names_the_name_boot_up_in_version_2_with_long_names = refl

-- the name lr/up in version 2 with long names
pub minix_names_the_name_lr_up_in_version_2_with_long_names : names volume_v2_long.layout (parts_of volume_v2_long (disks_of minix_v2_long)) ((codes "up") ∷ (codes "lr") ∷ []) ≡ None
unfolding number16 number32 is_zero kind_of super_of super_checks super_in super_at v1_inode v2_inode inode_of inode_at inode_place bit with_bit parts_of number_in follow pointer_by inside follow_at zone_at block_at content_at entry_of entry_at find_entry entries_at is_dots zone_number block content entry first_named lookup reached thing names names_in
minix_names_the_name_lr_up_in_version_2_with_long_names = refl

-- the name . in version 2 with long names
pub minix_names_the_name_in_version_2_with_long_names : names volume_v2_long.layout (parts_of volume_v2_long (disks_of minix_v2_long)) ((codes ".") ∷ []) ≡ None
unfolding number16 number32 is_zero kind_of super_of super_checks super_in super_at v1_inode v2_inode inode_of inode_at inode_place bit with_bit parts_of number_in follow pointer_by inside follow_at zone_at block_at content_at entry_of entry_at find_entry entries_at is_dots zone_number block content entry first_named lookup reached thing names names_in
minix_names_the_name_in_version_2_with_long_names = refl

-- the name boot/.. in version 2 with long names
pub minix_names_the_name_boot_in_version_2_with_long_names_2 : names volume_v2_long.layout (parts_of volume_v2_long (disks_of minix_v2_long)) ((codes "..") ∷ (codes "boot") ∷ []) ≡ None
unfolding number16 number32 is_zero kind_of super_of super_checks super_in super_at v1_inode v2_inode inode_of inode_at inode_place bit with_bit parts_of number_in follow pointer_by inside follow_at zone_at block_at content_at entry_of entry_at find_entry entries_at is_dots zone_number block content entry first_named lookup reached thing names names_in
minix_names_the_name_boot_in_version_2_with_long_names_2 = refl

-- the name none in version 2 with long names
pub minix_names_the_name_none_in_version_2_with_long_names : names volume_v2_long.layout (parts_of volume_v2_long (disks_of minix_v2_long)) ((codes "none") ∷ []) ≡ None
unfolding number16 number32 is_zero kind_of super_of super_checks super_in super_at v1_inode v2_inode inode_of inode_at inode_place bit with_bit parts_of number_in follow pointer_by inside follow_at zone_at block_at content_at entry_of entry_at find_entry entries_at is_dots zone_number block content entry first_named lookup reached thing names names_in
minix_names_the_name_none_in_version_2_with_long_names = refl

-- the name boot/boot.b/x in version 2 with long names
pub minix_names_the_name_boot_boot_b_x_in_version_2_with_long_names : names volume_v2_long.layout (parts_of volume_v2_long (disks_of minix_v2_long)) ((codes "x") ∷ (codes "boot.b") ∷ (codes "boot") ∷ []) ≡ None
unfolding number16 number32 is_zero kind_of super_of super_checks super_in super_at v1_inode v2_inode inode_of inode_at inode_place bit with_bit parts_of number_in follow pointer_by inside follow_at zone_at block_at content_at entry_of entry_at find_entry entries_at is_dots zone_number block content entry first_named lookup reached thing names names_in
minix_names_the_name_boot_boot_b_x_in_version_2_with_long_names = refl

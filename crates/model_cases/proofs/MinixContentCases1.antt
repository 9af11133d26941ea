-- Cases of Minix volumes, written by tools/minix_cases.py: the bytes of an inode.
use Rattle.std.proofs.Common.{◌≡◌, ◌∷◌, ◌++◌, [], Ok, Err, codes, replicate, refl}
use Rattle.lilo_model.specs.Bytes.{number16, number32, is_zero}
use Rattle.lilo_model.specs.MinixLayout.{kind_of, super_of, super_checks, super_in, super_at, v1_inode, v2_inode, inode_of, inode_at, inode_place}
use Rattle.lilo_model.specs.MinixParts.{bit, with_bit, parts_of, number_in, follow, pointer_by, inside, follow_at, zone_at, block_at, content_at, ZoneOutside}
use Rattle.model_cases.specs.Sparse.{disks_of, patch_at, hex}
use Rattle.model_cases.specs.MinixFixtures.{minix_v1_short, volume_v1_short, minix_v1_long, volume_v1_long, minix_v2_short, volume_v2_short, minix_v2_long, volume_v2_long}

-- the content of /boot/boot.b in version 1 with short names
pub minix_content_the_content_of_boot_boot_b_in_version_1_with_short_names : content_at volume_v1_short.layout (parts_of volume_v1_short (disks_of minix_v1_short)) ((parts_of volume_v1_short (disks_of minix_v1_short)).node 4) ≡ Ok (codes "LOADER")
unfolding number16 number32 is_zero kind_of super_of super_checks super_in super_at v1_inode v2_inode inode_of inode_at inode_place bit with_bit parts_of number_in follow pointer_by inside follow_at zone_at block_at content_at
minix_content_the_content_of_boot_boot_b_in_version_1_with_short_names = refl

-- the content of /boot/old/k in version 1 with short names
pub minix_content_the_content_of_boot_old_k_in_version_1_with_short_names : content_at volume_v1_short.layout (parts_of volume_v1_short (disks_of minix_v1_short)) ((parts_of volume_v1_short (disks_of minix_v1_short)).node 5) ≡ Ok []
unfolding number16 number32 is_zero kind_of super_of super_checks super_in super_at v1_inode v2_inode inode_of inode_at inode_place bit with_bit parts_of number_in follow pointer_by inside follow_at zone_at block_at content_at
minix_content_the_content_of_boot_old_k_in_version_1_with_short_names = refl

-- the content of /hole in version 1 with short names
pub minix_content_the_content_of_hole_in_version_1_with_short_names : content_at volume_v1_short.layout (parts_of volume_v1_short (disks_of minix_v1_short)) ((parts_of volume_v1_short (disks_of minix_v1_short)).node 6) ≡ Ok (replicate 1024 0 ++ codes "TAIL")
unfolding number16 number32 is_zero kind_of super_of super_checks super_in super_at v1_inode v2_inode inode_of inode_at inode_place bit with_bit parts_of number_in follow pointer_by inside follow_at zone_at block_at content_at
minix_content_the_content_of_hole_in_version_1_with_short_names = refl

-- the content of /la in version 1 with short names
pub minix_content_the_content_of_la_in_version_1_with_short_names : content_at volume_v1_short.layout (parts_of volume_v1_short (disks_of minix_v1_short)) ((parts_of volume_v1_short (disks_of minix_v1_short)).node 7) ≡ Ok (codes "/boot/boot.b")
unfolding number16 number32 is_zero kind_of super_of super_checks super_in super_at v1_inode v2_inode inode_of inode_at inode_place bit with_bit parts_of number_in follow pointer_by inside follow_at zone_at block_at content_at
minix_content_the_content_of_la_in_version_1_with_short_names = refl

-- a file whose zone is the first one outside in version 1 with short names
pub minix_content_a_file_whose_zone_is_the_first_one_outside_in_version_1_with_short_names : content_at volume_v1_short.layout (parts_of volume_v1_short (disks_of (minix_v1_short ++ (patch_at 0 8 110 (hex 2 0x4000) ∷ [])))) ((parts_of volume_v1_short (disks_of (minix_v1_short ++ (patch_at 0 8 110 (hex 2 0x4000) ∷ [])))).node 4) ≡ Err (ZoneOutside 64)
unfolding number16 number32 is_zero kind_of super_of super_checks super_in super_at v1_inode v2_inode inode_of inode_at inode_place bit with_bit parts_of number_in follow pointer_by inside follow_at zone_at block_at content_at
minix_content_a_file_whose_zone_is_the_first_one_outside_in_version_1_with_short_names = refl

-- a file whose zone lies before the data zones in version 1 with short names
pub minix_content_a_file_whose_zone_lies_before_the_data_zones_in_version_1_with_short_names : content_at volume_v1_short.layout (parts_of volume_v1_short (disks_of (minix_v1_short ++ (patch_at 0 8 110 (hex 2 0x0400) ∷ [])))) ((parts_of volume_v1_short (disks_of (minix_v1_short ++ (patch_at 0 8 110 (hex 2 0x0400) ∷ [])))).node 4) ≡ Err (ZoneOutside 4)
unfolding number16 number32 is_zero kind_of super_of super_checks super_in super_at v1_inode v2_inode inode_of inode_at inode_place bit with_bit parts_of number_in follow pointer_by inside follow_at zone_at block_at content_at
minix_content_a_file_whose_zone_lies_before_the_data_zones_in_version_1_with_short_names = refl

-- a file whose zone is the last one in version 1 with short names
pub minix_content_a_file_whose_zone_is_the_last_one_in_version_1_with_short_names : content_at volume_v1_short.layout (parts_of volume_v1_short (disks_of (minix_v1_short ++ (patch_at 0 8 110 (hex 2 0x3f00) ∷ [])))) ((parts_of volume_v1_short (disks_of (minix_v1_short ++ (patch_at 0 8 110 (hex 2 0x3f00) ∷ [])))).node 4) ≡ Ok (replicate 6 0)
unfolding number16 number32 is_zero kind_of super_of super_checks super_in super_at v1_inode v2_inode inode_of inode_at inode_place bit with_bit parts_of number_in follow pointer_by inside follow_at zone_at block_at content_at
minix_content_a_file_whose_zone_is_the_last_one_in_version_1_with_short_names = refl

-- a file with zone 0 in version 1 with short names
pub minix_content_a_file_with_zone_0_in_version_1_with_short_names : content_at volume_v1_short.layout (parts_of volume_v1_short (disks_of (minix_v1_short ++ (patch_at 0 8 110 (hex 2 0x0000) ∷ [])))) ((parts_of volume_v1_short (disks_of (minix_v1_short ++ (patch_at 0 8 110 (hex 2 0x0000) ∷ [])))).node 4) ≡ Ok (replicate 6 0)
unfolding number16 number32 is_zero kind_of super_of super_checks super_in super_at v1_inode v2_inode inode_of inode_at inode_place bit with_bit parts_of number_in follow pointer_by inside follow_at zone_at block_at content_at
minix_content_a_file_with_zone_0_in_version_1_with_short_names = refl

-- the content of /boot/boot.b in version 1 with long names
pub minix_content_the_content_of_boot_boot_b_in_version_1_with_long_names : content_at volume_v1_long.layout (parts_of volume_v1_long (disks_of minix_v1_long)) ((parts_of volume_v1_long (disks_of minix_v1_long)).node 4) ≡ Ok (codes "LOADER")
unfolding number16 number32 is_zero kind_of super_of super_checks super_in super_at v1_inode v2_inode inode_of inode_at inode_place bit with_bit parts_of number_in follow pointer_by inside follow_at zone_at block_at content_at
minix_content_the_content_of_boot_boot_b_in_version_1_with_long_names = refl

-- the content of /boot/old/k in version 1 with long names
pub minix_content_the_content_of_boot_old_k_in_version_1_with_long_names : content_at volume_v1_long.layout (parts_of volume_v1_long (disks_of minix_v1_long)) ((parts_of volume_v1_long (disks_of minix_v1_long)).node 5) ≡ Ok []
unfolding number16 number32 is_zero kind_of super_of super_checks super_in super_at v1_inode v2_inode inode_of inode_at inode_place bit with_bit parts_of number_in follow pointer_by inside follow_at zone_at block_at content_at
minix_content_the_content_of_boot_old_k_in_version_1_with_long_names = refl

-- the content of /hole in version 1 with long names
pub minix_content_the_content_of_hole_in_version_1_with_long_names : content_at volume_v1_long.layout (parts_of volume_v1_long (disks_of minix_v1_long)) ((parts_of volume_v1_long (disks_of minix_v1_long)).node 6) ≡ Ok (replicate 1024 0 ++ codes "TAIL")
unfolding number16 number32 is_zero kind_of super_of super_checks super_in super_at v1_inode v2_inode inode_of inode_at inode_place bit with_bit parts_of number_in follow pointer_by inside follow_at zone_at block_at content_at
minix_content_the_content_of_hole_in_version_1_with_long_names = refl

-- the content of /la in version 1 with long names
pub minix_content_the_content_of_la_in_version_1_with_long_names : content_at volume_v1_long.layout (parts_of volume_v1_long (disks_of minix_v1_long)) ((parts_of volume_v1_long (disks_of minix_v1_long)).node 7) ≡ Ok (codes "/boot/boot.b")
unfolding number16 number32 is_zero kind_of super_of super_checks super_in super_at v1_inode v2_inode inode_of inode_at inode_place bit with_bit parts_of number_in follow pointer_by inside follow_at zone_at block_at content_at
minix_content_the_content_of_la_in_version_1_with_long_names = refl

-- a file whose zone is the first one outside in version 1 with long names
pub minix_content_a_file_whose_zone_is_the_first_one_outside_in_version_1_with_long_names : content_at volume_v1_long.layout (parts_of volume_v1_long (disks_of (minix_v1_long ++ (patch_at 0 8 110 (hex 2 0x4000) ∷ [])))) ((parts_of volume_v1_long (disks_of (minix_v1_long ++ (patch_at 0 8 110 (hex 2 0x4000) ∷ [])))).node 4) ≡ Err (ZoneOutside 64)
unfolding number16 number32 is_zero kind_of super_of super_checks super_in super_at v1_inode v2_inode inode_of inode_at inode_place bit with_bit parts_of number_in follow pointer_by inside follow_at zone_at block_at content_at
minix_content_a_file_whose_zone_is_the_first_one_outside_in_version_1_with_long_names = refl

-- a file whose zone lies before the data zones in version 1 with long names
pub minix_content_a_file_whose_zone_lies_before_the_data_zones_in_version_1_with_long_names : content_at volume_v1_long.layout (parts_of volume_v1_long (disks_of (minix_v1_long ++ (patch_at 0 8 110 (hex 2 0x0400) ∷ [])))) ((parts_of volume_v1_long (disks_of (minix_v1_long ++ (patch_at 0 8 110 (hex 2 0x0400) ∷ [])))).node 4) ≡ Err (ZoneOutside 4)
unfolding number16 number32 is_zero kind_of super_of super_checks super_in super_at v1_inode v2_inode inode_of inode_at inode_place bit with_bit parts_of number_in follow pointer_by inside follow_at zone_at block_at content_at
minix_content_a_file_whose_zone_lies_before_the_data_zones_in_version_1_with_long_names = refl

-- a file whose zone is the last one in version 1 with long names
pub minix_content_a_file_whose_zone_is_the_last_one_in_version_1_with_long_names : content_at volume_v1_long.layout (parts_of volume_v1_long (disks_of (minix_v1_long ++ (patch_at 0 8 110 (hex 2 0x3f00) ∷ [])))) ((parts_of volume_v1_long (disks_of (minix_v1_long ++ (patch_at 0 8 110 (hex 2 0x3f00) ∷ [])))).node 4) ≡ Ok (replicate 6 0)
unfolding number16 number32 is_zero kind_of super_of super_checks super_in super_at v1_inode v2_inode inode_of inode_at inode_place bit with_bit parts_of number_in follow pointer_by inside follow_at zone_at block_at content_at
minix_content_a_file_whose_zone_is_the_last_one_in_version_1_with_long_names = refl

-- a file with zone 0 in version 1 with long names
pub minix_content_a_file_with_zone_0_in_version_1_with_long_names : content_at volume_v1_long.layout (parts_of volume_v1_long (disks_of (minix_v1_long ++ (patch_at 0 8 110 (hex 2 0x0000) ∷ [])))) ((parts_of volume_v1_long (disks_of (minix_v1_long ++ (patch_at 0 8 110 (hex 2 0x0000) ∷ [])))).node 4) ≡ Ok (replicate 6 0)
unfolding number16 number32 is_zero kind_of super_of super_checks super_in super_at v1_inode v2_inode inode_of inode_at inode_place bit with_bit parts_of number_in follow pointer_by inside follow_at zone_at block_at content_at
minix_content_a_file_with_zone_0_in_version_1_with_long_names = refl

-- the content of /boot/boot.b in version 2 with short names
pub minix_content_the_content_of_boot_boot_b_in_version_2_with_short_names : content_at volume_v2_short.layout (parts_of volume_v2_short (disks_of minix_v2_short)) ((parts_of volume_v2_short (disks_of minix_v2_short)).node 4) ≡ Ok (codes "LOADER")
unfolding number16 number32 is_zero kind_of super_of super_checks super_in super_at v1_inode v2_inode inode_of inode_at inode_place bit with_bit parts_of number_in follow pointer_by inside follow_at zone_at block_at content_at
minix_content_the_content_of_boot_boot_b_in_version_2_with_short_names = refl

-- the content of /boot/old/k in version 2 with short names
pub minix_content_the_content_of_boot_old_k_in_version_2_with_short_names : content_at volume_v2_short.layout (parts_of volume_v2_short (disks_of minix_v2_short)) ((parts_of volume_v2_short (disks_of minix_v2_short)).node 5) ≡ Ok []
unfolding number16 number32 is_zero kind_of super_of super_checks super_in super_at v1_inode v2_inode inode_of inode_at inode_place bit with_bit parts_of number_in follow pointer_by inside follow_at zone_at block_at content_at
minix_content_the_content_of_boot_old_k_in_version_2_with_short_names = refl

-- the content of /hole in version 2 with short names
pub minix_content_the_content_of_hole_in_version_2_with_short_names : content_at volume_v2_short.layout (parts_of volume_v2_short (disks_of minix_v2_short)) ((parts_of volume_v2_short (disks_of minix_v2_short)).node 6) ≡ Ok (replicate 1024 0 ++ codes "TAIL")
unfolding number16 number32 is_zero kind_of super_of super_checks super_in super_at v1_inode v2_inode inode_of inode_at inode_place bit with_bit parts_of number_in follow pointer_by inside follow_at zone_at block_at content_at
minix_content_the_content_of_hole_in_version_2_with_short_names = refl

-- the content of /la in version 2 with short names
pub minix_content_the_content_of_la_in_version_2_with_short_names : content_at volume_v2_short.layout (parts_of volume_v2_short (disks_of minix_v2_short)) ((parts_of volume_v2_short (disks_of minix_v2_short)).node 7) ≡ Ok (codes "/boot/boot.b")
unfolding number16 number32 is_zero kind_of super_of super_checks super_in super_at v1_inode v2_inode inode_of inode_at inode_place bit with_bit parts_of number_in follow pointer_by inside follow_at zone_at block_at content_at
minix_content_the_content_of_la_in_version_2_with_short_names = refl

-- a file whose zone is the first one outside in version 2 with short names
pub minix_content_a_file_whose_zone_is_the_first_one_outside_in_version_2_with_short_names : content_at volume_v2_short.layout (parts_of volume_v2_short (disks_of (minix_v2_short ++ (patch_at 0 8 216 (hex 4 0x40000000) ∷ [])))) ((parts_of volume_v2_short (disks_of (minix_v2_short ++ (patch_at 0 8 216 (hex 4 0x40000000) ∷ [])))).node 4) ≡ Err (ZoneOutside 64)
unfolding number16 number32 is_zero kind_of super_of super_checks super_in super_at v1_inode v2_inode inode_of inode_at inode_place bit with_bit parts_of number_in follow pointer_by inside follow_at zone_at block_at content_at
minix_content_a_file_whose_zone_is_the_first_one_outside_in_version_2_with_short_names = refl

-- a file whose zone lies before the data zones in version 2 with short names
pub minix_content_a_file_whose_zone_lies_before_the_data_zones_in_version_2_with_short_names : content_at volume_v2_short.layout (parts_of volume_v2_short (disks_of (minix_v2_short ++ (patch_at 0 8 216 (hex 4 0x05000000) ∷ [])))) ((parts_of volume_v2_short (disks_of (minix_v2_short ++ (patch_at 0 8 216 (hex 4 0x05000000) ∷ [])))).node 4) ≡ Err (ZoneOutside 5)
unfolding number16 number32 is_zero kind_of super_of super_checks super_in super_at v1_inode v2_inode inode_of inode_at inode_place bit with_bit parts_of number_in follow pointer_by inside follow_at zone_at block_at content_at
minix_content_a_file_whose_zone_lies_before_the_data_zones_in_version_2_with_short_names = refl

-- a file whose zone is the last one in version 2 with short names
pub minix_content_a_file_whose_zone_is_the_last_one_in_version_2_with_short_names : content_at volume_v2_short.layout (parts_of volume_v2_short (disks_of (minix_v2_short ++ (patch_at 0 8 216 (hex 4 0x3f000000) ∷ [])))) ((parts_of volume_v2_short (disks_of (minix_v2_short ++ (patch_at 0 8 216 (hex 4 0x3f000000) ∷ [])))).node 4) ≡ Ok (replicate 6 0)
unfolding number16 number32 is_zero kind_of super_of super_checks super_in super_at v1_inode v2_inode inode_of inode_at inode_place bit with_bit parts_of number_in follow pointer_by inside follow_at zone_at block_at content_at
minix_content_a_file_whose_zone_is_the_last_one_in_version_2_with_short_names = refl

-- a file with zone 0 in version 2 with short names
pub minix_content_a_file_with_zone_0_in_version_2_with_short_names : content_at volume_v2_short.layout (parts_of volume_v2_short (disks_of (minix_v2_short ++ (patch_at 0 8 216 (hex 4 0x00000000) ∷ [])))) ((parts_of volume_v2_short (disks_of (minix_v2_short ++ (patch_at 0 8 216 (hex 4 0x00000000) ∷ [])))).node 4) ≡ Ok (replicate 6 0)
unfolding number16 number32 is_zero kind_of super_of super_checks super_in super_at v1_inode v2_inode inode_of inode_at inode_place bit with_bit parts_of number_in follow pointer_by inside follow_at zone_at block_at content_at
minix_content_a_file_with_zone_0_in_version_2_with_short_names = refl

-- the content of /boot/boot.b in version 2 with long names
pub minix_content_the_content_of_boot_boot_b_in_version_2_with_long_names : content_at volume_v2_long.layout (parts_of volume_v2_long (disks_of minix_v2_long)) ((parts_of volume_v2_long (disks_of minix_v2_long)).node 4) ≡ Ok (codes "LOADER")
unfolding number16 number32 is_zero kind_of super_of super_checks super_in super_at v1_inode v2_inode inode_of inode_at inode_place bit with_bit parts_of number_in follow pointer_by inside follow_at zone_at block_at content_at
minix_content_the_content_of_boot_boot_b_in_version_2_with_long_names = refl

-- the content of /boot/old/k in version 2 with long names
pub minix_content_the_content_of_boot_old_k_in_version_2_with_long_names : content_at volume_v2_long.layout (parts_of volume_v2_long (disks_of minix_v2_long)) ((parts_of volume_v2_long (disks_of minix_v2_long)).node 5) ≡ Ok []
unfolding number16 number32 is_zero kind_of super_of super_checks super_in super_at v1_inode v2_inode inode_of inode_at inode_place bit with_bit parts_of number_in follow pointer_by inside follow_at zone_at block_at content_at
minix_content_the_content_of_boot_old_k_in_version_2_with_long_names = refl

-- the content of /hole in version 2 with long names
pub minix_content_the_content_of_hole_in_version_2_with_long_names : content_at volume_v2_long.layout (parts_of volume_v2_long (disks_of minix_v2_long)) ((parts_of volume_v2_long (disks_of minix_v2_long)).node 6) ≡ Ok (replicate 1024 0 ++ codes "TAIL")
unfolding number16 number32 is_zero kind_of super_of super_checks super_in super_at v1_inode v2_inode inode_of inode_at inode_place bit with_bit parts_of number_in follow pointer_by inside follow_at zone_at block_at content_at
minix_content_the_content_of_hole_in_version_2_with_long_names = refl

-- the content of /la in version 2 with long names
pub minix_content_the_content_of_la_in_version_2_with_long_names : content_at volume_v2_long.layout (parts_of volume_v2_long (disks_of minix_v2_long)) ((parts_of volume_v2_long (disks_of minix_v2_long)).node 7) ≡ Ok (codes "/boot/boot.b")
unfolding number16 number32 is_zero kind_of super_of super_checks super_in super_at v1_inode v2_inode inode_of inode_at inode_place bit with_bit parts_of number_in follow pointer_by inside follow_at zone_at block_at content_at
minix_content_the_content_of_la_in_version_2_with_long_names = refl

-- a file whose zone is the first one outside in version 2 with long names
pub minix_content_a_file_whose_zone_is_the_first_one_outside_in_version_2_with_long_names : content_at volume_v2_long.layout (parts_of volume_v2_long (disks_of (minix_v2_long ++ (patch_at 0 11 216 (hex 4 0x40000000) ∷ [])))) ((parts_of volume_v2_long (disks_of (minix_v2_long ++ (patch_at 0 11 216 (hex 4 0x40000000) ∷ [])))).node 4) ≡ Err (ZoneOutside 64)
unfolding number16 number32 is_zero kind_of super_of super_checks super_in super_at v1_inode v2_inode inode_of inode_at inode_place bit with_bit parts_of number_in follow pointer_by inside follow_at zone_at block_at content_at
minix_content_a_file_whose_zone_is_the_first_one_outside_in_version_2_with_long_names = refl

-- a file whose zone lies before the data zones in version 2 with long names
pub minix_content_a_file_whose_zone_lies_before_the_data_zones_in_version_2_with_long_names : content_at volume_v2_long.layout (parts_of volume_v2_long (disks_of (minix_v2_long ++ (patch_at 0 11 216 (hex 4 0x05000000) ∷ [])))) ((parts_of volume_v2_long (disks_of (minix_v2_long ++ (patch_at 0 11 216 (hex 4 0x05000000) ∷ [])))).node 4) ≡ Err (ZoneOutside 5)
unfolding number16 number32 is_zero kind_of super_of super_checks super_in super_at v1_inode v2_inode inode_of inode_at inode_place bit with_bit parts_of number_in follow pointer_by inside follow_at zone_at block_at content_at
minix_content_a_file_whose_zone_lies_before_the_data_zones_in_version_2_with_long_names = refl

-- a file whose zone is the last one in version 2 with long names
pub minix_content_a_file_whose_zone_is_the_last_one_in_version_2_with_long_names : content_at volume_v2_long.layout (parts_of volume_v2_long (disks_of (minix_v2_long ++ (patch_at 0 11 216 (hex 4 0x3f000000) ∷ [])))) ((parts_of volume_v2_long (disks_of (minix_v2_long ++ (patch_at 0 11 216 (hex 4 0x3f000000) ∷ [])))).node 4) ≡ Ok (replicate 6 0)
unfolding number16 number32 is_zero kind_of super_of super_checks super_in super_at v1_inode v2_inode inode_of inode_at inode_place bit with_bit parts_of number_in follow pointer_by inside follow_at zone_at block_at content_at
minix_content_a_file_whose_zone_is_the_last_one_in_version_2_with_long_names = refl

-- a file with zone 0 in version 2 with long names
pub minix_content_a_file_with_zone_0_in_version_2_with_long_names : content_at volume_v2_long.layout (parts_of volume_v2_long (disks_of (minix_v2_long ++ (patch_at 0 11 216 (hex 4 0x00000000) ∷ [])))) ((parts_of volume_v2_long (disks_of (minix_v2_long ++ (patch_at 0 11 216 (hex 4 0x00000000) ∷ [])))).node 4) ≡ Ok (replicate 6 0)
unfolding number16 number32 is_zero kind_of super_of super_checks super_in super_at v1_inode v2_inode inode_of inode_at inode_place bit with_bit parts_of number_in follow pointer_by inside follow_at zone_at block_at content_at
minix_content_a_file_with_zone_0_in_version_2_with_long_names = refl

-- Cases of Minix volumes, written by tools/minix_cases.py: the zone of a block.
use Rattle.std.proofs.Common.{◌≡◌, ◌∷◌, ◌++◌, [], Ok, Err, refl}
use Rattle.lilo_model.specs.Bytes.{number16, number32, is_zero}
use Rattle.lilo_model.specs.MinixLayout.{kind_of, super_of, super_checks, super_in, super_at, v1_inode, v2_inode, inode_of, inode_at, inode_place}
use Rattle.lilo_model.specs.MinixParts.{bit, with_bit, parts_of, number_in, follow, pointer_by, inside, follow_at, zone_at, block_at, content_at, ZoneOutside}
use Rattle.model_cases.specs.Sparse.{disks_of, patch_at, hex}
use Rattle.model_cases.specs.MinixFixtures.{minix_v1_short, volume_v1_short, minix_v1_long, volume_v1_long, minix_v2_short, volume_v2_short, minix_v2_long, volume_v2_long}

-- block 0 of /far in version 1 with short names
pub minix_zone_block_0_of_far_in_version_1_with_short_names : zone_at volume_v1_short.layout (parts_of volume_v1_short (disks_of minix_v1_short)) ((parts_of volume_v1_short (disks_of minix_v1_short)).node 13) 0 ≡ Ok 0
unfolding number16 number32 is_zero kind_of super_of super_checks super_in super_at v1_inode v2_inode inode_of inode_at inode_place bit with_bit parts_of number_in follow pointer_by inside follow_at zone_at block_at content_at
minix_zone_block_0_of_far_in_version_1_with_short_names = refl

-- block 6 of /far in version 1 with short names
pub minix_zone_block_6_of_far_in_version_1_with_short_names : zone_at volume_v1_short.layout (parts_of volume_v1_short (disks_of minix_v1_short)) ((parts_of volume_v1_short (disks_of minix_v1_short)).node 13) 6 ≡ Ok 0
unfolding number16 number32 is_zero kind_of super_of super_checks super_in super_at v1_inode v2_inode inode_of inode_at inode_place bit with_bit parts_of number_in follow pointer_by inside follow_at zone_at block_at content_at
minix_zone_block_6_of_far_in_version_1_with_short_names = refl

-- block 7 of /far in version 1 with short names
pub minix_zone_block_7_of_far_in_version_1_with_short_names : zone_at volume_v1_short.layout (parts_of volume_v1_short (disks_of minix_v1_short)) ((parts_of volume_v1_short (disks_of minix_v1_short)).node 13) 7 ≡ Ok 16
unfolding number16 number32 is_zero kind_of super_of super_checks super_in super_at v1_inode v2_inode inode_of inode_at inode_place bit with_bit parts_of number_in follow pointer_by inside follow_at zone_at block_at content_at
minix_zone_block_7_of_far_in_version_1_with_short_names = refl

-- block 8 of /far in version 1 with short names
pub minix_zone_block_8_of_far_in_version_1_with_short_names : zone_at volume_v1_short.layout (parts_of volume_v1_short (disks_of minix_v1_short)) ((parts_of volume_v1_short (disks_of minix_v1_short)).node 13) 8 ≡ Ok 17
unfolding number16 number32 is_zero kind_of super_of super_checks super_in super_at v1_inode v2_inode inode_of inode_at inode_place bit with_bit parts_of number_in follow pointer_by inside follow_at zone_at block_at content_at
minix_zone_block_8_of_far_in_version_1_with_short_names = refl

-- block 9 of /far in version 1 with short names
pub minix_zone_block_9_of_far_in_version_1_with_short_names : zone_at volume_v1_short.layout (parts_of volume_v1_short (disks_of minix_v1_short)) ((parts_of volume_v1_short (disks_of minix_v1_short)).node 13) 9 ≡ Ok 0
unfolding number16 number32 is_zero kind_of super_of super_checks super_in super_at v1_inode v2_inode inode_of inode_at inode_place bit with_bit parts_of number_in follow pointer_by inside follow_at zone_at block_at content_at
minix_zone_block_9_of_far_in_version_1_with_short_names = refl

-- block 518 of /far in version 1 with short names
pub minix_zone_block_518_of_far_in_version_1_with_short_names : zone_at volume_v1_short.layout (parts_of volume_v1_short (disks_of minix_v1_short)) ((parts_of volume_v1_short (disks_of minix_v1_short)).node 13) 518 ≡ Ok 0
unfolding number16 number32 is_zero kind_of super_of super_checks super_in super_at v1_inode v2_inode inode_of inode_at inode_place bit with_bit parts_of number_in follow pointer_by inside follow_at zone_at block_at content_at
minix_zone_block_518_of_far_in_version_1_with_short_names = refl

-- block 519 of /far in version 1 with short names
pub minix_zone_block_519_of_far_in_version_1_with_short_names : zone_at volume_v1_short.layout (parts_of volume_v1_short (disks_of minix_v1_short)) ((parts_of volume_v1_short (disks_of minix_v1_short)).node 13) 519 ≡ Ok 0
unfolding number16 number32 is_zero kind_of super_of super_checks super_in super_at v1_inode v2_inode inode_of inode_at inode_place bit with_bit parts_of number_in follow pointer_by inside follow_at zone_at block_at content_at
minix_zone_block_519_of_far_in_version_1_with_short_names = refl

-- block 520 of /far in version 1 with short names
pub minix_zone_block_520_of_far_in_version_1_with_short_names : zone_at volume_v1_short.layout (parts_of volume_v1_short (disks_of minix_v1_short)) ((parts_of volume_v1_short (disks_of minix_v1_short)).node 13) 520 ≡ Ok 0
unfolding number16 number32 is_zero kind_of super_of super_checks super_in super_at v1_inode v2_inode inode_of inode_at inode_place bit with_bit parts_of number_in follow pointer_by inside follow_at zone_at block_at content_at
minix_zone_block_520_of_far_in_version_1_with_short_names = refl

-- block 262662 of /far in version 1 with short names
pub minix_zone_block_262662_of_far_in_version_1_with_short_names : zone_at volume_v1_short.layout (parts_of volume_v1_short (disks_of minix_v1_short)) ((parts_of volume_v1_short (disks_of minix_v1_short)).node 13) 262662 ≡ Ok 0
unfolding number16 number32 is_zero kind_of super_of super_checks super_in super_at v1_inode v2_inode inode_of inode_at inode_place bit with_bit parts_of number_in follow pointer_by inside follow_at zone_at block_at content_at
minix_zone_block_262662_of_far_in_version_1_with_short_names = refl

-- an indirect zone outside in version 1 with short names
pub minix_zone_an_indirect_zone_outside_in_version_1_with_short_names : zone_at volume_v1_short.layout (parts_of volume_v1_short (disks_of (minix_v1_short ++ (patch_at 0 8 412 (hex 2 0x60ea) ∷ [])))) ((parts_of volume_v1_short (disks_of (minix_v1_short ++ (patch_at 0 8 412 (hex 2 0x60ea) ∷ [])))).node 13) 7 ≡ Err (ZoneOutside 60000)
unfolding number16 number32 is_zero kind_of super_of super_checks super_in super_at v1_inode v2_inode inode_of inode_at inode_place bit with_bit parts_of number_in follow pointer_by inside follow_at zone_at block_at content_at
minix_zone_an_indirect_zone_outside_in_version_1_with_short_names = refl

-- a triple or double zone outside in version 1 with short names
pub minix_zone_a_triple_or_double_zone_outside_in_version_1_with_short_names : zone_at volume_v1_short.layout (parts_of volume_v1_short (disks_of (minix_v1_short ++ (patch_at 0 8 414 (hex 2 0x0300) ∷ [])))) ((parts_of volume_v1_short (disks_of (minix_v1_short ++ (patch_at 0 8 414 (hex 2 0x0300) ∷ [])))).node 13) 519 ≡ Err (ZoneOutside 3)
unfolding number16 number32 is_zero kind_of super_of super_checks super_in super_at v1_inode v2_inode inode_of inode_at inode_place bit with_bit parts_of number_in follow pointer_by inside follow_at zone_at block_at content_at
minix_zone_a_triple_or_double_zone_outside_in_version_1_with_short_names = refl

-- block 0 of /far in version 1 with long names
pub minix_zone_block_0_of_far_in_version_1_with_long_names : zone_at volume_v1_long.layout (parts_of volume_v1_long (disks_of minix_v1_long)) ((parts_of volume_v1_long (disks_of minix_v1_long)).node 13) 0 ≡ Ok 0
unfolding number16 number32 is_zero kind_of super_of super_checks super_in super_at v1_inode v2_inode inode_of inode_at inode_place bit with_bit parts_of number_in follow pointer_by inside follow_at zone_at block_at content_at
minix_zone_block_0_of_far_in_version_1_with_long_names = refl

-- block 6 of /far in version 1 with long names
pub minix_zone_block_6_of_far_in_version_1_with_long_names : zone_at volume_v1_long.layout (parts_of volume_v1_long (disks_of minix_v1_long)) ((parts_of volume_v1_long (disks_of minix_v1_long)).node 13) 6 ≡ Ok 0
unfolding number16 number32 is_zero kind_of super_of super_checks super_in super_at v1_inode v2_inode inode_of inode_at inode_place bit with_bit parts_of number_in follow pointer_by inside follow_at zone_at block_at content_at
minix_zone_block_6_of_far_in_version_1_with_long_names = refl

-- block 7 of /far in version 1 with long names
pub minix_zone_block_7_of_far_in_version_1_with_long_names : zone_at volume_v1_long.layout (parts_of volume_v1_long (disks_of minix_v1_long)) ((parts_of volume_v1_long (disks_of minix_v1_long)).node 13) 7 ≡ Ok 16
unfolding number16 number32 is_zero kind_of super_of super_checks super_in super_at v1_inode v2_inode inode_of inode_at inode_place bit with_bit parts_of number_in follow pointer_by inside follow_at zone_at block_at content_at
minix_zone_block_7_of_far_in_version_1_with_long_names = refl

-- block 8 of /far in version 1 with long names
pub minix_zone_block_8_of_far_in_version_1_with_long_names : zone_at volume_v1_long.layout (parts_of volume_v1_long (disks_of minix_v1_long)) ((parts_of volume_v1_long (disks_of minix_v1_long)).node 13) 8 ≡ Ok 17
unfolding number16 number32 is_zero kind_of super_of super_checks super_in super_at v1_inode v2_inode inode_of inode_at inode_place bit with_bit parts_of number_in follow pointer_by inside follow_at zone_at block_at content_at
minix_zone_block_8_of_far_in_version_1_with_long_names = refl

-- block 9 of /far in version 1 with long names
pub minix_zone_block_9_of_far_in_version_1_with_long_names : zone_at volume_v1_long.layout (parts_of volume_v1_long (disks_of minix_v1_long)) ((parts_of volume_v1_long (disks_of minix_v1_long)).node 13) 9 ≡ Ok 0
unfolding number16 number32 is_zero kind_of super_of super_checks super_in super_at v1_inode v2_inode inode_of inode_at inode_place bit with_bit parts_of number_in follow pointer_by inside follow_at zone_at block_at content_at
minix_zone_block_9_of_far_in_version_1_with_long_names = refl

-- block 518 of /far in version 1 with long names
pub minix_zone_block_518_of_far_in_version_1_with_long_names : zone_at volume_v1_long.layout (parts_of volume_v1_long (disks_of minix_v1_long)) ((parts_of volume_v1_long (disks_of minix_v1_long)).node 13) 518 ≡ Ok 0
unfolding number16 number32 is_zero kind_of super_of super_checks super_in super_at v1_inode v2_inode inode_of inode_at inode_place bit with_bit parts_of number_in follow pointer_by inside follow_at zone_at block_at content_at
minix_zone_block_518_of_far_in_version_1_with_long_names = refl

-- block 519 of /far in version 1 with long names
pub minix_zone_block_519_of_far_in_version_1_with_long_names : zone_at volume_v1_long.layout (parts_of volume_v1_long (disks_of minix_v1_long)) ((parts_of volume_v1_long (disks_of minix_v1_long)).node 13) 519 ≡ Ok 0
unfolding number16 number32 is_zero kind_of super_of super_checks super_in super_at v1_inode v2_inode inode_of inode_at inode_place bit with_bit parts_of number_in follow pointer_by inside follow_at zone_at block_at content_at
minix_zone_block_519_of_far_in_version_1_with_long_names = refl

-- block 520 of /far in version 1 with long names
pub minix_zone_block_520_of_far_in_version_1_with_long_names : zone_at volume_v1_long.layout (parts_of volume_v1_long (disks_of minix_v1_long)) ((parts_of volume_v1_long (disks_of minix_v1_long)).node 13) 520 ≡ Ok 0
unfolding number16 number32 is_zero kind_of super_of super_checks super_in super_at v1_inode v2_inode inode_of inode_at inode_place bit with_bit parts_of number_in follow pointer_by inside follow_at zone_at block_at content_at
minix_zone_block_520_of_far_in_version_1_with_long_names = refl

-- block 262662 of /far in version 1 with long names
pub minix_zone_block_262662_of_far_in_version_1_with_long_names : zone_at volume_v1_long.layout (parts_of volume_v1_long (disks_of minix_v1_long)) ((parts_of volume_v1_long (disks_of minix_v1_long)).node 13) 262662 ≡ Ok 0
unfolding number16 number32 is_zero kind_of super_of super_checks super_in super_at v1_inode v2_inode inode_of inode_at inode_place bit with_bit parts_of number_in follow pointer_by inside follow_at zone_at block_at content_at
minix_zone_block_262662_of_far_in_version_1_with_long_names = refl

-- an indirect zone outside in version 1 with long names
pub minix_zone_an_indirect_zone_outside_in_version_1_with_long_names : zone_at volume_v1_long.layout (parts_of volume_v1_long (disks_of (minix_v1_long ++ (patch_at 0 8 412 (hex 2 0x60ea) ∷ [])))) ((parts_of volume_v1_long (disks_of (minix_v1_long ++ (patch_at 0 8 412 (hex 2 0x60ea) ∷ [])))).node 13) 7 ≡ Err (ZoneOutside 60000)
unfolding number16 number32 is_zero kind_of super_of super_checks super_in super_at v1_inode v2_inode inode_of inode_at inode_place bit with_bit parts_of number_in follow pointer_by inside follow_at zone_at block_at content_at
minix_zone_an_indirect_zone_outside_in_version_1_with_long_names = refl

-- a triple or double zone outside in version 1 with long names
pub minix_zone_a_triple_or_double_zone_outside_in_version_1_with_long_names : zone_at volume_v1_long.layout (parts_of volume_v1_long (disks_of (minix_v1_long ++ (patch_at 0 8 414 (hex 2 0x0300) ∷ [])))) ((parts_of volume_v1_long (disks_of (minix_v1_long ++ (patch_at 0 8 414 (hex 2 0x0300) ∷ [])))).node 13) 519 ≡ Err (ZoneOutside 3)
unfolding number16 number32 is_zero kind_of super_of super_checks super_in super_at v1_inode v2_inode inode_of inode_at inode_place bit with_bit parts_of number_in follow pointer_by inside follow_at zone_at block_at content_at
minix_zone_a_triple_or_double_zone_outside_in_version_1_with_long_names = refl

-- block 0 of /far in version 2 with short names
pub minix_zone_block_0_of_far_in_version_2_with_short_names : zone_at volume_v2_short.layout (parts_of volume_v2_short (disks_of minix_v2_short)) ((parts_of volume_v2_short (disks_of minix_v2_short)).node 13) 0 ≡ Ok 0
unfolding number16 number32 is_zero kind_of super_of super_checks super_in super_at v1_inode v2_inode inode_of inode_at inode_place bit with_bit parts_of number_in follow pointer_by inside follow_at zone_at block_at content_at
minix_zone_block_0_of_far_in_version_2_with_short_names = refl

-- block 6 of /far in version 2 with short names
pub minix_zone_block_6_of_far_in_version_2_with_short_names : zone_at volume_v2_short.layout (parts_of volume_v2_short (disks_of minix_v2_short)) ((parts_of volume_v2_short (disks_of minix_v2_short)).node 13) 6 ≡ Ok 0
unfolding number16 number32 is_zero kind_of super_of super_checks super_in super_at v1_inode v2_inode inode_of inode_at inode_place bit with_bit parts_of number_in follow pointer_by inside follow_at zone_at block_at content_at
minix_zone_block_6_of_far_in_version_2_with_short_names = refl

-- block 7 of /far in version 2 with short names
pub minix_zone_block_7_of_far_in_version_2_with_short_names : zone_at volume_v2_short.layout (parts_of volume_v2_short (disks_of minix_v2_short)) ((parts_of volume_v2_short (disks_of minix_v2_short)).node 13) 7 ≡ Ok 17
unfolding number16 number32 is_zero kind_of super_of super_checks super_in super_at v1_inode v2_inode inode_of inode_at inode_place bit with_bit parts_of number_in follow pointer_by inside follow_at zone_at block_at content_at
minix_zone_block_7_of_far_in_version_2_with_short_names = refl

-- block 8 of /far in version 2 with short names
pub minix_zone_block_8_of_far_in_version_2_with_short_names : zone_at volume_v2_short.layout (parts_of volume_v2_short (disks_of minix_v2_short)) ((parts_of volume_v2_short (disks_of minix_v2_short)).node 13) 8 ≡ Ok 18
unfolding number16 number32 is_zero kind_of super_of super_checks super_in super_at v1_inode v2_inode inode_of inode_at inode_place bit with_bit parts_of number_in follow pointer_by inside follow_at zone_at block_at content_at
minix_zone_block_8_of_far_in_version_2_with_short_names = refl

-- block 9 of /far in version 2 with short names
pub minix_zone_block_9_of_far_in_version_2_with_short_names : zone_at volume_v2_short.layout (parts_of volume_v2_short (disks_of minix_v2_short)) ((parts_of volume_v2_short (disks_of minix_v2_short)).node 13) 9 ≡ Ok 0
unfolding number16 number32 is_zero kind_of super_of super_checks super_in super_at v1_inode v2_inode inode_of inode_at inode_place bit with_bit parts_of number_in follow pointer_by inside follow_at zone_at block_at content_at
minix_zone_block_9_of_far_in_version_2_with_short_names = refl

-- block 262 of /far in version 2 with short names
pub minix_zone_block_262_of_far_in_version_2_with_short_names : zone_at volume_v2_short.layout (parts_of volume_v2_short (disks_of minix_v2_short)) ((parts_of volume_v2_short (disks_of minix_v2_short)).node 13) 262 ≡ Ok 0
unfolding number16 number32 is_zero kind_of super_of super_checks super_in super_at v1_inode v2_inode inode_of inode_at inode_place bit with_bit parts_of number_in follow pointer_by inside follow_at zone_at block_at content_at
minix_zone_block_262_of_far_in_version_2_with_short_names = refl

-- block 263 of /far in version 2 with short names
pub minix_zone_block_263_of_far_in_version_2_with_short_names : zone_at volume_v2_short.layout (parts_of volume_v2_short (disks_of minix_v2_short)) ((parts_of volume_v2_short (disks_of minix_v2_short)).node 13) 263 ≡ Ok 0
unfolding number16 number32 is_zero kind_of super_of super_checks super_in super_at v1_inode v2_inode inode_of inode_at inode_place bit with_bit parts_of number_in follow pointer_by inside follow_at zone_at block_at content_at
minix_zone_block_263_of_far_in_version_2_with_short_names = refl

-- block 264 of /far in version 2 with short names
pub minix_zone_block_264_of_far_in_version_2_with_short_names : zone_at volume_v2_short.layout (parts_of volume_v2_short (disks_of minix_v2_short)) ((parts_of volume_v2_short (disks_of minix_v2_short)).node 13) 264 ≡ Ok 0
unfolding number16 number32 is_zero kind_of super_of super_checks super_in super_at v1_inode v2_inode inode_of inode_at inode_place bit with_bit parts_of number_in follow pointer_by inside follow_at zone_at block_at content_at
minix_zone_block_264_of_far_in_version_2_with_short_names = refl

-- block 65798 of /far in version 2 with short names
pub minix_zone_block_65798_of_far_in_version_2_with_short_names : zone_at volume_v2_short.layout (parts_of volume_v2_short (disks_of minix_v2_short)) ((parts_of volume_v2_short (disks_of minix_v2_short)).node 13) 65798 ≡ Ok 0
unfolding number16 number32 is_zero kind_of super_of super_checks super_in super_at v1_inode v2_inode inode_of inode_at inode_place bit with_bit parts_of number_in follow pointer_by inside follow_at zone_at block_at content_at
minix_zone_block_65798_of_far_in_version_2_with_short_names = refl

-- block 65799 of /far in version 2 with short names
pub minix_zone_block_65799_of_far_in_version_2_with_short_names : zone_at volume_v2_short.layout (parts_of volume_v2_short (disks_of minix_v2_short)) ((parts_of volume_v2_short (disks_of minix_v2_short)).node 13) 65799 ≡ Ok 0
unfolding number16 number32 is_zero kind_of super_of super_checks super_in super_at v1_inode v2_inode inode_of inode_at inode_place bit with_bit parts_of number_in follow pointer_by inside follow_at zone_at block_at content_at
minix_zone_block_65799_of_far_in_version_2_with_short_names = refl

-- block 16843014 of /far in version 2 with short names
pub minix_zone_block_16843014_of_far_in_version_2_with_short_names : zone_at volume_v2_short.layout (parts_of volume_v2_short (disks_of minix_v2_short)) ((parts_of volume_v2_short (disks_of minix_v2_short)).node 13) 16843014 ≡ Ok 0
unfolding number16 number32 is_zero kind_of super_of super_checks super_in super_at v1_inode v2_inode inode_of inode_at inode_place bit with_bit parts_of number_in follow pointer_by inside follow_at zone_at block_at content_at
minix_zone_block_16843014_of_far_in_version_2_with_short_names = refl

-- an indirect zone outside in version 2 with short names
pub minix_zone_an_indirect_zone_outside_in_version_2_with_short_names : zone_at volume_v2_short.layout (parts_of volume_v2_short (disks_of (minix_v2_short ++ (patch_at 0 9 308 (hex 4 0x60ea0000) ∷ [])))) ((parts_of volume_v2_short (disks_of (minix_v2_short ++ (patch_at 0 9 308 (hex 4 0x60ea0000) ∷ [])))).node 13) 7 ≡ Err (ZoneOutside 60000)
unfolding number16 number32 is_zero kind_of super_of super_checks super_in super_at v1_inode v2_inode inode_of inode_at inode_place bit with_bit parts_of number_in follow pointer_by inside follow_at zone_at block_at content_at
minix_zone_an_indirect_zone_outside_in_version_2_with_short_names = refl

-- a triple or double zone outside in version 2 with short names
pub minix_zone_a_triple_or_double_zone_outside_in_version_2_with_short_names : zone_at volume_v2_short.layout (parts_of volume_v2_short (disks_of (minix_v2_short ++ (patch_at 0 9 312 (hex 4 0x03000000) ∷ [])))) ((parts_of volume_v2_short (disks_of (minix_v2_short ++ (patch_at 0 9 312 (hex 4 0x03000000) ∷ [])))).node 13) 263 ≡ Err (ZoneOutside 3)
unfolding number16 number32 is_zero kind_of super_of super_checks super_in super_at v1_inode v2_inode inode_of inode_at inode_place bit with_bit parts_of number_in follow pointer_by inside follow_at zone_at block_at content_at
minix_zone_a_triple_or_double_zone_outside_in_version_2_with_short_names = refl

-- block 0 of /far in version 2 with long names
pub minix_zone_block_0_of_far_in_version_2_with_long_names : zone_at volume_v2_long.layout (parts_of volume_v2_long (disks_of minix_v2_long)) ((parts_of volume_v2_long (disks_of minix_v2_long)).node 13) 0 ≡ Ok 0
unfolding number16 number32 is_zero kind_of super_of super_checks super_in super_at v1_inode v2_inode inode_of inode_at inode_place bit with_bit parts_of number_in follow pointer_by inside follow_at zone_at block_at content_at
minix_zone_block_0_of_far_in_version_2_with_long_names = refl

-- block 6 of /far in version 2 with long names
pub minix_zone_block_6_of_far_in_version_2_with_long_names : zone_at volume_v2_long.layout (parts_of volume_v2_long (disks_of minix_v2_long)) ((parts_of volume_v2_long (disks_of minix_v2_long)).node 13) 6 ≡ Ok 0
unfolding number16 number32 is_zero kind_of super_of super_checks super_in super_at v1_inode v2_inode inode_of inode_at inode_place bit with_bit parts_of number_in follow pointer_by inside follow_at zone_at block_at content_at
minix_zone_block_6_of_far_in_version_2_with_long_names = refl

-- block 7 of /far in version 2 with long names
pub minix_zone_block_7_of_far_in_version_2_with_long_names : zone_at volume_v2_long.layout (parts_of volume_v2_long (disks_of minix_v2_long)) ((parts_of volume_v2_long (disks_of minix_v2_long)).node 13) 7 ≡ Ok 17
unfolding number16 number32 is_zero kind_of super_of super_checks super_in super_at v1_inode v2_inode inode_of inode_at inode_place bit with_bit parts_of number_in follow pointer_by inside follow_at zone_at block_at content_at
minix_zone_block_7_of_far_in_version_2_with_long_names = refl

-- block 8 of /far in version 2 with long names
pub minix_zone_block_8_of_far_in_version_2_with_long_names : zone_at volume_v2_long.layout (parts_of volume_v2_long (disks_of minix_v2_long)) ((parts_of volume_v2_long (disks_of minix_v2_long)).node 13) 8 ≡ Ok 18
unfolding number16 number32 is_zero kind_of super_of super_checks super_in super_at v1_inode v2_inode inode_of inode_at inode_place bit with_bit parts_of number_in follow pointer_by inside follow_at zone_at block_at content_at
minix_zone_block_8_of_far_in_version_2_with_long_names = refl

-- block 9 of /far in version 2 with long names
pub minix_zone_block_9_of_far_in_version_2_with_long_names : zone_at volume_v2_long.layout (parts_of volume_v2_long (disks_of minix_v2_long)) ((parts_of volume_v2_long (disks_of minix_v2_long)).node 13) 9 ≡ Ok 0
unfolding number16 number32 is_zero kind_of super_of super_checks super_in super_at v1_inode v2_inode inode_of inode_at inode_place bit with_bit parts_of number_in follow pointer_by inside follow_at zone_at block_at content_at
minix_zone_block_9_of_far_in_version_2_with_long_names = refl

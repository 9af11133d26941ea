-- Cases of Minix volumes, written by tools/minix_cases.py: where inodes lie.
use Rattle.std.proofs.Common.{◌≡◌, refl}
use Rattle.lilo_model.specs.Bytes.{number16, number32, is_zero}
use Rattle.lilo_model.specs.MinixLayout.{kind_of, super_of, super_checks, super_in, super_at, v1_inode, v2_inode, inode_of, inode_at, inode_place}
use Rattle.model_cases.specs.MinixFixtures.{volume_v1_short, volume_v1_long, volume_v2_short, volume_v2_long}

-- the place of inode 1 in version 1 with short names
pub minix_place_the_place_of_inode_1_in_version_1_with_short_names : inode_place volume_v1_short.layout 1 ≡ record { sector = 8; at = 0 }
unfolding number16 number32 is_zero kind_of super_of super_checks super_in super_at v1_inode v2_inode inode_of inode_at inode_place
minix_place_the_place_of_inode_1_in_version_1_with_short_names = refl

-- the place of inode 2 in version 1 with short names
pub minix_place_the_place_of_inode_2_in_version_1_with_short_names : inode_place volume_v1_short.layout 2 ≡ record { sector = 8; at = 32 }
unfolding number16 number32 is_zero kind_of super_of super_checks super_in super_at v1_inode v2_inode inode_of inode_at inode_place
minix_place_the_place_of_inode_2_in_version_1_with_short_names = refl

-- the place of inode 8 in version 1 with short names
pub minix_place_the_place_of_inode_8_in_version_1_with_short_names : inode_place volume_v1_short.layout 8 ≡ record { sector = 8; at = 224 }
unfolding number16 number32 is_zero kind_of super_of super_checks super_in super_at v1_inode v2_inode inode_of inode_at inode_place
minix_place_the_place_of_inode_8_in_version_1_with_short_names = refl

-- the place of inode 9 in version 1 with short names
pub minix_place_the_place_of_inode_9_in_version_1_with_short_names : inode_place volume_v1_short.layout 9 ≡ record { sector = 8; at = 256 }
unfolding number16 number32 is_zero kind_of super_of super_checks super_in super_at v1_inode v2_inode inode_of inode_at inode_place
minix_place_the_place_of_inode_9_in_version_1_with_short_names = refl

-- the place of inode 16 in version 1 with short names
pub minix_place_the_place_of_inode_16_in_version_1_with_short_names : inode_place volume_v1_short.layout 16 ≡ record { sector = 8; at = 480 }
unfolding number16 number32 is_zero kind_of super_of super_checks super_in super_at v1_inode v2_inode inode_of inode_at inode_place
minix_place_the_place_of_inode_16_in_version_1_with_short_names = refl

-- the place of inode 17 in version 1 with short names
pub minix_place_the_place_of_inode_17_in_version_1_with_short_names : inode_place volume_v1_short.layout 17 ≡ record { sector = 9; at = 0 }
unfolding number16 number32 is_zero kind_of super_of super_checks super_in super_at v1_inode v2_inode inode_of inode_at inode_place
minix_place_the_place_of_inode_17_in_version_1_with_short_names = refl

-- the place of inode 32 in version 1 with short names
pub minix_place_the_place_of_inode_32_in_version_1_with_short_names : inode_place volume_v1_short.layout 32 ≡ record { sector = 9; at = 480 }
unfolding number16 number32 is_zero kind_of super_of super_checks super_in super_at v1_inode v2_inode inode_of inode_at inode_place
minix_place_the_place_of_inode_32_in_version_1_with_short_names = refl

-- the place of inode 1 in version 1 with long names
pub minix_place_the_place_of_inode_1_in_version_1_with_long_names : inode_place volume_v1_long.layout 1 ≡ record { sector = 8; at = 0 }
unfolding number16 number32 is_zero kind_of super_of super_checks super_in super_at v1_inode v2_inode inode_of inode_at inode_place
minix_place_the_place_of_inode_1_in_version_1_with_long_names = refl

-- the place of inode 2 in version 1 with long names
pub minix_place_the_place_of_inode_2_in_version_1_with_long_names : inode_place volume_v1_long.layout 2 ≡ record { sector = 8; at = 32 }
unfolding number16 number32 is_zero kind_of super_of super_checks super_in super_at v1_inode v2_inode inode_of inode_at inode_place
minix_place_the_place_of_inode_2_in_version_1_with_long_names = refl

-- the place of inode 8 in version 1 with long names
pub minix_place_the_place_of_inode_8_in_version_1_with_long_names : inode_place volume_v1_long.layout 8 ≡ record { sector = 8; at = 224 }
unfolding number16 number32 is_zero kind_of super_of super_checks super_in super_at v1_inode v2_inode inode_of inode_at inode_place
minix_place_the_place_of_inode_8_in_version_1_with_long_names = refl

-- the place of inode 9 in version 1 with long names
pub minix_place_the_place_of_inode_9_in_version_1_with_long_names : inode_place volume_v1_long.layout 9 ≡ record { sector = 8; at = 256 }
unfolding number16 number32 is_zero kind_of super_of super_checks super_in super_at v1_inode v2_inode inode_of inode_at inode_place
minix_place_the_place_of_inode_9_in_version_1_with_long_names = refl

-- the place of inode 16 in version 1 with long names
pub minix_place_the_place_of_inode_16_in_version_1_with_long_names : inode_place volume_v1_long.layout 16 ≡ record { sector = 8; at = 480 }
unfolding number16 number32 is_zero kind_of super_of super_checks super_in super_at v1_inode v2_inode inode_of inode_at inode_place
minix_place_the_place_of_inode_16_in_version_1_with_long_names = refl

-- the place of inode 17 in version 1 with long names
pub minix_place_the_place_of_inode_17_in_version_1_with_long_names : inode_place volume_v1_long.layout 17 ≡ record { sector = 9; at = 0 }
unfolding number16 number32 is_zero kind_of super_of super_checks super_in super_at v1_inode v2_inode inode_of inode_at inode_place
minix_place_the_place_of_inode_17_in_version_1_with_long_names = refl

-- the place of inode 32 in version 1 with long names
pub minix_place_the_place_of_inode_32_in_version_1_with_long_names : inode_place volume_v1_long.layout 32 ≡ record { sector = 9; at = 480 }
unfolding number16 number32 is_zero kind_of super_of super_checks super_in super_at v1_inode v2_inode inode_of inode_at inode_place
minix_place_the_place_of_inode_32_in_version_1_with_long_names = refl

-- the place of inode 1 in version 2 with short names
pub minix_place_the_place_of_inode_1_in_version_2_with_short_names : inode_place volume_v2_short.layout 1 ≡ record { sector = 8; at = 0 }
unfolding number16 number32 is_zero kind_of super_of super_checks super_in super_at v1_inode v2_inode inode_of inode_at inode_place
minix_place_the_place_of_inode_1_in_version_2_with_short_names = refl

-- the place of inode 2 in version 2 with short names
pub minix_place_the_place_of_inode_2_in_version_2_with_short_names : inode_place volume_v2_short.layout 2 ≡ record { sector = 8; at = 64 }
unfolding number16 number32 is_zero kind_of super_of super_checks super_in super_at v1_inode v2_inode inode_of inode_at inode_place
minix_place_the_place_of_inode_2_in_version_2_with_short_names = refl

-- the place of inode 8 in version 2 with short names
pub minix_place_the_place_of_inode_8_in_version_2_with_short_names : inode_place volume_v2_short.layout 8 ≡ record { sector = 8; at = 448 }
unfolding number16 number32 is_zero kind_of super_of super_checks super_in super_at v1_inode v2_inode inode_of inode_at inode_place
minix_place_the_place_of_inode_8_in_version_2_with_short_names = refl

-- the place of inode 9 in version 2 with short names
pub minix_place_the_place_of_inode_9_in_version_2_with_short_names : inode_place volume_v2_short.layout 9 ≡ record { sector = 9; at = 0 }
unfolding number16 number32 is_zero kind_of super_of super_checks super_in super_at v1_inode v2_inode inode_of inode_at inode_place
minix_place_the_place_of_inode_9_in_version_2_with_short_names = refl

-- the place of inode 16 in version 2 with short names
pub minix_place_the_place_of_inode_16_in_version_2_with_short_names : inode_place volume_v2_short.layout 16 ≡ record { sector = 9; at = 448 }
unfolding number16 number32 is_zero kind_of super_of super_checks super_in super_at v1_inode v2_inode inode_of inode_at inode_place
minix_place_the_place_of_inode_16_in_version_2_with_short_names = refl

-- the place of inode 17 in version 2 with short names
pub minix_place_the_place_of_inode_17_in_version_2_with_short_names : inode_place volume_v2_short.layout 17 ≡ record { sector = 10; at = 0 }
unfolding number16 number32 is_zero kind_of super_of super_checks super_in super_at v1_inode v2_inode inode_of inode_at inode_place
minix_place_the_place_of_inode_17_in_version_2_with_short_names = refl

-- the place of inode 32 in version 2 with short names
pub minix_place_the_place_of_inode_32_in_version_2_with_short_names : inode_place volume_v2_short.layout 32 ≡ record { sector = 11; at = 448 }
unfolding number16 number32 is_zero kind_of super_of super_checks super_in super_at v1_inode v2_inode inode_of inode_at inode_place
minix_place_the_place_of_inode_32_in_version_2_with_short_names = refl

-- the place of inode 1 in version 2 with long names
pub minix_place_the_place_of_inode_1_in_version_2_with_long_names : inode_place volume_v2_long.layout 1 ≡ record { sector = 8; at = 0 }
unfolding number16 number32 is_zero kind_of super_of super_checks super_in super_at v1_inode v2_inode inode_of inode_at inode_place
minix_place_the_place_of_inode_1_in_version_2_with_long_names = refl

-- the place of inode 2 in version 2 with long names
pub minix_place_the_place_of_inode_2_in_version_2_with_long_names : inode_place volume_v2_long.layout 2 ≡ record { sector = 8; at = 64 }
unfolding number16 number32 is_zero kind_of super_of super_checks super_in super_at v1_inode v2_inode inode_of inode_at inode_place
minix_place_the_place_of_inode_2_in_version_2_with_long_names = refl

-- the place of inode 8 in version 2 with long names
pub minix_place_the_place_of_inode_8_in_version_2_with_long_names : inode_place volume_v2_long.layout 8 ≡ record { sector = 8; at = 448 }
unfolding number16 number32 is_zero kind_of super_of super_checks super_in super_at v1_inode v2_inode inode_of inode_at inode_place
minix_place_the_place_of_inode_8_in_version_2_with_long_names = refl

-- the place of inode 9 in version 2 with long names
pub minix_place_the_place_of_inode_9_in_version_2_with_long_names : inode_place volume_v2_long.layout 9 ≡ record { sector = 9; at = 0 }
unfolding number16 number32 is_zero kind_of super_of super_checks super_in super_at v1_inode v2_inode inode_of inode_at inode_place
minix_place_the_place_of_inode_9_in_version_2_with_long_names = refl

-- the place of inode 16 in version 2 with long names
pub minix_place_the_place_of_inode_16_in_version_2_with_long_names : inode_place volume_v2_long.layout 16 ≡ record { sector = 9; at = 448 }
unfolding number16 number32 is_zero kind_of super_of super_checks super_in super_at v1_inode v2_inode inode_of inode_at inode_place
minix_place_the_place_of_inode_16_in_version_2_with_long_names = refl

-- the place of inode 17 in version 2 with long names
pub minix_place_the_place_of_inode_17_in_version_2_with_long_names : inode_place volume_v2_long.layout 17 ≡ record { sector = 10; at = 0 }
unfolding number16 number32 is_zero kind_of super_of super_checks super_in super_at v1_inode v2_inode inode_of inode_at inode_place
minix_place_the_place_of_inode_17_in_version_2_with_long_names = refl

-- the place of inode 32 in version 2 with long names
pub minix_place_the_place_of_inode_32_in_version_2_with_long_names : inode_place volume_v2_long.layout 32 ≡ record { sector = 11; at = 448 }
unfolding number16 number32 is_zero kind_of super_of super_checks super_in super_at v1_inode v2_inode inode_of inode_at inode_place
minix_place_the_place_of_inode_32_in_version_2_with_long_names = refl

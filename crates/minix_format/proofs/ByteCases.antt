-- Bytes of empty volumes that mkfs.minix of util-linux made, of all four kinds.
use Rattle.std.proofs.Common.{◌≡◌, ℕ, List, [], ◌∷◌, ◌++◌, replicate, refl}
use Rattle.lilo_model.specs.MinixLayout.{V1Short, V1Long, V2Short, V2Long, with_counts, super_bytes, v1_inode_bytes, v2_inode_bytes, inode_bytes}
use Rattle.ldisk_model.specs.MinixFormat.{new_layout, map_byte, map_sector, formatted_sector}

-- ---- version 1 with short names, 4096 sectors, 64 inodes

abbrev short-1 : ℕ → List ℕ
short-1 = formatted_sector (new_layout V1Short 4096 64) 1795863907

short-1-2 : short-1 2 ≡ (64 ∷ 0 ∷ 0 ∷ 8 ∷ 1 ∷ 0 ∷ 1 ∷ 0 ∷ 6 ∷ 0 ∷ 0 ∷ 0 ∷ 0 ∷ 28 ∷ 8 ∷ 16 ∷ 127 ∷ 19 ∷ 1 ∷ []) ++ replicate 493 0
unfolding formatted_sector new_layout map_sector map_byte super_bytes with_counts inode_bytes v1_inode_bytes v2_inode_bytes
short-1-2 = refl

short-1-3 : short-1 3 ≡ replicate 512 0
unfolding formatted_sector new_layout map_sector map_byte super_bytes with_counts inode_bytes v1_inode_bytes v2_inode_bytes
short-1-3 = refl

short-1-4 : short-1 4 ≡ (3 ∷ []) ++ replicate 7 0 ++ (254 ∷ []) ++ replicate 503 255
unfolding formatted_sector new_layout map_sector map_byte super_bytes with_counts inode_bytes v1_inode_bytes v2_inode_bytes
short-1-4 = refl

short-1-5 : short-1 5 ≡ replicate 512 255
unfolding formatted_sector new_layout map_sector map_byte super_bytes with_counts inode_bytes v1_inode_bytes v2_inode_bytes
short-1-5 = refl

short-1-6 : short-1 6 ≡ (3 ∷ []) ++ replicate 254 0 ++ (248 ∷ []) ++ replicate 256 255
unfolding formatted_sector new_layout map_sector map_byte super_bytes with_counts inode_bytes v1_inode_bytes v2_inode_bytes
short-1-6 = refl

short-1-7 : short-1 7 ≡ replicate 512 255
unfolding formatted_sector new_layout map_sector map_byte super_bytes with_counts inode_bytes v1_inode_bytes v2_inode_bytes
short-1-7 = refl

short-1-8 : short-1 8 ≡ (237 ∷ 65 ∷ 0 ∷ 0 ∷ 32 ∷ 0 ∷ 0 ∷ 0 ∷ 99 ∷ 181 ∷ 10 ∷ 107 ∷ 0 ∷ 2 ∷ 6 ∷ []) ++ replicate 497 0
unfolding formatted_sector new_layout map_sector map_byte super_bytes with_counts inode_bytes v1_inode_bytes v2_inode_bytes
short-1-8 = refl

short-1-9 : short-1 9 ≡ replicate 512 0
unfolding formatted_sector new_layout map_sector map_byte super_bytes with_counts inode_bytes v1_inode_bytes v2_inode_bytes
short-1-9 = refl

short-1-10 : short-1 10 ≡ replicate 512 0
unfolding formatted_sector new_layout map_sector map_byte super_bytes with_counts inode_bytes v1_inode_bytes v2_inode_bytes
short-1-10 = refl

short-1-11 : short-1 11 ≡ replicate 512 0
unfolding formatted_sector new_layout map_sector map_byte super_bytes with_counts inode_bytes v1_inode_bytes v2_inode_bytes
short-1-11 = refl

short-1-12 : short-1 12 ≡ (1 ∷ 0 ∷ 46 ∷ []) ++ replicate 13 0 ++ (1 ∷ 0 ∷ 46 ∷ 46 ∷ []) ++ replicate 492 0
unfolding formatted_sector new_layout map_sector map_byte super_bytes with_counts inode_bytes v1_inode_bytes v2_inode_bytes
short-1-12 = refl

short-1-13 : short-1 13 ≡ replicate 512 0
unfolding formatted_sector new_layout map_sector map_byte super_bytes with_counts inode_bytes v1_inode_bytes v2_inode_bytes
short-1-13 = refl

-- ---- version 1 with long names, 200000 sectors, 8192 inodes

abbrev long-1 : ℕ → List ℕ
long-1 = formatted_sector (new_layout V1Long 200000 8192) 1795863907

long-1-2 : long-1 2 ≡ (0 ∷ 32 ∷ 255 ∷ 255 ∷ 2 ∷ 0 ∷ 8 ∷ 0 ∷ 12 ∷ 1 ∷ 0 ∷ 0 ∷ 0 ∷ 28 ∷ 8 ∷ 16 ∷ 143 ∷ 19 ∷ 1 ∷ []) ++ replicate 493 0
unfolding formatted_sector new_layout map_sector map_byte super_bytes with_counts inode_bytes v1_inode_bytes v2_inode_bytes
long-1-2 = refl

long-1-4 : long-1 4 ≡ (3 ∷ []) ++ replicate 511 0
unfolding formatted_sector new_layout map_sector map_byte super_bytes with_counts inode_bytes v1_inode_bytes v2_inode_bytes
long-1-4 = refl

long-1-5 : long-1 5 ≡ replicate 512 0
unfolding formatted_sector new_layout map_sector map_byte super_bytes with_counts inode_bytes v1_inode_bytes v2_inode_bytes
long-1-5 = refl

long-1-6 : long-1 6 ≡ (254 ∷ []) ++ replicate 511 255
unfolding formatted_sector new_layout map_sector map_byte super_bytes with_counts inode_bytes v1_inode_bytes v2_inode_bytes
long-1-6 = refl

long-1-7 : long-1 7 ≡ replicate 512 255
unfolding formatted_sector new_layout map_sector map_byte super_bytes with_counts inode_bytes v1_inode_bytes v2_inode_bytes
long-1-7 = refl

long-1-8 : long-1 8 ≡ (3 ∷ []) ++ replicate 511 0
unfolding formatted_sector new_layout map_sector map_byte super_bytes with_counts inode_bytes v1_inode_bytes v2_inode_bytes
long-1-8 = refl

long-1-9 : long-1 9 ≡ replicate 512 0
unfolding formatted_sector new_layout map_sector map_byte super_bytes with_counts inode_bytes v1_inode_bytes v2_inode_bytes
long-1-9 = refl

long-1-22 : long-1 22 ≡ replicate 512 0
unfolding formatted_sector new_layout map_sector map_byte super_bytes with_counts inode_bytes v1_inode_bytes v2_inode_bytes
long-1-22 = refl

long-1-23 : long-1 23 ≡ replicate 478 0 ++ (240 ∷ []) ++ replicate 33 255
unfolding formatted_sector new_layout map_sector map_byte super_bytes with_counts inode_bytes v1_inode_bytes v2_inode_bytes
long-1-23 = refl

long-1-24 : long-1 24 ≡ (237 ∷ 65 ∷ 0 ∷ 0 ∷ 64 ∷ 0 ∷ 0 ∷ 0 ∷ 99 ∷ 181 ∷ 10 ∷ 107 ∷ 0 ∷ 2 ∷ 12 ∷ 1 ∷ []) ++ replicate 496 0
unfolding formatted_sector new_layout map_sector map_byte super_bytes with_counts inode_bytes v1_inode_bytes v2_inode_bytes
long-1-24 = refl

long-1-25 : long-1 25 ≡ replicate 512 0
unfolding formatted_sector new_layout map_sector map_byte super_bytes with_counts inode_bytes v1_inode_bytes v2_inode_bytes
long-1-25 = refl

long-1-536 : long-1 536 ≡ (1 ∷ 0 ∷ 46 ∷ []) ++ replicate 29 0 ++ (1 ∷ 0 ∷ 46 ∷ 46 ∷ []) ++ replicate 476 0
unfolding formatted_sector new_layout map_sector map_byte super_bytes with_counts inode_bytes v1_inode_bytes v2_inode_bytes
long-1-536 = refl

long-1-537 : long-1 537 ≡ replicate 512 0
unfolding formatted_sector new_layout map_sector map_byte super_bytes with_counts inode_bytes v1_inode_bytes v2_inode_bytes
long-1-537 = refl

long-1-538 : long-1 538 ≡ replicate 512 0
unfolding formatted_sector new_layout map_sector map_byte super_bytes with_counts inode_bytes v1_inode_bytes v2_inode_bytes
long-1-538 = refl

long-1-539 : long-1 539 ≡ replicate 512 0
unfolding formatted_sector new_layout map_sector map_byte super_bytes with_counts inode_bytes v1_inode_bytes v2_inode_bytes
long-1-539 = refl

-- ---- version 2 with short names, 40001 sectors, 16 inodes

abbrev short-2 : ℕ → List ℕ
short-2 = formatted_sector (new_layout V2Short 40001 16) 1795863907

short-2-2 : short-2 2 ≡ (16 ∷ 0 ∷ 0 ∷ 0 ∷ 1 ∷ 0 ∷ 3 ∷ 0 ∷ 7 ∷ 0 ∷ 0 ∷ 0 ∷ 255 ∷ 255 ∷ 255 ∷ 127 ∷ 104 ∷ 36 ∷ 1 ∷ 0 ∷ 32 ∷ 78 ∷ []) ++ replicate 490 0
unfolding formatted_sector new_layout map_sector map_byte super_bytes with_counts inode_bytes v1_inode_bytes v2_inode_bytes
short-2-2 = refl

short-2-3 : short-2 3 ≡ replicate 512 0
unfolding formatted_sector new_layout map_sector map_byte super_bytes with_counts inode_bytes v1_inode_bytes v2_inode_bytes
short-2-3 = refl

short-2-4 : short-2 4 ≡ (3 ∷ 0 ∷ 254 ∷ []) ++ replicate 509 255
unfolding formatted_sector new_layout map_sector map_byte super_bytes with_counts inode_bytes v1_inode_bytes v2_inode_bytes
short-2-4 = refl

short-2-5 : short-2 5 ≡ replicate 512 255
unfolding formatted_sector new_layout map_sector map_byte super_bytes with_counts inode_bytes v1_inode_bytes v2_inode_bytes
short-2-5 = refl

short-2-6 : short-2 6 ≡ (3 ∷ []) ++ replicate 511 0
unfolding formatted_sector new_layout map_sector map_byte super_bytes with_counts inode_bytes v1_inode_bytes v2_inode_bytes
short-2-6 = refl

short-2-7 : short-2 7 ≡ replicate 512 0
unfolding formatted_sector new_layout map_sector map_byte super_bytes with_counts inode_bytes v1_inode_bytes v2_inode_bytes
short-2-7 = refl

short-2-8 : short-2 8 ≡ replicate 512 0
unfolding formatted_sector new_layout map_sector map_byte super_bytes with_counts inode_bytes v1_inode_bytes v2_inode_bytes
short-2-8 = refl

short-2-9 : short-2 9 ≡ replicate 512 0
unfolding formatted_sector new_layout map_sector map_byte super_bytes with_counts inode_bytes v1_inode_bytes v2_inode_bytes
short-2-9 = refl

short-2-10 : short-2 10 ≡ replicate 451 0 ++ (252 ∷ []) ++ replicate 60 255
unfolding formatted_sector new_layout map_sector map_byte super_bytes with_counts inode_bytes v1_inode_bytes v2_inode_bytes
short-2-10 = refl

short-2-11 : short-2 11 ≡ replicate 512 255
unfolding formatted_sector new_layout map_sector map_byte super_bytes with_counts inode_bytes v1_inode_bytes v2_inode_bytes
short-2-11 = refl

short-2-12 : short-2 12 ≡ (237 ∷ 65 ∷ 2 ∷ 0 ∷ 0 ∷ 0 ∷ 0 ∷ 0 ∷ 32 ∷ 0 ∷ 0 ∷ 0 ∷ 99 ∷ 181 ∷ 10 ∷ 107 ∷ 99 ∷ 181 ∷ 10 ∷ 107 ∷ 99 ∷ 181 ∷ 10 ∷ 107 ∷ 7 ∷ []) ++ replicate 487 0
unfolding formatted_sector new_layout map_sector map_byte super_bytes with_counts inode_bytes v1_inode_bytes v2_inode_bytes
short-2-12 = refl

short-2-13 : short-2 13 ≡ replicate 512 0
unfolding formatted_sector new_layout map_sector map_byte super_bytes with_counts inode_bytes v1_inode_bytes v2_inode_bytes
short-2-13 = refl

short-2-14 : short-2 14 ≡ (1 ∷ 0 ∷ 46 ∷ []) ++ replicate 13 0 ++ (1 ∷ 0 ∷ 46 ∷ 46 ∷ []) ++ replicate 492 0
unfolding formatted_sector new_layout map_sector map_byte super_bytes with_counts inode_bytes v1_inode_bytes v2_inode_bytes
short-2-14 = refl

short-2-15 : short-2 15 ≡ replicate 512 0
unfolding formatted_sector new_layout map_sector map_byte super_bytes with_counts inode_bytes v1_inode_bytes v2_inode_bytes
short-2-15 = refl

-- ---- version 2 with long names, 20000 sectors, 4000 inodes

abbrev long-2 : ℕ → List ℕ
long-2 = formatted_sector (new_layout V2Long 20000 4000) 1795863908

long-2-2 : long-2 2 ≡ (160 ∷ 15 ∷ 0 ∷ 0 ∷ 1 ∷ 0 ∷ 2 ∷ 0 ∷ 255 ∷ 0 ∷ 0 ∷ 0 ∷ 255 ∷ 255 ∷ 255 ∷ 127 ∷ 120 ∷ 36 ∷ 1 ∷ 0 ∷ 16 ∷ 39 ∷ []) ++ replicate 490 0
unfolding formatted_sector new_layout map_sector map_byte super_bytes with_counts inode_bytes v1_inode_bytes v2_inode_bytes
long-2-2 = refl

long-2-4 : long-2 4 ≡ (3 ∷ []) ++ replicate 499 0 ++ (254 ∷ []) ++ replicate 11 255
unfolding formatted_sector new_layout map_sector map_byte super_bytes with_counts inode_bytes v1_inode_bytes v2_inode_bytes
long-2-4 = refl

long-2-5 : long-2 5 ≡ replicate 512 255
unfolding formatted_sector new_layout map_sector map_byte super_bytes with_counts inode_bytes v1_inode_bytes v2_inode_bytes
long-2-5 = refl

long-2-6 : long-2 6 ≡ (3 ∷ []) ++ replicate 511 0
unfolding formatted_sector new_layout map_sector map_byte super_bytes with_counts inode_bytes v1_inode_bytes v2_inode_bytes
long-2-6 = refl

long-2-7 : long-2 7 ≡ replicate 512 0
unfolding formatted_sector new_layout map_sector map_byte super_bytes with_counts inode_bytes v1_inode_bytes v2_inode_bytes
long-2-7 = refl

long-2-8 : long-2 8 ≡ replicate 194 0 ++ (252 ∷ []) ++ replicate 317 255
unfolding formatted_sector new_layout map_sector map_byte super_bytes with_counts inode_bytes v1_inode_bytes v2_inode_bytes
long-2-8 = refl

long-2-508 : long-2 508 ≡ replicate 512 0
unfolding formatted_sector new_layout map_sector map_byte super_bytes with_counts inode_bytes v1_inode_bytes v2_inode_bytes
long-2-508 = refl

long-2-509 : long-2 509 ≡ replicate 512 0
unfolding formatted_sector new_layout map_sector map_byte super_bytes with_counts inode_bytes v1_inode_bytes v2_inode_bytes
long-2-509 = refl

long-2-510 : long-2 510 ≡ (1 ∷ 0 ∷ 46 ∷ []) ++ replicate 29 0 ++ (1 ∷ 0 ∷ 46 ∷ 46 ∷ []) ++ replicate 476 0
unfolding formatted_sector new_layout map_sector map_byte super_bytes with_counts inode_bytes v1_inode_bytes v2_inode_bytes
long-2-510 = refl

long-2-511 : long-2 511 ≡ replicate 512 0
unfolding formatted_sector new_layout map_sector map_byte super_bytes with_counts inode_bytes v1_inode_bytes v2_inode_bytes
long-2-511 = refl

long-2-512 : long-2 512 ≡ replicate 512 0
unfolding formatted_sector new_layout map_sector map_byte super_bytes with_counts inode_bytes v1_inode_bytes v2_inode_bytes
long-2-512 = refl

long-2-513 : long-2 513 ≡ replicate 512 0
unfolding formatted_sector new_layout map_sector map_byte super_bytes with_counts inode_bytes v1_inode_bytes v2_inode_bytes
long-2-513 = refl

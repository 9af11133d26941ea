-- Volumes that many cases begin with, written by tools/minix_cases.py.
use Rattle.std.specs.Prelude.{[], ◌∷◌, ◌++◌, List, codes, replicate}
use Rattle.lilo_model.specs.MinixLayout.{V1Short, V1Long, V2Short, V2Long}
use Rattle.lilo_model.specs.MinixParts.{Volume}
use Rattle.model_cases.specs.Sparse.{Patch, patch_at, hex}

-- a volume of version 1 with short names
abbrev pub minix_v1_short : List Patch
minix_v1_short =
    patch_at 0 2 0 (hex 19 0x200040000100010005000000001c08107f1301) ∷
    patch_at 0 4 0 (hex 5 0xff3f0000fe ++ replicate 507 255) ∷ patch_at 0 5 0 (replicate 512 255) ∷
    patch_at 0 6 0 (hex 8 0xff7f0000000000f0 ++ replicate 504 255) ∷ patch_at 0 7 0 (replicate 512 255) ∷
    patch_at 0 8 0 (hex 5 0xed41000070) ∷ patch_at 0 8 13 (hex 2 0x0305) ∷ patch_at 0 8 32 (hex 5 0xed41000050) ∷
    patch_at 0 8 45 (hex 2 0x0306) ∷ patch_at 0 8 64 (hex 5 0xed41000060) ∷ patch_at 0 8 77 (hex 2 0x0207) ∷
    patch_at 0 8 96 (hex 5 0xa481000006) ∷ patch_at 0 8 109 (hex 2 0x0108) ∷ patch_at 0 8 128 (hex 2 0xa481) ∷
    patch_at 0 8 141 (hex 1 0x01) ∷ patch_at 0 8 160 (hex 6 0xa48100000404) ∷ patch_at 0 8 173 (hex 4 0x01000009) ∷
    patch_at 0 8 192 (hex 5 0xffa100000c) ∷ patch_at 0 8 205 (hex 2 0x010a) ∷ patch_at 0 8 224 (hex 5 0xffa1000004) ∷
    patch_at 0 8 237 (hex 2 0x010b) ∷ patch_at 0 8 256 (hex 5 0xffa1000007) ∷ patch_at 0 8 269 (hex 2 0x010c) ∷
    patch_at 0 8 288 (hex 5 0xffa1000004) ∷ patch_at 0 8 301 (hex 2 0x010d) ∷ patch_at 0 8 320 (hex 5 0xffa1000005) ∷
    patch_at 0 8 333 (hex 2 0x010e) ∷ patch_at 0 8 352 (hex 5 0xffa1000004) ∷ patch_at 0 8 365 (hex 2 0x010f) ∷
    patch_at 0 8 384 (hex 6 0xa48100000220) ∷ patch_at 0 8 397 (hex 1 0x01) ∷ patch_at 0 8 412 (hex 1 0x12) ∷
    patch_at 0 10 0 (hex 3 0x01002e) ∷ patch_at 0 10 16 (hex 4 0x01002e2e) ∷ patch_at 0 10 32 (hex 6 0x0200626f6f74) ∷
    patch_at 0 10 48 (hex 6 0x0600686f6c65) ∷ patch_at 0 10 64 (hex 4 0x07006c61) ∷
    patch_at 0 10 80 (hex 4 0x08006c72) ∷ patch_at 0 10 96 (hex 5 0x0d00666172) ∷ patch_at 0 12 0 (hex 3 0x02002e) ∷
    patch_at 0 12 16 (hex 4 0x01002e2e) ∷ patch_at 0 12 32 (hex 5 0x03006f6c64) ∷
    patch_at 0 12 48 (hex 8 0x0400626f6f742e62) ∷ patch_at 0 12 64 (hex 4 0x09007570) ∷
    patch_at 0 14 0 (hex 3 0x03002e) ∷ patch_at 0 14 16 (hex 4 0x02002e2e) ∷ patch_at 0 14 32 (hex 3 0x05006b) ∷
    patch_at 0 14 48 (hex 6 0x0a0073656c66) ∷ patch_at 0 14 64 (hex 4 0x0b006331) ∷
    patch_at 0 14 80 (hex 4 0x0c006332) ∷ patch_at 0 16 0 (codes "LOADER") ∷ patch_at 0 18 0 (codes "TAIL") ∷
    patch_at 0 20 0 (codes "/boot/boot.b") ∷ patch_at 0 22 0 (codes "boot") ∷ patch_at 0 24 0 (codes "../hole") ∷
    patch_at 0 26 0 (codes "self") ∷ patch_at 0 28 0 (codes "../up") ∷ patch_at 0 30 0 (codes "c1//") ∷
    patch_at 0 32 0 (codes "AB") ∷ patch_at 0 34 0 (codes "CD") ∷ patch_at 0 36 0 (hex 3 0x100011) ∷ []

-- where it lies, and its superblock
abbrev pub volume_v1_short : Volume
volume_v1_short = record {
  span = record { disk = 0; start = 0; count = 128 };
  layout = record { kind = V1Short; inodes = 32; zones = 64; imap = 1; zmap = 1; first = 5; max_size = 268966912; state = 1 };
}

-- a volume of version 1 with long names
abbrev pub minix_v1_long : List Patch
minix_v1_long =
    patch_at 0 2 0 (hex 19 0x200040000100010005000000001c08108f1301) ∷
    patch_at 0 4 0 (hex 5 0xff3f0000fe ++ replicate 507 255) ∷ patch_at 0 5 0 (replicate 512 255) ∷
    patch_at 0 6 0 (hex 8 0xff7f0000000000f0 ++ replicate 504 255) ∷ patch_at 0 7 0 (replicate 512 255) ∷
    patch_at 0 8 0 (hex 5 0xed410000e0) ∷ patch_at 0 8 13 (hex 2 0x0305) ∷ patch_at 0 8 32 (hex 5 0xed410000a0) ∷
    patch_at 0 8 45 (hex 2 0x0306) ∷ patch_at 0 8 64 (hex 5 0xed410000c0) ∷ patch_at 0 8 77 (hex 2 0x0207) ∷
    patch_at 0 8 96 (hex 5 0xa481000006) ∷ patch_at 0 8 109 (hex 2 0x0108) ∷ patch_at 0 8 128 (hex 2 0xa481) ∷
    patch_at 0 8 141 (hex 1 0x01) ∷ patch_at 0 8 160 (hex 6 0xa48100000404) ∷ patch_at 0 8 173 (hex 4 0x01000009) ∷
    patch_at 0 8 192 (hex 5 0xffa100000c) ∷ patch_at 0 8 205 (hex 2 0x010a) ∷ patch_at 0 8 224 (hex 5 0xffa1000004) ∷
    patch_at 0 8 237 (hex 2 0x010b) ∷ patch_at 0 8 256 (hex 5 0xffa1000007) ∷ patch_at 0 8 269 (hex 2 0x010c) ∷
    patch_at 0 8 288 (hex 5 0xffa1000004) ∷ patch_at 0 8 301 (hex 2 0x010d) ∷ patch_at 0 8 320 (hex 5 0xffa1000005) ∷
    patch_at 0 8 333 (hex 2 0x010e) ∷ patch_at 0 8 352 (hex 5 0xffa1000004) ∷ patch_at 0 8 365 (hex 2 0x010f) ∷
    patch_at 0 8 384 (hex 6 0xa48100000220) ∷ patch_at 0 8 397 (hex 1 0x01) ∷ patch_at 0 8 412 (hex 1 0x12) ∷
    patch_at 0 10 0 (hex 3 0x01002e) ∷ patch_at 0 10 32 (hex 4 0x01002e2e) ∷ patch_at 0 10 64 (hex 6 0x0200626f6f74) ∷
    patch_at 0 10 96 (hex 6 0x0600686f6c65) ∷ patch_at 0 10 128 (hex 4 0x07006c61) ∷
    patch_at 0 10 160 (hex 4 0x08006c72) ∷ patch_at 0 10 192 (hex 5 0x0d00666172) ∷ patch_at 0 12 0 (hex 3 0x02002e) ∷
    patch_at 0 12 32 (hex 4 0x01002e2e) ∷ patch_at 0 12 64 (hex 5 0x03006f6c64) ∷
    patch_at 0 12 96 (hex 8 0x0400626f6f742e62) ∷ patch_at 0 12 128 (hex 4 0x09007570) ∷
    patch_at 0 14 0 (hex 3 0x03002e) ∷ patch_at 0 14 32 (hex 4 0x02002e2e) ∷ patch_at 0 14 64 (hex 3 0x05006b) ∷
    patch_at 0 14 96 (hex 6 0x0a0073656c66) ∷ patch_at 0 14 128 (hex 4 0x0b006331) ∷
    patch_at 0 14 160 (hex 4 0x0c006332) ∷ patch_at 0 16 0 (codes "LOADER") ∷ patch_at 0 18 0 (codes "TAIL") ∷
    patch_at 0 20 0 (codes "/boot/boot.b") ∷ patch_at 0 22 0 (codes "boot") ∷ patch_at 0 24 0 (codes "../hole") ∷
    patch_at 0 26 0 (codes "self") ∷ patch_at 0 28 0 (codes "../up") ∷ patch_at 0 30 0 (codes "c1//") ∷
    patch_at 0 32 0 (codes "AB") ∷ patch_at 0 34 0 (codes "CD") ∷ patch_at 0 36 0 (hex 3 0x100011) ∷ []

-- where it lies, and its superblock
abbrev pub volume_v1_long : Volume
volume_v1_long = record {
  span = record { disk = 0; start = 0; count = 128 };
  layout = record { kind = V1Long; inodes = 32; zones = 64; imap = 1; zmap = 1; first = 5; max_size = 268966912; state = 1 };
}

-- a volume of version 2 with short names
abbrev pub minix_v2_short : List Patch
minix_v2_short =
    patch_at 0 2 0 (hex 21 0x200000000100010006000000ffffff7f6824010040) ∷
    patch_at 0 4 0 (hex 5 0xff3f0000fe ++ replicate 507 255) ∷ patch_at 0 5 0 (replicate 512 255) ∷
    patch_at 0 6 0 (hex 8 0xff7f0000000000f8 ++ replicate 504 255) ∷ patch_at 0 7 0 (replicate 512 255) ∷
    patch_at 0 8 0 (hex 9 0xed4103000000000070) ∷ patch_at 0 8 24 (hex 1 0x06) ∷
    patch_at 0 8 64 (hex 9 0xed4103000000000050) ∷ patch_at 0 8 88 (hex 1 0x07) ∷
    patch_at 0 8 128 (hex 9 0xed4102000000000060) ∷ patch_at 0 8 152 (hex 1 0x08) ∷
    patch_at 0 8 192 (hex 9 0xa48101000000000006) ∷ patch_at 0 8 216 (hex 1 0x09) ∷ patch_at 0 8 256 (hex 3 0xa48101) ∷
    patch_at 0 8 320 (hex 10 0xa4810100000000000404) ∷ patch_at 0 8 348 (codes "\n") ∷
    patch_at 0 8 384 (hex 9 0xffa10100000000000c) ∷ patch_at 0 8 408 (hex 1 0x0b) ∷
    patch_at 0 8 448 (hex 9 0xffa101000000000004) ∷ patch_at 0 8 472 (hex 1 0x0c) ∷
    patch_at 0 9 0 (hex 9 0xffa101000000000007) ∷ patch_at 0 9 24 (hex 1 0x0d) ∷
    patch_at 0 9 64 (hex 9 0xffa101000000000004) ∷ patch_at 0 9 88 (hex 1 0x0e) ∷
    patch_at 0 9 128 (hex 9 0xffa101000000000005) ∷ patch_at 0 9 152 (hex 1 0x0f) ∷
    patch_at 0 9 192 (hex 9 0xffa101000000000004) ∷ patch_at 0 9 216 (hex 1 0x10) ∷
    patch_at 0 9 256 (hex 10 0xa4810100000000000220) ∷ patch_at 0 9 308 (hex 1 0x13) ∷
    patch_at 0 12 0 (hex 3 0x01002e) ∷ patch_at 0 12 16 (hex 4 0x01002e2e) ∷ patch_at 0 12 32 (hex 6 0x0200626f6f74) ∷
    patch_at 0 12 48 (hex 6 0x0600686f6c65) ∷ patch_at 0 12 64 (hex 4 0x07006c61) ∷
    patch_at 0 12 80 (hex 4 0x08006c72) ∷ patch_at 0 12 96 (hex 5 0x0d00666172) ∷ patch_at 0 14 0 (hex 3 0x02002e) ∷
    patch_at 0 14 16 (hex 4 0x01002e2e) ∷ patch_at 0 14 32 (hex 5 0x03006f6c64) ∷
    patch_at 0 14 48 (hex 8 0x0400626f6f742e62) ∷ patch_at 0 14 64 (hex 4 0x09007570) ∷
    patch_at 0 16 0 (hex 3 0x03002e) ∷ patch_at 0 16 16 (hex 4 0x02002e2e) ∷ patch_at 0 16 32 (hex 3 0x05006b) ∷
    patch_at 0 16 48 (hex 6 0x0a0073656c66) ∷ patch_at 0 16 64 (hex 4 0x0b006331) ∷
    patch_at 0 16 80 (hex 4 0x0c006332) ∷ patch_at 0 18 0 (codes "LOADER") ∷ patch_at 0 20 0 (codes "TAIL") ∷
    patch_at 0 22 0 (codes "/boot/boot.b") ∷ patch_at 0 24 0 (codes "boot") ∷ patch_at 0 26 0 (codes "../hole") ∷
    patch_at 0 28 0 (codes "self") ∷ patch_at 0 30 0 (codes "../up") ∷ patch_at 0 32 0 (codes "c1//") ∷
    patch_at 0 34 0 (codes "AB") ∷ patch_at 0 36 0 (codes "CD") ∷ patch_at 0 38 0 (hex 5 0x1100000012) ∷ []

-- where it lies, and its superblock
abbrev pub volume_v2_short : Volume
volume_v2_short = record {
  span = record { disk = 0; start = 0; count = 128 };
  layout = record { kind = V2Short; inodes = 32; zones = 64; imap = 1; zmap = 1; first = 6; max_size = 2147483647; state = 1 };
}

-- a volume of version 2 with long names
abbrev pub minix_v2_long : List Patch
minix_v2_long =
    patch_at 0 5 0 (hex 21 0x200000000100010006000000ffffff7f7824010040) ∷
    patch_at 0 7 0 (hex 5 0xff3f0000fe ++ replicate 507 255) ∷ patch_at 0 8 0 (replicate 512 255) ∷
    patch_at 0 9 0 (hex 8 0xff7f0000000000f8 ++ replicate 504 255) ∷ patch_at 0 10 0 (replicate 512 255) ∷
    patch_at 0 11 0 (hex 9 0xed41030000000000e0) ∷ patch_at 0 11 24 (hex 1 0x06) ∷
    patch_at 0 11 64 (hex 9 0xed41030000000000a0) ∷ patch_at 0 11 88 (hex 1 0x07) ∷
    patch_at 0 11 128 (hex 9 0xed41020000000000c0) ∷ patch_at 0 11 152 (hex 1 0x08) ∷
    patch_at 0 11 192 (hex 9 0xa48101000000000006) ∷ patch_at 0 11 216 (hex 1 0x09) ∷
    patch_at 0 11 256 (hex 3 0xa48101) ∷ patch_at 0 11 320 (hex 10 0xa4810100000000000404) ∷
    patch_at 0 11 348 (codes "\n") ∷ patch_at 0 11 384 (hex 9 0xffa10100000000000c) ∷ patch_at 0 11 408 (hex 1 0x0b) ∷
    patch_at 0 11 448 (hex 9 0xffa101000000000004) ∷ patch_at 0 11 472 (hex 1 0x0c) ∷
    patch_at 0 12 0 (hex 9 0xffa101000000000007) ∷ patch_at 0 12 24 (hex 1 0x0d) ∷
    patch_at 0 12 64 (hex 9 0xffa101000000000004) ∷ patch_at 0 12 88 (hex 1 0x0e) ∷
    patch_at 0 12 128 (hex 9 0xffa101000000000005) ∷ patch_at 0 12 152 (hex 1 0x0f) ∷
    patch_at 0 12 192 (hex 9 0xffa101000000000004) ∷ patch_at 0 12 216 (hex 1 0x10) ∷
    patch_at 0 12 256 (hex 10 0xa4810100000000000220) ∷ patch_at 0 12 308 (hex 1 0x13) ∷
    patch_at 0 15 0 (hex 3 0x01002e) ∷ patch_at 0 15 32 (hex 4 0x01002e2e) ∷ patch_at 0 15 64 (hex 6 0x0200626f6f74) ∷
    patch_at 0 15 96 (hex 6 0x0600686f6c65) ∷ patch_at 0 15 128 (hex 4 0x07006c61) ∷
    patch_at 0 15 160 (hex 4 0x08006c72) ∷ patch_at 0 15 192 (hex 5 0x0d00666172) ∷ patch_at 0 17 0 (hex 3 0x02002e) ∷
    patch_at 0 17 32 (hex 4 0x01002e2e) ∷ patch_at 0 17 64 (hex 5 0x03006f6c64) ∷
    patch_at 0 17 96 (hex 8 0x0400626f6f742e62) ∷ patch_at 0 17 128 (hex 4 0x09007570) ∷
    patch_at 0 19 0 (hex 3 0x03002e) ∷ patch_at 0 19 32 (hex 4 0x02002e2e) ∷ patch_at 0 19 64 (hex 3 0x05006b) ∷
    patch_at 0 19 96 (hex 6 0x0a0073656c66) ∷ patch_at 0 19 128 (hex 4 0x0b006331) ∷
    patch_at 0 19 160 (hex 4 0x0c006332) ∷ patch_at 0 21 0 (codes "LOADER") ∷ patch_at 0 23 0 (codes "TAIL") ∷
    patch_at 0 25 0 (codes "/boot/boot.b") ∷ patch_at 0 27 0 (codes "boot") ∷ patch_at 0 29 0 (codes "../hole") ∷
    patch_at 0 31 0 (codes "self") ∷ patch_at 0 33 0 (codes "../up") ∷ patch_at 0 35 0 (codes "c1//") ∷
    patch_at 0 37 0 (codes "AB") ∷ patch_at 0 39 0 (codes "CD") ∷ patch_at 0 41 0 (hex 5 0x1100000012) ∷ []

-- where it lies, and its superblock
abbrev pub volume_v2_long : Volume
volume_v2_long = record {
  span = record { disk = 0; start = 3; count = 128 };
  layout = record { kind = V2Long; inodes = 32; zones = 64; imap = 1; zmap = 1; first = 6; max_size = 2147483647; state = 1 };
}

-- nine links in a row, in version 1 with long names
abbrev pub minix_chain_v1_long : List Patch
minix_chain_v1_long =
    patch_at 0 2 0 (hex 19 0x200040000100010005000000001c08108f1301) ∷
    patch_at 0 4 0 (hex 5 0xff1f0000fe ++ replicate 507 255) ∷ patch_at 0 5 0 (replicate 512 255) ∷
    patch_at 0 6 0 (hex 8 0xff1f0000000000f0 ++ replicate 504 255) ∷ patch_at 0 7 0 (replicate 512 255) ∷
    patch_at 0 8 0 (hex 6 0xed410000a001) ∷ patch_at 0 8 13 (hex 2 0x0205) ∷ patch_at 0 8 32 (hex 5 0xa481000001) ∷
    patch_at 0 8 45 (hex 2 0x0106) ∷ patch_at 0 8 64 (hex 5 0xffa1000002) ∷ patch_at 0 8 77 (hex 2 0x0107) ∷
    patch_at 0 8 96 (hex 5 0xffa1000002) ∷ patch_at 0 8 109 (hex 2 0x0108) ∷ patch_at 0 8 128 (hex 5 0xffa1000002) ∷
    patch_at 0 8 141 (hex 2 0x0109) ∷ patch_at 0 8 160 (hex 5 0xffa1000002) ∷ patch_at 0 8 173 (hex 2 0x010a) ∷
    patch_at 0 8 192 (hex 5 0xffa1000002) ∷ patch_at 0 8 205 (hex 2 0x010b) ∷ patch_at 0 8 224 (hex 5 0xffa1000002) ∷
    patch_at 0 8 237 (hex 2 0x010c) ∷ patch_at 0 8 256 (hex 5 0xffa1000002) ∷ patch_at 0 8 269 (hex 2 0x010d) ∷
    patch_at 0 8 288 (hex 5 0xffa1000002) ∷ patch_at 0 8 301 (hex 2 0x010e) ∷ patch_at 0 8 320 (hex 5 0xffa1000001) ∷
    patch_at 0 8 333 (hex 2 0x010f) ∷ patch_at 0 8 352 (hex 5 0xffa1000003) ∷ patch_at 0 8 365 (hex 2 0x0110) ∷
    patch_at 0 10 0 (hex 3 0x01002e) ∷ patch_at 0 10 32 (hex 4 0x01002e2e) ∷ patch_at 0 10 64 (hex 3 0x020066) ∷
    patch_at 0 10 96 (hex 4 0x03006130) ∷ patch_at 0 10 128 (hex 4 0x04006131) ∷ patch_at 0 10 160 (hex 4 0x05006132) ∷
    patch_at 0 10 192 (hex 4 0x06006133) ∷ patch_at 0 10 224 (hex 4 0x07006134) ∷ patch_at 0 10 256 (hex 4 0x08006135) ∷
    patch_at 0 10 288 (hex 4 0x09006136) ∷ patch_at 0 10 320 (hex 4 0x0a006137) ∷ patch_at 0 10 352 (hex 4 0x0b006138) ∷
    patch_at 0 10 384 (hex 3 0x0c0078) ∷ patch_at 0 12 0 (codes "F") ∷ patch_at 0 14 0 (codes "a1") ∷
    patch_at 0 16 0 (codes "a2") ∷ patch_at 0 18 0 (codes "a3") ∷ patch_at 0 20 0 (codes "a4") ∷
    patch_at 0 22 0 (codes "a5") ∷ patch_at 0 24 0 (codes "a6") ∷ patch_at 0 26 0 (codes "a7") ∷
    patch_at 0 28 0 (codes "a8") ∷ patch_at 0 30 0 (codes "f") ∷ patch_at 0 32 0 (codes "x/x") ∷ []

-- where it lies, and its superblock
abbrev pub volume_chain_v1_long : Volume
volume_chain_v1_long = record {
  span = record { disk = 0; start = 0; count = 128 };
  layout = record { kind = V1Long; inodes = 32; zones = 64; imap = 1; zmap = 1; first = 5; max_size = 268966912; state = 1 };
}

-- nine links in a row, in version 2 with short names
abbrev pub minix_chain_v2_short : List Patch
minix_chain_v2_short =
    patch_at 0 2 0 (hex 21 0x200000000100010006000000ffffff7f6824010040) ∷
    patch_at 0 4 0 (hex 5 0xff1f0000fe ++ replicate 507 255) ∷ patch_at 0 5 0 (replicate 512 255) ∷
    patch_at 0 6 0 (hex 8 0xff1f0000000000f8 ++ replicate 504 255) ∷ patch_at 0 7 0 (replicate 512 255) ∷
    patch_at 0 8 0 (hex 9 0xed41020000000000d0) ∷ patch_at 0 8 24 (hex 1 0x06) ∷
    patch_at 0 8 64 (hex 9 0xa48101000000000001) ∷ patch_at 0 8 88 (hex 1 0x07) ∷
    patch_at 0 8 128 (hex 9 0xffa101000000000002) ∷ patch_at 0 8 152 (hex 1 0x08) ∷
    patch_at 0 8 192 (hex 9 0xffa101000000000002) ∷ patch_at 0 8 216 (hex 1 0x09) ∷
    patch_at 0 8 256 (hex 9 0xffa101000000000002) ∷ patch_at 0 8 280 (codes "\n") ∷
    patch_at 0 8 320 (hex 9 0xffa101000000000002) ∷ patch_at 0 8 344 (hex 1 0x0b) ∷
    patch_at 0 8 384 (hex 9 0xffa101000000000002) ∷ patch_at 0 8 408 (hex 1 0x0c) ∷
    patch_at 0 8 448 (hex 9 0xffa101000000000002) ∷ patch_at 0 8 472 (hex 1 0x0d) ∷
    patch_at 0 9 0 (hex 9 0xffa101000000000002) ∷ patch_at 0 9 24 (hex 1 0x0e) ∷
    patch_at 0 9 64 (hex 9 0xffa101000000000002) ∷ patch_at 0 9 88 (hex 1 0x0f) ∷
    patch_at 0 9 128 (hex 9 0xffa101000000000001) ∷ patch_at 0 9 152 (hex 1 0x10) ∷
    patch_at 0 9 192 (hex 9 0xffa101000000000003) ∷ patch_at 0 9 216 (hex 1 0x11) ∷ patch_at 0 12 0 (hex 3 0x01002e) ∷
    patch_at 0 12 16 (hex 4 0x01002e2e) ∷ patch_at 0 12 32 (hex 3 0x020066) ∷ patch_at 0 12 48 (hex 4 0x03006130) ∷
    patch_at 0 12 64 (hex 4 0x04006131) ∷ patch_at 0 12 80 (hex 4 0x05006132) ∷ patch_at 0 12 96 (hex 4 0x06006133) ∷
    patch_at 0 12 112 (hex 4 0x07006134) ∷ patch_at 0 12 128 (hex 4 0x08006135) ∷ patch_at 0 12 144 (hex 4 0x09006136) ∷
    patch_at 0 12 160 (hex 4 0x0a006137) ∷ patch_at 0 12 176 (hex 4 0x0b006138) ∷ patch_at 0 12 192 (hex 3 0x0c0078) ∷
    patch_at 0 14 0 (codes "F") ∷ patch_at 0 16 0 (codes "a1") ∷ patch_at 0 18 0 (codes "a2") ∷
    patch_at 0 20 0 (codes "a3") ∷ patch_at 0 22 0 (codes "a4") ∷ patch_at 0 24 0 (codes "a5") ∷
    patch_at 0 26 0 (codes "a6") ∷ patch_at 0 28 0 (codes "a7") ∷ patch_at 0 30 0 (codes "a8") ∷
    patch_at 0 32 0 (codes "f") ∷ patch_at 0 34 0 (codes "x/x") ∷ []

-- where it lies, and its superblock
abbrev pub volume_chain_v2_short : Volume
volume_chain_v2_short = record {
  span = record { disk = 0; start = 0; count = 128 };
  layout = record { kind = V2Short; inodes = 32; zones = 64; imap = 1; zmap = 1; first = 6; max_size = 2147483647; state = 1 };
}

-- What cases of plans begin with: disks. Written by tools/plan_cases.py.
use Rattle.std.specs.Prelude.{List, [], ◌∷◌, ◌++◌, codes, replicate}
use Rattle.model_cases.specs.Sparse.{Patch, patch_at, hex}

-- the files of the sample configuration
abbrev pub disk_files : List Patch
disk_files =
    patch_at 0 0 450 (hex 10 0x8100000040000000c00f) ∷ patch_at 0 0 510 (hex 2 0x55aa) ∷
    patch_at 0 66 0 (hex 9 0x4000e0070100010006) ∷ patch_at 0 66 13 (hex 6 0x1c08108f1301) ∷
    patch_at 0 68 0 (hex 1 0xff) ∷ patch_at 0 68 8 (hex 1 0xfe ++ replicate 503 255) ∷
    patch_at 0 69 0 (replicate 512 255) ∷ patch_at 0 70 0 (hex 2 0xff01) ∷
    patch_at 0 70 251 (hex 1 0xf8 ++ replicate 260 255) ∷ patch_at 0 71 0 (replicate 512 255) ∷
    patch_at 0 72 0 (hex 5 0xed41000080) ∷ patch_at 0 72 13 (hex 2 0x0406) ∷ patch_at 0 72 32 (hex 5 0xed410000a0) ∷
    patch_at 0 72 45 (hex 2 0x0207) ∷ patch_at 0 72 64 (hex 5 0xed41000060) ∷ patch_at 0 72 77 (hex 2 0x0208) ∷
    patch_at 0 72 96 (hex 6 0xa48100000504) ∷ patch_at 0 72 109 (hex 4 0x0109000a) ∷
    patch_at 0 72 128 (hex 6 0xa4810000bc02) ∷ patch_at 0 72 141 (hex 2 0x010b) ∷
    patch_at 0 72 160 (hex 6 0xa48100000002) ∷ patch_at 0 72 173 (hex 2 0x010c) ∷
    patch_at 0 72 192 (hex 5 0xa481000001) ∷ patch_at 0 72 205 (hex 2 0x010d) ∷ patch_at 0 76 0 (hex 3 0x01002e) ∷
    patch_at 0 76 32 (hex 4 0x01002e2e) ∷ patch_at 0 76 64 (hex 6 0x0200626f6f74) ∷
    patch_at 0 76 96 (hex 5 0x0300657463) ∷ patch_at 0 78 0 (hex 3 0x02002e) ∷ patch_at 0 78 32 (hex 4 0x01002e2e) ∷
    patch_at 0 78 64 (hex 9 0x0400766d6c696e757a) ∷ patch_at 0 78 96 (hex 8 0x0500696e69747264) ∷
    patch_at 0 78 128 (hex 8 0x0600626f6f742e62) ∷ patch_at 0 80 0 (hex 3 0x03002e) ∷
    patch_at 0 80 32 (hex 4 0x01002e2e) ∷ patch_at 0 80 64 (hex 11 0x07006c696c6f2e636f6e66) ∷
    patch_at 0 82 497 (hex 1 0x01) ∷ patch_at 0 82 510 (hex 2 0x55aa) ∷ patch_at 0 83 2 (hex 6 0x486472530602) ∷
    patch_at 0 83 17 (hex 1 0x01) ∷ patch_at 0 83 44 (hex 4 0xffffff37) ∷ patch_at 0 83 56 (hex 1 0xff) ∷
    patch_at 0 84 0 (codes "HELLO") ∷ patch_at 0 86 0 (replicate 512 165) ∷ patch_at 0 87 0 (replicate 188 165) ∷
    patch_at 0 88 0 (replicate 512 144) ∷ patch_at 0 90 0 (codes "#") ∷ []

-- the same, and a disk of another system
abbrev pub disk_systems : List Patch
disk_systems =
    patch_at 0 0 450 (hex 10 0x8100000040000000c00f) ∷ patch_at 0 0 510 (hex 2 0x55aa) ∷
    patch_at 0 66 0 (hex 9 0x4000e0070100010006) ∷ patch_at 0 66 13 (hex 6 0x1c08108f1301) ∷
    patch_at 0 68 0 (hex 1 0xff) ∷ patch_at 0 68 8 (hex 1 0xfe ++ replicate 503 255) ∷
    patch_at 0 69 0 (replicate 512 255) ∷ patch_at 0 70 0 (hex 2 0xff01) ∷
    patch_at 0 70 251 (hex 1 0xf8 ++ replicate 260 255) ∷ patch_at 0 71 0 (replicate 512 255) ∷
    patch_at 0 72 0 (hex 5 0xed41000080) ∷ patch_at 0 72 13 (hex 2 0x0406) ∷ patch_at 0 72 32 (hex 5 0xed410000a0) ∷
    patch_at 0 72 45 (hex 2 0x0207) ∷ patch_at 0 72 64 (hex 5 0xed41000060) ∷ patch_at 0 72 77 (hex 2 0x0208) ∷
    patch_at 0 72 96 (hex 6 0xa48100000504) ∷ patch_at 0 72 109 (hex 4 0x0109000a) ∷
    patch_at 0 72 128 (hex 6 0xa4810000bc02) ∷ patch_at 0 72 141 (hex 2 0x010b) ∷
    patch_at 0 72 160 (hex 6 0xa48100000002) ∷ patch_at 0 72 173 (hex 2 0x010c) ∷
    patch_at 0 72 192 (hex 5 0xa481000001) ∷ patch_at 0 72 205 (hex 2 0x010d) ∷ patch_at 0 76 0 (hex 3 0x01002e) ∷
    patch_at 0 76 32 (hex 4 0x01002e2e) ∷ patch_at 0 76 64 (hex 6 0x0200626f6f74) ∷
    patch_at 0 76 96 (hex 5 0x0300657463) ∷ patch_at 0 78 0 (hex 3 0x02002e) ∷ patch_at 0 78 32 (hex 4 0x01002e2e) ∷
    patch_at 0 78 64 (hex 9 0x0400766d6c696e757a) ∷ patch_at 0 78 96 (hex 8 0x0500696e69747264) ∷
    patch_at 0 78 128 (hex 8 0x0600626f6f742e62) ∷ patch_at 0 80 0 (hex 3 0x03002e) ∷
    patch_at 0 80 32 (hex 4 0x01002e2e) ∷ patch_at 0 80 64 (hex 11 0x07006c696c6f2e636f6e66) ∷
    patch_at 0 82 497 (hex 1 0x01) ∷ patch_at 0 82 510 (hex 2 0x55aa) ∷ patch_at 0 83 2 (hex 6 0x486472530602) ∷
    patch_at 0 83 17 (hex 1 0x01) ∷ patch_at 0 83 44 (hex 4 0xffffff37) ∷ patch_at 0 83 56 (hex 1 0xff) ∷
    patch_at 0 84 0 (codes "HELLO") ∷ patch_at 0 86 0 (replicate 512 165) ∷ patch_at 0 87 0 (replicate 188 165) ∷
    patch_at 0 88 0 (replicate 512 144) ∷ patch_at 0 90 0 (codes "#") ∷ patch_at 1 0 3 (codes "DOS") ∷
    patch_at 1 0 446 (hex 14 0x80010203060506073f000000e803) ∷ patch_at 1 0 510 (hex 2 0x55aa) ∷
    patch_at 1 63 3 (codes "WIN") ∷ patch_at 1 63 510 (hex 2 0x55aa) ∷ []

-- more files, and another system
abbrev pub disk_more : List Patch
disk_more =
    patch_at 0 0 450 (hex 10 0x8100000040000000c00f) ∷ patch_at 0 0 510 (hex 2 0x55aa) ∷
    patch_at 0 66 0 (hex 9 0x4000e0070100010006) ∷ patch_at 0 66 13 (hex 6 0x1c08108f1301) ∷
    patch_at 0 68 0 (hex 3 0xffff01) ∷ patch_at 0 68 8 (hex 1 0xfe ++ replicate 503 255) ∷
    patch_at 0 69 0 (replicate 512 255) ∷ patch_at 0 70 0 (hex 8 0xffffffffffffff01) ∷
    patch_at 0 70 251 (hex 1 0xf8 ++ replicate 260 255) ∷ patch_at 0 71 0 (replicate 512 255) ∷
    patch_at 0 72 0 (hex 5 0xed410000a0) ∷ patch_at 0 72 13 (hex 2 0x0406) ∷ patch_at 0 72 32 (hex 6 0xed410000a001) ∷
    patch_at 0 72 45 (hex 2 0x0207) ∷ patch_at 0 72 64 (hex 5 0xed41000060) ∷ patch_at 0 72 77 (hex 2 0x0208) ∷
    patch_at 0 72 96 (hex 6 0xa48100000504) ∷ patch_at 0 72 109 (hex 4 0x0109000a) ∷
    patch_at 0 72 128 (hex 6 0xa4810000bc02) ∷ patch_at 0 72 141 (hex 2 0x010b) ∷
    patch_at 0 72 160 (hex 6 0xa48100000002) ∷ patch_at 0 72 173 (hex 2 0x010c) ∷
    patch_at 0 72 192 (hex 5 0xa48100000c) ∷ patch_at 0 72 205 (hex 2 0x010d) ∷ patch_at 0 72 224 (hex 2 0xa481) ∷
    patch_at 0 72 237 (hex 1 0x01) ∷ patch_at 0 72 256 (hex 6 0xa48100004006) ∷ patch_at 0 72 269 (hex 4 0x010e000f) ∷
    patch_at 0 72 288 (hex 6 0xa48100000510) ∷ patch_at 0 72 301 (hex 10 0x01100011000000120013) ∷
    patch_at 0 72 320 (hex 6 0xa48100000504) ∷ patch_at 0 72 333 (hex 4 0x01140015) ∷
    patch_at 0 72 352 (hex 6 0xa4810000050a) ∷ patch_at 0 72 365 (hex 6 0x011600000017) ∷
    patch_at 0 72 384 (hex 5 0xffa1000007) ∷ patch_at 0 72 397 (hex 2 0x0118) ∷
    patch_at 0 72 416 (hex 6 0xa4810000dc05) ∷ patch_at 0 72 429 (hex 4 0x0119001a) ∷
    patch_at 0 72 448 (hex 6 0xa4810000e880) ∷
    patch_at 0 72 461 (hex 24 0x011b001c001d001e001f00200021003c000000a481000001) ∷ patch_at 0 72 493 (hex 2 0x013d) ∷
    patch_at 0 76 0 (hex 3 0x01002e) ∷ patch_at 0 76 32 (hex 4 0x01002e2e) ∷ patch_at 0 76 64 (hex 6 0x0200626f6f74) ∷
    patch_at 0 76 96 (hex 5 0x0300657463) ∷ patch_at 0 76 128 (hex 3 0x0d006b) ∷ patch_at 0 78 0 (hex 3 0x02002e) ∷
    patch_at 0 78 32 (hex 4 0x01002e2e) ∷ patch_at 0 78 64 (hex 9 0x0400766d6c696e757a) ∷
    patch_at 0 78 96 (hex 8 0x0500696e69747264) ∷ patch_at 0 78 128 (hex 8 0x0600626f6f742e62) ∷
    patch_at 0 78 160 (hex 5 0x07006d7367) ∷ patch_at 0 78 192 (hex 6 0x08006e6f6e65) ∷
    patch_at 0 78 224 (hex 4 0x09006b32) ∷ patch_at 0 78 256 (hex 6 0x0a00686f6c65) ∷
    patch_at 0 78 288 (hex 5 0x0b006c6f77) ∷ patch_at 0 78 320 (hex 6 0x0c00726f7738) ∷
    patch_at 0 78 352 (hex 5 0x0e00726432) ∷ patch_at 0 78 384 (hex 6 0x0f006c6f6e67) ∷
    patch_at 0 80 0 (hex 3 0x03002e) ∷ patch_at 0 80 32 (hex 4 0x01002e2e) ∷
    patch_at 0 80 64 (hex 11 0x10006c696c6f2e636f6e66) ∷ patch_at 0 82 497 (hex 1 0x01) ∷
    patch_at 0 82 510 (hex 2 0x55aa) ∷ patch_at 0 83 2 (hex 6 0x486472530602) ∷ patch_at 0 83 17 (hex 1 0x01) ∷
    patch_at 0 83 44 (hex 4 0xffffff37) ∷ patch_at 0 83 56 (hex 1 0xff) ∷ patch_at 0 84 0 (codes "HELLO") ∷
    patch_at 0 86 0 (replicate 512 165) ∷ patch_at 0 87 0 (replicate 188 165) ∷ patch_at 0 88 0 (replicate 512 144) ∷
    patch_at 0 90 0 (codes "Hello\nthere\n") ∷ patch_at 0 92 497 (hex 1 0x01) ∷ patch_at 0 92 510 (hex 2 0x55aa) ∷
    patch_at 0 93 2 (hex 6 0x486472530602) ∷ patch_at 0 93 17 (hex 1 0x01) ∷ patch_at 0 93 44 (hex 4 0xffffff37) ∷
    patch_at 0 93 56 (hex 1 0xff) ∷ patch_at 0 94 0 (replicate 512 5) ∷ patch_at 0 95 0 (replicate 64 5) ∷
    patch_at 0 96 497 (hex 1 0x01) ∷ patch_at 0 96 510 (hex 2 0x55aa) ∷ patch_at 0 97 2 (hex 6 0x486472530602) ∷
    patch_at 0 97 17 (hex 1 0x01) ∷ patch_at 0 97 44 (hex 4 0xffffff37) ∷ patch_at 0 97 56 (hex 1 0xff) ∷
    patch_at 0 98 0 (replicate 512 7) ∷ patch_at 0 99 0 (replicate 512 7) ∷ patch_at 0 100 0 (replicate 512 7) ∷
    patch_at 0 101 0 (replicate 512 7) ∷ patch_at 0 102 0 (replicate 5 7) ∷ patch_at 0 104 497 (hex 1 0x01) ∷
    patch_at 0 104 510 (hex 2 0x55aa) ∷ patch_at 0 105 44 (hex 4 0xffffff37) ∷ patch_at 0 105 56 (hex 1 0xff) ∷
    patch_at 0 106 0 (codes "HELLO") ∷ patch_at 0 108 510 (hex 2 0x55aa) ∷ patch_at 0 109 2 (hex 6 0x486472530602) ∷
    patch_at 0 109 17 (hex 1 0x01) ∷ patch_at 0 109 44 (hex 4 0xffffff37) ∷ patch_at 0 109 56 (hex 1 0xff) ∷
    patch_at 0 111 0 (codes "PMODE") ∷ patch_at 0 112 0 (codes "boot/k2") ∷ patch_at 0 114 0 (replicate 512 17) ∷
    patch_at 0 115 0 (replicate 512 17) ∷ patch_at 0 116 0 (replicate 476 17) ∷ patch_at 0 118 497 (hex 1 0x01) ∷
    patch_at 0 118 510 (hex 2 0x55aa) ∷ patch_at 0 119 2 (hex 6 0x486472530602) ∷ patch_at 0 119 17 (hex 1 0x01) ∷
    patch_at 0 119 44 (hex 4 0xffffff37) ∷ patch_at 0 119 56 (hex 1 0xff) ∷ patch_at 0 120 0 (replicate 512 5) ∷
    patch_at 0 121 0 (replicate 512 5) ∷ patch_at 0 122 0 (replicate 512 5) ∷ patch_at 0 123 0 (replicate 512 5) ∷
    patch_at 0 124 0 (replicate 512 5) ∷ patch_at 0 125 0 (replicate 512 5) ∷ patch_at 0 126 0 (replicate 512 5) ∷
    patch_at 0 127 0 (replicate 512 5) ∷ patch_at 0 128 0 (replicate 512 5) ∷ patch_at 0 129 0 (replicate 512 5) ∷
    patch_at 0 130 0 (replicate 512 5) ∷ patch_at 0 131 0 (replicate 512 5) ∷ patch_at 0 132 0 (replicate 512 5) ∷
    patch_at 0 133 0 (replicate 512 5) ∷ patch_at 0 134 0 (replicate 512 5) ∷ patch_at 0 135 0 (replicate 512 5) ∷
    patch_at 0 136 0 (replicate 512 5) ∷ patch_at 0 137 0 (replicate 512 5) ∷ patch_at 0 138 0 (replicate 512 5) ∷
    patch_at 0 139 0 (replicate 512 5) ∷ patch_at 0 140 0 (replicate 512 5) ∷ patch_at 0 141 0 (replicate 512 5) ∷
    patch_at 0 142 0 (replicate 512 5) ∷ patch_at 0 143 0 (replicate 512 5) ∷ patch_at 0 144 0 (replicate 512 5) ∷
    patch_at 0 145 0 (replicate 512 5) ∷ patch_at 0 146 0 (replicate 512 5) ∷ patch_at 0 147 0 (replicate 512 5) ∷
    patch_at 0 148 0 (replicate 512 5) ∷ patch_at 0 149 0 (replicate 512 5) ∷ patch_at 0 150 0 (replicate 512 5) ∷
    patch_at 0 151 0 (replicate 512 5) ∷ patch_at 0 152 0 (replicate 512 5) ∷ patch_at 0 153 0 (replicate 512 5) ∷
    patch_at 0 154 0 (replicate 512 5) ∷ patch_at 0 155 0 (replicate 512 5) ∷ patch_at 0 156 0 (replicate 512 5) ∷
    patch_at 0 157 0 (replicate 512 5) ∷ patch_at 0 158 0 (replicate 512 5) ∷ patch_at 0 159 0 (replicate 512 5) ∷
    patch_at 0 160 0 (replicate 512 5) ∷ patch_at 0 161 0 (replicate 512 5) ∷ patch_at 0 162 0 (replicate 512 5) ∷
    patch_at 0 163 0 (replicate 512 5) ∷ patch_at 0 164 0 (replicate 512 5) ∷ patch_at 0 165 0 (replicate 512 5) ∷
    patch_at 0 166 0 (replicate 512 5) ∷ patch_at 0 167 0 (replicate 512 5) ∷ patch_at 0 168 0 (replicate 512 5) ∷
    patch_at 0 169 0 (replicate 512 5) ∷ patch_at 0 170 0 (replicate 512 5) ∷ patch_at 0 171 0 (replicate 512 5) ∷
    patch_at 0 172 0 (replicate 512 5) ∷ patch_at 0 173 0 (replicate 512 5) ∷ patch_at 0 174 0 (replicate 512 5) ∷
    patch_at 0 175 0 (replicate 512 5) ∷ patch_at 0 176 0 (replicate 512 5) ∷ patch_at 0 177 0 (replicate 512 5) ∷
    patch_at 0 178 0 (replicate 512 5) ∷ patch_at 0 179 0 (replicate 512 5) ∷ patch_at 0 180 0 (replicate 512 5) ∷
    patch_at 0 181 0 (replicate 512 5) ∷ patch_at 0 182 0 (replicate 232 5) ∷
    patch_at 0 184 0 (hex 40 0x220023002400250026002700280029002a002b002c002d002e002f00300031003200330034003500
    ++ hex 11 0x36003700380039003a003b) ∷
    patch_at 0 186 0 (codes "#") ∷ patch_at 1 0 3 (codes "DOS") ∷
    patch_at 1 0 446 (hex 14 0x80010203060506073f000000e803) ∷ patch_at 1 0 510 (hex 2 0x55aa) ∷
    patch_at 1 63 3 (codes "WIN") ∷ patch_at 1 63 510 (hex 2 0x55aa) ∷ []

-- tracks of 32 sectors, short names, and a disk with logical partitions
abbrev pub disk_track_files : List Patch
disk_track_files =
    patch_at 0 0 450 (hex 9 0x830000002000000028) ∷ patch_at 0 0 466 (hex 10 0x8100000060000000f00a) ∷
    patch_at 0 0 510 (hex 2 0x55aa) ∷ patch_at 0 32 3 (codes "FREE") ∷ patch_at 0 32 510 (hex 2 0x55aa) ∷
    patch_at 0 98 0 (hex 22 0x280000000100010007000000ffffff7f682401007805) ∷
    patch_at 0 100 0 (hex 6 0xffff070000fe ++ replicate 506 255) ∷ patch_at 0 101 0 (replicate 512 255) ∷
    patch_at 0 102 0 (hex 22 0xffffffffffffffffffffffffffffffffffffffffab03) ∷
    patch_at 0 102 174 (hex 1 0xfc ++ replicate 337 255) ∷ patch_at 0 103 0 (replicate 512 255) ∷
    patch_at 0 104 0 (hex 3 0xed4104) ∷ patch_at 0 104 8 (hex 1 0xa0) ∷ patch_at 0 104 24 (hex 1 0x07) ∷
    patch_at 0 104 64 (hex 3 0xed4102) ∷ patch_at 0 104 73 (hex 1 0x01) ∷ patch_at 0 104 88 (hex 1 0x08) ∷
    patch_at 0 104 128 (hex 3 0xed4102) ∷ patch_at 0 104 136 (codes "0") ∷ patch_at 0 104 152 (hex 1 0x09) ∷
    patch_at 0 104 192 (hex 3 0xa48101) ∷ patch_at 0 104 200 (hex 2 0x0504) ∷ patch_at 0 104 216 (hex 5 0x0a0000000b) ∷
    patch_at 0 104 256 (hex 3 0xa48101) ∷ patch_at 0 104 264 (hex 2 0xbc02) ∷ patch_at 0 104 280 (hex 1 0x0c) ∷
    patch_at 0 104 320 (hex 3 0xa48101) ∷ patch_at 0 104 328 (hex 2 0x8a02) ∷ patch_at 0 104 344 (hex 1 0x0d) ∷
    patch_at 0 104 384 (hex 3 0xa48101) ∷ patch_at 0 104 393 (codes "~") ∷
    patch_at 0 104 408 (hex 29 0x0e0000000f00000010000000110000001200000013000000140000002e) ∷
    patch_at 0 104 448 (hex 3 0xa48101) ∷ patch_at 0 104 456 (hex 2 0x9c7f) ∷
    patch_at 0 104 472 (hex 29 0x2f0000003000000031000000320000003300000034000000350000004f) ∷
    patch_at 0 105 0 (hex 3 0xa48101) ∷ patch_at 0 105 8 (codes "\n") ∷ patch_at 0 105 24 (codes "P") ∷
    patch_at 0 105 64 (hex 3 0xa48101) ∷ patch_at 0 105 72 (hex 2 0x0102) ∷ patch_at 0 105 88 (codes "Q") ∷
    patch_at 0 105 128 (hex 3 0xa48101) ∷ patch_at 0 105 136 (hex 2 0x4d12) ∷
    patch_at 0 105 152 (hex 17 0x5200000053000000540000005500000056) ∷ patch_at 0 105 192 (hex 3 0xa48101) ∷
    patch_at 0 105 200 (hex 2 0x4006) ∷ patch_at 0 105 216 (hex 5 0x5700000058) ∷ patch_at 0 105 256 (hex 3 0xa48101) ∷
    patch_at 0 105 264 (hex 2 0x1405) ∷ patch_at 0 105 280 (hex 5 0x590000005a) ∷ patch_at 0 105 320 (hex 3 0xa48101) ∷
    patch_at 0 105 328 (hex 2 0xd007) ∷ patch_at 0 105 344 (hex 5 0x5b0000005c) ∷ patch_at 0 105 384 (hex 3 0xa48101) ∷
    patch_at 0 105 392 (hex 1 0x01) ∷ patch_at 0 105 408 (codes "]") ∷ patch_at 0 105 448 (hex 3 0xffa101) ∷
    patch_at 0 105 456 (hex 1 0x09) ∷ patch_at 0 105 472 (codes "^") ∷ patch_at 0 106 0 (hex 3 0xa48101) ∷
    patch_at 0 106 8 (hex 3 0xfd1b01) ∷
    patch_at 0 106 24 (hex 29 0x5f000000600000006100000062000000630000006400000065000000a6) ∷
    patch_at 0 106 64 (hex 3 0xa48101) ∷ patch_at 0 106 72 (hex 2 0x7c15) ∷
    patch_at 0 106 88 (hex 21 0xa7000000a9000000ab000000ad000000ae000000af) ∷ patch_at 0 110 0 (hex 3 0x01002e) ∷
    patch_at 0 110 16 (hex 4 0x01002e2e) ∷ patch_at 0 110 32 (hex 6 0x0200626f6f74) ∷
    patch_at 0 110 48 (hex 5 0x0300657463) ∷ patch_at 0 112 0 (hex 3 0x02002e) ∷ patch_at 0 112 16 (hex 4 0x01002e2e) ∷
    patch_at 0 112 32 (hex 3 0x04006b) ∷ patch_at 0 112 48 (hex 4 0x05007264) ∷
    patch_at 0 112 64 (hex 6 0x0600636f6465) ∷ patch_at 0 112 80 (hex 5 0x07006b3633) ∷
    patch_at 0 112 96 (hex 5 0x08006b3634) ∷ patch_at 0 112 112 (hex 5 0x09006d7367) ∷
    patch_at 0 112 128 (hex 6 0x0a006d353133) ∷ patch_at 0 112 144 (hex 8 0x0b00736574757038) ∷
    patch_at 0 112 160 (hex 7 0x0c0073686f7274) ∷ patch_at 0 112 176 (hex 4 0x0d007633) ∷
    patch_at 0 112 192 (hex 5 0x0e006c6f77) ∷ patch_at 0 112 208 (hex 6 0x10006c696e6b) ∷
    patch_at 0 112 224 (hex 6 0x11006b313432) ∷ patch_at 0 112 240 (hex 7 0x12006170617274) ∷
    patch_at 0 114 0 (hex 3 0x03002e) ∷ patch_at 0 114 16 (hex 4 0x01002e2e) ∷
    patch_at 0 114 32 (hex 11 0x0f006c696c6f2e636f6e66) ∷ patch_at 0 116 497 (hex 1 0x01) ∷
    patch_at 0 116 510 (hex 2 0x55aa) ∷ patch_at 0 117 2 (hex 6 0x486472530602) ∷ patch_at 0 117 17 (hex 1 0x01) ∷
    patch_at 0 117 44 (hex 4 0xffffff37) ∷ patch_at 0 117 56 (hex 1 0xff) ∷ patch_at 0 118 0 (codes "HELLO") ∷
    patch_at 0 120 0 (replicate 512 165) ∷ patch_at 0 121 0 (replicate 188 165) ∷
    patch_at 0 122 0 (hex 40 0x0102030405060708090a0b0c0d0e0f101112131415161718191a1b1c1d1e1f202122232425262728
    ++ hex 40 0x292a2b2c2d2e2f303132333435363738393a3b3c3d3e3f404142434445464748494a4b4c4d4e4f50
    ++ hex 40 0x5152535455565758595a5b5c5d5e5f606162636465666768696a6b6c6d6e6f707172737475767778
    ++ hex 40 0x797a7b7c7d7e7f808182838485868788898a8b8c8d8e8f909192939495969798999a9b9c9d9e9fa0
    ++ hex 40 0xa1a2a3a4a5a6a7a8a9aaabacadaeafb0b1b2b3b4b5b6b7b8b9babbbcbdbebfc0c1c2c3c4c5c6c7c8
    ++ hex 40 0xc9cacbcccdcecfd0d1d2d3d4d5d6d7d8d9dadbdcdddedfe0e1e2e3e4e5e6e7e8e9eaebecedeeeff0
    ++ hex 10 0xf1f2f3f4f5f6f7f8f9fa ++ replicate 262 67) ∷
    patch_at 0 123 0 (replicate 138 67) ∷ patch_at 0 124 497 (hex 1 0x01) ∷ patch_at 0 124 510 (hex 2 0x55aa) ∷
    patch_at 0 125 2 (hex 6 0x486472530602) ∷ patch_at 0 125 17 (hex 1 0x01) ∷ patch_at 0 125 44 (hex 4 0xffffff37) ∷
    patch_at 0 125 56 (hex 1 0xff) ∷ patch_at 0 126 0 (replicate 512 3) ∷ patch_at 0 127 0 (replicate 512 3) ∷
    patch_at 0 128 0 (replicate 512 3) ∷ patch_at 0 129 0 (replicate 512 3) ∷ patch_at 0 130 0 (replicate 512 3) ∷
    patch_at 0 131 0 (replicate 512 3) ∷ patch_at 0 132 0 (replicate 512 3) ∷ patch_at 0 133 0 (replicate 512 3) ∷
    patch_at 0 134 0 (replicate 512 3) ∷ patch_at 0 135 0 (replicate 512 3) ∷ patch_at 0 136 0 (replicate 512 3) ∷
    patch_at 0 137 0 (replicate 512 3) ∷ patch_at 0 138 0 (replicate 512 3) ∷ patch_at 0 139 0 (replicate 512 3) ∷
    patch_at 0 140 0 (replicate 512 3) ∷ patch_at 0 141 0 (replicate 512 3) ∷ patch_at 0 142 0 (replicate 512 3) ∷
    patch_at 0 143 0 (replicate 512 3) ∷ patch_at 0 144 0 (replicate 512 3) ∷ patch_at 0 145 0 (replicate 512 3) ∷
    patch_at 0 146 0 (replicate 512 3) ∷ patch_at 0 147 0 (replicate 512 3) ∷ patch_at 0 148 0 (replicate 512 3) ∷
    patch_at 0 149 0 (replicate 512 3) ∷ patch_at 0 150 0 (replicate 512 3) ∷ patch_at 0 151 0 (replicate 512 3) ∷
    patch_at 0 152 0 (replicate 512 3) ∷ patch_at 0 153 0 (replicate 512 3) ∷ patch_at 0 154 0 (replicate 512 3) ∷
    patch_at 0 155 0 (replicate 512 3) ∷ patch_at 0 156 0 (replicate 512 3) ∷ patch_at 0 157 0 (replicate 512 3) ∷
    patch_at 0 158 0 (replicate 512 3) ∷ patch_at 0 159 0 (replicate 512 3) ∷ patch_at 0 160 0 (replicate 512 3) ∷
    patch_at 0 161 0 (replicate 512 3) ∷ patch_at 0 162 0 (replicate 512 3) ∷ patch_at 0 163 0 (replicate 512 3) ∷
    patch_at 0 164 0 (replicate 512 3) ∷ patch_at 0 165 0 (replicate 512 3) ∷ patch_at 0 166 0 (replicate 512 3) ∷
    patch_at 0 167 0 (replicate 512 3) ∷ patch_at 0 168 0 (replicate 512 3) ∷ patch_at 0 169 0 (replicate 512 3) ∷
    patch_at 0 170 0 (replicate 512 3) ∷ patch_at 0 171 0 (replicate 512 3) ∷ patch_at 0 172 0 (replicate 512 3) ∷
    patch_at 0 173 0 (replicate 512 3) ∷ patch_at 0 174 0 (replicate 512 3) ∷ patch_at 0 175 0 (replicate 512 3) ∷
    patch_at 0 176 0 (replicate 512 3) ∷ patch_at 0 177 0 (replicate 512 3) ∷ patch_at 0 178 0 (replicate 512 3) ∷
    patch_at 0 179 0 (replicate 512 3) ∷ patch_at 0 180 0 (replicate 512 3) ∷ patch_at 0 181 0 (replicate 512 3) ∷
    patch_at 0 182 0 (replicate 512 3) ∷ patch_at 0 183 0 (replicate 512 3) ∷ patch_at 0 184 0 (replicate 512 3) ∷
    patch_at 0 185 0 (replicate 512 3) ∷ patch_at 0 186 0 (replicate 512 3) ∷
    patch_at 0 188 0 (hex 40 0x15000000160000001700000018000000190000001a0000001b0000001c0000001d0000001e000000
    ++ hex 40 0x1f000000200000002100000022000000230000002400000025000000260000002700000028000000
    ++ hex 17 0x290000002a0000002b0000002c0000002d) ∷
    patch_at 0 190 497 (hex 1 0x01) ∷ patch_at 0 190 510 (hex 2 0x55aa) ∷ patch_at 0 191 2 (hex 6 0x486472530602) ∷
    patch_at 0 191 17 (hex 1 0x01) ∷ patch_at 0 191 44 (hex 4 0xffffff37) ∷ patch_at 0 191 56 (hex 1 0xff) ∷
    patch_at 0 192 0 (replicate 512 4) ∷ patch_at 0 193 0 (replicate 512 4) ∷ patch_at 0 194 0 (replicate 512 4) ∷
    patch_at 0 195 0 (replicate 512 4) ∷ patch_at 0 196 0 (replicate 512 4) ∷ patch_at 0 197 0 (replicate 512 4) ∷
    patch_at 0 198 0 (replicate 512 4) ∷ patch_at 0 199 0 (replicate 512 4) ∷ patch_at 0 200 0 (replicate 512 4) ∷
    patch_at 0 201 0 (replicate 512 4) ∷ patch_at 0 202 0 (replicate 512 4) ∷ patch_at 0 203 0 (replicate 512 4) ∷
    patch_at 0 204 0 (replicate 512 4) ∷ patch_at 0 205 0 (replicate 512 4) ∷ patch_at 0 206 0 (replicate 512 4) ∷
    patch_at 0 207 0 (replicate 512 4) ∷ patch_at 0 208 0 (replicate 512 4) ∷ patch_at 0 209 0 (replicate 512 4) ∷
    patch_at 0 210 0 (replicate 512 4) ∷ patch_at 0 211 0 (replicate 512 4) ∷ patch_at 0 212 0 (replicate 512 4) ∷
    patch_at 0 213 0 (replicate 512 4) ∷ patch_at 0 214 0 (replicate 512 4) ∷ patch_at 0 215 0 (replicate 512 4) ∷
    patch_at 0 216 0 (replicate 512 4) ∷ patch_at 0 217 0 (replicate 512 4) ∷ patch_at 0 218 0 (replicate 512 4) ∷
    patch_at 0 219 0 (replicate 512 4) ∷ patch_at 0 220 0 (replicate 512 4) ∷ patch_at 0 221 0 (replicate 512 4) ∷
    patch_at 0 222 0 (replicate 512 4) ∷ patch_at 0 223 0 (replicate 512 4) ∷ patch_at 0 224 0 (replicate 512 4) ∷
    patch_at 0 225 0 (replicate 512 4) ∷ patch_at 0 226 0 (replicate 512 4) ∷ patch_at 0 227 0 (replicate 512 4) ∷
    patch_at 0 228 0 (replicate 512 4) ∷ patch_at 0 229 0 (replicate 512 4) ∷ patch_at 0 230 0 (replicate 512 4) ∷
    patch_at 0 231 0 (replicate 512 4) ∷ patch_at 0 232 0 (replicate 512 4) ∷ patch_at 0 233 0 (replicate 512 4) ∷
    patch_at 0 234 0 (replicate 512 4) ∷ patch_at 0 235 0 (replicate 512 4) ∷ patch_at 0 236 0 (replicate 512 4) ∷
    patch_at 0 237 0 (replicate 512 4) ∷ patch_at 0 238 0 (replicate 512 4) ∷ patch_at 0 239 0 (replicate 512 4) ∷
    patch_at 0 240 0 (replicate 512 4) ∷ patch_at 0 241 0 (replicate 512 4) ∷ patch_at 0 242 0 (replicate 512 4) ∷
    patch_at 0 243 0 (replicate 512 4) ∷ patch_at 0 244 0 (replicate 512 4) ∷ patch_at 0 245 0 (replicate 512 4) ∷
    patch_at 0 246 0 (replicate 512 4) ∷ patch_at 0 247 0 (replicate 512 4) ∷ patch_at 0 248 0 (replicate 512 4) ∷
    patch_at 0 249 0 (replicate 512 4) ∷ patch_at 0 250 0 (replicate 512 4) ∷ patch_at 0 251 0 (replicate 512 4) ∷
    patch_at 0 252 0 (replicate 512 4) ∷ patch_at 0 253 0 (replicate 412 4) ∷
    patch_at 0 254 0 (hex 40 0x360000003700000038000000390000003a0000003b0000003c0000003d0000003e0000003f000000
    ++ hex 40 0x40000000410000004200000043000000440000004500000046000000470000004800000049000000
    ++ hex 17 0x4a0000004b0000004c0000004d0000004e) ∷
    patch_at 0 256 0 (codes "Pick one:\n") ∷ patch_at 0 258 0 (replicate 512 109) ∷ patch_at 0 259 0 (codes "m") ∷
    patch_at 0 260 497 (hex 1 0x08) ∷ patch_at 0 260 510 (hex 2 0x55aa) ∷ patch_at 0 261 2 (hex 6 0x486472530602) ∷
    patch_at 0 261 17 (hex 1 0x01) ∷ patch_at 0 261 44 (hex 4 0xffffff37) ∷ patch_at 0 261 56 (hex 1 0xff) ∷
    patch_at 0 262 0 (replicate 512 8) ∷ patch_at 0 263 0 (replicate 512 8) ∷ patch_at 0 264 0 (replicate 512 8) ∷
    patch_at 0 265 0 (replicate 512 8) ∷ patch_at 0 266 0 (replicate 512 8) ∷ patch_at 0 267 0 (replicate 512 8) ∷
    patch_at 0 268 0 (replicate 512 8) ∷ patch_at 0 269 0 (replicate 77 8) ∷ patch_at 0 270 497 (hex 1 0x01) ∷
    patch_at 0 270 510 (hex 2 0x55aa) ∷ patch_at 0 271 2 (hex 6 0x486472530602) ∷ patch_at 0 271 17 (hex 1 0x01) ∷
    patch_at 0 271 44 (hex 4 0xffffff37) ∷ patch_at 0 271 56 (codes "(") ∷ patch_at 0 272 0 (replicate 512 9) ∷
    patch_at 0 273 0 (replicate 64 9) ∷ patch_at 0 274 497 (hex 1 0x01) ∷ patch_at 0 274 510 (hex 2 0x55aa) ∷
    patch_at 0 275 2 (hex 6 0x486472530302) ∷ patch_at 0 275 17 (hex 1 0x01) ∷ patch_at 0 275 44 (hex 3 0xffff2f) ∷
    patch_at 0 275 56 (hex 1 0xff) ∷ patch_at 0 276 0 (replicate 276 6) ∷ patch_at 0 278 497 (hex 1 0x01) ∷
    patch_at 0 278 510 (hex 2 0x55aa) ∷ patch_at 0 279 44 (hex 4 0xffffff37) ∷ patch_at 0 279 56 (hex 1 0xff) ∷
    patch_at 0 280 0 (replicate 512 2) ∷ patch_at 0 281 0 (replicate 464 2) ∷ patch_at 0 282 0 (codes "#") ∷
    patch_at 0 284 0 (codes "/boot/k64") ∷ patch_at 0 286 497 (hex 1 0x01) ∷ patch_at 0 286 510 (hex 2 0x55aa) ∷
    patch_at 0 287 2 (hex 6 0x486472530602) ∷ patch_at 0 287 17 (hex 1 0x01) ∷ patch_at 0 287 44 (hex 4 0xffffff37) ∷
    patch_at 0 287 56 (hex 1 0xff) ∷ patch_at 0 288 0 (replicate 512 11) ∷ patch_at 0 289 0 (replicate 512 11) ∷
    patch_at 0 290 0 (replicate 512 11) ∷ patch_at 0 291 0 (replicate 512 11) ∷ patch_at 0 292 0 (replicate 512 11) ∷
    patch_at 0 293 0 (replicate 512 11) ∷ patch_at 0 294 0 (replicate 512 11) ∷ patch_at 0 295 0 (replicate 512 11) ∷
    patch_at 0 296 0 (replicate 512 11) ∷ patch_at 0 297 0 (replicate 512 11) ∷ patch_at 0 298 0 (replicate 512 11) ∷
    patch_at 0 299 0 (replicate 512 11) ∷ patch_at 0 300 0 (replicate 512 11) ∷ patch_at 0 301 0 (replicate 512 11) ∷
    patch_at 0 302 0 (replicate 512 11) ∷ patch_at 0 303 0 (replicate 512 11) ∷ patch_at 0 304 0 (replicate 512 11) ∷
    patch_at 0 305 0 (replicate 512 11) ∷ patch_at 0 306 0 (replicate 512 11) ∷ patch_at 0 307 0 (replicate 512 11) ∷
    patch_at 0 308 0 (replicate 512 11) ∷ patch_at 0 309 0 (replicate 512 11) ∷ patch_at 0 310 0 (replicate 512 11) ∷
    patch_at 0 311 0 (replicate 512 11) ∷ patch_at 0 312 0 (replicate 512 11) ∷ patch_at 0 313 0 (replicate 512 11) ∷
    patch_at 0 314 0 (replicate 512 11) ∷ patch_at 0 315 0 (replicate 512 11) ∷ patch_at 0 316 0 (replicate 512 11) ∷
    patch_at 0 317 0 (replicate 512 11) ∷ patch_at 0 318 0 (replicate 512 11) ∷ patch_at 0 319 0 (replicate 512 11) ∷
    patch_at 0 320 0 (replicate 512 11) ∷ patch_at 0 321 0 (replicate 512 11) ∷ patch_at 0 322 0 (replicate 512 11) ∷
    patch_at 0 323 0 (replicate 512 11) ∷ patch_at 0 324 0 (replicate 512 11) ∷ patch_at 0 325 0 (replicate 512 11) ∷
    patch_at 0 326 0 (replicate 512 11) ∷ patch_at 0 327 0 (replicate 512 11) ∷ patch_at 0 328 0 (replicate 512 11) ∷
    patch_at 0 329 0 (replicate 512 11) ∷ patch_at 0 330 0 (replicate 512 11) ∷ patch_at 0 331 0 (replicate 512 11) ∷
    patch_at 0 332 0 (replicate 512 11) ∷ patch_at 0 333 0 (replicate 512 11) ∷ patch_at 0 334 0 (replicate 512 11) ∷
    patch_at 0 335 0 (replicate 512 11) ∷ patch_at 0 336 0 (replicate 512 11) ∷ patch_at 0 337 0 (replicate 512 11) ∷
    patch_at 0 338 0 (replicate 512 11) ∷ patch_at 0 339 0 (replicate 512 11) ∷ patch_at 0 340 0 (replicate 512 11) ∷
    patch_at 0 341 0 (replicate 512 11) ∷ patch_at 0 342 0 (replicate 512 11) ∷ patch_at 0 343 0 (replicate 512 11) ∷
    patch_at 0 344 0 (replicate 512 11) ∷ patch_at 0 345 0 (replicate 512 11) ∷ patch_at 0 346 0 (replicate 512 11) ∷
    patch_at 0 347 0 (replicate 512 11) ∷ patch_at 0 348 0 (replicate 512 11) ∷ patch_at 0 349 0 (replicate 512 11) ∷
    patch_at 0 350 0 (replicate 512 11) ∷ patch_at 0 351 0 (replicate 512 11) ∷ patch_at 0 352 0 (replicate 512 11) ∷
    patch_at 0 353 0 (replicate 512 11) ∷ patch_at 0 354 0 (replicate 512 11) ∷ patch_at 0 355 0 (replicate 512 11) ∷
    patch_at 0 356 0 (replicate 512 11) ∷ patch_at 0 357 0 (replicate 512 11) ∷ patch_at 0 358 0 (replicate 512 11) ∷
    patch_at 0 359 0 (replicate 512 11) ∷ patch_at 0 360 0 (replicate 512 11) ∷ patch_at 0 361 0 (replicate 512 11) ∷
    patch_at 0 362 0 (replicate 512 11) ∷ patch_at 0 363 0 (replicate 512 11) ∷ patch_at 0 364 0 (replicate 512 11) ∷
    patch_at 0 365 0 (replicate 512 11) ∷ patch_at 0 366 0 (replicate 512 11) ∷ patch_at 0 367 0 (replicate 512 11) ∷
    patch_at 0 368 0 (replicate 512 11) ∷ patch_at 0 369 0 (replicate 512 11) ∷ patch_at 0 370 0 (replicate 512 11) ∷
    patch_at 0 371 0 (replicate 512 11) ∷ patch_at 0 372 0 (replicate 512 11) ∷ patch_at 0 373 0 (replicate 512 11) ∷
    patch_at 0 374 0 (replicate 512 11) ∷ patch_at 0 375 0 (replicate 512 11) ∷ patch_at 0 376 0 (replicate 512 11) ∷
    patch_at 0 377 0 (replicate 512 11) ∷ patch_at 0 378 0 (replicate 512 11) ∷ patch_at 0 379 0 (replicate 512 11) ∷
    patch_at 0 380 0 (replicate 512 11) ∷ patch_at 0 381 0 (replicate 512 11) ∷ patch_at 0 382 0 (replicate 512 11) ∷
    patch_at 0 383 0 (replicate 512 11) ∷ patch_at 0 384 0 (replicate 512 11) ∷ patch_at 0 385 0 (replicate 512 11) ∷
    patch_at 0 386 0 (replicate 512 11) ∷ patch_at 0 387 0 (replicate 512 11) ∷ patch_at 0 388 0 (replicate 512 11) ∷
    patch_at 0 389 0 (replicate 512 11) ∷ patch_at 0 390 0 (replicate 512 11) ∷ patch_at 0 391 0 (replicate 512 11) ∷
    patch_at 0 392 0 (replicate 512 11) ∷ patch_at 0 393 0 (replicate 512 11) ∷ patch_at 0 394 0 (replicate 512 11) ∷
    patch_at 0 395 0 (replicate 512 11) ∷ patch_at 0 396 0 (replicate 512 11) ∷ patch_at 0 397 0 (replicate 512 11) ∷
    patch_at 0 398 0 (replicate 512 11) ∷ patch_at 0 399 0 (replicate 512 11) ∷ patch_at 0 400 0 (replicate 512 11) ∷
    patch_at 0 401 0 (replicate 512 11) ∷ patch_at 0 402 0 (replicate 512 11) ∷ patch_at 0 403 0 (replicate 512 11) ∷
    patch_at 0 404 0 (replicate 512 11) ∷ patch_at 0 405 0 (replicate 512 11) ∷ patch_at 0 406 0 (replicate 512 11) ∷
    patch_at 0 407 0 (replicate 512 11) ∷ patch_at 0 408 0 (replicate 512 11) ∷ patch_at 0 409 0 (replicate 512 11) ∷
    patch_at 0 410 0 (replicate 512 11) ∷ patch_at 0 411 0 (replicate 512 11) ∷ patch_at 0 412 0 (replicate 512 11) ∷
    patch_at 0 413 0 (replicate 512 11) ∷ patch_at 0 414 0 (replicate 512 11) ∷ patch_at 0 415 0 (replicate 512 11) ∷
    patch_at 0 416 0 (replicate 512 11) ∷ patch_at 0 417 0 (replicate 512 11) ∷ patch_at 0 418 0 (replicate 512 11) ∷
    patch_at 0 419 0 (replicate 512 11) ∷ patch_at 0 420 0 (replicate 512 11) ∷ patch_at 0 421 0 (replicate 512 11) ∷
    patch_at 0 422 0 (replicate 512 11) ∷ patch_at 0 423 0 (replicate 512 11) ∷ patch_at 0 424 0 (replicate 512 11) ∷
    patch_at 0 425 0 (replicate 512 11) ∷ patch_at 0 426 0 (replicate 512 11) ∷ patch_at 0 427 0 (replicate 509 11) ∷
    patch_at 0 428 0 (hex 40 0x660000006700000068000000690000006a0000006b0000006c0000006d0000006e0000006f000000
    ++ hex 40 0x70000000710000007200000073000000740000007500000076000000770000007800000079000000
    ++ hex 40 0x7a0000007b0000007c0000007d0000007e0000007f00000080000000810000008200000083000000
    ++ hex 40 0x8400000085000000860000008700000088000000890000008a0000008b0000008c0000008d000000
    ++ hex 40 0x8e0000008f0000009000000091000000920000009300000094000000950000009600000097000000
    ++ hex 40 0x98000000990000009a0000009b0000009c0000009d0000009e0000009f000000a0000000a1000000
    ++ hex 13 0xa2000000a3000000a4000000a5) ∷
    patch_at 0 430 497 (hex 1 0x01) ∷ patch_at 0 430 510 (hex 2 0x55aa) ∷ patch_at 0 431 2 (hex 6 0x486472530602) ∷
    patch_at 0 431 17 (hex 1 0x01) ∷ patch_at 0 431 44 (hex 4 0xffffff37) ∷ patch_at 0 431 56 (hex 1 0xff) ∷
    patch_at 0 432 0 (replicate 512 120) ∷ patch_at 0 433 0 (replicate 512 120) ∷ patch_at 0 434 0 (replicate 512 5) ∷
    patch_at 0 435 0 (replicate 512 5) ∷ patch_at 0 436 0 (replicate 512 120) ∷ patch_at 0 437 0 (replicate 512 120) ∷
    patch_at 0 438 0 (replicate 512 5) ∷ patch_at 0 439 0 (replicate 512 5) ∷ patch_at 0 440 0 (replicate 512 120) ∷
    patch_at 0 441 0 (replicate 512 120) ∷ patch_at 0 442 0 (replicate 512 5) ∷ patch_at 0 443 0 (replicate 512 5) ∷
    patch_at 0 444 0 (replicate 512 5) ∷ patch_at 0 445 0 (replicate 512 5) ∷ patch_at 0 446 0 (replicate 380 5) ∷
    patch_at 1 0 3 (codes "MBR2") ∷ patch_at 1 0 450 (hex 9 0x060000001100000064) ∷
    patch_at 1 0 466 (hex 9 0x0500000096000000c8) ∷ patch_at 1 0 510 (hex 2 0x55aa) ∷ patch_at 1 17 3 (codes "FAT") ∷
    patch_at 1 17 510 (hex 2 0x55aa) ∷ patch_at 1 150 450 (hex 9 0x830000000a00000028) ∷
    patch_at 1 150 466 (hex 9 0x05000000640000003c) ∷ patch_at 1 150 510 (hex 2 0x55aa) ∷
    patch_at 1 160 3 (codes "LOGICAL") ∷ patch_at 1 160 510 (hex 2 0x55aa) ∷
    patch_at 1 250 450 (hex 9 0x830000000500000028) ∷ patch_at 1 250 510 (hex 2 0x55aa) ∷ []

-- a volume in a logical partition, and files with holes
abbrev pub disk_hole_files : List Patch
disk_hole_files =
    patch_at 0 0 450 (hex 9 0x83000000110000001e) ∷ patch_at 0 0 466 (hex 10 0x05000000440000006009) ∷
    patch_at 0 0 510 (hex 2 0x55aa) ∷ patch_at 0 17 3 (codes "ROOT") ∷ patch_at 0 17 510 (hex 2 0x55aa) ∷
    patch_at 0 68 450 (hex 10 0x8100000022000000fc08) ∷ patch_at 0 68 510 (hex 2 0x55aa) ∷
    patch_at 0 104 0 (hex 9 0x20007e040100010005) ∷ patch_at 0 104 13 (hex 6 0x1c08107f1301) ∷
    patch_at 0 106 0 (hex 5 0xffff0000fe ++ replicate 507 255) ∷ patch_at 0 107 0 (replicate 512 255) ∷
    patch_at 0 108 0 (hex 4 0xffffbf06) ∷ patch_at 0 108 143 (hex 1 0xfc ++ replicate 368 255) ∷
    patch_at 0 109 0 (replicate 512 255) ∷ patch_at 0 110 0 (hex 5 0xed41000080) ∷ patch_at 0 110 13 (hex 2 0x0305) ∷
    patch_at 0 110 32 (hex 5 0xed410000d0) ∷ patch_at 0 110 45 (hex 2 0x0306) ∷ patch_at 0 110 64 (hex 5 0xed41000030) ∷
    patch_at 0 110 77 (hex 2 0x0207) ∷ patch_at 0 110 96 (hex 6 0xa4810000581b) ∷
    patch_at 0 110 109 (hex 4 0x01080009) ∷ patch_at 0 110 118 (hex 5 0x0a000b000c) ∷
    patch_at 0 110 128 (hex 6 0xa4810000d40e) ∷ patch_at 0 110 141 (hex 8 0x0100000d0000000e) ∷
    patch_at 0 110 160 (hex 6 0xa4810000000c) ∷ patch_at 0 110 173 (hex 1 0x01) ∷
    patch_at 0 110 192 (hex 6 0xa48100000504) ∷ patch_at 0 110 205 (hex 4 0x010f0010) ∷
    patch_at 0 110 224 (hex 6 0xa4810000b801) ∷ patch_at 0 110 237 (hex 2 0x0111) ∷
    patch_at 0 110 256 (hex 6 0xa4810000b404) ∷ patch_at 0 110 269 (hex 4 0x01120013) ∷
    patch_at 0 110 288 (hex 2 0xa481) ∷ patch_at 0 110 301 (hex 1 0x01) ∷ patch_at 0 110 320 (hex 6 0xa48100000102) ∷
    patch_at 0 110 333 (hex 2 0x0114) ∷ patch_at 0 110 352 (hex 5 0xffa1000014) ∷ patch_at 0 110 365 (hex 2 0x0115) ∷
    patch_at 0 110 384 (hex 5 0xa481000001) ∷ patch_at 0 110 397 (hex 2 0x0116) ∷
    patch_at 0 110 416 (hex 6 0xa48100000104) ∷ patch_at 0 110 429 (hex 4 0x01170018) ∷
    patch_at 0 110 448 (hex 6 0xa4810000a00f) ∷ patch_at 0 110 461 (hex 8 0x0119001b001d001e) ∷
    patch_at 0 112 0 (hex 3 0x01002e) ∷ patch_at 0 112 16 (hex 4 0x01002e2e) ∷
    patch_at 0 112 32 (hex 6 0x0200626f6f74) ∷ patch_at 0 112 48 (hex 11 0x0d006c696c6f2e636f6e66) ∷
    patch_at 0 114 0 (hex 3 0x02002e) ∷ patch_at 0 114 16 (hex 4 0x01002e2e) ∷ patch_at 0 114 32 (hex 5 0x0300737562) ∷
    patch_at 0 114 48 (hex 6 0x0400686f6c65) ∷ patch_at 0 114 64 (hex 8 0x05007264686f6c65) ∷
    patch_at 0 114 80 (hex 8 0x060072647a65726f) ∷ patch_at 0 114 96 (hex 6 0x0800636f6465) ∷
    patch_at 0 114 112 (hex 7 0x09006d686f6c65) ∷ patch_at 0 114 128 (hex 6 0x0a006e6f6e65) ∷
    patch_at 0 114 144 (hex 4 0x0b007264) ∷ patch_at 0 114 160 (hex 3 0x0c006b) ∷
    patch_at 0 114 176 (hex 6 0x0e006c617465) ∷ patch_at 0 114 192 (hex 7 0x0f006170617274) ∷
    patch_at 0 116 0 (hex 3 0x03002e) ∷ patch_at 0 116 16 (hex 4 0x02002e2e) ∷ patch_at 0 116 32 (hex 3 0x07006b) ∷
    patch_at 0 118 497 (hex 1 0x01) ∷ patch_at 0 118 510 (hex 2 0x55aa) ∷ patch_at 0 119 2 (hex 6 0x486472530602) ∷
    patch_at 0 119 17 (hex 1 0x01) ∷ patch_at 0 119 44 (hex 4 0xffffff37) ∷ patch_at 0 119 56 (hex 1 0xff) ∷
    patch_at 0 120 0 (replicate 512 7) ∷ patch_at 0 121 0 (replicate 512 7) ∷ patch_at 0 122 0 (replicate 512 7) ∷
    patch_at 0 123 0 (replicate 512 7) ∷ patch_at 0 124 0 (replicate 512 7) ∷ patch_at 0 125 0 (replicate 512 7) ∷
    patch_at 0 128 0 (replicate 512 82) ∷ patch_at 0 129 0 (replicate 488 82) ∷ patch_at 0 130 24 (replicate 488 114) ∷
    patch_at 0 131 0 (replicate 212 114) ∷ patch_at 0 132 497 (hex 1 0x01) ∷ patch_at 0 132 510 (hex 2 0x55aa) ∷
    patch_at 0 133 2 (hex 6 0x486472530602) ∷ patch_at 0 133 17 (hex 1 0x01) ∷ patch_at 0 133 44 (hex 4 0xffffff37) ∷
    patch_at 0 133 56 (hex 1 0xff) ∷ patch_at 0 134 0 (codes "HELLO") ∷ patch_at 0 136 0 (replicate 440 195) ∷
    patch_at 0 138 0 (codes "Hi") ∷ patch_at 0 140 178 (codes "!\n") ∷ patch_at 0 142 0 (replicate 512 165) ∷
    patch_at 0 143 0 (hex 1 0xa5) ∷ patch_at 0 144 0 (codes "../boot/sub/../sub/k") ∷ patch_at 0 146 0 (codes "#") ∷
    patch_at 0 148 497 (hex 1 0x01) ∷ patch_at 0 148 510 (hex 2 0x55aa) ∷ patch_at 0 149 2 (hex 6 0x486472530002) ∷
    patch_at 0 149 17 (hex 1 0x01) ∷ patch_at 0 149 44 (hex 4 0xffffff37) ∷ patch_at 0 149 56 (hex 1 0xff) ∷
    patch_at 0 150 0 (hex 1 0x01) ∷ patch_at 0 152 497 (hex 1 0x01) ∷ patch_at 0 152 510 (hex 2 0x55aa) ∷
    patch_at 0 153 2 (hex 6 0x486472530602) ∷ patch_at 0 153 17 (hex 1 0x01) ∷ patch_at 0 153 44 (hex 4 0xffffff37) ∷
    patch_at 0 153 56 (hex 1 0xff) ∷ patch_at 0 154 0 (replicate 512 120) ∷ patch_at 0 155 0 (replicate 512 120) ∷
    patch_at 0 156 0 (replicate 512 5) ∷ patch_at 0 157 0 (replicate 512 5) ∷ patch_at 0 158 0 (replicate 512 120) ∷
    patch_at 0 159 0 (replicate 512 120) ∷ patch_at 0 160 0 (replicate 512 5) ∷ patch_at 0 161 0 (replicate 512 5) ∷
    patch_at 0 162 0 (replicate 512 5) ∷ patch_at 0 163 0 (replicate 416 5) ∷ patch_at 1 0 3 (codes "MBR2") ∷
    patch_at 1 0 450 (hex 9 0x060000001100000064) ∷ patch_at 1 0 466 (hex 9 0x0500000096000000c8) ∷
    patch_at 1 0 510 (hex 2 0x55aa) ∷ patch_at 1 17 3 (codes "FAT") ∷ patch_at 1 17 510 (hex 2 0x55aa) ∷
    patch_at 1 150 450 (hex 9 0x830000000a00000028) ∷ patch_at 1 150 466 (hex 9 0x05000000640000003c) ∷
    patch_at 1 150 510 (hex 2 0x55aa) ∷ patch_at 1 160 3 (codes "LOGICAL") ∷ patch_at 1 160 510 (hex 2 0x55aa) ∷
    patch_at 1 250 450 (hex 9 0x830000000500000028) ∷ patch_at 1 250 510 (hex 2 0x55aa) ∷ []

-- the sample configuration: its disks
abbrev pub disk_sample : List Patch
disk_sample = disk_files

-- no prompt, no timeout: its disks
abbrev pub disk_no_prompt : List Patch
disk_no_prompt = disk_files

-- a delay: its disks
abbrev pub disk_delayed : List Patch
disk_delayed = disk_files

-- compact: its disks
abbrev pub disk_compact : List Patch
disk_compact = disk_files

-- addresses by cylinder, head and sector: its disks
abbrev pub disk_chs : List Patch
disk_chs = disk_files

-- linear addresses: its disks
abbrev pub disk_linear : List Patch
disk_linear = disk_files

-- compact, by cylinder, head and sector: its disks
abbrev pub disk_compact_chs : List Patch
disk_compact_chs = disk_files

-- a hole in a kernel: its disks
abbrev pub disk_hole : List Patch
disk_hole =
    disk_files
    ++ (patch_at 0 70 1 (hex 1 0x07) ∷ patch_at 0 72 101 (hex 1 0x10) ∷ patch_at 0 72 116 (hex 3 0x0b000c) ∷
    patch_at 0 72 142 (hex 1 0x0d) ∷ patch_at 0 72 174 (hex 1 0x0e) ∷ patch_at 0 72 206 (hex 1 0x0f) ∷
    patch_at 0 84 0 (replicate 512 7) ∷ patch_at 0 85 0 (replicate 512 7) ∷ patch_at 0 86 0 (replicate 512 7) ∷
    patch_at 0 87 0 (replicate 512 7) ∷ patch_at 0 88 0 (replicate 5 7 ++ replicate 507 0) ∷
    patch_at 0 90 0 (replicate 512 165) ∷ patch_at 0 91 0 (replicate 188 165) ∷ patch_at 0 92 0 (replicate 512 144) ∷
    patch_at 0 94 0 (codes "#") ∷ [])

-- a hole, and compact: its disks
abbrev pub disk_hole_compact : List Patch
disk_hole_compact =
    disk_files
    ++ (patch_at 0 70 1 (hex 1 0x07) ∷ patch_at 0 72 101 (hex 1 0x10) ∷ patch_at 0 72 116 (hex 3 0x0b000c) ∷
    patch_at 0 72 142 (hex 1 0x0d) ∷ patch_at 0 72 174 (hex 1 0x0e) ∷ patch_at 0 72 206 (hex 1 0x0f) ∷
    patch_at 0 84 0 (replicate 512 7) ∷ patch_at 0 85 0 (replicate 512 7) ∷ patch_at 0 86 0 (replicate 512 7) ∷
    patch_at 0 87 0 (replicate 512 7) ∷ patch_at 0 88 0 (replicate 5 7 ++ replicate 507 0) ∷
    patch_at 0 90 0 (replicate 512 165) ∷ patch_at 0 91 0 (replicate 188 165) ∷ patch_at 0 92 0 (replicate 512 144) ∷
    patch_at 0 94 0 (codes "#") ∷ [])

-- a restricted password: its disks
abbrev pub disk_password : List Patch
disk_password = disk_files

-- a password for all: its disks
abbrev pub disk_all_password : List Patch
disk_all_password = disk_files

-- an alias, a fallback, texts and a video mode: its disks
abbrev pub disk_alias_fallback : List Patch
disk_alias_fallback = disk_files

-- a lock: its disks
abbrev pub disk_lock : List Patch
disk_lock = disk_files

-- a literal text and a message: its disks
abbrev pub disk_literal : List Patch
disk_literal =
    disk_files
    ++ (patch_at 0 68 1 (hex 1 0x01) ∷ patch_at 0 70 1 (hex 1 0x03) ∷ patch_at 0 72 36 (hex 1 0xc0) ∷
    patch_at 0 72 196 (hex 1 0x0c) ∷ patch_at 0 72 224 (hex 5 0xa481000001) ∷ patch_at 0 72 237 (hex 2 0x010e) ∷
    patch_at 0 78 160 (hex 5 0x07006d7367) ∷ patch_at 0 80 64 (hex 1 0x08) ∷ patch_at 0 90 0 (codes "Hello\nthere\n") ∷
    patch_at 0 92 0 (codes "#") ∷ [])

-- an empty message: its disks
abbrev pub disk_empty_message : List Patch
disk_empty_message =
    disk_files
    ++ (patch_at 0 68 1 (hex 1 0x01) ∷ patch_at 0 72 36 (hex 1 0xc0) ∷ patch_at 0 72 196 (hex 1 0x00) ∷
    patch_at 0 72 206 (hex 1 0x00) ∷ patch_at 0 72 224 (hex 5 0xa481000001) ∷ patch_at 0 72 237 (hex 2 0x010d) ∷
    patch_at 0 78 160 (hex 5 0x07006d7367) ∷ patch_at 0 80 64 (hex 1 0x08) ∷ [])

-- a kernel before the protocol: its disks
abbrev pub disk_low : List Patch
disk_low =
    disk_files
    ++ (patch_at 0 68 0 (hex 1 0x7f) ∷ patch_at 0 70 1 (hex 1 0x00) ∷ patch_at 0 72 36 (hex 1 0x80) ∷
    patch_at 0 72 132 (hex 1 0x00) ∷ patch_at 0 72 164 (hex 2 0x0100) ∷ patch_at 0 72 192 (replicate 5 0) ∷
    patch_at 0 72 205 (hex 2 0x0000) ∷ patch_at 0 78 98 (codes "boot.b") ∷ patch_at 0 78 128 (replicate 8 0) ∷
    patch_at 0 80 64 (hex 1 0x06) ∷ patch_at 0 83 2 (replicate 6 0) ∷ patch_at 0 83 17 (hex 1 0x00) ∷
    patch_at 0 86 0 (replicate 512 144) ∷ patch_at 0 87 0 (replicate 188 0) ∷
    patch_at 0 88 0 (codes "#" ++ replicate 511 0) ∷ patch_at 0 90 0 (hex 1 0x00) ∷ [])

-- one with an initrd: its disks
abbrev pub disk_low_initrd : List Patch
disk_low_initrd = disk_files ++ (patch_at 0 83 2 (replicate 6 0) ∷ patch_at 0 83 17 (hex 1 0x00) ∷ [])

-- no number of setup sectors: its disks
abbrev pub disk_row8 : List Patch
disk_row8 =
    disk_files
    ++ (patch_at 0 68 0 (hex 1 0x7f) ∷ patch_at 0 70 1 (hex 1 0x00) ∷ patch_at 0 72 36 (hex 1 0x80) ∷
    patch_at 0 72 101 (codes "\n") ∷ patch_at 0 72 112 (hex 3 0x00000a) ∷ patch_at 0 72 132 (hex 1 0x00) ∷
    patch_at 0 72 164 (hex 2 0x0100) ∷ patch_at 0 72 192 (replicate 5 0) ∷ patch_at 0 72 205 (hex 2 0x0000) ∷
    patch_at 0 78 98 (codes "boot.b") ∷ patch_at 0 78 128 (replicate 8 0) ∷ patch_at 0 80 64 (hex 1 0x06) ∷
    patch_at 0 82 497 (hex 1 0x00) ∷ patch_at 0 84 0 (replicate 5 0) ∷ patch_at 0 85 0 (codes "PMODE") ∷
    patch_at 0 86 0 (replicate 512 144) ∷ patch_at 0 87 0 (replicate 188 0) ∷
    patch_at 0 88 0 (codes "#" ++ replicate 511 0) ∷ patch_at 0 90 0 (hex 1 0x00) ∷ [])

-- optional sections: its disks
abbrev pub disk_optional : List Patch
disk_optional =
    disk_files
    ++ (patch_at 0 68 1 (hex 1 0x01) ∷ patch_at 0 70 1 (hex 1 0x07) ∷ patch_at 0 72 36 (hex 1 0xc0) ∷
    patch_at 0 72 196 (hex 2 0x4006) ∷ patch_at 0 72 208 (hex 1 0x0e) ∷ patch_at 0 72 224 (hex 5 0xa481000001) ∷
    patch_at 0 72 237 (hex 2 0x010f) ∷ patch_at 0 78 160 (hex 5 0x07006f6c64) ∷ patch_at 0 80 64 (hex 1 0x08) ∷
    patch_at 0 90 0 (hex 1 0x00) ∷ patch_at 0 90 497 (hex 1 0x01) ∷ patch_at 0 90 510 (hex 2 0x55aa) ∷
    patch_at 0 91 2 (hex 6 0x486472530602) ∷ patch_at 0 91 17 (hex 1 0x01) ∷ patch_at 0 91 44 (hex 4 0xffffff37) ∷
    patch_at 0 91 56 (hex 1 0xff) ∷ patch_at 0 92 0 (replicate 512 5) ∷ patch_at 0 93 0 (replicate 64 5) ∷
    patch_at 0 94 0 (codes "#") ∷ [])

-- two other systems: its disks
abbrev pub disk_other : List Patch
disk_other = disk_systems

-- the table of the boot device: its disks
abbrev pub disk_own_table : List Patch
disk_own_table = disk_systems

-- links, an empty initrd, a short code: its disks
abbrev pub disk_link : List Patch
disk_link =
    disk_files
    ++ (patch_at 0 68 1 (hex 1 0x03) ∷ patch_at 0 70 1 (hex 1 0x03) ∷ patch_at 0 72 4 (hex 1 0xa0) ∷
    patch_at 0 72 36 (hex 1 0xc0) ∷ patch_at 0 72 128 (hex 6 0xffa100000500) ∷
    patch_at 0 72 160 (hex 6 0xffa100000800) ∷ patch_at 0 72 196 (hex 1 0x00) ∷ patch_at 0 72 206 (hex 1 0x00) ∷
    patch_at 0 72 224 (hex 5 0xa4810000c8) ∷ patch_at 0 72 237 (hex 2 0x010d) ∷ patch_at 0 72 256 (hex 5 0xa481000001) ∷
    patch_at 0 72 269 (hex 2 0x010e) ∷ patch_at 0 76 128 (hex 4 0x06006c32) ∷
    patch_at 0 78 66 (hex 7 0x6b310000000000) ∷ patch_at 0 78 98 (codes "vmlinuz") ∷
    patch_at 0 78 128 (hex 8 0x0700696e69747264) ∷ patch_at 0 78 160 (hex 8 0x0800626f6f742e62) ∷
    patch_at 0 80 64 (hex 1 0x09) ∷ patch_at 0 86 0 (codes "../l2" ++ replicate 507 0) ∷
    patch_at 0 87 0 (replicate 188 0) ∷ patch_at 0 88 0 (codes "/boot/k1" ++ replicate 504 0) ∷
    patch_at 0 90 0 (replicate 200 144) ∷ patch_at 0 92 0 (codes "#") ∷ [])

-- two section sectors: its disks
abbrev pub disk_two_chain : List Patch
disk_two_chain =
    disk_files
    ++ (patch_at 0 68 0 (hex 1 0x7f) ∷ patch_at 0 70 1 (hex 4 0xffffff7f) ∷ patch_at 0 72 36 (hex 1 0x80) ∷
    patch_at 0 72 100 (hex 2 0x0080) ∷ patch_at 0 72 114 (hex 11 0x0b000c000d000e000f0029) ∷
    patch_at 0 72 132 (hex 1 0x00) ∷ patch_at 0 72 142 (codes "*") ∷ patch_at 0 72 164 (hex 2 0x0100) ∷
    patch_at 0 72 174 (codes "+") ∷ patch_at 0 72 192 (replicate 5 0) ∷ patch_at 0 72 205 (hex 2 0x0000) ∷
    patch_at 0 78 98 (codes "boot.b") ∷ patch_at 0 78 128 (replicate 8 0) ∷ patch_at 0 80 64 (hex 1 0x06) ∷
    patch_at 0 84 0 (replicate 512 5) ∷ patch_at 0 85 0 (replicate 512 5) ∷ patch_at 0 86 0 (replicate 512 5) ∷
    patch_at 0 87 0 (replicate 512 5) ∷ patch_at 0 88 0 (replicate 512 5) ∷ patch_at 0 89 0 (replicate 512 5) ∷
    patch_at 0 90 0 (replicate 512 5) ∷ patch_at 0 91 0 (replicate 512 5) ∷ patch_at 0 92 0 (replicate 512 5) ∷
    patch_at 0 93 0 (replicate 512 5) ∷ patch_at 0 94 0 (replicate 512 5) ∷ patch_at 0 95 0 (replicate 512 5) ∷
    patch_at 0 96 0 (replicate 512 5) ∷ patch_at 0 97 0 (replicate 512 5) ∷ patch_at 0 98 0 (replicate 512 5) ∷
    patch_at 0 99 0 (replicate 512 5) ∷ patch_at 0 100 0 (replicate 512 5) ∷ patch_at 0 101 0 (replicate 512 5) ∷
    patch_at 0 102 0 (replicate 512 5) ∷ patch_at 0 103 0 (replicate 512 5) ∷ patch_at 0 104 0 (replicate 512 5) ∷
    patch_at 0 105 0 (replicate 512 5) ∷ patch_at 0 106 0 (replicate 512 5) ∷ patch_at 0 107 0 (replicate 512 5) ∷
    patch_at 0 108 0 (replicate 512 5) ∷ patch_at 0 109 0 (replicate 512 5) ∷ patch_at 0 110 0 (replicate 512 5) ∷
    patch_at 0 111 0 (replicate 512 5) ∷ patch_at 0 112 0 (replicate 512 5) ∷ patch_at 0 113 0 (replicate 512 5) ∷
    patch_at 0 114 0 (replicate 512 5) ∷ patch_at 0 115 0 (replicate 512 5) ∷ patch_at 0 116 0 (replicate 512 5) ∷
    patch_at 0 117 0 (replicate 512 5) ∷ patch_at 0 118 0 (replicate 512 5) ∷ patch_at 0 119 0 (replicate 512 5) ∷
    patch_at 0 120 0 (replicate 512 5) ∷ patch_at 0 121 0 (replicate 512 5) ∷ patch_at 0 122 0 (replicate 512 5) ∷
    patch_at 0 123 0 (replicate 512 5) ∷ patch_at 0 124 0 (replicate 512 5) ∷ patch_at 0 125 0 (replicate 512 5) ∷
    patch_at 0 126 0 (replicate 512 5) ∷ patch_at 0 127 0 (replicate 512 5) ∷ patch_at 0 128 0 (replicate 512 5) ∷
    patch_at 0 129 0 (replicate 512 5) ∷ patch_at 0 130 0 (replicate 512 5) ∷ patch_at 0 131 0 (replicate 512 5) ∷
    patch_at 0 132 0 (replicate 512 5) ∷ patch_at 0 133 0 (replicate 512 5) ∷ patch_at 0 134 0 (replicate 512 5) ∷
    patch_at 0 135 0 (replicate 512 5) ∷ patch_at 0 136 0 (replicate 512 5) ∷ patch_at 0 137 0 (replicate 512 5) ∷
    patch_at 0 138 0 (replicate 512 5) ∷ patch_at 0 139 0 (replicate 512 5) ∷ patch_at 0 140 0 (replicate 512 5) ∷
    patch_at 0 141 0 (replicate 512 5) ∷ patch_at 0 142 0 (replicate 512 5) ∷ patch_at 0 143 0 (replicate 512 5) ∷
    patch_at 0 144 0 (replicate 512 5) ∷ patch_at 0 145 0 (replicate 512 5) ∷
    patch_at 0 146 0 (hex 40 0x10001100120013001400150016001700180019001a001b001c001d001e001f002000210022002300
    ++ hex 9 0x240025002600270028) ∷
    patch_at 0 148 0 (replicate 512 144) ∷ patch_at 0 150 0 (codes "#") ∷ [])

-- version 2 with short names: its disks
abbrev pub disk_v2_short : List Patch
disk_v2_short =
    patch_at 0 0 450 (hex 10 0x8100000040000000c00f) ∷ patch_at 0 0 510 (hex 2 0x55aa) ∷
    patch_at 0 66 0 (hex 22 0x400000000100010008000000ffffff7f68240100e007) ∷ patch_at 0 68 0 (hex 1 0xff) ∷
    patch_at 0 68 8 (hex 1 0xfe ++ replicate 503 255) ∷ patch_at 0 69 0 (replicate 512 255) ∷
    patch_at 0 70 0 (hex 2 0xff01) ∷ patch_at 0 70 251 (hex 1 0xfe ++ replicate 260 255) ∷
    patch_at 0 71 0 (replicate 512 255) ∷ patch_at 0 72 0 (hex 3 0xed4104) ∷ patch_at 0 72 8 (codes "@") ∷
    patch_at 0 72 24 (hex 1 0x08) ∷ patch_at 0 72 64 (hex 3 0xed4102) ∷ patch_at 0 72 72 (codes "P") ∷
    patch_at 0 72 88 (hex 1 0x09) ∷ patch_at 0 72 128 (hex 3 0xed4102) ∷ patch_at 0 72 136 (codes "0") ∷
    patch_at 0 72 152 (codes "\n") ∷ patch_at 0 72 192 (hex 3 0xa48101) ∷ patch_at 0 72 200 (hex 2 0x0504) ∷
    patch_at 0 72 216 (hex 5 0x0b0000000c) ∷ patch_at 0 72 256 (hex 3 0xa48101) ∷ patch_at 0 72 264 (hex 2 0xbc02) ∷
    patch_at 0 72 280 (hex 1 0x0d) ∷ patch_at 0 72 320 (hex 3 0xa48101) ∷ patch_at 0 72 329 (hex 1 0x02) ∷
    patch_at 0 72 344 (hex 1 0x0e) ∷ patch_at 0 72 384 (hex 3 0xa48101) ∷ patch_at 0 72 392 (hex 1 0x01) ∷
    patch_at 0 72 408 (hex 1 0x0f) ∷ patch_at 0 80 0 (hex 3 0x01002e) ∷ patch_at 0 80 16 (hex 4 0x01002e2e) ∷
    patch_at 0 80 32 (hex 6 0x0200626f6f74) ∷ patch_at 0 80 48 (hex 5 0x0300657463) ∷ patch_at 0 82 0 (hex 3 0x02002e) ∷
    patch_at 0 82 16 (hex 4 0x01002e2e) ∷ patch_at 0 82 32 (hex 9 0x0400766d6c696e757a) ∷
    patch_at 0 82 48 (hex 8 0x0500696e69747264) ∷ patch_at 0 82 64 (hex 8 0x0600626f6f742e62) ∷
    patch_at 0 84 0 (hex 3 0x03002e) ∷ patch_at 0 84 16 (hex 4 0x01002e2e) ∷
    patch_at 0 84 32 (hex 11 0x07006c696c6f2e636f6e66) ∷ patch_at 0 86 497 (hex 1 0x01) ∷
    patch_at 0 86 510 (hex 2 0x55aa) ∷ patch_at 0 87 2 (hex 6 0x486472530602) ∷ patch_at 0 87 17 (hex 1 0x01) ∷
    patch_at 0 87 44 (hex 4 0xffffff37) ∷ patch_at 0 87 56 (hex 1 0xff) ∷ patch_at 0 88 0 (codes "HELLO") ∷
    patch_at 0 90 0 (replicate 512 165) ∷ patch_at 0 91 0 (replicate 188 165) ∷ patch_at 0 92 0 (replicate 512 144) ∷
    patch_at 0 94 0 (codes "#") ∷ []

-- version 1 with short names, odd geometry: its disks
abbrev pub disk_v1_short : List Patch
disk_v1_short =
    patch_at 0 0 450 (hex 10 0x8100000011000000d007) ∷ patch_at 0 0 510 (hex 2 0x55aa) ∷
    patch_at 0 19 0 (hex 9 0x2000e8030100010005) ∷ patch_at 0 19 13 (hex 6 0x1c08107f1301) ∷
    patch_at 0 21 0 (hex 5 0xff000000fe ++ replicate 507 255) ∷ patch_at 0 22 0 (replicate 512 255) ∷
    patch_at 0 23 0 (hex 2 0xff01) ∷ patch_at 0 23 124 (hex 1 0xf0 ++ replicate 387 255) ∷
    patch_at 0 24 0 (replicate 512 255) ∷ patch_at 0 25 0 (hex 5 0xed41000040) ∷ patch_at 0 25 13 (hex 2 0x0405) ∷
    patch_at 0 25 32 (hex 5 0xed41000050) ∷ patch_at 0 25 45 (hex 2 0x0206) ∷ patch_at 0 25 64 (hex 5 0xed41000030) ∷
    patch_at 0 25 77 (hex 2 0x0207) ∷ patch_at 0 25 96 (hex 6 0xa48100000504) ∷ patch_at 0 25 109 (hex 4 0x01080009) ∷
    patch_at 0 25 128 (hex 6 0xa4810000bc02) ∷ patch_at 0 25 141 (hex 2 0x010a) ∷
    patch_at 0 25 160 (hex 6 0xa48100000002) ∷ patch_at 0 25 173 (hex 2 0x010b) ∷
    patch_at 0 25 192 (hex 5 0xa481000001) ∷ patch_at 0 25 205 (hex 2 0x010c) ∷ patch_at 0 27 0 (hex 3 0x01002e) ∷
    patch_at 0 27 16 (hex 4 0x01002e2e) ∷ patch_at 0 27 32 (hex 6 0x0200626f6f74) ∷
    patch_at 0 27 48 (hex 5 0x0300657463) ∷ patch_at 0 29 0 (hex 3 0x02002e) ∷ patch_at 0 29 16 (hex 4 0x01002e2e) ∷
    patch_at 0 29 32 (hex 9 0x0400766d6c696e757a) ∷ patch_at 0 29 48 (hex 8 0x0500696e69747264) ∷
    patch_at 0 29 64 (hex 8 0x0600626f6f742e62) ∷ patch_at 0 31 0 (hex 3 0x03002e) ∷
    patch_at 0 31 16 (hex 4 0x01002e2e) ∷ patch_at 0 31 32 (hex 11 0x07006c696c6f2e636f6e66) ∷
    patch_at 0 33 497 (hex 1 0x01) ∷ patch_at 0 33 510 (hex 2 0x55aa) ∷ patch_at 0 34 2 (hex 6 0x486472530602) ∷
    patch_at 0 34 17 (hex 1 0x01) ∷ patch_at 0 34 44 (hex 4 0xffffff37) ∷ patch_at 0 34 56 (hex 1 0xff) ∷
    patch_at 0 35 0 (codes "HELLO") ∷ patch_at 0 37 0 (replicate 512 165) ∷ patch_at 0 38 0 (replicate 188 165) ∷
    patch_at 0 39 0 (replicate 512 144) ∷ patch_at 0 41 0 (codes "#") ∷ []

-- a volume on its own partition boots: its disks
abbrev pub disk_whole : List Patch
disk_whole =
    patch_at 0 0 450 (hex 10 0x8100000040000000c00f) ∷ patch_at 0 0 510 (hex 2 0x55aa) ∷
    patch_at 0 66 0 (hex 22 0x400000000100010008000000ffffff7f78240100e007) ∷ patch_at 0 68 0 (hex 1 0xff) ∷
    patch_at 0 68 8 (hex 1 0xfe ++ replicate 503 255) ∷ patch_at 0 69 0 (replicate 512 255) ∷
    patch_at 0 70 0 (hex 2 0xff01) ∷ patch_at 0 70 251 (hex 1 0xfe ++ replicate 260 255) ∷
    patch_at 0 71 0 (replicate 512 255) ∷ patch_at 0 72 0 (hex 3 0xed4104) ∷ patch_at 0 72 8 (hex 1 0x80) ∷
    patch_at 0 72 24 (hex 1 0x08) ∷ patch_at 0 72 64 (hex 3 0xed4102) ∷ patch_at 0 72 72 (hex 1 0xa0) ∷
    patch_at 0 72 88 (hex 1 0x09) ∷ patch_at 0 72 128 (hex 3 0xed4102) ∷ patch_at 0 72 136 (codes "`") ∷
    patch_at 0 72 152 (codes "\n") ∷ patch_at 0 72 192 (hex 3 0xa48101) ∷ patch_at 0 72 200 (hex 2 0x0504) ∷
    patch_at 0 72 216 (hex 5 0x0b0000000c) ∷ patch_at 0 72 256 (hex 3 0xa48101) ∷ patch_at 0 72 264 (hex 2 0xbc02) ∷
    patch_at 0 72 280 (hex 1 0x0d) ∷ patch_at 0 72 320 (hex 3 0xa48101) ∷ patch_at 0 72 329 (hex 1 0x02) ∷
    patch_at 0 72 344 (hex 1 0x0e) ∷ patch_at 0 72 384 (hex 3 0xa48101) ∷ patch_at 0 72 392 (hex 1 0x01) ∷
    patch_at 0 72 408 (hex 1 0x0f) ∷ patch_at 0 80 0 (hex 3 0x01002e) ∷ patch_at 0 80 32 (hex 4 0x01002e2e) ∷
    patch_at 0 80 64 (hex 6 0x0200626f6f74) ∷ patch_at 0 80 96 (hex 5 0x0300657463) ∷ patch_at 0 82 0 (hex 3 0x02002e) ∷
    patch_at 0 82 32 (hex 4 0x01002e2e) ∷ patch_at 0 82 64 (hex 9 0x0400766d6c696e757a) ∷
    patch_at 0 82 96 (hex 8 0x0500696e69747264) ∷ patch_at 0 82 128 (hex 8 0x0600626f6f742e62) ∷
    patch_at 0 84 0 (hex 3 0x03002e) ∷ patch_at 0 84 32 (hex 4 0x01002e2e) ∷
    patch_at 0 84 64 (hex 11 0x07006c696c6f2e636f6e66) ∷ patch_at 0 86 497 (hex 1 0x01) ∷
    patch_at 0 86 510 (hex 2 0x55aa) ∷ patch_at 0 87 2 (hex 6 0x486472530602) ∷ patch_at 0 87 17 (hex 1 0x01) ∷
    patch_at 0 87 44 (hex 4 0xffffff37) ∷ patch_at 0 87 56 (hex 1 0xff) ∷ patch_at 0 88 0 (codes "HELLO") ∷
    patch_at 0 90 0 (replicate 512 165) ∷ patch_at 0 91 0 (replicate 188 165) ∷ patch_at 0 92 0 (replicate 512 144) ∷
    patch_at 0 94 0 (codes "#") ∷ []

-- compact, a message, an initrd, and two other systems, one with the table of the boot device: its disks
abbrev pub disk_full : List Patch
disk_full =
    disk_systems
    ++ (patch_at 0 68 1 (hex 1 0x01) ∷ patch_at 0 70 1 (hex 1 0x03) ∷ patch_at 0 72 36 (hex 1 0xc0) ∷
    patch_at 0 72 196 (hex 1 0x06) ∷ patch_at 0 72 224 (hex 5 0xa481000001) ∷ patch_at 0 72 237 (hex 2 0x010e) ∷
    patch_at 0 78 160 (hex 5 0x07006d7367) ∷ patch_at 0 80 64 (hex 1 0x08) ∷ patch_at 0 90 0 (codes "Hello\n") ∷
    patch_at 0 92 0 (codes "#") ∷ [])

-- more files, and another system: its disks
abbrev pub disk_many : List Patch
disk_many = disk_more

-- tracks of 32 sectors, short names, and a disk with logical partitions: its disks
abbrev pub disk_tracks : List Patch
disk_tracks = disk_track_files

-- a volume in a logical partition, and files with holes: its disks
abbrev pub disk_logical : List Patch
disk_logical = disk_hole_files

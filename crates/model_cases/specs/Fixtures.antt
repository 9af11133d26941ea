-- Disks that many cases begin with, written by tools/model_cases.py.
use Rattle.std.specs.Prelude.{[], ◌∷◌, ◌++◌, List, codes, replicate}
use Rattle.model_cases.specs.Sparse.{Patch, patch_at, hex}

-- a disk with one kernel and its initrd, with a prompt and a timeout of five seconds
abbrev pub fixture_l : List Patch
fixture_l =
    patch_at 0 0 0 (hex 37 0xeb7e4c494c4f010000000000010000003200010000000000038001005e0000000380010062) ∷
    patch_at 0 0 48 (hex 21 0x038001005f00000003800100600000000380010061) ∷ patch_at 0 0 510 (hex 2 0x55aa) ∷
    patch_at 0 82 497 (hex 1 0x01) ∷ patch_at 0 82 510 (hex 2 0x55aa) ∷ patch_at 0 83 2 (hex 6 0x486472530602) ∷
    patch_at 0 83 17 (hex 1 0x01) ∷ patch_at 0 83 44 (hex 4 0xffffff37) ∷ patch_at 0 83 56 (hex 1 0xff) ∷
    patch_at 0 84 0 (codes "HELLO") ∷ patch_at 0 86 0 (replicate 512 165) ∷ patch_at 0 87 0 (replicate 188 165) ∷
    patch_at 0 94 0 (codes "LINE") ∷ patch_at 0 95 0 (codes "linux") ∷
    patch_at 0 95 16 (hex 39 0x4000000005040000bc020000038001006300000003800100640000000380010065000000010001) ∷
    patch_at 0 99 0 (hex 1 0x0c) ∷ patch_at 0 99 8 (codes " ro root=301") ∷
    patch_at 0 100 0 (hex 21 0x038001005200000003800100530000000380010054) ∷
    patch_at 0 101 0 (hex 13 0x03800100560000000380010057) ∷ []

-- the same kernel alone, without a prompt and without an initrd
abbrev pub fixture_l2 : List Patch
fixture_l2 =
    patch_at 0 0 0 (hex 7 0xeb7e4c494c4f01) ∷ patch_at 0 0 16 (hex 21 0xffff010000000000038001005e0000000380010062) ∷
    patch_at 0 0 48 (hex 21 0x038001005f00000003800100600000000380010061) ∷ patch_at 0 0 510 (hex 2 0x55aa) ∷
    patch_at 0 82 497 (hex 1 0x01) ∷ patch_at 0 82 510 (hex 2 0x55aa) ∷ patch_at 0 83 2 (hex 6 0x486472530602) ∷
    patch_at 0 83 17 (hex 1 0x01) ∷ patch_at 0 83 44 (hex 4 0xffffff37) ∷ patch_at 0 83 56 (hex 1 0xff) ∷
    patch_at 0 84 0 (codes "HELLO") ∷ patch_at 0 86 0 (replicate 512 165) ∷ patch_at 0 87 0 (replicate 188 165) ∷
    patch_at 0 94 0 (codes "LINE") ∷ patch_at 0 95 0 (codes "linux") ∷
    patch_at 0 95 20 (hex 21 0x050400000000000003800100630000000380010064) ∷ patch_at 0 95 52 (hex 1 0x01) ∷
    patch_at 0 99 0 (hex 1 0x0c) ∷ patch_at 0 99 8 (codes " ro root=301") ∷
    patch_at 0 100 0 (hex 21 0x038001005200000003800100530000000380010054) ∷
    patch_at 0 101 0 (hex 13 0x03800100560000000380010057) ∷ []

-- two disks and six entries: with an initrd, a password, a fallback, a lock, and two other systems
abbrev pub fixture_menu : List Patch
fixture_menu =
    patch_at 0 0 0 (hex 40 0xeb7e4c494c4f0100000000000100000032000600bc020200038001005e0000000380010062000000
    ++ hex 29 0x038001006e000000038001005f00000003800100600000000380010061) ∷
    patch_at 0 0 510 (hex 2 0x55aa) ∷ patch_at 0 82 497 (hex 1 0x01) ∷ patch_at 0 82 510 (hex 2 0x55aa) ∷
    patch_at 0 83 2 (hex 6 0x486472530602) ∷ patch_at 0 83 17 (hex 1 0x01) ∷ patch_at 0 83 44 (hex 4 0xffffff37) ∷
    patch_at 0 83 56 (hex 1 0xff) ∷ patch_at 0 84 0 (codes "HELLO") ∷ patch_at 0 86 0 (replicate 512 165) ∷
    patch_at 0 87 0 (replicate 188 165) ∷ patch_at 0 94 0 (codes "LINE") ∷ patch_at 0 95 0 (codes "linux") ∷
    patch_at 0 95 16 (hex 39 0x4000000005040000bc020000038001006300000003800100640000000380010065000000010001) ∷
    patch_at 0 95 64 (codes "safe") ∷
    patch_at 0 95 80 (hex 27 0x060000000504000000000000038001006600000001800100290001) ∷
    patch_at 0 95 116 (hex 15 0x010000000380010068000000747279) ∷
    patch_at 0 95 144 (hex 25 0x10000000050400000000000003800100630000000380010069) ∷
    patch_at 0 95 180 (hex 16 0x01000000038001006a0000006b656570) ∷
    patch_at 0 95 208 (hex 25 0x2800fdff1405000000000000038001006b000000028001006c) ∷ patch_at 0 95 244 (hex 1 0x01) ∷
    patch_at 0 95 256 (codes "dos") ∷ patch_at 0 95 272 (hex 25 0x810000000004000000000000038001006d0000000380010070) ∷
    patch_at 0 95 308 (hex 1 0x01) ∷ patch_at 0 95 320 (codes "win") ∷
    patch_at 0 95 336 (hex 25 0x030000000002000000000000038001006d0000000380010071) ∷
    patch_at 0 95 372 (hex 9 0x010000000380010072) ∷ patch_at 0 99 0 (hex 1 0x0c) ∷
    patch_at 0 99 8 (codes " ro root=301") ∷ patch_at 0 100 0 (hex 21 0x038001005200000003800100530000000380010054) ∷
    patch_at 0 101 0 (hex 13 0x03800100560000000380010057) ∷ patch_at 0 102 0 (hex 1 0x07) ∷
    patch_at 0 102 8 (codes " single") ∷ patch_at 0 103 0 (hex 7 0x01800300140001) ∷ patch_at 0 104 2 (hex 1 0x03) ∷
    patch_at 0 104 480 (codes "tux") ∷ patch_at 0 105 0 (hex 5 0x0380030052) ∷
    patch_at 0 106 0 (hex 15 0x0b0000006c696e7578207175696574) ∷
    patch_at 0 108 0 (hex 13 0x028002007c0000000380010062) ∷ patch_at 0 110 0 (hex 5 0x0380010078) ∷
    patch_at 0 110 504 (hex 5 0x038001006f) ∷ patch_at 0 111 0 (hex 5 0x0380010079) ∷
    patch_at 0 112 0 (hex 11 0x038101003f000000038101) ∷ patch_at 0 113 0 (hex 7 0x01810100010001) ∷
    patch_at 0 120 0 (codes "Hello\n") ∷ patch_at 0 121 0 (codes "there\n") ∷ patch_at 0 124 497 (hex 1 0x01) ∷
    patch_at 0 124 510 (hex 2 0x55aa) ∷ patch_at 0 125 44 (hex 4 0xffffff37) ∷ patch_at 0 125 56 (hex 1 0xff) ∷
    patch_at 1 0 446 (hex 40 0x0102030405060708090a0b0c0d0e0f101112131415161718191a1b1c1d1e1f202122232425262728
    ++ hex 26 0x292a2b2c2d2e2f303132333435363738393a3b3c3d3e3f4055aa) ∷
    patch_at 1 17 3 (codes "WIN") ∷ patch_at 1 63 3 (codes "DOS") ∷ patch_at 1 63 510 (hex 2 0x55aa) ∷ []

-- what a boot of an installed disk looks at: one kernel and its initrd, a prompt and a timeout of five seconds
abbrev pub fixture_installed : List Patch
fixture_installed =
    patch_at 0 0 0 (hex 7 0xeb7e4c494c4f01) ∷ patch_at 0 0 12 (hex 7 0x01000000320001) ∷
    patch_at 0 0 24 (hex 13 0x038001005e0000000380010062) ∷
    patch_at 0 0 48 (hex 21 0x038001005f00000003800100600000000380010061) ∷ patch_at 0 0 128 (replicate 312 144) ∷
    patch_at 0 0 450 (hex 10 0x8100000040000000c00f) ∷ patch_at 0 0 510 (hex 2 0x55aa) ∷
    patch_at 0 82 497 (hex 1 0x01) ∷ patch_at 0 82 510 (hex 2 0x55aa) ∷ patch_at 0 83 2 (hex 6 0x486472530602) ∷
    patch_at 0 83 17 (hex 1 0x01) ∷ patch_at 0 83 44 (hex 4 0xffffff37) ∷ patch_at 0 83 56 (hex 1 0xff) ∷
    patch_at 0 84 0 (codes "HELLO") ∷ patch_at 0 86 0 (replicate 512 165) ∷ patch_at 0 87 0 (replicate 188 165) ∷
    patch_at 0 94 0 (codes "LINE") ∷ patch_at 0 95 0 (codes "linux") ∷
    patch_at 0 95 16 (hex 39 0x4000000005040000bc020000038001006300000003800100640000000380010065000000010001) ∷
    patch_at 0 99 0 (hex 1 0x0c) ∷ patch_at 0 99 8 (codes " ro root=301") ∷
    patch_at 0 100 0 (hex 21 0x038001005200000003800100530000000380010054) ∷
    patch_at 0 101 0 (hex 13 0x03800100560000000380010057) ∷ []

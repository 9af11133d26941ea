-- The fields of superblocks and inodes, written one by one, are their bytes.
use Rattle.std.proofs.Common.{◌≡◌, ℕ, List, [], ◌∷◌, ◌++◌, length, take, refl, ◌∙◌, ap, arith, length-append}
use Rattle.std.specs.Prelude.{slice_index}
use Rattle.lilo_model.specs.Bytes.{with_part, bytes16, bytes32}
use Rattle.lilo_model.specs.MinixLayout.{Super, Inode, magic_of, with_counts, super_bytes, bytes16_of, bytes32_of, v1_inode_bytes, v2_inode_bytes}
use Rattle.minix_layout.proofs.Written.{part-more, with_part-whole, length-bytes16_of, length-bytes32_of, length-put}

-- a superblock
pub super_written :
    (super : Super) (old b b1 b2 b3 b4 b5 b6 b7 : List ℕ) → length b ≡ 512 → b ≡ with_counts super old
    → b1 ≡ with_part b 4 (bytes16 super.imap) → b2 ≡ with_part b1 6 (bytes16 super.zmap)
    → b3 ≡ with_part b2 8 (bytes16 super.first) → b4 ≡ with_part b3 10 (bytes16 0)
    → b5 ≡ with_part b4 12 (bytes32 super.max_size) → b6 ≡ with_part b5 16 (bytes16 (magic_of super.kind))
    → b7 ≡ with_part b6 18 (bytes16 super.state)
    → b7 ≡ super_bytes super old
unfolding super_bytes
super_written super old b b1 b2 b3 b4 b5 b6 b7 long counts is1 is2 is3 is4 is5 is6 is7 =
    let x1 = bytes16 super.imap in
    let x2 = x1 ++ bytes16 super.zmap in
    let x3 = x2 ++ bytes16 super.first in
    let x4 = x3 ++ bytes16 0 in
    let x5 = x4 ++ bytes32 super.max_size in
    let x6 = x5 ++ bytes16 (magic_of super.kind) in
    let p2 = part-more b b1 b2 4 x1 (bytes16 super.zmap) 6 is1 is2 refl (omega (arith, long)) in
    let p3 = part-more b b2 b3 4 x2 (bytes16 super.first) 8 p2 is3 refl (omega (arith, long)) in
    let p4 = part-more b b3 b4 4 x3 (bytes16 0) 10 p3 is4 refl (omega (arith, long)) in
    let p5 = part-more b b4 b5 4 x4 (bytes32 super.max_size) 12 p4 is5 refl (omega (arith, long)) in
    let p6 = part-more b b5 b6 4 x5 (bytes16 (magic_of super.kind)) 16 p5 is6 refl (omega (arith, long)) in
    let p7 = part-more b b6 b7 4 x6 (bytes16 super.state) 18 p6 is7 refl (omega (arith, long)) in
    p7 ∙ ap (λ bytes. with_part bytes 4 (x6 ++ bytes16 super.state)) counts

-- an inode of version 1
pub v1_written :
    (inode : Inode) (b b1 b2 b3 b4 b5 b6 b7 : List ℕ) → length b ≡ 32 → length (take 9 inode.zones) ≡ 9
    → b1 ≡ with_part b 0 (bytes16 inode.mode) → b2 ≡ with_part b1 2 (bytes16 inode.uid)
    → b3 ≡ with_part b2 4 (bytes32 inode.size) → b4 ≡ with_part b3 8 (bytes32 (slice_index inode.times 1))
    → b5 ≡ with_part b4 12 (inode.gid ∷ []) → b6 ≡ with_part b5 13 (inode.links ∷ [])
    → b7 ≡ with_part b6 14 (bytes16_of (take 9 inode.zones))
    → b7 ≡ v1_inode_bytes inode
unfolding v1_inode_bytes
v1_written inode b b1 b2 b3 b4 b5 b6 b7 long nine is1 is2 is3 is4 is5 is6 is7 =
    let x1 = bytes16 inode.mode in
    let x2 = x1 ++ bytes16 inode.uid in
    let x3 = x2 ++ bytes32 inode.size in
    let x4 = x3 ++ bytes32 (slice_index inode.times 1) in
    let x5 = x4 ++ (inode.gid ∷ []) in
    let x6 = x5 ++ (inode.links ∷ []) in
    let zones = bytes16_of (take 9 inode.zones) in
    let size : length zones ≡ 18 = omega (arith, length-bytes16_of (take 9 inode.zones), nine) in
    let p2 = part-more b b1 b2 0 x1 (bytes16 inode.uid) 2 is1 is2 refl (omega (arith, long)) in
    let p3 = part-more b b2 b3 0 x2 (bytes32 inode.size) 4 p2 is3 refl (omega (arith, long)) in
    let p4 = part-more b b3 b4 0 x3 (bytes32 (slice_index inode.times 1)) 8 p3 is4 refl (omega (arith, long)) in
    let p5 = part-more b b4 b5 0 x4 (inode.gid ∷ []) 12 p4 is5 refl (omega (arith, long)) in
    let p6 = part-more b b5 b6 0 x5 (inode.links ∷ []) 13 p5 is6 refl (omega (arith, long)) in
    let p7 = part-more b b6 b7 0 x6 zones 14 p6 is7 refl (omega (arith, long, size)) in
    let all : length (x6 ++ zones) ≡ length b = length-append x6 zones ∙ omega (arith, long, size) in
    p7 ∙ with_part-whole b (x6 ++ zones) all

-- an inode of version 2
pub v2_written :
    (inode : Inode) (b b1 b2 b3 b4 b5 b6 b7 : List ℕ) → length b ≡ 64 → length inode.times ≡ 3 → length inode.zones ≡ 10
    → b1 ≡ with_part b 0 (bytes16 inode.mode) → b2 ≡ with_part b1 2 (bytes16 inode.links)
    → b3 ≡ with_part b2 4 (bytes16 inode.uid) → b4 ≡ with_part b3 6 (bytes16 inode.gid)
    → b5 ≡ with_part b4 8 (bytes32 inode.size) → b6 ≡ with_part b5 12 (bytes32_of inode.times)
    → b7 ≡ with_part b6 24 (bytes32_of inode.zones)
    → b7 ≡ v2_inode_bytes inode
unfolding v2_inode_bytes
v2_written inode b b1 b2 b3 b4 b5 b6 b7 long three ten is1 is2 is3 is4 is5 is6 is7 =
    let x1 = bytes16 inode.mode in
    let x2 = x1 ++ bytes16 inode.links in
    let x3 = x2 ++ bytes16 inode.uid in
    let x4 = x3 ++ bytes16 inode.gid in
    let x5 = x4 ++ bytes32 inode.size in
    let times = bytes32_of inode.times in
    let zones = bytes32_of inode.zones in
    let first_size : length times ≡ 12 = omega (arith, length-bytes32_of inode.times, three) in
    let size : length zones ≡ 40 = omega (arith, length-bytes32_of inode.zones, ten) in
    let p2 = part-more b b1 b2 0 x1 (bytes16 inode.links) 2 is1 is2 refl (omega (arith, long)) in
    let p3 = part-more b b2 b3 0 x2 (bytes16 inode.uid) 4 p2 is3 refl (omega (arith, long)) in
    let p4 = part-more b b3 b4 0 x3 (bytes16 inode.gid) 6 p3 is4 refl (omega (arith, long)) in
    let p5 = part-more b b4 b5 0 x4 (bytes32 inode.size) 8 p4 is5 refl (omega (arith, long)) in
    let p6 = part-more b b5 b6 0 x5 times 12 p5 is6 refl (omega (arith, long, first_size)) in
    let six : length (x5 ++ times) ≡ 24 = length-append x5 times ∙ omega (arith, first_size) in
    let p7 = part-more b b6 b7 0 (x5 ++ times) zones 24 p6 is7 (omega (arith, six)) (omega (arith, long, size)) in
    let all : length ((x5 ++ times) ++ zones) ≡ length b = length-append (x5 ++ times) zones ∙ omega (arith, long, size, six) in
    p7 ∙ with_part-whole b ((x5 ++ times) ++ zones) all

-- six writes change no length
pub v1_length :
    (b b1 b2 b3 b4 b5 b6 : List ℕ) (mode uid size time gid links : ℕ) → length b ≡ 32
    → b1 ≡ with_part b 0 (bytes16 mode) → b2 ≡ with_part b1 2 (bytes16 uid) → b3 ≡ with_part b2 4 (bytes32 size)
    → b4 ≡ with_part b3 8 (bytes32 time) → b5 ≡ with_part b4 12 (gid ∷ []) → b6 ≡ with_part b5 13 (links ∷ [])
    → length b6 ≡ 32
v1_length b b1 b2 b3 b4 b5 b6 mode uid size time gid links long is1 is2 is3 is4 is5 is6 =
    let l1 : length b1 ≡ 32 = length-put b b1 0 (bytes16 mode) is1 (omega (arith, long)) ∙ long in
    let l2 : length b2 ≡ 32 = length-put b1 b2 2 (bytes16 uid) is2 (omega (arith, l1)) ∙ l1 in
    let l3 : length b3 ≡ 32 = length-put b2 b3 4 (bytes32 size) is3 (omega (arith, l2)) ∙ l2 in
    let l4 : length b4 ≡ 32 = length-put b3 b4 8 (bytes32 time) is4 (omega (arith, l3)) ∙ l3 in
    let l5 : length b5 ≡ 32 = length-put b4 b5 12 (gid ∷ []) is5 (omega (arith, l4)) ∙ l4 in
    length-put b5 b6 13 (links ∷ []) is6 (omega (arith, l5)) ∙ l5

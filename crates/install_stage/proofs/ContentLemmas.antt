-- The blocks of some sectors have the bytes of these, in order, and zeros after them.
use Rattle.std.proofs.Common.{◌≡◌, ◌≤◌, ◌<◌, ℕ, zero, suc, ◌+◌, ◌*◌, ◌/◌, ◌%◌, List, [], ◌∷◌, ◌++◌, length, take, refl, sym, ap, ◌∙◌, ⊎_elim, arith, append_assoc, append-nil, length-append}
use Rattle.std.specs.List.{concat}
use Rattle.std.proofs.Math.Seq.{take-append-add, take-append_seam, take-length}
use Rattle.std.proofs.lemmas.Bool.{cases_eq}
use Rattle.std.proofs.lemmas.List.{length-replicate}
use Rattle.lilo_model.specs.Bytes.{part_of}
use Rattle.lilo_model.specs.MinixNames.{blocks}
use Rattle.map_again_laws.proofs.Parts.{part-after, part-prefix}
use Rattle.install_stage.specs.Blocks.{sector_or_zeros, block_of_sectors}
use Rattle.install_stage.proofs.LongLemmas.{AreLong}

-- ---- blocks

-- blocks that are the same one by one
pub blocks_same : (one other : ℕ → List ℕ) (count : ℕ) → ((index : ℕ) → index < count → one index ≡ other index) → blocks one count ≡ blocks other count
blocks_same one other zero same = refl
blocks_same one other (suc count) same =
    ap (λ l. l ++ one count) (blocks_same one other count (λ index low. same index (omega (arith, low)))) ∙ ap (λ l. blocks other count ++ l) (same count (omega arith))

-- the first of them, and those after it
first-block : (at : ℕ → List ℕ) (count : ℕ) → blocks at (suc count) ≡ at 0 ++ blocks (λ index. at (index + 1)) count
first-block at zero = sym (append-nil (at 0))
first-block at (suc count) =
    let next : suc count ≡ count + 1 = omega arith in
    ap (λ l. l ++ at (suc count)) (first-block at count) ∙ append_assoc (at 0) (blocks (λ index. at (index + 1)) count) (at (suc count))
    ∙ ap (λ n. at 0 ++ (blocks (λ index. at (index + 1)) count ++ at n)) next

-- ---- sectors

-- the sectors after the first two are those of the blocks after the first
block-next : (first second : List ℕ) (others : List (List ℕ)) (index : ℕ) → block_of_sectors (first ∷ (second ∷ others)) (index + 1) ≡ block_of_sectors others index
block-next first second others index =
    let even : 2 * (index + 1) ≡ suc (suc (2 * index)) = omega arith in
    let odd : 2 * (index + 1) + 1 ≡ suc (suc (2 * index + 1)) = omega arith in
    ap (λ n. sector_or_zeros (first ∷ (second ∷ others)) n ++ sector_or_zeros (first ∷ (second ∷ others)) (2 * (index + 1) + 1)) even
    ∙ ap (λ n. sector_or_zeros others (2 * index) ++ sector_or_zeros (first ∷ (second ∷ others)) n) odd

pub long_or_zeros : (sectors : List (List ℕ)) → AreLong sectors → (index : ℕ) → length (sector_or_zeros sectors index) ≡ 512
long_or_zeros [] long index = length-replicate {A = ℕ} 512 0
long_or_zeros (first ∷ others) long zero = long.0
long_or_zeros (first ∷ others) long (suc index) = long_or_zeros others long.1 index

pub long_block : (sectors : List (List ℕ)) → AreLong sectors → (index : ℕ) → length (block_of_sectors sectors index) ≡ 1024
long_block sectors long index =
    let even = long_or_zeros sectors long (2 * index) in
    let odd = long_or_zeros sectors long (2 * index + 1) in
    length-append (sector_or_zeros sectors (2 * index)) (sector_or_zeros sectors (2 * index + 1)) ∙ omega (arith, even, odd)

-- the bytes of some blocks, cut after the last of the sectors
pub sectors_joined : (sectors : List (List ℕ)) (count : ℕ) → AreLong sectors → length sectors ≤ 2 * count → take (512 * length sectors) (blocks (block_of_sectors sectors) count) ≡ concat sectors
sectors_joined [] count long few = refl
sectors_joined (first ∷ others) zero long few = absurd (omega (arith, few))
sectors_joined (first ∷ []) (suc count) long few =
    let rest = sector_or_zeros (first ∷ []) 1 in
    let after = blocks (λ index. block_of_sectors (first ∷ []) (index + 1)) count in
    ap (λ l. take 512 l) (first-block (block_of_sectors (first ∷ [])) count ∙ append_assoc first rest after)
    ∙ ap (λ n. take n (first ++ (rest ++ after))) (sym long.0) ∙ take-append_seam first (rest ++ after) ∙ sym (append-nil first)
sectors_joined (first ∷ (second ∷ others)) (suc count) long few =
    let both = first ++ second in
    let size = length-append first second in
    let one = long.0 in
    let two = long.1.0 in
    let after = blocks (block_of_sectors others) count in
    let all : 512 * length (first ∷ (second ∷ others)) ≡ length both + 512 * length others = omega (arith, size, one, two) in
    ap (λ l. take (512 * length (first ∷ (second ∷ others))) l)
    (first-block (block_of_sectors (first ∷ (second ∷ others))) count
    ∙ ap (λ l. both ++ l) (blocks_same (λ index. block_of_sectors (first ∷ (second ∷ others)) (index + 1)) (block_of_sectors others) count (λ index low. block-next first second others index)))
    ∙ ap (λ n. take n (both ++ after)) all ∙ take-append-add both after (512 * length others)
    ∙ ap (λ l. both ++ l) (sectors_joined others count long.1.1 (omega (arith, few))) ∙ append_assoc first second (concat others)

-- each half of a block is a sector
pub sector_of_block : (sectors : List (List ℕ)) → AreLong sectors → (index : ℕ) → part_of (block_of_sectors sectors (index / 2)) (512 * (index % 2)) 512 ≡ sector_or_zeros sectors index
sector_of_block sectors long index = ⊎_elim
    (λ even.
    let is : 2 * (index / 2) ≡ index = omega (arith, even) in
    ap (λ n. part_of (first ++ second) (512 * n) 512) even ∙ part-prefix first second 512 (long_or_zeros sectors long (2 * (index / 2))) ∙ ap (sector_or_zeros sectors) is)
    (λ odd.
    let one : index % 2 ≡ 1 = omega (arith, odd) in
    let is : 2 * (index / 2) + 1 ≡ index = omega (arith, one) in
    let begins = long_or_zeros sectors long (2 * (index / 2)) in
    let size = long_or_zeros sectors long (2 * (index / 2) + 1) in
    ap (λ n. part_of (first ++ second) (512 * n) 512) one ∙ part-after first second 512 0 512 (omega (arith, begins))
    ∙ ap (λ n. take n second) (sym size) ∙ take-length second ∙ ap (sector_or_zeros sectors) is)
    (cases_eq (index % 2) 0)
  where
    first : List ℕ
    first = sector_or_zeros sectors (2 * (index / 2))

    second : List ℕ
    second = sector_or_zeros sectors (2 * (index / 2) + 1)

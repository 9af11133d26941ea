-- The pointers on the way to a block: each is below the next one up.
use Rattle.std.proofs.Common.{◌≡◌, ◌≤◌, ◌<◌, ◌+◌, ◌*◌, ◌-◌, ◌/◌, ◌%◌, ◌^◌, ℕ, zero, suc, Bool, true, false, nat_lt, List, [], ◌∷◌, refl, sym, ap, ◌∙◌, arith}
use Rattle.std.proofs.Math.Nat.{pow-zero, pow-succ', div-div-eq-div-mul}
use Rattle.lilo_model.specs.MinixLayout.{Kind, numbers_in_zone}
use Rattle.lilo_model.specs.MinixParts.{Pointer, trail_of, pointer_with, pointer_by, block_pointer}
use Rattle.lilo_model.specs.MinixWalk.{branch_of, place_in_branch, stop_pointer}
use Rattle.minix_change_laws.specs.Grows.{pointer_at, below, down}
use Rattle.minix_grow.specs.Way.{depth_of, pointer_above, index_above, zones_below}

-- a level further up
step-up : (per x level : ℕ) → x / per ^ level / per ≡ x / per ^ suc level
step-up per x level =
    let power : per ^ level * per ≡ per ^ suc level = omega (arith, pow-succ' per level) in
    div-div-eq-div-mul x (per ^ level) per ∙ ap (λ m. x / m) power

-- a number is in the zone of the next level
pub pointer_below : (kind : Kind) (block level : ℕ) → level < depth_of kind block → pointer_above kind block level ≡ below (pointer_above kind block (suc level)) (index_above kind block level)
unfolding stop_pointer
pointer_below kind block level low =
    let per : ℕ = numbers_in_zone kind in
    let top : ℕ = (branch_of per block).top in
    let depth : ℕ = depth_of kind block in
    let x : ℕ = place_in_branch per block in
    let e : depth - level ≡ suc (depth - suc level) = omega (arith, low) in
    let T : ℕ → Pointer = λ d. pointer_with per top d (x / per ^ level) in
    let U : ℕ → Pointer = λ y. pointer_at top ((x / per ^ level % per) ∷ trail_of per (depth - suc level) y) in
    ap T e ∙ ap U (step-up per x level)

-- the highest is in the inode
pub pointer_highest : (kind : Kind) (block : ℕ) → pointer_above kind block (depth_of kind block) ≡ pointer_at (branch_of (numbers_in_zone kind) block).top []
unfolding stop_pointer
pointer_highest kind block =
    let per : ℕ = numbers_in_zone kind in
    let top : ℕ = (branch_of per block).top in
    let depth : ℕ = depth_of kind block in
    let e : depth - depth ≡ 0 = omega arith in
    let T : ℕ → Pointer = λ d. pointer_with per top d (place_in_branch per block / per ^ depth) in
    ap T e

-- the lowest is the block's
whole : (per x : ℕ) → x / per ^ 0 ≡ x
whole per x = rw (pow-zero per) (omega arith)

lowest-by : (per block : ℕ) (one two three : Bool) → nat_lt block 7 ≡ one → nat_lt block (7 + per) ≡ two → nat_lt block (7 + per + per * per) ≡ three
    → stop_pointer per (record { index = block; level = 0 }) ≡ pointer_by per block
unfolding stop_pointer branch_of pointer_by
lowest-by per block true two three is is' is'' = rw is refl
lowest-by per block false true three is is' is'' = let P : ℕ → Pointer = λ x. pointer_with per 7 1 x in rw (is, is') (ap P (whole per (block - 7)))
lowest-by per block false false true is is' is'' =
    let P : ℕ → Pointer = λ x. pointer_with per 8 2 x in
    let e : block - (7 + per) ≡ block - 7 - per = omega arith in
    rw (is, is', is'') (ap P (whole per (block - (7 + per)) ∙ e))
lowest-by per block false false false is is' is'' =
    let P : ℕ → Pointer = λ x. pointer_with per 9 3 x in
    let e : block - (7 + per + per * per) ≡ block - 7 - per - per * per = omega arith in
    rw (is, is', is'') (ap P (whole per (block - (7 + per + per * per)) ∙ e))

pub pointer_lowest : (kind : Kind) (block : ℕ) → pointer_above kind block 0 ≡ block_pointer kind block
pointer_lowest kind block = lowest-by (numbers_in_zone kind) block _ _ _ refl refl refl

-- and the one that the zones below lead down to
pub down_below : (kind : Kind) (block : ℕ) (growth : List ℕ) (level : ℕ) → level ≤ depth_of kind block
    → down (pointer_above kind block level) (zones_below kind block growth level) ≡ pointer_above kind block 0
down_below kind block growth zero low = refl
down_below kind block growth (suc level) low =
    let D : Pointer → Pointer = λ at. down at (zones_below kind block growth level) in
    ap D (sym (pointer_below kind block level low)) ∙ down_below kind block growth level (omega (arith, low))

-- no more than three levels lead to a block
few-by : (per block : ℕ) (one two three : Bool) → nat_lt block 7 ≡ one → nat_lt block (7 + per) ≡ two → nat_lt block (7 + per + per * per) ≡ three → (branch_of per block).depth ≤ 3
unfolding branch_of
few-by per block true two three is is' is'' = rw is (omega arith)
few-by per block false true three is is' is'' = rw (is, is') (omega arith)
few-by per block false false true is is' is'' = rw (is, is', is'') (omega arith)
few-by per block false false false is is' is'' = rw (is, is', is'') (omega arith)

pub depth_few : (kind : Kind) (block : ℕ) → depth_of kind block ≤ 3
depth_few kind block = few-by (numbers_in_zone kind) block _ _ _ refl refl refl

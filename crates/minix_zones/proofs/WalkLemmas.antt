-- What is left of a walk's stops.
use Rattle.std.proofs.Common.{◌≡◌, ◌≤◌, ◌<◌, ◌+◌, ◌*◌, ◌-◌, ◌%◌, ◌^◌, ℕ, zero, suc, Bool, true, false, nat_le, nat_lt, List, [], ◌∷◌, ◌++◌, Result, Ok, subst, refl, sym, ap, ◌∙◌, arith}
use Rattle.std.proofs.lemmas.Bool.Decides.{nat_tests}
use Rattle.lilo_model.specs.MinixParts.{ZoneFault}
use Rattle.lilo_model.specs.MinixWalk.{Stop, Visit, begins, stops_at, stops_from, met_then, met_at}
use Rattle.lilo_model.specs.MinixLayout.{Super, Inode, numbers_in_zone}
use Rattle.lilo_model.specs.MinixParts.{Parts}
use Rattle.lilo_model.specs.MinixWalk.{stop_number}
use Rattle.minix_zones.proofs.BranchLemmas.{begins_below, begins_itself, begins_whole, same_branch}
use Rattle.minix_zones.proofs.HoleLemmas.{hole_below}
use Rattle.minix_zones.proofs.QuotientLemmas.{left_over, multiple_of_factor, power_above}
use Rattle.minix_zones.specs.Held.{AreHoles}
use Rattle.minix_zones.specs.Walk.{stops_left}
use Rattle.std.proofs.lemmas.Bool.{leb-true, leb-false}
use Rattle.std.proofs.Math.Nat.{one-le-pow}
use Rattle.lilo_model.specs.MinixWalk.{Branch, branch_of}
use Rattle.minix_zones.proofs.BranchLemmas.{first_below}

-- all stops from a block on are left where all its levels are
pub stops_left_by : (per index end count : ℕ) → end - index ≡ count → stops_left per index 3 end ≡ stops_from per index count
unfolding stops_left stops_from
stops_left_by per index end zero e = grind (arith, nat_tests)
stops_left_by per index end (suc count) e =
    let less : nat_lt index end ≡ true = grind (arith, nat_tests) in
    let left : end - (index + 1) ≡ count = omega arith in
    rw (less, left) refl

-- nothing is met at a hole
met-hole : (stop : Stop) (number : Result ℕ ZoneFault) (others : List (Result Visit ZoneFault)) → number ≡ Ok 0 → met_then stop number others ≡ others
met-hole stop number others hole = ap (λ found. met_then stop found others) hole

-- the same at the highest stop of a block, where there is one
pass-one : (number : Stop → Result ℕ ZoneFault) (per index level : ℕ) (rest : List Stop) (begun : Bool) → begins per index (suc level) ≡ begun
    → met_at number (stops_at per index level ++ rest) ≡ met_at number rest
    → ((lower : ℕ) → lower ≤ suc level → begins per index lower ≡ true → number (record { index = index; level = lower }) ≡ Ok 0)
    → met_at number (stops_at per index (suc level) ++ rest) ≡ met_at number rest
unfolding stops_at
pass-one number per index level rest true is others holes =
    rw is (met-hole (record { index = index; level = suc level }) (number (record { index = index; level = suc level })) (met_at number (stops_at per index level ++ rest)) (holes (suc level) (omega arith) is) ∙ others)
pass-one number per index level rest false is others holes = rw is others

-- nothing is met at the stops of a block that are all holes
pass-at : (number : Stop → Result ℕ ZoneFault) (per index level : ℕ) (rest : List Stop)
    → ((lower : ℕ) → lower ≤ level → begins per index lower ≡ true → number (record { index = index; level = lower }) ≡ Ok 0)
    → met_at number (stops_at per index level ++ rest) ≡ met_at number rest
unfolding stops_at
pass-at number per index zero rest holes =
    met-hole (record { index = index; level = 0 }) (number (record { index = index; level = 0 })) (met_at number rest) (holes 0 (omega arith) (begins_itself per index))
pass-at number per index (suc level) rest holes =
    let others = pass-at number per index level rest (λ lower low begun. holes lower (omega arith) begun) in
    pass-one number per index level rest (begins per index (suc level)) refl others holes

-- nothing is met at the stops of blocks that are all holes
pass-from : (number : Stop → Result ℕ ZoneFault) (per index blocks count : ℕ)
    → ((next lower : ℕ) → index ≤ next → next < index + blocks → begins per next lower ≡ true → number (record { index = next; level = lower }) ≡ Ok 0)
    → met_at number (stops_from per index count) ≡ met_at number (stops_from per (index + blocks) (count - blocks))
unfolding stops_from
pass-from number per index blocks zero holes = let e : 0 - blocks ≡ 0 = omega arith in rw e refl
pass-from number per index zero (suc count) holes =
    let at : index + 0 ≡ index = omega arith in
    let left : suc count - 0 ≡ suc count = omega arith in
    rw (at, left) refl
pass-from number per index (suc blocks) (suc count) holes =
    let here = pass-at number per index 3 (stops_from per (index + 1) count) (λ lower low begun. holes index lower (omega arith) (omega arith) begun) in
    let others = pass-from number per (index + 1) blocks count (λ next lower after near begun. holes next lower (omega arith) (omega arith) begun) in
    let at : index + 1 + blocks ≡ index + suc blocks = omega arith in
    let left : count - blocks ≡ suc count - suc blocks = omega arith in
    here ∙ others ∙ ap (λ n. met_at number (stops_from per n (count - blocks))) at ∙ ap (λ n. met_at number (stops_from per (index + suc blocks) n)) left

-- the numbers of an indirect zone
abbrev pub per_of : Super → ℕ
per_of super = numbers_in_zone super.kind

-- two blocks that are found through one pointer: the pointers of the second are no higher
pub behind-first : (per index level next lower : ℕ) → 0 < per → begins per index level ≡ true → index < next → next < index + per ^ level
    → begins per next lower ≡ true → level ≤ lower → ⊥
behind-first per index level next lower some begun after near under above =
    let branch = same_branch per index level next some begun (omega arith) near in
    let start : (branch_of per next).first ≡ (branch_of per index).first = ap (λ (b : Branch). b.first) branch in
    let first = first_below per index in
    let x = index - (branch_of per index).first in
    let y = next - (branch_of per index).first in
    let whole_next : y % per ^ lower ≡ 0 = subst (λ n. (next - n) % per ^ lower ≡ 0) start (begins_whole per next lower under) in
    let factor : y % (per ^ level * per ^ (lower - level)) ≡ 0 = subst (λ n. y % n ≡ 0) (power_above per level lower above) whole_next in
    let whole : y % per ^ level ≡ 0 = multiple_of_factor y (per ^ level) (per ^ (lower - level)) factor in
    let left : y % per ^ level ≡ y - x = left_over x y (per ^ level) (begins_whole per index level begun) (omega arith) (omega arith) in
    omega arith

by-order : (per index level next lower : ℕ) → 0 < per → begins per index level ≡ true → index < next → next < index + per ^ level
    → begins per next lower ≡ true → (low : Bool) → nat_le lower level ≡ low → lower ≤ level
by-order per index level next lower some begun after near under true is = leb-true lower level is
by-order per index level next lower some begun after near under false is =
    absurd (behind-first per index level next lower some begun after near under (let high = leb-false lower level is in omega arith))

-- no pointer that is higher begins at a later block that is found through one
lower-behind : (per index level next lower : ℕ) → 0 < per → begins per index level ≡ true → index < next → next < index + per ^ level
    → begins per next lower ≡ true → lower ≤ level
lower-behind per index level next lower some begun after near under =
    by-order per index level next lower some begun after near under (nat_le lower level) refl

-- nothing is met at the stops of blocks that are all holes, from a level of the first on
pass-blocks : (number : Stop → Result ℕ ZoneFault) (per index level blocks end : ℕ) → 0 < blocks → index < end
    → ((lower : ℕ) → lower ≤ level → begins per index lower ≡ true → number (record { index = index; level = lower }) ≡ Ok 0)
    → ((next lower : ℕ) → index < next → next < index + blocks → begins per next lower ≡ true → number (record { index = next; level = lower }) ≡ Ok 0)
    → met_at number (stops_left per index level end) ≡ met_at number (stops_left per (index + blocks) 3 end)
unfolding stops_left
pass-blocks number per index level blocks end some more first behind =
    let t : nat_lt index end ≡ true = grind (arith, nat_tests) in
    let here = pass-at number per index level (stops_from per (index + 1) (end - (index + 1))) first in
    let others = pass-from number per (index + 1) (blocks - 1) (end - (index + 1)) (λ next lower after near lies. behind next lower (omega arith) (omega arith) lies) in
    let at : index + 1 + (blocks - 1) ≡ index + blocks = omega arith in
    let left : end - (index + 1) - (blocks - 1) ≡ end - (index + blocks) = omega arith in
    let all = stops_left_by per (index + blocks) end (end - (index + blocks)) refl in
    let joined = here ∙ others ∙ ap (λ n. met_at number (stops_from per n (end - (index + 1) - (blocks - 1)))) at ∙ ap (λ n. met_at number (stops_from per (index + blocks) n)) left ∙ ap (met_at number) (sym all) in
    rw t joined

-- Nothing is met at the stops of the blocks that are found through a hole.
pub skip_hole : (super : Super) (parts : Parts) (inode : Inode) (per index level end : ℕ)
    → per ≡ numbers_in_zone super.kind → 0 < per → index < end → begins per index level ≡ true
    → stop_number super parts inode (record { index = index; level = level }) ≡ Ok 0
    → met_at (stop_number super parts inode) (stops_left per index level end)
    ≡ met_at (stop_number super parts inode) (stops_left per (index + per ^ level) 3 end)
skip_hole super parts inode per index level end is some more begun hole =
    let blocks = per ^ level in
    let one : 1 ≤ blocks = one-le-pow level per some in
    pass-blocks (stop_number super parts inode) per index level blocks end one more
    (λ lower low lies. hole_below super parts inode per index level index lower is some begun low (omega arith) (omega arith) hole)
    (λ next lower after near lies. hole_below super parts inode per index level next lower is some begun
    (lower-behind per index level next lower some begun (omega arith) (omega arith) lies) (omega arith) (omega arith) hole)

lowest : (number : Stop → Result ℕ ZoneFault) (index level : ℕ) → level ≡ 0 → number (record { index = index; level = 0 }) ≡ Ok 0 → number (record { index = index; level = level }) ≡ Ok 0
lowest number index level is hole = subst (λ n. number (record { index = index; level = n }) ≡ Ok 0) (sym is) hole

-- Nothing is met at blocks that are holes in a row.
pub skip_holes : (super : Super) (parts : Parts) (inode : Inode) (index count end : ℕ) → 0 < count → index < end
    → AreHoles super parts inode index count
    → met_at (stop_number super parts inode) (stops_left (numbers_in_zone super.kind) index 0 end)
    ≡ met_at (stop_number super parts inode) (stops_left (numbers_in_zone super.kind) (index + count) 3 end)
skip_holes super parts inode index count end some more holes =
    let number = stop_number super parts inode in
    pass-blocks number (numbers_in_zone super.kind) index 0 count end some more
    (λ lower low lies. lowest number index lower (omega arith) (holes.hole index (omega arith) (omega arith)))
    (λ next lower after near lies. lowest number next lower (holes.alone next lower after near lies) (holes.hole next (omega arith) near))

-- where nothing begins on a level, the stops are those from the next lower one on
pub lower_level : (per index level end : ℕ) → begins per index level ≡ false
    → (0 < level) × (stops_left per index level end ≡ stops_left per index (level - 1) end)
unfolding stops_left stops_at
lower_level per index zero end none = let e = begins_itself per index in cc
lower_level per index (suc level) end none =
    let e : suc level - 1 ≡ level = omega arith in
    (omega arith, rw (none, e) refl)

lower-by : (per index level end : ℕ) (begun : Bool) → begins per index (suc level) ≡ begun → begins per index 1 ≡ false
    → stops_left per index level end ≡ stops_left per index 0 end → stops_left per index (suc level) end ≡ stops_left per index 0 end
lower-by per index level end true is none lowest =
    let below = begins_below per index 1 (suc level) (omega arith) is in cc
lower-by per index level end false is none lowest =
    let e : suc level - 1 ≡ level = omega arith in
    (lower_level per index (suc level) end is).1 ∙ ap (λ n. stops_left per index n end) e ∙ lowest

-- a block that is the first of no indirect zone has its own stop alone
pub lowest_level : (per index level end : ℕ) → begins per index 1 ≡ false → stops_left per index level end ≡ stops_left per index 0 end
lowest_level per index zero end none = refl
lowest_level per index (suc level) end none = lower-by per index level end (begins per index (suc level)) refl none (lowest_level per index level end none)

-- the stop that comes next, and those after it
pub next_block : (per index end : ℕ) → index < end
    → stops_left per index 0 end ≡ record { index = index; level = 0 } ∷ stops_left per (index + 1) 3 end
unfolding stops_left stops_at
next_block per index end more =
    let t : nat_lt index end ≡ true = grind (arith, nat_tests) in
    let all = stops_left_by per (index + 1) end (end - (index + 1)) refl in
    let others = ap (λ (stops : List Stop). record { index = index; level = 0 } ∷ stops) (sym all) in
    rw t others

pub next_below : (per index level end : ℕ) → index < end → 0 < level → begins per index level ≡ true
    → stops_left per index level end ≡ record { index = index; level = level } ∷ stops_left per index (level - 1) end
unfolding stops_left stops_at
next_below per index zero end more high begun = absurd (omega arith)
next_below per index (suc level) end more high begun =
    let t : nat_lt index end ≡ true = grind (arith, nat_tests) in
    let e : suc level - 1 ≡ level = omega arith in
    rw (t, begun, e) refl

-- at the end no stop is left
pub none_left : (per index level end : ℕ) → end ≤ index → stops_left per index level end ≡ []
unfolding stops_left
none_left per index level end past = let f : nat_lt index end ≡ false = grind (arith, nat_tests) in rw f refl

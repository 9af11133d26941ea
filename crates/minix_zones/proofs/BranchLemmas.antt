-- The branch of a block, and those of the blocks after it.
use Rattle.std.proofs.Common.{◌≡◌, ◌≤◌, ◌<◌, ◌+◌, ◌*◌, ◌-◌, ◌%◌, ◌^◌, ℕ, zero, suc, Bool, true, false, nat_lt, refl, sym, ap, ◌∙◌, subst, arith}
use Rattle.std.proofs.lemmas.Bool.Decides.{nat_tests}
use Rattle.std.proofs.lemmas.Bool.{ltb-true, ltb-false}
use Rattle.std.proofs.Math.Nat.{pow-zero, pow-succ', mod-one, one-le-pow}
use Rattle.lilo_model.specs.MinixWalk.{Branch, branch_of, place_in_branch, begins}
use Rattle.minix_zones.proofs.QuotientLemmas.{multiple_of_factor, room_behind, power_above}

-- a block in each of the four
pub branch_direct : (per index : ℕ) → index < 7 → branch_of per index ≡ record { top = index; first = index; depth = 0 }
unfolding branch_of
branch_direct per index below = let t : nat_lt index 7 ≡ true = grind (arith, nat_tests) in rw t refl

pub branch_single : (per index : ℕ) → 7 ≤ index → index < 7 + per → branch_of per index ≡ record { top = 7; first = 7; depth = 1 }
unfolding branch_of
branch_single per index above below =
    let f : nat_lt index 7 ≡ false = grind (arith, nat_tests) in
    let t : nat_lt index (7 + per) ≡ true = grind (arith, nat_tests) in
    rw (f, t) refl

pub branch_double : (per index : ℕ) → 7 + per ≤ index → index < 7 + per + per * per
    → branch_of per index ≡ record { top = 8; first = 7 + per; depth = 2 }
unfolding branch_of
branch_double per index above below =
    let f : nat_lt index 7 ≡ false = grind (arith, nat_tests) in
    let g : nat_lt index (7 + per) ≡ false = grind (arith, nat_tests) in
    let t : nat_lt index (7 + per + per * per) ≡ true = grind (arith, nat_tests) in
    rw (f, g, t) refl

pub branch_triple : (per index : ℕ) → 7 + per + per * per ≤ index
    → branch_of per index ≡ record { top = 9; first = 7 + per + per * per; depth = 3 }
unfolding branch_of
branch_triple per index above =
    let f : nat_lt index 7 ≡ false = grind (arith, nat_tests) in
    let g : nat_lt index (7 + per) ≡ false = grind (arith, nat_tests) in
    let h : nat_lt index (7 + per + per * per) ≡ false = grind (arith, nat_tests) in
    rw (f, g, h) refl

-- what it says that blocks begin at one
pub begins_within : (per index level : ℕ) → begins per index level ≡ true → level ≤ (branch_of per index).depth
unfolding begins
begins_within per index level begun = grind (arith, nat_tests)

pub begins_whole : (per index level : ℕ) → begins per index level ≡ true → place_in_branch per index % per ^ level ≡ 0
unfolding begins
begins_whole per index level begun = grind (arith, nat_tests)

-- a block that begins at one level begins at each lower one
pub begins_below : (per index low high : ℕ) → low ≤ high → begins per index high ≡ true → begins per index low ≡ true
unfolding begins
begins_below per index low high under begun =
    let place = place_in_branch per index in
    let e = ap (λ m. place % m) (sym (power_above per low high under)) ∙ begins_whole per index high begun in
    let whole = multiple_of_factor place (per ^ low) (per ^ (high - low)) e in
    let deep = begins_within per index high begun in
    grind (arith, nat_tests)

-- a block's own number begins with it
pub begins_itself : (per index : ℕ) → begins per index 0 ≡ true
unfolding begins
begins_itself per index = grind (arith, nat_tests, pow-zero per, ap (λ n. place_in_branch per index % n) (pow-zero per) ∙ mod-one (place_in_branch per index))

-- a block that comes soon after one in a branch is in that branch too
in_range : (per index first depth level next : ℕ) → 0 < per ^ level → level ≤ depth → first ≤ index → (index - first) % per ^ level ≡ 0
    → index < first + per ^ depth → next < index + per ^ level → next < first + per ^ depth
in_range per index first depth level next some low above whole below near =
    let m = per ^ level in
    let e = power_above per level depth low in
    let room : (index - first) + m ≤ m * per ^ (depth - level) = room_behind (index - first) m (per ^ (depth - level)) some whole (omega arith) in
    omega (arith, e)

pub one : (per : ℕ) → per ^ 1 ≡ per
one per = let e : per * per ^ 0 ≡ per * 1 = ap (λ n. per * n) (pow-zero per) in omega (arith, e, pow-succ' per 0)

pub two : (per : ℕ) → per ^ 2 ≡ per * per
two per = let e : per * per ^ 1 ≡ per * per = ap (λ n. per * n) (one per) in omega (arith, e, pow-succ' per 1)

same-direct : (per index level next : ℕ) → index < 7 → begins per index level ≡ true → index ≤ next → next < index + per ^ level
    → branch_of per next ≡ branch_of per index
same-direct per index zero next below begun after near =
    let e : next ≡ index = omega (arith, pow-zero per) in ap (branch_of per) e
same-direct per index (suc level) next below begun after near =
    absurd (omega (arith, begins_within per index (suc level) begun, ap (λ b. b.depth) (branch_direct per index below)))

-- a block's place in a branch that is known, and its level
whole-in : (per index level : ℕ) (branch : Branch) → branch_of per index ≡ branch → begins per index level ≡ true
    → (level ≤ branch.depth) × ((index - branch.first) % per ^ level ≡ 0)
whole-in per index level branch is begun = (
  subst (λ (b : Branch). level ≤ b.depth) is (begins_within per index level begun),
  subst (λ (b : Branch). (index - b.first) % per ^ level ≡ 0) is (begins_whole per index level begun),
)

same-single : (per index level next : ℕ) → 0 < per → 7 ≤ index → index < 7 + per → begins per index level ≡ true → index ≤ next → next < index + per ^ level
    → branch_of per next ≡ branch_of per index
same-single per index level next some above below begun after near =
    let is = branch_single per index above below in
    let at = whole-in per index level (record { top = 7; first = 7; depth = 1 }) is begun in
    let end : next < 7 + per ^ 1 = in_range per index 7 1 level next (one-le-pow level per some) at.0 above at.1 (omega (arith, one per)) near in
    branch_single per next (omega arith) (omega (arith, one per)) ∙ sym is

same-double : (per index level next : ℕ) → 0 < per → 7 + per ≤ index → index < 7 + per + per * per → begins per index level ≡ true → index ≤ next → next < index + per ^ level
    → branch_of per next ≡ branch_of per index
same-double per index level next some above below begun after near =
    let is = branch_double per index above below in
    let at = whole-in per index level (record { top = 8; first = 7 + per; depth = 2 }) is begun in
    let end : next < 7 + per + per ^ 2 = in_range per index (7 + per) 2 level next (one-le-pow level per some) at.0 above at.1 (omega (arith, two per)) near in
    branch_double per next (omega arith) (omega (arith, two per)) ∙ sym is

same-triple : (per index next : ℕ) → 7 + per + per * per ≤ index → index ≤ next → branch_of per next ≡ branch_of per index
same-triple per index next above after =
    branch_triple per next (omega arith) ∙ sym (branch_triple per index above)

by-branch : (per index level next : ℕ) (direct single double : Bool) → nat_lt index 7 ≡ direct → nat_lt index (7 + per) ≡ single → nat_lt index (7 + per + per * per) ≡ double
    → 0 < per → begins per index level ≡ true → index ≤ next → next < index + per ^ level → branch_of per next ≡ branch_of per index
by-branch per index level next true single double d s e some begun after near =
    same-direct per index level next (ltb-true index 7 d) begun after near
by-branch per index level next false true double d s e some begun after near =
    same-single per index level next some (ltb-false index 7 d) (ltb-true index (7 + per) s) begun after near
by-branch per index level next false false true d s e some begun after near =
    same-double per index level next some (ltb-false index (7 + per) s) (ltb-true index (7 + per + per * per) e) begun after near
by-branch per index level next false false false d s e some begun after near =
    same-triple per index next (ltb-false index (7 + per + per * per) e) after

-- the blocks that are found through a pointer are in the branch of the first
pub same_branch : (per index level next : ℕ) → 0 < per → begins per index level ≡ true → index ≤ next → next < index + per ^ level
    → branch_of per next ≡ branch_of per index
same_branch per index level next =
    by-branch per index level next (nat_lt index 7) (nat_lt index (7 + per)) (nat_lt index (7 + per + per * per)) refl refl refl

-- a branch begins before its blocks
pub first_below : (per index : ℕ) → (branch_of per index).first ≤ index
unfolding branch_of
first_below per index = grind (arith, nat_tests)

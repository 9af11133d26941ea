-- Steps of the ways to blocks of a directory: those that lead to the same blocks are the same, and each step above one that is
-- there is.
use Rattle.std.proofs.Common.{◌≡◌, ◌≢◌, ◌≤◌, ◌<◌, ◌+◌, ◌-◌, ◌*◌, ◌/◌, ◌%◌, ◌^◌, ℕ, zero, suc, Bool, true, false, nat_lt, refl, sym, ap, ◌∙◌, subst, arith, ⊎_elim}
use Rattle.std.proofs.lemmas.Bool.{cases_lt}
use Rattle.std.proofs.lemmas.Bool.Decides.{nat_tests}
use Rattle.std.proofs.Math.Nat.{div-add-mod, mul-div_cancel_left, pow-zero, pow-succ'}
use Rattle.lilo_model.specs.MinixLayout.{Kind, Super, numbers_in_zone}
use Rattle.lilo_model.specs.MinixNames.{pointer, zone_number}
use Rattle.lilo_model.specs.MinixParts.{Parts, Pointer, follow, pointer_with}
use Rattle.lilo_model.specs.MinixWalk.{Branch, branch_of, place_in_branch, stop_pointer}
use Rattle.minix_change_laws.specs.Grows.{below}
use Rattle.minix_laws.proofs.Inside.{some_numbers}
use Rattle.write_model.specs.Growth.{first_beside}
use Rattle.minix_grow.specs.Way.{depth_of, pointer_above, index_above, number_above}
use Rattle.minix_grow.proofs.WayLemmas.{pointer_below, pointer_lowest}

-- ---- the same blocks

-- a block of a branch before another, and not before its first one, is of that branch
between : (per block mid : ℕ) (one two three : Bool) → nat_lt block 7 ≡ one → nat_lt block (7 + per) ≡ two → nat_lt block (7 + per + per * per) ≡ three
    → (branch_of per block).first ≤ mid → mid ≤ block → branch_of per mid ≡ branch_of per block
unfolding branch_of
between per block mid true two three is is' is'' from to =
    let low : block ≤ mid = rw is at from in
    let same : mid ≡ block = omega (arith, low, to) in
    ap (branch_of per) same
between per block mid false true three is is' is'' from to =
    let low : 7 ≤ mid = rw (is, is') at from in
    let here : nat_lt mid 7 ≡ false = grind (arith, nat_tests) in
    let there : nat_lt mid (7 + per) ≡ true = grind (arith, nat_tests) in
    rw (is, is', here, there) refl
between per block mid false false true is is' is'' from to =
    let low : 7 + per ≤ mid = rw (is, is', is'') at from in
    let here : nat_lt mid 7 ≡ false = grind (arith, nat_tests) in
    let there : nat_lt mid (7 + per) ≡ false = grind (arith, nat_tests) in
    let last : nat_lt mid (7 + per + per * per) ≡ true = grind (arith, nat_tests) in
    rw (is, is', is'', here, there, last) refl
between per block mid false false false is is' is'' from to =
    let low : 7 + per + per * per ≤ mid = rw (is, is', is'') at from in
    let here : nat_lt mid 7 ≡ false = grind (arith, nat_tests) in
    let there : nat_lt mid (7 + per) ≡ false = grind (arith, nat_tests) in
    let last : nat_lt mid (7 + per + per * per) ≡ false = grind (arith, nat_tests) in
    rw (is, is', is'', here, there, last) refl

first-low : (per block : ℕ) (one two three : Bool) → nat_lt block 7 ≡ one → nat_lt block (7 + per) ≡ two → nat_lt block (7 + per + per * per) ≡ three → (branch_of per block).first ≤ block
unfolding branch_of
first-low per block true two three is is' is'' = rw is (omega arith)
first-low per block false true three is is' is'' = let low : 7 ≤ block = grind (arith, nat_tests) in rw (is, is') low
first-low per block false false true is is' is'' = let low : 7 + per ≤ block = grind (arith, nat_tests) in rw (is, is', is'') low
first-low per block false false false is is' is'' = let low : 7 + per + per * per ≤ block = grind (arith, nat_tests) in rw (is, is', is'') low

mod-low : (n m : ℕ) → n % m ≤ n
mod-low n m = let e = div-add-mod n m in omega (arith, e)

-- what is left of two numbers without their rests
div-same : (m x y : ℕ) → 0 < m → x - x % m ≡ y - y % m → x / m ≡ y / m
div-same m x y some same =
    let e = div-add-mod x m in
    let e' = div-add-mod y m in
    let whole : m * (x / m) ≡ m * (y / m) = omega (arith, e, e', same) in
    sym (mul-div_cancel_left (x / m) some) ∙ (ap (λ n. n / m) whole ∙ mul-div_cancel_left (y / m) some)

power-some : (per level : ℕ) → 0 < per → 0 < per ^ level
power-some per zero some = rw (pow-zero per) (omega arith)
power-some per (suc level) some =
    let before = power-some per level some in
    let step = pow-succ' per level in
    rw step (product per (per ^ level) some before)
  where
    product : (a b : ℕ) → 0 < a → 0 < b → 0 < a * b
    product a b one two = grind arith

module _ (per m block other : ℕ) (some : 0 < m) (same : block - place_in_branch per block % m ≡ other - place_in_branch per other % m) where
  abbrev F : ℕ
  F = block - place_in_branch per block % m

  low-block : (branch_of per block).first ≤ block
  low-block = first-low per block _ _ _ refl refl refl

  low-other : (branch_of per other).first ≤ other
  low-other = first-low per other _ _ _ refl refl refl

  same-branch : branch_of per block ≡ branch_of per other
  same-branch =
      let r = mod-low (place_in_branch per block) m in
      let r' = mod-low (place_in_branch per other) m in
      sym (between per block F _ _ _ refl refl refl (omega (arith, r, low-block)) (omega arith))
      ∙ between per other F _ _ _ refl refl refl (omega (arith, r', low-other, same)) (omega (arith, same))

  same-place : place_in_branch per block / m ≡ place_in_branch per other / m
  same-place =
      let first : (branch_of per block).first ≡ (branch_of per other).first = ap (λ (b : Branch). b.first) same-branch in
      let r = mod-low (place_in_branch per block) m in
      let r' = mod-low (place_in_branch per other) m in
      div-same m (place_in_branch per block) (place_in_branch per other) some (omega (arith, first, r, r', same, low-block, low-other))

pub same_step : (kind : Kind) (block other level : ℕ) → first_beside (numbers_in_zone kind) block level ≡ first_beside (numbers_in_zone kind) other level
    → pointer_above kind block level ≡ pointer_above kind other level
unfolding stop_pointer
same_step kind block other level same =
    let per : ℕ = numbers_in_zone kind in
    let some = power-some per level (some_numbers kind) in
    let P : Branch → ℕ → Pointer = λ branch place. pointer_with per branch.top (branch.depth - level) place in
    ap (λ branch. P branch (place_in_branch per block / per ^ level)) (same-branch per (per ^ level) block other some same)
    ∙ ap (P (branch_of per other)) (same-place per (per ^ level) block other some same)

-- ---- steps above

module _ (super : Super) (parts : Parts) (number block : ℕ) where
  -- below no zone there is none
  above-some : (outer : Pointer) (index : ℕ) → pointer super parts number (below outer index) ≢ 0 → pointer super parts number outer ≢ 0
  unfolding follow
  above-some outer index some none = some (rw none refl)

  past-same : (level : ℕ) → depth_of super.kind block ≤ level → pointer_above super.kind block level ≡ pointer_above super.kind block (suc level)
  unfolding stop_pointer
  past-same level past =
      let per : ℕ = numbers_in_zone super.kind in
      let top : ℕ = (branch_of per block).top in
      let e : depth_of super.kind block - level ≡ 0 = omega (arith, past) in
      let e' : depth_of super.kind block - suc level ≡ 0 = omega (arith, past) in
      let T : ℕ → Pointer = λ d. pointer_with per top d (place_in_branch per block / per ^ level) in
      let U : ℕ → Pointer = λ d. pointer_with per top d (place_in_branch per block / per ^ suc level) in
      ap T e ∙ sym (ap U e')

  step-some : (level : ℕ) → number_above super parts number block level ≢ 0 → number_above super parts number block (suc level) ≢ 0
  step-some level some = ⊎_elim
      (λ low.
      let S : Pointer → Type 0 = λ at. pointer super parts number at ≢ 0 in
      above-some (pointer_above super.kind block (suc level)) (index_above super.kind block level) (subst S (pointer_below super.kind block level low) some))
      (λ past.
      let S : Pointer → Type 0 = λ at. pointer super parts number at ≢ 0 in
      subst S (past-same level past) some)
      (cases_lt level (depth_of super.kind block))

  pub steps_some : zone_number super parts number block ≢ 0 → (level : ℕ) → number_above super parts number block level ≢ 0
  unfolding zone_number
  steps_some some zero = let S : Pointer → Type 0 = λ at. pointer super parts number at ≢ 0 in subst S (sym (pointer_lowest super.kind block)) some
  steps_some some (suc level) = step-some level (steps_some some level)

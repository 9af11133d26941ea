-- What the numbers of an inode and of indirect zones lead to, one by one.
use Rattle.std.proofs.Common.{◌≡◌, ◌<◌, ◌+◌, ◌*◌, ◌-◌, ◌/◌, ◌%◌, ℕ, suc, true, false, nat_lt, refl, ap, ap₂, ◌∙◌, arith}
use Rattle.std.specs.Prelude.{◌==◌}
use Rattle.std.proofs.lemmas.Nat.{div-mul-add, mod-mul-add}
use Rattle.std.proofs.lemmas.Bool.Decides.{nat_tests}
use Rattle.minix_choice_laws.specs.Sources.{Block, Indirect, top_source, below_third, below_source}

-- ---- the inode's own numbers

pub top_direct : (per top : ℕ) → top < 7 → top_source per top ≡ Block top
unfolding top_source
top_direct per top low = let t : nat_lt top 7 ≡ true = grind (arith, nat_tests) in rw t refl

pub top_one : (per : ℕ) → top_source per 7 ≡ Indirect 0
unfolding top_source
top_one per = refl

pub top_two : (per : ℕ) → top_source per 8 ≡ Indirect 1
unfolding top_source
top_two per = refl

pub top_three : (per : ℕ) → top_source per 9 ≡ Indirect (2 + per)
unfolding top_source
top_three per = refl

-- ---- numbers in indirect zones

pub below_one : (per index : ℕ) → below_source per 0 index ≡ Block (7 + index)
unfolding below_source
below_one per index = refl

pub below_two : (per index : ℕ) → below_source per 1 index ≡ Indirect (2 + index)
unfolding below_source
below_two per index = refl

pub below_second : (per outer index : ℕ) → outer < per → below_source per (2 + outer) index ≡ Block (7 + per + outer * per + index)
unfolding below_source
below_second per outer index small =
    let a : (2 + outer == 0) ≡ false = grind (arith, nat_tests) in
    let b : (2 + outer == 1) ≡ false = grind (arith, nat_tests) in
    let c : nat_lt (2 + outer) (2 + per) ≡ true = grind (arith, nat_tests) in
    let e : 2 + outer - 2 ≡ outer = omega arith in
    rw (a, b, c, e) refl

pub below_three : (per index : ℕ) → 0 < per → below_source per (2 + per) index ≡ Indirect (3 + per + index * (1 + per))
unfolding below_source
below_three per index some =
    let a : (2 + per == 0) ≡ false = grind (arith, nat_tests) in
    let b : (2 + per == 1) ≡ false = grind (arith, nat_tests) in
    let c : nat_lt (2 + per) (2 + per) ≡ false = grind (arith, nat_tests) in
    let d : (2 + per == 2 + per) ≡ true = grind (arith, nat_tests) in
    rw (a, b, c, d) refl

-- those after the first of the third level, by their quotient and remainder
below_behind : (per place outer inner index : ℕ) → inner < 1 + per → place ≡ 3 + per + (outer * (1 + per) + inner)
    → below_source per place index ≡ below_third per outer inner index
unfolding below_source
below_behind per place outer inner index small is =
    let a : (place == 0) ≡ false = grind (arith, nat_tests) in
    let b : (place == 1) ≡ false = grind (arith, nat_tests) in
    let c : nat_lt place (2 + per) ≡ false = grind (arith, nat_tests) in
    let d : (place == 2 + per) ≡ false = grind (arith, nat_tests) in
    let e : place - (3 + per) ≡ outer * (1 + per) + inner = omega (arith, is) in
    let q : (place - (3 + per)) / (1 + per) ≡ outer = ap (λ n. n / (1 + per)) e ∙ div-mul-add outer (1 + per) inner small in
    let r : (place - (3 + per)) % (1 + per) ≡ inner = ap (λ n. n % (1 + per)) e ∙ mod-mul-add outer (1 + per) inner small in
    rw (a, b, c, d) (ap₂ (λ (x y : ℕ). below_third per x y index) q r)

pub below_outer : (per outer index : ℕ) → below_source per (3 + per + outer * (1 + per)) index ≡ Indirect (4 + per + outer * (1 + per) + index)
below_outer per outer index = below_behind per (3 + per + outer * (1 + per)) outer 0 index (omega arith) (omega arith)

pub below_inner : (per outer inner index : ℕ) → inner < per
    → below_source per (4 + per + outer * (1 + per) + inner) index ≡ Block (7 + per + per * per + (outer * per + inner) * per + index)
below_inner per outer inner index small = below_behind per (4 + per + outer * (1 + per) + inner) outer (suc inner) index (omega arith) (omega arith)

-- Stops and pointers: each leads to the other.
use Rattle.std.proofs.Common.{◌≡◌, ◌≤◌, ◌<◌, ◌+◌, ◌*◌, ◌-◌, ◌/◌, ◌%◌, ◌^◌, ℕ, zero, suc, Bool, true, false, nat_le, nat_lt, ◌&&◌, List, [], ◌∷◌, length, All, refl, sym, ap, ◌∙◌, subst, lit≤, lit<, arith}
use Rattle.std.specs.Prelude.{◌==◌, if◌then◌else◌}
use Rattle.std.proofs.lemmas.Nat.{div-mul-add, mod-mul-add, div-add-mod', div_below, mul-add-lt, mod_below}
use Rattle.std.proofs.Math.Nat.{pow-zero, pow-succ', one-le-pow, mul-mod_left, mul-div_cancel}
use Rattle.std.proofs.lemmas.Bool.Decides.{nat_tests}
use Rattle.std.proofs.lemmas.Bool.{ltb-true, ltb-false}
use Rattle.lilo_model.specs.MinixLayout.{Kind, V1Short, V1Long, V2Short, V2Long, reach, numbers_in_zone}
use Rattle.lilo_model.specs.MinixParts.{Pointer, IsPointer, trail_of, pointer_with}
use Rattle.minix_zones.specs.Laws.{IsStop, numbers_of}
use Rattle.lilo_model.specs.MinixWalk.{Stop, Branch, branch_of, place_in_branch, begins, stop_pointer}
use Rattle.minix_zones.proofs.QuotientLemmas.{power_above}
use Rattle.minix_zones.proofs.BranchLemmas.{branch_direct, branch_single, branch_double, branch_triple, begins_within, begins_whole, first_below, one, two}

-- ---- each of a list's numbers

abbrev Below : ℕ → List ℕ → Type 0
Below per trail = All (λ index. index < per) trail

head-below : (per index : ℕ) (before : List ℕ) → Below per (index ∷ before) → index < per
head-below per index before within = within 0 0 (omega arith)

tail-below : (per index : ℕ) (before : List ℕ) → Below per (index ∷ before) → Below per before
tail-below per index before within k d inside = within (suc k) d (omega arith)

cons-below : (per index : ℕ) (before : List ℕ) → index < per → Below per before → Below per (index ∷ before)
cons-below per index before small within zero d inside = small
cons-below per index before small within (suc k) d inside = within k d (omega arith)

-- ---- trails as numbers

abbrev pub number_of_trail : ℕ → List ℕ → ℕ
number_of_trail per [] = 0
number_of_trail per (index ∷ before) = number_of_trail per before * per + index

pub length-trail_of : (per depth place : ℕ) → length (trail_of per depth place) ≡ depth
length-trail_of per zero place = refl
length-trail_of per (suc depth) place = ap suc (length-trail_of per depth (place / per))

pub trail_within : (per depth place : ℕ) → 0 < per → All (λ index. index < per) (trail_of per depth place)
trail_within per zero place some = λ k d inside. absurd (omega arith)
trail_within per (suc depth) place some =
    cons-below per (place % per) (trail_of per depth (place / per)) (mod_below place per some) (trail_within per depth (place / per) some)

pub trail_of-number : (per : ℕ) (trail : List ℕ) → All (λ index. index < per) trail
    → trail_of per (length trail) (number_of_trail per trail) ≡ trail
trail_of-number per [] within = refl
trail_of-number per (index ∷ before) within =
    let v = number_of_trail per before in
    let small = head-below per index before within in
    let rest = trail_of-number per before (tail-below per index before within) in
    ap (λ n. n ∷ trail_of per (length before) ((v * per + index) / per)) (mod-mul-add v per index small)
    ∙ ap (λ n. index ∷ trail_of per (length before) n) (div-mul-add v per index small)
    ∙ ap (λ (others : List ℕ). index ∷ others) rest

pub number_below_power : (per : ℕ) (trail : List ℕ) → All (λ index. index < per) trail
    → number_of_trail per trail < per ^ length trail
number_below_power per [] within = omega (arith, pow-zero per)
number_below_power per (index ∷ before) within =
    let v = number_of_trail per before in
    let small = mul-add-lt v per index (per ^ length before) (number_below_power per before (tail-below per index before within)) (head-below per index before within) in
    omega (arith, small, pow-succ' per (length before))

pub number_of_trail-trail_of : (per depth place : ℕ) → 0 < per → place < per ^ depth
    → number_of_trail per (trail_of per depth place) ≡ place
number_of_trail-trail_of per zero place some below = omega (arith, pow-zero per)
number_of_trail-trail_of per (suc depth) place some below =
    let upper : place / per < per ^ depth = div_below place per (per ^ depth) some (omega (arith, pow-succ' per depth)) in
    ap (λ n. n * per + place % per) (number_of_trail-trail_of per depth (place / per) some upper) ∙ div-add-mod' place per

-- ---- the stop of a pointer

-- the first block that one of the ten numbers leads to
abbrev first_of : ℕ → ℕ → ℕ
first_of per top =
    if nat_lt top 7 then top else
    if nat_lt top 8 then 7 else
    if nat_lt top 9 then 7 + per else
    7 + per + per * per

level_of : ℕ → List ℕ → ℕ
level_of top trail = top - 6 - length trail

abbrev pub stop_for : ℕ → Pointer → Stop
stop_for per pointer = record {
  index = first_of per pointer.top + number_of_trail per pointer.trail * per ^ (pointer.top - 6 - length pointer.trail);
  level = pointer.top - 6 - length pointer.trail;
}

first-direct : (per top : ℕ) → top < 7 → first_of per top ≡ top
first-direct per top below = let t : nat_lt top 7 ≡ true = grind (arith, nat_tests) in rw t refl

-- a branch that is the one of its number
record IsBranch (per : ℕ) (branch : Branch) : Type 0 where
  pub first : first_of per branch.top ≡ branch.first
  pub depth : branch.top - 6 ≡ branch.depth

stop-from : (per index level : ℕ) (branch : Branch) → 0 < per → IsBranch per branch → level ≤ branch.depth
    → (index - branch.first) % per ^ level ≡ 0 → branch.first ≤ index → index - branch.first < per ^ branch.depth
    → stop_for per (pointer_with per branch.top (branch.depth - level) ((index - branch.first) / per ^ level)) ≡ record { index = index; level = level }
stop-from per index level branch some is low whole above below =
    let x = index - branch.first in
    let m = per ^ level in
    let q = x / m in
    let e = power_above per level branch.depth low in
    let small : q < per ^ (branch.depth - level) = div_below x m (per ^ (branch.depth - level)) (one-le-pow level per some) (omega (arith, e)) in
    let number = number_of_trail-trail_of per (branch.depth - level) q some small in
    let len = length-trail_of per (branch.depth - level) q in
    let lev : branch.top - 6 - length (trail_of per (branch.depth - level) q) ≡ level = omega (arith, len, is.depth) in
    let at : q * m ≡ x = omega (arith, div-add-mod' x m) in
    let index_is : first_of per branch.top + number_of_trail per (trail_of per (branch.depth - level) q) * per ^ (branch.top - 6 - length (trail_of per (branch.depth - level) q)) ≡ index =
    ap (λ n. first_of per branch.top + number_of_trail per (trail_of per (branch.depth - level) q) * per ^ n) lev
    ∙ ap (λ n. first_of per branch.top + n * m) number
    ∙ ap (λ n. n + q * m) is.first
    ∙ omega arith in
    let F : ℕ → ℕ → Stop = λ i l. record { index = i; level = l } in
    ap (λ i. F i (branch.top - 6 - length (trail_of per (branch.depth - level) q))) index_is ∙ ap (λ l. F index l) lev

-- ---- each stop is that of its pointer

-- a block's branch is that of its number, and the block lies in it
record IsKnown (per index : ℕ) (branch : Branch) : Type 0 where
  pub is : IsBranch per branch
  pub ten : branch.top < 10
  pub near : index - branch.first < per ^ branch.depth

known-by : (per index : ℕ) (direct single double : Bool) → nat_lt index 7 ≡ direct → nat_lt index (7 + per) ≡ single
    → nat_lt index (7 + per + per * per) ≡ double → index < 7 + per + per * per + per ^ 3 → IsKnown per index (branch_of per index)
known-by per index true single double d s e end =
    let low = ltb-true index 7 d in
    rw (branch_direct per index low) (record {
      is = record { first = first-direct per index low; depth = omega arith };
      ten = omega arith;
      near = omega (arith, pow-zero per);
    })
known-by per index false true double d s e end =
    let above = ltb-false index 7 d in
    let below = ltb-true index (7 + per) s in
    rw (branch_single per index above below) (record { is = record { first = refl; depth = refl }; ten = lit< tt; near = omega (arith, one per) })
known-by per index false false true d s e end =
    let above = ltb-false index (7 + per) s in
    let below = ltb-true index (7 + per + per * per) e in
    rw (branch_double per index above below) (record { is = record { first = refl; depth = refl }; ten = lit< tt; near = omega (arith, two per) })
known-by per index false false false d s e end =
    let above = ltb-false index (7 + per + per * per) e in
    rw (branch_triple per index above) (record { is = record { first = refl; depth = refl }; ten = lit< tt; near = omega arith })

reach-most : (kind : Kind) → reach kind ≤ 7 + numbers_in_zone kind + numbers_in_zone kind * numbers_in_zone kind + numbers_in_zone kind ^ 3
reach-most V1Short = lit≤ tt
reach-most V1Long = lit≤ tt
reach-most V2Short = lit≤ tt
reach-most V2Long = lit≤ tt

known : (kind : Kind) (index : ℕ) → index < reach kind → IsKnown (numbers_in_zone kind) index (branch_of (numbers_in_zone kind) index)
known kind index reached =
    let per = numbers_in_zone kind in
    known-by per index (nat_lt index 7) (nat_lt index (7 + per)) (nat_lt index (7 + per + per * per)) refl refl refl (omega (arith, reach-most kind))

pub stop_for-pointer : (kind : Kind) (stop : Stop) → 0 < numbers_in_zone kind → IsStop kind stop
    → stop_for (numbers_in_zone kind) (stop_pointer (numbers_in_zone kind) stop) ≡ stop
unfolding stop_pointer
stop_for-pointer kind stop some is =
    let per = numbers_in_zone kind in
    let at = known kind stop.index is.reached in
    stop-from per stop.index stop.level (branch_of per stop.index) some at.is (begins_within per stop.index stop.level is.begun)
    (begins_whole per stop.index stop.level is.begun) (first_below per stop.index) at.near

pub stop_has_pointer : (kind : Kind) (stop : Stop) → 0 < numbers_in_zone kind → IsStop kind stop → IsPointer kind (stop_pointer (numbers_in_zone kind) stop)
unfolding stop_pointer
stop_has_pointer kind stop some is =
    let per = numbers_in_zone kind in
    let branch = branch_of per stop.index in
    let at = known kind stop.index is.reached in
    let place = place_in_branch per stop.index / per ^ stop.level in
    let len = length-trail_of per (branch.depth - stop.level) place in
    record {
      ten = at.ten;
      deep = omega (arith, len, at.is.depth);
      within = trail_within per (branch.depth - stop.level) place some;
    }

-- ---- each pointer is that of its stop

reach-some : (kind : Kind) → 7 ≤ reach kind
reach-some V1Short = lit≤ tt
reach-some V1Long = lit≤ tt
reach-some V2Short = lit≤ tt
reach-some V2Long = lit≤ tt

reach-single : (kind : Kind) → first_of (numbers_in_zone kind) 7 + numbers_in_zone kind ^ 1 ≤ reach kind
reach-single V1Short = lit≤ tt
reach-single V1Long = lit≤ tt
reach-single V2Short = lit≤ tt
reach-single V2Long = lit≤ tt

reach-double : (kind : Kind) → first_of (numbers_in_zone kind) 8 + numbers_in_zone kind ^ 2 ≤ reach kind
reach-double V1Short = lit≤ tt
reach-double V1Long = lit≤ tt
reach-double V2Short = lit≤ tt
reach-double V2Long = lit≤ tt

reach-last : first_of 256 9 + 256 ^ 3 ≤ 16843015
reach-last = lit≤ tt

reach-triple : (kind : Kind) (top : ℕ) → top < numbers_of kind → 9 ≤ top → first_of (numbers_in_zone kind) top + numbers_in_zone kind ^ (top - 6) ≤ reach kind
reach-triple V1Short top below above = absurd (omega arith)
reach-triple V1Long top below above = absurd (omega arith)
reach-triple V2Short top below above = let is : 9 ≡ top = omega arith in subst (λ n. first_of 256 n + 256 ^ (n - 6) ≤ 16843015) is reach-last
reach-triple V2Long top below above = let is : 9 ≡ top = omega arith in subst (λ n. first_of 256 n + 256 ^ (n - 6) ≤ 16843015) is reach-last

by-fields : (per top index top' first depth : ℕ) → top' ≡ top → first ≡ first_of per top → depth ≡ top - 6
    → branch_of per index ≡ record { top = top'; first = first; depth = depth }
    → branch_of per index ≡ record { top = top; first = first_of per top; depth = top - 6 }
by-fields per top index top' first depth t f d known =
    let F : ℕ → ℕ → ℕ → Branch = λ t i z. record { top = t; first = i; depth = z } in
    known ∙ ap (λ n. F n first depth) t ∙ ap (λ n. F top n depth) f ∙ ap (F top (first_of per top)) d

-- the branch of a block, by its number
by-number : (per top index : ℕ) (direct single double : Bool) → nat_lt top 7 ≡ direct → nat_lt top 8 ≡ single → nat_lt top 9 ≡ double
    → top < 10 → first_of per top ≤ index → index < first_of per top + per ^ (top - 6)
    → branch_of per index ≡ record { top = top; first = first_of per top; depth = top - 6 }
by-number per top index true single double d s e ten above below =
    let low = ltb-true top 7 d in
    let f : first_of per top ≡ top = rw d refl in
    let zero_depth : top - 6 ≡ 0 = omega arith in
    let p : per ^ (top - 6) ≡ 1 = ap (λ n. per ^ n) zero_depth ∙ pow-zero per in
    let same : index ≡ top = omega (arith, f, p) in
    let F : ℕ → ℕ → ℕ → Branch = λ t i z. record { top = t; first = i; depth = z } in
    branch_direct per index (omega arith) ∙ ap (λ t. F t t 0) same ∙ ap (λ i. F top i 0) (sym f) ∙ ap (F top (first_of per top)) (sym zero_depth)
by-number per top index false true double d s e ten above below =
    let is : top ≡ 7 = omega (arith, ltb-false top 7 d, ltb-true top 8 s) in
    let f : first_of per top ≡ 7 = rw (d, s) refl in
    let p : per ^ (top - 6) ≡ per = ap (λ n. per ^ (n - 6)) is ∙ one per in
    let known : branch_of per index ≡ record { top = 7; first = 7; depth = 1 } = branch_single per index (omega (arith, f)) (omega (arith, f, p)) in
    by-fields per top index 7 7 1 (sym is) (sym f) (omega arith) known
by-number per top index false false true d s e ten above below =
    let is : top ≡ 8 = omega (arith, ltb-false top 8 s, ltb-true top 9 e) in
    let f : first_of per top ≡ 7 + per = rw (d, s, e) refl in
    let p : per ^ (top - 6) ≡ per * per = ap (λ n. per ^ (n - 6)) is ∙ two per in
    let known : branch_of per index ≡ record { top = 8; first = 7 + per; depth = 2 } = branch_double per index (omega (arith, f)) (omega (arith, f, p)) in
    by-fields per top index 8 (7 + per) 2 (sym is) (sym f) (omega arith) known
by-number per top index false false false d s e ten above below =
    let is : top ≡ 9 = omega (arith, ltb-false top 9 e) in
    let f : first_of per top ≡ 7 + per + per * per = rw (d, s, e) refl in
    let known : branch_of per index ≡ record { top = 9; first = 7 + per + per * per; depth = 3 } = branch_triple per index (omega (arith, f)) in
    by-fields per top index 9 (7 + per + per * per) 3 (sym is) (sym f) (omega arith) known

minus-first : (first place : ℕ) → first + place - first ≡ place
minus-first first place = omega arith

begins-at : (level depth place blocks : ℕ) → level ≤ depth → place % blocks ≡ 0 → (nat_le level depth && (place % blocks == 0)) ≡ true
begins-at level depth place blocks low whole = grind (arith, nat_tests)

reach-by : (kind : Kind) (top : ℕ) (direct single double : Bool) → nat_lt top 7 ≡ direct → nat_lt top 8 ≡ single → nat_lt top 9 ≡ double
    → top < numbers_of kind → first_of (numbers_in_zone kind) top + numbers_in_zone kind ^ (top - 6) ≤ reach kind
reach-by kind top true single double d s e below =
    let per = numbers_in_zone kind in
    let zero_depth : top - 6 ≡ 0 = omega (arith, ltb-true top 7 d) in
    let p : per ^ (top - 6) ≡ 1 = ap (λ n. per ^ n) zero_depth ∙ pow-zero per in
    let f : first_of per top ≡ top = rw d refl in
    omega (arith, f, p, ltb-true top 7 d, reach-some kind)
reach-by kind top false true double d s e below =
    let is : top ≡ 7 = omega (arith, ltb-false top 7 d, ltb-true top 8 s) in
    subst (λ n. first_of (numbers_in_zone kind) n + numbers_in_zone kind ^ (n - 6) ≤ reach kind) (sym is) (reach-single kind)
reach-by kind top false false true d s e below =
    let is : top ≡ 8 = omega (arith, ltb-false top 8 s, ltb-true top 9 e) in
    subst (λ n. first_of (numbers_in_zone kind) n + numbers_in_zone kind ^ (n - 6) ≤ reach kind) (sym is) (reach-double kind)
reach-by kind top false false false d s e below =
    reach-triple kind top below (ltb-false top 9 e)

-- the blocks of a number lie within the reach
reach-of : (kind : Kind) (top : ℕ) → top < numbers_of kind
    → first_of (numbers_in_zone kind) top + numbers_in_zone kind ^ (top - 6) ≤ reach kind
reach-of kind top below = reach-by kind top (nat_lt top 7) (nat_lt top 8) (nat_lt top 9) refl refl refl below

pub pointer_has_stop : (kind : Kind) (pointer : Pointer) → 0 < numbers_in_zone kind → IsPointer kind pointer → pointer.top < numbers_of kind
    → IsStop kind (stop_for (numbers_in_zone kind) pointer) × (stop_pointer (numbers_in_zone kind) (stop_for (numbers_in_zone kind) pointer) ≡ pointer)
unfolding stop_pointer begins
pointer_has_stop kind pointer some is below =
    let per = numbers_in_zone kind in
    let top = pointer.top in
    let trail = pointer.trail in
    let depth = top - 6 in
    let level = depth - length trail in
    let v = number_of_trail per trail in
    let m = per ^ level in
    let first = first_of per top in
    let index = first + v * m in
    let e : per ^ depth ≡ m * per ^ (depth - level) = power_above per level depth (omega arith) in
    let len : depth - level ≡ length trail = omega (arith, is.deep) in
    let small : v < per ^ (depth - level) = rw len (number_below_power per trail is.within) in
    let inside : v * m + 0 < m * per ^ (depth - level) = mul-add-lt v m 0 (per ^ (depth - level)) small (one-le-pow level per some) in
    let branch : branch_of per index ≡ record { top = top; first = first; depth = depth } =
    by-number per top index (nat_lt top 7) (nat_lt top 8) (nat_lt top 9) refl refl refl is.ten (omega arith) (omega (arith, e)) in
    let place : index - (branch_of per index).first ≡ v * m = rw branch (omega arith) in
    let whole : (v * m) % m ≡ 0 = mul-mod_left v m in
    let quotient : v * m / m ≡ v = mul-div_cancel v (one-le-pow level per some) in
    let begun : begins per index level ≡ true = rw (branch) (begins-at level depth (first + v * m - first) m (omega arith) (rw (minus-first first (v * m)) whole)) in
    let P : Branch → Pointer = λ b. pointer_with per b.top (b.depth - level) ((index - b.first) / m) in
    let at : P (branch_of per index) ≡ P (record { top = top; first = first; depth = depth }) = ap P branch in
    let T : ℕ → ℕ → Pointer = λ d x. pointer_with per top d x in
    let there : P (record { top = top; first = first; depth = depth }) ≡ pointer_with per top (length trail) v =
    ap (λ d. T d ((index - first) / m)) len ∙ ap (λ n. T (length trail) (n / m)) (minus-first first (v * m)) ∙ ap (T (length trail)) quotient in
    let Q : List ℕ → Pointer = λ t. record { top = top; trail = t } in
    (record { reached = omega (arith, reach-of kind top below, e); begun = begun }, at ∙ there ∙ ap Q (trail_of-number per trail is.within))

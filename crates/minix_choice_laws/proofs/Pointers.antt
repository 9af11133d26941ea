-- What pointers lead to.
use Rattle.std.proofs.Common.{◌≡◌, ◌≤◌, ◌<◌, ◌+◌, ◌*◌, ◌-◌, ◌/◌, ◌%◌, ℕ, zero, suc, true, false, nat_lt, List, [], ◌∷◌, length, All, refl, sym, ap, ap₂, ◌∙◌, subst, lit<, arith, ⊎_elim}
use Rattle.std.specs.Prelude.{◌==◌, if◌then◌else◌}
use Rattle.std.proofs.lemmas.Nat.{div-mul-add, mod-mul-add, div-add-mod', div_below, mod_below, mul-add-lt}
use Rattle.std.proofs.lemmas.Bool.{cases_eq, cases_lt}
use Rattle.std.proofs.lemmas.Bool.Decides.{nat_tests}
use Rattle.lilo_model.specs.MinixLayout.{Kind, V1Short, V1Long, V2Short, V2Long, numbers_in_zone, reach}
use Rattle.lilo_model.specs.MinixParts.{Pointer, IsPointer, pointer_with, pointer_by}
use Rattle.minix_choice_laws.specs.Sources.{Source, Block, Indirect, source_below, source_of}
use Rattle.minix_choice_laws.proofs.Sources.{top_direct, top_one, top_two, top_three, below_one, below_two, below_second, below_three, below_outer, below_inner}

abbrev pub pointer_at : ℕ → List ℕ → Pointer
pointer_at top trail = record { top = top; trail = trail }

abbrev Within : ℕ → List ℕ → Type 0
Within per trail = All (λ index. index < per) trail

head_within : (per index : ℕ) (before : List ℕ) → Within per (index ∷ before) → index < per
head_within per index before within = within 0 0 (omega arith)

tail_within : (per index : ℕ) (before : List ℕ) → Within per (index ∷ before) → Within per before
tail_within per index before within k d inside = within (suc k) d (omega arith)

-- ---- a pointer is one of ten forms

from_seven : (Q : ℕ → Type 0) (top : ℕ) → 7 ≤ top → top < 10 → Q 7 → Q 8 → Q 9 → Q top
from_seven Q top low high seven eight nine = ⊎_elim
    (λ is. subst Q (sym is) seven)
    (λ not_seven. ⊎_elim (λ is. subst Q (sym is) eight) (λ not_eight. let is : 9 ≡ top = omega arith in subst Q is nine) (cases_eq top 8))
    (cases_eq top 7)

from_eight : (Q : ℕ → Type 0) (top : ℕ) → 8 ≤ top → top < 10 → Q 8 → Q 9 → Q top
from_eight Q top low high eight nine = ⊎_elim
    (λ is. subst Q (sym is) eight)
    (λ not_eight. let is : 9 ≡ top = omega arith in subst Q is nine)
    (cases_eq top 8)

module _ (per : ℕ) (P : Pointer → Type 0)
    (direct : (top : ℕ) → top < 7 → P (pointer_at top []))
    (one : P (pointer_at 7 []))
    (two : P (pointer_at 8 []))
    (three : P (pointer_at 9 []))
    (in_one : (i : ℕ) → i < per → P (pointer_at 7 (i ∷ [])))
    (in_two : (i : ℕ) → i < per → P (pointer_at 8 (i ∷ [])))
    (in_three : (i : ℕ) → i < per → P (pointer_at 9 (i ∷ [])))
    (below_two_more : (i j : ℕ) → i < per → j < per → P (pointer_at 8 (j ∷ (i ∷ []))))
    (below_three_more : (i j : ℕ) → i < per → j < per → P (pointer_at 9 (j ∷ (i ∷ []))))
    (last : (i j k : ℕ) → i < per → j < per → k < per → P (pointer_at 9 (k ∷ (j ∷ (i ∷ []))))) where
  by_form : (top : ℕ) (trail : List ℕ) → top < 10 → length trail ≤ top - 6 → Within per trail → P (pointer_at top trail)
  by_form top [] ten deep within =
      ⊎_elim (λ low. direct top low) (λ high. from_seven (λ t. P (pointer_at t [])) top high ten one two three) (cases_lt top 7)
  by_form top (i ∷ []) ten deep within =
      let small = head_within per i [] within in
      from_seven (λ t. P (pointer_at t (i ∷ []))) top (omega (arith, deep)) ten (in_one i small) (in_two i small) (in_three i small)
  by_form top (j ∷ (i ∷ [])) ten deep within =
      let inner = head_within per j (i ∷ []) within in
      let outer = head_within per i [] (tail_within per j (i ∷ []) within) in
      from_eight (λ t. P (pointer_at t (j ∷ (i ∷ [])))) top (omega (arith, deep)) ten (below_two_more i j outer inner) (below_three_more i j outer inner)
  by_form top (k ∷ (j ∷ (i ∷ []))) ten deep within =
      let a = head_within per k (j ∷ (i ∷ [])) within in
      let rest = tail_within per k (j ∷ (i ∷ [])) within in
      let b = head_within per j (i ∷ []) rest in
      let c = head_within per i [] (tail_within per j (i ∷ []) rest) in
      let is : 9 ≡ top = omega (arith, deep, ten) in
      subst (λ t. P (pointer_at t (k ∷ (j ∷ (i ∷ []))))) is (last i j k c b a)
  by_form top (l ∷ (k ∷ (j ∷ (i ∷ more)))) ten deep within = absurd (omega (arith, deep, ten))

  pub pointer_cases : (at : Pointer) → (ten : at.top < 10) → length at.trail ≤ at.top - 6 → Within per at.trail → P at
  pointer_cases at ten deep within = by_form at.top at.trail ten deep within

-- ---- what each leads to

module _ (per : ℕ) (some : 0 < per) where
  pub is_direct : (top : ℕ) → top < 7 → source_of per (pointer_at top []) ≡ Block top
  is_direct top low = top_direct per top low

  pub is_in_one : (i : ℕ) → source_of per (pointer_at 7 (i ∷ [])) ≡ Block (7 + i)
  is_in_one i = ap (λ source. source_below per source i) (top_one per) ∙ below_one per i

  pub is_in_two : (i : ℕ) → source_of per (pointer_at 8 (i ∷ [])) ≡ Indirect (2 + i)
  is_in_two i = ap (λ source. source_below per source i) (top_two per) ∙ below_two per i

  pub is_in_three : (i : ℕ) → source_of per (pointer_at 9 (i ∷ [])) ≡ Indirect (3 + per + i * (1 + per))
  is_in_three i = ap (λ source. source_below per source i) (top_three per) ∙ below_three per i some

  pub is_below_two : (i j : ℕ) → i < per → source_of per (pointer_at 8 (j ∷ (i ∷ []))) ≡ Block (7 + per + i * per + j)
  is_below_two i j small = ap (λ source. source_below per source j) (is_in_two i) ∙ below_second per i j small

  pub is_below_three : (i j : ℕ) → source_of per (pointer_at 9 (j ∷ (i ∷ []))) ≡ Indirect (4 + per + i * (1 + per) + j)
  is_below_three i j = ap (λ source. source_below per source j) (is_in_three i) ∙ below_outer per i j

  pub is_last : (i j k : ℕ) → j < per → source_of per (pointer_at 9 (k ∷ (j ∷ (i ∷ [])))) ≡ Block (7 + per + per * per + (i * per + j) * per + k)
  is_last i j k small = ap (λ source. source_below per source k) (is_below_three i j) ∙ below_inner per i j k small

-- ---- an indirect zone leads to one, as long as the trail isn't at its end

abbrev IsIndirect : Source → Type 0
IsIndirect (Block index) = ⊥
IsIndirect (Indirect place) = Unit {0}

module _ (per : ℕ) (some : 0 < per) where
  abbrev IsAbove : Pointer → Type 0
  IsAbove at = length at.trail < at.top - 6 → IsIndirect (source_of per at)

  is_above : (at : Pointer) → at.top < 10 → length at.trail ≤ at.top - 6 → Within per at.trail → IsAbove at
  is_above = pointer_cases per IsAbove
      (λ top low short. absurd (omega arith))
      (λ short. subst IsIndirect (sym (top_one per)) tt)
      (λ short. subst IsIndirect (sym (top_two per)) tt)
      (λ short. subst IsIndirect (sym (top_three per)) tt)
      (λ i small short. absurd (omega arith))
      (λ i small short. subst IsIndirect (sym (is_in_two per some i)) tt)
      (λ i small short. subst IsIndirect (sym (is_in_three per some i)) tt)
      (λ i j a b short. absurd (omega arith))
      (λ i j a b short. subst IsIndirect (sym (is_below_three per some i j)) tt)
      (λ i j k a b c short. absurd (omega arith))

pub as_indirect : (source : Source) → IsIndirect source → (place : ℕ) × (source ≡ Indirect place)
as_indirect (Block index) is = absurd is
as_indirect (Indirect place) is = (place, refl)

-- the pointer of an indirect zone, by its place
pub outer_place : (per top : ℕ) (before : List ℕ) → 0 < per → top < 10 → length before < top - 6 → Within per before
    → (place : ℕ) × (source_of per (pointer_at top before) ≡ Indirect place)
outer_place per top before some ten deep within =
    as_indirect (source_of per (pointer_at top before)) (is_above per some (pointer_at top before) ten (omega arith) within deep)

-- ---- each pointer is that of what it leads to

abbrev pub pointer_third : ℕ → ℕ → Pointer
pointer_third outer zero = pointer_at 9 (outer ∷ [])
pointer_third outer (suc inner) = pointer_at 9 (inner ∷ (outer ∷ []))

pub pointer_behind : ℕ → ℕ → Pointer
pointer_behind per place =
    if place == 0 then pointer_at 7 [] else
    if place == 1 then pointer_at 8 [] else
    if nat_lt place (2 + per) then pointer_at 8 ((place - 2) ∷ []) else
    if place == 2 + per then pointer_at 9 [] else
    pointer_third ((place - (3 + per)) / (1 + per)) ((place - (3 + per)) % (1 + per))

abbrev pub pointer_from : ℕ → Source → Pointer
pointer_from per (Block index) = pointer_by per index
pointer_from per (Indirect place) = pointer_behind per place

module _ (per : ℕ) (some : 0 < per) where
  behind_two : (i : ℕ) → i < per → pointer_behind per (2 + i) ≡ pointer_at 8 (i ∷ [])
  unfolding pointer_behind
  behind_two i small =
      let a : (2 + i == 0) ≡ false = grind (arith, nat_tests) in
      let b : (2 + i == 1) ≡ false = grind (arith, nat_tests) in
      let c : nat_lt (2 + i) (2 + per) ≡ true = grind (arith, nat_tests) in
      let e : 2 + i - 2 ≡ i = omega arith in
      rw (a, b, c, e) refl

  behind_three : pointer_behind per (2 + per) ≡ pointer_at 9 []
  unfolding pointer_behind
  behind_three =
      let a : (2 + per == 0) ≡ false = grind (arith, nat_tests) in
      let b : (2 + per == 1) ≡ false = grind (arith, nat_tests) in
      let c : nat_lt (2 + per) (2 + per) ≡ false = grind (arith, nat_tests) in
      let d : (2 + per == 2 + per) ≡ true = grind (arith, nat_tests) in
      rw (a, b, c, d) refl

  behind_more : (place outer inner : ℕ) → inner < 1 + per → place ≡ 3 + per + (outer * (1 + per) + inner) → pointer_behind per place ≡ pointer_third outer inner
  unfolding pointer_behind
  behind_more place outer inner small is =
      let a : (place == 0) ≡ false = grind (arith, nat_tests) in
      let b : (place == 1) ≡ false = grind (arith, nat_tests) in
      let c : nat_lt place (2 + per) ≡ false = grind (arith, nat_tests) in
      let d : (place == 2 + per) ≡ false = grind (arith, nat_tests) in
      let e : place - (3 + per) ≡ outer * (1 + per) + inner = omega (arith, is) in
      let q : (place - (3 + per)) / (1 + per) ≡ outer = ap (λ n. n / (1 + per)) e ∙ div-mul-add outer (1 + per) inner small in
      let r : (place - (3 + per)) % (1 + per) ≡ inner = ap (λ n. n % (1 + per)) e ∙ mod-mul-add outer (1 + per) inner small in
      rw (a, b, c, d) (ap₂ (λ (x y : ℕ). pointer_third x y) q r)

  behind_zero : pointer_behind per 0 ≡ pointer_at 7 []
  unfolding pointer_behind
  behind_zero = refl

  behind_one : pointer_behind per 1 ≡ pointer_at 8 []
  unfolding pointer_behind
  behind_one = refl

  -- blocks
  by_direct : (index : ℕ) → index < 7 → pointer_by per index ≡ pointer_at index []
  unfolding pointer_by
  by_direct index low = let t : nat_lt index 7 ≡ true = grind (arith, nat_tests) in rw t refl

  small_mod : (i : ℕ) → i < per → i % per ≡ i
  small_mod i small = let e : i ≡ 0 * per + i = omega arith in ap (λ n. n % per) e ∙ mod-mul-add 0 per i small

  -- a trail of two numbers
  trail_two : (n i j : ℕ) → n ≡ i * per + j → i < per → j < per → pointer_with per 8 2 n ≡ pointer_at 8 (j ∷ (i ∷ []))
  trail_two n i j is outer inner =
      let r : n % per ≡ j = ap (λ x. x % per) is ∙ mod-mul-add i per j inner in
      let q : n / per ≡ i = ap (λ x. x / per) is ∙ div-mul-add i per j inner in
      let s : n / per % per ≡ i = ap (λ x. x % per) q ∙ small_mod i outer in
      ap₂ (λ (x y : ℕ). pointer_at 8 (x ∷ (y ∷ []))) r s

  by_one : (i : ℕ) → i < per → pointer_by per (7 + i) ≡ pointer_at 7 (i ∷ [])
  unfolding pointer_by
  by_one i small =
      let a : nat_lt (7 + i) 7 ≡ false = grind (arith, nat_tests) in
      let b : nat_lt (7 + i) (7 + per) ≡ true = grind (arith, nat_tests) in
      let e : 7 + i - 7 ≡ 0 * per + i = omega arith in
      let r : (7 + i - 7) % per ≡ i = ap (λ n. n % per) e ∙ mod-mul-add 0 per i small in
      rw (a, b) (ap (λ (n : ℕ). pointer_at 7 (n ∷ [])) r)

  by_two : (i j : ℕ) → i < per → j < per → pointer_by per (7 + per + i * per + j) ≡ pointer_at 8 (j ∷ (i ∷ []))
  unfolding pointer_by
  by_two i j outer inner =
      let whole : i * per + j < per * per = mul-add-lt i per j per outer inner in
      let a : nat_lt (7 + per + i * per + j) 7 ≡ false = grind (arith, nat_tests) in
      let b : nat_lt (7 + per + i * per + j) (7 + per) ≡ false = grind (arith, nat_tests) in
      let c : nat_lt (7 + per + i * per + j) (7 + per + per * per) ≡ true = grind (arith, nat_tests) in
      let e : 7 + per + i * per + j - 7 - per ≡ i * per + j = omega arith in
      rw (a, b, c) (trail_two (7 + per + i * per + j - 7 - per) i j e outer inner)

  -- a trail of three numbers
  trail_three : (n i j k : ℕ) → n ≡ (i * per + j) * per + k → i < per → j < per → k < per → pointer_with per 9 3 n ≡ pointer_at 9 (k ∷ (j ∷ (i ∷ [])))
  trail_three n i j k is a b c =
      let r : n % per ≡ k = ap (λ x. x % per) is ∙ mod-mul-add (i * per + j) per k c in
      let q : n / per ≡ i * per + j = ap (λ x. x / per) is ∙ div-mul-add (i * per + j) per k c in
      let s : n / per % per ≡ j = ap (λ x. x % per) q ∙ mod-mul-add i per j b in
      let t : n / per / per ≡ i = ap (λ x. x / per) q ∙ div-mul-add i per j b in
      let u : n / per / per % per ≡ i = ap (λ x. x % per) t ∙ small_mod i a in
      ap (λ (x : ℕ). pointer_at 9 (x ∷ ((n / per % per) ∷ ((n / per / per % per) ∷ [])))) r
      ∙ ap₂ (λ (x y : ℕ). pointer_at 9 (k ∷ (x ∷ (y ∷ [])))) s u

  by_last : (i j k : ℕ) → i < per → j < per → k < per → pointer_by per (7 + per + per * per + (i * per + j) * per + k) ≡ pointer_at 9 (k ∷ (j ∷ (i ∷ [])))
  unfolding pointer_by
  by_last i j k outer middle inner =
      let n : ℕ = (i * per + j) * per + k in
      let a : nat_lt (7 + per + per * per + (i * per + j) * per + k) 7 ≡ false = grind (arith, nat_tests) in
      let b : nat_lt (7 + per + per * per + (i * per + j) * per + k) (7 + per) ≡ false = grind (arith, nat_tests) in
      let c : nat_lt (7 + per + per * per + (i * per + j) * per + k) (7 + per + per * per) ≡ false = grind (arith, nat_tests) in
      let e : 7 + per + per * per + (i * per + j) * per + k - 7 - per - per * per ≡ (i * per + j) * per + k = omega arith in
      rw (a, b, c) (trail_three (7 + per + per * per + (i * per + j) * per + k - 7 - per - per * per) i j k e outer middle inner)

-- ---- a pointer, from what it leads to

module _ (per : ℕ) (some : 0 < per) where
  abbrev IsBack : Pointer → Type 0
  IsBack at = pointer_from per (source_of per at) ≡ at

  pub pointer_back : (at : Pointer) → at.top < 10 → length at.trail ≤ at.top - 6 → Within per at.trail → IsBack at
  pointer_back = pointer_cases per IsBack
      (λ top low. ap (pointer_from per) (is_direct per some top low) ∙ by_direct per some top low)
      (ap (pointer_from per) (top_one per) ∙ behind_zero per some)
      (ap (pointer_from per) (top_two per) ∙ behind_one per some)
      (ap (pointer_from per) (top_three per) ∙ behind_three per some)
      (λ i small. ap (pointer_from per) (is_in_one per some i) ∙ by_one per some i small)
      (λ i small. ap (pointer_from per) (is_in_two per some i) ∙ behind_two per some i small)
      (λ i small. ap (pointer_from per) (is_in_three per some i) ∙ behind_more per some (3 + per + i * (1 + per)) i 0 (omega arith) (omega arith))
      (λ i j a b. ap (pointer_from per) (is_below_two per some i j a) ∙ by_two per some i j a b)
      (λ i j a b. ap (pointer_from per) (is_below_three per some i j) ∙ behind_more per some (4 + per + i * (1 + per) + j) i (suc j) (omega arith) (omega arith))
      (λ i j k a b c. ap (pointer_from per) (is_last per some i j k b) ∙ by_last per some i j k a b c)

  -- two that lead to one are one
  pub pointers_once : (kind : Kind) → numbers_in_zone kind ≡ per → (at there : Pointer) → IsPointer kind at → IsPointer kind there
      → source_of per at ≡ source_of per there → at ≡ there
  pointers_once kind is at there one other same =
      let P : ℕ → Pointer → Type 0 = λ n p. Within n p.trail in
      sym (pointer_back at one.ten one.deep (subst (λ n. P n at) is one.within))
      ∙ ap (pointer_from per) same
      ∙ pointer_back there other.ten other.deep (subst (λ n. P n there) is other.within)

  -- a block's pointer leads to it
  block_source : (index : ℕ) → index < 7 + per + per * per + per * per * per → source_of per (pointer_by per index) ≡ Block index
  block_source index below = ⊎_elim
      (λ low. ap (source_of per) (by_direct per some index low) ∙ is_direct per some index low)
      (λ high. ⊎_elim
      (λ low.
      let i : ℕ = index - 7 in
      let e : 7 + i ≡ index = omega (arith, high) in
      let small : i < per = omega (arith, low, high) in
      at_index (7 + i) index e (ap (source_of per) (by_one per some i small) ∙ is_in_one per some i))
      (λ higher. ⊎_elim
      (λ low.
      let n : ℕ = index - 7 - per in
      let outer : n / per < per = div_below n per per some (omega (arith, low, higher)) in
      let inner : n % per < per = mod_below n per some in
      let e : 7 + per + n / per * per + n % per ≡ index = omega (arith, div-add-mod' n per, higher) in
      at_index (7 + per + n / per * per + n % per) index e
      (ap (source_of per) (by_two per some (n / per) (n % per) outer inner) ∙ is_below_two per some (n / per) (n % per) outer))
      (λ highest.
      let n : ℕ = index - 7 - per - per * per in
      let whole : n < per * per * per = omega (arith, below, highest) in
      let upper : n / per < per * per = div_below n per (per * per) some whole in
      let outer : n / per / per < per = div_below (n / per) per per some upper in
      let middle : n / per % per < per = mod_below (n / per) per some in
      let inner : n % per < per = mod_below n per some in
      let one : n / per / per * per + n / per % per ≡ n / per = div-add-mod' (n / per) per in
      let two : (n / per / per * per + n / per % per) * per + n % per ≡ n = ap (λ x. x * per + n % per) one ∙ div-add-mod' n per in
      let e : 7 + per + per * per + (n / per / per * per + n / per % per) * per + n % per ≡ index = omega (arith, two, highest) in
      at_index (7 + per + per * per + (n / per / per * per + n / per % per) * per + n % per) index e
      (ap (source_of per) (by_last per some (n / per / per) (n / per % per) (n % per) outer middle inner)
      ∙ is_last per some (n / per / per) (n / per % per) (n % per) middle))
      (cases_lt index (7 + per + per * per)))
      (cases_lt index (7 + per)))
      (cases_lt index 7)
    where
      at_index : (n index : ℕ) → n ≡ index → source_of per (pointer_by per n) ≡ Block n → source_of per (pointer_by per index) ≡ Block index
      at_index n index same is = subst (λ (m : ℕ). source_of per (pointer_by per m) ≡ Block m) same is

pub block_leads : (kind : Kind) (index : ℕ) → index < reach kind → source_of (numbers_in_zone kind) (pointer_by (numbers_in_zone kind) index) ≡ Block index
block_leads V1Short index below = block_source 512 (lit< tt) index (omega (arith, below))
block_leads V1Long index below = block_source 512 (lit< tt) index (omega (arith, below))
block_leads V2Short index below = block_source 256 (lit< tt) index (omega (arith, below))
block_leads V2Long index below = block_source 256 (lit< tt) index (omega (arith, below))

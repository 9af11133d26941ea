-- Which of a file's indirect zones are made, at each place.
use Rattle.std.proofs.Common.{◌≡◌, ◌≢◌, ◌≤◌, ◌<◌, ◌+◌, ◌*◌, ◌-◌, ◌/◌, ◌%◌, ◌++◌, ℕ, zero, suc, Bool, false, List, [], ◌∷◌, length, take, drop, get_or, refl, sym, ap, ◌∙◌, subst, arith, ⊎_elim}
use Rattle.std.proofs.lemmas.Bool.{cases_lt, cases_eq}
use Rattle.std.proofs.lemmas.List.{length-take, length-drop, length-append, get_or_append_left, get_or-append-add, append-nil}
use Rattle.std.proofs.lemmas.Nat.{row_fits, div-add-mod', mod_below}
use Rattle.write_model.specs.FileZones.{is_any, made_on, made_indirect}
use Rattle.minix_choice_laws.specs.Sources.{Source, Block, Indirect, below_source}
use Rattle.minix_choice_laws.proofs.Sources.{below_one, below_two, below_second, below_three, below_outer, below_inner}
use Rattle.minix_choice_laws.proofs.Made.{under, under_holes, holes_under, under_smaller, drop_past, take_none, any_hole, get_of_drop, row, row_past, row_drop, row_take, one_few, one_full, one_at, past_made, some_size, two_few, two_first, two_at, low_first}

module _ (per : ℕ) (some : 0 < per) where
  on_few : (blocks : List Bool) → length blocks ≤ per * per → length (made_on per 1 blocks) ≤ 1 + per
  on_few [] few = omega arith
  on_few (block ∷ blocks) few = one_few per some (block ∷ blocks) few

  on_full : (blocks : List Bool) → per * per ≤ length blocks → 1 + per ≤ length (made_on per 1 blocks)
  on_full [] many = absurd (omega (arith, some_size per some, many))
  on_full (block ∷ blocks) many = one_full per some (block ∷ blocks) many

  on_at : (blocks : List Bool) (r : ℕ) → length blocks ≤ per * per → get_or (made_on per 1 blocks) r false ≡ row per 0 r blocks
  on_at [] r few = sym (row_past per 0 r [] (omega arith))
  on_at (block ∷ blocks) r few = one_at per some (block ∷ blocks) r few

  on_one : (blocks : List Bool) → 0 < length blocks → made_on per 0 blocks ≡ is_any blocks ∷ []
  on_one [] long = absurd (omega (arith, long))
  on_one (block ∷ blocks) long = low_first per some (block ∷ blocks)

  third_few : (n : ℕ) (blocks : List Bool) → length blocks ≤ per * per * n → length (made_on per 2 blocks) ≤ 1 + n * (1 + per)
  third_few n [] few = omega arith
  third_few n (block ∷ blocks) few = two_few per some n (block ∷ blocks) few

  third_first : (blocks : List Bool) → get_or (made_on per 2 blocks) 0 false ≡ is_any blocks
  third_first [] = refl
  third_first (block ∷ blocks) = two_first per some (block ∷ blocks)

  third_at : (blocks : List Bool) (i r : ℕ) → r ≤ per → get_or (made_on per 2 blocks) (suc (i * (1 + per) + r)) false ≡ row per (i * (per * per)) r blocks
  third_at [] i r low = sym (row_past per (i * (per * per)) r [] (omega arith))
  third_at (block ∷ blocks) i r low = two_at per some (block ∷ blocks) i r low

  module _ (blocks : List Bool) where
    abbrev behind : ℕ
    behind = 7 + per + per * per

    abbrev first : List Bool
    first = made_on per 0 (take per (drop 7 blocks))

    abbrev second_blocks : List Bool
    second_blocks = take (per * per) (drop (7 + per) blocks)

    abbrev second : List Bool
    second = made_on per 1 second_blocks

    abbrev third : List Bool
    third = made_on per 2 (drop behind blocks)

    abbrev made : List Bool
    made = made_indirect per blocks

    made_is : made ≡ first ++ (second ++ third)
    unfolding made_indirect
    made_is = refl

    second_few : length second_blocks ≤ per * per
    second_few = omega (arith, length-take (per * per) (drop (7 + per) blocks))

    no_third : length blocks ≤ behind → third ≡ []
    no_third short = ap (made_on per 2) (drop_past behind blocks short)

    no_second : length blocks ≤ 7 → second ≡ []
    no_second short = ap (λ (rest : List Bool). made_on per 1 (take (per * per) rest)) (drop_past (7 + per) blocks (omega (arith, short))) ∙ ap (made_on per 1) (take_none (per * per))

    no_first : length blocks ≤ 7 → first ≡ []
    no_first short = ap (λ (rest : List Bool). made_on per 0 (take per rest)) (drop_past 7 blocks short) ∙ ap (made_on per 0) (take_none per)

    none_made : length blocks ≤ 7 → made ≡ []
    none_made short =
        made_is
        ∙ ap (λ (a : List Bool). a ++ (second ++ third)) (no_first short)
        ∙ ap (λ (b : List Bool). b ++ third) (no_second short)
        ∙ no_third (omega (arith, short))

    some_first : 7 < length blocks → first ≡ under 7 per blocks ∷ []
    some_first long =
        let many : 0 < length (take per (drop 7 blocks)) = omega (arith, length-take per (drop 7 blocks), length-drop 7 blocks, long, some) in
        on_one (take per (drop 7 blocks)) many

    some_made : 7 < length blocks → made ≡ under 7 per blocks ∷ (second ++ third)
    some_made long = made_is ∙ ap (λ (a : List Bool). a ++ (second ++ third)) (some_first long)

    full_second : behind < length blocks → length second ≡ 1 + per
    full_second long =
        let many : per * per ≤ length second_blocks = omega (arith, length-take (per * per) (drop (7 + per) blocks), length-drop (7 + per) blocks, long) in
        omega (arith, on_few second_blocks second_few, on_full second_blocks many)

    by_length : (P : Type 0) → (length blocks ≤ 7 → P) → (7 < length blocks → length blocks ≤ behind → P) → (behind < length blocks → P) → P
    by_length P short mid long = ⊎_elim
        (λ (low : 7 < length blocks). ⊎_elim (λ (high : behind < length blocks). long high) (λ (le : length blocks ≤ behind). mid low le) (cases_lt behind (length blocks)))
        (λ (le : length blocks ≤ 7). short le)
        (cases_lt 7 (length blocks))

    get_none : (k : ℕ) → length blocks ≤ 7 → get_or made k false ≡ false
    get_none k short = ap (λ (m : List Bool). get_or m k false) (none_made short)

    get_more : (k : ℕ) → 7 < length blocks → get_or made (suc k) false ≡ get_or (second ++ third) k false
    get_more k long = ap (λ (m : List Bool). get_or m (suc k) false) (some_made long)

    without_third : (k : ℕ) → length blocks ≤ behind → get_or (second ++ third) k false ≡ get_or second k false
    without_third k short =
        ap (λ (c : List Bool). get_or (second ++ c) k false) (no_third short) ∙ ap (λ (m : List Bool). get_or m k false) (append-nil second)

    second_at : (r : ℕ) → r ≤ per → get_or second r false ≡ row per (7 + per) r blocks
    second_at r low =
        let e : 7 + per + 0 ≡ 7 + per = omega arith in
        on_at second_blocks r second_few ∙ row_take per r (drop (7 + per) blocks) low ∙ row_drop per 0 (7 + per) r blocks ∙ ap (λ s. row per s r blocks) e

    third_here : (k : ℕ) → behind < length blocks → get_or (second ++ third) (1 + per + k) false ≡ get_or third k false
    third_here k long =
        let e : 1 + per + k ≡ length second + k = omega (arith, full_second long) in
        ap (λ i. get_or (second ++ third) i false) e ∙ get_or-append-add second third k false

    -- each place
    pub at_zero : get_or made 0 false ≡ under 7 per blocks
    at_zero = ⊎_elim
        (λ (long : 7 < length blocks). ap (λ (m : List Bool). get_or m 0 false) (some_made long))
        (λ (short : length blocks ≤ 7). get_none 0 short ∙ sym (row_none short))
        (cases_lt 7 (length blocks))
      where
        row_none : length blocks ≤ 7 → under 7 per blocks ≡ false
        row_none short = ap (λ (rest : List Bool). is_any (take per rest)) (drop_past 7 blocks short) ∙ ap is_any (take_none per)

    pub at_second : (r : ℕ) → r ≤ per → get_or made (suc r) false ≡ row per (7 + per) r blocks
    at_second r low = by_length (get_or made (suc r) false ≡ row per (7 + per) r blocks)
        (λ short. get_none (suc r) short ∙ sym (row_past per (7 + per) r blocks (omega (arith, short))))
        (λ long short. get_more r long ∙ without_third r short ∙ second_at r low)
        (λ long. get_more r (omega (arith, long)) ∙ get_or_append_left second third false r (omega (arith, full_second long, low)) ∙ second_at r low)

    pub at_third : get_or made (2 + per) false ≡ is_any (drop behind blocks)
    at_third =
        let e : 2 + per ≡ suc (1 + per) = omega arith in
        let f : 1 + per ≡ 1 + per + 0 = omega arith in
        ap (λ k. get_or made k false) e
        ∙ by_length (get_or made (suc (1 + per)) false ≡ is_any (drop behind blocks))
        (λ short. get_none (suc (1 + per)) short ∙ sym (ap is_any (drop_past behind blocks (omega (arith, short)))))
        (λ long short.
        get_more (1 + per) long ∙ without_third (1 + per) short ∙ past_made per some second (1 + per) (on_few second_blocks second_few)
        ∙ sym (ap is_any (drop_past behind blocks short)))
        (λ long. get_more (1 + per) (omega (arith, long)) ∙ ap (λ k. get_or (second ++ third) k false) f ∙ third_here 0 long ∙ third_first (drop behind blocks))

    pub at_behind : (place i r : ℕ) → r ≤ per → place ≡ 3 + per + (i * (1 + per) + r) → get_or made place false ≡ row per (behind + i * (per * per)) r blocks
    at_behind place i r low is =
        let e : place ≡ suc (1 + per + suc (i * (1 + per) + r)) = omega (arith, is) in
        ap (λ k. get_or made k false) e
        ∙ by_length (get_or made (suc (1 + per + suc (i * (1 + per) + r))) false ≡ row per (behind + i * (per * per)) r blocks)
        (λ short. get_none (suc (1 + per + suc (i * (1 + per) + r))) short ∙ sym (row_past per (behind + i * (per * per)) r blocks (omega (arith, short))))
        (λ long short.
        get_more (1 + per + suc (i * (1 + per) + r)) long ∙ without_third (1 + per + suc (i * (1 + per) + r)) short
        ∙ past_made per some second (1 + per + suc (i * (1 + per) + r)) (omega (arith, on_few second_blocks second_few))
        ∙ sym (row_past per (behind + i * (per * per)) r blocks (omega (arith, short))))
        (λ long.
        get_more (1 + per + suc (i * (1 + per) + r)) (omega (arith, long)) ∙ third_here (suc (i * (1 + per) + r)) long
        ∙ third_at (drop behind blocks) i r low ∙ row_drop per (i * (per * per)) behind r blocks)

    -- how many places there are
    pub made_few : (n : ℕ) → length blocks ≤ behind + per * per * n → length made ≤ 3 + per + n * (1 + per)
    made_few n few =
        let left = length-drop behind blocks in
        let last = third_few n (drop behind blocks) (omega (arith, left, few)) in
        let two = on_few second_blocks second_few in
        ⊎_elim
        (λ (long : 7 < length blocks).
        let all = ap (λ (m : List Bool). length m) (some_made long) in
        omega (arith, all, length-append second third, two, last))
        (λ (short : length blocks ≤ 7).
        let all = ap (λ (m : List Bool). length m) (none_made short) in
        omega (arith, all))
        (cases_lt 7 (length blocks))

    pub two_levels_made : length blocks ≤ behind → length made ≤ 2 + per
    two_levels_made short =
        let two = on_few second_blocks second_few in
        let no = ap (λ (m : List Bool). length m) (no_third short) in
        ⊎_elim
        (λ (long : 7 < length blocks).
        let all = ap (λ (m : List Bool). length m) (some_made long) in
        omega (arith, all, length-append second third, two, no))
        (λ (low : length blocks ≤ 7).
        let all = ap (λ (m : List Bool). length m) (none_made low) in
        omega (arith, all))
        (cases_lt 7 (length blocks))

    -- below an indirect zone that isn't made all is a hole
    abbrev pub IsHole : Source → Type 0
    IsHole (Block index) = get_or blocks index false ≡ false
    IsHole (Indirect place) = get_or made place false ≡ false

    behind_hole : (place outer inner index : ℕ) → inner ≤ per → index < per → place ≡ 3 + per + (outer * (1 + per) + inner) → get_or made place false ≡ false → IsHole (below_source per place index)
    behind_hole place outer zero index low small is hole =
        let start : ℕ = behind + outer * (per * per) in
        let none : under start (per * per) blocks ≡ false = sym (at_behind place outer 0 (omega arith) is) ∙ hole in
        let room : index * per + per ≤ per * per = row_fits index per per per small (omega arith) in
        let e : place ≡ 3 + per + outer * (1 + per) = omega (arith, is) in
        let below : below_source per place index ≡ Indirect (4 + per + outer * (1 + per) + index) = ap (λ p. below_source per p index) e ∙ below_outer per outer index in
        subst IsHole (sym below)
        (at_behind (4 + per + outer * (1 + per) + index) outer (suc index) (omega (arith, small)) (omega arith)
        ∙ under_smaller start (per * per) (start + index * per) per blocks (omega arith) (omega (arith, room)) none)
    behind_hole place outer (suc inner) index low small is hole =
        let start : ℕ = behind + outer * (per * per) + inner * per in
        let none : under start per blocks ≡ false = sym (at_behind place outer (suc inner) low is) ∙ hole in
        let e : place ≡ 4 + per + outer * (1 + per) + inner = omega (arith, is) in
        let below : below_source per place index ≡ Block (7 + per + per * per + (outer * per + inner) * per + index) = ap (λ p. below_source per p index) e ∙ below_inner per outer inner index (omega (arith, low)) in
        subst IsHole (sym below) (under_holes start per (7 + per + per * per + (outer * per + inner) * per + index) blocks none (omega arith) (omega (arith, small)))

    pub below_hole : (place index : ℕ) → index < per → get_or made place false ≡ false → IsHole (below_source per place index)
    below_hole zero index small hole =
        subst IsHole (sym (below_one per index)) (under_holes 7 per (7 + index) blocks (sym at_zero ∙ hole) (omega arith) (omega (arith, small)))
    below_hole (suc zero) index small hole =
        let none : under (7 + per) (per * per) blocks ≡ false = sym (at_second 0 (omega arith)) ∙ hole in
        let room : index * per + per ≤ per * per = row_fits index per per per small (omega arith) in
        let e : 2 + index ≡ suc (suc index) = omega arith in
        subst IsHole (sym (below_two per index))
        (ap (λ k. get_or made k false) e ∙ at_second (suc index) (omega (arith, small))
        ∙ under_smaller (7 + per) (per * per) (7 + per + index * per) per blocks (omega arith) (omega (arith, room)) none)
    below_hole (suc (suc rest)) index small hole = ⊎_elim
        (λ (low : rest < per).
        let none : under (7 + per + rest * per) per blocks ≡ false = sym (at_second (suc rest) (omega (arith, low))) ∙ hole in
        let e : suc (suc rest) ≡ 2 + rest = omega arith in
        let below = ap (λ p. below_source per p index) e ∙ below_second per rest index low in
        subst IsHole (sym below) (under_holes (7 + per + rest * per) per (7 + per + rest * per + index) blocks none (omega arith) (omega (arith, small))))
        (λ (high : per ≤ rest). ⊎_elim
        (λ (same : rest ≡ per).
        let e : suc (suc rest) ≡ 2 + per = omega (arith, same) in
        let none : is_any (drop behind blocks) ≡ false = sym at_third ∙ sym (ap (λ k. get_or made k false) e) ∙ hole in
        let below = ap (λ p. below_source per p index) e ∙ below_three per index some in
        subst IsHole (sym below)
        (at_behind (3 + per + index * (1 + per)) index 0 (omega arith) (omega arith)
        ∙ holes_under (behind + index * (per * per)) (per * per) blocks (λ k from under_end.
        let at : behind + (k - behind) ≡ k = omega (arith, from) in
        sym (ap (λ i. get_or blocks i false) at) ∙ sym (get_of_drop behind (k - behind) blocks) ∙ any_hole (drop behind blocks) (k - behind) none)))
        (λ (apart : rest ≢ per).
        let n : ℕ = rest - (1 + per) in
        let up : 1 + per ≤ rest = omega (arith, high, apart) in
        let parts = div-add-mod' n (1 + per) in
        let inner : n % (1 + per) < 1 + per = mod_below n (1 + per) (omega arith) in
        behind_hole (suc (suc rest)) (n / (1 + per)) (n % (1 + per)) index (omega (arith, inner)) small (omega (arith, parts, up)) hole)
        (cases_eq rest per))
        (cases_lt rest per)

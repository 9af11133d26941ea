-- Which indirect zones a file needs, piece by piece.
use Rattle.std.proofs.Common.{◌≡◌, ◌≤◌, ◌<◌, ◌+◌, ◌-◌, ◌*◌, ◌^◌, ℕ, zero, suc, Bool, List, [], ◌∷◌, ◌++◌, length, take, drop, refl, sym, ap, ◌∙◌, arith, append_assoc, append-nil, length-append, length-drop}
use Rattle.std.proofs.Math.Nat.{mul-add}
use Rattle.std.proofs.lemmas.List.{length-take, take-append-drop}
use Rattle.lilo_model.specs.MinixLayout.{Kind, numbers_in_zone}
use Rattle.minix_zones.proofs.PowerLemmas.{power_some}
use Rattle.std.specs.List.{flat_map}
use Rattle.lilo_model.specs.MinixParts.{blocks_for}
use Rattle.write_model.specs.FileZones.{is_any, pieces, all_pieces, made_above, made_on, made_indirect}

-- ---- indirect zones

pieces_same : {A : Type 0} (size most other : ℕ) (items : List A) → 0 < size → length items ≤ most → length items ≤ other
    → pieces size most items ≡ pieces size other items
pieces_same size zero zero [] some few few' = refl
pieces_same size zero (suc other) [] some few few' = refl
pieces_same size (suc most) zero [] some few few' = refl
pieces_same size (suc most) (suc other) [] some few few' = refl
pieces_same size zero other (item ∷ items) some few few' = absurd (omega arith)
pieces_same size (suc most) zero (item ∷ items) some few few' = absurd (omega arith)
pieces_same {A} size (suc most) (suc other) (item ∷ items) some few few' =
    let C : List (List A) → List (List A) = λ rest. take size (item ∷ items) ∷ rest in
    let shorter : length (drop size (item ∷ items)) ≤ length items = omega (arith, length-drop size (item ∷ items)) in
    ap C (pieces_same size most other (drop size (item ∷ items)) some (omega (arith, shorter, few)) (omega (arith, shorter, few')))

-- the first piece, and those after it
first_piece : {A : Type 0} (size : ℕ) (items : List A) → 0 < size → 0 < length items
    → all_pieces size items ≡ take size items ∷ all_pieces size (drop size items)
first_piece size [] some there = absurd (omega arith)
first_piece {A} size (item ∷ items) some there =
    let C : List (List A) → List (List A) = λ rest. take size (item ∷ items) ∷ rest in
    let shorter : length (drop size (item ∷ items)) ≤ length items = omega (arith, length-drop size (item ∷ items)) in
    ap C (pieces_same size (length items) (length (drop size (item ∷ items))) (drop size (item ∷ items)) some shorter (omega arith))

-- an indirect zone with others below
above_start : (per level : ℕ) (blocks : List Bool) → 0 < level
    → made_above per level blocks ≡ is_any blocks ∷ flat_map (made_above per (level - 1)) (all_pieces (per ^ level) blocks)
unfolding made_above
above_start per zero blocks some = absurd (omega arith)
above_start per (suc level) blocks some =
    let e : level ≡ suc level - 1 = omega arith in
    ap (λ below. is_any blocks ∷ flat_map (made_above per below) (all_pieces (per ^ suc level) blocks)) e

began : (per level : ℕ) (blocks before : List Bool) → 0 < level
    → (before ++ (is_any blocks ∷ [])) ++ flat_map (made_above per (level - 1)) (all_pieces (per ^ level) blocks)
    ≡ before ++ made_above per level blocks
began per level blocks before some =
    append_assoc before (is_any blocks ∷ []) (flat_map (made_above per (level - 1)) (all_pieces (per ^ level) blocks))
    ∙ sym (ap (λ rest. before ++ rest) (above_start per level blocks some))

above_piece : (per level size : ℕ) (rest made whole : List Bool) → 0 < size → 0 < length rest
    → made ++ flat_map (made_above per level) (all_pieces size rest) ≡ whole
    → (made ++ made_above per level (take size rest)) ++ flat_map (made_above per level) (all_pieces size (drop size rest)) ≡ whole
above_piece per level size rest made whole some there so_far =
    append_assoc made (made_above per level (take size rest)) (flat_map (made_above per level) (all_pieces size (drop size rest)))
    ∙ sym (ap (λ parts. made ++ flat_map (made_above per level) parts) (first_piece size rest some there))
    ∙ so_far

-- an indirect zone with blocks below
pub put_alone : (per level : ℕ) (blocks before after : List Bool) (any : Bool) → level ≡ 0 → any ≡ is_any blocks
    → after ≡ before ++ (any ∷ []) → after ≡ before ++ made_above per level blocks
unfolding made_above
put_alone per zero blocks before after any none is pushed = rw (pushed, is) refl
put_alone per (suc level) blocks before after any none is pushed = absurd (omega arith)

-- all blocks are past
pub put_all : (per level size : ℕ) (rest made whole : List Bool) → length rest ≡ 0
    → made ++ flat_map (made_above per level) (all_pieces size rest) ≡ whole → made ≡ whole
put_all per level size [] made whole none so_far = sym (append-nil made) ∙ so_far
put_all per level size (block ∷ rest) made whole none so_far = absurd (omega arith)

pub began_by : (per level : ℕ) (blocks before after : List Bool) (any : Bool) (size : ℕ) → 0 < level → any ≡ is_any blocks
    → size ≡ per ^ level → after ≡ before ++ (any ∷ [])
    → after ++ flat_map (made_above per (level - 1)) (all_pieces size blocks) ≡ before ++ made_above per level blocks
began_by per level blocks before after any size some is power pushed =
    rw (pushed, is, power) (began per level blocks before some)

pub above_piece_by : (per level size : ℕ) (rest made whole first behind after : List Bool) → 0 < size → 0 < length rest
    → first ≡ take size rest → behind ≡ drop size rest → after ≡ made ++ made_above per level first
    → made ++ flat_map (made_above per level) (all_pieces size rest) ≡ whole
    → after ++ flat_map (made_above per level) (all_pieces size behind) ≡ whole
above_piece_by per level size rest made whole first behind after some there is is' put so_far =
    rw (put, is, is') (above_piece per level size rest made whole some there so_far)

-- ---- how many indirect zones

few_pieces : (f : List Bool → List Bool) (k size most : ℕ) (items : List Bool)
    → ((blocks : List Bool) → 0 < length blocks → length (f blocks) ≤ k * length blocks) → 0 < size
    → length (flat_map f (pieces size most items)) ≤ k * length items
few_pieces f k size zero items few some = omega arith
few_pieces f k size (suc most) [] few some = omega arith
few_pieces f k zero (suc most) (item ∷ items) few some = absurd (omega arith)
few_pieces f k (suc size) (suc most) (item ∷ items) few some =
    let first : List Bool = take (suc size) (item ∷ items) in
    let behind : List Bool = drop (suc size) (item ∷ items) in
    let there : 0 < length first = omega arith in
    let L : List Bool → ℕ = λ l. k * length l in
    let parts : k * length (item ∷ items) ≡ k * length first + k * length behind =
    sym (ap L (take-append-drop (suc size) (item ∷ items))) ∙ ap (λ n. k * n) (length-append first behind) ∙ mul-add k (length first) (length behind) in
    omega (arith, length-append (f first) (flat_map f (pieces (suc size) most behind)), few first there, few_pieces f k (suc size) most behind few some, parts)

few_alone : (per : ℕ) (blocks : List Bool) → 0 < length blocks → length (made_above per 0 blocks) ≤ 1 * length blocks
unfolding made_above
few_alone per blocks some = omega arith

few_above : (per : ℕ) (blocks : List Bool) → 0 < per ^ 1 → 0 < length blocks → length (made_above per 1 blocks) ≤ 2 * length blocks
unfolding made_above
few_above per blocks power some =
    omega (arith, few_pieces (made_above per 0) 1 (per ^ 1) (length blocks) blocks (few_alone per) power)

few_twice : (per : ℕ) (blocks : List Bool) → 0 < per ^ 1 → 0 < per ^ 2 → 0 < length blocks → length (made_above per 2 blocks) ≤ 3 * length blocks
unfolding made_above
few_twice per blocks power power' some =
    omega (arith, few_pieces (made_above per 1) 2 (per ^ 2) (length blocks) blocks (λ b. few_above per b power) power')

few_on : (k per level : ℕ) (blocks : List Bool)
    → ((b : List Bool) → 0 < length b → length (made_above per level b) ≤ k * length b)
    → length (made_on per level blocks) ≤ k * length blocks
few_on k per level [] few = omega arith
few_on k per level (block ∷ blocks) few = few (block ∷ blocks) (omega arith)

made_few : (kind : Kind) (blocks : List Bool) → length (made_indirect (numbers_in_zone kind) blocks) ≤ 6 * length blocks
unfolding made_indirect
made_few kind blocks =
    let per : ℕ = numbers_in_zone kind in
    let once : List Bool = take per (drop 7 blocks) in
    let twice : List Bool = take (per * per) (drop (7 + per) blocks) in
    let thrice : List Bool = drop (7 + per + per * per) blocks in
    let power = power_some kind 1 (omega arith) in
    let power' = power_some kind 2 (omega arith) in
    omega (
      arith,
      length-append (made_on per 0 once) (made_on per 1 twice ++ made_on per 2 thrice),
      length-append (made_on per 1 twice) (made_on per 2 thrice),
      few_on 1 per 0 once (few_alone per),
      few_on 2 per 1 twice (λ b. few_above per b power),
      few_on 3 per 2 thrice (λ b. few_twice per b power power'),
      length-take per (drop 7 blocks),
      length-drop 7 blocks,
      length-take (per * per) (drop (7 + per) blocks),
      length-drop (7 + per) blocks,
      length-drop (7 + per + per * per) blocks,
    )

-- so a file takes few zones
pub few_zones : (kind : Kind) (size : ℕ) (blocks indirect : List Bool) → size < 2 ^ 32 → length blocks ≡ blocks_for size
    → indirect ≡ made_indirect (numbers_in_zone kind) blocks → length blocks + length indirect < 2 ^ 31
few_zones kind size blocks indirect below many is =
    let L : List Bool → ℕ = λ l. length l in
    let most : blocks_for size ≤ 4194304 = omega (arith, below) in
    omega (arith, made_few kind blocks, ap L is, many, most)

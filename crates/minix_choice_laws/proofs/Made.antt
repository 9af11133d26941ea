-- Which indirect zones are made, by their places: those that have a block that is no hole below them.
use Rattle.std.proofs.Common.{◌≡◌, ◌≤◌, ◌<◌, ◌+◌, ◌*◌, ◌-◌, ◌^◌, ◌++◌, ℕ, zero, suc, Bool, true, false, List, [], ◌∷◌, length, take, drop, get_or, refl, sym, ap, ◌∙◌, arith, ◌⊎◌, inl, inr, ⊎_elim, length-drop}
use Rattle.std.specs.List.{flat_map}
use Rattle.std.proofs.lemmas.Bool.{cases_lt}
use Rattle.std.proofs.lemmas.List.{length-take, length-take-le, get_or_append_left, get_or-append-add, append-nil, take_all, length-append}
use Rattle.std.proofs.Math.Nat.{pow-zero, pow-succ', mul-le-mul}
use Rattle.std.proofs.lemmas.Nat.{row_fits}
use Rattle.write_model.specs.FileZones.{is_any, pieces, made_above}

-- ---- lists that end

drop_none : (n : ℕ) → drop {A = Bool} n [] ≡ []
drop_none zero = refl
drop_none (suc n) = refl

pub take_none : (n : ℕ) → take {A = Bool} n [] ≡ []
take_none zero = refl
take_none (suc n) = refl

pub drop_past : (n : ℕ) (blocks : List Bool) → length blocks ≤ n → drop n blocks ≡ []
drop_past zero [] past = refl
drop_past zero (block ∷ blocks) past = absurd (omega (arith, past))
drop_past (suc n) [] past = refl
drop_past (suc n) (block ∷ blocks) past = drop_past n blocks (omega (arith, past))

drop_twice : (m n : ℕ) (blocks : List Bool) → drop m (drop n blocks) ≡ drop (n + m) blocks
drop_twice m zero blocks = let e : 0 + m ≡ m = omega arith in ap (λ k. drop k blocks) (sym e)
drop_twice m (suc n) [] = drop_none m ∙ sym (drop_none (suc n + m))
drop_twice m (suc n) (block ∷ blocks) =
    let e : suc n + m ≡ suc (n + m) = omega arith in
    drop_twice m n blocks ∙ sym (ap (λ k. drop k (block ∷ blocks)) e)

take_of_take : (m n : ℕ) (blocks : List Bool) → m ≤ n → take m (take n blocks) ≡ take m blocks
take_of_take zero n blocks le = refl
take_of_take (suc m) zero blocks le = absurd (omega (arith, le))
take_of_take (suc m) (suc n) [] le = refl
take_of_take (suc m) (suc n) (block ∷ blocks) le = ap (λ rest. block ∷ rest) (take_of_take m n blocks (omega (arith, le)))

drop_of_take : (m n : ℕ) (blocks : List Bool) → drop m (take n blocks) ≡ take (n - m) (drop m blocks)
drop_of_take zero n blocks = let e : n - 0 ≡ n = omega arith in ap (λ k. take k blocks) (sym e)
drop_of_take (suc m) zero blocks = let e : 0 - suc m ≡ 0 = omega arith in sym (ap (λ k. take k (drop (suc m) blocks)) e)
drop_of_take (suc m) (suc n) [] = sym (take_none (suc n - suc m))
drop_of_take (suc m) (suc n) (block ∷ blocks) = let e : suc n - suc m ≡ n - m = omega arith in drop_of_take m n blocks ∙ sym (ap (λ k. take k (drop m blocks)) e)

-- ---- whether a block in a range is no hole

abbrev pub under : ℕ → ℕ → List Bool → Bool
under start len blocks = is_any (take len (drop start blocks))

under_past : (start len : ℕ) (blocks : List Bool) → length blocks ≤ start → under start len blocks ≡ false
under_past start len blocks past = ap (λ rest. is_any (take len rest)) (drop_past start blocks past) ∙ ap is_any (take_none len)

pub any_hole : (blocks : List Bool) (k : ℕ) → is_any blocks ≡ false → get_or blocks k false ≡ false
any_hole [] k none = refl
any_hole (false ∷ blocks) zero none = refl
any_hole (false ∷ blocks) (suc k) none = any_hole blocks k none
any_hole (true ∷ blocks) k none = cc

no_any : (blocks : List Bool) → ((k : ℕ) → get_or blocks k false ≡ false) → is_any blocks ≡ false
no_any [] holes = refl
no_any (false ∷ blocks) holes = no_any blocks (λ k. holes (suc k))
no_any (true ∷ blocks) holes = let one = holes 0 in cc

get_of_take : (n k : ℕ) (blocks : List Bool) → k < n → get_or (take n blocks) k false ≡ get_or blocks k false
get_of_take zero k blocks low = absurd (omega (arith, low))
get_of_take (suc n) k [] low = refl
get_of_take (suc n) zero (block ∷ blocks) low = refl
get_of_take (suc n) (suc k) (block ∷ blocks) low = get_of_take n k blocks (omega (arith, low))

get_past_take : (n k : ℕ) (blocks : List Bool) → n ≤ k → get_or (take n blocks) k false ≡ false
get_past_take zero k blocks high = refl
get_past_take (suc n) k [] high = refl
get_past_take (suc n) zero (block ∷ blocks) high = absurd (omega (arith, high))
get_past_take (suc n) (suc k) (block ∷ blocks) high = get_past_take n k blocks (omega (arith, high))

pub get_of_drop : (n k : ℕ) (blocks : List Bool) → get_or (drop n blocks) k false ≡ get_or blocks (n + k) false
get_of_drop zero k blocks = let e : 0 + k ≡ k = omega arith in ap (λ i. get_or blocks i false) (sym e)
get_of_drop (suc n) k [] = refl
get_of_drop (suc n) k (block ∷ blocks) = let e : suc n + k ≡ suc (n + k) = omega arith in get_of_drop n k blocks ∙ sym (ap (λ i. get_or (block ∷ blocks) i false) e)

-- a block in a range without blocks that are made is a hole
pub under_holes : (start len k : ℕ) (blocks : List Bool) → under start len blocks ≡ false → start ≤ k → k < start + len → get_or blocks k false ≡ false
under_holes start len k blocks none from below =
    let e : start + (k - start) ≡ k = omega (arith, from) in
    sym (ap (λ i. get_or blocks i false) e)
    ∙ sym (get_of_drop start (k - start) blocks)
    ∙ sym (get_of_take len (k - start) (drop start blocks) (omega (arith, from, below)))
    ∙ any_hole (take len (drop start blocks)) (k - start) none

-- and a range of holes has none that is made
pub holes_under : (start len : ℕ) (blocks : List Bool) → ((k : ℕ) → start ≤ k → k < start + len → get_or blocks k false ≡ false) → under start len blocks ≡ false
holes_under start len blocks holes = no_any (take len (drop start blocks)) (λ k. ⊎_elim
    (λ (low : k < len). get_of_take len k (drop start blocks) low ∙ get_of_drop start k blocks ∙ holes (start + k) (omega arith) (omega (arith, low)))
    (λ (high : len ≤ k). get_past_take len k (drop start blocks) high)
    (cases_lt k len))

-- a smaller range
pub under_smaller : (start len start' len' : ℕ) (blocks : List Bool) → start ≤ start' → start' + len' ≤ start + len → under start len blocks ≡ false → under start' len' blocks ≡ false
under_smaller start len start' len' blocks from below none =
    holes_under start' len' blocks (λ k low high. under_holes start len k blocks none (omega (arith, from, low)) (omega (arith, below, high)))

-- ---- pieces

flat_one : (per : ℕ) (parts : List (List Bool)) → length (flat_map (made_above per zero) parts) ≡ length parts
unfolding made_above
flat_one per [] = refl
flat_one per (part ∷ parts) = ap suc (flat_one per parts)

pieces_few : (size most n : ℕ) (blocks : List Bool) → 0 < size → length blocks ≤ most → length blocks ≤ size * n → length (pieces size most blocks) ≤ n
pieces_few size zero n blocks some fits few = omega arith
pieces_few size (suc most) n [] some fits few = omega arith
pieces_few size (suc most) zero (block ∷ blocks) some fits few = absurd (omega (arith, few))
pieces_few size (suc most) (suc n) (block ∷ blocks) some fits few =
    let long = length-drop size (block ∷ blocks) in
    let rest = pieces_few size most n (drop size (block ∷ blocks)) some (omega (arith, long, fits, some)) (omega (arith, long, few)) in
    omega (arith, rest)

pieces_full : (size most n : ℕ) (blocks : List Bool) → 0 < size → length blocks ≤ most → size * n ≤ length blocks → n ≤ length (pieces size most blocks)
pieces_full size most zero blocks some fits many = omega arith
pieces_full size zero (suc n) blocks some fits many = absurd (omega (arith, many, fits, some))
pieces_full size (suc most) (suc n) [] some fits many = absurd (omega (arith, many, some))
pieces_full size (suc most) (suc n) (block ∷ blocks) some fits many =
    let long = length-drop size (block ∷ blocks) in
    let rest = pieces_full size most n (drop size (block ∷ blocks)) some (omega (arith, long, fits, some)) (omega (arith, long, many)) in
    omega (arith, rest)

-- those of the lowest level
low_pieces : (per size most : ℕ) (blocks : List Bool) (i : ℕ) → 0 < size → length blocks ≤ most
    → get_or (flat_map (made_above per zero) (pieces size most blocks)) i false ≡ under (i * size) size blocks
unfolding made_above
low_pieces per size zero [] i some fits = sym (under_past (i * size) size [] (omega arith))
low_pieces per size zero (block ∷ blocks) i some fits = absurd (omega (arith, fits))
low_pieces per size (suc most) [] i some fits = sym (under_past (i * size) size [] (omega arith))
low_pieces per size (suc most) (block ∷ blocks) zero some fits = let e : 0 * size ≡ 0 = omega arith in sym (ap (λ s. under s size (block ∷ blocks)) e)
low_pieces per size (suc most) (block ∷ blocks) (suc i) some fits =
    let long = length-drop size (block ∷ blocks) in
    let e : size + i * size ≡ suc i * size = omega arith in
    low_pieces per size most (drop size (block ∷ blocks)) i some (omega (arith, long, fits, some))
    ∙ ap (λ rest. is_any (take size rest)) (drop_twice (i * size) size (block ∷ blocks) ∙ ap (λ k. drop k (block ∷ blocks)) e)

-- ---- one level above

one_power : (per : ℕ) → per ^ 1 ≡ per
one_power per = let e : per * per ^ 0 ≡ per * 1 = ap (λ n. per * n) (pow-zero per) in omega (arith, e, pow-succ' per 0)

two_power : (per : ℕ) → per ^ 2 ≡ per * per
two_power per = let e : per * per ^ 1 ≡ per * per = ap (λ n. per * n) (one_power per) in omega (arith, e, pow-succ' per 1)

above_one : (per : ℕ) (blocks : List Bool) → made_above per 1 blocks ≡ is_any blocks ∷ flat_map (made_above per zero) (pieces per (length blocks) blocks)
unfolding made_above
above_one per blocks = ap (λ size. is_any blocks ∷ flat_map (made_above per zero) (pieces size (length blocks) blocks)) (one_power per)

pub above_two : (per : ℕ) (blocks : List Bool) → made_above per 2 blocks ≡ is_any blocks ∷ flat_map (made_above per 1) (pieces (per * per) (length blocks) blocks)
unfolding made_above
above_two per blocks = ap (λ size. is_any blocks ∷ flat_map (made_above per 1) (pieces size (length blocks) blocks)) (two_power per)

-- the indirect zone above blocks from one on, and then those below it
abbrev pub row : ℕ → ℕ → ℕ → List Bool → Bool
row per start zero blocks = under start (per * per) blocks
row per start (suc j) blocks = under (start + j * per) per blocks

pub row_past : (per start r : ℕ) (blocks : List Bool) → length blocks ≤ start → row per start r blocks ≡ false
row_past per start zero blocks past = under_past start (per * per) blocks past
row_past per start (suc j) blocks past = under_past (start + j * per) per blocks (omega (arith, past))

pub row_drop : (per start n r : ℕ) (blocks : List Bool) → row per start r (drop n blocks) ≡ row per (n + start) r blocks
row_drop per start n zero blocks = ap (λ rest. is_any (take (per * per) rest)) (drop_twice start n blocks)
row_drop per start n (suc j) blocks =
    let e : n + (start + j * per) ≡ n + start + j * per = omega arith in
    ap (λ rest. is_any (take per rest)) (drop_twice (start + j * per) n blocks ∙ ap (λ k. drop k blocks) e)

pub row_take : (per r : ℕ) (blocks : List Bool) → r ≤ per → row per 0 r (take (per * per) blocks) ≡ row per 0 r blocks
row_take per zero blocks low = ap is_any (take_of_take (per * per) (per * per) blocks (omega arith))
row_take per (suc j) blocks low =
    let room : j * per + per ≤ per * per = row_fits j per per per (omega (arith, low)) (omega arith) in
    ap (λ rest. is_any (take per rest)) (drop_of_take (0 + j * per) (per * per) blocks)
    ∙ ap is_any (take_of_take per (per * per - (0 + j * per)) (drop (0 + j * per) blocks) (omega (arith, room)))

module _ (per : ℕ) (some : 0 < per) where
  pub one_few : (blocks : List Bool) → length blocks ≤ per * per → length (made_above per 1 blocks) ≤ 1 + per
  one_few blocks few =
      let all = ap (λ (made : List Bool). length made) (above_one per blocks) in
      let flat = flat_one per (pieces per (length blocks) blocks) in
      let count = pieces_few per (length blocks) per blocks some (omega arith) few in
      omega (arith, all, flat, count)

  pub one_full : (blocks : List Bool) → per * per ≤ length blocks → 1 + per ≤ length (made_above per 1 blocks)
  one_full blocks many =
      let all = ap (λ (made : List Bool). length made) (above_one per blocks) in
      let flat = flat_one per (pieces per (length blocks) blocks) in
      let count = pieces_full per (length blocks) per blocks some (omega arith) many in
      omega (arith, all, flat, count)

  pub one_at : (blocks : List Bool) (r : ℕ) → length blocks ≤ per * per → get_or (made_above per 1 blocks) r false ≡ row per 0 r blocks
  one_at blocks zero few = ap (λ (made : List Bool). get_or made 0 false) (above_one per blocks) ∙ ap is_any (sym (take_all (per * per) blocks few))
  one_at blocks (suc j) few =
      let e : j * per ≡ 0 + j * per = omega arith in
      ap (λ (made : List Bool). get_or made (suc j) false) (above_one per blocks)
      ∙ low_pieces per per (length blocks) blocks j some (omega arith)
      ∙ ap (λ s. under s per blocks) e

  abbrev pub size : ℕ
  size = per * per

  pub some_size : 0 < size
  some_size = let m : 1 * 1 ≤ per * per = mul-le-mul (some_le some) (some_le some) in omega (arith, m)
    where
      some_le : 0 < per → 1 ≤ per
      some_le s = omega (arith, s)

  no_pieces : (most : ℕ) → pieces {A = Bool} size most [] ≡ []
  no_pieces zero = refl
  no_pieces (suc most) = refl

  pub past_made : (made : List Bool) (k : ℕ) → length made ≤ k → get_or made k false ≡ false
  past_made [] k past = refl
  past_made (one ∷ made) zero past = absurd (omega (arith, past))
  past_made (one ∷ made) (suc k) past = past_made made k (omega (arith, past))

  -- what comes after a first piece that isn't whole: nothing
  short_rest : (most : ℕ) (blocks : List Bool) → length blocks ≤ size → flat_map (made_above per 1) (pieces size most (drop size blocks)) ≡ []
  short_rest most blocks short =
      ap (λ rest. flat_map (made_above per 1) (pieces size most rest)) (drop_past size blocks short) ∙ ap (flat_map (made_above per 1)) (no_pieces most)

  pub mid_pieces : (most : ℕ) (blocks : List Bool) (i r : ℕ) → length blocks ≤ most → r ≤ per
      → get_or (flat_map (made_above per 1) (pieces size most blocks)) (i * (1 + per) + r) false ≡ row per (i * size) r blocks
  mid_pieces zero [] i r fits low = sym (row_past per (i * size) r [] (omega arith))
  mid_pieces zero (block ∷ blocks) i r fits low = absurd (omega (arith, fits))
  mid_pieces (suc most) [] i r fits low = sym (row_past per (i * size) r [] (omega arith))
  mid_pieces (suc most) (block ∷ blocks) zero r fits low =
      let all : List Bool = block ∷ blocks in
      let first : List Bool = take size all in
      let rest : List Bool = flat_map (made_above per 1) (pieces size most (drop size all)) in
      let few : length first ≤ size = omega (arith, length-take size all) in
      let at : 0 * (1 + per) + r ≡ r = omega arith in
      let here : 0 * size ≡ 0 = omega arith in
      let first_is : get_or (made_above per 1 first) r false ≡ row per (0 * size) r all = one_at first r few ∙ row_take per r all low ∙ sym (ap (λ s. row per s r all) here) in
      ap (λ k. get_or (made_above per 1 first ++ rest) k false) at
      ∙ ⊎_elim
      (λ (short : length all ≤ size). ap (λ (more : List Bool). get_or (made_above per 1 first ++ more) r false) (short_rest most all short) ∙ ap (λ (made : List Bool). get_or made r false) (append-nil (made_above per 1 first)) ∙ first_is)
      (λ (whole : size ≤ length all).
      let long : size ≤ length first = omega (arith, length-take-le size all whole) in
      get_or_append_left (made_above per 1 first) rest false r (omega (arith, one_full first long, low)) ∙ first_is)
      (cases_le (length all) size)
    where
      cases_le : (a b : ℕ) → (a ≤ b) ⊎ (b ≤ a)
      cases_le a b = ⊎_elim (λ (lt : a < b). inl (omega (arith, lt))) (λ (ge : b ≤ a). inr ge) (cases_lt a b)
  mid_pieces (suc most) (block ∷ blocks) (suc i) r fits low =
      let all : List Bool = block ∷ blocks in
      let first : List Bool = take size all in
      let rest : List Bool = flat_map (made_above per 1) (pieces size most (drop size all)) in
      let few : length first ≤ size = omega (arith, length-take size all) in
      ⊎_elim
      (λ (short : length all < size).
      let end : length (made_above per 1 first) ≤ suc i * (1 + per) + r = omega (arith, one_few first few) in
      ap (λ (more : List Bool). get_or (made_above per 1 first ++ more) (suc i * (1 + per) + r) false) (short_rest most all (omega (arith, short)))
      ∙ ap (λ (made : List Bool). get_or made (suc i * (1 + per) + r) false) (append-nil (made_above per 1 first))
      ∙ past_made (made_above per 1 first) (suc i * (1 + per) + r) end
      ∙ sym (row_past per (suc i * size) r all (omega (arith, short))))
      (λ (whole : size ≤ length all).
      let long : size ≤ length first = omega (arith, length-take-le size all whole) in
      let exact : length (made_above per 1 first) ≡ 1 + per = omega (arith, one_few first few, one_full first long) in
      let at : suc i * (1 + per) + r ≡ length (made_above per 1 first) + (i * (1 + per) + r) = omega (arith, exact) in
      let further : size + i * size ≡ suc i * size = omega arith in
      let left = length-drop size all in
      ap (λ k. get_or (made_above per 1 first ++ rest) k false) at
      ∙ get_or-append-add (made_above per 1 first) rest (i * (1 + per) + r) false
      ∙ mid_pieces most (drop size all) i r (omega (arith, left, fits, some_size)) low
      ∙ row_drop per (i * size) size r all
      ∙ ap (λ s. row per s r all) further)
      (cases_lt (length all) size)

  mid_length : (most n : ℕ) (blocks : List Bool) → length blocks ≤ most → length blocks ≤ size * n → length (flat_map (made_above per 1) (pieces size most blocks)) ≤ n * (1 + per)
  mid_length zero n blocks fits few = omega arith
  mid_length (suc most) n [] fits few = omega arith
  mid_length (suc most) zero (block ∷ blocks) fits few = absurd (omega (arith, few))
  mid_length (suc most) (suc n) (block ∷ blocks) fits few =
      let all : List Bool = block ∷ blocks in
      let left = length-drop size all in
      let short : length (take size all) ≤ size = omega (arith, length-take size all) in
      let rest = mid_length most n (drop size all) (omega (arith, left, fits, some_size)) (omega (arith, left, few)) in
      let one = one_few (take size all) short in
      omega (arith, length-append (made_above per 1 (take size all)) (flat_map (made_above per 1) (pieces size most (drop size all))), rest, one)

  -- the highest level
  pub two_few : (n : ℕ) (blocks : List Bool) → length blocks ≤ size * n → length (made_above per 2 blocks) ≤ 1 + n * (1 + per)
  two_few n blocks few =
      let all = ap (λ (made : List Bool). length made) (above_two per blocks) in
      let rest = mid_length (length blocks) n blocks (omega arith) few in
      omega (arith, all, rest)

  pub two_first : (blocks : List Bool) → get_or (made_above per 2 blocks) 0 false ≡ is_any blocks
  two_first blocks = ap (λ (made : List Bool). get_or made 0 false) (above_two per blocks)

  pub two_at : (blocks : List Bool) (i r : ℕ) → r ≤ per → get_or (made_above per 2 blocks) (suc (i * (1 + per) + r)) false ≡ row per (i * size) r blocks
  two_at blocks i r low =
      ap (λ (made : List Bool). get_or made (suc (i * (1 + per) + r)) false) (above_two per blocks)
      ∙ mid_pieces (length blocks) blocks i r (omega arith) low

  pub low_first : (blocks : List Bool) → made_above per 0 blocks ≡ is_any blocks ∷ []
  unfolding made_above
  low_first blocks = refl

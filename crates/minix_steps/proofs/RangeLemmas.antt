-- The numbers of a range that pass a test, and the lowest one.
use Rattle.std.proofs.Common.{◌≡◌, ◌≤◌, ◌<◌, ◌+◌, ◌-◌, ℕ, zero, suc, Bool, true, false, List, [], ◌∷◌, ◌++◌, length, take, Option, None, Some, refl, ap, ap₂, sym, ◌∙◌, arith, append_assoc, ⊎_elim}
use Rattle.std.specs.Prelude.{filter, find}
use Rattle.std.specs.List.{range_with_len}
use Rattle.std.proofs.lemmas.List.{append-nil, length-take, length-append, take_all, take-take, take-append-le}
use Rattle.std.proofs.lemmas.List.Elements.{filter-append}
use Rattle.std.proofs.lemmas.Bool.{cases_lt}
use Rattle.minix_steps.specs.Free.{free_from, IsLeast, IsLowest}

range_split : (a m n k b : ℕ) → k ≡ m + n → b ≡ a + m → range_with_len a k ≡ range_with_len a m ++ range_with_len b n
range_split a zero n k b is at =
    let e : k ≡ n = omega arith in
    let f : a ≡ b = omega arith in
    ap₂ range_with_len f e
range_split a (suc m) n k b is at =
    let e : k ≡ suc (m + n) = omega arith in
    ap (range_with_len a) e ∙ ap (λ (rest : List ℕ). a ∷ rest) (range_split (a + 1) m n (m + n) b refl (omega arith))

-- a range in two parts
pub free_split : (p : ℕ → Bool) (a m n k b : ℕ) → k ≡ m + n → b ≡ a + m → free_from p a k ≡ free_from p a m ++ free_from p b n
free_split p a m n k b is at = ap (filter p) (range_split a m n k b is at) ∙ filter-append p (range_with_len a m) (range_with_len b n)

-- no number passes
pub none_free : (p : ℕ → Bool) (a n : ℕ) → ((m : ℕ) → a ≤ m → m < a + n → p m ≡ false) → free_from p a n ≡ []
none_free p a zero none = refl
none_free p a (suc n) none =
    let here : p a ≡ false = none a (omega arith) (omega arith) in
    rw here (none_free p (a + 1) n (λ m from below. none m (omega arith) (omega arith)))

-- the last number of a range alone passes
pub last_free : (p : ℕ → Bool) (a k n : ℕ) → a ≤ n → k ≡ n + 1 - a → p n ≡ true → ((m : ℕ) → a ≤ m → m < n → p m ≡ false) → free_from p a k ≡ n ∷ []
last_free p a k n from is passes none =
    let before : free_from p a (n - a) ≡ [] = none_free p a (n - a) (λ m low high. none m low (omega arith)) in
    let here : free_from p n 1 ≡ n ∷ [] = rw passes refl in
    free_split p a (n - a) 1 k n (omega arith) (omega arith) ∙ ap₂ (λ (x y : List ℕ). x ++ y) before here

-- two tests that agree on a range
pub same_free : (p q : ℕ → Bool) (a n : ℕ) → ((m : ℕ) → a ≤ m → m < a + n → p m ≡ q m) → free_from p a n ≡ free_from q a n
same_free p q a zero same = refl
same_free p q a (suc n) same =
    let here : p a ≡ q a = same a (omega arith) (omega arith) in
    let rest : free_from p (a + 1) n ≡ free_from q (a + 1) n = same_free p q (a + 1) n (λ m from below. same m (omega arith) (omega arith)) in
    rw (here, rest)

-- ---- the lowest one

-- two tests that agree on a range have one lowest number
pub same_lowest : (p q : ℕ → Bool) (from end : ℕ) (found : Option ℕ) → ((m : ℕ) → from ≤ m → m < end → p m ≡ q m) → IsLowest p from end found → IsLowest q from end found
same_lowest p q from end None same lowest = λ m low high. sym (same m low high) ∙ lowest m low high
same_lowest p q from end (Some n) same lowest = record {
  from_on = lowest.from_on;
  below = lowest.below;
  passes = sym (same n lowest.from_on lowest.below) ∙ lowest.passes;
  none_before = λ m low high. sym (same m low (omega (arith, lowest.below))) ∙ lowest.none_before m low high;
}

-- the lowest one is what a search finds
pub find_lowest : (p : ℕ → Bool) (a n end : ℕ) (found : Option ℕ) → end ≡ a + n → IsLowest p a end found → find p (range_with_len a n) ≡ found
find_lowest p a zero end None is lowest = refl
find_lowest p a zero end (Some m) is lowest = absurd (omega (arith, is, lowest.from_on, lowest.below))
find_lowest p a (suc n) end None is lowest =
    let here : p a ≡ false = lowest a (omega arith) (omega arith) in
    rw here (find_lowest p (a + 1) n end None (omega arith) (λ m low high. lowest m (omega arith) high))
find_lowest p a (suc n) end (Some m) is lowest = ⊎_elim
    (λ before.
    let here : p a ≡ false = lowest.none_before a (omega arith) before in
    rw here (find_lowest p (a + 1) n end (Some m) (omega arith) (record {
      from_on = omega arith;
      below = lowest.below;
      passes = lowest.passes;
      none_before = λ k low high. lowest.none_before k (omega arith) high;
    })))
    (λ at.
    let same : m ≡ a = omega (arith, at, lowest.from_on) in
    let here : p a ≡ true = ap p (sym same) ∙ lowest.passes in
    rw here (ap Some (sym same)))
    (cases_lt a m)

-- ---- so many of some numbers, one after another

module _ (need : ℕ) (all found : List ℕ) (is : found ≡ take need all) where
  long : length found ≡ length (take need all)
  long = ap length is

  -- fewer were found than needed: all
  pub took_all : length found < need → found ≡ all
  took_all few =
      let length_is = length-take need all in
      is ∙ take_all need all (omega (arith, long, length_is, few))

  -- enough were found: no more count
  pub took_enough : (more : List ℕ) → need ≤ length found → found ≡ take need (all ++ more)
  took_enough more enough =
      let length_is = length-take need all in
      is ∙ sym (take-append-le need all more (omega (arith, long, length_is, enough)))

  -- one more
  pub took_one : (n : ℕ) → length found < need → found ++ n ∷ [] ≡ take need (all ++ n ∷ [])
  took_one n few =
      let same : found ≡ all = took_all few in
      let length_is : length (all ++ n ∷ []) ≡ length all + 1 = length-append all (n ∷ []) in
      let shorter : length all < need = omega (arith, ap length same, few) in
      ap (λ (xs : List ℕ). xs ++ n ∷ []) same ∙ sym (take_all need (all ++ n ∷ []) (omega (arith, length_is, shorter)))

  -- what was taken of more numbers
  pub took_more : (more next : List ℕ) → next ≡ take need (found ++ more) → next ≡ take need (all ++ more)
  took_more more next then = ⊎_elim
      (λ few. then ∙ ap (λ (xs : List ℕ). take need (xs ++ more)) (took_all few))
      (λ enough. then ∙ take-append-le need found more enough ∙ ap (take need) is ∙ take-take need need all (omega arith) ∙ sym is ∙ took_enough more enough)
      (cases_lt (length found) need)

module _ (p : ℕ → Bool) (need start at end : ℕ) (old found : List ℕ) (from : start ≤ at)
    (is : found ≡ take need (old ++ free_from p start (at - start))) where
  -- one more number was found
  pub took_next : (n : ℕ) → length found < need → IsLeast p at end n → found ++ n ∷ [] ≡ take need (old ++ free_from p start (n + 1 - start))
  took_next n few least =
      let low = least.from_on in
      let part : free_from p start (n + 1 - start) ≡ free_from p start (at - start) ++ free_from p at (n + 1 - at) =
      free_split p start (at - start) (n + 1 - at) (n + 1 - start) at (omega (arith, low, from)) (omega (arith, from)) in
      let one : free_from p at (n + 1 - at) ≡ n ∷ [] = last_free p at (n + 1 - at) n low refl least.passes least.none_before in
      took_one need (old ++ free_from p start (at - start)) found is n few
      ∙ ap (take need) (append_assoc old (free_from p start (at - start)) (n ∷ []) ∙ ap (λ (xs : List ℕ). old ++ xs) (sym (part ∙ ap (λ (xs : List ℕ). free_from p start (at - start) ++ xs) one)))

  parts : at ≤ end → old ++ free_from p start (end - start) ≡ (old ++ free_from p start (at - start)) ++ free_from p at (end - at)
  parts order =
      ap (λ (xs : List ℕ). old ++ xs) (free_split p start (at - start) (end - at) (end - start) at (omega (arith, order, from)) (omega (arith, from)))
      ∙ sym (append_assoc old (free_from p start (at - start)) (free_from p at (end - at)))

  -- no other was found
  pub took_last : at ≤ end → IsLowest p at end None → found ≡ take need (old ++ free_from p start (end - start))
  took_last order none =
      let no_more : free_from p at (end - at) ≡ [] = none_free p at (end - at) (λ m low high. none m low (omega (arith, high, order))) in
      is ∙ ap (take need) (sym (parts order ∙ ap (λ (xs : List ℕ). (old ++ free_from p start (at - start)) ++ xs) no_more ∙ append-nil (old ++ free_from p start (at - start))))

  -- enough were found
  pub took_so_many : at ≤ end → need ≤ length found → found ≡ take need (old ++ free_from p start (end - start))
  took_so_many order enough =
      took_enough need (old ++ free_from p start (at - start)) found is (free_from p at (end - at)) enough
      ∙ ap (take need) (sym (parts order))

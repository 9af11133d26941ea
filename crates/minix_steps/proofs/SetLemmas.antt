-- The numbers of a set, which are those of a range whose bits are set.
use Rattle.std.proofs.Common.{◌≡◌, ◌≢◌, ◌≤◌, ◌<◌, ◌+◌, ◌*◌, ◌-◌, ◌/◌, ◌%◌, ◌==◌, ◌&&◌, ◌||◌, nat_lt, nat_eq, ℕ, zero, suc, Bool, true, false, List, [], ◌∷◌, ◌++◌, length, get_or, replicate, refl, ap, ap₂, sym, ◌∙◌, arith, append_assoc, ⊎_elim}
use Rattle.std.specs.Prelude.{filter, All, Contains}
use Rattle.std.specs.Int.{bit_at}
use Rattle.std.specs.List.{range_with_len, list_any}
use Rattle.std.specs.List.Sorted.{IsStrictlyIncreasing}
use Rattle.std.proofs.lemmas.Bool.{cases_lt, cases_Bool}
use Rattle.std.proofs.lemmas.Bool.Decides.{nat_tests}
use Rattle.std.proofs.lemmas.List.{get_or-replicate, append-nil}
use Rattle.std.proofs.lemmas.List.Elements.{All-filter}
use Rattle.std.proofs.lemmas.List.FromFn.{length-range_with_len, get_or-range_with_len}
use Rattle.std.proofs.lemmas.List.Kept.{IsStrictlyIncreasing-filter}
use Rattle.std.proofs.lemmas.Map.Views.{Contains-from_any}
use Rattle.std.proofs.lemmas.Nat.Bits.{bit_at-zero}
use Rattle.lilo_model.specs.MinixParts.{bit, with_bit}
use Rattle.minix_steps.specs.Free.{free_from}
use Rattle.minix_steps.specs.Numbers.{Numbers, numbers_in, has_number, with_number}
use Rattle.minix_steps.proofs.BitLemmas.{bit_here, bit_elsewhere}
use Rattle.minix_steps.proofs.RangeLemmas.{free_split, none_free, last_free, same_free}

-- ---- whether a number is one of them

any_below : (p : ℕ → Bool) (a count n : ℕ) → n < a → list_any (λ other. n == other) (free_from p a count) ≡ false
any_below p a zero n below = refl
any_below p a (suc count) n below =
    let rest : list_any (λ other. n == other) (free_from p (a + 1) count) ≡ false = any_below p (a + 1) count n (omega arith) in
    let differ : (n == a) ≡ false = grind (arith, nat_tests) in
    ⊎_elim (λ is. rw is (ap₂ (λ (b c : Bool). b || c) differ rest)) (λ is. rw is rest) (cases_Bool (p a))

any_free : (p : ℕ → Bool) (a count n : ℕ) → a ≤ n → n < a + count → list_any (λ other. n == other) (free_from p a count) ≡ p n
any_free p a zero n from below = absurd (omega arith)
any_free p a (suc count) n from below = ⊎_elim
    (λ later.
    let rest : list_any (λ other. n == other) (free_from p (a + 1) count) ≡ p n = any_free p (a + 1) count n (omega arith) (omega arith) in
    let differ : (n == a) ≡ false = grind (arith, nat_tests) in
    ⊎_elim (λ is. rw is (ap₂ (λ (b c : Bool). b || c) differ rest)) (λ is. rw is rest) (cases_Bool (p a)))
    (λ here.
    let same : n ≡ a = omega arith in
    let equal : (n == a) ≡ true = grind (arith, nat_tests) in
    let rest : list_any (λ other. n == other) (free_from p (a + 1) count) ≡ false = any_below p (a + 1) count n (omega arith) in
    ⊎_elim
    (λ is. let yes : p n ≡ true = ap p same ∙ is in rw is (ap (λ (b : Bool). b || list_any (λ other. n == other) (free_from p (a + 1) count)) equal ∙ sym yes))
    (λ is. let no : p n ≡ false = ap p same ∙ is in rw is (rest ∙ sym no))
    (cases_Bool (p a)))
    (cases_lt a n)

pub has_by_bit : (bytes : List ℕ) (below n : ℕ) → n < below → has_number (numbers_in bytes below) n ≡ bit bytes n
unfolding has_number numbers_in
has_by_bit bytes below n inside = any_free (bit bytes) 0 below n (omega arith) (omega arith)

either_true : (b c : Bool) → c ≡ true → (b || c) ≡ true
either_true true c is = refl
either_true false c is = is

any_from : (xs : List ℕ) (n k : ℕ) → k < length xs → get_or xs k n ≡ n → list_any (λ other. n == other) xs ≡ true
any_from [] n k within is = absurd (omega arith)
any_from (x ∷ xs) n zero within is =
    let equal : (n == x) ≡ true = grind (arith, nat_tests) in
    ap (λ (b : Bool). b || list_any (λ other. n == other) xs) equal
any_from (x ∷ xs) n (suc k) within is = either_true (n == x) (list_any (λ other. n == other) xs) (any_from xs n k (omega arith) is)

pub contains_from : (numbers : List ℕ) (n : ℕ) → has_number numbers n ≡ true → Contains numbers n
unfolding has_number
contains_from numbers n has = Contains-from_any {eq = nat_eq} (λ x y same. grind (arith, nat_tests)) n numbers has

pub has_from : (numbers : List ℕ) (n : ℕ) → Contains numbers n → has_number numbers n ≡ true
unfolding has_number
has_from numbers n contains = any_from numbers n contains.0 contains.1 contains.2

-- ---- the empty set

pub none_in : (count below : ℕ) → below ≤ 8 * count → numbers_in (replicate count 0) below ≡ []
unfolding numbers_in bit
none_in count below fits = none_free (bit (replicate count 0)) 0 below (λ m from inside.
    let zero_byte : get_or (replicate count 0) (m / 8) 0 ≡ 0 = get_or-replicate count (m / 8) 0 0 (omega arith) in
    let zero_bit : bit_at 0 (m % 8) ≡ 0 = bit_at-zero (m % 8) in
    ap (λ byte. bit_at byte (m % 8) == 1) zero_byte ∙ rw zero_bit)

-- ---- the order

rising_range : (a count : ℕ) → IsStrictlyIncreasing (range_with_len a count)
rising_range a count k inside =
    let long = length-range_with_len a count in
    let one = get_or-range_with_len a count k 0 (omega (arith, inside, long)) in
    let next = get_or-range_with_len a count (k + 1) 0 (omega (arith, inside, long)) in
    omega (arith, one, next)

pub rising : (bytes : List ℕ) (below : ℕ) → IsStrictlyIncreasing (numbers_in bytes below)
unfolding numbers_in
rising bytes below = IsStrictlyIncreasing-filter (bit bytes) (range_with_len 0 below) (rising_range 0 below)

inside_range : (below : ℕ) → All (λ n. n < below) (range_with_len 0 below)
inside_range below k d within =
    let long = length-range_with_len 0 below in
    let at = get_or-range_with_len 0 below k d (omega (arith, within, long)) in
    omega (arith, at, within, long)

pub inside : (bytes : List ℕ) (below : ℕ) → All (λ n. n < below) (numbers_in bytes below)
unfolding numbers_in
inside bytes below = All-filter (bit bytes) (λ n. n < below) (range_with_len 0 below) (inside_range below)

-- ---- one more number

-- a test that a second one leaves as it is, or refuses
kept : (b c : Bool) → c ≡ true → (b && c) ≡ b
kept true c is = is
kept false c is = refl

refused : (b c : Bool) → c ≡ false → (b && c) ≡ false
refused true c is = is
refused false c is = refl

filter_both : (p q : ℕ → Bool) (xs : List ℕ) → filter q (filter p xs) ≡ filter (λ x. p x && q x) xs
filter_both p q [] = refl
filter_both p q (x ∷ xs) = ⊎_elim
    (λ (is : p x ≡ true). rw is (⊎_elim
    (λ (yes : q x ≡ true). rw yes (ap (λ (ys : List ℕ). x ∷ ys) (filter_both p q xs)))
    (λ (no : q x ≡ false). rw no (filter_both p q xs))
    (cases_Bool (q x))))
    (λ (is : p x ≡ false). rw is (filter_both p q xs))
    (cases_Bool (p x))

module _ (p q : ℕ → Bool) (count n : ℕ) (within : n < count) (here : q n ≡ true) (others : (m : ℕ) → m ≢ n → q m ≡ p m) where
  low : filter (λ other. nat_lt other n) (free_from p 0 count) ≡ free_from p 0 n
  low =
      let test : ℕ → Bool = λ m. p m && nat_lt m n in
      let before : free_from test 0 n ≡ free_from p 0 n = same_free test p 0 n (λ m from below. kept (p m) (nat_lt m n) (grind (arith, nat_tests))) in
      let behind : free_from test n (count - n) ≡ [] = none_free test n (count - n) (λ m from below. refused (p m) (nat_lt m n) (grind (arith, nat_tests))) in
      filter_both p (λ other. nat_lt other n) (range_with_len 0 count)
      ∙ free_split test 0 n (count - n) count n (omega arith) (omega arith)
      ∙ ap₂ (λ (x y : List ℕ). x ++ y) before behind
      ∙ append-nil (free_from p 0 n)

  high : filter (λ other. nat_lt n other) (free_from p 0 count) ≡ free_from p (n + 1) (count - (n + 1))
  high =
      let test : ℕ → Bool = λ m. p m && nat_lt n m in
      let before : free_from test 0 (n + 1) ≡ [] = none_free test 0 (n + 1) (λ m from below. refused (p m) (nat_lt n m) (grind (arith, nat_tests))) in
      let behind : free_from test (n + 1) (count - (n + 1)) ≡ free_from p (n + 1) (count - (n + 1)) = same_free test p (n + 1) (count - (n + 1)) (λ m from below. kept (p m) (nat_lt n m) (grind (arith, nat_tests))) in
      filter_both p (λ other. nat_lt n other) (range_with_len 0 count)
      ∙ free_split test 0 (n + 1) (count - (n + 1)) count (n + 1) (omega arith) (omega arith)
      ∙ ap₂ (λ (x y : List ℕ). x ++ y) before behind

  middle : free_from q 0 (n + 1) ≡ free_from p 0 n ++ n ∷ []
  middle =
      let before : free_from q 0 n ≡ free_from p 0 n = same_free q p 0 n (λ m from below. others m (omega arith)) in
      let one : free_from q n 1 ≡ n ∷ [] = last_free q n 1 n (omega arith) (omega arith) here (λ m from below. absurd (omega arith)) in
      free_split q 0 n 1 (n + 1) n refl (omega arith) ∙ ap₂ (λ (x y : List ℕ). x ++ y) before one

  one_more : free_from q 0 count ≡ filter (λ other. nat_lt other n) (free_from p 0 count) ++ (n ∷ filter (λ other. nat_lt n other) (free_from p 0 count))
  one_more =
      let behind : free_from q (n + 1) (count - (n + 1)) ≡ free_from p (n + 1) (count - (n + 1)) = same_free q p (n + 1) (count - (n + 1)) (λ m from below. others m (omega arith)) in
      free_split q 0 (n + 1) (count - (n + 1)) count (n + 1) (omega arith) (omega arith)
      ∙ ap₂ (λ (x y : List ℕ). x ++ y) middle behind
      ∙ append_assoc (free_from p 0 n) (n ∷ []) (free_from p (n + 1) (count - (n + 1)))
      ∙ sym (ap₂ (λ (x y : List ℕ). x ++ (n ∷ y)) low high)

pub added : (bytes : List ℕ) (below n : ℕ) → n < below → below ≤ 8 * length bytes → numbers_in (with_bit bytes n true) below ≡ with_number (numbers_in bytes below) n
unfolding numbers_in with_number
added bytes below n within fits =
    one_more (bit bytes) (bit (with_bit bytes n true)) below n within
    (bit_here bytes n true (omega arith))
    (λ m differ. bit_elsewhere bytes n m true (omega arith) differ)

-- ---- as contracts see a set

abbrev pub set_of : List ℕ → ℕ → Numbers
set_of bytes below = record { below = below; numbers = numbers_in bytes below }

abbrev pub with_one : Numbers → ℕ → Numbers
with_one set n = record { below = set.below; numbers = with_number set.numbers n }

abbrev pub empty_set : ℕ → Numbers
empty_set below = record { below = below; numbers = [] }

pub set_added : (set : Numbers) (bytes new : List ℕ) (below n : ℕ) → set_of bytes below ≡ set → n < set.below
    → below ≤ 8 * length bytes → new ≡ with_bit bytes n true → set_of new below ≡ with_one set n
set_added set bytes new below n is inside fits same =
    let bound : Numbers → ℕ = λ s. s.below in
    let within : n < below = omega (arith, ap bound is) in
    let numbers : numbers_in new below ≡ with_number (numbers_in bytes below) n = ap (λ (bs : List ℕ). numbers_in bs below) same ∙ added bytes below n within fits in
    let make : List ℕ → Numbers = λ xs. record { below = below; numbers = xs } in
    let more : Numbers → Numbers = λ s. with_one s n in
    ap make numbers ∙ ap more is

pub set_empty : (bytes : List ℕ) (count below : ℕ) → bytes ≡ replicate count 0 → below ≤ 8 * count → set_of bytes below ≡ empty_set below
set_empty bytes count below zeros fits =
    let make : List ℕ → Numbers = λ xs. record { below = below; numbers = xs } in
    ap make (ap (λ (bs : List ℕ). numbers_in bs below) zeros ∙ none_in count below fits)

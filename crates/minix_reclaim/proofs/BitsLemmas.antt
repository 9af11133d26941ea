-- Bits of a sector, those without a use cleared.
use Rattle.std.proofs.Common.{◌≡◌, ◌≢◌, ◌≤◌, ◌<◌, ◌+◌, ◌-◌, ◌*◌, ◌/◌, ◌&&◌, ◌⊎◌, ◌++◌, ℕ, suc, zero, Bool, true, false, not, List, [], ◌∷◌, length, get_or, refl, sym, ◌∙◌, ap, arith, inl, inr, ⊎_elim, length-append}
use Rattle.std.specs.Prelude.{nat_le, nat_lt}
use Rattle.std.proofs.lemmas.Bool.{cases_lt, cases_eq, le-leb, lt-leb, lt-ltb, le-ltb}
use Rattle.lilo_model.specs.MinixParts.{bit, with_bit}
use Rattle.minix_steps.specs.BitLaws.{OneBit}
use Rattle.minix_steps.specs.Free.{free_from}
use Rattle.minix_steps.proofs.BitLemmas.{one_bit}
use Rattle.minix_steps.proofs.RangeLemmas.{free_split, none_free, last_free}
use Rattle.minix_reclaim.specs.Bits.{is_dropped, is_unused_in, ClearsUnused}

-- ---- a byte of zeros

zero-div : (n : ℕ) → 0 / n ≡ 0
zero-div n = grind arith

pub zero_byte : (bytes : List ℕ) (at k : ℕ) → get_or bytes (at / 8) 0 ≡ 0 → k / 8 ≡ at / 8 → bit bytes k ≡ false
unfolding bit
zero_byte bytes at k none same = rw (same, none, zero-div) refl

-- no bit before the next byte is set
pub skip_byte : (bytes : List ℕ) (from at : ℕ) → get_or bytes (at / 8) 0 ≡ 0 → ((m : ℕ) → from ≤ m → m < at → bit bytes m ≡ false)
    → (m : ℕ) → from ≤ m → m < (at / 8 + 1) * 8 → bit bytes m ≡ false
skip_byte bytes from at none before m low high = ⊎_elim
    (λ lower. before m low lower)
    (λ here. zero_byte bytes at m none (omega arith))
    (cases_lt m at)

-- nor before the next bit
pub skip_bit : (bytes : List ℕ) (from at : ℕ) → bit bytes at ≡ false → ((m : ℕ) → from ≤ m → m < at → bit bytes m ≡ false)
    → (m : ℕ) → from ≤ m → m < at + 1 → bit bytes m ≡ false
skip_bit bytes from at none before m low high = ⊎_elim
    (λ lower. before m low lower)
    (λ here. let same : m ≡ at = omega arith in rw same none)
    (cases_lt m at)

-- ---- bits that are cleared

not-in-range : (used : ℕ → Bool) (from at k : ℕ) → at ≤ k → is_dropped used from at k ≡ false
not-in-range used from at k high = by (nat_le from k) (le-ltb k at high)
  where
    by : (low : Bool) → nat_lt k at ≡ false → (low && nat_lt k at && not (used k)) ≡ false
    by true is = rw is refl
    by false is = refl

in-range : (used : ℕ → Bool) (from to k : ℕ) → from ≤ k → k < to → is_dropped used from to k ≡ not (used k)
in-range used from to k low high = rw (le-leb from k low, lt-ltb k to high) refl

below-range : (used : ℕ → Bool) (from to k : ℕ) → k < from → is_dropped used from to k ≡ false
below-range used from to k low = rw (lt-leb from k low) refl

-- a range that ends further on drops what lies between too
same-dropped : (used : ℕ → Bool) (from at to k : ℕ) → at ≤ to → (k < at) ⊎ (to ≤ k) → is_dropped used from to k ≡ is_dropped used from at k
same-dropped used from at to k order (inl low) = by (cases_lt k from)
  where
    by : (k < from) ⊎ (from ≤ k) → is_dropped used from to k ≡ is_dropped used from at k
    by (inl before) = below-range used from to k before ∙ sym (below-range used from at k before)
    by (inr after) = in-range used from to k after (omega (arith, low, order)) ∙ sym (in-range used from at k after low)
same-dropped used from at to k order (inr high) = not-in-range used from to k high ∙ sym (not-in-range used from at k (omega (arith, high, order)))

and-true : (b : Bool) → (b && not false) ≡ b
and-true true = refl
and-true false = refl

module _ (used : ℕ → Bool) (from : ℕ) (old bytes : List ℕ) (at freed : ℕ) (order : from ≤ at) (so : ClearsUnused used from at old bytes freed) where
  -- from there on the bits are as before
  ahead : (k : ℕ) → k < 4096 → at ≤ k → bit bytes k ≡ bit old k
  ahead k small high = so.bits k small ∙ ap (λ (b : Bool). bit old k && not b) (not-in-range used from at k high) ∙ and-true (bit old k)

  -- no bit is set up to one
  module _ (to : ℕ) (further : at ≤ to) (small : to ≤ 4096) (none : (k : ℕ) → at ≤ k → k < to → bit bytes k ≡ false) where
    none-old : (k : ℕ) → at ≤ k → k < to → bit old k ≡ false
    none-old k low high = sym (ahead k (omega (arith, high, small)) low) ∙ none k low high

    none-unused : (k : ℕ) → at ≤ k → k < at + (to - at) → is_unused_in used old k ≡ false
    none-unused k low high = rw (none-old k low (omega (arith, high, further))) refl

    by-place : (k : ℕ) → k < 4096 → ((k < at) ⊎ (to ≤ k)) ⊎ ((at ≤ k) × (k < to)) → bit bytes k ≡ (bit old k && not (is_dropped used from to k))
    by-place k within (inl out) = so.bits k within ∙ ap (λ (b : Bool). bit old k && not b) (sym (same-dropped used from at to k further out))
    by-place k within (inr inside) = none k inside.0 inside.1 ∙ sym (ap (λ (b : Bool). b && not (is_dropped used from to k)) (none-old k inside.0 inside.1))

    place : (k : ℕ) → ((k < at) ⊎ (to ≤ k)) ⊎ ((at ≤ k) × (k < to))
    place k = by (cases_lt k at) (cases_lt k to)
      where
        by : (k < at) ⊎ (at ≤ k) → (k < to) ⊎ (to ≤ k) → ((k < at) ⊎ (to ≤ k)) ⊎ ((at ≤ k) × (k < to))
        by (inl low) other = inl (inl low)
        by (inr from') (inl high) = inr (from', high)
        by (inr from') (inr high) = inl (inr high)

    pub clears_none : ClearsUnused used from to old bytes freed
    clears_none = record {
      long = so.long;
      bits = λ k within. by-place k within (place k);
      is = so.is ∙ ap length (sym (free_split (is_unused_in used old) from (at - from) (to - at) (to - from) at (omega (arith, order, further)) (omega (arith, order))
          ∙ ap (λ (more : List ℕ). free_from (is_unused_in used old) from (at - from) ++ more) (none_free (is_unused_in used old) at (to - at) none-unused) ∙ append-none _));
    }
      where
        append-none : (xs : List ℕ) → xs ++ [] ≡ xs
        append-none [] = refl
        append-none (x ∷ xs) = ap (λ ys. x ∷ ys) (append-none xs)

-- one more bit
module _ (used : ℕ → Bool) (from : ℕ) (old bytes : List ℕ) (at freed : ℕ) (order : from ≤ at) (small : at < 4096) (so : ClearsUnused used from at old bytes freed) where
  at-last : free_from (is_unused_in used old) from (at + 1 - from) ≡ free_from (is_unused_in used old) from (at - from) ++ free_from (is_unused_in used old) at 1
  at-last = free_split (is_unused_in used old) from (at - from) 1 (at + 1 - from) at (omega (arith, order)) (omega (arith, order))

  others : (k : ℕ) → (k < at) ⊎ (at + 1 ≤ k) → is_dropped used from (at + 1) k ≡ is_dropped used from at k
  others k out = same-dropped used from at (at + 1) k (omega arith) out

  one-used : is_unused_in used old at ≡ false → free_from (is_unused_in used old) at 1 ≡ []
  one-used is = none_free (is_unused_in used old) at 1 (λ k low high. let same : k ≡ at = omega (arith, low, high) in ap (is_unused_in used old) same ∙ is)

  one-unused : is_unused_in used old at ≡ true → free_from (is_unused_in used old) at 1 ≡ at ∷ []
  one-unused is = last_free (is_unused_in used old) at 1 at (omega arith) (omega arith) is (λ k low high. absurd (omega (arith, low, high)))

  -- it has a use
  pub clears_used : used at ≡ true → ClearsUnused used from (at + 1) old bytes freed
  clears_used is = record {
    long = so.long;
    bits = λ k within. so.bits k within ∙ ap (λ (b : Bool). bit old k && not b) (sym (same k (cases_eq k at)));
    is = so.is ∙ sym (ap length at-last ∙ length-append (free_from (is_unused_in used old) from (at - from)) (free_from (is_unused_in used old) at 1)
        ∙ ap (λ (more : List ℕ). length (free_from (is_unused_in used old) from (at - from)) + length more) (one-used unused) ∙ omega arith);
  }
    where
      unused : is_unused_in used old at ≡ false
      unused = by (bit old at)
        where
          by : (b : Bool) → (b && not (used at)) ≡ false
          by true = rw is refl
          by false = refl

      same : (k : ℕ) → (k ≡ at) ⊎ (k ≢ at) → is_dropped used from (at + 1) k ≡ is_dropped used from at k
      same k (inl here) = rw here (in-range used from (at + 1) at order (omega arith) ∙ ap not is ∙ sym (not-in-range used from at at (omega arith)))
      same k (inr apart) = others k (by (cases_lt k at))
        where
          by : (k < at) ⊎ (at ≤ k) → (k < at) ⊎ (at + 1 ≤ k)
          by (inl low) = inl low
          by (inr high) = inr (omega (arith, high, apart))

  -- it is set, has none and is cleared
  pub clears_one : length bytes ≡ 512 → bit bytes at ≡ true → used at ≡ false → ClearsUnused used from (at + 1) old (with_bit bytes at false) (freed + 1)
  clears_one long set none =
      let one : OneBit bytes (with_bit bytes at false) at false = one_bit bytes at false (omega (arith, small, long)) in
      let was : bit old at ≡ true = sym (ahead used from old bytes at freed order so at small (omega arith)) ∙ set in
      record {
        long = one.length_same ∙ so.long;
        bits = λ k within. by one was k within (cases_eq k at);
        is = ap (λ n. n + 1) so.is
            ∙ sym (ap length at-last ∙ length-append (free_from (is_unused_in used old) from (at - from)) (free_from (is_unused_in used old) at 1)
            ∙ ap (λ (more : List ℕ). length (free_from (is_unused_in used old) from (at - from)) + length more) (one-unused (rw (was, none) refl)));
      }
    where
      by : OneBit bytes (with_bit bytes at false) at false → bit old at ≡ true → (k : ℕ) → k < 4096 → (k ≡ at) ⊎ (k ≢ at)
          → bit (with_bit bytes at false) k ≡ (bit old k && not (is_dropped used from (at + 1) k))
      by one was k within (inl here) = rw here (one.here ∙ sym (ap (λ (b : Bool). bit old at && not b) (in-range used from (at + 1) at order (omega arith) ∙ ap not none) ∙ and-not (bit old at)))
        where
          and-not : (b : Bool) → (b && not true) ≡ false
          and-not true = refl
          and-not false = refl
      by one was k within (inr apart) =
          one.others k (omega (arith, within, long)) apart ∙ so.bits k within ∙ ap (λ (b : Bool). bit old k && not b) (sym (others k (side (cases_lt k at))))
        where
          side : (k < at) ⊎ (at ≤ k) → (k < at) ⊎ (at + 1 ≤ k)
          side (inl low) = inl low
          side (inr high) = inr (omega (arith, high, apart))

-- nothing was looked at
pub clears_start : (used : ℕ → Bool) (from : ℕ) (old : List ℕ) → ClearsUnused used from from old old 0
clears_start used from old = record {
  long = refl;
  bits = λ k within. sym (ap (λ (b : Bool). bit old k && not b) (nothing k) ∙ and-true (bit old k));
  is = let none : from - from ≡ 0 = omega arith in rw none refl;
}
  where
    nothing : (k : ℕ) → is_dropped used from from k ≡ false
    nothing k = by (cases_lt k from)
      where
        by : (k < from) ⊎ (from ≤ k) → is_dropped used from from k ≡ false
        by (inl low) = below-range used from from k low
        by (inr high) = not-in-range used from from k high

-- how many are counted
pub few_free : (p : ℕ → Bool) (a n : ℕ) → length (free_from p a n) ≤ n
few_free p a zero = omega arith
few_free p a (suc n) = one (p a) refl (few_free p (a + 1) n)
  where
    one : (b : Bool) → p a ≡ b → length (free_from p (a + 1) n) ≤ n → length (free_from p a (suc n)) ≤ suc n
    one true is rest = rw is (omega (arith, rest))
    one false is rest = rw is (omega (arith, rest))

-- where none is counted there is none
pub none_counted : (p : ℕ → Bool) (a n : ℕ) → length (free_from p a n) ≡ 0 → (k : ℕ) → a ≤ k → k < a + n → p k ≡ false
none_counted p a zero none k low high = absurd (omega (arith, low, high))
none_counted p a (suc n) none k low high = one (p a) refl none (none_counted p (a + 1) n)
  where
    one : (b : Bool) → p a ≡ b → length (free_from p a (suc n)) ≡ 0
        → (length (free_from p (a + 1) n) ≡ 0 → (k : ℕ) → a + 1 ≤ k → k < a + 1 + n → p k ≡ false) → p k ≡ false
    one true is nothing rest = let some = rw is at nothing in cc
    one false is nothing rest = two (cases_eq k a)
      where
        two : (k ≡ a) ⊎ (k ≢ a) → p k ≡ false
        two (inl here) = ap p here ∙ is
        two (inr apart) = rest (rw is at nothing) k (omega (arith, low, apart)) (omega (arith, high))

-- the same numbers counted from another one on
pub same_counted : (p q : ℕ → Bool) (a b n : ℕ) → ((k : ℕ) → k < n → p (a + k) ≡ q (b + k)) → length (free_from p a n) ≡ length (free_from q b n)
same_counted p q a b zero same = refl
same_counted p q a b (suc n) same =
    one (p a) refl (same_counted p q (a + 1) (b + 1) n (λ k small.
    let here : a + suc k ≡ a + 1 + k = omega arith in
    let there : b + suc k ≡ b + 1 + k = omega arith in
    ap p (sym here) ∙ same (suc k) (omega (arith, small)) ∙ ap q there))
  where
    first : p a ≡ q b
    first = let here : a + 0 ≡ a = omega arith in let there : b + 0 ≡ b = omega arith in ap p (sym here) ∙ same 0 (omega arith) ∙ ap q there

    one : (x : Bool) → p a ≡ x → length (free_from p (a + 1) n) ≡ length (free_from q (b + 1) n) → length (free_from p a (suc n)) ≡ length (free_from q b (suc n))
    one true is rest = rw (is, sym first ∙ is) (ap (λ n. suc n) rest)
    one false is rest = rw (is, sym first ∙ is) rest

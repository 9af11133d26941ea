-- Numbers in a set.
use Rattle.std.proofs.Common.{◌≡◌, ◌<◌, ◌≤◌, ◌==◌, ◌||◌, ◌∙◌, ℕ, Bool, true, false, cond, refl, ap, List, [], ◌∷◌, arith, ⊎_elim}
use Rattle.std.specs.Prelude.{nat_lt, filter, All}
use Rattle.std.specs.List.{list_any}
use Rattle.std.proofs.Math.Bool.{or-false}
use Rattle.std.proofs.lemmas.Bool.{cases_Bool}
use Rattle.std.proofs.lemmas.Bool.Decides.{nat_tests}
use Rattle.std.proofs.lemmas.List.Folds.{list_any-append}
use Rattle.minix_steps.specs.Numbers.{has_number, with_number}
use Rattle.minix_steps.proofs.SetLemmas.{contains_from}

-- none is above their bound
pub none_above : (numbers : List ℕ) (below n : ℕ) → All (λ m. m < below) numbers → below ≤ n → has_number numbers n ≡ false
none_above numbers below n all past = ⊎_elim
    (λ is. let found = contains_from numbers n is in let less = all found.0 n found.1 in absurd (omega (arith, less, found.2)))
    (λ is. is)
    (cases_Bool (has_number numbers n))

-- a number before or after the new one, or the new one itself
one_more :
    (low high here new a b x : Bool) → (low ≡ false → high ≡ false → here ≡ new) → (a || (new || b)) ≡ (x || new)
    → (cond low (here || a) a || (new || cond high (here || b) b)) ≡ ((here || x) || new)
one_more true true false new a b x same rest = rest
one_more true false false new a b x same rest = rest
one_more false true false new a b x same rest = rest
one_more false false false new a b x same rest = rest
one_more true high true new a b x same rest = refl
one_more false true true new true b x same rest = refl
one_more false true true true false b x same rest = refl
one_more false true true false false b x same rest = refl
one_more false false true new true b x same rest = refl
one_more false false true true false b x same rest = refl
one_more false false true false false b x same rest = let wrong = same refl refl in absurd (grind (arith, wrong))

any_cond :
    (p : ℕ → Bool) (test : Bool) (n : ℕ) (others : List ℕ)
    → list_any p (cond test (n ∷ others) others) ≡ cond test (p n || list_any p others) (list_any p others)
any_cond p true n others = refl
any_cond p false n others = refl

module _ (new n : ℕ) where
  abbrev is_it : ℕ → Bool
  is_it other = n == other

  among :
      (numbers : List ℕ)
      → (list_any is_it (filter (λ other. nat_lt other new) numbers) || ((n == new) || list_any is_it (filter (λ other. nat_lt new other) numbers)))
      ≡ (list_any is_it numbers || (n == new))
  among [] = or-false (n == new)
  among (number ∷ numbers) =
      let low = filter (λ other. nat_lt other new) numbers in
      let high = filter (λ other. nat_lt new other) numbers in
      ap (λ test. test || ((n == new) || list_any is_it (cond (nat_lt new number) (number ∷ high) high))) (any_cond is_it (nat_lt number new) number low)
      ∙ ap (λ test. cond (nat_lt number new) ((n == number) || list_any is_it low) (list_any is_it low) || ((n == new) || test)) (any_cond is_it (nat_lt new number) number high)
      ∙ one_more (nat_lt number new) (nat_lt new number) (n == number) (n == new) (list_any is_it low) (list_any is_it high) (list_any is_it numbers)
      (λ past before. let same : number ≡ new = grind (arith, nat_tests, past, before) in ap (λ m. n == m) same)
      (among numbers)

  -- those of a set with one more
  pub has-with : (numbers : List ℕ) → has_number (with_number numbers new) n ≡ (has_number numbers n || (n == new))
  unfolding has_number with_number
  has-with numbers =
      list_any-append is_it (filter (λ other. nat_lt other new) numbers) (new ∷ filter (λ other. nat_lt new other) numbers) ∙ among numbers

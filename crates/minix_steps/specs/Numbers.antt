-- Sets of numbers below a bound.
use Rattle.std.specs.Prelude.{ℕ, ◌==◌, nat_lt, Bool, List, ◌∷◌, ◌++◌, filter}
use Rattle.std.specs.List.{range_with_len, list_any}
use Rattle.lilo_model.specs.MinixParts.{bit}

-- a set: its bound, and its numbers in rising order
pub record Numbers : Type 0 where
  pub below : ℕ
  pub numbers : List ℕ

-- the numbers below a bound whose bits are set
unfoldable pub numbers_in : List ℕ → ℕ → List ℕ
numbers_in bytes below = filter (bit bytes) (range_with_len 0 below)

-- whether a number is one of some
unfoldable pub has_number : List ℕ → ℕ → Bool
has_number numbers n = list_any (λ other. n == other) numbers

-- numbers in rising order with one more among them
unfoldable pub with_number : List ℕ → ℕ → List ℕ
with_number numbers n = filter (λ other. nat_lt other n) numbers ++ (n ∷ filter (λ other. nat_lt n other) numbers)

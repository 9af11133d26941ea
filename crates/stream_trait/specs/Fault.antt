-- Faults: their count, which stays at its last value, and the calls that are to fail.
use Rattle.std.specs.Prelude.{ℕ, ◌+◌, min, List, Bool, ◌==◌}
use Rattle.std.specs.List.{list_any}
use Rattle.lilo_model.specs.Faults.{last_count}

-- the next value of a count
abbrev pub count_after : ℕ → ℕ
count_after n = min (n + 1) last_count

-- whether the number of a call is in a list
abbrev pub is_listed : List ℕ → ℕ → Bool
is_listed numbers number = list_any (λ n. n == number) numbers

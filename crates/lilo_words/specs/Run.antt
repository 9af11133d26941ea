-- The parts of a run, one after another.
use Rattle.std.specs.Prelude.{◌≡◌, ◌≤◌, ◌<◌, ℕ, List, [], ◌∷◌, length, drop, Option, None, Some, Result, Ok}
use Rattle.std.specs.Result.{result_unwrap_or}
use Rattle.lilo_model.specs.Checks.{◌>>=◌}
use Rattle.lilo_model.specs.Words.{Part, run_from}

-- the run that begins at a place of the arguments
abbrev pub run_behind : List (List ℕ) → ℕ → Result (List Part) ℕ
run_behind words from = run_from from (drop from words)

-- its parts
abbrev pub parts_behind : List (List ℕ) → ℕ → List Part
parts_behind words from = result_unwrap_or (run_behind words from) []

-- the parts that are left after one
abbrev pub parts_of_next : List (List ℕ) → Option ℕ → List Part
parts_of_next words None = []
parts_of_next words (Some next) = parts_behind words next

-- a run at a place begins with this part, and goes on at the next place, or ends
abbrev pub IsPartAt : List (List ℕ) → ℕ → Part → Option ℕ → Type 0
IsPartAt words from part None = run_behind words from ≡ Ok (part ∷ [])
IsPartAt words from part (Some next) =
    (from < next) × (next ≤ length words)
    × (run_behind words from ≡ (run_behind words next >>= λ parts. Ok (part ∷ parts)))

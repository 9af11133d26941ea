-- What the run of arguments is to the grammar, as laws.
use Rattle.std.specs.Prelude.{◌≡◌, ◌↔◌, ℕ, List, None, Some, Ok, Err}
use Rattle.lilo_model.specs.Words.{Part, IsRun, IsFirstWrong, IsUnfinished, run_at}

-- arguments have the parts that the grammar gives them, and no others
abbrev pub RunLaw : Type 0
RunLaw = (words : List (List ℕ)) (parts : List Part) → (run_at words ≡ Ok parts) ↔ IsRun words parts

-- an argument is reported as wrong where it is the first that isn't allowed where it is
abbrev pub FirstWrongLaw : Type 0
FirstWrongLaw = (words : List (List ℕ)) (place : ℕ) → (run_at words ≡ Err (Some place)) ↔ IsFirstWrong words place

-- the end is reported as wrong where all the arguments are allowed, and are no run yet
abbrev pub UnfinishedLaw : Type 0
UnfinishedLaw = (words : List (List ℕ)) → (run_at words ≡ Err None) ↔ IsUnfinished words

-- A chain of checks, of which the first refusal decides (a form of this project's own).
use Rattle.std.specs.Prelude.{Bool, true, false, List, [], ◌∷◌, Option, None, Some, Result, Ok, Err}

-- what a check gives is handed to those after it
infixl 10 ◌>>=◌
abbrev pub ◌>>=◌ : {A B F : Type 0} → Result A F → (A → Result B F) → Result B F
(Ok value) >>= next = next value
(Err fault) >>= next = Err fault

-- a check that only refuses
abbrev pub require : {F : Type 0} → Bool → F → Result (Unit {0}) F
require true fault = Ok tt
require false fault = Err fault

-- a check that refuses where there is a fault
abbrev pub no_fault : {F : Type 0} → Option F → Result (Unit {0}) F
no_fault None = Ok tt
no_fault (Some fault) = Err fault

-- a check whose fault is reported otherwise
abbrev pub with_fault : {A F G : Type 0} → (F → G) → Result A F → Result A G
with_fault told (Ok value) = Ok value
with_fault told (Err fault) = Err (told fault)

-- a check at each of some values, in order
abbrev pub each : {A F : Type 0} → List (Result A F) → Result (List A) F
each [] = Ok []
each (check ∷ checks) = check >>= λ value. each checks >>= λ values. Ok (value ∷ values)

-- what was answered, where its values and faults stand for others
abbrev pub seen : {A B F G : Type 0} → (A → B) → (F → G) → Result A F → Result B G
seen value fault (Ok found) = Ok (value found)
seen value fault (Err refused) = Err (fault refused)

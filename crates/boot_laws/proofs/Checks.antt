-- Chains of checks: they are the same where what comes after a check is the same for what it gives.
use Rattle.std.proofs.Common.{◌≡◌, Result, Ok, Err, refl}
use Rattle.lilo_model.specs.Checks.{◌>>=◌, with_fault}

pub bind-same : {A B F : Type 0} (first : Result A F) (next next' : A → Result B F) → ((value : A) → first ≡ Ok value → next' value ≡ next value) → (first >>= next') ≡ (first >>= next)
bind-same (Ok value) next next' same = same value refl
bind-same (Err fault) next next' same = refl

-- what a chain gives comes of what its first check gives
pub bind-given : {A B F : Type 0} (first : Result A F) (next : A → Result B F) (given : B) → (first >>= next) ≡ Ok given → (value : A) × (first ≡ Ok value) × (next value ≡ Ok given)
bind-given (Ok value) next given gives = (value, refl, gives)
bind-given (Err fault) next given gives = absurd (cc)

-- what is given with a fault reported otherwise is given
pub told-given : {A F G : Type 0} (told : F → G) (first : Result A F) (given : A) → with_fault told first ≡ Ok given → first ≡ Ok given
told-given told (Ok value) given gives = cc
told-given told (Err fault) given gives = cc

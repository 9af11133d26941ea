-- What a source gives.
use Rattle.std.specs.Prelude.{◌≡◌, ℕ, List, [], ◌∷◌, ◌++◌, take, drop, Option, None, Some}
use Rattle.stream_trait.specs.declared.source.Next.{Next}
use Rattle.stream_trait.specs.declared.source.Next.TheVariants.{Got, End, Failed}
use Rattle.stream_trait.specs.declared.source.Taken.{Taken}
use Rattle.stream_trait.specs.declared.source.Taken.TheVariants as takings

-- what a call gave of the bytes that are left, where they are known, and what is left after it
abbrev pub Gives : Option (List ℕ) → Next → Option (List ℕ) → Type 0
Gives None _ new = new ≡ None
Gives (Some xs) (Got byte) new = (xs ≡ byte ∷ drop 1 xs) × (new ≡ Some (drop 1 xs))
Gives (Some xs) End new = (xs ≡ []) × (new ≡ Some [])
Gives (Some xs) Failed new = new ≡ Some xs

-- what a call for several bytes gave of those that are left, where they are known, and what is left after it
abbrev pub GivesMany : Option (List ℕ) → Taken → List ℕ → Option (List ℕ) → Type 0
GivesMany None _ into new = new ≡ None
GivesMany (Some xs) (takings.Got count) into new = (xs ≡ take count into ++ drop count xs) × (new ≡ Some (drop count xs))
GivesMany (Some xs) takings.End into new = (xs ≡ []) × (new ≡ Some [])
GivesMany (Some xs) takings.Failed into new = new ≡ Some xs

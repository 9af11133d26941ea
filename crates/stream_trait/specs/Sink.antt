-- What a sink takes.
use Rattle.std.specs.Prelude.{◌≡◌, ℕ, ◌≤◌, List, ◌++◌, length, take, Option, None, Some}
use Rattle.std.specs.Option.{option_map}

-- a sink took all of a text
abbrev pub Takes : Option (List ℕ) → List ℕ → Option (List ℕ) → Type 0
Takes old text new = new ≡ option_map (λ taken. taken ++ text) old

-- a sink took a prefix of a text, maybe none of it or all
abbrev pub TakesFront : Option (List ℕ) → List ℕ → Option (List ℕ) → Type 0
TakesFront None text new = new ≡ None
TakesFront (Some taken) text new = (k : ℕ) × (k ≤ length text) × (new ≡ Some (taken ++ take k text))

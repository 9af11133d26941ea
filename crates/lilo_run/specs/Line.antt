-- How the words of a default line are put together.
use Rattle.std.specs.Prelude.{ℕ, Bool, true, false, List, ◌∷◌}

-- what a word adds to the words before it: a space comes before each but the first
abbrev pub spaced : Bool → List ℕ → List ℕ
spaced true word = word
spaced false word = 32 ∷ word

-- Which plain value the reason why arguments are no run represents.
use Rattle.std.specs.Prelude.{◌<◌, ℕ, List, length, Option, None, Some}
use Rattle.lilo_words.specs.declared.part.Wrong.{Wrong}
use Rattle.lilo_words.specs.declared.part.Wrong.TheVariants.{Word, End}

-- the place of the first argument that isn't allowed where it is, or none at the end
abbrev pub wrong_view : Wrong → Option ℕ
wrong_view (Word place) = Some place
wrong_view End = None

-- an argument that is reported is there
abbrev pub IsPlaceIn : List (List ℕ) → Wrong → Type 0
IsPlaceIn words (Word place) = place < length words
IsPlaceIn words End = Unit {0}

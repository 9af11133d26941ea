-- What a contract sees of a source over std.
use Rattle.std.specs.Prelude.{◌≡◌, ℕ, ◌+◌, List, Bool, Option, None, Some, ⊤}
use Rattle.stream_trait.specs.declared.source.Next.{Next}
use Rattle.stream_trait.specs.declared.source.Next.TheVariants.{Got, End, Failed}
use Rattle.stream_trait.specs.declared.source.Taken.{Taken}
use Rattle.stream_trait.specs.declared.source.Taken.TheVariants as takings
use Rattle.stream_trait.specs.Fault.{count_after}
use Rattle.stream_trait.specs.Source.{Gives, GivesMany}

-- a source over std
pub record StdSourceState : Type 0 where
  -- the bytes that are left, where the reader reports them
  pub unread : Option (List ℕ)
  -- how many bytes it can still give
  pub can_give : ℕ
  -- whether it has answered `End`
  pub ended : Bool
  -- how many calls have failed
  pub faults : ℕ

-- what a call gave of the bytes that are left, where the reader reports them; else it says nothing
abbrev pub GivesKnown : Option (List ℕ) → Next → Option (List ℕ) → Type 0
GivesKnown None _ new = ⊤
GivesKnown (Some xs) next new = Gives (Some xs) next new

-- the same of a call for several bytes
abbrev pub GivesManyKnown : Option (List ℕ) → Taken → List ℕ → Option (List ℕ) → Type 0
GivesManyKnown None _ into new = ⊤
GivesManyKnown (Some xs) taken into new = GivesMany (Some xs) taken into new

-- a byte takes one of those that it can give, and a failure is one fault more
abbrev pub Counts : StdSourceState → Next → StdSourceState → Type 0
Counts old (Got _) new = (new.can_give + 1 ≡ old.can_give) × (new.faults ≡ old.faults)
Counts old End new = (new.can_give ≡ old.can_give) × (new.faults ≡ old.faults)
Counts old Failed new = (new.can_give ≡ old.can_give) × (new.faults ≡ count_after old.faults)

-- the same of a call for several bytes: each takes one of those that it can give
abbrev pub CountsMany : StdSourceState → Taken → StdSourceState → Type 0
CountsMany old (takings.Got count) new = (new.can_give + count ≡ old.can_give) × (new.faults ≡ old.faults)
CountsMany old takings.End new = (new.can_give ≡ old.can_give) × (new.faults ≡ old.faults)
CountsMany old takings.Failed new = (new.can_give ≡ old.can_give) × (new.faults ≡ count_after old.faults)

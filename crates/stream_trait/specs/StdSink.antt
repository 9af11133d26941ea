-- What a contract sees of a sink over std.
use Rattle.std.specs.Prelude.{ℕ, List, Option}

-- a sink over std
pub record StdSinkState : Type 0 where
  -- the bytes that the writer holds, where it reports them
  pub written : Option (List ℕ)
  -- how many calls have failed
  pub faults : ℕ

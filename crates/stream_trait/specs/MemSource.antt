-- What a contract sees of a source in memory.
use Rattle.std.specs.Prelude.{ℕ, List, drop, Bool, true}
use Rattle.stream_trait.specs.Fault.{count_after}
use Rattle.stream_trait.specs.declared.source.Next.{Next}
use Rattle.stream_trait.specs.declared.source.Next.TheVariants.{Got, End, Failed}
use Rattle.stream_trait.specs.declared.source.Taken.{Taken}
use Rattle.stream_trait.specs.declared.source.Taken.TheVariants as takings

-- a source in memory
pub record MemSourceState : Type 0 where
  -- the bytes that are left
  pub left : List ℕ
  -- whether it has answered `End`
  pub ended : Bool
  -- how many calls there were before the end
  pub calls : ℕ
  -- the numbers of the calls that fail
  pub failing : List ℕ
  -- how many calls have failed
  pub faults : ℕ

-- the source after a call that answered so, before which it had not ended
abbrev pub source_after : MemSourceState → Next → MemSourceState
source_after s (Got _) = record { left = drop 1 s.left; ended = s.ended; calls = count_after s.calls; failing = s.failing; faults = s.faults }
source_after s End = record { left = s.left; ended = true; calls = count_after s.calls; failing = s.failing; faults = s.faults }
source_after s Failed = record { left = s.left; ended = s.ended; calls = count_after s.calls; failing = s.failing; faults = count_after s.faults }

-- the same after a call for several bytes
abbrev pub source_after_many : MemSourceState → Taken → MemSourceState
source_after_many s (takings.Got count) =
    record { left = drop count s.left; ended = s.ended; calls = count_after s.calls; failing = s.failing; faults = s.faults }
source_after_many s takings.End = record { left = s.left; ended = true; calls = count_after s.calls; failing = s.failing; faults = s.faults }
source_after_many s takings.Failed = record { left = s.left; ended = s.ended; calls = count_after s.calls; failing = s.failing; faults = count_after s.faults }

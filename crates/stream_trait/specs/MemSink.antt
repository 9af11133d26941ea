-- What a contract sees of a sink in memory.
use Rattle.std.specs.Prelude.{ℕ, List, ◌++◌}
use Rattle.stream_trait.specs.Fault.{count_after}

-- a sink in memory
pub record MemSinkState : Type 0 where
  -- the bytes that it has taken
  pub taken : List ℕ
  -- how many bytes it may hold
  pub room : ℕ
  -- how many calls there were
  pub calls : ℕ
  -- the numbers of the calls that fail
  pub failing : List ℕ
  -- how many calls have failed
  pub faults : ℕ

-- the sink after a call that took this text
abbrev pub sink_after_taking : MemSinkState → List ℕ → MemSinkState
sink_after_taking s text = record { taken = s.taken ++ text; room = s.room; calls = count_after s.calls; failing = s.failing; faults = s.faults }

-- the sink after a call that failed
abbrev pub sink_after_failing : MemSinkState → MemSinkState
sink_after_failing s = record { taken = s.taken; room = s.room; calls = count_after s.calls; failing = s.failing; faults = count_after s.faults }

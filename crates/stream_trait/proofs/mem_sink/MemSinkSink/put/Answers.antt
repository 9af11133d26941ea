-- A call fails by its number, or where its room is used up.
use Rattle.std.proofs.Common.{arith, refl, inl, inr, sym, ◌∙◌}
use Rattle.stream_trait.proofs.mem_sink.MemSinkSink.put.Goals as goal
use Rattle.stream_trait.proofs.mem_sink.MemSinkSink.put.Goals.{then-fails-via-then-fails, then-fails-via-else-fails+then-bytes-self}

pub returns-then-fails-clause-fails : goal.returns-then-fails-clause-fails
returns-then-fails-clause-fails c =
    elim c.then-fails.branch [
      | then-fails-via-then-fails w ↦
          ((λ _. inl (rw (← c.self.view_is, ← c.deref.ensures.value) (sym c.contains-fails.ensures.value ∙ w.if-fails.true))), (λ _. refl))
      | then-fails-via-else-fails+then-bytes-self w ↦ ((λ _. inr (rw (← c.self.view_is) (omega (arith, c.self.inside.bytes.ok.0)))), (λ _. refl))
    ]

-- The byte was written to the beginning.
use Rattle.std.proofs.Common.{◌≡◌, ◌<◌, ℕ, List, [], ◌∷◌, ◌++◌, length, take, drop, refl, ap, sym, ◌∙◌, arith}
use Rattle.std.specs.Prelude.{slice_set}
use Rattle.stream_trait.proofs.mem_source.MemSourceSource.next_bytes.Goals as goal

first-set : (list : List ℕ) (byte : ℕ) → 0 < length list → take 1 (slice_set list 0 byte) ≡ byte ∷ []
first-set [] byte room = absurd (omega (arith, room))
first-set (first ∷ list) byte room = refl

pub returns-in-Got-clause-gives : goal.returns-in-Got-clause-gives
returns-in-Got-clause-gives c =
    let gave = c.in-Got.ensures.gives in
    (gave.0 ∙ ap (λ (front : List ℕ). front ++ drop 1 c.args.self.now.left) (sym (first-set c.args.into.now c.in-Got.byte c.requires.room)), gave.1)

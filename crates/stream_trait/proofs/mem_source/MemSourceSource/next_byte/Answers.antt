-- A call that did not fail is not one of those in the list.
use Rattle.std.proofs.Common.{◌≡◌, false, sym, ◌∙◌}
use Rattle.stream_trait.specs.Fault.{is_listed}
use Rattle.stream_trait.proofs.Clash.{clash}
use Rattle.stream_trait.proofs.mem_source.MemSourceSource.next_byte.Goals as goal

pub returns-in-None-clause-fails : goal.returns-in-None-clause-fails
returns-in-None-clause-fails c =
    let unlisted : is_listed c.args.self.now.failing c.args.self.now.calls ≡ false =
    rw (← c.self.view_is, ← c.deref.ensures.value) (sym c.contains-fails.ensures.value ∙ c.if-fails.false) in
    λ _. ((λ e. cc), (λ listed. clash _ listed unlisted))

pub returns-in-Some-clause-fails : goal.returns-in-Some-clause-fails
returns-in-Some-clause-fails c =
    let unlisted : is_listed c.args.self.now.failing c.args.self.now.calls ≡ false =
    rw (← c.self.view_is, ← c.deref.ensures.value) (sym c.contains-fails.ensures.value ∙ c.if-fails.false) in
    λ _. ((λ e. cc), (λ listed. clash _ listed unlisted))

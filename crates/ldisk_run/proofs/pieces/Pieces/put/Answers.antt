-- A text that is longer than all that can be held is shown at once.
use Rattle.std.proofs.Common.{◌≡◌, ℕ, [], ◌++◌, sym, ap, subst, ◌∙◌, rules, append-nil}
use Rattle.arrayvec.specs.ArrayVec.{ArrayVec}
use Rattle.stream_trait.specs.Shows.{Shows}
use Rattle.ldisk_run.specs.Pieces.{sink_of}
use Rattle.stream_trait.proofs.ShowsLemmas.{shows_join}
use Rattle.ldisk_run.proofs.pieces.Pieces.put.Goals as goal

pub returns-then-is_err-clause-adds : goal.returns-then-is_err-clause-adds
returns-then-is_err-clause-adds g c =
    let before = c.args.self.now.held.items in
    let bytes = c.args.bytes.now in
    let sink = sink_of g.O.Sink in
    let same : c.try_extend_from_slice.new.self ≡ c.args.self.now.held = search rules in
    let none : c.try_extend_from_slice-2.new.self.items ≡ [] = search rules in
    let shown : Shows (sink c.args.self.now) before (sink c.show.new.self) =
    subst (λ (held : ArrayVec ℕ). Shows (sink c.args.self.now) held.items (sink c.show.new.self)) same c.show.ensures.shown in
    (before ++ bytes, shows_join _ _ _ _ _ shown c.put.ensures.shown, sym (append-nil (before ++ bytes)) ∙ ap (λ l. (before ++ bytes) ++ l) (sym none))

use Rattle.std.proofs.Common.{◌≡◌, ◌∷◌, [], drop, append_assoc, append-nil, sym, ◌∙◌, arith}
use Rattle.lilo_model.specs.ConfTokens.{unescaped}
use Rattle.conf_text.proofs.MeaningLemmas.{unescaped_step, unescaped_last, unescaped_none}
use Rattle.conf_text.proofs.meaning.unescaped.Goals as goal
use Rattle.conf_text.proofs.meaning.unescaped.Goals.{then-escaped+in_ok-push, else-escaped}

pub loop-byte-preserved : goal.loop-byte-preserved
loop-byte-preserved c =
    let step = unescaped_step c.loop-byte.escaped c.args.bytes.now c.loop-byte.byte-index (omega arith) in
    rw (c.is_escape-escaped.ensures, c.in_ok-push_meant.ensures, append_assoc, ← step) c.loop-byte.invariant

pub returns : goal.returns
returns c =
    elim c.if-escaped.branch [
      | then-escaped+in_ok-push w ↦
          let last : unescaped c.loop-byte.escaped (drop c.loop-byte.byte-index c.args.bytes.now) ≡ 92 ∷ [] =
          rw w.if-escaped.true (unescaped_last c.args.bytes.now c.loop-byte.byte-index (omega arith)) in
          let items = w.in_ok-push.ensures.items in
          rw (c.from_vec.ensures, w.meant-is, items, ← last) (sym c.loop-byte.invariant)
      | else-escaped w ↦
          let none : unescaped c.loop-byte.escaped (drop c.loop-byte.byte-index c.args.bytes.now) ≡ [] =
          rw w.if-escaped.false (unescaped_none c.args.bytes.now c.loop-byte.byte-index (omega arith)) in
          rw (c.from_vec.ensures, w.meant-is) (sym (append-nil c.loop-byte.meant.items) ∙ rw (← none) (sym c.loop-byte.invariant))
    ]

use Rattle.std.proofs.Common.{◌≡◌, true, false, get_or, arith, sym, ◌∙◌}
use Rattle.lilo_model.specs.ConfTokens.{ends_quoted}
use Rattle.conf_text.proofs.ScanLemmas.{quoted_step, quoted_end, quoted_length-all}
use Rattle.conf_text.proofs.scan.quoted_length.Goals as goal

pub returns-then-ends_quoted-clause-value : goal.returns-then-ends_quoted-clause-value
returns-then-ends_quoted-clause-value c =
    let end : ends_quoted c.loop-index.escaped (get_or c.args.bytes.now c.loop-index.index 0) ≡ true = cc in
    sym (c.loop-index.invariant ∙ quoted_end c.loop-index.escaped c.args.bytes.now c.loop-index.index (omega arith) end)

pub loop-index-preserved : goal.loop-index-preserved
loop-index-preserved c =
    let inside : ends_quoted c.loop-index.escaped (get_or c.args.bytes.now c.loop-index.index 0) ≡ false = cc in
    let step = quoted_step c.loop-index.escaped c.args.bytes.now c.loop-index.index (omega arith) inside in
    rw c.is_escape-escaped.ensures (c.loop-index.invariant ∙ step)

pub returns-clause-value : goal.returns-clause-value
returns-clause-value c =
    sym (c.loop-index.invariant ∙ quoted_length-all c.loop-index.escaped c.args.bytes.now c.loop-index.index (omega arith))

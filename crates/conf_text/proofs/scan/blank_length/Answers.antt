use Rattle.std.proofs.Common.{◌≡◌, true, false, get_or, arith, sym, ◌∙◌}
use Rattle.lilo_model.specs.ConfTokens.{is_blank}
use Rattle.conf_text.proofs.ScanLemmas.{blank_step, blank_end, blank_length-all}
use Rattle.conf_text.proofs.scan.blank_length.Goals as goal

pub returns-then-not-is_blank-clause-value : goal.returns-then-not-is_blank-clause-value
returns-then-not-is_blank-clause-value c =
    let token : is_blank c.loop-index.comment (get_or c.args.bytes.now c.loop-index.index 0) ≡ false = cc in
    sym (c.loop-index.invariant ∙ blank_end c.loop-index.comment c.args.bytes.now c.loop-index.index (omega arith) token)

pub loop-index-preserved : goal.loop-index-preserved
loop-index-preserved c =
    let blank : is_blank c.loop-index.comment (get_or c.args.bytes.now c.loop-index.index 0) ≡ true = cc in
    let step = blank_step c.loop-index.comment c.args.bytes.now c.loop-index.index (omega arith) blank in
    rw c.in_comment-comment.ensures (c.loop-index.invariant ∙ step)

pub returns-clause-value : goal.returns-clause-value
returns-clause-value c =
    sym (c.loop-index.invariant ∙ blank_length-all c.loop-index.comment c.args.bytes.now c.loop-index.index (omega arith))

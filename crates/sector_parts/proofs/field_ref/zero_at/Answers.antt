use Rattle.std.proofs.Common.{◌==◌, length, sym, arith, eq-eqb}
use Rattle.std.proofs.lemmas.Bool.{ne_eqb}
use Rattle.std.proofs.lemmas.List.Sums.{position_or_len_is}
use Rattle.sector_parts.proofs.field_ref.zero_at.Goals as goal

pub returns-then-byte-eq0 : goal.returns-then-byte-eq0
returns-then-byte-eq0 c =
    sym (position_or_len_is (λ byte. byte == 0) c.args.field.now c.loop-at.at 0 (omega arith)
    (λ k h. ne_eqb _ _ (c.loop-at.invariant k h)) (λ _. eq-eqb _ _ c.if-byte-eq0.true))

pub returns : goal.returns
returns c =
    sym (position_or_len_is (λ byte. byte == 0) c.args.field.now (length c.args.field.now) 0 (omega arith)
    (λ k h. ne_eqb _ _ (c.loop-at.invariant k (omega arith))) (λ h. absurd (omega arith)))

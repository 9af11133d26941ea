use Rattle.std.proofs.Common.{rules, ◌∙◌, subst, take_all, ◌≤◌, length, arith}
use Rattle.std.specs.Io.KnownBytes.{Consumes}
use borrow.Rule.Slice.PartMut.{same_len_mid}
use Rattle.std.proofs.KnownBytes.{Consumes-trans}
use Rattle.file_disks.proofs.Streams.{take-put_mid_more}
use Rattle.file_disks.proofs.ahead.read_whole.Goals as goal

pub loop-at-preserved : goal.loop-at-preserved
loop-at-preserved g c =
    let within : c.loop-at.at ≤ length c.loop-at.into = omega arith in
    record {
      whole = same_len_mid _ _ _ _ c.read.auto.buf ∙ c.loop-at.invariant.whole;
      within = search rules;
      filled = subst (Consumes _ _) (take-put_mid_more c.loop-at.at _ c.in_ok-count.count c.loop-at.into c.read.new.buf within c.in_ok-count.ensures.bound.0) (Consumes-trans _ _ _ _ _ c.loop-at.invariant.filled c.in_ok-count.ensures.bytes.0);
    }

pub returns : goal.returns
returns g c = subst (Consumes _ _) (take_all c.loop-at.at c.loop-at.into (omega arith)) c.loop-at.invariant.filled

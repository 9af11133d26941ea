use Rattle.std.proofs.Common.{arith}
use Rattle.minix_reclaim.proofs.BitsLemmas.{skip_byte}
use Rattle.minix_reclaim.proofs.bits.next_marked.Goals as goal

pub loop-at-preserved-then-bytes-at-eq0 : goal.loop-at-preserved-then-bytes-at-eq0
loop-at-preserved-then-bytes-at-eq0 c = record {
  from = omega arith;
  few = omega arith;
  none = skip_byte c.args.bytes.now c.args.from c.loop-at.at c.if-bytes-at-eq0.true c.loop-at.invariant.none;
}

use Rattle.std.proofs.Common.{arith}
use Rattle.minix_steps.proofs.ScanLemmas.{skip_byte}
use Rattle.minix_steps.proofs.scan.first_free.Goals as goal

pub loop-bit-preserved-then-bytes-bit : goal.loop-bit-preserved-then-bytes-bit
loop-bit-preserved-then-bytes-bit c = record {
  from = omega arith;
  few = omega arith;
  none = skip_byte c.args.bytes.now c.args.base c.args.at c.loop-bit.bit c.args.avoid.now.numbers c.if-bytes-bit.true c.loop-bit.invariant.none;
}

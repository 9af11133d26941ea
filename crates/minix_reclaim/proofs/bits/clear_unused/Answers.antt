use Rattle.std.proofs.Common.{◌≡◌, true, false, arith, rules}
use Rattle.minix_reclaim.specs.Bits.{used_bits}
use Rattle.minix_reclaim.proofs.BitsLemmas.{clears_none, clears_used, clears_one}
use Rattle.minix_reclaim.proofs.bits.clear_unused.Goals as goal

pub loop-bit-preserved-then-not-is_used : goal.loop-bit-preserved-then-not-is_used
loop-bit-preserved-then-not-is_used c =
    let here = c.in-Some.ensures in
    let used = used_bits c.args.bitmap.now.of c.args.found.now c.args.base in
    let none : used c.in-Some.bit ≡ false = search rules in
    let so = clears_none used c.args.from c.args.bytes.now c.loop-bit.bytes c.loop-bit.at c.loop-bit.freed c.loop-bit.invariant.from c.loop-bit.invariant.clears
    c.in-Some.bit here.from_on (omega (arith, here.below)) here.none_before in
    record {
      from = omega (arith, here.from_on);
      to = omega (arith, here.below);
      few = omega (arith, here.from_on);
      long = search rules;
      clears = rw c.put_bit.ensures (clears_one used c.args.from c.args.bytes.now c.loop-bit.bytes c.in-Some.bit c.loop-bit.freed (omega (arith, here.from_on)) (omega (arith, here.below))
          so c.loop-bit.invariant.long here.passes none);
    }

pub loop-bit-preserved : goal.loop-bit-preserved
loop-bit-preserved c =
    let here = c.in-Some.ensures in
    let used = used_bits c.args.bitmap.now.of c.args.found.now c.args.base in
    let has : used c.in-Some.bit ≡ true = search rules in
    let so = clears_none used c.args.from c.args.bytes.now c.loop-bit.bytes c.loop-bit.at c.loop-bit.freed c.loop-bit.invariant.from c.loop-bit.invariant.clears
    c.in-Some.bit here.from_on (omega (arith, here.below)) here.none_before in
    record {
      from = omega (arith, here.from_on);
      to = omega (arith, here.below);
      few = omega (arith, here.from_on);
      long = c.loop-bit.invariant.long;
      clears = clears_used used c.args.from c.args.bytes.now c.loop-bit.bytes c.in-Some.bit c.loop-bit.freed (omega (arith, here.from_on)) (omega (arith, here.below)) so has;
    }

pub returns-clause-clears : goal.returns-clause-clears
returns-clause-clears c =
    clears_none (used_bits c.args.bitmap.now.of c.args.found.now c.args.base) c.args.from c.args.bytes.now c.loop-bit.bytes c.loop-bit.at c.loop-bit.freed c.loop-bit.invariant.from
    c.loop-bit.invariant.clears c.args.to c.loop-bit.invariant.to c.requires.bits c.in_default.ensures

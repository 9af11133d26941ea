use Rattle.std.proofs.Common.{◌<◌, ◌∙◌, length, arith}
use Rattle.minix_steps.specs.Free.{is_free_in}
use Rattle.minix_steps.proofs.RangeLemmas.{took_next, took_last, took_so_many}
use Rattle.minix_steps.proofs.scan.take_free.Goals as goal

pub returns-in-None-clause-taken : goal.returns-in-None-clause-taken
returns-in-None-clause-taken c =
    took_last (is_free_in c.args.bytes.now c.args.base c.args.avoid.now.numbers) c.args.need c.args.at c.loop-base.at c.args.end c.args.found.now.items c.loop-base.found.items c.loop-base.invariant.from c.loop-base.invariant.taken c.loop-base.invariant.order c.in-None.ensures

pub loop-base-preserved : goal.loop-base-preserved
loop-base-preserved c =
    let few : length c.loop-base.found.items < c.args.need = omega arith in
    record {
      from = omega (arith, c.in-Some.ensures.from_on);
      order = omega (arith, c.in-Some.ensures.below);
      taken = c.in_ok-push-in-Some.ensures.items ∙ took_next (is_free_in c.args.bytes.now c.args.base c.args.avoid.now.numbers) c.args.need c.args.at c.loop-base.at c.args.end c.args.found.now.items c.loop-base.found.items c.loop-base.invariant.from c.loop-base.invariant.taken c.in-Some.number few c.in-Some.ensures;
      few = omega (arith, c.in_ok-push-in-Some.ensures.len);
    }

pub returns-clause-taken : goal.returns-clause-taken
returns-clause-taken c =
    took_so_many (is_free_in c.args.bytes.now c.args.base c.args.avoid.now.numbers) c.args.need c.args.at c.loop-base.at c.args.end c.args.found.now.items c.loop-base.found.items c.loop-base.invariant.from c.loop-base.invariant.taken c.loop-base.invariant.order (omega arith)

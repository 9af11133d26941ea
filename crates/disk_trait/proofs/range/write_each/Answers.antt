use Rattle.std.proofs.Common.{rules, refl, ◌∙◌, arith}
use Rattle.disk_trait.specs.declared.disks.DiskFault.TheVariants.{Failed}
use Rattle.disk_trait.proofs.RangeLemmas.{written_none, written_more}
use Rattle.disk_trait.proofs.CallLemmas.{range_none, range_more}
use Rattle.disk_trait.proofs.range.write_each.Goals as goal

pub loop-i-init : goal.loop-i-init
loop-i-init g c = record {
  writes = range_none g.D.Disks _ _ _ _ _ Failed refl record { later = omega arith; size = refl; count = refl; geometry = refl };
  written = λ told. written_none _ _ _ _;
  same_begun = refl;
}

pub loop-i-preserved : goal.loop-i-preserved
loop-i-preserved g c = record {
  writes = range_more g.D.Disks _ _ _ _ _ _ c.loop-i.i _ _ _ _ c.loop-i-test.true refl c.loop-i.invariant.writes c.write.ensures.writes (λ told. tt);
  written = λ told. written_more _ _ _ c.loop-i.i c.loop-i-test.true _ refl _ _ _ (c.loop-i.invariant.written told)
      (c.in_ok-write.ensures.writes.written (c.loop-i.invariant.writes.goes_on.told told));
  same_begun = c.write.ensures.begun ∙ c.loop-i.invariant.same_begun;
}

pub returns-in_err-write-clause-writes : goal.returns-in_err-write-clause-writes
returns-in_err-write-clause-writes g c =
    range_more g.D.Disks _ _ _ _ _ _ c.loop-i.i _ _ _ _ c.loop-i-test.true refl c.loop-i.invariant.writes c.write.ensures.writes (λ told. search rules)

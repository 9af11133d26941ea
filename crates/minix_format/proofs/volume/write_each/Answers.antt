use Rattle.std.proofs.Common.{rules, ◌+◌, ◌<◌, ◌≡◌, length, refl, ◌∙◌, arith}
use Rattle.disk_trait.specs.declared.disks.DiskFault.TheVariants.{Failed}
use Rattle.disk_trait.proofs.RangeLemmas.{written_none, written_more}
use Rattle.disk_trait.proofs.CallLemmas.{range_none, range_more}
use Rattle.minix_layout.specs.View.{super_view}
use Rattle.ldisk_model.specs.MinixFormat.{formatted_count, formatted_sectors}
use Rattle.minix_format.proofs.WriteLemmas.{sectors-count, sectors-at, all_written}
use Rattle.minix_format.proofs.volume.write_each.Goals as goal

pub loop-index-init : goal.loop-index-init
loop-index-init g c = record {
  writes = range_none g.D.Disks _ _ _ _ _ Failed refl record { later = omega arith; size = refl; count = refl; geometry = refl };
  written = λ told. written_none _ _ _ _;
}

pub returns-in_err-write-clause-writes : goal.returns-in_err-write-clause-writes
returns-in_err-write-clause-writes g c =
    let below : c.loop-index.index < formatted_count (super_view c.args.layout.now) = omega (arith, c.loop-index-test.true, c.where_zone-count.ensures) in
    let lt : c.loop-index.index < length (formatted_sectors (super_view c.args.layout.now) c.args.time) = omega (arith, below, sectors-count (super_view c.args.layout.now) c.args.time) in
    let is = c.sector_at.ensures ∙ sectors-at (super_view c.args.layout.now) c.args.time c.loop-index.index below in
    range_more g.D.Disks _ _ _ _ _ _ c.loop-index.index _ _ _ _ lt is c.loop-index.invariant.writes c.write.ensures.writes (λ told. search rules)

pub loop-index-preserved : goal.loop-index-preserved
loop-index-preserved g c =
    let below : c.loop-index.index < formatted_count (super_view c.args.layout.now) = omega (arith, c.loop-index-test.true, c.where_zone-count.ensures) in
    let lt : c.loop-index.index < length (formatted_sectors (super_view c.args.layout.now) c.args.time) = omega (arith, below, sectors-count (super_view c.args.layout.now) c.args.time) in
    let is = c.sector_at.ensures ∙ sectors-at (super_view c.args.layout.now) c.args.time c.loop-index.index below in
    record {
      writes = range_more g.D.Disks _ _ _ _ _ _ c.loop-index.index _ _ _ _ lt is c.loop-index.invariant.writes c.write.ensures.writes (λ told. tt);
      written = λ told. written_more _ _ _ c.loop-index.index lt _ is _ _ _ (c.loop-index.invariant.written told)
          (c.in_ok-write.ensures.writes.written (c.loop-index.invariant.writes.goes_on.told told));
    }

pub returns-clause-writes : goal.returns-clause-writes
returns-clause-writes g c =
    let done : c.loop-index.index ≡ formatted_count (super_view c.args.layout.now) = omega (arith, c.loop-index-test.false, c.loop-index.auto.index-end, c.where_zone-count.ensures) in
    record {
      written = λ told. all_written c.args.span.disk (c.args.span.start + 2) (super_view c.args.layout.now) c.args.time c.loop-index.index _ _ done (c.loop-index.invariant.written told);
      made = c.loop-index.invariant.writes.made;
      left = c.loop-index.invariant.writes.left;
      any_moment = c.loop-index.invariant.writes.any_moment;
      others = c.loop-index.invariant.writes.others;
      goes_on = c.loop-index.invariant.writes.goes_on;
    }

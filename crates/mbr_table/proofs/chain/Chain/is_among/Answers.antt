-- The chain is followed table by table.
use Rattle.std.proofs.Common.{◌≡◌, ◌-◌, ◌+◌, arith}
use Rattle.std.specs.Prelude.{Some, None}
use Rattle.lilo_model.specs.Partitions.{linked_sector}
use Rattle.mbr_table.proofs.ToldLemmas.{told_before, same_twice}
use Rattle.mbr_table.proofs.ChainLemmas.{told_here, told_later, told_nowhere}
use Rattle.mbr_table.proofs.chain.Chain.is_among.Goals as goal

pub returns-then-at-sector-clause-found : goal.returns-then-at-sector-clause-found
returns-then-at-sector-clause-found g c =
    let disk = c.args.self.disk in
    told_here (g.D.Disks.past c.args.disks.now) disk.disk disk.size c.args.self.outer c.args.tables c.loop.counter c.loop.at
    c.args.sector c.loop-test.true c.if-at-sector.true c.loop.invariant.found

pub returns-in-None-clause-found : goal.returns-in-None-clause-found
returns-in-None-clause-found g c =
    let disk = c.args.self.disk in
    let past = g.D.Disks.past c.args.disks.now in
    let read =
    told_before past (g.D.Disks.past c.loop.disks) (λ now. c.in_ok-next.field-0 ≡ linked_sector (now disk.disk) disk.size c.args.self.outer c.loop.at)
    c.loop.invariant.same.same_past c.in_ok-next.ensures.linked in
    told_nowhere past disk.disk disk.size c.args.self.outer c.args.tables (c.args.tables - (c.loop.counter + 1)) c.args.sector
    (told_later past disk.disk disk.size c.args.self.outer c.args.tables c.loop.counter c.loop.at c.args.sector
    c.in_ok-next.field-0 None c.loop-test.true c.if-at-sector.false c.in-None.is c.loop.invariant.found read)

pub loop-preserved : goal.loop-preserved
loop-preserved g c =
    let disk = c.args.self.disk in
    let past = g.D.Disks.past c.args.disks.now in
    let read =
    told_before past (g.D.Disks.past c.loop.disks) (λ now. c.in_ok-next.field-0 ≡ linked_sector (now disk.disk) disk.size c.args.self.outer c.loop.at)
    c.loop.invariant.same.same_past c.in_ok-next.ensures.linked in
    record {
      found =
          told_later past disk.disk disk.size c.args.self.outer c.args.tables c.loop.counter c.loop.at c.args.sector
          c.in_ok-next.field-0 (Some c.in-Some.next) c.loop-test.true c.if-at-sector.false c.in-Some.is c.loop.invariant.found read;
      same =
          same_twice g.D.Disks.past g.D.Disks.size_of g.D.Disks.count_of g.D.Disks.geometry_of _ _ _ c.loop.invariant.same
          c.in_ok-next.ensures.same;
      later = omega (arith, c.loop.invariant.later, c.in_ok-next.ensures.later);
    }

use Rattle.std.proofs.Common.{◌≡◌, take, ap, arith, rules}
use Rattle.sector_address.specs.Machine.{machine_of}
use Rattle.section_loader.specs.File.{rest_in}
use Rattle.section_loader.proofs.RestLemmas.{ended_rest}
use Rattle.stream_trait.specs.Shows.{sink_of}
use Rattle.disk_trait.proofs.ToldLemmas.{told_both}
use Rattle.prompt_loop.proofs.ShowLemmas.{shown_more, shown_whole}
use Rattle.prompt_loop.proofs.message.show_bytes.Goals as goal

pub returns-then-size-eq0-clause-shown : goal.returns-then-size-eq0-clause-shown
returns-then-size-eq0-clause-shown g c =
    let same = c.loop-size.invariant.same in
    let machine = machine_of g.D.Disks c.args.disks.now in
    let size = c.in_ok-size.size in
    let file = c.next.new.self in
    let zero : size ≡ 0 = omega (arith, c.if-size-eq0.true) in
    let none : file.left ≡ 0 = omega (arith, zero, c.in_ok-size.ensures.size, c.in_ok-size.ensures.left) in
    let read = rw (same.same_past, same.same_size, same.same_geometry) at c.in_ok-size.ensures.bytes in
    told_both (g.D.Disks.past c.args.disks.now) _ _ _
    (λ now far yields.
    shown_whole (rest_in now machine c.args.file.now) (rest_in now machine c.loop-size.file) (rest_in now machine file) (take size c.next.new.into)
    (sink_of g.O.Sink c.args.out.now) (sink_of g.O.Sink c.loop-size.out) far yields (ap (λ n. take n c.next.new.into) zero)
    (ended_rest now machine file none c.in_ok-size.ensures.counted))
    c.loop-size.invariant.shown read

pub loop-size-preserved : goal.loop-size-preserved
loop-size-preserved g c =
    let same = c.loop-size.invariant.same in
    let machine = machine_of g.D.Disks c.args.disks.now in
    let size = c.in_ok-size.size in
    let read = rw (same.same_past, same.same_size, same.same_geometry) at c.in_ok-size.ensures.bytes in
    record {
      shown =
          told_both (g.D.Disks.past c.args.disks.now) _ _ _
          (λ now far yields.
          shown_more (rest_in now machine c.args.file.now) (rest_in now machine c.loop-size.file) (rest_in now machine c.next.new.self) (take size c.next.new.into)
          (sink_of g.O.Sink c.args.out.now) (sink_of g.O.Sink c.loop-size.out) (sink_of g.O.Sink c.put.new.self) far yields c.put.ensures.shown)
          c.loop-size.invariant.shown read;
      counted = search rules;
      same = search rules;
      later = search rules;
      sink = search rules;
      same_reference = search rules;
    }

-- Each sector goes after those before it.
use Rattle.std.proofs.Common.{◌≡◌, take, length, arith, rules}
use Rattle.std.proofs.lemmas.List.{length-take-le}
use Rattle.sector_address.specs.Machine.{machine_of}
use Rattle.bios_model.specs.Memory.{memory_of}
use Rattle.section_loader.specs.File.{rest_in}
use Rattle.section_loader.proofs.LoadLemmas.{load_more, cut_less, cut_more}
use Rattle.disk_trait.proofs.ToldLemmas.{told_both}
use Rattle.section_loader.proofs.load.load_bytes.Goals as goal

pub loop-done-preserved : goal.loop-done-preserved
loop-done-preserved g c =
    let same = c.loop-done.invariant.same in
    let read = rw (same.same_past, same.same_size, same.same_geometry) at c.in_ok-read.ensures.bytes in
    let machine = machine_of g.D.Disks c.args.disks.now in
    let size = c.in_ok-read.read in
    let long : length (take size c.next.new.into) ≡ size = length-take-le size c.next.new.into (omega (arith, c.in_ok-read.ensures.size, c.next.array_long)) in
    record {
      loaded =
          told_both (g.D.Disks.past c.args.disks.now) _ _ _
          (λ now loaded yields.
          load_more c.loop-done.done size c.args.at (rest_in now machine c.args.file.now) (rest_in now machine c.loop-done.file) (rest_in now machine c.next.new.self)
          (memory_of c.args.ram.now) (memory_of c.loop-done.ram) (memory_of c.place.new.ram) (take size c.next.new.into) loaded yields long c.place.ensures.memory)
          c.loop-done.invariant.loaded read;
      done = cut_less c.args.size c.loop-done.done c.loop-done.file.left size c.loop-done.invariant.cut c.loop-done-test.true c.in_ok-read.ensures.size;
      cut = cut_more c.args.size c.loop-done.done c.loop-done.file.left size c.next.new.self.left c.loop-done.invariant.cut c.loop-done-test.true c.in_ok-read.ensures.size c.in_ok-read.ensures.left;
      left = omega (arith, c.in_ok-read.ensures.size, c.in_ok-read.ensures.left, c.loop-done.invariant.left);
      counted = search rules;
      memory = search rules;
      same = search rules;
      later = search rules;
    }

-- What was read so far was shown.
use Rattle.std.proofs.Common.{◌≡◌, ◌≤◌}
use Rattle.disk_trait.specs.Past.{Told, SameDisks}
use Rattle.sector_address.specs.Machine.{machine_of}
use Rattle.section_loader.specs.File.{IsCounted, rest_in}
use Rattle.stream_trait.specs.Shows.{HasFailed, sink_of}
use Rattle.prompt_loop.proofs.ShowLemmas.{IsShown}
use Rattle.prompt_loop.proofs.message.show_bytes.Given as goal

abbrev pub invariant-loop-size : goal.invariant-loop-size
invariant-loop-size g l =
    let disks = g.D.Disks in
    let machine = machine_of disks l.fn.disks in
    record {
      shown : Told (disks.past l.fn.disks) (λ now. IsShown (rest_in now machine l.fn.file) (rest_in now machine l.file) (sink_of g.O.Sink l.fn.out) (sink_of g.O.Sink l.out));
      counted : IsCounted l.file;
      same : SameDisks disks.past disks.size_of disks.count_of disks.geometry_of l.fn.disks l.disks;
      later : disks.faults l.fn.disks ≤ disks.faults l.disks;
      sink : HasFailed (sink_of g.O.Sink l.fn.out) (sink_of g.O.Sink l.out);
      same_reference : l.out.out.ghost_name ≡ l.fn.out.out.ghost_name;
    }

abbrev pub decreases-loop-size : goal.decreases-loop-size
decreases-loop-size g l = l.file.left

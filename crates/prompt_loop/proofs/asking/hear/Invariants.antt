-- What was shown so far, and which keys were taken.
use Rattle.std.proofs.Common.{◌≡◌, ◌≤◌}
use Rattle.disk_trait.specs.Past.{Told, SameDisks}
use Rattle.sector_address.specs.Machine.{machine_of}
use Rattle.prompt_core.specs.Run.{driven}
use Rattle.stream_trait.specs.Shows.{HasFailed, sink_of}
use Rattle.prompt_loop.specs.Message.{message_rest}
use Rattle.prompt_loop.specs.Tale.{tale_of}
use Rattle.prompt_loop.proofs.AskLemmas.{Goes}
use Rattle.prompt_loop.proofs.asking.hear.Given as goal

abbrev pub invariant-loop-bios : goal.invariant-loop-bios
invariant-loop-bios g l =
    let disks = g.D.Disks in
    let keys = g.I.Source in
    let machine = machine_of disks l.fn.bios.disks.now in
    let setup = l.fn.prompt.setup in
    record {
      goes :
          Told (disks.past l.fn.bios.disks.now)
          (λ now. Goes keys (message_rest now machine l.message) (λ heard. tale_of (message_rest now machine l.message) (driven setup heard l.fn.prompt.state)) setup l.prompt.state l.fn.bios.keys.now l.bios.keys.now (sink_of g.O.Sink l.fn.out) (sink_of g.O.Sink l.out));
      setup : l.prompt.setup ≡ setup;
      same : SameDisks disks.past disks.size_of disks.count_of disks.geometry_of l.fn.bios.disks.now l.bios.disks.now;
      later : disks.faults l.fn.bios.disks.now ≤ disks.faults l.bios.disks.now;
      keys_later : keys.faults l.fn.bios.keys.now ≤ keys.faults l.bios.keys.now;
      sink : HasFailed (sink_of g.O.Sink l.fn.out) (sink_of g.O.Sink l.out);
      same_disks_reference : l.bios.disks.ghost_name ≡ l.fn.bios.disks.ghost_name;
      same_keys_reference : l.bios.keys.ghost_name ≡ l.fn.bios.keys.ghost_name;
      same_reference : l.out.out.ghost_name ≡ l.fn.out.out.ghost_name;
    }

abbrev pub decreases-loop-bios : goal.decreases-loop-bios
decreases-loop-bios g l = g.I.Source.can_give l.bios.keys.now

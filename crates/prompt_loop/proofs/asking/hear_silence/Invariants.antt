-- What was shown so far.
use Rattle.std.proofs.Common.{◌≡◌, ◌≤◌, []}
use Rattle.disk_trait.specs.Past.{Told, SameDisks}
use Rattle.sector_address.specs.Machine.{machine_of}
use Rattle.prompt_core.specs.Run.{driven}
use Rattle.stream_trait.specs.Shows.{HasFailed, sink_of}
use Rattle.prompt_loop.specs.Message.{message_rest}
use Rattle.prompt_loop.specs.Tale.{tale_of}
use Rattle.prompt_loop.proofs.AskLemmas.{GoesSilent}
use Rattle.prompt_loop.proofs.SilenceLemmas.{silences}
use Rattle.prompt_loop.proofs.asking.hear_silence.Given as goal

abbrev pub invariant-loop-disks : goal.invariant-loop-disks
invariant-loop-disks g l =
    let disks = g.D.Disks in
    let machine = machine_of disks l.fn.disks in
    let setup = l.fn.prompt.setup in
    record {
      goes :
          Told (disks.past l.fn.disks)
          (λ now. GoesSilent (message_rest now machine l.message) (tale_of (message_rest now machine l.message) (driven setup [] l.fn.prompt.state)) setup l.prompt.state (sink_of g.O.Sink l.fn.out) (sink_of g.O.Sink l.out));
      setup : l.prompt.setup ≡ setup;
      same : SameDisks disks.past disks.size_of disks.count_of disks.geometry_of l.fn.disks l.disks;
      later : disks.faults l.fn.disks ≤ disks.faults l.disks;
      sink : HasFailed (sink_of g.O.Sink l.fn.out) (sink_of g.O.Sink l.out);
      same_reference : l.out.out.ghost_name ≡ l.fn.out.out.ghost_name;
    }

abbrev pub decreases-loop-disks : goal.decreases-loop-disks
decreases-loop-disks g l = silences l.prompt.state

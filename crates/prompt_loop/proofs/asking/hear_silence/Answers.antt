use Rattle.std.proofs.Common.{◌≡◌, [], false, rules}
use Rattle.sector_address.specs.Machine.{machine_of}
use Rattle.prompt_core.specs.Run.{is_done, driven}
use Rattle.stream_trait.specs.Shows.{sink_of}
use Rattle.disk_trait.proofs.ToldLemmas.{told_both}
use Rattle.prompt_loop.specs.Message.{message_rest}
use Rattle.prompt_loop.specs.Tale.{tale_of}
use Rattle.prompt_loop.proofs.AskLemmas.{silent_on, silent_halted}
use Rattle.prompt_loop.proofs.SilenceLemmas.{silences_fall}
use Rattle.prompt_loop.proofs.asking.hear_silence.Goals as goal

pub returns-in-Err-clause-heard : goal.returns-in-Err-clause-heard
returns-in-Err-clause-heard g c =
    let machine = machine_of g.D.Disks c.args.disks.now in
    let same = c.loop-disks.invariant.same in
    let setup = c.args.prompt.now.setup in
    let state = c.loop-disks.prompt.state in
    let waits : is_done state ≡ false = search rules in
    let says = rw (same.same_past, same.same_size, same.same_geometry, c.loop-disks.invariant.setup) at c.in-Err.ensures.says in
    let next = rw c.loop-disks.invariant.setup at c.in-Err.ensures.state in
    told_both (g.D.Disks.past c.args.disks.now) _ _ _
    (λ now far said. rw next
    (silent_halted (message_rest now machine c.args.message.now) (tale_of (message_rest now machine c.args.message.now) (driven setup [] c.args.prompt.now.state)) setup state c.in-Err.halt
    (sink_of g.O.Sink c.args.out.now) (sink_of g.O.Sink c.loop-disks.out) (sink_of g.O.Sink c.feed_key.new.out) far waits said))
    c.loop-disks.invariant.goes says

pub loop-disks-smaller : goal.loop-disks-smaller
loop-disks-smaller g c =
    let waits : is_done c.loop-disks.prompt.state ≡ false = search rules in
    rw c.in_default.ensures.state (silences_fall c.loop-disks.prompt.setup c.loop-disks.prompt.state waits)

pub loop-disks-preserved : goal.loop-disks-preserved
loop-disks-preserved g c =
    let machine = machine_of g.D.Disks c.args.disks.now in
    let same = c.loop-disks.invariant.same in
    let setup = c.args.prompt.now.setup in
    let state = c.loop-disks.prompt.state in
    let waits : is_done state ≡ false = search rules in
    let says = rw (same.same_past, same.same_size, same.same_geometry, c.loop-disks.invariant.setup) at c.in_default.ensures.says in
    let next = rw c.loop-disks.invariant.setup at c.in_default.ensures.state in
    record {
      goes =
          told_both (g.D.Disks.past c.args.disks.now) _ _ _
          (λ now far said. rw next
          (silent_on (message_rest now machine c.args.message.now) (tale_of (message_rest now machine c.args.message.now) (driven setup [] c.args.prompt.now.state)) setup state
          (sink_of g.O.Sink c.args.out.now) (sink_of g.O.Sink c.loop-disks.out) (sink_of g.O.Sink c.feed_key.new.out) far waits said))
          c.loop-disks.invariant.goes says;
      setup = search rules;
      same = search rules;
      later = search rules;
      sink = search rules;
      same_reference = search rules;
    }

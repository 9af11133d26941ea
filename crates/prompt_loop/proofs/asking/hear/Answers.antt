use Rattle.std.proofs.Common.{◌≡◌, ap, true, false, Ok, Err, arith, refl, rules}
use Rattle.std.specs.Prelude.{IsTrue}
use Rattle.sector_address.specs.Machine.{machine_of}
use Rattle.prompt_core.specs.Run.{is_done, driven}
use Rattle.stream_trait.specs.Shows.{sink_of}
use Rattle.disk_trait.proofs.ToldLemmas.{told_all, told_map, told_both}
use Rattle.prompt_loop.specs.Message.{message_rest}
use Rattle.prompt_loop.specs.Tale.{tale_of}
use Rattle.prompt_loop.proofs.AskLemmas.{goes_begin, goes_on, comes_done, comes_unheard, comes_halted, comes_silent, lost_counted}
use Rattle.prompt_loop.proofs.asking.hear.Goals as goal

pub loop-bios-init : goal.loop-bios-init
loop-bios-init g c =
    let machine = machine_of g.D.Disks c.args.bios.now.disks.now in
    record {
      goes =
          told_all (g.D.Disks.past c.args.bios.now.disks.now) _
          (λ now. goes_begin g.I.Source (message_rest now machine c.args.message.now) c.args.prompt.now.setup c.args.prompt.now.state c.args.bios.now.keys.now (sink_of g.O.Sink c.args.out.now));
      setup = refl;
      same = search rules;
      later = omega arith;
      keys_later = omega arith;
      sink = search rules;
      same_disks_reference = refl;
      same_keys_reference = refl;
      same_reference = refl;
    }

pub returns-clause-heard : goal.returns-clause-heard
returns-clause-heard g c =
    let machine = machine_of g.D.Disks c.args.bios.now.disks.now in
    let setup = c.args.prompt.now.setup in
    let done : is_done c.loop-bios.prompt.state ≡ true = search rules in
    told_map (g.D.Disks.past c.args.bios.now.disks.now) _ _
    (λ now far.
    comes_done g.I.Source (message_rest now machine c.args.message.now) (λ heard. tale_of (message_rest now machine c.args.message.now) (driven setup heard c.args.prompt.now.state)) setup c.loop-bios.prompt.state
    c.args.bios.now.keys.now c.loop-bios.bios.keys.now (sink_of g.O.Sink c.args.out.now) (sink_of g.O.Sink c.loop-bios.out) far done)
    c.loop-bios.invariant.goes

pub returns-in-Silence-clause-heard : goal.returns-in-Silence-clause-heard
returns-in-Silence-clause-heard g c =
    let machine = machine_of g.D.Disks c.args.bios.now.disks.now in
    let setup = c.args.prompt.now.setup in
    let same = c.loop-bios.invariant.same in
    let gives = rw c.in-Silence.is at c.in-Ok.ensures.key in
    let ended : IsTrue (g.I.Source.ended c.key.new.self.keys.now) = c.in-Ok.ensures.end.1 (ap (λ key. Ok key) c.in-Silence.is) in
    let comes = rw (c.in-Ok.ensures.disks, same.same_past, same.same_size, same.same_geometry, c.loop-bios.invariant.setup) at c.hear_silence.ensures.heard in
    told_both (g.D.Disks.past c.args.bios.now.disks.now) _ _ _
    (λ now far silent.
    comes_silent g.I.Source (message_rest now machine c.args.message.now) (λ heard. tale_of (message_rest now machine c.args.message.now) (driven setup heard c.args.prompt.now.state)) setup c.loop-bios.prompt.state c.hear_silence.new.prompt.state c.hear_silence.result
    c.args.bios.now.keys.now c.loop-bios.bios.keys.now c.key.new.self.keys.now (sink_of g.O.Sink c.args.out.now) (sink_of g.O.Sink c.loop-bios.out) (sink_of g.O.Sink c.hear_silence.new.out)
    far gives ended silent)
    c.loop-bios.invariant.goes comes

pub returns-in-Err : goal.returns-in-Err
returns-in-Err g c =
    let machine = machine_of g.D.Disks c.args.bios.now.disks.now in
    let setup = c.args.prompt.now.setup in
    let state = c.loop-bios.prompt.state in
    let same = c.loop-bios.invariant.same in
    let waits : is_done state ≡ false = search rules in
    let says = rw (c.in-Ok.ensures.disks, same.same_past, same.same_size, same.same_geometry, c.loop-bios.invariant.setup) at c.in-Err.ensures.says in
    let next = rw c.loop-bios.invariant.setup at c.in-Err.ensures.state in
    let only = rw c.in-Ok.ensures.disks at c.in-Err.ensures.only in
    record {
      heard =
          told_both (g.D.Disks.past c.args.bios.now.disks.now) _ _ _
          (λ now far said. rw next
          (comes_halted g.I.Source (message_rest now machine c.args.message.now) (λ heard. tale_of (message_rest now machine c.args.message.now) (driven setup heard c.args.prompt.now.state)) setup state c.in-Ok.key c.in-Err.halt
          c.args.bios.now.keys.now c.loop-bios.bios.keys.now c.key.new.self.keys.now (sink_of g.O.Sink c.args.out.now) (sink_of g.O.Sink c.loop-bios.out) (sink_of g.O.Sink c.feed_key.new.out)
          far waits c.in_default-key.not-Silence c.in-Ok.ensures.key (λ end. (c.in-Ok.ensures.stays end).0) said))
          c.loop-bios.invariant.goes says;
      setup = search rules;
      only = record {
        reads = record {
          same = search rules;
          later = search rules;
          failed = λ lost. lost_counted c.in-Err.halt (g.D.Disks.faults c.args.bios.now.disks.now) (g.D.Disks.faults c.loop-bios.bios.disks.now) (g.D.Disks.faults c.feed_key.new.disks) c.loop-bios.invariant.later (λ device. only.reads.failed (ap (λ halt. Err halt) device)) only.reads.later lost;
        };
        later = search rules;
        keys = λ unheard. cc;
        sink = search rules;
        same_disks_reference = search rules;
        same_keys_reference = search rules;
        same_reference = search rules;
      };
    }

pub loop-bios-preserved : goal.loop-bios-preserved
loop-bios-preserved g c =
    let machine = machine_of g.D.Disks c.args.bios.now.disks.now in
    let setup = c.args.prompt.now.setup in
    let state = c.loop-bios.prompt.state in
    let same = c.loop-bios.invariant.same in
    let waits : is_done state ≡ false = search rules in
    let says = rw (c.in-Ok.ensures.disks, same.same_past, same.same_size, same.same_geometry, c.loop-bios.invariant.setup) at c.in_default-feed_key.ensures.says in
    let next = rw c.loop-bios.invariant.setup at c.in_default-feed_key.ensures.state in
    record {
      goes =
          told_both (g.D.Disks.past c.args.bios.now.disks.now) _ _ _
          (λ now far said. rw next
          (goes_on g.I.Source (message_rest now machine c.args.message.now) (λ heard. tale_of (message_rest now machine c.args.message.now) (driven setup heard c.args.prompt.now.state)) setup state c.in-Ok.key
          c.args.bios.now.keys.now c.loop-bios.bios.keys.now c.key.new.self.keys.now (sink_of g.O.Sink c.args.out.now) (sink_of g.O.Sink c.loop-bios.out) (sink_of g.O.Sink c.feed_key.new.out)
          far waits c.in_default-key.not-Silence c.in-Ok.ensures.key (λ end. (c.in-Ok.ensures.stays end).0) said))
          c.loop-bios.invariant.goes says;
      setup = search rules;
      same = search rules;
      later = search rules;
      keys_later = search rules;
      sink = search rules;
      same_disks_reference = search rules;
      same_keys_reference = search rules;
      same_reference = search rules;
    }

pub returns-in_default-clause-heard : goal.returns-in_default-clause-heard
returns-in_default-clause-heard g c =
    let machine = machine_of g.D.Disks c.args.bios.now.disks.now in
    let setup = c.args.prompt.now.setup in
    told_map (g.D.Disks.past c.args.bios.now.disks.now) _ _
    (λ now far.
    comes_unheard g.I.Source (message_rest now machine c.args.message.now) (λ heard. tale_of (message_rest now machine c.args.message.now) (driven setup heard c.args.prompt.now.state)) setup c.loop-bios.prompt.state c.in_default.field-0
    c.args.bios.now.keys.now c.loop-bios.bios.keys.now c.key.new.self.keys.now (sink_of g.O.Sink c.args.out.now) (sink_of g.O.Sink c.loop-bios.out)
    far c.in_default.ensures.key (λ end. (c.in_default.ensures.stays end).0))
    c.loop-bios.invariant.goes

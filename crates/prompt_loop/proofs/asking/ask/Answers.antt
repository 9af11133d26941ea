use Rattle.sector_address.specs.Machine.{machine_of}
use Rattle.stream_trait.specs.Shows.{sink_of}
use Rattle.disk_trait.proofs.ToldLemmas.{told_map, told_both}
use Rattle.prompt_loop.specs.Message.{message_rest}
use Rattle.prompt_loop.proofs.AskLemmas.{started_comes, started_halted}
use Rattle.prompt_loop.proofs.asking.ask.Goals as goal

pub returns-in-Ok-clause-asked : goal.returns-in-Ok-clause-asked
returns-in-Ok-clause-asked g c =
    let machine = machine_of g.D.Disks c.args.bios.now.disks.now in
    let setup = c.args.prompt.now.setup in
    let same = c.in-Ok.ensures.only.reads.same in
    let says = rw (c.start-reply.ensures.said, c.start-reply.ensures.setup) at c.in-Ok.ensures.says in
    let comes = rw (same.same_past, same.same_size, same.same_geometry, c.start-reply.ensures.setup, c.start-reply.ensures.state) at c.hear.ensures.heard in
    told_both (g.D.Disks.past c.args.bios.now.disks.now) _ _ _
    (λ now said heard.
    started_comes g.I.Source (message_rest now machine c.args.message.now) setup c.hear.new.prompt.state c.hear.result c.args.bios.now.keys.now c.hear.new.bios.keys.now
    (sink_of g.O.Sink c.args.out.now) (sink_of g.O.Sink c.show_reply.new.out) (sink_of g.O.Sink c.hear.new.out) said heard)
    says comes

pub returns-in-Err-clause-asked : goal.returns-in-Err-clause-asked
returns-in-Err-clause-asked g c =
    let machine = machine_of g.D.Disks c.args.bios.now.disks.now in
    let setup = c.args.prompt.now.setup in
    let says = rw (c.start-reply.ensures.said, c.start-reply.ensures.setup) at c.in-Err.ensures.says in
    told_map (g.D.Disks.past c.args.bios.now.disks.now) _ _
    (λ now said.
    started_halted g.I.Source (message_rest now machine c.args.message.now) setup c.start-reply.new.self.state c.in-Err.halt c.args.bios.now.keys.now
    (sink_of g.O.Sink c.args.out.now) (sink_of g.O.Sink c.show_reply.new.out) said)
    says

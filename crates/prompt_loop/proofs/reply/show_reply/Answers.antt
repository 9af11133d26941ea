use Rattle.std.proofs.Common.{◌≡◌, Err, rules}
use Rattle.sector_address.specs.Machine.{machine_of}
use Rattle.prompt_core.specs.View.{said_of}
use Rattle.stream_trait.specs.Shows.{sink_of}
use Rattle.disk_trait.proofs.ToldLemmas.{told_map}
use Rattle.prompt_loop.specs.Message.{ShowsFile, message_rest, opening_rest}
use Rattle.prompt_loop.proofs.TaleLemmas.{says_whole, says_halted}
use Rattle.prompt_loop.proofs.reply.show_reply.Goals as goal

pub returns-in_err-show_opening-clause-says : goal.returns-in_err-show_opening-clause-says
returns-in_err-show_opening-clause-says g c =
    let machine = machine_of g.D.Disks c.args.disks.now in
    let said = said_of c.args.reply.now in
    let entries = c.args.prompt.now.setup.entries in
    let halt = c.in_err-show_opening.field-0.0 in
    let parts = c.parts-parts.result in
    let is : c.from_residual.result ≡ Err halt = search rules in
    told_map (g.D.Disks.past c.args.disks.now)
    (λ now. ShowsFile (Err halt) (opening_rest said.opened (message_rest now machine c.args.message.now)) (sink_of g.O.Sink c.put.new.self) (sink_of g.O.Sink c.show_opening.new.out)) _
    (λ now shown. rw is
    (says_halted (message_rest now machine c.args.message.now) entries said parts.before.now parts.middle.now parts.rest.now halt
    (sink_of g.O.Sink c.args.out.now) (sink_of g.O.Sink c.put.new.self) (sink_of g.O.Sink c.show_opening.new.out)
    c.parts-parts.ensures c.put.ensures.shown shown))
    c.in_err-show_opening.ensures.shown

pub returns-clause-says : goal.returns-clause-says
returns-clause-says g c =
    let machine = machine_of g.D.Disks c.args.disks.now in
    let said = said_of c.args.reply.now in
    let entries = c.args.prompt.now.setup.entries in
    let parts = c.parts-parts.result in
    let names = rw c.choices.ensures.entries at c.show_listed.ensures.shown in
    told_map (g.D.Disks.past c.args.disks.now) _ _
    (λ now shown.
    says_whole (message_rest now machine c.args.message.now) entries said parts.before.now parts.middle.now parts.rest.now
    (sink_of g.O.Sink c.args.out.now) (sink_of g.O.Sink c.put.new.self) (sink_of g.O.Sink c.show_opening.new.out)
    (sink_of g.O.Sink c.put-2.new.self) (sink_of g.O.Sink c.show_listed.new.out) (sink_of g.O.Sink c.put-3.new.self)
    c.parts-parts.ensures c.put.ensures.shown shown.0 shown.1 c.put-2.ensures.shown names c.put-3.ensures.shown)
    c.in_ok-show_opening.ensures.shown

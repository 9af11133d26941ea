use Rattle.minix_create.proofs.OpenLemmas.{start_ready}
use Rattle.minix_create.proofs.StateLemmas.{reserves_ok}
use Rattle.minix_create.proofs.chosen.Chosen.reserve.Goals as goal

pub mark_chosen-requires-clause-ready : goal.mark_chosen-requires-clause-ready
mark_chosen-requires-clause-ready g c = start_ready c.args.volume c.args.self c.requires.suits c.requires.quiet c.requires.free

pub returns-in-Ok-clause-reserved : goal.returns-in-Ok-clause-reserved
returns-in-Ok-clause-reserved g c =
    let next = rw c.blocks-in-Ok.ensures at c.next_block-next.ensures in
    reserves_ok c.args.volume c.mark_chosen.new.volume c.args.self c.requires.suits c.requires.quiet c.requires.free c.in-Ok.ensures c.next_block-next.result next

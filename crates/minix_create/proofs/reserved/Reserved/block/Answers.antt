use Rattle.minix_create.proofs.OpenLemmas.{block_range, block_unused}
use Rattle.minix_create.proofs.StateLemmas.{writes_ok, block_wrong}
use Rattle.minix_create.proofs.reserved.Reserved.block.Goals as goal

pub write_zone-requires-clause-from : goal.write_zone-requires-clause-from
write_zone-requires-clause-from g c =
    rw c.blocks-2.ensures (block_range c.args.self.now.volume c.args.self.now.chosen c.requires.hand.may c.args.self.now.next (c.requires.hand.some c.requires.left)).0

pub write_zone-requires-clause-below : goal.write_zone-requires-clause-below
write_zone-requires-clause-below g c =
    rw c.blocks-2.ensures (block_range c.args.self.now.volume c.args.self.now.chosen c.requires.hand.may c.args.self.now.next (c.requires.hand.some c.requires.left)).1

pub write_zone-requires-clause-unused : goal.write_zone-requires-clause-unused
write_zone-requires-clause-unused g c =
    rw c.blocks-2.ensures (block_unused c.args.self.now.volume c.args.self.now.chosen c.requires.hand.may c.args.self.now.next (c.requires.hand.some c.requires.left))

pub returns-in-Ok-clause-written : goal.returns-in-Ok-clause-written
returns-in-Ok-clause-written g c =
    let others = rw c.blocks-2.ensures at c.write_zone.ensures.others in
    let one = rw c.blocks-2.ensures at c.in-Ok.ensures.parts in
    let next = rw c.blocks-in-Ok.ensures at c.next_block-self.ensures in
    writes_ok c.args.self.now.volume c.write_zone.new.volume c.args.self.now.chosen c.args.self.now.next c.requires.hand c.requires.left c.write_zone.ensures.steps others
    c.args.bytes.now one c.next_block-self.result next

pub returns-in-Err-clause-halted : goal.returns-in-Err-clause-halted
returns-in-Err-clause-halted g c =
    let others = rw c.blocks-2.ensures at c.write_zone.ensures.others in
    block_wrong c.args.self.now.volume c.write_zone.new.volume c.args.self.now.chosen c.args.self.now.next c.requires.hand c.requires.left c.write_zone.ensures.steps others
    c.in-Err.field-0 c.in-Err.ensures.device

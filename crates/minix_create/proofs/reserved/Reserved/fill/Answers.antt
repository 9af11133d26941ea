use Rattle.minix_create.proofs.StateLemmas.{fills_ok, fill_wrong}
use Rattle.minix_create.proofs.reserved.Reserved.fill.Goals as goal

pub returns-in-Ok-clause-filled : goal.returns-in-Ok-clause-filled
returns-in-Ok-clause-filled g c =
    fills_ok c.args.self.volume c.fill_chosen.new.volume c.args.self.chosen c.args.self.next c.requires.hand c.requires.all c.in-Ok.ensures.fills c.in-Ok.ensures.fit c.in-Ok.ensures.stands

pub returns-clause-halted : goal.returns-clause-halted
returns-clause-halted g c =
    fill_wrong c.args.self.volume c.fill_chosen.new.volume c.args.self.chosen c.args.self.next c.requires.hand c.requires.all c.in-Err.field-0 c.in-Err.ensures.fills

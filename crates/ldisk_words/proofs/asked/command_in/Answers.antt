use Rattle.std.proofs.Common.{◌∙◌, sym, arith}
use Rattle.ldisk_words.proofs.AskedLemmas.{command_three, command_four, command_five}
use Rattle.ldisk_words.proofs.asked.command_in.Goals as goal

pub returns-in-3 : goal.returns-in-3
returns-in-3 c =
    c.alone_in.ensures ∙ sym (command_three c.args.word.now c.args.words.now c.word.result.now
    (omega (arith, c.in-3.is, c.count.ensures)) c.word.ensures)

pub returns-in-4 : goal.returns-in-4
returns-in-4 c =
    c.path_in.ensures ∙ sym (command_four c.args.word.now c.args.words.now c.word-in-4.result.now c.word-in-4-2.result.now
    (omega (arith, c.in-4.is, c.count.ensures)) c.word-in-4.ensures c.word-in-4-2.ensures)

pub returns-in-5 : goal.returns-in-5
returns-in-5 c =
    c.pair_in.ensures ∙ sym (command_five c.args.word.now c.args.words.now c.word-in-5.result.now c.word-in-5-2.result.now c.word-in-5-3.result.now
    (omega (arith, c.in-5.is, c.count.ensures)) c.word-in-5.ensures c.word-in-5-2.ensures c.word-in-5-3.ensures)

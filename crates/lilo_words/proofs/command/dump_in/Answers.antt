use Rattle.std.proofs.Common.{◌≡◌, ◌<◌, ◌+◌, arith, sym, ◌∙◌, true, false, bytes_eq, codes}
use Rattle.mbr_table.specs.View.{device_view}
use Rattle.lilo_words.specs.declared.part.Command.TheVariants.{Boot}
use Rattle.lilo_words.proofs.CommandReads.{ended_seen, dump_from-other, dump_from-dump}
use Rattle.lilo_words.proofs.command.dump_in.Goals as goal

pub returns-then-ne : goal.returns-then-ne
returns-then-ne c =
    let less : c.args.at < c.args.end = omega arith in
    let isnt : bytes_eq c.word.result.now (codes "--dump") ≡ false = grind arith in
    sym (dump_from-other c.args.words.now c.args.at c.args.end c.word.result.now (device_view c.args.device) less c.requires.end c.word.ensures isnt)

pub returns : goal.returns
returns c =
    let less : c.args.at < c.args.end = omega arith in
    let is : bytes_eq c.word.result.now (codes "--dump") ≡ true = grind arith in
    ended_seen c.args.words.now (Boot c.args.device true) (c.args.at + 1) c.args.end c.ended.result (omega arith) c.requires.end c.ended.ensures
    ∙ sym (dump_from-dump c.args.words.now c.args.at c.args.end c.word.result.now (device_view c.args.device) less c.requires.end c.word.ensures is)

use Rattle.std.proofs.Common.{◌+◌, arith, sym, ◌∙◌, Some}
use Rattle.mbr_table.specs.View.{device_view}
use Rattle.lilo_words.specs.declared.part.Command.TheVariants.{Query}
use Rattle.lilo_words.proofs.CommandReads.{ended_seen, query_from-named}
use Rattle.lilo_words.proofs.command.query_in.Goals as goal

pub returns : goal.returns
returns c =
    ended_seen c.args.words.now (Query (Some c.in_ok-device.device)) (c.args.at + 1) c.args.end c.ended.result (omega (arith, c.in_ok-device.ensures.before)) c.requires.end c.ended.ensures
    ∙ sym (query_from-named c.args.words.now c.args.at c.args.end (device_view c.in_ok-device.device) c.in_ok-device.ensures.before c.requires.end c.in_ok-device.ensures.device)

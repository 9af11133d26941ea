use Rattle.std.proofs.Common.{◌≡◌, ◌<◌, arith, sym, Some, None}
use Rattle.lilo_model.specs.Devices.{device_at}
use Rattle.mbr_table.specs.View.{device_view}
use Rattle.lilo_words.proofs.CommandReads.{named_from-word}
use Rattle.lilo_words.proofs.command.device_in.Goals as goal

pub returns-in-Ok-clause-device : goal.returns-in-Ok-clause-device
returns-in-Ok-clause-device c =
    let less : c.args.at < c.args.end = omega arith in
    let found : device_at c.word.result.now ≡ Some (device_view c.in-Ok.device) = cc (c.in-Ok.ensures.found, c.as_bytes.ensures.value) in
    sym (named_from-word c.args.words.now c.args.at c.args.end c.word.result.now (Some (device_view c.in-Ok.device)) less c.requires.end c.word.ensures found)

pub returns-in-Err-clause-device : goal.returns-in-Err-clause-device
returns-in-Err-clause-device c =
    let less : c.args.at < c.args.end = omega arith in
    let none : device_at c.word.result.now ≡ None = cc (c.in-Err.ensures.unknown, c.as_bytes.ensures.value) in
    sym (named_from-word c.args.words.now c.args.at c.args.end c.word.result.now None less c.requires.end c.word.ensures none)

use Rattle.std.proofs.Common.{sym, ◌∙◌}
use Rattle.mbr_table.specs.View.{device_view}
use Rattle.lilo_words.proofs.CommandReads.{boot_from-named}
use Rattle.lilo_words.proofs.command.boot_in.Goals as goal

pub returns : goal.returns
returns c =
    c.dump_in.ensures
    ∙ sym (boot_from-named c.args.words.now c.args.at c.args.end (device_view c.in_ok-device.device) c.in_ok-device.ensures.before c.requires.end c.in_ok-device.ensures.device)

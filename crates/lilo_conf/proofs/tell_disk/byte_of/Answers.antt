use Rattle.std.proofs.Common.{arith}
use Rattle.conf_settings.specs.View.{opt_view, settings_view}
use Rattle.lilo_conf.proofs.DiskLemmas.{number_of-most}
use Rattle.lilo_conf.proofs.tell_disk.byte_of.Goals as goal

pub overflow_cast-result : goal.overflow_cast-result
overflow_cast-result c =
    let most = number_of-most 255 c.in-Some.number (opt_view c.args.option) (settings_view c.args.settings.now) c.in-Some.ensures in omega arith

use Rattle.std.proofs.Common.{◌≡◌, ◌++◌, drop}
use Rattle.lilo_model.specs.Conf.{disks_of}
use Rattle.conf_settings.specs.View.{settings_view}
use Rattle.lilo_conf.specs.View.{disks_view}
use Rattle.lilo_conf.proofs.tell_disk.disks_of.Given as goal

-- what is said so far comes before what is left
abbrev pub invariant-loop-index : goal.invariant-loop-index
invariant-loop-index l = disks_view l.disks.items ++ disks_of (settings_view (drop l.index l.settings)) ≡ disks_of (settings_view l.settings)

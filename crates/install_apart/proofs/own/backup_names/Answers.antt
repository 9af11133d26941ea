-- The backup's names.
use Rattle.std.proofs.Common.{◌∙◌}
use Rattle.lilo_conf.specs.View.{config_view}
use Rattle.mbr_table.specs.View.{device_view}
use Rattle.minix_zones.specs.Volume.{volume_view, past_of}
use Rattle.install_apart.proofs.OwnLemmas.{told-none, told-backup}
use Rattle.install_apart.proofs.own.backup_names.Goals as goal

pub returns-then-not-foreign-clause-backup : goal.returns-then-not-foreign-clause-backup
returns-then-not-foreign-clause-backup g c =
    told-none (past_of c.args.volume.now) (volume_view c.args.volume.now) (config_view c.args.config.now) (device_view c.args.boot) c.args.foreign c.if-not-foreign.true

pub returns-in-Ok-named_pair-clause-backup : goal.returns-in-Ok-named_pair-clause-backup
returns-in-Ok-named_pair-clause-backup g c =
    told-backup (past_of c.args.volume.now) (volume_view c.args.volume.now) (config_view c.args.config.now) (device_view c.args.boot) c.args.foreign c.is_some.result c.bytes.result.now c.in-Ok-named_pair.pair
    c.if-not-foreign.false (c.bytes.ensures ∙ c.in-Ok.ensures.is) c.is_some.ensures c.in-Ok-named_pair.ensures.pair

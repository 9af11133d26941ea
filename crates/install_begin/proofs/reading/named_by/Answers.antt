use Rattle.lilo_conf.specs.View.{config_view}
use Rattle.mbr_table.specs.View.{device_view}
use Rattle.install_begin.proofs.BeginLemmas.{lawful_named}
use Rattle.install_begin.proofs.reading.named_by.Goals as goal

pub returns-clause-lawful : goal.returns-clause-lawful
returns-clause-lawful c =
    lawful_named (config_view c.args.config) (device_view c.unwrap_or-boot.result) c.requires (c.has_name.ensures c.if-not-has_name.false)

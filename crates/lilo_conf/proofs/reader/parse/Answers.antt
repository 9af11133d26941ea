use Rattle.lilo_model.specs.ConfSettings.{text_settings}
use Rattle.lilo_conf.proofs.ReaderLemmas.{conf_at-long, conf_at-short, gives-lawful}
use Rattle.lilo_conf.proofs.reader.parse.Goals as goal

pub returns-then-text-gt-TEXT_LIMIT-clause-gives : goal.returns-then-text-gt-TEXT_LIMIT-clause-gives
returns-then-text-gt-TEXT_LIMIT-clause-gives c = rw c.too_long.ensures (conf_at-long c.args.text.now c.if-text-gt-TEXT_LIMIT.true)

pub returns-clause-gives : goal.returns-clause-gives
returns-clause-gives c =
    rw (conf_at-short c.args.text.now c.if-text-gt-TEXT_LIMIT.false) (c.read_config.ensures (text_settings c.args.text.now) c.in_ok-cut.ensures)

pub returns-clause-lawful : goal.returns-clause-lawful
returns-clause-lawful c =
    gives-lawful c.every_config_is_lawful.ensures c.args.text.now c.read_config.result
    (rw (conf_at-short c.args.text.now c.if-text-gt-TEXT_LIMIT.false) (c.read_config.ensures (text_settings c.args.text.now) c.in_ok-cut.ensures))

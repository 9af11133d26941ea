use Rattle.install_stage.proofs.Within.{zones_data, needs_no_other}
use Rattle.install_stage.proofs.made_laws.file_needs_no_other_sector.Goals as goal

pub returns-clause-zones : goal.returns-clause-zones
returns-clause-zones g c = zones_data c.args.volume.now c.args.chosen.now c.requires.free

pub returns-clause-others : goal.returns-clause-others
returns-clause-others g c = needs_no_other c.args.volume.now c.args.chosen.now c.requires.free

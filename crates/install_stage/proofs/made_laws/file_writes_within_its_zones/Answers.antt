use Rattle.install_stage.proofs.Within.{writes_within}
use Rattle.install_stage.proofs.made_laws.file_writes_within_its_zones.Goals as goal

pub returns : goal.returns
returns g c = writes_within c.args.start.now c.args.volume.now c.args.chosen.now c.requires.free c.requires.makes

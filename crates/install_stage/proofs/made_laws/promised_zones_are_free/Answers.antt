use Rattle.install_stage.proofs.Within.{free_promised}
use Rattle.install_stage.proofs.made_laws.promised_zones_are_free.Goals as goal

pub returns : goal.returns
returns g c = free_promised c.args.volume.now c.args.chosen.now c.requires.free

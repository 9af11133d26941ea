use Rattle.install_stage.proofs.After.{writes_join}
use Rattle.install_stage.proofs.made_laws.later_writes_join.Goals as goal

pub returns : goal.returns
returns g c = writes_join c.args.start.now c.args.volume.now c.args.one.now c.requires.free c.requires.made

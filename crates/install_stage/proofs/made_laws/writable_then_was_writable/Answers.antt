use Rattle.install_stage.proofs.After.{was_writable}
use Rattle.install_stage.proofs.made_laws.writable_then_was_writable.Goals as goal

pub returns : goal.returns
returns g c = was_writable c.args.start.now c.args.volume.now c.args.one.now c.requires.file c.requires.made

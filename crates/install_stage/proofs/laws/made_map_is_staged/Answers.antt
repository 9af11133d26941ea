use Rattle.install_stage.proofs.StagedLemmas.{staged_law}
use Rattle.install_stage.proofs.laws.made_map_is_staged.Goals as goal

pub returns : goal.returns
returns g c = staged_law c.args.start.now c.args.volume.now c.args.chosen.now c.args.plan.now c.args.places.now

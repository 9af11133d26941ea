use Rattle.install_stage.proofs.Sectors.{lie_where_chosen, lie_in_order}
use Rattle.install_stage.proofs.made_laws.sectors_lie_where_chosen.Goals as goal

pub returns-clause-sectors : goal.returns-clause-sectors
returns-clause-sectors g c = lie_where_chosen c.args.start.now c.args.volume.now c.args.chosen.now c.requires.told c.requires.suits c.requires.free

pub returns-clause-places : goal.returns-clause-places
returns-clause-places g c = lie_in_order c.args.start.now c.args.volume.now c.args.chosen.now c.requires.told c.requires.suits c.requires.free

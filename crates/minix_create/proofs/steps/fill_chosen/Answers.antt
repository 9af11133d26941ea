use Rattle.minix_create.proofs.ChosenLemmas.{few_indirect}
use Rattle.minix_create.proofs.steps.fill_chosen.Goals as goal

pub fill_file-requires-clause-few : goal.fill_file-requires-clause-few
fill_file-requires-clause-few g c = rw c.indirect.ensures (few_indirect c.args.volume.now.layout c.args.volume.now.span c.args.chosen.now c.requires.suits)

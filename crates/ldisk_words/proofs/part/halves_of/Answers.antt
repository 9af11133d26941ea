use Rattle.ldisk_words.proofs.PartLemmas.{halves_cut}
use Rattle.ldisk_words.proofs.part.halves_of.Goals as goal

pub returns : goal.returns
returns c = halves_cut c.args.word.now c.split_once.result c.split_once.ensures.cases

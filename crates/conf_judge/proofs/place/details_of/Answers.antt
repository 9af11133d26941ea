use Rattle.conf_judge.proofs.PartLemmas.{drop_details}
use Rattle.conf_judge.proofs.place.details_of.Goals as goal

pub returns : goal.returns
returns c = drop_details c.args.own.now c.details_count.result c.details_count.ensures.value

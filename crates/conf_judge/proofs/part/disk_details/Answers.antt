use Rattle.conf_judge.proofs.PartLemmas.{take_details}
use Rattle.conf_judge.proofs.part.disk_details.Goals as goal

pub returns : goal.returns
returns c = take_details c.args.settings.now c.details_length.result c.details_length.ensures.value

use Rattle.ldisk_run.proofs.ContentLemmas.{content_law}
use Rattle.ldisk_run.proofs.laws.get_prints_the_file.Goals as goal

pub returns : goal.returns
returns c = content_law

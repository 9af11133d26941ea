use Rattle.loader_core.proofs.ReportLemmas.{report_law}
use Rattle.loader_core.proofs.laws.boots_as_the_model.Goals as goal

pub returns : goal.returns
returns c = report_law

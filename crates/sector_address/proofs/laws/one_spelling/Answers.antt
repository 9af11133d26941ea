use Rattle.sector_address.proofs.BytesLemmas.{one_spelling_law}
use Rattle.sector_address.proofs.laws.one_spelling.Goals as goal

pub returns : goal.returns
returns c = one_spelling_law

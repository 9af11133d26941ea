use Rattle.mbr_table.proofs.EndLemmas.{chain_ends}
use Rattle.mbr_table.proofs.laws.chain_ends.Goals as goal

pub returns : goal.returns
returns c = chain_ends

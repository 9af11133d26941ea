use Rattle.sector_address.proofs.BytesLemmas.{encode_law}
use Rattle.sector_address.proofs.laws.encoded_slot_decodes.Goals as goal

pub returns : goal.returns
returns c = encode_law

use Rattle.minix_laws.proofs.Given.{given_law}
use Rattle.minix_laws.proofs.laws.given_is_plain.Goals as goal

pub returns : goal.returns
returns c = given_law

use Rattle.minix_choice_laws.proofs.Filled.{content_law}
use Rattle.minix_choice_laws.proofs.fill_laws.content_is_of_the_blocks.Goals as goal

pub returns : goal.returns
returns c = content_law

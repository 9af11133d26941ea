use Rattle.minix_choice_laws.proofs.Filled.{pointers_law}
use Rattle.minix_choice_laws.proofs.fill_laws.pointers_lead_to_what_was_chosen.Goals as goal

pub returns : goal.returns
returns c = pointers_law

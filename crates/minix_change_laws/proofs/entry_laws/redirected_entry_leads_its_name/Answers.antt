use Rattle.minix_change_laws.proofs.Names.{redirect_law}
use Rattle.minix_change_laws.proofs.entry_laws.redirected_entry_leads_its_name.Goals as goal

pub returns : goal.returns
returns c = redirect_law

use Rattle.minix_change_laws.proofs.Replace.{stood_law}
use Rattle.minix_change_laws.proofs.entry_laws.standing_entry_leads_its_name.Goals as goal

pub returns : goal.returns
returns c = stood_law

use Rattle.session_laws.proofs.Leads.{name_path_law}
use Rattle.session_laws.proofs.laws.texts_lead_where_directories_and_links_stay.Goals as goal

pub returns : goal.returns
returns c = name_path_law

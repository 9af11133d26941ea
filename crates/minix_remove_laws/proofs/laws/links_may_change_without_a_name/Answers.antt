use Rattle.minix_remove_laws.proofs.Links.{any_links_law}
use Rattle.minix_remove_laws.proofs.laws.links_may_change_without_a_name.Goals as goal

pub returns : goal.returns
returns c = any_links_law

-- What is seen of a survey's findings.
use Rattle.std.specs.Prelude.{◌≡◌, ℕ, Bool, false, List, Option, None, Some, nat_eq, unwrap_or}
use Rattle.std.specs.Option.{option_map}
use Rattle.std.specs.HashMap.{get}
use Rattle.lilo_model.specs.MinixSurvey as model
use Rattle.minix_survey.specs.declared.findings.Findings.{Findings}
use Rattle.minix_survey.specs.declared.findings.Owner.{Owner}

-- the inode that refers to a zone
abbrev pub owner_in : Findings → ℕ → Option ℕ
owner_in found zone = option_map (λ owner. owner.inode) (get nat_eq found.owners zone)

-- how many names an inode has
abbrev pub names_in : Findings → ℕ → ℕ
names_in found inode = unwrap_or (get nat_eq found.names inode) 0

-- an owner, by the inode and whether the zone has numbers of zones
abbrev pub owner_with : ℕ → Bool → Owner
owner_with inode indirect = record { inode = inode; indirect = indirect }

abbrev pub is_indirect_by : Option Owner → Bool
is_indirect_by None = false
is_indirect_by (Some owner) = owner.indirect

-- whether a zone has numbers of zones
abbrev pub indirect_in : Findings → ℕ → Bool
indirect_in found zone = is_indirect_by (get nat_eq found.owners zone)

-- findings are those of what was met
pub record AreFindings (found : Findings) (met : List model.Met) : Type 0 where
  pub owner : (zone : ℕ) → owner_in found zone ≡ model.owner met zone
  pub names : (inode : ℕ) → names_in found inode ≡ model.names_of met inode
  pub indirect : (zone : ℕ) → indirect_in found zone ≡ model.is_indirect met zone

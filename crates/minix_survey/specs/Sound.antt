-- What a survey's answer says in terms of Sound.
use Rattle.std.specs.Prelude.{◌≡◌, ◌≢◌, ◌↔◌, ℕ, true, None, Some, Result, Ok, Err}
use Rattle.lilo_model.specs.MinixLayout.{Super}
use Rattle.lilo_model.specs.MinixParts.{Parts, Pointer}
use Rattle.lilo_model.specs.MinixNames.{Refers, Sound}
use Rattle.minix_survey_laws.specs.Count.{HasNames}
use Rattle.minix_sound_laws.specs.Laws.{RefersIndirect}
use Rattle.minix_zones.specs.declared.zone_fault.ZoneFault.{ZoneFault}
use Rattle.minix_zones.specs.declared.zone_fault.ZoneFault.TheVariants as zones
use Rattle.minix_tree.specs.declared.tree_fault.TreeFault.TheVariants as trees
use Rattle.minix_survey.specs.declared.findings.Findings.{Findings}
use Rattle.minix_survey.specs.declared.survey_fault.SurveyFault.{SurveyFault}
use Rattle.minix_survey.specs.declared.survey_fault.SurveyFault.TheVariants as faults
use Rattle.minix_survey.specs.Findings.{owner_in, names_in, indirect_in}

-- findings are what is on a volume
pub record SaysFound (found : Findings) (super : Super) (parts : Parts) : Type 0 where
  -- an owner is an inode that has a name and refers to the zone, and a zone without one is referred to by none
  pub owned : (zone inode : ℕ) → owner_in found zone ≡ Some inode → (at : Pointer) × Refers super parts inode at zone
  pub free : (zone : ℕ) → owner_in found zone ≡ None → (number : ℕ) (at : Pointer) → Refers super parts number at zone → ⊥
  -- an inode has so many names, and the root has none
  pub names : (inode : ℕ) → inode ≢ 1 → HasNames super parts inode (names_in found inode)
  -- a zone has numbers of zones exactly where an inode that has a name refers to it by a pointer that leads on
  pub indirect : (zone : ℕ) → (indirect_in found zone ≡ true) ↔ RefersIndirect super parts zone

-- a zone's refusal denies something, but where the disk failed
abbrev pub DeniesZone : ZoneFault → Type 0 → Type 0
DeniesZone zones.Device Is = Unit {0}
DeniesZone other Is = Is → ⊥

-- a refusal denies something, but where the disk failed or there was no memory
abbrev pub Denies : SurveyFault → Type 0 → Type 0
Denies faults.Memory Is = Unit {0}
Denies (faults.Tree (trees.Zone fault)) Is = DeniesZone fault Is
Denies other Is = Is → ⊥

-- Ok says that the volume is sound and what is on it, and a refusal that it isn't sound
abbrev pub SaysSound : Result Findings SurveyFault → Super → Parts → Type 0
SaysSound (Ok found) super parts = Sound super parts × SaysFound found super parts
SaysSound (Err fault) super parts = Denies fault (Sound super parts)

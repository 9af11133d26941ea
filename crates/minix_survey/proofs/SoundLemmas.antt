-- Where a survey answers what the model finds, its answer says whether the volume is sound.
use Rattle.std.proofs.Common.{◌≡◌, ℕ, true, List, Result, Ok, Err, refl, sym, ◌∙◌, ap, subst}
use Rattle.lilo_model.specs.MinixLayout.{Super}
use Rattle.lilo_model.specs.MinixParts.{Parts}
use Rattle.lilo_model.specs.MinixNames.{Sound}
use Rattle.lilo_model.specs.MinixSurvey.{SurveyFault as Refusal, Met, surveyable, survey, survey_walk}
use Rattle.minix_survey_laws.specs.Count.{HasNames}
use Rattle.minix_sound_laws.specs.Laws.{HasNumbers, RefersIndirect, SaysVolume}
use Rattle.minix_sound_laws.proofs.Law.{sound_law}
use Rattle.minix_sound_laws.proofs.Findings.{met_law}
use Rattle.minix_zones.specs.declared.zone_fault.ZoneFault.{ZoneFault}
use Rattle.minix_zones.specs.declared.zone_fault.ZoneFault.TheVariants as zones
use Rattle.minix_tree.specs.declared.tree_fault.TreeFault.{TreeFault}
use Rattle.minix_tree.specs.declared.tree_fault.TreeFault.TheVariants as trees
use Rattle.minix_survey.specs.declared.findings.Findings.{Findings}
use Rattle.minix_survey.specs.declared.survey_fault.SurveyFault.{SurveyFault}
use Rattle.minix_survey.specs.declared.survey_fault.SurveyFault.TheVariants as faults
use Rattle.minix_survey.specs.Findings.{AreFindings}
use Rattle.minix_survey.specs.Sound.{SaysFound, DeniesZone, Denies, SaysSound}
use Rattle.minix_survey.specs.Step.{Finds}
use Rattle.minix_survey.specs.View.{RefusesZone, RefusesTree, Refuses}

module _ (super : Super) (parts : Parts) (numbers : HasNumbers super parts) where
  -- what the model refuses isn't sound
  not-sound : (fault : Refusal) → survey super parts ≡ Err fault → Sound super parts → ⊥
  not-sound fault bad sound = let good = (sound_law super parts numbers).ok sound in let e = good.1 in cc

  denies-zone : (fault : ZoneFault) → RefusesZone fault (survey super parts) → DeniesZone fault (Sound super parts)
  denies-zone zones.Device refused = tt
  denies-zone (zones.Layout fault) refused = not-sound _ refused
  denies-zone (zones.ZoneOutside zone) refused = not-sound _ refused

  denies-tree : (fault : TreeFault) → RefusesTree fault (survey super parts) → Denies (faults.Tree fault) (Sound super parts)
  denies-tree (trees.Zone fault) refused = denies-zone fault refused
  denies-tree (trees.NotDirectory position) refused = not-sound _ refused.1
  denies-tree (trees.NotFound position) refused = absurd refused
  denies-tree trees.NotFile refused = absurd refused
  denies-tree trees.TooManyLinks refused = absurd refused
  denies-tree (trees.BadEntry directory) refused = absurd refused
  denies-tree trees.PathTooLong refused = absurd refused
  denies-tree trees.Memory refused = absurd refused

  denies : (fault : SurveyFault) → Refuses fault (survey super parts) → Denies fault (Sound super parts)
  denies (faults.Crossed zone inode other) refused = not-sound _ refused
  denies (faults.Unmarked zone) refused = not-sound _ refused
  denies (faults.UnmarkedInode inode) refused = not-sound _ refused
  denies (faults.BadLink directory place) refused = not-sound _ refused
  denies (faults.FewLinks inode) refused = not-sound _ refused
  denies faults.TooDeep refused = not-sound _ refused
  denies (faults.Tree fault) refused = denies-tree fault refused
  denies faults.Memory refused = tt

  says-found : (found : Findings) (met : List Met) → AreFindings found met → SaysVolume super parts met → SaysFound found super parts
  says-found found met are says = record {
    owned = λ zone inode is. says.owned zone inode (sym (are.owner zone) ∙ is);
    free = λ zone none. says.free zone (sym (are.owner zone) ∙ none);
    names = λ inode other. subst (HasNames super parts inode) (sym (are.names inode)) (says.names inode other);
    indirect = λ zone. (
      λ is. (says.indirect zone).0 (sym (are.indirect zone) ∙ is),
      λ to. are.indirect zone ∙ (says.indirect zone).1 to,
    );
  }

  pub says-sound : (result : Result Findings SurveyFault) → Finds result super parts → SaysSound result super parts
  says-sound (Ok found) finds = (
    (sound_law super parts numbers).sound (survey_walk (surveyable super parts)) finds.0,
    says-found found (survey_walk (surveyable super parts)) finds.1 (met_law super parts (survey_walk (surveyable super parts)) numbers finds.0),
  )
  says-sound (Err fault) finds = denies fault finds

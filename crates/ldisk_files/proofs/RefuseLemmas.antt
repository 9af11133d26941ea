-- Refusals of the calls below, as this crate reports them.
use Rattle.std.proofs.Common.{◌≡◌, ℕ, Result, Ok, Err, IsErr, refl}
use Rattle.lilo_model.specs.Checks.{◌>>=◌, with_fault}
use Rattle.lilo_model.specs.MinixFind as finds
use Rattle.lilo_model.specs.MinixSurvey as model
use Rattle.minix_survey.specs.View as surveys
use Rattle.minix_survey.specs.declared.survey_fault.SurveyFault.{SurveyFault}
use Rattle.minix_survey.specs.declared.survey_fault.SurveyFault.TheVariants as survey_faults
use Rattle.minix_tree.specs.View as trees
use Rattle.minix_tree.specs.declared.tree_fault.TreeFault.{TreeFault}
use Rattle.minix_tree.specs.declared.tree_fault.TreeFault.TheVariants as tree_faults
use Rattle.minix_zones.specs.declared.zone_fault.ZoneFault.{ZoneFault}
use Rattle.minix_zones.specs.declared.zone_fault.ZoneFault.TheVariants as zones
use Rattle.ldisk_files.specs.Answer.{Answers, Refuses, HasFileCause, zone_fault, tree_fault, survey_fault}
use Rattle.ldisk_model.specs.FileVerdict.{FileRefusal, file_status, checked_status}
use Rattle.ldisk_files.specs.declared.fault.FileFault.{FileFault}
use Rattle.ldisk_files.specs.declared.fault.FileFault.TheVariants.{Refused, BadLength, NoSpace, Device, Memory}

-- ---- a chain of checks

first-three : {A B F : Type 0} (told : F → FileRefusal) → ((why : F) → file_status (told why) ≡ 3) → (given : Result A F) (next : A → Result B FileRefusal) → IsErr given
    → checked_status (with_fault told given >>= next) ≡ 3
first-three told three (Ok value) next refused = absurd cc
first-three told three (Err why) next refused = three why

-- the first of two checks refuses both, with the status 3
pub answers-then : {A B F : Type 0} (C : Type 0) (fault : FileFault) (told : F → FileRefusal) → ((why : F) → file_status (told why) ≡ 3) → (given : Result A F) (next : A → Result B FileRefusal)
    → Refuses fault given → Answers {B = C} (with_fault told given >>= next) (Err fault)
answers-then C Refused told three given next refuses = first-three told three given next refuses
answers-then C BadLength told three given next refuses = absurd refuses
answers-then C NoSpace told three given next refuses = absurd refuses
answers-then C Device told three given next refuses = tt
answers-then C Memory told three given next refuses = tt

is-err : {A F : Type 0} (given : Result A F) (why : F) → given ≡ Err why → IsErr given
is-err given why is = rw is refl

-- ---- zones, paths and surveys

zone-refuses : {B : Type 0} (fault : ZoneFault) (given : Result B finds.TreeFault) → trees.RefusesZone fault given → Refuses (zone_fault fault) given
zone-refuses (zones.Layout fault) given refuses = is-err given _ refuses
zone-refuses (zones.ZoneOutside zone) given refuses = is-err given _ refuses
zone-refuses zones.Device given refuses = tt

pub tree-refuses : {B : Type 0} (fault : TreeFault) (given : Result B finds.TreeFault) → trees.Refuses fault given → Refuses (tree_fault fault) given
tree-refuses (tree_faults.NotFound position) given refuses = is-err given _ refuses
tree-refuses (tree_faults.NotDirectory position) given refuses = is-err given _ refuses
tree-refuses tree_faults.NotFile given refuses = is-err given _ refuses
tree-refuses tree_faults.TooManyLinks given refuses = is-err given _ refuses
tree-refuses (tree_faults.BadEntry directory) given refuses = is-err given _ refuses
tree-refuses tree_faults.PathTooLong given refuses = is-err given _ refuses
tree-refuses (tree_faults.Zone fault) given refuses = zone-refuses fault given refuses
tree-refuses tree_faults.Memory given refuses = tt

survey-zone : {B : Type 0} (fault : ZoneFault) (given : Result B model.SurveyFault) → surveys.RefusesZone fault given → Refuses (zone_fault fault) given
survey-zone (zones.Layout fault) given refuses = is-err given _ refuses
survey-zone (zones.ZoneOutside zone) given refuses = is-err given _ refuses
survey-zone zones.Device given refuses = tt

survey-tree : {B : Type 0} (fault : TreeFault) (given : Result B model.SurveyFault) → surveys.RefusesTree fault given → Refuses (tree_fault fault) given
survey-tree (tree_faults.NotFound position) given refuses = absurd refuses
survey-tree (tree_faults.NotDirectory position) given refuses = is-err given _ refuses.1
survey-tree tree_faults.NotFile given refuses = absurd refuses
survey-tree tree_faults.TooManyLinks given refuses = absurd refuses
survey-tree (tree_faults.BadEntry directory) given refuses = absurd refuses
survey-tree tree_faults.PathTooLong given refuses = absurd refuses
survey-tree (tree_faults.Zone fault) given refuses = survey-zone fault given refuses
survey-tree tree_faults.Memory given refuses = absurd refuses

pub survey-refuses : {B : Type 0} (fault : SurveyFault) (given : Result B model.SurveyFault) → surveys.Refuses fault given → Refuses (survey_fault fault) given
survey-refuses (survey_faults.Crossed zone inode other) given refuses = is-err given _ refuses
survey-refuses (survey_faults.Unmarked zone) given refuses = is-err given _ refuses
survey-refuses (survey_faults.UnmarkedInode inode) given refuses = is-err given _ refuses
survey-refuses (survey_faults.BadLink directory place) given refuses = is-err given _ refuses
survey-refuses (survey_faults.FewLinks inode) given refuses = is-err given _ refuses
survey-refuses survey_faults.TooDeep given refuses = is-err given _ refuses
survey-refuses (survey_faults.Tree fault) given refuses = survey-tree fault given refuses
survey-refuses survey_faults.Memory given refuses = tt

-- ---- causes

tree-cause : (before now : ℕ) (fault : TreeFault) → trees.HasTreeCause before now fault → HasFileCause before now (tree_fault fault)
tree-cause before now (tree_faults.NotFound position) cause = tt
tree-cause before now (tree_faults.NotDirectory position) cause = tt
tree-cause before now tree_faults.NotFile cause = tt
tree-cause before now tree_faults.TooManyLinks cause = tt
tree-cause before now (tree_faults.BadEntry directory) cause = tt
tree-cause before now tree_faults.PathTooLong cause = tt
tree-cause before now (tree_faults.Zone (zones.Layout fault)) cause = tt
tree-cause before now (tree_faults.Zone (zones.ZoneOutside zone)) cause = tt
tree-cause before now (tree_faults.Zone zones.Device) cause = cause
tree-cause before now tree_faults.Memory cause = absurd cause

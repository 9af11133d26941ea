-- Steps of a survey, one after the other.
use Rattle.std.proofs.Common.{◌≡◌, ◌≤◌, ℕ, List, Option, Some, None, Result, Ok, Err, IfErr, refl, sym, ◌∙◌, subst, arith}
use Rattle.lilo_model.proofs.RoseLemmas.{rose_after}
use Rattle.disk_trait.specs.declared.disks.Disks.{Ghosts}
use Rattle.lilo_model.specs.Faults.{Rose}
use Rattle.disk_trait.specs.Past.{Past, Image, Told, SameDisks}
use Rattle.lilo_model.specs.MinixParts.{parts_of}
use Rattle.lilo_model.specs.MinixSurvey.{Surveyable, Met, SurveyFault as Refusal, surveyable, judged}
use Rattle.minix_layout.specs.View.{super_view}
use Rattle.minix_zones.specs.declared.volume.Volume.{Volume}
use Rattle.minix_zones.specs.Volume.{volume_view, past_of, faults_of, SameVolume}
use Rattle.minix_zones.specs.declared.zone_fault.ZoneFault.{ZoneFault}
use Rattle.minix_zones.specs.declared.zone_fault.ZoneFault.TheVariants as zones
use Rattle.minix_tree.specs.declared.tree_fault.TreeFault.{TreeFault}
use Rattle.minix_tree.specs.declared.tree_fault.TreeFault.TheVariants as trees
use Rattle.minix_zones.proofs.SameLemmas.{told_back}
use Rattle.minix_survey.specs.declared.survey_fault.SurveyFault.{SurveyFault}
use Rattle.minix_survey.specs.declared.survey_fault.SurveyFault.TheVariants as faults
use Rattle.minix_survey.specs.declared.tables.Tables.{Tables}
use Rattle.minix_survey.specs.Step.{Steps, Meets, Answers, seen_in}
use Rattle.minix_survey.specs.Tables.{Tells}
use Rattle.minix_survey.specs.View.{Refuses, RefusesTree, RefusesZone, HasSurveyCause, HasTreeCause}

-- what two facts on what disks hold give
pub told_both : {A B C : Image → Type 0} (past : Option Past) → ((now : Image) → A now → B now → C now) → Told past A → Told past B → Told past C
told_both None gives one other = tt
told_both (Some past) gives one other = gives _ one other

pub told_any : (past : Option Past) (A : Image → Type 0) → ((now : Image) → A now) → Told past A
told_any None A gives = tt
told_any (Some past) A gives = gives _

pub told_pair : (past : Option Past) (A B : Image → Type 0) → Told past A → Told past B → Told past (λ now. A now × B now)
told_pair None A B one other = tt
told_pair (Some past) A B one other = (one, other)

pub told_one : {A B : Image → Type 0} (past : Option Past) → ((now : Image) → A now → B now) → Told past A → Told past B
told_one None gives one = tt
told_one (Some past) gives one = gives _ one

-- a fact on a refusal
if_err : {A F : Type 0} {P Q : F → Type 0} (result : Result A F) → ((fault : F) → P fault → Q fault) → IfErr result P → IfErr result Q
if_err (Ok value) gives given = tt
if_err (Err fault) gives given = gives fault given

tree_later : (before mid now : ℕ) → before ≤ mid → (fault : TreeFault) → HasTreeCause mid now fault → HasTreeCause before now fault
tree_later before mid now later (trees.NotFound position) cause = tt
tree_later before mid now later (trees.NotDirectory position) cause = tt
tree_later before mid now later trees.NotFile cause = tt
tree_later before mid now later trees.TooManyLinks cause = tt
tree_later before mid now later (trees.BadEntry directory) cause = tt
tree_later before mid now later trees.PathTooLong cause = tt
tree_later before mid now later (trees.Zone (zones.Layout fault)) cause = tt
tree_later before mid now later (trees.Zone (zones.ZoneOutside zone)) cause = tt
tree_later before mid now later (trees.Zone zones.Device) cause = rose_after before mid now later cause
tree_later before mid now later trees.Memory cause = cause

pub cause_later : (before mid now : ℕ) → before ≤ mid → (fault : SurveyFault) → HasSurveyCause mid now fault → HasSurveyCause before now fault
cause_later before mid now later (faults.Crossed zone inode other) cause = tt
cause_later before mid now later (faults.Unmarked zone) cause = tt
cause_later before mid now later (faults.UnmarkedInode inode) cause = tt
cause_later before mid now later (faults.BadLink directory place) cause = tt
cause_later before mid now later (faults.FewLinks inode) cause = tt
cause_later before mid now later faults.TooDeep cause = tt
cause_later before mid now later (faults.Tree fault) cause = tree_later before mid now later fault cause
cause_later before mid now later faults.Memory cause = tt

-- a refusal, where another list is refused alike
zone_kept : {A B : Type 0} (fault : ZoneFault) (one : Result A Refusal) (other : Result B Refusal) → ((refusal : Refusal) → one ≡ Err refusal → other ≡ Err refusal) → RefusesZone fault one → RefusesZone fault other
zone_kept (zones.Layout fault) one other kept refused = kept _ refused
zone_kept (zones.ZoneOutside zone) one other kept refused = kept _ refused
zone_kept zones.Device one other kept refused = tt

tree_kept : {A B : Type 0} (fault : TreeFault) (one : Result A Refusal) (other : Result B Refusal) → ((refusal : Refusal) → one ≡ Err refusal → other ≡ Err refusal) → RefusesTree fault one → RefusesTree fault other
tree_kept (trees.NotFound position) one other kept refused = refused
tree_kept (trees.NotDirectory position) one other kept refused = (refused.0, kept _ refused.1)
tree_kept trees.NotFile one other kept refused = refused
tree_kept trees.TooManyLinks one other kept refused = refused
tree_kept (trees.BadEntry directory) one other kept refused = refused
tree_kept trees.PathTooLong one other kept refused = refused
tree_kept (trees.Zone fault) one other kept refused = zone_kept fault one other kept refused
tree_kept trees.Memory one other kept refused = refused

pub refuses_kept : {A B : Type 0} (fault : SurveyFault) (one : Result A Refusal) (other : Result B Refusal) → ((refusal : Refusal) → one ≡ Err refusal → other ≡ Err refusal) → Refuses fault one → Refuses fault other
refuses_kept (faults.Crossed zone inode second) one other kept refused = kept _ refused
refuses_kept (faults.Unmarked zone) one other kept refused = kept _ refused
refuses_kept (faults.UnmarkedInode inode) one other kept refused = kept _ refused
refuses_kept (faults.BadLink directory place) one other kept refused = kept _ refused
refuses_kept (faults.FewLinks inode) one other kept refused = kept _ refused
refuses_kept faults.TooDeep one other kept refused = kept _ refused
refuses_kept (faults.Tree fault) one other kept refused = tree_kept fault one other kept refused
refuses_kept faults.Memory one other kept refused = tt

-- a step leaves a refusal the first one
abbrev pub KeepsRefusals : (Surveyable → List Met → List Met) → Type 0
KeepsRefusals step = (volume : Surveyable) (met : List Met) (refusal : Refusal) → judged volume met ≡ Err refusal → judged volume (step volume met) ≡ Err refusal

module _ {D : Type 0} {disks : Ghosts D} where
  pub same_then : (old mid new : Volume D disks) → SameVolume old mid → SameVolume mid new → SameVolume old new
  same_then old mid new first second = record {
    same_disks = record {
      same_past = second.same_disks.same_past ∙ first.same_disks.same_past;
      same_size = second.same_disks.same_size ∙ first.same_disks.same_size;
      same_count = second.same_disks.same_count ∙ first.same_disks.same_count;
      same_geometry = second.same_disks.same_geometry ∙ first.same_disks.same_geometry;
    };
    same_span = second.same_span ∙ first.same_span;
    same_layout = second.same_layout ∙ first.same_layout;
    same_reference = second.same_reference ∙ first.same_reference;
  }

  pub same_refl : (volume : Volume D disks) → SameVolume volume volume
  same_refl volume = record {
    same_disks = record { same_past = refl; same_size = refl; same_count = refl; same_geometry = refl };
    same_span = refl;
    same_layout = refl;
    same_reference = refl;
  }

  pub same_back : (old new : Volume D disks) → SameVolume old new → SameVolume new old
  same_back old new same = record {
    same_disks = record {
      same_past = sym same.same_disks.same_past;
      same_size = sym same.same_disks.same_size;
      same_count = sym same.same_disks.same_count;
      same_geometry = sym same.same_disks.same_geometry;
    };
    same_span = sym same.same_span;
    same_layout = sym same.same_layout;
    same_reference = sym same.same_reference;
  }

  -- a step, and another one
  pub then_steps : (old mid new : Volume D disks) (one two three : Tables) (result : Result (Unit {0}) SurveyFault) (first second : Surveyable → List Met → List Met)
      → Steps old mid one two (Ok tt) first → Steps mid new two three result second → Steps old new one three result (λ volume met. second volume (first volume met))
  then_steps old mid new one two three result first second before after = record {
    meets = told_both
        (past_of old)
        (λ now here there met tells good. let so = here met tells good in there (first (seen_in old now) met) so.1 so.0)
        before.meets
        (told_back
        old
        mid
        (λ volume now. Meets result two three (second (surveyable volume.layout (parts_of volume now))) (surveyable volume.layout (parts_of volume now)))
        before.same
        after.meets);
    cause = if_err
        result
        (cause_later (faults_of old) (faults_of mid) (faults_of new) before.later)
        after.cause;
    later = omega (arith, before.later, after.later);
    same = same_then old mid new before.same after.same;
  }

  -- a step that was refused, and others that aren't made
  pub stop_steps : (old new : Volume D disks) (one two : Tables) (fault : SurveyFault) (first second : Surveyable → List Met → List Met)
      → Steps old new one two (Err fault) first → KeepsRefusals second → Steps old new one two (Err fault) (λ volume met. second volume (first volume met))
  stop_steps old new one two fault first second before keeps = record {
    meets = told_one
        (past_of old)
        (λ now here met tells good. refuses_kept fault _ _ (keeps (seen_in old now) (first (seen_in old now) met)) (here met tells good))
        before.meets;
    cause = before.cause;
    later = before.later;
    same = before.same;
  }

  -- a step that reads no disk
  pub alone_steps : (old : Volume D disks) (one two : Tables) (result : Result (Unit {0}) SurveyFault) (step : Surveyable → List Met → List Met)
      → ((volume : Surveyable) → Meets result one two (step volume) volume) → IfErr result (HasSurveyCause (faults_of old) (faults_of old)) → Steps old old one two result step
  alone_steps old one two result step meets cause = record {
    meets = told_any (past_of old) (λ now. Meets result one two (step (seen_in old now)) (seen_in old now)) (λ now. meets (seen_in old now));
    cause = cause;
    later = omega arith;
    same = same_refl old;
  }

  -- a step by what one call read
  pub one_step : (old new : Volume D disks) (one two : Tables) (result : Result (Unit {0}) SurveyFault) (step : Surveyable → List Met → List Met) (F : Image → Type 0)
      → Told (past_of old) F → ((now : Image) → F now → Meets result one two (step (seen_in old now)) (seen_in old now))
      → IfErr result (HasSurveyCause (faults_of old) (faults_of new)) → faults_of old ≤ faults_of new → SameVolume old new → Steps old new one two result step
  one_step old new one two result step F fact meets cause later same = record {
    meets = told_one (past_of old) meets fact;
    cause = cause;
    later = later;
    same = same;
  }

  -- a step that was refused, in other words
  pub stop_as : (old new : Volume D disks) (one two : Tables) (fault : SurveyFault) (first second : Surveyable → List Met → List Met)
      → ((now : Image) (met : List Met) (refusal : Refusal) → Tells one met → judged (seen_in old now) (first (seen_in old now) met) ≡ Err refusal → judged (seen_in old now) (second (seen_in old now) met) ≡ Err refusal)
      → Steps old new one two (Err fault) first → Steps old new one two (Err fault) second
  stop_as old new one two fault first second keeps steps = record {
    meets = told_one
        {A = λ now. Meets (Err fault) one two (first (seen_in old now)) (seen_in old now)}
        {B = λ now. Meets (Err fault) one two (second (seen_in old now)) (seen_in old now)}
        (past_of old)
        (λ now here met tells good. refuses_kept fault _ _ (λ refusal. keeps now met refusal tells) (here met tells good))
        steps.meets;
    cause = steps.cause;
    later = steps.later;
    same = steps.same;
  }

  -- a step in other words
  pub steps_as : (old new : Volume D disks) (one two : Tables) (result : Result (Unit {0}) SurveyFault) (first second : Surveyable → List Met → List Met) (F : Image → Type 0)
      → Told (past_of old) F → ((now : Image) (met : List Met) → F now → Tells one met → first (seen_in old now) met ≡ second (seen_in old now) met)
      → Steps old new one two result first → Steps old new one two result second
  steps_as old new one two result first second F fact same steps = record {
    meets = told_both
        {A = F}
        {B = λ now. Meets result one two (first (seen_in old now)) (seen_in old now)}
        {C = λ now. Meets result one two (second (seen_in old now)) (seen_in old now)}
        (past_of old)
        (λ now so here met tells good. subst (λ m. Answers result two (seen_in old now) m) (same now met so tells) (here met tells good))
        fact
        steps.meets;
    cause = steps.cause;
    later = steps.later;
    same = steps.same;
  }

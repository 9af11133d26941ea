-- What is left after a survey, which changed nothing.
use Rattle.std.proofs.Common.{◌≡◌, ◌≤◌, ℕ, true, List, Option, Result, Ok, Err, OnOk, IfErr, refl, sym, subst, subst₂}
use Rattle.std.specs.Prelude.{IsErr}
use Rattle.disk_trait.specs.declared.disks.Disks.{Ghosts}
use Rattle.disk_trait.specs.Past.{Image, Past, Told}
use Rattle.disk_trait.specs.Moments.{IsTold, now, LeavesOnly, IsQuiet}
use Rattle.disk_trait.specs.NotWritten.{NotWritten}
use Rattle.disk_trait.proofs.CallLemmas.{goes_on_join}
use Rattle.disk_trait.proofs.MomentLemmas.{leaves_none}
use Rattle.disk_trait.proofs.NotWrittenLemmas.{not_written_none}
use Rattle.disk_trait.proofs.ToldLemmas.{told_map, told_all}
use Rattle.lilo_model.proofs.RoseLemmas.{rose_after}
use Rattle.lilo_model.specs.MinixLayout.{Super}
use Rattle.lilo_model.specs.MinixNames.{IsSound}
use Rattle.lilo_model.specs.MinixParts as model
use Rattle.lilo_model.specs.MinixParts.{Parts, parts_of}
use Rattle.lilo_model.specs.MinixSurvey as refusals
use Rattle.lilo_model.specs.MinixSurvey.{Met, survey}
use Rattle.ldisk_model.specs.Waste.{IsReclaiming, IsReclaimed}
use Rattle.minix_steps.proofs.StepLemmas.{same_view}
use Rattle.minix_survey.specs.declared.survey_fault.SurveyFault.{SurveyFault}
use Rattle.minix_survey.specs.declared.survey_fault.SurveyFault.TheVariants as surveys
use Rattle.minix_survey.specs.Step.{OfVolume, Finds}
use Rattle.minix_survey.specs.View.{Refuses, HasSurveyCause}
use Rattle.minix_tree.specs.declared.tree_fault.TreeFault.TheVariants as trees
use Rattle.minix_zones.specs.declared.zone_fault.ZoneFault.TheVariants as zones
use Rattle.minix_zones.specs.Volume.{volume_view, past_of, faults_of, SameVolume}
use Rattle.minix_zones.specs.declared.volume.Volume.{Volume}
use Rattle.minix_zones.proofs.WriteLemmas.{keeps_same, keeps_join, goes_on_unchanged}
use Rattle.minix_reclaim.specs.declared.fault.ReclaimFault.{ReclaimFault}
use Rattle.minix_reclaim.specs.declared.fault.ReclaimFault.TheVariants.{Survey, Device, Memory}
use Rattle.minix_reclaim.specs.declared.waste.Freed.{Freed}
use Rattle.minix_reclaim.specs.Cleared.{IsOffBitmaps}
use Rattle.ldisk_model.specs.Laid.{IsLaid}
use Rattle.minix_reclaim.specs.Reclaim.{reclaim_fault, is_refusal, HasReclaimCause, Answers, Reclaims}
use Rattle.minix_reclaim.proofs.ClearedLemmas.{cleared_none, reclaiming_law}

module _ {D : Type 0} {disks : Ghosts D} (old mid : Volume D disks) (same : SameVolume old mid) (later : faults_of old ≤ faults_of mid) where
  past : past_of mid ≡ past_of old
  past = same.same_disks.same_past

  view : volume_view mid ≡ volume_view old
  view = same_view old mid (keeps_same old mid same)

  -- what holds of the volume that was surveyed holds of it after
  pub of_after : (Is : Super → Parts → Type 0) → OfVolume old Is → OfVolume mid Is
  of_after Is of =
      let P : model.Volume → Option Past → Type 0 = λ v p. Told p (λ i. Is v.layout (parts_of v i)) in
      subst₂ P (sym view) (sym past) of

  cause-after : (new : Volume D disks) (result : Result Freed ReclaimFault) → IfErr result (HasReclaimCause (faults_of mid) (faults_of new)) → IfErr result (HasReclaimCause (faults_of old) (faults_of new))
  cause-after new (Ok freed) cause = tt
  cause-after new (Err (Survey fault)) cause = tt
  cause-after new (Err Device) cause = rose_after (faults_of old) (faults_of mid) (faults_of new) later cause
  cause-after new (Err Memory) cause = tt

  -- what was done after it
  pub reclaims_after : (new : Volume D disks) (result : Result Freed ReclaimFault) → Reclaims mid new result → Reclaims old new result
  reclaims_after new result done =
      let A : model.Volume → Option Past → Type 0 = λ v p. Told p (λ i. Answers result v i (survey v.layout (parts_of v i))) in
      let M : model.Volume → Option Past → Type 0 = λ v p. IsQuiet p → IsSound v (now p) → LeavesOnly p (past_of new) (IsReclaiming v (now p)) in
      let N : model.Volume → Option Past → Type 0 = λ v p. IsTold p → IsLaid v (now p) → OnOk result (IsReclaimed v (now p) (now (past_of new))) in
      let R : Option Past → Type 0 = λ p. IfErr result (λ fault. is_refusal fault ≡ true → past_of new ≡ p) in
      let U : model.Volume → Option Past → Type 0 = λ v p. Told p (λ i. IsErr (survey v.layout (parts_of v i)) → past_of new ≡ p) in
      let O : model.Volume → Option Past → Type 0 = λ v p. (d s : ℕ) → IsOffBitmaps v d s → NotWritten p (past_of new) d s in
      record {
        answers = subst₂ A view past done.answers;
        any_moment = subst₂ M view past done.any_moment;
        done = subst₂ N view past done.done;
        quiet = done.quiet;
        refused = subst R past done.refused;
        unwritten = subst₂ U view past done.unwritten;
        outside = subst₂ O view past done.outside;
        cause = cause-after new result done.cause;
        goes_on = goes_on_join disks old.disks.now mid.disks.now new.disks.now (goes_on_unchanged old mid same later) done.goes_on;
        kept = keeps_join old mid new (keeps_same old mid same) done.kept;
      }

  -- ---- it refused

  -- a survey that refused is an error
  is-err : (found : Result (List Met) refusals.SurveyFault) (why : refusals.SurveyFault) → found ≡ Err why → IsErr found
  is-err found why is = rw is refl

  answer-by : (fault : SurveyFault) (volume : model.Volume) (image : Image) (found : Result (List Met) refusals.SurveyFault) → Refuses fault found → Answers (Err (reclaim_fault fault)) volume image found
  answer-by (surveys.Crossed zone inode other) volume image found refuses = (refuses, is-err found _ refuses)
  answer-by (surveys.Unmarked zone) volume image found refuses = (refuses, is-err found _ refuses)
  answer-by (surveys.UnmarkedInode inode) volume image found refuses = (refuses, is-err found _ refuses)
  answer-by (surveys.BadLink directory place) volume image found refuses = (refuses, is-err found _ refuses)
  answer-by (surveys.FewLinks inode) volume image found refuses = (refuses, is-err found _ refuses)
  answer-by surveys.TooDeep volume image found refuses = (refuses, is-err found _ refuses)
  answer-by (surveys.Tree (trees.NotFound position)) volume image found refuses = absurd refuses
  answer-by (surveys.Tree (trees.NotDirectory position)) volume image found refuses = (refuses, is-err found _ refuses.1)
  answer-by (surveys.Tree trees.NotFile) volume image found refuses = absurd refuses
  answer-by (surveys.Tree trees.TooManyLinks) volume image found refuses = absurd refuses
  answer-by (surveys.Tree (trees.BadEntry directory)) volume image found refuses = absurd refuses
  answer-by (surveys.Tree trees.PathTooLong) volume image found refuses = absurd refuses
  answer-by (surveys.Tree (trees.Zone (zones.Layout fault))) volume image found refuses = (refuses, is-err found _ refuses)
  answer-by (surveys.Tree (trees.Zone (zones.ZoneOutside zone))) volume image found refuses = (refuses, is-err found _ refuses)
  answer-by (surveys.Tree (trees.Zone zones.Device)) volume image found refuses = tt
  answer-by (surveys.Tree trees.Memory) volume image found refuses = absurd refuses
  answer-by surveys.Memory volume image found refuses = tt

  cause-by : (fault : SurveyFault) → HasSurveyCause (faults_of old) (faults_of mid) fault → HasReclaimCause (faults_of old) (faults_of mid) (reclaim_fault fault)
  cause-by (surveys.Crossed zone inode other) cause = tt
  cause-by (surveys.Unmarked zone) cause = tt
  cause-by (surveys.UnmarkedInode inode) cause = tt
  cause-by (surveys.BadLink directory place) cause = tt
  cause-by (surveys.FewLinks inode) cause = tt
  cause-by surveys.TooDeep cause = tt
  cause-by (surveys.Tree (trees.NotFound position)) cause = tt
  cause-by (surveys.Tree (trees.NotDirectory position)) cause = tt
  cause-by (surveys.Tree trees.NotFile) cause = tt
  cause-by (surveys.Tree trees.TooManyLinks) cause = tt
  cause-by (surveys.Tree (trees.BadEntry directory)) cause = tt
  cause-by (surveys.Tree trees.PathTooLong) cause = tt
  cause-by (surveys.Tree (trees.Zone (zones.Layout fault))) cause = tt
  cause-by (surveys.Tree (trees.Zone (zones.ZoneOutside zone))) cause = tt
  cause-by (surveys.Tree (trees.Zone zones.Device)) cause = cause
  cause-by (surveys.Tree trees.Memory) cause = absurd cause
  cause-by surveys.Memory cause = tt

  pub reclaims_refused : (fault : SurveyFault) → OfVolume old (Finds (Err fault)) → HasSurveyCause (faults_of old) (faults_of mid) fault → Reclaims old mid (Err (reclaim_fault fault))
  reclaims_refused fault refuses cause =
      let V : model.Volume = volume_view old in
      let I : Image = now (past_of old) in
      record {
        answers = told_map (past_of old) (λ i. Refuses fault (survey V.layout (parts_of V i))) (λ i. Answers (Err (reclaim_fault fault)) V i (survey V.layout (parts_of V i)))
            (λ i. answer-by fault V i (survey V.layout (parts_of V i))) refuses;
        any_moment = λ quiet sound.
            let P : Image → Type 0 = IsReclaiming V I in
            let L : Option Past → Type 0 = λ p. LeavesOnly (past_of old) p P in
            subst L (sym past) (leaves_none (past_of old) P (λ c may. subst P (sym (quiet c may)) (reclaiming_law V I I sound (cleared_none V I sound))));
        done = λ told laid. tt;
        quiet = tt;
        refused = λ is. past;
        unwritten = told_all (past_of old) (λ i. IsErr (survey V.layout (parts_of V i)) → past_of mid ≡ past_of old) (λ i err. past);
        outside = λ d s off. let N : Option Past → Type 0 = λ p. NotWritten (past_of old) p d s in subst N (sym past) (not_written_none (past_of old) d s);
        cause = cause-by fault cause;
        goes_on = goes_on_unchanged old mid same later;
        kept = keeps_same old mid same;
      }
